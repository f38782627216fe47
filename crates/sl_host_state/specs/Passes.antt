-- Parts of a step put together: one after another, where a test holds, for each of a list. A pass is over the list as it was when it
-- began, whatever its parts do to what is kept.
use Rattle.sl_due.specs.DueWake.{for_sessions}
use Rattle.sl_due.specs.Steps.{Step, for_each, when}
use Rattle.sl_host_state.specs.KeptState.{HostState}
use Rattle.sl_host_state.specs.HostStands.{Takes}
use Rattle.sl_trace.specs.declared.session.Session.{Session}
use Rattle.sl_trace.specs.Traces.{Job}
use Rattle.sl_trace.specs.declared.effects.Grant.{Grant}
use Rattle.sl_trace.specs.declared.effects.Spot.{Spot}
use Rattle.std.specs.Prelude.{Bool, List, Some, false, length, map, slice_get, take, true, ℕ, ◌+◌, ◌≡◌}

-- The host has taken a pass for the first k of a list.
abbrev pub TakesFirst : {A : Type 0} → (A → Step → Step) → List A → ℕ → HostState → HostState → Type 0
TakesFirst f xs k old new = Takes old new (for_each (take k xs) f)

-- The sessions of a host.
abbrev pub whos : HostState → List Session
whos h = map (λ m. m.who) h.members

-- A pass over a list begins with nothing, goes on by one, and ends with all.
pub record PassesAreTaken (A : Type 0) : Type 0 where
  pub first : (f : A → Step → Step) (xs : List A) (a : HostState) → TakesFirst f xs 0 a a
  pub more : (f : A → Step → Step) (xs : List A) (k : ℕ) (s : A) (a b c : HostState) → TakesFirst f xs k a b → slice_get xs k ≡ Some s → Takes b c (f s)
      → TakesFirst f xs (k + 1) a c
  pub whole : (f : A → Step → Step) (xs : List A) (n : ℕ) (a b : HostState) → n ≡ length xs → TakesFirst f xs n a b → Takes a b (for_each xs f)

-- How parts are put together.
pub record PartsAreTaken : Type 0 where
  pub none : (a : HostState) → Takes a a (λ x. x)
  pub sequence : (f g : Step → Step) (a b c : HostState) → Takes a b f → Takes b c g → Takes a c (λ x. g (f x))
  pub test : (t : Bool) (f : Step → Step) (a b : HostState) → (t ≡ true → Takes a b f) → (t ≡ false → b ≡ a) → Takes a b (when t f)
  pub sessions : PassesAreTaken Session
  -- a pass over the sessions that are there is one over the members
  pub over : (f : Session → Step → Step) (n : ℕ) (a b : HostState) → n ≡ length a.members → TakesFirst f (whos a) n a b → Takes a b (for_sessions f)
  pub jobs : PassesAreTaken Job
  pub processes : PassesAreTaken ℕ
  pub areas : PassesAreTaken Spot
  pub holdings : PassesAreTaken Grant
