-- A child was started, or not: the command that waits for it is answered; one that was not started ends what it held, and where it stood
-- for a term, that is sent.
use Rattle.sl_due.specs.DueInputs.{on_spawned}
use Rattle.sl_due.specs.Steps.{Step, with_input}
use Rattle.sl_host_state.specs.HeardInputs.{heard_start}
use Rattle.sl_host_state.specs.KeptState.{HostState}
use Rattle.sl_host_state.specs.MadeEffects.{with_reply, with_signal}
use Rattle.sl_host_state.specs.HostStands.{Stands}
use Rattle.sl_host_law.specs.StepParts.Exits.{ending}
use Rattle.sl_host_law.specs.Questions.Jobs.{running_in}
use Rattle.sl_trace.specs.Traces.{Child, is_expected}
use Rattle.sl_trace.specs.declared.effects.Signal.TheVariants.{Term}
use Rattle.sl_trace.specs.declared.input.Input.TheVariants.{Spawned, Wake}
use Rattle.sl_trace.specs.declared.reply.Reply.TheVariants.{SpawnFault, Started}
use Rattle.sl_trace.specs.declared.reply.Reply.{Reply}
use Rattle.std.specs.Option.{option_map_or}
use Rattle.std.specs.Prelude.{Bool, None, Option, Some, cond, false, find, is_some, true, [], ℕ, ◌==◌, ◌≡◌}

-- The child of this number that is kept.
abbrev pub child_in : HostState → ℕ → Option Child
child_in h p = find (λ k. k.process == p) h.children

-- The reply that the child runs.
abbrev pub started_in : HostState → ℕ → Reply
started_in h p = Started (option_map_or (λ g. g.lver) (find (λ g. g.process == p) h.holdings) 0) p

-- A job is replied to, where it runs.
abbrev pub replying_if : Option ℕ → Reply → HostState → HostState
replying_if None r h = h
replying_if (Some j) r h = cond (running_in h j) (with_reply j r h) h

-- The term for which the child stood.
abbrev pub terming : Option ℕ → HostState → HostState
terming None h = h
terming (Some q) h = with_signal q Term h

-- The whole, of a child as it was kept before the input, by the host that has heard it.
abbrev pub spawning : ℕ → Bool → Child → HostState → HostState
spawning p true k h = replying_if k.job (started_in h p) h
spawning p false k h = terming k.stands_for (replying_if k.job SpawnFault (ending p h))

-- The state follows the step, where the child is kept, as it is of each start that is answered, and nothing was granted before.
pub record SpawnsAreTaken : Type 0 where
  pub kept : (p : ℕ) (ok : Bool) (h : HostState) (x : Step) → is_expected x.setting x.past (Spawned p ok) ≡ true → Stands Wake h x → is_some (child_in h p) ≡ true
  pub whole : (p : ℕ) (ok : Bool) (k : Child) (h : HostState) (x : Step) → child_in h p ≡ Some k → h.made.grants ≡ [] → Stands Wake h x
      → Stands (Spawned p ok) (spawning p ok k (heard_start p ok h)) (on_spawned p ok (with_input (Spawned p ok) x))
