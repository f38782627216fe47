-- A fate changes only from in flight.
use Rattle.sl_run.specs.EventChanges.{change_call, fated, first_change, happens, next_input, next_step, sampled_more, take_step, take_steps}
use Rattle.sl_run.specs.Inputs.{machine_of}
use Rattle.sl_run.specs.Refusals.{may_happen, sectors_left}
use Rattle.sl_run.specs.Runs.{Happening, IsRun, world_after}
use Rattle.sl_run.specs.Worlds.{Course, Dropped, Fate, Landed, Machine, Torn, World, flight_of, is_in_flight, is_open, is_write_course, stamp_now}
use Rattle.sl_run.specs.declared.event.Event.{Event}
use Rattle.sl_run_law.proofs.CourseLists.{calls_still, every_of, follow_still}
use Rattle.sl_run_law.proofs.Guards.{drops, lands, tears}
use Rattle.sl_run_law.proofs.CoursesGoOn.{ended_by, told, tracks_changed, tracks_crash, tracks_effects, tracks_further, tracks_step, tracks_still}
use Rattle.sl_run_law.proofs.MachineWalk.{Asked, each_first, each_further, each_step, each_still}
use Rattle.sl_run_law.specs.CoursesGoOn.{Tracks}
use Rattle.sl_run_law.specs.FatesStay.{AreDistinct, DistinctAlong, EachDistinct, Every, KeepsFate}
use Rattle.sl_run_law.specs.Machines.{EachMachine}
use Rattle.sl_trace.specs.declared.effects.Effects.{Effects}
use Rattle.sl_words.proofs.CaseLaws.{none_some, not_both, some_value}
use Rattle.sl_words.proofs.WordLaws.{and_true}
use Rattle.std.proofs.Common.{ap, arith, refl, subst, sym, tests, ◌∙◌}
use Rattle.std.specs.Prelude.{Bool, List, Some, false, find, if◌then◌else◌, true, [], ℕ, ◌&&◌, ◌++◌, ◌==◌, ◌∷◌, ◌≡◌}

-- ---- the one with the number

pub every_map : (P Q : Course → Type 0) (cs : List Course) → ((c : Course) → P c → Q c) → Every P cs → Every Q cs
every_map P Q [] f h = tt
every_map P Q (c ∷ cs) f h = (f c h.0, every_map P Q cs f h.1)

pub record Found (p : Course → Bool) (P : Course → Type 0) (f : Course) : Type 0 where
  pub test : p f ≡ true
  pub holds : P f

found_at : (p : Course → Bool) (P : Course → Type 0) (c : Course) (cs : List Course) (f : Course) (b : Bool) → p c ≡ b → (if b then Some c else find p cs) ≡ Some f
    → P c → (find p cs ≡ Some f → Found p P f) → Found p P f
found_at p P c cs f true is h this rest = let same = some_value c f h in record { test = ap p (sym same) ∙ is; holds = subst P same this }
found_at p P c cs f false is h this rest = rest h

pub found : (p : Course → Bool) (P : Course → Type 0) (cs : List Course) (f : Course) → find p cs ≡ Some f → Every P cs → Found p P f
found p P [] f h e = absurd (none_some f h)
found p P (c ∷ cs) f h e = found_at p P c cs f (p c) refl h e.0 (λ k. found p P cs f k e.1)

same_numbers : (x y n : ℕ) → (x == n) ≡ true → (y == n) ≡ true → (x == y) ≡ true
same_numbers x y n h k = grind (arith, tests)

numbered_at : (q : Course → Bool) (n : ℕ) (P : Course → Type 0) (c : Course) (cs : List Course) (f : Course) (b : Bool) → (c.call.number == n && q c) ≡ b
    → (if b then Some c else find (λ x. x.call.number == n && q x) cs) ≡ Some f → AreDistinct (c ∷ cs) → P f
    → (find (λ x. x.call.number == n && q x) cs ≡ Some f → Every (λ x. (x.call.number == n) ≡ true → P x) cs) → Every (λ x. (x.call.number == n) ≡ true → P x) (c ∷ cs)
numbered_at q n P c cs f true is h d this rest = (
  λ t. subst P (sym (some_value c f h)) this,
  every_map (λ x. (x.call.number == c.call.number) ≡ true → ⊥) (λ x. (x.call.number == n) ≡ true → P x) cs
      (λ x other t. absurd (other (same_numbers x.call.number c.call.number n t (and_true (c.call.number == n) (q c) is).0))) d.0,
)
numbered_at q n P c cs f false is h d this rest =
    let y : Found (λ x. x.call.number == n && q x) (λ x. (x.call.number == c.call.number) ≡ true → ⊥) f =
    found (λ x. x.call.number == n && q x) (λ x. (x.call.number == c.call.number) ≡ true → ⊥) cs f h d.0 in
    (λ t. absurd (y.holds (same_numbers f.call.number c.call.number n (and_true (f.call.number == n) (q f) y.test).0 t)), rest h)

-- What holds of the call in flight holds of all with its number.
pub numbered : (q : Course → Bool) (n : ℕ) (P : Course → Type 0) (cs : List Course) (f : Course) → find (λ x. x.call.number == n && q x) cs ≡ Some f → AreDistinct cs → P f
    → Every (λ x. (x.call.number == n) ≡ true → P x) cs
numbered q n P [] f h d this = tt
numbered q n P (c ∷ cs) f h d this = numbered_at q n P c cs f (c.call.number == n && q c) refl h d this (λ k. numbered q n P cs f k d.1 this)

-- ---- fates

fate_still : (c : Course) → KeepsFate c c
fate_still c = record { fate = λ h. refl }

fate_further : (c d e : Course) → KeepsFate c d → KeepsFate d e → KeepsFate c e
fate_further c d e g h = record { fate = λ x. h.fate (ap is_in_flight (g.fate x) ∙ x) ∙ g.fate x }

fated_from : (x : Fate) (c : Course) → is_in_flight c.fate ≡ true → KeepsFate c (fated x c)
fated_from x c h = record { fate = λ k. absurd (not_both (is_in_flight c.fate) h k) }

now_fated : (x : Fate) (n : ℕ) (a : Machine) (f : Course) → AreDistinct a.calls → flight_of a n ≡ Some f → is_in_flight f.fate ≡ true
    → Tracks KeepsFate a (change_call n (fated x) a)
now_fated x n a f d h flies =
    tracks_changed KeepsFate n (fated x) a fate_still
    (every_map (λ c. (c.call.number == n) ≡ true → is_in_flight c.fate ≡ true) (λ c. (c.call.number == n) ≡ true → KeepsFate c (fated x c)) a.calls
    (λ c g t. fated_from x c (g t)) (numbered (is_open a) n (λ c. is_in_flight c.fate ≡ true) a.calls f h d flies))

unfated : (n : ℕ) (f : Course → Course) (a : Machine) → ((c : Course) → (f c).fate ≡ c.fate) → Tracks KeepsFate a (change_call n f a)
unfated n f a h =
    tracks_changed KeepsFate n f a fate_still (every_of (λ c. (c.call.number == n) ≡ true → KeepsFate c (f c)) a.calls (λ c t. record { fate = λ k. h c }))

no_calls : (a b : Machine) → b.calls ≡ a.calls → b.resets ≡ a.resets → b.ended ≡ a.ended → Tracks KeepsFate a b
no_calls a b calls resets ended =
    record {
      calls = record { newer = []; older = a.calls; same = calls; follow = follow_still KeepsFate a.calls fate_still };
      resets = record { newer = []; same = resets };
      ended = record { newer = []; same = ended };
    }

asked : (w : World) (e : Event) → EachDistinct w → may_happen w e ≡ true → Asked (λ m. Tracks KeepsFate) w e
asked w e each may =
    record {
      pass = λ d growths is m a h. no_calls a _ refl refl refl;
      sample = λ m c k is a h. unfated c (sampled_more w k) a (λ x. refl);
      land = λ m c is a f h g t. now_fated Landed c a f (each m a h) g (lands w m c a f (subst (λ x. may_happen w x ≡ true) is may) h g);
      tear = λ m c k bytes is a f h g t. now_fated Torn c a f (each m a h) g (tears w m c k bytes a f (subst (λ x. may_happen w x ≡ true) is may) h g);
      done_read = λ m c is a f h g t. unfated c (sampled_more w (sectors_left f)) a (λ x. refl);
      done_write = λ m c is a f h g t. now_fated Landed c a f (each m a h) g (and_true (is_write_course f) (is_in_flight f.fate) t).1;
      drop_write = λ m c is a h.
          let p = drops w m c a (subst (λ x. may_happen w x ≡ true) is may) h in
          now_fated Dropped c a p.0 (each m a h) p.1 p.2;
      tested = λ m is a h. no_calls a _ refl refl refl;
      start = λ m name is a h. no_calls a _ refl refl refl;
      crash = λ m is a h. tracks_crash KeepsFate a fate_still;
      reset = λ m is a h. record {
        calls = calls_still KeepsFate a.calls fate_still;
        resets = record { newer = stamp_now w a ∷ []; same = refl };
        ended = ended_by a.daemon a.ended;
      };
      restart = λ m is a h. no_calls a _ refl refl refl;
    }

still : (m : ℕ) (a : Machine) → Tracks KeepsFate a a
still m a = tracks_still KeepsFate a fate_still

further : (m : ℕ) (a b c : Machine) → Tracks KeepsFate a b → Tracks KeepsFate b c → Tracks KeepsFate a c
further m a b c g h = tracks_further KeepsFate a b c fate_further g h

steps_keep : (w : World) (e : Event) (before fxs : List Effects) (v : World) → EachMachine (λ m. Tracks KeepsFate) v (take_steps w e before fxs v)
steps_keep w e before [] v = each_still (λ m. Tracks KeepsFate) v still
steps_keep w e before (fx ∷ fxs) v =
    let u : World = take_step (machine_of e) (next_input w e before) fx v in
    each_further (λ m. Tracks KeepsFate) v u (take_steps w e before (fx ∷ fxs) v) further
    (each_step (λ m. Tracks KeepsFate) (machine_of e) (next_input w e before) fx v still
    (λ none a h. tracks_effects KeepsFate (stamp_now v a) fx a fate_still)
    (λ i is a h. tracks_step KeepsFate (stamp_now v a) i fx a fate_still fate_further
    (λ n ok t. every_of (λ c. (c.call.number == n) ≡ true → KeepsFate c (told (stamp_now v a) ok c)) a.calls (λ c q. record { fate = λ k. refl }))))
    (steps_keep w e (before ++ fx ∷ []) fxs u)

pub event_fates : (w : World) (e : Event) (fxs : List Effects) → EachDistinct w → may_happen w e ≡ true → EachMachine (λ m. Tracks KeepsFate) w (happens w e fxs)
event_fates w e fxs each may =
    let u : World = first_change e w in
    each_further (λ m. Tracks KeepsFate) w (next_step u) (happens w e fxs) further (each_first (λ m. Tracks KeepsFate) e w (λ none. still) (asked w e each may))
    (steps_keep w e [] fxs (next_step u))

pub run_fates : (w : World) (xs : List Happening) → DistinctAlong w xs → IsRun w xs → EachMachine (λ m. Tracks KeepsFate) w (world_after w xs)
run_fates w [] along run = each_still (λ m. Tracks KeepsFate) w still
run_fates w (x ∷ xs) along run =
    each_further (λ m. Tracks KeepsFate) w (happens w x.0 x.1) (world_after w (x ∷ xs)) further (event_fates w x.0 x.1 along.0 run.0)
    (run_fates (happens w x.0 x.1) xs along.1 run.2)
