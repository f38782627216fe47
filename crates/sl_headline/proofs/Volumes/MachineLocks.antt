-- What holds of the locks of each machine after each lawful run.
use Rattle.sl_area.specs.AreaSizes.{layout_with}
use Rattle.sl_run.specs.EventChanges.{after_step, first_change, next_step, number_of_step}
use Rattle.sl_run.specs.Locks.{fresh_locks, locks_after}
use Rattle.sl_run.specs.Runs.{Happening}
use Rattle.sl_run.specs.Safety.{LawfulRun, world_at}
use Rattle.sl_run.specs.Worlds.{Machine, Program, Stamp, World, machine_at, machine_of_header, stamp_now, world_with}
use Rattle.sl_run.specs.declared.event.Event.{Event}
use Rattle.sl_run.specs.declared.header.Header.{Header}
use Rattle.sl_run_law.proofs.Course.MachinesKeep.{Goes_on, machines_keep}
use Rattle.sl_run_law.proofs.Course.MachineTurns.{Alone, Began, Called, Came_up, Clocked, Crashed, Elsewhere, Stays, Stepped, Tested, Took, Turned, Went_down}
use Rattle.sl_run_law.proofs.WorldsGoOn.{run_goes}
use Rattle.sl_trace.specs.declared.effects.Effects.{Effects}
use Rattle.sl_trace.specs.declared.input.Input.TheVariants.{Answer as Heard, Exit, Line, Number, Spawned, Wake}
use Rattle.sl_trace.specs.declared.input.Input.{Input}
use Rattle.sl_headline.proofs.Volumes.LocksHold.{LocksHold, left_hold, step_holds}
use Rattle.sl_headline.specs.Volumes.FewAsks.{AsksAreFewInRuns}
use Rattle.sl_words.proofs.CaseLaws.{none_some}
use Rattle.std.proofs.Common.{ap, refl, subst, sym, ◌∙◌}
use Rattle.std.specs.Prelude.{List, Some, ℕ, ◌≡◌, ◌≤◌}

-- The locks of a machine in a world of this header.
abbrev pub MachineHolds : Header → Machine → Type 0
MachineHolds h a = LocksHold h.geometry.area h.retries a.locks

-- ---- first

fresh_hold : (h : Header) → LocksHold h.geometry.area h.retries (fresh_locks h)
fresh_hold h =
    record {
      area_is = refl;
      retries_are = refl;
      fair = λ c is. absurd (none_some c is);
      runs = λ c is. absurd (none_some c is);
      asks = λ c text is due. absurd (none_some c is);
      given = λ n is. absurd (none_some n is);
    }

first_holds : (p : Program) (h : Header) (m : ℕ) → MachineHolds h (machine_of_header p (layout_with p.digest h.geometry) h m)
unfolding machine_of_header
first_holds p h m = fresh_hold h

-- ---- events

-- What an event changes before a step leaves the locks, or makes them anew.
pub data LocksTurn (h : Header) (a b : Machine) : Type 0 where
  Same_locks : b.locks ≡ a.locks → LocksTurn h a b
  New_locks : b.locks ≡ fresh_locks h → LocksTurn h a b

pub locks_turn : (w : World) (e : Event) (m : ℕ) (a b : Machine) → Turned w e m a b → LocksTurn w.header a b
locks_turn w e m a b (Stays is) = Same_locks (ap (λ (x : Machine). x.locks) is)
locks_turn w e m a b (Clocked n is) = Same_locks (ap (λ (x : Machine). x.locks) is)
locks_turn w e m a b (Called n f g flight keeps is) = Same_locks (ap (λ (x : Machine). x.locks) is)
locks_turn w e m a b (Tested s is) = Same_locks (ap (λ (x : Machine). x.locks) is)
locks_turn w e m a b (Began name event up used fresh is) = New_locks (ap (λ (x : Machine). x.locks) is)
locks_turn w e m a b (Crashed event is) = Same_locks (ap (λ (x : Machine). x.locks) is)
locks_turn w e m a b (Went_down event up is) = New_locks (ap (λ (x : Machine). x.locks) is)
locks_turn w e m a b (Came_up event down is) = Same_locks (ap (λ (x : Machine). x.locks) is)

pub step_locks : (now : Stamp) (i : Input) (fx : Effects) (b : Machine) → (after_step now i fx b).locks ≡ (locks_after (number_of_step b) i fx b.locks).0
step_locks now (Line text) fx b = refl
step_locks now (Number text) fx b = refl
step_locks now (Heard n answer) fx b = refl
step_locks now Wake fx b = refl
step_locks now (Exit p) fx b = refl
step_locks now (Spawned p ok) fx b = refl

pub turned_holds : (h : Header) (a b : Machine) → LocksTurn h a b → MachineHolds h a → MachineHolds h b
turned_holds h a b (Same_locks is) k = subst (LocksHold h.geometry.area h.retries) (sym is) k
turned_holds h a b (New_locks is) k = subst (LocksHold h.geometry.area h.retries) (sym is) (fresh_hold h)

stepped_holds : (h : Header) (w : World) (e : Event) (fx : Effects) (m : ℕ) (b c : Machine) → Stepped w e fx m b c → MachineHolds h b → MachineHolds h c
stepped_holds h w e fx m b c (Elsewhere is) k = subst (MachineHolds h) (sym is) k
stepped_holds h w e fx m b c (Alone none here is) k =
    subst (LocksHold h.geometry.area h.retries) (sym (ap (λ (x : Machine). x.locks) is)) (left_hold h.geometry.area h.retries fx b.locks k)
stepped_holds h w e fx m b c (Took i has here is) k =
    let now : Stamp = stamp_now (next_step (first_change e w)) b in
    subst (LocksHold h.geometry.area h.retries) (sym (ap (λ (x : Machine). x.locks) is ∙ step_locks now i fx b))
    (step_holds h.geometry.area h.retries (number_of_step b) i fx b.locks k)

pub header_is : (p : Program) (h : Header) (xs : List Happening) → (world_at p h xs).header ≡ h
header_is p h xs = (run_goes (world_with p h) xs).header

keeps : (p : Program) (h : Header) (now : List Happening) (x : Happening) (m : ℕ) (a c : Machine) → Goes_on p h now x m a c → MachineHolds h a → MachineHolds h c
keeps p h now x m a c g k =
    let w : World = world_at p h now in
    stepped_holds h w x.0 g.effects m g.becomes.middle c g.becomes.stepped
    (turned_holds h a g.becomes.middle (subst (λ y. LocksTurn y a g.becomes.middle) (header_is p h now) (locks_turn w x.0 m a g.becomes.middle g.becomes.turned)) k)

-- So it is with each machine after each lawful run.
pub machines_hold : (p : Program) (h : Header) (xs : List Happening) → LawfulRun p h xs → (m : ℕ) (a : Machine) → machine_at (world_at p h xs) m ≡ Some a → MachineHolds h a
machines_hold p h xs run m a at = machines_keep p h (λ w n. MachineHolds h) (first_holds p h) (keeps p h) xs run m a at

pub asks_are_few : AsksAreFewInRuns
asks_are_few p h xs run m a l mode again compares at is =
    subst (λ (y : Header). again ≤ y.retries) (sym (header_is p h xs)) ((machines_hold p h xs run m a at).fair _ is).0
