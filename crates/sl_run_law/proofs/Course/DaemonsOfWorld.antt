-- Daemons are made of the header's times and layout, and have begun before now.
use Rattle.sl_area.specs.AreaSizes.{layout_with}
use Rattle.sl_run_law.proofs.Course.Daemons.{IsNewest, OnDaemons, daemons_keep, every_each, every_has, first_daemons, stepped_daemons, turned_daemons}
use Rattle.sl_run_law.proofs.Course.MachinesKeep.{Goes_on, OfMachines, machines_keep}
use Rattle.sl_run_law.specs.Course.Mirrors.{IsOfWorld}
use Rattle.sl_run_law.specs.Course.CourseLaws.{DaemonsAreOfWorld}
use Rattle.sl_run_law.proofs.Front.RunsFromFronts.{run_after}
use Rattle.sl_words.proofs.Numbers.{trans_lt}
use Rattle.sl_run.specs.EventChanges.{with_entry}
use Rattle.sl_run.specs.Runs.{Happening}
use Rattle.sl_run.specs.Safety.{LawfulRun, world_at}
use Rattle.sl_run.specs.Worlds.{Daemon, Machine, Program, Stamp, World, daemons_on, machine_at, machine_of_header, next_numbers, setting_of, stamp_now, new_daemon, world_with}
use Rattle.sl_run.specs.declared.header.Header.{Header}
use Rattle.sl_run_law.proofs.WorldsGoOn.{run_goes}
use Rattle.sl_run_law.specs.WorldsGoOn.{Goes, steps_of_run, time_of_run}
use Rattle.sl_trace.specs.declared.effects.Entry.{Entry}
use Rattle.std.proofs.Common.{ap, arith, refl, subst, sym, ◌∙◌}
use Rattle.std.specs.Prelude.{List, Some, length, [], ℕ, ◌++◌, ◌+◌, ◌<◌, ◌∷◌, ◌≡◌}

-- What the last event of a run leaves of its world.
pub last_goes : (p : Program) (h : Header) (now : List Happening) (x : Happening)
    → Goes (time_of_run (x ∷ [])) (steps_of_run (x ∷ [])) (world_at p h now) (world_at p h (now ++ x ∷ []))
last_goes p h now x =
    subst (Goes (time_of_run (x ∷ [])) (steps_of_run (x ∷ [])) (world_at p h now)) (sym (run_after (world_with p h) now (x ∷ []))) (run_goes (world_at p h now) (x ∷ []))

step_less : (s t k : ℕ) → t ≡ s + ((1 + k) + 0) → s < t
step_less s t k h = omega (arith, h)

-- It takes a step.
pub last_step : (p : Program) (h : Header) (now : List Happening) (x : Happening) → (world_at p h now).step < (world_at p h (now ++ x ∷ [])).step
last_step p h now x = step_less (world_at p h now).step (world_at p h (now ++ x ∷ [])).step (length x.1) (last_goes p h now x).step

-- A world that has gone on from another.
record HasGone (w v : World) : Type 0 where
  header : v.header ≡ w.header
  layout : v.layout ≡ w.layout
  step : w.step < v.step

still_of : (w v : World) (m : ℕ) (d : Daemon) → HasGone w v → IsOfWorld w m d → IsOfWorld v m d
still_of w v m d g h =
    record {
      timing = h.timing ∙ ap (λ (x : Header). x.timing) (sym g.header);
      layout = h.layout ∙ sym g.layout;
      machine = h.machine;
      begun = trans_lt d.begun.step w.step v.step h.begun g.step;
      given = h.given;
    }

newest_of : (w v : World) (m : ℕ) (a : Machine) (d : Daemon) → HasGone w v → IsNewest w m a d → IsOfWorld v m d
newest_of w v m a d g n =
    let made : IsOfWorld v m (new_daemon (length (daemons_on a)) (setting_of w.program w.layout w.header m n.name (next_numbers a) []) (stamp_now w a)) =
    record {
      timing = ap (λ (x : Header). x.timing) (sym g.header);
      layout = sym g.layout;
      machine = refl;
      begun = g.step;
      given = λ other. refl;
    } in
    subst (IsOfWorld v m) (sym n.is) made

one_more : (v : World) (m : ℕ) (d : Daemon) (e : Entry) (s : Stamp) → IsOfWorld v m d → IsOfWorld v m (with_entry e s d)
one_more v m d e s h = record { timing = h.timing; layout = h.layout; machine = h.machine; begun = h.begun; given = h.given }

keeps : (p : Program) (h : Header) (now : List Happening) (x : Happening) (m : ℕ) (a c : Machine) → Goes_on p h now x m a c → OnDaemons (IsOfWorld (world_at p h now) m) a
    → OnDaemons (IsOfWorld (world_at p h (now ++ x ∷ [])) m) c
keeps p h now x m a c g was =
    let w : World = world_at p h now in
    let v : World = world_at p h (now ++ x ∷ []) in
    let b : Machine = g.becomes.middle in
    let goes = last_goes p h now x in
    let gone : HasGone w v = record { header = goes.header; layout = goes.layout; step = last_step p h now x } in
    let turn = daemons_keep w m (IsOfWorld v m) in
    turn b c (λ d. newest_of w v m b d gone) (λ d e s reading. one_more v m d e s) (stepped_daemons w x.0 g.effects m b c g.becomes.stepped)
    (turn a b (λ d. newest_of w v m a d gone) (λ d e s reading. one_more v m d e s) (turned_daemons w x.0 m a b g.settled g.becomes.turned)
    (every_each (IsOfWorld w m) (IsOfWorld v m) (daemons_on a) (λ d. still_of w v m d gone) was))

first : (p : Program) (h : Header) (m : ℕ) → OnDaemons (IsOfWorld (world_with p h) m) (machine_of_header p (layout_with p.digest h.geometry) h m)
first p h m =
    let w : World = world_with p h in
    first_daemons p (layout_with p.digest h.geometry) h m (IsOfWorld w m)
    (λ s is. record { timing = refl; layout = refl; machine = refl; begun = omega arith; given = λ other. absurd (other refl) })

pub of_world_after : (p : Program) (h : Header) (xs : List Happening) → LawfulRun p h xs → OfMachines (λ w m. OnDaemons (IsOfWorld w m)) (world_at p h xs)
of_world_after p h xs run = machines_keep p h (λ w n. OnDaemons (IsOfWorld w n)) (first p h) (keeps p h) xs run

-- Each has begun before now.
pub begun_before : (p : Program) (h : Header) (xs : List Happening) → LawfulRun p h xs → (m : ℕ) (a : Machine) → machine_at (world_at p h xs) m ≡ Some a
    → OnDaemons (λ d. d.begun.step < (world_at p h xs).step) a
begun_before p h xs run m a at =
    every_each (IsOfWorld (world_at p h xs) m) (λ d. d.begun.step < (world_at p h xs).step) (daemons_on a) (λ d k. k.begun) (of_world_after p h xs run m a at)

pub daemons_are_of_world : DaemonsAreOfWorld
daemons_are_of_world p h xs run m a d at has =
    every_has (IsOfWorld (world_at p h xs) m) (daemons_on a) d (of_world_after p h xs run m a at) has
