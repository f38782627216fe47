-- Each entry of a daemon has its stamp.
use Rattle.sl_run_law.proofs.Course.Daemons.{OnDaemons, daemons_keep, every_has, first_daemons, stepped_daemons, turned_daemons, IsNewest}
use Rattle.sl_run_law.proofs.Course.MachinesKeep.{Goes_on, machines_keep}
use Rattle.sl_run_law.specs.Course.CourseLaws.{EntriesAreStamped}
use Rattle.sl_run_law.specs.Course.CallStamps.{IsStamped}
use Rattle.sl_area.specs.AreaSizes.{layout_with}
use Rattle.sl_run.specs.Runs.{Happening}
use Rattle.sl_run.specs.Safety.{world_at}
use Rattle.sl_run.specs.Worlds.{Daemon, Machine, Program, World, daemons_on, machine_of_header}
use Rattle.sl_run.specs.declared.header.Header.{Header}
use Rattle.std.proofs.Common.{subst, sym}
use Rattle.std.specs.Prelude.{List, ℕ}

keeps : (p : Program) (h : Header) (now : List Happening) (x : Happening) (m : ℕ) (a c : Machine) → Goes_on p h now x m a c → OnDaemons IsStamped a → OnDaemons IsStamped c
keeps p h now x m a c g was =
    let w : World = world_at p h now in
    let b : Machine = g.becomes.middle in
    let turn = daemons_keep w m IsStamped in
    let new = λ (y : Machine) (d : Daemon) (n : IsNewest w m y d). subst IsStamped (sym n.is) tt in
    turn b c (new b) (λ d e s reading k. (reading, k)) (stepped_daemons w x.0 g.effects m b c g.becomes.stepped)
    (turn a b (new a) (λ d e s reading k. (reading, k)) (turned_daemons w x.0 m a b g.settled g.becomes.turned) was)

first : (p : Program) (h : Header) (m : ℕ) → OnDaemons IsStamped (machine_of_header p (layout_with p.digest h.geometry) h m)
first p h m = first_daemons p (layout_with p.digest h.geometry) h m IsStamped (λ s is. tt)

pub entries_are_stamped : EntriesAreStamped
entries_are_stamped p h xs run m a d at has =
    every_has IsStamped (daemons_on a) d (machines_keep p h (λ w n. OnDaemons IsStamped) (first p h) (keeps p h) xs run m a at) has
