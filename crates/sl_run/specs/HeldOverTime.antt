-- What holds of holdings over time, beside safety.
use Rattle.sl_run.specs.Lawful.{Lawful}
use Rattle.sl_run.specs.LawfulEnd.{gives_up, takes_over}
use Rattle.sl_run.specs.EventChanges.{happens}
use Rattle.sl_run.specs.Inputs.{input_of, machine_of}
use Rattle.sl_run.specs.Runs.{EachDaemon, Happening}
use Rattle.sl_run.specs.Safety.{LawfulRun, world_at}
use Rattle.sl_run.specs.Worlds.{Daemon, Machine, Program, World, machine_at}
use Rattle.sl_run.specs.declared.event.Event.TheVariants.{ExitOf, Reset, SpawnedOf}
use Rattle.sl_run.specs.declared.event.Event.{Event}
use Rattle.sl_run.specs.declared.header.Header.{Header}
use Rattle.sl_trace.specs.Traces.{held_by, is_orphan, line_in, same_place}
use Rattle.sl_trace.specs.declared.effects.Grant.{Grant}
use Rattle.std.specs.Prelude.{Contains, IsTrue, List, Some, false, length, option_and_then, true, [], ℕ, ◌++◌, ◌∷◌, ◌≡◌, ◌⊎◌}

-- The event brings the machine's running daemon this line.
abbrev pub IsLineTo : World → Event → ℕ → Daemon → List ℕ → Type 0
IsLineTo w e m d text =
    (machine_of e ≡ m) × (option_and_then line_in (input_of w e) ≡ Some text)
    × ((a : Machine) × (machine_at w m ≡ Some a) × (a.daemon ≡ Some d))

-- The event is a command that gives the holding up.
abbrev pub IsGivingUp : World → Event → ℕ → Grant → Type 0
IsGivingUp w e m g = (d : Daemon) × (text : List ℕ) × IsLineTo w e m d text × IsTrue (gives_up g (d.setting.read text))

-- The holding ends without a follower: it is given up, its machine is reset, its process was not started, or it is not persistent and its
-- process exits.
abbrev pub LetsGo : World → Event → ℕ → Grant → Type 0
LetsGo w e m g =
    IsGivingUp w e m g ⊎ (e ≡ Reset m) ⊎ (e ≡ SpawnedOf m g.process false) ⊎ ((g.persistent ≡ false) × (e ≡ ExitOf m g.process))

-- Why one holding follows another over an event: it is the same process's, as persistent as before; or its process exits, it is
-- persistent, and the follower is the orphan of the place; or it is the orphan, and the follower is that of a process which takes it
-- over, as persistent as its command asks.
abbrev pub HasFollower : World → Event → ℕ → Grant → Grant → Type 0
HasFollower w e m g h =
    ((h.process ≡ g.process) × (h.persistent ≡ g.persistent))
    ⊎ ((e ≡ ExitOf m g.process) × (g.persistent ≡ true) × IsTrue (is_orphan h) × (h.persistent ≡ true))
    ⊎ ((d : Daemon) × (text : List ℕ) × IsLineTo w e m d text × IsTrue (takes_over g h (d.setting.read text)))

-- The machine has this holding.
abbrev pub IsHeldOn : World → ℕ → Grant → Type 0
IsHeldOn w m g = (a : Machine) × (machine_at w m ≡ Some a) × Contains a.holdings g

-- The holding, or its follower, stands after each of these happenings until it is let go.
abbrev pub StaysHeld : World → List Happening → ℕ → Grant → Type 0
StaysHeld w [] m g = IsHeldOn w m g
StaysHeld w (x ∷ xs) m g =
    IsHeldOn w m g
    × (LetsGo w x.0 m g
    ⊎ ((h : Grant) × IsTrue (same_place h.path h.offset g.path g.offset) × HasFollower w x.0 m g h × StaysHeld (happens w x.0 x.1) xs m h))

-- So it is with each holding, from any moment on. Of a persistent one: from its grant until a release, a take-over whose process has
-- ended, or a reset, somebody on the machine holds the resource at every moment. Of a process: it holds from its grant, whatever
-- conversions come between, until it gives the resource up, exits, is not started, or its machine is reset.
abbrev pub HoldingsGoOn : Type 0
HoldingsGoOn =
    (program : Program) (h : Header) (before rest : List Happening) → LawfulRun program h (before ++ rest) →
    EachDaemon Lawful (world_at program h (before ++ rest)) →
    (m : ℕ) (g : Grant) → IsHeldOn (world_at program h before) m g → StaysHeld (world_at program h before) rest m g

-- .. and no process ever holds a resource twice, so a converted lease is held at every moment exactly once. So has each resource at most
-- one orphan on a machine.
abbrev pub HoldersHoldOnce : Type 0
HoldersHoldOnce =
    (program : Program) (h : Header) (xs : List Happening) → LawfulRun program h xs →
    (m : ℕ) (a : Machine) (g : Grant) → machine_at (world_at program h xs) m ≡ Some a → Contains a.holdings g →
    length (held_by a.holdings g.process g.path g.offset) ≡ 1
