-- What a machine keeps beside its daemons: which of them is the one since the last restart, and what of its trace the machine has too.
use Rattle.sl_run.specs.Worlds.{Daemon, Machine, World, daemons_on, machine_at, resets_after}
use Rattle.sl_trace.specs.WatchdogConnections.{connections}
use Rattle.sl_trace.specs.Traces.{holdings, is_orphan, orphan_of}
use Rattle.sl_trace.specs.declared.effects.Grant.{Grant}
use Rattle.sl_words.specs.Words.{first_of_list, is_empty}
use Rattle.std.specs.Prelude.{Contains, IsTrue, List, None, Option, Some, false, if◌then◌else◌, length, true, [], ℕ, ◌&&◌, ◌<◌, ◌∷◌, ◌≡◌}

-- The daemon that the machine has had since its last restart, whether it runs or has ended.
abbrev pub since_restart : Machine → Option Daemon
since_restart a = if a.up && a.used then first_of_list (daemons_on a) else None

-- Daemons are numbered in the order in which they began; the newest stands first.
abbrev pub AreNumbered : List Daemon → Type 0
AreNumbered [] = Unit {0}
AreNumbered (d ∷ ds) = (d.number ≡ length ds) × AreNumbered ds

-- Why the machine holds this, where its last daemon's trace holds these and the machine now those: it is one of the trace's, or the orphan
-- of a persistent one of it, whose process has exited since and holds nothing any more.
pub data IsLeft (held now : List Grant) (g : Grant) : Type 0 where
  Held_on : Contains held g → IsLeft held now g
  Orphaned : (h : Grant) → Contains held h → h.persistent ≡ true → g ≡ orphan_of h
      → ((k : Grant) → Contains now k → k.process ≡ h.process → IsTrue (is_orphan k)) → IsLeft held now g

-- The machine beside its daemons.
pub record Mirrors (a : Machine) : Type 0 where
  pub numbered : AreNumbered (daemons_on a)
  -- one that runs is the one since the last restart
  pub running : (d : Daemon) → a.daemon ≡ Some d → since_restart a ≡ Some d
  -- connections outlive a daemon that ended, and no reset
  pub connected : (d : Daemon) → since_restart a ≡ Some d → a.connections ≡ connections d.setting d.trace
  -- a running daemon's holdings are the machine's; after its end processes may exit, and leave orphans
  pub held : (d : Daemon) → a.daemon ≡ Some d → a.holdings ≡ holdings d.trace
  pub left : (d : Daemon) (g : Grant) → since_restart a ≡ Some d → Contains a.holdings g → IsLeft (holdings d.trace) a.holdings g
  pub none : since_restart a ≡ None → (a.connections ≡ []) × (a.holdings ≡ [])
  -- no reset has come since that daemon began, and one since each other began
  pub kept : (d : Daemon) → since_restart a ≡ Some d → resets_after a d.begun.step ≡ []
  pub lost : (d : Daemon) → Contains (daemons_on a) d → (since_restart a ≡ Some d → ⊥) → is_empty (resets_after a d.begun.step) ≡ false

-- What a daemon is made of, in this world.
pub record IsOfWorld (w : World) (m : ℕ) (d : Daemon) : Type 0 where
  pub timing : d.setting.timing ≡ w.header.timing
  pub layout : d.setting.layout ≡ w.layout
  pub machine : d.setting.machine ≡ m
  pub begun : d.begun.step < w.step
  -- only a daemon that runs at first is given sessions
  pub given : (d.number ≡ 0 → ⊥) → d.setting.given ≡ []

-- Daemons of one name are one daemon.
abbrev pub NamesAreApart : World → Type 0
NamesAreApart w = (m n : ℕ) (a b : Machine) (d e : Daemon) → machine_at w m ≡ Some a → machine_at w n ≡ Some b → Contains (daemons_on a) d
    → Contains (daemons_on b) e → d.setting.name ≡ e.setting.name → (m ≡ n) × (d.number ≡ e.number)
