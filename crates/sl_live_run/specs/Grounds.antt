-- What a live run begins with.
use Rattle.sl_command.specs.DefaultNames.{default_name_text}
use Rattle.sl_world_state.specs.declared.daemon.Site.{Site}
use Rattle.sl_world_state.specs.FirstKept.{session_of}
use Rattle.sl_live_run.specs.Clocks.{as_first}
use Rattle.sl_live_run.specs.declared.ground.Ground.{Ground}
use Rattle.sl_live_run.specs.declared.ground.Prepared.{Prepared}
use Rattle.sl_live_machine.specs.declared.machine.Parts.{Parts}
use Rattle.sl_outside.specs.Acts.{Tells}
use Rattle.sl_outside.specs.declared.act.Act.{Act}
use Rattle.sl_run.specs.Headers.{IsHeader}
use Rattle.sl_run.specs.Worlds.{clock_reading, first_numbers}
use Rattle.sl_run.specs.declared.header.Header.{Header}
use Rattle.sl_run.specs.declared.header.SessionLine.{SessionLine}
use Rattle.sl_world_law.specs.WorldsStand.{first_site}
use Rattle.std.specs.Prelude.{List, None, Option, Some, length, slice_get, [], ℕ, ◌+◌, ◌≡◌}

-- ---- sites

-- With what the daemon of a machine without a session begins: under a name that these bits gave.
abbrev pub drawn_site : ℕ → ℕ → Site
drawn_site m bits = record { machine = m; name = default_name_text bits; first = first_numbers; given = [] }

-- With what the daemon of machine m begins, whose first session line is this: as the world of a replay begins it, if it has one.
abbrev pub IsSiteOf : Header → ℕ → Option SessionLine → Site → Type 0
IsSiteOf h m (Some l) s = s ≡ first_site h m l
IsSiteOf h m None s = (bits : ℕ) × (s ≡ drawn_site m bits)

-- ---- machines

-- What machine m runs on beside its areas.
pub record RunsOn {C P D A : Type 0} (last : C → ℕ) (running : P → List ℕ) (spawned : P → Option (List Act)) (since fire : D → ℕ)
    (h : Header) (m : ℕ) (p : Parts C P D A) : Type 0 where
  -- its first reading, at which its sessions count as renewed, is what its ticker's clock read last
  pub reading : clock_reading h m ≡ as_first (last p.clocks.ticks)
  pub idle : running p.spawner ≡ []
  pub unasked : Tells (spawned p.spawner) []
  -- its device counts from that reading on
  pub since_then : since p.device ≡ clock_reading h m
  pub fires : fire p.device ≡ h.timing.fire

-- Machine m is ready.
pub record IsReady {C P D A : Type 0} (last : C → ℕ) (running : P → List ℕ) (spawned : P → Option (List Act)) (since fire : D → ℕ)
    (h : Header) (m : ℕ) (s : Site) (p : Parts C P D A) : Type 0 where
  pub machine : s.machine ≡ m
  pub site : IsSiteOf h m (session_of h m) s
  pub parts : RunsOn last running spawned since fire h m p

-- Each is ready, by its place.
abbrev pub AreReady : {V C P D W G A : Type 0} → (C → ℕ) → (P → List ℕ) → (P → Option (List Act)) → (D → ℕ) → (D → ℕ) → Header → List (Prepared V C P D W G A) → Type 0
AreReady {V} {C} {P} {D} {W} {G} {A} last running spawned since fire h ps =
    (k : ℕ) (p : Prepared V C P D W G A) → slice_get ps k ≡ Some p → IsReady last running spawned since fire h (k + 1) p.site p.parts

-- ---- all of them

-- The header is the given one but for its clocks, and a header still; and each of its machines is ready.
pub record IsGroundOf {V C P D W G A : Type 0} (last : C → ℕ) (running : P → List ℕ) (spawned : P → Option (List Act)) (since fire : D → ℕ)
    (h : Header) (g : Ground V C P D W G A) : Type 0 where
  pub lawful : IsHeader g.header
  pub same : g.header ≡ record h { clocks = g.header.clocks }
  pub counted : length g.machines.items ≡ h.machines
  pub ready : AreReady last running spawned since fire g.header g.machines.items
