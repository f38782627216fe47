-- Whose area has a place at moment 0.
use Rattle.sl_run.specs.declared.header.FirstReading.{FirstReading}
use Rattle.sl_area.specs.AreaSizes.{layout_of}
use Rattle.sl_area.specs.AreaLayout.{in_area}
use Rattle.sl_run.specs.declared.header.Header.{Header}
use Rattle.sl_run.specs.declared.header.LockspaceLine.{LockspaceLine}
use Rattle.sl_run.specs.declared.header.ResourceLine.{ResourceLine}
use Rattle.sl_run.specs.declared.header.SessionLine.{SessionLine}
use Rattle.std.specs.Prelude.{List, Option, bytes_eq, find, ℕ, ◌&&◌, ◌==◌}

-- The lockspace whose area has the place.
abbrev pub line_at : Header → List ℕ → ℕ → Option LockspaceLine
line_at h path offset = find (λ l. bytes_eq l.path path && in_area (layout_of h.geometry) l.offset offset) h.lockspaces

-- The resource whose area has the place.
abbrev pub resource_at : Header → List ℕ → ℕ → Option ResourceLine
resource_at h path offset = find (λ r. bytes_eq r.path path && in_area (layout_of h.geometry) r.offset offset) h.resources

-- The session that has this id of the lockspace.
abbrev pub session_of : Header → List ℕ → ℕ → Option SessionLine
session_of h lockspace id = find (λ s. bytes_eq s.lockspace lockspace && s.id == id) h.sessions

-- The line of a machine's clock.
abbrev pub clock_of : Header → ℕ → Option FirstReading
clock_of h m = find (λ c. c.machine == m) h.clocks
