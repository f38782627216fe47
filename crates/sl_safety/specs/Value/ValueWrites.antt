-- Writes of a value in flight, and who may have one.
use Rattle.sl_area.specs.AreaLayout.{value_offset}
use Rattle.sl_trace.specs.Leases.{holdings_on}
use Rattle.sl_run.specs.Runs.{Happening}
use Rattle.sl_run.specs.Safety.{Found, IsSession, LawfulRun, SessionId, is_course_of, is_over, trace_of, world_at}
use Rattle.sl_run.specs.Worlds.{Course, Program, World, is_open}
use Rattle.sl_run.specs.declared.header.Header.{Header}
use Rattle.sl_sector.specs.declared.sector.Rec.TheVariants.{ValueIs}
use Rattle.sl_sector.specs.declared.sector.ValueRec.{ValueRec}
use Rattle.sl_trace.specs.Traces.{record_of, same_place}
use Rattle.sl_trace.specs.declared.effects.Grant.{Grant}
use Rattle.sl_trace.specs.declared.effects.Spot.{Spot}
use Rattle.std.specs.Prelude.{Contains, IsFalse, IsTrue, List, Some, ◌≡◌}

-- The session has this write of a value in flight on the resource at this spot.
pub record WritesValue (w : World) (i : SessionId) (f : Found) (at : Spot) (c : Course) : Type 0 where
  pub is : IsSession w i f
  pub has : Contains f.machine.calls c
  pub own : IsTrue (is_course_of i c)
  pub value : ValueRec
  pub writes : record_of c.call.op ≡ Some (ValueIs value)
  pub place : IsTrue (same_place c.call.path c.call.offset at.path (value_offset w.layout at.base))
  pub flies : IsTrue (is_open f.machine c)

-- At most one write of a resource's value is in flight.
abbrev pub OneWritesValue : Type 0
OneWritesValue = (p : Program) (h : Header) (xs : List Happening) → LawfulRun p h xs → (i k : SessionId) (f g : Found) (at : Spot) (c d : Course)
    → WritesValue (world_at p h xs) i f at c → WritesValue (world_at p h xs) k g at d → (i ≡ k) × (c ≡ d)

-- Beside a session that holds the resource no other session has one in flight.
abbrev pub HoldersKeepValues : Type 0
HoldersKeepValues = (p : Program) (h : Header) (xs : List Happening) → LawfulRun p h xs → (i k : SessionId) (f g : Found) (at : Spot) (c : Course) (held : Grant)
    → WritesValue (world_at p h xs) i f at c → IsSession (world_at p h xs) k g → IsFalse (is_over k g)
    → Contains (holdings_on (trace_of g) g.session at) held → i ≡ k
