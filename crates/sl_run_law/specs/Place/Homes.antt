-- Each area holds its own kind of records: a lockspace's the delta records of its ids, a resource's the leader, request, blocks and value
-- of that resource, each written by a session of its lockspace. Else a session of another lockspace, with the same id and generation,
-- could be taken for one of this.
use Rattle.sl_area.specs.AreaLayout.{delta_offset, in_area}
use Rattle.sl_run_law.specs.Landing.Landings.{IsWrittenBy}
use Rattle.sl_run.specs.LawfulArea.{is_delta_record, record_offset}
use Rattle.sl_run.specs.Runs.{Happening}
use Rattle.sl_run.specs.Safety.{Found, IsSession, LawfulRun, SessionId, is_course_of, setting_in, world_at}
use Rattle.sl_run.specs.Worlds.{Landing, Program, World}
use Rattle.sl_run.specs.declared.header.Header.{Header}
use Rattle.sl_run.specs.declared.header.LockspaceLine.{LockspaceLine}
use Rattle.sl_run.specs.declared.header.ResourceLine.{ResourceLine}
use Rattle.sl_sector.specs.declared.sector.DeltaRec.{DeltaRec}
use Rattle.sl_sector.specs.declared.sector.Leader.{Leader}
use Rattle.sl_sector.specs.declared.sector.PairBlock.{PairBlock}
use Rattle.sl_sector.specs.declared.sector.Rec.TheVariants.{DeltaIs, PairIs}
use Rattle.sl_trace.specs.Leases.{leader_of_record}
use Rattle.std.specs.Prelude.{Contains, IsFalse, IsTrue, List, Some, ℕ, ◌≡◌, ◌≤◌}

-- A landing with its writer's session.
pub record WrittenBySession (w : World) (x : Landing) : Type 0 where
  pub machine : ℕ
  pub call : ℕ
  pub named : x.writer ≡ Some (machine, call)
  pub wrote : IsWrittenBy w x machine call
  pub session : SessionId
  pub found : Found
  pub is : IsSession w session found × (session.machine ≡ machine) × IsTrue (is_course_of session wrote.course)

-- Of a lockspace's area: a delta record of one of its ids, written by a session of that id.
pub record IsDeltaLanding (w : World) (l : LockspaceLine) (x : Landing) : Type 0 where
  pub written : WrittenBySession w x
  pub delta : DeltaRec
  pub spells : written.wrote.record_written ≡ DeltaIs delta
  pub names : (delta.lockspace ≡ l.name) × (x.offset ≡ delta_offset w.layout l.offset delta.id) × (1 ≤ delta.id) × (delta.id ≤ w.layout.hosts)
  pub of_session : (written.found.session.lockspace ≡ l.name) × (written.found.session.id ≡ delta.id) × (written.found.session.path ≡ l.path)
      × (written.found.session.offset ≡ l.offset)

-- In a lockspace's area nothing else lands.
abbrev pub LockspacesHoldDeltas : Type 0
LockspacesHoldDeltas = (p : Program) (h : Header) (xs : List Happening) → LawfulRun p h xs → (l : LockspaceLine) → Contains h.lockspaces l
    → (x : Landing) → Contains (world_at p h xs).landings x → x.path ≡ l.path → IsTrue (in_area (world_at p h xs).layout l.offset x.offset)
    → IsDeltaLanding (world_at p h xs) l x

-- Of a resource's area: no delta record, at its place, written by a session of the resource's lockspace; a leader names the resource, and so
-- does a pair's block.
pub record IsLeaseLanding (w : World) (r : ResourceLine) (x : Landing) : Type 0 where
  pub written : WrittenBySession w x
  pub other : IsFalse (is_delta_record written.wrote.record_written)
  pub lockspace : written.found.session.lockspace ≡ r.lockspace
  pub placed : record_offset (setting_in written.found) written.found.session (record { path = r.path; base = r.offset }) written.wrote.record_written
      ≡ Some x.offset
  pub names : (l : Leader) → leader_of_record written.wrote.record_written ≡ Some l
      → (l.lockspace ≡ r.lockspace) × (l.resource ≡ r.name) × (l.num_hosts ≡ w.layout.hosts)
  pub pairs : (p : PairBlock) → written.wrote.record_written ≡ PairIs p → (p.lockspace ≡ r.lockspace) × (p.resource ≡ r.name)

-- In a resource's area nothing else lands.
abbrev pub ResourcesHoldLeases : Type 0
ResourcesHoldLeases = (p : Program) (h : Header) (xs : List Happening) → LawfulRun p h xs → (r : ResourceLine) → Contains h.resources r
    → (x : Landing) → Contains (world_at p h xs).landings x → x.path ≡ r.path → IsTrue (in_area (world_at p h xs).layout r.offset x.offset)
    → IsLeaseLanding (world_at p h xs) r x

-- Outside the header's areas nothing lands.
pub data IsAtHome (h : Header) (w : World) (x : Landing) : Type 0 where
  In_lockspace : (l : LockspaceLine) → Contains h.lockspaces l → x.path ≡ l.path → IsTrue (in_area w.layout l.offset x.offset) → IsAtHome h w x
  In_resource : (r : ResourceLine) → Contains h.resources r → x.path ≡ r.path → IsTrue (in_area w.layout r.offset x.offset) → IsAtHome h w x

abbrev pub NothingLandsElsewhere : Type 0
NothingLandsElsewhere = (p : Program) (h : Header) (xs : List Happening) → LawfulRun p h xs → (x : Landing)
    → Contains (world_at p h xs).landings x → IsAtHome h (world_at p h xs) x
