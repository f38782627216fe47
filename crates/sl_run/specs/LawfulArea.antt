-- When and where a session may write on a resource's area, and read its blocks.
use Rattle.sl_area.specs.AreaSizes.{Layout}
use Rattle.sl_area.specs.AreaLayout.{area_sectors, block_offset, block_sectors, leader_of, leader_offset, pair_offset, request_offset, value_offset}
use Rattle.sl_area.specs.Pairs.{needs_again}
use Rattle.sl_run.specs.LawForms.{EachCall}
use Rattle.sl_trace.specs.Leases.{blocks_bytes, is_again, is_block_read, is_leader_of, is_on, kind_of_step, leaders_given, lease_calls, lease_step, same_kind, spot_of_call}
use Rattle.sl_sector.specs.declared.sector.Leader.{Leader}
use Rattle.sl_sector.specs.SectorLayouts.{is_first_turn}
use Rattle.sl_sector.specs.declared.sector.PairBlock.{PairBlock}
use Rattle.sl_sector.specs.declared.sector.Rec.TheVariants.{BlockIs, DeltaIs, LeaderIs, PairIs, PairLeaderIs, RequestIs, ValueIs}
use Rattle.sl_sector.specs.declared.sector.Rec.{Rec}
use Rattle.sl_trace.specs.Sessions.{calls_of, delta_of_record, is_active, joined_after, open_calls_of}
use Rattle.sl_trace.specs.declared.session.Session.{Session}
use Rattle.sl_trace.specs.Traces.{Setting, Submitted, Trace, gave, is_write, record_of}
use Rattle.sl_trace.specs.declared.effects.Entry.{Entry}
use Rattle.sl_trace.specs.declared.effects.LeaseRead.TheVariants.{OfArea, OfBlock, OfFree, OfPhase1, OfPhase2}
use Rattle.sl_trace.specs.declared.effects.LeaseRead.{LeaseRead}
use Rattle.sl_trace.specs.declared.effects.LeaseStep.TheVariants.{Phase1Read, Phase2Read, ReadAgain, ReadArea, ReadBeforeBlock, ReadBeforeFree}
use Rattle.sl_trace.specs.declared.effects.LeaseStep.{LeaseStep}
use Rattle.sl_trace.specs.declared.effects.Op.TheVariants.{ReadSectors}
use Rattle.sl_trace.specs.declared.effects.Purpose.TheVariants.{RequestRead, RequestWrite, Lease, SeeRequest, ValueRead, ValueWrite}
use Rattle.sl_trace.specs.declared.effects.Purpose.{Purpose}
use Rattle.sl_trace.specs.declared.effects.Spot.{Spot}
use Rattle.sl_words.specs.Words.{first_of_list}
use Rattle.std.specs.Prelude.{Bool, Contains, IsFalse, IsTrue, List, None, Option, Some, false, filter, filter_map, is_some, not, option_and_then, true, [], ℕ, ◌&&◌, ◌||◌, ◌≡◌, ◌⊎◌}

-- Whether a call is work on an area for which the session must be in its best state: all but reads of requests.
abbrev pub is_area_work : Purpose → Bool
is_area_work (Lease work step) = true
is_area_work (RequestRead j) = true
is_area_work (RequestWrite j owner) = true
is_area_work (ValueWrite j) = true
is_area_work (ValueRead j) = true
is_area_work p = false

-- Whether a call writes, or reads blocks.
abbrev pub is_block_work : Submitted → Bool
is_block_work c = is_write c.call.op || is_block_read c

-- Where in the area a record of the session stands; a delta record stands in no area.
abbrev pub record_offset : Setting → Session → Spot → Rec → Option ℕ
record_offset st s at (DeltaIs d) = None
record_offset st s at (LeaderIs l) = Some (leader_offset at.base)
record_offset st s at (BlockIs b) = Some (block_offset st.layout at.base s.id)
record_offset st s at (PairIs p) = Some (pair_offset st.layout at.base s.id (is_first_turn p.turn))
record_offset st s at (PairLeaderIs l) = Some (leader_offset at.base)
record_offset st s at (RequestIs r) = Some (request_offset st.layout at.base)
record_offset st s at (ValueIs v) = Some (value_offset st.layout at.base)

-- Whether a record is one of areas of this kind: with pairs, blocks and leaders are records of their own.
abbrev pub is_of_format : Layout → Rec → Bool
is_of_format g (LeaderIs l) = not g.paired
is_of_format g (BlockIs b) = not g.paired
is_of_format g (PairIs p) = g.paired
is_of_format g (PairLeaderIs l) = g.paired
is_of_format g r = true

-- Whether a call reads an area's leader.
abbrev pub is_leader_read : Purpose → Bool
is_leader_read (Lease work (ReadArea name)) = true
is_leader_read (Lease work ReadBeforeFree) = true
is_leader_read (RequestRead j) = true
is_leader_read p = false

-- The leaders that the session has read on the area.
abbrev pub leaders_read : Setting → Trace → Session → Spot → List Leader
leaders_read st es s at =
    filter_map (λ c. option_and_then (leader_of st.layout) (gave c)) (filter (λ c. is_leader_read c.call.purpose && is_on st.layout at c.call) (calls_of es s))

-- With pairs the session's lease has read there a leader, or one was made there for a torn one.
abbrev pub IsLeaderGiven : Setting → Trace → Session → Spot → Leader → Type 0
IsLeaderGiven st es s at l = (st.layout.paired ≡ true) × Contains (leaders_given st.layout (lease_calls st es s at)) l

-- The session has read there a leader of its lockspace, this resource and the run's hosts.
abbrev pub HasVerified : Setting → Trace → Session → Spot → List ℕ → Type 0
HasVerified st es s at resource =
    (l : Leader) × (Contains (leaders_read st es s at) l ⊎ IsLeaderGiven st es s at l) × IsTrue (is_leader_of st.layout s.lockspace resource l)

-- A write of a record that is no delta record.
pub record LawfulAreaWrite (st : Setting) (es : Trace) (s : Session) (c : Submitted) (r : Rec) : Type 0 where
  -- on another lockspace's area its id and generation name another session
  pub resource : List ℕ
  pub verified : HasVerified st es s (spot_of_call st.layout c) resource
  -- another place is another record's, or another host's
  pub placed : record_offset st s (spot_of_call st.layout c) r ≡ Some c.call.offset
  -- a record of the other kind would count as torn
  pub format : IsTrue (is_of_format st.layout r)
  -- a torn leader is taken for one with the names of a block
  pub named : (p : PairBlock) → r ≡ PairIs p → (p.lockspace ≡ s.lockspace) × (p.resource ≡ resource)

-- The session's unanswered work on the area that writes, or reads its blocks. (Where a command names the place of the
-- session's own lockspace, its delta calls lie there too, and are no part of that work.).
abbrev pub open_block_work : Setting → Trace → Session → Spot → List Submitted
open_block_work st es s at = filter (λ c. is_area_work c.call.purpose && (is_block_work c && is_on st.layout at c.call)) (open_calls_of es s)

-- Whether the record is a delta record.
abbrev pub is_delta_record : Rec → Bool
is_delta_record r = is_some (delta_of_record r)

-- A read of the whole area: leader, request and all blocks.
abbrev pub IsAreaRead : Setting → Spot → Submitted → Type 0
IsAreaRead st at c = (c.call.offset ≡ at.base) × (c.call.op ≡ ReadSectors (area_sectors st.layout))

-- A read of all blocks.
abbrev pub IsBlockRead : Setting → Spot → Submitted → Type 0
IsBlockRead st at c = (c.call.offset ≡ block_offset st.layout at.base 1) × (c.call.op ≡ ReadSectors (block_sectors st.layout))

-- The same of a read that is made once more.
abbrev pub IsReadAgain : Setting → Spot → Submitted → LeaseRead → Type 0
IsReadAgain st at c (OfArea name) = IsAreaRead st at c
IsReadAgain st at c OfFree = IsAreaRead st at c
IsReadAgain st at c OfBlock = IsBlockRead st at c
IsReadAgain st at c OfPhase1 = IsBlockRead st at c
IsReadAgain st at c OfPhase2 = IsBlockRead st at c

-- Whether a lease's reads are at their places; only areas with pairs have some.
abbrev pub IsLeaseRead : Setting → Spot → Submitted → LeaseStep → Type 0
IsLeaseRead st at c (ReadArea name) = IsAreaRead st at c
IsLeaseRead st at c ReadBeforeFree = IsAreaRead st at c
IsLeaseRead st at c ReadBeforeBlock = (st.layout.paired ≡ true) × IsBlockRead st at c
IsLeaseRead st at c (ReadAgain read) = (st.layout.paired ≡ true) × IsReadAgain st at c read
IsLeaseRead st at c Phase1Read = IsBlockRead st at c
IsLeaseRead st at c Phase2Read = IsBlockRead st at c
IsLeaseRead st at c step = IsTrue (is_write c.call.op)

-- A read at its place, by what it is for.
abbrev pub IsRightRead : Setting → Spot → Submitted → Purpose → Type 0
IsRightRead st at c (Lease work step) = IsLeaseRead st at c step
IsRightRead st at c (RequestRead j) = (c.call.offset ≡ at.base) × (c.call.op ≡ ReadSectors 2)
IsRightRead st at c p = Unit {0}

-- A call on an area that is to read reads at its place; another of a lease writes.
abbrev pub LawfulLeaseRead : Setting → Submitted → Type 0
LawfulLeaseRead st c = IsRightRead st (spot_of_call st.layout c) c c.call.purpose

-- Whether two calls of a lease are of one kind.
abbrev pub is_same_read : Submitted → Submitted → Bool
is_same_read a b =
    elim (lease_step a.call.purpose) [
      | None ↦ false
      | Some p ↦ elim (lease_step b.call.purpose) [ None ↦ false | Some q ↦ same_kind (kind_of_step p.1) (kind_of_step q.1) ]
    ]

-- A read that is made once more: the lease's newest call is the first one, of the same kind, in whose answer some host's second sector
-- is torn.
pub record LawfulAgain (st : Setting) (es : Trace) (s : Session) (at : Spot) (c : Submitted) : Type 0 where
  pub first : Submitted
  pub bytes : List ℕ
  -- what is merged must be two answers of one read, with no other call between
  pub newest : (first_of_list (lease_calls st es s at) ≡ Some first) × IsFalse (is_again first)
  pub same : IsTrue (is_same_read first c)
  pub torn : (blocks_bytes st.layout first ≡ Some bytes) × IsTrue (needs_again st.layout bytes)

-- Lawful work on areas.
pub record LawfulArea (st : Setting) (past : Trace) (e : Entry) : Type 0 where
  -- a session that isn't joined may share its generation with another; one in recovery or leaving may be over at any time
  pub active : EachCall st (λ es s c. IsTrue (is_area_work c.call.purpose) → IsTrue (is_active st es s)) past e
  pub writes : EachCall st (λ es s c. (r : Rec) → record_of c.call.op ≡ Some r → IsFalse (is_delta_record r) →
      IsTrue (is_area_work c.call.purpose) × LawfulAreaWrite st es s c r) past e
  -- a late write of the own block would undo a later one, and a read beside it would show the old one
  pub alone : EachCall st (λ es s c. IsTrue (is_block_work c && is_area_work c.call.purpose) → open_block_work st es s (spot_of_call st.layout c) ≡ []) past e
  -- what is taken for a host's block must come from that host's sector
  pub reads : EachCall st (λ es s c. LawfulLeaseRead st c) past e
  -- in a joining it would put the watch in place of the stage that it stands in, and let it decide and claim again
  pub sees : EachCall st (λ es s c. c.call.purpose ≡ SeeRequest → IsTrue (is_some (joined_after es s))) past e
  -- an answer beside which another is not wanted would put an older block in place of a later one
  pub agains : EachCall st (λ es s c. IsTrue (is_again c) → LawfulAgain st es s (spot_of_call st.layout c) c) past e
