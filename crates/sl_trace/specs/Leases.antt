-- A session's work on one resource: its ballots, its block, what it owes. What is asked of a lease is a function of the lease's own
-- list of calls, the newest first, so an entry that brings it no call and no answer changes nothing of it.
use Rattle.sl_area.specs.AreaSizes.{Layout}
use Rattle.sl_area.specs.Pairs.{BlocksRead, blocks_of, needs_again, pair_read, pairs_kept, read_once}
use Rattle.sl_area.specs.TornLeader.{leader_read}
use Rattle.sl_area.specs.AreaLayout.{blocks_part, in_area}
use Rattle.sl_trace.specs.Ballots.{instance_of, is_ahead, owner_of, same_owner, stop_of, value_of}
use Rattle.sl_trace.specs.declared.lease.Instance.{Instance}
use Rattle.sl_trace.specs.declared.lease.Owed.TheVariants.{BallotOwed, FreeOwed, ModeOwed}
use Rattle.sl_trace.specs.declared.lease.Owed.{Owed}
use Rattle.sl_trace.specs.declared.lease.Stop.{Stop}
use Rattle.sl_sector.specs.declared.sector.Block.{Block}
use Rattle.sl_sector.specs.declared.sector.Leader.{Leader}
use Rattle.sl_sector.specs.declared.sector.Owner.{Owner}
use Rattle.sl_sector.specs.declared.sector.PairBlock.{PairBlock}
use Rattle.sl_sector.specs.declared.sector.Rec.TheVariants.{BlockIs, LeaderIs, PairIs, PairLeaderIs, ValueIs}
use Rattle.sl_sector.specs.declared.sector.Rec.{Rec}
use Rattle.sl_sector.specs.declared.sector.ValueRec.{ValueRec}
use Rattle.sl_trace.specs.Sessions.{calls_of, holdings_of, me}
use Rattle.sl_trace.specs.Sightings.{counts_over}
use Rattle.sl_trace.specs.declared.session.Session.{Session}
use Rattle.sl_trace.specs.Traces.{Setting, Submitted, Trace, gave, is_answered_ok, is_heeded, is_orphan, is_shared, outstanding, record_of, same_place, same_spot}
use Rattle.sl_trace.specs.declared.command.ResourceArg.{ResourceArg}
use Rattle.sl_trace.specs.declared.effects.Call.{Call}
use Rattle.sl_trace.specs.declared.effects.Grant.{Grant}
use Rattle.sl_trace.specs.declared.effects.LeaseRead.TheVariants.{OfArea, OfBlock, OfFree, OfPhase1, OfPhase2}
use Rattle.sl_trace.specs.declared.effects.LeaseRead.{LeaseRead}
use Rattle.sl_trace.specs.declared.effects.LeaseStep.TheVariants.{ClearMode, FreeLeader, Phase1Read, Phase1Write, Phase2Read, Phase2Write, ReadAgain, ReadArea, ReadBeforeBlock, ReadBeforeFree, SetMode, TakeLeader}
use Rattle.sl_trace.specs.declared.effects.LeaseStep.{LeaseStep}
use Rattle.sl_trace.specs.declared.effects.Purpose.TheVariants.{Lease}
use Rattle.sl_trace.specs.declared.effects.Purpose.{Purpose}
use Rattle.sl_trace.specs.declared.effects.Spot.{Spot}
use Rattle.sl_trace.specs.declared.effects.Work.{Work}
use Rattle.sl_words.specs.Orders.{is_text_before, put_in}
use Rattle.sl_words.specs.Words.{choose, first_of_list, greatest, present, some_is}
use Rattle.std.specs.List.{list_any}
use Rattle.std.specs.Option.{option_map_or}
use Rattle.std.specs.Prelude.{Bool, List, None, Option, Some, bytes_eq, false, filter, find, if◌then◌else◌, is_some, map, max, nat_lt, not, option_and_then, option_map, slice_get, true, unwrap_or, [], ℕ, ◌%◌, ◌&&◌, ◌-◌, ◌==◌, ◌||◌, ◌∷◌}

-- ---- places

-- The area that a command names.
abbrev pub spot_of : ResourceArg → Spot
spot_of r = record { path = r.path; base = r.offset }

-- Whether an area comes first: by path, then by offset.
abbrev pub is_spot_before : Spot → Spot → Bool
is_spot_before a b = is_text_before a.path b.path || bytes_eq a.path b.path && nat_lt a.base b.base

-- Whether the call is on this area.
abbrev pub is_on : Layout → Spot → Call → Bool
is_on g at c = bytes_eq c.path at.path && in_area g at.base c.offset

-- The area on which a call is.
abbrev pub spot_of_call : Layout → Submitted → Spot
spot_of_call g m = record { path = m.call.path; base = m.call.offset - m.call.offset % g.area }

-- The daemon's unanswered calls on the area, of whatever session and kind, the newest first.
abbrev pub open_on : Setting → Trace → Spot → List Submitted
open_on st es at = filter (λ m. is_on st.layout at m.call) (outstanding es)

-- ---- the calls of a lease

-- For whom a call works on a lease, and at which step.
abbrev pub lease_step : Purpose → Option (Work × LeaseStep)
lease_step (Lease work step) = Some (work, step)
lease_step p = None

-- Whether the call works on a lease.
abbrev pub is_lease_call : Submitted → Bool
is_lease_call m = is_some (lease_step m.call.purpose)

-- The session's calls that work on its lease on this area, the newest first.
abbrev pub lease_calls : Setting → Trace → Session → Spot → List Submitted
lease_calls st es s at = filter (λ m. is_lease_call m && is_on st.layout at m.call) (calls_of es s)

-- These areas, which stand by place, with one more, if it isn't among them.
abbrev pub with_spot : Spot → List Spot → List Spot
with_spot at spots = if list_any (same_spot at) spots then spots else put_in is_spot_before at spots

-- The areas of a session's calls that work on leases, by place.
abbrev pub spots_in : Layout → List Submitted → List Spot
spots_in g [] = []
spots_in g (m ∷ ms) = elim (is_lease_call m) [ false ↦ spots_in g ms | true ↦ with_spot (spot_of_call g m) (spots_in g ms) ]

-- The areas on which the session has leases, by place.
abbrev pub lease_spots : Setting → Trace → Session → List Spot
lease_spots st es s = spots_in st.layout (calls_of es s)

-- The kind of a step, without the name that it may carry.
pub data StepKind : Type 0 where
  Area_read : StepKind
  Phase1_write : StepKind
  Phase1_read : StepKind
  Phase2_write : StepKind
  Phase2_read : StepKind
  Leader_taken : StepKind
  Mode_set : StepKind
  Leader_freed : StepKind
  Mode_cleared : StepKind
  Read_before_free : StepKind
  Read_before_block : StepKind

-- The kind of a read.
abbrev pub kind_of_read : LeaseRead → StepKind
kind_of_read (OfArea name) = Area_read
kind_of_read OfFree = Read_before_free
kind_of_read OfBlock = Read_before_block
kind_of_read OfPhase1 = Phase1_read
kind_of_read OfPhase2 = Phase2_read

-- The kind of a step; a read that is made once more is of the same kind.
abbrev pub kind_of_step : LeaseStep → StepKind
kind_of_step (ReadArea name) = Area_read
kind_of_step ReadBeforeFree = Read_before_free
kind_of_step ReadBeforeBlock = Read_before_block
kind_of_step (ReadAgain read) = kind_of_read read
kind_of_step Phase1Write = Phase1_write
kind_of_step Phase1Read = Phase1_read
kind_of_step Phase2Write = Phase2_write
kind_of_step Phase2Read = Phase2_read
kind_of_step TakeLeader = Leader_taken
kind_of_step SetMode = Mode_set
kind_of_step FreeLeader = Leader_freed
kind_of_step ClearMode = Mode_cleared

-- Whether two kinds are one.
abbrev pub same_kind : StepKind → StepKind → Bool
same_kind Area_read Area_read = true
same_kind Phase1_write Phase1_write = true
same_kind Phase1_read Phase1_read = true
same_kind Phase2_write Phase2_write = true
same_kind Phase2_read Phase2_read = true
same_kind Leader_taken Leader_taken = true
same_kind Mode_set Mode_set = true
same_kind Leader_freed Leader_freed = true
same_kind Mode_cleared Mode_cleared = true
same_kind Read_before_free Read_before_free = true
same_kind Read_before_block Read_before_block = true
same_kind a b = false

-- Whether the call is at a step of this kind.
abbrev pub is_at : StepKind → Submitted → Bool
is_at kind m = some_is (λ p. same_kind (kind_of_step p.1) kind) (lease_step m.call.purpose)

-- Whether the call reads leader, request and blocks.
abbrev pub is_area_read : Submitted → Bool
is_area_read m = is_at Area_read m || is_at Read_before_free m

-- Whether the call reads a ballot's blocks.
abbrev pub is_phase_read : Submitted → Bool
is_phase_read m = is_at Phase1_read m || is_at Phase2_read m

-- Whether the call reads blocks.
abbrev pub is_block_read : Submitted → Bool
is_block_read m = is_area_read m || is_phase_read m || is_at Read_before_block m

-- Whether a step is a read that is made once more.
abbrev pub is_second : LeaseStep → Bool
is_second (ReadAgain read) = true
is_second step = false

-- Whether the call is such a read.
abbrev pub is_again : Submitted → Bool
is_again m = some_is (λ p. is_second p.1) (lease_step m.call.purpose)

-- A block record.
abbrev pub block_of_record : Rec → Option Block
block_of_record (BlockIs b) = Some b
block_of_record (PairIs p) = Some p.block
block_of_record r = None

-- A leader record.
abbrev pub leader_of_record : Rec → Option Leader
leader_of_record (LeaderIs l) = Some l
leader_of_record (PairLeaderIs l) = Some l
leader_of_record r = None

-- A block's turn, where it has one.
abbrev pub turn_of_record : Rec → Option ℕ
turn_of_record (PairIs p) = Some p.turn
turn_of_record r = None

-- A value record.
abbrev pub value_of_record : Rec → Option ValueRec
value_of_record (ValueIs v) = Some v
value_of_record r = None

-- The block that a call writes, if it does.
abbrev pub block_written : Submitted → Option Block
block_written m = option_and_then block_of_record (record_of m.call.op)

-- The leader that a call writes, if it does.
abbrev pub leader_written : Submitted → Option Leader
leader_written m = option_and_then leader_of_record (record_of m.call.op)

-- The value that a call writes, if it does.
abbrev pub value_written : Submitted → Option ValueRec
value_written m = option_and_then value_of_record (record_of m.call.op)

-- The instance of the leader or block that a call writes, and 0.
abbrev pub lver_written : Submitted → ℕ
lver_written m = elim (leader_written m) [ Some l ↦ l.lver | None ↦ option_map_or (λ b. b.lver) (block_written m) 0 ]

-- ---- what its reads gave

-- The bytes of all blocks that a read of the lease gave.
abbrev pub blocks_bytes : Layout → Submitted → Option (List ℕ)
blocks_bytes g m =
    elim (gave m) [
      | None ↦ None
      | Some bytes ↦ elim (is_area_read m) [ true ↦ Some (blocks_part g bytes) | false ↦ choose (is_block_read m) bytes ]
    ]

-- What is kept of the answer of the newest of these calls: a second read follows its first.
abbrev pub kept_before : Layout → List Submitted → Option (List (Option PairBlock))
kept_before g ms = option_map (pairs_kept g) (option_and_then (blocks_bytes g) (first_of_list ms))

-- What is kept of the first read, where the newest of these calls is the second.
abbrev pub first_kept : Layout → List Submitted → List (Option PairBlock)
first_kept g [] = []
first_kept g (m ∷ ms) = elim (is_again m) [ false ↦ [] | true ↦ unwrap_or (kept_before g ms) [] ]

-- What a read gave of all blocks, by whether it is a second one, what was kept of the first one, and its bytes. A read that is to be made
-- once more gives nothing by itself.
abbrev pub given_with : Layout → Bool → Option (List (Option PairBlock)) → Option (List ℕ) → Option BlocksRead
given_with g again kept None = None
given_with g false kept (Some bs) = choose (not (needs_again g bs)) (read_once bs)
given_with g true None (Some bs) = None
given_with g true (Some pairs) (Some bs) = Some (record { kept = pairs; last = bs })

-- What a read gave of all blocks; ms are the calls before it.
abbrev pub read_given : Layout → Submitted → List Submitted → Option BlocksRead
read_given g m ms = given_with g (is_again m) (kept_before g ms) (blocks_bytes g m)

-- The blocks of hosts 1 to N that a read of the lease gave, each if there is one.
abbrev pub blocks_given : Layout → Submitted → List Submitted → Option (List (Option Block))
blocks_given g m ms = option_map (blocks_of g) (read_given g m ms)

-- The leader that a read of the area gave.
abbrev pub leader_given : Layout → Submitted → List Submitted → Option Leader
leader_given g m ms =
    elim (is_area_read m) [
      | false ↦ None
      | true ↦ option_and_then (λ r. option_and_then (λ bytes. leader_read g bytes r) (gave m)) (read_given g m ms)
    ]

-- The leaders that a lease's reads of the area gave, the newest first.
abbrev pub leaders_given : Layout → List Submitted → List Leader
leaders_given g [] = []
leaders_given g (m ∷ ms) = elim (leader_given g m ms) [ None ↦ leaders_given g ms | Some l ↦ l ∷ leaders_given g ms ]

-- The blocks that the session last read on the area: of the lease's last answered read of blocks, whatever it was for.
abbrev pub last_blocks : Layout → List Submitted → List (Option Block)
last_blocks g [] = []
last_blocks g (m ∷ ms) = elim (blocks_given g m ms) [ Some bs ↦ bs | None ↦ last_blocks g ms ]

-- ---- turns

-- The turn that a call writes, if it does.
abbrev pub turn_written : Submitted → Option ℕ
turn_written m = option_and_then turn_of_record (record_of m.call.op)

-- The turn of the own pair that a call shows: that of a block's write that was answered ok, or the greatest that a read gave, each answer
-- by itself.
abbrev pub turn_shown : Layout → ℕ → Submitted → Option ℕ
turn_shown g id m =
    elim (turn_written m) [
      | Some t ↦ choose (is_answered_ok m) t
      | None ↦ elim g.paired [
        | false ↦ None
        | true ↦ option_and_then (λ bs. option_map (λ p. p.turn) (pair_read g bs id)) (blocks_bytes g m)
      ]
    ]

-- The turn that was shown last, and 0 before any; a lease has one call at a time, so the later call was answered later.
abbrev pub base_turn : Layout → ℕ → List Submitted → ℕ
base_turn g id [] = 0
base_turn g id (m ∷ ms) = elim (turn_shown g id m) [ Some t ↦ t | None ↦ base_turn g id ms ]

-- ---- the own block

-- A host's block among those of hosts 1 to N.
abbrev pub block_of_host : List (Option Block) → ℕ → Option Block
block_of_host blocks host = unwrap_or (slice_get blocks (host - 1)) None

-- The block that was last submitted.
abbrev pub block_submitted : List Submitted → Option Block
block_submitted [] = None
block_submitted (m ∷ ms) = elim (block_written m) [ Some b ↦ Some b | None ↦ block_submitted ms ]

-- The own block of a host: the one that it last submitted, else the one that it last read, if that spells one.
abbrev pub own_or_read : ℕ → Option Block → List (Option Block) → Option Block
own_or_read id (Some b) read = Some b
own_or_read id None read = block_of_host read id

-- The own block of a host with these calls.
abbrev pub own_block : Layout → ℕ → List Submitted → Option Block
own_block g id ms = own_or_read id (block_submitted ms) (last_blocks g ms)

-- Whether the leader has these names and the run's number of hosts.
abbrev pub is_leader_of : Layout → List ℕ → List ℕ → Leader → Bool
is_leader_of g lockspace resource l = bytes_eq l.lockspace lockspace && bytes_eq l.resource resource && l.num_hosts == g.hosts

-- The name that an acquire's read of the area must find.
abbrev pub name_sought : Purpose → Option (List ℕ)
name_sought (Lease work (ReadArea name)) = Some name
name_sought (Lease work (ReadAgain (OfArea name))) = Some name
name_sought p = None

-- The resource's name that the read verified: its command's, where the leader that it gave has that and the lockspace's.
abbrev pub verified_by : Layout → List ℕ → Submitted → List Submitted → Option (List ℕ)
verified_by g lockspace m ms =
    elim (name_sought m.call.purpose) [
      | None ↦ None
      | Some name ↦ elim (leader_given g m ms) [ None ↦ None | Some l ↦ choose (is_leader_of g lockspace name l) name ]
    ]

-- The resource's name that the lease writes: that of its last such read.
abbrev pub verified_name : Layout → List ℕ → List Submitted → List ℕ
verified_name g lockspace [] = []
verified_name g lockspace (m ∷ ms) = elim (verified_by g lockspace m ms) [ Some name ↦ name | None ↦ verified_name g lockspace ms ]

-- ---- ballots that ended

-- What stops the ballot of the block that was submitted before this read, in the blocks that the read gave, if it gave any; ms are
-- the calls before the read.
abbrev pub stop_in : Layout → Submitted → List Submitted → Option (Option Stop)
stop_in g m ms = option_and_then (λ own. option_map (stop_of own) (blocks_given g m ms)) (block_submitted ms)

-- The value with which a ballot of this block ended.
abbrev pub value_in_end : Block → Option Stop → Option (ℕ × Owner)
value_in_end own None = Some (own.lver, value_of own)
value_in_end own (Some stop) = None

-- Instance and value of the ballot that a read of phase 2 ended; ms are the calls before it.
abbrev pub ended_ballot : Layout → Submitted → List Submitted → Option (ℕ × Owner)
ended_ballot g m ms =
    elim (is_at Phase2_read m) [
      | false ↦ None
      | true ↦ option_and_then (λ own. option_and_then (λ blocks. value_in_end own (stop_of own blocks)) (blocks_given g m ms)) (block_submitted ms)
    ]

-- All ballots of the lease that ended: instance and value, the newest first.
abbrev pub ended_ballots : Layout → List Submitted → List (ℕ × Owner)
ended_ballots g [] = []
ended_ballots g (m ∷ ms) = elim (ended_ballot g m ms) [ None ↦ ended_ballots g ms | Some p ↦ p ∷ ended_ballots g ms ]

-- The instance that the read won: its ballot ended with the session itself while its work went on.
abbrev pub won_by : Layout → Owner → Submitted → List Submitted → Option ℕ
won_by g self m ms =
    elim (is_heeded m) [ false ↦ None | true ↦ option_and_then (λ p. choose (same_owner p.1 self) p.0) (ended_ballot g m ms) ]

-- Whether the read, while its work went on, concluded the open ballot: it was won or lost, or a block is above it.
abbrev pub concludes : Layout → Submitted → List Submitted → Bool
concludes g m ms =
    elim (is_heeded m && is_phase_read m) [
      | false ↦ false
      | true ↦ elim (stop_in g m ms) [
        | None ↦ false
        | Some stop ↦ elim stop [ None ↦ is_at Phase2_read m | Some why ↦ is_ahead why ]
      ]
    ]

-- The open ballot after one more call, by the instance of the open one before: phase 2 opens one; a conclusion, or a block of another
-- instance, ends it.
abbrev pub ballot_after : Layout → Submitted → List Submitted → Option ℕ → Option ℕ
ballot_after g m ms before =
    elim (block_written m) [
      | Some b ↦ elim (is_at Phase2_write m) [ true ↦ Some b.lver | false ↦ option_and_then (λ n. choose (b.lver == n) n) before ]
      | None ↦ elim (concludes g m ms) [ true ↦ None | false ↦ before ]
    ]

-- The instance of a ballot that submitted phase 2 and isn't concluded; none once the own block is above it.
abbrev pub open_ballot : Layout → List Submitted → Option ℕ
open_ballot g [] = None
open_ballot g (m ∷ ms) = ballot_after g m ms (open_ballot g ms)

-- ---- holdings under the lease

-- The session's holdings on the area.
abbrev pub holdings_on : Trace → Session → Spot → List Grant
holdings_on es s at = filter (λ g. same_place g.path g.offset at.path at.base) (holdings_of es s)

-- The shared one granted first, if any.
abbrev pub shared_on : Trace → Session → Spot → Option Grant
shared_on es s at = find (λ g. is_shared g.mode) (holdings_on es s at)

-- Whether one of them is shared.
abbrev pub has_shared_on : Trace → Session → Spot → Bool
has_shared_on es s at = is_some (shared_on es s at)

-- The exclusive one, if any.
abbrev pub exclusive_on : Trace → Session → Spot → Option Grant
exclusive_on es s at = find (λ g. not (is_shared g.mode)) (holdings_on es s at)

-- The orphan among them, if there is one.
abbrev pub orphan_on : Trace → Session → Spot → Option Grant
orphan_on es s at = find is_orphan (holdings_on es s at)

-- Whether a shared mode may stand in the own block: a block with it was submitted, and no later one without it was answered ok.
abbrev pub may_show_shared : List Submitted → Bool
may_show_shared [] = false
may_show_shared (m ∷ ms) =
    elim (block_written m) [
      | None ↦ may_show_shared ms
      | Some b ↦ elim b.shared [ true ↦ true | false ↦ elim (is_answered_ok m) [ true ↦ false | false ↦ may_show_shared ms ] ]
    ]

-- ---- frees

-- Whether the call writes the leader free, for this instance.
abbrev pub is_free_write : ℕ → Submitted → Bool
is_free_write n m = some_is (λ l. l.lver == n && not l.held) (leader_written m)

-- The instance of the free that a call writes; 0 where it writes none.
abbrev pub freed_by : Submitted → ℕ
freed_by m = option_map_or (λ l. if l.held then 0 else l.lver) (leader_written m) 0

-- The greatest instance of which a free was submitted; 0 where there is none.
abbrev pub freed : List Submitted → ℕ
freed [] = 0
freed (m ∷ ms) = max (freed_by m) (freed ms)

-- Whether the leader is this owner's, of this instance and free.
abbrev pub is_free_of : ℕ → Owner → Leader → Bool
is_free_of n o l = l.lver == n && not l.held && same_owner (owner_of l) o

-- Whether a leader and blocks that were read show that the free of n isn't needed: a leader or block above n, or that free itself. A
-- torn leader counts as none above, torn blocks are passed over.
abbrev pub shows_settled : Owner → ℕ → Option Leader → List (Option Block) → Bool
shows_settled self n leader read =
    some_is (λ l. nat_lt n l.lver || is_free_of n self l) leader || list_any (λ b. nat_lt n b.lver) (present read)

-- Whether a settling's read of the area showed that.
abbrev pub was_settled : Layout → Owner → ℕ → Submitted → List Submitted → Bool
was_settled g self n m ms =
    elim (is_at Read_before_free m) [ false ↦ false | true ↦ some_is (shows_settled self n (leader_given g m ms)) (blocks_given g m ms) ]

-- Whether the call shows that the free of n is done: it is that free, answered ok, or it showed that it isn't needed.
abbrev pub settles_free : Layout → Owner → ℕ → Submitted → List Submitted → Bool
settles_free g self n m ms = is_free_write n m && is_answered_ok m || was_settled g self n m ms

-- The instance that was won last, where its free isn't known to be done: one free is owed at a time.
abbrev pub free_left : Layout → Owner → List Submitted → Option ℕ
free_left g self [] = None
free_left g self (m ∷ ms) =
    elim (won_by g self m ms) [
      | Some n ↦ Some n
      | None ↦ option_and_then (λ n. choose (not (settles_free g self n m ms)) n) (free_left g self ms)
    ]

-- ---- what is known of a lease

-- All that is asked of a lease.
pub record LeaseKnown : Type 0 where
  -- the session as ballots name it
  pub self : Owner
  -- the block that it last submitted
  pub own : Option Block
  -- the blocks that it last read
  pub read : List (Option Block)
  -- what is kept of the first read, where its newest call is the second
  pub kept : List (Option PairBlock)
  -- the turn of its pair that was shown last
  pub turn : ℕ
  -- the resource's name that it has verified
  pub name : List ℕ
  -- the greatest instance of which it submitted a free
  pub freed : ℕ
  -- the instance of its open ballot
  pub ballot : Option ℕ
  -- whether its shared mode may stand in its block
  pub shown : Bool
  -- the instance that it won last, where its free isn't known to be done
  pub won : Option ℕ
  -- whether it holds the resource shared, and under which instance exclusive
  pub shared : Bool
  pub exclusive : Option ℕ
  -- whom it counts as over: an id and a generation
  pub over : ℕ → ℕ → Bool

-- What is known of a lease by its calls, the owner's name and lockspace, its holdings, and whom it counts as over.
abbrev pub known_of : Layout → List ℕ → Owner → Bool → Option ℕ → (ℕ → ℕ → Bool) → List Submitted → LeaseKnown
known_of g lockspace self shared exclusive over ms =
    record {
      self = self;
      own = block_submitted ms;
      read = last_blocks g ms;
      kept = first_kept g ms;
      turn = base_turn g self.id ms;
      name = verified_name g lockspace ms;
      freed = freed ms;
      ballot = open_ballot g ms;
      shown = may_show_shared ms;
      won = free_left g self ms;
      shared = shared;
      exclusive = exclusive;
      over = over;
    }

-- What is known of the session's lease on this area. It is asked only while the session is neither in recovery nor leaving: from then on
-- its leases do nothing more.
unfoldable pub known : Setting → Trace → Session → Spot → LeaseKnown
known st es s at =
    known_of st.layout s.lockspace (me es s) (has_shared_on es s at) (option_map (λ g. g.lver) (exclusive_on es s at)) (counts_over st es s)
    (lease_calls st es s at)

-- The own block: the one last submitted, else the one last read.
abbrev pub own_known : LeaseKnown → Option Block
own_known k = own_or_read k.self.id k.own k.read

-- The mode generation of a block: the session's own where it has the shared mode, else 0.
abbrev pub mode_gen_of : LeaseKnown → ℕ
mode_gen_of k = if k.shared then k.self.generation else 0

-- The free that is owed: of the instance won last, unless it is held under it.
abbrev pub owed_free : LeaseKnown → Option ℕ
owed_free k = option_and_then (λ n. choose (not (some_is (λ e. e == n) k.exclusive)) n) k.won

-- What settling has to do first: an open ballot is run to its end; a mode left over is cleared; an owed free is written.
abbrev pub owed : LeaseKnown → Option Owed
owed k =
    elim k.ballot [
      | Some n ↦ Some (BallotOwed n)
      | None ↦ elim (k.shown && not k.shared) [ true ↦ Some ModeOwed | false ↦ option_map (λ n. FreeOwed n) (owed_free k) ]
    ]

-- Whether the block shows another host's shared mode that isn't counted as over.
abbrev pub is_shared_by_other : LeaseKnown → Block → Bool
is_shared_by_other k b =
    elim (b.host == k.self.id) [ true ↦ false | false ↦ elim b.shared [ false ↦ false | true ↦ not (k.over b.host b.mode_gen) ] ]

-- The least host's block that does.
abbrev pub shared_elsewhere : LeaseKnown → List (Option Block) → Option Block
shared_elsewhere k read = find (is_shared_by_other k) (present read)

-- Whether the leader's owner counts as over.
abbrev pub is_over_owner : LeaseKnown → Leader → Bool
is_over_owner k l = elim l.held [ false ↦ false | true ↦ k.over l.owner l.generation ]

-- The greatest lver of the own block and of the other blocks read.
abbrev pub top_lver : Block → List (Option Block) → ℕ
top_lver own read = greatest (own.lver ∷ map (λ b. b.lver) (filter (λ b. not (b.host == own.host)) (present read)))

-- The instance that an acquire begins after its read of the area, or who holds it.
abbrev pub instance_for : LeaseKnown → Leader → Block → List (Option Block) → Instance
instance_for k l own read = instance_of (is_over_owner k l) k.self l k.freed (top_lver own read)
