-- What a lease does next: a decision on what is known of it, on what its newest call was for, and on that call's answer. It names
-- neither a trace nor a step; carrying it out is another matter.
use Rattle.sl_area.specs.AreaSizes.{Layout}
use Rattle.sl_area.specs.Pairs.{BlocksRead, blocks_of, needs_again}
use Rattle.sl_area.specs.TornLeader.{leader_read}
use Rattle.sl_area.specs.AreaLayout.{blocks_part}
use Rattle.sl_trace.specs.Ballots.{ballot_blocks, is_ahead, moded_block, phase1_block, phase2_block, same_owner, stop_of, value_of}
use Rattle.sl_trace.specs.Leases.{LeaseKnown, instance_for, is_leader_of, mode_gen_of, owed, owed_free, own_known, shared_elsewhere}
use Rattle.sl_trace.specs.declared.lease.Aim.TheVariants.{Acquires, Converts, Releases, Settles}
use Rattle.sl_trace.specs.declared.lease.Aim.{Aim}
use Rattle.sl_trace.specs.declared.lease.Instance.TheVariants.{Begins, HeldAlready}
use Rattle.sl_trace.specs.declared.lease.Instance.{Instance}
use Rattle.sl_trace.specs.declared.lease.LeaseNext.TheVariants.{AnswerJob, BecomeExclusive, BecomeShared, GrantJob, ReadFor, Nothing, WriteBlock, WriteLeader}
use Rattle.sl_trace.specs.declared.lease.LeaseNext.{LeaseNext}
use Rattle.sl_trace.specs.declared.lease.Owed.TheVariants.{BallotOwed, FreeOwed, ModeOwed}
use Rattle.sl_trace.specs.declared.lease.Owed.{Owed}
use Rattle.sl_trace.specs.declared.lease.Stop.TheVariants.{BlockAhead, BlockRival, BlockTorn}
use Rattle.sl_trace.specs.declared.lease.Stop.{Stop}
use Rattle.sl_sector.specs.declared.sector.Block.{Block}
use Rattle.sl_sector.specs.declared.sector.Leader.{Leader}
use Rattle.sl_sector.specs.declared.sector.Owner.{Owner}
use Rattle.sl_trace.specs.declared.session.Session.{Session}
use Rattle.sl_trace.specs.Traces.{Setting}
use Rattle.sl_trace.specs.declared.effects.LeaseRead.TheVariants.{OfArea, OfBlock, OfFree, OfPhase1, OfPhase2}
use Rattle.sl_trace.specs.declared.effects.LeaseRead.{LeaseRead}
use Rattle.sl_trace.specs.declared.effects.LeaseStep.TheVariants.{ClearMode, FreeLeader, Phase1Read, Phase1Write, Phase2Read, Phase2Write, ReadAgain, ReadArea, ReadBeforeBlock, ReadBeforeFree, SetMode, TakeLeader}
use Rattle.sl_trace.specs.declared.effects.LeaseStep.{LeaseStep}
use Rattle.sl_trace.specs.declared.effects.Mode.TheVariants.{Exclusive, Shared}
use Rattle.sl_trace.specs.declared.input.Answer.TheVariants.{Failed, Read, Written}
use Rattle.sl_trace.specs.declared.input.Answer.{Answer}
use Rattle.sl_trace.specs.declared.reply.Limited.TheVariants.{Lver as LverLimit, Mbal as MbalLimit, Turn as TurnLimit}
use Rattle.sl_trace.specs.declared.reply.Reply.TheVariants.{Ahead, Done, Held as HeldBy, IoFault, Limit as LimitReached, Rival, Shared as SharedBy, TornBlock, TornLeader, WrongArea}
use Rattle.sl_trace.specs.declared.reply.Reply.{Reply}
use Rattle.sl_words.specs.Bounds.{is_number}
use Rattle.sl_words.specs.Words.{present}
use Rattle.std.specs.Option.{option_map_or}
use Rattle.std.specs.Prelude.{Bool, List, None, Option, Some, false, is_none, not, position, true, ℕ, ◌&&◌, ◌+◌}

-- Where a lease stands.
pub record LeasePlace : Type 0 where
  pub layout : Layout
  pub lockspace : List ℕ

-- Where the leases of a session stand.
abbrev pub lease_place : Setting → Session → LeasePlace
lease_place st s = record { layout = st.layout; lockspace = s.lockspace }

-- A job is refused; a settling stops until a later wake.
abbrev pub refuses : Aim → Reply → LeaseNext
refuses (Acquires mode) r = AnswerJob r
refuses (Converts mode) r = AnswerJob r
refuses Releases r = AnswerJob r
refuses Settles r = Nothing

-- Whether another's shared mode stands in the way: of an exclusive acquire and of a conversion to exclusive alone.
abbrev pub looks_for_shared : Aim → Bool
looks_for_shared (Acquires Exclusive) = true
looks_for_shared (Acquires Shared) = false
looks_for_shared (Converts Exclusive) = true
looks_for_shared (Converts Shared) = false
looks_for_shared Releases = false
looks_for_shared Settles = false

-- The leader that the lease writes, with the names that it has verified.
abbrev pub leader_for : LeasePlace → LeaseKnown → Bool → ℕ → Leader
leader_for p k held n =
    record { held = held; num_hosts = p.layout.hosts; lver = n; generation = k.self.generation; owner = k.self.id; lockspace = p.lockspace; resource = k.name }

-- ---- ballots

-- The block of phase 1, unless a number would pass its limit.
abbrev pub phase1_next : Aim → Block → LeaseNext
phase1_next aim b =
    elim (is_number b.lver) [
      | false ↦ refuses aim (LimitReached LverLimit)
      | true ↦ elim (is_number b.mbal) [ false ↦ refuses aim (LimitReached MbalLimit) | true ↦ WriteBlock Phase1Write b ]
    ]

-- A ballot in n begins: its number is above all that the session knows of the instance.
unfoldable pub begin_next : LeasePlace → LeaseKnown → Aim → ℕ → LeaseNext
begin_next p k aim n =
    elim (own_known k) [
      | None ↦ Nothing
      | Some own ↦ phase1_next aim (phase1_block k.self p.layout.hosts n k.shared (mode_gen_of k) own (present k.read))
    ]

-- What a settling does next.
abbrev pub settle_owed : LeasePlace → LeaseKnown → Option Owed → LeaseNext
settle_owed p k None = Nothing
settle_owed p k (Some (BallotOwed n)) = begin_next p k Settles n
settle_owed p k (Some ModeOwed) = option_map_or (λ own. WriteBlock ClearMode (moded_block own false 0)) k.own Nothing
settle_owed p k (Some (FreeOwed n)) = ReadFor ReadBeforeFree

-- A settling does what is owed first.
unfoldable pub settle_next : LeasePlace → LeaseKnown → LeaseNext
settle_next p k = settle_owed p k (owed k)

-- Whether what is owed is a block.
abbrev pub owes_block : Option Owed → Bool
owes_block None = false
owes_block (Some (BallotOwed n)) = true
owes_block (Some ModeOwed) = true
owes_block (Some (FreeOwed n)) = false

-- A settling begins: with pairs, one that writes a block reads the blocks first, once, for the turn and the next number alone.
unfoldable pub settle_begin : LeasePlace → LeaseKnown → LeaseNext
settle_begin p k = let g : Layout = p.layout in elim (g.paired && owes_block (owed k)) [ true ↦ ReadFor ReadBeforeBlock | false ↦ settle_next p k ]

-- The refusal by what a read of the blocks shows.
abbrev pub stop_reply : Stop → Reply
stop_reply (BlockTorn host) = TornBlock host
stop_reply (BlockAhead host lver) = Ahead host lver
stop_reply (BlockRival host mbal) = Rival host mbal

-- After a stop: a job is refused; a block above the instance concludes the ballot, so a settling goes on; after any other it waits
-- for a wake.
abbrev pub stopped_next : LeasePlace → LeaseKnown → Aim → Stop → LeaseNext
stopped_next p k (Acquires mode) stop = AnswerJob (stop_reply stop)
stopped_next p k (Converts mode) stop = AnswerJob (stop_reply stop)
stopped_next p k Releases stop = AnswerJob (stop_reply stop)
stopped_next p k Settles stop = elim (is_ahead stop) [ true ↦ settle_next p k | false ↦ Nothing ]

-- The block of phase 2, with the mode that the session has now.
abbrev pub phase2_next : LeaseKnown → Block → List (Option Block) → LeaseNext
phase2_next k own read = WriteBlock Phase2Write (moded_block (phase2_block k.self own (ballot_blocks own read)) k.shared (mode_gen_of k))

-- After the read of phase 1, where nothing stops the ballot.
abbrev pub unstopped_next : LeaseKnown → Aim → Block → List (Option Block) → LeaseNext
unstopped_next k aim own read =
    elim (looks_for_shared aim) [
      | false ↦ phase2_next k own read
      | true ↦ elim (shared_elsewhere k read) [
        | Some b ↦ AnswerJob (SharedBy (record { id = b.host; generation = b.mode_gen }))
        | None ↦ phase2_next k own read
      ]
    ]

-- After the read of phase 1.
abbrev pub after_phase1 : LeasePlace → LeaseKnown → Aim → Block → List (Option Block) → Option Stop → LeaseNext
after_phase1 p k aim own read None = unstopped_next k aim own read
after_phase1 p k aim own read (Some stop) = stopped_next p k aim stop

-- A won ballot takes the leader; a settling writes it free.
abbrev pub won_next : LeasePlace → LeaseKnown → Aim → ℕ → LeaseNext
won_next p k (Acquires mode) n = WriteLeader TakeLeader (leader_for p k true n)
won_next p k (Converts mode) n = WriteLeader TakeLeader (leader_for p k true n)
won_next p k Releases n = Nothing
won_next p k Settles n = WriteLeader FreeLeader (leader_for p k false n)

-- A ballot that ended with another: the next instance where that one is over, else a refusal; a settling goes on.
abbrev pub lost_next : LeasePlace → LeaseKnown → Aim → ℕ → Owner → LeaseNext
lost_next p k (Acquires mode) n o =
    elim (k.over o.id o.generation) [ true ↦ begin_next p k (Acquires mode) (n + 1) | false ↦ AnswerJob (HeldBy n o) ]
lost_next p k (Converts mode) n o =
    elim (k.over o.id o.generation) [ true ↦ begin_next p k (Converts mode) (n + 1) | false ↦ AnswerJob (HeldBy n o) ]
lost_next p k Releases n o = Nothing
lost_next p k Settles n o = settle_next p k

-- A ballot of this block ended with its value.
abbrev pub ended_next : LeasePlace → LeaseKnown → Aim → Block → LeaseNext
ended_next p k aim own =
    elim (same_owner (value_of own) k.self) [ true ↦ won_next p k aim own.lver | false ↦ lost_next p k aim own.lver (value_of own) ]

-- After the read of phase 2.
abbrev pub after_phase2 : LeasePlace → LeaseKnown → Aim → Block → Option Stop → LeaseNext
after_phase2 p k aim own None = ended_next p k aim own
after_phase2 p k aim own (Some stop) = stopped_next p k aim stop

-- ---- the read of the area

-- The ballot begins, or the holder is named.
abbrev pub begin_or_refuse : LeasePlace → LeaseKnown → Aim → Instance → LeaseNext
begin_or_refuse p k aim (Begins n) = begin_next p k aim n
begin_or_refuse p k aim (HeldAlready lver owner) = AnswerJob (HeldBy lver owner)

-- Where all spells and the names are right.
abbrev pub whole_area_next : LeasePlace → LeaseKnown → Aim → Leader → List (Option Block) → LeaseNext
whole_area_next p k aim l read = option_map_or (λ own. begin_or_refuse p k aim (instance_for k l own read)) (own_known k) Nothing

-- Where the names are right: a torn block, the own one too, refuses.
abbrev pub named_area_next : LeasePlace → LeaseKnown → Aim → Leader → List (Option Block) → LeaseNext
named_area_next p k aim l read =
    elim (position is_none read) [ Some i ↦ AnswerJob (TornBlock (i + 1)) | None ↦ whole_area_next p k aim l read ]

-- After the read of the area for a job that names this resource: a torn leader, other names, a torn block refuse in this order.
unfoldable pub area_next : LeasePlace → LeaseKnown → Aim → List ℕ → Option Leader → List (Option Block) → LeaseNext
area_next p k aim name leader read =
    elim leader [
      | None ↦ AnswerJob TornLeader
      | Some l ↦ elim (is_leader_of p.layout p.lockspace name l) [
        | false ↦ AnswerJob (WrongArea l.lockspace l.resource l.num_hosts)
        | true ↦ named_area_next p k aim l read
      ]
    ]

-- ---- by the answer of the newest call

-- After a read that gave this leader and these blocks, by its step.
abbrev pub after_read : LeasePlace → LeaseKnown → Aim → Option Leader → List (Option Block) → LeaseStep → LeaseNext
after_read p k aim leader read (ReadArea name) = area_next p k aim name leader read
after_read p k aim leader read ReadBeforeFree = option_map_or (λ n. WriteLeader FreeLeader (leader_for p k false n)) (owed_free k) Nothing
after_read p k aim leader read ReadBeforeBlock = settle_next p k
after_read p k aim leader read Phase1Read = option_map_or (λ own. after_phase1 p k aim own read (stop_of own read)) k.own Nothing
after_read p k aim leader read Phase2Read = option_map_or (λ own. after_phase2 p k aim own (stop_of own read)) k.own Nothing
after_read p k aim leader read step = Nothing

-- Which read a step is, if it is a first one of blocks.
abbrev pub read_of_step : LeaseStep → Option LeaseRead
read_of_step (ReadArea name) = Some (OfArea name)
read_of_step ReadBeforeFree = Some OfFree
read_of_step ReadBeforeBlock = Some OfBlock
read_of_step Phase1Read = Some OfPhase1
read_of_step Phase2Read = Some OfPhase2
read_of_step step = None

-- The step of a read.
abbrev pub step_of_read : LeaseRead → LeaseStep
step_of_read (OfArea name) = ReadArea name
step_of_read OfFree = ReadBeforeFree
step_of_read OfBlock = ReadBeforeBlock
step_of_read OfPhase1 = Phase1Read
step_of_read OfPhase2 = Phase2Read

-- The step that is made, or made once more.
abbrev pub first_step : LeaseStep → LeaseStep
first_step (ReadAgain read) = step_of_read read
first_step step = step

-- The bytes of all blocks in what a read gave, by the step that is made.
abbrev pub part_read : Layout → List ℕ → LeaseStep → List ℕ
part_read g bytes (ReadArea name) = blocks_part g bytes
part_read g bytes ReadBeforeFree = blocks_part g bytes
part_read g bytes step = bytes

-- The read that is made once more: a first one, in whose answer some host's second sector is torn.
abbrev pub asked_again : Layout → List ℕ → LeaseStep → Option LeaseRead
asked_again g bytes step = elim (needs_again g (part_read g bytes step)) [ false ↦ None | true ↦ read_of_step step ]

-- What was read of all blocks by this answer, with what is kept of the first one where it is the second.
abbrev pub heard : Layout → LeaseKnown → List ℕ → LeaseStep → BlocksRead
heard g k bytes step = record { kept = k.kept; last = part_read g bytes (first_step step) }

-- After a read that gave these bytes, by its step.
unfoldable pub after_bytes : LeasePlace → LeaseKnown → Aim → List ℕ → LeaseStep → LeaseNext
after_bytes p k aim bytes step =
    elim (asked_again p.layout bytes step) [
      | Some read ↦ ReadFor (ReadAgain read)
      | None ↦ after_read p k aim (leader_read p.layout bytes (heard p.layout k bytes step)) (blocks_of p.layout (heard p.layout k bytes step)) (first_step step)
    ]

-- The leader of n is taken: exclusive is granted, or the shared holding converted and its mode cleared; shared goes on with the own
-- block's mode.
abbrev pub after_take : LeaseKnown → Aim → ℕ → LeaseNext
after_take k (Acquires Exclusive) n = GrantJob Exclusive n
after_take k (Acquires Shared) n = option_map_or (λ own. WriteBlock SetMode (moded_block own true k.self.generation)) k.own Nothing
after_take k (Converts Exclusive) n = option_map_or (λ own. BecomeExclusive n (moded_block own false 0)) k.own Nothing
after_take k (Converts Shared) n = Nothing
after_take k Releases n = Nothing
after_take k Settles n = Nothing

-- The mode stands: an acquire frees the leader of n before it is granted; a conversion is done, and the leader of the instance that was
-- held is freed after it.
abbrev pub after_moding : LeasePlace → LeaseKnown → Aim → ℕ → LeaseNext
after_moding p k (Acquires mode) n = WriteLeader FreeLeader (leader_for p k false n)
after_moding p k (Converts mode) n = option_map_or (λ e. BecomeShared e (leader_for p k false e)) k.exclusive Nothing
after_moding p k Releases n = Nothing
after_moding p k Settles n = Nothing

-- The leader of n is freed: a shared acquire is granted, a release is done, a settling goes on.
abbrev pub after_freeing : LeasePlace → LeaseKnown → Aim → ℕ → LeaseNext
after_freeing p k (Acquires mode) n = GrantJob Shared n
after_freeing p k (Converts mode) n = Nothing
after_freeing p k Releases n = AnswerJob Done
after_freeing p k Settles n = settle_next p k

-- The mode is cleared: a release is done, a settling goes on.
abbrev pub after_clearing : LeasePlace → LeaseKnown → Aim → LeaseNext
after_clearing p k (Acquires mode) = Nothing
after_clearing p k (Converts mode) = Nothing
after_clearing p k Releases = AnswerJob Done
after_clearing p k Settles = settle_next p k

-- After a write of instance n that is done, by its step.
abbrev pub after_write : LeasePlace → LeaseKnown → Aim → ℕ → LeaseStep → LeaseNext
after_write p k aim n Phase1Write = ReadFor Phase1Read
after_write p k aim n Phase2Write = ReadFor Phase2Read
after_write p k aim n TakeLeader = after_take k aim n
after_write p k aim n SetMode = after_moding p k aim n
after_write p k aim n FreeLeader = after_freeing p k aim n
after_write p k aim n ClearMode = after_clearing p k aim
after_write p k aim n step = Nothing

-- What comes next after the answer of a call with this number, which wrote instance n, if any.
unfoldable pub lease_next : LeasePlace → LeaseKnown → Aim → ℕ → ℕ → LeaseStep → Answer → LeaseNext
lease_next p k aim call n step (Read bytes) = after_bytes p k aim bytes step
lease_next p k aim call n step Written = after_write p k aim n step
lease_next p k aim call n step Failed = refuses aim (IoFault call)

-- ---- turns

-- Refused where it writes a block.
abbrev pub refuses_block : Aim → LeaseNext → LeaseNext
refuses_block aim (WriteBlock step b) = refuses aim (LimitReached TurnLimit)
refuses_block aim (BecomeExclusive lver b) = refuses aim (LimitReached TurnLimit)
refuses_block aim next = next

-- What was decided, unless it writes a block whose turn would pass its limit. Only blocks of pairs have a turn.
unfoldable pub within_turn : LeasePlace → LeaseKnown → Aim → LeaseNext → LeaseNext
within_turn p k aim next = let g : Layout = p.layout in elim (g.paired && not (is_number (k.turn + 1))) [ false ↦ next | true ↦ refuses_block aim next ]
