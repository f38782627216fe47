-- What a lease is asked, by what is kept of it, what its session knows beside it, and what a read has shown.
use Rattle.sl_area.specs.AreaSizes.{Layout}
use Rattle.sl_area.specs.Pairs.{BlocksRead, blocks_of}
use Rattle.sl_area.specs.TornLeader.{leader_read}
use Rattle.sl_host_state.specs.HeardInputs.{is_area_step}
use Rattle.sl_host_state.specs.KeptState.{LeaseState}
use Rattle.sl_host_state.specs.HostStands.{top_mbal}
use Rattle.sl_host_state.specs.declared.kept_parts.TopNumber.{TopNumber}
use Rattle.sl_lease.specs.declared.outer_facts.Held.{Held}
use Rattle.sl_lease.specs.declared.side.Side.{Side}
use Rattle.sl_trace.specs.Ballots.{ballot_blocks, moded_block, phase1_block, phase2_block, stop_of}
use Rattle.sl_trace.specs.LeaseDecisions.{LeasePlace, after_phase1, after_phase2, asked_again, begin_next, first_step, leader_for, named_area_next, part_read, phase1_next, read_of_step, settle_next}
use Rattle.sl_trace.specs.Leases.{LeaseKnown, first_kept, is_leader_of, last_blocks, owed_free}
use Rattle.sl_trace.specs.declared.lease.Aim.{Aim}
use Rattle.sl_trace.specs.declared.lease.LeaseNext.TheVariants.{AnswerJob, BecomeExclusive, BecomeShared, Nothing, ReadFor, WriteBlock, WriteLeader}
use Rattle.sl_trace.specs.declared.lease.LeaseNext.{LeaseNext}
use Rattle.sl_sector.specs.declared.sector.Block.{Block}
use Rattle.sl_sector.specs.declared.sector.Leader.{Leader}
use Rattle.sl_sector.specs.declared.sector.Owner.{Owner}
use Rattle.sl_sector.specs.declared.sector.PairBlock.{PairBlock}
use Rattle.sl_trace.specs.Traces.{Submitted}
use Rattle.sl_trace.specs.declared.effects.LeaseRead.TheVariants.{OfArea, OfBlock, OfFree, OfPhase1, OfPhase2}
use Rattle.sl_trace.specs.declared.effects.LeaseStep.TheVariants.{ClearMode, FreeLeader, Phase1Read, Phase1Write, Phase2Read, Phase2Write, ReadAgain, ReadArea, ReadBeforeBlock, ReadBeforeFree, SetMode, TakeLeader}
use Rattle.sl_trace.specs.declared.effects.LeaseStep.{LeaseStep}
use Rattle.sl_trace.specs.declared.reply.Reply.TheVariants.{Held as HeldBy, TornLeader, WrongArea}
use Rattle.sl_words.specs.Words.{choose, some_is}
use Rattle.std.specs.Option.{option_map_or}
use Rattle.std.specs.Prelude.{Bool, List, None, Option, Some, cond, false, if◌then◌else◌, max, not, option_and_then, true, [], ℕ, ◌+◌, ◌==◌, ◌∷◌, ◌≡◌}

-- What is kept of the blocks that were read last is so: the greatest number, in an open ballot's instance where one is open.
pub record TopStands (l : LeaseState) (read : List (Option Block)) : Type 0 where
  pub greatest_is : (t : TopNumber) → l.top ≡ Some t → top_mbal t.instance read ≡ t.mbal
  pub opened : (n : ℕ) → l.ballot ≡ Some n → (t : TopNumber) × (l.top ≡ Some t) × (t.instance ≡ n)

-- Whether the block shows the shared mode of another host than this one that doesn't count as over.
abbrev pub is_shared_beside : ℕ → (ℕ → ℕ → Bool) → Block → Bool
is_shared_beside id over b = elim (b.host == id) [ true ↦ false | false ↦ elim b.shared [ false ↦ false | true ↦ not (over b.host b.mode_gen) ] ]

-- The leader that a lease writes for a resource of this name.
abbrev pub leader_named : Side → List ℕ → Bool → ℕ → Leader
leader_named z resource held n =
    record { held = held; num_hosts = z.geometry.hosts; lver = n; generation = z.me.generation; owner = z.me.id; lockspace = z.lockspace; resource = resource }

-- The mode generation of the session's blocks.
abbrev pub gen_with : Side → Held → ℕ
gen_with z h = if h.shared then z.me.generation else 0

-- Whether the leader's owner counts as over.
abbrev pub owner_over : (ℕ → ℕ → Bool) → Leader → Bool
owner_over over l = elim l.held [ false ↦ false | true ↦ over l.owner l.generation ]

-- A block that shows this number in this instance.
abbrev pub block_showing : Block → ℕ → ℕ → Block
block_showing own n top = record own { lver = n; mbal = top }

-- A ballot of this own block in n begins, above this number.
abbrev pub begin_above : Side → Held → Aim → ℕ → Block → ℕ → LeaseNext
begin_above z h aim n own top =
    phase1_next aim (phase1_block z.me z.geometry.hosts n h.shared (gen_with z h) own (block_showing own n top ∷ []))

-- After a read of the area that gave this leader and these blocks, for a job that names this resource.
abbrev pub area_asked : LeasePlace → LeaseKnown → Aim → List ℕ → Option Leader → List (Option Block) → LeaseNext
area_asked p k aim name None read = AnswerJob TornLeader
area_asked p k aim name (Some l) read =
    elim (is_leader_of p.layout p.lockspace name l) [
      | false ↦ AnswerJob (WrongArea l.lockspace l.resource l.num_hosts)
      | true ↦ named_area_next p k aim l read
    ]

-- The block of phase 2, with the mode that the session has now.
abbrev pub phase2_with : Side → Held → Block → List (Option Block) → LeaseNext
phase2_with z h own read = WriteBlock Phase2Write (moded_block (phase2_block z.me own (ballot_blocks own read)) h.shared (gen_with z h))

-- The greater of a number and the lver of a block of another host than the own one.
abbrev pub top_beside : Block → ℕ → Option Block → ℕ
top_beside own top None = top
top_beside own top (Some b) = cond (b.host == own.host) top (max top b.lver)

-- The free that is owed, unless its instance is held.
abbrev pub owed_with : LeaseState → Held → Option ℕ
owed_with l h = option_and_then (λ n. choose (not (some_is (λ e. e == n) h.exclusive)) n) l.won

-- It is written.
abbrev pub free_with : Side → LeaseState → Held → LeaseNext
free_with z l h = option_map_or (λ n. WriteLeader FreeLeader (leader_named z l.name false n)) (owed_with l h) Nothing

-- The own block with the shared mode.
abbrev pub mode_with : Side → LeaseState → LeaseNext
mode_with z l = option_map_or (λ own. WriteBlock SetMode (moded_block own true z.me.generation)) l.own Nothing

-- The shared holding becomes exclusive, and the own block is written without its mode.
abbrev pub exclusive_with : LeaseState → ℕ → LeaseNext
exclusive_with l n = option_map_or (λ own. BecomeExclusive n (moded_block own false 0)) l.own Nothing

-- The exclusive holding becomes shared, and its leader is written free.
abbrev pub shared_with : Side → LeaseState → Held → LeaseNext
shared_with z l h = option_map_or (λ e. BecomeShared e (leader_named z l.name false e)) h.exclusive Nothing

-- An instance that another session was granted: the next one where that session is over.
abbrev pub held_by_other : LeasePlace → LeaseKnown → Aim → ℕ → Owner → LeaseNext
held_by_other p k aim n o = elim (k.over o.id o.generation) [ true ↦ begin_next p k aim (n + 1) | false ↦ AnswerJob (HeldBy n o) ]

-- After the read of phase 1.
abbrev pub phase1_ended : LeasePlace → LeaseKnown → Aim → List (Option Block) → LeaseNext
phase1_ended p k aim read = option_map_or (λ own. after_phase1 p k aim own read (stop_of own read)) k.own Nothing

-- After the read of phase 2.
abbrev pub phase2_ended : LeasePlace → LeaseKnown → Aim → List (Option Block) → LeaseNext
phase2_ended p k aim read = option_map_or (λ own. after_phase2 p k aim own (stop_of own read)) k.own Nothing

-- After a read for this step that gave this leader, if it reads one, and these blocks.
abbrev pub read_asked : LeasePlace → LeaseKnown → Aim → Option Leader → List (Option Block) → LeaseStep → LeaseNext
read_asked p k aim l read (ReadArea name) = area_asked p k aim name l read
read_asked p k aim l read ReadBeforeFree = option_map_or (λ n. WriteLeader FreeLeader (leader_for p k false n)) (owed_free k) Nothing
read_asked p k aim l read ReadBeforeBlock = settle_next p k
read_asked p k aim l read (ReadAgain (OfArea name)) = area_asked p k aim name l read
read_asked p k aim l read (ReadAgain OfFree) = option_map_or (λ n. WriteLeader FreeLeader (leader_for p k false n)) (owed_free k) Nothing
read_asked p k aim l read (ReadAgain OfBlock) = settle_next p k
read_asked p k aim l read (ReadAgain OfPhase1) = phase1_ended p k aim read
read_asked p k aim l read (ReadAgain OfPhase2) = phase2_ended p k aim read
read_asked p k aim l read Phase1Write = Nothing
read_asked p k aim l read Phase1Read = phase1_ended p k aim read
read_asked p k aim l read Phase2Write = Nothing
read_asked p k aim l read Phase2Read = phase2_ended p k aim read
read_asked p k aim l read TakeLeader = Nothing
read_asked p k aim l read SetMode = Nothing
read_asked p k aim l read FreeLeader = Nothing
read_asked p k aim l read ClearMode = Nothing

-- What a read at this step gave of all blocks, with what is kept of the first one.
abbrev pub heard_with : Layout → List (Option PairBlock) → LeaseStep → List ℕ → BlocksRead
heard_with g kept step bytes = record { kept = kept; last = part_read g bytes (first_step step) }

-- The leader that it gives in these bytes, if it reads one.
abbrev pub leader_given : Layout → List (Option PairBlock) → LeaseStep → List ℕ → Option Leader
leader_given g kept step bytes = elim (is_area_step step) [ false ↦ None | true ↦ leader_read g bytes (heard_with g kept step bytes) ]

-- The blocks that it gives.
abbrev pub read_given : Layout → List (Option PairBlock) → LeaseStep → List ℕ → List (Option Block)
read_given g kept step bytes = blocks_of g (heard_with g kept step bytes)

-- Leader and blocks are what the read at this step gave in these bytes, which was the last of these calls that gave blocks.
pub record IsLastRead (g : Layout) (step : LeaseStep) (bytes : List ℕ) (leader : Option Leader) (read : List (Option Block)) (ms : List Submitted) : Type 0 where
  -- it isn't made once more
  pub once : asked_again g bytes step ≡ None
  pub leads : leader ≡ leader_given g (first_kept g ms) step bytes
  pub shows : read ≡ read_given g (first_kept g ms) step bytes
  pub newest : read ≡ last_blocks g ms

-- What a lease does next after the answer of a first read that is to be made once more.
abbrev pub again_asked : LeaseStep → LeaseNext
again_asked step = option_map_or (λ read. ReadFor (ReadAgain read)) (read_of_step step) Nothing
