-- How what is kept of a lease changes by a call and by its answer.
use Rattle.sl_host_state.specs.HeardInputs.{concludes_at, won_at, won_hearing}
use Rattle.sl_host_state.specs.KeptState.{LeaseState, PairState}
use Rattle.sl_host_state.specs.MadeEffects.{pair_calling}
use Rattle.sl_host_state.specs.HostStands.{top_mbal}
use Rattle.sl_host_state.specs.declared.kept_parts.LeaseCall.{LeaseCall}
use Rattle.sl_host_state.specs.declared.kept_parts.TopNumber.{TopNumber}
use Rattle.sl_host_state.specs.declared.kept_parts.ValuePair.{ValuePair}
use Rattle.sl_lease.specs.Side.{layout_in}
use Rattle.sl_lease.specs.declared.side.Side.{Side}
use Rattle.sl_trace.specs.Ballots.{stop_of}
use Rattle.sl_trace.specs.Leases.{is_free_of, is_leader_of, is_second}
use Rattle.sl_trace.specs.declared.lease.Stop.{Stop}
use Rattle.sl_sector.specs.declared.sector.Block.{Block}
use Rattle.sl_sector.specs.declared.sector.Leader.{Leader}
use Rattle.sl_sector.specs.declared.sector.Owner.{Owner}
use Rattle.sl_sector.specs.declared.sector.PairBlock.{PairBlock}
use Rattle.sl_trace.specs.declared.effects.LeaseRead.TheVariants.{OfArea, OfBlock, OfFree, OfPhase1, OfPhase2}
use Rattle.sl_trace.specs.declared.effects.LeaseStep.TheVariants.{ClearMode, FreeLeader, Phase1Read, Phase1Write, Phase2Read, Phase2Write, ReadAgain, ReadArea, ReadBeforeBlock, ReadBeforeFree, SetMode, TakeLeader}
use Rattle.sl_trace.specs.declared.effects.LeaseStep.{LeaseStep}
use Rattle.sl_trace.specs.declared.effects.Work.{Work}
use Rattle.sl_words.specs.Words.{choose, present, some_is}
use Rattle.std.specs.List.{list_any}
use Rattle.std.specs.Option.{option_or}
use Rattle.std.specs.Prelude.{Bool, List, None, Option, Some, cond, false, if◌then◌else◌, max, nat_lt, not, option_and_then, option_map, true, ℕ, ◌&&◌, ◌==◌, ◌||◌}

-- ---- one more call

-- A read for this step.
abbrev pub after_reading : ℕ → Work → LeaseStep → LeaseState → LeaseState
after_reading number work step l =
    record l {
      waiting = Some (record { number = number; work = work; step = step; frees = None; clears = false; turn = None });
      pair = pair_calling (is_second step) l.pair;
    }

-- Whether the step writes the block of phase 2.
abbrev pub is_phase2_write : LeaseStep → Bool
is_phase2_write (ReadArea name) = false
is_phase2_write ReadBeforeFree = false
is_phase2_write ReadBeforeBlock = false
is_phase2_write (ReadAgain read) = false
is_phase2_write Phase1Write = false
is_phase2_write Phase1Read = false
is_phase2_write Phase2Write = true
is_phase2_write Phase2Read = false
is_phase2_write TakeLeader = false
is_phase2_write SetMode = false
is_phase2_write FreeLeader = false
is_phase2_write ClearMode = false

-- The open ballot after a block of this instance: phase 2 opens one, a block of another instance ends it.
abbrev pub ballot_over : Bool → ℕ → Option ℕ → Option ℕ
ballot_over opens lver before = elim opens [ true ↦ Some lver | false ↦ option_and_then (λ n. choose (lver == n) n) before ]

-- A write of the own block, with this turn where it is one of a pair.
abbrev pub after_block : ℕ → Work → LeaseStep → Option ℕ → Block → LeaseState → LeaseState
after_block number work step turn b l =
    record l {
      own = Some b;
      ballot = ballot_over (is_phase2_write step) b.lver l.ballot;
      shown = b.shared || l.shown;
      waiting = Some (record { number = number; work = work; step = step; frees = None; clears = not b.shared; turn = turn });
      pair = pair_calling (is_second step) l.pair;
    }

-- A write of the leader.
abbrev pub after_leader : ℕ → Work → LeaseStep → Leader → LeaseState → LeaseState
after_leader number work step d l =
    record l {
      freed = max (if d.held then 0 else d.lver) l.freed;
      waiting = Some (record { number = number; work = work; step = step; frees = choose (not d.held) d.lver; clears = false; turn = None });
      pair = pair_calling (is_second step) l.pair;
    }

-- A write of a value on the area.
abbrev pub after_value : ValuePair → LeaseState → LeaseState
after_value v l = record l { value = Some v }

-- ---- an answer

-- Whether a read at this step shows blocks.
abbrev pub shows_blocks : LeaseStep → Bool
shows_blocks (ReadArea name) = true
shows_blocks ReadBeforeFree = true
shows_blocks ReadBeforeBlock = true
shows_blocks (ReadAgain read) = true
shows_blocks Phase1Write = false
shows_blocks Phase1Read = true
shows_blocks Phase2Write = false
shows_blocks Phase2Read = true
shows_blocks TakeLeader = false
shows_blocks SetMode = false
shows_blocks FreeLeader = false
shows_blocks ClearMode = false

-- What stops the own block's ballot in the blocks that a read at this step shows.
abbrev pub stop_told : Option Block → LeaseStep → List (Option Block) → Option (Option Stop)
stop_told own step read = elim (shows_blocks step) [ false ↦ None | true ↦ option_map (λ b. stop_of b read) own ]

-- The greater of a number and that of a block in an instance.
abbrev pub top_within : ℕ → ℕ → Option Block → ℕ
top_within n top None = top
top_within n top (Some b) = cond (b.lver == n) (max top b.mbal) top

-- The greatest number of the own block's instance after a read at this step.
abbrev pub top_told : LeaseStep → Option Block → List (Option Block) → Option TopNumber → Option TopNumber
top_told step own read before =
    elim (shows_blocks step) [ false ↦ before | true ↦ option_map (λ b. record { instance = b.lver; mbal = top_mbal b.lver read }) own ]

-- The name that is verified, where a leader of the area has it and the lockspace's.
abbrev pub name_found : Side → List ℕ → Option Leader → List ℕ → List ℕ
name_found z name None before = before
name_found z name (Some d) before = elim (is_leader_of (layout_in z) z.lockspace name d) [ true ↦ name | false ↦ before ]

-- The same after a read at this step.
abbrev pub name_told : Side → LeaseStep → Option Leader → List ℕ → List ℕ
name_told z (ReadArea name) d before = name_found z name d before
name_told z ReadBeforeFree d before = before
name_told z ReadBeforeBlock d before = before
name_told z (ReadAgain (OfArea name)) d before = name_found z name d before
name_told z (ReadAgain OfFree) d before = before
name_told z (ReadAgain OfBlock) d before = before
name_told z (ReadAgain OfPhase1) d before = before
name_told z (ReadAgain OfPhase2) d before = before
name_told z Phase1Write d before = before
name_told z Phase1Read d before = before
name_told z Phase2Write d before = before
name_told z Phase2Read d before = before
name_told z TakeLeader d before = before
name_told z SetMode d before = before
name_told z FreeLeader d before = before
name_told z ClearMode d before = before

-- Whether leader and blocks show that the free of n isn't needed.
abbrev pub is_settled_by : Owner → Option Leader → List (Option Block) → ℕ → Bool
is_settled_by self d read n = some_is (λ l. nat_lt n l.lver || is_free_of n self l) d || list_any (λ b. nat_lt n b.lver) (present read)

-- The same after a read at this step: a settling's read of the area alone is asked.
abbrev pub settles_read : Owner → LeaseStep → Option Leader → List (Option Block) → ℕ → Bool
settles_read self (ReadArea name) d read n = false
settles_read self ReadBeforeFree d read n = is_settled_by self d read n
settles_read self ReadBeforeBlock d read n = false
settles_read self (ReadAgain (OfArea name)) d read n = false
settles_read self (ReadAgain OfFree) d read n = is_settled_by self d read n
settles_read self (ReadAgain OfBlock) d read n = false
settles_read self (ReadAgain OfPhase1) d read n = false
settles_read self (ReadAgain OfPhase2) d read n = false
settles_read self Phase1Write d read n = false
settles_read self Phase1Read d read n = false
settles_read self Phase2Write d read n = false
settles_read self Phase2Read d read n = false
settles_read self TakeLeader d read n = false
settles_read self SetMode d read n = false
settles_read self FreeLeader d read n = false
settles_read self ClearMode d read n = false

-- An answer shows this turn of the own pair, if any.
abbrev pub turn_told : Option ℕ → LeaseState → LeaseState
turn_told turn l = let p : PairState = l.pair in record l { pair = record p { turn = option_or turn p.turn } }

-- The read that waits is to be made once more, and this is kept of it.
abbrev pub after_kept : List (Option PairBlock) → LeaseState → LeaseState
after_kept pairs l = let p : PairState = l.pair in elim l.waiting [ None ↦ l | Some w ↦ record l { waiting = None; pair = record p { first = Some pairs } } ]

-- A read at this step gave this leader, if it reads one, and these blocks; heeded while its work goes on.
abbrev pub read_told : Side → Bool → LeaseStep → Option Leader → List (Option Block) → LeaseState → LeaseState
read_told z heeded step d read l =
    let stop : Option (Option Stop) = stop_told l.own step read in
    record l {
      top = top_told step l.own read l.top;
      name = name_told z step d l.name;
      ballot = cond (heeded && concludes_at step stop) None l.ballot;
      won = won_hearing (cond heeded (won_at z.me step l.own stop) None) (λ n. settles_read z.me step d read n) l.won;
      waiting = None;
    }

-- The read that waits gave these.
abbrev pub after_read : Side → Bool → Option Leader → List (Option Block) → LeaseState → LeaseState
after_read z heeded d read l = elim l.waiting [ None ↦ l | Some w ↦ read_told z heeded w.step d read l ]

-- A call that failed: nothing is known of it.
abbrev pub after_failure : LeaseState → LeaseState
after_failure l = record l { waiting = None }

-- The turn that was shown last, after one more was shown.
abbrev pub turn_in : Option ℕ → PairState → PairState
turn_in turn p = record p { turn = option_or turn p.turn }

-- The write that waits is done: a mode may be cleared, and the free of an instance; the turn of a block is shown by it.
abbrev pub write_told : LeaseCall → LeaseState → LeaseState
write_told w l =
    record l {
      shown = l.shown && not w.clears;
      won = option_and_then (λ n. choose (not (some_is (λ f. f == n) w.frees)) n) l.won;
      waiting = None;
      pair = turn_in w.turn l.pair;
    }

abbrev pub after_write : LeaseState → LeaseState
after_write l = elim l.waiting [ None ↦ l | Some w ↦ write_told w l ]
