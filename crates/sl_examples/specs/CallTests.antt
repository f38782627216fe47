-- The laws of calls once more, as tests that compute: on delta sectors, areas, blocks and leaders. Each test mirrors one field of a law.
use Rattle.sl_area.specs.AreaSizes.{record_in, sector_with}
use Rattle.sl_area.specs.AreaLayout.{area_sectors, block_offset, block_sectors, is_base}
use Rattle.sl_area.specs.Pairs.{needs_again}
use Rattle.sl_run.specs.LawfulArea.{is_area_work, is_block_work, is_delta_record, is_of_format, is_same_read, leaders_read, open_block_work, record_offset}
use Rattle.sl_run.specs.LawfulCalls.{may_submit}
use Rattle.sl_run.specs.LawfulDelta.{is_on_own_sector}
use Rattle.sl_run.specs.LawfulLeader.{holds_under, open_writes_on}
use Rattle.sl_run.specs.LawForms.{cut_at, newest_moves, older}
use Rattle.sl_trace.specs.Ballots.{ballot_blocks, moded_block, owner_of, phase1_block, phase2_block, same_owner, stop_of}
use Rattle.sl_trace.specs.Leases.{base_turn, block_written, blocks_bytes, blocks_given, ended_ballots, freed, is_again, is_area_read, is_at, is_block_read, is_leader_of, last_blocks, Leader_freed, leader_given, Leader_taken, leader_written, leaders_given, lease_calls, lease_step, own_block, Phase1_read, Phase1_write, Phase2_read, Phase2_write, spot_of_call, turn_written}
use Rattle.sl_sector.specs.Bitmaps.{no_bits}
use Rattle.sl_sector.specs.SectorLayouts.{delta_in}
use Rattle.sl_sector.specs.declared.sector.Block.{Block}
use Rattle.sl_sector.specs.declared.sector.DeltaRec.{DeltaRec}
use Rattle.sl_sector.specs.declared.sector.DeltaState.TheVariants.{Claimed, Free, Live}
use Rattle.sl_sector.specs.declared.sector.Leader.{Leader}
use Rattle.sl_sector.specs.declared.sector.Rec.TheVariants.{BlockIs, DeltaIs, PairIs}
use Rattle.sl_sector.specs.declared.sector.Rec.{Rec}
use Rattle.sl_trace.specs.DeltaDecisions.{claim_of, delta_of_session, delta_record, first_answered, first_bytes}
use Rattle.sl_trace.specs.Sessions.{calls_of, delta_written, generation_of, has_open_delta, holdings_of, is_active, is_delta_purpose, is_join_call, is_leaving, is_survey_purpose, join_call, joined_after, last_seq, me, open_calls_of, recovery_of, session_named, session_numbered, sessions, stage_of}
use Rattle.sl_trace.specs.Sightings.{counted_over, is_free_state}
use Rattle.sl_trace.specs.declared.session.Session.{Session}
use Rattle.sl_trace.specs.declared.stage.Stage.TheVariants.{Claiming, Deciding, Ended, FirstRenewing, Freeing, Looking, Refused, Standing, Verifying, Waiting}
use Rattle.sl_trace.specs.declared.stage.Stage.{Stage}
use Rattle.sl_time.specs.Times.{dead, fail, join_max, take_over}
use Rattle.sl_trace.specs.WatchdogConnections.{is_registered, registers_with}
use Rattle.sl_trace.specs.Traces.{gave, is_ok_answer, is_write, new_call, record_of, same_place, Setting, Submitted, Trace}
use Rattle.sl_trace.specs.declared.effects.Entry.{Entry}
use Rattle.sl_trace.specs.declared.effects.JoinStep.TheVariants.{ClaimWrite, DecidingRead, FirstRead, FirstRenewal, VerifyRead, WatchRead}
use Rattle.sl_trace.specs.declared.effects.JoinStep.{JoinStep}
use Rattle.sl_trace.specs.declared.effects.LeaseRead.TheVariants.{OfArea, OfFree}
use Rattle.sl_trace.specs.declared.effects.LeaseRead.{LeaseRead}
use Rattle.sl_trace.specs.declared.effects.LeaseStep.TheVariants.{ClearMode, Phase1Read, Phase1Write, Phase2Read, Phase2Write, ReadAgain, ReadArea, ReadBeforeBlock, ReadBeforeFree, SetMode}
use Rattle.sl_trace.specs.declared.effects.Op.TheVariants.{ReadSectors, WriteRecord}
use Rattle.sl_trace.specs.declared.effects.Purpose.TheVariants.{RequestRead, Joining, Leaving, Renewal, SeeRequest, Survey}
use Rattle.sl_trace.specs.declared.effects.Purpose.{Purpose}
use Rattle.sl_trace.specs.declared.effects.Spot.{Spot}
use Rattle.sl_words.specs.Words.{first_of_list, present, some_is}
use Rattle.std.specs.List.{enumerate_from, list_all, list_any}
use Rattle.std.specs.Option.{option_map_or}
use Rattle.std.specs.Prelude.{Bool, List, None, Option, Some, bytes_eq, false, filter, find, is_none, is_ok, is_some, length, nat_le, nat_lt, not, option_to_list, true, [], ℕ, ◌&&◌, ◌++◌, ◌+◌, ◌==◌, ◌||◌, ◌∷◌}

-- ---- saying

-- Of each entry with those before it.
abbrev pub each_entry : (Trace → Entry → Bool) → Trace → Bool
each_entry p [] = true
each_entry p (e ∷ es) = p es e && each_entry p es

-- Of each call with what stood when it was submitted; a call of no session fails.
abbrev pub each_call : Setting → (Trace → Session → Submitted → Bool) → Trace → Entry → Bool
each_call st p past e =
    list_all (λ q. some_is (λ s. p (cut_at q.0 e ∷ past) s (new_call (length past) e.reading q.1)) (session_numbered st (e ∷ past) q.1.session))
    (enumerate_from 0 e.effects.calls)

-- Where it applies.
abbrev pub implies : Bool → Bool → Bool
implies a b = not a || b

-- Stages are one.
abbrev pub stage_number : Stage → ℕ
stage_number Looking = 0
stage_number Deciding = 1
stage_number Claiming = 2
stage_number Waiting = 3
stage_number Verifying = 4
stage_number FirstRenewing = 5
stage_number Standing = 6
stage_number Freeing = 7
stage_number Refused = 8
stage_number Ended = 9

-- Whether the session is at this stage.
abbrev pub is_at_stage : Trace → Session → Stage → Bool
is_at_stage es s stage = stage_number (stage_of es s) == stage_number stage

-- Records are compared by their bytes.
abbrev pub same_record : Setting → Rec → Rec → Bool
same_record st a b = bytes_eq (sector_with st.layout a) (sector_with st.layout b)

-- Whether the call writes this record.
abbrev pub writes_this : Setting → Submitted → Rec → Bool
writes_this st c r = some_is (same_record st r) (record_of c.call.op)

-- ---- calls and delta sectors

-- The law of calls.
abbrev pub calls_test : Setting → Trace → Entry → Bool
calls_test st past e =
    each_call st (λ es s c. may_submit (stage_of es s) && implies (is_write c.call.op) (some_is (λ r. is_ok (record_in st.layout (sector_with st.layout r))) (record_of c.call.op))) past e

-- Whether the last read of this step gave these bytes.
abbrev pub gave_test : Trace → Session → JoinStep → List ℕ → Bool
gave_test es s step bytes = list_any (λ r. is_join_call step r.call.purpose && some_is (bytes_eq bytes) (gave r)) (calls_of es s)

-- Whether the watch is over for these bytes.
abbrev pub watch_test : Setting → Trace → Session → List ℕ → DeltaRec → Bool
watch_test st es s bytes found =
    is_free_state found.state
    || list_any (λ r. is_join_call WatchRead r.call.purpose && some_is (bytes_eq bytes) (gave r)
    && some_is (λ a. nat_le (a + take_over st.timing) r.reading) (first_answered (calls_of es s))) (calls_of es s)

-- Whether the newest entry registers the session.
abbrev pub registers_test : Setting → Trace → Session → Submitted → Bool
registers_test st es s c = list_any (registers_with s.lockspace (c.reading + fail st.timing)) (newest_moves es)

-- The deciding read.
abbrev pub deciding_test : Setting → Trace → Session → Submitted → Bool
deciding_test st es s c =
    is_at_stage es s Looking && registers_test st es s c
    && some_is (λ bytes. some_is (λ found. bytes_eq found.lockspace s.lockspace && found.id == s.id && watch_test st es s bytes found) (delta_in (record_in st.layout bytes))
    && list_all (λ r. implies (is_join_call WatchRead r.call.purpose) (option_map_or (bytes_eq bytes) (gave r) true)) (calls_of es s)) (first_bytes (calls_of es s))

-- The claim.
abbrev pub claim_test : Setting → Trace → Session → Submitted → Bool
claim_test st es s c =
    is_at_stage es s Deciding
    && some_is (λ bytes. gave_test es s DecidingRead bytes
    && some_is (λ d. writes_this st c (DeltaIs (delta_record (delta_of_session st s) Claimed (d.generation + 1) (d.seq + 1) c.reading no_bits))) (delta_in (record_in st.layout bytes))) (first_bytes (calls_of es s))

-- The verify read.
abbrev pub verify_test : Setting → Trace → Session → Submitted → Bool
verify_test st es s c =
    is_at_stage es s Waiting && not (is_registered st (older es) s.lockspace) && registers_test st es s c
    && some_is (λ k. some_is (λ a. nat_le (a.reading + dead st.timing) c.reading) k.answer && nat_le c.reading (k.reading + join_max st.timing)) (join_call (calls_of es s) ClaimWrite)

-- The first renewal.
abbrev pub first_renewal_test : Setting → Trace → Session → Submitted → Bool
first_renewal_test st es s c =
    is_at_stage es s Verifying
    && some_is (λ d. gave_test es s VerifyRead (sector_with st.layout (DeltaIs d))
    && writes_this st c (DeltaIs (delta_record (delta_of_session st s) Live d.generation (d.seq + 1) c.reading no_bits))) (claim_of (calls_of es s))

-- The bitmap of a delta record that is written.
abbrev pub bitmap_written : Submitted → List ℕ
bitmap_written c = option_map_or (λ d. d.bitmap) (delta_written c) []

-- A renewal.
abbrev pub renewal_test : Setting → Trace → Session → Submitted → Bool
renewal_test st es s c =
    is_at_stage es s Standing && is_none (recovery_of st es s)
    && writes_this st c (DeltaIs (delta_record (delta_of_session st s) Live (generation_of es s) (last_seq es s + 1) c.reading (bitmap_written c)))

-- The free.
abbrev pub free_test : Setting → Trace → Session → Submitted → Bool
free_test st es s c =
    is_at_stage es s Standing && is_leaving st es s && is_none (recovery_of st es s) && length (holdings_of es s) == 0 && length (open_calls_of es s) == 0
    && writes_this st c (DeltaIs (delta_record (delta_of_session st s) Free (generation_of es s) (last_seq es s + 1) c.reading no_bits))

-- A read of all ids.
abbrev pub survey_test : Setting → Trace → Session → Submitted → Bool
survey_test st es s c =
    is_at_stage es s Standing && same_place c.call.path c.call.offset s.path s.offset
    && elim c.call.op [ ReadSectors n ↦ n == st.layout.hosts | WriteRecord r ↦ false ]

-- Whether the call reads one sector.
abbrev pub reads_one : Submitted → Bool
reads_one c = elim c.call.op [ ReadSectors n ↦ n == 1 | WriteRecord r ↦ false ]

-- By what the call is for.
abbrev pub delta_call_test : Setting → Trace → Session → Submitted → Bool
delta_call_test st es s c =
    elim c.call.purpose [
      | Joining j step ↦ elim step [
        | FirstRead ↦ reads_one c && is_base st.layout s.offset && is_none (session_named st es s.lockspace)
        | WatchRead ↦ reads_one c && is_at_stage es s Looking
        | DecidingRead ↦ reads_one c && deciding_test st es s c
        | ClaimWrite ↦ claim_test st es s c
        | VerifyRead ↦ reads_one c && verify_test st es s c
        | FirstRenewal ↦ first_renewal_test st es s c
      ]
      | Renewal ↦ renewal_test st es s c
      | Survey ↦ survey_test st es s c
      | Leaving j ↦ free_test st es s c
      | _ ↦ is_none (delta_written c)
    ]

-- Whether a session that has joined did so by its first renewal's answer.
abbrev pub join_test : Trace → Session → Bool
join_test es s =
    elim s.job [
      | None ↦ true
      | Some j ↦ option_map_or (λ k. some_is (λ m. some_is (λ a. is_ok_answer a.answer && a.at + 1 == k) m.answer) (join_call (calls_of es s) FirstRenewal))
          (joined_after es s) true
    ]

-- The law of delta writing.
abbrev pub delta_test : Setting → Trace → Entry → Bool
delta_test st past e =
    list_all (join_test (e ∷ past)) (sessions st (e ∷ past)) &&
    each_call st (λ es s c. delta_call_test st es s c
    && implies (is_delta_purpose c.call.purpose && not (is_survey_purpose c.call.purpose)) (is_on_own_sector st s c)
    && implies (is_delta_purpose c.call.purpose) (not (has_open_delta es s))) past e

-- ---- areas

-- The calls of a list, the newest first, that came before this one.
abbrev pub before_call : Submitted → List Submitted → List Submitted
before_call c cs = filter (λ d. nat_lt d.call.number c.call.number) cs

-- The leaders that the session has read on the area; with pairs those too that were made for torn ones.
abbrev pub leaders_known : Setting → Trace → Session → Spot → List Leader
leaders_known st es s at =
    leaders_read st es s at ++ elim st.layout.paired [ false ↦ [] | true ↦ leaders_given st.layout (lease_calls st es s at) ]

-- Whether a block of a pair has names that the session has verified.
abbrev pub named_test : Setting → Trace → Session → Spot → Rec → Bool
named_test st es s at r =
    elim r [
      | PairIs p ↦ bytes_eq p.lockspace s.lockspace && list_any (is_leader_of st.layout s.lockspace p.resource) (leaders_known st es s at)
      | _ ↦ true
    ]

-- Whether the session has verified the area's names.
abbrev pub verified_test : Setting → Trace → Session → Spot → Bool
verified_test st es s at =
    list_any (λ l. bytes_eq l.lockspace s.lockspace && l.num_hosts == st.layout.hosts) (leaders_known st es s at)

-- A write on an area.
abbrev pub area_write_test : Setting → Trace → Session → Submitted → Rec → Bool
area_write_test st es s c r =
    let at : Spot = spot_of_call st.layout c in
    is_area_work c.call.purpose && verified_test st es s at && some_is (λ o. o == c.call.offset) (record_offset st s at r)
    && is_of_format st.layout r && named_test st es s at r

-- A read of the whole area, and of all blocks.
abbrev pub area_read_test : Setting → Spot → Submitted → ℕ → Bool
area_read_test st at c n = c.call.offset == at.base && n == area_sectors st.layout

abbrev pub blocks_read_test : Setting → Spot → Submitted → ℕ → Bool
blocks_read_test st at c n = c.call.offset == block_offset st.layout at.base 1 && n == block_sectors st.layout

-- A read that is made once more.
abbrev pub again_read_test : Setting → Spot → Submitted → ℕ → LeaseRead → Bool
again_read_test st at c n (OfArea name) = area_read_test st at c n
again_read_test st at c n OfFree = area_read_test st at c n
again_read_test st at c n read = blocks_read_test st at c n

-- The reads of a lease.
abbrev pub lease_read_test : Setting → Submitted → Bool
lease_read_test st c =
    let at : Spot = spot_of_call st.layout c in
    elim (lease_step c.call.purpose) [
      | None ↦ elim c.call.purpose [
        | RequestRead j ↦ c.call.offset == at.base && elim c.call.op [ ReadSectors n ↦ n == 2 | WriteRecord r ↦ false ]
        | _ ↦ true
      ]
      | Some p ↦ elim c.call.op [
        | WriteRecord r ↦ not (is_block_read c)
        | ReadSectors n ↦ elim p.1 [
          | ReadArea name ↦ area_read_test st at c n
          | ReadBeforeFree ↦ area_read_test st at c n
          | ReadBeforeBlock ↦ st.layout.paired && blocks_read_test st at c n
          | ReadAgain read ↦ st.layout.paired && again_read_test st at c n read
          | Phase1Read ↦ blocks_read_test st at c n
          | Phase2Read ↦ blocks_read_test st at c n
          | _ ↦ false
        ]
      ]
    ]

-- That at most one call that writes or reads blocks is unanswered.
abbrev pub alone_test : Setting → Trace → Entry → Bool
alone_test st past e =
    each_call st (λ es s c. implies (is_block_work c && is_area_work c.call.purpose) (length (open_block_work st es s (spot_of_call st.layout c)) == 0)) past e

-- That a read which is made once more follows the first, which shows some host's second sector torn.
abbrev pub again_test : Setting → Trace → Session → Submitted → Bool
again_test st es s c =
    elim (lease_calls st es s (spot_of_call st.layout c)) [
      | [] ↦ false
      | m ∷ ms ↦ not (is_again m) && is_same_read m c && some_is (needs_again st.layout) (blocks_bytes st.layout m)
    ]

-- Whether a call sees a request.
abbrev pub sees_request : Purpose → Bool
sees_request SeeRequest = true
sees_request p = false

-- The law of work on areas.
abbrev pub area_test : Setting → Trace → Entry → Bool
area_test st past e =
    each_call st (λ es s c. implies (is_area_work c.call.purpose) (is_active st es s)
    && option_map_or (λ r. is_delta_record r || area_write_test st es s c r) (record_of c.call.op) true
    && lease_read_test st c
    && implies (sees_request c.call.purpose) (is_some (joined_after es s))
    && implies (is_again c) (again_test st es s c)) past e
    && alone_test st past e

-- ---- blocks

-- Whether this read of the area justifies instance n.
abbrev pub read_reason : Setting → Trace → Session → Spot → ℕ → Submitted → Bool
read_reason st es s at n r =
    elim (blocks_given st.layout r (before_call r (lease_calls st es s at))) [
      | None ↦ false
      | Some blocks ↦ elim (leader_given st.layout r (before_call r (lease_calls st es s at))) [
        | None ↦ false
        | Some l ↦
            bytes_eq l.lockspace s.lockspace && l.num_hosts == st.layout.hosts && list_all is_some blocks
            && (nat_lt l.lver n && list_any (λ b. b.lver == n) (present blocks)
            || l.lver + 1 == n && (not l.held || counted_over st es s l.owner l.generation)
            || l.lver == n && l.held && same_owner (owner_of l) (me es s)
            || nat_lt l.lver n && list_any (λ w. list_any (λ k. k.lver + 1 == n && not k.held) (option_to_list (leader_written w))) (lease_calls st es s at))
      ]
    ]

-- Whether instance n may begin.
abbrev pub reason_test : Setting → Trace → Session → Spot → ℕ → Bool
reason_test st es s at n =
    let cs : List Submitted = lease_calls st es s at in
    list_any (read_reason st es s at n) (filter is_area_read cs)
    || some_is (λ b. b.lver == n && nat_lt 0 n) (own_block st.layout s.id cs)
    || list_any (λ p. p.0 + 1 == n && counted_over st es s p.1.id p.1.generation) (ended_ballots st.layout cs)

-- Phase 1.
abbrev pub phase1_test : Setting → Trace → Session → Spot → Submitted → Block → Bool
phase1_test st es s at c b =
    let cs : List Submitted = lease_calls st es s at in
    reason_test st es s at b.lver && nat_lt (freed cs) b.lver
    && some_is (λ own. nat_le own.lver b.lver
    && same_record st (BlockIs b) (BlockIs (phase1_block (me es s) st.layout.hosts b.lver b.shared b.mode_gen own (present (last_blocks st.layout cs))))) (own_block st.layout s.id cs)

-- Whether the write was answered ok by the time of the read's submission.
abbrev pub after_test_of : Submitted → Submitted → Bool
after_test_of write read = some_is (λ a. is_ok_answer a.answer && nat_le a.at read.at) write.answer

-- .. and of the first read's, where this is the second.
abbrev pub both_after : Submitted → Submitted → List Submitted → Bool
both_after write read cs =
    after_test_of write read && implies (is_again read) (some_is (after_test_of write) (first_of_list (before_call read cs)))

-- The last call that wrote a block.
abbrev pub last_block_write : List Submitted → Option Submitted
last_block_write cs = find (λ d. is_some (block_written d)) cs

-- Phase 2 by this read.
abbrev pub phase2_by : Setting → Trace → Session → Spot → Block → Block → Submitted → Submitted → Bool
phase2_by st es s at b own write read =
    both_after write read (lease_calls st es s at)
    && some_is (λ blocks. is_none (stop_of own blocks)
    && same_record st (BlockIs b) (BlockIs (moded_block (phase2_block (me es s) own (ballot_blocks own blocks)) b.shared b.mode_gen))) (blocks_given st.layout read (before_call read (lease_calls st es s at)))

-- Phase 2.
abbrev pub phase2_test : Setting → Trace → Session → Spot → Submitted → Block → Bool
phase2_test st es s at c b =
    let cs : List Submitted = lease_calls st es s at in
    some_is (λ w. is_at Phase1_write w && some_is (λ own. list_any (phase2_by st es s at b own w) (filter (is_at Phase1_read) cs)) (block_written w)) (last_block_write cs)

-- A write of the mode.
abbrev pub mode_write_test : Setting → Trace → Session → Spot → Block → Bool
mode_write_test st es s at b =
    some_is (λ own. nat_lt 0 own.lver && same_record st (BlockIs b) (BlockIs (moded_block own b.shared b.mode_gen))) (own_block st.layout s.id (lease_calls st es s at))

-- A block that is written.
abbrev pub block_write_test : Setting → Trace → Session → Submitted → Block → Bool
block_write_test st es s c b =
    let at : Spot = spot_of_call st.layout c in
    elim (lease_step c.call.purpose) [
      | None ↦ false
      | Some p ↦ elim p.1 [
        | Phase1Write ↦ phase1_test st es s at c b
        | Phase2Write ↦ phase2_test st es s at c b
        | SetMode ↦ mode_write_test st es s at b
        | ClearMode ↦ mode_write_test st es s at b
        | _ ↦ false
      ]
    ]

-- A read of phase 2.
abbrev pub phase2_read_test : Setting → Trace → Session → Submitted → Bool
phase2_read_test st es s c =
    some_is (λ w. is_at Phase2_write w && after_test_of w c) (last_block_write (lease_calls st es s (spot_of_call st.layout c)))

-- The turn of a block.
abbrev pub turn_test : Setting → Trace → Session → Submitted → Bool
turn_test st es s c =
    let shown : ℕ = base_turn st.layout s.id (lease_calls st es s (spot_of_call st.layout c)) in
    option_map_or (λ turn. turn == shown + 1 && nat_lt 0 shown) (turn_written c) true

-- The law of block writing.
abbrev pub block_test : Setting → Trace → Entry → Bool
block_test st past e =
    each_call st (λ es s c. option_map_or (block_write_test st es s c) (block_written c) true
    && turn_test st es s c
    && implies (is_at Phase2_read c) (phase2_read_test st es s c)) past e

-- ---- leaders

-- Whether the session won the instance.
abbrev pub has_won : Setting → Trace → Session → Spot → ℕ → Bool
has_won st es s at n = list_any (λ p. p.0 == n && same_owner p.1 (me es s)) (ended_ballots st.layout (lease_calls st es s at))

-- A leader that is written.
abbrev pub leader_write_test : Setting → Trace → Session → Spot → Submitted → Leader → Bool
leader_write_test st es s at c l =
    same_owner (owner_of l) (me es s) && bytes_eq l.lockspace s.lockspace && l.num_hosts == st.layout.hosts
    && list_any (is_leader_of st.layout s.lockspace l.resource) (leaders_known st es s at) && has_won st es s at l.lver
    && elim l.held [
      | true ↦ is_at Leader_taken c && nat_lt (freed (lease_calls st es s at)) l.lver
      | false ↦ is_at Leader_freed c && not (holds_under es s at l.lver) && length (open_writes_on st es s at) == 0
    ]

-- The law of leader writing.
abbrev pub leader_test : Setting → Trace → Entry → Bool
leader_test st past e = each_call st (λ es s c. option_map_or (leader_write_test st es s (spot_of_call st.layout c) c) (leader_written c) true) past e
