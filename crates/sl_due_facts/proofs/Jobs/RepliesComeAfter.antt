-- What a delta lease or a lease decides on an answer: no reply that could end a job before the answer is heeded, no first
-- read of a joining, no further read that seeks a resource.
use Rattle.sl_sector.specs.declared.sector.Leader.{Leader}
use Rattle.sl_trace.specs.declared.session.Session.{Session}
use Rattle.sl_trace.specs.declared.effects.Spot.{Spot}
use Rattle.sl_due_facts.specs.Acts.Acts.{next_of_settling}
use Rattle.sl_area.specs.AreaSizes.{Layout, record_in, sector_with}
use Rattle.sl_due_facts.proofs.Acts.Pairs.Decisions.{asked_is, bytes_are, settling_is, within_cases}
use Rattle.sl_area.specs.Pairs.{BlocksRead, blocks_of}
use Rattle.sl_area.specs.TornLeader.{leader_read}
use Rattle.sl_area.specs.AreaLayout.{leader_of, read_at}
use Rattle.sl_due.specs.DueAnswers.{set_reply}
use Rattle.sl_due.specs.DueRequests.{request_refusal, value_reply}
use Rattle.sl_due_facts.proofs.Jobs.CallsStay.{is_special}
use Rattle.sl_trace.specs.Ballots.{is_ahead, moded_block, phase1_block, same_owner, stop_of, value_of}
use Rattle.sl_trace.specs.LeaseDecisions.{LeasePlace, after_bytes, after_clearing, after_freeing, after_moding, after_phase1, after_phase2, after_read, after_take, after_write, area_next, begin_next, begin_or_refuse, first_step, heard, leader_for, lease_next, lease_place, looks_for_shared, lost_next, named_area_next, phase1_next, phase2_next, read_of_step, refuses, settle_next, settle_owed, stop_reply, stopped_next, unstopped_next, whole_area_next, within_turn, won_next}
use Rattle.sl_trace.specs.Conversions.{convert_next}
use Rattle.sl_trace.specs.Releases.{release_next}
use Rattle.sl_trace.specs.Leases.{LeaseKnown, instance_for, is_leader_of, known, mode_gen_of, owed, owed_free, own_known, shared_elsewhere, value_written}
use Rattle.sl_trace.specs.declared.lease.Aim.{Aim}
use Rattle.sl_trace.specs.declared.lease.Aim.TheVariants.{Acquires, Converts, Releases, Settles}
use Rattle.sl_trace.specs.declared.lease.Instance.{Instance}
use Rattle.sl_trace.specs.declared.lease.Instance.TheVariants.{Begins, HeldAlready}
use Rattle.sl_trace.specs.declared.lease.LeaseNext.{LeaseNext}
use Rattle.sl_trace.specs.declared.lease.LeaseNext.TheVariants.{AnswerJob, BecomeExclusive, BecomeShared, Nothing as No_lease, ReadFor, WriteBlock, WriteLeader}
use Rattle.sl_trace.specs.declared.lease.Owed.{Owed}
use Rattle.sl_trace.specs.declared.lease.Owed.TheVariants.{BallotOwed, FreeOwed, ModeOwed}
use Rattle.sl_trace.specs.declared.lease.Stop.{Stop}
use Rattle.sl_trace.specs.declared.lease.Stop.TheVariants.{BlockAhead, BlockRival, BlockTorn}
use Rattle.sl_request.specs.Requests.{check_request}
use Rattle.sl_sector.specs.Bitmaps.{no_bits}
use Rattle.sl_sector.specs.SectorLayouts.{delta_in, request_in, value_in}
use Rattle.sl_sector.specs.declared.sector.Block.{Block}
use Rattle.sl_sector.specs.declared.sector.DeltaRec.{DeltaRec}
use Rattle.sl_sector.specs.declared.sector.DeltaState.TheVariants.{Claimed, Live}
use Rattle.sl_sector.specs.declared.sector.Owner.{Owner}
use Rattle.sl_sector.specs.declared.sector.Rec.TheVariants.{DeltaIs}
use Rattle.sl_trace.specs.DeltaDecisions.{DeltaLease, claim_of, claim_on, delta_record, id_held, id_lost, is_watched_out, join_step_of, next_after_claim, next_after_deciding, next_after_first, next_after_join_read, next_after_join_write, next_after_verify, next_after_watch, next_by_time, next_in_joining, next_in_watch, next_on_wake, watched, where_watched}
use Rattle.sl_trace.specs.Sessions.{is_join_call}
use Rattle.sl_trace.specs.Sightings.{is_free_state}
use Rattle.sl_trace.specs.declared.delta.DeltaNext.{DeltaNext}
use Rattle.sl_trace.specs.declared.delta.DeltaNext.TheVariants.{EndLeaving, Nothing, ReadOwn, RefuseJoin, RegisterAndRead, WriteClaim, WriteFirst, WriteFree}
use Rattle.sl_time.specs.Times.{dead, join_max, renew}
use Rattle.sl_trace.specs.Traces.{Setting, Submitted, Trace}
use Rattle.sl_trace.specs.declared.command.ResourceArg.{ResourceArg}
use Rattle.sl_trace.specs.declared.effects.JoinStep.{JoinStep}
use Rattle.sl_trace.specs.declared.effects.JoinStep.TheVariants.{ClaimWrite, DecidingRead, FirstRead, FirstRenewal, VerifyRead, WatchRead}
use Rattle.sl_trace.specs.declared.effects.LeaseStep.{LeaseStep}
use Rattle.sl_trace.specs.declared.effects.LeaseStep.TheVariants.{ClearMode, FreeLeader, Phase1Read, Phase1Write, Phase2Read, Phase2Write, ReadAgain, ReadArea, ReadBeforeBlock, ReadBeforeFree, SetMode, TakeLeader}
use Rattle.sl_trace.specs.declared.effects.Mode.{Mode}
use Rattle.sl_trace.specs.declared.effects.Mode.TheVariants.{Exclusive, Shared}
use Rattle.sl_trace.specs.declared.effects.Purpose.TheVariants.{Joining}
use Rattle.sl_trace.specs.declared.input.Answer.{Answer}
use Rattle.sl_trace.specs.declared.input.Answer.TheVariants.{Failed, Read, Written}
use Rattle.sl_trace.specs.declared.reply.Limited.TheVariants.{Gen as GenLimit, Lver as LverLimit, Mbal as MbalLimit, Seq as SeqLimit, Turn as TurnLimit}
use Rattle.sl_trace.specs.declared.reply.Reply.{Reply}
use Rattle.sl_trace.specs.declared.reply.Reply.TheVariants.{Done, Held as HeldBy, IdLate, IoFault, Limit as LimitReached, RequestOld, Shared as SharedBy, TornBlock, TornDelta, TornLeader, Value, ValueSet, ValueTorn, WrongArea, WrongDelta}
use Rattle.sl_words.proofs.CaseLaws.{some_value, true_is_false}
use Rattle.sl_words.proofs.WordLaws.{choose_some}
use Rattle.sl_words.specs.Bounds.{is_number}
use Rattle.sl_words.specs.Words.{choose, present}
use Rattle.std.proofs.Common.{refl, subst}
use Rattle.std.specs.Option.{option_map_or}
use Rattle.std.specs.Prelude.{Bool, List, None, Option, Some, [], bytes_eq, false, is_none, nat_le, nat_lt, not, position, true, ℕ, ◌&&◌, ◌||◌, ◌+◌, ◌==◌, ◌∷◌, ◌≡◌}

pub on_bool : {A : Type 0} (P : A → Type 0) (b : Bool) (x y : A) → P x → P y → P (elim b as (λ z. A) [ false ↦ x | true ↦ y ])
on_bool P false x y h k = h
on_bool P true x y h k = k

pub on_option : {A B : Type 0} (P : B → Type 0) (o : Option A) (x : B) (f : A → B) → P x → ((a : A) → P (f a)) → P (elim o as (λ z. B) [ None ↦ x | Some a ↦ f a ])
on_option P None x f h k = h
on_option P (Some a) x f h k = k a

pub mapped_or : {A B : Type 0} (P : B → Type 0) (f : A → B) (o : Option A) (d : B) → ((a : A) → P (f a)) → P d → P (option_map_or f o d)
mapped_or P f None d h k = k
mapped_or P f (Some a) d h k = h a

-- ---- replies

-- Whether a reply tells a value, or the version of one that was set.
abbrev pub tells_value : Reply → Bool
tells_value (Value lver seq bytes) = true
tells_value (ValueSet lver seq) = true
tells_value r = false

-- Whether it is special, or tells a value.
abbrev pub is_apart : Reply → Bool
is_apart r = is_special r || tells_value r

pub first_off : (a b : Bool) → (a || b) ≡ false → a ≡ false
first_off false b is = refl
first_off true b is = absurd (true_is_false is)

pub second_off : (a b : Bool) → (a || b) ≡ false → b ≡ false
second_off false b is = is
second_off true b is = absurd (true_is_false is)

-- ---- a delta lease

-- What a joining decides.
abbrev pub IsApartDelta : DeltaNext → Type 0
IsApartDelta (RefuseJoin r) = is_apart r ≡ false
IsApartDelta (ReadOwn step) = is_join_call FirstRead (Joining 0 step) ≡ false
IsApartDelta (RegisterAndRead step) = is_join_call FirstRead (Joining 0 step) ≡ false
IsApartDelta (EndLeaving j r) = ⊥
IsApartDelta (WriteFree j d) = ⊥
IsApartDelta n = Unit {0}

watched_apart : (l : DeltaLease) (first bytes : List ℕ) (n : DeltaNext) → IsApartDelta n → IsApartDelta (where_watched l first bytes n)
watched_apart l first bytes n h = on_bool IsApartDelta (bytes_eq first bytes) (RefuseJoin (id_held l.layout first bytes)) n refl h

claim_apart : (l : DeltaLease) (now : ℕ) (d : DeltaRec) → IsApartDelta (claim_on l now d)
claim_apart l now d =
    on_bool IsApartDelta (is_number (d.generation + 1)) (RefuseJoin (LimitReached GenLimit)) (elim (is_number (d.seq + 1)) [ false ↦ RefuseJoin (LimitReached SeqLimit) | true ↦ WriteClaim (delta_record l Claimed (d.generation + 1) (d.seq + 1) now no_bits) ]) refl
    (on_bool IsApartDelta (is_number (d.seq + 1)) (RefuseJoin (LimitReached SeqLimit)) (WriteClaim (delta_record l Claimed (d.generation + 1) (d.seq + 1) now no_bits)) refl tt)

read_apart : (l : DeltaLease) (ms : List Submitted) (now : ℕ) (m : Submitted) (bytes : List ℕ) (step : JoinStep) → IsApartDelta (next_after_join_read l ms now m bytes step)
unfolding next_after_first next_after_watch next_after_deciding next_after_verify
read_apart l ms now m bytes FirstRead =
    on_option IsApartDelta (delta_in (record_in l.layout bytes)) (RefuseJoin TornDelta)
    (λ d. elim (bytes_eq d.lockspace l.lockspace && d.id == l.id) [ false ↦ RefuseJoin (WrongDelta d.lockspace d.id) | true ↦ elim (is_free_state d.state) [ true ↦ RegisterAndRead DecidingRead | false ↦ Nothing ] ]) refl
    (λ d. on_bool IsApartDelta (bytes_eq d.lockspace l.lockspace && d.id == l.id) (RefuseJoin (WrongDelta d.lockspace d.id)) (elim (is_free_state d.state) [ true ↦ RegisterAndRead DecidingRead | false ↦ Nothing ]) refl
    (on_bool IsApartDelta (is_free_state d.state) Nothing (RegisterAndRead DecidingRead) tt refl))
read_apart l ms now m bytes WatchRead =
    watched_apart l (watched ms) bytes (elim (is_watched_out l.timing ms m.reading) [ true ↦ RegisterAndRead DecidingRead | false ↦ Nothing ])
    (on_bool IsApartDelta (is_watched_out l.timing ms m.reading) Nothing (RegisterAndRead DecidingRead) tt refl)
read_apart l ms now m bytes DecidingRead =
    watched_apart l (watched ms) bytes (elim (delta_in (record_in l.layout bytes)) [ None ↦ Nothing | Some d ↦ claim_on l now d ])
    (on_option IsApartDelta (delta_in (record_in l.layout bytes)) Nothing (λ d. claim_on l now d) tt (λ d. claim_apart l now d))
read_apart l ms now m bytes VerifyRead =
    on_option IsApartDelta (claim_of ms) Nothing
    (λ claim. elim (bytes_eq bytes (sector_with l.layout (DeltaIs claim))) [ false ↦ RefuseJoin (id_lost l claim bytes) | true ↦ elim (is_number (claim.seq + 1)) [ false ↦ RefuseJoin (LimitReached SeqLimit) | true ↦ WriteFirst (delta_record l Live claim.generation (claim.seq + 1) now no_bits) ] ])
    tt
    (λ claim. on_bool IsApartDelta (bytes_eq bytes (sector_with l.layout (DeltaIs claim))) (RefuseJoin (id_lost l claim bytes))
    (elim (is_number (claim.seq + 1)) [ false ↦ RefuseJoin (LimitReached SeqLimit) | true ↦ WriteFirst (delta_record l Live claim.generation (claim.seq + 1) now no_bits) ]) refl
    (on_bool IsApartDelta (is_number (claim.seq + 1)) (RefuseJoin (LimitReached SeqLimit)) (WriteFirst (delta_record l Live claim.generation (claim.seq + 1) now no_bits)) refl tt))
read_apart l ms now m bytes ClaimWrite = tt
read_apart l ms now m bytes FirstRenewal = tt

write_apart : (generation : ℕ) (m : Submitted) (step : JoinStep) → IsApartDelta (next_after_join_write generation m step)
write_apart generation m ClaimWrite = tt
write_apart generation m FirstRenewal = tt
write_apart generation m step = tt

pub joining_apart : (l : DeltaLease) (generation : ℕ) (ms : List Submitted) (now : ℕ) (m : Submitted) (step : JoinStep) (answer : Answer) → IsApartDelta (next_in_joining l generation ms now m step answer)
unfolding next_in_joining
joining_apart l generation ms now m step (Read bytes) = read_apart l ms now m bytes step
joining_apart l generation ms now m step Written = write_apart generation m step
joining_apart l generation ms now m step Failed = refl

watch_apart : (l : DeltaLease) (now answered : ℕ) → IsApartDelta (next_in_watch l now answered)
watch_apart l now answered = on_bool IsApartDelta (nat_le (answered + renew l.timing) now) Nothing (ReadOwn WatchRead) tt refl

wait_apart : (l : DeltaLease) (now claimed answered : ℕ) → IsApartDelta (next_after_claim l now claimed answered)
wait_apart l now claimed answered =
    on_bool IsApartDelta (nat_le (answered + dead l.timing) now) Nothing (elim (nat_lt (claimed + join_max l.timing) now) [ true ↦ RefuseJoin (IdLate claimed now) | false ↦ RegisterAndRead VerifyRead ]) tt
    (on_bool IsApartDelta (nat_lt (claimed + join_max l.timing) now) (RegisterAndRead VerifyRead) (RefuseJoin (IdLate claimed now)) refl refl)

time_apart : (l : DeltaLease) (now made answered : ℕ) (step : JoinStep) → IsApartDelta (next_by_time l now made answered step)
time_apart l now made answered FirstRead = watch_apart l now answered
time_apart l now made answered WatchRead = watch_apart l now answered
time_apart l now made answered ClaimWrite = wait_apart l now made answered
time_apart l now made answered step = tt

pub wake_apart : (l : DeltaLease) (now : ℕ) (ms : List Submitted) → IsApartDelta (next_on_wake l now ms)
unfolding next_on_wake
wake_apart l now [] = tt
wake_apart l now (m ∷ ms) =
    on_option IsApartDelta m.answer Nothing (λ a. elim (join_step_of m.call.purpose) [ None ↦ Nothing | Some step ↦ next_by_time l now m.reading a.reading step ]) tt
    (λ a. on_option IsApartDelta (join_step_of m.call.purpose) Nothing (λ step. next_by_time l now m.reading a.reading step) tt (λ step. time_apart l now m.reading a.reading step))

-- So none is special.
abbrev pub IsLateDelta : DeltaNext → Type 0
IsLateDelta (RefuseJoin r) = is_special r ≡ false
IsLateDelta (ReadOwn step) = is_join_call FirstRead (Joining 0 step) ≡ false
IsLateDelta (RegisterAndRead step) = is_join_call FirstRead (Joining 0 step) ≡ false
IsLateDelta (EndLeaving j r) = ⊥
IsLateDelta (WriteFree j d) = ⊥
IsLateDelta n = Unit {0}

late_delta : (n : DeltaNext) → IsApartDelta n → IsLateDelta n
late_delta (RefuseJoin r) h = first_off (is_special r) (tells_value r) h
late_delta (ReadOwn step) h = h
late_delta (RegisterAndRead step) h = h
late_delta (EndLeaving j r) h = h
late_delta (WriteFree j d) h = h
late_delta n h = tt

pub joining_late : (l : DeltaLease) (generation : ℕ) (ms : List Submitted) (now : ℕ) (m : Submitted) (step : JoinStep) (answer : Answer) → IsLateDelta (next_in_joining l generation ms now m step answer)
joining_late l generation ms now m step answer = late_delta (next_in_joining l generation ms now m step answer) (joining_apart l generation ms now m step answer)

pub wake_late : (l : DeltaLease) (now : ℕ) (ms : List Submitted) → IsLateDelta (next_on_wake l now ms)
wake_late l now ms = late_delta (next_on_wake l now ms) (wake_apart l now ms)

-- ---- a lease

-- No read that seeks a resource, nor one that is made once more.
abbrev pub IsNoSearch : LeaseStep → Type 0
IsNoSearch (ReadArea name) = ⊥
IsNoSearch (ReadAgain read) = ⊥
IsNoSearch step = Unit {0}

abbrev pub IsApartLease : LeaseNext → Type 0
IsApartLease (AnswerJob r) = is_apart r ≡ false
IsApartLease (ReadFor step) = IsNoSearch step
IsApartLease (WriteBlock step b) = IsNoSearch step
IsApartLease (WriteLeader step l) = IsNoSearch step
IsApartLease n = Unit {0}

refuses_apart : (aim : Aim) (r : Reply) → is_apart r ≡ false → IsApartLease (refuses aim r)
refuses_apart (Acquires mode) r h = h
refuses_apart (Converts mode) r h = h
refuses_apart Releases r h = h
refuses_apart Settles r h = tt

phase1_apart : (aim : Aim) (b : Block) → IsApartLease (phase1_next aim b)
phase1_apart aim b =
    on_bool IsApartLease (is_number b.lver) (refuses aim (LimitReached LverLimit)) (elim (is_number b.mbal) [ false ↦ refuses aim (LimitReached MbalLimit) | true ↦ WriteBlock Phase1Write b ]) (refuses_apart aim (LimitReached LverLimit) refl)
    (on_bool IsApartLease (is_number b.mbal) (refuses aim (LimitReached MbalLimit)) (WriteBlock Phase1Write b) (refuses_apart aim (LimitReached MbalLimit) refl) tt)

begin_apart : (p : LeasePlace) (k : LeaseKnown) (aim : Aim) (n : ℕ) → IsApartLease (begin_next p k aim n)
unfolding begin_next
begin_apart p k aim n =
    on_option IsApartLease (own_known k) No_lease (λ own. phase1_next aim (phase1_block k.self p.layout.hosts n k.shared (mode_gen_of k) own (present k.read))) tt
    (λ own. phase1_apart aim (phase1_block k.self p.layout.hosts n k.shared (mode_gen_of k) own (present k.read)))

owed_apart : (p : LeasePlace) (k : LeaseKnown) (o : Option Owed) → IsApartLease (settle_owed p k o)
owed_apart p k None = tt
owed_apart p k (Some (BallotOwed n)) = begin_apart p k Settles n
owed_apart p k (Some ModeOwed) = mapped_or IsApartLease (λ own. WriteBlock ClearMode (moded_block own false 0)) k.own No_lease (λ own. tt) tt
owed_apart p k (Some (FreeOwed n)) = tt

pub settle_apart : (p : LeasePlace) (k : LeaseKnown) → IsApartLease (settle_next p k)
unfolding settle_next
settle_apart p k = owed_apart p k (owed k)

reply_apart : (stop : Stop) → is_apart (stop_reply stop) ≡ false
reply_apart (BlockTorn host) = refl
reply_apart (BlockAhead host lver) = refl
reply_apart (BlockRival host mbal) = refl

stopped_apart : (p : LeasePlace) (k : LeaseKnown) (aim : Aim) (stop : Stop) → IsApartLease (stopped_next p k aim stop)
stopped_apart p k (Acquires mode) stop = reply_apart stop
stopped_apart p k (Converts mode) stop = reply_apart stop
stopped_apart p k Releases stop = reply_apart stop
stopped_apart p k Settles stop = on_bool IsApartLease (is_ahead stop) No_lease (settle_next p k) tt (settle_apart p k)

unstopped_apart : (k : LeaseKnown) (aim : Aim) (own : Block) (blocks : List (Option Block)) → IsApartLease (unstopped_next k aim own blocks)
unstopped_apart k aim own blocks =
    on_bool IsApartLease (looks_for_shared aim) (phase2_next k own blocks)
    (elim (shared_elsewhere k blocks) [ Some b ↦ AnswerJob (SharedBy (record { id = b.host; generation = b.mode_gen })) | None ↦ phase2_next k own blocks ]) tt
    (on_option IsApartLease (shared_elsewhere k blocks) (phase2_next k own blocks) (λ b. AnswerJob (SharedBy (record { id = b.host; generation = b.mode_gen }))) tt (λ b. refl))

phase1_read_apart : (p : LeasePlace) (k : LeaseKnown) (aim : Aim) (own : Block) (blocks : List (Option Block)) (o : Option Stop) → IsApartLease (after_phase1 p k aim own blocks o)
phase1_read_apart p k aim own blocks None = unstopped_apart k aim own blocks
phase1_read_apart p k aim own blocks (Some stop) = stopped_apart p k aim stop

won_apart : (p : LeasePlace) (k : LeaseKnown) (aim : Aim) (n : ℕ) → IsApartLease (won_next p k aim n)
won_apart p k (Acquires mode) n = tt
won_apart p k (Converts mode) n = tt
won_apart p k Releases n = tt
won_apart p k Settles n = tt

lost_apart : (p : LeasePlace) (k : LeaseKnown) (aim : Aim) (n : ℕ) (o : Owner) → IsApartLease (lost_next p k aim n o)
lost_apart p k (Acquires mode) n o = on_bool IsApartLease (k.over o.id o.generation) (AnswerJob (HeldBy n o)) (begin_next p k (Acquires mode) (n + 1)) refl (begin_apart p k (Acquires mode) (n + 1))
lost_apart p k (Converts mode) n o = on_bool IsApartLease (k.over o.id o.generation) (AnswerJob (HeldBy n o)) (begin_next p k (Converts mode) (n + 1)) refl (begin_apart p k (Converts mode) (n + 1))
lost_apart p k Releases n o = tt
lost_apart p k Settles n o = settle_apart p k

phase2_read_apart : (p : LeasePlace) (k : LeaseKnown) (aim : Aim) (own : Block) (o : Option Stop) → IsApartLease (after_phase2 p k aim own o)
phase2_read_apart p k aim own None =
    on_bool IsApartLease (same_owner (value_of own) k.self) (lost_next p k aim own.lver (value_of own)) (won_next p k aim own.lver) (lost_apart p k aim own.lver (value_of own)) (won_apart p k aim own.lver)
phase2_read_apart p k aim own (Some stop) = stopped_apart p k aim stop

instance_apart : (p : LeasePlace) (k : LeaseKnown) (aim : Aim) (i : Instance) → IsApartLease (begin_or_refuse p k aim i)
instance_apart p k aim (Begins n) = begin_apart p k aim n
instance_apart p k aim (HeldAlready lver owner) = refl

area_apart : (p : LeasePlace) (k : LeaseKnown) (aim : Aim) (name : List ℕ) (leader : Option Leader) (blocks : List (Option Block)) → IsApartLease (area_next p k aim name leader blocks)
unfolding area_next
area_apart p k aim name leader blocks =
    on_option IsApartLease leader (AnswerJob TornLeader)
    (λ l. elim (is_leader_of p.layout p.lockspace name l) [ false ↦ AnswerJob (WrongArea l.lockspace l.resource l.num_hosts) | true ↦ named_area_next p k aim l blocks ]) refl
    (λ l. on_bool IsApartLease (is_leader_of p.layout p.lockspace name l) (AnswerJob (WrongArea l.lockspace l.resource l.num_hosts)) (named_area_next p k aim l blocks) refl
    (on_option IsApartLease (position is_none blocks) (whole_area_next p k aim l blocks) (λ i. AnswerJob (TornBlock (i + 1)))
    (mapped_or IsApartLease (λ own. begin_or_refuse p k aim (instance_for k l own blocks)) (own_known k) No_lease (λ own. instance_apart p k aim (instance_for k l own blocks)) tt) (λ i. refl)))

lease_read_apart : (p : LeasePlace) (k : LeaseKnown) (aim : Aim) (leader : Option Leader) (blocks : List (Option Block)) (step : LeaseStep) → IsApartLease (after_read p k aim leader blocks step)
lease_read_apart p k aim leader blocks (ReadArea name) = area_apart p k aim name leader blocks
lease_read_apart p k aim leader blocks ReadBeforeFree = mapped_or IsApartLease (λ n. WriteLeader FreeLeader (leader_for p k false n)) (owed_free k) No_lease (λ n. tt) tt
lease_read_apart p k aim leader blocks ReadBeforeBlock = settle_apart p k
lease_read_apart p k aim leader blocks Phase1Read =
    mapped_or IsApartLease (λ own. after_phase1 p k aim own blocks (stop_of own blocks)) k.own No_lease (λ own. phase1_read_apart p k aim own blocks (stop_of own blocks)) tt
lease_read_apart p k aim leader blocks Phase2Read =
    mapped_or IsApartLease (λ own. after_phase2 p k aim own (stop_of own blocks)) k.own No_lease (λ own. phase2_read_apart p k aim own (stop_of own blocks)) tt
lease_read_apart p k aim leader blocks step = tt

-- Or a read is made once more, which is the one of this step.
abbrev pub IsApartFrom : LeaseStep → LeaseNext → Type 0
IsApartFrom step (ReadFor (ReadAgain read)) = read_of_step step ≡ Some read
IsApartFrom step n = IsApartLease n

apart_from : (step : LeaseStep) (n : LeaseNext) → IsApartLease n → IsApartFrom step n
apart_from step (ReadFor (ReadAgain read)) h = absurd h
apart_from step n h = h

bytes_apart : (p : LeasePlace) (k : LeaseKnown) (aim : Aim) (bytes : List ℕ) (step : LeaseStep) → IsApartFrom step (after_bytes p k aim bytes step)
bytes_apart p k aim bytes step =
    let r : BlocksRead = heard p.layout k bytes step in
    let n : LeaseNext = after_read p k aim (leader_read p.layout bytes r) (blocks_of p.layout r) (first_step step) in
    bytes_are (IsApartFrom step) p k aim bytes step (λ read asked. (asked_is p.layout bytes step read asked).first)
    (λ once. apart_from step n (lease_read_apart p k aim (leader_read p.layout bytes r) (blocks_of p.layout r) (first_step step)))

taken_apart : (k : LeaseKnown) (aim : Aim) (n : ℕ) → IsApartLease (after_take k aim n)
taken_apart k (Acquires Exclusive) n = tt
taken_apart k (Acquires Shared) n = mapped_or IsApartLease (λ own. WriteBlock SetMode (moded_block own true k.self.generation)) k.own No_lease (λ own. tt) tt
taken_apart k (Converts Exclusive) n = mapped_or IsApartLease (λ own. BecomeExclusive n (moded_block own false 0)) k.own No_lease (λ own. tt) tt
taken_apart k (Converts Shared) n = tt
taken_apart k Releases n = tt
taken_apart k Settles n = tt

moded_apart : (p : LeasePlace) (k : LeaseKnown) (aim : Aim) (n : ℕ) → IsApartLease (after_moding p k aim n)
moded_apart p k (Acquires mode) n = tt
moded_apart p k (Converts mode) n = mapped_or IsApartLease (λ e. BecomeShared e (leader_for p k false e)) k.exclusive No_lease (λ e. tt) tt
moded_apart p k Releases n = tt
moded_apart p k Settles n = tt

leader_freed_apart : (p : LeasePlace) (k : LeaseKnown) (aim : Aim) (n : ℕ) → IsApartLease (after_freeing p k aim n)
leader_freed_apart p k (Acquires mode) n = tt
leader_freed_apart p k (Converts mode) n = tt
leader_freed_apart p k Releases n = refl
leader_freed_apart p k Settles n = settle_apart p k

cleared_apart : (p : LeasePlace) (k : LeaseKnown) (aim : Aim) → IsApartLease (after_clearing p k aim)
cleared_apart p k (Acquires mode) = tt
cleared_apart p k (Converts mode) = tt
cleared_apart p k Releases = refl
cleared_apart p k Settles = settle_apart p k

lease_write_apart : (p : LeasePlace) (k : LeaseKnown) (aim : Aim) (n : ℕ) (step : LeaseStep) → IsApartLease (after_write p k aim n step)
lease_write_apart p k aim n Phase1Write = tt
lease_write_apart p k aim n Phase2Write = tt
lease_write_apart p k aim n TakeLeader = taken_apart k aim n
lease_write_apart p k aim n SetMode = moded_apart p k aim n
lease_write_apart p k aim n FreeLeader = leader_freed_apart p k aim n
lease_write_apart p k aim n ClearMode = cleared_apart p k aim
lease_write_apart p k aim n step = tt

lease_apart : (p : LeasePlace) (k : LeaseKnown) (aim : Aim) (call n : ℕ) (step : LeaseStep) (answer : Answer) → IsApartFrom step (lease_next p k aim call n step answer)
unfolding lease_next
lease_apart p k aim call n step (Read bytes) = bytes_apart p k aim bytes step
lease_apart p k aim call n step Written = apart_from step (after_write p k aim n step) (lease_write_apart p k aim n step)
lease_apart p k aim call n step Failed = apart_from step (refuses aim (IoFault call)) (refuses_apart aim (IoFault call) refl)

pub release_apart : (p : LeasePlace) (k : LeaseKnown) (mode : Mode) (n : ℕ) → IsApartLease (release_next p k mode n)
release_apart p k Exclusive n = tt
release_apart p k Shared n = mapped_or IsApartLease (λ own. WriteBlock ClearMode (moded_block own false 0)) k.own No_lease (λ own. tt) tt

-- Nor by the limit of turns, nor where a settling reads first.
within_apart : (p : LeasePlace) (k : LeaseKnown) (aim : Aim) (n : LeaseNext) → IsApartLease n → IsApartLease (within_turn p k aim n)
within_apart p k aim n h = within_cases IsApartLease p k aim n (λ fits. h) (λ paired over writes. refuses_apart aim (LimitReached TurnLimit) refl)

pub lease_within : (p : LeasePlace) (k : LeaseKnown) (aim : Aim) (call n : ℕ) (step : LeaseStep) (answer : Answer) → IsApartFrom step (within_turn p k aim (lease_next p k aim call n step answer))
lease_within p k aim call n step answer =
    within_cases (IsApartFrom step) p k aim (lease_next p k aim call n step answer) (λ fits. lease_apart p k aim call n step answer)
    (λ paired over writes. apart_from step (refuses aim (LimitReached TurnLimit)) (refuses_apart aim (LimitReached TurnLimit) refl))

-- So none of a lease is special.
abbrev pub IsLateLease : LeaseNext → Type 0
IsLateLease (AnswerJob r) = is_special r ≡ false
IsLateLease n = Unit {0}

late_lease : (n : LeaseNext) → IsApartLease n → IsLateLease n
late_lease (AnswerJob r) h = first_off (is_special r) (tells_value r) h
late_lease n h = tt

pub late_from : (step : LeaseStep) (n : LeaseNext) → IsApartFrom step n → IsLateLease n
late_from step (AnswerJob r) h = first_off (is_special r) (tells_value r) h
late_from step n h = tt

pub settle_within : (st : Setting) (es : Trace) (s : Session) (at : Spot) → IsApartLease (next_of_settling st es s at)
settle_within st es s at = settling_is IsApartLease st es s at (λ paired owes. tt) (λ none. settle_apart (lease_place st s) (known st es s at))

pub settle_late : (st : Setting) (es : Trace) (s : Session) (at : Spot) → IsLateLease (next_of_settling st es s at)
settle_late st es s at = late_lease (next_of_settling st es s at) (settle_within st es s at)

pub lease_late : (p : LeasePlace) (k : LeaseKnown) (aim : Aim) (call n : ℕ) (step : LeaseStep) (answer : Answer) → IsLateLease (within_turn p k aim (lease_next p k aim call n step answer))
lease_late p k aim call n step answer = late_from step (within_turn p k aim (lease_next p k aim call n step answer)) (lease_within p k aim call n step answer)

pub release_within : (p : LeasePlace) (k : LeaseKnown) (mode : Mode) (n : ℕ) → IsApartLease (within_turn p k Releases (release_next p k mode n))
release_within p k mode n = within_apart p k Releases (release_next p k mode n) (release_apart p k mode n)

pub release_late : (p : LeasePlace) (k : LeaseKnown) (mode : Mode) (n : ℕ) → IsLateLease (within_turn p k Releases (release_next p k mode n))
release_late p k mode n = late_lease (within_turn p k Releases (release_next p k mode n)) (release_within p k mode n)

-- A conversion begins with no special reply.
abbrev pub IsPlainly : LeaseNext → Type 0
IsPlainly (AnswerJob r) = is_special r ≡ false
IsPlainly n = Unit {0}

convert_by : (k : LeaseKnown) (mode : Mode) (name : List ℕ) → IsPlainly (convert_next k mode name)
convert_by k Exclusive name = tt
convert_by k Shared name = mapped_or IsPlainly (λ own. WriteBlock SetMode (moded_block own true k.self.generation)) k.own No_lease (λ own. tt) tt

pub convert_late : (p : LeasePlace) (k : LeaseKnown) (mode : Mode) (name : List ℕ) → IsPlainly (within_turn p k (Converts mode) (convert_next k mode name))
convert_late p k mode name = within_cases IsPlainly p k (Converts mode) (convert_next k mode name) (λ fits. convert_by k mode name) (λ paired over writes. refl)

-- ---- a value

pub value_late : (g : Layout) (bytes : List ℕ) → is_special (value_reply g bytes) ≡ false
value_late g bytes = on_option (λ r. is_special r ≡ false) (value_in (record_in g bytes)) ValueTorn (λ v. Value v.lver v.seq v.bytes) refl (λ v. refl)

pub set_late : (m : Submitted) → is_special (set_reply m) ≡ false
set_late m = mapped_or (λ r. is_special r ≡ false) (λ v. ValueSet v.lver v.seq) (value_written m) Done (λ v. refl) refl

-- ---- a request

pub request_apart : (g : Layout) (lockspace : List ℕ) (r : ResourceArg) (asked force : ℕ) (bytes : List ℕ) (why : Reply) → request_refusal g lockspace r asked force bytes ≡ Some why → is_apart why ≡ false
unfolding request_refusal
request_apart g lockspace r asked force bytes why is =
    on_option (λ (o : Option Reply). o ≡ Some why → is_apart why ≡ false) (leader_of g bytes) (Some TornLeader)
    (λ l. elim (is_leader_of g lockspace r.name l) [
      | false ↦ Some (WrongArea l.lockspace l.resource l.num_hosts)
      | true ↦ elim (request_in (read_at g bytes 1)) [
        | None ↦ choose (not (asked == 0)) (RequestOld l.lver None)
        | Some q ↦ choose (not (check_request l.lver q.lver asked force)) (RequestOld l.lver (Some q.lver))
      ]
    ])
    (λ h. late TornLeader h refl)
    (λ l. on_bool (λ (o : Option Reply). o ≡ Some why → is_apart why ≡ false) (is_leader_of g lockspace r.name l) (Some (WrongArea l.lockspace l.resource l.num_hosts))
    (elim (request_in (read_at g bytes 1)) [
      | None ↦ choose (not (asked == 0)) (RequestOld l.lver None)
      | Some q ↦ choose (not (check_request l.lver q.lver asked force)) (RequestOld l.lver (Some q.lver))
    ])
    (λ h. late (WrongArea l.lockspace l.resource l.num_hosts) h refl)
    (on_option (λ (o : Option Reply). o ≡ Some why → is_apart why ≡ false) (request_in (read_at g bytes 1)) (choose (not (asked == 0)) (RequestOld l.lver None))
    (λ q. choose (not (check_request l.lver q.lver asked force)) (RequestOld l.lver (Some q.lver)))
    (λ h. old (not (asked == 0)) (RequestOld l.lver None) refl h) (λ q h. old (not (check_request l.lver q.lver asked force)) (RequestOld l.lver (Some q.lver)) refl h))) is
  where
    late : (r : Reply) → Some r ≡ Some why → is_apart r ≡ false → is_apart why ≡ false
    late r h k = subst (λ z. is_apart z ≡ false) (some_value r why h) k

    old : (b : Bool) (r : Reply) → is_apart r ≡ false → choose b r ≡ Some why → is_apart why ≡ false
    old b r k h = subst (λ z. is_apart z ≡ false) (choose_some b r why h).1 k

pub request_late : (g : Layout) (lockspace : List ℕ) (r : ResourceArg) (asked force : ℕ) (bytes : List ℕ) (why : Reply) → request_refusal g lockspace r asked force bytes ≡ Some why → is_special why ≡ false
request_late g lockspace r asked force bytes why is = first_off (is_special why) (tells_value why) (request_apart g lockspace r asked force bytes why is)
