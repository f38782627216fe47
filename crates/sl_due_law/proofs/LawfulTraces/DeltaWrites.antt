-- What a delta lease decides to write is a record.
use Rattle.sl_due_facts.specs.Acts.Acts.{Has}
use Rattle.sl_area.specs.AreaSizes.{record_in, sector_with}
use Rattle.sl_due.specs.DueRequests.{bits_due}
use Rattle.sl_due.specs.Steps.{Step, seen}
use Rattle.sl_due_law.proofs.LawfulTraces.OwnRecords.{bits_of_hosts, delta_is, fits_it, no_bits_bytes}
use Rattle.sl_run.specs.LawfulDelta.{LawfulDeltaCall}
use Rattle.sl_words.proofs.Lists.{find_inside, got_inside, kept_inside}
use Rattle.sl_words.proofs.Options.{not_some, then_value}
use Rattle.sl_sector.specs.Bitmaps.{no_bits}
use Rattle.sl_sector.specs.Records.{AreBytes, Fits, IsDelta, IsRecord}
use Rattle.sl_sector.specs.SectorLayouts.{delta_in}
use Rattle.sl_sector.specs.declared.sector.DeltaRec.{DeltaRec}
use Rattle.sl_sector.specs.declared.sector.DeltaState.{DeltaState}
use Rattle.sl_sector.specs.declared.sector.DeltaState.TheVariants.{Claimed, Free, Live}
use Rattle.sl_sector.specs.declared.sector.Rec.TheVariants.{BlockIs, DeltaIs, LeaderIs, PairIs, PairLeaderIs, RequestIs, ValueIs}
use Rattle.sl_sector.specs.declared.sector.Rec.{Rec}
use Rattle.sl_due_facts.proofs.Sessions.JoinedNumbers.{HasNumbers, spelled_of}
use Rattle.sl_trace.specs.DeltaDecisions.{claim_of, claim_on, delta_known, delta_of_session, delta_record, has_seq_left, id_held, id_lost, is_renewal_due, is_watched_out, join_step_of, next_after_deciding, next_after_first, next_after_join_read, next_after_verify, next_after_watch, next_by_time, next_free, next_in_joining, next_on_wake, next_renewal, watched, DeltaLease}
use Rattle.sl_trace.specs.Sessions.{calls_of, delta_of_record, delta_written, free_write, generation_of, is_call_of, is_join_call, is_joined, join_call, last_seq, leaving_job, sessions}
use Rattle.sl_trace.specs.Sightings.{is_free_state}
use Rattle.sl_trace.specs.declared.delta.DeltaKnown.{DeltaKnown}
use Rattle.sl_trace.specs.declared.delta.DeltaNext.{DeltaNext}
use Rattle.sl_trace.specs.declared.delta.DeltaNext.TheVariants.{Nothing, ReadOwn, RefuseJoin, RegisterAndRead, WriteClaim, WriteFirst, WriteFree, WriteRenewal}
use Rattle.sl_trace.specs.declared.session.Session.{Session}
use Rattle.sl_due_facts.specs.Facts.AllFacts.{Whole}
use Rattle.sl_time.specs.Times.{dead, join_max, renew}
use Rattle.sl_trace.specs.Traces.{Job, Submitted, record_of, submitted}
use Rattle.sl_trace.specs.declared.effects.JoinStep.{JoinStep}
use Rattle.sl_trace.specs.declared.effects.JoinStep.TheVariants.{ClaimWrite, DecidingRead, FirstRead, FirstRenewal, VerifyRead, WatchRead}
use Rattle.sl_trace.specs.declared.effects.Purpose.{Purpose}
use Rattle.sl_trace.specs.declared.effects.Purpose.TheVariants.{Joining, Lease, Leaving, Renewal, RequestRead, RequestWrite, SeeRequest, Survey, ValueRead, ValueWrite}
use Rattle.sl_trace.specs.declared.input.Answer.{Answer}
use Rattle.sl_trace.specs.declared.input.Answer.TheVariants.{Failed, Read, Written}
use Rattle.sl_trace.specs.declared.reply.Limited.TheVariants.{Gen as GenLimit, Seq as SeqLimit}
use Rattle.sl_trace.specs.declared.reply.Reply.TheVariants.{IdLate, Limit as LimitReached, TornDelta, WrongDelta}
use Rattle.sl_run_law.proofs.Sessions.CallOwners.{calls_were_lawful}
use Rattle.sl_run_law.specs.Sessions.SessionLaws.{WasLawful, front_of, made_as}
use Rattle.sl_words.proofs.CaseLaws.{false_is_true, none_some, one_value, some_value}
use Rattle.sl_words.proofs.WordLaws.{and_true}
use Rattle.sl_words.specs.Bounds.{is_number, moments}
use Rattle.std.proofs.Common.{ap, arith, refl, subst}
use Rattle.std.proofs.lemmas.Bool.{eqb-true}
use Rattle.std.specs.Prelude.{Bool, Contains, List, None, Option, Some, [], bytes_eq, false, is_some, nat_le, nat_lt, not, option_map, true, ℕ, ◌&&◌, ◌+◌, ◌<◌, ◌==◌, ◌∷◌, ◌≡◌, ◌≤◌}

-- What is written next, if anything is, is a record.
abbrev pub WritesRecord : DeltaNext → Type 0
WritesRecord (WriteClaim d) = IsDelta d
WritesRecord (WriteFirst d) = IsDelta d
WritesRecord (WriteRenewal d) = IsDelta d
WritesRecord (WriteFree j d) = IsDelta d
WritesRecord n = Unit {0}

-- ---- by a test and by what there is

by_test : (b : Bool) (f t : DeltaNext) → (b ≡ false → WritesRecord f) → (b ≡ true → WritesRecord t) → WritesRecord (elim b as (λ z. DeltaNext) [ false ↦ f | true ↦ t ])
by_test false f t h k = h refl
by_test true f t h k = k refl

by_some : {A : Type 0} (o : Option A) (none : DeltaNext) (f : A → DeltaNext) → WritesRecord none → ((a : A) → o ≡ Some a → WritesRecord (f a)) → WritesRecord (elim o as (λ z. DeltaNext) [ None ↦ none | Some a ↦ f a ])
by_some None none f h k = h
by_some (Some a) none f h k = k a refl

-- ---- a record of the session at this moment

now_below : (x : Step) → Whole x → x.reading < moments
now_below x w = w.orderly.is_trace.0.below

written_now : (x : Step) (s : Session) (state : DeltaState) (generation seq : ℕ) (bits : List ℕ) → Whole x → Has x s → 1 ≤ generation → Fits generation → Fits seq → AreBytes 250 bits
    → IsDelta (delta_record (delta_of_session x.setting s) state generation seq x.reading bits)
written_now x s state generation seq bits w has some gen sq bytes =
    delta_is x.setting (seen x) s state generation seq x.reading bits w.setting (got_inside (sessions x.setting (seen x)) s.number s has) some gen sq (now_below x w) bytes

-- ---- the claim that was submitted

delta_record_is : (r : Rec) (d : DeltaRec) → delta_of_record r ≡ Some d → r ≡ DeltaIs d
delta_record_is (DeltaIs e) d is = ap (λ z. DeltaIs z) (some_value e d is)
delta_record_is (LeaderIs l) d is = absurd (none_some d is)
delta_record_is (BlockIs b) d is = absurd (none_some d is)
delta_record_is (RequestIs q) d is = absurd (none_some d is)
delta_record_is (ValueIs v) d is = absurd (none_some d is)
delta_record_is (PairIs p) d is = absurd (none_some d is)
delta_record_is (PairLeaderIs l) d is = absurd (none_some d is)

above : (n : ℕ) → 1 ≤ n + 1
above n = omega arith

claim_numbers : (x : Step) (s : Session) (claim : DeltaRec) → Whole x → Has x s → claim_of (calls_of (seen x) s) ≡ Some claim → (1 ≤ claim.generation) × Fits claim.generation
claim_numbers x s claim w has is =
    let v = then_value delta_written (join_call (calls_of (seen x) s) ClaimWrite) claim is in
    let found = find_inside (λ (m : Submitted). is_join_call ClaimWrite m.call.purpose) (calls_of (seen x) s) v.0 v.1 in
    let mine = kept_inside (is_call_of s) (submitted (seen x)) v.0 found.0 in
    let its : v.0.call.session ≡ s.number = eqb-true v.0.call.session s.number mine.1 in
    let law : WasLawful x.setting (seen x) s v.0 = calls_were_lawful x.setting (seen x) s v.0 w.orderly has mine.0 its in
    let wrote = then_value delta_of_record (record_of v.0.call.op) claim v.2 in
    let good : IsDelta claim = subst (λ (r : Rec). IsRecord r) (delta_record_is wrote.0 claim wrote.2) (spelled_of x.setting (seen x) v.0 wrote.0 w.orderly mine.0 wrote.1) in
    (by v.0 law v.2 v.0.call.purpose found.1 law.lawful, good.generation) where
      by : (m : Submitted) (law : WasLawful x.setting (seen x) s m) → delta_written m ≡ Some claim → (p : Purpose) → is_join_call ClaimWrite p ≡ true → LawfulDeltaCall x.setting (front_of law.made) s (made_as law.made) p → 1 ≤ claim.generation
      by m law writes (Joining i ClaimWrite) at l =
          subst (λ (d : DeltaRec). 1 ≤ d.generation)
          (one_value (delta_record (delta_of_session x.setting s) Claimed (l.found.generation + 1) (l.found.seq + 1) (made_as law.made).reading no_bits) claim (delta_written m) l.written writes) (above l.found.generation)
      by m law writes (Joining i FirstRead) at l = absurd (false_is_true at)
      by m law writes (Joining i WatchRead) at l = absurd (false_is_true at)
      by m law writes (Joining i DecidingRead) at l = absurd (false_is_true at)
      by m law writes (Joining i VerifyRead) at l = absurd (false_is_true at)
      by m law writes (Joining i FirstRenewal) at l = absurd (false_is_true at)
      by m law writes Renewal at l = absurd (false_is_true at)
      by m law writes Survey at l = absurd (false_is_true at)
      by m law writes (Leaving i) at l = absurd (false_is_true at)
      by m law writes (Lease work step) at l = absurd (false_is_true at)
      by m law writes (RequestRead i) at l = absurd (false_is_true at)
      by m law writes (RequestWrite i owner) at l = absurd (false_is_true at)
      by m law writes SeeRequest at l = absurd (false_is_true at)
      by m law writes (ValueWrite i) at l = absurd (false_is_true at)
      by m law writes (ValueRead i) at l = absurd (false_is_true at)

-- ---- joining

claims_well : (x : Step) (s : Session) (d : DeltaRec) → Whole x → Has x s → WritesRecord (claim_on (delta_of_session x.setting s) x.reading d)
claims_well x s d w has =
    by_test (is_number (d.generation + 1)) (RefuseJoin (LimitReached GenLimit))
    (elim (is_number (d.seq + 1)) [ false ↦ RefuseJoin (LimitReached SeqLimit) | true ↦ WriteClaim (delta_record (delta_of_session x.setting s) Claimed (d.generation + 1) (d.seq + 1) x.reading no_bits) ]) (λ e. tt)
    (λ gen. by_test (is_number (d.seq + 1)) (RefuseJoin (LimitReached SeqLimit)) (WriteClaim (delta_record (delta_of_session x.setting s) Claimed (d.generation + 1) (d.seq + 1) x.reading no_bits)) (λ e. tt)
    (λ sq. written_now x s Claimed (d.generation + 1) (d.seq + 1) no_bits w has (above d.generation) (fits_it (d.generation + 1) gen) (fits_it (d.seq + 1) sq) no_bits_bytes))

read_well : (x : Step) (s : Session) (m : Submitted) (bytes : List ℕ) (step : JoinStep) → Whole x → Has x s → WritesRecord (next_after_join_read (delta_of_session x.setting s) (calls_of (seen x) s) x.reading m bytes step)
unfolding next_after_first next_after_watch next_after_deciding next_after_verify
read_well x s m bytes FirstRead w has =
    by_some (delta_in (record_in x.setting.layout bytes)) (RefuseJoin TornDelta)
    (λ d. elim (bytes_eq d.lockspace s.lockspace && d.id == s.id) [ false ↦ RefuseJoin (WrongDelta d.lockspace d.id) | true ↦ elim (is_free_state d.state) [ true ↦ RegisterAndRead DecidingRead | false ↦ Nothing ] ]) tt
    (λ d is. by_test (bytes_eq d.lockspace s.lockspace && d.id == s.id) (RefuseJoin (WrongDelta d.lockspace d.id)) (elim (is_free_state d.state) [ true ↦ RegisterAndRead DecidingRead | false ↦ Nothing ]) (λ e. tt)
    (λ e. by_test (is_free_state d.state) Nothing (RegisterAndRead DecidingRead) (λ z. tt) (λ z. tt)))
read_well x s m bytes WatchRead w has =
    by_test (bytes_eq (watched (calls_of (seen x) s)) bytes) (RefuseJoin (id_held x.setting.layout (watched (calls_of (seen x) s)) bytes))
    (elim (is_watched_out x.setting.timing (calls_of (seen x) s) m.reading) [ true ↦ RegisterAndRead DecidingRead | false ↦ Nothing ]) (λ e. tt)
    (λ e. by_test (is_watched_out x.setting.timing (calls_of (seen x) s) m.reading) Nothing (RegisterAndRead DecidingRead) (λ z. tt) (λ z. tt))
read_well x s m bytes DecidingRead w has =
    by_test (bytes_eq (watched (calls_of (seen x) s)) bytes) (RefuseJoin (id_held x.setting.layout (watched (calls_of (seen x) s)) bytes))
    (elim (delta_in (record_in x.setting.layout bytes)) [ None ↦ Nothing | Some d ↦ claim_on (delta_of_session x.setting s) x.reading d ]) (λ e. tt)
    (λ e. by_some (delta_in (record_in x.setting.layout bytes)) Nothing (λ d. claim_on (delta_of_session x.setting s) x.reading d) tt (λ d is. claims_well x s d w has))
read_well x s m bytes VerifyRead w has =
    by_some (claim_of (calls_of (seen x) s)) Nothing
    (λ claim. elim (bytes_eq bytes (sector_with x.setting.layout (DeltaIs claim))) [
      | false ↦ RefuseJoin (id_lost (delta_of_session x.setting s) claim bytes)
      | true ↦ elim (is_number (claim.seq + 1)) [ false ↦ RefuseJoin (LimitReached SeqLimit) | true ↦ WriteFirst (delta_record (delta_of_session x.setting s) Live claim.generation (claim.seq + 1) x.reading no_bits) ]
    ]) tt
    (λ claim is. by_test (bytes_eq bytes (sector_with x.setting.layout (DeltaIs claim))) (RefuseJoin (id_lost (delta_of_session x.setting s) claim bytes))
    (elim (is_number (claim.seq + 1)) [ false ↦ RefuseJoin (LimitReached SeqLimit) | true ↦ WriteFirst (delta_record (delta_of_session x.setting s) Live claim.generation (claim.seq + 1) x.reading no_bits) ]) (λ e. tt)
    (λ e. by_test (is_number (claim.seq + 1)) (RefuseJoin (LimitReached SeqLimit)) (WriteFirst (delta_record (delta_of_session x.setting s) Live claim.generation (claim.seq + 1) x.reading no_bits)) (λ z. tt)
    (λ sq. let n = claim_numbers x s claim w has is in written_now x s Live claim.generation (claim.seq + 1) no_bits w has n.0 n.1 (fits_it (claim.seq + 1) sq) no_bits_bytes)))
read_well x s m bytes ClaimWrite w has = tt
read_well x s m bytes FirstRenewal w has = tt

-- After an answer of a joining.
pub joins_well : (x : Step) (s : Session) (m : Submitted) (step : JoinStep) (answer : Answer) → Whole x → Has x s
    → WritesRecord (next_in_joining (delta_of_session x.setting s) (generation_of (seen x) s) (calls_of (seen x) s) x.reading m step answer)
unfolding next_in_joining
joins_well x s m step (Read bytes) w has = read_well x s m bytes step w has
joins_well x s m step Failed w has = tt
joins_well x s m FirstRead Written w has = tt
joins_well x s m WatchRead Written w has = tt
joins_well x s m DecidingRead Written w has = tt
joins_well x s m VerifyRead Written w has = tt
joins_well x s m ClaimWrite Written w has = tt
joins_well x s m FirstRenewal Written w has = tt

time_well : (l : DeltaLease) (now made answered : ℕ) (step : JoinStep) → WritesRecord (next_by_time l now made answered step)
time_well l now made answered FirstRead = by_test (nat_le (answered + renew l.timing) now) Nothing (ReadOwn WatchRead) (λ e. tt) (λ e. tt)
time_well l now made answered WatchRead = by_test (nat_le (answered + renew l.timing) now) Nothing (ReadOwn WatchRead) (λ e. tt) (λ e. tt)
time_well l now made answered ClaimWrite =
    by_test (nat_le (answered + dead l.timing) now) Nothing (elim (nat_lt (made + join_max l.timing) now) [ true ↦ RefuseJoin (IdLate made now) | false ↦ RegisterAndRead VerifyRead ]) (λ e. tt)
    (λ e. by_test (nat_lt (made + join_max l.timing) now) (RegisterAndRead VerifyRead) (RefuseJoin (IdLate made now)) (λ z. tt) (λ z. tt))
time_well l now made answered step = tt

-- On a wake.
pub wakes_well : (l : DeltaLease) (now : ℕ) (ms : List Submitted) → WritesRecord (next_on_wake l now ms)
unfolding next_on_wake
wakes_well l now [] = tt
wakes_well l now (m ∷ ms) =
    by_some m.answer Nothing (λ a. elim (join_step_of m.call.purpose) [ None ↦ Nothing | Some step ↦ next_by_time l now m.reading a.reading step ]) tt
    (λ a is. by_some (join_step_of m.call.purpose) Nothing (λ step. next_by_time l now m.reading a.reading step) tt (λ step at. time_well l now m.reading a.reading step))

-- ---- renewals and frees

seq_left : (leaving : Option ℕ) (freed : Bool) (seq : ℕ) → (elim leaving as (λ z. Bool) [ None ↦ is_number (seq + 1) | Some j ↦ not freed && is_number (seq + 2) ]) ≡ true → Fits (seq + 1)
seq_left None freed seq h = fits_it (seq + 1) h
seq_left (Some j) freed seq h = let two : Fits (seq + 2) = fits_it (seq + 2) (and_true (not freed) (is_number (seq + 2)) h).1 in omega (arith, two)

pub renews_well : (x : Step) (s : Session) → Whole x → Has x s → is_joined (seen x) s ≡ true
    → WritesRecord (next_renewal (delta_of_session x.setting s) x.reading (delta_known x.setting (seen x) s) (bits_due x.setting (calls_of (seen x) s) x.reading))
unfolding next_renewal
renews_well x s w has joined =
    by_test (is_renewal_due l x.reading k) Nothing (WriteRenewal (delta_record l Live k.generation (k.seq + 1) x.reading (bits_due x.setting (calls_of (seen x) s) x.reading))) (λ e. tt)
    (λ due. written_now x s Live (generation_of (seen x) s) (last_seq (seen x) s + 1) (bits_due x.setting (calls_of (seen x) s) x.reading) w has n.0 (fits_it (generation_of (seen x) s) n.1)
    (seq_left k.leaving k.freed k.seq (and_true (not k.recovering && nat_le (k.renewed + renew l.timing) x.reading && not k.busy) (has_seq_left k) due).1) (bits_of_hosts x.setting _ w.setting)) where
      l : DeltaLease
      l = delta_of_session x.setting s

      k : DeltaKnown
      k = delta_known x.setting (seen x) s

      n : HasNumbers (seen x) s
      n = w.facts.delta.numbers s (got_inside (sessions x.setting (seen x)) s.number s has) joined

pub frees_well : (x : Step) (s : Session) → Whole x → Has x s → is_joined (seen x) s ≡ true → WritesRecord (next_free (delta_of_session x.setting s) x.reading (delta_known x.setting (seen x) s))
frees_well x s w has joined = by (leaving_job x.setting (seen x) s) (is_some (free_write (calls_of (seen x) s))) refl refl where
  inside : Contains (sessions x.setting (seen x)) s
  inside = got_inside (sessions x.setting (seen x)) s.number s has

  by : (o : Option Job) (b : Bool) → leaving_job x.setting (seen x) s ≡ o → is_some (free_write (calls_of (seen x) s)) ≡ b
      → WritesRecord (elim (option_map (λ (k : Job). k.number) o) as (λ z. DeltaNext) [
        | None ↦ Nothing
        | Some i ↦ elim b as (λ z. DeltaNext) [ true ↦ Nothing | false ↦ WriteFree i (delta_record (delta_of_session x.setting s) Free (generation_of (seen x) s) (last_seq (seen x) s + 1) x.reading no_bits) ]
      ])
  by None b leaves_none unfreed = tt
  by (Some i) true leaves_one freed = tt
  by (Some i) false leaves_one unfreed =
      let n = w.facts.delta.numbers s inside joined in
      let sq = w.facts.delta.left s i inside joined leaves_one (not_some (free_write (calls_of (seen x) s)) unfreed) in
      written_now x s Free (generation_of (seen x) s) (last_seq (seen x) s + 1) no_bits w has n.0 (fits_it (generation_of (seen x) s) n.1) (fits_it (last_seq (seen x) s + 1) sq) no_bits_bytes
