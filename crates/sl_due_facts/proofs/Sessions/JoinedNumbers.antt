-- A session that joins has a generation and a seq that records can carry: its first renewal was one.
use Rattle.sl_area.specs.AreaSizes.{record_in, sector_with}
use Rattle.sl_due.specs.Steps.{Step, seen}
use Rattle.sl_due_facts.proofs.Jobs.RepliesComeAfter.{on_bool, on_option}
use Rattle.sl_run.specs.Lawful.{Orderly}
use Rattle.sl_run.specs.LawfulCalls.{LawfulCalls}
use Rattle.sl_run.specs.LawfulDelta.{LawfulFirstRenewal}
use Rattle.sl_words.proofs.Lists.{contains_cases, contains_none, got_inside, kept}
use Rattle.sl_words.proofs.Numbers.{number_itself}
use Rattle.sl_words.proofs.Options.{then_value}
use Rattle.sl_sector.specs.Bitmaps.{no_bits}
use Rattle.sl_sector.specs.Records.{IsDelta, IsRecord}
use Rattle.sl_sector.specs.SectorLayouts.{delta_in}
use Rattle.sl_sector.specs.declared.sector.DeltaRec.{DeltaRec}
use Rattle.sl_sector.specs.declared.sector.DeltaState.TheVariants.{Claimed, Free, Live}
use Rattle.sl_sector.specs.declared.sector.Rec.{Rec}
use Rattle.sl_sector.specs.declared.sector.Rec.TheVariants.{BlockIs, DeltaIs, LeaderIs, PairIs, PairLeaderIs, RequestIs, ValueIs}
use Rattle.sl_due_facts.proofs.Sessions.DeltaConditions.{nat_low}
use Rattle.sl_due_facts.proofs.Sessions.JoiningsGoOn.{AtWork, law_of}
use Rattle.sl_trace.specs.DeltaDecisions.{DeltaLease, claim_of, claim_on, delta_of_session, delta_record, id_held, id_lost, is_watched_out, join_step_of, next_after_deciding, next_after_first, next_after_join_read, next_after_verify, next_after_watch, next_by_time, next_in_joining, next_on_wake, watched}
use Rattle.sl_trace.specs.Sessions.{calls_of, delta_of_record, generation_of, given_number, is_call_of, is_join_call, last_delta, last_seq}
use Rattle.sl_trace.specs.Sightings.{is_free_state}
use Rattle.sl_trace.specs.declared.delta.DeltaNext.{DeltaNext}
use Rattle.sl_trace.specs.declared.delta.DeltaNext.TheVariants.{Join, Nothing, ReadOwn, RefuseJoin, RegisterAndRead, WriteClaim, WriteFirst}
use Rattle.sl_trace.specs.declared.session.Session.{Session}
use Rattle.sl_time.specs.Times.{dead, join_max, renew}
use Rattle.sl_trace.proofs.TraceFacts.{each_entry-front}
use Rattle.sl_trace.specs.Traces.{EachEntry, Setting, Submitted, Trace, record_of, submitted}
use Rattle.sl_trace.specs.declared.effects.JoinStep.{JoinStep}
use Rattle.sl_trace.specs.declared.effects.JoinStep.TheVariants.{ClaimWrite, DecidingRead, FirstRead, FirstRenewal, VerifyRead, WatchRead}
use Rattle.sl_trace.specs.declared.effects.Purpose.{Purpose}
use Rattle.sl_trace.specs.declared.effects.Purpose.TheVariants.{Joining, Lease, Leaving, Renewal, RequestRead, RequestWrite, SeeRequest, Survey, ValueRead, ValueWrite}
use Rattle.sl_trace.specs.declared.input.Answer.{Answer}
use Rattle.sl_trace.specs.declared.input.Answer.TheVariants.{Failed, Read, Written}
use Rattle.sl_trace.specs.declared.reply.Limited.TheVariants.{Gen as GenLimit, Seq as SeqLimit}
use Rattle.sl_trace.specs.declared.reply.Reply.TheVariants.{IdLate, Limit as LimitReached, TornDelta, WrongDelta}
use Rattle.sl_run_law.proofs.Sessions.CallsAreMade.{calls_are_made}
use Rattle.sl_run_law.proofs.Sessions.JoiningsAreOrdered.{joinings_are_ordered}
use Rattle.sl_run_law.specs.Sessions.SessionLaws.{IsMade, front_of, is_ordered, made_as, may_come, may_follow}
use Rattle.sl_words.proofs.CaseLaws.{false_is_true, none_some, some_value}
use Rattle.sl_words.proofs.WordLaws.{and_true}
use Rattle.sl_words.specs.Bounds.{is_number}
use Rattle.std.proofs.Common.{ap, arith, inl, inr, refl, subst, sym, ◌∙◌}
use Rattle.std.proofs.lemmas.Bool.{cases_lt}
use Rattle.std.specs.Option.{option_map_or}
use Rattle.std.specs.Prelude.{Contains, IsTrue, List, None, Option, Some, [], bytes_eq, false, nat_le, nat_lt, true, ℕ, ◌&&◌, ◌++◌, ◌+◌, ◌==◌, ◌∷◌, ◌≡◌, ◌≤◌, ◌⊎◌}

-- ---- records that were written

pub spelled_of : (st : Setting) (es : Trace) (m : Submitted) (r : Rec) → Orderly st es → Contains (submitted es) m → record_of m.call.op ≡ Some r → IsRecord r
spelled_of st es m r orderly there is =
    let d : IsMade es m = calls_are_made es m there in
    let each : EachEntry (LawfulCalls st) (d.later ++ d.entry ∷ d.past) = subst (λ t. EachEntry (LawfulCalls st) t) d.whole orderly.calls in
    let own : EachEntry (LawfulCalls st) (d.entry ∷ d.past) = each_entry-front (LawfulCalls st) d.later (d.entry ∷ d.past) each in
    own.0.spelled m.call r (got_inside d.entry.effects.calls d.index m.call d.call) is

delta_record_is : (r : Rec) (d : DeltaRec) → delta_of_record r ≡ Some d → r ≡ DeltaIs d
delta_record_is (DeltaIs e) d is = ap (λ z. DeltaIs z) (some_value e d is)
delta_record_is (LeaderIs l) d is = absurd (none_some d is)
delta_record_is (BlockIs b) d is = absurd (none_some d is)
delta_record_is (RequestIs q) d is = absurd (none_some d is)
delta_record_is (ValueIs v) d is = absurd (none_some d is)
delta_record_is (PairIs b) d is = absurd (none_some d is)
delta_record_is (PairLeaderIs l) d is = absurd (none_some d is)

-- ---- the first renewal comes last

last_is_first : (p q : Purpose) → is_join_call FirstRenewal p ≡ true → may_follow p q ≡ true → ⊥
last_is_first (Joining i FirstRenewal) (Joining j step) is follows = false_is_true follows
last_is_first (Joining i FirstRenewal) Renewal is follows = false_is_true follows
last_is_first (Joining i FirstRenewal) Survey is follows = false_is_true follows
last_is_first (Joining i FirstRenewal) (Leaving j) is follows = false_is_true follows
last_is_first (Joining i FirstRenewal) (Lease work step) is follows = false_is_true follows
last_is_first (Joining i FirstRenewal) (RequestRead j) is follows = false_is_true follows
last_is_first (Joining i FirstRenewal) (RequestWrite j owner) is follows = false_is_true follows
last_is_first (Joining i FirstRenewal) SeeRequest is follows = false_is_true follows
last_is_first (Joining i FirstRenewal) (ValueWrite j) is follows = false_is_true follows
last_is_first (Joining i FirstRenewal) (ValueRead j) is follows = false_is_true follows
last_is_first (Joining i FirstRead) q is follows = false_is_true is
last_is_first (Joining i WatchRead) q is follows = false_is_true is
last_is_first (Joining i DecidingRead) q is follows = false_is_true is
last_is_first (Joining i ClaimWrite) q is follows = false_is_true is
last_is_first (Joining i VerifyRead) q is follows = false_is_true is
last_is_first Renewal q is follows = false_is_true is
last_is_first Survey q is follows = false_is_true is
last_is_first (Leaving i) q is follows = false_is_true is
last_is_first (Lease work step) q is follows = false_is_true is
last_is_first (RequestRead i) q is follows = false_is_true is
last_is_first (RequestWrite i owner) q is follows = false_is_true is
last_is_first SeeRequest q is follows = false_is_true is
last_is_first (ValueWrite i) q is follows = false_is_true is
last_is_first (ValueRead i) q is follows = false_is_true is

newest_first : (ms : List Submitted) (a : Submitted) → is_ordered ms ≡ true → Contains ms a → is_join_call FirstRenewal a.call.purpose ≡ true → (rest : List Submitted) × (ms ≡ a ∷ rest)
newest_first [] a ordered there is = absurd (contains_none a there)
newest_first (k ∷ ks) a ordered there is = by (contains_cases k ks a there) (λ old. newest_first ks a both.1 old is) where
  both : (may_come ks k.call.purpose ≡ true) × (is_ordered ks ≡ true)
  both = and_true (may_come ks k.call.purpose) (is_ordered ks) ordered

  by : (k ≡ a) ⊎ Contains ks a → (Contains ks a → (rest : List Submitted) × (ks ≡ a ∷ rest)) → (rest : List Submitted) × (k ∷ ks ≡ a ∷ rest)
  by (inl same) more = (ks, ap (λ z. z ∷ ks) same)
  by (inr old) more =
      let behind = more old in
      absurd (last_is_first a.call.purpose k.call.purpose is (sym (ap (λ zs. may_come zs k.call.purpose) behind.1) ∙ both.0))

-- ---- the numbers

abbrev pub HasNumbers : Trace → Session → Type 0
HasNumbers t s = (1 ≤ generation_of t s) × IsTrue (is_number (generation_of t s)) × IsTrue (is_number (last_seq t s))

live_or_free : Live ≡ Free → ⊥
live_or_free is = false_is_true (ap (λ z. is_free_state z) is)

one_at_least : (n : ℕ) → (n ≡ 0 → ⊥) → 1 ≤ n
one_at_least n some_one = elim (cases_lt 0 n) [ inl less ↦ omega (arith, less) | inr none ↦ absurd (some_one (omega (arith, none))) ]

pub joined_numbers : (x : Step) (s : Session) (m : Submitted) (j : ℕ) → AtWork x s m j FirstRenewal → HasNumbers (seen x) s
joined_numbers x s m j h =
    let law = law_of x s m j FirstRenewal h in
    let l : LawfulFirstRenewal x.setting (front_of law.0.made) s (made_as law.0.made) = law.1 in
    let d : DeltaRec = delta_record (delta_of_session x.setting s) Live l.claim.generation (l.claim.seq + 1) (made_as law.0.made).reading no_bits in
    let wrote = then_value delta_of_record (record_of m.call.op) d l.written in
    let spelled : IsRecord wrote.0 = spelled_of x.setting (seen x) m wrote.0 h.orderly h.there wrote.1 in
    let good : IsDelta d = subst (λ (r : Rec). IsRecord r) (delta_record_is wrote.0 d wrote.2) spelled in
    let mine : Contains (calls_of (seen x) s) m = kept (is_call_of s) (submitted (seen x)) m (ap (λ n. n == s.number) h.its ∙ number_itself s.number) h.there in
    let first = newest_first (calls_of (seen x) s) m (joinings_are_ordered x.setting (seen x) s h.orderly h.has h.unjoined) mine (ap (λ p. is_join_call FirstRenewal p) h.is) in
    let last : last_delta (calls_of (seen x) s) ≡ Some d =
    ap (λ ms. last_delta ms) first.1 ∙ ap (λ (o : Option DeltaRec). elim o as (λ z. Option DeltaRec) [ Some e ↦ Some e | None ↦ last_delta first.0 ]) l.written
    in
    subst (λ (o : Option DeltaRec). (1 ≤ option_map_or (λ (e : DeltaRec). e.generation) o (given_number s)) × IsTrue (is_number (option_map_or (λ (e : DeltaRec). e.generation) o (given_number s))) × IsTrue (is_number (option_map_or (λ (e : DeltaRec). e.seq) o (given_number s)))) (sym last)
    (one_at_least d.generation (λ none. live_or_free (good.unused none).0), nat_low d.generation good.generation, nat_low d.seq good.seq)

-- ---- only a first renewal that was written joins

abbrev pub JoinsNot : DeltaNext → Type 0
JoinsNot (Join generation renewed) = ⊥
JoinsNot n = Unit {0}

claim_not : (l : DeltaLease) (now : ℕ) (d : DeltaRec) → JoinsNot (claim_on l now d)
claim_not l now d =
    on_bool JoinsNot (is_number (d.generation + 1)) (RefuseJoin (LimitReached GenLimit)) (elim (is_number (d.seq + 1)) [ false ↦ RefuseJoin (LimitReached SeqLimit) | true ↦ WriteClaim (delta_record l Claimed (d.generation + 1) (d.seq + 1) now no_bits) ]) tt
    (on_bool JoinsNot (is_number (d.seq + 1)) (RefuseJoin (LimitReached SeqLimit)) (WriteClaim (delta_record l Claimed (d.generation + 1) (d.seq + 1) now no_bits)) tt tt)

read_not : (l : DeltaLease) (ms : List Submitted) (now : ℕ) (m : Submitted) (bytes : List ℕ) (step : JoinStep) → JoinsNot (next_after_join_read l ms now m bytes step)
unfolding next_after_first next_after_watch next_after_deciding next_after_verify
read_not l ms now m bytes FirstRead =
    on_option JoinsNot (delta_in (record_in l.layout bytes)) (RefuseJoin TornDelta)
    (λ d. elim (bytes_eq d.lockspace l.lockspace && d.id == l.id) [ false ↦ RefuseJoin (WrongDelta d.lockspace d.id) | true ↦ elim (is_free_state d.state) [ true ↦ RegisterAndRead DecidingRead | false ↦ Nothing ] ]) tt
    (λ d. on_bool JoinsNot (bytes_eq d.lockspace l.lockspace && d.id == l.id) (RefuseJoin (WrongDelta d.lockspace d.id)) (elim (is_free_state d.state) [ true ↦ RegisterAndRead DecidingRead | false ↦ Nothing ]) tt
    (on_bool JoinsNot (is_free_state d.state) Nothing (RegisterAndRead DecidingRead) tt tt))
read_not l ms now m bytes WatchRead =
    on_bool JoinsNot (bytes_eq (watched ms) bytes) (RefuseJoin (id_held l.layout (watched ms) bytes)) (elim (is_watched_out l.timing ms m.reading) [ true ↦ RegisterAndRead DecidingRead | false ↦ Nothing ]) tt
    (on_bool JoinsNot (is_watched_out l.timing ms m.reading) Nothing (RegisterAndRead DecidingRead) tt tt)
read_not l ms now m bytes DecidingRead =
    on_bool JoinsNot (bytes_eq (watched ms) bytes) (RefuseJoin (id_held l.layout (watched ms) bytes)) (elim (delta_in (record_in l.layout bytes)) [ None ↦ Nothing | Some d ↦ claim_on l now d ]) tt
    (on_option JoinsNot (delta_in (record_in l.layout bytes)) Nothing (λ d. claim_on l now d) tt (λ d. claim_not l now d))
read_not l ms now m bytes VerifyRead =
    on_option JoinsNot (claim_of ms) Nothing
    (λ claim. elim (bytes_eq bytes (sector_with l.layout (DeltaIs claim))) [ false ↦ RefuseJoin (id_lost l claim bytes) | true ↦ elim (is_number (claim.seq + 1)) [ false ↦ RefuseJoin (LimitReached SeqLimit) | true ↦ WriteFirst (delta_record l Live claim.generation (claim.seq + 1) now no_bits) ] ])
    tt
    (λ claim. on_bool JoinsNot (bytes_eq bytes (sector_with l.layout (DeltaIs claim))) (RefuseJoin (id_lost l claim bytes))
    (elim (is_number (claim.seq + 1)) [ false ↦ RefuseJoin (LimitReached SeqLimit) | true ↦ WriteFirst (delta_record l Live claim.generation (claim.seq + 1) now no_bits) ]) tt
    (on_bool JoinsNot (is_number (claim.seq + 1)) (RefuseJoin (LimitReached SeqLimit)) (WriteFirst (delta_record l Live claim.generation (claim.seq + 1) now no_bits)) tt tt))
read_not l ms now m bytes ClaimWrite = tt
read_not l ms now m bytes FirstRenewal = tt

pub joins_or_not : (l : DeltaLease) (generation : ℕ) (ms : List Submitted) (now : ℕ) (m : Submitted) (step : JoinStep) (answer : Answer) → JoinsNot (next_in_joining l generation ms now m step answer) ⊎ (step ≡ FirstRenewal)
unfolding next_in_joining
joins_or_not l generation ms now m FirstRenewal answer = inr refl
joins_or_not l generation ms now m step (Read bytes) = inl (read_not l ms now m bytes step)
joins_or_not l generation ms now m step Failed = inl tt
joins_or_not l generation ms now m FirstRead Written = inl tt
joins_or_not l generation ms now m WatchRead Written = inl tt
joins_or_not l generation ms now m DecidingRead Written = inl tt
joins_or_not l generation ms now m VerifyRead Written = inl tt
joins_or_not l generation ms now m ClaimWrite Written = inl tt

time_not : (l : DeltaLease) (now made answered : ℕ) (step : JoinStep) → JoinsNot (next_by_time l now made answered step)
time_not l now made answered FirstRead = on_bool JoinsNot (nat_le (answered + renew l.timing) now) Nothing (ReadOwn WatchRead) tt tt
time_not l now made answered WatchRead = on_bool JoinsNot (nat_le (answered + renew l.timing) now) Nothing (ReadOwn WatchRead) tt tt
time_not l now made answered ClaimWrite =
    on_bool JoinsNot (nat_le (answered + dead l.timing) now) Nothing (elim (nat_lt (made + join_max l.timing) now) [ true ↦ RefuseJoin (IdLate made now) | false ↦ RegisterAndRead VerifyRead ]) tt
    (on_bool JoinsNot (nat_lt (made + join_max l.timing) now) (RegisterAndRead VerifyRead) (RefuseJoin (IdLate made now)) tt tt)
time_not l now made answered step = tt

pub wake_not : (l : DeltaLease) (now : ℕ) (ms : List Submitted) → JoinsNot (next_on_wake l now ms)
unfolding next_on_wake
wake_not l now [] = tt
wake_not l now (m ∷ ms) =
    on_option JoinsNot m.answer Nothing (λ a. elim (join_step_of m.call.purpose) [ None ↦ Nothing | Some step ↦ next_by_time l now m.reading a.reading step ]) tt
    (λ a. on_option JoinsNot (join_step_of m.call.purpose) Nothing (λ step. next_by_time l now m.reading a.reading step) tt (λ step. time_not l now m.reading a.reading step))
