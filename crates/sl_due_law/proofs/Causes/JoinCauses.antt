-- The causes of what a joining's calls are answered with.
use Rattle.sl_due_facts.proofs.Acts.InputsKeep.{has_heard}
use Rattle.sl_due_facts.specs.Acts.Acts.{Hears}
use Rattle.sl_due_facts.specs.Acts.TraceSoFar.{entry_of}
use Rattle.sl_area.specs.AreaSizes.{record_in, sector_with}
use Rattle.sl_due.specs.Steps.{Step, seen, with_effects}
use Rattle.sl_due_law.proofs.Causes.AnsweredJobs.{AnswersHere, answers_here, ran_past, told_not_waking}
use Rattle.sl_due_law.proofs.Causes.LaterSteps.{AnyMove, MayAnswer, MayCall, by_effects}
use Rattle.sl_due_law.proofs.Causes.Leases.Limits.{not_number}
use Rattle.sl_due_law.proofs.Causes.PlainCauses.{fault_caused}
use Rattle.sl_due_facts.proofs.Connections.HeardCalls.{WasHeard, heard_before}
use Rattle.sl_due_facts.proofs.Connections.JoiningConnections.{working_unjoined}
use Rattle.sl_due_facts.proofs.Connections.JoiningDecisions.{heard_working}
use Rattle.sl_due_leases.proofs.Holdings.HoldingsByInputs.{filter_told}
use Rattle.sl_due_leases.proofs.Holdings.LeaseCallers.{heard_call}
use Rattle.sl_due_facts.proofs.Jobs.AnsweredCallsFit.{both_of}
use Rattle.sl_due_facts.proofs.Jobs.CallsHaveFacts.{find_mapped, sessions_bare}
use Rattle.sl_due_facts.proofs.Jobs.CallsOfJobsFit.{joining_of, list_all_inside}
use Rattle.sl_due_facts.proofs.Jobs.CallsStay.{IsLate, is_special, late_join}
use Rattle.sl_due_facts.proofs.Jobs.EffectsAreAllowed.{DeltaAllowed}
use Rattle.sl_due_facts.proofs.Jobs.JobsAreAllowed.{calls_heard}
use Rattle.sl_due_facts.proofs.Jobs.RepliesComeAfter.{IsLateDelta, on_bool}
use Rattle.sl_due_facts.proofs.Jobs.SessionsHaveJobs.{one_session}
use Rattle.sl_due_facts.proofs.Sessions.NamesAreAllowed.{heard_mine}
use Rattle.sl_due_law.specs.Causes.CauseFacts.{CauseFacts}
use Rattle.sl_due_law.specs.Causes.CausedSoFar.{IsCarried, IsConcluded, StaysCaused, answering}
use Rattle.sl_due_facts.specs.Facts.AllFacts.{WholeTrace}
use Rattle.sl_due_leases.specs.Holdings.Moments.{Known}
use Rattle.sl_run.specs.Caused.{Answering, CausedBy, JoinRead}
use Rattle.sl_trace.specs.Leases.{lease_step}
use Rattle.sl_words.proofs.Lists.{contains_cases, contains_none, find_fails, find_inside, got_inside, kept, kept_inside}
use Rattle.sl_words.proofs.Numbers.{number_itself}
use Rattle.sl_sector.specs.Bitmaps.{no_bits}
use Rattle.sl_sector.specs.SectorLayouts.{delta_in}
use Rattle.sl_sector.specs.declared.sector.DeltaRec.{DeltaRec}
use Rattle.sl_sector.specs.declared.sector.DeltaState.TheVariants.{Claimed, Live}
use Rattle.sl_sector.specs.declared.sector.Rec.TheVariants.{DeltaIs}
use Rattle.sl_trace.specs.DeltaDecisions.{DeltaLease, claim_of, claim_on, delta_of_session, delta_record, first_bytes, id_held, id_lost, is_watched_out, next_after_deciding, next_after_first, next_after_verify, next_after_watch, next_in_joining, version_in, version_of, watched, where_watched}
use Rattle.sl_trace.specs.Sessions.{calls_of, delta_of_record, delta_written, generation_in, generation_of, given_number, is_call_of, is_join_call, join_call, joined_after, last_delta, same_join_step, session_numbered, session_of_job, sessions}
use Rattle.sl_trace.specs.Sightings.{is_free_state}
use Rattle.sl_trace.specs.declared.delta.DeltaNext.{DeltaNext}
use Rattle.sl_trace.specs.declared.delta.DeltaNext.TheVariants.{Disconnect, EndLeaving, Join, MoveConnection, Nothing, ReadOwn, RefuseJoin, RegisterAndRead, WriteClaim, WriteFirst, WriteFree, WriteRenewal}
use Rattle.sl_trace.specs.declared.session.Session.{Session}
use Rattle.sl_trace.specs.Traces.{Answered, Job, Setting, Submitted, Trace, answer_of, answered_in, bytes_given, call_numbered, gave, is_answer_for, is_ok_answer, is_running, is_write, job_numbered, job_of, record_of, submitted}
use Rattle.sl_trace.specs.declared.effects.Call.{Call}
use Rattle.sl_trace.specs.declared.effects.Effects.{Effects}
use Rattle.sl_trace.specs.declared.effects.Entry.{Entry}
use Rattle.sl_trace.specs.declared.effects.JoinStep.{JoinStep}
use Rattle.sl_trace.specs.declared.effects.JoinStep.TheVariants.{ClaimWrite, DecidingRead, FirstRead, FirstRenewal, VerifyRead, WatchRead}
use Rattle.sl_trace.specs.declared.effects.Op.{Op}
use Rattle.sl_trace.specs.declared.effects.Op.TheVariants.{ReadSectors, WriteRecord}
use Rattle.sl_trace.specs.declared.effects.Purpose.{Purpose}
use Rattle.sl_trace.specs.declared.effects.Purpose.TheVariants.{Joining, Lease, Leaving, Renewal, RequestRead, RequestWrite, SeeRequest, Survey, ValueRead, ValueWrite}
use Rattle.sl_trace.specs.declared.effects.Work.TheVariants.{ForJob}
use Rattle.sl_trace.specs.declared.input.Answer.{Answer}
use Rattle.sl_trace.specs.declared.input.Answer.TheVariants.{Failed, Read, Written}
use Rattle.sl_trace.specs.declared.reply.Limited.TheVariants.{Gen as GenLimit, Seq as SeqLimit}
use Rattle.sl_trace.specs.declared.reply.Reply.{Reply}
use Rattle.sl_trace.specs.declared.reply.Reply.TheVariants.{Generation, IdHeld, Limit as LimitReached, TornDelta, WrongDelta}
use Rattle.sl_run_law.proofs.Sessions.WritesAreCovered.{joinings_are_in_turn}
use Rattle.sl_run_law.proofs.Sessions.CallsAreMade.{kept_by, same_answered}
use Rattle.sl_run_law.proofs.Sessions.SessionNames.{same_name}
use Rattle.sl_run_law.proofs.Sessions.MarksStay.{joined_more}
use Rattle.sl_run_law.specs.Sessions.SessionLaws.{all_done, fits, fits_as, has_reply, is_in_turn}
use Rattle.sl_words.proofs.CaseLaws.{false_is_true, none_some, not_both, one_value, some_value}
use Rattle.sl_words.proofs.WordLaws.{and_true, some_is_true}
use Rattle.sl_words.specs.Bounds.{is_number, record_numbers}
use Rattle.sl_words.specs.Words.{some_is}
use Rattle.std.proofs.Common.{ap, inl, inr, refl, subst, sym, ◌∙◌}
use Rattle.std.proofs.lemmas.Bool.{eqb-true}
use Rattle.std.specs.Option.{option_map_or}
use Rattle.std.specs.Prelude.{Bool, Contains, IsFalse, List, None, Option, Some, [], bytes_eq, false, filter, find, is_some, map, option_and_then, option_map, slice_get, true, unwrap_or, ℕ, ◌&&◌, ◌+◌, ◌==◌, ◌∷◌, ◌≡◌, ◌≢◌, ◌≤◌, ◌⊎◌}

-- ---- what was known before the answer

mine_before : (x : Step) (s : Session) (m : Submitted) (answer : Answer) → (h : Hears x s m answer) → calls_of (seen x) s ≡ map (answered_in x.past (entry_of x) h.number answer) (calls_of x.past s)
mine_before x s m answer h =
    ap (λ ms. filter (is_call_of s) ms) (calls_heard x h.number answer h.heard h.bare)
    ∙ filter_told (answered_in x.past (entry_of x) h.number answer) (is_call_of s) (λ d. ap (λ (c : Call). c.session == s.number) (same_answered x.past (entry_of x) h.number answer d).call) (submitted x.past)

claim_before : (x : Step) (s : Session) (m : Submitted) (answer : Answer) → Hears x s m answer → claim_of (calls_of (seen x) s) ≡ claim_of (calls_of x.past s)
claim_before x s m answer h =
    ap (λ ms. claim_of ms) (mine_before x s m answer h)
    ∙ (ap (λ o. option_and_then delta_written o) (find_mapped is_claim f (calls_of x.past s) (λ d. ap (λ (c : Call). is_join_call ClaimWrite c.purpose) (same_answered x.past (entry_of x) h.number answer d).call))
    ∙ turned (find is_claim (calls_of x.past s))) where
      f : Submitted → Submitted
      f d = answered_in x.past (entry_of x) h.number answer d

      is_claim : Submitted → Bool
      is_claim d = is_join_call ClaimWrite d.call.purpose

      turned : (o : Option Submitted) → option_and_then delta_written (option_map f o) ≡ option_and_then delta_written o
      turned None = refl
      turned (Some d) = ap (λ (c : Call). option_and_then delta_of_record (record_of c.op)) (same_answered x.past (entry_of x) h.number answer d).call

last_marked : (past : Trace) (e : Entry) (n : ℕ) (w : Answer) (ms : List Submitted) → last_delta (map (answered_in past e n w) ms) ≡ last_delta ms
last_marked past e n w [] = refl
last_marked past e n w (m ∷ ms) =
    ap (λ (c : Call). elim (option_and_then delta_of_record (record_of c.op)) as (λ z. Option DeltaRec) [ Some d ↦ Some d | None ↦ last_delta (map (answered_in past e n w) ms) ]) (same_answered past e n w m).call
    ∙ ap (λ o. elim (delta_written m) as (λ z. Option DeltaRec) [ Some d ↦ Some d | None ↦ o ]) (last_marked past e n w ms)

generation_before : (x : Step) (s : Session) (m : Submitted) (answer : Answer) → Hears x s m answer → generation_of (seen x) s ≡ generation_of x.past s
generation_before x s m answer h =
    ap (λ ms. generation_in s ms) (mine_before x s m answer h)
    ∙ ap (λ o. option_map_or (λ (d : DeltaRec). d.generation) o (given_number s)) (last_marked x.past (entry_of x) h.number answer (calls_of x.past s))

pub session_of_its_job : (st : Setting) (t : Trace) (s : Session) (j : ℕ) → Contains (sessions st t) s → s.job ≡ Some j → session_of_job st t j ≡ Some s
session_of_its_job st t s j there its = by (session_of_job st t j) refl where
  mine : Session → Bool
  mine z = some_is (λ i. i == j) z.job

  by : (o : Option Session) → session_of_job st t j ≡ o → session_of_job st t j ≡ Some s
  by None none = absurd (not_both (mine s) (ap (λ o. some_is (λ i. i == j) o) its ∙ number_itself j) (find_fails mine (sessions st t) s none there))
  by (Some f) found =
      let inside = find_inside mine (sessions st t) f found in
      let v = some_is_true (λ i. i == j) f.job inside.1 in
      found ∙ ap (λ z. Some z) (one_session st t f s j inside.0 there (v.1 ∙ ap (λ i. Some i) (eqb-true v.0 j v.2)) its)

-- ---- a joining that hears an answer

pub record JoinHeard (x : Step) (s : Session) (m : Submitted) (answer : Answer) (j : ℕ) (step : JoinStep) : Type 0 where
  pub known : Known x
  pub hears : Hears x s m answer
  pub purpose : m.call.purpose ≡ Joining j step

its_job : (x : Step) (s : Session) (m : Submitted) (answer : Answer) (j : ℕ) (step : JoinStep) → JoinHeard x s m answer j step → s.job ≡ Some j
its_job x s m answer j step h = joining_of x s m j step (both_of x h.known.0) (heard_call x s m answer h.hears).0 h.hears.session h.purpose

session_before : (x : Step) (s : Session) (m : Submitted) (answer : Answer) (j : ℕ) (step : JoinStep) → JoinHeard x s m answer j step → (n : ℕ) → n ≡ j → session_of_job x.setting x.past n ≡ Some s
session_before x s m answer j step h n is =
    ap (λ i. session_of_job x.setting x.past i) is
    ∙ session_of_its_job x.setting x.past s j (subst (λ ss. Contains ss s) (sessions_bare x h.hears.bare) (got_inside (sessions x.setting (seen x)) s.number s (has_heard x s m answer h.hears))) (its_job x s m answer j step h)

pub same_step : (step : JoinStep) → same_join_step step step ≡ true
same_step FirstRead = refl
same_step WatchRead = refl
same_step DecidingRead = refl
same_step ClaimWrite = refl
same_step VerifyRead = refl
same_step FirstRenewal = refl

here : (x : Step) (s : Session) (m : Submitted) (answer : Answer) (j : ℕ) (step : JoinStep) → JoinHeard x s m answer j step → (fx : Effects) → IsCarried x (with_effects x fx)
    → (job : Job) → job_numbered x.setting (seen (with_effects x fx)) j ≡ Some job → AnswersHere x m answer j (with_effects x fx) job
here x s m answer j step h fx carried job found =
    answers_here x s m answer j h.known h.hears (ap (λ p. job_of p) h.purpose) (with_effects x fx) (record { setting = refl; before = refl; reading = refl; carried = λ told. carried }) job found

join_read : (x : Step) (s : Session) (m : Submitted) (bytes : List ℕ) (j : ℕ) (step : JoinStep) → JoinHeard x s m (Read bytes) j step → (fx : Effects) → IsCarried x (with_effects x fx)
    → (job : Job) → job_numbered x.setting (seen (with_effects x fx)) j ≡ Some job → (P : Session → List ℕ → Type 0) → P s bytes → JoinRead (answering (with_effects x fx) job) step P
join_read x s m bytes j step h fx carried job found P holds =
    let a : AnswersHere x m (Read bytes) j (with_effects x fx) job = here x s m (Read bytes) j step h fx carried job found in
    (s, session_before x s m (Read bytes) j step h job.number a.number, (m, bytes, a.call, (ap (λ p. is_join_call step p) h.purpose ∙ same_step step, holds)))

-- What a read refuses a joining for.
by_read : (x : Step) (s : Session) (m : Submitted) (bytes : List ℕ) (j : ℕ) (step : JoinStep) → JoinHeard x s m (Read bytes) j step → (r : Reply)
    → ((y : Answering) → ((P : Session → List ℕ → Type 0) → P s bytes → JoinRead y step P) → y.setting ≡ x.setting → y.past ≡ x.past → CausedBy y r) → StaysCaused x (record { job = j; reply = r })
by_read x s m bytes j step h r cause =
    by_effects x (record { job = j; reply = r }) (told_not_waking x s m (Read bytes) h.hears)
    (λ fx carried job found. cause (answering (with_effects x fx) job) (λ P holds. join_read x s m bytes j step h fx carried job found P holds) refl refl)

-- ---- what comes next

-- Its replies have their causes.
abbrev pub IsWellJoin : (Reply → Bool) → Step → ℕ → DeltaNext → Type 0
IsWellJoin these x j (RefuseJoin r) = these r ≡ true → StaysCaused x (record { job = j; reply = r })
IsWellJoin these x j (Join generation renewed) = these (Generation generation) ≡ true → StaysCaused x (record { job = j; reply = Generation generation })
IsWellJoin these x j n = Unit {0}

first_well : (these : Reply → Bool) (x : Step) (s : Session) (m : Submitted) (bytes : List ℕ) (j : ℕ) → JoinHeard x s m (Read bytes) j FirstRead → IsWellJoin these x j (next_after_first (delta_of_session x.setting s) bytes)
unfolding next_after_first
first_well these x s m bytes j h = by (delta_in (record_in x.setting.layout bytes)) refl where
  named : (d : DeltaRec) → delta_in (record_in x.setting.layout bytes) ≡ Some d → (b : Bool) → (bytes_eq d.lockspace s.lockspace && d.id == s.id) ≡ b
      → IsWellJoin these x j (elim b as (λ z. DeltaNext) [ false ↦ RefuseJoin (WrongDelta d.lockspace d.id) | true ↦ elim (is_free_state d.state) as (λ z. DeltaNext) [ true ↦ RegisterAndRead DecidingRead | false ↦ Nothing ] ])
  named d spells false other = λ shown.
      by_read x s m bytes j FirstRead h (WrongDelta d.lockspace d.id)
      (λ y read setting past. read
      (λ z bs. (f : DeltaRec) × (delta_in (record_in y.setting.layout bs) ≡ Some f) × (f.lockspace ≡ d.lockspace) × (f.id ≡ d.id) × IsFalse (bytes_eq d.lockspace z.lockspace && d.id == z.id))
      (d, ap (λ st. delta_in (record_in st.layout bytes)) setting ∙ spells, refl, refl, other))
  named d spells true right = free (is_free_state d.state) where
    free : (b : Bool) → IsWellJoin these x j (elim b as (λ z. DeltaNext) [ true ↦ RegisterAndRead DecidingRead | false ↦ Nothing ])
    free true = tt
    free false = tt

  by : (o : Option DeltaRec) → delta_in (record_in x.setting.layout bytes) ≡ o
      → IsWellJoin these x j (elim o as (λ z. DeltaNext) [
        | None ↦ RefuseJoin TornDelta
        | Some d ↦ elim (bytes_eq d.lockspace s.lockspace && d.id == s.id) as (λ z. DeltaNext) [
          | false ↦ RefuseJoin (WrongDelta d.lockspace d.id)
          | true ↦ elim (is_free_state d.state) as (λ z. DeltaNext) [ true ↦ RegisterAndRead DecidingRead | false ↦ Nothing ]
        ]
      ])
  by None torn = λ shown.
      by_read x s m bytes j FirstRead h TornDelta
      (λ y read setting past. read (λ z bs. delta_in (record_in y.setting.layout bs) ≡ None) (ap (λ st. delta_in (record_in st.layout bytes)) setting ∙ torn))
  by (Some d) spells = named d spells (bytes_eq d.lockspace s.lockspace && d.id == s.id) refl

-- ---- a read that differs from the first

differ : (a b : List ℕ) → bytes_eq a b ≡ false → a ≢ b
differ a b other same = not_both (bytes_eq a b) (subst (λ c. bytes_eq a c ≡ true) same (same_name a)) other

-- All of a joining's calls but the newest are answered.
answered_but : (ms : List Submitted) (d f : Submitted) → is_in_turn ms ≡ true → Contains ms d → d.answer ≡ None → Contains ms f → (f ≡ d → ⊥) → has_reply f ≡ true
answered_but [] d f turn inside none there apart = absurd (contains_none d inside)
answered_but (x ∷ xs) d f turn inside none there apart = by (contains_cases x xs d inside) (contains_cases x xs f there) where
  rest : all_done xs ≡ true
  rest = (and_true (fits x) (all_done xs) turn).1

  replied : (k : Submitted) → Contains xs k → has_reply k ≡ true
  replied k old = (and_true (fits k) (has_reply k) (list_all_inside (λ z. fits z && has_reply z) xs k rest old)).1

  by : (x ≡ d) ⊎ Contains xs d → (x ≡ f) ⊎ Contains xs f → has_reply f ≡ true
  by own (inr old) = replied f old
  by (inl first) (inl its) = absurd (apart (sym its ∙ first))
  by (inr old) (inl its) = absurd (false_is_true (sym (ap (λ o. is_some o) none) ∙ replied d old))

-- A first read that was answered ok gave bytes.
first_gave : (st : Setting) (p : Purpose) (o : Op) (a : Answer) → is_join_call FirstRead p ≡ true → fits_as p (is_write o) ≡ true → is_ok_answer a ≡ true → is_answer_for st a o ≡ true → (bytes : List ℕ) × (bytes_given a ≡ Some bytes)
first_gave st (Joining j FirstRead) (ReadSectors n) (Read bytes) first fit ok answers = (bytes, refl)
first_gave st p o Failed first fit ok answers = absurd (false_is_true ok)
first_gave st (Joining j FirstRead) (WriteRecord r) a first fit ok answers = absurd (false_is_true fit)
first_gave st p (ReadSectors n) Written first fit ok answers = absurd (false_is_true answers)
first_gave st p (WriteRecord r) (Read bytes) first fit ok answers = absurd (false_is_true answers)
first_gave st (Joining j WatchRead) o a first fit ok answers = absurd (false_is_true first)
first_gave st (Joining j DecidingRead) o a first fit ok answers = absurd (false_is_true first)
first_gave st (Joining j ClaimWrite) o a first fit ok answers = absurd (false_is_true first)
first_gave st (Joining j VerifyRead) o a first fit ok answers = absurd (false_is_true first)
first_gave st (Joining j FirstRenewal) o a first fit ok answers = absurd (false_is_true first)
first_gave st Renewal o a first fit ok answers = absurd (false_is_true first)
first_gave st Survey o a first fit ok answers = absurd (false_is_true first)
first_gave st (Leaving j) o a first fit ok answers = absurd (false_is_true first)
first_gave st (Lease work step) o a first fit ok answers = absurd (false_is_true first)
first_gave st (RequestRead j) o a first fit ok answers = absurd (false_is_true first)
first_gave st (RequestWrite j owner) o a first fit ok answers = absurd (false_is_true first)
first_gave st SeeRequest o a first fit ok answers = absurd (false_is_true first)
first_gave st (ValueWrite j) o a first fit ok answers = absurd (false_is_true first)
first_gave st (ValueRead j) o a first fit ok answers = absurd (false_is_true first)

-- What the first read gave, which spells a record, is watched.
record FirstWas (x : Step) (s : Session) : Type 0 where
  bytes : List ℕ
  gave_them : first_bytes (calls_of x.past s) ≡ Some bytes
  watches : watched (calls_of (seen x) s) ≡ bytes
  record_read : DeltaRec
  spells : delta_in (record_in x.setting.layout bytes) ≡ Some record_read

first_was : (x : Step) (s : Session) (m : Submitted) (answer : Answer) (j : ℕ) (step : JoinStep) → JoinHeard x s m answer j step → same_join_step FirstRead step ≡ false → WholeTrace x.setting x.past → CauseFacts x.setting x.past
    → is_running (seen x) j ≡ true → FirstWas x s
first_was x s m answer j step h later w facts runs = of (join_call (calls_of x.past s) FirstRead) refl where
  numbered : session_numbered x.setting x.past s.number ≡ Some s
  numbered = subst (λ ss. slice_get ss s.number ≡ Some s) (sessions_bare x h.hears.bare) (has_heard x s m answer h.hears)

  there : Contains (sessions x.setting x.past) s
  there = got_inside (sessions x.setting x.past) s.number s numbered

  its : s.job ≡ Some j
  its = its_job x s m answer j step h

  mark_one : Submitted → Submitted
  mark_one d = answered_in x.past (entry_of x) h.hears.number answer d

  was : (d : Submitted) × WasHeard x h.hears.number answer m d
  was = heard_before x s m answer h.known.0 h.hears

  same_call : was.0.call ≡ m.call
  same_call = sym (same_answered x.past (entry_of x) h.hears.number answer was.0).call ∙ ap (λ (d : Submitted). d.call) was.1.marked

  mine : Contains (calls_of x.past s) was.0
  mine =
      kept (is_call_of s) (submitted x.past) was.0 (ap (λ (c : Call). c.session == s.number) same_call ∙ (kept_inside (is_call_of s) (submitted (seen x)) m (heard_mine x s m answer h.hears)).1) was.1.inside

  unjoined : joined_after x.past s ≡ None
  unjoined = by (joined_after x.past s) refl where
    by : (o : Option ℕ) → joined_after x.past s ≡ o → joined_after x.past s ≡ None
    by None is = is
    by (Some k) is = absurd (none_some k (sym (working_unjoined x s j (heard_working x s j step m answer h.known.0 h.hears h.purpose runs)) ∙ joined_more (entry_of x) x.past s k is))

  turn : is_in_turn (calls_of x.past s) ≡ true
  turn = joinings_are_in_turn x.setting x.past s w.lawful.orderly numbered unjoined

  is_first : Submitted → Bool
  is_first d = is_join_call FirstRead d.call.purpose

  first : (f : Submitted) → join_call (calls_of x.past s) FirstRead ≡ Some f → Contains (calls_of x.past s) f → is_first f ≡ true → FirstWas x s
  first f found inside looks = answered f.answer refl where
    apart : f ≡ was.0 → ⊥
    apart is =
        not_both (is_join_call FirstRead m.call.purpose) (ap (λ (c : Call). is_join_call FirstRead c.purpose) (sym same_call) ∙ (ap (λ (d : Submitted). is_join_call FirstRead d.call.purpose) (sym is) ∙ looks))
        (ap (λ p. is_join_call FirstRead p) h.purpose ∙ later)

    fit : fits f ≡ true
    fit = in_list (calls_of x.past s) turn inside where
      in_list : (ms : List Submitted) → is_in_turn ms ≡ true → Contains ms f → fits f ≡ true
      in_list [] t i = absurd (contains_none f i)
      in_list (k ∷ ks) t i =
          let both = and_true (fits k) (all_done ks) t in
          elim (contains_cases k ks f i) [ inl one ↦ ap (λ q. fits q) (sym one) ∙ both.0 | inr old ↦ (and_true (fits f) (has_reply f) (list_all_inside (λ z. fits z && has_reply z) ks f both.1 old)).0 ]

    answered : (o : Option Answered) → f.answer ≡ o → FirstWas x s
    answered None none = absurd (false_is_true (sym (ap (λ o. is_some o) none) ∙ answered_but (calls_of x.past s) was.0 f turn mine was.1.opened inside apart))
    answered (Some a) is =
        let ok = w.facts.names.done s j f a there its (ran_past x.past (entry_of x) j runs) inside is (λ heard. none_some f.call.number heard) in
        let gives = first_gave x.setting f.call.purpose f.call.op a.answer looks fit ok (w.facts.calls.fits f a (kept_inside (is_call_of s) (submitted x.past) f inside).0 is) in
        let given : gave f ≡ Some gives.0 = ap (λ o. option_and_then (λ (b : Answered). bytes_given b.answer) o) is ∙ gives.1 in
        let spelled =
        facts.watches.first s f gives.0 (record {
          job = j;
          session = there;
          its = its;
          runs = ran_past x.past (entry_of x) j runs;
          inside = inside;
          for = looks;
          given = given;
          done = λ heard. none_some f.call.number heard;
        })
        in record {
          bytes = gives.0;
          gave_them = ap (λ o. option_and_then gave o) found ∙ given;
          watches =
              ap (λ ms. unwrap_or (option_and_then gave (find is_first ms)) []) (mine_before x s m answer h.hears)
              ∙ (ap (λ o. unwrap_or (option_and_then gave o) [])
              (find_mapped is_first mark_one (calls_of x.past s) (λ d. ap (λ (c : Call). is_join_call FirstRead c.purpose) (same_answered x.past (entry_of x) h.hears.number answer d).call)
              ∙ (ap (λ o. option_map mark_one o) found ∙ ap (λ d. Some d) (kept_by f a (answer_of x.past (entry_of x) answer f.call) (f.call.number == h.hears.number) is))) ∙ ap (λ o. unwrap_or o []) given);
          record_read = spelled.0;
          spells = spelled.1;
        }

  of : (o : Option Submitted) → join_call (calls_of x.past s) FirstRead ≡ o → FirstWas x s
  of None none = let l = facts.looked s j there its in absurd (not_both (is_first l.0) l.2 (find_fails is_first (calls_of x.past s) l.0 none l.1))
  of (Some f) found = let v = find_inside is_first (calls_of x.past s) f found in first f found v.0 v.1

held_caused : (x : Step) (s : Session) (m : Submitted) (bytes : List ℕ) (j : ℕ) (step : JoinStep) → JoinHeard x s m (Read bytes) j step → (step ≡ WatchRead) ⊎ (step ≡ DecidingRead) → FirstWas x s
    → bytes_eq (watched (calls_of (seen x) s)) bytes ≡ false → StaysCaused x (record { job = j; reply = id_held x.setting.layout (watched (calls_of (seen x) s)) bytes })
held_caused x s m bytes j step h which f other =
    subst (λ r. StaysCaused x (record { job = j; reply = r })) says
    (by_read x s m bytes j step h (IdHeld (version_of f.record_read) (version_in x.setting.layout bytes)) (λ y read setting past. by which y read setting past)) where
      version : version_in x.setting.layout f.bytes ≡ Some (version_of f.record_read)
      version = ap (λ o. option_map version_of o) f.spells

      says : IdHeld (version_of f.record_read) (version_in x.setting.layout bytes) ≡ id_held x.setting.layout (watched (calls_of (seen x) s)) bytes
      says =
          sym (ap (λ ws. id_held x.setting.layout ws bytes) f.watches ∙ ap (λ o. IdHeld (unwrap_or o (record { generation = 0; seq = 0 })) (version_in x.setting.layout bytes)) version)

      differs : f.bytes ≢ bytes
      differs = differ f.bytes bytes (ap (λ ws. bytes_eq ws bytes) (sym f.watches) ∙ other)

      Tells : Answering → Session → List ℕ → Type 0
      Tells y z bs =
          (first : List ℕ) × (first_bytes (calls_of y.past z) ≡ Some first) × (first ≢ bs) × (version_in y.setting.layout first ≡ Some (version_of f.record_read)) × (version_in y.setting.layout bs ≡ version_in x.setting.layout bytes)

      told : (y : Answering) → y.setting ≡ x.setting → y.past ≡ x.past → Tells y s bytes
      told y setting past =
          (f.bytes, ap (λ t. first_bytes (calls_of t s)) past ∙ f.gave_them, differs, ap (λ st. version_in st.layout f.bytes) setting ∙ version, ap (λ st. version_in st.layout bytes) setting)

      by : (step ≡ WatchRead) ⊎ (step ≡ DecidingRead) → (y : Answering) → ((P : Session → List ℕ → Type 0) → P s bytes → JoinRead y step P) → y.setting ≡ x.setting → y.past ≡ x.past
          → CausedBy y (IdHeld (version_of f.record_read) (version_in x.setting.layout bytes))
      by (inl is) y read setting past = inl (subst (λ q. JoinRead y q (Tells y)) is (read (Tells y) (told y setting past)))
      by (inr is) y read setting past = inr (subst (λ q. JoinRead y q (Tells y)) is (read (Tells y) (told y setting past)))

watched_well : (these : Reply → Bool) (x : Step) (j : ℕ) (l : DeltaLease) (first bytes : List ℕ) (n : DeltaNext) → (bytes_eq first bytes ≡ false → StaysCaused x (record { job = j; reply = id_held l.layout first bytes })) → IsWellJoin these x j n
    → IsWellJoin these x j (where_watched l first bytes n)
watched_well these x j l first bytes n cause h = by (bytes_eq first bytes) refl where
  by : (b : Bool) → bytes_eq first bytes ≡ b → IsWellJoin these x j (elim b as (λ z. DeltaNext) [ false ↦ RefuseJoin (id_held l.layout first bytes) | true ↦ n ])
  by false other = λ shown. cause other
  by true same = h

claim_well : (these : Reply → Bool) (x : Step) (s : Session) (m : Submitted) (bytes : List ℕ) (j : ℕ) → JoinHeard x s m (Read bytes) j DecidingRead
    → (o : Option DeltaRec) → delta_in (record_in x.setting.layout bytes) ≡ o → IsWellJoin these x j (elim o as (λ z. DeltaNext) [ None ↦ Nothing | Some d ↦ claim_on (delta_of_session x.setting s) x.reading d ])
claim_well these x s m bytes j h None torn = tt
claim_well these x s m bytes j h (Some d) spells = by (is_number (d.generation + 1)) refl (is_number (d.seq + 1)) refl where
  there : (y : Answering) → y.setting ≡ x.setting → delta_in (record_in y.setting.layout bytes) ≡ Some d
  there y setting = ap (λ st. delta_in (record_in st.layout bytes)) setting ∙ spells

  by : (a : Bool) → is_number (d.generation + 1) ≡ a → (b : Bool) → is_number (d.seq + 1) ≡ b
      → IsWellJoin these x j (elim a as (λ z. DeltaNext) [
        | false ↦ RefuseJoin (LimitReached GenLimit)
        | true ↦ elim b as (λ z. DeltaNext) [
          | false ↦ RefuseJoin (LimitReached SeqLimit)
          | true ↦ WriteClaim (delta_record (delta_of_session x.setting s) Claimed (d.generation + 1) (d.seq + 1) x.reading no_bits)
        ]
      ])
  by false high b low = λ shown.
      by_read x s m bytes j DecidingRead h (LimitReached GenLimit)
      (λ y read setting past. read (λ z bs. (f : DeltaRec) × (delta_in (record_in y.setting.layout bs) ≡ Some f) × (record_numbers ≤ f.generation + 1)) (d, there y setting, not_number (d.generation + 1) high))
  by true right false high = λ shown.
      by_read x s m bytes j DecidingRead h (LimitReached SeqLimit)
      (λ y read setting past. inl (read (λ z bs. (f : DeltaRec) × (delta_in (record_in y.setting.layout bs) ≡ Some f) × (record_numbers ≤ f.seq + 1)) (d, there y setting, not_number (d.seq + 1) high)))
  by true right true low = tt

verify_well : (these : Reply → Bool) (x : Step) (s : Session) (m : Submitted) (bytes : List ℕ) (j : ℕ) → JoinHeard x s m (Read bytes) j VerifyRead
    → IsWellJoin these x j (next_after_verify (delta_of_session x.setting s) (calls_of (seen x) s) x.reading bytes)
unfolding next_after_verify
verify_well these x s m bytes j h = by (claim_of (calls_of (seen x) s)) refl where
  l : DeltaLease
  l = delta_of_session x.setting s

  claimed : (y : Answering) → y.past ≡ x.past → (claim : DeltaRec) → claim_of (calls_of (seen x) s) ≡ Some claim → claim_of (calls_of y.past s) ≡ Some claim
  claimed y past claim is = ap (λ t. claim_of (calls_of t s)) past ∙ (sym (claim_before x s m (Read bytes) h.hears) ∙ is)

  number : (claim : DeltaRec) → claim_of (calls_of (seen x) s) ≡ Some claim → (b : Bool) → is_number (claim.seq + 1) ≡ b
      → IsWellJoin these x j (elim b as (λ z. DeltaNext) [ false ↦ RefuseJoin (LimitReached SeqLimit) | true ↦ WriteFirst (delta_record l Live claim.generation (claim.seq + 1) x.reading no_bits) ])
  number claim is true low = tt
  number claim is false high = λ shown.
      by_read x s m bytes j VerifyRead h (LimitReached SeqLimit)
      (λ y read setting past. inr (inl (read (λ z bs. (d : DeltaRec) × (claim_of (calls_of y.past z) ≡ Some d) × (record_numbers ≤ d.seq + 1)) (claim, claimed y past claim is, not_number (claim.seq + 1) high))))

  same : (claim : DeltaRec) → claim_of (calls_of (seen x) s) ≡ Some claim → (b : Bool) → bytes_eq bytes (sector_with x.setting.layout (DeltaIs claim)) ≡ b
      → IsWellJoin these x j (elim b as (λ z. DeltaNext) [
        | false ↦ RefuseJoin (id_lost l claim bytes)
        | true ↦ elim (is_number (claim.seq + 1)) as (λ z. DeltaNext) [ false ↦ RefuseJoin (LimitReached SeqLimit) | true ↦ WriteFirst (delta_record l Live claim.generation (claim.seq + 1) x.reading no_bits) ]
      ])
  same claim is false other = λ shown.
      by_read x s m bytes j VerifyRead h (id_lost l claim bytes)
      (λ y read setting past. read
      (λ z bs. (d : DeltaRec) × (claim_of (calls_of y.past z) ≡ Some d) × (bs ≢ sector_with y.setting.layout (DeltaIs d)) × (id_lost l claim bytes ≡ id_lost (delta_of_session y.setting z) d bs))
      (claim, claimed y past claim is, subst (λ st. bytes ≢ sector_with st.layout (DeltaIs claim)) (sym setting) (differ bytes (sector_with x.setting.layout (DeltaIs claim)) other), ap (λ st. id_lost (delta_of_session st s) claim bytes) (sym setting)))
  same claim is true right = number claim is (is_number (claim.seq + 1)) refl

  by : (o : Option DeltaRec) → claim_of (calls_of (seen x) s) ≡ o
      → IsWellJoin these x j (elim o as (λ z. DeltaNext) [
        | None ↦ Nothing
        | Some claim ↦ elim (bytes_eq bytes (sector_with x.setting.layout (DeltaIs claim))) as (λ z. DeltaNext) [
          | false ↦ RefuseJoin (id_lost l claim bytes)
          | true ↦ elim (is_number (claim.seq + 1)) as (λ z. DeltaNext) [ false ↦ RefuseJoin (LimitReached SeqLimit) | true ↦ WriteFirst (delta_record l Live claim.generation (claim.seq + 1) x.reading no_bits) ]
        ]
      ])
  by None is = tt
  by (Some claim) is = same claim is (bytes_eq bytes (sector_with x.setting.layout (DeltaIs claim))) refl

joined_well : (these : Reply → Bool) (x : Step) (s : Session) (m : Submitted) (j : ℕ) → JoinHeard x s m Written j FirstRenewal → StaysCaused x (record { job = j; reply = Generation (generation_of (seen x) s) })
joined_well these x s m j h =
    by_effects x (record { job = j; reply = Generation (generation_of (seen x) s) }) (told_not_waking x s m Written h.hears)
    (λ fx carried job found.
    let a : AnswersHere x m Written j (with_effects x fx) job = here x s m Written j FirstRenewal h fx carried job found in
    inr (s, session_before x s m Written j FirstRenewal h job.number a.number, sym (generation_before x s m Written h.hears), (m, a.call, ap (λ p. is_join_call FirstRenewal p) h.purpose)))

-- What a joining's answer leads to has its cause.
pub joining_well : (these : Reply → Bool) (x : Step) (s : Session) (m : Submitted) (j : ℕ) (step : JoinStep) (answer : Answer) → WholeTrace x.setting x.past → CauseFacts x.setting x.past → is_running (seen x) j ≡ true → JoinHeard x s m answer j step
    → IsWellJoin these x j (next_in_joining (delta_of_session x.setting s) (generation_of (seen x) s) (calls_of (seen x) s) x.reading m step answer)
unfolding next_in_joining next_after_watch next_after_deciding
joining_well these x s m j step Failed w facts runs h = λ shown. fault_caused x s m j h.known h.hears (ap (λ p. job_of p) h.purpose)
joining_well these x s m j FirstRead (Read bytes) w facts runs h = first_well these x s m bytes j h
joining_well these x s m j WatchRead (Read bytes) w facts runs h =
    watched_well these x j (delta_of_session x.setting s) (watched (calls_of (seen x) s)) bytes (elim (is_watched_out x.setting.timing (calls_of (seen x) s) m.reading) [ true ↦ RegisterAndRead DecidingRead | false ↦ Nothing ])
    (λ other. held_caused x s m bytes j WatchRead h (inl refl) (first_was x s m (Read bytes) j WatchRead h refl w facts runs) other) (on_bool (IsWellJoin these x j) (is_watched_out x.setting.timing (calls_of (seen x) s) m.reading) Nothing (RegisterAndRead DecidingRead) tt tt)
joining_well these x s m j DecidingRead (Read bytes) w facts runs h =
    watched_well these x j (delta_of_session x.setting s) (watched (calls_of (seen x) s)) bytes
    (elim (delta_in (record_in x.setting.layout bytes)) [ None ↦ Nothing | Some d ↦ claim_on (delta_of_session x.setting s) x.reading d ])
    (λ other. held_caused x s m bytes j DecidingRead h (inr refl) (first_was x s m (Read bytes) j DecidingRead h refl w facts runs) other) (claim_well these x s m bytes j h (delta_in (record_in x.setting.layout bytes)) refl)
joining_well these x s m j VerifyRead (Read bytes) w facts runs h = verify_well these x s m bytes j h
joining_well these x s m j ClaimWrite (Read bytes) w facts runs h = tt
joining_well these x s m j FirstRenewal (Read bytes) w facts runs h = tt
joining_well these x s m j FirstRead Written w facts runs h = tt
joining_well these x s m j WatchRead Written w facts runs h = tt
joining_well these x s m j DecidingRead Written w facts runs h = tt
joining_well these x s m j ClaimWrite Written w facts runs h = tt
joining_well these x s m j VerifyRead Written w facts runs h = tt
joining_well these x s m j FirstRenewal Written w facts runs h = λ shown. joined_well these x s m j h

-- So it may be done.
pub joining_may : (these : Reply → Bool) (x : Step) (s : Session) (j : ℕ) (n : DeltaNext) → s.job ≡ Some j → (IsConcluded x → ⊥) → ((r : Reply) → is_special r ≡ false → IsLate x r) → IsLateDelta n → IsWellJoin these x j n
    → DeltaAllowed (MayAnswer these x) (MayCall x) AnyMove x s n
joining_may these x s j Nothing its going after k h = tt
joining_may these x s j (RefuseJoin r) its going after k h = λ i is.
    ((after r k, λ shown. subst (λ q. StaysCaused x (record { job = q; reply = r })) (some_value j i (sym its ∙ is)) (h shown)), λ z at. tt)
joining_may these x s j (ReadOwn step) its going after k h = λ i is c. absurd (going c)
joining_may these x s j (RegisterAndRead step) its going after k h = λ i is. (tt, λ c. absurd (going c))
joining_may these x s j (WriteClaim d) its going after k h = λ i is c. absurd (going c)
joining_may these x s j Disconnect its going after k h = tt
joining_may these x s j (WriteFirst d) its going after k h = λ i is c. absurd (going c)
joining_may these x s j (Join generation renewed) its going after k h = λ i is.
    (tt, (late_join x generation, λ shown. subst (λ q. StaysCaused x (record { job = q; reply = Generation generation })) (some_value j i (sym its ∙ is)) (h shown)), λ c. absurd (going c))
joining_may these x s j (MoveConnection renewed) its going after k h = (tt, λ c. absurd (going c))
joining_may these x s j (WriteRenewal d) its going after k h = λ c. absurd (going c)
joining_may these x s j (WriteFree i d) its going after k h = absurd k
joining_may these x s j (EndLeaving i r) its going after k h = absurd k

-- ---- the lease at work

-- What was concluded is a lease's call.
pub concluded_call : (x : Step) (s : Session) (m : Submitted) (answer : Answer) → Known x → Hears x s m answer → (c : IsConcluded x) → c.call ≡ m
concluded_call x s m answer k hears c =
    let heard = heard_call x s m answer hears in
    let same : c.call.call.number ≡ m.call.number = some_value c.call.call.number m.call.number (sym c.heard ∙ heard.1) in
    one_value c.call m (call_numbered (seen x) m.call.number) (subst (λ n. call_numbered (seen x) n ≡ Some c.call) same (k.0.facts.calls.found c.call c.there)) (k.0.facts.calls.found m heard.0)

pub goes_on_still : (x : Step) (s : Session) (m : Submitted) (answer : Answer) → Known x → Hears x s m answer → lease_step m.call.purpose ≡ None → IsConcluded x → ⊥
goes_on_still x s m answer k hears other c =
    none_some (ForJob c.job, c.step) (sym other ∙ (ap (λ (d : Submitted). lease_step d.call.purpose) (sym (concluded_call x s m answer k hears c)) ∙ ap (λ p. lease_step p) c.purpose))
