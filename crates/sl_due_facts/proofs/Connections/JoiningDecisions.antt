-- What a joining decides may be done of its connection: after an answer, and on a wake.
use Rattle.sl_due_facts.proofs.Acts.InputsKeep.{has_heard}
use Rattle.sl_due_facts.specs.Acts.Acts.{Has, Hears}
use Rattle.sl_area.specs.AreaSizes.{record_in, sector_with}
use Rattle.sl_due.specs.Steps.{Step, seen}
use Rattle.sl_due_facts.proofs.Jobs.AnsweredCallsFit.{both_of}
use Rattle.sl_due_facts.proofs.Jobs.CallsOfJobsFit.{joining_of}
use Rattle.sl_due_facts.proofs.Jobs.JobsAreAllowed.{is_told}
use Rattle.sl_due_facts.proofs.Jobs.RepliesComeAfter.{on_bool, on_option}
use Rattle.sl_run.specs.LawfulConnections.{is_covered}
use Rattle.sl_words.proofs.Lists.{contains_first, find_inside, got_inside, kept_inside}
use Rattle.sl_sector.specs.Bitmaps.{no_bits}
use Rattle.sl_sector.specs.SectorLayouts.{delta_in}
use Rattle.sl_sector.specs.declared.sector.DeltaRec.{DeltaRec}
use Rattle.sl_sector.specs.declared.sector.DeltaState.TheVariants.{Claimed, Live}
use Rattle.sl_sector.specs.declared.sector.Rec.TheVariants.{DeltaIs}
use Rattle.sl_due_facts.proofs.Connections.HeardCalls.{heard_ok, newest_heard, renewed_heard, unjoined_well}
use Rattle.sl_due_facts.proofs.Connections.JoiningConnections.{Working, working_turn, working_unjoined, working_unrefused}
use Rattle.sl_due_facts.proofs.Connections.JoiningSteps.{JoinsConnection, NoHeardWriter}
use Rattle.sl_due_facts.proofs.Connections.SessionParts.{covered_at_work}
use Rattle.sl_trace.specs.DeltaDecisions.{DeltaLease, claim_of, claim_on, delta_of_session, delta_record, id_held, id_lost, is_watched_out, join_step_of, next_after_deciding, next_after_first, next_after_verify, next_after_watch, next_by_time, next_in_joining, next_in_watch, next_on_wake, watched}
use Rattle.sl_trace.specs.Sessions.{calls_of, generation_of, is_call_of, is_covered_stage, is_renewal, last_renewal, session_numbered, sessions, stage_after, stage_in}
use Rattle.sl_trace.specs.Sightings.{is_free_state}
use Rattle.sl_trace.specs.declared.delta.DeltaNext.TheVariants.{Nothing, ReadOwn, RefuseJoin, RegisterAndRead, WriteClaim, WriteFirst}
use Rattle.sl_trace.specs.declared.delta.DeltaNext.{DeltaNext}
use Rattle.sl_trace.specs.declared.session.Session.{Session}
use Rattle.sl_trace.specs.declared.stage.Stage.TheVariants.{Looking}
use Rattle.sl_trace.specs.declared.stage.Stage.{Stage}
use Rattle.sl_due_facts.specs.Facts.HeardCall.{heard_by}
use Rattle.sl_due_facts.specs.Facts.AllFacts.{Whole}
use Rattle.sl_time.specs.Times.{dead, join_max, renew}
use Rattle.sl_trace.specs.Traces.{Answered, Submitted, call_numbered, is_answered_ok, is_ok_answer, is_running, is_write, submitted}
use Rattle.sl_trace.specs.declared.effects.JoinStep.TheVariants.{ClaimWrite, DecidingRead, FirstRead, FirstRenewal, VerifyRead, WatchRead}
use Rattle.sl_trace.specs.declared.effects.JoinStep.{JoinStep}
use Rattle.sl_trace.specs.declared.effects.Purpose.TheVariants.{Joining, Lease, Leaving, Renewal, RequestRead, RequestWrite, SeeRequest, Survey, ValueRead, ValueWrite}
use Rattle.sl_trace.specs.declared.effects.Purpose.{Purpose}
use Rattle.sl_trace.specs.declared.input.Answer.TheVariants.{Failed, Read, Written}
use Rattle.sl_trace.specs.declared.input.Answer.{Answer}
use Rattle.sl_trace.specs.declared.input.Input.TheVariants.{Wake}
use Rattle.sl_trace.specs.declared.reply.Limited.TheVariants.{Gen as GenLimit, Seq as SeqLimit}
use Rattle.sl_trace.specs.declared.reply.Reply.TheVariants.{IdLate, Limit as LimitReached, TornDelta, WrongDelta}
use Rattle.sl_run_law.specs.Sessions.SessionLaws.{all_done, fits, fits_as, is_in_turn, leads_to}
use Rattle.sl_words.proofs.CaseLaws.{false_is_true, none_some, not_both, one_value, some_value, true_is_false}
use Rattle.sl_words.proofs.WordLaws.{and_true}
use Rattle.sl_words.specs.Bounds.{is_number}
use Rattle.sl_words.specs.Words.{some_is}
use Rattle.std.proofs.Common.{ap, refl, subst, sym, ◌∙◌}
use Rattle.std.proofs.lemmas.Bool.{eqb-true}
use Rattle.std.specs.Prelude.{Bool, Contains, List, None, Option, Some, [], bytes_eq, false, nat_le, nat_lt, not, true, ℕ, ◌&&◌, ◌+◌, ◌==◌, ◌∷◌, ◌≡◌}

pub covered_newest : (x : Step) (s : Session) (j : ℕ) (step : JoinStep) (m : Submitted) (ms : List Submitted) → Working x s j → calls_of (seen x) s ≡ m ∷ ms → m.call.purpose ≡ Joining j step
    → is_covered (seen x) s ≡ is_covered_stage (stage_after step (is_answered_ok m))
covered_newest x s j step m ms w are is =
    covered_at_work (seen x) s (working_unjoined x s j w) (working_unrefused x s j w)
    ∙ (ap (λ ks. is_covered_stage (stage_in ks)) are
    ∙ ap (λ p. is_covered_stage (elim p as (λ z. Stage) [ Joining i at ↦ stage_after at (is_answered_ok m) | _ ↦ Looking ])) is)

pub stage_newest : (x : Step) (s : Session) (j : ℕ) (step : JoinStep) (m : Submitted) (ms : List Submitted) → calls_of (seen x) s ≡ m ∷ ms → m.call.purpose ≡ Joining j step → stage_in (calls_of (seen x) s) ≡ stage_after step (is_answered_ok m)
stage_newest x s j step m ms are is = ap (λ ks. stage_in ks) are ∙ ap (λ p. elim p as (λ z. Stage) [ Joining i at ↦ stage_after at (is_answered_ok m) | _ ↦ Looking ]) is

-- ---- after an answer

pub heard_working : (x : Step) (s : Session) (j : ℕ) (step : JoinStep) (m : Submitted) (answer : Answer) → Whole x → Hears x s m answer → m.call.purpose ≡ Joining j step → is_running (seen x) j ≡ true → Working x s j
heard_working x s j step m answer h hears is runs =
    record {
      has = has_heard x s m answer hears;
      its = joining_of x s m j step (both_of x h) (find_inside (λ (z : Submitted). z.call.number == hears.number) (submitted (seen x)) m hears.call).0 hears.session is;
      runs = runs;
      names = h.facts.names;
      orderly = h.orderly;
    }

-- No write was heard where the heard call is a read of a joining.
read_alone : (x : Step) (s : Session) (m : Submitted) (answer : Answer) → Whole x → Hears x s m answer → is_write m.call.op ≡ false → NoHeardWriter x
read_alone x s m answer h hears reads_one z w =
    let number : hears.number ≡ w.1.0.call.number = some_value hears.number w.1.0.call.number (ap (λ i. heard_by i) (sym hears.heard) ∙ w.1.3) in
    let inside = (kept_inside (is_call_of z) (submitted (seen x)) w.1.0 w.1.1).0 in
    let one : w.1.0 ≡ m = one_value w.1.0 m (call_numbered (seen x) hears.number) (subst (λ q. call_numbered (seen x) q ≡ Some w.1.0) (sym number) (h.facts.calls.found w.1.0 inside)) hears.call in
    not_both (is_write m.call.op) (subst (λ (k : Submitted). is_write k.call.op ≡ true) one w.1.2) reads_one

pub heard_decides : (x : Step) (s : Session) (j : ℕ) (step : JoinStep) (m : Submitted) (answer : Answer) → Whole x → Hears x s m answer → m.call.purpose ≡ Joining j step → is_running (seen x) j ≡ true
    → JoinsConnection x s (next_in_joining (delta_of_session x.setting s) (generation_of (seen x) s) (calls_of (seen x) s) x.reading m step answer)
unfolding next_in_joining next_after_first next_after_watch next_after_deciding next_after_verify
heard_decides x s j step m answer h hears is runs = by step answer is (heard_ok x s m answer h hears) (λ same none. last same none) where
  l : DeltaLease
  l = delta_of_session x.setting s

  P : DeltaNext → Type 0
  P n = JoinsConnection x s n

  w : Working x s j
  w = heard_working x s j step m answer h hears is runs

  newest : (ms : List Submitted) × (calls_of (seen x) s ≡ m ∷ ms)
  newest = newest_heard x s m answer h hears (working_unjoined x s j w)

  covered : (at : JoinStep) → m.call.purpose ≡ Joining j at → is_covered (seen x) s ≡ is_covered_stage (stage_after at (is_answered_ok m))
  covered at its = covered_newest x s j at m newest.0 w newest.1 its

  fits_it : fits_as m.call.purpose (is_write m.call.op) ≡ true
  fits_it = (and_true (fits m) (all_done newest.0) (subst (λ ks. is_in_turn ks ≡ true) newest.1 (working_turn x s j w))).0

  unwritten : (b : Bool) → not b ≡ true → b ≡ false
  unwritten false k = refl
  unwritten true k = absurd (false_is_true k)

  last : answer ≡ Written → is_renewal m.call.purpose ≡ true → last_renewal x.setting (seen x) s ≡ m.reading
  last same renews = renewed_heard x s m (subst (λ a. Hears x s m a) same hears) renews (unjoined_well x s (working_unjoined x s j w))

  registers_on : (at : JoinStep) → m.call.purpose ≡ Joining j at → not (is_write m.call.op) ≡ true → stage_after at (is_answered_ok m) ≡ Looking → JoinsConnection x s (RegisterAndRead DecidingRead)
  registers_on at its reads_one stage = (refl, refl, covered at its ∙ ap (λ q. is_covered_stage q) stage, read_alone x s m answer h hears (unwritten (is_write m.call.op) reads_one), λ waits. absurd (true_is_false (ap (λ q. leads_to q WatchRead) (sym (stage_newest x s j at m newest.0 newest.1 its ∙ stage) ∙ waits))))

  claims : (b : List ℕ) (d : DeltaRec) → is_covered (seen x) s ≡ true → JoinsConnection x s (claim_on (delta_of_session x.setting s) x.reading d)
  claims b d is_one =
      on_bool (JoinsConnection x s) (is_number (d.generation + 1)) (RefuseJoin (LimitReached GenLimit))
      (elim (is_number (d.seq + 1)) [ false ↦ RefuseJoin (LimitReached SeqLimit) | true ↦ WriteClaim (delta_record (delta_of_session x.setting s) Claimed (d.generation + 1) (d.seq + 1) x.reading no_bits) ]) refl
      (on_bool (JoinsConnection x s) (is_number (d.seq + 1)) (RefuseJoin (LimitReached SeqLimit)) (WriteClaim (delta_record (delta_of_session x.setting s) Claimed (d.generation + 1) (d.seq + 1) x.reading no_bits)) refl is_one)

  by : (at : JoinStep) (a : Answer) → m.call.purpose ≡ Joining j at → is_answered_ok m ≡ is_ok_answer a → (a ≡ Written → is_renewal m.call.purpose ≡ true → last_renewal x.setting (seen x) s ≡ m.reading)
      → JoinsConnection x s (next_in_joining (delta_of_session x.setting s) (generation_of (seen x) s) (calls_of (seen x) s) x.reading m at a)
  by at Failed its ok renews = refl
  by FirstRead (Read bytes) its ok renews =
      on_option (JoinsConnection x s) (delta_in (record_in x.setting.layout bytes)) (RefuseJoin TornDelta)
      (λ d. elim (bytes_eq d.lockspace s.lockspace && d.id == s.id) [ false ↦ RefuseJoin (WrongDelta d.lockspace d.id) | true ↦ elim (is_free_state d.state) [ true ↦ RegisterAndRead DecidingRead | false ↦ Nothing ] ]) refl
      (λ d. on_bool (JoinsConnection x s) (bytes_eq d.lockspace s.lockspace && d.id == s.id) (RefuseJoin (WrongDelta d.lockspace d.id)) (elim (is_free_state d.state) [ true ↦ RegisterAndRead DecidingRead | false ↦ Nothing ]) refl
      (on_bool (JoinsConnection x s) (is_free_state d.state) Nothing (RegisterAndRead DecidingRead) tt (registers_on FirstRead its (sym (ap (λ p. fits_as p (is_write m.call.op)) its) ∙ fits_it) refl)))
  by WatchRead (Read bytes) its ok renews =
      on_bool (JoinsConnection x s) (bytes_eq (watched (calls_of (seen x) s)) bytes) (RefuseJoin (id_held x.setting.layout (watched (calls_of (seen x) s)) bytes))
      (elim (is_watched_out x.setting.timing (calls_of (seen x) s) m.reading) [ true ↦ RegisterAndRead DecidingRead | false ↦ Nothing ]) refl
      (on_bool (JoinsConnection x s) (is_watched_out x.setting.timing (calls_of (seen x) s) m.reading) Nothing (RegisterAndRead DecidingRead) tt
      (registers_on WatchRead its (sym (ap (λ p. fits_as p (is_write m.call.op)) its) ∙ fits_it) refl))
  by DecidingRead (Read bytes) its ok renews =
      on_bool (JoinsConnection x s) (bytes_eq (watched (calls_of (seen x) s)) bytes) (RefuseJoin (id_held x.setting.layout (watched (calls_of (seen x) s)) bytes))
      (elim (delta_in (record_in x.setting.layout bytes)) [ None ↦ Nothing | Some d ↦ claim_on (delta_of_session x.setting s) x.reading d ]) refl
      (on_option (JoinsConnection x s) (delta_in (record_in x.setting.layout bytes)) Nothing (λ d. claim_on (delta_of_session x.setting s) x.reading d) tt (λ d. claims bytes d (covered DecidingRead its)))
  by VerifyRead (Read bytes) its ok renews =
      on_option (JoinsConnection x s) (claim_of (calls_of (seen x) s)) Nothing
      (λ claim. elim (bytes_eq bytes (sector_with x.setting.layout (DeltaIs claim))) [
        | false ↦ RefuseJoin (id_lost (delta_of_session x.setting s) claim bytes)
        | true ↦ elim (is_number (claim.seq + 1)) [ false ↦ RefuseJoin (LimitReached SeqLimit) | true ↦ WriteFirst (delta_record (delta_of_session x.setting s) Live claim.generation (claim.seq + 1) x.reading no_bits) ]
      ]) tt
      (λ claim. on_bool (JoinsConnection x s) (bytes_eq bytes (sector_with x.setting.layout (DeltaIs claim))) (RefuseJoin (id_lost (delta_of_session x.setting s) claim bytes))
      (elim (is_number (claim.seq + 1)) [ false ↦ RefuseJoin (LimitReached SeqLimit) | true ↦ WriteFirst (delta_record (delta_of_session x.setting s) Live claim.generation (claim.seq + 1) x.reading no_bits) ]) refl
      (on_bool (JoinsConnection x s) (is_number (claim.seq + 1)) (RefuseJoin (LimitReached SeqLimit)) (WriteFirst (delta_record (delta_of_session x.setting s) Live claim.generation (claim.seq + 1) x.reading no_bits)) refl (covered VerifyRead its)))
  by ClaimWrite (Read bytes) its ok renews = tt
  by FirstRenewal (Read bytes) its ok renews = tt
  by ClaimWrite Written its ok renews =
      (covered ClaimWrite its ∙ ap (λ b. is_covered_stage (stage_after ClaimWrite b)) ok, stage_newest x s j ClaimWrite m newest.0 newest.1 its ∙ ap (λ b. stage_after ClaimWrite b) ok, λ wake. true_is_false (ap (λ i. is_told i) (sym hears.heard ∙ wake)))
  by FirstRenewal Written its ok renews = (covered FirstRenewal its, renews refl (ap (λ p. is_renewal p) its))
  by FirstRead Written its ok renews = tt
  by WatchRead Written its ok renews = tt
  by DecidingRead Written its ok renews = tt
  by VerifyRead Written its ok renews = tt

-- ---- on a wake

pub woken_decides : (x : Step) (s : Session) (j : ℕ) → Whole x → Has x s → x.input ≡ Wake → s.job ≡ Some j → is_running (seen x) j ≡ true
    → JoinsConnection x s (next_on_wake (delta_of_session x.setting s) x.reading (calls_of (seen x) s))
unfolding next_on_wake
woken_decides x s j h has wake its runs = by (calls_of (seen x) s) refl where
  l : DeltaLease
  l = delta_of_session x.setting s

  w : Working x s j
  w = record { has = has; its = its; runs = runs; names = h.facts.names; orderly = h.orderly }

  mine : Contains (sessions x.setting (seen x)) s
  mine = got_inside (sessions x.setting (seen x)) s.number s has

  quiet : heard_by x.input ≡ None
  quiet = ap (λ i. heard_by i) wake

  no_writer : NoHeardWriter x
  no_writer z k = none_some k.1.0.call.number (sym quiet ∙ k.1.3)

  watches : (now answered : ℕ) → is_covered (seen x) s ≡ false → JoinsConnection x s (next_in_watch (delta_of_session x.setting s) now answered)
  watches now answered uncovered = on_bool (JoinsConnection x s) (nat_le (answered + renew x.setting.timing) now) Nothing (ReadOwn WatchRead) tt (refl, uncovered, wake)

  by_time : (m : Submitted) (ms : List Submitted) (a : Answered) (step : JoinStep) → calls_of (seen x) s ≡ m ∷ ms → m.answer ≡ Some a → m.call.purpose ≡ Joining j step → JoinsConnection x s (next_by_time (delta_of_session x.setting s) x.reading m.reading a.reading step)
  by_time m ms a FirstRead are is for = watches x.reading a.reading (covered_newest x s j FirstRead m ms w are for)
  by_time m ms a WatchRead are is for = watches x.reading a.reading (covered_newest x s j WatchRead m ms w are for)
  by_time m ms a ClaimWrite are is for =
      on_bool (JoinsConnection x s) (nat_le (a.reading + dead x.setting.timing) x.reading) Nothing
      (elim (nat_lt (m.reading + join_max x.setting.timing) x.reading) [ true ↦ RefuseJoin (IdLate m.reading x.reading) | false ↦ RegisterAndRead VerifyRead ]) tt
      (on_bool (JoinsConnection x s) (nat_lt (m.reading + join_max x.setting.timing) x.reading) (RegisterAndRead VerifyRead) (RefuseJoin (IdLate m.reading x.reading))
      (refl, refl, covered_newest x s j ClaimWrite m ms w are for ∙ ap (λ b. is_covered_stage (stage_after ClaimWrite b)) ok, no_writer, λ waits. wake) refl)
    where
      ok : is_answered_ok m ≡ true
      ok = ap (λ o. some_is (λ (b : Answered). is_ok_answer b.answer) o) is
          ∙ h.facts.names.done s j m a mine its runs (subst (λ ks. Contains ks m) (sym are) (contains_first m ms)) is (λ heard. none_some m.call.number (sym quiet ∙ heard))
  by_time m ms a DecidingRead are is for = tt
  by_time m ms a VerifyRead are is for = tt
  by_time m ms a FirstRenewal are is for = tt

  by_step : (m : Submitted) (ms : List Submitted) (a : Answered) (p : Purpose) → calls_of (seen x) s ≡ m ∷ ms → m.answer ≡ Some a → m.call.purpose ≡ p
      → JoinsConnection x s (elim (join_step_of p) as (λ z. DeltaNext) [ None ↦ Nothing | Some step ↦ next_by_time (delta_of_session x.setting s) x.reading m.reading a.reading step ])
  by_step m ms a (Joining i step) are is for =
      let there = kept_inside (is_call_of s) (submitted (seen x)) m (subst (λ ks. Contains ks m) (sym are) (contains_first m ms)) in
      let session : session_numbered x.setting (seen x) m.call.session ≡ Some s = subst (λ n. session_numbered x.setting (seen x) n ≡ Some s) (sym (eqb-true m.call.session s.number there.1)) has in
      let job : s.job ≡ Some i = joining_of x s m i step (both_of x h) there.0 session for in
      by_time m ms a step are is (for ∙ ap (λ n. Joining n step) (some_value i j (sym job ∙ its)))
  by_step m ms a Renewal are is for = tt
  by_step m ms a Survey are is for = tt
  by_step m ms a (Leaving i) are is for = tt
  by_step m ms a (Lease work step) are is for = tt
  by_step m ms a (RequestRead i) are is for = tt
  by_step m ms a (RequestWrite i owner) are is for = tt
  by_step m ms a SeeRequest are is for = tt
  by_step m ms a (ValueWrite i) are is for = tt
  by_step m ms a (ValueRead i) are is for = tt

  by : (ks : List Submitted) → calls_of (seen x) s ≡ ks → JoinsConnection x s (next_on_wake (delta_of_session x.setting s) x.reading ks)
  by [] are = tt
  by (m ∷ ms) are = answered m.answer refl where
    answered : (o : Option Answered) → m.answer ≡ o
        → JoinsConnection x s (elim o as (λ z. DeltaNext) [ None ↦ Nothing | Some a ↦ elim (join_step_of m.call.purpose) as (λ z. DeltaNext) [ None ↦ Nothing | Some step ↦ next_by_time (delta_of_session x.setting s) x.reading m.reading a.reading step ] ])
    answered None is = tt
    answered (Some a) is = by_step m ms a m.call.purpose are is refl
