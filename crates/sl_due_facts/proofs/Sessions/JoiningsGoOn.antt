-- A joining that runs goes on: after an answer of it a call is made, or it waits for a wake by the step of its newest call.
use Rattle.sl_due_facts.proofs.Acts.LoopsKeep.{when_keeps, with_some_keeps}
use Rattle.sl_due_facts.specs.Acts.Acts.{Has}
use Rattle.sl_due_facts.specs.Acts.TraceSoFar.{SoFar, entry_of}
use Rattle.sl_area.specs.AreaSizes.{record_in, sector_with}
use Rattle.sl_due.specs.IdleJobs.{is_waiting_step}
use Rattle.sl_due.specs.CarriedDelta.{carry_delta, for_joining, move_connection, survey, write_own_sector}
use Rattle.sl_due.specs.DueTimeOuts.{refuse, remove_connection, remove_of_refused}
use Rattle.sl_due.specs.Steps.{Step, add_call_of, add_move, add_reply, seen, with_some}
use Rattle.sl_due_facts.proofs.Jobs.AnsweredCallsFit.{record_writes}
use Rattle.sl_due_facts.proofs.Jobs.RepliesComeAfter.{on_bool}
use Rattle.sl_due_facts.proofs.Jobs.SessionsHaveJobs.{contains_only}
use Rattle.sl_due_facts.proofs.Jobs.SessionsStand.{reply_stops}
use Rattle.sl_run.specs.LawfulDelta.{LawfulClaim, LawfulDeciding, LawfulDeltaCall, LawfulFirstRenewal, LawfulJoinStep, LawfulVerify}
use Rattle.sl_due_facts.proofs.AddedEffects.CallsGrow.{mine_more}
use Rattle.sl_words.proofs.Lists.{contains_cases, contains_none, find_fails, find_inside, head_is, kept, kept_inside}
use Rattle.sl_words.proofs.Numbers.{number_itself}
use Rattle.sl_words.proofs.Options.{then_value}
use Rattle.sl_sector.specs.Bitmaps.{no_bits}
use Rattle.sl_sector.specs.SectorLayouts.{delta_in}
use Rattle.sl_sector.specs.declared.sector.DeltaRec.{DeltaRec}
use Rattle.sl_sector.specs.declared.sector.DeltaState.TheVariants.{Claimed, Live}
use Rattle.sl_sector.specs.declared.sector.Rec.TheVariants.{DeltaIs}
use Rattle.sl_trace.specs.DeltaDecisions.{DeltaLease, claim_of, claim_on, delta_of_session, delta_record, id_held, id_lost, next_after_deciding, next_after_verify, next_in_joining, own_offset, watched}
use Rattle.sl_trace.specs.Sessions.{calls_of, delta_of_record, delta_written, has_open_write, is_call_of, is_join_call, join_call, joined_after, refused_after, session_of_job, stage_after}
use Rattle.sl_trace.specs.declared.delta.DeltaNext.{DeltaNext}
use Rattle.sl_trace.specs.declared.delta.DeltaNext.TheVariants.{Join, Nothing, RefuseJoin, WriteClaim, WriteFirst}
use Rattle.sl_trace.specs.declared.session.Session.{Session}
use Rattle.sl_trace.specs.WatchdogConnections.{is_registered}
use Rattle.sl_trace.specs.Traces.{Answered, Submitted, bytes_given, gave, is_answer_for, is_ok_answer, is_running, is_write, new_call, next_call, record_of, submitted}
use Rattle.sl_trace.specs.declared.effects.Call.{Call}
use Rattle.sl_trace.specs.declared.effects.JoinStep.{JoinStep}
use Rattle.sl_trace.specs.declared.effects.JoinStep.TheVariants.{ClaimWrite, DecidingRead, FirstRead, FirstRenewal, VerifyRead, WatchRead}
use Rattle.sl_trace.specs.declared.effects.Move.TheVariants.{Unregister}
use Rattle.sl_trace.specs.declared.effects.Op.{Op}
use Rattle.sl_trace.specs.declared.effects.Op.TheVariants.{ReadSectors, WriteRecord}
use Rattle.sl_trace.specs.declared.effects.Purpose.{Purpose}
use Rattle.sl_trace.specs.declared.effects.Purpose.TheVariants.{Joining, Lease, Leaving, Renewal, RequestRead, RequestWrite, SeeRequest, Survey, ValueRead, ValueWrite}
use Rattle.sl_trace.specs.declared.input.Answer.{Answer}
use Rattle.sl_trace.specs.declared.input.Answer.TheVariants.{Failed, Read, Written}
use Rattle.sl_trace.specs.declared.reply.Limited.TheVariants.{Gen as GenLimit, Seq as SeqLimit}
use Rattle.sl_trace.specs.declared.reply.Reply.{Reply}
use Rattle.sl_trace.specs.declared.reply.Reply.TheVariants.{Generation, IoFault, Limit as LimitReached}
use Rattle.sl_run_law.proofs.Sessions.FrontAnswersStay.{front_answers_stay}
use Rattle.sl_run_law.proofs.Sessions.JoiningsAreOrdered.{joinings_are_ordered}
use Rattle.sl_run_law.proofs.Sessions.CallOwners.{calls_were_lawful}
use Rattle.sl_run_law.specs.Sessions.SessionLaws.{IsMade, WasLawful, front_of, is_ordered, leads_to, made_as, may_come, may_follow}
use Rattle.sl_words.proofs.CaseLaws.{false_is_true, none_some, not_both}
use Rattle.sl_words.proofs.WordLaws.{and_true}
use Rattle.sl_words.specs.Bounds.{is_number}
use Rattle.std.proofs.Common.{ap, arith, inl, inr, refl, subst, sym, ◌∙◌}
use Rattle.std.proofs.lemmas.Bool.{eqb-true}
use Rattle.std.proofs.lemmas.Slice.Eq.{bytes_eq-Decides}
use Rattle.std.specs.Prelude.{Bool, Contains, IsTrue, List, None, Option, Some, [], bytes_eq, cond, false, is_some, length, not, option_and_then, true, unwrap_or, ℕ, ◌&&◌, ◌+◌, ◌<◌, ◌∷◌, ◌≡◌, ◌⊎◌}

-- ---- what was read and claimed before

-- The first read comes first.
pub first_is_last : (p q : Purpose) → may_follow p q ≡ true → is_join_call FirstRead q ≡ false
first_is_last (Joining i a) (Joining j FirstRead) follows = absurd (by a follows) where
  by : (s : JoinStep) → leads_to (stage_after s true) FirstRead ≡ true → ⊥
  by FirstRead h = false_is_true h
  by WatchRead h = false_is_true h
  by DecidingRead h = false_is_true h
  by ClaimWrite h = false_is_true h
  by VerifyRead h = false_is_true h
  by FirstRenewal h = false_is_true h
first_is_last (Joining i a) (Joining j WatchRead) follows = refl
first_is_last (Joining i a) (Joining j DecidingRead) follows = refl
first_is_last (Joining i a) (Joining j ClaimWrite) follows = refl
first_is_last (Joining i a) (Joining j VerifyRead) follows = refl
first_is_last (Joining i a) (Joining j FirstRenewal) follows = refl
first_is_last (Joining i a) Renewal follows = refl
first_is_last (Joining i a) Survey follows = refl
first_is_last (Joining i a) (Leaving j) follows = refl
first_is_last (Joining i a) (Lease work step) follows = refl
first_is_last (Joining i a) (RequestRead j) follows = refl
first_is_last (Joining i a) (RequestWrite j owner) follows = refl
first_is_last (Joining i a) SeeRequest follows = refl
first_is_last (Joining i a) (ValueWrite j) follows = refl
first_is_last (Joining i a) (ValueRead j) follows = refl
first_is_last Renewal q follows = absurd (false_is_true follows)
first_is_last Survey q follows = absurd (false_is_true follows)
first_is_last (Leaving i) q follows = absurd (false_is_true follows)
first_is_last (Lease work step) q follows = absurd (false_is_true follows)
first_is_last (RequestRead i) q follows = absurd (false_is_true follows)
first_is_last (RequestWrite i owner) q follows = absurd (false_is_true follows)
first_is_last SeeRequest q follows = absurd (false_is_true follows)
first_is_last (ValueWrite i) q follows = absurd (false_is_true follows)
first_is_last (ValueRead i) q follows = absurd (false_is_true follows)

pub one_first : (ms : List Submitted) (a : Submitted) → is_ordered ms ≡ true → Contains ms a → is_join_call FirstRead a.call.purpose ≡ true → join_call ms FirstRead ≡ Some a
one_first [] a ordered there is = absurd (contains_none a there)
one_first (m ∷ []) a ordered there is =
    let same : m ≡ a = contains_only m a there in
    ap (λ b. cond b (Some m) None) (ap (λ (z : Submitted). is_join_call FirstRead z.call.purpose) same ∙ is) ∙ ap (λ z. Some z) same
one_first (m ∷ k ∷ ks) a ordered there is = by (contains_cases m (k ∷ ks) a there) (λ old. one_first (k ∷ ks) a both.1 old is) where
  both : (may_come (k ∷ ks) m.call.purpose ≡ true) × (is_ordered (k ∷ ks) ≡ true)
  both = and_true (may_come (k ∷ ks) m.call.purpose) (is_ordered (k ∷ ks)) ordered

  no_first : is_join_call FirstRead m.call.purpose ≡ false
  no_first = first_is_last k.call.purpose m.call.purpose both.0

  by : (m ≡ a) ⊎ Contains (k ∷ ks) a → (Contains (k ∷ ks) a → join_call (k ∷ ks) FirstRead ≡ Some a) → join_call (m ∷ k ∷ ks) FirstRead ≡ Some a
  by (inl same) more = absurd (not_both (is_join_call FirstRead a.call.purpose) is (ap (λ (z : Submitted). is_join_call FirstRead z.call.purpose) (sym same) ∙ no_first))
  by (inr old) more = ap (λ b. cond b (Some m) (join_call (k ∷ ks) FirstRead)) no_first ∙ more old

-- ---- of a joining at work

-- A joining's call, of a session whose job runs.
pub record AtWork (x : Step) (s : Session) (m : Submitted) (j : ℕ) (step : JoinStep) : Type 0 where
  pub orderly : SoFar x
  pub has : Has x s
  pub there : Contains (submitted (seen x)) m
  pub its : m.call.session ≡ s.number
  pub is : m.call.purpose ≡ Joining j step
  pub unjoined : joined_after (seen x) s ≡ None

pub law_of : (x : Step) (s : Session) (m : Submitted) (j : ℕ) (step : JoinStep) → AtWork x s m j step → (w : WasLawful x.setting (seen x) s m) × LawfulJoinStep x.setting (front_of w.made) s (made_as w.made) step
law_of x s m j step h =
    let w : WasLawful x.setting (seen x) s m = calls_were_lawful x.setting (seen x) s m h.orderly h.has h.there h.its in
    (w, subst (λ (p : Purpose). LawfulDeltaCall x.setting (front_of w.made) s (made_as w.made) p) h.is w.lawful)

-- A call that was answered where another was made is there still.
mine_still : (x : Step) (s : Session) (m : Submitted) (d : IsMade (seen x) m) (r : Submitted) (a : Answered) → Contains (calls_of (front_of d) s) r → r.answer ≡ Some a → Contains (calls_of (seen x) s) r
mine_still x s m d r a there is =
    let was = kept_inside (is_call_of s) (submitted (front_of d)) r there in
    kept (is_call_of s) (submitted (seen x)) r was.1 (front_answers_stay (seen x) m d r a was.0 is)

gave_answer : (r : Submitted) (bytes : List ℕ) → gave r ≡ Some bytes → (a : Answered) × (r.answer ≡ Some a)
gave_answer r bytes is = let v = then_value (λ (a : Answered). bytes_given a.answer) r.answer bytes is in (v.0, v.1)

-- What a joining that decides had read first spells a record.
pub decides_on : (x : Step) (s : Session) (m : Submitted) (j : ℕ) → AtWork x s m j DecidingRead → (found : DeltaRec) × (delta_in (record_in x.setting.layout (watched (calls_of (seen x) s))) ≡ Some found)
decides_on x s m j h =
    let law = law_of x s m j DecidingRead h in
    let l : LawfulDeciding x.setting (front_of law.0.made) s (made_as law.0.made) = law.1 in
    let a = gave_answer l.first l.bytes l.given.2 in
    let there : Contains (calls_of (seen x) s) l.first = mine_still x s m law.0.made l.first a.0 l.given.0 a.1 in
    let first : join_call (calls_of (seen x) s) FirstRead ≡ Some l.first = one_first (calls_of (seen x) s) l.first (joinings_are_ordered x.setting (seen x) s h.orderly h.has h.unjoined) there l.given.1 in
    let same : watched (calls_of (seen x) s) ≡ l.bytes = ap (λ o. unwrap_or (option_and_then gave o) []) first ∙ ap (λ o. unwrap_or o []) l.given.2 in
    (l.found, ap (λ bytes. delta_in (record_in x.setting.layout bytes)) same ∙ l.spelled.0)

-- A joining that verifies has claimed.
pub verifies_claim : (x : Step) (s : Session) (m : Submitted) (j : ℕ) → AtWork x s m j VerifyRead → claim_of (calls_of (seen x) s) ≡ None → ⊥
verifies_claim x s m j h none = by (join_call (calls_of (seen x) s) ClaimWrite) refl where
  law : (w : WasLawful x.setting (seen x) s m) × LawfulVerify x.setting (front_of w.made) s (made_as w.made)
  law = law_of x s m j VerifyRead h

  claimed : Contains (calls_of (seen x) s) law.1.claim × (is_join_call ClaimWrite law.1.claim.call.purpose ≡ true)
  claimed =
      let found = find_inside (λ (k : Submitted). is_join_call ClaimWrite k.call.purpose) (calls_of (front_of law.0.made) s) law.1.claim law.1.claimed in
      (mine_still x s m law.0.made law.1.claim law.1.answer found.0 law.1.answered.0, found.1)

  writes : (c : Submitted) → Contains (calls_of (seen x) s) c → (p : Purpose) → c.call.purpose ≡ p → is_join_call ClaimWrite p ≡ true → (d : DeltaRec) × (delta_written c ≡ Some d)
  writes c there (Joining i ClaimWrite) is claims =
      let inside = kept_inside (is_call_of s) (submitted (seen x)) c there in
      let its : c.call.session ≡ s.number = eqb-true c.call.session s.number inside.1 in
      let w = law_of x s c i ClaimWrite (record { orderly = h.orderly; has = h.has; there = inside.0; its = its; is = is; unjoined = h.unjoined }) in
      let l : LawfulClaim x.setting (front_of w.0.made) s (made_as w.0.made) = w.1 in
      (delta_record (delta_of_session x.setting s) Claimed (l.found.generation + 1) (l.found.seq + 1) (made_as w.0.made).reading no_bits, l.written)
  writes c there (Joining i FirstRead) is claims = absurd (false_is_true claims)
  writes c there (Joining i WatchRead) is claims = absurd (false_is_true claims)
  writes c there (Joining i DecidingRead) is claims = absurd (false_is_true claims)
  writes c there (Joining i VerifyRead) is claims = absurd (false_is_true claims)
  writes c there (Joining i FirstRenewal) is claims = absurd (false_is_true claims)
  writes c there Renewal is claims = absurd (false_is_true claims)
  writes c there Survey is claims = absurd (false_is_true claims)
  writes c there (Leaving i) is claims = absurd (false_is_true claims)
  writes c there (Lease work step) is claims = absurd (false_is_true claims)
  writes c there (RequestRead i) is claims = absurd (false_is_true claims)
  writes c there (RequestWrite i owner) is claims = absurd (false_is_true claims)
  writes c there SeeRequest is claims = absurd (false_is_true claims)
  writes c there (ValueWrite i) is claims = absurd (false_is_true claims)
  writes c there (ValueRead i) is claims = absurd (false_is_true claims)

  by : (o : Option Submitted) → join_call (calls_of (seen x) s) ClaimWrite ≡ o → ⊥
  by None is = not_both (is_join_call ClaimWrite law.1.claim.call.purpose) claimed.1 (find_fails (λ (k : Submitted). is_join_call ClaimWrite k.call.purpose) (calls_of (seen x) s) law.1.claim is claimed.0)
  by (Some c) is =
      let found = find_inside (λ (k : Submitted). is_join_call ClaimWrite k.call.purpose) (calls_of (seen x) s) c is in
      let d = writes c found.0 c.call.purpose refl found.1 in
      none_some d.0 (sym none ∙ (ap (λ o. option_and_then delta_written o) is ∙ d.1))

-- A first renewal writes.
pub writes_first : (x : Step) (s : Session) (m : Submitted) (j : ℕ) → AtWork x s m j FirstRenewal → is_write m.call.op ≡ true
writes_first x s m j h =
    let law = law_of x s m j FirstRenewal h in
    let l : LawfulFirstRenewal x.setting (front_of law.0.made) s (made_as law.0.made) = law.1 in
    let wrote = then_value delta_of_record (record_of m.call.op) (delta_record (delta_of_session x.setting s) Live l.claim.generation (l.claim.seq + 1) (made_as law.0.made).reading no_bits) l.written in
    record_writes m.call.op wrote.0 wrote.1

-- ---- after its answer

-- Its job goes on, and its newest call is still the one that was answered.
abbrev Stuck : Step → Session → Submitted → ℕ → DeltaNext → Type 0
Stuck x s m j n = is_running (seen (carry_delta s n x)) j ≡ true → (ms : List Submitted) → calls_of (seen (carry_delta s n x)) s ≡ m ∷ ms → ⊥

pub refused_stops : (x : Step) (j : ℕ) (r : Reply) → is_running (seen (refuse j r x)) j ≡ false
unfolding refuse
refused_stops x j r =
    with_some_keeps (λ y. is_running (seen y) j ≡ false) (session_of_job x.setting (seen x) j) remove_of_refused (add_reply j r x)
    (λ s is k. when_keeps (λ y. is_running (seen y) j ≡ false) (is_some (refused_after (seen (add_reply j r x)) s) && not (has_open_write (seen (add_reply j r x)) s)) (remove_connection s.lockspace) (add_reply j r x)
    (λ gone g. when_keeps (λ y. is_running (seen y) j ≡ false) (is_registered x.setting (seen (add_reply j r x)) s.lockspace) (add_move (Unregister s.lockspace)) (add_reply j r x) (λ there f. f) g) k)
    (reply_stops x j r)

-- No call is newer than itself.
call_is_newer : (y : Step) (s : Session) (path : List ℕ) (p : Purpose) (o : ℕ) (op : Op) (m : Submitted) (ms : List Submitted) → m.call.number < next_call y.setting (seen y) → calls_of (seen (add_call_of s.number path p o op y)) s ≡ m ∷ ms → ⊥
call_is_newer y s path p o op m ms below are =
    let made : Call = record { number = next_call y.setting (seen y); session = s.number; purpose = p; path = path; offset = o; op = op } in
    let new : Submitted = new_call (length y.past) y.reading made in
    let first : new ≡ m = head_is new m (calls_of (seen y) s) ms (sym (mine_more (entry_of y) y.past made s (number_itself s.number)) ∙ are) in
    let same : next_call y.setting (seen y) ≡ m.call.number = ap (λ (k : Submitted). k.call.number) first in omega (arith, below, same)

refuse_stuck : (x : Step) (s : Session) (m : Submitted) (j : ℕ) (r : Reply) → s.job ≡ Some j → Stuck x s m j (RefuseJoin r)
unfolding carry_delta
refuse_stuck x s m j r its runs ms are = not_both (is_running (seen (for_joining s (λ i. refuse i r) x)) j) runs (ap (λ o. is_running (seen (with_some o (λ i. refuse i r) x)) j) its ∙ refused_stops x j r)

claim_stuck : (x : Step) (s : Session) (m : Submitted) (j : ℕ) (d : DeltaRec) → s.job ≡ Some j → m.call.number < next_call x.setting (seen x) → Stuck x s m j (WriteClaim d)
unfolding carry_delta
claim_stuck x s m j d its below runs ms are =
    call_is_newer x s s.path (Joining j ClaimWrite) (own_offset x.setting s) (WriteRecord (DeltaIs d)) m ms below (sym (ap (λ o. calls_of (seen (with_some o (λ i. write_own_sector s (Joining i ClaimWrite) d) x)) s) its) ∙ are)

first_stuck : (x : Step) (s : Session) (m : Submitted) (j : ℕ) (d : DeltaRec) → s.job ≡ Some j → m.call.number < next_call x.setting (seen x) → Stuck x s m j (WriteFirst d)
unfolding carry_delta
first_stuck x s m j d its below runs ms are =
    call_is_newer x s s.path (Joining j FirstRenewal) (own_offset x.setting s) (WriteRecord (DeltaIs d)) m ms below (sym (ap (λ o. calls_of (seen (with_some o (λ i. write_own_sector s (Joining i FirstRenewal) d) x)) s) its) ∙ are)

join_stuck : (x : Step) (s : Session) (m : Submitted) (j generation renewed : ℕ) → s.job ≡ Some j → Stuck x s m j (Join generation renewed)
unfolding carry_delta
join_stuck x s m j generation renewed its runs ms are =
    not_both (is_running (seen (for_joining s (λ i y. survey s (add_reply i (Generation generation) (move_connection s renewed y))) x)) j) runs
    (ap (λ o. is_running (seen (with_some o (λ i y. survey s (add_reply i (Generation generation) (move_connection s renewed y))) x)) j) its ∙ reply_stops (move_connection s renewed x) j (Generation generation))

-- What a read that decides or verifies makes due leaves no joining stuck.
decides_stuck : (x : Step) (s : Session) (m : Submitted) (j : ℕ) (bytes : List ℕ) → AtWork x s m j DecidingRead → s.job ≡ Some j → m.call.number < next_call x.setting (seen x)
    → Stuck x s m j (next_after_deciding (delta_of_session x.setting s) (calls_of (seen x) s) x.reading bytes)
unfolding next_after_deciding
decides_stuck x s m j bytes h its below =
    by (bytes_eq (watched (calls_of (seen x) s)) bytes) refl where
      l : DeltaLease
      l = delta_of_session x.setting s

      claims : (d : DeltaRec) → Stuck x s m j (claim_on (delta_of_session x.setting s) x.reading d)
      claims d =
          on_bool (Stuck x s m j) (is_number (d.generation + 1)) (RefuseJoin (LimitReached GenLimit))
          (elim (is_number (d.seq + 1)) [ false ↦ RefuseJoin (LimitReached SeqLimit) | true ↦ WriteClaim (delta_record (delta_of_session x.setting s) Claimed (d.generation + 1) (d.seq + 1) x.reading no_bits) ]) (refuse_stuck x s m j (LimitReached GenLimit) its)
          (on_bool (Stuck x s m j) (is_number (d.seq + 1)) (RefuseJoin (LimitReached SeqLimit)) (WriteClaim (delta_record (delta_of_session x.setting s) Claimed (d.generation + 1) (d.seq + 1) x.reading no_bits)) (refuse_stuck x s m j (LimitReached SeqLimit) its)
          (claim_stuck x s m j (delta_record (delta_of_session x.setting s) Claimed (d.generation + 1) (d.seq + 1) x.reading no_bits) its below))

      spelled : (o : Option DeltaRec) → delta_in (record_in x.setting.layout bytes) ≡ o → (bytes_eq (watched (calls_of (seen x) s)) bytes ≡ true) → Stuck x s m j (elim o as (λ z. DeltaNext) [ None ↦ Nothing | Some d ↦ claim_on (delta_of_session x.setting s) x.reading d ])
      spelled (Some d) is same = claims d
      spelled None is same =
          let found = decides_on x s m j h in
          let eq : watched (calls_of (seen x) s) ≡ bytes = (bytes_eq-Decides (watched (calls_of (seen x) s)) bytes).0 same in
          absurd (none_some found.0 (sym is ∙ (ap (λ b. delta_in (record_in x.setting.layout b)) (sym eq) ∙ found.1)))

      by : (b : Bool) → bytes_eq (watched (calls_of (seen x) s)) bytes ≡ b
          → Stuck x s m j (elim b as (λ z. DeltaNext) [ false ↦ RefuseJoin (id_held x.setting.layout (watched (calls_of (seen x) s)) bytes) | true ↦ elim (delta_in (record_in x.setting.layout bytes)) as (λ z. DeltaNext) [ None ↦ Nothing | Some d ↦ claim_on (delta_of_session x.setting s) x.reading d ] ])
      by false other = refuse_stuck x s m j (id_held x.setting.layout (watched (calls_of (seen x) s)) bytes) its
      by true same = spelled (delta_in (record_in x.setting.layout bytes)) refl same

verifies_stuck : (x : Step) (s : Session) (m : Submitted) (j : ℕ) (bytes : List ℕ) → AtWork x s m j VerifyRead → s.job ≡ Some j → m.call.number < next_call x.setting (seen x)
    → Stuck x s m j (next_after_verify (delta_of_session x.setting s) (calls_of (seen x) s) x.reading bytes)
unfolding next_after_verify
verifies_stuck x s m j bytes h its below = by (claim_of (calls_of (seen x) s)) refl where
  by : (o : Option DeltaRec) → claim_of (calls_of (seen x) s) ≡ o
      → Stuck x s m j (elim o as (λ z. DeltaNext) [
        | None ↦ Nothing
        | Some claim ↦ elim (bytes_eq bytes (sector_with x.setting.layout (DeltaIs claim))) as (λ z. DeltaNext) [
          | false ↦ RefuseJoin (id_lost (delta_of_session x.setting s) claim bytes)
          | true ↦ elim (is_number (claim.seq + 1)) as (λ z. DeltaNext) [
            | false ↦ RefuseJoin (LimitReached SeqLimit)
            | true ↦ WriteFirst (delta_record (delta_of_session x.setting s) Live claim.generation (claim.seq + 1) x.reading no_bits)
          ]
        ]
      ])
  by None none = absurd (verifies_claim x s m j h none)
  by (Some claim) is =
      on_bool (Stuck x s m j) (bytes_eq bytes (sector_with x.setting.layout (DeltaIs claim))) (RefuseJoin (id_lost (delta_of_session x.setting s) claim bytes))
      (elim (is_number (claim.seq + 1)) [ false ↦ RefuseJoin (LimitReached SeqLimit) | true ↦ WriteFirst (delta_record (delta_of_session x.setting s) Live claim.generation (claim.seq + 1) x.reading no_bits) ]) (refuse_stuck x s m j (id_lost (delta_of_session x.setting s) claim bytes) its)
      (on_bool (Stuck x s m j) (is_number (claim.seq + 1)) (RefuseJoin (LimitReached SeqLimit)) (WriteFirst (delta_record (delta_of_session x.setting s) Live claim.generation (claim.seq + 1) x.reading no_bits)) (refuse_stuck x s m j (LimitReached SeqLimit) its)
      (first_stuck x s m j (delta_record (delta_of_session x.setting s) Live claim.generation (claim.seq + 1) x.reading no_bits) its below))

-- A joining whose newest call was answered and is its newest still waits for a wake.
pub goes_on_or_waits : (x : Step) (s : Session) (m : Submitted) (j : ℕ) (step : JoinStep) (answer : Answer) (generation : ℕ) → AtWork x s m j step → s.job ≡ Some j → m.call.number < next_call x.setting (seen x)
    → IsTrue (is_answer_for x.setting answer m.call.op) → is_running (seen (carry_delta s (next_in_joining (delta_of_session x.setting s) generation (calls_of (seen x) s) x.reading m step answer) x)) j ≡ true
    → (ms : List Submitted) → calls_of (seen (carry_delta s (next_in_joining (delta_of_session x.setting s) generation (calls_of (seen x) s) x.reading m step answer) x)) s ≡ m ∷ ms → IsTrue (is_waiting_step (Joining j step))
unfolding next_in_joining
goes_on_or_waits x s m j FirstRead answer generation h its below fits runs ms are = refl
goes_on_or_waits x s m j WatchRead answer generation h its below fits runs ms are = refl
goes_on_or_waits x s m j ClaimWrite answer generation h its below fits runs ms are = refl
goes_on_or_waits x s m j DecidingRead (Read bytes) generation h its below fits runs ms are = absurd (decides_stuck x s m j bytes h its below runs ms are)
goes_on_or_waits x s m j VerifyRead (Read bytes) generation h its below fits runs ms are = absurd (verifies_stuck x s m j bytes h its below runs ms are)
goes_on_or_waits x s m j FirstRenewal (Read bytes) generation h its below fits runs ms are = absurd (no_read m.call.op (writes_first x s m j h) fits) where
  no_read : (o : Op) → is_write o ≡ true → is_answer_for x.setting (Read bytes) o ≡ true → ⊥
  no_read (ReadSectors n) writes f = false_is_true writes
  no_read (WriteRecord r) writes f = false_is_true f
goes_on_or_waits x s m j DecidingRead Written generation h its below fits runs ms are = absurd (false_is_true (sym (ap (λ o. is_answer_for x.setting Written o) (law_of x s m j DecidingRead h).1.reads) ∙ fits))
goes_on_or_waits x s m j VerifyRead Written generation h its below fits runs ms are = absurd (false_is_true (sym (ap (λ o. is_answer_for x.setting Written o) (law_of x s m j VerifyRead h).1.reads) ∙ fits))
goes_on_or_waits x s m j FirstRenewal Written generation h its below fits runs ms are = absurd (join_stuck x s m j generation m.reading its runs ms are)
goes_on_or_waits x s m j DecidingRead Failed generation h its below fits runs ms are = absurd (refuse_stuck x s m j (IoFault m.call.number) its runs ms are)
goes_on_or_waits x s m j VerifyRead Failed generation h its below fits runs ms are = absurd (refuse_stuck x s m j (IoFault m.call.number) its runs ms are)
goes_on_or_waits x s m j FirstRenewal Failed generation h its below fits runs ms are = absurd (refuse_stuck x s m j (IoFault m.call.number) its runs ms are)

-- And where its job runs on, the answer was ok.
pub goes_on_ok : (x : Step) (s : Session) (m : Submitted) (j : ℕ) (step : JoinStep) (answer : Answer) (generation : ℕ) → s.job ≡ Some j
    → is_running (seen (carry_delta s (next_in_joining (delta_of_session x.setting s) generation (calls_of (seen x) s) x.reading m step answer) x)) j ≡ true → IsTrue (is_ok_answer answer)
unfolding next_in_joining carry_delta
goes_on_ok x s m j step (Read bytes) generation its runs = refl
goes_on_ok x s m j step Written generation its runs = refl
goes_on_ok x s m j step Failed generation its runs =
    absurd (not_both (is_running (seen (for_joining s (λ i. refuse i (IoFault m.call.number)) x)) j) runs (ap (λ o. is_running (seen (with_some o (λ i. refuse i (IoFault m.call.number)) x)) j) its ∙ refused_stops x j (IoFault m.call.number)))
