-- At the end of an answer's entry no joining waits for what the answer makes due.
use Rattle.sl_due_facts.proofs.Acts.InputsKeep.{has_heard}
use Rattle.sl_due_facts.proofs.Acts.LoopsKeep.{when_keeps}
use Rattle.sl_due_facts.specs.Acts.Acts.{Has, Hears, IsIdle, lone_job}
use Rattle.sl_due_facts.specs.Acts.TraceSoFar.{entry_of}
use Rattle.sl_area.specs.AreaLayout.{request_offset}
use Rattle.sl_due.specs.IdleJobs.{is_waiting_step}
use Rattle.sl_due.specs.DueAnswers.{set_reply}
use Rattle.sl_due.specs.CarriedDelta.{carry_delta}
use Rattle.sl_due.specs.DueTimeOuts.{remove_of_refused}
use Rattle.sl_due.specs.DueRecovery.{send, signal_and_refuse}
use Rattle.sl_due.specs.CarriedLease.{carry_lease, next_of_lease}
use Rattle.sl_due.specs.DueRequests.{after_request_read, after_value_read, value_reply}
use Rattle.sl_due.specs.Steps.{Step, add_move, add_reply, seen, with_input}
use Rattle.sl_due_facts.proofs.Jobs.AnsweredCallsFit.{both_of}
use Rattle.sl_due_facts.proofs.Jobs.CallsOfJobsFit.{joining_of}
use Rattle.sl_due_facts.proofs.Jobs.CallsStay.{is_special, late}
use Rattle.sl_due_facts.proofs.Jobs.EffectsAreAllowed.{DeltaAllowed, delta, lease, removal_of_refused, requested, sent, stopped}
use Rattle.sl_due_facts.proofs.Jobs.JobsAreAllowed.{calls_heard, heard_answered, late_on_survey}
use Rattle.sl_due_facts.proofs.Jobs.NearlyPlainActs.{AnyMove, AnyStart}
use Rattle.sl_due_facts.proofs.Jobs.RepliesComeAfter.{IsLateDelta, IsLateLease, joining_late, lease_late, on_bool, on_option, set_late, value_late}
use Rattle.sl_due_facts.proofs.Jobs.SessionsArePresent.{session_has}
use Rattle.sl_due_facts.proofs.Jobs.SessionsStand.{joined_then}
use Rattle.sl_trace.specs.LeaseDecisions.{lease_place}
use Rattle.sl_trace.specs.Leases.{holdings_on, known, lver_written, spot_of_call}
use Rattle.sl_trace.specs.declared.lease.LeaseNext.{LeaseNext}
use Rattle.sl_words.proofs.Lists.{any_found, contains_first, contains_map, find_inside, kept_inside}
use Rattle.sl_words.proofs.Options.{none_is, some_of}
use Rattle.sl_sector.specs.Bitmaps.{no_bits}
use Rattle.sl_sector.specs.declared.sector.DeltaRec.{DeltaRec}
use Rattle.sl_sector.specs.declared.sector.DeltaState.TheVariants.{Free}
use Rattle.sl_sector.specs.declared.sector.Rec.TheVariants.{DeltaIs}
use Rattle.sl_due_facts.proofs.Sessions.JoiningsGoOn.{AtWork, goes_on_ok, goes_on_or_waits}
use Rattle.sl_due_facts.proofs.Sessions.NameActs.{running_unrefused}
use Rattle.sl_due_facts.proofs.Sessions.NameEffects.{at_work_present}
use Rattle.sl_due_facts.proofs.Sessions.NameFactsAreKept.{holder_joined, name_facts_are_kept}
use Rattle.sl_due_facts.proofs.Sessions.NamesAreAllowed.{NameCall, NameReply, freed_named, heard_joined, is_joining, joined_unrefused, lease_named, renewed_named, request_named}
use Rattle.sl_due_facts.proofs.Sessions.NamesAtEnd.{Growing, Grown, HeardJoining, below_of, growing_itself, grown, grows, grows_joining, grows_named, heard_is, plain_names, plain_other, running_unjoined}
use Rattle.sl_due_facts.proofs.Sessions.NamesGrow.{call_names, move_names, reply_names}
use Rattle.sl_due_facts.specs.Sessions.SessionLaws.{HasNameFacts, HasNamesPlainly, NameFactsConclude}
use Rattle.sl_trace.specs.DeltaDecisions.{delta_known, delta_of_session, delta_record, next_after_free, next_after_renewal, next_free, next_in_joining, own_offset}
use Rattle.sl_trace.specs.Sessions.{calls_of, generation_of, has_open_write, is_call_of, is_join_call, is_joined, is_present, joined_after, last_renewal, recovery_of, refused_after, removed_after, session_numbered}
use Rattle.sl_trace.specs.declared.delta.DeltaKnown.{DeltaKnown}
use Rattle.sl_trace.specs.declared.delta.DeltaNext.{DeltaNext}
use Rattle.sl_trace.specs.declared.delta.DeltaNext.TheVariants.{Nothing, WriteFree}
use Rattle.sl_trace.specs.declared.session.Session.{Session}
use Rattle.sl_due_facts.specs.Facts.HeardCall.{heard_by}
use Rattle.sl_due_facts.specs.Facts.AllFacts.{Whole}
use Rattle.sl_trace.specs.WatchdogConnections.{is_registered}
use Rattle.sl_trace.specs.Traces.{Answered, Submitted, answer_of, answered_in, call_numbered, is_answer_for, is_expected, is_ok_answer, is_running, is_shared, job_of, outstanding, submitted}
use Rattle.sl_trace.specs.declared.effects.Call.{Call}
use Rattle.sl_trace.specs.declared.effects.Grant.{Grant}
use Rattle.sl_trace.specs.declared.effects.JoinStep.{JoinStep}
use Rattle.sl_trace.specs.declared.effects.JoinStep.TheVariants.{FirstRead}
use Rattle.sl_trace.specs.declared.effects.Move.TheVariants.{Unregister}
use Rattle.sl_trace.specs.declared.effects.Op.TheVariants.{ReadSectors, WriteRecord}
use Rattle.sl_trace.specs.declared.effects.Purpose.{Purpose}
use Rattle.sl_trace.specs.declared.effects.Purpose.TheVariants.{Joining, Lease, Leaving, Renewal, RequestRead, RequestWrite, SeeRequest, Survey, ValueRead, ValueWrite}
use Rattle.sl_trace.specs.declared.effects.Spot.{Spot}
use Rattle.sl_trace.specs.declared.input.Answer.{Answer}
use Rattle.sl_trace.specs.declared.input.Answer.TheVariants.{Failed, Read, Written}
use Rattle.sl_trace.specs.declared.input.Input.TheVariants.{Answer as Told, Wake}
use Rattle.sl_trace.specs.declared.reply.Reply.{Reply}
use Rattle.sl_trace.specs.declared.reply.Reply.TheVariants.{Done, IoFault, Recovering}
use Rattle.sl_run_law.proofs.Leases.NumberLaws.{number_is_place}
use Rattle.sl_run_law.proofs.Sessions.CallsAreMade.{same_answered}
use Rattle.sl_words.proofs.CaseLaws.{false_is_true, none_some, not_both, one_value, some_value}
use Rattle.sl_words.proofs.WordLaws.{and_true}
use Rattle.std.proofs.Common.{ap, refl, subst, sym, ◌∙◌}
use Rattle.std.proofs.lemmas.Bool.{eqb-true}
use Rattle.std.specs.Option.{option_or}
use Rattle.std.specs.Prelude.{Bool, Contains, IsTrue, List, None, Option, Some, false, is_none, is_some, not, true, ℕ, ◌&&◌, ◌+◌, ◌==◌, ◌∷◌, ◌≡◌}

-- ---- a joining's answer

-- The answer that was heard is the call's.
pub heard_answer : (x : Step) (s : Session) (m : Submitted) (answer : Answer) (a : Answered) → Whole x → Hears x s m answer → m.answer ≡ Some a → a.answer ≡ answer
heard_answer x s m answer a h hears is =
    let n : ℕ = hears.number in
    let expected : IsTrue (is_expected x.setting x.past (Told n answer)) = subst (λ i. IsTrue (is_expected x.setting x.past i)) hears.heard h.orderly.is_trace.0.expected in
    let open_one = any_found (λ (d : Submitted). d.call.number == n && is_answer_for x.setting answer d.call.op) (outstanding x.past) expected in
    let d : Submitted = open_one.0 in
    let its = and_true (d.call.number == n) (is_answer_for x.setting answer d.call.op) open_one.2 in
    let inside = kept_inside (λ (z : Submitted). is_none z.answer) (submitted x.past) d open_one.1 in
    let k : Submitted = answered_in x.past (entry_of x) n answer d in
    let there : Contains (submitted (seen x)) k =
    subst (λ ms. Contains ms k) (sym (calls_heard x n answer hears.heard hears.bare)) (contains_map (answered_in x.past (entry_of x) n answer) (submitted x.past) d inside.0)
    in
    let number : k.call.number ≡ n = ap (λ (c : Call). c.number) (same_answered x.past (entry_of x) n answer d).call ∙ eqb-true d.call.number n its.0 in
    let one : k ≡ m = one_value k m (call_numbered (seen x) n) (subst (λ q. call_numbered (seen x) q ≡ Some k) number (h.facts.calls.found k there)) hears.call in
    by d (d.call.number == n) its.0 (none_is d.answer inside.1) (ap (λ (z : Submitted). z.answer) one ∙ is)
  where
    made : Submitted → Answered
    made d = answer_of x.past (entry_of x) answer d.call

    by : (d : Submitted) (t : Bool) → t ≡ true → d.answer ≡ None
        → (elim t as (λ z. Submitted) [ false ↦ d | true ↦ record d { answer = option_or d.answer (Some (answer_of x.past (entry_of x) answer d.call)) } ]).answer ≡ Some a → a.answer ≡ answer
    by d false mine none same = absurd (false_is_true mine)
    by d true mine none same = ap (λ (z : Answered). z.answer) (sym (some_value (made d) a (sym (ap (λ o. option_or o (Some (made d))) none) ∙ same)))

-- And fits it.
pub fitting : (x : Step) (s : Session) (m : Submitted) (answer : Answer) → Whole x → Hears x s m answer → IsTrue (is_answer_for x.setting answer m.call.op)
fitting x s m answer h hears = by m.answer refl where
  there : Contains (submitted (seen x)) m
  there = (find_inside (λ (z : Submitted). z.call.number == hears.number) (submitted (seen x)) m hears.call).0

  by : (o : Option Answered) → m.answer ≡ o → IsTrue (is_answer_for x.setting answer m.call.op)
  by None is = absurd (heard_answered x s m answer hears is)
  by (Some a) is = subst (λ b. IsTrue (is_answer_for x.setting b m.call.op)) (heard_answer x s m answer a h hears is) (h.facts.calls.fits m a there is)

-- ---- what each act leaves

grown_delta : (x : Step) (s : Session) (n : DeltaNext) → DeltaAllowed (NameReply x) (NameCall x) AnyMove x s n → Grown x (carry_delta s n x)
grown_delta x s n may = delta (Growing x) (Grown x) (NameReply x) (NameCall x) AnyStart AnyMove (grows_named x) x s n may (growing_itself x)

grown_joining : (x : Step) (s : Session) (n : DeltaNext) → IsLateDelta n → Grown x (carry_delta s n x)
grown_joining x s n k =
    delta (Growing x) (Grown x) (NameReply x) (λ z path p o op. is_join_call FirstRead p ≡ false) AnyStart AnyMove (grows x (λ z path p o op. is_join_call FirstRead p ≡ false) (λ z path p o op may. may)) x s n
    (grows_joining x s n (λ r after. late x r after) k) (growing_itself x)

grown_reply : (x : Step) (j : ℕ) (r : Reply) → is_special r ≡ false → Grown x (add_reply j r x)
grown_reply x j r after = grown x (add_reply j r x) ((grows_named x).replies x j r (late x r after) (growing_itself x))

joins_plainly : (x : Step) (s : Session) (j : ℕ) (step : JoinStep) (m : Submitted) (answer : Answer) → Hears x s m answer → m.call.purpose ≡ Joining j step → is_running (seen x) j ≡ true → Whole x
    → HasNamesPlainly (carry_delta s (next_in_joining (delta_of_session x.setting s) (generation_of (seen x) s) (calls_of (seen x) s) x.reading m step answer) x)
joins_plainly x s j step m answer hears is runs h =
    plain_names x y hears.number answer hears.heard (below_of x hears.number m h.facts.calls hears.call) (name_facts_are_kept.joins_on x s j step m answer hears is runs h)
    (grown_joining x s n (joining_late (delta_of_session x.setting s) (generation_of (seen x) s) (calls_of (seen x) s) x.reading m step answer)) well
  where
    n : DeltaNext
    n = next_in_joining (delta_of_session x.setting s) (generation_of (seen x) s) (calls_of (seen x) s) x.reading m step answer

    y : Step
    y = carry_delta s (next_in_joining (delta_of_session x.setting s) (generation_of (seen x) s) (calls_of (seen x) s) x.reading m step answer) x

    there : Contains (submitted (seen x)) m
    there = (find_inside (λ (z : Submitted). z.call.number == hears.number) (submitted (seen x)) m hears.call).0

    its : s.job ≡ Some j
    its = joining_of x s m j step (both_of x h) there hears.session is

    has : Has x s
    has = has_heard x s m answer hears

    work : AtWork x s m j step
    work = record { orderly = h.orderly; has = has; there = there; its = sym (number_is_place x.setting (seen x) m.call.session s hears.session); is = is; unjoined = running_unjoined (seen x) s j its runs }

    -- the session of the heard call
    one : (z : Session) (i : ℕ) (k : Submitted) → HeardJoining x y hears.number z i k → (k ≡ m) × (z ≡ s) × (i ≡ j)
    one z i k g =
        let same : k ≡ m = heard_is x y hears.number z i k m h.facts.calls g hears.call in
        let mine = kept_inside (is_call_of z) (submitted (seen x)) k g.there in
        let number : z.number ≡ m.call.session = sym (eqb-true k.call.session z.number mine.1) ∙ ap (λ (q : Submitted). q.call.session) same in
        let is_s : z ≡ s = one_value z s (session_numbered x.setting (seen x) m.call.session) (subst (λ q. session_numbered x.setting (seen x) q ≡ Some z) number (session_has x.setting (seen x) z g.inside)) hears.session in
        (same, is_s, some_value i j (sym g.its ∙ (ap (λ (q : Session). q.job) is_s ∙ its)))

    well : (z : Session) (i : ℕ) (k : Submitted) → HeardJoining x y hears.number z i k
        → ((a : Answered) → k.answer ≡ Some a → IsTrue (is_ok_answer a.answer)) × ((ms : List Submitted) → calls_of (seen y) z ≡ k ∷ ms → IsTrue (is_waiting_step k.call.purpose))
    well z i k g =
        let same = one z i k g in
        let runs_on : is_running (seen y) j ≡ true = subst (λ q. is_running (seen y) q ≡ true) same.2 g.runs_on in (
          λ a answered.
              subst (λ b. IsTrue (is_ok_answer b)) (sym (heard_answer x s m answer a h hears (ap (λ (q : Submitted). q.answer) (sym same.0) ∙ answered))) (goes_on_ok x s m j step answer (generation_of (seen x) s) its runs_on),
          λ ms are.
              let mine : calls_of (seen y) s ≡ m ∷ ms = ap (λ q. calls_of (seen y) q) (sym same.1) ∙ (are ∙ ap (λ q. q ∷ ms) same.0) in
              subst (λ (p : Purpose). IsTrue (is_waiting_step p)) (sym (ap (λ (q : Submitted). q.call.purpose) same.0 ∙ is))
              (goes_on_or_waits x s m j step answer (generation_of (seen x) s) work its (h.facts.calls.below m there) (fitting x s m answer h hears) runs_on ms mine),
        )

-- A joining that was refused.
refused_plainly : (x y : Step) (s : Session) (j : ℕ) (step : JoinStep) (m : Submitted) (answer : Answer) → Hears x s m answer → m.call.purpose ≡ Joining j step → is_running (seen x) j ≡ false → Whole x → HasNameFacts y → Grown x y
    → HasNamesPlainly y
refused_plainly x y s j step m answer hears is stops h names g =
    plain_names x y hears.number answer hears.heard (below_of x hears.number m h.facts.calls hears.call) names g (λ z i k f. absurd (never z i k f)) where
      never : (z : Session) (i : ℕ) (k : Submitted) → HeardJoining x y hears.number z i k → ⊥
      never z i k f =
          let same : k ≡ m = heard_is x y hears.number z i k m h.facts.calls f hears.call in
          let mine = kept_inside (is_call_of z) (submitted (seen x)) k f.there in
          let number : k.call.session ≡ z.number = eqb-true k.call.session z.number mine.1 in
          let session : session_numbered x.setting (seen x) k.call.session ≡ Some z = subst (λ q. session_numbered x.setting (seen x) q ≡ Some z) (sym number) (session_has x.setting (seen x) z f.inside) in
          let its : z.job ≡ Some j = joining_of x z k j step (both_of x h) mine.0 session (ap (λ (q : Submitted). q.call.purpose) same ∙ is) in
          not_both (is_running (seen x) j) (subst (λ q. is_running (seen x) q ≡ true) (some_value i j (sym f.its ∙ its)) f.runs) stops

-- Where nothing is done.
itself_grown : (x : Step) → Grown x x
itself_grown x = grown x x (growing_itself x)

idle_plainly : (x : Step) (s : Session) (m : Submitted) (answer : Answer) → Hears x s m answer → (p : Purpose) → m.call.purpose ≡ p → IsIdle x s m answer p → Whole x → HasNamesPlainly x
idle_plainly x s m answer hears (Joining j step) is idle h = absurd idle
idle_plainly x s m answer hears Renewal is idle h = absurd idle
idle_plainly x s m answer hears (Leaving j) is idle h = absurd idle
idle_plainly x s m answer hears Survey is idle h = plain_other x x s m answer h hears (ap (λ p. is_joining p) is) h.facts.names (itself_grown x)
idle_plainly x s m answer hears (Lease work step) is idle h = plain_other x x s m answer h hears (ap (λ p. is_joining p) is) h.facts.names (itself_grown x)
idle_plainly x s m answer hears (RequestRead j) is idle h = plain_other x x s m answer h hears (ap (λ p. is_joining p) is) h.facts.names (itself_grown x)
idle_plainly x s m answer hears (RequestWrite j owner) is idle h = plain_other x x s m answer h hears (ap (λ p. is_joining p) is) h.facts.names (itself_grown x)
idle_plainly x s m answer hears SeeRequest is idle h = plain_other x x s m answer h hears (ap (λ p. is_joining p) is) h.facts.names (itself_grown x)
idle_plainly x s m answer hears (ValueWrite j) is idle h = plain_other x x s m answer h hears (ap (λ p. is_joining p) is) h.facts.names (itself_grown x)
idle_plainly x s m answer hears (ValueRead j) is idle h = plain_other x x s m answer h hears (ap (λ p. is_joining p) is) h.facts.names (itself_grown x)

-- ---- all acts of an answer

lone_other : (p : Purpose) (j : ℕ) → lone_job p ≡ Some j → is_joining p ≡ false
lone_other (Joining k step) j is = absurd (none_some j is)
lone_other Renewal j is = refl
lone_other Survey j is = refl
lone_other (Leaving k) j is = refl
lone_other (Lease work step) j is = refl
lone_other (RequestRead k) j is = refl
lone_other (RequestWrite k owner) j is = refl
lone_other SeeRequest j is = refl
lone_other (ValueWrite k) j is = refl
lone_other (ValueRead k) j is = refl

-- An answer that is only replied to.
replied_plainly : (x : Step) (s : Session) (m : Submitted) (answer : Answer) (j : ℕ) (r : Reply) → Whole x → Hears x s m answer → is_joining m.call.purpose ≡ false → is_special r ≡ false → HasNamesPlainly (add_reply j r x)
replied_plainly x s m answer j r h hears other after =
    plain_other x (add_reply j r x) s m answer h hears other (reply_names (heard_by x.input) x j r (late x r after) h.facts.names) (grown_reply x j r after)

late_plainly : (x : Step) (n : ℕ) (answer : Answer) (m : Submitted) (s : Session) → x.input ≡ Told n answer → call_numbered (seen x) n ≡ Some m → session_numbered x.setting (seen x) m.call.session ≡ Some s
    → is_present (seen (with_input Wake x)) s ≡ false → Whole x → HasNamesPlainly x
late_plainly x n answer m s told found session gone h =
    plain_names x x n answer told (below_of x n m h.facts.calls found) h.facts.names (itself_grown x) (λ z i k f. absurd (never z i k f)) where
      never : (z : Session) (i : ℕ) (k : Submitted) → HeardJoining x x n z i k → ⊥
      never z i k f =
          let same : k ≡ m = heard_is x x n z i k m h.facts.calls f found in
          let mine = kept_inside (is_call_of z) (submitted (seen x)) k f.there in
          let number : z.number ≡ m.call.session = sym (eqb-true k.call.session z.number mine.1) ∙ ap (λ (q : Submitted). q.call.session) same in
          let is_s : z ≡ s = one_value z s (session_numbered x.setting (seen x) m.call.session) (subst (λ q. session_numbered x.setting (seen x) q ≡ Some z) number (session_has x.setting (seen x) z f.inside)) session in
          let there : is_present (seen (with_input Wake x)) z ≡ true =
          at_work_present (joined_after (seen x) z) (removed_after (seen x) z) (refused_after (seen x) z) (has_open_write (seen (with_input Wake x)) z) (running_unjoined (seen x) z i f.its f.runs) (running_unrefused (seen x) z i f.its f.runs)
          in
          not_both (is_present (seen (with_input Wake x)) z) there (ap (λ q. is_present (seen (with_input Wake x)) q) is_s ∙ gone)

none_plainly : (x : Step) (n : ℕ) (answer : Answer) → x.input ≡ Told n answer → call_numbered (seen x) n ≡ None → Whole x → HasNamesPlainly x
none_plainly x n answer told none h =
    record {
      apart = h.facts.names.apart;
      begun = h.facts.names.begun;
      done = λ s i m a there its runs inside is other. h.facts.names.done s i m a there its runs inside is (never s m inside);
      waits = λ s i m ms there its runs are answered other. h.facts.names.waits s i m ms there its runs are answered (never s m (subst (λ ks. Contains ks m) (sym are) (contains_first m ms)));
    } where
      never : (s : Session) (m : Submitted) → Contains (calls_of (seen x) s) m → heard_by x.input ≡ Some m.call.number → ⊥
      never s m inside is =
          let mine = kept_inside (is_call_of s) (submitted (seen x)) m inside in
          let number : n ≡ m.call.number = some_value n m.call.number (sym (ap (λ i. heard_by i) told) ∙ is) in
          none_some m (sym none ∙ subst (λ q. call_numbered (seen x) q ≡ Some m) (sym number) (h.facts.calls.found m mine.0))

frees_plainly : (x : Step) (s : Session) → Has x s → is_joined (seen x) s ≡ true → HasNamesPlainly x → HasNamesPlainly (carry_delta s (next_free (delta_of_session x.setting s) x.reading (delta_known x.setting (seen x) s)) x)
unfolding carry_delta
frees_plainly x s has joined h =
    on_option (λ n. HasNamesPlainly (carry_delta s n x)) k.leaving Nothing (λ j. elim k.freed [ true ↦ Nothing | false ↦ WriteFree j d ]) h
    (λ j. on_bool (λ n. HasNamesPlainly (carry_delta s n x)) k.freed (WriteFree j d) Nothing
    (call_names None x s s.path (Leaving j) (own_offset x.setting s) (WriteRecord (DeltaIs d)) has refl (joined_unrefused (seen x) s (joined_then (seen x) s joined)) h) h)
  where
    k : DeltaKnown
    k = delta_known x.setting (seen x) s

    d : DeltaRec
    d = delta_record (delta_of_session x.setting s) Free (delta_known x.setting (seen x) s).generation ((delta_known x.setting (seen x) s).seq + 1) x.reading no_bits

pub name_facts_conclude : NameFactsConclude
unfolding after_value_read
name_facts_conclude =
    record {
      finds_none = λ x n answer told none h. none_plainly x n answer told none h;
      finds_nobody = λ x n answer m told found nobody h.
          let there = (find_inside (λ (z : Submitted). z.call.number == n) (submitted (seen x)) m found).0 in
          let s = some_of (session_numbered x.setting (seen x) m.call.session) (h.facts.calls.owned m there) in absurd (none_some s.0 (sym nobody ∙ s.1));
      comes_late = λ x n answer m s told found session gone h. late_plainly x n answer m s told found session gone h;
      idles = λ x s m answer hears idle h. idle_plainly x s m answer hears m.call.purpose refl idle h;
      joins_on = λ x s j step m answer hears is runs h. joins_plainly x s j step m answer hears is runs h;
      ends_joining = λ x s j step m answer hears is stops h.
          refused_plainly x (remove_of_refused s x) s j step m answer hears is stops h (name_facts_are_kept.ends_joining x s j step m answer hears is stops h)
          (grown x (remove_of_refused s x) (removal_of_refused (Growing x) (Grown x) (NameReply x) (NameCall x) AnyStart AnyMove (grows_named x) x s tt (growing_itself x)));
      renewed = λ x s m answer hears is h.
          let n : DeltaNext = next_after_renewal (is_some (recovery_of x.setting (seen x) s)) m.reading answer in
          plain_other x (carry_delta s n x) s m answer h hears (ap (λ p. is_joining p) is) (name_facts_are_kept.renewed x s m answer hears is h)
          (grown_delta x s n (renewed_named x s (is_some (recovery_of x.setting (seen x) s)) m.reading answer (has_heard x s m answer hears) (heard_joined x s m answer Renewal h hears is refl)));
      freed = λ x s j m answer hears is h.
          let n : DeltaNext = next_after_free j m.call.number answer in
          plain_other x (carry_delta s n x) s m answer h hears (ap (λ p. is_joining p) is) (name_facts_are_kept.freed x s j m answer hears is h) (grown_delta x s n (freed_named x s j m.call.number answer));
      shown = λ x s m bytes hears is joined begins h.
          plain_other x (signal_and_refuse s None x) s m (Read bytes) h hears (ap (λ p. is_joining p) is) (name_facts_are_kept.shown x s m bytes hears is joined begins h)
          (grown x (signal_and_refuse s None x)
          (stopped (Growing x) (Grown x) (NameReply x) (NameCall x) AnyStart AnyMove (grows_named x) tt x s None
          (λ z k j there. late_on_survey x s m (Read bytes) (Recovering (last_renewal z.setting (seen z) s)) h.facts.calls hears (ap (λ p. job_of p) is)) (growing_itself x)));
      sees = λ x s number bytes spot g has input held h.
          let found = find_inside (λ (z : Grant). not (is_shared z.mode)) (holdings_on (seen x) s spot) g held in
          call_names None x s g.path SeeRequest (request_offset x.setting.layout g.offset) (ReadSectors 1) has refl (joined_unrefused (seen x) s (holder_joined x s spot g h.0 has found.0)) h.1;
      leads_on = λ x s work step m answer aim hears is on aims h.
          let spot : Spot = spot_of_call x.setting.layout m in
          let n : LeaseNext = next_of_lease x.setting (seen x) s spot aim m step answer in
          plain_other x (carry_lease s spot work n x) s m answer h hears (ap (λ p. is_joining p) is) (name_facts_are_kept.leads_on x s work step m answer aim hears is on aims h)
          (lease (Growing x) (Grown x) (NameReply x) (NameCall x) AnyStart AnyMove (grows_named x) x s spot work n
          (lease_named x x s spot work n (has_heard x s m answer hears) (heard_joined x s m answer (Lease work step) h hears is refl)
          (λ r same. late x r (subst (λ k. IsLateLease k) same (lease_late (lease_place x.setting s) (known x.setting (seen x) s spot) aim m.call.number (lver_written m) step answer)))) (growing_itself x));
      fails = λ x s m j hears lone runs h. replied_plainly x s m Failed j (IoFault m.call.number) h hears (lone_other m.call.purpose j lone) refl;
      has_asked = λ x s m j owner hears is runs h. replied_plainly x s m Written j Done h hears (ap (λ p. is_joining p) is) refl;
      has_set = λ x s m j hears is runs h. replied_plainly x s m Written j (set_reply m) h hears (ap (λ p. is_joining p) is) (set_late m);
      asks = λ x s m j bytes c hears is runs reads_it h.
          plain_other x (after_request_read s j bytes c x) s m (Read bytes) h hears (ap (λ p. is_joining p) is) (name_facts_are_kept.asks x s m j bytes c hears is runs reads_it h)
          (requested (Growing x) (Grown x) (NameReply x) (NameCall x) AnyStart AnyMove (grows_named x) x s j bytes c
          (request_named x s j bytes c (has_heard x s m (Read bytes) hears) (heard_joined x s m (Read bytes) (RequestRead j) h hears is refl)) (growing_itself x));
      tells = λ x s m j bytes hears is runs h. replied_plainly x s m (Read bytes) j (value_reply x.setting.layout bytes) h hears (ap (λ p. is_joining p) is) (value_late x.setting.layout bytes);
      warns = λ x s m bytes g signal hears is held own says h.
          plain_other x (send g.process signal x) s m (Read bytes) h hears (ap (λ p. is_joining p) is) (name_facts_are_kept.warns x s m bytes g signal hears is held own says h)
          (grown x (send g.process signal x) (sent (Growing x) (Grown x) (NameReply x) (NameCall x) AnyStart AnyMove (grows_named x) tt x g.process signal (growing_itself x)));
      parts = λ x s has joined recovers_one free quiet h.
          when_keeps HasNamesPlainly (is_registered x.setting (seen x) s.lockspace) (add_move (Unregister s.lockspace)) x (λ there g. move_names None x (Unregister s.lockspace) g) h.1;
      frees = λ x s has joined well free quiet h. frees_plainly x s has joined h.1;
    }
