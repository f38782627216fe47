-- The calls of a joining: each is answered before the next is made, and only its claim and its first renewal write.
use Rattle.sl_run.proofs.LawFacts.{orderly-front}
use Rattle.sl_run.specs.Lawful.{Orderly}
use Rattle.sl_run.specs.LawfulArea.{is_area_work}
use Rattle.sl_run.specs.LawfulDelta.{LawfulDeltaCall}
use Rattle.sl_run.specs.LawForms.{cut_at}
use Rattle.sl_words.proofs.Lists.{got_inside}
use Rattle.sl_run_law.proofs.Sessions.TraceGrowth.{mine_marked, mine_next, other_next, to_all}
use Rattle.sl_run_law.proofs.Sessions.CallsAreMade.{same_answered}
use Rattle.sl_run_law.proofs.Sessions.CallOwners.{is_the_one, session_more}
use Rattle.sl_run_law.proofs.Sessions.EndedAreSilent.{stage_by}
use Rattle.sl_run_law.proofs.Sessions.MarksStay.{joined_more}
use Rattle.sl_run_law.specs.Sessions.SessionLaws.{all_done, fits, fits_as, has_reply, is_in_turn}
use Rattle.sl_trace.specs.Sessions.{calls_of, is_active, is_delta_purpose, is_joined, joined_after, leaving_job, recovery_of, refused_after, removed_after, session_numbered, stage_after, stage_in, stage_of, free_write}
use Rattle.sl_trace.specs.declared.session.Session.{Session}
use Rattle.sl_trace.specs.declared.stage.Stage.TheVariants.{Looking, Standing}
use Rattle.sl_trace.specs.declared.stage.Stage.{Stage}
use Rattle.sl_trace.specs.Traces.{Answered, Setting, Submitted, Trace, answer_of, answered_in, is_answered_ok, is_write, mark, new_call, unanswered}
use Rattle.sl_trace.specs.declared.effects.Call.{Call}
use Rattle.sl_trace.specs.declared.effects.Entry.{Entry}
use Rattle.sl_trace.specs.declared.effects.JoinStep.TheVariants.{ClaimWrite, DecidingRead, FirstRead, FirstRenewal, VerifyRead, WatchRead}
use Rattle.sl_trace.specs.declared.effects.JoinStep.{JoinStep}
use Rattle.sl_trace.specs.declared.effects.Purpose.TheVariants.{RequestRead, RequestWrite, Joining, Lease, Leaving, Renewal, SeeRequest, Survey, ValueRead, ValueWrite}
use Rattle.sl_trace.specs.declared.effects.Purpose.{Purpose}
use Rattle.sl_trace.specs.declared.input.Answer.{Answer}
use Rattle.sl_trace.specs.declared.input.Input.TheVariants.{Answer as Told, Exit, Line, Number, Spawned, Wake}
use Rattle.sl_trace.specs.declared.input.Input.{Input}
use Rattle.sl_words.proofs.CaseLaws.{false_is_true, no_value, true_is_false}
use Rattle.sl_words.proofs.WordLaws.{and_true}
use Rattle.std.proofs.Common.{ap, refl, sym, ◌∙◌}
use Rattle.std.proofs.lemmas.Bool.{and_from, eqb-true, or_left}
use Rattle.std.specs.List.{list_any}
use Rattle.std.specs.Option.{option_or}
use Rattle.std.specs.Prelude.{Bool, IsTrue, List, None, Option, Some, [], cond, false, is_none, is_some, length, map, not, slice_get, suc, true, ℕ, ◌&&◌, ◌==◌, ◌∷◌, ◌≡◌}

-- ---- answers keep the order

replied_by : (m : Submitted) (a : Answered) (b : Bool) (o : Option Answered) → m.answer ≡ o → is_some o ≡ true
    → has_reply (elim b as (λ x. Submitted) [ false ↦ m | true ↦ record m { answer = option_or m.answer (Some a) } ]) ≡ true
replied_by m a false o is some = ap (λ q. is_some q) is ∙ some
replied_by m a true None is some = absurd (false_is_true some)
replied_by m a true (Some c) is some = rw is refl

replied_told : (es : Trace) (e : Entry) (n : ℕ) (a : Answer) (m : Submitted) → has_reply m ≡ true → has_reply (answered_in es e n a m) ≡ true
replied_told es e n a m some = replied_by m (answer_of es e a m.call) (m.call.number == n) m.answer refl some

fits_told : (es : Trace) (e : Entry) (n : ℕ) (a : Answer) (m : Submitted) → fits m ≡ true → fits (answered_in es e n a m) ≡ true
fits_told es e n a m h = ap (λ c. fits_as c.purpose (is_write c.op)) (same_answered es e n a m).call ∙ h

done_told : (es : Trace) (e : Entry) (n : ℕ) (a : Answer) (ms : List Submitted) → all_done ms ≡ true → all_done (map (answered_in es e n a) ms) ≡ true
done_told es e n a [] h = refl
done_told es e n a (m ∷ ms) h =
    let parts = and_true (fits m && has_reply m) (all_done ms) h in
    let one = and_true (fits m) (has_reply m) parts.0 in
    and_from (fits (answered_in es e n a m) && has_reply (answered_in es e n a m)) (all_done (map (answered_in es e n a) ms))
    (and_from (fits (answered_in es e n a m)) (has_reply (answered_in es e n a m)) (fits_told es e n a m one.0) (replied_told es e n a m one.1))
    (done_told es e n a ms parts.1)

turn_told : (es : Trace) (e : Entry) (n : ℕ) (a : Answer) (ms : List Submitted) → is_in_turn ms ≡ true → is_in_turn (map (answered_in es e n a) ms) ≡ true
turn_told es e n a [] h = refl
turn_told es e n a (m ∷ ms) h =
    let parts = and_true (fits m) (all_done ms) h in
    and_from (fits (answered_in es e n a m)) (all_done (map (answered_in es e n a) ms)) (fits_told es e n a m parts.0) (done_told es e n a ms parts.1)

pub turn_marked : (es : Trace) (e : Entry) (i : Input) (ms : List Submitted) → is_in_turn ms ≡ true → is_in_turn (mark es e i ms) ≡ true
turn_marked es e (Told n a) ms h = turn_told es e n a ms h
turn_marked es e (Line text) ms h = h
turn_marked es e (Number text) ms h = h
turn_marked es e (Exit p) ms h = h
turn_marked es e (Spawned p ok) ms h = h
turn_marked es e Wake ms h = h

-- ---- a new call comes after an answer

pub fits_delta : (p : Purpose) (w : Bool) → fits_as p w ≡ true → is_delta_purpose p ≡ true
fits_delta (Joining j step) w h = refl
fits_delta Renewal w h = refl
fits_delta Survey w h = refl
fits_delta (Leaving j) w h = refl
fits_delta (Lease work step) w h = absurd (false_is_true h)
fits_delta (RequestRead j) w h = absurd (false_is_true h)
fits_delta (RequestWrite j o) w h = absurd (false_is_true h)
fits_delta SeeRequest w h = absurd (false_is_true h)
fits_delta (ValueWrite j) w h = absurd (false_is_true h)
fits_delta (ValueRead j) w h = absurd (false_is_true h)

done_by : (m : Submitted) (ms : List Submitted) (o : Option Answered) → m.answer ≡ o → fits m ≡ true → list_any (λ x. is_delta_purpose x.call.purpose) (unanswered (m ∷ ms)) ≡ false → is_some o ≡ true
done_by m ms (Some a) is h none = refl
done_by m ms None is h none =
    absurd (true_is_false (sym (or_left (is_delta_purpose m.call.purpose) (list_any (λ x. is_delta_purpose x.call.purpose) (unanswered ms)) (fits_delta m.call.purpose (is_write m.call.op) h))
    ∙ sym (ap (λ q. list_any (λ (x : Submitted). is_delta_purpose x.call.purpose) (cond (is_none q) (m ∷ unanswered ms) (unanswered ms))) is) ∙ none))

unanswered_none : (m : Submitted) (ms : List Submitted) (o : Option Answered) → m.answer ≡ o → is_some o ≡ true → unanswered (m ∷ ms) ≡ unanswered ms
unanswered_none m ms None is h = absurd (false_is_true h)
unanswered_none m ms (Some a) is h = rw is refl

pub done_unanswered : (ms : List Submitted) → all_done ms ≡ true → unanswered ms ≡ []
done_unanswered [] h = refl
done_unanswered (m ∷ ms) h =
    let parts = and_true (fits m && has_reply m) (all_done ms) h in
    unanswered_none m ms m.answer refl (and_true (fits m) (has_reply m) parts.0).1 ∙ done_unanswered ms parts.1

pub turn_done : (ms : List Submitted) → is_in_turn ms ≡ true → list_any (λ x. is_delta_purpose x.call.purpose) (unanswered ms) ≡ false → all_done ms ≡ true
turn_done [] h none = refl
turn_done (m ∷ ms) h none =
    let parts = and_true (fits m) (all_done ms) h in
    and_from (fits m && has_reply m) (all_done ms) (and_from (fits m) (has_reply m) parts.0 (done_by m ms m.answer refl parts.0 none)) parts.1

-- ---- which call it may be

abbrev is_standing : Stage → Bool
is_standing Standing = true
is_standing stage = false

abbrev pub stage_for : Purpose → Bool → Stage
stage_for p done = elim p [ Joining j step ↦ stage_after step done | _ ↦ Looking ]

not_by_step : (step : JoinStep) (done : Bool) → is_standing (stage_after step done) ≡ false
not_by_step FirstRead done = refl
not_by_step WatchRead done = refl
not_by_step DecidingRead done = refl
not_by_step ClaimWrite false = refl
not_by_step ClaimWrite true = refl
not_by_step VerifyRead done = refl
not_by_step FirstRenewal done = refl

not_by_purpose : (p : Purpose) (done : Bool) → is_standing (stage_for p done) ≡ false
not_by_purpose (Joining j step) done = not_by_step step done
not_by_purpose Renewal done = refl
not_by_purpose Survey done = refl
not_by_purpose (Leaving j) done = refl
not_by_purpose (Lease work step) done = refl
not_by_purpose (RequestRead j) done = refl
not_by_purpose (RequestWrite j o) done = refl
not_by_purpose SeeRequest done = refl
not_by_purpose (ValueWrite j) done = refl
not_by_purpose (ValueRead j) done = refl

not_in : (ms : List Submitted) → is_standing (stage_in ms) ≡ false
not_in [] = refl
not_in (m ∷ ms) = not_by_purpose m.call.purpose (is_answered_ok m)

not_standing : (joined removed refused : Option ℕ) (free : Option Submitted) (ms : List Submitted) → joined ≡ None → is_standing (stage_by joined removed refused free (stage_in ms)) ≡ false
not_standing (Some k) removed refused free ms none = absurd (no_value k (Some k) refl none)
not_standing None removed (Some k) free ms none = refl
not_standing None removed None free ms none = not_in ms

no_standing : (es : Trace) (s : Session) → joined_after es s ≡ None → stage_of es s ≡ Standing → ⊥
no_standing es s none is =
    true_is_false (sym (ap (λ t. is_standing t) is) ∙ not_standing (joined_after es s) (removed_after es s) (refused_after es s) (free_write (calls_of es s)) (calls_of es s) none)

not_joined : (es : Trace) (s : Session) → joined_after es s ≡ None → IsTrue (is_some (joined_after es s)) → ⊥
not_joined es s none is = false_is_true (sym (ap (λ o. is_some o) none) ∙ is)

not_active : (st : Setting) (es : Trace) (s : Session) → joined_after es s ≡ None → IsTrue (is_active st es s) → ⊥
not_active st es s none is = not_joined es s none (and_true (is_some (joined_after es s)) (is_none (removed_after es s)) (and_true (is_joined es s) (is_none (recovery_of st es s)) (and_true (is_joined es s && is_none (recovery_of st es s)) (is_none (leaving_job st es s)) is).0).0).0

pub fits_new : (st : Setting) (es : Trace) (s : Session) (c : Submitted) (p : Purpose) → LawfulDeltaCall st es s c p → (IsTrue (is_area_work p) → IsTrue (is_active st es s))
    → (p ≡ SeeRequest → IsTrue (is_some (joined_after es s))) → joined_after es s ≡ None → fits_as p (is_write c.call.op) ≡ true
fits_new st es s c (Joining j FirstRead) law active sees none = ap (λ op. not (is_write op)) law.reads
fits_new st es s c (Joining j WatchRead) law active sees none = ap (λ op. not (is_write op)) law.reads
fits_new st es s c (Joining j DecidingRead) law active sees none = ap (λ op. not (is_write op)) law.reads
fits_new st es s c (Joining j VerifyRead) law active sees none = ap (λ op. not (is_write op)) law.reads
fits_new st es s c (Joining j ClaimWrite) law active sees none = refl
fits_new st es s c (Joining j FirstRenewal) law active sees none = refl
fits_new st es s c Renewal law active sees none = absurd (no_standing es s none law.standing)
fits_new st es s c Survey law active sees none = absurd (no_standing es s none law.standing)
fits_new st es s c (Leaving j) law active sees none = absurd (no_standing es s none law.standing)
fits_new st es s c (Lease work step) law active sees none = absurd (not_active st es s none (active refl))
fits_new st es s c (RequestRead j) law active sees none = absurd (not_active st es s none (active refl))
fits_new st es s c (RequestWrite j o) law active sees none = absurd (not_active st es s none (active refl))
fits_new st es s c (ValueWrite j) law active sees none = absurd (not_active st es s none (active refl))
fits_new st es s c (ValueRead j) law active sees none = absurd (not_active st es s none (active refl))
fits_new st es s c SeeRequest law active sees none = absurd (not_joined es s none (sees refl))

-- ---- along the trace

abbrev pub InTurn : Session → Trace → Type 0
InTurn s t = joined_after t s ≡ None → is_in_turn (calls_of t s) ≡ true

pub joined_before : (e : Entry) (past : Trace) (s : Session) (o : Option ℕ) → joined_after past s ≡ o → joined_after (e ∷ past) s ≡ None → o ≡ None
joined_before e past s None is none = refl
joined_before e past s (Some k) is none = absurd (no_value k (joined_after (e ∷ past) s) (joined_more e past s k is) none)

pub turn_call : (st : Setting) (e : Entry) (past : Trace) (s : Session) → Orderly st (e ∷ past)
    → ((x : Session) → session_numbered st (e ∷ past) s.number ≡ Some x → x ≡ s)
    → (k : ℕ) (c : Call) → slice_get e.effects.calls k ≡ Some c → (b : Bool) → (c.session == s.number) ≡ b → InTurn s (cut_at k e ∷ past) → InTurn s (cut_at (suc k) e ∷ past)
turn_call st e past s h same k c at false other before none = ap (λ ms. is_in_turn ms) (other_next past e s k c at other) ∙ before none
turn_call st e past s h same k c at true mine before none =
    let number = eqb-true c.session s.number mine in
    let its = is_the_one (session_numbered st (e ∷ past) c.session) s (h.calls.0.owned c (got_inside e.effects.calls k c at))
    (λ x is. same x (ap (λ n. session_numbered st (e ∷ past) n) (sym number) ∙ is)) in
    ap (λ ms. is_in_turn ms) (mine_next past e s k c at mine)
    ∙ and_from (fits (new_call (length past) e.reading c)) (all_done (calls_of (cut_at k e ∷ past) s))
    (fits_new st (cut_at k e ∷ past) s (new_call (length past) e.reading c) c.purpose (h.delta.0.calls k c s at its) (h.area.0.active k c s at its) (h.area.0.sees k c s at its) none)
    (turn_done (calls_of (cut_at k e ∷ past) s) (before none)
    (h.delta.0.alone k c s at its (fits_delta c.purpose (is_write c.op)
    (fits_new st (cut_at k e ∷ past) s (new_call (length past) e.reading c) c.purpose (h.delta.0.calls k c s at its) (h.area.0.active k c s at its) (h.area.0.sees k c s at its) none))))

turn_entry : (st : Setting) (e : Entry) (past : Trace) (s : Session) → Orderly st (e ∷ past)
    → ((x : Session) → session_numbered st (e ∷ past) s.number ≡ Some x → x ≡ s) → InTurn s past → InTurn s (e ∷ past)
turn_entry st e past s h same before =
    to_all (InTurn s) e past
    (λ none. ap (λ ms. is_in_turn ms) (mine_marked past e s)
    ∙ turn_marked past (cut_at 0 e) e.input (calls_of past s) (before (joined_before (cut_at 0 e) past s (joined_after past s) refl none)))
    (λ k c at old. turn_call st e past s h same k c at (c.session == s.number) refl old)

pub in_turn : (st : Setting) (es : Trace) (s : Session) → Orderly st es → ((x : Session) → session_numbered st es s.number ≡ Some x → x ≡ s) → InTurn s es
in_turn st [] s h same = λ none. refl
in_turn st (e ∷ past) s h same =
    turn_entry st e past s h same
    (in_turn st past s (orderly-front st (e ∷ []) past h) (λ x at. same x (session_more st e past s.number x at)))
