-- The calls of a joining come in its order.
use Rattle.sl_run.proofs.LawFacts.{orderly-front}
use Rattle.sl_run.specs.Lawful.{Orderly}
use Rattle.sl_run.specs.LawfulCalls.{may_submit}
use Rattle.sl_run.specs.LawfulDelta.{LawfulDeltaCall}
use Rattle.sl_run.specs.LawForms.{cut_at}
use Rattle.sl_words.proofs.Lists.{contains_cases, contains_first, contains_more, contains_none, got_inside}
use Rattle.sl_run_law.proofs.Sessions.TraceGrowth.{mine_marked, mine_next, other_next, to_all}
use Rattle.sl_run_law.proofs.Sessions.JoiningsInTurn.{fits_delta, fits_new, joined_before, stage_for, turn_call, turn_done, turn_marked}
use Rattle.sl_run_law.proofs.Sessions.CallsAreMade.{IsNewCall, calls_are_made, old_or_new, same_answered, was_marked}
use Rattle.sl_run_law.proofs.Sessions.SessionNames.{named}
use Rattle.sl_run_law.proofs.Sessions.CallOwners.{is_the_one, session_more, sessions_stay}
use Rattle.sl_run_law.proofs.Sessions.EndedAreSilent.{stage_by}
use Rattle.sl_run_law.specs.Sessions.SessionLaws.{JoiningsAreOrdered, all_done, fits, fits_as, has_reply, is_in_turn, is_ordered, leads_to, looks, may_come, may_follow}
use Rattle.sl_trace.specs.Sessions.{calls_of, free_write, is_call_of, joined_after, refused_after, removed_after, session_named, session_numbered, sessions, stage_in, stage_of}
use Rattle.sl_trace.specs.declared.session.Session.{Session}
use Rattle.sl_trace.specs.declared.stage.Stage.{Stage}
use Rattle.sl_trace.specs.Traces.{Setting, Submitted, Trace, answered_in, is_answered_ok, is_write, mark, new_call, submitted}
use Rattle.sl_trace.specs.declared.effects.Call.{Call}
use Rattle.sl_trace.specs.declared.effects.Entry.{Entry}
use Rattle.sl_trace.specs.declared.effects.JoinStep.TheVariants.{ClaimWrite, DecidingRead, FirstRead, FirstRenewal, VerifyRead, WatchRead}
use Rattle.sl_trace.specs.declared.effects.JoinStep.{JoinStep}
use Rattle.sl_trace.specs.declared.effects.Purpose.TheVariants.{RequestRead, RequestWrite, Joining, Lease, Leaving, Renewal, SeeRequest, Survey, ValueRead, ValueWrite}
use Rattle.sl_trace.specs.declared.effects.Purpose.{Purpose}
use Rattle.sl_trace.specs.declared.input.Answer.{Answer}
use Rattle.sl_trace.specs.declared.input.Input.TheVariants.{Answer as Told, Exit, Line, Number, Spawned, Wake}
use Rattle.sl_trace.specs.declared.input.Input.{Input}
use Rattle.sl_words.proofs.CaseLaws.{false_is_true, no_value, one_value}
use Rattle.sl_words.proofs.WordLaws.{and_true}
use Rattle.std.proofs.Common.{ap, inl, inr, refl, subst, sym, ◌∙◌}
use Rattle.std.proofs.lemmas.Bool.{and_from, eqb-true}
use Rattle.std.specs.Prelude.{Bool, Contains, List, None, Option, Some, [], cond, false, filter, is_some, length, map, slice_get, suc, take, true, ℕ, ◌&&◌, ◌++◌, ◌==◌, ◌∷◌, ◌≡◌, ◌⊎◌}

-- ---- answers

same_purpose : (es : Trace) (e : Entry) (n : ℕ) (a : Answer) (ms : List Submitted) (p : Purpose) → may_come (map (answered_in es e n a) ms) p ≡ may_come ms p
same_purpose es e n a [] p = refl
same_purpose es e n a (m ∷ ms) p = ap (λ c. may_follow c.purpose p) (same_answered es e n a m).call

ordered_told : (es : Trace) (e : Entry) (n : ℕ) (a : Answer) (ms : List Submitted) → is_ordered ms ≡ true → is_ordered (map (answered_in es e n a) ms) ≡ true
ordered_told es e n a [] h = refl
ordered_told es e n a (m ∷ ms) h =
    let parts = and_true (may_come ms m.call.purpose) (is_ordered ms) h in
    and_from (may_come (map (answered_in es e n a) ms) (answered_in es e n a m).call.purpose) (is_ordered (map (answered_in es e n a) ms))
    (ap (λ c. may_come (map (answered_in es e n a) ms) c.purpose) (same_answered es e n a m).call ∙ same_purpose es e n a ms m.call.purpose ∙ parts.0)
    (ordered_told es e n a ms parts.1)

ordered_marked : (es : Trace) (e : Entry) (i : Input) (ms : List Submitted) → is_ordered ms ≡ true → is_ordered (mark es e i ms) ≡ true
ordered_marked es e (Told n a) ms h = ordered_told es e n a ms h
ordered_marked es e (Line text) ms h = h
ordered_marked es e (Number text) ms h = h
ordered_marked es e (Exit p) ms h = h
ordered_marked es e (Spawned p ok) ms h = h
ordered_marked es e Wake ms h = h

-- ---- stages

open_refused : (joined removed refused : Option ℕ) (free : Option Submitted) (joining : Stage) → joined ≡ None → may_submit (stage_by joined removed refused free joining) ≡ true → refused ≡ None
open_refused (Some k) removed refused free joining none may = absurd (no_value k (Some k) refl none)
open_refused None removed (Some k) free joining none may = absurd (false_is_true may)
open_refused None removed None free joining none may = refl

pub open_stage : (joined removed refused : Option ℕ) (free : Option Submitted) (joining : Stage) → joined ≡ None → refused ≡ None → stage_by joined removed refused free joining ≡ joining
open_stage (Some k) removed refused free joining none at = absurd (no_value k (Some k) refl none)
open_stage None removed (Some k) free joining none at = absurd (no_value k (Some k) refl at)
open_stage None removed None free joining none at = refl

follows_by : (p : Purpose) (done w : Bool) (j : ℕ) (step : JoinStep) → fits_as p w ≡ true → leads_to (stage_for p done) step ≡ true → may_follow p (Joining j step) ≡ true
follows_by (Joining i FirstRead) done w j step f h = h
follows_by (Joining i WatchRead) done w j step f h = h
follows_by (Joining i DecidingRead) done w j step f h = h
follows_by (Joining i ClaimWrite) true w j step f h = h
follows_by (Joining i ClaimWrite) false w j step f h = absurd (false_is_true h)
follows_by (Joining i VerifyRead) done w j step f h = h
follows_by (Joining i FirstRenewal) done w j step f h = h
follows_by Renewal done w j step f h = absurd (false_is_true f)
follows_by Survey done w j step f h = absurd (false_is_true f)
follows_by (Leaving i) done w j step f h = absurd (false_is_true f)
follows_by (Lease work at) done w j step f h = absurd (false_is_true f)
follows_by (RequestRead i) done w j step f h = absurd (false_is_true f)
follows_by (RequestWrite i o) done w j step f h = absurd (false_is_true f)
follows_by SeeRequest done w j step f h = absurd (false_is_true f)
follows_by (ValueWrite i) done w j step f h = absurd (false_is_true f)
follows_by (ValueRead i) done w j step f h = absurd (false_is_true f)

begins_by : (j : ℕ) (step : JoinStep) → (step ≡ DecidingRead → ⊥) → leads_to (stage_in []) step ≡ true → looks (Joining j step) ≡ true
begins_by j FirstRead never h = refl
begins_by j WatchRead never h = refl
begins_by j DecidingRead never h = absurd (never refl)
begins_by j ClaimWrite never h = absurd (false_is_true h)
begins_by j VerifyRead never h = absurd (false_is_true h)
begins_by j FirstRenewal never h = absurd (false_is_true h)

comes_by : (ms : List Submitted) (j : ℕ) (step : JoinStep) → is_in_turn ms ≡ true → leads_to (stage_in ms) step ≡ true → (step ≡ DecidingRead → ms ≡ [] → ⊥) → may_come ms (Joining j step) ≡ true
comes_by [] j step turn h never = begins_by j step (λ is. never is refl) h
comes_by (m ∷ ms) j step turn h never = follows_by m.call.purpose (is_answered_ok m) (is_write m.call.op) j step (and_true (fits m) (all_done ms) turn).0 h

none_in : (xs ys : List Submitted) (m : Submitted) → xs ≡ ys → ys ≡ [] → Contains xs m → ⊥
none_in xs ys m is empty there = contains_none m (subst (λ zs. Contains zs m) (is ∙ empty) there)

other_step : (step : JoinStep) → (step ≡ DecidingRead → ⊥) → (ms : List Submitted) → step ≡ DecidingRead → ms ≡ [] → ⊥
other_step step never ms is empty = never is

abbrev is_deciding : JoinStep → Bool
is_deciding DecidingRead = true
is_deciding step = false

apart_from : (step : JoinStep) → is_deciding step ≡ false → step ≡ DecidingRead → ⊥
apart_from step other is = false_is_true (sym other ∙ ap (λ x. is_deciding x) is)

comes_new : (st : Setting) (t : Trace) (s : Session) (c : Submitted) (p : Purpose) (ms : List Submitted) → LawfulDeltaCall st t s c p → fits_as p (is_write c.call.op) ≡ true
    → calls_of t s ≡ ms → stage_of t s ≡ stage_in ms → is_in_turn ms ≡ true → (p ≡ p → session_named st t s.lockspace ≡ None → ms ≡ []) → may_come ms p ≡ true
comes_new st t s c (Joining j FirstRead) ms law f is stage turn first = ap (λ xs. may_come xs (Joining j FirstRead)) (first refl law.apart)
comes_new st t s c (Joining j WatchRead) ms law f is stage turn first =
    comes_by ms j WatchRead turn (ap (λ x. leads_to x WatchRead) (sym stage ∙ law.looking)) (other_step WatchRead (apart_from WatchRead refl) ms)
comes_new st t s c (Joining j DecidingRead) ms law f is stage turn first =
    comes_by ms j DecidingRead turn (ap (λ x. leads_to x DecidingRead) (sym stage ∙ law.looking)) (λ same empty. none_in (calls_of t s) ms law.first is empty law.given.0)
comes_new st t s c (Joining j ClaimWrite) ms law f is stage turn first =
    comes_by ms j ClaimWrite turn (ap (λ x. leads_to x ClaimWrite) (sym stage ∙ law.deciding)) (other_step ClaimWrite (apart_from ClaimWrite refl) ms)
comes_new st t s c (Joining j VerifyRead) ms law f is stage turn first =
    comes_by ms j VerifyRead turn (ap (λ x. leads_to x VerifyRead) (sym stage ∙ law.waiting)) (other_step VerifyRead (apart_from VerifyRead refl) ms)
comes_new st t s c (Joining j FirstRenewal) ms law f is stage turn first =
    comes_by ms j FirstRenewal turn (ap (λ x. leads_to x FirstRenewal) (sym stage ∙ law.verifying)) (other_step FirstRenewal (apart_from FirstRenewal refl) ms)
comes_new st t s c Renewal ms law f is stage turn first = absurd (false_is_true f)
comes_new st t s c Survey ms law f is stage turn first = absurd (false_is_true f)
comes_new st t s c (Leaving j) ms law f is stage turn first = absurd (false_is_true f)
comes_new st t s c (Lease work at) ms law f is stage turn first = absurd (false_is_true f)
comes_new st t s c (RequestRead j) ms law f is stage turn first = absurd (false_is_true f)
comes_new st t s c (RequestWrite j o) ms law f is stage turn first = absurd (false_is_true f)
comes_new st t s c SeeRequest ms law f is stage turn first = absurd (false_is_true f)
comes_new st t s c (ValueWrite j) ms law f is stage turn first = absurd (false_is_true f)
comes_new st t s c (ValueRead j) ms law f is stage turn first = absurd (false_is_true f)

-- ---- a first read comes before all others

-- A call of an earlier entry is one of a session that had begun.
pub begun_before : (st : Setting) (e : Entry) (past : Trace) (s : Session) → Orderly st (e ∷ past) → ((x : Session) → session_numbered st (e ∷ past) s.number ≡ Some x → x ≡ s)
    → (m : Submitted) → Contains (submitted past) m → m.call.session ≡ s.number → session_numbered st past m.call.session ≡ Some s
begun_before st e past s h same m there mine =
    let d = calls_are_made past m there in
    let hp = subst (λ t. Orderly st t) d.whole (orderly-front st (e ∷ []) past h) in
    let law = orderly-front st d.later (d.entry ∷ d.past) hp in
    subst (λ t. session_numbered st t m.call.session ≡ Some s) (sym d.whole)
    (sessions_stay st d.later (d.entry ∷ d.past) m.call.session s
    (is_the_one (session_numbered st (d.entry ∷ d.past) m.call.session) s (law.calls.0.owned m.call (got_inside d.entry.effects.calls d.index m.call d.call))
    (λ x is. same x (session_more st e past s.number x
    (subst (λ t. session_numbered st t s.number ≡ Some x) (sym d.whole)
    (ap (λ n. session_numbered st (d.later ++ d.entry ∷ d.past) n) (sym mine) ∙ sessions_stay st d.later (d.entry ∷ d.past) m.call.session x is))))))

inside_by : (s : Session) (x : Submitted) (rest xs : List Submitted) (m : Submitted) (b : Bool) → is_call_of s x ≡ b → Contains (cond b (x ∷ rest) rest) m
    → (Contains rest m → Contains xs m × (is_call_of s m ≡ true)) → Contains (x ∷ xs) m × (is_call_of s m ≡ true)
inside_by s x rest xs m false is there more = let r = more there in (contains_more x xs m r.0, r.1)
inside_by s x rest xs m true is there more = by (contains_cases x rest m there) where
  by : (x ≡ m) ⊎ Contains rest m → Contains (x ∷ xs) m × (is_call_of s m ≡ true)
  by (inl here) = (subst (λ (y : Submitted). Contains (x ∷ xs) y) here (contains_first x xs), subst (λ (y : Submitted). is_call_of s y ≡ true) here is)
  by (inr old) = let r = more old in (contains_more x xs m r.0, r.1)

inside : (s : Session) (xs : List Submitted) (m : Submitted) → Contains (filter (is_call_of s) xs) m → Contains xs m × (is_call_of s m ≡ true)
inside s [] m there = absurd (contains_none m there)
inside s (x ∷ xs) m there = inside_by s x (filter (is_call_of s) xs) xs m (is_call_of s x) refl there (λ more. inside s xs m more)

pub old_one : (m : Submitted) (at reading : ℕ) (cs : List Call) (ms : List Submitted) → has_reply m ≡ true → Contains ms m ⊎ IsNewCall at reading cs m → Contains ms m
old_one m at reading cs ms r (inl there) = there
old_one m at reading cs ms r (inr new) = absurd (false_is_true (sym (ap (λ o. is_some o) new.unmet) ∙ r))

begun_by : (st : Setting) (e : Entry) (past : Trace) (s : Session) (k : ℕ) → Orderly st (e ∷ past) → ((x : Session) → session_numbered st (e ∷ past) s.number ≡ Some x → x ≡ s)
    → (m : Submitted) → Contains (calls_of (cut_at k e ∷ past) s) m → has_reply m ≡ true → Contains (sessions st (cut_at k e ∷ past)) s
begun_by st e past s k h same m there r =
    let mine = inside s (submitted (cut_at k e ∷ past)) m there in
    let old = old_one m (length past) e.reading (take k e.effects.calls) (mark past (cut_at k e) e.input (submitted past)) r
    (old_or_new (length past) e.reading (take k e.effects.calls) (mark past (cut_at k e) e.input (submitted past)) m mine.0) in
    let w = was_marked past (cut_at k e) e.input (submitted past) m old in
    got_inside (sessions st (cut_at k e ∷ past)) w.before.call.session s
    (session_more st (cut_at k e) past w.before.call.session s
    (begun_before st e past s h same w.before w.inside (ap (λ c. c.session) (sym w.same.call) ∙ eqb-true m.call.session s.number mine.1)))

none_before : (st : Setting) (e : Entry) (past : Trace) (s : Session) (k : ℕ) → Orderly st (e ∷ past) → ((x : Session) → session_numbered st (e ∷ past) s.number ≡ Some x → x ≡ s)
    → joined_after (cut_at k e ∷ past) s ≡ None → refused_after (cut_at k e ∷ past) s ≡ None → (ms : List Submitted) → calls_of (cut_at k e ∷ past) s ≡ ms → all_done ms ≡ true
    → session_named st (cut_at k e ∷ past) s.lockspace ≡ None → ms ≡ []
none_before st e past s k h same none at [] is done nobody = refl
none_before st e past s k h same none at (m ∷ ms) is done nobody =
    absurd (named st (cut_at k e ∷ past) s
    (begun_by st e past s k h same m (subst (λ xs. Contains xs m) (sym is) (contains_first m ms)) (and_true (fits m) (has_reply m) (and_true (fits m && has_reply m) (all_done ms) done).0).1)
    none at nobody)

-- ---- along the trace

abbrev InOrder : Session → Trace → Type 0
InOrder s t = joined_after t s ≡ None → (is_in_turn (calls_of t s) ≡ true) × (is_ordered (calls_of t s) ≡ true)

order_call : (st : Setting) (e : Entry) (past : Trace) (s : Session) → Orderly st (e ∷ past)
    → ((x : Session) → session_numbered st (e ∷ past) s.number ≡ Some x → x ≡ s)
    → (k : ℕ) (c : Call) → slice_get e.effects.calls k ≡ Some c → (b : Bool) → (c.session == s.number) ≡ b → InOrder s (cut_at k e ∷ past)
    → joined_after (cut_at (suc k) e ∷ past) s ≡ None → is_ordered (calls_of (cut_at (suc k) e ∷ past) s) ≡ true
order_call st e past s h same k c at false other before none = ap (λ ms. is_ordered ms) (other_next past e s k c at other) ∙ (before none).1
order_call st e past s h same k c at true mine before none =
    let t : Trace = cut_at k e ∷ past in
    let n : Submitted = new_call (length past) e.reading c in
    let number = eqb-true c.session s.number mine in
    let its = is_the_one (session_numbered st (e ∷ past) c.session) s (h.calls.0.owned c (got_inside e.effects.calls k c at))
    (λ x is. same x (ap (λ i. session_numbered st (e ∷ past) i) (sym number) ∙ is)) in
    let law = h.delta.0.calls k c s at its in
    let f = fits_new st t s n c.purpose law (h.area.0.active k c s at its) (h.area.0.sees k c s at its) none in
    let turn = (before none).0 in
    let done = turn_done (calls_of t s) turn (h.delta.0.alone k c s at its (fits_delta c.purpose (is_write c.op) f)) in
    let refused = open_refused (joined_after t s) (removed_after t s) (refused_after t s) (free_write (calls_of t s)) (stage_in (calls_of t s)) none (h.calls.0.alive k c s at its) in
    ap (λ ms. is_ordered ms) (mine_next past e s k c at mine)
    ∙ and_from (may_come (calls_of t s) c.purpose) (is_ordered (calls_of t s))
    (comes_new st t s n c.purpose (calls_of t s) law f refl
    (open_stage (joined_after t s) (removed_after t s) (refused_after t s) (free_write (calls_of t s)) (stage_in (calls_of t s)) none refused) turn
    (λ p nobody. none_before st e past s k h same none refused (calls_of t s) refl done nobody))
    (before none).1

order_entry : (st : Setting) (e : Entry) (past : Trace) (s : Session) → Orderly st (e ∷ past)
    → ((x : Session) → session_numbered st (e ∷ past) s.number ≡ Some x → x ≡ s) → InOrder s past → InOrder s (e ∷ past)
order_entry st e past s h same before =
    to_all (InOrder s) e past
    (λ none. let old = before (joined_before (cut_at 0 e) past s (joined_after past s) refl none) in (
      ap (λ ms. is_in_turn ms) (mine_marked past e s) ∙ turn_marked past (cut_at 0 e) e.input (calls_of past s) old.0,
      ap (λ ms. is_ordered ms) (mine_marked past e s) ∙ ordered_marked past (cut_at 0 e) e.input (calls_of past s) old.1,
    ))
    (λ k c at old none. (
      turn_call st e past s h same k c at (c.session == s.number) refl (λ still. (old still).0) none,
      order_call st e past s h same k c at (c.session == s.number) refl old none,
    ))

in_order_all : (st : Setting) (es : Trace) (s : Session) → Orderly st es → ((x : Session) → session_numbered st es s.number ≡ Some x → x ≡ s) → InOrder s es
in_order_all st [] s h same = λ none. (refl, refl)
in_order_all st (e ∷ past) s h same =
    order_entry st e past s h same
    (in_order_all st past s (orderly-front st (e ∷ []) past h) (λ x at. same x (session_more st e past s.number x at)))

pub joinings_are_ordered : JoiningsAreOrdered
joinings_are_ordered st es s h its none = (in_order_all st es s h (λ x at. one_value x s _ at its) none).1
