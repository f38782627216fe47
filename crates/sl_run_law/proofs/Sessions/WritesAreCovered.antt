-- The connection stands while a write is unanswered.
use Rattle.sl_run.specs.LawfulConnections.{CoveredBy, is_covered}
use Rattle.sl_run.specs.Lawful.{Orderly}
use Rattle.sl_words.proofs.Lists.{got_inside}
use Rattle.sl_words.proofs.Truth.{or_false}
use Rattle.sl_run_law.proofs.Sessions.JoiningsInTurn.{done_unanswered, in_turn}
use Rattle.sl_run_law.proofs.Sessions.UnansweredNotRemoved.{not_removed}
use Rattle.sl_run_law.proofs.Sessions.EndedAreSilent.{stage_by}
use Rattle.sl_run_law.specs.Sessions.SessionLaws.{IsSession, JoiningsAreInTurn, WritesAreCovered, all_done, fits, fits_as, is_in_turn}
use Rattle.sl_trace.specs.Sessions.{calls_of, free_write, has_open_write, is_covered_stage, joined_after, refused_after, removed_after, sessions, stage_after, stage_in, stage_of}
use Rattle.sl_trace.specs.declared.session.Session.{Session}
use Rattle.sl_trace.specs.declared.stage.Stage.TheVariants.{Looking}
use Rattle.sl_trace.specs.declared.stage.Stage.{Stage}
use Rattle.sl_trace.specs.Traces.{Answered, Setting, Submitted, Trace, is_ok_answer, is_write, unanswered}
use Rattle.sl_trace.specs.declared.effects.JoinStep.TheVariants.{ClaimWrite, DecidingRead, FirstRead, FirstRenewal, VerifyRead, WatchRead}
use Rattle.sl_trace.specs.declared.effects.Purpose.TheVariants.{RequestRead, RequestWrite, Joining, Lease, Leaving, Renewal, SeeRequest, Survey, ValueRead, ValueWrite}
use Rattle.sl_trace.specs.declared.effects.Purpose.{Purpose}
use Rattle.sl_words.proofs.CaseLaws.{false_is_true, no_value, one_value}
use Rattle.sl_words.proofs.WordLaws.{and_true}
use Rattle.sl_words.specs.Words.{some_is}
use Rattle.std.proofs.Common.{ap, refl, sym, ◌∙◌}
use Rattle.std.specs.List.{list_any}
use Rattle.std.specs.Prelude.{Bool, List, None, Option, Some, [], cond, false, is_none, is_some, true, ℕ, ◌&&◌, ◌||◌, ◌∷◌, ◌≡◌}

abbrev stage_for : Purpose → Bool → Stage
stage_for p done = elim p [ Joining j step ↦ stage_after step done | _ ↦ Looking ]

by_purpose : (p : Purpose) → fits_as p true ≡ true → is_covered_stage (stage_for p false) ≡ true
by_purpose (Joining j ClaimWrite) h = refl
by_purpose (Joining j FirstRenewal) h = refl
by_purpose (Joining j FirstRead) h = absurd (false_is_true h)
by_purpose (Joining j WatchRead) h = absurd (false_is_true h)
by_purpose (Joining j DecidingRead) h = refl
by_purpose (Joining j VerifyRead) h = refl
by_purpose Renewal h = absurd (false_is_true h)
by_purpose Survey h = absurd (false_is_true h)
by_purpose (Leaving j) h = absurd (false_is_true h)
by_purpose (Lease work step) h = absurd (false_is_true h)
by_purpose (RequestRead j) h = absurd (false_is_true h)
by_purpose (RequestWrite j o) h = absurd (false_is_true h)
by_purpose SeeRequest h = absurd (false_is_true h)
by_purpose (ValueWrite j) h = absurd (false_is_true h)
by_purpose (ValueRead j) h = absurd (false_is_true h)

abbrev open_with : Submitted → Option Answered → List Submitted → List Submitted
open_with m o rest = cond (is_none o) (m ∷ rest) rest

covered_by : (m : Submitted) (o : Option Answered) → fits m ≡ true → list_any (λ x. is_write x.call.op) (open_with m o []) ≡ true
    → is_covered_stage (stage_for m.call.purpose (some_is (λ a. is_ok_answer a.answer) o)) ≡ true
covered_by m (Some a) h unmet = absurd (false_is_true unmet)
covered_by m None h unmet = by_purpose m.call.purpose (ap (λ w. fits_as m.call.purpose w) (sym (or_false (is_write m.call.op) unmet)) ∙ h)

pub covered_in : (ms : List Submitted) → is_in_turn ms ≡ true → list_any (λ x. is_write x.call.op) (unanswered ms) ≡ true → is_covered_stage (stage_in ms) ≡ true
covered_in [] h unmet = absurd (false_is_true unmet)
covered_in (m ∷ ms) h unmet =
    let parts = and_true (fits m) (all_done ms) h in
    covered_by m m.answer parts.0
    (ap (λ rest. list_any (λ (x : Submitted). is_write x.call.op) (open_with m m.answer rest)) (sym (done_unanswered ms parts.1)) ∙ unmet)

pub by_stage : (joined removed refused : Option ℕ) (free : Option Submitted) (joining : Stage) → removed ≡ None → (joined ≡ None → is_covered_stage joining ≡ true)
    → (is_covered_stage (stage_by joined removed refused free joining) || is_some refused && true) ≡ true
by_stage (Some j) (Some i) refused free joining gone h = absurd (no_value i (Some i) refl gone)
by_stage (Some j) None refused (Some m) joining gone h = refl
by_stage (Some j) None refused None joining gone h = refl
by_stage None removed (Some k) free joining gone h = refl
by_stage None removed None free joining gone h = ap (λ b. b || false && true) (h refl)

covered : (st : Setting) (es : Trace) (s : Session) → Orderly st es → IsSession st es s → removed_after es s ≡ None → has_open_write es s ≡ true → is_covered es s ≡ true
covered st es s h its gone unmet =
    ap (λ w. is_covered_stage (stage_of es s) || is_some (refused_after es s) && w) unmet
    ∙ by_stage (joined_after es s) (removed_after es s) (refused_after es s) (free_write (calls_of es s)) (stage_in (calls_of es s)) gone
    (λ none. covered_in (calls_of es s) (in_turn st es s h (λ x at. one_value x s _ at its) none) unmet)

stands_at : (st : Setting) (es : Trace) (s : Session) → Orderly st es → IsSession st es s → has_open_write es s ≡ true → is_covered es s ≡ true → CoveredBy st es s
stands_at st [] s h its unmet is = absurd (false_is_true unmet)
stands_at st (e ∷ past) s h its unmet is = h.watchdog.0.stands s (got_inside (sessions st (e ∷ past)) s.number s its) is

pub writes_are_covered : WritesAreCovered
writes_are_covered st es s h its unmet = stands_at st es s h its unmet (covered st es s h its (not_removed st es s h its unmet) unmet)

pub joinings_are_in_turn : JoiningsAreInTurn
joinings_are_in_turn st es s h its none = in_turn st es s h (λ x at. one_value x s _ at its) none
