-- A session with a write in flight, other than its free, is not over: the free is sent where all its other calls are answered.
use Rattle.sl_id_safety.proofs.FreeIsLast.{freed_answered}
use Rattle.sl_id_safety.proofs.OverIsQuiet.{freed_by}
use Rattle.sl_words.proofs.Lists.{any_of}
use Rattle.sl_run.specs.Runs.{Happening}
use Rattle.sl_run.specs.Safety.{Found, SessionId, free_landed, has_write_in_flight, is_course_of, is_over, setting_in, trace_of, was_reset}
use Rattle.sl_run.specs.Worlds.{Course, Program, is_of_running, is_open, is_write_course, may_land}
use Rattle.sl_run.specs.declared.header.Header.{Header}
use Rattle.sl_trace.specs.Sessions.{calls_of, ended_after, free_write, is_free_purpose}
use Rattle.sl_trace.specs.declared.effects.Call.{Call}
use Rattle.sl_safety.proofs.Value.OwnCalls.{OwnCall, unanswered}
use Rattle.sl_words.proofs.CaseLaws.{false_is_true, true_is_false}
use Rattle.sl_words.proofs.WordLaws.{and_true}
use Rattle.std.proofs.Common.{ap, inl, inr, refl, sym, ◌∙◌}
use Rattle.std.proofs.lemmas.Bool.{and_from}
use Rattle.std.specs.Prelude.{Bool, List, None, Option, Some, false, is_none, is_some, not, true, ◌&&◌, ◌||◌, ◌≡◌, ◌⊎◌}

pub none_by : {A : Type 0} (o : Option A) → is_none o ≡ true → o ≡ None
none_by None h = refl
none_by (Some a) h = absurd (false_is_true h)

-- A call in flight has no answer.
pub open_waits : (f : Found) (c : Course) → is_open f.machine c ≡ true → c.answered ≡ None
open_waits f c h = none_by c.answered (and_true (is_none c.answered) (is_of_running f.machine c || may_land c) h).0

either : (free ended flying : Bool) → (free || ended && not flying) ≡ true → (free ≡ true) ⊎ (flying ≡ false)
either true ended flying is = inl refl
either false true true is = absurd (true_is_false (sym is))
either false true false is = inr refl
either false false flying is = absurd (true_is_false (sym is))

pub not_over : (p : Program) (h : Header) (xs : List Happening) (i : SessionId) (f : Found) (c : Course) → OwnCall p h xs i f c → is_open f.machine c ≡ true
    → is_write_course c ≡ true → is_free_purpose c.call.purpose ≡ false → is_over i f ≡ true → ⊥
not_over p h xs i f c o opens writes other over =
    by (either (free_landed i f) (is_some (ended_after (trace_of f) f.session) || was_reset f) (has_write_in_flight i f.machine) over)
  where
    by : (free_landed i f ≡ true) ⊎ (has_write_in_flight i f.machine ≡ false) → ⊥
    by (inl free) =
        let x = freed_by (free_write (calls_of (trace_of f) f.session)) _ free in
        let told = freed_answered (setting_in f) (trace_of f) f.session o.known.lawful o.known.its x.0 x.1 o.call o.of (ap (λ (y : Call). is_free_purpose y.purpose) o.is.call ∙ other) in
        unanswered p h xs i f c o (open_waits f c opens) told.0 told.1
    by (inr none) =
        true_is_false
        (sym (any_of (λ (y : Course). is_course_of i y && is_write_course y && is_open f.machine y) f.machine.calls c
        (and_from (is_course_of i c && is_write_course c) (is_open f.machine c) (and_from (is_course_of i c) (is_write_course c) o.own writes) opens) o.there) ∙ none)
