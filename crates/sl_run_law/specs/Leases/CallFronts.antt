-- A call as it stood at the front of the trace that submitted it: what is known later of the calls before it is what was known then, but
-- for answers that came since.
use Rattle.sl_run.specs.LawForms.{cut_at}
use Rattle.sl_trace.specs.Sessions.{session_numbered}
use Rattle.sl_trace.specs.declared.session.Session.{Session}
use Rattle.sl_trace.specs.Traces.{Answered, Setting, Submitted, Trace, new_call, submitted}
use Rattle.sl_trace.specs.declared.effects.Call.{Call}
use Rattle.sl_trace.specs.declared.effects.Entry.{Entry}
use Rattle.std.specs.Prelude.{List, None, Some, length, slice_get, [], ℕ, ◌++◌, ◌+◌, ◌∷◌, ◌≡◌, ◌≤◌, ◌⊎◌}

-- The second is the first, or the first with an answer that came in the entry after n others or later.
pub record Aged (n : ℕ) (was is : Submitted) : Type 0 where
  pub at : is.at ≡ was.at
  pub reading : is.reading ≡ was.reading
  pub call : is.call ≡ was.call
  pub answer : (is.answer ≡ was.answer) ⊎ ((was.answer ≡ None) × (a : Answered) × (is.answer ≡ Some a) × (n ≤ a.at))

-- So of all calls of two lists, one by one.
abbrev pub AllAged : ℕ → List Submitted → List Submitted → Type 0
AllAged n [] [] = Unit {0}
AllAged n [] (y ∷ ys) = ⊥
AllAged n (x ∷ xs) [] = ⊥
AllAged n (x ∷ xs) (y ∷ ys) = Aged n x y × AllAged n xs ys

-- Where a call was submitted: its entry, those before it, its place among the entry's calls; older are the calls before it as they
-- stand now.
pub record Submission (es : Trace) (c : Submitted) (older : List Submitted) : Type 0 where
  pub later : Trace
  pub past : Trace
  pub entry : Entry
  pub place : ℕ
  pub call : Call
  pub whole : es ≡ later ++ entry ∷ past
  pub there : slice_get entry.effects.calls place ≡ Some call
  pub itself : Aged (length past + 1) (new_call (length past) entry.reading call) c
  pub before : AllAged (length past + 1) (submitted (cut_at place entry ∷ past)) older

-- The same, of a lawful trace: it was a session's, and is that session's still.
pub record LawfulSubmission (st : Setting) (es : Trace) (c : Submitted) (older : List Submitted) : Type 0 where
  pub submission : Submission es c older
  pub session : Session
  pub known : session_numbered st (submission.entry ∷ submission.past) submission.call.session ≡ Some session
  pub kept : session_numbered st es c.call.session ≡ Some session
