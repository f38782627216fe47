-- No job is left idle: one without a reply waits for a call, for a start or for a moment, or is a leaving.
use Rattle.sl_trace.specs.Sessions.{calls_of, leaving_job, session_of_job, sessions}
use Rattle.sl_trace.specs.Traces.{Job, Setting, Submitted, Trace, children, is_answered_ok, running_jobs, waiting_call}
use Rattle.sl_trace.specs.declared.effects.JoinStep.TheVariants.{ClaimWrite, DecidingRead, FirstRead, FirstRenewal, VerifyRead, WatchRead}
use Rattle.sl_trace.specs.declared.effects.Purpose.TheVariants.{Joining}
use Rattle.sl_trace.specs.declared.effects.Purpose.{Purpose}
use Rattle.sl_words.specs.Words.{some_is}
use Rattle.std.specs.List.{AllByRecursion, list_any}
use Rattle.std.specs.Prelude.{Bool, IsTrue, List, false, is_none, is_some, true, [], ◌&&◌, ◌==◌, ◌||◌, ◌∷◌}

-- A joining waits on wakes after these of its reads and writes.
abbrev pub is_waiting_step : Purpose → Bool
is_waiting_step p =
    elim p [
      | Joining j step ↦ elim step [ FirstRead ↦ true | WatchRead ↦ true | ClaimWrite ↦ true | DecidingRead ↦ false | VerifyRead ↦ false | FirstRenewal ↦ false ]
      | _ ↦ false
    ]

-- Whether a joining's newest call was answered ok, and a wake is waited for.
abbrev pub is_waiting_call : List Submitted → Bool
is_waiting_call [] = false
is_waiting_call (m ∷ ms) = is_waiting_step m.call.purpose && is_answered_ok m

-- Whether the job is a joining that waits for a moment.
abbrev pub is_waiting_joining : Setting → Trace → Job → Bool
is_waiting_joining st es j = some_is (λ s. is_waiting_call (calls_of es s)) (session_of_job st es j.number)

-- Whether a start of the job is unanswered.
abbrev pub has_open_start : Trace → Job → Bool
has_open_start es j = list_any (λ k. some_is (λ n. n == j.number) k.job && is_none k.answer) (children es)

-- Whether the job is a leaving.
abbrev pub is_leaving_job : Setting → Trace → Job → Bool
is_leaving_job st es j = list_any (λ s. some_is (λ k. k.number == j.number) (leaving_job st es s)) (sessions st es)

-- A job without a reply has a call or a start of its own unanswered, waits in a joining, or is a leaving.
abbrev pub IsBusy : Setting → Trace → Job → Type 0
IsBusy st es j = IsTrue (is_some (waiting_call es j.number) || has_open_start es j || is_waiting_joining st es j || is_leaving_job st es j)

-- No job is left idle.
abbrev pub NoIdleJob : Setting → Trace → Type 0
NoIdleJob st es = AllByRecursion (IsBusy st es) (running_jobs st es)
