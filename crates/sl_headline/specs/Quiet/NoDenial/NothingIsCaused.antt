-- What an acquire's job is not answered by: each reply has its cause, and a quiet acquire has none of them.
use Rattle.sl_run.specs.Caused.{AnswersCall, Answering, CausedBy, after_entry, the_session}
use Rattle.sl_trace.specs.Jobs.{child_of_job, job_of_start}
use Rattle.sl_trace.specs.declared.session.Session.{Session}
use Rattle.sl_trace.specs.Sessions.{is_active, session_of_job}
use Rattle.sl_trace.specs.Traces.{Submitted, is_before_input, waiting_call}
use Rattle.sl_trace.specs.declared.command.Command.TheVariants.{Acquire}
use Rattle.sl_trace.specs.declared.command.ResourceArg.{ResourceArg}
use Rattle.sl_trace.specs.declared.input.Answer.{Answer}
use Rattle.sl_trace.specs.declared.input.Input.TheVariants.{Exit}
use Rattle.sl_trace.specs.declared.reply.Reply.{Reply}
use Rattle.std.specs.Prelude.{Bool, IsTrue, None, Ok, Some, length, true, ℕ, ◌+◌, ◌<◌, ◌≡◌}

-- The job waits for a call that is not overdue, and its session stays neither in recovery nor leaving.
pub record IsTimely (x : Answering) (c : Submitted) : Type 0 where
  pub waits : waiting_call x.past x.job.number ≡ Some c
  pub timely : x.entry.reading < c.reading + x.setting.timing.io
  pub active : (s : Session) → the_session x ≡ Some s → IsTrue (is_active x.setting (after_entry x) s)

-- So it is with an acquire that came before the entry; the entry answers no call of it, its process doesn't exit, and it starts no child.
pub record IsLeftAlone (x : Answering) (r : ResourceArg) (shared : Bool) (p : ℕ) (persistent : Bool) (c : Submitted) : Type 0 where
  pub command : x.job.command ≡ Ok (Acquire r shared p persistent)
  pub earlier : x.job.at ≡ length x.past → ⊥
  pub unanswered : (m : Submitted) (a : Answer) → AnswersCall x m a → ⊥
  pub in_time : IsTimely x c
  pub stays : x.entry.input ≡ Exit p → ⊥
  pub childless : child_of_job x.past x.job.number ≡ None
  pub startless : (q : ℕ) → job_of_start x.past q ≡ Some x.job.number → ⊥
  -- nor does it join
  pub joinless : (s : Session) → session_of_job x.setting x.past x.job.number ≡ Some s → ⊥

-- Nothing has a cause there; and of what is answered before an input nothing has, even where the entry answers the job's call.
pub record NothingIsCaused : Type 0 where
  pub alone : (x : Answering) (r : ResourceArg) (shared : Bool) (p : ℕ) (persistent : Bool) (c : Submitted) → IsLeftAlone x r shared p persistent c → (why : Reply) → CausedBy x why → ⊥
  pub early : (x : Answering) (c : Submitted) → IsTimely x c → (why : Reply) → is_before_input why ≡ true → CausedBy x why → ⊥
