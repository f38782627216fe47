-- One more reply ends its job: a joining by it is joined, or refused and then there while a write of it is unanswered; any other job is
-- kept no more.
use Rattle.sl_due.specs.Steps.{Step, add_reply}
use Rattle.sl_host_state.specs.KeptState.{HostState}
use Rattle.sl_host_state.specs.MadeEffects.{with_reply}
use Rattle.sl_host_state.specs.HostStands.{Stands}
use Rattle.sl_host_law.specs.Replies.Answers.{IsOfOther}
use Rattle.sl_trace.specs.Traces.{Trace, is_before_input}
use Rattle.sl_trace.specs.declared.command.Command.TheVariants.{RemLockspace, SetKillpath}
use Rattle.sl_trace.specs.declared.command.Command.{Command}
use Rattle.sl_trace.specs.declared.input.Input.TheVariants.{Answer as Told, Line}
use Rattle.sl_trace.specs.declared.input.Input.{Input}
use Rattle.sl_trace.specs.declared.reply.Reply.{Reply}
use Rattle.std.specs.List.{list_any}
use Rattle.std.specs.Prelude.{Bool, IsTrue, Ok, Result, false, true, ℕ, ◌+◌, ◌==◌, ◌≡◌, ◌⊎◌}

-- The reply leaves the heed of the answer that the input brings: it is none of those of before an input, or the answer is another's.
abbrev pub LeavesHeed : Input → ℕ → Reply → Trace → Type 0
LeavesHeed (Told number a) job r past = (is_before_input r ≡ false) ⊎ IsOfOther number job past
LeavesHeed i job r past = Unit {0}

-- Whether a line does nothing by its own reply: it neither leaves a lockspace nor sets a kill program.
abbrev pub is_plain_line : Result Command ℕ → Bool
is_plain_line (Ok (RemLockspace a)) = false
is_plain_line (Ok (SetKillpath p path)) = false
is_plain_line c = true

-- The reply leaves what the input's line does: it is to another job, or the line does nothing by it.
abbrev pub LeavesLine : Input → ℕ → HostState → Type 0
LeavesLine (Line text) job h = ((job + 1 == h.next_job) ≡ false) ⊎ (is_plain_line (h.config.read text) ≡ true)
LeavesLine i job h = Unit {0}

-- The job runs, and its reply changes nothing of what the input has done.
pub record MayReply (i : Input) (h : HostState) (x : Step) (job : ℕ) (r : Reply) : Type 0 where
  pub runs : IsTrue (list_any (λ j. j.number == job) h.jobs)
  pub heed : LeavesHeed i job r x.past
  pub line : LeavesLine i job h

abbrev pub RepliesAreTaken : Type 0
RepliesAreTaken = (job : ℕ) (r : Reply) (i : Input) (h : HostState) (x : Step) → Stands i h x → MayReply i h x job r → Stands i (with_reply job r h) (add_reply job r x)
