-- A job is refused, and with a joining its connection goes, unless a write of it is unanswered.
use Rattle.sl_due.specs.DueTimeOuts.{refuse}
use Rattle.sl_due.specs.Steps.{Step}
use Rattle.sl_host_state.specs.KeptState.{HostState, MemberState}
use Rattle.sl_host_state.specs.MadeEffects.{has_write_open, with_reply}
use Rattle.sl_host_state.specs.HostStands.{Stands}
use Rattle.sl_host_state.specs.declared.kept_parts.JobState.{JobState}
use Rattle.sl_host_law.specs.StepParts.Ends.{removing}
use Rattle.sl_host_law.specs.Questions.Jobs.{is_overdue_in, joining_in}
use Rattle.sl_host_law.specs.Questions.PartQuestions.{time_out_of}
use Rattle.sl_host_law.specs.Replies.Moves.{EndsBegun}
use Rattle.sl_host_law.specs.Replies.RepliesAreTaken.{MayReply}
use Rattle.sl_trace.specs.Sessions.{is_join_done}
use Rattle.sl_trace.specs.declared.effects.Move.TheVariants.{Unregister}
use Rattle.sl_trace.specs.declared.input.Input.TheVariants.{Wake}
use Rattle.sl_trace.specs.declared.input.Input.{Input}
use Rattle.sl_trace.specs.declared.reply.Reply.TheVariants.{IoTimeout}
use Rattle.sl_trace.specs.declared.reply.Reply.{Reply}
use Rattle.std.specs.Prelude.{None, Some, cond, false, not, slice_get, ℕ, ◌≡◌}

-- The job is refused, and a joining that it is loses its connection.
abbrev pub refusing : ℕ → Reply → HostState → HostState
refusing job r h =
    elim (joining_in h job) [
      | None ↦ with_reply job r h
      | Some m ↦ cond (not (has_write_open h m.who.number)) (removing m.who.lockspace (with_reply job r h)) (with_reply job r h)
    ]

-- The job is refused where its call is overdue.
abbrev pub timing_out : JobState → HostState → HostState
timing_out j h =
    elim j.waits [ None ↦ h | Some c ↦ cond (is_overdue_in h c) (refusing j.number (IoTimeout c.number c.reading h.reading) h) h ]

-- No session that is joined, and neither in recovery nor leaving, has the joining's name.
abbrev pub IsAlone : ℕ → HostState → Type 0
IsAlone job h = (m : MemberState) → joining_in h job ≡ Some m → EndsBegun (Unregister m.who.lockspace) h

pub record RefusalsFollow : Type 0 where
  pub refused : (job : ℕ) (r : Reply) (i : Input) (h : HostState) (x : Step) → Stands i h x → MayReply i h x job r → is_join_done r ≡ false → IsAlone job h
      → Stands i (refusing job r h) (refuse job r x)
  pub timed_out : (k : ℕ) (j : JobState) (h : HostState) (x : Step) → Stands Wake h x → slice_get h.jobs k ≡ Some j → IsAlone j.number h → Stands Wake (timing_out j h) (time_out_of j.number x)
