-- The member that a line joins with is made before the line is taken, with all its memory.
use Rattle.sl_member.specs.Members.{MemberKept, blank_member}
use Rattle.sl_trace.specs.Sessions.{joining_session}
use Rattle.sl_trace.specs.declared.command.Command.TheVariants.{AddLockspace}
use Rattle.sl_trace.specs.declared.command.Command.{Command}
use Rattle.sl_trace.specs.declared.command.LockspaceArg.{LockspaceArg}
use Rattle.sl_host.specs.Host.{HostView}
use Rattle.sl_host.specs.MemberRun.{run_in}
use Rattle.std.specs.Prelude.{None, Option, Some, ℕ, ◌≡◌, ◌≤◌}

-- It is of the next session to be born, for this job, without a call, and has memory for as many leases as calls may be made.
pub record IsSeat (v : HostView) (job : ℕ) (a : LockspaceArg) (m : MemberKept) : Type 0 where
  pub run : m.run ≡ run_in v.kept.config
  pub blank : m.state ≡ blank_member (run_in v.kept.config) (joining_session v.kept.born job a)
  pub room : v.calls ≤ m.room

-- Where the command joins there is one, for the job of the line.
abbrev pub HasSeat : HostView → Command → Option MemberKept → Type 0
HasSeat v (AddLockspace a) None = ⊥
HasSeat v (AddLockspace a) (Some m) = IsSeat v v.kept.next_job a m
HasSeat v c o = Unit {0}
