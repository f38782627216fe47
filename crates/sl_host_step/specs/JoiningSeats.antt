-- The member that a line joins with, made before the step begins.
use Rattle.sl_area.specs.AreaSizes.{layout_of}
use Rattle.sl_host_state.specs.KeptState.{HostKept}
use Rattle.sl_host_step.specs.StepMemory.{calls_for}
use Rattle.sl_member.specs.Members.{MemberKept, blank_member}
use Rattle.sl_trace.specs.Sessions.{joining_session}
use Rattle.sl_text.specs.Names.{is_name}
use Rattle.sl_trace.specs.CommandForms.{IsCommand}
use Rattle.sl_trace.specs.declared.command.Command.TheVariants.{AddLockspace}
use Rattle.sl_trace.specs.declared.command.Command.{Command}
use Rattle.sl_host.specs.Host.{HostView}
use Rattle.sl_host.specs.MemberRun.{run_in}
use Rattle.std.specs.Prelude.{IsTrue, None, Option, Some, ◌≡◌}

-- What is asked of host and command.
pub record MayBeSeated (k : HostKept) (c : Command) : Type 0 where
  pub command : IsCommand (layout_of k.config.sizes) c
  pub named : IsTrue (is_name k.config.name)

-- Where the command joins there is one, of the session that it begins, with memory for as many leases as calls may be made.
abbrev pub HasPlace : HostView → Command → Option MemberKept → Type 0
HasPlace v (AddLockspace a) None = ⊥
HasPlace v (AddLockspace a) (Some m) =
    m ≡ record { run = run_in v.kept.config; state = blank_member (run_in v.kept.config) (joining_session v.kept.born v.kept.next_job a); room = calls_for v }
HasPlace v c o = Unit {0}
