-- What a line makes of a host, in parts.
use Rattle.sl_host_state.specs.HeardInputs.{new_job}
use Rattle.sl_host_state.specs.KeptState.{HostState}
use Rattle.sl_host_state.specs.MadeEffects.{lowered}
use Rattle.sl_member.specs.HostMembers.{left_by}
use Rattle.sl_trace.specs.Sessions.{is_session_arg}
use Rattle.sl_trace.specs.KillPrograms.{KillProgram}
use Rattle.sl_trace.specs.declared.command.Command.TheVariants.{RemLockspace}
use Rattle.sl_trace.specs.declared.command.Command.{Command}
use Rattle.sl_trace.specs.declared.command.LockspaceArg.{LockspaceArg}
use Rattle.std.specs.List.{list_any}
use Rattle.std.specs.Prelude.{List, None, Option, Some, [], map, ℕ, ◌&&◌, ◌++◌, ◌+◌, ◌-◌, ◌∷◌}

-- A process and its kill program.
abbrev pub kill_program : ℕ × List ℕ → KillProgram
kill_program p = record { process = p.0; program = p.1 }

-- The lockspace that a line leaves.
abbrev pub lockspace_left : Command → Option LockspaceArg
lockspace_left (RemLockspace a) = Some a
lockspace_left c = None

-- A line that is carried out, but for the sessions that it leaves.
abbrev pub line_begun : Command → HostState → HostState
line_begun c h = record h { next_job = h.next_job + 1; jobs = h.jobs ++ new_job h.next_job (Some c) ∷ [] }

-- The sessions that these words name are left, for this job.
abbrev pub leaving_begins : LockspaceArg → ℕ → HostState → HostState
leaving_begins a job h =
    record h {
      members = map (left_by a (record { at = h.entries - 1; reading = h.reading; kills_from = h.entries }) job) h.members;
      quiet_until = lowered (list_any (λ m. m.joined && is_session_arg m.who a) h.members) (h.reading + h.config.grace) h;
    }
