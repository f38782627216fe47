-- A leaving begins, and what a line costs.
use Rattle.sl_host_law.specs.StepParts.Refusals.{signalling_and_refusing}
use Rattle.sl_host_state.specs.KeptState.{HostKept, HostState, MemberState}
use Rattle.sl_trace.specs.declared.command.Command.TheVariants.{RemLockspace}
use Rattle.sl_trace.specs.declared.command.Command.{Command}
use Rattle.std.specs.Prelude.{Ok, Result, Some, length, ℕ, ◌+◌}

-- The holders of the member are told to stop, and the jobs that name its lockspace are refused, but this one, for which it leaves.
abbrev pub leaving_for : ℕ → MemberState → HostState → HostState
leaving_for job m h = signalling_and_refusing m (Some job) h

-- How many effects that makes at most: one for each holding, one for each job.
abbrev pub leaving_cost : HostKept → ℕ
leaving_cost k = length k.holdings + length k.jobs

-- How many effects besides calls a line makes at most: a few, but for one that leaves.
abbrev pub extra_cost : HostKept → Result Command ℕ → ℕ
extra_cost k (Ok (RemLockspace a)) = leaving_cost k
extra_cost k read = 0

abbrev pub line_cost : HostKept → Result Command ℕ → ℕ
line_cost k read = 5 + extra_cost k read
