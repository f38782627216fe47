-- A step as one function of states.
use Rattle.sl_host_law.specs.Answers.RefusalsFollow.{timing_out}
use Rattle.sl_due.specs.DueWake.{is_wake}
use Rattle.sl_host_state.specs.HeardInputs.{begun, rested}
use Rattle.sl_host_state.specs.KeptState.{HostState}
use Rattle.sl_host_law.specs.Steps.Inputs.{taking}
use Rattle.sl_host_law.specs.Steps.Passes.{for_jobs, for_members}
use Rattle.sl_host_law.specs.Steps.WakePasses.{waking}
use Rattle.sl_host_law.specs.StepParts.Ends.{finishing}
use Rattle.sl_host_law.specs.StepParts.Recoveries.{killing, recovering_in}
use Rattle.sl_host_law.specs.StepParts.Signals.{over}
use Rattle.sl_trace.specs.declared.effects.Effects.{Effects}
use Rattle.sl_trace.specs.declared.input.Input.{Input}
use Rattle.std.specs.Prelude.{cond, ℕ}

-- What is due before the input: recoveries that begin, kills, jobs whose calls are overdue.
abbrev pub before_taking : HostState → HostState
before_taking h = for_jobs timing_out (over (for_members recovering_in h).members killing (for_members recovering_in h))

-- What comes after it: on a wake what is due by time, and what comes last.
abbrev pub after_taking : Input → HostState → HostState
after_taking i h = for_members finishing (cond (is_wake i) (waking h) h)

-- The host in its step, all done.
abbrev pub stepping : ℕ → Input → HostState → HostState
stepping now i h = after_taking i (taking i (before_taking (begun now h)))

-- The effects of the step, and the host after it.
abbrev pub effects_of : ℕ → Input → HostState → Effects
effects_of now i h = (stepping now i h).made

abbrev pub stepped : ℕ → Input → HostState → HostState
stepped now i h = rested (stepping now i h)
