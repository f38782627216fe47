-- Moments of a step: as it begins, at its input, and once that was taken and a wake looked at.
use Rattle.sl_world_state.specs.Daemons.{MayCome}
use Rattle.sl_due.specs.DueWake.{is_wake}
use Rattle.sl_host_law.specs.Steps.Inputs.{taking}
use Rattle.sl_host_law.specs.Steps.StepFunction.{before_taking, effects_of, stepped, stepping}
use Rattle.sl_host_law.specs.Steps.WakePasses.{waking}
use Rattle.sl_host_state.specs.HeardInputs.{begun, quiet_to}
use Rattle.sl_host_state.specs.KeptState.{HostKept, HostState, state_of}
use Rattle.sl_host_state.specs.HostStands.{IsQuiet}
use Rattle.sl_host_step.specs.StepMemory.{calls_for, left_for}
use Rattle.sl_host_step.specs.HostServes.{IsIdle, Keeping, ReadsWhole}
use Rattle.sl_step_law.specs.LastValues.{IsByteInput}
use Rattle.sl_trace.specs.Traces.{Setting, Trace}
use Rattle.sl_trace.specs.declared.command.Command.{Command}
use Rattle.sl_trace.specs.declared.effects.Effects.{Effects}
use Rattle.sl_trace.specs.declared.input.Input.{Input}
use Rattle.sl_host.specs.BookQuestions.{state_in}
use Rattle.sl_host.specs.Host.{HostView}
use Rattle.sl_host.specs.Books.{AreFew}
use Rattle.std.specs.Prelude.{List, Result, cond, ℕ, ◌≡◌}

-- A step that may come: to what is kept, which stands for some trace.
pub record StepComes (now : ℕ) (i : Input) (k : HostKept) : Type 0 where
  pub setting : Setting
  pub past : Trace
  pub keeps : Keeping k setting past
  pub may : MayCome setting past now i
  pub bytes : IsByteInput i

-- The kept state has come so far from what was kept first, however lines are read.
pub record HasCome (now : ℕ) (i : Input) (f : HostState → HostState) (first k : HostKept) : Type 0 where
  pub comes : StepComes now i first
  pub same : k.config ≡ first.config
  pub reading : k.reading ≡ now
  pub is : (read : List ℕ → Result Command ℕ) → ReadsWhole first read → state_of read k ≡ f (state_of read first)

-- To its input.
abbrev pub AtInput : ℕ → Input → HostKept → HostKept → Type 0
AtInput now i first k = HasCome now i (λ h. before_taking (begun now h)) first k

-- Behind its input, and what a wake makes due.
abbrev pub made_due : Input → HostState → HostState
made_due i h = cond (is_wake i) (waking (taking i h)) (taking i h)

abbrev pub AtEnd : ℕ → Input → HostKept → HostKept → Type 0
AtEnd now i first k = HasCome now i (λ h. made_due i (before_taking (begun now h))) first k

-- All is done.
abbrev pub AllDone : ℕ → Input → HostKept → HostKept → Type 0
AllDone now i first k = HasCome now i (stepping now i) first k

-- It may be known for longer that nothing is due.
pub record IsCalmed (old new : HostKept) : Type 0 where
  pub config : new.config ≡ old.config
  pub state : (read : List ℕ → Result Command ℕ) → state_of read new ≡ quiet_to new.quiet_until (state_of read old)
  pub quiet : IsQuiet (state_in new)

-- What is kept when the step is over, with its effects.
pub record IsOver (now : ℕ) (i : Input) (first k : HostKept) (fx : Effects) : Type 0 where
  pub effects : (read : List ℕ → Result Command ℕ) → ReadsWhole first read → fx ≡ effects_of now i (state_of read first)
  pub config : k.config ≡ first.config
  pub state : (read : List ℕ → Result Command ℕ) → ReadsWhole first read → state_of read k ≡ quiet_to k.quiet_until (stepped now i (state_of read first))
  pub quiet : IsQuiet (state_in k)

-- The whole step.
pub record HasStepped (now : ℕ) (i : Input) (old new : HostView) (fx : Effects) : Type 0 where
  pub over : IsOver now i old.kept new.kept fx
  pub few : AreFew (left_for old) (calls_for old) fx
  pub idle : IsIdle new
  pub seats : new.seats ≡ old.seats
