-- What a step does: the effects that the trace so far, the reading and the input make due. Its order:
-- 1. `begin_recoveries`: by time, of sessions whose last renewal is `fail` old;
-- 2. `kills`: of holders whose grace has passed;
-- 3. `time_outs`: of jobs whose call is overdue;
-- 4. `take_input`: the line, the answer, the exit, the answer to a start;
-- 5. `on_wake`, on a wake alone: joinings, renewals, settlings;
-- 6. `finish`: ends of sessions, frees, removals of connections.
use Rattle.sl_due.specs.DueRecovery.{begin_recoveries, kills}
use Rattle.sl_due.specs.DueTimeOuts.{time_outs}
use Rattle.sl_due.specs.DueInputs.{take_input}
use Rattle.sl_due.specs.DueWake.{finish, is_wake, on_wake}
use Rattle.sl_due.specs.Steps.{Step, begin_step, when}
use Rattle.sl_trace.specs.Traces.{EachEntry, IsTrace, Setting, Trace}
use Rattle.sl_trace.specs.declared.effects.Effects.{Effects}
use Rattle.sl_trace.specs.declared.effects.Entry.{Entry}
use Rattle.sl_trace.specs.declared.input.Input.{Input}
use Rattle.std.specs.Prelude.{ℕ, ◌≡◌}

-- What a step does before its input.
unfoldable pub before_input : Step → Step
before_input x = time_outs (kills (begin_recoveries x))

-- What comes after the input: on a wake what is due by time, and what comes last.
unfoldable pub after_input : Input → Step → Step
after_input i x = finish (when (is_wake i) on_wake x)

-- A step: what comes before the input, the input, and what comes after it.
unfoldable pub due_step : Setting → Trace → ℕ → Input → Step
due_step st past reading i = after_input i (take_input i (before_input (begin_step st past reading)))

-- The effects that are due.
unfoldable pub due : Setting → Trace → ℕ → Input → Effects
due st past reading i = (due_step st past reading i).effects

-- Each entry has the effects that are due.
abbrev pub IsDue : Setting → Trace → Entry → Type 0
IsDue st past e = e.effects ≡ due st past e.reading e.input

-- What a host owes for each list of steps.
abbrev pub IsHostTrace : Setting → Trace → Type 0
IsHostTrace st es = IsTrace st es × EachEntry (IsDue st) es
