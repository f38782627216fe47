-- What is due follows the steps before it, at an input that may come: no later clock, an answer that is expected; its calls are numbered on.
use Rattle.sl_due.specs.Due.{IsHostTrace}
use Rattle.sl_host_law.specs.Steps.SoundHosts.{IsSound}
use Rattle.sl_host_law.specs.Steps.StepsFollow.{entry_at}
use Rattle.sl_host_state.specs.KeptState.{HostState}
use Rattle.sl_host_state.specs.HostStands.{HostStands}
use Rattle.sl_run.specs.Lawful.{IsSetting}
use Rattle.sl_step_law.specs.ReadyHosts.{InputComes}
use Rattle.sl_trace.specs.Traces.{FollowsTrace, Setting, Trace, is_expected, last_reading}
use Rattle.sl_trace.specs.declared.input.Input.{Input}
use Rattle.sl_words.specs.Bounds.{moments}
use Rattle.std.specs.Prelude.{IsTrue, ℕ, ◌<◌, ◌≤◌}

abbrev pub DueFollows : Type 0
DueFollows =
    (st : Setting) (es : Trace) (now : ℕ) (i : Input) → IsSetting st → IsHostTrace st es → last_reading st es ≤ now → now < moments → IsTrue (is_expected st es i) → FollowsTrace st es (entry_at st es now i)

-- So an input that may come does come to a host that stands.
abbrev pub InputsCome : Type 0
InputsCome =
    (now : ℕ) (i : Input) (h : HostState) (st : Setting) (es : Trace) → IsSetting st → HostStands h st es → IsSound h → last_reading st es ≤ now → now < moments → IsTrue (is_expected st es i) → InputComes now i h st es
