-- Whether an input may come to a host between two steps, by what it keeps.
use Rattle.sl_area.specs.AreaSizes.{Layout}
use Rattle.sl_host_state.specs.KeptState.{HostState}
use Rattle.sl_host_state.specs.HostStands.{HostStands}
use Rattle.sl_host_state.specs.declared.kept_parts.OpenCall.{OpenCall}
use Rattle.sl_trace.specs.Traces.{Setting, Trace, is_expected}
use Rattle.sl_trace.specs.declared.input.Answer.TheVariants.{Failed, Read, Written}
use Rattle.sl_trace.specs.declared.input.Answer.{Answer}
use Rattle.sl_trace.specs.declared.input.Input.TheVariants.{Answer as Told, Exit, Line, Number, Spawned, Wake}
use Rattle.sl_trace.specs.declared.input.Input.{Input}
use Rattle.std.specs.Option.{option_map_or}
use Rattle.std.specs.Prelude.{Bool, false, find, is_none, length, true, ◌*◌, ◌==◌, ◌≡◌}

-- Whether an answer is one to this call: as many sectors as it asks, or that its write is done; any call may fail.
abbrev pub is_answer_of : Layout → Answer → OpenCall → Bool
is_answer_of g (Read bytes) c = option_map_or (λ n. length bytes == n * g.sector) c.sectors false
is_answer_of g Written c = is_none c.sectors
is_answer_of g Failed c = true

-- An answer is to an open call; a start that is answered is a child's whose start was not.
abbrev pub expected_in : HostState → Input → Bool
expected_in h (Told number a) = option_map_or (is_answer_of h.config.layout a) (find (λ c. c.number == number) h.unanswered) false
expected_in h (Spawned p ok) = option_map_or (λ k. is_none k.answer) (find (λ k. k.process == p) h.children) false
expected_in h (Line text) = true
expected_in h (Number text) = true
expected_in h (Exit p) = true
expected_in h Wake = true

-- It is what the trace says.
abbrev pub ExpectedIs : Type 0
ExpectedIs = (h : HostState) (st : Setting) (es : Trace) (i : Input) → HostStands h st es → expected_in h i ≡ is_expected st es i
