-- The call whose answer has been seen, while what that makes due is still to come.
use Rattle.sl_trace.specs.Traces.{Submitted, Trace}
use Rattle.sl_trace.specs.declared.effects.Call.{Call}
use Rattle.sl_trace.specs.declared.input.Input.TheVariants.{Answer as Told}
use Rattle.sl_trace.specs.declared.input.Input.{Input}
use Rattle.std.specs.Prelude.{List, None, Option, Some, [], ℕ, ◌∷◌, ◌≡◌, ◌⊎◌}

-- The calls of the newest entry.
abbrev pub newest_calls : Trace → List Call
newest_calls [] = []
newest_calls (e ∷ es) = e.effects.calls

-- A call without an answer; or that whose answer was heard, until one is made after it.
abbrev pub IsOpen : Trace → Option ℕ → Submitted → Type 0
IsOpen t heard m = (m.answer ≡ None) ⊎ ((heard ≡ Some m.call.number) × (newest_calls t ≡ []))

-- The call that a step's input answers.
abbrev pub heard_by : Input → Option ℕ
heard_by (Told number answer) = Some number
heard_by i = None
