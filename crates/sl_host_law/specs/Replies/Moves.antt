-- One more move of a connection: the connections that stand, and the end of a joined session whose connection goes.
use Rattle.sl_due.specs.Steps.{Step, add_move}
use Rattle.sl_host_state.specs.KeptState.{HostState, MemberState}
use Rattle.sl_host_state.specs.MadeEffects.{is_ended_by_move, with_move}
use Rattle.sl_host_state.specs.HostStands.{Stands}
use Rattle.sl_trace.specs.declared.effects.Move.{Move}
use Rattle.sl_trace.specs.declared.input.Input.{Input}
use Rattle.std.specs.Prelude.{IsTrue, Some, is_some, slice_get, true, ℕ, ◌≡◌, ◌||◌}

-- Who ends by the move is in recovery or leaving, so it was joined before this step.
abbrev pub EndsBegun : Move → HostState → Type 0
EndsBegun move h = (k : ℕ) (m : MemberState) → slice_get h.members k ≡ Some m → is_ended_by_move move m ≡ true → IsTrue (is_some m.renewing.recovery || is_some m.leaving)

abbrev pub MovesAreTaken : Type 0
MovesAreTaken = (move : Move) (i : Input) (h : HostState) (x : Step) → Stands i h x → EndsBegun move h → Stands i (with_move move h) (add_move move x)
