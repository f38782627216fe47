-- What an event makes of what is kept, said directly: where the machine itself does nothing, and where a call is answered that is done in the same event.
use Rattle.sl_world_state.specs.Changes.{first_kept, write_at}
use Rattle.sl_world_state.specs.Inputs.{input_in, own_in}
use Rattle.sl_world_state.specs.KeptWorld.{FlightState, KeptState, flight_of_machine}
use Rattle.sl_world_state.specs.SaneWorlds.{IsSane}
use Rattle.sl_world_state.specs.ShownWorlds.{Tells}
use Rattle.sl_world_state.specs.Steps.{stepped_kept, taken_kept}
use Rattle.sl_run.specs.Worlds.{World}
use Rattle.sl_run.specs.declared.event.Event.TheVariants.{Do, Reset}
use Rattle.sl_run.specs.declared.event.Event.{Event}
use Rattle.sl_run.specs.declared.header.Header.{Header}
use Rattle.sl_text.specs.Forms.{Form}
use Rattle.sl_trace.specs.Traces.{no_effects}
use Rattle.sl_trace.specs.declared.command.Command.{Command}
use Rattle.sl_trace.specs.declared.effects.Effects.{Effects}
use Rattle.sl_trace.specs.declared.input.Input.{Input}
use Rattle.std.specs.Prelude.{List, None, Some, false, true, ℕ, ◌≡◌}

-- Where neither a daemon nor the machine does anything, there is only what the event changes first.
abbrev pub QuietEvents : Type 0
QuietEvents = (k : KeptState) (e : Event) → input_in k e ≡ None → own_in k e ≡ no_effects → stepped_kept e (own_in k e) k ≡ first_kept e k

-- So at a reset, where all holdings end: the machine has none any more.
abbrev pub ResetsAreQuiet : Type 0
ResetsAreQuiet = (k : KeptState) (m : ℕ) → stepped_kept (Reset m) (own_in k (Reset m)) k ≡ first_kept (Reset m) k

-- What a call that is done leaves on the disks: its write, if it hasn't taken effect.
abbrev pub landed_first : FlightState → KeptState → KeptState
landed_first f k = elim f.write [ None ↦ k | Some whole ↦ elim f.flying [ true ↦ write_at f.place whole k | false ↦ k ] ]

-- Its answer takes it away, so nothing else need be changed of it.
abbrev pub DoneDirectly : Type 0
DoneDirectly =
    (commands : Header → List (Form Command)) (k : KeptState) (w : World) → Tells k w → IsSane commands w → (m c : ℕ) (f : FlightState)
    → flight_of_machine k m c ≡ Some f → (i : Input) → input_in k (Do m c) ≡ Some i → (fx : Effects)
    → stepped_kept (Do m c) fx k ≡ taken_kept m (Some i) fx (landed_first f k)
