-- What an event gives a daemon, and what a machine does itself, by a world and by what is kept of it.
use Rattle.sl_world_state.specs.Inputs.{input_in, own_in}
use Rattle.sl_world_state.specs.KeptWorld.{KeptState}
use Rattle.sl_world_state.specs.SaneWorlds.{IsSane}
use Rattle.sl_world_state.specs.ShownWorlds.{Tells}
use Rattle.sl_run.specs.Inputs.{input_of}
use Rattle.sl_run.specs.Refusals.{may_happen}
use Rattle.sl_run.specs.Runs.{own_effects_of}
use Rattle.sl_run.specs.Worlds.{World}
use Rattle.sl_run.specs.declared.event.Event.{Event}
use Rattle.sl_run.specs.declared.header.Header.{Header}
use Rattle.sl_text.specs.Forms.{Form}
use Rattle.sl_trace.specs.declared.command.Command.{Command}
use Rattle.std.specs.Prelude.{List, true, ◌≡◌}

-- The input of each event that may happen.
abbrev pub InputsAreKept : Type 0
InputsAreKept =
    (commands : Header → List (Form Command)) (k : KeptState) (w : World) → Tells k w → IsSane commands w → (e : Event) → may_happen w e ≡ true
    → input_of w e ≡ input_in k e

-- What the machine itself does at it.
abbrev pub OwnEffectsAreKept : Type 0
OwnEffectsAreKept = (k : KeptState) (w : World) → Tells k w → (e : Event) → own_effects_of w e ≡ own_in k e
