-- An event that may happen, with the effects of its step or the machine's own: what is kept afterwards is that of the world afterwards.
use Rattle.sl_world_state.specs.KeptWorld.{KeptState}
use Rattle.sl_world_state.specs.SaneWorlds.{IsSane}
use Rattle.sl_world_state.specs.ShownWorlds.{Tells}
use Rattle.sl_world_state.specs.Steps.{stepped_kept}
use Rattle.sl_run.specs.EventChanges.{happens}
use Rattle.sl_run.specs.Refusals.{may_happen}
use Rattle.sl_run.specs.Runs.{HasSteps}
use Rattle.sl_run.specs.Worlds.{World}
use Rattle.sl_run.specs.declared.event.Event.{Event}
use Rattle.sl_run.specs.declared.header.Header.{Header}
use Rattle.sl_text.specs.Forms.{Form}
use Rattle.sl_trace.specs.declared.command.Command.{Command}
use Rattle.sl_trace.specs.declared.effects.Effects.{Effects}
use Rattle.std.specs.Prelude.{List, true, [], ◌∷◌, ◌≡◌}

abbrev pub EventsAreKept : Type 0
EventsAreKept =
    (commands : Header → List (Form Command)) (k : KeptState) (w : World) → Tells k w → IsSane commands w → (e : Event) → may_happen w e ≡ true
    → (fx : Effects) → HasSteps w e (fx ∷ []) → Tells (stepped_kept e fx k) (happens w e (fx ∷ []))
