-- What is refused in a world is refused by what is kept of it, for the same reason.
use Rattle.sl_world_state.specs.KeptWorld.{KeptState}
use Rattle.sl_world_state.specs.Refusals.{refusal_in}
use Rattle.sl_world_state.specs.SaneWorlds.{IsSane}
use Rattle.sl_world_state.specs.ShownWorlds.{Tells}
use Rattle.sl_run.specs.Refusals.{refusal_of}
use Rattle.sl_run.specs.Worlds.{World}
use Rattle.sl_run.specs.declared.event.Event.{Event}
use Rattle.sl_run.specs.declared.header.Header.{Header}
use Rattle.sl_text.specs.Forms.{Form}
use Rattle.sl_trace.specs.declared.command.Command.{Command}
use Rattle.std.specs.Prelude.{List, ◌≡◌}

-- Whatever the event.
abbrev pub RefusalsAreKept : Type 0
RefusalsAreKept =
    (commands : Header → List (Form Command)) (k : KeptState) (w : World) → Tells k w → IsSane commands w → (e : Event)
    → refusal_of w e ≡ refusal_in commands k e
