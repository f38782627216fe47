-- What is asked of a world holds of the world of each header.
use Rattle.sl_world_state.specs.Daemons.{program_of}
use Rattle.sl_world_state.specs.SaneWorlds.{IsSane}
use Rattle.sl_run.specs.Headers.{IsHeader}
use Rattle.sl_run.specs.Worlds.{world_with}
use Rattle.sl_run.specs.declared.header.Header.{Header}
use Rattle.sl_text.specs.Forms.{Form}
use Rattle.sl_trace.specs.declared.command.Command.{Command}
use Rattle.std.specs.Prelude.{List}

abbrev pub FirstWorldsAreSane : Type 0
FirstWorldsAreSane = (commands : Header → List (Form Command)) (h : Header) → IsHeader h → IsSane commands (world_with (program_of commands) h)
