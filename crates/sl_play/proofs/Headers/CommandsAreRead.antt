-- What the commands of the whole language read are commands; so the whole language may be played.
use Rattle.sl_area.specs.AreaSizes.{layout_of}
use Rattle.sl_command.proofs.CommandLaws.{few_hosts, reads_commands}
use Rattle.sl_world_state.specs.Daemons.{program_of}
use Rattle.sl_play.proofs.Headers.HeadersAreGood.{headers_are_good}
use Rattle.sl_play.specs.Headers.HeaderLaw.{CommandsAreRead, WholeLanguageMayPlay, whole_commands}
use Rattle.std.proofs.Common.{refl}

pub commands_are_read : CommandsAreRead
commands_are_read h header text c reads = ((reads_commands (layout_of h.geometry) (few_hosts h.geometry header.geometry) text c).0 reads).0

pub whole_language_may_play : WholeLanguageMayPlay
whole_language_may_play = record { whole = refl; plays = record { headers = headers_are_good (program_of whole_commands); reads = commands_are_read } }
