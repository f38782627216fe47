use Rattle.sl_reader.specs.Scopes.{scope_of}
use Rattle.sl_live_play.proofs.play.play_ground.Given as goal

-- the script is the one behind this header
abbrev pub ghosts-play_as : goal.ghosts-play_as
ghosts-play_as g a = record { left = g.S.Source.left a.source; faults = g.S.Source.faults a.source; began = a.reader; scope = scope_of a.ground.header; keeps = a.manner.keeps }
