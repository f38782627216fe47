use Rattle.sl_own.proofs.play.play_ground.Given as goal
use Rattle.sl_reader.specs.Scopes.{own_scope}

-- the script is the one behind this header, for this machine
abbrev pub ghosts-play_as : goal.ghosts-play_as
ghosts-play_as g a = record { left = g.S.Source.left a.source; faults = g.S.Source.faults a.source; began = a.reader; scope = own_scope a.ground.header a.manner.machine; keeps = a.manner.keeps }
