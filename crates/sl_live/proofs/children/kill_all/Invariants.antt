use Rattle.sl_live.proofs.children.kill_all.Given as goal
use Rattle.sl_live.specs.Turns.{Does, kill_of}
use Rattle.std.proofs.Common.{map, take}

-- those before this one were sent
abbrev pub invariant-loop-number : goal.invariant-loop-number
invariant-loop-number g l = Does g.P.Spawner.acts g.P.Spawner.faults g.P.Spawner.running l.fn.spawner l.spawner (map kill_of (take l.number-index l.numbers))
