use Rattle.sl_live.proofs.children.send_all.Given as goal
use Rattle.sl_live.specs.Turns.{Does, sent_by}
use Rattle.std.proofs.Common.{map, take}

-- those before this one were sent
abbrev pub invariant-loop-sent : goal.invariant-loop-sent
invariant-loop-sent g l = Does g.P.Spawner.acts g.P.Spawner.faults g.P.Spawner.running l.fn.spawner l.spawner (map sent_by (take l.sent-index l.signals))
