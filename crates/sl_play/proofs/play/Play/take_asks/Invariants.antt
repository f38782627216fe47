use Rattle.sl_play.proofs.play.Play.take_asks.Given as goal
use Rattle.sl_play.specs.Plays.{HaveAsked, state_of}

abbrev pub invariant-loop-machine : goal.invariant-loop-machine
invariant-loop-machine g l =
    HaveAsked g.D.Daemon.commands g.D.Daemon.stands (state_of g.L.LockTable.locks l.fn.self) l.fn.out.items l.left (state_of g.L.LockTable.locks l.self) l.out.items

abbrev pub decreases-loop-machine : goal.decreases-loop-machine
decreases-loop-machine g l = l.left
