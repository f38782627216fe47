use Rattle.sl_world.proofs.hosts.Hosts.begin.Given as goal
use Rattle.sl_world.specs.RunningDaemons.{FirstBegun}

abbrev pub invariant-loop-machine : goal.invariant-loop-machine
invariant-loop-machine g l = FirstBegun g.D.Daemon.commands g.D.Daemon.stands l.header l.machine l.items.items
