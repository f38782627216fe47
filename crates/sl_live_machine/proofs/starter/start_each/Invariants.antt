use Rattle.sl_live.specs.Turns.{IsStarterThread}
use Rattle.sl_live_machine.proofs.starter.start_each.Given as goal
use Rattle.sl_live_machine.specs.ServedActs.{StartsOn}
use Rattle.sl_outside.specs.declared.act.Act.{Act}
use Rattle.std.proofs.Common.{List, Option}

-- what it told is of its kind, and what it made so far is made still
abbrev pub invariant-loop : goal.invariant-loop
invariant-loop g l = record {
  thread : IsStarterThread l.fn.seat → IsStarterThread l.seat;
  starts : (before : Option (List Act)) → StartsOn g.J.Station.setting l.fn.starter.killed before (g.P.Spawner.acts l.fn.starter.spawner) l.fn.seat
      → StartsOn g.J.Station.setting l.starter.killed before (g.P.Spawner.acts l.starter.spawner) l.seat;
}
