-- So many events have come to pass, in each world that the play stood for.
use Rattle.sl_generate.proofs.generator.take_events.Given as goal
use Rattle.sl_generate.specs.GeneratorPlay.{HaveDrawn}
use Rattle.sl_play.specs.Plays.{state_of}
use Rattle.std.proofs.Common.{◌-◌, ◌≤◌}

abbrev pub invariant-loop-number : goal.invariant-loop-number
invariant-loop-number g l = record {
  within : l.number ≤ l.events;
  drawn : HaveDrawn g.D.Daemon.commands g.D.Daemon.stands (state_of g.L.LockTable.locks l.fn.play) l.seed l.events l.number l.state (state_of g.L.LockTable.locks l.play);
}

abbrev pub decreases-loop-number : goal.decreases-loop-number
decreases-loop-number g l = l.events - l.number
