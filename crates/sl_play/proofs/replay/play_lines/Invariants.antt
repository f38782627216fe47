use Rattle.sl_play.specs.Plays.{IsPlaying, state_of}
use Rattle.sl_play.proofs.replay.play_lines.Given as goal
use Rattle.sl_play.specs.Replays.{Running}
use Rattle.sl_report.specs.Schedules.{greatest_source}
use Rattle.sl_run.specs.declared.header.Header.{Header}
use Rattle.sl_reader.specs.LineReads.{EndStands}
use Rattle.std.proofs.Common.{List, Option, ℕ, ◌-◌, ◌≤◌}

abbrev pub invariant-loop-sink : goal.invariant-loop-sink
invariant-loop-sink g l = record {
  runs : (h : Header) (first taken : Option (List ℕ))
      → Running g.D.Daemon.commands g.D.Daemon.stands h first (g.S.Source.left l.fn.source) taken (g.K.Sink.taken l.fn.sink) l.fn.reader (state_of g.L.LockTable.locks l.fn.play)
      → Running g.D.Daemon.commands g.D.Daemon.stands h first (g.S.Source.left l.source) taken (g.K.Sink.taken l.sink) l.reader (state_of g.L.LockTable.locks l.play);
  plays : IsPlaying g.D.Daemon.commands g.D.Daemon.stands (state_of g.L.LockTable.locks l.play);
  ends : EndStands (g.S.Source.left l.source) l.reader;
  faults : g.S.Source.faults l.fn.source ≤ g.S.Source.faults l.source;
  sink_faults : g.K.Sink.faults l.fn.sink ≤ g.K.Sink.faults l.sink;
}

abbrev pub decreases-loop-sink : goal.decreases-loop-sink
decreases-loop-sink g l = greatest_source - l.reader.behind
