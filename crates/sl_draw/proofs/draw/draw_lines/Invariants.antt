use Rattle.sl_draw.proofs.draw.draw_lines.Given as goal
use Rattle.sl_draw.specs.Draws.{Drawing}
use Rattle.sl_picture.specs.declared.kept.Part.{Part}
use Rattle.sl_play.specs.Plays.{IsPlaying, state_of}
use Rattle.sl_reader.specs.LineReads.{EndStands}
use Rattle.sl_report.specs.Schedules.{greatest_source}
use Rattle.sl_run.specs.declared.header.Header.{Header}
use Rattle.std.proofs.Common.{List, Option, ℕ, ◌-◌, ◌≡◌, ◌≤◌}

abbrev pub invariant-loop-sink : goal.invariant-loop-sink
invariant-loop-sink g l = record {
  runs : (h : Header) (first : Option (List ℕ)) (part : Part)
      → Drawing g.D.Daemon.commands g.D.Daemon.stands part h first (g.S.Source.left l.fn.source) l.fn.reader (state_of g.L.LockTable.locks l.fn.play) l.caption l.fn.picture
      → Drawing g.D.Daemon.commands g.D.Daemon.stands part h first (g.S.Source.left l.source) l.reader (state_of g.L.LockTable.locks l.play) l.caption l.picture;
  plays : IsPlaying g.D.Daemon.commands g.D.Daemon.stands (state_of g.L.LockTable.locks l.play);
  ends : EndStands (g.S.Source.left l.source) l.reader;
  sink : l.sink ≡ l.fn.sink;
  faults : g.S.Source.faults l.fn.source ≤ g.S.Source.faults l.source;
}

abbrev pub decreases-loop-sink : goal.decreases-loop-sink
decreases-loop-sink g l = greatest_source - l.reader.behind
