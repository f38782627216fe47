use Rattle.sl_reader.proofs.reader.LineReader.read_line.Given as goal
use Rattle.sl_reader.specs.LineReads.{IsReading}
use Rattle.std.proofs.Common.{length, ◌+◌, ◌-◌, ◌≤◌}

abbrev pub invariant-loop-why : goal.invariant-loop-why
invariant-loop-why g l = record {
  reading : IsReading (g.S.Source.left l.fn.source) (g.S.Source.left l.source) l.fn.self l.self;
  few : length l.self.left ≤ 4096;
  later : g.S.Source.faults l.fn.source ≤ g.S.Source.faults l.source;
}

abbrev pub decreases-loop-why : goal.decreases-loop-why
decreases-loop-why g l = 8193 - (length l.self.line + length l.self.left)
