use Rattle.cases.proofs.lines.tell_events.Given as goal
use Rattle.sl_reader.specs.LineReads.{EndStands}
use Rattle.std.specs.Prelude.{Some}

abbrev pub invariant-loop-place : goal.invariant-loop-place
invariant-loop-place l = EndStands (Some l.source.left) l.reader
