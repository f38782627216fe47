-- No byte is lost and no fault counted before the flush's answer.
use Rattle.std.proofs.Common.{◌≡◌}
use Rattle.std.specs.Io.KnownBytes.{Keeps}
use Rattle.sl_io.proofs.writer.WriteSink.flush.Given as goal

abbrev pub invariant-loop : goal.invariant-loop
invariant-loop g l = record {
  kept : Keeps (g.W.Write.contents l.fn.self.inner) (g.W.Write.contents l.self.inner);
  faults : l.self.faults ≡ l.fn.self.faults;
}
