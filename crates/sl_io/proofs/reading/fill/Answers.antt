-- The next piece stands behind those that were read.
use Rattle.std.proofs.Common.{rules}
use Rattle.sl_io.proofs.PieceLaws.{Consumes-pieces}
use Rattle.sl_io.proofs.reading.fill.Goals as goal

pub loop-at-preserved : goal.loop-at-preserved
loop-at-preserved g c = record {
  within = search rules;
  consumed = Consumes-pieces _ _ _ _ _ _ _ _ c.loop-at.invariant.within c.in_ok-n.ensures.bound.0 c.loop-at.invariant.consumed c.in_ok-n.ensures.bytes.0;
  later = search rules;
}
