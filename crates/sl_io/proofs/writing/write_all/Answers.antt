-- The next piece stands behind those that were written.
use Rattle.std.proofs.Common.{rules}
use Rattle.sl_io.proofs.PieceLaws.{Appends-pieces}
use Rattle.sl_io.proofs.writing.write_all.Goals as goal

pub loop-at-preserved : goal.loop-at-preserved
loop-at-preserved g c = record {
  within = search rules;
  taken = Appends-pieces _ _ _ _ _ _ c.loop-at.invariant.taken c.in_ok-at.ensures.bytes;
  later = search rules;
}
