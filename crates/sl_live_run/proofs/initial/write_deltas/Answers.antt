-- One more record stands behind those so far.
use Rattle.sl_direct.proofs.DiskLaws.{range_wrote}
use Rattle.sl_live_run.proofs.initial.write_deltas.Goals as goal
use Rattle.sl_live_run.specs.Areas.{delta_write}
use Rattle.std.proofs.Common.{arith, rules}

pub loop-before-preserved : goal.loop-before-preserved
loop-before-preserved g c =
    record {
      wrote = range_wrote (delta_write c.args.header.now c.args.line.now) c.loop-before.before _ _ _ _ (omega arith) c.loop-before.invariant.wrote c.in_ok-write_delta.ensures.ok;
      later = search rules;
    }
