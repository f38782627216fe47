-- One more write stands behind those so far, or fails behind them.
use Rattle.sl_area.specs.AreaSizes.{layout_of}
use Rattle.sl_direct.proofs.DiskLaws.{on_err, range_broke, range_wrote}
use Rattle.sl_direct.proofs.fresh_areas.write_lockspace.Goals as goal
use Rattle.sl_direct.specs.FreshAreas.{delta_write}
use Rattle.std.proofs.Common.{arith, rules}

pub returns-in_err-write_delta-clause-failed : goal.returns-in_err-write_delta-clause-failed
returns-in_err-write_delta-clause-failed g c =
    on_err c.from_residual.result _
    (range_broke (delta_write (layout_of c.args.geometry) c.args.lockspace c.args.base) c.args.geometry.hosts c.loop-before.before _ _ _ _ (omega arith) (omega arith) c.loop-before.invariant.wrote c.in_err-write_delta.ensures.failed)

pub loop-before-preserved : goal.loop-before-preserved
loop-before-preserved g c =
    record {
      wrote = range_wrote (delta_write (layout_of c.args.geometry) c.args.lockspace c.args.base) c.loop-before.before _ _ _ _ (omega arith) c.loop-before.invariant.wrote c.in_ok-write_delta.ensures.ok;
      later = search rules;
    }
