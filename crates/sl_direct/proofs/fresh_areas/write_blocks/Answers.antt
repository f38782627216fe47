-- One more write stands behind those so far, or fails behind them.
use Rattle.sl_area.specs.AreaSizes.{layout_of}
use Rattle.sl_area.specs.AreaLayout.{block_sectors}
use Rattle.sl_direct.proofs.DiskLaws.{on_err, range_broke, range_wrote}
use Rattle.sl_direct.proofs.fresh_areas.write_blocks.Goals as goal
use Rattle.sl_direct.specs.FreshAreas.{block_write}
use Rattle.std.proofs.Common.{arith, rules}

pub returns-in_err-write_block-clause-failed : goal.returns-in_err-write_block-clause-failed
returns-in_err-write_block-clause-failed g c =
    on_err c.from_residual.result _
    (range_broke (block_write (layout_of c.args.geometry) c.args.lockspace c.args.resource c.args.base) (block_sectors (layout_of c.args.geometry)) c.loop-before.before _ _ _ _ (omega arith) (omega arith) c.loop-before.invariant.wrote c.in_err-write_block.ensures.failed)

pub loop-before-preserved : goal.loop-before-preserved
loop-before-preserved g c =
    record {
      wrote = range_wrote (block_write (layout_of c.args.geometry) c.args.lockspace c.args.resource c.args.base) c.loop-before.before _ _ _ _ (omega arith) c.loop-before.invariant.wrote c.in_ok-write_block.ensures.ok;
      later = search rules;
    }
