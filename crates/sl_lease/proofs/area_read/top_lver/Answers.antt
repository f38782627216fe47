use Rattle.sl_lease.proofs.LeftBehind.{fold_end, fold_on, same_within}
use Rattle.sl_lease.proofs.TopLaws.{beside_top}
use Rattle.sl_lease.proofs.area_read.top_lver.Goals as goal
use Rattle.sl_lease.specs.LeaseQuestions.{top_beside}
use Rattle.std.proofs.Common.{None, ap, arith, drop, fold, slice_index_or, ◌+◌, ◌∙◌}

pub loop-block-preserved : goal.loop-block-preserved
loop-block-preserved c =
    ap (λ t. fold (top_beside c.args.own.now) t (drop (c.loop-block.block-index + 1) c.args.read.now)) c.top_beside-top.ensures
    ∙ (fold_on (top_beside c.args.own.now) c.loop-block.top c.args.read.now c.loop-block.block-index (slice_index_or c.args.read.now c.loop-block.block-index None) (omega (arith, c.loop-block-test.true)) (same_within c.args.read.now c.loop-block.block-index None (omega (arith, c.loop-block-test.true))) ∙ c.loop-block.invariant)

pub returns : goal.returns
returns c =
    fold_end (top_beside c.args.own.now) c.loop-block.top c.args.read.now c.loop-block.block-index (omega (arith, c.loop-block-test.false)) ∙ (c.loop-block.invariant ∙ beside_top c.args.own.now c.args.read.now)
