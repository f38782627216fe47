use Rattle.sl_lease.proofs.LeftBehind.{fold_end, fold_on, same_within}
use Rattle.sl_lease.proofs.TopLaws.{within_top}
use Rattle.sl_lease.proofs.kept_changes.top_mbal.Goals as goal
use Rattle.sl_lease.specs.Changes.{top_within}
use Rattle.std.proofs.Common.{None, ap, arith, drop, fold, slice_index_or, ◌+◌, ◌∙◌}

pub loop-block-preserved : goal.loop-block-preserved
loop-block-preserved c =
    ap (λ t. fold (top_within c.args.n) t (drop (c.loop-block.block-index + 1) c.args.read.now)) c.top_within-top.ensures
    ∙ (fold_on (top_within c.args.n) c.loop-block.top c.args.read.now c.loop-block.block-index (slice_index_or c.args.read.now c.loop-block.block-index None) (omega (arith, c.loop-block-test.true)) (same_within c.args.read.now c.loop-block.block-index None (omega (arith, c.loop-block-test.true))) ∙ c.loop-block.invariant)

pub returns : goal.returns
returns c =
    fold_end (top_within c.args.n) c.loop-block.top c.args.read.now c.loop-block.block-index (omega (arith, c.loop-block-test.false)) ∙ (c.loop-block.invariant ∙ within_top c.args.n c.args.read.now)
