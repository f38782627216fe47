use Rattle.sl_lease.proofs.LeftBehind.{fold_end, fold_on}
use Rattle.sl_lease.proofs.TopLaws.{pairs_top}
use Rattle.sl_lease.proofs.torn_leader.greatest_lver.Goals as goal
use Rattle.sl_lease.specs.Reads.{top_of}
use Rattle.std.proofs.Common.{ap, arith, drop, fold, ◌+◌, ◌∙◌}

pub loop-pair-preserved : goal.loop-pair-preserved
loop-pair-preserved c =
    ap (λ t. fold top_of t (drop (c.loop-pair.pair-index + 1) c.args.pairs.now)) c.top_of-top.ensures
    ∙ (fold_on top_of c.loop-pair.top c.args.pairs.now c.loop-pair.pair-index c.pair-item.result (omega (arith, c.loop-pair-test.true)) c.pair-item.is ∙ c.loop-pair.invariant)

pub returns : goal.returns
returns c =
    fold_end top_of c.loop-pair.top c.args.pairs.now c.loop-pair.pair-index (omega (arith, c.loop-pair-test.false)) ∙ (c.loop-pair.invariant ∙ pairs_top c.args.pairs.now)
