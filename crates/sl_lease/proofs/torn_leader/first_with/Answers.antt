use Rattle.sl_lease.proofs.LeftBehind.{find_end, find_hit, find_on}
use Rattle.sl_lease.proofs.torn_leader.first_with.Goals as goal
use Rattle.sl_sector.specs.declared.sector.PairBlock.{PairBlock}
use Rattle.std.proofs.Common.{arith, sym, ◌==◌, ◌∙◌}

pub loop-pair-preserved : goal.loop-pair-preserved
loop-pair-preserved c =
    find_on (λ (p : PairBlock). p.block.lver == c.args.lver) c.args.pairs.now c.loop-pair.pair-index c.pair-item.result (omega (arith, c.loop-pair-test.true)) c.pair-item.is (sym c.if-has_lver.ensures) ∙ c.loop-pair.invariant

pub returns-then-has_lver : goal.returns-then-has_lver
returns-then-has_lver c =
    find_hit (λ (p : PairBlock). p.block.lver == c.args.lver) c.args.pairs.now c.loop-pair.pair-index c.pair-item.result (omega (arith, c.loop-pair-test.true)) c.pair-item.is (sym c.if-has_lver.ensures) ∙ c.loop-pair.invariant

pub returns : goal.returns
returns c = find_end (λ (p : PairBlock). p.block.lver == c.args.lver) c.args.pairs.now c.loop-pair.pair-index (omega (arith, c.loop-pair-test.false)) ∙ c.loop-pair.invariant
