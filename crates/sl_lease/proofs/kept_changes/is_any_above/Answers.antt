use Rattle.sl_lease.proofs.LeftBehind.{any_end, any_hit, any_on, same_within}
use Rattle.sl_lease.proofs.kept_changes.is_any_above.Goals as goal
use Rattle.sl_sector.specs.declared.sector.Block.{Block}
use Rattle.std.proofs.Common.{None, arith, nat_lt, slice_index_or, sym, ◌∙◌}

pub loop-block-preserved : goal.loop-block-preserved
loop-block-preserved c =
    any_on (λ (b : Block). nat_lt c.args.n b.lver) c.args.blocks.now c.loop-block.block-index (slice_index_or c.args.blocks.now c.loop-block.block-index None) (omega (arith, c.loop-block-test.true)) (same_within c.args.blocks.now c.loop-block.block-index None (omega (arith, c.loop-block-test.true))) (sym c.if-is_above.ensures) ∙ c.loop-block.invariant

pub returns-then-is_above : goal.returns-then-is_above
returns-then-is_above c =
    any_hit (λ (b : Block). nat_lt c.args.n b.lver) c.args.blocks.now c.loop-block.block-index (slice_index_or c.args.blocks.now c.loop-block.block-index None) (omega (arith, c.loop-block-test.true)) (same_within c.args.blocks.now c.loop-block.block-index None (omega (arith, c.loop-block-test.true))) (sym c.if-is_above.ensures) ∙ c.loop-block.invariant

pub returns : goal.returns
returns c = any_end (λ (b : Block). nat_lt c.args.n b.lver) c.args.blocks.now c.loop-block.block-index (omega (arith, c.loop-block-test.false)) ∙ c.loop-block.invariant
