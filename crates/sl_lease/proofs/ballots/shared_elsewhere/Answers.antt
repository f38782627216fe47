use Rattle.sl_lease.proofs.LeftBehind.{find_end, find_hit, find_on, same_within}
use Rattle.sl_lease.proofs.ballots.shared_elsewhere.Goals as goal
use Rattle.sl_lease.specs.LeaseQuestions.{is_shared_beside}
use Rattle.std.proofs.Common.{None, arith, slice_index_or, sym, ◌∙◌}

pub loop-block-preserved : goal.loop-block-preserved
loop-block-preserved g c =
    find_on (is_shared_beside c.args.id (g.E.Evidence.over c.args.evidence.now)) c.args.read.now c.loop-block.block-index (slice_index_or c.args.read.now c.loop-block.block-index None) (omega (arith, c.loop-block-test.true)) (same_within c.args.read.now c.loop-block.block-index None (omega (arith, c.loop-block-test.true))) (sym c.if-shows_shared.ensures) ∙ c.loop-block.invariant

pub returns-then-shows_shared : goal.returns-then-shows_shared
returns-then-shows_shared g c =
    find_hit (is_shared_beside c.args.id (g.E.Evidence.over c.args.evidence.now)) c.args.read.now c.loop-block.block-index (slice_index_or c.args.read.now c.loop-block.block-index None) (omega (arith, c.loop-block-test.true)) (same_within c.args.read.now c.loop-block.block-index None (omega (arith, c.loop-block-test.true))) (sym c.if-shows_shared.ensures) ∙ c.loop-block.invariant

pub returns : goal.returns
returns g c = find_end (is_shared_beside c.args.id (g.E.Evidence.over c.args.evidence.now)) c.args.read.now c.loop-block.block-index (omega (arith, c.loop-block-test.false)) ∙ c.loop-block.invariant
