use Rattle.sl_host.proofs.RepliesStand.{moments_all, moments_more}
use Rattle.sl_host.proofs.replies.lowered_by.Goals as goal
use Rattle.std.proofs.Common.{arith}

pub loop-place-preserved : goal.loop-place-preserved
loop-place-preserved c =
    moments_more c.args.timing.now c.args.job c.loop-place.place c.args.moment c.loop-place.lowest c.fail.result c.lowered_for-lowest.result c.args.members.now.members c.nth.result.now.state c.nth.ensures
    c.loop-place.invariant c.fail.ensures.exact c.lowered_for-lowest.ensures

pub returns : goal.returns
returns c =
    moments_all c.args.timing.now c.args.job c.loop-place.place c.args.moment c.loop-place.lowest c.args.members.now.members (omega (arith, c.loop-place-test.false, c.len-place-end.ensures))
    c.loop-place.invariant
