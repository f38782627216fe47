use Rattle.sl_host.proofs.replies.lowered_by.Given as goal
use Rattle.sl_host.specs.ReplyJoinings.{moments_by}
use Rattle.std.proofs.Common.{fold, min, take, ◌≡◌}

abbrev pub invariant-loop-place : goal.invariant-loop-place
invariant-loop-place l = l.lowest ≡ fold (λ q now. min q now) l.fn.moment (moments_by l.timing l.job (take l.place l.members.members))
