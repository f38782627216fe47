use Rattle.sl_host.proofs.RepliesStand.{joining_in}
use Rattle.sl_host.proofs.replies.finish_joinings.Given as goal
use Rattle.sl_host.specs.ReplyJoinings.{HasClaims, joined_by}
use Rattle.std.proofs.Common.{◌≡◌}
use Rattle.std.specs.List.{flat_map}

abbrev pub invariant-loop-number : goal.invariant-loop-number
invariant-loop-number l =
    (flat_map (joined_by l.job) l.members.members ≡ flat_map (joined_by l.job) l.fn.members.members) × (l.members.run ≡ l.fn.members.run) × (l.members.room ≡ l.fn.members.room) × (l.members.most ≡ l.fn.members.most)
    × HasClaims l.job l.members.members

abbrev pub decreases-loop-number : goal.decreases-loop-number
decreases-loop-number l = joining_in l.job l.members.members
