use Rattle.sl_host.proofs.RepliesStand.{joining_in}
use Rattle.sl_host.proofs.replies.refuse_joinings.Given as goal
use Rattle.sl_host.specs.ReplyJoinings.{refused_by}
use Rattle.std.proofs.Common.{◌≡◌}
use Rattle.std.specs.List.{flat_map}

abbrev pub invariant-loop-number : goal.invariant-loop-number
invariant-loop-number l =
    (flat_map (refused_by l.unanswered.calls l.job) l.members.members ≡ flat_map (refused_by l.unanswered.calls l.job) l.fn.members.members) × (l.members.run ≡ l.fn.members.run)
    × (l.members.room ≡ l.fn.members.room) × (l.members.most ≡ l.fn.members.most)

abbrev pub decreases-loop-number : goal.decreases-loop-number
decreases-loop-number l = joining_in l.job l.members.members
