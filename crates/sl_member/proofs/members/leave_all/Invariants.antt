use Rattle.sl_member.proofs.members.leave_all.Given as goal
use Rattle.sl_member.specs.HostMembers.{left_kept}
use Rattle.std.proofs.Common.{drop, map, take, ◌++◌, ◌≡◌}

abbrev pub invariant-loop-member : goal.invariant-loop-member
invariant-loop-member l = l.items ≡ map (left_kept l.lockspace l.begun l.job) (take l.member-index l.fn.items) ++ drop l.member-index l.fn.items
