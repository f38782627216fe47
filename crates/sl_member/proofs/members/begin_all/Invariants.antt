use Rattle.sl_member.proofs.members.begin_all.Given as goal
use Rattle.sl_member.specs.HostMembers.{begun_kept}
use Rattle.std.proofs.Common.{drop, map, take, ◌++◌, ◌≡◌}

abbrev pub invariant-loop-member : goal.invariant-loop-member
invariant-loop-member l = l.items ≡ map (begun_kept l.now l.at) (take l.member-index l.fn.items) ++ drop l.member-index l.fn.items
