use Rattle.sl_member.proofs.members.leave_all.Goals as goal
use Rattle.sl_member.specs.HostMembers.{left_kept}
use Rattle.std.proofs.Common.{rules}
use Rattle.std.proofs.lemmas.List.Edits.{map_over_more}

pub loop-member-preserved : goal.loop-member-preserved
loop-member-preserved c = search (rules, map_over_more (left_kept c.args.lockspace.now c.args.begun c.args.job))
