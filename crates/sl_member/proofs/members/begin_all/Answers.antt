use Rattle.sl_member.proofs.members.begin_all.Goals as goal
use Rattle.sl_member.specs.HostMembers.{begun_kept}
use Rattle.std.proofs.Common.{rules}
use Rattle.std.proofs.lemmas.List.Edits.{map_over_more}

pub loop-member-preserved : goal.loop-member-preserved
loop-member-preserved c = search (rules, map_over_more (begun_kept c.args.now c.args.at))
