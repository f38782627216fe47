use Rattle.sl_host_work.proofs.TurnsStand.{turned_for}
use Rattle.sl_host_answers.proofs.leases.next_write.Goals as goal
use Rattle.sl_member.specs.HostMembers.{member_with}
use Rattle.std.proofs.Common.{ap, sym, ◌∙◌}

pub member_next_write-requires-clause-known : goal.member_next_write-requires-clause-known
member_next_write-requires-clause-known c = c.requires.known c.in-Some.member.now.state (sym (c.in-Some.ensures.exact ∙ ap (member_with c.args.call.now.session) c.members.ensures.members))

pub returns-in-Some-clause-turned : goal.returns-in-Some-clause-turned
returns-in-Some-clause-turned c =
    turned_for c.args.host.now.kept c.args.at.now c.args.call.now.session c.in-Some.member.now.state c.member_next_write.result
    (sym (c.in-Some.ensures.exact ∙ ap (member_with c.args.call.now.session) c.members.ensures.members)) c.member_next_write.ensures.turned
