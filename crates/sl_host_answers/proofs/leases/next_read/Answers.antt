use Rattle.sl_host.specs.BookQuestions.{state_in}
use Rattle.sl_host_answers.proofs.leases.next_read.Goals as goal
use Rattle.sl_host_answers.specs.Leases.{next_on}
use Rattle.sl_host_work.proofs.TurnsStand.{turned_for}
use Rattle.sl_member.specs.HostMembers.{member_with}
use Rattle.sl_trace.specs.declared.input.Answer.TheVariants.{Read}
use Rattle.std.proofs.Common.{ap, sym, ◌∙◌}

pub member_next_read-requires-clause-known : goal.member_next_read-requires-clause-known
member_next_read-requires-clause-known c = (
  c.requires.known.0,
  c.requires.known.1 c.in-Some.member.now.state (sym (c.in-Some.ensures.exact ∙ ap (member_with c.args.call.now.session) c.members.ensures.members)),
)

pub returns-in-Some-clause-exact : goal.returns-in-Some-clause-exact
returns-in-Some-clause-exact c bytes known =
    let a = c.args in
    let found = sym (c.in-Some.ensures.exact ∙ ap (member_with a.call.now.session) c.members.ensures.members) in
    c.member_next_read.ensures.exact bytes (known c.in-Some.member.now.state found)
    ∙ ap (next_on (state_in a.host.now.kept) a.at.now a.call.now a.work.now a.step (Read bytes)) (sym found)

pub returns-in-Some-clause-turned : goal.returns-in-Some-clause-turned
returns-in-Some-clause-turned c =
    turned_for c.args.host.now.kept c.args.at.now c.args.call.now.session c.in-Some.member.now.state c.member_next_read.result
    (sym (c.in-Some.ensures.exact ∙ ap (member_with c.args.call.now.session) c.members.ensures.members)) c.member_next_read.ensures.turned
