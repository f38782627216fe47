use Rattle.sl_host.specs.BookQuestions.{state_in}
use Rattle.sl_host_law.specs.Steps.Leases.{kept_blocks, lease_at}
use Rattle.sl_host_work.proofs.LeaseNextStands.{writes, answers_fit, writes_turned}
use Rattle.sl_host_work.proofs.asked_lease.next_after_write.Goals as goal
use Rattle.sl_host_work.specs.LeaseWork.{held_with}
use Rattle.sl_trace.specs.declared.input.Answer.TheVariants.{Written}
use Rattle.std.proofs.Common.{ap, refl, ◌∙◌}

pub returns-clause-exact : goal.returns-clause-exact
returns-clause-exact c =
    writes c.args.host.now.kept c.args.member.now c.args.at.now c.side-side.result c.lease_on.result.now c.held_under-held.result c.after_write.result
    (record { run = c.requires.run; side = c.side-side.ensures.exact; lease = c.lease_on.ensures; under = c.held_under-held.ensures ∙ ap (λ w. held_with w.number c.args.at.now c.args.host.now.kept.holdings) c.who.ensures }) c.args.call.now c.args.aim c.args.step c.requires.may c.requires.named c.after_write.ensures.exact

pub returns-clause-fit : goal.returns-clause-fit
returns-clause-fit c = answers_fit (state_in c.args.host.now.kept) c.args.member.now.state c.args.at.now (kept_blocks (lease_at c.args.member.now.state c.args.at.now)) c.after_write.result c.requires.may (c.after_write.ensures.fit c.requires.instance) c.args.call.now c.args.aim c.args.step Written (returns-clause-exact c)

pub returns-clause-turned : goal.returns-clause-turned
returns-clause-turned c = writes_turned c.args.host.now.kept.config.sizes (state_in c.args.host.now.kept) c.args.member.now.state c.args.at.now (kept_blocks (lease_at c.args.member.now.state c.args.at.now)) c.after_write.result c.requires.may c.args.call.now c.args.aim c.args.step refl (returns-clause-exact c)
