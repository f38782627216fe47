use Rattle.sl_host.specs.BookQuestions.{state_in}
use Rattle.sl_host_law.specs.Steps.Leases.{kept_blocks, lease_at}
use Rattle.sl_host_work.proofs.LeaseNextStands.{settles, settles_fit, settles_turned}
use Rattle.sl_host_work.proofs.asked_lease.settling_next.Goals as goal
use Rattle.sl_host_work.specs.LeaseWork.{held_with}
use Rattle.std.proofs.Common.{ap, refl, ◌∙◌}

pub returns-clause-exact : goal.returns-clause-exact
returns-clause-exact c =
    settles c.args.host.now.kept c.args.member.now c.args.at.now c.side-side.result c.lease_on.result.now c.held_under-held.result c.settle.result
    (record { run = c.requires.run; side = c.side-side.ensures.exact; lease = c.lease_on.ensures; under = c.held_under-held.ensures ∙ ap (λ w. held_with w.number c.args.at.now c.args.host.now.kept.holdings) c.who.ensures }) c.requires.may c.settle.ensures.exact

pub returns-clause-fit : goal.returns-clause-fit
returns-clause-fit c = settles_fit (state_in c.args.host.now.kept) c.args.member.now.state c.args.at.now (kept_blocks (lease_at c.args.member.now.state c.args.at.now)) c.settle.result c.requires.may c.settle.ensures.fit (returns-clause-exact c)

pub returns-clause-turned : goal.returns-clause-turned
returns-clause-turned c = settles_turned c.args.host.now.kept.config.sizes (state_in c.args.host.now.kept) c.args.member.now.state c.args.at.now (kept_blocks (lease_at c.args.member.now.state c.args.at.now)) c.settle.result c.requires.may refl (returns-clause-exact c)
