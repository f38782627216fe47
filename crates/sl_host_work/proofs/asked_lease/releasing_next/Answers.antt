use Rattle.sl_host.specs.BookQuestions.{state_in}
use Rattle.sl_host_law.specs.Steps.Leases.{kept_blocks, lease_at}
use Rattle.sl_host_work.proofs.LeaseNextStands.{releases, releases_fit, releases_turned}
use Rattle.sl_host_work.proofs.asked_lease.releasing_next.Goals as goal
use Rattle.sl_host_work.specs.LeaseWork.{held_with}
use Rattle.std.proofs.Common.{refl}

pub returns-clause-exact : goal.returns-clause-exact
returns-clause-exact c =
    releases c.args.host.now.kept c.args.member.now c.args.at.now c.side-side.result c.lease_on.result.now (held_with c.args.member.now.state.who.number c.args.at.now c.args.host.now.kept.holdings) c.release.result
    (record { run = c.requires.run; side = c.side-side.ensures.exact; lease = c.lease_on.ensures; under = refl }) c.args.ended.now c.requires.named c.release.ensures.exact

pub returns-clause-fit : goal.returns-clause-fit
returns-clause-fit c = releases_fit (state_in c.args.host.now.kept) c.args.member.now.state c.args.at.now (kept_blocks (lease_at c.args.member.now.state c.args.at.now)) c.release.result c.requires.may (c.release.ensures.fit c.requires.instance) c.args.ended.now (returns-clause-exact c)

pub returns-clause-turned : goal.returns-clause-turned
returns-clause-turned c = releases_turned c.args.host.now.kept.config.sizes (state_in c.args.host.now.kept) c.args.member.now.state c.args.at.now (kept_blocks (lease_at c.args.member.now.state c.args.at.now)) c.release.result c.requires.may c.args.ended.now refl (returns-clause-exact c)
