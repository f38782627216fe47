use Rattle.sl_host.specs.BookQuestions.{state_in}
use Rattle.sl_host_law.specs.Steps.Leases.{kept_blocks, lease_at}
use Rattle.sl_host_work.proofs.LeaseNextStands.{converts, converts_fit, converts_turned}
use Rattle.sl_host_work.proofs.asked_lease.converting_next.Goals as goal
use Rattle.sl_host_work.specs.LeaseWork.{held_with}
use Rattle.std.proofs.Common.{refl}

pub returns-clause-exact : goal.returns-clause-exact
returns-clause-exact c =
    converts c.args.host.now.kept c.args.member.now c.args.at.now c.side-side.result c.lease_on.result.now (held_with c.args.member.now.state.who.number c.args.at.now c.args.host.now.kept.holdings) c.convert.result
    (record { run = c.requires.run; side = c.side-side.ensures.exact; lease = c.lease_on.ensures; under = refl }) c.args.mode c.args.name c.convert.ensures.exact

pub returns-clause-fit : goal.returns-clause-fit
returns-clause-fit c = converts_fit (state_in c.args.host.now.kept) c.args.member.now.state c.args.at.now (kept_blocks (lease_at c.args.member.now.state c.args.at.now)) c.convert.result c.requires.may c.convert.ensures.fit c.args.mode c.args.name (returns-clause-exact c)

pub returns-clause-turned : goal.returns-clause-turned
returns-clause-turned c = converts_turned c.args.host.now.kept.config.sizes (state_in c.args.host.now.kept) c.args.member.now.state c.args.at.now (kept_blocks (lease_at c.args.member.now.state c.args.at.now)) c.convert.result c.requires.may c.args.mode c.args.name refl (returns-clause-exact c)
