use Rattle.sl_host_work.proofs.LeaseNextStands.{reads}
use Rattle.sl_host_work.proofs.asked_lease.next_after_blocks.Goals as goal
use Rattle.sl_host_work.specs.LeaseWork.{held_with}
use Rattle.std.proofs.Common.{ap, ◌∙◌}

pub returns-clause-exact : goal.returns-clause-exact
returns-clause-exact c =
    reads c.args.host.now.kept c.args.member.now c.args.at.now c.side-side.result c.lease_on.result.now c.held_under-held.result c.after_read.result
    (record { run = c.requires.run; side = c.side-side.ensures.exact; lease = c.lease_on.ensures; under = c.held_under-held.ensures ∙ ap (λ w. held_with w.number c.args.at.now c.args.host.now.kept.holdings) c.who.ensures }) c.seen-seen.result c.seen-seen.ensures c.args.aim c.args.step c.args.leader.now c.args.blocks.now c.requires.may c.requires.named c.after_read.ensures.exact
