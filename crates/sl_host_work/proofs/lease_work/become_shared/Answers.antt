use Rattle.sl_host_law.specs.Answers.LeaseDecisions.{writing_leader}
use Rattle.sl_host_work.proofs.lease_work.become_shared.Goals as goal
use Rattle.sl_trace.specs.declared.effects.LeaseStep.TheVariants.{FreeLeader}
use Rattle.sl_trace.specs.declared.effects.Work.TheVariants.{Settling}
use Rattle.std.proofs.Common.{ap, ◌∙◌}

pub returns-clause-state : goal.returns-clause-state
returns-clause-state c read = c.write_leader.ensures.state read ∙ ap (writing_leader c.args.who.now c.args.at.now Settling FreeLeader c.args.leader) (c.converted.ensures.state read)
