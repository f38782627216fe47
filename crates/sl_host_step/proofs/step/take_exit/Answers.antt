use Rattle.sl_host_step.proofs.StepsMayCome.{moment_at_input}
use Rattle.sl_host_step.proofs.MomentsFollow.{exit_ends}
use Rattle.sl_host_step.proofs.KnownPasses.{holds_once}
use Rattle.sl_host_step.proofs.step.take_exit.Goals as goal
use Rattle.sl_trace.specs.declared.input.Input.TheVariants.{Exit}

pub exit-requires-clause-once : goal.exit-requires-clause-once
exit-requires-clause-once c =
    let at = c.requires.at in
    holds_once c.args.host.now.kept c.args.process (moment_at_input at.0 (Exit c.args.process) at.1 c.args.host.now.kept at.2)

pub returns-clause-at : goal.returns-clause-at
returns-clause-at c now first a = exit_ends now c.args.process first c.args.host.now c.exit.new.host a c.exit.ensures.state c.exit.ensures.run
