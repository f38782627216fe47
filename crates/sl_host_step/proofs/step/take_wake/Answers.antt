use Rattle.sl_host_step.proofs.StepsMayCome.{moment_at_input}
use Rattle.sl_host_step.proofs.MomentsFollow.{wake_ends}
use Rattle.sl_host_step.proofs.KnownPasses.{wake_known}
use Rattle.sl_host_step.proofs.step.take_wake.Goals as goal
use Rattle.sl_trace.specs.declared.input.Input.TheVariants.{Wake}

pub wake-requires-clause-known : goal.wake-requires-clause-known
wake-requires-clause-known c =
    let at = c.requires.at in wake_known c.args.host.now.kept (moment_at_input at.0 Wake at.1 c.args.host.now.kept at.2)

pub returns-clause-at : goal.returns-clause-at
returns-clause-at c now first a = wake_ends now first c.args.host.now c.wake.new.host a c.wake.ensures.state c.wake.ensures.run
