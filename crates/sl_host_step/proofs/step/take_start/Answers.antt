use Rattle.sl_host_step.proofs.StepsMayCome.{moment_at_input}
use Rattle.sl_host_step.proofs.MomentsFollow.{start_ends}
use Rattle.sl_host_step.proofs.KnownPasses.{holds_once, starts_some}
use Rattle.sl_host_step.proofs.step.take_start.Goals as goal
use Rattle.sl_trace.specs.declared.input.Input.TheVariants.{Spawned}

pub spawned-requires-clause-once : goal.spawned-requires-clause-once
spawned-requires-clause-once c =
    let at = c.requires.at in
    holds_once c.args.host.now.kept c.args.process (moment_at_input at.0 (Spawned c.args.process c.args.ok) at.1 c.args.host.now.kept at.2)

pub spawned-requires-clause-some : goal.spawned-requires-clause-some
spawned-requires-clause-some c = let at = c.requires.at in starts_some at.0 c.args.process c.args.ok at.1 c.args.host.now.kept at.2

pub returns-clause-at : goal.returns-clause-at
returns-clause-at c now first a = start_ends now c.args.process c.args.ok first c.args.host.now c.spawned.new.host a c.spawned.ensures.state c.spawned.ensures.run
