use Rattle.sl_host_step.proofs.step.step_start.Goals as goal
use Rattle.sl_trace.specs.declared.input.Input.TheVariants.{Spawned}

pub take_start-requires-clause-at : goal.take_start-requires-clause-at
take_start-requires-clause-at c = (c.args.now, c.args.host.now.kept, c.in_ok-is_loud.ensures.at (Spawned c.args.process c.args.ok) c.requires.comes)

pub conclude-requires-clause-at : goal.conclude-requires-clause-at
conclude-requires-clause-at c =
    let first = c.args.host.now.kept in
    (c.args.now, (Spawned c.args.process c.args.ok), first, c.take_start.ensures.at c.args.now first (c.in_ok-is_loud.ensures.at (Spawned c.args.process c.args.ok) c.requires.comes))

pub returns-clause-ok : goal.returns-clause-ok
returns-clause-ok c =
    let first = c.args.host.now in
    let at = c.take_start.ensures.at c.args.now first.kept (c.in_ok-is_loud.ensures.at (Spawned c.args.process c.args.ok) c.requires.comes) in
    c.conclude.ensures.stepped c.args.now (Spawned c.args.process c.args.ok) first at (c.take_start.ensures.left first c.in_ok-is_loud.ensures.left.0)
