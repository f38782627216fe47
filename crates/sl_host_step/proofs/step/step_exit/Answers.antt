use Rattle.sl_host_step.proofs.step.step_exit.Goals as goal
use Rattle.sl_trace.specs.declared.input.Input.TheVariants.{Exit}

pub take_exit-requires-clause-at : goal.take_exit-requires-clause-at
take_exit-requires-clause-at c = (c.args.now, c.args.host.now.kept, c.in_ok-is_loud.ensures.at (Exit c.args.process) c.requires.comes)

pub conclude-requires-clause-at : goal.conclude-requires-clause-at
conclude-requires-clause-at c =
    let first = c.args.host.now.kept in
    (c.args.now, (Exit c.args.process), first, c.take_exit.ensures.at c.args.now first (c.in_ok-is_loud.ensures.at (Exit c.args.process) c.requires.comes))

pub returns-clause-ok : goal.returns-clause-ok
returns-clause-ok c =
    let first = c.args.host.now in
    let at = c.take_exit.ensures.at c.args.now first.kept (c.in_ok-is_loud.ensures.at (Exit c.args.process) c.requires.comes) in
    c.conclude.ensures.stepped c.args.now (Exit c.args.process) first at (c.take_exit.ensures.left first c.in_ok-is_loud.ensures.left.0)
