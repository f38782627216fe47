use Rattle.sl_host_step.proofs.step.step_wake.Goals as goal
use Rattle.sl_trace.specs.declared.input.Input.TheVariants.{Wake}

pub take_wake-requires-clause-at : goal.take_wake-requires-clause-at
take_wake-requires-clause-at c = (c.args.now, c.args.host.now.kept, c.in_ok-is_loud.ensures.at Wake c.requires.comes)

pub conclude-requires-clause-at : goal.conclude-requires-clause-at
conclude-requires-clause-at c =
    let first = c.args.host.now.kept in
    (c.args.now, Wake, first, c.take_wake.ensures.at c.args.now first (c.in_ok-is_loud.ensures.at Wake c.requires.comes))

pub returns-clause-ok : goal.returns-clause-ok
returns-clause-ok c =
    let first = c.args.host.now in
    let at = c.take_wake.ensures.at c.args.now first.kept (c.in_ok-is_loud.ensures.at Wake c.requires.comes) in
    c.conclude.ensures.stepped c.args.now Wake first at (c.take_wake.ensures.left first c.in_ok-is_loud.ensures.left.0)
