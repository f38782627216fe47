use Rattle.sl_host_step.proofs.step.step_number.Goals as goal
use Rattle.sl_trace.specs.declared.input.Input.TheVariants.{Number}

pub take_number-requires-clause-at : goal.take_number-requires-clause-at
take_number-requires-clause-at c =
    let text = c.requires.comes.0 in
    (c.args.now, text, c.args.host.now.kept, c.in_ok-is_loud.ensures.at (Number text) c.requires.comes.1)

pub conclude-requires-clause-at : goal.conclude-requires-clause-at
conclude-requires-clause-at c =
    let text = c.requires.comes.0 in
    let first = c.args.host.now.kept in
    (c.args.now, Number text, first, c.take_number.ensures.at c.args.now text first (c.in_ok-is_loud.ensures.at (Number text) c.requires.comes.1))

pub returns-clause-ok : goal.returns-clause-ok
returns-clause-ok c text comes =
    let first = c.args.host.now in
    let at = c.take_number.ensures.at c.args.now text first.kept (c.in_ok-is_loud.ensures.at (Number text) comes) in
    c.conclude.ensures.stepped c.args.now (Number text) first at (c.take_number.ensures.left first c.in_ok-is_loud.ensures.left.0)
