use Rattle.sl_host_step.proofs.line.step_misread.Goals as goal
use Rattle.sl_trace.specs.declared.input.Input.TheVariants.{Line}

pub take_misread-requires-clause-at : goal.take_misread-requires-clause-at
take_misread-requires-clause-at c =
    let asked = c.requires.comes in
    (c.args.now, asked.0, c.args.host.now.kept, c.in_ok-is_loud.ensures.at (Line asked.0) asked.1)

pub conclude-requires-clause-at : goal.conclude-requires-clause-at
conclude-requires-clause-at c =
    let asked = c.requires.comes in
    let first = c.args.host.now.kept in
    (c.args.now, Line asked.0, first, c.take_misread.ensures.at c.args.now asked.0 first asked.2 (c.in_ok-is_loud.ensures.at (Line asked.0) asked.1))

pub returns-clause-ok : goal.returns-clause-ok
returns-clause-ok c text comes says =
    let first = c.args.host.now in
    let at = c.take_misread.ensures.at c.args.now text first.kept says (c.in_ok-is_loud.ensures.at (Line text) comes) in
    c.conclude.ensures.stepped c.args.now (Line text) first at (c.take_misread.ensures.left first c.in_ok-is_loud.ensures.left.0)
