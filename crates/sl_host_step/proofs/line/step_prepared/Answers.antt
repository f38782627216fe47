use Rattle.sl_host_step.proofs.line.step_prepared.Goals as goal
use Rattle.sl_host_step.specs.StepMemory.{HasLeft}
use Rattle.sl_host_step.specs.declared.step_memory.Reach.{Reach}
use Rattle.sl_trace.specs.declared.input.Input.TheVariants.{Line}
use Rattle.std.proofs.Common.{subst}

pub take_command-requires-clause-at : goal.take_command-requires-clause-at
take_command-requires-clause-at c =
    let asked = c.requires.comes in
    (c.args.now, asked.0, c.args.host.now.kept, asked.2, c.in_ok-is_loud.ensures.at (Line asked.0) asked.1)

pub conclude-requires-clause-at : goal.conclude-requires-clause-at
conclude-requires-clause-at c =
    let asked = c.requires.comes in
    let first = c.args.host.now.kept in
    (c.args.now, Line asked.0, first, c.take_command.ensures.at c.args.now asked.0 first asked.2 (c.in_ok-is_loud.ensures.at (Line asked.0) asked.1))

pub take_command-requires-clause-left : goal.take_command-requires-clause-left
take_command-requires-clause-left c =
    let first = c.args.host.now in
    (first, subst (λ (r : Reach). HasLeft r first c.start.new.host) c.reach_of-reach.ensures c.in_ok-is_loud.ensures.left.0)

pub returns-clause-ok : goal.returns-clause-ok
returns-clause-ok c text comes says =
    let first = c.args.host.now in
    let at = c.take_command.ensures.at c.args.now text first.kept says (c.in_ok-is_loud.ensures.at (Line text) comes) in
    let left = subst (λ (r : Reach). HasLeft r first c.start.new.host) c.reach_of-reach.ensures c.in_ok-is_loud.ensures.left.0 in
    c.conclude.ensures.stepped c.args.now (Line text) first at (c.take_command.ensures.left first left)
