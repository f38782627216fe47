use Rattle.sl_machine.specs.Machines.{machine_state}
use Rattle.sl_world.proofs.HeldThere.{next_clash, still_clash}
use Rattle.sl_world.proofs.conflicts.has_one_more.Goals as goal
use Rattle.sl_world.specs.ConflictCounts.{conflicts_with}
use Rattle.std.proofs.Common.{ap, map, take, ◌∙◌}

pub returns-then-before : goal.returns-then-before
returns-then-before g c =
    still_clash c.args.lately.land c.args.lately.moment (map (machine_state g.L.LockTable.locks) c.args.machines.now) c.args.owner c.args.at c.args.held.now c.args.before c.requires.there c.if-before.true c.requires.known

pub returns-else-before : goal.returns-else-before
returns-else-before g c =
    next_clash c.args.lately.land c.args.lately.moment (map (machine_state g.L.LockTable.locks) c.args.machines.now) c.args.owner c.args.at c.args.held.now c.args.before c.conflicts_with_any.result c.index-held-at.result
    c.requires.there c.if-before.false c.requires.known c.index-held-at.is
    (c.conflicts_with_any.ensures
    ∙ ap (conflicts_with c.args.lately.land c.args.lately.moment c.args.owner (map (machine_state g.L.LockTable.locks) c.args.machines.now) (take c.args.at c.args.held.now)) c.held.ensures)
