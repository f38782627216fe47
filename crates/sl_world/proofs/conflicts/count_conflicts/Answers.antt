use Rattle.sl_machine.specs.Machines.{machine_state}
use Rattle.sl_world.proofs.HeldThere.{counted_more}
use Rattle.sl_world.proofs.conflicts.count_conflicts.Goals as goal
use Rattle.sl_world.specs.ConflictCounts.{others_from}
use Rattle.std.proofs.Common.{arith, false, map, sym, true, ◌∙◌}

pub loop-at-preserved-then-clash : goal.loop-at-preserved-then-clash
loop-at-preserved-then-clash g c =
    let others = others_from c.args.lately.land c.args.lately.moment c.args.owner (map (machine_state g.L.LockTable.locks) c.args.machines.now) in (
      omega (arith, c.loop-at-test.true),
      omega (arith, c.loop-at.invariant.1),
      c.has_one_more-clash.ensures,
      counted_more others c.args.owner c.loop-at.at c.loop-at.count _ c.args.held.now c.loop-at-test.true true (sym c.if-clash.true ∙ c.has_one_more-clash.ensures) c.loop-at.invariant.3,
    )

pub loop-at-preserved : goal.loop-at-preserved
loop-at-preserved g c =
    let others = others_from c.args.lately.land c.args.lately.moment c.args.owner (map (machine_state g.L.LockTable.locks) c.args.machines.now) in
    let next = counted_more others c.args.owner c.loop-at.at c.loop-at.count _ c.args.held.now c.loop-at-test.true false (sym c.if-clash.false ∙ c.has_one_more-clash.ensures) c.loop-at.invariant.3 in
    (omega (arith, c.loop-at-test.true), omega (arith, c.loop-at.invariant.1), c.has_one_more-clash.ensures, omega (arith, next))
