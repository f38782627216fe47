use Rattle.sl_world_state.specs.FirstKept.{first_machine}
use Rattle.sl_machine.proofs.PlainFilled.{one_more_made}
use Rattle.sl_machine.proofs.first_world.first_machines.Goals as goal
use Rattle.sl_machine.specs.Machines.{machine_state}

pub loop-place-preserved : goal.loop-place-preserved
loop-place-preserved g c =
    one_more_made (machine_state g.L.LockTable.locks) (first_machine c.args.header.now) c.loop-place.place _ c.loop-place.machines.items c.push.new.self.items c.loop-place.invariant
    c.in_ok-push.ensures.items c.in_ok-first_machine.ensures
