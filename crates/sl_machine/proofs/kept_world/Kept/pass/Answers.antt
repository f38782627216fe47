use Rattle.sl_world_state.specs.Changes.{machine_later}
use Rattle.sl_world_state.specs.KeptWorld.{MachineState}
use Rattle.sl_world_state.specs.Refusals.{reads_past}
use Rattle.sl_machine.proofs.PassLaws.{any_numbered, map_numbered, may_pass}
use Rattle.sl_machine.proofs.kept_world.Kept.pass.Goals as goal
use Rattle.sl_machine.specs.KeptParts.{kept_state}
use Rattle.sl_machine.specs.Machines.{machine_state}
use Rattle.sl_machine.specs.ClocksGoOn.{clock_later}
use Rattle.std.proofs.Common.{List, ap, arith, map, refl, reverse, sym, ◌+◌, ◌∙◌}

pub advance-requires : goal.advance-requires
unfolding kept_state
advance-requires g c =
    let st = machine_state g.L.LockTable.locks in
    sym (any_numbered st (reads_past c.args.time c.args.growths.now) 0 c.args.self.now.machines.items)
    ∙ (may_pass (kept_state g.L.LockTable.locks c.args.self.now) c.args.time c.args.growths.now c.requires).1

pub overflow_add-self : goal.overflow_add-self
unfolding kept_state
overflow_add-self g c =
    let h = (may_pass (kept_state g.L.LockTable.locks c.args.self.now) c.args.time c.args.growths.now c.requires).0 in
    omega (arith, h)

pub returns : goal.returns
unfolding kept_state machine_state
returns g c =
    let k = c.args.self.now in
    let st = machine_state g.L.LockTable.locks in
    ap (λ (ms : List MachineState). record { header = k.disks.header; moment = k.moment + c.args.time; machines = ms; disks = k.disks.sectors; names = reverse k.names.keys })
    (ap (map st) c.advance.ensures ∙ map_numbered st (machine_later c.args.time c.args.growths.now) (clock_later c.args.time c.args.growths.now) 0 k.machines.items (λ i x. refl))
