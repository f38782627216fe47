use Rattle.sl_world_state.specs.KeptWorld.{MachineState}
use Rattle.sl_machine.proofs.KeptLaws.{at_set, same_set}
use Rattle.sl_machine.proofs.kept_world.Kept.reserve.Goals as goal
use Rattle.sl_machine.specs.KeptParts.{kept_state, place_in}
use Rattle.sl_machine.specs.Machines.{HasRoom, machine_state}
use Rattle.std.proofs.Common.{List, ap, reverse, sym, ◌∙◌}

pub returns-in_err-reserve-clause-same : goal.returns-in_err-reserve-clause-same
unfolding kept_state
returns-in_err-reserve-clause-same g c =
    let k = c.args.self.now in
    ap (λ (ms : List MachineState). record { header = k.disks.header; moment = k.moment; machines = ms; disks = k.disks.sectors; names = reverse k.names.keys })
    (same_set (machine_state g.L.LockTable.locks) k.machines.items c.in-Some.index _ c.reserve.new.self c.index_mut.ensures.value c.reserve.ensures.same)

pub returns-in_ok-reserve-clause-same : goal.returns-in_ok-reserve-clause-same
unfolding kept_state
returns-in_ok-reserve-clause-same g c =
    let k = c.args.self.now in
    ap (λ (ms : List MachineState). record { header = k.disks.header; moment = k.moment; machines = ms; disks = k.disks.sectors; names = reverse k.names.keys })
    (same_set (machine_state g.L.LockTable.locks) k.machines.items c.in-Some.index _ c.reserve.new.self c.index_mut.ensures.value c.reserve.ensures.same)

pub returns-in_ok-reserve-clause-room : goal.returns-in_ok-reserve-clause-room
returns-in_ok-reserve-clause-room g c =
    let k = c.args.self.now in
    record {
      at = at_set (HasRoom g.L.LockTable.has_room c.args.most.now) k.machines.items k.machines.len c.args.machine c.in-Some.index c.reserve.new.self c.reserve.new.self k.machines.ok.0
          (ap (λ n. place_in n c.args.machine) (sym c.len.ensures) ∙ sym c.place_of.ensures.exact ∙ c.in-Some.is)
          c.in_ok-reserve.ensures.room;
    }
