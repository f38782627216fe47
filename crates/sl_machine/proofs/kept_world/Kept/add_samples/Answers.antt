use Rattle.sl_world_state.specs.Changes.{change_flight}
use Rattle.sl_world_state.specs.KeptWorld.{MachineState, flight_in}
use Rattle.sl_machine.proofs.KeptLaws.{changed, same_set, somewhere, unchanged}
use Rattle.sl_machine.proofs.kept_world.Kept.add_samples.Goals as goal
use Rattle.sl_machine.specs.KeptParts.{kept_state}
use Rattle.sl_machine.specs.Machines.{machine_state}
use Rattle.std.proofs.Common.{List, ap, reverse, sym, ◌∙◌}
use Rattle.std.specs.Prelude.{option_and_then}

pub sample-requires : goal.sample-requires
unfolding kept_state
sample-requires g c =
    let st = machine_state g.L.LockTable.locks in
    let found = somewhere st c.args.self.now.machines.items c.len.result c.args.machine c.in-Some.index c.index_mut.result.now (c.len.ensures ∙ c.args.self.now.machines.ok.0)
    (sym c.place_of.ensures.exact ∙ c.in-Some.is) c.index_mut.ensures.value in
    λ f there. c.requires f (ap (option_and_then (λ s. flight_in s c.args.call)) found ∙ there)

pub returns-in-Ok-clause-ok : goal.returns-in-Ok-clause-ok
unfolding kept_state
returns-in-Ok-clause-ok g c =
    let st = machine_state g.L.LockTable.locks in
    let found = somewhere st c.args.self.now.machines.items c.len.result c.args.machine c.in-Some.index c.index_mut.result.now (c.len.ensures ∙ c.args.self.now.machines.ok.0)
    (sym c.place_of.ensures.exact ∙ c.in-Some.is) c.index_mut.ensures.value in
    λ h same.
    changed st _ _ _ _ c.args.self.now.machines.items c.len.result c.args.machine c.in-Some.index _ c.sample.new.self (change_flight c.args.call h)
    (c.len.ensures ∙ c.args.self.now.machines.ok.0) (sym c.place_of.ensures.exact ∙ c.in-Some.is) c.index_mut.ensures.value
    (c.in-Ok.ensures.ok h (λ f there. same f (ap (option_and_then (λ s. flight_in s c.args.call)) found ∙ there)))

pub returns-in-None-clause-ok : goal.returns-in-None-clause-ok
unfolding kept_state
returns-in-None-clause-ok g c =
    λ h same.
    unchanged (machine_state g.L.LockTable.locks) _ _ _ _ c.args.self.now.machines.items c.len.result c.args.machine (change_flight c.args.call h)
    (c.len.ensures ∙ c.args.self.now.machines.ok.0) (sym c.place_of.ensures.exact ∙ c.in-None.is)

pub returns-in-Err-clause-err : goal.returns-in-Err-clause-err
unfolding kept_state
returns-in-Err-clause-err g c =
    let k = c.args.self.now in
    ap (λ (ms : List MachineState). record { header = k.disks.header; moment = k.moment; machines = ms; disks = k.disks.sectors; names = reverse k.names.keys })
    (same_set (machine_state g.L.LockTable.locks) k.machines.items c.in-Some.index _ c.sample.new.self c.index_mut.ensures.value c.in-Err.ensures.err)
