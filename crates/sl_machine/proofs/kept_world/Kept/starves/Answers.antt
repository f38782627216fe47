use Rattle.sl_world_state.specs.Refusals as refusing
use Rattle.sl_machine.proofs.PassLaws.{any_mapped}
use Rattle.sl_machine.proofs.kept_world.Kept.starves.Goals as goal
use Rattle.sl_machine.specs.KeptParts.{kept_state}
use Rattle.sl_machine.specs.Machines.{machine_state}
use Rattle.sl_machine.specs.declared.machine.Machine.{Machine}
use Rattle.std.proofs.Common.{List, ap, ap₂, sym, ℕ, ◌+◌, ◌∙◌}
use Rattle.std.specs.List.{list_any}

pub returns : goal.returns
unfolding kept_state
returns g c =
    let st = machine_state g.L.LockTable.locks in
    let m : ℕ = c.args.self.now.moment + c.args.time in
    c.some_starves.ensures
    ∙ ap₂ (λ (r n : ℕ). list_any (λ a. refusing.starves r n (st a)) c.deref.result.now)
    (c.fire-fire.ensures ∙ ap (λ h. h.timing.fire) c.header.ensures.exact) (ap₂ (λ a b. a + b) c.from.ensures c.from-2.ensures)
    ∙ ap (λ (ms : List (Machine g.row.L.Denot)). list_any (λ a. refusing.starves c.args.self.now.disks.header.timing.fire m (st a)) ms) c.deref.ensures.value
    ∙ sym (any_mapped st (refusing.starves c.args.self.now.disks.header.timing.fire m) c.args.self.now.machines.items)
