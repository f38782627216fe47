use Rattle.sl_world_state.specs.Refusals as refusing
use Rattle.sl_machine.proofs.PassLaws.{any_mapped}
use Rattle.sl_machine.proofs.kept_world.Kept.is_overdue.Goals as goal
use Rattle.sl_machine.specs.KeptParts.{kept_state}
use Rattle.sl_machine.specs.Machines.{machine_state}
use Rattle.sl_machine.specs.declared.machine.Machine.{Machine}
use Rattle.std.proofs.Common.{List, ap, ap₂, sym, ℕ, ◌+◌, ◌∙◌}
use Rattle.std.specs.List.{list_any}

pub returns : goal.returns
unfolding kept_state
returns g c =
    let st = machine_state g.L.LockTable.locks in
    let m : ℕ = c.args.self.now.moment + c.args.time in
    c.some_is_overdue.ensures
    ∙ ap₂ (λ (r n : ℕ). list_any (λ a. list_any (refusing.is_overdue r n) (st a).flights) c.deref.result.now)
    (c.land-land.ensures ∙ ap (λ h. h.timing.land) c.header.ensures.exact) (ap₂ (λ a b. a + b) c.from.ensures c.from-2.ensures)
    ∙ ap (λ (ms : List (Machine g.row.L.Denot)). list_any (λ a. list_any (refusing.is_overdue c.args.self.now.disks.header.timing.land m) (st a).flights) ms) c.deref.ensures.value
    ∙ sym (any_mapped st (λ s. list_any (refusing.is_overdue c.args.self.now.disks.header.timing.land m) s.flights) c.args.self.now.machines.items)
