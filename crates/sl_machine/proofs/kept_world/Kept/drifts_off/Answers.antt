use Rattle.sl_world_state.specs.Refusals as refusing
use Rattle.sl_machine.proofs.PassLaws.{any_numbered}
use Rattle.sl_machine.proofs.kept_world.Kept.drifts_off.Goals as goal
use Rattle.sl_machine.specs.KeptParts.{kept_state}
use Rattle.sl_machine.specs.Machines.{machine_state}
use Rattle.sl_machine.specs.declared.machine.Machine.{Machine}
use Rattle.std.proofs.Common.{List, ap, ap₂, sym, ℕ, ◌+◌, ◌∙◌}
use Rattle.std.specs.List.{enumerate_from, list_any}

pub returns : goal.returns
unfolding kept_state
returns g c =
    let st = machine_state g.L.LockTable.locks in
    c.some_drifts_off.ensures
    ∙ ap₂ (λ (r : ℕ) (ms : List (Machine g.row.L.Denot)). list_any (λ p. refusing.drifts_off r c.args.time c.args.growths.now (p.0 + 1, st p.1)) (enumerate_from 0 ms))
    (c.rho_of.ensures.exact ∙ ap (λ h. h.timing.rho) c.header.ensures.exact) c.deref.ensures.value
    ∙ sym (any_numbered st (refusing.drifts_off c.args.self.now.disks.header.timing.rho c.args.time c.args.growths.now) 0 c.args.self.now.machines.items)
