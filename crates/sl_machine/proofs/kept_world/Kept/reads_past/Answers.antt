use Rattle.sl_world_state.specs.Refusals as refusing
use Rattle.sl_machine.proofs.PassLaws.{any_numbered}
use Rattle.sl_machine.proofs.kept_world.Kept.reads_past.Goals as goal
use Rattle.sl_machine.specs.KeptParts.{kept_state}
use Rattle.sl_machine.specs.Machines.{machine_state}
use Rattle.sl_machine.specs.declared.machine.Machine.{Machine}
use Rattle.std.proofs.Common.{List, ap, sym, ◌+◌, ◌∙◌}
use Rattle.std.specs.List.{enumerate_from, list_any}

pub returns : goal.returns
unfolding kept_state
returns g c =
    let st = machine_state g.L.LockTable.locks in
    c.some_reads_past.ensures
    ∙ ap (λ (ms : List (Machine g.row.L.Denot)). list_any (λ p. refusing.reads_past c.args.time c.args.growths.now (p.0 + 1, st p.1)) (enumerate_from 0 ms)) c.deref.ensures.value
    ∙ sym (any_numbered st (refusing.reads_past c.args.time c.args.growths.now) 0 c.args.self.now.machines.items)
