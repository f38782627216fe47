use Rattle.sl_machine.proofs.KeptLaws.{nowhere_mapped, somewhere}
use Rattle.sl_machine.proofs.kept_world.Kept.machine.Goals as goal
use Rattle.sl_machine.specs.KeptParts.{kept_state}
use Rattle.sl_machine.specs.Machines.{machine_state}
use Rattle.std.proofs.Common.{sym, ◌∙◌}

pub returns-in-None : goal.returns-in-None
unfolding kept_state
returns-in-None g c =
    sym (nowhere_mapped (machine_state g.L.LockTable.locks) c.args.self.now.machines.items c.len.result c.args.machine (c.len.ensures ∙ c.args.self.now.machines.ok.0)
    (sym c.place_of.ensures.exact ∙ c.in-None.is))

pub returns-in-Some : goal.returns-in-Some
unfolding kept_state
returns-in-Some g c =
    sym (somewhere (machine_state g.L.LockTable.locks) c.args.self.now.machines.items c.len.result c.args.machine c.in-Some.index _ (c.len.ensures ∙ c.args.self.now.machines.ok.0)
    (sym c.place_of.ensures.exact ∙ c.in-Some.is) c.index.ensures)
