use Rattle.sl_machine.proofs.KeptLaws.{changed, unchanged}
use Rattle.sl_machine.proofs.kept_world.Kept.test.Goals as goal
use Rattle.sl_machine.specs.KeptParts.{kept_state}
use Rattle.sl_machine.specs.Machines.{machine_state}
use Rattle.std.proofs.Common.{sym, ◌∙◌}

pub returns-in-Some : goal.returns-in-Some
unfolding kept_state
returns-in-Some g c =
    changed (machine_state g.L.LockTable.locks) _ _ _ _ c.args.self.now.machines.items c.len.result c.args.machine c.in-Some.index _ c.test.new.self _
    (c.len.ensures ∙ c.args.self.now.machines.ok.0) (sym c.place_of.ensures.exact ∙ c.in-Some.is) c.index_mut.ensures.value c.test.ensures

pub returns-in_default : goal.returns-in_default
unfolding kept_state
returns-in_default g c =
    unchanged (machine_state g.L.LockTable.locks) _ _ _ _ c.args.self.now.machines.items c.len.result c.args.machine _ (c.len.ensures ∙ c.args.self.now.machines.ok.0)
    (sym c.place_of.ensures.exact ∙ c.in_default.is)
