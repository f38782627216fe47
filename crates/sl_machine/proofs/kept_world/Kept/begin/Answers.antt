use Rattle.sl_machine.proofs.KeptLaws.{changed, unchanged}
use Rattle.sl_machine.proofs.kept_world.Kept.begin.Goals as goal
use Rattle.sl_machine.specs.KeptParts.{kept_state}
use Rattle.sl_machine.specs.Machines.{machine_state}
use Rattle.sl_world_state.specs.Changes.{started_machine}
use Rattle.sl_run.specs.declared.header.Header.{Header}
use Rattle.std.proofs.Common.{ap, sym, ◌∙◌}

pub returns-in-Some-clause-exact : goal.returns-in-Some-clause-exact
unfolding kept_state
returns-in-Some-clause-exact g c =
    changed (machine_state g.L.LockTable.locks) _ _ _ _ c.args.self.now.machines.items c.len.result c.args.machine c.in-Some.index _ c.start.new.self _
    (c.len.ensures ∙ c.args.self.now.machines.ok.0) (sym c.place_of.ensures.exact ∙ c.in-Some.is) c.index_mut.ensures.value
    (c.start.ensures ∙ ap (λ (h : Header). started_machine h (machine_state g.L.LockTable.locks c.index_mut.result.now)) c.header.ensures.exact)

pub returns-in_default-clause-exact : goal.returns-in_default-clause-exact
unfolding kept_state
returns-in_default-clause-exact g c =
    unchanged (machine_state g.L.LockTable.locks) _ _ _ _ c.args.self.now.machines.items c.len.result c.args.machine _ (c.len.ensures ∙ c.args.self.now.machines.ok.0)
    (sym c.place_of.ensures.exact ∙ c.in_default.is)
