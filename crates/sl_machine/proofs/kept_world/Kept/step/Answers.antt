use Rattle.sl_machine.proofs.KeptLaws.{changed, nowhere_mapped, somewhere, unchanged}
use Rattle.sl_machine.proofs.kept_world.Kept.step.Goals as goal
use Rattle.sl_machine.specs.KeptParts.{kept_state}
use Rattle.sl_locks.specs.Steps.{lock_input}
use Rattle.sl_machine.specs.Machines.{HasTold, machine_state, stepped_by}
use Rattle.sl_run.specs.declared.header.Header.{Header}
use Rattle.sl_words.proofs.CaseLaws.{none_some, some_value}
use Rattle.std.proofs.Common.{ap, subst, sym, ◌∙◌}

pub returns-in-Some-clause-stays : goal.returns-in-Some-clause-stays
unfolding kept_state
returns-in-Some-clause-stays g c =
    changed (machine_state g.L.LockTable.locks) _ _ _ _ c.args.self.now.machines.items c.len.result c.args.machine c.in-Some.index _ c.step.new.self _
    (c.len.ensures ∙ c.args.self.now.machines.ok.0) (sym c.place_of.ensures.exact ∙ c.in-Some.is) c.index_mut.ensures.value
    (c.step.ensures.stays
    ∙ ap (λ (h : Header). stepped_by h c.args.heard (lock_input c.args.input) c.args.told.now.effects (machine_state g.L.LockTable.locks c.index_mut.result.now)) c.header.ensures.exact)

pub returns-in_default-clause-stays : goal.returns-in_default-clause-stays
unfolding kept_state
returns-in_default-clause-stays g c =
    unchanged (machine_state g.L.LockTable.locks) _ _ _ _ c.args.self.now.machines.items c.len.result c.args.machine _ (c.len.ensures ∙ c.args.self.now.machines.ok.0)
    (sym c.place_of.ensures.exact ∙ c.in_default.is)

pub returns-in-Some-clause-told : goal.returns-in-Some-clause-told
unfolding kept_state
returns-in-Some-clause-told g c s is =
    subst (λ x. HasTold c.step.new.told (lock_input c.args.input) c.args.told.now.effects x)
    (some_value (machine_state g.L.LockTable.locks c.index_mut.result.now) s
    (sym (somewhere (machine_state g.L.LockTable.locks) c.args.self.now.machines.items c.len.result c.args.machine c.in-Some.index c.index_mut.result.now
    (c.len.ensures ∙ c.args.self.now.machines.ok.0) (sym c.place_of.ensures.exact ∙ c.in-Some.is) c.index_mut.ensures.value) ∙ is))
    c.step.ensures.told

pub returns-in_default-clause-told : goal.returns-in_default-clause-told
unfolding kept_state
returns-in_default-clause-told g c s is =
    absurd (none_some s (sym (nowhere_mapped (machine_state g.L.LockTable.locks) c.args.self.now.machines.items c.len.result c.args.machine (c.len.ensures ∙ c.args.self.now.machines.ok.0)
    (sym c.place_of.ensures.exact ∙ c.in_default.is)) ∙ is))
