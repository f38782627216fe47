use Rattle.sl_world_state.specs.KeptWorld.{MachineState}
use Rattle.sl_machine.proofs.KeptLaws.{changed, same_set, unchanged}
use Rattle.sl_machine.proofs.kept_world.Kept.reset.Goals as goal
use Rattle.sl_machine.specs.KeptParts.{kept_state}
use Rattle.sl_machine.specs.Machines.{machine_state}
use Rattle.sl_run.specs.declared.header.Header.{Header}
use Rattle.sl_world_state.specs.Changes.{reset_machine}
use Rattle.std.proofs.Common.{Err, List, Ok, OnErr, Result, ap, reverse, sym, ◌∙◌}

-- What holds holds of an error.
err_so : {A E : Type 0} (Q : Type 0) (r : Result A E) → Q → OnErr r Q
err_so Q (Ok a) q = tt
err_so Q (Err e) q = q

pub returns-in_ok-reset-clause-ok : goal.returns-in_ok-reset-clause-ok
unfolding kept_state
returns-in_ok-reset-clause-ok g c =
    changed (machine_state g.L.LockTable.locks) _ _ _ _ c.args.self.now.machines.items c.len.result c.args.machine c.in-Some.index _ c.reset.new.self _
    (c.len.ensures ∙ c.args.self.now.machines.ok.0) (sym c.place_of.ensures.exact ∙ c.in-Some.is) c.index_mut.ensures.value
    (c.in_ok-reset.ensures.ok ∙ ap (λ (h : Header). reset_machine h c.args.self.now.moment (machine_state g.L.LockTable.locks c.index_mut.result.now)) c.header.ensures.exact)

pub returns-in_err-reset-clause-err : goal.returns-in_err-reset-clause-err
unfolding kept_state
returns-in_err-reset-clause-err g c =
    let k = c.args.self.now in
    err_so _ c.from_residual.result
    (ap (λ (ms : List MachineState). record { header = k.disks.header; moment = k.moment; machines = ms; disks = k.disks.sectors; names = reverse k.names.keys })
    (same_set (machine_state g.L.LockTable.locks) k.machines.items c.in-Some.index _ c.reset.new.self c.index_mut.ensures.value c.in_err-reset.ensures.err))

pub returns-in_default-clause-ok : goal.returns-in_default-clause-ok
unfolding kept_state
returns-in_default-clause-ok g c =
    unchanged (machine_state g.L.LockTable.locks) _ _ _ _ c.args.self.now.machines.items c.len.result c.args.machine _ (c.len.ensures ∙ c.args.self.now.machines.ok.0)
    (sym c.place_of.ensures.exact ∙ c.in_default.is)
