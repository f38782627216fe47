use Rattle.sl_member.proofs.LeasesByPlace.{called_stays, changed_rises, found_in, found_kept, gap_kept}
use Rattle.sl_member.proofs.leases.Leases.called.Goals as goal
use Rattle.sl_member.specs.Leases.{lease_called}
use Rattle.std.proofs.Common.{ap, ◌∙◌}

pub invariant_of-self : goal.invariant_of-self
invariant_of-self c =
    let i = c.self.invariant in
    let items = c.self.inside.items.items in (
      changed_rises c.args.at.now items c.in-Ok.place c.index_mut.result.now _ i.0 (found_in c.args.at.now _ items c.in-Ok.place c.deref.ensures.value c.in-Ok.ensures.found)
          c.index_mut.ensures.value (ap (λ l. l.spot) c.lease_called.ensures ∙ called_stays c.args.number c.args.work c.args.step c.args.op.now c.index_mut.result.now),
      i.1,
    )

pub returns-in-Ok : goal.returns-in-Ok
returns-in-Ok c =
    found_kept c.args.at.now (lease_called c.args.number c.args.work c.args.step c.args.op.now) c.args.self.now c.deref.result.now c.self.inside.items.items c.self.inside.room c.in-Ok.place c.index_mut.result.now _ c.self.invariant.0
    c.deref.ensures.value c.in-Ok.ensures.found c.index_mut.ensures.value c.lease_called.ensures c.self.view_is

pub returns-in-Err : goal.returns-in-Err
returns-in-Err c =
    gap_kept c.args.at.now (lease_called c.args.number c.args.work c.args.step c.args.op.now) c.args.self.now c.deref.result.now c.self.inside.items.items c.self.inside.room c.in-Err.field-0 c.self.invariant.0 c.deref.ensures.value
    c.in-Err.ensures.gap c.self.view_is
