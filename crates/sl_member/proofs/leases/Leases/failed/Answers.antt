use Rattle.sl_lease.specs.Changes.{after_failure}
use Rattle.sl_member.proofs.LeasesByPlace.{changed_rises, found_in, found_kept, gap_kept}
use Rattle.sl_member.proofs.leases.Leases.failed.Goals as goal
use Rattle.std.proofs.Common.{ap, refl, ◌∙◌}

pub invariant_of-self : goal.invariant_of-self
invariant_of-self c =
    let i = c.self.invariant in
    let items = c.self.inside.items.items in (
      changed_rises c.args.at.now items c.in-Ok.place c.index_mut.result.now _ i.0 (found_in c.args.at.now _ items c.in-Ok.place c.deref.ensures.value c.in-Ok.ensures.found)
          c.index_mut.ensures.value (ap (λ l. l.spot) c.failed.ensures ∙ refl),
      i.1,
    )

pub returns-in-Ok : goal.returns-in-Ok
returns-in-Ok c =
    found_kept c.args.at.now (after_failure) c.args.self.now c.deref.result.now c.self.inside.items.items c.self.inside.room c.in-Ok.place c.index_mut.result.now _ c.self.invariant.0
    c.deref.ensures.value c.in-Ok.ensures.found c.index_mut.ensures.value c.failed.ensures c.self.view_is

pub returns-in-Err : goal.returns-in-Err
returns-in-Err c =
    gap_kept c.args.at.now (after_failure) c.args.self.now c.deref.result.now c.self.inside.items.items c.self.inside.room c.in-Err.field-0 c.self.invariant.0 c.deref.ensures.value
    c.in-Err.ensures.gap c.self.view_is
