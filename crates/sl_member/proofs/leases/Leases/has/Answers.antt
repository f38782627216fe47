use Rattle.sl_host_state.specs.MadeEffects.{is_lease_on}
use Rattle.sl_member.proofs.LeasesByPlace.{found_in, gap_any, gap_in, there_any}
use Rattle.sl_member.proofs.leases.Leases.has.Goals as goal
use Rattle.sl_member.specs.Leases.{LeasesState}
use Rattle.std.proofs.Common.{ap, sym, ◌∙◌}
use Rattle.std.specs.List.{list_any}

pub returns-in-Ok : goal.returns-in-Ok
returns-in-Ok c =
    let at = c.args.at.now in
    let items = c.self.inside.items.items in
    let f = found_in at _ items c.in-Ok.field-0 c.deref.ensures.value c.in-Ok.ensures.found in
    sym (there_any at items c.in-Ok.field-0 f.item f.is) ∙ ap (λ (v : LeasesState). list_any (is_lease_on at) v.leases) c.self.view_is

pub returns-in-Err : goal.returns-in-Err
returns-in-Err c =
    let at = c.args.at.now in
    let items = c.self.inside.items.items in
    sym (gap_any at items c.in-Err.field-0 c.self.invariant.0 (gap_in at _ items c.in-Err.field-0 c.deref.ensures.value c.in-Err.ensures.gap))
    ∙ ap (λ (v : LeasesState). list_any (is_lease_on at) v.leases) c.self.view_is
