use Rattle.sl_host_state.specs.MadeEffects.{is_lease_on}
use Rattle.sl_member.proofs.LeasesByPlace.{found_in, found_value, gap_found, gap_in}
use Rattle.sl_member.proofs.leases.Leases.get.Goals as goal
use Rattle.std.proofs.Common.{ap, find, sym, ◌∙◌}

pub returns-in-Ok : goal.returns-in-Ok
returns-in-Ok c =
    let at = c.args.at.now in
    let items = c.self.inside.items.items in
    found_value at items c.in-Ok.place c.index.result.now (found_in at _ items c.in-Ok.place c.deref.ensures.value c.in-Ok.ensures.found) c.index.ensures
    ∙ ap (λ v. find (is_lease_on at) v.leases) c.self.view_is

pub returns-in-Err : goal.returns-in-Err
returns-in-Err c =
    let at = c.args.at.now in
    let items = c.self.inside.items.items in
    sym (gap_found at items c.in-Err.field-0 c.self.invariant.0 (gap_in at _ items c.in-Err.field-0 c.deref.ensures.value c.in-Err.ensures.gap))
    ∙ ap (λ v. find (is_lease_on at) v.leases) c.self.view_is
