use Rattle.sl_member.proofs.LeasesByPlace.{found_there, get_there}
use Rattle.sl_member.proofs.leases.stands_at.Goals as goal
use Rattle.std.proofs.Common.{sym, ◌∙◌}

pub returns-in-Some : goal.returns-in-Some
returns-in-Some c =
    let found = c.in-Some.ensures.lookup in
    λ on. found_there c.args.at.now c.args.leases.now c.args.place c.in-Some.lease.now c.requires
    (get_there c.args.leases.now c.args.place c.in-Some.lease.now found.3.0 found.1) (sym c.is_on.ensures ∙ on)
