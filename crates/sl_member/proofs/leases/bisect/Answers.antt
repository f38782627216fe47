use Rattle.sl_member.proofs.LeasesByPlace.{found_there, get_there}
use Rattle.sl_member.proofs.leases.bisect.Goals as goal
use Rattle.sl_member.specs.Leases.{IsNotAt}
use Rattle.std.proofs.Common.{subst, sym, ◌∙◌}

pub returns-then-is_on-clause-found : goal.returns-then-is_on-clause-found
returns-then-is_on-clause-found c =
    let found = c.in-Some.ensures.lookup in
    found_there c.args.at.now c.args.leases.now c.place_of-place.result c.in-Some.lease.now c.requires
    (get_there c.args.leases.now c.place_of-place.result c.in-Some.lease.now found.3.0 found.1) (sym c.is_on.ensures ∙ c.if-is_on.true)

pub returns-then-is_on-clause-gap : goal.returns-then-is_on-clause-gap
returns-then-is_on-clause-gap c = tt

pub returns-else-is_on-clause-found : goal.returns-else-is_on-clause-found
returns-else-is_on-clause-found c = tt

pub returns-else-is_on-clause-gap : goal.returns-else-is_on-clause-gap
returns-else-is_on-clause-gap c =
    let found = c.in-Some.ensures.lookup in
    record {
      inside = c.place_of-place.ensures.bound;
      place = c.place_of-place.ensures.place;
      other = subst (IsNotAt c.args.at.now) (sym (get_there c.args.leases.now c.place_of-place.result c.in-Some.lease.now found.3.0 found.1)) (sym c.is_on.ensures ∙ c.if-is_on.false);
    }

pub returns-in-None-clause-found : goal.returns-in-None-clause-found
returns-in-None-clause-found c = tt
