use Rattle.sl_machine.proofs.FlightChanges.{none_without, removed_are, removed_is}
use Rattle.sl_machine.proofs.flights.Flights.remove.Goals as goal
use Rattle.std.proofs.Common.{refl, sym}

pub invariant_of-self : goal.invariant_of-self
invariant_of-self c =
    let s = c.in-Some.ensures.found in
    record { kept = removed_are _ _ _ _ _ _ c.args.self.now.kept s c.remove_at.ensures.items }

pub returns-in-Some-clause-items : goal.returns-in-Some-clause-items
returns-in-Some-clause-items c = removed_is _ _ _ _ _ _ c.args.self.now.kept c.in-Some.ensures.found c.remove_at.ensures.items

pub returns-in_default-clause-items : goal.returns-in_default-clause-items
returns-in_default-clause-items c = sym (none_without c.args.number c.args.self.now.items.items (c.in_default.ensures.none refl))
