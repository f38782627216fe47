use Rattle.sl_machine.proofs.FlightChanges.{closed_are, closed_is, ended_keeps, none_with}
use Rattle.sl_machine.proofs.flights.Flights.end.Goals as goal
use Rattle.sl_machine.specs.Flights.{ended_flight}
use Rattle.std.proofs.Common.{refl, sym}

pub invariant_of-self : goal.invariant_of-self
invariant_of-self c =
    let s = c.in-Some.ensures.found in
    record {
      kept = closed_are _ _ _ _ _ _ (ended_flight c.args.outcome) c.args.self.now.kept s (ended_keeps c.args.outcome) (c.end_at.ensures.items s.flight s.there);
    }

pub returns-in-Some-clause-items : goal.returns-in-Some-clause-items
returns-in-Some-clause-items c =
    let s = c.in-Some.ensures.found in
    closed_is _ _ _ _ _ _ (ended_flight c.args.outcome) c.args.self.now.kept s (c.end_at.ensures.items s.flight s.there)

pub returns-in_default-clause-items : goal.returns-in_default-clause-items
returns-in_default-clause-items c =
    sym (none_with c.args.number (ended_flight c.args.outcome) c.args.self.now.items.items (c.in_default.ensures.none refl) c.args.self.now.kept.open_)
