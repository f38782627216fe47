use Rattle.sl_machine.proofs.FlightLaws.{fallen}
use Rattle.sl_machine.proofs.FlightOrder.{least_number}
use Rattle.sl_machine.proofs.flights.Flights.least.Goals as goal
use Rattle.std.proofs.Common.{◌∙◌}

pub returns : goal.returns
returns c =
    c.oldest_number.ensures
    ∙ least_number c.args.self.now.next c.args.self.now.items.items (fallen c.args.self.now.next c.args.self.now.items.items c.args.self.now.kept.fall)
