use Rattle.sl_machine.proofs.FlightLaws.{found_there}
use Rattle.sl_machine.proofs.flights.Flights.get.Goals as goal
use Rattle.std.proofs.Common.{sym}

pub returns-in-Some : goal.returns-in-Some
returns-in-Some c =
    sym (found_there c.args.self.now.next c.in-Some.index c.args.number c.args.self.now.items.items _ c.args.self.now.kept.fall c.in-Some.ensures.found c.index.ensures)
