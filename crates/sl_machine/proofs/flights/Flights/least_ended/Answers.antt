use Rattle.sl_machine.proofs.FlightLaws.{fallen}
use Rattle.sl_machine.proofs.FlightOrder.{ended_oldest}
use Rattle.sl_machine.proofs.LeastCalls.{least_of_ended}
use Rattle.sl_machine.proofs.flights.Flights.least_ended.Goals as goal
use Rattle.std.proofs.Common.{◌∙◌}

pub returns-then-self : goal.returns-then-self
returns-then-self c =
    let fall = fallen c.args.self.now.next c.args.self.now.items.items c.args.self.now.kept.fall in
    c.oldest_ended.ensures
    ∙ ended_oldest c.args.self.now.next c.args.self.now.items.items fall (c.args.self.now.kept.older_first c.if-self.true)
    ∙ least_of_ended c.args.self.now.items.items
