use Rattle.sl_machine.proofs.FlightOrder.{late_oldest}
use Rattle.sl_machine.proofs.flights.Flights.late.Goals as goal
use Rattle.std.proofs.Common.{◌∙◌}

pub returns-then-self : goal.returns-then-self
returns-then-self c = c.oldest_late.ensures ∙ late_oldest c.args.self.now.items.items (c.args.self.now.kept.older_first c.if-self.true)
