use Rattle.sl_machine.proofs.FlightPushes.{all_kept}
use Rattle.sl_machine.proofs.flights.Flights.answer.Goals as goal
use Rattle.std.proofs.Common.{sym}

pub returns-in_default-clause-items : goal.returns-in_default-clause-items
returns-in_default-clause-items c = rw c.in_default.is (sym (all_kept c.args.self.now.items.items))
