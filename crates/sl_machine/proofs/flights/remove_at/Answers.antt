use Rattle.sl_machine.proofs.FlightChanges.{remove_only}
use Rattle.sl_machine.proofs.flights.remove_at.Goals as goal
use Rattle.std.proofs.Common.{arith, length, ◌<◌, ◌≡◌, ◌∙◌}
use Rattle.std.proofs.lemmas.Bool.Decides.{nat_tests}

pub returns-then-len-eq1-clause-items : goal.returns-then-len-eq1-clause-items
returns-then-len-eq1-clause-items c =
    let long = c.args.items.now.ok.0 in
    let one : length c.args.items.now.items ≡ 1 = grind (arith, nat_tests, long) in
    let inside : c.args.index < length c.args.items.now.items = omega (arith, long) in
    c.clear.ensures.items ∙ remove_only c.args.items.now.items c.args.index one inside
