use Rattle.sl_machine.proofs.FlightChanges.{pushed_are}
use Rattle.sl_machine.proofs.flights.Flights.push.Goals as goal

pub invariant_of-self : goal.invariant_of-self
invariant_of-self c =
    record {
      kept = pushed_are c.args.self.now.next c.args.self.now.ordered c.stay_in_order-self.result c.args.flight c.args.self.now.items.items c.push_front_reserved.new.self.items
          c.args.self.now.kept c.requires.numbered c.requires.open c.requires.uncut c.push_front_reserved.ensures.items c.stay_in_order-self.ensures;
    }
