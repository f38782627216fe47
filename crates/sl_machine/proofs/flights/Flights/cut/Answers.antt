use Rattle.sl_world_state.specs.Changes.{cut_flight}
use Rattle.sl_machine.proofs.FlightChanges.{cut_open, mapped_are}
use Rattle.sl_machine.proofs.flights.Flights.cut.Goals as goal
use Rattle.std.proofs.Common.{ap, map, refl, sym, ◌∙◌}

pub invariant_of-self : goal.invariant_of-self
invariant_of-self c =
    record {
      kept = mapped_are _ _ _ _ _ (cut_flight c.args.moment) c.args.self.now.kept (λ f. refl) (λ f. refl) (cut_open c.args.moment)
          (c.cut_all.ensures ∙ ap (map (cut_flight c.args.moment)) c.keep_writes.ensures) (λ h. sym c.are_in_order-self.ensures ∙ h);
    }
