use Rattle.sl_world_state.specs.Changes.{disowned}
use Rattle.sl_machine.proofs.FlightChanges.{disowned_order, disowned_open, mapped_are}
use Rattle.sl_machine.proofs.flights.Flights.disown.Goals as goal
use Rattle.std.proofs.Common.{ap, map, refl, ◌∙◌}

pub invariant_of-self : goal.invariant_of-self
invariant_of-self c =
    let is = c.disown_all.ensures ∙ ap (map disowned) c.keep_writes.ensures in
    record { kept = mapped_are _ _ _ _ _ disowned c.args.self.now.kept (λ f. refl) (λ f. refl) disowned_open is (disowned_order _ _ _ _ c.args.self.now.kept is) }
