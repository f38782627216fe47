use Rattle.sl_world_state.specs.KeptWorld.{FlightState}
use Rattle.sl_machine.proofs.FlightChanges.{closing}
use Rattle.sl_machine.proofs.flights.sample_at.Goals as goal
use Rattle.sl_machine.specs.Flights.{closed_at, grown_flight}
use Rattle.std.proofs.Common.{ap, flat_map, ◌∙◌}
use Rattle.std.proofs.lemmas.Option.{get_or_from_slice_get}
use Rattle.std.specs.Arc.{arc_value}

pub returns-clause-items : goal.returns-clause-items
returns-clause-items c =
    λ f there.
    closing c.args.index c.args.items.now.items _ f _ there c.close.ensures.open c.close.ensures.closed
    ∙ ap (λ (h : FlightState). closed_at c.args.index h c.args.items.now.items)
    (c.in_ok-sample.ensures.ok
    ∙ ap (grown_flight (flat_map (λ m. arc_value m) c.args.more.items) c.args.sectors)
    (c.index_mut.ensures.value ∙ get_or_from_slice_get c.args.items.now.items c.args.index f _ there))
