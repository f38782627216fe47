use Rattle.sl_world_state.specs.KeptWorld.{FlightState}
use Rattle.sl_machine.proofs.FlightChanges.{closing}
use Rattle.sl_machine.proofs.flights.end_at.Goals as goal
use Rattle.sl_machine.specs.Flights.{closed_at, ended_flight}
use Rattle.std.proofs.Common.{ap, ◌∙◌}
use Rattle.std.proofs.lemmas.Option.{get_or_from_slice_get}

pub returns-clause-items : goal.returns-clause-items
returns-clause-items c =
    λ f there.
    closing c.args.index c.args.items.now.items _ f _ there c.close.ensures.open c.close.ensures.closed
    ∙ ap (λ (h : FlightState). closed_at c.args.index h c.args.items.now.items)
    (c.end.ensures ∙ ap (ended_flight c.args.outcome) (c.index_mut.ensures.value ∙ get_or_from_slice_get c.args.items.now.items c.args.index f _ there))
