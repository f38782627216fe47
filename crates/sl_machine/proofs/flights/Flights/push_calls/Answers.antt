use Rattle.sl_world_state.specs.KeptWorld.{FlightState}
use Rattle.sl_machine.proofs.FlightPushes.{numbered_at}
use Rattle.sl_machine.proofs.flights.Flights.push_calls.Goals as goal
use Rattle.std.proofs.Common.{ap, sym, ◌∙◌}

pub made-requires-clause-sound : goal.made-requires-clause-sound
made-requires-clause-sound c = c.requires.sound _ (c.loop-call.call-index, c.loop-call-test.true, sym c.call-item.is)

pub push-requires-clause-numbered : goal.push-requires-clause-numbered
push-requires-clause-numbered c =
    ap (λ (f : FlightState). f.number) c.made.ensures
    ∙ numbered_at c.args.self.now.next c.loop-call.call-index c.args.calls.now _ c.requires.numbered c.loop-call-test.true c.call-item.is
    ∙ sym c.loop-call.invariant.next
