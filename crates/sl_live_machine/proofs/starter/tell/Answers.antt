use Rattle.sl_live_machine.proofs.SeatLaws.{starts_on}
use Rattle.sl_live_machine.proofs.starter.tell.Goals as goal
use Rattle.std.proofs.Common.{refl}

pub returns : goal.returns
returns g c = record {
  tells = (c.in_ok-told.told.ok, refl, (c.deref_mut.result.now.children, c.tell_start.new.self.children, c.in_ok-told.ensures.ok));
  thread = starts_on g.P.Spawner.acts g.P.Spawner.faults g.P.Spawner.running g.J.Station.setting (g.C.Clock.last c.tell_start.new.clock) c.args.process c.args.child
      c.in_ok-told.told.ok c.in_ok-told.told.effects _ _ c.args.seat.now c.tell_start.new.seat c.in_ok-told.ensures.ok;
}
