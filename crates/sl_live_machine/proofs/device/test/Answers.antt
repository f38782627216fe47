use Rattle.sl_live_machine.proofs.SeatLaws.{tests_so}
use Rattle.sl_live_machine.proofs.device.test.Goals as goal

pub returns-clause-tested : goal.returns-clause-tested
returns-clause-tested g c =
    tests_so g.P.Spawner.acts g.P.Spawner.faults g.P.Spawner.running g.J.Station.setting (g.C.Clock.last c.test.new.clock) (g.V.Device.last c.args.device.now)
    (g.V.Device.last c.test.new.device) (g.V.Device.fire c.args.device.now) c.deref_mut.result.now.children c.test.new.self.children c.args.seat.now c.test.new.seat
    c.test.result c.test.ensures.ok
