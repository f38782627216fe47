use Rattle.sl_live_machine.proofs.SeatLaws.{looks_so}
use Rattle.sl_live_machine.proofs.children.look.Goals as goal
use Rattle.std.proofs.Common.{length, rules, ◌==◌, ◌≡◌}

pub returns-in-Ok-clause-looks : goal.returns-in-Ok-clause-looks
returns-in-Ok-clause-looks g c =
    let idle : c.is_idle.result ≡ (length c.tell_exit.new.self.children.numbers == 0) = search rules in
    looks_so g.P.Spawner.acts g.P.Spawner.faults g.P.Spawner.running g.J.Station.setting (g.C.Clock.last c.tell_exit.new.clock) c.deref_mut.result.now.children
    c.tell_exit.new.self.children c.args.seat.now c.tell_exit.new.seat c.in-Ok.gone c.outcome.result c.is_idle.result idle c.outcome.ensures c.in-Ok.ensures.looks
