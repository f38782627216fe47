-- An event with the asks behind it.
use Rattle.sl_play.proofs.LinesAndAsks.{event_stops, event_taken, is_asking, none_left}
use Rattle.sl_play.proofs.play.Play.take_event.Goals as goal
use Rattle.sl_play.specs.Plays.{Answers, state_of}
use Rattle.std.proofs.Common.{subst}

pub returns-in-Some : goal.returns-in-Some
returns-in-Some g c w s number =
    event_stops g.D.Daemon.commands g.D.Daemon.stands w (state_of g.L.LockTable.locks c.args.self.now) (state_of g.L.LockTable.locks c.happen.new.self) c.args.event number c.args.out.now.items
    c.happen.new.out.items c.in-Some.why s
    (subst (Answers g.D.Daemon.commands g.D.Daemon.stands (state_of g.L.LockTable.locks c.args.self.now) c.args.event c.args.out.now.items (state_of g.L.LockTable.locks c.happen.new.self)
    c.happen.new.out.items) c.in-Some.is c.in_ok-why.ensures.ok)

pub take_asks-requires : goal.take_asks-requires
take_asks-requires g c =
    is_asking g.D.Daemon.commands g.D.Daemon.stands (state_of g.L.LockTable.locks c.args.self.now) (state_of g.L.LockTable.locks c.happen.new.self) c.args.event c.args.out.now.items
    c.happen.new.out.items c.requires
    (subst (Answers g.D.Daemon.commands g.D.Daemon.stands (state_of g.L.LockTable.locks c.args.self.now) c.args.event c.args.out.now.items (state_of g.L.LockTable.locks c.happen.new.self)
    c.happen.new.out.items) (none_left c.in_ok-why.field-0 c.in_default.not-Some) c.in_ok-why.ensures.ok)

pub returns : goal.returns
returns g c w s number =
    event_taken g.D.Daemon.commands g.D.Daemon.stands w (state_of g.L.LockTable.locks c.args.self.now) (state_of g.L.LockTable.locks c.happen.new.self) (state_of g.L.LockTable.locks c.take_asks.new.self)
    c.args.event number c.args.out.now.items c.happen.new.out.items c.take_asks.new.out.items s
    (subst (Answers g.D.Daemon.commands g.D.Daemon.stands (state_of g.L.LockTable.locks c.args.self.now) c.args.event c.args.out.now.items (state_of g.L.LockTable.locks c.happen.new.self)
    c.happen.new.out.items) (none_left c.in_ok-why.field-0 c.in_default.not-Some) c.in_ok-why.ensures.ok)
    c.in_ok-take_asks.ensures
