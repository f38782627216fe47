-- Asks come to pass until none is due.
use Rattle.sl_play.proofs.LinesAndAsks.{asks_done, asks_more, some_left, unbarred}
use Rattle.sl_play.proofs.play.Play.take_asks.Goals as goal
use Rattle.sl_play.specs.Plays.{Answers, state_of}
use Rattle.sl_run.specs.declared.event.Event.TheVariants.{GiveAsk}
use Rattle.std.proofs.Common.{arith, subst, sym, ◌-◌, ◌∙◌, ◌≤◌}

pub asking-requires : goal.asking-requires
asking-requires g c =
    let a = c.loop-machine.invariant c.requires.world c.requires.machine c.requires.asks in record { world = a.world; stands_for = a.asks.stands_for }

pub overflow_sub-left : goal.overflow_sub-left
overflow_sub-left g c =
    let a = c.loop-machine.invariant c.requires.world c.requires.machine c.requires.asks in
    some_left g.D.Daemon.commands g.D.Daemon.stands (state_of g.L.LockTable.locks c.loop-machine.self) a.world c.requires.machine c.loop-machine.left c.in-Some.machine a.asks
    (sym c.in-Some.is ∙ c.asking.ensures)

pub happen-requires : goal.happen-requires
happen-requires g c =
    let a = c.loop-machine.invariant c.requires.world c.requires.machine c.requires.asks in record { world = a.world; stands_for = a.asks.stands_for }

pub loop-machine-smaller : goal.loop-machine-smaller
loop-machine-smaller g c =
    let a = c.loop-machine.invariant c.requires.world c.requires.machine c.requires.asks in
    let some : 1 ≤ c.loop-machine.left = some_left g.D.Daemon.commands g.D.Daemon.stands (state_of g.L.LockTable.locks c.loop-machine.self) a.world c.requires.machine c.loop-machine.left c.in-Some.machine a.asks
    (sym c.in-Some.is ∙ c.asking.ensures) in
    omega (arith, some)

pub loop-machine-preserved : goal.loop-machine-preserved
loop-machine-preserved g c w m x =
    asks_more g.D.Daemon.commands g.D.Daemon.stands w (state_of g.L.LockTable.locks c.args.self.now) (state_of g.L.LockTable.locks c.loop-machine.self) (state_of g.L.LockTable.locks c.happen.new.self)
    c.args.out.now.items c.loop-machine.out.items c.happen.new.out.items m c.loop-machine.left c.in-Some.machine (c.loop-machine.invariant w m x) (sym c.in-Some.is ∙ c.asking.ensures)
    (subst (Answers g.D.Daemon.commands g.D.Daemon.stands (state_of g.L.LockTable.locks c.loop-machine.self) (GiveAsk c.in-Some.machine) c.loop-machine.out.items
    (state_of g.L.LockTable.locks c.happen.new.self) c.happen.new.out.items) c.in-None.is c.in_ok-happen.ensures.ok)

pub unreachable-requires : goal.unreachable-requires
unreachable-requires g c =
    let a = c.loop-machine.invariant c.requires.world c.requires.machine c.requires.asks in
    let b = subst (Answers g.D.Daemon.commands g.D.Daemon.stands (state_of g.L.LockTable.locks c.loop-machine.self) (GiveAsk c.in-Some.machine) c.loop-machine.out.items
    (state_of g.L.LockTable.locks c.happen.new.self) c.happen.new.out.items) c.in-Some-2.is c.in_ok-happen.ensures.ok in
    unbarred g.D.Daemon.commands g.D.Daemon.stands (state_of g.L.LockTable.locks c.loop-machine.self) a.world c.requires.machine c.loop-machine.left c.in-Some.machine c.in-Some-2.field-0 a.asks
    (sym c.in-Some.is ∙ c.asking.ensures) (b.barred a.world a.asks.stands_for)

pub returns : goal.returns
returns g c w m x =
    asks_done g.D.Daemon.commands g.D.Daemon.stands w (state_of g.L.LockTable.locks c.args.self.now) (state_of g.L.LockTable.locks c.loop-machine.self) c.args.out.now.items c.loop-machine.out.items m
    c.loop-machine.left (c.loop-machine.invariant w m x) (sym c.in_default.is ∙ c.asking.ensures)
