use Rattle.sl_live.proofs.TurnLaws.{does_all, does_next, does_same, signalled}
use Rattle.sl_live.proofs.children.kill_all.Goals as goal
use Rattle.sl_live.specs.Turns.{kill_of}
use Rattle.sl_trace.specs.declared.effects.Signal.TheVariants.{Kill}
use Rattle.std.proofs.Common.{get_or}

pub loop-number-init : goal.loop-number-init
loop-number-init g c = does_same g.P.Spawner.acts g.P.Spawner.faults g.P.Spawner.running c.args.spawner.now

pub loop-number-preserved : goal.loop-number-preserved
loop-number-preserved g c =
    let s = c.signal.ensures in
    let process = get_or c.args.numbers.now c.loop-number.number-index 0 in
    let one = signalled g.P.Spawner.acts g.P.Spawner.faults g.P.Spawner.running c.loop-number.spawner c.signal.new.self (record { process = process; signal = Kill }) s.running s.acts s.count in
    does_next g.P.Spawner.acts g.P.Spawner.faults g.P.Spawner.running kill_of c.args.spawner.now c.loop-number.spawner c.signal.new.self c.args.numbers.now c.loop-number.number-index 0
    c.loop-number-test.true c.loop-number.invariant one

pub returns : goal.returns
returns g c =
    does_all g.P.Spawner.acts g.P.Spawner.faults g.P.Spawner.running kill_of c.args.spawner.now c.loop-number.spawner c.args.numbers.now c.loop-number.number-index c.loop-number-test.false c.loop-number.invariant
