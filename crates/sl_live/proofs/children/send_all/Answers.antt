use Rattle.sl_live.proofs.TurnLaws.{does_all, does_next, does_same, signalled}
use Rattle.sl_live.proofs.children.send_all.Goals as goal
use Rattle.sl_live.specs.Turns.{sent_by}
use Rattle.sl_trace.specs.declared.effects.Sent.{Sent}
use Rattle.sl_trace.specs.declared.effects.Signal.TheVariants.{Term}
use Rattle.std.proofs.Common.{get_or}

pub loop-sent-init : goal.loop-sent-init
loop-sent-init g c = does_same g.P.Spawner.acts g.P.Spawner.faults g.P.Spawner.running c.args.spawner.now

pub loop-sent-preserved : goal.loop-sent-preserved
loop-sent-preserved g c =
    let s = c.signal.ensures in
    let none : Sent = record { process = 0; signal = Term } in
    let sent : Sent = get_or c.args.signals.now c.loop-sent.sent-index none in
    let one = signalled g.P.Spawner.acts g.P.Spawner.faults g.P.Spawner.running c.loop-sent.spawner c.signal.new.self sent s.running s.acts s.count in
    does_next g.P.Spawner.acts g.P.Spawner.faults g.P.Spawner.running sent_by c.args.spawner.now c.loop-sent.spawner c.signal.new.self c.args.signals.now c.loop-sent.sent-index none
    c.loop-sent-test.true c.loop-sent.invariant one

pub returns : goal.returns
returns g c =
    does_all g.P.Spawner.acts g.P.Spawner.faults g.P.Spawner.running sent_by c.args.spawner.now c.loop-sent.spawner c.args.signals.now c.loop-sent.sent-index c.loop-sent-test.false c.loop-sent.invariant
