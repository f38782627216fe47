use Rattle.sl_live_play.proofs.LivePlayOwed.{behind, behind_cut}
use Rattle.sl_live_play.proofs.final_lines.put_behind.Goals as goal

pub returns-then-cut : goal.returns-then-cut
returns-then-cut g c taken faults pieces all put told =
    behind_cut taken (g.K.Sink.taken c.args.sink.now) faults (g.K.Sink.faults c.args.sink.now) pieces all c.args.whole (rw c.if-cut.true at put.took)

pub returns : goal.returns
returns g c taken faults pieces all put told =
    behind taken (g.K.Sink.taken c.args.sink.now) (g.K.Sink.taken c.put.new.sink) faults (g.K.Sink.faults c.args.sink.now) (g.K.Sink.faults c.put.new.sink) pieces all c.args.whole
    c.put.result put.on (rw c.if-cut.false at put.took) (c.put.ensures all told)
