-- A text is put out whole, or a front of it.
use Rattle.sl_draw.proofs.draw.put.Goals as goal
use Rattle.sl_play.proofs.LinesPlayed.{put_all, put_none, put_part}

pub returns-in-Err : goal.returns-in-Err
returns-in-Err g c all told = put_none (g.K.Sink.taken c.args.sink.now) (g.K.Sink.faults c.args.sink.now) (g.K.Sink.faults c.args.sink.now) all c.args.whole

pub returns-in-Ok-write_all : goal.returns-in-Ok-write_all
returns-in-Ok-write_all g c all told =
    put_all c.args.pushed c.in-Ok.field-0 (g.K.Sink.taken c.args.sink.now) (g.K.Sink.taken c.write_all.new.sink) (g.K.Sink.faults c.args.sink.now) (g.K.Sink.faults c.write_all.new.sink)
    c.args.text.now all c.args.whole c.in-Ok.is told c.in-Ok-write_all.ensures.all

pub returns-in-Err-write_all : goal.returns-in-Err-write_all
returns-in-Err-write_all g c all told =
    put_part c.args.pushed c.in-Ok.field-0 (g.K.Sink.taken c.args.sink.now) (g.K.Sink.taken c.write_all.new.sink) (g.K.Sink.faults c.args.sink.now) (g.K.Sink.faults c.write_all.new.sink)
    c.args.text.now all c.args.whole c.in-Ok.is told c.in-Err-write_all.ensures.front c.in-Err-write_all.ensures.cause.failed
