-- Both lines, a front of them, or nothing.
use Rattle.sl_generate.proofs.DrawnEvents.{made_of}
use Rattle.sl_generate.proofs.WrittenLines.{all_put, nothing_put, part_put}
use Rattle.sl_generate.proofs.generator.generate.Goals as goal

pub returns-in_default : goal.returns-in_default
returns-in_default g c =
    nothing_put g.D.Daemon.commands g.D.Daemon.stands c.args.seed c.args.hosts c.args.events c.args.paired (g.K.Sink.taken c.args.sink.now) (g.K.Sink.faults c.args.sink.now)

pub returns-in_default-both_lines : goal.returns-in_default-both_lines
returns-in_default-both_lines g c =
    nothing_put g.D.Daemon.commands g.D.Daemon.stands c.args.seed c.args.hosts c.args.events c.args.paired (g.K.Sink.taken c.args.sink.now) (g.K.Sink.faults c.args.sink.now)

pub returns-in-Ok-write_all : goal.returns-in-Ok-write_all
returns-in-Ok-write_all g c =
    all_put g.D.Daemon.commands g.D.Daemon.stands c.args.seed c.args.hosts c.args.events c.args.paired (g.K.Sink.taken c.args.sink.now) (g.K.Sink.taken c.write_all.new.sink)
    (g.K.Sink.faults c.args.sink.now) (g.K.Sink.faults c.write_all.new.sink) c.in-Ok-both_lines.text.items c.deref.result.now c.deref.ensures.value
    (made_of g.D.Daemon.commands g.D.Daemon.stands c.args.seed c.args.hosts c.args.events c.args.paired c.in-Ok.counts c.in-Ok-both_lines.text.items c.in-Ok.ensures c.in-Ok-both_lines.ensures)
    c.in-Ok-write_all.ensures.all

pub returns : goal.returns
returns g c =
    part_put g.D.Daemon.commands g.D.Daemon.stands c.args.seed c.args.hosts c.args.events c.args.paired (g.K.Sink.taken c.args.sink.now) (g.K.Sink.taken c.write_all.new.sink)
    (g.K.Sink.faults c.args.sink.now) (g.K.Sink.faults c.write_all.new.sink) c.in-Ok-both_lines.text.items c.deref.result.now c.deref.ensures.value
    (made_of g.D.Daemon.commands g.D.Daemon.stands c.args.seed c.args.hosts c.args.events c.args.paired c.in-Ok.counts c.in-Ok-both_lines.text.items c.in-Ok.ensures c.in-Ok-both_lines.ensures)
    c.in-Err.ensures.front c.in-Err.ensures.cause.failed
