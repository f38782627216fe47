-- A schedule from its first line on.
use Rattle.sl_draw.proofs.Drawn.{draws_later, header_breaks, header_lacks, header_out}
use Rattle.sl_draw.proofs.draw.draw_schedule.Goals as goal
use Rattle.sl_draw.specs.Captions.{HeaderIsTitled, IsCaption}
use Rattle.sl_play.proofs.LinesPlayed.{good_header, nothing_read}
use Rattle.std.proofs.Common.{ap, arith, subst, sym, ◌≤◌}
use Rattle.std.specs.Prelude.{Err}

pub returns-in-Err : goal.returns-in-Err
returns-in-Err g c =
    header_lacks g.D.Daemon.commands g.D.Daemon.stands c.args.part (g.S.Source.left c.args.source.now) (g.S.Source.left c.args.source.now) (g.K.Sink.taken c.args.sink.now)
    (g.S.Source.faults c.args.source.now) (g.S.Source.faults c.args.source.now) (g.K.Sink.faults c.args.sink.now) (g.K.Sink.faults c.args.sink.now)
    (nothing_read (g.S.Source.left c.args.source.now))

pub returns-in-Err-Failed : goal.returns-in-Err-Failed
returns-in-Err-Failed g c =
    let f = c.in-Err-Failed.ensures.failed (ap (λ e. Err e) c.in-Err-Failed.field-0-is) in
    header_breaks g.D.Daemon.commands g.D.Daemon.stands c.args.part (g.S.Source.left c.args.source.now) (g.S.Source.left c.read_header.new.source) (g.K.Sink.taken c.args.sink.now)
    (g.S.Source.faults c.args.source.now) (g.S.Source.faults c.read_header.new.source) (g.K.Sink.faults c.args.sink.now) (g.K.Sink.faults c.args.sink.now) f.0 f.1

pub returns-in-Err-NoMemory : goal.returns-in-Err-NoMemory
returns-in-Err-NoMemory g c =
    header_lacks g.D.Daemon.commands g.D.Daemon.stands c.args.part (g.S.Source.left c.args.source.now) (g.S.Source.left c.read_header.new.source) (g.K.Sink.taken c.args.sink.now)
    (g.S.Source.faults c.args.source.now) (g.S.Source.faults c.read_header.new.source) (g.K.Sink.faults c.args.sink.now) (g.K.Sink.faults c.args.sink.now) c.in-Err-NoMemory.ensures.err

pub returns-in-Ok-Err : goal.returns-in-Ok-Err
returns-in-Ok-Err g c =
    header_out g.D.Daemon.commands g.D.Daemon.stands c.args.part (g.S.Source.left c.args.source.now) (g.S.Source.left c.read_header.new.source) (g.K.Sink.taken c.args.sink.now)
    (g.K.Sink.taken c.refuse_header.new.sink) (g.S.Source.faults c.args.source.now) (g.S.Source.faults c.read_header.new.source) (g.K.Sink.faults c.args.sink.now)
    (g.K.Sink.faults c.refuse_header.new.sink) c.read_header.new.reader c.in-Ok-Err.number c.in-Ok-Err.why c.refuse_header.result
    (subst (HeaderIsTitled (g.S.Source.left c.args.source.now) (g.S.Source.left c.read_header.new.source) c.read_header.new.reader c.read_header.new.caption.items) c.in-Ok-Err.field-0-is c.in-Ok-Err.ensures.ok)
    c.read_header.ensures.stands c.refuse_header.ensures

pub draw_header-requires-clause-header : goal.draw_header-requires-clause-header
draw_header-requires-clause-header g c =
    let b = subst (HeaderIsTitled (g.S.Source.left c.args.source.now) (g.S.Source.left c.read_header.new.source) c.read_header.new.reader c.read_header.new.caption.items) c.in-Ok-Ok.field-0-is c.in-Ok-Ok.ensures.ok in
    let good = good_header g.D.Daemon.commands c.in-Ok-Ok.header (g.S.Source.left c.args.source.now) (g.S.Source.left c.read_header.new.source) c.read_header.new.reader c.requires b.begins in
    (good, c.requires.reads c.in-Ok-Ok.header good)

pub returns : goal.returns
returns g c =
    let b = subst (HeaderIsTitled (g.S.Source.left c.args.source.now) (g.S.Source.left c.read_header.new.source) c.read_header.new.reader c.read_header.new.caption.items) c.in-Ok-Ok.field-0-is c.in-Ok-Ok.ensures.ok in
    let same : g.K.Sink.faults c.args.sink.now ≤ g.K.Sink.faults c.args.sink.now = omega arith in
    draws_later g.D.Daemon.commands g.D.Daemon.stands c.args.part (g.S.Source.left c.args.source.now) (g.S.Source.left c.draw_header.new.source) (g.K.Sink.taken c.args.sink.now)
    (g.K.Sink.taken c.draw_header.new.sink) (g.S.Source.faults c.args.source.now) (g.S.Source.faults c.read_header.new.source) (g.S.Source.faults c.draw_header.new.source)
    (g.K.Sink.faults c.args.sink.now) (g.K.Sink.faults c.args.sink.now) (g.K.Sink.faults c.draw_header.new.sink) c.draw_header.result c.read_header.ensures.later same
    (c.draw_header.ensures (g.S.Source.left c.args.source.now) b.begins (subst (IsCaption b.begins.consumed c.read_header.new.reader) (sym c.deref.ensures.value) b.titled))
