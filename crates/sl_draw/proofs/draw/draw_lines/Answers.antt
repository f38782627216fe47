-- Lines are read, played and drawn one after another.
use Rattle.sl_draw.proofs.Drawn.{breaks_out, draws_later, ended_out, lacks_there, refused_out, same_sink, stopped_out}
use Rattle.sl_draw.proofs.DrawnLines.{drawn_on}
use Rattle.sl_draw.proofs.draw.draw_lines.Goals as goal
use Rattle.sl_picture.specs.Page.{picture_of}
use Rattle.sl_picture.specs.Tells.{taken}
use Rattle.sl_play.proofs.LinesPlayed.{line_cut, plays_then, takes_so}
use Rattle.sl_play.specs.Plays.{state_of}
use Rattle.sl_play.specs.Replays.{Puts}
use Rattle.sl_play.specs.declared.replay.Played.TheVariants.{Done, NoMemory, ReadFault, Refused}
use Rattle.sl_reader.specs.LineReads.{Reads, line_of}
use Rattle.sl_report.specs.RefusalLines.{refusal_line}
use Rattle.sl_report.specs.Reports.{Counts, end_line}
use Rattle.sl_report.specs.Schedules.{NumberedLine}
use Rattle.sl_schedule.specs.Lines.{line_seen}
use Rattle.sl_text.specs.Forms.{as_bytes}
use Rattle.std.proofs.Common.{None, Some, [], ap, arith, subst, ◌∙◌, ◌∷◌}
use Rattle.std.specs.Prelude.{Err}

pub returns-in-Err-Failed : goal.returns-in-Err-Failed
returns-in-Err-Failed g c h first part x =
    let f = c.in-Err-Failed.ensures.failed (ap (λ e. Err e) c.in-Err-Failed.field-0-is) in
    same_sink g.D.Daemon.commands g.D.Daemon.stands part first (g.S.Source.left c.read_line.new.source) g.K.Sink.taken g.K.Sink.faults (g.S.Source.faults c.args.source.now)
    (g.S.Source.faults c.read_line.new.source) c.args.sink.now c.loop-sink.sink c.loop-sink.sink ReadFault c.loop-sink.invariant.sink
    (draws_later g.D.Daemon.commands g.D.Daemon.stands part first (g.S.Source.left c.read_line.new.source) (g.K.Sink.taken c.loop-sink.sink) (g.K.Sink.taken c.loop-sink.sink) (g.S.Source.faults c.args.source.now)
    (g.S.Source.faults c.loop-sink.source) (g.S.Source.faults c.read_line.new.source) (g.K.Sink.faults c.loop-sink.sink) (g.K.Sink.faults c.loop-sink.sink) (g.K.Sink.faults c.loop-sink.sink) ReadFault
    c.loop-sink.invariant.faults (omega arith)
    (breaks_out g.D.Daemon.commands g.D.Daemon.stands part first (g.S.Source.left c.read_line.new.source) (g.K.Sink.taken c.loop-sink.sink) (g.S.Source.faults c.loop-sink.source)
    (g.S.Source.faults c.read_line.new.source) (g.K.Sink.faults c.loop-sink.sink) (g.K.Sink.faults c.loop-sink.sink) h (g.S.Source.left c.loop-sink.source) c.loop-sink.reader
    (state_of g.L.LockTable.locks c.loop-sink.play) c.args.caption.now c.loop-sink.picture (c.loop-sink.invariant.runs h first part x) f.0 f.1))

pub returns-in-Err-NoMemory : goal.returns-in-Err-NoMemory
returns-in-Err-NoMemory g c h first part x =
    same_sink g.D.Daemon.commands g.D.Daemon.stands part first (g.S.Source.left c.read_line.new.source) g.K.Sink.taken g.K.Sink.faults (g.S.Source.faults c.args.source.now)
    (g.S.Source.faults c.read_line.new.source) c.args.sink.now c.loop-sink.sink c.loop-sink.sink NoMemory c.loop-sink.invariant.sink
    (draws_later g.D.Daemon.commands g.D.Daemon.stands part first (g.S.Source.left c.read_line.new.source) (g.K.Sink.taken c.loop-sink.sink) (g.K.Sink.taken c.loop-sink.sink) (g.S.Source.faults c.args.source.now) (g.S.Source.faults c.loop-sink.source) (g.S.Source.faults c.read_line.new.source)
    (g.K.Sink.faults c.loop-sink.sink) (g.K.Sink.faults c.loop-sink.sink) (g.K.Sink.faults c.loop-sink.sink) NoMemory c.loop-sink.invariant.faults (omega arith)
    (lacks_there g.D.Daemon.commands g.D.Daemon.stands part first (g.S.Source.left c.read_line.new.source) (g.K.Sink.taken c.loop-sink.sink) (g.S.Source.faults c.loop-sink.source) (g.S.Source.faults c.read_line.new.source) (g.K.Sink.faults c.loop-sink.sink) (g.K.Sink.faults c.loop-sink.sink)
    h (g.S.Source.left c.loop-sink.source) c.loop-sink.reader (state_of g.L.LockTable.locks c.loop-sink.play) c.args.caption.now c.loop-sink.picture (c.loop-sink.invariant.runs h first part x)
    c.in-Err-NoMemory.ensures.err))

pub returns-in-Ok-End : goal.returns-in-Ok-End
returns-in-Ok-End g c h first part x =
    same_sink g.D.Daemon.commands g.D.Daemon.stands part first (g.S.Source.left c.read_line.new.source) g.K.Sink.taken g.K.Sink.faults (g.S.Source.faults c.args.source.now)
    (g.S.Source.faults c.read_line.new.source) c.args.sink.now c.loop-sink.sink c.finish.new.sink c.finish.result c.loop-sink.invariant.sink
    (draws_later g.D.Daemon.commands g.D.Daemon.stands part first (g.S.Source.left c.read_line.new.source) (g.K.Sink.taken c.loop-sink.sink) (g.K.Sink.taken c.finish.new.sink) (g.S.Source.faults c.args.source.now) (g.S.Source.faults c.loop-sink.source) (g.S.Source.faults c.read_line.new.source)
    (g.K.Sink.faults c.loop-sink.sink) (g.K.Sink.faults c.loop-sink.sink) (g.K.Sink.faults c.finish.new.sink) c.finish.result c.loop-sink.invariant.faults (omega arith)
    (ended_out g.D.Daemon.commands g.D.Daemon.stands part first (g.S.Source.left c.read_line.new.source) (g.K.Sink.taken c.loop-sink.sink) (g.K.Sink.taken c.finish.new.sink) (g.S.Source.faults c.loop-sink.source) (g.S.Source.faults c.read_line.new.source) (g.K.Sink.faults c.loop-sink.sink) (g.K.Sink.faults c.finish.new.sink)
    h (g.S.Source.left c.loop-sink.source) c.loop-sink.reader c.read_line.new.self (state_of g.L.LockTable.locks c.loop-sink.play) c.args.caption.now c.loop-sink.picture c.finish.result (c.loop-sink.invariant.runs h first part x)
    (subst (Reads (g.S.Source.left c.loop-sink.source) (g.S.Source.left c.read_line.new.source) c.loop-sink.reader c.read_line.new.self) c.in-Ok-End.field-0-is c.in-Ok-End.ensures.ok) c.read_line.ensures.stands
    (subst (λ (k : Counts). Puts (g.K.Sink.taken c.loop-sink.sink) (g.K.Sink.taken c.finish.new.sink) (g.K.Sink.faults c.loop-sink.sink) (g.K.Sink.faults c.finish.new.sink) (picture_of c.args.caption.now c.loop-sink.picture (as_bytes (end_line k ∷ []))) Done c.finish.result) c.counts.ensures c.finish.ensures)))

pub returns-in-Ok-Refused : goal.returns-in-Ok-Refused
returns-in-Ok-Refused g c h first part x =
    same_sink g.D.Daemon.commands g.D.Daemon.stands part first (g.S.Source.left c.read_line.new.source) g.K.Sink.taken g.K.Sink.faults (g.S.Source.faults c.args.source.now)
    (g.S.Source.faults c.read_line.new.source) c.args.sink.now c.loop-sink.sink c.refuse.new.sink c.refuse.result c.loop-sink.invariant.sink
    (draws_later g.D.Daemon.commands g.D.Daemon.stands part first (g.S.Source.left c.read_line.new.source) (g.K.Sink.taken c.loop-sink.sink) (g.K.Sink.taken c.refuse.new.sink) (g.S.Source.faults c.args.source.now) (g.S.Source.faults c.loop-sink.source) (g.S.Source.faults c.read_line.new.source)
    (g.K.Sink.faults c.loop-sink.sink) (g.K.Sink.faults c.loop-sink.sink) (g.K.Sink.faults c.refuse.new.sink) c.refuse.result c.loop-sink.invariant.faults (omega arith)
    (refused_out g.D.Daemon.commands g.D.Daemon.stands part first (g.S.Source.left c.read_line.new.source) (g.K.Sink.taken c.loop-sink.sink) (g.K.Sink.taken c.refuse.new.sink) (g.S.Source.faults c.loop-sink.source) (g.S.Source.faults c.read_line.new.source) (g.K.Sink.faults c.loop-sink.sink) (g.K.Sink.faults c.refuse.new.sink)
    h (g.S.Source.left c.loop-sink.source) c.loop-sink.reader c.read_line.new.self (state_of g.L.LockTable.locks c.loop-sink.play) c.args.caption.now c.loop-sink.picture c.next_number.result c.in-Ok-Refused.why c.refuse.result (c.loop-sink.invariant.runs h first part x)
    (subst (Reads (g.S.Source.left c.loop-sink.source) (g.S.Source.left c.read_line.new.source) c.loop-sink.reader c.read_line.new.self) c.in-Ok-Refused.field-0-is c.in-Ok-Refused.ensures.ok) c.next_number.ensures.exact c.refuse.ensures))

pub returns-in-Err : goal.returns-in-Err
returns-in-Err g c h first part x =
    same_sink g.D.Daemon.commands g.D.Daemon.stands part first (g.S.Source.left c.read_line.new.source) g.K.Sink.taken g.K.Sink.faults (g.S.Source.faults c.args.source.now)
    (g.S.Source.faults c.read_line.new.source) c.args.sink.now c.loop-sink.sink c.loop-sink.sink NoMemory c.loop-sink.invariant.sink
    (draws_later g.D.Daemon.commands g.D.Daemon.stands part first (g.S.Source.left c.read_line.new.source) (g.K.Sink.taken c.loop-sink.sink) (g.K.Sink.taken c.loop-sink.sink) (g.S.Source.faults c.args.source.now) (g.S.Source.faults c.loop-sink.source) (g.S.Source.faults c.read_line.new.source)
    (g.K.Sink.faults c.loop-sink.sink) (g.K.Sink.faults c.loop-sink.sink) (g.K.Sink.faults c.loop-sink.sink) NoMemory c.loop-sink.invariant.faults (omega arith)
    (lacks_there g.D.Daemon.commands g.D.Daemon.stands part first (g.S.Source.left c.read_line.new.source) (g.K.Sink.taken c.loop-sink.sink) (g.S.Source.faults c.loop-sink.source) (g.S.Source.faults c.read_line.new.source) (g.K.Sink.faults c.loop-sink.sink) (g.K.Sink.faults c.loop-sink.sink)
    h (g.S.Source.left c.loop-sink.source) c.loop-sink.reader (state_of g.L.LockTable.locks c.loop-sink.play) c.args.caption.now c.loop-sink.picture (c.loop-sink.invariant.runs h first part x)
    (line_cut (g.S.Source.left c.loop-sink.source) (g.S.Source.left c.read_line.new.source) c.loop-sink.reader c.read_line.new.self (subst (Reads (g.S.Source.left c.loop-sink.source) (g.S.Source.left c.read_line.new.source) c.loop-sink.reader c.read_line.new.self) c.in-Ok-Line.field-0-is c.in-Ok-Line.ensures.ok))))

pub returns-in-Ok-Some : goal.returns-in-Ok-Some
returns-in-Ok-Some g c h first part x =
    same_sink g.D.Daemon.commands g.D.Daemon.stands part first (g.S.Source.left c.read_line.new.source) g.K.Sink.taken g.K.Sink.faults (g.S.Source.faults c.args.source.now)
    (g.S.Source.faults c.read_line.new.source) c.args.sink.now c.loop-sink.sink c.refuse-in-Ok-Some.new.sink c.refuse-in-Ok-Some.result c.loop-sink.invariant.sink
    (draws_later g.D.Daemon.commands g.D.Daemon.stands part first (g.S.Source.left c.read_line.new.source) (g.K.Sink.taken c.loop-sink.sink) (g.K.Sink.taken c.refuse-in-Ok-Some.new.sink) (g.S.Source.faults c.args.source.now) (g.S.Source.faults c.loop-sink.source) (g.S.Source.faults c.read_line.new.source)
    (g.K.Sink.faults c.loop-sink.sink) (g.K.Sink.faults c.loop-sink.sink) (g.K.Sink.faults c.refuse-in-Ok-Some.new.sink) c.refuse-in-Ok-Some.result c.loop-sink.invariant.faults (omega arith)
    (stopped_out g.D.Daemon.commands g.D.Daemon.stands part first (g.S.Source.left c.read_line.new.source) (g.K.Sink.taken c.loop-sink.sink) (g.K.Sink.taken c.refuse-in-Ok-Some.new.sink) (g.S.Source.faults c.loop-sink.source) (g.S.Source.faults c.read_line.new.source) (g.K.Sink.faults c.loop-sink.sink) (g.K.Sink.faults c.refuse-in-Ok-Some.new.sink)
    h (g.S.Source.left c.loop-sink.source) c.loop-sink.reader c.read_line.new.self (state_of g.L.LockTable.locks c.loop-sink.play) (state_of g.L.LockTable.locks c.take_line.new.self) c.args.caption.now c.loop-sink.picture c.take_line.new.out.items c.in-Ok-Some.why c.refuse-in-Ok-Some.result (c.loop-sink.invariant.runs h first part x)
    (subst (Reads (g.S.Source.left c.loop-sink.source) (g.S.Source.left c.read_line.new.source) c.loop-sink.reader c.read_line.new.self) c.in-Ok-Line.field-0-is c.in-Ok-Line.ensures.ok) c.read_line.ensures.stands
    (takes_so g.D.Daemon.commands g.D.Daemon.stands (state_of g.L.LockTable.locks c.loop-sink.play) (state_of g.L.LockTable.locks c.take_line.new.self) (line_seen c.line-line.result) (line_of c.read_line.new.self) c.clear.new.self.items c.take_line.new.out.items
    c.in-Ok-Some.field-0 (Some c.in-Ok-Some.why) c.line-line.ensures c.clear.ensures.items c.in-Ok-Some.field-0-is c.in-Ok-Some.ensures)
    (subst (λ n. Puts (g.K.Sink.taken c.loop-sink.sink) (g.K.Sink.taken c.refuse-in-Ok-Some.new.sink) (g.K.Sink.faults c.loop-sink.sink) (g.K.Sink.faults c.refuse-in-Ok-Some.new.sink) (picture_of c.args.caption.now c.loop-sink.picture (as_bytes (refusal_line n c.in-Ok-Some.why ∷ []))) Refused c.refuse-in-Ok-Some.result)
    (ap (λ (l : NumberedLine). l.number) c.line-line.ensures) c.refuse-in-Ok-Some.ensures)))

pub returns-in-Err-take : goal.returns-in-Err-take
returns-in-Err-take g c h first part x =
    same_sink g.D.Daemon.commands g.D.Daemon.stands part first (g.S.Source.left c.read_line.new.source) g.K.Sink.taken g.K.Sink.faults (g.S.Source.faults c.args.source.now)
    (g.S.Source.faults c.read_line.new.source) c.args.sink.now c.loop-sink.sink c.loop-sink.sink NoMemory c.loop-sink.invariant.sink
    (draws_later g.D.Daemon.commands g.D.Daemon.stands part first (g.S.Source.left c.read_line.new.source) (g.K.Sink.taken c.loop-sink.sink) (g.K.Sink.taken c.loop-sink.sink) (g.S.Source.faults c.args.source.now) (g.S.Source.faults c.loop-sink.source) (g.S.Source.faults c.read_line.new.source)
    (g.K.Sink.faults c.loop-sink.sink) (g.K.Sink.faults c.loop-sink.sink) (g.K.Sink.faults c.loop-sink.sink) NoMemory c.loop-sink.invariant.faults (omega arith)
    (lacks_there g.D.Daemon.commands g.D.Daemon.stands part first (g.S.Source.left c.read_line.new.source) (g.K.Sink.taken c.loop-sink.sink) (g.S.Source.faults c.loop-sink.source) (g.S.Source.faults c.read_line.new.source) (g.K.Sink.faults c.loop-sink.sink) (g.K.Sink.faults c.loop-sink.sink)
    h (g.S.Source.left c.loop-sink.source) c.loop-sink.reader (state_of g.L.LockTable.locks c.loop-sink.play) c.args.caption.now c.loop-sink.picture (c.loop-sink.invariant.runs h first part x)
    (line_cut (g.S.Source.left c.loop-sink.source) (g.S.Source.left c.read_line.new.source) c.loop-sink.reader c.read_line.new.self (subst (Reads (g.S.Source.left c.loop-sink.source) (g.S.Source.left c.read_line.new.source) c.loop-sink.reader c.read_line.new.self) c.in-Ok-Line.field-0-is c.in-Ok-Line.ensures.ok))))

pub loop-sink-preserved : goal.loop-sink-preserved
loop-sink-preserved g c =
    let goes = (takes_so g.D.Daemon.commands g.D.Daemon.stands (state_of g.L.LockTable.locks c.loop-sink.play) (state_of g.L.LockTable.locks c.take_line.new.self) (line_seen c.line-line.result) (line_of c.read_line.new.self) c.clear.new.self.items c.take_line.new.out.items
    c.in-Ok-None.field-0 None c.line-line.ensures c.clear.ensures.items c.in-Ok-None.field-0-is c.in-Ok-None.ensures) in
    record {
      runs = λ h first part x. drawn_on g.D.Daemon.commands g.D.Daemon.stands part h first (g.S.Source.left c.loop-sink.source) (g.S.Source.left c.read_line.new.source) c.loop-sink.reader c.read_line.new.self (state_of g.L.LockTable.locks c.loop-sink.play) (state_of g.L.LockTable.locks c.take_line.new.self) c.args.caption.now c.loop-sink.picture c.take.new.self
          c.take_line.new.out.items (c.loop-sink.invariant.runs h first part x) (subst (Reads (g.S.Source.left c.loop-sink.source) (g.S.Source.left c.read_line.new.source) c.loop-sink.reader c.read_line.new.self) c.in-Ok-Line.field-0-is c.in-Ok-Line.ensures.ok) goes
          (c.in-Ok.ensures ∙ ap (λ (l : NumberedLine). taken l.number l.text c.deref.result.now c.loop-sink.picture) c.line-line.ensures
          ∙ ap (λ told. taken c.read_line.new.self.number c.read_line.new.self.line told c.loop-sink.picture) c.deref.ensures.value);
      plays = plays_then g.D.Daemon.commands g.D.Daemon.stands (state_of g.L.LockTable.locks c.loop-sink.play) (state_of g.L.LockTable.locks c.take_line.new.self) (line_of c.read_line.new.self) c.take_line.new.out.items c.loop-sink.invariant.plays goes;
      ends = c.read_line.ensures.stands;
      sink = c.loop-sink.invariant.sink;
      faults = omega (arith, c.loop-sink.invariant.faults, c.read_line.ensures.later);
    }
