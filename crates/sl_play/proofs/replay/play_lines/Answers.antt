-- Lines are read and played one after another.
use Rattle.sl_play.specs.Plays.{state_of}
use Rattle.sl_play.proofs.LinesPlayed.{breaks_out, chokes_there, ended_out, front_of, lacks_there, line_cut, plays_then, puts_end, puts_refusal, refused_out, replays_later, stopped_out, taken_on, takes_so}
use Rattle.sl_play.proofs.replay.play_lines.Goals as goal
use Rattle.sl_play.specs.declared.replay.Played.TheVariants.{NoMemory, ReadFault, WriteFault}
use Rattle.sl_report.specs.Schedules.{NumberedLine}
use Rattle.sl_schedule.specs.Lines.{line_seen}
use Rattle.sl_reader.specs.LineReads.{Reads, line_of}
use Rattle.std.proofs.Common.{None, Some, ap, arith, subst, take}
use Rattle.std.specs.Io.KnownBytes.{Appends}
use Rattle.std.specs.Prelude.{Err}

pub returns-in-Err-Failed : goal.returns-in-Err-Failed
returns-in-Err-Failed g c h first taken x =
    let f = c.in-Err-Failed.ensures.failed (ap (λ e. Err e) c.in-Err-Failed.field-0-is) in
    replays_later g.D.Daemon.commands g.D.Daemon.stands first (g.S.Source.left c.read_line.new.source) taken (g.K.Sink.taken c.loop-sink.sink) (g.S.Source.faults c.args.source.now) (g.S.Source.faults c.loop-sink.source) (g.S.Source.faults c.read_line.new.source) (g.K.Sink.faults c.args.sink.now) (g.K.Sink.faults c.loop-sink.sink) (g.K.Sink.faults c.loop-sink.sink) ReadFault c.loop-sink.invariant.faults c.loop-sink.invariant.sink_faults
    (breaks_out g.D.Daemon.commands g.D.Daemon.stands h first (g.S.Source.left c.loop-sink.source) (g.S.Source.left c.read_line.new.source) taken (g.K.Sink.taken c.loop-sink.sink) (g.S.Source.faults c.loop-sink.source) (g.S.Source.faults c.read_line.new.source) (g.K.Sink.faults c.loop-sink.sink) (g.K.Sink.faults c.loop-sink.sink) c.loop-sink.reader (state_of g.L.LockTable.locks c.loop-sink.play) (c.loop-sink.invariant.runs h first taken x) f.0 f.1)

pub returns-in-Err-NoMemory : goal.returns-in-Err-NoMemory
returns-in-Err-NoMemory g c h first taken x =
    replays_later g.D.Daemon.commands g.D.Daemon.stands first (g.S.Source.left c.read_line.new.source) taken (g.K.Sink.taken c.loop-sink.sink) (g.S.Source.faults c.args.source.now) (g.S.Source.faults c.loop-sink.source) (g.S.Source.faults c.read_line.new.source) (g.K.Sink.faults c.args.sink.now) (g.K.Sink.faults c.loop-sink.sink) (g.K.Sink.faults c.loop-sink.sink) NoMemory c.loop-sink.invariant.faults c.loop-sink.invariant.sink_faults
    (lacks_there g.D.Daemon.commands g.D.Daemon.stands h first (g.S.Source.left c.loop-sink.source) (g.S.Source.left c.read_line.new.source) taken (g.K.Sink.taken c.loop-sink.sink) (g.S.Source.faults c.loop-sink.source) (g.S.Source.faults c.read_line.new.source) (g.K.Sink.faults c.loop-sink.sink) (g.K.Sink.faults c.loop-sink.sink) c.loop-sink.reader (state_of g.L.LockTable.locks c.loop-sink.play) (c.loop-sink.invariant.runs h first taken x) c.in-Err-NoMemory.ensures.err)

pub returns-in-Ok-End : goal.returns-in-Ok-End
returns-in-Ok-End g c h first taken x =
    replays_later g.D.Daemon.commands g.D.Daemon.stands first (g.S.Source.left c.read_line.new.source) taken (g.K.Sink.taken c.finish.new.sink) (g.S.Source.faults c.args.source.now) (g.S.Source.faults c.loop-sink.source) (g.S.Source.faults c.read_line.new.source) (g.K.Sink.faults c.args.sink.now) (g.K.Sink.faults c.loop-sink.sink) (g.K.Sink.faults c.finish.new.sink) c.finish.result c.loop-sink.invariant.faults c.loop-sink.invariant.sink_faults
    (ended_out g.D.Daemon.commands g.D.Daemon.stands h first (g.S.Source.left c.loop-sink.source) (g.S.Source.left c.read_line.new.source) taken (g.K.Sink.taken c.loop-sink.sink) (g.K.Sink.taken c.finish.new.sink) (g.S.Source.faults c.loop-sink.source) (g.S.Source.faults c.read_line.new.source) (g.K.Sink.faults c.loop-sink.sink) (g.K.Sink.faults c.finish.new.sink) c.loop-sink.reader c.read_line.new.self (state_of g.L.LockTable.locks c.loop-sink.play) c.finish.result (c.loop-sink.invariant.runs h first taken x) (subst (Reads (g.S.Source.left c.loop-sink.source) (g.S.Source.left c.read_line.new.source) c.loop-sink.reader c.read_line.new.self) c.in-Ok-End.field-0-is c.in-Ok-End.ensures.ok) c.read_line.ensures.stands (puts_end (g.K.Sink.taken c.loop-sink.sink) (g.K.Sink.taken c.finish.new.sink) (g.K.Sink.faults c.loop-sink.sink) (g.K.Sink.faults c.finish.new.sink) c.counts.result.now (state_of g.L.LockTable.locks c.loop-sink.play).counts c.finish.result c.counts.ensures c.finish.ensures))

pub returns-in-Ok-Refused : goal.returns-in-Ok-Refused
returns-in-Ok-Refused g c h first taken x =
    replays_later g.D.Daemon.commands g.D.Daemon.stands first (g.S.Source.left c.read_line.new.source) taken (g.K.Sink.taken c.refuse.new.sink) (g.S.Source.faults c.args.source.now) (g.S.Source.faults c.loop-sink.source) (g.S.Source.faults c.read_line.new.source) (g.K.Sink.faults c.args.sink.now) (g.K.Sink.faults c.loop-sink.sink) (g.K.Sink.faults c.refuse.new.sink) c.refuse.result c.loop-sink.invariant.faults c.loop-sink.invariant.sink_faults
    (refused_out g.D.Daemon.commands g.D.Daemon.stands h first (g.S.Source.left c.loop-sink.source) (g.S.Source.left c.read_line.new.source) taken (g.K.Sink.taken c.loop-sink.sink) (g.K.Sink.taken c.refuse.new.sink) (g.S.Source.faults c.loop-sink.source) (g.S.Source.faults c.read_line.new.source) (g.K.Sink.faults c.loop-sink.sink) (g.K.Sink.faults c.refuse.new.sink) c.loop-sink.reader c.read_line.new.self (state_of g.L.LockTable.locks c.loop-sink.play) c.next_number.result c.in-Ok-Refused.why c.refuse.result (c.loop-sink.invariant.runs h first taken x) (subst (Reads (g.S.Source.left c.loop-sink.source) (g.S.Source.left c.read_line.new.source) c.loop-sink.reader c.read_line.new.self) c.in-Ok-Refused.field-0-is c.in-Ok-Refused.ensures.ok) c.next_number.ensures.exact c.refuse.ensures)

pub returns-in-Err : goal.returns-in-Err
returns-in-Err g c h first taken x =
    replays_later g.D.Daemon.commands g.D.Daemon.stands first (g.S.Source.left c.read_line.new.source) taken (g.K.Sink.taken c.loop-sink.sink) (g.S.Source.faults c.args.source.now) (g.S.Source.faults c.loop-sink.source) (g.S.Source.faults c.read_line.new.source) (g.K.Sink.faults c.args.sink.now) (g.K.Sink.faults c.loop-sink.sink) (g.K.Sink.faults c.loop-sink.sink) NoMemory c.loop-sink.invariant.faults c.loop-sink.invariant.sink_faults
    (lacks_there g.D.Daemon.commands g.D.Daemon.stands h first (g.S.Source.left c.loop-sink.source) (g.S.Source.left c.read_line.new.source) taken (g.K.Sink.taken c.loop-sink.sink) (g.S.Source.faults c.loop-sink.source) (g.S.Source.faults c.read_line.new.source) (g.K.Sink.faults c.loop-sink.sink) (g.K.Sink.faults c.loop-sink.sink) c.loop-sink.reader (state_of g.L.LockTable.locks c.loop-sink.play) (c.loop-sink.invariant.runs h first taken x) (line_cut (g.S.Source.left c.loop-sink.source) (g.S.Source.left c.read_line.new.source) c.loop-sink.reader c.read_line.new.self (subst (Reads (g.S.Source.left c.loop-sink.source) (g.S.Source.left c.read_line.new.source) c.loop-sink.reader c.read_line.new.self) c.in-Ok-Line.field-0-is c.in-Ok-Line.ensures.ok)))

pub returns-in-Ok-Some : goal.returns-in-Ok-Some
returns-in-Ok-Some g c h first taken x =
    replays_later g.D.Daemon.commands g.D.Daemon.stands first (g.S.Source.left c.read_line.new.source) taken (g.K.Sink.taken c.refuse-in-Ok-Some.new.sink) (g.S.Source.faults c.args.source.now) (g.S.Source.faults c.loop-sink.source) (g.S.Source.faults c.read_line.new.source) (g.K.Sink.faults c.args.sink.now) (g.K.Sink.faults c.loop-sink.sink) (g.K.Sink.faults c.refuse-in-Ok-Some.new.sink) c.refuse-in-Ok-Some.result c.loop-sink.invariant.faults c.loop-sink.invariant.sink_faults
    (stopped_out g.D.Daemon.commands g.D.Daemon.stands h first (g.S.Source.left c.loop-sink.source) (g.S.Source.left c.read_line.new.source) taken (g.K.Sink.taken c.loop-sink.sink) (g.K.Sink.taken c.refuse-in-Ok-Some.new.sink) (g.S.Source.faults c.loop-sink.source) (g.S.Source.faults c.read_line.new.source) (g.K.Sink.faults c.loop-sink.sink) (g.K.Sink.faults c.refuse-in-Ok-Some.new.sink) c.loop-sink.reader c.read_line.new.self (state_of g.L.LockTable.locks c.loop-sink.play) (state_of g.L.LockTable.locks c.take_line.new.self) c.take_line.new.out.items c.in-Ok-Some.why c.refuse-in-Ok-Some.result (c.loop-sink.invariant.runs h first taken x) (subst (Reads (g.S.Source.left c.loop-sink.source) (g.S.Source.left c.read_line.new.source) c.loop-sink.reader c.read_line.new.self) c.in-Ok-Line.field-0-is c.in-Ok-Line.ensures.ok) c.read_line.ensures.stands
    (takes_so g.D.Daemon.commands g.D.Daemon.stands (state_of g.L.LockTable.locks c.loop-sink.play) (state_of g.L.LockTable.locks c.take_line.new.self) (line_seen c.line-line.result) (line_of c.read_line.new.self) c.clear.new.self.items c.take_line.new.out.items c.in-Ok-Some.field-0 (Some c.in-Ok-Some.why) c.line-line.ensures c.clear.ensures.items c.in-Ok-Some.field-0-is c.in-Ok-Some.ensures)
    (puts_refusal (g.K.Sink.taken c.loop-sink.sink) (g.K.Sink.taken c.refuse-in-Ok-Some.new.sink) (g.K.Sink.faults c.loop-sink.sink) (g.K.Sink.faults c.refuse-in-Ok-Some.new.sink) c.line-line.result.number c.read_line.new.self.number c.in-Ok-Some.why c.refuse-in-Ok-Some.result (ap (λ (l : NumberedLine). l.number) c.line-line.ensures) c.refuse-in-Ok-Some.ensures))

pub returns-in-Err-write_all : goal.returns-in-Err-write_all
returns-in-Err-write_all g c h first taken x =
    let f = c.in-Err-write_all.ensures.front in
    replays_later g.D.Daemon.commands g.D.Daemon.stands first (g.S.Source.left c.read_line.new.source) taken (g.K.Sink.taken c.write_all.new.sink) (g.S.Source.faults c.args.source.now) (g.S.Source.faults c.loop-sink.source) (g.S.Source.faults c.read_line.new.source) (g.K.Sink.faults c.args.sink.now) (g.K.Sink.faults c.loop-sink.sink) (g.K.Sink.faults c.write_all.new.sink) WriteFault c.loop-sink.invariant.faults c.loop-sink.invariant.sink_faults
    (chokes_there g.D.Daemon.commands g.D.Daemon.stands h first (g.S.Source.left c.loop-sink.source) (g.S.Source.left c.read_line.new.source) taken (g.K.Sink.taken c.loop-sink.sink) (g.K.Sink.taken c.write_all.new.sink) (g.S.Source.faults c.loop-sink.source) (g.S.Source.faults c.read_line.new.source) (g.K.Sink.faults c.loop-sink.sink) (g.K.Sink.faults c.write_all.new.sink) c.loop-sink.reader c.read_line.new.self (state_of g.L.LockTable.locks c.loop-sink.play) (state_of g.L.LockTable.locks c.take_line.new.self) c.take_line.new.out.items (take f.0 c.deref.result.now) (c.loop-sink.invariant.runs h first taken x) (subst (Reads (g.S.Source.left c.loop-sink.source) (g.S.Source.left c.read_line.new.source) c.loop-sink.reader c.read_line.new.self) c.in-Ok-Line.field-0-is c.in-Ok-Line.ensures.ok) c.read_line.ensures.stands
    (takes_so g.D.Daemon.commands g.D.Daemon.stands (state_of g.L.LockTable.locks c.loop-sink.play) (state_of g.L.LockTable.locks c.take_line.new.self) (line_seen c.line-line.result) (line_of c.read_line.new.self) c.clear.new.self.items c.take_line.new.out.items c.in-Ok-None.field-0 None c.line-line.ensures c.clear.ensures.items c.in-Ok-None.field-0-is c.in-Ok-None.ensures)
    f.2 (front_of c.deref.result.now c.take_line.new.out.items f.0 c.deref.ensures.value) c.in-Err-write_all.ensures.cause.failed)

pub loop-sink-preserved : goal.loop-sink-preserved
loop-sink-preserved g c =
    let goes = (takes_so g.D.Daemon.commands g.D.Daemon.stands (state_of g.L.LockTable.locks c.loop-sink.play) (state_of g.L.LockTable.locks c.take_line.new.self) (line_seen c.line-line.result) (line_of c.read_line.new.self) c.clear.new.self.items c.take_line.new.out.items c.in-Ok-None.field-0 None c.line-line.ensures c.clear.ensures.items c.in-Ok-None.field-0-is c.in-Ok-None.ensures) in
    record {
      runs = λ h first taken x. taken_on g.D.Daemon.commands g.D.Daemon.stands h first (g.S.Source.left c.loop-sink.source) (g.S.Source.left c.read_line.new.source) taken (g.K.Sink.taken c.loop-sink.sink) (g.K.Sink.taken c.write_all.new.sink) c.loop-sink.reader c.read_line.new.self (state_of g.L.LockTable.locks c.loop-sink.play) (state_of g.L.LockTable.locks c.take_line.new.self) c.take_line.new.out.items (c.loop-sink.invariant.runs h first taken x) (subst (Reads (g.S.Source.left c.loop-sink.source) (g.S.Source.left c.read_line.new.source) c.loop-sink.reader c.read_line.new.self) c.in-Ok-Line.field-0-is c.in-Ok-Line.ensures.ok) goes
          (subst (Appends (g.K.Sink.taken c.loop-sink.sink) (g.K.Sink.taken c.write_all.new.sink)) c.deref.ensures.value c.in-Ok.ensures.all);
      plays = plays_then g.D.Daemon.commands g.D.Daemon.stands (state_of g.L.LockTable.locks c.loop-sink.play) (state_of g.L.LockTable.locks c.take_line.new.self) (line_of c.read_line.new.self) c.take_line.new.out.items c.loop-sink.invariant.plays goes;
      ends = c.read_line.ensures.stands;
      faults = omega (arith, c.loop-sink.invariant.faults, c.read_line.ensures.later);
      sink_faults = omega (arith, c.loop-sink.invariant.sink_faults, c.write_all.ensures.cause.later);
    }
