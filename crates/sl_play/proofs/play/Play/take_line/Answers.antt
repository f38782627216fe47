-- A line that is read.
use Rattle.sl_play.proofs.LinesAndAsks.{line_answered, line_skipped}
use Rattle.sl_play.proofs.play.Play.take_line.Goals as goal
use Rattle.sl_play.specs.Plays.{state_of}
use Rattle.sl_report.specs.Languages.{whole_language}
use Rattle.sl_report.specs.Schedules.{event_line}
use Rattle.sl_schedule.specs.Lines.{line_seen}
use Rattle.std.proofs.Common.{ap, sym, ◌∙◌}

pub returns-in-Some : goal.returns-in-Some
returns-in-Some g c =
    line_answered g.D.Daemon.commands g.D.Daemon.stands (state_of g.L.LockTable.locks c.args.self.now) (state_of g.L.LockTable.locks c.take_read.new.self)
    (state_of g.L.LockTable.locks c.args.self.now).kept.header (line_seen c.args.line.now) c.in-Some.field-0-0 c.in-Some.read c.args.out.now.items c.take_read.new.out.items c.take_read.result
    (ap (λ h. event_line whole_language h (line_seen c.args.line.now)) (sym c.header.ensures) ∙ sym c.in_ok-event_line.ensures ∙ c.in-Some.is) c.take_read.ensures

pub returns-in-None : goal.returns-in-None
returns-in-None g c =
    line_skipped g.D.Daemon.commands g.D.Daemon.stands (state_of g.L.LockTable.locks c.args.self.now) (state_of g.L.LockTable.locks c.args.self.now).kept.header
    (line_seen c.args.line.now) c.args.out.now.items
    (ap (λ h. event_line whole_language h (line_seen c.args.line.now)) (sym c.header.ensures) ∙ sym c.in_ok-event_line.ensures ∙ c.in-None.is)
