-- Lines as the definitions see them.
use Rattle.sl_report.specs.Schedules.{NumberedLine}
use Rattle.sl_schedule.specs.declared.lines.Line.{Line}

-- The line, its text as bytes.
abbrev pub line_seen : Line → NumberedLine
line_seen l = record { number = l.number; start = l.start; text = l.text.now; is_past = l.is_past }
