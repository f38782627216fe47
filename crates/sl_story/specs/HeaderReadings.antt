-- What is read of a header.
use Rattle.sl_report.specs.Schedules.{HeaderReading, Header_read, Header_refused, NumberedLine}
use Rattle.sl_run.specs.declared.event.Refusal.{Refusal}
use Rattle.sl_run.specs.declared.header.Header.{Header}
use Rattle.std.specs.Prelude.{Err, List, Ok, Result, ℕ}

-- What was read of a header, with the lines after it.
abbrev pub header_reading : Result Header (ℕ × Refusal) → List NumberedLine → HeaderReading
header_reading (Ok h) rest = Header_read h rest
header_reading (Err e) rest = Header_refused e.0 e.1
