use Rattle.sl_book.specs.Logs.{entries}
use Rattle.sl_live_lines.specs.EventTexts.{Telling}
use Rattle.sl_live_lines.specs.LocksAlong.{AlongState}
use Rattle.sl_live_machine.proofs.printer.print_replies.Given as goal
use Rattle.sl_live_machine.specs.Printing.{IsPrinting}
use Rattle.std.proofs.Common.{◌≡◌}

abbrev pub invariant-loop : goal.invariant-loop
invariant-loop g l = record {
  goes : (t : Telling) → (a : AlongState) → IsPrinting t a (entries l.fn.printer.mine) l.fn.printer → IsPrinting t a (entries l.printer.mine) l.printer;
  by : l.printer.reader.by ≡ l.fn.printer.reader.by;
  seat : l.printer.writer.by ≡ l.fn.printer.writer.by;
}
