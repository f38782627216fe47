use Rattle.sl_live_lines.specs.EventTexts.{Telling}
use Rattle.sl_live_lines.specs.LocksAlong.{AlongState}
use Rattle.sl_live_machine.proofs.printer.Printer.go_on_each.Given as goal
use Rattle.sl_live_machine.specs.Printing.{IsPrinting}
use Rattle.sl_trace.specs.declared.effects.Entry.{Entry}
use Rattle.std.proofs.Common.{List, take, ◌++◌, ◌+◌, ◌≡◌}

-- those before this one have been gone along
abbrev pub invariant-loop-index : goal.invariant-loop-index
invariant-loop-index g l = record {
  goes : (t : Telling) → (a : AlongState) → (h : List Entry) → l.machine ≡ l.fn.self.reader.by + 1 → IsPrinting t a h l.fn.self → IsPrinting t a (h ++ take l.index l.entries) l.self;
  mine : l.self.mine ≡ l.fn.self.mine;
  by : l.self.reader.by ≡ l.fn.self.reader.by;
  seat : l.self.writer.by ≡ l.fn.self.writer.by;
}
