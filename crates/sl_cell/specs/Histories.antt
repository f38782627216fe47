-- Histories: the oldest entry stands first.
use Rattle.sl_book.specs.Logs.{entries}
use Rattle.sl_book.specs.declared.signed.Signed.{Signed as SignedOf}
use Rattle.sl_trace.specs.Traces.{Trace}
use Rattle.sl_trace.specs.declared.effects.Entry.{Entry}
use Rattle.std.specs.Prelude.{List, reverse}

-- An entry, with the number of the thread that gave its input.
abbrev pub Signed : Type 0
Signed = SignedOf Entry

-- The history as a trace, in which the newest entry stands first.
abbrev pub trace_of : List Signed → Trace
trace_of h = reverse (entries h)
