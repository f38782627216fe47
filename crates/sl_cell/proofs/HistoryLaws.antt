-- A history with one entry more.
use Rattle.sl_book.proofs.Givens.{entries_last}
use Rattle.sl_book.specs.Logs.{entries}
use Rattle.sl_cell.specs.Histories.{Signed, trace_of}
use Rattle.std.proofs.Common.{List, [], ap, reverse, ◌++◌, ◌∙◌, ◌∷◌, ◌≡◌}
use Rattle.std.proofs.lemmas.List.{reverse-append}

pub trace_last : (h : List Signed) (s : Signed) → trace_of (h ++ s ∷ []) ≡ s.entry ∷ trace_of h
trace_last h s = ap reverse (entries_last h s) ∙ reverse-append (entries h) (s.entry ∷ [])
