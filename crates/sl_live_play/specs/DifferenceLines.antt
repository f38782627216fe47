-- The line of a case in which records of a machine differ.
use Rattle.sl_cell.specs.declared.closing.Differ.TheVariants.{Broken, Entry}
use Rattle.sl_cell.specs.declared.closing.Differ.{Differ}
use Rattle.sl_live_run.specs.declared.compare.LiveDiffer.TheVariants.{Cell, Left, Line, Untold}
use Rattle.sl_live_run.specs.declared.compare.LiveDiffer.{LiveDiffer}
use Rattle.sl_text.specs.Forms.{spaced}
use Rattle.std.specs.Prelude.{List, codes, decimal, [], ℕ, ◌++◌, ◌∷◌}

-- The name of a case of what the threads counted and the history, and the number that it is told by: of the history's entries.
abbrev pub cell_case : Differ → List ℕ × ℕ
cell_case (Entry length_is counted) = (codes "Entry", length_is)
cell_case (Broken length_is) = (codes "Broken", length_is)

-- .. of any case. A start that is not answered is left as a call is.
abbrev pub live_case : LiveDiffer → List ℕ × ℕ
live_case (Cell d) = cell_case d
live_case (Line number) = (codes "Line", number)
live_case (Left number call) = (codes "Left", number)
live_case (Untold number process) = (codes "Left", number)

-- The line.
abbrev pub differ_text : ℕ → LiveDiffer → List ℕ
differ_text machine d =
    spaced (codes "differ" ∷ decimal machine ∷ (live_case d).0 ∷ decimal (live_case d).1 ∷ []) ++ 10 ∷ []
