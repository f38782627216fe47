-- What an answer gives.
use Rattle.sl_reader.specs.declared.live_lines.LiveLine.{LiveLine}
use Rattle.sl_reader.specs.declared.live_lines.NoLine.{NoLine}
use Rattle.std.specs.Prelude.{Err, List, None, Ok, Option, Result, Some, [], ◌∷◌}

-- The line that it has, if it has one.
abbrev pub lines_in : Result (Option LiveLine) NoLine → List LiveLine
lines_in (Ok (Some l)) = l ∷ []
lines_in (Ok None) = []
lines_in (Err why) = []
