-- The caption of a picture: the comments that stand before `begin`.
use Rattle.sl_reader.specs.HeaderBegins.{HeaderBegins, HeaderStops, lines_left}
use Rattle.sl_reader.specs.LineReads.{MayFollow, ReaderState}
use Rattle.sl_report.specs.Schedules.{NumberedLine, numbered_lines}
use Rattle.sl_run.specs.declared.event.Refusal.{Refusal}
use Rattle.sl_run.specs.declared.header.Header.{Header}
use Rattle.std.specs.Prelude.{Err, List, Ok, Option, Result, flat_map, if◌then◌else◌, [], ℕ, ◌++◌, ◌==◌, ◌∷◌, ◌≡◌}

-- The text of a line, behind its `#`, if it is a comment.
abbrev pub comment_in : List ℕ → List (List ℕ)
comment_in [] = []
comment_in (b ∷ bs) = if b == 35 then bs ∷ [] else []

-- The texts of the comments among these lines.
abbrev pub comments_of : List NumberedLine → List (List ℕ)
comments_of ls = flat_map (λ l. comment_in l.text) ls

-- Of each source that goes on behind these bytes, they have the first lines, and these are the comments of those.
pub record IsCaption (consumed : List ℕ) (r : ReaderState) (caption : List (List ℕ)) : Type 0 where
  pub above : List NumberedLine
  pub lines : (rest : List ℕ) → MayFollow r.ended rest → numbered_lines (consumed ++ rest) ≡ above ++ lines_left consumed rest r
  pub comments : caption ≡ comments_of above

-- A header was read, with this caption.
pub record TitleBegins (before after : Option (List ℕ)) (r : ReaderState) (caption : List (List ℕ)) (h : Header) : Type 0 where
  pub begins : HeaderBegins before after r h
  pub titled : IsCaption begins.consumed r caption

abbrev pub HeaderIsTitled : Option (List ℕ) → Option (List ℕ) → ReaderState → List (List ℕ) → Result Header (ℕ × Refusal) → Type 0
HeaderIsTitled before after r caption (Ok h) = TitleBegins before after r caption h
HeaderIsTitled before after r caption (Err e) = HeaderStops before after r e.0 e.1
