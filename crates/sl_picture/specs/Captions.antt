-- The caption: lines of a text that stand above a picture.
use Rattle.sl_drawing.specs.Elements.{Label, Rect, element_text, front_text, head_text, lowered_text}
use Rattle.sl_drawing.specs.Sums.{letters, plus, times}
use Rattle.sl_drawing.specs.declared.classes.Class.TheVariants as class
use Rattle.sl_drawing.specs.declared.elements.Area.{Area}
use Rattle.sl_picture.specs.Layout.{Plan}
use Rattle.std.specs.Prelude.{List, fold, length, max, slice_index_or, suc, zero, [], ℕ, ◌++◌}

-- Each line as the text of an element: all that is added to it are entities in the place of bytes that are not plain. The first so many of them.
abbrev pub line_at : List (List ℕ) → ℕ → List ℕ
line_at lines n = element_text (Label class.Plain 10 (plus (times n 14) 12) (slice_index_or lines n []))

abbrev pub lines_to : List (List ℕ) → ℕ → List ℕ
lines_to lines zero = []
lines_to lines (suc n) = lines_to lines n ++ line_at lines n

-- The whole caption.
abbrev pub caption_text : List (List ℕ) → List ℕ
caption_text lines = lines_to lines (length lines)

abbrev pub caption_height : List (List ℕ) → ℕ
caption_height lines = times (length lines) 14

abbrev pub wider_line : ℕ → List ℕ → ℕ
wider_line width line = max width (plus 20 (letters (length line)))

abbrev pub caption_width : List (List ℕ) → ℕ → ℕ
caption_width lines least = fold wider_line least lines

-- What the picture and its caption cover.
abbrev pub sheet_of : Plan → List (List ℕ) → Area
sheet_of l lines = record { x = 0; y = 0; width = caption_width lines l.width; height = plus l.height (caption_height lines) }

abbrev pub sheet_text : Area → List ℕ
sheet_text sheet = front_text sheet.width sheet.height ++ head_text ++ element_text (Rect class.Ground sheet)

-- What stands above the picture, and the front of that.
abbrev pub above_text : Plan → List (List ℕ) → List ℕ
above_text l lines = sheet_text (sheet_of l lines) ++ caption_text lines ++ lowered_text (caption_height lines)
