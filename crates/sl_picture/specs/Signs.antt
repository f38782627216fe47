-- The signs, the events and the comments of a picture, as text.
use Rattle.sl_drawing.specs.Elements.{Label, Rect, Sign as Shown, Titled, element_text}
use Rattle.sl_drawing.specs.Sums.{letters, minus, plus, times}
use Rattle.sl_drawing.specs.declared.classes.Class.TheVariants as class
use Rattle.sl_drawing.specs.declared.classes.Class.{Class}
use Rattle.sl_drawing.specs.declared.classes.Symbol.TheVariants as symbol
use Rattle.sl_drawing.specs.declared.classes.Symbol.{Symbol}
use Rattle.sl_drawing.specs.declared.elements.Area.{Area}
use Rattle.sl_picture.specs.Bars.{Row}
use Rattle.sl_picture.specs.Kept.{Kept, text_at}
use Rattle.sl_picture.specs.Layout.{Plan, bottom_of, calls_top, held_top, links_top, place_of, x_of}
use Rattle.sl_picture.specs.Fates.{no_text}
use Rattle.sl_picture.specs.declared.layout.Place.{Place}
use Rattle.sl_picture.specs.declared.shapes.Column.{Column}
use Rattle.sl_picture.specs.declared.shapes.Mark.{Mark}
use Rattle.sl_picture.specs.declared.shapes.Note.{Note}
use Rattle.sl_picture.specs.declared.shapes.Sign.TheVariants as sign
use Rattle.sl_picture.specs.declared.shapes.Sign.{Sign}
use Rattle.std.specs.Prelude.{Bool, List, codes, decimal, flat_map, if◌then◌else◌, length, nat_lt, slice_index_or, suc, zero, [], ℕ, ◌++◌, ◌+◌, ◌∷◌}

abbrev pub line_text : Place → Class → ℕ → List ℕ → List ℕ
line_text p c x word =
    element_text (Rect c (record { x = x; y = p.top; width = 3; height = minus (bottom_of p) p.top })) ++ element_text (Label class.Bad (plus x 5) (plus (links_top p) 6) word)

abbrev pub sign_text : Symbol → ℕ → ℕ → Class → List ℕ → List ℕ
sign_text s x y c word = element_text (Shown s (plus x 5) y) ++ element_text (Label c (plus x 12) (plus y 8) word)

unfoldable pub mark_there : Place → ℕ → Sign → List ℕ
mark_there p x s =
    elim s [
      | sign.TestHeld ↦ element_text (Shown symbol.Held (plus x 3) (minus (links_top p) 4))
      | sign.TestFailed ↦ element_text (Shown symbol.Failed (plus x 3) (links_top p))
      | sign.Torn ↦ sign_text symbol.Torn x (calls_top p) class.Bad (codes "torn")
      | sign.CallFailed ↦ element_text (Shown symbol.Torn (plus x 4) (calls_top p))
      | sign.Dropped ↦ element_text (Shown symbol.Dropped (plus x 4) (calls_top p))
      | sign.Term ↦ sign_text symbol.Term x (plus (held_top p) 1) class.Inside (codes "term")
      | sign.Kill ↦ sign_text symbol.Kill x (plus (held_top p) 1) class.Inside (codes "kill")
      | sign.Start ↦ line_text p class.Up x (codes "daemon")
      | sign.Crash ↦ line_text p class.Crash x (codes "crash")
      | sign.Reset ↦ line_text p class.Reset x (codes "reset")
      | sign.Restart ↦ line_text p class.Up x (codes "up")
    ]

abbrev pub mark_text : Plan → Mark → List ℕ
mark_text l m = mark_there (place_of l.places m.machine) (x_of l.scale m.at) m.sign

abbrev pub marks_text : Plan → List Mark → List ℕ
marks_text l ms = flat_map (mark_text l) ms

-- ---- events

abbrev pub column_area : Plan → Column → Area
column_area l c =
    let p : Place = place_of l.places c.machine in record { x = x_of l.scale c.at; y = p.top; width = l.scale.event; height = minus (bottom_of p) p.top }

abbrev pub event_words : Kept → Column → List ℕ
event_words k c = codes "line " ++ decimal c.number ++ codes ": " ++ text_at k.texts c.line ++ 10 ∷ text_at k.texts c.report

abbrev pub column_text : Kept → Plan → Column → List ℕ
column_text k l c = element_text (Titled class.Hit (column_area l c) (event_words k c))

abbrev pub columns_text : Kept → Plan → List ℕ
columns_text k l = flat_map (column_text k l) k.columns

-- ---- comments

abbrev pub note_sign : ℕ → List ℕ → ℕ → List ℕ
note_sign x number free = element_text (Shown symbol.Note x 34) ++ (if nat_lt x free then [] else element_text (Label class.Dim (minus x 2) 49 number))

abbrev pub note_end : ℕ → List ℕ → ℕ → ℕ
note_end x number free = if nat_lt x free then free else plus x (plus (letters (length number)) 2)

abbrev pub no_note : Note
no_note = record { at = record { events = 0; moment = 0 }; text = no_text }

abbrev pub note_at : Kept → ℕ → Note
note_at k n = slice_index_or k.notes n no_note

abbrev pub note_x : Kept → Plan → ℕ → ℕ
note_x k l n = plus (x_of l.scale (note_at k n).at) 4

abbrev pub note_words : Kept → Plan → ℕ → List ℕ → List ℕ
note_words k l n number =
    let y : ℕ = plus (plus l.bottom 18) (times n 13) in
    element_text (Label class.Dim 84 y number) ++ element_text (Label class.Dim 104 y (text_at k.texts (note_at k n).text))

abbrev pub note_text : Kept → Plan → ℕ → ℕ → List ℕ
note_text k l n free = note_words k l n (decimal (plus n 1)) ++ note_sign (note_x k l n) (decimal (plus n 1)) free

abbrev pub note_free : Kept → Plan → ℕ → ℕ → ℕ
note_free k l n free = note_end (note_x k l n) (decimal (plus n 1)) free

-- The first so many.
abbrev pub notes_to : Kept → Plan → ℕ → Row
notes_to k l zero = record { text = []; free = 0 }
notes_to k l (suc n) = let r : Row = notes_to k l n in record { text = r.text ++ note_text k l n r.free; free = note_free k l n r.free }

abbrev pub notes_text : Kept → Plan → List ℕ
notes_text k l = (notes_to k l (length k.notes)).text
