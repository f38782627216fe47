-- The text of a picture: its elements, one a line.
use Rattle.sl_drawing.specs.Classes.{class_text, symbol_text}
use Rattle.sl_drawing.specs.declared.classes.Class.{Class}
use Rattle.sl_drawing.specs.declared.classes.Symbol.{Symbol}
use Rattle.sl_drawing.specs.declared.elements.Area.{Area}
use Rattle.sl_drawing.specs.declared.style.TheConstants.{HEAD, TAIL}
use Rattle.std.specs.Prelude.{List, codes, decimal, flat_map, if◌then◌else◌, nat_le, [], ℕ, ◌&&◌, ◌++◌, ◌==◌, ◌∷◌, ◌||◌}

-- An element: a rectangle, one with a title, a label, or a sign of the head.
pub data Element : Type 0 where
  Rect : (class : Class) (area : Area) → Element
  Titled : (class : Class) (area : Area) (title : List ℕ) → Element
  Label : (class : Class) (x y : ℕ) (text : List ℕ) → Element
  Sign : (symbol : Symbol) (x y : ℕ) → Element

-- A byte of a text: what would be taken for a tag or an entity stands as an entity, and what isn't printable as a question mark.
unfoldable pub escaped_byte : ℕ → List ℕ
escaped_byte b =
    if b == 38 then codes "&amp;"
    else if b == 60 then codes "&lt;"
    else if b == 62 then codes "&gt;"
    else if b == 10 || nat_le 32 b && nat_le b 126 then b ∷ []
    else codes "?"

abbrev pub escaped : List ℕ → List ℕ
escaped text = flat_map escaped_byte text

-- An attribute that is a number, behind this front.
abbrev pub attribute_text : List ℕ → ℕ → List ℕ
attribute_text front value = front ++ decimal value ++ 39 ∷ []

abbrev pub area_text : Area → List ℕ
area_text a =
    attribute_text (codes " x='") a.x ++ attribute_text (codes " y='") a.y ++ attribute_text (codes " width='") a.width ++ attribute_text (codes " height='") a.height

-- The front of a tag with its class, and of a sign's with its name.
abbrev pub tag_text : List ℕ → Class → List ℕ
tag_text front c = front ++ class_text c ++ codes "'"

abbrev pub use_text : List ℕ → Symbol → List ℕ
use_text front s = front ++ symbol_text s ++ codes "'"

-- An element's text.
unfoldable pub element_text : Element → List ℕ
element_text (Rect class area) = tag_text (codes "<rect class='") class ++ area_text area ++ codes "/>\n"
element_text (Titled class area title) =
    tag_text (codes "<rect class='") class ++ area_text area ++ (codes "><title>" ++ escaped title ++ codes "</title></rect>\n")
element_text (Label class x y text) =
    tag_text (codes "<text class='") class ++ attribute_text (codes " x='") x ++ attribute_text (codes " y='") y ++ (codes ">" ++ escaped text ++ codes "</text>\n")
element_text (Sign symbol x y) =
    use_text (codes "<use href='#") symbol ++ attribute_text (codes " x='") x ++ attribute_text (codes " y='") y ++ codes "/>\n"

-- The front of a picture so wide and so high.
unfoldable pub svg_text : List ℕ
svg_text = codes "<svg xmlns='http://www.w3.org/2000/svg' viewBox='0 0 "

abbrev pub view_text : ℕ → ℕ → List ℕ
view_text width height = svg_text ++ decimal width ++ attribute_text (codes " ") height

unfoldable pub front_text : ℕ → ℕ → List ℕ
front_text width height = view_text width height ++ attribute_text (codes " width='") width ++ attribute_text (codes " height='") height ++ codes ">\n"

-- Its head and its end.
unfoldable pub head_text : List ℕ
head_text = HEAD.now

abbrev pub tail_text : List ℕ
tail_text = codes "</svg>\n"

-- The front of what stands so far below the top; its end is written as the picture's.
unfoldable pub lowered_text : ℕ → List ℕ
lowered_text y = attribute_text (codes "<svg y='") y ++ codes ">\n"

-- A whole picture: some elements at its top, and some so far below that.
abbrev pub picture_text : ℕ → ℕ → List Element → ℕ → List Element → List ℕ
picture_text width height above y es =
    front_text width height ++ (head_text ++ flat_map element_text above ++ (lowered_text y ++ (flat_map element_text es ++ (tail_text ++ tail_text))))
