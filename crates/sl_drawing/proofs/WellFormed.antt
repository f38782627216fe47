-- Pictures are well formed.
use Rattle.sl_drawing.specs.Classes.{class_text, held_text, symbol_text}
use Rattle.sl_drawing.specs.Elements.{Element, Label as LabelOf, Rect, Sign as SignOf, Titled as TitledOf, area_text, attribute_text, element_text, escaped, escaped_byte, front_text, head_text, lowered_text, svg_text, tag_text, tail_text, use_text}
use Rattle.sl_drawing.specs.WellFormed.{AreAttributes, AreElements, Empty, Entity, IsElement, IsEscaped, IsPicture, Label, More, No_element, No_more, Nothing, Number, Numbers, One_more, PicturesAreWellFormed, Plain, Sign, Titled, is_plain, is_value}
use Rattle.sl_drawing.specs.declared.classes.Class.TheVariants.{Accepted, Bad, Crash, Dim, Down, Expired, Flying, Gap, Grid, Ground, Held, Hit, Idle, Inside, Joined, Joining, Lane, Late, Left, Number as NumberClass, Orphan, Passing, Plain as PlainClass, Read, Refused, Renewed, Reset, Shared, Unclear, Up, Waiting, Wanted, Write}
use Rattle.sl_drawing.specs.declared.classes.Class.{Class}
use Rattle.sl_drawing.specs.declared.classes.Symbol.TheVariants as symbol
use Rattle.sl_drawing.specs.declared.classes.Symbol.{Symbol}
use Rattle.sl_drawing.specs.declared.elements.Area.{Area}
use Rattle.std.proofs.Common.{Bool, List, [], ap, false, inl, inr, refl, subst, sym, true, ℕ, ◌&&◌, ◌++◌, ◌==◌, ◌∙◌, ◌∷◌, ◌≡◌, ◌≤◌}
use Rattle.std.proofs.lemmas.List.{append-nil, append_assoc}
use Rattle.std.specs.Prelude.{codes, decimal, flat_map, if◌then◌else◌, nat_le, not, ◌||◌}

-- ---- escaped texts

plain_so : (b : ℕ) → (b == 38) ≡ false → (b == 60) ≡ false → is_plain b ≡ true
plain_so b a l = ap (λ x. not x && not (b == 38)) l ∙ ap (λ x. not x) a

byte_so : (b : ℕ) (rest : List ℕ) (a l g p : Bool) → (b == 38) ≡ a → (b == 60) ≡ l → IsEscaped rest
    → IsEscaped ((if a then codes "&amp;" else if l then codes "&lt;" else if g then codes "&gt;" else if p then b ∷ [] else codes "?") ++ rest)
byte_so b rest true l g p a_is l_is e = Entity (codes "&amp;") rest (inl refl) e
byte_so b rest false true g p a_is l_is e = Entity (codes "&lt;") rest (inr (inl refl)) e
byte_so b rest false false true p a_is l_is e = Entity (codes "&gt;") rest (inr (inr refl)) e
byte_so b rest false false false true a_is l_is e = Plain b rest (plain_so b a_is l_is) e
byte_so b rest false false false false a_is l_is e = Plain 63 rest refl e

byte_escaped : (b : ℕ) (rest : List ℕ) → IsEscaped rest → IsEscaped (escaped_byte b ++ rest)
unfolding escaped_byte
byte_escaped b rest e = byte_so b rest (b == 38) (b == 60) (b == 62) (b == 10 || nat_le 32 b && nat_le b 126) refl refl e

all_escaped : (text : List ℕ) → IsEscaped (escaped text)
all_escaped [] = Nothing
all_escaped (b ∷ bs) = byte_escaped b (escaped bs) (all_escaped bs)

-- ---- classes and signs

either : (b : Bool) (x y : List ℕ) → is_value x ≡ true → is_value y ≡ true → is_value (if b then x else y) ≡ true
either true x y p q = p
either false x y p q = q

held_value : (colour : ℕ) → is_value (held_text colour) ≡ true
held_value colour =
    either (colour == 0) _ _ refl (either (colour == 1) _ _ refl (either (colour == 2) _ _ refl (either (colour == 3) _ _ refl (either (colour == 4) _ _ refl
    (either (colour == 5) _ _ refl (either (colour == 6) _ _ refl refl))))))

class_value : (c : Class) → is_value (class_text c) ≡ true
unfolding class_text
class_value Ground = refl
class_value Lane = refl
class_value Hit = refl
class_value NumberClass = refl
class_value PlainClass = refl
class_value Inside = refl
class_value Bad = refl
class_value Dim = refl
class_value Grid = refl
class_value Passing = refl
class_value Down = refl
class_value Idle = refl
class_value Accepted = refl
class_value Refused = refl
class_value Waiting = refl
class_value Unclear = refl
class_value Flying = refl
class_value Late = refl
class_value Orphan = refl
class_value Read = refl
class_value Write = refl
class_value Renewed = refl
class_value Joining = refl
class_value Joined = refl
class_value Left = refl
class_value Expired = refl
class_value Gap = refl
class_value Wanted = refl
class_value (Held colour) = held_value colour
class_value Shared = refl
class_value Reset = refl
class_value Crash = refl
class_value Up = refl

symbol_value : (s : Symbol) → is_value (codes "#" ++ symbol_text s) ≡ true
unfolding symbol_text
symbol_value symbol.Held = refl
symbol_value symbol.Failed = refl
symbol_value symbol.Torn = refl
symbol_value symbol.Dropped = refl
symbol_value symbol.Term = refl
symbol_value symbol.Kill = refl
symbol_value symbol.Note = refl

-- ---- attributes

abbrev numbered : List ℕ → ℕ → List ℕ → List ℕ
numbered front n rest = front ++ decimal n ++ codes "'" ++ rest

abbrev placed : ℕ → ℕ → List ℕ → List ℕ
placed x y rest = numbered (codes " x='") x (numbered (codes " y='") y rest)

abbrev sized : ℕ → ℕ → List ℕ
sized width height = numbered (codes " width='") width (numbered (codes " height='") height [])

sized_are : (width height : ℕ) → AreAttributes (sized width height)
sized_are width height =
    Number (codes "width") (codes " width='") width (numbered (codes " height='") height []) refl refl (Number (codes "height") (codes " height='") height [] refl refl No_more)

placed_are : (x y : ℕ) (rest : List ℕ) → AreAttributes rest → AreAttributes (placed x y rest)
placed_are x y rest a = Number (codes "x") (codes " x='") x (numbered (codes " y='") y rest) refl refl (Number (codes "y") (codes " y='") y rest refl refl a)

abbrev classed : Class → List ℕ → List ℕ
classed c rest = codes " class='" ++ class_text c ++ codes "'" ++ rest

classed_are : (c : Class) (rest : List ℕ) → AreAttributes rest → AreAttributes (classed c rest)
classed_are c rest a = More (codes "class") (codes " class='") (class_text c) rest refl refl (class_value c) a

abbrev rect_attributes : Class → Area → List ℕ
rect_attributes c a = classed c (placed a.x a.y (sized a.width a.height))

rect_are : (c : Class) (a : Area) → AreAttributes (rect_attributes c a)
rect_are c a = classed_are c (placed a.x a.y (sized a.width a.height)) (placed_are a.x a.y (sized a.width a.height) (sized_are a.width a.height))

-- ---- elements

-- Tags as they are written, and as the grammar has them: the same texts, one behind the other.
rect_joined : (f g c q a x b y d w e h close : List ℕ)
    → ((f ++ g) ++ c ++ q) ++ ((a ++ x ++ q) ++ (b ++ y ++ q) ++ (d ++ w ++ q) ++ (e ++ h ++ q)) ++ close
    ≡ f ++ (g ++ c ++ q ++ (a ++ x ++ q ++ (b ++ y ++ q ++ (d ++ w ++ q ++ (e ++ h ++ q ++ []))))) ++ close
rect_joined f g c q a x b y d w e h close = simp append_assoc

label_joined : (f g c q a x b y close : List ℕ)
    → ((f ++ g) ++ c ++ q) ++ (a ++ x ++ q) ++ (b ++ y ++ q) ++ close ≡ f ++ (g ++ c ++ q ++ (a ++ x ++ q ++ (b ++ y ++ q ++ []))) ++ close
label_joined f g c q a x b y close = simp append_assoc

sign_joined : (f g m s q a x b y close : List ℕ)
    → ((f ++ g ++ m) ++ s ++ q) ++ (a ++ x ++ q) ++ (b ++ y ++ q) ++ close ≡ f ++ (g ++ (m ++ s) ++ q ++ (a ++ x ++ q ++ (b ++ y ++ q ++ []))) ++ close
sign_joined f g m s q a x b y close = simp append_assoc

rect_text : (c : Class) (a : Area) (close : List ℕ) → tag_text (codes "<rect class='") c ++ area_text a ++ close ≡ codes "<rect" ++ rect_attributes c a ++ close
rect_text c a close =
    rect_joined (codes "<rect") (codes " class='") (class_text c) (codes "'") (codes " x='") (decimal a.x) (codes " y='") (decimal a.y) (codes " width='") (decimal a.width)
    (codes " height='") (decimal a.height) close

label_text : (c : Class) (x y : ℕ) (close : List ℕ)
    → tag_text (codes "<text class='") c ++ attribute_text (codes " x='") x ++ attribute_text (codes " y='") y ++ close ≡ codes "<text" ++ classed c (placed x y []) ++ close
label_text c x y close =
    label_joined (codes "<text") (codes " class='") (class_text c) (codes "'") (codes " x='") (decimal x) (codes " y='") (decimal y) close

abbrev sign_attributes : Symbol → ℕ → ℕ → List ℕ
sign_attributes s x y = codes " href='" ++ (codes "#" ++ symbol_text s) ++ codes "'" ++ placed x y []

sign_text : (s : Symbol) (x y : ℕ) (close : List ℕ)
    → use_text (codes "<use href='#") s ++ attribute_text (codes " x='") x ++ attribute_text (codes " y='") y ++ close ≡ codes "<use" ++ sign_attributes s x y ++ close
sign_text s x y close =
    sign_joined (codes "<use") (codes " href='") (codes "#") (symbol_text s) (codes "'") (codes " x='") (decimal x) (codes " y='") (decimal y) close

element_is : (e : Element) → IsElement (element_text e)
unfolding element_text
element_is (Rect c a) = subst IsElement (sym (rect_text c a (codes "/>\n"))) (Empty (rect_attributes c a) (rect_are c a))
element_is (TitledOf c a title) =
    subst IsElement (sym (rect_text c a (codes "><title>" ++ escaped title ++ codes "</title></rect>\n"))) (Titled (rect_attributes c a) (escaped title) (rect_are c a) (all_escaped title))
element_is (LabelOf c x y text) =
    subst IsElement (sym (label_text c x y (codes ">" ++ escaped text ++ codes "</text>\n")))
    (Label (classed c (placed x y [])) (escaped text) (classed_are c (placed x y []) (placed_are x y [] No_more)) (all_escaped text))
element_is (SignOf s x y) =
    subst IsElement (sym (sign_text s x y (codes "/>\n")))
    (Sign (sign_attributes s x y) (More (codes "href") (codes " href='") (codes "#" ++ symbol_text s) (placed x y []) refl refl (symbol_value s) (placed_are x y [] No_more)))

pub elements_are : (es : List Element) → AreElements (flat_map element_text es)
elements_are [] = No_element
elements_are (e ∷ es) = One_more (element_text e) (flat_map element_text es) (element_is e) (elements_are es)

-- ---- the whole

abbrev address : List ℕ
address = codes "http://www.w3.org/2000/svg"

abbrev view : ℕ → ℕ → List ℕ → List ℕ
view width height rest = codes " viewBox='0 0 " ++ decimal width ++ codes " " ++ decimal height ++ codes "'" ++ rest

abbrev front_attributes : ℕ → ℕ → List ℕ
front_attributes width height = codes " xmlns='" ++ address ++ codes "'" ++ view width height (sized width height)

front_are : (width height : ℕ) → AreAttributes (front_attributes width height)
front_are width height =
    More (codes "xmlns") (codes " xmlns='") address (view width height (sized width height)) refl refl refl
    (Numbers (codes "viewBox") (codes " viewBox='0 0 ") width height (sized width height) refl refl (sized_are width height))

whole_joined : (f g v q o w a h b c close rest : List ℕ)
    → (((f ++ g ++ v ++ q ++ o) ++ w ++ (a ++ h ++ q)) ++ (b ++ w ++ q) ++ (c ++ h ++ q) ++ close) ++ rest
    ≡ (f ++ (g ++ v ++ q ++ (o ++ w ++ a ++ h ++ q ++ (b ++ w ++ q ++ (c ++ h ++ q ++ [])))) ++ close) ++ rest
whole_joined f g v q o w a h b c close rest = simp append_assoc

lowered_joined : (f a y q close : List ℕ) → ((f ++ a) ++ y ++ q) ++ close ≡ f ++ (a ++ y ++ q ++ []) ++ close
lowered_joined f a y q close = simp append_assoc

lowered_is : (y : ℕ) → lowered_text y ≡ codes "<svg" ++ numbered (codes " y='") y [] ++ codes ">\n"
unfolding lowered_text
lowered_is y = lowered_joined (codes "<svg") (codes " y='") (decimal y) (codes "'") (codes ">\n")

front_is : (width height : ℕ) (rest : List ℕ) → front_text width height ++ rest ≡ (codes "<svg" ++ front_attributes width height ++ codes ">\n") ++ rest
unfolding front_text svg_text
front_is width height rest =
    whole_joined (codes "<svg") (codes " xmlns='") address (codes "'") (codes " viewBox='0 0 ") (decimal width) (codes " ") (decimal height) (codes " width='") (codes " height='")
    (codes ">\n") rest

pub pictures_are_well_formed : PicturesAreWellFormed
pictures_are_well_formed width height above y es =
    record {
      attributes = front_attributes width height;
      above = flat_map element_text above;
      within = numbered (codes " y='") y [];
      elements = flat_map element_text es;
      are = front_are width height;
      each_above = elements_are above;
      are_within = Number (codes "y") (codes " y='") y [] refl refl No_more;
      each = elements_are es;
      text_is = front_is width height (head_text ++ flat_map element_text above ++ (lowered_text y ++ (flat_map element_text es ++ (tail_text ++ tail_text))))
          ∙ ap (λ l. (codes "<svg" ++ front_attributes width height ++ codes ">\n") ++ (head_text ++ flat_map element_text above ++ (l ++ (flat_map element_text es ++ (tail_text ++ tail_text))))) (lowered_is y);
    }
