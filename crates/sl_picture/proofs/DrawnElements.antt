-- What is written of a picture is its front, the head, elements one behind the other, and a tail.
use Rattle.sl_drawing.proofs.WellFormed.{pictures_are_well_formed}
use Rattle.sl_drawing.specs.Elements.{Element, Label, Rect, Sign as Shown, Titled, element_text, front_text, head_text, lowered_text, tail_text}
use Rattle.sl_drawing.specs.Sums.{letters, minus, plus, times}
use Rattle.sl_drawing.specs.WellFormed.{IsPicture}
use Rattle.sl_drawing.specs.declared.classes.Class.TheVariants as class
use Rattle.sl_drawing.specs.declared.classes.Class.{Class}
use Rattle.sl_drawing.specs.declared.classes.Symbol.TheVariants as symbol
use Rattle.sl_drawing.specs.declared.classes.Symbol.{Symbol}
use Rattle.sl_drawing.specs.declared.elements.Area.{Area}
use Rattle.sl_picture.specs.Bars.{Row, area_of, bar_text, bars_text, class_of, command_class, command_end, command_text, command_words, commands_to, detail_text, has_room, is_in_layer, is_passing, is_shown, label_text, label_there, layer_text, machine_commands, moment_end, moment_text, moments_text, moments_with, row_text, row_with, tick, title, words}
use Rattle.sl_picture.specs.Captions.{caption_height, caption_text, line_at, lines_to, sheet_of}
use Rattle.sl_picture.specs.Kept.{Kept, text_at}
use Rattle.sl_picture.specs.Layout.{Plan, all_bars, bottom_of, calls_top, commands_top, held_top, links_top, place_of, plan_of, x_of}
use Rattle.sl_picture.specs.Page.{dead_words, key_end, key_text, keys_text, lane_at, lane_text, lanes_to, last_text, late_end, late_key, late_words, layers_text, lower_rows, no_place, picture_of, planned_text, resource_name, resources_row, resources_to, rows_text, shapes_end, shapes_text, time_key, unit_text, upper_rows, words_text}
use Rattle.sl_picture.specs.Signs.{column_area, column_text, columns_text, event_words, line_text, mark_text, mark_there, marks_text, note_at, note_sign, note_text, note_words, note_x, notes_text, notes_to, sign_text}
use Rattle.sl_picture.specs.WellFormed.{KeptPicturesAreWellFormed}
use Rattle.sl_picture.specs.declared.bars.Layer.TheVariants as layer
use Rattle.sl_picture.specs.declared.bars.Layer.{Layer}
use Rattle.sl_picture.specs.declared.layout.Place.{Place}
use Rattle.sl_picture.specs.declared.shapes.Bar.{Bar}
use Rattle.sl_picture.specs.declared.shapes.Column.{Column}
use Rattle.sl_picture.specs.declared.shapes.Mark.{Mark}
use Rattle.sl_picture.specs.declared.shapes.Shape.TheVariants as shape
use Rattle.sl_picture.specs.declared.shapes.Shape.{Shape}
use Rattle.sl_picture.specs.declared.shapes.Sign.TheVariants as sign
use Rattle.sl_picture.specs.declared.shapes.Sign.{Sign}
use Rattle.std.proofs.Common.{Bool, List, [], ap, ap₂, false, length, refl, subst, suc, sym, true, zero, ℕ, ◌++◌, ◌+◌, ◌∙◌, ◌∷◌, ◌≡◌}
use Rattle.std.proofs.lemmas.List.Concat.{flat_map-append}
use Rattle.std.proofs.lemmas.List.{append-nil, append_assoc}
use Rattle.std.specs.Prelude.{codes, decimal, flat_map, fold, if◌then◌else◌, min, nat_le, nat_lt, slice_index_or, ◌%◌, ◌&&◌, ◌/◌}

-- ---- texts that are elements

record IsDrawn (text : List ℕ) : Type 0 where
  elements : List Element
  text_is : text ≡ flat_map element_text elements

none : IsDrawn []
none = record { elements = []; text_is = refl }

one : (e : Element) → IsDrawn (element_text e)
one e = record { elements = e ∷ []; text_is = sym (append-nil (element_text e)) }

both : (xs ys : List ℕ) → IsDrawn xs → IsDrawn ys → IsDrawn (xs ++ ys)
both xs ys a b =
    record { elements = a.elements ++ b.elements; text_is = ap₂ (λ x y. x ++ y) a.text_is b.text_is ∙ sym (flat_map-append element_text a.elements b.elements) }

two : (d e : Element) → IsDrawn (element_text d ++ element_text e)
two d e = both (element_text d) (element_text e) (one d) (one e)

three : (a b c : List ℕ) → IsDrawn a → IsDrawn b → IsDrawn c → IsDrawn (a ++ b ++ c)
three a b c x y z = both (a ++ b) c (both a b x y) z

four : (a b c d : List ℕ) → IsDrawn a → IsDrawn b → IsDrawn c → IsDrawn d → IsDrawn (a ++ b ++ c ++ d)
four a b c d w x y z = both (a ++ b ++ c) d (three a b c w x y) z

either : (b : Bool) (xs ys : List ℕ) → IsDrawn xs → IsDrawn ys → IsDrawn (if b then xs else ys)
either true xs ys x y = x
either false xs ys x y = y

each : {A : Type 0} (f : A → List ℕ) → ((a : A) → IsDrawn (f a)) → (xs : List A) → IsDrawn (flat_map f xs)
each f drawn [] = none
each f drawn (x ∷ xs) = both (f x) (flat_map f xs) (drawn x) (each f drawn xs)

-- ---- the legend and the grounds of machines

key : (c : Class) (x : ℕ) (text : List ℕ) → IsDrawn (key_text c x text)
unfolding key_text
key c x text = two (Rect c (record { x = x; y = 4; width = 10; height = 9 })) (Label class.Plain (plus x 14) 12 text)

resources : (k : Kept) (n : ℕ) → IsDrawn (resources_to k n).text
resources k zero = none
resources k (suc n) =
    both (resources_to k n).text (key_text (class.Held (n % 8)) (resources_to k n).free (resource_name k n)) (resources k n)
    (key (class.Held (n % 8)) (resources_to k n).free (resource_name k n))

shapes : (x : ℕ) → IsDrawn (shapes_text x)
shapes x =
    let fails : ℕ = key_end x (codes "shared") in
    three (key_text (class.Held 0) x []) (key_text class.Shared x (codes "shared")) (key_text class.Expired fails (codes "watchdog's test fails")) (key (class.Held 0) x [])
    (key class.Shared x (codes "shared")) (key class.Expired fails (codes "watchdog's test fails"))

unit : IsDrawn unit_text
unfolding unit_text
unit = one (Label class.Dim 88 28 (codes "ms"))

keys : (k : Kept) (x : ℕ) → IsDrawn (keys_text k x)
keys k x =
    let late : ℕ = shapes_end x in
    let passing : ℕ = late_end k late in
    four (shapes_text x) (late_key k late) (time_key k passing) unit_text (shapes x) (key class.Late late (late_words k)) (key class.Passing passing (dead_words k)) unit

upper : (p : Place) → IsDrawn (upper_rows p)
unfolding upper_rows
upper p = two (Label class.Dim 50 (plus (commands_top p) 9) (codes "commands")) (Label class.Dim 72 (plus (calls_top p) 9) (codes "disk"))

lower : (p : Place) → IsDrawn (lower_rows p)
unfolding lower_rows
lower p = two (Label class.Dim 56 (plus (links_top p) 6) (codes "session")) (Label class.Dim 67 (plus (held_top p) 9) (codes "holds"))

rows : (p : Place) → IsDrawn (rows_text p)
rows p = both (upper_rows p) (lower_rows p) (upper p) (lower p)

lane : (l : Plan) (digits : List ℕ) (p : Place) → IsDrawn (lane_text l digits p)
lane l digits p =
    let ground : Element = Rect class.Lane (record { x = 4; y = p.top; width = minus l.width 8; height = minus (bottom_of p) p.top }) in
    let number : Element = Label class.Number 10 (plus p.top 18) digits in
    three (element_text ground) (element_text number) (rows_text p) (one ground) (one number) (rows p)

lanes : (l : Plan) (n : ℕ) → IsDrawn (lanes_to l n)
lanes l zero = none
lanes l (suc n) = both (lanes_to l n) (lane_at l n) (lanes l n) (lane l (decimal (plus n 1)) (slice_index_or l.places n no_place))

-- ---- bars

abbrev detail_by : Shape → Area → List ℕ
detail_by s a =
    elim s [
      | shape.Read ↦ tick class.Read a 2 5
      | shape.Write ↦ tick class.Write a 5 8
      | shape.Orphan ↦ tick class.Write a 5 8
      | shape.Joined ↦ tick class.Renewed a 0 7
      | shape.Shared ↦ element_text (Rect class.Shared a)
      | _ ↦ []
    ]

ticked : (c : Class) (a : Area) (up high : ℕ) → IsDrawn (tick c a up high)
ticked c a up high = one (Rect c (record { x = a.x; y = minus a.y up; width = 2; height = high }))

detail_so : (s : Shape) (a : Area) → IsDrawn (detail_by s a)
detail_so shape.Passing a = none
detail_so shape.Down a = none
detail_so shape.Idle a = none
detail_so shape.Waiting a = none
detail_so shape.Accepted a = none
detail_so shape.Refused a = none
detail_so shape.Unclear a = none
detail_so shape.Read a = ticked class.Read a 2 5
detail_so shape.Write a = ticked class.Write a 5 8
detail_so shape.Orphan a = ticked class.Write a 5 8
detail_so shape.Joining a = none
detail_so shape.Joined a = ticked class.Renewed a 0 7
detail_so shape.Left a = none
detail_so shape.Expired a = none
detail_so shape.Exclusive a = none
detail_so shape.Shared a = one (Rect class.Shared a)
detail_so shape.Gap a = none
detail_so shape.Wanted a = none

detail : (b : Bar) (a : Area) → IsDrawn (detail_text b a)
unfolding detail_text
detail b a = detail_so b.shape a

abbrev label_by : Shape → ℕ → ℕ → Area → List ℕ → List ℕ
label_by s x low a label =
    elim s [
      | shape.Idle ↦ element_text (Label class.Dim x low label)
      | shape.Down ↦ element_text (Label class.Inside x low label)
      | shape.Gap ↦ element_text (Label class.Dim (plus x 10) (minus a.y 1) label)
      | shape.Wanted ↦ element_text (Label class.Bad (plus x 10) (minus a.y 1) label)
      | _ ↦ element_text (Label class.Inside x (plus a.y 9) label)
    ]

label_so : (s : Shape) (x low : ℕ) (a : Area) (label : List ℕ) → IsDrawn (label_by s x low a label)
label_so shape.Passing x low a label = one (Label class.Inside x (plus a.y 9) label)
label_so shape.Down x low a label = one (Label class.Inside x low label)
label_so shape.Idle x low a label = one (Label class.Dim x low label)
label_so shape.Waiting x low a label = one (Label class.Inside x (plus a.y 9) label)
label_so shape.Accepted x low a label = one (Label class.Inside x (plus a.y 9) label)
label_so shape.Refused x low a label = one (Label class.Inside x (plus a.y 9) label)
label_so shape.Unclear x low a label = one (Label class.Inside x (plus a.y 9) label)
label_so shape.Read x low a label = one (Label class.Inside x (plus a.y 9) label)
label_so shape.Write x low a label = one (Label class.Inside x (plus a.y 9) label)
label_so shape.Orphan x low a label = one (Label class.Inside x (plus a.y 9) label)
label_so shape.Joining x low a label = one (Label class.Inside x (plus a.y 9) label)
label_so shape.Joined x low a label = one (Label class.Inside x (plus a.y 9) label)
label_so shape.Left x low a label = one (Label class.Inside x (plus a.y 9) label)
label_so shape.Expired x low a label = one (Label class.Inside x (plus a.y 9) label)
label_so shape.Exclusive x low a label = one (Label class.Inside x (plus a.y 9) label)
label_so shape.Shared x low a label = one (Label class.Inside x (plus a.y 9) label)
label_so shape.Gap x low a label = one (Label class.Dim (plus x 10) (minus a.y 1) label)
label_so shape.Wanted x low a label = one (Label class.Bad (plus x 10) (minus a.y 1) label)

label_drawn : (b : Bar) (a : Area) (label : List ℕ) → IsDrawn (label_there b a label)
unfolding label_there
label_drawn b a label = label_so b.shape (plus a.x 4) (plus a.y (minus a.height 5)) a label

label : (k : Kept) (b : Bar) (a : Area) → IsDrawn (label_text k b a)
label k b a = either (has_room (words k b) a) (label_there b a (words k b)) [] (label_drawn b a (words k b)) none

bar_drawn : (k : Kept) (l : Plan) (b : Bar) → IsDrawn (bar_text k l b)
bar_drawn k l b =
    let a : Area = area_of l b in
    let titled : Element = Titled (class_of b k.io) a (title k b) in
    three (element_text titled) (detail_text b a) (label_text k b a) (one titled) (detail b a) (label k b a)

bars : (k : Kept) (l : Plan) (bs : List Bar) (y : Layer) → IsDrawn (bars_text k l bs y)
bars k l bs y = each (layer_text k l y) (λ b. either (is_in_layer y b.shape) (bar_text k l b) [] (bar_drawn k l b) none) bs

-- ---- labels of commands, and moments

abbrev with_more : Row → List ℕ → ℕ → Row
with_more r text free = record { text = r.text ++ text; free = free }

row_step : (r : Row) (text : List ℕ) (free : ℕ) (shown : Bool) → IsDrawn r.text → IsDrawn text → IsDrawn (if shown then with_more r text free else r).text
row_step r text free true d e = both r.text text d e
row_step r text free false d e = d

row_drawn : (k : Kept) (l : Plan) (m row : ℕ) (bs : List Bar) (r : Row) → IsDrawn r.text → IsDrawn (fold (row_with k l m row) r bs).text
row_drawn k l m row [] r d = d
row_drawn k l m row (b ∷ bs) r d =
    row_drawn k l m row bs (row_with k l m row r b)
    (row_step r (command_text k l b) (command_end k l b) (is_shown l m row r.free b) d
    (one (Label (command_class b.shape) (plus (area_of l b).x 4) (plus (area_of l b).y 9) (command_words k b))))

machine : (k : Kept) (l : Plan) (bs : List Bar) (m : ℕ) → IsDrawn (machine_commands k l bs m)
machine k l bs m =
    let first : Row = record { text = []; free = 0 } in
    three (row_text k l bs m 0) (row_text k l bs m 1) (row_text k l bs m 2) (row_drawn k l m 0 bs first none) (row_drawn k l m 1 bs first none) (row_drawn k l m 2 bs first none)

commands : (k : Kept) (l : Plan) (bs : List Bar) (n : ℕ) → IsDrawn (commands_to k l bs n)
commands k l bs zero = none
commands k l bs (suc n) = both (commands_to k l bs n) (machine_commands k l bs (n + 1)) (commands k l bs n) (machine k l bs (n + 1))

moment : (l : Plan) (x : ℕ) (digits : List ℕ) → IsDrawn (moment_text l x digits)
moment l x digits =
    two (Label class.Dim (minus x (letters (length digits) / 2)) 28 digits) (Rect class.Grid (record { x = x; y = 32; width = 1; height = minus l.bottom 32 }))

moments_drawn : (l : Plan) (bs : List Bar) (r : Row) → IsDrawn r.text → IsDrawn (fold (moments_with l) r bs).text
moments_drawn l [] r d = d
moments_drawn l (b ∷ bs) r d =
    let x : ℕ = x_of l.scale b.to in
    let digits : List ℕ = decimal b.to.moment in
    moments_drawn l bs (moments_with l r b) (row_step r (moment_text l x digits) (moment_end x digits) (is_passing b.shape && nat_le r.free x) d (moment l x digits))

-- ---- signs, events and comments

line : (p : Place) (c : Class) (x : ℕ) (word : List ℕ) → IsDrawn (line_text p c x word)
line p c x word =
    two (Rect c (record { x = x; y = p.top; width = 3; height = minus (bottom_of p) p.top })) (Label class.Bad (plus x 5) (plus (links_top p) 6) word)

signed : (s : Symbol) (x y : ℕ) (c : Class) (word : List ℕ) → IsDrawn (sign_text s x y c word)
signed s x y c word = two (Shown s (plus x 5) y) (Label c (plus x 12) (plus y 8) word)

mark_drawn : (p : Place) (x : ℕ) (s : Sign) → IsDrawn (mark_there p x s)
unfolding mark_there
mark_drawn p x sign.TestHeld = one (Shown symbol.Held (plus x 3) (minus (links_top p) 4))
mark_drawn p x sign.TestFailed = one (Shown symbol.Failed (plus x 3) (links_top p))
mark_drawn p x sign.Torn = signed symbol.Torn x (calls_top p) class.Bad (codes "torn")
mark_drawn p x sign.CallFailed = one (Shown symbol.Torn (plus x 4) (calls_top p))
mark_drawn p x sign.Dropped = one (Shown symbol.Dropped (plus x 4) (calls_top p))
mark_drawn p x sign.Term = signed symbol.Term x (plus (held_top p) 1) class.Inside (codes "term")
mark_drawn p x sign.Kill = signed symbol.Kill x (plus (held_top p) 1) class.Inside (codes "kill")
mark_drawn p x sign.Start = line p class.Up x (codes "daemon")
mark_drawn p x sign.Crash = line p class.Crash x (codes "crash")
mark_drawn p x sign.Reset = line p class.Reset x (codes "reset")
mark_drawn p x sign.Restart = line p class.Up x (codes "up")

marks : (l : Plan) (ms : List Mark) → IsDrawn (marks_text l ms)
marks l ms = each (mark_text l) (λ m. mark_drawn (place_of l.places m.machine) (x_of l.scale m.at) m.sign) ms

columns : (k : Kept) (l : Plan) → IsDrawn (columns_text k l)
columns k l = each (column_text k l) (λ c. one (Titled class.Hit (column_area l c) (event_words k c))) k.columns

noted : (x : ℕ) (number : List ℕ) (free : ℕ) → IsDrawn (note_sign x number free)
noted x number free =
    let shown : Element = Shown symbol.Note x 34 in
    let label : Element = Label class.Dim (minus x 2) 49 number in
    both (element_text shown) (if nat_lt x free then [] else element_text label) (one shown) (either (nat_lt x free) [] (element_text label) none (one label))

note : (k : Kept) (l : Plan) (n free : ℕ) → IsDrawn (note_text k l n free)
note k l n free =
    let y : ℕ = plus (plus l.bottom 18) (times n 13) in
    let number : List ℕ = decimal (plus n 1) in
    both (note_words k l n number) (note_sign (note_x k l n) number free) (two (Label class.Dim 84 y number) (Label class.Dim 104 y (text_at k.texts (note_at k n).text)))
    (noted (note_x k l n) number free)

notes : (k : Kept) (l : Plan) (n : ℕ) → IsDrawn (notes_to k l n).text
notes k l zero = none
notes k l (suc n) = both (notes_to k l n).text (note_text k l n (notes_to k l n).free) (notes k l n) (note k l n (notes_to k l n).free)

-- ---- the whole

layers : (k : Kept) (l : Plan) (bs : List Bar) → IsDrawn (layers_text k l bs)
layers k l bs =
    both (bars_text k l bs layer.Time ++ moments_text l bs ++ columns_text k l ++ bars_text k l bs layer.Machine) (bars_text k l bs layer.Work)
    (four (bars_text k l bs layer.Time) (moments_text l bs) (columns_text k l) (bars_text k l bs layer.Machine) (bars k l bs layer.Time)
    (moments_drawn l bs (record { text = []; free = 0 }) none) (columns k l) (bars k l bs layer.Machine)) (bars k l bs layer.Work)

labels : (k : Kept) (l : Plan) (bs : List Bar) (last : List ℕ) → IsDrawn (words_text k l bs last)
labels k l bs last =
    four (commands_to k l bs (length l.places)) (marks_text l k.marks) (notes_text k l) (last_text k l last) (commands k l bs (length l.places)) (marks l k.marks)
    (notes k l (length k.notes)) (one (Label class.Plain 104 (plus (plus l.bottom 24) (times (length k.notes) 13)) last))

captions : (lines : List (List ℕ)) (n : ℕ) → IsDrawn (lines_to lines n)
captions lines zero = none
captions lines (suc n) =
    both (lines_to lines n) (line_at lines n) (captions lines n) (one (Label class.Plain 10 (plus (times n 14) 12) (slice_index_or lines n [])))

front_joined : (f h g c y rest : List ℕ) → (f ++ h ++ g ++ c ++ y) ++ rest ≡ f ++ (h ++ (g ++ c) ++ (y ++ rest))
front_joined f h g c y rest =
    ap (λ x. (x ++ y) ++ rest) (append_assoc (f ++ h) g c ∙ append_assoc f h (g ++ c)) ∙ append_assoc (f ++ (h ++ (g ++ c))) y rest
    ∙ append_assoc f (h ++ (g ++ c)) (y ++ rest)

body_joined : (a b l w t : List ℕ) → a ++ b ++ l ++ w ++ t ++ t ≡ a ++ ((b ++ l ++ w) ++ (t ++ t))
body_joined a b l w t =
    append_assoc (a ++ b ++ l ++ w) t t ∙ ap (λ x. x ++ (t ++ t)) (ap (λ x. x ++ w) (append_assoc a b l) ∙ append_assoc a (b ++ l) w)
    ∙ append_assoc a (b ++ l ++ w) (t ++ t)

planned : (caption : List (List ℕ)) (k : Kept) (l : Plan) (bs : List Bar) (last : List ℕ) → IsPicture (planned_text caption k l bs last)
planned caption k l bs last =
    let sheet : Area = sheet_of l caption in
    let f : List ℕ = front_text sheet.width sheet.height in
    let ground : Element = Rect class.Ground sheet in
    let c : List ℕ = caption_text caption in
    let low : List ℕ = lowered_text (caption_height caption) in
    let r : List ℕ = (resources_row k).text in
    let m : List ℕ = keys_text k (resources_row k).free in
    let n : List ℕ = lanes_to l (length l.places) in
    let above : IsDrawn (element_text ground ++ c) = both (element_text ground) c (one ground) (captions caption (length caption)) in
    let drawn : IsDrawn (r ++ m ++ n ++ layers_text k l bs ++ words_text k l bs last) =
    three (r ++ m ++ n) (layers_text k l bs) (words_text k l bs last)
    (three r m n (resources k (min (length k.resources) 12)) (keys k (resources_row k).free) (lanes l (length l.places))) (layers k l bs) (labels k l bs last) in
    subst IsPicture
    (sym (body_joined (f ++ head_text ++ element_text ground ++ c ++ low) (r ++ m ++ n) (layers_text k l bs) (words_text k l bs last) tail_text
    ∙ front_joined f head_text (element_text ground) c low ((r ++ m ++ n ++ layers_text k l bs ++ words_text k l bs last) ++ (tail_text ++ tail_text))
    ∙ ap₂ (λ a e. f ++ (head_text ++ a ++ (low ++ (e ++ (tail_text ++ tail_text))))) above.text_is drawn.text_is))
    (pictures_are_well_formed sheet.width sheet.height above.elements (caption_height caption) drawn.elements)

pub kept_pictures_are_well_formed : KeptPicturesAreWellFormed
unfolding picture_of
kept_pictures_are_well_formed caption k last = planned caption k (plan_of (all_bars k) k) (all_bars k) last
