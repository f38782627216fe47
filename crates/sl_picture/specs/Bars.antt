-- The bars of a picture, as text.
use Rattle.sl_drawing.specs.Elements.{Label, Rect, Titled, element_text}
use Rattle.sl_drawing.specs.Sums.{letters, minus, plus, times}
use Rattle.sl_drawing.specs.declared.classes.Class.TheVariants as class
use Rattle.sl_drawing.specs.declared.classes.Class.{Class}
use Rattle.sl_drawing.specs.declared.elements.Area.{Area}
use Rattle.sl_picture.specs.Fates.{is_command}
use Rattle.sl_picture.specs.Kept.{Kept, text_at}
use Rattle.sl_picture.specs.Layout.{Plan, bottom_of, calls_top, commands_top, held_top, links_top, place_of, x_of}
use Rattle.sl_picture.specs.Said.{behind_colon, word_at}
use Rattle.sl_picture.specs.declared.bars.Layer.TheVariants as layer
use Rattle.sl_picture.specs.declared.bars.Layer.{Layer}
use Rattle.sl_picture.specs.declared.layout.Place.{Place}
use Rattle.sl_picture.specs.declared.shapes.Bar.{Bar}
use Rattle.sl_picture.specs.declared.shapes.Shape.TheVariants as shape
use Rattle.sl_picture.specs.declared.shapes.Shape.{Shape}
use Rattle.std.specs.Prelude.{Bool, List, codes, decimal, false, flat_map, fold, if◌then◌else◌, length, max, nat_le, nat_lt, suc, true, zero, [], ℕ, ◌&&◌, ◌++◌, ◌+◌, ◌/◌, ◌==◌, ◌%◌, ◌∷◌, ◌||◌}

-- ---- what a bar looks like

abbrev pub is_time : Layer → Bool
is_time l = elim l [ layer.Time ↦ true | _ ↦ false ]

abbrev pub is_machine : Layer → Bool
is_machine l = elim l [ layer.Machine ↦ true | _ ↦ false ]

abbrev pub is_work : Layer → Bool
is_work l = elim l [ layer.Work ↦ true | _ ↦ false ]

abbrev pub is_in_layer : Layer → Shape → Bool
is_in_layer l s = elim s [ shape.Passing ↦ is_time l | shape.Down ↦ is_machine l | shape.Idle ↦ is_machine l | _ ↦ is_work l ]

abbrev pub time_of : Bar → ℕ
time_of b = minus b.to.moment b.from.moment

abbrev pub call_class : Bar → ℕ → Class
call_class b io = if nat_lt io (time_of b) then class.Late else class.Flying

unfoldable pub class_of : Bar → ℕ → Class
class_of b io =
    elim b.shape [
      | shape.Passing ↦ class.Passing
      | shape.Down ↦ class.Down
      | shape.Idle ↦ class.Idle
      | shape.Waiting ↦ class.Waiting
      | shape.Accepted ↦ class.Accepted
      | shape.Refused ↦ class.Refused
      | shape.Unclear ↦ class.Unclear
      | shape.Read ↦ call_class b io
      | shape.Write ↦ call_class b io
      | shape.Orphan ↦ class.Orphan
      | shape.Joining ↦ class.Joining
      | shape.Joined ↦ class.Joined
      | shape.Left ↦ class.Left
      | shape.Expired ↦ class.Expired
      | shape.Exclusive ↦ class.Held (b.colour % 8)
      | shape.Shared ↦ class.Held (b.colour % 8)
      | shape.Gap ↦ class.Gap
      | shape.Wanted ↦ class.Wanted
    ]

-- ---- where it stands

abbrev pub is_whole : Shape → Bool
is_whole s = elim s [ shape.Passing ↦ true | shape.Down ↦ true | shape.Idle ↦ true | _ ↦ false ]

unfoldable pub bar_top : Place → Bar → ℕ
bar_top p b =
    elim b.shape [
      | shape.Passing ↦ p.top
      | shape.Down ↦ p.top
      | shape.Idle ↦ p.top
      | shape.Waiting ↦ plus (commands_top p) (times b.row 13)
      | shape.Accepted ↦ plus (commands_top p) (times b.row 13)
      | shape.Refused ↦ plus (commands_top p) (times b.row 13)
      | shape.Unclear ↦ plus (commands_top p) (times b.row 13)
      | shape.Read ↦ plus (calls_top p) 5
      | shape.Write ↦ plus (calls_top p) 5
      | shape.Orphan ↦ plus (calls_top p) 5
      | shape.Joining ↦ plus (links_top p) (times b.row 9)
      | shape.Joined ↦ plus (links_top p) (times b.row 9)
      | shape.Left ↦ plus (links_top p) (times b.row 9)
      | shape.Expired ↦ plus (links_top p) (times b.row 9)
      | shape.Exclusive ↦ plus (held_top p) (times b.row 14)
      | shape.Shared ↦ plus (held_top p) (times b.row 14)
      | shape.Gap ↦ plus (plus (held_top p) (times b.row 14)) 5
      | shape.Wanted ↦ plus (plus (held_top p) (times b.row 14)) 5
    ]

unfoldable pub bar_height : Place → Bar → ℕ
bar_height p b =
    elim b.shape [
      | shape.Passing ↦ minus (bottom_of p) p.top
      | shape.Down ↦ minus (bottom_of p) p.top
      | shape.Idle ↦ minus (bottom_of p) p.top
      | shape.Waiting ↦ 11
      | shape.Accepted ↦ 11
      | shape.Refused ↦ 11
      | shape.Unclear ↦ 11
      | shape.Read ↦ 3
      | shape.Write ↦ 3
      | shape.Orphan ↦ 3
      | shape.Joining ↦ 6
      | shape.Joined ↦ 6
      | shape.Left ↦ 6
      | shape.Expired ↦ 6
      | shape.Exclusive ↦ 11
      | shape.Shared ↦ 11
      | shape.Gap ↦ 2
      | shape.Wanted ↦ 2
    ]

unfoldable pub area_of : Plan → Bar → Area
area_of l b =
    let x : ℕ = x_of l.scale b.from in
    let width : ℕ = max (minus (x_of l.scale b.to) x) 3 in
    if b.machine == 0 then record { x = x; y = 32; width = width; height = minus l.bottom 32 }
    else let p : Place = place_of l.places b.machine in record { x = x; y = bar_top p b; width = width; height = bar_height p b }

-- ---- its words

-- What stands behind the name or the text that a title begins with.
unfoldable pub middle_words : Shape → List ℕ
middle_words s =
    elim s [
      | shape.Waiting ↦ codes ": no answer"
      | shape.Accepted ↦ codes ": "
      | shape.Refused ↦ codes ": "
      | shape.Unclear ↦ codes ": one of the commands that wait is answered "
      | shape.Joining ↦ codes ": joining, expires at reading "
      | shape.Joined ↦ codes ": renewed, expires at reading "
      | shape.Left ↦ codes ": its daemon has crashed, expires at reading "
      | shape.Expired ↦ codes ": expired, the test fails, since reading "
      | shape.Exclusive ↦ codes " held ex by process "
      | shape.Shared ↦ codes " held sh by process "
      | shape.Gap ↦ codes " held by nobody"
      | shape.Wanted ↦ codes " held by nobody"
      | _ ↦ []
    ]

unfoldable pub held_words : List ℕ → List ℕ → Bar → List ℕ
held_words name held b = name ++ held ++ decimal b.number ++ codes ", instance " ++ decimal b.until

abbrev pub call_words : List ℕ → Bar → List ℕ → List ℕ
call_words what b name = what ++ decimal b.number ++ codes " " ++ name

-- What it is.
unfoldable pub what : Kept → Bar → List ℕ
what k b =
    let name : List ℕ = text_at k.texts b.name in
    let text : List ℕ = text_at k.texts b.text in
    let reply : List ℕ = text_at k.texts b.reply in
    elim b.shape [
      | shape.Passing ↦ codes "time passes"
      | shape.Down ↦ codes "down"
      | shape.Idle ↦ codes "no daemon"
      | shape.Waiting ↦ text ++ middle_words b.shape ++ reply
      | shape.Accepted ↦ text ++ middle_words b.shape ++ reply
      | shape.Refused ↦ text ++ middle_words b.shape ++ reply
      | shape.Unclear ↦ text ++ middle_words b.shape ++ reply
      | shape.Read ↦ call_words (codes "call ") b name
      | shape.Write ↦ call_words (codes "call ") b name
      | shape.Orphan ↦ call_words (codes "its daemon has ended: call ") b name
      | shape.Joining ↦ name ++ middle_words b.shape ++ decimal b.until
      | shape.Joined ↦ name ++ middle_words b.shape ++ decimal b.until
      | shape.Left ↦ name ++ middle_words b.shape ++ decimal b.until
      | shape.Expired ↦ name ++ middle_words b.shape ++ decimal b.until
      | shape.Exclusive ↦ held_words name (middle_words b.shape) b
      | shape.Shared ↦ held_words name (middle_words b.shape) b
      | shape.Gap ↦ name ++ middle_words b.shape ++ []
      | shape.Wanted ↦ name ++ middle_words b.shape ++ []
    ]

-- What it is, from when to when, and how long.
abbrev pub title : Kept → Bar → List ℕ
title k b =
    what k b ++ codes " (" ++ decimal b.from.moment ++ codes " to " ++ decimal b.to.moment ++ codes " ms, " ++ decimal (time_of b) ++ codes " ms)"

abbrev pub command_words : Kept → Bar → List ℕ
command_words k b =
    let reply : List ℕ = text_at k.texts b.reply in
    (word_at (text_at k.texts b.text) 0 ++ codes " " ++ behind_colon (text_at k.texts b.name)) ++ (if length reply == 0 then [] else codes ": " ++ reply ++ [])

unfoldable pub words : Kept → Bar → List ℕ
words k b =
    let name : List ℕ = behind_colon (text_at k.texts b.name) in
    elim b.shape [
      | shape.Down ↦ codes "down"
      | shape.Idle ↦ codes "no daemon"
      | shape.Exclusive ↦ name ++ codes " by " ++ decimal b.number
      | shape.Shared ↦ name ++ codes " by " ++ decimal b.number
      | shape.Gap ↦ (name ++ codes " free for " ++ decimal (time_of b)) ++ codes " ms"
      | shape.Wanted ↦ (name ++ codes " free for " ++ decimal (time_of b)) ++ codes " ms"
      | _ ↦ []
    ]

-- ---- its elements

-- The label, of this class, in this area.
unfoldable pub label_there : Bar → Area → List ℕ → List ℕ
label_there b a label =
    let x : ℕ = plus a.x 4 in
    let low : ℕ = plus a.y (minus a.height 5) in
    elim b.shape [
      | shape.Idle ↦ element_text (Label class.Dim x low label)
      | shape.Down ↦ element_text (Label class.Inside x low label)
      | shape.Gap ↦ element_text (Label class.Dim (plus x 10) (minus a.y 1) label)
      | shape.Wanted ↦ element_text (Label class.Bad (plus x 10) (minus a.y 1) label)
      | _ ↦ element_text (Label class.Inside x (plus a.y 9) label)
    ]

abbrev pub has_room : List ℕ → Area → Bool
has_room label a = nat_lt 0 (length label) && nat_le (plus (letters (length label)) 8) a.width

abbrev pub label_text : Kept → Bar → Area → List ℕ
label_text k b a = if has_room (words k b) a then label_there b a (words k b) else []

abbrev pub tick : Class → Area → ℕ → ℕ → List ℕ
tick c a up high = element_text (Rect c (record { x = a.x; y = minus a.y up; width = 2; height = high }))

unfoldable pub detail_text : Bar → Area → List ℕ
detail_text b a =
    elim b.shape [
      | shape.Read ↦ tick class.Read a 2 5
      | shape.Write ↦ tick class.Write a 5 8
      | shape.Orphan ↦ tick class.Write a 5 8
      | shape.Joined ↦ tick class.Renewed a 0 7
      | shape.Shared ↦ element_text (Rect class.Shared a)
      | _ ↦ []
    ]

abbrev pub bar_text : Kept → Plan → Bar → List ℕ
bar_text k l b =
    let a : Area = area_of l b in element_text (Titled (class_of b k.io) a (title k b)) ++ detail_text b a ++ label_text k b a

abbrev pub layer_text : Kept → Plan → Layer → Bar → List ℕ
layer_text k l y b = if is_in_layer y b.shape then bar_text k l b else []

abbrev pub bars_text : Kept → Plan → List Bar → Layer → List ℕ
bars_text k l bs y = flat_map (layer_text k l y) bs

-- ---- the labels of commands, each where it covers no earlier one of its row

abbrev pub is_refused : Shape → Bool
is_refused s = elim s [ shape.Refused ↦ true | _ ↦ false ]

abbrev pub command_class : Shape → Class
command_class s = if is_refused s then class.Bad else class.Plain

abbrev pub command_text : Kept → Plan → Bar → List ℕ
command_text k l b =
    let a : Area = area_of l b in element_text (Label (command_class b.shape) (plus a.x 4) (plus a.y 9) (command_words k b))

abbrev pub command_end : Kept → Plan → Bar → ℕ
command_end k l b = plus (area_of l b).x (plus (letters (length (command_words k b))) 8)

-- What is drawn so far, and from where on there is room.
pub record Row : Type 0 where
  pub text : List ℕ
  pub free : ℕ

abbrev pub is_shown : Plan → ℕ → ℕ → ℕ → Bar → Bool
is_shown l m row free b = b.machine == m && b.row == row && is_command b.shape && nat_le free (x_of l.scale b.from)

abbrev pub row_with : Kept → Plan → ℕ → ℕ → Row → Bar → Row
row_with k l m row r b =
    if is_shown l m row r.free b then record { text = r.text ++ command_text k l b; free = command_end k l b } else r

abbrev pub row_text : Kept → Plan → List Bar → ℕ → ℕ → List ℕ
row_text k l bs m row = (fold (row_with k l m row) (record { text = []; free = 0 }) bs).text

abbrev pub machine_commands : Kept → Plan → List Bar → ℕ → List ℕ
machine_commands k l bs m = row_text k l bs m 0 ++ row_text k l bs m 1 ++ row_text k l bs m 2

-- Of the first so many machines.
abbrev pub commands_to : Kept → Plan → List Bar → ℕ → List ℕ
commands_to k l bs zero = []
commands_to k l bs (suc n) = commands_to k l bs n ++ machine_commands k l bs (n + 1)

-- ---- moments

abbrev pub moment_text : Plan → ℕ → List ℕ → List ℕ
moment_text l x digits =
    element_text (Label class.Dim (minus x (letters (length digits) / 2)) 28 digits)
    ++ element_text (Rect class.Grid (record { x = x; y = 32; width = 1; height = minus l.bottom 32 }))

abbrev pub moment_end : ℕ → List ℕ → ℕ
moment_end x digits = plus x (plus (letters (length digits)) 8)

abbrev pub is_passing : Shape → Bool
is_passing s = elim s [ shape.Passing ↦ true | _ ↦ false ]

abbrev pub moments_with : Plan → Row → Bar → Row
moments_with l r b =
    let x : ℕ = x_of l.scale b.to in
    if is_passing b.shape && nat_le r.free x then record { text = r.text ++ moment_text l x (decimal b.to.moment); free = moment_end x (decimal b.to.moment) } else r

abbrev pub moments_text : Plan → List Bar → List ℕ
moments_text l bs = (fold (moments_with l) (record { text = []; free = 0 }) bs).text
