-- The whole picture, as text.
use Rattle.sl_drawing.specs.Elements.{Label, Rect, element_text, tail_text}
use Rattle.sl_drawing.specs.Sums.{letters, minus, plus, times}
use Rattle.sl_drawing.specs.declared.classes.Class.TheVariants as class
use Rattle.sl_drawing.specs.declared.classes.Class.{Class}
use Rattle.sl_picture.specs.Bars.{Row, bars_text, commands_to, moments_text}
use Rattle.sl_picture.specs.Captions.{above_text}
use Rattle.sl_picture.specs.Kept.{Kept, text_at}
use Rattle.sl_picture.specs.Layout.{Plan, all_bars, bottom_of, calls_top, commands_top, held_top, links_top, plan_of}
use Rattle.sl_picture.specs.Fates.{no_text}
use Rattle.sl_picture.specs.Said.{behind_colon}
use Rattle.sl_picture.specs.Signs.{columns_text, marks_text, notes_text}
use Rattle.sl_picture.specs.declared.bars.Layer.TheVariants as layer
use Rattle.sl_picture.specs.declared.layout.Place.{Place}
use Rattle.sl_picture.specs.declared.shapes.Bar.{Bar}
use Rattle.std.specs.Prelude.{List, codes, decimal, length, min, slice_index_or, suc, zero, [], ℕ, ◌++◌, ◌+◌, ◌%◌}

-- ---- the legend

unfoldable pub key_text : Class → ℕ → List ℕ → List ℕ
key_text c x text = element_text (Rect c (record { x = x; y = 4; width = 10; height = 9 })) ++ element_text (Label class.Plain (plus x 14) 12 text)

abbrev pub key_end : ℕ → List ℕ → ℕ
key_end x text = plus x (plus (letters (length text)) 28)

-- The names of the resources, and the keys of the first so many.
abbrev pub resource_name : Kept → ℕ → List ℕ
resource_name k n = behind_colon (text_at k.texts (slice_index_or k.resources n no_text))

abbrev pub resources_to : Kept → ℕ → Row
resources_to k zero = record { text = []; free = 104 }
resources_to k (suc n) =
    let r : Row = resources_to k n in
    record { text = r.text ++ key_text (class.Held (n % 8)) r.free (resource_name k n); free = key_end r.free (resource_name k n) }

abbrev pub resources_row : Kept → Row
resources_row k = resources_to k (min (length k.resources) 12)

abbrev pub late_words : Kept → List ℕ
late_words k = codes "call above ms " ++ decimal k.io

abbrev pub dead_words : Kept → List ℕ
dead_words k = codes "time passes; a host counts as over after ms " ++ decimal k.dead

abbrev pub late_key : Kept → ℕ → List ℕ
late_key k x = key_text class.Late x (late_words k)

abbrev pub late_end : Kept → ℕ → ℕ
late_end k x = key_end x (late_words k)

abbrev pub time_key : Kept → ℕ → List ℕ
time_key k x = key_text class.Passing x (dead_words k)

-- The keys of what looks the same for each resource, from a place on, and where they end.
abbrev pub shapes_end : ℕ → ℕ
shapes_end x = key_end (key_end x (codes "shared")) (codes "watchdog's test fails")

abbrev pub shapes_text : ℕ → List ℕ
shapes_text x = key_text (class.Held 0) x [] ++ key_text class.Shared x (codes "shared") ++ key_text class.Expired (key_end x (codes "shared")) (codes "watchdog's test fails")

-- The unit of the moments.
unfoldable pub unit_text : List ℕ
unit_text = element_text (Label class.Dim 88 28 (codes "ms"))

-- The keys of what is not a resource, from a place on.
abbrev pub keys_text : Kept → ℕ → List ℕ
keys_text k x = shapes_text x ++ late_key k (shapes_end x) ++ time_key k (late_end k (shapes_end x)) ++ unit_text

-- ---- machines

unfoldable pub upper_rows : Place → List ℕ
upper_rows p = element_text (Label class.Dim 50 (plus (commands_top p) 9) (codes "commands")) ++ element_text (Label class.Dim 72 (plus (calls_top p) 9) (codes "disk"))

unfoldable pub lower_rows : Place → List ℕ
lower_rows p = element_text (Label class.Dim 56 (plus (links_top p) 6) (codes "session")) ++ element_text (Label class.Dim 67 (plus (held_top p) 9) (codes "holds"))

abbrev pub rows_text : Place → List ℕ
rows_text p = upper_rows p ++ lower_rows p

abbrev pub lane_text : Plan → List ℕ → Place → List ℕ
lane_text l digits p =
    element_text (Rect class.Lane (record { x = 4; y = p.top; width = minus l.width 8; height = minus (bottom_of p) p.top }))
    ++ element_text (Label class.Number 10 (plus p.top 18) digits) ++ rows_text p

-- The first so many.
abbrev pub no_place : Place
no_place = record { top = 52; commands = 0; links = 0; held = 0 }

abbrev pub lane_at : Plan → ℕ → List ℕ
lane_at l n = lane_text l (decimal (plus n 1)) (slice_index_or l.places n no_place)

abbrev pub lanes_to : Plan → ℕ → List ℕ
lanes_to l zero = []
lanes_to l (suc n) = lanes_to l n ++ lane_at l n

-- ---- the whole

abbrev pub ground_text : Kept → Plan → List ℕ
ground_text k l = (resources_row k).text ++ keys_text k (resources_row k).free ++ lanes_to l (length l.places)

abbrev pub last_text : Kept → Plan → List ℕ → List ℕ
last_text k l last = element_text (Label class.Plain 104 (plus (plus l.bottom 24) (times (length k.notes) 13)) last)

-- The layers below the words.
abbrev pub layers_text : Kept → Plan → List Bar → List ℕ
layers_text k l bs =
    bars_text k l bs layer.Time ++ moments_text l bs ++ columns_text k l ++ bars_text k l bs layer.Machine ++ bars_text k l bs layer.Work

abbrev pub words_text : Kept → Plan → List Bar → List ℕ → List ℕ
words_text k l bs last = commands_to k l bs (length l.places) ++ marks_text l k.marks ++ notes_text k l ++ last_text k l last

abbrev pub planned_text : List (List ℕ) → Kept → Plan → List Bar → List ℕ → List ℕ
planned_text caption k l bs last = above_text l caption ++ ground_text k l ++ layers_text k l bs ++ words_text k l bs last ++ tail_text ++ tail_text

-- The picture of what is kept, below the lines of this caption, with this last line.
unfoldable pub picture_of : List (List ℕ) → Kept → List ℕ → List ℕ
picture_of caption k last = planned_text caption k (plan_of (all_bars k) k) (all_bars k) last
