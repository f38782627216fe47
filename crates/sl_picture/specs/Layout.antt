-- Where everything stands.
use Rattle.sl_drawing.specs.Sums.{letters, minus, plus, times}
use Rattle.sl_picture.specs.Fates.{ended, is_command, is_gap, is_holding, is_link}
use Rattle.sl_picture.specs.Kept.{Kept}
use Rattle.sl_picture.specs.declared.layout.Place.{Place}
use Rattle.sl_picture.specs.declared.layout.Rows.TheVariants as rows
use Rattle.sl_picture.specs.declared.layout.Rows.{Rows}
use Rattle.sl_picture.specs.declared.layout.Scale.{Scale}
use Rattle.sl_picture.specs.declared.shapes.Bar.{Bar}
use Rattle.sl_picture.specs.declared.shapes.Instant.{Instant}
use Rattle.sl_picture.specs.declared.shapes.Note.{Note}
use Rattle.sl_picture.specs.declared.shapes.Shape.{Shape}
use Rattle.std.specs.Prelude.{Bool, List, filter, fold, if◌then◌else◌, length, map, max, min, nat_le, nat_lt, not, slice_index_or, suc, zero, [], ℕ, ◌&&◌, ◌*◌, ◌++◌, ◌+◌, ◌-◌, ◌/◌, ◌==◌, ◌∷◌}

-- ---- the axis

abbrev pub event_width : ℕ → ℕ
event_width events = min (max (2400 / plus events 1) 3) 16

abbrev pub time_width : ℕ → ℕ → ℕ
time_width events moments = if moments == 0 then 0 else max (times events (event_width events) / 2) 900

abbrev pub scale_of : ℕ → Instant → Scale
scale_of begun last =
    let moments : ℕ = minus last.moment begun in
    record { event = event_width last.events; time = time_width last.events moments; moments = max moments 1; begun = begun }

abbrev pub share : ℕ → ℕ → ℕ → ℕ
share width part whole = width * min part whole / whole

abbrev pub x_of : Scale → Instant → ℕ
x_of s at = plus (plus 104 (times at.events s.event)) (share s.time (minus at.moment s.begun) (max s.moments 1))

-- ---- machines

abbrev pub commands_top : Place → ℕ
commands_top p = plus p.top 4

abbrev pub calls_top : Place → ℕ
calls_top p = plus (plus (commands_top p) (times p.commands 13)) 2

abbrev pub links_top : Place → ℕ
links_top p = plus (calls_top p) 13

abbrev pub held_top : Place → ℕ
held_top p = plus (plus (links_top p) (times p.links 9)) 3

abbrev pub bottom_of : Place → ℕ
bottom_of p = plus (plus (held_top p) (times p.held 14)) 2

abbrev pub is_of_rows : Rows → Shape → Bool
is_of_rows r s = elim r [ rows.Commands ↦ is_command s | rows.Links ↦ is_link s | rows.Holdings ↦ is_holding s ]

abbrev pub more_rows : Rows → ℕ → ℕ → Bar → ℕ
more_rows r m most b = if b.machine == m && is_of_rows r b.shape then max most (plus b.row 1) else most

abbrev pub rows_for : List Bar → Rows → ℕ → ℕ
rows_for bs r m = fold (more_rows r m) 1 bs

abbrev pub no_place : Place
no_place = record { top = 52; commands = 0; links = 0; held = 0 }

abbrev pub place_of : List Place → ℕ → Place
place_of ps m = if nat_lt 0 m && nat_le m (length ps) then slice_index_or ps (m - 1) no_place else no_place

abbrev pub place_at : List Bar → ℕ → ℕ → Place
place_at bs m top = record { top = top; commands = rows_for bs rows.Commands m; links = rows_for bs rows.Links m; held = rows_for bs rows.Holdings m }

-- The top of the machine behind the first so many, and the places of these.
abbrev pub top_behind : List Bar → ℕ → ℕ
top_behind bs zero = 52
top_behind bs (suc n) = plus (bottom_of (place_at bs (n + 1) (top_behind bs n))) 6

abbrev pub places_of : List Bar → ℕ → List Place
places_of bs zero = []
places_of bs (suc n) = places_of bs n ++ place_at bs (n + 1) (top_behind bs n) ∷ []

-- ---- the whole

pub record Plan : Type 0 where
  pub scale : Scale
  pub places : List Place
  pub bottom : ℕ
  pub width : ℕ
  pub height : ℕ

abbrev pub wider : ℕ → Note → ℕ
wider width n = max width (plus 120 (letters n.text.len))

abbrev pub width_of : List Note → ℕ → ℕ
width_of ns least = fold wider least ns

abbrev pub all_bars : Kept → List Bar
all_bars k = k.done ++ map (ended k.here) (filter (λ b. not (is_gap b.shape)) k.opened)

unfoldable pub plan_of : List Bar → Kept → Plan
plan_of bs k =
    let scale : Scale = scale_of k.begun k.here in
    let places : List Place = places_of bs (length k.lanes) in
    let bottom : ℕ = bottom_of (place_of places (length places)) in
    record {
      scale = scale;
      places = places;
      bottom = bottom;
      width = width_of k.notes (max (plus (x_of scale k.here) 180) 900);
      height = plus (plus bottom 40) (times (length k.notes) 13);
    }
