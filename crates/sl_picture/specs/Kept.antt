-- What is kept of a run for its picture, and what becomes of it.
use Rattle.sl_drawing.specs.Sums.{plus, times}
use Rattle.sl_picture.specs.Fates.{act, fate, hidden, is_holding, is_link, is_waiting, no_text}
use Rattle.sl_picture.specs.declared.fates.Act.{Act}
use Rattle.sl_picture.specs.declared.fates.Deed.TheVariants.{Answered, Denied, Granted, Hidden, Released}
use Rattle.sl_picture.specs.declared.fates.Fate.{Fate}
use Rattle.sl_picture.specs.declared.kept.Part.{Part}
use Rattle.sl_picture.specs.declared.shapes.Bar.{Bar}
use Rattle.sl_picture.specs.declared.shapes.Column.{Column}
use Rattle.sl_picture.specs.declared.shapes.Instant.{Instant}
use Rattle.sl_picture.specs.declared.shapes.Lane.{Lane}
use Rattle.sl_picture.specs.declared.shapes.Mark.{Mark}
use Rattle.sl_picture.specs.declared.shapes.Note.{Note}
use Rattle.sl_picture.specs.declared.shapes.Shape.TheVariants as shape
use Rattle.sl_picture.specs.declared.shapes.Shape.{Shape}
use Rattle.sl_picture.specs.declared.shapes.Sign.{Sign}
use Rattle.sl_picture.specs.declared.shapes.Text.{Text}
use Rattle.sl_run.specs.declared.header.FirstReading.{FirstReading}
use Rattle.sl_run.specs.declared.header.Header.{Header}
use Rattle.sl_run.specs.declared.header.ResourceLine.{ResourceLine}
use Rattle.sl_run.specs.declared.header.SessionLine.{SessionLine}
use Rattle.sl_time.specs.Times.{dead, fail}
use Rattle.std.specs.List.{flat_map, list_any, position}
use Rattle.std.specs.Option.{option_map_or, option_to_list}
use Rattle.std.specs.Prelude.{Bool, List, None, Option, Some, bytes_eq, codes, count_by, drop, false, find, fold, if◌then◌else◌, length, min, nat_le, nat_lt, not, replicate, slice_index_or, slice_set, suc, take, true, zero, [], ℕ, ◌&&◌, ◌++◌, ◌+◌, ◌-◌, ◌/◌, ◌==◌, ◌%◌, ◌∷◌, ◌||◌}

-- What is kept: which lines are drawn, the place on the axis and the moment at which the picture begins, whether the line that is taken is a
-- reset; texts, open bars and ended ones, marks, columns, comments, machines; the header's resources, and two of its times.
pub record Kept : Type 0 where
  pub part : Part
  pub here : Instant
  pub begun : ℕ
  pub resetting : Bool
  pub texts : List ℕ
  pub opened : List Bar
  pub done : List Bar
  pub marks : List Mark
  pub columns : List Column
  pub notes : List Note
  pub lanes : List Lane
  pub resources : List Text
  pub io : ℕ
  pub dead : ℕ

-- ---- texts and machines

abbrev pub text_at : List ℕ → Text → List ℕ
text_at texts t = take t.len (drop t.start texts)

abbrev pub is_text : List ℕ → Text → List ℕ → Bool
is_text texts t name = bytes_eq (text_at texts t) name

abbrev pub no_lane : Lane
no_lane = record { commands = 0; locks = false; reading = 0 }

-- Whether there is a machine of this number, of so many.
abbrev pub is_machine : List Lane → ℕ → Bool
is_machine lanes m = nat_lt 0 m && nat_le m (length lanes)

abbrev pub lane_at : List Lane → ℕ → Lane
lane_at lanes m = if is_machine lanes m then slice_index_or lanes (m - 1) no_lane else no_lane

abbrev pub reading_at : List Lane → ℕ → ℕ
reading_at lanes m = (lane_at lanes m).reading / 1000

abbrev pub lanes_with : ℕ → Lane → List Lane → List Lane
lanes_with m l lanes = if is_machine lanes m then slice_set lanes (m - 1) l else lanes

abbrev pub with_lane : ℕ → Lane → Kept → Kept
with_lane m l k = record k { lanes = lanes_with m l k.lanes }

-- A text is kept: its place, and what is kept then.
abbrev pub place_of : List ℕ → Kept → Text
place_of text k = record { start = length k.texts; len = length text }

abbrev pub keeping : List ℕ → Kept → Kept
keeping text k = record k { texts = k.texts ++ text }

-- ---- bars

abbrev pub bar : ℕ → Shape → Kept → Bar
bar m s k =
    record { machine = m; shape = s; number = 0; until = 0; colour = 0; row = 0; from = k.here; to = k.here; name = no_text; text = no_text; reply = no_text }

abbrev pub begun_with : Bar → Kept → Kept
begun_with b k = record k { opened = k.opened ++ b ∷ [] }

abbrev pub marked : ℕ → Sign → Kept → Kept
marked m s k = record k { marks = k.marks ++ record { machine = m; sign = s; at = k.here } ∷ [] }

-- What becomes of a bar where something happens to what has this name.
abbrev pub fate_of : Act → List ℕ → Kept → Bar → Fate
fate_of a name k b = fate a (is_text k.texts b.name name) (reading_at k.lanes b.machine) k.here b

-- The bars that it leaves open, and those that it ends: one each, or none.
unfoldable pub stays_of : Act → List ℕ → Kept → Bar → List Bar
stays_of a name k b = option_to_list (fate_of a name k b).stays

unfoldable pub ends_of : Act → List ℕ → Kept → Bar → List Bar
ends_of a name k b = option_to_list (fate_of a name k b).ends

unfoldable pub happened : Act → List ℕ → Kept → Kept
happened a name k = record k { opened = flat_map (stays_of a name k) k.opened; done = k.done ++ flat_map (ends_of a name k) k.opened }

-- ---- rows

abbrev pub colour_of : List ℕ → List Text → List ℕ → ℕ
colour_of texts resources name = option_map_or (λ n. n) (position (λ r. is_text texts r name) resources) 0

abbrev pub takes : ℕ → Bool → ℕ → Bar → Bool
takes m holding row b = b.machine == m && b.row == row && (if holding then is_holding b.shape else is_link b.shape)

abbrev pub is_taken : List Bar → ℕ → Bool → ℕ → Bool
is_taken bs m holding row = list_any (takes m holding row) bs

-- The first row from this one on that is free, of so many.
abbrev pub free_from : ℕ → List Bar → ℕ → Bool → ℕ → ℕ
free_from zero bs m holding row = row
free_from (suc n) bs m holding row = if is_taken bs m holding row then free_from n bs m holding (row + 1) else row

abbrev pub free_row : List Bar → ℕ → Bool → ℕ
free_row bs m holding = free_from (length bs) bs m holding 0

abbrev pub holds : List ℕ → List ℕ → Bar → Bool
holds texts name b = is_holding b.shape && is_text texts b.name name

abbrev pub is_held : List ℕ → List Bar → List ℕ → Bool
is_held texts bs name = list_any (holds texts name) bs

abbrev pub waits : ℕ → ℕ → Bar → Bool
waits m number b = b.machine == m && is_waiting b.shape && (number == 0 || number == b.number)

abbrev pub is_alone : List Bar → ℕ → Bool
is_alone bs m = count_by (waits m 0) bs == 1

abbrev pub asked : List Bar → ℕ → ℕ → Text
asked bs m number = option_map_or (λ b. b.name) (find (waits m number) bs) no_text

-- ---- what happens

-- A connection begins.
abbrev pub with_link : ℕ → Shape → List ℕ → ℕ → Kept → Kept
with_link m s lockspace until k =
    begun_with (record (bar m s k) { name = place_of lockspace k; row = free_row k.opened m false; until = until }) (keeping lockspace k)

-- A resource is granted on a machine, in this row.
abbrev pub bridging : ℕ → ℕ → List ℕ → Kept → Kept
bridging m row resource k = let a : Act = record (act Granted m 0) { row = row } in happened a resource k

-- A holding begins; a resource that was free up to now is free no more.
abbrev pub with_holding : ℕ → Shape → ℕ → List ℕ → ℕ → Kept → Kept
with_holding m s process resource instance k =
    let row : ℕ = free_row k.opened m true in
    let h : Kept = bridging m row resource k in
    begun_with (record (bar m s h) { number = process; until = instance; colour = colour_of h.texts h.resources resource; row = row; name = place_of resource h }) (keeping resource h)

-- A holding has ended; if it was the last of its resource, that is free from now on.
abbrev pub gap : Kept → Shape
gap k = if k.resetting then shape.Wanted else shape.Gap

abbrev pub freed : ℕ → List ℕ → Kept → Kept
freed m resource k =
    if is_held k.texts k.opened resource then k
    else begun_with (record (bar m (gap k) k) { name = place_of resource k }) (keeping resource k)

abbrev pub without_holding : ℕ → ℕ → List ℕ → Kept → Kept
without_holding m process resource k = freed m resource (happened (act Released m process) resource k)

-- A command is given.
abbrev pub with_command : ℕ → Bool → List ℕ → List ℕ → Kept → Kept
with_command m locks about text k =
    let lane : Lane = lane_at k.lanes m in
    let number : ℕ = plus lane.commands 1 in
    let l : Kept = with_lane m (record lane { commands = number; locks = lane.locks || locks }) k in
    let n : Kept = keeping about l in
    begun_with (record (bar m shape.Waiting n) { number = number; row = lane.commands % 3; name = place_of about l; text = place_of text n }) (keeping text n)

abbrev pub denied : Text → Kept → Kept
denied about k = happened (act Denied 0 0) (text_at k.texts about) k

abbrev pub command_ended : ℕ → ℕ → Shape → List ℕ → Kept → Kept
command_ended m number s reply k =
    let a : Act = record (act Answered m number) { shape = s; reply = place_of reply k } in happened a [] (keeping reply k)

abbrev pub one_answered : ℕ → ℕ → Bool → List ℕ → Kept → Kept
one_answered m number ok reply k =
    if ok then command_ended m number shape.Accepted reply k else command_ended m number shape.Refused reply (denied (asked k.opened m number) k)

-- A command is answered: which, is known where none of the machine's commands was for lvmlockd, or where one alone waits.
abbrev pub answered : ℕ → ℕ → Bool → List ℕ → Kept → Kept
answered m number ok reply k =
    if (lane_at k.lanes m).locks then if is_alone k.opened m then one_answered m 0 ok reply k else command_ended m 0 shape.Unclear reply k
    else one_answered m number ok reply k

-- What came before is not shown.
abbrev pub hiding : Kept → Kept
hiding k =
    happened (act Hidden 0 0) []
    (record k { here = record { events = 0; moment = k.here.moment }; begun = k.here.moment; done = []; marks = []; columns = []; notes = [] })

-- ---- at first

abbrev pub clock_set : FirstReading → Kept → Kept
clock_set c k = with_lane c.machine (record no_lane { reading = times c.reading 1000 }) k

abbrev pub clocks_set : List FirstReading → Kept → Kept
clocks_set cs k = fold (λ l c. clock_set c l) k cs

abbrev pub resource_text : ResourceLine → List ℕ
resource_text r = r.lockspace ++ codes ":" ++ r.name

abbrev pub with_resource : Kept → ResourceLine → Kept
with_resource k r = let t : Text = place_of (resource_text r) k in record (keeping (resource_text r) k) { resources = k.resources ++ t ∷ [] }

abbrev pub with_session : ℕ → Kept → SessionLine → Kept
with_session until k s = with_link s.machine shape.Joined s.lockspace (plus (reading_at k.lanes s.machine) until) k

abbrev pub with_idle : ℕ → Kept → Kept
with_idle m k = if is_taken k.opened m false 0 then k else begun_with (bar m shape.Idle k) k

-- The machines from the first on, so many.
abbrev pub idle_to : ℕ → Kept → Kept
idle_to zero k = k
idle_to (suc n) k = with_idle (n + 1) (idle_to n k)

abbrev pub empty : Part → Header → Kept
empty part h =
    record {
      part = part;
      here = record { events = 0; moment = 0 };
      begun = 0;
      resetting = false;
      texts = [];
      opened = [];
      done = [];
      marks = [];
      columns = [];
      notes = [];
      lanes = replicate h.machines no_lane;
      resources = [];
      io = h.timing.io;
      dead = dead h.timing;
    }

-- The picture of a header's world at moment 0.
unfoldable pub first_kept : Part → Header → Kept
first_kept part h =
    let clocks : Kept = clocks_set h.clocks (empty part h) in
    let resources : Kept = fold with_resource clocks h.resources in
    let sessions : Kept = fold (with_session (fail h.timing)) resources h.sessions in
    idle_to (length sessions.lanes) sessions
