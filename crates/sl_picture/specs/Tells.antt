-- What a line of a report tells for the picture, and a whole line of a schedule with what is told of it.
use Rattle.sl_drawing.specs.Sums.{plus}
use Rattle.sl_picture.specs.Events.{seen}
use Rattle.sl_picture.specs.Fates.{act}
use Rattle.sl_picture.specs.Kept.{Kept, answered, bar, begun_with, happened, hiding, keeping, marked, place_of, with_holding, with_link, without_holding}
use Rattle.sl_picture.specs.Said.{number_at, text_behind, word_at}
use Rattle.sl_picture.specs.declared.fates.Act.{Act}
use Rattle.sl_picture.specs.declared.fates.Deed.TheVariants.{Removed, Renewed}
use Rattle.sl_picture.specs.declared.shapes.Bar.{Bar}
use Rattle.sl_picture.specs.declared.shapes.Column.{Column}
use Rattle.sl_picture.specs.declared.shapes.Note.{Note}
use Rattle.sl_picture.specs.declared.shapes.Shape.TheVariants as shape
use Rattle.sl_picture.specs.declared.shapes.Shape.{Shape}
use Rattle.sl_picture.specs.declared.shapes.Sign.TheVariants as sign
use Rattle.sl_picture.specs.declared.shapes.Sign.{Sign}
use Rattle.sl_picture.specs.declared.tells.Told.TheVariants as told_as
use Rattle.sl_picture.specs.declared.tells.Told.{Told}
use Rattle.sl_text.specs.Forms.{lines_of}
use Rattle.std.specs.Prelude.{Bool, List, bytes_eq, codes, drop, fold, if◌then◌else◌, length, nat_lt, true, [], ℕ, ◌++◌, ◌==◌, ◌∷◌}

-- ---- words

unfoldable pub told_of : List ℕ → Told
told_of w =
    if bytes_eq w (codes "end") then told_as.End
    else if bytes_eq w (codes "signal") then told_as.Signal
    else if bytes_eq w (codes "wdmd") then told_as.Connection
    else if bytes_eq w (codes "grant") then told_as.Grant
    else if bytes_eq w (codes "reply") then told_as.Reply
    else if bytes_eq w (codes "call") then told_as.Call
    else if bytes_eq w (codes "test") then told_as.Test
    else told_as.Other

abbrev pub signal_of : List ℕ → Sign
signal_of w = if bytes_eq w (codes "kill") then sign.Kill else sign.Term

abbrev pub mode_of : List ℕ → Shape
mode_of w = if bytes_eq w (codes "sh") then shape.Shared else shape.Exclusive

abbrev pub call_of : List ℕ → Shape
call_of w = if bytes_eq w (codes "write") then shape.Write else shape.Read

abbrev pub test_of : List ℕ → Sign
test_of w = if bytes_eq w (codes "ok") then sign.TestHeld else sign.TestFailed

-- ---- a line of the report

abbrev pub renewed : ℕ → List ℕ → ℕ → Kept → Kept
renewed m lockspace until k = let a : Act = record (act Renewed m 0) { until = until } in happened a lockspace k

abbrev pub connected : List ℕ → Kept → Kept
connected line k =
    let m : ℕ = number_at line 0 in
    let lockspace : List ℕ = word_at line 3 in
    let until : ℕ = number_at line 4 in
    if bytes_eq (word_at line 2) (codes "register") then with_link m shape.Joining lockspace until k
    else if bytes_eq (word_at line 2) (codes "renew") then renewed m lockspace until k
    else happened (act Removed m 0) lockspace k

abbrev pub granted : List ℕ → Kept → Kept
granted line k = with_holding (number_at line 0) (mode_of (word_at line 4)) (number_at line 2) (word_at line 3) (number_at line 5) k

abbrev pub submitted : List ℕ → Kept → Kept
submitted line k =
    let what : List ℕ = text_behind line 3 in
    let n : Kept = keeping what k in
    begun_with (record (bar (number_at line 0) (call_of (word_at line 3)) n) { number = number_at line 2; name = place_of what k }) n

abbrev pub replied : List ℕ → Kept → Kept
replied line k = answered (number_at line 0) (number_at line 2) (bytes_eq (word_at line 3) (codes "ok")) (text_behind line 3) k

unfoldable pub told : List ℕ → Kept → Kept
told line k =
    let m : ℕ = number_at line 0 in
    elim (told_of (word_at line 1)) [
      | told_as.End ↦ without_holding m (number_at line 2) (word_at line 3) k
      | told_as.Signal ↦ marked m (signal_of (word_at line 3)) k
      | told_as.Connection ↦ connected line k
      | told_as.Grant ↦ granted line k
      | told_as.Reply ↦ replied line k
      | told_as.Call ↦ submitted line k
      | told_as.Test ↦ marked m (test_of (word_at line 2)) k
      | told_as.Other ↦ k
    ]

abbrev pub all_told : List ℕ → Kept → Kept
all_told report k = fold (λ n line. told line n) k (lines_of report)

-- ---- a line of the schedule

abbrev pub is_silent : List ℕ → Bool
is_silent [] = true
is_silent (b ∷ bs) = b == 35

abbrev pub noted : List ℕ → Kept → Kept
noted text k = let n : Note = record { at = k.here; text = place_of text k } in record (keeping text k) { notes = k.notes ++ n ∷ [] }

abbrev pub stepped : Kept → Kept
stepped k = record k { here = record { events = plus k.here.events 1; moment = k.here.moment } }

abbrev pub with_column : ℕ → List ℕ → List ℕ → Kept → Kept
with_column number line report k =
    let n : Kept = keeping line k in
    let c : Column = record { machine = number_at line 1; at = k.here; number = number; line = place_of line k; report = place_of report n } in
    stepped (record (keeping report n) { columns = k.columns ++ c ∷ [] })

abbrev pub happening : ℕ → List ℕ → List ℕ → Kept → Kept
happening number line report k =
    let n : Kept = all_told report (seen line k) in if bytes_eq (word_at line 0) (codes "pass") then n else with_column number line report n

abbrev pub silence : List ℕ → Kept → Kept
silence line k = if length line == 0 then k else noted (drop 1 line) k

abbrev pub with_line : ℕ → List ℕ → List ℕ → Kept → Kept
with_line number line report k = if is_silent line then silence line k else happening number line report k

-- A line with its number and what the report tells of it, in the picture of a part.
unfoldable pub taken : ℕ → List ℕ → List ℕ → Kept → Kept
taken number line report k =
    if nat_lt k.part.last number then k
    else let n : Kept = with_line number line report k in if nat_lt number n.part.first then hiding n else n
