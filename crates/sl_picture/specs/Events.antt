-- What a line of a schedule means for the picture.
use Rattle.sl_drawing.specs.Sums.{plus, times}
use Rattle.sl_picture.specs.Fates.{act}
use Rattle.sl_picture.specs.Kept.{Kept, bar, begun_with, happened, lane_at, marked, with_command, with_lane}
use Rattle.sl_picture.specs.Said.{number_at, number_in, text_behind, two_parts, word_at, words_behind}
use Rattle.sl_picture.specs.declared.events.Verb.TheVariants as verb
use Rattle.sl_picture.specs.declared.events.Verb.{Verb}
use Rattle.sl_picture.specs.declared.fates.Deed.TheVariants.{CallOver, CameUp, Crashed, Landed, Started, Ticked, WentDown}
use Rattle.sl_picture.specs.declared.fates.Deed.{Deed}
use Rattle.sl_picture.specs.declared.shapes.Bar.{Bar}
use Rattle.sl_picture.specs.declared.shapes.Lane.{Lane}
use Rattle.sl_picture.specs.declared.shapes.Shape.TheVariants as shape
use Rattle.sl_picture.specs.declared.shapes.Shape.{Shape}
use Rattle.sl_picture.specs.declared.shapes.Sign.TheVariants as sign
use Rattle.sl_picture.specs.declared.shapes.Sign.{Sign}
use Rattle.std.specs.Prelude.{Bool, List, bytes_eq, codes, false, if◌then◌else◌, length, nat_lt, suc, true, zero, [], ℕ, ◌++◌, ◌+◌, ◌==◌, ◌∷◌}

-- ---- verbs

abbrev pub machine_verb : List ℕ → Verb
machine_verb w =
    if bytes_eq w (codes "start") then verb.Start
    else if bytes_eq w (codes "crash") then verb.Crash
    else if bytes_eq w (codes "reset") then verb.Reset
    else if bytes_eq w (codes "restart") then verb.Restart
    else if bytes_eq w (codes "pass") then verb.Pass
    else verb.Other

unfoldable pub verb_of : List ℕ → Verb
verb_of w =
    if bytes_eq w (codes "command") then verb.Command
    else if bytes_eq w (codes "do") then verb.Do
    else if bytes_eq w (codes "land") then verb.Land
    else if bytes_eq w (codes "tear") then verb.Tear
    else if bytes_eq w (codes "answer") then verb.Answer
    else if bytes_eq w (codes "drop") then verb.Drop
    else machine_verb w

-- ---- time

abbrev pub growth_of : ℕ → List ℕ → ℕ
growth_of time word = if length word == 0 then times time 1000 else number_in word

abbrev pub grown : ℕ → Lane → Lane
grown growth l = record l { reading = plus l.reading growth }

abbrev pub clock_grown : ℕ → ℕ → Kept → Kept
clock_grown m growth k = with_lane m (grown growth (lane_at k.lanes m)) k

-- The clocks of the first so many machines.
abbrev pub clocks_grown : List ℕ → ℕ → ℕ → Kept → Kept
clocks_grown line time zero k = k
clocks_grown line time (suc n) k = clock_grown (n + 1) (growth_of time (word_at line (n + 2))) (clocks_grown line time n k)

abbrev pub time_passed : ℕ → Kept → Kept
time_passed time k =
    let n : Kept = record k { here = record { events = k.here.events; moment = plus k.here.moment time } } in
    if nat_lt 0 time then record n { done = k.done ++ record (bar 0 shape.Passing n) { from = k.here } ∷ [] } else n

abbrev pub passed : List ℕ → Kept → Kept
passed line k =
    let time : ℕ = number_at line 1 in
    let n : Kept = time_passed time k in
    happened (act Ticked 0 0) [] (clocks_grown line time (length n.lanes) n)

-- ---- commands

abbrev pub locks_line : List ℕ → Kept → Kept
locks_line line k = with_command (number_at line 1) true (codes ":" ++ word_at line 4) (text_behind line 3) k

abbrev pub daemon_line : List ℕ → Kept → Kept
daemon_line line k = with_command (number_at line 1) false (two_parts (word_at line 4)) (text_behind line 2) k

abbrev pub command : List ℕ → Kept → Kept
command line k = if bytes_eq (word_at line 2) (codes "lvm") then locks_line line k else daemon_line line k

-- ---- calls

abbrev pub torn : ℕ → ℕ → Kept → Kept
torn m call k = happened (act Landed m call) [] (marked m sign.Torn k)

abbrev pub call_answered : ℕ → ℕ → Bool → Kept → Kept
call_answered m call ok k = happened (act CallOver m call) [] (if ok then k else marked m sign.CallFailed k)

abbrev pub call_dropped : ℕ → ℕ → Kept → Kept
call_dropped m call k = happened (act CallOver m call) [] (marked m sign.Dropped k)

unfoldable pub call_seen : Verb → List ℕ → Kept → Kept
call_seen v line k =
    let m : ℕ = number_at line 1 in
    let call : ℕ = number_at line 2 in
    elim v [
      | verb.Do ↦ call_answered m call true k
      | verb.Land ↦ happened (act Landed m call) [] k
      | verb.Tear ↦ torn m call k
      | verb.Answer ↦ call_answered m call (bytes_eq (word_at line 3) (codes "ok")) k
      | verb.Drop ↦ call_dropped m call k
      | _ ↦ k
    ]

-- ---- machines

abbrev pub turned : ℕ → Deed → Sign → Kept → Kept
turned m deed s k = happened (act deed m 0) [] (marked m s k)

abbrev pub put_out : ℕ → Deed → Sign → Shape → Kept → Kept
put_out m deed s shape k = let n : Kept = turned m deed s k in begun_with (bar m shape n) n

abbrev pub machine_reset : ℕ → Kept → Kept
machine_reset m k = put_out m WentDown sign.Reset shape.Down (record k { resetting = true })

unfoldable pub machine_seen : Verb → ℕ → Kept → Kept
machine_seen v m k =
    elim v [
      | verb.Start ↦ turned m Started sign.Start k
      | verb.Crash ↦ put_out m Crashed sign.Crash shape.Idle k
      | verb.Reset ↦ machine_reset m k
      | verb.Restart ↦ put_out m CameUp sign.Restart shape.Idle k
      | _ ↦ k
    ]

-- ---- a line

unfoldable pub seen : List ℕ → Kept → Kept
seen line k =
    let n : Kept = record k { resetting = false } in
    let v : Verb = verb_of (word_at line 0) in
    elim v [
      | verb.Command ↦ command line n
      | verb.Pass ↦ passed line n
      | verb.Do ↦ call_seen verb.Do line n
      | verb.Land ↦ call_seen verb.Land line n
      | verb.Tear ↦ call_seen verb.Tear line n
      | verb.Answer ↦ call_seen verb.Answer line n
      | verb.Drop ↦ call_seen verb.Drop line n
      | verb.Start ↦ machine_seen verb.Start (number_at line 1) n
      | verb.Crash ↦ machine_seen verb.Crash (number_at line 1) n
      | verb.Reset ↦ machine_seen verb.Reset (number_at line 1) n
      | verb.Restart ↦ machine_seen verb.Restart (number_at line 1) n
      | verb.Other ↦ n
    ]
