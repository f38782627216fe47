-- What stands behind the verb of a line, as it is read.
use Rattle.sl_run.specs.LockNames.{global_lock, group_lock, is_group_name, is_volume_name, volume_lock}
use Rattle.sl_run.specs.LvmLines.{Deactivates, Gives, Gives_writing, LvmLine, Starts, Stops, Takes, Takes_comparing, is_area_word, is_volume_word, lvm_forms}
use Rattle.sl_text.specs.Forms.{Form, exactly, pieces, word_at}
use Rattle.sl_text.specs.Numbers.{is_number_that, number_of}
use Rattle.sl_text.specs.Walks.{Unread, at_end, next_as, past_word, read_by, read_each}
use Rattle.sl_trace.specs.declared.effects.Mode.TheVariants.{Exclusive, Shared}
use Rattle.sl_trace.specs.declared.effects.Mode.{Mode}
use Rattle.sl_words.specs.Bounds.{most_hosts}
use Rattle.sl_words.specs.Results.{◌>>=◌}
use Rattle.std.specs.Int.{is_in_range}
use Rattle.std.specs.Prelude.{Bool, List, Ok, Result, codes, drop, [], ℕ, ◌∷◌}

-- A group, and one of its logical volumes.
abbrev pub VolumeName : Type 0
VolumeName = List ℕ × List ℕ

abbrev pub volume_name : List ℕ → List ℕ → VolumeName
volume_name group name = (group, name)

-- The two that a word names.
abbrev pub volume_named : List ℕ → VolumeName
volume_named w = volume_name (word_at (pieces 47 w) 0) (word_at (pieces 47 w) 1)

-- The parts of such a word, read one by one.
abbrev pub volume_parts_read : Unread → Result VolumeName ℕ
volume_parts_read u = read_each (is_group_name ∷ is_volume_name ∷ []) (λ ws. volume_name (word_at ws 0) (word_at ws 1)) u

-- A group with an id.
abbrev pub with_id : List ℕ → ℕ → List ℕ × ℕ
with_id group id = (group, id)

-- A flag.
abbrev pub flag_read : List ℕ → Unread → Result (Unit {0}) ℕ
flag_read flag u = next_as (exactly flag) (λ _. tt) u

-- A group, `-i` and an id.
abbrev pub id_tests : List (List ℕ → Bool)
id_tests = is_group_name ∷ exactly (codes "-i") ∷ is_number_that (is_in_range 1 most_hosts) ∷ []

abbrev pub id_read : Unread → Result (List ℕ × ℕ) ℕ
id_read u = read_each id_tests (λ ws. with_id (word_at ws 0) (number_of (word_at ws 2))) u

-- The word of a mode, and what it makes.
abbrev pub mode_way : List ℕ → LvmLine → Form LvmLine
mode_way word made = record { words = exactly word ∷ []; make = λ ws. made }

-- Behind `-m`: the modes of the global lock in the area of this group.
abbrev pub global_ways : List ℕ → List (Form LvmLine)
global_ways group =
    mode_way (codes "sh") (Takes (global_lock group) Shared) ∷ mode_way (codes "ex") (Takes (global_lock group) Exclusive)
    ∷ mode_way (codes "un") (Gives (global_lock group)) ∷ []

-- Behind `un`: whether the value is written before.
abbrev pub giving_ways : List ℕ → List (Form LvmLine)
giving_ways group =
    record { words = []; make = λ ws. Gives (group_lock group) }
    ∷ record { words = exactly (codes "-w") ∷ []; make = λ ws. Gives_writing (group_lock group) } ∷ []

-- Behind `-m`: the modes of a group's lock.
abbrev pub group_ways : List ℕ → List (Form LvmLine)
group_ways group =
    mode_way (codes "sh") (Takes_comparing (group_lock group) Shared) ∷ mode_way (codes "ex") (Takes_comparing (group_lock group) Exclusive)
    ∷ mode_way (codes "un") (Gives (group_lock group))
    ∷ record { words = exactly (codes "un") ∷ exactly (codes "-w") ∷ []; make = λ ws. Gives_writing (group_lock group) } ∷ []

-- Behind `-m`: a mode of a logical volume's lock and the number of its area.
abbrev pub volume_way : ℕ → VolumeName → List ℕ → Mode → Form LvmLine
volume_way area v word mode =
    record {
      words = exactly word ∷ exactly (codes "-a") ∷ is_area_word area ∷ [];
      make = λ ws. Takes (volume_lock v.0 v.1 (number_of (word_at ws 2))) mode;
    }

abbrev pub volume_ways : ℕ → VolumeName → List (Form LvmLine)
volume_ways area v = volume_way area v (codes "sh") Shared ∷ volume_way area v (codes "ex") Exclusive ∷ []

-- `-a` and the number of an area.
abbrev pub area_read : ℕ → Unread → Result ℕ ℕ
area_read area u = read_each (exactly (codes "-a") ∷ is_area_word area ∷ []) (λ ws. number_of (word_at ws 1)) u

-- A name, `-m`, and the ways that go on behind them.
abbrev pub ways_read : {A : Type 0} → (List ℕ → Bool) → (List ℕ → A) → (A → List (Form LvmLine)) → Unread → Result LvmLine ℕ
ways_read passes value ways u = do
  a ← next_as passes value u
  flag ← flag_read (codes "-m") (past_word u)
  read_by (ways a) (past_word (past_word u))

-- No word more, and then this line.
abbrev pub ended_as : LvmLine → Unread → Result LvmLine ℕ
ended_as l u = at_end u >>= λ _. Ok l

-- What is read behind verbs.
abbrev pub start_read : Unread → Result LvmLine ℕ
start_read u = id_read u >>= λ p. Ok (Starts p.0 p.1)

abbrev pub stop_read : Unread → Result LvmLine ℕ
stop_read u = id_read u >>= λ p. Ok (Stops p.0 p.1)

abbrev pub deactivate_read : Unread → Result LvmLine ℕ
deactivate_read u = next_as is_volume_word volume_named u >>= λ v. ended_as (Deactivates v.0 v.1) (past_word u)

-- .. and behind the mode of a logical volume's lock.
abbrev pub volume_taken : ℕ → VolumeName → Mode → Unread → Result LvmLine ℕ
volume_taken area v mode u = area_read area u >>= λ n. Ok (Takes (volume_lock v.0 v.1 n) mode)

-- The forms of all lines behind those of the lockspaces and of the global and the groups' locks.
unfoldable pub later_forms : ℕ → List (Form LvmLine)
later_forms area = drop 9 (lvm_forms area)
