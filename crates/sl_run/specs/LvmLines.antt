-- The lines that lvmlockd's locks read.
use Rattle.sl_run.specs.LockNames.{Lock, first_volume, global_lock, group_lock, is_group_name, is_volume_name, volume_lock}
use Rattle.sl_text.specs.Forms.{Form, bad_column, exactly, made_by, pieces, word_at, words_of}
use Rattle.sl_text.specs.Numbers.{is_number_that, number_of}
use Rattle.sl_trace.specs.declared.effects.Mode.TheVariants.{Exclusive, Shared}
use Rattle.sl_trace.specs.declared.effects.Mode.{Mode}
use Rattle.sl_words.specs.Bounds.{most_hosts}
use Rattle.std.specs.Int.{is_in_range}
use Rattle.std.specs.Prelude.{Bool, Err, List, None, Ok, Option, Result, Some, codes, length, nat_le, nat_lt, [], ℕ, ◌&&◌, ◌*◌, ◌==◌, ◌^◌, ◌∷◌}

-- What a line says.
pub data LvmLine : Type 0 where
  -- a group's lockspace is joined under an id, or left
  Starts : List ℕ → ℕ → LvmLine
  Stops : List ℕ → ℕ → LvmLine
  -- a lock is taken; that of a group tells whether its value has changed
  Takes : Lock → Mode → LvmLine
  Takes_comparing : Lock → Mode → LvmLine
  -- a lock is given up; that of a group may be given a new value before
  Gives : Lock → LvmLine
  Gives_writing : Lock → LvmLine
  -- the lock of this group's logical volume that was taken first is given up
  Deactivates : List ℕ → List ℕ → LvmLine
  -- the locks that are held are told
  Informs : LvmLine

-- ---- words

-- A group and one of its logical volumes.
abbrev pub is_volume_word : List ℕ → Bool
is_volume_word w = let ps : List (List ℕ) = pieces 47 w in length ps == 2 && is_group_name (word_at ps 0) && is_volume_name (word_at ps 1)

-- The number of a logical volume's area, which begins below 10^12.
abbrev pub is_area_word : ℕ → List ℕ → Bool
is_area_word area w = is_number_that (λ n. nat_le first_volume n && nat_lt (n * area) (10 ^ 12)) w

-- The lock that a logical volume's word and number name.
abbrev pub volume_of : List ℕ → List ℕ → Lock
volume_of w number = volume_lock (word_at (pieces 47 w) 0) (word_at (pieces 47 w) 1) (number_of number)

-- ---- forms

-- A verb, a group and an id.
abbrev pub id_form : List ℕ → (List ℕ → ℕ → LvmLine) → Form LvmLine
id_form verb make =
    record {
      words = exactly verb ∷ is_group_name ∷ exactly (codes "-i") ∷ is_number_that (is_in_range 1 most_hosts) ∷ [];
      make = λ ws. make (word_at ws 1) (number_of (word_at ws 3));
    }

-- A verb, a group and a mode, with further words.
abbrev pub mode_form : List ℕ → List ℕ → List (List ℕ → Bool) → (List ℕ → LvmLine) → Form LvmLine
mode_form verb mode more make =
    record { words = exactly verb ∷ is_group_name ∷ exactly (codes "-m") ∷ exactly mode ∷ more; make = λ ws. make (word_at ws 1) }

-- A logical volume, a mode and the number of its area.
abbrev pub volume_form : ℕ → List ℕ → Mode → Form LvmLine
volume_form area word mode =
    record {
      words = exactly (codes "activate") ∷ is_volume_word ∷ exactly (codes "-m") ∷ exactly word ∷ exactly (codes "-a") ∷ is_area_word area ∷ [];
      make = λ ws. Takes (volume_of (word_at ws 1) (word_at ws 5)) mode;
    }

-- The forms of all lines, with areas of this size.
unfoldable pub lvm_forms : ℕ → List (Form LvmLine)
lvm_forms area =
    id_form (codes "lock_start") (λ g i. Starts g i)
    ∷ id_form (codes "lock_stop") (λ g i. Stops g i)
    ∷ mode_form (codes "lock_gl") (codes "sh") [] (λ g. Takes (global_lock g) Shared)
    ∷ mode_form (codes "lock_gl") (codes "ex") [] (λ g. Takes (global_lock g) Exclusive)
    ∷ mode_form (codes "lock_gl") (codes "un") [] (λ g. Gives (global_lock g))
    ∷ mode_form (codes "lock_vg") (codes "sh") [] (λ g. Takes_comparing (group_lock g) Shared)
    ∷ mode_form (codes "lock_vg") (codes "ex") [] (λ g. Takes_comparing (group_lock g) Exclusive)
    ∷ mode_form (codes "lock_vg") (codes "un") [] (λ g. Gives (group_lock g))
    ∷ mode_form (codes "lock_vg") (codes "un") (exactly (codes "-w") ∷ []) (λ g. Gives_writing (group_lock g))
    ∷ volume_form area (codes "sh") Shared
    ∷ volume_form area (codes "ex") Exclusive
    ∷ record {
      words = exactly (codes "deactivate") ∷ is_volume_word ∷ [];
      make = λ ws. Deactivates (word_at (pieces 47 (word_at ws 1)) 0) (word_at (pieces 47 (word_at ws 1)) 1);
    }
    ∷ record { words = exactly (codes "info") ∷ []; make = λ ws. Informs }
    ∷ []

-- What the words make, or the column where they fail.
abbrev pub line_or : Option LvmLine → ℕ → Result LvmLine ℕ
line_or None column = Err column
line_or (Some l) column = Ok l

-- What a line says, or the column of the first word that doesn't fit.
abbrev pub lvm_line_in : ℕ → List ℕ → Result LvmLine ℕ
lvm_line_in area text = line_or (made_by (lvm_forms area) (words_of text)) (bad_column (lvm_forms area) (words_of text))
