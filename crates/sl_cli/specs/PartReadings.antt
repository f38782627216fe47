-- Words of several parts, read part by part.
use Rattle.sl_area.specs.AreaSizes.{Sizes, layout_of}
use Rattle.sl_area.specs.AreaLayout.{is_base}
use Rattle.sl_cli.specs.OptionValues.{Stretch, is_stretch_size, is_stretch_start}
use Rattle.sl_cli.specs.declared.times.Times.{Times}
use Rattle.sl_text.specs.Forms.{exactly}
use Rattle.sl_text.specs.Names.{is_name, is_path}
use Rattle.sl_text.specs.Numbers.{is_number_that, number_of}
use Rattle.sl_text.specs.Walks.{Part, Unread, at_end, four_read, next_part, past_word}
use Rattle.sl_trace.specs.declared.command.LockspaceArg.{LockspaceArg}
use Rattle.sl_words.specs.Results.{◌>>=◌}
use Rattle.std.specs.Int.{is_in_range}
use Rattle.std.specs.Prelude.{Bool, List, Ok, Result, codes, ℕ}

-- A text that passes, as it is.
abbrev pub text_part : (List ℕ → Bool) → Part (List ℕ)
text_part passes = record { passes = passes; value = λ w. w }

-- A number that passes.
abbrev pub number_part : (ℕ → Bool) → Part ℕ
number_part p = record { passes = is_number_that p; value = number_of }

-- The id of a lockspace that has no host yet.
abbrev pub no_host : Part (Unit {0})
no_host = record { passes = exactly (codes "0"); value = λ w. tt }

-- A lockspace's parts, read one by one.
abbrev pub lockspace_read : Sizes → Unread → Result LockspaceArg ℕ
lockspace_read most u =
    four_read (text_part is_name) no_host (text_part is_path) (number_part (is_base (layout_of most)))
    (λ name id path offset. record { name = name; id = 0; path = path; offset = offset }) u

-- Three parts and no more, read one by one.
abbrev pub three_read : {A B C D : Type 0} → Part A → Part B → Part C → (A → B → C → D) → Unread → Result D ℕ
three_read p q r make u = do
  a ← next_part p u
  b ← next_part q (past_word u)
  c ← next_part r (past_word (past_word u))
  done ← at_end (past_word (past_word (past_word u)))
  Ok (make a b c)

-- A stretch's parts, read one by one.
abbrev pub stretch_read : ℕ → Unread → Result Stretch ℕ
stretch_read sector u =
    three_read (text_part is_path) (number_part (is_stretch_start sector)) (number_part (is_stretch_size sector))
    (λ path offset size. record { path = path; offset = offset; size = size }) u

-- Five parts and no more, read one by one.
abbrev pub five_read : {A B C D E F : Type 0} → Part A → Part B → Part C → Part D → Part E → (A → B → C → D → E → F) → Unread → Result F ℕ
five_read p q r s t make u = do
  a ← next_part p u
  b ← next_part q (past_word u)
  c ← next_part r (past_word (past_word u))
  d ← next_part s (past_word (past_word (past_word u)))
  e ← next_part t (past_word (past_word (past_word (past_word u))))
  done ← at_end (past_word (past_word (past_word (past_word (past_word u)))))
  Ok (make a b c d e)

-- A time's part, and that of a drift, from this number on.
abbrev pub within_part : ℕ → ℕ → Part ℕ
within_part low high = number_part (is_in_range low high)

-- The parts of times, read one by one.
abbrev pub times_read : Unread → Result Times ℕ
times_read u =
    five_read (within_part 1 600000) (within_part 0 600000) (within_part 0 600000) (within_part 0 100) (within_part 0 600000)
    (λ io fire land rho grace. record { timing = record { io = io; fire = fire; land = land; rho = rho }; grace = grace }) u
