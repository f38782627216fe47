-- Lines that are read word by word: the parts of events and of header lines, and readers of one, two or three of them.
use Rattle.sl_report.specs.EventLines.{is_ok_word}
use Rattle.sl_report.specs.HeaderLines.{is_positive_word, is_version_word}
use Rattle.sl_text.specs.Forms.{exactly}
use Rattle.sl_text.specs.Names.{is_name, is_path}
use Rattle.sl_text.specs.Numbers.{capped_long, capped_short, is_number_text, is_number_that, number_of}
use Rattle.sl_text.specs.Walks.{Part, Unread, at_end, next_part, past_word}
use Rattle.sl_trace.specs.CommandForms.{is_process_word}
use Rattle.sl_words.specs.Results.{◌>>=◌}
use Rattle.std.specs.Int.{is_in_range}
use Rattle.std.specs.Option.{option_map}
use Rattle.std.specs.Prelude.{Bool, List, None, Ok, Option, Result, Some, bytes_eq, codes, nat_le, nat_lt, ℕ, ◌%◌, ◌==◌, ◌^◌}
use Rattle.std.specs.Result.{result_ok}

-- The number of a machine.
abbrev pub machine_part : Part ℕ
machine_part = record { passes = is_positive_word; value = capped_short }

-- Any number.
abbrev pub number_part : Part ℕ
number_part = record { passes = is_number_text; value = capped_long }

-- A number above 0.
abbrev pub positive_part : Part ℕ
positive_part = record { passes = is_positive_word; value = capped_long }

-- A number within these bounds.
abbrev pub within_part : ℕ → ℕ → Part ℕ
within_part low high = record { passes = is_number_that (is_in_range low high); value = number_of }

-- A multiple of this number.
abbrev pub multiple_part : ℕ → Part ℕ
multiple_part step = record { passes = is_number_that (λ n. n % step == 0); value = capped_long }

-- A name.
abbrev pub name_part : Part (List ℕ)
name_part = record { passes = is_name; value = λ w. w }

-- A path.
abbrev pub path_part : Part (List ℕ)
path_part = record { passes = is_path; value = λ w. w }

-- A process.
abbrev pub process_part : Part ℕ
process_part = record { passes = is_process_word; value = number_of }

-- The first reading of a clock.
abbrev pub reading_part : Part ℕ
reading_part = record { passes = is_number_that (λ n. nat_lt n (10 ^ 12)); value = number_of }

-- Just this text.
abbrev pub text_part : List ℕ → Part (Unit {0})
text_part text = record { passes = exactly text; value = λ w. tt }

-- Whether areas have pairs.
abbrev pub version_part : Part Bool
version_part = record { passes = is_version_word; value = exactly (codes "2") }

-- Whether something went well.
abbrev pub ok_part : Part Bool
ok_part = record { passes = is_ok_word; value = λ w. bytes_eq w (codes "ok") }

-- How many bytes of its own a torn write leaves.
abbrev pub kept_part : ℕ → Part ℕ
kept_part sector = record { passes = is_number_that (λ k. nat_le k sector); value = number_of }

-- One part and no more.
abbrev pub one_read : {A E : Type 0} → Part A → (A → E) → Unread → Result E ℕ
one_read p make u = do
  a ← next_part p u
  done ← at_end (past_word u)
  Ok (make a)

-- Two parts and no more.
abbrev pub two_read : {A B E : Type 0} → Part A → Part B → (A → B → E) → Unread → Result E ℕ
two_read p q make u = do
  a ← next_part p u
  b ← next_part q (past_word u)
  done ← at_end (past_word (past_word u))
  Ok (make a b)

-- Three parts and no more.
abbrev pub three_read : {A B C E : Type 0} → Part A → Part B → Part C → (A → B → C → E) → Unread → Result E ℕ
three_read p q r make u = do
  a ← next_part p u
  b ← next_part q (past_word u)
  c ← next_part r (past_word (past_word u))
  done ← at_end (past_word (past_word (past_word u)))
  Ok (make a b c)

-- Just one part, if it is there and no more follows.
unfoldable pub alone : {A : Type 0} → Part A → Unread → Option A
alone p u = result_ok (one_read p (λ a. a) u)

-- Two parts, whatever follows.
unfoldable pub pair_in : {A B : Type 0} → Part A → Part B → Unread → Option (A × B)
pair_in p q u = result_ok (do
  a ← next_part p u
  b ← next_part q (past_word u)
  Ok (a, b))

-- What was read, and what was read behind it.
abbrev pub followed : {A B E : Type 0} → (A → B → E) → Option A → Option B → Option E
followed make None o = None
followed make (Some a) o = option_map (make a) o

-- Just two parts.
abbrev pub pair_alone : {A B E : Type 0} → Part A → Part B → (A → B → E) → Unread → Option E
pair_alone p q make u = followed (λ x done. make x.0 x.1) (pair_in p q u) (result_ok (at_end (past_word (past_word u))))

-- Just three parts.
abbrev pub pair_and_last : {A B C E : Type 0} → Part A → Part B → Part C → (A → B → C → E) → Unread → Option E
pair_and_last p q r make u = followed (λ x c. make x.0 x.1 c) (pair_in p q u) (alone r (past_word (past_word u)))
