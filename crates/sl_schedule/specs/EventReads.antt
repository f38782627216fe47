-- Events, read part by part: those whose line may have more words or fewer, and the two halves of the forms.
use Rattle.sl_report.specs.ReadLines.{given_text}
use Rattle.sl_report.specs.EventLines.{event_forms}
use Rattle.sl_run.specs.declared.event.Event.TheVariants.{GiveCommand, Pass, Tear}
use Rattle.sl_run.specs.declared.event.Event.{Event}
use Rattle.sl_schedule.specs.Reads.{followed, kept_part, machine_part, number_part, pair_in}
use Rattle.sl_text.specs.Forms.{Form}
use Rattle.sl_text.specs.Numbers.{capped_long, hex_bytes, is_hex_word, is_number_text}
use Rattle.sl_text.specs.Walks.{Unread, next_part, past_word}
use Rattle.sl_words.specs.Results.{◌>>=◌}
use Rattle.sl_words.specs.Words.{choose}
use Rattle.std.specs.List.{list_all}
use Rattle.std.specs.Option.{ok_or, option_map}
use Rattle.std.specs.Result.{result_ok}
use Rattle.std.specs.Prelude.{Bool, List, None, Ok, Option, Result, Some, drop, length, map, take, [], ℕ, ◌&&◌, ◌*◌, ◌==◌, ◌∷◌}

-- The event of a text's words.
abbrev pub given_read : ℕ → List (List ℕ) → Event
given_read m [] = GiveCommand m []
given_read m (w ∷ ws) = given_text m w ws

-- The forms up to `drop`.
abbrev pub early_forms : ℕ → ℕ → List (Form Event)
early_forms machines sector = take 10 (event_forms machines sector)

-- The others.
abbrev pub late_forms : ℕ → ℕ → List (Form Event)
late_forms machines sector = drop 10 (event_forms machines sector)

-- So many words, each of which passes.
abbrev pub each_word : {A : Type 0} → (List ℕ → Bool) → (List ℕ → A) → ℕ → List (List ℕ) → Option (List A)
each_word passes value count ws = choose (length ws == count && list_all passes ws) (map value ws)

-- Nothing, or a number for each machine.
abbrev pub growths_in : ℕ → List (List ℕ) → Option (Option (List ℕ))
growths_in machines [] = Some None
growths_in machines (w ∷ ws) = option_map (λ g. Some g) (each_word is_number_text capped_long machines (w ∷ ws))

-- A time, and what follows it.
abbrev pub pass_read : ℕ → Unread → Result Event ℕ
pass_read machines u = do
  d ← next_part number_part u
  growths ← ok_or (growths_in machines (past_word u).words) 0
  Ok (Pass d growths)

-- Nothing, or one word that passes.
abbrev pub one_word : {A : Type 0} → (List ℕ → Bool) → (List ℕ → A) → A → List (List ℕ) → Option A
one_word passes value absent [] = Some absent
one_word passes value absent (w ∷ []) = choose (passes w) (value w)
one_word passes value absent (w ∷ x ∷ ws) = None

-- The bytes that a torn write leaves behind those of its own.
abbrev pub bytes_in : ℕ → List (List ℕ) → Option (List ℕ)
bytes_in sector ws = one_word (is_hex_word 2 (2 * sector)) hex_bytes [] ws

-- A machine, a call, a number of bytes, and what follows them.
abbrev pub tear_read : ℕ → Unread → Result Event ℕ
tear_read sector u = do
  m ← next_part machine_part u
  c ← next_part number_part (past_word u)
  k ← next_part (kept_part sector) (past_word (past_word u))
  bytes ← ok_or (bytes_in sector (past_word (past_word (past_word u))).words) 0
  Ok (Tear m c k bytes)

-- How many bytes of its own a torn write leaves, and those behind them.
abbrev pub kept_in : ℕ → Unread → Option (ℕ × List ℕ)
kept_in sector u = result_ok (do
  k ← next_part (kept_part sector) u
  bytes ← ok_or (bytes_in sector (past_word u).words) 0
  Ok (k, bytes))

-- The event of a machine and a call, and what follows them.
abbrev pub tear_in : ℕ → Unread → Option Event
tear_in sector u = followed (λ x y. Tear x.0 x.1 y.0 y.1) (pair_in machine_part number_part u) (kept_in sector (past_word (past_word u)))
