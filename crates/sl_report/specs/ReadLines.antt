-- How a line of a schedule is read, in a language.
use Rattle.sl_report.specs.Languages.{Language}
use Rattle.sl_report.specs.HeaderLines.{HeaderLine, count_of_rank, header_forms, header_of, is_positive_word, rank}
use Rattle.sl_report.specs.HeaderRefusals.{header_tests}
use Rattle.sl_report.specs.EventLines.{checked_event, event_forms}
use Rattle.sl_run.specs.Worlds.{first_that}
use Rattle.sl_run.specs.declared.event.Event.TheVariants.{GiveCommand, GiveLvm}
use Rattle.sl_run.specs.declared.event.Event.{Event}
use Rattle.sl_run.specs.declared.event.Refusal.TheVariants.{Syntax}
use Rattle.sl_run.specs.declared.event.Refusal.{Refusal}
use Rattle.sl_text.specs.Forms.{exactly, made_by, spaced, words_of}
use Rattle.sl_text.specs.Numbers.{capped_short}
use Rattle.sl_words.specs.Words.{choose, is_empty}
use Rattle.std.specs.List.{list_all, range_with_len}
use Rattle.std.specs.Option.{option_or}
use Rattle.std.specs.Prelude.{Bool, List, None, Option, Some, codes, if◌then◌else◌, nat_le, nat_lt, not, true, ℕ, ◌&&◌, ◌∷◌}

-- The header line that a line spells, if it does.
abbrev pub header_line_in : Language → ℕ → List ℕ → Option HeaderLine
header_line_in lang area line = lang.header_line (made_by (header_forms area) (words_of line))

-- Whether one more line of the rank may come.
abbrev pub is_room_for : Language → List HeaderLine → ℕ → Bool
is_room_for lang ls k = elim (lang.most k) [ None ↦ true | Some n ↦ nat_lt (count_of_rank ls k) n ]

-- Each line that must stand before this rank does, and none of a later rank.
abbrev pub is_in_order : Language → List HeaderLine → ℕ → Bool
is_in_order lang ls k =
    list_all (λ l. nat_le (rank l) k) ls && list_all (λ j. nat_le (lang.least j) (count_of_rank ls j)) (range_with_len 0 k)
    && is_room_for lang ls k

-- The first refusal that fits a header line after these.
abbrev pub header_refusal : Language → ℕ → ℕ → List HeaderLine → HeaderLine → Option Refusal
header_refusal lang sector area ls l =
    first_that ((not (is_in_order lang ls (rank l)), Syntax) ∷ header_tests (header_of sector area ls) l)

-- A text beginning with `lvm` and a space is a line for lvmlockd.
abbrev pub given_text : ℕ → List ℕ → List (List ℕ) → Event
given_text m w ws = if exactly (codes "lvm") w && not (is_empty ws) then GiveLvm m (spaced ws) else GiveCommand m (spaced (w ∷ ws))

-- `command M TEXT`: the rest of the line is the text.
abbrev pub command_event : List (List ℕ) → Option Event
command_event (verb ∷ machine ∷ w ∷ ws) =
    choose (exactly (codes "command") verb && is_positive_word machine) (given_text (capped_short machine) w ws)
command_event ws = None

-- The event that a line spells, if it does.
abbrev pub event_in : Language → ℕ → ℕ → List ℕ → Option Event
event_in lang machines sector line =
    lang.event (option_or (command_event (words_of line)) (checked_event sector (made_by (event_forms machines sector) (words_of line))))
