-- The word of times, with which a lockspace's label is written.
use Rattle.sl_cli.specs.declared.times.Times.{Times}
use Rattle.sl_text.specs.Forms.{pieces, word_at}
use Rattle.sl_text.specs.Numbers.{is_number_that, number_of}
use Rattle.sl_time.specs.Times.{TimingNumbers}
use Rattle.std.specs.Int.{is_in_range}
use Rattle.std.specs.Prelude.{Bool, List, length, ℕ, ◌&&◌, ◌==◌}

-- `io:fire:land:rho:grace`, each as in the line `time` of a header.
abbrev pub is_times : List ℕ → Bool
is_times w = let ps : List (List ℕ) = pieces 58 w in
    length ps == 5 && is_number_that (is_in_range 1 600000) (word_at ps 0) && is_number_that (is_in_range 0 600000) (word_at ps 1)
    && is_number_that (is_in_range 0 600000) (word_at ps 2) && is_number_that (is_in_range 0 100) (word_at ps 3)
    && is_number_that (is_in_range 0 600000) (word_at ps 4)

-- The times that such a word says.
abbrev pub timing_of : List ℕ → TimingNumbers
timing_of w = let ps : List (List ℕ) = pieces 58 w in
    record { io = number_of (word_at ps 0); fire = number_of (word_at ps 1); land = number_of (word_at ps 2); rho = number_of (word_at ps 3) }

-- .. and the grace.
abbrev pub grace_of : List ℕ → ℕ
grace_of w = number_of (word_at (pieces 58 w) 4)

abbrev pub times_said : List ℕ → Times
times_said w = record { timing = timing_of w; grace = grace_of w }
