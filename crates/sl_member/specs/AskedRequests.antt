-- The readings of answered requests, of each id, and the bits that follow of them.
use Rattle.sl_sector.specs.Bitmaps.{bitmap_of}
use Rattle.sl_time.specs.Times.{TimingNumbers, fail}
use Rattle.sl_words.specs.Words.{some_is}
use Rattle.std.specs.List.{range_with_len}
use Rattle.std.specs.Prelude.{Bool, List, None, Option, filter, nat_lt, slice_index_or, ℕ, ◌+◌, ◌-◌}

-- Whether a request to this owner was answered less than `fail` ago: `is_asked_in` of a setting with these times.
abbrev pub is_asked_within : TimingNumbers → List (Option ℕ) → ℕ → ℕ → Bool
is_asked_within tm asked now owner = some_is (λ r. nat_lt now (r + fail tm)) (slice_index_or asked (owner - 1) None)

-- The bits for so many hosts: `bits_of` of a setting with these times and hosts.
abbrev pub bits_within : TimingNumbers → ℕ → List (Option ℕ) → ℕ → List ℕ
bits_within tm hosts asked now = bitmap_of (filter (is_asked_within tm asked now) (range_with_len 1 hosts))
