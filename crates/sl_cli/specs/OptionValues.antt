-- Words that stand for something: sizes, the area that a new lockspace or a resource gets, its hosts, and a stretch of a file.
use Rattle.sl_area.specs.AreaSizes.{Sizes, layout_of, roomy, sizes}
use Rattle.sl_area.specs.AreaLayout.{is_base}
use Rattle.sl_text.specs.Forms.{exactly, pieces, word_at}
use Rattle.sl_text.specs.Names.{is_name, is_path}
use Rattle.sl_text.specs.Numbers.{is_number_that, number_of}
use Rattle.sl_trace.specs.declared.command.LockspaceArg.{LockspaceArg}
use Rattle.sl_words.specs.Words.{choose}
use Rattle.std.specs.Int.{is_in_range}
use Rattle.std.specs.Prelude.{Bool, List, None, Option, Some, bytes_eq, codes, false, find, length, nat_lt, option_map, true, [], ℕ, ◌%◌, ◌&&◌, ◌==◌, ◌^◌, ◌∷◌}

-- The sizes that no word says: those of areas for the most hosts.
abbrev pub usual_sizes : Sizes
usual_sizes = sizes 512 1048576 2000

-- `sector:mebibytes`: the words that say sizes, and the sizes of areas for the most hosts.
abbrev pub sizes_words : List (List ℕ × Sizes)
sizes_words =
    (codes "512:1", usual_sizes) ∷ (codes "4096:1", sizes 4096 1048576 250) ∷ (codes "4096:2", sizes 4096 2097152 500)
    ∷ (codes "4096:4", sizes 4096 4194304 1000) ∷ (codes "4096:8", sizes 4096 8388608 2000) ∷ []

-- The sizes that a word says, if it says some.
abbrev pub sizes_of : List ℕ → Option Sizes
sizes_of w = option_map (λ p. p.1) (find (λ p. bytes_eq w p.0) sizes_words)

-- .. or those that need no word.
abbrev pub sizes_said : Option (List ℕ) → Option Sizes
sizes_said None = Some usual_sizes
sizes_said (Some w) = sizes_of w

-- Whether an area has pairs, by the word of its format: no word says that it has none, and 2 is the only other format.
abbrev pub paired_said : Option (List ℕ) → Option Bool
paired_said None = Some false
paired_said (Some w) = choose (bytes_eq w (codes "2")) true

-- For how many hosts there is room, with pairs or without.
abbrev pub room_for : Bool → Sizes → ℕ
room_for paired most = roomy paired most.hosts

-- The same sizes for so many hosts, with pairs or without.
abbrev pub for_hosts : Bool → Sizes → ℕ → Sizes
for_hosts paired most hosts = record { sector = most.sector; area = most.area; hosts = hosts; paired = paired }

-- `name:0:path:offset`. A lockspace that is made has no host yet, so its id is 0.
abbrev pub is_new_lockspace : Sizes → List ℕ → Bool
is_new_lockspace most w = let ps : List (List ℕ) = pieces 58 w in
    length ps == 4 && is_name (word_at ps 0) && exactly (codes "0") (word_at ps 1) && is_path (word_at ps 2)
    && is_number_that (is_base (layout_of most)) (word_at ps 3)

-- The lockspace that such a word names.
abbrev pub new_lockspace : List ℕ → LockspaceArg
new_lockspace w = let ps : List (List ℕ) = pieces 58 w in
    record { name = word_at ps 0; id = 0; path = word_at ps 2; offset = number_of (word_at ps 3) }

-- How many hosts an area is for, with pairs or without.
abbrev pub is_host_count : Bool → Sizes → List ℕ → Bool
is_host_count paired most w = is_number_that (is_in_range 1 (room_for paired most)) w

-- Where a stretch begins: at a sector of so many bytes, below 10^12.
abbrev pub is_stretch_start : ℕ → ℕ → Bool
is_stretch_start sector n = n % sector == 0 && nat_lt n (10 ^ 12)

-- How long it is: whole sectors, at most a mebibyte.
abbrev pub is_stretch_size : ℕ → ℕ → Bool
is_stretch_size sector n = n % sector == 0 && is_in_range 1 1048576 n

-- A stretch of a file.
pub record Stretch : Type 0 where
  pub path : List ℕ
  pub offset : ℕ
  pub size : ℕ

-- `path:offset:size`
abbrev pub is_stretch : ℕ → List ℕ → Bool
is_stretch sector w = let ps : List (List ℕ) = pieces 58 w in
    length ps == 3 && is_path (word_at ps 0) && is_number_that (is_stretch_start sector) (word_at ps 1) && is_number_that (is_stretch_size sector) (word_at ps 2)

-- The stretch that such a word names.
abbrev pub stretch_of : List ℕ → Stretch
stretch_of w = let ps : List (List ℕ) = pieces 58 w in record { path = word_at ps 0; offset = number_of (word_at ps 1); size = number_of (word_at ps 2) }
