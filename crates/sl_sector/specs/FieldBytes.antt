-- Fields of a sector: the bytes of a number and of a name, and what stands at an offset. Numbers are big-endian and unsigned; a
-- name has 48 bytes, its characters and then zeros.
use Rattle.sl_sector.specs.declared.sector.Bad.TheVariants.{BadField}
use Rattle.sl_sector.specs.declared.sector.Bad.{Bad}
use Rattle.sl_sector.specs.declared.sector.DeltaState.TheVariants.{Claimed, Free, Live}
use Rattle.sl_sector.specs.declared.sector.DeltaState.{DeltaState}
use Rattle.sl_text.specs.Names.{is_name, padded_text}
use Rattle.sl_words.specs.Words.{all_zero}
use Rattle.std.specs.Int.{from_be_bytes, to_be_bytes, w32, w64}
use Rattle.std.specs.List.{prefix_len}
use Rattle.std.specs.Prelude.{Bool, List, MatchResult, Result, drop, false, if◌then◌else◌, not, take, true, ℕ, ◌&&◌, ◌==◌, ◌≡◌}

-- A number in four bytes.
unfoldable pub u32_bytes : ℕ → List ℕ
u32_bytes n = to_be_bytes w32 n

-- A number in eight bytes.
unfoldable pub u64_bytes : ℕ → List ℕ
u64_bytes n = to_be_bytes w64 n

-- A name and zeros, 48 bytes.
abbrev pub name_bytes : List ℕ → List ℕ
name_bytes n = padded_text 48 n

-- The number in the four bytes at this offset.
unfoldable pub u32_at : List ℕ → ℕ → ℕ
u32_at bs at = from_be_bytes w32 (take 4 (drop at bs))

-- The number in the eight bytes at this offset.
unfoldable pub u64_at : List ℕ → ℕ → ℕ
u64_at bs at = from_be_bytes w64 (take 8 (drop at bs))

-- The 48 bytes at this offset.
abbrev pub name_field : List ℕ → ℕ → List ℕ
name_field bs at = take 48 (drop at bs)

-- How many of them stand before the first zero.
abbrev pub name_len : List ℕ → ℕ → ℕ
name_len bs at = prefix_len (λ b. not (b == 0)) (name_field bs at)

-- The characters before the first zero.
abbrev pub name_at : List ℕ → ℕ → List ℕ
name_at bs at = take (name_len bs at) (name_field bs at)

-- Whether the 48 bytes are a name and zeros.
abbrev pub is_name_field : List ℕ → ℕ → Bool
is_name_field bs at = all_zero (drop (name_len bs at) (name_field bs at)) && is_name (name_at bs at)

-- Whether the 48 bytes are zeros, which stand for no name.
abbrev pub is_absent_name : List ℕ → ℕ → Bool
is_absent_name bs at = all_zero (name_field bs at)

-- Whether they are as the host's name must be: absent in a record that was never claimed, else a name.
abbrev pub is_host_field : Bool → List ℕ → ℕ → Bool
is_host_field true bs at = is_absent_name bs at
is_host_field false bs at = is_name_field bs at

-- A truth as a number.
abbrev pub flag : Bool → ℕ
flag true = 1
flag false = 0

-- The number of a delta record's state.
abbrev pub delta_code : DeltaState → ℕ
delta_code Free = 0
delta_code Claimed = 1
delta_code Live = 2

-- The state that the number names.
abbrev pub delta_state : ℕ → DeltaState
delta_state code = if code == 0 then Free else (if code == 1 then Claimed else Live)

-- The answer of a reader of the field at this offset: the value, where its rule holds, else the refusal of the field.
abbrev pub ReadsField : {A : Type 0} → ℕ → Bool → A → Result A Bad → Type 0
ReadsField at holds value result = MatchResult result (λ found. (holds ≡ true) × (found ≡ value)) (λ bad. (holds ≡ false) × (bad ≡ BadField at))
