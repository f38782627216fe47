-- Names and paths, and how a short text is kept in memory.
use Rattle.std.specs.Int.{is_in_range}
use Rattle.std.specs.List.{list_all}
use Rattle.std.specs.Prelude.{Bool, List, false, length, nat_le, replicate, take, true, [], ℕ, ◌&&◌, ◌++◌, ◌-◌, ◌==◌, ◌||◌, ◌∷◌, ◌≡◌}

-- Letters, digits, '_', '.' and '-'.
abbrev pub is_name_byte : ℕ → Bool
is_name_byte b = is_in_range 97 122 b || is_in_range 65 90 b || is_in_range 48 57 b || b == 95 || b == 46 || b == 45

-- 1 to 48 such characters.
abbrev pub is_name : List ℕ → Bool
is_name n = is_in_range 1 48 (length n) && list_all is_name_byte n

-- '/' and up to 63 more characters: those of names, and '/'.
abbrev pub is_path : List ℕ → Bool
is_path [] = false
is_path (c ∷ cs) = c == 47 && nat_le (length cs) 63 && list_all (λ b. is_name_byte b || b == 47) cs

-- At most 256 bytes of any kind.
abbrev pub is_data : List ℕ → Bool
is_data bytes = nat_le (length bytes) 256

-- A text and zeros up to this many bytes.
unfoldable pub padded_text : ℕ → List ℕ → List ℕ
padded_text size text = text ++ replicate (size - length text) 0

-- What an array and a length keep: the text in front, which passes, and zeros behind.
pub record IsHeld (passes : List ℕ → Bool) (size len : ℕ) (bytes : List ℕ) : Type 0 where
  -- else the array could hold what is no name
  pub text : passes (take len bytes) ≡ true
  -- else two arrays could stand for one text
  pub padded : bytes ≡ padded_text size (take len bytes)
  -- else the length could lie past the array's end
  pub long : len ≡ length (take len bytes)

-- The text gives the array and the length back.
pub held_back : {X : Type 0} (make : List ℕ → ℕ → X) (passes : List ℕ → Bool) (size len : ℕ) (bytes : List ℕ) → IsHeld passes size len bytes
    → make (padded_text size (take len bytes)) (length (take len bytes)) ≡ make bytes len
held_back make passes size len bytes h = cc
