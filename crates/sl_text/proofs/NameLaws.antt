-- Names, paths and data: what an array holds of a text, what bytes they may have, and their order.
use Rattle.sl_text.specs.Names.{IsHeld, is_name, is_name_byte, is_path, padded_text}
use Rattle.sl_words.proofs.TextOrderLaws.{is_text_before-from_lt}
use Rattle.sl_words.proofs.WordLaws.{and_true}
use Rattle.std.proofs.Common.{Bool, List, [], arith, eqb, length, refl, take, true, ℕ, ◌-◌, ◌<◌, ◌&&◌, leb, ◌||◌, ◌≡◌, ◌∷◌}
use Rattle.std.proofs.lemmas.Bool.{eqb-true}
use Rattle.std.proofs.lemmas.Bool.Decides.{nat_tests}
use Rattle.std.proofs.lemmas.Str.Ascii.{IsAscii-cons, IsAscii-nil}
use Rattle.std.proofs.lemmas.Str.{IsUtf8-from_ascii}
use Rattle.std.specs.List.{list_all}
use Rattle.std.specs.Str.{IsAscii, IsUtf8}
use Rattle.std.proofs.lemmas.List.{take_at}
use Rattle.std.specs.Prelude.{replicate}

-- The text stands in front of its zeros.
pub take-padded_text : (size : ℕ) (text : List ℕ) → take (length text) (padded_text size text) ≡ text
unfolding padded_text
take-padded_text size text = take_at text (replicate (size - length text) 0) (length text) refl

-- A text with its zeros is kept as the types' invariants ask.
pub held_padded : (passes : List ℕ → Bool) (size : ℕ) (text : List ℕ) → passes text ≡ true → IsHeld passes size (length text) (padded_text size text)
held_padded passes size text h = let e = take-padded_text size text in record {
  text = rw e h;
  padded = rw e refl;
  long = rw e refl;
}

-- What the constructors use: the invariant, and the text that is seen.
pub ruleset kept = (held_padded, take-padded_text)

-- What `is_before` uses.
pub ruleset texts_in_order = (is_text_before-from_lt)

-- A byte of a name is ASCII, and so is one of a path.
name_byte_small : (b : ℕ) → is_name_byte b ≡ true → b < 128
name_byte_small b h = grind (arith, nat_tests)

path_byte_small : (b : ℕ) → (is_name_byte b || eqb b 47) ≡ true → b < 128
path_byte_small b h = grind (arith, nat_tests)

-- A text each of whose bytes is ASCII is text.
all_ascii : (p : ℕ → Bool) (small : (b : ℕ) → p b ≡ true → b < 128) → (bs : List ℕ) → list_all p bs ≡ true → IsAscii bs
all_ascii p small [] h = IsAscii-nil
all_ascii p small (b ∷ bs) h = let both = and_true (p b) (list_all p bs) h in IsAscii-cons b bs (small b both.0) (all_ascii p small bs both.1)

-- A name is text.
pub name_is_text : (n : List ℕ) → is_name n ≡ true → IsUtf8 n
name_is_text n h = IsUtf8-from_ascii n (all_ascii is_name_byte name_byte_small n (and_true _ _ h).1)

-- A path is text.
pub path_is_text : (p : List ℕ) → is_path p ≡ true → IsUtf8 p
path_is_text [] h = absurd cc
path_is_text (c ∷ cs) h =
    let parts = and_true (eqb c 47 && leb (length cs) 63) _ h in
    let first = and_true (eqb c 47) _ parts.0 in
    let slash : c < 128 = omega (arith, eqb-true c 47 first.0) in
    IsUtf8-from_ascii (c ∷ cs) (IsAscii-cons c cs slash (all_ascii (λ b. is_name_byte b || eqb b 47) path_byte_small cs parts.1))

-- What `as_str` uses.
pub ruleset ascii = (name_is_text, path_is_text)
