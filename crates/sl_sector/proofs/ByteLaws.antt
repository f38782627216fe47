-- Laws of lists of bytes: bounds, zeros, and padded texts.
use Rattle.sl_text.specs.Names.{padded_text}
use Rattle.sl_words.specs.Words.{all_zero}
use Rattle.std.proofs.Common.{List, [], ap, arith, drop, eqb, get_or, inl, inr, length, ltb, refl, suc, sym, take, true, zero, ℕ, ◌+◌, ◌-◌, ◌<◌, ◌≡◌, ◌≤◌, ◌∙◌, ◌∷◌}
use Rattle.std.proofs.Math.ListN.{replicate}
use Rattle.std.proofs.lemmas.Bool.{cases_Bool, cases_lt, eqb-true, lt-ltb, ltb-true}
use Rattle.std.proofs.lemmas.List.{get_or-drop, get_or-take, get_or_past, length-append, length-replicate, length-take, take-append-drop}
use Rattle.std.proofs.lemmas.List.Folds.{prefix_len-replicate}
use Rattle.std.specs.List.{list_all, prefix_len}
use Rattle.std.specs.Prelude.{not}
use Rattle.sl_words.proofs.WordLaws.{and_true}

-- Each element is a byte.
abbrev pub IsBytes : List ℕ → Type 0
IsBytes bs = (i : ℕ) → get_or bs i 0 < 256

-- The rest of a list of bytes.
IsBytes-tail : (b : ℕ) (bs : List ℕ) → IsBytes (b ∷ bs) → IsBytes bs
IsBytes-tail b bs h i = h (suc i)

-- The test and the fact.
pub bytes_from_test : (bs : List ℕ) → list_all (λ b. ltb b 256) bs ≡ true → IsBytes bs
bytes_from_test [] h i = omega arith
bytes_from_test (b ∷ bs) h zero = ltb-true b 256 (and_true (ltb b 256) (list_all (λ c. ltb c 256) bs) h).0
bytes_from_test (b ∷ bs) h (suc i) = bytes_from_test bs (and_true (ltb b 256) (list_all (λ c. ltb c 256) bs) h).1 i

-- The other way round.
pub test_from_bytes : (bs : List ℕ) → IsBytes bs → list_all (λ b. ltb b 256) bs ≡ true
test_from_bytes [] h = refl
test_from_bytes (b ∷ bs) h = rw (lt-ltb b 256 (h 0)) (test_from_bytes bs (IsBytes-tail b bs h))

-- The end of a list of bytes.
pub IsBytes-drop : (n : ℕ) (bs : List ℕ) → IsBytes bs → IsBytes (drop n bs)
IsBytes-drop n bs h i = rw get_or-drop (h (n + i))

-- The front of a list of bytes.
pub IsBytes-take : (n : ℕ) (bs : List ℕ) → IsBytes bs → IsBytes (take n bs)
IsBytes-take n bs h i =
    elim (cases_lt i n) [
      | inl lt ↦ rw (get_or-take n bs i 0 lt) (h i)
      | inr le ↦ rw (get_or_past (take n bs) i 0 (omega (arith, length-take n bs))) (omega arith)
    ]

-- Zeros, and nothing else.
pub zeros_from_test : (bs : List ℕ) → all_zero bs ≡ true → bs ≡ replicate (length bs) 0
zeros_from_test [] h = refl
zeros_from_test (b ∷ bs) h =
    let p = and_true (eqb b 0) (all_zero bs) h in
    rw (eqb-true b 0 p.0) (ap (λ (xs : List ℕ). 0 ∷ xs) (zeros_from_test bs p.1))

-- Zeros are zeros.
pub all_zero-replicate : (n : ℕ) → all_zero (replicate n 0) ≡ true
all_zero-replicate zero = refl
all_zero-replicate (suc n) = all_zero-replicate n

-- No byte that isn't zero.
pub zeros_from_prefix : (bs : List ℕ) → length bs ≤ prefix_len (λ b. not (not (eqb b 0))) bs → bs ≡ replicate (length bs) 0
zeros_from_prefix [] h = refl
zeros_from_prefix (b ∷ bs) h =
    elim (cases_Bool (eqb b 0)) [
      | inl e ↦ let t = rw e at h in rw (eqb-true b 0 e) (ap (λ (xs : List ℕ). 0 ∷ xs) (zeros_from_prefix bs (omega (arith, t))))
      | inr e ↦ let t = rw e at h in absurd (omega (arith, t))
    ]

-- All zeros come before the first byte that is none.
pub prefix_of_zeros : (n : ℕ) → prefix_len (λ b. not (not (eqb b 0))) (replicate n 0) ≡ n
prefix_of_zeros n = prefix_len-replicate (λ b. not (not (eqb b 0))) n 0 refl

-- A list that begins with a text and goes on with zeros.
pub padded_from_parts : (text bs : List ℕ) (at : ℕ) → length text ≡ at → take at bs ≡ text → drop at bs ≡ replicate (length bs - at) 0 → bs ≡ padded_text (length bs) text
unfolding padded_text
padded_from_parts text bs at long front zeros = sym (take-append-drop at bs) ∙ rw (front, zeros, long) refl

-- A padded text has the size that was asked for.
pub length-padded_text : (size : ℕ) (text : List ℕ) → length text ≤ size → length (padded_text size text) ≡ size
unfolding padded_text
length-padded_text size text h = omega (arith, length-append text (replicate (size - length text) 0), length-replicate {A = ℕ} (size - length text) 0)
