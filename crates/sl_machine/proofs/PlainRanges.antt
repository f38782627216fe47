-- Ranges, and what is put together over one.
use Rattle.std.proofs.Common.{ap, arith, ◌∙◌}
use Rattle.std.proofs.lemmas.Grind.{flat_map-append}
use Rattle.std.proofs.lemmas.List.{append-nil}
use Rattle.std.specs.List.{range_with_len}
use Rattle.std.specs.Prelude.{List, flat_map, suc, zero, [], ℕ, ◌++◌, ◌+◌, ◌∷◌, ◌≡◌}

one_on : (a n : ℕ) → a + 1 + n ≡ a + suc n
one_on a n = omega arith

range_more : (a n : ℕ) → range_with_len a (suc n) ≡ range_with_len a n ++ (a + n) ∷ []
range_more a zero = ap (λ x. x ∷ []) (omega arith)
range_more a (suc n) = ap (λ xs. a ∷ xs) (range_more (a + 1) n ∙ ap (λ x. range_with_len (a + 1) n ++ x ∷ []) (one_on a n))

one_suc : (n : ℕ) → n + 1 ≡ suc n
one_suc n = omega arith

-- One more of what is put together.
pub flat_more : {A : Type 0} (f : ℕ → List A) (a n : ℕ) → flat_map f (range_with_len a (n + 1)) ≡ flat_map f (range_with_len a n) ++ f (a + n)
flat_more f a n =
    ap (λ m. flat_map f (range_with_len a m)) (one_suc n)
    ∙ ap (flat_map f) (range_more a n)
    ∙ flat_map-append f (range_with_len a n) ((a + n) ∷ [])
    ∙ ap (λ xs. flat_map f (range_with_len a n) ++ xs) (append-nil (f (a + n)))

pub range_next : (n : ℕ) → range_with_len 1 (n + 1) ≡ range_with_len 1 n ++ (n + 1) ∷ []
range_next n = ap (range_with_len 1) (one_suc n) ∙ range_more 1 n ∙ ap (λ m. range_with_len 1 n ++ m ∷ []) (turned n)
  where
    turned : (n : ℕ) → 1 + n ≡ n + 1
    turned n = omega arith
