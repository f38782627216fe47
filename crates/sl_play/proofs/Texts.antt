-- How a text begins.
use Rattle.std.proofs.Common.{ap, arith, refl, ◌∙◌}
use Rattle.std.proofs.lemmas.Bool.Decides.{nat_tests}
use Rattle.std.specs.Prelude.{List, bytes_eq, eqb, [], ℕ, ◌&&◌, ◌∷◌, ◌≡◌}

same_numbers : (x y : ℕ) → eqb x y ≡ eqb y x
same_numbers x y = grind (arith, nat_tests)

-- Two texts are the same either way round.
pub texts_turned : (xs ys : List ℕ) → bytes_eq xs ys ≡ bytes_eq ys xs
texts_turned [] [] = refl
texts_turned [] (y ∷ ys) = refl
texts_turned (x ∷ xs) [] = refl
texts_turned (x ∷ xs) (y ∷ ys) = ap (λ t. t && bytes_eq xs ys) (same_numbers x y) ∙ ap (λ t. eqb y x && t) (texts_turned xs ys)
