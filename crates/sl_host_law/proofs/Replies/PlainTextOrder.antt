-- Texts are in a strict order.
use Rattle.sl_words.proofs.CaseLaws.{true_is_false}
use Rattle.sl_words.specs.Orders.{is_text_before}
use Rattle.std.proofs.Common.{arith, refl, sym}
use Rattle.std.specs.Prelude.{Bool, List, false, nat_lt, true, [], ℕ, ◌&&◌, ◌==◌, ◌∷◌, ◌≡◌, ◌||◌}

weak_step : (x y z : ℕ) (p q r : Bool) → (nat_lt x y || x == y && p) ≡ true → (nat_lt z y || z == y && q) ≡ false → (p ≡ true → q ≡ false → r ≡ true) → (nat_lt x z || x == z && r) ≡ true
weak_step x y z p q r lt ge rest = grind arith

asym_step : (x y : ℕ) (p q : Bool) → (nat_lt x y || x == y && p) ≡ true → (p ≡ true → q ≡ false) → (nat_lt y x || y == x && q) ≡ false
asym_step x y p q lt rest = grind arith

pub text_weak : (x y z : List ℕ) → is_text_before x y ≡ true → is_text_before z y ≡ false → is_text_before x z ≡ true
text_weak [] [] z lt ge = absurd (true_is_false (sym lt))
text_weak [] (y ∷ ys) [] lt ge = absurd (true_is_false ge)
text_weak [] (y ∷ ys) (z ∷ zs) lt ge = refl
text_weak (x ∷ xs) [] z lt ge = absurd (true_is_false (sym lt))
text_weak (x ∷ xs) (y ∷ ys) [] lt ge = absurd (true_is_false ge)
text_weak (x ∷ xs) (y ∷ ys) (z ∷ zs) lt ge = weak_step x y z (is_text_before xs ys) (is_text_before zs ys) (is_text_before xs zs) lt ge (λ a b. text_weak xs ys zs a b)

pub text_asym : (x y : List ℕ) → is_text_before x y ≡ true → is_text_before y x ≡ false
text_asym [] [] lt = absurd (true_is_false (sym lt))
text_asym [] (y ∷ ys) lt = refl
text_asym (x ∷ xs) [] lt = absurd (true_is_false (sym lt))
text_asym (x ∷ xs) (y ∷ ys) lt = asym_step x y (is_text_before xs ys) (is_text_before ys xs) lt (λ a. text_asym xs ys a)
