-- Texts compared byte by byte.
use Rattle.std.proofs.Common.{List, ap, arith, eqb, false, get_or, length, length-take, sym, take, true, ℕ, ◌+◌, ◌<◌, ◌≡◌, ◌≤◌, ◌∙◌}
use Rattle.std.proofs.lemmas.Bool.{eq-eqb, false_from_ne_true}
use Rattle.std.proofs.lemmas.List.{take_all, take_more}
use Rattle.std.proofs.lemmas.Slice.Eq.{bytes_eq-Decides}
use Rattle.std.specs.List.{starts_with}
use Rattle.std.specs.Prelude.{bytes_eq, nat_eq}
use Rattle.sl_words.proofs.CaseLaws.{true_is_false}

-- Texts of different lengths are not the same.
pub other_length : (a b : List ℕ) → eqb (length a) (length b) ≡ false → bytes_eq a b ≡ false
other_length a b other = false_from_ne_true _ (λ same. true_is_false (sym (eq-eqb _ _ (ap length ((bytes_eq-Decides a b).0 same))) ∙ other))

-- One byte more is the same.
pub one_more : (a b : List ℕ) (i d : ℕ) → i < length a → i < length b → take i a ≡ take i b → get_or a i d ≡ get_or b i d → take (i + 1) a ≡ take (i + 1) b
one_more a b i d inside within same next = take_more a i d inside ∙ rw (same, next) (sym (take_more b i d within))

-- All are.
pub all_same : (a b : List ℕ) (i : ℕ) → length a ≤ i → length b ≤ i → take i a ≡ take i b → bytes_eq a b ≡ true
all_same a b i end other_end same = (bytes_eq-Decides a b).1 (sym (take_all i a end) ∙ same ∙ take_all i b other_end)

-- A byte differs.
pub other_byte : (a b : List ℕ) (i d : ℕ) → eqb (get_or a i d) (get_or b i d) ≡ false → bytes_eq a b ≡ false
other_byte a b i d other = false_from_ne_true _ (λ same. true_is_false (sym (eq-eqb _ _ (ap (λ t. get_or t i d) ((bytes_eq-Decides a b).0 same))) ∙ other))

-- A text that is too short begins with no such front.
pub shorter : (text front : List ℕ) → length text < length front → starts_with nat_eq text front ≡ false
shorter text front short = false_from_ne_true _ (λ same. absurd (omega (arith, ap length ((bytes_eq-Decides front (take (length front) text)).0 same), length-take (length front) text)))
