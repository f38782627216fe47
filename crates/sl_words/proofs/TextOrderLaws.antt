-- The order of texts is std's order of slices.
use Rattle.sl_words.specs.Orders.{is_text_before}
use Rattle.std.proofs.Common.{Bool, List, arith, refl, ℕ, ◌≡◌}
use Rattle.std.proofs.lemmas.Bool.Decides.{nat_tests}
use Rattle.std.proofs.lemmas.Cmp.{same_from_slice_cmp_tested}
use Rattle.std.specs.Cmp.Lexicographic.{slice_partial_cmp}
use Rattle.std.specs.Ordering.{is_lt, is_some_and, nat_cmp}
use Rattle.std.specs.Prelude.{Some}

-- What `<` answers at two slices of bytes.
pub is_text_before-from_lt : (xs ys : List ℕ) (r : Bool) → r ≡ is_some_and is_lt (slice_partial_cmp (λ x y. Some (nat_cmp x y)) xs ys) → r ≡ is_text_before xs ys
is_text_before-from_lt = same_from_slice_cmp_tested nat_cmp is_lt is_text_before refl (λ _ _. refl) (λ _ _. refl) (λ x y xs ys o h. grind (arith, nat_tests))
