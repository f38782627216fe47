-- The first elements of a list, and the one behind those.
use Rattle.std.proofs.Common.{add-one, ap, ◌∙◌}
use Rattle.std.proofs.Math.Seq.{take-suc}
use Rattle.std.proofs.lemmas.Option.{get_or_from_slice_get, slice_get_within}
use Rattle.std.specs.Prelude.{List, Some, [], slice_get, take, ℕ, ◌++◌, ◌+◌, ◌∷◌, ◌≡◌}

pub taken_more : {A : Type 0} (xs : List A) (k : ℕ) (x : A) → slice_get xs k ≡ Some x → take (k + 1) xs ≡ take k xs ++ x ∷ []
taken_more xs k x is =
    ap (λ n. take n xs) (add-one k)
    ∙ (take-suc xs k x (slice_get_within xs k x is) ∙ ap (λ y. take k xs ++ y ∷ []) (get_or_from_slice_get xs k x x is))
