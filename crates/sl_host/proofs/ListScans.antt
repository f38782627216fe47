-- A list looked through from the front.
use Rattle.sl_host.proofs.PassNotes.{front_more}
use Rattle.sl_words.proofs.CaseLaws.{none_some, some_value}
use Rattle.std.proofs.Common.{ap, suc, sym, zero, ◌∙◌}
use Rattle.std.proofs.lemmas.List.Folds.{find-append}
use Rattle.std.proofs.lemmas.List.{take_all}
use Rattle.std.specs.Option.{option_or}
use Rattle.std.specs.Prelude.{Bool, List, None, Some, [], cond, false, find, length, slice_get, take, true, ℕ, ◌+◌, ◌∷◌, ◌≡◌, ◌≤◌}

-- One more passes none either.
pub find_more : {A : Type 0} (p : A → Bool) (xs : List A) (k : ℕ) (x : A) → slice_get xs k ≡ Some x → find p (take k xs) ≡ None → p x ≡ false → find p (take (k + 1) xs) ≡ None
find_more p xs k x at none off =
    ap (find p) (front_more xs k x at)
    ∙ (find-append p (take k xs) (x ∷ []) ∙ (ap (λ o. option_or o (cond (p x) (Some x) None)) none ∙ ap (λ b. cond b (Some x) None) off))

-- The first that passes is found.
pub find_here : {A : Type 0} (p : A → Bool) (xs : List A) (k : ℕ) (x : A) → slice_get xs k ≡ Some x → find p (take k xs) ≡ None → p x ≡ true → find p xs ≡ Some x
find_here p [] k x at none is = absurd (none_some x at)
find_here p (y ∷ ys) zero x at none is = let same = some_value y x at in ap (λ b. cond b (Some y) (find p ys)) (ap p same ∙ is) ∙ ap (λ z. Some z) same
find_here p (y ∷ ys) (suc k) x at none is = by (p y) none (λ rest. find_here p ys k x at rest is)
  where
    by : (b : Bool) → cond b (Some y) (find p (take k ys)) ≡ None → (find p (take k ys) ≡ None → find p ys ≡ Some x) → cond b (Some y) (find p ys) ≡ Some x
    by true here rest = absurd (none_some y (sym here))
    by false here rest = rest here

-- Where all are looked through, none passes.
pub find_none : {A : Type 0} (p : A → Bool) (xs : List A) (n : ℕ) → length xs ≤ n → find p (take n xs) ≡ None → None ≡ find p xs
find_none p xs n le none = sym (ap (find p) (sym (take_all n xs le)) ∙ none)
