-- Plain facts of lists: what is given of the elements of a front.
use Rattle.std.proofs.Common.{ap, get_or, refl, sym, ◌∙◌}
use Rattle.std.proofs.lemmas.List.Elements.{filter_map-append}
use Rattle.std.proofs.lemmas.List.{take_more}
use Rattle.std.specs.List.{cons_option}
use Rattle.std.specs.Option.{option_to_list}
use Rattle.std.specs.Prelude.{List, None, Option, Some, filter_map, length, take, [], ℕ, ◌++◌, ◌+◌, ◌<◌, ◌∷◌, ◌≡◌}

lone : {B : Type 0} (o : Option B) → cons_option o [] ≡ option_to_list o
lone None = refl
lone (Some b) = refl

-- One element more gives what it gives.
pub one_more_given : {A B : Type 0} (f : A → Option B) (xs : List A) (i : ℕ) (x : A) (was now : List B) → i < length xs → x ≡ get_or xs i x
    → was ≡ filter_map f (take i xs) → now ≡ was ++ option_to_list (f x) → now ≡ filter_map f (take (i + 1) xs)
one_more_given f xs i x was now small is before after =
    after
    ∙ ap (λ v. v ++ option_to_list (f x)) before
    ∙ ap (λ v. filter_map f (take i xs) ++ v) (sym (lone (f x)))
    ∙ sym (filter_map-append f (take i xs) (x ∷ []))
    ∙ ap (λ y. filter_map f (take i xs ++ y ∷ [])) is
    ∙ ap (filter_map f) (sym (take_more xs i x small))
