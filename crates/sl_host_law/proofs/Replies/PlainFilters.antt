-- Plain facts of lists that are filtered, mapped and turned round.
use Rattle.sl_host_law.proofs.SharedFacts.PlainLists.{kept_if}
use Rattle.sl_words.proofs.Lists.{contains_first, contains_more}
use Rattle.std.proofs.Common.{ap, refl, sym, ◌∙◌}
use Rattle.std.proofs.lemmas.List.Elements.{filter-append}
use Rattle.std.proofs.lemmas.List.Folds.{list_any-append}
use Rattle.std.proofs.lemmas.List.{reverse-append}
use Rattle.std.specs.List.{AllByRecursion, cons_option, list_any}
use Rattle.std.specs.Prelude.{Bool, Contains, List, Option, None, Some, cond, false, filter, filter_map, find, is_none, map, option_map, reverse, true, [], ◌&&◌, ◌++◌, ◌∷◌, ◌≡◌, ◌||◌}

-- Two filters, in either order.
pub filters_turned : {A : Type 0} (p q : A → Bool) (xs : List A) → filter p (filter q xs) ≡ filter q (filter p xs)
filters_turned p q [] = refl
filters_turned p q (x ∷ xs) = by (p x) refl (q x) refl (filters_turned p q xs) where
  by : (a : Bool) → p x ≡ a → (b : Bool) → q x ≡ b → filter p (filter q xs) ≡ filter q (filter p xs) → filter p (filter q (x ∷ xs)) ≡ filter q (filter p (x ∷ xs))
  by true hp true hq rest =
      ap (filter p) (kept_if q x xs true hq) ∙ kept_if p x (filter q xs) true hp ∙ ap (λ zs. x ∷ zs) rest
      ∙ sym (ap (filter q) (kept_if p x xs true hp) ∙ kept_if q x (filter p xs) true hq)
  by true hp false hq rest = ap (filter p) (kept_if q x xs false hq) ∙ rest ∙ sym (ap (filter q) (kept_if p x xs true hp) ∙ kept_if q x (filter p xs) false hq)
  by false hp true hq rest = ap (filter p) (kept_if q x xs true hq) ∙ kept_if p x (filter q xs) false hp ∙ rest ∙ sym (ap (filter q) (kept_if p x xs false hp))
  by false hp false hq rest = ap (filter p) (kept_if q x xs false hq) ∙ rest ∙ sym (ap (filter q) (kept_if p x xs false hp))

-- Whether one passes among those that pass another test.
pub any_kept : {A : Type 0} (p q : A → Bool) (xs : List A) → list_any p (filter q xs) ≡ list_any (λ x. q x && p x) xs
any_kept p q [] = refl
any_kept p q (x ∷ xs) = by (q x) (any_kept p q xs) where
  by : (b : Bool) → list_any p (filter q xs) ≡ list_any (λ x. q x && p x) xs → list_any p (cond b (x ∷ filter q xs) (filter q xs)) ≡ ((b && p x) || list_any (λ x. q x && p x) xs)
  by true rest = ap (λ b. p x || b) rest
  by false rest = rest

or_turned : (a b : Bool) → (a || b) ≡ (b || a)
or_turned true true = refl
or_turned true false = refl
or_turned false true = refl
or_turned false false = refl

or_none : (a : Bool) → (a || false) ≡ a
or_none true = refl
or_none false = refl

-- A list turned round has the same elements.
pub any_reversed : {A : Type 0} (p : A → Bool) (xs : List A) → list_any p (reverse xs) ≡ list_any p xs
any_reversed p [] = refl
any_reversed p (x ∷ xs) =
    ap (list_any p) (reverse-append (x ∷ []) xs) ∙ list_any-append p (reverse xs) (x ∷ []) ∙ ap (λ b. b || (p x || false)) (any_reversed p xs)
    ∙ or_turned (list_any p xs) (p x || false) ∙ ap (λ b. b || list_any p xs) (or_none (p x))

pub filter_reversed : {A : Type 0} (p : A → Bool) (xs : List A) → filter p (reverse xs) ≡ reverse (filter p xs)
filter_reversed {A = A} p [] = refl
filter_reversed {A = A} p (x ∷ xs) =
    ap (filter p) (reverse-append (x ∷ []) xs) ∙ filter-append p (reverse xs) (x ∷ []) ∙ ap (λ zs. zs ++ filter p (x ∷ [])) (filter_reversed p xs)
    ∙ by (p x) refl where
      by : (b : Bool) → p x ≡ b → reverse (filter p xs) ++ filter p (x ∷ []) ≡ reverse (filter p (x ∷ xs))
      by true is =
          ap (λ zs. reverse (filter p xs) ++ zs) (kept_if p x [] true is) ∙ sym (reverse-append (x ∷ []) (filter p xs))
          ∙ sym (ap reverse (kept_if p x xs true is))
      by false is =
          ap (λ zs. reverse (filter p xs) ++ zs) (kept_if p x [] false is) ∙ append_none (reverse (filter p xs)) ∙ sym (ap reverse (kept_if p x xs false is)) where
            append_none : (zs : List A) → zs ++ [] ≡ zs
            append_none [] = refl
            append_none (z ∷ zs) = ap (λ ys. z ∷ ys) (append_none zs)

-- What is mapped passes where its image does.
pub filter_mapped : {A B : Type 0} (p : B → Bool) (f : A → B) (xs : List A) → filter p (map f xs) ≡ map f (filter (λ x. p (f x)) xs)
filter_mapped p f [] = refl
filter_mapped p f (x ∷ xs) = by (p (f x)) (filter_mapped p f xs) where
  by : (b : Bool) → filter p (map f xs) ≡ map f (filter (λ x. p (f x)) xs)
      → cond b (f x ∷ filter p (map f xs)) (filter p (map f xs)) ≡ map f (cond b (x ∷ filter (λ x. p (f x)) xs) (filter (λ x. p (f x)) xs))
  by true rest = ap (λ zs. f x ∷ zs) rest
  by false rest = rest

-- What all have, those that are kept have.
pub all_kept : {A : Type 0} (P : A → Type 0) (q : A → Bool) (xs : List A) → AllByRecursion P xs → AllByRecursion P (filter q xs)
all_kept P q [] all = tt
all_kept P q (x ∷ xs) all = by (q x) (all_kept P q xs all.1) where
  by : (b : Bool) → AllByRecursion P (filter q xs) → AllByRecursion P (cond b (x ∷ filter q xs) (filter q xs))
  by true rest = (all.0, rest)
  by false rest = rest

-- What is given only where a test holds is given by those that pass it.
pub given_kept : {A B : Type 0} (f : A → Option B) (q : A → Bool) (xs : List A) → ((x : A) → q x ≡ false → f x ≡ None) → filter_map f xs ≡ filter_map f (filter q xs)
given_kept f q [] only = refl
given_kept f q (x ∷ xs) only = by (q x) refl (given_kept f q xs only) where
  by : (b : Bool) → q x ≡ b → filter_map f xs ≡ filter_map f (filter q xs) → filter_map f (x ∷ xs) ≡ filter_map f (cond b (x ∷ filter q xs) (filter q xs))
  by true is rest = ap (λ zs. cons_option (f x) zs) rest
  by false is rest = ap (λ o. cons_option o (filter_map f xs)) (only x is) ∙ rest

-- The first that passes is among those that pass a weaker test.
pub found_kept : {A : Type 0} (p q : A → Bool) (xs : List A) → ((x : A) → q x ≡ false → p x ≡ false) → find p xs ≡ find p (filter q xs)
found_kept p q [] only = refl
found_kept p q (x ∷ xs) only = by (q x) refl (found_kept p q xs only) where
  by : (b : Bool) → q x ≡ b → find p xs ≡ find p (filter q xs) → find p (x ∷ xs) ≡ find p (cond b (x ∷ filter q xs) (filter q xs))
  by true is rest = ap (λ o. cond (p x) (Some x) o) rest
  by false is rest = ap (λ b. cond b (Some x) (find p xs)) (only x is) ∙ rest

pub none_mapped : {A B : Type 0} (f : A → B) (o : Option A) → is_none (option_map f o) ≡ is_none o
none_mapped f None = refl
none_mapped f (Some a) = refl

pub no_one : {A : Type 0} (p : A → Bool) (xs : List A) → ((x : A) → p x ≡ false) → list_any p xs ≡ false
no_one p [] none = refl
no_one p (x ∷ xs) none = ap (λ b. b || list_any p xs) (none x) ∙ no_one p xs none

-- Functions that are one where they are asked map alike.
pub map_where : {A B : Type 0} (f g : A → B) (xs : List A) → ((x : A) → Contains xs x → f x ≡ g x) → map f xs ≡ map g xs
map_where f g [] same = refl
map_where f g (x ∷ xs) same = ap (λ y. y ∷ map f xs) (same x (contains_first x xs)) ∙ ap (λ ys. g x ∷ ys) (map_where f g xs (λ y there. same y (contains_more x xs y there)))
