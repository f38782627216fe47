-- Lists that are filled over others, one after another.
use Rattle.sl_machine.proofs.PlainRanges.{range_next}
use Rattle.std.proofs.Common.{ap, ap₂, arith, get_or, refl, sym, ◌∙◌}
use Rattle.std.proofs.lemmas.List.Elements.{filter-append, filter_map-append}
use Rattle.std.proofs.lemmas.List.Folds.{list_any-append}
use Rattle.std.proofs.lemmas.List.{map-append, take_more}
use Rattle.std.specs.List.{cons_option, filter_map, list_any, range_with_len}
use Rattle.std.specs.Option.{option_to_list}
use Rattle.std.specs.Prelude.{Bool, List, None, Option, Some, false, filter, length, map, option_map, suc, take, true, zero, [], ℕ, ◌++◌, ◌+◌, ◌<◌, ◌∷◌, ◌≡◌, ◌≤◌, ◌||◌}
use Rattle.sl_words.specs.Words.{some_is}

lone : {B : Type 0} (o : Option B) → cons_option o [] ≡ option_to_list o
lone None = refl
lone (Some b) = refl

-- What one element more gives.
pub one_more_given : {A B : Type 0} (f : A → Option B) (xs : List A) (i : ℕ) (x : A) (was now : List B) → i < length xs → x ≡ get_or xs i x
    → was ≡ filter_map f (take i xs) → now ≡ was ++ option_to_list (f x) → now ≡ filter_map f (take (i + 1) xs)
one_more_given f xs i x was now small is before after =
    after
    ∙ ap (λ v. v ++ option_to_list (f x)) before
    ∙ ap (λ v. filter_map f (take i xs) ++ v) (sym (lone (f x)))
    ∙ sym (filter_map-append f (take i xs) (x ∷ []))
    ∙ ap (λ y. filter_map f (take i xs ++ y ∷ [])) is
    ∙ ap (filter_map f) (sym (take_more xs i x small))

map_one : {B C : Type 0} (g : B → C) (o : Option B) (ys : List B) → map g (cons_option o ys) ≡ cons_option (option_map g o) (map g ys)
map_one g None ys = refl
map_one g (Some b) ys = refl

-- What is made of each that is given.
pub map_given : {A B C : Type 0} (g : B → C) (f : A → Option B) (xs : List A) → filter_map (λ x. option_map g (f x)) xs ≡ map g (filter_map f xs)
map_given g f [] = refl
map_given g f (x ∷ xs) = ap (cons_option (option_map g (f x))) (map_given g f xs) ∙ sym (map_one g (f x) (filter_map f xs))

-- One element more over a range.
pub one_more_made : {A B : Type 0} (st : A → B) (f : ℕ → B) (n : ℕ) (x : A) (was now : List A) → map st was ≡ map f (range_with_len 1 n) → now ≡ was ++ x ∷ [] → st x ≡ f (n + 1)
    → map st now ≡ map f (range_with_len 1 (n + 1))
one_more_made st f n x was now before after made =
    ap (map st) after
    ∙ map-append st was (x ∷ [])
    ∙ ap₂ (λ xs y. xs ++ y ∷ []) before made
    ∙ sym (map-append f (range_with_len 1 n) ((n + 1) ∷ []))
    ∙ ap (map f) (sym (range_next n))

turned : (a b : Bool) → (a || (b || false)) ≡ (b || a)
turned true true = refl
turned true false = refl
turned false true = refl
turned false false = refl

any_one : {B : Type 0} (p : B → Bool) (o : Option B) (a : Bool) → (a || list_any p (cons_option o [])) ≡ (some_is p o || a)
any_one p None true = refl
any_one p None false = refl
any_one p (Some b) a = turned a (p b)

-- One name more over a range.
pub one_more_any : {B : Type 0} (p : B → Bool) (f : ℕ → Option B) (n : ℕ) (was now : Bool) → was ≡ list_any p (filter_map f (range_with_len 1 n)) → now ≡ (some_is p (f (n + 1)) || was)
    → now ≡ list_any p (filter_map f (range_with_len 1 (n + 1)))
one_more_any p f n was now before after =
    after
    ∙ ap (λ b. some_is p (f (n + 1)) || b) before
    ∙ sym (any_one p (f (n + 1)) (list_any p (filter_map f (range_with_len 1 n))))
    ∙ sym (list_any-append p (filter_map f (range_with_len 1 n)) (filter_map f ((n + 1) ∷ [])))
    ∙ ap (list_any p) (sym (filter_map-append f (range_with_len 1 n) ((n + 1) ∷ [])))
    ∙ ap (λ xs. list_any p (filter_map f xs)) (sym (range_next n))

pub take_past : {A : Type 0} (n : ℕ) (xs : List A) → length xs ≤ n → take n xs ≡ xs
take_past zero [] le = refl
take_past zero (x ∷ xs) le = absurd (omega (arith, le))
take_past (suc n) [] le = refl
take_past (suc n) (x ∷ xs) le = ap (λ ys. x ∷ ys) (take_past n xs (omega (arith, le)))

pub some_made : {A B : Type 0} (p : B → Bool) (f : A → B) (o : Option A) → some_is (λ a. p (f a)) o ≡ some_is p (option_map f o)
some_made p f None = refl
some_made p f (Some a) = refl

-- ---- what is made of a list's elements, and of those that are kept

-- What is made of one more.
pub one_more_mapped : {A B : Type 0} (f : A → B) (xs : List A) (i : ℕ) (x : A) (was now : List B) → i < length xs → x ≡ get_or xs i x
    → was ≡ map f (take i xs) → now ≡ was ++ f x ∷ [] → now ≡ map f (take (i + 1) xs)
one_more_mapped f xs i x was now small is before after =
    after
    ∙ ap (λ v. v ++ f x ∷ []) before
    ∙ sym (map-append f (take i xs) (x ∷ []))
    ∙ ap (λ y. map f (take i xs ++ y ∷ [])) is
    ∙ ap (map f) (sym (take_more xs i x small))

filter_more : {A : Type 0} (p : A → Bool) (xs : List A) (i : ℕ) (x : A) → i < length xs → x ≡ get_or xs i x
    → filter p (take (i + 1) xs) ≡ filter p (take i xs) ++ filter p (x ∷ [])
filter_more p xs i x small is =
    ap (filter p) (take_more xs i x small)
    ∙ filter-append p (take i xs) (get_or xs i x ∷ [])
    ∙ ap (λ y. filter p (take i xs) ++ filter p (y ∷ [])) (sym is)

-- What is made of one more, if it is kept.
pub one_more_kept : {A B : Type 0} (f : A → B) (p : A → Bool) (xs : List A) (i : ℕ) (x : A) (was now : List B) → i < length xs → x ≡ get_or xs i x
    → was ≡ map f (filter p (take i xs)) → now ≡ was ++ map f (filter p (x ∷ [])) → now ≡ map f (filter p (take (i + 1) xs))
one_more_kept f p xs i x was now small is before after =
    after
    ∙ ap (λ v. v ++ map f (filter p (x ∷ []))) before
    ∙ sym (map-append f (filter p (take i xs)) (filter p (x ∷ [])))
    ∙ ap (map f) (sym (filter_more p xs i x small is))
