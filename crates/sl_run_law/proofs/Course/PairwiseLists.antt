-- Lists that are related element by element, and what is filtered.
use Rattle.sl_run_law.specs.Course.CallStamps.{Pairwise}
use Rattle.sl_run_law.specs.FatesStay.{Every}
use Rattle.std.proofs.Common.{ap, refl, ◌∙◌}
use Rattle.std.specs.Prelude.{Bool, List, false, filter, if◌then◌else◌, length, map, suc, true, [], ◌∷◌, ◌≡◌}

-- Both lists change, the first where something holds of it.
pub pairs_change : {A B : Type 0} (R S : A → B → Type 0) (Q : A → Type 0) (f : A → A) (g : B → B) (xs : List A) (ys : List B)
    → ((x : A) (y : B) → Q x → R x y → S (f x) (g y)) → Every Q xs → Pairwise R xs ys → Pairwise S (map f xs) (map g ys)
pairs_change R S Q f g [] [] each h k = tt
pairs_change R S Q f g [] (y ∷ ys) each h k = absurd k
pairs_change R S Q f g (x ∷ xs) [] each h k = absurd k
pairs_change R S Q f g (x ∷ xs) (y ∷ ys) each h k = (each x y h.0 k.0, pairs_change R S Q f g xs ys each h.1 k.1)

-- The first changes.
pub pairs_first : {A B : Type 0} (R S : A → B → Type 0) (Q : A → Type 0) (f : A → A) (xs : List A) (ys : List B)
    → ((x : A) (y : B) → Q x → R x y → S (f x) y) → Every Q xs → Pairwise R xs ys → Pairwise S (map f xs) ys
pairs_first R S Q f [] [] each h k = tt
pairs_first R S Q f [] (y ∷ ys) each h k = absurd k
pairs_first R S Q f (x ∷ xs) [] each h k = absurd k
pairs_first R S Q f (x ∷ xs) (y ∷ ys) each h k = (each x y h.0 k.0, pairs_first R S Q f xs ys each h.1 k.1)

-- The relation changes.
pub pairs_hold : {A B : Type 0} (R S : A → B → Type 0) (xs : List A) (ys : List B) → ((x : A) (y : B) → R x y → S x y) → Pairwise R xs ys → Pairwise S xs ys
pairs_hold R S [] [] each k = tt
pairs_hold R S [] (y ∷ ys) each k = absurd k
pairs_hold R S (x ∷ xs) [] each k = absurd k
pairs_hold R S (x ∷ xs) (y ∷ ys) each k = (each x y k.0, pairs_hold R S xs ys each k.1)

pub pairs_length : {A B : Type 0} (R : A → B → Type 0) (xs : List A) (ys : List B) → Pairwise R xs ys → length xs ≡ length ys
pairs_length R [] [] k = refl
pairs_length R [] (y ∷ ys) k = absurd k
pairs_length R (x ∷ xs) [] k = absurd k
pairs_length R (x ∷ xs) (y ∷ ys) k = ap (λ n. suc n) (pairs_length R xs ys k.1)

-- ---- filters

filter_by : {A : Type 0} (f : A → A) (x : A) (xs ys : List A) (t : Bool) → ys ≡ map f xs → (if t then f x ∷ ys else ys) ≡ map f (if t then x ∷ xs else xs)
filter_by f x xs ys true rest = ap (λ zs. f x ∷ zs) rest
filter_by f x xs ys false rest = rest

-- A change that leaves the test.
pub filter_changed : {A : Type 0} (p : A → Bool) (f : A → A) (xs : List A) → ((x : A) → p (f x) ≡ p x) → filter p (map f xs) ≡ map f (filter p xs)
filter_changed p f [] same = refl
filter_changed p f (x ∷ xs) same =
    ap (λ t. if t then f x ∷ filter p (map f xs) else filter p (map f xs)) (same x)
    ∙ filter_by f x (filter p xs) (filter p (map f xs)) (p x) (filter_changed p f xs same)

every_by : {A : Type 0} (Q : A → Type 0) (p : A → Bool) (x : A) (xs : List A) (t : Bool) → p x ≡ t → Q x → Every (λ y. Q y × (p y ≡ true)) xs
    → Every (λ y. Q y × (p y ≡ true)) (if t then x ∷ xs else xs)
every_by Q p x xs true is h rest = ((h, is), rest)
every_by Q p x xs false is h rest = rest

-- What passes a filter passes its test.
pub every_filtered : {A : Type 0} (Q : A → Type 0) (p : A → Bool) (xs : List A) → Every Q xs → Every (λ y. Q y × (p y ≡ true)) (filter p xs)
every_filtered Q p [] h = tt
every_filtered Q p (x ∷ xs) h = every_by Q p x (filter p xs) (p x) refl h.0 (every_filtered Q p xs h.1)

-- What fails the test is dropped, what passes it is kept.
pub filter_drops : {A : Type 0} (p : A → Bool) (x : A) (xs : List A) → p x ≡ false → filter p (x ∷ xs) ≡ filter p xs
filter_drops p x xs is = ap (λ t. if t then x ∷ filter p xs else filter p xs) is

pub filter_has : {A : Type 0} (p : A → Bool) (x : A) (xs : List A) → p x ≡ true → filter p (x ∷ xs) ≡ x ∷ filter p xs
filter_has p x xs is = ap (λ t. if t then x ∷ filter p xs else filter p xs) is

pub filter_none : {A : Type 0} (p : A → Bool) (xs : List A) → Every (λ x. p x ≡ false) xs → filter p xs ≡ []
filter_none p [] h = refl
filter_none p (x ∷ xs) h = filter_drops p x xs h.0 ∙ filter_none p xs h.1
