-- How long lists are that are put in order or sifted, and sums of which one part counts at most.
use Rattle.sl_words.proofs.Lists.{contains_first, contains_more}
use Rattle.sl_words.specs.Orders.{in_order, put_in}
use Rattle.std.proofs.Common.{Bool, List, [], ap, arith, cond, false, length, map, refl, subst, suc, sym, true, ℕ, ◌+◌, ◌≡◌, ◌≤◌, ◌∙◌, ◌∷◌, zero}
use Rattle.std.proofs.lemmas.List.FromFn.{length-map-range_with_len}
use Rattle.std.proofs.lemmas.List.Sums.{sum_by-cons}
use Rattle.std.proofs.lemmas.List.{length-map}
use Rattle.std.specs.List.{AllPairs, range_with_len, sum_by}
use Rattle.std.specs.Prelude.{Contains, filter, fold, if◌then◌else◌, ◌≢◌}

-- ---- in order

put_by : {A : Type 0} (b : Bool) (x y : A) (ys zs : List A) → length zs ≡ suc (length ys) → length (if b then x ∷ y ∷ ys else y ∷ zs) ≡ suc (suc (length ys))
put_by true x y ys zs h = refl
put_by false x y ys zs h = ap suc h

put_one : {A : Type 0} (before : A → A → Bool) (x : A) (xs : List A) → length (put_in before x xs) ≡ suc (length xs)
put_one before x [] = refl
put_one before x (y ∷ ys) = put_by (before x y) x y ys (put_in before x ys) (put_one before x ys)

ordered_onto : {A : Type 0} (before : A → A → Bool) (xs sorted : List A) → length (fold (λ s x. put_in before x s) sorted xs) ≡ length sorted + length xs
ordered_onto before [] sorted = omega arith
ordered_onto before (x ∷ xs) sorted = omega (arith, ordered_onto before xs (put_in before x sorted), put_one before x sorted)

ordered_all : {A : Type 0} (before : A → A → Bool) (xs : List A) → length (in_order before xs) ≡ length xs
ordered_all before xs = omega (arith, ordered_onto before xs [])

pub ordered_less : {A : Type 0} (before : A → A → Bool) (xs ys : List A) → length xs ≤ length ys → length (in_order before xs) ≤ length (in_order before ys)
ordered_less before xs ys less = omega (arith, less, ordered_all before xs, ordered_all before ys)

-- ---- sifted

sifted_first : {A : Type 0} (b : Bool) (x : A) (ys : List A) → length (cond b (x ∷ ys) ys) ≤ suc (length ys)
sifted_first true x ys = omega arith
sifted_first false x ys = omega arith

fewer_sifted : {A : Type 0} (p : A → Bool) (xs : List A) → length (filter p xs) ≤ length xs
fewer_sifted p [] = omega arith
fewer_sifted p (x ∷ xs) = omega (arith, sifted_first (p x) x (filter p xs), fewer_sifted p xs)

-- What is made of each that passes.
pub told_few : {A X : Type 0} (f : A → X) (p : A → Bool) (xs : List A) (longest : ℕ) → length xs ≤ longest → length (map f (filter p xs)) ≤ longest
told_few f p xs longest h = omega (arith, h, length-map (filter p xs) f, fewer_sifted p xs)

-- What is made of each number.
pub mapped_few : {X : Type 0} (f : ℕ → X) (n longest : ℕ) → n ≤ longest → length (map f (range_with_len 1 n)) ≤ longest
mapped_few f n longest h = omega (arith, h, length-map-range_with_len f 1 n)

-- A test that passes no more.
less_sifted : {A : Type 0} (b c : Bool) (x : A) (ys zs : List A) → (b ≡ true → c ≡ true) → length ys ≤ length zs → length (cond b (x ∷ ys) ys) ≤ length (cond c (x ∷ zs) zs)
less_sifted true true x ys zs more h = omega (arith, h)
less_sifted true false x ys zs more h = absurd (never (more refl))
  where
    never : false ≡ true → ⊥
    never is = absurd cc
less_sifted false true x ys zs more h = omega (arith, h)
less_sifted false false x ys zs more h = h

pub sifted_less : {A : Type 0} (p q : A → Bool) (xs : List A) → ((x : A) → p x ≡ true → q x ≡ true) → length (filter p xs) ≤ length (filter q xs)
sifted_less p q [] more = omega arith
sifted_less p q (x ∷ xs) more = less_sifted (p x) (q x) x (filter p xs) (filter q xs) (more x) (sifted_less p q xs more)

-- ---- one part of a sum

tail_pairs : {A : Type 0} (R : A → A → Type 0) (x : A) (xs : List A) → AllPairs R (x ∷ xs) → AllPairs R xs
tail_pairs R x xs p i j d before inside = p (suc i) (suc j) d (omega (arith, before)) (omega (arith, inside))

-- The first is paired with each of the others.
head_pairs : {A : Type 0} (R : A → A → Type 0) (x : A) (xs : List A) → AllPairs R (x ∷ xs) → (y : A) → Contains xs y → R x y
head_pairs R x xs p y there = subst (R x) there.2 (p 0 (suc there.0) y (omega arith) (omega (arith, there.1)))

none_counts : {A : Type 0} (f : A → ℕ) (xs : List A) → ((x : A) → Contains xs x → f x ≡ 0) → sum_by f xs ≡ 0
none_counts f [] none = refl
none_counts f (x ∷ xs) none = omega (arith, sum_by-cons f x xs, none x (contains_first x xs), none_counts f xs (λ y there. none y (contains_more x xs y there)))

no_more : (n : ℕ) → (1 ≤ n → ⊥) → n ≡ 0
no_more zero less = refl
no_more (suc n) less = absurd (less (omega arith))

counts_by : {A : Type 0} (f : A → ℕ) (a : A) (xs : List A) (k : ℕ) → f a ≡ k → f a ≤ 1 → sum_by f xs ≤ 1 → (1 ≤ f a → sum_by f xs ≡ 0) → sum_by f (a ∷ xs) ≤ 1
counts_by f a xs zero is few rest none = omega (arith, sum_by-cons f a xs, is, rest)
counts_by f a xs (suc k) is few rest none = omega (arith, sum_by-cons f a xs, few, none (omega (arith, is)))

-- Where no two have one key, and only those of one key count, and once, one counts at most.
pub one_counts : {A : Type 0} (f key : A → ℕ) (n : ℕ) (xs : List A) → AllPairs (λ a b. key a ≢ key b) xs → ((a : A) → Contains xs a → (f a ≤ 1) × (1 ≤ f a → key a ≡ n)) → sum_by f xs ≤ 1
one_counts f key n [] apart counts = omega arith
one_counts {A} f key n (a ∷ xs) apart counts =
    let first : (f a ≤ 1) × (1 ≤ f a → key a ≡ n) = counts a (contains_first a xs) in
    counts_by f a xs (f a) refl first.0 (one_counts f key n xs (tail_pairs (λ a b. key a ≢ key b) a xs apart) (λ b there. counts b (contains_more a xs b there)))
    (λ some. none_counts f xs (λ b there.
    no_more (f b) (λ more. head_pairs (λ a b. key a ≢ key b) a xs apart b there (first.1 some ∙ sym ((counts b (contains_more a xs b there)).1 more)))))
