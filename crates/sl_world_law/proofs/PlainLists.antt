-- Plain facts of lists: what is changed element by element, and what is told apart by a number.
use Rattle.sl_words.proofs.Lists.{filter_both, got_index, got_inside, there_is}
use Rattle.sl_words.proofs.CaseLaws.{none_some, some_value}
use Rattle.std.proofs.Common.{ap, ap₂, arith, refl, subst, suc, sym, zero, ◌∙◌}
use Rattle.std.proofs.lemmas.List.{length-map}
use Rattle.std.proofs.lemmas.List.Kept.{AllPairs-cons}
use Rattle.std.proofs.lemmas.Option.{slice_get-map}
use Rattle.std.specs.List.{enumerate_from, range_with_len}
use Rattle.std.specs.Prelude.{All, AllPairs, Bool, Contains, List, Some, cond, false, filter, length, map, not, option_map, slice_get, slice_index_or, true, [], ℕ, ◌&&◌, ◌++◌, ◌+◌, ◌<◌, ◌∷◌, ◌≡◌, ◌≢◌}

-- Where an element stands.
pub place_of_one : {A : Type 0} (xs : List A) (x : A) → Contains xs x → (i : ℕ) × (i < length xs) × (slice_get xs i ≡ Some x)
place_of_one xs x inside =
    let at = there_is xs inside.0 inside.1 in
    (inside.0, inside.1, at.1 ∙ ap Some (sym (got_index xs inside.0 at.0 x at.1) ∙ inside.2))

-- ---- elements told apart

-- Lists with the same numbers: the elements of the one are apart as those of the other.
pub same_apart : {A B : Type 0} (f : A → B) (xs ys : List A) → map f ys ≡ map f xs → AllPairs (λ x y. f x ≢ f y) xs → AllPairs (λ x y. f x ≢ f y) ys
same_apart f xs ys same apart i j d less inside = λ equal.
    apart i j d less (long j inside) (value i (before i j less inside) ∙ equal ∙ sym (value j inside))
  where
    before : (m n : ℕ) → m < n → n < length ys → m < length ys
    before m n lt in_ys = omega (arith, lt, in_ys)

    long : (n : ℕ) → n < length ys → n < length xs
    long n in_ys = let counts = sym (length-map ys f) ∙ ap length same ∙ length-map xs f in omega (arith, in_ys, counts)

    value : (n : ℕ) → n < length ys → f (slice_index_or xs n d) ≡ f (slice_index_or ys n d)
    value n in_ys =
        let x = there_is xs n (long n in_ys) in
        let y = there_is ys n in_ys in
        ap f (got_index xs n x.0 d x.1)
        ∙ some_value (f x.0) (f y.0) (sym (slice_get-map f xs n ∙ ap (option_map f) x.1) ∙ ap (λ zs. slice_get zs n) (sym same) ∙ slice_get-map f ys n ∙ ap (option_map f) y.1)
        ∙ sym (ap f (got_index ys n y.0 d y.1))

-- One more that is none of them.
pub one_more_apart : {A B : Type 0} (f : A → B) (x : A) (xs : List A) → ((y : A) → Contains xs y → f x ≢ f y) → AllPairs (λ y z. f y ≢ f z) xs
    → AllPairs (λ y z. f y ≢ f z) (x ∷ xs)
one_more_apart {A} f x xs other apart = AllPairs-cons (λ y z. f y ≢ f z) x xs each apart
  where
    each : All (λ y. f x ≢ f y) xs
    each k d inside = let y = there_is xs k inside in subst (λ z. f x ≢ f z) (sym (got_index xs k y.0 d y.1)) (other y.0 (got_inside xs k y.0 y.1))

-- ---- elements kept

-- What is kept of changed elements, where the test and what is seen of each stay.
pub same_kept : {A B C : Type 0} (g : A → B) (p : B → Bool) (q : A → Bool) (f : B → C) (h : A → C) (xs : List A) → ((x : A) → p (g x) ≡ q x) → ((x : A) → f (g x) ≡ h x)
    → map f (filter p (map g xs)) ≡ map h (filter q xs)
same_kept g p q f h [] tests sees = refl
same_kept {A} g p q f h (x ∷ xs) tests sees =
    ap (λ b. map f (cond b (g x ∷ filter p (map g xs)) (filter p (map g xs)))) (tests x)
    ∙ go (q x) (same_kept g p q f h xs tests sees)
  where
    go : (b : Bool) → map f (filter p (map g xs)) ≡ map h (filter q xs)
        → map f (cond b (g x ∷ filter p (map g xs)) (filter p (map g xs))) ≡ map h (cond b (x ∷ filter q xs) (filter q xs))
    go true rest = ap₂ (λ y ys. y ∷ ys) (sees x) rest
    go false rest = rest

pub same_filter : {A : Type 0} (s t : A → Bool) (ys : List A) → ((x : A) → s x ≡ t x) → filter s ys ≡ filter t ys
same_filter s t [] is = refl
same_filter s t (y ∷ ys) is = ap₂ (λ b zs. cond b (y ∷ zs) zs) (is y) (same_filter s t ys is)

-- Kept by two tests, where both together are a third.
pub kept_twice : {A : Type 0} (p q r : A → Bool) (xs : List A) → ((x : A) → (p x && q x) ≡ r x) → filter q (filter p xs) ≡ filter r xs
kept_twice p q r xs both = sym (filter_both p q xs) ∙ same_filter (λ x. p x && q x) r xs both

-- Elements that pass a test are let go, the others stay as they are.
pub let_go : {A C : Type 0} (p : A → Bool) (f : A → C) (q : C → Bool) (h : A → A) (xs : List A) → ((x : A) → q (f x) ≡ true → p (h x) ≡ false)
    → ((x : A) → q (f x) ≡ false → h x ≡ x) → map f (filter p (map h xs)) ≡ filter (λ c. not (q c)) (map f (filter p xs))
let_go p f q h [] gone same = refl
let_go {A} {C} p f q h (x ∷ xs) gone same = go (q (f x)) (p x) refl refl (let_go p f q h xs gone same)
  where
    first : (b : Bool) → p (h x) ≡ b → map f (filter p (map h (x ∷ xs))) ≡ map f (cond b (h x ∷ filter p (map h xs)) (filter p (map h xs)))
    first b is = ap (λ z. map f (cond z (h x ∷ filter p (map h xs)) (filter p (map h xs)))) is

    second : (b : Bool) → p x ≡ b → filter (λ c. not (q c)) (map f (filter p (x ∷ xs))) ≡ filter (λ c. not (q c)) (map f (cond b (x ∷ filter p xs) (filter p xs)))
    second b is = ap (λ z. filter (λ c. not (q c)) (map f (cond z (x ∷ filter p xs) (filter p xs)))) is

    third : (b : Bool) → q (f x) ≡ b → (ys : List C) → filter (λ c. not (q c)) (f x ∷ ys) ≡ cond (not b) (f x ∷ filter (λ c. not (q c)) ys) (filter (λ c. not (q c)) ys)
    third b is ys = ap (λ z. cond (not z) (f x ∷ filter (λ c. not (q c)) ys) (filter (λ c. not (q c)) ys)) is

    go : (b o : Bool) → q (f x) ≡ b → p x ≡ o → map f (filter p (map h xs)) ≡ filter (λ c. not (q c)) (map f (filter p xs))
        → map f (filter p (map h (x ∷ xs))) ≡ filter (λ c. not (q c)) (map f (filter p (x ∷ xs)))
    go true true it is rest = first false (gone x it) ∙ rest ∙ sym (second true is ∙ third true it (map f (filter p xs)))
    go true false it is rest = first false (gone x it) ∙ rest ∙ sym (second false is)
    go false true it is rest =
        first true (ap p (same x it) ∙ is) ∙ ap₂ (λ y ys. f y ∷ ys) (same x it) rest ∙ sym (second true is ∙ third false it (map f (filter p xs)))
    go false false it is rest = first false (ap p (same x it) ∙ is) ∙ rest ∙ sym (second false is)

-- Where none is let go.
pub all_stay : {A : Type 0} (xs : List A) → filter (λ x. not false) xs ≡ xs
all_stay [] = refl
all_stay (x ∷ xs) = ap (λ ys. x ∷ ys) (all_stay xs)

-- ---- numbers in order

pub range_append : (i n k : ℕ) → range_with_len i n ++ range_with_len (i + n) k ≡ range_with_len i (n + k)
range_append i zero k = ap₂ (λ a b. range_with_len a b) (none_more i) (none_before k)
  where
    none_more : (n : ℕ) → n + 0 ≡ n
    none_more n = omega arith

    none_before : (n : ℕ) → n ≡ 0 + n
    none_before n = omega arith
range_append i (suc n) k =
    ap (λ xs. i ∷ xs) (ap (λ j. range_with_len (i + 1) n ++ range_with_len j k) (one_later i n) ∙ range_append (i + 1) n k) ∙ ap (range_with_len i) (one_longer n k)
  where
    one_later : (a b : ℕ) → a + suc b ≡ a + 1 + b
    one_later a b = omega arith

    one_longer : (a b : ℕ) → suc (a + b) ≡ suc a + b
    one_longer a b = omega arith

-- ---- numbered changes

-- A numbered change, at a place.
pub numbered_at : {A : Type 0} (g : ℕ → A → A) (i : ℕ) (xs : List A) (j : ℕ) (b : A) → slice_get (map (λ p. g p.0 p.1) (enumerate_from i xs)) j ≡ Some b
    → (a : A) × (slice_get xs j ≡ Some a) × (g (i + j) a ≡ b)
numbered_at g i [] j b at = absurd (none_some b at)
numbered_at g i (x ∷ xs) zero b at = (x, refl, ap (λ n. g n x) (none_more i) ∙ some_value (g i x) b at)
  where
    none_more : (n : ℕ) → n + 0 ≡ n
    none_more n = omega arith
numbered_at g i (x ∷ xs) (suc j) b at =
    let r = numbered_at g (i + 1) xs j b at in (r.0, r.1, ap (λ n. g n r.0) (one_further i j) ∙ r.2)
  where
    one_further : (n k : ℕ) → n + suc k ≡ n + 1 + k
    one_further n k = omega arith

pub enumerated : {A : Type 0} (g : ℕ → A → A) (i : ℕ) (xs : List A) → length (map (λ p. g p.0 p.1) (enumerate_from i xs)) ≡ length xs
enumerated g i [] = refl
enumerated g i (x ∷ xs) = ap suc (enumerated g (i + 1) xs)
