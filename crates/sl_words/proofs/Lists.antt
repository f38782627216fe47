-- What is in a list, what is found in it, and what is left of it.
use Rattle.sl_words.proofs.CaseLaws.{false_is_true, none_some, some_value, true_is_false}
use Rattle.std.proofs.Common.{ap, arith, inl, inr, refl, subst, sym, ◌∙◌}
use Rattle.std.proofs.lemmas.List.{length-append}
use Rattle.std.proofs.lemmas.Option.{get_or_from_slice_get, slice_get_within}
use Rattle.std.specs.List.{list_any, slice_set}
use Rattle.std.specs.Prelude.{Bool, Contains, List, None, Some, [], cond, drop, false, filter, find, length, map, slice_get, slice_index_or, suc, true, zero, ℕ, ◌++◌, ◌&&◌, ◌<◌, ◌||◌, ◌∷◌, ◌≡◌, ◌≤◌, ◌⊎◌}

-- ---- what is in it

contains_at : {A : Type 0} (x : A) (xs : List A) (d : A) (k : ℕ) → k < length (x ∷ xs) → slice_index_or (x ∷ xs) k d ≡ d → (x ≡ d) ⊎ Contains xs d
contains_at x xs d zero lt is = inl is
contains_at x xs d (suc k) lt is = inr (k, omega (arith, lt), is)

pub contains_cases : {A : Type 0} (x : A) (xs : List A) (d : A) → Contains (x ∷ xs) d → (x ≡ d) ⊎ Contains xs d
contains_cases x xs d there = contains_at x xs d there.0 there.1 there.2

pub contains_none : {A : Type 0} (d : A) → Contains [] d → ⊥
contains_none d there = omega (arith, there.1)

pub contains_more : {A : Type 0} (x : A) (xs : List A) (d : A) → Contains xs d → Contains (x ∷ xs) d
contains_more x xs d there = (suc there.0, omega (arith, there.1), there.2)

pub contains_first : {A : Type 0} (x : A) (xs : List A) → Contains (x ∷ xs) x
contains_first x xs = (zero, omega arith, refl)

-- ---- by places

pub head_is : {A : Type 0} (x y : A) (xs ys : List A) → x ∷ xs ≡ y ∷ ys → x ≡ y
head_is x y xs ys h = some_value x y (ap (λ zs. slice_get zs 0) h)

pub tail_is : {A : Type 0} (x y : A) (xs ys : List A) → x ∷ xs ≡ y ∷ ys → xs ≡ ys
tail_is x y xs ys h = ap (λ zs. drop 1 zs) h

pub there_is : {A : Type 0} (xs : List A) (k : ℕ) → k < length xs → (x : A) × (slice_get xs k ≡ Some x)
there_is [] k lt = absurd (omega (arith, lt))
there_is (x ∷ xs) zero lt = (x, refl)
there_is (x ∷ xs) (suc k) lt = there_is xs k (omega (arith, lt))

pub same_place_in : {A : Type 0} (xs ys : List A) (i : ℕ) (y : A) → length ys ≡ length xs → slice_get ys i ≡ Some y → (x : A) × (slice_get xs i ≡ Some x)
same_place_in xs [] i y same h = absurd (none_some y h)
same_place_in [] (z ∷ ys) i y same h = absurd (omega (arith, same))
same_place_in (x ∷ xs) (z ∷ ys) zero y same h = (x, refl)
same_place_in (x ∷ xs) (z ∷ ys) (suc i) y same h = same_place_in xs ys i y (omega (arith, same)) h

pub got_before : {A : Type 0} (xs ys : List A) (k : ℕ) (x : A) → slice_get xs k ≡ Some x → slice_get (xs ++ ys) k ≡ Some x
got_before [] ys k x at = absurd (none_some x at)
got_before (y ∷ xs) ys zero x at = at
got_before (y ∷ xs) ys (suc k) x at = got_before xs ys k x at

pub got_index : {A : Type 0} (xs : List A) (i : ℕ) (x d : A) → slice_get xs i ≡ Some x → slice_index_or xs i d ≡ x
got_index xs i x d h = get_or_from_slice_get xs i x d h

pub got_inside : {A : Type 0} (xs : List A) (k : ℕ) (x : A) → slice_get xs k ≡ Some x → Contains xs x
got_inside xs k x h = (k, slice_get_within xs k x h, get_or_from_slice_get xs k x x h)

pub set_here : {A : Type 0} (xs : List A) (i : ℕ) (x a : A) → slice_get xs i ≡ Some a → slice_get (slice_set xs i x) i ≡ Some x
set_here [] i x a h = absurd (none_some a h)
set_here (y ∷ xs) zero x a h = refl
set_here (y ∷ xs) (suc i) x a h = set_here xs i x a h

pub set_length : {A : Type 0} (xs : List A) (i : ℕ) (a : A) → length (slice_set xs i a) ≡ length xs
set_length [] i a = refl
set_length (x ∷ xs) zero a = refl
set_length (x ∷ xs) (suc i) a = ap (λ n. suc n) (set_length xs i a)

-- ---- in two parts

pub next_before : {A : Type 0} (xs : List A) (y : A) (rest : List A) → (xs ++ y ∷ []) ++ rest ≡ xs ++ y ∷ rest
next_before [] y rest = refl
next_before (x ∷ xs) y rest = ap (λ zs. x ∷ zs) (next_before xs y rest)

-- Of two cuts of one list the shorter end ends the longer one.
pub ends : {A : Type 0} (xs zs ys bs : List A) → xs ++ zs ≡ ys ++ bs → length bs ≤ length zs → (mid : List A) × (zs ≡ mid ++ bs)
ends [] zs ys bs h le = (ys, h)
ends (x ∷ xs) zs [] bs h le =
    absurd (let same : suc (length (xs ++ zs)) ≡ length bs = ap (λ us. length us) h in omega (arith, same, le, length-append xs zs))
ends (x ∷ xs) zs (y ∷ ys) bs h le = ends xs zs ys bs (ap (λ us. drop 1 us) h) le

-- ---- through a function

pub contains_map : {A B : Type 0} (f : A → B) (xs : List A) (x : A) → Contains xs x → Contains (map f xs) (f x)
contains_map f [] x h = absurd (contains_none x h)
contains_map f (y ∷ xs) x h =
    elim (contains_cases y xs x h) as (λ z. Contains (f y ∷ map f xs) (f x)) [
      | inl e ↦ subst (λ z. Contains (f y ∷ map f xs) (f z)) e (contains_first (f y) (map f xs))
      | inr more ↦ contains_more (f y) (map f xs) (f x) (contains_map f xs x more)
    ]

pub in_map : {A B : Type 0} (f : A → B) (xs : List A) (y : B) → Contains (map f xs) y → (x : A) × Contains xs x × (f x ≡ y)
in_map f [] y h = absurd (contains_none y h)
in_map f (x ∷ xs) y h =
    elim (contains_cases (f x) (map f xs) y h) as (λ z. (x' : _) × Contains (x ∷ xs) x' × (f x' ≡ y)) [
      | inl e ↦ (x, contains_first x xs, e)
      | inr more ↦ let r = in_map f xs y more in (r.0, contains_more x xs r.0 r.1, r.2)
    ]

-- ---- what passes a test

any_by : {A : Type 0} (p : A → Bool) (x : A) (xs : List A) (b : Bool) → p x ≡ b → (b || list_any p xs) ≡ true → (list_any p xs ≡ true → (y : A) × Contains xs y × (p y ≡ true))
    → (y : A) × Contains (x ∷ xs) y × (p y ≡ true)
any_by p x xs true is h rest = (x, contains_first x xs, is)
any_by p x xs false is h rest = let r = rest h in (r.0, contains_more x xs r.0 r.1, r.2)

pub any_found : {A : Type 0} (p : A → Bool) (xs : List A) → list_any p xs ≡ true → (y : A) × Contains xs y × (p y ≡ true)
any_found p [] h = absurd (false_is_true h)
any_found p (x ∷ xs) h = any_by p x xs (p x) refl h (λ rest. any_found p xs rest)

any_at : {A : Type 0} (p : A → Bool) (x : A) (xs : List A) (d : A) → p d ≡ true → (b : Bool) → p x ≡ b → (x ≡ d) ⊎ Contains xs d → (Contains xs d → list_any p xs ≡ true) → (b || list_any p xs) ≡ true
any_at p x xs d h true is at rest = refl
any_at p x xs d h false is (inl here) rest = absurd (true_is_false (sym h ∙ ap p (sym here) ∙ is))
any_at p x xs d h false is (inr there) rest = rest there

pub any_of : {A : Type 0} (p : A → Bool) (xs : List A) (d : A) → p d ≡ true → Contains xs d → list_any p xs ≡ true
any_of p [] d h there = absurd (contains_none d there)
any_of p (x ∷ xs) d h there = any_at p x xs d h (p x) refl (contains_cases x xs d there) (λ more. any_of p xs d h more)

find_by : {A : Type 0} (p : A → Bool) (x : A) (xs : List A) (m : A) (b : Bool) → p x ≡ b → cond b (Some x) (find p xs) ≡ Some m
    → (find p xs ≡ Some m → Contains xs m × (p m ≡ true)) → Contains (x ∷ xs) m × (p m ≡ true)
find_by p x xs m false is h rest = let r = rest h in (contains_more x xs m r.0, r.1)
find_by {A} p x xs m true is h rest =
    let same = some_value x m h in
    (subst (λ (y : A). Contains (x ∷ xs) y) same (contains_first x xs), subst (λ (y : A). p y ≡ true) same is)

pub find_inside : {A : Type 0} (p : A → Bool) (xs : List A) (m : A) → find p xs ≡ Some m → Contains xs m × (p m ≡ true)
find_inside p [] m h = absurd (none_some m h)
find_inside p (x ∷ xs) m h = find_by p x xs m (p x) refl h (λ rest. find_inside p xs m rest)

fails_at : {A : Type 0} (p : A → Bool) (x : A) (xs : List A) (d : A) (b : Bool) → p x ≡ b → cond b (Some x) (find p xs) ≡ None → (x ≡ d) ⊎ Contains xs d
    → (find p xs ≡ None → Contains xs d → p d ≡ false) → p d ≡ false
fails_at p x xs d true is none where_is rest = absurd (none_some x (sym none))
fails_at {A} p x xs d false is none (inl here) rest = subst (λ (y : A). p y ≡ false) here is
fails_at p x xs d false is none (inr there) rest = rest none there

pub find_fails : {A : Type 0} (p : A → Bool) (xs : List A) (d : A) → find p xs ≡ None → Contains xs d → p d ≡ false
find_fails p [] d none there = absurd (contains_none d there)
find_fails p (x ∷ xs) d none there = fails_at p x xs d (p x) refl none (contains_cases x xs d there) (λ left inside. find_fails p xs d left inside)

kept_at : {A : Type 0} (p : A → Bool) (x : A) (xs : List A) (d : A) (b : Bool) → p x ≡ b → p d ≡ true → (x ≡ d) ⊎ Contains xs d → Contains (filter p xs) d ⊎ (x ≡ d)
    → Contains (cond b (x ∷ filter p xs) (filter p xs)) d
kept_at {A} p x xs d true is h at (inr here) = subst (λ (y : A). Contains (x ∷ filter p xs) y) here (contains_first x (filter p xs))
kept_at p x xs d true is h at (inl rest) = contains_more x (filter p xs) d rest
kept_at p x xs d false is h at (inl rest) = rest
kept_at p x xs d false is h at (inr here) = absurd (true_is_false (sym h ∙ ap p (sym here) ∙ is))

by_rest : {A : Type 0} (p : A → Bool) (x : A) (xs : List A) (d : A) → (Contains xs d → Contains (filter p xs) d) → (x ≡ d) ⊎ Contains xs d → Contains (filter p xs) d ⊎ (x ≡ d)
by_rest p x xs d rest (inl here) = inr here
by_rest p x xs d rest (inr there) = inl (rest there)

pub kept : {A : Type 0} (p : A → Bool) (xs : List A) (d : A) → p d ≡ true → Contains xs d → Contains (filter p xs) d
kept p [] d h there = absurd (contains_none d there)
kept p (x ∷ xs) d h there =
    kept_at p x xs d (p x) refl h (contains_cases x xs d there) (by_rest p x xs d (λ inside. kept p xs d h inside) (contains_cases x xs d there))

kept_by : {A : Type 0} (q : A → Bool) (x : A) (rest xs : List A) (m : A) (b : Bool) → q x ≡ b → Contains (cond b (x ∷ rest) rest) m
    → (Contains rest m → Contains xs m × (q m ≡ true)) → Contains (x ∷ xs) m × (q m ≡ true)
kept_by q x rest xs m false is there more = let r = more there in (contains_more x xs m r.0, r.1)
kept_by {A} q x rest xs m true is there more = by (contains_cases x rest m there) where
  by : (x ≡ m) ⊎ Contains rest m → Contains (x ∷ xs) m × (q m ≡ true)
  by (inl here) = (subst (λ (y : A). Contains (x ∷ xs) y) here (contains_first x xs), subst (λ (y : A). q y ≡ true) here is)
  by (inr old) = let r = more old in (contains_more x xs m r.0, r.1)

pub kept_inside : {A : Type 0} (q : A → Bool) (xs : List A) (m : A) → Contains (filter q xs) m → Contains xs m × (q m ≡ true)
kept_inside q [] m there = absurd (contains_none m there)
kept_inside q (x ∷ xs) m there = kept_by q x (filter q xs) xs m (q x) refl there (λ more. kept_inside q xs m more)

keeps_by : {A : Type 0} (p q : A → Bool) (x : A) (b c : Bool) (rest : List A) → p x ≡ b → q x ≡ c
    → cond (b && c) (x ∷ filter q rest) (filter q rest) ≡ filter q (cond b (x ∷ rest) rest)
keeps_by p q x true c rest is its = ap (λ t. cond t (x ∷ filter q rest) (filter q rest)) (sym its)
keeps_by p q x false c rest is its = refl

pub filter_both : {A : Type 0} (p q : A → Bool) (xs : List A) → filter (λ x. p x && q x) xs ≡ filter q (filter p xs)
filter_both p q [] = refl
filter_both p q (x ∷ xs) =
    ap (λ zs. cond (p x && q x) (x ∷ zs) zs) (filter_both p q xs) ∙ keeps_by p q x (p x) (q x) (filter p xs) refl refl
