-- Plain facts of lists: what stands where after a map, what is left of a filter, what a list contains.
use Rattle.sl_words.proofs.Lists.{contains_cases, contains_first, contains_more, contains_none, find_fails}
use Rattle.sl_words.proofs.Options.{mapped_value}
use Rattle.sl_words.proofs.CaseLaws.{none_some, some_value, true_is_false}
use Rattle.std.proofs.Common.{ap, arith, inl, inr, refl, subst, suc, sym, zero, ◌∙◌}
use Rattle.std.proofs.lemmas.Option.{slice_get-map}
use Rattle.std.specs.List.{AllByRecursion, list_any, range_with_len}
use Rattle.std.specs.Prelude.{Bool, Contains, List, None, Option, Some, cond, false, filter, find, flat_map, is_some, length, map, option_map, slice_get, true, [], ℕ, ◌++◌, ◌+◌, ◌<◌, ◌||◌, ◌∷◌, ◌≡◌, ◌⊎◌}

-- ---- by place

-- What stands at a place of a mapped list comes from what stood there.
pub at_mapped : {A B : Type 0} (f : A → B) (xs : List A) (k : ℕ) (y : B) → slice_get (map f xs) k ≡ Some y → (x : A) × (slice_get xs k ≡ Some x) × (f x ≡ y)
at_mapped f xs k y there = mapped_value f (slice_get xs k) y (sym (slice_get-map f xs k) ∙ there)

pub mapped_at : {A B : Type 0} (f : A → B) (xs : List A) (k : ℕ) (x : A) → slice_get xs k ≡ Some x → slice_get (map f xs) k ≡ Some (f x)
mapped_at f xs k x there = slice_get-map f xs k ∙ ap (option_map f) there

-- Two that stand at one place are one.
pub one_there : {A : Type 0} (xs : List A) (k : ℕ) (x y : A) → slice_get xs k ≡ Some x → slice_get xs k ≡ Some y → x ≡ y
one_there xs k x y a b = some_value x y (sym a ∙ b)

pub got_below : {A : Type 0} (xs : List A) (k : ℕ) (x : A) → slice_get xs k ≡ Some x → k < length xs
got_below [] k x h = absurd (none_some x h)
got_below (y ∷ xs) zero x h = omega arith
got_below (y ∷ xs) (suc k) x h = let r = got_below xs k x h in omega (arith, r)

-- What a list contains stands at some place of it.
pub at_some : {A : Type 0} (xs : List A) (x : A) → Contains xs x → (k : ℕ) × (slice_get xs k ≡ Some x)
at_some [] x there = absurd (contains_none x there)
at_some {A} (y ∷ ys) x there = by (λ rest. at_some ys x rest) (contains_cases y ys x there) where
  by : (Contains ys x → (k : ℕ) × (slice_get ys k ≡ Some x)) → (y ≡ x) ⊎ Contains ys x → (k : ℕ) × (slice_get (y ∷ ys) k ≡ Some x)
  by deeper (inl is) = (0, ap (λ (z : A). Some z) is)
  by deeper (inr rest) = let r = deeper rest in (suc r.0, r.1)

-- ---- filters

pub kept_if : {A : Type 0} (q : A → Bool) (a : A) (xs : List A) (b : Bool) → q a ≡ b → filter q (a ∷ xs) ≡ cond b (a ∷ filter q xs) (filter q xs)
kept_if q a xs b is = ap (λ c. cond c (a ∷ filter q xs) (filter q xs)) is

-- Two tests that agree on each element leave the same.
pub filter_where : {A : Type 0} (p q : A → Bool) (xs : List A) → ((a : A) → Contains xs a → p a ≡ q a) → filter p xs ≡ filter q xs
filter_where p q [] same = refl
filter_where p q (x ∷ xs) same =
    ap (λ b. cond b (x ∷ filter p xs) (filter p xs)) (same x (contains_first x xs))
    ∙ ap (λ ys. cond (q x) (x ∷ ys) ys) (filter_where p q xs (λ a there. same a (contains_more x xs a there)))

pub filter_as : {A : Type 0} (p q : A → Bool) (xs : List A) → ((a : A) → p a ≡ q a) → filter p xs ≡ filter q xs
filter_as p q xs same = filter_where p q xs (λ a there. same a)

-- A test that each element passes leaves the list.
pub filter_whole : {A : Type 0} (p : A → Bool) (xs : List A) → ((a : A) → Contains xs a → p a ≡ true) → filter p xs ≡ xs
filter_whole p [] all = refl
filter_whole p (x ∷ xs) all =
    kept_if p x xs true (all x (contains_first x xs)) ∙ ap (λ ys. x ∷ ys) (filter_whole p xs (λ a there. all a (contains_more x xs a there)))

-- A test that no element passes leaves nothing.
pub filter_none : {A : Type 0} (p : A → Bool) (xs : List A) → ((a : A) → Contains xs a → p a ≡ false) → filter p xs ≡ []
filter_none p [] none = refl
filter_none p (x ∷ xs) none = kept_if p x xs false (none x (contains_first x xs)) ∙ filter_none p xs (λ a there. none a (contains_more x xs a there))

-- ---- tests

pub any_mapped : {A B : Type 0} (p : B → Bool) (g : A → B) (xs : List A) → list_any p (map g xs) ≡ list_any (λ x. p (g x)) xs
any_mapped p g [] = refl
any_mapped p g (x ∷ xs) = ap (λ b. p (g x) || b) (any_mapped p g xs)

pub any_as : {A : Type 0} (p q : A → Bool) (xs : List A) → ((a : A) → p a ≡ q a) → list_any p xs ≡ list_any q xs
any_as p q [] same = refl
any_as p q (x ∷ xs) same = ap (λ b. b || list_any p xs) (same x) ∙ ap (λ b. q x || b) (any_as p q xs same)

-- No element passes.
pub none_any : {A : Type 0} (p : A → Bool) (xs : List A) (d : A) → list_any p xs ≡ false → Contains xs d → p d ≡ false
none_any p [] d none there = absurd (contains_none d there)
none_any p (x ∷ xs) d none there = by (λ left rest. none_any p xs d left rest) (p x) refl none (contains_cases x xs d there) where
  by : (list_any p xs ≡ false → Contains xs d → p d ≡ false) → (b : Bool) → p x ≡ b → (b || list_any p xs) ≡ false → (x ≡ d) ⊎ Contains xs d → p d ≡ false
  by deeper true is left at = absurd (true_is_false left)
  by deeper false is left (inl here) = ap p (sym here) ∙ is
  by deeper false is left (inr rest) = deeper left rest

pub found_mapped : {A B : Type 0} (p : B → Bool) (g : A → B) (xs : List A) → find p (map g xs) ≡ option_map g (find (λ x. p (g x)) xs)
found_mapped p g [] = refl
found_mapped p g (x ∷ xs) = by (p (g x)) (found_mapped p g xs) where
  by : (b : Bool) → find p (map g xs) ≡ option_map g (find (λ y. p (g y)) xs) → cond b (Some (g x)) (find p (map g xs)) ≡ option_map g (cond b (Some x) (find (λ y. p (g y)) xs))
  by true rest = refl
  by false rest = rest

-- One that passes is found.
pub found_some : {A : Type 0} (p : A → Bool) (xs : List A) (d : A) → Contains xs d → p d ≡ true → is_some (find p xs) ≡ true
found_some {A} p xs d there is = by (find p xs) refl where
  by : (o : Option A) → find p xs ≡ o → is_some o ≡ true
  by None none = absurd (true_is_false (sym is ∙ find_fails p xs d none there))
  by (Some e) at = refl

-- ---- what each element has

pub each_of : {A : Type 0} (P : A → Type 0) (xs : List A) (x : A) → AllByRecursion P xs → Contains xs x → P x
each_of P [] x all there = absurd (contains_none x there)
each_of P (y ∷ ys) x all there = by (λ rest. each_of P ys x all.1 rest) (contains_cases y ys x there) where
  by : (Contains ys x → P x) → (y ≡ x) ⊎ Contains ys x → P x
  by deeper (inl is) = subst P is all.0
  by deeper (inr rest) = deeper rest

pub all_from : {A : Type 0} (P : A → Type 0) (xs : List A) → ((x : A) → Contains xs x → P x) → AllByRecursion P xs
all_from P [] each = tt
all_from P (x ∷ xs) each = (each x (contains_first x xs), all_from P xs (λ y there. each y (contains_more x xs y there)))

pub all_as : {A : Type 0} (P Q : A → Type 0) (xs : List A) → ((x : A) → P x → Q x) → AllByRecursion P xs → AllByRecursion Q xs
all_as P Q [] turn all = tt
all_as P Q (x ∷ xs) turn all = (turn x all.0, all_as P Q xs turn all.1)

pub all_both : {A : Type 0} (P : A → Type 0) (xs ys : List A) → AllByRecursion P xs → AllByRecursion P ys → AllByRecursion P (xs ++ ys)
all_both P [] ys a b = b
all_both P (x ∷ xs) ys a b = (a.0, all_both P xs ys a.1 b)

pub all_front : {A : Type 0} (P : A → Type 0) (xs ys : List A) → AllByRecursion P (xs ++ ys) → AllByRecursion P xs
all_front P [] ys all = tt
all_front P (x ∷ xs) ys all = (all.0, all_front P xs ys all.1)

pub all_back : {A : Type 0} (P : A → Type 0) (xs ys : List A) → AllByRecursion P (xs ++ ys) → AllByRecursion P ys
all_back P [] ys all = all
all_back P (x ∷ xs) ys all = all_back P xs ys all.1

-- ---- what a list contains

pub in_either : {A : Type 0} (xs ys : List A) (d : A) → Contains (xs ++ ys) d → Contains xs d ⊎ Contains ys d
in_either [] ys d there = inr there
in_either (x ∷ xs) ys d there = by (λ rest. in_either xs ys d rest) (contains_cases x (xs ++ ys) d there) where
  by : (Contains (xs ++ ys) d → Contains xs d ⊎ Contains ys d) → (x ≡ d) ⊎ Contains (xs ++ ys) d → Contains (x ∷ xs) d ⊎ Contains ys d
  by deeper (inl is) = inl (subst (λ z. Contains (x ∷ xs) z) is (contains_first x xs))
  by deeper (inr rest) = elim (deeper rest) [ inl a ↦ inl (contains_more x xs d a) | inr b ↦ inr b ]

pub in_front : {A : Type 0} (xs ys : List A) (d : A) → Contains xs d → Contains (xs ++ ys) d
in_front [] ys d there = absurd (contains_none d there)
in_front (x ∷ xs) ys d there = by (λ rest. in_front xs ys d rest) (contains_cases x xs d there) where
  by : (Contains xs d → Contains (xs ++ ys) d) → (x ≡ d) ⊎ Contains xs d → Contains (x ∷ xs ++ ys) d
  by deeper (inl is) = subst (λ z. Contains (x ∷ xs ++ ys) z) is (contains_first x (xs ++ ys))
  by deeper (inr rest) = contains_more x (xs ++ ys) d (deeper rest)

pub in_back : {A : Type 0} (xs ys : List A) (d : A) → Contains ys d → Contains (xs ++ ys) d
in_back [] ys d there = there
in_back (x ∷ xs) ys d there = contains_more x (xs ++ ys) d (in_back xs ys d there)

pub in_flat : {A B : Type 0} (f : A → List B) (xs : List A) (y : B) → Contains (flat_map f xs) y → (x : A) × Contains xs x × Contains (f x) y
in_flat f [] y there = absurd (contains_none y there)
in_flat {A} f (x ∷ xs) y there = by (λ rest. in_flat f xs y rest) (in_either (f x) (flat_map f xs) y there) where
  by : (Contains (flat_map f xs) y → (z : A) × Contains xs z × Contains (f z) y) → Contains (f x) y ⊎ Contains (flat_map f xs) y → (z : A) × Contains (x ∷ xs) z × Contains (f z) y
  by deeper (inl here) = (x, contains_first x xs, here)
  by deeper (inr rest) = let r = deeper rest in (r.0, contains_more x xs r.0 r.1, r.2)

pub flat_has : {A B : Type 0} (f : A → List B) (xs : List A) (x : A) (y : B) → Contains xs x → Contains (f x) y → Contains (flat_map f xs) y
flat_has f [] x y there has = absurd (contains_none x there)
flat_has f (z ∷ xs) x y there has = by (λ rest. flat_has f xs x y rest has) (contains_cases z xs x there) where
  by : (Contains xs x → Contains (flat_map f xs) y) → (z ≡ x) ⊎ Contains xs x → Contains (f z ++ flat_map f xs) y
  by deeper (inl is) = in_front (f z) (flat_map f xs) y (subst (λ w. Contains (f w) y) (sym is) has)
  by deeper (inr rest) = in_back (f z) (flat_map f xs) y (deeper rest)

-- ---- numbers in a row

pub range_last : (a n : ℕ) → range_with_len a (suc n) ≡ range_with_len a n ++ (a + n) ∷ []
range_last a zero = let e : a ≡ a + 0 = omega arith in ap (λ k. k ∷ []) e
range_last a (suc n) =
    let e : a + 1 + n ≡ a + suc n = omega arith in
    ap (λ ks. a ∷ ks) (range_last (a + 1) n) ∙ ap (λ k. a ∷ (range_with_len (a + 1) n ++ k ∷ [])) e
