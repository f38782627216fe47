-- Elements that stand at their own numbers.
use Rattle.sl_tables.proofs.SlotsStand.{apart, replaced}
use Rattle.sl_tables.specs.Rising.{AreRising, altered}
use Rattle.sl_words.proofs.CaseLaws.{none_some, some_value}
use Rattle.std.proofs.Common.{ap, refl, subst, sym, ◌∙◌}
use Rattle.std.proofs.lemmas.Bool.Decides.{Decides-eqb}
use Rattle.std.specs.Cmp.{nat_eq_equiv}
use Rattle.std.specs.List.{AllByRecursion}
use Rattle.std.specs.Map.{lookup, values_of}
use Rattle.std.specs.Prelude.{Bool, List, None, Some, [], cond, false, filter, find, map, nat_eq, not, slice_get, suc, true, zero, ℕ, ◌++◌, ◌<◌, ◌==◌, ◌∷◌, ◌≡◌}

module _ {X : Type 0} (number : X → ℕ) where
  -- Each stands at its own number.
  abbrev pub AreOwn : List (ℕ × X) → Type 0
  AreOwn items = AllByRecursion (λ p. number p.1 ≡ p.0) items

  pub found_by_number : (n : ℕ) (items : List (ℕ × X)) → AreOwn items → lookup (nat_eq n) items ≡ find (λ x. number x == n) (values_of items)
  found_by_number n [] h = refl
  found_by_number n (p ∷ items) h =
      ap (λ b. cond b (Some p.1) (lookup (nat_eq n) items)) (nat_eq_equiv.symm n p.0 ∙ ap (λ k. k == n) (sym h.0)) ∙ ap (λ r. cond (number p.1 == n) (Some p.1) r) (found_by_number n items h.1)

  pub own_push : (items : List (ℕ × X)) (x : X) → AreOwn items → AreOwn (items ++ (number x, x) ∷ [])
  own_push [] x h = (refl, tt)
  own_push (p ∷ items) x h = (h.0, own_push items x h.1)

  pub own_left : (p : ℕ × X → Bool) (items : List (ℕ × X)) → AreOwn items → AreOwn (filter p items)
  own_left p [] h = h
  own_left p (q ∷ items) h = by (p q) h.0 (own_left p items h.1)
    where
      by : (b : Bool) → number q.1 ≡ q.0 → AreOwn (filter p items) → AreOwn (cond b (q ∷ filter p items) (filter p items))
      by true own rest = (own, rest)
      by false own rest = rest

  pub values_left : (n : ℕ) (items : List (ℕ × X)) → AreOwn items → values_of (filter (λ p. not (nat_eq n p.0)) items) ≡ filter (λ x. not (number x == n)) (values_of items)
  values_left n [] h = refl
  values_left n (q ∷ items) h = by (nat_eq n q.0) (number q.1 == n) (nat_eq_equiv.symm n q.0 ∙ ap (λ k. k == n) (sym h.0)) (values_left n items h.1)
    where
      by : (a b : Bool) → a ≡ b → values_of (filter (λ p. not (nat_eq n p.0)) items) ≡ filter (λ x. not (number x == n)) (values_of items)
          → values_of (cond (not a) (q ∷ filter (λ p. not (nat_eq n p.0)) items) (filter (λ p. not (nat_eq n p.0)) items))
          ≡ cond (not b) (q.1 ∷ filter (λ x. not (number x == n)) (values_of items)) (filter (λ x. not (number x == n)) (values_of items))
      by true b same rest = rest ∙ ap (λ t. cond (not t) (q.1 ∷ filter (λ x. not (number x == n)) (values_of items)) (filter (λ x. not (number x == n)) (values_of items))) same
      by false b same rest =
          ap (λ xs. q.1 ∷ xs) rest ∙ ap (λ t. cond (not t) (q.1 ∷ filter (λ x. not (number x == n)) (values_of items)) (filter (λ x. not (number x == n)) (values_of items))) same

  -- ---- a change

  abbrev pub changed_by : ℕ → (X → X) → List X → List X
  changed_by n f xs = map (λ x. cond (number x == n) (f x) x) xs

  own_none : (n : ℕ) (f : X → X) (items : List (ℕ × X)) → AreOwn items → AllByRecursion (λ q. n < q.0) items → values_of items ≡ changed_by n f (values_of items)
  own_none n f [] h above = refl
  own_none n f (q ∷ items) h above =
      ap (λ xs. q.1 ∷ xs) (own_none n f items h.1 above.1)
      ∙ sym (ap (λ b. cond b (f q.1) q.1 ∷ changed_by n f (values_of items)) (ap (λ k. k == n) h.0 ∙ (nat_eq_equiv.symm q.0 n ∙ apart n q.0 above.0)))

  pub none_above : (n : ℕ) (item : X) (items : List (ℕ × X)) → AllByRecursion (λ q. n < q.0) items → values_of (replaced n item items) ≡ values_of items
  none_above n item [] h = refl
  none_above n item (q ∷ items) h = ap (λ b. (cond b (q.0, item) q).1 ∷ values_of (replaced n item items)) (apart n q.0 h.0) ∙ ap (λ xs. q.1 ∷ xs) (none_above n item items h.1)

  set_by : (n : ℕ) (f : X → X) (q : ℕ × X) (items : List (ℕ × X)) (x : X) (b : Bool) → nat_eq n q.0 ≡ b → AreOwn (q ∷ items) → AllByRecursion (λ r. q.0 < r.0) items
      → cond b (Some q.1) (lookup (nat_eq n) items) ≡ Some x
      → (lookup (nat_eq n) items ≡ Some x → values_of (replaced n (f x) items) ≡ changed_by n f (values_of items))
      → (cond b (q.0, f x) q).1 ∷ values_of (replaced n (f x) items) ≡ cond (number q.1 == n) (f q.1) q.1 ∷ changed_by n f (values_of items)
  set_by n f q items x true is own above at rest =
      let after = subst (λ m. AllByRecursion (λ r. m < r.0) items) (sym ((Decides-eqb n q.0).0 is)) above in
      ap (λ y. y ∷ values_of (replaced n (f x) items)) (ap f (sym (some_value q.1 x at)))
      ∙ (ap (λ xs. f q.1 ∷ xs) (none_above n (f x) items after ∙ own_none n f items own.1 after)
      ∙ sym (ap (λ b. cond b (f q.1) q.1 ∷ changed_by n f (values_of items)) (ap (λ k. k == n) own.0 ∙ (nat_eq_equiv.symm q.0 n ∙ is))))
  set_by n f q items x false is own above at rest =
      ap (λ xs. q.1 ∷ xs) (rest at) ∙ sym (ap (λ b. cond b (f q.1) q.1 ∷ changed_by n f (values_of items)) (ap (λ k. k == n) own.0 ∙ (nat_eq_equiv.symm q.0 n ∙ is)))

  -- Another in the place of the one of a number is a change of that one.
  pub values_set : (n : ℕ) (f : X → X) (items : List (ℕ × X)) (x : X) → AreOwn items → AreRising items → lookup (nat_eq n) items ≡ Some x
      → values_of (replaced n (f x) items) ≡ changed_by n f (values_of items)
  values_set n f [] x own rising at = absurd (none_some x at)
  values_set n f (q ∷ items) x own rising at = set_by n f q items x (nat_eq n q.0) refl own rising.0 at (λ more. values_set n f items x own.1 rising.1 more)

  -- A change of the element of a number is one of that which has the number.
  pub values_altered : (n : ℕ) (f : X → X) (items : List (ℕ × X)) → AreOwn items → values_of (altered n f items) ≡ changed_by n f (values_of items)
  values_altered n f [] own = refl
  values_altered n f (q ∷ items) own =
      by (nat_eq n q.0) ∙ ap (λ b. cond b (f q.1) q.1 ∷ values_of (altered n f items)) (nat_eq_equiv.symm n q.0 ∙ ap (λ k. k == n) (sym own.0))
      ∙ ap (λ xs. cond (number q.1 == n) (f q.1) q.1 ∷ xs) (values_altered n f items own.1)
    where
      by : (b : Bool) → (cond b (q.0, f q.1) q).1 ∷ values_of (altered n f items) ≡ cond b (f q.1) q.1 ∷ values_of (altered n f items)
      by true = refl
      by false = refl

  pub own_altered : (n : ℕ) (f : X → X) (items : List (ℕ × X)) → ((x : X) → number (f x) ≡ number x) → AreOwn items → AreOwn (altered n f items)
  own_altered n f [] same own = tt
  own_altered n f (q ∷ items) same own = (by (nat_eq n q.0), own_altered n f items same own.1)
    where
      by : (b : Bool) → number (cond b (q.0, f q.1) q).1 ≡ (cond b (q.0, f q.1) q).0
      by true = same q.1 ∙ own.0
      by false = own.0

  none_by : (n : ℕ) (f : X → X) (q : ℕ × X) (items : List (ℕ × X)) (b : Bool) → nat_eq n q.0 ≡ b → number q.1 ≡ q.0 → cond b (Some q.1) (lookup (nat_eq n) items) ≡ None
      → (lookup (nat_eq n) items ≡ None → values_of items ≡ changed_by n f (values_of items)) → q.1 ∷ values_of items ≡ cond (number q.1 == n) (f q.1) q.1 ∷ changed_by n f (values_of items)
  none_by n f q items true is own at rest = absurd (none_some q.1 (sym at))
  none_by n f q items false is own at rest =
      ap (λ xs. q.1 ∷ xs) (rest at) ∙ sym (ap (λ b. cond b (f q.1) q.1 ∷ changed_by n f (values_of items)) (ap (λ k. k == n) own ∙ (nat_eq_equiv.symm q.0 n ∙ is)))

  pub none_changed : (n : ℕ) (f : X → X) (items : List (ℕ × X)) → AreOwn items → lookup (nat_eq n) items ≡ None → values_of items ≡ changed_by n f (values_of items)
  none_changed n f [] own at = refl
  none_changed n f (q ∷ items) own at = none_by n f q items (nat_eq n q.0) refl own.0 at (λ more. none_changed n f items own.1 more)

  own_set : (n : ℕ) (item : X) (items : List (ℕ × X)) → number item ≡ n → AreOwn items → AreOwn (replaced n item items)
  own_set n item [] is h = tt
  own_set n item (q ∷ items) is h = (by (nat_eq n q.0) refl, own_set n item items is h.1)
    where
      by : (b : Bool) → nat_eq n q.0 ≡ b → number (cond b (q.0, item) q).1 ≡ (cond b (q.0, item) q).0
      by true same = is ∙ (Decides-eqb n q.0).0 same
      by false same = h.0

  pub own_replaced : (n : ℕ) (item : X) (items : List (ℕ × X)) → number item ≡ n → AreOwn items → AreOwn (replaced n item items)
  own_replaced n item items is h = own_set n item items is h

module _ {X : Type 0} where
  pub values_push : (items : List (ℕ × X)) (n : ℕ) (x : X) → values_of (items ++ (n, x) ∷ []) ≡ values_of items ++ x ∷ []
  values_push [] n x = refl
  values_push (p ∷ items) n x = ap (λ xs. p.1 ∷ xs) (values_push items n x)

  pub value_there : (items : List (ℕ × X)) (i n : ℕ) (x : X) → slice_get items i ≡ Some (n, x) → slice_get (values_of items) i ≡ Some x
  value_there [] i n x h = absurd (none_some (n, x) h)
  value_there (q ∷ items) zero n x h = ap (λ r. Some r.1) (some_value q (n, x) h)
  value_there (q ∷ items) (suc i) n x h = value_there items i n x h
