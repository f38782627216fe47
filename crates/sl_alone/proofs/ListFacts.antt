-- Elements of lists.
use Rattle.sl_words.proofs.CaseLaws.{false_is_true}
use Rattle.std.proofs.Common.{Bool, Contains, List, arith, cond, false, filter, inl, inr, refl, subst, sym, true, [], ◌++◌, ◌∙◌, ◌∷◌, ◌≡◌, ◌⊎◌}
use Rattle.std.proofs.lemmas.List.Elements.{Contains-append_cases, Contains-append_left, Contains-append_right, Contains-push, Contains-push_cases}

module _ {A : Type 0} where
  -- Nothing stands in the empty list.
  pub contains_none : (x : A) → Contains [] x → ⊥
  contains_none x h = absurd (omega (arith, h.1))

  -- An element of a list of one is that one.
  contains_one : (y x : A) → Contains (y ∷ []) x → y ≡ x
  contains_one y x h = elim (Contains-push_cases [] y x h) [ inl none ↦ absurd (contains_none x none) | inr is ↦ is ]

  -- An element is the first or one behind it.
  pub contains_cases : (y : A) (xs : List A) (x : A) → Contains (y ∷ xs) x → (y ≡ x) ⊎ Contains xs x
  contains_cases y xs x h = elim (Contains-append_cases (y ∷ []) xs x h) [ inl first ↦ inl (contains_one y x first) | inr later ↦ inr later ]

  -- The first is an element.
  pub contains_first : (x : A) (xs : List A) → Contains (x ∷ xs) x
  contains_first x xs = Contains-append_left (x ∷ []) xs x (Contains-push [] x)

  -- One behind the first is an element.
  pub contains_later : (y : A) (xs : List A) (x : A) → Contains xs x → Contains (y ∷ xs) x
  contains_later y xs x h = Contains-append_right (y ∷ []) xs x h

  -- One between two parts is an element.
  pub contains_middle : (before : List A) (x : A) (after : List A) → Contains (before ++ x ∷ after) x
  contains_middle before x after = Contains-append_right before (x ∷ after) x (contains_first x after)

  -- What a filter keeps was there and passes.
  pub contains_kept : (test : A → Bool) (xs : List A) (x : A) → Contains (filter test xs) x → Contains xs x × (test x ≡ true)
  contains_kept test [] x h = absurd (contains_none x h)
  contains_kept test (y ∷ xs) x h = by (test y) refl h (contains_kept test xs x)
    where
      by : (b : Bool) → test y ≡ b → Contains (cond b (y ∷ filter test xs) (filter test xs)) x
          → (Contains (filter test xs) x → Contains xs x × (test x ≡ true)) → Contains (y ∷ xs) x × (test x ≡ true)
      by true is there rest = elim (contains_cases y (filter test xs) x there) [
        | inl first ↦ (subst (Contains (y ∷ xs)) first (contains_first y xs), subst (λ z. test z ≡ true) first is)
        | inr later ↦ let known = rest later in (contains_later y xs x known.0, known.1)
      ]
      by false is there rest = let known = rest there in (contains_later y xs x known.0, known.1)

  -- What passes is kept.
  pub contains_passing : (test : A → Bool) (xs : List A) (x : A) → Contains xs x → test x ≡ true → Contains (filter test xs) x
  contains_passing test [] x h passes = h
  contains_passing test (y ∷ xs) x h passes = by (test y) refl (λ later. contains_passing test xs x later passes)
    where
      by : (b : Bool) → test y ≡ b → (Contains xs x → Contains (filter test xs) x) → Contains (cond b (y ∷ filter test xs) (filter test xs)) x
      by true is rest = elim (contains_cases y xs x h) [
        | inl first ↦ subst (Contains (y ∷ filter test xs)) first (contains_first y (filter test xs))
        | inr later ↦ contains_later y (filter test xs) x (rest later)
      ]
      by false is rest = elim (contains_cases y xs x h) [
        | inl first ↦ absurd (false_is_true (sym is ∙ subst (λ z. test z ≡ true) (sym first) passes))
        | inr later ↦ rest later
      ]
