-- What a list has, with what stands before and behind it.
use Rattle.sl_run_law.specs.Leases.CallFronts.{Aged, AllAged}
use Rattle.sl_trace.specs.Traces.{Submitted}
use Rattle.sl_words.proofs.CaseLaws.{none_some}
use Rattle.std.proofs.Common.{ap, refl, subst, sym}
use Rattle.std.specs.Prelude.{Bool, List, None, Some, cond, false, filter, slice_get, true, [], ℕ, ◌++◌, ◌∷◌, ◌≡◌}

pub record Has {A : Type 0} (xs : List A) (x : A) : Type 0 where
  pub newer : List A
  pub older : List A
  pub is : xs ≡ newer ++ x ∷ older

pub has_none : {A : Type 0} (x : A) (newer older : List A) → [] ≡ newer ++ x ∷ older → ⊥
has_none x [] older h = none_some x (ap (λ xs. slice_get xs 0) h)
has_none x (y ∷ ys) older h = none_some y (ap (λ xs. slice_get xs 0) h)

pub has_one_more : {A : Type 0} (y : A) (xs : List A) (x : A) → Has xs x → Has (y ∷ xs) x
has_one_more y xs x h = record { newer = y ∷ h.newer; older = h.older; is = ap (λ zs. y ∷ zs) h.is }

kept_first : {A : Type 0} (p : A → Bool) (x : A) (xs : List A) (b : Bool) → p x ≡ b → b ≡ true → Has (cond b (x ∷ xs) xs) x
kept_first p x xs true is passes = record { newer = []; older = xs; is = refl }
kept_first p x xs false is passes = absurd (none_some true (ap (λ b. cond b None (Some true)) (sym passes)))

kept_later : {A : Type 0} (y : A) (xs : List A) (x : A) (b : Bool) → Has xs x → Has (cond b (y ∷ xs) xs) x
kept_later y xs x true h = has_one_more y xs x h
kept_later y xs x false h = h

kept_among : {A : Type 0} (p : A → Bool) (newer : List A) (x : A) (older : List A) → p x ≡ true → Has (filter p (newer ++ x ∷ older)) x
kept_among p [] x older passes = kept_first p x (filter p older) (p x) refl passes
kept_among p (y ∷ ys) x older passes = kept_later y (filter p (ys ++ x ∷ older)) x (p y) (kept_among p ys x older passes)

-- What passes the test is kept.
pub has_kept : {A : Type 0} (p : A → Bool) (xs : List A) (x : A) → Has xs x → p x ≡ true → Has (filter p xs) x
has_kept p xs x h passes = subst (λ zs. Has (filter p zs) x) (sym h.is) (kept_among p h.newer x h.older passes)

-- The call that has aged into one of these.
pub record WasAmong (n : ℕ) (xs : List Submitted) (d : Submitted) : Type 0 where
  pub was : Submitted
  pub has : Has xs was
  pub aged : Aged n was d

pub was_among : (n : ℕ) (xs between : List Submitted) (d : Submitted) (older : List Submitted) → AllAged n xs (between ++ d ∷ older) → WasAmong n xs d
was_among n [] [] d older h = absurd h
was_among n [] (y ∷ ys) d older h = absurd h
was_among n (x ∷ xs) [] d older h = record { was = x; has = record { newer = []; older = xs; is = refl }; aged = h.0 }
was_among n (x ∷ xs) (y ∷ ys) d older h =
    let rest : WasAmong n xs d = was_among n xs ys d older h.1 in
    record { was = rest.was; has = has_one_more x xs rest.was rest.has; aged = rest.aged }
