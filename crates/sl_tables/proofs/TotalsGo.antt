-- What one more element, one less, or another in its place makes of a sum.
use Rattle.sl_tables.proofs.SlotsStand.{apart, replaced}
use Rattle.sl_tables.specs.Rising.{AreRising, altered}
use Rattle.sl_tables.specs.Totals.{total}
use Rattle.sl_words.proofs.CaseLaws.{none_some, some_value}
use Rattle.std.proofs.Common.{ap, arith, refl, subst, sym, ◌∙◌}
use Rattle.std.proofs.lemmas.Bool.Decides.{Decides-eqb}
use Rattle.std.specs.List.{AllByRecursion}
use Rattle.std.proofs.lemmas.List.Sums.{sum_by-cons}
use Rattle.std.specs.Map.{lookup, values_of}
use Rattle.std.specs.Prelude.{Bool, List, Some, [], cond, count_by, false, filter, length, nat_eq, not, true, ℕ, ◌++◌, ◌+◌, ◌<◌, ◌∷◌, ◌≡◌, ◌≤◌}

module _ {X : Type 0} (w : X → ℕ) where
  pub total_push : (items : List (ℕ × X)) (n : ℕ) (x : X) → total w (items ++ (n, x) ∷ []) ≡ total w items + w x
  total_push [] n x = omega arith
  total_push (p ∷ items) n x = let h = total_push items n x in omega (arith, h)

  -- Where no element weighs more than one, they weigh no more than there are.
  pub total_few : ((x : X) → w x ≤ 1) → (items : List (ℕ × X)) → total w items ≤ length items
  total_few one [] = omega arith
  total_few one (p ∷ items) = let h = total_few one items in let k = one p.1 in omega (arith, h, k)

  same : (n k : ℕ) → nat_eq n k ≡ true → n ≡ k
  same n k is = (Decides-eqb n k).0 is

  none_less : (n : ℕ) (items : List (ℕ × X)) → AllByRecursion (λ q. n < q.0) items → filter (λ p. not (nat_eq n p.0)) items ≡ items
  none_less n [] h = refl
  none_less n (p ∷ items) h =
      ap (λ b. cond (not b) (p ∷ filter (λ q. not (nat_eq n q.0)) items) (filter (λ q. not (nat_eq n q.0)) items)) (apart n p.0 h.0) ∙ ap (λ zs. p ∷ zs) (none_less n items h.1)

  less_by : (n : ℕ) (p : ℕ × X) (items : List (ℕ × X)) (x : X) (b : Bool) → nat_eq n p.0 ≡ b → AllByRecursion (λ q. p.0 < q.0) items → cond b (Some p.1) (lookup (nat_eq n) items) ≡ Some x
      → (lookup (nat_eq n) items ≡ Some x → total w (filter (λ q. not (nat_eq n q.0)) items) + w x ≡ total w items)
      → total w (cond (not b) (p ∷ filter (λ q. not (nat_eq n q.0)) items) (filter (λ q. not (nat_eq n q.0)) items)) + w x ≡ w p.1 + total w items
  less_by n p items x true is above at rest =
      let none = ap (total w) (none_less n items (subst (λ m. AllByRecursion (λ q. m < q.0) items) (sym (same n p.0 is)) above)) in
      let here : w p.1 ≡ w x = ap w (some_value p.1 x at) in omega (arith, none, here)
  less_by n p items x false is above at rest = let h = rest at in omega (arith, h)

  -- One less.
  pub total_less : (n : ℕ) (items : List (ℕ × X)) (x : X) → AreRising items → lookup (nat_eq n) items ≡ Some x → total w (filter (λ q. not (nat_eq n q.0)) items) + w x ≡ total w items
  total_less n [] x rising at = absurd (none_some x at)
  total_less n (p ∷ items) x rising at = less_by n p items x (nat_eq n p.0) refl rising.0 at (λ more. total_less n items x rising.1 more)

  none_set : (n : ℕ) (item : X) (items : List (ℕ × X)) → AllByRecursion (λ q. n < q.0) items → replaced n item items ≡ items
  none_set n item [] h = refl
  none_set n item (p ∷ items) h = ap (λ b. cond b (p.0, item) p ∷ replaced n item items) (apart n p.0 h.0) ∙ ap (λ zs. p ∷ zs) (none_set n item items h.1)

  set_by : (n : ℕ) (p : ℕ × X) (items : List (ℕ × X)) (x item : X) (b : Bool) → nat_eq n p.0 ≡ b → AllByRecursion (λ q. p.0 < q.0) items → cond b (Some p.1) (lookup (nat_eq n) items) ≡ Some x
      → (lookup (nat_eq n) items ≡ Some x → total w (replaced n item items) + w x ≡ total w items + w item)
      → total w (cond b (p.0, item) p ∷ replaced n item items) + w x ≡ w p.1 + total w items + w item
  set_by n p items x item true is above at rest =
      let none = ap (total w) (none_set n item items (subst (λ m. AllByRecursion (λ q. m < q.0) items) (sym (same n p.0 is)) above)) in
      let here : w p.1 ≡ w x = ap w (some_value p.1 x at) in omega (arith, none, here)
  set_by n p items x item false is above at rest = let h = rest at in omega (arith, h)

  -- Another in its place.
  pub total_set : (n : ℕ) (items : List (ℕ × X)) (x item : X) → AreRising items → lookup (nat_eq n) items ≡ Some x → total w (replaced n item items) + w x ≡ total w items + w item
  total_set n [] x item rising at = absurd (none_some x at)
  total_set n (p ∷ items) x item rising at = set_by n p items x item (nat_eq n p.0) refl rising.0 at (λ more. total_set n items x item rising.1 more)

  -- A change that leaves what each weighs.
  pub total_altered : (n : ℕ) (f : X → X) (items : List (ℕ × X)) → ((x : X) → w (f x) ≡ w x) → total w (altered n f items) ≡ total w items
  total_altered n f [] same = refl
  total_altered n f (p ∷ items) same = let here = by (nat_eq n p.0) in let rest = total_altered n f items same in omega (arith, here, rest)
    where
      by : (b : Bool) → w (cond b (p.0, f p.1) p).1 ≡ w p.1
      by true = same p.1
      by false = refl

-- What is counted, where each weighs one that passes.
pub total_counts : {X : Type 0} (p : X → Bool) (items : List (ℕ × X)) → total (λ x. cond (p x) 1 0) items ≡ count_by p (values_of items)
total_counts p [] = refl
total_counts p (q ∷ items) = ap (λ n. cond (p q.1) 1 0 + n) (total_counts p items) ∙ sym (sum_by-cons (λ x. cond (p x) 1 0) q.1 (values_of items))

pub weight_few : {X : Type 0} (p : X → Bool) (x : X) → cond (p x) 1 0 ≤ 1
weight_few p x = by (p x)
  where
    by : (b : Bool) → cond b 1 0 ≤ 1
    by true = omega arith
    by false = omega arith
