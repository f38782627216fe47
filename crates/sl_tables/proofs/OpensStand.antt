-- What a table of open calls shows: calls by number and by area, after one more and after an answer.
use Rattle.sl_host_state.specs.declared.kept_parts.OpenCall.{OpenCall}
use Rattle.sl_tables.specs.Opens.{AreNumbered, OpenState, first_on, is_on_area, least_on}
use Rattle.sl_tables.specs.Rising.{AreRising}
use Rattle.sl_trace.specs.declared.effects.Spot.{Spot}
use Rattle.sl_words.proofs.CaseLaws.{none_some, some_value}
use Rattle.sl_words.specs.Words.{least}
use Rattle.std.proofs.Common.{ap, arith, refl, subst, sym}
use Rattle.std.specs.List.{AllByRecursion}
use Rattle.std.specs.Map.{values_of}
use Rattle.std.specs.Prelude.{Bool, List, None, Option, Some, [], cond, false, filter, find, map, min, not, option_map, true, ℕ, ◌<◌, ◌==◌, ◌∷◌, ◌≡◌}

-- ---- by area

-- What is found by number on an area is the first call there.
pub first_numbered : (p : OpenCall → Bool) (items : List (ℕ × OpenCall)) → AreNumbered items
    → option_map (λ (q : ℕ × OpenCall). q.0) (find (λ q. p q.1) items) ≡ option_map (λ (c : OpenCall). c.number) (find p (values_of items))
first_numbered p [] numbered = refl
first_numbered p (q ∷ items) numbered = by (p q.1) (first_numbered p items numbered.1)
  where
    by : (b : Bool) → option_map (λ (r : ℕ × OpenCall). r.0) (find (λ r. p r.1) items) ≡ option_map (λ (c : OpenCall). c.number) (find p (values_of items))
        → option_map (λ (r : ℕ × OpenCall). r.0) (cond b (Some q) (find (λ r. p r.1) items)) ≡ option_map (λ (c : OpenCall). c.number) (cond b (Some q.1) (find p (values_of items)))
    by true rest = ap (λ n. Some n) (sym numbered.0)
    by false rest = rest

-- The table after an answer.
pub left_is : (n : ℕ) (o : OpenState) (calls : List OpenCall) (next room area : ℕ) → calls ≡ filter (λ c. not (c.number == n)) o.calls → next ≡ o.next → room ≡ o.room → area ≡ o.area
    → record { calls = calls; next = next; room = room; area = area } ≡ record o { calls = filter (λ c. not (c.number == n)) o.calls }
left_is n o calls next room area c k r a = λ i. record { calls = c i; next = k i; room = r i; area = a i }

-- ---- the least number

least_above : (k : ℕ) (ns : List ℕ) (y : ℕ) → AllByRecursion (λ n. k < n) ns → least ns ≡ Some y → k < y
least_above k [] y above is = absurd (none_some y is)
least_above k (n ∷ ns) y above is = by (least ns) is (λ m at. least_above k ns m above.1 at)
  where
    by : (o : Option ℕ) → elim o [ None ↦ Some n | Some m ↦ Some (min n m) ] ≡ Some y → ((m : ℕ) → o ≡ Some m → k < m) → k < y
    by None is more = let own = some_value n y is in omega (arith, above.0, own)
    by (Some m) is more = let own = some_value (min n m) y is in let rest = more m refl in omega (arith, above.0, own, rest)

least_first : (k : ℕ) (ns : List ℕ) → AllByRecursion (λ n. k < n) ns → least (k ∷ ns) ≡ Some k
least_first k ns above = by (least ns) refl
  where
    by : (o : Option ℕ) → least ns ≡ o → elim o [ None ↦ Some k | Some m ↦ Some (min k m) ] ≡ Some k
    by None at = refl
    by (Some m) at = let more = least_above k ns m above at in ap (λ n. Some n) (omega (arith, more))

module _ (p : OpenCall → Bool) where
  numbers_above : (k : ℕ) (items : List (ℕ × OpenCall)) → AreNumbered items → AllByRecursion (λ q. k < q.0) items → AllByRecursion (λ n. k < n) (map (λ (c : OpenCall). c.number) (filter p (values_of items)))
  numbers_above k [] numbered above = tt
  numbers_above k (q ∷ items) numbered above = by (p q.1) (numbers_above k items numbered.1 above.1)
    where
      by : (b : Bool) → AllByRecursion (λ n. k < n) (map (λ (c : OpenCall). c.number) (filter p (values_of items)))
          → AllByRecursion (λ n. k < n) (map (λ (c : OpenCall). c.number) (cond b (q.1 ∷ filter p (values_of items)) (filter p (values_of items))))
      by true rest = (let own = numbered.0 in omega (arith, above.0, own), rest)
      by false rest = rest

  -- Of calls whose numbers rise the first that passes has the least number.
  pub first_is_least : (items : List (ℕ × OpenCall)) → AreNumbered items → AreRising items
      → option_map (λ (c : OpenCall). c.number) (find p (values_of items)) ≡ least (map (λ (c : OpenCall). c.number) (filter p (values_of items)))
  first_is_least [] numbered rising = refl
  first_is_least (q ∷ items) numbered rising = by (p q.1) (first_is_least items numbered.1 rising.1)
    where
      by : (b : Bool) → option_map (λ (c : OpenCall). c.number) (find p (values_of items)) ≡ least (map (λ (c : OpenCall). c.number) (filter p (values_of items)))
          → option_map (λ (c : OpenCall). c.number) (cond b (Some q.1) (find p (values_of items)))
          ≡ least (map (λ (c : OpenCall). c.number) (cond b (q.1 ∷ filter p (values_of items)) (filter p (values_of items))))
      by true rest =
          sym (least_first q.1.number (map (λ (c : OpenCall). c.number) (filter p (values_of items)))
          (numbers_above q.1.number items numbered.1 (subst (λ k. AllByRecursion (λ r. k < r.0) items) (sym numbered.0) rising.0)))
      by false rest = rest

pub first_least : (area : ℕ) (at : Spot) (items : List (ℕ × OpenCall)) → AreNumbered items → AreRising items → first_on area at (values_of items) ≡ least_on area at (values_of items)
first_least area at items numbered rising = first_is_least (is_on_area area at) items numbered rising
