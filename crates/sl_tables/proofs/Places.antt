-- Where a number stands among slots whose numbers rise.
use Rattle.indexmap.proofs.MapLemmas.{index-absent}
use Rattle.sl_tables.proofs.SlotsStand.{apart}
use Rattle.sl_tables.specs.Rising.{AreBelow, AreRising}
use Rattle.sl_words.specs.Words.{some_is}
use Rattle.std.proofs.Common.{ap, arith, subst, sym, true≢false, ◌∙◌}
use Rattle.std.proofs.lemmas.Bool.{lt-ltb, ltb-false}
use Rattle.std.proofs.lemmas.Bool.Decides.{Decides-eqb, Decides-ltb}
use Rattle.std.specs.Cmp.{nat_eq_equiv}
use Rattle.std.specs.List.{AllByRecursion, position_or_len}
use Rattle.std.specs.Map.{keys_of}
use Rattle.std.specs.Prelude.{List, None, Some, [], cond, drop, false, length, nat_eq, nat_lt, not, position, slice_get, suc, take, true, zero, ℕ, ◌+◌, ◌<◌, ◌==◌, ◌∷◌, ◌≡◌, ◌≤◌}

module _ {V : Type 0} where
  above_there : (k n : ℕ) (es : List (ℕ × V)) → AllByRecursion (λ q. k < q.0) es → (i : ℕ) → some_is (λ p. p.0 == n) (slice_get es i) ≡ true → k < n
  above_there k n [] above i is = absurd (true≢false (sym is))
  above_there k n (e ∷ es) above zero is = subst (λ m. k < m) ((Decides-eqb e.0 n).0 is) above.0
  above_there k n (e ∷ es) above (suc i) is = above_there k n es above.1 i is

  place_by : (n : ℕ) (es : List (ℕ × V)) (i : ℕ) → AreRising es → some_is (λ p. p.0 == n) (slice_get es i) ≡ true → (position_or_len (nat_eq n) (keys_of es) ≡ i) × (i < length (keys_of es))
  place_by n [] i rising is = absurd (true≢false (sym is))
  place_by n (e ∷ es) zero rising is = (ap (λ b. cond (not b) (1 + position_or_len (nat_eq n) (keys_of es)) 0) (nat_eq_equiv.symm n e.0 ∙ is), omega arith)
  place_by n (e ∷ es) (suc i) rising is =
      let more = place_by n es i rising.1 is in
      let other = nat_eq_equiv.symm n e.0 ∙ apart e.0 n (above_there e.0 n es rising.0 i is) in
      (ap (λ b. cond (not b) (1 + position_or_len (nat_eq n) (keys_of es)) 0) other ∙ omega (arith, more.0), omega (arith, more.1))

  -- A slot that has the number is its place.
  pub place_there : (n : ℕ) (es : List (ℕ × V)) (i : ℕ) → AreRising es → some_is (λ p. p.0 == n) (slice_get es i) ≡ true → position (nat_eq n) (keys_of es) ≡ Some i
  place_there n es i rising is =
      let it = place_by n es i rising is in
      ap (λ m. cond (nat_lt m (length (keys_of es))) (Some m) None) it.0 ∙ ap (λ b. cond b (Some i) None) (lt-ltb i (length (keys_of es)) it.1)

  all_above : (n k : ℕ) (es : List (ℕ × V)) → n ≤ k → AllByRecursion (λ q. k < q.0) es → AllByRecursion (λ k. nat_eq n k ≡ false) (keys_of es)
  all_above n k [] le above = tt
  all_above n k (e ∷ es) le above = (apart n e.0 (omega (arith, le, above.0)), all_above n k es le above.1)

  absent : (n : ℕ) (es : List (ℕ × V)) (i : ℕ) → AreRising es → AreBelow n (take i es) → AllByRecursion (λ p. n ≤ p.0) (drop i es) → some_is (λ p. p.0 == n) (slice_get es i) ≡ false → AllByRecursion (λ k. nat_eq n k ≡ false) (keys_of es)
  absent n [] i rising below from not_n = tt
  absent n (e ∷ es) zero rising below from not_n = (nat_eq_equiv.symm n e.0 ∙ not_n, all_above n e.0 es from.0 rising.0)
  absent n (e ∷ es) (suc i) rising below from not_n = (nat_eq_equiv.symm n e.0 ∙ apart e.0 n below.0, absent n es i rising.1 below.1 from not_n)

  -- Where those before a slot are below the number, and those from it on are not, it stands there or nowhere.
  pub place_none : (n : ℕ) (es : List (ℕ × V)) (i : ℕ) → AreRising es → AreBelow n (take i es) → AllByRecursion (λ p. n ≤ p.0) (drop i es) → some_is (λ p. p.0 == n) (slice_get es i) ≡ false
      → position (nat_eq n) (keys_of es) ≡ None
  place_none n es i rising below from not_n = index-absent (nat_eq n) es (absent n es i rising below from not_n)

  below_there : (k n : ℕ) (es : List (ℕ × V)) → AllByRecursion (λ q. k < q.0) es → (i : ℕ) → some_is (λ p. nat_lt p.0 n) (slice_get es i) ≡ true → k < n
  below_there k n [] above i is = absurd (true≢false (sym is))
  below_there k n (e ∷ es) above zero is = let lt = (Decides-ltb e.0 n).0 is in omega (arith, lt, above.0)
  below_there k n (e ∷ es) above (suc i) is = below_there k n es above.1 i is

  below_by : (n : ℕ) (es : List (ℕ × V)) (i : ℕ) → AreRising es → some_is (λ p. nat_lt p.0 n) (slice_get es i) ≡ true → AreBelow n (take (suc i) es)
  below_by n [] i rising is = absurd (true≢false (sym is))
  below_by n (e ∷ es) zero rising is = ((Decides-ltb e.0 n).0 is, tt)
  below_by n (e ∷ es) (suc i) rising is = (below_there e.0 n es rising.0 i is, below_by n es i rising.1 is)

  -- Up to a slot that is below a number all are.
  pub below_to : (n : ℕ) (es : List (ℕ × V)) (i : ℕ) → AreRising es → some_is (λ p. nat_lt p.0 n) (slice_get es i) ≡ true → AreBelow n (take (i + 1) es)
  below_to n es i rising is = subst (λ m. AreBelow n (take m es)) (let e : suc i ≡ i + 1 = omega arith in e) (below_by n es i rising is)

  all_from : (n k : ℕ) (es : List (ℕ × V)) → n ≤ k → AllByRecursion (λ q. k < q.0) es → AllByRecursion (λ p. n ≤ p.0) es
  all_from n k [] le above = tt
  all_from n k (e ∷ es) le above = (omega (arith, le, above.0), all_from n k es le above.1)

  -- From a slot on that is not below a number none is.
  pub above_from : (n : ℕ) (es : List (ℕ × V)) (i : ℕ) → AreRising es → i < length es → some_is (λ p. nat_lt p.0 n) (slice_get es i) ≡ false → AllByRecursion (λ p. n ≤ p.0) (drop i es)
  above_from n [] i rising within is = absurd (omega (arith, within))
  above_from n (e ∷ es) zero rising within is = let le = ltb-false e.0 n is in (le, all_from n e.0 es le rising.0)
  above_from n (e ∷ es) (suc i) rising within is = above_from n es i rising.1 (omega (arith, within)) is
