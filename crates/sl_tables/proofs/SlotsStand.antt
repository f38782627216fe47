-- What slots show, and what a gap or one more slot makes of that.
use Rattle.sl_tables.specs.Rising.{AreBelow, AreRising, altered, gaps_in, is_full, items_of, standing}
use Rattle.sl_words.proofs.CaseLaws.{none_some, some_value}
use Rattle.sl_words.proofs.Lists.{there_is}
use Rattle.sl_words.proofs.Numbers.{number_itself}
use Rattle.std.proofs.Common.{ap, arith, inl, inr, refl, subst, sym, true≢false, ◌∙◌}
use Rattle.std.proofs.lemmas.Bool.Decides.{eqb_tells}
use Rattle.std.proofs.lemmas.Bool.{ne_eqb}
use Rattle.std.specs.List.{AllByRecursion}
use Rattle.indexmap.proofs.MapLemmas.{Found-position, some_index}
use Rattle.std.proofs.lemmas.Option.{slice_get_read}
use Rattle.std.proofs.lemmas.Map.Made.{lookup_key_passes}
use Rattle.std.specs.Map.{keys_of, lookup, remove_entry, values_of}
use Rattle.std.specs.Prelude.{Bool, List, None, Option, Some, [], cond, false, filter, is_some, position, length, nat_eq, not, option_and_then, option_map, slice_get, slice_index_or, slice_set, suc, true, zero, ℕ, ◌++◌, ◌+◌, ◌<◌, ◌∷◌, ◌≡◌, ◌≢◌, ◌≤◌, ◌⊎◌}
use Rattle.indexmap.specs.IndexMap.{set_value_at}

-- ---- numbers

pub apart : (n k : ℕ) → n < k → nat_eq n k ≡ false
apart n k lt = ne_eqb n k (λ is. omega (arith, lt, is))

same : (n k : ℕ) → nat_eq n k ≡ true → n ≡ k
same n k is = same_by (eqb_tells n k) is
  where
    same_by : ((nat_eq n k ≡ true) × (n ≡ k)) ⊎ ((nat_eq n k ≡ false) × (n ≢ k)) → nat_eq n k ≡ true → n ≡ k
    same_by (inl h) is = h.1
    same_by (inr h) is = absurd (true≢false (sym is ∙ h.0))

pub below_more : {V : Type 0} (n m : ℕ) (es : List (ℕ × V)) → n ≤ m → AreBelow n es → AreBelow m es
below_more n m [] le h = h
below_more n m (e ∷ es) le h = (omega (arith, le, h.0), below_more n m es le h.1)

pub below_push : {V : Type 0} (n : ℕ) (v : V) (es : List (ℕ × V)) → AreBelow n es → AreBelow (n + 1) (es ++ (n, v) ∷ [])
below_push n v [] h = (omega arith, tt)
below_push n v (e ∷ es) h = (omega (arith, h.0), below_push n v es h.1)

above_push : {V : Type 0} (k n : ℕ) (v : V) (es : List (ℕ × V)) → k < n → AllByRecursion (λ q. k < q.0) es → AllByRecursion (λ q. k < q.0) (es ++ (n, v) ∷ [])
above_push k n v [] lt h = (lt, tt)
above_push k n v (e ∷ es) lt h = (h.0, above_push k n v es lt h.1)

pub rising_push : {V : Type 0} (n : ℕ) (v : V) (es : List (ℕ × V)) → AreBelow n es → AreRising es → AreRising (es ++ (n, v) ∷ [])
rising_push n v [] below h = (tt, tt)
rising_push n v (e ∷ es) below h = (above_push e.0 n v es below.0 h.0, rising_push n v es below.1 h.1)

-- ---- what is left by a test

pub kept : {V : Type 0} (P : ℕ × V → Type 0) (p : ℕ × V → Bool) (es : List (ℕ × V)) → AllByRecursion P es → AllByRecursion P (filter p es)
kept P p [] h = h
kept P p (e ∷ es) h = by (p e) (kept P p es h.1)
  where
    by : (b : Bool) → AllByRecursion P (filter p es) → AllByRecursion P (cond b (e ∷ filter p es) (filter p es))
    by true rest = (h.0, rest)
    by false rest = rest

pub below_kept : {V : Type 0} (n : ℕ) (p : ℕ × V → Bool) (es : List (ℕ × V)) → AreBelow n es → AreBelow n (filter p es)
below_kept n p es h = kept (λ q. q.0 < n) p es h

pub rising_kept : {V : Type 0} (p : ℕ × V → Bool) (es : List (ℕ × V)) → AreRising es → AreRising (filter p es)
rising_kept p [] h = h
rising_kept p (e ∷ es) h = by (p e) (rising_kept p es h.1)
  where
    by : (b : Bool) → AreRising (filter p es) → AreRising (cond b (e ∷ filter p es) (filter p es))
    by true rest = (kept (λ q. e.0 < q.0) p es h.0, rest)
    by false rest = rest

module _ {T : Type 0} where
  pub items_kept : (es : List (ℕ × Option T)) → items_of (filter is_full es) ≡ items_of es
  items_kept [] = refl
  items_kept ((k, None) ∷ es) = items_kept es
  items_kept ((k, Some x) ∷ es) = ap (λ ps. (k, x) ∷ ps) (items_kept es)

  pub no_gaps : (es : List (ℕ × Option T)) → gaps_in (filter is_full es) ≡ 0
  no_gaps [] = refl
  no_gaps ((k, None) ∷ es) = no_gaps es
  no_gaps ((k, Some x) ∷ es) = no_gaps es

  pub items_push : (n : ℕ) (x : T) (es : List (ℕ × Option T)) → items_of (es ++ (n, Some x) ∷ []) ≡ items_of es ++ (n, x) ∷ []
  items_push n x [] = refl
  items_push n x ((k, None) ∷ es) = items_push n x es
  items_push n x ((k, Some y) ∷ es) = ap (λ ps. (k, y) ∷ ps) (items_push n x es)

  pub gaps_push : (n : ℕ) (x : T) (es : List (ℕ × Option T)) → gaps_in (es ++ (n, Some x) ∷ []) ≡ gaps_in es
  gaps_push n x [] = refl
  gaps_push n x ((k, None) ∷ es) = ap (λ c. c + 1) (gaps_push n x es)
  gaps_push n x ((k, Some y) ∷ es) = gaps_push n x es

  items_above : (k : ℕ) (es : List (ℕ × Option T)) → AllByRecursion (λ q. k < q.0) es → AllByRecursion (λ q. k < q.0) (items_of es)
  items_above k [] h = tt
  items_above k ((n, None) ∷ es) h = items_above k es h.1
  items_above k ((n, Some x) ∷ es) h = (h.0, items_above k es h.1)

  pub items_below : (n : ℕ) (es : List (ℕ × Option T)) → AreBelow n es → AreBelow n (items_of es)
  items_below n [] h = tt
  items_below n ((k, None) ∷ es) h = items_below n es h.1
  items_below n ((k, Some x) ∷ es) h = (h.0, items_below n es h.1)

  -- What stands in rising slots rises.
  pub items_rise : (es : List (ℕ × Option T)) → AreRising es → AreRising (items_of es)
  items_rise [] h = tt
  items_rise ((k, None) ∷ es) h = items_rise es h.1
  items_rise ((k, Some x) ∷ es) h = (items_above k es h.0, items_rise es h.1)

  -- ---- what is found

  none_above : (n : ℕ) (es : List (ℕ × Option T)) → AllByRecursion (λ q. n < q.0) es → lookup (nat_eq n) (items_of es) ≡ None
  none_above n [] h = refl
  none_above n ((k, None) ∷ es) h = none_above n es h.1
  none_above n ((k, Some x) ∷ es) h = ap (λ b. cond b (Some x) (lookup (nat_eq n) (items_of es))) (apart n k h.0) ∙ none_above n es h.1

  found_by : (n k : ℕ) (o : Option T) (es : List (ℕ × Option T)) (b : Bool) → nat_eq n k ≡ b → AllByRecursion (λ q. k < q.0) es
      → option_and_then (λ v. v) (lookup (nat_eq n) es) ≡ lookup (nat_eq n) (items_of es)
      → option_and_then (λ v. v) (cond b (Some o) (lookup (nat_eq n) es)) ≡ lookup (nat_eq n) (items_of ((k, o) ∷ es))
  found_by n k None es true is above rest =
      sym (none_above n es (subst (λ m. AllByRecursion (λ q. m < q.0) es) (sym (same n k is)) above))
  found_by n k (Some x) es true is above rest = ap (λ c. cond c (Some x) (lookup (nat_eq n) (items_of es))) (sym is)
  found_by n k None es false is above rest = rest
  found_by n k (Some x) es false is above rest = rest ∙ ap (λ c. cond c (Some x) (lookup (nat_eq n) (items_of es))) (sym is)

  -- What a number finds among the slots is what it finds of what stands.
  pub found : (n : ℕ) (es : List (ℕ × Option T)) → AreRising es → option_and_then (λ v. v) (lookup (nat_eq n) es) ≡ lookup (nat_eq n) (items_of es)
  found n [] h = refl
  found n ((k, o) ∷ es) h = found_by n k o es (nat_eq n k) refl h.0 (found n es h.1)

  pub found_full : (n : ℕ) (es : List (ℕ × Option T)) (o : Option T) → AreRising es → lookup (nat_eq n) es ≡ Some o → lookup (nat_eq n) (items_of es) ≡ o
  found_full n es o rising is = sym (found n es rising) ∙ ap (λ r. option_and_then (λ v. v) r) is

  pub found_none : (n : ℕ) (es : List (ℕ × Option T)) → AreRising es → lookup (nat_eq n) es ≡ None → lookup (nat_eq n) (items_of es) ≡ None
  found_none n es rising is = sym (found n es rising) ∙ ap (λ r. option_and_then (λ v. v) r) is

  none_by : (o : Option (Option T)) → is_some o ≡ false → o ≡ None
  none_by None h = refl
  none_by (Some v) h = absurd (true≢false h)

  pub not_there : (n : ℕ) (es : List (ℕ × Option T)) → AreRising es → is_some (lookup (nat_eq n) es) ≡ false → lookup (nat_eq n) (items_of es) ≡ None
  not_there n es rising none = found_none n es rising (none_by (lookup (nat_eq n) es) none)

  -- ---- a gap

  taken_above : (n : ℕ) (es : List (ℕ × Option T)) → AllByRecursion (λ q. n < q.0) es → remove_entry (nat_eq n) (items_of es) ≡ items_of es
  taken_above n [] h = refl
  taken_above n ((k, None) ∷ es) h = taken_above n es h.1
  taken_above n ((k, Some x) ∷ es) h =
      ap (λ b. cond b (items_of es) ((k, x) ∷ remove_entry (nat_eq n) (items_of es))) (apart n k h.0) ∙ ap (λ ps. (k, x) ∷ ps) (taken_above n es h.1)

  other_by : (n k : ℕ) (es : List (ℕ × Option T)) → AllByRecursion (λ q. k < q.0) es → (i : ℕ) (o : Option T) → slice_get es i ≡ Some (n, o) → nat_eq n k ≡ false
  other_by n k [] above i o at = absurd (none_some (n, o) at)
  other_by n k (e ∷ es) above zero o at =
      ne_eqb n k (λ is. let here : e.0 ≡ n = ap (λ q. q.0) (some_value e (n, o) at) in omega (arith, is, here, above.0))
  other_by n k (e ∷ es) above (suc i) o at = other_by n k es above.1 i o at

  -- The slots with a gap where an element was.
  pub items_gap : (es : List (ℕ × Option T)) (i n : ℕ) (x : T) → AreRising es → slice_get es i ≡ Some (n, Some x)
      → items_of (set_value_at es i None) ≡ remove_entry (nat_eq n) (items_of es)
  items_gap [] i n x rising at = absurd (none_some (n, Some x) at)
  items_gap ((k, o) ∷ es) zero n x rising at =
      subst (λ e. items_of es ≡ remove_entry (nat_eq n) (items_of (e ∷ es))) (sym (some_value (k, o) (n, Some x) at))
      (sym (ap (λ b. cond b (items_of es) ((n, x) ∷ remove_entry (nat_eq n) (items_of es))) (number_itself n)))
  items_gap ((k, None) ∷ es) (suc i) n x rising at = items_gap es i n x rising.1 at
  items_gap ((k, Some y) ∷ es) (suc i) n x rising at =
      ap (λ ps. (k, y) ∷ ps) (items_gap es i n x rising.1 at)
      ∙ sym (ap (λ b. cond b (items_of es) ((k, y) ∷ remove_entry (nat_eq n) (items_of es))) (other_by n k es rising.0 i (Some x) at))

  pub gaps_gap : (es : List (ℕ × Option T)) (i n : ℕ) (x : T) → slice_get es i ≡ Some (n, Some x) → gaps_in (set_value_at es i None) ≡ gaps_in es + 1
  gaps_gap [] i n x at = absurd (none_some (n, Some x) at)
  gaps_gap ((k, o) ∷ es) zero n x at =
      subst (λ e. gaps_in es + 1 ≡ gaps_in (e ∷ es) + 1) (sym (some_value (k, o) (n, Some x) at)) refl
  gaps_gap ((k, None) ∷ es) (suc i) n x at = ap (λ c. c + 1) (gaps_gap es i n x at)
  gaps_gap ((k, Some y) ∷ es) (suc i) n x at = gaps_gap es i n x at

  pub gaps_few : (es : List (ℕ × Option T)) → gaps_in es ≤ length es
  gaps_few [] = omega arith
  gaps_few ((k, None) ∷ es) = let h = gaps_few es in omega (arith, h)
  gaps_few ((k, Some x) ∷ es) = let h = gaps_few es in omega (arith, h)

  all_set : (P : ℕ → Type 0) (es : List (ℕ × Option T)) (i : ℕ) (o : Option T) → AllByRecursion (λ q. P q.0) es → AllByRecursion (λ q. P q.0) (set_value_at es i o)
  all_set P [] i o h = h
  all_set P (e ∷ es) zero o h = h
  all_set P (e ∷ es) (suc i) o h = (h.0, all_set P es i o h.1)

  pub below_set : (n : ℕ) (es : List (ℕ × Option T)) (i : ℕ) (o : Option T) → AreBelow n es → AreBelow n (set_value_at es i o)
  below_set n es i o h = all_set (λ k. k < n) es i o h

  pub rising_set : (es : List (ℕ × Option T)) (i : ℕ) (o : Option T) → AreRising es → AreRising (set_value_at es i o)
  rising_set [] i o h = h
  rising_set (e ∷ es) zero o h = h
  rising_set (e ∷ es) (suc i) o h = (all_set (λ k. e.0 < k) es i o h.0, rising_set es i o h.1)

  key_there : (es : List (ℕ × Option T)) (i k : ℕ) (o : Option T) → slice_get es i ≡ Some (k, o) → slice_get (keys_of es) i ≡ Some k
  key_there [] i k o h = absurd (none_some (k, o) h)
  key_there (e ∷ es) zero k o h = ap (λ q. Some q.0) (some_value e (k, o) h)
  key_there (e ∷ es) (suc i) k o h = key_there es i k o h

  value_there : (es : List (ℕ × Option T)) (i k : ℕ) (o : Option T) → slice_get es i ≡ Some (k, o) → slice_get (values_of es) i ≡ Some o
  value_there [] i k o h = absurd (none_some (k, o) h)
  value_there (e ∷ es) zero k o h = ap (λ q. Some q.1) (some_value e (k, o) h)
  value_there (e ∷ es) (suc i) k o h = value_there es i k o h

  gap_stays : (es : List (ℕ × Option T)) (i k : ℕ) → slice_get es i ≡ Some (k, None) → set_value_at es i None ≡ es
  gap_stays [] i k h = refl
  gap_stays (e ∷ es) zero k h = ap (λ o. (e.0, o) ∷ es) (sym (ap (λ q. q.1) (some_value e (k, None) h)))
  gap_stays (e ∷ es) (suc i) k h = ap (λ zs. e ∷ zs) (gap_stays es i k h)

  pub none_left_out : (n : ℕ) (ps : List (ℕ × T)) → lookup (nat_eq n) ps ≡ None → filter (λ p. not (nat_eq n p.0)) ps ≡ ps
  none_left_out n [] h = refl
  none_left_out n (p ∷ ps) h = by (nat_eq n p.0) h (none_left_out n ps)
    where
      by : (b : Bool) → cond b (Some p.1) (lookup (nat_eq n) ps) ≡ None → (lookup (nat_eq n) ps ≡ None → filter (λ q. not (nat_eq n q.0)) ps ≡ ps)
          → cond (not b) (p ∷ filter (λ q. not (nat_eq n q.0)) ps) (filter (λ q. not (nat_eq n q.0)) ps) ≡ p ∷ ps
      by true h rest = absurd (none_some p.1 (sym h))
      by false h rest = ap (λ zs. p ∷ zs) (rest h)

  taken_by : (n k : ℕ) (x : T) (es : List (ℕ × Option T)) (b : Bool) → nat_eq n k ≡ b → AllByRecursion (λ q. k < q.0) es
      → remove_entry (nat_eq n) (items_of es) ≡ filter (λ p. not (nat_eq n p.0)) (items_of es)
      → cond b (items_of es) ((k, x) ∷ remove_entry (nat_eq n) (items_of es))
      ≡ cond (not b) ((k, x) ∷ filter (λ p. not (nat_eq n p.0)) (items_of es)) (filter (λ p. not (nat_eq n p.0)) (items_of es))
  taken_by n k x es true is above rest =
      sym (none_left_out n (items_of es) (none_above n es (subst (λ m. AllByRecursion (λ q. m < q.0) es) (sym (same n k is)) above)))
  taken_by n k x es false is above rest = ap (λ ps. (k, x) ∷ ps) rest

  -- One is taken out: the first of a number is the only one.
  taken_is_left : (n : ℕ) (es : List (ℕ × Option T)) → AreRising es → remove_entry (nat_eq n) (items_of es) ≡ filter (λ p. not (nat_eq n p.0)) (items_of es)
  taken_is_left n [] h = refl
  taken_is_left n ((k, None) ∷ es) h = taken_is_left n es h.1
  taken_is_left n ((k, Some x) ∷ es) h = taken_by n k x es (nat_eq n k) refl h.0 (taken_is_left n es h.1)

  -- What a gap in the slot of this number leaves.
  pub record IsLeft (es : List (ℕ × Option T)) (i n : ℕ) (o : Option T) : Type 0 where
    pub found : o ≡ lookup (nat_eq n) (items_of es)
    pub items : items_of (set_value_at es i None) ≡ filter (λ p. not (nat_eq n p.0)) (items_of es)
    pub one_more : is_some o ≡ true → gaps_in (set_value_at es i None) ≡ gaps_in es + 1
    pub no_more : is_some o ≡ false → gaps_in (set_value_at es i None) ≡ gaps_in es

  left_by : (es : List (ℕ × Option T)) (i n : ℕ) (o : Option T) → AreRising es → slice_get es i ≡ Some (n, o) → lookup (nat_eq n) es ≡ Some o → IsLeft es i n o
  left_by es i n (Some x) rising there at =
      record {
        found = sym (found_full n es (Some x) rising at);
        items = items_gap es i n x rising there ∙ taken_is_left n es rising;
        one_more = λ is. gaps_gap es i n x there;
        no_more = λ is. absurd (true≢false is);
      }
  left_by es i n None rising there at =
      let none : lookup (nat_eq n) (items_of es) ≡ None = found_full n es None rising at in
      record {
        found = sym none;
        items = ap items_of (gap_stays es i n there) ∙ sym (none_left_out n (items_of es) none);
        one_more = λ is. absurd (true≢false (sym is));
        no_more = λ is. ap gaps_in (gap_stays es i n there);
      }

  -- A slot that was read, and one that was written.
  pub stands_at : (es : List (ℕ × Option T)) (i : ℕ) (s : ℕ × Option T) → i < length es → s ≡ slice_index_or es i s → slice_get es i ≡ Some (s.0, s.1)
  stands_at es i s lt is = slice_get_read es (length es) i s refl lt is

  pub written : (es : List (ℕ × Option T)) (i : ℕ) (s : ℕ × Option T) (v : Option T) → i < length es → s ≡ slice_index_or es i s → slice_set es i (s.0, v) ≡ set_value_at es i v
  written [] i s v lt is = absurd (omega (arith, lt))
  written (e ∷ es) zero s v lt is = ap (λ (q : ℕ × Option T). (q.0, v) ∷ es) is
  written (e ∷ es) (suc i) s v lt is = ap (λ zs. e ∷ zs) (written es i s v (omega (arith, lt)) is)

  -- The place of a number in a list that was lent.
  pub place_in : (n : ℕ) (lent es : List (ℕ × Option T)) (r : Option ℕ) → r ≡ position (nat_eq n) (keys_of lent) → lent ≡ es → position (nat_eq n) (keys_of es) ≡ r
  place_in n lent es r is same = sym (is ∙ ap (λ zs. position (nat_eq n) (keys_of zs)) same)

  pub place_within : (n : ℕ) (es : List (ℕ × Option T)) (i : ℕ) → position (nat_eq n) (keys_of es) ≡ Some i → i < length es
  place_within n es i at = (Found-position (nat_eq n) es i at).within

  -- Where a number stands.
  pub number_at : (n : ℕ) (es : List (ℕ × Option T)) (i : ℕ) → position (nat_eq n) (keys_of es) ≡ Some i → (o : Option T) × (slice_get es i ≡ Some (n, o))
  number_at n es i at =
      let f = Found-position (nat_eq n) es i at in
      let it = there_is es i f.within in
      let is : n ≡ it.0.0 = same n it.0.0 (lookup_key_passes (nat_eq n) es it.0.0 (f.key ∙ key_there es i it.0.0 it.0.1 it.1)) in
      (it.0.1, it.1 ∙ ap (λ m. Some (m, it.0.1)) (sym is))

  -- What stands at the place of a number.
  pub found_at : (n : ℕ) (es : List (ℕ × Option T)) (i k : ℕ) (o : Option T) → AreRising es → position (nat_eq n) (keys_of es) ≡ Some i → slice_get es i ≡ Some (k, o) → lookup (nat_eq n) (items_of es) ≡ o
  found_at n es i k o rising at there = found_full n es o rising ((Found-position (nat_eq n) es i at).value ∙ value_there es i k o there)

  -- Where it has no place, it finds nothing.
  pub found_nowhere : (n : ℕ) (es : List (ℕ × Option T)) → AreRising es → position (nat_eq n) (keys_of es) ≡ None → lookup (nat_eq n) (items_of es) ≡ None
  found_nowhere n es rising none = not_there n es rising (sym (some_index (nat_eq n) es) ∙ ap is_some none)

  pub above_here : (k n : ℕ) (es : List (ℕ × Option T)) → AllByRecursion (λ q. k < q.0) es → (i : ℕ) (o : Option T) → slice_get es i ≡ Some (n, o) → k < n
  above_here k n [] above i o at = absurd (none_some (n, o) at)
  above_here k n (e ∷ es) above zero o at = subst (λ m. k < m) (ap (λ q. q.0) (some_value e (n, o) at)) above.0
  above_here k n (e ∷ es) above (suc i) o at = above_here k n es above.1 i o at

  pub gap_left : (es : List (ℕ × Option T)) (i n k : ℕ) (o : Option T) → AreRising es → position (nat_eq n) (keys_of es) ≡ Some i → slice_get es i ≡ Some (k, o) → IsLeft es i n o
  gap_left es i n k o rising at there =
      let f = Found-position (nat_eq n) es i at in
      let is : n ≡ k = same n k (lookup_key_passes (nat_eq n) es k (f.key ∙ key_there es i k o there)) in
      left_by es i n o rising (subst (λ m. slice_get es i ≡ Some (m, o)) (sym is) there) (f.value ∙ value_there es i k o there)

from_next : {V : Type 0} (k : ℕ) (es : List (ℕ × V)) → AllByRecursion (λ q. k < q.0) es → AllByRecursion (λ q. k + 1 ≤ q.0) es
from_next k [] h = tt
from_next k (e ∷ es) h = (omega (arith, h.0), from_next k es h.1)

few_from : {V : Type 0} (m n : ℕ) (es : List (ℕ × V)) → AllByRecursion (λ q. m ≤ q.0) es → AreRising es → AreBelow n es → m ≤ n → length es + m ≤ n
few_from m n [] from rising below le = omega (arith, le)
few_from m n (e ∷ es) from rising below le =
    let more : length es + (e.0 + 1) ≤ n = few_from (e.0 + 1) n es (from_next e.0 es rising.0) rising.1 below.1 (omega (arith, below.0)) in omega (arith, more, from.0)

from_zero : {V : Type 0} (es : List (ℕ × V)) → AllByRecursion (λ q. 0 ≤ q.0) es
from_zero [] = tt
from_zero (e ∷ es) = (omega arith, from_zero es)

-- There are no more slots than numbers.
pub few_below : {V : Type 0} (n : ℕ) (es : List (ℕ × V)) → AreRising es → AreBelow n es → length es ≤ n
few_below n es rising below = let h = few_from 0 n es (from_zero es) rising below (omega arith) in omega (arith, h)

module _ {T : Type 0} where
  -- As many stand as there are slots without gaps.
  pub as_many : (es : List (ℕ × Option T)) → length (items_of es) + gaps_in es ≡ length es
  as_many [] = refl
  as_many ((k, None) ∷ es) = let h = as_many es in omega (arith, h)
  as_many ((k, Some x) ∷ es) = let h = as_many es in omega (arith, h)

  -- Without gaps a place among the slots is one among what stands.
  pub at_place : (es : List (ℕ × Option T)) (i : ℕ) → gaps_in es ≡ 0 → slice_get (items_of es) i ≡ option_and_then standing (slice_get es i)
  at_place [] i none = refl
  at_place ((k, None) ∷ es) i none = absurd (omega (arith, none))
  at_place ((k, Some x) ∷ es) zero none = refl
  at_place ((k, Some x) ∷ es) (suc i) none = at_place es i none

  -- ---- another element

  pub full_filled : (item : T) (o : Option T) → is_some o ≡ true → Some item ≡ option_map (λ x. item) o
  full_filled item None h = absurd (true≢false (sym h))
  full_filled item (Some x) h = refl

  pub gap_filled : (item : T) (o : Option T) → is_some o ≡ false → o ≡ option_map (λ x. item) o
  gap_filled item None h = refl
  gap_filled item (Some x) h = absurd (true≢false h)

  abbrev pub replaced : ℕ → T → List (ℕ × T) → List (ℕ × T)
  replaced n item ps = altered n (λ x. item) ps

  not_altered : (n : ℕ) (f : T → T) (es : List (ℕ × Option T)) → AllByRecursion (λ q. n < q.0) es → altered n f (items_of es) ≡ items_of es
  not_altered n f [] h = refl
  not_altered n f ((k, None) ∷ es) h = not_altered n f es h.1
  not_altered n f ((k, Some x) ∷ es) h = ap (λ b. cond b (k, f x) (k, x) ∷ altered n f (items_of es)) (apart n k h.0) ∙ ap (λ ps. (k, x) ∷ ps) (not_altered n f es h.1)

  set_by : (es : List (ℕ × Option T)) (i n : ℕ) (o : Option T) (f : T → T) → AreRising es → slice_get es i ≡ Some (n, o) → items_of (set_value_at es i (option_map f o)) ≡ altered n f (items_of es)
  set_by [] i n o f rising at = absurd (none_some (n, o) at)
  set_by ((k, q) ∷ es) zero n o f rising at =
      subst (λ e. items_of ((e.0, option_map f o) ∷ es) ≡ altered n f (items_of (e ∷ es))) (sym (some_value (k, q) (n, o) at)) (first o) where
        above : AllByRecursion (λ r. n < r.0) es
        above = subst (λ m. AllByRecursion (λ r. m < r.0) es) (ap (λ e. e.0) (some_value (k, q) (n, o) at)) rising.0

        first : (o : Option T) → items_of ((n, option_map f o) ∷ es) ≡ altered n f (items_of ((n, o) ∷ es))
        first None = sym (not_altered n f es above)
        first (Some x) = sym (ap (λ b. cond b (n, f x) (n, x) ∷ altered n f (items_of es)) (number_itself n) ∙ ap (λ ps. (n, f x) ∷ ps) (not_altered n f es above))
  set_by ((k, None) ∷ es) (suc i) n o f rising at = set_by es i n o f rising.1 at
  set_by ((k, Some y) ∷ es) (suc i) n o f rising at =
      ap (λ ps. (k, y) ∷ ps) (set_by es i n o f rising.1 at) ∙ sym (ap (λ b. cond b (k, f y) (k, y) ∷ altered n f (items_of es)) (other_by n k es rising.0 i o at))

  gaps_set : (es : List (ℕ × Option T)) (i n : ℕ) (o : Option T) (f : T → T) → slice_get es i ≡ Some (n, o) → gaps_in (set_value_at es i (option_map f o)) ≡ gaps_in es
  gaps_set [] i n o f at = refl
  gaps_set ((k, q) ∷ es) zero n o f at = same q o (ap (λ e. e.1) (some_value (k, q) (n, o) at)) where
    same : (q o : Option T) → q ≡ o → gaps_in ((k, option_map f o) ∷ es) ≡ gaps_in ((k, q) ∷ es)
    same q None is = ap (λ r. gaps_in ((k, r) ∷ es)) (sym is)
    same q (Some x) is = ap (λ r. gaps_in ((k, r) ∷ es)) (sym is)
  gaps_set ((k, None) ∷ es) (suc i) n o f at = ap (λ c. c + 1) (gaps_set es i n o f at)
  gaps_set ((k, Some y) ∷ es) (suc i) n o f at = gaps_set es i n o f at

  -- What a change of the element in the slot of this number makes of them.
  pub record IsSet (es : List (ℕ × Option T)) (i n : ℕ) (o : Option T) (f : T → T) : Type 0 where
    pub items : items_of (set_value_at es i (option_map f o)) ≡ altered n f (items_of es)
    pub gaps : gaps_in (set_value_at es i (option_map f o)) ≡ gaps_in es

  pub set_at : (es : List (ℕ × Option T)) (i n k : ℕ) (o : Option T) (f : T → T) → AreRising es → position (nat_eq n) (keys_of es) ≡ Some i → slice_get es i ≡ Some (k, o) → IsSet es i n o f
  set_at es i n k o f rising at there =
      let is : n ≡ k = same n k (lookup_key_passes (nat_eq n) es k ((Found-position (nat_eq n) es i at).key ∙ key_there es i k o there)) in
      let here = subst (λ m. slice_get es i ≡ Some (m, o)) (sym is) there in
      record { items = set_by es i n o f rising here; gaps = gaps_set es i n o f here }

  pub not_set : (n : ℕ) (f : T → T) (ps : List (ℕ × T)) → lookup (nat_eq n) ps ≡ None → altered n f ps ≡ ps
  not_set n f [] h = refl
  not_set n f (p ∷ ps) h = by (nat_eq n p.0) h (not_set n f ps)
    where
      by : (b : Bool) → cond b (Some p.1) (lookup (nat_eq n) ps) ≡ None → (lookup (nat_eq n) ps ≡ None → altered n f ps ≡ ps) → cond b (p.0, f p.1) p ∷ altered n f ps ≡ p ∷ ps
      by true h rest = absurd (none_some p.1 (sym h))
      by false h rest = ap (λ zs. p ∷ zs) (rest h)

-- As few stand as there are numbers.
pub few_items : {T : Type 0} (n : ℕ) (es : List (ℕ × Option T)) → AreRising es → AreBelow n es → length (items_of es) ≤ n
few_items n es rising below = let few = few_below n es rising below in let many = as_many es in omega (arith, few, many)
