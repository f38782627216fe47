-- The values that a session submitted, after one more call of it: each is on the area of a lease, and the last of each area is kept.
use Rattle.sl_area.specs.AreaSizes.{Layout}
use Rattle.sl_host_law.proofs.Calls.MemberCalls.SpotsMore.{any_stays, on_its_area, spot_itself, spots_more, valued_spot}
use Rattle.sl_host_law.specs.Calls.MemberCalls.{fits_value}
use Rattle.sl_host_law.proofs.SharedFacts.PlainLists.{all_as, any_mapped, each_of}
use Rattle.sl_host_law.proofs.SharedFacts.PlainOrders.{put_inside}
use Rattle.sl_host_state.specs.KeptState.{LeaseState, MemberState}
use Rattle.sl_host_state.specs.MadeEffects.{is_lease_on, lease_calling, leases_calling, leases_working, new_lease, value_calling}
use Rattle.sl_host_state.specs.HostStands.{newest_value, pair_of}
use Rattle.sl_trace.specs.Counts.{values_on}
use Rattle.sl_trace.specs.Leases.{is_lease_call, is_on, is_spot_before, spot_of_call, spots_in, value_written}
use Rattle.sl_words.proofs.Lists.{any_found, any_of, contains_first, contains_more, in_map, kept_inside}
use Rattle.sl_sector.specs.declared.sector.ValueRec.{ValueRec}
use Rattle.sl_trace.specs.Traces.{Submitted, new_call, same_spot}
use Rattle.sl_trace.specs.declared.effects.Call.{Call}
use Rattle.sl_trace.specs.declared.effects.Spot.{Spot}
use Rattle.sl_run_law.proofs.Leases.SpotLaws.{areas_are_apart}
use Rattle.sl_words.proofs.CaseLaws.{false_is_true, true_is_false}
use Rattle.sl_words.proofs.WordLaws.{and_true}
use Rattle.sl_words.specs.Orders.{put_in}
use Rattle.std.proofs.Common.{ap, inl, inr, refl, subst, sym, ◌∙◌}
use Rattle.std.specs.List.{AllByRecursion, cons_option, list_any}
use Rattle.std.specs.Option.{option_map_or, option_or}
use Rattle.std.specs.Prelude.{Bool, Contains, IsTrue, List, None, Option, Some, cond, false, filter, filter_map, is_none, map, not, option_map, true, [], ℕ, ◌&&◌, ◌||◌, ◌∷◌, ◌≡◌, ◌⊎◌}

-- The call sets no value, or sets one on the area of a lease.
abbrev pub on_lease : Layout → List LeaseState → Submitted → Bool
on_lease g ls d = is_none (value_written d) || list_any (λ l. is_on g l.spot d.call) ls

by_spots : (g : Layout) (ls : List LeaseState) (d : Submitted) → list_any (λ s. is_on g s d.call) (map (λ l. l.spot) ls) ≡ list_any (λ l. is_on g l.spot d.call) ls
by_spots g ls d = any_mapped (λ s. is_on g s d.call) (λ (l : LeaseState). l.spot) ls

module _ (g : Layout) (at reading : ℕ) (call : Call) where
  abbrev c : Submitted
  c = new_call at reading call

  -- ---- each value is on a lease

  still_on : (ms : List Submitted) (ls : List LeaseState) (d : Submitted) → spots_in g ms ≡ map (λ l. l.spot) ls → IsTrue (on_lease g ls d) → IsTrue (on_lease g (leases_calling g c ls) d)
  still_on ms ls d spots on = by (is_none (value_written d)) on where
    by : (b : Bool) → (b || list_any (λ l. is_on g l.spot d.call) ls) ≡ true → (b || list_any (λ l. is_on g l.spot d.call) (leases_calling g c ls)) ≡ true
    by true is = refl
    by false is =
        sym (by_spots g (leases_calling g c ls) d) ∙ ap (list_any (λ s. is_on g s d.call)) (sym (spots_more g c ms ls spots))
        ∙ any_stays g c (λ s. is_on g s d.call) ms (ap (list_any (λ s. is_on g s d.call)) spots ∙ (by_spots g ls d ∙ is))

  new_on : (s : MemberState) → IsTrue (fits_value g s c) → IsTrue (on_lease g s.leases c)
  new_on s fits = by (value_written c) fits where
    by : (o : Option ValueRec) → option_map_or (λ v. not (is_lease_call c) && list_any (λ l. is_on g l.spot call) s.leases) o true ≡ true
        → (is_none o || list_any (λ l. is_on g l.spot call) s.leases) ≡ true
    by None is = refl
    by (Some v) is = (and_true (not (is_lease_call c)) (list_any (λ l. is_on g l.spot call) s.leases) is).1

  pub valued_more : (ms : List Submitted) (s : MemberState) → spots_in g ms ≡ map (λ l. l.spot) s.leases → IsTrue (fits_value g s c)
      → AllByRecursion (λ d. IsTrue (on_lease g s.leases d)) ms → AllByRecursion (λ d. IsTrue (on_lease g (leases_calling g c s.leases) d)) (c ∷ ms)
  valued_more ms s spots fits all = (
    still_on ms s.leases c spots (new_on s fits),
    all_as (λ d. IsTrue (on_lease g s.leases d)) (λ d. IsTrue (on_lease g (leases_calling g c s.leases) d)) ms (λ d on. still_on ms s.leases d spots on) all,
  )

  -- ---- the last of each area

  abbrev values_at : Spot → List Submitted → List ValueRec
  values_at sp ms = values_on g sp ms

  -- A call that sets none.
  none_more : (ms : List Submitted) (sp : Spot) → value_written c ≡ None → values_at sp (c ∷ ms) ≡ values_at sp ms
  none_more ms sp none = by (is_on g sp call) where
    by : (b : Bool) → filter_map value_written (cond b (c ∷ filter (λ m. is_on g sp m.call) ms) (filter (λ m. is_on g sp m.call) ms)) ≡ values_at sp ms
    by true = ap (λ o. cons_option o (values_at sp ms)) none
    by false = refl

  -- A lease call sets none.
  works_plainly : (s : MemberState) → IsTrue (fits_value g s c) → is_lease_call c ≡ true → value_written c ≡ None
  works_plainly s fits works = by (value_written c) refl fits where
    by : (o : Option ValueRec) → value_written c ≡ o → option_map_or (λ v. not (is_lease_call c) && list_any (λ l. is_on g l.spot call) s.leases) o true ≡ true → value_written c ≡ None
    by None is holds = is
    by (Some v) is holds =
        absurd (false_is_true (sym (ap not works) ∙ (and_true (not (is_lease_call c)) (list_any (λ l. is_on g l.spot call) s.leases) holds).0))

  nothing_set : {A B : Type 0} (h : A → Option B) (xs : List A) → ((x : A) → Contains xs x → h x ≡ None) → filter_map h xs ≡ []
  nothing_set h [] none = refl
  nothing_set h (x ∷ xs) none =
      ap (λ o. cons_option o (filter_map h xs)) (none x (contains_first x xs)) ∙ nothing_set h xs (λ y there. none y (contains_more x xs y there))

  -- Where no lease is, no value was set.
  none_set : (ms : List Submitted) (ls : List LeaseState) → spots_in g ms ≡ map (λ l. l.spot) ls → AllByRecursion (λ d. IsTrue (on_lease g ls d)) ms → list_any (is_lease_on (spot_of_call g c)) ls ≡ false
      → values_at (spot_of_call g c) ms ≡ []
  none_set ms ls spots all none =
      nothing_set value_written (filter (λ m. is_on g (spot_of_call g c) m.call) ms) (λ d there. by d (kept_inside (λ m. is_on g (spot_of_call g c) m.call) ms d there)) where
        clash : (d : Submitted) → is_on g (spot_of_call g c) d.call ≡ true → list_any (λ l. is_on g l.spot d.call) ls ≡ true → ⊥
        clash d on has =
            let f = any_found (λ s. is_on g s d.call) (map (λ (l : LeaseState). l.spot) ls) (by_spots g ls d ∙ has) in
            let here : spot_of_call g d ≡ spot_of_call g c = areas_are_apart g c d on in
            let there : spot_of_call g d ≡ f.0 = on_its_area g ms d f.0 (subst (λ ss. Contains ss f.0) (sym spots) f.1) f.2 in
            true_is_false (sym (any_of (same_spot (spot_of_call g c)) (map (λ (l : LeaseState). l.spot) ls) f.0
            (ap (same_spot (spot_of_call g c)) (sym there ∙ here) ∙ spot_itself (spot_of_call g c)) f.1)
            ∙ (any_mapped (same_spot (spot_of_call g c)) (λ (l : LeaseState). l.spot) ls ∙ none))

        by : (d : Submitted) → Contains ms d × (is_on g (spot_of_call g c) d.call ≡ true) → value_written d ≡ None
        by d in_it = sets (value_written d) refl (each_of (λ m. IsTrue (on_lease g ls m)) ms d all in_it.0) where
          sets : (o : Option ValueRec) → value_written d ≡ o → (is_none o || list_any (λ l. is_on g l.spot d.call) ls) ≡ true → value_written d ≡ None
          sets None is holds = is
          sets (Some v) is holds = absurd (clash d in_it.1 holds)

  abbrev EachKept : List Submitted → List LeaseState → Type 0
  EachKept ms ls = (l : LeaseState) → Contains ls l → newest_value (values_at l.spot ms) ≡ l.value

  working : (ms : List Submitted) (s : MemberState) → spots_in g ms ≡ map (λ l. l.spot) s.leases → value_written c ≡ None → AllByRecursion (λ d. IsTrue (on_lease g s.leases d)) ms → EachKept ms s.leases
      → EachKept (c ∷ ms) (leases_working (spot_of_call g c) c s.leases)
  working ms s spots plain all each l there = by (list_any (is_lease_on (spot_of_call g c)) s.leases) refl there where
    old : (z : LeaseState) → Contains s.leases z → newest_value (values_at z.spot (c ∷ ms)) ≡ z.value
    old z in_it = ap newest_value (none_more ms z.spot plain) ∙ each z in_it

    one : (z : LeaseState) → Contains s.leases z → (b : Bool) → newest_value (values_at (cond b (lease_calling c z) z).spot (c ∷ ms)) ≡ (cond b (lease_calling c z) z).value
    one z in_it true = old z in_it
    one z in_it false = old z in_it

    from : (z : LeaseState) × Contains s.leases z × (cond (is_lease_on (spot_of_call g c) z) (lease_calling c z) z ≡ l) → newest_value (values_at l.spot (c ∷ ms)) ≡ l.value
    from z = subst (λ (y : LeaseState). newest_value (values_at y.spot (c ∷ ms)) ≡ y.value) z.2 (one z.0 z.1 (is_lease_on (spot_of_call g c) z.0))

    put : list_any (is_lease_on (spot_of_call g c)) s.leases ≡ false → (lease_calling c (new_lease (spot_of_call g c)) ≡ l) ⊎ Contains s.leases l → newest_value (values_at l.spot (c ∷ ms)) ≡ l.value
    put none (inl new) =
        subst (λ (y : LeaseState). newest_value (values_at y.spot (c ∷ ms)) ≡ y.value) new
        (ap newest_value (none_more ms (spot_of_call g c) plain ∙ none_set ms s.leases spots all none))
    put none (inr in_it) = old l in_it

    by : (b : Bool) → list_any (is_lease_on (spot_of_call g c)) s.leases ≡ b
        → Contains
        (cond b (map (λ k. cond (is_lease_on (spot_of_call g c) k) (lease_calling c k) k) s.leases)
        (put_in (λ k m. is_spot_before k.spot m.spot) (lease_calling c (new_lease (spot_of_call g c))) s.leases)) l
        → newest_value (values_at l.spot (c ∷ ms)) ≡ l.value
    by true is in_it = from (in_map (λ k. cond (is_lease_on (spot_of_call g c) k) (lease_calling c k) k) s.leases l in_it)
    by false is in_it = put is (put_inside (λ (k m : LeaseState). is_spot_before k.spot m.spot) (lease_calling c (new_lease (spot_of_call g c))) s.leases l in_it)

  -- Any other call.
  set_more : (ms : List Submitted) (l : LeaseState) → newest_value (values_at l.spot ms) ≡ l.value → newest_value (values_at (value_calling g c l).spot (c ∷ ms)) ≡ (value_calling g c l).value
  set_more ms l is = ap (λ sp. newest_value (values_at sp (c ∷ ms))) (valued_spot g c l) ∙ by (is_on g l.spot call) where
    written : (o : Option ValueRec) → newest_value (cons_option o (values_at l.spot ms)) ≡ option_or (option_map pair_of o) l.value
    written None = is
    written (Some v) = refl

    by : (b : Bool) → newest_value (filter_map value_written (cond b (c ∷ filter (λ m. is_on g l.spot m.call) ms) (filter (λ m. is_on g l.spot m.call) ms)))
        ≡ (cond b (record l { value = option_or (option_map pair_of (value_written c)) l.value }) l).value
    by true = written (value_written c)
    by false = is

  pub values_more : (ms : List Submitted) (s : MemberState) → spots_in g ms ≡ map (λ l. l.spot) s.leases → IsTrue (fits_value g s c) → AllByRecursion (λ d. IsTrue (on_lease g s.leases d)) ms
      → EachKept ms s.leases → EachKept (c ∷ ms) (leases_calling g c s.leases)
  values_more ms s spots fits all each l there = by (is_lease_call c) refl there where
    from : (z : LeaseState) × Contains s.leases z × (value_calling g c z ≡ l) → newest_value (values_at l.spot (c ∷ ms)) ≡ l.value
    from z = subst (λ (y : LeaseState). newest_value (values_at y.spot (c ∷ ms)) ≡ y.value) z.2 (set_more ms z.0 (each z.0 z.1))

    by : (b : Bool) → is_lease_call c ≡ b → Contains (cond b (leases_working (spot_of_call g c) c s.leases) (map (value_calling g c) s.leases)) l → newest_value (values_at l.spot (c ∷ ms)) ≡ l.value
    by true works in_it = working ms s spots (works_plainly s fits works) all each l in_it
    by false works in_it = from (in_map (value_calling g c) s.leases l in_it)
