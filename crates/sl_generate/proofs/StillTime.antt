-- In a timely world a time of 0 may pass.
use Rattle.sl_world_state.specs.SaneWorlds.{IsSane}
use Rattle.sl_run.specs.Premises.{clock_after, drifts, growth_of, is_late_landing, pass_tests}
use Rattle.sl_run.specs.Refusals.{event_tests}
use Rattle.sl_run.specs.Worlds.{Course, Machine, Stamp, World, first_that, machine_at, may_land, resets_after}
use Rattle.sl_run.specs.declared.event.Refusal.TheVariants.{LimitMoment, PremiseDrift, PremiseLanding, PremiseWatchdog, Syntax}
use Rattle.sl_run_law.proofs.Front.RunsFromFronts.{number_place}
use Rattle.sl_run_law.proofs.MachineWalk.{index}
use Rattle.sl_time.specs.Times.{reading_of}
use Rattle.sl_generate.specs.TimelyWorlds.{IsTimely, TimeMayStandStill}
use Rattle.sl_words.proofs.CaseLaws.{true_is_false}
use Rattle.sl_words.specs.Bounds.{moments}
use Rattle.std.proofs.Common.{arith, refl, tests}
use Rattle.std.specs.List.{list_any, range_with_len}
use Rattle.std.specs.Prelude.{Bool, Contains, List, None, Option, Some, [], false, is_none, nat_le, nat_lt, not, slice_get, suc, true, ℕ, ◌&&◌, ◌*◌, ◌+◌, ◌-◌, ◌<◌, ◌||◌, ◌∷◌, ◌≡◌, ◌≤◌}
use Rattle.sl_words.proofs.Lists.{contains_first, contains_more}

-- ---- tests of lists

-- None of a list passes where no element does.
none_any : {A : Type 0} (p : A → Bool) (xs : List A) → ((x : A) → Contains xs x → p x ≡ false) → list_any p xs ≡ false
none_any p [] each = refl
none_any p (x ∷ xs) each = or_none (p x) (list_any p xs) (each x (contains_first x xs)) (none_any p xs (λ y there. each y (contains_more x xs y there)))
  where
    or_none : (a b : Bool) → a ≡ false → b ≡ false → (a || b) ≡ false
    or_none true b h k = absurd (true_is_false h)
    or_none false b h k = k

-- The same, by places.
none_placed : (p : Machine → Bool) (ms : List Machine) → ((i : ℕ) (a : Machine) → slice_get ms i ≡ Some a → p a ≡ false) → list_any p ms ≡ false
none_placed p [] each = refl
none_placed p (x ∷ ms) each = or_none (p x) (list_any p ms) (each 0 x refl) (none_placed p ms (λ i a at. each (suc i) a at))
  where
    or_none : (a b : Bool) → a ≡ false → b ≡ false → (a || b) ≡ false
    or_none true b h k = absurd (true_is_false h)
    or_none false b h k = k

none_that : (a b c d e : Bool) → a ≡ false → b ≡ false → c ≡ false → d ≡ false → e ≡ false
    → is_none (first_that ((a, Syntax) ∷ (b, LimitMoment) ∷ (c, PremiseDrift) ∷ (d, PremiseWatchdog) ∷ (e, PremiseLanding) ∷ [])) ≡ true
none_that a b c d e p q r s u = rw (p, q, r, s, u) refl

or_none : (a b : Bool) → a ≡ false → b ≡ false → (a || b) ≡ false
or_none true b h k = absurd (true_is_false h)
or_none false b h k = k

not_below : (a b : ℕ) → b < a → nat_le a b ≡ false
not_below a b h = grind (arith, tests)

not_above : (a b : ℕ) → b ≤ a → nat_lt a b ≡ false
not_above a b h = grind (arith, tests)

-- ---- the tests of a time of 0

no_growth : (rho m : ℕ) → not (drifts rho 0 (growth_of 0 None m)) ≡ false
no_growth rho m = go ((1000 - rho) * 0) ((1000 + rho) * 0) (omega arith) (omega arith)
  where
    go : (a b : ℕ) → a ≡ 0 → b ≡ 0 → not (nat_le a 0 && nat_le 0 b) ≡ false
    go a b p q = rw (p, q) refl

-- Each reading stays below the bound.
clock_below : (commands : _) (w : World) → IsSane commands w → (m : ℕ) (o : Option Machine) → machine_at w m ≡ o
    → nat_le moments (reading_of (elim o as (λ z. ℕ) [ None ↦ 0 | Some a ↦ a.clock + growth_of 0 None m ])) ≡ false
clock_below commands w sane m None at = refl
clock_below commands w sane m (Some a) at =
    let below = (sane.sane (m - 1) a (index w m a at).1).in_time.0 in
    not_below moments (reading_of (a.clock + 0)) (same a.clock below)
  where
    same : (c : ℕ) → reading_of c < moments → reading_of (c + 0) < moments
    same c h = omega (arith, h)

pub time_may_stand_still : TimeMayStandStill
unfolding event_tests pass_tests
time_may_stand_still commands w sane timely =
    none_that false _ _ _ _ refl
    (or_none _ _ (not_below moments (w.moment + 0) (no_more w.moment sane.below))
    (none_any (λ m. nat_le moments (reading_of (clock_after w 0 None m))) (range_with_len 1 w.header.machines) (λ m there. clock_below commands w sane m (machine_at w m) refl)))
    (none_any (λ m. not (drifts w.header.timing.rho 0 (growth_of 0 None m))) (range_with_len 1 w.header.machines) (λ m there. no_growth w.header.timing.rho m))
    (none_placed (λ (a : Machine). a.up && nat_lt (a.kept.moment + w.header.timing.fire) (w.moment + 0)) w.machines (λ i a at. kept_soon a (timely (suc i) a (number_place w i a at))))
    (none_placed (λ (a : Machine). list_any (is_late_landing w.header.timing.land (w.moment + 0) a) a.calls) w.machines
    (λ i a at. none_any (is_late_landing w.header.timing.land (w.moment + 0) a) a.calls (λ c there. lands_soon a c there (timely (suc i) a (number_place w i a at)))))
  where
    no_more : (n : ℕ) → n < moments → n + 0 < moments
    no_more n h = omega (arith, h)

    kept_soon : (a : Machine) → IsTimely w.header.timing w.moment w.step a → (a.up && nat_lt (a.kept.moment + w.header.timing.fire) (w.moment + 0)) ≡ false
    kept_soon a t = go a.up t.fires
      where
        go : (up : Bool) → (up ≡ true → w.moment ≤ a.kept.moment + w.header.timing.fire) → (up && nat_lt (a.kept.moment + w.header.timing.fire) (w.moment + 0)) ≡ false
        go false fires = refl
        go true fires = let h = fires refl in not_above (a.kept.moment + w.header.timing.fire) (w.moment + 0) (omega (arith, h))

    lands_soon : (a : Machine) (c : Course) → Contains a.calls c → IsTimely w.header.timing w.moment w.step a
        → is_late_landing w.header.timing.land (w.moment + 0) a c ≡ false
    lands_soon a c there t = go (may_land c) (t.lands c there)
      where
        go : (may : Bool) → (may ≡ true → (r : Stamp) → Contains (resets_after a c.made.step) r → w.moment ≤ r.moment + w.header.timing.land)
            → elim may as (λ x. Bool) [ false ↦ false | true ↦ list_any (λ (r : Stamp). nat_lt (r.moment + w.header.timing.land) (w.moment + 0)) (resets_after a c.made.step) ] ≡ false
        go false lands = refl
        go true lands =
            none_any (λ (r : Stamp). nat_lt (r.moment + w.header.timing.land) (w.moment + 0)) (resets_after a c.made.step)
            (λ r after. let h = lands refl r after in not_above (r.moment + w.header.timing.land) (w.moment + 0) (omega (arith, h)))
