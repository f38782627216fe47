-- Time that passes, and the bounds on it.
use Rattle.sl_world_state.specs.KeptWorld.{FlightState, KeptState}
use Rattle.sl_world_state.specs.Refusals.{drifts_off, is_overdue, lands, starves, pass_tests_in, reads_past}
use Rattle.sl_run.specs.Worlds.{first_that}
use Rattle.sl_run.specs.declared.event.Refusal.TheVariants.{LimitMoment, PremiseDrift, PremiseLanding, PremiseWatchdog}
use Rattle.sl_run.specs.declared.event.Refusal.{Refusal}
use Rattle.sl_words.proofs.CaseLaws.{none_some, true_is_false}
use Rattle.sl_machine.specs.Flights.{late_cut, late_of}
use Rattle.sl_time.specs.Times.{reading_of}
use Rattle.sl_words.specs.Words.{least, some_is}
use Rattle.sl_words.specs.Bounds.{moments}
use Rattle.std.proofs.Common.{ap, ap₂, arith, refl, sym, ◌∙◌}
use Rattle.std.proofs.lemmas.Bool.Decides.{nat_tests}
use Rattle.std.proofs.lemmas.Option.{unwrap_or-slice_get}
use Rattle.std.specs.Prelude.{Bool, List, None, Option, Some, false, filter_map, map, min, nat_le, nat_lt, slice_get, slice_index, true, unwrap_or, [], ℕ, ◌&&◌, ◌+◌, ◌<◌, ◌^◌, ◌∷◌, ◌≡◌, ◌||◌}
use Rattle.std.specs.List.{cons_option, enumerate_from, list_any}

pub none_index : (xs : List ℕ) (i : ℕ) → slice_get xs i ≡ None → slice_index xs i ≡ 0
none_index xs i none = sym (unwrap_or-slice_get xs i 0) ∙ ap (λ o. unwrap_or o 0) none

pub clock_fits : (c g : ℕ) → nat_le moments (reading_of (c + g)) ≡ false → c + g < 2 ^ 64
clock_fits c g below = grind (arith, nat_tests, below)

-- ---- landings

least_two : (m n x y : ℕ) → (nat_lt (x + m) n || nat_lt (y + m) n) ≡ nat_lt (min x y + m) n
least_two m n x y = grind (arith, nat_tests)

least_more : (m n x : ℕ) (o : Option ℕ) → (nat_lt (x + m) n || some_is (λ y. nat_lt (y + m) n) o)
    ≡ some_is (λ y. nat_lt (y + m) n) (elim o as (λ z. Option ℕ) [ None ↦ Some x | Some y ↦ Some (min x y) ])
least_more m n x None = grind (arith, nat_tests)
least_more m n x (Some y) = least_two m n x y

-- Some number is below the bound where the least one is.
any_least : (m n : ℕ) (xs : List ℕ) → list_any (λ x. nat_lt (x + m) n) xs ≡ some_is (λ x. nat_lt (x + m) n) (least xs)
any_least m n [] = refl
any_least m n (x ∷ xs) = ap (λ b. nat_lt (x + m) n || b) (any_least m n xs) ∙ least_more m n x (least xs)

filter_one : {B : Type 0} (q : B → Bool) (o : Option B) (ys : List B) → (some_is q o || list_any q ys) ≡ list_any q (cons_option o ys)
filter_one q None ys = refl
filter_one q (Some y) ys = refl

any_filtered : {A B : Type 0} (f : A → Option B) (p : A → Bool) (q : B → Bool) (xs : List A) → ((x : A) → p x ≡ some_is q (f x))
    → list_any p xs ≡ list_any q (filter_map f xs)
any_filtered f p q [] same = refl
any_filtered f p q (x ∷ xs) same = ap₂ (λ a b. a || b) (same x) (any_filtered f p q xs same) ∙ filter_one q (f x) (filter_map f xs)

overdue_by : (q : ℕ → Bool) (b : Bool) (r : Option ℕ) → (b && some_is q r) ≡ some_is q (elim b as (λ x. Option ℕ) [ false ↦ None | true ↦ r ])
overdue_by q true r = refl
overdue_by q false r = refl

-- Some write is overdue where the first of before a reset is.
pub overdue_late : (land moment : ℕ) (fs : List FlightState) → list_any (is_overdue land moment) fs ≡ some_is (λ r. nat_lt (r + land) moment) (late_of fs)
overdue_late land moment fs =
    any_filtered late_cut (is_overdue land moment) (λ r. nat_lt (r + land) moment) fs (λ f. overdue_by (λ r. nat_lt (r + land) moment) (lands f) f.cut)
    ∙ any_least land moment (filter_map late_cut fs)

-- ---- numbered lists

-- Numbers from one on, of what is kept of each.
pub any_numbered : {A B : Type 0} (f : A → B) (p : ℕ × B → Bool) (k : ℕ) (xs : List A)
    → list_any p (enumerate_from (k + 1) (map f xs)) ≡ list_any (λ q. p (q.0 + 1, f q.1)) (enumerate_from k xs)
any_numbered f p k [] = refl
any_numbered f p k (x ∷ xs) = ap (λ b. p (k + 1, f x) || b) (any_numbered f p (k + 1) xs)

pub any_mapped : {A B : Type 0} (f : A → B) (p : B → Bool) (xs : List A) → list_any p (map f xs) ≡ list_any (λ a. p (f a)) xs
any_mapped f p [] = refl
any_mapped f p (x ∷ xs) = ap (λ b. p (f x) || b) (any_mapped f p xs)

pub map_numbered : {A B : Type 0} (f : A → B) (g : ℕ × B → B) (h : ℕ × A → A) (k : ℕ) (xs : List A) → ((i : ℕ) (x : A) → f (h (i, x)) ≡ g (i + 1, f x))
    → map f (map h (enumerate_from k xs)) ≡ map g (enumerate_from (k + 1) (map f xs))
map_numbered f g h k [] same = refl
map_numbered f g h k (x ∷ xs) same = ap₂ (λ y ys. y ∷ ys) (same k x) (map_numbered f g h (k + 1) xs same)

-- ---- reasons

abbrev reasons : Bool → Bool → Bool → Bool → Option Refusal
reasons a b c d = first_that ((a, LimitMoment) ∷ (b, PremiseDrift) ∷ (c, PremiseWatchdog) ∷ (d, PremiseLanding) ∷ [])

pub same_reasons : (a b c d e f g h : Bool) → a ≡ e → b ≡ f → c ≡ g → d ≡ h → reasons a b c d ≡ reasons e f g h
same_reasons a b c d e f g h p q r s = ap (λ x. reasons x b c d) p ∙ ap (λ x. reasons e x c d) q ∙ ap (λ x. reasons e f x d) r ∙ ap (reasons e f g) s

first_is_false : (a b c d : Bool) → reasons a b c d ≡ None → a ≡ false
first_is_false true b c d h = absurd (none_some LimitMoment (sym h))
first_is_false false b c d h = refl

neither : (a b : Bool) → (a || b) ≡ false → (a ≡ false) × (b ≡ false)
neither false b h = (refl, h)
neither true b h = absurd (true_is_false h)

-- Time that may pass reaches no bound.
pub may_pass : (k : KeptState) (d : ℕ) (gs : Option (List ℕ)) → first_that (pass_tests_in k d gs) ≡ None
    → (k.moment + d < moments) × (list_any (reads_past d gs) (enumerate_from 1 k.machines) ≡ false)
unfolding pass_tests_in
may_pass k d gs none =
    let b = neither (nat_le moments (k.moment + d)) (list_any (reads_past d gs) (enumerate_from 1 k.machines))
    (first_is_false (nat_le moments (k.moment + d) || list_any (reads_past d gs) (enumerate_from 1 k.machines)) (list_any (drifts_off k.header.timing.rho d gs) (enumerate_from 1 k.machines))
    (list_any (starves k.header.timing.fire (k.moment + d)) k.machines) (list_any (λ s. list_any (is_overdue k.header.timing.land (k.moment + d)) s.flights) k.machines) none) in
    (below moments (k.moment + d) b.0, b.1)
  where
    below : (m n : ℕ) → nat_le m n ≡ false → n < m
    below m n h = grind (arith, nat_tests, h)
