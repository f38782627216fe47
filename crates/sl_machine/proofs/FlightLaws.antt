-- Calls in flight, found by their numbers.
use Rattle.sl_world_state.specs.KeptWorld.{FlightState}
use Rattle.sl_machine.specs.Flights.{StandsAt, falls, flight_numbered}
use Rattle.sl_words.proofs.Numbers.{trans_lt}
use Rattle.sl_words.proofs.CaseLaws.{none_some, some_value}
use Rattle.sl_words.proofs.WordLaws.{and_true}
use Rattle.std.proofs.Common.{ap, arith, get_or, refl, subst, sym, ◌∙◌}
use Rattle.std.proofs.lemmas.Bool.Decides.{nat_tests}
use Rattle.std.proofs.lemmas.Option.{get_or_from_slice_get, slice_get_read}
use Rattle.std.specs.Prelude.{Bool, List, None, Some, false, length, nat_lt, slice_get, suc, true, zero, [], ℕ, ◌+◌, ◌-◌, ◌/◌, ◌<◌, ◌==◌, ◌∷◌, ◌≡◌, ◌≤◌}

-- ---- order

-- The numbers fall, as a fact.
abbrev pub Falls : ℕ → List FlightState → Type 0
Falls bound [] = Unit {0}
Falls bound (f ∷ fs) = (f.number < bound) × Falls f.number fs

pub fallen : (bound : ℕ) (fs : List FlightState) → falls bound fs ≡ true → Falls bound fs
fallen bound [] is = tt
fallen bound (f ∷ fs) is =
    let both = and_true (nat_lt f.number bound) (falls f.number fs) is in
    let lt = both.0 in
    (grind (arith, nat_tests, lt), fallen f.number fs both.1)

pub falling : (bound : ℕ) (fs : List FlightState) → Falls bound fs → falls bound fs ≡ true
falling bound [] is = refl
falling bound (f ∷ fs) is = let lt = is.0 in rw (below f.number bound lt) (falling f.number fs is.1)
  where
    below : (a b : ℕ) → a < b → nat_lt a b ≡ true
    below a b h = grind (arith, nat_tests, h)

-- Each number is below the bound.
pub falls_at : (bound i : ℕ) (fs : List FlightState) (f : FlightState) → Falls bound fs → slice_get fs i ≡ Some f → f.number < bound
falls_at bound i [] f fall at = absurd (none_some f at)
falls_at bound zero (x ∷ xs) f fall at = subst (λ y. y.number < bound) (some_value x f at) fall.0
falls_at bound (suc i) (x ∷ xs) f fall at = trans_lt f.number x.number bound (falls_at x.number i xs f fall.1 at) fall.0

-- .. and below each before it.
pub falls_apart : (bound i j : ℕ) (fs : List FlightState) (f g : FlightState) → Falls bound fs → i < j → slice_get fs i ≡ Some f → slice_get fs j ≡ Some g → g.number < f.number
falls_apart bound i j [] f g fall lt at there = absurd (none_some f at)
falls_apart bound zero zero (x ∷ xs) f g fall lt at there = absurd (omega (arith, lt))
falls_apart bound zero (suc j) (x ∷ xs) f g fall lt at there = subst (λ y. g.number < y.number) (some_value x f at) (falls_at x.number j xs g fall.1 there)
falls_apart bound (suc i) zero (x ∷ xs) f g fall lt at there = absurd (omega (arith, lt))
falls_apart bound (suc i) (suc j) (x ∷ xs) f g fall lt at there = falls_apart x.number i j xs f g fall.1 (omega (arith, lt)) at there

-- ---- bisection

-- What is known of a number once it is looked for between two places.
pub record Narrowed (fs : List FlightState) (number low high : ℕ) : Type 0 where
  pub ordered : low ≤ high
  pub within : high ≤ length fs
  pub before : (k : ℕ) (f : FlightState) → k < low → slice_get fs k ≡ Some f → number < f.number
  pub behind : (k : ℕ) (f : FlightState) → high ≤ k → slice_get fs k ≡ Some f → f.number < number

pub narrow_up : (bound number low high m : ℕ) (fs : List FlightState) (f : FlightState) → Narrowed fs number low high → Falls bound fs → low ≤ m → m < high → slice_get fs m ≡ Some f
    → number < f.number → Narrowed fs number (m + 1) high
narrow_up bound number low high m fs f is fall above below at lt =
    record {
      ordered = omega (arith, below);
      within = is.within;
      before = λ k g k_lt there. by k (m == k) refl g there k_lt;
      behind = is.behind;
    }
  where
    by : (k : ℕ) (b : Bool) → (m == k) ≡ b → (g : FlightState) → slice_get fs k ≡ Some g → k < m + 1 → number < g.number
    by k true same g there k_lt =
        let e : m ≡ k = grind (arith, nat_tests, same) in
        subst (λ (y : FlightState). number < y.number) (some_value f g (sym at ∙ ap (slice_get fs) e ∙ there)) lt
    by k false other g there k_lt =
        let less : k < m = grind (arith, nat_tests, other, k_lt) in trans_lt number f.number g.number lt (falls_apart bound k m fs g f fall less there at)

pub narrow_down : (bound number low high m : ℕ) (fs : List FlightState) (f : FlightState) → Narrowed fs number low high → Falls bound fs → low ≤ m → m < high → slice_get fs m ≡ Some f
    → f.number < number → Narrowed fs number low m
narrow_down bound number low high m fs f is fall above below at lt =
    record {
      ordered = above;
      within = let w = is.within in omega (arith, below, w);
      before = is.before;
      behind = λ k g k_le there. by k (m == k) refl g there k_le;
    }
  where
    by : (k : ℕ) (b : Bool) → (m == k) ≡ b → (g : FlightState) → slice_get fs k ≡ Some g → m ≤ k → g.number < number
    by k true same g there k_le =
        let e : m ≡ k = grind (arith, nat_tests, same) in
        subst (λ (y : FlightState). y.number < number) (some_value f g (sym at ∙ ap (slice_get fs) e ∙ there)) lt
    by k false other g there k_le =
        let more : m < k = grind (arith, nat_tests, other, k_le) in trans_lt g.number f.number number (falls_apart bound m k fs f g fall more at there) lt

abbrev pub middle : ℕ → ℕ → ℕ
middle low high = low + (high - low) / 2

-- The same of a call that was read at the middle.
pub up_from : (bound number low high found : ℕ) (xs fs : List FlightState) (f : FlightState) → xs ≡ fs → falls bound xs ≡ true → Narrowed fs number low high → low < high
    → f ≡ get_or xs (middle low high) f → found ≡ f.number → number < found → Narrowed fs number (middle low high + 1) high
up_from bound number low high found xs fs f same fall is lt read at less =
    let w = is.within in
    let there : slice_get fs (middle low high) ≡ Some f =
    slice_get_read fs (length fs) (middle low high) f refl (omega (arith, lt, w)) (read ∙ ap (λ (ys : List FlightState). get_or ys (middle low high) f) same) in
    narrow_up bound number low high (middle low high) fs f is (subst (Falls bound) same (fallen bound xs fall)) (omega arith) (omega (arith, lt)) there (omega (arith, at, less))

pub down_to : (bound number low high found : ℕ) (xs fs : List FlightState) (f : FlightState) → xs ≡ fs → falls bound xs ≡ true → Narrowed fs number low high → low < high
    → f ≡ get_or xs (middle low high) f → found ≡ f.number → found ≤ number → (found ≡ number → ⊥) → Narrowed fs number low (middle low high)
down_to bound number low high found xs fs f same fall is lt read at most other =
    let w = is.within in
    let there : slice_get fs (middle low high) ≡ Some f =
    slice_get_read fs (length fs) (middle low high) f refl (omega (arith, lt, w)) (read ∙ ap (λ (ys : List FlightState). get_or ys (middle low high) f) same) in
    let less : found < number = grind (arith, nat_tests, most, other) in
    narrow_down bound number low high (middle low high) fs f is (subst (Falls bound) same (fallen bound xs fall)) (omega arith) (omega (arith, lt)) there (omega (arith, at, less))

none_by : (fs : List FlightState) (number : ℕ) → ((k : ℕ) (f : FlightState) → slice_get fs k ≡ Some f → (f.number == number) ≡ false) → flight_numbered fs number ≡ None
none_by [] number other = refl
none_by (f ∷ fs) number other = rw (other 0 f refl) (none_by fs number (λ k g there. other (suc k) g there))

pub narrow_none : (number low high : ℕ) (fs : List FlightState) → Narrowed fs number low high → high ≤ low → flight_numbered fs number ≡ None
narrow_none number low high fs is met = none_by fs number (λ k f there. by k (nat_lt k low) refl f there)
  where
    by : (k : ℕ) (b : Bool) → nat_lt k low ≡ b → (f : FlightState) → slice_get fs k ≡ Some f → (f.number == number) ≡ false
    by k true less f there =
        let lt : number < f.number = is.before k f (grind (arith, nat_tests, less)) there in grind (arith, nat_tests, lt)
    by k false more f there =
        let lt : f.number < number = is.behind k f (grind (arith, nat_tests, more, met)) there in grind (arith, nat_tests, lt)

-- ---- the call of a number

-- It is found where it stands.
found_at : (bound i number : ℕ) (fs : List FlightState) (f : FlightState) → Falls bound fs → slice_get fs i ≡ Some f → f.number ≡ number → flight_numbered fs number ≡ Some f
found_at bound i number [] f fall at is = absurd (none_some f at)
found_at bound zero number (x ∷ xs) f fall at is =
    let here : (x.number == number) ≡ true = (let e : x.number ≡ number = ap (λ (y : FlightState). y.number) (some_value x f at) ∙ is in grind (arith, nat_tests, e)) in
    rw here at
found_at bound (suc i) number (x ∷ xs) f fall at is =
    let less : f.number < x.number = falls_at x.number i xs f fall.1 at in
    let other : (x.number == number) ≡ false = grind (arith, nat_tests, less, is) in
    rw other (found_at x.number i number xs f fall.1 at is)

pub found_there : (bound i number : ℕ) (fs : List FlightState) (x : FlightState) → falls bound fs ≡ true → StandsAt fs number i → x ≡ get_or fs i x → flight_numbered fs number ≡ Some x
found_there bound i number fs x fall at read =
    found_at bound i number fs at.flight (fallen bound fs fall) at.there at.named ∙ ap Some (sym (get_or_from_slice_get fs i at.flight x at.there) ∙ sym read)

pub found_of : (bound i number : ℕ) (fs : List FlightState) → falls bound fs ≡ true → StandsAt fs number i → (f : FlightState) → slice_get fs i ≡ Some f → flight_numbered fs number ≡ Some f
found_of bound i number fs fall at f there = found_at bound i number fs at.flight (fallen bound fs fall) at.there at.named ∙ sym at.there ∙ there
