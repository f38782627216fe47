-- Clocks grow within the drift.
use Rattle.sl_run.specs.EventChanges.{after_step, first_change, happens, next_input, next_step, passed, take_step, take_steps}
use Rattle.sl_run.specs.Premises.{drifts, growth_of, pass_tests}
use Rattle.sl_run.specs.Refusals.{event_tests, may_happen}
use Rattle.sl_run.specs.Inputs.{machine_of}
use Rattle.sl_run.specs.Runs.{Happening, IsRun, world_after}
use Rattle.sl_run.specs.Worlds.{Machine, Stamp, World, machine_at, stamp_now}
use Rattle.sl_run.specs.declared.event.Event.TheVariants.{Pass}
use Rattle.sl_run.specs.declared.event.Event.{Event}
use Rattle.sl_run.specs.declared.header.Header.{Header}
use Rattle.sl_run_law.proofs.WorldsGoOn.{event_goes}
use Rattle.sl_run_law.proofs.Guards.{passes}
use Rattle.sl_run_law.proofs.MachineWalk.{Asked, each_first, each_further, each_step, each_still, each_then, number_within}
use Rattle.sl_run_law.specs.ClocksDrift.{Drifts, IsCounted}
use Rattle.sl_run_law.specs.WorldsGoOn.{time_of, time_of_run}
use Rattle.sl_run_law.specs.Machines.{EachMachine}
use Rattle.sl_trace.specs.declared.effects.Effects.{Effects}
use Rattle.sl_trace.specs.declared.input.Input.TheVariants.{Answer as Told, Exit, Line, Number, Spawned, Wake}
use Rattle.sl_trace.specs.declared.input.Input.{Input}
use Rattle.sl_words.proofs.WordLaws.{and_true}
use Rattle.std.proofs.Common.{ap, arith, refl, subst, sym, ◌∙◌}
use Rattle.std.proofs.lemmas.Bool.{leb-true, not-false, or_parts}
use Rattle.std.specs.List.{list_any, range_with_len}
use Rattle.std.specs.Prelude.{Bool, List, Option, Some, false, nat_le, not, suc, true, zero, [], ℕ, ◌*◌, ◌++◌, ◌+◌, ◌-◌, ◌<◌, ◌∷◌, ◌≡◌, ◌≤◌}

-- ---- arithmetic

mul_sum : (p d e : ℕ) → p * (d + e) ≡ p * d + p * e
mul_sum p d e = omega arith

least_sum : (x y z p d e : ℕ) → x + p * d ≤ y → y + p * e ≤ z → x + p * (d + e) ≤ z
least_sum x y z p d e g h = omega (arith, g, h, mul_sum p d e)

most_sum : (x y z p d e : ℕ) → y ≤ x + p * d → z ≤ y + p * e → z ≤ x + p * (d + e)
most_sum x y z p d e g h = omega (arith, g, h, mul_sum p d e)

drifts_further : (rho d e : ℕ) (a b c : Machine) → Drifts rho d a b → Drifts rho e b c → Drifts rho (d + e) a c
drifts_further rho d e a b c g h =
    record {
      least = least_sum a.clock b.clock c.clock (1000 - rho) d e g.least h.least;
      most = most_sum a.clock b.clock c.clock (1000 + rho) d e g.most h.most;
    }

no_time : (x p : ℕ) → x + p * 0 ≤ x
no_time x p = omega arith

no_less : (x p : ℕ) → x ≤ x + p * 0
no_less x p = omega arith

drifts_none : (rho : ℕ) (a b : Machine) → b.clock ≡ a.clock → Drifts rho 0 a b
drifts_none rho a b h =
    record { least = subst (λ n. a.clock + (1000 - rho) * 0 ≤ n) (sym h) (no_time a.clock (1000 - rho)); most = subst (λ n. n ≤ a.clock + (1000 + rho) * 0) (sym h) (no_less a.clock (1000 + rho)) }

at_none : (rho d : ℕ) (a b : Machine) → d ≡ 0 → b.clock ≡ a.clock → Drifts rho d a b
at_none rho d a b none h = subst (λ n. Drifts rho n a b) (sym none) (drifts_none rho a b h)

-- ---- the guard

none_in_range : (p : ℕ → Bool) (k n i : ℕ) → list_any p (range_with_len k n) ≡ false → i < n → p (k + i) ≡ false
none_in_range p k zero i h below = absurd (omega (arith, below))
none_in_range p k (suc n) zero h below =
    let same : k ≡ k + 0 = omega arith in
    subst (λ j. p j ≡ false) same (or_parts (p k) (list_any p (range_with_len (k + 1) n)) h).0
none_in_range p k (suc n) (suc i) h below =
    let same : (k + 1) + i ≡ k + suc i = omega arith in
    subst (λ j. p j ≡ false) same (none_in_range p (k + 1) n i (or_parts (p k) (list_any p (range_with_len (k + 1) n)) h).1 (omega (arith, below)))

grows_within : (w : World) (d : ℕ) (growths : Option (List ℕ)) → may_happen w (Pass d growths) ≡ true → (i : ℕ) → i < w.header.machines
    → drifts w.header.timing.rho d (growth_of d growths (1 + i)) ≡ true
unfolding event_tests pass_tests
grows_within w d growths may i below =
    not-false (drifts w.header.timing.rho d (growth_of d growths (1 + i)))
    (none_in_range (λ m. not (drifts w.header.timing.rho d (growth_of d growths m))) 1 w.header.machines i (passes w (Pass d growths) may).1.0 below)

low_sum : (x y g p : ℕ) → y ≡ x + g → p ≤ g → x + p ≤ y
low_sum x y g p h k = omega (arith, h, k)

high_sum : (x y g p : ℕ) → y ≡ x + g → g ≤ p → y ≤ x + p
high_sum x y g p h k = omega (arith, h, k)

drifts_by : (rho d g : ℕ) (a b : Machine) → b.clock ≡ a.clock + g → drifts rho d g ≡ true → Drifts rho d a b
drifts_by rho d g a b is h =
    let p = and_true (nat_le ((1000 - rho) * d) g) (nat_le g ((1000 + rho) * d)) h in
    let low : (1000 - rho) * d ≤ g = leb-true ((1000 - rho) * d) g p.0 in
    let high : g ≤ (1000 + rho) * d = leb-true g ((1000 + rho) * d) p.1 in
    record { least = low_sum a.clock b.clock g ((1000 - rho) * d) is low; most = high_sum a.clock b.clock g ((1000 + rho) * d) is high }

passes_so : (w : World) (d : ℕ) (growths : Option (List ℕ)) → IsCounted w → may_happen w (Pass d growths) ≡ true → (m : ℕ) (a : Machine) → machine_at w m ≡ Some a
    → Drifts w.header.timing.rho d a (passed d growths m a)
passes_so w d growths counted may m a h =
    let i = number_within w m a h in
    drifts_by w.header.timing.rho d (growth_of d growths m) a (passed d growths m a) refl
    (subst (λ j. drifts w.header.timing.rho d (growth_of d growths j) ≡ true) i.1
    (grows_within w d growths may (m - 1) (subst (λ n. m - 1 < n) counted i.0)))

-- ---- all events

asked : (w : World) (e : Event) → IsCounted w → may_happen w e ≡ true → Asked (λ m. Drifts w.header.timing.rho (time_of e)) w e
asked w e counted may =
    let rho : ℕ = w.header.timing.rho in
    record {
      pass = λ d growths is m a h.
          subst (λ x. Drifts rho (time_of x) a (passed d growths m a)) (sym is) (passes_so w d growths counted (subst (λ x. may_happen w x ≡ true) is may) m a h);
      sample = λ m c k is a h. at_none rho (time_of e) a _ (ap time_of is) refl;
      land = λ m c is a f h g t. at_none rho (time_of e) a _ (ap time_of is) refl;
      tear = λ m c k bytes is a f h g t. at_none rho (time_of e) a _ (ap time_of is) refl;
      done_read = λ m c is a f h g t. at_none rho (time_of e) a _ (ap time_of is) refl;
      done_write = λ m c is a f h g t. at_none rho (time_of e) a _ (ap time_of is) refl;
      drop_write = λ m c is a h. at_none rho (time_of e) a _ (ap time_of is) refl;
      tested = λ m is a h. at_none rho (time_of e) a _ (ap time_of is) refl;
      start = λ m name is a h. at_none rho (time_of e) a _ (ap time_of is) refl;
      crash = λ m is a h. at_none rho (time_of e) a _ (ap time_of is) refl;
      reset = λ m is a h. at_none rho (time_of e) a _ (ap time_of is) refl;
      restart = λ m is a h. at_none rho (time_of e) a _ (ap time_of is) refl;
    }

-- A clock that stays.
abbrev SameClock : ℕ → Machine → Machine → Type 0
SameClock m a b = b.clock ≡ a.clock

same_still : (m : ℕ) (a : Machine) → SameClock m a a
same_still m a = refl

same_further : (m : ℕ) (a b c : Machine) → SameClock m a b → SameClock m b c → SameClock m a c
same_further m a b c g h = h ∙ g

step_clock : (now : Stamp) (i : Input) (fx : Effects) (a : Machine) → (after_step now i fx a).clock ≡ a.clock
step_clock now (Line text) fx a = refl
step_clock now (Number text) fx a = refl
step_clock now (Told n answer) fx a = refl
step_clock now Wake fx a = refl
step_clock now (Exit p) fx a = refl
step_clock now (Spawned p ok) fx a = refl

steps_keep : (w : World) (e : Event) (before fxs : List Effects) (v : World) → EachMachine SameClock v (take_steps w e before fxs v)
steps_keep w e before [] v = each_still SameClock v same_still
steps_keep w e before (fx ∷ fxs) v =
    let u : World = take_step (machine_of e) (next_input w e before) fx v in
    each_further SameClock v u (take_steps w e before (fx ∷ fxs) v) same_further
    (each_step SameClock (machine_of e) (next_input w e before) fx v same_still (λ none a h. refl) (λ i is a h. step_clock (stamp_now v a) i fx a))
    (steps_keep w e (before ++ fx ∷ []) fxs u)

then_same : (rho d : ℕ) (m : ℕ) (a b c : Machine) → Drifts rho d a b → SameClock m b c → Drifts rho d a c
then_same rho d m a b c g h =
    record {
      least = subst (λ n. a.clock + (1000 - rho) * d ≤ n) (sym h) g.least;
      most = subst (λ n. n ≤ a.clock + (1000 + rho) * d) (sym h) g.most;
    }

pub event_drifts : (w : World) (e : Event) (fxs : List Effects) → IsCounted w → may_happen w e ≡ true
    → EachMachine (λ m. Drifts w.header.timing.rho (time_of e)) w (happens w e fxs)
event_drifts w e fxs counted may =
    let rho : ℕ = w.header.timing.rho in
    let u : World = first_change e w in
    each_then (λ m. Drifts rho (time_of e)) SameClock (λ m. Drifts rho (time_of e)) w (next_step u) (happens w e fxs) (then_same rho (time_of e))
    (each_first (λ m. Drifts rho (time_of e)) e w (λ none m a. at_none rho (time_of e) a a none refl) (asked w e counted may))
    (steps_keep w e [] fxs (next_step u))

pub run_drifts : (w : World) (xs : List Happening) → IsCounted w → IsRun w xs → EachMachine (λ m. Drifts w.header.timing.rho (time_of_run xs)) w (world_after w xs)
run_drifts w [] counted run = each_still (λ m. Drifts w.header.timing.rho 0) w (λ m a. drifts_none w.header.timing.rho a a refl)
run_drifts w (x ∷ xs) counted run =
    let rho : ℕ = w.header.timing.rho in
    let v : World = happens w x.0 x.1 in
    let g = event_goes w x.0 x.1 in
    let still_counted : IsCounted v = g.machines ∙ counted ∙ sym (ap (λ (h : Header). h.machines) g.header) in
    each_then (λ m. Drifts rho (time_of x.0)) (λ m. Drifts rho (time_of_run xs)) (λ m. Drifts rho (time_of_run (x ∷ xs))) w v (world_after w (x ∷ xs))
    (λ m a b c. drifts_further rho (time_of x.0) (time_of_run xs) a b c) (event_drifts w x.0 x.1 counted run.0)
    (subst (λ (h : Header). EachMachine (λ m. Drifts h.timing.rho (time_of_run xs)) v (world_after v xs)) g.header (run_drifts v xs still_counted run.2))
