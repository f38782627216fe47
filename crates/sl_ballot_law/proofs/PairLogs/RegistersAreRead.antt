-- What is read of the two sectors is a register's content.
use Rattle.sl_ballot_law.proofs.PairLogs.NewestWrites.{one_sector}
use Rattle.sl_ballot_law.proofs.PairLogs.RunSteps.{logs_are_runs}
use Rattle.sl_ballot_law.proofs.PairLogs.LogsStand.{logs_stand}
use Rattle.sl_ballot_law.specs.PairLogs.Logs.{At_first, IsLog, Left, Log, SectorAt, stored_at_first}
use Rattle.sl_ballot_law.specs.PairLogs.States.{between_of, state_of}
use Rattle.sl_ballot_law.specs.PairLogs.Theorems.{IsRegisterOf, PairsHaveBlocks, Read_once, Read_twice, ReadsAreRegisters}
use Rattle.sl_ballot_law.proofs.Pairs.MomentLaws.{of_two}
use Rattle.sl_ballot_law.proofs.Pairs.ReadLaws.{once, stood_newest, twice}
use Rattle.sl_ballot_law.proofs.Pairs.StepLaws.{has_blocks}
use Rattle.sl_ballot_law.specs.Pairs.Reads.{Stood, given_once, given_twice, merged}
use Rattle.sl_ballot_law.specs.Pairs.State.{State, Stored, later}
use Rattle.sl_ballot_law.specs.Pairs.Steps.{IsRun}
use Rattle.sl_ballot_law.specs.Pairs.Theorems.{HasBlock}
use Rattle.sl_words.proofs.CaseLaws.{none_some, one_value, some_value}
use Rattle.std.proofs.Common.{ap, arith, inl, inr, refl, subst, sym, ◌∙◌}
use Rattle.std.specs.Prelude.{Bool, None, Option, Some, false, if◌then◌else◌, nat_lt, true, ℕ, ◌+◌, ◌<◌, ◌≡◌, ◌≤◌, ◌⊎◌}

-- ---- blocks of a sector

-- It was submitted by the step, or stood at first.
record WasSent (g : Log) (t : ℕ) (x : Stored) : Type 0 where
  is : (x.write ≡ 0) ⊎ (g.writes x.write ≡ true)
  low : x.write ≤ t

left_block : (g : Log) (e : ℕ) (x : Stored) (b : Bool) → g.whole e ≡ b → (if b then Some (let y : Stored = record { turn = g.turn e; write = e } in y) else None) ≡ Some x → x.write ≡ e
left_block g e x false whole h = absurd (none_some x h)
left_block g e x true whole h = sym (ap (λ (y : Stored). y.write) (some_value (let y : Stored = record { turn = g.turn e; write = e } in y) x h))

sent_in : (g : Log) → IsLog g → (first : Bool) (t : ℕ) (o : Option Stored) (x : Stored) → SectorAt g first t o → o ≡ Some x → WasSent g t x
sent_in g i first t o x (At_first none is) h =
    let none : x.write ≡ 0 = sym (ap (λ (y : Stored). y.write) (some_value (stored_at_first first) x (sym is ∙ h))) in
    record { is = inl none; low = omega (arith, none) }
sent_in g i first t o x (Left e s write landed low newest is) h =
    let same : x.write ≡ e = left_block g e x (g.whole e) refl (sym is ∙ h) in
    record {
      is = inr (ap g.writes same ∙ write.is);
      low = let l : e < s = i.lands_later e s write.is landed in omega (arith, same, l, low);
    }

later_is : (p q : Option Stored) (x : Stored) → later p q ≡ Some x → (p ≡ Some x) ⊎ (q ≡ Some x)
later_is None q x h = inr h
later_is (Some y) None x h = inl h
later_is (Some y) (Some z) x h = by (nat_lt z.turn y.turn) h
  where
    by : (b : Bool) → (if b then Some y else Some z) ≡ Some x → (Some y ≡ Some x) ⊎ (Some z ≡ Some x)
    by true e = inl e
    by false e = inr e

up_to : (g : Log) (a t : ℕ) (x : Stored) → a ≤ t → WasSent g a x → WasSent g t x
up_to g a t x low k = record { is = k.is; low = let l = k.low in omega (arith, l, low) }

sent_later : (g : Log) → IsLog g → (a b : ℕ) (p q : Option Stored) (x : Stored) → a ≤ b → SectorAt g true a p → SectorAt g false b q → later p q ≡ Some x → WasSent g b x
sent_later g i a b p q x order front back h = by (later_is p q x h)
  where
    by : (p ≡ Some x) ⊎ (q ≡ Some x) → WasSent g b x
    by (inl e) = up_to g a b x order (sent_in g i true a p x front e)
    by (inr e) = sent_in g i false b q x back e

merged_is : (o p q r : Option Stored) (x : Stored) → merged o p q r ≡ Some x → (later o p ≡ Some x) ⊎ (later q r ≡ Some x)
merged_is o None q r x h = inr h
merged_is o (Some y) q r x h = later_is (later o (Some y)) (later q r) x h

-- ---- states, with moments doubled

record Fine (g : Log) : Type 0 where
  run : ℕ → State
  is : IsRun run
  same : (t : ℕ) → run (t + t) ≡ state_of g t

fine : (g : Log) → Fine g
fine g = let f = of_two (state_of g) (between_of g) (logs_are_runs g) in record { run = f.0; is = f.1; same = f.2 }

front_is : (g : Log) → IsLog g → (f : Fine g) (t : ℕ) (o : Option Stored) → SectorAt g true t o → (f.run (t + t)).front ≡ o
front_is g i f t o at = ap (λ (w : State). w.front) (f.same t) ∙ one_sector g i true t (state_of g t).front o (logs_stand g i t).front at

back_is : (g : Log) → IsLog g → (f : Fine g) (t : ℕ) (o : Option Stored) → SectorAt g false t o → (f.run (t + t)).back ≡ o
back_is g i f t o at = ap (λ (w : State). w.back) (f.same t) ∙ one_sector g i false t (state_of g t).back o (logs_stand g i t).back at

double : (a b : ℕ) → a ≤ b → a + a ≤ b + b
double a b h = omega (arith, h)

-- What was the pair's block between two steps is as new as what had been answered ok by the first.
stood_new : (g : Log) → IsLog g → (f : Fine g) (begun a b : ℕ) (x : Stored) → begun ≤ a → Stood f.run x (a + a) (b + b) → (e at : ℕ) → g.writes e ≡ true → g.done e ≡ true
    → g.answered e ≡ Some at → at ≤ begun → e ≤ x.write
stood_new g i f begun a b x low stood e at is done told early =
    let new : (f.run (begun + begun)).ok ≤ x.write = (stood_newest f.run f.is x (a + a) (b + b) stood (begun + begun) (b + b) (double begun a low) (omega arith)).0 in
    let known : e ≤ (state_of g begun).ok = (logs_stand g i begun).ok e at is done told early in
    let same : (f.run (begun + begun)).ok ≡ (state_of g begun).ok = ap (λ (w : State). w.ok) (f.same begun) in
    omega (arith, new, known, same)

once_given : (g : Log) → IsLog g → (f : Fine g) (a b : ℕ) (p q : Option Stored) → SectorAt g true a p → SectorAt g false b q → given_once f.run (a + a) (b + b) ≡ later p q
once_given g i f a b p q front back =
    ap (λ (o : Option Stored). later o (f.run (b + b)).back) (front_is g i f a p front) ∙ ap (λ (o : Option Stored). later p o) (back_is g i f b q back)

once_stood : (g : Log) → IsLog g → (f : Fine g) (a b : ℕ) (p : Option Stored) (y x : Stored) → a ≤ b → SectorAt g true a p → SectorAt g false b (Some y) → later p (Some y) ≡ Some x
    → Stood f.run x (a + a) (b + b)
once_stood g i f a b p y x order front back h =
    let k = once f.run f.is (a + a) (b + b) (double a b order) y (back_is g i f b (Some y) back) in
    let same : k.0 ≡ x = one_value k.0 x (given_once f.run (a + a) (b + b)) k.1 (once_given g i f a b p (Some y) front back ∙ h) in
    subst (λ (z : Stored). Stood f.run z (a + a) (b + b)) same k.2

twice_given : (g : Log) → IsLog g → (f : Fine g) (a b c d : ℕ) (o p q r : Option Stored) → SectorAt g true a o → SectorAt g false b p → SectorAt g true c q → SectorAt g false d r
    → given_twice f.run (a + a) (b + b) (c + c) (d + d) ≡ merged o p q r
twice_given g i f a b c d o p q r one two three four =
    ap (λ (x : Option Stored). merged x (f.run (b + b)).back (f.run (c + c)).front (f.run (d + d)).back) (front_is g i f a o one)
    ∙ ap (λ (x : Option Stored). merged o x (f.run (c + c)).front (f.run (d + d)).back) (back_is g i f b p two)
    ∙ ap (λ (x : Option Stored). merged o p x (f.run (d + d)).back) (front_is g i f c q three)
    ∙ ap (λ (x : Option Stored). merged o p q x) (back_is g i f d r four)

register : (g : Log) → IsLog g → (begun ended : ℕ) (x : Stored) (b : ℕ) → WasSent g b x → b ≤ ended
    → ((e at : ℕ) → g.writes e ≡ true → g.done e ≡ true → g.answered e ≡ Some at → at ≤ begun → e ≤ x.write) → IsRegisterOf g begun ended x
register g i begun ended x b sent low newest = record { submitted = sent.is; earlier = (up_to g b ended x low sent).low; newest = newest }

pub reads_are_registers : ReadsAreRegisters
reads_are_registers g i begun ended x (Read_once a b since order until p y front back h) =
    register g i begun ended x b (sent_later g i a b p (Some y) x order front back h) until
    (stood_new g i (fine g) begun a b x since (once_stood g i (fine g) a b p y x order front back h))
reads_are_registers g i begun ended x (Read_twice a b c d since one two three until o p q r at_a at_b at_c at_d h) =
    let f : Fine g = fine g in
    let stood : Stood f.run x (a + a) (d + d) =
    twice f.run f.is (a + a) (b + b) (c + c) (d + d) (double a b one) (double b c two) (double c d three) x (twice_given g i f a b c d o p q r at_a at_b at_c at_d ∙ h) in
    register g i begun ended x d (sent (merged_is o p q r x h)) until (stood_new g i f begun a d x since stood)
  where
    sent : (later o p ≡ Some x) ⊎ (later q r ≡ Some x) → WasSent g d x
    sent (inl e) = up_to g b d x (let w : b ≤ c = two in omega (arith, w, three)) (sent_later g i a b o p x one at_a at_b e)
    sent (inr e) = sent_later g i c d q r x three at_c at_d e

pub pairs_have_blocks : PairsHaveBlocks
pairs_have_blocks g i t p q front back =
    let f : Fine g = fine g in
    let k : HasBlock (f.run (t + t)) = has_blocks f.run f.is (t + t) in
    let stands : later p q ≡ Some k.block = sym (once_given g i f t t p q front back) ∙ k.stands in
    let sent = sent_later g i t t p q k.block (omega arith) front back stands in
    record {
      block = k.block;
      stands = stands;
      is = register g i t t k.block t sent (omega arith) (λ e at is done told early.
          let known : e ≤ (state_of g t).ok = (logs_stand g i t).ok e at is done told early in
          let same : (f.run (t + t)).ok ≡ (state_of g t).ok = ap (λ (w : State). w.ok) (f.same t) in
          let new = k.newest in
          omega (arith, known, same, new));
    }
