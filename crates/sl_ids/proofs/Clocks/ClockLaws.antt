-- Drift, both ways.
use Rattle.sl_ids.specs.Clocks.Points.{ClocksDrift, Point, Precedes, reading}
use Rattle.sl_ids.specs.Clocks.Readings.{DeadIsLongEnough, JoinMaxIsShort, LongReading, ShortReading, TakeOverIsLongEnough}
use Rattle.sl_time.specs.Times.{ceil, gone, hold, join_max}
use Rattle.std.proofs.Common.{arith, inl, inr, ℕ, ◌*◌, ◌+◌, ◌-◌, ◌/◌, ◌<◌, ◌≡◌, ◌≤◌}
use Rattle.std.proofs.Math.Nat.{mul-le-mul_left, mul_comm}
use Rattle.std.proofs.lemmas.Bool.{cases_lt}
use Rattle.std.proofs.lemmas.Grind.{div_ceil_times}

-- ---- points

add_stretch : (k a b d : ℕ) → a ≤ b → b ≤ d → k * (b - a) + k * (d - b) ≡ k * (d - a)
add_stretch k a b d m n = let e : d - a ≡ (b - a) + (d - b) = omega arith in rw e (omega arith)

both : (rho : ℕ) (p q r : Point) → Precedes rho p q → Precedes rho q r → Precedes rho p r
both rho p q r a b =
    let slow = add_stretch (1000 - rho) p.moment q.moment r.moment a.later b.later in
    let fast = add_stretch (1000 + rho) p.moment q.moment r.moment a.later b.later in
    record {
      later = omega (arith, a.later, b.later);
      forward = omega (arith, a.forward, b.forward);
      drift = record {
        least = omega (arith, slow, a.forward, b.forward, a.drift.least, b.drift.least);
        most = omega (arith, fast, a.forward, b.forward, a.drift.most, b.drift.most);
      };
    }

pub clocks_drift : ClocksDrift
clocks_drift = record {
  same = λ rho p. (
      let e : p.moment - p.moment ≡ 0 = omega arith in
      record { later = omega arith; forward = omega arith; drift = record { least = rw e (omega arith); most = omega arith } }
      );
  pass = λ rho d growth p l. (
      let e : p.moment + d - p.moment ≡ d = omega arith in
      let f : p.clock + growth - p.clock ≡ growth = omega arith in
      record { later = omega arith; forward = omega arith; drift = rw (e, f) l }
      );
  both = both;
}

-- Readings don't go back.
pub read_on : (rho : ℕ) (p q : Point) → Precedes rho p q → reading p ≤ reading q
read_on rho p q l = let s = l.forward in omega arith

-- ---- short and long readings

short_far : (k x d c e u s : ℕ) → 1000 * x ≤ u * k → c + s ≤ e → u * k ≤ s → e / 1000 < c / 1000 + x → ⊥
short_far k x d c e u s h w m l = omega arith

pub short : ShortReading
short rho x p q small r l =
    let u : ℕ = ceil (1000 * x) (1000 - rho) in
    let b = div_ceil_times (1000 * x) (1000 - rho) (omega arith) in
    go u b.0
  where
    go : (u : ℕ) → 1000 * x ≤ u * (1000 - rho) → q.moment < p.moment + u
    go u enough =
        elim (cases_lt q.moment (p.moment + u)) [
          | inl lt ↦ lt
          | inr ge ↦
              let le : u ≤ q.moment - p.moment = omega arith in
              let m : u * (1000 - rho) ≤ (1000 - rho) * (q.moment - p.moment) = omega (arith, mul-le-mul_left (1000 - rho) le, mul_comm u (1000 - rho)) in
              let least = r.drift.least in
              let forward = r.forward in
              absurd (short_far (1000 - rho) x (q.moment - p.moment) p.clock q.clock u ((1000 - rho) * (q.moment - p.moment)) enough (omega arith) m l)
        ]

long_far : (a c e u s : ℕ) → a ≤ u * 1000 → e ≤ c + s → s ≤ a → c / 1000 + (1 + u) ≤ e / 1000 → ⊥
long_far a c e u s h w m l = omega arith

pub long : LongReading
long rho g p q r l = go (ceil (g * (1000 + rho)) 1000) (div_ceil_times (g * (1000 + rho)) 1000 (omega arith)).0 l
  where
    go : (u : ℕ) → g * (1000 + rho) ≤ u * 1000 → reading p + (1 + u) ≤ reading q → p.moment + g < q.moment
    go u enough l =
        elim (cases_lt (p.moment + g) q.moment) [
          | inl lt ↦ lt
          | inr ge ↦
              let le : q.moment - p.moment ≤ g = omega arith in
              let m : (1000 + rho) * (q.moment - p.moment) ≤ g * (1000 + rho) = omega (arith, mul-le-mul_left (1000 + rho) le, mul_comm g (1000 + rho)) in
              let most = r.drift.most in
              let forward = r.forward in
              absurd (long_far (g * (1000 + rho)) p.clock q.clock u ((1000 + rho) * (q.moment - p.moment)) enough (omega arith) m l)
        ]

-- ---- the three waits

pub dead_long : DeadIsLongEnough
dead_long t p q = long t.rho (gone t) p q

pub take_over_long : TakeOverIsLongEnough
take_over_long t p q = long t.rho (hold t + gone t) p q

pub join_max_short : JoinMaxIsShort
join_max_short t p q s r l = short t.rho (join_max t + 1) p q s.rho r (go (reading p) (join_max t) (reading q) l)
  where
    go : (a j b : ℕ) → b ≤ a + j → b < a + (j + 1)
    go a j b l = omega arith
