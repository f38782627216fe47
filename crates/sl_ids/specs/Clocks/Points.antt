-- Points of a machine's clock, and how far apart they may be.
use Rattle.sl_time.specs.Times.{Drifts, reading_of}
use Rattle.std.specs.Prelude.{ℕ, ◌+◌, ◌-◌, ◌≤◌}

-- A moment of real time, in milliseconds, and what the clock of a machine says then, in thousandths. In the world it is the stamp of an
-- entry, of a test or of now, without its step.
pub record Point : Type 0 where
  pub moment : ℕ
  pub clock : ℕ

-- What the machine reads there.
abbrev pub reading : Point → ℕ
reading p = reading_of p.clock

-- Two points of one machine, the first not the later one by the steps of the run. Between them its clock is neither too slow nor too
-- fast. (A machine's clock runs on while it is down.)
pub record Precedes (rho : ℕ) (p q : Point) : Type 0 where
  pub later : p.moment ≤ q.moment
  pub forward : p.clock ≤ q.clock
  pub drift : Drifts rho (q.moment - p.moment) (q.clock - p.clock)

-- A point precedes itself; one moment that passes, the point after it; and one stretch may follow another. So each two points that a
-- machine comes to are related, however often its clock changes its speed.
pub record ClocksDrift : Type 0 where
  pub same : (rho : ℕ) (p : Point) → Precedes rho p p
  pub pass : (rho d growth : ℕ) (p : Point) → Drifts rho d growth
      → Precedes rho p (record { moment = p.moment + d; clock = p.clock + growth })
  pub both : (rho : ℕ) (p q r : Point) → Precedes rho p q → Precedes rho q r → Precedes rho p r
