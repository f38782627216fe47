-- What two readings of a clock say of the real time between them.
use Rattle.sl_ids.specs.Clocks.Points.{Point, Precedes, reading}
use Rattle.sl_time.specs.Times.{IsTiming, TimingNumbers, ceil, dead, gone, hold, join_max, take_over}
use Rattle.std.specs.Prelude.{ℕ, ◌*◌, ◌+◌, ◌-◌, ◌<◌, ◌≤◌}

-- Less than x on the clock is less than x on the slowest clock, rounded up.
abbrev pub ShortReading : Type 0
ShortReading = (rho x : ℕ) (p q : Point) → rho ≤ 100 → Precedes rho p q → reading q < reading p + x
    → q.moment < p.moment + ceil (1000 * x) (1000 - rho)

-- One more than g on the fastest clock, rounded up, is more than g. (A reading may be just about to change at the first point, and have
-- just changed at the second: this is what the one is for.)
abbrev pub LongReading : Type 0
LongReading = (rho g : ℕ) (p q : Point) → Precedes rho p q → reading p + (1 + ceil (g * (1000 + rho)) 1000) ≤ reading q
    → p.moment + g < q.moment

-- Who waits for `dead` on his clock has waited for more than `gone`.
abbrev pub DeadIsLongEnough : Type 0
DeadIsLongEnough = (t : TimingNumbers) (p q : Point) → Precedes t.rho p q → reading p + dead t ≤ reading q → p.moment + gone t < q.moment

-- Who watches for `take_over` has watched for more than `hold` and `gone`.
abbrev pub TakeOverIsLongEnough : Type 0
TakeOverIsLongEnough = (t : TimingNumbers) (p q : Point) → Precedes t.rho p q → reading p + take_over t ≤ reading q
    → p.moment + (hold t + gone t) < q.moment

-- At most `join_max` on the clock is less than `hold`.
abbrev pub JoinMaxIsShort : Type 0
JoinMaxIsShort = (t : TimingNumbers) (p q : Point) → IsTiming t → Precedes t.rho p q → reading q ≤ reading p + join_max t
    → q.moment < p.moment + hold t
