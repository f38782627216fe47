-- The times of a run, in whole milliseconds.
use Rattle.std.specs.Prelude.{min, ℕ, ◌%◌, ◌*◌, ◌+◌, ◌-◌, ◌/◌, ◌≤◌}

-- The four numbers that all times are made of: milliseconds, and `rho` per mille of drift.
pub record TimingNumbers : Type 0 where
  -- the longest that a sector call of a job may take
  pub io : ℕ
  -- the device resets its machine at most so long after the test on which the last keepalive rests
  pub fire : ℕ
  -- a write of a machine that was reset lands within so long, or never
  pub land : ℕ
  -- by how much a clock may be fast or slow
  pub rho : ℕ

-- The four numbers, in the order in which they are given.
abbrev pub numbers : ℕ → ℕ → ℕ → ℕ → TimingNumbers
numbers io fire land rho = record { io = io; fire = fire; land = land; rho = rho }

-- A quotient rounded up.
abbrev pub ceil : ℕ → ℕ → ℕ
ceil a b = a / b + min 1 (a % b)

-- How often a session writes its sector.
abbrev pub renew : TimingNumbers → ℕ
renew t = 2 * t.io

-- How long a session goes on after the submission of its last renewal, by its own clock.
abbrev pub fail : TimingNumbers → ℕ
fail t = 8 * t.io

-- The longest that `fail` lasts: on the slowest clock.
abbrev pub life : TimingNumbers → ℕ
life t = ceil (1000 * fail t) (1000 - t.rho)

-- How long, in real time, a session can act after the submission of its last renewal: until its connection runs out, the device
-- resets its machine, and the last write has landed.
abbrev pub gone : TimingNumbers → ℕ
gone t = life t + t.fire + t.land

-- How long an observer sees no change before a session counts as over: more than `gone` on the fastest clock.
abbrev pub dead : TimingNumbers → ℕ
dead t = 1 + ceil (gone t * (1000 + t.rho)) 1000

-- How long after its claim a joining may still verify it.
abbrev pub join_max : TimingNumbers → ℕ
join_max t = dead t + fail t

-- The longest that `join_max` lasts: one more than it, on the slowest clock.
abbrev pub hold : TimingNumbers → ℕ
hold t = ceil (1000 * (join_max t + 1)) (1000 - t.rho)

-- How long a record that isn't free is watched before its id is taken: its writer may verify a claim until `hold` after it, and act
-- for `gone` from there on.
abbrev pub take_over : TimingNumbers → ℕ
take_over t = 1 + ceil ((hold t + gone t) * (1000 + t.rho)) 1000

-- The numbers that a run may have.
pub record IsTiming (t : TimingNumbers) : Type 0 where
  pub io : (1 ≤ t.io) × (t.io ≤ 600000)
  pub fire : t.fire ≤ 600000
  pub land : t.land ≤ 600000
  pub rho : t.rho ≤ 100

-- Over a time of d milliseconds a clock grows by this many thousandths.
pub record Drifts (rho d growth : ℕ) : Type 0 where
  pub least : (1000 - rho) * d ≤ growth
  pub most : growth ≤ (1000 + rho) * d

-- What a clock that counts thousandths shows.
abbrev pub reading_of : ℕ → ℕ
reading_of thousandths = thousandths / 1000
