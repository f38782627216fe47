-- The watchdog's bounds, and the waits.
use Rattle.sl_ids.proofs.Clocks.ClockLaws.{clocks_drift, dead_long, join_max_short, read_on, short, take_over_long}
use Rattle.sl_ids.specs.Clocks.Points.{Point, Precedes}
use Rattle.sl_ids.specs.Clocks.Waits.{AliveBesideShorterSilence, AliveBesideSilenceFromSubmission, SilenceIsLong, VerifyWaits, WatchWaits}
use Rattle.sl_ids.specs.Clocks.Watchdog.{ActingIsBounded, ActsUntilGone, ClaimIsBounded, Connected, ConnectionIsBounded, GoneIsUsedUp, IsConnected, KeepaliveStaysFresh, Lately_reset, OverAfterGone, PendingIsBounded}
use Rattle.sl_time.specs.Times.{IsTiming, TimingNumbers, fail, gone, hold, life}
use Rattle.std.proofs.Common.{add-one, arith, false, inl, inr, refl, suc, sym, true, zero, ℕ, ◌*◌, ◌+◌, ◌-◌, ◌/◌, ◌<◌, ◌≡◌, ◌≤◌, ◌∙◌}
use Rattle.std.proofs.Math.Nat.{mul-le-mul_left, mul_comm}
use Rattle.std.proofs.lemmas.Grind.{div_ceil_times}

pub fresh : KeepaliveStaysFresh
fresh = record {
  registers = λ t now kept s r. record { order = inl r; unexpired = let m = read_on t.rho kept now r in let some = s.io.0 in omega arith };
  renews = λ t renewed next kept f r o. record { order = o; unexpired = let m = read_on t.rho renewed next r in let old = f.unexpired in omega arith };
  tests = λ t renewed now expiry r l m. record { order = inr r; unexpired = omega arith };
}

-- ---- bounds

connected_for : (life land fire now kept renewed : ℕ) → now ≤ kept + fire → kept < renewed + life → now + land < renewed + (life + fire + land)
connected_for life land fire now kept renewed h k = omega arith

kept_within : (t : TimingNumbers) (renewed kept : Point) (now : ℕ) → IsTiming t → IsConnected t renewed kept now → kept.moment < renewed.moment + life t
kept_within t renewed kept now s c =
    elim c.found.order [
      | inl before ↦
          let some = s.io.0 in
          let sure = short t.rho (fail t) renewed renewed s.rho (clocks_drift.same t.rho renewed) (omega arith) in
          first kept.moment renewed.moment (life t) before.later sure
      | inr after ↦ short t.rho (fail t) renewed kept s.rho after c.found.unexpired
    ]
  where
    first : (k r l : ℕ) → k ≤ r → r < r + l → k < r + l
    first k r l h i = omega arith

pub connection : ConnectionIsBounded
connection t renewed kept now s c = connected_for (life t) t.land t.fire now kept.moment renewed.moment c.fires (kept_within t renewed kept now s c)

later_by : (now reset land bound : ℕ) → reset + land < bound → now ≤ reset + land → now < bound
later_by now reset land bound h k = omega arith

pub acting : ActingIsBounded
acting t renewed now s (Connected kept c) = later_by now now t.land (renewed.moment + gone t) (connection t renewed kept now s c) (omega arith)
acting t renewed now s (Lately_reset kept reset c l) = later_by now reset t.land (renewed.moment + gone t) (connection t renewed kept reset s c) l

pub over_after : OverAfterGone
over_after t renewed now true s h l = refl
over_after t renewed now false s h l = absurd (go (renewed.moment + gone t) (acting t renewed now s (h refl)) l)
  where
    go : (bound : ℕ) → now < bound → bound ≤ now → ⊥
    go bound h k = omega arith

pub claim : ClaimIsBounded
claim t submitted registered now s r l a =
    let j = join_max_short t submitted registered s r l in
    (j, go (gone t) (hold t) j (acting t registered now s a))
  where
    go : (g h : ℕ) → registered.moment < submitted.moment + h → now < registered.moment + g → now + 1 < submitted.moment + (h + g)
    go g h p q = omega arith

pub pending : PendingIsBounded
pending t registered sampled now s l a = go (gone t) (acting t registered now s a)
  where
    go : (g : ℕ) → now < registered.moment + g → now < sampled + g
    go g q = omega arith

-- ---- the last moment of a session: the slowest clock, a reset `fire` after the last keepalive, and a landing `land` after that

last_reading : (f k m : ℕ) → (m + 1) * k < 1000 * f + k → (k * m) / 1000 < f
last_reading f k m h = omega (arith, mul_comm k m)

last_point : (rho m : ℕ) → rho ≤ 100 → Precedes rho (record { moment = 0; clock = 0 }) (record { moment = m; clock = (1000 - rho) * m })
last_point rho m small =
    let e : m - 0 ≡ m = omega arith in
    let f : (1000 - rho) * m - 0 ≡ (1000 - rho) * m = omega arith in
    let slower : 1000 - rho ≤ 1000 + rho = omega arith in
    record {
      later = omega arith;
      forward = omega arith;
      drift = record { least = rw (e, f) (omega arith); most = rw (e, f) (omega (arith, mul-le-mul_left m slower, mul_comm m (1000 - rho), mul_comm m (1000 + rho))) };
    }

last_of : (t : TimingNumbers) → IsTiming t → (m : ℕ) → life t ≡ m + 1 → (m + 1) * (1000 - t.rho) < 1000 * fail t + (1000 - t.rho) → ActsUntilGone t
last_of t s m e far =
    let kept : Point = record { moment = m; clock = (1000 - t.rho) * m } in
    record {
      renewed = record { moment = 0; clock = 0 };
      now = m + t.fire + t.land;
      last = rw e (omega arith);
      acts = Lately_reset kept (m + t.fire) (record {
        found = record { order = inr (last_point t.rho m s.rho); unexpired = (let less = last_reading (fail t) (1000 - t.rho) m far in omega arith) };
        fires = omega arith;
      }) (omega arith);
    }

some_life : (f k : ℕ) → 1 ≤ f → 1000 * (8 * f) ≤ 0 * k → ⊥
some_life f k h i = omega arith

pub used_up : GoneIsUsedUp
used_up t s = go (life t) refl b.0 b.1
  where
    b : (1000 * fail t ≤ life t * (1000 - t.rho)) × (life t * (1000 - t.rho) < 1000 * fail t + (1000 - t.rho))
    b = div_ceil_times (1000 * fail t) (1000 - t.rho) (let small = s.rho in omega arith)

    go : (l : ℕ) → life t ≡ l → 1000 * fail t ≤ l * (1000 - t.rho) → l * (1000 - t.rho) < 1000 * fail t + (1000 - t.rho) → ActsUntilGone t
    go zero e enough far = absurd (some_life t.io (1000 - t.rho) s.io.0 enough)
    go (suc m) e enough far = last_of t s m (e ∙ sym (add-one m)) (rw (add-one m) far)

-- ---- the waits

pub verify : VerifyWaits
verify t answered submitted landed sampled r l m n = go (gone t) (dead_long t answered submitted r l)
  where
    go : (g : ℕ) → answered.moment + g < submitted.moment → landed + g < sampled
    go g h = omega arith

pub watch : WatchWaits
watch t answered last first deciding r l m n = go (hold t + gone t) (take_over_long t answered last r l)
  where
    go : (g : ℕ) → answered.moment + g < last.moment → first + g < deciding
    go g h = omega arith

pub silence : SilenceIsLong
silence t after before landed first last r l m n o = go (gone t) (dead_long t after before r l)
  where
    go : (g : ℕ) → after.moment + g < before.moment → (first + g < last) × (landed + g < last)
    go g h = (omega arith, omega arith)

-- ---- what would be too short

abbrev small : TimingNumbers
small = record { io = 1; fire = 0; land = 0; rho = 0 }

is_small : IsTiming small
is_small = record { io = (omega arith, omega arith); fire = omega arith; land = omega arith; rho = omega arith }

-- A point of a clock that is exact.
abbrev exact : ℕ → Point
exact n = record { moment = n; clock = 1000 * n }

pub shorter : AliveBesideShorterSilence
shorter = record {
  timing = small;
  is_timing = is_small;
  after = exact 0;
  before = exact 7;
  renewed = exact 0;
  kept = exact 7;
  order = between;
  span = omega arith;
  landed = omega arith;
  connected = record { found = record { order = inr between; unexpired = omega arith }; fires = omega arith };
}
  where
    between : Precedes 0 (exact 0) (exact 7)
    between = record { later = omega arith; forward = omega arith; drift = record { least = omega arith; most = omega arith } }

pub from_submission : AliveBesideSilenceFromSubmission
from_submission = record {
  timing = small;
  is_timing = is_small;
  submitted = exact 0;
  before = exact 9;
  sampled = 9;
  renewed = exact 9;
  kept = exact 9;
  order = record { later = omega arith; forward = omega arith; drift = record { least = omega arith; most = omega arith } };
  span = omega arith;
  in_flight = omega arith;
  landed = omega arith;
  sampled_first = omega arith;
  connected = record { found = record { order = inr (clocks_drift.same 0 (exact 9)); unexpired = omega arith }; fires = omega arith };
}
