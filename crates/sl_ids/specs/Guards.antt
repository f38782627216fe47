-- The terms of an id by the times of a delta lease, and its bounds and the timed premises of its steps by clocks and watchdogs.
use Rattle.sl_ids.specs.Clocks.Points.{Point, Precedes, reading}
use Rattle.sl_ids.specs.Clocks.Watchdog.{MayAct}
use Rattle.sl_ids.specs.Runs.{IsBounded}
use Rattle.sl_ids.specs.State.{Content, SessionId, State, moment, shown}
use Rattle.sl_ids.specs.Steps.{IsWatched}
use Rattle.sl_ids.specs.Terms.{AreLongEnough, Terms}
use Rattle.sl_time.specs.Times.{IsTiming, TimingNumbers, dead, gone, hold, join_max, take_over}
use Rattle.std.specs.Prelude.{Some, false, true, ℕ, ◌+◌, ◌<◌, ◌≡◌, ◌≤◌}

-- The terms of a timing.
abbrev pub terms_of : TimingNumbers → Terms
terms_of t = record { gone = gone t; hold = hold t; watch = hold t + gone t; wait = gone t; silence = gone t }

-- The watchdog's word for each session that a bound speaks of, one that is connected, has a write in flight, or was connected at a reset of
-- its machine not longer than `land` ago: it may act, by the point whose moment the state keeps.
pub record AreGuarded (t : TimingNumbers) (w : State) : Type 0 where
  pub pending : (s : SessionId) → (w.session s).pending ≡ true
      → (registered : Point) × (registered.moment ≡ (w.session s).registered) × MayAct t registered w.now
  pub acting : (s : SessionId) → (w.session s).verified ≡ true → (w.session s).over ≡ false
      → (renewed : Point) × (renewed.moment ≡ (w.session s).renewed) × MayAct t renewed w.now

-- The watchdogs bound an id, and the waits by the formulas are long enough.
pub record WatchdogsBound : Type 0 where
  pub bounds : (t : TimingNumbers) (w : State) → IsTiming t → AreGuarded t w → IsBounded (terms_of t) w
  pub long : (t : TimingNumbers) → IsTiming t → AreLongEnough (terms_of t)

-- The timed premises of the steps and of evidence, from points of one machine's clock and moments of samples.
pub record WaitsSuffice : Type 0 where
  -- the last read of a watch was submitted `take_over` after the first one's answer
  pub watched : (t : TimingNumbers) (w : State) (content : Content) (first sampled : ℕ) (answered last : Point) → first < w.count
      → shown w first ≡ Some content → moment w first ≤ sampled → sampled ≤ answered.moment → Precedes t.rho answered last
      → reading answered + take_over t ≤ reading last → last.moment ≤ w.now → IsWatched (terms_of t) w content
  -- the verify read was submitted `dead` after the claim's answer
  pub waited : (t : TimingNumbers) (w : State) (claim : ℕ) (answered submitted : Point) → moment w claim ≤ answered.moment
      → Precedes t.rho answered submitted → reading answered + dead t ≤ reading submitted → submitted.moment ≤ w.now
      → moment w claim + (terms_of t).wait < w.now
  -- the session registered again at most `join_max` after the claim's submission
  pub soon : (t : TimingNumbers) (w : State) (claim : ℕ) (submitted registered : Point) → IsTiming t → submitted.moment ≤ moment w claim
      → Precedes t.rho submitted registered → reading registered ≤ reading submitted + join_max t
      → registered.moment < moment w claim + (terms_of t).hold
  -- a run of sightings spans `dead`, from the answer of the first to the submission of the last
  pub silent : (t : TimingNumbers) (u w : State) (after before : Point) → u.now ≤ after.moment → before.moment ≤ w.now
      → Precedes t.rho after before → reading after + dead t ≤ reading before → u.now + (terms_of t).silence < w.now
