-- What the waits of a joining and of a watch give, as moments at which reads were sampled. A read is sampled at some moment between
-- its submission and its answer, and which one nobody knows: so each wait begins at an answer and ends at a submission.
use Rattle.sl_ids.specs.Clocks.Points.{Point, Precedes, reading}
use Rattle.sl_ids.specs.Clocks.Watchdog.{IsConnected}
use Rattle.sl_time.specs.Times.{IsTiming, TimingNumbers, dead, gone, hold, take_over}
use Rattle.std.specs.Prelude.{ℕ, ◌+◌, ◌<◌, ◌≤◌}

-- The verify read is submitted at least `dead` after the claim's answer: it is sampled more than `gone` after the claim's landing.
abbrev pub VerifyWaits : Type 0
VerifyWaits = (t : TimingNumbers) (answered submitted : Point) (landed sampled : ℕ) → Precedes t.rho answered submitted
    → reading answered + dead t ≤ reading submitted → landed ≤ answered.moment → submitted.moment ≤ sampled → landed + gone t < sampled

-- The last read of a watch is submitted at least `take_over` after the first one's answer: the deciding read, which is submitted after
-- it, is sampled more than `hold` and `gone` after the first one was.
abbrev pub WatchWaits : Type 0
WatchWaits = (t : TimingNumbers) (answered last : Point) (first deciding : ℕ) → Precedes t.rho answered last
    → reading answered + take_over t ≤ reading last → first ≤ answered.moment → last.moment ≤ deciding
    → first + (hold t + gone t) < deciding

-- A silence spans at least `dead`, from the answer of its first sighting to the submission of its last: the last was sampled more than
-- `gone` after the first, and so after the landing that both show.
abbrev pub SilenceIsLong : Type 0
SilenceIsLong = (t : TimingNumbers) (after before : Point) (landed first last : ℕ) → Precedes t.rho after before
    → reading after + dead t ≤ reading before → landed ≤ first → first ≤ after.moment → before.moment ≤ last
    → (first + gone t < last) × (landed + gone t < last)

-- ---- what would be too short

-- Counterexample to a silence of two less than `dead`. The landing that both sightings show is a session's last renewal, submitted at
-- `renewed`, and the session is connected when the last sighting is made. (One less than `dead` would still do.)
pub record AliveBesideShorterSilence : Type 0 where
  pub timing : TimingNumbers
  pub is_timing : IsTiming timing
  pub after : Point
  pub before : Point
  pub renewed : Point
  pub kept : Point
  pub order : Precedes timing.rho after before
  pub span : reading after + dead timing ≤ reading before + 2
  pub landed : renewed.moment ≤ after.moment
  pub connected : IsConnected timing renewed kept before.moment

-- Counterexample to a silence of `dead` that counts from the first sighting's submission: that read was in flight for long, and was
-- sampled just before its answer, at `sampled`.
pub record AliveBesideSilenceFromSubmission : Type 0 where
  pub timing : TimingNumbers
  pub is_timing : IsTiming timing
  pub submitted : Point
  pub before : Point
  pub sampled : ℕ
  pub renewed : Point
  pub kept : Point
  pub order : Precedes timing.rho submitted before
  pub span : reading submitted + dead timing ≤ reading before
  pub in_flight : submitted.moment ≤ sampled
  pub landed : renewed.moment ≤ sampled
  pub sampled_first : sampled ≤ before.moment
  pub connected : IsConnected timing renewed kept before.moment
