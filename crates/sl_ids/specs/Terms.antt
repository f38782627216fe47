-- The times that a run of an id goes by: for how long a session may act, and for how long others wait.
use Rattle.std.specs.Prelude.{ℕ, ◌+◌, ◌<◌, ◌≤◌}

-- In milliseconds of real time.
pub record Terms : Type 0 where
  -- a session acts for less than this after it was renewed
  pub gone : ℕ
  -- .. and registers again, for its verify read, less than this after its claim has landed
  pub hold : ℕ
  -- a record that isn't free is claimed only when it was seen more than this ago
  pub watch : ℕ
  -- a claim is verified only when it landed more than this ago
  pub wait : ℕ
  -- a live record is silent when it was seen more than this ago
  pub silence : ℕ

-- The waits are long enough for what a session may do meanwhile. (Each bound is strict on both sides, which spares one or two
-- milliseconds. One less than this, and it fails: `Examples` has a run for each of the three.)
pub record AreLongEnough (r : Terms) : Type 0 where
  pub some : 0 < r.hold
  -- the writer of a claim may verify it until `hold` after, and act for `gone` from then on
  pub watch : r.hold + r.gone ≤ r.watch + 2
  -- whoever has decided on the same record may let a claim land for `gone` after he registered
  pub wait : r.gone ≤ r.wait + 1
  -- a session may act for `gone` after its last renewal
  pub silence : r.gone ≤ r.silence + 1
