-- One session, the watchdog of its machine, and for how long the session may still act.
--
-- The watchdog daemon tests the machine's connections now and then. A test that finds none of them expired is a keepalive, and the
-- device resets the machine `fire` after the last one. The session's connection expires `fail` after the point `renewed`: the
-- submission of its last renewal that was answered ok, and in a joining the last registering of the connection.
use Rattle.sl_ids.specs.Clocks.Points.{Point, Precedes, reading}
use Rattle.sl_time.specs.Times.{IsTiming, TimingNumbers, fail, gone, hold, join_max}
use Rattle.std.specs.Prelude.{Bool, false, true, ℕ, ◌+◌, ◌<◌, ◌≡◌, ◌≤◌, ◌⊎◌}

-- The last keepalive of the machine, at the point `kept`, found the session's connection unexpired. The two points may come in
-- either order.
pub record FoundUnexpired (t : TimingNumbers) (renewed kept : Point) : Type 0 where
  pub order : Precedes t.rho kept renewed ⊎ Precedes t.rho renewed kept
  pub unexpired : reading kept < reading renewed + fail t

-- At this moment the session's connection stands and its machine is up: the device has not fired yet. (That a connection stands is a
-- matter of the session's trace; that the machine would be reset else is a promise of the device.)
pub record IsConnected (t : TimingNumbers) (renewed kept : Point) (now : ℕ) : Type 0 where
  pub found : FoundUnexpired t renewed kept
  pub fires : now ≤ kept.moment + t.fire

-- Why a session may still act, which is to submit a write or have one land: its connection stands; or its machine was reset while
-- it stood, not longer than `land` ago, and what was submitted before may land.
pub data MayAct (t : TimingNumbers) (renewed : Point) (now : ℕ) : Type 0 where
  Connected : (kept : Point) → IsConnected t renewed kept now → MayAct t renewed now
  Lately_reset : (kept : Point) (reset : ℕ) → IsConnected t renewed kept reset → now ≤ reset + t.land → MayAct t renewed now

-- What finds the connection unexpired, and keeps it found so.
pub record KeepaliveStaysFresh : Type 0 where
  -- a registering counts from now on, and no keepalive is of the future
  pub registers : (t : TimingNumbers) (now kept : Point) → IsTiming t → Precedes t.rho kept now → FoundUnexpired t now kept
  -- the answer of a renewal moves the expiry on
  pub renews : (t : TimingNumbers) (renewed next kept : Point) → FoundUnexpired t renewed kept → Precedes t.rho renewed next
      → Precedes t.rho kept next ⊎ Precedes t.rho next kept → FoundUnexpired t next kept
  -- a test holds only before each connection's expiry, and the session's is at most `fail` after the reading at `renewed`
  pub tests : (t : TimingNumbers) (renewed now : Point) (expiry : ℕ) → Precedes t.rho renewed now → reading now < expiry
      → expiry ≤ reading renewed + fail t → FoundUnexpired t renewed now

-- A connection stands for less than `gone` after the point from which its expiry counts, and leaves room for the last writes to land.
abbrev pub ConnectionIsBounded : Type 0
ConnectionIsBounded = (t : TimingNumbers) (renewed kept : Point) (now : ℕ) → IsTiming t → IsConnected t renewed kept now
    → now + t.land < renewed.moment + gone t

-- A session that may still act was renewed less than `gone` ago.
abbrev pub ActingIsBounded : Type 0
ActingIsBounded = (t : TimingNumbers) (renewed : Point) (now : ℕ) → IsTiming t → MayAct t renewed now → now < renewed.moment + gone t

-- A session may act at the last moment before `gone`: at whatever timing there is a run of the clock in which `gone` would be too long
-- by nothing.
pub record ActsUntilGone (t : TimingNumbers) : Type 0 where
  pub renewed : Point
  pub now : ℕ
  pub last : now + 1 ≡ renewed.moment + gone t
  pub acts : MayAct t renewed now

abbrev pub GoneIsUsedUp : Type 0
GoneIsUsedUp = (t : TimingNumbers) → IsTiming t → ActsUntilGone t

-- So a session is over from `gone` after it was renewed, if nothing else than that it may act keeps it from being over.
abbrev pub OverAfterGone : Type 0
OverAfterGone = (t : TimingNumbers) (renewed : Point) (now : ℕ) (over : Bool) → IsTiming t → (over ≡ false → MayAct t renewed now)
    → renewed.moment + gone t ≤ now → over ≡ true

-- A session that registers again, for its verify read, at most `join_max` after it submitted its claim, does so less than `hold` after,
-- and acts for less than `hold` and `gone` after.
abbrev pub ClaimIsBounded : Type 0
ClaimIsBounded = (t : TimingNumbers) (submitted registered : Point) (now : ℕ) → IsTiming t → Precedes t.rho submitted registered
    → reading registered ≤ reading submitted + join_max t → MayAct t registered now
    → (registered.moment < submitted.moment + hold t) × (now + 1 < submitted.moment + (hold t + gone t))

-- A claim that may still land was decided less than `gone` ago: its deciding read was submitted as the connection was registered.
abbrev pub PendingIsBounded : Type 0
PendingIsBounded = (t : TimingNumbers) (registered : Point) (sampled now : ℕ) → IsTiming t → registered.moment ≤ sampled
    → MayAct t registered now → now < sampled + gone t
