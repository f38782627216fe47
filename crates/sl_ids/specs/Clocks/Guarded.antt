-- One session and the watchdog of its machine, step by step, from when the session begins.
--
-- Invariant: while the machine has not been reset, a write of the session is in flight only while its connection stands, and the last
-- keepalive found that connection unexpired; after a reset a write is in flight for `land` at most. Without the first half a machine
-- could go on for ever with writes that nobody counts on; without the second it could be reset and still write.
use Rattle.sl_ids.specs.Clocks.Points.{Point, Precedes, reading}
use Rattle.sl_ids.specs.Clocks.Watchdog.{MayAct}
use Rattle.sl_time.specs.Times.{IsTiming, TimingNumbers, fail, gone}
use Rattle.std.specs.Prelude.{Bool, List, false, true, [], ℕ, ◌+◌, ◌<◌, ◌∷◌, ◌≡◌, ◌≤◌, ◌⊎◌}

-- What this argument sees of a world: one session and its machine.
pub record Guarded : Type 0 where
  -- the moment, and the machine's clock
  pub now : Point
  -- those of the test on which the machine's last keepalive rests, or of its last start
  pub kept : Point
  -- those of the entry that last registered the session's connection, and once it has joined, of the entry that submitted the last
  -- renewal which was answered ok outside recovery
  pub renewed : Point
  -- the watchdog daemon has the connection of the session's lockspace, which the session registered
  pub connected : Bool
  -- a write among the session's calls is in flight: unanswered, and after its daemon's end not landed, torn or dropped either
  pub in_flight : Bool
  -- the machine was reset since the session's daemon began, and the moment of the first reset
  pub was_reset : Bool
  pub reset_at : ℕ

-- When time may pass: a machine that is up has had a keepalive not longer than `fire` ago, and the writes of one that was reset land
-- within `land` or never. These two are promises of the device and of the disks.
pub record MayPass (t : TimingNumbers) (w : Guarded) (next : Point) : Type 0 where
  pub runs : Precedes t.rho w.now next
  pub fires : w.was_reset ≡ false → next.moment ≤ w.kept.moment + t.fire
  pub lands : w.was_reset ≡ true → w.in_flight ≡ true → next.moment ≤ w.reset_at + t.land

-- When a renewal that is answered moves the expiry on: it was submitted at `next`, since the one before.
pub record MayRenew (t : TimingNumbers) (w : Guarded) (next : Point) : Type 0 where
  pub up : w.was_reset ≡ false
  pub since : Precedes t.rho w.renewed next
  pub past : Precedes t.rho next w.now
  pub order : Precedes t.rho w.kept next ⊎ Precedes t.rho next w.kept

-- What may happen: in the world an event, or a part of one entry of the session's daemon. What concerns none of these fields is no step.
pub data Step (t : TimingNumbers) (w v : Guarded) : Type 0 where
  -- time passes
  Passes : (next : Point) → MayPass t w next → v ≡ record w { now = next } → Step t w v
  -- a test that finds no connection expired is a keepalive; so is a start of the machine, which has no connection then
  Keeps : (w.connected ≡ true → reading w.now < reading w.renewed + fail t) → v ≡ record w { kept = w.now } → Step t w v
  -- an entry registers the connection, with an expiry of `fail` after its reading
  Registers : w.was_reset ≡ false → v ≡ record w { renewed = w.now; connected = true } → Step t w v
  -- an entry takes the answer ok of a renewal, and moves the expiry on
  Renews : (next : Point) → MayRenew t w next → v ≡ record w { renewed = next } → Step t w v
  -- an entry removes the connection, which it does only with no write of the session unanswered
  Unregisters : w.in_flight ≡ false → v ≡ record w { connected = false } → Step t w v
  -- an entry submits a write, which it does only while the connection stands
  Submits : w.was_reset ≡ false → w.connected ≡ true → v ≡ record w { in_flight = true } → Step t w v
  -- the last write in flight is answered, or after its daemon's end has landed, was torn or was dropped
  Settles : v ≡ record w { in_flight = false } → Step t w v
  -- the machine is reset: its connections are gone, its writes are not
  Resets : w.was_reset ≡ false → v ≡ record w { connected = false; was_reset = true; reset_at = w.now.moment } → Step t w v

-- These states follow one another, and the last is v.
abbrev pub GuardedRun : TimingNumbers → Guarded → List Guarded → Guarded → Type 0
GuardedRun t w [] v = w ≡ v
GuardedRun t w (u ∷ us) v = Step t w u × GuardedRun t u us v

-- A session begins on a machine that is up, with no write in flight. It has no connection yet; or a run begins with it, and its
-- connection counts from then.
pub record Begins (t : TimingNumbers) (w : Guarded) : Type 0 where
  pub up : w.was_reset ≡ false
  pub idle : w.in_flight ≡ false
  pub kept : Precedes t.rho w.kept w.now
  pub fires : w.now.moment ≤ w.kept.moment + t.fire
  pub renewed : w.connected ≡ true → w.renewed ≡ w.now

-- What the watchdog promises of a session in one state.
pub record IsGuarded (t : TimingNumbers) (v : Guarded) : Type 0 where
  -- a write in flight is covered by a connection, or by a reset at most `land` ago
  pub covered : v.in_flight ≡ true
      → ((v.was_reset ≡ false) × (v.connected ≡ true)) ⊎ ((v.was_reset ≡ true) × (v.now.moment ≤ v.reset_at + t.land))
  -- only a session that may act is connected or has a write in flight
  pub acts : (v.connected ≡ true) ⊎ (v.in_flight ≡ true) → MayAct t v.renewed v.now.moment
  -- .. and it was renewed less than `gone` ago
  pub soon : (v.connected ≡ true) ⊎ (v.in_flight ≡ true) → v.now.moment < v.renewed.moment + gone t
  -- .. and while it is connected there is room for its last write to land
  pub room : v.connected ≡ true → v.now.moment + t.land < v.renewed.moment + gone t

-- It keeps the promise in each state of a run.
abbrev pub GuardedIsBounded : Type 0
GuardedIsBounded = (t : TimingNumbers) (w v : Guarded) (us : List Guarded) → IsTiming t → Begins t w → GuardedRun t w us v → IsGuarded t v
