-- What may happen to a pair. The world takes none, one or several of these steps in each of its own.
use Rattle.sl_ballot_law.specs.Pairs.State.{State, Stored, current, is_first}
use Rattle.std.specs.Prelude.{None, Option, Some, false, if◌then◌else◌, true, ℕ, ◌+◌, ◌<◌, ◌≡◌}

-- ---- what a step changes

-- A write with this number, and with the turn one above the known one.
abbrev pub after_submission : ℕ → State → State
after_submission n w = record w { last = n; turn = w.known + 1; flying = true; landed = false; waits = true }

-- The sector of the newest write's turn spells this.
abbrev pub front_with : Option Stored → State → Option Stored
front_with x w = if is_first w.turn then x else w.front

abbrev pub back_with : Option Stored → State → Option Stored
back_with x w = if is_first w.turn then w.back else x

-- The newest write.
abbrev pub newest : State → Stored
newest w = record { turn = w.turn; write = w.last }

abbrev pub after_landing : State → State
after_landing w = record w { front = front_with (Some (newest w)) w; back = back_with (Some (newest w)) w; flying = false; landed = true }

abbrev pub after_tearing : State → State
after_tearing w = record w { front = front_with None w; back = back_with None w; flying = false }

abbrev pub after_drop : State → State
after_drop w = record w { flying = false }

abbrev pub after_ok : State → State
after_ok w = record w { ok = w.last; known = w.turn; waits = false }

abbrev pub after_failure : State → State
after_failure w = record w { flying = false; waits = false }

abbrev pub after_look : ℕ → State → State
after_look turn w = record w { known = turn; shown = true }

abbrev pub after_beginning : State → State
after_beginning w = record w { shown = false; waits = false }

-- ---- all of them

pub data Step (w v : State) : Type 0 where
  -- nothing of this pair happens
  Stays : v ≡ w → Step w v
  -- the session submits a write. It was shown a turn, and its last write was answered. (The state has room for one write in flight: two
  -- would be another system, in which the earlier could land over the later.)
  Submits : (n : ℕ) → w.shown ≡ true → w.waits ≡ false → w.last < n → v ≡ after_submission n w → Step w v
  -- the write in flight lands whole, late or not, also when its session has ended
  Lands : w.flying ≡ true → v ≡ after_landing w → Step w v
  -- it lands torn: its sector spells nothing
  Tears : w.flying ≡ true → v ≡ after_tearing w → Step w v
  -- it will never land
  Drops : w.flying ≡ true → v ≡ after_drop w → Step w v
  -- the write is answered ok: it has landed whole
  Answers_ok : w.waits ≡ true → w.landed ≡ true → v ≡ after_ok w → Step w v
  -- it is answered failed, whether it has landed whole, torn or not: from now on it can't
  Answers_failed : w.waits ≡ true → v ≡ after_failure w → Step w v
  -- the session is shown the turn of its own pair, by a read beside which it has no write in flight
  Looks : w.waits ≡ false → w.flying ≡ false → (s : Stored) → current w ≡ Some s → v ≡ after_look s.turn w → Step w v
  -- a later session of the host begins: the earlier one is over, so nothing of it is in flight
  Begins : w.flying ≡ false → v ≡ after_beginning w → Step w v

-- ---- runs

-- At first both sectors hold the host's first block, with turns 1 and 2.
abbrev pub first_state : State
first_state = record {
  front = Some (record { turn = 1; write = 0 });
  back = Some (record { turn = 2; write = 0 });
  last = 0;
  ok = 0;
  known = 2;
  shown = false;
  turn = 2;
  flying = false;
  landed = false;
  waits = false;
}

-- A run has a state at each moment.
pub record IsRun (r : ℕ → State) : Type 0 where
  pub start : r 0 ≡ first_state
  pub step : (m : ℕ) → Step (r m) (r (m + 1))

-- A run as the world has it: at each of its moments come two of these steps, since an entry takes an answer and then submits.
pub record IsRunOfTwo (r between : ℕ → State) : Type 0 where
  pub start : r 0 ≡ first_state
  pub one : (m : ℕ) → Step (r m) (between m)
  pub two : (m : ℕ) → Step (between m) (r (m + 1))
