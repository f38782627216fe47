-- What holds of a pair at each moment.
use Rattle.sl_ballot_law.specs.Pairs.State.{State, Stored, is_first}
use Rattle.std.specs.Prelude.{Option, Some, if◌then◌else◌, false, true, ◌+◌, ◌≡◌, ◌≤◌, ◌⊎◌}

-- The sector of the known turn, and the other, to which the next write goes.
abbrev pub base_sector : State → Option Stored
base_sector w = if is_first w.known then w.front else w.back

abbrev pub other_sector : State → Option Stored
other_sector w = if is_first w.known then w.back else w.front

-- The known turn stands; beside it stands a torn sector, the turn before, or the turn after.
pub record Invariant (w : State) : Type 0 where
  pub base : Stored
  pub stands : base_sector w ≡ Some base
  pub turn : base.turn ≡ w.known
  -- what was answered ok is known to be in the pair
  pub ok : w.ok ≤ base.write
  pub within : base.write ≤ w.last
  pub other : (x : Stored) → other_sector w ≡ Some x → ((x.turn + 1 ≡ w.known) ⊎ ((x.turn ≡ w.known + 1) × (w.ok ≤ x.write))) × (x.write ≤ w.last)
  -- a write in flight, or one that is unanswered, is the next
  pub next : w.flying ≡ true → w.turn ≡ w.known + 1
  -- .. and one that has landed whole stands in the other sector
  pub landed : w.waits ≡ true → w.landed ≡ true → (w.turn ≡ w.known + 1) × (other_sector w ≡ Some (record { turn = w.turn; write = w.last }))
  pub waiting : w.flying ≡ true → w.landed ≡ false
