-- Runs that show that the theorems are about something, and that no rule is idle.
use Rattle.sl_ballot_law.specs.Pairs.Reads.{given_once, given_twice}
use Rattle.sl_ballot_law.specs.Pairs.State.{State, Stored, current, is_first}
use Rattle.sl_ballot_law.specs.Pairs.Steps.{IsRun, Step, after_submission, first_state}
use Rattle.std.specs.Prelude.{None, Some, false, if◌then◌else◌, true, ℕ, ◌+◌, ◌<◌, ◌≡◌, ◌≤◌, ◌⊎◌}

-- ---- all rules hold

-- Witness: a session's write is torn and its session ends; a later one of the host reads the pair and writes on; reads are given the
-- blocks of both, one by one answer, one by two.
pub record SomeAreRead : Type 0 where
  pub run : ℕ → State
  pub is : IsRun run
  -- one answer
  pub once_from : ℕ
  pub once_to : ℕ
  pub once_order : once_from ≤ once_to
  pub once : Stored
  pub once_given : given_once run once_from once_to ≡ Some once
  pub once_written : 0 < once.write
  -- a later session begins where the second sector is torn
  pub begins : ℕ
  pub torn : ((run begins).back ≡ None) × ((run begins).shown ≡ false) × (once.write < (run begins).last)
  -- two answers, whose first finds the second sector torn
  pub first : ℕ
  pub second : ℕ
  pub third : ℕ
  pub fourth : ℕ
  pub order : (first ≤ second) × (second ≤ third) × (third ≤ fourth)
  pub first_torn : (run second).back ≡ None
  pub twice : Stored
  pub twice_given : given_twice run first second third fourth ≡ Some twice
  pub twice_written : (run begins).last < twice.write

-- Witness: two answers may give no block, while a session goes on writing.
pub record SomeIsTorn : Type 0 where
  pub run : ℕ → State
  pub is : IsRun run
  pub first : ℕ
  pub second : ℕ
  pub third : ℕ
  pub fourth : ℕ
  pub order : (first ≤ second) × (second ≤ third) × (third ≤ fourth)
  pub none : given_twice run first second third fourth ≡ None

-- Witness: a block that was not answered ok may be the pair's and then be lost, where the next write of its turn is torn over it. So a
-- later read may show an older block than an earlier one did; never one older than the newest ok.
pub record SomeFallsBack : Type 0 where
  pub run : ℕ → State
  pub is : IsRun run
  pub one : ℕ
  pub two : ℕ
  pub order : one ≤ two
  pub before : Stored
  pub stood : current (run one) ≡ Some before
  pub after : Stored
  pub stands : current (run two) ≡ Some after
  pub older : after.write < before.write

-- ---- a rule of reads is left out

-- Counterexample to a read without a second one: where its second sector is torn, one answer gives a block that is older than the newest
-- that had been answered ok when the read was submitted.
pub record OneAnswerFails : Type 0 where
  pub run : ℕ → State
  pub is : IsRun run
  pub first : ℕ
  pub second : ℕ
  pub order : first ≤ second
  pub torn : (run second).back ≡ None
  pub block : Stored
  pub given : given_once run first second ≡ Some block
  pub stale : block.write < (run first).ok

-- Counterexample to a second answer alone: where the second sector was whole in the first answer (it was asked again for another host's
-- sake), the second answer gives such a block.
pub record SecondAloneFails : Type 0 where
  pub run : ℕ → State
  pub is : IsRun run
  pub first : ℕ
  pub second : ℕ
  pub third : ℕ
  pub fourth : ℕ
  pub order : (first ≤ second) × (second ≤ third) × (third ≤ fourth)
  pub newer : Stored
  pub whole : (run second).back ≡ Some newer
  pub block : Stored
  pub given : given_once run third fourth ≡ Some block
  pub stale : block.write < (run first).ok

-- Counterexample to counting a read from its second submission: both answers together give a block that is older than the newest that had
-- been answered ok when the second read was submitted.
pub record CountedLateFails : Type 0 where
  pub run : ℕ → State
  pub is : IsRun run
  pub first : ℕ
  pub second : ℕ
  pub third : ℕ
  pub fourth : ℕ
  pub order : (first ≤ second) × (second ≤ third) × (third ≤ fourth)
  pub block : Stored
  pub given : given_twice run first second third fourth ≡ Some block
  pub stale : block.write < (run third).ok

-- ---- a rule of writes is left out

-- Runs in which another step may come beside those of `Steps`.
pub record IsRunWith (Other : State → State → Type 0) (r : ℕ → State) : Type 0 where
  pub start : r 0 ≡ first_state
  pub step : (m : ℕ) → Step (r m) (r (m + 1)) ⊎ Other (r m) (r (m + 1))

-- .. and in the end a pair that nobody writes any more gives a block that is older than the newest that was answered ok.
pub record IsStale (Other : State → State → Type 0) : Type 0 where
  pub run : ℕ → State
  pub is : IsRunWith Other run
  pub moment : ℕ
  pub quiet : (run moment).flying ≡ false
  pub block : Stored
  pub given : given_once run moment moment ≡ Some block
  pub stale : block.write < (run moment).ok

-- Counterexample to the rule of sectors: a write that goes to the sector of the known turn is torn there.
abbrev pub TearsKnown : State → State → Type 0
TearsKnown w v =
    (w.flying ≡ true)
    × (v ≡ record w { front = if is_first w.known then None else w.front; back = if is_first w.known then w.back else None; flying = false })

abbrev pub SameSectorFails : Type 0
SameSectorFails = IsStale TearsKnown

-- Counterexample to the rule of turns: a session writes before it was shown its pair, with the least turn.
abbrev pub SubmitsUnseen : State → State → Type 0
SubmitsUnseen w v = (w.shown ≡ false) × (v ≡ record (after_submission 1 w) { turn = 1 })

abbrev pub UnseenTurnFails : Type 0
UnseenTurnFails = IsStale SubmitsUnseen

-- Counterexample to one session after another: a later session begins while a write of the earlier one is in flight, which lands last.
pub data Overlaps (w v : State) : Type 0 where
  Begins_early : w.flying ≡ true → v ≡ record w { flying = false; shown = false; waits = false } → Overlaps w v
  Lands_late : v ≡ record w { front = Some (record { turn = 3; write = 1 }) } → Overlaps w v

abbrev pub OverlapFails : Type 0
OverlapFails = IsStale Overlaps
