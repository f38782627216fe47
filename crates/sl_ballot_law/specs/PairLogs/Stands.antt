-- How a state stands for what a log has told.
use Rattle.sl_ballot_law.specs.PairLogs.Logs.{IsKnown, Log, SectorAt, Shows, current_session}
use Rattle.sl_ballot_law.specs.Pairs.State.{State}
use Rattle.std.specs.Prelude.{Option, Some, false, true, ℕ, ◌<◌, ◌≡◌, ◌≤◌, ◌⊎◌}

-- This write may still land: its session is the current one; it has not landed, and was not answered.
pub record IsFlying (g : Log) (a s e : ℕ) : Type 0 where
  pub is : g.writes e ≡ true
  pub mine : g.session e ≡ current_session g s
  pub unlanded : (u : ℕ) → g.landed e ≡ Some u → u ≤ a → ⊥
  pub unanswered : (u : ℕ) → g.answered e ≡ Some u → u ≤ a → ⊥

pub record IsWaiting (g : Log) (a s e : ℕ) : Type 0 where
  pub is : g.writes e ≡ true
  pub mine : g.session e ≡ current_session g s
  pub unanswered : (u : ℕ) → g.answered e ≡ Some u → u ≤ a → ⊥

-- A later session has joined.
pub record IsLeft (g : Log) (a e : ℕ) : Type 0 where
  pub join : ℕ
  pub joins : g.joins join ≡ true
  pub later : g.session e < join
  pub by : join ≤ a

abbrev pub HasComeBy : Option ℕ → ℕ → Type 0
HasComeBy o a = (u : ℕ) × (o ≡ Some u) × (u ≤ a)

-- All of it: landings and answers by step a, submissions and joins by step s.
pub record Stands (g : Log) (a s : ℕ) (w : State) : Type 0 where
  -- the newest write
  pub low : w.last ≤ s
  pub is_write : (w.last ≡ 0) ⊎ (g.writes w.last ≡ true)
  pub newest : (e : ℕ) → g.writes e ≡ true → e ≤ s → e ≤ w.last
  pub turn : g.writes w.last ≡ true → w.turn ≡ g.turn w.last
  -- what is in flight, and what is waited for
  pub flying : w.flying ≡ true → IsFlying g a s w.last
  pub unflying : w.flying ≡ false → g.writes w.last ≡ true → HasComeBy (g.landed w.last) a ⊎ (HasComeBy (g.answered w.last) a ⊎ IsLeft g a w.last)
  pub waiting : w.waits ≡ true → IsWaiting g a s w.last
  pub unwaiting : w.waits ≡ false → g.writes w.last ≡ true → HasComeBy (g.answered w.last) a ⊎ IsLeft g a w.last
  pub landed : g.writes w.last ≡ true → HasComeBy (g.landed w.last) a → g.whole w.last ≡ true → w.landed ≡ true
  -- what the current session was shown
  pub shown : w.shown ≡ true → IsKnown g (current_session g s) a w.known
  pub unshown : w.shown ≡ false → (b turn : ℕ) → Shows g (current_session g s) b turn → b ≤ a → ⊥
  -- the sectors
  pub front : SectorAt g true a w.front
  pub back : SectorAt g false a w.back
  -- what was answered ok
  pub ok : (e u : ℕ) → g.writes e ≡ true → g.done e ≡ true → g.answered e ≡ Some u → u ≤ a → e ≤ w.ok
