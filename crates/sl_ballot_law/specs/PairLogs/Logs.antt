-- What is told of a host's pair by the steps of a run, and what is asked of it.
--
-- A write is named by the step at which it was submitted, and a session by the step at which it joined: two sessions of a host join at two
-- steps. A session that was joined at first has step 0.
use Rattle.sl_ballot_law.specs.Pairs.State.{Stored, is_first, later}
use Rattle.std.specs.Prelude.{Bool, None, Option, Some, false, if◌then◌else◌, suc, true, zero, ℕ, ◌+◌, ◌<◌, ◌≡◌, ◌≤◌, ◌⊎◌}

-- A read that shows a session the pair of its own host: when the read was submitted, when it sampled the first sector and the second, and
-- the turn that it shows.
pub record Look : Type 0 where
  pub begun : ℕ
  pub first : ℕ
  pub second : ℕ
  pub turn : ℕ

pub record Log : Type 0 where
  -- a block is submitted at this step; its turn, and its session
  pub writes : ℕ → Bool
  pub turn : ℕ → ℕ
  pub session : ℕ → ℕ
  -- of a write: the step at which it landed, if it did, and whether whole
  pub landed : ℕ → Option ℕ
  pub whole : ℕ → Bool
  -- the step at which it was answered, if it was, and whether ok
  pub answered : ℕ → Option ℕ
  pub done : ℕ → Bool
  -- a session of the host joins at this step
  pub joins : ℕ → Bool
  -- the session takes the answer of such a read at this step
  pub looks : ℕ → ℕ → Option Look

-- The session that joined last by a step.
abbrev pub current_session : Log → ℕ → ℕ
current_session g zero = 0
current_session g (suc t) = if g.joins (suc t) then suc t else current_session g t

-- ---- what stands in a sector

-- A write that goes to this sector of the pair.
pub record WritesTo (g : Log) (first : Bool) (e : ℕ) : Type 0 where
  pub is : g.writes e ≡ true
  pub side : is_first (g.turn e) ≡ first

-- None of them lands after step s until step t.
abbrev pub NoLanding : Log → Bool → ℕ → ℕ → Type 0
NoLanding g first s t = (e u : ℕ) → WritesTo g first e → g.landed e ≡ Some u → s < u → u ≤ t → ⊥

-- The host's first block in this sector.
abbrev pub stored_at_first : Bool → Stored
stored_at_first first = record { turn = if first then 1 else 2; write = 0 }

-- What a write leaves: its block, or nothing where it is torn.
abbrev pub left_by : Log → ℕ → Option Stored
left_by g e = if g.whole e then Some (record { turn = g.turn e; write = e }) else None

-- What this sector spells after step t: what the newest landing left, or what stood there at first.
pub data SectorAt (g : Log) (first : Bool) (t : ℕ) (o : Option Stored) : Type 0 where
  At_first : NoLanding g first 0 t → o ≡ Some (stored_at_first first) → SectorAt g first t o
  Left : (e s : ℕ) → WritesTo g first e → g.landed e ≡ Some s → s ≤ t → NoLanding g first s t → o ≡ left_by g e → SectorAt g first t o

-- ---- what a session was shown

-- An answer at this step shows the session this turn: that of a read, or an ok of its write.
pub data Shows (g : Log) (session at turn : ℕ) : Type 0 where
  By_look : (k : Look) → g.looks session at ≡ Some k → k.turn ≡ turn → Shows g session at turn
  By_ok : (e : ℕ) → g.writes e ≡ true → g.session e ≡ session → g.done e ≡ true → g.answered e ≡ Some at → g.turn e ≡ turn → Shows g session at turn

-- The turn that it was shown last by step t.
pub record IsKnown (g : Log) (session t turn : ℕ) : Type 0 where
  pub at : ℕ
  pub by : at ≤ t
  pub shows : Shows g session at turn
  pub newest : (b u : ℕ) → Shows g session b u → at < b → b ≤ t → ⊥

-- What a read shows of the pair of the session's host: of the two sectors as they stood when they were sampled the block of greater turn.
pub record LookShows (g : Log) (k : Look) : Type 0 where
  pub front : Option Stored
  pub back : Option Stored
  pub first : SectorAt g true k.first front
  pub second : SectorAt g false k.second back
  pub block : Stored
  pub is : later front back ≡ Some block
  pub turn : block.turn ≡ k.turn

-- ---- what is asked

pub record IsLog (g : Log) : Type 0 where
  -- steps are numbered from 1
  pub positive : (e : ℕ) → g.writes e ≡ true → 0 < e
  -- a session writes after it joined
  pub joined : (e : ℕ) → g.writes e ≡ true → (g.session e ≡ 0) ⊎ (g.joins (g.session e) ≡ true)
  pub after_join : (e : ℕ) → g.writes e ≡ true → g.session e ≤ e
  -- one write at a time: of two the first was answered before the second was submitted, or its session joined before that of the second
  pub follows : (e n : ℕ) → g.writes e ≡ true → g.writes n ≡ true → e < n
      → ((g.session e ≡ g.session n) × ((a : ℕ) × (g.answered e ≡ Some a) × (a ≤ n))) ⊎ (g.session e < g.session n)
  -- where a session joins, the earlier ones are over: they submit nothing, nothing of them lands, and no write of theirs is answered ok
  pub silent : (e j : ℕ) → g.writes e ≡ true → g.joins j ≡ true → g.session e < j → e < j
  pub gone : (e j s : ℕ) → g.writes e ≡ true → g.joins j ≡ true → g.session e < j → g.landed e ≡ Some s → s < j
  pub settled : (e j a : ℕ) → g.writes e ≡ true → g.joins j ≡ true → g.session e < j → g.done e ≡ true → g.answered e ≡ Some a → a ≤ j
  -- a write lands after it was submitted, and before it is answered; it has landed whole when it is answered ok
  pub lands_later : (e s : ℕ) → g.writes e ≡ true → g.landed e ≡ Some s → e < s
  pub answers_later : (e a : ℕ) → g.writes e ≡ true → g.answered e ≡ Some a → e < a
  pub lands_before : (e s a : ℕ) → g.writes e ≡ true → g.landed e ≡ Some s → g.answered e ≡ Some a → s < a
  pub done_landed : (e a : ℕ) → g.writes e ≡ true → g.done e ≡ true → g.answered e ≡ Some a → ((s : ℕ) × (g.landed e ≡ Some s)) × (g.whole e ≡ true)
  -- a session reads after it joined, and samples between the submission and the answer; it writes nothing meanwhile, and all that it wrote
  -- before was answered
  pub looks_after : (j t : ℕ) (k : Look) → g.looks j t ≡ Some k → j ≤ k.begun
  pub sampled : (j t : ℕ) (k : Look) → g.looks j t ≡ Some k → (k.begun < k.first) × (k.first < t) × (k.begun < k.second) × (k.second < t)
  pub quiet : (j t : ℕ) (k : Look) → g.looks j t ≡ Some k → (e : ℕ) → g.writes e ≡ true → g.session e ≡ j
      → ((a : ℕ) × (g.answered e ≡ Some a) × (a ≤ k.begun)) ⊎ (t ≤ e)
  pub shows : (j t : ℕ) (k : Look) → g.looks j t ≡ Some k → LookShows g k
  -- a block has the turn above the one that its session was shown last
  pub next : (e : ℕ) → g.writes e ≡ true → (shown : ℕ) × IsKnown g (g.session e) e shown × (g.turn e ≡ shown + 1)
