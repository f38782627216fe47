-- What the argument over ballots may use of an id, and nothing else: of two joined sessions one is over; over is final; evidence means
-- over; a generation names one session; at a join all earlier ones are over.
use Rattle.sl_ids.specs.Runs.{Later, Reached}
use Rattle.sl_ids.specs.State.{Content, Free, IsLast, Live, SessionId, State, shown}
use Rattle.sl_ids.specs.Steps.{Renew}
use Rattle.sl_ids.specs.Terms.{AreLongEnough, Terms}
use Rattle.std.specs.Prelude.{Some, false, true, ℕ, ◌+◌, ◌<◌, ◌≡◌, ◌≤◌, ◌⊎◌}

abbrev pub HasJoined : State → SessionId → Type 0
HasJoined w s = (w.session s).joined ≡ true

abbrev pub IsOver : State → SessionId → Type 0
IsOver w s = (w.session s).over ≡ true

-- Of two joined sessions of an id one is over.
abbrev pub OneIsOver : Type 0
OneIsOver = (r : Terms) (w : State) → AreLongEnough r → Reached r w → (s t : SessionId) → (s ≡ t → ⊥) → HasJoined w s → HasJoined w t
    → IsOver w s ⊎ IsOver w t

-- Over is final: nothing of the session lands any more, and it joins no more.
abbrev pub OverIsFinal : Type 0
OverIsFinal = (r : Terms) (w v : State) → AreLongEnough r → Reached r w → Later r w v → (s : SessionId) → IsOver w s
    → IsOver v s × (HasJoined v s → HasJoined w s) × ((k : ℕ) → w.count ≤ k → k < v.count → (v.landing k).writer ≡ Some s → ⊥)

-- What shows, up to this state, that a generation of the id is over. The first three are what a read of the sector showed; the last is
-- what a session knows of its own id.
pub data Evidence (r : Terms) (w : State) (generation : ℕ) : Type 0 where
  -- a read shows a greater generation
  Newer : (last : ℕ) (content : Content) → IsLast w last → shown w last ≡ Some content → generation < content.generation
      → Evidence r w generation
  -- a read shows the generation free
  Freed : (last : ℕ) (content : Content) → IsLast w last → shown w last ≡ Some content → content.kind ≡ Free
      → content.generation ≡ generation
      → Evidence r w generation
  -- a read shows a live record of the generation, and a read long enough before showed the same
  Silent : (u : State) (first last : ℕ) (content : Content) → Reached r u → Later r u w → IsLast u first → shown u first ≡ Some content
      → IsLast w last → shown w last ≡ Some content → content.kind ≡ Live → content.generation ≡ generation → u.now + r.silence < w.now
      → Evidence r w generation
  -- a session of the id itself has verified, with a greater generation
  Own : (o : SessionId) → (w.session o).verified ≡ true → generation < (w.session o).generation → Evidence r w generation

-- Evidence means over, and no session joins with that generation later.
abbrev pub EvidenceMeansOver : Type 0
EvidenceMeansOver = (r : Terms) (w v : State) (generation : ℕ) → AreLongEnough r → Reached r w → Evidence r w generation → Later r w v
    → (s : SessionId) → HasJoined v s → (v.session s).generation ≡ generation → IsOver w s × HasJoined w s

-- A generation names one joined session.
abbrev pub GenerationNamesOne : Type 0
GenerationNamesOne = (r : Terms) (w : State) → AreLongEnough r → Reached r w → (s t : SessionId) → HasJoined w s → HasJoined w t
    → (w.session s).generation ≡ (w.session t).generation → s ≡ t

-- Generations rise in the order of joining.
abbrev pub GenerationsRise : Type 0
GenerationsRise = (r : Terms) (w v : State) → AreLongEnough r → Reached r w → Later r w v → (s t : SessionId) → HasJoined w s
    → (w.session t).joined ≡ false → HasJoined v t → (w.session s).generation < (v.session t).generation

-- At a join all that joined before are over.
abbrev pub EarlierAreOver : Type 0
EarlierAreOver = (r : Terms) (w v : State) (t : SessionId) → AreLongEnough r → Reached r w → Renew w v t → (w.session t).joined ≡ false
    → (s : SessionId) → HasJoined w s → IsOver w s

-- A joined session's sector is overwritten by nobody else until it is over: all landings above its claim are its own.
abbrev pub NobodyElseWrites : Type 0
NobodyElseWrites = (r : Terms) (w : State) → AreLongEnough r → Reached r w → (s : SessionId) → HasJoined w s → (w.session s).over ≡ false
    → (k : ℕ) → (w.session s).claim < k → k < w.count → (w.landing k).writer ≡ Some s
