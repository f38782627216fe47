-- What holds of an id in each reached state. It is kept as one record, in three parts: of the landings, of each session, and of each
-- two sessions.
--
-- The heart of it, in four sentences. Claims that may still land have one base. Beside a verified session that is not over no claim may
-- land. Above the claim of a verified session that is not over it alone has written. And no two landings spell the same. The first
-- three keep each other: the waits are what makes a session that decides, or verifies, find the others gone.
use Rattle.sl_ids.specs.State.{Claimed, Content, Free, Landing, Live, Session, SessionId, State}
use Rattle.sl_ids.specs.Terms.{AreLongEnough, Terms}
use Rattle.std.specs.Prelude.{Bool, List, None, Some, false, true, ℕ, ◌+◌, ◌<◌, ◌≡◌, ◌≤◌, ◌⊎◌}

-- The landings: moments and generations don't fall, and no two spell the same. Without the last a read could not tell a new record from
-- an old one.
pub record LandingsInOrder (now count : ℕ) (land : ℕ → Landing) : Type 0 where
  pub some : 0 < count
  pub past : (k : ℕ) → k < count → (land k).moment ≤ now
  pub rising : (k l : ℕ) → k ≤ l → l < count → (land k).moment ≤ (land l).moment
  pub generations : (k l : ℕ) → k < l → l < count → (x y : Content) → (land k).shown ≡ Some x → (land l).shown ≡ Some y
      → x.generation ≤ y.generation
  pub distinct : (k l : ℕ) → k < l → l < count → (x : Content) → (land k).shown ≡ Some x → (land l).shown ≡ Some x → ⊥
  -- nobody wrote the record at first, if it is free and was never held
  pub nobody : (k : ℕ) → k < count → (land k).writer ≡ None
      → (k ≡ 0) × ((x : Content) → (land k).shown ≡ Some x → (x.kind ≡ Free) × (x.generation ≡ 0))

-- What a session that has decided saw, and when.
pub record HasBase (r : Terms) (now count : ℕ) (land : ℕ → Landing) (base generation registered : ℕ) : Type 0 where
  pub within : base < count
  pub content : Content
  pub spelled : (land base).shown ≡ Some content
  pub next : generation ≡ content.generation + 1
  pub early : registered ≤ now
  pub later : (k : ℕ) → base < k → k < count → registered ≤ (land k).moment
  pub watched : (content.kind ≡ Free) ⊎ ((land base).moment + (r.hold + r.gone) < now + 2)

-- Where its claim stands; for a session that was joined at first, its record.
pub record HasClaim (count : ℕ) (land : ℕ → Landing) (n : SessionId) (claim own : ℕ) : Type 0 where
  pub within : claim < count
  pub writer : (land claim).writer ≡ Some n
  pub content : Content
  pub spelled : (land claim).shown ≡ Some content
  pub generation : content.generation ≡ own

-- What a session writes.
pub record IsOwnRecord (name : List ℕ) (own most : ℕ) (verified over : Bool) (x : Content) : Type 0 where
  pub its : x.host ≡ Some name
  pub generation : x.generation ≡ own
  pub seq : x.seq ≤ most
  pub live : x.kind ≡ Live → verified ≡ true
  pub free : x.kind ≡ Free → (verified ≡ true) × (over ≡ true)

-- Since when a session that acts may act, by the newest landing.
pub record IsRenewed (r : Terms) (now count : ℕ) (land : ℕ → Landing) (renewed : ℕ) : Type 0 where
  pub before : renewed ≤ now
  pub soon : (k : ℕ) → k + 1 ≡ count → renewed < (land k).moment + r.hold
  pub live : (k : ℕ) → k + 1 ≡ count → (x : Content) → (land k).shown ≡ Some x → x.kind ≡ Live → renewed ≤ (land k).moment

-- One session, with its name n.
pub record SessionInvariant (r : Terms) (now count : ℕ) (land : ℕ → Landing) (n : SessionId) (s : Session) : Type 0 where
  pub waits : s.pending ≡ true → (s.decided ≡ true) × (s.landed ≡ false) × (s.verified ≡ false) × (s.over ≡ false)
  pub decided : s.decided ≡ true → (s.begun ≡ true) × HasBase r now count land s.base s.generation s.registered
  pub unwritten : (s.begun ≡ false) ⊎ (s.pending ≡ true) → (k : ℕ) → k < count → (land k).writer ≡ Some n → ⊥
  pub wrote : (k : ℕ) → k < count → (land k).writer ≡ Some n → (x : Content) → (land k).shown ≡ Some x
      → IsOwnRecord s.name s.generation s.seq s.verified s.over x
  -- above its base stand claims of its own generation
  pub base : s.pending ≡ true → (k : ℕ) → s.base < k → k < count → (x : Content) → (land k).shown ≡ Some x
      → (x.generation ≡ s.generation) × (x.kind ≡ Claimed)
  pub landed : s.landed ≡ true → (s.decided ≡ true) × (s.base < s.claim) × HasClaim count land n s.claim s.generation
      × ((x : Content) → (land s.claim).shown ≡ Some x → x.kind ≡ Claimed)
  pub verified : s.verified ≡ true → (s.begun ≡ true) × HasClaim count land n s.claim s.generation × (0 < s.generation)
      × (((s.decided ≡ true) × (s.landed ≡ true)) ⊎ ((s.decided ≡ false) × (s.claim ≡ 0) × (s.base ≡ 0)))
  pub joined : s.joined ≡ true → s.verified ≡ true
  -- above its claim it alone writes
  pub owner : s.verified ≡ true → s.over ≡ false → (k : ℕ) → s.claim < k → k < count → (land k).writer ≡ Some n
  pub renewed : s.verified ≡ true → s.over ≡ false → IsRenewed r now count land s.renewed

-- Two sessions, with their names m and n.
pub record PairInvariant (r : Terms) (count : ℕ) (land : ℕ → Landing) (m : SessionId) (s : Session) (n : SessionId) (t : Session) : Type 0 where
  -- claims that may still land have one base
  pub one_base : s.pending ≡ true → t.pending ≡ true → s.base ≡ t.base
  -- beside one that is verified and not over no claim may land
  pub sole : s.verified ≡ true → s.over ≡ false → t.pending ≡ true → ⊥
  -- a claim on a base below a verified claim does not come above it
  pub behind : s.verified ≡ true → t.decided ≡ true → t.base < s.claim → (t.pending ≡ true → ⊥) × (t.landed ≡ true → t.claim < s.claim)
  -- of one daemon one session at a time is not over
  pub solo : s.name ≡ t.name → s.begun ≡ true → t.begun ≡ true → (s.over ≡ true) ⊎ (t.over ≡ true)
  -- .. and what the others wrote stands at or below its base
  pub alone : s.name ≡ t.name → s.begun ≡ true → s.over ≡ false → (k : ℕ) → k < count → (land k).writer ≡ Some n → k ≤ s.base

-- All of it.
pub record Invariant (r : Terms) (w : State) : Type 0 where
  pub terms : AreLongEnough r
  pub landings : LandingsInOrder w.now w.count w.landing
  pub one : (s : SessionId) → SessionInvariant r w.now w.count w.landing s (w.session s)
  pub two : (s t : SessionId) → (s ≡ t → ⊥) → PairInvariant r w.count w.landing s (w.session s) t (w.session t)
