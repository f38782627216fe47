-- What may happen to an id. Each step is a relation of the state before and the state after, and says what the writer, the disk or the
-- clock must keep to. The world takes none, one or several of these steps in each of its own.
use Rattle.sl_ids.specs.State.{Claimed, Content, Free, IsLast, Live, Session, SessionId, State, moment, shown}
use Rattle.sl_ids.specs.Terms.{Terms}
use Rattle.std.specs.Prelude.{List, None, Option, Some, false, true, ℕ, ◌+◌, ◌<◌, ◌≡◌, ◌≤◌}

-- ---- what a step changes

-- Nothing lands.
pub record SameLandings (w v : State) : Type 0 where
  pub count : v.count ≡ w.count
  pub old : (k : ℕ) → k < w.count → v.landing k ≡ w.landing k

-- One write of the session s lands, whole or torn.
pub record Lands (w v : State) (s : SessionId) (spelled : Option Content) : Type 0 where
  pub count : v.count ≡ w.count + 1
  pub old : (k : ℕ) → k < w.count → v.landing k ≡ w.landing k
  pub new : v.landing w.count ≡ record { moment = w.now; writer = Some s; shown = spelled }

-- The session s alone changes, and no time passes.
pub record ChangesOnly (w v : State) (s : SessionId) (next : Session) : Type 0 where
  pub now : v.now ≡ w.now
  pub self : v.session s ≡ next
  pub others : (j : SessionId) → (j ≡ s → ⊥) → v.session j ≡ w.session j

-- ---- time

-- Time passes. (What else the world does to no session and no landing of the id is no step.)
pub record Pass (w v : State) : Type 0 where
  pub later : w.now ≤ v.now
  pub same : SameLandings w v
  pub sessions : (j : SessionId) → v.session j ≡ w.session j

-- ---- the claim

-- Why an id whose sector shows this may be claimed: it is free; or the first read of the watch showed it too, long enough ago.
pub data IsWatched (r : Terms) (w : State) (content : Content) : Type 0 where
  Was_free : content.kind ≡ Free → IsWatched r w content
  Was_unchanged : (first sampled : ℕ) → first < w.count → shown w first ≡ Some content → moment w first ≤ sampled
      → sampled + r.watch < w.now
      → IsWatched r w content

abbrev pub after_deciding : ℕ → List ℕ → ℕ → ℕ → Session → Session
after_deciding last name generation registered s =
    record s { begun = true; decided = true; pending = true; base = last; name = name; generation = generation; registered = registered }

-- The session s samples its deciding read, which shows what it watched: from now on its claim may land.
pub record Decide (r : Terms) (w v : State) (s : SessionId) : Type 0 where
  -- a session has one deciding read
  pub first : (w.session s).begun ≡ false
  -- its joining was not refused
  pub not_over : (w.session s).over ≡ false
  -- the read shows the newest landing, which spells a record
  pub last : ℕ
  pub is_last : IsLast w last
  pub content : Content
  pub spelled : shown w last ≡ Some content
  -- else it could take the id from a session that may still act
  pub watched : IsWatched r w content
  -- its connection was registered in the entry that submitted the read
  pub registered : ℕ
  pub before : registered ≤ w.now
  pub name : List ℕ
  -- the sessions of one daemon follow one another: else two of them could write the same bytes
  pub alone : (j : SessionId) → (j ≡ s → ⊥) → (w.session j).name ≡ name → (w.session j).begun ≡ true → (w.session j).over ≡ true
  pub same : SameLandings w v
  pub changes : ChangesOnly w v s (after_deciding last name (content.generation + 1) registered (w.session s))

abbrev pub after_losing : Session → Session
after_losing s = record s { pending = false }

-- The claim of s will not land: its joining was refused, or its daemon or machine ended, before the claim was submitted; or the claim
-- was dropped.
pub record Lose (w v : State) (s : SessionId) : Type 0 where
  pub same : SameLandings w v
  pub changes : ChangesOnly w v s (after_losing (w.session s))

-- The claim of s is torn.
pub record TearClaim (w v : State) (s : SessionId) : Type 0 where
  pub pending : (w.session s).pending ≡ true
  pub lands : Lands w v s None
  pub changes : ChangesOnly w v s (after_losing (w.session s))

abbrev pub after_claim : ℕ → ℕ → Session → Session
after_claim index seq s = record s { pending = false; landed = true; claim = index; seq = seq }

-- The claim of s lands whole, with its daemon's name and its generation, which is one above that of its base.
pub record LandClaim (w v : State) (s : SessionId) : Type 0 where
  pub pending : (w.session s).pending ≡ true
  -- whatever it is
  pub seq : ℕ
  pub lands : Lands w v s (Some (record { host = Some (w.session s).name; generation = (w.session s).generation; seq = seq; kind = Claimed }))
  pub changes : ChangesOnly w v s (after_claim w.count seq (w.session s))

abbrev pub after_verifying : ℕ → Session → Session
after_verifying registered s = record s { verified = true; renewed = registered }

-- The session s samples its verify read, and it shows what its claim spells.
pub record Verify (r : Terms) (w v : State) (s : SessionId) : Type 0 where
  -- the claim was answered ok, so it has landed whole
  pub landed : (w.session s).landed ≡ true
  pub not_over : (w.session s).over ≡ false
  -- the read shows the newest landing, and it spells what the claim does
  pub last : ℕ
  pub is_last : IsLast w last
  pub content : Content
  pub spelled : shown w last ≡ Some content
  pub own : shown w (w.session s).claim ≡ Some content
  -- else another's claim on the record that this one replaced could still land
  pub waited : moment w (w.session s).claim + r.wait < w.now
  -- its connection was registered again in the entry that submitted the read
  pub registered : ℕ
  pub before : registered ≤ w.now
  -- else a watcher of the claim could already have decided to take the id
  pub soon : registered < moment w (w.session s).claim + r.hold
  pub same : SameLandings w v
  pub changes : ChangesOnly w v s (after_verifying registered (w.session s))

-- ---- renewals, the free, the end

-- What a verified session writes: a renewal or its free, whole with its seq, or torn.
pub data Write : Type 0 where
  Torn : Write
  Renewal : (seq : ℕ) → Write
  Leaving : (seq : ℕ) → Write

abbrev pub spelled_by : List ℕ → ℕ → Write → Option Content
spelled_by name generation Torn = None
spelled_by name generation (Renewal seq) = Some (record { host = Some name; generation = generation; seq = seq; kind = Live })
spelled_by name generation (Leaving seq) = Some (record { host = Some name; generation = generation; seq = seq; kind = Free })

-- Its free makes a session over.
abbrev pub after_writing : Write → Session → Session
after_writing Torn s = s
after_writing (Renewal seq) s = record s { seq = seq }
after_writing (Leaving seq) s = record s { seq = seq; over = true }

-- Its seqs rise: else two renewals of equal bytes would look like silence.
abbrev pub Rises : ℕ → Write → Type 0
Rises seq Torn = Unit {0}
Rises seq (Renewal next) = seq < next
Rises seq (Leaving next) = seq < next

-- A renewal or the free of s lands, whole or torn. Only a verified session writes one, and while a write is in flight its session is
-- not over.
pub record LandOwn (w v : State) (s : SessionId) : Type 0 where
  pub verified : (w.session s).verified ≡ true
  pub not_over : (w.session s).over ≡ false
  pub write : Write
  pub rises : Rises (w.session s).seq write
  pub lands : Lands w v s (spelled_by (w.session s).name (w.session s).generation write)
  pub changes : ChangesOnly w v s (after_writing write (w.session s))

abbrev pub after_renewal : ℕ → Session → Session
after_renewal submitted s = record s { joined = true; renewed = submitted }

-- A renewal of s is answered ok: its landing is the landing `index`, and it counts from its submission, which was not after that. The
-- first one joins.
pub record Renew (w v : State) (s : SessionId) : Type 0 where
  pub verified : (w.session s).verified ≡ true
  pub not_over : (w.session s).over ≡ false
  pub index : ℕ
  pub above : (w.session s).claim < index
  pub within : index < w.count
  pub submitted : ℕ
  -- else a landing that others see standing still would count for longer than they think
  pub before : submitted ≤ moment w index
  pub same : SameLandings w v
  pub changes : ChangesOnly w v s (after_renewal submitted (w.session s))

abbrev pub after_end : Session → Session
after_end s = record s { over = true; pending = false }

-- The session s is over: its joining was refused, it has ended, or its machine was reset more than `land` ago, and no write of it is in
-- flight. Nothing is asked here: that a session is not over while it may act is what the bounds mean.
pub record End (w v : State) (s : SessionId) : Type 0 where
  pub same : SameLandings w v
  pub changes : ChangesOnly w v s (after_end (w.session s))

-- ---- all of them

pub data Step (r : Terms) (w v : State) : Type 0 where
  Passes : Pass w v → Step r w v
  Decides : (s : SessionId) → Decide r w v s → Step r w v
  Loses : (s : SessionId) → Lose w v s → Step r w v
  Tears_claim : (s : SessionId) → TearClaim w v s → Step r w v
  Lands_claim : (s : SessionId) → LandClaim w v s → Step r w v
  Verifies : (s : SessionId) → Verify r w v s → Step r w v
  Lands_own : (s : SessionId) → LandOwn w v s → Step r w v
  Renews : (s : SessionId) → Renew w v s → Step r w v
  Ends : (s : SessionId) → End w v s → Step r w v
