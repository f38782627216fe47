-- One id of one lockspace, as far as its safety goes: what landed in its delta sector, and where each session of the id stands.
--
-- The landings of a sector are numbered from 0, for what stood there at first. Nothing is said of the disk but this list: a read shows
-- the newest landing at the moment at which it is sampled, and a torn write leaves a landing that spells nothing. Nothing is said of
-- calls, entries and connections but the flags of a session: which of them rise, and when, is what `Steps` asks of the world.
use Rattle.std.specs.Prelude.{Bool, List, Option, false, ℕ, ◌+◌, ◌≡◌}

-- A session by its machine, the place of its daemon among the machine's, and its own among the daemon's. It is the name that a run has
-- for it: so no sessions need be numbered.
pub record SessionId : Type 0 where
  pub machine : ℕ
  pub daemon : ℕ
  pub number : ℕ

-- Whether a delta record is free, a claim, or that of a session that renews it.
pub data Kind : Type 0 where
  Free : Kind
  Claimed : Kind
  Live : Kind

-- What a delta record says that matters here. Sectors of equal bytes say the same, since decoding is a function.
pub record Content : Type 0 where
  -- the name of the daemon that wrote it; a record that was never held has none
  pub host : Option (List ℕ)
  pub generation : ℕ
  pub seq : ℕ
  pub kind : Kind

-- A landing: its moment; the session that wrote it, or nobody for a free record of before the run; and what it spells, or nothing
-- where it is torn.
pub record Landing : Type 0 where
  pub moment : ℕ
  pub writer : Option SessionId
  pub shown : Option Content

-- Where a session of the id stands.
pub record Session : Type 0 where
  -- it has sampled its deciding read, or was joined at first
  pub begun : Bool
  -- it has sampled its deciding read
  pub decided : Bool
  -- .. and its claim may still land: its joining is not refused, its daemon runs and the claim isn't submitted; or the claim is in flight
  pub pending : Bool
  -- its claim has landed whole
  pub landed : Bool
  -- its verify read has shown its own claim, or it was joined at first
  pub verified : Bool
  -- its first renewal was answered ok, or it was joined at first
  pub joined : Bool
  -- its free has landed; or its joining was refused, it has ended or its machine was reset more than `land` ago, and no write of it is in
  -- flight
  pub over : Bool
  -- the landing that its deciding read showed, and the landing of its claim; 0 and 0 where it was joined at first
  pub base : ℕ
  pub claim : ℕ
  -- its daemon's name, and its generation
  pub name : List ℕ
  pub generation : ℕ
  -- the greatest seq that has landed for it
  pub seq : ℕ
  -- the moment of the registering before its claim
  pub registered : ℕ
  -- once it is verified, the moment of the point from which its connection's expiry counts: the registering before its verify read,
  -- and once it has joined the submission of its last renewal that was answered ok
  pub renewed : ℕ

-- The id.
pub record State : Type 0 where
  -- the moment
  pub now : ℕ
  -- how many landings there are, and each of them: the history of one place of one disk
  pub count : ℕ
  pub landing : ℕ → Landing
  -- each session of the id; any other name's is one that has done nothing
  pub session : SessionId → Session

-- What the landing k spells, and when it came.
abbrev pub shown : State → ℕ → Option Content
shown w k = (w.landing k).shown

abbrev pub moment : State → ℕ → ℕ
moment w k = (w.landing k).moment

-- The newest landing.
abbrev pub IsLast : State → ℕ → Type 0
IsLast w k = k + 1 ≡ w.count

-- A session that has done nothing yet.
pub record IsNew (s : Session) : Type 0 where
  pub begun : s.begun ≡ false
  pub decided : s.decided ≡ false
  pub pending : s.pending ≡ false
  pub landed : s.landed ≡ false
  pub verified : s.verified ≡ false
  pub joined : s.joined ≡ false
