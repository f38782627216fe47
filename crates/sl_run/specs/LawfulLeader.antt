-- How a session may write the leader of a resource.
use Rattle.sl_run.specs.LawfulArea.{HasVerified, is_area_work}
use Rattle.sl_run.specs.LawForms.{EachCall}
use Rattle.sl_trace.specs.Ballots.{owner_of, same_owner}
use Rattle.sl_trace.specs.Leases.{Leader_freed, Leader_taken, ended_ballots, freed, holdings_on, is_at, is_on, leader_written, lease_calls, spot_of_call}
use Rattle.sl_sector.specs.declared.sector.Leader.{Leader}
use Rattle.sl_trace.specs.Sessions.{me, open_calls_of}
use Rattle.sl_trace.specs.declared.session.Session.{Session}
use Rattle.sl_trace.specs.Traces.{Setting, Submitted, Trace, is_shared, is_write}
use Rattle.sl_trace.specs.declared.effects.Entry.{Entry}
use Rattle.sl_trace.specs.declared.effects.Spot.{Spot}
use Rattle.std.specs.List.{list_any}
use Rattle.std.specs.Prelude.{Bool, Contains, IsTrue, List, MatchBool, Some, false, filter, not, [], ℕ, ◌&&◌, ◌<◌, ◌==◌, ◌≡◌}

-- A ballot of n that ended with the session.
abbrev pub HasWon : Setting → Trace → Session → Spot → ℕ → Type 0
HasWon st es s at n = Contains (ended_ballots st.layout (lease_calls st es s at)) (n, me es s)

-- The session holds the resource exclusive under n.
abbrev pub holds_under : Trace → Session → Spot → ℕ → Bool
holds_under es s at n = list_any (λ g. not (is_shared g.mode) && g.lver == n) (holdings_on es s at)

-- The session's unanswered writes on the area, delta records left out.
abbrev pub open_writes_on : Setting → Trace → Session → Spot → List Submitted
open_writes_on st es s at = filter (λ d. is_area_work d.call.purpose && (is_write d.call.op && is_on st.layout at d.call)) (open_calls_of es s)

-- The leader written as held.
pub record LawfulTake (st : Setting) (es : Trace) (s : Session) (at : Spot) (c : Submitted) (l : Leader) : Type 0 where
  pub step : IsTrue (is_at Leader_taken c)
  -- no other may end a ballot of the instance with itself
  pub won : HasWon st es s at l.lver
  -- whoever saw the free may have begun the next
  pub not_freed : freed (lease_calls st es s at) < l.lver

-- The leader written as free.
pub record LawfulFreeLeader (st : Setting) (es : Trace) (s : Session) (at : Spot) (c : Submitted) (l : Leader) : Type 0 where
  -- under another purpose it would not count among the lease's frees
  pub step : IsTrue (is_at Leader_freed c)
  pub won : HasWon st es s at l.lver
  -- whoever sees the free takes the resource (none is granted under it later, either: that is the law of grants)
  pub not_held : holds_under es s at l.lver ≡ false
  -- a value or a block could land after the next holder's
  pub alone : open_writes_on st es s at ≡ []

-- A leader that is written names the session, its lockspace, the resource that it has verified, and the run's hosts.
pub record LawfulLeaderWrite (st : Setting) (es : Trace) (s : Session) (at : Spot) (c : Submitted) (l : Leader) : Type 0 where
  -- a leader in another's name would free or take what is the other's
  pub own : IsTrue (same_owner (owner_of l) (me es s))
  -- other names would bar the area for ever
  pub names : (l.lockspace ≡ s.lockspace) × (l.num_hosts ≡ st.layout.hosts) × HasVerified st es s at l.resource
  pub ballot : MatchBool l.held (LawfulTake st es s at c l) (LawfulFreeLeader st es s at c l)

-- Lawful leader writing.
pub record LawfulLeader (st : Setting) (past : Trace) (e : Entry) : Type 0 where
  pub writes : EachCall st (λ es s c. (l : Leader) → leader_written c ≡ Some l → LawfulLeaderWrite st es s (spot_of_call st.layout c) c l) past e
