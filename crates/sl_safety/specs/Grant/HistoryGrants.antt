-- Grants of a run, as the history of their resource has them.
use Rattle.sl_safety.specs.Ballot.Endings.{IsEntryAt}
use Rattle.sl_ballot_law.specs.History.{History}
use Rattle.sl_ballot_law.specs.Grantings.Holdings.{ExclusiveGrant, IsGrantedExclusive, IsKept, IsSharedTo, SharedGrant}
use Rattle.sl_trace.specs.Leases.{has_shared_on, holdings_on}
use Rattle.sl_safety.specs.Resources.HistoryLaws.{history_of_line, spot_of_line}
use Rattle.sl_safety.specs.Resources.SentCalls.{holder_of, is_joined_there}
use Rattle.sl_run.specs.Runs.{Happening}
use Rattle.sl_run.specs.Safety.{Found, IsSession, LawfulRun, SessionId, is_over, trace_of, world_at}
use Rattle.sl_run.specs.Worlds.{Program}
use Rattle.sl_run.specs.declared.header.Header.{Header}
use Rattle.sl_run.specs.declared.header.ResourceLine.{ResourceLine}
use Rattle.sl_trace.specs.Traces.{Trace, is_shared, spot_of_grant}
use Rattle.sl_trace.specs.declared.effects.Entry.{Entry}
use Rattle.sl_trace.specs.declared.effects.Grant.{Grant}
use Rattle.sl_trace.specs.declared.effects.Spot.{Spot}
use Rattle.std.specs.Prelude.{Contains, IsFalse, IsTrue, List, ℕ, ◌≡◌}

-- The resource at a place, for whose lockspace the session has joined.
pub record ResourceAt (p : Program) (h : Header) (xs : List Happening) (i : SessionId) (at : Spot) : Type 0 where
  pub resource : ResourceLine
  pub there : Contains h.resources resource
  pub spot : at ≡ spot_of_line resource
  pub joined : IsTrue (is_joined_there (world_at p h xs) resource.lockspace i)

-- The history of the resource there.
abbrev pub history_there : {p : Program} {h : Header} {xs : List Happening} {i : SessionId} {at : Spot} → ResourceAt p h xs i at → History
history_there {p} {h} {xs} a = history_of_line p h xs a.resource

-- An exclusive grant of an entry, in the history.
pub record GrantedThere (p : Program) (h : Header) (xs : List Happening) (i : SessionId) (step : ℕ) (g : Grant) : Type 0 where
  pub place : ResourceAt p h xs i (spot_of_grant g)
  pub grant : ExclusiveGrant
  pub at : grant.step ≡ step
  pub holder : grant.holder ≡ holder_of (world_at p h xs) i
  pub instance : grant.instance ≡ g.lver
  pub granted : IsGrantedExclusive (history_there place) grant

-- Each exclusive grant of a trace is one of the history.
abbrev pub ExclusiveGrantsAre : Type 0
ExclusiveGrantsAre = (p : Program) (h : Header) (xs : List Happening) → LawfulRun p h xs → (i : SessionId) (f : Found) → IsSession (world_at p h xs) i f
    → (entry : Entry) (past : Trace) (step : ℕ) → IsEntryAt f entry past step → (g : Grant) → Contains entry.effects.grants g
    → g.session ≡ f.session.number → IsFalse (is_shared g.mode) → GrantedThere p h xs i step g

-- An exclusive holding of a session that is not over: its grant stands.
pub record KeptThere (p : Program) (h : Header) (xs : List Happening) (i : SessionId) (g : Grant) : Type 0 where
  pub step : ℕ
  pub there : GrantedThere p h xs i step g
  pub kept : IsKept (history_there there.place) there.grant (world_at p h xs).step

abbrev pub ExclusivesAreKept : Type 0
ExclusivesAreKept = (p : Program) (h : Header) (xs : List Happening) → LawfulRun p h xs → (i : SessionId) (f : Found) → IsSession (world_at p h xs) i f
    → IsFalse (is_over i f) → (at : Spot) (g : Grant) → Contains (holdings_on (trace_of f) f.session at) g → IsFalse (is_shared g.mode)
    → KeptThere p h xs i g

-- A shared holding of a session that is not over: it has stood since a grant that the history has.
pub record SharedThere (p : Program) (h : Header) (xs : List Happening) (i : SessionId) (at : Spot) : Type 0 where
  pub place : ResourceAt p h xs i at
  pub grant : SharedGrant
  pub holder : grant.holder ≡ holder_of (world_at p h xs) i
  pub shared : IsSharedTo (history_there place) grant (world_at p h xs).step

abbrev pub SharedAreShared : Type 0
SharedAreShared = (p : Program) (h : Header) (xs : List Happening) → LawfulRun p h xs → (i : SessionId) (f : Found) → IsSession (world_at p h xs) i f
    → IsFalse (is_over i f) → (at : Spot) → IsTrue (has_shared_on (trace_of f) f.session at) → SharedThere p h xs i at

-- .. and under a holding's own instance.
abbrev pub SharedAreUnder : Type 0
SharedAreUnder = (p : Program) (h : Header) (xs : List Happening) → LawfulRun p h xs → (i : SessionId) (f : Found) → IsSession (world_at p h xs) i f
    → IsFalse (is_over i f) → (at : Spot) (g : Grant) → Contains (holdings_on (trace_of f) f.session at) g → IsTrue (is_shared g.mode)
    → (y : SharedThere p h xs i at) × (y.grant.won ≡ g.lver)
