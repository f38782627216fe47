-- How a holding of a trace came about: by a grant, after which it stood without a gap.
use Rattle.sl_run.specs.Lawful.{Orderly}
use Rattle.sl_run.specs.LawfulModes.{SharedByBallot, SharedByConversion}
use Rattle.sl_trace.specs.Leases.{has_shared_on, holdings_on, is_free_write, lease_calls}
use Rattle.sl_trace.specs.Sessions.{calls_of, free_write, is_joined, session_numbered}
use Rattle.sl_trace.specs.declared.session.Session.{Session}
use Rattle.sl_trace.specs.Traces.{Setting, Submitted, Trace, holdings, is_shared, same_place}
use Rattle.sl_trace.specs.declared.effects.Entry.{Entry}
use Rattle.sl_trace.specs.declared.effects.Grant.{Grant}
use Rattle.sl_trace.specs.declared.effects.Spot.{Spot}
use Rattle.std.specs.Prelude.{Contains, IsFalse, IsTrue, None, Some, ℕ, ◌&&◌, ◌++◌, ◌∷◌, ◌≡◌, ◌⊎◌}

-- The entry that granted it, from which on it stood.
pub record GrantedIn (es : Trace) (g : Grant) : Type 0 where
  pub later : Trace
  pub entry : Entry
  pub past : Trace
  pub whole : es ≡ later ++ entry ∷ past
  pub given : Contains entry.effects.grants g
  pub stood : (newer older : Trace) → later ≡ newer ++ older → Contains (holdings (older ++ entry ∷ past)) g

abbrev pub HoldingsAreGranted : Type 0
HoldingsAreGranted = (es : Trace) (g : Grant) → Contains (holdings es) g → GrantedIn es g

-- The session under which a process holds is joined, and has not written its free.
pub record HeldUnder (st : Setting) (es : Trace) (g : Grant) : Type 0 where
  pub session : Session
  pub known : session_numbered st es g.session ≡ Some session
  pub joined : IsTrue (is_joined es session)
  pub unfreed : free_write (calls_of es session) ≡ None

abbrev pub HoldersStand : Type 0
HoldersStand = (st : Setting) (es : Trace) → Orderly st es → (g : Grant) → Contains (holdings es) g → HeldUnder st es g

-- While a session holds a resource exclusive under an instance, it has submitted no free of this instance.
abbrev pub ExclusivesAreUnfreed : Type 0
ExclusivesAreUnfreed = (st : Setting) (es : Trace) → Orderly st es → (s : Session) → session_numbered st es s.number ≡ Some s → (at : Spot) (g : Grant)
    → Contains (holdings_on es s at) g → IsFalse (is_shared g.mode) → (d : Submitted) → Contains (lease_calls st es s at) d
    → IsFalse (is_free_write g.lver d)

-- A session that holds a resource shared has done so without a gap since a grant that came by a ballot of its own, or by the conversion of
-- what it held exclusive.
pub record SharedRun (st : Setting) (es : Trace) (s : Session) (at : Spot) : Type 0 where
  pub later : Trace
  pub entry : Entry
  pub past : Trace
  pub whole : es ≡ later ++ entry ∷ past
  pub instance : ℕ
  pub rests : SharedByBallot st (entry ∷ past) s at instance ⊎ SharedByConversion st past (entry ∷ past) s at instance
  pub stood : (newer older : Trace) → later ≡ newer ++ older → IsTrue (has_shared_on (older ++ entry ∷ past) s at)

abbrev pub SharedRunsBegin : Type 0
SharedRunsBegin = (st : Setting) (es : Trace) → Orderly st es → (s : Session) → session_numbered st es s.number ≡ Some s → (at : Spot)
    → IsTrue (has_shared_on es s at) → SharedRun st es s at

-- Such a run begins under the holding's own instance: a grant beside another is under that one's.
pub record SharedRunUnder (st : Setting) (es : Trace) (s : Session) (at : Spot) (n : ℕ) : Type 0 where
  pub run : SharedRun st es s at
  pub under : run.instance ≡ n

abbrev pub SharedHoldingsBegin : Type 0
SharedHoldingsBegin = (st : Setting) (es : Trace) → Orderly st es → (s : Session) → session_numbered st es s.number ≡ Some s → (at : Spot) (g : Grant)
    → Contains (holdings_on es s at) g → IsTrue (is_shared g.mode) → SharedRunUnder st es s at g.lver

-- Two processes of one daemon hold one resource only if both hold it shared.
abbrev pub OneDaemonAgrees : Type 0
OneDaemonAgrees = (st : Setting) (es : Trace) → Orderly st es → (a b : Grant) → Contains (holdings es) a → Contains (holdings es) b
    → IsTrue (same_place a.path a.offset b.path b.offset) → (a.process ≡ b.process → ⊥) → IsTrue (is_shared a.mode && is_shared b.mode)
