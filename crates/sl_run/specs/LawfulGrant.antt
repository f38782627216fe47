-- When a process may be granted a resource.
use Rattle.sl_area.specs.AreaLayout.{is_base}
use Rattle.sl_trace.specs.Leases.{freed, leader_written, lease_calls}
use Rattle.sl_sector.specs.declared.sector.Leader.{Leader}
use Rattle.sl_trace.specs.Sessions.{is_active, session_numbered}
use Rattle.sl_trace.specs.declared.session.Session.{Session}
use Rattle.sl_trace.specs.Traces.{Setting, Submitted, Trace, has_orphan_of, held_by, holdings, is_answered_ok, is_orphan, is_shared, orphan_of, same_place, spot_of_grant}
use Rattle.sl_trace.specs.declared.effects.Entry.{Entry}
use Rattle.sl_trace.specs.declared.effects.Grant.{Grant}
use Rattle.sl_trace.specs.declared.effects.Mode.TheVariants.{Exclusive}
use Rattle.sl_trace.specs.declared.effects.Spot.{Spot}
use Rattle.sl_trace.specs.declared.input.Input.TheVariants.{Exit}
use Rattle.std.specs.Prelude.{Contains, IsFalse, IsSome, IsTrue, Some, length, true, ℕ, ◌&&◌, ◌<◌, ◌∷◌, ◌≡◌}

-- The session's write of this leader as held was answered ok.
pub record HasTaken (st : Setting) (es : Trace) (s : Session) (at : Spot) (n : ℕ) : Type 0 where
  pub call : Submitted
  pub leader : Leader
  pub of_lease : Contains (lease_calls st es s at) call
  pub written : (leader_written call ≡ Some leader) × (leader.held ≡ true) × (leader.lver ≡ n)
  pub answered : IsTrue (is_answered_ok call)

-- A grant to a process under a session. (That an orphan is made or taken over is no case of its own: what stood behind the grant of the
-- holding that it follows still does.)
pub record LawfulGrantTo (st : Setting) (es : Trace) (s : Session) (g : Grant) : Type 0 where
  -- a session in recovery or leaving may be over before the holder knows; an orphan was held before
  pub active : IsFalse (is_orphan g) → IsTrue (is_active st es s)
  pub lockspace : g.lockspace ≡ s.lockspace
  -- from another offset on the calls of two areas would count as one lease's
  pub placed : IsTrue (is_base st.layout g.offset)
  -- two processes of one machine conflict as those of two do; what ended in this step doesn't count
  pub alone : (h : Grant) → Contains (holdings es) h → IsTrue (same_place h.path h.offset g.path g.offset) →
      (h.process ≡ g.process → ⊥) → IsTrue (is_shared h.mode && is_shared g.mode)
  -- one end would end two holdings of one process
  pub single : length (held_by (holdings es) g.process g.path g.offset) ≡ 1
  -- others must find the leader held
  pub taken : g.mode ≡ Exclusive → HasTaken st es s (spot_of_grant g) g.lver
  -- whoever saw the free may have begun the next
  pub not_freed : g.mode ≡ Exclusive → freed (lease_calls st es s (spot_of_grant g)) < g.lver

-- An orphan: a persistent holding whose process exits in this step, where there is none of its place yet. Its session may be in
-- recovery or leaving: nothing new is held, so what covered the holding covers the orphan.
pub record LawfulOrphan (past : Trace) (e : Entry) (g : Grant) : Type 0 where
  pub left : Grant
  pub held : Contains (holdings past) left
  pub exits : e.input ≡ Exit left.process
  pub persistent : left.persistent ≡ true
  -- in another mode, or under another instance, it would have nothing behind it
  pub becomes : g ≡ orphan_of left
  -- two of one place would be one process's two
  pub first : IsFalse (has_orphan_of (holdings past) g)

-- Lawful grant.
pub record LawfulGrant (st : Setting) (past : Trace) (e : Entry) : Type 0 where
  -- a grant of no session would be under no other law
  pub owned : (g : Grant) → Contains e.effects.grants g → IsSome (session_numbered st (e ∷ past) g.session)
  pub each : (g : Grant) (s : Session) → Contains e.effects.grants g → session_numbered st (e ∷ past) g.session ≡ Some s → LawfulGrantTo st (e ∷ past) s g
  pub orphans : (g : Grant) → Contains e.effects.grants g → IsTrue (is_orphan g) → LawfulOrphan past e g
