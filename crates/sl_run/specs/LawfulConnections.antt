-- How a session's connection to the watchdog daemon covers what it may do.
use Rattle.sl_run.specs.LawForms.{EachSession}
use Rattle.sl_trace.specs.Sessions.{has_open_write, holdings_of, is_covered_stage, is_present, joined_after, last_renewal, refused_after, stage_of}
use Rattle.sl_trace.specs.declared.session.Session.{Session}
use Rattle.sl_time.specs.Times.{fail}
use Rattle.sl_trace.specs.WatchdogConnections.{Connection, connection_named, connections, last_registering, registers, unregisters}
use Rattle.sl_trace.specs.Traces.{Setting, Trace}
use Rattle.sl_trace.specs.declared.effects.Entry.{Entry}
use Rattle.std.specs.List.{list_any}
use Rattle.std.specs.Prelude.{Bool, IsTrue, None, Some, false, is_some, [], ℕ, ◌&&◌, ◌+◌, ◌||◌, ◌∷◌, ◌≡◌, ◌≤◌}

-- Up to which reading the session may act: fail after its last renewal, or in a joining after the last registering.
abbrev pub acts_until : Setting → Trace → Session → ℕ
acts_until st es s =
    elim (joined_after es s) [ Some k ↦ last_renewal st es s + fail st.timing | None ↦ last_registering es s.lockspace + fail st.timing ]

-- Whether the session's connection must stand: in its stage, or since a write of a refused joining is unanswered.
abbrev pub is_covered : Trace → Session → Bool
is_covered es s = is_covered_stage (stage_of es s) || is_some (refused_after es s) && has_open_write es s

-- The session's connection stands, and ends in time.
pub record CoveredBy (st : Setting) (es : Trace) (s : Session) : Type 0 where
  pub connection : Connection
  -- without it the machine would not be reset, and the session could act for ever
  pub registered : connection_named (connections st es) s.lockspace ≡ Some connection
  -- a later expiry would let it act longer than others wait
  pub in_time : connection.expiry ≤ acts_until st es s

-- Lawful watchdog.
pub record LawfulWatchdog (st : Setting) (past : Trace) (e : Entry) : Type 0 where
  -- from the registering before the claim to that claim's answer, from the one before the verify read to the session's end, and in
  -- a refused joining to the answer of its write
  pub stands : EachSession st (λ s. IsTrue (is_covered (e ∷ past) s) → CoveredBy st (e ∷ past) s) (e ∷ past)
  -- a connection made anew would let a joining act longer than its registering allows
  pub lasting : EachSession st (λ s. IsTrue (is_covered past s) → IsTrue (is_covered (e ∷ past) s) →
      list_any (λ m. registers s.lockspace m || unregisters s.lockspace m) e.effects.moves ≡ false) past
  -- a holder or a write in flight without a connection is bounded by nothing
  pub removals : EachSession st (λ s. IsTrue (is_present past s) → IsTrue (list_any (unregisters s.lockspace) e.effects.moves) →
      (holdings_of (e ∷ past) s ≡ []) × (has_open_write (e ∷ past) s ≡ false)) past
