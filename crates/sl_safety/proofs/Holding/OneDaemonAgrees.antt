-- Two processes of one daemon hold one resource only if both hold it shared: the later grant looked at the other holding.
use Rattle.sl_safety.proofs.Holding.HoldingsAreGranted.{held_or_given}
use Rattle.sl_safety.proofs.Holding.Places.{place_turned}
use Rattle.sl_safety.specs.Holding.HoldingOrigins.{OneDaemonAgrees}
use Rattle.sl_run.proofs.LawFacts.{orderly-front}
use Rattle.sl_run.specs.Lawful.{Orderly}
use Rattle.sl_words.proofs.Lists.{contains_none}
use Rattle.sl_words.proofs.Options.{some_of}
use Rattle.sl_trace.specs.Sessions.{session_numbered}
use Rattle.sl_trace.specs.declared.session.Session.{Session}
use Rattle.sl_trace.specs.Traces.{Setting, Trace, holdings, is_shared, same_place}
use Rattle.sl_trace.specs.declared.effects.Entry.{Entry}
use Rattle.sl_trace.specs.declared.effects.Grant.{Grant}
use Rattle.std.proofs.Common.{inl, inr, sym, ◌∙◌}
use Rattle.std.proofs.Math.Bool.{and_comm}
use Rattle.std.specs.Prelude.{Contains, Some, true, [], ◌&&◌, ◌∷◌, ◌≡◌, ◌⊎◌}

-- A grant agrees with what else is held after its entry.
granted_agrees : (st : Setting) (e : Entry) (past : Trace) → Orderly st (e ∷ past) → (h g : Grant) → Contains (holdings (e ∷ past)) h → Contains e.effects.grants g
    → same_place h.path h.offset g.path g.offset ≡ true → (h.process ≡ g.process → ⊥) → (is_shared h.mode && is_shared g.mode) ≡ true
granted_agrees st e past law h g held given same differ =
    let owner : (s : Session) × (session_numbered st (e ∷ past) g.session ≡ Some s) = some_of (session_numbered st (e ∷ past) g.session) (law.granting.0.owned g given) in
    (law.granting.0.each g owner.0 given owner.1).alone h held same differ

pub one_daemon_agrees : OneDaemonAgrees
one_daemon_agrees st [] law a b one two same differ = absurd (contains_none a one)
one_daemon_agrees st (e ∷ past) law a b one two same differ =
    by (λ x y. one_daemon_agrees st past (orderly-front st (e ∷ []) past law) a b x y same differ) (held_or_given e past a one) (held_or_given e past b two)
  where
    by : (Contains (holdings past) a → Contains (holdings past) b → (is_shared a.mode && is_shared b.mode) ≡ true) → Contains (holdings past) a ⊎ Contains e.effects.grants a
        → Contains (holdings past) b ⊎ Contains e.effects.grants b → (is_shared a.mode && is_shared b.mode) ≡ true
    by rest (inl x) (inl y) = rest x y
    by rest (inl x) (inr new) = granted_agrees st e past law a b one new same differ
    by rest (inr new) other =
        and_comm (is_shared a.mode) (is_shared b.mode) ∙ granted_agrees st e past law b a two new (place_turned a b same) (λ is. differ (sym is))
