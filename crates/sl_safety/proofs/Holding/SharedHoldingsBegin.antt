-- A session that holds a resource shared has done so without a gap since a ballot of its own or a conversion: a grant that rests on neither
-- stands beside a shared holding that the session had before the step, under its instance. So each holding goes back to a ballot or a
-- conversion of its own instance.
use Rattle.sl_safety.proofs.Holding.HoldingsAreGranted.{held_or_given, stands_first, stands_longer}
use Rattle.sl_safety.proofs.Holding.Places.{HeldOn, held_on, shared_there, the_shared}
use Rattle.sl_safety.proofs.Holding.HoldersStand.{stands_behind}
use Rattle.sl_safety.specs.Holding.HoldingOrigins.{SharedHoldingsBegin, SharedRun, SharedRunUnder, SharedRunsBegin}
use Rattle.sl_run.proofs.LawFacts.{orderly-front}
use Rattle.sl_run.specs.Lawful.{Orderly}
use Rattle.sl_run.specs.LawfulModes.{HoldsSharedUnder, LawfulExclusiveGrant, LawfulSharedGrant, SharedByBallot, SharedByConversion}
use Rattle.sl_words.proofs.Lists.{contains_none}
use Rattle.sl_run_law.proofs.Sessions.CallOwners.{session_more}
use Rattle.sl_run_law.specs.Sessions.SessionLaws.{IsSession}
use Rattle.sl_trace.specs.Sessions.{session_numbered}
use Rattle.sl_trace.specs.Leases.{has_shared_on}
use Rattle.sl_trace.specs.declared.session.Session.{Session}
use Rattle.sl_trace.specs.Traces.{Setting, Trace, holdings, is_shared, spot_of_grant}
use Rattle.sl_trace.specs.declared.effects.Entry.{Entry}
use Rattle.sl_trace.specs.declared.effects.Grant.{Grant}
use Rattle.sl_trace.specs.declared.effects.Spot.{Spot}
use Rattle.sl_words.proofs.CaseLaws.{one_value}
use Rattle.std.proofs.Common.{ap, inl, inr, refl, subst, sym, ◌∙◌}
use Rattle.std.specs.Prelude.{Contains, IsTrue, MatchBool, Some, true, [], ℕ, ◌++◌, ◌∷◌, ◌≡◌, ◌⊎◌}

-- A holder's session was one before the entry.
pub was_session : (st : Setting) (e : Entry) (past : Trace) (g : Grant) (s : Session) → Orderly st past → IsSession st (e ∷ past) s → Contains (holdings past) g → g.session ≡ s.number
    → IsSession st past s
was_session st e past g s law its held mine =
    let r = stands_behind st past law g held in
    let known : session_numbered st (e ∷ past) g.session ≡ Some s = ap (λ n. session_numbered st (e ∷ past) n) mine ∙ its in
    let same : r.session ≡ s = one_value r.session s (session_numbered st (e ∷ past) g.session) (session_more st e past g.session r.session r.known) known in
    ap (λ n. session_numbered st past n) (sym mine) ∙ r.known ∙ ap (λ x. Some x) same

run_now : (st : Setting) (e : Entry) (past : Trace) (s : Session) (at : Spot) (n : ℕ) → has_shared_on (e ∷ past) s at ≡ true
    → SharedByBallot st (e ∷ past) s at n ⊎ SharedByConversion st past (e ∷ past) s at n → SharedRunUnder st (e ∷ past) s at n
run_now st e past s at n shared rests =
    record {
      run = record {
        later = [];
        entry = e;
        past = past;
        whole = refl;
        instance = n;
        rests = rests;
        stood = stands_first (λ older. IsTrue (has_shared_on (older ++ e ∷ past) s at)) shared;
      };
      under = refl;
    }

run_before : (st : Setting) (e : Entry) (past : Trace) (s : Session) (at : Spot) (k n : ℕ) → has_shared_on (e ∷ past) s at ≡ true → k ≡ n → SharedRunUnder st past s at k
    → SharedRunUnder st (e ∷ past) s at n
run_before st e past s at k n shared same u =
    let r : SharedRun st past s at = u.run in
    record {
      run = record {
        later = e ∷ r.later;
        entry = r.entry;
        past = r.past;
        whole = ap (λ zs. e ∷ zs) r.whole;
        instance = r.instance;
        rests = r.rests;
        stood = stands_longer (λ older. IsTrue (has_shared_on (older ++ r.entry ∷ r.past) s at)) e r.later
            (subst (λ t. has_shared_on (e ∷ t) s at ≡ true) r.whole shared) r.stood;
      };
      under = u.under ∙ same;
    }

run_granted : (st : Setting) (e : Entry) (past : Trace) (s : Session) (at : Spot) → has_shared_on (e ∷ past) s at ≡ true
    → ((h : Grant) → HeldOn past s at h → is_shared h.mode ≡ true → SharedRunUnder st past s at h.lver) → (n : ℕ) → LawfulSharedGrant st past (e ∷ past) s at n
    → SharedRunUnder st (e ∷ past) s at n
run_granted st e past s at shared before n (inr rests) = run_now st e past s at n shared rests
run_granted st e past s at shared before n (inl beside) =
    let h : HoldsSharedUnder past s at n = beside in run_before st e past s at h.0.lver n shared h.3 (before h.0 (held_on past s at h.0 h.1) h.2)

-- From the runs before the entry.
run_from : (st : Setting) (e : Entry) (past : Trace) → Orderly st (e ∷ past) → (s : Session) → IsSession st (e ∷ past) s → (at : Spot)
    → ((h : Grant) → HeldOn past s at h → is_shared h.mode ≡ true → SharedRunUnder st past s at h.lver) → (g : Grant) → HeldOn (e ∷ past) s at g → is_shared g.mode ≡ true
    → Contains (holdings past) g ⊎ Contains e.effects.grants g → SharedRunUnder st (e ∷ past) s at g.lver
run_from st e past law s its at before g on is (inl old) =
    run_before st e past s at g.lver g.lver (shared_there (e ∷ past) s at g on is) refl (before g (record { there = old; mine = on.mine; spot = on.spot }) is)
run_from st e past law s its at before g on is (inr new) =
    run_granted st e past s at (shared_there (e ∷ past) s at g on is) before g.lver
    (subst (λ z. LawfulSharedGrant st past (e ∷ past) s z g.lver) on.spot
    (subst (λ b. MatchBool b (LawfulSharedGrant st past (e ∷ past) s (spot_of_grant g) g.lver) (LawfulExclusiveGrant st (e ∷ past) s (spot_of_grant g) g.lver)) is
    (law.modes.0.grants g s new (ap (λ n. session_numbered st (e ∷ past) n) on.mine ∙ its))))

run_of : (st : Setting) (es : Trace) → Orderly st es → (s : Session) → IsSession st es s → (at : Spot) (g : Grant) → HeldOn es s at g → is_shared g.mode ≡ true
    → SharedRunUnder st es s at g.lver
run_of st [] law s its at g on is = absurd (contains_none g on.there)
run_of st (e ∷ past) law s its at g on is =
    let front : Orderly st past = orderly-front st (e ∷ []) past law in
    run_from st e past law s its at (λ h before so. run_of st past front s (was_session st e past h s front its before.there before.mine) at h before so)
    g on is (held_or_given e past g on.there)

pub shared_holdings_begin : SharedHoldingsBegin
shared_holdings_begin st es law s its at g held shared = run_of st es law s its at g (held_on es s at g held) shared

pub shared_runs_begin : SharedRunsBegin
shared_runs_begin st es law s its at shared = let g = the_shared es s at shared in (run_of st es law s its at g.0 g.1 g.2).run
