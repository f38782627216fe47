-- Whose a call is.
use Rattle.sl_run.proofs.LawFacts.{orderly-front}
use Rattle.sl_run.specs.Lawful.{Orderly}
use Rattle.sl_words.proofs.Lists.{got_before, got_inside}
use Rattle.sl_run_law.proofs.Sessions.CallsAreMade.{calls_are_made}
use Rattle.sl_run_law.specs.Sessions.SessionLaws.{CallsWereLawful, IsMade, IsSession, SessionsStay, WasLawful}
use Rattle.sl_trace.specs.Sessions.{begun_in, session_numbered, sessions}
use Rattle.sl_trace.specs.declared.session.Session.{Session}
use Rattle.sl_trace.specs.Traces.{Setting, Submitted, Trace}
use Rattle.sl_trace.specs.declared.effects.Call.{Call}
use Rattle.sl_trace.specs.declared.effects.Entry.{Entry}
use Rattle.sl_words.proofs.CaseLaws.{false_is_true, one_value}
use Rattle.std.proofs.Common.{ap, refl, subst, ◌∙◌}
use Rattle.std.specs.Prelude.{IsSome, None, Option, Some, [], length, slice_get, ℕ, ◌++◌, ◌∷◌, ◌≡◌}

pub session_more : (st : Setting) (e : Entry) (es : Trace) (n : ℕ) (s : Session) → session_numbered st es n ≡ Some s → session_numbered st (e ∷ es) n ≡ Some s
session_more st e es n s at = got_before (sessions st es) (begun_in st es (length (sessions st es)) e) n s at

pub sessions_stay : SessionsStay
sessions_stay st [] es n s at = at
sessions_stay st (e ∷ later) es n s at = session_more st e (later ++ es) n s (sessions_stay st later es n s at)

pub is_the_one : (o : Option Session) (s : Session) → IsSome o → ((x : Session) → o ≡ Some x → x ≡ s) → o ≡ Some s
is_the_one None s some same = absurd (false_is_true some)
is_the_one (Some x) s some same = ap (λ y. Some y) (same x refl)

-- The session of a call made by any entry of the trace is the one that has its number in the end.
pub owned : (st : Setting) (later : Trace) (e : Entry) (past : Trace) (s : Session) → Orderly st (later ++ e ∷ past) → IsSession st (later ++ e ∷ past) s
    → (i : ℕ) (c : Call) → slice_get e.effects.calls i ≡ Some c → c.session ≡ s.number → session_numbered st (e ∷ past) c.session ≡ Some s
owned st later e past s h its i c at mine =
    is_the_one (session_numbered st (e ∷ past) c.session) s ((orderly-front st later (e ∷ past) h).calls.0.owned c (got_inside e.effects.calls i c at))
    (λ x is. one_value x s (session_numbered st (later ++ e ∷ past) c.session)
    (sessions_stay st later (e ∷ past) c.session x is)
    (ap (λ n. session_numbered st (later ++ e ∷ past) n) mine ∙ its))

was_lawful : (st : Setting) (es : Trace) (s : Session) (m : Submitted) (d : IsMade es m) → Orderly st (d.later ++ d.entry ∷ d.past)
    → session_numbered st (d.entry ∷ d.past) m.call.session ≡ Some s → WasLawful st es s m
was_lawful st es s m d h its =
    let law = (orderly-front st d.later (d.entry ∷ d.past) h).delta.0 in
    record {
      made = d;
      lawful = law.calls d.index m.call s d.call its;
      placed = law.placed d.index m.call s d.call its;
      alone = law.alone d.index m.call s d.call its;
    }

pub calls_were_lawful : CallsWereLawful
calls_were_lawful st es s m h its there mine =
    let d = calls_are_made es m there in
    let whole = subst (λ t. Orderly st t) d.whole h in
    was_lawful st es s m d whole (owned st d.later d.entry d.past s whole (subst (λ t. IsSession st t s) d.whole its) d.index m.call d.call mine)
