-- A session's number is its place.
use Rattle.sl_trace.specs.Sessions.{added_by, begun_in, given_session, is_join_call, joining_session, session_numbered, sessions}
use Rattle.sl_trace.specs.declared.session.Session.{Session}
use Rattle.sl_trace.specs.Traces.{Setting, Trace, next_job}
use Rattle.sl_trace.specs.declared.command.LockspaceArg.{LockspaceArg}
use Rattle.sl_trace.specs.declared.effects.JoinStep.TheVariants.{FirstRead}
use Rattle.sl_trace.specs.declared.input.Given.{Given}
use Rattle.sl_words.proofs.CaseLaws.{none_some, some_value}
use Rattle.std.proofs.Common.{ap, arith, refl, subst, sym, ◌∙◌}
use Rattle.std.specs.List.{enumerate_from, list_any}
use Rattle.std.specs.Prelude.{Bool, List, None, Option, Some, false, length, map, slice_get, suc, true, zero, [], ℕ, ◌++◌, ◌+◌, ◌∷◌, ◌≡◌}

-- The sessions of a list have the numbers from n on.
abbrev NumberedFrom : ℕ → List Session → Type 0
NumberedFrom n [] = Unit {0}
NumberedFrom n (s ∷ ss) = (s.number ≡ n) × NumberedFrom (n + 1) ss

given_numbered : (n : ℕ) (gs : List Given) → NumberedFrom n (map given_session (enumerate_from n gs))
given_numbered n [] = tt
given_numbered n (g ∷ gs) = (refl, given_numbered (n + 1) gs)

with_more : (n : ℕ) (ss more : List Session) → NumberedFrom n ss → NumberedFrom (n + length ss) more → NumberedFrom n (ss ++ more)
with_more n [] more h m = subst (λ k. NumberedFrom k more) (omega arith) m
with_more n (s ∷ ss) more h m = (h.0, with_more (n + 1) ss more h.1 (subst (λ k. NumberedFrom k more) (omega arith) m))

begun_by : (st : Setting) (es : Trace) (n : ℕ) (b : Bool) (o : Option LockspaceArg)
    → NumberedFrom n (elim b as (λ x. List Session) [ false ↦ [] | true ↦ elim o as (λ x. List Session) [ None ↦ [] | Some a ↦ joining_session n (next_job st es) a ∷ [] ] ])
begun_by st es n false o = tt
begun_by st es n true None = tt
begun_by st es n true (Some a) = (refl, tt)

all_numbered : (st : Setting) (es : Trace) → NumberedFrom 0 (sessions st es)
all_numbered st [] = given_numbered 0 st.given
all_numbered st (e ∷ es) =
    with_more 0 (sessions st es) (begun_in st es (length (sessions st es)) e) (all_numbered st es)
    (subst (λ k. NumberedFrom k (begun_in st es (length (sessions st es)) e)) (omega arith)
    (begun_by st es (length (sessions st es)) (list_any (λ c. is_join_call FirstRead c.purpose) e.effects.calls) (added_by st e.input)))

numbered_at : (n k : ℕ) (ss : List Session) (s : Session) → NumberedFrom n ss → slice_get ss k ≡ Some s → s.number ≡ n + k
numbered_at n k [] s h at = absurd (none_some s at)
numbered_at n zero (x ∷ ss) s h at = ap (λ (y : Session). y.number) (sym (some_value x s at)) ∙ (h.0 ∙ omega arith)
numbered_at n (suc k) (x ∷ ss) s h at = numbered_at (n + 1) k ss s h.1 at ∙ omega arith

pub number_is_place : (st : Setting) (es : Trace) (n : ℕ) (s : Session) → session_numbered st es n ≡ Some s → s.number ≡ n
number_is_place st es n s h = numbered_at 0 n (sessions st es) s (all_numbered st es) h ∙ omega arith
