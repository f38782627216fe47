-- A session has the number of its place, and is given by the setting or begun by a command.
use Rattle.sl_words.proofs.Lists.{contains_cases, contains_first, contains_more, contains_none}
use Rattle.sl_run_law.proofs.Front.JoinedLists.{contains_append}
use Rattle.sl_trace.specs.Sessions.{added_by, begun_in, given_session, is_join_call, joining_session, session_numbered, sessions}
use Rattle.sl_trace.specs.declared.session.Session.{Session}
use Rattle.sl_trace.specs.Traces.{Setting, Trace, next_job}
use Rattle.sl_trace.specs.declared.command.LockspaceArg.{LockspaceArg}
use Rattle.sl_trace.specs.declared.effects.JoinStep.TheVariants.{FirstRead}
use Rattle.sl_trace.specs.declared.input.Given.{Given}
use Rattle.sl_words.proofs.CaseLaws.{none_some, some_value}
use Rattle.std.proofs.Common.{ap, arith, inl, inr, refl, subst, sym, ◌∙◌}
use Rattle.std.specs.List.{enumerate_from, list_any}
use Rattle.std.specs.Prelude.{Bool, Contains, List, None, Option, Some, [], false, length, map, slice_get, suc, true, zero, ℕ, ◌++◌, ◌+◌, ◌∷◌, ◌≡◌, ◌⊎◌}

-- ---- numbers

abbrev NumberedFrom : ℕ → List Session → Type 0
NumberedFrom k [] = Unit {0}
NumberedFrom k (s ∷ ss) = (s.number ≡ k) × NumberedFrom (k + 1) ss

numbered_append : (k : ℕ) (xs ys : List Session) → NumberedFrom k xs → NumberedFrom (k + length xs) ys → NumberedFrom k (xs ++ ys)
numbered_append k [] ys h g = let same : k + 0 ≡ k = omega arith in subst (λ n. NumberedFrom n ys) same g
numbered_append k (x ∷ xs) ys h g =
    let same : k + suc (length xs) ≡ (k + 1) + length xs = omega arith in
    (h.0, numbered_append (k + 1) xs ys h.1 (subst (λ n. NumberedFrom n ys) same g))

numbered_given : (k : ℕ) (gs : List Given) → NumberedFrom k (map given_session (enumerate_from k gs))
numbered_given k [] = tt
numbered_given k (g ∷ gs) = (refl, numbered_given (k + 1) gs)

abbrev begun_by : Setting → Trace → ℕ → Bool → Option LockspaceArg → List Session
begun_by st es n b o = elim b [ false ↦ [] | true ↦ elim o [ None ↦ [] | Some a ↦ joining_session n (next_job st es) a ∷ [] ] ]

numbered_begun : (st : Setting) (es : Trace) (n : ℕ) (b : Bool) (o : Option LockspaceArg) → NumberedFrom n (begun_by st es n b o)
numbered_begun st es n false o = tt
numbered_begun st es n true None = tt
numbered_begun st es n true (Some a) = (refl, tt)

zero_more : (n : ℕ) → n ≡ 0 + n
zero_more n = omega arith

numbered_all : (st : Setting) (es : Trace) → NumberedFrom 0 (sessions st es)
numbered_all st [] = numbered_given 0 st.given
numbered_all st (e ∷ es) =
    let ss : List Session = sessions st es in
    numbered_append 0 ss (begun_in st es (length ss) e) (numbered_all st es)
    (subst (λ n. NumberedFrom n (begun_in st es (length ss) e)) (zero_more (length ss))
    (numbered_begun st es (length ss) (list_any (λ c. is_join_call FirstRead c.purpose) e.effects.calls) (added_by st e.input)))

number_at : (k : ℕ) (ss : List Session) (i : ℕ) (s : Session) → NumberedFrom k ss → slice_get ss i ≡ Some s → s.number ≡ k + i
number_at k [] i s h at = absurd (none_some s at)
number_at k (x ∷ ss) zero s h at = let same : k ≡ k + 0 = omega arith in ap (λ y. y.number) (sym (some_value x s at)) ∙ h.0 ∙ same
number_at k (x ∷ ss) (suc i) s h at = let same : (k + 1) + i ≡ k + suc i = omega arith in number_at (k + 1) ss i s h.1 at ∙ same

-- A session's number is that by which it is found.
pub session_number : (st : Setting) (es : Trace) (n : ℕ) (s : Session) → session_numbered st es n ≡ Some s → s.number ≡ n
session_number st es n s at = number_at 0 (sessions st es) n s (numbered_all st es) at ∙ sym (zero_more n)

-- ---- origins

-- Where a session is from.
pub data Origin (st : Setting) (s : Session) : Type 0 where
  Of_setting : (i : ℕ) (g : Given) → Contains st.given g → s ≡ given_session (i, g) → Origin st s
  Of_command : (j : ℕ) → s.job ≡ Some j → Origin st s

given_origin : (st : Setting) (k : ℕ) (gs : List Given) (s : Session) → ((g : Given) → Contains gs g → Contains st.given g)
    → Contains (map given_session (enumerate_from k gs)) s → Origin st s
given_origin st k [] s among there = absurd (contains_none s there)
given_origin st k (g ∷ gs) s among there =
    by (λ old. given_origin st (k + 1) gs s (λ x inside. among x (contains_more g gs x inside)) old) (contains_cases (given_session (k, g)) (map given_session (enumerate_from (k + 1) gs)) s there)
  where
    by : (Contains (map given_session (enumerate_from (k + 1) gs)) s → Origin st s) → (given_session (k, g) ≡ s) ⊎ Contains (map given_session (enumerate_from (k + 1) gs)) s → Origin st s
    by rest (inl here) = Of_setting k g (among g (contains_first g gs)) (sym here)
    by rest (inr old) = rest old

begun_origin : (st : Setting) (es : Trace) (n : ℕ) (b : Bool) (o : Option LockspaceArg) (s : Session) → Contains (begun_by st es n b o) s → Origin st s
begun_origin st es n false o s there = absurd (contains_none s there)
begun_origin st es n true None s there = absurd (contains_none s there)
begun_origin st es n true (Some a) s there = by (contains_cases (joining_session n (next_job st es) a) [] s there) where
  by : (joining_session n (next_job st es) a ≡ s) ⊎ Contains [] s → Origin st s
  by (inl here) = Of_command (next_job st es) (ap (λ x. x.job) (sym here))
  by (inr old) = absurd (contains_none s old)

pub origin_of : (st : Setting) (es : Trace) (s : Session) → Contains (sessions st es) s → Origin st s
origin_of st [] s there = given_origin st 0 st.given s (λ g inside. inside) there
origin_of st (e ∷ es) s there =
    let ss : List Session = sessions st es in
    by (λ old. origin_of st es s old)
    (λ new. begun_origin st es (length ss) (list_any (λ c. is_join_call FirstRead c.purpose) e.effects.calls) (added_by st e.input) s new)
    (contains_append ss (begun_in st es (length ss) e) s there)
  where
    by : (Contains (sessions st es) s → Origin st s) → (Contains (begun_in st es (length (sessions st es)) e) s → Origin st s)
        → Contains (sessions st es) s ⊎ Contains (begun_in st es (length (sessions st es)) e) s → Origin st s
    by one two (inl old) = one old
    by one two (inr new) = two new
