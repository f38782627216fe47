-- A job joins one session at most, and the session of one that runs is present.
use Rattle.sl_host_law.proofs.SharedFacts.PlainLists.{each_of, in_either}
use Rattle.sl_host_law.proofs.SharedFacts.SessionNumbers.{HasJobBelow, session_jobs_below}
use Rattle.sl_words.proofs.Lists.{contains_cases, contains_none}
use Rattle.sl_trace.specs.Sessions.{added_by, begun_in, given_session, has_open_write, is_join_call, is_join_done, is_present, joining_session, refused_after, removed_after, sessions}
use Rattle.sl_trace.specs.declared.session.Session.{Session}
use Rattle.sl_trace.specs.Traces.{Replied, Setting, Trace, is_running, next_job, reply_to}
use Rattle.sl_trace.specs.declared.command.LockspaceArg.{LockspaceArg}
use Rattle.sl_trace.specs.declared.effects.Entry.{Entry}
use Rattle.sl_trace.specs.declared.effects.JoinStep.TheVariants.{FirstRead}
use Rattle.sl_trace.specs.declared.input.Given.{Given}
use Rattle.sl_words.proofs.Options.{none_is}
use Rattle.sl_words.proofs.CaseLaws.{none_some, some_value}
use Rattle.sl_words.specs.Words.{choose}
use Rattle.std.proofs.Common.{ap, arith, inl, inr, sym, ◌∙◌}
use Rattle.std.specs.List.{enumerate_from, list_any}
use Rattle.std.specs.Prelude.{Bool, Contains, List, None, Option, Some, false, is_none, length, map, not, option_and_then, true, [], ℕ, ◌&&◌, ◌+◌, ◌<◌, ◌∷◌, ◌≡◌, ◌||◌, ◌⊎◌}

no_given_job : (k : ℕ) (gs : List Given) (s : Session) (n : ℕ) → Contains (map given_session (enumerate_from k gs)) s → s.job ≡ Some n → ⊥
no_given_job k [] s n there is = contains_none s there
no_given_job k (g ∷ gs) s n there is = by (contains_cases (given_session (k, g)) (map given_session (enumerate_from (k + 1) gs)) s there) (λ rest. no_given_job (k + 1) gs s n rest is) where
  by : (given_session (k, g) ≡ s) ⊎ Contains (map given_session (enumerate_from (k + 1) gs)) s → (Contains (map given_session (enumerate_from (k + 1) gs)) s → ⊥) → ⊥
  by (inl same) rest = none_some n (ap (λ (z : Session). z.job) same ∙ is)
  by (inr later) rest = rest later

-- The session that an entry begins has the number of its line.
begun_job : (st : Setting) (es : Trace) (k : ℕ) (e : Entry) (s : Session) (n : ℕ) → Contains (begun_in st es k e) s → s.job ≡ Some n → n ≡ next_job st es
begun_job st es k e s n = by (list_any (λ c. is_join_call FirstRead c.purpose) e.effects.calls) (added_by st e.input) where
  one : (a : LockspaceArg) → (joining_session k (next_job st es) a ≡ s) ⊎ Contains [] s → s.job ≡ Some n → n ≡ next_job st es
  one a (inl same) is = sym (some_value (next_job st es) n (ap (λ (z : Session). z.job) same ∙ is))
  one a (inr none) is = absurd (contains_none s none)

  by : (b : Bool) (o : Option LockspaceArg)
      → Contains (elim b as (λ z. List Session) [ false ↦ [] | true ↦ elim o as (λ z. List Session) [ None ↦ [] | Some a ↦ joining_session k (next_job st es) a ∷ [] ] ]) s → s.job ≡ Some n → n ≡ next_job st es
  by false o there is = absurd (contains_none s there)
  by true None there is = absurd (contains_none s there)
  by true (Some a) there is = one a (contains_cases (joining_session k (next_job st es) a) [] s there) is

begun_one : (st : Setting) (es : Trace) (k : ℕ) (e : Entry) (s t : Session) → Contains (begun_in st es k e) s → Contains (begun_in st es k e) t → s ≡ t
begun_one st es k e s t = by (list_any (λ c. is_join_call FirstRead c.purpose) e.effects.calls) (added_by st e.input) where
  one : (z : Session) → (z ≡ s) ⊎ Contains [] s → (z ≡ t) ⊎ Contains [] t → s ≡ t
  one z (inl a) (inl b) = sym a ∙ b
  one z (inl a) (inr none) = absurd (contains_none t none)
  one z (inr none) b = absurd (contains_none s none)

  by : (b : Bool) (o : Option LockspaceArg)
      → Contains (elim b as (λ z. List Session) [ false ↦ [] | true ↦ elim o as (λ z. List Session) [ None ↦ [] | Some a ↦ joining_session k (next_job st es) a ∷ [] ] ]) s
      → Contains (elim b as (λ z. List Session) [ false ↦ [] | true ↦ elim o as (λ z. List Session) [ None ↦ [] | Some a ↦ joining_session k (next_job st es) a ∷ [] ] ]) t → s ≡ t
  by false o at_s at_t = absurd (contains_none s at_s)
  by true None at_s at_t = absurd (contains_none s at_s)
  by true (Some a) at_s at_t = one (joining_session k (next_job st es) a) (contains_cases (joining_session k (next_job st es) a) [] s at_s) (contains_cases (joining_session k (next_job st es) a) [] t at_t)

pub one_joining : (st : Setting) (es : Trace) (s t : Session) (n : ℕ) → Contains (sessions st es) s → Contains (sessions st es) t → s.job ≡ Some n → t.job ≡ Some n → s ≡ t
one_joining st [] s t n at_s at_t is_s is_t = absurd (no_given_job 0 st.given s n at_s is_s)
one_joining st (e ∷ es) s t n at_s at_t is_s is_t =
    by (λ a b. one_joining st es s t n a b is_s is_t) (in_either (sessions st es) (begun_in st es (length (sessions st es)) e) s at_s) (in_either (sessions st es) (begun_in st es (length (sessions st es)) e) t at_t) where
      older : (z : Session) → Contains (sessions st es) z → z.job ≡ Some n → n ≡ next_job st es → ⊥
      older z at is same = let below : n < next_job st es = each_of (HasJobBelow (next_job st es)) (sessions st es) z (session_jobs_below st es) at n is in omega (arith, below, same)

      by : (Contains (sessions st es) s → Contains (sessions st es) t → s ≡ t) → Contains (sessions st es) s ⊎ Contains (begun_in st es (length (sessions st es)) e) s
          → Contains (sessions st es) t ⊎ Contains (begun_in st es (length (sessions st es)) e) t → s ≡ t
      by old (inl a) (inl b) = old a b
      by old (inr a) (inr b) = begun_one st es (length (sessions st es)) e s t a b
      by old (inl a) (inr b) = absurd (older s a is_s (begun_job st es (length (sessions st es)) e t n b is_t))
      by old (inr a) (inl b) = absurd (older t b is_t (begun_job st es (length (sessions st es)) e s n a is_s))

pub joining_present : (es : Trace) (s : Session) (n : ℕ) → s.job ≡ Some n → is_running es n ≡ true → is_present es s ≡ true
joining_present es s n is runs =
    ap (λ o. is_none (elim o as (λ z. Option ℕ) [ Some k ↦ removed_after es s | None ↦ refused_after es s ]) || is_none o && has_open_write es s)
    (ap (λ o. elim o as (λ z. Option ℕ) [ None ↦ Some 0 | Some j ↦ option_and_then (λ r. choose (is_join_done r.reply) (r.at + 1)) (reply_to es j) ]) is
    ∙ ap (option_and_then (λ (r : Replied). choose (is_join_done r.reply) (r.at + 1))) (none_is (reply_to es n) runs))
    ∙ ap (λ o. is_none o || has_open_write es s)
    (ap (λ o. elim o as (λ z. Option ℕ) [ None ↦ None | Some j ↦ option_and_then (λ r. choose (not (is_join_done r.reply)) (r.at + 1)) (reply_to es j) ]) is
    ∙ ap (option_and_then (λ (r : Replied). choose (not (is_join_done r.reply)) (r.at + 1))) (none_is (reply_to es n) runs))
