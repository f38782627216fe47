-- The job of a joining's session has a command that joins.
use Rattle.sl_words.proofs.Lists.{contains_cases, contains_none, find_inside, in_map}
use Rattle.sl_words.proofs.Options.{then_value}
use Rattle.sl_run_law.proofs.Front.JoinedLists.{contains_append}
use Rattle.sl_trace.specs.Sessions.{added, added_by, begun_in, given_session, is_join_call, joining_session, session_of_job, sessions}
use Rattle.sl_trace.specs.declared.session.Session.{Session}
use Rattle.sl_trace.specs.Traces.{Setting, Trace, job_numbered, line_in, next_job}
use Rattle.sl_trace.specs.declared.command.Command.TheVariants.{AddLockspace}
use Rattle.sl_trace.specs.declared.command.Command.{Command}
use Rattle.sl_trace.specs.declared.command.LockspaceArg.{LockspaceArg}
use Rattle.sl_trace.specs.declared.effects.Entry.{Entry}
use Rattle.sl_trace.specs.declared.effects.JoinStep.TheVariants.{FirstRead}
use Rattle.sl_trace.specs.declared.input.Input.TheVariants.{Line}
use Rattle.sl_trace.specs.declared.input.Input.{Input}
use Rattle.sl_headline.proofs.Volumes.JobNumbers.{line_numbered, numbered_stays}
use Rattle.sl_headline.specs.Volumes.FittingRuns.{IsJobOf}
use Rattle.sl_words.proofs.CaseLaws.{none_some, some_value}
use Rattle.sl_words.proofs.WordLaws.{some_is_true}
use Rattle.sl_words.specs.Words.{some_is}
use Rattle.std.proofs.Common.{ap, inl, inr, refl, subst, ◌∙◌}
use Rattle.std.proofs.lemmas.Bool.{eqb-true}
use Rattle.std.specs.List.{enumerate_from, list_any}
use Rattle.std.specs.Prelude.{Bool, Contains, Err, List, None, Ok, Option, Result, Some, false, length, true, [], ℕ, ◌==◌, ◌∷◌, ◌≡◌}

-- The job of this number joins a lockspace.
abbrev pub Joins : Setting → Trace → ℕ → Type 0
Joins st es number = (a : LockspaceArg) × IsJobOf st es number (AddLockspace a)

later : (st : Setting) (e : Entry) (es : Trace) (number : ℕ) → Joins st es number → Joins st (e ∷ es) number
later st e es number (a, (j, is, command)) = (a, (j, numbered_stays st e es number j is, command))

added_is : (o : Result Command ℕ) (a : LockspaceArg) → added o ≡ Some a → o ≡ Ok (AddLockspace a)
added_is (Ok (AddLockspace b)) a is = ap (λ z. Ok (AddLockspace z)) (some_value b a is)
added_is (Ok c) a is = absurd (none_some a is)
added_is (Err n) a is = absurd (none_some a is)

line_in_is : (i : Input) (text : List ℕ) → line_in i ≡ Some text → i ≡ Line text
line_in_is (Line t) text is = ap (λ z. Line z) (some_value t text is)
line_in_is i text is = absurd (none_some text is)

line_joins : (st : Setting) (es : Trace) (e : Entry) (text : List ℕ) (a : LockspaceArg) → e.input ≡ Line text → st.read text ≡ Ok (AddLockspace a)
    → Joins st (e ∷ es) (next_job st es)
line_joins st es e text a line reads = (
  a,
  (
    record { number = next_job st es; at = length es; reading = e.reading; command = st.read text },
    ap (λ i. job_numbered st (record { reading = e.reading; input = i; effects = e.effects } ∷ es) (next_job st es)) line ∙ line_numbered st es e.reading text e.effects,
    reads,
  ),
)

-- A session that the entry begins is of the entry's own job, which joins.
begun : (st : Setting) (es : Trace) (e : Entry) (n j : ℕ) (s : Session) (b : Bool) (o : Option LockspaceArg) → added_by st e.input ≡ o → s.job ≡ Some j
    → Contains (elim b as (λ x. List Session) [ false ↦ [] | true ↦ elim o as (λ x. List Session) [ None ↦ [] | Some a ↦ joining_session n (next_job st es) a ∷ [] ] ]) s
    → Joins st (e ∷ es) j
begun st es e n j s false o is its there = absurd (contains_none s there)
begun st es e n j s true None is its there = absurd (contains_none s there)
begun st es e n j s true (Some a) is its there =
    let text = then_value (λ t. added (st.read t)) (line_in e.input) a is in
    let joins : Joins st (e ∷ es) (next_job st es) = line_joins st es e text.0 a (line_in_is e.input text.0 text.1) (added_is (st.read text.0) a text.2) in
    elim (contains_cases (joining_session n (next_job st es) a) [] s there) as (λ z. Joins st (e ∷ es) j) [
      | inl one ↦ subst (Joins st (e ∷ es)) (some_value (next_job st es) j (ap (λ (z : Session). z.job) one ∙ its)) joins
      | inr none ↦ absurd (contains_none s none)
    ]

joined_by : (st : Setting) (es : Trace) (s : Session) (j : ℕ) → Contains (sessions st es) s → s.job ≡ Some j → Joins st es j
joined_by st [] s j there its =
    let given = in_map given_session (enumerate_from 0 st.given) s there in absurd (none_some j (ap (λ (z : Session). z.job) given.2 ∙ its))
joined_by st (e ∷ es) s j there its =
    elim (contains_append (sessions st es) (begun_in st es (length (sessions st es)) e) s there) as (λ z. Joins st (e ∷ es) j) [
      | inl old ↦ later st e es j (joined_by st es s j old its)
      | inr new ↦ begun st es e (length (sessions st es)) j s (list_any (λ c. is_join_call FirstRead c.purpose) e.effects.calls) (added_by st e.input) refl its new
    ]

pub job_joins : (st : Setting) (es : Trace) (s : Session) (j : ℕ) → session_of_job st es j ≡ Some s → Joins st es j
job_joins st es s j is =
    let found = find_inside (λ (z : Session). some_is (λ n. n == j) z.job) (sessions st es) s is in
    let job = some_is_true (λ n. n == j) s.job found.1 in
    joined_by st es s j found.0 (job.1 ∙ ap (λ n. Some n) (eqb-true job.0 j job.2))
