-- The numbers of a trace: a session has that of its place, a job one below the next line's; so has the job of a session, and that of
-- its leaving.
use Rattle.sl_host_law.proofs.SharedFacts.PlainLists.{all_as, all_both, at_some, each_of, found_some, got_below, in_back, in_front}
use Rattle.sl_host_law.proofs.SharedFacts.PlainOrders.{AreApart}
use Rattle.sl_words.proofs.Lists.{contains_first, find_inside}
use Rattle.sl_words.proofs.Numbers.{lt_then_le, number_itself}
use Rattle.sl_words.proofs.Options.{some_there, then_value}
use Rattle.sl_trace.specs.Sessions.{added, added_by, begun_in, given_session, is_join_call, is_joined, joining_session, leaves, leaving_in, leaving_job, session_numbered, sessions}
use Rattle.sl_trace.specs.declared.session.Session.{Session}
use Rattle.sl_trace.specs.Traces.{Job, Setting, Trace, job_in, job_numbered, jobs, line_in, next_job, numbers_taken, takes_number}
use Rattle.sl_trace.specs.declared.command.LockspaceArg.{LockspaceArg}
use Rattle.sl_trace.specs.declared.effects.Entry.{Entry}
use Rattle.sl_trace.specs.declared.effects.JoinStep.TheVariants.{FirstRead}
use Rattle.sl_trace.specs.declared.input.Given.{Given}
use Rattle.sl_trace.specs.declared.input.Input.TheVariants.{Answer as Told, Exit, Line, Number, Spawned, Wake}
use Rattle.sl_trace.specs.declared.input.Input.{Input}
use Rattle.sl_words.proofs.CaseLaws.{none_some, some_value}
use Rattle.sl_words.proofs.WordLaws.{choose_some}
use Rattle.sl_words.specs.Words.{choose}
use Rattle.std.proofs.Common.{ap, arith, refl, subst, suc, sym, zero, ◌∙◌}
use Rattle.std.specs.List.{AllByRecursion, enumerate_from, list_any}
use Rattle.std.specs.Prelude.{Bool, Contains, List, None, Option, Some, false, is_some, length, map, not, slice_get, true, [], ℕ, ◌&&◌, ◌++◌, ◌+◌, ◌<◌, ◌==◌, ◌∷◌, ◌≡◌, ◌≤◌}

-- ---- sessions

-- They have the numbers from n on.
abbrev InRow : ℕ → List Session → Type 0
InRow n [] = Unit {0}
InRow n (s ∷ ss) = (s.number ≡ n) × InRow (n + 1) ss

given_row : (n : ℕ) (gs : List Given) → InRow n (map given_session (enumerate_from n gs))
given_row n [] = tt
given_row n (g ∷ gs) = (refl, given_row (n + 1) gs)

row_both : (n : ℕ) (ss ts : List Session) → InRow n ss → InRow (n + length ss) ts → InRow n (ss ++ ts)
row_both n [] ts a b = let e : n + 0 ≡ n = omega arith in subst (λ k. InRow k ts) e b
row_both n (s ∷ ss) ts a b =
    let e : n + suc (length ss) ≡ n + 1 + length ss = omega arith in
    (a.0, row_both (n + 1) ss ts a.1 (subst (λ k. InRow k ts) e b))

begun_row : (st : Setting) (es : Trace) (n : ℕ) (e : Entry) → InRow n (begun_in st es n e)
begun_row st es n e = by (list_any (λ c. is_join_call FirstRead c.purpose) e.effects.calls) (added_by st e.input) where
  by : (b : Bool) (o : Option LockspaceArg)
      → InRow n (elim b as (λ x. List Session) [ false ↦ [] | true ↦ elim o as (λ x. List Session) [ None ↦ [] | Some a ↦ joining_session n (next_job st es) a ∷ [] ] ])
  by false o = tt
  by true None = tt
  by true (Some a) = (refl, tt)

sessions_row : (st : Setting) (es : Trace) → InRow 0 (sessions st es)
sessions_row st [] = given_row 0 st.given
sessions_row st (e ∷ es) =
    let from : length (sessions st es) ≡ 0 + length (sessions st es) = omega arith in
    row_both 0 (sessions st es) (begun_in st es (length (sessions st es)) e) (sessions_row st es)
    (subst (λ n. InRow n (begun_in st es (length (sessions st es)) e)) from (begun_row st es (length (sessions st es)) e))

row_at : (n : ℕ) (ss : List Session) (k : ℕ) (s : Session) → InRow n ss → slice_get ss k ≡ Some s → s.number ≡ n + k
row_at n [] k s row there = absurd (none_some s there)
row_at n (t ∷ ss) zero s row there = let e : n ≡ n + 0 = omega arith in ap (λ (z : Session). z.number) (sym (some_value t s there)) ∙ row.0 ∙ e
row_at n (t ∷ ss) (suc k) s row there = let e : n + 1 + k ≡ n + suc k = omega arith in row_at (n + 1) ss k s row.1 there ∙ e

-- A session's number is its place.
pub placed_by_number : (st : Setting) (es : Trace) (k : ℕ) (s : Session) → slice_get (sessions st es) k ≡ Some s → s.number ≡ k
placed_by_number st es k s there = let e : 0 + k ≡ k = omega arith in row_at 0 (sessions st es) k s (sessions_row st es) there ∙ e

-- So it is found by it.
pub found_by_number : (st : Setting) (es : Trace) (s : Session) → Contains (sessions st es) s → session_numbered st es s.number ≡ Some s
found_by_number st es s there =
    let at = at_some (sessions st es) s there in
    ap (λ n. slice_get (sessions st es) n) (placed_by_number st es at.0 s at.1) ∙ at.1

above : (n k : ℕ) (ss : List Session) → k < n → InRow n ss → AllByRecursion (λ t. k ≡ t.number → ⊥) ss
above n k [] less row = tt
above n k (t ∷ ss) less row =
    (λ same. (let a : k ≡ t.number = same in let b : t.number ≡ n = row.0 in absurd (omega (arith, a, b, less))), above (n + 1) k ss (omega (arith, less)) row.1)

row_apart : (n : ℕ) (ss : List Session) → InRow n ss → AreApart (λ s. s.number) ss
row_apart n [] row = tt
row_apart n (s ∷ ss) row =
    (subst (λ k. AllByRecursion (λ t. k ≡ t.number → ⊥) ss) (sym row.0) (above (n + 1) n ss (omega arith) row.1), row_apart (n + 1) ss row.1)

-- No two sessions have one number.
pub sessions_apart : (st : Setting) (es : Trace) → AreApart (λ s. s.number) (sessions st es)
sessions_apart st es = row_apart 0 (sessions st es) (sessions_row st es)

-- A session's number is below how many there are.
pub below_count : (st : Setting) (es : Trace) (s : Session) → Contains (sessions st es) s → s.number < length (sessions st es)
below_count st es s there =
    let at = at_some (sessions st es) s there in
    subst (λ n. n < length (sessions st es)) (sym (placed_by_number st es at.0 s at.1)) (got_below (sessions st es) at.0 s at.1)

-- ---- jobs

next_by : (i : Input) (n : ℕ) → n ≤ elim (takes_number i) as (λ x. ℕ) [ true ↦ n + 1 | false ↦ n ]
next_by (Line text) n = omega arith
next_by (Number text) n = omega arith
next_by (Told k a) n = omega arith
next_by (Exit p) n = omega arith
next_by (Spawned p ok) n = omega arith
next_by Wake n = omega arith

-- Numbers rise.
pub next_rises : (st : Setting) (e : Entry) (es : Trace) → next_job st es ≤ next_job st (e ∷ es)
next_rises st e es = let more : numbers_taken es ≤ numbers_taken (e ∷ es) = next_by e.input (numbers_taken es) in omega (arith, more)

-- A line takes one.
pub line_takes : (st : Setting) (e : Entry) (es : Trace) (text : List ℕ) → line_in e.input ≡ Some text → next_job st es < next_job st (e ∷ es)
line_takes st e es text is = by e.input is where
  by : (i : Input) → line_in i ≡ Some text → st.first.job + numbers_taken es < st.first.job + elim (takes_number i) as (λ x. ℕ) [ true ↦ numbers_taken es + 1 | false ↦ numbers_taken es ]
  by (Line t) at = omega arith
  by (Number t) at = absurd (none_some text at)
  by (Told k a) at = absurd (none_some text at)
  by (Exit p) at = absurd (none_some text at)
  by (Spawned p ok) at = absurd (none_some text at)
  by Wake at = absurd (none_some text at)

job_in_below : (st : Setting) (es : Trace) (e : Entry) → AllByRecursion (λ j. j.number < next_job st (e ∷ es)) (job_in st es (next_job st es) e)
job_in_below st es e = by (line_in e.input) refl where
  by : (o : Option (List ℕ)) → line_in e.input ≡ o
      → AllByRecursion (λ (j : Job). j.number < next_job st (e ∷ es)) (elim o as (λ x. List Job) [ None ↦ [] | Some text ↦ record { number = next_job st es; at = length es; reading = e.reading; command = st.read text } ∷ [] ])
  by None is = tt
  by (Some text) is = (line_takes st e es text is, tt)

-- A job has a number below the next line's.
pub jobs_below : (st : Setting) (es : Trace) → AllByRecursion (λ j. j.number < next_job st es) (jobs st es)
jobs_below st [] = tt
jobs_below st (e ∷ es) =
    all_both (λ (j : Job). j.number < next_job st (e ∷ es)) (jobs st es) (job_in st es (next_job st es) e)
    (all_as (λ (j : Job). j.number < next_job st es) (λ (j : Job). j.number < next_job st (e ∷ es)) (jobs st es)
    (λ j less. lt_then_le j.number (next_job st es) (next_job st (e ∷ es)) less (next_rises st e es)) (jobs_below st es))
    (job_in_below st es e)

pub job_there : (st : Setting) (es : Trace) (j : Job) → Contains (jobs st es) j → is_some (job_numbered st es j.number) ≡ true
job_there st es j there = found_some (λ (k : Job). k.number == j.number) (jobs st es) j there (number_itself j.number)

pub numbered_below : (st : Setting) (es : Trace) (n : ℕ) → is_some (job_numbered st es n) ≡ true → n < next_job st es
numbered_below st es n is =
    let j = some_there (job_numbered st es n) is in
    let at = find_inside (λ (k : Job). k.number == n) (jobs st es) j.0 j.1 in
    let less : j.0.number < next_job st es = each_of (λ (k : Job). k.number < next_job st es) (jobs st es) j.0 (jobs_below st es) at.0 in
    let same : (j.0.number == n) ≡ true = at.1 in
    grind (arith, less, same)

-- ---- the jobs of sessions

abbrev pub HasJobBelow : ℕ → Session → Type 0
HasJobBelow n s = (j : ℕ) → s.job ≡ Some j → j < n

given_jobs : (n k : ℕ) (gs : List Given) → AllByRecursion (HasJobBelow n) (map given_session (enumerate_from k gs))
given_jobs n k [] = tt
given_jobs n k (g ∷ gs) = (λ j is. absurd (none_some j is), given_jobs n (k + 1) gs)

added_line : (st : Setting) (i : Input) (a : LockspaceArg) → added_by st i ≡ Some a → (text : List ℕ) × (line_in i ≡ Some text)
added_line st i a is = let r = then_value (λ text. added (st.read text)) (line_in i) a is in (r.0, r.1)

begun_jobs : (st : Setting) (es : Trace) (n : ℕ) (e : Entry) → AllByRecursion (HasJobBelow (next_job st (e ∷ es))) (begun_in st es n e)
begun_jobs st es n e = by (list_any (λ c. is_join_call FirstRead c.purpose) e.effects.calls) (added_by st e.input) refl where
  by : (b : Bool) (o : Option LockspaceArg) → added_by st e.input ≡ o
      → AllByRecursion (HasJobBelow (next_job st (e ∷ es)))
      (elim b as (λ x. List Session) [ false ↦ [] | true ↦ elim o as (λ x. List Session) [ None ↦ [] | Some a ↦ joining_session n (next_job st es) a ∷ [] ] ])
  by false o is = tt
  by true None is = tt
  by true (Some a) is =
      let t = added_line st e.input a is in
      (λ j at. subst (λ k. k < next_job st (e ∷ es)) (some_value (next_job st es) j at) (line_takes st e es t.0 t.1), tt)

-- The job of a session has a number below the next line's.
pub session_jobs_below : (st : Setting) (es : Trace) → AllByRecursion (HasJobBelow (next_job st es)) (sessions st es)
session_jobs_below st [] = given_jobs (next_job st []) 0 st.given
session_jobs_below st (e ∷ es) =
    all_both (HasJobBelow (next_job st (e ∷ es))) (sessions st es) (begun_in st es (length (sessions st es)) e)
    (all_as (HasJobBelow (next_job st es)) (HasJobBelow (next_job st (e ∷ es))) (sessions st es)
    (λ s below j is. lt_then_le j (next_job st es) (next_job st (e ∷ es)) (below j is) (next_rises st e es)) (session_jobs_below st es))
    (begun_jobs st es (length (sessions st es)) e)

-- The job of a leaving is one of the trace's.
pub leaving_there : (st : Setting) (es : Trace) (s : Session) (j : Job) → leaving_job st es s ≡ Some j → Contains (jobs st es) j
leaving_there st [] s j is = absurd (none_some j is)
leaving_there st (e ∷ es) s j is = by (λ at. leaving_there st es s j at) (leaving_job st es s) refl is where
  new : (o : Option (List ℕ)) → (b : ((text : List ℕ) → Bool)) → (c : Bool)
      → elim o as (λ x. Option Job) [
        | None ↦ None
        | Some text ↦ elim (b text) as (λ x. Option Job) [ false ↦ None | true ↦ choose c (record { number = next_job st es; at = length es; reading = e.reading; command = st.read text }) ]
      ] ≡ Some j
      → Contains (elim o as (λ x. List Job) [ None ↦ [] | Some text ↦ record { number = next_job st es; at = length es; reading = e.reading; command = st.read text } ∷ [] ]) j
  new None b c at = absurd (none_some j at)
  new (Some text) b c at = within (b text) at where
    within : (d : Bool) → elim d as (λ x. Option Job) [ false ↦ None | true ↦ choose c (record { number = next_job st es; at = length es; reading = e.reading; command = st.read text }) ] ≡ Some j
        → Contains (record { number = next_job st es; at = length es; reading = e.reading; command = st.read text } ∷ []) j
    within false its = absurd (none_some j its)
    within true its =
        let job : Job = record { number = next_job st es; at = length es; reading = e.reading; command = st.read text } in
        subst (λ k. Contains (job ∷ []) k) (choose_some c job j its).1 (contains_first job [])

  by : (leaving_job st es s ≡ Some j → Contains (jobs st es) j) → (o : Option Job) → leaving_job st es s ≡ o → elim o as (λ x. Option Job) [ Some k ↦ Some k | None ↦ leaving_in st es s e ] ≡ Some j → Contains (jobs st (e ∷ es)) j
  by old (Some k) at its = in_front (jobs st es) (job_in st es (next_job st es) e) j (old (at ∙ its))
  by old None at its =
      in_back (jobs st es) (job_in st es (next_job st es) e) j
      (new (line_in e.input) (λ text. leaves s (st.read text)) (is_joined es s && not (list_any (λ a. a.job == next_job st es) e.effects.replies)) its)
