-- Numbers of sessions and of calls in a trace.
use Rattle.sl_words.proofs.Lists.{any_found, contains_cases, contains_none, head_is, kept_inside, tail_is}
use Rattle.sl_words.proofs.Options.{none_is}
use Rattle.sl_run_law.proofs.Sessions.CallsAreMade.{same_answered}
use Rattle.sl_run_law.proofs.Sessions.CallOwners.{session_more}
use Rattle.sl_trace.specs.Sessions.{added_by, begun_in, given_session, is_join_call, joining_session, session_numbered, sessions}
use Rattle.sl_trace.specs.declared.session.Session.{Session}
use Rattle.sl_trace.specs.Traces.{IsTrace, Setting, Submitted, Trace, answered_in, call_numbered, is_answer_for, is_expected, mark, new_call, next_call, next_job, outstanding, submitted}
use Rattle.sl_trace.specs.declared.command.LockspaceArg.{LockspaceArg}
use Rattle.sl_trace.specs.declared.effects.Call.{Call}
use Rattle.sl_trace.specs.declared.effects.Entry.{Entry}
use Rattle.sl_trace.specs.declared.effects.JoinStep.TheVariants.{FirstRead}
use Rattle.sl_trace.specs.declared.input.Answer.{Answer}
use Rattle.sl_trace.specs.declared.input.Given.{Given}
use Rattle.sl_trace.specs.declared.input.Input.TheVariants.{Answer as Told, Exit, Line, Number, Spawned, Wake}
use Rattle.sl_trace.specs.declared.input.Input.{Input}
use Rattle.sl_run_law.proofs.Watchdog.FoundCalls.{numbers_apart}
use Rattle.sl_words.proofs.CaseLaws.{none_some, some_value}
use Rattle.sl_words.proofs.WordLaws.{and_true}
use Rattle.std.proofs.Common.{ap, arith, inl, inr, refl, subst, sym, ◌∙◌}
use Rattle.std.proofs.lemmas.Bool.{eq-eqb, eqb-true}
use Rattle.std.specs.List.{enumerate_from, list_any, range_with_len}
use Rattle.std.specs.Prelude.{Bool, Contains, List, None, Option, Some, [], cond, false, find, fold, is_none, length, map, slice_get, suc, true, zero, ℕ, ◌&&◌, ◌++◌, ◌+◌, ◌<◌, ◌==◌, ◌∷◌, ◌≡◌, ◌⊎◌}

-- ---- sessions

given_at : (gs : List Given) (k n : ℕ) (s : Session) → slice_get (map given_session (enumerate_from k gs)) n ≡ Some s → s.number ≡ k + n
given_at [] k n s at = absurd (none_some s at)
given_at (g ∷ gs) k zero s at = ap (λ (x : Session). x.number) (sym (some_value (given_session (k, g)) s at)) ∙ omega arith
given_at (g ∷ gs) k (suc n) s at = let rest = given_at gs (k + 1) n s at in omega (arith, rest)

-- In one of two lists.
pub either_place : {A : Type 0} (xs ys : List A) (n : ℕ) (x : A) → slice_get (xs ++ ys) n ≡ Some x
    → (slice_get xs n ≡ Some x) ⊎ ((k : ℕ) × (n ≡ length xs + k) × (slice_get ys k ≡ Some x))
either_place [] ys n x at = inr (n, omega arith, at)
either_place (y ∷ xs) ys zero x at = inl at
either_place (y ∷ xs) ys (suc n) x at = by (either_place xs ys n x at) where
  by : (slice_get xs n ≡ Some x) ⊎ ((k : ℕ) × (n ≡ length xs + k) × (slice_get ys k ≡ Some x))
      → (slice_get xs n ≡ Some x) ⊎ ((k : ℕ) × (suc n ≡ suc (length xs) + k) × (slice_get ys k ≡ Some x))
  by (inl there) = inl there
  by (inr there) = let e = there.1 in inr (there.0, omega (arith, e), there.2)

-- A session that an entry begins.
pub record IsBegun (number : ℕ) (s : Session) : Type 0 where
  pub number_is : s.number ≡ number
  pub job : (j : ℕ) × (s.job ≡ Some j)
  pub renewed : s.renewed ≡ 0

begun_one : (st : Setting) (es : Trace) (number k : ℕ) (o : Option LockspaceArg) (s : Session)
    → slice_get (elim o as (λ x. List Session) [ None ↦ [] | Some a ↦ joining_session number (next_job st es) a ∷ [] ]) k ≡ Some s → (k ≡ 0) × IsBegun number s
begun_one st es number k None s at = absurd (none_some s at)
begun_one st es number zero (Some a) s at =
    let same = some_value (joining_session number (next_job st es) a) s at in
    (refl, subst (λ (x : Session). IsBegun number x) same (record { number_is = refl; job = (next_job st es, refl); renewed = refl }))
begun_one st es number (suc k) (Some a) s at = absurd (none_some s at)

begun_by : (st : Setting) (es : Trace) (number k : ℕ) (i : Input) (b : Bool) (s : Session)
    → slice_get (elim b as (λ x. List Session) [
      | false ↦ []
      | true ↦ elim (added_by st i) as (λ x. List Session) [ None ↦ [] | Some a ↦ joining_session number (next_job st es) a ∷ [] ]
    ]) k ≡ Some s → (k ≡ 0) × IsBegun number s
begun_by st es number k i false s at = absurd (none_some s at)
begun_by st es number k i true s at = begun_one st es number k (added_by st i) s at

pub begun_is : (st : Setting) (es : Trace) (number k : ℕ) (e : Entry) (s : Session) → slice_get (begun_in st es number e) k ≡ Some s → (k ≡ 0) × IsBegun number s
begun_is st es number k e s at = begun_by st es number k e.input (list_any (λ (c : Call). is_join_call FirstRead c.purpose) e.effects.calls) s at

begun_place : (n from k : ℕ) (s : Session) → n ≡ from + k → (k ≡ 0) × IsBegun from s → s.number ≡ n
begun_place n from k s w r = let p = r.0 in let q = r.1.number_is in omega (arith, p, q, w)

-- A session's number is its place.
pub number_is : (st : Setting) (es : Trace) (n : ℕ) (s : Session) → session_numbered st es n ≡ Some s → s.number ≡ n
number_is st [] n s at = let r = given_at st.given 0 n s at in omega (arith, r)
number_is st (e ∷ es) n s at =
    elim (either_place (sessions st es) (begun_in st es (length (sessions st es)) e) n s at) as (λ z. s.number ≡ n) [
      | inl old ↦ number_is st es n s old
      | inr new ↦ begun_place n (length (sessions st es)) new.0 s new.1 (begun_is st es (length (sessions st es)) new.0 e s new.2)
    ]

-- A session without a job was there at first.
pub given_first : (st : Setting) (es : Trace) (n : ℕ) (s : Session) → session_numbered st es n ≡ Some s → s.job ≡ None → session_numbered st [] n ≡ Some s
given_first st [] n s at none = at
given_first st (e ∷ es) n s at none =
    elim (either_place (sessions st es) (begun_in st es (length (sessions st es)) e) n s at) as (λ z. session_numbered st [] n ≡ Some s) [
      | inl old ↦ given_first st es n s old none
      | inr new ↦ let r = (begun_is st es (length (sessions st es)) new.0 e s new.2).1 in absurd (none_some r.job.0 (sym none ∙ r.job.1))
    ]

-- .. and stays.
pub given_later : (st : Setting) (es : Trace) (n : ℕ) (s : Session) → session_numbered st [] n ≡ Some s → session_numbered st es n ≡ Some s
given_later st [] n s at = at
given_later st (e ∷ es) n s at = session_more st e es n s (given_later st es n s at)

given_there : (gs : List Given) (k n : ℕ) (s : Session) → slice_get (map given_session (enumerate_from k gs)) n ≡ Some s
    → (g : Given) × (slice_get gs n ≡ Some g) × (s.lockspace ≡ g.lockspace) × (s.renewed ≡ g.renewed)
given_there [] k n s at = absurd (none_some s at)
given_there (g ∷ gs) k zero s at =
    let same = sym (some_value (given_session (k, g)) s at) in
    (g, refl, ap (λ (x : Session). x.lockspace) same, ap (λ (x : Session). x.renewed) same)
given_there (g ∷ gs) k (suc n) s at = given_there gs (k + 1) n s at

pub given_jobless : (gs : List Given) (k n : ℕ) (s : Session) → slice_get (map given_session (enumerate_from k gs)) n ≡ Some s → s.job ≡ None
given_jobless [] k n s at = absurd (none_some s at)
given_jobless (g ∷ gs) k zero s at = ap (λ (x : Session). x.job) (sym (some_value (given_session (k, g)) s at))
given_jobless (g ∷ gs) k (suc n) s at = given_jobless gs (k + 1) n s at

-- .. and is given.
pub given_one : (st : Setting) (n : ℕ) (s : Session) → session_numbered st [] n ≡ Some s
    → (g : Given) × (slice_get st.given n ≡ Some g) × (s.lockspace ≡ g.lockspace) × (s.renewed ≡ g.renewed)
given_one st n s at = given_there st.given 0 n s at

-- ---- calls

-- Calls, the newest first, have the numbers from this one on.
abbrev pub AreCounted : ℕ → List Submitted → Type 0
AreCounted first [] = Unit {0}
AreCounted first (m ∷ ms) = (m.call.number ≡ first + length ms) × AreCounted first ms

counted_told : (es : Trace) (e : Entry) (n : ℕ) (a : Answer) (first : ℕ) (ms : List Submitted) → AreCounted first ms
    → AreCounted first (map (answered_in es e n a) ms) × (length (map (answered_in es e n a) ms) ≡ length ms)
counted_told es e n a first [] h = (tt, refl)
counted_told es e n a first (m ∷ ms) h =
    let rest = counted_told es e n a first ms h.1 in
    let long : length (map (answered_in es e n a) ms) ≡ length ms = rest.1 in
    ((ap (λ c. c.number) (same_answered es e n a m).call ∙ h.0 ∙ ap (λ k. first + k) (sym long), rest.0), ap (λ k. suc k) long)

counted_marked : (es : Trace) (e : Entry) (i : Input) (first : ℕ) (ms : List Submitted) → AreCounted first ms
    → AreCounted first (mark es e i ms) × (length (mark es e i ms) ≡ length ms)
counted_marked es e (Told n a) first ms h = counted_told es e n a first ms h
counted_marked es e (Line text) first ms h = (h, refl)
counted_marked es e (Number text) first ms h = (h, refl)
counted_marked es e (Exit p) first ms h = (h, refl)
counted_marked es e (Spawned p ok) first ms h = (h, refl)
counted_marked es e Wake first ms h = (h, refl)

abbrev called : ℕ → ℕ → List Submitted → Call → List Submitted
called at reading ms c = new_call at reading c ∷ ms

counted_new : (at reading first k : ℕ) (cs : List Call) (ms : List Submitted) → AreCounted first ms → k ≡ first + length ms
    → map (λ (c : Call). c.number) cs ≡ range_with_len k (length cs) → AreCounted first (fold (called at reading) ms cs)
counted_new at reading first k [] ms h is numbers = h
counted_new at reading first k (c ∷ cs) ms h is numbers =
    let one : c.number ≡ k = head_is c.number k (map (λ (x : Call). x.number) cs) (range_with_len (k + 1) (length cs)) numbers in
    let next : k + 1 ≡ first + suc (length ms) = omega (arith, is) in
    counted_new at reading first (k + 1) cs (new_call at reading c ∷ ms) (one ∙ is, h) next
    (tail_is c.number k (map (λ (x : Call). x.number) cs) (range_with_len (k + 1) (length cs)) numbers)

pub calls_counted : (st : Setting) (es : Trace) → IsTrace st es → AreCounted st.first.call (submitted es)
calls_counted st [] h = tt
calls_counted st (e ∷ es) h =
    let r = counted_marked es e e.input st.first.call (submitted es) (calls_counted st es h.1) in
    let long : length (mark es e e.input (submitted es)) ≡ length (submitted es) = r.1 in
    counted_new (length es) e.reading st.first.call (next_call st es) e.effects.calls (mark es e e.input (submitted es)) r.0
    (ap (λ k. st.first.call + k) (sym long)) h.0.numbered

number_below : (first : ℕ) (ms : List Submitted) (m : Submitted) → AreCounted first ms → Contains ms m → m.call.number < first + length ms
number_below first [] m h there = absurd (contains_none m there)
number_below first (x ∷ ms) m h there =
    elim (contains_cases x ms m there) as (λ z. m.call.number < first + suc (length ms)) [
      | inl here ↦ let n : m.call.number ≡ first + length ms = ap (λ (y : Submitted). y.call.number) (sym here) ∙ h.0 in omega (arith, n)
      | inr old ↦ let n = number_below first ms m h.1 old in omega (arith, n)
    ]

found_here : (x : Submitted) (ms : List Submitted) (m : Submitted) → x ≡ m → find (λ (y : Submitted). y.call.number == m.call.number) (x ∷ ms) ≡ Some m
found_here x ms m here =
    ap (λ b. cond b (Some x) (find (λ (y : Submitted). y.call.number == m.call.number) ms)) (eq-eqb x.call.number m.call.number (ap (λ (y : Submitted). y.call.number) here))
    ∙ ap (λ y. Some y) here

found_later : (first : ℕ) (x : Submitted) (ms : List Submitted) (m : Submitted) → AreCounted first (x ∷ ms) → m.call.number < first + length ms
    → find (λ (y : Submitted). y.call.number == m.call.number) ms ≡ Some m → find (λ (y : Submitted). y.call.number == m.call.number) (x ∷ ms) ≡ Some m
found_later first x ms m h n rest =
    let k = h.0 in
    ap (λ b. cond b (Some x) (find (λ (y : Submitted). y.call.number == m.call.number) ms)) (numbers_apart x.call.number m.call.number (λ same. omega (arith, n, k, same)))
    ∙ rest

-- A call is found by its number.
found_self : (first : ℕ) (ms : List Submitted) (m : Submitted) → AreCounted first ms → Contains ms m → find (λ (x : Submitted). x.call.number == m.call.number) ms ≡ Some m
found_self first [] m h there = absurd (contains_none m there)
found_self first (x ∷ ms) m h there =
    elim (contains_cases x ms m there) as (λ z. cond (x.call.number == m.call.number) (Some x) (find (λ (y : Submitted). y.call.number == m.call.number) ms) ≡ Some m) [
      | inl here ↦ found_here x ms m here
      | inr old ↦ found_later first x ms m h (number_below first ms m h.1 old) (found_self first ms m h.1 old)
    ]

pub call_found : (st : Setting) (es : Trace) (m : Submitted) → IsTrace st es → Contains (submitted es) m → call_numbered es m.call.number ≡ Some m
call_found st es m h there = found_self st.first.call (submitted es) m (calls_counted st es h) there

-- The call that an answer comes to.
pub record IsAsked (st : Setting) (es : Trace) (n : ℕ) (a : Answer) (m : Submitted) : Type 0 where
  pub inside : Contains (submitted es) m
  pub waits : m.answer ≡ None
  pub found : call_numbered es n ≡ Some m
  pub kind : is_answer_for st a m.call.op ≡ true

pub answered_call : (st : Setting) (es : Trace) (e : Entry) (n : ℕ) (a : Answer) → IsTrace st (e ∷ es) → e.input ≡ Told n a → (m : Submitted) × IsAsked st es n a m
answered_call st es e n a h is =
    let met : is_expected st es (Told n a) ≡ true = subst (λ i. is_expected st es i ≡ true) is h.0.expected in
    let r = any_found (λ (m : Submitted). m.call.number == n && is_answer_for st a m.call.op) (outstanding es) met in
    let w = kept_inside (λ (m : Submitted). is_none m.answer) (submitted es) r.0 r.1 in
    let b = and_true (r.0.call.number == n) (is_answer_for st a r.0.call.op) r.2 in (
      r.0,
      record {
        inside = w.0;
        waits = none_is r.0.answer w.1;
        found = subst (λ k. call_numbered es k ≡ Some r.0) (eqb-true r.0.call.number n b.0) (call_found st es r.0 h.1 w.0);
        kind = b.1;
      },
    )
