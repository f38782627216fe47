-- The causes of what comes by time: calls that took too long, and claims whose time is over.
use Rattle.sl_due_facts.proofs.Acts.AddedAtEnd.{begun_by}
use Rattle.sl_due_facts.specs.Acts.TraceSoFar.{entry_of}
use Rattle.sl_due_law.proofs.Causes.AnsweredJobs.{number_is}
use Rattle.sl_due_law.proofs.Causes.JoinCauses.{IsWellJoin, same_step, session_of_its_job}
use Rattle.sl_due_law.specs.Causes.CausedSoFar.{StaysCaused}
use Rattle.sl_due.specs.DueTimeOuts.{is_overdue}
use Rattle.sl_due.specs.Steps.{Step, seen}
use Rattle.sl_due_facts.proofs.Jobs.CallsHaveFacts.{calls_before}
use Rattle.sl_words.proofs.Lists.{contains_cases, contains_first, contains_more, contains_none, head_is}
use Rattle.sl_trace.specs.DeltaDecisions.{DeltaLease, delta_of_session, join_step_of, next_by_time, next_on_wake}
use Rattle.sl_trace.specs.Sessions.{calls_of, is_call_of, is_join_call, join_call, session_of_job, sessions}
use Rattle.sl_trace.specs.declared.delta.DeltaNext.TheVariants.{Nothing, ReadOwn, RefuseJoin, RegisterAndRead}
use Rattle.sl_trace.specs.declared.delta.DeltaNext.{DeltaNext}
use Rattle.sl_trace.specs.declared.session.Session.{Session}
use Rattle.sl_time.specs.Times.{dead, join_max, renew}
use Rattle.sl_trace.specs.Traces.{Answered, Submitted, is_of_job, mark, new_call, submitted, unanswered, waiting_call}
use Rattle.sl_trace.specs.declared.effects.Call.{Call}
use Rattle.sl_trace.specs.declared.effects.JoinStep.TheVariants.{ClaimWrite, DecidingRead, FirstRead, FirstRenewal, VerifyRead, WatchRead}
use Rattle.sl_trace.specs.declared.effects.JoinStep.{JoinStep}
use Rattle.sl_trace.specs.declared.effects.Purpose.TheVariants.{Joining}
use Rattle.sl_trace.specs.declared.effects.Purpose.{Purpose}
use Rattle.sl_trace.specs.declared.input.Input.TheVariants.{Wake}
use Rattle.sl_trace.specs.declared.input.Input.{Input}
use Rattle.sl_trace.specs.declared.reply.Reply.TheVariants.{IdLate, IoTimeout}
use Rattle.sl_trace.specs.declared.reply.Reply.{Reply}
use Rattle.sl_words.proofs.CaseLaws.{none_some, some_value}
use Rattle.std.proofs.Common.{ap, append_assoc, arith, inl, inr, refl, subst, sym, tests, ◌∙◌}
use Rattle.std.proofs.lemmas.List.Elements.{Contains-append_cases}
use Rattle.std.proofs.lemmas.List.{append-nil}
use Rattle.std.specs.List.{list_any}
use Rattle.std.specs.Prelude.{Bool, Contains, List, None, Option, Some, [], cond, false, filter, find, fold, length, nat_le, nat_lt, true, ℕ, ◌++◌, ◌+◌, ◌<◌, ◌∷◌, ◌≡◌, ◌≤◌}

pub at_most : (n m : ℕ) → nat_le n m ≡ true → n ≤ m
at_most n m h = grind (arith, tests)

below : (n m : ℕ) → nat_lt n m ≡ true → n < m
below n m h = grind (arith, tests)

-- ---- a call that took too long

pub timeout_caused : (x : Step) (j : ℕ) (m : Submitted) → x.input ≡ Wake → x.effects.calls ≡ [] → waiting_call (seen x) j ≡ Some m → is_overdue x.setting x.reading m ≡ true
    → StaysCaused x (record { job = j; reply = IoTimeout m.call.number m.reading x.reading })
timeout_caused x j m wake bare waits late z later job found =
    let number : job.number ≡ j = number_is z.setting (seen z) j job found in
    let before : waiting_call x.past j ≡ Some m = ap (λ ms. find (is_of_job j) (unanswered ms)) (sym (calls_before x wake bare)) ∙ waits in (
      m,
      ap (λ t. waiting_call t job.number) later.before ∙ (ap (λ n. waiting_call x.past n) number ∙ before),
      refl,
      refl,
      later.reading,
      subst (λ st. m.reading + st.timing.io ≤ x.reading) (sym later.setting) (at_most (m.reading + x.setting.timing.io) x.reading late),
    )

-- ---- a claim whose time is over

-- The calls of an entry stand before those of the entries before it, and have no answer.
split_news : (at now : ℕ) (cs : List Call) (base : List Submitted) → (news : List Submitted) × (fold (λ ms c. new_call at now c ∷ ms) base cs ≡ news ++ base) × ((d : Submitted) → Contains news d → d.answer ≡ None)
split_news at now [] base = ([], refl, λ d there. absurd (contains_none d there))
split_news at now (c ∷ cs) base = by (split_news at now cs (new_call at now c ∷ base)) where
  by : (news : List Submitted) × (fold (λ ms d. new_call at now d ∷ ms) (new_call at now c ∷ base) cs ≡ news ++ new_call at now c ∷ base) × ((d : Submitted) → Contains news d → d.answer ≡ None)
      → (news : List Submitted) × (fold (λ ms d. new_call at now d ∷ ms) base (c ∷ cs) ≡ news ++ base) × ((d : Submitted) → Contains news d → d.answer ≡ None)
  by v = (
    v.0 ++ new_call at now c ∷ [],
    v.1 ∙ sym (append_assoc v.0 (new_call at now c ∷ []) base),
    λ d there. elim (Contains-append_cases v.0 (new_call at now c ∷ []) d there) [
      | inl old ↦ v.2 d old
      | inr new ↦ elim (contains_cases (new_call at now c) [] d new) [ inl is ↦ ap (λ (e : Submitted). e.answer) (sym is) | inr none ↦ absurd (contains_none d none) ]
    ],
  )

-- Where the newest of a session's calls is answered, none is of this entry.
none_new : (p : Submitted → Bool) (news base : List Submitted) (m : Submitted) (ms : List Submitted) → ((d : Submitted) → Contains news d → d.answer ≡ None) → filter p (news ++ base) ≡ m ∷ ms → (m.answer ≡ None → ⊥)
    → filter p base ≡ m ∷ ms
none_new p [] base m ms fresh is answered = is
none_new p (d ∷ news) base m ms fresh is answered = by (p d) is (λ h. none_new p news base m ms (λ e there. fresh e (contains_more d news e there)) h answered) where
  by : (b : Bool) → cond b (d ∷ filter p (news ++ base)) (filter p (news ++ base)) ≡ m ∷ ms → (filter p (news ++ base) ≡ m ∷ ms → filter p base ≡ m ∷ ms) → filter p base ≡ m ∷ ms
  by false h rest = rest h
  by true h rest = absurd (answered (ap (λ (e : Submitted). e.answer) (sym (head_is d m (filter p (news ++ base)) ms h)) ∙ fresh d (contains_first d news)))

calls_past : (x : Step) (s : Session) (m : Submitted) (ms : List Submitted) → x.input ≡ Wake → calls_of (seen x) s ≡ m ∷ ms → (m.answer ≡ None → ⊥) → calls_of x.past s ≡ m ∷ ms
calls_past x s m ms wake are answered = by (split_news (length x.past) x.reading x.effects.calls (mark x.past (entry_of x) x.input (submitted x.past))) where
  base : List Submitted
  base = mark x.past (entry_of x) x.input (submitted x.past)

  by : (news : List Submitted) × (submitted (seen x) ≡ news ++ base) × ((d : Submitted) → Contains news d → d.answer ≡ None) → calls_of x.past s ≡ m ∷ ms
  by v =
      ap (λ i. filter (is_call_of s) (mark x.past (entry_of x) i (submitted x.past))) (sym wake)
      ∙ none_new (is_call_of s) v.0 base m ms v.2 (ap (λ ks. filter (is_call_of s) ks) (sym v.1) ∙ are) answered

-- On a wake no session begins.
pub sessions_wake : (x : Step) → x.input ≡ Wake → sessions x.setting (seen x) ≡ sessions x.setting x.past
sessions_wake x wake = by (list_any (λ (c : Call). is_join_call FirstRead c.purpose) x.effects.calls) x.input wake where
  by : (b : Bool) (i : Input) → i ≡ Wake
      → sessions x.setting x.past ++ begun_by x.setting x.past (length (sessions x.setting x.past)) (record { reading = x.reading; input = i; effects = x.effects }) b ≡ sessions x.setting x.past
  by false i is = append-nil (sessions x.setting x.past)
  by true i is =
      ap (λ k. sessions x.setting x.past ++ begun_by x.setting x.past (length (sessions x.setting x.past)) (record { reading = x.reading; input = k; effects = x.effects }) true) is
      ∙ append-nil (sessions x.setting x.past)

late_caused : (x : Step) (s : Session) (j : ℕ) (m : Submitted) (ms : List Submitted) → x.input ≡ Wake → Contains (sessions x.setting (seen x)) s → s.job ≡ Some j → calls_of (seen x) s ≡ m ∷ ms → (m.answer ≡ None → ⊥)
    → is_join_call ClaimWrite m.call.purpose ≡ true → nat_lt (m.reading + join_max x.setting.timing) x.reading ≡ true → StaysCaused x (record { job = j; reply = IdLate m.reading x.reading })
late_caused x s j m ms wake there its are answered claims late z later job found =
    let number : job.number ≡ j = number_is z.setting (seen z) j job found in
    let before : Contains (sessions x.setting x.past) s = subst (λ ss. Contains ss s) (sessions_wake x wake) there in
    let first : join_call (m ∷ ms) ClaimWrite ≡ Some m = ap (λ b. cond b (Some m) (join_call ms ClaimWrite)) claims in (
      s,
      ap (λ st. session_of_job st z.past job.number) later.setting
          ∙ (ap (λ t. session_of_job x.setting t job.number) later.before ∙ (ap (λ n. session_of_job x.setting x.past n) number ∙ session_of_its_job x.setting x.past s j before its)),
      m,
      ap (λ t. join_call (calls_of t s) ClaimWrite) later.before ∙ (ap (λ ks. join_call ks ClaimWrite) (calls_past x s m ms wake are answered) ∙ first),
      refl,
      later.reading,
      subst (λ st. m.reading + join_max st.timing < x.reading) (sym later.setting) (below (m.reading + join_max x.setting.timing) x.reading late),
    )

is_claim : (m : Submitted) (step : JoinStep) → join_step_of m.call.purpose ≡ Some step → is_join_call step m.call.purpose ≡ true
is_claim m step is = by m.call.purpose is where
  by : (p : Purpose) → join_step_of p ≡ Some step → is_join_call step p ≡ true
  by (Joining j q) h = ap (λ k. is_join_call k (Joining j q)) (sym (some_value q step h)) ∙ same_step q
  by p h = absurd (none_some step h)

-- What is due of a joining on a wake has its cause.
pub wake_well : (these : Reply → Bool) (x : Step) (s : Session) (j : ℕ) → x.input ≡ Wake → Contains (sessions x.setting (seen x)) s → s.job ≡ Some j
    → IsWellJoin these x j (next_on_wake (delta_of_session x.setting s) x.reading (calls_of (seen x) s))
unfolding next_on_wake
wake_well these x s j wake there its = by (calls_of (seen x) s) refl where
  l : DeltaLease
  l = delta_of_session x.setting s

  on_claim : (m : Submitted) (ms : List Submitted) → calls_of (seen x) s ≡ m ∷ ms → (a : Answered) → m.answer ≡ Some a → is_join_call ClaimWrite m.call.purpose ≡ true → (over : Bool) (late : Bool) → nat_lt (m.reading + join_max l.timing) x.reading ≡ late
      → IsWellJoin these x j (elim over as (λ z. DeltaNext) [ false ↦ Nothing | true ↦ elim late as (λ z. DeltaNext) [ true ↦ RefuseJoin (IdLate m.reading x.reading) | false ↦ RegisterAndRead VerifyRead ] ])
  on_claim m ms are a is claims false late at = tt
  on_claim m ms are a is claims true false at = tt
  on_claim m ms are a is claims true true at = λ shown. late_caused x s j m ms wake there its are (λ none. none_some a (sym none ∙ is)) claims at

  watch : (b : Bool) → IsWellJoin these x j (elim b as (λ z. DeltaNext) [ true ↦ ReadOwn WatchRead | false ↦ Nothing ])
  watch true = tt
  watch false = tt

  by_step : (m : Submitted) (ms : List Submitted) → calls_of (seen x) s ≡ m ∷ ms → (a : Answered) → m.answer ≡ Some a → (step : JoinStep) → join_step_of m.call.purpose ≡ Some step → IsWellJoin these x j (next_by_time l x.reading m.reading a.reading step)
  by_step m ms are a is FirstRead at = watch (nat_le (a.reading + renew l.timing) x.reading)
  by_step m ms are a is WatchRead at = watch (nat_le (a.reading + renew l.timing) x.reading)
  by_step m ms are a is ClaimWrite at = on_claim m ms are a is (is_claim m ClaimWrite at) (nat_le (a.reading + dead l.timing) x.reading) (nat_lt (m.reading + join_max l.timing) x.reading) refl
  by_step m ms are a is DecidingRead at = tt
  by_step m ms are a is VerifyRead at = tt
  by_step m ms are a is FirstRenewal at = tt

  by_purpose : (m : Submitted) (ms : List Submitted) → calls_of (seen x) s ≡ m ∷ ms → (a : Answered) → m.answer ≡ Some a → (o : Option JoinStep) → join_step_of m.call.purpose ≡ o
      → IsWellJoin these x j (elim o as (λ z. DeltaNext) [ None ↦ Nothing | Some step ↦ next_by_time l x.reading m.reading a.reading step ])
  by_purpose m ms are a is None at = tt
  by_purpose m ms are a is (Some step) at = by_step m ms are a is step at

  by_answer : (m : Submitted) (ms : List Submitted) → calls_of (seen x) s ≡ m ∷ ms → (o : Option Answered) → m.answer ≡ o
      → IsWellJoin these x j (elim o as (λ z. DeltaNext) [ None ↦ Nothing | Some a ↦ elim (join_step_of m.call.purpose) as (λ z. DeltaNext) [ None ↦ Nothing | Some step ↦ next_by_time l x.reading m.reading a.reading step ] ])
  by_answer m ms are None is = tt
  by_answer m ms are (Some a) is = by_purpose m ms are a is (join_step_of m.call.purpose) refl

  by : (ms : List Submitted) → calls_of (seen x) s ≡ ms → IsWellJoin these x j (next_on_wake l x.reading ms)
  by [] are = tt
  by (m ∷ ms) are = by_answer m ms are m.answer refl
