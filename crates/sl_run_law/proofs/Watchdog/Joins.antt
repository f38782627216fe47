-- A session joins by the answer of its first renewal: from that entry on the renewal counts.
use Rattle.sl_run.proofs.LawFacts.{orderly-front}
use Rattle.sl_run.specs.Lawful.{Orderly}
use Rattle.sl_words.proofs.Lists.{contains_cases, contains_first, contains_more, contains_none, find_inside, got_inside}
use Rattle.sl_run_law.proofs.Sessions.JoiningsInTurn.{joined_before}
use Rattle.sl_run_law.proofs.Sessions.CallsAreMade.{SameCall, old_or_new, same_answered}
use Rattle.sl_run_law.specs.Sessions.SessionLaws.{IsSession}
use Rattle.sl_trace.specs.Sessions.{calls_of, is_call_of, is_join_call, is_join_done, is_joined, is_renewal, joined_after, last_renewal, recovery_of, removed_after, renewed_by, renewing, sessions, shows_other}
use Rattle.sl_trace.specs.declared.session.Begun.{Begun}
use Rattle.sl_trace.specs.declared.session.Renewing.{Renewing}
use Rattle.sl_trace.specs.declared.session.Session.{Session}
use Rattle.sl_time.specs.Times.{fail}
use Rattle.sl_trace.specs.Traces.{Answered, Replied, Setting, Submitted, Trace, answer_of, answered_in, call_numbered, mark, reply_in, reply_to, submitted}
use Rattle.sl_trace.specs.declared.effects.Entry.{Entry}
use Rattle.sl_trace.specs.declared.effects.JobReply.{JobReply}
use Rattle.sl_trace.specs.declared.effects.JoinStep.TheVariants.{ClaimWrite, DecidingRead, FirstRead, FirstRenewal, VerifyRead, WatchRead}
use Rattle.sl_trace.specs.declared.effects.Purpose.TheVariants.{RequestRead, RequestWrite, Joining, Lease, Leaving, Renewal, SeeRequest, Survey, ValueRead, ValueWrite}
use Rattle.sl_trace.specs.declared.effects.Purpose.{Purpose}
use Rattle.sl_trace.specs.declared.input.Answer.TheVariants.{Written}
use Rattle.sl_trace.specs.declared.input.Answer.{Answer}
use Rattle.sl_trace.specs.declared.input.Input.TheVariants.{Answer as Told, Exit, Line, Number, Spawned, Wake}
use Rattle.sl_trace.specs.declared.input.Input.{Input}
use Rattle.sl_run_law.proofs.Watchdog.FoundCalls.{call_owner}
use Rattle.sl_run_law.proofs.Watchdog.TraceNumbers.{call_found, given_first, given_later}
use Rattle.sl_run_law.proofs.Watchdog.Readings.{Counts, NextRenewal, Stays, after_by, in_by, next_renewal}
use Rattle.sl_run_law.proofs.Watchdog.OneOpenRenewal.{IsOpenRenewal, told_is_open}
use Rattle.sl_run_law.proofs.Watchdog.ConnectionStands.{older_call}
use Rattle.sl_run_law.specs.Watchdog.ActingTimes.{renewal_entry, renewal_in, renewal_told}
use Rattle.sl_words.proofs.CaseLaws.{false_is_true, no_value, none_some, one_value, some_value, true_is_false}
use Rattle.sl_words.proofs.WordLaws.{choose_some}
use Rattle.sl_words.specs.Words.{choose}
use Rattle.std.proofs.Common.{ap, arith, inl, inr, refl, subst, sym, ◌∙◌}
use Rattle.std.proofs.lemmas.Bool.{and_left, eq-eqb, eqb-true}
use Rattle.std.specs.Option.{option_or}
use Rattle.std.specs.Prelude.{Bool, Contains, List, None, Option, Some, [], false, find, is_none, is_some, length, map, nat_le, option_and_then, option_map, suc, true, ℕ, ◌&&◌, ◌+◌, ◌<◌, ◌==◌, ◌∷◌, ◌≡◌, ◌⊎◌}

-- ---- which entry brought an answer

-- The entry after these answered the call now.
pub record AnsweredNow (past : Trace) (e : Entry) (ms : List Submitted) (m : Submitted) (a : Answered) : Type 0 where
  pub before : Submitted
  pub inside : Contains ms before
  pub same : SameCall m before
  pub told : e.input ≡ Told before.call.number a.answer
  pub place : a.at ≡ length past

-- It was answered before.
pub record AnsweredBefore (ms : List Submitted) (a : Answered) : Type 0 where
  pub before : Submitted
  pub inside : Contains ms before
  pub was : before.answer ≡ Some a

abbrev Brought : Trace → Entry → List Submitted → Submitted → Answered → Type 0
Brought past e ms m a = AnsweredBefore ms a ⊎ AnsweredNow past e ms m a

abbrev answered_by : Bool → Submitted → Answered → Submitted
answered_by t m a = elim t as (λ x. Submitted) [ false ↦ m | true ↦ record m { answer = option_or m.answer (Some a) } ]

brought_by : (past : Trace) (e : Entry) (n : ℕ) (w : Answer) (x : Submitted) (a : Answered) (ms : List Submitted) → e.input ≡ Told n w → Contains ms x
    → (t : Bool) → (x.call.number == n) ≡ t → (o : Option Answered) → x.answer ≡ o → (answered_by t x (answer_of past e w x.call)).answer ≡ Some a
    → (SameCall (answered_by t x (answer_of past e w x.call)) x) → Brought past e ms (answered_by t x (answer_of past e w x.call)) a
brought_by past e n w x a ms i there false is o was h same = inl (record { before = x; inside = there; was = h })
brought_by past e n w x a ms i there true is (Some b) was h same =
    inl (record { before = x; inside = there; was = was ∙ sym (ap (λ q. option_or q (Some (answer_of past e w x.call))) was) ∙ h })
brought_by past e n w x a ms i there true is None was h same =
    let now : answer_of past e w x.call ≡ a = some_value (answer_of past e w x.call) a (sym (ap (λ q. option_or q (Some (answer_of past e w x.call))) was) ∙ h) in
    inr (record {
      before = x;
      inside = there;
      same = same;
      told = i ∙ ap (λ k. Told k w) (sym (eqb-true x.call.number n is)) ∙ ap (λ (b : Answered). Told x.call.number b.answer) now;
      place = ap (λ (b : Answered). b.at) (sym now);
    })

brought_more : (past : Trace) (e : Entry) (x : Submitted) (ms : List Submitted) (m : Submitted) (a : Answered) → Brought past e ms m a → Brought past e (x ∷ ms) m a
brought_more past e x ms m a (inl b) = inl (record { before = b.before; inside = contains_more x ms b.before b.inside; was = b.was })
brought_more past e x ms m a (inr b) =
    inr (record { before = b.before; inside = contains_more x ms b.before b.inside; same = b.same; told = b.told; place = b.place })

brought_told : (past : Trace) (e : Entry) (n : ℕ) (w : Answer) (ms : List Submitted) (m : Submitted) (a : Answered) → e.input ≡ Told n w → Contains (map (answered_in past e n w) ms) m
    → m.answer ≡ Some a → Brought past e ms m a
brought_told past e n w [] m a i there h = absurd (contains_none m there)
brought_told past e n w (x ∷ ms) m a i there h =
    elim (contains_cases (answered_in past e n w x) (map (answered_in past e n w) ms) m there) as (λ z. Brought past e (x ∷ ms) m a) [
      | inl is ↦
          subst (λ (y : Submitted). Brought past e (x ∷ ms) y a) is
          (brought_by past e n w x a (x ∷ ms) i (contains_first x ms) (x.call.number == n) refl x.answer refl (ap (λ (y : Submitted). y.answer) is ∙ h) (same_answered past e n w x))
      | inr more ↦ brought_more past e x ms m a (brought_told past e n w ms m a i more h)
    ]

brought_in : (past : Trace) (e : Entry) (i : Input) (ms : List Submitted) (m : Submitted) (a : Answered) → e.input ≡ i → Contains (mark past e i ms) m → m.answer ≡ Some a → Brought past e ms m a
brought_in past e (Told n w) ms m a is there h = brought_told past e n w ms m a is there h
brought_in past e (Line text) ms m a is there h = inl (record { before = m; inside = there; was = h })
brought_in past e (Number text) ms m a is there h = inl (record { before = m; inside = there; was = h })
brought_in past e (Exit p) ms m a is there h = inl (record { before = m; inside = there; was = h })
brought_in past e (Spawned p ok) ms m a is there h = inl (record { before = m; inside = there; was = h })
brought_in past e Wake ms m a is there h = inl (record { before = m; inside = there; was = h })

pub brought : (past : Trace) (e : Entry) (m : Submitted) (a : Answered) → Contains (submitted (e ∷ past)) m → m.answer ≡ Some a
    → Contains (mark past e e.input (submitted past)) m × Brought past e (submitted past) m a
brought past e m a there h =
    elim (old_or_new (length past) e.reading e.effects.calls (mark past e e.input (submitted past)) m there)
    as (λ z. Contains (mark past e e.input (submitted past)) m × Brought past e (submitted past) m a) [
      | inl old ↦ (old, brought_in past e e.input (submitted past) m a refl old h)
      | inr new ↦ absurd (none_some a (sym new.unmet ∙ h))
    ]

-- An answer came by one of the entries.
pub answered_within : (es : Trace) (m : Submitted) (a : Answered) → Contains (submitted es) m → m.answer ≡ Some a → a.at < length es
answered_within [] m a there h = absurd (contains_none m there)
answered_within (e ∷ past) m a there h =
    elim ((brought past e m a there h).1) as (λ z. a.at < suc (length past)) [
      | inl b ↦ let r = answered_within past b.before a b.inside b.was in omega (arith, r)
      | inr b ↦ let r = b.place in omega (arith, r)
    ]

-- ---- joining

joined_by : (o p : Option Replied) (k n : ℕ) → option_and_then (λ (r : Replied). choose (is_join_done r.reply) (r.at + 1)) (elim o as (λ x. Option Replied) [ Some r ↦ Some r | None ↦ p ]) ≡ Some k
    → option_and_then (λ (r : Replied). choose (is_join_done r.reply) (r.at + 1)) o ≡ None → ((r : Replied) → p ≡ Some r → r.at ≡ n) → k ≡ n + 1
joined_by (Some r) p k n h none at = absurd (none_some k (sym none ∙ h))
joined_by None None k n h none at = absurd (none_some k h)
joined_by None (Some r) k n h none at =
    let c = (choose_some (is_join_done r.reply) (r.at + 1) k h).1 in
    let w = at r refl in
    omega (arith, c, w)

replied_by : (n : ℕ) (o : Option JobReply) (f : JobReply → Replied) (r : Replied) → ((x : JobReply) → (f x).at ≡ n) → option_map f o ≡ Some r → r.at ≡ n
replied_by n None f r each h = absurd (none_some r h)
replied_by n (Some x) f r each h = ap (λ (y : Replied). y.at) (sym (some_value (f x) r h)) ∙ each x

replied_at : (j : ℕ) (past : Trace) (e : Entry) (r : Replied) → reply_in j past e ≡ Some r → r.at ≡ length past
replied_at j past e r h =
    replied_by (length past) (find (λ a. a.job == j) e.effects.replies) (λ a. record { at = length past; reply = a.reply }) r (λ x. refl) h

abbrev joined_for : Trace → ℕ → Option ℕ
joined_for es j = option_and_then (λ (r : Replied). choose (is_join_done r.reply) (r.at + 1)) (reply_to es j)

abbrev joined_with : Trace → Option ℕ → Option ℕ
joined_with es job = elim job [ None ↦ Some 0 | Some j ↦ joined_for es j ]

job_by : (past : Trace) (job : Option ℕ) → joined_with past job ≡ None → (j : ℕ) × (job ≡ Some j)
job_by past None h = absurd (none_some 0 (sym h))
job_by past (Some j) h = (j, refl)

-- A session that isn't joined at first has a job.
pub job_of_joining : (past : Trace) (s : Session) → joined_after past s ≡ None → (j : ℕ) × (s.job ≡ Some j)
job_of_joining past s h = job_by past s.job h

joined_place : (e : Entry) (past : Trace) (s : Session) (j k : ℕ) → s.job ≡ Some j → joined_after past s ≡ None → joined_after (e ∷ past) s ≡ Some k → k ≡ length past + 1
joined_place e past s j k job none h =
    joined_by (reply_to past j) (reply_in j past e) k (length past) (sym (ap (joined_with (e ∷ past)) job) ∙ h) (sym (ap (joined_with past) job) ∙ none) (λ r is. replied_at j past e r is)

renewal_by : (p : Purpose) → is_join_call FirstRenewal p ≡ true → is_renewal p ≡ true
renewal_by (Joining j FirstRenewal) h = refl
renewal_by (Joining j FirstRead) h = absurd (false_is_true h)
renewal_by (Joining j WatchRead) h = absurd (false_is_true h)
renewal_by (Joining j DecidingRead) h = absurd (false_is_true h)
renewal_by (Joining j ClaimWrite) h = absurd (false_is_true h)
renewal_by (Joining j VerifyRead) h = absurd (false_is_true h)
renewal_by Renewal h = refl
renewal_by Survey h = absurd (false_is_true h)
renewal_by (Leaving j) h = absurd (false_is_true h)
renewal_by (Lease work step) h = absurd (false_is_true h)
renewal_by (RequestRead j) h = absurd (false_is_true h)
renewal_by (RequestWrite j o) h = absurd (false_is_true h)
renewal_by SeeRequest h = absurd (false_is_true h)
renewal_by (ValueWrite j) h = absurd (false_is_true h)
renewal_by (ValueRead j) h = absurd (false_is_true h)

-- The first renewal of a session that has joined, with its answer.
record FirstDone (t : Trace) (s : Session) (k : ℕ) : Type 0 where
  call : Submitted
  inside : Contains (submitted t) call
  mine : call.call.session ≡ s.number
  renews : is_renewal call.call.purpose ≡ true
  answer : Answered
  answered : call.answer ≡ Some answer
  ok : answer.answer ≡ Written
  place : answer.at + 1 ≡ k

first_done : (st : Setting) (e : Entry) (past : Trace) (s : Session) (j k : ℕ) → Orderly st (e ∷ past) → IsSession st (e ∷ past) s → s.job ≡ Some j → joined_after (e ∷ past) s ≡ Some k
    → FirstDone (e ∷ past) s k
first_done st e past s j k h its job joined =
    let l = h.delta.0.joins s (got_inside (sessions st (e ∷ past)) s.number s its) j k job joined in
    let f = find_inside (λ (m : Submitted). is_join_call FirstRenewal m.call.purpose) (calls_of (e ∷ past) s) l.renewal l.first in
    let o = call_owner (e ∷ past) s l.renewal f.0 in
    record {
      call = l.renewal;
      inside = o.0;
      mine = o.1;
      renews = renewal_by l.renewal.call.purpose f.1;
      answer = l.answer;
      answered = l.done.0;
      ok = l.done.1;
      place = l.done.2;
    }

-- A session that has joined had begun before.
was_by : (st : Setting) (e : Entry) (past : Trace) (s : Session) (k : ℕ) → Orderly st (e ∷ past) → IsSession st (e ∷ past) s → joined_after (e ∷ past) s ≡ Some k
    → (job : Option ℕ) → s.job ≡ job → IsSession st past s
was_by st e past s k h its joined None job = given_later st past s.number s (given_first st (e ∷ past) s.number s its job)
was_by st e past s k h its joined (Some j) job =
    let f = first_done st e past s j k h its job joined in
    (older_call st e past s f.call h its (brought past e f.call f.answer f.inside f.answered).0 f.mine).its

pub was_session : (st : Setting) (e : Entry) (past : Trace) (s : Session) (k : ℕ) → Orderly st (e ∷ past) → IsSession st (e ∷ past) s → joined_after (e ∷ past) s ≡ Some k → IsSession st past s
was_session st e past s k h its joined = was_by st e past s k h its joined s.job refl

-- ---- no recovery before

recovery_by : (es : Trace) (e : Entry) (r : Renewing) (begun : Option Begun) (late other : Bool) (told : Option ℕ) → begun ≡ None → late ≡ false → other ≡ false → r.recovery ≡ None
    → (after_by es e r begun late other told).recovery ≡ None
recovery_by es e r (Some b) late other told is f g h = absurd (none_some b (sym is))
recovery_by es e r None true other told is f g h = absurd (true_is_false f)
recovery_by es e r None false true told is f g h = absurd (true_is_false g)
recovery_by es e r None false false told is f g h = h

not_joined : (es : Trace) (s : Session) → joined_after es s ≡ None → is_joined es s ≡ false
not_joined es s none = ap (λ o. is_some o && is_none (removed_after es s)) none

unrecovered : (st : Setting) (es : Trace) (s : Session) → joined_after es s ≡ None → recovery_of st es s ≡ None
unrecovered st [] s none = refl
unrecovered st (e ∷ es) s none =
    let before = joined_before e es s (joined_after es s) refl none in
    let out = not_joined es s before in
    let rest = unrecovered st es s before in
    recovery_by es e (renewing st es s) (recovery_of st es s) (is_joined es s && nat_le ((renewing st es s).last + fail st.timing) e.reading)
    (is_joined es s && shows_other st es s e.input) (renewed_by es s e.input) rest
    (and_left (is_joined es s) (nat_le ((renewing st es s).last + fail st.timing) e.reading) out)
    (and_left (is_joined es s) (shows_other st es s e.input) out) rest

in_told : (begun : Option Begun) (late other : Bool) (told : Option Submitted) → begun ≡ None → late ≡ false → other ≡ false → in_by begun late other told ≡ told
in_told (Some b) late other told is f g = absurd (none_some b (sym is))
in_told None true other told is f g = absurd (true_is_false f)
in_told None false true told is f g = absurd (true_is_false g)
in_told None false false told is f g = refl

renewal_is : (st : Setting) (past : Trace) (s : Session) (e : Entry) → joined_after past s ≡ None → renewal_in st past s e ≡ renewal_told past s e.input
renewal_is st past s e none =
    let out = not_joined past s none in
    in_told (recovery_of st past s) (is_joined past s && nat_le (last_renewal st past s + fail st.timing) e.reading) (is_joined past s && shows_other st past s e.input)
    (renewal_told past s e.input) (unrecovered st past s none)
    (and_left (is_joined past s) (nat_le (last_renewal st past s + fail st.timing) e.reading) out) (and_left (is_joined past s) (shows_other st past s e.input) out)

-- ---- the entry by which it joins

both_chosen : (p q : Bool) (m : Submitted) → p ≡ true → q ≡ true → choose (p && q) m ≡ Some m
both_chosen true q m h k = ap (λ b. choose b m) k
both_chosen false q m h k = absurd (false_is_true h)

told_so : (past : Trace) (s : Session) (n : ℕ) (m : Submitted) → call_numbered past n ≡ Some m → is_call_of s m ≡ true → is_renewal m.call.purpose ≡ true
    → renewal_told past s (Told n Written) ≡ Some m
told_so past s n m found its renews =
    ap (λ o. option_and_then (λ (x : Submitted). choose (is_call_of s x && is_renewal x.call.purpose) x) o) found
    ∙ both_chosen (is_call_of s m) (is_renewal m.call.purpose) m its renews

-- The renewal by which the session joins.
pub record JoinsNow (st : Setting) (past : Trace) (s : Session) (e : Entry) : Type 0 where
  pub renewal : Submitted
  pub unmet : IsOpenRenewal past s renewal
  pub entry : renewal_in st past s e ≡ Some renewal
  pub counts : last_renewal st (e ∷ past) s ≡ renewal.reading

counts_by : (st : Setting) (past : Trace) (s : Session) (e : Entry) (m : Submitted) → renewal_in st past s e ≡ Some m → NextRenewal st past s e → last_renewal st (e ∷ past) s ≡ m.reading
counts_by st past s e m is (Stays none same) = absurd (no_value m (renewal_in st past s e) is none)
counts_by st past s e m is (Counts n in_it told_is now) =
    now ∙ ap (λ (x : Submitted). x.reading) (one_value n m (renewal_in st past s e) in_it is)

now_by : (st : Setting) (e : Entry) (past : Trace) (s : Session) (k : ℕ) → Orderly st (e ∷ past) → joined_after past s ≡ None → k ≡ length past + 1 → (f : FirstDone (e ∷ past) s k)
    → Brought past e (submitted past) f.call f.answer → JoinsNow st past s e
now_by st e past s k h none at f (inl b) =
    let r = answered_within past b.before f.answer b.inside b.was in
    let p = f.place in
    absurd (omega (arith, r, p, at))
now_by st e past s k h none at f (inr b) =
    let c = ap (λ c. c.purpose) (sym b.same.call) in
    let n : ℕ = b.before.call.number in
    let told_is : renewal_told past s e.input ≡ Some b.before =
    ap (renewal_told past s) (b.told ∙ ap (λ a. Told n a) f.ok)
    ∙ told_so past s n b.before (call_found st past b.before h.is_trace.1 b.inside)
    (eq-eqb b.before.call.session s.number (ap (λ x. x.session) (sym b.same.call) ∙ f.mine)) (ap is_renewal c ∙ f.renews) in
    let entry = renewal_is st past s e none ∙ told_is in
    record {
      renewal = b.before;
      unmet = told_is_open st e past s b.before h told_is;
      entry = entry;
      counts = counts_by st past s e b.before entry (next_renewal st past s e);
    }

pub joins_now : (st : Setting) (e : Entry) (past : Trace) (s : Session) (k : ℕ) → Orderly st (e ∷ past) → IsSession st (e ∷ past) s → joined_after past s ≡ None
    → joined_after (e ∷ past) s ≡ Some k → JoinsNow st past s e
joins_now st e past s k h its none joined =
    let j = job_of_joining past s none in
    let f = first_done st e past s j.0 k h its j.1 joined in
    now_by st e past s k h none (joined_place e past s j.0 k j.1 none joined) f (brought past e f.call f.answer f.inside f.answered).1

-- ---- so a renewal counts for each session that a trace joined

abbrev entry_by : Option Submitted → Option ℕ → Option ℕ
entry_by now before = elim now [ Some m ↦ Some m.at | None ↦ before ]

still_entry : (now : Option Submitted) (before : Option ℕ) → is_some before ≡ true → is_some (entry_by now before) ≡ true
still_entry None before h = h
still_entry (Some m) before h = refl

pub has_renewal : (st : Setting) (es : Trace) (s : Session) (j k : ℕ) → Orderly st es → IsSession st es s → s.job ≡ Some j → joined_after es s ≡ Some k
    → is_some (renewal_entry st es s) ≡ true
has_renewal st [] s j k h its job joined = absurd (none_some k (sym (ap (joined_with []) job) ∙ joined))
has_renewal st (e ∷ past) s j k h its job joined =
    has_by (joined_after past s) refl
    (λ i was. has_renewal st past s j i (orderly-front st (e ∷ []) past h) (was_session st e past s k h its joined) job was)
  where
    has_by : (o : Option ℕ) → joined_after past s ≡ o → ((i : ℕ) → joined_after past s ≡ Some i → is_some (renewal_entry st past s) ≡ true) → is_some (renewal_entry st (e ∷ past) s) ≡ true
    has_by (Some i) is more = still_entry (renewal_in st past s e) (renewal_entry st past s) (more i is)
    has_by None is more = ap (λ o. is_some (entry_by o (renewal_entry st past s))) (joins_now st e past s k h its is joined).entry
