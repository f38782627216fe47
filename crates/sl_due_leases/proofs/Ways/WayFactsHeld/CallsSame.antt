-- What a reply leaves of a trace's calls, and how what ways ask beside calls goes on.
use Rattle.sl_due.specs.Steps.{Step, add_reply, seen}
use Rattle.sl_due_facts.proofs.AddedEffects.CallsGrow.{any_more}
use Rattle.sl_due_facts.specs.AddedEffects.OneMoreEffect.{with_reply}
use Rattle.sl_trace.specs.Sessions.{calls_of, generation_in, generation_of, is_join_done, joined_after}
use Rattle.sl_trace.specs.Sightings.{counted_over, counts_over, evidence_in}
use Rattle.sl_trace.specs.declared.session.Session.{Session}
use Rattle.sl_trace.specs.Traces.{Replied, Setting, Submitted, Trace, answer_of, answered_in, is_before_input, is_going_on, is_running, job_of, mark, new_call, reply_in, reply_to, submitted}
use Rattle.sl_trace.specs.declared.effects.Entry.{Entry}
use Rattle.sl_trace.specs.declared.effects.JobReply.{JobReply}
use Rattle.sl_trace.specs.declared.input.Answer.{Answer}
use Rattle.sl_trace.specs.declared.input.Input.TheVariants.{Answer as Told, Exit, Line, Number, Spawned, Wake}
use Rattle.sl_trace.specs.declared.input.Input.{Input}
use Rattle.sl_trace.specs.declared.reply.Reply.{Reply}
use Rattle.sl_words.proofs.Lists.{contains_first, contains_more}
use Rattle.sl_words.proofs.CaseLaws.{false_is_true, none_some}
use Rattle.sl_words.specs.Words.{choose}
use Rattle.std.proofs.Common.{ap, inl, inr, refl, subst, sym, ◌∙◌}
use Rattle.std.specs.Option.{option_or}
use Rattle.std.specs.Prelude.{Bool, Contains, List, None, Option, Some, [], cond, false, find, fold, is_some, length, map, nat_lt, not, option_and_then, option_map, true, ℕ, ◌&&◌, ◌++◌, ◌+◌, ◌==◌, ◌∷◌, ◌≡◌, ◌⊎◌}

-- ---- replies

-- What was heard is of no job.
abbrev pub HeardNoJob : Step → Type 0
HeardNoJob x = (n : ℕ) (a : Answer) (m : Submitted) → x.input ≡ Told n a → Contains (submitted x.past) m → (m.call.number == n) ≡ true → job_of m.call.purpose ≡ None

and_false : (b : Bool) → (b && false) ≡ false
and_false true = refl
and_false false = refl

-- A reply that is none before an input refuses nothing there.
going_same : (es : Trace) (e : Entry) (a : JobReply) → is_before_input a.reply ≡ false → (o : Option ℕ) → is_going_on es (with_reply a e) o ≡ is_going_on es e o
going_same es e a late None = refl
going_same es e a late (Some job) =
    ap (λ b. is_running es job && not b)
    (any_more (λ (r : JobReply). r.job == job && is_before_input r.reply) e.effects.replies a (ap (λ b. a.job == job && b) late ∙ and_false (a.job == job)))

answered_same : (es : Trace) (e : Entry) (a : JobReply) (n : ℕ) (answer : Answer) (m : Submitted)
    → ((m.call.number == n) ≡ true → is_going_on es (with_reply a e) (job_of m.call.purpose) ≡ is_going_on es e (job_of m.call.purpose))
    → answered_in es (with_reply a e) n answer m ≡ answered_in es e n answer m
answered_same es e a n answer m same = by (m.call.number == n) same where
  by : (b : Bool) → (b ≡ true → is_going_on es (with_reply a e) (job_of m.call.purpose) ≡ is_going_on es e (job_of m.call.purpose))
      → elim b as (λ z. Submitted) [ false ↦ m | true ↦ record m { answer = option_or m.answer (Some (answer_of es (with_reply a e) answer m.call)) } ]
      ≡ elim b as (λ z. Submitted) [ false ↦ m | true ↦ record m { answer = option_or m.answer (Some (answer_of es e answer m.call)) } ]
  by false goes = refl
  by true goes =
      ap (λ h. let x : Submitted = m in record x { answer = option_or m.answer (Some (record { at = length es; reading = e.reading; answer = answer; heeded = h })) }) (goes refl)

map_same : (f g : Submitted → Submitted) (ms : List Submitted) → ((m : Submitted) → Contains ms m → f m ≡ g m) → map f ms ≡ map g ms
map_same f g [] same = refl
map_same f g (m ∷ ms) same =
    ap (λ z. z ∷ map f ms) (same m (contains_first m ms)) ∙ ap (λ zs. g m ∷ zs) (map_same f g ms (λ d there. same d (contains_more m ms d there)))

-- What a reply must be to leave what was heard as it was.
abbrev pub Leaves : Step → Reply → Type 0
Leaves x r = (is_before_input r ≡ false) ⊎ HeardNoJob x

mark_same : (es : Trace) (e : Entry) (a : JobReply) (i : Input)
    → (is_before_input a.reply ≡ false) ⊎ ((n : ℕ) (answer : Answer) (m : Submitted) → i ≡ Told n answer → Contains (submitted es) m → (m.call.number == n) ≡ true → job_of m.call.purpose ≡ None)
    → mark es (with_reply a e) i (submitted es) ≡ mark es e i (submitted es)
mark_same es e a (Told n answer) (inl late) =
    map_same (answered_in es (with_reply a e) n answer) (answered_in es e n answer) (submitted es) (λ m there. answered_same es e a n answer m (λ is. going_same es e a late (job_of m.call.purpose)))
mark_same es e a (Told n answer) (inr none) =
    map_same (answered_in es (with_reply a e) n answer) (answered_in es e n answer) (submitted es)
    (λ m there. answered_same es e a n answer m
    (λ is. ap (λ o. is_going_on es (with_reply a e) o) (none n answer m refl there is) ∙ sym (ap (λ o. is_going_on es e o) (none n answer m refl there is))))
mark_same es e a (Line text) h = refl
mark_same es e a (Number text) h = refl
mark_same es e a (Exit p) h = refl
mark_same es e a (Spawned p ok) h = refl
mark_same es e a Wake h = refl

abbrev entry_at : Step → Entry
entry_at x = record { reading = x.reading; input = x.input; effects = x.effects }

-- It leaves all calls.
pub reply_leaves : (x : Step) (j : ℕ) (r : Reply) → Leaves x r → submitted (seen (add_reply j r x)) ≡ submitted (seen x)
reply_leaves x j r h =
    ap (λ ms. fold (λ ns c. new_call (length x.past) x.reading c ∷ ns) ms x.effects.calls)
    (mark_same x.past (entry_at x) (record { job = j; reply = r }) x.input h)

-- ---- replies to jobs

find_push : {A : Type 0} (p : A → Bool) (xs : List A) (y v : A) → find p xs ≡ Some v → find p (xs ++ y ∷ []) ≡ Some v
find_push p [] y v is = absurd (none_some v is)
find_push {A} p (x ∷ xs) y v is = by (p x) is (λ rest. find_push p xs y v rest) where
  by : (b : Bool) → cond b (Some x) (find p xs) ≡ Some v → (find p xs ≡ Some v → find p (xs ++ y ∷ []) ≡ Some v) → cond b (Some x) (find p (xs ++ y ∷ [])) ≡ Some v
  by true at rest = at
  by false at rest = rest at

-- A reply that there was stays.
pub reply_stays : (e : Entry) (past : Trace) (a : JobReply) (job : ℕ) (r : Replied) → reply_to (e ∷ past) job ≡ Some r → reply_to (with_reply a e ∷ past) job ≡ Some r
reply_stays e past a job r is = by (reply_to past job) is where
  late : (o : Option JobReply) → find (λ (b : JobReply). b.job == job) e.effects.replies ≡ o → option_map (λ (b : JobReply). record { at = length past; reply = b.reply }) o ≡ Some r
      → option_map (λ (b : JobReply). record { at = length past; reply = b.reply }) (find (λ (b : JobReply). b.job == job) (e.effects.replies ++ a ∷ [])) ≡ Some r
  late None found at = absurd (none_some r at)
  late (Some b) found at = ap (λ o. option_map (λ (b : JobReply). record { at = length past; reply = b.reply }) o) (find_push (λ (b : JobReply). b.job == job) e.effects.replies a b found) ∙ at

  by : (o : Option Replied) → elim o as (λ z. Option Replied) [ Some r ↦ Some r | None ↦ reply_in job past e ] ≡ Some r → elim o as (λ z. Option Replied) [ Some r ↦ Some r | None ↦ reply_in job past (with_reply a e) ] ≡ Some r
  by (Some q) at = at
  by None at = late (find (λ (b : JobReply). b.job == job) e.effects.replies) refl at

abbrev joins : Replied → Option ℕ
joins r = choose (is_join_done r.reply) (r.at + 1)

abbrev joined_by : Trace → Option ℕ → Option ℕ
joined_by es job = elim job [ None ↦ Some 0 | Some j ↦ option_and_then joins (reply_to es j) ]

joined_at : (t u : Trace) → ((job : ℕ) (r : Replied) → reply_to t job ≡ Some r → reply_to u job ≡ Some r) → (job : Option ℕ) → is_some (joined_by t job) ≡ true → is_some (joined_by u job) ≡ true
joined_at t u stays None is = refl
joined_at t u stays (Some j) is = by (reply_to t j) refl is where
  by : (o : Option Replied) → reply_to t j ≡ o → is_some (option_and_then joins o) ≡ true → is_some (option_and_then joins (reply_to u j)) ≡ true
  by None found at = absurd (false_is_true at)
  by (Some r) found at = ap (λ o. is_some (option_and_then joins o)) (stays j r found) ∙ at

-- Who has joined has.
pub joined_stays : (t u : Trace) → ((job : ℕ) (r : Replied) → reply_to t job ≡ Some r → reply_to u job ≡ Some r) → (s : Session) → is_some (joined_after t s) ≡ true → is_some (joined_after u s) ≡ true
joined_stays t u stays s is = joined_at t u stays s.job is

-- ---- whom a session counts as over

abbrev counts_by : Setting → Session → List Submitted → Bool → ℕ → ℕ → Bool
counts_by st s ms joined a b =
    elim (is_some (evidence_in st ms a b)) as (λ z. Bool) [ true ↦ true | false ↦ a == s.id && nat_lt b (generation_in s ms) && joined ]

more_joined : (p q j k : Bool) → (j ≡ true → k ≡ true) → elim p as (λ z. Bool) [ true ↦ true | false ↦ q && j ] ≡ true → elim p as (λ z. Bool) [ true ↦ true | false ↦ q && k ] ≡ true
more_joined true q j k grows is = refl
more_joined false true j k grows is = grows is
more_joined false false j k grows is = absurd (false_is_true is)

-- Where it has the same calls, and has joined if it had.
pub counts_more : (st : Setting) (t u : Trace) (s : Session) → calls_of u s ≡ calls_of t s → (is_some (joined_after t s) ≡ true → is_some (joined_after u s) ≡ true) → (a b : ℕ)
    → counts_over st t s a b ≡ true → counts_over st u s a b ≡ true
counts_more st t u s same grows a b is =
    subst (λ ms. counts_by st s ms (is_some (joined_after u s)) a b ≡ true) (sym same)
    (more_joined (is_some (evidence_in st (calls_of t s) a b)) (a == s.id && nat_lt b (generation_of t s)) (is_some (joined_after t s)) (is_some (joined_after u s)) grows is)

-- What was counted so in an entry, or before it, stays so.
pub counted_more : (st : Setting) (d e : Entry) (past : Trace) (s : Session) (a b : ℕ) → (counts_over st (d ∷ past) s a b ≡ true → counts_over st (e ∷ past) s a b ≡ true)
    → counted_over st (d ∷ past) s a b ≡ true → counted_over st (e ∷ past) s a b ≡ true
counted_more st d e past s a b more is = by (counts_over st (d ∷ past) s a b) (counts_over st (e ∷ past) s a b) more is where
  by : (p q : Bool) → (p ≡ true → q ≡ true) → elim p as (λ z. Bool) [ true ↦ true | false ↦ counted_over st past s a b ] ≡ true → elim q as (λ z. Bool) [ true ↦ true | false ↦ counted_over st past s a b ] ≡ true
  by p true more at = refl
  by true false more at = absurd (false_is_true (more refl))
  by false false more at = at
