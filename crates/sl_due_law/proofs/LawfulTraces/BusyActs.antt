-- Each act leaves every running job waiting, where what is asked of lines and of leases is so.
use Rattle.sl_due_facts.specs.Acts.TraceSoFar.{entry_of}
use Rattle.sl_due.specs.DueCommands.{answer_line}
use Rattle.sl_due.specs.Steps.{Step, add_reply, seen, with_input}
use Rattle.sl_due_law.proofs.LawfulTraces.WaitsStay.{AllButWait, waits_effects}
use Rattle.sl_due_law.specs.LawfulTraces.Busy.{AllWait, For_call, For_child, For_leaving, For_session, Waits, told_by}
use Rattle.sl_due_leases.proofs.Grants.Values.ReadsByInputs.{child_same, has_number}
use Rattle.sl_due_facts.proofs.Jobs.CallsHaveFacts.{calls_before, sessions_told}
use Rattle.sl_due_facts.proofs.Jobs.JobFactsGrow.{contains_left}
use Rattle.sl_due_facts.proofs.Jobs.JobsAreAllowed.{calls_heard}
use Rattle.sl_due_facts.proofs.Jobs.JobsAreNumbered.{next_before}
use Rattle.sl_due_facts.proofs.Jobs.NearlyPlainActs.{is_command_line}
use Rattle.sl_due_facts.proofs.Jobs.SessionsHaveJobs.{contains_either, contains_only}
use Rattle.sl_due_facts.proofs.Jobs.SessionsStand.{reply_stops}
use Rattle.sl_words.proofs.Lists.{contains_map, find_inside}
use Rattle.sl_words.proofs.Numbers.{number_itself}
use Rattle.sl_trace.specs.Sessions.{leaving_in, leaving_job}
use Rattle.sl_due_facts.specs.Facts.HeardCall.{heard_by}
use Rattle.sl_trace.specs.Traces.{Child, Job, Submitted, answer_of, answered_in, child_after, child_numbered, children, is_running, job_of, jobs, new_child, next_job, submitted}
use Rattle.sl_trace.specs.declared.effects.Call.{Call}
use Rattle.sl_trace.specs.declared.input.Input.{Input}
use Rattle.sl_trace.specs.declared.input.Input.TheVariants.{Answer as Told, Exit, Line, Number, Spawned, Wake}
use Rattle.sl_trace.specs.declared.reply.Reply.{Reply}
use Rattle.sl_run_law.proofs.Sessions.CallsAreMade.{same_answered}
use Rattle.sl_words.proofs.CaseLaws.{none_some, not_both, some_value, true_is_false}
use Rattle.std.proofs.Common.{ap, inl, inr, refl, subst, sym, ◌∙◌}
use Rattle.std.proofs.lemmas.Bool.{eqb-true}
use Rattle.std.specs.Option.{option_or}
use Rattle.std.specs.Prelude.{Bool, Contains, List, None, Option, Some, [], cond, false, find, length, map, true, ℕ, ◌++◌, ◌==◌, ◌∷◌, ◌≡◌, ◌⊎◌}

abbrev pub Busy : Step → Type 0
Busy x = AllWait x.setting (seen x) None (told_by x.input)

abbrev pub BusyHeard : Step → Type 0
BusyHeard x = AllWait x.setting (seen x) (heard_by x.input) (told_by x.input)

-- ---- all but one, and the one

pub all_of : (y : Step) (told new : Option ℕ) → AllButWait told new y → ((j : ℕ) → new ≡ Some j → is_running (seen y) j ≡ true → Waits y.setting (seen y) None told j) → AllWait y.setting (seen y) None told
all_of y told new h one = λ j there runs. by j there runs new refl where
  by : (j : Job) → Contains (jobs y.setting (seen y)) j → is_running (seen y) j.number ≡ true → (o : Option ℕ) → new ≡ o → Waits y.setting (seen y) None told j.number
  by j there runs None is = h j there runs (λ same. none_some j.number (sym is ∙ sym same))
  by j there runs (Some n) is = number (n == j.number) refl where
    number : (b : Bool) → (n == j.number) ≡ b → Waits y.setting (seen y) None told j.number
    number true same = one j.number (is ∙ ap (λ k. Some k) (eqb-true n j.number same)) runs
    number false other = h j there runs (λ same. not_both (n == j.number) (ap (λ k. k == j.number) (some_value n j.number (sym is ∙ sym same)) ∙ number_itself j.number) other)

pub but_none : (y : Step) (told new : Option ℕ) → AllWait y.setting (seen y) None told → AllButWait told new y
but_none y told new h = λ j there runs other. h j there runs

-- ---- inputs but lines

child_seen : (i : Input) (k : Child) → k.answer ≡ None → ((child_after i k).job ≡ k.job) × (((child_after i k).answer ≡ None) ⊎ (told_by i ≡ Some (child_after i k).process))
child_seen (Spawned p ok) k opens = by (p == k.process) refl where
  by : (b : Bool) → (p == k.process) ≡ b
      → ((elim b as (λ z. Child) [ false ↦ k | true ↦ record k { answer = option_or k.answer (Some ok) } ]).job ≡ k.job)
      × (((elim b as (λ z. Child) [ false ↦ k | true ↦ record k { answer = option_or k.answer (Some ok) } ]).answer ≡ None) ⊎ (Some p ≡ Some (elim b as (λ z. Child) [ false ↦ k | true ↦ record k { answer = option_or k.answer (Some ok) } ]).process))
  by true is = (refl, inr (ap (λ n. Some n) (eqb-true p k.process is)))
  by false is = (refl, inl opens)
child_seen (Exit p) k opens = by (p == k.process) where
  by : (b : Bool) → ((elim b as (λ z. Child) [ false ↦ k | true ↦ record k { exited = true } ]).job ≡ k.job)
      × (((elim b as (λ z. Child) [ false ↦ k | true ↦ record k { exited = true } ]).answer ≡ None) ⊎ (None ≡ Some (elim b as (λ z. Child) [ false ↦ k | true ↦ record k { exited = true } ]).process))
  by true = (refl, inl opens)
  by false = (refl, inl opens)
child_seen (Told n a) k opens = (refl, inl opens)
child_seen (Line text) k opens = (refl, inl opens)
child_seen (Number text) k opens = (refl, inl opens)
child_seen Wake k opens = (refl, inl opens)

-- A child whose start is open, once an input is seen.
open_child : (i : Input) (n : ℕ) (ks ns : List Child) (k : Child) → find (has_number n) (map (child_after Wake) ks ++ ns) ≡ Some k → k.answer ≡ None
    → (c : Child) × (find (has_number n) (map (child_after i) ks ++ ns) ≡ Some c) × (c.job ≡ k.job) × ((c.answer ≡ None) ⊎ (told_by i ≡ Some c.process))
open_child i n [] ns k is opens = (k, is, refl, inl opens)
open_child i n (d ∷ ks) ns k is opens = by (d.process == n) refl (λ rest. open_child i n ks ns k rest opens) where
  was : (b : Bool) → (d.process == n) ≡ b → cond b (Some d) (find (has_number n) (map (child_after Wake) ks ++ ns)) ≡ Some k
  was b at = ap (λ z. cond z (Some d) (find (has_number n) (map (child_after Wake) ks ++ ns))) (sym at) ∙ is

  then : (b : Bool) → (d.process == n) ≡ b → (o : Option Child) → cond b (Some (child_after i d)) (find (has_number n) (map (child_after i) ks ++ ns)) ≡ o
      → find (has_number n) (map (child_after i) (d ∷ ks) ++ ns) ≡ o
  then b at o found = ap (λ z. cond z (Some (child_after i d)) (find (has_number n) (map (child_after i) ks ++ ns))) (ap (λ m. m == n) (child_same i d) ∙ at) ∙ found

  by : (b : Bool) → (d.process == n) ≡ b
      → (find (has_number n) (map (child_after Wake) ks ++ ns) ≡ Some k → (c : Child) × (find (has_number n) (map (child_after i) ks ++ ns) ≡ Some c) × (c.job ≡ k.job) × ((c.answer ≡ None) ⊎ (told_by i ≡ Some c.process)))
      → (c : Child) × (find (has_number n) (map (child_after i) (d ∷ ks) ++ ns) ≡ Some c) × (c.job ≡ k.job) × ((c.answer ≡ None) ⊎ (told_by i ≡ Some c.process))
  by true at rest =
      let same : d ≡ k = some_value d k (was true at) in
      let c = child_seen i d (ap (λ (z : Child). z.answer) same ∙ opens) in (child_after i d, then true at (Some (child_after i d)) refl, c.0 ∙ ap (λ (z : Child). z.job) same, c.1)
  by false at rest = let c = rest (was false at) in (c.0, then false at (Some c.0) c.1, c.2, c.3)

children_seen : (x : Step) (i : Input) (k : Child) (j : ℕ) → child_numbered (seen (with_input Wake x)) k.process ≡ Some k → k.job ≡ Some j → k.answer ≡ None
    → (c : Child) × (child_numbered (seen (with_input i x)) c.process ≡ Some c) × (c.job ≡ Some j) × ((c.answer ≡ None) ⊎ (told_by i ≡ Some c.process))
children_seen x i k j there its opens =
    let c = open_child i k.process (children x.past) (map new_child x.effects.starts) k there opens in
    let number : c.0.process ≡ k.process = eqb-true c.0.process k.process (find_inside (has_number k.process) (map (child_after i) (children x.past) ++ map new_child x.effects.starts) c.0 c.1).1 in
    (c.0, subst (λ n. child_numbered (seen (with_input i x)) n ≡ Some c.0) (sym number) c.1, c.2 ∙ its, c.3)

-- A call without an answer, once an input is seen.
calls_seen : (x : Step) (i : Input) (m : Submitted) (j : ℕ) → x.effects.calls ≡ [] → Contains (submitted (seen (with_input Wake x))) m → m.answer ≡ None → job_of m.call.purpose ≡ Some j
    → (d : Submitted) × Contains (submitted (seen (with_input i x))) d × ((d.answer ≡ None) ⊎ (heard_by i ≡ Some d.call.number)) × (job_of d.call.purpose ≡ Some j)
calls_seen x (Told n a) m j bare there opens of = by (m.call.number == n) refl where
  old : Contains (submitted x.past) m
  old = subst (λ ms. Contains ms m) (calls_before (with_input Wake x) refl bare) there

  d : Submitted
  d = answered_in x.past (entry_of (with_input (Told n a) x)) n a m

  inside : Contains (submitted (seen (with_input (Told n a) x))) (answered_in x.past (entry_of (with_input (Told n a) x)) n a m)
  inside = subst (λ ms. Contains ms (answered_in x.past (entry_of (with_input (Told n a) x)) n a m)) (sym (calls_heard (with_input (Told n a) x) n a refl bare)) (contains_map (answered_in x.past (entry_of (with_input (Told n a) x)) n a) (submitted x.past) m old)

  same : (answered_in x.past (entry_of (with_input (Told n a) x)) n a m).call ≡ m.call
  same = (same_answered x.past (entry_of (with_input (Told n a) x)) n a m).call

  by : (b : Bool) → (m.call.number == n) ≡ b
      → (c : Submitted) × Contains (submitted (seen (with_input (Told n a) x))) c × ((c.answer ≡ None) ⊎ (Some n ≡ Some c.call.number)) × (job_of c.call.purpose ≡ Some j)
  by true is = (d, inside, inr (ap (λ k. Some k) (sym (eqb-true m.call.number n is) ∙ ap (λ (c : Call). c.number) (sym same))), ap (λ (c : Call). job_of c.purpose) same ∙ of)
  by false is = (
    d,
    inside,
    inl (ap (λ b. (elim b as (λ z. Submitted) [ false ↦ m | true ↦ record m { answer = option_or m.answer (Some (answer_of x.past (entry_of (with_input (Told n a) x)) a m.call)) } ]).answer) is ∙ opens),
    ap (λ (c : Call). job_of c.purpose) same ∙ of,
  )
calls_seen x (Line text) m j bare there opens of = (m, there, inl opens, of)
calls_seen x (Number text) m j bare there opens of = (m, there, inl opens, of)
calls_seen x (Exit p) m j bare there opens of = (m, there, inl opens, of)
calls_seen x (Spawned p ok) m j bare there opens of = (m, there, inl opens, of)
calls_seen x Wake m j bare there opens of = (m, there, inl opens, of)

-- What a job waits for, once an input is seen.
waits_seen : (x : Step) (i : Input) (j : ℕ) → x.effects.calls ≡ [] → Waits x.setting (seen (with_input Wake x)) None None j → Waits x.setting (seen (with_input i x)) (heard_by i) (told_by i) j
waits_seen x i j bare (For_session s there its) = For_session s (subst (λ ss. Contains ss s) (sym (sessions_told (with_input Wake x) i bare)) there) its
waits_seen x i j bare (For_call m there (inl opens) of) = let d = calls_seen x i m j bare there opens of in For_call d.0 d.1 d.2 d.3
waits_seen x i j bare (For_call m there (inr heard) of) = absurd (none_some m.call.number heard)
waits_seen x i j bare (For_child k there its (inl opens)) = let c = children_seen x i k j there its opens in For_child c.0 c.1 c.2 c.3
waits_seen x i j bare (For_child k there its (inr told)) = absurd (none_some k.process told)
waits_seen x i j bare (For_leaving s k there is number) =
    For_leaving s k (subst (λ ss. Contains ss s) (sym (sessions_told (with_input Wake x) i bare)) there) (by (leaving_job x.setting x.past s) is) number
  where
    by : (o : Option Job) → (elim o as (λ z. Option Job) [ Some a ↦ Some a | None ↦ None ]) ≡ Some k → (elim o as (λ z. Option Job) [ Some a ↦ Some a | None ↦ leaving_in x.setting x.past s (entry_of (with_input i x)) ]) ≡ Some k
    by (Some a) h = h
    by None h = absurd (none_some k h)

woken_busy : (x : Step) → x.input ≡ Wake → Busy x → AllWait x.setting (seen (with_input Wake x)) None None
woken_busy x wake h = subst (λ i. AllWait x.setting (seen (with_input i x)) None (told_by i)) wake h

pub seen_busy : (x : Step) (i : Input) → x.input ≡ Wake → x.effects.calls ≡ [] → is_command_line i ≡ false → Busy x → BusyHeard (with_input i x)
seen_busy x i wake bare no_line h = by i no_line where
  q : AllWait x.setting (seen (with_input Wake x)) None None
  q = woken_busy x wake h

  by : (k : Input) → is_command_line k ≡ false → BusyHeard (with_input k x)
  by (Line text) none = absurd (true_is_false none)
  by (Number text) none = λ j there runs. waits_seen x (Number text) j.number bare (q j there runs)
  by (Told n a) none = λ j there runs. waits_seen x (Told n a) j.number bare (q j there runs)
  by (Exit p) none = λ j there runs. waits_seen x (Exit p) j.number bare (q j there runs)
  by (Spawned p ok) none = λ j there runs. waits_seen x (Spawned p ok) j.number bare (q j there runs)
  by Wake none = λ j there runs. waits_seen x Wake j.number bare (q j there runs)

-- ---- lines

pub lined_busy : (x : Step) (text : List ℕ) → x.input ≡ Wake → x.effects.calls ≡ [] → Busy x → AllButWait None (Some (next_job x.setting (seen x))) (with_input (Line text) x)
lined_busy x text wake bare h = λ j there runs other. by j (contains_either (jobs x.setting x.past) (made ∷ []) j there) runs other where
  made : Job
  made = record { number = next_job x.setting x.past; at = length x.past; reading = x.reading; command = x.setting.read text }

  q : AllWait x.setting (seen (with_input Wake x)) None None
  q = woken_busy x wake h

  by : (j : Job) → Contains (jobs x.setting x.past) j ⊎ Contains (record { number = next_job x.setting x.past; at = length x.past; reading = x.reading; command = x.setting.read text } ∷ []) j → is_running (seen (with_input (Line text) x)) j.number ≡ true
      → (Some j.number ≡ Some (next_job x.setting (seen x)) → ⊥) → Waits x.setting (seen (with_input (Line text) x)) None None j.number
  by j (inl old) runs other = waits_seen x (Line text) j.number bare (q j (contains_left (jobs x.setting x.past) [] j old) runs)
  by j (inr new) runs other =
      let is : made ≡ j = contains_only made j new in
      absurd (other (ap (λ (z : Job). Some z.number) (sym is) ∙ ap (λ n. Some n) (sym (next_before x wake))))

pub answered_busy : (x : Step) (text : List ℕ) (r : Reply) → x.input ≡ Wake → x.effects.calls ≡ [] → Busy x → Busy (answer_line text (next_job x.setting (seen x)) r x)
answered_busy x text r wake bare h =
    let w : Step = with_input (Line text) x in
    let j : ℕ = next_job x.setting (seen x) in
    all_of (add_reply j r w) None (Some j) ((waits_effects None (Some j)).replies w j r tt (lined_busy x text wake bare h))
    (λ n is runs. absurd (not_both (is_running (seen (add_reply j r w)) n) runs (subst (λ k. is_running (seen (add_reply j r w)) k ≡ false) (some_value j n is) (reply_stops w j r))))
