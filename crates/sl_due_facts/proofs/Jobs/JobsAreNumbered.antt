-- Jobs are numbered in order: a job's number is below the next line's, and what a number names stays.
use Rattle.sl_due_facts.proofs.Acts.AddedAtEnd.{contains_last}
use Rattle.sl_due.specs.Steps.{Step, seen, with_input}
use Rattle.sl_trace.specs.Jobs.{command_numbered, command_of}
use Rattle.sl_words.proofs.Lists.{contains_first, contains_more, contains_none, find_inside}
use Rattle.sl_words.proofs.Numbers.{less_is_other, number_itself}
use Rattle.sl_words.proofs.Options.{then_value}
use Rattle.sl_trace.specs.Traces.{Job, Setting, Trace, job_in, job_numbered, jobs, next_job, numbers_taken}
use Rattle.sl_trace.specs.declared.command.Command.{Command}
use Rattle.sl_trace.specs.declared.effects.Effects.{Effects}
use Rattle.sl_trace.specs.declared.effects.Entry.{Entry}
use Rattle.sl_trace.specs.declared.input.Input.{Input}
use Rattle.sl_trace.specs.declared.input.Input.TheVariants.{Line, Number, Wake}
use Rattle.sl_words.proofs.CaseLaws.{none_some, some_value}
use Rattle.std.proofs.Common.{ap, append-nil, arith, inl, inr, refl, subst, sym, ◌∙◌}
use Rattle.std.proofs.lemmas.Bool.{eqb-true}
use Rattle.std.proofs.lemmas.List.Folds.{find-append}
use Rattle.std.specs.Option.{option_or}
use Rattle.std.specs.Prelude.{Bool, Contains, Err, List, None, Ok, Option, Result, Some, [], cond, false, find, length, option_and_then, ℕ, ◌++◌, ◌+◌, ◌<◌, ◌==◌, ◌∷◌, ◌≡◌, ◌⊎◌}

-- ---- what is found stays found as a list grows

pub found_before : {A : Type 0} (p : A → Bool) (xs ys : List A) (a : A) → find p xs ≡ Some a → find p (xs ++ ys) ≡ Some a
found_before {A} p xs ys a is = find-append p xs ys ∙ ap (λ (o : Option A). option_or o (find p ys)) is

pub found_after : {A : Type 0} (p : A → Bool) (xs ys : List A) → find p xs ≡ None → find p (xs ++ ys) ≡ find p ys
found_after {A} p xs ys none = find-append p xs ys ∙ ap (λ (o : Option A). option_or o (find p ys)) none

-- What none of a list passes is not found.
pub finds_none : {A : Type 0} (p : A → Bool) (xs : List A) → ((a : A) → Contains xs a → p a ≡ false) → find p xs ≡ None
finds_none p [] fails = refl
finds_none p (x ∷ xs) fails = ap (λ b. cond b (Some x) (find p xs)) (fails x (contains_first x xs)) ∙ finds_none p xs (λ a there. fails a (contains_more x xs a there))

-- ---- numbers

below_by : (st : Setting) (es : Trace) (now : ℕ) (i : Input) (fx : Effects) → ((k : Job) → Contains (jobs st es) k → k.number < next_job st es)
    → (j : Job) → Contains (jobs st (record { reading = now; input = i; effects = fx } ∷ es)) j → j.number < next_job st (record { reading = now; input = i; effects = fx } ∷ es)
below_by st es now (Line text) fx h j there = by (contains_last (jobs st es) made j there) where
  made : Job
  made = record { number = next_job st es; at = length es; reading = now; command = st.read text }

  by : Contains (jobs st es) j ⊎ (made ≡ j) → j.number < st.first.job + (numbers_taken es + 1)
  by (inl old) = let less : j.number < st.first.job + numbers_taken es = h j old in omega (arith, less)
  by (inr new) = let is : st.first.job + numbers_taken es ≡ j.number = ap (λ (k : Job). k.number) new in omega (arith, is)
below_by st es now (Number text) fx h j there =
    let less : j.number < st.first.job + numbers_taken es = h j (subst (λ js. Contains js j) (append-nil (jobs st es)) there) in omega (arith, less)
below_by st es now i fx h j there = h j (subst (λ js. Contains js j) (append-nil (jobs st es)) there)

-- A job's number is below that of the next line.
pub below : (st : Setting) (es : Trace) (j : Job) → Contains (jobs st es) j → j.number < next_job st es
below st [] j there = absurd (contains_none j there)
below st (e ∷ es) j there = below_by st es e.reading e.input e.effects (λ k inside. below st es k inside) j there

-- So none has the next number.
pub next_is_new : (st : Setting) (es : Trace) → job_numbered st es (next_job st es) ≡ None
next_is_new st es = finds_none (λ (j : Job). j.number == next_job st es) (jobs st es) (λ j there. less_is_other j.number (next_job st es) (below st es j there))

pub number_below : (st : Setting) (es : Trace) (n : ℕ) (j : Job) → job_numbered st es n ≡ Some j → n < next_job st es
number_below st es n j is =
    let found = find_inside (λ (k : Job). k.number == n) (jobs st es) j is in
    subst (λ k. k < next_job st es) (eqb-true j.number n found.1) (below st es j found.0)

-- ---- what a number names stays

pub numbered_stays : (st : Setting) (e : Entry) (es : Trace) (n : ℕ) (j : Job) → job_numbered st es n ≡ Some j → job_numbered st (e ∷ es) n ≡ Some j
numbered_stays st e es n j is = found_before (λ (k : Job). k.number == n) (jobs st es) (job_in st es (next_job st es) e) j is

pub command_stays : (st : Setting) (e : Entry) (es : Trace) (n : ℕ) (c : Command) → command_numbered st es n ≡ Some c → command_numbered st (e ∷ es) n ≡ Some c
command_stays st e es n c is =
    let its = then_value command_of (job_numbered st es n) c is in
    ap (λ o. option_and_then command_of o) (numbered_stays st e es n its.0 its.1) ∙ its.2

-- A line's job has the next number.
pub line_is : (st : Setting) (es : Trace) (now : ℕ) (text : List ℕ) (fx : Effects)
    → job_numbered st (record { reading = now; input = Line text; effects = fx } ∷ es) (next_job st es) ≡ Some (record { number = next_job st es; at = length es; reading = now; command = st.read text })
line_is st es now text fx =
    found_after (λ (k : Job). k.number == next_job st es) (jobs st es) (record { number = next_job st es; at = length es; reading = now; command = st.read text } ∷ []) (next_is_new st es)
    ∙ ap (λ b. cond b (Some (record { number = next_job st es; at = length es; reading = now; command = st.read text })) None) (number_itself (next_job st es))

-- ---- in a step, before its input is seen

pub jobs_before : (x : Step) → x.input ≡ Wake → jobs x.setting (seen x) ≡ jobs x.setting x.past
jobs_before x wake = ap (λ i. jobs x.setting (record { reading = x.reading; input = i; effects = x.effects } ∷ x.past)) wake ∙ append-nil (jobs x.setting x.past)

pub next_before : (x : Step) → x.input ≡ Wake → next_job x.setting (seen x) ≡ next_job x.setting x.past
next_before x wake = ap (λ i. next_job x.setting (record { reading = x.reading; input = i; effects = x.effects } ∷ x.past)) wake

pub numbered_before : (x : Step) → x.input ≡ Wake → (n : ℕ) → job_numbered x.setting (seen x) n ≡ job_numbered x.setting x.past n
numbered_before x wake n = ap (λ js. find (λ (j : Job). j.number == n) js) (jobs_before x wake)

-- So what it names then stays when the input is seen.
pub numbered_seen : (x : Step) (i : Input) → x.input ≡ Wake → (n : ℕ) (j : Job) → job_numbered x.setting (seen x) n ≡ Some j → job_numbered x.setting (seen (with_input i x)) n ≡ Some j
numbered_seen x i wake n j is = numbered_stays x.setting (record { reading = x.reading; input = i; effects = x.effects }) x.past n j (sym (numbered_before x wake n) ∙ is)

pub line_seen : (x : Step) (text : List ℕ) → x.input ≡ Wake
    → job_numbered x.setting (seen (with_input (Line text) x)) (next_job x.setting (seen x)) ≡ Some (record { number = next_job x.setting (seen x); at = length x.past; reading = x.reading; command = x.setting.read text })
line_seen x text wake =
    subst (λ n. job_numbered x.setting (seen (with_input (Line text) x)) n ≡ Some (record { number = n; at = length x.past; reading = x.reading; command = x.setting.read text })) (sym (next_before x wake))
    (line_is x.setting x.past x.reading text x.effects)

-- ---- a job's command is what its text says

reads_by : (st : Setting) (es : Trace) (now : ℕ) (i : Input) (fx : Effects) → ((k : Job) → Contains (jobs st es) k → (text : List ℕ) × (k.command ≡ st.read text))
    → (j : Job) → Contains (jobs st (record { reading = now; input = i; effects = fx } ∷ es)) j → (text : List ℕ) × (j.command ≡ st.read text)
reads_by st es now (Line text) fx h j there = by (contains_last (jobs st es) (record { number = next_job st es; at = length es; reading = now; command = st.read text }) j there) where
  by : Contains (jobs st es) j ⊎ (record { number = next_job st es; at = length es; reading = now; command = st.read text } ≡ j) → (t : List ℕ) × (j.command ≡ st.read t)
  by (inl old) = h j old
  by (inr new) = (text, ap (λ (k : Job). k.command) (sym new))
reads_by st es now i fx h j there = h j (subst (λ js. Contains js j) (append-nil (jobs st es)) there)

pub job_reads : (st : Setting) (es : Trace) (j : Job) → Contains (jobs st es) j → (text : List ℕ) × (j.command ≡ st.read text)
job_reads st [] j there = absurd (contains_none j there)
job_reads st (e ∷ es) j there = reads_by st es e.reading e.input e.effects (λ k inside. job_reads st es k inside) j there

pub command_read : (j : Job) (c : Command) → command_of j ≡ Some c → j.command ≡ Ok c
command_read j c is = by j.command refl is where
  by : (o : Result Command ℕ) → j.command ≡ o → (elim o as (λ z. Option Command) [ Ok d ↦ Some d | Err n ↦ None ]) ≡ Some c → j.command ≡ Ok c
  by (Ok d) was h = was ∙ ap (λ z. Ok z) (some_value d c h)
  by (Err n) was h = absurd (none_some c h)

-- So a numbered command was read from a text.
pub command_is_read : (st : Setting) (es : Trace) (n : ℕ) (c : Command) → command_numbered st es n ≡ Some c → (text : List ℕ) × (st.read text ≡ Ok c)
command_is_read st es n c is =
    let job = then_value command_of (job_numbered st es n) c is in
    let found = find_inside (λ (k : Job). k.number == n) (jobs st es) job.0 job.1 in
    let text = job_reads st es job.0 found.0 in (text.0, sym text.1 ∙ command_read job.0 c job.2)
