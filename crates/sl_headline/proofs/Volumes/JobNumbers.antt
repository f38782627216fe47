-- Numbers of jobs: each is below that of the next line, and what a number names stays.
use Rattle.sl_words.proofs.Lists.{contains_cases, contains_first, contains_more, contains_none}
use Rattle.sl_words.proofs.Numbers.{less_is_other, number_itself}
use Rattle.sl_trace.specs.Traces.{Job, Setting, Trace, job_in, job_numbered, jobs, next_job, numbers_taken}
use Rattle.sl_trace.specs.declared.effects.Effects.{Effects}
use Rattle.sl_trace.specs.declared.effects.Entry.{Entry}
use Rattle.sl_trace.specs.declared.input.Input.TheVariants.{Answer as Heard, Exit, Line, Number, Spawned, Wake}
use Rattle.sl_trace.specs.declared.input.Input.{Input}
use Rattle.sl_words.proofs.CaseLaws.{none_some}
use Rattle.std.proofs.Common.{ap, arith, inl, inr, subst, ◌∙◌}
use Rattle.std.proofs.lemmas.List.{append-nil}
use Rattle.std.specs.Prelude.{Bool, Contains, List, None, Some, false, find, if◌then◌else◌, length, true, [], ℕ, ◌++◌, ◌+◌, ◌<◌, ◌==◌, ◌∷◌, ◌≡◌, ◌⊎◌}

-- ---- lists

found_before : {A : Type 0} (p : A → Bool) (xs ys : List A) (a : A) → find p xs ≡ Some a → find p (xs ++ ys) ≡ Some a
found_before p [] ys a h = absurd (none_some a h)
found_before {A} p (x ∷ xs) ys a h = by (p x) (λ more. found_before p xs ys a more) h where
  by : (t : Bool) → (find p xs ≡ Some a → find p (xs ++ ys) ≡ Some a) → (if t then Some x else find p xs) ≡ Some a → (if t then Some x else find p (xs ++ ys)) ≡ Some a
  by true later h = h
  by false later h = later h

found_after : {A : Type 0} (p : A → Bool) (xs : List A) (y : A) → ((a : A) → Contains xs a → p a ≡ false) → p y ≡ true → find p (xs ++ y ∷ []) ≡ Some y
found_after p [] y none is = ap (λ t. if t then Some y else None) is
found_after p (x ∷ xs) y none is =
    ap (λ t. if t then Some x else find p (xs ++ y ∷ [])) (none x (contains_first x xs)) ∙ found_after p xs y (λ a there. none a (contains_more x xs a there)) is

last_of_one : {A : Type 0} (xs : List A) (y a : A) → (y ≡ a) ⊎ Contains [] a → Contains xs a ⊎ (y ≡ a)
last_of_one xs y a (inl is) = inr is
last_of_one xs y a (inr none) = absurd (contains_none a none)

last_or : {A : Type 0} (xs : List A) (y a : A) → Contains (xs ++ y ∷ []) a → Contains xs a ⊎ (y ≡ a)
last_or [] y a h = last_of_one [] y a (contains_cases y [] a h)
last_or (x ∷ xs) y a h =
    elim (contains_cases x (xs ++ y ∷ []) a h) as (λ z. Contains (x ∷ xs) a ⊎ (y ≡ a)) [
      | inl is ↦ inl (subst (λ b. Contains (x ∷ xs) b) is (contains_first x xs))
      | inr more ↦ elim (last_or xs y a more) as (λ z. Contains (x ∷ xs) a ⊎ (y ≡ a)) [
        | inl there ↦ inl (contains_more x xs a there)
        | inr is ↦ inr is
      ]
    ]

-- ---- numbers

abbrev made_job : Setting → Trace → ℕ → List ℕ → Job
made_job st es now text = record { number = next_job st es; at = length es; reading = now; command = st.read text }

below_by : (st : Setting) (es : Trace) (now : ℕ) (i : Input) (fx : Effects) → ((k : Job) → Contains (jobs st es) k → k.number < next_job st es)
    → (j : Job) → Contains (jobs st (record { reading = now; input = i; effects = fx } ∷ es)) j → j.number < next_job st (record { reading = now; input = i; effects = fx } ∷ es)
below_by st es now (Line text) fx h j there = by (last_or (jobs st es) (made_job st es now text) j there) where
  by : Contains (jobs st es) j ⊎ (made_job st es now text ≡ j) → j.number < st.first.job + (numbers_taken es + 1)
  by (inl old) = let less : j.number < st.first.job + numbers_taken es = h j old in omega (arith, less)
  by (inr new) = let is : st.first.job + numbers_taken es ≡ j.number = ap (λ (k : Job). k.number) new in omega (arith, is)
below_by st es now (Number text) fx h j there =
    let less : j.number < st.first.job + numbers_taken es = h j (subst (λ js. Contains js j) (append-nil (jobs st es)) there) in omega (arith, less)
below_by st es now (Heard n answer) fx h j there = h j (subst (λ js. Contains js j) (append-nil (jobs st es)) there)
below_by st es now Wake fx h j there = h j (subst (λ js. Contains js j) (append-nil (jobs st es)) there)
below_by st es now (Exit p) fx h j there = h j (subst (λ js. Contains js j) (append-nil (jobs st es)) there)
below_by st es now (Spawned p ok) fx h j there = h j (subst (λ js. Contains js j) (append-nil (jobs st es)) there)

below : (st : Setting) (es : Trace) (j : Job) → Contains (jobs st es) j → j.number < next_job st es
below st [] j there = absurd (contains_none j there)
below st (e ∷ es) j there = below_by st es e.reading e.input e.effects (λ k inside. below st es k inside) j there

-- What a number names stays.
pub numbered_stays : (st : Setting) (e : Entry) (es : Trace) (n : ℕ) (j : Job) → job_numbered st es n ≡ Some j → job_numbered st (e ∷ es) n ≡ Some j
numbered_stays st e es n j is = found_before (λ (k : Job). k.number == n) (jobs st es) (job_in st es (next_job st es) e) j is

-- A line's job has the next number.
pub line_numbered : (st : Setting) (es : Trace) (now : ℕ) (text : List ℕ) (fx : Effects)
    → job_numbered st (record { reading = now; input = Line text; effects = fx } ∷ es) (next_job st es) ≡ Some (made_job st es now text)
line_numbered st es now text fx =
    found_after (λ (k : Job). k.number == next_job st es) (jobs st es) (made_job st es now text)
    (λ j there. less_is_other j.number (next_job st es) (below st es j there)) (number_itself (next_job st es))
