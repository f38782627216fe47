-- A job that waits for no call has none open.
use Rattle.sl_host_law.proofs.SharedFacts.NewNumbers.{found_nowhere}
use Rattle.sl_host_law.proofs.SharedFacts.PlainLists.{any_mapped}
use Rattle.sl_host_state.specs.KeptState.{HostState}
use Rattle.sl_host_state.specs.HostStands.{Keeps, is_kept_of, kept_call, kept_job, kept_waiting}
use Rattle.sl_host_state.specs.declared.kept_parts.JobState.{JobState}
use Rattle.sl_words.proofs.Lists.{any_found, in_map}
use Rattle.sl_words.proofs.Options.{none_is}
use Rattle.sl_trace.specs.Traces.{Setting, Trace, is_of_job, outstanding, running_jobs, waiting_call}
use Rattle.sl_words.proofs.CaseLaws.{none_some}
use Rattle.sl_words.proofs.WordLaws.{and_true}
use Rattle.std.proofs.Common.{ap, refl, subst, sym, ◌∙◌}
use Rattle.std.proofs.lemmas.Bool.Decides.{Decides-eqb}
use Rattle.std.proofs.lemmas.List.{reverse-append}
use Rattle.std.specs.List.{list_any}
use Rattle.std.specs.Prelude.{Bool, Contains, List, None, Option, Some, false, is_none, option_map, reverse, true, [], ℕ, ◌&&◌, ◌++◌, ◌==◌, ◌||◌, ◌∷◌, ◌≡◌}

any_push : {A : Type 0} (p : A → Bool) (xs : List A) (y : A) → list_any p (xs ++ y ∷ []) ≡ (p y || list_any p xs)
any_push p [] y = refl
any_push p (x ∷ xs) y = ap (λ b. p x || b) (any_push p xs y) ∙ turned (p x) (p y) (list_any p xs) where
  turned : (a b c : Bool) → (a || (b || c)) ≡ (b || (a || c))
  turned true true c = refl
  turned true false c = refl
  turned false b c = refl

pub any_reversed : {A : Type 0} (p : A → Bool) (xs : List A) → list_any p (reverse xs) ≡ list_any p xs
any_reversed p [] = refl
any_reversed p (x ∷ xs) = ap (list_any p) (reverse-append (x ∷ []) xs) ∙ (any_push p (reverse xs) x ∙ ap (λ b. p x || b) (any_reversed p xs))

unmapped : {A B : Type 0} (f : A → B) (o : Option A) → option_map f o ≡ None → o ≡ None
unmapped f None is = refl
unmapped f (Some a) is = absurd (none_some (f a) (sym is))

-- Whether an open call is the job's.
pub open_of_job : (h : HostState) (st : Setting) (es : Trace) (n : ℕ) → Keeps h st es → list_any (is_kept_of n) h.unanswered ≡ list_any (is_of_job n) (outstanding es)
open_of_job h st es n k =
    sym (any_reversed (is_kept_of n) h.unanswered) ∙ (ap (list_any (is_kept_of n)) (sym k.unanswered) ∙ any_mapped (is_kept_of n) kept_call (outstanding es))

pub idle_is_alone : (h : HostState) (st : Setting) (es : Trace) (n : ℕ) → Keeps h st es → list_any (λ j. j.number == n && is_none j.waits) h.jobs ≡ true → list_any (is_kept_of n) h.unanswered ≡ false
idle_is_alone h st es n k is =
    let f = any_found (λ (j : JobState). j.number == n && is_none j.waits) h.jobs is in
    let tests = and_true (f.0.number == n) (is_none f.0.waits) f.2 in
    let j = in_map (kept_job es) (running_jobs st es) f.0 (subst (λ js. Contains js f.0) (sym k.jobs) f.1) in
    let number : j.0.number ≡ n = ap (λ (z : JobState). z.number) j.2 ∙ (Decides-eqb f.0.number n).0 tests.0 in
    let waits : option_map kept_waiting (waiting_call es j.0.number) ≡ None = ap (λ (z : JobState). z.waits) j.2 ∙ none_is f.0.waits tests.1 in
    open_of_job h st es n k
    ∙ subst (λ m. list_any (is_of_job m) (outstanding es) ≡ false) number (found_nowhere (is_of_job j.0.number) (outstanding es) (unmapped kept_waiting (waiting_call es j.0.number) waits))
