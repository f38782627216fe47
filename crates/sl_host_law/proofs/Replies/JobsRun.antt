-- Whether a job of the trace runs is whether one of those that run has its number.
use Rattle.sl_words.proofs.Options.{some_there}
use Rattle.sl_words.proofs.Lists.{any_of, find_inside}
use Rattle.sl_host_law.proofs.Replies.PlainNumbers.{same_number}
use Rattle.sl_host_law.proofs.Replies.PlainFilters.{any_kept, no_one}
use Rattle.sl_trace.specs.Traces.{Job, Setting, Trace, is_running, job_numbered, jobs, running_jobs}
use Rattle.std.proofs.Common.{ap, refl, sym, ◌∙◌}
use Rattle.std.specs.List.{list_any}
use Rattle.std.specs.Prelude.{Bool, Contains, List, false, find, is_some, true, ℕ, ◌&&◌, ◌==◌, ◌≡◌}

-- Whether one of these jobs has the number and runs, by whether it runs.
any_running : (js : List Job) (n : ℕ) → is_some (find (λ j. j.number == n) js) ≡ true → (r : ℕ → Bool) → list_any (λ j. r j.number && j.number == n) js ≡ r n
any_running js n there r =
    let one = some_there (find (λ (j : Job). j.number == n) js) there in
    let its = find_inside (λ (j : Job). j.number == n) js one.0 one.1 in
    by one.0 its.0 its.1 (r n) refl where
      and_both : (a b : Bool) → a ≡ true → b ≡ true → (a && b) ≡ true
      and_both a b p q = ap (λ c. c && b) p ∙ q

      none : (k n : ℕ) → r n ≡ false → (b : Bool) → (k == n) ≡ b → (r k && b) ≡ false
      none k n is true same = ap (λ z. r z && true) (same_number k n same) ∙ ap (λ b. b && true) is
      none k n is false other = and_false (r k) where
        and_false : (b : Bool) → (b && false) ≡ false
        and_false true = refl
        and_false false = refl

      by : (j : Job) → Contains js j → (j.number == n) ≡ true → (b : Bool) → r n ≡ b → list_any (λ j. r j.number && j.number == n) js ≡ r n
      by j inside its true is = any_of (λ (j : Job). r j.number && j.number == n) js j (and_both (r j.number) (j.number == n) (ap r (same_number j.number n its) ∙ is) its) inside ∙ sym is
      by j inside its false is = no_one (λ (j : Job). r j.number && j.number == n) js (λ j. none j.number n is (j.number == n) refl) ∙ sym is

pub runs_among : (st : Setting) (es : Trace) (n : ℕ) → is_some (job_numbered st es n) ≡ true → list_any (λ j. j.number == n) (running_jobs st es) ≡ is_running es n
runs_among st es n there = any_kept (λ (j : Job). j.number == n) (λ j. is_running es j.number) (jobs st es) ∙ any_running (jobs st es) n there (is_running es)
