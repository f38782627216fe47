-- The jobs that a host keeps, after an answer: the one that waited for it waits no more, since of each job one call is open at most.
use Rattle.sl_host_law.proofs.SharedFacts.PlainLists.{filter_none, found_mapped, none_any}
use Rattle.sl_host_state.specs.HeardInputs.{job_hearing}
use Rattle.sl_host_state.specs.HostStands.{AreSingle, is_kept_of, kept_call, kept_waiting}
use Rattle.sl_host_state.specs.declared.kept_parts.JobState.{JobState}
use Rattle.sl_host_state.specs.declared.kept_parts.OpenCall.{OpenCall}
use Rattle.sl_host_state.specs.declared.kept_parts.WaitingCall.{WaitingCall}
use Rattle.sl_host_law.proofs.Replies.PlainFilters.{filter_reversed, filters_turned}
use Rattle.sl_host_law.proofs.Replies.PlainNumbers.{same_number}
use Rattle.sl_trace.specs.Traces.{Submitted, is_of_job, job_of}
use Rattle.sl_trace.specs.declared.command.Command.{Command}
use Rattle.sl_words.proofs.CaseLaws.{false_is_true}
use Rattle.sl_words.specs.Words.{first_of_list, some_is}
use Rattle.std.proofs.Common.{ap, inl, inr, refl, sym, ◌∙◌}
use Rattle.std.specs.List.{list_any}
use Rattle.std.specs.Prelude.{Bool, List, None, Option, Some, cond, false, filter, find, map, not, option_map, reverse, true, [], ℕ, ◌==◌, ◌∷◌, ◌≡◌, ◌⊎◌, ◌||◌}

-- The first that passes is the first of those that do.
found_first : {A : Type 0} (p : A → Bool) (xs : List A) → find p xs ≡ first_of_list (filter p xs)
found_first p [] = refl
found_first p (x ∷ xs) = by (p x) (found_first p xs) where
  by : (b : Bool) → find p xs ≡ first_of_list (filter p xs) → cond b (Some x) (find p xs) ≡ first_of_list (cond b (x ∷ filter p xs) (filter p xs))
  by true rest = refl
  by false rest = rest

-- Of a job there is one call, or none.
abbrev pub IsOneOrNone : List OpenCall → Type 0
IsOneOrNone cs = (cs ≡ []) ⊎ ((c : OpenCall) × (cs ≡ c ∷ []))

pub one_of_job : (cs : List OpenCall) (job : ℕ) → AreSingle cs → IsOneOrNone (filter (is_kept_of job) cs)
one_of_job [] job single = inl refl
one_of_job (c ∷ cs) job single = by (is_kept_of job c) refl (one_of_job cs job single.1) where
  none_else : (o : Option ℕ) → some_is (λ j. j == job) o ≡ true → some_is (λ j. list_any (is_kept_of j) cs) o ≡ false → list_any (is_kept_of job) cs ≡ false
  none_else None is none = absurd (false_is_true is)
  none_else (Some j) is none = ap (λ k. list_any (is_kept_of k) cs) (sym (same_number j job is)) ∙ none

  by : (b : Bool) → is_kept_of job c ≡ b → IsOneOrNone (filter (is_kept_of job) cs) → IsOneOrNone (cond b (c ∷ filter (is_kept_of job) cs) (filter (is_kept_of job) cs))
  by false is rest = rest
  by true is rest =
      inr (c, ap (λ zs. c ∷ zs) (filter_none (is_kept_of job) cs (λ d there. none_any (is_kept_of job) cs d (none_else (job_of c.purpose) is single.0) there)))

-- What a job waits for, of a kept call.
abbrev waiting_of : OpenCall → WaitingCall
waiting_of c = record { number = c.number; reading = c.reading }

-- What is waited for after an answer.
abbrev waits_hearing : ℕ → Option WaitingCall → Option WaitingCall
waits_hearing n o = elim o as (λ z. Option WaitingCall) [ None ↦ None | Some w ↦ cond (w.number == n) None (Some w) ]

waits_kept : (cs : List OpenCall) (job n : ℕ) → AreSingle cs
    → option_map waiting_of (find (is_kept_of job) (reverse (filter (λ c. not (c.number == n)) cs))) ≡ waits_hearing n (option_map waiting_of (find (is_kept_of job) (reverse cs)))
waits_kept cs job n single =
    ap (option_map waiting_of) (ap (find (is_kept_of job)) (sym (filter_reversed (λ (c : OpenCall). not (c.number == n)) cs)) ∙ found_first (is_kept_of job) (filter (λ c. not (c.number == n)) (reverse cs))
    ∙ ap first_of_list (filters_turned (is_kept_of job) (λ c. not (c.number == n)) (reverse cs) ∙ ap (filter (λ c. not (c.number == n))) (filter_reversed (is_kept_of job) cs)))
    ∙ by (filter (is_kept_of job) cs) (one_of_job cs job single)
    ∙ sym (ap (λ o. waits_hearing n (option_map waiting_of o)) (found_first (is_kept_of job) (reverse cs) ∙ ap first_of_list (filter_reversed (is_kept_of job) cs))) where
      by_one : (c : OpenCall) → option_map waiting_of (first_of_list (filter (λ c. not (c.number == n)) (c ∷ []))) ≡ cond (c.number == n) None (Some (waiting_of c))
      by_one c = by_number (c.number == n) where
        by_number : (b : Bool) → option_map waiting_of (first_of_list (cond (not b) (c ∷ []) [])) ≡ cond b None (Some (waiting_of c))
        by_number true = refl
        by_number false = refl

      by : (fs : List OpenCall) → IsOneOrNone fs
          → option_map waiting_of (first_of_list (filter (λ c. not (c.number == n)) (reverse fs))) ≡ waits_hearing n (option_map waiting_of (first_of_list (reverse fs)))
      by fs (inl is) =
          ap (λ zs. option_map waiting_of (first_of_list (filter (λ c. not (c.number == n)) (reverse zs)))) is ∙ sym (ap (λ zs. waits_hearing n (option_map waiting_of (first_of_list (reverse zs)))) is)
      by fs (inr is) =
          ap (λ zs. option_map waiting_of (first_of_list (filter (λ c. not (c.number == n)) (reverse zs)))) is.1 ∙ by_one is.0
          ∙ sym (ap (λ zs. waits_hearing n (option_map waiting_of (first_of_list (reverse zs)))) is.1)

-- What a job waits for among open calls, where these are kept.
waits_are : (ms : List Submitted) (cs : List OpenCall) (job : ℕ) → map kept_call ms ≡ reverse cs → option_map kept_waiting (find (is_of_job job) ms) ≡ option_map waiting_of (find (is_kept_of job) (reverse cs))
waits_are ms cs job kept =
    by (find (is_of_job job) ms) ∙ ap (option_map waiting_of) (sym (found_mapped (is_kept_of job) kept_call ms)) ∙ ap (λ zs. option_map waiting_of (find (is_kept_of job) zs)) kept where
      by : (o : Option Submitted) → option_map kept_waiting o ≡ option_map waiting_of (option_map kept_call o)
      by None = refl
      by (Some m) = refl

-- So the job waits no more, if it was for this call.
pub waits_no_more : (before after : List Submitted) (cs : List OpenCall) (job n : ℕ) → AreSingle cs → map kept_call before ≡ reverse cs → map kept_call after ≡ reverse (filter (λ c. not (c.number == n)) cs)
    → option_map kept_waiting (find (is_of_job job) after) ≡ waits_hearing n (option_map kept_waiting (find (is_of_job job) before))
waits_no_more before after cs job n single was is =
    waits_are after (filter (λ c. not (c.number == n)) cs) job is ∙ waits_kept cs job n single ∙ ap (waits_hearing n) (sym (waits_are before cs job was))

-- A job that is kept so.
abbrev pub job_with : ℕ → Option Command → Option ℕ → Option WaitingCall → JobState
job_with number command child waits = record { number = number; command = command; child = child; waits = waits }

pub job_waits : (n number : ℕ) (command : Option Command) (child : Option ℕ) (waits : Option WaitingCall)
    → job_with number command child (waits_hearing n waits) ≡ job_hearing n (job_with number command child waits)
job_waits n number command child None = refl
job_waits n number command child (Some w) = by (w.number == n) where
  by : (b : Bool) → job_with number command child (cond b None (Some w)) ≡ cond b (job_with number command child None) (job_with number command child (Some w))
  by true = refl
  by false = refl

-- Of each job one call is open at most, still.
pub single_kept : (p : OpenCall → Bool) (cs : List OpenCall) → AreSingle cs → AreSingle (filter p cs)
single_kept p [] single = tt
single_kept p (c ∷ cs) single = by (p c) (single_kept p cs single.1) where
  fewer : (ds : List OpenCall) (job : ℕ) → list_any (is_kept_of job) ds ≡ false → list_any (is_kept_of job) (filter p ds) ≡ false
  fewer [] job none = refl
  fewer (d ∷ ds) job none = one (is_kept_of job d) (p d) refl none (λ rest. fewer ds job rest) where
    one : (b t : Bool) → is_kept_of job d ≡ b → (b || list_any (is_kept_of job) ds) ≡ false → (list_any (is_kept_of job) ds ≡ false → list_any (is_kept_of job) (filter p ds) ≡ false)
        → list_any (is_kept_of job) (cond t (d ∷ filter p ds) (filter p ds)) ≡ false
    one true t is h rest = absurd (false_is_true (sym h))
    one false true is h rest = ap (λ b. b || list_any (is_kept_of job) (filter p ds)) is ∙ rest h
    one false false is h rest = rest h

  of_job : (o : Option ℕ) → some_is (λ job. list_any (is_kept_of job) cs) o ≡ false → some_is (λ job. list_any (is_kept_of job) (filter p cs)) o ≡ false
  of_job None none = refl
  of_job (Some j) none = fewer cs j none

  by : (b : Bool) → AreSingle (filter p cs) → AreSingle (cond b (c ∷ filter p cs) (filter p cs))
  by true rest = (of_job (job_of c.purpose) single.0, rest)
  by false rest = rest
