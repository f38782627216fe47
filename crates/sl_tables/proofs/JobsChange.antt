-- A job that is found by its number is the one that stands there.
use Rattle.sl_host_state.specs.declared.kept_parts.JobState.{JobState}
use Rattle.sl_words.proofs.Lists.{find_inside}
use Rattle.sl_tables.proofs.NumbersName.{found_by_number}
use Rattle.sl_tables.specs.Jobs.{AreJobs, JobsState, changed}
use Rattle.sl_words.proofs.CaseLaws.{none_some}
use Rattle.std.proofs.Common.{ap, refl, sym, ◌∙◌}
use Rattle.std.proofs.lemmas.Bool.Decides.{Decides-eqb}
use Rattle.std.specs.Map.{lookup, values_of}
use Rattle.std.specs.Prelude.{Bool, List, None, Some, [], cond, false, find, nat_eq, true, ℕ, ◌==◌, ◌∷◌, ◌≡◌}

pub record IsThere (n : ℕ) (items : List (ℕ × JobState)) (old : JobState) : Type 0 where
  pub at : lookup (nat_eq n) items ≡ Some old
  pub own : old.number ≡ n

pub there : (n : ℕ) (items : List (ℕ × JobState)) (jobs : List JobState) (old : JobState) → AreJobs items → values_of items ≡ jobs → find (λ j. j.number == n) jobs ≡ Some old → IsThere n items old
there n items jobs old numbered same found =
    record {
      at = found_by_number (λ j. j.number) n items numbered ∙ (ap (λ js. find (λ (j : JobState). j.number == n) js) same ∙ found);
      own = (Decides-eqb old.number n).0 (find_inside (λ (j : JobState). j.number == n) jobs old found).1;
    }

abbrev pub the_state : List JobState → ℕ → ℕ → ℕ → JobsState
the_state jobs next room gaps = record { jobs = jobs; next = next; room = room; gaps = gaps }

pub state_is : {jobs jobs' : List JobState} {next next' room room' gaps gaps' : ℕ} → jobs ≡ jobs' → next ≡ next' → room ≡ room' → gaps ≡ gaps'
    → the_state jobs next room gaps ≡ the_state jobs' next' room' gaps'
state_is j n r g = λ i. record { jobs = j i; next = n i; room = r i; gaps = g i }

-- Where no job has the number, nothing changes.
pub none_changed_there : (n : ℕ) (f : JobState → JobState) (jobs : List JobState) → find (λ j. j.number == n) jobs ≡ None → changed n f jobs ≡ jobs
none_changed_there n f [] none = refl
none_changed_there n f (j ∷ jobs) none = by (j.number == n) none (none_changed_there n f jobs)
  where
    by : (b : Bool) → cond b (Some j) (find (λ (k : JobState). k.number == n) jobs) ≡ None → (find (λ (k : JobState). k.number == n) jobs ≡ None → changed n f jobs ≡ jobs) → cond b (f j) j ∷ changed n f jobs ≡ j ∷ jobs
    by true none rest = absurd (none_some j (sym none))
    by false none rest = ap (λ js. j ∷ js) (rest none)
