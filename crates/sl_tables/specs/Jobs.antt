-- Running jobs.
use Rattle.sl_host_state.specs.declared.kept_parts.JobState.{JobState}
use Rattle.sl_host_state.specs.declared.kept_parts.WaitingCall.{WaitingCall}
use Rattle.sl_trace.specs.declared.command.Command.{Command}
use Rattle.sl_words.specs.Words.{some_is}
use Rattle.std.specs.List.{AllByRecursion}
use Rattle.std.specs.Prelude.{Bool, List, Option, cond, count_by, is_some, map, not, ℕ, ◌&&◌, ◌==◌, ◌≡◌}

-- The jobs, by number; above which number the next is; for how many more there is memory; how many gaps there are.
pub record JobsState : Type 0 where
  pub jobs : List JobState
  pub next : ℕ
  pub room : ℕ
  pub gaps : ℕ

-- Whether the job has such a command, and no grant yet.
abbrev pub is_ungranted : (Command → Bool) → JobState → Bool
is_ungranted p j = some_is p j.command && not (is_some j.child)

-- How many have.
abbrev pub ungranted : (Command → Bool) → List JobState → ℕ
ungranted p jobs = count_by (is_ungranted p) jobs

-- Each job stands at its own number.
abbrev pub AreJobs : List (ℕ × JobState) → Type 0
AreJobs items = AllByRecursion (λ p. p.1.number ≡ p.0) items

-- What a job adds to the count.
abbrev pub weight : (Command → Bool) → JobState → ℕ
weight p j = cond (is_ungranted p j) 1 0

-- The jobs with a change of the one of this number.
abbrev pub changed : ℕ → (JobState → JobState) → List JobState → List JobState
changed n f jobs = map (λ j. cond (j.number == n) (f j) j) jobs

-- The job, waiting for this call, or for none.
abbrev pub waiting : Option WaitingCall → JobState → JobState
waiting waits j = record j { waits = waits }
