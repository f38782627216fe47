-- Which jobs a pass goes over.
use Rattle.sl_host_law.specs.Questions.Jobs.{is_of_process_in}
use Rattle.sl_host_state.specs.declared.kept_parts.JobState.{JobState}
use Rattle.sl_trace.specs.Jobs.{lockspace_named, process_named}
use Rattle.sl_trace.specs.declared.command.Command.{Command}
use Rattle.sl_host.specs.declared.passes.Chosen.TheVariants.{All, OfLockspace, OfProcess}
use Rattle.sl_host.specs.declared.passes.Chosen.{Chosen}
use Rattle.sl_words.specs.Words.{some_is}
use Rattle.std.specs.Prelude.{Bool, List, None, Option, Some, [], bytes_eq, cond, filter, map, not, true, ℕ, ◌&&◌, ◌++◌, ◌==◌, ◌∷◌}

-- Whether a command names the lockspace, and whether it is given for the process.
abbrev pub names_lockspace : List ℕ → Command → Bool
names_lockspace name c = some_is (λ n. bytes_eq n name) (lockspace_named c)

abbrev pub names_process : ℕ → Command → Bool
names_process p c = some_is (λ q. q == p) (process_named c)

-- Whether the job is one of them.
abbrev pub is_chosen : Chosen → JobState → Bool
is_chosen All j = true
is_chosen (OfLockspace name but) j = some_is (names_lockspace name) j.command && not (some_is (λ k. k == j.number) but)
is_chosen (OfProcess p) j = is_of_process_in p j

-- Their numbers.
abbrev pub chosen_among : Chosen → List JobState → List ℕ
chosen_among w js = map (λ j. j.number) (filter (is_chosen w) js)

-- What is noted, with this job where it is one of them.
abbrev pub noted_with : Chosen → Option JobState → List ℕ → List ℕ
noted_with w None ns = ns
noted_with w (Some j) ns = cond (is_chosen w j) (ns ++ j.number ∷ []) ns
