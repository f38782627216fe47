-- A pass over all jobs goes by the numbers of all.
use Rattle.sl_host_state.specs.declared.kept_parts.JobState.{JobState}
use Rattle.sl_host.specs.ChosenJobs.{chosen_among}
use Rattle.sl_host.specs.declared.passes.Chosen.TheVariants.{All}
use Rattle.std.proofs.Common.{ap, refl, ◌∙◌}
use Rattle.std.proofs.lemmas.List.{length-map}
use Rattle.std.specs.Prelude.{List, [], length, map, ◌∷◌, ◌≡◌}

pub all_chosen : (js : List JobState) → chosen_among All js ≡ map (λ j. j.number) js
all_chosen [] = refl
all_chosen (j ∷ js) = ap (λ ns. j.number ∷ ns) (all_chosen js)

pub all_many : (js : List JobState) → length (chosen_among All js) ≡ length js
all_many js = ap (λ ns. length ns) (all_chosen js) ∙ length-map js (λ (j : JobState). j.number)
