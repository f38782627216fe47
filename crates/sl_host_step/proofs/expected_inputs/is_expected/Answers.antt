use Rattle.sl_host_step.proofs.expected_inputs.is_expected.Goals as goal
use Rattle.sl_host_step.specs.ExpectedInputs.{expected_in}
use Rattle.sl_host.specs.BookQuestions.{state_in}
use Rattle.std.proofs.Common.{ap, sym, ◌∙◌}

pub returns-in-Spawned : goal.returns-in-Spawned
returns-in-Spawned c = c.is_starting.ensures ∙ ap (expected_in (state_in c.args.host.now.kept)) (sym c.in-Spawned.is)
