use Rattle.sl_host_answers.proofs.SurveysStand.{stopped_held}
use Rattle.sl_host_answers.proofs.surveys.stop_shown.Goals as goal
use Rattle.sl_host_state.specs.KeptState.{HostState}
use Rattle.sl_host.specs.BookQuestions.{state_in}
use Rattle.std.proofs.Common.{ap, ◌∙◌}
use Rattle.std.specs.Prelude.{Err, None}

pub returns-in-Some-clause-stays : goal.returns-in-Some-clause-stays
returns-in-Some-clause-stays c = ap (λ (h : HostState). h.holdings) (c.stop.ensures.state (λ text. Err 0)) ∙ stopped_held c.in-Some.stopped None (state_in c.args.host.now.kept)
