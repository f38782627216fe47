use Rattle.sl_host_answers.proofs.surveys.read_request_on.Goals as goal
use Rattle.sl_host_answers.specs.Surveys.{reading_held}
use Rattle.sl_host_state.specs.KeptState.{state_of}
use Rattle.std.proofs.Common.{ap, ◌∙◌}

pub read_request-requires-clause-area : goal.read_request-requires-clause-area
read_request-requires-clause-area c = c.requires.known.based c.in-Some.held c.in-Some.ensures.inside

pub returns-in-Some-clause-state : goal.returns-in-Some-clause-state
returns-in-Some-clause-state c read = c.read_request.ensures.state read ∙ ap (λ o. reading_held c.args.who.now o (state_of read c.args.host.now.kept)) c.in-Some.ensures.exact

pub returns-in-None-clause-state : goal.returns-in-None-clause-state
returns-in-None-clause-state c read = ap (λ o. reading_held c.args.who.now o (state_of read c.args.host.now.kept)) c.in-None.ensures.exact
