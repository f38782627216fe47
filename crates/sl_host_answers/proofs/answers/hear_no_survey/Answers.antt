use Rattle.sl_host_answers.proofs.WholeAnswersStand.{finished, nobody}
use Rattle.sl_trace.specs.declared.effects.Purpose.TheVariants.{Survey}
use Rattle.sl_trace.specs.declared.input.Answer.TheVariants.{Failed}
use Rattle.sl_host_state.specs.KeptState.{state_of}
use Rattle.sl_host_state.specs.HeardInputs.{heard_answer}
use Rattle.std.proofs.Common.{◌∙◌}
use Rattle.sl_host_answers.proofs.answers.hear_no_survey.Goals as goal

pub returns-clause-state : goal.returns-clause-state
returns-clause-state c read =
    c.hear_no_survey.ensures.state read ∙ (nobody c.args.call.now.session (heard_answer c.args.call.now.number Failed (state_of read c.args.host.now.kept)) ∙ finished read c.args.host.now.kept c.args.call.now Failed c.requires.may Survey c.requires.purpose)
