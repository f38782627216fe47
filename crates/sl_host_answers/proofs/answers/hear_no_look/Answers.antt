use Rattle.sl_host_answers.proofs.WholeAnswersStand.{finished, nobody}
use Rattle.sl_trace.specs.declared.effects.Purpose.TheVariants.{SeeRequest}
use Rattle.sl_trace.specs.declared.input.Answer.TheVariants.{Failed}
use Rattle.sl_host_state.specs.KeptState.{state_of}
use Rattle.sl_host_state.specs.HeardInputs.{heard_answer}
use Rattle.sl_host.specs.HeardAnswers.{is_untold}
use Rattle.std.proofs.Common.{ap, ◌∙◌}
use Rattle.sl_host_answers.proofs.answers.hear_no_look.Goals as goal

pub returns-clause-state : goal.returns-clause-state
returns-clause-state c read =
    c.hear_untold.ensures.state Failed (ap (λ p. is_untold p Failed) c.requires.purpose) read
    ∙ (nobody c.args.call.now.session (heard_answer c.args.call.now.number Failed (state_of read c.args.host.now.kept)) ∙ finished read c.args.host.now.kept c.args.call.now Failed c.requires.may (SeeRequest) c.requires.purpose)
