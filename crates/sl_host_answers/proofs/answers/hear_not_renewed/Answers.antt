use Rattle.sl_host_answers.proofs.WholeAnswersStand.{finished, nobody}
use Rattle.sl_trace.specs.declared.effects.Purpose.TheVariants.{Renewal}
use Rattle.sl_trace.specs.declared.input.Answer.TheVariants.{Failed}
use Rattle.sl_host_state.specs.KeptState.{state_of}
use Rattle.sl_host_state.specs.HeardInputs.{heard_answer}
use Rattle.sl_host.specs.HeardAnswers.{is_own_purpose}
use Rattle.std.proofs.Common.{ap, ◌∙◌}
use Rattle.sl_host_answers.proofs.answers.hear_not_renewed.Goals as goal

pub hear_own-requires-clause-own : goal.hear_own-requires-clause-own
hear_own-requires-clause-own c = ap is_own_purpose c.requires.purpose

pub returns-clause-state : goal.returns-clause-state
returns-clause-state c read =
    c.hear_own.ensures.state read ∙ (nobody c.args.call.now.session (heard_answer c.args.call.now.number Failed (state_of read c.args.host.now.kept)) ∙ finished read c.args.host.now.kept c.args.call.now Failed c.requires.may (Renewal) c.requires.purpose)
