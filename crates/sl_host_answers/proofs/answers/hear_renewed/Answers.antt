use Rattle.sl_host_answers.proofs.WholeAnswersStand.{finished, known_then}
use Rattle.sl_trace.specs.declared.effects.Purpose.TheVariants.{Renewal}
use Rattle.sl_trace.specs.declared.input.Answer.TheVariants.{Written}
use Rattle.sl_host_answers.specs.WholeAnswers.{due_for}
use Rattle.sl_host.specs.HeardAnswers.{is_own_purpose}
use Rattle.std.proofs.Common.{None, ap, ◌∙◌}
use Rattle.sl_host_answers.proofs.answers.hear_renewed.Goals as goal

pub hear_own-requires-clause-own : goal.hear_own-requires-clause-own
hear_own-requires-clause-own c = ap is_own_purpose c.requires.purpose

pub answer_renewed-requires-clause-placed : goal.answer_renewed-requires-clause-placed
answer_renewed-requires-clause-placed c = known_then c.args.host.now.kept c.hear_own.new.self.kept c.args.call.now Written (Renewal) c.requires.may c.requires.purpose c.hear_own.ensures.state

pub returns-clause-state : goal.returns-clause-state
returns-clause-state c read =
    c.answer_renewed.ensures.state read ∙ (ap (due_for (Renewal) c.args.call.now Written None) (c.hear_own.ensures.state read) ∙ finished read c.args.host.now.kept c.args.call.now Written c.requires.may (Renewal) c.requires.purpose)
