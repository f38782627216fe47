use Rattle.sl_host_answers.proofs.WholeAnswersStand.{finished}
use Rattle.sl_trace.specs.declared.effects.Purpose.TheVariants.{ValueWrite}
use Rattle.sl_trace.specs.declared.input.Answer.TheVariants.{Written}
use Rattle.sl_host_answers.specs.WholeAnswers.{due_for}
use Rattle.sl_host.specs.HeardAnswers.{is_untold}
use Rattle.std.proofs.Common.{None, ap, ◌∙◌}
use Rattle.sl_host_answers.proofs.answers.hear_set.Goals as goal

pub returns-clause-state : goal.returns-clause-state
returns-clause-state c read =
    c.job_set.ensures.state read
    ∙ (ap (due_for (ValueWrite c.args.job) c.args.call.now Written None) (c.hear_untold.ensures.state Written (ap (λ p. is_untold p Written) c.requires.purpose) read) ∙ finished read c.args.host.now.kept c.args.call.now Written c.requires.may (ValueWrite c.args.job) c.requires.purpose)
