use Rattle.sl_host_answers.proofs.WholeAnswersStand.{finished, known_then}
use Rattle.sl_trace.specs.declared.effects.Purpose.TheVariants.{Leaving}
use Rattle.sl_trace.specs.declared.input.Answer.TheVariants.{Failed}
use Rattle.sl_host_answers.specs.WholeAnswers.{due_for}
use Rattle.sl_host.specs.HeardAnswers.{is_own_purpose}
use Rattle.std.proofs.Common.{None, ap, ◌∙◌}
use Rattle.sl_host_answers.proofs.answers.hear_not_freed.Goals as goal

pub hear_own-requires-clause-own : goal.hear_own-requires-clause-own
hear_own-requires-clause-own c = ap is_own_purpose c.requires.purpose

pub answer_free_failed-requires-clause-placed : goal.answer_free_failed-requires-clause-placed
answer_free_failed-requires-clause-placed c = known_then c.args.host.now.kept c.hear_own.new.self.kept c.args.call.now Failed (Leaving c.args.job) c.requires.may c.requires.purpose c.hear_own.ensures.state

pub returns-clause-state : goal.returns-clause-state
returns-clause-state c read =
    c.answer_free_failed.ensures.state read ∙ (ap (due_for (Leaving c.args.job) c.args.call.now Failed None) (c.hear_own.ensures.state read) ∙ finished read c.args.host.now.kept c.args.call.now Failed c.requires.may (Leaving c.args.job) c.requires.purpose)
