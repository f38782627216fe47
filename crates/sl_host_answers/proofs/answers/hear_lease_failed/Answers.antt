use Rattle.sl_host_answers.proofs.WholeAnswersStand.{finished, known_then}
use Rattle.sl_trace.specs.declared.effects.Purpose.TheVariants.{Lease}
use Rattle.sl_trace.specs.declared.input.Answer.TheVariants.{Failed}
use Rattle.sl_host_answers.specs.WholeAnswers.{due_for}
use Rattle.std.proofs.Common.{None, ap, ◌∙◌}
use Rattle.sl_host_answers.proofs.answers.hear_lease_failed.Goals as goal

pub answer_lease_failed-requires-clause-known : goal.answer_lease_failed-requires-clause-known
answer_lease_failed-requires-clause-known c = known_then c.args.host.now.kept c.hear_lease_failed.new.self.kept c.args.call.now Failed (Lease c.args.work c.args.step) c.requires.may c.requires.purpose c.hear_lease_failed.ensures.state

pub returns-clause-state : goal.returns-clause-state
returns-clause-state c read =
    let p = Lease c.args.work c.args.step in
    c.answer_lease_failed.ensures.state read ∙ (ap (due_for p c.args.call.now Failed None) (c.hear_lease_failed.ensures.state read) ∙ finished read c.args.host.now.kept c.args.call.now Failed c.requires.may p c.requires.purpose)
