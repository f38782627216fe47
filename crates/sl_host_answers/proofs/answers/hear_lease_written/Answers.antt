use Rattle.sl_host_answers.proofs.WholeAnswersStand.{finished, known_then}
use Rattle.sl_trace.specs.declared.effects.Purpose.TheVariants.{Lease}
use Rattle.sl_trace.specs.declared.input.Answer.TheVariants.{Written}
use Rattle.sl_host_answers.specs.WholeAnswers.{due_for}
use Rattle.std.proofs.Common.{None, ap, ◌∙◌}
use Rattle.sl_host_answers.proofs.answers.hear_lease_written.Goals as goal

pub answer_lease_written-requires-clause-known : goal.answer_lease_written-requires-clause-known
answer_lease_written-requires-clause-known c = (known_then c.args.host.now.kept c.hear_lease_written.new.self.kept c.args.call.now Written (Lease c.args.work c.args.step) c.requires.may c.requires.purpose c.hear_lease_written.ensures.state).0

pub answer_lease_written-requires-clause-instance : goal.answer_lease_written-requires-clause-instance
answer_lease_written-requires-clause-instance c = (known_then c.args.host.now.kept c.hear_lease_written.new.self.kept c.args.call.now Written (Lease c.args.work c.args.step) c.requires.may c.requires.purpose c.hear_lease_written.ensures.state).1

pub returns-clause-state : goal.returns-clause-state
returns-clause-state c read =
    let p = Lease c.args.work c.args.step in
    c.answer_lease_written.ensures.state read ∙ (ap (due_for p c.args.call.now Written None) (c.hear_lease_written.ensures.state read) ∙ finished read c.args.host.now.kept c.args.call.now Written c.requires.may p c.requires.purpose)
