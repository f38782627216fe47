use Rattle.sl_host_answers.proofs.WholeAnswersStand.{finished}
use Rattle.sl_trace.specs.declared.effects.Purpose.TheVariants.{RequestWrite}
use Rattle.sl_trace.specs.declared.input.Answer.TheVariants.{Written}
use Rattle.sl_host_answers.specs.WholeAnswers.{due_for}
use Rattle.std.proofs.Common.{None, ap, ◌∙◌}
use Rattle.sl_host_answers.proofs.answers.hear_requested.Goals as goal

pub returns-clause-state : goal.returns-clause-state
returns-clause-state c read =
    let p = RequestWrite c.args.job c.args.owner in
    c.job_requested.ensures.state read ∙ (ap (due_for p c.args.call.now Written None) (c.hear_request_written.ensures.state read) ∙ finished read c.args.host.now.kept c.args.call.now Written c.requires.may p c.requires.purpose)
