use Rattle.sl_host_answers.proofs.WholeAnswersStand.{finished, job_due, job_untold}
use Rattle.sl_trace.specs.declared.input.Answer.TheVariants.{Failed}
use Rattle.sl_host_state.specs.KeptState.{HostKept, state_of}
use Rattle.sl_host_state.specs.HeardInputs.{heard_answer}
use Rattle.sl_host_law.specs.Answers.Requests.{answering_job}
use Rattle.sl_host_law.specs.Steps.Passes.{at_member}
use Rattle.sl_member.specs.HostMembers.{member_with}
use Rattle.sl_host.specs.BookQuestions.{state_in}
use Rattle.std.proofs.Common.{ap, refl, ◌∙◌}
use Rattle.sl_host_answers.proofs.answers.hear_job_failed.Goals as goal

pub returns-clause-state : goal.returns-clause-state
returns-clause-state c read =
    let k : HostKept = c.args.host.now.kept in
    let call = c.args.call.now in
    c.job_failed.ensures.state read
    ∙ (ap (at_member call.session (λ m. answering_job c.args.job call Failed (λ bytes x. x) (λ x. x))) (c.hear_untold.ensures.state Failed (job_untold c.args.job call.purpose c.requires.purpose) read)
    ∙ (job_due c.args.job call.purpose (state_in k) (heard_answer call.number Failed (state_of read k)) call (member_with call.session k.members) c.requires.purpose ∙ finished read k call Failed c.requires.may call.purpose refl))
