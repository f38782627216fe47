use Rattle.sl_host_answers.proofs.WholeAnswersStand.{if_gone, if_there}
use Rattle.sl_host_answers.proofs.jobs.job_value.Goals as goal
use Rattle.sl_host_law.specs.Answers.Requests.{answering_job}
use Rattle.sl_host_state.specs.KeptState.{state_of}
use Rattle.sl_due.specs.DueRequests.{value_reply}
use Rattle.sl_host_state.specs.MadeEffects.{with_reply}
use Rattle.sl_trace.specs.declared.input.Answer.TheVariants.{Read}
use Rattle.std.proofs.Common.{◌∙◌}

pub returns-then-is_member-clause-state : goal.returns-then-is_member-clause-state
returns-then-is_member-clause-state g c read =
    c.answer_value.ensures.state read
    ∙ if_there c.args.call.now.session (answering_job c.args.job c.args.call.now (Read (g.S.Sectors.bytes c.args.sectors.now)) (λ bytes x. with_reply c.args.job (value_reply x.config.layout bytes) x) (λ x. x)) (state_of read c.args.host.now.kept) c.if-is_member.ensures

pub returns-else-is_member-clause-state : goal.returns-else-is_member-clause-state
returns-else-is_member-clause-state g c read =
    if_gone c.args.call.now.session (answering_job c.args.job c.args.call.now (Read (g.S.Sectors.bytes c.args.sectors.now)) (λ bytes x. with_reply c.args.job (value_reply x.config.layout bytes) x) (λ x. x)) (state_of read c.args.host.now.kept) c.if-is_member.ensures
