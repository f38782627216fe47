use Rattle.sl_host_law.specs.Answers.LeaseDecisions.{carrying_lease, for_command_of, for_work_of, granting_for, reading, writing_block, writing_leader}
use Rattle.sl_host_state.specs.KeptState.{HostState, state_of}
use Rattle.sl_host_work.proofs.lease_work.carry_lease.Goals as goal
use Rattle.sl_host_work.specs.LeaseWork.{converted_under}
use Rattle.sl_trace.specs.declared.session.Session.{Session}
use Rattle.sl_trace.specs.declared.effects.LeaseStep.TheVariants.{ClearMode, FreeLeader}
use Rattle.sl_trace.specs.declared.effects.Mode.TheVariants.{Exclusive, Shared}
use Rattle.sl_trace.specs.declared.effects.Work.TheVariants.{Settling}
use Rattle.std.proofs.Common.{ap, sym, ◌∙◌}

pub returns-in-ReadFor-clause-state : goal.returns-in-ReadFor-clause-state
returns-in-ReadFor-clause-state c m found is read =
    let a = c.args in
    let h : HostState = state_of read a.host.now.kept in
    c.read.ensures.state read ∙ ap (λ (s : Session). reading s a.at.now a.work c.in-ReadFor.step h) (sym is) ∙ sym (ap (λ n. carrying_lease m a.at.now a.work n h) c.in-ReadFor.is)

pub returns-in-WriteBlock-clause-state : goal.returns-in-WriteBlock-clause-state
returns-in-WriteBlock-clause-state c m found is read =
    let a = c.args in
    c.write_block.ensures.state m found is read ∙ sym (ap (λ n. carrying_lease m a.at.now a.work n (state_of read a.host.now.kept)) c.in-WriteBlock.is)

pub returns-in-WriteLeader-clause-state : goal.returns-in-WriteLeader-clause-state
returns-in-WriteLeader-clause-state c m found is read =
    let a = c.args in
    let h : HostState = state_of read a.host.now.kept in
    c.write_leader.ensures.state read ∙ ap (λ (s : Session). writing_leader s a.at.now a.work c.in-WriteLeader.step c.in-WriteLeader.leader h) (sym is) ∙ sym (ap (λ n. carrying_lease m a.at.now a.work n h) c.in-WriteLeader.is)

pub returns-in-AnswerJob-clause-state : goal.returns-in-AnswerJob-clause-state
returns-in-AnswerJob-clause-state c m found is read =
    let a = c.args in
    let h : HostState = state_of read a.host.now.kept in
    c.answer_job.ensures.state read ∙ sym (ap (λ n. carrying_lease m a.at.now a.work n h) c.in-AnswerJob.is)

pub returns-in-GrantJob-clause-state : goal.returns-in-GrantJob-clause-state
returns-in-GrantJob-clause-state c m found is read =
    let a = c.args in
    let h : HostState = state_of read a.host.now.kept in
    c.grant_job.ensures.state read ∙ ap (λ (s : Session). for_work_of a.work (λ j. for_command_of j (λ k. granting_for s j k c.in-GrantJob.mode c.in-GrantJob.lver)) h) (sym is) ∙ sym (ap (λ n. carrying_lease m a.at.now a.work n h) c.in-GrantJob.is)

pub returns-in-BecomeShared-clause-state : goal.returns-in-BecomeShared-clause-state
returns-in-BecomeShared-clause-state c m found is read =
    let a = c.args in
    let h : HostState = state_of read a.host.now.kept in
    c.become_shared.ensures.state read ∙ ap (λ (s : Session). writing_leader s a.at.now Settling FreeLeader c.in-BecomeShared.leader (converted_under s a.at.now a.work Shared c.in-BecomeShared.lver h)) (sym is) ∙ sym (ap (λ n. carrying_lease m a.at.now a.work n h) c.in-BecomeShared.is)

pub returns-in-BecomeExclusive-clause-state : goal.returns-in-BecomeExclusive-clause-state
returns-in-BecomeExclusive-clause-state c m found is read =
    let a = c.args in
    let h : HostState = state_of read a.host.now.kept in
    c.become_exclusive.ensures.state m found is read ∙ ap (λ (s : Session). writing_block m a.at.now Settling ClearMode c.in-BecomeExclusive.block (converted_under s a.at.now a.work Exclusive c.in-BecomeExclusive.lver h)) (sym is) ∙ sym (ap (λ n. carrying_lease m a.at.now a.work n h) c.in-BecomeExclusive.is)
