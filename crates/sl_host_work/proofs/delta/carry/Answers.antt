use Rattle.sl_host_law.specs.Answers.CarriedDecisions.{carrying}
use Rattle.sl_host_state.specs.KeptState.{state_of}
use Rattle.sl_host_work.proofs.delta.carry.Goals as goal
use Rattle.std.proofs.Common.{ap, sym, ◌∙◌}

pub returns-in-RefuseJoin-clause-state : goal.returns-in-RefuseJoin-clause-state
returns-in-RefuseJoin-clause-state c read = c.refuse_join.ensures.state read ∙ sym (ap (λ n. carrying c.args.who.now n (state_of read c.args.host.now.kept)) c.in-RefuseJoin.is)

pub returns-in-ReadOwn-clause-state : goal.returns-in-ReadOwn-clause-state
returns-in-ReadOwn-clause-state c read = c.read_for_job.ensures.state read ∙ sym (ap (λ n. carrying c.args.who.now n (state_of read c.args.host.now.kept)) c.in-ReadOwn.is)

pub returns-in-RegisterAndRead-clause-state : goal.returns-in-RegisterAndRead-clause-state
returns-in-RegisterAndRead-clause-state c read = c.register_and_read.ensures.state read ∙ sym (ap (λ n. carrying c.args.who.now n (state_of read c.args.host.now.kept)) c.in-RegisterAndRead.is)

pub returns-in-WriteClaim-clause-state : goal.returns-in-WriteClaim-clause-state
returns-in-WriteClaim-clause-state c read = c.write_for_job.ensures.state read ∙ sym (ap (λ n. carrying c.args.who.now n (state_of read c.args.host.now.kept)) c.in-WriteClaim.is)

pub returns-in-Disconnect-clause-state : goal.returns-in-Disconnect-clause-state
returns-in-Disconnect-clause-state c read = c.remove_connection.ensures.state read ∙ sym (ap (λ n. carrying c.args.who.now n (state_of read c.args.host.now.kept)) c.in-Disconnect.is)

pub returns-in-WriteFirst-clause-state : goal.returns-in-WriteFirst-clause-state
returns-in-WriteFirst-clause-state c read = c.write_for_job-in-WriteFirst.ensures.state read ∙ sym (ap (λ n. carrying c.args.who.now n (state_of read c.args.host.now.kept)) c.in-WriteFirst.is)

pub returns-in-Join-clause-state : goal.returns-in-Join-clause-state
returns-in-Join-clause-state c read = c.join.ensures.state read ∙ sym (ap (λ n. carrying c.args.who.now n (state_of read c.args.host.now.kept)) c.in-Join.is)

pub returns-in-MoveConnection-clause-state : goal.returns-in-MoveConnection-clause-state
returns-in-MoveConnection-clause-state c read = c.move_and_survey.ensures.state read ∙ sym (ap (λ n. carrying c.args.who.now n (state_of read c.args.host.now.kept)) c.in-MoveConnection.is)

pub returns-in-WriteRenewal-clause-state : goal.returns-in-WriteRenewal-clause-state
returns-in-WriteRenewal-clause-state c read = c.write_own.ensures.state read ∙ sym (ap (λ n. carrying c.args.who.now n (state_of read c.args.host.now.kept)) c.in-WriteRenewal.is)

pub returns-in-WriteFree-clause-state : goal.returns-in-WriteFree-clause-state
returns-in-WriteFree-clause-state c read = c.write_own-in-WriteFree.ensures.state read ∙ sym (ap (λ n. carrying c.args.who.now n (state_of read c.args.host.now.kept)) c.in-WriteFree.is)

pub returns-in-EndLeaving-clause-state : goal.returns-in-EndLeaving-clause-state
returns-in-EndLeaving-clause-state c read = c.end_leaving.ensures.state read ∙ sym (ap (λ n. carrying c.args.who.now n (state_of read c.args.host.now.kept)) c.in-EndLeaving.is)
