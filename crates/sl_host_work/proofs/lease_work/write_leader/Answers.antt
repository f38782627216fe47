use Rattle.sl_host_state.specs.KeptState.{state_of}
use Rattle.sl_host_state.specs.MadeEffects.{with_call}
use Rattle.sl_host_work.proofs.lease_work.write_leader.Goals as goal
use Rattle.sl_trace.specs.declared.effects.Op.TheVariants.{WriteRecord}
use Rattle.sl_trace.specs.declared.effects.Purpose.TheVariants.{Lease}
use Rattle.std.proofs.Common.{ap, ◌∙◌}

pub returns-clause-state : goal.returns-clause-state
returns-clause-state c read =
    let a = c.args in
    c.write.ensures.state read
    ∙ ap (λ r. with_call a.who.now.number a.at.now.path (Lease a.work a.step) a.at.now.base (WriteRecord r) (state_of read a.host.now.kept)) c.leader_record-spelled.ensures.exact
