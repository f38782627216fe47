use Rattle.sl_host_answers.proofs.OwnSectorsStand.{ending_by, ends}
use Rattle.sl_host_answers.proofs.own_sectors.end_leaving.Goals as goal
use Rattle.sl_host_state.specs.KeptState.{state_of}
use Rattle.sl_trace.specs.declared.delta.DeltaNext.TheVariants.{EndLeaving}
use Rattle.std.proofs.Common.{ap, ◌∙◌}

pub returns-in-Some-clause-state : goal.returns-in-Some-clause-state
returns-in-Some-clause-state c read =
    let h = state_of read c.args.host.now.kept in
    let next = EndLeaving c.args.job c.args.reply in
    c.carry.ensures.state read ∙ (ap (λ o. ending_by o next h) c.in-Some.ensures.exact ∙ ends c.args.number next h)

pub returns-in-None-clause-state : goal.returns-in-None-clause-state
returns-in-None-clause-state c read =
    let h = state_of read c.args.host.now.kept in
    let next = EndLeaving c.args.job c.args.reply in
    ap (λ o. ending_by o next h) c.in-None.ensures.exact ∙ ends c.args.number next h
