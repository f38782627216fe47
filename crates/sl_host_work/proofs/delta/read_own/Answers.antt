use Rattle.sl_host_state.specs.KeptState.{state_of}
use Rattle.sl_host_state.specs.MadeEffects.{with_call}
use Rattle.sl_host_work.proofs.delta.read_own.Goals as goal
use Rattle.sl_trace.specs.declared.effects.Op.TheVariants.{ReadSectors}
use Rattle.std.proofs.Common.{ap, ◌∙◌}

pub returns-clause-state : goal.returns-clause-state
returns-clause-state c read =
    let who = c.args.who.now in
    c.call.ensures.state read ∙ ap (λ o. with_call who.number who.path c.args.purpose o (ReadSectors 1) (state_of read c.args.host.now.kept)) c.own_sector-offset.ensures
