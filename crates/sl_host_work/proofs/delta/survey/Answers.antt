use Rattle.sl_host_state.specs.KeptState.{state_of}
use Rattle.sl_host_state.specs.MadeEffects.{with_call}
use Rattle.sl_host_work.proofs.delta.survey.Goals as goal
use Rattle.sl_trace.specs.declared.effects.Op.TheVariants.{ReadSectors}
use Rattle.sl_trace.specs.declared.effects.Purpose.TheVariants.{Survey}
use Rattle.std.proofs.Common.{ap, ◌∙◌}

pub returns-clause-state : goal.returns-clause-state
returns-clause-state c read =
    let who = c.args.who.now in
    c.call.ensures.state read ∙ ap (λ n. with_call who.number who.path Survey who.offset (ReadSectors n) (state_of read c.args.host.now.kept)) c.hosts-sectors.ensures
