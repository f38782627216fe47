use Rattle.sl_host_answers.proofs.surveys.read_request.Goals as goal
use Rattle.sl_host_state.specs.KeptState.{HostState, state_of}
use Rattle.sl_host_state.specs.MadeEffects.{with_call}
use Rattle.sl_trace.specs.declared.effects.Op.TheVariants.{ReadSectors}
use Rattle.sl_trace.specs.declared.effects.Purpose.TheVariants.{SeeRequest}
use Rattle.std.proofs.Common.{ap, ◌∙◌}
use Rattle.std.specs.Prelude.{Err}

pub returns-clause-state : goal.returns-clause-state
returns-clause-state c read =
    let a = c.args in
    c.call.ensures.state read ∙ ap (λ o. with_call a.who.now.number a.held.now.path SeeRequest o (ReadSectors 1) (state_of read a.host.now.kept)) c.request_place-offset.ensures

pub returns-clause-stays : goal.returns-clause-stays
returns-clause-stays c = ap (λ (h : HostState). h.holdings) (c.call.ensures.state (λ text. Err 0))
