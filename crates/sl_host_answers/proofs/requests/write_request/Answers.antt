use Rattle.sl_host_answers.proofs.requests.write_request.Goals as goal
use Rattle.sl_host_state.specs.KeptState.{HostState, state_of}
use Rattle.sl_host_state.specs.MadeEffects.{with_call}
use Rattle.sl_sector.specs.declared.sector.Rec.TheVariants.{RequestIs}
use Rattle.sl_trace.specs.declared.effects.Op.TheVariants.{WriteRecord}
use Rattle.sl_trace.specs.declared.effects.Purpose.TheVariants.{RequestWrite}
use Rattle.std.proofs.Common.{ℕ, ◌∙◌}

pub returns-clause-state : goal.returns-clause-state
returns-clause-state c read =
    let a = c.args in
    let called : ℕ → ℕ → HostState = λ offset host.
    with_call a.who.now.number a.resource.now.path (RequestWrite a.job a.owner) offset (WriteRecord (RequestIs (record { force = a.force; host = host; lver = a.asked }))) (state_of read a.host.now.kept) in
    c.call.ensures.state read ∙ (λ i. called (c.request_place-offset.ensures i) (c.host_named.ensures i))
