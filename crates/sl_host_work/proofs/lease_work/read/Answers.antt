use Rattle.sl_host_state.specs.KeptState.{HostState, state_of}
use Rattle.sl_host_state.specs.MadeEffects.{with_call}
use Rattle.sl_host_work.proofs.lease_work.read.Goals as goal
use Rattle.sl_trace.specs.declared.effects.Op.TheVariants.{ReadSectors}
use Rattle.sl_trace.specs.declared.effects.Purpose.TheVariants.{Lease}
use Rattle.std.proofs.Common.{◌∙◌}
use Rattle.std.specs.Prelude.{ℕ}

pub returns-clause-state : goal.returns-clause-state
returns-clause-state c read =
    let a = c.args in
    let made : ℕ → ℕ → HostState = λ o n. with_call a.who.now.number a.at.now.path (Lease a.work a.step) o (ReadSectors n) (state_of read a.host.now.kept) in
    c.call.ensures.state read ∙ (λ i. made (c.read_from-offset.ensures i) (c.sectors_of-sectors.ensures i))
