use Rattle.sl_host_law.specs.StepParts.Spawns.{terming}
use Rattle.sl_host_passes.proofs.processes.send_term.Goals as goal
use Rattle.sl_host_state.specs.KeptState.{state_of}
use Rattle.std.proofs.Common.{ap, sym, ◌∙◌}

pub returns-in-Some-clause-state : goal.returns-in-Some-clause-state
returns-in-Some-clause-state c read = c.signal.ensures.state read ∙ sym (ap (λ o. terming o (state_of read c.args.host.now.kept)) c.in-Some.is)
