use Rattle.sl_due.specs.declared.decision.Decision.{Decision}
use Rattle.sl_host_law.specs.Steps.LineSteps.{deciding}
use Rattle.sl_host_lines.proofs.taken_line.take_line.Goals as goal
use Rattle.sl_host_state.specs.KeptState.{state_of}
use Rattle.std.specs.Prelude.{Err}
use Rattle.std.proofs.Common.{ap, ◌∙◌}

pub carry_out-requires-clause-known : goal.carry_out-requires-clause-known
carry_out-requires-clause-known c = c.requires.known.decided c.decide-decision.result c.decide-decision.ensures

pub returns-clause-state : goal.returns-clause-state
returns-clause-state c read =
    c.carry_out.ensures.state read ∙ ap (λ (d : Decision). deciding c.args.command.now d (state_of read c.args.host.now.kept)) (c.decide-decision.ensures read)

pub carry_out-requires-clause-decided : goal.carry_out-requires-clause-decided
carry_out-requires-clause-decided c = c.decide-decision.ensures (λ text. Err 0)
