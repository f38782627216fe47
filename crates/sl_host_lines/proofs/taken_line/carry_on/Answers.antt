use Rattle.sl_due.specs.declared.decision.Decision.{Decision}
use Rattle.sl_host_law.specs.Steps.LineSteps.{deciding}
use Rattle.sl_host_lines.proofs.taken_line.carry_on.Goals as goal
use Rattle.sl_host_state.specs.KeptState.{state_of}
use Rattle.std.proofs.Common.{ap, sym, ◌∙◌}

pub returns-in-Replies-clause-state : goal.returns-in-Replies-clause-state
returns-in-Replies-clause-state c read =
    c.answer.ensures.state read ∙ sym (ap (λ (d : Decision). deciding c.args.command.now d (state_of read c.args.host.now.kept)) c.in-Replies.is)

pub unreachable-requires : goal.unreachable-requires
unreachable-requires c = c.requires.other _ _ c.in-Joins.is
