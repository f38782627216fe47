use Rattle.sl_area.specs.AreaSizes.{layout_of}
use Rattle.sl_due.specs.declared.decision.Decision.{Decision}
use Rattle.sl_host_law.specs.Decisions.CommandDecisions.{decision_of}
use Rattle.sl_host_law.specs.Steps.LineSteps.{deciding}
use Rattle.sl_host_lines.proofs.SeatsStand.{free_to_join}
use Rattle.sl_host_lines.proofs.taken_line.carry_out.Goals as goal
use Rattle.sl_host_lines.specs.LineFacts.{DecisionKnown}
use Rattle.sl_host_lines.specs.Seats.{HasSeat}
use Rattle.sl_host_state.specs.KeptState.{state_of}
use Rattle.sl_trace.specs.CommandForms.{IsCommand}
use Rattle.sl_trace.specs.declared.command.Command.{Command}
use Rattle.sl_host.specs.BookQuestions.{state_in}
use Rattle.std.proofs.Common.{ap, subst, sym, ◌∙◌}

pub join_with-requires-clause-named : goal.join_with-requires-clause-named
join_with-requires-clause-named c =
    let k = c.args.host.now.kept in
    let known = subst (λ (d : Decision). DecisionKnown k c.args.command.now d) c.in-Joins.is c.requires.known in
    subst (λ (z : Command). IsCommand (layout_of k.config.sizes) z) known.0 c.requires.command

pub join_with-requires-clause-new : goal.join_with-requires-clause-new
join_with-requires-clause-new c = (subst (λ (d : Decision). DecisionKnown c.args.host.now.kept c.args.command.now d) c.in-Joins.is c.requires.known).1

pub join_with-requires-clause-few : goal.join_with-requires-clause-few
join_with-requires-clause-few c =
    let h = state_in c.args.host.now.kept in
    let known = subst (λ (d : Decision). DecisionKnown c.args.host.now.kept c.args.command.now d) c.in-Joins.is c.requires.known in
    free_to_join h c.in-Joins.lockspace c.in-Joins.lockspace c.in-Joins.session
    (sym (ap (λ (z : Command). decision_of h z) known.0) ∙ (sym c.requires.decided ∙ c.in-Joins.is))

pub join_with-requires-clause-seat : goal.join_with-requires-clause-seat
join_with-requires-clause-seat c =
    let known = subst (λ (d : Decision). DecisionKnown c.args.host.now.kept c.args.command.now d) c.in-Joins.is c.requires.known in
    subst (λ (z : Command). HasSeat c.args.host.now z c.args.seat.now) known.0 c.requires.seat

pub returns-in-Joins-clause-state : goal.returns-in-Joins-clause-state
returns-in-Joins-clause-state c read =
    c.join_with.ensures.state c.in-Joins.session read
    ∙ sym (ap (λ (d : Decision). deciding c.args.command.now d (state_of read c.args.host.now.kept)) c.in-Joins.is)
