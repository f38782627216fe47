use Rattle.sl_host_lines.proofs.lockspace_commands.decide_leave.Goals as goal
use Rattle.sl_host_lines.specs.CommandRefusals.{leave_in}
use Rattle.sl_host_law.specs.Decisions.CommandDecisions.{with_member}
use Rattle.sl_host.specs.BookQuestions.{state_in}
use Rattle.std.proofs.Common.{ap, ◌∙◌}

pub returns-in-Some : goal.returns-in-Some
returns-in-Some c = c.leaves.ensures ∙ ap (λ o. with_member o (λ m. leave_in (state_in c.args.host.now.kept) m)) c.in-Some.ensures.exact
