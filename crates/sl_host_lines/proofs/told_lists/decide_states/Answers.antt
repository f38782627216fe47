use Rattle.sl_host_lines.proofs.told_lists.decide_states.Goals as goal
use Rattle.sl_host_lines.specs.CommandRefusals.{report_in}
use Rattle.sl_host_law.specs.Decisions.CommandDecisions.{states_told, with_member}
use Rattle.sl_trace.specs.declared.reply.Reply.TheVariants.{Hosts}
use Rattle.sl_host.specs.BookQuestions.{state_in}
use Rattle.std.proofs.Common.{ap, ◌∙◌}

pub returns-in-Some : goal.returns-in-Some
returns-in-Some c = c.tells_states.ensures ∙ ap (λ o. with_member o (λ m. report_in m (Hosts (states_told (state_in c.args.host.now.kept) m)))) c.in-Some.ensures.exact
