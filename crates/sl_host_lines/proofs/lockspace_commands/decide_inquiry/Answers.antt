use Rattle.sl_host_lines.proofs.lockspace_commands.decide_inquiry.Goals as goal
use Rattle.sl_host_lines.specs.CommandRefusals.{report_in}
use Rattle.sl_host_law.specs.Decisions.CommandDecisions.{with_member}
use Rattle.sl_trace.specs.declared.reply.Reply.TheVariants.{Generation}
use Rattle.std.proofs.Common.{ap, ◌∙◌}

pub returns-in-Some : goal.returns-in-Some
returns-in-Some c = c.tells_generation.ensures ∙ ap (λ o. with_member o (λ m. report_in m (Generation m.known.generation))) c.in-Some.ensures.exact
