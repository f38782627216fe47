use Rattle.sl_host_state.specs.MadeEffects.{with_reply}
use Rattle.sl_host_work.proofs.grants.grant.Goals as goal
use Rattle.sl_trace.specs.declared.reply.Reply.TheVariants.{Granted}
use Rattle.std.proofs.Common.{ap, ◌∙◌}

pub returns-clause-state : goal.returns-clause-state
returns-clause-state c read = c.reply.ensures.state read ∙ ap (with_reply c.args.job (Granted c.args.held.lver)) (c.grant.ensures.state read)
