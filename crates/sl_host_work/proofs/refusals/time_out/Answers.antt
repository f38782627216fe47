use Rattle.sl_host_law.specs.Answers.RefusalsFollow.{refusing}
use Rattle.sl_host_state.specs.KeptState.{state_of}
use Rattle.sl_host_work.proofs.RefusalsStand.{not_timed_out_is, timed_out_is}
use Rattle.sl_host_work.proofs.refusals.time_out.Goals as goal
use Rattle.sl_trace.specs.declared.reply.Reply.TheVariants.{IoTimeout}
use Rattle.std.proofs.Common.{ap, ◌∙◌}

pub returns-in-Some-clause-state : goal.returns-in-Some-clause-state
returns-in-Some-clause-state c read =
    c.refuse.ensures.state read
    ∙ (ap (λ r. refusing c.args.number (IoTimeout c.in-Some.call.number c.in-Some.call.reading r) (state_of read c.args.host.now.kept)) c.reading.ensures
    ∙ timed_out_is c.args.number (state_of read c.args.host.now.kept) c.in-Some.call c.in-Some.ensures)

pub returns-in_default-clause-state : goal.returns-in_default-clause-state
returns-in_default-clause-state c read = not_timed_out_is c.args.number (state_of read c.args.host.now.kept) c.in_default.ensures
