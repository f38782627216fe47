use Rattle.sl_lease.proofs.KnownLaws.{refusals_are_within}
use Rattle.sl_lease.proofs.next.after_failure.Goals as goal
use Rattle.sl_trace.specs.LeaseDecisions.{within_turn}
use Rattle.sl_trace.specs.declared.reply.Reply.TheVariants.{IoFault}
use Rattle.std.proofs.Common.{ap, sym, ◌∙◌}

pub returns-clause-within : goal.returns-clause-within
returns-clause-within c =
    λ p k. ap (within_turn p k c.args.aim) c.refuses.ensures.exact ∙ refusals_are_within p k c.args.aim (IoFault c.args.call) ∙ sym c.refuses.ensures.exact
