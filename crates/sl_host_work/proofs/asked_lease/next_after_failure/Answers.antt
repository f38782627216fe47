use Rattle.sl_host_law.specs.Questions.Answers.{place_in}
use Rattle.sl_host_law.specs.Steps.Leases.{blocks_at, known_by, lease_at}
use Rattle.sl_host_work.proofs.NextLaws.{refusals_write_nothing}
use Rattle.sl_host_work.proofs.asked_lease.next_after_failure.Goals as goal
use Rattle.sl_host_work.specs.NextDecisions.{writes_own_block}
use Rattle.sl_trace.specs.LeaseDecisions.{lease_next, within_turn}
use Rattle.sl_trace.specs.Leases.{LeaseKnown}
use Rattle.sl_trace.specs.declared.input.Answer.TheVariants.{Failed}
use Rattle.sl_trace.specs.declared.lease.LeaseNext.{LeaseNext}
use Rattle.sl_trace.specs.declared.reply.Reply.TheVariants.{IoFault}
use Rattle.std.proofs.Common.{ap, sym, ◌∙◌}

pub returns-clause-exact : goal.returns-clause-exact
unfolding lease_next
returns-clause-exact c h m at step =
    let known : LeaseKnown = known_by h m at (lease_at m at) (blocks_at h.config.layout (lease_at m at) step Failed) in
    sym (c.after_failure.ensures.within (place_in h m) known) ∙ ap (λ (n : LeaseNext). within_turn (place_in h m) known c.args.aim n) c.after_failure.ensures.exact

pub returns-clause-unwritten : goal.returns-clause-unwritten
returns-clause-unwritten c = ap writes_own_block c.after_failure.ensures.exact ∙ refusals_write_nothing c.args.aim (IoFault c.args.call.now.number)
