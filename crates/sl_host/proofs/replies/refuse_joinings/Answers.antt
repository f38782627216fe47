use Rattle.sl_host.proofs.RepliesStand.{answered_more, is_refused, none_answered, none_found}
use Rattle.sl_host.proofs.replies.refuse_joinings.Goals as goal
use Rattle.sl_host.specs.ReplyJoinings.{refusal_of}
use Rattle.std.proofs.Common.{◌∙◌}

pub loop-number-smaller : goal.loop-number-smaller
loop-number-smaller c =
    (answered_more (refusal_of c.args.unanswered.now.calls) c.args.job c.in-Some.number c.loop-number.members.members c.refuse.new.members.members (is_refused c.args.unanswered.now.calls c.args.job) c.in-Some.ensures.apart c.in-Some.ensures.found
    c.refuse.ensures.members).1

pub loop-number-preserved : goal.loop-number-preserved
loop-number-preserved c =
    let more = (answered_more (refusal_of c.args.unanswered.now.calls) c.args.job c.in-Some.number c.loop-number.members.members c.refuse.new.members.members (is_refused c.args.unanswered.now.calls c.args.job) c.in-Some.ensures.apart c.in-Some.ensures.found
    c.refuse.ensures.members).0 in
    (more ∙ c.loop-number.invariant.0, c.refuse.ensures.run.0 ∙ c.loop-number.invariant.1, c.refuse.ensures.run.1 ∙ c.loop-number.invariant.2, c.refuse.ensures.run.2 ∙ c.loop-number.invariant.3)

pub returns-clause-members : goal.returns-clause-members
returns-clause-members c =
    none_answered (refusal_of c.args.unanswered.now.calls) c.args.job (is_refused c.args.unanswered.now.calls c.args.job) c.loop-number.members.members (none_found c.args.job c.loop-number.members.members c.in_default.ensures.found)
    ∙ c.loop-number.invariant.0
