use Rattle.sl_host.proofs.AnswersTold.{all_stay, one_goes}
use Rattle.sl_host.proofs.told_answers.remove_over.Goals as goal
use Rattle.std.proofs.Common.{◌∙◌}

pub loop-number-smaller : goal.loop-number-smaller
loop-number-smaller c =
    (one_goes c.args.unanswered.now.calls c.in-Some.number c.loop-number.members c.remove.new.self c.order.ensures.apart c.in-Some.ensures c.remove.ensures).1

pub loop-number-preserved : goal.loop-number-preserved
loop-number-preserved c =
    (one_goes c.args.unanswered.now.calls c.in-Some.number c.loop-number.members c.remove.new.self c.order.ensures.apart c.in-Some.ensures c.remove.ensures).0 ∙ c.loop-number.invariant

pub returns : goal.returns
returns c = all_stay c.args.unanswered.now.calls c.loop-number.members c.in_default.ensures ∙ c.loop-number.invariant
