use Rattle.sl_machine.proofs.PlainFilled.{one_more_mapped}
use Rattle.sl_machine.proofs.machine_effects.all_ends.Goals as goal
use Rattle.sl_trace.specs.Traces as traces
use Rattle.std.proofs.Common.{[], ap, ◌++◌, ◌∙◌, ◌∷◌}

pub loop-grant-preserved : goal.loop-grant-preserved
loop-grant-preserved c =
    one_more_mapped traces.end_of c.args.held.now c.loop-grant.grant-index c.grant-item.result c.loop-grant.ends.items c.push.new.self.items c.loop-grant-test.true c.grant-item.is
    c.loop-grant.invariant (c.in_ok-push.ensures.items ∙ ap (λ e. c.loop-grant.ends.items ++ e ∷ []) c.end_of.ensures)
