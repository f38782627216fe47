use Rattle.sl_live.proofs.CarriedLaws.{both_true}
use Rattle.sl_live_machine.proofs.machine.end_children.Goals as goal
use Rattle.std.proofs.Common.{rules, sym, ◌∙◌}

pub returns-clause-signals : goal.returns-clause-signals
returns-clause-signals g c = λ whole.
    let parts = both_true c.is_whole-follows.result c.is_known-known.result (sym c.both-whole.ensures ∙ whole) in
    search (rules, c.is_whole-follows.ensures.signals parts.0)

pub returns-clause-killed : goal.returns-clause-killed
returns-clause-killed g c = λ whole.
    let parts = both_true c.is_whole-follows.result c.is_known-known.result (sym c.both-whole.ensures ∙ whole) in
    c.is_known-known.ensures parts.1
