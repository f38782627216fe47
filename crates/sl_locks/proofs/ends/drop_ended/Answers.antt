use Rattle.sl_locks.proofs.EndLaws.{none_ended}
use Rattle.sl_locks.proofs.ends.drop_ended.Goals as goal
use Rattle.std.proofs.Common.{rules, sym, ◌∙◌}
use Rattle.std.proofs.lemmas.Fn.{filter_same}

pub returns-then-ends_any-clause-items : goal.returns-then-ends_any-clause-items
returns-then-ends_any-clause-items c = filter_same _ _ _ (λ x b f' k. search rules) _ _ c.retain.ensures.filtered

pub returns-else-ends_any-clause-items : goal.returns-else-ends_any-clause-items
returns-else-ends_any-clause-items c =
    none_ended c.args.geometry.now.area c.args.ends.now c.args.held.now.items (sym c.ends_any.ensures ∙ c.if-ends_any.false)
