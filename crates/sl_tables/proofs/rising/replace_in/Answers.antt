use Rattle.indexmap.specs.IndexMap.{set_value_at}
use Rattle.sl_tables.proofs.SlotsStand.{full_filled, gap_filled, stands_at, written}
use Rattle.sl_tables.proofs.rising.replace_in.Goals as goal
use Rattle.std.proofs.Common.{Some, ap, sym, ◌∙◌}

pub returns-then-is_some-clause-slots : goal.returns-then-is_some-clause-slots
returns-then-is_some-clause-slots g c =
    let es = c.args.slots.now.items in
    let s = c.index_mut.result.now in (
      s.0,
      s.1,
      stands_at es c.args.index s c.requires c.index_mut.ensures.value,
      written es c.args.index s (Some c.args.item) c.requires c.index_mut.ensures.value ∙ ap (λ v. set_value_at es c.args.index v) (full_filled c.args.item s.1 (sym c.is_some.ensures ∙ c.if-is_some.true)),
    )

pub returns-else-is_some-clause-slots : goal.returns-else-is_some-clause-slots
returns-else-is_some-clause-slots g c =
    let es = c.args.slots.now.items in
    let s = c.index_mut.result.now in (
      s.0,
      s.1,
      stands_at es c.args.index s c.requires c.index_mut.ensures.value,
      written es c.args.index s s.1 c.requires c.index_mut.ensures.value ∙ ap (λ v. set_value_at es c.args.index v) (gap_filled c.args.item s.1 (sym c.is_some.ensures ∙ c.if-is_some.false)),
    )
