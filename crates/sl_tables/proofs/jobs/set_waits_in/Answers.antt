use Rattle.indexmap.specs.IndexMap.{set_value_at}
use Rattle.sl_tables.proofs.SlotsStand.{stands_at, written}
use Rattle.sl_tables.proofs.jobs.set_waits_in.Goals as goal
use Rattle.sl_tables.specs.Jobs.{waiting}
use Rattle.std.proofs.Common.{Some, ap, option_map, sym, ◌∙◌}

pub returns-in-Some-clause-slots : goal.returns-in-Some-clause-slots
returns-in-Some-clause-slots c =
    let es = c.args.slots.now.items in
    let s = c.index_mut.result.now in
    let f = waiting c.args.waits in (
      s.0,
      s.1,
      stands_at es c.args.index s c.requires c.index_mut.ensures.value,
      written es c.args.index s (Some (f c.in-Some.job)) c.requires c.index_mut.ensures.value ∙ ap (λ o. set_value_at es c.args.index (option_map f o)) (sym c.in-Some.is),
    )

pub returns-in-None-clause-slots : goal.returns-in-None-clause-slots
returns-in-None-clause-slots c =
    let es = c.args.slots.now.items in
    let s = c.index_mut.result.now in
    let f = waiting c.args.waits in (
      s.0,
      s.1,
      stands_at es c.args.index s c.requires c.index_mut.ensures.value,
      written es c.args.index s s.1 c.requires c.index_mut.ensures.value ∙ ap (λ o. set_value_at es c.args.index o) (c.in-None.is ∙ ap (option_map f) (sym c.in-None.is)),
    )
