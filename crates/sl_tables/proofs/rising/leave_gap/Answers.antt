use Rattle.sl_tables.proofs.SlotsStand.{stands_at, written}
use Rattle.sl_tables.proofs.rising.leave_gap.Goals as goal
use Rattle.std.proofs.Common.{None, Some, ap, slice_set, sym, ◌∙◌}

pub returns-clause-slots : goal.returns-clause-slots
returns-clause-slots g c =
    let es = c.args.slots.now.items in
    let s = c.index_mut.result.now in
    ap (λ o. slice_set es c.args.index (s.0, o)) c.take.ensures.after ∙ written es c.args.index s None c.requires c.index_mut.ensures.value

pub returns-clause-found : goal.returns-clause-found
returns-clause-found g c =
    let s = c.index_mut.result.now in
    (s.0, stands_at c.args.slots.now.items c.args.index s c.requires c.index_mut.ensures.value ∙ ap (λ o. Some (s.0, o)) (sym c.take.ensures.value))
