use Rattle.sl_tables.proofs.HoldingsStand.{holder_more, holders_before}
use Rattle.sl_tables.proofs.holdings.Rising+Grant.least_holder.Goals as goal
use Rattle.sl_tables.specs.Holdings.{fits, holder_in, least_holder, sooner}
use Rattle.sl_tables.specs.Rising.{items_of}
use Rattle.std.proofs.Common.{ap, arith, length, slice_get, subst, sym, take, true, ◌∙◌, ◌≡◌, ◌<◌, ◌≤◌}
use Rattle.std.specs.List.{AllByRecursion}
use Rattle.std.specs.Map.{values_of}

pub loop-index-init : goal.loop-index-init
loop-index-init c =
    holders_before c.args.sought.now c.args.first c.self.inside.slots.items c.slot_of-index.result
    (subst (λ r. AllByRecursion (λ p. fits c.args.sought.now p.1 ≡ true → c.args.first ≤ p.0) r.items) (sym c.self.view_is) c.requires) (subst (λ es. AllByRecursion (λ p. p.0 < c.args.first) (items_of (take c.slot_of-index.result es))) c.deref.ensures.value c.slot_of-index.ensures.below)

pub loop-index-preserved : goal.loop-index-preserved
loop-index-preserved c =
    let es = c.self.inside.slots.items in
    let i = c.loop-index.index in
    let s = c.args.sought.now in
    let held = c.holder_in.ensures ∙ ap (λ zs. holder_in s (slice_get zs i)) c.deref-in-loop-index.ensures.value in
    let many = ap length c.deref.ensures.value in
    c.sooner-least.ensures
    ∙ (ap (λ o. sooner o c.holder_in.result) c.loop-index.invariant
    ∙ (ap (λ o. sooner (least_holder s (values_of (items_of (take i es)))) o) held ∙ holder_more s es i (omega (arith, c.loop-index-test.true, c.len-index-end.ensures, c.deref.ensures.len, many))))
