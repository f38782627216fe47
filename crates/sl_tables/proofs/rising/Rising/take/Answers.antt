use Rattle.indexmap.specs.IndexMap.{set_value_at}
use Rattle.indexmap.specs.Layout.{length-set_value_at}
use Rattle.sl_tables.proofs.SlotsStand.{place_in, place_within, below_set, few_below, found_nowhere, gap_left, gaps_few, items_below, items_rise, none_left_out, rising_set}
use Rattle.sl_tables.proofs.rising.Rising.take.Goals as goal
use Rattle.sl_tables.specs.Rising.{AreBelow, AreRising, gaps_in, items_of}
use Rattle.std.proofs.Common.{None, ap, arith, nat_eq, refl, subst, sym, ◌+◌, ◌∙◌}
use Rattle.std.specs.Map.{lookup}
use Rattle.std.specs.Prelude.{filter, not}

pub overflow_add-self : goal.overflow_add-self
overflow_add-self g c =
    let i = c.self.invariant in
    let few = few_below c.self.inside.next c.self.inside.slots.items i.0 i.1 in
    let left = gap_left _ _ _ _ _ i.0 (place_in c.args.number c.deref.result.now c.self.inside.slots.items _ c.in-Some.ensures c.deref.ensures.value) c.leave_gap-item.ensures.found.1 in
    let more = gaps_few (set_value_at c.self.inside.slots.items c.in-Some.index None) in
    let same = length-set_value_at c.self.inside.slots.items c.in-Some.index None in
    let one = left.one_more (sym c.is_some.ensures ∙ c.if-is_some.true) in
    omega (arith, few, more, same, one, i.3, c.self.ranges.1.1)

pub invariant_of-self : goal.invariant_of-self
invariant_of-self g c =
    let i = c.self.invariant in
    let left = gap_left _ _ _ _ _ i.0 (place_in c.args.number c.deref.result.now c.self.inside.slots.items _ c.in-Some.ensures c.deref.ensures.value) c.leave_gap-item.ensures.found.1 in
    let e = sym c.leave_gap-item.ensures.slots in (
      subst AreRising e (rising_set _ _ _ i.0),
      subst (AreBelow c.self.inside.next) e (below_set _ _ _ _ i.1),
      omega (arith, i.2, c.leave_gap-item.ensures.room.0, c.leave_gap-item.ensures.room.1),
      ap gaps_in (sym e) ∙ (left.one_more (sym c.is_some.ensures ∙ c.if-is_some.true) ∙ ap (λ n. n + 1) i.3),
    )

pub invariant_of-self-else-is_some : goal.invariant_of-self-else-is_some
invariant_of-self-else-is_some g c =
    let i = c.self.invariant in
    let left = gap_left _ _ _ _ _ i.0 (place_in c.args.number c.deref.result.now c.self.inside.slots.items _ c.in-Some.ensures c.deref.ensures.value) c.leave_gap-item.ensures.found.1 in
    let e = sym c.leave_gap-item.ensures.slots in (
      subst AreRising e (rising_set _ _ _ i.0),
      subst (AreBelow c.self.inside.next) e (below_set _ _ _ _ i.1),
      omega (arith, i.2, c.leave_gap-item.ensures.room.0, c.leave_gap-item.ensures.room.1),
      ap gaps_in (sym e) ∙ (left.no_more (sym c.is_some.ensures ∙ c.if-is_some.false) ∙ i.3),
    )

pub returns-then-is_some-clause-found : goal.returns-then-is_some-clause-found
returns-then-is_some-clause-found g c =
    let left = gap_left _ _ _ _ _ c.self.invariant.0 (place_in c.args.number c.deref.result.now c.self.inside.slots.items _ c.in-Some.ensures c.deref.ensures.value) c.leave_gap-item.ensures.found.1 in
    left.found ∙ ap (λ v. lookup (nat_eq c.args.number) v.items) c.self.view_is

pub returns-then-is_some-clause-items : goal.returns-then-is_some-clause-items
returns-then-is_some-clause-items g c =
    let left = gap_left _ _ _ _ _ c.self.invariant.0 (place_in c.args.number c.deref.result.now c.self.inside.slots.items _ c.in-Some.ensures c.deref.ensures.value) c.leave_gap-item.ensures.found.1 in
    ap items_of c.leave_gap-item.ensures.slots ∙ left.items ∙ ap (λ v. filter (λ p. not (nat_eq c.args.number p.0)) v.items) c.self.view_is

pub returns-then-is_some-clause-kept : goal.returns-then-is_some-clause-kept
returns-then-is_some-clause-kept g c = (ap (λ v. v.next) c.self.view_is, ap (λ v. v.room) c.self.view_is)

pub returns-then-is_some-clause-rising : goal.returns-then-is_some-clause-rising
returns-then-is_some-clause-rising g c = subst (λ v. AreRising v.items) c.self.view_is (items_rise c.self.inside.slots.items c.self.invariant.0)

pub returns-then-is_some-clause-below : goal.returns-then-is_some-clause-below
returns-then-is_some-clause-below g c = subst (λ v. AreBelow v.next v.items) c.self.view_is (items_below c.self.inside.next c.self.inside.slots.items c.self.invariant.1)

pub returns-else-is_some-clause-found : goal.returns-else-is_some-clause-found
returns-else-is_some-clause-found g c =
    let left = gap_left _ _ _ _ _ c.self.invariant.0 (place_in c.args.number c.deref.result.now c.self.inside.slots.items _ c.in-Some.ensures c.deref.ensures.value) c.leave_gap-item.ensures.found.1 in
    left.found ∙ ap (λ v. lookup (nat_eq c.args.number) v.items) c.self.view_is

pub returns-else-is_some-clause-items : goal.returns-else-is_some-clause-items
returns-else-is_some-clause-items g c =
    let left = gap_left _ _ _ _ _ c.self.invariant.0 (place_in c.args.number c.deref.result.now c.self.inside.slots.items _ c.in-Some.ensures c.deref.ensures.value) c.leave_gap-item.ensures.found.1 in
    ap items_of c.leave_gap-item.ensures.slots ∙ left.items ∙ ap (λ v. filter (λ p. not (nat_eq c.args.number p.0)) v.items) c.self.view_is

pub returns-else-is_some-clause-kept : goal.returns-else-is_some-clause-kept
returns-else-is_some-clause-kept g c = (ap (λ v. v.next) c.self.view_is, ap (λ v. v.room) c.self.view_is)

pub returns-else-is_some-clause-rising : goal.returns-else-is_some-clause-rising
returns-else-is_some-clause-rising g c = subst (λ v. AreRising v.items) c.self.view_is (items_rise c.self.inside.slots.items c.self.invariant.0)

pub returns-else-is_some-clause-below : goal.returns-else-is_some-clause-below
returns-else-is_some-clause-below g c = subst (λ v. AreBelow v.next v.items) c.self.view_is (items_below c.self.inside.next c.self.inside.slots.items c.self.invariant.1)

pub returns-in-None-clause-found : goal.returns-in-None-clause-found
returns-in-None-clause-found g c =
    sym (ap (λ v. lookup (nat_eq c.args.number) v.items) (sym c.self.view_is) ∙ found_nowhere c.args.number c.self.inside.slots.items c.self.invariant.0 (place_in c.args.number c.deref.result.now c.self.inside.slots.items _ c.in-None.ensures c.deref.ensures.value))

pub returns-in-None-clause-items : goal.returns-in-None-clause-items
returns-in-None-clause-items g c =
    sym (none_left_out c.args.number c.args.self.now.items
    (ap (λ v. lookup (nat_eq c.args.number) v.items) (sym c.self.view_is) ∙ found_nowhere c.args.number c.self.inside.slots.items c.self.invariant.0 (place_in c.args.number c.deref.result.now c.self.inside.slots.items _ c.in-None.ensures c.deref.ensures.value)))

pub returns-in-None-clause-kept : goal.returns-in-None-clause-kept
returns-in-None-clause-kept g c = (refl, refl)

pub returns-in-None-clause-rising : goal.returns-in-None-clause-rising
returns-in-None-clause-rising g c = subst (λ v. AreRising v.items) c.self.view_is (items_rise c.self.inside.slots.items c.self.invariant.0)

pub returns-in-None-clause-below : goal.returns-in-None-clause-below
returns-in-None-clause-below g c = subst (λ v. AreBelow v.next v.items) c.self.view_is (items_below c.self.inside.next c.self.inside.slots.items c.self.invariant.1)

pub leave_gap-item-requires : goal.leave_gap-item-requires
leave_gap-item-requires g c = place_within c.args.number c.self.inside.slots.items c.in-Some.index (place_in c.args.number c.deref.result.now c.self.inside.slots.items _ c.in-Some.ensures c.deref.ensures.value)
