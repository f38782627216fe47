use Rattle.indexmap.specs.IndexMap.{set_value_at}
use Rattle.indexmap.specs.Layout.{length-set_value_at}
use Rattle.sl_tables.proofs.SlotsStand.{place_in, place_within, below_set, few_below, found_nowhere, gap_left, gaps_few, none_left_out, rising_set}
use Rattle.sl_tables.proofs.rising.Rising.forget.Goals as goal
use Rattle.sl_tables.specs.Rising.{AreBelow, AreRising, gaps_in, items_of}
use Rattle.std.proofs.Common.{None, ap, arith, nat_eq, refl, subst, sym, ◌+◌, ◌∙◌}
use Rattle.std.specs.Map.{lookup}
use Rattle.std.specs.Prelude.{filter, not}

pub overflow_add-self : goal.overflow_add-self
overflow_add-self g c =
    let i = c.self.invariant in
    let few = few_below c.self.inside.next c.self.inside.slots.items i.0 i.1 in
    let left = gap_left _ _ _ _ _ i.0 (place_in c.args.number c.deref.result.now c.self.inside.slots.items _ c.in-Some.ensures c.deref.ensures.value) c.empty.ensures.found.2 in
    let more = gaps_few (set_value_at c.self.inside.slots.items c.in-Some.index None) in
    let same = length-set_value_at c.self.inside.slots.items c.in-Some.index None in
    let one = left.one_more (sym c.empty.ensures.found.3 ∙ c.if-empty.true) in
    omega (arith, few, more, same, one, i.3, c.self.ranges.1.1)

pub invariant_of-self : goal.invariant_of-self
invariant_of-self g c =
    let i = c.self.invariant in
    let left = gap_left _ _ _ _ _ i.0 (place_in c.args.number c.deref.result.now c.self.inside.slots.items _ c.in-Some.ensures c.deref.ensures.value) c.empty.ensures.found.2 in
    let e = sym c.empty.ensures.slots in (
      subst AreRising e (rising_set _ _ _ i.0),
      subst (AreBelow c.self.inside.next) e (below_set _ _ _ _ i.1),
      omega (arith, i.2, c.empty.ensures.room.0, c.empty.ensures.room.1),
      ap gaps_in (sym e) ∙ (left.one_more (sym c.empty.ensures.found.3 ∙ c.if-empty.true) ∙ ap (λ n. n + 1) i.3),
    )

pub invariant_of-self-else-empty : goal.invariant_of-self-else-empty
invariant_of-self-else-empty g c =
    let i = c.self.invariant in
    let left = gap_left _ _ _ _ _ i.0 (place_in c.args.number c.deref.result.now c.self.inside.slots.items _ c.in-Some.ensures c.deref.ensures.value) c.empty.ensures.found.2 in
    let e = sym c.empty.ensures.slots in (
      subst AreRising e (rising_set _ _ _ i.0),
      subst (AreBelow c.self.inside.next) e (below_set _ _ _ _ i.1),
      omega (arith, i.2, c.empty.ensures.room.0, c.empty.ensures.room.1),
      ap gaps_in (sym e) ∙ (left.no_more (sym c.empty.ensures.found.3 ∙ c.if-empty.false) ∙ i.3),
    )

pub returns-then-empty-clause-items : goal.returns-then-empty-clause-items
returns-then-empty-clause-items g c =
    let i = c.self.invariant in
    let left = gap_left _ _ _ _ _ i.0 (place_in c.args.number c.deref.result.now c.self.inside.slots.items _ c.in-Some.ensures c.deref.ensures.value) c.empty.ensures.found.2 in
    ap items_of c.empty.ensures.slots ∙ left.items ∙ ap (λ v. filter (λ p. not (nat_eq c.args.number p.0)) v.items) c.self.view_is

pub returns-else-empty-clause-items : goal.returns-else-empty-clause-items
returns-else-empty-clause-items g c =
    let i = c.self.invariant in
    let left = gap_left _ _ _ _ _ i.0 (place_in c.args.number c.deref.result.now c.self.inside.slots.items _ c.in-Some.ensures c.deref.ensures.value) c.empty.ensures.found.2 in
    ap items_of c.empty.ensures.slots ∙ left.items ∙ ap (λ v. filter (λ p. not (nat_eq c.args.number p.0)) v.items) c.self.view_is

pub returns-in-None-clause-items : goal.returns-in-None-clause-items
returns-in-None-clause-items g c =
    sym (none_left_out c.args.number c.args.self.now.items
    (ap (λ v. lookup (nat_eq c.args.number) v.items) (sym c.self.view_is) ∙ found_nowhere c.args.number c.self.inside.slots.items c.self.invariant.0 (place_in c.args.number c.deref.result.now c.self.inside.slots.items _ c.in-None.ensures c.deref.ensures.value)))

pub returns-then-empty-clause-kept : goal.returns-then-empty-clause-kept
returns-then-empty-clause-kept g c = (ap (λ v. v.next) c.self.view_is, ap (λ v. v.room) c.self.view_is)

pub returns-else-empty-clause-kept : goal.returns-else-empty-clause-kept
returns-else-empty-clause-kept g c = (ap (λ v. v.next) c.self.view_is, ap (λ v. v.room) c.self.view_is)

pub returns-in-None-clause-kept : goal.returns-in-None-clause-kept
returns-in-None-clause-kept g c = (refl, refl)

pub empty-requires : goal.empty-requires
empty-requires g c = place_within c.args.number c.self.inside.slots.items c.in-Some.index (place_in c.args.number c.deref.result.now c.self.inside.slots.items _ c.in-Some.ensures c.deref.ensures.value)
