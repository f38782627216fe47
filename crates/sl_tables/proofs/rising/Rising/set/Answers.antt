use Rattle.sl_tables.proofs.SlotsStand.{place_in, place_within, below_set, found_nowhere, items_rise, not_set, rising_set, set_at}
use Rattle.sl_tables.proofs.rising.Rising.set.Goals as goal
use Rattle.sl_tables.specs.Rising.{AreBelow, AreRising, altered, gaps_in, items_of}
use Rattle.std.proofs.Common.{ap, arith, nat_eq, subst, sym, ◌∙◌}
use Rattle.std.specs.Map.{lookup}

pub invariant_of-self : goal.invariant_of-self
invariant_of-self g c =
    let i = c.self.invariant in
    let r = c.replace_in.ensures.slots in
    let s = set_at c.self.inside.slots.items c.in-Some.index c.args.number r.0 r.1 (λ x. c.args.item) i.0 (place_in c.args.number c.deref.result.now c.self.inside.slots.items _ c.in-Some.ensures c.deref.ensures.value) r.2 in
    let e = sym r.3 in
    (subst AreRising e (rising_set _ _ _ i.0), subst (AreBelow c.self.inside.next) e (below_set _ _ _ _ i.1), omega (arith, i.2, c.replace_in.ensures.room.0, c.replace_in.ensures.room.1), ap gaps_in r.3 ∙ (s.gaps ∙ i.3))

pub returns-in-Some-clause-state : goal.returns-in-Some-clause-state
returns-in-Some-clause-state g c =
    let r = c.replace_in.ensures.slots in
    let s = set_at c.self.inside.slots.items c.in-Some.index c.args.number r.0 r.1 (λ x. c.args.item) c.self.invariant.0 (place_in c.args.number c.deref.result.now c.self.inside.slots.items _ c.in-Some.ensures c.deref.ensures.value) r.2 in
    let v = c.self.view_is in
    let items = ap items_of r.3 ∙ (s.items ∙ ap (λ o. altered c.args.number (λ x. c.args.item) o.items) v) in
    λ j. record { items = items j; next = (v j).next; room = (v j).room; gaps = (v j).gaps }

pub returns-in-None-clause-state : goal.returns-in-None-clause-state
returns-in-None-clause-state g c =
    let v = c.self.view_is in
    let none = ap (λ o. lookup (nat_eq c.args.number) o.items) (sym v) ∙ found_nowhere c.args.number c.self.inside.slots.items c.self.invariant.0 (place_in c.args.number c.deref.result.now c.self.inside.slots.items _ c.in-None.ensures c.deref.ensures.value) in
    let items = sym (not_set c.args.number (λ x. c.args.item) c.args.self.now.items none) in
    λ j. record { items = items j; next = c.args.self.now.next; room = c.args.self.now.room; gaps = c.args.self.now.gaps }

pub returns-in-Some-clause-rising : goal.returns-in-Some-clause-rising
returns-in-Some-clause-rising g c = subst (λ v. AreRising v.items) c.self.view_is (items_rise c.self.inside.slots.items c.self.invariant.0)

pub returns-in-None-clause-rising : goal.returns-in-None-clause-rising
returns-in-None-clause-rising g c = subst (λ v. AreRising v.items) c.self.view_is (items_rise c.self.inside.slots.items c.self.invariant.0)

pub replace_in-requires : goal.replace_in-requires
replace_in-requires g c = place_within c.args.number c.self.inside.slots.items c.in-Some.index (place_in c.args.number c.deref.result.now c.self.inside.slots.items _ c.in-Some.ensures c.deref.ensures.value)
