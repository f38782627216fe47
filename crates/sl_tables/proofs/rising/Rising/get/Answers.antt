use Rattle.sl_tables.proofs.SlotsStand.{found_at, found_nowhere, items_rise, place_in, place_within, stands_at}
use Rattle.sl_tables.proofs.rising.Rising.get.Goals as goal
use Rattle.sl_tables.specs.Rising.{AreRising}
use Rattle.std.proofs.Common.{ap, nat_eq, subst, sym, ◌∙◌}
use Rattle.std.specs.Map.{lookup}

pub returns-in-Some-clause-value : goal.returns-in-Some-clause-value
returns-in-Some-clause-value g c =
    let es = c.self.inside.slots.items in
    let s = c.index.result.now in
    let at = place_in c.args.number c.deref.result.now es _ c.in-Some.ensures c.deref.ensures.value in
    c.as_ref.ensures.value
    ∙ (sym (found_at c.args.number es c.in-Some.index s.0 s.1 c.self.invariant.0 at (stands_at es c.in-Some.index s (place_within c.args.number es c.in-Some.index at) c.index.ensures))
    ∙ ap (λ v. lookup (nat_eq c.args.number) v.items) c.self.view_is)

pub returns-in-None-clause-value : goal.returns-in-None-clause-value
returns-in-None-clause-value g c =
    sym (found_nowhere c.args.number c.self.inside.slots.items c.self.invariant.0 (place_in c.args.number c.deref.result.now c.self.inside.slots.items _ c.in-None.ensures c.deref.ensures.value)) ∙ ap (λ v. lookup (nat_eq c.args.number) v.items) c.self.view_is

pub returns-in-Some-clause-rising : goal.returns-in-Some-clause-rising
returns-in-Some-clause-rising g c = subst (λ v. AreRising v.items) c.self.view_is (items_rise c.self.inside.slots.items c.self.invariant.0)

pub returns-in-None-clause-rising : goal.returns-in-None-clause-rising
returns-in-None-clause-rising g c = subst (λ v. AreRising v.items) c.self.view_is (items_rise c.self.inside.slots.items c.self.invariant.0)
