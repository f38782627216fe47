use Rattle.sl_tables.proofs.ChildrenStand.{exit_about, none_left, set_are, set_left, stands_there, take_are, take_left}
use Rattle.sl_tables.proofs.children.Children.exited.Goals as goal
use Rattle.sl_tables.specs.Children.{AreChildren, IsLeft, child_of, children_left}
use Rattle.sl_trace.specs.declared.input.Input.TheVariants.{Exit as Heard}
use Rattle.std.proofs.Common.{None, Some, ap, map, nat_eq, not, subst, sym, ◌∙◌}
use Rattle.std.specs.Map.{values_of}

pub invariant_of-self : goal.invariant_of-self
invariant_of-self c =
    let there = stands_there c.args.process c.self.inside.children.items c.in-Some.child c.self.invariant (sym c.get.ensures.value ∙ sym c.in-Some.ensures) in
    let left : IsLeft (Heard c.args.process) c.in-Some.child (Some c.in-Some-exits.next) = subst (λ n. IsLeft (Heard n) c.in-Some.child (Some c.in-Some-exits.next)) there.0 (subst (IsLeft (Heard c.in-Some.child.process) c.in-Some.child) c.in-Some-exits.is c.exits.ensures) in
    subst AreChildren (sym (ap (λ r. r.items) c.set.ensures.state)) (set_are c.args.process c.in-Some-exits.next c.self.inside.children.items (left.2 ∙ there.0) left.1 c.self.invariant)

pub invariant_of-self-in-None-exits : goal.invariant_of-self-in-None-exits
invariant_of-self-in-None-exits c = subst AreChildren (sym c.forget.ensures.items) (take_are (λ p. not (nat_eq c.args.process p.0)) c.self.inside.children.items c.self.invariant)

pub returns-in-Some-exits-clause-children : goal.returns-in-Some-exits-clause-children
returns-in-Some-exits-clause-children c =
    let at = sym c.get.ensures.value ∙ sym c.in-Some.ensures in
    let there = stands_there c.args.process c.self.inside.children.items c.in-Some.child c.self.invariant (sym c.get.ensures.value ∙ sym c.in-Some.ensures) in
    let left : IsLeft (Heard c.args.process) c.in-Some.child (Some c.in-Some-exits.next) = subst (λ n. IsLeft (Heard n) c.in-Some.child (Some c.in-Some-exits.next)) there.0 (subst (IsLeft (Heard c.in-Some.child.process) c.in-Some.child) c.in-Some-exits.is c.exits.ensures) in
    ap (λ r. map child_of (values_of r.items)) c.set.ensures.state
    ∙ set_left c.args.process (Heard c.args.process) c.self.inside.children.items c.in-Some.child c.in-Some-exits.next (exit_about c.args.process) c.self.invariant c.get.ensures.rising at left
    ∙ ap (λ v. children_left (Heard c.args.process) v.children) c.self.view_is

pub returns-in-None-exits-clause-children : goal.returns-in-None-exits-clause-children
returns-in-None-exits-clause-children c =
    let at = sym c.get.ensures.value ∙ sym c.in-Some.ensures in
    let there = stands_there c.args.process c.self.inside.children.items c.in-Some.child c.self.invariant (sym c.get.ensures.value ∙ sym c.in-Some.ensures) in
    let left : IsLeft (Heard c.args.process) c.in-Some.child None = subst (λ n. IsLeft (Heard n) c.in-Some.child None) there.0 (subst (IsLeft (Heard c.in-Some.child.process) c.in-Some.child) c.in-None-exits.is c.exits.ensures) in
    ap (λ ps. map child_of (values_of ps)) c.forget.ensures.items
    ∙ take_left c.args.process (Heard c.args.process) c.self.inside.children.items c.in-Some.child (exit_about c.args.process) c.self.invariant c.get.ensures.rising at left
    ∙ ap (λ v. children_left (Heard c.args.process) v.children) c.self.view_is

pub returns-in-None-clause-children : goal.returns-in-None-clause-children
returns-in-None-clause-children c =
    sym (ap (λ v. v.children) c.self.view_is) ∙ none_left c.args.process (Heard c.args.process) c.self.inside.children.items (exit_about c.args.process) c.self.invariant (sym c.get.ensures.value ∙ sym c.in-None.ensures)
    ∙ ap (λ v. children_left (Heard c.args.process) v.children) c.self.view_is
