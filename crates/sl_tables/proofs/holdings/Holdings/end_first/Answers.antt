use Rattle.indexmap.specs.IndexMap.{get, spare}
use Rattle.sl_tables.proofs.HoldingsStand.{first_has, index_same, index_take, left_is, none_has, without_is, without_none}
use Rattle.sl_tables.proofs.SlotsStand.{kept, none_left_out}
use Rattle.sl_tables.proofs.holdings.Holdings.end_first.Goals as goal
use Rattle.sl_tables.specs.Holdings.{Leads, fits, is_held_at, is_of_process, without_first}
use Rattle.sl_tables.specs.SpotsCompare.{spot_equiv}
use Rattle.sl_trace.specs.Traces.{same_spot, spot_of_grant}
use Rattle.std.proofs.Common.{ap, arith, find, nat_eq, not, refl, subst, sym, true, ◌∙◌, ◌≡◌}
use Rattle.std.specs.Cmp.{nat_eq_equiv}
use Rattle.std.specs.List.{AllByRecursion}
use Rattle.std.specs.Map.{values_of}

pub leave_area-requires : goal.leave_area-requires
leave_area-requires c =
    let k = c.area_of-spot.result in
    record {
      led =
          subst (λ ps. AllByRecursion (λ p. is_held_at k p.1 ≡ true → Leads p.0 (get same_spot c.self.inside.areas k)) ps) (sym c.in-Some-take.ensures.items)
          (kept (λ p. is_held_at k p.1 ≡ true → Leads p.0 (get same_spot c.self.inside.areas k)) (λ p. not (nat_eq c.in-Some.number p.0)) c.self.inside.held.items (c.self.invariant.0.0 k));
    }

pub leave_process-requires : goal.leave_process-requires
leave_process-requires c =
    let k = c.in-Some-take.grant.process in
    record {
      led =
          subst (λ ps. AllByRecursion (λ p. is_of_process k p.1 ≡ true → Leads p.0 (get nat_eq c.self.inside.processes k)) ps) (sym c.in-Some-take.ensures.items)
          (kept (λ p. is_of_process k p.1 ≡ true → Leads p.0 (get nat_eq c.self.inside.processes k)) (λ p. not (nat_eq c.in-Some.number p.0)) c.self.inside.held.items (c.self.invariant.1.0 k));
    }

pub invariant_of-self : goal.invariant_of-self
invariant_of-self c =
    let held = c.self.inside.held in
    let taken = c.in-Some-take.ensures in
    let n = c.in-Some.number in (
      index_take same_spot spot_equiv spot_of_grant (get same_spot c.self.inside.areas) (get same_spot c.leave_area.new.areas) n c.area_of-spot.result (spare c.self.inside.areas) (spare c.leave_area.new.areas) held c.take.new.self
          taken.rising taken.below taken.items taken.kept.0 taken.kept.1 c.leave_area.ensures.room c.leave_area.ensures.firsts c.self.invariant.0,
      index_take nat_eq nat_eq_equiv (λ g. g.process) (get nat_eq c.self.inside.processes) (get nat_eq c.leave_process.new.processes) n c.in-Some-take.grant.process (spare c.self.inside.processes) (spare c.leave_process.new.processes)
          held c.take.new.self taken.rising taken.below taken.items taken.kept.0 taken.kept.1 c.leave_process.ensures.room c.leave_process.ensures.firsts c.self.invariant.1,
    )

pub invariant_of-self-in-None-take : goal.invariant_of-self-in-None-take
invariant_of-self-in-None-take c =
    let held = c.self.inside.held in
    let taken = c.in-None-take.ensures in
    let i = c.self.invariant in
    let items = taken.items ∙ none_left_out c.in-Some.number held.items (sym taken.found) in (
      index_same is_held_at (get same_spot c.self.inside.areas) (get same_spot c.self.inside.areas) (spare c.self.inside.areas) (spare c.self.inside.areas) held c.take.new.self (λ k. refl) items taken.kept.0
          (omega (arith, taken.kept.1, i.0.2)) i.0,
      index_same is_of_process (get nat_eq c.self.inside.processes) (get nat_eq c.self.inside.processes) (spare c.self.inside.processes) (spare c.self.inside.processes) held c.take.new.self (λ k. refl) items taken.kept.0
          (omega (arith, taken.kept.1, i.1.2)) i.1,
    )

pub returns-in-Some-take-clause-ended : goal.returns-in-Some-take-clause-ended
returns-in-Some-take-clause-ended c =
    c.in-Some-take.ensures.found
    ∙ (first_has (fits c.args.sought.now) c.self.inside.held.items c.in-Some.number c.in-Some-take.ensures.rising (sym c.in-Some.ensures) ∙ ap (λ v. find (fits c.args.sought.now) v.held) c.self.view_is)

pub returns-in-Some-take-clause-held : goal.returns-in-Some-take-clause-held
returns-in-Some-take-clause-held c =
    let t = fits c.args.sought.now in
    let taken = c.in-Some-take.ensures in
    left_is (values_of c.take.new.self.items) (without_first t c.args.self.now.held) c.take.new.self.next c.take.new.self.room c.args.self.now
    (ap values_of taken.items ∙ (without_is t c.self.inside.held.items c.in-Some.number taken.rising (sym c.in-Some.ensures) ∙ ap (λ v. without_first t v.held) c.self.view_is)) (taken.kept.0 ∙ ap (λ v. v.next) c.self.view_is)
    (taken.kept.1 ∙ ap (λ v. v.room) c.self.view_is)

pub returns-in-None-take-clause-ended : goal.returns-in-None-take-clause-ended
returns-in-None-take-clause-ended c =
    c.in-None-take.ensures.found
    ∙ (first_has (fits c.args.sought.now) c.self.inside.held.items c.in-Some.number c.in-None-take.ensures.rising (sym c.in-Some.ensures) ∙ ap (λ v. find (fits c.args.sought.now) v.held) c.self.view_is)

pub returns-in-None-take-clause-held : goal.returns-in-None-take-clause-held
returns-in-None-take-clause-held c =
    let t = fits c.args.sought.now in
    let taken = c.in-None-take.ensures in
    left_is (values_of c.take.new.self.items) (without_first t c.args.self.now.held) c.take.new.self.next c.take.new.self.room c.args.self.now
    (ap values_of taken.items ∙ (without_is t c.self.inside.held.items c.in-Some.number taken.rising (sym c.in-Some.ensures) ∙ ap (λ v. without_first t v.held) c.self.view_is)) (taken.kept.0 ∙ ap (λ v. v.next) c.self.view_is)
    (taken.kept.1 ∙ ap (λ v. v.room) c.self.view_is)

pub returns-in-None-clause-ended : goal.returns-in-None-clause-ended
returns-in-None-clause-ended c =
    sym (none_has (fits c.args.sought.now) c.self.inside.held.items (sym c.in-None.ensures)) ∙ ap (λ v. find (fits c.args.sought.now) v.held) c.self.view_is

pub returns-in-None-clause-held : goal.returns-in-None-clause-held
returns-in-None-clause-held c =
    let t = fits c.args.sought.now in
    let none = sym (ap (λ v. find t v.held) c.self.view_is) ∙ none_has t c.self.inside.held.items (sym c.in-None.ensures) in
    left_is c.args.self.now.held (without_first t c.args.self.now.held) c.args.self.now.next c.args.self.now.room c.args.self.now (sym (without_none t c.args.self.now.held none)) refl refl
