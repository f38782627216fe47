use Rattle.sl_trace.specs.Jobs.{is_asking_lease, is_program}
use Rattle.sl_tables.proofs.JobsChange.{state_is, there}
use Rattle.sl_tables.proofs.SlotsStand.{replaced}
use Rattle.sl_tables.proofs.NumbersName.{own_replaced, values_set}
use Rattle.sl_tables.proofs.TotalsGo.{total_few, total_less, total_set, weight_few}
use Rattle.sl_tables.proofs.jobs.Jobs.exchange.Goals as goal
use Rattle.sl_tables.specs.Jobs.{AreJobs, changed, is_ungranted, weight}
use Rattle.sl_tables.specs.Totals.{total}
use Rattle.std.proofs.Common.{ap, arith, cond, find, nat_eq, refl, subst, sym, ◌==◌, ◌∙◌}
use Rattle.std.proofs.lemmas.List.{length-map}
use Rattle.std.specs.Map.{values_of}

pub overflow_sub-self : goal.overflow_sub-self
overflow_sub-self c =
    let h = there c.args.number c.self.inside.jobs.items (values_of c.self.inside.jobs.items) c.args.old c.self.invariant.0 refl (ap (λ v. find (λ j. j.number == c.args.number) v.jobs) c.self.view_is ∙ c.requires.there) in
    let less = total_less (weight is_asking_lease) c.args.number c.self.inside.jobs.items c.args.old c.set.ensures.rising h.at in
    omega (arith, less, c.self.invariant.1, c.asks.ensures)

pub overflow_add-self : goal.overflow_add-self
overflow_add-self c =
    let h = there c.args.number c.self.inside.jobs.items (values_of c.self.inside.jobs.items) c.args.old c.self.invariant.0 refl (ap (λ v. find (λ j. j.number == c.args.number) v.jobs) c.self.view_is ∙ c.requires.there) in
    let less = total_less (weight is_asking_lease) c.args.number c.self.inside.jobs.items c.args.old c.set.ensures.rising h.at in
    let all = total_set (weight is_asking_lease) c.args.number c.self.inside.jobs.items c.args.old c.args.job c.set.ensures.rising h.at in
    let few = total_few (weight is_asking_lease) (λ j. weight_few (is_ungranted is_asking_lease) j) (replaced c.args.number c.args.job c.self.inside.jobs.items) in
    let many = length-map c.self.inside.jobs.items (λ p. cond (nat_eq c.args.number p.0) (p.0, c.args.job) p) in
    omega (arith, few, many, all, less, c.self.invariant.1, c.set.ensures.few.0, c.set.ensures.few.1, c.asks.ensures, c.asks-asking.ensures)

pub overflow_sub-self-2 : goal.overflow_sub-self-2
overflow_sub-self-2 c =
    let h = there c.args.number c.self.inside.jobs.items (values_of c.self.inside.jobs.items) c.args.old c.self.invariant.0 refl (ap (λ v. find (λ j. j.number == c.args.number) v.jobs) c.self.view_is ∙ c.requires.there) in
    let less = total_less (weight is_program) c.args.number c.self.inside.jobs.items c.args.old c.set.ensures.rising h.at in
    omega (arith, less, c.self.invariant.2, c.starts.ensures)

pub overflow_add-self-2 : goal.overflow_add-self-2
overflow_add-self-2 c =
    let h = there c.args.number c.self.inside.jobs.items (values_of c.self.inside.jobs.items) c.args.old c.self.invariant.0 refl (ap (λ v. find (λ j. j.number == c.args.number) v.jobs) c.self.view_is ∙ c.requires.there) in
    let less = total_less (weight is_program) c.args.number c.self.inside.jobs.items c.args.old c.set.ensures.rising h.at in
    let all = total_set (weight is_program) c.args.number c.self.inside.jobs.items c.args.old c.args.job c.set.ensures.rising h.at in
    let few = total_few (weight is_program) (λ j. weight_few (is_ungranted is_program) j) (replaced c.args.number c.args.job c.self.inside.jobs.items) in
    let many = length-map c.self.inside.jobs.items (λ p. cond (nat_eq c.args.number p.0) (p.0, c.args.job) p) in
    omega (arith, few, many, all, less, c.self.invariant.2, c.set.ensures.few.0, c.set.ensures.few.1, c.starts.ensures, c.starts-programs.ensures)

pub invariant_of-self : goal.invariant_of-self
invariant_of-self c =
    let i = c.self.invariant in
    let h = there c.args.number c.self.inside.jobs.items (values_of c.self.inside.jobs.items) c.args.old i.0 refl (ap (λ v. find (λ j. j.number == c.args.number) v.jobs) c.self.view_is ∙ c.requires.there) in
    let items = ap (λ r. r.items) c.set.ensures.state in
    let asking = total_set (weight is_asking_lease) c.args.number c.self.inside.jobs.items c.args.old c.args.job c.set.ensures.rising h.at in
    let programs = total_set (weight is_program) c.args.number c.self.inside.jobs.items c.args.old c.args.job c.set.ensures.rising h.at in
    let less = total_less (weight is_asking_lease) c.args.number c.self.inside.jobs.items c.args.old c.set.ensures.rising h.at in
    let fewer = total_less (weight is_program) c.args.number c.self.inside.jobs.items c.args.old c.set.ensures.rising h.at in (
      subst AreJobs (sym items) (own_replaced (λ j. j.number) c.args.number c.args.job c.self.inside.jobs.items (c.requires.same ∙ h.own) i.0),
      ap (total (weight is_asking_lease)) items ∙ omega (arith, asking, less, i.1, c.asks.ensures, c.asks-asking.ensures),
      ap (total (weight is_program)) items ∙ omega (arith, programs, fewer, i.2, c.starts.ensures, c.starts-programs.ensures),
    )

pub returns : goal.returns
returns c f is =
    let i = c.self.invariant in
    let v = c.self.view_is in
    let h = there c.args.number c.self.inside.jobs.items (values_of c.self.inside.jobs.items) c.args.old i.0 refl (ap (λ v. find (λ j. j.number == c.args.number) v.jobs) v ∙ c.requires.there) in
    let items = ap (λ r. values_of r.items) c.set.ensures.state in
    let jobs =
    items ∙ (ap (λ job. values_of (replaced c.args.number job c.self.inside.jobs.items)) (sym is) ∙ (values_set (λ j. j.number) c.args.number f c.self.inside.jobs.items c.args.old i.0 c.set.ensures.rising h.at ∙ ap (λ o. changed c.args.number f o.jobs) v)) in
    let next = ap (λ r. r.next) c.set.ensures.state in
    let room = ap (λ r. r.room) c.set.ensures.state in
    let gaps = ap (λ r. r.gaps) c.set.ensures.state in
    state_is jobs (next ∙ ap (λ o. o.next) v) (room ∙ ap (λ o. o.room) v) (gaps ∙ ap (λ o. o.gaps) v)
