use Rattle.sl_trace.specs.Jobs.{is_asking_lease, is_program}
use Rattle.sl_tables.proofs.NumbersName.{found_by_number, own_left, values_left}
use Rattle.sl_tables.proofs.TotalsGo.{total_less}
use Rattle.sl_tables.proofs.jobs.Jobs.take.Goals as goal
use Rattle.sl_tables.specs.Jobs.{AreJobs, weight}
use Rattle.sl_tables.specs.Totals.{total}
use Rattle.sl_tables.proofs.SlotsStand.{none_left_out}
use Rattle.std.proofs.Common.{ap, arith, filter, find, nat_eq, not, subst, sym, ◌==◌, ◌∙◌}
use Rattle.std.specs.Map.{values_of}

pub overflow_sub-self : goal.overflow_sub-self
overflow_sub-self c =
    let less = total_less (weight is_asking_lease) c.args.number c.self.inside.jobs.items c.in-Some.job c.in-Some.ensures.rising (sym c.in-Some.ensures.found) in
    omega (arith, less, c.self.invariant.1, c.asks.ensures)

pub overflow_sub-self-in-Some : goal.overflow_sub-self-in-Some
overflow_sub-self-in-Some c =
    let less = total_less (weight is_program) c.args.number c.self.inside.jobs.items c.in-Some.job c.in-Some.ensures.rising (sym c.in-Some.ensures.found) in
    omega (arith, less, c.self.invariant.2, c.starts.ensures)

pub invariant_of-self : goal.invariant_of-self
invariant_of-self c =
    let i = c.self.invariant in
    let items = c.in-Some.ensures.items in
    let asking = total_less (weight is_asking_lease) c.args.number c.self.inside.jobs.items c.in-Some.job c.in-Some.ensures.rising (sym c.in-Some.ensures.found) in
    let programs = total_less (weight is_program) c.args.number c.self.inside.jobs.items c.in-Some.job c.in-Some.ensures.rising (sym c.in-Some.ensures.found) in (
      subst AreJobs (sym items) (own_left (λ j. j.number) (λ p. not (nat_eq c.args.number p.0)) c.self.inside.jobs.items i.0),
      ap (total (weight is_asking_lease)) items ∙ omega (arith, asking, i.1, c.asks.ensures),
      ap (total (weight is_program)) items ∙ omega (arith, programs, i.2, c.starts.ensures),
    )

pub invariant_of-self-in-None : goal.invariant_of-self-in-None
invariant_of-self-in-None c =
    let i = c.self.invariant in
    let items = c.in-None.ensures.items ∙ none_left_out c.args.number c.self.inside.jobs.items (sym c.in-None.ensures.found) in
    (subst AreJobs (sym items) i.0, ap (total (weight is_asking_lease)) items ∙ i.1, ap (total (weight is_program)) items ∙ i.2)

pub returns-in-Some-clause-job : goal.returns-in-Some-clause-job
returns-in-Some-clause-job c =
    c.in-Some.ensures.found ∙ found_by_number (λ j. j.number) c.args.number c.self.inside.jobs.items c.self.invariant.0 ∙ ap (λ v. find (λ j. j.number == c.args.number) v.jobs) c.self.view_is

pub returns-in-None-clause-job : goal.returns-in-None-clause-job
returns-in-None-clause-job c =
    c.in-None.ensures.found ∙ found_by_number (λ j. j.number) c.args.number c.self.inside.jobs.items c.self.invariant.0 ∙ ap (λ v. find (λ j. j.number == c.args.number) v.jobs) c.self.view_is

pub returns-in-Some-clause-jobs : goal.returns-in-Some-clause-jobs
returns-in-Some-clause-jobs c =
    ap values_of c.in-Some.ensures.items ∙ (values_left (λ j. j.number) c.args.number c.self.inside.jobs.items c.self.invariant.0 ∙ ap (λ v. filter (λ j. not (j.number == c.args.number)) v.jobs) c.self.view_is)

pub returns-in-None-clause-jobs : goal.returns-in-None-clause-jobs
returns-in-None-clause-jobs c =
    ap values_of c.in-None.ensures.items ∙ (values_left (λ j. j.number) c.args.number c.self.inside.jobs.items c.self.invariant.0 ∙ ap (λ v. filter (λ j. not (j.number == c.args.number)) v.jobs) c.self.view_is)
