use Rattle.sl_trace.specs.Jobs.{is_asking_lease, is_program}
use Rattle.sl_tables.proofs.NumbersName.{own_push}
use Rattle.sl_tables.proofs.TotalsGo.{total_few, total_push, weight_few}
use Rattle.sl_tables.proofs.jobs.Jobs.put.Goals as goal
use Rattle.sl_tables.specs.Jobs.{AreJobs, is_ungranted, weight}
use Rattle.sl_tables.specs.Totals.{total}
use Rattle.std.proofs.Common.{ap, arith, subst, sym, ◌∙◌}

pub overflow_add-self : goal.overflow_add-self
overflow_add-self c =
    let few = total_few (weight is_asking_lease) (λ j. weight_few (is_ungranted is_asking_lease) j) c.self.inside.jobs.items in
    let one = weight_few (is_ungranted is_asking_lease) c.args.job in
    omega (arith, few, one, c.self.invariant.1, c.put.ensures.few, c.requires.rises.0, c.requires.rises.1, c.asks-asking.ensures, ap (λ v. v.next) c.self.view_is)

pub overflow_add-self-2 : goal.overflow_add-self-2
overflow_add-self-2 c =
    let few = total_few (weight is_program) (λ j. weight_few (is_ungranted is_program) j) c.self.inside.jobs.items in
    let one = weight_few (is_ungranted is_program) c.args.job in
    omega (arith, few, one, c.self.invariant.2, c.put.ensures.few, c.requires.rises.0, c.requires.rises.1, c.starts-programs.ensures, ap (λ v. v.next) c.self.view_is)

pub invariant_of-self : goal.invariant_of-self
invariant_of-self c =
    let i = c.self.invariant in
    let items = ap (λ r. r.items) c.put.ensures.state in (
      subst AreJobs (sym items) (own_push (λ j. j.number) c.self.inside.jobs.items c.args.job i.0),
      ap (total (weight is_asking_lease)) items ∙ (total_push (weight is_asking_lease) c.self.inside.jobs.items c.args.job.number c.args.job ∙ omega (arith, i.1, c.asks-asking.ensures)),
      ap (total (weight is_program)) items ∙ (total_push (weight is_program) c.self.inside.jobs.items c.args.job.number c.args.job ∙ omega (arith, i.2, c.starts-programs.ensures)),
    )
