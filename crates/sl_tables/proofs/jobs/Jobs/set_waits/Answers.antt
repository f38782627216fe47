use Rattle.sl_tables.proofs.JobsChange.{state_is}
use Rattle.sl_tables.proofs.NumbersName.{own_altered, values_altered}
use Rattle.sl_tables.proofs.TotalsGo.{total_altered}
use Rattle.sl_tables.proofs.jobs.Jobs.set_waits.Goals as goal
use Rattle.sl_tables.specs.Jobs.{AreJobs, changed, waiting, weight}
use Rattle.sl_tables.specs.Totals.{total}
use Rattle.sl_trace.specs.Jobs.{is_asking_lease, is_program}
use Rattle.std.proofs.Common.{ap, refl, subst, sym, ◌∙◌}
use Rattle.std.specs.Map.{values_of}

pub invariant_of-self : goal.invariant_of-self
invariant_of-self c =
    let i = c.self.invariant in
    let f = waiting c.args.waits in
    let old = c.self.inside.jobs.items in
    let items = ap (λ r. r.items) c.set_waits.ensures in (
      subst AreJobs (sym items) (own_altered (λ j. j.number) c.args.number f old (λ j. refl) i.0),
      ap (total (weight is_asking_lease)) items ∙ (total_altered (weight is_asking_lease) c.args.number f old (λ j. refl) ∙ i.1),
      ap (total (weight is_program)) items ∙ (total_altered (weight is_program) c.args.number f old (λ j. refl) ∙ i.2),
    )

pub returns : goal.returns
returns c =
    let v = c.self.view_is in
    let e = c.set_waits.ensures in
    state_is
    (ap (λ r. values_of r.items) e ∙ (values_altered (λ j. j.number) c.args.number (waiting c.args.waits) c.self.inside.jobs.items c.self.invariant.0 ∙ ap (λ o. changed c.args.number (waiting c.args.waits) o.jobs) v))
    (ap (λ r. r.next) e ∙ ap (λ o. o.next) v) (ap (λ r. r.room) e ∙ ap (λ o. o.room) v) (ap (λ r. r.gaps) e ∙ ap (λ o. o.gaps) v)
