use Rattle.sl_host_law.specs.Answers.LeaseDecisions.{carrying_lease}
use Rattle.sl_host_lines.proofs.EndsStand.{freed_on}
use Rattle.sl_host_lines.proofs.line_ends.go_on.Goals as goal
use Rattle.sl_host_state.specs.KeptState.{state_of}
use Rattle.sl_trace.specs.declared.lease.LeaseNext.{LeaseNext}
use Rattle.sl_trace.specs.declared.session.Session.{Session}
use Rattle.sl_trace.specs.declared.effects.Spot.{Spot}
use Rattle.sl_trace.specs.declared.effects.Work.TheVariants.{ForJob}
use Rattle.std.proofs.Common.{ap, sym, ◌∙◌}
use Rattle.std.specs.Prelude.{Option, Some}

pub returns-in-Some-next-clause-state : goal.returns-in-Some-next-clause-state
returns-in-Some-next-clause-state c read =
    let h = state_of read c.args.host.now.kept in
    let who = c.in-Some.who in
    let next = c.in-Some-next.next in
    let pair : Option LeaseNext → Option (Session × Option LeaseNext) = λ o. Some (who, o) in
    let found = freed_on h c.args.ended.now c.args.number c.args.job who next (sym (c.in-Some.is ∙ ap pair c.in-Some-next.is) ∙ c.freed_of.ensures.exact) in
    c.carry_lease.ensures.state found.0 found.1 found.2 read
    ∙ (ap (λ (at : Spot). carrying_lease found.0 at (ForJob c.args.job) next h) c.spot_of_grant-at.ensures ∙ found.3)
