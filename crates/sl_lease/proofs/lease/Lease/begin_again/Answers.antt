use Rattle.sl_lease.proofs.NextLaws.{begins_again}
use Rattle.sl_lease.proofs.lease.Lease.begin_again.Goals as goal
use Rattle.std.proofs.Common.{ap, sym, ◌∙◌}

pub returns-in-Some-Some-clause-exact : goal.returns-in-Some-Some-clause-exact
returns-in-Some-Some-clause-exact c =
    λ over read stands runs.
    begins_again c.args.side.now c.args.self.now c.args.held over read c.args.n c.in-Some-Some.own c.in-Some-Some.top c.begin_above.result
    (ap (λ l. l.own) (sym c.self.view_is) ∙ c.in-Some-Some.is-0) (ap (λ l. l.top) (sym c.self.view_is) ∙ c.in-Some-Some.is-1) stands runs c.begin_above.ensures.exact
