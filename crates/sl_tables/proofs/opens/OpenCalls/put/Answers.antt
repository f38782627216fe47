use Rattle.sl_tables.proofs.NumbersName.{own_push}
use Rattle.sl_tables.proofs.opens.OpenCalls.put.Goals as goal
use Rattle.sl_tables.specs.Opens.{AreNumbered}
use Rattle.std.proofs.Common.{ap, subst, sym}

pub invariant_of-self : goal.invariant_of-self
invariant_of-self c =
    let items = ap (λ r. r.items) c.put.ensures.state in
    (subst AreNumbered (sym items) (own_push (λ d. d.number) c.self.inside.calls.items c.args.call c.self.invariant.0), c.self.invariant.1)
