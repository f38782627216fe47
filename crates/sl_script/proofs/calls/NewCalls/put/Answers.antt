use Rattle.sl_script.proofs.NumberedOn.{calls_more}
use Rattle.sl_script.proofs.calls.NewCalls.put.Goals as goal
use Rattle.sl_script.specs.MadeSteps.{AreCalls}
use Rattle.std.proofs.Common.{rules, subst, sym}

pub invariant_of-self : goal.invariant_of-self
invariant_of-self c =
    subst (AreCalls c.self.inside.next c.self.inside.sector) (sym c.in_ok-push.ensures.items)
    (calls_more c.self.inside.next c.self.inside.sector c.self.inside.items.items c.in-Some.call c.self.invariant (search rules) (search rules) c.in-Some.ensures.sound)
