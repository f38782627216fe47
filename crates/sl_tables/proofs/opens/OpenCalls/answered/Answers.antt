use Rattle.sl_tables.proofs.NumbersName.{own_left, values_left}
use Rattle.sl_tables.proofs.OpensStand.{left_is}
use Rattle.sl_tables.proofs.opens.OpenCalls.answered.Goals as goal
use Rattle.sl_tables.specs.Opens.{AreNumbered}
use Rattle.std.proofs.Common.{ap, filter, nat_eq, not, subst, sym, ◌==◌, ◌∙◌}
use Rattle.std.specs.Map.{values_of}

pub invariant_of-self : goal.invariant_of-self
invariant_of-self c =
    (subst AreNumbered (sym c.forget.ensures.items) (own_left (λ d. d.number) (λ p. not (nat_eq c.args.number p.0)) c.self.inside.calls.items c.self.invariant.0), c.self.invariant.1)

pub returns : goal.returns
returns c =
    let v = c.self.view_is in
    record {
      calls =
          left_is c.args.number c.args.self.now (values_of c.forget.new.self.items) c.forget.new.self.next c.forget.new.self.room c.self.inside.area
          (ap values_of c.forget.ensures.items ∙ (values_left (λ d. d.number) c.args.number c.self.inside.calls.items c.self.invariant.0 ∙ ap (λ o. filter (λ d. not (d.number == c.args.number)) o.calls) v))
          (c.forget.ensures.kept.0 ∙ ap (λ o. o.next) v) (c.forget.ensures.kept.1 ∙ ap (λ o. o.room) v) (ap (λ o. o.area) v);
    }
