use Rattle.sl_tables.proofs.OpensStand.{first_least, first_numbered}
use Rattle.sl_tables.proofs.opens.OpenCalls.pending.Goals as goal
use Rattle.sl_tables.specs.Opens.{first_on, is_on_area, least_on}
use Rattle.std.proofs.Common.{ap, ◌∙◌}

pub returns-clause-first : goal.returns-clause-first
returns-clause-first c =
    c.first_on.ensures ∙ first_numbered (is_on_area c.self.inside.area c.args.spot.now) c.self.inside.calls.items c.self.invariant.0
    ∙ ap (λ v. first_on v.area c.args.spot.now v.calls) c.self.view_is

pub returns-clause-least : goal.returns-clause-least
returns-clause-least c =
    c.first_on.ensures ∙ first_numbered (is_on_area c.self.inside.area c.args.spot.now) c.self.inside.calls.items c.self.invariant.0
    ∙ first_least c.self.inside.area c.args.spot.now c.self.inside.calls.items c.self.invariant.0 c.rises.ensures
    ∙ ap (λ v. least_on v.area c.args.spot.now v.calls) c.self.view_is
