use Rattle.sl_sector.proofs.SectorRuns.{has_some, none_at, some_at}
use Rattle.sl_sector.proofs.images.Images.sector.Goals as goal
use Rattle.sl_sector.specs.Images.{sector_in}
use Rattle.std.proofs.Common.{ap, subst, ◌<◌, ◌∙◌, ◌≤◌}
use Rattle.std.specs.Arc.{arc_value}

pub returns-then-k-count : goal.returns-then-k-count
returns-then-k-count c =
    some_at (λ m. arc_value m) c.self.inside.size c.self.inside.items.items c.args.k c.index.result.now (has_some c.self.inside.size c.self.invariant.0.0) c.self.invariant.1
    (subst (λ n. c.args.k < n) c.count.ensures c.if-k-count.true) c.index.ensures
    ∙ ap (λ s. sector_in s c.args.k) c.self.view_is

pub returns-else-k-count : goal.returns-else-k-count
returns-else-k-count c =
    none_at (λ m. arc_value m) c.self.inside.size c.self.inside.items.items c.args.k (has_some c.self.inside.size c.self.invariant.0.0) c.self.invariant.1
    (subst (λ n. n ≤ c.args.k) c.count.ensures c.if-k-count.false)
    ∙ ap (λ s. sector_in s c.args.k) c.self.view_is
