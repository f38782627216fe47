use Rattle.sl_area.specs.AreaSizes.{layout_of}
use Rattle.sl_delta.proofs.own_sector.OwnSector.watched_version.Goals as goal
use Rattle.sl_delta.specs.DeltaDecisions.{watched_in}
use Rattle.sl_trace.specs.DeltaDecisions.{version_in}
use Rattle.std.proofs.Common.{ap, ◌∙◌}

pub returns : goal.returns
returns c = c.version_at_first.ensures c.self.inside.geometry ∙ ap (λ o. version_in (layout_of o.sizes) (watched_in o)) c.self.view_is
