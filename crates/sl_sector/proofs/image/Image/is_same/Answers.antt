use Rattle.sl_sector.proofs.ImageLaws.{is_same}
use Rattle.sl_sector.proofs.image.Image.is_same.Goals as goal
use Rattle.std.proofs.Common.{ap₂, bytes_eq, ◌∙◌}

pub returns : goal.returns
returns c =
    is_same c.self.inside.size c.other.inside.size c.self.inside.content c.other.inside.content c.is_same_sector.result c.self.invariant c.other.invariant
    c.is_same_sector.ensures
    ∙ ap₂ bytes_eq c.self.view_is c.other.view_is
