use Rattle.sl_sector.proofs.SectorRuns.{whole}
use Rattle.sl_sector.proofs.images.Images.len.Goals as goal
use Rattle.sl_sector.specs.Images.{Run}
use Rattle.std.proofs.Common.{ap, length, sym, ◌*◌, ◌∙◌}
use Rattle.std.specs.Arc.{arc_value}

pub returns : goal.returns
returns c =
    ap (λ n. n * c.args.self.now.size) c.count.ensures ∙ ap (λ n. length c.self.inside.items.items * n) (ap (λ (s : Run). s.size) (sym c.self.view_is))
    ∙ whole (λ m. arc_value m) c.self.inside.size c.self.inside.items.items c.self.invariant.1 ∙ ap (λ (s : Run). length s.bytes) c.self.view_is
