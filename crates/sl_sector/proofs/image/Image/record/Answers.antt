use Rattle.sha2.specs.Sha256.{sha256}
use Rattle.sl_sector.proofs.ImageLaws.{is_found, is_spelled}
use Rattle.sl_sector.specs.Images.{found_of}
use Rattle.sl_sector.specs.SectorLayouts.{Spells, decoded}
use Rattle.std.proofs.Common.{ap, subst, sym, ◌∙◌}
use Rattle.std.specs.Prelude.{IfOk}
use Rattle.sl_sector.proofs.image.Image.record.Goals as goal

pub returns-clause-found : goal.returns-clause-found
returns-clause-found c = c.found_in.ensures ∙ is_found c.self.inside.size c.self.inside.content c.self.invariant ∙ ap (decoded sha256) c.self.view_is

pub returns-clause-spells : goal.returns-clause-spells
returns-clause-spells c =
    let spelled = is_spelled c.self.inside.size c.self.inside.content c.self.invariant in
    subst (λ found. IfOk found (λ r. Spells sha256 c.args.self.now r)) (sym c.found_in.ensures)
    (subst (λ bytes. IfOk (found_of c.self.inside.content) (λ r. Spells sha256 bytes r)) c.self.view_is spelled)
