use Rattle.sl_sector.proofs.DerivedComparisons.{record_told}
use Rattle.std.proofs.Common.{sym, ◌∙◌}
use Rattle.sl_sector.proofs.same.same_record.Goals as goal

pub returns : goal.returns
returns c =
    let told = record_told c.args.a.now c.args.b.now in
    (λ h. told.0 (sym c.eq.ensures ∙ h), λ h. c.eq.ensures ∙ told.1 h)
