use Rattle.sl_sector.proofs.DeltaLaws.{delta_put}
use Rattle.sl_sector.proofs.sector.DeltaRec.put_fields.Goals as goal

pub returns : goal.returns
returns c =
    delta_put c.args.self.now _ _ _ _ _ c.as_slice.ensures c.requires.rules.bitmap.0 c.put_numbers.ensures c.put_name.ensures c.put_host.ensures c.put.ensures
