use Rattle.sl_request.proofs.BitmapFacts.{bit_read}
use Rattle.sl_request.proofs.bitmap.Bitmap.test.Goals as goal

pub returns : goal.returns
returns c = bit_read _ _ _ _ _ c.self.view_is c.place_of.ensures c.mask_of.ensures
