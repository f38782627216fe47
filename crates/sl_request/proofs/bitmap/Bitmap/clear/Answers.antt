use Rattle.sl_request.proofs.BitmapFacts.{after_clear}
use Rattle.sl_request.proofs.bitmap.Bitmap.clear.Goals as goal

pub invariant_of-self : goal.invariant_of-self
invariant_of-self c = (after_clear _ _ _ _ _ c.self.view_is c.self.invariant c.requires c.place_of.ensures c.mask_of.ensures).1.bytes

pub returns-clause-exact : goal.returns-clause-exact
returns-clause-exact c = (after_clear _ _ _ _ _ c.self.view_is c.self.invariant c.requires c.place_of.ensures c.mask_of.ensures).0

pub returns-clause-alone : goal.returns-clause-alone
returns-clause-alone c = (after_clear _ _ _ _ _ c.self.view_is c.self.invariant c.requires c.place_of.ensures c.mask_of.ensures).1
