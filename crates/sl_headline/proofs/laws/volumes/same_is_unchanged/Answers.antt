use Rattle.sl_headline.proofs.Volumes.SameValue.SameIsUnchanged.{same_is_unchanged}
use Rattle.sl_headline.proofs.laws.volumes.same_is_unchanged.Goals as goal

pub returns : goal.returns
returns c = same_is_unchanged
