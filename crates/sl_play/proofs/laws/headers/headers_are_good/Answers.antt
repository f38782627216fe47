use Rattle.sl_play.proofs.Headers.HeadersAreGood.{headers_are_good}
use Rattle.sl_play.proofs.laws.headers.headers_are_good.Goals as goal

pub returns : goal.returns
returns c = headers_are_good
