use Rattle.sl_play.proofs.Headers.ExampleHeaders.{both_are_read}
use Rattle.sl_play.proofs.laws.headers.some_headers_are_read.Goals as goal

pub returns : goal.returns
returns c = both_are_read
