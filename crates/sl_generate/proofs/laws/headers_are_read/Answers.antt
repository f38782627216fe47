use Rattle.sl_generate.proofs.HeadersRead.{headers_are_read}
use Rattle.sl_generate.proofs.laws.headers_are_read.Goals as goal

pub returns : goal.returns
returns c = headers_are_read
