use Rattle.sl_locks.proofs.EndLaws.{stripped}
use Rattle.sl_locks.proofs.ends.behind.Goals as goal

pub returns : goal.returns
returns c = stripped c.args.piece.now c.args.text.now c.strip_prefix.result c.strip_prefix.ensures.cases
