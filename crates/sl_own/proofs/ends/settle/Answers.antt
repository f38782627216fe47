-- A whole history, or a case.
use Rattle.sl_own.proofs.SettleLaws.{own_case, own_settled}
use Rattle.sl_own.proofs.ends.settle.Goals as goal
use Rattle.std.proofs.Common.{refl}

pub returns-in-Whole-clause-ok : goal.returns-in-Whole-clause-ok
returns-in-Whole-clause-ok g c =
    own_settled c.args.early c.args.ledger.now c.args.ran.now c.reading.result c.come_to.result c.in-Some.next c.reading.ensures c.come_to.ensures c.in-Whole.is

pub returns-in-Case-clause-stop : goal.returns-in-Case-clause-stop
returns-in-Case-clause-stop g c = (
  refl,
  own_case c.args.early c.args.ledger.now c.args.ran.now c.reading.result c.come_to.result c.in-Some.next c.in-Case.differ c.reading.ensures c.in-Some.ensures c.come_to.ensures c.in-Case.is,
)
