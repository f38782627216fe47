use Rattle.sl_live_run.proofs.CompareLaws.{case_here, none_settled, settled_more}
use Rattle.sl_live_run.proofs.compare.settle_all.Goals as goal

pub loop-place-init : goal.loop-place-init
loop-place-init g c = none_settled c.args.ledger.now

pub loop-place-preserved : goal.loop-place-preserved
loop-place-preserved g c =
    settled_more c.args.ledger.now c.args.rans.now c.loop-place.place c.index-rans-place.result c.reading.result c.settle_one.result c.loop-place.replies
    c.in_ok-replies-in-Whole.replies c.in_ok-next.next c.loop-place-test.true c.index-rans-place.is c.reading.ensures c.settle_one.ensures c.in-Whole.is
    c.in_ok-replies-in-Whole.ensures c.loop-place.invariant

pub returns-in-Case-clause-err : goal.returns-in-Case-clause-err
returns-in-Case-clause-err g c =
    case_here c.args.ledger.now c.args.rans.now c.loop-place.place c.index-rans-place.result c.reading.result c.settle_one.result c.in_ok-next.next c.in-Case.differ
    c.loop-place-test.true c.index-rans-place.is c.reading.ensures c.in_ok-next.ensures c.settle_one.ensures c.in-Case.is
