use Rattle.sl_live_run.proofs.CompareLaws.{early_here}
use Rattle.sl_live_run.proofs.compare.stop_early.Goals as goal

pub returns-in-Case : goal.returns-in-Case
returns-in-Case g c =
    early_here c.args.ledger.now c.args.rans.now c.loop-place.place c.index-rans-place.result c.reading.result c.settle_early.result c.in-Case.differ c.loop-place-test.true
    c.index-rans-place.is c.reading.ensures c.settle_early.ensures c.in-Case.is
