use Rattle.sl_book.specs.Logs.{entries}
use Rattle.sl_live.specs.CarriedOut.{HasSignalled}
use Rattle.sl_live_machine.proofs.EndLaws.{or_memory, whole_from}
use Rattle.sl_live_machine.proofs.machine.close.Goals as goal
use Rattle.sl_live_machine.specs.MachineEnds.{EndsSo, OnWhole}
use Rattle.sl_live_machine.specs.ServedDisks.{AreOf}
use Rattle.std.proofs.Common.{◌≡◌}
use Rattle.std.specs.Prelude.{IsOk, IsOkAnd, None, OnOk, true}

pub returns-clause-goes : goal.returns-clause-goes
returns-clause-goes g c = λ t a so.
    or_memory c.end_with.result c.close_cell-end.result (EndsSo g.D.Daemon.stands g.J.Station.setting a c.args.printer.now) tt c.end_with.ensures.same (c.close_cell-end.ensures.goes t a so)

pub returns-clause-counts : goal.returns-clause-counts
returns-clause-counts g c =
    or_memory c.end_with.result c.close_cell-end.result (λ end. OnWhole end (IsOkAnd c.args.seats (λ v. AreOf g.J.Station.setting c.args.printer.now.mine v.items))) tt c.end_with.ensures.same
    c.close_cell-end.ensures.counts

pub returns-clause-right : goal.returns-clause-right
returns-clause-right g c =
    or_memory c.end_with.result c.close_cell-end.result (λ end. OnOk end ((c.args.printer.now.wrong ≡ None) × IsOk c.args.seats)) tt c.end_with.ensures.same
    c.close_cell-end.ensures.right

pub returns-clause-signals : goal.returns-clause-signals
returns-clause-signals g c =
    let left = c.end_children-spawner.result in
    whole_from c.end_with.result left.whole (HasSignalled (entries c.args.printer.now.mine) left.killed (g.P.Spawner.acts left.spawner)) c.end_with.ensures.whole c.end_children-spawner.ensures.signals

pub returns-clause-killed : goal.returns-clause-killed
returns-clause-killed g c =
    let left = c.end_children-spawner.result in
    whole_from c.end_with.result left.whole (c.args.saw_killed ≡ true → left.killed ≡ true) c.end_with.ensures.whole c.end_children-spawner.ensures.killed
