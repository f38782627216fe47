use Rattle.sl_live_machine.proofs.EndLaws.{early_whole, on_ok_with, whole_of}
use Rattle.sl_live_machine.proofs.machine.close_cell.Goals as goal
use Rattle.sl_live_machine.specs.ServedDisks.{AreOf}
use Rattle.std.proofs.Common.{ap, ◌≡◌}
use Rattle.std.specs.Prelude.{IsOk, IsOkAnd, None}
use Rattle.std.specs.Result.{is_ok}

pub returns-in-Ok-clause-goes : goal.returns-in-Ok-clause-goes
returns-in-Ok-clause-goes g c = λ t a so. c.close_whole.ensures.goes t a (rw c.in-Ok.is at so)

pub returns-in-Ok-clause-right : goal.returns-in-Ok-clause-right
returns-in-Ok-clause-right g c = on_ok_with (c.args.printer.now.wrong ≡ None) (IsOk c.args.seats) c.close_whole.result c.close_whole.ensures.right (ap is_ok c.in-Ok.is)

pub returns-in-Ok-clause-counts : goal.returns-in-Ok-clause-counts
returns-in-Ok-clause-counts g c =
    whole_of c.args.seats c.in-Ok.seats (λ v. AreOf g.J.Station.setting c.args.printer.now.mine v.items) c.close_whole.result c.in-Ok.is c.close_whole.ensures.counts

pub returns-in-Err-clause-counts : goal.returns-in-Err-clause-counts
returns-in-Err-clause-counts g c =
    early_whole g.J.Station.setting c.close_early.result (IsOkAnd c.args.seats (λ v. AreOf g.J.Station.setting c.args.printer.now.mine v.items)) c.close_early.ensures
