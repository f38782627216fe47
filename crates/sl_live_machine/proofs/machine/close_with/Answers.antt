use Rattle.sl_live_machine.proofs.RunLaws.{close_case, close_counts, close_run, close_stood, few_seats}
use Rattle.sl_live_machine.proofs.machine.close_with.Goals as goal
use Rattle.sl_live_machine.specs.ThreadSeats.{AreSeats}
use Rattle.std.proofs.Common.{subst, sym}

pub close-requires : goal.close-requires
close-requires g c = few_seats g.J.Station.setting c.args.seats.items c.deref.result.now c.requires.seats c.deref.ensures.value

pub returns-clause-stood : goal.returns-clause-stood
returns-clause-stood g c = close_stood g.D.Daemon.stands g.J.Station.setting c.args.mine.now c.close.result c.requires.setting c.close.ensures.stands c.close.ensures.trace

pub returns-clause-ok : goal.returns-clause-ok
returns-clause-ok g c =
    close_run g.J.Station.setting c.deref.result.now c.args.mine.now c.close.result (subst (AreSeats g.J.Station.setting) (sym c.deref.ensures.value) c.requires.seats) c.close.ensures.exact
    c.close.ensures.below c.close.ensures.trace

pub returns-clause-differ : goal.returns-clause-differ
returns-clause-differ g c =
    close_case g.J.Station.setting c.deref.result.now c.args.mine.now c.close.result (subst (AreSeats g.J.Station.setting) (sym c.deref.ensures.value) c.requires.seats)
    c.close.ensures.differ

pub returns-clause-counts : goal.returns-clause-counts
returns-clause-counts g c =
    close_counts g.J.Station.setting c.args.seats.items c.deref.result.now c.args.mine.now c.close.result c.deref.ensures.value c.close.ensures.exact c.close.ensures.below c.close.ensures.trace
