use Rattle.sl_draw.proofs.DrawingsAreOwed.{drawings_are_owed}
use Rattle.sl_draw.proofs.laws.drawings_are_owed.Goals as goal

pub returns : goal.returns
returns g c = drawings_are_owed g.D.Daemon.commands g.D.Daemon.stands
