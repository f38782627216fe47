-- A line that can't be read.
use Rattle.sl_play.proofs.LinesAndAsks.{misread_so}
use Rattle.sl_play.proofs.play.Play.take_read.Goals as goal
use Rattle.sl_play.specs.Plays.{state_of}

pub returns-in-Err : goal.returns-in-Err
returns-in-Err g c w s number =
    misread_so g.D.Daemon.commands g.D.Daemon.stands w (state_of g.L.LockTable.locks c.args.self.now) number c.args.out.now.items c.args.read c.in-Err.why c.in-Err.is s
