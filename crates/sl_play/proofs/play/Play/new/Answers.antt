-- A new play stands for the header's world.
use Rattle.sl_machine.specs.KeptParts.{kept_state}
use Rattle.sl_play.proofs.LinesAndAsks.{begins}
use Rattle.sl_play.proofs.play.Play.new.Goals as goal

pub returns : goal.returns
returns g c =
    begins g.D.Daemon.commands g.D.Daemon.stands c.args.header (record { kept = kept_state g.L.LockTable.locks c.in_ok-new.field-0.kept; hosts = c.in_ok-new.field-0.hosts; counts = c.no_counts.result }) c.requires.0 c.in_ok-new.ensures
    c.no_counts.ensures
