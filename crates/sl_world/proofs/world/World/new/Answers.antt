use Rattle.sl_machine.specs.KeptParts.{kept_state}
use Rattle.sl_world.proofs.EndedEvents.{first_stands}
use Rattle.sl_world.proofs.world.World.new.Goals as goal

pub returns : goal.returns
returns g c =
    first_stands g.D.Daemon.commands g.D.Daemon.stands c.args.header (kept_state g.L.LockTable.locks c.in_ok-kept.kept) c.in_ok-hosts.hosts _ c.requires.0 c.requires.1
    c.in_ok-hosts.ensures c.in_ok-kept.ensures.state c.in_ok-kept.ensures.names
