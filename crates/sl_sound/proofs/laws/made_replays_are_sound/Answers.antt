use Rattle.sl_sound.proofs.OwedGrows.{made_replays_are_sound}
use Rattle.sl_sound.proofs.laws.made_replays_are_sound.Goals as goal

pub returns : goal.returns
returns g c = made_replays_are_sound g.D.Daemon.stands
