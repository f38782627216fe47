use Rattle.sl_sound.proofs.Soundness.{made_runs_are_sound}
use Rattle.sl_sound.proofs.laws.made_runs_are_sound.Goals as goal

pub returns : goal.returns
returns g c = made_runs_are_sound g.D.Daemon.stands
