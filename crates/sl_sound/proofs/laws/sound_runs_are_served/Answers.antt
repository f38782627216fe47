use Rattle.sl_sound.proofs.Soundness.{sound_runs_are_served}
use Rattle.sl_sound.proofs.laws.sound_runs_are_served.Goals as goal

pub returns : goal.returns
returns c = sound_runs_are_served
