use Rattle.sl_host_law.proofs.Steps.NewHostsAreSound.{new_hosts_are_sound}
use Rattle.sl_host_law.proofs.laws.steps.new_hosts_are_sound.Goals as goal

pub returns : goal.returns
returns c = new_hosts_are_sound
