use Rattle.sl_outside.proofs.ActLaws.{unasked_tells}
use Rattle.sl_outside.proofs.shared_devices.SharedDevicesLiveDevices.spawner.Goals as goal
use Rattle.sl_outside.specs.Acts.{Tells}
use Rattle.sl_outside.specs.MemSpawners.{SpawnerState, told}
use Rattle.std.proofs.Common.{[], subst, sym}

pub returns-clause-unasked : goal.returns-clause-unasked
returns-clause-unasked g c =
    subst (λ (s : SpawnerState). Tells (told s.acts) []) (sym c.new.ensures) (unasked_tells (told c.children-children.result.acts) c.children-children.ensures.fresh.unasked)
