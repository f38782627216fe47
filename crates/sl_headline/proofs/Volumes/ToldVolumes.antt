-- No logical volume is told active on two machines, unless both share it: what is told is held, and what is held excludes.
use Rattle.sl_headline.proofs.Volumes.LocksAreHeld.{locks_are_held}
use Rattle.sl_headline.specs.Volumes.LocksHeldInRuns.{ToldVolumesExcludeInRuns}
use Rattle.sl_run.specs.LvmPromises.{LocksAreHeld, ToldVolumesAreExclusive}
use Rattle.sl_run.specs.Safety.{world_at}
use Rattle.sl_run.specs.Volumes.{IsActiveVolume, VolumesAreExclusive}
use Rattle.sl_run.specs.Worlds.{World}
use Rattle.sl_safety.proofs.RunsAreSafe.{volumes_exclude}
use Rattle.std.proofs.Common.{subst}

told_exclude : (w : World) → VolumesAreExclusive w → LocksAreHeld w → ToldVolumesAreExclusive w
told_exclude w exclusive held m k a b x y at there other has also group number =
    exclusive m k a b y.lock.group y.lock.number x.mode y.mode at there other
    (subst (λ n. IsActiveVolume w a y.lock.group n x.mode) number (subst (λ g. IsActiveVolume w a g x.lock.number x.mode) group (held m a x at has)))
    (held k b y there also)

pub told_volumes_exclude : ToldVolumesExcludeInRuns
told_volumes_exclude p h xs r now rest is = told_exclude (world_at p h now) (volumes_exclude p h xs r.run now rest is) (locks_are_held p h xs r now rest is)
