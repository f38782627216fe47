-- A fault was counted.
use Rattle.sl_own.proofs.no_place.NoPlace.of_claim.Goals as goal
use Rattle.sl_own.specs.OwnGrounds.{Area_bars, Folder_bars, Has_fault, Machine_bars}
use Rattle.sl_own.specs.declared.no_place.NoPlace.TheVariants.{NotStanding}
use Rattle.sl_standing.specs.declared.not_standing.NotStanding.TheVariants.{AreaFault}

pub returns-in-FolderInUse : goal.returns-in-FolderInUse
returns-in-FolderInUse c = λ disks folder h faults later rose. Folder_bars rose

pub returns-in-MachineInUse : goal.returns-in-MachineInUse
returns-in-MachineInUse c = λ disks folder h faults later rose. Machine_bars rose

pub returns-in-Failed : goal.returns-in-Failed
returns-in-Failed c = λ disks folder h faults later rose. Area_bars (NotStanding AreaFault) (Has_fault rose)
