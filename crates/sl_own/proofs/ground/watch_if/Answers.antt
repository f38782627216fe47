-- There was no memory, or a fault was counted.
use Rattle.sl_own.proofs.LendLaws.{err_on}
use Rattle.sl_own.proofs.ground.watch_if.Goals as goal
use Rattle.sl_own.specs.OwnGrounds.{Has_fault, No_memory}
use Rattle.sl_own.specs.declared.no_place.NoPlace.TheVariants.{NotStanding}
use Rattle.sl_standing.specs.declared.not_standing.NotStanding.TheVariants.{AreaFault, NoMemory}

pub returns-in_err-text-in-Some-clause-not : goal.returns-in_err-text-in-Some-clause-not
returns-in_err-text-in-Some-clause-not g c disks folder h = err_on c.from_residual.result (NotStanding NoMemory) _ c.from_residual.ensures.1 No_memory

pub returns-in_err-device-in-Some-clause-not : goal.returns-in_err-device-in-Some-clause-not
returns-in_err-device-in-Some-clause-not g c disks folder h =
    err_on c.from_residual-in_err-device-in-Some.result (NotStanding AreaFault) _ c.from_residual-in_err-device-in-Some.ensures.1 (Has_fault c.in_err-device-in-Some.ensures.cause.failed)
