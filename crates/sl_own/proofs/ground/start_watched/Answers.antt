-- There was no memory, or the device can't be had.
use Rattle.sl_cell.specs.declared.part.Part.TheVariants.{Delta}
use Rattle.sl_own.proofs.LendLaws.{err_on, not_lent_on, rose_behind}
use Rattle.sl_own.proofs.ground.start_watched.Goals as goal
use Rattle.sl_own.specs.OwnGrounds.{No_memory, NotLent}
use Rattle.sl_own.specs.declared.no_place.NoPlace.TheVariants.{NotStanding}
use Rattle.sl_standing.specs.declared.not_standing.NotStanding.TheVariants.{NoMemory}

pub returns-in_err-start-clause-not : goal.returns-in_err-start-clause-not
returns-in_err-start-clause-not g c disks folder h = err_on c.from_residual.result (NotStanding NoMemory) _ c.from_residual.ensures.1 No_memory

pub returns-in_err-watchdog-clause-not : goal.returns-in_err-watchdog-clause-not
returns-in_err-watchdog-clause-not g c disks folder h =
    let first = g.V.Devices.faults c.args.devices.now in
    let last = g.V.Devices.faults c.watch_if.new.devices in
    err_on c.from_residual-in_err-watchdog.result c.in_err-watchdog.field-0.0 (NotLent disks folder h Delta first last) c.from_residual-in_err-watchdog.ensures.1
    (not_lent_on disks folder h Delta (g.V.Devices.faults c.start_of.new.devices) last first last _ (rose_behind first _ last c.start_of.ensures.count) (c.in_err-watchdog.ensures.not disks folder h))
