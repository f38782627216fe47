-- What is told of the whole path is told of the disk.
use Rattle.sl_own.proofs.PlaceLaws.{no_look, size_differs, sized}
use Rattle.sl_own.proofs.place.look_at.Goals as goal
use Rattle.sl_place.specs.Standing.{IsSizeOf}
use Rattle.std.proofs.Common.{rules, subst}

pub returns-in_err-whole-clause-differs : goal.returns-in_err-whole-clause-differs
returns-in_err-whole-clause-differs g c = λ h has. no_look c.from_residual.result (g.V.Devices.disks c.args.devices.now) c.args.folder.now h c.from_residual.ensures.1

pub returns-clause-ok : goal.returns-clause-ok
returns-clause-ok g c =
    sized c.compare_size.result (g.V.Devices.disks c.args.devices.now) c.args.folder.now c.args.disk.now c.size.result
    (subst (λ path. IsSizeOf (g.V.Devices.disks c.args.devices.now path) c.size.result) (search rules) c.size.ensures.size) c.compare_size.ensures

pub returns-clause-differs : goal.returns-clause-differs
returns-clause-differs g c = λ h has.
    size_differs c.compare_size.result (g.V.Devices.disks c.args.devices.now) c.args.folder.now h c.args.disk.now c.size.result has
    (subst (λ path. IsSizeOf (g.V.Devices.disks c.args.devices.now path) c.size.result) (search rules) c.size.ensures.size) c.compare_size.ensures
