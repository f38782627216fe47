-- A claim changes no disk; where it fails a fault was counted.
use Rattle.sl_own.proofs.PlaceLaws.{bars_size}
use Rattle.sl_own.proofs.place.take_place.Goals as goal
use Rattle.sl_own.specs.OwnGrounds.{HasSize}
use Rattle.std.proofs.Common.{subst}
use Rattle.std.specs.Prelude.{All, OnOk}

pub returns-in-Ok-clause-ok : goal.returns-in-Ok-clause-ok
returns-in-Ok-clause-ok g c =
    subst (λ disks. OnOk c.look_at_each.result (All (HasSize disks c.args.folder.now) c.args.header.now.disks)) c.claim.ensures.same c.look_at_each.ensures.ok

pub returns-in-Ok-clause-bars : goal.returns-in-Ok-clause-bars
returns-in-Ok-clause-bars g c = bars_size c.look_at_each.result (g.V.Devices.disks c.args.devices.now) _ c.args.folder.now c.args.header.now c.args.machine _ _ c.claim.ensures.same c.look_at_each.ensures.differs

pub returns-in-Err-clause-bars : goal.returns-in-Err-clause-bars
returns-in-Err-clause-bars g c = c.of_claim.ensures _ _ _ _ _ c.in-Err.ensures.cause.failed
