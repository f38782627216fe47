-- What stands was as before when it was seen to; each fault was counted since.
use Rattle.sl_own.proofs.LendLaws.{err_on}
use Rattle.sl_own.proofs.PlayLaws.{bars_area, place_stands}
use Rattle.sl_own.proofs.play.begin.Goals as goal
use Rattle.sl_own.specs.OwnGrounds.{IsOwnGround}
use Rattle.std.proofs.Common.{arith, subst, ◌∙◌}
use Rattle.std.specs.Prelude.{IfOk}

pub returns-in_err-take_place-clause-bars : goal.returns-in_err-take_place-clause-bars
returns-in_err-take_place-clause-bars g c = err_on c.from_residual.result c.in_err-take_place.field-0.0 _ c.from_residual.ensures.1 c.in_err-take_place.ensures.bars

pub returns-clause-ok : goal.returns-clause-ok
returns-clause-ok g c =
    subst (λ lent. IfOk c.prepare_own.result (λ own. IsOwnGround g.V.Area.Area.content g.V.Spawner.Spawner.acts (g.V.Devices.disks c.args.devices.now) c.args.folder.now c.args.header c.args.manner.machine lent (g.V.Devices.lendings c.prepare_own.new.devices) own.0))
    (c.sync_if.ensures.lendings ∙ c.take_place.ensures.lendings)
    (subst (λ disks. IfOk c.prepare_own.result (λ own. IsOwnGround g.V.Area.Area.content g.V.Spawner.Spawner.acts disks c.args.folder.now c.args.header c.args.manner.machine (g.V.Devices.lendings c.sync_if.new.devices) (g.V.Devices.lendings c.prepare_own.new.devices) own.0))
    (c.sync_if.ensures.same ∙ c.take_place.ensures.same) c.prepare_own.ensures.ok)

pub returns-clause-place : goal.returns-clause-place
returns-clause-place g c =
    place_stands g.V.Area.Area.content g.V.Spawner.Spawner.acts (g.V.Devices.disks c.args.devices.now) c.args.folder.now c.args.header c.args.manner.machine (g.V.Devices.lendings c.sync_if.new.devices) (g.V.Devices.lendings c.prepare_own.new.devices) c.prepare_own.result
    c.in_ok-take_place.ensures.ok
    (subst (λ disks. IfOk c.prepare_own.result (λ own. IsOwnGround g.V.Area.Area.content g.V.Spawner.Spawner.acts disks c.args.folder.now c.args.header c.args.manner.machine (g.V.Devices.lendings c.sync_if.new.devices) (g.V.Devices.lendings c.prepare_own.new.devices) own.0))
    (c.sync_if.ensures.same ∙ c.take_place.ensures.same) c.prepare_own.ensures.ok)

pub returns-clause-bars : goal.returns-clause-bars
returns-clause-bars g c =
    let first = c.take_place.ensures.later in
    let same = c.sync_if.ensures.count in
    bars_area c.prepare_own.result (g.V.Devices.disks c.args.devices.now) (g.V.Devices.disks c.sync_if.new.devices) c.args.folder.now c.args.header c.args.manner.machine
    (g.V.Devices.faults c.args.devices.now) (g.V.Devices.faults c.sync_if.new.devices) _ (c.sync_if.ensures.same ∙ c.take_place.ensures.same)
    (omega (arith, first, same)) c.prepare_own.ensures.not
