-- All that a machine runs on; or why not.
use Rattle.sl_cell.specs.declared.part.Part.TheVariants.{Delta}
use Rattle.sl_own.proofs.GroundLaws.{own_ground}
use Rattle.sl_own.proofs.LendLaws.{err_on, not_lent_on}
use Rattle.sl_own.proofs.ground.prepare_own.Goals as goal
use Rattle.std.proofs.Common.{arith}

pub returns-in_err-delta-clause-not : goal.returns-in_err-delta-clause-not
returns-in_err-delta-clause-not g c = err_on c.from_residual.result c.in_err-delta.field-0.0 _ c.from_residual.ensures.1 c.in_err-delta.ensures.not

pub returns-in-Ok-clause-ok : goal.returns-in-Ok-clause-ok
returns-in-Ok-clause-ok g c =
    let both = c.in_ok-delta.ensures.both in
    own_ground g.V.Area.Area.content g.V.Spawner.Spawner.acts (g.V.Devices.disks c.args.devices.now) c.args.folder.now c.args.header c.args.machine c.ground_of.result c.in-Ok.start.header _ _ _ _ _ _ _ _
    c.requires.header c.requires.machine.1 c.ground_of.ensures.header c.in-Ok.ensures.lawful c.in-Ok.ensures.same c.ground_of.ensures.numbered c.ground_of.ensures.site c.in-Ok.ensures.site
    c.ground_of.ensures.unasked c.ground_of.ensures.delta both.1 c.ground_of.ensures.resource both.2 c.start_watched.ensures.lendings c.ground_of.ensures.lendings

pub returns-in-Err-clause-not : goal.returns-in-Err-clause-not
returns-in-Err-clause-not g c =
    let first = c.lend_both.ensures.later in
    let last = c.give_back.ensures.count.later in
    not_lent_on (g.V.Devices.disks c.args.devices.now) c.args.folder.now c.args.header Delta _ _ (g.V.Devices.faults c.args.devices.now) (g.V.Devices.faults c.give_back.new.devices) c.in-Err.why
    (λ rose. omega (arith, first, rose, last)) (c.in-Err.ensures.not (g.V.Devices.disks c.args.devices.now) c.args.folder.now c.args.header)
