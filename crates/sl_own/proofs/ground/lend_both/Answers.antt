-- Areas of both; or why not.
use Rattle.sl_own.proofs.LendLaws.{err_on, left_plainly, not_lent_other}
use Rattle.sl_own.proofs.ground.lend_both.Goals as goal
use Rattle.std.proofs.Common.{arith}

pub returns-in_err-delta-clause-not : goal.returns-in_err-delta-clause-not
returns-in_err-delta-clause-not g c = err_on c.from_residual.result c.in_err-delta.field-0.0 _ c.from_residual.ensures.1 c.in_err-delta.ensures.not

pub returns-in-Ok-clause-both : goal.returns-in-Ok-clause-both
returns-in-Ok-clause-both g c = (
  g.V.Devices.lendings c.lend.new.devices,
  c.in_ok-delta.ensures.ok,
  left_plainly g.V.Area.Area.content _ _ _ _ _ c.args.header.now.disks c.in-Ok.resource.items _ _ (λ path content found. tt) c.in-Ok.ensures.ok,
)

pub returns-in-Err-clause-not : goal.returns-in-Err-clause-not
returns-in-Err-clause-not g c =
    let first = c.lend.ensures.later in
    let last = c.take_back.ensures.count.later in
    not_lent_other (g.V.Devices.disks c.args.devices.now) _ c.args.folder.now c.args.header.now _ _ (g.V.Devices.faults c.args.devices.now) (g.V.Devices.faults c.take_back.new.devices) c.in-Err.why
    (λ rose. omega (arith, first, rose, last)) c.in-Err.ensures.not
