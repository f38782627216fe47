-- The machine is ready; or why it is not.
use Rattle.sl_live_run.proofs.LentLaws.{had_by}
use Rattle.sl_live_run.proofs.ReadyLaws.{explains_between, handed_on, site_machine}
use Rattle.sl_live_run.proofs.machine_sites.prepare_machine.Goals as goal
use Rattle.sl_live_run.specs.declared.ground.NoGround.TheVariants.{NoMemory}
use Rattle.sl_words.proofs.Numbers.{refl_le}
use Rattle.std.proofs.Common.{arith}

pub returns-in_err-site-clause-err : goal.returns-in_err-site-clause-err
returns-in_err-site-clause-err g c = handed_on c.from_residual.result NoMemory _ _ c.from_residual.ensures.1 tt

pub returns-in_err-delta-clause-err : goal.returns-in_err-delta-clause-err
returns-in_err-delta-clause-err g c =
    let why = c.in_err-delta.field-0.0 in
    let same = c.site_of.ensures.count in
    handed_on c.from_residual-in_err-delta.result why _ _ c.from_residual-in_err-delta.ensures.1
    (explains_between why (g.V.Devices.faults c.args.devices.now) (g.V.Devices.faults c.site_of.new.devices) (g.V.Devices.faults c.lend.new.devices)
    (g.V.Devices.faults c.lend.new.devices) (omega (arith, same)) c.in_err-delta.ensures.err (refl_le _))

pub returns-in-Ok-clause-ok : goal.returns-in-Ok-clause-ok
returns-in-Ok-clause-ok g c =
    record {
      machine = site_machine c.args.header.now c.args.machine _ c.in_ok-site.site c.in_ok-site.ensures.ok;
      site = c.in_ok-site.ensures.ok;
      parts = c.parts_of.ensures.runs;
    }

pub returns-in-Ok-clause-had : goal.returns-in-Ok-clause-had
returns-in-Ok-clause-had g c =
    had_by g.V.Area.Area.content c.args.folder.now c.args.header.now c.args.machine c.parts_of.result c.in_ok-delta.delta.items c.in-Ok.resource.items _ _ _ _ _ c.parts_of.ensures.areas c.site_of.ensures.lendings c.in_ok-delta.ensures.ok
    c.in-Ok.ensures.ok c.parts_of.ensures.lendings

pub returns-in-Err-clause-err : goal.returns-in-Err-clause-err
returns-in-Err-clause-err g c =
    let same = c.site_of.ensures.count in
    let later = c.lend.ensures.later in
    explains_between c.in-Err.why (g.V.Devices.faults c.args.devices.now) (g.V.Devices.faults c.lend.new.devices) (g.V.Devices.faults c.lend-2.new.devices)
    (g.V.Devices.faults c.take_back.new.devices) (omega (arith, same, later)) c.in-Err.ensures.err c.take_back.ensures.count.later
