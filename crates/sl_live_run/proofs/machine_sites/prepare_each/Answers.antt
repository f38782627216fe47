-- One machine more is ready; or why it is not.
use Rattle.sl_live_run.proofs.LentLaws.{had_none, had_pushed}
use Rattle.sl_live_run.proofs.ReadyLaws.{explains_between, handed_on, ready_none, ready_pushed, ticks_first}
use Rattle.sl_live_run.proofs.machine_sites.prepare_each.Goals as goal
use Rattle.sl_live_run.specs.declared.ground.NoGround.TheVariants.{NoMemory}
use Rattle.sl_words.proofs.Numbers.{refl_le}
use Rattle.std.proofs.Common.{ap, arith, length, rules, ◌+◌}

pub loop-before-init : goal.loop-before-init
loop-before-init g c =
    record {
      left = c.requires.ticks;
      some = omega (arith, c.requires.each);
      each = ap length c.requires.first;
      had = had_none g.V.Area.Area.content c.args.folder.now c.args.header.now _ _ c.requires.first;
      ready = ready_none g.V.Clock.Clock.last g.V.Spawner.Spawner.running g.V.Spawner.Spawner.acts g.V.Device.Device.last g.V.Device.Device.fire c.args.header.now _ c.requires.first;
      later = refl_le _;
    }

pub returns-in_err-reserve-clause-err : goal.returns-in_err-reserve-clause-err
returns-in_err-reserve-clause-err g c = handed_on c.from_residual.result NoMemory _ _ c.from_residual.ensures.1 tt

pub prepare_machine-requires-clause-ticks : goal.prepare_machine-requires-clause-ticks
prepare_machine-requires-clause-ticks g c lives within =
    (ticks_first g.V.Clock.Clock.last c.args.header.now (c.loop-before.before + 1) c.loop-before.clocks.items c.in-Some.ticks c.pop_front.new.self.items c.in-Some.ensures.items
    c.loop-before.invariant.left).0

pub returns-in_err-machine-clause-err : goal.returns-in_err-machine-clause-err
returns-in_err-machine-clause-err g c =
    let why = c.in_err-machine.field-0.0 in
    handed_on c.from_residual-in_err-machine.result why _ _ c.from_residual-in_err-machine.ensures.1
    (explains_between why (g.V.Devices.faults c.args.devices.now) (g.V.Devices.faults c.loop-before.devices) (g.V.Devices.faults c.prepare_machine.new.devices)
    (g.V.Devices.faults c.prepare_machine.new.devices) c.loop-before.invariant.later c.in_err-machine.ensures.err (refl_le _))

pub loop-before-preserved : goal.loop-before-preserved
loop-before-preserved g c =
    let i = c.loop-before.invariant in
    let cut = ap length c.in-Some.ensures.items in
    let each = i.each in
    let some = i.some in
    let before = i.later in
    let later = c.prepare_machine.ensures.later in
    record {
      left = (ticks_first g.V.Clock.Clock.last c.args.header.now (c.loop-before.before + 1) c.loop-before.clocks.items c.in-Some.ticks c.pop_front.new.self.items c.in-Some.ensures.items
          i.left).1;
      some = omega (arith, cut, some);
      each = search rules;
      ready = ready_pushed g.V.Clock.Clock.last g.V.Spawner.Spawner.running g.V.Spawner.Spawner.acts g.V.Device.Device.last g.V.Device.Device.fire c.args.header.now
          c.loop-before.machines.items c.reserve.new.self.items c.push_reserved.new.self.items c.in_ok-machine.machine (c.loop-before.before + 1) c.reserve.ensures.items
          c.push_reserved.ensures.items (omega (arith, each)) i.ready c.in_ok-machine.ensures.ok;
      had = had_pushed g.V.Area.Area.content c.args.folder.now c.args.header.now c.loop-before.machines.items c.reserve.new.self.items c.push_reserved.new.self.items c.in_ok-machine.machine
          (c.loop-before.before + 1) _ _ _ c.reserve.ensures.items c.push_reserved.ensures.items (omega (arith, each)) i.had c.in_ok-machine.ensures.had;
      later = omega (arith, before, later);
    }
