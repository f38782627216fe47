-- The devices' count never falls.
use Rattle.sl_live_run.proofs.machine_sites.take_all_back.Given as goal
use Rattle.std.proofs.Common.{◌≤◌}
use Rattle.std.specs.Prelude.{vec_len}

abbrev pub invariant-loop-machine : goal.invariant-loop-machine
invariant-loop-machine g l = g.V.Devices.faults l.fn.devices ≤ g.V.Devices.faults l.devices

abbrev pub decreases-loop-machine : goal.decreases-loop-machine
decreases-loop-machine g l = vec_len l.machines
