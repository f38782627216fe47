use Rattle.sl_machine.proofs.AllRefusals.{plain_tests}
use Rattle.sl_machine.proofs.kept_world.Kept.reason.Goals as goal
use Rattle.sl_machine.specs.KeptParts.{kept_state}
use Rattle.sl_run.specs.Worlds.{first_that}
use Rattle.std.proofs.Common.{ap, refl, ◌∙◌}

pub returns-in_default : goal.returns-in_default
returns-in_default g c =
    record {
      exact = c.machine_refusal.ensures
          ∙ ap first_that
          (plain_tests c.args.locks (kept_state g.L.LockTable.locks c.args.self.now) c.args.event.now c.in_default.not-Pass c.in_default.not-Tear c.in_default.not-StartDaemon);
      total = tt;
      same = refl;
      disks = refl;
    }
