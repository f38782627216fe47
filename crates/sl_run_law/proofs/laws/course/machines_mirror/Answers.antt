use Rattle.sl_run_law.proofs.Course.MachinesMirror.{machines_mirror}
use Rattle.sl_run_law.proofs.laws.course.machines_mirror.Goals as goal

pub returns : goal.returns
returns c = machines_mirror
