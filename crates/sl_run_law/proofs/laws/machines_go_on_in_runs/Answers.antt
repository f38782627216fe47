use Rattle.sl_run_law.proofs.CoursesGoOn.{run_tracks}
use Rattle.sl_run_law.proofs.laws.machines_go_on_in_runs.Goals as goal

pub returns : goal.returns
returns c = run_tracks
