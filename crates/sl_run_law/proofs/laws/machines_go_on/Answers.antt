use Rattle.sl_run_law.proofs.CoursesGoOn.{event_tracks}
use Rattle.sl_run_law.proofs.laws.machines_go_on.Goals as goal

pub returns : goal.returns
returns c = event_tracks
