-- The laws of this crate, over those of the crates below.
use Rattle.sl_run_law.proofs.Course.CallsAreDistinct.{calls_are_distinct}
use Rattle.sl_run_law.proofs.Landing.DoneHaveLanded.{done_have_landed_given}
use Rattle.sl_run_law.proofs.Landing.WritesLandOnce.{land_once_given}
use Rattle.sl_run_law.proofs.Landing.Writers.{are_written_given}
use Rattle.sl_run_law.specs.Landing.Landings.{DoneWritesHaveLanded, LandingsAreWritten, WritesLandOnce}

pub landings_are_written : LandingsAreWritten
landings_are_written = are_written_given calls_are_distinct

pub writes_land_once : WritesLandOnce
writes_land_once = land_once_given calls_are_distinct

pub done_writes_have_landed : DoneWritesHaveLanded
done_writes_have_landed = done_have_landed_given calls_are_distinct
