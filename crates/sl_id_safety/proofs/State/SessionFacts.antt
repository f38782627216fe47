-- The laws of one session and its sector, over those of the crates below.
use Rattle.sl_run_law.proofs.Course.DaemonsOfWorld.{daemons_are_of_world}
use Rattle.sl_run_law.proofs.Course.CoursesAreCalls.{courses_are_calls}
use Rattle.sl_id_safety.proofs.State.IdsAreBounded.{ids_are_bounded_given}
use Rattle.sl_id_safety.proofs.State.TraceBridge.{Grounds}
use Rattle.sl_id_safety.proofs.State.ClaimsHaveDecided.{claims_have_decided_given}
use Rattle.sl_id_safety.proofs.State.SessionsFollow.{DaemonsAreGiven, sessions_follow_given}
use Rattle.sl_id_safety.proofs.State.CallLaws.{join_reads_are_own_given}
use Rattle.sl_id_safety.proofs.State.RenewalsHaveVerified.{renewals_have_verified_given}
use Rattle.sl_id_safety.proofs.State.VerifyReads.{delta_writes_come_in_turn_given, verify_reads_have_claimed_given}
use Rattle.sl_id_safety.proofs.State.DecidingReads.{deciding_reads_have_watched_given}
use Rattle.sl_id_safety.specs.State.Facts.{ClaimsHaveDecided, DecidingReadsHaveWatched, DeltaWritesComeInTurn, JoinReadsAreOwn, RenewalsHaveVerified, SessionsFollow, VerifyReadsHaveClaimed}
use Rattle.sl_id_safety.specs.State.StateLaws.{IdsAreBounded}
use Rattle.sl_run_law.proofs.Landing.LandingLaws.{done_writes_have_landed}
use Rattle.sl_run_law.proofs.Place.Daemons.{daemons_are_fine}
use Rattle.sl_run_law.proofs.Sample.SampleLaws.{done_reads_are_whole, sampled_are_sectors, samples_are_landings}

pub grounds : Grounds
grounds =
    record {
      calls = courses_are_calls;
      of_world = daemons_are_of_world;
      landed = done_writes_have_landed;
      samples = samples_are_landings;
      sectors = sampled_are_sectors;
      done = done_reads_are_whole;
    }

pub daemons_are_given : DaemonsAreGiven
daemons_are_given p h xs run m a d at has = (daemons_are_fine p h xs run m a d at has).given

pub join_reads_are_own : JoinReadsAreOwn
join_reads_are_own = join_reads_are_own_given grounds

pub deciding_reads_have_watched : DecidingReadsHaveWatched
deciding_reads_have_watched = deciding_reads_have_watched_given grounds

pub claims_have_decided : ClaimsHaveDecided
claims_have_decided = claims_have_decided_given grounds

pub verify_reads_have_claimed : VerifyReadsHaveClaimed
verify_reads_have_claimed = verify_reads_have_claimed_given grounds

pub renewals_have_verified : RenewalsHaveVerified
renewals_have_verified = renewals_have_verified_given grounds

pub delta_writes_come_in_turn : DeltaWritesComeInTurn
delta_writes_come_in_turn = delta_writes_come_in_turn_given grounds

pub sessions_follow : SessionsFollow
sessions_follow = sessions_follow_given grounds daemons_are_given

pub ids_are_bounded : IdsAreBounded
ids_are_bounded = ids_are_bounded_given verify_reads_have_claimed
