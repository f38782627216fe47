-- What the ids of each lawful run promise, since each of their states is reached.
use Rattle.sl_id_safety.proofs.IdInterface.{generations_name_one_given, joiners_find_over_given, joiners_rise_given, one_acts_given, over_stays_given}
use Rattle.sl_id_safety.proofs.SectorsAreAlone.{sectors_are_alone_given}
use Rattle.sl_id_safety.proofs.EvidenceIsTrue.{evidence_means_over_given, evidences_are_true_given}
use Rattle.sl_id_safety.proofs.NoOther.{reads_no_other_given}
use Rattle.sl_id_safety.proofs.SectorsStand.{sectors_stand_given}
use Rattle.sl_id_safety.proofs.SilenceMeansOver.{silence_means_over_given}
use Rattle.sl_id_safety.specs.Interface.{EvidenceMeansOver, EvidencesAreTrue, GenerationsNameOne, IdsAreSafe, JoinedReadNoOther, JoinersFindOver, JoinersRise, OneActsForEachId, OverStays, SectorsAreAlone, SectorsStand, SilenceMeansOver}
use Rattle.sl_id_safety.proofs.Reached.IdsAreReached.{ids_are_reached, ids_go_on}
use Rattle.sl_run_law.proofs.Watchdog.WatchdogLaws.{writes_in_flight_are_covered}

pub one_acts_for_each_id : OneActsForEachId
one_acts_for_each_id = one_acts_given ids_are_reached

pub joiners_rise : JoinersRise
joiners_rise = joiners_rise_given ids_are_reached ids_go_on

pub generations_name_one : GenerationsNameOne
generations_name_one = generations_name_one_given ids_are_reached

pub over_stays : OverStays
over_stays = over_stays_given ids_are_reached ids_go_on

pub joiners_find_over : JoinersFindOver
joiners_find_over = joiners_find_over_given ids_are_reached ids_go_on

pub sectors_are_alone : SectorsAreAlone
sectors_are_alone = sectors_are_alone_given ids_are_reached

pub sectors_stand : SectorsStand
sectors_stand = sectors_stand_given ids_are_reached

silence_means_over : SilenceMeansOver
silence_means_over = silence_means_over_given ids_are_reached ids_go_on

pub evidence_means_over : EvidenceMeansOver
evidence_means_over = evidence_means_over_given ids_are_reached ids_go_on silence_means_over

pub evidences_are_true : EvidencesAreTrue
evidences_are_true = evidences_are_true_given ids_are_reached ids_go_on silence_means_over

pub reads_no_other : JoinedReadNoOther
reads_no_other = reads_no_other_given ids_are_reached ids_go_on

pub ids_are_safe : IdsAreSafe
ids_are_safe p h xs run =
    record {
      covered = writes_in_flight_are_covered p h xs run;
      evidence = evidences_are_true p h xs run;
      one = one_acts_for_each_id p h xs run;
      rise = joiners_rise p h xs run;
      alone = sectors_are_alone p h xs run;
      own = sectors_stand p h xs run;
      no_other = reads_no_other p h xs run;
    }
