-- The history of each resource of a lawful run keeps all rules of the argument over ballots.
--
-- Its blocks are registers, and hosts keep their ballots, where joined sessions have names of their own, which are hosts'; and of its
-- sessions that act one follows another.
use Rattle.sl_safety.proofs.Ballot.InstancesHaveReasons.{histories_keep_their_ballots}
use Rattle.sl_safety.proofs.Ballot.LeadersFollowBallots.{leaders_follow_ballots}
use Rattle.sl_safety.proofs.Resources.NumbersAboveZero.{number_above}
use Rattle.sl_safety.proofs.Resources.Bases.{go_up}
use Rattle.sl_safety.proofs.Resources.Registers.{are_registers}
use Rattle.sl_safety.specs.Histories.{HistoriesAreLawful, HistoriesKeepInstances}
use Rattle.sl_safety.proofs.Sessions.EvidenceIsTrue.{histories_have_true_evidence}
use Rattle.sl_safety.proofs.Sessions.EarlierAreOver.{histories_end_earlier}
use Rattle.sl_safety.proofs.Sessions.NamesAreApart.{joined_are_hosts, names_are_apart}
use Rattle.sl_safety.proofs.Sessions.SessionsInOrder.{histories_are_in_order}
use Rattle.sl_safety.proofs.Sessions.RegisterLemma.{show_newest}

pub are_lawful : HistoriesAreLawful
are_lawful p h xs r run there =
    let names = names_are_apart p h xs r run there in
    let hosts = joined_are_hosts p h xs r run there in
    record {
      register = are_registers p h xs r run there names;
      newest = show_newest p h xs r run there;
      sessions = histories_are_in_order p h xs r run there;
      earlier = histories_end_earlier p h xs r run there;
      ballots = histories_keep_their_ballots p h xs r run there names hosts;
      up = go_up p h xs r run there names;
      numbers = number_above p h xs r run there names;
    }

pub keep_instances : HistoriesKeepInstances
keep_instances p h xs r run there =
    record {
      leaders = leaders_follow_ballots p h xs r run there (names_are_apart p h xs r run there) (joined_are_hosts p h xs r run there);
      evidence = histories_have_true_evidence p h xs r run there;
    }
