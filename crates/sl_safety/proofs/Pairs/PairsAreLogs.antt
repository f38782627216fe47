-- What a run tells of a host's pair is a log.
use Rattle.sl_safety.proofs.Pairs.TurnGoesUp.{next}
use Rattle.sl_safety.proofs.Pairs.Looks.{looks_after, quiet, sampled, shows}
use Rattle.sl_safety.proofs.Pairs.Writes.{IsPair, after_join, answers_later, done_lands, follows, gone, joined, lands_before, lands_later, positive, settled, silent}
use Rattle.sl_safety.specs.Pairs.PairLaws.{PairsAreLogs}
use Rattle.std.proofs.Common.{inr}

pub pairs_are_logs : PairsAreLogs
pairs_are_logs p h xs r run paired there k host =
    let i : IsPair p h xs r = record { run = run; there = there } in
    record {
      positive = positive p h xs r i k;
      joined = λ e is. inr (joined p h xs r i k e is);
      after_join = after_join p h xs r i k;
      follows = follows p h xs r i k;
      silent = silent p h xs r i k;
      gone = gone p h xs r i k;
      settled = settled p h xs r i k;
      lands_later = lands_later p h xs r i k;
      answers_later = answers_later p h xs r i k;
      lands_before = lands_before p h xs r i k;
      done_landed = λ e a is done told. done_lands p h xs r i k e is done;
      looks_after = looks_after p h xs r i k;
      sampled = sampled p h xs r i paired k host;
      quiet = quiet p h xs r i k;
      shows = shows p h xs r i paired k host;
      next = next p h xs r i paired k;
    }
