-- What acquires show beside what may stand in their way: where nothing does they are granted, and without each of these premises alone one is
-- not.
use Rattle.sl_examples.specs.QuietSchedules.{alone_exclusive, alone_shared, answered_failed, answered_late, beside_leases, held_elsewhere, process_exits, second_writer, shared_elsewhere}
use Rattle.sl_examples.specs.QuietTests.{granted_by, outcome_in, refused_but_for}
use Rattle.std.specs.Prelude.{codes, ◌≡◌}

pub record QuietPremisesTell : Type 0 where
  -- six calls, or eight where it is shared
  pub exclusive : outcome_in alone_exclusive 0 ≡ granted_by 6
  pub shared : outcome_in alone_shared 0 ≡ granted_by 8
  -- a call is answered late, or failed
  pub late : outcome_in answered_late 0 ≡ refused_but_for (codes "answers") 3
  pub faulty : outcome_in answered_failed 0 ≡ refused_but_for (codes "answers") 2
  -- another daemon writes on the area
  pub written : outcome_in second_writer 0 ≡ refused_but_for (codes "writers") 3
  -- another host holds it shared
  pub moded : outcome_in shared_elsewhere 9 ≡ refused_but_for (codes "modes") 3
  -- its process exits
  pub left : outcome_in process_exits 0 ≡ refused_but_for (codes "stays") 2
  -- another host holds it exclusive
  pub taken : outcome_in held_elsewhere 7 ≡ refused_but_for (codes "free") 1
  -- a limit is met: 256 resources, and one more
  pub limited : beside_leases 256 ≡ refused_but_for (codes "limit") 0
