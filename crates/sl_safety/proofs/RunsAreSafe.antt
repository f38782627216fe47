-- The whole: lawful runs are safe, and keep both invariants.
use Rattle.sl_run_law.proofs.Front.RunsFromFronts.{fronts_are_lawful}
use Rattle.sl_id_safety.proofs.IdSafety.{ids_are_safe}
use Rattle.sl_run.specs.Runs.{Happening}
use Rattle.sl_run.specs.Safety.{Invariants, LawfulRun, LeaseInvariant, Safety}
use Rattle.sl_run.specs.Worlds.{Program}
use Rattle.sl_run.specs.declared.header.Header.{Header}
use Rattle.sl_safety.proofs.BallotsAgree.{agreement_holds, one_winner_holds}
use Rattle.sl_safety.proofs.HoldingsExclude.{safety_given}
use Rattle.sl_safety.proofs.HistoriesAreLawful.{keep_instances}
use Rattle.sl_safety.proofs.ModesStand.{modes_stand, modes_stood_given}
use Rattle.sl_safety.proofs.Volumes.{volumes_given}
use Rattle.sl_safety.specs.Volumes.{VolumesExclude}
use Rattle.std.proofs.Common.{subst}
use Rattle.std.specs.Prelude.{List}

-- No two holdings conflict.
pub lawful_runs_are_safe : Safety
lawful_runs_are_safe = safety_given keep_instances

-- So with logical volumes.
pub volumes_exclude : VolumesExclude
volumes_exclude = volumes_given lawful_runs_are_safe

-- The invariant of blocks and leaders.
pub leases_are_safe : (p : Program) (h : Header) (xs : List Happening) → LawfulRun p h xs → LeaseInvariant p h xs
leases_are_safe p h xs run =
    record {
      agreement = agreement_holds p h xs run;
      winner = one_winner_holds p h xs run;
      mode = modes_stand p h xs run;
      mode_before = modes_stood_given keep_instances p h xs run;
    }

-- Both invariants, after each event.
pub invariants_hold : Invariants
invariants_hold p h xs run now rest whole =
    let front : LawfulRun p h now = fronts_are_lawful p h now rest (subst (λ (ys : List Happening). LawfulRun p h ys) whole run) in
    (ids_are_safe p h now front, leases_are_safe p h now front)
