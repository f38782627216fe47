-- A made run of daemons that do what is due is sound, field by field; and what is shown of lawful runs is true of it.
use Rattle.sl_world_state.specs.Daemons.{Stood}
use Rattle.sl_due.specs.Due.{IsHostTrace}
use Rattle.sl_run.specs.Lawful.{Lawful}
use Rattle.sl_run.specs.Runs.{EachDaemon, Happening}
use Rattle.sl_run.specs.Safety.{LawfulRun, SafeRun, world_at}
use Rattle.sl_run_law.proofs.Front.RunsFromFronts.{fronts_are_lawful}
use Rattle.sl_safety.proofs.Holding.HoldersHoldOnce.{holders_hold_once}
use Rattle.sl_safety.proofs.Holding.HoldingsGoOn.{holdings_go_on}
use Rattle.sl_safety.proofs.Value.ValueLaws.{values_are_last}
use Rattle.sl_safety.proofs.RunsAreSafe.{invariants_hold, lawful_runs_are_safe, volumes_exclude}
use Rattle.sl_sound.proofs.GrantsUncounted.{safe_runs_count_none}
use Rattle.sl_sound.specs.SoundLaws.{MadeRunsAreSound, SoundRunsAreServed}
use Rattle.sl_trace.specs.Traces.{Setting, Trace}
use Rattle.std.proofs.Common.{subst, sym}
use Rattle.std.proofs.lemmas.List.{append-nil}
use Rattle.std.specs.Prelude.{List, []}

pub made_runs_are_sound : {D : Type 0} (stands : D → Setting → Trace → Type 0) → MadeRunsAreSound stands
made_runs_are_sound {D} stands does lawful p h xs header digest made =
    let last : EachDaemon (Stood stands) (world_at p h xs) = made.stood xs [] (sym (append-nil xs)) in
    let due : (st : Setting) (es : Trace) → Stood stands st es → IsHostTrace st es = λ st es s. does s.daemon st es s.stood in
    let safe : SafeRun p h xs =
    lawful_runs_are_safe p h xs (record {
      header = header;
      digest = digest;
      is_run = made.is_run;
      lawful = λ d has. let s = last d has in (lawful d.setting d.trace s.setting (due d.setting d.trace s)).0.orderly;
    }) in
    record {
      is_run = made.is_run;
      is_due = λ d has. due d.setting d.trace (last d has);
      lawful = λ d has. let s = last d has in (lawful d.setting d.trace s.setting (due d.setting d.trace s)).0;
      caused = λ d has. let s = last d has in (lawful d.setting d.trace s.setting (due d.setting d.trace s)).1;
      busy = λ now rest is d has. let s = made.stood now rest is d has in (lawful d.setting d.trace s.setting (due d.setting d.trace s)).2;
      safe = safe;
      no_conflict = safe_runs_count_none p h xs made.is_run safe;
    }

pub sound_runs_are_served : SoundRunsAreServed
sound_runs_are_served p h xs header digest sound =
    let lawful : LawfulRun p h xs = record {
      header = header;
      digest = digest;
      is_run = sound.is_run;
      lawful = λ d has. (sound.lawful d has).orderly;
    } in
    record {
      sound = sound;
      invariants = invariants_hold p h xs lawful;
      values = values_are_last p h xs lawful;
      volumes = volumes_exclude p h xs lawful;
      stay = λ before rest whole.
          holdings_go_on p h before rest (subst (λ (ys : List Happening). LawfulRun p h ys) whole lawful)
          (subst (λ (ys : List Happening). EachDaemon Lawful (world_at p h ys)) whole sound.lawful);
      once = λ now rest whole. holders_hold_once p h now (fronts_are_lawful p h now rest (subst (λ (ys : List Happening). LawfulRun p h ys) whole lawful));
    }
