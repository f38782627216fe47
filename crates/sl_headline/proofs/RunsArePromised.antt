-- Made runs are as promised, and what is owed of them grows with that.
use Rattle.sl_headline.specs.PromisedRuns.{AsksAreRead, IsPromised, MadeReplaysArePromised, MadeReportsArePromised, MadeRunsArePromised, PromisedRun}
use Rattle.sl_headline.proofs.Quiet.Start.MadeRunsQuiet.{made_runs_are_quiet}
use Rattle.sl_report.specs.OwedReports.{HeadersAreGood, Promise, ReplayHeadline, ReplayOf, ReplayOwed, SoundRun, is_whole_status}
use Rattle.sl_report.specs.Host.{DueIsLawful}
use Rattle.sl_report.specs.Languages.{Language}
use Rattle.sl_run.specs.Safety.{LawfulRun}
use Rattle.sl_sound.proofs.Reports.OneReport.{owed_is_headline}
use Rattle.sl_sector.specs.SectorLayouts.{IsDigest}
use Rattle.sl_sound.proofs.OwedGrows.{Grows, made_replays_are_sound, owed_by, replay_grows}
use Rattle.sl_sound.proofs.Soundness.{made_runs_are_sound, sound_runs_are_served}
use Rattle.sl_sound.specs.MadeRuns.{MadeRun}
use Rattle.sl_sound.specs.SoundLaws.{DaemonsDoWhatIsDue}
use Rattle.sl_trace.specs.Traces.{Setting, Trace}
use Rattle.sl_headline.proofs.Volumes.DueCallsFit.{due_runs_are_answered}
use Rattle.sl_headline.proofs.Volumes.EntriesAtFronts.{answered_front}
use Rattle.sl_headline.proofs.Volumes.SameValue.SameIsUnchanged.{volumes_are_safe}
use Rattle.sl_headline.specs.Volumes.FittingRuns.{AnsweredRun}
use Rattle.std.proofs.Common.{subst, sym}
use Rattle.std.proofs.lemmas.List.{append-nil}
use Rattle.std.specs.Prelude.{Bool, List, MatchBool, [], false, true, ℕ}

pub made_runs_are_promised : {D : Type 0} (stands : D → Setting → Trace → Type 0) → MadeRunsArePromised stands
made_runs_are_promised {D} stands does lawful p reads h xs header digest made =
    let sound : SoundRun p h xs = made_runs_are_sound stands does lawful p h xs header digest made in
    let run : LawfulRun p h xs = record { header = header; digest = digest; is_run = made.is_run; lawful = λ d has. (sound.lawful d has).orderly } in
    let answered : AnsweredRun p h xs =
    due_runs_are_answered p h xs run (reads h header) sound.is_due (λ d has. (made.stood xs [] (sym (append-nil xs)) d has).setting) in
    record {
      served = sound_runs_are_served p h xs header digest sound;
      quiet = made_runs_are_quiet stands does p h xs run made.stood;
      locks = λ now rest is. volumes_are_safe p h now (answered_front p h now rest (subst (λ ys. AnsweredRun p h ys) is answered));
    }

-- All of it is the report of a promised run; a front is one of the plain program's report.
headline_by : (Promised Front Sound Plain : Type 0) (whole : Bool) → MatchBool whole Promised Front → MatchBool whole Sound Plain → MatchBool whole Promised Plain
headline_by Promised Front Sound Plain true owed headline = owed
headline_by Promised Front Sound Plain false owed headline = headline

module _ {D : Type 0} (stands : D → Setting → Trace → Type 0) (does : DaemonsDoWhatIsDue stands) (lawful : DueIsLawful) (lang : Language) (reads : AsksAreRead lang.program) (good : HeadersAreGood lang)
    (digest : IsDigest lang.program.digest) where
  abbrev Made : Promise
  Made p h xs = MadeRun stands p h xs

  promised_grow : Grows Made PromisedRun lang
  promised_grow h xs header made = made_runs_are_promised stands does lawful lang.program reads h xs header digest made

  report : (source written : List ℕ) (status : ℕ) → ReplayOf Made lang source written status → ReplayOf PromisedRun lang source written status
  report source written status replay = replay_grows Made PromisedRun lang good promised_grow source written status replay

  owed_and_plain : (ended : Bool) (read written : List ℕ) (status : ℕ) → ReplayOwed Made lang ended read written status → IsPromised lang ended read written status
  owed_and_plain ended read written status owed =
      let more : ReplayOwed PromisedRun lang ended read written status = owed_by Made PromisedRun lang good promised_grow ended read written status (is_whole_status status) owed in
      let plain : ReplayHeadline SoundRun lang ended read written status =
      owed_is_headline lang good ended read written status (made_replays_are_sound stands does lawful lang good digest ended read written status owed) in
      record { owed = more; headline = headline_by _ _ _ _ (is_whole_status status) more plain }

pub made_replays_are_promised : {D : Type 0} (stands : D → Setting → Trace → Type 0) → MadeReplaysArePromised stands
made_replays_are_promised {D} stands does lawful lang reads good digest ended read written status owed =
    owed_and_plain stands does lawful lang reads good digest ended read written status owed

pub made_reports_are_promised : {D : Type 0} (stands : D → Setting → Trace → Type 0) → MadeReportsArePromised stands
made_reports_are_promised {D} stands does lawful lang reads good digest source written status owed = report stands does lawful lang reads good digest source written status owed
