-- What is owed where a schedule is told: the run that was made is as promised.
use Rattle.sl_due_law.proofs.DueIsLawful.{due_is_lawful}
use Rattle.sl_headline.proofs.RunsArePromised.{made_reports_are_promised}
use Rattle.sl_headline.specs.PromisedRuns.{PromisedRun}
use Rattle.sl_host_step.specs.HostServes.{Serves, whole_commands}
use Rattle.sl_io.specs.FaultCauses.{Rose}
use Rattle.sl_play.specs.Replays.{played_language}
use Rattle.sl_report.specs.Languages.{whole_language}
use Rattle.sl_report.specs.OwedReports.{IsFrontOf, ReplayOf}
use Rattle.sl_report.specs.Schedules.{greatest_source}
use Rattle.sl_sound.specs.MadeRuns.{MadeRun}
use Rattle.sl_story.specs.ToldSchedules.{All, Fewer, IsTold, Lacks, Nothing, Part, Tells, ToldBy}
use Rattle.sl_story.specs.declared.story.Told.TheVariants as story
use Rattle.sl_story.specs.declared.story.Told.{Told}
use Rattle.sl_top.proofs.RunLaws.{asks_read, digest_of, good_headers, hosts_do, nothing_put, same_language}
use Rattle.sl_top.specs.Statuses.{status_of_told}
use Rattle.sl_top.specs.Stories.{IsStory, Schedules}
use Rattle.sl_top.specs.declared.status.Status.TheVariants.{Done, NoMemory, WriteFault}
use Rattle.sl_top.specs.declared.status.Status.{Status}
use Rattle.std.proofs.Common.{Bool, List, Option, [], inl, inr, length, refl, subst, sym, ℕ, ◌+◌, ◌<◌, ◌≡◌, ◌≤◌, ◌⊎◌}
use Rattle.std.specs.Io.KnownBytes.{Appends}

-- ---- a schedule

report_promised : (text report : List ℕ) → ReplayOf (λ p h xs. MadeRun Serves p h xs) (played_language whole_commands) text report 0 → ReplayOf PromisedRun whole_language text report 0
report_promised text report replay =
    subst (λ l. ReplayOf PromisedRun l text report 0) same_language
    (made_reports_are_promised Serves hosts_do due_is_lawful (played_language whole_commands) asks_read good_headers digest_of text report 0 replay)

story_of : (hosts : ℕ) (paired : Bool) (n : ℕ) (text : List ℕ) → ToldBy whole_commands Serves hosts paired n text → IsStory hosts paired n text
story_of hosts paired n text t =
    record { lines = t.lines; counted = t.counted; saying = t.saying; text_is = t.text_is; report = t.report; accepted = report_promised text t.report t.accepted }

-- ---- by how it ended

module _ (hosts events : ℕ) (paired : Bool) (taken now : Option (List ℕ)) (faults later : ℕ) where
  done : (n : ℕ) (text : List ℕ) → Appends taken now text → ToldBy whole_commands Serves hosts paired n text
      → (n ≡ events) ⊎ ((n < events) × (greatest_source < length text + 10)) → Schedules hosts events paired taken now faults later Done
  done n text appends by many =
      record {
        written = text;
        appends = appends;
        told = λ e. (n, story_of hosts paired n text by, many);
        part = λ e. absurd cc;
        fewer = λ e. absurd cc;
        write_fault = λ e. absurd cc;
        ended = inl refl;
      }

  broken : (n : ℕ) (text whole : List ℕ) → n ≤ events → Appends taken now text → IsFrontOf text whole → ToldBy whole_commands Serves hosts paired n whole → Rose faults later
      → Schedules hosts events paired taken now faults later WriteFault
  broken n text whole few appends front by rose =
      record {
        written = text;
        appends = appends;
        told = λ e. absurd cc;
        part = λ e. (n, whole, few, story_of hosts paired n whole by, front);
        fewer = λ e. absurd cc;
        write_fault = λ e. rose;
        ended = inr (inl refl);
      }

  lacking : (text : List ℕ) → Appends taken now text → (text ≡ []) ⊎ ((n : ℕ) × (n < events) × IsStory hosts paired n text) → Schedules hosts events paired taken now faults later NoMemory
  lacking text appends has =
      record {
        written = text;
        appends = appends;
        told = λ e. absurd cc;
        part = λ e. absurd cc;
        fewer = λ e. has;
        write_fault = λ e. absurd cc;
        ended = inr (inr refl);
      }

  owed : (t : Told) → Tells whole_commands Serves hosts events paired taken now faults later t → Schedules hosts events paired taken now faults later (status_of_told t)
  owed story.Done (All text appends by) = done events text appends by (inl refl)
  owed story.Short (Fewer n text few full appends by) = done n text appends by (inr (few, full))
  owed story.WriteFault (Part n text whole few appends front by rose) = broken n text whole few appends front by rose
  owed story.NoMemory (Nothing appends) = lacking [] appends (inl refl)
  owed story.NoMemory (Lacks n text few appends by) = lacking text appends (inr (n, few, story_of hosts paired n text by))

  -- What was told is owed.
  pub schedules_by : (t : Told) (s : Status) → Tells whole_commands Serves hosts events paired taken now faults later t → s ≡ status_of_told t
      → Schedules hosts events paired taken now faults later s
  schedules_by t s tells is = subst (λ s. Schedules hosts events paired taken now faults later s) (sym is) (owed t tells)

-- Nothing was told.
pub none_scheduled : (hosts events : ℕ) (paired : Bool) (taken : Option (List ℕ)) (faults : ℕ) → Schedules hosts events paired taken taken faults faults NoMemory
none_scheduled hosts events paired taken faults = lacking hosts events paired taken taken faults faults [] (nothing_put taken) (inl refl)
