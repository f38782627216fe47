-- What a drawing owes: the run that was made is as promised.
use Rattle.sl_draw.proofs.DrawingsAreOwed.{drawings_are_owed}
use Rattle.sl_draw.specs.Drawings.{AreTold, BeginsPicture, In_events, In_header, IsTold, PictureOf, PictureOwed, Step}
use Rattle.sl_draw.specs.Draws as draw
use Rattle.sl_due_law.proofs.DueIsLawful.{due_is_lawful}
use Rattle.sl_headline.proofs.RunsArePromised.{made_reports_are_promised}
use Rattle.sl_headline.specs.PromisedRuns.{PromisedRun}
use Rattle.sl_host_step.specs.HostServes.{Serves, whole_commands}
use Rattle.sl_picture.specs.declared.kept.Part.{Part}
use Rattle.sl_play.specs.Replays as play
use Rattle.sl_play.specs.Replays.{played_language}
use Rattle.sl_play.specs.declared.replay.Played.{Played}
use Rattle.sl_report.specs.Languages.{whole_language}
use Rattle.sl_report.specs.OwedReports.{In_header as Header_report, MayHaveBeen, Promise, ReplayOf, SoundRun, is_whole_status}
use Rattle.sl_run.specs.declared.header.Header.{Header}
use Rattle.sl_sound.proofs.OwedGrows.{replay_grows}
use Rattle.sl_sound.proofs.Reports.OneReport.{runs_have_one_report}
use Rattle.sl_sound.specs.MadeRuns.{MadeRun}
use Rattle.sl_sound.specs.Reports.ReportLaws.{replay_status}
use Rattle.sl_top.proofs.RunLaws.{asks_read, digest_of, done_is, good_headers, hosts_do, nothing_put, nothing_read, read_fault_is, same_code, same_language, whole_headers, write_fault_is}
use Rattle.sl_top.specs.Pictures.{Draws}
use Rattle.sl_top.specs.Statuses.{code, status_of}
use Rattle.sl_top.specs.declared.status.Status.TheVariants.{NoMemory}
use Rattle.sl_top.specs.declared.status.Status.{Status}
use Rattle.std.proofs.Common.{Bool, List, None, Option, Some, [], append-nil, false, refl, subst, sym, true, ℕ, ◌++◌, ◌==◌, ◌∷◌, ◌≡◌}
use Rattle.std.specs.Int.{is_in_range}
use Rattle.std.specs.Prelude.{IsTrue, MatchBool}

-- Runs that hosts make.
abbrev made : Promise
made = λ p h xs. MadeRun Serves p h xs

-- ---- what was made is promised

report_promised : (source written : List ℕ) (status : ℕ) → ReplayOf made (played_language whole_commands) source written status
    → ReplayOf PromisedRun (played_language whole_commands) source written status
report_promised source written status replay =
    made_reports_are_promised Serves hosts_do due_is_lawful (played_language whole_commands) asks_read good_headers digest_of source written status replay

one_promised : (source : List ℕ) (h : Header) (steps : List Step) → IsTold made (played_language whole_commands) source h steps → IsTold PromisedRun (played_language whole_commands) source h steps
one_promised source h steps t =
    record { front = t.front; begins = t.begins; header = t.header; counts = t.counts; report = report_promised t.front _ 0 t.report }

told_promised : (source : List ℕ) (h : Header) (steps : List Step) → AreTold made (played_language whole_commands) source h steps → AreTold PromisedRun (played_language whole_commands) source h steps
told_promised source h [] t = one_promised source h [] t
told_promised source h (s ∷ ss) t = (one_promised source h (s ∷ ss) t.0, told_promised source h ss t.1)

picture_made : (part : Part) (source written : List ℕ) (status : ℕ) → PictureOf made (played_language whole_commands) part source written status
    → PictureOf PromisedRun (played_language whole_commands) part source written status
picture_made part source written status (In_header number why is) = In_header number why is
picture_made part source written status (In_events h above steps rest last lines header told ends report) =
    In_events h above steps rest last lines header (told_promised source h steps told) ends (report_promised source _ status report)

picture_promised : (part : Part) (source written : List ℕ) (status : ℕ) → PictureOf made (played_language whole_commands) part source written status
    → PictureOf PromisedRun whole_language part source written status
picture_promised part source written status picture =
    subst (λ l. PictureOf PromisedRun l part source written status) same_language (picture_made part source written status picture)

begins_promised : (part : Part) (ended : Bool) (read written : List ℕ) → BeginsPicture made (played_language whole_commands) part ended read written
    → BeginsPicture PromisedRun whole_language part ended read written
begins_promised part ended read written b =
    record { picture = b.picture; status = b.status; begins = b.begins; owed = λ source may. picture_promised part source b.picture b.status (b.owed source may) }

front_promised : (part : Part) (ended : Bool) (read written : List ℕ) (fault : Bool)
    → MatchBool fault (BeginsPicture made (played_language whole_commands) part ended read written) (written ≡ [])
    → MatchBool fault (BeginsPicture PromisedRun whole_language part ended read written) (written ≡ [])
front_promised part ended read written true b = begins_promised part ended read written b
front_promised part ended read written false none = none

owed_by : (part : Part) (ended : Bool) (read written : List ℕ) (status : ℕ) (whole : Bool)
    → MatchBool whole ((source : List ℕ) → MayHaveBeen ended read source → PictureOf made (played_language whole_commands) part source written status)
    (IsTrue (is_in_range 3 5 status) × MatchBool (status == 4) (BeginsPicture made (played_language whole_commands) part ended read written) (written ≡ []))
    → MatchBool whole ((source : List ℕ) → MayHaveBeen ended read source → PictureOf PromisedRun whole_language part source written status)
    (IsTrue (is_in_range 3 5 status) × MatchBool (status == 4) (BeginsPicture PromisedRun whole_language part ended read written) (written ≡ []))
owed_by part ended read written status true owed = λ source may. picture_promised part source written status (owed source may)
owed_by part ended read written status false owed = (owed.0, front_promised part ended read written (status == 4) owed.1)

-- ---- statuses

-- The report of the run that a picture shows.
report_of_picture : (part : Part) (source written : List ℕ) (status : ℕ) → PictureOf PromisedRun whole_language part source written status
    → (report : List ℕ) × ReplayOf PromisedRun whole_language source report status
report_of_picture part source written status (In_header number why is) = (_, Header_report number why is refl)
report_of_picture part source written status (In_events h above steps rest last lines header told ends report) = (_, report)

sound_report : (source report : List ℕ) (status : ℕ) → ReplayOf PromisedRun whole_language source report status → ReplayOf SoundRun whole_language source report status
sound_report source report status replay = replay_grows PromisedRun SoundRun whole_language whole_headers (λ h xs header run. run.served.sound) source report status replay

own_by : (part : Part) (ended : Bool) (read written : List ℕ) (status : ℕ) (whole : Bool)
    → MatchBool whole ((source : List ℕ) → MayHaveBeen ended read source → PictureOf PromisedRun whole_language part source written status)
    (IsTrue (is_in_range 3 5 status) × MatchBool (status == 4) (BeginsPicture PromisedRun whole_language part ended read written) (written ≡ []))
    → IsTrue whole → (source : List ℕ) → MayHaveBeen ended read source → status ≡ replay_status whole_language source
own_by part ended read written status true owed tells source may =
    let report = report_of_picture part source written status (owed source may) in
    runs_have_one_report.status whole_language whole_headers source report.0 status (sound_report source report.0 status report.1)
own_by part ended read written status false owed tells source may = absurd cc

-- ---- a drawing

module _ (part : Part) (left after taken now : Option (List ℕ)) (faults later sink_faults sink_later : ℕ) (p : Played) where
  by_owed : draw.IsDrawn whole_commands Serves part left after taken now faults later sink_faults sink_later p → Draws part left after faults later taken now sink_faults sink_later (status_of p)
  by_owed o =
      let owed : PictureOwed PromisedRun whole_language part o.moved.ended o.moved.read o.moved.written (code (status_of p)) =
      subst (λ n. PictureOwed PromisedRun whole_language part o.moved.ended o.moved.read o.moved.written n) (same_code p)
      (owed_by part o.moved.ended o.moved.read o.moved.written (play.code p) (is_whole_status (play.code p)) o.owed) in
      record {
        read = o.moved.read;
        ended = o.moved.ended;
        written = o.moved.written;
        reads = o.moved.reads;
        at_end = o.moved.at_end;
        writes = o.moved.writes;
        owed = owed;
        own = own_by part o.moved.ended o.moved.read o.moved.written (code (status_of p)) (is_whole_status (code (status_of p))) owed;
        to_end = λ e. o.to_end (done_is p e);
        read_fault = λ e. o.read_fault (read_fault_is p e);
        write_fault = λ e. o.write_fault (write_fault_is p e);
      }

  -- What was drawn is owed.
  pub draws_by : draw.Draws whole_commands Serves part left after taken now faults later sink_faults sink_later p → (s : Status) → s ≡ status_of p
      → Draws part left after faults later taken now sink_faults sink_later s
  draws_by drawn s is =
      subst (λ t. Draws part left after faults later taken now sink_faults sink_later t) (sym is)
      (by_owed (drawings_are_owed whole_commands Serves part left after taken now faults later sink_faults sink_later p drawn))

-- Nothing was read, and nothing drawn.
pub undrawn : (part : Part) (left : Option (List ℕ)) (faults : ℕ) (taken : Option (List ℕ)) (sink_faults : ℕ) → Draws part left left faults faults taken taken sink_faults sink_faults NoMemory
undrawn part left faults taken sink_faults =
    record {
      read = [];
      ended = false;
      written = [];
      reads = nothing_read left;
      at_end = λ e. absurd cc;
      writes = nothing_put taken;
      owed = (refl, refl);
      own = λ tells source may. (let no : false ≡ true = tells in absurd cc);
      to_end = λ e. absurd cc;
      read_fault = λ e. absurd cc;
      write_fault = λ e. absurd cc;
    }
