-- What a replay owes: the run that was made is as promised, and what is written of it is the plain program's report.
use Rattle.sl_due_law.proofs.DueIsLawful.{due_is_lawful}
use Rattle.sl_headline.proofs.RunsArePromised.{made_replays_are_promised, made_reports_are_promised}
use Rattle.sl_headline.specs.PromisedRuns.{AsksAreRead, IsPromised, PromisedRun}
use Rattle.sl_play.proofs.Headers.CommandsAreRead.{whole_language_may_play}
use Rattle.sl_host_step.specs.HostServes.{Serves, whole_commands}
use Rattle.sl_play.proofs.ReplaysAreOwed.{replays_are_owed}
use Rattle.sl_play.specs.Replays.{IsOwed, Of_events, Of_header, ReportsComplete, ReportsLines, played_language}
use Rattle.sl_play.specs.Replays as play
use Rattle.sl_play.specs.declared.replay.Played.TheVariants as played
use Rattle.sl_play.specs.declared.replay.Played.{Played}
use Rattle.sl_report.specs.OwedReports.{FrontOf, HeadersAreGood, MayHaveBeen, Of_nothing, ReplayOf, ReplayOwed, SoundRun, is_whole_status}
use Rattle.sl_report.specs.Languages.{Language, whole_language}
use Rattle.sl_report.specs.Reports.{end_line}
use Rattle.sl_sound.proofs.Reports.OneReport.{runs_have_one_report}
use Rattle.sl_sound.specs.Reports.ReportLaws.{replay_status}
use Rattle.sl_sector.proofs.WrittenBytes.{sha256_is_digest}
use Rattle.sl_sector.specs.SectorLayouts.{IsDigest}
use Rattle.sl_sound.proofs.OwedGrows.{made_replays_are_sound}
use Rattle.sl_sound.specs.MadeRuns.{MadeRun}
use Rattle.sl_sound.specs.SoundLaws.{DaemonsDoWhatIsDue}
use Rattle.sl_text.specs.Forms.{as_bytes}
use Rattle.sl_top.specs.Runs.{Replays}
use Rattle.sl_top.specs.Statuses.{code, status_of}
use Rattle.sl_top.specs.declared.status.Status.TheVariants.{Done, NoMemory, ReadFault, WriteFault}
use Rattle.sl_top.specs.declared.status.Status.{Status}
use Rattle.sl_headline.proofs.Volumes.WholeProgramReads.{whole_program_reads}
use Rattle.std.proofs.Common.{Bool, List, None, Option, Some, [], append-nil, refl, subst, sym, true, ℕ, ◌++◌, ◌∷◌, ◌≡◌}
use Rattle.std.specs.Int.{is_in_range}
use Rattle.std.specs.Io.KnownBytes.{Appends, Consumes}
use Rattle.std.specs.Prelude.{IsTrue, MatchBool, false}

-- ---- the language, and its hosts

-- A host does what is due.
pub hosts_do : DaemonsDoWhatIsDue Serves
hosts_do d st es s = s.stands.past

pub same_language : played_language whole_commands ≡ whole_language
same_language = whole_language_may_play.whole

pub good_headers : HeadersAreGood (played_language whole_commands)
good_headers = whole_language_may_play.plays.headers

pub whole_headers : HeadersAreGood whole_language
whole_headers = subst HeadersAreGood same_language good_headers

-- It reads what lvmlockd's locks ask.
pub asks_read : AsksAreRead (played_language whole_commands).program
asks_read = subst (λ (l : Language). AsksAreRead l.program) (sym same_language) whole_program_reads

pub digest_of : IsDigest (played_language whole_commands).program.digest
digest_of = sha256_is_digest

-- ---- statuses

pub same_code : (p : Played) → play.code p ≡ code (status_of p)
same_code played.Done = refl
same_code played.Refused = refl
same_code played.ReadFault = refl
same_code played.WriteFault = refl
same_code played.NoMemory = refl

pub done_is : (p : Played) → status_of p ≡ Done → p ≡ played.Done
done_is played.Done e = refl
done_is played.Refused e = absurd cc
done_is played.ReadFault e = absurd cc
done_is played.WriteFault e = absurd cc
done_is played.NoMemory e = absurd cc

pub read_fault_is : (p : Played) → status_of p ≡ ReadFault → p ≡ played.ReadFault
read_fault_is played.Done e = absurd cc
read_fault_is played.Refused e = absurd cc
read_fault_is played.ReadFault e = refl
read_fault_is played.WriteFault e = absurd cc
read_fault_is played.NoMemory e = absurd cc

pub write_fault_is : (p : Played) → status_of p ≡ WriteFault → p ≡ played.WriteFault
write_fault_is played.Done e = absurd cc
write_fault_is played.Refused e = absurd cc
write_fault_is played.ReadFault e = absurd cc
write_fault_is played.WriteFault e = refl
write_fault_is played.NoMemory e = absurd cc

-- ---- what is owed

-- What was made is sound.
sound_owed : (ended : Bool) (read written : List ℕ) (status : ℕ) → ReplayOwed (λ p h xs. MadeRun Serves p h xs) (played_language whole_commands) ended read written status
    → ReplayOwed SoundRun whole_language ended read written status
sound_owed ended read written status owed =
    subst (λ l. ReplayOwed SoundRun l ended read written status) same_language
    (made_replays_are_sound Serves hosts_do due_is_lawful (played_language whole_commands) good_headers digest_of ended read written status owed)

-- .. and as it is promised.
promised : (ended : Bool) (read written : List ℕ) (status : ℕ) → ReplayOwed (λ p h xs. MadeRun Serves p h xs) (played_language whole_commands) ended read written status
    → IsPromised whole_language ended read written status
promised ended read written status owed =
    subst (λ l. IsPromised l ended read written status) same_language
    (made_replays_are_promised Serves hosts_do due_is_lawful (played_language whole_commands) asks_read good_headers digest_of ended read written status owed)

-- All of the report, where the status tells of all.
whole_report : (ended : Bool) (read written : List ℕ) (status : ℕ) (whole : Bool)
    → MatchBool whole ((source : List ℕ) → MayHaveBeen ended read source → ReplayOf SoundRun whole_language source written status)
    (IsTrue (is_in_range 3 5 status) × ((source : List ℕ) → MayHaveBeen ended read source → FrontOf SoundRun whole_language source written))
    → IsTrue whole → (source : List ℕ) → MayHaveBeen ended read source → ReplayOf SoundRun whole_language source written status
whole_report ended read written status true owed tells = owed
whole_report ended read written status false owed tells = absurd cc

-- The status is the source's own.
own_status : (ended : Bool) (read written : List ℕ) (status : ℕ) → ReplayOwed SoundRun whole_language ended read written status → IsTrue (is_whole_status status)
    → (source : List ℕ) → MayHaveBeen ended read source → status ≡ replay_status whole_language source
own_status ended read written status owed tells source may =
    runs_have_one_report.status whole_language whole_headers source written status
    (whole_report ended read written status (is_whole_status status) owed tells source may)

-- Of the complete lines.
promised_lines : (lines written : List ℕ) → ReportsLines (λ p h xs. MadeRun Serves p h xs) (played_language whole_commands) lines written
    → ReportsLines PromisedRun whole_language lines written
promised_lines lines written (Of_events k replay) =
    Of_events k (subst (λ l. ReplayOf PromisedRun l lines (written ++ as_bytes (end_line k ∷ [])) 0) same_language
    (made_reports_are_promised Serves hosts_do due_is_lawful (played_language whole_commands) asks_read good_headers digest_of lines (written ++ as_bytes (end_line k ∷ [])) 0 replay))
promised_lines lines written (Of_header ls r goes none) = Of_header ls r goes none

promised_complete : (read written : List ℕ) → ReportsComplete (λ p h xs. MadeRun Serves p h xs) (played_language whole_commands) read written
    → ReportsComplete PromisedRun whole_language read written
promised_complete read written c =
    record {
      complete = c.complete;
      partial = c.partial;
      cut = c.cut;
      whole = c.whole;
      free = c.free;
      report = promised_lines c.complete written c.report;
    }

-- ---- a replay

module _ (left after taken now : Option (List ℕ)) (faults later sink_faults sink_later : ℕ) (p : Played) where
  by_owed : IsOwed whole_commands Serves left after taken now faults later sink_faults sink_later p → Replays left after faults later taken now sink_faults sink_later (status_of p)
  by_owed o =
      let owed : ReplayOwed SoundRun whole_language o.moved.ended o.moved.read o.moved.written (code (status_of p)) =
      subst (λ n. ReplayOwed SoundRun whole_language o.moved.ended o.moved.read o.moved.written n) (same_code p)
      (sound_owed o.moved.ended o.moved.read o.moved.written (play.code p) o.owed) in
      let all : IsPromised whole_language o.moved.ended o.moved.read o.moved.written (code (status_of p)) =
      subst (λ n. IsPromised whole_language o.moved.ended o.moved.read o.moved.written n) (same_code p)
      (promised o.moved.ended o.moved.read o.moved.written (play.code p) o.owed) in
      record {
        read = o.moved.read;
        ended = o.moved.ended;
        written = o.moved.written;
        reads = o.moved.reads;
        at_end = o.moved.at_end;
        writes = o.moved.writes;
        owed = all.owed;
        headline = all.headline;
        own = own_status o.moved.ended o.moved.read o.moved.written (code (status_of p)) owed;
        to_end = λ e. o.to_end (done_is p e);
        complete = λ e. promised_complete o.moved.read o.moved.written (o.complete (read_fault_is p e));
        read_fault = λ e. o.read_fault (read_fault_is p e);
        write_fault = λ e. o.write_fault (write_fault_is p e);
      }

  -- What was played is owed.
  pub replays_by : play.Replays whole_commands Serves left after taken now faults later sink_faults sink_later p → (s : Status) → s ≡ status_of p
      → Replays left after faults later taken now sink_faults sink_later s
  replays_by played s is =
      subst (λ t. Replays left after faults later taken now sink_faults sink_later t) (sym is)
      (by_owed (replays_are_owed whole_commands Serves left after taken now faults later sink_faults sink_later p played))

-- ---- nothing was read, and nothing put out

pub nothing_put : (taken : Option (List ℕ)) → Appends taken taken []
nothing_put None = tt
nothing_put (Some xs) = sym (append-nil xs)

pub nothing_read : (left : Option (List ℕ)) → Consumes left left []
nothing_read None = tt
nothing_read (Some xs) = refl

pub unread : (left : Option (List ℕ)) (faults : ℕ) (taken : Option (List ℕ)) (sink_faults : ℕ) → Replays left left faults faults taken taken sink_faults sink_faults NoMemory
unread left faults taken sink_faults =
    record {
      read = [];
      ended = false;
      written = [];
      reads = nothing_read left;
      at_end = λ e. absurd cc;
      writes = nothing_put taken;
      owed = (refl, λ source may. Of_nothing refl);
      headline = (refl, λ source may. (_, refl));
      own = λ tells source may. (let no : false ≡ true = tells in absurd cc);
      to_end = λ e. absurd cc;
      complete = λ e. absurd cc;
      read_fault = λ e. absurd cc;
      write_fault = λ e. absurd cc;
    }
