-- A source has one report and one status: whoever reports a sound run, or a front of one, writes the plain program's text.
use Rattle.sl_report.specs.OwedReports.{FrontOf, GoodRun, HeadersAreGood, Headline, In_events, In_header, IsFrontOf, MayHaveBeen, Of_events, Of_nothing, Of_report, ReplayOf, SoundRun, is_whole_status}
use Rattle.sl_report.specs.Languages.{Language}
use Rattle.sl_report.specs.Reports.{no_counts, run_counts, run_lines}
use Rattle.sl_report.specs.RefusalLines.{refusal_line}
use Rattle.sl_report.specs.Schedules.{At_end, At_line, Ending, EventLine, Follows, FollowsSoFar, HeaderReading, Header_read, Header_refused, NoAsk, NumberedLine, event_lines_of, last_lines, numbered_lines, read_header, replay_from, replay_lines, report_of, status_of}
use Rattle.sl_run.specs.Headers.{IsHeader}
use Rattle.sl_run.specs.Runs.{Happening, world_after}
use Rattle.sl_run.specs.Worlds.{Machine, Program, World, machine_at, machine_of_header, world_with}
use Rattle.sl_run.specs.declared.header.Header.{Header}
use Rattle.sl_area.specs.AreaSizes.{layout_with}
use Rattle.sl_run_law.proofs.Course.MachinesKeep.{header_machine}
use Rattle.sl_sound.proofs.Reports.EventsAskFew.{no_ask}
use Rattle.sl_sound.proofs.Reports.RunsFollowSchedules.{IsFollowed, follows_so}
use Rattle.sl_sound.proofs.Reports.ScheduleFronts.{begins}
use Rattle.sl_sound.proofs.Reports.ReportsAreRuns.{does, follows, lines_joined, reported}
use Rattle.sl_sound.proofs.Reports.EffectsWereDue.{does_from}
use Rattle.sl_sound.specs.Reports.EventsAskFew.{AsksOn, IsFair}
use Rattle.sl_sound.specs.Reports.FollowedSchedules.{DoesWhatIsDue, IsAccepted, followed_end, followed_run}
use Rattle.sl_sound.specs.Reports.ReportLaws.{AcceptedSchedulesEndWell, OwedIsHeadline, RunsHaveOneReport, replay_status}
use Rattle.sl_words.proofs.CaseLaws.{false_is_true}
use Rattle.sl_text.specs.Forms.{as_bytes}
use Rattle.std.proofs.Common.{ap, arith, refl, subst, sym, ◌∙◌}
use Rattle.std.proofs.lemmas.List.{append_assoc}
use Rattle.std.specs.Int.{is_in_range}
use Rattle.std.specs.Prelude.{Bool, IsTrue, List, MatchBool, None, Some, false, is_some, suc, true, zero, [], ℕ, ◌++◌, ◌∷◌, ◌≡◌, ◌≤◌}

-- ---- the first world

first_locks : (p : Program) (h : Header) (m : ℕ) → (machine_of_header p (layout_with p.digest h.geometry) h m).locks.due ≡ None
unfolding machine_of_header
first_locks p h m = refl

first_retries : (p : Program) (h : Header) (m : ℕ) → (machine_of_header p (layout_with p.digest h.geometry) h m).locks.lvm.retries ≡ h.retries
unfolding machine_of_header
first_retries p h m = refl

none_first : (p : Program) (h : Header) (m : ℕ) (a : Machine) → machine_at (world_with p h) m ≡ Some a → a.locks.due ≡ None
none_first p h m a at = ap (λ (x : Machine). x.locks.due) (header_machine p h m a at) ∙ first_locks p h m

pub begins_fair : (p : Program) (h : Header) → IsHeader h → IsFair (world_with p h)
begins_fair p h header =
    record {
      header = header.retries;
      each = λ m a at.
          record {
            retries = subst (λ r. r ≤ 8) (sym (ap (λ (x : Machine). x.locks.lvm.retries) (header_machine p h m a at) ∙ first_retries p h m)) header.retries;
            taken = λ due. absurd (not_due a (none_first p h m a at) due);
          };
    }
  where
    not_due : (a : Machine) → a.locks.due ≡ None → is_some a.locks.due ≡ true → ⊥
    not_due a none due = false_is_true (sym (ap is_some none) ∙ due)

pub begins_unasked : (p : Program) (h : Header) → NoAsk (world_with p h)
begins_unasked p h = no_ask (world_with p h) (λ m a at. none_first p h m a at)

first_on : (p : Program) (h : Header) → IsHeader h → AsksOn (world_with p h) 0 0
first_on p h header =
    record {
      fair = begins_fair p h header;
      others = λ k a at other. none_first p h k a at;
      left = λ a at. rw (none_first p h 0 a at) none;
    }
  where
    none : 0 ≤ 0
    none = omega arith

-- ---- the run

sound_does : (p : Program) (h : Header) (xs : List Happening) → SoundRun p h xs → DoesWhatIsDue (world_with p h) xs
sound_does p h xs sound = does_from p h [] xs sound.is_run sound.is_due

-- It is the run that the schedule tells.
sound_so : (lang : Language) (h : Header) → IsHeader h → (rest : List NumberedLine) (xs : List Happening) (end : Ending)
    → Follows (world_with lang.program h) (event_lines_of lang h rest) xs end → SoundRun lang.program h xs
    → IsFollowed (world_with lang.program h) (event_lines_of lang h rest) xs end
sound_so lang h header rest xs end follows sound =
    follows_so (world_with lang.program h) (event_lines_of lang h rest) xs end (begins_fair lang.program h header) (begins_unasked lang.program h) follows
    (sound_does lang.program h xs sound)

-- ---- the status

-- The status by what is read of the header.
abbrev status_by : Language → HeaderReading → ℕ
status_by lang o =
    elim o [
      | Header_refused number why ↦ 1
      | Header_read h rest ↦ status_of (followed_end (world_with lang.program h) (event_lines_of lang h rest))
    ]

one_status : (lang : Language) → HeadersAreGood lang → (source written : List ℕ) (status : ℕ) → ReplayOf SoundRun lang source written status → status ≡ replay_status lang source
one_status lang good source written status (In_header number why is text) = sym (ap (status_by lang) is)
one_status lang good source written status (In_events h rest xs end is follows sound text ends) =
    ends ∙ ap status_of (sym (sound_so lang h (good source h rest is) rest xs end follows sound).ends) ∙ sym (ap (status_by lang) is)

ends_well : (lang : Language) → HeadersAreGood lang → (source : List ℕ) → IsAccepted lang source → replay_status lang source ≡ 0
ends_well lang good source a =
    ap (status_by lang) a.is_read
    ∙ ap status_of (follows_so (world_with lang.program a.header) (event_lines_of lang a.header a.rest) a.run At_end
    (begins_fair lang.program a.header (good source a.header a.rest a.is_read)) (begins_unasked lang.program a.header) a.follows a.does).ends

one_is_none : suc zero ≡ zero → ⊥
one_is_none h = absurd cc

is_the_end : (end : Ending) → status_of end ≡ 0 → end ≡ At_end
is_the_end At_end h = refl
is_the_end (At_line number why) h = absurd (one_is_none h)

accepted_by : (lang : Language) → HeadersAreGood lang → (source : List ℕ) (o : HeaderReading) → read_header lang [] 1 (numbered_lines source) ≡ o → status_by lang o ≡ 0
    → IsAccepted lang source
accepted_by lang good source (Header_refused number why) is h = absurd (one_is_none h)
accepted_by lang good source (Header_read h rest) is well =
    let w : World = world_with lang.program h in
    let ls : List EventLine = event_lines_of lang h rest in
    record {
      header = h;
      rest = rest;
      run = followed_run w ls;
      is_read = is;
      follows = subst (Follows w ls (followed_run w ls)) (is_the_end (followed_end w ls) well)
          (follows w ls (begins_fair lang.program h (good source h rest is)) (begins_unasked lang.program h));
      does = does w ls;
    }

pub accepted_schedules_end_well : AcceptedSchedulesEndWell
accepted_schedules_end_well =
    record { well = ends_well; only = λ lang good source h. accepted_by lang good source (read_header lang [] 1 (numbered_lines source)) refl h }

-- ---- the report

-- The report by what is read of the header.
abbrev report_by : Language → HeaderReading → List (List ℕ)
report_by lang o =
    elim o [
      | Header_refused number why ↦ refusal_line number (lang.told why) ∷ []
      | Header_read h rest ↦ replay_from lang (world_with lang.program h) no_counts (event_lines_of lang h rest)
    ]

followed_report : (lang : Language) (h : Header) (ls : List EventLine) (xs : List Happening) (end : Ending) → IsFollowed (world_with lang.program h) ls xs end
    → replay_from lang (world_with lang.program h) no_counts ls ≡ report_of lang h xs end
followed_report lang h ls xs end f =
    let w : World = world_with lang.program h in
    reported lang w no_counts ls ∙ ap (λ ys. run_lines w ys ++ last_lines lang (run_counts w no_counts ys) (followed_end w ls)) f.run
    ∙ ap (λ s. run_lines w xs ++ last_lines lang (run_counts w no_counts xs) s) f.ends

sound_report : (lang : Language) → HeadersAreGood lang → (source written : List ℕ) (status : ℕ) → ReplayOf SoundRun lang source written status
    → written ≡ as_bytes (replay_lines lang source)
sound_report lang good source written status (In_header number why is text) = text ∙ ap as_bytes (sym (ap (report_by lang) is))
sound_report lang good source written status (In_events h rest xs end is follows sound text ends) =
    text
    ∙ ap as_bytes (sym (followed_report lang h (event_lines_of lang h rest) xs end (sound_so lang h (good source h rest is) rest xs end follows sound)) ∙ sym (ap (report_by lang) is))

good_report : (lang : Language) → HeadersAreGood lang → Headline GoodRun lang
good_report lang good source status written (In_header number why is text) = sound_report lang good source written status (In_header number why is text)
good_report lang good source status written (In_events h rest xs end is follows run text ends) =
    sound_report lang good source written status (In_events h rest xs end is follows run.sound text ends)

pub runs_have_one_report : RunsHaveOneReport
runs_have_one_report = record { status = one_status; sound = sound_report; good = good_report }

-- ---- fronts

bytes_joined : (xs ys : List (List ℕ)) → as_bytes (xs ++ ys) ≡ as_bytes xs ++ as_bytes ys
bytes_joined [] ys = refl
bytes_joined (x ∷ xs) ys = ap (λ zs. (x ++ 10 ∷ []) ++ zs) (bytes_joined xs ys) ∙ sym (append_assoc (x ++ 10 ∷ []) (as_bytes xs) (as_bytes ys))

front_again : (xs ys zs : List ℕ) → IsFrontOf xs ys → IsFrontOf ys zs → IsFrontOf xs zs
front_again xs ys zs f g = (f.0 ++ g.0, g.1 ∙ ap (λ us. us ++ g.0) f.1 ∙ append_assoc xs f.0 g.0)

-- The lines of a front of the run begin the report.
events_begin : (lang : Language) (h : Header) → IsHeader h → (ls : List EventLine) (xs : List Happening) → FollowsSoFar (world_with lang.program h) ls xs
    → DoesWhatIsDue (world_with lang.program h) xs
    → IsFrontOf (as_bytes (run_lines (world_with lang.program h) xs)) (as_bytes (replay_from lang (world_with lang.program h) no_counts ls))
events_begin lang h header ls xs f d =
    let w : World = world_with lang.program h in
    let b = begins xs w 0 0 ls (first_on lang.program h header) f d in
    let last : List (List ℕ) = last_lines lang (run_counts w no_counts (followed_run w ls)) (followed_end w ls) in
    let more : List (List ℕ) = run_lines (world_after w xs) b.0 in (
      as_bytes (more ++ last),
      ap as_bytes (reported lang w no_counts ls ∙ ap (λ ys. run_lines w ys ++ last) b.1 ∙ ap (λ ms. ms ++ last) (lines_joined w xs b.0)
          ∙ append_assoc (run_lines w xs) more last) ∙ bytes_joined (run_lines w xs) (more ++ last),
    )

front_of_report : (lang : Language) → HeadersAreGood lang → (source written : List ℕ) → FrontOf SoundRun lang source written → IsFrontOf written (as_bytes (replay_lines lang source))
front_of_report lang good source written (Of_nothing is) = (as_bytes (replay_lines lang source), ap (λ ws. ws ++ as_bytes (replay_lines lang source)) (sym is))
front_of_report lang good source written (Of_report report status replay is) =
    subst (IsFrontOf written) (sound_report lang good source report status replay) is
front_of_report lang good source written (Of_events h rest xs read follows sound is) =
    front_again written (as_bytes (run_lines (world_with lang.program h) xs)) (as_bytes (replay_lines lang source)) is
    (subst (λ (o : HeaderReading). IsFrontOf (as_bytes (run_lines (world_with lang.program h) xs)) (as_bytes (report_by lang o))) (sym read)
    (events_begin lang h (good source h rest read) (event_lines_of lang h rest) xs follows (sound_does lang.program h xs sound)))

owed_by : (lang : Language) → HeadersAreGood lang → (ended : Bool) (read written : List ℕ) (status : ℕ) (whole : Bool)
    → MatchBool whole ((source : List ℕ) → MayHaveBeen ended read source → ReplayOf SoundRun lang source written status)
    (IsTrue (is_in_range 3 5 status) × ((source : List ℕ) → MayHaveBeen ended read source → FrontOf SoundRun lang source written))
    → MatchBool whole ((source : List ℕ) → MayHaveBeen ended read source → ReplayOf SoundRun lang source written status)
    (IsTrue (is_in_range 3 5 status) × ((source : List ℕ) → MayHaveBeen ended read source → IsFrontOf written (as_bytes (replay_lines lang source))))
owed_by lang good ended read written status true owed = owed
owed_by lang good ended read written status false owed = (owed.0, λ source may. front_of_report lang good source written (owed.1 source may))

pub owed_is_headline : OwedIsHeadline
owed_is_headline lang good ended read written status owed = owed_by lang good ended read written status (is_whole_status status) owed
