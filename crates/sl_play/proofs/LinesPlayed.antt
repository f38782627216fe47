-- Lines that are read and played one after another.
use Rattle.sl_world_state.specs.Daemons.{program_of}
use Rattle.sl_play.proofs.EndsFinish.{ends_finish, leading_is_chained}
use Rattle.sl_play.proofs.PlayIsOwed.{play_is_owed}
use Rattle.sl_play.specs.RunEndings.{BreaksOff, Finishes, LeadsBack}
use Rattle.sl_play.specs.PlayIsOwed.{EachStood}
use Rattle.sl_play.specs.Plays.{Begins, GoesOn, IsPlaying, PlayState, PlaysOn, StopsAt, TakesLines}
use Rattle.sl_play.proofs.ReportsShift.{shift, shift_finish}
use Rattle.sl_play.specs.Replays.{All, Breaks, Chokes, Ends, Lacks, LeadsFrom, MayPlay, Moved, Nothing, Of_events, Of_header, Part, Puts, Replays, ReportsAll, ReportsFront, Running, Stops, played_language}
use Rattle.sl_play.specs.declared.replay.Played.TheVariants.{Done, NoMemory, ReadFault, Refused, WriteFault}
use Rattle.sl_play.specs.declared.replay.Played.{Played}
use Rattle.sl_report.specs.OwedReports.{FrontOf, In_header, IsFrontOf, MayHaveBeen, Of_nothing, Of_report, ReplayOf}
use Rattle.sl_report.specs.Languages.{Language, is_skipped, language_of, whole_language}
use Rattle.sl_report.specs.ReadLines.{header_line_in}
use Rattle.sl_report.specs.Reports.{Counts, end_line, no_counts}
use Rattle.sl_report.specs.HeaderLines.{HeaderLine, header_of}
use Rattle.sl_report.specs.RefusalLines.{refusal_line}
use Rattle.sl_report.specs.Schedules.{At_end, At_line, Ending, EventLine, HeaderReading, Header_read, Header_refused, NumberedLine, default_area, default_sector, event_line, event_lines_of, header_line_refusal, is_begin, line_refusal, numbered_from, numbered_lines, read_header, status_of, with_line}
use Rattle.sl_run.specs.Headers.{IsHeader}
use Rattle.sl_run.specs.Worlds.{Program, World, world_with}
use Rattle.sl_run.specs.declared.event.Refusal.{Refusal}
use Rattle.sl_run.specs.declared.header.Header.{Header}
use Rattle.sl_reader.proofs.HeaderSteps.{gives_so, gives_then, has_read_more, next_line, open_follows}
use Rattle.sl_reader.specs.HeaderBegins.{HasRead, HeaderBegins, HeaderBreaks, HeaderStops, lines_left}
use Rattle.sl_reader.specs.LineReads.{EndStands, Fails, Gives, IsCutOff, MayFollow, ReaderState, ReadsEnd, ReadsLine, ReadsRefused, line_of}
use Rattle.sl_sound.specs.MadeRuns.{MadeRun}
use Rattle.sl_text.specs.Forms.{Form, as_bytes, lines_of}
use Rattle.sl_trace.specs.Traces.{Setting, Trace}
use Rattle.sl_trace.specs.declared.command.Command.{Command}
use Rattle.sl_io.specs.FaultCauses.{Rose}
use Rattle.sl_words.specs.Words.{some_is}
use Rattle.sl_world_law.proofs.FirstStanding.{each_stood}
use Rattle.std.proofs.Common.{Bool, List, None, Option, Some, [], ap, arith, drop, false, length, length-append, refl, subst, sym, take, take-append-drop, true, ℕ, ◌++◌, ◌+◌, ◌∙◌, ◌∷◌, ◌≡◌, ◌≤◌}
use Rattle.std.proofs.KnownBytes.{Appends-nil, Appends-trans, Consumes-nil}
use Rattle.std.proofs.lemmas.List.{append-nil, append_assoc}
use Rattle.std.specs.Io.KnownBytes.{Appends, Consumes, IsAtEnd}
use Rattle.std.specs.List.{cons_option}
use Rattle.std.specs.Option.{option_to_list}
use Rattle.std.specs.Prelude.{Err, IsTrue, Ok, OnErr, OnOk, Result}

-- ---- the language

-- What a line makes of the lines behind it, by its tests.
abbrev chosen : Option Refusal → Bool → Option Refusal → Bool → ℕ → Header → List NumberedLine → HeaderReading → HeaderReading → HeaderReading
chosen o skips why begin n h rest a c =
    elim o [
      | Some r ↦ Header_refused n r
      | None ↦ elim skips [
        | true ↦ a
        | false ↦ elim why [ Some r ↦ Header_refused n r | None ↦ elim begin [ true ↦ Header_read h rest | false ↦ c ] ]
      ]
    ]

stepped_so : (o : Option Refusal) (skips : Bool) (why : Option Refusal) (begin : Bool) (n : ℕ) (h : Header) (rest : List NumberedLine) (a b c d : HeaderReading) → a ≡ b → c ≡ d
    → chosen o skips why begin n h rest a c ≡ chosen o skips why begin n h rest b d
stepped_so (Some r) skips why begin n h rest a b c d p q = refl
stepped_so None true why begin n h rest a b c d p q = p
stepped_so None false (Some r) begin n h rest a b c d p q = refl
stepped_so None false None true n h rest a b c d p q = refl
stepped_so None false None false n h rest a b c d p q = q

-- A header is read whatever the commands are.
pub read_same : (p : Program) (lines : List NumberedLine) (ls : List HeaderLine) (next : ℕ) → read_header (language_of p) ls next lines ≡ read_header whole_language ls next lines
read_same p [] ls next = refl
read_same p (l ∷ rest) ls next =
    let read : Option HeaderLine = header_line_in whole_language (header_of default_sector default_area ls).geometry.area l.text in
    stepped_so (line_refusal l) (is_skipped l.text) (header_line_refusal whole_language ls read) (some_is is_begin read) l.number (header_of default_sector default_area ls) rest
    (read_header (language_of p) ls (l.number + 1) rest) (read_header whole_language ls (l.number + 1) rest)
    (read_header (language_of p) (with_line ls read) (l.number + 1) rest) (read_header whole_language (with_line ls read) (l.number + 1) rest)
    (read_same p rest ls (l.number + 1)) (read_same p rest (with_line ls read) (l.number + 1))

-- ---- sources

-- A source that may have been goes on with what may follow.
pub been : (ended : Bool) (read source : List ℕ) → MayHaveBeen ended read source → (rest : List ℕ) × (source ≡ read ++ rest) × MayFollow ended rest
been true read source is = ([], is ∙ sym (append-nil read), λ e. refl)
been false read source is = (is.0, is.1, λ e. absurd (never e))
  where
    never : false ≡ true → ⊥
    never e = absurd cc

cons_list : {A : Type 0} (o : Option A) (xs : List A) → cons_option o xs ≡ option_to_list o ++ xs
cons_list None xs = refl
cons_list (Some x) xs = refl

-- The events of a first line, and of those behind it.
events_first : (lang : Language) (h : Header) (l : NumberedLine) (ls : List NumberedLine) → event_lines_of lang h (l ∷ ls) ≡ option_to_list (event_line lang h l) ++ event_lines_of lang h ls
events_first lang h l ls = cons_list (event_line lang h l) (event_lines_of lang h ls)

abbrev unread : Option Refusal → ℕ → Option EventLine → Option EventLine
unread o number other = elim o [ Some r ↦ Some (number, Err r) | None ↦ other ]

refused_line : (o : Option Refusal) (why : Refusal) (number : ℕ) (other : Option EventLine) → o ≡ Some why → unread o number other ≡ Some (number, Err why)
refused_line o why number other is = ap (λ p. unread p number other) is

total_at : (consumed rest : List ℕ) (behind : ℕ) → behind ≡ length consumed → length (consumed ++ rest) ≡ behind + length rest
total_at consumed rest behind is = length-append consumed rest ∙ ap (λ b. b + length rest) (sym is)

-- ---- reports

whole_at : {D : Type 0} (commands : Header → List (Form Command)) (stands : D → Setting → Trace → Type 0) (h : Header) (source : List ℕ) (w : World) (k : Counts) (ls : List NumberedLine)
    (written total : List ℕ) (end : Ending) → LeadsFrom commands stands h source w k ls written
    → Finishes (EachStood stands) (played_language commands) w k (event_lines_of (played_language commands) h ls) written total end
    → ReplayOf (λ p header xs. MadeRun stands p header xs) (played_language commands) source total (status_of end)
whole_at commands stands h source w k ls written total end l f =
    (play_is_owed stands).whole (played_language commands) source h l.behind total end l.header (l.leads.finishes total end f)

front_at : {D : Type 0} (commands : Header → List (Form Command)) (stands : D → Setting → Trace → Type 0) (h : Header) (source : List ℕ) (w : World) (k : Counts) (ls : List NumberedLine)
    (written total : List ℕ) → LeadsFrom commands stands h source w k ls written → BreaksOff (EachStood stands) w (event_lines_of (played_language commands) h ls) written total
    → FrontOf (λ p header xs. MadeRun stands p header xs) (played_language commands) source total
front_at commands stands h source w k ls written total l f =
    (play_is_owed stands).front (played_language commands) source h l.behind total l.header (l.leads.breaks total f)

-- A front of a whole report.
front_of_all : {D : Type 0} (commands : Header → List (Form Command)) (stands : D → Setting → Trace → Type 0) (ended : Bool) (read written text front : List ℕ) (status : ℕ)
    → ReportsAll commands stands ended read (written ++ text) status → IsFrontOf front text → ReportsFront commands stands ended read (written ++ front)
front_of_all commands stands ended read written text front status all f =
    λ source may. Of_report (written ++ text) status (all source may) (f.0, ap (λ b. written ++ b) f.1 ∙ sym (append_assoc written front f.0))

-- ---- a text that is put out behind what is written

-- What a status of the whole text tells.
abbrev pub WholeIs : Played → Bool → ℕ → Type 0
WholeIs Done ended status = (ended ≡ true) × (status ≡ 0)
WholeIs Refused ended status = status ≡ 1
WholeIs s ended status = ⊥

all_out : {D : Type 0} (commands : Header → List (Form Command)) (stands : D → Setting → Trace → Type 0) (first after taken now : Option (List ℕ)) (faults later sink_faults sink_later : ℕ)
    (x : Moved first after taken now) (status : ℕ) (whole : Played) → WholeIs whole x.ended status → ReportsAll commands stands x.ended x.read x.written status
    → Replays commands stands first after taken now faults later sink_faults sink_later whole
all_out commands stands first after taken now faults later sink_faults sink_later x status Done is all = Ends x is.0 (subst (λ k. ReportsAll commands stands x.ended x.read x.written k) is.1 all)
all_out commands stands first after taken now faults later sink_faults sink_later x status Refused is all = Stops x (subst (λ k. ReportsAll commands stands x.ended x.read x.written k) is all)
all_out commands stands first after taken now faults later sink_faults sink_later x status ReadFault is all = absurd is
all_out commands stands first after taken now faults later sink_faults sink_later x status WriteFault is all = absurd is
all_out commands stands first after taken now faults later sink_faults sink_later x status NoMemory is all = absurd is

pub puts_out : {D : Type 0} (commands : Header → List (Form Command)) (stands : D → Setting → Trace → Type 0) (first after taken since now : Option (List ℕ)) (faults later sink_faults sink_later : ℕ)
    (ended : Bool) (read written text : List ℕ) (status : ℕ) (whole s : Played) → WholeIs whole ended status → Consumes first after read → (IsTrue ended → IsAtEnd after) → Appends taken since written
    → ReportsAll commands stands ended read (written ++ text) status → Puts since now sink_faults sink_later text whole s
    → Replays commands stands first after taken now faults later sink_faults sink_later s
puts_out commands stands first after taken since now faults later sink_faults sink_later ended read written text status whole s is reads at_end writes all (Part front appends begins rose) =
    Chokes (record { read = read; ended = ended; written = written ++ front; reads = reads; at_end = at_end; writes = Appends-trans taken since now written front writes appends }) rose
    (front_of_all commands stands ended read written text front status all begins)
puts_out commands stands first after taken since now faults later sink_faults sink_later ended read written text status whole s is reads at_end writes all (Nothing appends) =
    Lacks (record { read = read; ended = ended; written = written ++ []; reads = reads; at_end = at_end; writes = Appends-trans taken since now written [] writes appends })
    (front_of_all commands stands ended read written text [] status all (text, refl))
puts_out commands stands first after taken since now faults later sink_faults sink_later ended read written text status whole s is reads at_end writes all (All appends) =
    all_out commands stands first after taken now faults later sink_faults sink_later
    (record { read = read; ended = ended; written = written ++ text; reads = reads; at_end = at_end; writes = Appends-trans taken since now written text writes appends }) status whole is all

-- ---- what was read

reads_of : (first after : Option (List ℕ)) (all : List ℕ) → Gives first after [] all → Consumes first after all
reads_of first after all g = subst (Consumes first after) g.all_are g.consumes

never_ended : (after : Option (List ℕ)) → IsTrue false → IsAtEnd after
never_ended after is = absurd (never is)
  where
    never : false ≡ true → ⊥
    never e = absurd cc

-- ---- the source ends

ends_there : {D : Type 0} (commands : Header → List (Form Command)) (stands : D → Setting → Trace → Type 0) (h : Header) (first left taken now : Option (List ℕ)) (r : ReaderState) (p : PlayState D)
    (x : Running commands stands h first left taken now r p)
    → ReplayOf (λ q header xs. MadeRun stands q header xs) (played_language commands) (x.consumed ++ []) (x.written ++ as_bytes (end_line p.counts ∷ [])) 0
ends_there commands stands h first left taken now r p x =
    whole_at commands stands h (x.consumed ++ []) x.world p.counts [] x.written (x.written ++ as_bytes (end_line p.counts ∷ [])) At_end (x.leads [] (λ e. refl))
    ((ends_finish (EachStood stands)).ends (played_language commands) x.world p.counts x.written (each_stood commands stands p.kept p.hosts x.world x.plays.stands_for) x.plays.unasked)

pub ended_out : {D : Type 0} (commands : Header → List (Form Command)) (stands : D → Setting → Trace → Type 0) (h : Header) (first before after taken since now : Option (List ℕ))
    (faults later sink_faults sink_later : ℕ) (r n : ReaderState) (p : PlayState D) (s : Played) → Running commands stands h first before taken since r p → ReadsEnd before after r n → EndStands after n
    → Puts since now sink_faults sink_later (as_bytes (end_line p.counts ∷ [])) Done s → Replays commands stands first after taken now faults later sink_faults sink_later s
ended_out commands stands h first before after taken since now faults later sink_faults sink_later r n p s x e ends puts =
    puts_out commands stands first after taken since now faults later sink_faults sink_later true (x.consumed ++ []) x.written (as_bytes (end_line p.counts ∷ [])) 0 Done s (refl, refl)
    (reads_of first after (x.consumed ++ []) (gives_then first before after [] x.consumed r.left [] x.gives e.gives)) (λ is. ends.at_end e.ended) x.writes
    (λ source may. subst (λ b. ReplayOf (λ q header xs. MadeRun stands q header xs) (played_language commands) b (x.written ++ as_bytes (end_line p.counts ∷ [])) 0) (sym may)
    (ends_there commands stands h first before taken since r p x)) puts

-- ---- a line is refused before it is read

pub refused_out : {D : Type 0} (commands : Header → List (Form Command)) (stands : D → Setting → Trace → Type 0) (h : Header) (first before after taken since now : Option (List ℕ))
    (faults later sink_faults sink_later : ℕ) (r n : ReaderState) (p : PlayState D) (number : ℕ) (why : Refusal) (s : Played) → Running commands stands h first before taken since r p
    → ReadsRefused before after r n why → number ≡ n.number + 1 → Puts since now sink_faults sink_later (as_bytes (refusal_line number why ∷ [])) Refused s
    → Replays commands stands first after taken now faults later sink_faults sink_later s
refused_out commands stands h first before after taken since now faults later sink_faults sink_later r n p number why s x e is puts =
    puts_out commands stands first after taken since now faults later sink_faults sink_later false (x.consumed ++ e.bytes) x.written (as_bytes (refusal_line number why ∷ [])) 1 Refused s refl
    (reads_of first after (x.consumed ++ e.bytes) (gives_then first before after [] x.consumed r.left e.bytes x.gives e.gives)) (never_ended after) x.writes all puts
  where
    all : ReportsAll commands stands false (x.consumed ++ e.bytes) (x.written ++ as_bytes (refusal_line number why ∷ [])) 1
    all source may =
        let rest : List ℕ = may.0 in
        let f = e.refuses.first rest (r.number + 1) in
        let l : NumberedLine = e.refuses.line rest (r.number + 1) in
        let numbers : l.number ≡ number = e.refuses.numbered rest (r.number + 1) ∙ ap (λ k. k + 1) (sym e.same) ∙ sym is in
        let total : length (x.consumed ++ (e.bytes ++ rest)) ≡ r.behind + length (e.bytes ++ rest) = total_at x.consumed (e.bytes ++ rest) r.behind x.has_read.behind in
        let lines : lines_left x.consumed (e.bytes ++ rest) r ≡ l ∷ f.others = ap (λ t. numbered_from t r.behind (r.number + 1) (lines_of (e.bytes ++ rest))) total ∙ f.lines in
        let events : event_lines_of (played_language commands) h (lines_left x.consumed (e.bytes ++ rest) r) ≡ (number, Err why) ∷ event_lines_of (played_language commands) h f.others =
        ap (event_lines_of (played_language commands) h) lines ∙ events_first (played_language commands) h l f.others
        ∙ ap (λ o. option_to_list o ++ event_lines_of (played_language commands) h f.others) (refused_line (line_refusal l) why l.number _ (e.refuses.refused rest (r.number + 1)))
        ∙ ap (λ k. (k, Err why) ∷ event_lines_of (played_language commands) h f.others) numbers in
        subst (λ b. ReplayOf (λ q header xs. MadeRun stands q header xs) (played_language commands) b (x.written ++ as_bytes (refusal_line number why ∷ [])) 1)
        (sym (may.1 ∙ append_assoc x.consumed e.bytes rest))
        (whole_at commands stands h (x.consumed ++ (e.bytes ++ rest)) x.world p.counts (lines_left x.consumed (e.bytes ++ rest) r) x.written (x.written ++ as_bytes (refusal_line number why ∷ []))
        (At_line number why) (x.leads (e.bytes ++ rest) (open_follows r.ended (e.bytes ++ rest) e.began))
        (subst (λ ls. Finishes (EachStood stands) (played_language commands) x.world p.counts ls x.written (x.written ++ as_bytes (refusal_line number why ∷ [])) (At_line number why)) (sym events)
        ((ends_finish (EachStood stands)).misread (played_language commands) x.world p.counts number why (event_lines_of (played_language commands) h f.others) x.written
        (each_stood commands stands p.kept p.hosts x.world x.plays.stands_for) x.plays.unasked)))

-- ---- a line is read

-- The events from there on: that of the line, and those behind it.
events_next : (lang : Language) (before after : Option (List ℕ)) (h : Header) (consumed : List ℕ) (r n : ReaderState) → HasRead consumed r → (l : ReadsLine before after r n) → (rest : List ℕ)
    → MayFollow n.ended rest → event_lines_of lang h (lines_left consumed (l.taken ++ rest) r) ≡ option_to_list (event_line lang h (line_of n)) ++ event_lines_of lang h (lines_left (consumed ++ l.taken) rest n)
events_next lang before after h consumed r n has l rest follows =
    ap (event_lines_of lang h) (next_line before after consumed r n has.behind l rest follows) ∙ events_first lang h (line_of n) (lines_left (consumed ++ l.taken) rest n)

gives_line : {D : Type 0} (commands : Header → List (Form Command)) (stands : D → Setting → Trace → Type 0) (h : Header) (first before after taken since : Option (List ℕ)) (r n : ReaderState)
    (p : PlayState D) (x : Running commands stands h first before taken since r p) (l : ReadsLine before after r n) → Gives first after [] ((x.consumed ++ l.taken) ++ n.left)
gives_line commands stands h first before after taken since r n p x l =
    gives_so first after [] (x.consumed ++ (l.taken ++ n.left)) ((x.consumed ++ l.taken) ++ n.left) (gives_then first before after [] x.consumed r.left (l.taken ++ n.left) x.gives l.gives)
    (sym (append_assoc x.consumed l.taken n.left))

-- What follows what is left of a piece.
left_follows : (after : Option (List ℕ)) (n : ReaderState) (rest : List ℕ) → EndStands after n → MayFollow n.ended rest → MayFollow n.ended (n.left ++ rest)
left_follows after n rest ends follows = λ is. ap (λ b. b ++ rest) (ends.none is) ∙ follows is

pub stopped_out : {D : Type 0} (commands : Header → List (Form Command)) (stands : D → Setting → Trace → Type 0) (h : Header) (first before after taken since now : Option (List ℕ))
    (faults later sink_faults sink_later : ℕ) (r n : ReaderState) (p q : PlayState D) (text : List ℕ) (why : Refusal) (s : Played) → Running commands stands h first before taken since r p
    → ReadsLine before after r n → EndStands after n
    → ((w : World) → PlaysOn commands stands p w → StopsAt stands w p (option_to_list (event_line whole_language p.kept.header (line_of n))) n.number [] q text why)
    → Puts since now sink_faults sink_later (as_bytes (refusal_line n.number why ∷ [])) Refused s → Replays commands stands first after taken now faults later sink_faults sink_later s
stopped_out commands stands h first before after taken since now faults later sink_faults sink_later r n p q text why s x l ends stops puts =
    puts_out commands stands first after taken since now faults later sink_faults sink_later n.ended ((x.consumed ++ l.taken) ++ n.left) x.written (as_bytes (refusal_line n.number why ∷ [])) 1 Refused s refl
    (reads_of first after ((x.consumed ++ l.taken) ++ n.left) (gives_line commands stands h first before after taken since r n p x l)) ends.at_end x.writes all puts
  where
    all : ReportsAll commands stands n.ended ((x.consumed ++ l.taken) ++ n.left) (x.written ++ as_bytes (refusal_line n.number why ∷ [])) 1
    all source may =
        let b = been n.ended ((x.consumed ++ l.taken) ++ n.left) source may in
        let rest : List ℕ = n.left ++ b.0 in
        let follows = left_follows after n b.0 ends b.2 in
        let there : source ≡ x.consumed ++ (l.taken ++ rest) = b.1 ∙ append_assoc (x.consumed ++ l.taken) n.left b.0 ∙ append_assoc x.consumed l.taken rest in
        let left : List EventLine = event_lines_of (played_language commands) h (lines_left (x.consumed ++ l.taken) rest n) in
        let events : event_lines_of (played_language commands) h (lines_left x.consumed (l.taken ++ rest) r) ≡ option_to_list (event_line whole_language p.kept.header (line_of n)) ++ left =
        events_next (played_language commands) before after h x.consumed r n x.has_read l rest follows
        ∙ ap (λ k. option_to_list (event_line whole_language k (line_of n)) ++ left) (sym x.header) in
        subst (λ c. ReplayOf (λ m header xs. MadeRun stands m header xs) (played_language commands) c (x.written ++ as_bytes (refusal_line n.number why ∷ [])) 1) (sym there)
        (whole_at commands stands h (x.consumed ++ (l.taken ++ rest)) x.world p.counts (lines_left x.consumed (l.taken ++ rest) r) x.written (x.written ++ as_bytes (refusal_line n.number why ∷ []))
        (At_line n.number why) (x.leads (l.taken ++ rest) (open_follows r.ended (l.taken ++ rest) l.began))
        (subst (λ ls. Finishes (EachStood stands) (played_language commands) x.world p.counts ls x.written (x.written ++ as_bytes (refusal_line n.number why ∷ [])) (At_line n.number why)) (sym events)
        (shift_finish (EachStood stands) (played_language commands) x.world p.counts (option_to_list (event_line whole_language p.kept.header (line_of n)) ++ left)
        (as_bytes (refusal_line n.number why ∷ [])) (At_line n.number why) ((stops x.world x.plays).finishes (played_language commands) left) x.written)))

-- Its event has come to pass, with the asks behind it.
leads_on : {D : Type 0} (commands : Header → List (Form Command)) (stands : D → Setting → Trace → Type 0) (h : Header) (first before after taken since : Option (List ℕ)) (r n : ReaderState)
    (p q : PlayState D) (text : List ℕ) (x : Running commands stands h first before taken since r p) (l : ReadsLine before after r n)
    (g : GoesOn commands stands x.world p (option_to_list (event_line whole_language p.kept.header (line_of n))) [] q text) (rest : List ℕ) → MayFollow n.ended rest
    → LeadsFrom commands stands h ((x.consumed ++ l.taken) ++ rest) g.world q.counts (lines_left (x.consumed ++ l.taken) rest n) (x.written ++ text)
leads_on commands stands h first before after taken since r n p q text x l g rest follows =
    let lang : Language = played_language commands in
    let from = x.leads (l.taken ++ rest) (open_follows r.ended (l.taken ++ rest) l.began) in
    let left : List EventLine = event_lines_of lang h (lines_left (x.consumed ++ l.taken) rest n) in
    let here : List EventLine = option_to_list (event_line whole_language p.kept.header (line_of n)) ++ left in
    let events : event_lines_of lang h (lines_left x.consumed (l.taken ++ rest) r) ≡ here =
    events_next lang before after h x.consumed r n x.has_read l rest follows ∙ ap (λ k. option_to_list (event_line whole_language k (line_of n)) ++ left) (sym x.header) in
    subst (λ c. LeadsFrom commands stands h c g.world q.counts (lines_left (x.consumed ++ l.taken) rest n) (x.written ++ text)) (sym (append_assoc x.consumed l.taken rest))
    (record {
      behind = from.behind;
      header = from.header;
      leads = leading_is_chained (EachStood stands) lang (world_with (program_of commands) h) x.world g.world no_counts p.counts q.counts (event_lines_of lang h from.behind) here left [] x.written
          (x.written ++ text)
          (subst (λ ls. LeadsBack (EachStood stands) lang (world_with (program_of commands) h) no_counts (event_lines_of lang h from.behind) [] x.world p.counts ls x.written) events from.leads)
          (shift (EachStood stands) lang x.world g.world p.counts q.counts here left text (g.leads lang left) x.written);
    })

pub taken_on : {D : Type 0} (commands : Header → List (Form Command)) (stands : D → Setting → Trace → Type 0) (h : Header) (first before after taken since now : Option (List ℕ)) (r n : ReaderState)
    (p q : PlayState D) (text : List ℕ) → Running commands stands h first before taken since r p → ReadsLine before after r n
    → ((w : World) → PlaysOn commands stands p w → GoesOn commands stands w p (option_to_list (event_line whole_language p.kept.header (line_of n))) [] q text) → Appends since now text
    → Running commands stands h first after taken now n q
taken_on commands stands h first before after taken since now r n p q text x l goes appends =
    let g = goes x.world x.plays in
    record {
      consumed = x.consumed ++ l.taken;
      written = x.written ++ text;
      gives = gives_line commands stands h first before after taken since r n p x l;
      has_read = has_read_more before after x.consumed r n x.has_read l;
      writes = Appends-trans taken since now x.written text x.writes appends;
      world = g.world;
      plays = g.plays;
      header = g.header ∙ x.header;
      leads = leads_on commands stands h first before after taken since r n p q text x l g;
    }

-- A write failed in its report.
pub chokes_there : {D : Type 0} (commands : Header → List (Form Command)) (stands : D → Setting → Trace → Type 0) (h : Header) (first before after taken since now : Option (List ℕ))
    (faults later sink_faults sink_later : ℕ) (r n : ReaderState) (p q : PlayState D) (text front : List ℕ) → Running commands stands h first before taken since r p → ReadsLine before after r n
    → EndStands after n → ((w : World) → PlaysOn commands stands p w → GoesOn commands stands w p (option_to_list (event_line whole_language p.kept.header (line_of n))) [] q text)
    → Appends since now front → IsFrontOf front text → Rose sink_faults sink_later → Replays commands stands first after taken now faults later sink_faults sink_later WriteFault
chokes_there commands stands h first before after taken since now faults later sink_faults sink_later r n p q text front x l ends goes appends begins rose =
    Chokes (record {
      read = (x.consumed ++ l.taken) ++ n.left;
      ended = n.ended;
      written = x.written ++ front;
      reads = reads_of first after ((x.consumed ++ l.taken) ++ n.left) (gives_line commands stands h first before after taken since r n p x l);
      at_end = ends.at_end;
      writes = Appends-trans taken since now x.written front x.writes appends;
    }) rose fronts
  where
    fronts : ReportsFront commands stands n.ended ((x.consumed ++ l.taken) ++ n.left) (x.written ++ front)
    fronts source may =
        let g = goes x.world x.plays in
        let b = been n.ended ((x.consumed ++ l.taken) ++ n.left) source may in
        let rest : List ℕ = n.left ++ b.0 in
        let there : source ≡ (x.consumed ++ l.taken) ++ rest = b.1 ∙ append_assoc (x.consumed ++ l.taken) n.left b.0 in
        let from = leads_on commands stands h first before after taken since r n p q text x l g rest (left_follows after n b.0 ends b.2) in
        subst (λ c. FrontOf (λ m header xs. MadeRun stands m header xs) (played_language commands) c (x.written ++ front)) (sym there)
        (front_at commands stands h ((x.consumed ++ l.taken) ++ rest) g.world q.counts (lines_left (x.consumed ++ l.taken) rest n) (x.written ++ text) (x.written ++ front) from
        ((ends_finish (EachStood stands)).breaks g.world (event_lines_of (played_language commands) h (lines_left (x.consumed ++ l.taken) rest n)) (x.written ++ text) (x.written ++ front)
        (each_stood commands stands q.kept q.hosts g.world g.plays.stands_for)
        (begins.0, ap (λ c. x.written ++ c) begins.1 ∙ sym (append_assoc x.written front begins.0))))

-- ---- it is broken off

-- What is written so far begins the report, whatever more was read.
front_here : {D : Type 0} (commands : Header → List (Form Command)) (stands : D → Setting → Trace → Type 0) (h : Header) (first left taken now : Option (List ℕ)) (r : ReaderState) (p : PlayState D)
    (x : Running commands stands h first left taken now r p) (bytes : List ℕ) → r.ended ≡ false → ReportsFront commands stands false (x.consumed ++ bytes) x.written
front_here commands stands h first left taken now r p x bytes began source may =
    let rest : List ℕ = bytes ++ may.0 in
    subst (λ c. FrontOf (λ m header xs. MadeRun stands m header xs) (played_language commands) c x.written) (sym (may.1 ∙ append_assoc x.consumed bytes may.0))
    (front_at commands stands h (x.consumed ++ rest) x.world p.counts (lines_left x.consumed rest r) x.written x.written (x.leads rest (open_follows r.ended rest began))
    ((ends_finish (EachStood stands)).breaks x.world (event_lines_of (played_language commands) h (lines_left x.consumed rest r)) x.written x.written
    (each_stood commands stands p.kept p.hosts x.world x.plays.stands_for) ([], sym (append-nil x.written))))

abbrev moved_here : {D : Type 0} (commands : Header → List (Form Command)) (stands : D → Setting → Trace → Type 0) (h : Header) (first before after taken now : Option (List ℕ)) (r : ReaderState) (p : PlayState D)
    (x : Running commands stands h first before taken now r p) (bytes : List ℕ) → Gives before after r.left bytes → Moved first after taken now
moved_here commands stands h first before after taken now r p x bytes g =
    record {
      read = x.consumed ++ bytes;
      ended = false;
      written = x.written;
      reads = reads_of first after (x.consumed ++ bytes) (gives_then first before after [] x.consumed r.left bytes x.gives g);
      at_end = never_ended after;
      writes = x.writes;
    }

pub lacks_there : {D : Type 0} (commands : Header → List (Form Command)) (stands : D → Setting → Trace → Type 0) (h : Header) (first before after taken now : Option (List ℕ))
    (faults later sink_faults sink_later : ℕ) (r : ReaderState) (p : PlayState D) → Running commands stands h first before taken now r p → IsCutOff before after r
    → Replays commands stands first after taken now faults later sink_faults sink_later NoMemory
lacks_there commands stands h first before after taken now faults later sink_faults sink_later r p x c =
    Lacks (moved_here commands stands h first before after taken now r p x c.bytes c.gives) (front_here commands stands h first before taken now r p x c.bytes c.began)

pub line_cut : (before after : Option (List ℕ)) (r n : ReaderState) → ReadsLine before after r n → IsCutOff before after r
line_cut before after r n l = record { began = l.began; bytes = l.taken ++ n.left; gives = l.gives }

pub breaks_out : {D : Type 0} (commands : Header → List (Form Command)) (stands : D → Setting → Trace → Type 0) (h : Header) (first before after taken now : Option (List ℕ))
    (faults later sink_faults sink_later : ℕ) (r : ReaderState) (p : PlayState D) → Running commands stands h first before taken now r p → Fails before after r → Rose faults later
    → Replays commands stands first after taken now faults later sink_faults sink_later ReadFault
breaks_out commands stands h first before after taken now faults later sink_faults sink_later r p x f rose =
    Breaks (moved_here commands stands h first before after taken now r p x f.bytes f.gives) rose
    (record {
      complete = x.consumed;
      partial = f.bytes;
      cut = refl;
      whole = x.has_read.whole f.open_still;
      free = f.free;
      report = Of_events p.counts
          (subst (λ c. ReplayOf (λ m header xs. MadeRun stands m header xs) (played_language commands) c (x.written ++ as_bytes (end_line p.counts ∷ [])) 0) (append-nil x.consumed)
          (ends_there commands stands h first before taken now r p x));
    })
    (front_here commands stands h first before taken now r p x f.bytes f.open_still)

-- ---- the header

pub started : {D : Type 0} (commands : Header → List (Form Command)) (stands : D → Setting → Trace → Type 0) (h : Header) (first left taken : Option (List ℕ)) (r : ReaderState) (p : PlayState D)
    → HeaderBegins first left r h → Begins commands stands h p → Running commands stands h first left taken taken r p
started commands stands h first left taken r p b begins =
    record {
      consumed = b.consumed;
      written = [];
      gives = b.gives;
      has_read = b.has_read;
      writes = Appends-nil taken;
      world = world_with (program_of commands) h;
      plays = begins.plays;
      header = begins.header;
      leads = λ rest follows. record {
        behind = lines_left b.consumed rest r;
        header = read_same (program_of commands) (numbered_lines (b.consumed ++ rest)) [] 1 ∙ b.reads rest follows;
        leads = subst (λ k. LeadsBack (EachStood stands) (played_language commands) (world_with (program_of commands) h) no_counts
            (event_lines_of (played_language commands) h (lines_left b.consumed rest r)) [] (world_with (program_of commands) h) k
            (event_lines_of (played_language commands) h (lines_left b.consumed rest r)) []) (sym begins.counts)
            (record { finishes = λ total end f. f; breaks = λ total f. f });
      };
    }

-- A header that was read is a good one.
pub good_header : (commands : Header → List (Form Command)) (h : Header) (first left : Option (List ℕ)) (r : ReaderState) → MayPlay commands → HeaderBegins first left r h → IsHeader h
good_header commands h first left r may b =
    may.headers (b.consumed ++ []) h (lines_left b.consumed [] r) (read_same (program_of commands) (numbered_lines (b.consumed ++ [])) [] 1 ∙ b.reads [] (λ e. refl))

pub header_out : {D : Type 0} (commands : Header → List (Form Command)) (stands : D → Setting → Trace → Type 0) (first after taken now : Option (List ℕ)) (faults later sink_faults sink_later : ℕ)
    (n : ReaderState) (number : ℕ) (why : Refusal) (s : Played) → HeaderStops first after n number why → EndStands after n
    → Puts taken now sink_faults sink_later (as_bytes (refusal_line number why ∷ [])) Refused s → Replays commands stands first after taken now faults later sink_faults sink_later s
header_out commands stands first after taken now faults later sink_faults sink_later n number why s b ends puts =
    puts_out commands stands first after taken taken now faults later sink_faults sink_later n.ended b.bytes [] (as_bytes (refusal_line number why ∷ [])) 1 Refused s refl
    (reads_of first after b.bytes b.gives) ends.at_end (Appends-nil taken) all puts
  where
    all : ReportsAll commands stands n.ended b.bytes (as_bytes (refusal_line number why ∷ [])) 1
    all source may =
        let c = been n.ended b.bytes source may in
        In_header number why (ap (λ x. read_header (played_language commands) [] 1 (numbered_lines x)) c.1 ∙ read_same (program_of commands) (numbered_lines (b.bytes ++ c.0)) [] 1 ∙ b.reads c.0 c.2) refl

abbrev nothing_moved : (first after taken : Option (List ℕ)) (all : List ℕ) → Gives first after [] all → Moved first after taken taken
nothing_moved first after taken all g =
    record { read = all; ended = false; written = []; reads = reads_of first after all g; at_end = never_ended after; writes = Appends-nil taken }

pub header_breaks : {D : Type 0} (commands : Header → List (Form Command)) (stands : D → Setting → Trace → Type 0) (first after taken : Option (List ℕ)) (faults later sink_faults sink_later : ℕ)
    → HeaderBreaks first after → Rose faults later → Replays commands stands first after taken taken faults later sink_faults sink_later ReadFault
header_breaks commands stands first after taken faults later sink_faults sink_later b rose =
    Breaks (nothing_moved first after taken (b.complete ++ b.partial) b.gives) rose
    (record { complete = b.complete; partial = b.partial; cut = refl; whole = b.whole; free = b.free; report = Of_header b.ls b.reader b.goes refl }) (λ source may. Of_nothing refl)

pub header_lacks : {D : Type 0} (commands : Header → List (Form Command)) (stands : D → Setting → Trace → Type 0) (first after taken : Option (List ℕ)) (faults later sink_faults sink_later : ℕ)
    → ((all : List ℕ) × Gives first after [] all) → Replays commands stands first after taken taken faults later sink_faults sink_later NoMemory
header_lacks commands stands first after taken faults later sink_faults sink_later g = Lacks (nothing_moved first after taken g.0 g.1) (λ source may. Of_nothing refl)

-- ---- faults

pub rose_later : (a b c : ℕ) → a ≤ b → Rose b c → Rose a c
rose_later a b c h rose = omega (arith, h, rose)

-- Faults are counted from an earlier moment on.
pub replays_later : {D : Type 0} (commands : Header → List (Form Command)) (stands : D → Setting → Trace → Type 0) (first after taken now : Option (List ℕ)) (f g later j k sink_later : ℕ) (s : Played)
    → f ≤ g → j ≤ k → Replays commands stands first after taken now g later k sink_later s → Replays commands stands first after taken now f later j sink_later s
replays_later commands stands first after taken now f g later j k sink_later Done h i (Ends x ended all) = Ends x ended all
replays_later commands stands first after taken now f g later j k sink_later Refused h i (Stops x all) = Stops x all
replays_later commands stands first after taken now f g later j k sink_later ReadFault h i (Breaks x rose complete front) = Breaks x (rose_later f g later h rose) complete front
replays_later commands stands first after taken now f g later j k sink_later WriteFault h i (Chokes x rose front) = Chokes x (rose_later j k sink_later i rose) front
replays_later commands stands first after taken now f g later j k sink_later NoMemory h i (Lacks x front) = Lacks x front

-- ---- a text that is put out

on_ok : {A E : Type 0} (r : Result A E) (x : A) (P : Type 0) → r ≡ Ok x → OnOk r P → P
on_ok (Ok y) x P is p = p
on_ok (Err e) x P is p = absurd cc

pub put_all : {A E : Type 0} (pushed : Result A E) (u : A) (a b : Option (List ℕ)) (f g : ℕ) (text all : List ℕ) (whole : Played) → pushed ≡ Ok u → OnOk pushed (text ≡ all) → Appends a b text
    → Puts a b f g all whole whole
put_all pushed u a b f g text all whole is told appends = All (subst (Appends a b) (on_ok pushed u (text ≡ all) is told) appends)

pub front_of : (text all : List ℕ) (n : ℕ) → text ≡ all → IsFrontOf (take n text) all
front_of text all n is = (drop n text, sym is ∙ sym (take-append-drop n text))

pub put_part : {A E : Type 0} (pushed : Result A E) (u : A) (a b : Option (List ℕ)) (f g : ℕ) (text all : List ℕ) (whole : Played) → pushed ≡ Ok u → OnOk pushed (text ≡ all)
    → ((n : ℕ) × (n ≤ length text) × Appends a b (take n text)) → Rose f g → Puts a b f g all whole WriteFault
put_part pushed u a b f g text all whole is told front rose =
    Part (take front.0 text) front.2 (front_of text all front.0 (on_ok pushed u (text ≡ all) is told)) rose

pub put_none : (a : Option (List ℕ)) (f g : ℕ) (all : List ℕ) (whole : Played) → Puts a a f g all whole NoMemory
put_none a f g all whole = Nothing (Appends-nil a)

pub on_err : {A E : Type 0} (r : Result A E) (e : E) (P : Type 0) → r ≡ Err e → OnErr r P → P
on_err (Ok x) e P is p = absurd cc
on_err (Err f) e P is p = p

-- ---- what a line's play answers

-- The line and the text before it told otherwise.
pub takes_so : {D : Type 0} (commands : Header → List (Form Command)) (stands : D → Setting → Trace → Type 0) (p q : PlayState D) (l m : NumberedLine) (out now : List ℕ) (o why : Option Refusal)
    → l ≡ m → out ≡ [] → o ≡ why
    → ((w : World) → PlaysOn commands stands p w → TakesLines commands stands w p (option_to_list (event_line whole_language p.kept.header l)) l.number out q now o)
    → (w : World) → PlaysOn commands stands p w → TakesLines commands stands w p (option_to_list (event_line whole_language p.kept.header m)) m.number [] q now why
takes_so commands stands p q l m out now o why same none is t w s =
    subst (λ (x : NumberedLine). TakesLines commands stands w p (option_to_list (event_line whole_language p.kept.header x)) x.number [] q now why) same
    (subst (λ b. TakesLines commands stands w p (option_to_list (event_line whole_language p.kept.header l)) l.number b q now why) none
    (subst (TakesLines commands stands w p (option_to_list (event_line whole_language p.kept.header l)) l.number out q now) is (t w s)))

-- So the play stands for a world again.
pub plays_then : {D : Type 0} (commands : Header → List (Form Command)) (stands : D → Setting → Trace → Type 0) (p q : PlayState D) (l : NumberedLine) (text : List ℕ) → IsPlaying commands stands p
    → ((w : World) → PlaysOn commands stands p w → GoesOn commands stands w p (option_to_list (event_line whole_language p.kept.header l)) [] q text) → IsPlaying commands stands q
plays_then commands stands p q l text s goes = let g = goes s.world s.plays in record { world = g.world; plays = g.plays }

pub puts_end : (a b : Option (List ℕ)) (f g : ℕ) (k n : Counts) (s : Played) → k ≡ n → Puts a b f g (as_bytes (end_line k ∷ [])) Done s → Puts a b f g (as_bytes (end_line n ∷ [])) Done s
puts_end a b f g k n s is puts = subst (λ (m : Counts). Puts a b f g (as_bytes (end_line m ∷ [])) Done s) is puts

pub puts_refusal : (a b : Option (List ℕ)) (f g k n : ℕ) (why : Refusal) (s : Played) → k ≡ n → Puts a b f g (as_bytes (refusal_line k why ∷ [])) Refused s
    → Puts a b f g (as_bytes (refusal_line n why ∷ [])) Refused s
puts_refusal a b f g k n why s is puts = subst (λ m. Puts a b f g (as_bytes (refusal_line m why ∷ [])) Refused s) is puts

-- Nothing was read.
pub nothing_read : (left : Option (List ℕ)) → (all : List ℕ) × Gives left left [] all
nothing_read left = ([], record { more = []; consumes = Consumes-nil left; all_are = refl })
