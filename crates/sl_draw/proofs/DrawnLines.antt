-- Lines that are read, played and drawn one after another.
use Rattle.sl_draw.specs.Captions.{IsCaption, comments_of}
use Rattle.sl_draw.specs.Drawings.{AreTold, Ends, IsLast, IsTold, PictureOf, In_events, In_header, Step, Stops, drawn, lines_of_steps, told_of_steps}
use Rattle.sl_draw.specs.Draws.{Drawing, DrawsAll}
use Rattle.sl_picture.specs.Kept.{Kept, first_kept}
use Rattle.sl_picture.specs.Page.{picture_of}
use Rattle.sl_picture.specs.Tells.{taken}
use Rattle.sl_picture.specs.declared.kept.Part.{Part}
use Rattle.sl_play.proofs.EndsFinish.{ends_finish, leading_is_chained}
use Rattle.sl_play.proofs.LinesPlayed.{read_same}
use Rattle.sl_play.proofs.PlayIsOwed.{play_is_owed}
use Rattle.sl_play.proofs.ReportsShift.{shift, shift_finish}
use Rattle.sl_play.specs.PlayIsOwed.{EachStood}
use Rattle.sl_play.specs.Plays.{Begins, GoesOn, PlayState, PlaysOn, StopsAt}
use Rattle.sl_play.specs.Replays.{LeadsFrom, Running, played_language}
use Rattle.sl_play.specs.RunEndings.{Finishes, LeadsBack}
use Rattle.sl_reader.proofs.HeaderSteps.{gives_so, gives_then, has_read_more, next_line, open_follows}
use Rattle.sl_reader.specs.HeaderBegins.{HasRead, HeaderBegins, HeaderStops, lines_left}
use Rattle.sl_reader.specs.LineReads.{EndStands, Gives, MayFollow, ReaderState, ReadsLine, ReadsRefused, line_of}
use Rattle.sl_report.specs.Languages.{Language, whole_language}
use Rattle.sl_report.specs.OwedReports.{IsFrontOf, MayHaveBeen, Promise, ReplayOf}
use Rattle.sl_report.specs.RefusalLines.{refusal_line}
use Rattle.sl_report.specs.Reports.{Counts, end_line, no_counts}
use Rattle.sl_report.specs.Schedules.{At_end, At_line, Ending, EventLine, Header_read, NumberedLine, event_line, event_lines_of, line_refusal, numbered_from, numbered_lines, read_header, status_of}
use Rattle.sl_run.specs.Worlds.{World, world_with}
use Rattle.sl_run.specs.declared.event.Refusal.{Refusal}
use Rattle.sl_run.specs.declared.header.Header.{Header}
use Rattle.sl_sound.specs.MadeRuns.{MadeRun}
use Rattle.sl_text.specs.Forms.{Form, as_bytes, lines_of}
use Rattle.sl_trace.specs.Traces.{Setting, Trace}
use Rattle.sl_trace.specs.declared.command.Command.{Command}
use Rattle.sl_world_law.proofs.FirstStanding.{each_stood}
use Rattle.sl_world_state.specs.Daemons.{program_of}
use Rattle.std.proofs.Common.{Bool, List, None, Option, Some, [], ap, false, length, length-append, refl, subst, sym, true, ℕ, ◌++◌, ◌+◌, ◌∙◌, ◌∷◌, ◌≡◌}
use Rattle.std.proofs.KnownBytes.{Appends-nil, Appends-trans}
use Rattle.std.proofs.lemmas.List.{append-nil, append_assoc}
use Rattle.std.specs.Io.KnownBytes.{Appends}
use Rattle.std.specs.List.{cons_option}
use Rattle.std.specs.Option.{option_to_list}
use Rattle.std.specs.Prelude.{Err}

-- ---- events of lines

cons_list : {A : Type 0} (o : Option A) (xs : List A) → cons_option o xs ≡ option_to_list o ++ xs
cons_list None xs = refl
cons_list (Some x) xs = refl

events_first : (lang : Language) (h : Header) (l : NumberedLine) (ls : List NumberedLine) → event_lines_of lang h (l ∷ ls) ≡ option_to_list (event_line lang h l) ++ event_lines_of lang h ls
events_first lang h l ls = cons_list (event_line lang h l) (event_lines_of lang h ls)

abbrev unread : Option Refusal → ℕ → Option EventLine → Option EventLine
unread o number other = elim o [ Some r ↦ Some (number, Err r) | None ↦ other ]

refused_line : (o : Option Refusal) (why : Refusal) (number : ℕ) (other : Option EventLine) → o ≡ Some why → unread o number other ≡ Some (number, Err why)
refused_line o why number other is = ap (λ p. unread p number other) is

total_at : (consumed rest : List ℕ) (behind : ℕ) → behind ≡ length consumed → length (consumed ++ rest) ≡ behind + length rest
total_at consumed rest behind is = length-append consumed rest ∙ ap (λ b. b + length rest) (sym is)

-- A source that may have been goes on with what may follow.
been : (ended : Bool) (read source : List ℕ) → MayHaveBeen ended read source → (rest : List ℕ) × (source ≡ read ++ rest) × MayFollow ended rest
been true read source is = ([], is ∙ sym (append-nil read), λ e. refl)
been false read source is = (is.0, is.1, λ e. absurd (never e))
  where
    never : false ≡ true → ⊥
    never e = absurd cc

-- What follows what is left of a piece.
left_follows : (after : Option (List ℕ)) (n : ReaderState) (rest : List ℕ) → EndStands after n → MayFollow n.ended rest → MayFollow n.ended (n.left ++ rest)
left_follows after n rest ends follows = λ is. ap (λ b. b ++ rest) (ends.none is) ∙ follows is

module _ {D : Type 0} (commands : Header → List (Form Command)) (stands : D → Setting → Trace → Type 0) where
  abbrev lang : Language
  lang = played_language commands

  abbrev made : Promise
  made = λ q header xs. MadeRun stands q header xs

  whole_at : (h : Header) (source : List ℕ) (w : World) (k : Counts) (ls : List NumberedLine) (written total : List ℕ) (end : Ending) → LeadsFrom commands stands h source w k ls written
      → Finishes (EachStood stands) lang w k (event_lines_of lang h ls) written total end → ReplayOf made lang source total (status_of end)
  whole_at h source w k ls written total end l f = (play_is_owed stands).whole lang source h l.behind total end l.header (l.leads.finishes total end f)

  -- ---- what is told

  -- The report of what was read, if the source ended there.
  ends_there : (h : Header) (first left taken now : Option (List ℕ)) (r : ReaderState) (p : PlayState D) (x : Running commands stands h first left taken now r p)
      → ReplayOf made lang (x.consumed ++ []) (x.written ++ as_bytes (end_line p.counts ∷ [])) 0
  ends_there h first left taken now r p x =
      whole_at h (x.consumed ++ []) x.world p.counts [] x.written (x.written ++ as_bytes (end_line p.counts ∷ [])) At_end (x.leads [] (λ e. refl))
      ((ends_finish (EachStood stands)).ends lang x.world p.counts x.written (each_stood commands stands p.kept p.hosts x.world x.plays.stands_for) x.plays.unasked)

  -- So these steps are told.
  told_there : (h : Header) (first left : Option (List ℕ)) (r : ReaderState) (p : PlayState D) (steps : List Step) (x : Running commands stands h first left (Some []) (Some (told_of_steps steps)) r p)
      → ((rest : List ℕ) → MayFollow r.ended rest → read_header lang [] 1 (numbered_lines (x.consumed ++ rest)) ≡ Header_read h (lines_of_steps steps ++ lines_left x.consumed rest r))
      → IsTold made lang x.consumed h steps
  told_there h first left r p steps x lines =
      record {
        front = x.consumed ++ [];
        begins = ([], sym (append-nil (x.consumed ++ []) ∙ append-nil x.consumed));
        header = lines [] (λ e. refl) ∙ ap (λ ls. Header_read h ls) (append-nil (lines_of_steps steps));
        counts = p.counts;
        report = subst (λ b. ReplayOf made lang (x.consumed ++ []) (b ++ as_bytes (end_line p.counts ∷ [])) 0) (sym x.writes) (ends_there h first left (Some []) (Some (told_of_steps steps)) r p x);
      }

  front_grows : (front source more : List ℕ) → IsFrontOf front source → IsFrontOf front (source ++ more)
  front_grows front source more f = (f.0 ++ more, ap (λ b. b ++ more) f.1 ∙ append_assoc front f.0 more)

  one_grows : (source more : List ℕ) (h : Header) (steps : List Step) → IsTold made lang source h steps → IsTold made lang (source ++ more) h steps
  one_grows source more h steps t =
      record { front = t.front; begins = front_grows t.front source more t.begins; header = t.header; counts = t.counts; report = t.report }

  told_grow : (source more : List ℕ) (h : Header) (steps : List Step) → AreTold made lang source h steps → AreTold made lang (source ++ more) h steps
  told_grow source more h [] t = one_grows source more h [] t
  told_grow source more h (s ∷ ss) t = (one_grows source more h (s ∷ ss) t.0, told_grow source more h ss t.1)

  -- ---- what is read and played, in the open

  -- The events from there on: that of the line, and those behind it.
  events_next : (before after : Option (List ℕ)) (h : Header) (consumed : List ℕ) (r n : ReaderState) → HasRead consumed r → (l : ReadsLine before after r n) → (rest : List ℕ)
      → MayFollow n.ended rest → event_lines_of lang h (lines_left consumed (l.taken ++ rest) r) ≡ option_to_list (event_line lang h (line_of n)) ++ event_lines_of lang h (lines_left (consumed ++ l.taken) rest n)
  events_next before after h consumed r n has l rest follows =
      ap (event_lines_of lang h) (next_line before after consumed r n has.behind l rest follows) ∙ events_first lang h (line_of n) (lines_left (consumed ++ l.taken) rest n)

  gives_line : (h : Header) (first before after since : Option (List ℕ)) (r n : ReaderState) (p : PlayState D) (x : Running commands stands h first before (Some []) since r p) (l : ReadsLine before after r n)
      → Gives first after [] ((x.consumed ++ l.taken) ++ n.left)
  gives_line h first before after since r n p x l =
      gives_so first after [] (x.consumed ++ (l.taken ++ n.left)) ((x.consumed ++ l.taken) ++ n.left) (gives_then first before after [] x.consumed r.left (l.taken ++ n.left) x.gives l.gives)
      (sym (append_assoc x.consumed l.taken n.left))

  leads_on : (h : Header) (first before after since : Option (List ℕ)) (r n : ReaderState) (p q : PlayState D) (text : List ℕ) (x : Running commands stands h first before (Some []) since r p)
      (l : ReadsLine before after r n) (g : GoesOn commands stands x.world p (option_to_list (event_line whole_language p.kept.header (line_of n))) [] q text) (rest : List ℕ) → MayFollow n.ended rest
      → LeadsFrom commands stands h ((x.consumed ++ l.taken) ++ rest) g.world q.counts (lines_left (x.consumed ++ l.taken) rest n) (x.written ++ text)
  leads_on h first before after since r n p q text x l g rest follows =
      let from = x.leads (l.taken ++ rest) (open_follows r.ended (l.taken ++ rest) l.began) in
      let left : List EventLine = event_lines_of lang h (lines_left (x.consumed ++ l.taken) rest n) in
      let here : List EventLine = option_to_list (event_line whole_language p.kept.header (line_of n)) ++ left in
      let events : event_lines_of lang h (lines_left x.consumed (l.taken ++ rest) r) ≡ here =
      events_next before after h x.consumed r n x.has_read l rest follows ∙ ap (λ k. option_to_list (event_line whole_language k (line_of n)) ++ left) (sym x.header) in
      subst (λ c. LeadsFrom commands stands h c g.world q.counts (lines_left (x.consumed ++ l.taken) rest n) (x.written ++ text)) (sym (append_assoc x.consumed l.taken rest))
      (record {
        behind = from.behind;
        header = from.header;
        leads = leading_is_chained (EachStood stands) lang (world_with (program_of commands) h) x.world g.world no_counts p.counts q.counts (event_lines_of lang h from.behind) here left [] x.written
            (x.written ++ text)
            (subst (λ ls. LeadsBack (EachStood stands) lang (world_with (program_of commands) h) no_counts (event_lines_of lang h from.behind) [] x.world p.counts ls x.written) events from.leads)
            (shift (EachStood stands) lang x.world g.world p.counts q.counts here left text (g.leads lang left) x.written);
      })

  abbrev taken_on : (h : Header) (first before after since now : Option (List ℕ)) (r n : ReaderState) (p q : PlayState D) (text : List ℕ) → Running commands stands h first before (Some []) since r p
      → ReadsLine before after r n → ((w : World) → PlaysOn commands stands p w → GoesOn commands stands w p (option_to_list (event_line whole_language p.kept.header (line_of n))) [] q text)
      → Appends since now text → Running commands stands h first after (Some []) now n q
  taken_on h first before after since now r n p q text x l goes appends =
      let g = goes x.world x.plays in
      record {
        consumed = x.consumed ++ l.taken;
        written = x.written ++ text;
        gives = gives_line h first before after since r n p x l;
        has_read = has_read_more before after x.consumed r n x.has_read l;
        writes = Appends-trans (Some []) since now x.written text x.writes appends;
        world = g.world;
        plays = g.plays;
        header = g.header ∙ x.header;
        leads = leads_on h first before after since r n p q text x l g;
      }

  abbrev started : (h : Header) (first left : Option (List ℕ)) (r : ReaderState) (p : PlayState D) → HeaderBegins first left r h → Begins commands stands h p
      → Running commands stands h first left (Some []) (Some []) r p
  started h first left r p b begins =
      record {
        consumed = b.consumed;
        written = [];
        gives = b.gives;
        has_read = b.has_read;
        writes = Appends-nil (Some []);
        world = world_with (program_of commands) h;
        plays = begins.plays;
        header = begins.header;
        leads = λ rest follows. record {
          behind = lines_left b.consumed rest r;
          header = read_same (program_of commands) (numbered_lines (b.consumed ++ rest)) [] 1 ∙ b.reads rest follows;
          leads = subst (λ k. LeadsBack (EachStood stands) lang (world_with (program_of commands) h) no_counts (event_lines_of lang h (lines_left b.consumed rest r)) []
              (world_with (program_of commands) h) k (event_lines_of lang h (lines_left b.consumed rest r)) []) (sym begins.counts)
              (record { finishes = λ total end f. f; breaks = λ total f. f });
        };
      }

  -- ---- at first

  pub drawing_started : (part : Part) (h : Header) (first left : Option (List ℕ)) (r : ReaderState) (p : PlayState D) (caption : List (List ℕ)) (k : Kept)
      → (b : HeaderBegins first left r h) → IsCaption b.consumed r caption → Begins commands stands h p → k ≡ first_kept part h → Drawing commands stands part h first left r p caption k
  drawing_started part h first left r p caption k b c begins is =
      let x = started h first left r p b begins in
      let lines : (rest : List ℕ) → MayFollow r.ended rest → read_header lang [] 1 (numbered_lines (x.consumed ++ rest)) ≡ Header_read h (lines_of_steps [] ++ lines_left x.consumed rest r) =
      λ rest follows. read_same (program_of commands) (numbered_lines (b.consumed ++ rest)) [] 1 ∙ b.reads rest follows in
      record { above = c.above; steps = []; runs = x; comments = c.comments; kept = is; all_lines = c.lines; lines = lines; told = told_there h first left r p [] x lines }

  -- ---- a line

  -- The lines of a source in which this one was read.
  lines_with : (part : Part) (h : Header) (first before after : Option (List ℕ)) (r n : ReaderState) (p : PlayState D) (caption : List (List ℕ)) (k : Kept) (d : Drawing commands stands part h first before r p caption k)
      → (l : ReadsLine before after r n) → (rest : List ℕ) → MayFollow n.ended rest
      → read_header lang [] 1 (numbered_lines (d.runs.consumed ++ (l.taken ++ rest))) ≡ Header_read h (lines_of_steps d.steps ++ line_of n ∷ lines_left (d.runs.consumed ++ l.taken) rest n)
  lines_with part h first before after r n p caption k d l rest follows =
      d.lines (l.taken ++ rest) (open_follows r.ended (l.taken ++ rest) l.began)
      ∙ ap (λ ls. Header_read h (lines_of_steps d.steps ++ ls)) (next_line before after d.runs.consumed r n d.runs.has_read.behind l rest follows)

  -- .. with those of its header.
  all_with : (part : Part) (h : Header) (first before after : Option (List ℕ)) (r n : ReaderState) (p : PlayState D) (caption : List (List ℕ)) (k : Kept) (d : Drawing commands stands part h first before r p caption k)
      → (l : ReadsLine before after r n) → (rest : List ℕ) → MayFollow n.ended rest
      → numbered_lines (d.runs.consumed ++ (l.taken ++ rest)) ≡ d.above ++ (lines_of_steps d.steps ++ line_of n ∷ lines_left (d.runs.consumed ++ l.taken) rest n)
  all_with part h first before after r n p caption k d l rest follows =
      d.all_lines (l.taken ++ rest) (open_follows r.ended (l.taken ++ rest) l.began)
      ∙ ap (λ ls. d.above ++ (lines_of_steps d.steps ++ ls)) (next_line before after d.runs.consumed r n d.runs.has_read.behind l rest follows)

  -- It has been played and drawn.
  pub drawn_on : (part : Part) (h : Header) (first before after : Option (List ℕ)) (r n : ReaderState) (p q : PlayState D) (caption : List (List ℕ)) (k m : Kept) (text : List ℕ)
      → Drawing commands stands part h first before r p caption k → ReadsLine before after r n
      → ((w : World) → PlaysOn commands stands p w → GoesOn commands stands w p (option_to_list (event_line whole_language p.kept.header (line_of n))) [] q text)
      → m ≡ taken n.number n.line text k → Drawing commands stands part h first after n q caption m
  drawn_on part h first before after r n p q caption k m text d l goes is =
      let s : Step = record { line = line_of n; told = text } in
      let steps : List Step = s ∷ d.steps in
      let x = taken_on h first before after (Some (told_of_steps d.steps)) (Some (told_of_steps d.steps ++ text)) r n p q text d.runs l goes refl in
      let lines : (rest : List ℕ) → MayFollow n.ended rest → read_header lang [] 1 (numbered_lines (x.consumed ++ rest)) ≡ Header_read h (lines_of_steps steps ++ lines_left x.consumed rest n) =
      λ rest follows. ap (λ b. read_header lang [] 1 (numbered_lines b)) (append_assoc d.runs.consumed l.taken rest) ∙ lines_with part h first before after r n p caption k d l rest follows
      ∙ ap (λ ls. Header_read h ls) (sym (append_assoc (lines_of_steps d.steps) (line_of n ∷ []) (lines_left x.consumed rest n))) in
      record {
        above = d.above;
        steps = steps;
        runs = x;
        comments = d.comments;
        kept = is ∙ ap (taken n.number n.line text) d.kept;
        all_lines = λ rest follows. ap numbered_lines (append_assoc d.runs.consumed l.taken rest) ∙ all_with part h first before after r n p caption k d l rest follows
            ∙ ap (λ ls. d.above ++ ls) (sym (append_assoc (lines_of_steps d.steps) (line_of n ∷ []) (lines_left x.consumed rest n)));
        lines = lines;
        told = (told_there h first after n q steps x lines, told_grow d.runs.consumed l.taken h d.steps d.told);
      }

  -- ---- the picture

  pictured : (part : Part) (h : Header) (source : List ℕ) (above : List NumberedLine) (steps : List Step) (caption : List (List ℕ)) (k : Kept) (rest : List NumberedLine) (last : List ℕ) (status : ℕ)
      → caption ≡ comments_of above → k ≡ drawn part h steps → numbered_lines source ≡ above ++ (lines_of_steps steps ++ rest)
      → read_header lang [] 1 (numbered_lines source) ≡ Header_read h (lines_of_steps steps ++ rest) → AreTold made lang source h steps → IsLast rest last status
      → ReplayOf made lang source (told_of_steps steps ++ last) status → PictureOf made lang part source (picture_of caption k last) status
  pictured part h source above steps caption k rest last status comments is lines header told ends report =
      subst (λ (m : Kept). PictureOf made lang part source (picture_of caption m last) status) (sym is)
      (subst (λ c. PictureOf made lang part source (picture_of c (drawn part h steps) last) status) (sym comments) (In_events h above steps rest last lines header told ends report))

  -- Where the source ends.
  pub ended_all : (part : Part) (h : Header) (first left : Option (List ℕ)) (r : ReaderState) (p : PlayState D) (caption : List (List ℕ)) (k : Kept) → (d : Drawing commands stands part h first left r p caption k)
      → DrawsAll commands stands part true (d.runs.consumed ++ []) (picture_of caption k (as_bytes (end_line p.counts ∷ []))) 0
  ended_all part h first left r p caption k d source may =
      let x = d.runs in
      subst (λ b. PictureOf made lang part b (picture_of caption k (as_bytes (end_line p.counts ∷ []))) 0) (sym may)
      (pictured part h (x.consumed ++ []) d.above d.steps caption k [] (as_bytes (end_line p.counts ∷ [])) 0 d.comments d.kept (d.all_lines [] (λ e. refl)) (d.lines [] (λ e. refl)) (told_grow x.consumed [] h d.steps d.told) (Ends p.counts refl)
      (subst (λ b. ReplayOf made lang (x.consumed ++ []) (b ++ as_bytes (end_line p.counts ∷ [])) 0) (sym x.writes) (ends_there h first left (Some []) (Some (told_of_steps d.steps)) r p x)))

  -- Where a line is refused before it is read.
  pub refused_all : (part : Part) (h : Header) (first before after : Option (List ℕ)) (r n : ReaderState) (p : PlayState D) (caption : List (List ℕ)) (k : Kept) (number : ℕ) (why : Refusal)
      → (d : Drawing commands stands part h first before r p caption k) → (e : ReadsRefused before after r n why) → number ≡ n.number + 1
      → DrawsAll commands stands part false (d.runs.consumed ++ e.bytes) (picture_of caption k (as_bytes (refusal_line number why ∷ []))) 1
  refused_all part h first before after r n p caption k number why d e is source may =
      let x = d.runs in
      let rest : List ℕ = may.0 in
      let f = e.refuses.first rest (r.number + 1) in
      let l : NumberedLine = e.refuses.line rest (r.number + 1) in
      let numbers : l.number ≡ number = e.refuses.numbered rest (r.number + 1) ∙ ap (λ k. k + 1) (sym e.same) ∙ sym is in
      let total : length (x.consumed ++ (e.bytes ++ rest)) ≡ r.behind + length (e.bytes ++ rest) = total_at x.consumed (e.bytes ++ rest) r.behind x.has_read.behind in
      let lines : lines_left x.consumed (e.bytes ++ rest) r ≡ l ∷ f.others = ap (λ t. numbered_from t r.behind (r.number + 1) (lines_of (e.bytes ++ rest))) total ∙ f.lines in
      let events : event_lines_of lang h (lines_left x.consumed (e.bytes ++ rest) r) ≡ (number, Err why) ∷ event_lines_of lang h f.others =
      ap (event_lines_of lang h) lines ∙ events_first lang h l f.others
      ∙ ap (λ o. option_to_list o ++ event_lines_of lang h f.others) (refused_line (line_refusal l) why l.number _ (e.refuses.refused rest (r.number + 1)))
      ∙ ap (λ k. (k, Err why) ∷ event_lines_of lang h f.others) numbers in
      let last : List ℕ = as_bytes (refusal_line number why ∷ []) in
      let follows = open_follows r.ended (e.bytes ++ rest) e.began in
      let report : ReplayOf made lang (x.consumed ++ (e.bytes ++ rest)) (x.written ++ last) 1 =
      whole_at h (x.consumed ++ (e.bytes ++ rest)) x.world p.counts (lines_left x.consumed (e.bytes ++ rest) r) x.written (x.written ++ last) (At_line number why) (x.leads (e.bytes ++ rest) follows)
      (subst (λ ls. Finishes (EachStood stands) lang x.world p.counts ls x.written (x.written ++ last) (At_line number why)) (sym events)
      ((ends_finish (EachStood stands)).misread lang x.world p.counts number why (event_lines_of lang h f.others) x.written
      (each_stood commands stands p.kept p.hosts x.world x.plays.stands_for) x.plays.unasked)) in
      subst (λ b. PictureOf made lang part b (picture_of caption k last) 1) (sym (may.1 ∙ append_assoc x.consumed e.bytes rest))
      (pictured part h (x.consumed ++ (e.bytes ++ rest)) d.above d.steps caption k (l ∷ f.others) last 1 d.comments d.kept
      (d.all_lines (e.bytes ++ rest) follows ∙ ap (λ ls. d.above ++ (lines_of_steps d.steps ++ ls)) lines)
      (d.lines (e.bytes ++ rest) follows ∙ ap (λ ls. Header_read h (lines_of_steps d.steps ++ ls)) lines) (told_grow x.consumed (e.bytes ++ rest) h d.steps d.told)
      (subst (λ b. IsLast (l ∷ f.others) (as_bytes (refusal_line b why ∷ [])) 1) numbers (Stops l f.others why refl))
      (subst (λ b. ReplayOf made lang (x.consumed ++ (e.bytes ++ rest)) (b ++ last) 1) (sym x.writes) report))

  -- Where a line is refused that was read.
  pub stopped_all : (part : Part) (h : Header) (first before after : Option (List ℕ)) (r n : ReaderState) (p q : PlayState D) (caption : List (List ℕ)) (k : Kept) (text : List ℕ) (why : Refusal)
      → (d : Drawing commands stands part h first before r p caption k) → (l : ReadsLine before after r n) → EndStands after n
      → ((w : World) → PlaysOn commands stands p w → StopsAt stands w p (option_to_list (event_line whole_language p.kept.header (line_of n))) n.number [] q text why)
      → DrawsAll commands stands part n.ended ((d.runs.consumed ++ l.taken) ++ n.left) (picture_of caption k (as_bytes (refusal_line n.number why ∷ []))) 1
  stopped_all part h first before after r n p q caption k text why d l ends stops source may =
      let x = d.runs in
      let b = been n.ended ((x.consumed ++ l.taken) ++ n.left) source may in
      let rest : List ℕ = n.left ++ b.0 in
      let follows = left_follows after n b.0 ends b.2 in
      let there : source ≡ x.consumed ++ (l.taken ++ rest) = b.1 ∙ append_assoc (x.consumed ++ l.taken) n.left b.0 ∙ append_assoc x.consumed l.taken rest in
      let behind : List NumberedLine = lines_left (x.consumed ++ l.taken) rest n in
      let left : List EventLine = event_lines_of lang h behind in
      let events : event_lines_of lang h (lines_left x.consumed (l.taken ++ rest) r) ≡ option_to_list (event_line whole_language p.kept.header (line_of n)) ++ left =
      events_next before after h x.consumed r n x.has_read l rest follows ∙ ap (λ m. option_to_list (event_line whole_language m (line_of n)) ++ left) (sym x.header) in
      let last : List ℕ = as_bytes (refusal_line n.number why ∷ []) in
      let report : ReplayOf made lang (x.consumed ++ (l.taken ++ rest)) (x.written ++ last) 1 =
      whole_at h (x.consumed ++ (l.taken ++ rest)) x.world p.counts (lines_left x.consumed (l.taken ++ rest) r) x.written (x.written ++ last) (At_line n.number why)
      (x.leads (l.taken ++ rest) (open_follows r.ended (l.taken ++ rest) l.began))
      (subst (λ ls. Finishes (EachStood stands) lang x.world p.counts ls x.written (x.written ++ last) (At_line n.number why)) (sym events)
      (shift_finish (EachStood stands) lang x.world p.counts (option_to_list (event_line whole_language p.kept.header (line_of n)) ++ left)
      last (At_line n.number why) ((stops x.world x.plays).finishes lang left) x.written)) in
      subst (λ c. PictureOf made lang part c (picture_of caption k last) 1) (sym there)
      (pictured part h (x.consumed ++ (l.taken ++ rest)) d.above d.steps caption k (line_of n ∷ behind) last 1 d.comments d.kept (all_with part h first before after r n p caption k d l rest follows)
      (lines_with part h first before after r n p caption k d l rest follows)
      (told_grow x.consumed (l.taken ++ rest) h d.steps d.told) (Stops (line_of n) behind why refl)
      (subst (λ c. ReplayOf made lang (x.consumed ++ (l.taken ++ rest)) (c ++ last) 1) (sym x.writes) report))

  -- Where a line of the header is.
  pub header_all : (part : Part) (first after : Option (List ℕ)) (n : ReaderState) (number : ℕ) (why : Refusal) → (b : HeaderStops first after n number why)
      → DrawsAll commands stands part n.ended b.bytes (as_bytes (refusal_line number why ∷ [])) 1
  header_all part first after n number why b source may =
      let c = been n.ended b.bytes source may in
      In_header number why (ap (λ x. read_header lang [] 1 (numbered_lines x)) c.1 ∙ read_same (program_of commands) (numbered_lines (b.bytes ++ c.0)) [] 1 ∙ b.reads c.0 c.2)
