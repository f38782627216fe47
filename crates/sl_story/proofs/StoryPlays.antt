-- A story goes on by one line, and it may end behind each.
use Rattle.sl_play.proofs.EndsFinish.{bytes_joined, ends_finish, leading_is_chained}
use Rattle.sl_play.proofs.LinesPlayed.{read_same}
use Rattle.sl_play.proofs.PlayIsOwed.{play_is_owed}
use Rattle.sl_play.proofs.ReportsShift.{shift}
use Rattle.sl_play.specs.PlayIsOwed.{EachStood}
use Rattle.sl_play.specs.Plays.{Begins, GoesOn, PlayState, PlaysOn, StaysAs}
use Rattle.sl_play.specs.Replays.{LeadsFrom, played_language}
use Rattle.sl_play.specs.RunEndings.{LeadsBack}
use Rattle.sl_reader.proofs.FirstLines.{line_first}
use Rattle.sl_report.specs.Languages.{Language, whole_language}
use Rattle.sl_report.specs.OwedReports.{ReplayOf}
use Rattle.sl_report.specs.Reports.{end_line, no_counts}
use Rattle.sl_report.specs.Schedules.{At_end, EventLine, NumberedLine, event_line, event_lines_of, greatest_source, numbered_from, numbered_lines}
use Rattle.sl_run.specs.Worlds.{World, world_with}
use Rattle.sl_run.specs.declared.header.Header.{Header}
use Rattle.sl_sound.specs.MadeRuns.{MadeRun}
use Rattle.sl_story.proofs.HeaderBefore.{header_behind, inside_then}
use Rattle.sl_story.proofs.StoriesBegin.{IsStory, are_stories}
use Rattle.sl_story.specs.StoryHeaders.{story_header, story_lines}
use Rattle.sl_story.specs.StoryPlays.{IsTelling, Opens, TellsOn, fed, line_at}
use Rattle.sl_story.specs.ToldSchedules.{ToldBy, says}
use Rattle.sl_story.specs.declared.header.Opening.{Opening}
use Rattle.sl_story.specs.declared.place.Place.{Place}
use Rattle.sl_text.specs.Forms.{Form, as_bytes, is_free_of, lines_of}
use Rattle.sl_trace.specs.Traces.{Setting, Trace}
use Rattle.sl_trace.specs.declared.command.Command.{Command}
use Rattle.sl_words.proofs.WordLaws.{and_true}
use Rattle.sl_world_law.proofs.FirstStanding.{each_stood}
use Rattle.sl_world_state.specs.Daemons.{program_of}
use Rattle.std.proofs.Common.{Bool, List, None, Option, Some, [], ap, ap₂, arith, false, length, length-append, refl, subst, sym, true, ℕ, ◌*◌, ◌++◌, ◌+◌, ◌∙◌, ◌∷◌, ◌≡◌, ◌≤◌}
use Rattle.std.proofs.lemmas.Bool.Decides.{nat_tests}
use Rattle.std.proofs.lemmas.List.{append-nil, append_assoc}
use Rattle.std.specs.List.{cons_option, list_all}
use Rattle.std.specs.Option.{option_to_list}
use Rattle.std.specs.Prelude.{nat_le, not, ◌&&◌}

-- ---- lines

cons_list : {A : Type 0} (o : Option A) (xs : List A) → cons_option o xs ≡ option_to_list o ++ xs
cons_list None xs = refl
cons_list (Some x) xs = refl

-- The events of a first line, and of those behind it.
events_first : (lang : Language) (h : Header) (l : NumberedLine) (ls : List NumberedLine) → event_lines_of lang h (l ∷ ls) ≡ option_to_list (event_line lang h l) ++ event_lines_of lang h ls
events_first lang h l ls = cons_list (event_line lang h l) (event_lines_of lang h ls)

-- It is the first of those that are left.
first_left : (total bytes number : ℕ) (line rest : List ℕ) → is_free_of 10 line ≡ true → bytes + length line + 1 ≤ greatest_source
    → numbered_from total bytes number (lines_of (fed line ++ rest)) ≡ line_at number bytes line ∷ numbered_from total (bytes + length line + 1) (number + 1) (lines_of rest)
first_left total bytes number line rest free inside =
    ap (λ b. numbered_from total bytes number (lines_of b)) (append_assoc line (10 ∷ []) rest) ∙ ap (numbered_from total bytes number) (line_first line rest free)
    ∙ ap (λ p. record { number = number; start = bytes; text = line; is_past = p } ∷ numbered_from total (bytes + length line + 1) (number + 1) (lines_of rest))
    (inside_then total (bytes + length line + 1) inside)

-- ---- what was told, with one more

one_more : (n k : ℕ) (lines : List (List ℕ)) (line : List ℕ) → length lines ≡ n → length (lines ++ line ∷ []) ≡ n + 1
one_more n k lines line is = omega (arith, length-append lines (line ∷ []), is)

all_more : (lines : List (List ℕ)) (line : List ℕ) → list_all says lines ≡ true → says line ≡ true → list_all says (lines ++ line ∷ []) ≡ true
all_more [] line all is = ap (λ b. b && true) is
all_more (l ∷ lines) line all is =
    let parts = and_true (says l) (list_all says lines) all in
    ap₂ (λ a b. a && b) parts.0 (all_more lines line parts.1 is)

text_more : (first lines : List (List ℕ)) (line text : List ℕ) → text ≡ as_bytes (first ++ lines) → text ++ fed line ≡ as_bytes (first ++ (lines ++ line ∷ []))
text_more first lines line text is =
    ap (λ b. b ++ fed line) is ∙ ap (λ b. as_bytes (first ++ lines) ++ b) (sym (append-nil (fed line))) ∙ sym (bytes_joined (first ++ lines) (line ∷ []))
    ∙ ap as_bytes (append_assoc first lines (line ∷ []))

longer : (text line : List ℕ) (a b : ℕ) → a ≡ length text → b ≡ a + length line + 1 → b ≡ length (text ++ fed line)
longer text line a b is more = omega (arith, is, more, length-append text (fed line), length-append line (10 ∷ []))

free_of : (line : List ℕ) → says line ≡ true → is_free_of 10 line ≡ true
free_of line is = (and_true _ (is_free_of 10 line) is).1

module _ {D : Type 0} (commands : Header → List (Form Command)) (stands : D → Setting → Trace → Type 0) where
  pub same_play : (p n : PlayState D) → StaysAs p n → n ≡ p
  same_play p n s =
      ap (λ k. record { kept = k; hosts = n.hosts; counts = n.counts }) s.kept ∙ ap (λ k. record { kept = p.kept; hosts = k; counts = n.counts }) s.hosts
      ∙ ap (λ k. record { kept = p.kept; hosts = p.hosts; counts = k }) s.counts

  -- The line's event has come to pass, with the asks behind it.
  abbrev pub GoesBy : PlayState D → NumberedLine → PlayState D → List ℕ → Type 0
  GoesBy p l n report = (w : World) → PlaysOn commands stands p w → GoesOn commands stands w p (option_to_list (event_line whole_language p.kept.header l)) [] n report

  leads_then : (h : Header) (a b : Place) (line text written report : List ℕ) (w : World) (p n : PlayState D) → says line ≡ true → b.lines ≡ a.lines + 1
      → b.bytes ≡ a.bytes + length line + 1 → b.bytes ≤ greatest_source → p.kept.header ≡ h
      → (g : GoesOn commands stands w p (option_to_list (event_line whole_language p.kept.header (line_at b.lines a.bytes line))) [] n report) → (rest : List ℕ)
      → LeadsFrom commands stands h (text ++ (fed line ++ rest)) w p.counts (numbered_from (length (text ++ (fed line ++ rest))) a.bytes (a.lines + 1) (lines_of (fed line ++ rest))) written
      → LeadsFrom commands stands h ((text ++ fed line) ++ rest) g.world n.counts (numbered_from (length ((text ++ fed line) ++ rest)) b.bytes (b.lines + 1) (lines_of rest)) (written ++ report)
  leads_then h a b line text written report w p n says lines bytes inside header g rest from =
      let lang : Language = played_language commands in
      let total : ℕ = length (text ++ (fed line ++ rest)) in
      let seen : NumberedLine = line_at b.lines a.bytes line in
      let behind : List NumberedLine = numbered_from total b.bytes (b.lines + 1) (lines_of rest) in
      let left : List EventLine = event_lines_of lang h behind in
      let here : List EventLine = option_to_list (event_line whole_language p.kept.header seen) ++ left in
      let cut : numbered_from total a.bytes (a.lines + 1) (lines_of (fed line ++ rest)) ≡ seen ∷ behind =
      first_left total a.bytes (a.lines + 1) line rest (free_of line says) (subst (λ k. k ≤ greatest_source) bytes inside)
      ∙ ap₂ (λ k s. line_at k a.bytes line ∷ numbered_from total s (k + 1) (lines_of rest)) (sym lines) (sym bytes) in
      let events : event_lines_of lang h (numbered_from total a.bytes (a.lines + 1) (lines_of (fed line ++ rest))) ≡ here =
      ap (event_lines_of lang h) cut ∙ events_first lang h seen behind ∙ ap (λ k. option_to_list (event_line whole_language k seen) ++ left) (sym header) in
      subst (λ c. LeadsFrom commands stands h c g.world n.counts (numbered_from (length c) b.bytes (b.lines + 1) (lines_of rest)) (written ++ report)) (sym (append_assoc text (fed line) rest))
      (record {
        behind = from.behind;
        header = from.header;
        leads = leading_is_chained (EachStood stands) lang (world_with (program_of commands) h) w g.world no_counts p.counts n.counts (event_lines_of lang h from.behind) here left [] written
            (written ++ report)
            (subst (λ ls. LeadsBack (EachStood stands) lang (world_with (program_of commands) h) no_counts (event_lines_of lang h from.behind) [] w p.counts ls written) events from.leads)
            (shift (EachStood stands) lang w g.world p.counts n.counts here left report (g.leads lang left) written);
      })

  pub tells_on : (a b : Place) (line : List ℕ) (p n : PlayState D) (report : List ℕ) → says line ≡ true → b.lines ≡ a.lines + 1 → b.bytes ≡ a.bytes + length line + 1
      → b.bytes ≤ greatest_source → GoesBy p (line_at b.lines a.bytes line) n report → TellsOn commands stands a line p b n
  tells_on a b line p n report is lines bytes inside goes hosts paired told text t =
      let g = goes t.world t.plays in
      record {
        lines = t.lines ++ line ∷ [];
        counted = one_more told 0 t.lines line t.counted;
        saying = all_more t.lines line t.saying is;
        text_is = text_more (story_lines hosts paired) t.lines line text t.text_is;
        long = longer text line a.bytes b.bytes t.long bytes;
        report = t.report ++ report;
        world = g.world;
        plays = g.plays;
        header = g.header ∙ t.header;
        leads = λ rest. leads_then (story_header hosts paired) a b line text t.report report t.world p n is lines bytes inside t.header g rest (t.leads (fed line ++ rest));
      }

  -- It may end here.
  pub told_so : (hosts : ℕ) (paired : Bool) (told number bytes : ℕ) (text : List ℕ) (p : PlayState D) → IsTelling commands stands hosts paired told number bytes text p
      → ToldBy commands stands hosts paired told text
  told_so hosts paired told number bytes text p t =
      let lang : Language = played_language commands in
      let total : List ℕ = t.report ++ as_bytes (end_line p.counts ∷ []) in
      let from = t.leads [] in
      record {
        lines = t.lines;
        counted = t.counted;
        saying = t.saying;
        text_is = t.text_is;
        report = total;
        accepted = subst (λ c. ReplayOf (λ q header xs. MadeRun stands q header xs) lang c total 0) (append-nil text)
            ((play_is_owed stands).whole lang (text ++ []) (story_header hosts paired) from.behind total At_end from.header
            (from.leads.finishes total At_end
            ((ends_finish (EachStood stands)).ends lang t.world p.counts t.report (each_stood commands stands p.kept p.hosts t.world t.plays.stands_for) t.plays.unasked)));
      }

  -- Behind the first lines.
  small : (n : ℕ) → nat_le n 10000 ≡ true → n ≤ greatest_source
  small n h = grind (arith, nat_tests)

  pub telling_first : (hosts : ℕ) (paired : Bool) (o : Opening) (p : PlayState D) → Opens hosts paired o → Begins commands stands o.header p
      → IsTelling commands stands hosts paired 0 o.place.lines o.place.bytes o.text.items p
  telling_first hosts paired o p opens begins =
      let s = are_stories hosts paired opens.hosts_are.0 opens.hosts_are.1 in
      let ls : List (List ℕ) = story_lines hosts paired in
      let h : Header = story_header hosts paired in
      let begins_so : Begins commands stands h p = subst (λ (k : Header). Begins commands stands k p) opens.header_is begins in
      record {
        lines = [];
        counted = refl;
        saying = refl;
        text_is = opens.text_is ∙ ap as_bytes (sym (append-nil ls));
        long = opens.bytes_are;
        report = [];
        world = world_with (program_of commands) h;
        plays = begins_so.plays;
        header = begins_so.header;
        leads = λ rest. leads_first hosts paired o p s opens begins_so.counts rest;
      }
    where
      leads_first : (hosts : ℕ) (paired : Bool) (o : Opening) (p : PlayState D) → IsStory hosts paired → Opens hosts paired o → p.counts ≡ no_counts → (rest : List ℕ)
          → LeadsFrom commands stands (story_header hosts paired) (o.text.items ++ rest) (world_with (program_of commands) (story_header hosts paired)) p.counts
          (numbered_from (length (o.text.items ++ rest)) o.place.bytes (o.place.lines + 1) (lines_of rest)) []
      leads_first hosts paired o p s opens counts rest =
          let h : Header = story_header hosts paired in
          let ls : List (List ℕ) = story_lines hosts paired in
          let left : List NumberedLine = numbered_from (length (o.text.items ++ rest)) o.place.bytes (o.place.lines + 1) (lines_of rest) in
          record {
            behind = left;
            header = read_same (program_of commands) (numbered_lines (o.text.items ++ rest)) [] 1 ∙ header_behind ls h o.text.items rest o.place.bytes o.place.lines s.1 (small (length (as_bytes ls)) s.3) s.0
                opens.text_is opens.bytes_are (opens.lines_are ∙ sym s.2);
            leads = subst (λ k. LeadsBack (EachStood stands) (played_language commands) (world_with (program_of commands) h) no_counts
                (event_lines_of (played_language commands) h left) [] (world_with (program_of commands) h) k (event_lines_of (played_language commands) h left) []) (sym counts)
                (record { finishes = λ total end f. f; breaks = λ total f. f });
          }
