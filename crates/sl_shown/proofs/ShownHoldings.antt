-- What is drawn of a front shows what is held behind it.
use Rattle.sl_draw.specs.Drawings.{AreTold, IsTold, Step, drawn, lines_of_steps, told_of_steps}
use Rattle.sl_held.proofs.LinesTell.{in_world, lines_tell_holdings}
use Rattle.sl_held.specs.HeldLaws.{NamesTell}
use Rattle.sl_held.specs.HeldRows.{held_on, row_of, shape_of}
use Rattle.sl_picture.proofs.BarsBegin.{bars_begin}
use Rattle.sl_picture.proofs.LinesMove.{lines_move_bars}
use Rattle.sl_picture.specs.Fates.{is_holding}
use Rattle.sl_picture.specs.HeldBars.{Row, Shows, after_lines, is_bar_on, row_of_bar}
use Rattle.sl_picture.specs.Kept.{Kept}
use Rattle.sl_picture.specs.Tells.{is_silent}
use Rattle.sl_picture.specs.declared.kept.Part.{Part}
use Rattle.sl_picture.specs.declared.shapes.Bar.{Bar}
use Rattle.sl_picture.specs.declared.shapes.Shape.TheVariants as shape
use Rattle.sl_headline.specs.PromisedRuns.{PromisedRun}
use Rattle.sl_play.proofs.Headers.HeadersAreGood.{headers_are_good}
use Rattle.sl_report.specs.Languages.{Language, is_skipped, whole_language}
use Rattle.sl_report.specs.OwedReports.{HeadersAreGood, In_events, In_header, Promise, ReplayOf, SoundRun}
use Rattle.sl_report.specs.Reports.{Counts, end_line, no_counts, run_counts, run_lines}
use Rattle.sl_report.specs.Schedules.{At_end, At_line, Ending, EventLine, Follows, IsAskOf, HeaderReading, Header_read, Header_refused, NumberedLine, event_line, event_lines_of, event_or_syntax, line_refusal, numbered_lines, read_header, replay_from, replay_lines, report_of, status_of}
use Rattle.sl_report.specs.ReadLines.{event_in}
use Rattle.sl_report.specs.RefusalLines.{refusal_line}
use Rattle.sl_run.specs.Conflicts.{Holding, IsExclusive, conflicts, holding, is_one_user, world_holdings, world_lingering, world_uses}
use Rattle.sl_run.specs.EventChanges.{happens}
use Rattle.sl_run.specs.Inputs.{asking}
use Rattle.sl_run.specs.Refusals.{may_happen}
use Rattle.sl_run.specs.Runs.{AfterEachFront, Happening}
use Rattle.sl_run.specs.Safety.{LawfulRun, world_at}
use Rattle.sl_run.specs.Worlds.{Machine, World, machine_at, whole_program, world_with}
use Rattle.sl_run.specs.declared.event.Event.{Event}
use Rattle.sl_run.specs.declared.event.Refusal.{Refusal}
use Rattle.sl_run.specs.declared.header.Header.{Header}
use Rattle.sl_run_law.proofs.Front.JoinedLists.{contains_left, contains_right}
use Rattle.sl_sector.proofs.WrittenBytes.{sha256_is_digest}
use Rattle.sl_sector.specs.SectorLayouts.{IsDigest}
use Rattle.sl_shown.proofs.WholeLines.{WholeLines, before_end, lines_are_whole, lines_before_end, lines_joined}
use Rattle.sl_shown.specs.ShownHoldings.{BarsAreHoldings, BarsAreShared, ShowsHoldings}
use Rattle.sl_sound.proofs.OwedGrows.{replay_grows}
use Rattle.sl_sound.proofs.Reports.OneReport.{runs_have_one_report}
use Rattle.sl_sound.specs.MadeRuns.{ServedRun}
use Rattle.sl_text.proofs.LineLaws.{lines_of-as_bytes}
use Rattle.sl_text.specs.Forms.{as_bytes, is_free_of, lines_of}
use Rattle.sl_trace.specs.EffectTexts.{of_resource}
use Rattle.sl_trace.specs.Traces.{is_shared, same_place}
use Rattle.sl_trace.specs.declared.effects.Grant.{Grant}
use Rattle.sl_trace.specs.declared.effects.Mode.TheVariants.{Exclusive, Shared}
use Rattle.sl_trace.specs.declared.effects.Mode.{Mode}
use Rattle.sl_words.proofs.CaseLaws.{false_is_true, is_false, true_is_false, true_or_false}
use Rattle.sl_words.proofs.Lists.{any_of, contains_cases, contains_first, contains_map, contains_more, contains_none, in_map, kept}
use Rattle.sl_words.proofs.WordLaws.{and_true}
use Rattle.std.proofs.Common.{ap, arith, inl, inr, refl, subst, sym, ◌∙◌}
use Rattle.std.proofs.lemmas.Bool.{and_from, eq-eqb, eqb-true}
use Rattle.std.proofs.lemmas.List.Elements.{filter_map-append}
use Rattle.std.proofs.lemmas.List.Sums.{fold-append}
use Rattle.std.proofs.lemmas.List.{append-nil, append_cancel_left}
use Rattle.std.specs.List.{cons_option, list_all, list_any}
use Rattle.std.specs.Option.{option_map_or, option_to_list}
use Rattle.std.specs.Prelude.{Bool, Contains, Err, IsTrue, List, None, Ok, Option, Some, false, filter, map, not, true, [], ℕ, ◌&&◌, ◌++◌, ◌==◌, ◌∷◌, ◌≡◌, ◌≤◌, ◌⊎◌, ◌||◌}

-- ---- of whatever language

-- A language whose headers are good, whose digests have 32 bytes, and in which empty lines and comments say nothing.
record IsGood (lang : Language) : Type 0 where
  headers : HeadersAreGood lang
  digest : IsDigest lang.program.digest
  skips : (text : List ℕ) → is_silent text ≡ true → lang.skips text ≡ true

-- The run of these lines.
record IsRunOf (lang : Language) (h : Header) (steps : List Step) (xs : List Happening) : Type 0 where
  follows : Follows (world_with lang.program h) (event_lines_of lang h (lines_of_steps steps)) xs At_end
  served : ServedRun lang.program h xs

abbrev AreDrawn : Part → List Step → Type 0
AreDrawn part steps = (s : Step) → Contains steps s → s.line.number ≤ part.last

-- ---- what a front is told

abbrev header_of_reading : Header → HeaderReading → Header
header_of_reading d (Header_refused number why) = d
header_of_reading d (Header_read h rest) = h

abbrev lines_of_reading : HeaderReading → List NumberedLine
lines_of_reading (Header_refused number why) = []
lines_of_reading (Header_read h rest) = rest

one_or_none : (n : ℕ) → n ≡ 0 → n ≡ 1 → ⊥
one_or_none n none one = absurd (omega (arith, none, one))

is_the_end : (end : Ending) → status_of end ≡ 0 → end ≡ At_end
is_the_end At_end h = refl
is_the_end (At_line number why) h = absurd (one_or_none 1 h refl)

-- The run that a front's report tells, and that its lines are what the steps are told.
record FrontRun (lang : Language) (h : Header) (steps : List Step) : Type 0 where
  run : List Happening
  follows : Follows (world_with lang.program h) (event_lines_of lang h (lines_of_steps steps)) run At_end
  told : told_of_steps steps ≡ as_bytes (run_lines (world_with lang.program h) run)

module _ (lang : Language) (h : Header) (steps : List Step) where
  front_by : (front written : List ℕ) (status : ℕ) (counts : Counts) → read_header lang [] 1 (numbered_lines front) ≡ Header_read h (lines_of_steps steps)
      → ReplayOf ServedRun lang front written status → written ≡ told_of_steps steps ++ as_bytes (end_line counts ∷ []) → status ≡ 0 → FrontRun lang h steps
  front_by front written status counts header (In_header number why read is) text none = absurd (one_or_none 1 none refl)
  front_by front written status counts header (In_events i rest ys end read follows served is ends) text none =
      let same : i ≡ h = ap (header_of_reading h) (sym read ∙ header) in
      let lines : rest ≡ lines_of_steps steps = ap lines_of_reading (sym read ∙ header) in
      let done : end ≡ At_end = is_the_end end (sym ends ∙ none) in
      let there : Follows (world_with lang.program h) (event_lines_of lang h (lines_of_steps steps)) ys At_end =
      subst (λ (s : Ending). Follows (world_with lang.program h) (event_lines_of lang h (lines_of_steps steps)) ys s) done
      (subst (λ (ls : List NumberedLine). Follows (world_with lang.program h) (event_lines_of lang h ls) ys end) lines
      (subst (λ (j : Header). Follows (world_with lang.program j) (event_lines_of lang j rest) ys end) same follows)) in
      record {
        run = ys;
        follows = there;
        told = lines_before_end (told_of_steps steps) (run_lines (world_with lang.program h) ys) counts (run_counts (world_with lang.program h) no_counts ys)
            (sym text ∙ is ∙ ap (λ (j : Header). as_bytes (report_of lang j ys end)) same ∙ ap (λ (s : Ending). as_bytes (report_of lang h ys s)) done);
      }

  front_run : (source : List ℕ) → IsTold ServedRun lang source h steps → FrontRun lang h steps
  front_run source t = front_by t.front (told_of_steps steps ++ as_bytes (end_line t.counts ∷ [])) 0 t.counts t.header t.report refl refl

  sound_replay : (good : IsGood lang) (source : List ℕ) (t : IsTold ServedRun lang source h steps)
      → told_of_steps steps ++ as_bytes (end_line t.counts ∷ []) ≡ as_bytes (replay_lines lang t.front)
  sound_replay good source t =
      runs_have_one_report.sound lang good.headers t.front (told_of_steps steps ++ as_bytes (end_line t.counts ∷ [])) 0
      (replay_grows ServedRun SoundRun lang good.headers (λ i ys header served. served.sound) t.front (told_of_steps steps ++ as_bytes (end_line t.counts ∷ [])) 0 t.report)

  -- Of whatever run of its lines: the steps are told its lines.
  told_by : (good : IsGood lang) (source : List ℕ) (xs : List Happening) → IsTold ServedRun lang source h steps → IsRunOf lang h steps xs
      → told_of_steps steps ≡ as_bytes (run_lines (world_with lang.program h) xs)
  told_by good source xs t run =
      lines_before_end (told_of_steps steps) (run_lines (world_with lang.program h) xs) t.counts (run_counts (world_with lang.program h) no_counts xs)
      (sound_replay good source t
      ∙ sym (runs_have_one_report.sound lang good.headers t.front (as_bytes (report_of lang h xs At_end)) 0
      (In_events h (lines_of_steps steps) xs At_end t.header run.follows run.served.sound refl refl)))

-- ---- empty lines and comments

abbrev report_by : Language → HeaderReading → List (List ℕ)
report_by lang o =
    elim o [
      | Header_refused number why ↦ refusal_line number (lang.told why) ∷ []
      | Header_read h rest ↦ replay_from lang (world_with lang.program h) no_counts (event_lines_of lang h rest)
    ]

abbrev read_line : ℕ → Event → EventLine
read_line n e = (n, Ok e)

abbrev bad_line : ℕ → Refusal → EventLine
bad_line n r = (n, Err r)

abbrev is_bad : EventLine → Bool
is_bad l = elim (l.1) [ Ok e ↦ false | Err r ↦ true ]

behind_read : (k : ℕ) (e : Event) (ls : List EventLine) (n : ℕ) (r : Refusal) → Contains (read_line k e ∷ ls) (bad_line n r) → Contains ls (bad_line n r)
behind_read k e ls n r has =
    elim (contains_cases (read_line k e) ls (bad_line n r) has) as (λ z. Contains ls (bad_line n r)) [
      | inl is ↦ absurd (false_is_true (ap is_bad is))
      | inr more ↦ more
    ]

-- A schedule that is followed to its end has no line that can't be read.
no_error : (w : World) (ls : List EventLine) (xs : List Happening) (n : ℕ) (r : Refusal) → Follows w ls xs At_end → Contains ls (bad_line n r) → ⊥
no_error w [] xs n r f has = contains_none (bad_line n r) has
no_error w ((k, Err q) ∷ ls) [] n r f has = f
no_error w ((k, Err q) ∷ ls) (x ∷ xs) n r f has = no_error (happens w x.0 x.1) ((k, Err q) ∷ ls) xs n r f.1 has
no_error w ((k, Ok e) ∷ ls) [] n r f has = f
no_error w ((k, Ok e) ∷ ls) (x ∷ xs) n r f has =
    by (asking w) f (λ g. no_error (happens w x.0 x.1) ((k, Ok e) ∷ ls) xs n r g has) (λ g. no_error (happens w x.0 x.1) ls xs n r g (behind_read k e ls n r has))
  where
    by : (o : Option ℕ)
        → elim o as (λ z. Type 0) [
          | Some m ↦ IsAskOf w x × Follows (happens w x.0 x.1) (read_line k e ∷ ls) xs At_end
          | None ↦ (e ≡ x.0) × IsTrue (may_happen w e) × Follows (happens w x.0 x.1) ls xs At_end
        ] → (Follows (happens w x.0 x.1) (read_line k e ∷ ls) xs At_end → ⊥) → (Follows (happens w x.0 x.1) ls xs At_end → ⊥) → ⊥
    by (Some m) g again next = again g.1
    by None g again next = next g.2

-- The event of a line, by what it is refused for and whether it says something.
abbrev event_by : Language → Header → NumberedLine → Option Refusal → Bool → Option EventLine
event_by lang h l o skipped =
    elim o [
      | Some r ↦ Some (l.number, Err r)
      | None ↦ elim skipped [ true ↦ None | false ↦ Some (l.number, event_or_syntax (event_in lang h.machines h.geometry.sector l.text)) ]
    ]

events_first : (lang : Language) (h : Header) (ls : List NumberedLine) (l : NumberedLine) → event_lines_of lang h (ls ++ l ∷ []) ≡ event_lines_of lang h ls ++ option_to_list (event_line lang h l)
events_first lang h ls l = filter_map-append (event_line lang h) ls (l ∷ []) ∙ ap (λ (es : List EventLine). event_lines_of lang h ls ++ es) (by (event_line lang h l)) where
  by : (o : Option EventLine) → cons_option o [] ≡ option_to_list o
  by None = refl
  by (Some e) = refl

module _ (lang : Language) (h : Header) (good : IsGood lang) (source : List ℕ) (s : Step) (ss : List Step) where
  -- A line that says nothing has no event: refused for its length it would have ended the run.
  no_event : is_silent s.line.text ≡ true → FrontRun lang h (s ∷ ss) → event_line lang h s.line ≡ None
  no_event silent run = by (line_refusal s.line) refl where
    by : (o : Option Refusal) → line_refusal s.line ≡ o → event_line lang h s.line ≡ None
    by None is = ap (λ (u : Option Refusal). event_by lang h s.line u (lang.skips s.line.text)) is ∙ ap (λ (t : Bool). event_by lang h s.line None t) (good.skips s.line.text silent)
    by (Some r) is =
        let event : event_line lang h s.line ≡ Some (bad_line s.line.number r) = ap (λ (u : Option Refusal). event_by lang h s.line u (lang.skips s.line.text)) is in
        absurd
        (no_error (world_with lang.program h) (event_lines_of lang h (lines_of_steps (s ∷ ss))) run.run s.line.number r run.follows
        (subst (λ (es : List EventLine). Contains es (bad_line s.line.number r)) (sym (events_first lang h (lines_of_steps ss) s.line))
        (contains_right (event_lines_of lang h (lines_of_steps ss)) (option_to_list (event_line lang h s.line)) (bad_line s.line.number r)
        (subst (λ (o : Option EventLine). Contains (option_to_list o) (bad_line s.line.number r)) (sym event) (contains_first (bad_line s.line.number r) [])))))

  -- So it is told nothing.
  told_nothing : is_silent s.line.text ≡ true → IsTold ServedRun lang source h (s ∷ ss) → IsTold ServedRun lang source h ss → s.told ≡ []
  told_nothing silent t u =
      let none : event_line lang h s.line ≡ None = no_event silent (front_run lang h (s ∷ ss) source t) in
      let events : event_lines_of lang h (lines_of_steps (s ∷ ss)) ≡ event_lines_of lang h (lines_of_steps ss) =
      events_first lang h (lines_of_steps ss) s.line ∙ ap (λ (o : Option EventLine). event_lines_of lang h (lines_of_steps ss) ++ option_to_list o) none
      ∙ append-nil (event_lines_of lang h (lines_of_steps ss)) in
      let reports : replay_lines lang t.front ≡ replay_lines lang u.front =
      ap (report_by lang) t.header ∙ ap (λ (es : List EventLine). replay_from lang (world_with lang.program h) no_counts es) events ∙ sym (ap (report_by lang) u.header) in
      append_cancel_left (told_of_steps ss) s.told []
      (before_end (told_of_steps ss ++ s.told) (told_of_steps ss) t.counts u.counts
      (sound_replay lang h (s ∷ ss) good source t ∙ ap as_bytes reports ∙ sym (sound_replay lang h ss good source u)) ∙ sym (append-nil (told_of_steps ss)))

-- ---- the bars

told_first : (promised : Promise) (lang : Language) (source : List ℕ) (h : Header) (steps : List Step) → AreTold promised lang source h steps → IsTold promised lang source h steps
told_first promised lang source h [] t = t
told_first promised lang source h (s ∷ ss) t = t.0

shows_told : (lang : Language) (part : Part) (source : List ℕ) (h : Header) (steps : List Step) → IsGood lang → AreTold ServedRun lang source h steps → AreDrawn part steps
    → Shows part (drawn part h steps) (λ m. after_lines m (lines_of (told_of_steps steps)) [])
shows_told lang part source h [] good told drawn_all = bars_begin part h
shows_told lang part source h (s ∷ ss) good told drawn_all =
    let before : IsTold ServedRun lang source h ss = told_first ServedRun lang source h ss told.1 in
    let run : FrontRun lang h ss = front_run lang h ss source before in
    let whole : WholeLines (told_of_steps ss) = subst WholeLines (sym run.told) (lines_are_whole (run_lines (world_with lang.program h) run.run)) in
    let rest = shows_told lang part source h ss good told.1 (λ x has. drawn_all x (contains_more s ss x has)) in
    let moved =
    lines_move_bars part s.line.number s.line.text s.told (drawn part h ss) (λ m. after_lines m (lines_of (told_of_steps ss)) []) (drawn_all s (contains_first s ss))
    (λ silent. ap lines_of (told_nothing lang h good source s ss silent told.0 before)) rest in (
      moved.0,
      moved.1,
      λ m. moved.2 m
          ∙ sym
          (ap (λ (ls : List (List ℕ)). after_lines m ls []) (lines_joined (told_of_steps ss) s.told whole) ∙ fold-append _ [] (lines_of (told_of_steps ss)) (lines_of s.told)),
    )

shows_held : (lang : Language) (part : Part) (source : List ℕ) (h : Header) (steps : List Step) (xs : List Happening) → IsGood lang → AreTold ServedRun lang source h steps
    → AreDrawn part steps → IsRunOf lang h steps xs → IsTrue (list_all (is_free_of 10) (run_lines (world_with lang.program h) xs))
    → AfterEachFront xs (λ now. NamesTell (world_at lang.program h now)) → ShowsHoldings (drawn part h steps) (world_at lang.program h xs)
shows_held lang part source h steps xs good told drawn_all run lines names m =
    let t : IsTold ServedRun lang source h steps = told_first ServedRun lang source h steps told in
    let lawful : LawfulRun lang.program h xs =
    record {
      header = good.headers t.front h (lines_of_steps steps) t.header;
      digest = good.digest;
      is_run = run.served.sound.is_run;
      lawful = λ d has. (run.served.sound.lawful d has).orderly;
    } in
    (shows_told lang part source h steps good told drawn_all).2 m
    ∙ ap (λ (bs : List ℕ). after_lines m (lines_of bs) []) (told_by lang h steps good source xs t run)
    ∙ ap (λ (ls : List (List ℕ)). after_lines m ls []) (lines_of-as_bytes (run_lines (world_with lang.program h) xs) lines)
    ∙ lines_tell_holdings lang.program h xs lawful run.served.once names m

-- ---- of the whole language

silent_skips : (text : List ℕ) → is_silent text ≡ true → is_skipped text ≡ true
silent_skips [] h = refl
silent_skips (c ∷ cs) h = h

whole_is_good : IsGood whole_language
whole_is_good = record { headers = headers_are_good whole_program; digest = sha256_is_digest; skips = silent_skips }

one_served : (source : List ℕ) (h : Header) (steps : List Step) → IsTold PromisedRun whole_language source h steps → IsTold ServedRun whole_language source h steps
one_served source h steps t =
    record {
      front = t.front;
      begins = t.begins;
      header = t.header;
      counts = t.counts;
      report = replay_grows PromisedRun ServedRun whole_language whole_is_good.headers (λ i ys header promised. promised.served) t.front
          (told_of_steps steps ++ as_bytes (end_line t.counts ∷ [])) 0 t.report;
    }

told_served : (source : List ℕ) (h : Header) (steps : List Step) → AreTold PromisedRun whole_language source h steps → AreTold ServedRun whole_language source h steps
told_served source h [] t = one_served source h [] t
told_served source h (s ∷ ss) t = (one_served source h (s ∷ ss) t.0, told_served source h ss t.1)

pub bars_are_holdings : BarsAreHoldings
bars_are_holdings part source h steps xs x =
    shows_held whole_language part source h steps xs whole_is_good (told_served source h steps x.told) x.drawn_all
    (record { follows = x.follows; served = x.promised.served }) x.lines x.names

-- ---- two bars of one resource

-- A holding that a bar stands for.
record StandsFor (w : World) (k : Kept) (b : Bar) : Type 0 where
  held : Grant
  there : Contains (world_holdings w) (holding b.machine held)
  row : row_of held ≡ row_of_bar k.texts b

stands_for : (w : World) (k : Kept) → ShowsHoldings k w → (b : Bar) → Contains k.opened b → is_holding b.shape ≡ true → StandsFor w k b
stands_for w k shows b opened held = by (machine_at w b.machine) refl where
  on : is_bar_on b.machine b ≡ true
  on = and_from (is_holding b.shape) (b.machine == b.machine) held (eq-eqb b.machine b.machine refl)

  shown : Contains (held_on w b.machine) (row_of_bar k.texts b)
  shown =
      subst (λ (rs : List Row). Contains rs (row_of_bar k.texts b)) (shows b.machine)
      (contains_map (row_of_bar k.texts) (filter (is_bar_on b.machine) k.opened) b (kept (is_bar_on b.machine) k.opened b on opened))

  by : (o : Option Machine) → machine_at w b.machine ≡ o → StandsFor w k b
  by None is =
      absurd
      (contains_none (row_of_bar k.texts b)
      (subst (λ (o : Option Machine). Contains (map row_of (option_map_or (λ (a : Machine). a.holdings) o [])) (row_of_bar k.texts b)) is shown))
  by (Some a) is =
      let g = in_map row_of a.holdings (row_of_bar k.texts b)
      (subst (λ (o : Option Machine). Contains (map row_of (option_map_or (λ (a : Machine). a.holdings) o [])) (row_of_bar k.texts b)) is shown) in
      record { held = g.0; there = in_world w b.machine a g.0 is g.1; row = g.2 }

-- Two holdings of one place on two machines are both shared.
both_shared : (w : World) (x y : Holding) → IsExclusive w → Contains (world_holdings w) x → Contains (world_holdings w) y → (x.machine ≡ y.machine → ⊥)
    → same_place x.held.path x.held.offset y.held.path y.held.offset ≡ true → (is_shared x.held.mode && is_shared y.held.mode) ≡ true
both_shared w x y exclusive first second apart place = by (true_or_false (is_shared x.held.mode && is_shared y.held.mode)) where
  other : is_one_user x y ≡ false
  other =
      is_false (is_one_user x y) (λ t.
      apart (eqb-true x.machine y.machine (and_true (x.machine == y.machine) ((x.held.process == y.held.process) || x.lingers || y.lingers) t).0))

  clash : (is_shared x.held.mode && is_shared y.held.mode) ≡ false → conflicts x y ≡ true
  clash mixed =
      and_from (same_place x.held.path x.held.offset y.held.path y.held.offset && not (is_shared x.held.mode && is_shared y.held.mode)) (not (is_one_user x y))
      (and_from (same_place x.held.path x.held.offset y.held.path y.held.offset) (not (is_shared x.held.mode && is_shared y.held.mode)) place (ap not mixed)) (ap not other)

  by : ((is_shared x.held.mode && is_shared y.held.mode) ≡ true) ⊎ ((is_shared x.held.mode && is_shared y.held.mode) ≡ false)
      → (is_shared x.held.mode && is_shared y.held.mode) ≡ true
  by (inl both) = both
  by (inr mixed) =
      let uses : List Holding = world_uses w in
      let one : Contains uses x = contains_left (world_holdings w) (world_lingering w) x first in
      let two : Contains uses y = contains_left (world_holdings w) (world_lingering w) y second in
      absurd
      (true_is_false
      (sym (any_of (λ (a : Holding). list_any (conflicts a) uses) uses x (any_of (conflicts x) uses y (clash mixed) two) one) ∙ exclusive))

shape_shared : (m : Mode) → is_shared m ≡ true → shape_of m ≡ shape.Shared
shape_shared Exclusive h = absurd (false_is_true h)
shape_shared Shared h = refl

pub bars_are_shared : BarsAreShared
bars_are_shared part source h steps xs shown a b one =
    let k : Kept = drawn part h steps in
    let w : World = world_at whole_program h xs in
    let shows : ShowsHoldings k w = bars_are_holdings part source h steps xs shown in
    let x : StandsFor w k a = stands_for w k shows a one.opened.0 one.held.0 in
    let y : StandsFor w k b = stands_for w k shows b one.opened.1 one.held.1 in
    let names : NamesTell w = shown.names xs [] (sym (append-nil xs)) in
    let safe : IsExclusive w = shown.promised.served.sound.safe xs [] (sym (append-nil xs)) in
    let same : of_resource x.held.lockspace x.held.resource ≡ of_resource y.held.lockspace y.held.resource =
    ap (λ (r : Row). r.resource) x.row ∙ one.resource ∙ sym (ap (λ (r : Row). r.resource) y.row) in
    let place = names.place (holding a.machine x.held) (holding b.machine y.held) x.there y.there same in
    let both = and_true (is_shared x.held.mode) (is_shared y.held.mode) (both_shared w (holding a.machine x.held) (holding b.machine y.held) safe x.there y.there one.apart place) in (
      sym (ap (λ (r : Row). r.shape) x.row) ∙ shape_shared x.held.mode both.0,
      sym (ap (λ (r : Row). r.shape) y.row) ∙ shape_shared y.held.mode both.1,
    )
