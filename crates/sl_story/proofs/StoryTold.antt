-- What each step of a story comes to, and what is owed where it ends.
use Rattle.sl_io.specs.FaultCauses.{Rose}
use Rattle.sl_play.proofs.LinesPlayed.{read_same, takes_so}
use Rattle.sl_play.specs.Plays.{Begins, IsPlaying, PlayState, PlaysOn, TakesLines}
use Rattle.sl_play.specs.Replays.{MayPlay}
use Rattle.sl_report.specs.Languages.{whole_language}
use Rattle.sl_report.specs.OwedReports.{IsFrontOf}
use Rattle.sl_report.specs.Schedules.{NumberedLine, event_line, greatest_source, numbered_lines}
use Rattle.sl_run.specs.Headers.{IsHeader}
use Rattle.sl_run.specs.Worlds.{World}
use Rattle.sl_run.specs.declared.event.Refusal.{Refusal}
use Rattle.sl_run.specs.declared.header.Header.{Header}
use Rattle.sl_story.proofs.StoriesBegin.{are_stories}
use Rattle.sl_story.proofs.StoryPlays.{same_play, telling_first, tells_on, told_so}
use Rattle.sl_story.specs.StoryHeaders.{story_header, story_lines}
use Rattle.sl_story.specs.StoryPlays.{GoesOn, In_part, IsTelling, MovesOn, No_line, No_memory, No_room, One_line, Opens, Part, PutsLine, TakesFirst, TakesText, TellsOn, TellsOne, Unput, Whole, fed, left_behind, line_at}
use Rattle.sl_story.specs.ToldSchedules.{All, Fewer, Lacks, Nothing, Part as In_front, Tells, ToldBy, says}
use Rattle.sl_story.specs.declared.header.Opening.{Opening}
use Rattle.sl_story.specs.declared.place.Place.{Place}
use Rattle.sl_story.specs.declared.story.One.TheVariants as one
use Rattle.sl_story.specs.declared.story.One.{One}
use Rattle.sl_story.specs.declared.story.Left.{Left}
use Rattle.sl_story.specs.declared.story.Taken.{Taken}
use Rattle.sl_story.specs.declared.story.Told.TheVariants as ended
use Rattle.sl_story.specs.declared.story.Told.{Told}
use Rattle.sl_text.specs.Forms.{Form, as_bytes}
use Rattle.sl_trace.specs.Traces.{Setting, Trace}
use Rattle.sl_trace.specs.declared.command.Command.{Command}
use Rattle.sl_world_state.specs.Daemons.{program_of}
use Rattle.sl_world_state.specs.SaneWorlds.{ReadsCommands}
use Rattle.std.proofs.Common.{Bool, List, None, Option, Some, [], ap, arith, false, if◌then◌else◌, length, refl, string_bytes, subst, sym, true, ℕ, ◌++◌, ◌+◌, ◌-◌, ◌<◌, ◌==◌, ◌∙◌, ◌∷◌, ◌≡◌, ◌≤◌}
use Rattle.std.proofs.KnownBytes.{Appends-nil, Appends-trans}
use Rattle.std.proofs.lemmas.List.{append-nil, append_assoc}
use Rattle.std.specs.Io.KnownBytes.{Appends}
use Rattle.std.proofs.lemmas.Bool.Decides.{nat_tests}
use Rattle.std.specs.Option.{option_to_list}
use Rattle.std.specs.Prelude.{Err, Ok}

module _ {D : Type 0} (commands : Header → List (Form Command)) (stands : D → Setting → Trace → Type 0) where
  -- ---- a text is tried

  abbrev pub PlaysLine : PlayState D → NumberedLine → List ℕ → PlayState D → List ℕ → Option Refusal → Type 0
  PlaysLine p l out n now o =
      (w : World) → PlaysOn commands stands p w → TakesLines commands stands w p (option_to_list (event_line whole_language p.kept.header l)) l.number out n now o

  pub text_taken : (a b : Place) (line out now : List ℕ) (p n : PlayState D) (l : NumberedLine) (o : Option Refusal) → says line ≡ true → b.lines ≡ a.lines + 1
      → b.bytes ≡ a.bytes + length line + 1 → b.bytes ≤ greatest_source → l ≡ line_at b.lines a.bytes line → out ≡ [] → o ≡ None → PlaysLine p l out n now o
      → TellsOn commands stands a line p b n
  text_taken a b line out now p n l o saying lines bytes inside same none is plays =
      tells_on commands stands a b line p n now saying lines bytes inside (takes_so commands stands p n l (line_at b.lines a.bytes line) out now o None same none is plays)

  pub text_plays : (out now : List ℕ) (p n : PlayState D) (l : NumberedLine) (o : Option Refusal) → out ≡ [] → o ≡ None → PlaysLine p l out n now o → IsPlaying commands stands p
      → IsPlaying commands stands n
  text_plays out now p n l o none is plays s =
      let g = takes_so commands stands p n l l out now o None refl none is plays s.world s.plays in record { world = g.world; plays = g.plays }

  pub text_refused : (out now : List ℕ) (p n : PlayState D) (l : NumberedLine) (o : Option Refusal) (why : Refusal) → o ≡ Some why → PlaysLine p l out n now o → IsPlaying commands stands p → n ≡ p
  text_refused out now p n l o why is plays s =
      let x : TakesLines commands stands s.world p (option_to_list (event_line whole_language p.kept.header l)) l.number out n now (Some why) =
      subst (TakesLines commands stands s.world p (option_to_list (event_line whole_language p.kept.header l)) l.number out n now) is (plays s.world s.plays) in
      same_play commands stands p n x.same

  pub line_taken : (a b : Place) (line text : List ℕ) (p n : PlayState D) (o : Option Place) → text ≡ line → o ≡ Some b → TakesText commands stands a text p n o
      → TellsOn commands stands a line p b n
  line_taken a b line text p n o same is takes = subst (λ l. TellsOn commands stands a l p b n) same (subst (TakesText commands stands a text p n) is takes)

  pub line_left : (a : Place) (text : List ℕ) (p n : PlayState D) (o : Option Place) → o ≡ None → TakesText commands stands a text p n o → n ≡ p
  line_left a text p n o is takes = subst (TakesText commands stands a text p n) is takes

  pub first_taken : (a : Place) (p q n : PlayState D) (o : Option Taken) (t : Taken) → q ≡ p → o ≡ Some t → TakesFirst commands stands a q n o
      → TellsOn commands stands a (string_bytes t.line) p t.place n
  first_taken a p q n o t still is takes =
      subst (λ (s : PlayState D). TellsOn commands stands a (string_bytes t.line) s t.place n) still (subst (TakesFirst commands stands a q n) is takes)

  pub none_taken : (a : Place) (p q n : PlayState D) (o : Option Taken) → q ≡ p → o ≡ None → TakesFirst commands stands a q n o → n ≡ p
  none_taken a p q n o still is takes = subst (TakesFirst commands stands a q n) is takes ∙ still

  pub none_first : (a : Place) (p n : PlayState D) (o : Option Taken) → o ≡ None → TakesFirst commands stands a p n o → n ≡ p
  none_first a p n o is takes = subst (TakesFirst commands stands a p n) is takes

  pub some_first : (a : Place) (p n : PlayState D) (o : Option Taken) (t : Taken) → o ≡ Some t → TakesFirst commands stands a p n o
      → TellsOn commands stands a (string_bytes t.line) p t.place n
  some_first a p n o t is takes = subst (TakesFirst commands stands a p n) is takes

  pub goes_on : (o : One) (P : Type 0) → P → GoesOn o P
  goes_on (one.Line b) P x = x
  goes_on one.Nothing P x = x
  goes_on one.Full P x = tt
  goes_on one.WriteFault P x = tt
  goes_on one.NoMemory P x = tt

  pub still_plays : (p n : PlayState D) → n ≡ p → IsPlaying commands stands p → IsPlaying commands stands n
  still_plays p n is s = subst (IsPlaying commands stands) (sym is) s

  -- ---- an act

  pub line_put : (a b : Place) (line : List ℕ) (taken now : Option (List ℕ)) (faults later : ℕ) (p n : PlayState D) (o : One) → PutsLine line b taken now faults later o
      → TellsOn commands stands a line p b n → TellsOne commands stands a taken now faults later p n o
  line_put a b line taken now faults later p n o (Whole appends) on = One_line line b appends on
  line_put a b line taken now faults later p n o (Part front appends begins rose) on = In_part line front b appends begins rose on
  line_put a b line taken now faults later p n o (Unput appends) on = No_memory appends

  -- ---- several acts

  -- So many lines have been put out behind those that stood.
  abbrev pub ToldSoFar : Place → PlayState D → Option (List ℕ) → ℕ → Place → PlayState D → Option (List ℕ) → Type 0
  ToldSoFar a first since told b p now =
      (hosts : ℕ) (paired : Bool) (written : List ℕ) (before : Option (List ℕ)) → IsTelling commands stands hosts paired 0 a.lines a.bytes written first → Appends before since written
      → (text : List ℕ) × Appends before now text × IsTelling commands stands hosts paired told b.lines b.bytes text p

  -- A front of one line more has been.
  abbrev pub ToldInPart : Place → PlayState D → Option (List ℕ) → ℕ → Option (List ℕ) → Type 0
  ToldInPart a first since told now =
      (hosts : ℕ) (paired : Bool) (written : List ℕ) (before : Option (List ℕ)) → IsTelling commands stands hosts paired 0 a.lines a.bytes written first → Appends before since written
      → (text : List ℕ) × (whole : List ℕ) × Appends before now text × IsFrontOf text whole × ToldBy commands stands hosts paired told whole

  -- They are a whole schedule.
  abbrev pub ToldWhole : Place → PlayState D → Option (List ℕ) → ℕ → Option (List ℕ) → Type 0
  ToldWhole a first since told now =
      (hosts : ℕ) (paired : Bool) (written : List ℕ) (before : Option (List ℕ)) → IsTelling commands stands hosts paired 0 a.lines a.bytes written first → Appends before since written
      → (text : List ℕ) × Appends before now text × ToldBy commands stands hosts paired told text

  pub whole_so : (a b : Place) (first p : PlayState D) (since now : Option (List ℕ)) (told : ℕ) → ToldSoFar a first since told b p now → ToldWhole a first since told now
  whole_so a b first p since now told so hosts paired written before t appends =
      let x = so hosts paired written before t appends in (x.0, x.1, told_so commands stands hosts paired told b.lines b.bytes x.0 p x.2)

  -- What an act leaves.
  abbrev pub AfterOne : Place → PlayState D → Option (List ℕ) → ℕ → Place → Option (List ℕ) → ℕ → ℕ → PlayState D → One → Type 0
  AfterOne a first since told b now faults later n (one.Line c) = ToldSoFar a first since (told + 1) c n now
  AfterOne a first since told b now faults later n one.Nothing = ToldSoFar a first since told b n now
  AfterOne a first since told b now faults later n one.Full = ToldSoFar a first since told b n now × (greatest_source < b.bytes + 10)
  AfterOne a first since told b now faults later n one.WriteFault = ToldInPart a first since (told + 1) now × Rose faults later
  AfterOne a first since told b now faults later n one.NoMemory = ToldWhole a first since told now

  -- Nothing was put out, and the play stands as it stood.
  none_more : (a b : Place) (first p n : PlayState D) (since taken now : Option (List ℕ)) (told : ℕ) → ToldSoFar a first since told b p taken → Appends taken now [] → n ≡ p
      → ToldSoFar a first since told b n now
  none_more a b first p n since taken now told so appends same hosts paired written before t since_it =
      let x = so hosts paired written before t since_it in (
        x.0,
        subst (Appends before now) (append-nil x.0) (Appends-trans before taken now x.0 [] x.1 appends),
        subst (IsTelling commands stands hosts paired told b.lines b.bytes x.0) (sym same) x.2,
      )

  pub after_one : (a b : Place) (first p n : PlayState D) (since taken now : Option (List ℕ)) (told faults later : ℕ) (o : One) → ToldSoFar a first since told b p taken
      → TellsOne commands stands b taken now faults later p n o → AfterOne a first since told b now faults later n o
  after_one a b first p n since taken now told faults later o so (One_line line c appends on) = λ hosts paired written before t since_it.
      let x = so hosts paired written before t since_it in
      (x.0 ++ fed line, Appends-trans before taken now x.0 (fed line) x.1 appends, on hosts paired told x.0 x.2)
  after_one a b first p n since taken now told faults later o so (No_line appends same) = none_more a b first p n since taken now told so appends same
  after_one a b first p n since taken now told faults later o so (No_room appends same full) = (none_more a b first p n since taken now told so appends same, full)
  after_one a b first p n since taken now told faults later o so (In_part line front c appends begins rose on) = (
    (λ hosts paired written before t since_it.
        let x = so hosts paired written before t since_it in (
          x.0 ++ front,
          x.0 ++ fed line,
          Appends-trans before taken now x.0 front x.1 appends,
          (begins.0, ap (λ z. x.0 ++ z) begins.1 ∙ sym (append_assoc x.0 front begins.0)),
          told_so commands stands hosts paired (told + 1) c.lines c.bytes (x.0 ++ fed line) n (on hosts paired told x.0 x.2),
        )),
    rose,
  )
  after_one a b first p n since taken now told faults later o so (No_memory appends) = λ hosts paired written before t since_it.
      let x = so hosts paired written before t since_it in
      (x.0, subst (Appends before now) (append-nil x.0) (Appends-trans before taken now x.0 [] x.1 appends), told_so commands stands hosts paired told b.lines b.bytes x.0 p x.2)

  -- What is left, by what the act came to.
  pub kept_on : (a : Place) (first n : PlayState D) (since now : Option (List ℕ)) (events faults later : ℕ) (at next : Left) (o : One) → 0 < at.lines → at.lines ≤ events
      → Ok next ≡ left_behind at o → AfterOne a first since (events - at.lines) at.place now faults later n o
      → (next.lines ≤ events) × ToldSoFar a first since (events - next.lines) next.place n now
  kept_on a first n since now events faults later at next (one.Line c) some few is after =
      let same : next ≡ record { lines = at.lines - 1; acts = at.acts - 1; place = c } = cc in
      subst (λ (x : Left). (x.lines ≤ events) × ToldSoFar a first since (events - x.lines) x.place n now) (sym same)
      (fewer at.lines events few, subst (λ k. ToldSoFar a first since k c n now) (one_more at.lines events some few) after)
    where
      fewer : (k n : ℕ) → k ≤ n → k - 1 ≤ n
      fewer k n h = omega (arith, h)

      one_more : (k n : ℕ) → 0 < k → k ≤ n → n - k + 1 ≡ n - (k - 1)
      one_more k n h i = omega (arith, h, i)
  kept_on a first n since now events faults later at next one.Nothing some few is after =
      let same : next ≡ record { lines = at.lines; acts = at.acts - 1; place = at.place } = cc in
      subst (λ (x : Left). (x.lines ≤ events) × ToldSoFar a first since (events - x.lines) x.place n now) (sym same) (few, after)
  kept_on a first n since now events faults later at next one.Full some few is after = absurd cc
  kept_on a first n since now events faults later at next one.WriteFault some few is after = absurd cc
  kept_on a first n since now events faults later at next one.NoMemory some few is after = absurd cc

  pub plays_on : (at next : Left) (o : One) (P : Type 0) → Ok next ≡ left_behind at o → GoesOn o P → P
  plays_on at next (one.Line c) P is x = x
  plays_on at next one.Nothing P is x = x
  plays_on at next one.Full P is x = absurd cc
  plays_on at next one.WriteFault P is x = absurd cc
  plays_on at next one.NoMemory P is x = absurd cc

  pub told_none : (a : Place) (p : PlayState D) (since : Option (List ℕ)) → ToldSoFar a p since 0 a p since
  told_none a p since hosts paired written before t appends = (written, appends, t)

  pub told_first : (a : Place) (p : PlayState D) (since : Option (List ℕ)) (events : ℕ) → ToldSoFar a p since (events - events) a p since
  told_first a p since events = subst (λ k. ToldSoFar a p since k a p since) (none_left events) (told_none a p since)
    where
      none_left : (n : ℕ) → 0 ≡ n - n
      none_left n = omega arith

  -- ---- the end

  pub told_all : (a b : Place) (first p : PlayState D) (since now : Option (List ℕ)) (told events hosts : ℕ) (paired : Bool) (written : List ℕ) (before : Option (List ℕ)) (faults later : ℕ)
      → told ≡ events → ToldSoFar a first since told b p now → IsTelling commands stands hosts paired 0 a.lines a.bytes written first → Appends before since written
      → Tells commands stands hosts events paired before now faults later ended.Done
  told_all a b first p since now told events hosts paired written before faults later is so t appends =
      let x = whole_so a b first p since now told so hosts paired written before t appends in
      All x.0 x.1 (subst (λ k. ToldBy commands stands hosts paired k x.0) is x.2)

  pub told_few : (a b : Place) (first p : PlayState D) (since now : Option (List ℕ)) (told events hosts : ℕ) (paired : Bool) (written : List ℕ) (before : Option (List ℕ)) (faults later : ℕ)
      → told < events → ToldSoFar a first since told b p now × (greatest_source < b.bytes + 10) → IsTelling commands stands hosts paired 0 a.lines a.bytes written first
      → Appends before since written → Tells commands stands hosts events paired before now faults later ended.Short
  told_few a b first p since now told events hosts paired written before faults later few so t appends =
      let x = so.0 hosts paired written before t appends in
      Fewer told x.0 few (subst (λ k. greatest_source < k + 10) x.2.long so.1) x.1 (told_so commands stands hosts paired told b.lines b.bytes x.0 p x.2)

  pub told_part : (a : Place) (first : PlayState D) (since now : Option (List ℕ)) (told events hosts : ℕ) (paired : Bool) (written : List ℕ) (before : Option (List ℕ)) (f faults later : ℕ)
      → told ≤ events → f ≤ faults → ToldInPart a first since told now × Rose faults later → IsTelling commands stands hosts paired 0 a.lines a.bytes written first → Appends before since written
      → Tells commands stands hosts events paired before now f later ended.WriteFault
  told_part a first since now told events hosts paired written before f faults later few earlier so t appends =
      let x = so.0 hosts paired written before t appends in In_front told x.0 x.1 few x.2 x.3 x.4 (rose_then f faults later earlier so.1)
    where
      rose_then : (a b c : ℕ) → a ≤ b → Rose b c → Rose a c
      rose_then a b c h rose = omega (arith, h, rose)

  pub told_lacking : (a : Place) (first : PlayState D) (since now : Option (List ℕ)) (told events hosts : ℕ) (paired : Bool) (written : List ℕ) (before : Option (List ℕ)) (faults later : ℕ)
      → told < events → ToldWhole a first since told now → IsTelling commands stands hosts paired 0 a.lines a.bytes written first → Appends before since written
      → Tells commands stands hosts events paired before now faults later ended.NoMemory
  told_lacking a first since now told events hosts paired written before faults later few so t appends =
      let x = so hosts paired written before t appends in Lacks told x.0 few x.1 x.2

  -- The story ended at an act.
  pub stopped : (a : Place) (first n : PlayState D) (since now : Option (List ℕ)) (events : ℕ) (at : Left) (o : One) (end : Told) (hosts : ℕ) (paired : Bool) (written : List ℕ)
      (before : Option (List ℕ)) (f faults later : ℕ) → 0 < at.lines → at.lines ≤ events → f ≤ faults → Err end ≡ left_behind at o
      → AfterOne a first since (events - at.lines) at.place now faults later n o → IsTelling commands stands hosts paired 0 a.lines a.bytes written first → Appends before since written
      → Tells commands stands hosts events paired before now f later end
  stopped a first n since now events at (one.Line c) end hosts paired written before f faults later some few earlier is after t appends = absurd cc
  stopped a first n since now events at one.Nothing end hosts paired written before f faults later some few earlier is after t appends = absurd cc
  stopped a first n since now events at one.Full end hosts paired written before f faults later some few earlier is after t appends =
      let same : end ≡ ended.Short = cc in
      subst (Tells commands stands hosts events paired before now f later) (sym same)
      (told_few a at.place first n since now (events - at.lines) events hosts paired written before f later (not_all at.lines events some few) after t appends)
    where
      not_all : (k n : ℕ) → 0 < k → k ≤ n → n - k < n
      not_all k n h i = omega (arith, h, i)
  stopped a first n since now events at one.WriteFault end hosts paired written before f faults later some few earlier is after t appends =
      let same : end ≡ ended.WriteFault = cc in
      subst (Tells commands stands hosts events paired before now f later) (sym same)
      (told_part a first since now (events - at.lines + 1) events hosts paired written before f faults later (one_fewer at.lines events some few) earlier after t appends)
    where
      one_fewer : (k n : ℕ) → 0 < k → k ≤ n → n - k + 1 ≤ n
      one_fewer k n h i = omega (arith, h, i)
  stopped a first n since now events at one.NoMemory end hosts paired written before f faults later some few earlier is after t appends =
      let same : end ≡ ended.NoMemory = cc in
      subst (Tells commands stands hosts events paired before now f later) (sym same)
      (told_lacking a first since now (events - at.lines) events hosts paired written before f later (not_all at.lines events some few) after t appends)
    where
      not_all : (k n : ℕ) → 0 < k → k ≤ n → n - k < n
      not_all k n h i = omega (arith, h, i)

  -- All lines are told.
  pub told_end : (a : Place) (first p : PlayState D) (since now : Option (List ℕ)) (events : ℕ) (at : Left) (hosts : ℕ) (paired : Bool) (written : List ℕ) (before : Option (List ℕ))
      (faults later : ℕ) → at.lines ≡ 0 → ToldSoFar a first since (events - at.lines) at.place p now → IsTelling commands stands hosts paired 0 a.lines a.bytes written first
      → Appends before since written → Tells commands stands hosts events paired before now faults later ended.Done
  told_end a first p since now events at hosts paired written before faults later none so t appends =
      told_all a at.place first p since now (events - at.lines) events hosts paired written before faults later (all_of at.lines events none) so t appends
    where
      all_of : (k n : ℕ) → k ≡ 0 → n - k ≡ n
      all_of k n h = omega (arith, h)

  pub nothing_told : (hosts events : ℕ) (paired : Bool) (taken : Option (List ℕ)) (faults : ℕ) → Tells commands stands hosts events paired taken taken faults faults ended.NoMemory
  nothing_told hosts events paired taken faults = Nothing (Appends-nil taken)

  -- ---- the first lines

  pub opening_part : (hosts events : ℕ) (paired : Bool) (o : Opening) (p : PlayState D) (taken now : Option (List ℕ)) (front : List ℕ) (faults later : ℕ) → Opens hosts paired o
      → Begins commands stands o.header p → Appends taken now front → IsFrontOf front o.text.items → Rose faults later
      → Tells commands stands hosts events paired taken now faults later ended.WriteFault
  opening_part hosts events paired o p taken now front faults later opens begins appends fronts rose =
      In_front 0 front o.text.items (least_of events) appends fronts
      (told_so commands stands hosts paired 0 o.place.lines o.place.bytes o.text.items p (telling_first commands stands hosts paired o p opens begins)) rose
    where
      least_of : (n : ℕ) → 0 ≤ n
      least_of n = omega arith

  pub begun_plays : (h : Header) (p : PlayState D) → Begins commands stands h p → IsPlaying commands stands p
  begun_plays h p begins = record { world = _; plays = begins.plays }

-- ---- steps that end

-- One fewer is left, of lines or of acts.
pub fewer_left : (at next : Left) (o : One) → 0 < at.lines → Ok next ≡ left_behind at o → MovesOn at.acts o → next.lines + next.acts < at.lines + at.acts
fewer_left at next (one.Line c) some is moves =
    let same : next ≡ record { lines = at.lines - 1; acts = at.acts - 1; place = c } = cc in
    subst (λ (x : Left). x.lines + x.acts < at.lines + at.acts) (sym same) (one_fewer at.lines at.acts some)
  where
    one_fewer : (k n : ℕ) → 0 < k → (k - 1) + (n - 1) < k + n
    one_fewer k n h = omega (arith, h)
fewer_left at next one.Nothing some is moves =
    let same : next ≡ record { lines = at.lines; acts = at.acts - 1; place = at.place } = cc in
    subst (λ (x : Left). x.lines + x.acts < at.lines + at.acts) (sym same) (act_fewer at.lines at.acts moves)
  where
    act_fewer : (k n : ℕ) → 0 < n → k + (n - 1) < k + n
    act_fewer k n h = omega (arith, h)
fewer_left at next one.Full some is moves = absurd cc
fewer_left at next one.WriteFault some is moves = absurd cc
fewer_left at next one.NoMemory some is moves = absurd cc

pub moves_any : (acts : ℕ) (o : One) → 0 < acts → MovesOn acts o
moves_any acts (one.Line b) some = tt
moves_any acts one.Nothing some = some
moves_any acts one.Full some = tt
moves_any acts one.WriteFault some = tt
moves_any acts one.NoMemory some = tt

pub put_moves : (b : Place) (line : List ℕ) (taken now : Option (List ℕ)) (faults later : ℕ) (o : One) → PutsLine line b taken now faults later o → (acts : ℕ) → MovesOn acts o
put_moves b line taken now faults later o (Whole appends) acts = tt
put_moves b line taken now faults later o (Part front appends begins rose) acts = tt
put_moves b line taken now faults later o (Unput appends) acts = tt

-- A story's header is a good one.
pub good_header : (commands : Header → List (Form Command)) (hosts : ℕ) (paired : Bool) (o : Opening) → MayPlay commands → Opens hosts paired o
    → IsHeader o.header × ReadsCommands commands o.header
good_header commands hosts paired o may opens =
    let is : IsHeader (story_header hosts paired) =
    may.headers (as_bytes (story_lines hosts paired)) (story_header hosts paired) []
    (read_same (program_of commands) (numbered_lines (as_bytes (story_lines hosts paired))) [] 1 ∙ (are_stories hosts paired opens.hosts_are.0 opens.hosts_are.1).0) in
    subst (λ (h : Header). IsHeader h × ReadsCommands commands h) (sym opens.header_is) (is, may.reads (story_header hosts paired) is)
