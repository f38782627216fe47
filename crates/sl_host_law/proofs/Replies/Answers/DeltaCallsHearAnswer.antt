-- What a session's calls on delta sectors have with an answer to one of them: it is the newest, for they come one after another. And the
-- owners asked, with an answered write of a request.
use Rattle.sl_host_law.proofs.SharedFacts.PlainLists.{each_of, kept_if}
use Rattle.sl_area.specs.AreaSizes.{Layout, Sizes, layout_of, record_in}
use Rattle.sl_area.specs.AreaLayout.{sector_of}
use Rattle.sl_due.specs.DueRequests.{is_asked, is_fresh, owner_asked}
use Rattle.sl_host_state.specs.HeardInputs.{answered_at, asked_at, asked_hearing, joining_hearing, watch_hearing}
use Rattle.sl_host_state.proofs.LooksStay.{looks_stay}
use Rattle.sl_host_state.specs.KeptState.{HostState, JoinState}
use Rattle.sl_host_state.specs.declared.kept_parts.OpenCall.{OpenCall}
use Rattle.sl_host_state.specs.NewHost.{sizes_in}
use Rattle.sl_host_state.specs.HostStands.{AreInTurn, AskedStands, JoinStands, WatchKeeps, is_asked_in, kept_call, newest_of}
use Rattle.sl_host_state.specs.declared.kept_parts.JoinCall.{JoinCall}
use Rattle.sl_words.proofs.Lists.{any_of, contains_cases, contains_map, contains_none, head_is, kept}
use Rattle.sl_host_law.proofs.Replies.Answers.AnswerFindsItsCall.{IsOr}
use Rattle.sl_host_law.proofs.Replies.Answers.AnswerMarksOneCall.{all_answered, answered_still, found_heard, hear, hear_by, not_its, picked, same_call, told}
use Rattle.sl_host_law.specs.Replies.Answers.{AreIdSectors, FitsCall}
use Rattle.sl_host_law.proofs.Replies.PlainFilters.{found_kept, given_kept}
use Rattle.sl_trace.specs.DeltaDecisions.{claim_of, join_step_of}
use Rattle.sl_trace.specs.Sessions.{delta_written, is_delta_purpose, is_join_call, is_survey_purpose, join_call}
use Rattle.sl_trace.specs.Sightings.{look_of, seen_records, sightings}
use Rattle.sl_trace.specs.declared.sighting.Sighting.{Sighting}
use Rattle.sl_time.specs.Times.{fail}
use Rattle.sl_trace.specs.Traces.{Answered, Setting, Submitted, Trace, answer_of, bytes_given, gave, is_ok_answer}
use Rattle.sl_trace.specs.declared.effects.Call.{Call}
use Rattle.sl_trace.specs.declared.effects.Effects.{Effects}
use Rattle.sl_trace.specs.declared.effects.JoinStep.TheVariants.{ClaimWrite, FirstRead}
use Rattle.sl_trace.specs.declared.effects.JoinStep.{JoinStep}
use Rattle.sl_trace.specs.declared.effects.Purpose.TheVariants.{Joining, Lease, Leaving, Renewal, RequestRead, RequestWrite, SeeRequest, Survey, ValueRead, ValueWrite}
use Rattle.sl_trace.specs.declared.effects.Purpose.{Purpose}
use Rattle.sl_trace.specs.declared.input.Answer.TheVariants.{Failed, Read, Written}
use Rattle.sl_trace.specs.declared.input.Answer.{Answer}
use Rattle.sl_watch.proofs.ToldLaws.{same_seen, watches_are_told}
use Rattle.sl_watch.specs.ToldLooks.{AreTrue, delta_found, look_at, told_all}
use Rattle.sl_watch.specs.Watches.{WatchStands, Watched}
use Rattle.sl_words.proofs.CaseLaws.{is_false, none_some, not_both, some_value, true_is_false}
use Rattle.sl_words.specs.Words.{some_is}
use Rattle.std.proofs.Common.{ap, arith, inl, inr, refl, subst, sym, ◌∙◌}
use Rattle.std.proofs.lemmas.Bool.Decides.{nat_tests}
use Rattle.std.proofs.lemmas.Bool.{eqb-true}
use Rattle.std.proofs.lemmas.List.{get_or-set_other, get_or-set_same, length-set}
use Rattle.std.specs.Int.{is_in_range}
use Rattle.std.specs.List.{AllByRecursion, cons_option, list_any}
use Rattle.std.specs.Option.{option_map_or, option_or}
use Rattle.std.specs.Prelude.{Bool, Contains, IsTrue, List, None, Option, Some, cond, false, filter, filter_map, is_some, length, map, max, nat_le, nat_lt, option_and_then, option_map, slice_index_or, true, [], ℕ, ◌&&◌, ◌+◌, ◌-◌, ◌==◌, ◌∷◌, ◌≡◌, ◌≤◌, ◌⊎◌, ◌||◌}

-- The calls on delta sectors.
abbrev pub deltas : List Submitted → List Submitted
deltas ms = filter (λ d. is_delta_purpose d.call.purpose) ms

-- ---- which purposes are on delta sectors

not_a_step : (step : JoinStep) (p : Purpose) → is_delta_purpose p ≡ false → is_join_call step p ≡ false
not_a_step step (Joining j at) is = absurd (true_is_false is)
not_a_step step Renewal is = refl
not_a_step step Survey is = refl
not_a_step step (Leaving j) is = refl
not_a_step step (Lease work at) is = refl
not_a_step step (RequestRead j) is = refl
not_a_step step (RequestWrite j owner) is = refl
not_a_step step SeeRequest is = refl
not_a_step step (ValueWrite j) is = refl
not_a_step step (ValueRead j) is = refl

no_survey : (p : Purpose) → is_delta_purpose p ≡ false → is_survey_purpose p ≡ false
no_survey Survey is = absurd (true_is_false is)
no_survey (Joining j at) is = refl
no_survey Renewal is = refl
no_survey (Leaving j) is = refl
no_survey (Lease work at) is = refl
no_survey (RequestRead j) is = refl
no_survey (RequestWrite j owner) is = refl
no_survey SeeRequest is = refl
no_survey (ValueWrite j) is = refl
no_survey (ValueRead j) is = refl

step_is_delta : (p : Purpose) (step : JoinStep) → join_step_of p ≡ Some step → is_delta_purpose p ≡ true
step_is_delta (Joining j at) step is = refl
step_is_delta Survey step is = refl
step_is_delta Renewal step is = refl
step_is_delta (Leaving j) step is = refl
step_is_delta (Lease work at) step is = absurd (none_some step is)
step_is_delta (RequestRead j) step is = absurd (none_some step is)
step_is_delta (RequestWrite j owner) step is = absurd (none_some step is)
step_is_delta SeeRequest step is = absurd (none_some step is)
step_is_delta (ValueWrite j) step is = absurd (none_some step is)
step_is_delta (ValueRead j) step is = absurd (none_some step is)

no_step : (p : Purpose) → is_delta_purpose p ≡ false → join_step_of p ≡ None
no_step (Joining j at) is = absurd (true_is_false is)
no_step Survey is = refl
no_step Renewal is = refl
no_step (Leaving j) is = refl
no_step (Lease work at) is = refl
no_step (RequestRead j) is = refl
no_step (RequestWrite j owner) is = refl
no_step SeeRequest is = refl
no_step (ValueWrite j) is = refl
no_step (ValueRead j) is = refl

-- ---- an answer to one of a session's calls

-- The bytes of a read of all ids at this one.
abbrev sighting_by : HostState → OpenCall → List ℕ → ℕ → Sighting
sighting_by h c bytes id = record { before = c.reading; after = h.reading; bytes = sector_of h.config.layout bytes (id - 1) }

-- What was seen, with such a read.
abbrev seen_with : HostState → OpenCall → Answer → (ℕ → List Sighting) → ℕ → List Sighting
seen_with h c a before id =
    elim (is_survey_purpose c.purpose) as (λ z. List Sighting) [
      | false ↦ before id
      | true ↦ elim (bytes_given a) as (λ z. List Sighting) [ None ↦ before id | Some bytes ↦ sighting_by h c bytes id ∷ before id ]
    ]

or_false : (b : Bool) → (b || false) ≡ b
or_false true = refl
or_false false = refl

module _ (past : Trace) (now : ℕ) (fx : Effects) (a : Answer) (m : Submitted) where
  abbrev hears : Submitted → Submitted
  hears d = hear past now fx m.call.number a d

  -- The call with its answer.
  abbrev pub heard : Submitted
  heard = record m { answer = Some (answer_of past (told now fx m.call.number a) a m.call) }

  pub heard_is : (m.call.number == m.call.number) ≡ true → m.answer ≡ None → hears m ≡ heard
  heard_is its open_yet = ap (hear_by past now fx m.call.number a m) its ∙ ap (λ o. record m { answer = option_or o (Some (answer_of past (told now fx m.call.number a) a m.call)) }) open_yet

  -- The newest call on a delta sector is this one, all others are answered.
  pub record IsNewest (ms : List Submitted) : Type 0 where
    pub rest : List Submitted
    pub first : deltas ms ≡ m ∷ rest
    pub answered : AllByRecursion (λ d. IsTrue (is_some d.answer)) rest

  newest_in : (ds : List Submitted) → m.answer ≡ None → Contains ds m → AreInTurn ds → (rest : List Submitted) × (ds ≡ m ∷ rest) × AllByRecursion (λ d. IsTrue (is_some d.answer)) rest
  newest_in [] open_yet inside turn = absurd (contains_none m inside)
  newest_in (d ∷ ds) open_yet inside turn = by (contains_cases d ds m inside) where
    by : (d ≡ m) ⊎ Contains ds m → (rest : List Submitted) × (d ∷ ds ≡ m ∷ rest) × AllByRecursion (λ d. IsTrue (is_some d.answer)) rest
    by (inl is) = (ds, ap (λ e. e ∷ ds) is, turn)
    by (inr later) = absurd (true_is_false (sym (each_of (λ (d : Submitted). IsTrue (is_some d.answer)) ds m turn later) ∙ ap is_some open_yet))

  pub newest : (ms : List Submitted) → m.answer ≡ None → Contains ms m → AreInTurn (deltas ms) → is_delta_purpose m.call.purpose ≡ true → IsNewest ms
  newest ms open_yet inside turn is =
      let found = newest_in (deltas ms) open_yet (kept (λ (d : Submitted). is_delta_purpose d.call.purpose) ms m is inside) turn in
      record { rest = found.0; first = found.1; answered = found.2 }

  -- Where it is not on a delta sector, those that are stay as they are.
  none_heard : (ms : List Submitted) → AllByRecursion (IsOr m.call.number m) ms → is_delta_purpose m.call.purpose ≡ false → map hears (deltas ms) ≡ deltas ms
  none_heard [] alone is = refl
  none_heard (d ∷ ms) alone is = by (is_delta_purpose d.call.purpose) refl alone.0 (none_heard ms alone.1 is) where
    by : (b : Bool) → is_delta_purpose d.call.purpose ≡ b → IsOr m.call.number m d → map hears (deltas ms) ≡ deltas ms → map hears (cond b (d ∷ deltas ms) (deltas ms)) ≡ cond b (d ∷ deltas ms) (deltas ms)
    by true has (inl other) rest = ap (λ e. e ∷ map hears (deltas ms)) (not_its past now fx m.call.number a d other) ∙ ap (λ zs. d ∷ zs) rest
    by true has (inr same) rest = absurd (not_both (is_delta_purpose m.call.purpose) (subst (λ (z : Submitted). is_delta_purpose z.call.purpose ≡ true) same has) is)
    by false has o rest = rest

  -- Those on delta sectors after the answer: with the newest one answered, or as they were.
  pub deltas_heard : (ms : List Submitted) → deltas (map hears ms) ≡ map hears (deltas ms)
  deltas_heard ms = picked past now fx m.call.number a (λ c. is_delta_purpose c.purpose) ms

  pub newest_heard : (ms : List Submitted) → (m.call.number == m.call.number) ≡ true → m.answer ≡ None → (k : IsNewest ms) → deltas (map hears ms) ≡ heard ∷ k.rest
  newest_heard ms its open_yet k =
      deltas_heard ms ∙ ap (map hears) k.first ∙ ap (λ e. e ∷ map hears k.rest) (heard_is its open_yet) ∙ ap (λ zs. heard ∷ zs) (all_answered past now fx m.call.number a k.rest k.answered)

  pub others_heard : (ms : List Submitted) → AllByRecursion (IsOr m.call.number m) ms → is_delta_purpose m.call.purpose ≡ false → deltas (map hears ms) ≡ deltas ms
  others_heard ms alone is = deltas_heard ms ∙ none_heard ms alone is

  turn_heard : (ds : List Submitted) → AreInTurn ds → AreInTurn (map hears ds)
  turn_heard [] turn = tt
  turn_heard (d ∷ ds) turn = answered_still past now fx m.call.number a ds turn

  pub turn_is : (ms : List Submitted) → AreInTurn (deltas ms) → AreInTurn (deltas (map hears ms))
  turn_is ms turn = subst AreInTurn (sym (deltas_heard ms)) (turn_heard (deltas ms) turn)

  -- ---- what the reads of all ids show

  looks_away : (g : Layout) (id : ℕ) (d : Submitted) → is_delta_purpose d.call.purpose ≡ false → look_of g id d ≡ None
  looks_away g id d is =
      ap (λ b. elim b as (λ z. Option Sighting) [
        | false ↦ None
        | true ↦ option_and_then (λ (x : Answered). option_map (λ bytes. record { before = d.reading; after = x.reading; bytes = sector_of g bytes (id - 1) }) (bytes_given x.answer)) d.answer
      ]) (no_survey d.call.purpose is)

  of_deltas : (g : Layout) (id : ℕ) (ms : List Submitted) → sightings g id ms ≡ filter_map (look_of g id) (deltas ms)
  of_deltas g id ms = given_kept (look_of g id) (λ d. is_delta_purpose d.call.purpose) ms (looks_away g id)

  looks_not_yet : (g : Layout) (id : ℕ) → m.answer ≡ None → look_of g id m ≡ None
  looks_not_yet g id open_yet =
      ap (λ o. elim (is_survey_purpose m.call.purpose) as (λ z. Option Sighting) [
        | false ↦ None
        | true ↦ option_and_then (λ (x : Answered). option_map (λ bytes. record { before = m.reading; after = x.reading; bytes = sector_of g bytes (id - 1) }) (bytes_given x.answer)) o
      ]) open_yet ∙ by (is_survey_purpose m.call.purpose) where
        by : (b : Bool) → elim b as (λ z. Option Sighting) [ false ↦ None | true ↦ None ] ≡ None
        by true = refl
        by false = refl

  -- With the bytes of this one in front, if it is one.
  with_look : (f : List ℕ → Sighting) (zs : List Sighting) (survey : Bool) (o : Option (List ℕ))
      → cons_option (elim survey as (λ z. Option Sighting) [ false ↦ None | true ↦ option_map f o ]) zs
      ≡ elim survey as (λ z. List Sighting) [ false ↦ zs | true ↦ elim o as (λ z. List Sighting) [ None ↦ zs | Some bytes ↦ f bytes ∷ zs ] ]
  with_look f zs false o = refl
  with_look f zs true None = refl
  with_look f zs true (Some bytes) = refl

  pub sightings_are : (g : Layout) (id : ℕ) (ms : List Submitted) (h : HostState) (before : ℕ → List Sighting) → (m.call.number == m.call.number) ≡ true → m.answer ≡ None → Contains ms m
      → AllByRecursion (IsOr m.call.number m) ms → AreInTurn (deltas ms) → h.config.layout ≡ g → h.reading ≡ now → sightings g id ms ≡ before id
      → sightings g id (map hears ms) ≡ seen_with h (kept_call m) a before id
  sightings_are g id ms h before its open_yet inside alone turn layout reading seen = by (is_delta_purpose m.call.purpose) refl where
    -- What is seen, by the layout and the reading that are kept.
    seen_by : Layout → ℕ → List Sighting
    seen_by z r =
        elim (is_survey_purpose m.call.purpose) as (λ z. List Sighting) [
          | false ↦ before id
          | true ↦ elim (bytes_given a) as (λ z. List Sighting) [ None ↦ before id | Some bytes ↦ record { before = m.reading; after = r; bytes = sector_of z bytes (id - 1) } ∷ before id ]
        ]

    by : (b : Bool) → is_delta_purpose m.call.purpose ≡ b → sightings g id (map hears ms) ≡ seen_with h (kept_call m) a before id
    by true is =
        let k = newest ms open_yet inside turn is in
        let tail : filter_map (look_of g id) k.rest ≡ before id =
        sym (ap (λ o. cons_option o (filter_map (look_of g id) k.rest)) (looks_not_yet g id open_yet)) ∙ sym (ap (filter_map (look_of g id)) k.first) ∙ sym (of_deltas g id ms) ∙ seen in
        of_deltas g id (map hears ms) ∙ ap (filter_map (look_of g id)) (newest_heard ms its open_yet k) ∙ ap (cons_option (look_of g id heard)) tail
        ∙ with_look (λ bytes. record { before = m.reading; after = now; bytes = sector_of g bytes (id - 1) }) (before id) (is_survey_purpose m.call.purpose) (bytes_given a)
        ∙ ap (λ r. seen_by g r) (sym reading) ∙ ap (λ z. seen_by z h.reading) (sym layout)
    by false is =
        of_deltas g id (map hears ms) ∙ ap (filter_map (look_of g id)) (others_heard ms alone is) ∙ sym (of_deltas g id ms) ∙ seen
        ∙ sym (ap (λ b. elim b as (λ z. List Sighting) [
          | false ↦ before id
          | true ↦ elim (bytes_given a) as (λ z. List Sighting) [ None ↦ before id | Some bytes ↦ record { before = m.reading; after = h.reading; bytes = sector_of h.config.layout bytes (id - 1) } ∷ before id ]
        ]) (no_survey m.call.purpose is))

  -- The watch is told of what is seen more.
  pub watch_is : (st : Setting) (h : HostState) (w : Watched) (ms : List Submitted) → (m.call.number == m.call.number) ≡ true → m.answer ≡ None → Contains ms m
      → AllByRecursion (IsOr m.call.number m) ms → AreInTurn (deltas ms) → h.config.layout ≡ st.layout → h.reading ≡ now → FitsCall h.config.layout a (kept_call m) → WatchKeeps st w ms
      → WatchKeeps st (watch_hearing h (kept_call m) a w) (map hears ms)
  watch_is st h w ms its open_yet inside alone turn layout reading fits k = by (is_survey_purpose m.call.purpose) (bytes_given a) refl refl where
    before : ℕ → List Sighting
    before id = sightings st.layout id ms

    are : (id : ℕ) → sightings st.layout id (map hears ms) ≡ seen_with h (kept_call m) a before id
    are id = sightings_are st.layout id ms h before its open_yet inside alone turn layout reading refl

    seen_by_kind : Bool → Option (List ℕ) → ℕ → List Sighting
    seen_by_kind b o id =
        elim b as (λ z. List Sighting) [
          | false ↦ before id
          | true ↦ elim o as (λ z. List Sighting) [ None ↦ before id | Some bytes ↦ sighting_by h (kept_call m) bytes id ∷ before id ]
        ]

    watch_by : Bool → Option (List ℕ) → Watched
    watch_by b o =
        elim b as (λ z. Watched) [
          | false ↦ w
          | true ↦ elim o as (λ z. Watched) [ None ↦ w | Some bytes ↦ told_all m.reading h.reading h.config.layout bytes w ]
        ]

    sectors : (x : Answer) (bytes : List ℕ) → FitsCall h.config.layout x (kept_call m) → bytes_given x ≡ Some bytes → is_survey_purpose m.call.purpose ≡ true → AreIdSectors h.config.layout bytes
    sectors (Read bytes) other f gives survey = subst (AreIdSectors h.config.layout) (some_value bytes other gives) (f.1 survey)
    sectors Written other f gives survey = absurd (none_some other gives)
    sectors Failed other f gives survey = absurd (none_some other gives)

    told : (bytes : List ℕ) → AreIdSectors h.config.layout bytes → ((id : ℕ) → sightings st.layout id (map hears ms) ≡ sighting_by h (kept_call m) bytes id ∷ before id)
        → WatchKeeps st (told_all m.reading h.reading h.config.layout bytes w) (map hears ms)
    told bytes sound now_seen =
        let g : h.config.layout ≡ layout_of w.sizes = layout ∙ sym k.sized in
        let all : AreTrue w.sizes bytes = subst (λ y. AreTrue (sizes_in y) bytes) g sound.within in
        record {
          timed = watches_are_told.timing w m.reading h.reading h.config.layout bytes ∙ k.timed;
          sized = ap layout_of (watches_are_told.sizes w m.reading h.reading h.config.layout bytes) ∙ k.sized;
          count = watches_are_told.count w m.reading h.reading h.config.layout bytes ∙ k.count ∙ sym (ap (λ (z : Sizes). z.hosts) (watches_are_told.sizes w m.reading h.reading h.config.layout bytes));
          stands = same_seen (told_all m.reading h.reading h.config.layout bytes w) (λ id. look_at m.reading h.reading h.config.layout bytes id ∷ before id) (λ id. sightings st.layout id (map hears ms))
              (λ id one most. sym (now_seen id))
              (subst (λ y. WatchStands (told_all m.reading h.reading y bytes w) (λ id. look_at m.reading h.reading y bytes id ∷ before id)) (sym g)
              (watches_are_told.all w before m.reading h.reading bytes k.stands k.count all));
          beyond = λ id out.
              ap (seen_records st.layout id) (now_seen id)
              ∙ ap (λ o. cons_option o (seen_records st.layout id (before id)))
              (ap (λ y. delta_found id (record_in y (sector_of h.config.layout bytes (id - 1)))) (sym layout) ∙ sound.beyond id (subst (λ (y : Layout). is_in_range 1 y.hosts id ≡ false) (sym layout) out))
              ∙ k.beyond id out;
        }

    by : (b : Bool) (o : Option (List ℕ)) → is_survey_purpose m.call.purpose ≡ b → bytes_given a ≡ o → WatchKeeps st (watch_hearing h (kept_call m) a w) (map hears ms)
    by false o e f =
        subst (λ v. WatchKeeps st v (map hears ms)) (sym (ap (λ z. watch_by z (bytes_given a)) e))
        (looks_stay st w ms (map hears ms) (λ id. are id ∙ ap (λ z. seen_by_kind z (bytes_given a) id) e) k)
    by true None e f =
        subst (λ v. WatchKeeps st v (map hears ms)) (sym (ap (λ z. watch_by z (bytes_given a)) e ∙ ap (watch_by true) f))
        (looks_stay st w ms (map hears ms) (λ id. are id ∙ ap (λ z. seen_by_kind z (bytes_given a) id) e ∙ ap (λ z. seen_by_kind true z id) f) k)
    by true (Some bytes) e f =
        subst (λ v. WatchKeeps st v (map hears ms)) (sym (ap (λ z. watch_by z (bytes_given a)) e ∙ ap (watch_by true) f))
        (told bytes (sectors a bytes fits f e) (λ id. are id ∙ ap (λ z. seen_by_kind z (bytes_given a) id) e ∙ ap (λ z. seen_by_kind true z id) f))

  -- ---- what a joining has read

  steps_of_deltas : (step : JoinStep) (ms : List Submitted) → join_call ms step ≡ join_call (deltas ms) step
  steps_of_deltas step ms = found_kept (λ d. is_join_call step d.call.purpose) (λ d. is_delta_purpose d.call.purpose) ms (λ d is. not_a_step step d.call.purpose is)

  -- What is read of the newest call of this step.
  step_read : {B : Type 0} (step : JoinStep) (f : Submitted → Option B) (ms : List Submitted) (kept_one : Option B) → (m.call.number == m.call.number) ≡ true → m.answer ≡ None → Contains ms m
      → AllByRecursion (IsOr m.call.number m) ms → AreInTurn (deltas ms) → option_and_then f (join_call ms step) ≡ kept_one
      → option_and_then f (join_call (map hears ms) step) ≡ cond (is_join_call step m.call.purpose) (f heard) kept_one
  step_read {B = B} step f ms kept_one its open_yet inside alone turn was = by (is_delta_purpose m.call.purpose) refl where
    first : (b : Bool) (rest : List Submitted) → option_and_then f (cond b (Some m) (join_call rest step)) ≡ kept_one → option_and_then f (cond b (Some heard) (join_call rest step)) ≡ cond b (f heard) kept_one
    first true rest same = refl
    first false rest same = same

    by : (b : Bool) → is_delta_purpose m.call.purpose ≡ b → option_and_then f (join_call (map hears ms) step) ≡ cond (is_join_call step m.call.purpose) (f heard) kept_one
    by true is =
        let k = newest ms open_yet inside turn is in
        ap (option_and_then f) (steps_of_deltas step (map hears ms) ∙ ap (λ ds. join_call ds step) (newest_heard ms its open_yet k))
        ∙ first (is_join_call step m.call.purpose) k.rest (sym (ap (option_and_then f) (steps_of_deltas step ms ∙ ap (λ ds. join_call ds step) k.first)) ∙ was)
    by false is =
        ap (option_and_then f) (steps_of_deltas step (map hears ms) ∙ ap (λ ds. join_call ds step) (others_heard ms alone is) ∙ sym (steps_of_deltas step ms)) ∙ was
        ∙ sym (ap (λ b. cond b (f heard) kept_one) (not_a_step step m.call.purpose is))

  claim_is : (ms : List Submitted) → claim_of (map hears ms) ≡ claim_of ms
  claim_is ms = ap (option_and_then delta_written) (found_heard past now fx m.call.number a (λ c. is_join_call ClaimWrite c.purpose) ms) ∙ by (join_call ms ClaimWrite) where
    by : (o : Option Submitted) → option_and_then delta_written (option_map (hear past now fx m.call.number a) o) ≡ option_and_then delta_written o
    by None = refl
    by (Some d) = ap (λ (c : Call). delta_written (record d { call = c })) (same_call past now fx m.call.number a d)

  -- Its newest call, by what the first call of the list is.
  newest_is : (ms : List Submitted) (h : HostState) (j : Option JoinCall) → (m.call.number == m.call.number) ≡ true → m.answer ≡ None → Contains ms m → AllByRecursion (IsOr m.call.number m) ms
      → AreInTurn (deltas ms) → h.reading ≡ now → newest_of ms ≡ j → newest_of (map hears ms) ≡ cond (is_some (join_step_of m.call.purpose)) (option_map (answered_at h.reading) j) j
  newest_is [] h j its open_yet inside alone turn reading was = absurd (contains_none m inside)
  newest_is (d ∷ ms) h j its open_yet inside alone turn reading was = by (join_step_of d.call.purpose) refl alone.0 where
    -- The kept newest call of a call.
    made : Submitted → Option JoinStep → Option JoinCall
    made e o = option_map (λ step. record { step = step; made = e.reading; answered = option_map (λ x. x.reading) e.answer }) o

    none_stays : (b : Bool) → None ≡ cond b (option_map (answered_at h.reading) None) None
    none_stays true = refl
    none_stays false = refl

    it_is : (step : JoinStep) → join_step_of m.call.purpose ≡ Some step → made m (Some step) ≡ j → made heard (Some step) ≡ cond (is_some (join_step_of m.call.purpose)) (option_map (answered_at h.reading) j) j
    it_is step is same =
        ap (λ r. Some (record { step = step; made = m.reading; answered = Some r })) (sym reading)
        ∙ ap (λ o. option_map (answered_at h.reading) (Some (record { step = step; made = m.reading; answered = option_map (λ (x : Answered). x.reading) o }))) (sym open_yet)
        ∙ ap (option_map (answered_at h.reading)) same
        ∙ sym (ap (λ b. cond b (option_map (answered_at h.reading) j) j) (ap is_some is))

    other_is : (step : JoinStep) → join_step_of d.call.purpose ≡ Some step → (d.call.number == m.call.number) ≡ false → is_delta_purpose m.call.purpose ≡ false
    other_is step is other = is_false (is_delta_purpose m.call.purpose) (λ delta.
        let k = newest (d ∷ ms) open_yet inside turn delta in
        let front : d ∷ deltas ms ≡ m ∷ k.rest = sym (kept_if (λ (d : Submitted). is_delta_purpose d.call.purpose) d ms true (step_is_delta d.call.purpose step is)) ∙ k.first in
        not_both (m.call.number == m.call.number) its (subst (λ (z : Submitted). (z.call.number == m.call.number) ≡ false) (head_is d m (deltas ms) k.rest front) other))

    by : (o : Option JoinStep) → join_step_of d.call.purpose ≡ o → IsOr m.call.number m d
        → newest_of (map hears (d ∷ ms)) ≡ cond (is_some (join_step_of m.call.purpose)) (option_map (answered_at h.reading) j) j
    by None is either =
        ap (λ (c : Call). made (record (hears d) { call = c }) (join_step_of c.purpose)) (same_call past now fx m.call.number a d) ∙ ap (made (hears d)) is
        ∙ none_stays (is_some (join_step_of m.call.purpose)) ∙ ap (λ o. cond (is_some (join_step_of m.call.purpose)) (option_map (answered_at h.reading) o) o) (sym (ap (made d) is) ∙ was)
    by (Some step) is (inr same) =
        let step_is = subst (λ (z : Submitted). join_step_of z.call.purpose ≡ Some step) same is in
        ap (λ (e : Submitted). made (hears e) (join_step_of (hears e).call.purpose)) same ∙ ap (λ (e : Submitted). made e (join_step_of e.call.purpose)) (heard_is its open_yet)
        ∙ ap (made heard) step_is ∙ it_is step step_is (sym (ap (made m) step_is) ∙ sym (ap (λ (e : Submitted). made e (join_step_of e.call.purpose)) same) ∙ was)
    by (Some step) is (inl other) =
        ap (λ (e : Submitted). made e (join_step_of e.call.purpose)) (not_its past now fx m.call.number a d other) ∙ was
        ∙ sym (ap (λ b. cond b (option_map (answered_at h.reading) j) j) (ap is_some (no_step m.call.purpose (other_is step is other))))

  pub joining_is : (ms : List Submitted) (h : HostState) (j : JoinState) → (m.call.number == m.call.number) ≡ true → m.answer ≡ None → Contains ms m → AllByRecursion (IsOr m.call.number m) ms
      → AreInTurn (deltas ms) → h.reading ≡ now → JoinStands j ms → JoinStands (joining_hearing h (kept_call m) a j) (map hears ms)
  joining_is ms h j its open_yet inside alone turn reading s =
      record {
        watched = step_read FirstRead gave ms j.watched its open_yet inside alone turn s.watched;
        since = step_read FirstRead (λ d. option_map (λ (x : Answered). x.reading) d.answer) ms j.since its open_yet inside alone turn s.since
            ∙ ap (λ r. cond (is_join_call FirstRead m.call.purpose) (Some r) j.since) (sym reading);
        claim = claim_is ms ∙ s.claim;
        newest = newest_is ms h j.newest its open_yet inside alone turn reading s.newest;
      }

  -- ---- the owners asked

  any_heard : (p : Submitted → Bool) (ms : List Submitted) → (m.call.number == m.call.number) ≡ true → m.answer ≡ None → Contains ms m → AllByRecursion (IsOr m.call.number m) ms → p m ≡ false
      → list_any p (map hears ms) ≡ (p heard || list_any p ms)
  any_heard p ms its open_yet inside alone before = by (p heard) refl where
    one_same : (d : Submitted) → p heard ≡ false → IsOr m.call.number m d → p (hears d) ≡ p d
    one_same d is (inl other) = ap p (not_its past now fx m.call.number a d other)
    one_same d is (inr same) = ap p (ap (hear past now fx m.call.number a) same ∙ heard_is its open_yet) ∙ is ∙ sym before ∙ sym (ap p same)

    all_same : (ds : List Submitted) → p heard ≡ false → AllByRecursion (IsOr m.call.number m) ds → list_any p (map hears ds) ≡ list_any p ds
    all_same [] is all = refl
    all_same (d ∷ ds) is all = ap (λ b. b || list_any p (map hears ds)) (one_same d is all.0) ∙ ap (λ b. p d || b) (all_same ds is all.1)

    by : (b : Bool) → p heard ≡ b → list_any p (map hears ms) ≡ (b || list_any p ms)
    by true is = any_of p (map hears ms) heard is (subst (Contains (map hears ms)) (heard_is its open_yet) (contains_map hears ms m inside))
    by false is = all_same ms is alone

  -- Who is asked with this write of a request, by its owner and answer.
  one_asked : (st : Setting) (h : HostState) (asked : List (Option ℕ)) (at owner : ℕ) (o : Option ℕ) (ok : Bool) → length asked ≡ st.layout.hosts → 1 ≤ owner → owner ≤ st.layout.hosts
      → ((some_is (λ z. z == owner) o && (ok && nat_lt at (h.reading + fail st.timing))) || is_asked_in st asked at owner)
      ≡ is_asked_in st (elim o as (λ z. List (Option ℕ)) [ None ↦ asked | Some z ↦ cond (ok && nat_le 1 z) (asked_at h.reading z asked) asked ]) at owner
  one_asked st h asked at owner None ok count one most = refl
  one_asked st h asked at owner (Some z) ok count one most = by ok (nat_le 1 z) (z == owner) refl refl where
    fresh : Bool
    fresh = nat_lt at (h.reading + fail st.timing)

    -- The later of two readings is fresh where one of them is.
    later : (now deadline : ℕ) (o : Option ℕ) → (nat_lt at (now + deadline) || some_is (λ r. nat_lt at (r + deadline)) o) ≡ nat_lt at (option_map_or (max now) o now + deadline)
    later now deadline None = (let e : (nat_lt at (now + deadline) || false) ≡ nat_lt at (now + deadline) = or_false (nat_lt at (now + deadline)) in e)
    later now deadline (Some r) = grind (arith, nat_tests)

    by : (good low same : Bool) → nat_le 1 z ≡ low → (z == owner) ≡ same
        → ((same && (good && nat_lt at (h.reading + fail st.timing))) || is_asked_in st asked at owner) ≡ is_asked_in st (cond (good && low) (asked_at h.reading z asked) asked) at owner
    by false low true e f = refl
    by false low false e f = refl
    by true false false e f = refl
    by true false true e f = absurd (grind (arith, nat_tests, e, f, one))
    by true true false e f =
        ap (λ o. some_is (λ r. nat_lt at (r + fail st.timing)) o)
        (sym (get_or-set_other asked (z - 1) (owner - 1) (Some (option_map_or (max h.reading) (slice_index_or asked (z - 1) None) h.reading)) None (grind (arith, nat_tests, e, f, one))))
    by true true true e f =
        let same : z ≡ owner = eqb-true z owner f in
        later h.reading (fail st.timing) (slice_index_or asked (owner - 1) None)
        ∙ ap (λ o. some_is (λ r. nat_lt at (r + fail st.timing)) o)
        (sym (get_or-set_same asked (owner - 1) (Some (option_map_or (max h.reading) (slice_index_or asked (owner - 1) None) h.reading)) None (omega (arith, count, one, most))))
        ∙ ap (λ y. is_asked_in st (asked_at h.reading y asked) at owner) (sym same)

  not_fresh : (st : Setting) (at owner : ℕ) → m.answer ≡ None → (some_is (λ o. o == owner) (owner_asked m.call.purpose) && is_fresh st at m) ≡ false
  not_fresh st at owner open_yet = ap (λ o. some_is (λ z. z == owner) (owner_asked m.call.purpose) && some_is (λ (x : Answered). is_ok_answer x.answer && nat_lt at (x.reading + fail st.timing)) o) open_yet
      ∙ and_false (some_is (λ z. z == owner) (owner_asked m.call.purpose)) where
        and_false : (b : Bool) → (b && false) ≡ false
        and_false true = refl
        and_false false = refl

  asked_is : (st : Setting) (h : HostState) (asked : List (Option ℕ)) (ms : List Submitted) (at owner : ℕ) → (m.call.number == m.call.number) ≡ true → m.answer ≡ None → Contains ms m
      → AllByRecursion (IsOr m.call.number m) ms → h.reading ≡ now → length asked ≡ st.layout.hosts → 1 ≤ owner → owner ≤ st.layout.hosts → is_asked st ms at owner ≡ is_asked_in st asked at owner
      → is_asked st (map hears ms) at owner ≡ is_asked_in st (asked_hearing h (kept_call m) a asked) at owner
  asked_is st h asked ms at owner its open_yet inside alone reading count one most was =
      any_heard (λ d. some_is (λ o. o == owner) (owner_asked d.call.purpose) && is_fresh st at d) ms its open_yet inside alone (not_fresh st at owner open_yet)
      ∙ ap (λ b. (some_is (λ o. o == owner) (owner_asked m.call.purpose) && (is_ok_answer a && nat_lt at (now + fail st.timing))) || b) was
      ∙ ap (λ r. (some_is (λ o. o == owner) (owner_asked m.call.purpose) && (is_ok_answer a && nat_lt at (r + fail st.timing))) || is_asked_in st asked at owner) (sym reading)
      ∙ one_asked st h asked at owner (owner_asked m.call.purpose) (is_ok_answer a) count one most

  asked_count : (h : HostState) (asked : List (Option ℕ)) (o : Option ℕ) (ok : Bool)
      → length (elim o as (λ z. List (Option ℕ)) [ None ↦ asked | Some z ↦ cond (ok && nat_le 1 z) (asked_at h.reading z asked) asked ]) ≡ length asked
  asked_count h asked None ok = refl
  asked_count h asked (Some z) ok = by (ok && nat_le 1 z) where
    by : (b : Bool) → length (cond b (asked_at h.reading z asked) asked) ≡ length asked
    by true = length-set asked (z - 1) _
    by false = refl

  pub asked_are : (st : Setting) (h : HostState) (asked : List (Option ℕ)) (ms : List Submitted) → (m.call.number == m.call.number) ≡ true → m.answer ≡ None → Contains ms m
      → AllByRecursion (IsOr m.call.number m) ms → h.reading ≡ now → AskedStands st asked ms → AskedStands st (asked_hearing h (kept_call m) a asked) (map hears ms)
  asked_are st h asked ms its open_yet inside alone reading k =
      record {
        count = asked_count h asked (owner_asked m.call.purpose) (is_ok_answer a) ∙ k.count;
        each = λ at owner one most. asked_is st h asked ms at owner its open_yet inside alone reading k.count one most (k.each at owner one most);
      }
