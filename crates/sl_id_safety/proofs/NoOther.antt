-- No joined session reads a foreign record in its own sector: while its survey waits for the answer it isn't over, and until it is over what
-- stands at or above its claim is its own.
use Rattle.sl_area.specs.AreaSizes.{layout_with}
use Rattle.sl_area.specs.AreaLayout.{delta_of, delta_offset, sector_of}
use Rattle.sl_run_law.proofs.Course.Daemons.{OnDaemons, every_has, first_daemons}
use Rattle.sl_run_law.proofs.Course.MachinesKeep.{header_machine}
use Rattle.sl_run_law.proofs.Course.MachinesMirror.{machines_mirror}
use Rattle.sl_run_law.proofs.Front.RunsFromFronts.{fronts_are_lawful, run_keeps}
use Rattle.sl_id_safety.proofs.IdInterface.{same_offset, stands_in}
use Rattle.sl_id_safety.proofs.StoodBefore.{StoodBefore, found_with, stood_before}
use Rattle.sl_id_safety.proofs.SamplesAboveClaims.{claim_below}
use Rattle.sl_id_safety.proofs.EvidenceIsTrue.{id_range, place_seen}
use Rattle.sl_id_safety.proofs.FreeIsLast.{freed_answered}
use Rattle.sl_id_safety.proofs.FrontsOfSteps.{step_next}
use Rattle.sl_id_safety.proofs.SectorsStand.{own_above}
use Rattle.sl_id_safety.proofs.SeenRecords.{IsSeen, seen_look}
use Rattle.sl_id_safety.proofs.ShownStoodThere.{StoodAt, stood_at}
use Rattle.sl_id_safety.proofs.OverIsQuiet.{freed_by, goes_on, not_reset, over_cases}
use Rattle.sl_id_safety.proofs.JoinedStand.{joined_stand}
use Rattle.sl_id_safety.specs.Interface.{JoinedReadNoOther}
use Rattle.sl_id_safety.specs.JoinedStand.{sector_offset}
use Rattle.sl_id_safety.proofs.State.TraceBridge.{IsKnown, is_there, known}
use Rattle.sl_id_safety.proofs.State.SessionFacts.{grounds}
use Rattle.sl_id_safety.specs.State.IdStates.{content_of, id_state, name_of, session_at}
use Rattle.sl_id_safety.specs.State.StateLaws.{IsIdPlace}
use Rattle.sl_id_safety.specs.Reached.IdsAreReached.{IdsAreReached, IdsGoOn}
use Rattle.sl_ids.proofs.DerivedLaws.{watchdogs}
use Rattle.sl_ids.proofs.InterfaceLaws.{run_grows}
use Rattle.sl_ids.proofs.WholeRuns.{reached_kept}
use Rattle.sl_ids.specs.Guards.{terms_of}
use Rattle.sl_ids.specs.State.{Session as IdSession}
use Rattle.sl_ids.specs.Terms.{Terms}
use Rattle.sl_run.specs.Lawful.{Orderly}
use Rattle.sl_run_law.proofs.Moment.MomentsFollowSteps.{kept_past}
use Rattle.sl_run_law.proofs.Moment.Stamps.{answer_is_stamp}
use Rattle.sl_run_law.specs.Moment.MomentsFollowSteps.{Of_stamp}
use Rattle.sl_words.proofs.Lists.{contains_map, find_inside, kept}
use Rattle.sl_words.proofs.Options.{some_of}
use Rattle.sl_run.specs.Runs.{Happening}
use Rattle.sl_run.specs.Safety.{Found, HasJoined, IsSession, LawfulRun, ReadsNoOther, SessionId, free_landed, has_write_in_flight, is_over, setting_in, trace_of, was_reset, world_at}
use Rattle.sl_run.specs.Worlds.{Daemon, Machine, Program, World, daemons_on, machine_at}
use Rattle.sl_run.specs.declared.header.Header.{Header}
use Rattle.sl_run_law.proofs.Sample.SampleLaws.{samples_are_landings}
use Rattle.sl_run_law.specs.Sample.Samples.{sector_place}
use Rattle.sl_sector.specs.declared.sector.DeltaRec.{DeltaRec}
use Rattle.sl_run_law.proofs.Sessions.CallsAreMade.{old_stays, same_answered}
use Rattle.sl_run_law.proofs.Sessions.MarksStay.{joined_more}
use Rattle.sl_trace.specs.Sessions.{calls_of, ended_after, free_write, generation_of, is_call_of, is_free_purpose, is_joined, is_survey_purpose, joined_after, refused_after, removed_after, shows_other, shows_other_in, survey_in}
use Rattle.sl_trace.specs.declared.session.Session.{Session}
use Rattle.sl_trace.specs.declared.sighting.Sighting.{Sighting}
use Rattle.sl_trace.specs.Traces.{Answered, Setting, Submitted, Trace, answer_of, answered_in, bytes_given, call_numbered, gave, mark, submitted}
use Rattle.sl_trace.specs.declared.effects.Call.{Call}
use Rattle.sl_trace.specs.declared.effects.Entry.{Entry}
use Rattle.sl_trace.specs.declared.effects.Purpose.TheVariants.{Survey}
use Rattle.sl_trace.specs.declared.effects.Purpose.{Purpose}
use Rattle.sl_trace.specs.declared.input.Answer.TheVariants.{Read}
use Rattle.sl_trace.specs.declared.input.Answer.{Answer}
use Rattle.sl_trace.specs.declared.input.Input.TheVariants.{Answer as Told}
use Rattle.sl_trace.specs.declared.input.Input.{Input}
use Rattle.sl_run_law.proofs.Watchdog.TraceNumbers.{answered_call}
use Rattle.sl_words.proofs.CaseLaws.{is_false, no_value, none_some, one_value, some_value, true_is_false}
use Rattle.sl_words.proofs.WordLaws.{and_true}
use Rattle.sl_words.specs.Words.{choose, some_is}
use Rattle.std.proofs.Common.{ap, arith, inl, inr, refl, subst, sym, ◌∙◌}
use Rattle.std.proofs.lemmas.Bool.{and_from, eq-eqb}
use Rattle.std.specs.Cmp.Lexicographic.{nat_list_eq_equiv}
use Rattle.std.specs.Option.{option_or}
use Rattle.std.specs.Prelude.{Bool, Contains, List, None, Option, Some, [], bytes_eq, false, is_none, is_some, length, not, option_and_then, true, ℕ, ◌&&◌, ◌++◌, ◌+◌, ◌-◌, ◌<◌, ◌==◌, ◌∷◌, ◌≡◌, ◌≤◌, ◌⊎◌}

-- ---- an input that shows another

-- The survey that the input answers, with what it read.
record ToldSurvey (es : Trace) (s : Session) (i : Input) (bytes : List ℕ) : Type 0 where
  number : ℕ
  input : i ≡ Told number (Read bytes)
  asked : Submitted
  found : call_numbered es number ≡ Some asked
  mine : is_call_of s asked ≡ true
  survey : is_survey_purpose asked.call.purpose ≡ true

some_found : {A : Type 0} (p : A → Bool) (o : Option A) → some_is p o ≡ true → (x : A) × (o ≡ Some x) × (p x ≡ true)
some_found p None is = absurd (true_is_false (sym is))
some_found p (Some x) is = (x, refl, is)

told_survey : (es : Trace) (s : Session) (i : Input) (bytes : List ℕ) → survey_in es s i ≡ Some bytes → ToldSurvey es s i bytes
told_survey es s (Told n (Read bs)) bytes is = by (some_is (λ m. is_call_of s m && is_survey_purpose m.call.purpose) (call_numbered es n)) refl is where
  by : (b : Bool) → some_is (λ m. is_call_of s m && is_survey_purpose m.call.purpose) (call_numbered es n) ≡ b → choose b bs ≡ Some bytes → ToldSurvey es s (Told n (Read bs)) bytes
  by true at same =
      let x = some_found (λ m. is_call_of s m && is_survey_purpose m.call.purpose) (call_numbered es n) at in
      let both = and_true (is_call_of s x.0) (is_survey_purpose x.0.call.purpose) x.2 in
      record { number = n; input = ap (λ y. Told n (Read y)) (some_value bs bytes same); asked = x.0; found = x.1; mine = both.0; survey = both.1 }
  by false at same = absurd (none_some bytes same)
told_survey es s i bytes is = absurd (none_some bytes is)

-- .. with the foreign record that it shows.
record ToldOther (st : Setting) (es : Trace) (s : Session) (i : Input) : Type 0 where
  bytes : List ℕ
  told : ToldSurvey es s i bytes
  record_read : DeltaRec
  spells : delta_of st.layout bytes s.id ≡ Some record_read
  other : not (record_read.generation == generation_of es s && some_is (λ n. bytes_eq n st.name) record_read.host) ≡ true

told_other : (st : Setting) (es : Trace) (s : Session) (i : Input) → (o : Option (List ℕ)) → survey_in es s i ≡ o
    → elim o as (λ z. Bool) [ None ↦ false | Some bytes ↦ shows_other_in st s.id (generation_of es s) bytes ] ≡ true → ToldOther st es s i
told_other st es s i None at is = absurd (true_is_false (sym is))
told_other st es s i (Some bytes) at is =
    let d =
    some_found (λ (d : DeltaRec). d.id == s.id && not (d.generation == generation_of es s && some_is (λ n. bytes_eq n st.name) d.host)) (delta_of st.layout bytes s.id) is in
    let both = and_true (d.0.id == s.id) (not (d.0.generation == generation_of es s && some_is (λ n. bytes_eq n st.name) d.0.host)) d.2 in
    record { bytes = bytes; told = told_survey es s i bytes at; record_read = d.0; spells = d.1; other = both.1 }

-- ---- its answer

answered_there : (past : Trace) (e : Entry) (n : ℕ) (a : Answer) (m : Submitted) → e.input ≡ Told n a → Contains (submitted past) m
    → Contains (submitted (e ∷ past)) (answered_in past e n a m)
answered_there past e n a m is there =
    old_stays (length past) e.reading e.effects.calls (mark past e e.input (submitted past)) (answered_in past e n a m)
    (subst (λ i. Contains (mark past e i (submitted past)) (answered_in past e n a m)) (sym is) (contains_map (answered_in past e n a) (submitted past) m there))

gives : (past : Trace) (e : Entry) (n : ℕ) (bytes : List ℕ) (m : Submitted) → (m.call.number == n) ≡ true → m.answer ≡ None → gave (answered_in past e n (Read bytes) m) ≡ Some bytes
gives past e n bytes m number none =
    ap (λ b. gave (elim b as (λ z. Submitted) [ false ↦ m | true ↦ record m { answer = option_or m.answer (Some (answer_of past e (Read bytes) m.call)) } ])) number
    ∙ ap (λ o. option_and_then (λ (a : Answered). bytes_given a.answer) (option_or o (Some (answer_of past e (Read bytes) m.call)))) none

-- ---- while it waits its session isn't over

not_free : (p : Purpose) → is_survey_purpose p ≡ true → is_free_purpose p ≡ false
not_free Survey is = refl
not_free p is = absurd (true_is_false (sym is))

not_ended : (joined removed refused : Option ℕ) (k : ℕ) → joined ≡ Some k → is_none removed ≡ true
    → is_some (elim joined as (λ z. Option ℕ) [ Some j ↦ removed | None ↦ refused ]) ≡ true → ⊥
not_ended None removed refused k is none ended = none_some k is
not_ended (Some j) None refused k is none ended = true_is_false (sym ended)
not_ended (Some j) (Some n) refused k is none ended = true_is_false (sym none)

waits_unended : (w : World) (i : SessionId) (f : Found) → IsKnown w i f → (f.machine.daemon ≡ Some f.daemon) → is_joined (trace_of f) f.session ≡ true → (m : Submitted)
    → Contains (calls_of (trace_of f) f.session) m → is_survey_purpose m.call.purpose ≡ true → m.answer ≡ None → was_reset f ≡ false → is_over i f ≡ true → ⊥
waits_unended w i f kn runs joined m there survey waits kept over =
    by (over_cases (free_landed i f) (is_some (ended_after (trace_of f) f.session)) (was_reset f) (has_write_in_flight i f.machine) over)
  where
    by : (free_landed i f ≡ true) ⊎ ((is_some (ended_after (trace_of f) f.session) ≡ true) × (has_write_in_flight i f.machine ≡ false)) ⊎ (was_reset f ≡ true) → ⊥
    by (inl free) =
        let x = freed_by (free_write (calls_of (trace_of f) f.session)) _ free in
        let a = freed_answered (setting_in f) (trace_of f) f.session kn.lawful kn.its x.0 x.1 m there (not_free m.call.purpose survey) in
        no_value a.0 m.answer a.1 waits
    by (inr (inl ended)) =
        let both = and_true (is_some (joined_after (trace_of f) f.session)) (is_none (removed_after (trace_of f) f.session)) joined in
        let k = some_of (joined_after (trace_of f) f.session) both.0 in
        not_ended (joined_after (trace_of f) f.session) (removed_after (trace_of f) f.session) (refused_after (trace_of f) f.session) k.0 k.1 both.1 ended.0
    by (inr (inr reset)) = true_is_false (sym reset ∙ kept)

-- A daemon that takes an entry runs.
still_runs : (a b : Trace) (e : Entry) (q : Type 0) → b ≡ e ∷ a → q ⊎ (b ≡ a) → q
still_runs a b e q more (inl runs) = runs
still_runs a b e q more (inr same) = absurd (let long = ap (λ (es : Trace). length es) (sym more ∙ same) in omega (arith, long))

-- ---- the event that brings the answer

-- The session before the event and after it.
record IsBrought (p : Program) (h : Header) (now : List Happening) (x : Happening) (i : SessionId) (f g : Found) (past : Trace) (e : Entry) : Type 0 where
  run : LawfulRun p h (now ++ x ∷ [])
  its : IsSession (world_at p h now) i f
  also : IsSession (world_at p h (now ++ x ∷ [])) i g
  same : f.session ≡ g.session
  setting : setting_in f ≡ setting_in g
  before : trace_of f ≡ past
  after : trace_of g ≡ e ∷ past
  joined : is_joined past g.session ≡ true

-- The survey had no answer before.
asked_waits : (p : Program) (h : Header) (now : List Happening) (x : Happening) (i : SessionId) (f g : Found) (past : Trace) (e : Entry) → IsBrought p h now x i f g past e
    → (t : ToldOther (setting_in g) past g.session e.input) → t.told.asked.answer ≡ None
asked_waits p h now x i f g past e b t =
    let kn = known grounds p h (now ++ x ∷ []) b.run i g b.also in
    let lawful : Orderly (setting_in g) (e ∷ past) = subst (λ es. Orderly (setting_in g) es) b.after kn.lawful in
    let a = answered_call (setting_in g) past e t.told.number (Read t.bytes) lawful.is_trace t.told.input in
    subst (λ (m : Submitted). m.answer ≡ None) (one_value a.0 t.told.asked (call_numbered past t.told.number) a.1.found t.told.found) a.1.waits

asked_there : (st : Setting) (es : Trace) (s : Session) (i : Input) (t : ToldOther st es s i) → Contains (submitted es) t.told.asked × ((t.told.asked.call.number == t.told.number) ≡ true)
asked_there st es s i t = find_inside (λ (m : Submitted). m.call.number == t.told.number) (submitted es) t.told.asked t.told.found

kept_so : (f : Found) → (was_reset f ≡ true → ⊥) → was_reset f ≡ false
kept_so f never = is_false (was_reset f) never

not_over : (p : Program) (h : Header) (now : List Happening) (x : Happening) (i : SessionId) (f g : Found) (past : Trace) (e : Entry) → IsBrought p h now x i f g past e
    → ToldOther (setting_in g) past g.session e.input → is_over i f ≡ false
not_over p h now x i f g past e b t =
    let front = fronts_are_lawful p h now (x ∷ []) b.run in
    let kn = known grounds p h now front i f b.its in
    let on = goes_on p h now (x ∷ []) b.run i f g b.its b.also in
    let runs = still_runs (trace_of f) (trace_of g) e (f.machine.daemon ≡ Some f.daemon) (b.after ∙ ap (λ es. e ∷ es) (sym b.before)) on.running in
    let there : Contains (calls_of (trace_of f) f.session) t.told.asked =
    subst (λ es. Contains (calls_of es f.session) t.told.asked) (sym b.before)
    (subst (λ s. Contains (calls_of past s) t.told.asked) (sym b.same) (kept (is_call_of g.session) (submitted past) t.told.asked t.told.mine (asked_there (setting_in g) past g.session e.input t).0)) in
    is_false (is_over i f)
    (waits_unended (world_at p h now) i f kn runs (ap (λ s. is_joined (trace_of f) s) b.same ∙ ap (λ es. is_joined es g.session) b.before ∙ b.joined) t.told.asked there t.told.survey
    (asked_waits p h now x i f g past e b t) (kept_so f (not_reset f (machines_mirror p h now front i.machine f.machine kn.there.at) runs)))

joined_so : (past : Trace) (s : Session) → is_joined past s ≡ true → (k : ℕ) × (joined_after past s ≡ Some k)
joined_so past s is = some_of (joined_after past s) (and_true (is_some (joined_after past s)) (is_none (removed_after past s)) is).0

joined_after_it : (p : Program) (h : Header) (now : List Happening) (x : Happening) (i : SessionId) (f g : Found) (past : Trace) (e : Entry) → IsBrought p h now x i f g past e → HasJoined g
joined_after_it p h now x i f g past e b =
    let k = joined_so past g.session b.joined in
    ap is_some (ap (λ es. joined_after es g.session) b.after ∙ joined_more e past g.session k.0 k.1)

joined_before_it : (p : Program) (h : Header) (now : List Happening) (x : Happening) (i : SessionId) (f g : Found) (past : Trace) (e : Entry) → IsBrought p h now x i f g past e → HasJoined f
joined_before_it p h now x i f g past e b =
    let k = joined_so past g.session b.joined in
    ap is_some (ap (λ s. joined_after (trace_of f) s) b.same ∙ ap (λ es. joined_after es g.session) b.before ∙ k.1)

answered_by : (bytes : List ℕ) (o : Option Answered) → option_and_then (λ (a : Answered). bytes_given a.answer) o ≡ Some bytes → (a : Answered) × (o ≡ Some a)
answered_by bytes None h = absurd (none_some bytes h)
answered_by bytes (Some a) h = (a, refl)

-- What the survey shows of the session's own sector.
shown_own : (p : Program) (h : Header) (now : List Happening) (x : Happening) (i : SessionId) (f g : Found) (past : Trace) (e : Entry) → IsBrought p h now x i f g past e
    → (t : ToldOther (setting_in g) past g.session e.input) → IsSeen (world_at p h (now ++ x ∷ [])) i g g.session.id t.record_read
shown_own p h now x i f g past e b t =
    let xs : List Happening = now ++ x ∷ [] in
    let g' = joined_stand p h xs b.run i g b.also (joined_after_it p h now x i f g past e b) in
    let range = id_range p h xs xs i g g.session.id refl g' in
    let asked = asked_there (setting_in g) past g.session e.input t in
    let m : Submitted = answered_in past e t.told.number (Read t.bytes) t.told.asked in
    let call = (same_answered past e t.told.number (Read t.bytes) t.told.asked).call in
    let there : Contains (calls_of (trace_of g) g.session) m =
    subst (λ es. Contains (calls_of es g.session) m) (sym b.after)
    (kept (is_call_of g.session) (submitted (e ∷ past)) m (ap (λ (c : Call). c.session == g.session.number) call ∙ t.told.mine)
    (answered_there past e t.told.number (Read t.bytes) t.told.asked t.told.input asked.0)) in
    let given = gives past e t.told.number t.bytes t.told.asked asked.1 (asked_waits p h now x i f g past e b t) in
    let answer = answered_by t.bytes m.answer given in
    let look : Sighting = record { before = m.reading; after = answer.0.reading; bytes = sector_of (setting_in g).layout t.bytes (g.session.id - 1) } in
    (seen_look p h xs b.run i g b.also g.session.id range.0 range.1 m there look
    (record {
      survey = ap (λ (c : Call). is_survey_purpose c.purpose) call ∙ t.told.survey;
      bytes = t.bytes;
      given = given;
      shows = refl;
      before = refl;
      answer = answer.0;
      its = answer.1;
      after = refl;
    }) t.record_read t.spells).seen

-- The landing that it shows came before the event.
early_by : (landing sample stamp now later : ℕ) → landing < sample → sample < stamp → stamp < later → later ≡ now + 2 → landing < now
early_by landing sample stamp now later a b c is = omega (arith, a, b, c, is)

-- It stood there before the event, at or above the claim.
record StandsAbove (w u : World) (i : SessionId) (path : List ℕ) (offset : ℕ) (d : DeltaRec) : Type 0 where
  index : ℕ
  stood : StoodAt u path offset index (content_of d)
  above : (session_at w path offset (name_of i)).claim ≤ index

stood_own : IdsAreReached → (p : Program) (h : Header) (now : List Happening) (x : Happening) (i : SessionId) (f g : Found) (past : Trace) (e : Entry)
    → (b : IsBrought p h now x i f g past e) → (d : DeltaRec) → IsSeen (world_at p h (now ++ x ∷ [])) i g g.session.id d
    → StandsAbove (world_at p h (now ++ x ∷ [])) (world_at p h now) i g.session.path (sector_offset (world_at p h (now ++ x ∷ [])) g) d
stood_own reached p h now x i f g past e b d s =
    let xs : List Happening = now ++ x ∷ [] in
    let w : World = world_at p h xs in
    let u : World = world_at p h now in
    let kn = known grounds p h xs b.run i g b.also in
    let t = joined_stand p h xs b.run i g b.also (joined_after_it p h now x i f g past e b) in
    let path : List ℕ = g.session.path in
    let offset : ℕ = sector_offset w g in
    let sample = samples_are_landings p h xs b.run i.machine g.machine s.course (g.session.id - 1) s.sample kn.there.at s.has s.slot in
    let spot : sector_place w s.course (g.session.id - 1) ≡ offset = place_seen w i g g.session.id d s in
    let place : IsIdPlace p h s.course.call.path (sector_place w s.course (g.session.id - 1)) =
    subst (λ n. IsIdPlace p h s.course.call.path n) (sym spot) (subst (λ q. IsIdPlace p h q offset) (sym s.place.0) t.place) in
    let stamp = (kept_past p h xs b.run s.stamp.step s.stamp.moment
    (Of_stamp i.machine g.machine s.stamp kn.there.at (answer_is_stamp g.machine s.course s.stamp s.has s.answered) refl refl)).0 in
    let early = early_by sample.landing.step s.sample.step s.stamp.step u.step w.step sample.newest.0 (sample.before s.stamp s.answered).0 stamp (step_next p h now x b.run) in
    let stood = stood_at reached p h now (x ∷ []) b.run s.course (g.session.id - 1) s.sample sample early place (content_of d) s.says in
    let inv = reached_kept (terms_of h.timing) (id_state w path offset) (watchdogs.long h.timing b.run.header.timing) (reached p h xs path offset b.run t.place) in
    record {
      index = s.sample.index;
      stood = subst (λ n. StoodAt u path n s.sample.index (content_of d)) spot
          (subst (λ q. StoodAt u q (sector_place w s.course (g.session.id - 1)) s.sample.index (content_of d)) s.place.0 stood);
      above = claim_below p h xs b.run i g b.also t inv.0 s.course s.own s.survey (g.session.id - 1) s.sample sample (sym s.place.0) (sym spot);
    }

-- So it is the session's own.
reads_own : IdsAreReached → IdsGoOn → (p : Program) (h : Header) (now : List Happening) (x : Happening) (i : SessionId) (f g : Found) (past : Trace) (e : Entry)
    → IsBrought p h now x i f g past e → ToldOther (setting_in g) past g.session e.input → ⊥
reads_own reached on p h now x i f g past e b t =
    let xs : List Happening = now ++ x ∷ [] in
    let w : World = world_at p h xs in
    let u : World = world_at p h now in
    let r : Terms = terms_of h.timing in
    let front = fronts_are_lawful p h now (x ∷ []) b.run in
    let long = watchdogs.long h.timing b.run.header.timing in
    let path : List ℕ = g.session.path in
    let offset : ℕ = sector_offset w g in
    let s = joined_stand p h now front i f b.its (joined_before_it p h now x i f g past e b) in
    let place = (joined_stand p h xs b.run i g b.also (joined_after_it p h now x i f g past e b)).place in
    let at : f.session.path ≡ path = ap (λ (y : Session). y.path) b.same in
    let spot : sector_offset u f ≡ offset = ap (λ (y : Session). delta_offset u.layout y.offset y.id) b.same ∙ sym (same_offset p h xs now g) in
    let stands = stands_in p h u i f s path offset at spot in
    let name : (session_at u path offset (name_of i)).name ≡ (setting_in f).name =
    subst (λ q. (session_at u q offset (name_of i)).name ≡ (setting_in f).name) at
    (subst (λ n. (session_at u f.session.path n (name_of i)).name ≡ (setting_in f).name) spot (ap (λ (y : IdSession). y.name) s.stands)) in
    let shown = stood_own reached p h now x i f g past e b t.record_read (shown_own p h now x i f g past e b t) in
    let inv = reached_kept r (id_state u path offset) long (reached p h now path offset front place) in
    let more = on p h now (x ∷ []) path offset b.run place in
    let grown = run_grows r more.0 (id_state u path offset) (id_state w path offset) inv.0 inv.1 more.1 in
    let claim : (session_at w path offset (name_of i)).claim ≡ (session_at u path offset (name_of i)).claim = ((grown.goes (name_of i)).verified stands.verified).2 in
    let above = shown.above in
    let own = own_above r (id_state u path offset) (name_of i) inv.0 stands.verified (stands.over ∙ not_over p h now x i f g past e b t) shown.index shown.stood.below
    (omega (arith, above, claim)) (content_of t.record_read) shown.stood.shows in
    let generation : t.record_read.generation ≡ generation_of past g.session =
    own.generation ∙ stands.generation ∙ ap (λ y. generation_of (trace_of f) y) b.same ∙ ap (λ es. generation_of es g.session) b.before in
    let host : t.record_read.host ≡ Some (setting_in g).name = own.its ∙ ap (λ y. Some y) (name ∙ ap (λ (st : Setting). st.name) b.setting) in
    let both =
    and_from (t.record_read.generation == generation_of past g.session) (some_is (λ n. bytes_eq n (setting_in g).name) t.record_read.host)
    (eq-eqb t.record_read.generation (generation_of past g.session) generation)
    (ap (λ o. some_is (λ n. bytes_eq n (setting_in g).name) o) host ∙ nat_list_eq_equiv.refl (setting_in g).name) in
    true_is_false (sym t.other ∙ ap not both)

-- ---- the law

no_other_by : IdsAreReached → IdsGoOn → (p : Program) (h : Header) (now : List Happening) (x : Happening) → LawfulRun p h (now ++ x ∷ []) → ReadsNoOther (world_at p h now)
    → ReadsNoOther (world_at p h (now ++ x ∷ []))
no_other_by reached on p h now x run old i g past e later also whole joined =
    let k = joined_so past g.session joined in
    by (stood_before p h now x run i g also later e past whole k.0 k.1)
  where
    by : StoodBefore p h now i g past e → shows_other (setting_in g) past g.session e.input ≡ false
    by s = here s.machine s.daemon s.its s.setting s.place where
      here : (a : Machine) (d : Daemon) → IsSession (world_at p h now) i (found_with (world_at p h now) a d g.session) → d.setting ≡ setting_in g
          → ((d.trace ≡ past) × (trace_of g ≡ e ∷ past)) ⊎ ((l : Trace) × (d.trace ≡ l ++ e ∷ past)) → shows_other (setting_in g) past g.session e.input ≡ false
      here a d its setting (inr was) =
          subst (λ st. shows_other st past g.session e.input ≡ false) setting (old i (found_with (world_at p h now) a d g.session) past e was.0 its was.1 joined)
      here a d its setting (inl new) =
          is_false (shows_other (setting_in g) past g.session e.input)
          (λ other. reads_own reached on p h now x i (found_with (world_at p h now) a d g.session) g past e
          (record { run = run; its = its; also = also; same = refl; setting = setting; before = new.0; after = new.1; joined = joined })
          (told_other (setting_in g) past g.session e.input (survey_in past g.session e.input) refl other))

-- At first no daemon has an entry.
nothing_first : (p : Program) (h : Header) → ReadsNoOther (world_at p h [])
nothing_first p h i f past e later its whole joined = absurd (no_entry later (sym whole ∙ no_trace (is_there (world_at p h []) i f its).at (is_there (world_at p h []) i f its).has)) where
  no_entry : (l : Trace) → l ++ e ∷ past ≡ [] → ⊥
  no_entry [] is = let long = ap (λ (es : Trace). length es) is in omega (arith, long)
  no_entry (y ∷ l) is = let long = ap (λ (es : Trace). length es) is in omega (arith, long)

  no_trace : machine_at (world_at p h []) i.machine ≡ Some f.machine → Contains (daemons_on f.machine) f.daemon → trace_of f ≡ []
  no_trace at has =
      every_has (λ (d : Daemon). d.trace ≡ []) (daemons_on f.machine) f.daemon
      (subst (OnDaemons (λ (d : Daemon). d.trace ≡ [])) (sym (header_machine p h i.machine f.machine at))
      (first_daemons p (layout_with p.digest h.geometry) h i.machine (λ (d : Daemon). d.trace ≡ []) (λ line inside. refl))) has

pub reads_no_other_given : IdsAreReached → IdsGoOn → JoinedReadNoOther
reads_no_other_given reached on p h xs run =
    run_keeps p h (λ ys. ReadsNoOther (world_at p h ys)) (record { first = nothing_first p h; next = no_other_by reached on p h }) xs run
