-- A record that a session has seen of an id: the sample of a survey shows it.
use Rattle.sl_area.specs.AreaSizes.{Layout, record_in}
use Rattle.sl_area.specs.AreaLayout.{sector_of}
use Rattle.sl_run_law.proofs.Course.CallsAreDistinct.{each_distinct}
use Rattle.sl_run_law.specs.Course.CallStamps.{AnswersAgree, IsAnsweredAs, IsCourseOf}
use Rattle.sl_id_safety.specs.Interface.{sightings_of}
use Rattle.sl_id_safety.proofs.State.TraceBridge.{known}
use Rattle.sl_id_safety.proofs.State.CallLaws.{own_call}
use Rattle.sl_id_safety.proofs.State.SessionFacts.{grounds}
use Rattle.sl_id_safety.proofs.State.Tails.{front_at}
use Rattle.sl_id_safety.specs.State.IdStates.{content_of, own_courses, said_by}
use Rattle.sl_run_law.proofs.Landing.CallLists.{one_call}
use Rattle.sl_run.specs.LawfulDelta.{LawfulDeltaCall, LawfulSurvey}
use Rattle.sl_run_law.proofs.Place.FoundInLists.{given_by, partner_of}
use Rattle.sl_run_law.proofs.Place.PlaceLaws.{promised}
use Rattle.sl_run_law.proofs.Place.TracesOnMachines.{read_of}
use Rattle.sl_words.proofs.Lists.{kept_inside, there_is}
use Rattle.sl_words.proofs.Options.{mapped_value, then_value}
use Rattle.sl_run.specs.Refusals.{sectors_of}
use Rattle.sl_run.specs.Runs.{Happening}
use Rattle.sl_run.specs.Safety.{Found, IsSession, LawfulRun, SessionId, is_course_of, setting_in, trace_of, world_at}
use Rattle.sl_run.specs.Worlds.{Course, Program, Sampling, Stamp, World}
use Rattle.sl_run.specs.declared.header.Header.{Header}
use Rattle.sl_sector.specs.SectorLayouts.{delta_in}
use Rattle.sl_sector.specs.declared.sector.DeltaRec.{DeltaRec}
use Rattle.sl_trace.specs.Sessions.{calls_of, is_call_of, is_survey_purpose}
use Rattle.sl_trace.specs.Sightings.{look_of, seen_records, sighted}
use Rattle.sl_trace.specs.declared.session.Session.{Session}
use Rattle.sl_trace.specs.declared.sighting.Sighting.{Sighting}
use Rattle.sl_time.specs.Times.{reading_of}
use Rattle.sl_trace.specs.Traces.{Answered, Setting, Submitted, Trace, bytes_given, gave, new_call, submitted}
use Rattle.sl_trace.specs.declared.effects.Call.{Call}
use Rattle.sl_trace.specs.declared.effects.Op.TheVariants.{ReadSectors}
use Rattle.sl_trace.specs.declared.effects.Purpose.TheVariants.{Survey}
use Rattle.sl_trace.specs.declared.effects.Purpose.{Purpose}
use Rattle.sl_words.proofs.CaseLaws.{none_some, some_value, true_is_false}
use Rattle.sl_words.specs.Words.{choose}
use Rattle.std.proofs.Common.{ap, arith, refl, subst, sym, ◌∙◌}
use Rattle.std.proofs.lemmas.Bool.{eq-eqb}
use Rattle.std.specs.Prelude.{Bool, Contains, List, None, Option, Some, false, length, option_and_then, option_map, slice_get, true, ℕ, ◌-◌, ◌<◌, ◌==◌, ◌≡◌, ◌≤◌}

-- The sample of a survey of the session that shows the record.
pub record IsSeen (w : World) (i : SessionId) (f : Found) (j : ℕ) (d : DeltaRec) : Type 0 where
  pub course : Course
  pub has : Contains f.machine.calls course
  pub own : Contains (own_courses i f.machine) course
  pub survey : is_survey_purpose course.call.purpose ≡ true
  pub stamp : Stamp
  pub answered : course.answered ≡ Some stamp
  pub sample : Sampling
  pub slot : slice_get course.samples (j - 1) ≡ Some sample
  pub place : (course.call.path ≡ f.session.path) × (course.call.offset ≡ f.session.offset)
  pub says : said_by w.layout (sector_of w.layout course.sampled (j - 1)) ≡ Some (content_of d)

-- .. and how it stands in time to what the session read on its clock.
pub record IsSighted (w : World) (i : SessionId) (f : Found) (j : ℕ) (x : Sighting) (d : DeltaRec) : Type 0 where
  pub seen : IsSeen w i f j d
  pub before : reading_of seen.course.made.clock ≡ x.before
  pub stamp : Stamp
  pub answered : seen.course.answered ≡ Some stamp
  pub after : reading_of stamp.clock ≡ x.after

pub survey_law : (st : Setting) (t : Trace) (s : Session) (c : Submitted) (p : Purpose) → is_survey_purpose p ≡ true → LawfulDeltaCall st t s c p → LawfulSurvey st t s c
survey_law st t s c Survey is law = law
survey_law st t s c p is law = absurd (true_is_false (sym is))

chosen : (b : Bool) (e d : DeltaRec) → choose b e ≡ Some d → e ≡ d
chosen true e d is = some_value e d is
chosen false e d is = absurd (none_some d is)

-- A look is the answer of a survey.
pub record IsLook (g : Layout) (j : ℕ) (m : Submitted) (x : Sighting) : Type 0 where
  pub survey : is_survey_purpose m.call.purpose ≡ true
  pub bytes : List ℕ
  pub given : gave m ≡ Some bytes
  pub shows : x.bytes ≡ sector_of g bytes (j - 1)
  pub before : m.reading ≡ x.before
  pub answer : Answered
  pub its : m.answer ≡ Some answer
  pub after : answer.reading ≡ x.after

abbrev look_in : Layout → ℕ → Submitted → Answered → List ℕ → Sighting
look_in g j m a bytes = record { before = m.reading; after = a.reading; bytes = sector_of g bytes (j - 1) }

look_by : (g : Layout) (j : ℕ) (m : Submitted) (x : Sighting) (b : Bool) → is_survey_purpose m.call.purpose ≡ b
    → elim b as (λ z. Option Sighting) [ false ↦ None | true ↦ option_and_then (λ a. option_map (look_in g j m a) (bytes_given a.answer)) m.answer ] ≡ Some x → IsLook g j m x
look_by g j m x false at is = absurd (none_some x is)
look_by g j m x true at is =
    let a = then_value (λ a. option_map (look_in g j m a) (bytes_given a.answer)) m.answer x is in
    let bytes = mapped_value (look_in g j m a.0) (bytes_given a.0.answer) x a.2 in
    record {
      survey = at;
      bytes = bytes.0;
      given = ap (option_and_then (λ y. bytes_given y.answer)) a.1 ∙ bytes.1;
      shows = ap (λ (y : Sighting). y.bytes) (sym bytes.2);
      before = ap (λ (y : Sighting). y.before) bytes.2;
      answer = a.0;
      its = a.1;
      after = ap (λ (y : Sighting). y.after) bytes.2;
    }

within : (j hosts n : ℕ) → 1 ≤ j → j ≤ hosts → n ≡ hosts → j - 1 < n
within j hosts n low high is = omega (arith, low, high, is)

pub seen_look : (p : Program) (h : Header) (now : List Happening) → LawfulRun p h now → (i : SessionId) (f : Found) → IsSession (world_at p h now) i f → (j : ℕ) → 1 ≤ j
    → j ≤ (world_at p h now).layout.hosts → (m : Submitted) → Contains (calls_of (trace_of f) f.session) m → (x : Sighting) → IsLook (setting_in f).layout j m x → (d : DeltaRec)
    → delta_in (record_in (setting_in f).layout x.bytes) ≡ Some d → IsSighted (world_at p h now) i f j x d
seen_look p h now run i f its j low high m there x look d spells =
    let w : World = world_at p h now in
    let kn = known grounds p h now run i f its in
    let layout = kn.of_world.layout in
    let r = partner_of (IsCourseOf f.daemon) (own_courses i f.machine) (calls_of (trace_of f) f.session) m kn.pairs there in
    let o = own_call w i f r.0 kn r.1 in
    let call : o.placed.pairs.here.call ≡ m.call = o.placed.pairs.this.call ∙ sym r.2.call in
    let law = survey_law (setting_in f) (front_at o.placed.made) f.session (new_call (length o.placed.made.past) o.placed.made.entry.reading o.placed.pairs.here.call)
    o.placed.pairs.here.call.purpose (ap (λ (y : Call). is_survey_purpose y.purpose) call ∙ look.survey) o.lawful.law in
    let op : m.call.op ≡ ReadSectors (setting_in f).layout.hosts = ap (λ (y : Call). y.op) (sym call) ∙ law.whole.2 in
    let read = read_of promised p h now run i.machine f.machine f.daemon kn.there.at kn.there.has m (kept_inside (is_call_of f.session) (submitted (trace_of f)) m there).0
    (setting_in f).layout.hosts op look.bytes look.given in
    let same : r.0 ≡ read.course =
    one_call f.machine.calls r.0 read.course (each_distinct p h now run i.machine f.machine kn.there.at) (kept_inside (is_course_of i) f.machine.calls r.0 r.1).0 read.has
    (eq-eqb r.0.call.number read.course.call.number (ap (λ (y : Call). y.number) (sym r.2.call ∙ read.is.call))) in
    let hosts : length read.course.samples ≡ w.layout.hosts = read.whole ∙ ap sectors_of op ∙ ap (λ (g : Layout). g.hosts) layout in
    let slot = there_is read.course.samples (j - 1) (within j w.layout.hosts (length read.course.samples) low high hosts) in
    let heard : IsAnsweredAs f.daemon read.course look.answer = subst (λ o. AnswersAgree f.daemon read.course o) look.its read.is.answers in
    record {
      seen = record {
        course = read.course;
        has = read.has;
        own = subst (λ (y : Course). Contains (own_courses i f.machine) y) same r.1;
        survey = ap (λ (y : Call). is_survey_purpose y.purpose) (sym read.is.call) ∙ look.survey;
        stamp = read.stamp;
        answered = read.closed;
        sample = slot.0;
        slot = slot.1;
        place = (
          ap (λ (y : Call). y.path) (sym read.is.call ∙ sym call) ∙ law.whole.0,
          ap (λ (y : Call). y.offset) (sym read.is.call ∙ sym call) ∙ law.whole.1,
        );
        says = ap (option_map content_of)
            (ap (λ bs. delta_in (record_in w.layout (sector_of w.layout bs (j - 1)))) (sym read.sampled)
            ∙ ap (λ (g : Layout). delta_in (record_in g (sector_of g look.bytes (j - 1)))) (sym layout)
            ∙ ap (λ bs. delta_in (record_in (setting_in f).layout bs)) (sym look.shows) ∙ spells);
      };
      before = sym read.is.reading ∙ look.before;
      stamp = heard.stamp;
      answered = heard.answered;
      after = heard.reading ∙ look.after;
    }

-- A sighting of a record is a sample that shows it.
pub looked : (p : Program) (h : Header) (now : List Happening) → LawfulRun p h now → (i : SessionId) (f : Found) → IsSession (world_at p h now) i f → (j : ℕ) → 1 ≤ j
    → j ≤ (world_at p h now).layout.hosts → (x : Sighting) → Contains (sightings_of f j) x → (d : DeltaRec) → sighted (setting_in f).layout j x ≡ Some d
    → IsSighted (world_at p h now) i f j x d
looked p h now run i f its j low high x there d spells =
    let g : Layout = (setting_in f).layout in
    let m = given_by (look_of g j) (calls_of (trace_of f) f.session) x there in
    let e = then_value (λ (y : DeltaRec). choose (y.id == j) y) (delta_in (record_in g x.bytes)) d spells in
    seen_look p h now run i f its j low high m.0 m.1 x (look_by g j m.0 x (is_survey_purpose m.0.call.purpose) refl m.2) d
    (e.1 ∙ ap (λ y. Some y) (chosen (e.0.id == j) e.0 d e.2))

-- A record that was seen is shown by a sample.
pub seen : (p : Program) (h : Header) (now : List Happening) → LawfulRun p h now → (i : SessionId) (f : Found) → IsSession (world_at p h now) i f → (j : ℕ) → 1 ≤ j
    → j ≤ (world_at p h now).layout.hosts → (d : DeltaRec) → Contains (seen_records (setting_in f).layout j (sightings_of f j)) d → IsSeen (world_at p h now) i f j d
seen p h now run i f its j low high d there =
    let x = given_by (sighted (setting_in f).layout j) (sightings_of f j) d there in
    (looked p h now run i f its j low high x.0 x.1 d x.2).seen
