-- What stands behind a claim.
use Rattle.sl_run_law.proofs.Course.Daemons.{every_has}
use Rattle.sl_run_law.proofs.Place.Looks.{joins_at}
use Rattle.sl_words.proofs.Lists.{kept_inside}
use Rattle.sl_run_law.specs.FatesStay.{Every}
use Rattle.sl_run_law.proofs.Place.TracesOnMachines.{answer_gave}
use Rattle.sl_area.specs.AreaSizes.{Layout, record_in}
use Rattle.sl_area.specs.AreaLayout.{delta_offset}
use Rattle.sl_run_law.specs.Course.CallStamps.{IsCourseOf}
use Rattle.sl_id_safety.proofs.State.TraceBridge.{Grounds, known}
use Rattle.sl_id_safety.proofs.State.CallLaws.{IsOwnCall, is_at_own, own_call, read_is_own, step_law}
use Rattle.sl_id_safety.proofs.State.PairedLists.{EveryTail, tail_at}
use Rattle.sl_run_law.proofs.Place.FoundInLists.{place_is, partner}
use Rattle.sl_id_safety.proofs.State.JoiningCallOrder.{InPlace, Precede, rank}
use Rattle.sl_id_safety.proofs.State.JoiningSteps.{IsSampled, answered_before, before_refusal, is_sampled, only, places, ranks_of, showing}
use Rattle.sl_id_safety.specs.State.Facts.{ClaimsHaveDecided, HasDecided, WritesOwn, is_reading_step}
use Rattle.sl_id_safety.specs.State.IdStates.{content_of, generation_above, generation_by, is_sector_of, sample_showing, watched_bytes}
use Rattle.sl_id_safety.proofs.State.Tails.{front_at}
use Rattle.sl_run.specs.LawfulDelta.{Gave}
use Rattle.sl_ids.specs.State.{Content}
use Rattle.sl_run.specs.Runs.{Happening}
use Rattle.sl_run.specs.Safety.{Found, LawfulRun, SessionId, is_course_of, setting_in, world_at}
use Rattle.sl_run.specs.Worlds.{Course, Program, World, history_of}
use Rattle.sl_run.specs.declared.header.Header.{Header}
use Rattle.sl_run_law.specs.Sample.Samples.{numbered_landing, sector_place}
use Rattle.sl_sector.specs.Bitmaps.{no_bits}
use Rattle.sl_sector.specs.SectorLayouts.{delta_in}
use Rattle.sl_sector.specs.declared.sector.DeltaRec.{DeltaRec}
use Rattle.sl_sector.specs.declared.sector.DeltaState.TheVariants.{Claimed}
use Rattle.sl_sector.specs.declared.sector.DeltaState.{DeltaState}
use Rattle.sl_sector.specs.declared.sector.Rec.TheVariants.{DeltaIs}
use Rattle.sl_sector.specs.declared.sector.Rec.{Rec}
use Rattle.sl_run_law.specs.Sessions.SessionLaws.{all_done, fits, fits_as, has_reply}
use Rattle.sl_trace.specs.DeltaDecisions.{delta_of_session, delta_record}
use Rattle.sl_trace.specs.Sessions.{delta_of_record, is_delta_purpose, is_join_call, is_survey_purpose}
use Rattle.sl_trace.specs.Traces.{Submitted, is_ok_answer, is_write, record_of}
use Rattle.sl_trace.specs.declared.effects.Call.{Call}
use Rattle.sl_trace.specs.declared.effects.JoinStep.TheVariants.{ClaimWrite, DecidingRead, FirstRead, FirstRenewal, VerifyRead, WatchRead}
use Rattle.sl_trace.specs.declared.effects.JoinStep.{JoinStep}
use Rattle.sl_trace.specs.declared.effects.Op.TheVariants.{ReadSectors, WriteRecord}
use Rattle.sl_trace.specs.declared.effects.Op.{Op}
use Rattle.sl_trace.specs.declared.effects.Purpose.TheVariants.{Joining}
use Rattle.sl_trace.specs.declared.effects.Purpose.{Purpose}
use Rattle.sl_words.proofs.CaseLaws.{false_is_true, none_some, some_value}
use Rattle.sl_words.proofs.WordLaws.{and_true}
use Rattle.std.proofs.Common.{ap, arith, inl, inr, refl, subst, sym, ◌∙◌}
use Rattle.std.specs.Option.{option_map_or}
use Rattle.std.specs.Prelude.{Bool, Contains, List, None, Option, Some, [], false, not, option_and_then, option_map, true, ℕ, ◌&&◌, ◌*◌, ◌+◌, ◌<◌, ◌∷◌, ◌≡◌}

-- ---- what a write writes

pub rec_of : (r : Rec) (d : DeltaRec) → delta_of_record r ≡ Some d → r ≡ DeltaIs d
rec_of (DeltaIs e) d h = ap (λ x. DeltaIs x) (some_value e d h)
rec_of r d h = absurd (none_some d h)

record_by : (o : Option Rec) (d : DeltaRec) → option_and_then delta_of_record o ≡ Some d → o ≡ Some (DeltaIs d)
record_by None d h = absurd (none_some d h)
record_by (Some r) d h = ap (λ x. Some x) (rec_of r d h)

pub record_is : (c : Call) (op : Op) (d : DeltaRec) → c.op ≡ op → option_and_then delta_of_record (record_of c.op) ≡ Some d → record_of op ≡ Some (DeltaIs d)
record_is c op d same h = ap (λ x. record_of x) (sym same) ∙ record_by (record_of c.op) d h

no_record : (op : Op) → is_write op ≡ false → record_of op ≡ None
no_record (ReadSectors n) h = refl
no_record (WriteRecord r) h = absurd (false_is_true (sym h))

-- ---- a session's writes are its own

pub writes_own : (w : World) (i : SessionId) (f : Found) (c : Course) (o : IsOwnCall w i f c) (state : DeltaState) (generation seq now : ℕ) (bits : List ℕ)
    → (is_delta_purpose c.call.purpose && not (is_survey_purpose c.call.purpose)) ≡ true
    → option_and_then delta_of_record (record_of o.placed.pairs.here.call.op) ≡ Some (delta_record (delta_of_session (setting_in f) f.session) state generation seq now bits)
    → WritesOwn w f c (delta_record (delta_of_session (setting_in f) f.session) state generation seq now bits)
writes_own w i f c o state generation seq now bits is h =
    record {
      writes = record_is o.placed.pairs.here.call c.call.op (delta_record (delta_of_session (setting_in f) f.session) state generation seq now bits)
          (ap (λ (x : Call). x.op) o.placed.pairs.this.call) h;
      place = is_at_own w i f c o is;
      names = (refl, refl, refl);
    }

-- ---- the sample of a read

truth : (p : Purpose) (j : ℕ) (step : JoinStep) → p ≡ Joining j step → (is_delta_purpose p && not (is_survey_purpose p)) ≡ true
truth p j step is = ap (λ q. is_delta_purpose q && not (is_survey_purpose q)) is

pub step_truth : (step : JoinStep) (p : Purpose) → is_join_call step p ≡ true → (is_delta_purpose p && not (is_survey_purpose p)) ≡ true
step_truth step p is = let r = joins_at step p is in truth p r.0 step r.1

-- Two calls on the session's own sector are at one place.
pub one_place : (w : World) (f : Found) (c d : Course) → is_sector_of w.layout c.call.path c.call.offset f.session ≡ true → is_sector_of w.layout d.call.path d.call.offset f.session ≡ true
    → (c.call.path ≡ d.call.path) × (c.call.offset ≡ d.call.offset)
one_place w f c d a b =
    let one = place_is f.session.path (delta_offset w.layout f.session.offset f.session.id) c.call.path c.call.offset a in
    let two = place_is f.session.path (delta_offset w.layout f.session.offset f.session.id) d.call.path d.call.offset b in
    (sym one.0 ∙ two.0, sym one.1 ∙ two.1)

sector_first : (w : World) (c : Course) → sector_place w c 0 ≡ c.call.offset
sector_first w c = let none : 0 * w.layout.sector ≡ 0 = omega arith in let more : c.call.offset + 0 ≡ c.call.offset = omega arith in ap (λ n. c.call.offset + n) none ∙ more

-- What a sampled read shows of its sector.
generation_shown : (w : World) (c d : Course) (x : IsSampled w c) (found : DeltaRec) → (c.call.path ≡ d.call.path) × (c.call.offset ≡ d.call.offset)
    → delta_in (record_in w.layout c.sampled) ≡ Some found → generation_by w d.call.path d.call.offset (Some x.sample) ≡ found.generation + 1
generation_shown w c d x found place spelled =
    let seen : numbered_landing (history_of w d.call.path d.call.offset) x.sample.index ≡ Some x.shows.landing =
    ap (λ n. numbered_landing (history_of w d.call.path n) x.sample.index) (sym place.1 ∙ sym (sector_first w c))
    ∙ ap (λ q. numbered_landing (history_of w q (sector_place w c 0)) x.sample.index) (sym place.0) ∙ x.shows.seen in
    let bytes : x.shows.landing.bytes ≡ c.sampled = sym x.shows.bytes ∙ x.sector in
    ap (λ l. generation_above w.layout l) seen
    ∙ ap (λ bs. option_map_or (λ (y : Content). y.generation + 1) (option_map content_of (delta_in (record_in w.layout bs))) 0) bytes
    ∙ ap (λ o. option_map_or (λ (y : Content). y.generation + 1) (option_map content_of o) 0) spelled

-- ---- what comes before a claim reads

reads_by : (p : Purpose) (w : Bool) → fits_as p w ≡ true → rank p < 4 → w ≡ false
reads_by (Joining j FirstRead) false h lt = refl
reads_by (Joining j FirstRead) true h lt = absurd (false_is_true h)
reads_by (Joining j WatchRead) false h lt = refl
reads_by (Joining j WatchRead) true h lt = absurd (false_is_true h)
reads_by (Joining j DecidingRead) false h lt = refl
reads_by (Joining j DecidingRead) true h lt = absurd (false_is_true h)
reads_by (Joining j ClaimWrite) w h lt = absurd (omega (arith, lt))
reads_by (Joining j VerifyRead) w h lt = absurd (omega (arith, lt))
reads_by (Joining j FirstRenewal) w h lt = absurd (omega (arith, lt))
reads_by p w h lt = absurd (false_is_true h)

rank_below : (m x : Submitted) → rank m.call.purpose ≡ 4 → Precede m x → rank x.call.purpose < 4
rank_below m x is (inl lt) = omega (arith, lt, is)
rank_below m x is (inr both) = absurd (omega (arith, is, both.1))

every_done : (ms : List Submitted) → all_done ms ≡ true → Every (λ (x : Submitted). (fits x ≡ true) × (has_reply x ≡ true)) ms
every_done [] h = tt
every_done (m ∷ ms) h = let parts = and_true (fits m && has_reply m) (all_done ms) h in (and_true (fits m) (has_reply m) parts.0, every_done ms parts.1)

pub done_of : (ms : List Submitted) (m : Submitted) → all_done ms ≡ true → Contains ms m → (fits m ≡ true) × (has_reply m ≡ true)
done_of ms m h there = every_has (λ (x : Submitted). (fits x ≡ true) × (has_reply x ≡ true)) ms m (every_done ms h) there

pub place_at : (w : World) (i : SessionId) (f : Found) (c : Course) (o : IsOwnCall w i f c) → InPlace o.placed.pairs.here o.placed.pairs.rest
place_at w i f c o =
    tail_at InPlace o.placed.pairs.front o.placed.pairs.here o.placed.pairs.rest (subst (λ ms. EveryTail InPlace ms) o.placed.pairs.whole (places w i f o.known))

none_written : (w : World) (i : SessionId) (f : Found) (c : Course) (o : IsOwnCall w i f c) → is_join_call ClaimWrite c.call.purpose ≡ true → (d : Course) → Contains o.placed.older d
    → record_of d.call.op ≡ None
none_written w i f c o is d there =
    let x = o.placed.pairs in
    let r = ranks_of ClaimWrite x.here.call.purpose (ap (λ (y : Call). is_join_call ClaimWrite y.purpose) x.this.call ∙ is) in
    let place = place_at w i f c o r.0 in
    let m = partner (IsCourseOf f.daemon) o.placed.older x.rest d x.rests there in
    let low = rank_below x.here m.0 r.1 (every_has (Precede x.here) x.rest m.0 place.below m.1) in
    no_record d.call.op
    (ap (λ (y : Call). is_write y.op) (sym m.2.call)
    ∙ reads_by m.0.call.purpose (is_write m.0.call.op) (done_of x.rest m.0 place.done m.1).0 low)

-- ---- the deciding read

-- An answered read of a joining, with its sample.
pub record IsReadStep (w : World) (i : SessionId) (f : Found) (c : Course) (step : JoinStep) (bytes : List ℕ) : Type 0 where
  pub course : Course
  pub own : IsOwnCall w i f course
  pub joins : is_join_call step course.call.purpose ≡ true
  pub sampled : bytes ≡ course.sampled
  pub read : IsSampled w course
  pub before : read.sample.step < c.made.step
  pub place : (course.call.path ≡ c.call.path) × (course.call.offset ≡ c.call.offset)

pub read_step : Grounds → (p : Program) (h : Header) (xs : List Happening) → LawfulRun p h xs → (i : SessionId) (f : Found) (c : Course) (o : IsOwnCall (world_at p h xs) i f c)
    → is_sector_of (world_at p h xs).layout c.call.path c.call.offset f.session ≡ true → (step : JoinStep) → is_reading_step step ≡ true → (r : Submitted) (bytes : List ℕ)
    → Gave (front_at o.placed.made) f.session step bytes r → IsReadStep (world_at p h xs) i f c step bytes
read_step g p h xs run i f c o own step reads r bytes given =
    let w : World = world_at p h xs in
    let told = answer_gave r.answer bytes given.2 in
    let b = answered_before w i f c o r told.0 given.0 told.1 in
    let joins : is_join_call step b.course.call.purpose ≡ true = ap (λ (x : Call). is_join_call step x.purpose) (sym b.is.call) ∙ given.1 in
    let oc = own_call w i f b.course o.known b.own in
    let at = joins_at step b.course.call.purpose joins in
    let ro = read_is_own w i f b.course oc at.0 step at.1 reads in
    let read = is_sampled g p h xs run i.machine f.machine b.course o.known.there.at (kept_inside (is_course_of i) f.machine.calls b.course b.own).0
    (b.told.done ∙ ap (λ x. is_ok_answer x) told.2) ro.reads in
    record {
      course = b.course;
      own = oc;
      joins = joins;
      sampled = b.told.gives bytes told.2;
      read = read;
      before = omega (arith, (read.shows.before b.told.stamp b.told.answered).0, b.before);
      place = one_place w f b.course c ro.place own;
    }

pub has_decided : Grounds → (p : Program) (h : Header) (xs : List Happening) → LawfulRun p h xs → (i : SessionId) (f : Found) (c : Course) (o : IsOwnCall (world_at p h xs) i f c)
    → is_join_call ClaimWrite c.call.purpose ≡ true → HasDecided (world_at p h xs) i f c
has_decided g p h xs run i f c o is =
    let w : World = world_at p h xs in
    let law = step_law w i f c o ClaimWrite is in
    let truth = step_truth ClaimWrite c.call.purpose is in
    let own = is_at_own w i f c o truth in
    let look = read_step g p h xs run i f c o own FirstRead refl law.first law.bytes law.watched in
    let dec = read_step g p h xs run i f c o own DecidingRead refl law.read law.bytes law.decided in
    let watched : watched_bytes i f ≡ Some law.bytes =
    ap (λ q. option_map (λ (x : Course). x.sampled) q) (only w i f look.course look.own FirstRead (λ e. omega (arith, e)) look.joins) ∙ ap (λ bs. Some bs) (sym look.sampled) in
    let spelled : delta_in (record_in w.layout dec.course.sampled) ≡ Some law.found =
    ap (λ bs. delta_in (record_in w.layout bs)) (sym dec.sampled) ∙ ap (λ (l : Layout). delta_in (record_in l law.bytes)) (sym o.known.of_world.layout) ∙ law.spelled in
    record {
      record_written =
          delta_record (delta_of_session (setting_in f) f.session) Claimed (law.found.generation + 1) (law.found.seq + 1) o.placed.made.entry.reading no_bits;
      own = writes_own w i f c o Claimed (law.found.generation + 1) (law.found.seq + 1) o.placed.made.entry.reading no_bits truth law.written;
      claim = refl;
      only = only w i f c o ClaimWrite (λ e. omega (arith, e)) is;
      sample = dec.read.sample;
      decided = ap (λ q. option_and_then (sample_showing f (watched_bytes i f)) q) (only w i f dec.course dec.own DecidingRead (λ e. omega (arith, e)) dec.joins)
          ∙ showing f (watched_bytes i f) dec.course law.bytes dec.read.sample watched dec.sampled dec.read.first
          (before_refusal w i f c o dec.read.sample dec.before);
      before = dec.before;
      generation = sym (generation_shown w dec.course c dec.read law.found dec.place spelled);
      first = λ d has lt. none_written w i f c o is d (o.placed.order d has lt);
    }

-- Behind a claim stands its deciding read.
pub claims_have_decided_given : Grounds → ClaimsHaveDecided
claims_have_decided_given g p h xs run i f c its there is = has_decided g p h xs run i f c (own_call (world_at p h xs) i f c (known g p h xs run i f its) there) is
