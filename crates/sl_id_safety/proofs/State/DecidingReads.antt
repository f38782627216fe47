-- What stands behind a deciding read.
use Rattle.sl_run_law.proofs.Place.TracesOnMachines.{answer_gave, header_is}
use Rattle.sl_area.specs.AreaSizes.{Layout, record_in}
use Rattle.sl_ids.specs.Clocks.Points.{reading}
use Rattle.sl_id_safety.proofs.State.TraceBridge.{Grounds, known}
use Rattle.sl_id_safety.proofs.State.CallLaws.{IsOwnCall, own_call, step_law}
use Rattle.sl_id_safety.proofs.State.JoiningSteps.{answered_before, only, read_before}
use Rattle.sl_id_safety.proofs.State.Tails.{front_at}
use Rattle.sl_id_safety.specs.State.Facts.{DecidingReadsHaveWatched, HasWatched}
use Rattle.sl_run.specs.LawfulDelta.{WatchOver}
use Rattle.sl_run_law.specs.Moment.MomentsFollowSteps.{point_of}
use Rattle.sl_run.specs.Safety.{Found, SessionId, setting_in, world_at}
use Rattle.sl_run.specs.Worlds.{Course, Stamp, World}
use Rattle.sl_run.specs.declared.header.Header.{Header}
use Rattle.sl_sector.specs.SectorLayouts.{delta_in}
use Rattle.sl_sector.specs.declared.sector.DeltaRec.{DeltaRec}
use Rattle.sl_sector.specs.declared.sector.DeltaState.TheVariants.{Free}
use Rattle.sl_trace.specs.Sessions.{is_join_call}
use Rattle.sl_time.specs.Times.{TimingNumbers, reading_of, take_over}
use Rattle.sl_trace.specs.Traces.{Answered, Submitted, is_ok_answer}
use Rattle.sl_trace.specs.declared.effects.Call.{Call}
use Rattle.sl_trace.specs.declared.effects.JoinStep.TheVariants.{DecidingRead, FirstRead}
use Rattle.sl_words.proofs.CaseLaws.{one_value}
use Rattle.std.proofs.Common.{ap, arith, inl, inr, sym, ◌∙◌}
use Rattle.std.specs.Prelude.{List, Some, true, ℕ, ◌+◌, ◌≡◌, ◌≤◌, ◌⊎◌}

watched_out : (w : World) (i : SessionId) (f : Found) (c : Course) (o : IsOwnCall w i f c) (tm : TimingNumbers) (bytes : List ℕ) (first : Submitted) (found : DeltaRec) (a : Answered)
    (answer : Stamp) → (setting_in f).timing ≡ tm → first.answer ≡ Some a → reading_of answer.clock ≡ a.reading
    → WatchOver (setting_in f) (front_at o.placed.made) f.session bytes first found → (found.state ≡ Free) ⊎ (reading (point_of answer) + take_over tm ≤ reading (point_of c.made))
watched_out w i f c o tm bytes first found a answer same is at (inl free) = inl free
watched_out w i f c o tm bytes first found a answer same is at (inr over) =
    let one : over.1.reading ≡ a.reading = ap (λ (x : Answered). x.reading) (one_value over.1 a first.answer over.2 is) in
    let le = read_before w i f c o over.0 over.3.0 in
    let long : take_over (setting_in f).timing ≡ take_over tm = ap (λ t. take_over t) same in
    inr (omega (arith, over.4, one, at, le, long))

has_watched : (w : World) (h : Header) (i : SessionId) (f : Found) (c : Course) → IsOwnCall w i f c → (setting_in f).timing ≡ h.timing → is_join_call DecidingRead c.call.purpose ≡ true
    → HasWatched h w i f c
has_watched w h i f c o same is =
    let law = step_law w i f c o DecidingRead is in
    let told = answer_gave law.first.answer law.bytes law.given.2 in
    let b = answered_before w i f c o law.first told.0 law.given.0 told.1 in
    let looks : is_join_call FirstRead b.course.call.purpose ≡ true = ap (λ (x : Call). is_join_call FirstRead x.purpose) (sym b.is.call) ∙ law.given.1 in
    record {
      only = only w i f c o DecidingRead (λ e. omega (arith, e)) is;
      first = b.course;
      looked = only w i f b.course (own_call w i f b.course o.known b.own) FirstRead (λ e. omega (arith, e)) looks;
      answer = b.told.stamp;
      answered = (b.told.answered, b.told.done ∙ ap (λ x. is_ok_answer x) told.2, b.before);
      found = law.found;
      spelled = ap (λ bs. delta_in (record_in w.layout bs)) (sym (b.told.gives law.bytes told.2))
          ∙ ap (λ (g : Layout). delta_in (record_in g law.bytes)) (sym o.known.of_world.layout) ∙ law.spelled.0;
      names = (law.spelled.1, law.spelled.2);
      watched = watched_out w i f c o h.timing law.bytes law.first law.found told.0 b.told.stamp same told.1 b.told.reading law.watched;
    }

-- Behind a deciding read stands its watch.
pub deciding_reads_have_watched_given : Grounds → DecidingReadsHaveWatched
deciding_reads_have_watched_given g p h xs run i f c its there is =
    let w : World = world_at p h xs in
    let o = own_call w i f c (known g p h xs run i f its) there in
    has_watched w h i f c o (o.known.of_world.timing ∙ ap (λ (x : Header). x.timing) (header_is p h xs)) is
