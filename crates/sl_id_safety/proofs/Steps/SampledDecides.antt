-- A deciding read that is sampled, and shows what was watched: its session decides.
use Rattle.sl_ids.specs.Clocks.Points.{reading}
use Rattle.sl_id_safety.proofs.State.Frames.{claim_index}
use Rattle.sl_id_safety.proofs.State.LandingFrames.{landing_at, same_landings}
use Rattle.sl_id_safety.proofs.State.SessionFacts.{claims_have_decided, join_reads_are_own, verify_reads_have_claimed}
use Rattle.sl_id_safety.proofs.State.SampleFrames.{join_is, one_sector, read_is_own, verifying_is}
use Rattle.sl_id_safety.specs.State.Facts.{HasWatched}
use Rattle.sl_id_safety.specs.State.IdStates.{blank, content_of, deciding_sample, generation_above, id_state, is_sector_of, join_course, kind_of, name_of, runs_still, said_by, session_at, verifying_sample, watched_bytes}
use Rattle.sl_id_safety.specs.State.StateLaws.{IsIdPlace}
use Rattle.sl_id_safety.proofs.Steps.JoiningIsAlive.{IsReading, has_job, job_is, not_over, still_runs, unjoined, unrefused}
use Rattle.sl_id_safety.proofs.Steps.AroundSamples.{SamplesOne, alone, blank_before, equal_bytes, is_here, newest_last, now_begun, nothing_written, stood_after}
use Rattle.sl_id_safety.proofs.Steps.Outcomes.{IsSampledCall, ShowsNow, has_newest}
use Rattle.sl_id_safety.proofs.Steps.SampleKeepsRest.{same_parts, sampled_found, stands_with}
use Rattle.sl_id_safety.proofs.Steps.RecordsOfLockspace.{first_shown, watching_name}
use Rattle.sl_ids.proofs.DerivedLaws.{waits}
use Rattle.sl_ids.specs.Guards.{terms_of}
use Rattle.sl_ids.specs.Invariant.{Invariant}
use Rattle.sl_ids.specs.State.{Content}
use Rattle.sl_ids.specs.Steps.{Decide, IsWatched, Was_free, after_deciding}
use Rattle.sl_run_law.proofs.Moment.MomentsFollowSteps.{drift_between, kept_past}
use Rattle.sl_run_law.proofs.Moment.Stamps.{answer_is_stamp, made_is_stamp}
use Rattle.sl_run_law.specs.Moment.MomentsFollowSteps.{Of_stamp, point_of}
use Rattle.sl_run.specs.EventChanges.{sample_at}
use Rattle.sl_run.specs.Runs.{Happening}
use Rattle.sl_run.specs.Safety.{Found, LawfulRun, SessionId, is_over, session_of_world, trace_of, world_at}
use Rattle.sl_run.specs.Worlds.{Course, Landing, Program, Sampling, World, history_of, is_landed, landed_at, may_land}
use Rattle.sl_run.specs.declared.header.Header.{Header}
use Rattle.sl_run_law.proofs.Sample.LandingNumbers.{number_below}
use Rattle.sl_run_law.specs.Sample.Samples.{numbered_landing}
use Rattle.sl_sector.specs.declared.sector.DeltaState.TheVariants.{Free}
use Rattle.sl_trace.specs.Sessions.{joined_after, refused_after}
use Rattle.sl_time.specs.Times.{take_over}
use Rattle.sl_trace.specs.declared.effects.JoinStep.TheVariants.{ClaimWrite, DecidingRead, FirstRead, VerifyRead}
use Rattle.sl_run_law.specs.Watchdog.ActingTimes.{acting_stamp}
use Rattle.sl_words.proofs.CaseLaws.{none_some, true_is_false}
use Rattle.sl_words.specs.Words.{some_is}
use Rattle.std.proofs.Common.{ap, inl, inr, refl, subst, sym, ◌∙◌}
use Rattle.std.proofs.lemmas.Bool.{or_from}
use Rattle.std.specs.Option.{option_map_or}
use Rattle.std.specs.Prelude.{Bool, List, None, Option, Some, false, is_none, is_some, length, option_map, true, ℕ, ◌&&◌, ◌+◌, ◌||◌, ◌≡◌, ◌≤◌, ◌⊎◌}

-- ---- it has neither claimed nor verified

no_claim_by : (p : Program) (h : Header) (xs : List Happening) → LawfulRun p h xs → (i : SessionId) (f : Found) → session_of_world (world_at p h xs) i ≡ Some f
    → deciding_sample i f ≡ None → (o : Option Course) → join_course i ClaimWrite f.machine ≡ o → o ≡ None
no_claim_by p h xs run i f at none None is = refl
no_claim_by p h xs run i f at none (Some c) is =
    let j = join_is i ClaimWrite f.machine c is in
    let d = claims_have_decided p h xs run i f c at j.own j.joins in
    absurd (none_some d.sample (sym none ∙ d.decided))

no_claim : (p : Program) (h : Header) (xs : List Happening) → LawfulRun p h xs → (i : SessionId) (f : Found) → session_of_world (world_at p h xs) i ≡ Some f
    → deciding_sample i f ≡ None → join_course i ClaimWrite f.machine ≡ None
no_claim p h xs run i f at none = no_claim_by p h xs run i f at none (join_course i ClaimWrite f.machine) refl

no_verify_by : (p : Program) (h : Header) (xs : List Happening) → LawfulRun p h xs → (i : SessionId) (f : Found) → session_of_world (world_at p h xs) i ≡ Some f
    → deciding_sample i f ≡ None → (o : Option Sampling) → verifying_sample (world_at p h xs) i f ≡ o → o ≡ None
no_verify_by p h xs run i f at none None is = refl
no_verify_by p h xs run i f at none (Some x) is =
    let v = verifying_is (world_at p h xs) i f x is in
    let j = join_is i VerifyRead f.machine v.course v.at in
    let k = verify_reads_have_claimed p h xs run i f v.course at j.own j.joins in
    absurd (none_some k.claim (sym (no_claim p h xs run i f at none) ∙ k.claimed))

no_verify : (p : Program) (h : Header) (xs : List Happening) → LawfulRun p h xs → (i : SessionId) (f : Found) → session_of_world (world_at p h xs) i ≡ Some f
    → deciding_sample i f ≡ None → verifying_sample (world_at p h xs) i f ≡ None
no_verify p h xs run i f at none = no_verify_by p h xs run i f at none (verifying_sample (world_at p h xs) i f) refl

-- ---- what is known

-- A deciding read that is sampled now and shows what was watched.
pub record DecidesNow (p : Program) (h : Header) (xs : List Happening) (v : World) (path : List ℕ) (offset n j : ℕ) (i : SessionId) (f : Found) (c : Course) : Type 0 where
  pub run : LawfulRun p h xs
  pub place : IsIdPlace p h path offset
  pub at : session_of_world (world_at p h xs) i ≡ Some f
  pub sector : is_sector_of (world_at p h xs).layout path offset f.session ≡ true
  pub sampled : IsSampledCall (world_at p h xs) h n j i f c
  pub reading : IsReading (world_at p h xs) i f n DecidingRead c
  pub one : SamplesOne (world_at p h xs) v path offset n j i f
  pub shows : ShowsNow (world_at p h xs) f (watched_bytes i f) c (deciding_sample i f) (deciding_sample i (sampled_found (world_at p h xs) n j f))
  pub verifying : verifying_sample v i (sampled_found (world_at p h xs) n j f) ≡ verifying_sample (world_at p h xs) i f
  pub invariant : Invariant (terms_of h.timing) (id_state (world_at p h xs) path offset)

-- What follows of it.
record Known (p : Program) (h : Header) (xs : List Happening) (path : List ℕ) (offset : ℕ) (i : SessionId) (f : Found) (c : Course) : Type 0 where
  watched : HasWatched h (world_at p h xs) i f c
  refused : refused_after (trace_of f) f.session ≡ None
  verifying : verifying_sample (world_at p h xs) i f ≡ None
  claim : join_course i ClaimWrite f.machine ≡ None
  joined : joined_after (trace_of f) f.session ≡ None
  job : is_none f.session.job ≡ false
  over : is_over i f ≡ false
  blank_is : session_at (world_at p h xs) path offset (name_of i) ≡ blank
  here : (c.call.path ≡ path) × (c.call.offset ≡ offset)

known_of : (p : Program) (h : Header) (xs : List Happening) (v : World) (path : List ℕ) (offset n j : ℕ) (i : SessionId) (f : Found) (c : Course)
    → DecidesNow p h xs v path offset n j i f c → Known p h xs path offset i f c
known_of p h xs v path offset n j i f c d =
    let w : World = world_at p h xs in
    let q = d.sampled.watched c d.reading.own d.reading.joins in
    let none : deciding_sample i f ≡ None = d.shows.none in
    let unverified = no_verify p h xs d.run i f d.at none in
    let job = has_job w i f n DecidingRead c d.reading in
    let free = unrefused p h xs d.run i f d.at (sample_at w c.call 0) refl d.shows.before in
    let no_job = job_is w i f n DecidingRead c d.reading in
    let r = read_is_own join_reads_are_own p h xs d.run i f DecidingRead c d.at refl (join_is i DecidingRead f.machine c q.only) in
    record {
      watched = q;
      refused = free;
      verifying = unverified;
      claim = no_claim p h xs d.run i f d.at none;
      joined = unjoined p h xs d.run i f d.at job.0 job.1 unverified;
      job = no_job;
      over = not_over p h xs d.run i f d.at n DecidingRead c d.reading unverified free;
      blank_is = blank_before w path offset i f d.at
          (or_from (is_none f.session.job) (is_some (deciding_sample i f)) no_job (ap (λ o. is_some o) none));
      here = one_sector w f.session path c.call.path offset c.call.offset d.sector r.place;
    }

-- ---- the newest landing shows what was watched

said : (p : Program) (h : Header) (xs : List Happening) (v : World) (path : List ℕ) (offset n j : ℕ) (i : SessionId) (f : Found) (c : Course)
    → DecidesNow p h xs v path offset n j i f c → (k : Known p h xs path offset i f c)
    → (l : Landing) × (numbered_landing (history_of (world_at p h xs) path offset) (length (landed_at (world_at p h xs) path offset)) ≡ Some l)
    × (said_by (world_at p h xs).layout l.bytes ≡ Some (content_of k.watched.found))
said p h xs v path offset n j i f c d k =
    let w : World = world_at p h xs in
    let l = has_newest w path offset in
    let here = is_here w path offset c k.here.0 k.here.1 in
    let bytes : l.landing.bytes ≡ k.watched.first.sampled =
    sym (equal_bytes (watched_bytes i f) k.watched.first.sampled _ (ap (λ o. option_map (λ x. x.sampled) o) k.watched.looked) d.shows.shows ∙ here.bytes ∙ l.bytes) in (
      l.landing,
      l.seen,
      ap (said_by w.layout) bytes ∙ ap (λ o. option_map content_of o) k.watched.spelled,
    )

is_watched : (p : Program) (h : Header) (xs : List Happening) (v : World) (path : List ℕ) (offset n j : ℕ) (i : SessionId) (f : Found) (c : Course)
    → DecidesNow p h xs v path offset n j i f c → (k : Known p h xs path offset i f c)
    → (k.watched.found.state ≡ Free) ⊎ (reading (point_of k.watched.answer) + take_over h.timing ≤ reading (point_of c.made))
    → c.made.moment ≤ (world_at p h xs).moment
    → IsWatched (terms_of h.timing) (id_state (world_at p h xs) path offset) (content_of k.watched.found)
is_watched p h xs v path offset n j i f c d k (inl free) before = Was_free (ap kind_of free)
is_watched p h xs v path offset n j i f c d k (inr wait) before =
    let w : World = world_at p h xs in
    let q = k.watched in
    let at = d.reading.known.there.at in
    let s = first_shown p h xs d.run path offset i f d.at d.sector c q in
    let first = join_is i FirstRead f.machine q.first q.looked in
    let own = join_is i DecidingRead f.machine c q.only in
    let land = landing_at w path offset s.sample.index s.landing s.seen in
    waits.watched h.timing (id_state w path offset) (content_of q.found) s.sample.index s.sample.moment (point_of q.answer) (point_of c.made)
    (number_below (history_of w path offset) s.sample.index s.landing s.seen)
    (ap (λ x. x.shown) land ∙ ap (said_by w.layout) s.bytes ∙ ap (λ o. option_map content_of o) q.spelled)
    (subst (λ m. m ≤ s.sample.moment) (sym (ap (λ x. x.moment) land)) s.moment)
    (s.shows.before q.answer q.answered.0).1
    (drift_between p h xs d.run i.machine f.machine q.answer c.made at (answer_is_stamp f.machine q.first q.answer first.has q.answered.0)
    (made_is_stamp f.machine c own.has) q.answered.2)
    wait before

-- ---- where it stands then

may_claim : (o : Option Course) (a b : Bool) → o ≡ None → a ≡ true → b ≡ true → elim o as (λ z. Bool) [ None ↦ a && b | Some c ↦ may_land c ] ≡ true
may_claim None true b is h k = k
may_claim None false b is h k = h
may_claim (Some c) a b is h k = absurd (none_some c (sym is))

none_renewed : (joined : Option ℕ) (acting : ℕ) → joined ≡ None → elim joined as (λ z. ℕ) [ Some k ↦ acting | None ↦ 0 ] ≡ 0
none_renewed None acting is = refl
none_renewed (Some k) acting is = absurd (none_some k (sym is))

given_none : (job : Option ℕ) → is_none job ≡ false → elim job as (λ z. ℕ) [ None ↦ 1 | Some j ↦ 0 ] ≡ 0
given_none (Some j) h = refl
given_none None h = absurd (true_is_false h)

stands_decided : (p : Program) (h : Header) (xs : List Happening) (v : World) (path : List ℕ) (offset n j : ℕ) (i : SessionId) (f : Found) (c : Course)
    → DecidesNow p h xs v path offset n j i f c → (k : Known p h xs path offset i f c)
    → stands_with (world_at p h xs) path offset i f (Some (sample_at (world_at p h xs) c.call 0)) None
    ≡ after_deciding (length (landed_at (world_at p h xs) path offset)) f.daemon.setting.name ((content_of k.watched.found).generation + 1) c.made.moment blank
stands_decided p h xs v path offset n j i f c d k =
    let w : World = world_at p h xs in
    let x : Sampling = sample_at w c.call 0 in
    let here = is_here w path offset c k.here.0 k.here.1 in
    let l = said p h xs v path offset n j i f c d k in
    same_parts (after_deciding (length (landed_at w path offset)) f.daemon.setting.name ((content_of k.watched.found).generation + 1) c.made.moment blank)
    (stands_with w path offset i f (Some x) None) refl refl
    refl
    (may_claim (join_course i ClaimWrite f.machine) (runs_still f) (is_none (refused_after (trace_of f) f.session)) k.claim
    (still_runs w i f n DecidingRead c d.reading) (ap (λ o. is_none o) k.refused))
    (ap (λ o. some_is (λ (y : Course). is_landed y.fate) o) k.claim)
    (ap (λ b. b || false) k.job)
    (ap (λ o. is_some o) k.joined)
    k.over
    here.index
    (ap (claim_index w path offset i) k.claim)
    refl
    (ap (λ m. generation_above w.layout (numbered_landing (history_of w path offset) m)) here.index
    ∙ ap (generation_above w.layout) l.1
    ∙ ap (λ o. option_map_or (λ (y : Content). y.generation + 1) o 0) l.2)
    (nothing_written w path offset i f.session (given_none f.session.job k.job)
    ((d.invariant.one (name_of i)).unwritten (inl (ap (λ s. s.begun) k.blank_is))))
    (ap (λ o. option_map_or (λ (y : Course). y.made.moment) o 0) k.watched.only)
    (none_renewed (joined_after (trace_of f) f.session) (option_map_or (λ y. y.moment) (acting_stamp f.daemon f.session) 0) k.joined)

-- ---- the step

pub decides : (p : Program) (h : Header) (xs : List Happening) (v : World) (path : List ℕ) (offset n j : ℕ) (i : SessionId) (f : Found) (c : Course)
    → DecidesNow p h xs v path offset n j i f c
    → Decide (terms_of h.timing) (id_state (world_at p h xs) path offset) (id_state v path offset) (name_of i)
decides p h xs v path offset n j i f c d =
    let w : World = world_at p h xs in
    let k = known_of p h xs v path offset n j i f c d in
    let l = said p h xs v path offset n j i f c d k in
    let g : Found = sampled_found w n j f in
    let own = join_is i DecidingRead f.machine c k.watched.only in
    let before = (kept_past p h xs d.run c.made.step c.made.moment
    (Of_stamp i.machine f.machine c.made d.reading.known.there.at (made_is_stamp f.machine c own.has) refl refl)).1 in
    record {
      first = ap (λ s. s.begun) k.blank_is;
      not_over = ap (λ s. s.over) k.blank_is;
      last = length (landed_at w path offset);
      is_last = newest_last w path offset;
      content = content_of k.watched.found;
      spelled = ap (λ x. x.shown) (landing_at w path offset (length (landed_at w path offset)) l.0 l.1) ∙ l.2;
      watched = is_watched p h xs v path offset n j i f c d k k.watched.watched before;
      registered = c.made.moment;
      before = before;
      name = f.daemon.setting.name;
      alone = alone p h xs d.run path offset i f d.at k.over d.place (watching_name p h xs d.run path offset d.place i f d.at d.sector c k.watched);
      same = same_landings w v path offset d.one.same;
      changes = record {
        now = d.one.moment;
        self = stood_after w v path offset n j i f d.one d.sector (now_begun (is_none f.session.job) (deciding_sample i g) (sample_at w c.call 0) d.shows.some)
            ∙ ap (λ o. stands_with w path offset i f o (verifying_sample v i g)) d.shows.some
            ∙ ap (stands_with w path offset i f (Some (sample_at w c.call 0))) (d.verifying ∙ k.verifying)
            ∙ stands_decided p h xs v path offset n j i f c d k
            ∙ ap (after_deciding (length (landed_at w path offset)) f.daemon.setting.name ((content_of k.watched.found).generation + 1) c.made.moment)
            (sym k.blank_is);
        others = d.one.others;
      };
    }
