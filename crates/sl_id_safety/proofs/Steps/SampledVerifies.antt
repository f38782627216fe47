-- A verify read that is sampled, and shows the own claim: its session has verified it.
use Rattle.sl_id_safety.proofs.State.CallLaws.{own_call}
use Rattle.sl_id_safety.proofs.State.LandingFrames.{landing_at, same_landings}
use Rattle.sl_id_safety.proofs.State.SessionFacts.{claims_have_decided, join_reads_are_own}
use Rattle.sl_id_safety.proofs.State.SampleFrames.{join_is, one_sector, read_is_own}
use Rattle.sl_id_safety.specs.State.Facts.{HasClaimed, HasDecided}
use Rattle.sl_id_safety.specs.State.IdStates.{claim_bytes, deciding_sample, has_begun, id_state, index_of, is_sector_of, name_of, said_by, session_at, standing_of, verifying_sample}
use Rattle.sl_id_safety.proofs.Steps.JoiningIsAlive.{IsReading, has_job, not_over, unjoined, unrefused}
use Rattle.sl_id_safety.proofs.Steps.AroundSamples.{SamplesOne, equal_bytes, is_here, newest_last, now_begun, stood_after, stood_before}
use Rattle.sl_id_safety.proofs.Steps.ClaimLanding.{LandedHere, landed_here}
use Rattle.sl_id_safety.proofs.Steps.Outcomes.{IsSampledCall, ShowsNow, has_newest}
use Rattle.sl_id_safety.proofs.Steps.SampleKeepsRest.{same_parts, sampled_found, stands_with}
use Rattle.sl_ids.proofs.DerivedLaws.{waits}
use Rattle.sl_ids.specs.Guards.{terms_of}
use Rattle.sl_ids.specs.Invariant.{Invariant}
use Rattle.sl_ids.specs.State.{State, moment}
use Rattle.sl_ids.specs.Steps.{Verify, after_verifying}
use Rattle.sl_run_law.proofs.Moment.MomentsFollowSteps.{drift_between, kept_past}
use Rattle.sl_run_law.proofs.Moment.Stamps.{answer_is_stamp, made_is_stamp}
use Rattle.sl_run_law.specs.Moment.MomentsFollowSteps.{Of_stamp, point_of}
use Rattle.sl_words.proofs.Numbers.{lt_up_to}
use Rattle.sl_run.specs.EventChanges.{sample_at, write_bytes}
use Rattle.sl_run.specs.Runs.{Happening}
use Rattle.sl_run.specs.Safety.{Found, LawfulRun, SessionId, is_over, session_of_world, trace_of, world_at}
use Rattle.sl_run.specs.Worlds.{Course, Program, Sampling, World, history_of, is_landed, landed_at}
use Rattle.sl_run.specs.declared.header.Header.{Header}
use Rattle.sl_trace.specs.Sessions.{joined_after}
use Rattle.sl_trace.specs.declared.effects.JoinStep.TheVariants.{ClaimWrite, VerifyRead}
use Rattle.sl_run_law.specs.Watchdog.ActingTimes.{acting_stamp}
use Rattle.sl_words.proofs.CaseLaws.{none_some}
use Rattle.sl_words.specs.Words.{some_is}
use Rattle.std.proofs.Common.{ap, refl, subst, sym, ◌∙◌}
use Rattle.std.specs.Option.{option_map_or}
use Rattle.std.specs.Prelude.{Bool, List, None, Option, Some, false, is_none, is_some, length, option_map, true, ℕ, ◌+◌, ◌<◌, ◌||◌, ◌≡◌, ◌≤◌}

-- A verify read that is sampled now and shows the own claim.
pub record VerifiesNow (p : Program) (h : Header) (xs : List Happening) (v : World) (path : List ℕ) (offset n j : ℕ) (i : SessionId) (f : Found) (c : Course) : Type 0 where
  pub run : LawfulRun p h xs
  pub at : session_of_world (world_at p h xs) i ≡ Some f
  pub sector : is_sector_of (world_at p h xs).layout path offset f.session ≡ true
  pub sampled : IsSampledCall (world_at p h xs) h n j i f c
  pub reading : IsReading (world_at p h xs) i f n VerifyRead c
  pub one : SamplesOne (world_at p h xs) v path offset n j i f
  pub deciding : deciding_sample i (sampled_found (world_at p h xs) n j f) ≡ deciding_sample i f
  pub shows : ShowsNow (world_at p h xs) f (claim_bytes (world_at p h xs) i f) c (verifying_sample (world_at p h xs) i f)
      (verifying_sample v i (sampled_found (world_at p h xs) n j f))
  pub invariant : Invariant (terms_of h.timing) (id_state (world_at p h xs) path offset)

-- What follows of it.
record Known (p : Program) (h : Header) (xs : List Happening) (path : List ℕ) (offset : ℕ) (i : SessionId) (f : Found) (c : Course) : Type 0 where
  claimed : HasClaimed h (world_at p h xs) i f c
  decided : HasDecided (world_at p h xs) i f claimed.claim
  joined : joined_after (trace_of f) f.session ≡ None
  over : is_over i f ≡ false
  begun : has_begun i f ≡ true
  stands : session_at (world_at p h xs) path offset (name_of i) ≡ standing_of (world_at p h xs) path offset i f
  here : (c.call.path ≡ path) × (c.call.offset ≡ offset)
  lands : LandedHere (world_at p h xs) path offset i.machine claimed.claim
  now : c.made.moment ≤ (world_at p h xs).moment
  order : claimed.claim.made.step ≤ c.made.step

known_of : (p : Program) (h : Header) (xs : List Happening) (v : World) (path : List ℕ) (offset n j : ℕ) (i : SessionId) (f : Found) (c : Course)
    → VerifiesNow p h xs v path offset n j i f c → Known p h xs path offset i f c
known_of p h xs v path offset n j i f c d =
    let w : World = world_at p h xs in
    let q = d.sampled.claimed c d.reading.own d.reading.joins in
    let claim = join_is i ClaimWrite f.machine q.claim q.claimed in
    let decided = claims_have_decided p h xs d.run i f q.claim d.at claim.own claim.joins in
    let job = has_job w i f n VerifyRead c d.reading in
    let free = unrefused p h xs d.run i f d.at (sample_at w c.call 0) refl d.shows.before in
    let own = join_is i VerifyRead f.machine c q.only in
    let r = read_is_own join_reads_are_own p h xs d.run i f VerifyRead c d.at refl own in
    let begun = now_begun (is_none f.session.job) (deciding_sample i f) decided.sample decided.decided in
    let place = one_sector w f.session path q.claim.call.path offset q.claim.call.offset d.sector decided.own.place in
    let timed = (own_call w i f q.claim d.reading.known claim.own).placed.timed in
    record {
      claimed = q;
      decided = decided;
      joined = unjoined p h xs d.run i f d.at job.0 job.1 d.shows.none;
      over = not_over p h xs d.run i f d.at n VerifyRead c d.reading d.shows.none free;
      begun = begun;
      stands = stood_before w path offset i f d.at d.sector begun;
      here = one_sector w f.session path c.call.path offset c.call.offset d.sector r.place;
      lands = landed_here p h xs d.run path offset i.machine f.machine q.claim d.reading.known.there.at d.sampled.distinct claim.has q.landed place.0 place.1;
      now = (kept_past p h xs d.run c.made.step c.made.moment
          (Of_stamp i.machine f.machine c.made d.reading.known.there.at (made_is_stamp f.machine c own.has) refl refl)).1;
      order = lt_up_to q.claim.made.step q.answer.step c.made.step (timed.answered q.answer q.answered.0) q.answered.1;
    }

-- Its claim's landing, in the id.
claim_landing : (p : Program) (h : Header) (xs : List Happening) (path : List ℕ) (offset : ℕ) (i : SessionId) (f : Found) (c : Course)
    → (k : Known p h xs path offset i f c)
    → (((id_state (world_at p h xs) path offset).landing ((id_state (world_at p h xs) path offset).session (name_of i)).claim).moment ≡ k.lands.landing.moment)
    × (((id_state (world_at p h xs) path offset).landing ((id_state (world_at p h xs) path offset).session (name_of i)).claim).shown
    ≡ said_by (world_at p h xs).layout k.lands.landing.bytes)
claim_landing p h xs path offset i f c k =
    let w : World = world_at p h xs in
    let index : (session_at w path offset (name_of i)).claim ≡ index_of (i.machine, k.claimed.claim.call.number) (history_of w path offset) =
    ap (λ s. s.claim) k.stands
    ∙ ap (λ o. option_map_or (λ (x : Course). index_of (i.machine, x.call.number) (history_of w path offset)) o 0) k.claimed.claimed in
    let e = ap (id_state w path offset).landing index ∙ landing_at w path offset _ k.lands.landing k.lands.seen in
    (ap (λ l. l.moment) e, ap (λ l. l.shown) e)

or_true : (a : Bool) → (a || true) ≡ true
or_true true = refl
or_true false = refl

renewed_now : (joined : Option ℕ) (acting a b : ℕ) → joined ≡ None → a ≡ b → elim joined as (λ z. ℕ) [ Some k ↦ acting | None ↦ a ] ≡ b
renewed_now None acting a b is h = h
renewed_now (Some k) acting a b is h = absurd (none_some k (sym is))

stands_verified : (p : Program) (h : Header) (xs : List Happening) (path : List ℕ) (offset : ℕ) (i : SessionId) (f : Found) (c : Course) (x : Sampling)
    → (k : Known p h xs path offset i f c)
    → stands_with (world_at p h xs) path offset i f (deciding_sample i f) (Some x) ≡ after_verifying c.made.moment (standing_of (world_at p h xs) path offset i f)
stands_verified p h xs path offset i f c x k =
    let w : World = world_at p h xs in
    same_parts (after_verifying c.made.moment (standing_of w path offset i f)) (stands_with w path offset i f (deciding_sample i f) (Some x))
    refl refl refl refl refl (or_true (is_none f.session.job)) refl refl refl refl refl refl refl refl
    (renewed_now (joined_after (trace_of f) f.session) (option_map_or (λ y. y.moment) (acting_stamp f.daemon f.session) 0) _ c.made.moment k.joined
    (ap (λ o. option_map_or (λ (y : Course). y.made.moment) o 0) k.claimed.only))

-- Its claim landed long enough before, and not too long.
record IsTimely (p : Program) (h : Header) (xs : List Happening) (path : List ℕ) (offset : ℕ) (i : SessionId) (c : Course) (s : State) : Type 0 where
  waited : moment s (s.session (name_of i)).claim + (terms_of h.timing).wait < s.now
  soon : c.made.moment < moment s (s.session (name_of i)).claim + (terms_of h.timing).hold

timely : (p : Program) (h : Header) (xs : List Happening) (v : World) (path : List ℕ) (offset n j : ℕ) (i : SessionId) (f : Found) (c : Course)
    → VerifiesNow p h xs v path offset n j i f c → Known p h xs path offset i f c → IsTimely p h xs path offset i c (id_state (world_at p h xs) path offset)
timely p h xs v path offset n j i f c d k =
    let s : State = id_state (world_at p h xs) path offset in
    let q = k.claimed in
    let at = d.reading.known.there.at in
    let own = join_is i VerifyRead f.machine c q.only in
    let claim = join_is i ClaimWrite f.machine q.claim q.claimed in
    let e = claim_landing p h xs path offset i f c k in
    let answer = answer_is_stamp f.machine q.claim q.answer claim.has q.answered.0 in
    let made = made_is_stamp f.machine c own.has in
    record {
      waited = waits.waited h.timing s (s.session (name_of i)).claim (point_of q.answer) (point_of c.made)
          (subst (λ m. m ≤ q.answer.moment) (sym e.0) (k.lands.its.before q.answer q.answered.0))
          (drift_between p h xs d.run i.machine f.machine q.answer c.made at answer made q.answered.1) q.waited k.now;
      soon = waits.soon h.timing s (s.session (name_of i)).claim (point_of q.claim.made) (point_of c.made) d.run.header.timing
          (subst (λ m. q.claim.made.moment ≤ m) (sym e.0) k.lands.its.after)
          (drift_between p h xs d.run i.machine f.machine q.claim.made c.made at (made_is_stamp f.machine q.claim claim.has) made k.order) q.in_time;
    }

pub verifies : (p : Program) (h : Header) (xs : List Happening) (v : World) (path : List ℕ) (offset n j : ℕ) (i : SessionId) (f : Found) (c : Course)
    → VerifiesNow p h xs v path offset n j i f c
    → Verify (terms_of h.timing) (id_state (world_at p h xs) path offset) (id_state v path offset) (name_of i)
verifies p h xs v path offset n j i f c d =
    let w : World = world_at p h xs in
    let s : State = id_state w path offset in
    let k = known_of p h xs v path offset n j i f c d in
    let q = k.claimed in
    let g : Found = sampled_found w n j f in
    let e = claim_landing p h xs path offset i f c k in
    let landed : (s.session (name_of i)).landed ≡ true =
    ap (λ y. y.landed) k.stands ∙ ap (λ o. some_is (λ (y : Course). is_landed y.fate) o) q.claimed ∙ q.landed in
    let spelled = ((d.invariant.one (name_of i)).landed landed).2 in
    let l = has_newest w path offset in
    let here = is_here w path offset c k.here.0 k.here.1 in
    let bytes : l.landing.bytes ≡ k.lands.landing.bytes =
    sym (equal_bytes (claim_bytes w i f) (write_bytes w q.claim.call) _ (ap (λ o. option_map (λ y. write_bytes w y.call) o) q.claimed) d.shows.shows ∙ here.bytes ∙ l.bytes)
    ∙ sym k.lands.its.bytes in
    let time = timely p h xs v path offset n j i f c d k in
    record {
      landed = landed;
      not_over = ap (λ y. y.over) k.stands ∙ k.over;
      last = length (landed_at w path offset);
      is_last = newest_last w path offset;
      content = spelled.content;
      spelled = ap (λ x. x.shown) (landing_at w path offset (length (landed_at w path offset)) l.landing l.seen) ∙ ap (said_by w.layout) bytes
          ∙ sym e.1 ∙ spelled.spelled;
      own = spelled.spelled;
      waited = time.waited;
      registered = c.made.moment;
      before = k.now;
      soon = time.soon;
      same = same_landings w v path offset d.one.same;
      changes = record {
        now = d.one.moment;
        self = stood_after w v path offset n j i f d.one d.sector (ap (λ o. is_none f.session.job || is_some o) d.deciding ∙ k.begun)
            ∙ ap (λ o. stands_with w path offset i f o (verifying_sample v i g)) d.deciding
            ∙ ap (stands_with w path offset i f (deciding_sample i f)) d.shows.some
            ∙ stands_verified p h xs path offset i f c (sample_at w c.call 0) k
            ∙ ap (after_verifying c.made.moment) (sym k.stands);
        others = d.one.others;
      };
    }
