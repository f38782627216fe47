-- What a survey of a joined session samples stands at or above the session's claim.
use Rattle.sl_run_law.proofs.Course.CallsAreDistinct.{each_distinct}
use Rattle.sl_run_law.specs.Course.CallStamps.{IsCourseOf}
use Rattle.sl_run_law.proofs.Front.JoinedLists.{contains_left}
use Rattle.sl_id_safety.proofs.SeenRecords.{survey_law}
use Rattle.sl_id_safety.proofs.ShownStoodThere.{shows_number}
use Rattle.sl_id_safety.proofs.JoinedStand.{some_record}
use Rattle.sl_id_safety.specs.JoinedStand.{StandsJoined, sector_offset}
use Rattle.sl_id_safety.proofs.State.TraceBridge.{is_there, known}
use Rattle.sl_id_safety.proofs.State.CallLaws.{IsOwnCall, is_place, own_call, step_law}
use Rattle.sl_id_safety.proofs.State.SessionFacts.{claims_have_decided, grounds, renewals_have_verified, verify_reads_have_claimed}
use Rattle.sl_id_safety.proofs.State.RenewalsHaveVerified.{given_undecided}
use Rattle.sl_id_safety.proofs.State.SampleFrames.{join_is}
use Rattle.sl_id_safety.proofs.State.Tails.{front_at}
use Rattle.sl_id_safety.proofs.State.TracesInTime.{stamps_order}
use Rattle.sl_id_safety.specs.State.IdStates.{claim_bytes, comes_before, id_state, index_of, join_course, name_of, own_courses, refused_stamp, said_by, sample_showing, session_at, verifying_sample}
use Rattle.sl_id_safety.proofs.Steps.JoiningIsAlive.{joins_at, not_claim}
use Rattle.sl_id_safety.proofs.Steps.ClaimLanding.{landed_here, landing_of_call}
use Rattle.sl_id_safety.proofs.Steps.Seqs.{has_number}
use Rattle.sl_ids.proofs.StateLaws.{one_place}
use Rattle.sl_ids.specs.Guards.{terms_of}
use Rattle.sl_ids.specs.Invariant.{Invariant}
use Rattle.sl_ids.specs.State.{Session as IdSession, State, shown}
use Rattle.sl_run_law.proofs.Landing.CallLists.{one_call}
use Rattle.sl_run_law.proofs.Landing.LandingLaws.{landings_are_written}
use Rattle.sl_run_law.proofs.Landing.LandedRemain.{landed_are_there}
use Rattle.sl_run_law.proofs.Place.FoundInLists.{partner_of, place_is}
use Rattle.sl_run_law.proofs.Place.Looks.{made_below, stands as standing_joined}
use Rattle.sl_words.proofs.Lists.{find_inside, kept, kept_inside}
use Rattle.sl_words.proofs.Options.{then_value}
use Rattle.sl_run.specs.Runs.{Happening}
use Rattle.sl_run.specs.Safety.{Found, IsSession, LawfulRun, SessionId, setting_in, trace_of, world_at}
use Rattle.sl_run.specs.Worlds.{Course, Landing, Machine, Program, Sampling, Stamp, World, first_landing, history_of, landed_at, machine_at}
use Rattle.sl_run.specs.declared.header.Header.{Header}
use Rattle.sl_run_law.specs.FatesStay.{AreDistinct}
use Rattle.sl_run_law.proofs.Sample.LandingNumbers.{number_below}
use Rattle.sl_run_law.proofs.Sample.SampleLaws.{samples_are_landings}
use Rattle.sl_run_law.specs.Sample.Samples.{IsSampleOf, numbered_landing, sector_place}
use Rattle.sl_run_law.proofs.Sessions.CallsAreMade.{answers_stay}
use Rattle.sl_run_law.specs.Sessions.SessionLaws.{IsSession as IsSessionOf}
use Rattle.sl_trace.specs.Sessions.{calls_of, is_call_of, is_join_call, is_survey_purpose, session_numbered}
use Rattle.sl_trace.specs.Traces.{Submitted, new_call, same_place, submitted}
use Rattle.sl_trace.specs.declared.effects.Call.{Call}
use Rattle.sl_trace.specs.declared.effects.JoinStep.TheVariants.{ClaimWrite, FirstRenewal, VerifyRead}
use Rattle.sl_words.proofs.CaseLaws.{no_value, none_some, one_value, some_value, true_is_false}
use Rattle.sl_words.specs.Words.{choose, first_of_list, some_is}
use Rattle.std.proofs.Common.{ap, arith, inl, inr, refl, subst, sym, ◌∙◌}
use Rattle.std.proofs.lemmas.Bool.{cases_lt, eq-eqb, eqb-true}
use Rattle.std.specs.Option.{option_map_or}
use Rattle.std.specs.Prelude.{Bool, Contains, List, None, Option, Some, [], bytes_eq, false, is_some, length, slice_get, true, ℕ, ◌&&◌, ◌<◌, ◌∷◌, ◌≡◌, ◌≤◌, ◌⊎◌}

-- ---- the landing of the claim

-- What a call left came before its answer.
left_early : (p : Program) (h : Header) (xs : List Happening) → LawfulRun p h xs → (m : ℕ) (a : Machine) (c : Course) → machine_at (world_at p h xs) m ≡ Some a
    → AreDistinct a.calls → Contains a.calls c → (l : Landing) → Contains (world_at p h xs).landings l → l.writer ≡ Some (m, c.call.number) → (s : Stamp) → c.answered ≡ Some s
    → l.step < s.step
left_early p h xs run m a c at distinct has l there named =
    let w : World = world_at p h xs in
    let k = landings_are_written p h xs run l there in
    let same = some_value (k.machine, k.call) (m, c.call.number) (sym k.named ∙ named) in
    let machine : k.wrote.machine ≡ a = one_value k.wrote.machine a (machine_at w m) (ap (machine_at w) (sym (ap (λ q. q.0) same)) ∙ k.wrote.at) at in
    let its : k.wrote.course ≡ c =
    one_call a.calls k.wrote.course c distinct (subst (λ (y : Machine). Contains y.calls k.wrote.course) machine k.wrote.has) has
    (eq-eqb k.wrote.course.call.number c.call.number (k.wrote.number ∙ ap (λ q. q.1) same)) in
    subst (λ (x : Course). (s : Stamp) → x.answered ≡ Some s → l.step < s.step) its (λ s is. (k.wrote.before s is).0)

-- The claim's landing came before this step.
record HasLandedBy (w : World) (path : List ℕ) (offset claim step : ℕ) : Type 0 where
  landing : Landing
  seen : numbered_landing (history_of w path offset) claim ≡ Some landing
  early : landing.step < step

chosen : (b : Bool) (x y : Sampling) → choose b x ≡ Some y → x ≡ y
chosen true x y is = some_value x y is
chosen false x y is = absurd (none_some y is)

first_slot : (xs : List Sampling) (x : Sampling) → first_of_list xs ≡ Some x → slice_get xs 0 ≡ Some x
first_slot [] x is = absurd (none_some x is)
first_slot (y ∷ xs) x is = is

claim_landed : (p : Program) (h : Header) (xs : List Happening) → LawfulRun p h xs → (i : SessionId) (f : Found) → IsSession (world_at p h xs) i f → StandsJoined p h (world_at p h xs) i f
    → Invariant (terms_of h.timing) (id_state (world_at p h xs) f.session.path (sector_offset (world_at p h xs) f)) → (x : Sampling) → verifying_sample (world_at p h xs) i f ≡ Some x
    → HasLandedBy (world_at p h xs) f.session.path (sector_offset (world_at p h xs) f)
    (session_at (world_at p h xs) f.session.path (sector_offset (world_at p h xs) f) (name_of i)).claim x.step
claim_landed p h xs run i f its s inv x is =
    let w : World = world_at p h xs in
    let path : List ℕ = f.session.path in
    let offset : ℕ = sector_offset w f in
    let v : State = id_state w path offset in
    let ls : List Landing = history_of w path offset in
    let at = (is_there w i f its).at in
    let read = then_value (sample_showing f (claim_bytes w i f)) (join_course i VerifyRead f.machine) x is in
    let reads = join_is i VerifyRead f.machine read.0 read.1 in
    let y =
    then_value (λ (z : Sampling). choose (some_is (λ b. bytes_eq b read.0.sampled) (claim_bytes w i f) && comes_before (refused_stamp f) z) z) (first_of_list read.0.samples) x read.2 in
    let sample = samples_are_landings p h xs run i.machine f.machine read.0 0 y.0 at reads.has (first_slot read.0.samples y.0 y.1) in
    let made : read.0.made.step < x.step =
    subst (λ (z : Sampling). read.0.made.step < z.step)
    (chosen (some_is (λ b. bytes_eq b read.0.sampled) (claim_bytes w i f) && comes_before (refused_stamp f) y.0) y.0 x y.2) sample.after.0 in
    let q = verify_reads_have_claimed p h xs run i f read.0 its reads.own reads.joins in
    let claim = join_is i ClaimWrite f.machine q.claim q.claimed in
    let decided = claims_have_decided p h xs run i f q.claim its claim.own claim.joins in
    let place = place_is path offset q.claim.call.path q.claim.call.offset decided.own.place in
    let distinct = each_distinct p h xs run i.machine f.machine at in
    let here = landed_here p h xs run path offset i.machine f.machine q.claim at distinct claim.has q.landed (sym place.0) (sym place.1) in
    let number : (v.session (name_of i)).claim ≡ index_of (i.machine, q.claim.call.number) ls =
    ap (λ (z : IdSession). z.claim) s.stands ∙ ap (λ o. option_map_or (λ (z : Course). index_of (i.machine, z.call.number) ls) o 0) q.claimed in
    let stood : shown v (v.session (name_of i)).claim ≡ said_by w.layout here.landing.bytes =
    ap (λ k. shown v k) number ∙ shows_number w path offset (index_of (i.machine, q.claim.call.number) ls) here.landing here.seen in
    let l = landed_are_there p h xs run i.machine f.machine q.claim at claim.has q.landed in
    let left = landing_of_call p h xs run i.machine f.machine q.claim at distinct claim.has q.landed l.0 l.1 l.2 in
    let inside : Contains ls l.0 =
    contains_left (landed_at w path offset) (first_landing w path offset ∷ []) l.0
    (kept (λ (z : Landing). same_place z.path z.offset path offset) w.landings l.0
    (is_place l.0.path l.0.offset path offset (sym left.place.0 ∙ sym place.0) (sym left.place.1 ∙ sym place.1)) l.1) in
    let b = has_number ls l.0 inside in
    let own = ((inv.one (name_of i)).verified s.verified).1 in
    let same : b.0 ≡ (v.session (name_of i)).claim =
    one_place (terms_of h.timing) v inv b.0 (v.session (name_of i)).claim own.content (number_below ls b.0 l.0 b.1) own.within
    (shows_number w path offset b.0 l.0 b.1 ∙ ap (said_by w.layout) (left.bytes ∙ sym here.its.bytes) ∙ sym stood ∙ own.spelled) own.spelled in
    let early = left_early p h xs run i.machine f.machine q.claim at distinct claim.has l.0 l.1 l.2 q.answer q.answered.0 in
    let order = q.answered.1 in
    record { landing = l.0; seen = subst (λ k. numbered_landing ls k ≡ Some l.0) same b.1; early = omega (arith, early, order, made) }

-- ---- a survey is made after the first renewal

renewed_before : (w : World) (i : SessionId) (f : Found) (c : Course) (o : IsOwnCall w i f c) → (j : ℕ) → f.session.job ≡ Some j → is_survey_purpose c.call.purpose ≡ true
    → (r : Course) × Contains (own_courses i f.machine) r × (is_join_call FirstRenewal r.call.purpose ≡ true) × (r.made.step ≤ c.made.step)
renewed_before w i f c o j job survey =
    let d = o.placed.made in
    let law = survey_law (setting_in f) (front_at d) f.session (new_call (length d.past) d.entry.reading o.placed.pairs.here.call) o.placed.pairs.here.call.purpose
    (ap (λ (y : Call). is_survey_purpose y.purpose) o.placed.pairs.this.call ∙ survey) o.lawful.law in
    let k = standing_joined (front_at d) f.session law.standing in
    let its : IsSessionOf (setting_in f) (d.entry ∷ d.past) f.session =
    ap (λ n. session_numbered (setting_in f) (d.entry ∷ d.past) n) (sym (eqb-true o.placed.pairs.here.call.session f.session.number d.mine)) ∙ o.lawful.its in
    let join = joins_at (setting_in f) (d.entry ∷ d.past) f.session o.lawful.lawful its j k.0 job k.1 in
    let found = find_inside (λ (m : Submitted). is_join_call FirstRenewal m.call.purpose) (calls_of (d.entry ∷ d.past) f.session) join.renewal join.first in
    let mine = kept_inside (is_call_of f.session) (submitted (d.entry ∷ d.past)) join.renewal found.0 in
    let inside : Contains (submitted (trace_of f)) join.renewal =
    subst (λ es. Contains (submitted es) join.renewal) (sym d.whole) (answers_stay d.later (d.entry ∷ d.past) join.renewal join.answer mine.0 join.done.0) in
    let r = partner_of (IsCourseOf f.daemon) (own_courses i f.machine) (calls_of (trace_of f) f.session) join.renewal o.known.pairs
    (kept (is_call_of f.session) (submitted (trace_of f)) join.renewal mine.1 inside) in
    let below = made_below (d.entry ∷ d.past) join.renewal mine.0 in
    let le : join.renewal.at ≤ o.placed.pairs.here.at = let at = d.place in omega (arith, below, at) in (
      r.0,
      r.1,
      ap (λ (y : Call). is_join_call FirstRenewal y.purpose) (sym r.2.call) ∙ found.1,
      stamps_order w.step f.daemon.stamps join.renewal.at o.placed.pairs.here.at r.0.made c.made o.known.stamps r.2.made o.placed.pairs.this.made le,
    )

-- So the verify read has shown the claim before.
verified_before : (p : Program) (h : Header) (xs : List Happening) → LawfulRun p h xs → (i : SessionId) (f : Found) → IsSession (world_at p h xs) i f → (c : Course)
    → Contains (own_courses i f.machine) c → is_survey_purpose c.call.purpose ≡ true → (j : ℕ) → f.session.job ≡ Some j
    → (x : Sampling) × (verifying_sample (world_at p h xs) i f ≡ Some x) × (x.step < c.made.step)
verified_before p h xs run i f its c has survey j job =
    let w : World = world_at p h xs in
    let kn = known grounds p h xs run i f its in
    let r = renewed_before w i f c (own_call w i f c kn has) j job survey in
    let o = own_call w i f r.0 kn r.1 in
    let law = step_law w i f r.0 o FirstRenewal r.2 in
    let wrote = some_record o.placed.pairs.here.call r.0.call.op (ap (λ (y : Call). y.op) o.placed.pairs.this.call) law.written in
    by r.0 r.3 (renewals_have_verified p h xs run i f r.0 its r.1 wrote.0 wrote.1 (not_claim r.0.call.purpose r.2)).verified
  where
    by : (r : Course) → r.made.step ≤ c.made.step → (f.session.job ≡ None) ⊎ ((x : Sampling) × (verifying_sample (world_at p h xs) i f ≡ Some x) × (x.step < r.made.step))
        → (x : Sampling) × (verifying_sample (world_at p h xs) i f ≡ Some x) × (x.step < c.made.step)
    by r le (inl none) = absurd (no_value j f.session.job job none)
    by r le (inr x) = let lt = x.2 in (x.0, x.1, omega (arith, lt, le))

-- ---- the law

pub claim_below : (p : Program) (h : Header) (xs : List Happening) → LawfulRun p h xs → (i : SessionId) (f : Found) → IsSession (world_at p h xs) i f → StandsJoined p h (world_at p h xs) i f
    → Invariant (terms_of h.timing) (id_state (world_at p h xs) f.session.path (sector_offset (world_at p h xs) f)) → (c : Course) → Contains (own_courses i f.machine) c
    → is_survey_purpose c.call.purpose ≡ true → (k : ℕ) (y : Sampling) → IsSampleOf (world_at p h xs) c k y → f.session.path ≡ c.call.path
    → sector_offset (world_at p h xs) f ≡ sector_place (world_at p h xs) c k
    → (session_at (world_at p h xs) f.session.path (sector_offset (world_at p h xs) f) (name_of i)).claim ≤ y.index
claim_below p h xs run i f its s inv c has survey k y sample path offset = by f.session.job refl where
  at_first : f.session.job ≡ None
      → ((session_at (world_at p h xs) f.session.path (sector_offset (world_at p h xs) f) (name_of i)).decided ≡ true)
      × ((session_at (world_at p h xs) f.session.path (sector_offset (world_at p h xs) f) (name_of i)).landed ≡ true)
      ⊎ (((session_at (world_at p h xs) f.session.path (sector_offset (world_at p h xs) f) (name_of i)).decided ≡ false)
      × ((session_at (world_at p h xs) f.session.path (sector_offset (world_at p h xs) f) (name_of i)).claim ≡ 0)
      × ((session_at (world_at p h xs) f.session.path (sector_offset (world_at p h xs) f) (name_of i)).base ≡ 0))
      → (session_at (world_at p h xs) f.session.path (sector_offset (world_at p h xs) f) (name_of i)).claim ≤ y.index
  at_first job (inl both) =
      absurd (true_is_false
      (sym both.0 ∙ ap (λ (z : IdSession). z.decided) s.stands
      ∙ ap (λ o. is_some o) (given_undecided (world_at p h xs) i f (known grounds p h xs run i f its) job)))
  at_first job (inr none) = let zero = none.1 in omega (arith, zero)

  later : (x : Sampling) → x.step < c.made.step → HasLandedBy (world_at p h xs) f.session.path (sector_offset (world_at p h xs) f)
      (session_at (world_at p h xs) f.session.path (sector_offset (world_at p h xs) f) (name_of i)).claim x.step
      → (y.index < (session_at (world_at p h xs) f.session.path (sector_offset (world_at p h xs) f) (name_of i)).claim)
      ⊎ ((session_at (world_at p h xs) f.session.path (sector_offset (world_at p h xs) f) (name_of i)).claim ≤ y.index)
      → (session_at (world_at p h xs) f.session.path (sector_offset (world_at p h xs) f) (name_of i)).claim ≤ y.index
  later x before l (inr le) = le
  later x before l (inl less) =
      let claim : ℕ = (session_at (world_at p h xs) f.session.path (sector_offset (world_at p h xs) f) (name_of i)).claim in
      let seen : numbered_landing (history_of (world_at p h xs) c.call.path (sector_place (world_at p h xs) c k)) claim ≡ Some l.landing =
      subst (λ n. numbered_landing (history_of (world_at p h xs) c.call.path n) claim ≡ Some l.landing) offset
      (subst (λ q. numbered_landing (history_of (world_at p h xs) q (sector_offset (world_at p h xs) f)) claim ≡ Some l.landing) path l.seen) in
      let next = (sample.before_next claim l.landing seen less).0 in
      let early = l.early in
      let after = sample.after.0 in
      absurd (omega (arith, next, early, before, after))

  by : (o : Option ℕ) → f.session.job ≡ o → (session_at (world_at p h xs) f.session.path (sector_offset (world_at p h xs) f) (name_of i)).claim ≤ y.index
  by None job = at_first job ((inv.one (name_of i)).verified s.verified).3
  by (Some j) job =
      let x = verified_before p h xs run i f its c has survey j job in
      later x.0 x.2 (claim_landed p h xs run i f its s inv x.0 x.1)
      (cases_lt y.index (session_at (world_at p h xs) f.session.path (sector_offset (world_at p h xs) f) (name_of i)).claim)
