-- What stands behind a renewal or a free.
use Rattle.sl_run_law.proofs.Course.Daemons.{every_has}
use Rattle.sl_words.proofs.Lists.{contains_more, got_inside}
use Rattle.sl_run_law.specs.FatesStay.{Every}
use Rattle.sl_area.specs.AreaSizes.{Layout, sector_with}
use Rattle.sl_run_law.specs.Course.CallStamps.{IsCourseOf}
use Rattle.sl_run_law.proofs.Front.JoinedLists.{contains_right}
use Rattle.sl_id_safety.proofs.State.TraceBridge.{Grounds, IsKnown, known}
use Rattle.sl_id_safety.proofs.State.ClaimsHaveDecided.{has_decided, one_place, read_step, record_is, step_truth}
use Rattle.sl_id_safety.proofs.State.CallLaws.{IsLawfulCall, IsOwnCall, is_at_own, lawful_call, own_call, step_law}
use Rattle.sl_id_safety.proofs.State.PairedLists.{EveryTail, every_from, every_pair, find_none, stands_there, tail_at}
use Rattle.sl_run_law.proofs.Place.FoundInLists.{partner, partner_of}
use Rattle.sl_id_safety.proofs.State.JoiningCallOrder.{begun_if_joined, has_name, is_joining, joined_not}
use Rattle.sl_id_safety.proofs.State.SeqsRise.{ClaimHasGeneration, HasFirst, HasGeneration, HasLess, IsFirst, IsNext, IsShaped, Rises, all_renew, all_rise, all_shaped, claim_behind, joined_behind, one_generation, shape, unique}
use Rattle.sl_id_safety.proofs.State.JoiningSteps.{before_refusal, only, own_behind, places, ranks_of, showing}
use Rattle.sl_id_safety.proofs.State.Tails.{AreMade, IsMadeAfter, all_made, front_at}
use Rattle.sl_id_safety.proofs.State.VerifyReads.{written_there}
use Rattle.sl_id_safety.specs.State.Facts.{HasVerified, RenewalsHaveVerified}
use Rattle.sl_id_safety.specs.State.IdStates.{claim_bytes, deciding_sample, generation_by, is_sector_of, own_courses, sample_showing, verifying_sample, watched_bytes}
use Rattle.sl_run.specs.Lawful.{Orderly}
use Rattle.sl_run.specs.LawForms.{cut_at}
use Rattle.sl_run.specs.EventChanges.{write_bytes}
use Rattle.sl_run.specs.Runs.{Happening}
use Rattle.sl_run.specs.Safety.{Found, LawfulRun, SessionId, setting_in, trace_of, world_at}
use Rattle.sl_run.specs.Worlds.{Course, Program, Sampling, World}
use Rattle.sl_run.specs.declared.header.Header.{Header}
use Rattle.sl_sector.specs.declared.sector.DeltaRec.{DeltaRec}
use Rattle.sl_sector.specs.declared.sector.Rec.TheVariants.{DeltaIs}
use Rattle.sl_sector.specs.declared.sector.Rec.{Rec}
use Rattle.sl_run_law.proofs.Sessions.CallOwners.{session_more}
use Rattle.sl_run_law.specs.Sessions.SessionLaws.{IsSession as IsSessionOf}
use Rattle.sl_trace.specs.Sessions.{calls_of, delta_of_record, delta_written, is_join_call, is_join_done, joined_after, session_numbered, sessions}
use Rattle.sl_trace.specs.declared.session.Session.{Session}
use Rattle.sl_trace.specs.Traces.{Setting, Submitted, Trace, new_call, record_of, reply_to}
use Rattle.sl_trace.specs.declared.effects.Call.{Call}
use Rattle.sl_trace.specs.declared.effects.JoinStep.TheVariants.{ClaimWrite, DecidingRead, FirstRenewal, VerifyRead}
use Rattle.sl_trace.specs.declared.effects.Purpose.{Purpose}
use Rattle.sl_words.proofs.CaseLaws.{is_false, one_value, some_value, true_is_false}
use Rattle.sl_words.specs.Words.{choose}
use Rattle.std.proofs.Common.{ap, arith, inl, inr, refl, subst, sym, ◌∙◌}
use Rattle.std.proofs.lemmas.Bool.{eqb-true}
use Rattle.std.specs.Option.{option_map_or}
use Rattle.std.specs.Prelude.{Contains, List, None, Option, Some, [], false, length, option_and_then, option_map, true, ℕ, ◌+◌, ◌<◌, ◌∷◌, ◌≡◌, ◌≤◌, ◌⊎◌}

-- ---- a session that was joined at first makes no call of a joining

pub given_joined : (t : Trace) (s : Session) → s.job ≡ None → joined_after t s ≡ Some 0
given_joined t s none =
    ap (λ (o : Option ℕ). elim o as (λ z. Option ℕ) [ None ↦ Some 0 | Some j ↦ option_and_then (λ r. choose (is_join_done r.reply) (r.at + 1)) (reply_to t j) ]) none

pub given_none : (st : Setting) (es : Trace) (s : Session) (m : Submitted) (older : List Submitted) (d : IsMadeAfter es s m older) → IsLawfulCall st es s m older d → s.job ≡ None
    → is_joining m.call.purpose ≡ false
given_none st es s m older d l none =
    let t : Trace = front_at d in
    let its : IsSessionOf st (d.entry ∷ d.past) s = ap (λ n. session_numbered st (d.entry ∷ d.past) n) (sym (eqb-true m.call.session s.number d.mine)) ∙ l.its in
    let was = begun_if_joined st d.entry d.past s l.lawful its 0 (given_joined (d.entry ∷ d.past) s none) in
    joined_not st t s (new_call (length d.past) d.entry.reading m.call) 0 m.call.purpose l.law (given_joined t s none)
    (has_name st t s 0 (got_inside (sessions st t) s.number s (session_more st (cut_at d.index d.entry) d.past s.number s was)) (given_joined t s none) l.alive)

pub all_given_by : (st : Setting) (es : Trace) (s : Session) → Orderly st es → IsSessionOf st es s → s.job ≡ None → (ms : List Submitted) → AreMade es s ms
    → Every (λ (m : Submitted). is_joining m.call.purpose ≡ false) ms
all_given_by st es s h its none [] made = tt
all_given_by st es s h its none (m ∷ ms) made =
    (given_none st es s m ms made.0 (lawful_call st es s m ms made.0 h its) none, all_given_by st es s h its none ms made.1)

pub none_joining : (w : World) (i : SessionId) (f : Found) → IsKnown w i f → f.session.job ≡ None → Every (λ (m : Submitted). is_joining m.call.purpose ≡ false) (calls_of (trace_of f) f.session)
none_joining w i f k none =
    all_given_by (setting_in f) (trace_of f) f.session k.lawful k.its none (calls_of (trace_of f) f.session) (all_made (trace_of f) f.session)

pub not_at : (p : Purpose) → is_joining p ≡ false → is_join_call DecidingRead p ≡ false
not_at p apart = is_false (is_join_call DecidingRead p) (λ is. true_is_false (sym (ranks_of DecidingRead p is).0 ∙ apart))

pub given_undecided : (w : World) (i : SessionId) (f : Found) → IsKnown w i f → f.session.job ≡ None → deciding_sample i f ≡ None
given_undecided w i f k none =
    ap (λ q. option_and_then (sample_showing f (watched_bytes i f)) q)
    (find_none (λ (c : Course). is_join_call DecidingRead c.call.purpose) (own_courses i f.machine)
    (every_pair (IsCourseOf f.daemon) (λ (c : Course). is_join_call DecidingRead c.call.purpose ≡ false) (λ (m : Submitted). is_joining m.call.purpose ≡ false)
    (λ c m r apart. not_at c.call.purpose (ap (λ (x : Call). is_joining x.purpose) (sym r.call) ∙ apart)) (own_courses i f.machine) (calls_of (trace_of f) f.session) k.pairs
    (none_joining w i f k none)))

-- ---- the first renewal

-- The first renewal, with its claim and the sample of its verify read.
pub record HasRenewed (w : World) (i : SessionId) (f : Found) (first : Course) : Type 0 where
  pub own : IsOwnCall w i f first
  pub at : is_join_call FirstRenewal first.call.purpose ≡ true
  pub claimed : DeltaRec
  pub claim : Course
  pub claim_own : IsOwnCall w i f claim
  pub claims : is_join_call ClaimWrite claim.call.purpose ≡ true
  pub writes : record_of claim.call.op ≡ Some (DeltaIs claimed)
  -- as it stands in the trace
  pub call : Submitted
  pub inside : Contains (calls_of (trace_of f) f.session) call
  pub call_claims : is_join_call ClaimWrite call.call.purpose ≡ true
  pub written : delta_written call ≡ Some claimed
  pub sample : Sampling
  pub verifying : verifying_sample w i f ≡ Some sample
  pub before : sample.step < first.made.step

in_calls : (w : World) (i : SessionId) (f : Found) (c : Course) (o : IsOwnCall w i f c) (m : Submitted) → Contains o.placed.pairs.rest m → Contains (calls_of (trace_of f) f.session) m
in_calls w i f c o m there =
    let x = o.placed.pairs in
    subst (λ ms. Contains ms m) (sym x.whole) (contains_right x.front (x.here ∷ x.rest) m (contains_more x.here x.rest m there))

has_renewed : Grounds → (p : Program) (h : Header) (xs : List Happening) → LawfulRun p h xs → (i : SessionId) (f : Found) (c : Course) → IsOwnCall (world_at p h xs) i f c
    → is_join_call FirstRenewal c.call.purpose ≡ true → HasRenewed (world_at p h xs) i f c
has_renewed g p h xs run i f c o is =
    let w : World = world_at p h xs in
    let law = step_law w i f c o FirstRenewal is in
    let x = o.placed in
    let q = claim_behind (trace_of f) f.session x.pairs.here x.pairs.rest x.made law.claim law.claimed in
    let k = partner_of (IsCourseOf f.daemon) x.older x.pairs.rest q.0 x.pairs.rests q.1 in
    let ok = own_call w i f k.0 o.known (own_behind i f c x k.0 k.1) in
    let claims : is_join_call ClaimWrite k.0.call.purpose ≡ true = ap (λ (y : Call). is_join_call ClaimWrite y.purpose) (sym k.2.call) ∙ q.2 in
    let writes = record_is q.0.call k.0.call.op law.claim (ap (λ (y : Call). y.op) k.2.call) q.3 in
    let bytes : List ℕ = sector_with (setting_in f).layout (DeltaIs law.claim) in
    let v = read_step g p h xs run i f c o (is_at_own w i f c o (step_truth FirstRenewal c.call.purpose is)) VerifyRead refl law.read bytes law.verified in
    let spelled : claim_bytes w i f ≡ Some bytes =
    ap (λ y. option_map (λ (z : Course). write_bytes w z.call) y) (only w i f k.0 ok ClaimWrite (λ e. omega (arith, e)) claims)
    ∙ ap (λ y. Some (option_map_or (sector_with w.layout) y [])) writes
    ∙ ap (λ (y : Layout). Some (sector_with y (DeltaIs law.claim))) (sym o.known.of_world.layout) in
    record {
      own = o;
      at = is;
      claimed = law.claim;
      claim = k.0;
      claim_own = ok;
      claims = claims;
      writes = writes;
      call = q.0;
      inside = in_calls w i f c o q.0 q.1;
      call_claims = q.2;
      written = q.3;
      sample = v.read.sample;
      verifying = ap (λ y. option_and_then (sample_showing f (claim_bytes w i f)) y) (only w i f v.course v.own VerifyRead (λ e. omega (arith, e)) v.joins)
          ∙ showing f (claim_bytes w i f) v.course bytes v.read.sample spelled v.sampled v.read.first (before_refusal w i f c o v.read.sample v.before);
      before = v.before;
    }

-- ---- a renewal

-- What a renewal is, where it was made.
abbrev pub ShapeOf : (w : World) (i : SessionId) (f : Found) (c : Course) → IsOwnCall w i f c → DeltaRec → Type 0
ShapeOf w i f c o d =
    IsShaped (setting_in f) (front_at o.placed.made) f.session (new_call (length o.placed.made.past) o.placed.made.entry.reading o.placed.pairs.here.call) d c.call.purpose

shape_of : (w : World) (i : SessionId) (f : Found) (c : Course) (o : IsOwnCall w i f c) (d : DeltaRec) → record_of c.call.op ≡ Some (DeltaIs d)
    → is_join_call ClaimWrite c.call.purpose ≡ false → ShapeOf w i f c o d
shape_of w i f c o d writes apart =
    let n : Submitted = new_call (length o.placed.made.past) o.placed.made.entry.reading o.placed.pairs.here.call in
    subst (λ (x : Call). IsShaped (setting_in f) (front_at o.placed.made) f.session n d x.purpose) o.placed.pairs.this.call
    (shape (setting_in f) (front_at o.placed.made) f.session n d o.placed.pairs.here.call.purpose o.lawful.law (written_there w i f c o d writes)
    (ap (λ (x : Call). is_join_call ClaimWrite x.purpose) o.placed.pairs.this.call ∙ apart))

-- A first renewal that isn't made after this call.
abbrev FirstBefore : (w : World) (i : SessionId) (f : Found) (c : Course) → Type 0
FirstBefore w i f c = (first : Course) × HasRenewed w i f first × (first.made.step ≤ c.made.step)

first_behind : Grounds → (p : Program) (h : Header) (xs : List Happening) → LawfulRun p h xs → (i : SessionId) (f : Found) (c : Course) (o : IsOwnCall (world_at p h xs) i f c) (d : DeltaRec)
    → ShapeOf (world_at p h xs) i f c o d → (f.session.job ≡ None) ⊎ FirstBefore (world_at p h xs) i f c
first_behind g p h xs run i f c o d k = by k.kind where
  behind : (f.session.job ≡ None) ⊎ HasFirst o.placed.pairs.rest → (f.session.job ≡ None) ⊎ FirstBefore (world_at p h xs) i f c
  behind (inl none) = inl none
  behind (inr q) =
      let x = o.placed in
      let r = partner_of (IsCourseOf f.daemon) x.older x.pairs.rest q.0 x.pairs.rests q.1 in
      let one = has_renewed g p h xs run i f r.0 (own_call (world_at p h xs) i f r.0 o.known (own_behind i f c x r.0 r.1))
      (ap (λ (y : Call). is_join_call FirstRenewal y.purpose) (sym r.2.call) ∙ q.2) in
      inr (r.0, one, x.behind r.0 r.1)

  by : IsFirst (setting_in f) (front_at o.placed.made) f.session (new_call (length o.placed.made.past) o.placed.made.entry.reading o.placed.pairs.here.call) d c.call.purpose
      ⊎ IsNext (front_at o.placed.made) f.session d → (f.session.job ≡ None) ⊎ FirstBefore (world_at p h xs) i f c
  by (inl one) = inr (c, has_renewed g p h xs run i f c o one.at, omega arith)
  by (inr next) = behind (joined_behind (setting_in f) (trace_of f) f.session o.placed.pairs.here o.placed.pairs.rest o.placed.made o.lawful next.standing)

verified_by : (w : World) (i : SessionId) (f : Found) (c : Course) → (f.session.job ≡ None) ⊎ FirstBefore w i f c
    → (f.session.job ≡ None) ⊎ ((x : Sampling) × (verifying_sample w i f ≡ Some x) × (x.step < c.made.step))
verified_by w i f c (inl none) = inl none
verified_by w i f c (inr r) = inr (r.1.sample, r.1.verifying, omega (arith, r.1.before, r.2))

-- ---- its generation

generation_is : (w : World) (i : SessionId) (f : Found) (k : IsKnown w i f) (g : ℕ) → (f.session.job ≡ None → g ≡ 1)
    → Every (ClaimHasGeneration g) (calls_of (trace_of f) f.session) → (c : Course) (o : IsOwnCall w i f c) (d : DeltaRec) → record_of c.call.op ≡ Some (DeltaIs d) → d.generation ≡ g
generation_is w i f k g given claims c o d writes =
    let ms : List Submitted = calls_of (trace_of f) f.session in
    let x = o.placed.pairs in
    every_has (HasGeneration g) ms x.here
    (one_generation f.session g given ms (all_shaped (setting_in f) (trace_of f) f.session k.lawful k.its) (all_renew (setting_in f) (trace_of f) f.session k.lawful k.its) claims)
    (subst (λ zs. Contains zs x.here) (sym x.whole) (stands_there x.front x.here x.rest)) d (written_there w i f c o d writes)

claims_given : (g : ℕ) (ms : List Submitted) → Every (λ (m : Submitted). is_joining m.call.purpose ≡ false) ms → Every (ClaimHasGeneration g) ms
claims_given g [] h = tt
claims_given g (m ∷ ms) h = (λ at. absurd (true_is_false (sym (ranks_of ClaimWrite m.call.purpose at).0 ∙ h.0)), claims_given g ms h.1)

claims_one : (w : World) (i : SessionId) (f : Found) (k : IsKnown w i f) (first : Course) (r : HasRenewed w i f first) → Every (ClaimHasGeneration r.claimed.generation) (calls_of (trace_of f) f.session)
claims_one w i f k first r =
    every_from (ClaimHasGeneration r.claimed.generation) (calls_of (trace_of f) f.session) (λ x there at d is.
    let same = unique ClaimWrite (λ e. omega (arith, e)) (calls_of (trace_of f) f.session) (places w i f k) x r.call there r.inside at r.call_claims in
    ap (λ (y : DeltaRec). y.generation) (one_value d r.claimed (delta_written r.call) (ap (λ (y : Submitted). delta_written y) (sym same) ∙ is) r.written))

not_given : (w : World) (i : SessionId) (f : Found) (k : IsKnown w i f) (first : Course) (r : HasRenewed w i f first) → f.session.job ≡ None → ⊥
not_given w i f k first r none =
    true_is_false (sym (ranks_of ClaimWrite r.call.call.purpose r.call_claims).0
    ∙ every_has (λ (m : Submitted). is_joining m.call.purpose ≡ false) (calls_of (trace_of f) f.session) r.call (none_joining w i f k none) r.inside)

pub same_record : (o : Option Rec) (a b : DeltaRec) → o ≡ Some (DeltaIs a) → o ≡ Some (DeltaIs b) → a ≡ b
same_record o a b p q = some_value a b (ap (λ x. option_and_then delta_of_record x) (sym p ∙ q))

generation_of_claim : Grounds → (p : Program) (h : Header) (xs : List Happening) → LawfulRun p h xs → (i : SessionId) (f : Found) (c : Course)
    → is_sector_of (world_at p h xs).layout c.call.path c.call.offset f.session ≡ true → (first : Course) (r : HasRenewed (world_at p h xs) i f first)
    → r.claimed.generation ≡ generation_by (world_at p h xs) c.call.path c.call.offset (deciding_sample i f)
generation_of_claim g p h xs run i f c own first r =
    let w : World = world_at p h xs in
    let hd = has_decided g p h xs run i f r.claim r.claim_own r.claims in
    let place = one_place w f r.claim c hd.own.place own in
    ap (λ (y : DeltaRec). y.generation) (same_record (record_of r.claim.call.op) r.claimed hd.record_written r.writes hd.own.writes)
    ∙ hd.generation ∙ ap (λ q. generation_by w q r.claim.call.offset (Some hd.sample)) place.0 ∙ ap (λ n. generation_by w c.call.path n (Some hd.sample)) place.1
    ∙ ap (λ y. generation_by w c.call.path c.call.offset y) (sym hd.decided)

generation_verified : Grounds → (p : Program) (h : Header) (xs : List Happening) → LawfulRun p h xs → (i : SessionId) (f : Found) (c : Course) (o : IsOwnCall (world_at p h xs) i f c) (d : DeltaRec)
    → record_of c.call.op ≡ Some (DeltaIs d) → is_sector_of (world_at p h xs).layout c.call.path c.call.offset f.session ≡ true
    → (f.session.job ≡ None) ⊎ FirstBefore (world_at p h xs) i f c → d.generation ≡ generation_by (world_at p h xs) c.call.path c.call.offset (deciding_sample i f)
generation_verified g p h xs run i f c o d writes own (inl none) =
    let w : World = world_at p h xs in
    generation_is w i f o.known 1 (λ z. refl) (claims_given 1 (calls_of (trace_of f) f.session) (none_joining w i f o.known none)) c o d writes
    ∙ ap (λ y. generation_by w c.call.path c.call.offset y) (sym (given_undecided w i f o.known none))
generation_verified g p h xs run i f c o d writes own (inr r) =
    let w : World = world_at p h xs in
    generation_is w i f o.known r.1.claimed.generation (λ z. absurd (not_given w i f o.known r.0 r.1 z)) (claims_one w i f o.known r.0 r.1) c o d writes
    ∙ generation_of_claim g p h xs run i f c own r.0 r.1

-- ---- its seq

rises_above : (w : World) (i : SessionId) (f : Found) (c : Course) (o : IsOwnCall w i f c) (d : DeltaRec) → record_of c.call.op ≡ Some (DeltaIs d) → (k : Course) (e : DeltaRec)
    → Contains (own_courses i f.machine) k → record_of k.call.op ≡ Some (DeltaIs e) → k.made.step < c.made.step → e.seq < d.seq
rises_above w i f c o d writes k e has wrote lt =
    let ms : List Submitted = calls_of (trace_of f) f.session in
    let x = o.placed in
    let all = all_rise f.session ms (all_shaped (setting_in f) (trace_of f) f.session o.known.lawful o.known.its) (places w i f o.known) in
    let here = tail_at Rises x.pairs.front x.pairs.here x.pairs.rest (subst (λ zs. EveryTail Rises zs) x.pairs.whole all) in
    let m = partner (IsCourseOf f.daemon) x.older x.pairs.rest k x.pairs.rests (x.order k has lt) in
    every_has (HasLess d.seq) x.pairs.rest m.0 (here d (written_there w i f c o d writes)) m.1 e
    (ap (λ (y : Call). option_and_then delta_of_record (record_of y.op)) m.2.call ∙ ap (λ q. option_and_then delta_of_record q) wrote)

-- ---- the law

has_verified : Grounds → (p : Program) (h : Header) (xs : List Happening) → LawfulRun p h xs → (i : SessionId) (f : Found) (c : Course) (o : IsOwnCall (world_at p h xs) i f c) (d : DeltaRec)
    → record_of c.call.op ≡ Some (DeltaIs d) → is_join_call ClaimWrite c.call.purpose ≡ false → HasVerified (world_at p h xs) i f c d
has_verified g p h xs run i f c o d writes apart =
    let w : World = world_at p h xs in
    let k = shape_of w i f c o d writes apart in
    let first = first_behind g p h xs run i f c o d k in
    let own = is_at_own w i f c o k.delta in
    record {
      own = record { writes = writes; place = own; names = k.names };
      verified = verified_by w i f c first;
      generation = generation_verified g p h xs run i f c o d writes own first;
      state = k.state;
      live = k.live;
      rises = λ z e has wrote lt. rises_above w i f c o d writes z e has wrote lt;
    }

-- Behind a renewal or a free stands the verified claim.
pub renewals_have_verified_given : Grounds → RenewalsHaveVerified
renewals_have_verified_given g p h xs run i f c its there d writes apart =
    has_verified g p h xs run i f c (own_call (world_at p h xs) i f c (known g p h xs run i f its) there) d writes apart
