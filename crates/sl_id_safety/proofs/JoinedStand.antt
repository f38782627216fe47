-- A joined session has begun, has verified and stands at the place of an id.
use Rattle.sl_area.specs.AreaSizes.{Layout}
use Rattle.sl_area.specs.AreaLayout.{delta_offset}
use Rattle.sl_run_law.specs.Course.CallStamps.{IsCourseOf}
use Rattle.sl_id_safety.specs.JoinedStand.{JoinedStand, SameIdsStandTogether, StandingTogetherIsSameId, sector_offset}
use Rattle.sl_id_safety.proofs.State.TraceBridge.{IsKnown, known}
use Rattle.sl_id_safety.proofs.State.ClaimsHaveDecided.{record_is}
use Rattle.sl_id_safety.proofs.State.CallLaws.{is_place, own_call, step_law}
use Rattle.sl_id_safety.proofs.State.SessionFacts.{claims_have_decided, grounds, renewals_have_verified, verify_reads_have_claimed}
use Rattle.sl_id_safety.proofs.State.RenewalsHaveVerified.{given_undecided, same_record}
use Rattle.sl_id_safety.proofs.State.SeqsRise.{last_inside, last_none}
use Rattle.sl_id_safety.proofs.State.Sectors.{sectors_apart}
use Rattle.sl_id_safety.proofs.State.IdsStart.{standing_where}
use Rattle.sl_id_safety.specs.State.IdStates.{claim_bytes, deciding_sample, generation_by, has_begun, is_sector_of, join_course, name_of, own_courses, sample_showing, session_at, standing_by, standing_of, verifying_sample}
use Rattle.sl_id_safety.specs.State.StateLaws.{IsIdPlace}
use Rattle.sl_id_safety.proofs.Steps.JoiningIsAlive.{joins_at as joins, not_claim}
use Rattle.sl_ids.specs.State.{Session as IdSession}
use Rattle.sl_run_law.proofs.Place.Areas.{lockspace_aligned}
use Rattle.sl_run_law.proofs.Place.FoundInLists.{partner_of, place_is}
use Rattle.sl_run_law.proofs.Place.LandingsAtHome.{at_home}
use Rattle.sl_run_law.proofs.Place.Looks.{Look, delta_is_own}
use Rattle.sl_run_law.proofs.Place.PlaceLaws.{promised}
use Rattle.sl_run_law.proofs.Place.TracesOnMachines.{layout_is}
use Rattle.sl_run_law.proofs.Place.Seats.{IsSeated, given_seated, look_seated, sized_in}
use Rattle.sl_words.proofs.Lists.{find_inside, got_inside, kept_inside}
use Rattle.sl_words.proofs.Options.{some_of, then_value}
use Rattle.sl_run.specs.Runs.{Happening}
use Rattle.sl_run.specs.Safety.{Found, IsSession, LawfulRun, SessionId, found_generation, setting_in, trace_of, world_at}
use Rattle.sl_run.specs.Worlds.{Course, Program, Sampling, World}
use Rattle.sl_run.specs.declared.header.Header.{Header}
use Rattle.sl_sector.specs.declared.sector.DeltaRec.{DeltaRec}
use Rattle.sl_sector.specs.declared.sector.Rec.TheVariants.{DeltaIs}
use Rattle.sl_trace.specs.Sessions.{calls_of, delta_of_record, delta_written, given_number, is_call_of, is_join_call, joined_after, last_delta, sessions}
use Rattle.sl_trace.specs.Traces.{Submitted, record_of, submitted}
use Rattle.sl_trace.specs.declared.effects.Call.{Call}
use Rattle.sl_trace.specs.declared.effects.JoinStep.TheVariants.{ClaimWrite, FirstRenewal, VerifyRead}
use Rattle.sl_trace.specs.declared.effects.Op.{Op}
use Rattle.sl_words.proofs.CaseLaws.{no_value}
use Rattle.std.proofs.Common.{ap, inl, inr, refl, subst, sym, ◌∙◌}
use Rattle.std.proofs.lemmas.Bool.{eqb-true}
use Rattle.std.specs.Option.{option_map_or}
use Rattle.std.specs.Prelude.{Bool, Contains, List, None, Option, Some, false, is_none, is_some, option_and_then, true, [], ℕ, ◌%◌, ◌<◌, ◌||◌, ◌≡◌, ◌≤◌, ◌⊎◌}

-- ---- the first renewal of a session that has joined

-- It joined by the answer of its first renewal, which wrote a delta record.
pub record HasRenewal (i : SessionId) (f : Found) : Type 0 where
  pub call : Submitted
  pub inside : Contains (calls_of (trace_of f) f.session) call
  pub course : Course
  pub has : Contains (own_courses i f.machine) course
  pub is : IsCourseOf f.daemon course call
  pub at : is_join_call FirstRenewal course.call.purpose ≡ true
  pub delta : DeltaRec
  pub writes : record_of course.call.op ≡ Some (DeltaIs delta)

pub some_record : {d : DeltaRec} (c : Call) (op : Op) → c.op ≡ op → option_and_then delta_of_record (record_of c.op) ≡ Some d → (e : DeltaRec) × (record_of op ≡ Some (DeltaIs e))
some_record {d} c op same is = (d, record_is c op d same is)

pub has_renewal : (w : World) (i : SessionId) (f : Found) → IsKnown w i f → (j k : ℕ) → f.session.job ≡ Some j → joined_after (trace_of f) f.session ≡ Some k → HasRenewal i f
has_renewal w i f kn j k job joined =
    let join = joins (setting_in f) (trace_of f) f.session kn.lawful kn.its j k job joined in
    let found = find_inside (λ (m : Submitted). is_join_call FirstRenewal m.call.purpose) (calls_of (trace_of f) f.session) join.renewal join.first in
    let r = partner_of (IsCourseOf f.daemon) (own_courses i f.machine) (calls_of (trace_of f) f.session) join.renewal kn.pairs found.0 in
    let at : is_join_call FirstRenewal r.0.call.purpose ≡ true = ap (λ (y : Call). is_join_call FirstRenewal y.purpose) (sym r.2.call) ∙ found.1 in
    let o = own_call w i f r.0 kn r.1 in
    let law = step_law w i f r.0 o FirstRenewal at in
    let wrote = some_record o.placed.pairs.here.call r.0.call.op (ap (λ (y : Call). y.op) o.placed.pairs.this.call) law.written in
    record { call = join.renewal; inside = found.0; course = r.0; has = r.1; is = r.2; at = at; delta = wrote.0; writes = wrote.1 }

-- ---- it has begun and verified

pub record HasBegun (w : World) (i : SessionId) (f : Found) : Type 0 where
  pub begun : has_begun i f ≡ true
  pub verified : (is_none f.session.job || is_some (verifying_sample w i f)) ≡ true

given_begun : (job : Option ℕ) (b : Bool) → job ≡ None → (is_none job || b) ≡ true
given_begun job b none = ap (λ (o : Option ℕ). is_none o || b) none

or_some : {A : Type 0} (b : Bool) (o : Option A) (x : A) → o ≡ Some x → (b || is_some o) ≡ true
or_some true o x is = refl
or_some false o x is = ap is_some is

decided_by : (p : Program) (h : Header) (xs : List Happening) → LawfulRun p h xs → (i : SessionId) (f : Found) → IsSession (world_at p h xs) i f → (x : Sampling)
    → verifying_sample (world_at p h xs) i f ≡ Some x → (y : Sampling) × (deciding_sample i f ≡ Some y)
decided_by p h xs run i f its x is =
    let w : World = world_at p h xs in
    let v = then_value (sample_showing f (claim_bytes w i f)) (join_course i VerifyRead f.machine) x is in
    let at = find_inside (λ (c : Course). is_join_call VerifyRead c.call.purpose) (own_courses i f.machine) v.0 v.1 in
    let k = verify_reads_have_claimed p h xs run i f v.0 its at.0 at.1 in
    let claim = find_inside (λ (c : Course). is_join_call ClaimWrite c.call.purpose) (own_courses i f.machine) k.claim k.claimed in
    let d = claims_have_decided p h xs run i f k.claim its claim.0 claim.1 in
    (d.sample, d.decided)

begun_by : (p : Program) (h : Header) (xs : List Happening) → LawfulRun p h xs → (i : SessionId) (f : Found) → IsSession (world_at p h xs) i f
    → (c : Course) → (f.session.job ≡ None) ⊎ ((x : Sampling) × (verifying_sample (world_at p h xs) i f ≡ Some x) × (x.step < c.made.step)) → HasBegun (world_at p h xs) i f
begun_by p h xs run i f its c (inl none) =
    record { begun = given_begun f.session.job (is_some (deciding_sample i f)) none; verified = given_begun f.session.job (is_some (verifying_sample (world_at p h xs) i f)) none }
begun_by p h xs run i f its c (inr v) =
    let d = decided_by p h xs run i f its v.0 v.1 in
    record {
      begun = or_some (is_none f.session.job) (deciding_sample i f) d.0 d.1;
      verified = or_some (is_none f.session.job) (verifying_sample (world_at p h xs) i f) v.0 v.1;
    }

pub has_begun_by : (p : Program) (h : Header) (xs : List Happening) → LawfulRun p h xs → (i : SessionId) (f : Found) → IsSession (world_at p h xs) i f → (k : ℕ)
    → joined_after (trace_of f) f.session ≡ Some k → (o : Option ℕ) → f.session.job ≡ o → HasBegun (world_at p h xs) i f
has_begun_by p h xs run i f its k joined None job =
    record {
      begun = given_begun f.session.job (is_some (deciding_sample i f)) job;
      verified = given_begun f.session.job (is_some (verifying_sample (world_at p h xs) i f)) job;
    }
has_begun_by p h xs run i f its k joined (Some j) job =
    let r = has_renewal (world_at p h xs) i f (known grounds p h xs run i f its) j k job joined in
    begun_by p h xs run i f its r.course
    (renewals_have_verified p h xs run i f r.course its r.has r.delta r.writes (not_claim r.course.call.purpose r.at)).verified

-- ---- its place

look_of : (f : Found) (j : ℕ) (at : ℕ) → f.session.job ≡ Some j → (f.session.job ≡ None) ⊎ Look (setting_in f) (trace_of f) f.session at → Look (setting_in f) (trace_of f) f.session at
look_of f j at job (inl none) = absurd (no_value j f.session.job job none)
look_of f j at job (inr look) = look

pub seated_by : (p : Program) (h : Header) (xs : List Happening) → LawfulRun p h xs → (i : SessionId) (f : Found) → IsSession (world_at p h xs) i f → (k : ℕ)
    → joined_after (trace_of f) f.session ≡ Some k → (o : Option ℕ) → f.session.job ≡ o → IsSeated h (world_at p h xs) f.session
seated_by p h xs run i f its k joined None job =
    let kn = known grounds p h xs run i f its in
    given_seated p h xs run i.machine f.machine f.daemon kn.there.at kn.there.has f.session (got_inside (sessions (setting_in f) (trace_of f)) f.session.number f.session kn.its) job
seated_by p h xs run i f its k joined (Some j) job =
    let kn = known grounds p h xs run i f its in
    let r = has_renewal (world_at p h xs) i f kn j k job joined in
    let mine = kept_inside (is_call_of f.session) (submitted (trace_of f)) r.call r.inside in
    let writes : delta_written r.call ≡ Some r.delta = ap (λ (y : Call). option_and_then delta_of_record (record_of y.op)) r.is.call ∙ ap (option_and_then delta_of_record) r.writes in
    let own = delta_is_own (setting_in f) (trace_of f) f.session r.call r.delta kn.lawful kn.its mine.0 (eqb-true r.call.call.session f.session.number mine.1) writes in
    look_seated p h xs promised run i.machine f.machine f.daemon kn.there.at kn.there.has f.session r.call.at r.course.made r.is.made
    (λ x there early. at_home p h xs promised run x there) (look_of f j r.call.at job own.from)

-- ---- its generation

-- Generations are told by the session's own sector.
own_place : (w : World) (f : Found) (c : Course) (y : Option Sampling) → is_sector_of w.layout c.call.path c.call.offset f.session ≡ true
    → generation_by w c.call.path c.call.offset y ≡ generation_by w f.session.path (sector_offset w f) y
own_place w f c y own =
    let same = place_is f.session.path (sector_offset w f) c.call.path c.call.offset own in
    ap (λ q. generation_by w q c.call.offset y) (sym same.0) ∙ ap (λ n. generation_by w f.session.path n y) (sym same.1)

generation_of_course : (p : Program) (h : Header) (xs : List Happening) → LawfulRun p h xs → (i : SessionId) (f : Found) (c : Course) → IsSession (world_at p h xs) i f
    → Contains (own_courses i f.machine) c → (d : DeltaRec) → record_of c.call.op ≡ Some (DeltaIs d) → (b : Bool) → is_join_call ClaimWrite c.call.purpose ≡ b
    → d.generation ≡ generation_by (world_at p h xs) f.session.path (sector_offset (world_at p h xs) f) (deciding_sample i f)
generation_of_course p h xs run i f c its there d writes true at =
    let w : World = world_at p h xs in
    let k = claims_have_decided p h xs run i f c its there at in
    ap (λ (x : DeltaRec). x.generation) (same_record (record_of c.call.op) d k.record_written writes k.own.writes) ∙ k.generation
    ∙ own_place w f c (Some k.sample) k.own.place ∙ ap (generation_by w f.session.path (sector_offset w f)) (sym k.decided)
generation_of_course p h xs run i f c its there d writes false at =
    let w : World = world_at p h xs in
    let v = renewals_have_verified p h xs run i f c its there d writes at in
    v.generation ∙ own_place w f c (deciding_sample i f) v.own.place

-- ---- a session that was joined at first makes no call of a joining

-- ---- its generation, whether it wrote or not

unwritten_by : (w : World) (i : SessionId) (f : Found) (kn : IsKnown w i f) (k : ℕ) → joined_after (trace_of f) f.session ≡ Some k → last_delta (calls_of (trace_of f) f.session) ≡ None
    → (o : Option ℕ) → f.session.job ≡ o → given_number f.session ≡ generation_by w f.session.path (sector_offset w f) (deciding_sample i f)
unwritten_by w i f kn k joined none None job =
    ap (λ (o : Option ℕ). elim o as (λ z. ℕ) [ None ↦ 1 | Some j ↦ 0 ]) job ∙ ap (generation_by w f.session.path (sector_offset w f)) (sym (given_undecided w i f kn job))
unwritten_by w i f kn k joined none (Some j) job =
    let r = has_renewal w i f kn j k job joined in
    absurd (last_none (calls_of (trace_of f) f.session) none r.call r.inside r.delta
    (ap (λ (y : Call). option_and_then delta_of_record (record_of y.op)) r.is.call ∙ ap (option_and_then delta_of_record) r.writes))

generation_by_last : (p : Program) (h : Header) (xs : List Happening) → LawfulRun p h xs → (i : SessionId) (f : Found) → IsSession (world_at p h xs) i f → (k : ℕ)
    → joined_after (trace_of f) f.session ≡ Some k → (o : Option DeltaRec) → last_delta (calls_of (trace_of f) f.session) ≡ o
    → option_map_or (λ (d : DeltaRec). d.generation) o (given_number f.session)
    ≡ generation_by (world_at p h xs) f.session.path (sector_offset (world_at p h xs) f) (deciding_sample i f)
generation_by_last p h xs run i f its k joined None is =
    unwritten_by (world_at p h xs) i f (known grounds p h xs run i f its) k joined is f.session.job refl
generation_by_last p h xs run i f its k joined (Some d) is =
    let kn = known grounds p h xs run i f its in
    let m = last_inside (calls_of (trace_of f) f.session) d is in
    let r = partner_of (IsCourseOf f.daemon) (own_courses i f.machine) (calls_of (trace_of f) f.session) m.0 kn.pairs m.1 in
    generation_of_course p h xs run i f r.0 its r.1 d (record_is m.0.call r.0.call.op d (ap (λ (y : Call). y.op) r.2.call) m.2) (is_join_call ClaimWrite r.0.call.purpose) refl

pub generation_found : (p : Program) (h : Header) (xs : List Happening) → LawfulRun p h xs → (i : SessionId) (f : Found) → IsSession (world_at p h xs) i f → (k : ℕ)
    → joined_after (trace_of f) f.session ≡ Some k
    → found_generation f ≡ generation_by (world_at p h xs) f.session.path (sector_offset (world_at p h xs) f) (deciding_sample i f)
generation_found p h xs run i f its k joined = generation_by_last p h xs run i f its k joined (last_delta (calls_of (trace_of f) f.session)) refl

-- ---- the law

abbrev place_of : (p : Program) (h : Header) (xs : List Happening) (f : Found) → (s : IsSeated h (world_at p h xs) f.session) → IsIdPlace p h f.session.path (sector_offset (world_at p h xs) f)
place_of p h xs f s =
    record {
      lockspace = s.line;
      id = f.session.id;
      has = s.there;
      range = (s.id.0, subst (λ (g : Layout). f.session.id ≤ g.hosts) (layout_is p h xs) s.id.1);
      is_path = s.path;
      is_offset = ap (λ (g : Layout). delta_offset g f.session.offset f.session.id) (layout_is p h xs)
          ∙ ap (λ n. delta_offset (world_at p h []).layout n f.session.id) s.offset;
    }

-- A session that has begun stands in its id.
pub stands_as : (w : World) (i : SessionId) (f : Found) → IsSession w i f → has_begun i f ≡ true
    → session_at w f.session.path (sector_offset w f) (name_of i) ≡ standing_of w f.session.path (sector_offset w f) i f
stands_as w i f its begun =
    ap (standing_by w f.session.path (sector_offset w f) i) its
    ∙ standing_where w f.session.path (sector_offset w f) i f (is_sector_of w.layout f.session.path (sector_offset w f) f.session) (has_begun i f)
    (is_place f.session.path (sector_offset w f) f.session.path (sector_offset w f) refl refl) begun

-- A joined session stands in its id as the world has it.
pub joined_stand : JoinedStand
joined_stand p h xs run i f its joined =
    let w : World = world_at p h xs in
    let k = some_of (joined_after (trace_of f) f.session) joined in
    let s = seated_by p h xs run i f its k.0 k.1 f.session.job refl in
    let b = has_begun_by p h xs run i f its k.0 k.1 f.session.job refl in
    let same = stands_as w i f its b.begun in
    record {
      place = place_of p h xs f s;
      names = (s.name, s.offset, refl);
      stands = same;
      joined = ap (λ (x : IdSession). x.joined) same ∙ joined;
      verified = ap (λ (x : IdSession). x.verified) same ∙ b.verified;
      over = ap (λ (x : IdSession). x.over) same;
      generation = ap (λ (x : IdSession). x.generation) same ∙ sym (generation_found p h xs run i f its k.0 k.1);
    }

-- ---- one id, one sector

pub same_ids_stand_together : SameIdsStandTogether
same_ids_stand_together w f g same =
    let at = place_is f.session.path f.session.offset g.session.path g.session.offset same.0 in
    (at.0, ap (λ n. delta_offset w.layout n f.session.id) at.1 ∙ ap (λ n. delta_offset w.layout g.session.offset n) same.1)

pub standing_together_is_same_id : StandingTogetherIsSameId
standing_together_is_same_id p h xs run i k f g its also joined joins path offset =
    let w : World = world_at p h xs in
    let one = some_of (joined_after (trace_of f) f.session) joined in
    let two = some_of (joined_after (trace_of g) g.session) joins in
    let s = seated_by p h xs run i f its one.0 one.1 f.session.job refl in
    let t = seated_by p h xs run k g also two.0 two.1 g.session.job refl in
    let apart = sectors_apart w.layout f.session.offset g.session.offset f.session.id g.session.id (sized_in p h xs run)
    (ap (λ n. n % h.geometry.area) s.offset ∙ lockspace_aligned h s.line run.header s.there) (ap (λ n. n % h.geometry.area) t.offset ∙ lockspace_aligned h t.line run.header t.there)
    s.id.0 s.id.1 t.id.0 t.id.1 offset in
    (is_place f.session.path f.session.offset g.session.path g.session.offset path apart.0, apart.1)
