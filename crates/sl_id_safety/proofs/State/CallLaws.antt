-- The laws of each call of a session, where it was made.
use Rattle.sl_id_safety.proofs.State.TraceBridge.{Grounds, IsKnown, IsPlaced, call_at, calls_behind, known, placed}
use Rattle.sl_run_law.proofs.Place.FoundInLists.{place_is}
use Rattle.sl_id_safety.proofs.State.Tails.{IsMadeAfter, front_at}
use Rattle.sl_id_safety.specs.State.Facts.{JoinReadsAreOwn, ReadsOwn, is_reading_step}
use Rattle.sl_id_safety.specs.State.IdStates.{is_sector_of, own_courses}
use Rattle.sl_area.specs.AreaSizes.{Layout}
use Rattle.sl_area.specs.AreaLayout.{delta_offset}
use Rattle.sl_run.proofs.LawFacts.{orderly-front}
use Rattle.sl_run.specs.Lawful.{Orderly}
use Rattle.sl_run.specs.LawfulCalls.{may_submit}
use Rattle.sl_run.specs.LawfulDelta.{LawfulDeltaCall, LawfulJoinStep, is_on_own_sector}
use Rattle.sl_run_law.proofs.Place.Looks.{joins_at as step_is}
use Rattle.sl_run.specs.Safety.{Found, SessionId, setting_in, trace_of, world_at}
use Rattle.sl_run.specs.Worlds.{Course, World}
use Rattle.sl_run_law.proofs.Sessions.CallOwners.{owned}
use Rattle.sl_run_law.specs.Sessions.SessionLaws.{IsSession as IsSessionOf}
use Rattle.sl_trace.specs.DeltaDecisions.{own_offset}
use Rattle.sl_trace.specs.Sessions.{has_open_delta, is_delta_purpose, is_join_call, is_survey_purpose, same_join_step, session_numbered, stage_of}
use Rattle.sl_trace.specs.declared.session.Session.{Session}
use Rattle.sl_trace.specs.Traces.{Setting, Submitted, Trace, new_call, same_place}
use Rattle.sl_trace.specs.declared.effects.Call.{Call}
use Rattle.sl_trace.specs.declared.effects.JoinStep.TheVariants.{ClaimWrite, DecidingRead, FirstRead, FirstRenewal, VerifyRead, WatchRead}
use Rattle.sl_trace.specs.declared.effects.JoinStep.{JoinStep}
use Rattle.sl_trace.specs.declared.effects.Op.TheVariants.{ReadSectors}
use Rattle.sl_trace.specs.declared.effects.Purpose.TheVariants.{Joining}
use Rattle.sl_trace.specs.declared.effects.Purpose.{Purpose}
use Rattle.sl_words.proofs.CaseLaws.{false_is_true}
use Rattle.std.proofs.Common.{ap, refl, subst, sym, ◌∙◌}
use Rattle.std.proofs.lemmas.Bool.{and_from, eq-eqb, eqb-true}
use Rattle.std.specs.Cmp.Lexicographic.{nat_list_eq_equiv}
use Rattle.std.specs.Prelude.{Contains, IsTrue, List, Some, bytes_eq, false, length, not, true, ℕ, ◌&&◌, ◌==◌, ◌∷◌, ◌≡◌}

-- ---- places

pub is_place : (path : List ℕ) (offset : ℕ) (path' : List ℕ) (offset' : ℕ) → path ≡ path' → offset ≡ offset' → same_place path offset path' offset' ≡ true
is_place path offset path' offset' p o =
    and_from (offset == offset') (bytes_eq path path') (eq-eqb offset offset' o) (ap (λ q. bytes_eq path q) (sym p) ∙ nat_list_eq_equiv.refl path)

-- ---- a call where it was made

-- What the laws of its entry say of a call.
pub record IsLawfulCall (st : Setting) (es : Trace) (s : Session) (m : Submitted) (older : List Submitted) (d : IsMadeAfter es s m older) : Type 0 where
  pub lawful : Orderly st (d.entry ∷ d.past)
  pub its : session_numbered st (d.entry ∷ d.past) m.call.session ≡ Some s
  pub law : LawfulDeltaCall st (front_at d) s (new_call (length d.past) d.entry.reading m.call) m.call.purpose
  pub placed : IsTrue (is_delta_purpose m.call.purpose && not (is_survey_purpose m.call.purpose))
      → IsTrue (is_on_own_sector st s (new_call (length d.past) d.entry.reading m.call))
  pub alone : IsTrue (is_delta_purpose m.call.purpose) → has_open_delta (front_at d) s ≡ false
  pub alive : IsTrue (may_submit (stage_of (front_at d) s))

pub lawful_call : (st : Setting) (es : Trace) (s : Session) (m : Submitted) (older : List Submitted) (d : IsMadeAfter es s m older) → Orderly st es → IsSessionOf st es s
    → IsLawfulCall st es s m older d
lawful_call st es s m older d h its =
    let whole = subst (λ t. Orderly st t) d.whole h in
    let here = orderly-front st d.later (d.entry ∷ d.past) whole in
    let own = owned st d.later d.entry d.past s whole (subst (λ t. IsSessionOf st t s) d.whole its) d.index m.call d.call (eqb-true m.call.session s.number d.mine) in
    record {
      lawful = here;
      its = own;
      law = here.delta.0.calls d.index m.call s d.call own;
      placed = here.delta.0.placed d.index m.call s d.call own;
      alone = here.delta.0.alone d.index m.call s d.call own;
      alive = here.calls.0.alive d.index m.call s d.call own;
    }

-- ---- steps

pub join_law : (st : Setting) (t : Trace) (s : Session) (c : Submitted) (p : Purpose) (step : JoinStep) → LawfulDeltaCall st t s c p → is_join_call step p ≡ true
    → LawfulJoinStep st t s c step
join_law st t s c p step law is = let r = step_is step p is in subst (λ q. LawfulDeltaCall st t s c q) r.1 law

reads_one : (st : Setting) (t : Trace) (s : Session) (c : Submitted) (step : JoinStep) → LawfulJoinStep st t s c step → is_reading_step step ≡ true → c.call.op ≡ ReadSectors 1
reads_one st t s c FirstRead law is = law.reads
reads_one st t s c WatchRead law is = law.reads
reads_one st t s c DecidingRead law is = law.reads
reads_one st t s c VerifyRead law is = law.reads
reads_one st t s c ClaimWrite law is = absurd (false_is_true is)
reads_one st t s c FirstRenewal law is = absurd (false_is_true is)

-- ---- on its own sector

own_sector : (g g' : Layout) (s : Session) (path : List ℕ) (offset : ℕ) → g' ≡ g → same_place path offset s.path (delta_offset g' s.offset s.id) ≡ true
    → is_sector_of g path offset s ≡ true
own_sector g g' s path offset same is =
    let r = place_is path offset s.path (delta_offset g' s.offset s.id) is in
    is_place s.path (delta_offset g s.offset s.id) path offset (sym r.0) (ap (λ x. delta_offset x s.offset s.id) (sym same) ∙ sym r.1)

-- A session's call, with its laws.
pub record IsOwnCall (w : World) (i : SessionId) (f : Found) (c : Course) : Type 0 where
  pub known : IsKnown w i f
  pub placed : IsPlaced i f c
  pub lawful : IsLawfulCall (setting_in f) (trace_of f) f.session (call_at placed) (calls_behind placed) placed.made

pub own_call : (w : World) (i : SessionId) (f : Found) (c : Course) → IsKnown w i f → Contains (own_courses i f.machine) c → IsOwnCall w i f c
own_call w i f c k there =
    let at = placed w i f c k there in
    record {
      known = k;
      placed = at;
      lawful = lawful_call (setting_in f) (trace_of f) f.session (call_at at) (calls_behind at) at.made k.lawful k.its;
    }

pub is_at_own : (w : World) (i : SessionId) (f : Found) (c : Course) → IsOwnCall w i f c → IsTrue (is_delta_purpose c.call.purpose && not (is_survey_purpose c.call.purpose))
    → is_sector_of w.layout c.call.path c.call.offset f.session ≡ true
is_at_own w i f c o is =
    let same = o.placed.pairs.this.call in
    own_sector w.layout (setting_in f).layout f.session c.call.path c.call.offset o.known.of_world.layout
    (subst (λ (x : Call). same_place x.path x.offset f.session.path (own_offset (setting_in f) f.session) ≡ true) same
    (o.lawful.placed (subst (λ (x : Call). IsTrue (is_delta_purpose x.purpose && not (is_survey_purpose x.purpose))) (sym same) is)))

-- The law of its step.
pub step_law : (w : World) (i : SessionId) (f : Found) (c : Course) (o : IsOwnCall w i f c) (step : JoinStep) → is_join_call step c.call.purpose ≡ true
    → LawfulJoinStep (setting_in f) (front_at o.placed.made) f.session (new_call (length o.placed.made.past) o.placed.made.entry.reading (call_at o.placed).call) step
step_law w i f c o step is =
    join_law (setting_in f) (front_at o.placed.made) f.session (new_call (length o.placed.made.past) o.placed.made.entry.reading (call_at o.placed).call) (call_at o.placed).call.purpose step
    o.lawful.law (ap (λ (x : Call). is_join_call step x.purpose) o.placed.pairs.this.call ∙ is)

is_step : (step : JoinStep) → same_join_step step step ≡ true
is_step FirstRead = refl
is_step WatchRead = refl
is_step DecidingRead = refl
is_step ClaimWrite = refl
is_step VerifyRead = refl
is_step FirstRenewal = refl

pub joins_at : (p : Purpose) (j : ℕ) (step : JoinStep) → p ≡ Joining j step → is_join_call step p ≡ true
joins_at p j step is = ap (λ q. is_join_call step q) is ∙ is_step step

pub read_is_own : (w : World) (i : SessionId) (f : Found) (c : Course) → IsOwnCall w i f c → (j : ℕ) (step : JoinStep) → c.call.purpose ≡ Joining j step
    → is_reading_step step ≡ true → ReadsOwn w f c
read_is_own w i f c o j step is reads =
    let t = front_at o.placed.made in
    let n : Submitted = new_call (length o.placed.made.past) o.placed.made.entry.reading (call_at o.placed).call in
    record {
      reads = ap (λ (x : Call). x.op) (sym o.placed.pairs.this.call)
          ∙ reads_one (setting_in f) t f.session n step (step_law w i f c o step (joins_at c.call.purpose j step is)) reads;
      place = is_at_own w i f c o (ap (λ q. is_delta_purpose q && not (is_survey_purpose q)) is);
    }

-- A read of a joining reads the session's own sector.
pub join_reads_are_own_given : Grounds → JoinReadsAreOwn
join_reads_are_own_given g p h xs run i f c its there j step is reads =
    let w : World = world_at p h xs in
    read_is_own w i f c (own_call w i f c (known g p h xs run i f its) there) j step is reads
