-- Work on the blocks of a resource: its session had joined before, and has a name in the history.
use Rattle.sl_id_safety.specs.State.IdStates.{own_courses}
use Rattle.sl_run.specs.Lawful.{Orderly}
use Rattle.sl_run.specs.LawfulArea.{is_area_work}
use Rattle.sl_run_law.proofs.Place.Daemons.{daemons_are_fine, stamp_order}
use Rattle.sl_run_law.proofs.Place.TracesOnMachines.{call_law}
use Rattle.sl_words.proofs.Lists.{kept}
use Rattle.sl_safety.proofs.Resources.Calls.{IsOwned, IsWork, found_of, made_of, owner_found}
use Rattle.sl_safety.proofs.Resources.StepsNameCalls.{holder_named, record_sent, worker_joined, write_is}
use Rattle.sl_safety.specs.Resources.Histories.{joined_of, joined_step}
use Rattle.sl_safety.specs.Resources.SentCalls.{Sent, holder_of, sender_of, session_of_holder, step_of, writes_block}
use Rattle.sl_run.specs.Runs.{Happening}
use Rattle.sl_run.specs.Safety.{Found, LawfulRun, SessionId, is_course_of, session_of_world, world_at}
use Rattle.sl_run.specs.Worlds.{Course, Program, World, is_write_course}
use Rattle.sl_run.specs.declared.header.Header.{Header}
use Rattle.sl_run.specs.declared.header.ResourceLine.{ResourceLine}
use Rattle.sl_safety.proofs.Sessions.NamesAreApart.{names_are_apart}
use Rattle.sl_safety.proofs.Sessions.OrderedStood.{At_first, By_entry, JoinedWhen, joined_when, step_by}
use Rattle.sl_safety.proofs.Sessions.OrderedTraces.{joined_within}
use Rattle.sl_run_law.proofs.Sessions.MarksStay.{marks_stay}
use Rattle.sl_run_law.specs.Sessions.SessionLaws.{IsMade, IsSession as IsSessionOf, front_of}
use Rattle.sl_trace.specs.Sessions.{is_active, is_free_purpose, joined_after, leaving_job, recovery_of, removed_after}
use Rattle.sl_trace.specs.declared.session.Session.{Session}
use Rattle.sl_trace.specs.Traces.{Setting, Submitted, Trace}
use Rattle.sl_trace.specs.declared.effects.Call.{Call}
use Rattle.sl_trace.specs.declared.effects.Purpose.TheVariants.{Leaving}
use Rattle.sl_trace.specs.declared.effects.Purpose.{Purpose}
use Rattle.sl_words.proofs.CaseLaws.{false_is_true, one_value}
use Rattle.std.proofs.Common.{ap, arith, refl, subst, sym, ◌∙◌}
use Rattle.std.proofs.lemmas.Bool.{and_from, eq-eqb}
use Rattle.std.specs.Prelude.{Bool, Contains, List, None, Option, Some, false, is_none, is_some, length, option_and_then, option_map, suc, true, ℕ, ◌&&◌, ◌∷◌, ◌≡◌, ◌≤◌}

-- ---- had joined before

active_by : (joined removed : Option ℕ) (b c : Bool) → (is_some joined && is_none removed && b && c) ≡ true → (k : ℕ) × (joined ≡ Some k)
active_by None removed b c h = absurd (false_is_true h)
active_by (Some k) removed b c h = (k, refl)

active_joined : (st : Setting) (t : Trace) (s : Session) → is_active st t s ≡ true → (k : ℕ) × (joined_after t s ≡ Some k)
active_joined st t s h = active_by (joined_after t s) (removed_after t s) (is_none (recovery_of st t s)) (is_none (leaving_job st t s)) h

-- Where a session made a call on an area it had joined.
worker_had_joined : (st : Setting) (es : Trace) (s : Session) (q : Submitted) (d : IsMade es q) → Orderly st es → IsSessionOf st es s → q.call.session ≡ s.number → is_area_work q.call.purpose ≡ true
    → (k : ℕ) × (joined_after (d.entry ∷ d.past) s ≡ Some k)
worker_had_joined st es s q d h its mine area =
    let law = call_law st es s q d h its mine in
    let k = active_joined st (front_of d) s (law.0.area.0.active d.index q.call s d.call law.1 area) in
    (k.0, k.1)

-- The step at which it joined.
pub record Since (f : Found) (e : ℕ) : Type 0 where
  pub step : ℕ
  pub joined : joined_step f ≡ Some step
  pub before : step ≤ e

pub worker_since : (p : Program) (h : Header) (xs : List Happening) → LawfulRun p h xs → (r : ResourceLine) (x : Sent) (k : IsWork (world_at p h xs) r x) → Since (found_of k.owned) (step_of x)
worker_since p h xs run r x k =
    let o = k.owned in
    let d = made_of o in
    let q : Submitted = o.trace.submitted_as in
    let had = worker_had_joined o.trace.daemon.setting o.trace.daemon.trace o.session q d o.trace.lawful o.its o.mine (ap (λ (c : Call). is_area_work c.purpose) o.trace.is.call ∙ k.area) in
    let joined : joined_after o.trace.daemon.trace o.session ≡ Some had.0 =
    ap (λ t. joined_after t o.session) d.whole ∙ marks_stay.joined d.later (d.entry ∷ d.past) o.session had.0 had.1 in
    let step : joined_step (found_of o) ≡ Some (step_by (found_of o) had.0) = ap (option_map (step_by (found_of o))) joined in
    let when = joined_when p h xs run (sender_of x) (found_of o) (owner_found (world_at p h xs) x o) (step_by (found_of o) had.0) step in
    let same : when.0 ≡ had.0 = one_value when.0 had.0 (joined_after o.trace.daemon.trace o.session) when.1 joined in
    let le : when.0 ≤ suc (length d.past) = subst (λ n. n ≤ suc (length d.past)) (sym same) (joined_within (d.entry ∷ d.past) o.session had.0 had.1) in
    record { step = step_by (found_of o) had.0; joined = step; before = by o d.place le when.2 }
  where
    by : (o : IsOwned (world_at p h xs) x) {m : ℕ} → o.trace.submitted_as.at ≡ m → {j n : ℕ} → j ≤ suc m → JoinedWhen (found_of o) j n → n ≤ step_of x
    by o place le (At_first none zero) = omega (arith, zero)
    by o place le (By_entry i s at within stamp step) =
        let before : i ≤ o.trace.submitted_as.at = omega (arith, place, le, at) in
        let ordered : s.step ≤ x.course.made.step =
        stamp_order (world_at p h xs).step o.trace.daemon.stamps i o.trace.submitted_as.at s x.course.made
        (daemons_are_fine p h xs run x.machine o.there.machine o.trace.daemon o.there.at o.trace.has).stamps stamp o.trace.is.made before in
        omega (arith, step, ordered)

-- ---- by its name

-- The session that sent it is the one that has its name.
pub worker_named : (p : Program) (h : Header) (xs : List Happening) → LawfulRun p h xs → (r : ResourceLine) → Contains h.resources r → (x : Sent) → IsWork (world_at p h xs) r x
    → session_of_holder (world_at p h xs) r.lockspace (holder_of (world_at p h xs) (sender_of x)) ≡ Some (sender_of x)
worker_named p h xs run r there x k =
    holder_named (world_at p h xs) r.lockspace (names_are_apart p h xs r run there) (sender_of x) (worker_joined p h xs r x k)

-- It joined before.
pub worker_joined_before : (p : Program) (h : Header) (xs : List Happening) → LawfulRun p h xs → (r : ResourceLine) → Contains h.resources r → (x : Sent) → IsWork (world_at p h xs) r x
    → (j : ℕ) × (joined_of (world_at p h xs) r.lockspace (holder_of (world_at p h xs) (sender_of x)) ≡ Some j) × (j ≤ step_of x)
worker_joined_before p h xs run r there x k =
    let w : World = world_at p h xs in
    let since = worker_since p h xs run r x k in (
      since.step,
      ap (option_and_then (λ i. option_and_then joined_step (session_of_world w i))) (worker_named p h xs run r there x k) ∙ ap (option_and_then joined_step) (owner_found w x k.owned) ∙ since.joined,
      since.before,
    )

-- ---- a write

area_not_free : (p : Purpose) → is_area_work p ≡ true → is_free_purpose p ≡ false
area_not_free (Leaving j) h = absurd (false_is_true h)
area_not_free p h = refl

-- What is known of a block write of a session: it is one of the session's calls, a write, and not its free.
pub record IsOwnWrite (i : SessionId) (g : Found) (c : Course) : Type 0 where
  pub has : Contains (own_courses i g.machine) c
  pub writes : is_write_course c ≡ true
  pub other : is_free_purpose c.call.purpose ≡ false

pub own_write : (w : World) (r : ResourceLine) (x : Sent) (k : IsWork w r x) → writes_block x.course ≡ true → IsOwnWrite (sender_of x) (found_of k.owned) x.course
own_write w r x k is =
    let b = record_sent x.course is in
    record {
      has = kept (is_course_of (sender_of x)) k.owned.there.machine.calls x.course
          (and_from _ _ (eq-eqb x.course.daemon x.course.daemon refl) (eq-eqb x.course.call.session x.course.call.session refl)) k.owned.there.has;
      writes = write_is x.course.call.op _ b.1;
      other = area_not_free x.course.call.purpose k.area;
    }
