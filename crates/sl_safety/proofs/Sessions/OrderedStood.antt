-- A session that has joined by a step stands, joined, at each front of the run from there on.
use Rattle.sl_run_law.proofs.Course.MachinesMirror.{machines_mirror}
use Rattle.sl_run_law.proofs.Course.EntriesAreStamped.{entries_are_stamped}
use Rattle.sl_run_law.specs.Course.CallStamps.{stamp_in}
use Rattle.sl_run_law.proofs.Front.RunsFromFronts.{fronts_are_lawful}
use Rattle.sl_id_safety.proofs.OverIsQuiet.{goes_on, old_stamp}
use Rattle.sl_id_safety.proofs.State.TraceBridge.{IsKnown, known}
use Rattle.sl_id_safety.proofs.State.FindingFrames.{found_on, session_with}
use Rattle.sl_id_safety.proofs.State.LaterFrames.{numbered_found}
use Rattle.sl_id_safety.proofs.State.SessionFacts.{grounds}
use Rattle.sl_run.specs.Lawful.{Orderly}
use Rattle.sl_safety.specs.Resources.Histories.{joined_step}
use Rattle.sl_run.specs.Runs.{Happening}
use Rattle.sl_run.specs.Safety.{Found, HasJoined, IsSession, LawfulRun, SessionId, setting_in, trace_of, world_at}
use Rattle.sl_run.specs.Worlds.{Daemon, Machine, Program, Stamp, World, daemons_on, machine_at, world_with}
use Rattle.sl_run.specs.declared.header.Header.{Header}
use Rattle.sl_safety.proofs.Sessions.OrderedDaemons.{BeganSince, CameFrom, IsAfter, each_was}
use Rattle.sl_safety.proofs.Sessions.OrderedFronts.{nothing_more, steps_grow}
use Rattle.sl_safety.proofs.Sessions.OrderedTraces.{begun_end, joined_end, joined_first, joined_within, same_length, stamp_newer, stamp_of}
use Rattle.sl_run_law.proofs.Sessions.MarksStay.{marks_stay}
use Rattle.sl_run_law.specs.Sessions.SessionLaws.{IsSession as IsSessionOf}
use Rattle.sl_trace.specs.Sessions.{given_session, joined_after, session_numbered}
use Rattle.sl_trace.specs.declared.session.Session.{Session}
use Rattle.sl_trace.specs.Traces.{Setting, Trace}
use Rattle.sl_trace.specs.declared.input.Given.{Given}
use Rattle.sl_words.proofs.CaseLaws.{none_some, one_value, some_value}
use Rattle.std.proofs.Common.{ap, arith, inl, inr, refl, subst, sym, ◌∙◌}
use Rattle.std.proofs.lemmas.Bool.{cases_lt}
use Rattle.std.specs.List.{enumerate_from}
use Rattle.std.specs.Option.{option_map_or}
use Rattle.std.specs.Prelude.{Bool, List, None, Option, Some, [], false, is_some, length, map, option_map, slice_get, suc, true, zero, ℕ, ◌++◌, ◌-◌, ◌<◌, ◌==◌, ◌≡◌, ◌≤◌, ◌⊎◌}

-- ---- when a session joined

-- After so many entries, the newest of which came at this step.
pub data JoinedWhen (f : Found) (k n : ℕ) : Type 0 where
  At_first : k ≡ 0 → n ≡ 0 → JoinedWhen f k n
  By_entry : (i : ℕ) (s : Stamp) → k ≡ suc i → i < length (trace_of f) → stamp_in f.daemon.stamps i ≡ Some s → s.step ≡ n → JoinedWhen f k n

abbrev pub step_if : Found → ℕ → Bool → ℕ
step_if f k b = elim b as (λ z. ℕ) [ true ↦ 0 | false ↦ option_map_or (λ (s : Stamp). s.step) (stamp_in f.daemon.stamps (k - 1)) 0 ]

abbrev pub step_by : Found → ℕ → ℕ
step_by f k = step_if f k (k == 0)

not_zero : (i : ℕ) → (suc i == 0) ≡ false
not_zero i = grind arith

when_by : (f : Found) (k n : ℕ) → length f.daemon.stamps ≡ length (trace_of f) → k ≤ length (trace_of f) → step_by f k ≡ n → JoinedWhen f k n
when_by f zero n long le is = At_first refl (sym is)
when_by f (suc i) n long le is =
    let s = stamp_of f.daemon.stamps i (omega (arith, long, le)) in
    let less : suc i - 1 ≡ i = omega arith in
    By_entry i s.0 refl (omega (arith, le)) s.1
    (sym (ap (step_if f (suc i)) (not_zero i) ∙ ap (λ j. option_map_or (λ (t : Stamp). t.step) (stamp_in f.daemon.stamps j) 0) less ∙ ap (λ o. option_map_or (λ (t : Stamp). t.step) o 0) s.1) ∙ is)

mapped_some : {A B : Type 0} (g : A → B) (o : Option A) (b : B) → option_map g o ≡ Some b → (a : A) × (o ≡ Some a) × (g a ≡ b)
mapped_some g None b is = absurd (none_some b is)
mapped_some g (Some a) b is = (a, refl, some_value (g a) b is)

pub joined_when : (p : Program) (h : Header) (xs : List Happening) → LawfulRun p h xs → (i : SessionId) (f : Found) → IsSession (world_at p h xs) i f → (n : ℕ) → joined_step f ≡ Some n
    → (k : ℕ) × (joined_after (trace_of f) f.session ≡ Some k) × JoinedWhen f k n
joined_when p h xs run i f its n is =
    let kn = known grounds p h xs run i f its in
    let k = mapped_some (step_by f) (joined_after (trace_of f) f.session) n is in
    let long = same_length f.daemon.stamps (trace_of f) (entries_are_stamped p h xs run i.machine f.machine f.daemon kn.there.at kn.there.has) in
    (k.0, k.1, when_by f k.0 n long (joined_within (trace_of f) f.session k.0 k.1) k.2)

pub some_joins : (o : Option ℕ) (k : ℕ) → o ≡ Some k → is_some o ≡ true
some_joins o k is = ap is_some is

-- ---- a session at a front

-- Its machine and its daemon there.
pub record Behind (w : World) (i : SessionId) (g : Found) : Type 0 where
  pub machine : Machine
  pub at : machine_at w i.machine ≡ Some machine
  pub came : CameFrom (IsAfter w) (daemons_on machine) g.daemon

pub behind : (p : Program) (h : Header) (now rest : List Happening) → LawfulRun p h (now ++ rest) → (i : SessionId) (g : Found) → IsSession (world_at p h (now ++ rest)) i g
    → Behind (world_at p h now) i g ⊎ BeganSince (IsAfter (world_at p h now)) g.daemon
behind p h now rest run i g its =
    let kn = known grounds p h (now ++ rest) run i g its in
    let was = each_was p h now rest run i.machine g.machine kn.there.at in
    elim (was.come g.daemon kn.there.has) as (λ z. Behind (world_at p h now) i g ⊎ BeganSince (IsAfter (world_at p h now)) g.daemon) [
      | inl c ↦ inl (record { machine = was.machine; at = was.at; came = c })
      | inr b ↦ inr b
    ]

abbrev pub found_with : World → Machine → Daemon → Session → Found
found_with w a d s = record { machine = a; daemon = d; session = s; now = w.moment }

-- Where its daemon had begun it, it is a session of the front.
pub stood_with : (p : Program) (h : Header) (now rest : List Happening) → LawfulRun p h (now ++ rest) → (i : SessionId) (g : Found) → IsSession (world_at p h (now ++ rest)) i g
    → (b : Behind (world_at p h now) i g) → IsSessionOf (setting_in g) b.came.daemon.trace g.session → IsSession (world_at p h now) i (found_with (world_at p h now) b.machine b.came.daemon g.session)
stood_with p h now rest run i g its b begun =
    let w : World = world_at p h now in
    let kn = known grounds p h (now ++ rest) run i g its in
    let d : Daemon = b.came.daemon in
    let there = numbered_found (daemons_on b.machine) d i.daemon (machines_mirror p h now (fronts_are_lawful p h now rest run) i.machine b.machine b.at).numbered b.came.has
    (b.came.number ∙ kn.there.daemon) in
    let session : session_numbered d.setting d.trace i.number ≡ Some g.session =
    ap (λ st. session_numbered st d.trace i.number) b.came.setting ∙ ap (λ n. session_numbered (setting_in g) d.trace n) (sym kn.there.number) ∙ begun in
    found_on w i b.machine b.at ∙ ap (session_with w.moment i b.machine) there ∙ ap (λ q. option_map (found_with w b.machine d) q) session

-- A daemon that was given no session has none without a job.
pub none_given : (st : Setting) (es : Trace) (s : Session) → Orderly st es → IsSessionOf st es s → st.given ≡ [] → joined_after es s ≡ Some 0 → ⊥
none_given st es s h its given joined =
    let first = joined_first es s joined in
    let at : joined_after [] s ≡ Some 0 = ap (λ o. elim o as (λ z. Option ℕ) [ None ↦ Some 0 | Some j ↦ None ]) first in
    let whole : es ++ [] ≡ es = nothing_more es in
    let begun : IsSessionOf st [] s = begun_end st es [] s 0 (subst (λ t. Orderly st t) (sym whole) h) (subst (λ t. IsSessionOf st t s) (sym whole) its) at in
    none_some s (sym (ap (λ (gs : List Given). slice_get (map given_session (enumerate_from 0 gs)) s.number) given) ∙ begun)

-- ---- joined at a front

never : (n w s : ℕ) → n ≤ w → w < s → s ≡ n → ⊥
never n w s p q e = omega (arith, p, q, e)

-- It stands, joined, at a front that has come to the step.
pub joined_stood : (p : Program) (h : Header) (now rest : List Happening) → LawfulRun p h (now ++ rest) → (i : SessionId) (g : Found) → IsSession (world_at p h (now ++ rest)) i g → (n : ℕ)
    → joined_step g ≡ Some n → n ≤ (world_at p h now).step → (f : Found) × IsSession (world_at p h now) i f × HasJoined f
joined_stood p h now rest run i g its n is past =
    let w : World = world_at p h now in
    let kn = known grounds p h (now ++ rest) run i g its in
    let j = joined_when p h (now ++ rest) run i g its n is in
    by kn j.0 j.1 j.2 (behind p h now rest run i g its)
  where
    stands : IsKnown (world_at p h (now ++ rest)) i g → (k : ℕ) → joined_after (trace_of g) g.session ≡ Some k → (b : Behind (world_at p h now) i g) → k ≤ length b.came.daemon.trace
        → (f : Found) × IsSession (world_at p h now) i f × HasJoined f
    stands kn k joined b le =
        let d : Daemon = b.came.daemon in
        let at = joined_end b.came.newer d.trace g.session k (subst (λ t. joined_after t g.session ≡ Some k) b.came.trace joined) le in
        let begun = begun_end (setting_in g) b.came.newer d.trace g.session k (subst (λ t. Orderly (setting_in g) t) b.came.trace kn.lawful)
        (subst (λ t. IsSessionOf (setting_in g) t g.session) b.came.trace kn.its) at in
        (found_with (world_at p h now) b.machine d g.session, stood_with p h now rest run i g its b begun, some_joins (joined_after d.trace g.session) k at)

    entered : IsKnown (world_at p h (now ++ rest)) i g → (k : ℕ) → joined_after (trace_of g) g.session ≡ Some k → (q : ℕ) (s : Stamp) → k ≡ suc q → stamp_in g.daemon.stamps q ≡ Some s
        → s.step ≡ n → (b : Behind (world_at p h now) i g) → length b.came.daemon.stamps ≡ length b.came.daemon.trace
        → (q < length b.came.daemon.stamps) ⊎ (length b.came.daemon.stamps ≤ q) → (f : Found) × IsSession (world_at p h now) i f × HasJoined f
    entered kn k joined q s at stamp step b long (inl lt) = stands kn k joined b (omega (arith, at, lt, long))
    entered kn k joined q s at stamp step b long (inr le) =
        absurd (never n (world_at p h now).step s.step past
        (b.came.later s (stamp_newer b.came.stamps b.came.daemon.stamps q s (subst (λ ss. stamp_in ss q ≡ Some s) b.came.stamped stamp) le)) step)

    by : IsKnown (world_at p h (now ++ rest)) i g → (k : ℕ) → joined_after (trace_of g) g.session ≡ Some k → JoinedWhen g k n
        → Behind (world_at p h now) i g ⊎ BeganSince (IsAfter (world_at p h now)) g.daemon → (f : Found) × IsSession (world_at p h now) i f × HasJoined f
    by kn k joined (At_first k0 n0) (inl b) = stands kn k joined b (omega (arith, k0))
    by kn k joined (At_first k0 n0) (inr new) =
        absurd (none_given (setting_in g) (trace_of g) g.session kn.lawful kn.its new.given (joined ∙ ap (λ m. Some m) k0))
    by kn k joined (By_entry q s at within stamp step) (inl b) =
        entered kn k joined q s at stamp step b
        (same_length b.came.daemon.stamps b.came.daemon.trace
        (entries_are_stamped p h now (fronts_are_lawful p h now rest run) i.machine b.machine b.came.daemon b.at b.came.has)) (cases_lt q (length b.came.daemon.stamps))
    by kn k joined (By_entry q s at within stamp step) (inr new) =
        absurd (never n (world_at p h now).step s.step past (new.later s (stamp_newer g.daemon.stamps [] q s (subst (λ ss. stamp_in ss q ≡ Some s) (sym (nothing_more g.daemon.stamps)) stamp) (omega arith))) step)

-- Where it stands, joined, the front is past the step.
pub joined_past : (p : Program) (h : Header) (now rest : List Happening) → LawfulRun p h (now ++ rest) → (i : SessionId) (f g : Found) → IsSession (world_at p h now) i f → HasJoined f
    → IsSession (world_at p h (now ++ rest)) i g → (n : ℕ) → joined_step g ≡ Some n → n < (world_at p h now).step
joined_past p h now rest run i f g its joined also n is =
    let on = goes_on p h now rest run i f g its also in
    let j = joined_when p h (now ++ rest) run i g also n is in
    let k = joined_some (joined_after (trace_of f) f.session) joined in
    let same : k.0 ≡ j.0 =
    one_value k.0 j.0 (joined_after (trace_of g) g.session)
    (ap (λ t. joined_after t g.session) on.trace ∙ ap (λ s. joined_after (on.newer ++ trace_of f) s) on.session ∙ marks_stay.joined on.newer (trace_of f) f.session k.0 k.1) j.1 in
    let within : j.0 ≤ length (trace_of f) = subst (λ m. m ≤ length (trace_of f)) same (joined_within (trace_of f) f.session k.0 k.1) in
    let first : 1 ≤ (world_at p h now).step = steps_grow (world_with p h) now in
    by j.2 within first (λ q s lt stamp. old_stamp p h now rest run i f g on q s lt stamp)
  where
    joined_some : (o : Option ℕ) → is_some o ≡ true → (k : ℕ) × (o ≡ Some k)
    joined_some None some = absurd (none_some 0 (ap (λ b. elim b as (λ z. Option ℕ) [ true ↦ Some 0 | false ↦ None ]) some))
    joined_some (Some k) some = (k, refl)

    by : {k : ℕ} → JoinedWhen g k n → k ≤ length (trace_of f) → 1 ≤ (world_at p h now).step
        → ((q : ℕ) (s : Stamp) → q < length (trace_of f) → stamp_in g.daemon.stamps q ≡ Some s → s.step < (world_at p h now).step) → n < (world_at p h now).step
    by (At_first k0 n0) within first old = omega (arith, n0, first)
    by (By_entry q s at inside stamp step) within first old = let lt = old q s (omega (arith, at, within)) stamp in omega (arith, lt, step)
