-- A session that had joined before an entry of its daemon: it stands before the event that brought the newest entry.
use Rattle.sl_run_law.proofs.Course.Daemons.{Same_daemons, DaemonsTurn, One_begins, One_enters, all_ended, stepped_daemons}
use Rattle.sl_run_law.proofs.Course.MachinesKeep.{Goes_on, was_before}
use Rattle.sl_run_law.proofs.Course.MachinesMirror.{machines_mirror}
use Rattle.sl_run_law.proofs.Course.MachineTurns.{Began, Called, Came_up, Clocked, Crashed, Stays, Tested, Turned, Went_down}
use Rattle.sl_id_safety.proofs.State.TraceBridge.{known}
use Rattle.sl_id_safety.proofs.State.FindingFrames.{found_on, session_with}
use Rattle.sl_id_safety.proofs.State.LaterFrames.{numbered_found}
use Rattle.sl_id_safety.proofs.State.JoiningCallOrder.{begun_if_joined}
use Rattle.sl_id_safety.proofs.State.SessionFacts.{grounds}
use Rattle.sl_run.proofs.LawFacts.{orderly-front}
use Rattle.sl_run.specs.Lawful.{Orderly}
use Rattle.sl_words.proofs.Lists.{contains_cases, contains_first, contains_more}
use Rattle.sl_run.specs.Runs.{Happening}
use Rattle.sl_run.specs.Safety.{Found, IsSession, LawfulRun, SessionId, setting_in, trace_of, world_at}
use Rattle.sl_run.specs.Worlds.{Daemon, Machine, Program, World, daemons_on, new_daemon, next_numbers, setting_of, stamp_now}
use Rattle.sl_run.specs.declared.event.Event.{Event}
use Rattle.sl_run.specs.declared.header.Header.{Header}
use Rattle.sl_run_law.specs.DaemonsGoOn.{IsSettled}
use Rattle.sl_run_law.proofs.Sessions.CallOwners.{sessions_stay}
use Rattle.sl_run_law.proofs.Sessions.MarksStay.{joined_more, marks_stay}
use Rattle.sl_run_law.specs.Sessions.SessionLaws.{IsSession as IsSessionOf}
use Rattle.sl_trace.specs.Sessions.{given_session, joined_after, session_numbered}
use Rattle.sl_trace.specs.declared.session.Session.{Session}
use Rattle.sl_trace.specs.Traces.{Setting, Trace}
use Rattle.sl_trace.specs.declared.effects.Entry.{Entry}
use Rattle.sl_trace.specs.declared.input.Given.{Given}
use Rattle.sl_words.proofs.CaseLaws.{none_some}
use Rattle.std.proofs.Common.{ap, arith, inl, inr, refl, subst, sym, ◌∙◌}
use Rattle.std.specs.List.{enumerate_from}
use Rattle.std.specs.Prelude.{Contains, List, Some, [], drop, length, map, option_map, slice_get, suc, ℕ, ◌++◌, ◌∷◌, ◌≡◌, ◌≤◌, ◌⊎◌}

-- ---- where a daemon comes from

-- A daemon of before, with at most one entry more.
record CameFrom (ds : List Daemon) (d : Daemon) : Type 0 where
  daemon : Daemon
  has : Contains ds daemon
  number : daemon.number ≡ d.number
  setting : daemon.setting ≡ d.setting
  trace : (d.trace ≡ daemon.trace) ⊎ ((e : Entry) × (d.trace ≡ e ∷ daemon.trace))

-- One that began without sessions, with at most one entry.
record IsFresh (d : Daemon) : Type 0 where
  short : length d.trace ≤ 1
  given : d.setting.given ≡ []

-- A daemon without entries or sessions.
record IsBlank (d : Daemon) : Type 0 where
  trace : d.trace ≡ []
  given : d.setting.given ≡ []

itself : (ds bs : List Daemon) (d : Daemon) → bs ≡ ds → Contains bs d → CameFrom ds d
itself ds bs d same has = record { daemon = d; has = subst (λ ys. Contains ys d) same has; number = refl; setting = refl; trace = inl refl }

-- What an event changes before its step: at most one daemon begins.
turned_back : (w : World) (e : Event) (m : ℕ) (a b : Machine) → IsSettled a → Turned w e m a b
    → (daemons_on b ≡ daemons_on a) ⊎ ((d : Daemon) × IsBlank d × (daemons_on b ≡ d ∷ daemons_on a))
turned_back w e m a b s (Stays is) = inl (ap daemons_on is)
turned_back w e m a b s (Clocked n is) = inl (ap daemons_on is)
turned_back w e m a b s (Called n f g h k is) = inl (ap daemons_on is)
turned_back w e m a b s (Tested t is) = inl (ap daemons_on is)
turned_back w e m a b s (Crashed event is) = inl (ap daemons_on is)
turned_back w e m a b s (Went_down event up is) = inl (ap daemons_on is)
turned_back w e m a b s (Came_up event down is) = inl (ap daemons_on is)
turned_back w e m a b s (Began name event up used fresh is) =
    let d : Daemon = new_daemon (length (daemons_on a)) (setting_of w.program w.layout w.header m name (next_numbers a) []) (stamp_now w a) in
    inr (d, record { trace = refl; given = refl }, ap daemons_on is ∙ ap (λ ds. d ∷ ds) (all_ended a (s.unused used)))

blank_fresh : (d : Daemon) → IsBlank d → IsFresh d
blank_fresh d b = let none = ap (λ (es : Trace). length es) b.trace in record { short = omega (arith, none); given = b.given }

stepped_back : (w : World) (m : ℕ) (b c : Machine) (d : Daemon) → DaemonsTurn w m b c → Contains (daemons_on c) d → CameFrom (daemons_on b) d ⊎ IsFresh d
stepped_back w m b c d (Same_daemons is) has = inl (itself (daemons_on b) (daemons_on c) d is has)
stepped_back w m b c d (One_begins x new is) has =
    elim (contains_cases x (daemons_on b) d (subst (λ ds. Contains ds d) is has)) as (λ z. CameFrom (daemons_on b) d ⊎ IsFresh d) [
      | inl here ↦ inr (blank_fresh d (subst IsBlank here (record { trace = ap (λ (y : Daemon). y.trace) new.is; given = ap (λ (y : Daemon). y.setting.given) new.is })))
      | inr old ↦ inl (itself (daemons_on b) (daemons_on b) d refl old)
    ]
stepped_back w m b c d (One_enters x ds e s reading was is) has =
    elim (contains_cases (record x { trace = e ∷ x.trace; stamps = s ∷ x.stamps }) ds d (subst (λ ys. Contains ys d) is has)) as (λ z. CameFrom (daemons_on b) d ⊎ IsFresh d) [
      | inl here ↦ inl (record {
        daemon = x;
        has = subst (λ ys. Contains ys x) (sym was) (contains_first x ds);
        number = ap (λ (y : Daemon). y.number) here;
        setting = ap (λ (y : Daemon). y.setting) here;
        trace = inr (e, ap (λ (y : Daemon). y.trace) (sym here));
      })
      | inr old ↦ inl (itself (daemons_on b) (daemons_on b) d refl (subst (λ ys. Contains ys d) (sym was) (contains_more x ds d old)))
    ]

one_at_most : (d y : Daemon) → IsBlank y → y.setting ≡ d.setting → (d.trace ≡ y.trace) ⊎ ((e : Entry) × (d.trace ≡ e ∷ y.trace)) → IsFresh d
one_at_most d y b setting (inl same) =
    let none = ap (λ (es : Trace). length es) (same ∙ b.trace) in
    record { short = omega (arith, none); given = ap (λ (st : Setting). st.given) (sym setting) ∙ b.given }
one_at_most d y b setting (inr more) =
    let one : length d.trace ≡ 1 = ap (λ (es : Trace). length es) (more.1 ∙ ap (λ es. more.0 ∷ es) b.trace) in
    record { short = omega (arith, one); given = ap (λ (st : Setting). st.given) (sym setting) ∙ b.given }

then_back : (ds bs : List Daemon) (d : Daemon) → (bs ≡ ds) ⊎ ((x : Daemon) × IsBlank x × (bs ≡ x ∷ ds)) → CameFrom bs d → CameFrom ds d ⊎ IsFresh d
then_back ds bs d (inl same) c =
    inl (record { daemon = c.daemon; has = subst (λ ys. Contains ys c.daemon) same c.has; number = c.number; setting = c.setting; trace = c.trace })
then_back ds bs d (inr new) c =
    elim (contains_cases new.0 ds c.daemon (subst (λ ys. Contains ys c.daemon) new.2 c.has)) as (λ z. CameFrom ds d ⊎ IsFresh d) [
      | inl here ↦ inr (one_at_most d c.daemon (subst IsBlank here new.1) c.setting c.trace)
      | inr old ↦ inl (record { daemon = c.daemon; has = old; number = c.number; setting = c.setting; trace = c.trace })
    ]

came_from : (p : Program) (h : Header) (now : List Happening) (x : Happening) (m : ℕ) (a c : Machine) (d : Daemon) → Goes_on p h now x m a c → Contains (daemons_on c) d
    → CameFrom (daemons_on a) d ⊎ IsFresh d
came_from p h now x m a c d g has =
    let w : World = world_at p h now in
    let b : Machine = g.becomes.middle in
    elim (stepped_back w m b c d (stepped_daemons w x.0 g.effects m b c g.becomes.stepped) has) as (λ z. CameFrom (daemons_on a) d ⊎ IsFresh d) [
      | inl old ↦ then_back (daemons_on a) (daemons_on b) d (turned_back w x.0 m a b g.settled g.becomes.turned) old
      | inr fresh ↦ inr fresh
    ]

-- ---- a session that had joined

-- It had begun.
had_begun : (st : Setting) (later : Trace) (e : Entry) (past : Trace) (s : Session) → Orderly st (later ++ e ∷ past) → IsSessionOf st (later ++ e ∷ past) s → (k : ℕ)
    → joined_after past s ≡ Some k → IsSessionOf st past s
had_begun st [] e past s h its k joined = begun_if_joined st e past s h its k (joined_more e past s k joined)
had_begun st (x ∷ later) e past s h its k joined =
    had_begun st later e past s (orderly-front st (x ∷ []) (later ++ e ∷ past) h)
    (begun_if_joined st x (later ++ e ∷ past) s h its k
    (marks_stay.joined (x ∷ later) (e ∷ past) s k (joined_more e past s k joined))) k joined

abbrev pub found_with : World → Machine → Daemon → Session → Found
found_with w a d s = record { machine = a; daemon = d; session = s; now = w.moment }

-- The session before the event: the entry is the newest, or was there.
pub record StoodBefore (p : Program) (h : Header) (now : List Happening) (i : SessionId) (g : Found) (past : Trace) (e : Entry) : Type 0 where
  pub machine : Machine
  pub daemon : Daemon
  pub its : IsSession (world_at p h now) i (found_with (world_at p h now) machine daemon g.session)
  pub setting : daemon.setting ≡ setting_in g
  pub place : ((daemon.trace ≡ past) × (trace_of g ≡ e ∷ past)) ⊎ ((l : Trace) × (daemon.trace ≡ l ++ e ∷ past))

abbrev Parts : Trace → Trace → Trace → Entry → Type 0
Parts t d past e = ((t ≡ past) × (d ≡ e ∷ past)) ⊎ ((l : Trace) × (t ≡ l ++ e ∷ past))

parts_by : (t d : Trace) (later : Trace) (e : Entry) (past : Trace) → d ≡ later ++ e ∷ past → (d ≡ t) ⊎ ((x : Entry) × (d ≡ x ∷ t)) → Parts t d past e
parts_by t d later e past whole (inl same) = inr (later, sym same ∙ whole)
parts_by t d [] e past whole (inr more) = inl (ap (λ es. drop 1 es) (sym more.1 ∙ whole), whole)
parts_by t d (z ∷ later) e past whole (inr more) = inr (later, ap (λ es. drop 1 es) (sym more.1 ∙ whole))

still_session : (st : Setting) (t d past : Trace) (e : Entry) (s : Session) (n : ℕ) → session_numbered st past n ≡ Some s → Parts t d past e → session_numbered st t n ≡ Some s
still_session st t d past e s n at (inl is) = ap (λ es. session_numbered st es n) is.0 ∙ at
still_session st t d past e s n at (inr more) =
    ap (λ es. session_numbered st es n) more.1 ∙ sessions_stay st more.0 (e ∷ past) n s (sessions_stay st (e ∷ []) past n s at)

too_long : (later past : Trace) (e : Entry) → length (later ++ e ∷ past) ≤ 1 → past ≡ []
too_long [] [] e le = refl
too_long [] (x ∷ past) e le = absurd (omega (arith, le))
too_long (y ∷ later) past e le = absurd (none later le) where
  none : (later : Trace) → suc (length (later ++ e ∷ past)) ≤ 1 → ⊥
  none [] le = omega (arith, le)
  none (x ∷ later) le = omega (arith, le)

no_session : (st : Setting) (past : Trace) (n : ℕ) (s : Session) → past ≡ [] → st.given ≡ [] → session_numbered st past n ≡ Some s → ⊥
no_session st past n s none given at =
    none_some s (sym (ap (λ es. session_numbered st es n) none ∙ ap (λ (gs : List Given). slice_get (map given_session (enumerate_from 0 gs)) n) given) ∙ at)

pub stood_before : (p : Program) (h : Header) (now : List Happening) (x : Happening) → LawfulRun p h (now ++ x ∷ []) → (i : SessionId) (g : Found)
    → IsSession (world_at p h (now ++ x ∷ [])) i g → (later : Trace) (e : Entry) (past : Trace) → trace_of g ≡ later ++ e ∷ past → (k : ℕ) → joined_after past g.session ≡ Some k
    → StoodBefore p h now i g past e
stood_before p h now x run i g its later e past whole k joined =
    let kn = known grounds p h (now ++ x ∷ []) run i g its in
    let b = was_before p h now x run i.machine g.machine kn.there.at in
    let at : session_numbered (setting_in g) past i.number ≡ Some g.session =
    ap (λ n. session_numbered (setting_in g) past n) (sym kn.there.number)
    ∙ had_begun (setting_in g) later e past g.session (subst (λ es. Orderly (setting_in g) es) whole kn.lawful) (subst (λ es. IsSessionOf (setting_in g) es g.session) whole kn.its) k joined in
    by b.0 b.1 kn.there.daemon at (came_from p h now x i.machine b.0 g.machine g.daemon b.1 kn.there.has)
  where
    by : (a : Machine) → Goes_on p h now x i.machine a g.machine → g.daemon.number ≡ i.daemon → session_numbered (setting_in g) past i.number ≡ Some g.session
        → CameFrom (daemons_on a) g.daemon ⊎ IsFresh g.daemon → StoodBefore p h now i g past e
    by a o number at (inr fresh) =
        absurd (no_session (setting_in g) past i.number g.session (too_long later past e (subst (λ (es : Trace). length es ≤ 1) whole fresh.short)) fresh.given at)
    by a o number at (inl c) =
        let parts = parts_by c.daemon.trace (trace_of g) later e past whole c.trace in
        let there = numbered_found (daemons_on a) c.daemon i.daemon (machines_mirror p h now o.before i.machine a o.at).numbered c.has (c.number ∙ number) in
        let session : session_numbered c.daemon.setting c.daemon.trace i.number ≡ Some g.session =
        ap (λ st. session_numbered st c.daemon.trace i.number) c.setting ∙ still_session (setting_in g) c.daemon.trace (trace_of g) past e g.session i.number at parts in
        record {
          machine = a;
          daemon = c.daemon;
          its = found_on (world_at p h now) i a o.at ∙ ap (session_with (world_at p h now).moment i a) there
              ∙ ap (λ q. option_map (found_with (world_at p h now) a c.daemon) q) session;
          setting = c.setting;
          place = parts;
        }
