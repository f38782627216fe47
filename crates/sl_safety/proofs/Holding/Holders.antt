-- Whose the uses of a world are. Each holding is one of its machine's daemon since the last restart, whose trace is lawful, or the orphan of
-- one; and what lingers was held by a daemon that ended at a reset, at most `land` ago. So its session is not over.
use Rattle.sl_run_law.proofs.Course.MachinesKeep.{lawful_on}
use Rattle.sl_run_law.proofs.Course.MachinesMirror.{machines_mirror}
use Rattle.sl_run_law.proofs.Course.MirrorsTurn.{none_if}
use Rattle.sl_run_law.specs.Course.Mirrors.{Held_on, IsLeft, Mirrors, Orphaned, since_restart}
use Rattle.sl_run_law.proofs.Course.DaemonsOfWorld.{daemons_are_of_world}
use Rattle.sl_run_law.proofs.Front.JoinedLists.{contains_append, contains_flat}
use Rattle.sl_id_safety.proofs.State.LaterFrames.{numbered_found}
use Rattle.sl_safety.proofs.Resources.Calls.{found_as, in_world, machine_there, numbered_in}
use Rattle.sl_safety.proofs.Holding.OneDaemonAgrees.{one_daemon_agrees}
use Rattle.sl_safety.proofs.Holding.HoldersStand.{held_of, holders_stand}
use Rattle.sl_safety.specs.Holding.HoldingOrigins.{HeldUnder}
use Rattle.sl_safety.proofs.Holding.LingeringIsLeft.{lingering_is_left}
use Rattle.sl_safety.specs.Holding.Holders.{HeldBy, LeftBy, OneMachineAgrees, RestsOn, UsesAreHeld, orphaned}
use Rattle.sl_run.specs.Lawful.{Orderly}
use Rattle.sl_run_law.proofs.Leases.NumberLaws.{number_is_place}
use Rattle.sl_words.proofs.Lists.{any_found, contains_more, contains_none, got_inside, in_map, kept_inside}
use Rattle.sl_run.specs.Conflicts.{Holding, conflicts, holding, lingering_holding, world_holdings, world_lingering}
use Rattle.sl_run.specs.Runs.{Happening}
use Rattle.sl_run.specs.Safety.{Found, HasJoined, IsSession, LawfulRun, SessionId, free_landed, has_write_in_flight, is_course_of, is_over, was_reset, world_at}
use Rattle.sl_run.specs.Worlds.{Daemon, Lingering, Machine, Program, Stamp, World, daemon_numbered, daemons_on, is_landed, lingering_now, lingers, machine_at, resets_after}
use Rattle.sl_run.specs.declared.header.Header.{Header}
use Rattle.sl_trace.specs.Sessions.{calls_of, ended_after, free_write, holdings_of, is_joined, joined_after, refused_after, removed_after}
use Rattle.sl_trace.specs.declared.session.Session.{Session}
use Rattle.sl_trace.specs.Traces.{Setting, Submitted, Trace, holdings, is_shared, no_process, same_place}
use Rattle.sl_trace.specs.declared.effects.Grant.{Grant}
use Rattle.sl_run_law.proofs.Watchdog.WritersMayAct.{itself}
use Rattle.sl_words.proofs.CaseLaws.{false_is_true, is_false, one_value, true_is_false}
use Rattle.sl_words.proofs.WordLaws.{and_true}
use Rattle.sl_words.specs.Words.{first_of_list, some_is}
use Rattle.std.proofs.Common.{ap, arith, inl, inr, refl, subst, sym, ◌∙◌}
use Rattle.std.proofs.lemmas.Bool.Decides.{nat_tests}
use Rattle.std.proofs.lemmas.Bool.{eq-eqb, eqb-true}
use Rattle.std.specs.List.{enumerate_from, list_any}
use Rattle.std.specs.Prelude.{Bool, Contains, IsFalse, List, None, Option, Some, [], false, is_none, is_some, map, nat_le, nat_lt, not, true, ℕ, ◌&&◌, ◌+◌, ◌==◌, ◌||◌, ◌≡◌, ◌≤◌, ◌⊎◌}

-- ---- the machine of a holding

-- A holding is its machine's ..
pub record IsThere (w : World) (x : Holding) : Type 0 where
  pub machine : Machine
  pub at : machine_at w x.machine ≡ Some machine
  pub has : Contains machine.holdings x.held
  pub stands : x ≡ holding x.machine x.held

-- .. and so is what lingers of one.
pub record LingersThere (w : World) (x : Holding) : Type 0 where
  pub machine : Machine
  pub number : ℕ
  pub at : machine_at w number ≡ Some machine
  pub lingering : Lingering
  pub there : Contains (lingering_now w machine) lingering
  pub is : x ≡ lingering_holding number lingering

pub held_there : (w : World) (x : Holding) → Contains (world_holdings w) x → IsThere w x
held_there w x there =
    let f = contains_flat (λ (p : ℕ × Machine). map (holding p.0) p.1.holdings) (enumerate_from 1 w.machines) x there in
    let n = numbered_in 1 w.machines f.0 f.1 in
    let g = in_map (holding f.0.0) f.0.1.holdings x f.2 in
    let at : machine_at w f.0.0 ≡ Some f.0.1 = machine_there w f.0.0 n.0 f.0.1 n.1 n.2 in
    record {
      machine = f.0.1;
      at = ap (λ (y : Holding). machine_at w y.machine) (sym g.2) ∙ at;
      has = subst (λ (y : Holding). Contains f.0.1.holdings y.held) g.2 g.1;
      stands = subst (λ (y : Holding). y ≡ holding y.machine y.held) g.2 refl;
    }

pub lingers_there : (w : World) (x : Holding) → Contains (world_lingering w) x → LingersThere w x
lingers_there w x there =
    let f = contains_flat (λ (p : ℕ × Machine). map (lingering_holding p.0) (lingering_now w p.1)) (enumerate_from 1 w.machines) x there in
    let n = numbered_in 1 w.machines f.0 f.1 in
    let g = in_map (lingering_holding f.0.0) (lingering_now w f.0.1) x f.2 in
    record {
      machine = f.0.1;
      number = f.0.0;
      at = machine_there w f.0.0 n.0 f.0.1 n.1 n.2;
      lingering = g.0;
      there = g.1;
      is = sym g.2;
    }

-- ---- its daemon

record IsOfDaemon (w : World) (x : Holding) : Type 0 where
  stands : x ≡ holding x.machine x.held
  machine : Machine
  at : machine_at w x.machine ≡ Some machine
  mirrors : Mirrors machine
  daemon : Daemon
  running : since_restart machine ≡ Some daemon
  has_daemon : Contains (daemons_on machine) daemon
  lawful : Orderly daemon.setting daemon.trace
  has : Contains machine.holdings x.held
  left : IsLeft (holdings daemon.trace) machine.holdings x.held

of_daemon : (p : Program) (h : Header) (xs : List Happening) → LawfulRun p h xs → (x : Holding) → Contains (world_holdings (world_at p h xs)) x → IsOfDaemon (world_at p h xs) x
of_daemon p h xs run x there = by (since_restart a) refl where
  k : IsThere (world_at p h xs) x
  k = held_there (world_at p h xs) x there

  a : Machine
  a = k.machine

  mirrors : Mirrors a
  mirrors = machines_mirror p h xs run x.machine a k.at

  by : (o : Option Daemon) → since_restart a ≡ o → IsOfDaemon (world_at p h xs) x
  by None is = absurd (contains_none x.held (subst (λ (gs : List Grant). Contains gs x.held) (mirrors.none is).1 k.has))
  by (Some d) is =
      let first : first_of_list (daemons_on a) ≡ Some d = (none_if (a.up && a.used) (first_of_list (daemons_on a)) d is).1 in
      record {
        stands = k.stands;
        machine = a;
        at = k.at;
        mirrors = mirrors;
        daemon = d;
        running = is;
        has_daemon = got_inside (daemons_on a) 0 d first;
        lawful = lawful_on (world_at p h xs) x.machine a d run.lawful k.at (got_inside (daemons_on a) 0 d first);
        has = k.has;
        left = mirrors.left d x.held is k.has;
      }

-- A daemon that has ended is one of the machine's.
ended_is_on : (a : Machine) (d : Daemon) → Contains a.ended d → Contains (daemons_on a) d
ended_is_on a d there = by a.daemon where
  by : (o : Option Daemon) → Contains (daemons_on (record a { daemon = o })) d
  by None = there
  by (Some x) = contains_more x a.ended d there

-- ---- a session that is not over

not_ended_by : (joined removed refused : Option ℕ) → is_some joined ≡ true → is_none removed ≡ true
    → is_some (elim joined as (λ x. Option ℕ) [ Some k ↦ removed | None ↦ refused ]) ≡ false
not_ended_by None removed refused joined stays = absurd (false_is_true joined)
not_ended_by (Some k) None refused joined stays = refl
not_ended_by (Some k) (Some i) refused joined stays = absurd (false_is_true stays)

not_over_by : (landed ended reset flies : Bool) → landed ≡ false → ended ≡ false → reset ≡ false → (landed || (ended || reset) && not flies) ≡ false
not_over_by landed ended reset flies l e r =
    ap (λ x. x || (ended || reset) && not flies) l ∙ ap (λ x. false || (x || reset) && not flies) e ∙ ap (λ x. false || (false || x) && not flies) r

not_over : (i : SessionId) (f : Found) → free_write (calls_of f.daemon.trace f.session) ≡ None → is_joined f.daemon.trace f.session ≡ true
    → was_reset f ≡ false → is_over i f ≡ false
not_over i f unfreed joined kept =
    let both = and_true (is_some (joined_after f.daemon.trace f.session)) (is_none (removed_after f.daemon.trace f.session)) joined in
    not_over_by (free_landed i f) (is_some (ended_after f.daemon.trace f.session)) (was_reset f) (has_write_in_flight i f.machine)
    (ap (λ (o : Option Submitted). some_is (λ c. list_any (λ d. is_course_of i d && d.call.number == c.call.number && is_landed d.fate) f.machine.calls) o) unfreed)
    (not_ended_by (joined_after f.daemon.trace f.session) (removed_after f.daemon.trace f.session) (refused_after f.daemon.trace f.session) both.0 both.1)
    kept

-- No reset has come since its daemon began ..
never_reset : (f : Found) → resets_after f.machine f.daemon.begun.step ≡ [] → was_reset f ≡ false
never_reset f none = ap (λ (rs : List Stamp). list_any (λ (r : Stamp). nat_lt (r.moment + f.daemon.setting.timing.land) f.now) rs) none

past_land : (reset moment land now : ℕ) → now ≤ reset + land → reset ≤ moment → nat_lt (moment + land) now ≡ true → ⊥
past_land reset moment land now lingers first h = grind (arith, nat_tests, lingers, first, h)

-- .. or the first is at most `land` ago.
reset_lately : (f : Found) (reset : ℕ) → f.now ≤ reset + f.daemon.setting.timing.land
    → ((r : Stamp) → Contains (resets_after f.machine f.daemon.begun.step) r → reset ≤ r.moment) → was_reset f ≡ false
reset_lately f reset lingers first =
    is_false (was_reset f) (λ h.
    let r = any_found (λ (r : Stamp). nat_lt (r.moment + f.daemon.setting.timing.land) f.now) (resets_after f.machine f.daemon.begun.step) h in
    past_land reset r.0.moment f.daemon.setting.timing.land f.now lingers (first r.0 r.1) r.2)

-- ---- of holdings

-- The session of what a daemon's trace has, where its machine was not reset more than `land` ago.
record HasSession (w : World) (m : ℕ) (a : Machine) (d : Daemon) (g : Grant) : Type 0 where
  session : SessionId
  known : Session
  is : IsSession w session (found_as w.moment a d known)
  machine : session.machine ≡ m
  stands : Contains (holdings_of d.trace known) g
  joined : HasJoined (found_as w.moment a d known)
  alive : was_reset (found_as w.moment a d known) ≡ false → is_over session (found_as w.moment a d known) ≡ false

has_session : (w : World) (m : ℕ) (a : Machine) (d : Daemon) (g : Grant) → machine_at w m ≡ Some a → daemon_numbered a d.number ≡ Some d → Orderly d.setting d.trace
    → Contains (holdings d.trace) g → HasSession w m a d g
has_session w m a d g at numbered lawful held =
    let u : HeldUnder d.setting d.trace g = holders_stand d.setting d.trace lawful g held in
    let s : Session = u.session in
    let i : SessionId = record { machine = m; daemon = d.number; number = s.number } in
    record {
      session = i;
      known = s;
      is = in_world w i a d s at numbered (itself d.setting d.trace g.session s u.known);
      machine = refl;
      stands = held_of d.trace g s (number_is_place d.setting d.trace g.session s u.known) held;
      joined = (and_true (is_some (joined_after d.trace s)) (is_none (removed_after d.trace s)) u.joined).0;
      alive = λ kept. not_over i (found_as w.moment a d s) u.unfreed u.joined kept;
    }

held_by : (p : Program) (h : Header) (xs : List Happening) → LawfulRun p h xs → (x : Holding) → (o : IsOfDaemon (world_at p h xs) x) → (g : Grant)
    → Contains (holdings o.daemon.trace) g → HeldBy (world_at p h xs) (holding x.machine g)
held_by p h xs run x o g held =
    let w : World = world_at p h xs in
    let d : Daemon = o.daemon in
    let u : HasSession w x.machine o.machine d g = has_session w x.machine o.machine d g o.at (numbered_found (daemons_on o.machine) d d.number o.mirrors.numbered o.has_daemon refl) o.lawful held in
    record {
      session = u.session;
      found = found_as w.moment o.machine d u.known;
      is = u.is;
      machine = u.machine;
      running = λ stands. o.running;
      stands = u.stands;
      joined = u.joined;
      alive = u.alive (never_reset (found_as w.moment o.machine d u.known) (o.mirrors.kept d o.running));
    }

rests_by : (p : Program) (h : Header) (xs : List Happening) → LawfulRun p h xs → (x : Holding) → (o : IsOfDaemon (world_at p h xs) x)
    → IsLeft (holdings o.daemon.trace) o.machine.holdings x.held → RestsOn (world_at p h xs) x
rests_by p h xs run x o (Held_on there) = record { before = holding x.machine x.held; held = held_by p h xs run x o x.held there; follows = inl o.stands }
rests_by p h xs run x o (Orphaned g there persistent is gone) =
    record { before = holding x.machine g; held = held_by p h xs run x o g there; follows = inr (o.stands ∙ ap (λ k. holding x.machine k) is) }

holding_rests : (p : Program) (h : Header) (xs : List Happening) → LawfulRun p h xs → (x : Holding) → Contains (world_holdings (world_at p h xs)) x → RestsOn (world_at p h xs) x
holding_rests p h xs run x there = let o : IsOfDaemon (world_at p h xs) x = of_daemon p h xs run x there in rests_by p h xs run x o o.left

-- ---- of what lingers

lingers_still : (moment land reset : ℕ) → nat_le moment (reset + land) ≡ true → moment ≤ reset + land
lingers_still moment land reset h = grind (arith, nat_tests, h)

lingering_by : (p : Program) (h : Header) (xs : List Happening) → LawfulRun p h xs → (m : ℕ) (a : Machine) → machine_at (world_at p h xs) m ≡ Some a → (l : Lingering)
    → lingers (world_at p h xs).header.timing.land (world_at p h xs).moment l ≡ true → (r : LeftBy (world_at p h xs) a l)
    → HeldBy (world_at p h xs) (record { machine = m; held = r.before; lingers = true })
lingering_by p h xs run m a at l still r =
    let w : World = world_at p h xs in
    let d : Daemon = r.daemon in
    let there : Contains (daemons_on a) d = ended_is_on a d r.ended in
    let times : d.setting.timing ≡ w.header.timing = (daemons_are_of_world p h xs run m a d at there).timing in
    let lands : d.setting.timing.land ≡ w.header.timing.land = cc in
    let u : HasSession w m a d r.before =
    has_session w m a d r.before at (numbered_found (daemons_on a) d d.number (machines_mirror p h xs run m a at).numbered there refl) (lawful_on w m a d run.lawful at there) r.held in
    record {
      session = u.session;
      found = found_as w.moment a d u.known;
      is = u.is;
      machine = u.machine;
      running = λ stands. absurd (true_is_false stands);
      stands = u.stands;
      joined = u.joined;
      alive = u.alive
          (reset_lately (found_as w.moment a d u.known) l.reset
          (subst (λ land. w.moment ≤ l.reset + land) (sym lands) (lingers_still w.moment w.header.timing.land l.reset still)) r.first);
    }

lingering_rests : (p : Program) (h : Header) (xs : List Happening) → LawfulRun p h xs → (x : Holding) → Contains (world_lingering (world_at p h xs)) x → RestsOn (world_at p h xs) x
lingering_rests p h xs run x there =
    let w : World = world_at p h xs in
    let o : LingersThere w x = lingers_there w x there in
    let k = kept_inside (lingers w.header.timing.land w.moment) o.machine.lingering o.lingering o.there in
    let r : LeftBy w o.machine o.lingering = lingering_is_left p h xs run o.number o.machine o.at o.lingering k.0 in
    record {
      before = record { machine = o.number; held = r.before; lingers = true };
      held = lingering_by p h xs run o.number o.machine o.at o.lingering k.1 r;
      follows = elim r.follows as (λ z. (x ≡ record { machine = o.number; held = r.before; lingers = true }) ⊎ (x ≡ orphaned (record { machine = o.number; held = r.before; lingers = true }))) [
        | inl same ↦ inl (o.is ∙ ap (λ (g : Grant). record { machine = o.number; held = g; lingers = true }) same)
        | inr orphan ↦ inr (o.is ∙ ap (λ (g : Grant). record { machine = o.number; held = g; lingers = true }) orphan)
      ];
    }

pub uses_are_held : UsesAreHeld
uses_are_held p h xs run x there =
    elim (contains_append (world_holdings (world_at p h xs)) (world_lingering (world_at p h xs)) x there) as (λ z. RestsOn (world_at p h xs) x) [
      | inl stands ↦ holding_rests p h xs run x stands
      | inr lingers ↦ lingering_rests p h xs run x lingers
    ]

-- ---- of one machine

-- Of what is left, as of what was held: an orphan stands for the holding of its process, which holds nothing else any more.
left_agree : (st : Setting) (es : Trace) → Orderly st es → (now : List Grant) (a b : Grant) → Contains now a → Contains now b → IsLeft (holdings es) now a
    → IsLeft (holdings es) now b → same_place a.path a.offset b.path b.offset ≡ true → (a.process ≡ b.process → ⊥) → (is_shared a.mode && is_shared b.mode) ≡ true
left_agree st es law now a b one two (Held_on x) (Held_on y) same differ = one_daemon_agrees st es law a b x y same differ
left_agree st es law now a b one two (Held_on x) (Orphaned k y persistent is gone) same differ =
    ap (λ (g : Grant). is_shared a.mode && is_shared g.mode) is
    ∙ one_daemon_agrees st es law a k x y (ap (λ (g : Grant). same_place a.path a.offset g.path g.offset) (sym is) ∙ same)
    (λ e. differ (eqb-true a.process no_process (gone a one e) ∙ sym (ap (λ (g : Grant). g.process) is)))
left_agree st es law now a b one two (Orphaned k x persistent is gone) (Held_on y) same differ =
    ap (λ (g : Grant). is_shared g.mode && is_shared b.mode) is
    ∙ one_daemon_agrees st es law k b x y (ap (λ (g : Grant). same_place g.path g.offset b.path b.offset) (sym is) ∙ same)
    (λ e. differ (ap (λ (g : Grant). g.process) is ∙ sym (eqb-true b.process no_process (gone b two (sym e)))))
left_agree st es law now a b one two (Orphaned k x persistent is gone) (Orphaned j y other was left) same differ =
    absurd (differ (ap (λ (g : Grant). g.process) is ∙ sym (ap (λ (g : Grant). g.process) was)))

agree_by : (same both machine process other another : Bool) → (same ≡ true → (process ≡ true → ⊥) → both ≡ true) → machine ≡ true
    → (same && not both && not (machine && (process || other || another))) ≡ true → ⊥
agree_by true true machine process other another agrees m h = false_is_true h
agree_by false both machine process other another agrees m h = false_is_true h
agree_by true false true true other another agrees m h = false_is_true h
agree_by true false true false other another agrees m h = false_is_true (agrees refl (λ is. false_is_true is))
agree_by true false false process other another agrees m h = false_is_true m

holdings_agree : (p : Program) (h : Header) (xs : List Happening) → LawfulRun p h xs → (x y : Holding) → Contains (world_holdings (world_at p h xs)) x
    → Contains (world_holdings (world_at p h xs)) y → x.machine ≡ y.machine → IsFalse (conflicts x y)
holdings_agree p h xs run x y one two machines =
    let o : IsOfDaemon (world_at p h xs) x = of_daemon p h xs run x one in
    let q : IsOfDaemon (world_at p h xs) y = of_daemon p h xs run y two in
    let same : o.machine ≡ q.machine = one_value o.machine q.machine (machine_at (world_at p h xs) x.machine) o.at (ap (λ m. machine_at (world_at p h xs) m) machines ∙ q.at) in
    let daemons : q.daemon ≡ o.daemon = one_value q.daemon o.daemon (since_restart o.machine) (ap (λ a. since_restart a) same ∙ q.running) o.running in
    let has : Contains o.machine.holdings y.held = subst (λ (a : Machine). Contains a.holdings y.held) (sym same) q.has in
    let left : IsLeft (holdings o.daemon.trace) o.machine.holdings y.held =
    subst (λ (a : Machine). IsLeft (holdings o.daemon.trace) a.holdings y.held) (sym same)
    (subst (λ (d : Daemon). IsLeft (holdings d.trace) q.machine.holdings y.held) daemons q.left) in
    is_false _
    (agree_by (same_place x.held.path x.held.offset y.held.path y.held.offset) (is_shared x.held.mode && is_shared y.held.mode) (x.machine == y.machine)
    (x.held.process == y.held.process) x.lingers y.lingers
    (λ place differ.
    left_agree o.daemon.setting o.daemon.trace o.lawful o.machine.holdings x.held y.held o.has has o.left left place
    (λ is. differ (eq-eqb x.held.process y.held.process is))) (eq-eqb x.machine y.machine machines))

-- What lingers conflicts with nothing of its machine.
lingers_by : (same both machine process other another : Bool) → machine ≡ true → (other ≡ true) ⊎ (another ≡ true)
    → (same && not both && not (machine && (process || other || another))) ≡ true → ⊥
lingers_by false both machine process other another m l h = false_is_true h
lingers_by true true machine process other another m l h = false_is_true h
lingers_by true false false process other another m l h = false_is_true m
lingers_by true false true true other another m l h = false_is_true h
lingers_by true false true false true another m l h = false_is_true h
lingers_by true false true false false true m l h = false_is_true h
lingers_by true false true false false false m (inl l) h = false_is_true l
lingers_by true false true false false false m (inr l) h = false_is_true l

one_lingers : (x y : Holding) → x.machine ≡ y.machine → (x.lingers ≡ true) ⊎ (y.lingers ≡ true) → IsFalse (conflicts x y)
one_lingers x y machines l =
    is_false _
    (lingers_by (same_place x.held.path x.held.offset y.held.path y.held.offset) (is_shared x.held.mode && is_shared y.held.mode) (x.machine == y.machine)
    (x.held.process == y.held.process) x.lingers y.lingers (eq-eqb x.machine y.machine machines) l)

does_linger : (w : World) (x : Holding) → Contains (world_lingering w) x → x.lingers ≡ true
does_linger w x there = ap (λ (y : Holding). y.lingers) (lingers_there w x there).is

pub one_machine_agrees : OneMachineAgrees
one_machine_agrees p h xs run x y one two machines =
    by (contains_append (world_holdings (world_at p h xs)) (world_lingering (world_at p h xs)) x one)
    (contains_append (world_holdings (world_at p h xs)) (world_lingering (world_at p h xs)) y two)
  where
    w : World
    w = world_at p h xs

    by : Contains (world_holdings w) x ⊎ Contains (world_lingering w) x → Contains (world_holdings w) y ⊎ Contains (world_lingering w) y → IsFalse (conflicts x y)
    by (inr a) b = one_lingers x y machines (inl (does_linger w x a))
    by (inl a) (inr b) = one_lingers x y machines (inr (does_linger w y b))
    by (inl a) (inl b) = holdings_agree p h xs run x y a b machines
