-- What a machine keeps of its daemons, at a step and at first.
use Rattle.sl_area.specs.AreaSizes.{Layout, layout_with}
use Rattle.sl_run_law.proofs.Course.OneMachineChanges.{changed_here}
use Rattle.sl_run_law.proofs.Course.CountedDaemons.{daemons_numbered}
use Rattle.sl_run_law.proofs.Course.Daemons.{daemon_of_line, daemons_are, entry_of, every_has, stepped_daemons, turned_daemons}
use Rattle.sl_run_law.proofs.Course.OrphansOfExits.{GrantsOrphans, own_grants, still_left, still_nothing}
use Rattle.sl_run_law.proofs.Course.MachinesKeep.{Goes_on, machines_keep}
use Rattle.sl_run_law.proofs.Course.DaemonsOfWorld.{begun_before}
use Rattle.sl_run_law.proofs.Course.CoursesAreCalls.{all_less}
use Rattle.sl_run_law.proofs.Course.MirrorsTurn.{IsKnown, none_if, since_is, turned_mirrors}
use Rattle.sl_run_law.proofs.Course.ResetsBeforeNow.{resets_before}
use Rattle.sl_run_law.proofs.Course.DaemonRuns.{runs_then}
use Rattle.sl_run_law.proofs.Course.MachineTurns.{Alone, Began, Called, Came_up, Clocked, Crashed, Elsewhere, IsQuiet, Stays, Stepped, Tested, Took, Turned, Went_down, own_quiet}
use Rattle.sl_run_law.specs.Course.Mirrors.{AreNumbered, Held_on, Mirrors, since_restart}
use Rattle.sl_run_law.specs.Course.CourseLaws.{MachinesMirror}
use Rattle.sl_words.proofs.Lists.{contains_cases, contains_more, contains_none}
use Rattle.sl_words.proofs.Options.{not_some}
use Rattle.sl_run.specs.EventChanges.{after_effects, after_reset, after_step, first_change, next_step, own_effects, with_entry}
use Rattle.sl_run.specs.Inputs.{input_at, input_of, machine_of}
use Rattle.sl_run.specs.Locks.{Locks, fresh_locks}
use Rattle.sl_run.specs.Runs.{Happening, own_effects_of}
use Rattle.sl_run.specs.Safety.{world_at}
use Rattle.sl_run.specs.Worlds.{Course, Daemon, Machine, Program, Stamp, World, daemons_on, first_stamp, given_of, machine_at, machine_of_header, resets_after, stamp_now}
use Rattle.sl_run.specs.declared.event.Event.TheVariants.{AnswerCall, Crash, Do, DropWrite, ExitOf, GiveAsk, GiveCommand, GiveLvm, Land, Pass, Reset, Restart, Sample, SpawnedOf, StartDaemon, Tear, Test, WakeUp}
use Rattle.sl_run.specs.declared.event.Event.{Event}
use Rattle.sl_run.specs.declared.header.Header.{Header}
use Rattle.sl_run.specs.declared.header.SessionLine.{SessionLine}
use Rattle.sl_trace.specs.WatchdogConnections.{Connection, after_move, connections, given_connection}
use Rattle.sl_trace.specs.Traces.{held_after, holdings, is_ended_by, no_effects}
use Rattle.sl_trace.specs.declared.effects.Effects.{Effects}
use Rattle.sl_trace.specs.declared.effects.Entry.{Entry}
use Rattle.sl_trace.specs.declared.effects.Grant.{Grant}
use Rattle.sl_trace.specs.declared.effects.Move.{Move}
use Rattle.sl_trace.specs.declared.input.Given.{Given}
use Rattle.sl_trace.specs.declared.input.Input.TheVariants.{Answer as Told, Exit, Line, Number, Spawned, Wake}
use Rattle.sl_trace.specs.declared.input.Input.{Input}
use Rattle.sl_words.proofs.CaseLaws.{no_value, none_some, one_value, some_value, true_is_false}
use Rattle.sl_words.proofs.OptionLaws.{choose_none}
use Rattle.sl_words.specs.Words.{first_of_list, is_empty}
use Rattle.std.proofs.Common.{ap, arith, inl, inr, refl, subst, sym, ◌∙◌}
use Rattle.std.proofs.lemmas.List.{append-nil}
use Rattle.std.specs.List.{cons_option}
use Rattle.std.specs.Option.{option_map_or}
use Rattle.std.specs.Prelude.{Bool, Contains, List, None, Option, Some, false, filter, filter_map, find, fold, if◌then◌else◌, is_some, length, map, not, option_and_then, option_map, true, [], ℕ, ◌&&◌, ◌<◌, ◌==◌, ◌∷◌, ◌≡◌}

-- ---- holdings

keeps_all : (gs : List Grant) → filter (λ g. not (is_ended_by [] g)) gs ≡ gs
keeps_all [] = refl
keeps_all (g ∷ gs) = ap (λ hs. g ∷ hs) (keeps_all gs)

-- Where none ends and none is granted.
nothing_ends : (gs : List Grant) → held_after no_effects gs ≡ gs
nothing_ends gs = append-nil (filter (λ g. not (is_ended_by [] g)) gs) ∙ keeps_all gs

-- ---- what the machine does without its daemon

alone_mirrors : (now : Stamp) (fx : Effects) (b : Machine) → IsQuiet fx → GrantsOrphans b.holdings fx → ((d : Daemon) → b.daemon ≡ Some d → fx ≡ no_effects) → Mirrors b
    → Mirrors (after_effects now fx b)
alone_mirrors now fx b quiet own nothing h =
    let same : fold after_move b.connections fx.moves ≡ b.connections = ap (λ (ms : List Move). fold after_move b.connections ms) quiet.moves in
    record {
      numbered = h.numbered;
      running = h.running;
      connected = λ d is. same ∙ h.connected d is;
      held = λ d is. ap (λ (x : Effects). held_after x b.holdings) (nothing d is) ∙ nothing_ends b.holdings ∙ h.held d is;
      left = λ d g is has. still_left (holdings d.trace) b.holdings fx g (λ k there. h.left d k is there) own has;
      none = λ is. (same ∙ (h.none is).0, still_nothing b.holdings fx (h.none is).1 own);
      kept = h.kept;
      lost = h.lost;
    }

none_own : (w : World) (e : Event) (o : Option Machine) → ((a : Machine) → own_effects w e a ≡ no_effects) → option_map_or (own_effects w e) o no_effects ≡ no_effects
none_own w e None each = refl
none_own w e (Some a) each = each a

not_start : (n p m : ℕ) (name : _) → ExitOf n p ≡ StartDaemon m name → ⊥
not_start n p m name e = absurd cc

exit_alone : (w : World) (n p m : ℕ) (a b : Machine) (d : Daemon) → a.daemon ≡ None → Turned w (ExitOf n p) m a b → b.daemon ≡ Some d → ⊥
exit_alone w n p m a b d none (Stays is) runs = none_some d (sym none ∙ sym (ap (λ (x : Machine). x.daemon) is) ∙ runs)
exit_alone w n p m a b d none (Clocked k is) runs = none_some d (sym none ∙ sym (ap (λ (x : Machine). x.daemon) is) ∙ runs)
exit_alone w n p m a b d none (Called k f g flight keeps is) runs = none_some d (sym none ∙ sym (ap (λ (x : Machine). x.daemon) is) ∙ runs)
exit_alone w n p m a b d none (Tested t is) runs = none_some d (sym none ∙ sym (ap (λ (x : Machine). x.daemon) is) ∙ runs)
exit_alone w n p m a b d none (Began name event up used fresh is) runs = not_start n p m name event
exit_alone w n p m a b d none (Crashed event is) runs = none_some d (sym (ap (λ (x : Machine). x.daemon) is) ∙ runs)
exit_alone w n p m a b d none (Went_down event up is) runs = none_some d (sym (ap (λ (x : Machine). x.daemon) is) ∙ runs)
exit_alone w n p m a b d none (Came_up event down is) runs = none_some d (sym none ∙ sym (ap (λ (x : Machine). x.daemon) is) ∙ runs)

exit_ends : (w : World) (n p : ℕ) (a b : Machine) (d : Daemon) → machine_at w n ≡ Some a → input_of w (ExitOf n p) ≡ None → Turned w (ExitOf n p) n a b → b.daemon ≡ Some d → ⊥
exit_ends w n p a b d at none turned runs =
    let here : input_at w (ExitOf n p) a ≡ None = ap (λ o. option_and_then (input_at w (ExitOf n p)) o) (sym at) ∙ none in
    exit_alone w n p n a b d (not_some a.daemon (choose_none (is_some a.daemon) (Exit p) here)) turned runs

reset_ends : (w : World) (n : ℕ) (a b : Machine) (d : Daemon) → machine_at w n ≡ Some a → machine_at (first_change (Reset n) w) n ≡ Some b → b.daemon ≡ Some d → ⊥
unfolding first_change
reset_ends w n a b d at between runs =
    let same : after_reset w a ≡ b = one_value (after_reset w a) b (machine_at (first_change (Reset n) w) n) (changed_here w n (after_reset w) a at) between in
    none_some d (ap (λ (x : Machine). x.daemon) same ∙ runs)

-- A machine does something to its holdings itself only where no daemon runs.
own_nothing_at : (e : Event) (w : World) (a b : Machine) (d : Daemon) → machine_at w (machine_of e) ≡ Some a → machine_at (first_change e w) (machine_of e) ≡ Some b
    → input_of w e ≡ None → Turned w e (machine_of e) a b → b.daemon ≡ Some d → own_effects_of w e ≡ no_effects
own_nothing_at (Pass x g) w a b d at between none turned runs = none_own w (Pass x g) (machine_at w 0) (λ y. refl)
own_nothing_at (WakeUp m) w a b d at between none turned runs = none_own w (WakeUp m) (machine_at w m) (λ y. refl)
own_nothing_at (GiveCommand m text) w a b d at between none turned runs = none_own w (GiveCommand m text) (machine_at w m) (λ y. refl)
own_nothing_at (GiveLvm m line) w a b d at between none turned runs = none_own w (GiveLvm m line) (machine_at w m) (λ y. refl)
own_nothing_at (GiveAsk m) w a b d at between none turned runs = none_own w (GiveAsk m) (machine_at w m) (λ y. refl)
own_nothing_at (Sample m c k) w a b d at between none turned runs = none_own w (Sample m c k) (machine_at w m) (λ y. refl)
own_nothing_at (Land m c) w a b d at between none turned runs = none_own w (Land m c) (machine_at w m) (λ y. refl)
own_nothing_at (Tear m c k bytes) w a b d at between none turned runs = none_own w (Tear m c k bytes) (machine_at w m) (λ y. refl)
own_nothing_at (AnswerCall m c ok) w a b d at between none turned runs = none_own w (AnswerCall m c ok) (machine_at w m) (λ y. refl)
own_nothing_at (Do m c) w a b d at between none turned runs = none_own w (Do m c) (machine_at w m) (λ y. refl)
own_nothing_at (DropWrite m c) w a b d at between none turned runs = none_own w (DropWrite m c) (machine_at w m) (λ y. refl)
own_nothing_at (Test m) w a b d at between none turned runs = none_own w (Test m) (machine_at w m) (λ y. refl)
own_nothing_at (ExitOf m p) w a b d at between none turned runs = absurd (exit_ends w m p a b d at none turned runs)
own_nothing_at (SpawnedOf m p ok) w a b d at between none turned runs = none_own w (SpawnedOf m p ok) (machine_at w m) (λ y. refl)
own_nothing_at (StartDaemon m name) w a b d at between none turned runs = none_own w (StartDaemon m name) (machine_at w m) (λ y. refl)
own_nothing_at (Crash m) w a b d at between none turned runs = none_own w (Crash m) (machine_at w m) (λ y. refl)
own_nothing_at (Reset m) w a b d at between none turned runs = absurd (reset_ends w m a b d at between runs)
own_nothing_at (Restart m) w a b d at between none turned runs = none_own w (Restart m) (machine_at w m) (λ y. refl)

own_nothing : (w : World) (e : Event) (m : ℕ) (a b : Machine) (d : Daemon) → machine_at w m ≡ Some a → machine_at (first_change e w) m ≡ Some b → m ≡ machine_of e
    → input_of w e ≡ None → Turned w e m a b → b.daemon ≡ Some d → own_effects_of w e ≡ no_effects
own_nothing w e m a b d at between same none turned runs =
    own_nothing_at e w a b d (subst (λ k. machine_at w k ≡ Some a) same at) (subst (λ k. machine_at (first_change e w) k ≡ Some b) same between) none
    (subst (λ k. Turned w e k a b) same turned) runs

-- ---- a step of the daemon

-- What a step leaves, whatever the calls and lvmlockd's locks.
abbrev stepped_machine : Machine → List Course → Locks → Effects → Entry → Stamp → Machine
stepped_machine b cs locks fx e now =
    record b {
      connections = fold after_move b.connections fx.moves;
      calls = cs;
      holdings = held_after fx b.holdings;
      daemon = option_map (with_entry e now) b.daemon;
      locks = locks;
    }

not_among : (ds : List Daemon) (d : Daemon) → AreNumbered ds → Contains ds d → d.number ≡ length ds → ⊥
not_among ds d numbered has same =
    let less : d.number < length ds = every_has (λ (x : Daemon). x.number < length ds) ds d (all_less ds numbered) has in
    absurd (omega (arith, less, same))

took_mirrors : (b : Machine) (cs : List Course) (locks : Locks) (fx : Effects) (e : Entry) (now : Stamp) (d : Daemon) → b.daemon ≡ Some d → e.effects ≡ fx
    → AreNumbered (daemons_on (stepped_machine b cs locks fx e now)) → Mirrors b → Mirrors (stepped_machine b cs locks fx e now)
took_mirrors b cs locks fx e now d runs effects numbered h =
    let c : Machine = stepped_machine b cs locks fx e now in
    let after : Daemon = with_entry e now d in
    let was : since_restart b ≡ Some d = h.running d runs in
    let up : (b.up && b.used) ≡ true = (none_if (b.up && b.used) (first_of_list (daemons_on b)) d was).0 in
    let is_running : c.daemon ≡ Some after = ap (option_map (with_entry e now)) runs in
    let daemons : daemons_on c ≡ after ∷ b.ended = daemons_are c after is_running in
    let before : AreNumbered (d ∷ b.ended) = subst AreNumbered (daemons_are b d runs) h.numbered in
    let since : since_restart c ≡ Some after = since_is c after b.ended up daemons in
    let is_after = λ (y : Daemon) (is : since_restart c ≡ Some y). some_value after y (sym since ∙ is) in
    let held : held_after fx b.holdings ≡ holdings after.trace =
    ap (held_after fx) (h.held d runs) ∙ ap (λ (x : Effects). held_after x (holdings d.trace)) (sym effects) in
    let connected : fold after_move b.connections fx.moves ≡ connections after.setting after.trace =
    ap (λ (ks : List Connection). fold after_move ks fx.moves) (h.connected d was) ∙ ap (λ (x : Effects). fold after_move (connections d.setting d.trace) x.moves) (sym effects) in
    record {
      numbered = numbered;
      running = λ y is. since ∙ sym is_running ∙ is;
      connected = λ y is. subst (λ (z : Daemon). fold after_move b.connections fx.moves ≡ connections z.setting z.trace) (is_after y is) connected;
      held = λ y is. subst (λ (z : Daemon). held_after fx b.holdings ≡ holdings z.trace) (some_value after y (sym is_running ∙ is)) held;
      left = λ y g is has. Held_on (subst (λ (z : Daemon). Contains (holdings z.trace) g) (is_after y is) (subst (λ gs. Contains gs g) held has));
      none = λ is. absurd (no_value after (since_restart c) since is);
      kept = λ y is. subst (λ (z : Daemon). resets_after b z.begun.step ≡ []) (is_after y is) (h.kept d was);
      lost = λ y has other.
          elim (contains_cases after b.ended y (subst (λ ds. Contains ds y) daemons has)) as (λ z. is_empty (resets_after b y.begun.step) ≡ false) [
            | inl same ↦ absurd (other (since ∙ ap (λ x. Some x) same))
            | inr old ↦ h.lost y (subst (λ ds. Contains ds y) (sym (daemons_are b d runs)) (contains_more d b.ended y old))
                (λ is. not_among b.ended y before.1 old (ap (λ (x : Daemon). x.number) (sym (some_value d y (sym was ∙ is))) ∙ before.0))
          ];
    }

step_machine : (now : Stamp) (i : Input) (fx : Effects) (b : Machine) → after_step now i fx b ≡ stepped_machine b (after_step now i fx b).calls (after_step now i fx b).locks fx (entry_of i fx b) now
step_machine now (Line text) fx b = refl
step_machine now (Number text) fx b = refl
step_machine now (Told n answer) fx b = refl
step_machine now Wake fx b = refl
step_machine now (Exit p) fx b = refl
step_machine now (Spawned p ok) fx b = refl

stepped_mirrors : (p : Program) (h : Header) (now : List Happening) (x : Happening) (m : ℕ) (a c : Machine) (g : Goes_on p h now x m a c) (b : Machine)
    → machine_at (first_change x.0 (world_at p h now)) m ≡ Some b → Turned (world_at p h now) x.0 m a b → Stepped (world_at p h now) x.0 g.effects m b c
    → AreNumbered (daemons_on c) → Mirrors b → Mirrors c
stepped_mirrors p h now x m a c g b between t (Elsewhere is) numbered k = subst Mirrors (sym is) k
stepped_mirrors p h now x m a c g b between t (Alone none same is) numbered k =
    let w : World = world_at p h now in
    let quiet : IsQuiet g.effects = subst IsQuiet (sym (g.own none)) (own_quiet w x.0) in
    let nothing : (d : Daemon) → b.daemon ≡ Some d → g.effects ≡ no_effects =
    λ d runs. g.own none ∙ own_nothing w x.0 m a b d g.at between same none t runs in
    let itself : own_effects_of w x.0 ≡ own_effects w x.0 a = ap (λ o. option_map_or (own_effects w x.0) o no_effects) (subst (λ n. machine_at w n ≡ Some a) same g.at) in
    let grants : GrantsOrphans b.holdings g.effects = subst (GrantsOrphans b.holdings) (sym (g.own none ∙ itself)) (own_grants w x.0 m a b t) in
    subst Mirrors (sym is) (alone_mirrors (stamp_now (next_step (first_change x.0 w)) b) g.effects b quiet grants nothing k)
stepped_mirrors p h now x m a c g b between t (Took i has same is) numbered k =
    let w : World = world_at p h now in
    let stamp : Stamp = stamp_now (next_step (first_change x.0 w)) b in
    let d = runs_then w x.0 m a b i g.may g.at same has t in
    let y : Machine = after_step stamp i g.effects b in
    let whole : c ≡ stepped_machine b y.calls y.locks g.effects (entry_of i g.effects b) stamp = is ∙ step_machine stamp i g.effects b in
    subst Mirrors (sym whole)
    (took_mirrors b y.calls y.locks g.effects (entry_of i g.effects b) stamp d.0 d.1 refl (subst (λ (z : Machine). AreNumbered (daemons_on z)) whole numbered) k)

keeps : (p : Program) (h : Header) (now : List Happening) (x : Happening) (m : ℕ) (a c : Machine) → Goes_on p h now x m a c → Mirrors a → Mirrors c
keeps p h now x m a c g was =
    let w : World = world_at p h now in
    let b : Machine = g.becomes.middle in
    let known : IsKnown w a = record { settled = g.settled; begun = begun_before p h now g.before m a g.at; resets = resets_before p h now g.before m a g.at } in
    let numbered : AreNumbered (daemons_on b) = daemons_numbered w m a b (turned_daemons w x.0 m a b g.settled g.becomes.turned) was.numbered in
    let later : AreNumbered (daemons_on c) = daemons_numbered w m b c (stepped_daemons w x.0 g.effects m b c g.becomes.stepped) numbered in
    stepped_mirrors p h now x m a c g b g.becomes.between g.becomes.turned g.becomes.stepped later
    (turned_mirrors w x.0 m a b known numbered g.becomes.turned was)

-- ---- at first

none_at_false : {A : Type 0} (t : Bool) (o : Option A) → t ≡ false → elim t as (λ x. Option A) [ false ↦ None | true ↦ o ] ≡ None
none_at_false true o is = absurd (true_is_false is)
none_at_false false o is = refl

not_here : (m : ℕ) (s : SessionLine) (ls : List SessionLine) (t : Bool) → (if t then Some s else find (λ (x : SessionLine). x.machine == m) ls) ≡ None
    → (t ≡ false) × (find (λ (x : SessionLine). x.machine == m) ls ≡ None)
not_here m s ls true none = absurd (none_some s (sym none))
not_here m s ls false none = (refl, none)

-- A machine without session lines is given no session.
none_given : (h : Header) (m : ℕ) (ls : List SessionLine) → find (λ (x : SessionLine). x.machine == m) ls ≡ None → filter_map (given_of h m) ls ≡ []
none_given h m [] none = refl
none_given h m (s ∷ ls) none =
    let q = not_here m s ls (s.machine == m) none in
    let nothing : given_of h m s ≡ None = none_at_false (s.machine == m) _ q.0 in
    ap (λ o. cons_option o (filter_map (given_of h m) ls)) nothing ∙ none_given h m ls q.1

-- The machine of a header, with this session line.
abbrev machine_of_line : Program → Layout → Header → ℕ → Option SessionLine → Machine
machine_of_line p g h m o =
    record {
      up = true;
      clock = (first_stamp h m).clock;
      kept = first_stamp h m;
      connections = map (given_connection h.timing) (filter_map (given_of h m) h.sessions);
      daemon = option_map (daemon_of_line p g h m) o;
      ended = [];
      used = is_some (option_map (daemon_of_line p g h m) o);
      calls = [];
      holdings = [];
      lingering = [];
      resets = [];
      locks = fresh_locks h;
    }

first_by : (p : Program) (g : Layout) (h : Header) (m : ℕ) (o : Option SessionLine) → find (λ (x : SessionLine). x.machine == m) h.sessions ≡ o
    → Mirrors (machine_of_line p g h m o)
first_by p g h m None is =
    record {
      numbered = tt;
      running = λ d e. absurd (none_some d e);
      connected = λ d e. absurd (none_some d e);
      held = λ d e. absurd (none_some d e);
      left = λ d k e has. absurd (none_some d e);
      none = λ e. (ap (λ (gs : List Given). map (given_connection h.timing) gs) (none_given h m h.sessions is), refl);
      kept = λ d e. absurd (none_some d e);
      lost = λ d has other. absurd (contains_none d has);
    }
first_by p g h m (Some s) is =
    let first : Daemon = daemon_of_line p g h m s in
    record {
      numbered = (refl, tt);
      running = λ d e. e;
      connected = λ d e. subst (λ (z : Daemon). map (given_connection h.timing) (filter_map (given_of h m) h.sessions) ≡ connections z.setting z.trace) (some_value first d e) refl;
      held = λ d e. subst (λ (z : Daemon). [] ≡ holdings z.trace) (some_value first d e) refl;
      left = λ d k e has. absurd (contains_none k has);
      none = λ e. absurd (no_value first (Some first) refl e);
      kept = λ d e. refl;
      lost = λ d has other.
          elim (contains_cases first [] d has) as (λ z. is_empty {A = Stamp} [] ≡ false) [
            | inl same ↦ absurd (other (ap (λ x. Some x) same))
            | inr old ↦ absurd (contains_none d old)
          ];
    }

first : (p : Program) (h : Header) (m : ℕ) → Mirrors (machine_of_header p (layout_with p.digest h.geometry) h m)
unfolding machine_of_header
first p h m = first_by p (layout_with p.digest h.geometry) h m (find (λ s. s.machine == m) h.sessions) refl

pub machines_mirror : MachinesMirror
machines_mirror p h xs run m a at = machines_keep p h (λ w n. Mirrors) (first p h) (keeps p h) xs run m a at
