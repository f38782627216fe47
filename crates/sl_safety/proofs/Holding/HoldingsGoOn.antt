-- A holding, or its follower, stands over each event until it is let go: a daemon ends none without a reason, and without a daemon only
-- exits and resets end any.
use Rattle.sl_run_law.proofs.Course.DaemonRuns.{daemon_stays, input_there, runs_before}
use Rattle.sl_run_law.proofs.Course.Daemons.{daemons_are, entry_of, step_daemon}
use Rattle.sl_run_law.proofs.Course.MachinesKeep.{Goes_on, lawful_on, was_before}
use Rattle.sl_run_law.proofs.Course.MachinesMirror.{machines_mirror}
use Rattle.sl_run_law.proofs.Course.MachineTurns.{Alone, Began, Called, Came_up, Clocked, Crashed, Elsewhere, Stays, Stepped, Tested, Took, Turned, Went_down, becomes}
use Rattle.sl_run_law.proofs.Course.MirrorsTurn.{none_if}
use Rattle.sl_run_law.proofs.Front.JoinedLists.{contains_flat, contains_left, contains_right, in_flat, placed_at}
use Rattle.sl_run_law.proofs.Front.RunsFromFronts.{daemon_later, fronts_are_lawful, last_event, number_place, run_after}
use Rattle.sl_run_law.proofs.MachineWalk.{index}
use Rattle.sl_run_law.specs.Course.Mirrors.{Held_on, IsLeft, Mirrors, Orphaned, since_restart}
use Rattle.sl_run_law.specs.DaemonsGoOn.{DaemonGoes}
use Rattle.sl_run.proofs.LawFacts.{lawful-front, orderly-front}
use Rattle.sl_run.specs.EventChanges.{after_step, first_change, happens, next_step, own_effects, with_entry}
use Rattle.sl_run.specs.HeldOverTime.{HasFollower, HoldingsGoOn, IsHeldOn, IsLineTo, LetsGo, StaysHeld}
use Rattle.sl_run.specs.Inputs.{input_at, input_of, machine_of}
use Rattle.sl_run.specs.Lawful.{Lawful, Orderly}
use Rattle.sl_run.specs.LawfulEnd.{Converted, EndReason, Exited, Given_up, LawfulEnding, Not_started, Taken_over}
use Rattle.sl_run.specs.LawfulGrant.{LawfulOrphan}
use Rattle.sl_run.specs.Refusals.{event_tests, is_shaped, may_happen}
use Rattle.sl_run.specs.Runs.{EachDaemon, Happening, own_effects_of}
use Rattle.sl_run.specs.Safety.{LawfulRun, world_at}
use Rattle.sl_run.specs.Worlds.{Daemon, Machine, Program, Stamp, World, daemons_on, first_that, machine_at, stamp_now, world_with}
use Rattle.sl_run.specs.declared.event.Event.TheVariants.{AnswerCall, Crash, Do, DropWrite, ExitOf, GiveAsk, GiveCommand, GiveLvm, Land, Pass, Reset, Restart, Sample, SpawnedOf, StartDaemon, Tear, Test, WakeUp}
use Rattle.sl_run.specs.declared.event.Event.{Event}
use Rattle.sl_run.specs.declared.event.Refusal.TheVariants.{Syntax}
use Rattle.sl_run.specs.declared.event.Refusal.{Refusal}
use Rattle.sl_run.specs.declared.header.Header.{Header}
use Rattle.sl_safety.proofs.Holding.HoldersHoldOnce.{Once, is_like, trace_once}
use Rattle.sl_safety.proofs.Holding.HoldingsAreGranted.{held_or_given}
use Rattle.sl_safety.proofs.Holding.InputsOfProcesses.{exits_by, not_started_by}
use Rattle.sl_safety.proofs.Holding.Places.{is_place, place_is}
use Rattle.sl_trace.specs.Traces.{Setting, Trace, end_of, has_orphan_of, held_after, holdings, is_ended_by, is_orphan, leaves_orphan, line_in, no_effects, no_process, orphan_of, orphans_left, same_place}
use Rattle.sl_trace.specs.declared.effects.Effects.{Effects}
use Rattle.sl_trace.specs.declared.effects.End.{End}
use Rattle.sl_trace.specs.declared.effects.Entry.{Entry}
use Rattle.sl_trace.specs.declared.effects.Grant.{Grant}
use Rattle.sl_trace.specs.declared.input.Input.TheVariants.{Answer as Told, Exit, Line, Number, Spawned, Wake}
use Rattle.sl_trace.specs.declared.input.Input.{Input}
use Rattle.sl_words.proofs.CaseLaws.{false_is_true, is_false, none_some, one_value, true_is_false, true_or_false}
use Rattle.sl_words.proofs.Lists.{any_found, contains_cases, contains_first, contains_map, contains_none, got_inside, in_map, kept, kept_inside, next_before}
use Rattle.sl_words.proofs.WordLaws.{and_true}
use Rattle.sl_words.specs.Words.{first_of_list}
use Rattle.std.proofs.Common.{ap, inl, inr, refl, subst, sym, ◌∙◌}
use Rattle.std.proofs.lemmas.Bool.{and_from, eq-eqb, eqb-true}
use Rattle.std.specs.Option.{option_map_or}
use Rattle.std.specs.Prelude.{Bool, Contains, IsTrue, List, None, Option, Some, [], false, filter, is_none, map, not, option_and_then, option_map, suc, true, ℕ, ◌&&◌, ◌++◌, ◌-◌, ◌==◌, ◌∷◌, ◌≡◌, ◌⊎◌}

-- ---- orphans are persistent

-- In a trace ..
orphans_persist : (st : Setting) (es : Trace) → Orderly st es → (g : Grant) → Contains (holdings es) g → is_orphan g ≡ true → g.persistent ≡ true
orphans_persist st [] law g there orphan = absurd (contains_none g there)
orphans_persist st (e ∷ past) law g there orphan =
    by (λ old. orphans_persist st past (orderly-front st (e ∷ []) past law) g old orphan) (held_or_given e past g there)
  where
    by : (Contains (holdings past) g → g.persistent ≡ true) → Contains (holdings past) g ⊎ Contains e.effects.grants g → g.persistent ≡ true
    by rest (inl old) = rest old
    by rest (inr new) = let o : LawfulOrphan past e g = law.granting.0.orphans g new orphan in ap (λ (x : Grant). x.persistent) o.becomes ∙ o.persistent

-- .. and on a machine.
orphans_on : (p : Program) (h : Header) (xs : List Happening) → LawfulRun p h xs → (m : ℕ) (a : Machine) → machine_at (world_at p h xs) m ≡ Some a → (g : Grant)
    → Contains a.holdings g → is_orphan g ≡ true → g.persistent ≡ true
orphans_on p h xs run m a at g has orphan = by (since_restart a) refl where
  mirrors : Mirrors a
  mirrors = machines_mirror p h xs run m a at

  left : (d : Daemon) → Orderly d.setting d.trace → IsLeft (holdings d.trace) a.holdings g → g.persistent ≡ true
  left d law (Held_on there) = orphans_persist d.setting d.trace law g there orphan
  left d law (Orphaned x there persistent is gone) = ap (λ (y : Grant). y.persistent) is ∙ persistent

  by : (o : Option Daemon) → since_restart a ≡ o → g.persistent ≡ true
  by None is = absurd (contains_none g (subst (λ (gs : List Grant). Contains gs g) (mirrors.none is).1 has))
  by (Some d) is =
      let there = got_inside (daemons_on a) 0 d (none_if (a.up && a.used) (first_of_list (daemons_on a)) d is).1 in
      left d (lawful_on (world_at p h xs) m a d run.lawful at there) (mirrors.left d g is has)

-- ---- over one event

-- What becomes of a holding over an event, on its machine after it.
abbrev GoesOver : World → Event → ℕ → Grant → Machine → Type 0
GoesOver w e m g c =
    LetsGo w e m g ⊎ ((h : Grant) × IsTrue (same_place h.path h.offset g.path g.offset) × HasFollower w e m g h × Contains c.holdings h)

at_itself : (g : Grant) → same_place g.path g.offset g.path g.offset ≡ true
at_itself g = is_place g.path g.offset g.path g.offset refl refl

-- It stands.
still : (w : World) (e : Event) (m : ℕ) (g : Grant) (c : Machine) → Contains c.holdings g → GoesOver w e m g c
still w e m g c there = inr (g, at_itself g, inl (refl, refl), there)

abbrev stays : Effects → Grant → Bool
stays fx g = not (is_ended_by fx.ends g)

not_ended : (fx : Effects) (held : List Grant) (g : Grant) → Contains held g → is_ended_by fx.ends g ≡ false → Contains (held_after fx held) g
not_ended fx held g has never = contains_left (filter (stays fx) held) fx.grants g (kept (stays fx) held g (ap not never) has)

is_granted : (fx : Effects) (held : List Grant) (g : Grant) → Contains fx.grants g → Contains (held_after fx held) g
is_granted fx held g new = contains_right (filter (stays fx) held) fx.grants g new

-- What stands before the step stands, but at a reset.
kept_then : (w : World) (e : Event) (m : ℕ) (a b : Machine) → Turned w e m a b → (b.holdings ≡ a.holdings) ⊎ (e ≡ Reset m)
kept_then w e m a b (Stays is) = inl (ap (λ (x : Machine). x.holdings) is)
kept_then w e m a b (Clocked n is) = inl (ap (λ (x : Machine). x.holdings) is)
kept_then w e m a b (Called n f g flight keeps is) = inl (ap (λ (x : Machine). x.holdings) is)
kept_then w e m a b (Tested s is) = inl (ap (λ (x : Machine). x.holdings) is)
kept_then w e m a b (Began name event up used fresh is) = inl (ap (λ (x : Machine). x.holdings) is)
kept_then w e m a b (Crashed event is) = inl (ap (λ (x : Machine). x.holdings) is)
kept_then w e m a b (Went_down event up is) = inr event
kept_then w e m a b (Came_up event down is) = inl (ap (λ (x : Machine). x.holdings) is)

-- ---- without a daemon

-- What the machine itself does: nothing, or what an exit or a reset asks.
data OwnDoing (w : World) (e : Event) (a : Machine) : Type 0 where
  Does_nothing : own_effects w e a ≡ no_effects → OwnDoing w e a
  At_exit : (p : ℕ) → e ≡ ExitOf (machine_of e) p → own_effects w e a ≡ own_effects w (ExitOf (machine_of e) p) a → OwnDoing w e a
  At_reset : e ≡ Reset (machine_of e) → OwnDoing w e a

own_doing : (w : World) (e : Event) (a : Machine) → OwnDoing w e a
own_doing w (ExitOf n p) a = At_exit p refl refl
own_doing w (Reset n) a = At_reset refl
own_doing w (Pass d growths) a = Does_nothing refl
own_doing w (WakeUp n) a = Does_nothing refl
own_doing w (GiveCommand n text) a = Does_nothing refl
own_doing w (GiveLvm n line) a = Does_nothing refl
own_doing w (GiveAsk n) a = Does_nothing refl
own_doing w (Sample n c k) a = Does_nothing refl
own_doing w (Land n c) a = Does_nothing refl
own_doing w (Tear n c k bytes) a = Does_nothing refl
own_doing w (AnswerCall n c ok) a = Does_nothing refl
own_doing w (Do n c) a = Does_nothing refl
own_doing w (DropWrite n c) a = Does_nothing refl
own_doing w (Test n) a = Does_nothing refl
own_doing w (SpawnedOf n p ok) a = Does_nothing refl
own_doing w (StartDaemon n name) a = Does_nothing refl
own_doing w (Crash n) a = Does_nothing refl
own_doing w (Restart n) a = Does_nothing refl

shaped_by : (t : Bool) (ts : List (Bool × Refusal)) → is_none (first_that ((not t, Syntax) ∷ ts)) ≡ true → t ≡ true
shaped_by true ts h = refl
shaped_by false ts h = absurd (false_is_true h)

-- A process that exits has a number.
exits_some : (w : World) (m p : ℕ) → may_happen w (ExitOf m p) ≡ true → p ≡ no_process → ⊥
exits_some w m p may is =
    let shaped : is_shaped w (ExitOf m p) ≡ true = shaped_by (is_shaped w (ExitOf m p)) (event_tests w (ExitOf m p)) may in
    false_is_true (subst (λ n. is_shaped w (ExitOf m n) ≡ true) is shaped)

-- The holdings of a process end.
abbrev ends_at : ℕ → List Grant → List End
ends_at p held = map end_of (filter (λ (g : Grant). g.process == p) held)

abbrev exit_effects : ℕ → List Grant → Effects
exit_effects p held = record no_effects { ends = ends_at p held; grants = orphans_left p held }

-- Of others none ends.
others_stay : (p : ℕ) (held : List Grant) (g : Grant) → (g.process ≡ p → ⊥) → is_ended_by (ends_at p held) g ≡ false
others_stay p held g other =
    is_false (is_ended_by (ends_at p held) g) (λ h.
    let x = any_found (λ (e : End). e.process == g.process && same_place e.path e.offset g.path g.offset) (ends_at p held) h in
    let k = in_map end_of (filter (λ (y : Grant). y.process == p) held) x.0 x.1 in
    let mine = kept_inside (λ (y : Grant). y.process == p) held k.0 k.1 in
    let same = and_true (x.0.process == g.process) (same_place x.0.path x.0.offset g.path g.offset) x.2 in
    other (sym (eqb-true x.0.process g.process same.0) ∙ ap (λ (y : End). y.process) (sym k.2) ∙ eqb-true k.0.process p mine.1))

-- At an exit. An orphan that is there already stays for the holding.
leaves_it : (w : World) (m p : ℕ) (held : List Grant) (g : Grant) (c : Machine) → may_happen w (ExitOf m p) ≡ true → Contains held g → g.process ≡ p
    → g.persistent ≡ true → ((k : Grant) → Contains held k → is_orphan k ≡ true → k.persistent ≡ true)
    → c.holdings ≡ held_after (exit_effects p held) held → GoesOver w (ExitOf m p) m g c
leaves_it w m p held g c may has own persistent orphans after = by (true_or_false (has_orphan_of held g)) where
  fx : Effects
  fx = exit_effects p held

  event : ExitOf m p ≡ ExitOf m g.process
  event = ap (λ n. ExitOf m n) (sym own)

  follows : (h : Grant) → same_place h.path h.offset g.path g.offset ≡ true → is_orphan h ≡ true → h.persistent ≡ true → Contains (held_after fx held) h
      → GoesOver w (ExitOf m p) m g c
  follows h place orphan keeps there = inr (h, place, inr (inl (event, persistent, orphan, keeps)), subst (λ (gs : List Grant). Contains gs h) (sym after) there)

  by : (has_orphan_of held g ≡ true) ⊎ (has_orphan_of held g ≡ false) → GoesOver w (ExitOf m p) m g c
  by (inl some) =
      let k = any_found (λ (h : Grant). is_orphan h && same_place h.path h.offset g.path g.offset) held some in
      let both = and_true (is_orphan k.0) (same_place k.0.path k.0.offset g.path g.offset) k.2 in
      let other : k.0.process ≡ p → ⊥ = λ same. exits_some w m p may (sym same ∙ eqb-true k.0.process no_process both.0) in
      follows k.0 both.1 both.0 (orphans k.0 k.1 both.0) (not_ended fx held k.0 k.1 (others_stay p held k.0 other))
  by (inr none) =
      let leaves : leaves_orphan held p g ≡ true =
      and_from (g.process == p && g.persistent) (not (has_orphan_of held g)) (and_from (g.process == p) g.persistent (eq-eqb g.process p own) persistent) (ap not none) in
      follows (orphan_of g) (at_itself g) refl persistent
      (is_granted fx held (orphan_of g) (contains_map orphan_of (filter (leaves_orphan held p) held) g (kept (leaves_orphan held p) held g leaves has)))

exit_over : (w : World) (m p : ℕ) (a : Machine) (g : Grant) (c : Machine) → may_happen w (ExitOf m p) ≡ true → Contains a.holdings g
    → ((k : Grant) → Contains a.holdings k → is_orphan k ≡ true → k.persistent ≡ true)
    → c.holdings ≡ held_after (own_effects w (ExitOf m p) a) a.holdings → GoesOver w (ExitOf m p) m g c
exit_over w m p a g c may has orphans after = by (true_or_false (g.process == p)) (true_or_false g.persistent) where
  by : ((g.process == p) ≡ true) ⊎ ((g.process == p) ≡ false) → (g.persistent ≡ true) ⊎ (g.persistent ≡ false) → GoesOver w (ExitOf m p) m g c
  by (inl own) (inl persistent) = leaves_it w m p a.holdings g c may has (eqb-true g.process p own) persistent orphans after
  by (inl own) (inr passing) = inl (inr (inr (inr (passing, ap (λ n. ExitOf m n) (sym (eqb-true g.process p own))))))
  by (inr other) b =
      still w (ExitOf m p) m g c
      (subst (λ (gs : List Grant). Contains gs g) (sym after)
      (not_ended (own_effects w (ExitOf m p) a) a.holdings g has (others_stay p a.holdings g (λ is. true_is_false (sym (eq-eqb g.process p is) ∙ other)))))

alone_over : (w : World) (e : Event) (m : ℕ) (a : Machine) (g : Grant) (c : Machine) → m ≡ machine_of e → may_happen w e ≡ true → Contains a.holdings g
    → ((k : Grant) → Contains a.holdings k → is_orphan k ≡ true → k.persistent ≡ true)
    → c.holdings ≡ held_after (own_effects w e a) a.holdings → GoesOver w e m g c
alone_over w e m a g c same may has orphans after = by (own_doing w e a) where
  by : OwnDoing w e a → GoesOver w e m g c
  by (Does_nothing is) =
      still w e m g c
      (subst (λ (gs : List Grant). Contains gs g) (sym (after ∙ ap (λ (fx : Effects). held_after fx a.holdings) is)) (not_ended no_effects a.holdings g has refl))
  by (At_reset is) = inl (inr (inl (is ∙ ap (λ n. Reset n) (sym same))))
  by (At_exit p is does) =
      let event : e ≡ ExitOf m p = is ∙ ap (λ n. ExitOf n p) (sym same) in
      subst (λ (x : Event). GoesOver w x m g c) (sym event)
      (exit_over w m p a g c (subst (λ (x : Event). may_happen w x ≡ true) event may) has orphans
      (after ∙ ap (λ (x : Event). held_after (own_effects w x a) a.holdings) event))

-- ---- with a daemon

-- Two of one process and one place are one.
one_of : (gs : List Grant) (g h : Grant) → Once gs → Contains gs g → Contains gs h → is_like g h ≡ true → is_like h g ≡ true → g ≡ h
one_of [] g h once a b is turned = absurd (contains_none g a)
one_of (x ∷ gs) g h once a b is turned = by (λ c d. one_of gs g h once.1 c d is turned) (contains_cases x gs g a) (contains_cases x gs h b) where
  by : (Contains gs g → Contains gs h → g ≡ h) → (x ≡ g) ⊎ Contains gs g → (x ≡ h) ⊎ Contains gs h → g ≡ h
  by rest (inl c) (inl d) = sym c ∙ d
  by rest (inl c) (inr d) = absurd (once.0 h d (subst (λ (y : Grant). is_like y h ≡ true) (sym c) is))
  by rest (inr c) (inl d) = absurd (once.0 g c (subst (λ (y : Grant). is_like y g ≡ true) (sym d) turned))
  by rest (inr c) (inr d) = rest c d

-- The reason for which it ended.
ended_for : (st : Setting) (past : Trace) (e : Entry) (g : Grant) → Orderly st (e ∷ past) → Contains (holdings past) g → is_ended_by e.effects.ends g ≡ true → EndReason st e g
ended_for st past e g law has ended =
    let x = any_found (λ (y : End). y.process == g.process && same_place y.path y.offset g.path g.offset) e.effects.ends ended in
    let l : LawfulEnding st past e x.0 = law.ends.0.each x.0 x.1 in
    let k : Grant = l.holding in
    let both = and_true (x.0.process == g.process) (same_place x.0.path x.0.offset g.path g.offset) x.2 in
    let place = place_is x.0.path x.0.offset g.path g.offset both.1 in
    let process : k.process ≡ g.process = ap (λ (y : End). y.process) l.told ∙ eqb-true x.0.process g.process both.0 in
    let path : k.path ≡ g.path = ap (λ (y : End). y.path) l.told ∙ place.0 in
    let offset : k.offset ≡ g.offset = ap (λ (y : End). y.offset) l.told ∙ place.1 in
    let like : is_like g k ≡ true =
    and_from (k.process == g.process) (same_place k.path k.offset g.path g.offset) (eq-eqb k.process g.process process) (is_place k.path k.offset g.path g.offset path offset) in
    let turned : is_like k g ≡ true =
    and_from (g.process == k.process) (same_place g.path g.offset k.path k.offset) (eq-eqb g.process k.process (sym process))
    (is_place g.path g.offset k.path k.offset (sym path) (sym offset)) in
    subst (EndReason st e) (sym (one_of (holdings past) g k (trace_once st past (orderly-front st (e ∷ []) past law)) has l.held like turned)) l.reason

-- What is known of the step of a daemon on its machine.
record DaemonSteps (w : World) (e : Event) (m : ℕ) (d : Daemon) (i : Input) (x : Entry) (c : Machine) : Type 0 where
  machine : Machine
  at : machine_at w m ≡ Some machine
  runs : machine.daemon ≡ Some d
  here : machine_of e ≡ m
  input : input_of w e ≡ Some i
  takes : x.input ≡ i
  lawful : Lawful d.setting (x ∷ d.trace)
  holds : machine.holdings ≡ holdings d.trace
  after : c.holdings ≡ holdings (x ∷ d.trace)

line_to : (w : World) (e : Event) (m : ℕ) (d : Daemon) (i : Input) (x : Entry) (c : Machine) (s : DaemonSteps w e m d i x c) (text : List ℕ)
    → line_in x.input ≡ Some text → IsLineTo w e m d text
line_to w e m d i x c s text is = (s.here, ap (λ o. option_and_then line_in o) s.input ∙ ap line_in (sym s.takes) ∙ is, (s.machine, s.at, s.runs))

ended_over : (w : World) (e : Event) (m : ℕ) (d : Daemon) (i : Input) (x : Entry) (c : Machine) → DaemonSteps w e m d i x c → (g : Grant) → Contains (holdings d.trace) g
    → EndReason d.setting x g → GoesOver w e m g c
ended_over w e m d i x c s g has (Exited owned is) =
    let there = input_there w e m s.machine i s.at (sym s.here) s.input in
    let event : e ≡ ExitOf m g.process =
    exits_by e w s.machine g.process (there ∙ ap (λ (y : Input). Some y) (sym s.takes ∙ is)) ∙ ap (λ n. ExitOf n g.process) s.here in
    elim (true_or_false g.persistent) as (λ z. GoesOver w e m g c) [
      | inr passing ↦ inl (inr (inr (inr (passing, event))))
      | inl persistent ↦
          let some = s.lawful.exits.0.kept g has owned is persistent in
          let k = any_found (λ (h : Grant). is_orphan h && same_place h.path h.offset g.path g.offset) (holdings (x ∷ d.trace)) some in
          let both = and_true (is_orphan k.0) (same_place k.0.path k.0.offset g.path g.offset) k.2 in
          inr
          (k.0, both.1, inr (inl (event, persistent, both.0, orphans_persist d.setting (x ∷ d.trace) s.lawful.orderly k.0 k.1 both.0)), subst (λ (gs : List Grant). Contains gs k.0) (sym s.after) k.1)
    ]
ended_over w e m d i x c s g has (Not_started is) =
    let there = input_there w e m s.machine i s.at (sym s.here) s.input in
    inl
    (inr (inr (inl
    (not_started_by e w s.machine g.process (there ∙ ap (λ (y : Input). Some y) (sym s.takes ∙ is)) ∙ ap (λ n. SpawnedOf n g.process false) s.here))))
ended_over w e m d i x c s g has (Given_up text line gives) = inl (inl (d, text, line_to w e m d i x c s text line, gives))
ended_over w e m d i x c s g has (Converted h new place process persistent) =
    inr (h, place, inl (process, persistent), subst (λ (gs : List Grant). Contains gs h) (sym s.after) (is_granted x.effects (holdings d.trace) h new))
ended_over w e m d i x c s g has (Taken_over h new place text line takes) =
    inr
    (h, place, inr (inr (d, text, line_to w e m d i x c s text line, takes)), subst (λ (gs : List Grant). Contains gs h) (sym s.after) (is_granted x.effects (holdings d.trace) h new))

step_over : (w : World) (e : Event) (m : ℕ) (d : Daemon) (i : Input) (x : Entry) (c : Machine) → DaemonSteps w e m d i x c → (g : Grant) → Contains (holdings d.trace) g
    → GoesOver w e m g c
step_over w e m d i x c s g has =
    elim (true_or_false (is_ended_by x.effects.ends g)) as (λ z. GoesOver w e m g c) [
      | inl ended ↦ ended_over w e m d i x c s g has (ended_for d.setting d.trace x g s.lawful.orderly has ended)
      | inr none ↦ still w e m g c (subst (λ (gs : List Grant). Contains gs g) (sym s.after) (not_ended x.effects (holdings d.trace) g has none))
    ]

-- ---- each event

step_holdings : (now : Stamp) (i : Input) (fx : Effects) (b : Machine) → (after_step now i fx b).holdings ≡ held_after fx b.holdings
step_holdings now (Line text) fx b = refl
step_holdings now (Number line) fx b = refl
step_holdings now (Told n answer) fx b = refl
step_holdings now Wake fx b = refl
step_holdings now (Exit p) fx b = refl
step_holdings now (Spawned p ok) fx b = refl

-- A machine's daemon is one of the world's.
said_of : (w : World) (m : ℕ) (a : Machine) (d : Daemon) → EachDaemon Lawful w → machine_at w m ≡ Some a → Contains (daemons_on a) d → Lawful d.setting d.trace
said_of w m a d each at has = each d (in_flat daemons_on w.machines a d (got_inside w.machines (m - 1) a (index w m a at).1) has)

reset_gives_none : (w : World) (e : Event) (m : ℕ) (i : Input) → e ≡ Reset m → input_of w e ≡ Some i → ⊥
reset_gives_none w e m i is has = by (machine_at w m) (subst (λ (x : Event). input_of w x ≡ Some i) is has) where
  by : (o : Option Machine) → option_and_then (input_at w (Reset m)) o ≡ Some i → ⊥
  by None h = none_some i h
  by (Some a) h = none_some i h

goes_over : (p : Program) (h : Header) (now : List Happening) (x : Happening) (m : ℕ) (a c : Machine) → Goes_on p h now x m a c
    → EachDaemon Lawful (world_at p h (now ++ x ∷ [])) → (g : Grant) → Contains a.holdings g → GoesOver (world_at p h now) x.0 m g c
goes_over p h now x m a c go each g has = over (kept_then w e m a b go.becomes.turned) go.becomes.stepped where
  w : World
  w = world_at p h now

  e : Event
  e = x.0

  b : Machine
  b = go.becomes.middle

  alone : input_of w e ≡ None → m ≡ machine_of e → b.holdings ≡ a.holdings → c.holdings ≡ held_after go.effects b.holdings → GoesOver w e m g c
  alone none same kept after =
      let itself : own_effects_of w e ≡ own_effects w e a = ap (λ o. option_map_or (own_effects w e) o no_effects) (subst (λ n. machine_at w n ≡ Some a) same go.at) in
      alone_over w e m a g c same go.may has (orphans_on p h now go.before m a go.at)
      (after ∙ ap (held_after go.effects) kept ∙ ap (λ (fx : Effects). held_after fx a.holdings) (go.own none ∙ itself))

  took : (i : Input) → input_of w e ≡ Some i → m ≡ machine_of e → b.holdings ≡ a.holdings
      → c ≡ after_step (stamp_now (next_step (first_change e w)) b) i go.effects b → GoesOver w e m g c
  took i input same kept is =
      let stamp : Stamp = stamp_now (next_step (first_change e w)) b in
      let run = runs_before w e m a i go.may go.at same input in
      let d : Daemon = run.0 in
      let entry : Entry = entry_of i go.effects b in
      let there : b.daemon ≡ Some d = daemon_stays w e m a b i input go.becomes.turned ∙ run.1 in
      let later : c.daemon ≡ Some (with_entry entry stamp d) =
      ap (λ (y : Machine). y.daemon) is ∙ step_daemon stamp i go.effects b ∙ ap (option_map (with_entry entry stamp)) there in
      let one : Contains (daemons_on c) (with_entry entry stamp d) =
      subst (λ (ds : List Daemon). Contains ds (with_entry entry stamp d)) (sym (daemons_are c (with_entry entry stamp d) later))
      (contains_first (with_entry entry stamp d) c.ended) in
      let holds : a.holdings ≡ holdings d.trace = (machines_mirror p h now go.before m a go.at).held d run.1 in
      step_over w e m d i entry c
      (record {
        machine = a;
        at = go.at;
        runs = run.1;
        here = sym same;
        input = input;
        takes = refl;
        lawful = said_of (world_at p h (now ++ x ∷ [])) m c (with_entry entry stamp d) each go.later one;
        holds = holds;
        after = ap (λ (y : Machine). y.holdings) is ∙ step_holdings stamp i go.effects b ∙ ap (held_after go.effects) (kept ∙ holds);
      }) g (subst (λ (gs : List Grant). Contains gs g) holds has)

  over : (b.holdings ≡ a.holdings) ⊎ (e ≡ Reset m) → Stepped w e go.effects m b c → GoesOver w e m g c
  over (inr is) stepped = inl (inr (inl is))
  over (inl kept) (Elsewhere is) = still w e m g c (subst (λ (gs : List Grant). Contains gs g) (sym (ap (λ (y : Machine). y.holdings) is ∙ kept)) has)
  over (inl kept) (Alone none same is) = alone none same kept (ap (λ (y : Machine). y.holdings) is)
  over (inl kept) (Took i input same is) = took i input same kept is

-- ---- all events

-- The traces of a front's daemons are lawful.
lawful_then : (d e : Daemon) → DaemonGoes d e → Lawful e.setting e.trace → Lawful d.setting d.trace
lawful_then d e g law = subst (λ st. Lawful st d.trace) g.setting (lawful-front e.setting g.trace.newer d.trace (subst (λ t. Lawful e.setting t) g.trace.same law))

front_lawful : (p : Program) (h : Header) (now rest : List Happening) → LawfulRun p h (now ++ rest) → EachDaemon Lawful (world_at p h (now ++ rest)) → EachDaemon Lawful (world_at p h now)
front_lawful p h now rest run each d has =
    let w : World = world_at p h now in
    let on = contains_flat daemons_on w.machines d has in
    let place = placed_at w.machines on.0 on.1 in
    let later = daemon_later p h now rest run.is_run (suc place.0) on.0 d (number_place w place.0 on.0 place.1) on.2 in
    lawful_then d later.daemon later.goes (said_of (world_at p h (now ++ rest)) (suc place.0) later.machine later.daemon each later.at later.has)

-- A machine goes on over the next event.
goes_from : (p : Program) (h : Header) (now : List Happening) (x : Happening) → LawfulRun p h (now ++ x ∷ []) → (m : ℕ) (a : Machine)
    → machine_at (world_at p h now) m ≡ Some a → (c : Machine) × Goes_on p h now x m a c
goes_from p h now x run m a at =
    let last = last_event p h now x run in
    let q = becomes (world_at p h now) x.0 last.effects last.may m a at in
    let later : machine_at (world_at p h (now ++ x ∷ [])) m ≡ Some q.0 = ap (λ v. machine_at v m) last.after ∙ q.1 in
    let was = was_before p h now x run m q.0 later in
    (q.0, subst (λ b. Goes_on p h now x m b q.0) (one_value was.0 a (machine_at (world_at p h now) m) was.1.at at) was.1)

stays_by : (p : Program) (h : Header) (now rest : List Happening) → LawfulRun p h (now ++ rest) → EachDaemon Lawful (world_at p h (now ++ rest)) → (m : ℕ) (g : Grant)
    → IsHeldOn (world_at p h now) m g → StaysHeld (world_at p h now) rest m g
stays_by p h now [] run each m g held = held
stays_by p h now (x ∷ rest) run each m g held =
    (held, by (λ k there. stays_by p h (now ++ x ∷ []) rest whole all m k (c, goes.later, there)) (goes_over p h now x m held.0 c goes lawful g held.2))
  where
    apart : (now ++ x ∷ []) ++ rest ≡ now ++ x ∷ rest
    apart = next_before now x rest

    whole : LawfulRun p h ((now ++ x ∷ []) ++ rest)
    whole = subst (λ (ys : List Happening). LawfulRun p h ys) (sym apart) run

    all : EachDaemon Lawful (world_at p h ((now ++ x ∷ []) ++ rest))
    all = subst (λ (ys : List Happening). EachDaemon Lawful (world_at p h ys)) (sym apart) each

    lawful : EachDaemon Lawful (world_at p h (now ++ x ∷ []))
    lawful = front_lawful p h (now ++ x ∷ []) rest whole all

    next : world_at p h (now ++ x ∷ []) ≡ happens (world_at p h now) x.0 x.1
    next = run_after (world_with p h) now (x ∷ [])

    goes_to : (c : Machine) × Goes_on p h now x m held.0 c
    goes_to = goes_from p h now x (fronts_are_lawful p h (now ++ x ∷ []) rest whole) m held.0 held.1

    c : Machine
    c = goes_to.0

    goes : Goes_on p h now x m held.0 c
    goes = goes_to.1

    by : ((k : Grant) → Contains c.holdings k → StaysHeld (world_at p h (now ++ x ∷ [])) rest m k) → GoesOver (world_at p h now) x.0 m g c
        → LetsGo (world_at p h now) x.0 m g
        ⊎ ((k : Grant) × IsTrue (same_place k.path k.offset g.path g.offset) × HasFollower (world_at p h now) x.0 m g k × StaysHeld (happens (world_at p h now) x.0 x.1) rest m k)
    by on (inl gone) = inl gone
    by on (inr (k, place, follows, there)) = inr (k, place, follows, subst (λ v. StaysHeld v rest m k) next (on k there))

pub holdings_go_on : HoldingsGoOn
holdings_go_on p h before rest run each m g held = stays_by p h before rest run each m g held
