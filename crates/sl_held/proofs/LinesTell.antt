-- The lines of a run leave what is held: event by event.
use Rattle.sl_area.specs.AreaSizes.{layout_with}
use Rattle.sl_held.proofs.HoldingsMove.{TellEnds, by_name, by_place}
use Rattle.sl_held.proofs.StepsTold.{event_away, event_nowhere, event_own, lines_after}
use Rattle.sl_held.specs.HeldLaws.{HoldsOnce, IsSpelt, LinesTellHoldings, NamesTell}
use Rattle.sl_held.specs.HeldRows.{held_on, holdings_on, row_of}
use Rattle.sl_picture.specs.HeldBars.{Row, after_lines}
use Rattle.sl_report.specs.Reports.{event_lines, run_lines}
use Rattle.sl_run.specs.Conflicts.{holding, world_holdings}
use Rattle.sl_run.specs.EventChanges.{after_effects, after_step, ends_of, first_change, happens, next_step, own_effects, take_step, with_entry}
use Rattle.sl_run.specs.Inputs.{input_at, input_of, machine_of}
use Rattle.sl_run.specs.Lawful.{Orderly}
use Rattle.sl_run.specs.LawfulEnd.{LawfulEnding}
use Rattle.sl_run.specs.Refusals.{may_happen}
use Rattle.sl_run.specs.Runs.{AfterEachFront, Happening}
use Rattle.sl_run.specs.Safety.{LawfulRun, world_at}
use Rattle.sl_text.specs.Names.{is_name}
use Rattle.sl_run.specs.Worlds.{Daemon, Machine, Program, Stamp, World, daemons_on, machine_at, machine_of_header, stamp_now, world_with}
use Rattle.sl_run.specs.declared.event.Event.TheVariants.{AnswerCall, Crash, Do, DropWrite, ExitOf, GiveAsk, GiveCommand, GiveLvm, Land, Pass, Reset, Restart, Sample, SpawnedOf, StartDaemon, Tear, Test, WakeUp}
use Rattle.sl_run.specs.declared.event.Event.{Event}
use Rattle.sl_run.specs.declared.header.Header.{Header}
use Rattle.sl_run_law.proofs.Course.DaemonRuns.{daemon_stays, runs_before}
use Rattle.sl_run_law.proofs.Course.Daemons.{daemons_are, entry_of, step_daemon}
use Rattle.sl_run_law.proofs.Course.MachineTurns.{Alone, Began, Called, Came_up, Clocked, Crashed, Elsewhere, Stays, Stepped, Tested, Took, Turned, Went_down, becomes}
use Rattle.sl_run_law.proofs.Course.MachinesKeep.{header_machine, lawful_on, was_before}
use Rattle.sl_run_law.proofs.Course.MachinesMirror.{machines_mirror}
use Rattle.sl_run_law.proofs.Course.OneMachineChanges.{changed_here}
use Rattle.sl_run_law.proofs.Front.JoinedLists.{contains_right, in_flat}
use Rattle.sl_run_law.proofs.Front.RunsFromFronts.{fronts_are_lawful, one_step, run_after, run_rest}
use Rattle.sl_run_law.proofs.MachineWalk.{index, number_within}
use Rattle.sl_run_law.proofs.WorldsGoOn.{run_goes}
use Rattle.sl_run_law.specs.Front.LawfulFronts.{HasOneStep}
use Rattle.sl_trace.specs.EffectTexts.{of_resource}
use Rattle.sl_trace.specs.Traces.{end_of, held_after, held_by, holdings, is_ended_by, no_effects, same_place}
use Rattle.sl_trace.specs.declared.effects.Effects.{Effects}
use Rattle.sl_trace.specs.declared.effects.End.{End}
use Rattle.sl_trace.specs.declared.effects.Entry.{Entry}
use Rattle.sl_trace.specs.declared.effects.Grant.{Grant}
use Rattle.sl_trace.specs.declared.input.Input.TheVariants.{Answer as Told, Exit, Line, Number, Spawned, Wake}
use Rattle.sl_trace.specs.declared.input.Input.{Input}
use Rattle.sl_words.proofs.CaseLaws.{none_some, some_value, true_is_false, true_or_false}
use Rattle.sl_words.proofs.Lists.{any_of, contains_cases, contains_first, contains_map, contains_more, contains_none, in_map, kept, kept_inside, next_before}
use Rattle.sl_words.proofs.WordLaws.{and_true}
use Rattle.std.proofs.Common.{ap, arith, inl, inr, refl, subst, sym, ◌∙◌}
use Rattle.std.proofs.lemmas.Bool.{and_from, eq-eqb, eqb-true}
use Rattle.std.proofs.lemmas.List.FromFn.{length-range_with_len}
use Rattle.std.proofs.lemmas.List.{append-nil, length-map}
use Rattle.std.proofs.lemmas.Slice.Eq.{bytes_eq-Decides}
use Rattle.std.specs.List.{enumerate_from, range_with_len}
use Rattle.std.specs.Option.{option_map_or}
use Rattle.std.specs.Prelude.{Bool, Contains, List, None, Option, Some, bytes_eq, cond, false, filter, length, map, not, option_and_then, option_map, slice_get, suc, true, zero, [], ℕ, ◌&&◌, ◌++◌, ◌+◌, ◌-◌, ◌<◌, ◌==◌, ◌^◌, ◌∷◌, ◌≡◌, ◌≤◌, ◌⊎◌}

-- ---- holdings of the world

numbered_at : {A : Type 0} (k : ℕ) (xs : List A) (i : ℕ) (a : A) → slice_get xs i ≡ Some a → Contains (enumerate_from k xs) (k + i, a)
numbered_at k [] i a at = absurd (none_some a at)
numbered_at {A} k (x ∷ xs) zero a at =
    let same : k ≡ k + 0 = omega arith in
    subst (λ n. Contains (enumerate_from k (x ∷ xs)) (n, a)) same
    (subst (λ (y : A). Contains (enumerate_from k (x ∷ xs)) (k, y)) (some_value x a at) (contains_first (k, x) (enumerate_from (k + 1) xs)))
numbered_at k (x ∷ xs) (suc i) a at =
    let same : (k + 1) + i ≡ k + suc i = omega arith in
    subst (λ n. Contains (enumerate_from k (x ∷ xs)) (n, a)) same
    (contains_more (k, x) (enumerate_from (k + 1) xs) ((k + 1) + i, a) (numbered_at (k + 1) xs i a at))

pub in_world : (w : World) (m : ℕ) (a : Machine) (g : Grant) → machine_at w m ≡ Some a → Contains a.holdings g → Contains (world_holdings w) (holding m g)
in_world w m a g at has =
    in_flat (λ (p : ℕ × Machine). map (holding p.0) p.1.holdings) (enumerate_from 1 w.machines) (m, a) (holding m g)
    (subst (λ n. Contains (enumerate_from 1 w.machines) (n, a)) (number_within w m a at).1 (numbered_at 1 w.machines (m - 1) a (index w m a at).1))
    (contains_map (holding m) a.holdings g has)

-- A machine's number is small.
few_machines : (p : Program) (h : Header) (xs : List Happening) → LawfulRun p h xs → (m : ℕ) (a : Machine) → machine_at (world_at p h xs) m ≡ Some a → m < 2 ^ 64
few_machines p h xs run m a at =
    let w : World = world_with p h in
    let first : length w.machines ≡ h.machines = length-map (range_with_len 1 h.machines) _ ∙ length-range_with_len 1 h.machines in
    small m (length (world_at p h xs).machines) (length w.machines) h.machines (number_within (world_at p h xs) m a at).0 (number_within (world_at p h xs) m a at).1
    (run_goes w xs).machines first run.header.machines.1
  where
    small : (m there then n : ℕ) → m - 1 < there → 1 + (m - 1) ≡ m → there ≡ then → then ≡ n → n ≤ 16 → m < 2 ^ 64
    small m there then n a b c d e = omega (arith, a, b, c, d, e)

-- ---- an end told by its name and by its place

only_one : {A : Type 0} (xs : List A) (a b : A) → length xs ≡ 1 → Contains xs a → Contains xs b → a ≡ b
only_one [] a b one x y = absurd (contains_none a x)
only_one {A} (c ∷ []) a b one x y = sym (here a x) ∙ here b y where
  here : (d : A) → Contains (c ∷ []) d → c ≡ d
  here d has =
      elim (contains_cases c [] d has) as (λ z. c ≡ d) [
        | inl is ↦ is
        | inr none ↦ absurd (contains_none d none)
      ]
only_one (c ∷ d ∷ xs) a b one x y = absurd (omega (arith, one))

both_tests : (s t : Bool) → (s ≡ true → t ≡ true) → (t ≡ true → s ≡ true) → s ≡ t
both_tests true true there back = refl
both_tests true false there back = sym (there refl)
both_tests false true there back = back refl
both_tests false false there back = refl

place_itself : (path : List ℕ) (offset : ℕ) → same_place path offset path offset ≡ true
place_itself path offset = and_from (offset == offset) (bytes_eq path path) (eq-eqb offset offset refl) ((bytes_eq-Decides path path).1 refl)

module _ (w : World) (m : ℕ) (a : Machine) (at : machine_at w m ≡ Some a) (names : NamesTell w) (once : HoldsOnce w) where
  same_tests : (k g : Grant) → Contains a.holdings k → Contains a.holdings g → by_name (end_of k) g ≡ by_place (end_of k) g
  same_tests k g there has = both_tests (by_name (end_of k) g) (by_place (end_of k) g) placed named where
    placed : by_name (end_of k) g ≡ true → by_place (end_of k) g ≡ true
    placed h =
        let both = and_true (g.process == k.process) (bytes_eq (of_resource g.lockspace g.resource) (of_resource k.lockspace k.resource)) h in
        and_from (k.process == g.process) (same_place k.path k.offset g.path g.offset) (eq-eqb k.process g.process (sym (eqb-true g.process k.process both.0)))
        (names.place (holding m k) (holding m g) (in_world w m a k at there) (in_world w m a g at has)
        (sym ((bytes_eq-Decides (of_resource g.lockspace g.resource) (of_resource k.lockspace k.resource)).0 both.1)))

    named : by_place (end_of k) g ≡ true → by_name (end_of k) g ≡ true
    named h =
        let own : Grant → Bool = λ x. (x.process == g.process) && same_place x.path x.offset g.path g.offset in
        let itself : own g ≡ true = and_from (g.process == g.process) (same_place g.path g.offset g.path g.offset) (eq-eqb g.process g.process refl) (place_itself g.path g.offset) in
        let one : k ≡ g = only_one (held_by a.holdings g.process g.path g.offset) k g (once m a g at has) (kept own a.holdings k h there) (kept own a.holdings g itself has) in
        subst (λ (x : Grant). by_name (end_of x) g ≡ true) (sym one)
        (and_from (g.process == g.process) (bytes_eq (of_resource g.lockspace g.resource) (of_resource g.lockspace g.resource)) (eq-eqb g.process g.process refl)
        ((bytes_eq-Decides (of_resource g.lockspace g.resource) (of_resource g.lockspace g.resource)).1 refl))

  -- Ends of what is held.
  ends_tell : (ends : List End) → ((x : End) → Contains ends x → (g : Grant) × Contains a.holdings g × (end_of g ≡ x)) → TellEnds ends a.holdings
  ends_tell ends held =
      record {
        same = λ x g is has. let k = held x is in subst (λ (y : End). by_name y g ≡ by_place y g) k.2 (same_tests k.0 g k.1 has);
        process = λ x is. let k = held x is in subst (λ (y : End). y.process < 2 ^ 64) k.2 (spelt k.0 k.1).process;
        lockspace = λ x is. let k = held x is in subst (λ (y : End). is_name y.lockspace ≡ true) k.2 (spelt k.0 k.1).lockspace;
        resource = λ x is. let k = held x is in subst (λ (y : End). is_name y.resource ≡ true) k.2 (spelt k.0 k.1).resource;
      }
    where
      spelt : (g : Grant) → Contains a.holdings g → IsSpelt g
      spelt g has = names.spelt (holding m g) (in_world w m a g at has)

-- ---- what a machine itself ends

own_ends : (w : World) (e : Event) (a : Machine) (x : End) → Contains (own_effects w e a).ends x → (g : Grant) × Contains a.holdings g × (end_of g ≡ x)
own_ends w (ExitOf n p) a x has =
    let k = in_map end_of (filter (λ (g : Grant). g.process == p) a.holdings) x has in (k.0, (kept_inside (λ (g : Grant). g.process == p) a.holdings k.0 k.1).0, k.2)
own_ends w (Reset n) a x has = in_map end_of a.holdings x has
own_ends w (Pass d growths) a x has = absurd (contains_none x has)
own_ends w (WakeUp n) a x has = absurd (contains_none x has)
own_ends w (GiveCommand n text) a x has = absurd (contains_none x has)
own_ends w (GiveLvm n line) a x has = absurd (contains_none x has)
own_ends w (GiveAsk n) a x has = absurd (contains_none x has)
own_ends w (Sample n c k) a x has = absurd (contains_none x has)
own_ends w (Land n c) a x has = absurd (contains_none x has)
own_ends w (Tear n c k bytes) a x has = absurd (contains_none x has)
own_ends w (AnswerCall n c ok) a x has = absurd (contains_none x has)
own_ends w (Do n c) a x has = absurd (contains_none x has)
own_ends w (DropWrite n c) a x has = absurd (contains_none x has)
own_ends w (Test n) a x has = absurd (contains_none x has)
own_ends w (SpawnedOf n p ok) a x has = absurd (contains_none x has)
own_ends w (StartDaemon n name) a x has = absurd (contains_none x has)
own_ends w (Crash n) a x has = absurd (contains_none x has)
own_ends w (Restart n) a x has = absurd (contains_none x has)

-- ---- what is held before the step

abbrev KeptThen : World → Event → ℕ → Machine → Machine → Type 0
KeptThen w e m a b = (b.holdings ≡ a.holdings) ⊎ ((e ≡ Reset m) × (b.holdings ≡ []))

kept_then : (w : World) (e : Event) (m : ℕ) (a b : Machine) → Turned w e m a b → KeptThen w e m a b
kept_then w e m a b (Stays is) = inl (ap (λ (x : Machine). x.holdings) is)
kept_then w e m a b (Clocked n is) = inl (ap (λ (x : Machine). x.holdings) is)
kept_then w e m a b (Called n f g flight keeps is) = inl (ap (λ (x : Machine). x.holdings) is)
kept_then w e m a b (Tested s is) = inl (ap (λ (x : Machine). x.holdings) is)
kept_then w e m a b (Began name event up used fresh is) = inl (ap (λ (x : Machine). x.holdings) is)
kept_then w e m a b (Crashed event is) = inl (ap (λ (x : Machine). x.holdings) is)
kept_then w e m a b (Went_down event up is) = inr (event, ap (λ (x : Machine). x.holdings) is)
kept_then w e m a b (Came_up event down is) = inl (ap (λ (x : Machine). x.holdings) is)

-- Each holding has its end, so none is left.
all_end : (gs : List Grant) → [] ≡ held_after (ends_of gs) gs
all_end gs = sym (append-nil (filter (λ g. not (is_ended_by (map end_of gs) g)) gs) ∙ none gs (λ g has. has)) where
  itself : (g : Grant) → ((end_of g).process == g.process) && same_place (end_of g).path (end_of g).offset g.path g.offset ≡ true
  itself g = and_from (g.process == g.process) (same_place g.path g.offset g.path g.offset) (eq-eqb g.process g.process refl) (place_itself g.path g.offset)

  ended : (g : Grant) → Contains gs g → is_ended_by (map end_of gs) g ≡ true
  ended g has =
      any_of (λ (e : End). (e.process == g.process) && same_place e.path e.offset g.path g.offset) (map end_of gs) (end_of g) (itself g) (contains_map end_of gs g has)

  none : (hs : List Grant) → ((g : Grant) → Contains hs g → Contains gs g) → filter (λ g. not (is_ended_by (map end_of gs) g)) hs ≡ []
  none [] among = refl
  none (g ∷ hs) among =
      ap (λ (t : Bool). cond (not t) (g ∷ filter (λ g. not (is_ended_by (map end_of gs) g)) hs) (filter (λ g. not (is_ended_by (map end_of gs) g)) hs)) (ended g (among g (contains_first g hs)))
      ∙ none hs (λ k has. among k (contains_more g hs k has))

step_holdings : (now : Stamp) (i : Input) (fx : Effects) (b : Machine) → (after_step now i fx b).holdings ≡ held_after fx b.holdings
step_holdings now (Line text) fx b = refl
step_holdings now (Number line) fx b = refl
step_holdings now (Told n answer) fx b = refl
step_holdings now Wake fx b = refl
step_holdings now (Exit p) fx b = refl
step_holdings now (Spawned p ok) fx b = refl

reset_gives_none : (w : World) (m : ℕ) (o : Option Machine) → option_and_then (input_at w (Reset m)) o ≡ None
reset_gives_none w m None = refl
reset_gives_none w m (Some a) = refl

-- ---- an event

-- What the machine of an event holds behind it, and that it held what ended.
record HeldThen (later : World) (n : ℕ) (fx : Effects) (a : Machine) : Type 0 where
  machine : Machine
  there : machine_at later n ≡ Some machine
  holds : machine.holdings ≡ held_after fx a.holdings
  ends : (y : End) → Contains fx.ends y → (g : Grant) × Contains a.holdings g × (end_of g ≡ y)

module _ (p : Program) (h : Header) (now : List Happening) (x : Happening) (run : LawfulRun p h (now ++ x ∷ [])) where
  abbrev w : World
  w = world_at p h now

  abbrev e : Event
  e = x.0

  abbrev n : ℕ
  n = machine_of x.0

  abbrev later : World
  later = world_at p h (now ++ x ∷ [])

  before : LawfulRun p h now
  before = fronts_are_lawful p h now (x ∷ []) run

  may : may_happen w e ≡ true
  may = (run_rest (world_with p h) now (x ∷ []) run.is_run).0

  one : HasOneStep w e x.1
  one = one_step w e x.1 (run_rest (world_with p h) now (x ∷ []) run.is_run).1

  after : later ≡ take_step n (input_of w e) one.effects (next_step (first_change e w))
  after = run_after (world_with p h) now (x ∷ []) ∙ ap (λ fxs. happens w e fxs) one.one

  -- On the event's machine: the effects are those of the machine itself, or of the daemon that runs.
  itself : (a : Machine) → machine_at w n ≡ Some a → input_of w e ≡ None → one.effects ≡ own_effects w e a
  itself a at none = one.own none ∙ ap (λ o. option_map_or (own_effects w e) o no_effects) at

  kept_held : (a b : Machine) → machine_at w n ≡ Some a → KeptThen w e n a b → held_after one.effects b.holdings ≡ held_after one.effects a.holdings
  kept_held a b at (inl same) = ap (held_after one.effects) same
  kept_held a b at (inr gone) =
      let none : input_of w e ≡ None = ap (input_of w) gone.0 ∙ reset_gives_none w n (machine_at w n) in
      let fx : one.effects ≡ ends_of a.holdings = itself a at none ∙ ap (λ (y : Event). own_effects w y a) gone.0 in
      ap (held_after one.effects) gone.1 ∙ ap (λ (f : Effects). held_after f []) fx ∙ all_end a.holdings ∙ sym (ap (λ (f : Effects). held_after f a.holdings) fx)

  by_daemon : (a b : Machine) (i : Input) → machine_at w n ≡ Some a → machine_at (next_step (first_change e w)) n ≡ Some b → Turned w e n a b → input_of w e ≡ Some i → HeldThen later n one.effects a
  by_daemon a b i at between turned input =
      let v : World = next_step (first_change e w) in
      let stamp : Stamp = stamp_now v b in
      let fx : Effects = one.effects in
      let c : Machine = after_step stamp i fx b in
      let runs = runs_before w e n a i may at refl input in
      let d : Daemon = runs.0 in
      let entry : Entry = entry_of i fx b in
      let there : machine_at later n ≡ Some c =
      ap (λ u. machine_at u n) (after ∙ ap (λ o. take_step n o fx v) input) ∙ changed_here v n (λ y. after_step (stamp_now v y) i fx y) b between in
      let newest : c.daemon ≡ Some (with_entry entry stamp d) =
      step_daemon stamp i fx b ∙ ap (option_map (with_entry entry stamp)) (daemon_stays w e n a b i input turned ∙ runs.1) in
      let has : Contains (daemons_on c) (with_entry entry stamp d) =
      subst (λ (ds : List Daemon). Contains ds (with_entry entry stamp d)) (sym (daemons_are c (with_entry entry stamp d) newest))
      (contains_first (with_entry entry stamp d) c.ended) in
      let law : Orderly d.setting (entry ∷ d.trace) = lawful_on later n c (with_entry entry stamp d) run.lawful there has in
      let holds : a.holdings ≡ holdings d.trace = (machines_mirror p h now before n a at).held d runs.1 in
      record {
        machine = c;
        there = there;
        holds = step_holdings stamp i fx b ∙ kept_held a b at (kept_then w e n a b turned);
        ends = λ y has. let l : LawfulEnding d.setting d.trace entry y = law.ends.0.each y has in (l.holding, subst (λ (gs : List Grant). Contains gs l.holding) (sym holds) l.held, l.told);
      }

  by_itself : (a b : Machine) → machine_at w n ≡ Some a → machine_at (next_step (first_change e w)) n ≡ Some b → Turned w e n a b → input_of w e ≡ None → HeldThen later n one.effects a
  by_itself a b at between turned none =
      let v : World = next_step (first_change e w) in
      let fx : Effects = one.effects in
      record {
        machine = after_effects (stamp_now v b) fx b;
        there = ap (λ u. machine_at u n) (after ∙ ap (λ o. take_step n o fx v) none) ∙ changed_here v n (λ y. after_effects (stamp_now v y) fx y) b between;
        holds = kept_held a b at (kept_then w e n a b turned);
        ends = λ y has. own_ends w e a y (subst (λ (f : Effects). Contains f.ends y) (itself a at none) has);
      }

  held_then : (a : Machine) → machine_at w n ≡ Some a → HeldThen later n one.effects a
  held_then a at = by (input_of w e) refl where
    by : (o : Option Input) → input_of w e ≡ o → HeldThen later n one.effects a
    by None none = let q = becomes w e one.effects may n a at in by_itself a q.2.middle at q.2.between q.2.turned none
    by (Some i) input = let q = becomes w e one.effects may n a at in by_daemon a q.2.middle i at q.2.between q.2.turned input

  -- Another machine holds what it held.
  same_elsewhere : (m : ℕ) → (n ≡ m → ⊥) → held_on later m ≡ held_on w m
  same_elsewhere m other = ap (map row_of) (by (machine_at later m) refl (machine_at w m) refl) where
    grants_of : Option Machine → List Grant
    grants_of o = option_map_or (λ (y : Machine). y.holdings) o []

    kept : (a b : Machine) → KeptThen w e m a b → b.holdings ≡ a.holdings
    kept a b (inl same) = same
    kept a b (inr gone) = absurd (other (ap machine_of gone.0))

    still : (b c : Machine) → Stepped w e one.effects m b c → c.holdings ≡ b.holdings
    still b c (Elsewhere is) = ap (λ (y : Machine). y.holdings) is
    still b c (Alone none here is) = absurd (other (sym here))
    still b c (Took i has here is) = absurd (other (sym here))

    by : (o : Option Machine) → machine_at later m ≡ o → (u : Option Machine) → machine_at w m ≡ u → grants_of o ≡ grants_of u
    by o is (Some a) at =
        let q = becomes w e one.effects may m a at in
        ap grants_of (sym is ∙ ap (λ v. machine_at v m) after ∙ q.1) ∙ still q.2.middle q.0 q.2.stepped ∙ kept a q.2.middle (kept_then w e m a q.2.middle q.2.turned)
    by None is None at = refl
    by (Some c) is None at = absurd (none_some (was_before p h now x run m c is).0 (sym at ∙ (was_before p h now x run m c is).1.at))

  -- The lines of the event.
  event_tells : HoldsOnce w → NamesTell w → NamesTell later → (m : ℕ) → after_lines m (event_lines w e x.1) (held_on w m) ≡ held_on later m
  event_tells once names then m =
      ap (λ fxs. after_lines m (event_lines w e fxs) (held_on w m)) one.one ∙ by (machine_at w n) refl (true_or_false (n == m))
    where
      here : (a : Machine) → machine_at w n ≡ Some a → after_lines n (event_lines w e (one.effects ∷ [])) (held_on w n) ≡ held_on later n
      here a at =
          let t : HeldThen later n one.effects a = held_then a at in
          ap (λ o. after_lines n (event_lines w e (one.effects ∷ [])) (map row_of (option_map_or (λ (y : Machine). y.holdings) o []))) at
          ∙ event_own w e one.effects a a.holdings at (few_machines p h now before n a at) (ends_tell w n a at names once one.effects.ends t.ends)
          (λ g new. then.spelt (holding n g)
          (in_world later n t.machine g t.there
          (subst (λ (gs : List Grant). Contains gs g) (sym t.holds)
          (contains_right (filter (λ k. not (is_ended_by one.effects.ends k)) a.holdings) one.effects.grants g new))))
          ∙ ap (map row_of) (sym t.holds) ∙ sym (ap (λ o. map row_of (option_map_or (λ (y : Machine). y.holdings) o [])) t.there)

      nowhere : machine_at w n ≡ None → one.effects ≡ no_effects
      nowhere none =
          one.own (ap (option_and_then (input_at w e)) none) ∙ ap (λ o. option_map_or (own_effects w e) o no_effects) none

      gone : machine_at w n ≡ None → n ≡ m → held_on w m ≡ held_on later m
      gone none same = ap (map row_of) (by (machine_at later m) refl) where
        by : (o : Option Machine) → machine_at later m ≡ o → holdings_on w m ≡ option_map_or (λ (y : Machine). y.holdings) o []
        by None is = ap (λ o. option_map_or (λ (y : Machine). y.holdings) o []) (ap (machine_at w) (sym same) ∙ none)
        by (Some c) is =
            let was = was_before p h now x run m c is in absurd (none_some was.0 (sym (ap (machine_at w) (sym same) ∙ none) ∙ was.1.at))

      apart : (n == m) ≡ false → n ≡ m → ⊥
      apart other same = true_is_false (sym (eq-eqb n m same) ∙ other)

      quiet : machine_at w n ≡ None → after_lines m (event_lines w e (one.effects ∷ [])) (held_on w m) ≡ held_on w m
      quiet none = ap (λ (f : Effects). after_lines m (event_lines w e (f ∷ [])) (held_on w m)) (nowhere none) ∙ event_nowhere m w e (held_on w m) none

      by : (o : Option Machine) → machine_at w n ≡ o → ((n == m) ≡ true) ⊎ ((n == m) ≡ false) → after_lines m (event_lines w e (one.effects ∷ [])) (held_on w m) ≡ held_on later m
      by (Some a) at (inl same) = subst (λ k. after_lines k (event_lines w e (one.effects ∷ [])) (held_on w k) ≡ held_on later k) (eqb-true n m same) (here a at)
      by (Some a) at (inr other) =
          event_away m w e one.effects (held_on w m) (few_machines p h now before n a at) (apart other) ∙ sym (same_elsewhere m (apart other))
      by None none (inl same) = quiet none ∙ gone none (eqb-true n m same)
      by None none (inr other) = quiet none ∙ sym (same_elsewhere m (apart other))

-- ---- a run

-- Nothing is held at first.
none_first : (p : Program) (h : Header) (m : ℕ) → held_on (world_with p h) m ≡ []
unfolding machine_of_header
none_first p h m = ap (map row_of) (by (machine_at (world_with p h) m) refl) where
  empty : (m : ℕ) → (machine_of_header p (layout_with p.digest h.geometry) h m).holdings ≡ []
  empty m = refl

  by : (o : Option Machine) → machine_at (world_with p h) m ≡ o → option_map_or (λ (y : Machine). y.holdings) o [] ≡ []
  by None is = refl
  by (Some a) is = ap (λ (y : Machine). y.holdings) (header_machine p h m a is) ∙ empty m

tells_on : (p : Program) (h : Header) (now xs : List Happening) → LawfulRun p h (now ++ xs) → AfterEachFront (now ++ xs) (λ ys. HoldsOnce (world_at p h ys))
    → AfterEachFront (now ++ xs) (λ ys. NamesTell (world_at p h ys)) → (m : ℕ)
    → after_lines m (run_lines (world_at p h now) xs) (held_on (world_at p h now) m) ≡ held_on (world_at p h (now ++ xs)) m
tells_on p h now [] run once names m = ap (λ (ys : List Happening). held_on (world_at p h ys) m) (sym (append-nil now))
tells_on p h now (x ∷ xs) run once names m =
    let w : World = world_at p h now in
    let same : (now ++ x ∷ []) ++ xs ≡ now ++ x ∷ xs = next_before now x xs in
    let whole : LawfulRun p h ((now ++ x ∷ []) ++ xs) = subst (λ (ys : List Happening). LawfulRun p h ys) (sym same) run in
    let next : world_at p h (now ++ x ∷ []) ≡ happens w x.0 x.1 = run_after (world_with p h) now (x ∷ []) in
    lines_after m (event_lines w x.0 x.1) (run_lines (happens w x.0 x.1) xs) (held_on w m)
    ∙ ap (λ (rs : List Row). after_lines m (run_lines (happens w x.0 x.1) xs) rs)
    (event_tells p h now x (fronts_are_lawful p h (now ++ x ∷ []) xs whole) (once now (x ∷ xs) refl) (names now (x ∷ xs) refl) (names (now ++ x ∷ []) xs (sym same)) m)
    ∙ ap (λ v. after_lines m (run_lines v xs) (held_on (world_at p h (now ++ x ∷ [])) m)) (sym next)
    ∙ tells_on p h (now ++ x ∷ []) xs whole (subst (λ ys. AfterEachFront ys (λ zs. HoldsOnce (world_at p h zs))) (sym same) once)
    (subst (λ ys. AfterEachFront ys (λ zs. NamesTell (world_at p h zs))) (sym same) names) m
    ∙ ap (λ (ys : List Happening). held_on (world_at p h ys) m) same

pub lines_tell_holdings : LinesTellHoldings
lines_tell_holdings p h xs run once names m =
    ap (λ (rs : List Row). after_lines m (run_lines (world_with p h) xs) rs) (sym (none_first p h m)) ∙ tells_on p h [] xs run once names m
