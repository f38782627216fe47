-- Of each daemon of a lawful run: each entry came at a later step than the one before, and it is given the header's sessions or none.
use Rattle.sl_area.specs.AreaSizes.{Layout, layout_with}
use Rattle.sl_run_law.proofs.Course.MatchedCall.{found_below}
use Rattle.sl_run_law.specs.Course.CallStamps.{stamp_in}
use Rattle.sl_run_law.proofs.Front.RunsFromFronts.{IsKeptInRuns, IsLast, last_event, run_keeps}
use Rattle.sl_words.proofs.Lists.{contains_cases, contains_more, contains_none, same_place_in}
use Rattle.sl_words.proofs.Numbers.{less_than_next, lt_then_le}
use Rattle.sl_words.proofs.Options.{else_some}
use Rattle.sl_run.specs.EventChanges.{after_effects, after_step, first_change, next_step, take_step, with_entry}
use Rattle.sl_run.specs.Inputs.{input_of, machine_of}
use Rattle.sl_run.specs.Runs.{Happening}
use Rattle.sl_run.specs.Safety.{LawfulRun, world_at}
use Rattle.sl_run.specs.Worlds.{Daemon, Machine, Program, Stamp, World, daemons_on, first_numbers, first_stamp, given_of, machine_at, machine_of_header, new_daemon, next_numbers, reading_now, setting_of, stamp_now, world_with}
use Rattle.sl_run.specs.declared.event.Event.{Event}
use Rattle.sl_run.specs.declared.header.Header.{Header}
use Rattle.sl_run.specs.declared.header.SessionLine.{SessionLine}
use Rattle.sl_run_law.proofs.WorldsGoOn.{first_goes, run_goes}
use Rattle.sl_run_law.proofs.MachineWalk.{Asked, each_first, each_step, each_then, index, number_within}
use Rattle.sl_run_law.specs.Machines.{EachMachine}
use Rattle.sl_trace.specs.declared.effects.Effects.{Effects}
use Rattle.sl_trace.specs.declared.effects.Entry.{Entry}
use Rattle.sl_trace.specs.declared.input.Input.TheVariants.{Answer as Told, Exit, Line, Number, Spawned, Wake}
use Rattle.sl_trace.specs.declared.input.Input.{Input}
use Rattle.sl_words.proofs.CaseLaws.{none_some, one_value, some_value}
use Rattle.std.proofs.Common.{ap, arith, inl, inr, refl, subst, sym, ◌∙◌}
use Rattle.std.proofs.lemmas.Bool.{eqb-true}
use Rattle.std.specs.List.{range_with_len}
use Rattle.std.specs.Prelude.{Bool, Contains, List, None, Option, Some, [], false, filter_map, find, length, map, option_map, slice_get, slice_set, suc, true, zero, ℕ, ◌++◌, ◌+◌, ◌-◌, ◌<◌, ◌==◌, ◌∷◌, ◌≡◌, ◌≤◌, ◌⊎◌}

-- Stamps that fall from below n, the newest first.
abbrev pub Falls : ℕ → List Stamp → Type 0
Falls n [] = Unit {0}
Falls n (s ∷ ss) = (s.step < n) × Falls s.step ss

-- What is said of each daemon of machine m while the world has made n steps.
pub record IsFine (h : Header) (n m : ℕ) (d : Daemon) : Type 0 where
  pub stamps : Falls n d.stamps
  pub given : (d.setting.given ≡ []) ⊎ (d.setting.given ≡ filter_map (given_of h m) h.sessions)

abbrev AllFine : Header → ℕ → ℕ → Machine → Type 0
AllFine h n m a = (d : Daemon) → Contains (daemons_on a) d → IsFine h n m d

-- ---- what keeps it

falls_more : (n k : ℕ) (ss : List Stamp) → n ≤ k → Falls n ss → Falls k ss
falls_more n k [] le h = tt
falls_more n k (s ∷ ss) le h = (lt_then_le s.step n k h.0 le, h.1)

one_more : (n : ℕ) → n ≤ n + 1
one_more n = omega arith

fine_more : (h : Header) (n m : ℕ) (d : Daemon) → IsFine h n m d → IsFine h (n + 1) m d
fine_more h n m d f = record { stamps = falls_more n (n + 1) d.stamps (one_more n) f.stamps; given = f.given }

abbrev with_running : Option Daemon → List Daemon → List Daemon
with_running o ds = elim o [ None ↦ ds | Some d ↦ d ∷ ds ]

ended_too : (o : Option Daemon) (ds : List Daemon) (d : Daemon) → Contains ds d → Contains (with_running o ds) d
ended_too None ds d there = there
ended_too (Some x) ds d there = contains_more x ds d there

-- A daemon that is given nothing begins.
begins : (h : Header) (n m : ℕ) (a : Machine) (x : Daemon) → x.stamps ≡ [] → x.setting.given ≡ [] → AllFine h n m a → (d : Daemon) → Contains (x ∷ a.ended) d → IsFine h n m d
begins h n m a x stamps given fine d there =
    elim (contains_cases x a.ended d there) as (λ z. IsFine h n m d) [
      | inl here ↦ subst (IsFine h n m) here (record { stamps = subst (Falls n) (sym stamps) tt; given = inl given })
      | inr old ↦ fine d (ended_too a.daemon a.ended d old)
    ]

abbrev StaysFine : Header → ℕ → Machine → Machine → Type 0
StaysFine h m a b = (n : ℕ) → AllFine h n m a → AllFine h n m b

asked : (h : Header) (w : World) (e : Event) → Asked (StaysFine h) w e
asked h w e =
    record {
      pass = λ d growths is m a at n fine x there. fine x there;
      sample = λ m c k is a at n fine x there. fine x there;
      land = λ m c is a f at g t n fine x there. fine x there;
      tear = λ m c k bytes is a f at g t n fine x there. fine x there;
      done_read = λ m c is a f at g t n fine x there. fine x there;
      done_write = λ m c is a f at g t n fine x there. fine x there;
      drop_write = λ m c is a at n fine x there. fine x there;
      tested = λ m is a at n fine x there. fine x there;
      start = λ m name is a at n fine. begins h n m a (new_daemon (length (daemons_on a)) (setting_of w.program w.layout w.header m name (next_numbers a) []) (stamp_now w a)) refl refl fine;
      crash = λ m is a at n fine x there. fine x there;
      reset = λ m is a at n fine x there. fine x there;
      restart = λ m is a at n fine x there. fine x there;
    }

-- ---- a step

abbrev StepsFine : Header → ℕ → ℕ → Machine → Machine → Type 0
StepsFine h n m a b = AllFine h n m a → AllFine h (n + 1) m b

entered_by : (h : Header) (m : ℕ) (e : Entry) (now : Stamp) (o : Option Daemon) (ds : List Daemon) → ((d : Daemon) → Contains (with_running o ds) d → IsFine h now.step m d)
    → (d : Daemon) → Contains (with_running (option_map (with_entry e now) o) ds) d → IsFine h (now.step + 1) m d
entered_by h m e now None ds fine d there = fine_more h now.step m d (fine d there)
entered_by h m e now (Some x) ds fine d there =
    elim (contains_cases (with_entry e now x) ds d there) as (λ z. IsFine h (now.step + 1) m d) [
      | inl here ↦ subst (IsFine h (now.step + 1) m) here
          (let old : IsFine h now.step m x = fine x (zero, omega arith, refl) in record { stamps = (less_than_next now.step, old.stamps); given = old.given })
      | inr old ↦ fine_more h now.step m d (fine d (contains_more x ds d old))
    ]

entered : (h : Header) (m : ℕ) (e : Entry) (now : Stamp) (a b : Machine) → b.daemon ≡ option_map (with_entry e now) a.daemon → b.ended ≡ a.ended → AllFine h now.step m a
    → AllFine h (now.step + 1) m b
entered h m e now a b daemon ended fine d there =
    entered_by h m e now a.daemon a.ended fine d
    (subst (λ o. Contains (with_running o a.ended) d) daemon (subst (λ ds. Contains (with_running b.daemon ds) d) ended there))

abbrev entry_of : Input → Effects → Machine → Entry
entry_of i fx a = record { reading = reading_now a; input = i; effects = fx }

steps_fine : (h : Header) (m : ℕ) (now : Stamp) (i : Input) (fx : Effects) (a : Machine) → AllFine h now.step m a → AllFine h (now.step + 1) m (after_step now i fx a)
steps_fine h m now (Line text) fx a = entered h m (entry_of (Line text) fx a) now a (after_step now (Line text) fx a) refl refl
steps_fine h m now (Number text) fx a = entered h m (entry_of (Number text) fx a) now a (after_step now (Number text) fx a) refl refl
steps_fine h m now (Told n answer) fx a = entered h m (entry_of (Told n answer) fx a) now a (after_step now (Told n answer) fx a) refl refl
steps_fine h m now Wake fx a = entered h m (entry_of Wake fx a) now a (after_step now Wake fx a) refl refl
steps_fine h m now (Exit p) fx a = entered h m (entry_of (Exit p) fx a) now a (after_step now (Exit p) fx a) refl refl
steps_fine h m now (Spawned p ok) fx a = entered h m (entry_of (Spawned p ok) fx a) now a (after_step now (Spawned p ok) fx a) refl refl

still : (h : Header) (n m : ℕ) (a : Machine) → StepsFine h n m a a
still h n m a fine d there = fine_more h n m d (fine d there)

step_fine : (h : Header) (m : ℕ) (o : Option Input) (fx : Effects) (v : World) → EachMachine (StepsFine h v.step) v (take_step m o fx v)
step_fine h m o fx v =
    each_step (StepsFine h v.step) m o fx v (still h v.step)
    (λ none a at fine d there. fine_more h v.step m d (fine d there))
    (λ i is a at. steps_fine h m (stamp_now v a) i fx a)

-- ---- worlds

abbrev FineWorld : Header → World → Type 0
FineWorld h w = (m : ℕ) (a : Machine) → machine_at w m ≡ Some a → AllFine h w.step m a

changed_by : (m : ℕ) (f : Machine → Machine) (w : World) (o : Option Machine)
    → (elim o as (λ x. World) [ None ↦ w | Some a ↦ record w { machines = slice_set w.machines (m - 1) (f a) } ]).step ≡ w.step
changed_by m f w None = refl
changed_by m f w (Some a) = refl

step_is : (m : ℕ) (o : Option Input) (fx : Effects) (v : World) → (take_step m o fx v).step ≡ v.step + 1
step_is m None fx v = ap (λ n. n + 1) (changed_by m (λ a. after_effects (stamp_now v a) fx a) v (machine_at v m))
step_is m (Some i) fx v = ap (λ n. n + 1) (changed_by m (λ a. after_step (stamp_now v a) i fx a) v (machine_at v m))

first_step : (e : Event) (w : World) → (first_change e w).step ≡ w.step
first_step e w = let go = first_goes e w in let more : w.step + 0 ≡ w.step = omega arith in go.step ∙ more

-- Machines that go on so from one world to another of as many: each of the second was in the first.
back : (S : ℕ → Machine → Machine → Type 0) (w v : World) → length v.machines ≡ length w.machines → EachMachine S w v → (m : ℕ) (b : Machine) → machine_at v m ≡ Some b
    → (a : Machine) × (machine_at w m ≡ Some a) × S m a b
back S w v same each m b at =
    let p = index v m b at in
    let q = same_place_in w.machines v.machines (m - 1) b same p.1 in
    let was = else_some (m == 0) (slice_get w.machines (m - 1)) q.0 p.0 q.1 in
    let go = each m q.0 was in
    (q.0, was, subst (S m q.0) (one_value go.0 b (machine_at v m) go.1 at) go.2)

same_count : (p : Program) (h : Header) (now later : List Happening) → length (world_at p h later).machines ≡ length (world_at p h now).machines
same_count p h now later = (run_goes (world_with p h) later).machines ∙ sym (run_goes (world_with p h) now).machines

abbrev Goes : Header → ℕ → ℕ → ℕ → Machine → Machine → Type 0
Goes h n k m a b = AllFine h n m a → AllFine h k m b

event_fine : (h : Header) (e : Event) (m : ℕ) (o : Option Input) (fx : Effects) (w : World)
    → EachMachine (Goes h w.step (w.step + 1 + 1)) w (take_step m o fx (next_step (first_change e w)))
event_fine h e m o fx w =
    let u : World = next_step (first_change e w) in
    let same : u.step ≡ w.step + 1 = ap (λ n. n + 1) (first_step e w) in
    let begun : EachMachine (StaysFine h) w u = each_first (StaysFine h) e w (λ none k a n fine. fine) (asked h w e) in
    let next : EachMachine (StepsFine h (w.step + 1)) u (take_step m o fx u) =
    subst (λ n. EachMachine (StepsFine h n) u (take_step m o fx u)) same (step_fine h m o fx u) in
    each_then (StaysFine h) (StepsFine h (w.step + 1)) (Goes h w.step (w.step + 1 + 1)) w u (take_step m o fx u)
    (λ k a b c one two fine. two (λ d there. fine_more h w.step k d (one w.step fine d there))) begun next

next_fine : (p : Program) (h : Header) (now : List Happening) (x : Happening) → LawfulRun p h (now ++ x ∷ []) → FineWorld h (world_at p h now) → FineWorld h (world_at p h (now ++ x ∷ []))
next_fine p h now x run fine m b at =
    let w : World = world_at p h now in
    let last : IsLast p h now x = last_event p h now x run in
    let u : World = next_step (first_change x.0 w) in
    let go : EachMachine (Goes h w.step (w.step + 1 + 1)) w (world_at p h (now ++ x ∷ [])) =
    subst (λ v. EachMachine (Goes h w.step (w.step + 1 + 1)) w v) (sym last.after) (event_fine h x.0 (machine_of x.0) (input_of w x.0) last.effects w) in
    let was = back (Goes h w.step (w.step + 1 + 1)) w (world_at p h (now ++ x ∷ [])) (same_count p h now (now ++ x ∷ [])) go m b at in
    let steps : (world_at p h (now ++ x ∷ [])).step ≡ w.step + 1 + 1 =
    ap (λ v. v.step) last.after ∙ step_is (machine_of x.0) (input_of w x.0) last.effects u ∙ ap (λ n. n + 1 + 1) (first_step x.0 w) in
    subst (λ n. AllFine h n m b) (sym steps) (was.2 (fine m was.0 was.1))

-- ---- at first

numbered : {A : Type 0} (f : ℕ → A) (k n i : ℕ) (a : A) → slice_get (map f (range_with_len k n)) i ≡ Some a → a ≡ f (k + i)
numbered f k zero i a h = absurd (none_some a h)
numbered f k (suc n) zero a h = let same : k ≡ k + 0 = omega arith in sym (some_value (f k) a h) ∙ ap f same
numbered f k (suc n) (suc i) a h = let same : (k + 1) + i ≡ k + suc i = omega arith in numbered f (k + 1) n i a h ∙ ap f same

first_by : (p : Program) (g : Layout) (h : Header) (m : ℕ) (o : Option SessionLine) (d : Daemon)
    → Contains (with_running (option_map (λ (s : SessionLine). new_daemon 0 (setting_of p g h m s.name first_numbers (filter_map (given_of h m) h.sessions)) (first_stamp h m)) o) []) d
    → IsFine h 1 m d
first_by p g h m None d there = absurd (contains_none d there)
first_by p g h m (Some s) d there =
    elim (contains_cases (new_daemon 0 (setting_of p g h m s.name first_numbers (filter_map (given_of h m) h.sessions)) (first_stamp h m)) [] d there) as (λ z. IsFine h 1 m d) [
      | inl here ↦ subst (IsFine h 1 m) here (record { stamps = tt; given = inr refl })
      | inr old ↦ absurd (contains_none d old)
    ]

first_fine : (p : Program) (g : Layout) (h : Header) (m : ℕ) → AllFine h 1 m (machine_of_header p g h m)
unfolding machine_of_header
first_fine p g h m d there = first_by p g h m (find (λ (s : SessionLine). s.machine == m) h.sessions) d there

begins_fine : (p : Program) (h : Header) → FineWorld h (world_with p h)
begins_fine p h m a at =
    let g : Layout = layout_with p.digest h.geometry in
    let within = number_within (world_with p h) m a at in
    let is : a ≡ machine_of_header p g h (1 + (m - 1)) = numbered (machine_of_header p g h) 1 h.machines (m - 1) a (index (world_with p h) m a at).1 in
    let same : a ≡ machine_of_header p g h m = is ∙ ap (machine_of_header p g h) within.1 in
    subst (AllFine h 1 m) (sym same) (first_fine p g h m)

kept_fine : (p : Program) (h : Header) → IsKeptInRuns p h (λ now. FineWorld h (world_at p h now))
kept_fine p h = record { first = begins_fine p h; next = next_fine p h }

-- After each lawful run.
pub daemons_are_fine : (p : Program) (h : Header) (xs : List Happening) → LawfulRun p h xs → (m : ℕ) (a : Machine) (d : Daemon) → machine_at (world_at p h xs) m ≡ Some a
    → Contains (daemons_on a) d → IsFine h (world_at p h xs).step m d
daemons_are_fine p h xs run m a d at there = run_keeps p h (λ now. FineWorld h (world_at p h now)) (kept_fine p h) xs run m a at d there

-- ---- stamps in order

below_too : (a n k : ℕ) → a < k → k < n → a < n
below_too a n k p q = omega (arith, p, q)

falls_from : (n k : ℕ) (ss : List Stamp) → k < n → Falls k ss → Falls n ss
falls_from n k [] lt h = tt
falls_from n k (s ∷ ss) lt h = (below_too s.step n k h.0 lt, h.1)

below_by : (n : ℕ) (s : Stamp) (ss : List Stamp) (i : ℕ) (t : Stamp) (b : Bool) → elim b as (λ z. Option Stamp) [ true ↦ Some s | false ↦ stamp_in ss i ] ≡ Some t
    → s.step < n → (stamp_in ss i ≡ Some t → t.step < n) → t.step < n
below_by n s ss i t true is here rest = subst (λ x. x.step < n) (some_value s t is) here
below_by n s ss i t false is here rest = rest is

stamp_below : (n : ℕ) (ss : List Stamp) (i : ℕ) (t : Stamp) → Falls n ss → stamp_in ss i ≡ Some t → t.step < n
stamp_below n [] i t h is = absurd (none_some t is)
stamp_below n (s ∷ ss) i t h is = below_by n s ss i t (i == length ss) is h.0 (λ old. stamp_below n ss i t (falls_from n s.step ss h.0 h.1) old)

order_by : (n : ℕ) (s : Stamp) (ss : List Stamp) (i j : ℕ) (t u : Stamp) (b c : Bool) → (i == length ss) ≡ b → (j == length ss) ≡ c
    → elim b as (λ z. Option Stamp) [ true ↦ Some s | false ↦ stamp_in ss i ] ≡ Some t
    → elim c as (λ z. Option Stamp) [ true ↦ Some s | false ↦ stamp_in ss j ] ≡ Some u → i ≤ j → Falls s.step ss
    → (stamp_in ss i ≡ Some t → stamp_in ss j ≡ Some u → t.step ≤ u.step) → t.step ≤ u.step
order_by n s ss i j t u true true p q is other le falls rest =
    let same : t ≡ u = sym (some_value s t is) ∙ some_value s u other in omega (arith, ap (λ x. x.step) same)
order_by n s ss i j t u false true p q is other le falls rest =
    let low : t.step < s.step = stamp_below s.step ss i t falls is in omega (arith, low, ap (λ x. x.step) (some_value s u other))
order_by n s ss i j t u true false p q is other le falls rest =
    absurd (let lt : j < length ss = found_below ss j u other in omega (arith, le, lt, eqb-true i (length ss) p))
order_by n s ss i j t u false false p q is other le falls rest = rest is other

-- Of two entries the older came first.
pub stamp_order : (n : ℕ) (ss : List Stamp) (i j : ℕ) (t u : Stamp) → Falls n ss → stamp_in ss i ≡ Some t → stamp_in ss j ≡ Some u → i ≤ j → t.step ≤ u.step
stamp_order n [] i j t u h is other le = absurd (none_some t is)
stamp_order n (s ∷ ss) i j t u h is other le =
    order_by n s ss i j t u (i == length ss) (j == length ss) refl refl is other le h.1 (λ x y. stamp_order s.step ss i j t u h.1 x y le)
