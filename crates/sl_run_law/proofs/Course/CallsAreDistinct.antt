-- No two calls of a machine have the same number: each daemon begins with the number after those of the ones before it.
use Rattle.sl_area.specs.AreaSizes.{layout_with}
use Rattle.sl_run_law.proofs.Course.NumbersNameCalls.{AreNumberedBelow, all_numbered, numbered_called, same_call_if}
use Rattle.sl_run_law.proofs.Course.Daemons.{daemons_are, entry_of, step_daemon}
use Rattle.sl_run_law.proofs.Course.MachinesKeep.{Goes_on, OfMachines, lawful_on, machines_keep}
use Rattle.sl_run_law.proofs.Course.DaemonRuns.{runs_then}
use Rattle.sl_run_law.proofs.Course.MachineTurns.{Alone, Began, Called, Came_up, Clocked, Crashed, Elsewhere, IsQuiet, Stays, Stepped, Tested, Took, Turned, Went_down, own_quiet}
use Rattle.sl_run_law.specs.Course.CourseLaws.{CallsAreDistinct}
use Rattle.sl_run_law.proofs.Front.RunsFromFronts.{fronts_are_lawful, run_after}
use Rattle.sl_words.proofs.Lists.{contains_first, next_before}
use Rattle.sl_run.specs.EventChanges.{after_step, close_answered, daemon_number, first_change, new_course, next_step, with_entry}
use Rattle.sl_run.specs.Runs.{Happening}
use Rattle.sl_run.specs.Safety.{LawfulRun, world_at}
use Rattle.sl_run.specs.Worlds.{Course, Daemon, Machine, Program, Stamp, World, daemons_on, first_numbers, machine_of_header, next_numbers, stamp_now, world_with}
use Rattle.sl_run.specs.declared.event.Event.{Event}
use Rattle.sl_run.specs.declared.header.Header.{Header}
use Rattle.sl_run_law.proofs.CourseLists.{changed_if}
use Rattle.sl_run_law.proofs.CoursesGoOn.{told}
use Rattle.sl_run_law.specs.FatesStay.{DistinctAlong, EachDistinct}
use Rattle.sl_trace.specs.Traces.{IsTrace, Setting, Submitted, Trace, answered_in, is_ok_answer, mark, new_call, next_call, next_job, submitted}
use Rattle.sl_trace.specs.declared.effects.Call.{Call}
use Rattle.sl_trace.specs.declared.effects.Effects.{Effects}
use Rattle.sl_trace.specs.declared.effects.Entry.{Entry}
use Rattle.sl_trace.specs.declared.input.Input.TheVariants.{Answer as Told, Exit, Line, Number, Spawned, Wake}
use Rattle.sl_trace.specs.declared.input.Input.{Input}
use Rattle.sl_trace.specs.declared.input.Numbers.{Numbers}
use Rattle.sl_words.specs.Words.{first_of_list}
use Rattle.std.proofs.Common.{ap, arith, refl, subst, sym, ◌∙◌}
use Rattle.std.specs.List.{range_with_len}
use Rattle.std.specs.Prelude.{Contains, List, None, Some, fold, length, map, option_map, suc, [], ℕ, ◌++◌, ◌+◌, ◌==◌, ◌∷◌, ◌≡◌}

-- ---- how many calls a trace has

made_length : (at reading : ℕ) (calls : List Call) (ms : List Submitted) → length (fold (λ ns c. new_call at reading c ∷ ns) ms calls) ≡ length ms + length calls
made_length at reading [] ms = omega arith
made_length at reading (c ∷ calls) ms =
    let rest : length (fold (λ ns x. new_call at reading x ∷ ns) (new_call at reading c ∷ ms) calls) ≡ length (new_call at reading c ∷ ms) + length calls =
    made_length at reading calls (new_call at reading c ∷ ms) in
    omega (arith, rest)

pub map_length : {A B : Type 0} (f : A → B) (xs : List A) → length (map f xs) ≡ length xs
map_length f [] = refl
map_length f (x ∷ xs) = ap (λ n. suc n) (map_length f xs)

pub mark_length : (es : Trace) (e : Entry) (i : Input) (ms : List Submitted) → length (mark es e i ms) ≡ length ms
mark_length es e (Told n answer) ms = map_length (answered_in es e n answer) ms
mark_length es e (Line text) ms = refl
mark_length es e (Number text) ms = refl
mark_length es e (Exit p) ms = refl
mark_length es e (Spawned p ok) ms = refl
mark_length es e Wake ms = refl

pub next_more : (st : Setting) (e : Entry) (es : Trace) → next_call st (e ∷ es) ≡ next_call st es + length e.effects.calls
next_more st e es =
    let made : length (submitted (e ∷ es)) ≡ length (mark es e e.input (submitted es)) + length e.effects.calls =
    made_length (length es) e.reading e.effects.calls (mark es e e.input (submitted es)) in
    let marked : length (mark es e e.input (submitted es)) ≡ length (submitted es) = mark_length es e e.input (submitted es) in
    omega (arith, made, marked)

-- ---- the next numbers

abbrev numbers_in : List Daemon → Numbers
numbers_in ds = elim (first_of_list ds) as (λ x. Numbers) [ None ↦ first_numbers | Some d ↦ record { call = next_call d.setting d.trace; job = next_job d.setting d.trace } ]

next_is : (a : Machine) (d : Daemon) → a.daemon ≡ Some d → (next_numbers a).call ≡ next_call d.setting d.trace
next_is a d is = ap (λ ds. (numbers_in ds).call) (daemons_are a d is)

abbrev number_of : Machine → ℕ
number_of a = (next_numbers a).call

pub nothing_more : (n : ℕ) → n + 0 ≡ n
nothing_more n = omega arith

turned_next : (w : World) (e : Event) (m : ℕ) (a b : Machine) → Turned w e m a b → number_of b ≡ number_of a
turned_next w e m a b (Stays is) = ap number_of is
turned_next w e m a b (Clocked n is) = ap number_of is
turned_next w e m a b (Called n f g h k is) = ap number_of is
turned_next w e m a b (Tested t is) = ap number_of is
turned_next w e m a b (Crashed event is) = ap number_of is
turned_next w e m a b (Went_down event up is) = ap number_of is
turned_next w e m a b (Came_up event down is) = ap number_of is
turned_next w e m a b (Began name event up used fresh is) = ap number_of is ∙ nothing_more (number_of a)

-- ---- calls of the machine

-- What is kept.
abbrev IsNumbered : Machine → Type 0
IsNumbered a = AreNumberedBelow (number_of a) a.calls

turned_calls : (w : World) (e : Event) (m n : ℕ) (a b : Machine) → Turned w e m a b → AreNumberedBelow n a.calls → AreNumberedBelow n b.calls
turned_calls w e m n a b (Stays is) h = subst (λ (x : Machine). AreNumberedBelow n x.calls) (sym is) h
turned_calls w e m n a b (Clocked k is) h = subst (λ (x : Machine). AreNumberedBelow n x.calls) (sym is) h
turned_calls w e m n a b (Called k f g flight keeps is) h =
    subst (λ (x : Machine). AreNumberedBelow n x.calls) (sym is)
    (numbered_called n (λ c. changed_if (c.call.number == k) f c) (λ c. same_call_if (c.call.number == k) f c (keeps.call c)) a.calls h)
turned_calls w e m n a b (Tested t is) h = subst (λ (x : Machine). AreNumberedBelow n x.calls) (sym is) h
turned_calls w e m n a b (Crashed event is) h = subst (λ (x : Machine). AreNumberedBelow n x.calls) (sym is) h
turned_calls w e m n a b (Went_down event up is) h = subst (λ (x : Machine). AreNumberedBelow n x.calls) (sym is) h
turned_calls w e m n a b (Came_up event down is) h = subst (λ (x : Machine). AreNumberedBelow n x.calls) (sym is) h
turned_calls w e m n a b (Began name event up used fresh is) h = subst (λ (x : Machine). AreNumberedBelow n x.calls) (sym is) h

turned_numbered : (w : World) (e : Event) (m : ℕ) (a b : Machine) → Turned w e m a b → IsNumbered a → IsNumbered b
turned_numbered w e m a b t h = subst (λ n. AreNumberedBelow n b.calls) (sym (turned_next w e m a b t)) (turned_calls w e m (number_of a) a b t h)

closed_calls : (n : ℕ) (now : Stamp) (i : Input) (a : Machine) → AreNumberedBelow n a.calls → AreNumberedBelow n (close_answered now i a).calls
closed_calls n now (Told k answer) a h =
    numbered_called n (λ c. changed_if (c.call.number == k) (told now (is_ok_answer answer)) c)
    (λ c. same_call_if (c.call.number == k) (told now (is_ok_answer answer)) c refl) a.calls h
closed_calls n now (Line text) a h = h
closed_calls n now (Number text) a h = h
closed_calls n now (Exit p) a h = h
closed_calls n now (Spawned p ok) a h = h
closed_calls n now Wake a h = h

abbrev pub made_calls : Stamp → ℕ → List Course → List Call → List Course
made_calls now d cs calls = fold (λ xs c. new_course now d c ∷ xs) cs calls

pub step_calls : (now : Stamp) (i : Input) (fx : Effects) (a : Machine) → (after_step now i fx a).calls ≡ made_calls now (daemon_number a) (close_answered now i a).calls fx.calls
step_calls now (Told k answer) fx a = refl
step_calls now (Line text) fx a = refl
step_calls now (Number text) fx a = refl
step_calls now (Exit p) fx a = refl
step_calls now (Spawned p ok) fx a = refl
step_calls now Wake fx a = refl

-- The running daemon after the step.
pub entered : (now : Stamp) (i : Input) (fx : Effects) (b : Machine) (d : Daemon) → b.daemon ≡ Some d → (after_step now i fx b).daemon ≡ Some (with_entry (entry_of i fx b) now d)
entered now i fx b d runs = step_daemon now i fx b ∙ ap (option_map (with_entry (entry_of i fx b) now)) runs

pub running_has : (a : Machine) (d : Daemon) → a.daemon ≡ Some d → Contains (daemons_on a) d
running_has a d runs = subst (λ ds. Contains ds d) (sym (daemons_are a d runs)) (contains_first d a.ended)

step_numbered : (now : Stamp) (i : Input) (fx : Effects) (b : Machine) (d : Daemon) → b.daemon ≡ Some d
    → IsTrace d.setting (entry_of i fx b ∷ d.trace) → IsNumbered b → IsNumbered (after_step now i fx b)
step_numbered now i fx b d runs trace h =
    let c : Machine = after_step now i fx b in
    let before : number_of b ≡ next_call d.setting d.trace = next_is b d runs in
    let next : number_of c ≡ number_of b + length fx.calls =
    next_is c (with_entry (entry_of i fx b) now d) (entered now i fx b d runs) ∙ next_more d.setting (entry_of i fx b) d.trace
    ∙ ap (λ n. n + length fx.calls) (sym before) in
    let numbered : map (λ (x : Call). x.number) fx.calls ≡ range_with_len (number_of b) (length fx.calls) =
    subst (λ n. map (λ (x : Call). x.number) fx.calls ≡ range_with_len n (length fx.calls)) (sym before) trace.0.numbered in
    subst (λ n. AreNumberedBelow n c.calls) (sym next)
    (subst (λ cs. AreNumberedBelow (number_of b + length fx.calls) cs) (sym (step_calls now i fx b))
    (all_numbered (number_of b) now (daemon_number b) fx.calls (close_answered now i b).calls numbered (closed_calls (number_of b) now i b h)))

-- The trace of the daemon that has just taken a step is one.
pub step_trace : (p : Program) (h : Header) (now : List Happening) (x : Happening) (m : ℕ) (a c : Machine) (d : Daemon) → Goes_on p h now x m a c → c.daemon ≡ Some d
    → IsTrace d.setting d.trace
step_trace p h now x m a c d g runs = (lawful_on (world_at p h (now ++ x ∷ [])) m c d g.run.lawful g.later (running_has c d runs)).is_trace

stepped_numbered : (p : Program) (h : Header) (now : List Happening) (x : Happening) (m : ℕ) (a c : Machine) → (g : Goes_on p h now x m a c)
    → (b : Machine) → Turned (world_at p h now) x.0 m a b → Stepped (world_at p h now) x.0 g.effects m b c → IsNumbered b → IsNumbered c
stepped_numbered p h now x m a c g b t (Elsewhere is) k = subst IsNumbered (sym is) k
stepped_numbered p h now x m a c g b t (Alone none same is) k =
    let w : World = world_at p h now in
    let quiet : g.effects.calls ≡ [] = (subst IsQuiet (sym (g.own none)) (own_quiet w x.0)).calls in
    let stamp : Stamp = stamp_now (next_step (first_change x.0 w)) b in
    subst IsNumbered (sym is)
    (subst (λ calls. AreNumberedBelow (number_of b) (made_calls stamp (daemon_number b) b.calls calls)) (sym quiet) k)
stepped_numbered p h now x m a c g b t (Took i has same is) k =
    let w : World = world_at p h now in
    let stamp : Stamp = stamp_now (next_step (first_change x.0 w)) b in
    let d = runs_then w x.0 m a b i g.may g.at same has t in
    let trace = step_trace p h now x m a c (with_entry (entry_of i g.effects b) stamp d.0) g
    (ap (λ (y : Machine). y.daemon) is ∙ entered stamp i g.effects b d.0 d.1) in
    subst IsNumbered (sym is) (step_numbered stamp i g.effects b d.0 d.1 trace k)

keeps : (p : Program) (h : Header) (now : List Happening) (x : Happening) (m : ℕ) (a c : Machine) → Goes_on p h now x m a c → IsNumbered a → IsNumbered c
keeps p h now x m a c g was =
    stepped_numbered p h now x m a c g g.becomes.middle g.becomes.turned g.becomes.stepped
    (turned_numbered (world_at p h now) x.0 m a g.becomes.middle g.becomes.turned was)

first : (p : Program) (h : Header) (m : ℕ) → IsNumbered (machine_of_header p (layout_with p.digest h.geometry) h m)
unfolding machine_of_header
first p h m = record { below = tt; distinct = tt }

pub numbered_after : (p : Program) (h : Header) (xs : List Happening) → LawfulRun p h xs → OfMachines (λ w m. IsNumbered) (world_at p h xs)
numbered_after p h xs run = machines_keep p h (λ w m. IsNumbered) (first p h) (keeps p h) xs run

-- ---- along runs

pub each_distinct : (p : Program) (h : Header) (xs : List Happening) → LawfulRun p h xs → EachDistinct (world_at p h xs)
each_distinct p h xs run m a at = (numbered_after p h xs run m a at).distinct

along : (p : Program) (h : Header) (now rest : List Happening) → LawfulRun p h (now ++ rest) → DistinctAlong (world_at p h now) rest
along p h now [] run = tt
along p h now (x ∷ rest) run = (
  each_distinct p h now (fronts_are_lawful p h now (x ∷ rest) run),
  subst (λ w. DistinctAlong w rest) (run_after (world_with p h) now (x ∷ []))
      (along p h (now ++ x ∷ []) rest (subst (λ xs. LawfulRun p h xs) (sym (next_before now x rest)) run)),
)

pub calls_are_distinct : CallsAreDistinct
calls_are_distinct p h xs run = along p h [] xs run
