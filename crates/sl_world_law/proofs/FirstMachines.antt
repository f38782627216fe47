-- The world of a header, and its machines.
use Rattle.sl_area.specs.AreaSizes.{Layout, layout_with}
use Rattle.sl_world_state.specs.Daemons.{program_of}
use Rattle.sl_world_state.specs.SaneWorlds.{IsSaneMachine}
use Rattle.sl_world_law.specs.FirstWorlds.{FirstWorldsAreSane}
use Rattle.sl_words.proofs.Lists.{contains_cases, contains_none, find_inside}
use Rattle.sl_words.proofs.Options.{mapped_value}
use Rattle.sl_run.specs.Headers.{IsHeader}
use Rattle.sl_run.specs.Worlds.{Daemon, Machine, Program, clock_reading, daemons_on, first_numbers, first_stamp, given_of, machine_of_header, new_daemon, setting_of, world_with}
use Rattle.sl_run.specs.declared.header.FirstReading.{FirstReading}
use Rattle.sl_run.specs.declared.header.Header.{Header}
use Rattle.sl_run.specs.declared.header.LockspaceLine.{LockspaceLine}
use Rattle.sl_run.specs.declared.header.SessionLine.{SessionLine}
use Rattle.sl_time.specs.Times.{reading_of}
use Rattle.sl_trace.specs.Traces.{children, first_child, last_reading, outstanding}
use Rattle.sl_trace.specs.declared.input.Given.{Given}
use Rattle.sl_words.proofs.CaseLaws.{none_some}
use Rattle.sl_words.specs.Bounds.{moments}
use Rattle.sl_words.specs.Words.{greatest}
use Rattle.std.proofs.Common.{ap, arith, inl, inr, refl, subst, sym, ◌∙◌}
use Rattle.std.proofs.lemmas.List.FromFn.{length-map-range_with_len}
use Rattle.std.proofs.lemmas.Option.{slice_get-map}
use Rattle.std.specs.List.{cons_option, range_with_len}
use Rattle.std.specs.Option.{option_map_or}
use Rattle.std.specs.Prelude.{Bool, Contains, List, None, Option, Some, bytes_eq, false, filter_map, find, is_some, length, map, max, option_map, slice_get, true, [], ℕ, ◌*◌, ◌+◌, ◌<◌, ◌==◌, ◌^◌, ◌∷◌, ◌≡◌, ◌≤◌}

-- ---- readings

first_reading : (h : Header) → IsHeader h → (m : ℕ) (o : Option FirstReading) → find (λ (c : FirstReading). c.machine == m) h.clocks ≡ o
    → option_map_or (λ (c : FirstReading). c.reading) o 0 < 10 ^ 12
first_reading h is m None at = omega arith
first_reading h is m (Some c) at = (is.clocks c (find_inside (λ (x : FirstReading). x.machine == m) h.clocks c at).0).2

whole_reading : (n : ℕ) → reading_of (1000 * n) ≡ n
whole_reading n = omega arith

given_reading : (h : Header) (m : ℕ) (s : SessionLine) (b : Bool) (g : Given) → (s.machine == m) ≡ b → given_of h m s ≡ Some g → g.renewed ≡ clock_reading h m
given_reading h m s b g is gives = go b (sym (ap given_if is) ∙ gives)
  where
    given_by : LockspaceLine → Given
    given_by l = record { lockspace = s.lockspace; id = s.id; path = l.path; offset = l.offset; renewed = clock_reading h m }

    given_if : Bool → Option Given
    given_if b = elim b [ false ↦ None | true ↦ option_map given_by (find (λ (l : LockspaceLine). bytes_eq l.name s.lockspace) h.lockspaces) ]

    go : (b : Bool) → given_if b ≡ Some g → g.renewed ≡ clock_reading h m
    go false gives = absurd (none_some g gives)
    go true gives =
        ap (λ (x : Given). x.renewed) (sym (mapped_value given_by (find (λ (l : LockspaceLine). bytes_eq l.name s.lockspace) h.lockspaces) g gives).2)

max_below : (a b c : ℕ) → a ≤ c → b ≤ c → max a b ≤ c
max_below a b c first second = omega (arith, first, second)

givens_below : (h : Header) (m : ℕ) (ss : List SessionLine) → greatest (map (λ (g : Given). g.renewed) (filter_map (given_of h m) ss)) ≤ clock_reading h m
givens_below h m [] = omega arith
givens_below h m (s ∷ ss) = go (given_of h m s) refl (givens_below h m ss)
  where
    go : (o : Option Given) → given_of h m s ≡ o → greatest (map (λ (g : Given). g.renewed) (filter_map (given_of h m) ss)) ≤ clock_reading h m
        → greatest (map (λ (g : Given). g.renewed) (filter_map (given_of h m) (s ∷ ss))) ≤ clock_reading h m
    go None at rest =
        subst (λ o. greatest (map (λ (g : Given). g.renewed) (cons_option o (filter_map (given_of h m) ss))) ≤ clock_reading h m) (sym at) rest
    go (Some g) at rest =
        subst (λ o. greatest (map (λ (g : Given). g.renewed) (cons_option o (filter_map (given_of h m) ss))) ≤ clock_reading h m) (sym at)
        (max_below g.renewed (greatest (map (λ (x : Given). x.renewed) (filter_map (given_of h m) ss))) (clock_reading h m)
        (let same = given_reading h m s (s.machine == m) g refl at in omega (arith, same)) rest)

-- ---- machines

-- The daemon of session lines.
abbrev born : Program → Layout → Header → ℕ → SessionLine → Daemon
born p g h m s = new_daemon 0 (setting_of p g h m s.name first_numbers (filter_map (given_of h m) h.sessions)) (first_stamp h m)

first_machine : (p : Program) (g : Layout) (h : Header) → IsHeader h → (m : ℕ) → IsSaneMachine (world_with p h) (machine_of_header p g h m)
unfolding machine_of_header
first_machine p g h is m =
    record {
      resets = λ r there. absurd (contains_none r there);
      made = λ c there. absurd (contains_none c there);
      distinct = λ i j d less inside. absurd (omega (arith, inside));
      numbers = λ c there. absurd (contains_none c there);
      daemons = λ c there. absurd (contains_none c there);
      newest = λ d runs. newest d runs (one_born d runs);
      used = λ d runs. ap is_some runs;
      up = λ d runs. refl;
      open_calls = λ d runs. no_calls d (one_born d runs);
      children_numbered = λ d runs. no_children d (one_born d runs);
      time = λ d runs. in_order d (one_born d runs);
      calls = λ c there. absurd (contains_none c there);
      reads = λ c there. absurd (contains_none c there);
      in_time = (below, omega arith);
    }
  where
    sessions : Option SessionLine
    sessions = find (λ (s : SessionLine). s.machine == m) h.sessions

    one_born : (d : Daemon) → option_map (born p g h m) sessions ≡ Some d → (s : SessionLine) × (born p g h m s ≡ d)
    one_born d runs = let v = mapped_value (born p g h m) sessions d runs in (v.0, v.2)

    newest : (d : Daemon) → option_map (born p g h m) sessions ≡ Some d → (s : SessionLine) × (born p g h m s ≡ d) → d.number + 1 ≡ length (daemons_on (machine_of_header p g h m))
    newest d runs (s, is_d) =
        ap (λ (x : Daemon). x.number + 1) (sym is_d) ∙ sym (ap (λ (o : Option Daemon). length (elim o as (λ z. List Daemon) [ None ↦ [] | Some x ↦ x ∷ [] ])) runs)

    no_calls : (d : Daemon) → (s : SessionLine) × (born p g h m s ≡ d) → map (λ x. x.call) (outstanding d.trace) ≡ []
    no_calls d (s, is_d) = ap (λ (x : Daemon). map (λ y. y.call) (outstanding x.trace)) (sym is_d)

    no_children : (d : Daemon) → (s : SessionLine) × (born p g h m s ≡ d) → map (λ k. k.process) (children d.trace) ≡ range_with_len first_child (length (children d.trace))
    no_children d (s, is_d) = subst (λ (x : Daemon). map (λ k. k.process) (children x.trace) ≡ range_with_len first_child (length (children x.trace))) is_d refl

    in_order : (d : Daemon) → (s : SessionLine) × (born p g h m s ≡ d) → last_reading d.setting d.trace ≤ reading_of (1000 * clock_reading h m)
    in_order d (s, is_d) =
        subst (λ (x : Daemon). last_reading x.setting x.trace ≤ reading_of (1000 * clock_reading h m)) is_d
        (let most = givens_below h m h.sessions in let same = whole_reading (clock_reading h m) in omega (arith, most, same))

    below : reading_of (1000 * clock_reading h m) < moments
    below =
        let first = first_reading h is m (find (λ (c : FirstReading). c.machine == m) h.clocks) refl in
        let same = whole_reading (clock_reading h m) in
        omega (arith, first, same)

-- A daemon of the first world is one of its session lines.
line_of : (p : Program) (g : Layout) (h : Header) (m : ℕ) (d : Daemon) → Contains (daemons_on (machine_of_header p g h m)) d → (s : SessionLine) × (born p g h m s ≡ d)
unfolding machine_of_header
line_of p g h m d inside = go (find (λ (s : SessionLine). s.machine == m) h.sessions) inside
  where
    go : (o : Option SessionLine) → Contains (elim (option_map (born p g h m) o) as (λ z. List Daemon) [ None ↦ [] | Some x ↦ x ∷ [] ]) d → (s : SessionLine) × (born p g h m s ≡ d)
    go None there = absurd (contains_none d there)
    go (Some s) there = elim (contains_cases (born p g h m s) [] d there) [
      | inl same ↦ (s, same)
      | inr more ↦ absurd (contains_none d more)
    ]

pub first_worlds_are_sane : FirstWorldsAreSane
first_worlds_are_sane commands h is =
    record {
      header = is;
      program = refl;
      counted = length-map-range_with_len (machine_of_header p g h) 1 h.machines;
      below = omega arith;
      sane = λ i a at. let v = at_place i a at in subst (IsSaneMachine (world_with p h)) v.1 (first_machine p g h is v.0);
      layout = refl;
      forms = λ i a d at inside. ap (λ (x : Daemon). x.setting.read) (sym (line_at i a d at inside).2);
      layouts = λ i a d at inside. ap (λ (x : Daemon). x.setting.layout) (sym (line_at i a d at inside).2);
      landings = λ l there. absurd (contains_none l there);
    }
  where
    p : Program
    p = program_of commands

    g : Layout
    g = layout_with p.digest h.geometry

    at_place : (i : ℕ) (a : Machine) → slice_get (map (machine_of_header p g h) (range_with_len 1 h.machines)) i ≡ Some a → (m : ℕ) × (machine_of_header p g h m ≡ a)
    at_place i a at =
        let v = mapped_value (machine_of_header p g h) (slice_get (range_with_len 1 h.machines) i) a (sym (slice_get-map (machine_of_header p g h) (range_with_len 1 h.machines) i) ∙ at) in
        (v.0, v.2)

    line_at : (i : ℕ) (a : Machine) (d : Daemon) → slice_get (map (machine_of_header p g h) (range_with_len 1 h.machines)) i ≡ Some a → Contains (daemons_on a) d
        → (m : ℕ) × (s : SessionLine) × (born p g h m s ≡ d)
    line_at i a d at inside =
        let v = at_place i a at in
        let l = line_of p g h v.0 d (subst (λ (x : Machine). Contains (daemons_on x) d) (sym v.1) inside) in
        (v.0, l.0, l.1)
