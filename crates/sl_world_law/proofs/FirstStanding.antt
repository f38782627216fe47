-- What is kept of a header's world at moment 0, and the daemons that its session lines begin, stand for that world.
use Rattle.sl_area.specs.AreaSizes.{layout_of}
use Rattle.sl_world_state.specs.Daemons.{Stood, begun_with, program_of}
use Rattle.sl_world_state.specs.FirstKept.{first_machine, first_state, given_to, session_of}
use Rattle.sl_world_state.specs.KeptWorld.{KeptState}
use Rattle.sl_world_state.specs.SaneWorlds.{ReadsCommands, RunsOn, WorldStands}
use Rattle.sl_world_state.specs.ShownWorlds.{Tells, disks_of, shown, starting_of}
use Rattle.sl_world_law.proofs.MachineChanges.{names_on}
use Rattle.sl_world_law.proofs.FirstMachines.{first_worlds_are_sane}
use Rattle.sl_world_law.proofs.Sectors.{range_at}
use Rattle.sl_words.proofs.Lists.{contains_cases, contains_none, there_is}
use Rattle.sl_words.proofs.Options.{mapped_value}
use Rattle.sl_run.specs.Headers.{IsHeader}
use Rattle.sl_run.specs.Locks.{fresh_locks}
use Rattle.sl_run.specs.Worlds.{Daemon, Machine, World, clock_reading, daemons_on, first_numbers, first_stamp, machine_of_header, new_daemon, next_numbers, world_with}
use Rattle.sl_run.specs.declared.header.Header.{Header}
use Rattle.sl_run.specs.declared.header.SessionLine.{SessionLine}
use Rattle.sl_run_law.proofs.Front.JoinedLists.{contains_flat}
use Rattle.sl_world_law.proofs.PlainLists.{place_of_one}
use Rattle.sl_text.specs.Forms.{Form}
use Rattle.sl_trace.specs.WatchdogConnections.{given_connection}
use Rattle.sl_trace.specs.Traces.{Setting, Trace}
use Rattle.sl_trace.specs.declared.command.Command.{Command}
use Rattle.sl_words.proofs.CaseLaws.{some_value}
use Rattle.sl_world_law.proofs.FirstDaemons.{first_settings}
use Rattle.sl_world_law.proofs.DaemonsStand.{Hosted, standing}
use Rattle.sl_world_law.specs.WorldsStand.{EachStood, FirstWorldsStand, HasBegun, HaveBegun, PureDaemon, PureWorldsStand, first_site, is_trace_of, pure_hosts}
use Rattle.std.proofs.Common.{ap, ap₂, arith, inl, inr, refl, subst, sym, ◌∙◌}
use Rattle.std.proofs.lemmas.List.FromFn.{length-map-range_with_len, length-range_with_len}
use Rattle.std.proofs.lemmas.Option.{slice_get-map, slice_get_within}
use Rattle.std.specs.List.{cons_option, list_any, range_with_len}
use Rattle.std.specs.Prelude.{Contains, List, None, Option, Some, bytes_eq, filter_map, flat_map, is_some, map, option_map, slice_get, true, [], ℕ, ◌*◌, ◌++◌, ◌+◌, ◌<◌, ◌∷◌, ◌≡◌}

-- ---- what is kept

-- The daemon of a session line.
abbrev born : (Header → List (Form Command)) → Header → ℕ → SessionLine → Daemon
born commands h m s = new_daemon 0 (begun_with commands h (first_site h m s)) (first_stamp h m)

-- A machine of the first world.
abbrev begun : (Header → List (Form Command)) → Header → ℕ → Machine
begun commands h m = machine_of_header (program_of commands) (layout_of h.geometry) h m

some_born : (commands : Header → List (Form Command)) (h : Header) (m : ℕ) (o : Option SessionLine) → is_some (option_map (born commands h m) o) ≡ is_some o
some_born commands h m None = refl
some_born commands h m (Some s) = refl

numbers_born : (commands : Header → List (Form Command)) (h : Header) (m : ℕ) (a : Machine) (o : Option SessionLine)
    → next_numbers (record a { daemon = option_map (born commands h m) o; ended = [] }) ≡ first_numbers
numbers_born commands h m a None = refl
numbers_born commands h m a (Some s) = refl

starting_born : (commands : Header → List (Form Command)) (h : Header) (m : ℕ) (o : Option SessionLine) → starting_of (option_map (born commands h m) o) ≡ []
starting_born commands h m None = refl
starting_born commands h m (Some s) = refl

shows_first : (commands : Header → List (Form Command)) (h : Header) (m : ℕ) → shown h (begun commands h m) ≡ first_machine h m
unfolding shown machine_of_header
shows_first commands h m = λ j.
    record {
      up = true;
      used = some_born commands h m (session_of h m) j;
      runs = some_born commands h m (session_of h m) j;
      clock = 1000 * clock_reading h m;
      kept = 0;
      connections = map (given_connection h.timing) (given_to h m);
      next = numbers_born commands h m (begun commands h m) (session_of h m) j;
      starting = starting_born commands h m (session_of h m) j;
      flights = [];
      held = [];
      lingering = [];
      locks = fresh_locks h;
    }

all_show : (commands : Header → List (Form Command)) (h : Header) (ms : List ℕ) → map (shown h) (map (begun commands h) ms) ≡ map (first_machine h) ms
all_show commands h [] = refl
all_show commands h (m ∷ ms) = ap₂ (λ s ss. s ∷ ss) (shows_first commands h m) (all_show commands h ms)

-- The name of a machine's session line.
abbrev name_given : Header → ℕ → Option (List ℕ)
name_given h m = option_map (λ (s : SessionLine). s.name) (session_of h m)

names_born : (commands : Header → List (Form Command)) (h : Header) (ms : List ℕ) → flat_map names_on (map (begun commands h) ms) ≡ filter_map (name_given h) ms
unfolding machine_of_header
names_born commands h [] = refl
names_born commands h (m ∷ ms) = ap (λ ns. names_on (begun commands h m) ++ ns) (names_born commands h ms) ∙ go (session_of h m)
  where
    go : (o : Option SessionLine)
        → map (λ (d : Daemon). d.setting.name) (elim (option_map (born commands h m) o) as (λ x. List Daemon) [ None ↦ [] | Some d ↦ d ∷ [] ]) ++ filter_map (name_given h) ms
        ≡ cons_option (option_map (λ (s : SessionLine). s.name) o) (filter_map (name_given h) ms)
    go None = refl
    go (Some s) = refl

first_tells : (commands : Header → List (Form Command)) (h : Header) → Tells (first_state h) (world_with (program_of commands) h)
unfolding first_state disks_of
first_tells commands h =
    record {
      header = refl;
      layout = refl;
      moment = refl;
      machines = all_show commands h (range_with_len 1 h.machines);
      disks = refl;
      names = λ name. ap (list_any (bytes_eq name)) (names_born commands h (range_with_len 1 h.machines));
    }

-- ---- the daemons

-- What is made of each number stands at its place.
made_at : {A : Type 0} (f : ℕ → A) (n i : ℕ) (a : A) → slice_get (map f (range_with_len 1 n)) i ≡ Some a → (i < n) × (f (i + 1) ≡ a)
made_at f n i a at =
    let v = mapped_value f (slice_get (range_with_len 1 n) i) a (sym (slice_get-map f (range_with_len 1 n) i) ∙ at) in
    let inside : i < n = subst (λ k. i < k) (length-range_with_len 1 n) (slice_get_within (range_with_len 1 n) i v.0 v.1) in
    let number : i + 1 ≡ v.0 = turned i ∙ some_value (1 + i) v.0 (sym (range_at 1 n i inside) ∙ v.1) in
    (inside, ap f number ∙ v.2)
  where
    turned : (k : ℕ) → k + 1 ≡ 1 + k
    turned k = omega arith

runs_first : {D : Type 0} (commands : Header → List (Form Command)) (stands : D → Setting → Trace → Type 0) (h : Header) (m : ℕ) (q : Option SessionLine) (o : Option D)
    → HasBegun commands stands h m q o → RunsOn stands o (option_map (born commands h m) q)
runs_first commands stands h m None None b = tt
runs_first commands stands h m None (Some host) b = absurd b
runs_first commands stands h m (Some s) None b = absurd b
runs_first commands stands h m (Some s) (Some host) b = b

stood_first : {D : Type 0} (commands : Header → List (Form Command)) (stands : D → Setting → Trace → Type 0) (h : Header) → IsHeader h → ReadsCommands commands h → (m : ℕ)
    (q : Option SessionLine) (o : Option D) → session_of h m ≡ q → HasBegun commands stands h m q o → (d : Daemon)
    → Contains (elim (option_map (born commands h m) q) as (λ x. List Daemon) [ None ↦ [] | Some x ↦ x ∷ [] ]) d → Stood stands d.setting d.trace
stood_first commands stands h is reads m None o at b d inside = absurd (contains_none d inside)
stood_first commands stands h is reads m (Some s) None at b d inside = absurd b
stood_first commands stands h is reads m (Some s) (Some host) at b d inside =
    elim (contains_cases (born commands h m s) [] d inside) [
      | inl same ↦ subst (λ (x : Daemon). Stood stands x.setting x.trace) same
          (record { setting = first_settings commands h is reads m s at; trace = tt; daemon = host; stood = b })
      | inr more ↦ absurd (contains_none d more)
    ]

first_hosted : {D : Type 0} (commands : Header → List (Form Command)) (stands : D → Setting → Trace → Type 0) (h : Header) → IsHeader h → ReadsCommands commands h
    → (hosts : List (Option D)) → HaveBegun commands stands h hosts → Hosted stands hosts (world_with (program_of commands) h)
unfolding machine_of_header
first_hosted commands stands h is reads hosts b =
    record {
      counted = b.counted ∙ sym (length-map-range_with_len (begun commands h) 1 h.machines);
      runs = λ i a o at host. let p = made_at (begun commands h) h.machines i a at in
          subst (λ (x : Machine). RunsOn stands o x.daemon) p.1 (runs_first commands stands h (i + 1) (session_of h (i + 1)) o (b.each i o host));
      stood = λ i a d at inside. let p = made_at (begun commands h) h.machines i a at in
          let o = there_is hosts i (subst (λ n. i < n) (sym b.counted) p.0) in
          stood_first commands stands h is reads (i + 1) (session_of h (i + 1)) o.0 refl (b.each i o.0 o.1) d (subst (λ (x : Machine). Contains (daemons_on x) d) (sym p.1) inside);
    }

pub first_worlds_stand : {D : Type 0} (commands : Header → List (Form Command)) (stands : D → Setting → Trace → Type 0) → FirstWorldsStand commands stands
first_worlds_stand commands stands h is reads hosts b =
    standing commands stands (first_state h) hosts (world_with (program_of commands) h) (first_tells commands h) (first_worlds_are_sane commands h is) reads
    (first_hosted commands stands h is reads hosts b)

-- ---- daemons that are their traces

pure_begun : (commands : Header → List (Form Command)) (h : Header) (m : ℕ) (q : Option SessionLine)
    → HasBegun commands is_trace_of h m q (option_map (λ s. record { setting = begun_with commands h (first_site h m s); trace = [] }) q)
pure_begun commands h m None = tt
pure_begun commands h m (Some s) = (refl, refl)

pub pure_worlds_stand : PureWorldsStand
pure_worlds_stand commands h is reads =
    first_worlds_stand commands is_trace_of h is reads (pure_hosts commands h) (record {
      counted = length-map-range_with_len here 1 h.machines;
      each = λ i o at. subst (HasBegun commands is_trace_of h (i + 1) (session_of h (i + 1))) (made_at here h.machines i o at).1
          (pure_begun commands h (i + 1) (session_of h (i + 1)));
    })
  where
    here : ℕ → Option PureDaemon
    here m = option_map (λ s. record { setting = begun_with commands h (first_site h m s); trace = [] }) (session_of h m)

-- ---- each daemon

pub each_stood : {D : Type 0} (commands : Header → List (Form Command)) (stands : D → Setting → Trace → Type 0) → EachStood commands stands
each_stood commands stands k hosts w t d inside =
    let a = contains_flat daemons_on w.machines d inside in
    let at = place_of_one w.machines a.0 a.1 in
    t.stood at.0 a.0 d at.2 a.2

-- ---- names in another order

pub other_names : {D : Type 0} (commands : Header → List (Form Command)) (stands : D → Setting → Trace → Type 0) (k : KeptState) (hosts : List (Option D)) (w : World)
    → WorldStands commands stands k hosts w → (ns : List (List ℕ)) → ((name : List ℕ) → list_any (bytes_eq name) k.names ≡ list_any (bytes_eq name) ns)
    → WorldStands commands stands (record k { names = ns }) hosts w
other_names commands stands k hosts w t ns same =
    record {
      tells = record {
        header = t.tells.header;
        layout = t.tells.layout;
        moment = t.tells.moment;
        machines = t.tells.machines;
        disks = t.tells.disks;
        names = λ name. t.tells.names name ∙ same name;
      };
      sane = t.sane;
      reads = t.reads;
      counted = t.counted;
      runs = t.runs;
      stood = t.stood;
    }
