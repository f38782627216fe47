-- Daemons of one name are one daemon: one that begins has a name that none had.
use Rattle.sl_area.specs.AreaSizes.{layout_with}
use Rattle.sl_run_law.proofs.Course.Daemons.{all_ended, daemons_are, entry_of, every_has, first_daemons, step_daemon, step_ended}
use Rattle.sl_run_law.proofs.Course.MachinesKeep.{Goes_on, header_machine, was_before}
use Rattle.sl_run_law.proofs.Course.MachineTurns.{Alone, Began, Called, Came_up, Clocked, Crashed, Elsewhere, Stays, Stepped, Tested, Took, Turned, Went_down}
use Rattle.sl_run_law.specs.Course.Mirrors.{NamesAreApart}
use Rattle.sl_run_law.specs.Course.CourseLaws.{DaemonNamesAreApart}
use Rattle.sl_run_law.proofs.Front.RunsFromFronts.{run_keeps}
use Rattle.sl_run_law.proofs.Front.JoinedLists.{in_flat}
use Rattle.sl_words.proofs.Lists.{contains_cases, contains_first, contains_map, contains_more, contains_none, got_inside}
use Rattle.sl_run.specs.EventChanges.{first_change, next_step, with_entry}
use Rattle.sl_run.specs.Inputs.{machine_of}
use Rattle.sl_run.specs.Headers.{GoTogether, IsHeader}
use Rattle.sl_run.specs.Runs.{Happening}
use Rattle.sl_run.specs.Safety.{LawfulRun, world_at}
use Rattle.sl_run.specs.Worlds.{Daemon, Machine, Program, Stamp, World, daemons_on, machine_at, machine_of_header, names_of, new_daemon, next_numbers, setting_of, stamp_now, world_with}
use Rattle.sl_run.specs.declared.event.Event.TheVariants.{StartDaemon}
use Rattle.sl_run.specs.declared.event.Event.{Event}
use Rattle.sl_run.specs.declared.header.Header.{Header}
use Rattle.sl_run.specs.declared.header.SessionLine.{SessionLine}
use Rattle.sl_run_law.proofs.MachineWalk.{index}
use Rattle.sl_run_law.specs.DaemonsGoOn.{IsSettled}
use Rattle.sl_run_law.proofs.Sessions.SessionNames.{same_name}
use Rattle.sl_trace.specs.Traces.{Setting}
use Rattle.sl_trace.specs.declared.effects.Effects.{Effects}
use Rattle.sl_trace.specs.declared.effects.Entry.{Entry}
use Rattle.sl_words.proofs.CaseLaws.{none_some, not_both, one_value, some_value}
use Rattle.std.proofs.Common.{ap, arith, inl, inr, refl, subst, sym, ◌∙◌}
use Rattle.std.proofs.lemmas.Bool.{or_left, or_right}
use Rattle.std.proofs.lemmas.Bool.Decides.{Decides-eqb}
use Rattle.std.specs.List.{list_any}
use Rattle.std.specs.Prelude.{AllPairs, Bool, Contains, List, None, Option, Some, bytes_eq, false, find, if◌then◌else◌, length, map, option_map, slice_index_or, suc, true, zero, [], ℕ, ◌++◌, ◌-◌, ◌<◌, ◌==◌, ◌∷◌, ◌≡◌, ◌⊎◌}

-- ---- where a daemon comes from

-- A daemon of before, with the same name and number.
pub record WasThere (a : Machine) (d : Daemon) : Type 0 where
  pub daemon : Daemon
  pub has : Contains (daemons_on a) daemon
  pub number : daemon.number ≡ d.number
  pub setting : daemon.setting ≡ d.setting

-- One that begins.
pub record HasBegun (w : World) (e : Event) (m : ℕ) (a : Machine) (d : Daemon) : Type 0 where
  pub name : List ℕ
  pub event : e ≡ StartDaemon m name
  pub fresh : list_any (bytes_eq name) (names_of w) ≡ false
  pub number : d.number ≡ length (daemons_on a)
  pub is_named : d.setting.name ≡ name

abbrev pub Origin : World → Event → ℕ → Machine → Daemon → Type 0
Origin w e m a d = WasThere a d ⊎ HasBegun w e m a d

itself : (a b : Machine) (d : Daemon) → daemons_on b ≡ daemons_on a → Contains (daemons_on b) d → WasThere a d
itself a b d same has = record { daemon = d; has = subst (λ ds. Contains ds d) same has; number = refl; setting = refl }

turned_origin : (w : World) (e : Event) (m : ℕ) (a b : Machine) (d : Daemon) → IsSettled a → Turned w e m a b → Contains (daemons_on b) d → Origin w e m a d
turned_origin w e m a b d s (Stays is) has = inl (itself a b d (ap daemons_on is) has)
turned_origin w e m a b d s (Clocked n is) has = inl (itself a b d (ap daemons_on is) has)
turned_origin w e m a b d s (Called n f g h k is) has = inl (itself a b d (ap daemons_on is) has)
turned_origin w e m a b d s (Tested t is) has = inl (itself a b d (ap daemons_on is) has)
turned_origin w e m a b d s (Crashed event is) has = inl (itself a b d (ap daemons_on is) has)
turned_origin w e m a b d s (Went_down event up is) has = inl (itself a b d (ap daemons_on is) has)
turned_origin w e m a b d s (Came_up event down is) has = inl (itself a b d (ap daemons_on is) has)
turned_origin w e m a b d s (Began name event up used fresh is) has =
    let new : Daemon = new_daemon (length (daemons_on a)) (setting_of w.program w.layout w.header m name (next_numbers a) []) (stamp_now w a) in
    let same : daemons_on b ≡ new ∷ daemons_on a = ap daemons_on is ∙ ap (λ ds. new ∷ ds) (all_ended a (s.unused used)) in
    elim (contains_cases new (daemons_on a) d (subst (λ ds. Contains ds d) same has)) as (λ z. Origin w e m a d) [
      | inl is_new ↦ inr (record {
        name = name;
        event = event;
        fresh = fresh;
        number = ap (λ (x : Daemon). x.number) (sym is_new);
        is_named = ap (λ (x : Daemon). x.setting.name) (sym is_new);
      })
      | inr old ↦ inl (record { daemon = d; has = old; number = refl; setting = refl })
    ]

entered_origin : (b c : Machine) (e : Entry) (s : Stamp) (d : Daemon) (o : Option Daemon) → b.daemon ≡ o → c.daemon ≡ option_map (with_entry e s) o → c.ended ≡ b.ended
    → Contains (daemons_on c) d → WasThere b d
entered_origin b c e s d None was is ended has = itself b c d (sym (all_ended c is) ∙ ended ∙ all_ended b was) has
entered_origin b c e s d (Some y) was is ended has =
    let before : daemons_on b ≡ y ∷ b.ended = daemons_are b y was in
    let after : daemons_on c ≡ with_entry e s y ∷ b.ended = daemons_are c (with_entry e s y) is ∙ ap (λ ds. with_entry e s y ∷ ds) ended in
    elim (contains_cases (with_entry e s y) b.ended d (subst (λ ds. Contains ds d) after has)) as (λ z. WasThere b d) [
      | inl this ↦ record {
        daemon = y;
        has = subst (λ ds. Contains ds y) (sym before) (contains_first y b.ended);
        number = ap (λ (x : Daemon). x.number) this;
        setting = ap (λ (x : Daemon). x.setting) this;
      }
      | inr old ↦ record { daemon = d; has = subst (λ ds. Contains ds d) (sym before) (contains_more y b.ended d old); number = refl; setting = refl }
    ]

stepped_origin : (w : World) (e : Event) (fx : Effects) (m : ℕ) (b c : Machine) (d : Daemon) → Stepped w e fx m b c → Contains (daemons_on c) d → WasThere b d
stepped_origin w e fx m b c d (Elsewhere is) has = itself b c d (ap daemons_on is) has
stepped_origin w e fx m b c d (Alone none same is) has = itself b c d (ap daemons_on is) has
stepped_origin w e fx m b c d (Took i given same is) has =
    let now : Stamp = stamp_now (next_step (first_change e w)) b in
    entered_origin b c (entry_of i fx b) now d b.daemon refl (ap (λ (x : Machine). x.daemon) is ∙ step_daemon now i fx b)
    (ap (λ (x : Machine). x.ended) is ∙ step_ended now i fx b) has

then_origin : (w : World) (e : Event) (m : ℕ) (a : Machine) (y d : Daemon) → y.number ≡ d.number → y.setting ≡ d.setting → Origin w e m a y → Origin w e m a d
then_origin w e m a y d number setting (inl old) =
    inl (record { daemon = old.daemon; has = old.has; number = old.number ∙ number; setting = old.setting ∙ setting })
then_origin w e m a y d number setting (inr new) =
    inr (record {
      name = new.name;
      event = new.event;
      fresh = new.fresh;
      number = sym number ∙ new.number;
      is_named = ap (λ (x : Setting). x.name) (sym setting) ∙ new.is_named;
    })

pub origin : (p : Program) (h : Header) (now : List Happening) (x : Happening) (m : ℕ) (a c : Machine) (d : Daemon) → Goes_on p h now x m a c → Contains (daemons_on c) d
    → Origin (world_at p h now) x.0 m a d
origin p h now x m a c d g has =
    let w : World = world_at p h now in
    let b : Machine = g.becomes.middle in
    let y = stepped_origin w x.0 g.effects m b c d g.becomes.stepped has in
    then_origin w x.0 m a y.daemon d y.number y.setting (turned_origin w x.0 m a b y.daemon g.settled g.becomes.turned y.has)

-- ---- names

any_inside : (p : List ℕ → Bool) (xs : List (List ℕ)) (x : List ℕ) → Contains xs x → p x ≡ true → list_any p xs ≡ true
any_inside p [] x has is = absurd (contains_none x has)
any_inside p (y ∷ xs) x has is =
    elim (contains_cases y xs x has) as (λ z. list_any p (y ∷ xs) ≡ true) [
      | inl same ↦ or_left (p y) (list_any p xs) (ap p same ∙ is)
      | inr more ↦ or_right (p y) (list_any p xs) (any_inside p xs x more is)
    ]

-- A name that is fresh is no daemon's.
fresh_is_new : (w : World) (m : ℕ) (a : Machine) (d : Daemon) (name : List ℕ) → machine_at w m ≡ Some a → Contains (daemons_on a) d
    → list_any (bytes_eq name) (names_of w) ≡ false → d.setting.name ≡ name → ⊥
fresh_is_new w m a d name at has fresh is =
    let inside : Contains (names_of w) d.setting.name =
    in_flat (λ (x : Machine). map (λ (y : Daemon). y.setting.name) (daemons_on x)) w.machines a d.setting.name (got_inside w.machines (m - 1) a (index w m a at).1)
    (contains_map (λ (y : Daemon). y.setting.name) (daemons_on a) d has) in
    not_both (list_any (bytes_eq name) (names_of w)) (any_inside (bytes_eq name) (names_of w) d.setting.name inside (ap (bytes_eq name) is ∙ same_name name)) fresh

both_old : (w : World) (m n : ℕ) (a b : Machine) (d e : Daemon) → NamesAreApart w → machine_at w m ≡ Some a → machine_at w n ≡ Some b → WasThere a d → WasThere b e
    → d.setting.name ≡ e.setting.name → (m ≡ n) × (d.number ≡ e.number)
both_old w m n a b d e apart at there x y same =
    let p = apart m n a b x.daemon y.daemon at there x.has y.has
    (ap (λ (s : Setting). s.name) x.setting ∙ same ∙ ap (λ (s : Setting). s.name) (sym y.setting)) in
    (p.0, sym x.number ∙ p.1 ∙ y.number)

old_and_new : (w : World) (x : Event) (m n : ℕ) (a b : Machine) (d e : Daemon) → machine_at w m ≡ Some a → WasThere a d → HasBegun w x n b e → d.setting.name ≡ e.setting.name → ⊥
old_and_new w x m n a b d e at old new same =
    fresh_is_new w m a old.daemon new.name at old.has new.fresh (ap (λ (s : Setting). s.name) old.setting ∙ same ∙ new.is_named)

both_new : (w : World) (x : Event) (m n : ℕ) (a b : Machine) (d e : Daemon) → machine_at w m ≡ Some a → machine_at w n ≡ Some b → HasBegun w x m a d → HasBegun w x n b e
    → (m ≡ n) × (d.number ≡ e.number)
both_new w x m n a b d e at there new newer =
    let one : m ≡ n = ap machine_of (sym new.event ∙ newer.event) in
    let same : a ≡ b = one_value a b (machine_at w n) (subst (λ k. machine_at w k ≡ Some a) one at) there in
    (one, new.number ∙ ap (λ (y : Machine). length (daemons_on y)) same ∙ sym newer.number)

apart_by : (w : World) (x : Event) (m n : ℕ) (a b : Machine) (d e : Daemon) → NamesAreApart w → machine_at w m ≡ Some a → machine_at w n ≡ Some b → Origin w x m a d → Origin w x n b e
    → d.setting.name ≡ e.setting.name → (m ≡ n) × (d.number ≡ e.number)
apart_by w x m n a b d e apart at there (inl old) (inl older) same = both_old w m n a b d e apart at there old older same
apart_by w x m n a b d e apart at there (inl old) (inr new) same = absurd (old_and_new w x m n a b d e at old new same)
apart_by w x m n a b d e apart at there (inr new) (inl old) same = absurd (old_and_new w x n m b a e d there old new (sym same))
apart_by w x m n a b d e apart at there (inr new) (inr newer) same = both_new w x m n a b d e at there new newer

-- ---- at first

-- The session line that a daemon was made for.
record IsOfLine (h : Header) (m : ℕ) (d : Daemon) : Type 0 where
  line : SessionLine
  found : find (λ x. x.machine == m) h.sessions ≡ Some line
  is_named : d.setting.name ≡ line.name
  number : d.number ≡ 0

of_line : (p : Program) (h : Header) (m : ℕ) (a : Machine) (d : Daemon) → machine_at (world_with p h) m ≡ Some a → Contains (daemons_on a) d → IsOfLine h m d
of_line p h m a d at has =
    let b : Machine = machine_of_header p (layout_with p.digest h.geometry) h m in
    every_has (IsOfLine h m) (daemons_on b) d
    (first_daemons p (layout_with p.digest h.geometry) h m (IsOfLine h m) (λ s is. record { line = s; found = is; is_named = refl; number = refl }))
    (subst (λ (y : Machine). Contains (daemons_on y) d) (header_machine p h m a at) has)

-- The first line of a machine, with its place among the lines.
record IsPlaced (k : ℕ) (ls : List SessionLine) (s : SessionLine) : Type 0 where
  machine : s.machine ≡ k
  index : ℕ
  below : index < length ls
  is : (d : SessionLine) → slice_index_or ls index d ≡ s

placed_by : (k : ℕ) (x : SessionLine) (ls : List SessionLine) (s : SessionLine) (t : Bool) → (x.machine == k) ≡ t
    → (if t then Some x else find (λ (y : SessionLine). y.machine == k) ls) ≡ Some s
    → (find (λ (y : SessionLine). y.machine == k) ls ≡ Some s → IsPlaced k ls s) → IsPlaced k (x ∷ ls) s
placed_by k x ls s true is h rest =
    let same : x ≡ s = some_value x s h in
    record { machine = ap (λ (y : SessionLine). y.machine) (sym same) ∙ (Decides-eqb x.machine k).0 is; index = 0; below = omega arith; is = λ d. same }
placed_by k x ls s false is h rest =
    let r : IsPlaced k ls s = rest h in
    let below : suc r.index < length (x ∷ ls) = omega (arith, r.below) in
    record { machine = r.machine; index = suc r.index; below = below; is = r.is }

placed : (k : ℕ) (ls : List SessionLine) (s : SessionLine) → find (λ (y : SessionLine). y.machine == k) ls ≡ Some s → IsPlaced k ls s
placed k [] s h = absurd (none_some s h)
placed k (x ∷ ls) s h = placed_by k x ls s (x.machine == k) refl h (placed k ls s)

three_ways : (i j : ℕ) → (i < j) ⊎ ((i ≡ j) ⊎ (j < i))
three_ways zero zero = inr (inl refl)
three_ways zero (suc j) = inl (omega arith)
three_ways (suc i) zero = inr (inr (omega arith))
three_ways (suc i) (suc j) =
    elim (three_ways i j) as (λ z. (suc i < suc j) ⊎ ((suc i ≡ suc j) ⊎ (suc j < suc i))) [
      | inl less ↦ inl (omega (arith, less))
      | inr rest ↦ elim rest as (λ z. (suc i < suc j) ⊎ ((suc i ≡ suc j) ⊎ (suc j < suc i))) [
        | inl same ↦ inr (inl (ap (λ n. suc n) same))
        | inr more ↦ inr (inr (omega (arith, more)))
      ]
    ]

go_together : (ls : List SessionLine) (k j : ℕ) (s t : SessionLine) → AllPairs GoTogether ls → (x : IsPlaced k ls s) → (y : IsPlaced j ls t) → x.index < y.index → GoTogether s t
go_together ls k j s t all x y less = subst (λ z. GoTogether z t) (x.is s) (subst (GoTogether (slice_index_or ls x.index s)) (y.is s) (all x.index y.index s less y.below))

-- Lines of one name are of one machine.
one_machine : (ls : List SessionLine) (k j : ℕ) (s t : SessionLine) → AllPairs GoTogether ls → IsPlaced k ls s → IsPlaced j ls t → s.name ≡ t.name → k ≡ j
one_machine ls k j s t all x y same =
    sym x.machine ∙ (elim (three_ways x.index y.index) as (λ z. s.machine ≡ t.machine) [
      | inl less ↦ (go_together ls k j s t all x y less).names.0 same
      | inr rest ↦ elim rest as (λ z. s.machine ≡ t.machine) [
        | inl here ↦ ap (λ (z : SessionLine). z.machine) (sym (x.is s) ∙ ap (λ i. slice_index_or ls i s) here ∙ y.is s)
        | inr more ↦ sym ((go_together ls j k t s all y x more).names.0 (sym same))
      ]
    ]) ∙ y.machine

first_apart : (p : Program) (h : Header) → IsHeader h → NamesAreApart (world_with p h)
first_apart p h head m n a b d e at there has had same =
    let x = of_line p h m a d at has in
    let y = of_line p h n b e there had in (
      one_machine h.sessions m n x.line y.line head.together (placed m h.sessions x.line x.found) (placed n h.sessions y.line y.found)
          (sym x.is_named ∙ same ∙ y.is_named),
      x.number ∙ sym y.number,
    )

-- ---- runs

next_apart : (p : Program) (h : Header) (now : List Happening) (x : Happening) → LawfulRun p h (now ++ x ∷ []) → NamesAreApart (world_at p h now)
    → NamesAreApart (world_at p h (now ++ x ∷ []))
next_apart p h now x run apart m n a b d e at there has had same =
    let y = was_before p h now x run m a at in
    let z = was_before p h now x run n b there in
    apart_by (world_at p h now) x.0 m n y.0 z.0 d e apart y.1.at z.1.at (origin p h now x m y.0 a d y.1 has) (origin p h now x n z.0 b e z.1 had) same

pub daemon_names_are_apart : DaemonNamesAreApart
daemon_names_are_apart p h xs run =
    run_keeps p h (λ ys. NamesAreApart (world_at p h ys)) (record { first = first_apart p h run.header; next = next_apart p h }) xs run
