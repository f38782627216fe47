-- A step of a machine's daemon, or of the machine itself, leaves it watched.
use Rattle.sl_run_law.specs.Course.Mirrors.{AreNumbered, since_restart}
use Rattle.sl_run.specs.Lawful.{Orderly}
use Rattle.sl_words.proofs.Lists.{contains_cases, contains_first, contains_none, kept_inside}
use Rattle.sl_run.specs.EventChanges.{after_effects, after_step, daemon_number, new_course, with_entry}
use Rattle.sl_run.specs.Locks.{Locks, left_locks}
use Rattle.sl_run.specs.Worlds.{Course, Daemon, Machine, Stamp, daemons_on, may_land, reading_now, resets_after}
use Rattle.sl_run_law.proofs.CoursesGoOn.{told}
use Rattle.sl_time.specs.Times.{IsTiming, TimingNumbers, fail, reading_of}
use Rattle.sl_trace.specs.WatchdogConnections.{Connection, after_move}
use Rattle.sl_trace.specs.Traces.{held_after, is_ok_answer}
use Rattle.sl_trace.specs.declared.effects.Call.{Call}
use Rattle.sl_trace.specs.declared.effects.Effects.{Effects}
use Rattle.sl_trace.specs.declared.effects.Entry.{Entry}
use Rattle.sl_trace.specs.declared.effects.Grant.{Grant}
use Rattle.sl_trace.specs.declared.input.Input.TheVariants.{Answer as Told, Exit, Line, Number, Spawned, Wake}
use Rattle.sl_trace.specs.declared.input.Input.{Input}
use Rattle.sl_run_law.proofs.Watchdog.ChangesKeepWatch.{if_changed, told_goes}
use Rattle.sl_run_law.proofs.Watchdog.Freshness.{IsFresh, some_fail, stays_fresh}
use Rattle.sl_run_law.proofs.Watchdog.KnownMachines.{IsKnown}
use Rattle.sl_run_law.proofs.Watchdog.Machines.{GoesOn, IsWatched, first_by, goes_mapped, goes_same, lately_still, lost_by, lost_daemons, steps_keep}
use Rattle.sl_run_law.proofs.Watchdog.Stamps.{GivenNow}
use Rattle.sl_words.proofs.CaseLaws.{no_value, none_some, some_value}
use Rattle.std.proofs.Common.{ap, arith, inl, inr, refl, subst, sym, tests, ◌∙◌}
use Rattle.std.proofs.lemmas.Bool.{and_from}
use Rattle.std.specs.Option.{option_map_or}
use Rattle.std.specs.Prelude.{Bool, Contains, List, None, Option, Some, [], false, fold, length, map, nat_lt, option_map, true, ℕ, ◌&&◌, ◌+◌, ◌<◌, ◌==◌, ◌∷◌, ◌≡◌, ◌≤◌, ◌⊎◌}

-- ---- the daemon that runs

abbrev daemons_by : Option Daemon → List Daemon → List Daemon
daemons_by o ds = elim o [ None ↦ ds | Some d ↦ d ∷ ds ]

since_running : (b : Machine) (d : Daemon) → b.daemon ≡ Some d → b.up ≡ true → b.used ≡ true → since_restart b ≡ Some d
since_running b d runs up used =
    ap (λ t. first_by t (daemons_on b)) (and_from b.up b.used up used) ∙ ap (λ o. first_by true (daemons_by o b.ended)) runs

pub lost_running : (b : Machine) (d : Daemon) → b.daemon ≡ Some d → b.up ≡ true → b.used ≡ true → lost_daemons b ≡ b.ended
lost_running b d runs up used = ap (λ t. lost_by t (daemons_on b)) (and_from b.up b.used up used) ∙ ap (λ o. lost_by true (daemons_by o b.ended)) runs

first_is : (t : Bool) (x : Daemon) (ds : List Daemon) (d : Daemon) → first_by t (x ∷ ds) ≡ Some d → x ≡ d
first_is true x ds d h = some_value x d h
first_is false x ds d h = absurd (none_some d h)

-- ---- calls

abbrev IsOfStep : List Course → Stamp → ℕ → Course → Type 0
IsOfStep cs now number c = GoesOn cs c ⊎ ((c.made ≡ now) × (c.daemon ≡ number))

submitted_by : (now : Stamp) (number : ℕ) (x : Call) (cs : List Course) (c : Course) → Contains (new_course now number x ∷ cs) c ⊎ ((c.made ≡ now) × (c.daemon ≡ number))
    → Contains cs c ⊎ ((c.made ≡ now) × (c.daemon ≡ number))
submitted_by now number x cs c (inr new) = inr new
submitted_by now number x cs c (inl there) =
    elim (contains_cases (new_course now number x) cs c there) as (λ z. Contains cs c ⊎ ((c.made ≡ now) × (c.daemon ≡ number))) [
      | inl same ↦ inr (ap (λ (y : Course). y.made) (sym same), ap (λ (y : Course). y.daemon) (sym same))
      | inr old ↦ inl old
    ]

-- The calls that a step submits are made now, by the daemon of this number.
submitted_now : (now : Stamp) (number : ℕ) (calls : List Call) (cs : List Course) (c : Course) → Contains (fold (λ (xs : List Course) (x : Call). new_course now number x ∷ xs) cs calls) c
    → Contains cs c ⊎ ((c.made ≡ now) × (c.daemon ≡ number))
submitted_now now number [] cs c there = inl there
submitted_now now number (x ∷ calls) cs c there = submitted_by now number x cs c (submitted_now now number calls (new_course now number x ∷ cs) c there)

-- ---- an entry

-- What is known as the daemon takes a step.
pub record IsStepping (t : TimingNumbers) (step : ℕ) (b : Machine) (d : Daemon) (e : Entry) (now : Stamp) : Type 0 where
  pub runs : b.daemon ≡ Some d
  pub up : b.up ≡ true
  pub used : b.used ≡ true
  pub now_is : now.step ≡ step
  pub reading : e.reading ≡ reading_of b.clock
  pub lawful : Orderly d.setting (e ∷ d.trace)
  pub some : 0 < fail d.setting.timing
  pub apart : (x : Daemon) → Contains b.ended x → x.number ≡ d.number → ⊥

lately_by : (t : TimingNumbers) (moment step : ℕ) (b : Machine) (now : Stamp) (number : ℕ) (c : Course) → now.step ≡ step → IsWatched t moment step b → IsOfStep b.calls now number c
    → may_land c ≡ true → (r : Stamp) → Contains (resets_after b c.made.step) r → moment ≤ r.moment + t.land
lately_by t moment step b now number c at w (inl g) lands r there = lately_still t moment step b c g w lands r there
lately_by t moment step b now number c at w (inr new) lands r there =
    let k = kept_inside (λ (x : Stamp). nat_lt c.made.step x.step) b.resets r there in
    let before = w.resets r k.0 in
    let made = ap (λ (x : Stamp). x.step) new.0 in
    let after : c.made.step < r.step = is_less c.made.step r.step k.1 in
    absurd (omega (arith, before, made, after, at))
  where
    is_less : (x y : ℕ) → nat_lt x y ≡ true → x < y
    is_less x y h = grind (arith, tests)

made_by : (t : TimingNumbers) (moment step : ℕ) (b : Machine) (now : Stamp) (number : ℕ) (c : Course) → now.step ≡ step → IsWatched t moment step b → IsOfStep b.calls now number c
    → c.made.step < step + 1
made_by t moment step b now number c at w (inl g) = let n = w.made g.before g.inside in let m = ap (λ (x : Stamp). x.step) g.made in omega (arith, n, m)
made_by t moment step b now number c at w (inr new) = let m = ap (λ (x : Stamp). x.step) new.0 in omega (arith, m, at)

after_by : (b : Machine) (d x : Daemon) (now : Stamp) (c : Course) → (x.number ≡ d.number → ⊥) → c.daemon ≡ x.number → IsOfStep b.calls now d.number c
    → (r : Stamp) → ((c : Course) → Contains b.calls c → c.daemon ≡ x.number → c.made.step < r.step) → c.made.step < r.step
after_by b d x now c apart its (inl g) r after =
    let n = after g.before g.inside (sym g.daemon ∙ its) in let m = ap (λ (y : Stamp). y.step) g.made in omega (arith, n, m)
after_by b d x now c apart its (inr new) r after = absurd (apart (sym its ∙ new.1))

entered : (t : TimingNumbers) (moment step : ℕ) (b : Machine) (d : Daemon) (e : Entry) (now : Stamp) (xs : List Connection) (cs : List Course) (gs : List Grant)
    → IsStepping t step b d e now → ((c : Course) → Contains cs c → IsOfStep b.calls now d.number c) → IsWatched t moment step b
    → IsWatched t moment (step + 1) (record b { connections = xs; calls = cs; holdings = gs; daemon = Some (with_entry e now d) })
entered t moment step b d e now xs cs gs s each w =
    record {
      past = w.past;
      fires = w.fires;
      resets = λ r there. let n = w.resets r there in omega (arith, n);
      made = λ c there. made_by t moment step b now d.number c s.now_is w (each c there);
      lately = λ c there lands r after. lately_by t moment step b now d.number c s.now_is w (each c there) lands r after;
      given = λ x since. subst GivenNow (first_is (b.up && b.used) (with_entry e now d) b.ended x since) (w.given d (since_running b d s.runs s.up s.used));
      fresh = λ x y since.
          subst (λ (z : Daemon). IsFresh z.setting z.trace y (reading_of b.kept.clock)) (first_is (b.up && b.used) (with_entry e now d) b.ended x since)
          (stays_fresh d.setting e d.trace y (reading_of b.kept.clock) s.lawful s.some (kept_before b.kept.clock b.clock e.reading w.past s.reading)
          (w.fresh d y (since_running b d s.runs s.up s.used)));
      lost = λ x there.
          let old : Contains b.ended x = subst (λ ds. Contains ds x) (ap (λ q. lost_by q (with_entry e now d ∷ b.ended)) (and_from b.up b.used s.up s.used)) there in
          let l = w.lost x (subst (λ ds. Contains ds x) (sym (lost_running b d s.runs s.up s.used)) old) in
          record {
            reset = l.reset;
            there = l.there;
            after = λ c inside its. after_by b d x now c (s.apart x old) its (each c inside) l.reset l.after;
            begun = l.begun;
            stood = l.stood;
          };
    }
  where
    kept_before : (kept clock reading : ℕ) → kept ≤ clock → reading ≡ reading_of clock → reading_of kept ≤ reading
    kept_before kept clock reading h is = omega (arith, h, is)

-- ---- a whole step

abbrev entry_of : Input → Effects → Machine → Entry
entry_of i fx a = record { reading = reading_now a; input = i; effects = fx }

each_of_step : (b : Machine) (d : Daemon) (now : Stamp) (calls : List Call) (cs : List Course) → b.daemon ≡ Some d → ((c : Course) → Contains cs c → GoesOn b.calls c) → (c : Course)
    → Contains (fold (λ (xs : List Course) (x : Call). new_course now (daemon_number b) x ∷ xs) cs calls) c → IsOfStep b.calls now d.number c
each_of_step b d now calls cs runs each c there =
    elim (submitted_now now (daemon_number b) calls cs c there) as (λ z. IsOfStep b.calls now d.number c) [
      | inl old ↦ inl (each c old)
      | inr new ↦ inr (new.0, new.1 ∙ ap (λ o. option_map_or (λ (x : Daemon). x.number) o 0) runs)
    ]

-- Nothing is said of lvmlockd's locks.
locks_keep : (t : TimingNumbers) (moment step : ℕ) (b : Machine) (locks : Locks) → IsWatched t moment step b → IsWatched t moment step (record b { locks = locks })
locks_keep t moment step b locks w =
    record {
      past = w.past;
      fires = w.fires;
      resets = w.resets;
      made = w.made;
      lately = w.lately;
      given = w.given;
      fresh = w.fresh;
      lost = w.lost;
    }

stepped : (t : TimingNumbers) (moment step : ℕ) (b : Machine) (d : Daemon) (i : Input) (fx : Effects) (now : Stamp) (cs : List Course) (locks : Locks) → IsStepping t step b d (entry_of i fx b) now
    → ((c : Course) → Contains cs c → GoesOn b.calls c) → IsWatched t moment step b
    → IsWatched t moment (step + 1) (record b {
      connections = fold after_move b.connections fx.moves;
      calls = fold (λ (xs : List Course) (x : Call). new_course now (daemon_number b) x ∷ xs) cs fx.calls;
      holdings = held_after fx b.holdings;
      daemon = option_map (with_entry (entry_of i fx b) now) b.daemon;
      locks = locks;
    })
stepped t moment step b d i fx now cs locks s each w =
    let xs : List Connection = fold after_move b.connections fx.moves in
    let new : List Course = fold (λ (xs : List Course) (x : Call). new_course now (daemon_number b) x ∷ xs) cs fx.calls in
    let gs : List Grant = held_after fx b.holdings in
    subst (λ o. IsWatched t moment (step + 1) (record b { connections = xs; calls = new; holdings = gs; daemon = o; locks = locks })) (sym (ap (option_map (with_entry (entry_of i fx b) now)) s.runs))
    (locks_keep t moment (step + 1) (record b { connections = xs; calls = new; holdings = gs; daemon = Some (with_entry (entry_of i fx b) now d) }) locks
    (entered t moment step b d (entry_of i fx b) now xs new gs s (each_of_step b d now fx.calls cs s.runs each) w))

-- A step of the running daemon.
pub step_keeps : (t : TimingNumbers) (moment step : ℕ) (b : Machine) (d : Daemon) (i : Input) (fx : Effects) (now : Stamp) → IsStepping t step b d (entry_of i fx b) now
    → IsWatched t moment step b → IsWatched t moment (step + 1) (after_step now i fx b)
step_keeps t moment step b d (Told n a) fx now s w =
    stepped t moment step b d (Told n a) fx now (map (λ (c : Course). elim (c.call.number == n) as (λ x. Course) [ true ↦ told now (is_ok_answer a) c | false ↦ c ]) b.calls)
    (after_step now (Told n a) fx b).locks s
    (λ c there. goes_mapped (λ (c : Course). elim (c.call.number == n) as (λ x. Course) [ true ↦ told now (is_ok_answer a) c | false ↦ c ]) b.calls c
    (λ x. if_changed (told now (is_ok_answer a)) x (x.call.number == n) (told_goes now (is_ok_answer a) x)) there) w
step_keeps t moment step b d (Line text) fx now s w = stepped t moment step b d (Line text) fx now b.calls (after_step now (Line text) fx b).locks s (λ c there. goes_same b.calls c there) w
step_keeps t moment step b d (Number text) fx now s w = stepped t moment step b d (Number text) fx now b.calls (after_step now (Number text) fx b).locks s (λ c there. goes_same b.calls c there) w
step_keeps t moment step b d (Exit p) fx now s w = stepped t moment step b d (Exit p) fx now b.calls (after_step now (Exit p) fx b).locks s (λ c there. goes_same b.calls c there) w
step_keeps t moment step b d (Spawned p ok) fx now s w = stepped t moment step b d (Spawned p ok) fx now b.calls (after_step now (Spawned p ok) fx b).locks s (λ c there. goes_same b.calls c there) w
step_keeps t moment step b d Wake fx now s w = stepped t moment step b d Wake fx now b.calls (after_step now Wake fx b).locks s (λ c there. goes_same b.calls c there) w

-- What the machine does itself submits nothing.
others_keep : (t : TimingNumbers) (moment step : ℕ) (b : Machine) (xs : List Connection) (gs : List Grant) (ks : Locks) → IsWatched t moment step b
    → IsWatched t moment step (record b { connections = xs; holdings = gs; locks = ks })
others_keep t moment step b xs gs ks w =
    record {
      past = w.past;
      fires = w.fires;
      resets = w.resets;
      made = w.made;
      lately = w.lately;
      given = w.given;
      fresh = w.fresh;
      lost = w.lost;
    }

pub own_keeps : (t : TimingNumbers) (moment step : ℕ) (b : Machine) (fx : Effects) (now : Stamp) → fx.calls ≡ [] → IsWatched t moment step b
    → IsWatched t moment (step + 1) (after_effects now fx b)
own_keeps t moment step b fx now none w =
    let xs : List Connection = fold after_move b.connections fx.moves in
    let gs : List Grant = held_after fx b.holdings in
    let ks : Locks = left_locks fx b.locks in
    steps_keep t moment step (after_effects now fx b)
    (subst (λ calls. IsWatched t moment step (record b {
      connections = xs;
      calls = fold (λ (xs : List Course) (x : Call). new_course now (daemon_number b) x ∷ xs) b.calls calls;
      holdings = gs;
      locks = ks;
    })) (sym none) (others_keep t moment step b xs gs ks w))

-- ---- what a step leaves

pub record StepLeaves (now : Stamp) (i : Input) (fx : Effects) (b : Machine) : Type 0 where
  pub up : (after_step now i fx b).up ≡ b.up
  pub used : (after_step now i fx b).used ≡ b.used
  pub ended : (after_step now i fx b).ended ≡ b.ended
  pub daemon : (after_step now i fx b).daemon ≡ option_map (with_entry (entry_of i fx b) now) b.daemon

step_leaves : (now : Stamp) (i : Input) (fx : Effects) (b : Machine) → StepLeaves now i fx b
step_leaves now (Told n a) fx b = record { up = refl; used = refl; ended = refl; daemon = refl }
step_leaves now (Line text) fx b = record { up = refl; used = refl; ended = refl; daemon = refl }
step_leaves now (Number text) fx b = record { up = refl; used = refl; ended = refl; daemon = refl }
step_leaves now (Exit p) fx b = record { up = refl; used = refl; ended = refl; daemon = refl }
step_leaves now (Spawned p ok) fx b = record { up = refl; used = refl; ended = refl; daemon = refl }
step_leaves now Wake fx b = record { up = refl; used = refl; ended = refl; daemon = refl }

pub number_below : (ds : List Daemon) (x : Daemon) → AreNumbered ds → Contains ds x → x.number < length ds
number_below [] x h there = absurd (contains_none x there)
number_below (d ∷ ds) x h there =
    elim (contains_cases d ds x there) as (λ z. x.number < length (d ∷ ds)) [
      | inl same ↦ let n : x.number ≡ length ds = ap (λ (y : Daemon). y.number) (sym same) ∙ h.0 in omega (arith, n)
      | inr old ↦ let n = number_below ds x h.1 old in omega (arith, n)
    ]

pub by_false : (b : Bool) → (b ≡ false → ⊥) → b ≡ true
by_false true h = refl
by_false false h = absurd (h refl)

-- What is known of a machine after a step tells that its daemon could take it.
pub stepping : (t : TimingNumbers) (step : ℕ) (b : Machine) (d : Daemon) (i : Input) (fx : Effects) (now : Stamp) → IsTiming t → b.daemon ≡ Some d → now.step ≡ step
    → IsKnown t (after_step now i fx b) → IsStepping t step b d (entry_of i fx b) now
stepping t step b d i fx now timing runs at k =
    let c : Machine = after_step now i fx b in
    let e : Daemon = with_entry (entry_of i fx b) now d in
    let l = step_leaves now i fx b in
    let is : c.daemon ≡ Some e = l.daemon ∙ ap (option_map (with_entry (entry_of i fx b) now)) runs in
    let all : daemons_on c ≡ e ∷ b.ended = ap (λ o. daemons_by o c.ended) is ∙ ap (λ ds. e ∷ ds) l.ended in
    let there : Contains (daemons_on c) e = subst (λ ds. Contains ds e) (sym all) (contains_first e b.ended) in
    let numbers : AreNumbered (e ∷ b.ended) = subst AreNumbered all k.mirrors.numbered in
    record {
      runs = runs;
      up = sym l.up ∙ by_false c.up (λ down. no_value e c.daemon is (k.settled.down down));
      used = sym l.used ∙ by_false c.used (λ unused. no_value e c.daemon is (k.settled.unused unused));
      now_is = at;
      reading = refl;
      lawful = k.lawful e there;
      some = subst (λ x. 0 < fail x) (sym (k.timing e there)) (some_fail t timing);
      apart = λ x old same. let n = number_below b.ended x numbers.1 old in let m = numbers.0 in omega (arith, n, m, same);
    }
