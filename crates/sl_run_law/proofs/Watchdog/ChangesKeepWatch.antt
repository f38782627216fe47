-- Each change of a machine leaves it watched.
use Rattle.sl_run_law.specs.Course.Mirrors.{since_restart}
use Rattle.sl_words.proofs.Lists.{contains_cases, contains_first, contains_more, kept, kept_inside}
use Rattle.sl_run.specs.EventChanges.{after_crash, after_reset, after_restart, after_start, after_test, change_call, fated, passed, sampled_more}
use Rattle.sl_run.specs.Worlds.{Course, Daemon, Fate, Machine, Stamp, World, daemons_on, is_in_flight, is_write_course, may_land, reading_now, resets_after, stamp_now}
use Rattle.sl_run_law.proofs.CoursesGoOn.{told}
use Rattle.sl_time.specs.Times.{TimingNumbers, reading_of}
use Rattle.sl_trace.specs.WatchdogConnections.{test_holds}
use Rattle.sl_run_law.proofs.Watchdog.Freshness.{IsFresh, test_finds}
use Rattle.sl_run_law.proofs.Watchdog.ConnectionHeld.{held}
use Rattle.sl_run_law.proofs.Watchdog.KnownMachines.{IsKnown}
use Rattle.sl_run_law.proofs.Watchdog.Machines.{GoesOn, IsHeld, IsWatched, WasLost, calls_keep, either_daemon, first_by, first_there, goes_mapped, goes_same, lost_by}
use Rattle.sl_run_law.proofs.Watchdog.Stamps.{GivenNow}
use Rattle.sl_words.proofs.CaseLaws.{false_is_true, none_some, some_value, true_is_false}
use Rattle.std.proofs.Common.{ap, arith, inl, inr, refl, subst, sym, ◌∙◌}
use Rattle.std.specs.Prelude.{Bool, Contains, List, None, Option, Some, [], false, if◌then◌else◌, is_none, map, nat_lt, true, ℕ, ◌&&◌, ◌+◌, ◌<◌, ◌==◌, ◌∷◌, ◌≡◌, ◌≤◌, ◌⊎◌}

-- ---- calls

and_less : (a b c : Bool) → (b ≡ false) → (a && b && c) ≡ true → ⊥
and_less true true c f h = true_is_false f
and_less true false c f h = false_is_true h
and_less false b c f h = false_is_true h

and_last : (a b c : Bool) → (c ≡ false) → (a && b && c) ≡ true → ⊥
and_last true true c f h = false_is_true (sym f ∙ h)
and_last true false c f h = false_is_true h
and_last false b c f h = false_is_true h

only_one : (c d : Course) → d.made ≡ c.made → d.daemon ≡ c.daemon → (may_land d ≡ true → may_land c ≡ true) → GoesOn (c ∷ []) d
only_one c d made daemon lands = record { before = c; inside = contains_first c []; made = made; daemon = daemon; lands = lands }

pub if_changed : (f : Course → Course) (c : Course) (t : Bool) → GoesOn (c ∷ []) (f c) → GoesOn (c ∷ []) (elim t as (λ x. Course) [ true ↦ f c | false ↦ c ])
if_changed f c true g = g
if_changed f c false g = goes_same (c ∷ []) c (contains_first c [])

-- A change of one call that goes on.
pub call_keeps : (t : TimingNumbers) (moment step : ℕ) (a : Machine) (n : ℕ) (f : Course → Course) → ((c : Course) → GoesOn (c ∷ []) (f c)) → IsWatched t moment step a
    → IsWatched t moment step (change_call n f a)
call_keeps t moment step a n f each w =
    calls_keep t moment step a (map (λ c. elim (c.call.number == n) as (λ x. Course) [ true ↦ f c | false ↦ c ]) a.calls)
    (λ c there. goes_mapped (λ c. elim (c.call.number == n) as (λ x. Course) [ true ↦ f c | false ↦ c ]) a.calls c (λ x. if_changed f x (x.call.number == n) (each x)) there) w

pub fated_goes : (fate : Fate) (c : Course) → is_in_flight fate ≡ false → GoesOn (c ∷ []) (fated fate c)
fated_goes fate c out = only_one c (fated fate c) refl refl (λ h. absurd (and_last (is_write_course c) (is_none c.answered) (is_in_flight fate) out h))

pub sampled_goes : (w : World) (k : ℕ) (c : Course) → GoesOn (c ∷ []) (sampled_more w k c)
sampled_goes w k c = only_one c (sampled_more w k c) refl refl (λ h. h)

pub told_goes : (now : Stamp) (ok : Bool) (c : Course) → GoesOn (c ∷ []) (told now ok c)
told_goes now ok c = only_one c (told now ok c) refl refl (λ h. absurd (and_less (is_write_course c) false (is_in_flight c.fate) refl h))

-- ---- time

-- What the guards say of a time that passes.
pub record MayPass (t : TimingNumbers) (moment : ℕ) (a : Machine) : Type 0 where
  pub fires : a.up ≡ true → moment ≤ a.kept.moment + t.fire
  pub lands : (c : Course) → Contains a.calls c → may_land c ≡ true → (r : Stamp) → Contains (resets_after a c.made.step) r → moment ≤ r.moment + t.land

pub pass_keeps : (t : TimingNumbers) (moment later step d m : ℕ) (growths : Option (List ℕ)) (a : Machine) → MayPass t later a → IsWatched t moment step a
    → IsWatched t later step (passed d growths m a)
pass_keeps t moment later step d m growths a may w =
    record {
      past = let h = w.past in omega (arith, h);
      fires = may.fires;
      resets = w.resets;
      made = w.made;
      lately = may.lands;
      given = w.given;
      fresh = w.fresh;
      lost = w.lost;
    }

-- ---- a test

tested_by : (t : TimingNumbers) (moment step : ℕ) (now : Stamp) (a : Machine) (b : Bool) → IsKnown t a → now.clock ≡ a.clock → now.moment ≡ moment
    → test_holds a.connections (reading_now a) ≡ b → IsWatched t moment step a → IsWatched t moment step (record a { kept = (if b then now else a.kept) })
tested_by t moment step now a false k clock at is w =
    record {
      past = w.past;
      fires = w.fires;
      resets = w.resets;
      made = w.made;
      lately = w.lately;
      given = w.given;
      fresh = w.fresh;
      lost = w.lost;
    }
tested_by t moment step now a true k clock at is w =
    record {
      past = omega (arith, clock);
      fires = λ up. omega (arith, at);
      resets = w.resets;
      made = w.made;
      lately = w.lately;
      given = w.given;
      fresh = λ d s since its covered.
          let there = first_there (a.up && a.used) (daemons_on a) d since in
          let holds = subst (λ cs. test_holds cs (reading_now a) ≡ true) (k.mirrors.connected d since) is in
          let early = test_finds d.setting d.trace s (reading_now a) (k.lawful d there) holds its covered in
          let same = ap reading_of clock in
          omega (arith, early, same);
      lost = w.lost;
    }

pub test_keeps : (t : TimingNumbers) (moment step : ℕ) (w : World) (a : Machine) → IsKnown t a → w.moment ≡ moment → IsWatched t moment step a → IsWatched t moment step (after_test w a)
test_keeps t moment step w a k at h = tested_by t moment step (stamp_now w a) a (test_holds a.connections (reading_now a)) k refl at refl h

-- ---- a daemon ends

pub crash_keeps : (t : TimingNumbers) (moment step : ℕ) (a : Machine) → IsWatched t moment step a → IsWatched t moment step (after_crash a)
crash_keeps t moment step a w =
    record {
      past = w.past;
      fires = w.fires;
      resets = w.resets;
      made = w.made;
      lately = w.lately;
      given = w.given;
      fresh = w.fresh;
      lost = w.lost;
    }

-- ---- a reset

lost_more : (t : TimingNumbers) (r : Stamp) (rs : List Stamp) (cs : List Course) (d : Daemon) → WasLost t rs cs d → WasLost t (r ∷ rs) cs d
lost_more t r rs cs d l = record { reset = l.reset; there = contains_more r rs l.reset l.there; begun = l.begun; after = l.after; stood = l.stood }

lost_now : (t : TimingNumbers) (moment step : ℕ) (w : World) (a : Machine) (d : Daemon) → IsKnown t a → w.moment ≡ moment → w.step ≡ step → d.begun.step < step → IsWatched t moment step a
    → since_restart a ≡ Some d → WasLost t (stamp_now w a ∷ a.resets) a.calls d
lost_now t moment step w a d k at this begun h since =
    record {
      reset = stamp_now w a;
      there = contains_first (stamp_now w a) a.resets;
      begun = omega (arith, begun, this);
      after = λ c inside its. let early = h.made c inside in omega (arith, early, this);
      stood = λ s its covered. (a.kept, subst (λ n. IsHeld t d s a.kept n) (sym at) (held t moment step a d s k h since its covered));
    }

later_resets : (w : World) (a : Machine) (step : ℕ) (r : Stamp) → Contains (resets_after (after_reset w a) step) r → (stamp_now w a ≡ r) ⊎ Contains (resets_after a step) r
later_resets w a step r there =
    let b = kept_inside (λ (x : Stamp). nat_lt step x.step) (stamp_now w a ∷ a.resets) r there in
    elim (contains_cases (stamp_now w a) a.resets r b.0) as (λ z. (stamp_now w a ≡ r) ⊎ Contains (resets_after a step) r) [
      | inl same ↦ inl same
      | inr more ↦ inr (kept (λ (x : Stamp). nat_lt step x.step) a.resets r b.1 more)
    ]

pub reset_keeps : (t : TimingNumbers) (moment step : ℕ) (w : World) (a : Machine) → IsKnown t a → w.moment ≡ moment → w.step ≡ step
    → ((d : Daemon) → Contains (daemons_on a) d → d.begun.step < step) → IsWatched t moment step a
    → IsWatched t moment (step + 1) (after_reset w a)
reset_keeps t moment step w a k at this begun h =
    record {
      past = h.past;
      fires = λ up. absurd (false_is_true up);
      resets = λ r there.
          elim (contains_cases (stamp_now w a) a.resets r there) as (λ z. r.step < step + 1) [
            | inl same ↦ let n = ap (λ (x : Stamp). x.step) same in omega (arith, n, this)
            | inr old ↦ let n = h.resets r old in omega (arith, n)
          ];
      made = λ c there. let n = h.made c there in omega (arith, n);
      lately = λ c there lands r after.
          elim (later_resets w a c.made.step r after) as (λ z. moment ≤ r.moment + t.land) [
            | inl same ↦ let n = ap (λ (x : Stamp). x.moment) same in omega (arith, n, at)
            | inr old ↦ h.lately c there lands r old
          ];
      given = λ d since. absurd (none_some d since);
      fresh = λ d s since. absurd (none_some d since);
      lost = λ d there.
          elim (either_daemon (a.up && a.used) (daemons_on a) d there) as (λ z. WasLost t (stamp_now w a ∷ a.resets) a.calls d) [
            | inl since ↦ lost_now t moment step w a d k at this (begun d there) h since
            | inr old ↦ lost_more t (stamp_now w a) a.resets a.calls d (h.lost d old)
          ];
    }

-- ---- a restart

lost_down : (up used : Bool) (ds : List Daemon) → up ≡ false → lost_by (up && used) ds ≡ ds
lost_down true used ds h = absurd (true_is_false h)
lost_down false used ds h = refl

pub restart_keeps : (t : TimingNumbers) (moment step : ℕ) (w : World) (a : Machine) → a.up ≡ false → w.moment ≡ moment → IsWatched t moment step a
    → IsWatched t moment step (after_restart w a)
restart_keeps t moment step w a down at h =
    record {
      past = omega arith;
      fires = λ up. omega (arith, at);
      resets = h.resets;
      made = h.made;
      lately = h.lately;
      given = λ d since. absurd (none_some d since);
      fresh = λ d s since. absurd (none_some d since);
      lost = λ d there.
          h.lost d (subst (λ ds. Contains ds d) (sym (lost_down a.up a.used (daemons_on a) down)) there);
    }

-- ---- a daemon begins

lost_unused : (up used : Bool) (ds : List Daemon) → used ≡ false → lost_by (up && used) ds ≡ ds
lost_unused up true ds h = absurd (true_is_false h)
lost_unused true false ds h = refl
lost_unused false false ds h = refl

first_up : (up : Bool) (d e : Daemon) (ds : List Daemon) → first_by (up && true) (d ∷ ds) ≡ Some e → d ≡ e
first_up true d e ds h = some_value d e h
first_up false d e ds h = absurd (none_some e h)

lost_up : (up : Bool) (d : Daemon) (ds : List Daemon) → up ≡ true → lost_by (up && true) (d ∷ ds) ≡ ds
lost_up true d ds h = refl
lost_up false d ds h = absurd (false_is_true h)

abbrev daemons_by : Option Daemon → List Daemon → List Daemon
daemons_by o ds = elim o [ None ↦ ds | Some d ↦ d ∷ ds ]

-- The daemon is given no session and has no entry.
pub start_keeps : (t : TimingNumbers) (moment step : ℕ) (w : World) (m : ℕ) (name : List ℕ) (a : Machine) → IsKnown t a → a.up ≡ true → a.used ≡ false → IsWatched t moment step a
    → IsWatched t moment step (after_start w m name a)
start_keeps t moment step w m name a k up unused h =
    record {
      past = h.past;
      fires = h.fires;
      resets = h.resets;
      made = h.made;
      lately = h.lately;
      given = λ d since. subst GivenNow (first_up a.up _ d a.ended since) (λ n g at. absurd (none_some g at));
      fresh = λ d s since.
          subst (λ (x : Daemon). IsFresh x.setting x.trace s (reading_of a.kept.clock)) (first_up a.up _ d a.ended since) (λ its covered. absurd (none_some s its));
      lost = λ d there.
          let old : Contains a.ended d = subst (λ ds. Contains ds d) (lost_up a.up _ a.ended up) there in
          let same : daemons_on a ≡ a.ended = ap (λ o. daemons_by o a.ended) (k.settled.unused unused) in
          h.lost d (subst (λ ds. Contains ds d) (sym (lost_unused a.up a.used (daemons_on a) unused ∙ same)) old);
    }
