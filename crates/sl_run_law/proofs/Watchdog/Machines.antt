-- What is kept of each machine under its watchdog.
use Rattle.sl_ids.specs.Clocks.Watchdog.{IsConnected}
use Rattle.sl_run_law.specs.Course.Mirrors.{since_restart}
use Rattle.sl_run_law.specs.Moment.MomentsFollowSteps.{point_of}
use Rattle.sl_words.proofs.Lists.{contains_cases, contains_first, contains_more, contains_none}
use Rattle.sl_run.specs.Worlds.{Course, Daemon, Machine, Stamp, daemons_on, may_land, resets_after}
use Rattle.sl_run_law.specs.Sessions.SessionLaws.{IsSession}
use Rattle.sl_run.specs.LawfulConnections.{is_covered}
use Rattle.sl_trace.specs.declared.session.Session.{Session}
use Rattle.sl_time.specs.Times.{TimingNumbers, reading_of}
use Rattle.sl_run_law.proofs.Watchdog.Freshness.{IsFresh}
use Rattle.sl_run_law.proofs.Watchdog.Stamps.{GivenNow}
use Rattle.sl_run_law.specs.Watchdog.ActingTimes.{acting_stamp}
use Rattle.sl_words.proofs.CaseLaws.{none_some, some_value}
use Rattle.sl_words.specs.Words.{first_of_list}
use Rattle.std.proofs.Common.{ap, arith, inl, inr, refl, subst, sym, ◌∙◌}
use Rattle.std.specs.Prelude.{Bool, Contains, List, None, Option, Some, [], drop, false, if◌then◌else◌, map, true, ℕ, ◌&&◌, ◌+◌, ◌<◌, ◌∷◌, ◌≡◌, ◌≤◌, ◌⊎◌}

-- ---- the daemons of a machine

-- The first of them is the one since the last restart, if any is.
abbrev pub first_by : Bool → List Daemon → Option Daemon
first_by b ds = if b then first_of_list ds else None

-- The others have been reset.
abbrev pub lost_by : Bool → List Daemon → List Daemon
lost_by b ds = if b then drop 1 ds else ds

-- The daemons whose machine was reset since they began.
abbrev pub lost_daemons : Machine → List Daemon
lost_daemons a = lost_by (a.up && a.used) (daemons_on a)

pub first_there : (b : Bool) (ds : List Daemon) (d : Daemon) → first_by b ds ≡ Some d → Contains ds d
first_there false ds d h = absurd (none_some d h)
first_there true [] d h = absurd (none_some d h)
first_there true (x ∷ ds) d h = subst (λ y. Contains (x ∷ ds) y) (some_value x d h) (contains_first x ds)

pub either_daemon : (b : Bool) (ds : List Daemon) (d : Daemon) → Contains ds d → (first_by b ds ≡ Some d) ⊎ Contains (lost_by b ds) d
either_daemon false ds d there = inr there
either_daemon true [] d there = absurd (contains_none d there)
either_daemon true (x ∷ ds) d there =
    elim (contains_cases x ds d there) as (λ z. (Some x ≡ Some d) ⊎ Contains ds d) [ inl same ↦ inl (ap (λ y. Some y) same) | inr more ↦ inr more ]

-- ---- what is kept

-- The session's connection stands on a machine with this keepalive at this moment.
pub record IsHeld (t : TimingNumbers) (d : Daemon) (s : Session) (kept : Stamp) (moment : ℕ) : Type 0 where
  pub stamp : Stamp
  pub from : acting_stamp d s ≡ Some stamp
  pub connected : IsConnected t (point_of stamp) (point_of kept) moment

-- The daemon's machine was reset after it began and after all its calls, while the connections of its sessions that need them stood.
pub record WasLost (t : TimingNumbers) (resets : List Stamp) (calls : List Course) (d : Daemon) : Type 0 where
  pub reset : Stamp
  pub there : Contains resets reset
  pub begun : d.begun.step < reset.step
  pub after : (c : Course) → Contains calls c → c.daemon ≡ d.number → c.made.step < reset.step
  pub stood : (s : Session) → IsSession d.setting d.trace s → is_covered d.trace s ≡ true → (kept : Stamp) × IsHeld t d s kept reset.moment

-- What is kept of a machine, at this moment and before this step.
pub record IsWatched (t : TimingNumbers) (moment step : ℕ) (a : Machine) : Type 0 where
  -- a keepalive is of the past, and of not long ago
  pub past : a.kept.clock ≤ a.clock
  pub fires : a.up ≡ true → moment ≤ a.kept.moment + t.fire
  -- so are resets and calls; a write from before a reset lands soon or never
  pub resets : (r : Stamp) → Contains a.resets r → r.step < step
  pub made : (c : Course) → Contains a.calls c → c.made.step < step
  pub lately : (c : Course) → Contains a.calls c → may_land c ≡ true → (r : Stamp) → Contains (resets_after a c.made.step) r → moment ≤ r.moment + t.land
  -- sessions are given as they stand when the daemon begins
  pub given : (d : Daemon) → since_restart a ≡ Some d → GivenNow d
  -- the last keepalive found each connection unexpired
  pub fresh : (d : Daemon) (s : Session) → since_restart a ≡ Some d → IsFresh d.setting d.trace s (reading_of a.kept.clock)
  pub lost : (d : Daemon) → Contains (lost_daemons a) d → WasLost t a.resets a.calls d

-- ---- calls that go on

-- The call is one of these, gone on: it was made as before, and lands only if it could before.
pub record GoesOn (cs : List Course) (c : Course) : Type 0 where
  pub before : Course
  pub inside : Contains cs before
  pub made : c.made ≡ before.made
  pub daemon : c.daemon ≡ before.daemon
  pub lands : may_land c ≡ true → may_land before ≡ true

pub goes_same : (cs : List Course) (c : Course) → Contains cs c → GoesOn cs c
goes_same cs c there = record { before = c; inside = there; made = refl; daemon = refl; lands = λ h. h }

goes_more : (x : Course) (cs : List Course) (c : Course) → GoesOn cs c → GoesOn (x ∷ cs) c
goes_more x cs c g = record { before = g.before; inside = contains_more x cs g.before g.inside; made = g.made; daemon = g.daemon; lands = g.lands }

goes_first : (x : Course) (cs : List Course) (c : Course) → GoesOn (x ∷ []) c → GoesOn (x ∷ cs) c
goes_first x cs c g =
    record {
      before = g.before;
      inside = (
          elim (contains_cases x [] g.before g.inside) as (λ z. Contains (x ∷ cs) g.before) [
            | inl same ↦ subst (λ y. Contains (x ∷ cs) y) same (contains_first x cs)
            | inr more ↦ absurd (contains_none g.before more)
          ]
          );
      made = g.made;
      daemon = g.daemon;
      lands = g.lands;
    }

-- Each call of a list whose calls go on in their places.
pub goes_mapped : (f : Course → Course) (cs : List Course) (c : Course) → ((x : Course) → GoesOn (x ∷ []) (f x)) → Contains (map f cs) c → GoesOn cs c
goes_mapped f [] c each there = absurd (contains_none c there)
goes_mapped f (x ∷ cs) c each there =
    elim (contains_cases (f x) (map f cs) c there) as (λ z. GoesOn (x ∷ cs) c) [
      | inl same ↦ subst (λ y. GoesOn (x ∷ cs) y) same (goes_first x cs (f x) (each x))
      | inr more ↦ goes_more x cs c (goes_mapped f cs c each more)
    ]

lost_still : (t : TimingNumbers) (resets : List Stamp) (calls cs : List Course) (d : Daemon) → ((c : Course) → Contains cs c → GoesOn calls c) → WasLost t resets calls d
    → WasLost t resets cs d
lost_still t resets calls cs d each l =
    record {
      reset = l.reset;
      there = l.there;
      begun = l.begun;
      after = λ c there its.
          let g = each c there in
          subst (λ (s : Stamp). s.step < l.reset.step) (sym g.made) (l.after g.before g.inside (sym g.daemon ∙ its));
      stood = l.stood;
    }

pub lately_still : (t : TimingNumbers) (moment step : ℕ) (a : Machine) (c : Course) → GoesOn a.calls c → IsWatched t moment step a → may_land c ≡ true → (r : Stamp)
    → Contains (resets_after a c.made.step) r → moment ≤ r.moment + t.land
lately_still t moment step a c g w lands r there =
    w.lately g.before g.inside (g.lands lands) r (subst (λ (s : Stamp). Contains (resets_after a s.step) r) g.made there)

-- A machine whose calls go on is watched as before.
pub calls_keep : (t : TimingNumbers) (moment step : ℕ) (a : Machine) (cs : List Course) → ((c : Course) → Contains cs c → GoesOn a.calls c) → IsWatched t moment step a
    → IsWatched t moment step (record a { calls = cs })
calls_keep t moment step a cs each w =
    record {
      past = w.past;
      fires = w.fires;
      resets = w.resets;
      made = λ c there. let g = each c there in subst (λ (s : Stamp). s.step < step) (sym g.made) (w.made g.before g.inside);
      lately = λ c there lands r after. lately_still t moment step a c (each c there) w lands r after;
      given = w.given;
      fresh = w.fresh;
      lost = λ d there. lost_still t a.resets a.calls cs d each (w.lost d there);
    }

-- Nothing of it is lost as steps go on.
pub steps_keep : (t : TimingNumbers) (moment step : ℕ) (a : Machine) → IsWatched t moment step a → IsWatched t moment (step + 1) a
steps_keep t moment step a w =
    record {
      past = w.past;
      fires = w.fires;
      resets = λ r there. let h = w.resets r there in omega (arith, h);
      made = λ c there. let h = w.made c there in omega (arith, h);
      lately = w.lately;
      given = w.given;
      fresh = w.fresh;
      lost = w.lost;
    }
