-- A machine stays sane where its calls stay: later, at a test, and as daemons begin and end and it goes down and comes up.
use Rattle.sl_world_state.specs.Daemons.{IsSoundCall}
use Rattle.sl_world_state.specs.SaneWorlds.{IsSaneMachine}
use Rattle.sl_words.proofs.Lists.{contains_cases, contains_first, contains_more, kept, kept_inside}
use Rattle.sl_words.proofs.Numbers.{zero_least}
use Rattle.sl_run.specs.EventChanges.{after_crash, after_reset, after_restart, after_start, after_test, next_step, passed}
use Rattle.sl_run.specs.Premises.{growth_of}
use Rattle.sl_run.specs.Worlds.{Course, Daemon, Machine, Stamp, World, daemons_on, flights, is_of_running, is_open, may_land, new_daemon, next_numbers, reading_now, sector_size, setting_of, stamp_now}
use Rattle.sl_time.specs.Times.{reading_of}
use Rattle.sl_trace.specs.WatchdogConnections.{test_holds}
use Rattle.sl_trace.specs.Traces.{children, first_child, last_reading, outstanding}
use Rattle.sl_words.proofs.CaseLaws.{none_some, some_value, true_is_false}
use Rattle.sl_words.specs.Bounds.{moments}
use Rattle.sl_words.specs.Words.{some_is}
use Rattle.std.proofs.Common.{ap, arith, inl, inr, refl, subst, sym, ◌∙◌}
use Rattle.std.proofs.lemmas.Bool.Decides.{nat_tests}
use Rattle.std.specs.List.{range_with_len}
use Rattle.std.specs.Prelude.{Bool, Contains, List, None, Option, Some, cond, false, filter, if◌then◌else◌, is_none, length, map, suc, true, [], ℕ, ◌&&◌, ◌*◌, ◌+◌, ◌<◌, ◌==◌, ◌∷◌, ◌≡◌, ◌≤◌, ◌||◌}

-- ---- later

before_too : (a b c : ℕ) → a < b → b ≤ c → a < c
before_too a b c less le = omega (arith, less, le)

up_to_too : (a b c : ℕ) → a ≤ b → b ≤ c → a ≤ c
up_to_too a b c less le = omega (arith, less, le)

pub still_sane : (w v : World) (a : Machine) → w.step ≤ v.step → w.moment ≤ v.moment → sector_size w ≡ sector_size v → IsSaneMachine w a → IsSaneMachine v a
still_sane w v a steps moment_on same is =
    record {
      resets = λ r there. (before_too r.step w.step v.step (is.resets r there).0 steps, up_to_too r.moment w.moment v.moment (is.resets r there).1 moment_on);
      made = λ c there. before_too c.made.step w.step v.step (is.made c there) steps;
      distinct = is.distinct;
      numbers = is.numbers;
      daemons = is.daemons;
      newest = is.newest;
      used = is.used;
      up = is.up;
      open_calls = is.open_calls;
      children_numbered = is.children_numbered;
      time = is.time;
      calls = λ c there. subst (λ z. IsSoundCall z c.call) same (is.calls c there);
      reads = λ c there. (subst (λ z. length c.sampled ≡ length c.samples * z) same (is.reads c there).0, (is.reads c there).1);
      in_time = (is.in_time.0, up_to_too a.kept.moment w.moment v.moment is.in_time.1 moment_on);
    }

-- ---- time

reading_grows : (n m : ℕ) → reading_of n ≤ reading_of (n + m)
reading_grows n m = omega arith

pub passed_sane : (w : World) (a : Machine) (d : ℕ) (gs : Option (List ℕ)) (m : ℕ) → IsSaneMachine w a → reading_now (passed d gs m a) < moments → IsSaneMachine w (passed d gs m a)
passed_sane w a d gs m is below =
    record {
      resets = is.resets;
      made = is.made;
      distinct = is.distinct;
      numbers = is.numbers;
      daemons = is.daemons;
      newest = is.newest;
      used = is.used;
      up = is.up;
      open_calls = is.open_calls;
      children_numbered = is.children_numbered;
      time = λ x runs. up_to_too (last_reading x.setting x.trace) (reading_now a) (reading_now (passed d gs m a)) (is.time x runs) (reading_grows a.clock (growth_of d gs m));
      calls = is.calls;
      reads = is.reads;
      in_time = (below, is.in_time.1);
    }

kept_below : (b : Bool) (s r : Stamp) (n : ℕ) → s.moment ≤ n → r.moment ≤ n → (if b then s else r).moment ≤ n
kept_below true s r n first second = first
kept_below false s r n first second = second

pub tested_sane : (w : World) (a : Machine) → IsSaneMachine w a → IsSaneMachine w (after_test w a)
tested_sane w a is =
    record {
      resets = is.resets;
      made = is.made;
      distinct = is.distinct;
      numbers = is.numbers;
      daemons = is.daemons;
      newest = is.newest;
      used = is.used;
      up = is.up;
      open_calls = is.open_calls;
      children_numbered = is.children_numbered;
      time = is.time;
      calls = is.calls;
      reads = is.reads;
      in_time = (is.in_time.0, kept_below (test_holds a.connections (reading_now a)) (stamp_now w a) a.kept w.moment (omega arith) is.in_time.1);
    }

-- A machine comes up.
pub restarted_sane : (w : World) (a : Machine) → IsSaneMachine w a → a.up ≡ false → IsSaneMachine w (after_restart w a)
restarted_sane w a is down =
    record {
      resets = is.resets;
      made = is.made;
      distinct = is.distinct;
      numbers = is.numbers;
      daemons = is.daemons;
      newest = is.newest;
      used = λ d runs. absurd (true_is_false (sym (is.up d runs) ∙ down));
      up = λ d runs. refl;
      open_calls = is.open_calls;
      children_numbered = is.children_numbered;
      time = is.time;
      calls = is.calls;
      reads = is.reads;
      in_time = (is.in_time.0, omega arith);
    }

-- ---- daemons that end and begin

-- A call that is in flight where none runs was so before.
open_before : (a b : Machine) (c : Course) → b.daemon ≡ None → is_open b c ≡ true → is_open a c ≡ true
open_before a b c none open_now =
    by_parts (is_none c.answered) (is_of_running a c) (may_land c)
    (sym (ap (λ (o : Option Daemon). is_none c.answered && (some_is (λ (d : Daemon). d.number == c.daemon) o || may_land c)) none) ∙ open_now)
  where
    by_parts : (n o l : Bool) → (n && (false || l)) ≡ true → (n && (o || l)) ≡ true
    by_parts true true l h = refl
    by_parts true false l h = h
    by_parts false o l h = h

flight_before : (a b : Machine) (c : Course) → b.daemon ≡ None → b.calls ≡ a.calls → Contains (flights b) c → Contains (flights a) c
flight_before a b c none same there =
    let found = kept_inside (is_open b) b.calls c there in
    kept (is_open a) a.calls c (open_before a b c none found.1) (subst (λ cs. Contains cs c) same found.0)

pub crashed_sane : (w : World) (a : Machine) → IsSaneMachine w a → IsSaneMachine w (after_crash a)
crashed_sane w a is =
    record {
      resets = is.resets;
      made = is.made;
      distinct = is.distinct;
      numbers = is.numbers;
      daemons = is.daemons;
      newest = λ d runs. absurd (none_some d runs);
      used = λ d runs. absurd (none_some d runs);
      up = λ d runs. absurd (none_some d runs);
      open_calls = λ d runs. absurd (none_some d runs);
      children_numbered = λ d runs. absurd (none_some d runs);
      time = λ d runs. absurd (none_some d runs);
      calls = λ c there. is.calls c (flight_before a (after_crash a) c refl refl there);
      reads = λ c there. is.reads c (flight_before a (after_crash a) c refl refl there);
      in_time = is.in_time;
    }

pub reset_sane : (w : World) (a : Machine) → IsSaneMachine w a → IsSaneMachine (next_step w) (after_reset w a)
reset_sane w a is =
    record {
      resets = λ r there. elim (contains_cases (stamp_now w a) a.resets r there) [
        | inl same ↦ subst (λ (x : Stamp). (x.step < w.step + 1) × (x.moment ≤ w.moment)) same (omega arith, omega arith)
        | inr older ↦ (let old = (is.resets r older).0 in omega (arith, old), (is.resets r older).1)
      ];
      made = λ c there. let old = is.made c there in omega (arith, old);
      distinct = is.distinct;
      numbers = is.numbers;
      daemons = is.daemons;
      newest = λ d runs. absurd (none_some d runs);
      used = λ d runs. absurd (none_some d runs);
      up = λ d runs. absurd (none_some d runs);
      open_calls = λ d runs. absurd (none_some d runs);
      children_numbered = λ d runs. absurd (none_some d runs);
      time = λ d runs. absurd (none_some d runs);
      calls = λ c there. is.calls c (flight_before a (after_reset w a) c refl refl there);
      reads = λ c there. is.reads c (flight_before a (after_reset w a) c refl refl there);
      in_time = is.in_time;
    }

-- ---- a daemon begins

-- None of the machine's calls is its own.
none_own : (w : World) (a : Machine) → IsSaneMachine w a → (c : Course) → Contains a.calls c → (length (daemons_on a) == c.daemon) ≡ false
none_own w a is c there = let older = is.daemons c there in grind (arith, nat_tests, older)

nothing_kept : {A : Type 0} (p : A → Bool) (xs : List A) → ((x : A) → Contains xs x → p x ≡ false) → filter p xs ≡ []
nothing_kept p [] none = refl
nothing_kept p (x ∷ xs) none =
    ap (λ b. cond b (x ∷ filter p xs) (filter p xs)) (none x (contains_first x xs)) ∙ nothing_kept p xs (λ y there. none y (contains_more x xs y there))

-- The daemons that were there are those that have ended.
pub ended_all : (a : Machine) → a.daemon ≡ None → daemons_on a ≡ a.ended
ended_all a none = ap (λ (o : Option Daemon). elim o as (λ x. List Daemon) [ None ↦ a.ended | Some d ↦ d ∷ a.ended ]) none

plus_none : (n : ℕ) → n + 0 ≡ n
plus_none n = omega arith

pub started_sane : (w : World) (a : Machine) (m : ℕ) (name : List ℕ) → IsSaneMachine w a → a.daemon ≡ None → a.up ≡ true → IsSaneMachine w (after_start w m name a)
started_sane w a m name is none up =
    record {
      resets = is.resets;
      made = is.made;
      distinct = is.distinct;
      numbers = λ c there. subst (λ n. c.call.number < n) (sym (plus_none (next_numbers a).call)) (is.numbers c there);
      daemons = λ c there. let older = is.daemons c there in let same = ap length (ended_all a none) in omega (arith, older, same);
      newest = λ d runs. ap (λ (x : Daemon). x.number + 1) (sym (some_value new d runs)) ∙ one_longer (length (daemons_on a)) (length a.ended) (ap length (ended_all a none));
      used = λ d runs. refl;
      up = λ d runs. up;
      open_calls = λ d runs.
          ap (λ (x : Daemon). map (λ y. y.call) (outstanding x.trace)) (sym (some_value new d runs))
          ∙ sym (ap (map (λ (c : Course). c.call)) (nothing_kept (is_of_running (after_start w m name a)) (flights (after_start w m name a))
          (λ c there. none_own w a is c (kept_inside (is_open (after_start w m name a)) a.calls c there).0)));
      children_numbered = λ d runs.
          subst (λ (x : Daemon). map (λ k. k.process) (children x.trace) ≡ range_with_len first_child (length (children x.trace))) (some_value new d runs) refl;
      time = λ d runs. subst (λ (x : Daemon). last_reading x.setting x.trace ≤ reading_now a) (some_value new d runs) (zero_least (reading_now a));
      calls = λ c there. is.calls c (own_before c there);
      reads = λ c there. is.reads c (own_before c there);
      in_time = is.in_time;
    }
  where
    new : Daemon
    new = new_daemon (length (daemons_on a)) (setting_of w.program w.layout w.header m name (next_numbers a) []) (stamp_now w a)

    one_longer : (n k : ℕ) → n ≡ k → n + 1 ≡ suc k
    one_longer n k same = omega (arith, same)

    own_before : (c : Course) → Contains (flights (after_start w m name a)) c → Contains (flights a) c
    own_before c there =
        let found = kept_inside (is_open (after_start w m name a)) a.calls c there in
        kept (is_open a) a.calls c (open_before a (record a { daemon = None }) c refl
        (sym (ap (λ b. is_none c.answered && (b || may_land c)) (none_own w a is c found.0)) ∙ found.1)) found.0
