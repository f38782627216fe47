-- A machine keeps of its daemons what it should.
use Rattle.sl_run_law.proofs.Course.Daemons.{all_ended, every_has}
use Rattle.sl_run_law.proofs.Course.ResetsBeforeNow.{ResetsBefore, none_after, one_after}
use Rattle.sl_run_law.proofs.Course.MachineTurns.{Began, Called, Came_up, Clocked, Crashed, Stays, Tested, Turned, Went_down}
use Rattle.sl_run_law.specs.Course.Mirrors.{AreNumbered, Mirrors, since_restart}
use Rattle.sl_words.proofs.Lists.{contains_cases, contains_none}
use Rattle.sl_run.specs.EventChanges.{after_crash, after_reset, after_restart, after_start}
use Rattle.sl_run.specs.Worlds.{Course, Daemon, Machine, Stamp, World, daemons_on, new_daemon, next_numbers, resets_after, setting_of, stamp_now}
use Rattle.sl_run.specs.declared.event.Event.{Event}
use Rattle.sl_run_law.specs.DaemonsGoOn.{IsSettled}
use Rattle.sl_run_law.specs.FatesStay.{Every}
use Rattle.sl_trace.specs.WatchdogConnections.{connections}
use Rattle.sl_trace.specs.Traces.{holdings}
use Rattle.sl_words.proofs.CaseLaws.{no_value, none_some, some_value}
use Rattle.sl_words.specs.Words.{first_of_list, is_empty}
use Rattle.std.proofs.Common.{ap, inl, inr, refl, subst, sym, ◌∙◌}
use Rattle.std.proofs.lemmas.Bool.{and_from, and_left, and_right}
use Rattle.std.specs.Prelude.{Bool, Contains, List, None, Option, Some, false, if◌then◌else◌, length, true, [], ℕ, ◌&&◌, ◌<◌, ◌∷◌, ◌≡◌}

-- What is known of the machine before the event beside what it keeps.
pub record IsKnown (w : World) (a : Machine) : Type 0 where
  pub settled : IsSettled a
  pub begun : Every (λ (d : Daemon). d.begun.step < w.step) (daemons_on a)
  pub resets : ResetsBefore w a

-- ---- since the last restart

pub none_if : {A : Type 0} (t : Bool) (o : Option A) (d : A) → (if t then o else None) ≡ Some d → (t ≡ true) × (o ≡ Some d)
none_if true o d h = (refl, h)
none_if false o d h = absurd (none_some d h)

-- None since, where the machine is down or none has begun.
none_since : (a : Machine) → (a.up && a.used) ≡ false → since_restart a ≡ None
none_since a h = ap (λ t. if t then first_of_list (daemons_on a) else None) h

pub since_is : (a : Machine) (d : Daemon) (ds : List Daemon) → (a.up && a.used) ≡ true → daemons_on a ≡ d ∷ ds → since_restart a ≡ Some d
since_is a d ds up daemons =
    ap (λ t. if t then first_of_list (daemons_on a) else None) up ∙ ap (λ (xs : List Daemon). first_of_list xs) daemons

-- ---- what leaves all of this

-- Other clocks, keepalives and calls.
again : (a : Machine) (clock : ℕ) (kept : Stamp) (calls : List Course) → Mirrors a → Mirrors (record a { clock = clock; kept = kept; calls = calls })
again a clock kept calls h =
    record {
      numbered = h.numbered;
      running = h.running;
      connected = h.connected;
      held = h.held;
      left = h.left;
      none = h.none;
      kept = h.kept;
      lost = h.lost;
    }

crashed_mirrors : (a : Machine) → Mirrors a → Mirrors (after_crash a)
crashed_mirrors a h =
    record {
      numbered = h.numbered;
      running = λ d is. absurd (none_some d is);
      connected = h.connected;
      held = λ d is. absurd (none_some d is);
      left = h.left;
      none = h.none;
      kept = h.kept;
      lost = h.lost;
    }

down_mirrors : (w : World) (a : Machine) → IsKnown w a → Mirrors a → Mirrors (after_reset w a)
down_mirrors w a k h =
    record {
      numbered = h.numbered;
      running = λ d is. absurd (none_some d is);
      connected = λ d is. absurd (none_some d is);
      held = λ d is. absurd (none_some d is);
      left = λ d g is has. absurd (none_some d is);
      none = λ is. (refl, refl);
      kept = λ d is. absurd (none_some d is);
      lost = λ d has other. one_after (stamp_now w a) a.resets d.begun.step (every_has (λ (x : Daemon). x.begun.step < w.step) (daemons_on a) d k.begun has);
    }

up_mirrors : (w : World) (a : Machine) → a.up ≡ false → IsSettled a → Mirrors a → Mirrors (after_restart w a)
up_mirrors w a down s h =
    let before : since_restart a ≡ None = none_since a (and_left a.up a.used down) in
    record {
      numbered = h.numbered;
      running = λ d is. absurd (none_some d (sym (s.down down) ∙ is));
      connected = λ d is. absurd (none_some d is);
      held = λ d is. absurd (none_some d (sym (s.down down) ∙ is));
      left = λ d g is has. absurd (none_some d is);
      none = λ is. h.none before;
      kept = λ d is. absurd (none_some d is);
      lost = λ d has other. h.lost d has (λ is. none_some d (sym before ∙ is));
    }

-- ---- a daemon begins

began_mirrors : (w : World) (m : ℕ) (name : List ℕ) (a : Machine) → a.up ≡ true → a.used ≡ false → AreNumbered (daemons_on (after_start w m name a)) → IsKnown w a → Mirrors a
    → Mirrors (after_start w m name a)
began_mirrors w m name a up used numbered k h =
    let b : Machine = after_start w m name a in
    let new : Daemon = new_daemon (length (daemons_on a)) (setting_of w.program w.layout w.header m name (next_numbers a) []) (stamp_now w a) in
    let before : since_restart a ≡ None = none_since a (and_right a.up a.used used) in
    let nothing = h.none before in
    let since : since_restart b ≡ Some new = since_is b new a.ended (and_from a.up true up refl) refl in
    let is_new = λ (d : Daemon) (is : since_restart b ≡ Some d). some_value new d (sym since ∙ is) in
    record {
      numbered = numbered;
      running = λ d is. since ∙ is;
      connected = λ d is. subst (λ (x : Daemon). a.connections ≡ connections x.setting x.trace) (is_new d is) nothing.0;
      held = λ d is. subst (λ (x : Daemon). a.holdings ≡ holdings x.trace) (some_value new d is) nothing.1;
      left = λ d g is has. absurd (contains_none g (subst (λ gs. Contains gs g) nothing.1 has));
      none = λ is. absurd (no_value new (since_restart b) since is);
      kept = λ d is. subst (λ (x : Daemon). resets_after a x.begun.step ≡ []) (is_new d is) (none_after w a k.resets);
      lost = λ d has other.
          elim (contains_cases new a.ended d has) as (λ z. is_empty (resets_after a d.begun.step) ≡ false) [
            | inl same ↦ absurd (other (since ∙ ap (λ x. Some x) same))
            | inr old ↦ h.lost d (subst (λ ds. Contains ds d) (all_ended a (k.settled.unused used)) old) (λ is. none_some d (sym before ∙ is))
          ];
    }

pub turned_mirrors : (w : World) (e : Event) (m : ℕ) (a b : Machine) → IsKnown w a → AreNumbered (daemons_on b) → Turned w e m a b → Mirrors a → Mirrors b
turned_mirrors w e m a b k numbered (Stays is) h = subst Mirrors (sym is) h
turned_mirrors w e m a b k numbered (Clocked n is) h = subst Mirrors (sym is) (again a n a.kept a.calls h)
turned_mirrors w e m a b k numbered (Called n f g flight keeps is) h = subst Mirrors (sym is) (again a a.clock a.kept _ h)
turned_mirrors w e m a b k numbered (Tested t is) h = subst Mirrors (sym is) (again a a.clock t a.calls h)
turned_mirrors w e m a b k numbered (Crashed event is) h = subst Mirrors (sym is) (crashed_mirrors a h)
turned_mirrors w e m a b k numbered (Went_down event up is) h = subst Mirrors (sym is) (down_mirrors w a k h)
turned_mirrors w e m a b k numbered (Came_up event down is) h = subst Mirrors (sym is) (up_mirrors w a down k.settled h)
turned_mirrors w e m a b k numbered (Began name event up used fresh is) h =
    subst Mirrors (sym is) (began_mirrors w m name a up used (subst (λ (x : Machine). AreNumbered (daemons_on x)) is numbered) k h)
