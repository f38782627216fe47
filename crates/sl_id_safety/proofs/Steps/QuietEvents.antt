-- Quiet events, and what a machine does by itself: nothing of an id changes but the moment, and with it which
-- sessions are over.
use Rattle.sl_run_law.specs.Course.Mirrors.{AreNumbered}
use Rattle.sl_run_law.specs.Course.CourseLaws.{MachinesMirror}
use Rattle.sl_run_law.proofs.Front.RunsFromFronts.{last_event, settled_later}
use Rattle.sl_id_safety.proofs.State.LandingFrames.{same_landings}
use Rattle.sl_id_safety.proofs.State.StateFrames.{one_step}
use Rattle.sl_id_safety.specs.State.IdStates.{id_state, session_at}
use Rattle.sl_id_safety.proofs.Steps.IdsStayStill.{IsStill, StaysStill, still_sector, still_session}
use Rattle.sl_id_safety.specs.Steps.EventParts.{IsQuietEvent, OwnStepsGoOn, QuietChangesGoOn, between, state_between}
use Rattle.sl_id_safety.proofs.State.SectorFrames.{SameSector}
use Rattle.sl_id_safety.proofs.Steps.TimePasses.{SomeEnd, at_moment, names_in, some_end, time_does, time_names}
use Rattle.sl_ids.proofs.DerivedLaws.{go_on}
use Rattle.sl_ids.specs.Guards.{terms_of}
use Rattle.sl_ids.specs.Steps.{Pass, Passes, after_end}
use Rattle.sl_run_law.proofs.Landing.OneArrival.{changed_landings}
use Rattle.sl_run_law.proofs.Landing.InputNeedsDaemon.{own_makes_none}
use Rattle.sl_words.proofs.Lists.{set_length}
use Rattle.sl_words.proofs.Numbers.{equal_is_least}
use Rattle.sl_run.specs.EventChanges.{after_effects, after_restart, after_start, after_test, first_change, next_step, passed, take_step}
use Rattle.sl_run.specs.Inputs.{machine_of}
use Rattle.sl_run.specs.Refusals.{may_happen}
use Rattle.sl_run.specs.Runs.{Happening}
use Rattle.sl_run.specs.Safety.{LawfulRun, world_at}
use Rattle.sl_run.specs.Worlds.{Daemon, Machine, Program, World, daemons_on, machine_at, stamp_now}
use Rattle.sl_run.specs.declared.event.Event.TheVariants.{AnswerCall, Crash, Do, DropWrite, ExitOf, GiveAsk, GiveCommand, GiveLvm, Land, Pass as PassOf, Reset, Restart, Sample, SpawnedOf, StartDaemon, Tear, Test, WakeUp}
use Rattle.sl_run.specs.declared.event.Event.{Event}
use Rattle.sl_run.specs.declared.header.Header.{Header}
use Rattle.sl_run_law.proofs.WorldsGoOn.{event_goes}
use Rattle.sl_run_law.proofs.Guards.{starts}
use Rattle.sl_run_law.proofs.MachineWalk.{Asked, each_first, each_step}
use Rattle.sl_run_law.specs.DaemonsGoOn.{IsSettled}
use Rattle.sl_run_law.specs.WorldsGoOn.{Goes, time_of}
use Rattle.sl_run_law.specs.Machines.{EachMachine}
use Rattle.sl_trace.specs.declared.effects.Effects.{Effects}
use Rattle.sl_words.proofs.CaseLaws.{none_some}
use Rattle.std.proofs.Common.{ap, arith, inl, inr, refl, subst, sym, ◌∙◌}
use Rattle.std.specs.Prelude.{Contains, List, None, Option, Some, length, slice_set, true, [], ℕ, ◌++◌, ◌+◌, ◌-◌, ◌∷◌, ◌≡◌, ◌≤◌, ◌⊎◌}

-- ---- machines

-- A change of other parts alone.
keeps : (a b : Machine) → b.calls ≡ a.calls → b.resets ≡ a.resets → b.ended ≡ a.ended → b.daemon ≡ a.daemon → IsStill a b
keeps a b calls resets ended daemon = record { calls = calls; resets = resets; ended = ended; daemon = inl daemon }

pub still : (m : ℕ) (a : Machine) → IsStill a a
still m a = keeps a a refl refl refl refl

none_runs : (a : Machine) → a.daemon ≡ None → daemons_on a ≡ a.ended
none_runs a h = ap (λ (o : Option Daemon). elim o as (λ z. List Daemon) [ None ↦ a.ended | Some d ↦ d ∷ a.ended ]) h

-- A new daemon is given no session.
pub begins : (w : World) (m : ℕ) (name : List ℕ) (a : Machine) → a.daemon ≡ None → AreNumbered (daemons_on a) → IsStill a (after_start w m name a)
begins w m name a none numbered =
    record {
      calls = refl;
      resets = refl;
      ended = refl;
      daemon = inr (record {
        none = none;
        daemon = _;
        begins = refl;
        number = ap (λ ds. length ds) (none_runs a none);
        given = refl;
        trace = refl;
        numbered = numbered;
      });
    }

-- What is known of each machine before an event.
pub record IsOrderly (w : World) : Type 0 where
  pub settled : (m : ℕ) (a : Machine) → machine_at w m ≡ Some a → IsSettled a
  pub numbered : (m : ℕ) (a : Machine) → machine_at w m ≡ Some a → AreNumbered (daemons_on a)

asked : (w : World) (e : Event) → IsQuietEvent w e → may_happen w e ≡ true → IsOrderly w → Asked (λ m. IsStill) w e
asked w e quiet may o =
    record {
      pass = λ d growths is m a h. keeps a (passed d growths m a) refl refl refl refl;
      sample = λ m c k is a h. absurd (subst (IsQuietEvent w) is quiet);
      land = λ m c is a f h g t. absurd (subst (IsQuietEvent w) is quiet);
      tear = λ m c k bytes is a f h g t. absurd (subst (IsQuietEvent w) is quiet);
      done_read = λ m c is a f h g t. absurd (subst (IsQuietEvent w) is quiet);
      done_write = λ m c is a f h g t. absurd (subst (IsQuietEvent w) is quiet);
      drop_write = λ m c is a h. absurd (subst (IsQuietEvent w) is quiet);
      tested = λ m is a h. keeps a (after_test w a) refl refl refl refl;
      start = λ m name is a h. begins w m name a
          ((o.settled m a h).unused (starts w m name a (subst (λ x. may_happen w x ≡ true) is may) h).1) (o.numbered m a h);
      crash = λ m is a h. absurd (subst (IsQuietEvent w) is quiet);
      reset = λ m is a h. absurd (subst (IsQuietEvent w) is quiet);
      restart = λ m is a h. keeps a (after_restart w a) refl refl refl refl;
    }

-- ---- landings

quiet_lands : (e : Event) (w : World) → IsQuietEvent w e → (first_change e w).landings ≡ w.landings
unfolding first_change
quiet_lands (PassOf d growths) w q = refl
quiet_lands (WakeUp m) w q = refl
quiet_lands (GiveCommand m text) w q = refl
quiet_lands (GiveLvm m line) w q = refl
quiet_lands (GiveAsk m) w q = refl
quiet_lands (Sample m c k) w q = absurd q
quiet_lands (Land m c) w q = absurd q
quiet_lands (Tear m c k bytes) w q = absurd q
quiet_lands (AnswerCall m c ok) w q = refl
quiet_lands (Do m c) w q = absurd q
quiet_lands (DropWrite m c) w q = absurd q
quiet_lands (Test m) w q = changed_landings m (after_test w) w
quiet_lands (ExitOf m p) w q = refl
quiet_lands (SpawnedOf m p ok) w q = refl
quiet_lands (StartDaemon m name) w q = changed_landings m (after_start w m name) w
quiet_lands (Crash m) w q = absurd q
quiet_lands (Reset m) w q = absurd q
quiet_lands (Restart m) w q = changed_landings m (after_restart w) w

-- ---- quiet events

-- Once its time has passed, an event changes nothing more.
quiet_still : (w : World) (e : Event) → IsQuietEvent w e → may_happen w e ≡ true → IsOrderly w → StaysStill (at_moment (between w e).moment w) (between w e)
quiet_still w e quiet may o =
    let g : Goes (time_of e) 1 w (between w e) = event_goes w e [] in
    record {
      layout = g.layout;
      header = g.header;
      landings = quiet_lands e w quiet;
      machines = g.machines;
      moment = refl;
      each = each_first (λ m. IsStill) e w (λ none. still) (asked w e quiet may o);
    }

no_earlier : (n m d : ℕ) → m ≡ n + d → n ≤ m
no_earlier n m d h = omega (arith, h)

-- Where a world stays still its id passes.
pub still_passes : (w v : World) (path : List ℕ) (offset : ℕ) → StaysStill w v → Pass (id_state w path offset) (id_state v path offset)
still_passes w v path offset s =
    record { later = equal_is_least w.moment v.moment s.moment; same = same_landings w v path offset (still_sector w v path offset s); sessions = still_session w v path offset s }

pub orderly : MachinesMirror → (p : Program) (h : Header) (now : List Happening) → LawfulRun p h now → IsOrderly (world_at p h now)
orderly mirror p h now run =
    record { settled = settled_later p h now run.is_run; numbered = λ m a at. (mirror p h now run m a at).numbered }

-- The sector stays, whatever the moment.
sector_later : (n : ℕ) (w v : World) (path : List ℕ) (offset : ℕ) → SameSector (at_moment n w) v path offset → SameSector w v path offset
sector_later n w v path offset s = record { layout = s.layout; history = s.history; writers = s.writers }

quiet_ends : (p : Program) (h : Header) (now : List Happening) → LawfulRun p h now → (v : World) (path : List ℕ) (offset : ℕ) → (world_at p h now).moment ≤ v.moment
    → StaysStill (at_moment v.moment (world_at p h now)) v → SomeEnd (id_state (world_at p h now) path offset) (id_state v path offset) (names_in (world_at p h now))
quiet_ends p h now run v path offset le still =
    let w : World = world_at p h now in
    let u : World = at_moment v.moment w in
    record {
      later = le;
      same = same_landings w v path offset (sector_later v.moment w v path offset (still_sector u v path offset still));
      each = λ j. subst (λ x. (x ≡ session_at w path offset j) ⊎ (x ≡ after_end (session_at w path offset j))) (sym (still_session u v path offset still j))
          (time_does p h now run v.moment le path offset j);
      named = λ j. subst (λ x. (x ≡ session_at w path offset j) ⊎ Contains (names_in w) j) (sym (still_session u v path offset still j))
          (time_names v.moment w path offset j);
    }

pub quiet_changes_go_on_given : MachinesMirror → QuietChangesGoOn
quiet_changes_go_on_given mirror p h now x path offset run place quiet reached bounded =
    let last = last_event p h now x run in
    let w : World = world_at p h now in
    let v : World = between w x.0 in
    let g : Goes (time_of x.0) 1 w v = event_goes w x.0 [] in
    some_end (terms_of h.timing) (names_in w) (id_state w path offset) (state_between p h now x.0 path offset)
    (quiet_ends p h now last.before v path offset (no_earlier w.moment v.moment (time_of x.0) g.moment)
    (quiet_still w x.0 quiet last.may (orderly mirror p h now last.before)))
    (go_on.bounded (terms_of h.timing) (id_state w path offset) reached) bounded

-- ---- what a machine does by itself

pub own_keeps : (v : World) (fx : Effects) (a : Machine) → fx.calls ≡ [] → IsStill a (after_effects (stamp_now v a) fx a)
own_keeps v fx a none =
    keeps a (after_effects (stamp_now v a) fx a)
    (ap (λ cs. (after_effects (stamp_now v a) (record fx { calls = cs }) a).calls) none) refl refl refl

own_each : (m : ℕ) (fx : Effects) (v : World) → fx.calls ≡ [] → EachMachine (λ m. IsStill) v (take_step m None fx v)
own_each m fx v none = each_step (λ m. IsStill) m None fx v still (λ is a h. own_keeps v fx a none) (λ i is. absurd (none_some i is))

-- A change of one machine leaves the rest of a world.
pub record LeavesRest (w v : World) : Type 0 where
  pub layout : v.layout ≡ w.layout
  pub header : v.header ≡ w.header
  pub landings : v.landings ≡ w.landings
  pub machines : length v.machines ≡ length w.machines
  pub moment : v.moment ≡ w.moment

pub leaves_by : (m : ℕ) (f : Machine → Machine) (w : World) (o : Option Machine)
    → LeavesRest w (next_step (elim o as (λ x. World) [ None ↦ w | Some a ↦ record w { machines = slice_set w.machines (m - 1) (f a) } ]))
leaves_by m f w None = record { layout = refl; header = refl; landings = refl; machines = refl; moment = refl }
leaves_by m f w (Some a) = record { layout = refl; header = refl; landings = refl; machines = set_length w.machines (m - 1) (f a); moment = refl }

pub own_still : (m : ℕ) (fx : Effects) (v : World) → fx.calls ≡ [] → StaysStill v (take_step m None fx v)
own_still m fx v none =
    let r : LeavesRest v (take_step m None fx v) = leaves_by m (λ a. after_effects (stamp_now v a) fx a) v (machine_at v m) in
    record { layout = r.layout; header = r.header; landings = r.landings; machines = r.machines; moment = r.moment; each = own_each m fx v none }

own_passes : (m : ℕ) (fx : Effects) (v : World) (path : List ℕ) (offset : ℕ) → fx.calls ≡ []
    → Pass (id_state v path offset) (id_state (take_step m None fx v) path offset)
own_passes m fx v path offset none =
    still_passes v (take_step m None fx v) path offset (own_still m fx v none)

pub own_steps_go_on : OwnStepsGoOn
own_steps_go_on p h now x path offset run place own reached bounded =
    let last = last_event p h now x run in
    let w : World = world_at p h now in
    let none : last.effects.calls ≡ [] = ap (λ fx. fx.calls) (last.own own) ∙ own_makes_none w x.0 in
    let after : world_at p h (now ++ x ∷ []) ≡ take_step (machine_of x.0) None last.effects (between w x.0) =
    last.after ∙ ap (λ o. take_step (machine_of x.0) o last.effects (between w x.0)) own in
    one_step (terms_of h.timing) (state_between p h now x.0 path offset) (id_state (world_at p h (now ++ x ∷ [])) path offset)
    (Passes (subst (λ v. Pass (state_between p h now x.0 path offset) (id_state v path offset)) (sym after)
    (own_passes (machine_of x.0) last.effects (between w x.0) path offset none))) bounded
