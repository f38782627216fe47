-- Whatever happens, no daemon of a machine is lost.
use Rattle.sl_run.specs.EventChanges.{after_crash, after_effects, after_reset, after_restart, after_start, after_step, first_change, happens, next_input, next_step, take_step, take_steps, with_entry}
use Rattle.sl_run.specs.Inputs.{machine_of}
use Rattle.sl_run.specs.Refusals.{may_happen}
use Rattle.sl_run.specs.Runs.{Happening, IsRun, world_after}
use Rattle.sl_run.specs.Worlds.{Daemon, Machine, Stamp, World, daemons_on, reading_now, stamp_now}
use Rattle.sl_run.specs.declared.event.Event.{Event}
use Rattle.sl_run_law.proofs.CourseLists.{follow_still, calls_further, calls_still}
use Rattle.sl_run_law.proofs.WorldsGoOn.{grown_again, same_list}
use Rattle.sl_run_law.proofs.Guards.{restarts, starts}
use Rattle.sl_run_law.proofs.MachineWalk.{Asked, each_first, each_further, each_step, each_still}
use Rattle.sl_run_law.specs.CoursesGoOn.{ListGoes}
use Rattle.sl_run_law.specs.DaemonsGoOn.{DaemonGoes, Hosts, HostsIfSettled, IsSettled}
use Rattle.sl_run_law.specs.Machines.{EachMachine}
use Rattle.sl_trace.specs.declared.effects.Effects.{Effects}
use Rattle.sl_trace.specs.declared.effects.Entry.{Entry}
use Rattle.sl_trace.specs.declared.input.Input.TheVariants.{Answer as Told, Exit, Line, Number, Spawned, Wake}
use Rattle.sl_trace.specs.declared.input.Input.{Input}
use Rattle.sl_words.proofs.CaseLaws.{not_both, true_is_false}
use Rattle.std.proofs.Common.{ap, refl, subst, sym, ◌∙◌}
use Rattle.std.specs.Prelude.{List, None, Option, Some, false, option_map, true, [], ℕ, ◌++◌, ◌∷◌, ◌≡◌}

daemon_still : (d : Daemon) → DaemonGoes d d
daemon_still d = record { number = refl; setting = refl; begun = refl; trace = same_list d.trace; stamps = same_list d.stamps }

daemon_further : (d e f : Daemon) → DaemonGoes d e → DaemonGoes e f → DaemonGoes d f
daemon_further d e f g h =
    record {
      number = h.number ∙ g.number;
      setting = h.setting ∙ g.setting;
      begun = h.begun ∙ g.begun;
      trace = grown_again d.trace e.trace f.trace g.trace h.trace;
      stamps = grown_again d.stamps e.stamps f.stamps g.stamps h.stamps;
    }

-- Those that run and those that ended.
abbrev with_running : Option Daemon → List Daemon → List Daemon
with_running o ds = elim o [ None ↦ ds | Some d ↦ d ∷ ds ]

same_daemons : (ds : List Daemon) → ListGoes DaemonGoes ds ds
same_daemons ds = calls_still DaemonGoes ds daemon_still

-- A change that leaves what runs.
pub leaves : (a b : Machine) → b.up ≡ a.up → b.used ≡ a.used → b.daemon ≡ a.daemon → b.ended ≡ a.ended → IsSettled a → Hosts a b
leaves a b up used daemon ended s =
    record {
      settled = record { down = λ h. daemon ∙ s.down (sym up ∙ h); unused = λ h. daemon ∙ s.unused (sym used ∙ h) };
      daemons = subst (λ o. ListGoes DaemonGoes (daemons_on a) (with_running o b.ended)) (sym daemon)
          (subst (λ ds. ListGoes DaemonGoes (daemons_on a) (with_running a.daemon ds)) (sym ended) (same_daemons (daemons_on a)));
    }

-- The daemon has one more entry.
entered_by : (e : Entry) (now : Stamp) (o : Option Daemon) (ds : List Daemon) → ListGoes DaemonGoes (with_running o ds) (with_running (option_map (with_entry e now) o) ds)
entered_by e now None ds = same_daemons ds
entered_by e now (Some d) ds =
    record {
      newer = [];
      older = with_entry e now d ∷ ds;
      same = refl;
      follow = (
        record {
          number = refl;
          setting = refl;
          begun = refl;
          trace = record { newer = e ∷ []; same = refl };
          stamps = record { newer = now ∷ []; same = refl };
        },
        follow_still DaemonGoes ds daemon_still,
      );
    }

entered : (e : Entry) (now : Stamp) (a b : Machine) → b.up ≡ a.up → b.used ≡ a.used → b.daemon ≡ option_map (with_entry e now) a.daemon → b.ended ≡ a.ended
    → IsSettled a → Hosts a b
entered e now a b up used daemon ended s =
    record {
      settled = record {
        down = λ h. daemon ∙ ap (option_map (with_entry e now)) (s.down (sym up ∙ h));
        unused = λ h. daemon ∙ ap (option_map (with_entry e now)) (s.unused (sym used ∙ h));
      };
      daemons = subst (λ o. ListGoes DaemonGoes (daemons_on a) (with_running o b.ended)) (sym daemon)
          (subst (λ ds. ListGoes DaemonGoes (daemons_on a) (with_running (option_map (with_entry e now) a.daemon) ds)) (sym ended) (entered_by e now a.daemon a.ended));
    }

-- The entry of a step.
abbrev entry_of : Input → Effects → Machine → Entry
entry_of i fx a = record { reading = reading_now a; input = i; effects = fx }

steps_host : (now : Stamp) (i : Input) (fx : Effects) (a : Machine) → IsSettled a → Hosts a (after_step now i fx a)
steps_host now (Line text) fx a s = entered (entry_of (Line text) fx a) now a (after_step now (Line text) fx a) refl refl refl refl s
steps_host now (Number text) fx a s = entered (entry_of (Number text) fx a) now a (after_step now (Number text) fx a) refl refl refl refl s
steps_host now (Told n answer) fx a s = entered (entry_of (Told n answer) fx a) now a (after_step now (Told n answer) fx a) refl refl refl refl s
steps_host now Wake fx a s = entered (entry_of Wake fx a) now a (after_step now Wake fx a) refl refl refl refl s
steps_host now (Exit p) fx a s = entered (entry_of (Exit p) fx a) now a (after_step now (Exit p) fx a) refl refl refl refl s
steps_host now (Spawned p ok) fx a s = entered (entry_of (Spawned p ok) fx a) now a (after_step now (Spawned p ok) fx a) refl refl refl refl s

crashes : (a : Machine) → IsSettled a → Hosts a (after_crash a)
crashes a s = record { settled = record { down = λ h. refl; unused = λ h. refl }; daemons = same_daemons (daemons_on a) }

resets_end : (w : World) (a : Machine) → IsSettled a → Hosts a (after_reset w a)
resets_end w a s = record { settled = record { down = λ h. refl; unused = λ h. refl }; daemons = same_daemons (daemons_on a) }

restarts_leave : (w : World) (a : Machine) → a.up ≡ false → IsSettled a → Hosts a (after_restart w a)
restarts_leave w a down s =
    record { settled = record { down = λ h. s.down down; unused = λ h. s.down down }; daemons = same_daemons (daemons_on a) }

begun_by : (o : Option Daemon) (ds : List Daemon) (d : Daemon) → o ≡ None → ListGoes DaemonGoes (with_running o ds) (d ∷ ds)
begun_by o ds d h =
    subst (λ p. ListGoes DaemonGoes (with_running p ds) (d ∷ ds)) (sym h)
    (record { newer = d ∷ []; older = ds; same = refl; follow = follow_still DaemonGoes ds daemon_still })

begins : (w : World) (m : ℕ) (name : List ℕ) (a : Machine) → (a.up ≡ true) × (a.used ≡ false) → IsSettled a → Hosts a (after_start w m name a)
begins w m name a may s =
    record {
      settled = record { down = λ h. absurd (not_both a.up may.0 h); unused = λ h. absurd (true_is_false h) };
      daemons = begun_by a.daemon a.ended _ (s.unused may.1);
    }

asked : (w : World) (e : Event) → may_happen w e ≡ true → Asked HostsIfSettled w e
asked w e may =
    record {
      pass = λ d growths is m a h. leaves a _ refl refl refl refl;
      sample = λ m c k is a h. leaves a _ refl refl refl refl;
      land = λ m c is a f h g t. leaves a _ refl refl refl refl;
      tear = λ m c k bytes is a f h g t. leaves a _ refl refl refl refl;
      done_read = λ m c is a f h g t. leaves a _ refl refl refl refl;
      done_write = λ m c is a f h g t. leaves a _ refl refl refl refl;
      drop_write = λ m c is a h. leaves a _ refl refl refl refl;
      tested = λ m is a h. leaves a _ refl refl refl refl;
      start = λ m name is a h. begins w m name a (starts w m name a (subst (λ x. may_happen w x ≡ true) is may) h);
      crash = λ m is a h. crashes a;
      reset = λ m is a h. resets_end w a;
      restart = λ m is a h. restarts_leave w a (restarts w m a (subst (λ x. may_happen w x ≡ true) is may) h);
    }

still : (m : ℕ) (a : Machine) → HostsIfSettled m a a
still m a = leaves a a refl refl refl refl

further : (m : ℕ) (a b c : Machine) → HostsIfSettled m a b → HostsIfSettled m b c → HostsIfSettled m a c
further m a b c g h s =
    let p = g s in
    let q = h p.settled in
    record { settled = q.settled; daemons = calls_further DaemonGoes (daemons_on a) (daemons_on b) (daemons_on c) daemon_further p.daemons q.daemons }

step_hosts : (m : ℕ) (o : Option Input) (fx : Effects) (v : World) → EachMachine HostsIfSettled v (take_step m o fx v)
step_hosts m o fx v =
    each_step HostsIfSettled m o fx v still (λ none a h. leaves a (after_effects (stamp_now v a) fx a) refl refl refl refl)
    (λ i is a h. steps_host (stamp_now v a) i fx a)

steps_go : (w : World) (e : Event) (before fxs : List Effects) (v : World) → EachMachine HostsIfSettled v (take_steps w e before fxs v)
steps_go w e before [] v = each_still HostsIfSettled v still
steps_go w e before (fx ∷ fxs) v =
    let u : World = take_step (machine_of e) (next_input w e before) fx v in
    each_further HostsIfSettled v u (take_steps w e before (fx ∷ fxs) v) further (step_hosts (machine_of e) (next_input w e before) fx v)
    (steps_go w e (before ++ fx ∷ []) fxs u)

pub event_hosts : (w : World) (e : Event) (fxs : List Effects) → may_happen w e ≡ true → EachMachine HostsIfSettled w (happens w e fxs)
event_hosts w e fxs may =
    let u : World = first_change e w in
    each_further HostsIfSettled w (next_step u) (happens w e fxs) further (each_first HostsIfSettled e w (λ none. still) (asked w e may)) (steps_go w e [] fxs (next_step u))

pub run_hosts : (w : World) (xs : List Happening) → IsRun w xs → EachMachine HostsIfSettled w (world_after w xs)
run_hosts w [] run = each_still HostsIfSettled w still
run_hosts w (x ∷ xs) run =
    each_further HostsIfSettled w (happens w x.0 x.1) (world_after w (x ∷ xs)) further (event_hosts w x.0 x.1 run.0) (run_hosts (happens w x.0 x.1) xs run.2)
