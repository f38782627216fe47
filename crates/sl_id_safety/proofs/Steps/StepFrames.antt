-- An entry of a daemon: what its step makes of its machine, and that the sessions of all other daemons stay as they were.
use Rattle.sl_run_law.proofs.Course.OneMachineChanges.{changed_here}
use Rattle.sl_run_law.proofs.Course.Daemons.{daemons_are, step_ended}
use Rattle.sl_run_law.proofs.Front.RunsFromFronts.{last_event}
use Rattle.sl_id_safety.proofs.State.FindingFrames.{IsFound, changed_elsewhere, is_found, moved, moves_by, session_on, session_with}
use Rattle.sl_id_safety.proofs.Steps.CallEvents.{answer_flies, do_flies}
use Rattle.sl_id_safety.proofs.Steps.EventFrames.{after_event, entry_of}
use Rattle.sl_id_safety.proofs.Steps.IdsStayStill.{with_running}
use Rattle.sl_id_safety.specs.Steps.EventParts.{between}
use Rattle.sl_run_law.proofs.Landing.CallsOfStep.{same_daemon}
use Rattle.sl_words.proofs.Lists.{contains_first, contains_more}
use Rattle.sl_words.proofs.Options.{then_value}
use Rattle.sl_run.specs.EventChanges.{after_step, close_answered, daemon_number, new_course, next_step, take_step, with_entry}
use Rattle.sl_run.specs.Inputs.{if_running, input_at, input_of, machine_of}
use Rattle.sl_run.specs.Refusals.{may_happen}
use Rattle.sl_run.specs.Runs.{Happening}
use Rattle.sl_run.specs.Safety.{Found, LawfulRun, SessionId, world_at}
use Rattle.sl_run.specs.Worlds.{Course, Daemon, Machine, Program, Stamp, World, daemon_numbered, daemons_on, machine_at, stamp_now}
use Rattle.sl_run.specs.declared.event.Event.TheVariants.{AnswerCall, Crash, Do, DropWrite, ExitOf, GiveAsk, GiveCommand, GiveLvm, Land, Pass, Reset, Restart, Sample, SpawnedOf, StartDaemon, Tear, Test, WakeUp}
use Rattle.sl_run.specs.declared.event.Event.{Event}
use Rattle.sl_run.specs.declared.header.Header.{Header}
use Rattle.sl_run_law.proofs.MachineWalk.{Asked, each_first}
use Rattle.sl_run_law.specs.FatesStay.{Every}
use Rattle.sl_run_law.specs.Machines.{EachMachine}
use Rattle.sl_run_law.proofs.Sessions.CallOwners.{session_more}
use Rattle.sl_trace.specs.Sessions.{session_numbered}
use Rattle.sl_trace.specs.declared.effects.Call.{Call}
use Rattle.sl_trace.specs.declared.effects.Effects.{Effects}
use Rattle.sl_trace.specs.declared.input.Input.TheVariants.{Answer as Told, Exit, Line, Number, Spawned, Wake}
use Rattle.sl_trace.specs.declared.input.Input.{Input}
use Rattle.sl_words.proofs.CaseLaws.{none_some, one_value, true_is_false}
use Rattle.sl_words.specs.Words.{choose}
use Rattle.std.proofs.Common.{ap, refl, subst, sym, ◌∙◌}
use Rattle.std.proofs.lemmas.List.{append_assoc}
use Rattle.std.specs.Option.{option_map_or}
use Rattle.std.specs.Prelude.{Bool, Contains, List, None, Option, Some, cond, false, find, fold, is_none, is_some, option_and_then, option_map, slice_set, true, [], ℕ, ◌++◌, ◌-◌, ◌==◌, ◌∷◌, ◌≡◌}

-- ---- the daemon that takes it

-- A machine whose daemon runs.
pub record Runs (w : World) (m : ℕ) : Type 0 where
  pub machine : Machine
  pub daemon : Daemon
  pub at : machine_at w m ≡ Some machine
  pub runs : machine.daemon ≡ Some daemon

runs_by : (w : World) (m : ℕ) (a : Machine) (o : Option Daemon) → machine_at w m ≡ Some a → a.daemon ≡ o → is_some o ≡ true → Runs w m
runs_by w m a None at is h = absurd (true_is_false (sym h))
runs_by w m a (Some d) at is h = record { machine = a; daemon = d; at = at; runs = is }

some_by : {A : Type 0} (o : Option A) → is_none o ≡ false → is_some o ≡ true
some_by None h = absurd (true_is_false h)
some_by (Some a) h = refl

chosen : {A : Type 0} (b : Bool) (x y : A) → choose b x ≡ Some y → b ≡ true
chosen true x y h = refl
chosen false x y h = absurd (none_some y h)

running_by : (w : World) (m : ℕ) (i j : Input) (o : Option Machine) → machine_at w m ≡ o → option_and_then (λ a. if_running a i) o ≡ Some j → Runs w m
running_by w m i j None at h = absurd (none_some j h)
running_by w m i j (Some a) at h = runs_by w m a a.daemon at refl (chosen (is_some a.daemon) i j h)

asked_by : (w : World) (m : ℕ) (j : Input) (o : Option Machine) → machine_at w m ≡ o
    → option_and_then (λ a. option_and_then (λ text. if_running a (Line text)) a.locks.due) o ≡ Some j → Runs w m
asked_by w m j None at h = absurd (none_some j h)
asked_by w m j (Some a) at h =
    let x = then_value (λ text. if_running a (Line text)) a.locks.due j h in
    runs_by w m a a.daemon at refl (chosen (is_some a.daemon) (Line x.0) j x.2)

nothing_given : (j : Input) (o : Option Machine) → option_and_then (λ (a : Machine). let x : Option Input = None in x) o ≡ Some j → ⊥
nothing_given j None h = none_some j h
nothing_given j (Some a) h = none_some j h

-- An event that gives an input has a daemon that takes it.
pub entry_runs : (w : World) (e : Event) (j : Input) → may_happen w e ≡ true → input_of w e ≡ Some j → Runs w (machine_of e)
entry_runs w (Pass d growths) j may h = absurd (nothing_given j (machine_at w 0) h)
entry_runs w (WakeUp m) j may h = running_by w m Wake j (machine_at w m) refl h
entry_runs w (GiveCommand m text) j may h = running_by w m (Line text) j (machine_at w m) refl h
entry_runs w (GiveLvm m line) j may h = running_by w m (Number line) j (machine_at w m) refl h
entry_runs w (GiveAsk m) j may h = asked_by w m j (machine_at w m) refl h
entry_runs w (Sample m c k) j may h = absurd (nothing_given j (machine_at w m) h)
entry_runs w (Land m c) j may h = absurd (nothing_given j (machine_at w m) h)
entry_runs w (Tear m c k bytes) j may h = absurd (nothing_given j (machine_at w m) h)
entry_runs w (AnswerCall m c ok) j may h = let f = answer_flies w m c ok may in runs_by w m f.machine f.machine.daemon f.at refl (some_by f.machine.daemon f.holds.0)
entry_runs w (Do m c) j may h = let f = do_flies w m c may in runs_by w m f.machine f.machine.daemon f.at refl (some_by f.machine.daemon f.holds.0)
entry_runs w (DropWrite m c) j may h = absurd (nothing_given j (machine_at w m) h)
entry_runs w (Test m) j may h = absurd (nothing_given j (machine_at w m) h)
entry_runs w (ExitOf m p) j may h = running_by w m (Exit p) j (machine_at w m) refl h
entry_runs w (SpawnedOf m p ok) j may h = running_by w m (Spawned p ok) j (machine_at w m) refl h
entry_runs w (StartDaemon m name) j may h = absurd (nothing_given j (machine_at w m) h)
entry_runs w (Crash m) j may h = absurd (nothing_given j (machine_at w m) h)
entry_runs w (Reset m) j may h = absurd (nothing_given j (machine_at w m) h)
entry_runs w (Restart m) j may h = absurd (nothing_given j (machine_at w m) h)

-- ---- what a change before a step leaves of daemons

-- The daemons and resets of a machine stay.
pub record KeepsDaemons (a b : Machine) : Type 0 where
  pub daemon : b.daemon ≡ a.daemon
  pub ended : b.ended ≡ a.ended
  pub resets : b.resets ≡ a.resets

keeps : (a b : Machine) → b.daemon ≡ a.daemon → b.ended ≡ a.ended → b.resets ≡ a.resets → KeepsDaemons a b
keeps a b daemon ended resets = record { daemon = daemon; ended = ended; resets = resets }

still : (m : ℕ) (a : Machine) → KeepsDaemons a a
still m a = keeps a a refl refl refl

given_none : (w : World) (e x : Event) (j : Input) → e ≡ x → ((o : Option Machine) → option_and_then (input_at w x) o ≡ Some j → ⊥) → input_of w e ≡ Some j → ⊥
given_none w e x j is none h = none (machine_at w (machine_of x)) (subst (λ y. input_of w y ≡ Some j) is h)

asked : (w : World) (e : Event) (j : Input) → input_of w e ≡ Some j → Asked (λ m. KeepsDaemons) w e
asked w e j gives =
    record {
      pass = λ d growths is m a h. keeps a _ refl refl refl;
      sample = λ m c k is a h. keeps a _ refl refl refl;
      land = λ m c is a f h g t. keeps a _ refl refl refl;
      tear = λ m c k bytes is a f h g t. keeps a _ refl refl refl;
      done_read = λ m c is a f h g t. keeps a _ refl refl refl;
      done_write = λ m c is a f h g t. keeps a _ refl refl refl;
      drop_write = λ m c is a h. keeps a _ refl refl refl;
      tested = λ m is a h. keeps a _ refl refl refl;
      start = λ m name is a h. absurd (given_none w e (StartDaemon m name) j is (nothing_given j) gives);
      crash = λ m is a h. absurd (given_none w e (Crash m) j is (nothing_given j) gives);
      reset = λ m is a h. absurd (given_none w e (Reset m) j is (nothing_given j) gives);
      restart = λ m is a h. keeps a _ refl refl refl;
    }

-- Before an entry no machine's daemons change.
pub entry_keeps : (w : World) (e : Event) (j : Input) → input_of w e ≡ Some j → EachMachine (λ m. KeepsDaemons) w (between w e)
entry_keeps w e j gives = each_first (λ m. KeepsDaemons) e w (λ none. still) (asked w e j gives)

-- ---- the step

-- The step of an entry.
pub record IsEntry (p : Program) (h : Header) (now : List Happening) (x : Happening) : Type 0 where
  pub input : Input
  pub effects : Effects
  -- the machine before the event, and before the step, with the daemon that takes it
  pub was : Machine
  pub machine : Machine
  pub daemon : Daemon
  pub gives : input_of (world_at p h now) x.0 ≡ Some input
  pub was_at : machine_at (world_at p h now) (machine_of x.0) ≡ Some was
  pub ran : was.daemon ≡ Some daemon
  pub at : machine_at (between (world_at p h now) x.0) (machine_of x.0) ≡ Some machine
  pub runs : machine.daemon ≡ Some daemon
  pub later : machine_at (after_event p h now x) (machine_of x.0) ≡ Some (after_step (stamp_now (between (world_at p h now) x.0) machine) input effects machine)
  pub elsewhere : (k : ℕ) → (k ≡ machine_of x.0 → ⊥) → machine_at (after_event p h now x) k ≡ machine_at (between (world_at p h now) x.0) k
  pub moment : (after_event p h now x).moment ≡ (between (world_at p h now) x.0).moment

step_at : (m : ℕ) (i : Input) (fx : Effects) (u : World) (a : Machine) → machine_at u m ≡ Some a
    → machine_at (take_step m (Some i) fx u) m ≡ Some (after_step (stamp_now u a) i fx a)
step_at m i fx u a at = changed_here u m (λ b. after_step (stamp_now u b) i fx b) a at

step_elsewhere : (m k : ℕ) (i : Input) (fx : Effects) (u : World) → (k ≡ m → ⊥) → machine_at (take_step m (Some i) fx u) k ≡ machine_at u k
step_elsewhere m k i fx u apart = changed_elsewhere u m k (λ b. after_step (stamp_now u b) i fx b) apart

step_moment : (m : ℕ) (f : Machine → Machine) (u : World) (o : Option Machine)
    → (next_step (elim o as (λ x. World) [ None ↦ u | Some a ↦ record u { machines = slice_set u.machines (m - 1) (f a) } ])).moment ≡ u.moment
step_moment m f u None = refl
step_moment m f u (Some a) = refl

-- Each event that gives an input has its entry.
pub entry_is : (p : Program) (h : Header) (now : List Happening) (x : Happening) → LawfulRun p h (now ++ x ∷ []) → (j : Input)
    → input_of (world_at p h now) x.0 ≡ Some j → IsEntry p h now x
entry_is p h now x run j gives =
    let last = last_event p h now x run in
    let w : World = world_at p h now in
    let u : World = between w x.0 in
    let r : Runs w (machine_of x.0) = entry_runs w x.0 j last.may gives in
    let b = entry_keeps w x.0 j gives (machine_of x.0) r.machine r.at in
    let after : after_event p h now x ≡ take_step (machine_of x.0) (Some j) last.effects u =
    last.after ∙ ap (λ o. take_step (machine_of x.0) o last.effects u) gives in
    record {
      input = j;
      effects = last.effects;
      was = r.machine;
      machine = b.0;
      daemon = r.daemon;
      gives = gives;
      was_at = r.at;
      ran = r.runs;
      at = b.1;
      runs = b.2.daemon ∙ r.runs;
      later = ap (λ v. machine_at v (machine_of x.0)) after ∙ step_at (machine_of x.0) j last.effects u b.0 b.1;
      elsewhere = λ k apart. ap (λ v. machine_at v k) after ∙ step_elsewhere (machine_of x.0) k j last.effects u apart;
      moment = ap (λ v. v.moment) after ∙ step_moment (machine_of x.0) (λ b. after_step (stamp_now u b) j last.effects b) u (machine_at u (machine_of x.0));
    }

-- ---- daemons after it

step_daemon : (now : Stamp) (i : Input) (fx : Effects) (a : Machine) → (after_step now i fx a).daemon ≡ option_map (with_entry (entry_of i fx a) now) a.daemon
step_daemon now (Line text) fx a = refl
step_daemon now (Number text) fx a = refl
step_daemon now (Told n answer) fx a = refl
step_daemon now Wake fx a = refl
step_daemon now (Exit p) fx a = refl
step_daemon now (Spawned p ok) fx a = refl

-- The daemon with its entry.
abbrev pub entered : Stamp → Input → Effects → Machine → Daemon → Daemon
entered now i fx a d = with_entry (entry_of i fx a) now d

pub step_runs : (now : Stamp) (i : Input) (fx : Effects) (a : Machine) (d : Daemon) → a.daemon ≡ Some d → (after_step now i fx a).daemon ≡ Some (entered now i fx a d)
step_runs now i fx a d h = step_daemon now i fx a ∙ ap (option_map (with_entry (entry_of i fx a) now)) h

after_daemons : (now : Stamp) (i : Input) (fx : Effects) (a : Machine) (d : Daemon) → a.daemon ≡ Some d
    → daemons_on (after_step now i fx a) ≡ entered now i fx a d ∷ a.ended
after_daemons now i fx a d h =
    ap (λ o. with_running o (after_step now i fx a).ended) (step_runs now i fx a d h) ∙ ap (λ ds. entered now i fx a d ∷ ds) (step_ended now i fx a)

-- ---- sessions after it

skips : (n : ℕ) (d : Daemon) (ds : List Daemon) (t : Bool) → (d.number == n) ≡ t → t ≡ false → find (λ x. x.number == n) (d ∷ ds) ≡ find (λ x. x.number == n) ds
skips n d ds t is h = ap (λ b. cond b (Some d) (find (λ x. x.number == n) ds)) (is ∙ h)

takes : (n : ℕ) (d : Daemon) (ds : List Daemon) → (d.number == n) ≡ true → find (λ x. x.number == n) (d ∷ ds) ≡ Some d
takes n d ds h = ap (λ b. cond b (Some d) (find (λ x. x.number == n) ds)) h

-- A session of another daemon is found as before.
pub other_found : (n : ℕ) (now : Stamp) (j : Input) (fx : Effects) (a : Machine) (d : Daemon) (i : SessionId) → a.daemon ≡ Some d → (d.number == i.daemon) ≡ false
    → session_on n i (after_step now j fx a) ≡ option_map (moved (after_step now j fx a)) (session_on n i a)
other_found n now j fx a d i runs other =
    let b : Machine = after_step now j fx a in
    ap (λ ds. session_with n i b (find (λ x. x.number == i.daemon) ds)) (after_daemons now j fx a d runs)
    ∙ ap (session_with n i b) (skips i.daemon (entered now j fx a d) a.ended (d.number == i.daemon) refl other ∙ sym (skips i.daemon d a.ended (d.number == i.daemon) refl other)
    ∙ ap (λ ds. find (λ x. x.number == i.daemon) ds) (sym (daemons_are a d runs)))
    ∙ moves_by n i a b (daemon_numbered a i.daemon)

-- A session of the daemon is found with the daemon's entry.
pub own_found : (n : ℕ) (now : Stamp) (j : Input) (fx : Effects) (a : Machine) (d : Daemon) (i : SessionId) (f : Found) → a.daemon ≡ Some d
    → (d.number == i.daemon) ≡ true → session_on n i a ≡ Some f → (f.daemon ≡ d) × (session_on n i (after_step now j fx a)
    ≡ Some (record { machine = after_step now j fx a; daemon = entered now j fx a d; session = f.session; now = n }))
own_found n now j fx a d i f runs same at =
    let b : Machine = after_step now j fx a in
    let e : Daemon = entered now j fx a d in
    let found : IsFound n i a f = is_found n i a f at in
    let before : daemon_numbered a i.daemon ≡ Some d = ap (λ ds. find (λ x. x.number == i.daemon) ds) (daemons_are a d runs) ∙ takes i.daemon d a.ended same in
    let is : f.daemon ≡ d = one_value f.daemon d (daemon_numbered a i.daemon) found.daemon before in
    let session : session_numbered e.setting e.trace i.number ≡ Some f.session =
    session_more d.setting (entry_of j fx a) d.trace i.number f.session (subst (λ y. session_numbered y.setting y.trace i.number ≡ Some f.session) is found.session) in (
      is,
      ap (λ ds. session_with n i b (find (λ x. x.number == i.daemon) ds)) (after_daemons now j fx a d runs)
          ∙ ap (session_with n i b) (takes i.daemon e a.ended same)
          ∙ ap (λ o. option_map (λ s. let y : Found = record { machine = b; daemon = e; session = s; now = n } in y) o) session,
    )

-- ---- calls after it

-- A call that a step submits.
pub record IsNewCourse (now : Stamp) (number : ℕ) (calls : List Call) (c : Course) : Type 0 where
  pub call : Call
  pub has : Contains calls call
  pub is : c ≡ new_course now number call

-- Calls of a step stand in front of those before.
pub record Submits (now : Stamp) (number : ℕ) (calls : List Call) (before after : List Course) : Type 0 where
  pub newer : List Course
  pub same : after ≡ newer ++ before
  pub each : Every (IsNewCourse now number calls) newer

every_more : (now : Stamp) (number : ℕ) (c : Call) (calls : List Call) (xs : List Course) → Every (IsNewCourse now number calls) xs
    → Every (IsNewCourse now number (c ∷ calls)) xs
every_more now number c calls [] h = tt
every_more now number c calls (x ∷ xs) h =
    (record { call = h.0.call; has = contains_more c calls h.0.call h.0.has; is = h.0.is }, every_more now number c calls xs h.1)

every_last : (P : Course → Type 0) (xs : List Course) (y : Course) → Every P xs → P y → Every P (xs ++ y ∷ [])
every_last P [] y h this = (this, tt)
every_last P (x ∷ xs) y h this = (h.0, every_last P xs y h.1 this)

submits_by : (now : Stamp) (number : ℕ) (before : List Course) (calls : List Call)
    → Submits now number calls before (fold (λ cs c. new_course now number c ∷ cs) before calls)
submits_by now number before [] = record { newer = []; same = refl; each = tt }
submits_by now number before (c ∷ calls) =
    let s = submits_by now number (new_course now number c ∷ before) calls in
    record {
      newer = s.newer ++ new_course now number c ∷ [];
      same = s.same ∙ sym (append_assoc s.newer (new_course now number c ∷ []) before);
      each = every_last (IsNewCourse now number (c ∷ calls)) s.newer (new_course now number c) (every_more now number c calls s.newer s.each)
          (record { call = c; has = contains_first c calls; is = refl });
    }

number_is : (now : Stamp) (i : Input) (a : Machine) (d : Daemon) → a.daemon ≡ Some d → daemon_number (close_answered now i a) ≡ d.number
number_is now i a d runs = ap (λ o. option_map_or (λ (x : Daemon). x.number) o 0) (same_daemon now i a ∙ runs)

pub step_submits : (now : Stamp) (i : Input) (fx : Effects) (a : Machine) (d : Daemon) → a.daemon ≡ Some d
    → Submits now d.number fx.calls (close_answered now i a).calls (after_step now i fx a).calls
step_submits now i fx a d runs =
    subst (λ n. Submits now n fx.calls (close_answered now i a).calls (after_step now i fx a).calls) (number_is now i a d runs)
    (submits_by now (daemon_number (close_answered now i a)) (close_answered now i a).calls fx.calls)
