-- Searches for the premises that are asked, and for a refusal.
use Rattle.sl_examples.specs.QuietPremises.Premises.{GrantedUnder, IfAsked, InTime, ModesOver, Premises, StartUnder, StaysUnder, StepUnder}
use Rattle.sl_report.specs.DueRuns.{due_run, effects_of}
use Rattle.sl_run.specs.EventChanges.{happens}
use Rattle.sl_run.specs.Inputs.{input_at, input_of}
use Rattle.sl_run.specs.Quiet.{IsGrantedQuietly, before_command, leader_there, request_there}
use Rattle.sl_run.specs.Runs.{Happening, world_after}
use Rattle.sl_run.specs.Worlds.{Daemon, Machine, World, machine_at, reading_now}
use Rattle.sl_run.specs.declared.event.Event.TheVariants.{GiveCommand}
use Rattle.sl_run.specs.declared.event.Event.{Event}
use Rattle.sl_run_law.proofs.Front.RunsFromFronts.{run_after}
use Rattle.sl_trace.specs.Ballots.{in_instance, next_mbal}
use Rattle.sl_trace.specs.Counts.{held_here, limit_met, may_act}
use Rattle.sl_trace.specs.Leases.{is_leader_of, known, open_on, owed, spot_of}
use Rattle.sl_trace.specs.Sessions.{is_active, session_named}
use Rattle.sl_trace.specs.Traces.{Replied, next_job, reply_to}
use Rattle.sl_trace.specs.declared.command.ResourceArg.{ResourceArg}
use Rattle.sl_trace.specs.declared.input.Input.TheVariants.{Line}
use Rattle.sl_trace.specs.declared.reply.Reply.TheVariants.{Granted}
use Rattle.sl_trace.specs.declared.reply.Reply.{Reply}
use Rattle.sl_examples.proofs.Witness.QuietSearch.{ActiveIn, AnswersIn, HasLow, Modes, NoneFlies, not_shared, on_list, seek_acquire, seek_active, seek_answers, seek_goes_on, seek_grounded, seek_low, seek_modes, seek_no_other}
use Rattle.sl_examples.proofs.Witness.RunSearch.{due_run-append}
use Rattle.sl_examples.proofs.Witness.ProofSearch.{seek_all, seek_by, seek_empty, seek_false, seek_for, seek_lt, seek_none, seek_some, seek_true, seek_up_to, ◌>>=◌}
use Rattle.sl_words.proofs.CaseLaws.{not_both, true_is_false}
use Rattle.sl_words.specs.Bounds.{record_numbers}
use Rattle.sl_words.specs.Words.{choose}
use Rattle.std.proofs.Common.{ap, refl, subst, sym, ◌∙◌}
use Rattle.std.proofs.lemmas.List.{append-nil}
use Rattle.std.specs.Prelude.{Bool, List, Option, Some, [], false, is_some, map, option_and_then, option_to_list, true, ℕ, ◌++◌, ◌+◌, ◌∷◌, ◌≡◌}

-- ---- the premises

abbrev pub seek_asked : {P : Type 0} (b : Bool) → Option P → Option (IfAsked b P)
seek_asked {P} b f = seek_by {P = P} {Q = Unit {0}} b f (Some tt)

abbrev pub seek_start_under : (asked : Premises) (w : World) (m : ℕ) (text : List ℕ) (r : ResourceArg) (shared : Bool) (p : ℕ) → Option (StartUnder asked w m text r shared p)
seek_start_under asked w m text r shared p = do
  a ← seek_some (machine_at w m)
  d ← seek_some a.0.daemon
  line ← seek_acquire (d.0.setting.read text) r shared p
  process ← seek_true (may_act d.0.trace p)
  s ← seek_some (session_named d.0.setting (before_command d.0 (reading_now a.0)) r.lockspace)
  active ← seek_true (is_active d.0.setting (before_command d.0 (reading_now a.0)) s.0)
  no_holding ← seek_empty (held_here d.0.trace (spot_of r))
  settled ← seek_none (owed (known d.0.setting d.0.trace s.0 (spot_of r)))
  no_call ← seek_empty (open_on d.0.setting d.0.trace (spot_of r))
  no_limit ← seek_asked asked.no_limit (seek_none (limit_met d.0.setting d.0.trace s.0 (spot_of r) false))
  l ← seek_some (leader_there w (spot_of r))
  names ← seek_true (is_leader_of w.layout r.lockspace r.name l.0)
  free ← seek_false l.0.held
  numbers ← seek_lt (l.0.lver + 1) record_numbers
  ballot ← seek_lt (next_mbal w.layout.hosts s.0.id
      (map (λ b. b.mbal) (in_instance (l.0.lver + 1) (option_to_list (known d.0.setting d.0.trace s.0 (spot_of r)).own)))) record_numbers
  plain ← seek_false w.layout.paired
  request ← seek_true (is_some (request_there w (spot_of r)))
  blocks ← seek_up_to (HasLow w r l.0.lver) (seek_low w r l.0.lver) w.layout.hosts
  calm ← seek_all (NoneFlies w r) (seek_grounded w r) w.machines
  Some (record {
    machine = a.0;
    daemon = d.0;
    session = s.0;
    leader = l.0;
    runs = (a.1, d.1);
    persistent = line.0;
    line = line.1;
    process = process;
    named = s.1;
    active = active;
    no_holding = no_holding;
    settled = settled;
    no_call = no_call;
    no_limit = no_limit;
    leader_spells = l.1;
    names = names;
    free = free;
    numbers = numbers;
    ballot = ballot;
    request = λ single. request;
    blocks = blocks;
    pairs = λ paired host low high. absurd (not_both w.layout.paired paired plain);
    turns = λ paired first b there. absurd (not_both w.layout.paired paired plain);
    calm = λ k b c at has flying. calm b (on_list w k b at) c has flying;
  })

pub modes_over_by : (w : World) (m : ℕ) (r : ResourceArg) (shared : Bool) (number : ℕ) → Modes w r shared → ModesOver w m r shared number
modes_over_by w m r shared number modes exclusive host b a d s low high other at runs its spells is = absurd (not_shared b (modes exclusive host low high b spells) is)

abbrev pub seek_modes_over : (w : World) (m : ℕ) (r : ResourceArg) (shared : Bool) (number : ℕ) → Option (ModesOver w m r shared number)
seek_modes_over w m r shared number = do
  modes ← seek_modes w r shared
  Some (modes_over_by w m r shared number modes)

pub in_time_by : (w v : World) (m job : ℕ) → ((a : Machine) → machine_at v m ≡ Some a → AnswersIn w.header.timing.io job a) → InTime w v m job
in_time_by w v m job each a d c at runs has of = each a at d runs c has of

abbrev pub seek_in_time : (w v : World) (m job : ℕ) → Option (InTime w v m job)
seek_in_time w v m job = do
  each ← seek_for (AnswersIn w.header.timing.io job) (machine_at v m) (seek_answers w.header.timing.io job)
  Some (in_time_by w v m job each)

abbrev pub seek_step_under : (asked : Premises) (w : World) (x : Happening) (v : World) (m job : ℕ) (r : ResourceArg) (shared : Bool) (p number : ℕ)
    → Option (StepUnder asked w x v m job r shared p number)
seek_step_under asked w x v m job r shared p number = do
  modes ← seek_asked asked.modes_over (seek_modes_over w m r shared number)
  calm ← seek_asked asked.sole_writer (seek_no_other w x m r)
  active ← seek_for (ActiveIn number) (machine_at v m) (seek_active number)
  stays ← seek_goes_on x.0 m p
  answers ← seek_asked asked.in_time (seek_in_time w v m job)
  Some (record { modes = modes; calm = calm; active = λ a d s at runs its. active a at d runs s its; stays = stays; answers = answers })

abbrev pub seek_stays : (asked : Premises) (w : World) (xs : List Happening) (m job : ℕ) (r : ResourceArg) (shared : Bool) (p number : ℕ)
    → Option (StaysUnder asked w xs m job r shared p number)
seek_stays asked w [] m job r shared p number = Some tt
seek_stays asked w (x ∷ xs) m job r shared p number = do
  step ← seek_step_under asked w x (happens w x.0 x.1) m job r shared p number
  rest ← seek_stays asked (happens w x.0 x.1) xs m job r shared p number
  Some (step, rest)

-- ---- the refusal

-- The daemon of a machine in the end, whose job has a reply that is no grant.
pub record Refuses (w : World) (m job : ℕ) : Type 0 where
  pub machine : Machine
  pub daemon : Daemon
  pub after : (machine_at w m ≡ Some machine) × (machine.daemon ≡ Some daemon)
  pub told : Replied
  pub replied : reply_to daemon.trace job ≡ Some told
  pub refused : (lver : ℕ) → told.reply ≡ Granted lver → ⊥

abbrev pub is_grant : Reply → Bool
is_grant (Granted lver) = true
is_grant r = false

pub not_granted : (r : Reply) → is_grant r ≡ false → (lver : ℕ) → r ≡ Granted lver → ⊥
not_granted r none lver is = true_is_false (sym (ap is_grant is) ∙ none)

abbrev pub seek_refuses : (w : World) (m job : ℕ) → Option (Refuses w m job)
seek_refuses w m job = do
  a ← seek_some (machine_at w m)
  d ← seek_some a.0.daemon
  told ← seek_some (reply_to d.0.trace job)
  none ← seek_false (is_grant told.0.reply)
  Some (record { machine = a.0; daemon = d.0; after = (a.1, d.1); told = told.0; replied = told.1; refused = not_granted told.0.reply none })

not_quietly : (d : Daemon) (job lver : ℕ) (r : ResourceArg) (shared persistent : Bool) (p : ℕ) (told : Replied) → reply_to d.trace job ≡ Some told
    → ((n : ℕ) → told.reply ≡ Granted n → ⊥) → IsGrantedQuietly d job lver r shared persistent p → ⊥
not_quietly d job lver r shared persistent p told replied refused g = refused lver (g.reply told.at told.reply replied).0

-- ---- an acquire of machine 1 behind these events, each daemon doing what is due

module _ (asked : Premises) (start : World) (before during : List Event) (text : List ℕ) (r : ResourceArg) (shared : Bool) (p job number : ℕ) where
  abbrev w : World
  w = world_after start (due_run start before)

  abbrev line : Event
  line = GiveCommand 1 text

  abbrev x : Happening
  x = (line, effects_of w line)

  abbrev rest : List Happening
  rest = due_run (happens w line (effects_of w line)) during

  abbrev end : World
  end = world_after w (x ∷ rest)

  given : (q : StartUnder asked w 1 text r shared p) → input_of w line ≡ Some (Line text)
  given q = ap (λ o. option_and_then (input_at w line) o) q.runs.0 ∙ ap (λ o. choose (is_some o) (Line text)) q.runs.1

  whole : due_run start (before ++ line ∷ during) ≡ due_run start before ++ x ∷ rest ++ []
  whole = due_run-append start before (line ∷ during) ∙ sym (append-nil (due_run start before ++ x ∷ rest))

  -- Where it begins with nothing in its way, goes on under these premises, and is refused, they are not enough.
  pub fails : (q : StartUnder asked w 1 text r shared p) → next_job q.daemon.setting q.daemon.trace ≡ job → q.session.number ≡ number → StaysUnder asked w (x ∷ rest) 1 job r shared p number
      → Refuses end 1 job → GrantedUnder asked start (due_run start (before ++ line ∷ during)) → ⊥
  fails q numbered named stays refuses law =
      let at : machine_at (world_after start (due_run start before ++ x ∷ rest)) 1 ≡ Some refuses.machine =
      ap (λ v. machine_at v 1) (run_after start (due_run start before) (x ∷ rest)) ∙ refuses.after.0 in
      let k : ℕ = next_job q.daemon.setting q.daemon.trace in
      not_quietly refuses.daemon k (q.leader.lver + 1) r shared q.persistent p refuses.told (ap (λ n. reply_to refuses.daemon.trace n) numbered ∙ refuses.replied) refuses.refused
      (law (due_run start before) rest [] 1 p text r shared x q whole refl (given q)
      (subst (λ n. StaysUnder asked w (x ∷ rest) 1 n r shared p q.session.number) (sym numbered) (subst (λ n. StaysUnder asked w (x ∷ rest) 1 job r shared p n) (sym named) stays))
      refuses.machine refuses.daemon at refuses.after.1)

-- What is granted in a run is granted in what is left of it behind its first event.
pub granted_behind : (asked : Premises) (w : World) (x : Happening) (xs : List Happening) → GrantedUnder asked w (x ∷ xs) → GrantedUnder asked (happens w x.0 x.1) xs
granted_behind asked w x xs law before during rest m p text r shared y q is same given stays a d at runs =
    law (x ∷ before) during rest m p text r shared y q (ap (λ ys. x ∷ ys) is) same given stays a d at runs
