-- Searches for what a quiet acquire is to have: at its start, and in each event.
use Rattle.sl_trace.specs.Ballots.{in_instance, next_mbal}
use Rattle.sl_trace.specs.Counts.{held_here, limit_met, may_act}
use Rattle.sl_trace.specs.Leases.{is_leader_of, is_on, known, open_on, owed, spot_of}
use Rattle.sl_words.proofs.Lists.{got_inside}
use Rattle.sl_run.specs.EventChanges.{happens}
use Rattle.sl_run.specs.Inputs.{machine_of}
use Rattle.sl_run.specs.Quiet.{AnsweredInTime, QuietStart, QuietStep, StaysQuiet, before_command, job_calls, leader_there, request_there}
use Rattle.sl_run.specs.Runs.{Happening}
use Rattle.sl_run.specs.Safety.{block_there}
use Rattle.sl_run.specs.Worlds.{Course, Daemon, Machine, World, is_open, is_write_course, machine_at, reading_now}
use Rattle.sl_run.specs.declared.event.Event.TheVariants.{AnswerCall, Crash, Do, ExitOf, GiveCommand, Land, Pass, Reset, Sample}
use Rattle.sl_run.specs.declared.event.Event.{Event}
use Rattle.sl_sector.specs.declared.sector.Block.{Block}
use Rattle.sl_trace.specs.Sessions.{is_active, session_named, session_numbered}
use Rattle.sl_trace.specs.declared.session.Session.{Session}
use Rattle.sl_trace.specs.Traces.{Answered, Replied, Submitted, is_of_job, is_ok_answer, is_write, reply_to, submitted}
use Rattle.sl_trace.specs.declared.command.Command.TheVariants.{Acquire}
use Rattle.sl_trace.specs.declared.command.Command.{Command}
use Rattle.sl_trace.specs.declared.command.ResourceArg.{ResourceArg}
use Rattle.sl_trace.specs.declared.effects.Call.{Call}
use Rattle.sl_trace.specs.declared.effects.Effects.{Effects}
use Rattle.sl_trace.specs.declared.reply.Reply.TheVariants.{Granted}
use Rattle.sl_trace.specs.declared.reply.Reply.{Reply}
use Rattle.sl_examples.proofs.Witness.ProofSearch.{seek_all, seek_empty, seek_false, seek_for, seek_if, seek_lt, seek_le, seek_none, seek_same, seek_some, seek_text, seek_true, seek_up_to, ◌>>=◌}
use Rattle.sl_words.proofs.CaseLaws.{none_some, not_both, true_is_false}
use Rattle.sl_words.specs.Bounds.{record_numbers}
use Rattle.std.proofs.Common.{ap, refl, sym, ◌∙◌}
use Rattle.std.specs.Prelude.{Bool, Contains, IsTrue, List, None, Ok, Option, Result, Some, false, if◌then◌else◌, is_some, length, map, option_to_list, slice_get, true, [], ℕ, ◌&&◌, ◌+◌, ◌-◌, ◌==◌, ◌∷◌, ◌≡◌, ◌≤◌}

-- ---- the command

pub same_resource : (a b : ResourceArg) → a.lockspace ≡ b.lockspace → a.name ≡ b.name → a.path ≡ b.path → a.offset ≡ b.offset → a ≡ b
same_resource a b lockspace name path offset =
    ap (λ y. let z : ResourceArg = record a { lockspace = y } in z) lockspace ∙ ap (λ y. let z : ResourceArg = record a { lockspace = b.lockspace; name = y } in z) name
    ∙ ap (λ y. let z : ResourceArg = record b { path = y; offset = a.offset } in z) path ∙ ap (λ y. let z : ResourceArg = record b { offset = y } in z) offset

abbrev pub seek_resource : (a b : ResourceArg) → Option (a ≡ b)
seek_resource a b = do
  lockspace ← seek_text a.lockspace b.lockspace
  name ← seek_text a.name b.name
  path ← seek_text a.path b.path
  offset ← seek_same a.offset b.offset
  Some (same_resource a b lockspace name path offset)

abbrev pub seek_flag : (a b : Bool) → Option (a ≡ b)
seek_flag true true = Some refl
seek_flag false false = Some refl
seek_flag a b = None

abbrev read_as : Command → Result Command ℕ
read_as c = Ok c

pub same_acquire : (q r : ResourceArg) (t shared : Bool) (k p : ℕ) (persistent : Bool) → q ≡ r → t ≡ shared → k ≡ p → read_as (Acquire q t k persistent) ≡ Ok (Acquire r shared p persistent)
same_acquire q r t shared k p persistent a b c =
    ap (λ y. read_as (Acquire y t k persistent)) a ∙ ap (λ y. read_as (Acquire r y k persistent)) b ∙ ap (λ y. read_as (Acquire r shared y persistent)) c

abbrev pub seek_acquire : (c : Result Command ℕ) (r : ResourceArg) (shared : Bool) (p : ℕ) → Option ((persistent : Bool) × (c ≡ Ok (Acquire r shared p persistent)))
seek_acquire (Ok (Acquire q t k persistent)) r shared p = do
  a ← seek_resource q r
  b ← seek_flag t shared
  c ← seek_same k p
  Some (persistent, same_acquire q r t shared k p persistent a b c)
seek_acquire c r shared p = None

-- ---- the start

abbrev pub HasLow : World → ResourceArg → ℕ → ℕ → Type 0
HasLow w r lver host = (b : Block) × (block_there w (spot_of r) host ≡ Some b) × (b.lver ≤ lver)

abbrev pub seek_low : (w : World) (r : ResourceArg) (lver host : ℕ) → Option (HasLow w r lver host)
seek_low w r lver host = do
  b ← seek_some (block_there w (spot_of r) host)
  low ← seek_le b.0.lver lver
  Some (b.0, b.1, low)

abbrev flies : World → ResourceArg → Machine → Course → Bool
flies w r a c = is_write_course c && is_open a c && is_on w.layout (spot_of r) c.call

abbrev pub NoneFlies : World → ResourceArg → Machine → Type 0
NoneFlies w r a = (c : Course) → Contains a.calls c → IsTrue (flies w r a c) → ⊥

pub not_flying : (b : Bool) → b ≡ false → IsTrue b → ⊥
not_flying b is h = true_is_false (sym h ∙ is)

abbrev pub seek_grounded : (w : World) (r : ResourceArg) (a : Machine) → Option (NoneFlies w r a)
seek_grounded w r a =
    seek_all (λ c. IsTrue (flies w r a c) → ⊥) (λ c. do
      h ← seek_false (flies w r a c)
      Some (not_flying (flies w r a c) h)) a.calls

on_list_by : (ms : List Machine) (k : ℕ) (a : Machine) (t : Bool) → (if t then None else slice_get ms k) ≡ Some a → Contains ms a
on_list_by ms k a true h = absurd (none_some a h)
on_list_by ms k a false h = got_inside ms k a h

pub on_list : (w : World) (k : ℕ) (a : Machine) → machine_at w k ≡ Some a → Contains w.machines a
on_list w k a h = on_list_by w.machines (k - 1) a (k == 0) h

abbrev pub seek_start : (w : World) (m : ℕ) (text : List ℕ) (r : ResourceArg) (shared : Bool) (p : ℕ) → Option (QuietStart w m text r shared p)
seek_start w m text r shared p = do
  a ← seek_some (machine_at w m)
  d ← seek_some a.0.daemon
  line ← seek_acquire (d.0.setting.read text) r shared p
  process ← seek_true (may_act d.0.trace p)
  s ← seek_some (session_named d.0.setting (before_command d.0 (reading_now a.0)) r.lockspace)
  active ← seek_true (is_active d.0.setting (before_command d.0 (reading_now a.0)) s.0)
  no_holding ← seek_empty (held_here d.0.trace (spot_of r))
  settled ← seek_none (owed (known d.0.setting d.0.trace s.0 (spot_of r)))
  no_call ← seek_empty (open_on d.0.setting d.0.trace (spot_of r))
  no_limit ← seek_none (limit_met d.0.setting d.0.trace s.0 (spot_of r) false)
  l ← seek_some (leader_there w (spot_of r))
  names ← seek_true (is_leader_of w.layout r.lockspace r.name l.0)
  free ← seek_false l.0.held
  numbers ← seek_lt (l.0.lver + 1) record_numbers
  ballot ← seek_lt (next_mbal w.layout.hosts s.0.id
      (map (λ b. b.mbal) (in_instance (l.0.lver + 1) (option_to_list (known d.0.setting d.0.trace s.0 (spot_of r)).own)))) record_numbers
  plain ← seek_false w.layout.paired
  request ← seek_true (is_some (request_there w (spot_of r)))
  blocks ← seek_up_to (HasLow w r l.0.lver) (seek_low w r l.0.lver) w.layout.hosts
  calm ← seek_all (NoneFlies w r) (seek_grounded w r) w.machines
  Some (record {
    machine = a.0;
    daemon = d.0;
    session = s.0;
    leader = l.0;
    runs = (a.1, d.1);
    persistent = line.0;
    line = line.1;
    process = process;
    named = s.1;
    active = active;
    no_holding = no_holding;
    settled = settled;
    no_call = no_call;
    no_limit = no_limit;
    leader_spells = l.1;
    names = names;
    free = free;
    numbers = numbers;
    ballot = ballot;
    request = λ single. request;
    blocks = blocks;
    pairs = λ paired host low high. absurd (not_both w.layout.paired paired plain);
    turns = λ paired first b there. absurd (not_both w.layout.paired paired plain);
    calm = λ k b c at has flying. calm b (on_list w k b at) c has flying;
  })

-- ---- each event

abbrev pub Unshared : World → ResourceArg → ℕ → Type 0
Unshared w r host = (b : Block) → block_there w (spot_of r) host ≡ Some b → b.shared ≡ false

abbrev pub seek_unshared : (w : World) (r : ResourceArg) (host : ℕ) → Option (Unshared w r host)
seek_unshared w r host = seek_for (λ b. b.shared ≡ false) (block_there w (spot_of r) host) (λ b. seek_false b.shared)

-- No other host's mode stands, or the acquire is shared.
abbrev pub Modes : World → ResourceArg → Bool → Type 0
Modes w r shared = shared ≡ false → (host : ℕ) → 1 ≤ host → host ≤ w.layout.hosts → Unshared w r host

abbrev pub seek_modes : (w : World) (r : ResourceArg) (shared : Bool) → Option (Modes w r shared)
seek_modes w r true = Some (λ h. absurd (true_is_false h))
seek_modes w r false = do
  none ← seek_up_to (Unshared w r) (seek_unshared w r) w.layout.hosts
  Some (λ h. none)

abbrev pub Goes_on : Event → ℕ → ℕ → Type 0
Goes_on e m p = (e ≡ ExitOf m p → ⊥) × (e ≡ Crash m → ⊥) × (e ≡ Reset m → ⊥)

pub command_goes_on : (k : ℕ) (text : List ℕ) (m p : ℕ) → Goes_on (GiveCommand k text) m p
command_goes_on k text m p = (λ h. cc, λ h. cc, λ h. cc)

pub do_goes_on : (k c : ℕ) (m p : ℕ) → Goes_on (Do k c) m p
do_goes_on k c m p = (λ h. cc, λ h. cc, λ h. cc)

pub pass_goes_on : (d : ℕ) (growths : Option (List ℕ)) (m p : ℕ) → Goes_on (Pass d growths) m p
pass_goes_on d growths m p = (λ h. cc, λ h. cc, λ h. cc)

pub sample_goes_on : (k c n : ℕ) (m p : ℕ) → Goes_on (Sample k c n) m p
sample_goes_on k c n m p = (λ h. cc, λ h. cc, λ h. cc)

pub answer_goes_on : (k c : ℕ) (ok : Bool) (m p : ℕ) → Goes_on (AnswerCall k c ok) m p
answer_goes_on k c ok m p = (λ h. cc, λ h. cc, λ h. cc)

pub land_goes_on : (k c : ℕ) (m p : ℕ) → Goes_on (Land k c) m p
land_goes_on k c m p = (λ h. cc, λ h. cc, λ h. cc)

abbrev pub seek_goes_on : (e : Event) (m p : ℕ) → Option (Goes_on e m p)
seek_goes_on (GiveCommand k text) m p = Some (command_goes_on k text m p)
seek_goes_on (Do k c) m p = Some (do_goes_on k c m p)
seek_goes_on (Pass d growths) m p = Some (pass_goes_on d growths m p)
seek_goes_on (Sample k c n) m p = Some (sample_goes_on k c n m p)
seek_goes_on (AnswerCall k c ok) m p = Some (answer_goes_on k c ok m p)
seek_goes_on (Land k c) m p = Some (land_goes_on k c m p)
seek_goes_on e m p = None

abbrev pub ActiveIn : ℕ → Machine → Type 0
ActiveIn number a = (d : Daemon) → a.daemon ≡ Some d → (s : Session) → session_numbered d.setting d.trace number ≡ Some s → IsTrue (is_active d.setting d.trace s)

abbrev pub seek_active : (number : ℕ) (a : Machine) → Option (ActiveIn number a)
seek_active number a =
    seek_for (λ d. (s : Session) → session_numbered d.setting d.trace number ≡ Some s → IsTrue (is_active d.setting d.trace s)) a.daemon
    (λ d. seek_for (λ s. IsTrue (is_active d.setting d.trace s)) (session_numbered d.setting d.trace number) (λ s. seek_true (is_active d.setting d.trace s)))

abbrev pub seek_in_time : (io now : ℕ) (c : Submitted) (o : Option Answered) → Option (AnsweredInTime io now c o)
seek_in_time io now c None = seek_lt now (c.reading + io)
seek_in_time io now c (Some b) = do
  ok ← seek_true (is_ok_answer b.answer)
  early ← seek_lt b.reading (c.reading + io)
  Some (ok, early)

abbrev pub InTime : ℕ → ℕ → ℕ → Submitted → Type 0
InTime io now job c = IsTrue (is_of_job job c) → AnsweredInTime io now c c.answer

abbrev pub AnswersIn : ℕ → ℕ → Machine → Type 0
AnswersIn io job a = (d : Daemon) → a.daemon ≡ Some d → (c : Submitted) → Contains (submitted d.trace) c → InTime io (reading_now a) job c

abbrev pub seek_answers : (io job : ℕ) (a : Machine) → Option (AnswersIn io job a)
seek_answers io job a =
    seek_for (λ d. (c : Submitted) → Contains (submitted d.trace) c → InTime io (reading_now a) job c) a.daemon
    (λ d. seek_all (InTime io (reading_now a) job) (λ c. seek_if (is_of_job job c) (seek_in_time io (reading_now a) c c.answer)) (submitted d.trace))

pub not_shared : (b : Block) → b.shared ≡ false → b.shared ≡ true → ⊥
not_shared b none is = true_is_false (sym is ∙ none)

-- What is said of each call of the event: it is no write on the area.
abbrev pub NoWrite : World → ResourceArg → Call → Type 0
NoWrite w r c = IsTrue (is_write c.op) → IsTrue (is_on w.layout (spot_of r) c) → ⊥

pub not_written : (a b : Bool) → (a && b) ≡ false → IsTrue a → IsTrue b → ⊥
not_written true true h is on = true_is_false h
not_written true false h is on = true_is_false (sym on)
not_written false b h is on = true_is_false (sym is)

abbrev pub seek_no_write : (w : World) (r : ResourceArg) (c : Call) → Option (NoWrite w r c)
seek_no_write w r c = do
  h ← seek_false (is_write c.op && is_on w.layout (spot_of r) c)
  Some (not_written (is_write c.op) (is_on w.layout (spot_of r) c) h)

-- No other daemon submits a write on the area.
abbrev pub NoOther : World → Happening → ℕ → ResourceArg → Type 0
NoOther w x m r = (fx : Effects) (c : Call) → Contains x.1 fx → Contains fx.calls c → (machine_of x.0 ≡ m → ⊥) → NoWrite w r c

pub own_alone : (w : World) (x : Happening) (m : ℕ) (r : ResourceArg) → machine_of x.0 ≡ m → NoOther w x m r
own_alone w x m r same fx c has called other = absurd (other same)

pub none_written : (w : World) (x : Happening) (m : ℕ) (r : ResourceArg) → ((fx : Effects) → Contains x.1 fx → (c : Call) → Contains fx.calls c → NoWrite w r c) → NoOther w x m r
none_written w x m r none fx c has called other = none fx has c called

abbrev pub seek_no_other : (w : World) (x : Happening) (m : ℕ) (r : ResourceArg) → Option (NoOther w x m r)
seek_no_other w x m r = elim (seek_same (machine_of x.0) m) [
  | Some same ↦ Some (own_alone w x m r same)
  | None ↦ do
    none ← seek_all (λ (fx : Effects). (c : Call) → Contains fx.calls c → NoWrite w r c) (λ fx. seek_all (NoWrite w r) (seek_no_write w r) fx.calls) x.1
    Some (none_written w x m r none)
]

abbrev pub seek_step : (w : World) (x : Happening) (v : World) (m job : ℕ) (r : ResourceArg) (shared : Bool) (p number : ℕ) → Option (QuietStep w x v m job r shared p number)
seek_step w x v m job r shared p number = do
  modes ← seek_modes w r shared
  calm ← seek_no_other w x m r
  active ← seek_for (ActiveIn number) (machine_at v m) (seek_active number)
  stays ← seek_goes_on x.0 m p
  answers ← seek_for (AnswersIn w.header.timing.io job) (machine_at v m) (seek_answers w.header.timing.io job)
  Some (record {
    modes = λ exclusive host b a d s low high other at runs its spells is. absurd (not_shared b (modes exclusive host low high b spells) is);
    calm = calm;
    active = λ a d s at runs its. active a at d runs s its;
    stays = stays;
    answers = λ a d c at runs has of. answers a at d runs c has of;
  })

abbrev pub seek_quiet : (w : World) (xs : List Happening) (m job : ℕ) (r : ResourceArg) (shared : Bool) (p number : ℕ) → Option (StaysQuiet w xs m job r shared p number)
seek_quiet w [] m job r shared p number = Some tt
seek_quiet w (x ∷ xs) m job r shared p number = do
  step ← seek_step w x (happens w x.0 x.1) m job r shared p number
  rest ← seek_quiet (happens w x.0 x.1) xs m job r shared p number
  Some (step, rest)

-- ---- the end

pub same_grant : (r : Replied) (k n lver : ℕ) → r.at ≡ n → r.reply ≡ Granted k → k ≡ lver → Some r ≡ Some (record { at = n; reply = Granted lver })
same_grant r k n lver at reply same =
    ap (λ y. let z : Replied = record r { at = y } in Some z) at ∙ ap (λ y. let z : Replied = record { at = n; reply = y } in Some z) (reply ∙ ap (λ y. Granted y) same)

abbrev pub seek_grant : (r : Reply) → Option ((lver : ℕ) × (r ≡ Granted lver))
seek_grant (Granted lver) = Some (lver, refl)
seek_grant r = None

abbrev pub seek_granted : (o : Option Replied) (n lver : ℕ) → Option (o ≡ Some (record { at = n; reply = Granted lver }))
seek_granted None n lver = None
seek_granted (Some r) n lver = do
  at ← seek_same r.at n
  reply ← seek_grant r.reply
  same ← seek_same reply.0 lver
  Some (same_grant r reply.0 n lver at reply.1 same)

-- The daemon of a machine in the end, with what its job has made and was told.
pub record Ends (w : World) (m job calls lver : ℕ) : Type 0 where
  pub machine : Machine
  pub daemon : Daemon
  pub after : (machine_at w m ≡ Some machine) × (machine.daemon ≡ Some daemon)
  pub count : length (job_calls daemon.trace job) ≡ calls
  pub granted : reply_to daemon.trace job ≡ Some (record { at = calls; reply = Granted lver })

abbrev pub seek_ends : (w : World) (m job calls lver : ℕ) → Option (Ends w m job calls lver)
seek_ends w m job calls lver = do
  a ← seek_some (machine_at w m)
  d ← seek_some a.0.daemon
  count ← seek_same (length (job_calls d.0.trace job)) calls
  granted ← seek_granted (reply_to d.0.trace job) calls lver
  Some (record { machine = a.0; daemon = d.0; after = (a.1, d.1); count = count; granted = granted })
