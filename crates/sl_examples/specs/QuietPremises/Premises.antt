-- What is asked of an acquire that is to be granted, premise by premise: of four of them each may be left out. With all of them it is what is
-- asked of a quiet acquire.
use Rattle.sl_due.specs.Due.{IsHostTrace}
use Rattle.sl_run.specs.EventChanges.{happens}
use Rattle.sl_run.specs.Inputs.{input_of, machine_of}
use Rattle.sl_run.specs.Lawful.{IsSetting}
use Rattle.sl_run.specs.Quiet.{AnsweredInTime, IsGrantedQuietly, QuietIsGranted, before_command, blocks_needed, leader_there, request_there}
use Rattle.sl_run.specs.Runs.{AfterEachFront, EachDaemon, Happening, world_after}
use Rattle.sl_run.specs.Safety.{LawfulRun, block_there, pair_there, world_at}
use Rattle.sl_run.specs.Worlds.{Course, Daemon, Machine, Program, World, is_open, is_write_course, machine_at, reading_now, world_with}
use Rattle.sl_run.specs.declared.event.Event.TheVariants.{Crash, ExitOf, Reset}
use Rattle.sl_run.specs.declared.header.Header.{Header}
use Rattle.sl_sector.specs.declared.sector.Block.{Block}
use Rattle.sl_sector.specs.declared.sector.Leader.{Leader}
use Rattle.sl_sector.specs.declared.sector.PairBlock.{PairBlock}
use Rattle.sl_trace.specs.Ballots.{in_instance, next_mbal}
use Rattle.sl_trace.specs.Counts.{held_here, limit_met, may_act}
use Rattle.sl_trace.specs.Leases.{is_leader_of, is_on, known, open_on, owed, spot_of}
use Rattle.sl_trace.specs.Sessions.{is_active, session_named, session_numbered}
use Rattle.sl_trace.specs.Traces.{Submitted, is_of_job, is_write, next_job, submitted}
use Rattle.sl_trace.specs.Sightings.{counts_over}
use Rattle.sl_trace.specs.declared.command.Command.TheVariants.{Acquire}
use Rattle.sl_trace.specs.declared.command.ResourceArg.{ResourceArg}
use Rattle.sl_trace.specs.declared.effects.Call.{Call}
use Rattle.sl_trace.specs.declared.effects.Effects.{Effects}
use Rattle.sl_trace.specs.declared.input.Input.TheVariants.{Line}
use Rattle.sl_trace.specs.declared.session.Session.{Session}
use Rattle.sl_words.specs.Bounds.{record_numbers}
use Rattle.std.specs.Prelude.{Bool, Contains, IsSome, IsTrue, List, MatchBool, None, Ok, Some, false, map, option_to_list, true, [], ℕ, ◌&&◌, ◌++◌, ◌+◌, ◌<◌, ◌↔◌, ◌∷◌, ◌≡◌, ◌≤◌}

-- Which premises are asked; what else is asked of a quiet acquire always is.
pub record Premises : Type 0 where
  -- each call of the job is answered ok less than io after its submission
  pub in_time : Bool
  -- no other daemon submits a write on the area
  pub sole_writer : Bool
  -- for exclusive mode, the shared mode of each other host is over
  pub modes_over : Bool
  -- no count is at its limit
  pub no_limit : Bool

abbrev pub all_premises : Premises
all_premises = record { in_time = true; sole_writer = true; modes_over = true; no_limit = true }

-- What is said, where it is asked.
abbrev pub IfAsked : Bool → Type 0 → Type 0
IfAsked asked P = MatchBool asked P (Unit {0})

-- ---- where the line comes

pub record StartUnder (asked : Premises) (w : World) (m : ℕ) (text : List ℕ) (r : ResourceArg) (shared : Bool) (p : ℕ) : Type 0 where
  pub machine : Machine
  pub daemon : Daemon
  pub session : Session
  pub leader : Leader
  pub runs : (machine_at w m ≡ Some machine) × (machine.daemon ≡ Some daemon)
  pub persistent : Bool
  pub line : daemon.setting.read text ≡ Ok (Acquire r shared p persistent)
  pub process : IsTrue (may_act daemon.trace p)
  pub named : session_named daemon.setting (before_command daemon (reading_now machine)) r.lockspace ≡ Some session
  pub active : IsTrue (is_active daemon.setting (before_command daemon (reading_now machine)) session)
  pub no_holding : held_here daemon.trace (spot_of r) ≡ []
  pub settled : owed (known daemon.setting daemon.trace session (spot_of r)) ≡ None
  pub no_call : open_on daemon.setting daemon.trace (spot_of r) ≡ []
  pub no_limit : IfAsked asked.no_limit (limit_met daemon.setting daemon.trace session (spot_of r) false ≡ None)
  pub leader_spells : leader_there w (spot_of r) ≡ Some leader
  pub names : IsTrue (is_leader_of w.layout r.lockspace r.name leader)
  pub free : leader.held ≡ false
  pub numbers : leader.lver + 1 < record_numbers
  pub ballot : next_mbal w.layout.hosts session.id
      (map (λ b. b.mbal) (in_instance (leader.lver + 1) (option_to_list (known daemon.setting daemon.trace session (spot_of r)).own))) < record_numbers
  pub request : w.layout.paired ≡ false → IsSome (request_there w (spot_of r))
  pub blocks : (host : ℕ) → 1 ≤ host → host ≤ w.layout.hosts → (b : Block) × (block_there w (spot_of r) host ≡ Some b) × (b.lver ≤ leader.lver)
  pub pairs : w.layout.paired ≡ true → (host : ℕ) → 1 ≤ host → host ≤ w.layout.hosts → IsSome (pair_there w (spot_of r) host false)
  pub turns : w.layout.paired ≡ true → (first : Bool) → (b : PairBlock) → pair_there w (spot_of r) session.id first ≡ Some b →
      b.turn + blocks_needed shared < record_numbers
  pub calm : (k : ℕ) (a : Machine) (c : Course) → machine_at w k ≡ Some a → Contains a.calls c →
      IsTrue (is_write_course c && is_open a c && is_on w.layout (spot_of r) c.call) → ⊥

-- ---- in each event from there on: the world before it, the event, and the world after it

abbrev pub ModesOver : World → ℕ → ResourceArg → Bool → ℕ → Type 0
ModesOver w m r shared number =
    shared ≡ false → (host : ℕ) (b : Block) (a : Machine) (d : Daemon) (s : Session) → 1 ≤ host → host ≤ w.layout.hosts →
    (host ≡ s.id → ⊥) → machine_at w m ≡ Some a → a.daemon ≡ Some d → session_numbered d.setting d.trace number ≡ Some s →
    block_there w (spot_of r) host ≡ Some b → b.shared ≡ true → IsTrue (counts_over d.setting d.trace s host b.mode_gen)

abbrev pub SoleWriter : World → Happening → ℕ → ResourceArg → Type 0
SoleWriter w x m r =
    (fx : Effects) (c : Call) → Contains x.1 fx → Contains fx.calls c → (machine_of x.0 ≡ m → ⊥) → IsTrue (is_write c.op) →
    IsTrue (is_on w.layout (spot_of r) c) → ⊥

abbrev pub InTime : World → World → ℕ → ℕ → Type 0
InTime w v m job =
    (a : Machine) (d : Daemon) (c : Submitted) → machine_at v m ≡ Some a → a.daemon ≡ Some d →
    Contains (submitted d.trace) c → IsTrue (is_of_job job c) → AnsweredInTime w.header.timing.io (reading_now a) c c.answer

pub record StepUnder (asked : Premises) (w : World) (x : Happening) (v : World) (m job : ℕ) (r : ResourceArg) (shared : Bool) (p number : ℕ) : Type 0 where
  pub modes : IfAsked asked.modes_over (ModesOver w m r shared number)
  pub calm : IfAsked asked.sole_writer (SoleWriter w x m r)
  pub active : (a : Machine) (d : Daemon) (s : Session) → machine_at v m ≡ Some a → a.daemon ≡ Some d →
      session_numbered d.setting d.trace number ≡ Some s → IsTrue (is_active d.setting d.trace s)
  pub stays : (x.0 ≡ ExitOf m p → ⊥) × (x.0 ≡ Crash m → ⊥) × (x.0 ≡ Reset m → ⊥)
  pub answers : IfAsked asked.in_time (InTime w v m job)

abbrev pub StaysUnder : Premises → World → List Happening → ℕ → ℕ → ResourceArg → Bool → ℕ → ℕ → Type 0
StaysUnder asked w [] m job r shared p number = Unit {0}
StaysUnder asked w (x ∷ xs) m job r shared p number =
    StepUnder asked w x (happens w x.0 x.1) m job r shared p number × StaysUnder asked (happens w x.0 x.1) xs m job r shared p number

-- ---- the law

-- An acquire that has these premises, and for a while, is by then granted, or waits for an answer.
abbrev pub GrantedUnder : Premises → World → List Happening → Type 0
GrantedUnder asked start xs =
    (before during rest : List Happening) (m p : ℕ) (text : List ℕ) (r : ResourceArg) (shared : Bool) (x : Happening)
    (q : StartUnder asked (world_after start before) m text r shared p) → xs ≡ before ++ x ∷ during ++ rest →
    machine_of x.0 ≡ m → input_of (world_after start before) x.0 ≡ Some (Line text) →
    StaysUnder asked (world_after start before) (x ∷ during) m (next_job q.daemon.setting q.daemon.trace) r shared p q.session.number →
    (a : Machine) (d : Daemon) → machine_at (world_after start (before ++ x ∷ during)) m ≡ Some a → a.daemon ≡ Some d →
    IsGrantedQuietly d (next_job q.daemon.setting q.daemon.trace) (q.leader.lver + 1) r shared q.persistent p

-- With all premises it is the law of quiet acquires.
abbrev pub AllAreTheLaw : Type 0
AllAreTheLaw = (start : World) (xs : List Happening) → QuietIsGranted start xs ↔ GrantedUnder all_premises start xs

-- In every lawful run whose daemons are made as they should be and do what is due, these premises are enough.
abbrev pub PremisesSuffice : Premises → Type 0
PremisesSuffice asked =
    (p : Program) (h : Header) (xs : List Happening) → LawfulRun p h xs →
    AfterEachFront xs (λ now. EachDaemon (λ st es. IsSetting st × IsHostTrace st es) (world_at p h now)) → GrantedUnder asked (world_with p h) xs
