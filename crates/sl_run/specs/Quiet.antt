-- An acquire that nothing stands in the way of: it is granted.
use Rattle.sl_area.specs.AreaSizes.{record_in}
use Rattle.sl_area.specs.AreaLayout.{leader_offset, leader_spelled, request_offset}
use Rattle.sl_trace.specs.Ballots.{in_instance, next_mbal}
use Rattle.sl_trace.specs.Counts.{held_here, limit_met, may_act}
use Rattle.sl_trace.specs.Leases.{is_leader_of, is_on, known, open_on, owed, spot_of}
use Rattle.sl_run.specs.EventChanges.{happens}
use Rattle.sl_run.specs.Inputs.{input_of, machine_of}
use Rattle.sl_run.specs.Runs.{Happening, world_after}
use Rattle.sl_run.specs.Safety.{block_there, pair_there}
use Rattle.sl_run.specs.Worlds.{Course, Daemon, Machine, World, content, is_open, is_write_course, machine_at, reading_now}
use Rattle.sl_run.specs.declared.event.Event.TheVariants.{Crash, ExitOf, Reset}
use Rattle.sl_sector.specs.SectorLayouts.{request_in}
use Rattle.sl_sector.specs.declared.sector.Block.{Block}
use Rattle.sl_sector.specs.declared.sector.Leader.{Leader}
use Rattle.sl_sector.specs.declared.sector.PairBlock.{PairBlock}
use Rattle.sl_sector.specs.declared.sector.Request.{Request}
use Rattle.sl_trace.specs.Sessions.{is_active, session_named, session_numbered}
use Rattle.sl_trace.specs.Sightings.{counts_over}
use Rattle.sl_trace.specs.declared.session.Session.{Session}
use Rattle.sl_trace.specs.Traces.{Answered, Submitted, Trace, entry_at, is_of_job, is_ok_answer, is_shared, is_write, next_job, no_effects, reply_to, same_place, submitted, waiting_call}
use Rattle.sl_trace.specs.declared.command.Command.TheVariants.{Acquire}
use Rattle.sl_trace.specs.declared.command.ResourceArg.{ResourceArg}
use Rattle.sl_trace.specs.declared.effects.Call.{Call}
use Rattle.sl_trace.specs.declared.effects.Effects.{Effects}
use Rattle.sl_trace.specs.declared.effects.Entry.{Entry}
use Rattle.sl_trace.specs.declared.effects.Grant.{Grant}
use Rattle.sl_trace.specs.declared.effects.Spot.{Spot}
use Rattle.sl_trace.specs.declared.input.Input.TheVariants.{Line, Wake}
use Rattle.sl_trace.specs.declared.reply.Reply.TheVariants.{Granted}
use Rattle.sl_trace.specs.declared.reply.Reply.{Reply}
use Rattle.sl_words.specs.Bounds.{record_numbers}
use Rattle.sl_words.specs.Words.{first_of_list}
use Rattle.std.specs.Prelude.{Bool, Contains, IsSome, IsSomeAnd, IsTrue, List, None, Ok, Option, Some, false, filter, length, map, option_to_list, true, [], ℕ, ◌&&◌, ◌++◌, ◌+◌, ◌<◌, ◌∷◌, ◌≡◌, ◌≤◌}

-- The trace when a command comes at this reading.
abbrev pub before_command : Daemon → ℕ → Trace
before_command d now = record { reading = now; input = Wake; effects = no_effects } ∷ d.trace

-- What the leader's sector spells now.
abbrev pub leader_there : World → Spot → Option Leader
leader_there w at = leader_spelled w.layout (record_in w.layout (content w at.path (leader_offset at.base)))

-- What the request's sector spells now.
abbrev pub request_there : World → Spot → Option Request
request_there w at = request_in (record_in w.layout (content w at.path (request_offset w.layout at.base)))

-- How many blocks an acquire writes: those of two phases, and for shared mode the one that sets it.
abbrev pub blocks_needed : Bool → ℕ
blocks_needed true = 3
blocks_needed false = 2

-- At its step.
pub record QuietStart (w : World) (m : ℕ) (text : List ℕ) (r : ResourceArg) (shared : Bool) (p : ℕ) : Type 0 where
  pub machine : Machine
  pub daemon : Daemon
  pub session : Session
  pub leader : Leader
  pub runs : (machine_at w m ≡ Some machine) × (machine.daemon ≡ Some daemon)
  -- whether the holding is to outlive its process: nothing else depends on it
  pub persistent : Bool
  pub line : daemon.setting.read text ≡ Ok (Acquire r shared p persistent)
  pub process : IsTrue (may_act daemon.trace p)
  pub named : session_named daemon.setting (before_command daemon (reading_now machine)) r.lockspace ≡ Some session
  -- joined, and recovery isn't due at this reading
  pub active : IsTrue (is_active daemon.setting (before_command daemon (reading_now machine)) session)
  -- no process of the machine, and no orphan, holds it
  pub no_holding : held_here daemon.trace (spot_of r) ≡ []
  pub settled : owed (known daemon.setting daemon.trace session (spot_of r)) ≡ None
  pub no_call : open_on daemon.setting daemon.trace (spot_of r) ≡ []
  pub no_limit : limit_met daemon.setting daemon.trace session (spot_of r) false ≡ None
  pub leader_spells : leader_there w (spot_of r) ≡ Some leader
  pub names : IsTrue (is_leader_of w.layout r.lockspace r.name leader)
  pub free : leader.held ≡ false
  pub numbers : leader.lver + 1 < record_numbers
  -- the number of phase 1 passes no limit
  pub ballot : next_mbal w.layout.hosts session.id
      (map (λ b. b.mbal) (in_instance (leader.lver + 1) (option_to_list (known daemon.setting daemon.trace session (spot_of r)).own))) < record_numbers
  -- with pairs nothing is asked of the request
  pub request : w.layout.paired ≡ false → IsSome (request_there w (spot_of r))
  pub blocks : (host : ℕ) → 1 ≤ host → host ≤ w.layout.hosts → (b : Block) × (block_there w (spot_of r) host ≡ Some b) × (b.lver ≤ leader.lver)
  -- no read is made once more
  pub pairs : w.layout.paired ≡ true → (host : ℕ) → 1 ≤ host → host ≤ w.layout.hosts → IsSome (pair_there w (spot_of r) host false)
  -- as many blocks as it needs can still be written
  pub turns : w.layout.paired ≡ true → (first : Bool) → (b : PairBlock) → pair_there w (spot_of r) session.id first ≡ Some b →
      b.turn + blocks_needed shared < record_numbers
  -- no other write on the area is in flight
  pub calm : (k : ℕ) (a : Machine) (c : Course) → machine_at w k ≡ Some a → Contains a.calls c →
      IsTrue (is_write_course c && is_open a c && is_on w.layout (spot_of r) c.call) → ⊥

-- Unanswered for less than io, or answered ok within it.
abbrev pub AnsweredInTime : ℕ → ℕ → Submitted → Option Answered → Type 0
AnsweredInTime io now c None = now < c.reading + io
AnsweredInTime io now c (Some b) = IsTrue (is_ok_answer b.answer) × (b.reading < c.reading + io)

-- In one event from there on: the world before it, the event, and the world after it.
pub record QuietStep (w : World) (x : Happening) (v : World) (m job : ℕ) (r : ResourceArg) (shared : Bool) (p number : ℕ) : Type 0 where
  -- each other host's shared mode is over
  pub modes : shared ≡ false → (host : ℕ) (b : Block) (a : Machine) (d : Daemon) (s : Session) → 1 ≤ host → host ≤ w.layout.hosts →
      (host ≡ s.id → ⊥) → machine_at w m ≡ Some a → a.daemon ≡ Some d → session_numbered d.setting d.trace number ≡ Some s →
      block_there w (spot_of r) host ≡ Some b → b.shared ≡ true → IsTrue (counts_over d.setting d.trace s host b.mode_gen)
  -- no other daemon submits a write on the area
  pub calm : (fx : Effects) (c : Call) → Contains x.1 fx → Contains fx.calls c → (machine_of x.0 ≡ m → ⊥) → IsTrue (is_write c.op) →
      IsTrue (is_on w.layout (spot_of r) c) → ⊥
  -- the session stays neither in recovery nor leaving
  pub active : (a : Machine) (d : Daemon) (s : Session) → machine_at v m ≡ Some a → a.daemon ≡ Some d →
      session_numbered d.setting d.trace number ≡ Some s → IsTrue (is_active d.setting d.trace s)
  -- the process does not exit, and the daemon runs on
  pub stays : (x.0 ≡ ExitOf m p → ⊥) × (x.0 ≡ Crash m → ⊥) × (x.0 ≡ Reset m → ⊥)
  -- each call of the job is answered ok less than io after its submission
  pub answers : (a : Machine) (d : Daemon) (c : Submitted) → machine_at v m ≡ Some a → a.daemon ≡ Some d →
      Contains (submitted d.trace) c → IsTrue (is_of_job job c) → AnsweredInTime w.header.timing.io (reading_now a) c c.answer

-- The calls that a job has made.
abbrev pub job_calls : Trace → ℕ → List Submitted
job_calls es job = filter (is_of_job job) (submitted es)

-- How many calls an acquire makes: 6 for exclusive mode, 8 for shared.
abbrev pub calls_needed : Bool → ℕ
calls_needed true = 8
calls_needed false = 6

-- Entry i answers the last of so many calls of the job, and grants the process the resource in this mode, as persistent as this, under
-- this instance.
pub record GrantsQuietly (d : Daemon) (job i lver : ℕ) (r : ResourceArg) (shared persistent : Bool) (p : ℕ) : Type 0 where
  pub last : Submitted
  pub calls : (length (job_calls d.trace job) ≡ calls_needed shared) × (first_of_list (job_calls d.trace job) ≡ Some last)
  pub answered : IsSomeAnd last.answer (λ a. a.at ≡ i)
  pub entry : Entry
  pub grant : Grant
  pub granted : (entry_at d.trace i ≡ Some entry) × Contains entry.effects.grants grant
  pub right : (grant.process ≡ p) × (is_shared grant.mode ≡ shared) × (grant.persistent ≡ persistent) × (grant.lver ≡ lver) × IsTrue (same_place grant.path grant.offset r.path r.offset)

-- What a quiet acquire has after an event: it makes no other call, and where it has a reply, it is granted with the next lver
-- in the step of the answer to its last call.
pub record IsGrantedQuietly (d : Daemon) (job lver : ℕ) (r : ResourceArg) (shared persistent : Bool) (p : ℕ) : Type 0 where
  pub calls : length (job_calls d.trace job) ≤ calls_needed shared
  pub reply : (i : ℕ) (answer : Reply) → reply_to d.trace job ≡ Some (record { at = i; reply = answer }) →
      (answer ≡ Granted lver) × GrantsQuietly d job i lver r shared persistent p
  pub unless_waiting : reply_to d.trace job ≡ None → IsSome (waiting_call d.trace job)

-- Each event from there on is quiet, the first too, which brings the command.
abbrev pub StaysQuiet : World → List Happening → ℕ → ℕ → ResourceArg → Bool → ℕ → ℕ → Type 0
StaysQuiet w [] m job r shared p number = Unit {0}
StaysQuiet w (x ∷ xs) m job r shared p number =
    QuietStep w x (happens w x.0 x.1) m job r shared p number × StaysQuiet (happens w x.0 x.1) xs m job r shared p number

-- An acquire that begins quietly and stays so for a while is by then granted, or waits for an answer, whatever comes later. Its line is
-- that of a command, or of an ask of lvmlockd.
abbrev pub QuietIsGranted : World → List Happening → Type 0
QuietIsGranted start xs =
    (before during rest : List Happening) (m p : ℕ) (text : List ℕ) (r : ResourceArg) (shared : Bool) (x : Happening)
    (q : QuietStart (world_after start before) m text r shared p) → xs ≡ before ++ x ∷ during ++ rest →
    machine_of x.0 ≡ m → input_of (world_after start before) x.0 ≡ Some (Line text) →
    StaysQuiet (world_after start before) (x ∷ during) m (next_job q.daemon.setting q.daemon.trace) r shared p q.session.number →
    (a : Machine) (d : Daemon) → machine_at (world_after start (before ++ x ∷ during)) m ≡ Some a → a.daemon ≡ Some d →
    IsGrantedQuietly d (next_job q.daemon.setting q.daemon.trace) (q.leader.lver + 1) r shared q.persistent p
