-- What holds after every event of a run whose traces are orderly.
--
-- 1. Of ids and time (`DeltaInvariant`): `FlightsCovered`, `EvidenceIsTrue`, `OneForEachId`, `GenerationsRise`, `OwnSectorIsAlone`,
--    `OwnSectorStands`, `ReadsNoOther`.
-- 2. Of blocks and leaders (`LeaseInvariant`), which uses the first by its sentences alone: `Agreement`, `OneWinner`, `SharedModeStands`,
--    `SharedModeStood`.
-- 3. So no two holdings conflict (`SafeRun`).
--
-- A session is named by its machine, its daemon's place and its own (`SessionId`), and found in a world (`Found`); `is_over` says when
-- nothing of it can act any more.
use Rattle.sl_area.specs.AreaSizes.{record_in}
use Rattle.sl_area.specs.AreaLayout.{block_offset, is_base, pair_offset}
use Rattle.sl_area.specs.Pairs.{later_pair}
use Rattle.sl_run.specs.Lawful.{Orderly}
use Rattle.sl_trace.specs.Leases.{Phase1_write, block_written, ended_ballots, holdings_on, is_at, lease_calls}
use Rattle.sl_run.specs.Conflicts.{IsExclusive}
use Rattle.sl_run.specs.Headers.{IsHeader}
use Rattle.sl_run.specs.Runs.{AfterEachFront, EachDaemon, Happening, IsRun, world_after}
use Rattle.sl_run.specs.Worlds.{Course, Daemon, Landing, Machine, Program, Stamp, World, content, daemon_numbered, is_landed, is_open, is_write_course, landed_at, machine_at, resets_after, world_with}
use Rattle.sl_run.specs.declared.header.Header.{Header}
use Rattle.sl_sector.specs.SectorLayouts.{IsDigest, block_in, delta_in, pair_in}
use Rattle.sl_sector.specs.declared.sector.Block.{Block}
use Rattle.sl_sector.specs.declared.sector.DeltaRec.{DeltaRec}
use Rattle.sl_sector.specs.declared.sector.Owner.{Owner}
use Rattle.sl_sector.specs.declared.sector.PairBlock.{PairBlock}
use Rattle.sl_trace.specs.DeltaDecisions.{own_offset}
use Rattle.sl_trace.specs.Sessions.{calls_of, ended_after, free_write, generation_of, is_join_call, is_joined, joined_after, me, session_numbered, shows_other}
use Rattle.sl_trace.specs.Sightings.{counts_over}
use Rattle.sl_trace.specs.declared.session.Session.{Session}
use Rattle.sl_trace.specs.WatchdogConnections.{connection_named}
use Rattle.sl_trace.specs.Traces.{Setting, Trace, is_shared, same_place}
use Rattle.sl_trace.specs.declared.effects.Entry.{Entry}
use Rattle.sl_trace.specs.declared.effects.Grant.{Grant}
use Rattle.sl_trace.specs.declared.effects.JoinStep.TheVariants.{ClaimWrite}
use Rattle.sl_trace.specs.declared.effects.Spot.{Spot}
use Rattle.sl_words.specs.Words.{is_empty, some_is}
use Rattle.std.specs.List.{list_any}
use Rattle.std.specs.Prelude.{Bool, Contains, IsFalse, IsSome, IsTrue, List, Option, Some, false, is_some, nat_lt, not, option_and_then, option_map, true, ℕ, ◌&&◌, ◌++◌, ◌+◌, ◌<◌, ◌==◌, ◌||◌, ◌∷◌, ◌≡◌, ◌≤◌, ◌⊎◌}

-- ---- runs

-- The world of a header with this program, after these.
abbrev pub world_at : Program → Header → List Happening → World
world_at program h xs = world_after (world_with program h) xs

-- A run that is lawful so far as safety asks: its daemons all have orderly traces. Nothing is asked of the program but that its digest
-- has 32 bytes.
pub record LawfulRun (program : Program) (h : Header) (xs : List Happening) : Type 0 where
  pub header : IsHeader h
  pub digest : IsDigest program.digest
  pub is_run : IsRun (world_with program h) xs
  pub lawful : EachDaemon Orderly (world_at program h xs)

-- ---- the sessions of a world

-- A session by its machine, the place of its daemon among the machine's, and its own among the daemon's.
pub record SessionId : Type 0 where
  pub machine : ℕ
  pub daemon : ℕ
  pub number : ℕ

-- A session with all that it stands in, and the moment.
pub record Found : Type 0 where
  pub machine : Machine
  pub daemon : Daemon
  pub session : Session
  pub now : ℕ

-- The session that is meant.
abbrev pub session_of_world : World → SessionId → Option Found
session_of_world w i =
    option_and_then (λ a. option_and_then (λ d. option_map (λ s. record { machine = a; daemon = d; session = s; now = w.moment })
    (session_numbered d.setting d.trace i.number)) (daemon_numbered a i.daemon)) (machine_at w i.machine)

-- This session is meant.
abbrev pub IsSession : World → SessionId → Found → Type 0
IsSession w i f = session_of_world w i ≡ Some f

-- Its trace.
abbrev pub trace_of : Found → Trace
trace_of f = f.daemon.trace

-- What its daemon is made of.
abbrev pub setting_in : Found → Setting
setting_in f = f.daemon.setting

-- Its generation.
abbrev pub found_generation : Found → ℕ
found_generation f = generation_of f.daemon.trace f.session

-- It has joined.
abbrev pub HasJoined : Found → Type 0
HasJoined f = IsSome (joined_after f.daemon.trace f.session)

-- The same lockspace: one area.
abbrev pub same_lockspace : Found → Found → Bool
same_lockspace f g = same_place f.session.path f.session.offset g.session.path g.session.offset

-- The same id of the same lockspace.
abbrev pub SameId : Found → Found → Type 0
SameId f g = IsTrue (same_lockspace f g) × (f.session.id ≡ g.session.id)

-- ---- when a session is over

-- Whether the call is the session's.
abbrev pub is_course_of : SessionId → Course → Bool
is_course_of i c = c.daemon == i.daemon && c.call.session == i.number

-- Whether a write of the session is in flight.
abbrev pub has_write_in_flight : SessionId → Machine → Bool
has_write_in_flight i a = list_any (λ c. is_course_of i c && is_write_course c && is_open a c) a.calls

-- Whether its machine was reset since its daemon began, more than `land` ago: no write that its processes had in flight then can land any
-- more.
abbrev pub was_reset : Found → Bool
was_reset f = list_any (λ r. nat_lt (r.moment + f.daemon.setting.timing.land) f.now) (resets_after f.machine f.daemon.begun.step)

-- Whether the write of its free has landed whole.
abbrev pub free_landed : SessionId → Found → Bool
free_landed i f =
    some_is (λ c. list_any (λ d. is_course_of i d && d.call.number == c.call.number && is_landed d.fate) f.machine.calls) (free_write (calls_of (trace_of f) f.session))

-- Over: its free has landed, or it has ended or its machine was reset more than `land` ago, with no write of it in flight. Till then what it
-- held at the reset may still be written.
abbrev pub is_over : SessionId → Found → Bool
is_over i f = free_landed i f || (is_some (ended_after (trace_of f) f.session) || was_reset f) && not (has_write_in_flight i f.machine)

-- ---- over clocks, devices, flights and delta sectors

-- The machine was reset after this step, and each such reset is at most land ago.
pub record WasResetLately (w : World) (a : Machine) (step : ℕ) : Type 0 where
  pub reset : IsFalse (is_empty (resets_after a step))
  pub lately : (r : Stamp) → Contains (resets_after a step) r → w.moment ≤ r.moment + w.header.timing.land

-- A write in flight belongs to a session whose connection is registered, or to a machine that was reset at most land ago.
abbrev pub FlightsCovered : World → Type 0
FlightsCovered w =
    (m : ℕ) (a : Machine) (c : Course) → machine_at w m ≡ Some a → Contains a.calls c → IsTrue (is_write_course c && is_open a c) →
    ((i : SessionId) × (f : Found) × IsSession w i f × (i.machine ≡ m) × IsTrue (is_course_of i c)
    × IsSome (connection_named a.connections f.session.lockspace))
    ⊎ WasResetLately w a c.made.step

-- A session of the world has evidence against generation h of its lockspace's id j.
abbrev pub HasEvidence : World → SessionId → Found → ℕ → ℕ → Type 0
HasEvidence w i f j h = IsSession w i f × IsTrue (counts_over (setting_in f) (trace_of f) f.session j h)

-- Each joined session that somebody has evidence against is over, and stays so, and none joins later.
abbrev pub EvidenceIsTrue : Program → Header → List Happening → Type 0
EvidenceIsTrue program h xs = AfterEachFront xs (λ now.
    (i k : SessionId) (f g : Found) (j n : ℕ) → HasEvidence (world_at program h now) i f j n → IsSession (world_at program h xs) k g → HasJoined g →
    IsTrue (same_lockspace f g) → g.session.id ≡ j → found_generation g ≡ n → IsTrue (is_over k g))

-- For each id at most one joined session is not over.
abbrev pub OneForEachId : World → Type 0
OneForEachId w =
    (i k : SessionId) (f g : Found) → IsSession w i f → IsSession w k g → HasJoined f → HasJoined g → SameId f g →
    IsFalse (is_over i f) → IsFalse (is_over k g) → i ≡ k

-- Generations of joined sessions rise: one that joins later has a greater one.
abbrev pub GenerationsRise : Program → Header → List Happening → Type 0
GenerationsRise program h xs = AfterEachFront xs (λ now.
    (i k : SessionId) (f g : Found) → IsSession (world_at program h now) i f → HasJoined f → IsSession (world_at program h xs) k g → HasJoined g → SameId f g →
    ((before : Found) → IsSession (world_at program h now) k before → HasJoined before → ⊥) → found_generation f < found_generation g)

-- The landing is that of a write of the session, whole or torn.
abbrev pub IsOwnLanding : SessionId → Found → Course → Landing → Type 0
IsOwnLanding i f c l = Contains f.machine.calls c × IsTrue (is_course_of i c) × (l.writer ≡ Some (i.machine, c.call.number))

-- What landed in its sector.
abbrev pub landed_in_own : World → Found → List Landing
landed_in_own w f = landed_at w f.session.path (own_offset (setting_in f) f.session)

-- The landing came before that of the session's claim, which landed whole. A session of the header has none: its record stood at first.
pub record CameBeforeClaim (w : World) (i : SessionId) (f : Found) (l : Landing) : Type 0 where
  pub claim : Course
  pub landing : Landing
  pub landed : Contains (landed_in_own w f) landing × IsOwnLanding i f claim landing
  pub of_claim : IsTrue (is_join_call ClaimWrite claim.call.purpose) × (landing.whole ≡ true)
  pub before : l.step < landing.step

-- A joined session's sector is overwritten by nobody else until it is over: whatever landed there, whole or torn, is of its own writes,
-- but what came before its claim.
abbrev pub OwnSectorIsAlone : World → Type 0
OwnSectorIsAlone w =
    (i : SessionId) (f : Found) (l : Landing) → IsSession w i f → HasJoined f → IsFalse (is_over i f) → Contains (landed_in_own w f) l →
    ((c : Course) × IsOwnLanding i f c l) ⊎ CameBeforeClaim w i f l

-- So it spells a record of the session's own, or is torn.
abbrev pub OwnSectorStands : World → Type 0
OwnSectorStands w =
    (i : SessionId) (f : Found) (d : DeltaRec) → IsSession w i f → HasJoined f → IsFalse (is_over i f) →
    delta_in (record_in w.layout (content w f.session.path (own_offset (setting_in f) f.session))) ≡ Some d →
    (d.generation ≡ found_generation f) × (d.host ≡ Some f.daemon.setting.name)

-- And no joined session reads a foreign record in its own sector.
abbrev pub ReadsNoOther : World → Type 0
ReadsNoOther w =
    (i : SessionId) (f : Found) (past : Trace) (e : Entry) (later : Trace) → IsSession w i f → trace_of f ≡ later ++ e ∷ past →
    IsTrue (is_joined past f.session) → IsFalse (shows_other (setting_in f) past f.session e.input)

-- What is kept over clocks, devices, flights and delta sectors, without ballots or modes.
pub record DeltaInvariant (program : Program) (h : Header) (xs : List Happening) : Type 0 where
  pub covered : FlightsCovered (world_at program h xs)
  pub evidence : EvidenceIsTrue program h xs
  pub one : OneForEachId (world_at program h xs)
  pub rise : GenerationsRise program h xs
  pub alone : OwnSectorIsAlone (world_at program h xs)
  pub own : OwnSectorStands (world_at program h xs)
  pub no_other : ReadsNoOther (world_at program h xs)

-- ---- over blocks and leaders

-- The ballots of a session that ended on an area.
abbrev pub ballots_of : Found → Spot → List (ℕ × Owner)
ballots_of f at = ended_ballots (setting_in f).layout (lease_calls (setting_in f) (trace_of f) f.session at)

-- All ballots of a resource's instance that end, end with one session.
abbrev pub Agreement : World → Type 0
Agreement w =
    (i k : SessionId) (f g : Found) (at : Spot) (n : ℕ) (u v : Owner) → IsTrue (is_base w.layout at.base) → IsSession w i f → IsSession w k g →
    Contains (ballots_of f at) (n, u) → Contains (ballots_of g at) (n, v) → u ≡ v

-- So at most one session ends a ballot of it with itself.
abbrev pub OneWinner : World → Type 0
OneWinner w =
    (i k : SessionId) (f g : Found) (at : Spot) (n : ℕ) → IsTrue (is_base w.layout at.base) → IsSession w i f → IsSession w k g →
    Contains (ballots_of f at) (n, me (trace_of f) f.session) → Contains (ballots_of g at) (n, me (trace_of g) g.session) → i ≡ k

-- The session has begun an instance above n there.
abbrev pub begins_above : Found → Spot → ℕ → Bool
begins_above g at n =
    list_any (λ c. is_at Phase1_write c && some_is (λ b. nat_lt n b.lver) (block_written c)) (lease_calls (setting_in g) (trace_of g) g.session at)

-- What the first or the second sector of a host's pair spells now.
abbrev pub pair_there : World → Spot → ℕ → Bool → Option PairBlock
pair_there w at host first = pair_in host first (record_in w.layout (content w at.path (pair_offset w.layout at.base host first)))

-- A host's block now: what its sector spells, or the one of greater turn of its pair.
abbrev pub block_there : World → Spot → ℕ → Option Block
block_there w at host =
    elim w.layout.paired [
      | false ↦ block_in host (record_in w.layout (content w at.path (block_offset w.layout at.base host)))
      | true ↦ option_map (λ p. p.block) (later_pair (pair_there w at host true) (pair_there w at host false))
    ]

-- The session's shared mode stands in its host's block, or the block is torn, which stops others.
abbrev pub ShowsMode : World → Found → Spot → Type 0
ShowsMode w f at = (b : Block) → block_there w at f.session.id ≡ Some b → (b.shared ≡ true) × (b.mode_gen ≡ found_generation f)

-- A session that is not over holds the resource shared.
abbrev pub HoldsShared : World → SessionId → Found → Spot → Grant → Type 0
HoldsShared w i f at held =
    IsSession w i f × IsFalse (is_over i f) × Contains (holdings_on (trace_of f) f.session at) held × IsTrue (is_shared held.mode)

-- The mode of a shared holder that is not over stands in its host's block.
abbrev pub SharedModeStands : World → Type 0
SharedModeStands w = (i : SessionId) (f : Found) (at : Spot) (held : Grant) → HoldsShared w i f at held → ShowsMode w f at

-- It stood there at each moment at which an instance above its own had begun, also before it was granted.
abbrev pub SharedModeStood : Program → Header → List Happening → Type 0
SharedModeStood program h xs = AfterEachFront xs (λ now.
    (i k : SessionId) (f g : Found) (at : Spot) (held : Grant) → HoldsShared (world_at program h xs) i f at held →
    IsSession (world_at program h now) k g → IsTrue (begins_above g at held.lver) → ShowsMode (world_at program h now) f at)

-- What is kept over blocks and leaders; it uses the first invariant by its sentences alone.
pub record LeaseInvariant (program : Program) (h : Header) (xs : List Happening) : Type 0 where
  pub agreement : Agreement (world_at program h xs)
  pub winner : OneWinner (world_at program h xs)
  pub mode : SharedModeStands (world_at program h xs)
  pub mode_before : SharedModeStood program h xs

-- ---- the theorem

-- No two holdings conflict, after every event.
abbrev pub SafeRun : Program → Header → List Happening → Type 0
SafeRun program h xs = AfterEachFront xs (λ now. IsExclusive (world_at program h now))

-- Safety: so it is in every lawful run. (`sl_safety` proves it.)
abbrev pub Safety : Type 0
Safety = (program : Program) (h : Header) (xs : List Happening) → LawfulRun program h xs → SafeRun program h xs

-- The two invariants, after every event of every lawful run. (`sl_safety` proves them.)
abbrev pub Invariants : Type 0
Invariants = (program : Program) (h : Header) (xs : List Happening) → LawfulRun program h xs →
    AfterEachFront xs (λ now. DeltaInvariant program h now × LeaseInvariant program h now)
