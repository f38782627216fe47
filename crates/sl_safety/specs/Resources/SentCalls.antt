-- What was sent to the area of a resource, by which session, and when. A call is named by the step of the entry that made it: on one area
-- at most one write, one read, one leader and one grant in each mode come at a step. A read that is made once more is named by the step of
-- its first call, and ends with its second.
use Rattle.sl_area.specs.AreaSizes.{Layout}
use Rattle.sl_area.specs.Pairs.{needs_again}
use Rattle.sl_ballot_law.specs.History.{Owner as Holder}
use Rattle.sl_trace.specs.Leases.{block_of_record, is_block_read, is_on, leader_of_record}
use Rattle.sl_safety.specs.Resources.SampledReads.{blocks_sampled, reads_again}
use Rattle.sl_run.specs.Safety.{Found, SessionId, found_generation, session_of_world, trace_of}
use Rattle.sl_run.specs.Worlds.{Course, Daemon, World, daemons_on}
use Rattle.sl_sector.specs.declared.sector.Block.{Block}
use Rattle.sl_sector.specs.declared.sector.Leader.{Leader}
use Rattle.sl_trace.specs.Sessions.{joined_after, sessions}
use Rattle.sl_trace.specs.Traces.{new_call, record_of}
use Rattle.sl_trace.specs.declared.effects.Spot.{Spot}
use Rattle.sl_words.specs.Words.{some_is}
use Rattle.std.specs.List.{enumerate_from}
use Rattle.std.specs.Option.{option_map_or}
use Rattle.std.specs.Prelude.{Bool, List, Option, Some, bytes_eq, false, find, flat_map, is_some, map, nat_le, nat_lt, not, option_and_then, true, ℕ, ◌&&◌, ◌==◌, ◌||◌}

-- A call with its machine.
pub record Sent : Type 0 where
  pub machine : ℕ
  pub course : Course

-- All calls of a world.
abbrev pub all_sent : World → List Sent
all_sent w = flat_map (λ p. map (λ c. record { machine = p.0; course = c }) p.1.calls) (enumerate_from 1 w.machines)

-- The session that sent it.
abbrev pub sender_of : Sent → SessionId
sender_of x = record { machine = x.machine; daemon = x.course.daemon; number = x.course.call.session }

-- When it was made.
abbrev pub step_of : Sent → ℕ
step_of x = x.course.made.step

-- ---- sessions as ballots name them

-- Nobody.
abbrev pub nobody : Holder
nobody = record { id = 0; generation = 0 }

abbrev pub holder_of_found : Found → Holder
holder_of_found f = record { id = f.session.id; generation = found_generation f }

-- By its id and its generation.
abbrev pub holder_of : World → SessionId → Holder
holder_of w i = option_map_or holder_of_found (session_of_world w i) nobody

-- Whether two of them are one.
abbrev pub same_holder : Holder → Holder → Bool
same_holder a b = a.id == b.id && a.generation == b.generation

-- All sessions of a daemon, of a machine, of a world.
abbrev pub names_in : ℕ → Daemon → List SessionId
names_in m d = map (λ s. record { machine = m; daemon = d.number; number = s.number }) (sessions d.setting d.trace)

abbrev pub all_names : World → List SessionId
all_names w = flat_map (λ p. flat_map (names_in p.0) (daemons_on p.1)) (enumerate_from 1 w.machines)

-- Whether it is a joined session of this lockspace.
abbrev pub is_joined_there : World → List ℕ → SessionId → Bool
is_joined_there w lockspace i =
    some_is (λ f. bytes_eq f.session.lockspace lockspace && is_some (joined_after (trace_of f) f.session)) (session_of_world w i)

-- The joined session of the lockspace that ballots name so.
abbrev pub session_of_holder : World → List ℕ → Holder → Option SessionId
session_of_holder w lockspace o = find (λ i. is_joined_there w lockspace i && same_holder (holder_of w i) o) (all_names w)

-- ---- calls by step

-- The call on the area that was made at this step and passes.
abbrev pub sent_at : World → Spot → (Course → Bool) → ℕ → Option Sent
sent_at w at p step = find (λ x. step_of x == step && is_on w.layout at x.course.call && p x.course) (all_sent w)

-- The block that a call writes, if it does; and the leader.
abbrev pub block_of_course : Course → Option Block
block_of_course c = option_and_then block_of_record (record_of c.call.op)

abbrev pub leader_of_course : Course → Option Leader
leader_of_course c = option_and_then leader_of_record (record_of c.call.op)

abbrev pub writes_block : Course → Bool
writes_block c = is_some (block_of_course c)

abbrev pub writes_leader : Course → Bool
writes_leader c = is_some (leader_of_course c)

-- Whether it reads all blocks.
abbrev pub reads_blocks : Course → Bool
reads_blocks c = is_block_read (new_call 0 0 c.call)

-- Whether two sessions are one.
abbrev pub same_session : SessionId → SessionId → Bool
same_session a b = a.machine == b.machine && a.daemon == b.daemon && a.number == b.number

-- Whether a call is the session's block on the area, made before a step.
abbrev pub is_block_before : World → Spot → SessionId → ℕ → Sent → Bool
is_block_before w at i step x = nat_lt (step_of x) step && is_on w.layout at x.course.call && writes_block x.course && same_session i (sender_of x)

-- The last block that the session wrote there before.
abbrev pub last_block_before : World → Spot → SessionId → ℕ → Option Sent
last_block_before w at i step = find (is_block_before w at i step) (all_sent w)

-- Whether a call is a read of all blocks there by the session, answered ok by a step.
abbrev pub is_look_before : World → Spot → SessionId → ℕ → Sent → Bool
is_look_before w at i step x =
    some_is (λ s. nat_le s.step step) x.course.answered && x.course.done && reads_blocks x.course && is_on w.layout at x.course.call
    && same_session i (sender_of x)

-- The last of them.
abbrev pub last_look_before : World → Spot → SessionId → ℕ → Option Sent
last_look_before w at i step = find (is_look_before w at i step) (all_sent w)

-- ---- reads

-- Whether it is a read of all blocks, answered ok, of a joined session of the lockspace.
abbrev pub is_counted_read : World → List ℕ → Sent → Bool
is_counted_read w lockspace x = reads_blocks x.course && x.course.done && is_joined_there w lockspace (sender_of x)

-- Whether a read of all blocks gives them: it is a second one, or needs none.
abbrev pub reads_enough : Layout → Course → Bool
reads_enough g c = reads_again c || not (needs_again g (blocks_sampled g c))

-- The call with which a read began that ends with this one: itself, or the session's last look before.
abbrev pub begun_by : World → Spot → Sent → Option Sent
begun_by w at x = elim (reads_again x.course) [ false ↦ Some x | true ↦ last_look_before w at (sender_of x) (step_of x) ]

-- When it began.
abbrev pub began_at : World → Spot → Sent → ℕ
began_at w at x = option_map_or step_of (begun_by w at x) 0

-- The call with which the read ended that began at this step.
abbrev pub read_at : World → Spot → List ℕ → ℕ → Option Sent
read_at w at lockspace step =
    find (λ x. began_at w at x == step && is_on w.layout at x.course.call && is_counted_read w lockspace x && reads_enough w.layout x.course) (all_sent w)

-- The call with which the session's last read there ended that gave blocks by a step.
abbrev pub last_given_before : World → Spot → SessionId → ℕ → Option Sent
last_given_before w at i step = find (λ x. is_look_before w at i step x && reads_enough w.layout x.course) (all_sent w)
