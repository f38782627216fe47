-- The history of a resource, as the argument over ballots sees it, read off a run.
--
-- All but `over` is read off the world at the run's end, since a world keeps its past; who was over after a step is read off the world
-- after that step.
use Rattle.sl_ballot_law.specs.History.{Block as HistoryBlock, History, Leader as HistoryLeader, Owner as Holder}
use Rattle.sl_ballot_law.specs.Residues.{host_by_remainder}
use Rattle.sl_run_law.specs.Course.CallStamps.{stamp_in}
use Rattle.sl_safety.specs.Resources.SampledReads.{landing_shown, shown_of, step_of_landing}
use Rattle.sl_safety.specs.Resources.SentCalls.{Sent, block_of_course, holder_of, begun_by, last_block_before, last_given_before, leader_of_course, nobody, read_at, sender_of, sent_at, session_of_holder, step_of, writes_block, writes_leader}
use Rattle.sl_run.specs.EventChanges.{happens}
use Rattle.sl_run.specs.Runs.{Happening}
use Rattle.sl_run.specs.Safety.{Found, SessionId, is_over, session_of_world, setting_in, trace_of, world_at}
use Rattle.sl_run.specs.Worlds.{Landing, Program, Stamp, World, world_with}
use Rattle.sl_run.specs.declared.header.Header.{Header}
use Rattle.sl_sector.specs.declared.sector.Block.{Block}
use Rattle.sl_sector.specs.declared.sector.Leader.{Leader}
use Rattle.sl_trace.specs.Sessions.{joined_after}
use Rattle.sl_trace.specs.Sightings.{counted_over}
use Rattle.sl_trace.specs.Traces.{Trace}
use Rattle.sl_trace.specs.declared.effects.Spot.{Spot}
use Rattle.sl_words.specs.Words.{choose, some_is}
use Rattle.std.specs.Option.{option_map_or}
use Rattle.std.specs.Prelude.{Bool, List, None, Option, Some, false, if◌then◌else◌, is_some, nat_le, option_and_then, option_map, true, [], ℕ, ◌&&◌, ◌+◌, ◌-◌, ◌==◌, ◌∷◌}

-- ---- the world after a step

-- The world after the last event of these that ends by this step.
abbrev pub world_by : World → List Happening → ℕ → World
world_by w [] step = w
world_by w (x ∷ xs) step =
    elim (nat_le (happens w x.0 x.1).step (step + 1)) [ true ↦ world_by (happens w x.0 x.1) xs step | false ↦ w ]

-- ---- blocks and leaders

abbrev pub no_block : HistoryBlock
no_block = record { lver = 0; mbal = 0; bal = 0; inp = nobody; shared = false; mode_gen = 0 }

abbrev pub history_block : Block → HistoryBlock
history_block b =
    record { lver = b.lver; mbal = b.mbal; bal = b.bal; inp = record { id = b.inp; generation = b.inp_gen }; shared = b.shared; mode_gen = b.mode_gen }

abbrev pub no_leader : HistoryLeader
no_leader = record { lver = 0; owner = nobody; held = false }

abbrev pub history_leader : Leader → HistoryLeader
history_leader l = record { lver = l.lver; owner = record { id = l.owner; generation = l.generation }; held = l.held }

-- ---- what a read shows of a host

-- Whether the host is one of the run's.
abbrev pub is_host : World → ℕ → Bool
is_host w host = nat_le 1 host && nat_le host w.layout.hosts

-- The own block that the reader last submitted before.
abbrev pub own_before : World → Spot → Sent → Option Sent
own_before w at x = last_block_before w at (sender_of x) (step_of x)

-- Whether the host's is the reader's own block, and the reader has submitted one before: where it is torn, that counts.
abbrev pub counts_own : World → Spot → Sent → ℕ → Bool
counts_own w at x host = (holder_of w (sender_of x)).id == host && is_some (own_before w at x)

-- The step of the block that a whole landing has.
abbrev pub whole_step : World → Landing → Option ℕ
whole_step w l = choose l.whole (step_of_landing w l)

-- The step of the block that the read shows of the host, if it shows a whole one: of its sector, or of its pair.
abbrev pub block_shown : World → Spot → ℕ → Sent → Option ℕ
block_shown w at host x =
    elim w.layout.paired [
      | false ↦ option_and_then (whole_step w) (landing_shown w at x.course host)
      | true ↦ option_and_then (λ y. option_map (λ s. s.write) (shown_of w at host y.course x.course)) (begun_by w at x)
    ]

abbrev pub shows_by : World → Spot → ℕ → Sent → Bool
shows_by w at host x = if is_host w host then (if is_some (block_shown w at host x) then true else counts_own w at x host) else true

-- The step of the block that it shows.
abbrev pub shown_by : World → Spot → ℕ → Sent → ℕ
shown_by w at host x =
    if is_host w host then elim (block_shown w at host x) [ Some n ↦ n | None ↦ option_map_or step_of (own_before w at x) 0 ] else 0

-- ---- the own block of a write

-- The step of the block that it was made of: the last that the session submitted, else what the last read that gave it blocks shows of its
-- host.
abbrev pub base_of : World → Spot → Sent → ℕ
base_of w at x =
    elim (last_block_before w at (sender_of x) (step_of x)) [
      | Some y ↦ step_of y
      | None ↦ option_map_or (shown_by w at (holder_of w (sender_of x)).id) (last_given_before w at (sender_of x) (step_of x)) 0
    ]

-- ---- sessions

-- The step of the entry by which it joined; 0 where it was joined at first.
abbrev pub joined_step : Found → Option ℕ
joined_step f =
    option_map (λ k. elim (k == 0) [ true ↦ 0 | false ↦ option_map_or (λ s. s.step) (stamp_in f.daemon.stamps (k - 1)) 0 ]) (joined_after (trace_of f) f.session)

abbrev pub joined_of : World → List ℕ → Holder → Option ℕ
joined_of w lockspace o = option_and_then (λ i. option_and_then joined_step (session_of_world w i)) (session_of_holder w lockspace o)

-- Whether the session is over in a world.
abbrev pub is_over_in : World → SessionId → Bool
is_over_in w i = some_is (is_over i) (session_of_world w i)

-- The trace by a step: its entries that are stamped so far.
abbrev pub trace_by : List Stamp → Trace → ℕ → Trace
trace_by [] es step = []
trace_by (s ∷ ss) [] step = []
trace_by (s ∷ ss) (e ∷ es) step = elim (nat_le s.step step) [ true ↦ e ∷ es | false ↦ trace_by ss es step ]

-- Whether a session had counted another as over by a step.
abbrev pub has_counted_over : Found → Holder → ℕ → Bool
has_counted_over f s step = counted_over (setting_in f) (trace_by f.daemon.stamps (trace_of f) step) f.session s.id s.generation

-- ---- all of it

-- The history of the resource whose area is at this spot, for the sessions of its lockspace.
abbrev pub history_in : Program → Header → List Happening → Spot → List ℕ → History
history_in p h xs at lockspace =
    let w : World = world_at p h xs in
    record {
      writes = λ e. is_some (sent_at w at writes_block e);
      writer = λ e. option_map_or (λ x. holder_of w (sender_of x)) (sent_at w at writes_block e) nobody;
      block = λ e. option_map_or history_block (option_and_then (λ x. block_of_course x.course) (sent_at w at writes_block e)) no_block;
      base = λ e. option_map_or (base_of w at) (sent_at w at writes_block e) 0;
      ok = λ e. option_and_then (λ x. elim x.course.done [ true ↦ option_map (λ s. s.step) x.course.answered | false ↦ None ]) (sent_at w at writes_block e);
      reads = λ r. is_some (read_at w at lockspace r);
      reader = λ r. option_map_or (λ x. holder_of w (sender_of x)) (read_at w at lockspace r) nobody;
      answer = λ r. option_map_or (λ s. s.step) (option_and_then (λ x. x.course.answered) (read_at w at lockspace r)) 0;
      shows = λ r k. some_is (shows_by w at k) (read_at w at lockspace r);
      shown = λ r k. option_map_or (shown_by w at k) (read_at w at lockspace r) 0;
      leads = λ l. is_some (sent_at w at writes_leader l);
      leader = λ l. option_map_or history_leader (option_and_then (λ x. leader_of_course x.course) (sent_at w at writes_leader l)) no_leader;
      joined = joined_of w lockspace;
      over = λ o t. some_is (is_over_in (world_by (world_with p h) xs t)) (session_of_holder w lockspace o);
      evidence = λ o s t. some_is (λ i. some_is (λ f. has_counted_over f s t) (session_of_world w i)) (session_of_holder w lockspace o);
      host_of = host_by_remainder w.layout.hosts;
    }
