-- What an effect makes of the kept state: for each function of `sl_due` that adds one to a step, the function of states that follows
-- it. A law says that it does; a method of a host says that it makes this change.
use Rattle.sl_area.specs.AreaSizes.{Layout}
use Rattle.sl_host_state.specs.KeptState.{HostState, JobState, JoinState, LeaseCall, LeaseState, MemberState, PairState}
use Rattle.sl_host_state.specs.NewHost.{new_member}
use Rattle.sl_host_state.specs.HostStands.{free_written, is_joining, kept_call, kept_waiting, newest_of, no_pair, pair_of}
use Rattle.sl_trace.specs.Leases.{block_written, freed_by, is_again, is_at, is_lease_call, is_on, is_spot_before, lease_step, spot_of_call, turn_written, value_written, Phase2_write}
use Rattle.sl_trace.specs.Sessions.{delta_written, is_delta_purpose, is_free_purpose, is_join_call, is_join_done, is_renewal, joining_session}
use Rattle.sl_trace.specs.declared.delta.DeltaKnown.{DeltaKnown}
use Rattle.sl_time.specs.Times.{fail}
use Rattle.sl_trace.specs.Traces.{Submitted, is_of_job, job_of, new_call, new_child, same_place, same_spot}
use Rattle.sl_trace.specs.declared.command.LockspaceArg.{LockspaceArg}
use Rattle.sl_trace.specs.declared.effects.Call.{Call}
use Rattle.sl_trace.specs.declared.effects.Effects.{Effects}
use Rattle.sl_trace.specs.declared.effects.End.{End}
use Rattle.sl_trace.specs.declared.effects.Grant.{Grant}
use Rattle.sl_trace.specs.declared.effects.JoinStep.TheVariants.{ClaimWrite, FirstRead}
use Rattle.sl_trace.specs.declared.effects.Move.TheVariants.{Register, Renew, Unregister}
use Rattle.sl_trace.specs.declared.effects.Move.{Move}
use Rattle.sl_trace.specs.declared.effects.Op.{Op}
use Rattle.sl_trace.specs.declared.effects.Purpose.{Purpose}
use Rattle.sl_trace.specs.declared.effects.Signal.{Signal}
use Rattle.sl_trace.specs.declared.effects.Spot.{Spot}
use Rattle.sl_trace.specs.declared.effects.Start.{Start}
use Rattle.sl_trace.specs.declared.reply.Reply.{Reply}
use Rattle.sl_words.specs.Orders.{is_text_before, put_in}
use Rattle.sl_words.specs.Words.{choose, some_is}
use Rattle.std.specs.List.{list_any}
use Rattle.std.specs.Option.{option_map_or, option_or}
use Rattle.std.specs.Prelude.{Bool, List, None, Option, Some, bytes_eq, cond, false, filter, flat_map, fold, is_none, is_some, length, map, max, min, not, option_and_then, option_map, true, [], ℕ, ◌&&◌, ◌++◌, ◌+◌, ◌-◌, ◌==◌, ◌||◌, ◌∷◌}

-- Below which reading nothing is due, where something has begun that is due at a moment.
abbrev pub lowered : Bool → ℕ → HostState → ℕ
lowered begins moment h = cond begins (min h.quiet_until moment) h.quiet_until

-- ---- ends, grants, signals, starts

-- One more end. (A step ends before it grants.)
abbrev pub with_end : End → HostState → HostState
with_end e h =
    let fx : Effects = h.made in
    record h {
      made = record fx { ends = fx.ends ++ e ∷ [] };
      holdings = filter (λ g. not (e.process == g.process && same_place e.path e.offset g.path g.offset)) h.holdings;
    }

-- One more grant.
abbrev pub with_grant : Grant → HostState → HostState
with_grant g h = let fx : Effects = h.made in record h { made = record fx { grants = fx.grants ++ g ∷ [] }; holdings = h.holdings ++ g ∷ [] }

-- One more signal.
abbrev pub with_signal : ℕ → Signal → HostState → HostState
with_signal p s h = let fx : Effects = h.made in record h { made = record fx { signals = fx.signals ++ record { process = p; signal = s } ∷ [] } }

-- A job after a start: its first child is its own.
abbrev pub job_starting : Start → JobState → JobState
job_starting s j = cond (some_is (λ n. n == j.number) s.job) (record j { child = option_or j.child (Some s.process) }) j

-- One more start.
abbrev pub with_start : Start → HostState → HostState
with_start s h =
    let fx : Effects = h.made in
    record h {
      made = record fx { starts = fx.starts ++ s ∷ [] };
      started = h.started + 1;
      children = h.children ++ new_child s ∷ [];
      jobs = map (job_starting s) h.jobs;
    }

-- ---- moves

-- The names whose connections stand after a move.
abbrev pub names_moved : Move → List (List ℕ) → List (List ℕ)
names_moved (Register name expiry) names = names ++ name ∷ []
names_moved (Renew name expiry) names = names
names_moved (Unregister name) names = filter (λ n. not (bytes_eq n name)) names

-- Whether the move ends the session: it is joined, and its connection goes.
abbrev pub is_ended_by_move : Move → MemberState → Bool
is_ended_by_move (Register name expiry) m = false
is_ended_by_move (Renew name expiry) m = false
is_ended_by_move (Unregister name) m = m.joined && bytes_eq m.who.lockspace name

-- One more move of a connection.
abbrev pub with_move : Move → HostState → HostState
with_move move h =
    let fx : Effects = h.made in
    record h {
      made = record fx { moves = fx.moves ++ move ∷ [] };
      connected = names_moved move h.connected;
      members = filter (λ m. not (is_ended_by_move move m)) h.members;
    }

-- ---- replies

-- Whether a write of the session is unanswered.
abbrev pub has_write_open : HostState → ℕ → Bool
has_write_open h number = list_any (λ c. c.session == number && is_none c.sectors) h.unanswered

-- A member whose joining is answered: joined, or refused; then it is there while a write of it is unanswered.
abbrev pub member_answered : HostState → Reply → MemberState → List MemberState
member_answered h r m =
    cond (is_join_done r) (record m { joined = true } ∷ []) (cond (has_write_open h m.who.number) (record m { refused = true } ∷ []) [])

-- A member after the reply to a job.
abbrev pub member_replying : HostState → ℕ → Reply → MemberState → List MemberState
member_replying h job r m = cond (is_joining m && some_is (λ j. j == job) m.who.job) (member_answered h r m) (m ∷ [])

-- The moments of recovery of those that a reply joins.
abbrev pub joined_moments : HostState → ℕ → Reply → List ℕ
joined_moments h job r =
    cond (is_join_done r) (map (λ m. m.renewing.last + fail h.config.timing) (filter (λ m. some_is (λ j. j == job) m.who.job) h.members)) []

-- One more reply, to a job that began in an earlier step or by this step's line.
abbrev pub with_reply : ℕ → Reply → HostState → HostState
with_reply job r h =
    let fx : Effects = h.made in
    record h {
      made = record fx { replies = fx.replies ++ record { job = job; reply = r } ∷ [] };
      jobs = filter (λ j. not (j.number == job)) h.jobs;
      members = flat_map (member_replying h job r) h.members;
      quiet_until = fold (λ q now. min q now) h.quiet_until (joined_moments h job r);
    }

-- ---- calls

-- The call with the next number.
abbrev pub next_made : HostState → ℕ → List ℕ → Purpose → ℕ → Op → Call
next_made h session path purpose offset op =
    record { number = h.first_call + length h.made.calls; session = session; purpose = purpose; path = path; offset = offset; op = op }

-- The same as it is submitted in this step.
abbrev pub next_submitted : HostState → ℕ → List ℕ → Purpose → ℕ → Op → Submitted
next_submitted h session path purpose offset op = new_call (h.entries - 1) h.reading (next_made h session path purpose offset op)

-- A job after a call: where the call is its own, it waits for it.
abbrev pub job_calling : Submitted → JobState → JobState
job_calling m j = cond (is_of_job j.number m) (record j { waits = Some (kept_waiting m) }) j

-- What is known of a session on its id's sector, after a call of it.
abbrev pub known_calling : Submitted → DeltaKnown → DeltaKnown
known_calling m k =
    record k {
      generation = option_map_or (λ d. d.generation) (delta_written m) k.generation;
      seq = option_map_or (λ d. d.seq) (delta_written m) k.seq;
      renewed = cond (is_renewal m.call.purpose) m.reading k.renewed;
      busy = is_delta_purpose m.call.purpose || k.busy;
      freed = is_free_purpose m.call.purpose || k.freed;
    }

-- What a joining keeps after a call.
abbrev pub joining_calling : Submitted → JoinState → JoinState
joining_calling m j =
    record {
      watched = cond (is_join_call FirstRead m.call.purpose) None j.watched;
      since = cond (is_join_call FirstRead m.call.purpose) None j.since;
      claim = cond (is_join_call ClaimWrite m.call.purpose) (delta_written m) j.claim;
      newest = newest_of (m ∷ []);
    }

-- What is kept of a lease's call while it has no answer.
abbrev pub kept_lease_call : Submitted → Option LeaseCall
kept_lease_call m =
    option_map
    (λ p. record {
      number = m.call.number;
      work = p.0;
      step = p.1;
      frees = free_written m;
      clears = some_is (λ b. not b.shared) (block_written m);
      turn = turn_written m;
    })
    (lease_step m.call.purpose)

-- The open ballot after a call: phase 2 opens one, a block of another instance ends it.
abbrev pub ballot_calling : Submitted → Option ℕ → Option ℕ
ballot_calling m before =
    elim (block_written m) [
      | None ↦ before
      | Some b ↦ elim (is_at Phase2_write m) [ true ↦ Some b.lver | false ↦ option_and_then (λ n. choose (b.lver == n) n) before ]
    ]

-- What is kept of pairs after a call: only a second read asks for what the first one gave.
abbrev pub pair_calling : Bool → PairState → PairState
pair_calling again p = record p { first = cond again p.first None; again = again }

-- A lease after its call.
abbrev pub lease_calling : Submitted → LeaseState → LeaseState
lease_calling m l =
    record l {
      own = option_or (block_written m) l.own;
      freed = max (freed_by m) l.freed;
      ballot = ballot_calling m l.ballot;
      shown = option_map_or (λ b. b.shared || l.shown) (block_written m) l.shown;
      waiting = kept_lease_call m;
      pair = pair_calling (is_again m) l.pair;
    }

-- A lease without a call.
abbrev pub new_lease : Spot → LeaseState
new_lease at =
    record {
      spot = at;
      own = None;
      top = None;
      name = [];
      freed = 0;
      ballot = None;
      shown = false;
      won = None;
      waiting = None;
      value = None;
      pair = no_pair;
    }

-- Whether the lease is on this area.
abbrev pub is_lease_on : Spot → LeaseState → Bool
is_lease_on at l = same_spot at l.spot

-- The leases after a call that works on the one on this area, its first call perhaps.
abbrev pub leases_working : Spot → Submitted → List LeaseState → List LeaseState
leases_working at m ls =
    cond (list_any (is_lease_on at) ls) (map (λ l. cond (is_lease_on at l) (lease_calling m l) l) ls)
    (put_in (λ a b. is_spot_before a.spot b.spot) (lease_calling m (new_lease at)) ls)

-- A lease after the write of a value on its area.
abbrev pub value_calling : Layout → Submitted → LeaseState → LeaseState
value_calling g m l = cond (is_on g l.spot m.call) (record l { value = option_or (option_map pair_of (value_written m)) l.value }) l

-- The leases after a call of their session.
abbrev pub leases_calling : Layout → Submitted → List LeaseState → List LeaseState
leases_calling g m ls = cond (is_lease_call m) (leases_working (spot_of_call g m) m ls) (map (value_calling g m) ls)

-- A member after a call, its own or another's.
abbrev pub member_calling : Layout → Submitted → MemberState → MemberState
member_calling g m s =
    cond (m.call.session == s.who.number)
    (record s { known = known_calling m s.known; joining = joining_calling m s.joining; leases = leases_calling g m s.leases }) s

-- The host after this call.
abbrev pub calling : Submitted → HostState → HostState
calling m h =
    let fx : Effects = h.made in
    record h {
      made = record fx { calls = fx.calls ++ m.call ∷ [] };
      unanswered = h.unanswered ++ kept_call m ∷ [];
      jobs = map (job_calling m) h.jobs;
      members = map (member_calling h.config.layout m) h.members;
      quiet_until = lowered (is_some (job_of m.call.purpose)) (m.reading + h.config.timing.io) h;
    }

-- One more call, of a session that is there.
abbrev pub with_call : ℕ → List ℕ → Purpose → ℕ → Op → HostState → HostState
with_call session path purpose offset op h = calling (next_submitted h session path purpose offset op) h

-- These members with one more, by lockspace name.
abbrev pub with_member : MemberState → List MemberState → List MemberState
with_member m ms = put_in (λ a b. is_text_before a.who.lockspace b.who.lockspace) m ms

-- The first read of a joining: with it the session begins, by this step's line.
abbrev pub with_joining : ℕ → LockspaceArg → Purpose → ℕ → Op → HostState → HostState
with_joining job a purpose offset op h =
    with_call h.born a.path purpose offset op
    (record h { born = h.born + 1; members = with_member (new_member h.config (joining_session h.born job a)) h.members })
