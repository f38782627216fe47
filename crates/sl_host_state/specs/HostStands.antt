-- Which traces, and which steps in progress, a host stands for. Each field is one equation: this question to the trace has this kept
-- answer; its name is the invariant's. `Keeps` asks a trace, so between two steps it asks the steps so far, and in a step what is
-- seen of it.
--
-- - config: what the daemon is made of is kept as it is.
-- - entries, calls, lines, started, born: the next number of each kind is the one kept.
-- - replied: no reply is to a line that has not come.
-- - numbered, counted: calls, and children, have the numbers in order, so a number names one.
-- - present: the members are the sessions whose lockspaces are in use, by name; members: what is asked of each is what it keeps.
-- - connected: the connections are those of the names kept.
-- - unanswered: the calls without an answer are those kept; single: of each job there is at most one; owned: the job of each call, and
--   of each child, was a line.
-- - jobs: the running jobs are those kept, each with its child and the call for which it waits.
-- - holdings, children, programs: so are these.
-- - quiet: nothing that is due by time before an input is due below `quiet_until`.
use Rattle.sl_area.specs.AreaSizes.{Layout, layout_of}
use Rattle.sl_due.specs.Due.{IsHostTrace}
use Rattle.sl_due.specs.DueRequests.{is_asked}
use Rattle.sl_due.specs.Steps.{Step, seen}
use Rattle.sl_host_state.specs.KeptState.{Config, HostState, JobState, JoinCall, JoinState, LeaseCall, LeaseState, MemberState, OpenCall, PairState, TopNumber, ValuePair, WaitingCall}
use Rattle.sl_trace.specs.Ballots.{in_instance}
use Rattle.sl_trace.specs.Counts.{values_on}
use Rattle.sl_trace.specs.Jobs.{child_of_job, command_of}
use Rattle.sl_trace.specs.Leases.{base_turn, block_submitted, block_written, free_left, freed, is_again, is_on, kept_before, last_blocks, leader_written, lease_calls, lease_spots, lease_step, lver_written, may_show_shared, open_ballot, turn_written, value_written, verified_name}
use Rattle.sl_sector.specs.Bitmaps.{bitmap_of}
use Rattle.sl_sector.specs.declared.sector.Block.{Block}
use Rattle.sl_sector.specs.declared.sector.Owner.{Owner}
use Rattle.sl_sector.specs.declared.sector.PairBlock.{PairBlock}
use Rattle.sl_sector.specs.declared.sector.ValueRec.{ValueRec}
use Rattle.sl_trace.specs.DeltaDecisions.{claim_of, delta_known, first_answered, first_bytes, join_step_of}
use Rattle.sl_trace.specs.Sessions.{calls_of, is_delta_purpose, is_joined, leaving_of, me, present_sessions, refused_after, renewing, sessions}
use Rattle.sl_trace.specs.Sightings.{seen_records, sightings}
use Rattle.sl_trace.specs.declared.session.Begun.{Begun}
use Rattle.sl_time.specs.Times.{fail}
use Rattle.sl_trace.specs.WatchdogConnections.{connections}
use Rattle.sl_trace.specs.Traces.{Child, Job, Setting, Submitted, Trace, children, first_child, holdings, job_numbered, job_of, last_reading, next_call, next_job, no_effects, outstanding, reply_to, running_jobs, submitted, waiting_call}
use Rattle.sl_trace.specs.KillPrograms.{kill_programs}
use Rattle.sl_trace.specs.declared.effects.Op.TheVariants.{ReadSectors, WriteRecord}
use Rattle.sl_trace.specs.declared.effects.Op.{Op}
use Rattle.sl_trace.specs.declared.input.Input.{Input}
use Rattle.sl_watch.specs.Watches.{WatchStands, Watched}
use Rattle.sl_words.specs.Words.{choose, first_of_list, greatest, present, some_is}
use Rattle.std.specs.Int.{is_in_range}
use Rattle.std.specs.List.{AllByRecursion, list_any, range_with_len}
use Rattle.std.specs.Prelude.{Bool, IsTrue, List, None, Option, Some, cond, false, filter, filter_map, flat_map, is_none, is_some, length, map, nat_le, nat_lt, not, option_and_then, option_map, reverse, slice_get, slice_index_or, true, unwrap_or, [], ℕ, ◌&&◌, ◌++◌, ◌+◌, ◌-◌, ◌==◌, ◌||◌, ◌∷◌, ◌≡◌, ◌≤◌}

-- ---- what is kept of what a trace has

-- What a host keeps of its setting.
abbrev pub config_of : Setting → Config
config_of st = record { timing = st.timing; grace = st.grace; layout = st.layout; machine = st.machine; name = st.name; read = st.read }

-- The sectors that a call reads.
abbrev pub sectors_of : Op → Option ℕ
sectors_of (ReadSectors n) = Some n
sectors_of (WriteRecord r) = None

-- Version and seq of a value.
abbrev pub pair_of : ValueRec → ValuePair
pair_of v = record { lver = v.lver; seq = v.seq }

-- What is kept of a call until its answer.
abbrev pub kept_call : Submitted → OpenCall
kept_call m =
    record {
      number = m.call.number;
      session = m.call.session;
      purpose = m.call.purpose;
      path = m.call.path;
      offset = m.call.offset;
      sectors = sectors_of m.call.op;
      lver = lver_written m;
      value = option_map pair_of (value_written m);
      reading = m.reading;
    }

-- The call for which a job waits.
abbrev pub kept_waiting : Submitted → WaitingCall
kept_waiting m = record { number = m.call.number; reading = m.reading }

-- What is kept of a running job.
abbrev pub kept_job : Trace → Job → JobState
kept_job es j =
    record { number = j.number; command = command_of j; child = child_of_job es j.number; waits = option_map kept_waiting (waiting_call es j.number) }

-- Whether the child is kept: its start is unanswered, or it runs.
abbrev pub is_there : Child → Bool
is_there k = is_none k.answer || some_is (λ ok. ok) k.answer && not k.exited

-- ---- a lease

-- The instance of the free that a call writes, if it does.
abbrev pub free_written : Submitted → Option ℕ
free_written m = option_and_then (λ l. choose (not l.held) l.lver) (leader_written m)

-- The call has no answer, and this is kept of it.
abbrev pub IsKeptCall : Submitted → LeaseCall → Type 0
IsKeptCall m c =
    (m.answer ≡ None) × (m.call.number ≡ c.number) × (lease_step m.call.purpose ≡ Some (c.work, c.step)) × (free_written m ≡ c.frees)
    × (some_is (λ b. not b.shared) (block_written m) ≡ c.clears) × (turn_written m ≡ c.turn)

-- At most the newest call has no answer, and this is what is kept of it.
abbrev pub IsWaiting : Option LeaseCall → List Submitted → Type 0
IsWaiting None ms = AllByRecursion (λ m. IsTrue (is_some m.answer)) ms
IsWaiting (Some c) [] = ⊥
IsWaiting (Some c) (m ∷ ms) = IsKeptCall m c × AllByRecursion (λ m. IsTrue (is_some m.answer)) ms

-- The greatest `mbal` among these blocks in an instance.
abbrev pub top_mbal : ℕ → List (Option Block) → ℕ
top_mbal n blocks = greatest (map (λ b. b.mbal) (in_instance n (present blocks)))

-- Nothing of a pair.
abbrev pub no_pair : PairState
no_pair = record { turn = None; first = None; again = false }

-- The turn of the own pair, by what is kept of it, and 0 before any was shown.
abbrev pub turn_kept : PairState → ℕ
turn_kept p = unwrap_or p.turn 0

-- What the first of two reads gave of the pairs, where the newest call is the second.
abbrev pub first_read : PairState → List (Option PairBlock)
first_read p = cond p.again (unwrap_or p.first []) []

-- Whether the newest of these calls is a read that is made once more.
abbrev pub is_again_newest : List Submitted → Bool
is_again_newest ms = some_is is_again (first_of_list ms)

-- What is kept of a first read stands for these calls, the newest first: of the answer of the newest, or of the one before a second read.
abbrev pub IsFirstKept : Layout → PairState → List Submitted → Type 0
IsFirstKept g p [] = p.first ≡ None
IsFirstKept g p (m ∷ ms) = (pairs : List (Option PairBlock)) → p.first ≡ Some pairs → kept_before g (cond (is_again m) ms (m ∷ ms)) ≡ Some pairs

-- Where a second read is the newest call, something is kept of the first: a second read follows one that is to be made once more.
abbrev pub IsSecondKept : PairState → Type 0
IsSecondKept p = p.again ≡ true → IsTrue (is_some p.first)

-- The lease stands for its calls, the newest first, under a lockspace and for the session as ballots name it.
pub record LeaseStands (g : Layout) (lockspace : List ℕ) (self : Owner) (l : LeaseState) (ms : List Submitted) : Type 0 where
  pub own : block_submitted ms ≡ l.own
  pub name : verified_name g lockspace ms ≡ l.name
  pub freed : freed ms ≡ l.freed
  pub ballot : open_ballot g ms ≡ l.ballot
  pub shown : may_show_shared ms ≡ l.shown
  pub won : free_left g self ms ≡ l.won
  pub waiting : IsWaiting l.waiting ms
  -- what is kept of the blocks that were read last is so
  pub top : (t : TopNumber) → l.top ≡ Some t → top_mbal t.instance (last_blocks g ms) ≡ t.mbal
  -- and a settling that runs a ballot to its end finds it there: the open ballot's instance is the own block's
  pub opened : (n : ℕ) → l.ballot ≡ Some n → (t : TopNumber) × (l.top ≡ Some t) × (t.instance ≡ n)
  -- the turn of the own pair that was shown last
  pub turn : base_turn g self.id ms ≡ turn_kept l.pair
  -- what the first of two reads gave, as long as the second may be made or asks for it
  pub again : is_again_newest ms ≡ l.pair.again
  pub kept : IsFirstKept g l.pair ms
  pub second : IsSecondKept l.pair

-- ---- a session

-- The newest call of a joining, if it is one of its steps.
abbrev pub newest_of : List Submitted → Option JoinCall
newest_of [] = None
newest_of (m ∷ ms) = option_map (λ step. record { step = step; made = m.reading; answered = option_map (λ a. a.reading) m.answer }) (join_step_of m.call.purpose)

-- What a joining keeps stands for the session's calls, the newest first.
pub record JoinStands (j : JoinState) (ms : List Submitted) : Type 0 where
  pub watched : first_bytes ms ≡ j.watched
  pub since : first_answered ms ≡ j.since
  pub claim : claim_of ms ≡ j.claim
  pub newest : newest_of ms ≡ j.newest

-- Whether it is still joining: from then on nothing asks what it read and claimed.
abbrev pub is_joining : MemberState → Bool
is_joining m = not m.joined && not m.refused

-- Of these, the newest first, at most the newest has no answer.
abbrev pub AreInTurn : List Submitted → Type 0
AreInTurn [] = Unit {0}
AreInTurn (m ∷ ms) = AllByRecursion (λ m. IsTrue (is_some m.answer)) ms

-- Whether a request to this owner was answered less than `fail` ago.
abbrev pub is_asked_in : Setting → List (Option ℕ) → ℕ → ℕ → Bool
is_asked_in st asked now owner = some_is (λ r. nat_lt now (r + fail st.timing)) (slice_index_or asked (owner - 1) None)

-- The bits of a renewal, by what is kept.
abbrev pub bits_of : Setting → List (Option ℕ) → ℕ → List ℕ
bits_of st asked now = bitmap_of (filter (is_asked_in st asked now) (range_with_len 1 st.layout.hosts))

-- The value that was submitted last on the area.
abbrev pub newest_value : List ValueRec → Option ValuePair
newest_value vs = option_map pair_of (slice_get vs 0)

-- The owners asked stand for a session's calls: of each id the last reading tells.
pub record AskedStands (st : Setting) (asked : List (Option ℕ)) (ms : List Submitted) : Type 0 where
  pub count : length asked ≡ st.layout.hosts
  pub each : (now owner : ℕ) → 1 ≤ owner → owner ≤ st.layout.hosts → is_asked st ms now owner ≡ is_asked_in st asked now owner

-- A watch stands for a session's calls: of each id what is kept is what its sightings come to, and beyond the ids nothing was seen.
pub record WatchKeeps (st : Setting) (w : Watched) (ms : List Submitted) : Type 0 where
  pub timed : w.timing ≡ st.timing
  pub sized : layout_of w.sizes ≡ st.layout
  pub count : length w.ids ≡ w.sizes.hosts
  pub stands : WatchStands w (λ id. sightings st.layout id ms)
  pub beyond : (id : ℕ) → is_in_range 1 st.layout.hosts id ≡ false → seen_records st.layout id (sightings st.layout id ms) ≡ []

-- A member stands for its session.
pub record MemberStands (st : Setting) (es : Trace) (m : MemberState) : Type 0 where
  pub joined : is_joined es m.who ≡ m.joined
  pub refused : is_some (refused_after es m.who) ≡ m.refused
  pub known : delta_known st es m.who ≡ m.known
  pub joining : is_joining m ≡ true → JoinStands m.joining (calls_of es m.who)
  pub renewing : renewing st es m.who ≡ m.renewing
  pub leaving : leaving_of st es m.who ≡ m.leaving
  pub asked : AskedStands st m.asked (calls_of es m.who)
  -- its calls on delta sectors come one after another
  pub turn : AreInTurn (filter (λ c. is_delta_purpose c.call.purpose) (calls_of es m.who))
  pub seen : WatchKeeps st m.watch (calls_of es m.who)
  pub spots : lease_spots st es m.who ≡ map (λ l. l.spot) m.leases
  pub leases : (k : ℕ) (l : LeaseState) → slice_get m.leases k ≡ Some l → LeaseStands st.layout m.who.lockspace (me es m.who) l (lease_calls st es m.who l.spot)
  -- each value that it submitted is on the area of a lease of it
  pub valued : AllByRecursion (λ d. IsTrue (is_none (value_written d) || list_any (λ l. is_on st.layout l.spot d.call) m.leases)) (calls_of es m.who)
  -- values are set under the version held, and versions rise, so of all values the last one is enough
  pub values : (k : ℕ) (l : LeaseState) → slice_get m.leases k ≡ Some l → newest_value (values_on st.layout l.spot (calls_of es m.who)) ≡ l.value

-- ---- the whole

-- The jobs of calls and of children.
abbrev pub jobs_told : Trace → List ℕ
jobs_told es = filter_map (λ m. job_of m.call.purpose) (submitted es) ++ filter_map (λ k. k.job) (children es)

-- Whether the call is the job's.
abbrev pub is_kept_of : ℕ → OpenCall → Bool
is_kept_of job c = some_is (λ j. j == job) (job_of c.purpose)

-- Of each job at most one of these calls is there.
abbrev pub AreSingle : List OpenCall → Type 0
AreSingle [] = Unit {0}
AreSingle (c ∷ cs) = (some_is (λ job. list_any (is_kept_of job) cs) (job_of c.purpose) ≡ false) × AreSingle cs

-- The questions to a trace.
pub record Keeps (h : HostState) (st : Setting) (es : Trace) : Type 0 where
  pub config : config_of st ≡ h.config
  pub entries : length es ≡ h.entries
  pub calls : next_call st es ≡ h.first_call + length h.made.calls
  pub lines : next_job st es ≡ h.next_job
  pub replied : (n : ℕ) → h.next_job ≤ n → reply_to es n ≡ None
  pub started : length (children es) ≡ h.started
  pub born : length (sessions st es) ≡ h.born
  pub numbered : map (λ m. m.call.number) (submitted es) ≡ reverse (range_with_len st.first.call (length (submitted es)))
  pub counted : map (λ k. k.process) (children es) ≡ range_with_len first_child (length (children es))
  pub present : present_sessions st es ≡ map (λ m. m.who) h.members
  pub members : (k : ℕ) (m : MemberState) → slice_get h.members k ≡ Some m → MemberStands st es m
  pub connected : map (λ c. c.name) (connections st es) ≡ h.connected
  pub unanswered : map kept_call (outstanding es) ≡ reverse h.unanswered
  pub single : AreSingle h.unanswered
  pub owned : AllByRecursion (λ j. IsTrue (is_some (job_numbered st es j))) (jobs_told es)
  pub jobs : map (kept_job es) (running_jobs st es) ≡ h.jobs
  pub holdings : holdings es ≡ h.holdings
  pub children : filter is_there (children es) ≡ h.children
  pub programs : kill_programs st es ≡ h.programs

-- ---- what is due by time before an input

-- The moment of a member's recovery, while none has begun.
abbrev pub recovery_moment : HostState → MemberState → List ℕ
recovery_moment h m = elim m.renewing.recovery [ Some b ↦ [] | None ↦ (m.renewing.last + fail h.config.timing) ∷ [] ]

-- The moment of these kills, until a step from which on they may come has reached it.
abbrev pub kill_moment : HostState → Option Begun → List ℕ
kill_moment h None = []
kill_moment h (Some b) = cond (nat_lt b.kills_from h.entries && nat_le (b.reading + h.config.grace) h.reading) [] ((b.reading + h.config.grace) ∷ [])

-- Those of a joined member.
abbrev pub member_moments : HostState → MemberState → List ℕ
member_moments h m = cond m.joined (recovery_moment h m ++ kill_moment h m.renewing.recovery ++ kill_moment h m.leaving) []

-- The moment from which on a job's call is overdue.
abbrev pub job_moments : HostState → JobState → List ℕ
job_moments h j = elim j.waits [ None ↦ [] | Some c ↦ (c.reading + h.config.timing.io) ∷ [] ]

-- The moments at which recovery, kills and the refusal of overdue jobs are due.
abbrev pub moments_of : HostState → List ℕ
moments_of h = flat_map (member_moments h) h.members ++ flat_map (job_moments h) h.jobs

-- None of them is below the one kept.
abbrev pub IsQuiet : HostState → Type 0
IsQuiet h = (k now : ℕ) → slice_get (moments_of h) k ≡ Some now → h.quiet_until ≤ now

-- ---- in a step, and between steps

-- The host stands for a step in progress, whose input counts as this one so far: as a wake before it is looked at.
pub record Stands (i : Input) (h : HostState) (x : Step) : Type 0 where
  pub input : x.input ≡ i
  -- the steps before did what was due
  pub past : IsHostTrace x.setting x.past
  pub reading : x.reading ≡ h.reading
  pub before : last_reading x.setting x.past ≡ h.before
  pub made : x.effects ≡ h.made
  pub keeps : Keeps h x.setting (seen x)
  pub quiet : IsQuiet h

-- Between steps it stands for the steps so far.
pub record HostStands (h : HostState) (st : Setting) (es : Trace) : Type 0 where
  pub past : IsHostTrace st es
  pub reading : last_reading st es ≡ h.reading
  pub made : no_effects ≡ h.made
  pub keeps : Keeps h st es
  pub quiet : IsQuiet h

-- Every step for which the old state stood is, after f, one for which the new state stands.
abbrev pub Takes : HostState → HostState → (Step → Step) → Type 0
Takes old new f = (i : Input) (x : Step) → Stands i old x → Stands i new (f x)
