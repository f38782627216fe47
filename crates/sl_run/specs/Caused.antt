-- The cause of each reply: what stands in the trace where it is given.
use Rattle.sl_area.specs.AreaSizes.{Layout, record_in, sector_with}
use Rattle.sl_area.specs.AreaLayout.{area_blocks, leader_of, read_at}
use Rattle.sl_run.specs.LawForms.{IsAnsweredAt}
use Rattle.sl_trace.specs.Ballots.{in_instance, next_mbal, stop_of, value_of}
use Rattle.sl_trace.specs.Counts.{busy_process, holds_already, limit_met, may_act, next_value_seq, other_holder, pending_call}
use Rattle.sl_trace.specs.KillPrograms.{is_killpath_limit}
use Rattle.sl_trace.specs.Jobs.{is_asking_lease, is_job_of_process, is_program, job_of_start, lockspace_named, process_named, resource_named, wants_shared}
use Rattle.sl_trace.specs.Leases.{Area_read, Leader_freed, Leader_taken, LeaseKnown, Mode_cleared, Mode_set, Phase1_read, Phase2_read, StepKind, base_turn, blocks_given, exclusive_on, holdings_on, instance_for, is_at, is_leader_of, is_phase_read, known, leader_given, lease_calls, lver_written, orphan_on, own_block, shared_elsewhere, spot_of, spot_of_call, value_written}
use Rattle.sl_trace.specs.declared.lease.Instance.TheVariants.{Begins, HeldAlready}
use Rattle.sl_trace.specs.declared.lease.Instance.{Instance}
use Rattle.sl_trace.specs.declared.lease.Stop.TheVariants.{BlockAhead, BlockRival, BlockTorn}
use Rattle.sl_trace.specs.declared.lease.Stop.{Stop}
use Rattle.sl_request.specs.Requests.{check_request}
use Rattle.sl_sector.specs.SectorLayouts.{delta_in, request_in, value_in}
use Rattle.sl_sector.specs.declared.sector.Block.{Block}
use Rattle.sl_sector.specs.declared.sector.DeltaRec.{DeltaRec}
use Rattle.sl_sector.specs.declared.sector.Leader.{Leader}
use Rattle.sl_sector.specs.declared.sector.Owner.{Owner}
use Rattle.sl_sector.specs.declared.sector.Rec.TheVariants.{DeltaIs, RequestIs}
use Rattle.sl_sector.specs.declared.sector.Request.{Request as RequestRec}
use Rattle.sl_sector.specs.declared.sector.ValueRec.{ValueRec}
use Rattle.sl_trace.specs.DeltaDecisions.{claim_of, delta_of_session, first_bytes, id_lost, version_in}
use Rattle.sl_trace.specs.Sessions.{calls_of, generation_of, holdings_of, is_active, is_join_call, is_joined, is_session_arg, join_call, last_renewal, last_seq, present_sessions, session_named, session_of_job}
use Rattle.sl_trace.specs.Sightings.{counts_over, sessions_seen, states_seen}
use Rattle.sl_trace.specs.declared.session.Session.{Session}
use Rattle.sl_time.specs.Times.{join_max}
use Rattle.sl_trace.specs.CountLimits.{most_lockspaces}
use Rattle.sl_trace.specs.Traces.{EachEntry, Job, Setting, Submitted, Trace, entry_at, gave, is_of_job, is_orphan, is_shared, is_before_input, job_numbered, no_effects, no_process, record_of, reply_to, same_place, submitted, waiting_call}
use Rattle.sl_trace.specs.declared.command.Command.TheVariants.{Acquire, AddLockspace, Convert, GetLvb, HostStatus, InqLockspace, Release, ReleaseOrphan, RemLockspace, Request, RunProgram, SetKillpath, SetLvb, Status, TakeOver}
use Rattle.sl_trace.specs.declared.command.Command.{Command}
use Rattle.sl_trace.specs.declared.command.LockspaceArg.{LockspaceArg}
use Rattle.sl_trace.specs.declared.command.ResourceArg.{ResourceArg}
use Rattle.sl_trace.specs.declared.effects.Effects.{Effects}
use Rattle.sl_trace.specs.declared.effects.Entry.{Entry}
use Rattle.sl_trace.specs.declared.effects.Grant.{Grant}
use Rattle.sl_trace.specs.declared.effects.JobReply.{JobReply}
use Rattle.sl_trace.specs.declared.effects.JoinStep.TheVariants.{ClaimWrite, DecidingRead, FirstRead, FirstRenewal, VerifyRead, WatchRead}
use Rattle.sl_trace.specs.declared.effects.JoinStep.{JoinStep}
use Rattle.sl_trace.specs.declared.effects.Purpose.TheVariants.{Leaving, RequestRead, RequestWrite, ValueRead, ValueWrite}
use Rattle.sl_trace.specs.declared.effects.Spot.{Spot}
use Rattle.sl_trace.specs.declared.input.Answer.TheVariants.{Failed, Read, Written}
use Rattle.sl_trace.specs.declared.input.Answer.{Answer}
use Rattle.sl_trace.specs.declared.input.Input.TheVariants.{Exit, Spawned, Wake}
use Rattle.sl_trace.specs.declared.reply.DeltaVersion.{DeltaVersion}
use Rattle.sl_trace.specs.declared.reply.Limited.TheVariants.{Children, Gen as GenLimit, Holders, Killpaths, Lockspaces, Lver as LverLimit, Mbal as MbalLimit, Resources, Seq as SeqLimit, Turn as TurnLimit}
use Rattle.sl_trace.specs.declared.reply.Limited.{Limited}
use Rattle.sl_trace.specs.declared.reply.Reply.TheVariants.{Ahead, BadCommand as Misread, Busy, Done, Generation, Granted, Held as HeldBy, Hosts, IdHeld, IdLate, IdLost, IoFault, IoTimeout, Joined, Joining as StillJoining, Limit as LimitReached, NoOrphan, NoProcess, NoSession, NotHeld, Pending, Recovering, RequestOld, Rival, Sessions, Shared as SharedBy, SpawnFault, Started, TornBlock, TornDelta, TornLeader, Value, ValueSet, ValueTorn, WrongArea, WrongDelta}
use Rattle.sl_trace.specs.declared.reply.Reply.{Reply}
use Rattle.sl_words.specs.Bounds.{record_numbers}
use Rattle.sl_words.specs.Words.{present}
use Rattle.std.specs.List.{list_any}
use Rattle.std.specs.Prelude.{AllPairs, Bool, Contains, Err, IsFalse, IsSome, IsSomeAnd, IsTrue, List, None, Ok, Option, Some, bytes_eq, false, filter, is_none, is_some, length, map, not, option_and_then, option_map, position, true, [], ℕ, ◌&&◌, ◌++◌, ◌+◌, ◌<◌, ◌==◌, ◌∷◌, ◌≡◌, ◌≢◌, ◌≤◌, ◌⊎◌}

-- Where a reply is given: the trace before its entry, the entry, the job.
pub record Answering : Type 0 where
  pub setting : Setting
  pub past : Trace
  pub entry : Entry
  pub job : Job

-- The trace with the entry.
abbrev pub after_entry : Answering → Trace
after_entry x = x.entry ∷ x.past

-- What the trace is where the entry's input is looked at: the jobs that the step has stopped before it are stopped, and the kill programs
-- that it has started by then are children. (Where a command is answered at once, all such starts of its entry came before it.)
abbrev pub before_entry : Answering → Trace
before_entry x =
    let fx : Effects = x.entry.effects in
    record {
      reading = x.entry.reading;
      input = Wake;
      effects = record no_effects { starts = filter (λ s. is_some s.stands_for) fx.starts; replies = filter (λ a. is_before_input a.reply) fx.replies };
    } ∷ x.past

-- The entry answers this call of the job.
pub record AnswersCall (x : Answering) (c : Submitted) (answer : Answer) : Type 0 where
  pub submitted_before : Contains (submitted (after_entry x)) c
  pub of_job : IsTrue (is_of_job x.job.number c)
  pub answered : IsAnsweredAt (length x.past) c answer

-- The entry answers a read of the job, of which this holds.
abbrev pub AnswersRead : Answering → (Submitted → List ℕ → Type 0) → Type 0
AnswersRead x P = (c : Submitted) × (bytes : List ℕ) × AnswersCall x c (Read bytes) × P c bytes

-- What is said of the job's command.
abbrev pub job_command : Answering → (Command → Type 0) → Type 0
job_command x P = elim x.job.command [ Ok c ↦ P c | Err e ↦ ⊥ ]

-- The entry brings the command itself.
abbrev pub IsAtCommand : Answering → Type 0
IsAtCommand x = (x.job.at ≡ length x.past)

-- The session that has the lockspace which the job's command names.
abbrev pub the_session : Answering → Option Session
the_session x = elim x.job.command [ Ok c ↦ option_and_then (session_named x.setting (before_entry x)) (lockspace_named c) | Err e ↦ None ]

-- What is said of that session.
abbrev pub WithSession : Answering → (Session → Type 0) → Type 0
WithSession x P = IsSomeAnd (the_session x) P

-- The lockspace that a command names by all its parts.
abbrev pub lockspace_arg : Command → Option LockspaceArg
lockspace_arg (RemLockspace a) = Some a
lockspace_arg (InqLockspace a) = Some a
lockspace_arg (HostStatus a) = Some a
lockspace_arg c = None

-- Whether a command joins a lockspace.
abbrev pub is_joining_command : Command → Bool
is_joining_command (AddLockspace a) = true
is_joining_command c = false

-- Whether a command is one of a process that holds a resource.
abbrev pub is_holders_command : Command → Bool
is_holders_command (Release r p) = true
is_holders_command (Convert r shared p) = true
is_holders_command (GetLvb r p) = true
is_holders_command (SetLvb r p bytes) = true
is_holders_command c = false

-- Whether a command takes an orphan over.
abbrev pub is_taking_over : Command → Bool
is_taking_over (TakeOver r shared p persistent) = true
is_taking_over c = false

-- Whether a command is one on an orphan.
abbrev pub is_orphan_command : Command → Bool
is_orphan_command (ReleaseOrphan r) = true
is_orphan_command c = is_taking_over c

-- None of that name, or one with another id, path or offset.
abbrev pub IsNoSession : Answering → Type 0
IsNoSession x =
    job_command x (λ c. IsFalse (is_joining_command c) × IsSome (lockspace_named c)
    × ((the_session x ≡ None) ⊎ WithSession x (λ s. IsSomeAnd (lockspace_arg c) (λ a. IsFalse (is_session_arg s a)))))

-- What is said of the resource that the job's command names.
abbrev pub WithSpot : Answering → (ResourceArg → Spot → Type 0) → Type 0
WithSpot x P = job_command x (λ c. IsSomeAnd (resource_named c) (λ r. P r (spot_of r)))

-- ---- a joining's

-- The entry answers a read of the joining at this step, of which this holds.
abbrev pub JoinRead : Answering → JoinStep → (Session → List ℕ → Type 0) → Type 0
JoinRead x step P =
    (s : Session) × (session_of_job x.setting x.past x.job.number ≡ Some s) × AnswersRead x (λ c bytes. IsTrue (is_join_call step c.call.purpose) × P s bytes)

-- A further read differs from the first.
abbrev pub IsIdHeld : Answering → DeltaVersion → Option DeltaVersion → Type 0
IsIdHeld x version later =
    JoinRead x WatchRead (λ s bytes. (first : List ℕ) × (first_bytes (calls_of x.past s) ≡ Some first) × (first ≢ bytes)
    × (version_in x.setting.layout first ≡ Some version) × (version_in x.setting.layout bytes ≡ later))
    ⊎ JoinRead x DecidingRead (λ s bytes. (first : List ℕ) × (first_bytes (calls_of x.past s) ≡ Some first) × (first ≢ bytes)
    × (version_in x.setting.layout first ≡ Some version) × (version_in x.setting.layout bytes ≡ later))

-- The verify read isn't the own claim.
abbrev pub IsIdLost : Answering → Reply → Type 0
IsIdLost x r =
    JoinRead x VerifyRead (λ s bytes. (claim : DeltaRec) × (claim_of (calls_of x.past s) ≡ Some claim) × (bytes ≢ sector_with x.setting.layout (DeltaIs claim))
    × (r ≡ id_lost (delta_of_session x.setting s) claim bytes))

-- More than `join_max` has passed since the claim's submission.
abbrev pub IsIdLate : Answering → ℕ → ℕ → Type 0
IsIdLate x claimed now =
    (s : Session) × (session_of_job x.setting x.past x.job.number ≡ Some s) × (c : Submitted) × (join_call (calls_of x.past s) ClaimWrite ≡ Some c)
    × (c.reading ≡ claimed) × (x.entry.reading ≡ now) × (claimed + join_max x.setting.timing < now)

-- ---- a lease's

-- What is said of the session and of the calls of its lease before this one.
abbrev pub BeforeCall : Answering → Submitted → (Session → List Submitted → Type 0) → Type 0
BeforeCall x c P =
    WithSession x (λ s. (later before : List Submitted) × (lease_calls x.setting (after_entry x) s (spot_of_call x.setting.layout c) ≡ later ++ c ∷ before)
    × P s before)

-- The leader that the read gave, if any. With pairs a read of the area gives one only once it is whole, with its second read, and one may
-- be made for a torn one.
abbrev pub GivesLeader : Answering → Submitted → List ℕ → Option Leader → Type 0
GivesLeader x c bytes l =
    elim (x.setting.layout.paired && is_at Area_read c) [
      | false ↦ leader_of x.setting.layout bytes ≡ l
      | true ↦ BeforeCall x c (λ s before. IsSome (blocks_given x.setting.layout c before) × (leader_given x.setting.layout c before ≡ l))
    ]

-- What is said of the blocks that a read of the area gave; with pairs they are those of both answers.
abbrev pub GivesBlocks : Answering → Submitted → List ℕ → (List (Option Block) → Type 0) → Type 0
GivesBlocks x c bytes P =
    elim x.setting.layout.paired [
      | false ↦ P (area_blocks x.setting.layout bytes)
      | true ↦ BeforeCall x c (λ s before. IsSomeAnd (blocks_given x.setting.layout c before) P)
    ]

-- The leader that was read is torn.
abbrev pub IsTornLeaderRead : Answering → Type 0
IsTornLeaderRead x = AnswersRead x (λ c bytes. (IsTrue (is_at Area_read c) ⊎ (c.call.purpose ≡ RequestRead x.job.number)) × GivesLeader x c bytes None)

-- What is known of the lease whose read the entry answers.
abbrev pub known_here : Answering → Session → Submitted → LeaseKnown
known_here x s c = known x.setting (after_entry x) s (spot_of_call x.setting.layout c)

-- The blocks that the entry's read gave, with the own block of then.
abbrev pub ReadsBlocks : Answering → (Session → Submitted → List (Option Block) → Block → Type 0) → Type 0
ReadsBlocks x P =
    WithSession x (λ s. AnswersRead x (λ c bytes. (blocks : List (Option Block)) × (own : Block) × (later before : List Submitted)
    × (blocks_given x.setting.layout c before ≡ Some blocks) × (lease_calls x.setting (after_entry x) s (spot_of_call x.setting.layout c) ≡ later ++ c ∷ before)
    × (own_block x.setting.layout s.id (c ∷ before) ≡ Some own) × P s c blocks own))

-- The blocks that a phase of the ballot read stop it.
abbrev pub IsStopRead : Answering → Stop → Type 0
IsStopRead x stop = ReadsBlocks x (λ s c blocks own. IsTrue (is_phase_read c) × (stop_of own blocks ≡ Some stop))

-- At the read of the area the least torn block; at a later read the least of another host.
abbrev pub IsTornBlockRead : Answering → ℕ → Type 0
IsTornBlockRead x host =
    AnswersRead x (λ c bytes. IsTrue (is_at Area_read c)
    × GivesBlocks x c bytes (λ blocks. option_map (λ k. k + 1) (position is_none blocks) ≡ Some host))
    ⊎ IsStopRead x (BlockTorn host)

-- The read of phase 2 ended the job's ballot with this session.
abbrev pub EndsWith : Answering → Session → Submitted → List (Option Block) → Block → ℕ → Owner → Type 0
EndsWith x s c blocks own lver o = IsTrue (is_at Phase2_read c) × (stop_of own blocks ≡ None) × (own.lver ≡ lver) × (value_of own ≡ o)

-- What the read of the area makes the job begin, or who holds the resource.
abbrev pub ShowsInstance : Answering → Session → Submitted → List (Option Block) → Block → Instance → Type 0
ShowsInstance x s c blocks own i =
    IsTrue (is_at Area_read c) × (bytes : List ℕ) × (l : Leader) × (gave c ≡ Some bytes) × GivesLeader x c bytes (Some l)
    × (instance_for (known_here x s c) l own blocks ≡ i)

-- The resource is held by another that isn't counted as over, or the job's ballot ended with such.
abbrev pub IsHeldRead : Answering → ℕ → Owner → Type 0
IsHeldRead x lver o = ReadsBlocks x (λ s c blocks own.
    ShowsInstance x s c blocks own (HeldAlready lver o)
    ⊎ (EndsWith x s c blocks own lver o × IsFalse (counts_over x.setting (after_entry x) s o.id o.generation)))

-- The instance that the read makes the job begin.
abbrev pub BeginsAt : Answering → Session → Submitted → List (Option Block) → Block → ℕ → Type 0
BeginsAt x s c blocks own n =
    ShowsInstance x s c blocks own (Begins n)
    ⊎ ((o : Owner) × (m : ℕ) × EndsWith x s c blocks own m o × (m + 1 ≡ n) × IsTrue (counts_over x.setting (after_entry x) s o.id o.generation))

-- A block of phase 1's read has a shared mode that isn't over.
abbrev pub IsSharedRead : Answering → Owner → Type 0
IsSharedRead x o = ReadsBlocks x (λ s c blocks own.
    IsTrue (is_at Phase1_read c) × job_command x (λ a. wants_shared a ≡ false) × (stop_of own blocks ≡ None) × (b : Block)
    × (shared_elsewhere (known_here x s c) blocks ≡ Some b) × (b.host ≡ o.id) × (b.mode_gen ≡ o.generation))

-- ---- what the job wrote, and what its session held

-- The entry answers ok a write of the job that passes.
abbrev pub AnswersWrite : Answering → (Submitted → Type 0) → Type 0
AnswersWrite x P = (c : Submitted) × AnswersCall x c Written × P c

-- .. one of its lease at this step, of this instance.
abbrev pub WroteAt : Answering → StepKind → ℕ → Type 0
WroteAt x kind n = AnswersWrite x (λ c. IsTrue (is_at kind c) × (lver_written c ≡ n))

-- The session held the resource before the entry, by a holding that passes.
abbrev pub HeldBefore : Answering → ResourceArg → (Grant → Type 0) → Type 0
HeldBefore x r P = WithSession x (λ s. (g : Grant) × Contains (holdings_on (before_entry x) s (spot_of r)) g × P g)

-- ---- limits

-- The number of phase 1 that the session would write in an instance: above all that it knows of it.
abbrev pub next_number : Setting → Session → ℕ → Block → List Block → ℕ
next_number st s n own read = next_mbal st.layout.hosts s.id (map (λ b. b.mbal) (in_instance n (own ∷ read)))

-- The job's command sets the shared mode, or clears it.
abbrev pub changes_mode : Command → Bool
changes_mode (Acquire r shared p persistent) = shared
changes_mode (RunProgram r shared path) = shared
changes_mode (Convert r shared p) = not shared
changes_mode c = false

-- A release ends the last holding under a shared lease.
abbrev pub EndsLastShared : Answering → Type 0
EndsLastShared x = WithSession x (λ s. WithSpot x (λ r at.
    HeldBefore x r (λ g. IsTrue (is_shared g.mode)) × (holdings_on (after_entry x) s at ≡ [])))

-- The next that the job writes is a block: of phase 1, where a read begins a ballot; of phase 2, where phase 1's read lets it go on; with
-- a new mode, where the leader was taken, and at a command that clears the mode, or sets it while the leader is still held.
abbrev pub BlockIsNext : Answering → Type 0
BlockIsNext x =
    ReadsBlocks x (λ s c blocks own. (n : ℕ) × BeginsAt x s c blocks own n)
    ⊎ ReadsBlocks x (λ s c blocks own. IsTrue (is_at Phase1_read c) × (stop_of own blocks ≡ None)
    × job_command x (λ a. (wants_shared a ≡ true) ⊎ (shared_elsewhere (known_here x s c) blocks ≡ None)))
    ⊎ (job_command x (λ a. IsTrue (changes_mode a)) × ((n : ℕ) × WroteAt x Leader_taken n))
    ⊎ (IsAtCommand x × (job_command x (λ a. (r : ResourceArg) × (p : ℕ) × (a ≡ Convert r true p))
    ⊎ (job_command x (λ a. ((r : ResourceArg) × (p : ℕ) × (a ≡ Release r p)) ⊎ ((r : ResourceArg) × (a ≡ ReleaseOrphan r))) × EndsLastShared x)))

-- One more lease, holder or child would pass its limit, the first that fits.
abbrev pub MeetsLimit : Answering → Limited → Type 0
MeetsLimit x which =
    IsAtCommand x × WithSession x (λ s. job_command x (λ c. IsTrue (is_asking_lease c) × WithSpot x (λ r at.
    limit_met x.setting (before_entry x) s at (is_program c) ≡ Some which)))

-- The count, or the number to be written, would pass its limit.
abbrev pub IsLimit : Answering → Limited → Type 0
IsLimit x Lockspaces =
    IsAtCommand x × job_command x (λ c. IsTrue (is_joining_command c)) × (most_lockspaces ≤ length (present_sessions x.setting (before_entry x)))
IsLimit x Resources = MeetsLimit x Resources
IsLimit x Holders = MeetsLimit x Holders
IsLimit x Children = MeetsLimit x Children
IsLimit x Killpaths =
    IsAtCommand x × job_command x (λ c. (p : ℕ) × (path : List ℕ) × (c ≡ SetKillpath p path) × IsTrue (is_killpath_limit x.setting (before_entry x) p))
IsLimit x GenLimit =
    JoinRead x DecidingRead (λ s bytes. (d : DeltaRec) × (delta_in (record_in x.setting.layout bytes) ≡ Some d) × (record_numbers ≤ d.generation + 1))
IsLimit x SeqLimit =
    JoinRead x DecidingRead (λ s bytes. (d : DeltaRec) × (delta_in (record_in x.setting.layout bytes) ≡ Some d) × (record_numbers ≤ d.seq + 1))
    ⊎ JoinRead x VerifyRead (λ s bytes. (d : DeltaRec) × (claim_of (calls_of x.past s) ≡ Some d) × (record_numbers ≤ d.seq + 1))
    ⊎ (IsAtCommand x × WithSession x (λ s. (a : LockspaceArg) × job_command x (λ c. c ≡ RemLockspace a) × (record_numbers ≤ last_seq (before_entry x) s + 1)))
    ⊎ (IsAtCommand x × WithSession x (λ s. WithSpot x (λ r at. (p : ℕ) × (bytes : List ℕ) × job_command x (λ c. c ≡ SetLvb r p bytes)
    × IsSomeAnd (exclusive_on (before_entry x) s at) (λ g. record_numbers ≤ next_value_seq x.setting (before_entry x) s at g.lver))))
IsLimit x LverLimit = ReadsBlocks x (λ s c blocks own. (n : ℕ) × BeginsAt x s c blocks own n × (record_numbers ≤ n))
IsLimit x MbalLimit = ReadsBlocks x (λ s c blocks own. (n : ℕ) × BeginsAt x s c blocks own n × (record_numbers ≤ next_number x.setting s n own (present blocks)))
IsLimit x TurnLimit =
    (x.setting.layout.paired ≡ true) × BlockIsNext x
    × WithSession x (λ s. WithSpot x (λ r at. record_numbers ≤ base_turn x.setting.layout s.id (lease_calls x.setting (after_entry x) s at) + 1))

-- ---- requests

-- The request isn't above the held lver, or below the record's; or the record is torn.
abbrev pub IsOldRequest : Answering → ℕ → Option ℕ → Type 0
IsOldRequest x held stored = job_command x (λ c. (r : ResourceArg) × (asked : ℕ) × (force : ℕ) × (c ≡ Request r asked force)
    × AnswersRead x (λ d bytes. (l : Leader) × (leader_of x.setting.layout bytes ≡ Some l) × (l.lver ≡ held)
    × (option_map (λ q. q.lver) (request_in (read_at x.setting.layout bytes 1)) ≡ stored)
    × elim stored [ None ↦ asked ≢ 0 | Some n ↦ IsFalse (check_request held n asked force) ]))

-- ---- names that differ

-- The leader that was read has other names or another number of hosts.
abbrev pub IsWrongArea : Answering → List ℕ → List ℕ → ℕ → Type 0
IsWrongArea x lockspace resource hosts = WithSpot x (λ r at.
    AnswersRead x (λ c bytes. (l : Leader) × GivesLeader x c bytes (Some l) × (l.lockspace ≡ lockspace) × (l.resource ≡ resource) × (l.num_hosts ≡ hosts)
    × IsFalse (is_leader_of x.setting.layout r.lockspace r.name l)))

-- The delta record that was read has another lockspace or id.
abbrev pub IsWrongDelta : Answering → List ℕ → ℕ → Type 0
IsWrongDelta x lockspace id =
    JoinRead x FirstRead (λ s bytes. (d : DeltaRec) × (delta_in (record_in x.setting.layout bytes) ≡ Some d) × (d.lockspace ≡ lockspace) × (d.id ≡ id)
    × IsFalse (bytes_eq lockspace s.lockspace && id == s.id))

-- ---- ok replies

-- The entry grants the process the resource in this mode, as persistent as this, under this instance.
abbrev pub GrantsTo : Answering → ResourceArg → ℕ → Bool → Bool → ℕ → Type 0
GrantsTo x r p shared persistent n =
    (g : Grant) × Contains x.entry.effects.grants g × (g.process ≡ p) × IsTrue (same_place g.path g.offset r.path r.offset)
    × (is_shared g.mode ≡ shared) × (g.persistent ≡ persistent) × (g.lver ≡ n)

-- The step of a lease whose write, answered ok, ends a conversion to this mode.
abbrev pub converting_step : Bool → StepKind
converting_step true = Mode_set
converting_step false = Leader_taken

-- The process is granted what its command asks. To exclusive by the leader that it took; to shared at once beside a shared holding of
-- the session, or by the leader that it freed; an orphan is taken over at once; what is held in the mode already is told, else it is
-- converted by the last write.
abbrev pub IsGrantedFor : Answering → ℕ → Command → Type 0
IsGrantedFor x n (Acquire r false p persistent) = GrantsTo x r p false persistent n × WroteAt x Leader_taken n
IsGrantedFor x n (Acquire r true p persistent) =
    GrantsTo x r p true persistent n
    × ((IsAtCommand x × HeldBefore x r (λ g. IsTrue (is_shared g.mode) × (g.lver ≡ n))) ⊎ WroteAt x Leader_freed n)
IsGrantedFor x n (TakeOver r shared p persistent) =
    GrantsTo x r p shared persistent n × IsAtCommand x × HeldBefore x r (λ g. IsTrue (is_orphan g) × (is_shared g.mode ≡ shared) × (g.lver ≡ n))
IsGrantedFor x n (Convert r shared p) =
    (IsAtCommand x × HeldBefore x r (λ g. (g.process ≡ p) × (is_shared g.mode ≡ shared) × (g.lver ≡ n)))
    ⊎ (HeldBefore x r (λ g. (g.process ≡ p) × (is_shared g.mode ≡ not shared) × GrantsTo x r p shared g.persistent n)
    × WroteAt x (converting_step shared) n)
IsGrantedFor x n c = ⊥

-- The job's child was started, and holds what its command asks.
abbrev pub IsStarted : Answering → ℕ → ℕ → Type 0
IsStarted x n p =
    (x.entry.input ≡ Spawned p true) × (job_of_start x.past p ≡ Some x.job.number)
    × ((r : ResourceArg) × (shared : Bool) × (path : List ℕ) × job_command x (λ c. c ≡ RunProgram r shared path)
    × HeldBefore x r (λ g. (g.process ≡ p) × (is_shared g.mode ≡ shared) × (g.lver ≡ n)))

-- The process's holding ended in the entry of the command: it was not the last under the lease, or the entry answers ok the write that
-- frees the leader or clears the mode.
abbrev pub IsReleased : Answering → ResourceArg → ℕ → Type 0
IsReleased x r p =
    ((e : Entry) × (entry_at (after_entry x) x.job.at ≡ Some e)
    × IsTrue (list_any (λ d. d.process == p && same_place d.path d.offset r.path r.offset) e.effects.ends))
    × ((IsAtCommand x × WithSession x (λ s. 1 ≤ length (holdings_on (after_entry x) s (spot_of r))))
    ⊎ AnswersWrite x (λ c. IsTrue (is_at Leader_freed c) ⊎ IsTrue (is_at Mode_cleared c)))

-- What a read of leader and request showed lets the request pass; clearing passes over a torn record.
abbrev pub IsAccepted : Layout → List ℕ → ℕ → ℕ → Type 0
IsAccepted g bytes asked force =
    (l : Leader) × (leader_of g bytes ≡ Some l)
    × elim (request_in (read_at g bytes 1)) [ None ↦ asked ≡ 0 | Some q ↦ IsTrue (check_request l.lver q.lver asked force) ]

-- The request was accepted by the job's read, and the entry answers its write ok.
abbrev pub IsRequested : Answering → ℕ → ℕ → Type 0
IsRequested x asked force =
    ((d : Submitted) × (bytes : List ℕ) × Contains (submitted x.past) d × (d.call.purpose ≡ RequestRead x.job.number) × (gave d ≡ Some bytes)
    × IsAccepted x.setting.layout bytes asked force)
    × AnswersWrite x (λ c. (owner : Option ℕ) × (c.call.purpose ≡ RequestWrite x.job.number owner)
    × (q : RequestRec) × (record_of c.call.op ≡ Some (RequestIs q)) × (q.lver ≡ asked) × (q.force ≡ force))

-- What the command asks is done.
abbrev pub IsDoneFor : Answering → Command → Type 0
IsDoneFor x (Release r p) = IsReleased x r p
IsDoneFor x (ReleaseOrphan r) = IsReleased x r no_process
IsDoneFor x (RemLockspace a) = AnswersWrite x (λ c. c.call.purpose ≡ Leaving x.job.number)
IsDoneFor x (Request r asked force) = IsRequested x asked force
IsDoneFor x (SetKillpath p path) = IsAtCommand x × IsTrue (may_act (before_entry x) p) × IsFalse (is_killpath_limit x.setting (before_entry x) p)
IsDoneFor x c = ⊥

-- The command only asks of a session that it names by all its parts, and the session tells this.
abbrev pub IsTold : Answering → (LockspaceArg → Command) → (Session → Type 0) → Type 0
IsTold x asks P =
    IsAtCommand x × ((a : LockspaceArg) × job_command x (λ c. c ≡ asks a)
    × WithSession x (λ s. IsTrue (is_session_arg s a) × IsTrue (is_active x.setting (before_entry x) s) × P s))

-- The joining's first renewal is answered ok, under this generation.
abbrev pub HasJoinedNow : Answering → ℕ → Type 0
HasJoinedNow x generation =
    (s : Session) × (session_of_job x.setting x.past x.job.number ≡ Some s) × (generation_of x.past s ≡ generation)
    × AnswersWrite x (λ c. IsTrue (is_join_call FirstRenewal c.call.purpose))

-- The value that was read is told.
abbrev pub IsValueRead : Answering → ℕ → ℕ → List ℕ → Type 0
IsValueRead x lver seq bytes =
    AnswersRead x (λ c sector. (c.call.purpose ≡ ValueRead x.job.number) × ((v : ValueRec) × (value_in (record_in x.setting.layout sector) ≡ Some v)
    × (v.lver ≡ lver) × (v.seq ≡ seq) × (v.bytes ≡ bytes)))

-- The value that the command brought is written, with this version.
abbrev pub IsValueSet : Answering → ℕ → ℕ → Type 0
IsValueSet x lver seq =
    AnswersWrite x (λ c. (c.call.purpose ≡ ValueWrite x.job.number) × ((v : ValueRec) × (value_written c ≡ Some v) × (v.lver ≡ lver) × (v.seq ≡ seq)
    × ((r : ResourceArg) × (p : ℕ) × job_command x (λ a. a ≡ SetLvb r p v.bytes))))

-- ---- the relation

-- The process of the job has exited.
abbrev pub IsExited : Answering → ℕ → Type 0
IsExited x p = (x.entry.input ≡ Exit p) × IsTrue (is_job_of_process x.past p x.job)

-- A process stands in the way: of a lease that is asked for, of a take-over by itself, of a conversion to exclusive, or of a leaving by
-- an orphan.
abbrev pub IsBusy : Answering → ℕ → Type 0
IsBusy x process =
    job_command x (λ c. IsTrue (is_asking_lease c) × WithSpot x (λ r at. busy_process (before_entry x) at (process_named c) (wants_shared c) ≡ Some process))
    ⊎ job_command x (λ c. IsTrue (is_taking_over c) × (process_named c ≡ Some process) × WithSpot x (λ r at. holds_already (before_entry x) at process ≡ Some process))
    ⊎ job_command x (λ c. (r : ResourceArg) × (p : ℕ) × (c ≡ Convert r false p) × (other_holder (before_entry x) (spot_of r) p ≡ Some process))
    ⊎ WithSession x (λ s. (a : LockspaceArg) × job_command x (λ c. c ≡ RemLockspace a) × IsTrue (list_any is_orphan (holdings_of (before_entry x) s)) × (process ≡ no_process))

-- The cause of each reply.
abbrev pub CausedBy : Answering → Reply → Type 0
CausedBy x NoSession = IsAtCommand x × IsNoSession x
CausedBy x StillJoining = IsAtCommand x × WithSession x (λ s. IsFalse (is_joined (before_entry x) s))
CausedBy x (Recovering t) =
    WithSession x (λ s. IsTrue (is_joined x.past s) × IsFalse (is_active x.setting (after_entry x) s) × (last_renewal x.setting (before_entry x) s ≡ t))
CausedBy x (IdHeld version later) = IsIdHeld x version later
CausedBy x (IdLost own found) = IsIdLost x (IdLost own found)
CausedBy x (IdLate claimed now) = IsIdLate x claimed now
CausedBy x TornDelta = JoinRead x FirstRead (λ s bytes. delta_in (record_in x.setting.layout bytes) ≡ None)
CausedBy x TornLeader = IsTornLeaderRead x
CausedBy x (TornBlock host) = IsTornBlockRead x host
CausedBy x (HeldBy lver owner) = IsHeldRead x lver owner
CausedBy x (SharedBy owner) = IsSharedRead x owner
CausedBy x (Rival host mbal) = IsStopRead x (BlockRival host mbal)
CausedBy x (Ahead host lver) = IsStopRead x (BlockAhead host lver)
CausedBy x (IoTimeout call from to) =
    (c : Submitted) × (waiting_call x.past x.job.number ≡ Some c) × (c.call.number ≡ call) × (c.reading ≡ from) × (x.entry.reading ≡ to) × (from + x.setting.timing.io ≤ to)
CausedBy x (IoFault call) = (c : Submitted) × AnswersCall x c Failed × (c.call.number ≡ call)
CausedBy x (Pending call) =
    IsAtCommand x × WithSpot x (λ r at. pending_call x.setting (before_entry x) at ≡ Some call)
CausedBy x (Busy process) = IsAtCommand x × IsBusy x process
CausedBy x NoOrphan = IsAtCommand x × WithSession x (λ s. job_command x (λ c. IsTrue (is_orphan_command c) × WithSpot x (λ r at.
    (g : Grant) → orphan_on (before_entry x) s at ≡ Some g → IsTrue (is_taking_over c) × (is_shared g.mode ≢ wants_shared c))))
CausedBy x NotHeld = IsAtCommand x × WithSession x (λ s. job_command x (λ c. IsTrue (is_holders_command c) × WithSpot x (λ r at.
    (g : Grant) → Contains (holdings_on (before_entry x) s at) g → process_named c ≡ Some g.process →
    (p : ℕ) × (bytes : List ℕ) × (c ≡ SetLvb r p bytes) × IsTrue (is_shared g.mode))))
CausedBy x SpawnFault = (p : ℕ) × (x.entry.input ≡ Spawned p false) × (job_of_start x.past p ≡ Some x.job.number)
CausedBy x ValueTorn = AnswersRead x (λ c bytes. (c.call.purpose ≡ ValueRead x.job.number) × (value_in (record_in x.setting.layout bytes) ≡ None))
CausedBy x (Misread column) = IsAtCommand x × (x.job.command ≡ Err column)
CausedBy x (LimitReached which) = IsLimit x which
CausedBy x (RequestOld held stored) = IsOldRequest x held stored
CausedBy x (WrongArea lockspace resource hosts) = IsWrongArea x lockspace resource hosts
CausedBy x (WrongDelta lockspace id) = IsWrongDelta x lockspace id
CausedBy x (NoProcess p) =
    IsExited x p ⊎ (IsAtCommand x × IsFalse (may_act (before_entry x) p) × job_command x (λ c. process_named c ≡ Some p))
CausedBy x (Joined generation) =
    IsAtCommand x × job_command x (λ c. IsTrue (is_joining_command c))
    × WithSession x (λ s. IsTrue (is_active x.setting (before_entry x) s) × (generation_of (before_entry x) s ≡ generation))
CausedBy x Done = job_command x (IsDoneFor x)
CausedBy x (Generation generation) =
    IsTold x (λ a. InqLockspace a) (λ s. generation_of (before_entry x) s ≡ generation) ⊎ HasJoinedNow x generation
CausedBy x (Granted lver) = job_command x (IsGrantedFor x lver)
CausedBy x (Started lver process) = IsStarted x lver process
CausedBy x (Value lver seq bytes) = IsValueRead x lver seq bytes
CausedBy x (ValueSet lver seq) = IsValueSet x lver seq
CausedBy x (Hosts states) = IsTold x (λ a. HostStatus a) (λ s. states_seen x.setting (before_entry x) s x.entry.reading ≡ states)
CausedBy x (Sessions sessions) = IsAtCommand x × job_command x (λ c. c ≡ Status) × (sessions_seen x.setting (before_entry x) ≡ sessions)

-- Each reply of an entry is that of a running job, one for a job, and has its cause.
pub record AnswersWell (st : Setting) (past : Trace) (e : Entry) : Type 0 where
  -- nobody is answered who didn't ask, nobody twice, and nobody without cause
  pub running : (a : JobReply) → Contains e.effects.replies a →
      (j : Job) × (job_numbered st (e ∷ past) a.job ≡ Some j) × (reply_to past a.job ≡ None)
      × CausedBy (record { setting = st; past = past; entry = e; job = j }) a.reply
  -- two replies in one step would be two answers
  pub once : AllPairs (λ a b. a.job ≢ b.job) e.effects.replies

-- Each reply has its cause.
abbrev pub IsCaused : Setting → Trace → Type 0
IsCaused st es = EachEntry (AnswersWell st) es
