-- What a command comes to by what a host keeps: the definitions' own decisions, each question asked of the kept lists.
use Rattle.sl_area.specs.AreaSizes.{Layout}
use Rattle.sl_area.specs.AreaLayout.{in_area}
use Rattle.sl_due.specs.DueCommands.{unless_refused}
use Rattle.sl_due.specs.declared.decision.Decision.TheVariants.{ConvertsTo, GetsValue, GivesUp, Joins, Leaves, ReadsArea, Replies, Requests, SetsValue, Shares, TakesOver}
use Rattle.sl_due.specs.declared.decision.Decision.{Decision}
use Rattle.sl_host_state.specs.StepQuestions.{ungranted_in}
use Rattle.sl_host_state.specs.KeptState.{HostState, MemberState}
use Rattle.sl_host_state.specs.MadeEffects.{is_lease_on}
use Rattle.sl_host_state.specs.declared.kept_parts.OpenCall.{OpenCall}
use Rattle.sl_trace.specs.Counts.{busy_among}
use Rattle.sl_trace.specs.Jobs.{is_asking_lease, is_program, wanted_mode}
use Rattle.sl_trace.specs.Leases.{spot_of}
use Rattle.sl_trace.specs.Sessions.{is_session_arg}
use Rattle.sl_trace.specs.CountLimits.{most_children, most_holders, most_killpaths, most_lockspaces, most_processes, most_resources}
use Rattle.sl_trace.specs.Traces.{is_orphan, is_shared, no_process, same_place}
use Rattle.sl_trace.specs.declared.command.Command.TheVariants.{Acquire, AddLockspace, Convert, GetLvb, HostStatus, InqLockspace, Release, ReleaseOrphan, RemLockspace, Request, RunProgram, SetKillpath, SetLvb, Status, TakeOver}
use Rattle.sl_trace.specs.declared.command.Command.{Command}
use Rattle.sl_trace.specs.declared.command.LockspaceArg.{LockspaceArg}
use Rattle.sl_trace.specs.declared.command.ResourceArg.{ResourceArg}
use Rattle.sl_trace.specs.declared.effects.Grant.{Grant}
use Rattle.sl_trace.specs.declared.effects.Mode.{Mode}
use Rattle.sl_trace.specs.declared.effects.Spot.{Spot}
use Rattle.sl_trace.specs.declared.reply.Limited.TheVariants.{Children, Holders, Killpaths, Lockspaces, Resources, Seq as SeqLimit}
use Rattle.sl_trace.specs.declared.reply.Limited.{Limited}
use Rattle.sl_trace.specs.declared.reply.Reply.TheVariants.{Busy, Done, Generation, Granted, Hosts, Joined, Joining as StillJoining, Limit as LimitReached, NoOrphan, NoProcess, NoSession, NotHeld, Pending, Recovering, Sessions}
use Rattle.sl_trace.specs.declared.reply.Reply.{Reply}
use Rattle.sl_trace.specs.declared.reply.SessionOf.{SessionOf}
use Rattle.sl_trace.specs.declared.reply.StateOf.{StateOf}
use Rattle.sl_words.specs.Bounds.{is_number}
use Rattle.sl_words.specs.Words.{choose, least, same_truth, some_is}
use Rattle.sl_watch.specs.Summaries.{bare, state_by}
use Rattle.sl_watch.specs.Watches.{kept_at}
use Rattle.std.specs.List.{list_any, range_with_len}
use Rattle.std.specs.Option.{option_map_or, option_or}
use Rattle.std.specs.Prelude.{Bool, List, None, Option, Some, bytes_eq, false, filter, find, if◌then◌else◌, is_none, length, map, nat_le, not, option_and_then, option_map, sum_by, true, [], ℕ, ◌&&◌, ◌++◌, ◌+◌, ◌==◌, ◌||◌, ◌∷◌}

-- ---- members

-- The member of this name.
abbrev pub member_named : HostState → List ℕ → Option MemberState
member_named h name = find (λ m. bytes_eq m.who.lockspace name) h.members

-- The member of this name, where id and area are right too.
abbrev pub member_of : HostState → LockspaceArg → Option MemberState
member_of h a = option_and_then (λ m. choose (is_session_arg m.who a) m) (member_named h a.name)

-- Where there is a member.
abbrev pub with_member : Option MemberState → (MemberState → Decision) → Decision
with_member None f = Replies NoSession
with_member (Some m) f = f m

-- Joined, neither in recovery nor leaving.
abbrev pub is_active_member : MemberState → Bool
is_active_member m = m.joined && is_none m.renewing.recovery && is_none m.leaving

-- What its state refuses: still joining, in recovery or leaving.
abbrev pub member_refusal : MemberState → Option Reply
member_refusal m = if not m.joined then Some StillJoining else choose (not (is_active_member m)) (Recovering m.renewing.last)

-- ---- processes, holdings, open calls, limits

-- Whether it is a running child.
abbrev pub is_running_child : HostState → ℕ → Bool
is_running_child h p = some_is (λ k. some_is (λ ok. ok) k.answer && not k.exited) (find (λ k. k.process == p) h.children)

-- A process above 1000000 that is no running child.
abbrev pub process_refused : HostState → ℕ → Option Reply
process_refused h p = choose (not (nat_le p most_processes || is_running_child h p)) (NoProcess p)

-- The holdings on the area, of whatever session; those of a member; and those of a member on the area.
abbrev pub held_at : HostState → Spot → List Grant
held_at h at = filter (λ g. same_place g.path g.offset at.path at.base) h.holdings

abbrev pub held_of : HostState → MemberState → List Grant
held_of h m = filter (λ g. g.session == m.who.number) h.holdings

abbrev pub held_on : HostState → MemberState → Spot → List Grant
held_on h m at = filter (λ g. same_place g.path g.offset at.path at.base) (held_of h m)

-- A holding in the way.
abbrev pub busy_refused : HostState → Spot → Option ℕ → Bool → Option Reply
busy_refused h at asking shared = option_map (λ p. Busy p) (busy_among (held_at h at) asking shared)

-- Whether an open call is on the area.
abbrev pub is_open_on : Layout → Spot → OpenCall → Bool
is_open_on g at c = bytes_eq c.path at.path && in_area g at.base c.offset

-- The least open call on the area.
abbrev pub open_at : HostState → Spot → Option ℕ
open_at h at = least (map (λ c. c.number) (filter (is_open_on h.config.layout at) h.unanswered))

-- A call on the area that is unanswered.
abbrev pub pending_refused : HostState → Spot → Option Reply
pending_refused h at = option_map (λ n. Pending n) (open_at h at)

-- Leases of the joined members.
abbrev pub lease_count : HostState → ℕ
lease_count h = sum_by (λ m. length m.leases) (filter (λ m. m.joined) h.members)

-- The first count that one more holder, or child, would pass.
abbrev pub limit_reached : HostState → MemberState → Spot → Bool → Option Limited
limit_reached h m at program =
    option_or (choose (not (list_any (is_lease_on at) m.leases) && nat_le most_resources (lease_count h)) Resources)
    (option_or (choose (nat_le most_holders (length h.holdings + ungranted_in h is_asking_lease)) Holders)
    (choose (program && nat_le most_children (h.started + ungranted_in h is_program)) Children))

abbrev pub limit_refused : HostState → MemberState → Spot → Bool → Option Reply
limit_refused h m at program = option_map (λ l. LimitReached l) (limit_reached h m at program)

-- ---- commands on a resource

-- Work on the lease begins, or the grant is given at once where the member has a shared holding.
abbrev pub member_acquires : HostState → MemberState → ResourceArg → Bool → Decision
member_acquires h m r shared =
    elim shared [
      | false ↦ ReadsArea m.who r
      | true ↦ elim (find (λ g. is_shared g.mode) (held_on h m (spot_of r))) [ None ↦ ReadsArea m.who r | Some g ↦ Shares m.who g.lver ]
    ]

-- An acquire of a process, or a command's, whose process comes later.
abbrev pub acquire_decision : HostState → ResourceArg → Option ℕ → Bool → Bool → Decision
acquire_decision h r asking shared program =
    with_member (member_named h r.lockspace) (λ m.
    unless_refused (member_refusal m
    ∷ option_and_then (process_refused h) asking
    ∷ busy_refused h (spot_of r) asking shared
    ∷ pending_refused h (spot_of r)
    ∷ limit_refused h m (spot_of r) program ∷ []) (member_acquires h m r shared))

-- The process's holding of the resource, in a mode that serves.
abbrev pub serving_holding : HostState → MemberState → Spot → ℕ → (Grant → Bool) → Option Grant
serving_holding h m at p serves = find (λ g. g.process == p && serves g) (held_on h m at)

-- A command of a process that holds the resource, in a mode that serves.
abbrev pub holder_decision : HostState → ResourceArg → ℕ → (Grant → Bool) → (MemberState → Grant → Decision) → Decision
holder_decision h r p serves f =
    with_member (member_named h r.lockspace) (λ m.
    unless_refused (member_refusal m
    ∷ process_refused h p
    ∷ choose (is_none (serving_holding h m (spot_of r) p serves)) NotHeld
    ∷ pending_refused h (spot_of r) ∷ []) (option_map_or (f m) (serving_holding h m (spot_of r) p serves) (Replies NotHeld)))

-- A holding that has the mode already is answered at once.
abbrev pub member_converts : MemberState → ResourceArg → Mode → Grant → Decision
member_converts m r mode g = elim (same_truth (is_shared mode) (is_shared g.mode)) [ true ↦ Replies (Granted g.lver) | false ↦ ConvertsTo m.who r mode ]

-- The least other process that holds on the area.
abbrev pub other_at : HostState → Spot → ℕ → Option ℕ
other_at h at p = least (map (λ g. g.process) (filter (λ g. not (g.process == p)) (held_at h at)))

-- A conversion of what the process holds; to exclusive no other process may hold the resource.
abbrev pub convert_decision : HostState → ResourceArg → ℕ → Mode → Decision
convert_decision h r p mode =
    with_member (member_named h r.lockspace) (λ m.
    unless_refused (member_refusal m
    ∷ process_refused h p
    ∷ choose (is_none (serving_holding h m (spot_of r) p (λ g. true))) NotHeld
    ∷ option_and_then (λ q. choose (not (is_shared mode)) (Busy q)) (other_at h (spot_of r) p)
    ∷ pending_refused h (spot_of r) ∷ []) (option_map_or (member_converts m r mode) (serving_holding h m (spot_of r) p (λ g. true)) (Replies NotHeld)))

-- The orphan of the resource, in a mode that serves.
abbrev pub orphan_at : HostState → MemberState → Spot → (Grant → Bool) → Option Grant
orphan_at h m at serves = option_and_then (λ g. choose (serves g) g) (find is_orphan (held_on h m at))

-- A command on the orphan in a mode that serves, with what it is refused for after that.
abbrev pub orphan_decision : HostState → ResourceArg → Option ℕ → (Grant → Bool) → List (Option Reply) → (MemberState → Grant → Decision) → Decision
orphan_decision h r asking serves refusals f =
    with_member (member_named h r.lockspace) (λ m.
    unless_refused (member_refusal m
    ∷ option_and_then (process_refused h) asking
    ∷ choose (is_none (orphan_at h m (spot_of r) serves)) NoOrphan
    ∷ refusals ++ pending_refused h (spot_of r) ∷ []) (option_map_or (f m) (orphan_at h m (spot_of r) serves) (Replies NoOrphan)))

-- The process, where it holds on the area itself.
abbrev pub holds_there : HostState → Spot → ℕ → Option ℕ
holds_there h at p = choose (list_any (λ g. g.process == p) (held_at h at)) p

-- A take-over, in the orphan's mode.
abbrev pub take_over_decision : HostState → ResourceArg → ℕ → Bool → Decision
take_over_decision h r p shared =
    orphan_decision h r (Some p) (λ g. same_truth shared (is_shared g.mode)) (option_map (λ q. Busy q) (holds_there h (spot_of r) p) ∷ [])
    (λ m g. TakesOver m.who g)

-- One above the seq of the value that was submitted last on the area, where that is under this version, else 1.
abbrev pub value_seq : MemberState → Spot → ℕ → ℕ
value_seq m at lver =
    option_map_or (λ v. v.seq) (option_and_then (λ v. choose (v.lver == lver) v) (option_and_then (λ l. l.value) (find (is_lease_on at) m.leases))) 0 + 1

-- The value is written with the next seq, unless that would pass its limit.
abbrev pub member_sets : MemberState → Spot → Grant → ℕ → List ℕ → Decision
member_sets m at g seq bytes =
    elim (is_number seq) [
      | false ↦ Replies (LimitReached SeqLimit)
      | true ↦ SetsValue m.who at (record { host = m.who.id; lver = g.lver; seq = seq; bytes = bytes })
    ]

-- A request.
abbrev pub request_decision : HostState → ResourceArg → Decision
request_decision h r =
    with_member (member_named h r.lockspace) (λ m. unless_refused (member_refusal m ∷ pending_refused h (spot_of r) ∷ []) (Requests m.who r))

-- ---- commands on a lockspace

-- What an `add_lockspace` is refused for by the member of that name.
abbrev pub joined_refused : Option MemberState → Option Reply
joined_refused None = None
joined_refused (Some m) = option_or (member_refusal m) (Some (Joined m.known.generation))

-- An `add_lockspace`.
abbrev pub add_decision : HostState → LockspaceArg → Decision
add_decision h a =
    unless_refused (joined_refused (member_named h a.name)
    ∷ choose (nat_le most_lockspaces (length h.members)) (LimitReached Lockspaces) ∷ []) (Joins h.born a)

-- A `rem_lockspace`.
abbrev pub leave_decision : HostState → LockspaceArg → Decision
leave_decision h a =
    with_member (member_of h a) (λ m.
    unless_refused (member_refusal m
    ∷ choose (list_any is_orphan (held_of h m)) (Busy no_process)
    ∷ choose (not (is_number (m.known.seq + 1))) (LimitReached SeqLimit) ∷ []) (Leaves m.who))

-- A command that only tells of a session.
abbrev pub report_decision : HostState → LockspaceArg → (MemberState → Reply) → Decision
report_decision h a answer = with_member (member_of h a) (λ m. unless_refused (member_refusal m ∷ []) (Replies (answer m)))

-- The states of all ids, as `host_status` tells them.
abbrev pub states_told : HostState → MemberState → List StateOf
states_told h m =
    map (λ id. record { id = id; state = state_by m.watch.timing (bare (kept_at m.watch id)).run h.reading }) (range_with_len 1 h.config.layout.hosts)

-- The joined sessions by lockspace name, as `status` tells them.
abbrev pub sessions_told : HostState → List SessionOf
sessions_told h =
    map (λ m. record { lockspace = m.who.lockspace; id = m.who.id; generation = m.known.generation }) (filter (λ m. m.joined) h.members)

-- ---- kill programs

-- A `set_killpath`.
abbrev pub killpath_decision : HostState → ℕ → Decision
killpath_decision h p =
    unless_refused (process_refused h p
    ∷ choose (is_none (option_map (λ k. k.program) (find (λ k. k.process == p) h.programs)) && nat_le most_killpaths (length h.programs)) (LimitReached Killpaths)
    ∷ []) (Replies Done)

-- ---- all commands

-- What a command comes to.
unfoldable pub decision_of : HostState → Command → Decision
decision_of h (AddLockspace a) = add_decision h a
decision_of h (RemLockspace a) = leave_decision h a
decision_of h (InqLockspace a) = report_decision h a (λ m. Generation m.known.generation)
decision_of h (HostStatus a) = report_decision h a (λ m. Hosts (states_told h m))
decision_of h (Acquire r shared p persistent) = acquire_decision h r (Some p) shared false
decision_of h (TakeOver r shared p persistent) = take_over_decision h r p shared
decision_of h (RunProgram r shared path) = acquire_decision h r None shared true
decision_of h (Release r p) = holder_decision h r p (λ g. true) (λ m g. GivesUp m.who g)
decision_of h (ReleaseOrphan r) = orphan_decision h r None (λ g. true) [] (λ m g. GivesUp m.who g)
decision_of h (Convert r shared p) = convert_decision h r p (wanted_mode (Convert r shared p))
decision_of h (Request r lver how) = request_decision h r
decision_of h (GetLvb r p) = holder_decision h r p (λ g. true) (λ m g. GetsValue m.who (spot_of r))
decision_of h (SetLvb r p bytes) =
    holder_decision h r p (λ g. not (is_shared g.mode)) (λ m g. member_sets m (spot_of r) g (value_seq m (spot_of r) g.lver) bytes)
decision_of h (SetKillpath p path) = killpath_decision h p
decision_of h Status = Replies (Sessions (sessions_told h))
