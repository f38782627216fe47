-- What a command comes to by a member: the first of its refusals, or what is begun.
use Rattle.sl_due.specs.declared.decision.Decision.TheVariants.{GetsValue, GivesUp, Joins, Leaves, Replies, Requests, TakesOver}
use Rattle.sl_due.specs.declared.decision.Decision.{Decision}
use Rattle.sl_host_law.specs.Decisions.CommandDecisions.{busy_refused, held_of, holds_there, joined_refused, limit_refused, member_acquires, member_converts, member_named, member_refusal, member_sets, orphan_at, other_at, pending_refused, process_refused, serving_holding, value_seq}
use Rattle.sl_host_state.specs.KeptState.{HostState, MemberState}
use Rattle.sl_trace.specs.Leases.{spot_of}
use Rattle.sl_trace.specs.CountLimits.{most_lockspaces}
use Rattle.sl_trace.specs.Traces.{is_orphan, is_shared, no_process}
use Rattle.sl_trace.specs.declared.command.LockspaceArg.{LockspaceArg}
use Rattle.sl_trace.specs.declared.command.ResourceArg.{ResourceArg}
use Rattle.sl_trace.specs.declared.effects.Grant.{Grant}
use Rattle.sl_trace.specs.declared.effects.Mode.{Mode}
use Rattle.sl_trace.specs.declared.effects.Spot.{Spot}
use Rattle.sl_trace.specs.declared.reply.Limited.TheVariants.{Lockspaces, Seq as SeqLimit}
use Rattle.sl_trace.specs.declared.reply.Reply.TheVariants.{Busy, Limit as LimitReached, NoOrphan, NotHeld}
use Rattle.sl_trace.specs.declared.reply.Reply.{Reply}
use Rattle.sl_words.specs.Bounds.{is_number}
use Rattle.sl_words.specs.Words.{choose, same_truth}
use Rattle.std.specs.List.{list_any}
use Rattle.std.specs.Option.{option_map_or}
use Rattle.std.specs.Prelude.{Bool, List, None, Option, Some, [], false, filter, find, is_none, is_some, length, nat_le, not, option_and_then, option_map, sum_by, true, ℕ, ◌+◌, ◌∷◌}

-- The first refusal of these.
abbrev pub first_refusal : List (Option Reply) → Option Reply
first_refusal [] = None
first_refusal (r ∷ rs) = elim r [ Some why ↦ Some why | None ↦ first_refusal rs ]

-- A refusal, or else this.
abbrev pub refused_or : Option Reply → Decision → Decision
refused_or None d = d
refused_or (Some why) d = Replies why

-- ---- acquires

-- Leases of the joined ones of these members.
abbrev pub leases_in : List MemberState → ℕ
leases_in ms = sum_by (λ m. length m.leases) (filter (λ m. m.joined) ms)

-- The instance of the first shared one of these holdings, where a shared grant is asked for.
abbrev pub shared_beside : List Grant → Bool → Option ℕ
shared_beside held shared = elim shared [ false ↦ None | true ↦ option_map (λ g. g.lver) (find (λ g. is_shared g.mode) held) ]

-- An acquire by a member, of a process or, where none asks, for a program that is to be run.
abbrev pub acquire_in : HostState → MemberState → ResourceArg → Option ℕ → Bool → Decision
acquire_in h m r asking shared =
    refused_or
    (first_refusal (member_refusal m
    ∷ option_and_then (process_refused h) asking
    ∷ busy_refused h (spot_of r) asking shared
    ∷ pending_refused h (spot_of r)
    ∷ limit_refused h m (spot_of r) (is_none asking) ∷ [])) (member_acquires h m r shared)

-- ---- holders

-- The end of a holding, if there is one.
abbrev pub giving_up : MemberState → Option Grant → Decision
giving_up m o = option_map_or (λ g. GivesUp m.who g) o (Replies NotHeld)

-- A release by a member: its refusals in order, or the holding ends.
abbrev pub release_in : HostState → MemberState → ResourceArg → ℕ → Decision
release_in h m r p =
    refused_or
    (first_refusal (member_refusal m
    ∷ process_refused h p
    ∷ choose (not (is_some (serving_holding h m (spot_of r) p (λ g. true)))) NotHeld
    ∷ pending_refused h (spot_of r) ∷ [])) (giving_up m (serving_holding h m (spot_of r) p (λ g. true)))

-- A conversion by a member.
abbrev pub converting : MemberState → ResourceArg → Mode → Option Grant → Decision
converting m r mode o = option_map_or (member_converts m r mode) o (Replies NotHeld)

abbrev pub convert_in : HostState → MemberState → ResourceArg → ℕ → Mode → Decision
convert_in h m r p mode =
    refused_or
    (first_refusal (member_refusal m
    ∷ process_refused h p
    ∷ choose (not (is_some (serving_holding h m (spot_of r) p (λ g. true)))) NotHeld
    ∷ option_and_then (λ q. choose (not (is_shared mode)) (Busy q)) (other_at h (spot_of r) p)
    ∷ pending_refused h (spot_of r) ∷ [])) (converting m r mode (serving_holding h m (spot_of r) p (λ g. true)))

-- A request by a member: its refusals in order, or a request.
abbrev pub request_in : HostState → MemberState → ResourceArg → Decision
request_in h m r = refused_or (first_refusal (member_refusal m ∷ pending_refused h (spot_of r) ∷ [])) (Requests m.who r)

-- ---- orphans

-- The place of the orphan for the asking process, if there is one.
abbrev pub taking_over : MemberState → Option Grant → Decision
taking_over m o = option_map_or (λ g. TakesOver m.who g) o (Replies NoOrphan)

-- A take-over by a member.
abbrev pub take_over_in : HostState → MemberState → ResourceArg → ℕ → Bool → Decision
take_over_in h m r p shared =
    refused_or
    (first_refusal (member_refusal m
    ∷ process_refused h p
    ∷ choose (not (is_some (orphan_at h m (spot_of r) (λ g. same_truth shared (is_shared g.mode))))) NoOrphan
    ∷ option_map (λ q. Busy q) (holds_there h (spot_of r) p)
    ∷ pending_refused h (spot_of r) ∷ [])) (taking_over m (orphan_at h m (spot_of r) (λ g. same_truth shared (is_shared g.mode))))

-- The end of the orphan, if there is one.
abbrev pub releasing_orphan : MemberState → Option Grant → Decision
releasing_orphan m o = option_map_or (λ g. GivesUp m.who g) o (Replies NoOrphan)

-- The release of an orphan by a member.
abbrev pub release_orphan_in : HostState → MemberState → ResourceArg → Decision
release_orphan_in h m r =
    refused_or
    (first_refusal (member_refusal m
    ∷ choose (not (is_some (orphan_at h m (spot_of r) (λ g. true)))) NoOrphan
    ∷ pending_refused h (spot_of r) ∷ [])) (releasing_orphan m (orphan_at h m (spot_of r) (λ g. true)))

-- ---- values

-- The read of a value by a holder.
abbrev pub getting : MemberState → Spot → Option Grant → Decision
getting m at o = option_map_or (λ g. GetsValue m.who at) o (Replies NotHeld)

abbrev pub get_in : HostState → MemberState → ResourceArg → ℕ → Decision
get_in h m r p =
    refused_or
    (first_refusal (member_refusal m
    ∷ process_refused h p
    ∷ choose (not (is_some (serving_holding h m (spot_of r) p (λ g. true)))) NotHeld
    ∷ pending_refused h (spot_of r) ∷ [])) (getting m (spot_of r) (serving_holding h m (spot_of r) p (λ g. true)))

-- The write of a value by a holder.
abbrev pub setting : MemberState → Spot → Option Grant → List ℕ → Decision
setting m at o bytes = option_map_or (λ g. member_sets m at g (value_seq m at g.lver) bytes) o (Replies NotHeld)

abbrev pub set_in : HostState → MemberState → ResourceArg → ℕ → List ℕ → Decision
set_in h m r p bytes =
    refused_or
    (first_refusal (member_refusal m
    ∷ process_refused h p
    ∷ choose (not (is_some (serving_holding h m (spot_of r) p (λ g. not (is_shared g.mode))))) NotHeld
    ∷ pending_refused h (spot_of r) ∷ [])) (setting m (spot_of r) (serving_holding h m (spot_of r) p (λ g. not (is_shared g.mode))) bytes)

-- ---- lockspaces

-- An `add_lockspace`.
abbrev pub add_in : HostState → LockspaceArg → Decision
add_in h a =
    refused_or
    (first_refusal (joined_refused (member_named h a.name) ∷ choose (nat_le most_lockspaces (length h.members)) (LimitReached Lockspaces) ∷ []))
    (Joins h.born a)

-- A `rem_lockspace` by the member whose id and area it names.
abbrev pub leave_in : HostState → MemberState → Decision
leave_in h m =
    refused_or
    (first_refusal (member_refusal m
    ∷ choose (list_any is_orphan (held_of h m)) (Busy no_process)
    ∷ choose (not (is_number (m.known.seq + 1))) (LimitReached SeqLimit) ∷ [])) (Leaves m.who)

-- A command that only tells of a member.
abbrev pub report_in : MemberState → Reply → Decision
report_in m r = refused_or (member_refusal m) (Replies r)
