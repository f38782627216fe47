-- What a step asks of a session, and what answers it of its member.
use Rattle.sl_host_law.specs.Decisions.CommandDecisions.{held_of, held_on, is_active_member}
use Rattle.sl_due.specs.CarriedDelta.{begins_by_read}
use Rattle.sl_due.specs.CarriedLease.{held_otherwise}
use Rattle.sl_due.specs.DueRequests.{bits_due}
use Rattle.sl_due.specs.Steps.{Step, seen}
use Rattle.sl_host_state.specs.KeptState.{HostState, MemberState}
use Rattle.sl_host_state.specs.MadeEffects.{has_write_open}
use Rattle.sl_host_state.specs.HostStands.{Stands, bits_of, kept_job}
use Rattle.sl_host_state.specs.declared.kept_parts.JobState.{JobState}
use Rattle.sl_trace.specs.Jobs.{jobs_of_session, lockspace_named}
use Rattle.sl_trace.specs.Leases.{exclusive_on, has_shared_on, holdings_on, known, known_of, lease_calls, lease_spots, orphan_on, shared_on}
use Rattle.sl_sector.specs.declared.sector.Owner.{Owner}
use Rattle.sl_trace.specs.Sessions.{calls_of, has_open_write, holders_of, holdings_of, is_active, is_joined, is_leaving, is_recovering, last_renewal, me, open_calls_of, recovery_of}
use Rattle.sl_trace.specs.Sightings.{counts_over, evidence_in}
use Rattle.sl_trace.specs.Traces.{is_orphan, is_shared}
use Rattle.sl_trace.specs.declared.effects.Grant.{Grant}
use Rattle.sl_trace.specs.declared.effects.Mode.{Mode}
use Rattle.sl_trace.specs.declared.effects.Spot.{Spot}
use Rattle.sl_trace.specs.declared.input.Input.{Input}
use Rattle.sl_trace.specs.declared.reply.Evidence.{Evidence}
use Rattle.sl_trace.specs.declared.session.Begun.{Begun}
use Rattle.sl_words.specs.Orders.{rising}
use Rattle.sl_words.specs.Words.{is_empty, same_truth, some_is}
use Rattle.sl_watch.specs.Summaries.{bare, evidence_by}
use Rattle.sl_watch.specs.Watches.{kept_at}
use Rattle.std.specs.Int.{is_in_range}
use Rattle.std.specs.List.{list_any}
use Rattle.std.specs.Prelude.{Bool, List, None, Option, Some, bytes_eq, cond, false, filter, find, is_some, map, nat_lt, not, option_map, slice_get, true, ℕ, ◌&&◌, ◌==◌, ◌≡◌}

-- ---- of the member itself

-- The session as ballots name it.
abbrev pub me_in : MemberState → Owner
me_in m = record { id = m.who.id; generation = m.known.generation }

-- Joined and in recovery.
abbrev pub is_recovering_in : MemberState → Bool
is_recovering_in m = m.joined && is_some m.renewing.recovery

-- Joined and leaving.
abbrev pub is_leaving_in : MemberState → Bool
is_leaving_in m = m.joined && is_some m.leaving

-- Whether recovery began by the read that this step brings.
abbrev pub begins_by_read_in : HostState → Option Begun → Bool
begins_by_read_in h begun = some_is (λ b. b.kills_from == h.entries) begun

-- ---- what it has seen

-- Why generation g of id j counts as over, by what was seen of it.
abbrev pub evidence_seen : MemberState → ℕ → ℕ → Option Evidence
evidence_seen m j g = cond (is_in_range 1 m.watch.sizes.hosts j) (evidence_by m.watch.timing g (bare (kept_at m.watch j))) None

-- Whether it counts generation g of id j as over.
abbrev pub over_in : MemberState → ℕ → ℕ → Bool
over_in m j g =
    elim (is_some (evidence_seen m j g)) [ true ↦ true | false ↦ j == m.who.id && nat_lt g m.known.generation && m.joined ]

-- ---- its calls, holdings and jobs

-- Whether a call of the session is unanswered.
abbrev pub has_call_open : HostState → ℕ → Bool
has_call_open h number = list_any (λ c. c.session == number) h.unanswered

-- Of its holdings on an area the first shared one, the exclusive one, the orphan, and that of a process in the other mode.
abbrev pub shared_at : HostState → MemberState → Spot → Option Grant
shared_at h m at = find (λ g. is_shared g.mode) (held_on h m at)

abbrev pub exclusive_at : HostState → MemberState → Spot → Option Grant
exclusive_at h m at = find (λ g. not (is_shared g.mode)) (held_on h m at)

abbrev pub orphan_at : HostState → MemberState → Spot → Option Grant
orphan_at h m at = find is_orphan (held_on h m at)

abbrev pub otherwise_at : HostState → MemberState → Spot → ℕ → Mode → Option Grant
otherwise_at h m at p mode = find (λ g. g.process == p && not (same_truth (is_shared g.mode) (is_shared mode))) (held_on h m at)

-- The processes that hold under it, in rising order.
abbrev pub holders_in : HostState → MemberState → List ℕ
holders_in h m = rising (map (λ g. g.process) (filter (λ g. not (is_orphan g)) (held_of h m)))

-- The running jobs that name its lockspace, by their numbers.
abbrev pub jobs_in : HostState → MemberState → List JobState
jobs_in h m = filter (λ j. some_is (λ c. some_is (λ n. bytes_eq n m.who.lockspace) (lockspace_named c)) j.command) h.jobs

-- ---- the answers

-- The member stands at this place of a host that stands for the step.
pub record IsMemberAt (i : Input) (h : HostState) (x : Step) (k : ℕ) (m : MemberState) : Type 0 where
  pub stands : Stands i h x
  pub there : slice_get h.members k ≡ Some m

-- Each question of its session has this answer.
pub record MemberAnswers (h : HostState) (x : Step) (m : MemberState) : Type 0 where
  pub me : me (seen x) m.who ≡ me_in m
  pub joined : is_joined (seen x) m.who ≡ m.joined
  pub active : is_active x.setting (seen x) m.who ≡ is_active_member m
  pub recovering : is_recovering x.setting (seen x) m.who ≡ is_recovering_in m
  pub leaving : is_leaving x.setting (seen x) m.who ≡ is_leaving_in m
  pub renewal : last_renewal x.setting (seen x) m.who ≡ m.renewing.last
  pub recovery : recovery_of x.setting (seen x) m.who ≡ m.renewing.recovery
  pub by_read : begins_by_read (seen x) (recovery_of x.setting (seen x) m.who) ≡ begins_by_read_in h m.renewing.recovery
  pub bits : (now : ℕ) → bits_due x.setting (calls_of (seen x) m.who) now ≡ bits_of x.setting m.asked now
  pub evidence : (j g : ℕ) → evidence_in x.setting (calls_of (seen x) m.who) j g ≡ evidence_seen m j g
  pub over : (j g : ℕ) → counts_over x.setting (seen x) m.who j g ≡ over_in m j g
  pub idle : is_empty (open_calls_of (seen x) m.who) ≡ not (has_call_open h m.who.number)
  pub writes : has_open_write (seen x) m.who ≡ has_write_open h m.who.number
  pub holdings : holdings_of (seen x) m.who ≡ held_of h m
  pub held : (at : Spot) → holdings_on (seen x) m.who at ≡ held_on h m at
  pub shared : (at : Spot) → shared_on (seen x) m.who at ≡ shared_at h m at
  pub has_shared : (at : Spot) → has_shared_on (seen x) m.who at ≡ is_some (shared_at h m at)
  pub exclusive : (at : Spot) → exclusive_on (seen x) m.who at ≡ exclusive_at h m at
  pub orphan : (at : Spot) → orphan_on (seen x) m.who at ≡ orphan_at h m at
  pub otherwise : (at : Spot) (p : ℕ) (mode : Mode) → held_otherwise (seen x) m.who at p mode ≡ otherwise_at h m at p mode
  pub holders : holders_of (seen x) m.who ≡ holders_in h m
  pub jobs : map (kept_job (seen x)) (jobs_of_session x.setting (seen x) m.who) ≡ jobs_in h m
  pub spots : lease_spots x.setting (seen x) m.who ≡ map (λ l. l.spot) m.leases
  -- what is known of a lease, up to its calls: its own state answers for those
  pub lease : (at : Spot)
      → known x.setting (seen x) m.who at
      ≡ known_of h.config.layout m.who.lockspace (me_in m) (is_some (shared_at h m at)) (option_map (λ g. g.lver) (exclusive_at h m at)) (over_in m)
      (lease_calls x.setting (seen x) m.who at)

abbrev pub MembersAnswer : Type 0
MembersAnswer = (i : Input) (h : HostState) (x : Step) (k : ℕ) (m : MemberState) → IsMemberAt i h x k m → MemberAnswers h x m
