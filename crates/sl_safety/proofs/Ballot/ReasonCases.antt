-- Each reason that a session's trace has for beginning an instance is one that the history has.
use Rattle.sl_safety.proofs.Ballot.ReasonEvidence.{evidence_at, found_of_standing, sender_found}
use Rattle.sl_safety.proofs.Ballot.ReasonFronted.{Fronted, name_at_front}
use Rattle.sl_safety.proofs.Ballot.ReasonFronts.{counted_alike, ends_alike}
use Rattle.sl_safety.proofs.Ballot.ReasonLeaders.{LeaderSeen, Led, Unled}
use Rattle.sl_safety.proofs.Ballot.ReasonOwn.{own_seen_at}
use Rattle.sl_safety.proofs.Ballot.ReasonReads.{area_seen}
use Rattle.sl_safety.proofs.Ballot.ReasonWrites.{free_before, leader_submitted, owner_named}
use Rattle.sl_safety.specs.Ballot.Endings.{EndedBallotsEnd, HostsJoin, holder_as}
use Rattle.sl_ballot_law.specs.Ballots.{BeginReason, Begun, Freed_before, LeaderSubmitted, Leads_itself, Lost_before, Never_led, Owner_over}
use Rattle.sl_ballot_law.specs.History.{History, Owner as Holder}
use Rattle.sl_run_law.specs.Course.CallStamps.{stamp_in}
use Rattle.sl_run.specs.LawfulArea.{is_area_work}
use Rattle.sl_run.specs.LawfulBlock.{Block_above, Freed_before as Freed_in_trace, Leader_before, Leader_own, Lost_before as Lost_in_trace, Own_block, BeginReason as TraceReason}
use Rattle.sl_run.specs.LawForms.{cut_at}
use Rattle.sl_run_law.specs.Leases.CallFronts.{Submission}
use Rattle.sl_trace.specs.Ballots.{owner_of, same_owner}
use Rattle.sl_trace.specs.Leases.{ended_ballots, is_on, lease_calls, spot_of_call}
use Rattle.sl_words.proofs.Numbers.{refl_le}
use Rattle.sl_safety.proofs.Resources.BlockOrigins.{line_aligned, block_of_step}
use Rattle.sl_safety.proofs.Resources.StepsNameCalls.{block_at_step}
use Rattle.sl_safety.proofs.Resources.OwnBlocks.{works}
use Rattle.sl_safety.proofs.Resources.WritesHaveBases.{writes_at}
use Rattle.sl_safety.proofs.Resources.Phases.{holder_as as named_alike}
use Rattle.sl_safety.proofs.Resources.TraceReads.{IsWriter}
use Rattle.sl_safety.proofs.Resources.HistoryShows.{Never, Once, Seen}
use Rattle.sl_safety.proofs.Resources.CallParts.{Standing}
use Rattle.sl_safety.specs.Resources.HistoryLaws.{NamesDiffer, history_of_line, spot_of_line}
use Rattle.sl_safety.specs.Resources.SentCalls.{Sent, all_sent, block_of_course, holder_of, is_joined_there, sender_of, step_of}
use Rattle.sl_run.specs.Runs.{Happening}
use Rattle.sl_run.specs.Safety.{LawfulRun, world_at}
use Rattle.sl_run.specs.Worlds.{Program, World}
use Rattle.sl_run.specs.declared.header.Header.{Header}
use Rattle.sl_run.specs.declared.header.ResourceLine.{ResourceLine}
use Rattle.sl_sector.specs.declared.sector.Block.{Block}
use Rattle.sl_sector.specs.declared.sector.Leader.{Leader}
use Rattle.sl_sector.specs.declared.sector.Owner.{Owner}
use Rattle.sl_trace.specs.Sessions.{me}
use Rattle.sl_trace.specs.Sightings.{counted_over}
use Rattle.sl_trace.specs.Traces.{Setting, Trace}
use Rattle.sl_words.proofs.CaseLaws.{true_is_false}
use Rattle.sl_words.proofs.WordLaws.{and_true}
use Rattle.std.proofs.Common.{ap, arith, inl, inr, refl, subst, sym, ◌∙◌}
use Rattle.std.proofs.lemmas.Bool.{eqb-true}
use Rattle.std.specs.Prelude.{Bool, Contains, List, Some, false, is_some, length, true, ℕ, ◌+◌, ◌<◌, ◌==◌, ◌∷◌, ◌≡◌, ◌⊎◌}

-- ---- where a block is written

-- A block that is written on a resource's area, with its front.
pub record Writing (p : Program) (h : Header) (xs : List Happening) (r : ResourceLine) (x : Sent) (s : Standing (world_at p h xs) x) : Type 0 where
  pub run : LawfulRun p h xs
  pub there : Contains h.resources r
  pub differ : NamesDiffer (world_at p h xs) r.lockspace
  pub hosts : HostsJoin (world_at p h xs) r.lockspace
  pub has : Contains (all_sent (world_at p h xs)) x
  pub on : is_on (world_at p h xs).layout (spot_of_line r) x.course.call ≡ true
  pub block : Block
  pub wrote : block_of_course x.course ≡ Some block
  pub joined : is_joined_there (world_at p h xs) r.lockspace (sender_of x) ≡ true
  pub work : works x.course.call ≡ true
  pub area : is_area_work x.course.call.purpose ≡ true
  pub spot : spot_of_call s.daemon.setting.layout s.told.one ≡ spot_of_line r
  pub front : Submission s.daemon.trace s.told.one s.told.older
  pub fronted : Fronted (world_at p h xs) x s front

abbrev pub front_trace : {p : Program} {h : Header} {xs : List Happening} {r : ResourceLine} {x : Sent} {s : Standing (world_at p h xs) x} → Writing p h xs r x s → Trace
front_trace k = cut_at k.front.place k.front.entry ∷ k.front.past

abbrev pub Begins : (p : Program) (h : Header) (xs : List Happening) → ResourceLine → Sent → ℕ → Type 0
Begins p h xs r x n = BeginReason (history_of_line p h xs r) (holder_of (world_at p h xs) (sender_of x)) n (step_of x)

-- ---- blocks

none_less : (a n : ℕ) → a ≡ 0 → a ≡ n → 0 < n → ⊥
none_less a n p q h = omega (arith, p, q, h)

seen_begins : (p : Program) (h : Header) (xs : List Happening) (r : ResourceLine) (x : Sent) (s : Standing (world_at p h xs) x) → Writing p h xs r x s → (b : Block) (n : ℕ) → b.lver ≡ n → 0 < n
    → Seen (world_at p h xs) (spot_of_line r) b (step_of x) → Begins p h xs r x n
seen_begins p h xs r x s k b n is pos (Never fresh) = absurd (none_less b.lver n (ap (λ y. y.lver) fresh) is pos)
seen_begins p h xs r x s k b n is pos (Once z has on wrote less) =
    Begun (step_of z) (writes_at p h xs r (step_of z) z (block_at_step p h xs k.run r k.there z has on (ap (λ o. is_some o) wrote))) less
    (ap (λ y. y.lver) (block_of_step p h xs k.run r k.there z b has on wrote) ∙ is)

-- ---- leaders

-- A leader that was read, as the history has it.
data ReadLeader (h : History) (l : Leader) (e : ℕ) : Type 0 where
  None_led : l.lver ≡ 0 → l.held ≡ false → ReadLeader h l e
  Was_led : LeaderSubmitted h l.lver (owner_named l) l.held e → ReadLeader h l e

read_leader : (p : Program) (h : Header) (xs : List Happening) (r : ResourceLine) (x : Sent) (s : Standing (world_at p h xs) x) → Writing p h xs r x s → (l : Leader)
    → LeaderSeen (world_at p h xs) (spot_of_line r) l (step_of x) → ReadLeader (history_of_line p h xs r) l (step_of x)
read_leader p h xs r x s k l (Unled none) = None_led none.0 none.1
read_leader p h xs r x s k l (Led z has on wrote less) = Was_led (leader_submitted p h xs k.run r k.there z has on l wrote (step_of x) less)

one_is : (a n : ℕ) → a ≡ 0 → a + 1 ≡ n → n ≡ 1
one_is a n p q = omega (arith, p, q)

held_as : {h : History} {n : ℕ} {o : Holder} {e : ℕ} (a b : Bool) → a ≡ b → LeaderSubmitted h n o a e → LeaderSubmitted h n o b e
held_as {h} {n} {o} {e} a b same l = subst (λ c. LeaderSubmitted h n o c e) same l

before_by : (H : History) (s : Holder) (l : Leader) (n e : ℕ) → l.lver + 1 ≡ n → (b : Bool) → l.held ≡ b
    → (l.held ≡ false) ⊎ (H.evidence s (owner_named l) e ≡ true) → ReadLeader H l e → BeginReason H s n e
before_by H s l n e next b held why (None_led none free) = Never_led (one_is l.lver n none next)
before_by H s l n e next false held why (Was_led w) = Freed_before (owner_named l) l.lver next (held_as l.held false held w)
before_by H s l n e next true held (inl free) (Was_led w) = absurd (true_is_false (sym held ∙ free))
before_by H s l n e next true held (inr over) (Was_led w) = Owner_over (owner_named l) l.lver e next (held_as l.held true held w) over (refl_le e)

own_leader : (H : History) (s : Holder) (l : Leader) (n e : ℕ) → l.lver ≡ n → l.held ≡ true → owner_named l ≡ s → ReadLeader H l e → BeginReason H s n e
own_leader H s l n e is held own (None_led none free) = absurd (true_is_false (sym held ∙ free))
own_leader H s l n e is held own (Was_led w) =
    Leads_itself (subst (λ k. LeaderSubmitted H k s true e) is (subst (λ o. LeaderSubmitted H l.lver o true e) own (held_as l.held true held w)))

same_owner_named : (l : Leader) (o : Owner) → same_owner (owner_of l) o ≡ true → owner_named l ≡ holder_as o
same_owner_named l o h =
    let both = and_true (l.owner == o.id) (l.generation == o.generation) h in
    named_alike l.owner l.generation o.id o.generation (eqb-true l.owner o.id both.0) (eqb-true l.generation o.generation both.1)

-- ---- evidence and ends

over_at : (p : Program) (h : Header) (xs : List Happening) (r : ResourceLine) (x : Sent) (s : Standing (world_at p h xs) x) (k : Writing p h xs r x s) → (o : Holder)
    → counted_over s.daemon.setting (front_trace k) s.session o.id o.generation ≡ true
    → (history_of_line p h xs r).evidence (holder_of (world_at p h xs) (sender_of x)) o (step_of x) ≡ true
over_at p h xs r x s k o counted =
    evidence_at p h xs k.run r k.differ x s k.joined k.front.later k.front.past k.front.entry k.front.whole k.fronted.place o
    (counted_alike s.daemon.setting k.front.entry k.front.past s.session k.fronted.joined k.fronted.lawful k.fronted.its k.fronted.joins k.front.place o.id o.generation ∙ counted)

lost_by : EndedBallotsEnd → (p : Program) (h : Header) (xs : List Happening) (r : ResourceLine) (x : Sent) (s : Standing (world_at p h xs) x) (k : Writing p h xs r x s)
    → (n m : ℕ) (o : Owner) → Contains (ended_ballots s.daemon.setting.layout (lease_calls s.daemon.setting (front_trace k) s.session (spot_of_line r))) (m, o) → m + 1 ≡ n
    → counted_over s.daemon.setting (front_trace k) s.session o.id o.generation ≡ true → Begins p h xs r x n
lost_by ended_given p h xs r x s k n m o has next counted =
    let w : World = world_at p h xs in
    let st : Setting = s.daemon.setting in
    let now : Contains (ended_ballots st.layout (lease_calls st (k.front.entry ∷ k.front.past) s.session (spot_of_line r))) (m, o) =
    subst (λ es. Contains es (m, o)) (sym (ends_alike st k.front.entry k.front.past s.session (spot_of_line r) k.front.place)) has in
    Lost_before (holder_as o) m (step_of x) next
    (ended_given p h xs r k.run k.there k.differ k.hosts (sender_of x) (found_of_standing s) (sender_found w x s) k.joined k.front.entry k.front.past (step_of x)
    (record {
      later = k.front.later;
      whole = k.front.whole;
      stamp = x.course.made;
      stamped = subst (λ i. stamp_in s.daemon.stamps i ≡ Some x.course.made) k.fronted.place s.told.pair.made;
      step_is = refl;
    }) m o now)
    (over_at p h xs r x s k (holder_as o) counted) (refl_le (step_of x))

-- ---- case by case

writer_at : {p : Program} {h : Header} {xs : List Happening} {r : ResourceLine} {x : Sent} {s : Standing (world_at p h xs) x} → Writing p h xs r x s → IsWriter p h xs r x s
writer_at k = record { run = k.run; there = k.there; joined = k.joined; work = k.work; area = k.area; spot = k.spot }

pub reason_of : EndedBallotsEnd → (p : Program) (h : Header) (xs : List Happening) (r : ResourceLine) (x : Sent) (s : Standing (world_at p h xs) x) (k : Writing p h xs r x s) → (n : ℕ) → 0 < n
    → TraceReason s.daemon.setting (front_trace k) s.session (spot_of_line r) n → Begins p h xs r x n
reason_of ended_given p h xs r x s k n pos (Block_above a above b has is) =
    let v = area_seen p h xs r x s (writer_at k) (length k.front.past + 1) (front_trace k) k.front.before a in
    seen_begins p h xs r x s k b n is pos (v.blocks b has)
reason_of ended_given p h xs r x s k n pos (Own_block b known is begun) =
    seen_begins p h xs r x s k b n is pos
    (own_seen_at p h xs r x k.has s (writer_at k) k.on k.block k.wrote (length k.front.past + 1) (front_trace k) k.front.before b known)
reason_of ended_given p h xs r x s k n pos (Leader_before a next why) =
    let H : History = history_of_line p h xs r in
    let me_now : Holder = holder_of (world_at p h xs) (sender_of x) in
    let v = area_seen p h xs r x s (writer_at k) (length k.front.past + 1) (front_trace k) k.front.before a in
    before_by H me_now a.leader n (step_of x) next a.leader.held refl
    (elim why as (λ z. (a.leader.held ≡ false) ⊎ (H.evidence me_now (owner_named a.leader) (step_of x) ≡ true)) [
      | inl free ↦ inl free
      | inr over ↦ inr (over_at p h xs r x s k (owner_named a.leader) over)
    ]) (read_leader p h xs r x s k a.leader v.leader)
reason_of ended_given p h xs r x s k n pos (Leader_own a is held own) =
    let w : World = world_at p h xs in
    let v = area_seen p h xs r x s (writer_at k) (length k.front.past + 1) (front_trace k) k.front.before a in
    own_leader (history_of_line p h xs r) (holder_of w (sender_of x)) a.leader n (step_of x) is held
    (same_owner_named a.leader (me (front_trace k) s.session) own ∙ name_at_front w x s k.front k.fronted) (read_leader p h xs r x s k a.leader v.leader)
reason_of ended_given p h xs r x s k n pos (Freed_in_trace a above q has m is next) =
    let f = free_before p h xs k.run (spot_of_line r) (line_aligned p h xs k.run r k.there) x s k.on k.work k.area (length k.front.past + 1) (front_trace k) k.front.before q has m is in
    let l = leader_submitted p h xs k.run r k.there f.sent f.has f.on f.leader f.wrote (step_of x) f.less in
    Freed_before (owner_named f.leader) f.leader.lver (ap (λ i. i + 1) f.lver ∙ next) (held_as f.leader.held false f.free l)
reason_of ended_given p h xs r x s k n pos (Lost_in_trace o m has next counted) = lost_by ended_given p h xs r x s k n m o has next counted
