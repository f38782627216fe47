-- A settling makes one call, or none, and never writes the second phase: what is known of leases stays, and no lease comes or goes.
use Rattle.sl_area.specs.AreaSizes.{Layout, Sizes, layout_of}
use Rattle.sl_area.specs.AreaLayout.{leader_offset}
use Rattle.sl_area.specs.AreaRecords.{leader_record}
use Rattle.sl_host_law.proofs.Calls.MemberCalls.SpotsMore.{one_spot, spot_itself}
use Rattle.sl_host.proofs.AnswersTold.{the_member}
use Rattle.sl_host_law.proofs.Answers.PhaseTwoFollows.{within_cases}
use Rattle.sl_host_law.proofs.SharedFacts.PlainOrders.{put_inside}
use Rattle.sl_host_law.proofs.Steps.AreasLie.{placed}
use Rattle.sl_host_law.specs.Answers.LeaseDecisions.{block_at, carrying_lease, read_from, record_at, sectors_read, turn_next}
use Rattle.sl_host_law.specs.Answers.LeasesGoOn.{IsPlacedAt}
use Rattle.sl_host_law.specs.Decisions.CommandDecisions.{held_on, is_active_member}
use Rattle.sl_host_law.specs.StepParts.Signals.{over}
use Rattle.sl_host_law.specs.StepParts.Wakes.{is_free_at}
use Rattle.sl_host_law.specs.Questions.Answers.{place_in}
use Rattle.sl_host_law.specs.Questions.Members.{exclusive_at}
use Rattle.sl_host_law.specs.Steps.Leases.{kept_blocks, known_at, lease_at, settling_next}
use Rattle.sl_host_law.specs.Steps.Passes.{at_member, member_numbered}
use Rattle.sl_host_law.specs.Steps.WakePasses.{settling_all, settling_here}
use Rattle.sl_host_passes.proofs.LessIsLeft.{lease_in}
use Rattle.sl_host_passes.proofs.WakingLessens.{top_stays}
use Rattle.sl_host_passes.specs.PassesLessen.{SameLeases, leases_at}
use Rattle.sl_host_passes.specs.PassPremises.{AreAreas, AreKnown, HasLeases, WakeKnown, spots_of}
use Rattle.sl_host_state.specs.KeptState.{HostKept, HostState, LeaseState, MemberState}
use Rattle.sl_host_state.specs.MadeEffects.{ballot_calling, is_lease_on, joining_calling, known_calling, lease_calling, leases_calling, leases_working, member_calling, new_lease, next_submitted, with_call}
use Rattle.sl_host_work.proofs.NextLaws.{settles_named}
use Rattle.sl_host_work.specs.LeaseQuestions.{IsOwned}
use Rattle.sl_host_work.specs.NextDecisions.{writes_own_block}
use Rattle.sl_host_work.specs.SectorPlaces.{IsArea, IsPlaced}
use Rattle.sl_host_work.specs.TimedWork.{MaySettle}
use Rattle.sl_lease.specs.LeaseQuestions.{TopStands}
use Rattle.sl_lease.specs.Bounds.{IsInstance}
use Rattle.sl_lease.specs.Side.{is_named}
use Rattle.sl_trace.specs.Ballots.{moded_block, phase1_block}
use Rattle.sl_trace.specs.LeaseDecisions.{LeasePlace, begin_next, owes_block, phase1_next, settle_begin, settle_next, settle_owed, within_turn}
use Rattle.sl_trace.specs.Leases.{LeaseKnown, Phase2_write, block_of_record, block_written, is_at, is_spot_before, kind_of_step, mode_gen_of, owed, own_known, same_kind, spot_of_call}
use Rattle.sl_trace.specs.declared.lease.Aim.TheVariants.{Settles}
use Rattle.sl_trace.specs.declared.lease.LeaseNext.TheVariants.{AnswerJob, BecomeExclusive, BecomeShared, GrantJob, Nothing, ReadFor, WriteBlock, WriteLeader}
use Rattle.sl_trace.specs.declared.lease.LeaseNext.{LeaseNext}
use Rattle.sl_trace.specs.declared.lease.Owed.TheVariants.{BallotOwed, FreeOwed, ModeOwed}
use Rattle.sl_trace.specs.declared.lease.Owed.{Owed}
use Rattle.sl_member.specs.HostMembers.{AreApart, member_with}
use Rattle.sl_words.proofs.Lists.{any_of, contains_cases, contains_first, contains_map, contains_none, find_inside, in_map, kept_inside}
use Rattle.sl_sector.specs.declared.sector.Block.{Block}
use Rattle.sl_sector.specs.declared.sector.Leader.{Leader}
use Rattle.sl_sector.specs.declared.sector.Rec.TheVariants.{LeaderIs, PairLeaderIs}
use Rattle.sl_sector.specs.declared.sector.Rec.{Rec}
use Rattle.sl_trace.specs.declared.session.Session.{Session}
use Rattle.sl_trace.specs.Traces.{Submitted, is_shared, record_of, same_place, same_spot}
use Rattle.sl_trace.specs.declared.effects.Grant.{Grant}
use Rattle.sl_trace.specs.declared.effects.LeaseStep.TheVariants.{ClearMode, FreeLeader, Phase1Write, ReadBeforeBlock}
use Rattle.sl_trace.specs.declared.effects.LeaseStep.{LeaseStep}
use Rattle.sl_trace.specs.declared.effects.Op.TheVariants.{ReadSectors, WriteRecord}
use Rattle.sl_trace.specs.declared.effects.Op.{Op}
use Rattle.sl_trace.specs.declared.effects.Purpose.TheVariants.{Lease}
use Rattle.sl_trace.specs.declared.effects.Spot.{Spot}
use Rattle.sl_trace.specs.declared.effects.Work.TheVariants.{Settling}
use Rattle.sl_host.specs.BookQuestions.{state_in}
use Rattle.sl_host.specs.Host.{Becomes, HostView}
use Rattle.sl_words.proofs.CaseLaws.{none_some, not_both, some_value, false_is_true, true_is_false}
use Rattle.sl_words.proofs.WordLaws.{and_true}
use Rattle.sl_words.specs.Bounds.{is_number}
use Rattle.sl_words.specs.Orders.{put_in}
use Rattle.sl_words.specs.Words.{choose, present}
use Rattle.std.proofs.Common.{ap, arith, inl, inr, refl, subst, sym, ◌∙◌}
use Rattle.std.proofs.lemmas.Bool.{eqb-true}
use Rattle.std.proofs.lemmas.List.{length-map}
use Rattle.std.specs.List.{list_any}
use Rattle.std.specs.Option.{option_map_or, option_or}
use Rattle.std.specs.Prelude.{Bool, Contains, Err, IfSome, IsTrue, List, None, Option, Some, [], cond, false, filter, find, is_none, is_some, length, map, nat_lt, not, option_and_then, option_map, true, unwrap_or, ℕ, ◌%◌, ◌&&◌, ◌-◌, ◌==◌, ◌^◌, ◌∷◌, ◌≡◌, ◌≤◌, ◌⊎◌}

-- ---- what a settling decides

-- No step of it writes the second phase.
abbrev is_second : LeaseStep → Bool
is_second step = same_kind (kind_of_step step) Phase2_write

abbrev IsNotSecond : LeaseNext → Type 0
IsNotSecond (ReadFor step) = is_second step ≡ false
IsNotSecond (WriteBlock step b) = is_second step ≡ false
IsNotSecond (WriteLeader step l) = is_second step ≡ false
IsNotSecond next = Unit {0}

first : (b : Block) → IsNotSecond (phase1_next Settles b)
first b = by (is_number b.lver) (is_number b.mbal) where
  by : (u v : Bool) → IsNotSecond (elim u as (λ z. LeaseNext) [ false ↦ Nothing | true ↦ elim v as (λ z. LeaseNext) [ false ↦ Nothing | true ↦ WriteBlock Phase1Write b ] ])
  by false v = tt
  by true false = tt
  by true true = refl

begins : (p : LeasePlace) (k : LeaseKnown) (n : ℕ) → IsNotSecond (begin_next p k Settles n)
unfolding begin_next
begins p k n = by (own_known k) where
  by : (o : Option Block) → IsNotSecond (elim o as (λ z. LeaseNext) [ None ↦ Nothing | Some own ↦ phase1_next Settles (phase1_block k.self p.layout.hosts n k.shared (mode_gen_of k) own (present k.read)) ])
  by None = tt
  by (Some own) = first (phase1_block k.self p.layout.hosts n k.shared (mode_gen_of k) own (present k.read))

clears : (o : Option Block) → IsNotSecond (option_map_or (λ own. WriteBlock ClearMode (moded_block own false 0)) o Nothing)
clears None = tt
clears (Some own) = refl

owes : (p : LeasePlace) (k : LeaseKnown) (o : Option Owed) → IsNotSecond (settle_owed p k o)
owes p k None = tt
owes p k (Some (BallotOwed n)) = begins p k n
owes p k (Some ModeOwed) = clears k.own
owes p k (Some (FreeOwed n)) = refl

goes_first : (p : LeasePlace) (k : LeaseKnown) → IsNotSecond (settle_next p k)
unfolding settle_next
goes_first p k = owes p k (owed k)

begun_so : (p : LeasePlace) (k : LeaseKnown) → IsNotSecond (settle_begin p k)
unfolding settle_begin
begun_so p k = by (p.layout.paired && owes_block (owed k)) where
  by : (b : Bool) → IsNotSecond (elim b as (λ z. LeaseNext) [ true ↦ ReadFor ReadBeforeBlock | false ↦ settle_next p k ])
  by true = refl
  by false = goes_first p k

not_second : (p : LeasePlace) (k : LeaseKnown) → IsNotSecond (within_turn p k Settles (settle_begin p k))
not_second p k = within_cases IsNotSecond p k Settles (settle_begin p k) (begun_so p k) (λ r late. tt)

-- Whether it writes a block.
abbrev is_block_op : Op → Bool
is_block_op op = is_some (option_and_then block_of_record (record_of op))

-- A leader's record is none.
leader_no_block : (g : Layout) (l : Leader) → is_block_op (WriteRecord (leader_record g l)) ≡ false
leader_no_block g l = by g.paired where
  by : (b : Bool) → is_some (option_and_then block_of_record (Some (elim b as (λ z. Rec) [ false ↦ LeaderIs l | true ↦ PairLeaderIs l ]))) ≡ false
  by true = refl
  by false = refl

-- What it does is a call on the area, or nothing; where it writes a block, that was decided so.
by_calls : (P : HostState → Type 0) (M : Type 0) (m : MemberState) (at : Spot) (next : LeaseNext) (h : HostState) → IsNotSecond next → (writes_own_block next ≡ true → M) → IsPlacedAt h m at → P h
    → ((step : LeaseStep) (offset : ℕ) (op : Op) → is_second step ≡ false → offset - offset % h.config.layout.area ≡ at.base → (is_block_op op ≡ true → M)
    → P (with_call m.who.number at.path (Lease Settling step) offset op h)) → P (carrying_lease m at Settling next h)
by_calls P M m at Nothing h other may lies p calls = p
by_calls P M m at (ReadFor step) h other may lies p calls =
    calls step (read_from h at step) (ReadSectors (sectors_read h step)) other (lies.reads step) (λ writes. absurd (false_is_true writes))
by_calls P M m at (WriteBlock step b) h other may lies p calls = calls step (block_at h m at) (WriteRecord (record_at h m at b)) other (lies.block (turn_next m at)) (λ writes. may refl)
by_calls P M m at (WriteLeader step l) h other may lies p calls =
    calls step (leader_offset at.base) (WriteRecord (leader_record h.config.layout l)) other lies.leader (λ writes. absurd (not_both (is_block_op (WriteRecord (leader_record h.config.layout l))) writes (leader_no_block h.config.layout l)))
by_calls P M m at (AnswerJob r) h other may lies p calls = p
by_calls P M m at (GrantJob mode lver) h other may lies p calls = p
by_calls P M m at (BecomeShared lver l) h other may lies p calls =
    calls FreeLeader (leader_offset at.base) (WriteRecord (leader_record h.config.layout l)) refl lies.leader
    (λ writes. absurd (not_both (is_block_op (WriteRecord (leader_record h.config.layout l))) writes (leader_no_block h.config.layout l)))
by_calls P M m at (BecomeExclusive lver b) h other may lies p calls = calls ClearMode (block_at h m at) (WriteRecord (record_at h m at b)) refl (lies.block (turn_next m at)) (λ writes. may refl)

-- ---- leases after such a call

-- A lease comes from one of these, or is new, on this area.
abbrev pub IsOfOld : List LeaseState → LeaseState → Type 0
IsOfOld ls l = (o : LeaseState) × Contains ls o × (l.spot ≡ o.spot) × (l.top ≡ o.top) × ((n : ℕ) → l.ballot ≡ Some n → o.ballot ≡ Some n)

abbrev pub IsNew : Spot → LeaseState → Type 0
IsNew at l = (l.spot ≡ at) × (l.top ≡ None) × (l.ballot ≡ None)

ballot_of : (c : Submitted) (before : Option ℕ) (n : ℕ) → is_at Phase2_write c ≡ false → ballot_calling c before ≡ Some n → before ≡ Some n
ballot_of c before n other is = by (block_written c) is where
  chosen : (b : Block) (k : ℕ) (t : Bool) → choose t k ≡ Some n → Some k ≡ Some n
  chosen b k true at = at
  chosen b k false at = absurd (none_some n at)

  same : (b : Block) (o : Option ℕ) → option_and_then (λ k. choose (b.lver == k) k) o ≡ Some n → o ≡ Some n
  same b None at = at
  same b (Some k) at = chosen b k (b.lver == k) at

  test : (b : Block) (t : Bool) → t ≡ false → (elim t as (λ z. Option ℕ) [ true ↦ Some b.lver | false ↦ option_and_then (λ k. choose (b.lver == k) k) before ]) ≡ Some n → before ≡ Some n
  test b true never at = absurd (true_is_false never)
  test b false never at = same b before at

  by : (o : Option Block)
      → elim o as (λ z. Option ℕ) [
        | None ↦ before
        | Some b ↦ elim (is_at Phase2_write c) as (λ z. Option ℕ) [ true ↦ Some b.lver | false ↦ option_and_then (λ k. choose (b.lver == k) k) before ]
      ] ≡ Some n → before ≡ Some n
  by None at = at
  by (Some b) at = test b (is_at Phase2_write c) other at

none_of : (o : Option ℕ) → ((n : ℕ) → o ≡ Some n → ⊥) → o ≡ None
none_of None never = refl
none_of (Some n) never = absurd (never n refl)

module _ (c : Submitted) (at : Spot) (other : is_at Phase2_write c ≡ false) where
  called : LeaseState → LeaseState
  called l = cond (is_lease_on at l) (lease_calling c l) l

  called_of : (ls : List LeaseState) (o : LeaseState) → Contains ls o → (b : Bool) → IsOfOld ls (cond b (lease_calling c o) o)
  called_of ls o there true = (o, there, refl, refl, λ n is. ballot_of c o.ballot n other is)
  called_of ls o there false = (o, there, refl, refl, λ n is. is)

  worked : (ls : List LeaseState) (l : LeaseState) → Contains (leases_working at c ls) l → IsOfOld ls l ⊎ IsNew at l
  worked ls l there = by (list_any (is_lease_on at) ls) there where
    by : (b : Bool)
        → Contains (cond b (map (λ l. cond (is_lease_on at l) (lease_calling c l) l) ls) (put_in (λ a b. is_spot_before a.spot b.spot) (lease_calling c (new_lease at)) ls)) l → IsOfOld ls l ⊎ IsNew at l
    by true its =
        let from = in_map (λ (l : LeaseState). cond (is_lease_on at l) (lease_calling c l) l) ls l its in
        inl (subst (IsOfOld ls) from.2 (called_of ls from.0 from.1 (is_lease_on at from.0)))
    by false its =
        elim (put_inside (λ a b. is_spot_before a.spot b.spot) (lease_calling c (new_lease at)) ls l its) [
          | inl is ↦ inr (subst (IsNew at) is (refl, refl, none_of (ballot_calling c None) (λ n one. none_some n (ballot_of c None n other one))))
          | inr old ↦ inl (l, old, refl, refl, λ n one. one)
        ]

-- Whoever has written a block has verified its resource's name, after the call as before.
owned_after : (c : Submitted) (l : LeaseState) → (is_some (block_written c) ≡ true → IsTrue (is_named l)) → IsOwned l → IsOwned (lease_calling c l)
owned_after c l writes its = by (block_written c) refl where
  over_block : Option Block → Option ℕ
  over_block o =
      elim o as (λ z. Option ℕ) [
        | None ↦ l.ballot
        | Some b ↦ elim (is_at Phase2_write c) as (λ z. Option ℕ) [ true ↦ Some b.lver | false ↦ option_and_then (λ n. choose (b.lver == n) n) l.ballot ]
      ]

  by : (o : Option Block) → block_written c ≡ o → IsOwned (lease_calling c l)
  by None is =
      record {
        named = λ own. its.named (sym (ap (λ w. is_some (option_or w l.own)) is) ∙ own);
        opened = λ begun. ap (λ w. is_some (option_or w l.own)) is ∙ its.opened (sym (ap (λ w. is_some (over_block w)) is) ∙ begun);
      }
  by (Some b) is = record { named = λ own. writes (ap (λ w. is_some w) is); opened = λ begun. ap (λ w. is_some (option_or w l.own)) is }

found_mapped : (b : Spot) (f : LeaseState → LeaseState) → ((l : LeaseState) → (f l).spot ≡ l.spot) → (ls : List LeaseState) → find (is_lease_on b) (map f ls) ≡ option_map f (find (is_lease_on b) ls)
found_mapped b f stays [] = refl
found_mapped b f stays (l ∷ ls) = ap (λ s. cond (same_spot b s) (Some (f l)) (find (is_lease_on b) (map f ls))) (stays l) ∙ by (is_lease_on b l) (found_mapped b f stays ls) where
  by : (t : Bool) → find (is_lease_on b) (map f ls) ≡ option_map f (find (is_lease_on b) ls) → cond t (Some (f l)) (find (is_lease_on b) (map f ls)) ≡ option_map f (cond t (Some l) (find (is_lease_on b) ls))
  by true rest = refl
  by false rest = rest

-- So it is of the lease on each area, where the call is on the area of a lease that is there.
owned_called : (c : Submitted) (at b : Spot) (ls : List LeaseState) → (is_some (block_written c) ≡ true → IsTrue (is_named (lease_in at ls))) → IsOwned (lease_in b ls)
    → IsOwned (lease_in b (map (λ l. cond (is_lease_on at l) (lease_calling c l) l) ls))
owned_called c at b ls writes its =
    subst (λ (o : Option LeaseState). IsOwned (unwrap_or o (new_lease b))) (sym (found_mapped b called stays ls)) (by (find (is_lease_on b) ls) refl) where
      called : LeaseState → LeaseState
      called l = cond (is_lease_on at l) (lease_calling c l) l

      stays : (l : LeaseState) → (called l).spot ≡ l.spot
      stays l = one (is_lease_on at l) where
        one : (t : Bool) → (cond t (lease_calling c l) l).spot ≡ l.spot
        one true = refl
        one false = refl

      by : (o : Option LeaseState) → find (is_lease_on b) ls ≡ o → IsOwned (unwrap_or (option_map called o) (new_lease b))
      by None is = subst (λ (o : Option LeaseState). IsOwned (unwrap_or o (new_lease b))) is its
      by (Some l) is = on (is_lease_on at l) refl where
        old : IsOwned l
        old = subst (λ (o : Option LeaseState). IsOwned (unwrap_or o (new_lease b))) is its

        on : (t : Bool) → is_lease_on at l ≡ t → IsOwned (cond t (lease_calling c l) l)
        on false off = old
        on true here =
            let same : at ≡ b = one_spot at l.spot here ∙ sym (one_spot b l.spot (find_inside (is_lease_on b) ls l is).1) in
            owned_after c l (λ w. subst (λ (o : Option LeaseState). IsTrue (is_named (unwrap_or o (new_lease at)))) (ap (λ s. find (is_lease_on s) ls) same ∙ is) (writes w)) old

-- ---- members after such a call

find_mapped : (f : MemberState → MemberState) → ((m : MemberState) → (f m).who ≡ m.who) → (n : ℕ) (ms : List MemberState) → member_with n (map f ms) ≡ option_map f (member_with n ms)
find_mapped f same n [] = refl
find_mapped f same n (m ∷ ms) =
    ap (λ (s : Session). cond (s.number == n) (Some (f m)) (member_with n (map f ms))) (same m) ∙ by (m.who.number == n) (find_mapped f same n ms) where
      by : (b : Bool) → member_with n (map f ms) ≡ option_map f (member_with n ms) → cond b (Some (f m)) (member_with n (map f ms)) ≡ option_map f (cond b (Some m) (member_with n ms))
      by true rest = refl
      by false rest = rest

-- What a settling makes of the members: those of before, joined as before; a lease on this area may be new; the one of this number has as many
-- leases, on the areas of before.
pub record IsSettled (at : Spot) (n : ℕ) (h g : HostState) : Type 0 where
  pub holdings : g.holdings ≡ h.holdings
  pub members : (m : MemberState) → Contains g.members m → (o : MemberState) × Contains h.members o × (m.who ≡ o.who) × ((l : LeaseState) → Contains m.leases l → IsOfOld o.leases l ⊎ IsNew at l)
  pub found : (k : ℕ) (m : MemberState) → member_with k g.members ≡ Some m
      → (o : MemberState) × (member_with k h.members ≡ Some o) × (m.joined ≡ o.joined) × (map (λ l. l.spot) m.leases ≡ map (λ l. l.spot) o.leases)
  pub none : (k : ℕ) → member_with k g.members ≡ None → member_with k h.members ≡ None
  pub numbers : map (λ m. m.who.number) g.members ≡ map (λ m. m.who.number) h.members
  pub owned : ((m : MemberState) (b : Spot) → Contains h.members m → IsOwned (lease_at m b)) → (m : MemberState) (b : Spot) → Contains g.members m → IsOwned (lease_at m b)

settled_not : (at : Spot) (n : ℕ) (h : HostState) → IsSettled at n h h
settled_not at n h =
    record {
      holdings = refl;
      members = λ m there. (m, there, refl, λ l its. inl (l, its, refl, refl, λ k is. is));
      found = λ k m is. (m, is, refl, refl);
      none = λ k is. is;
      numbers = refl;
      owned = λ its. its;
    }

-- By a call on the area of a lease of it.
module _ (h : HostState) (m : MemberState) (at : Spot) (step : LeaseStep) (offset : ℕ) (op : Op) (n : ℕ) (its : m.who.number ≡ n) (second : is_second step ≡ false)
    (lies : offset - offset % h.config.layout.area ≡ at.base) (has : HasLeases n (at ∷ []) h.members)
    (apart : AreApart (map (λ s. s.who.number) h.members)) (found_it : member_with n h.members ≡ Some m) (writes : is_block_op op ≡ true → IsTrue (is_named (lease_at m at))) where
  abbrev call : Submitted
  call = next_submitted h m.who.number at.path (Lease Settling step) offset op

  abbrev after : MemberState → MemberState
  after o = member_calling h.config.layout call o

  on_spot : spot_of_call h.config.layout call ≡ at
  on_spot = ap (λ b. record { path = at.path; base = b }) lies

  other : is_at Phase2_write call ≡ false
  other = second

  leases_are : (ls : List LeaseState) → leases_calling h.config.layout call ls ≡ leases_working at call ls
  leases_are ls = ap (λ s. leases_working s call ls) on_spot

  same_who : (o : MemberState) → (after o).who ≡ o.who
  same_who o = by (m.who.number == o.who.number) where
    by : (b : Bool) → (cond b (record o { known = known_calling call o.known; joining = joining_calling call o.joining; leases = leases_calling h.config.layout call o.leases }) o).who ≡ o.who
    by true = refl
    by false = refl

  same_joined : (o : MemberState) → (after o).joined ≡ o.joined
  same_joined o = by (m.who.number == o.who.number) where
    by : (b : Bool) → (cond b (record o { known = known_calling call o.known; joining = joining_calling call o.joining; leases = leases_calling h.config.layout call o.leases }) o).joined ≡ o.joined
    by true = refl
    by false = refl

  of_leases : (o : MemberState) (l : LeaseState) → Contains (after o).leases l → IsOfOld o.leases l ⊎ IsNew at l
  of_leases o l there = by (m.who.number == o.who.number) there where
    by : (b : Bool)
        → Contains (cond b (record o { known = known_calling call o.known; joining = joining_calling call o.joining; leases = leases_calling h.config.layout call o.leases }) o).leases l
        → IsOfOld o.leases l ⊎ IsNew at l
    by true its = worked call at other o.leases l (subst (λ ls. Contains ls l) (leases_are o.leases) its)
    by false its = inl (l, its, refl, refl, λ k is. is)

  spots_worked : (ls : List LeaseState) → list_any (is_lease_on at) ls ≡ true → map (λ l. l.spot) (leases_working at call ls) ≡ map (λ l. l.spot) ls
  spots_worked ls on =
      ap (λ b. map (λ (l : LeaseState). l.spot) (cond b (map (λ l. cond (is_lease_on at l) (lease_calling call l) l) ls) (put_in (λ a b. is_spot_before a.spot b.spot) (lease_calling call (new_lease at)) ls))) on
      ∙ all ls where
        one : (l : LeaseState) (b : Bool) → (cond b (lease_calling call l) l).spot ≡ l.spot
        one l true = refl
        one l false = refl

        all : (ls : List LeaseState) → map (λ (l : LeaseState). l.spot) (map (λ l. cond (is_lease_on at l) (lease_calling call l) l) ls) ≡ map (λ (l : LeaseState). l.spot) ls
        all [] = refl
        all (l ∷ ls) = (λ i. one l (is_lease_on at l) i ∷ all ls i)

  on_it : (o : MemberState) → member_with n h.members ≡ Some o → list_any (is_lease_on at) o.leases ≡ true
  on_it o found =
      let spot = in_map (λ (l : LeaseState). l.spot) o.leases at (has o at found (contains_first at [])).1 in
      any_of (is_lease_on at) o.leases spot.0 (subst (λ s. same_spot at s ≡ true) (sym spot.2) (spot_itself at)) spot.1

  same_spots : (k : ℕ) (o : MemberState) → member_with k h.members ≡ Some o → map (λ l. l.spot) (after o).leases ≡ map (λ l. l.spot) o.leases
  same_spots k o found = by (m.who.number == o.who.number) refl where
    by : (b : Bool) → (m.who.number == o.who.number) ≡ b
        → map (λ l. l.spot) (cond b (record o { known = known_calling call o.known; joining = joining_calling call o.joining; leases = leases_calling h.config.layout call o.leases }) o).leases
        ≡ map (λ l. l.spot) o.leases
    by true is =
        let same : k ≡ n = sym (eqb-true o.who.number k (find_inside (λ (s : MemberState). s.who.number == k) h.members o found).1) ∙ (sym (eqb-true m.who.number o.who.number is) ∙ its) in
        ap (λ ls. map (λ (l : LeaseState). l.spot) ls) (leases_are o.leases) ∙ spots_worked o.leases (on_it o (subst (λ j. member_with j h.members ≡ Some o) same found))
    by false is = refl

  looked : (k : ℕ) → member_with k (map after h.members) ≡ option_map after (member_with k h.members)
  looked k = find_mapped after same_who k h.members

  was_there : (k : ℕ) (s : MemberState) (o : Option MemberState) → member_with k h.members ≡ o → option_map after o ≡ Some s
      → (z : MemberState) × (member_with k h.members ≡ Some z) × (s.joined ≡ z.joined) × (map (λ l. l.spot) s.leases ≡ map (λ l. l.spot) z.leases)
  was_there k s None is some = absurd (none_some s some)
  was_there k s (Some z) is some =
      let same : after z ≡ s = some_value (after z) s some in
      (z, is, ap (λ (y : MemberState). y.joined) (sym same) ∙ same_joined z, ap (λ (y : MemberState). map (λ (l : LeaseState). l.spot) y.leases) (sym same) ∙ same_spots k z is)

  was_none : (o : Option MemberState) → option_map after o ≡ None → o ≡ None
  was_none None none = refl
  was_none (Some z) none = absurd (none_some (after z) (sym none))

  -- Of the members the one that makes the call has this number alone.
  owned_by : ((o : MemberState) (b : Spot) → Contains h.members o → IsOwned (lease_at o b)) → (o : MemberState) → Contains h.members o → (b : Spot) → IsOwned (lease_at (after o) b)
  owned_by known o there b = by (m.who.number == o.who.number) refl where
    by : (t : Bool) → (m.who.number == o.who.number) ≡ t
        → IsOwned (lease_at (cond t (record o { known = known_calling call o.known; joining = joining_calling call o.joining; leases = leases_calling h.config.layout call o.leases }) o) b)
    by false is = known o b there
    by true is =
        let mine : (n == o.who.number) ≡ true = ap (λ k. k == o.who.number) (sym its) ∙ is in
        let found : member_with n h.members ≡ Some o = the_member n h.members o apart there mine in
        let one : m ≡ o = some_value m o (sym found_it ∙ found) in
        subst (λ ls. IsOwned (lease_in b ls)) (sym (leases_are o.leases ∙ ap (λ t. cond t (map (λ l. cond (is_lease_on at l) (lease_calling call l) l) o.leases)
        (put_in (λ a b. is_spot_before a.spot b.spot) (lease_calling call (new_lease at)) o.leases)) (on_it o found)))
        (owned_called call at b o.leases (λ w. subst (λ (z : MemberState). IsTrue (is_named (lease_at z at))) one (writes w)) (known o b there))

  settled_by_call : IsSettled at n h (with_call m.who.number at.path (Lease Settling step) offset op h)
  settled_by_call =
      record {
        holdings = refl;
        members = λ s there. (let from = in_map after h.members s there in
            (from.0, from.1, ap (λ (y : MemberState). y.who) (sym from.2) ∙ same_who from.0, λ l its. of_leases from.0 l (subst (λ (y : MemberState). Contains y.leases l) (sym from.2) its)));
        found = λ k s is. was_there k s (member_with k h.members) refl (sym (looked k) ∙ is);
        none = λ k is. was_none (member_with k h.members) (sym (looked k) ∙ is);
        numbers = numbers_of h.members;
        owned = λ known s b there. (let from = in_map after h.members s there in subst (λ (y : MemberState). IsOwned (lease_at y b)) from.2 (owned_by known from.0 from.1 b));
      } where
        numbers_of : (ms : List MemberState) → map (λ (s : MemberState). s.who.number) (map after ms) ≡ map (λ (s : MemberState). s.who.number) ms
        numbers_of [] = refl
        numbers_of (o ∷ os) = (λ i. (let w : Session = same_who o i in w.number) ∷ numbers_of os i)

-- ---- a settling

pub settled : (n : ℕ) (at : Spot) (h : HostState) → ((m : MemberState) → member_with n h.members ≡ Some m → IsPlacedAt h m at) → HasLeases n (at ∷ []) h.members
    → AreApart (map (λ s. s.who.number) h.members) → ((m : MemberState) → member_with n h.members ≡ Some m → IsOwned (lease_at m at)) → IsSettled at n h (at_member n (settling_here at) h)
settled n at h lies has apart own = by (member_numbered h n) refl where
  free : (m : MemberState) → member_with n h.members ≡ Some m → (b : Bool) → IsSettled at n h (cond b (carrying_lease m at Settling (settling_next h m at) h) h)
  free m found false = settled_not at n h
  free m found true =
      by_calls (IsSettled at n h) (IsTrue (is_named (lease_at m at))) m at (settling_next h m at) h (not_second (place_in h m) (known_at h m at))
      (settles_named (place_in h m) (known_at h m at) (IsTrue (is_named (lease_at m at))) (own m found).named (own m found).opened) (lies m found) (settled_not at n h)
      (λ step offset op second on writes. settled_by_call h m at step offset op n (eqb-true m.who.number n (find_inside (λ (s : MemberState). s.who.number == n) h.members m found).1) second on has
      apart found writes)

  by : (o : Option MemberState) → member_numbered h n ≡ o → IsSettled at n h (elim o as (λ z. HostState) [ None ↦ h | Some m ↦ settling_here at m h ])
  by None is = settled_not at n h
  by (Some m) is = free m is (is_free_at h at)

-- ---- what is known after it

pub known_settled : (z : Sizes) (at : Spot) (n : ℕ) (h g : HostState) → IsSettled at n h g → IsArea z at.base → AreKnown z h.members h.holdings → AreKnown z g.members g.holdings
known_settled z at n h g s area known =
    record {
      placed = λ m there. (let from = s.members m there in subst (IsPlaced z) (sym from.2) (known.placed from.0 from.1));
      areas = λ m l there its. (let from = s.members m there in
          elim (from.3 l its) [ inl old ↦ subst (λ p. IsArea z p.base) (sym old.2) (known.areas from.0 old.0 from.1 old.1) | inr new ↦ subst (λ p. IsArea z p.base) (sym new.0) area ]);
      tops = λ m l there its. (let from = s.members m there in
          elim (from.3 l its) [
            | inl old ↦ top_stays old.0 l old.3 old.4 (known.tops from.0 old.0 from.1 old.1)
            | inr new ↦ record { greatest_is = λ t is. absurd (none_some t (sym new.1 ∙ is)); opened = λ k is. absurd (none_some k (sym new.2 ∙ is)) }
          ]);
      owned = s.owned known.owned;
      instances = λ e there exclusive. known.instances e (subst (λ gs. Contains gs e) s.holdings there) exclusive;
    }

pub apart_settled : (at : Spot) (n : ℕ) (h g : HostState) → IsSettled at n h g → AreApart (map (λ m. m.who.number) h.members) → AreApart (map (λ m. m.who.number) g.members)
apart_settled at n h g s apart = subst AreApart (sym s.numbers) apart

spots_many : (m o : MemberState) → map (λ l. l.spot) m.leases ≡ map (λ l. l.spot) o.leases → length m.leases ≡ length o.leases
spots_many m o same = sym (length-map m.leases (λ (l : LeaseState). l.spot)) ∙ (ap (λ ss. length ss) same ∙ length-map o.leases (λ (l : LeaseState). l.spot))

abbrev many : Option MemberState → ℕ
many o = option_map_or (λ m. length m.leases) o 0

pub leases_settled : (at : Spot) (n : ℕ) (h g : HostState) → IsSettled at n h g → SameLeases h.members g.members
leases_settled at n h g s k = by (member_with k g.members) refl where
  by : (o : Option MemberState) → member_with k g.members ≡ o → many (member_with k g.members) ≡ many (member_with k h.members)
  by None is = ap many is ∙ sym (ap many (s.none k is))
  by (Some m) is = let old = s.found k m is in ap many is ∙ (spots_many m old.0 old.3 ∙ sym (ap many old.1))

pub has_settled : (at : Spot) (n : ℕ) (h g : HostState) (ats : List Spot) → IsSettled at n h g → HasLeases n ats h.members → HasLeases n ats g.members
has_settled at n h g ats s has m b found there =
    let old = s.found n m found in
    let had = has old.0 b old.1 there in
    (old.2 ∙ had.0, subst (λ ss. Contains ss b) (sym old.3) had.1)

-- ---- what a settling asks

exclusive_is : (b : Bool) → not b ≡ true → b ≡ false
exclusive_is true is = absurd (false_is_true is)
exclusive_is false is = refl

pub may_settle : (k : HostKept) (n : ℕ) (at : Spot) (m : MemberState) → WakeKnown k → HasLeases n (at ∷ []) k.members → member_with n k.members ≡ Some m → MaySettle k at m
may_settle k n at m known has found =
    record {
      placed = known.each.placed m there;
      asked = record { joined = (has m at found (contains_first at [])).0; tops = tops (find (is_lease_on at) m.leases) refl; held = held (exclusive_at (state_in k) m at) refl; owned = known.each.owned m at there };
    } where
      there : Contains k.members m
      there = (find_inside (λ (s : MemberState). s.who.number == n) k.members m found).0

      tops : (o : Option LeaseState) → find (is_lease_on at) m.leases ≡ o → TopStands (lease_at m at) (kept_blocks (lease_at m at))
      tops None is =
          subst (λ (o : Option LeaseState). TopStands (unwrap_or o (new_lease at)) (kept_blocks (unwrap_or o (new_lease at)))) (sym is)
          (record { greatest_is = λ t top. absurd (none_some t top); opened = λ j begun. absurd (none_some j begun) })
      tops (Some l) is =
          subst (λ (o : Option LeaseState). TopStands (unwrap_or o (new_lease at)) (kept_blocks (unwrap_or o (new_lease at)))) (sym is)
          (known.each.tops m l there (find_inside (is_lease_on at) m.leases l is).0)

      held : (o : Option Grant) → exclusive_at (state_in k) m at ≡ o → IfSome (exclusive_at (state_in k) m at) (λ g. IsInstance g.lver)
      held None is = subst (λ (o : Option Grant). IfSome o (λ g. IsInstance g.lver)) (sym is) tt
      held (Some g) is =
          let on = find_inside (λ (e : Grant). not (is_shared e.mode)) (held_on (state_in k) m at) g is in
          let its = kept_inside (λ (e : Grant). same_place e.path e.offset at.path at.base) (filter (λ (e : Grant). e.session == m.who.number) k.holdings) g on.0 in
          let all = kept_inside (λ (e : Grant). e.session == m.who.number) k.holdings g its.0 in
          subst (λ (o : Option Grant). IfSome o (λ e. IsInstance e.lver)) (sym is) (known.each.instances g all.0 (exclusive_is (is_shared g.mode) on.1))

-- Leader and blocks lie on the area.
pub lies_there : (k : HostKept) (n : ℕ) (at : Spot) (m : MemberState) → WakeKnown k → IsArea k.config.sizes at.base → member_with n k.members ≡ Some m → IsPlacedAt (state_in k) m at
lies_there k n at m known area found =
    placed (state_in k) m at
    (record {
      program = refl;
      geometry = known.geometry;
      ids = λ s its. (let from = in_map (λ (o : MemberState). o.who) k.members s its in subst (λ (z : Session). (1 ≤ z.id) × (z.id ≤ k.config.sizes.hosts)) from.2 (known.each.placed from.0 from.1).id);
      joins = λ text a reads. absurd cc;
    }) (contains_map (λ (o : MemberState). o.who) k.members m (find_inside (λ (s : MemberState). s.who.number == n) k.members m found).0)
    (eqb-true (at.base % (layout_of k.config.sizes).area) 0 (and_true (at.base % (layout_of k.config.sizes).area == 0) (nat_lt at.base (10 ^ 12)) area).0)

-- ---- one after another

pub has_one : (n : ℕ) (ats : List Spot) (ms : List MemberState) (at : Spot) → Contains ats at → HasLeases n ats ms → HasLeases n (at ∷ []) ms
has_one n ats ms at there has m b found its =
    elim (contains_cases at [] b its) [ inl is ↦ subst (λ z. (m.joined ≡ true) × Contains (map (λ l. l.spot) m.leases) z) is (has m at found there) | inr none ↦ absurd (contains_none b none) ]

pub settled_once : (old new : HostView) (n : ℕ) (at : Spot) → WakeKnown old.kept → HasLeases n (at ∷ []) old.kept.members → IsArea old.kept.config.sizes at.base
    → AreApart (map (λ m. m.who.number) old.kept.members) → Becomes old new (at_member n (settling_here at)) → IsSettled at n (state_in old.kept) (state_in new.kept)
settled_once old new n at known has area apart comes =
    subst (IsSettled at n (state_in old.kept)) (sym (comes (λ text. Err 0)))
    (settled n at (state_in old.kept) (λ m found. lies_there old.kept n at m known area found) has apart
    (λ m found. known.each.owned m at (find_inside (λ (s : MemberState). s.who.number == n) old.kept.members m found).0))

-- ---- the areas that are noted

active_joined : (a b c : Bool) → (a && b && c) ≡ true → a ≡ true
active_joined true b c is = refl
active_joined false b c is = absurd (false_is_true is)

spots_has : (m : MemberState) (at : Spot) (b : Bool) → is_active_member m ≡ b → Contains (cond b (map (λ l. l.spot) m.leases) []) at → (m.joined ≡ true) × Contains (map (λ l. l.spot) m.leases) at
spots_has m at true is there = (active_joined m.joined (is_none m.renewing.recovery) (is_none m.leaving) is, there)
spots_has m at false is there = absurd (contains_none at there)

pub noted_has : (n : ℕ) (ms : List MemberState) → HasLeases n (spots_of (member_with n ms)) ms
noted_has n ms m at found there = spots_has m at (is_active_member m) refl (subst (λ o. Contains (spots_of o) at) found there)

pub noted_areas : (k : HostKept) (n : ℕ) → WakeKnown k → AreAreas k.config.sizes (spots_of (member_with n k.members))
noted_areas k n known at there = by (member_with n k.members) refl there where
  by : (o : Option MemberState) → member_with n k.members ≡ o → Contains (spots_of o) at → IsArea k.config.sizes at.base
  by None is its = absurd (contains_none at its)
  by (Some m) is its =
      let on = in_map (λ (l : LeaseState). l.spot) m.leases at (spots_has m at (is_active_member m) refl its).1 in
      subst (λ p. IsArea k.config.sizes p.base) on.2 (known.each.areas m on.0 (find_inside (λ (s : MemberState). s.who.number == n) k.members m is).0 on.1)

pub noted_few : (n : ℕ) (ms : List MemberState) → length (spots_of (member_with n ms)) ≤ leases_at n ms
noted_few n ms = by (member_with n ms) where
  active : (m : MemberState) (b : Bool) → length (cond b (map (λ l. l.spot) m.leases) []) ≤ length m.leases
  active m true = let same : length (map (λ (l : LeaseState). l.spot) m.leases) ≡ length m.leases = length-map m.leases (λ (l : LeaseState). l.spot) in omega (arith, same)
  active m false = let none : length {A = Spot} [] ≡ 0 = refl in omega (arith, none)

  by : (o : Option MemberState) → length (spots_of o) ≤ many o
  by None = let none : length {A = Spot} [] ≡ 0 = refl in omega (arith, none)
  by (Some m) = active m (is_active_member m)

pub settles_all : (n : ℕ) (h : HostState) → over (spots_of (member_with n h.members)) (λ at. at_member n (settling_here at)) h ≡ at_member n settling_all h
settles_all n h = by (member_with n h.members) refl where
  active : (m : MemberState) (b : Bool) → m.who.number ≡ n
      → over (cond b (map (λ l. l.spot) m.leases) []) (λ at. at_member n (settling_here at)) h ≡ cond b (over (map (λ l. l.spot) m.leases) (λ at. at_member m.who.number (settling_here at)) h) h
  active m true its = ap (λ k. over (map (λ (l : LeaseState). l.spot) m.leases) (λ at. at_member k (settling_here at)) h) (sym its)
  active m false its = refl

  by : (o : Option MemberState) → member_with n h.members ≡ o → over (spots_of o) (λ at. at_member n (settling_here at)) h ≡ elim o as (λ z. HostState) [ None ↦ h | Some m ↦ settling_all m h ]
  by None is = refl
  by (Some m) is = active m (is_active_member m) (eqb-true m.who.number n (find_inside (λ (s : MemberState). s.who.number == n) h.members m is).1)
