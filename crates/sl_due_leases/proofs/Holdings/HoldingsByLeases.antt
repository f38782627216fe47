-- What a lease does that neither grants nor converts keeps the facts of holdings, where it does no more than it may beside an exclusive
-- holding of its session.
use Rattle.sl_due_facts.specs.Acts.Acts.{Has}
use Rattle.sl_due_facts.specs.Acts.TraceSoFar.{entry_of}
use Rattle.sl_due_facts.proofs.Acts.Pairs.Records.{written_block, written_leader, written_no_block, written_no_leader}
use Rattle.sl_area.specs.AreaSizes.{Layout}
use Rattle.sl_area.specs.AreaLayout.{area_sectors, block_offset, block_place, block_sectors, is_base, leader_offset}
use Rattle.sl_area.specs.AreaRecords.{block_record, leader_record}
use Rattle.sl_due.specs.CarriedLease.{carry_lease, lease_call, name_on, next_turn}
use Rattle.sl_due.specs.Steps.{Step, add_reply, seen, with_some}
use Rattle.sl_due_leases.proofs.Holdings.HoldingsByCalls.{CallSpares, call_added, call_held}
use Rattle.sl_due_leases.proofs.Holdings.HoldingsByDeltas.{same_session}
use Rattle.sl_due_leases.proofs.Holdings.HoldingsByEffects.{HoldsAt, later_same, reply_held}
use Rattle.sl_due_leases.proofs.Holdings.LeaseBeside.{DoesBeside, is_ballot_step}
use Rattle.sl_due_leases.proofs.Holdings.LeasePlaces.{base_on, blocks_on, one_area, own_on}
use Rattle.sl_due_leases.proofs.Holdings.StandsGrow.{IsBeside}
use Rattle.sl_due_leases.proofs.Ways.WayFactsHeld.PlacesStand.{id_in_range}
use Rattle.sl_due_leases.proofs.Ways.WrittenRecords.{block_no_delta, leader_no_delta}
use Rattle.sl_run.specs.Lawful.{IsSetting}
use Rattle.sl_trace.specs.Leases.{block_written, freed, freed_by, is_lease_call, is_on, leader_written, lease_calls}
use Rattle.sl_trace.specs.declared.lease.LeaseNext.TheVariants.{AnswerJob, BecomeExclusive, BecomeShared, GrantJob, Nothing, ReadFor, WriteBlock, WriteLeader}
use Rattle.sl_trace.specs.declared.lease.LeaseNext.{LeaseNext}
use Rattle.sl_words.proofs.Lists.{got_inside}
use Rattle.sl_words.proofs.Numbers.{above_zero}
use Rattle.sl_sector.specs.declared.sector.Block.{Block}
use Rattle.sl_sector.specs.declared.sector.DeltaRec.{DeltaRec}
use Rattle.sl_sector.specs.declared.sector.Leader.{Leader}
use Rattle.sl_trace.specs.Sessions.{calls_of, delta_written, given_number, last_delta, session_numbered, sessions}
use Rattle.sl_trace.specs.declared.session.Session.{Session}
use Rattle.sl_due_facts.specs.Facts.HeardCall.{heard_by}
use Rattle.sl_due_facts.specs.Facts.HoldingFacts.{StandsExclusive, is_ballot_call}
use Rattle.sl_trace.specs.Traces.{Submitted, holdings, is_before_input, is_shared, new_call, spot_of_grant, work_job}
use Rattle.sl_trace.specs.declared.effects.Call.{Call}
use Rattle.sl_trace.specs.declared.effects.Grant.{Grant}
use Rattle.sl_trace.specs.declared.effects.LeaseRead.TheVariants.{OfArea, OfBlock, OfFree, OfPhase1, OfPhase2}
use Rattle.sl_trace.specs.declared.effects.LeaseStep.TheVariants.{ClearMode, FreeLeader, Phase1Read, Phase1Write, Phase2Read, Phase2Write, ReadAgain, ReadArea, ReadBeforeBlock, ReadBeforeFree, SetMode, TakeLeader}
use Rattle.sl_trace.specs.declared.effects.LeaseStep.{LeaseStep}
use Rattle.sl_trace.specs.declared.effects.Op.TheVariants.{ReadSectors, WriteRecord}
use Rattle.sl_trace.specs.declared.effects.Op.{Op}
use Rattle.sl_trace.specs.declared.effects.Purpose.TheVariants.{Lease, Renewal}
use Rattle.sl_trace.specs.declared.effects.Purpose.{Purpose}
use Rattle.sl_trace.specs.declared.effects.Spot.{Spot}
use Rattle.sl_trace.specs.declared.effects.Work.{Work}
use Rattle.sl_run_law.proofs.Leases.NumberLaws.{number_is_place}
use Rattle.sl_words.proofs.CaseLaws.{none_some, some_value}
use Rattle.sl_words.proofs.WordLaws.{and_true}
use Rattle.std.proofs.Common.{ap, refl, subst, sym, ◌∙◌}
use Rattle.std.proofs.lemmas.Bool.{eqb-true}
use Rattle.std.specs.Option.{option_map_or}
use Rattle.std.specs.Prelude.{Bool, Contains, IsTrue, List, None, Option, Some, [], cond, false, if◌then◌else◌, length, nat_lt, true, ℕ, ◌%◌, ◌<◌, ◌==◌, ◌^◌, ◌≡◌}

-- ---- one call

-- Of each exclusive holding of the session on the area.
abbrev pub OfExclusive : Step → Session → Spot → ((own : Block) → ℕ → Type 0) → Type 0
OfExclusive x s at P =
    (g : Grant) → Contains (holdings (seen x)) g → g.session ≡ s.number → is_shared g.mode ≡ false → spot_of_grant g ≡ at
    → (h : StandsExclusive x.setting (seen x) (heard_by x.input) s (spot_of_grant g) g.lver) → P h.own g.lver

-- At a base of an area.
abbrev pub IsAligned : Step → Spot → Type 0
IsAligned x at = at.base % x.setting.layout.area ≡ 0

pub base_aligned : (x : Step) (g : Grant) → IsTrue (is_base x.setting.layout g.offset) → IsAligned x (spot_of_grant g)
base_aligned x g is = eqb-true (g.offset % x.setting.layout.area) 0 (and_true (g.offset % x.setting.layout.area == 0) (nat_lt g.offset (10 ^ 12)) is).0

lease_spared : (x : Step) (s : Session) (at : Spot) (c : Call) → HoldsAt x → Has x s → IsAligned x at → c.session ≡ s.number → is_on x.setting.layout at c ≡ true
    → delta_written (new_call (length x.past) x.reading c) ≡ None → OfExclusive x s at (λ own n. IsBeside own n (new_call (length x.past) x.reading c)) → CallSpares x c
lease_spared x s at c h has aligned mine on none beside =
    record {
      generation = λ g k there its same. ap (λ o. option_map_or (λ (d : DeltaRec). d.generation) (elim o as (λ z. Option DeltaRec) [ Some d ↦ Some d | None ↦ last_delta (calls_of (seen x) k) ]) (given_number k)) none;
      beside = λ g k there its same exclusive here stands. by g k there its (same_session x g.session s k its has (subst (λ n. (n == k.number) ≡ true) mine same)) exclusive
          (and_true (is_lease_call (new_call (length x.past) x.reading c)) (is_on x.setting.layout (spot_of_grant g) c) here).1 stands;
    } where
      by : (g : Grant) (k : Session) → Contains (holdings (seen x)) g → session_numbered x.setting (seen x) g.session ≡ Some k → s ≡ k → is_shared g.mode ≡ false → is_on x.setting.layout (spot_of_grant g) c ≡ true
          → (stands : StandsExclusive x.setting (seen x) (heard_by x.input) k (spot_of_grant g) g.lver) → IsBeside stands.own g.lver (new_call (length x.past) x.reading c)
      by g k there its is exclusive here stands =
          let o = h.owned g there in
          let spot : spot_of_grant g ≡ at = one_area x.setting.layout (spot_of_grant g) at (new_call 0 0 c) (base_aligned x g o.4) aligned here on in
          let number : g.session ≡ s.number = sym (number_is_place x.setting (seen x) g.session k its) ∙ ap (λ (z : Session). z.number) (sym is) in
          subst (λ z. (q : StandsExclusive x.setting (seen x) (heard_by x.input) z (spot_of_grant g) g.lver) → IsBeside q.own g.lver (new_call (length x.past) x.reading c)) is
          (λ q. beside g there number exclusive spot q) stands

-- ---- what it writes

pub ballot_is : (m : Submitted) (work : Work) (step : LeaseStep) → m.call.purpose ≡ Lease work step → is_ballot_call m ≡ is_ballot_step step
ballot_is m work step is = ap (λ p. of_purpose p) is ∙ by step where
  of_purpose : Purpose → Bool
  of_purpose p = is_ballot_call (new_call 0 0 (record { number = 0; session = 0; purpose = p; path = []; offset = 0; op = ReadSectors 0 }))

  by : (at : LeaseStep) → of_purpose (Lease work at) ≡ is_ballot_step at
  by (ReadArea name) = refl
  by ReadBeforeFree = refl
  by ReadBeforeBlock = refl
  by (ReadAgain (OfArea name)) = refl
  by (ReadAgain OfFree) = refl
  by (ReadAgain OfBlock) = refl
  by (ReadAgain OfPhase1) = refl
  by (ReadAgain OfPhase2) = refl
  by Phase1Write = refl
  by Phase1Read = refl
  by Phase2Write = refl
  by Phase2Read = refl
  by TakeLeader = refl
  by SetMode = refl
  by FreeLeader = refl
  by ClearMode = refl

abbrev block_of_op : Op → Option Block
block_of_op o = block_written (new_call 0 0 (record { number = 0; session = 0; purpose = Renewal; path = []; offset = 0; op = o }))

abbrev freed_of_op : Op → ℕ
freed_of_op o = freed_by (new_call 0 0 (record { number = 0; session = 0; purpose = Renewal; path = []; offset = 0; op = o }))

-- The instance that a leader which is written frees.
abbrev freed_of : Option Leader → ℕ
freed_of o = option_map_or (λ l. if l.held then 0 else l.lver) o 0

-- A call beside an exclusive holding, by what it writes.
read_beside : (own : Block) (n : ℕ) (m : Submitted) (work : Work) (step : LeaseStep) (k : ℕ) → m.answer ≡ None → m.call.purpose ≡ Lease work step → m.call.op ≡ ReadSectors k → is_ballot_step step ≡ false → 0 < n → IsBeside own n m
read_beside own n m work step k fresh purpose op other some =
    record {
      fresh = fresh;
      no_ballot = ballot_is m work step purpose ∙ other;
      block = λ b writes. absurd (none_some b (sym (ap (λ o. block_of_op o) op) ∙ writes));
      frees = subst (λ i. i < n) (sym (ap (λ o. freed_of_op o) op)) some;
    }

block_beside : (own : Block) (n : ℕ) (m : Submitted) (work : Work) (step : LeaseStep) (b : Block) → m.answer ≡ None → m.call.purpose ≡ Lease work step → block_written m ≡ Some b → leader_written m ≡ None
    → (is_ballot_step step ≡ false) × (b.lver ≡ n) × (b.mbal ≡ own.mbal) → 0 < n → IsBeside own n m
block_beside own n m work step b fresh purpose block no_leader does some =
    record {
      fresh = fresh;
      no_ballot = ballot_is m work step purpose ∙ does.0;
      block = λ c writes. (
          let same : b ≡ c = some_value b c (sym block ∙ writes) in
          (ap (λ (z : Block). z.lver) (sym same) ∙ does.1, ap (λ (z : Block). z.mbal) (sym same) ∙ does.2)
          );
      frees = subst (λ i. i < n) (sym (ap (λ o. freed_of o) no_leader)) some;
    }

leader_beside : (own : Block) (n : ℕ) (m : Submitted) (work : Work) (step : LeaseStep) (l : Leader) → m.answer ≡ None → m.call.purpose ≡ Lease work step → leader_written m ≡ Some l → block_written m ≡ None
    → (is_ballot_step step ≡ false) × (l.held ≡ false → l.lver < n) → 0 < n → IsBeside own n m
leader_beside own n m work step l fresh purpose leader no_block does some =
    record {
      fresh = fresh;
      no_ballot = ballot_is m work step purpose ∙ does.0;
      block = λ b writes. absurd (none_some b (sym no_block ∙ writes));
      frees = subst (λ i. i < n) (sym (ap (λ o. freed_of o) leader)) (by l.held refl);
    } where
      by : (b : Bool) → l.held ≡ b → cond b 0 l.lver < n
      by true is = some
      by false is = does.1 is

-- ---- the whole

-- What neither grants nor converts.
abbrev pub IsNoGrant : LeaseNext → Type 0
IsNoGrant (AnswerJob r) = is_before_input r ≡ false
IsNoGrant (GrantJob mode lver) = ⊥
IsNoGrant (BecomeShared lver l) = ⊥
IsNoGrant (BecomeExclusive lver b) = ⊥
IsNoGrant next = Unit {0}

some_instance : (x : Step) (s : Session) (at : Spot) (n : ℕ) → StandsExclusive x.setting (seen x) (heard_by x.input) s at n → 0 < n
some_instance x s at n h = above_zero (freed (lease_calls x.setting (seen x) s at)) n h.not_freed

read_held : (x : Step) (s : Session) (at : Spot) (work : Work) (step : LeaseStep) (offset k : ℕ) → HoldsAt x → Has x s → IsAligned x at
    → is_on x.setting.layout at (call_added s.number at.path (Lease work step) offset (ReadSectors k) x) ≡ true → OfExclusive x s at (λ own n. is_ballot_step step ≡ false)
    → HoldsAt (lease_call s at work step offset (ReadSectors k) x)
read_held x s at work step offset k h has aligned on beside =
    let c : Call = call_added s.number at.path (Lease work step) offset (ReadSectors k) x in
    call_held x s.number at.path (Lease work step) offset (ReadSectors k)
    (lease_spared x s at c h has aligned refl on refl
    (λ g there mine exclusive spot stands.
    read_beside stands.own g.lver (new_call (length x.past) x.reading c) work step k refl refl refl (beside g there mine exclusive spot stands) (some_instance x s (spot_of_grant g) g.lver stands))) h

-- The blocks of all hosts are read.
blocks_held : (x : Step) (s : Session) (at : Spot) (work : Work) (step : LeaseStep) → HoldsAt x → IsSetting x.setting → Has x s → IsAligned x at → OfExclusive x s at (λ own n. is_ballot_step step ≡ false)
    → HoldsAt (lease_call s at work step (block_offset x.setting.layout at.base 1) (ReadSectors (block_sectors x.setting.layout)) x)
blocks_held x s at work step h is has aligned beside =
    let id = id_in_range x.setting is (seen x) s (got_inside (sessions x.setting (seen x)) s.number s has) in
    read_held x s at work step (block_offset x.setting.layout at.base 1) (block_sectors x.setting.layout) h has aligned
    (blocks_on x.setting at s.id (call_added s.number at.path (Lease work step) (block_offset x.setting.layout at.base 1) (ReadSectors (block_sectors x.setting.layout)) x) is id refl refl) beside

pub carried_held : (x : Step) (s : Session) (at : Spot) (work : Work) (next : LeaseNext) → HoldsAt x → IsSetting x.setting → Has x s → IsAligned x at → OfExclusive x s at (λ own n. DoesBeside own n next) → IsNoGrant next
    → HoldsAt (carry_lease s at work next x)
unfolding carry_lease
carried_held x s at work Nothing h is has aligned beside plain = h
carried_held x s at work (ReadFor (ReadArea name)) h is has aligned beside plain =
    read_held x s at work (ReadArea name) at.base (area_sectors x.setting.layout) h has aligned
    (base_on x.setting at (call_added s.number at.path (Lease work (ReadArea name)) at.base (ReadSectors (area_sectors x.setting.layout)) x) is refl refl) beside
carried_held x s at work (ReadFor ReadBeforeFree) h is has aligned beside plain =
    read_held x s at work ReadBeforeFree at.base (area_sectors x.setting.layout) h has aligned
    (base_on x.setting at (call_added s.number at.path (Lease work ReadBeforeFree) at.base (ReadSectors (area_sectors x.setting.layout)) x) is refl refl) beside
carried_held x s at work (ReadFor (ReadAgain (OfArea name))) h is has aligned beside plain =
    read_held x s at work (ReadAgain (OfArea name)) at.base (area_sectors x.setting.layout) h has aligned
    (base_on x.setting at (call_added s.number at.path (Lease work (ReadAgain (OfArea name))) at.base (ReadSectors (area_sectors x.setting.layout)) x) is refl refl) beside
carried_held x s at work (ReadFor (ReadAgain OfFree)) h is has aligned beside plain =
    read_held x s at work (ReadAgain OfFree) at.base (area_sectors x.setting.layout) h has aligned
    (base_on x.setting at (call_added s.number at.path (Lease work (ReadAgain OfFree)) at.base (ReadSectors (area_sectors x.setting.layout)) x) is refl refl) beside
carried_held x s at work (ReadFor ReadBeforeBlock) h is has aligned beside plain = blocks_held x s at work ReadBeforeBlock h is has aligned beside
carried_held x s at work (ReadFor (ReadAgain OfBlock)) h is has aligned beside plain = blocks_held x s at work (ReadAgain OfBlock) h is has aligned beside
carried_held x s at work (ReadFor (ReadAgain OfPhase1)) h is has aligned beside plain = blocks_held x s at work (ReadAgain OfPhase1) h is has aligned beside
carried_held x s at work (ReadFor (ReadAgain OfPhase2)) h is has aligned beside plain = blocks_held x s at work (ReadAgain OfPhase2) h is has aligned beside
carried_held x s at work (ReadFor Phase1Write) h is has aligned beside plain = blocks_held x s at work Phase1Write h is has aligned beside
carried_held x s at work (ReadFor Phase1Read) h is has aligned beside plain = blocks_held x s at work Phase1Read h is has aligned beside
carried_held x s at work (ReadFor Phase2Write) h is has aligned beside plain = blocks_held x s at work Phase2Write h is has aligned beside
carried_held x s at work (ReadFor Phase2Read) h is has aligned beside plain = blocks_held x s at work Phase2Read h is has aligned beside
carried_held x s at work (ReadFor TakeLeader) h is has aligned beside plain = blocks_held x s at work TakeLeader h is has aligned beside
carried_held x s at work (ReadFor SetMode) h is has aligned beside plain = blocks_held x s at work SetMode h is has aligned beside
carried_held x s at work (ReadFor FreeLeader) h is has aligned beside plain = blocks_held x s at work FreeLeader h is has aligned beside
carried_held x s at work (ReadFor ClearMode) h is has aligned beside plain = blocks_held x s at work ClearMode h is has aligned beside
carried_held x s at work (WriteBlock step b) h is has aligned beside plain =
    let g : Layout = x.setting.layout in
    let turn : ℕ = next_turn x.setting (seen x) s at in
    let name : List ℕ = name_on x.setting (seen x) s at in
    let op : Op = WriteRecord (block_record g turn s.lockspace name b) in
    let c : Call = call_added s.number at.path (Lease work step) (block_place g at.base s.id turn) op x in
    let m : Submitted = new_call (length x.past) x.reading c in
    let id = id_in_range x.setting is (seen x) s (got_inside (sessions x.setting (seen x)) s.number s has) in
    call_held x s.number at.path (Lease work step) (block_place g at.base s.id turn) op
    (lease_spared x s at c h has aligned refl (own_on x.setting at s.id turn c is id refl refl) (block_no_delta g turn s.lockspace name b)
    (λ e there mine exclusive spot stands.
    block_beside stands.own e.lver m work step b refl refl (written_block g turn s.lockspace name m b refl) (written_no_leader g turn s.lockspace name m b refl) (beside e there mine exclusive spot stands)
    (some_instance x s (spot_of_grant e) e.lver stands))) h
carried_held x s at work (WriteLeader step l) h is has aligned beside plain =
    let g : Layout = x.setting.layout in
    let op : Op = WriteRecord (leader_record g l) in
    let c : Call = call_added s.number at.path (Lease work step) (leader_offset at.base) op x in
    let m : Submitted = new_call (length x.past) x.reading c in
    call_held x s.number at.path (Lease work step) (leader_offset at.base) op
    (lease_spared x s at c h has aligned refl (base_on x.setting at c is refl refl) (leader_no_delta g l)
    (λ e there mine exclusive spot stands.
    leader_beside stands.own e.lver m work step l refl refl (written_leader g m l refl) (written_no_block g m l refl) (beside e there mine exclusive spot stands) (some_instance x s (spot_of_grant e) e.lver stands))) h
carried_held x s at work (AnswerJob r) h is has aligned beside plain = by (work_job work) where
  by : (o : Option ℕ) → HoldsAt (with_some o (λ j. add_reply j r) x)
  by None = h
  by (Some j) = reply_held x j r (later_same x.past (entry_of x) (record { job = j; reply = r }) plain) h
carried_held x s at work (GrantJob mode lver) h is has aligned beside plain = absurd plain
carried_held x s at work (BecomeShared lver l) h is has aligned beside plain = absurd plain
carried_held x s at work (BecomeExclusive lver b) h is has aligned beside plain = absurd plain
