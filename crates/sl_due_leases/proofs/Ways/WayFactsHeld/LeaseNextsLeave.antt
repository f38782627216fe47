-- What a lease decided leaves ways and turns.
use Rattle.sl_due_facts.specs.Acts.Acts.{Has}
use Rattle.sl_area.specs.AreaSizes.{Layout}
use Rattle.sl_area.specs.AreaLayout.{area_sectors, block_offset, block_place, block_sectors, in_area, leader_offset}
use Rattle.sl_area.specs.AreaRecords.{block_record, leader_record}
use Rattle.sl_area.specs.Roles.{leader}
use Rattle.sl_due.specs.CarriedLease.{carry_lease, convert_for, for_work, name_on, next_turn, read_area, read_blocks, read_for, with_command, write_block}
use Rattle.sl_due.specs.Steps.{Step, add_reply, seen}
use Rattle.sl_run.specs.Lawful.{IsSetting}
use Rattle.sl_run.specs.LawfulArea.{is_area_work}
use Rattle.sl_run.specs.LawfulBlock.{LawfulPhase1}
use Rattle.sl_due_leases.proofs.Ways.WayFactsHeld.AreaCallsLeave.{MayWork, area_calls_leave}
use Rattle.sl_due_leases.proofs.Ways.WayFactsHeld.CallsSame.{reply_leaves}
use Rattle.sl_due_leases.proofs.Ways.WayFactsHeld.EffectsLeave.{Carries, ends_leave, grants_leave, made_call, moves_leave, replies_leave, reply_carries, reply_grows, signals_leave, starts_leave, there_has}
use Rattle.sl_due_leases.proofs.Ways.WayFactsHeld.PlacesStand.{block_is_on, first_is_on, id_in_range, place_is_on, placed_on}
use Rattle.sl_due_leases.proofs.Ways.WayFactsHeld.PlainWalks.{ByPlain, converted, granted}
use Rattle.sl_due_leases.proofs.Ways.WayFactsHeld.WaysGrow.{way_grows}
use Rattle.sl_due_leases.proofs.Ways.WaysAreLawful.BallotLaws.{own_is}
use Rattle.sl_due_leases.specs.Ways.WayFactsHeld.{LeasesStand}
use Rattle.sl_due_leases.proofs.Ways.WrittenRecords.{block_no_delta, leader_no_delta}
use Rattle.sl_due_leases.specs.Ways.Nexts.{Moment, NextIs, calls_at, context_at, next_place, next_record, record_at}
use Rattle.sl_trace.specs.Ballots.{phase1_block}
use Rattle.sl_trace.specs.Leases.{base_turn, ended_ballots, lease_calls, open_ballot, spot_of_call, verified_name}
use Rattle.sl_trace.specs.declared.lease.LeaseNext.TheVariants.{AnswerJob, BecomeExclusive, BecomeShared, GrantJob, Nothing, ReadFor, WriteBlock, WriteLeader}
use Rattle.sl_trace.specs.declared.lease.LeaseNext.{LeaseNext}
use Rattle.sl_sector.specs.declared.sector.Block.{Block}
use Rattle.sl_sector.specs.declared.sector.Leader.{Leader}
use Rattle.sl_trace.specs.Sessions.{delta_of_record, me}
use Rattle.sl_trace.specs.declared.session.Session.{Session}
use Rattle.sl_due_facts.specs.Facts.WayFacts.{In_settling, IsAligned, IsVerified, Phase1Way, PurposeWay, StepWay, way_context}
use Rattle.sl_trace.specs.Traces.{Submitted, is_before_input, next_call, record_of, submitted, work_job}
use Rattle.sl_trace.specs.declared.effects.Call.{Call}
use Rattle.sl_trace.specs.declared.effects.LeaseStep.TheVariants.{ClearMode, FreeLeader, Phase1Read, Phase1Write, Phase2Read, Phase2Write, ReadAgain, ReadArea, ReadBeforeBlock, ReadBeforeFree, SetMode, TakeLeader}
use Rattle.sl_trace.specs.declared.effects.LeaseRead.TheVariants.{OfArea, OfBlock, OfFree, OfPhase1, OfPhase2}
use Rattle.sl_trace.specs.declared.effects.LeaseStep.{LeaseStep}
use Rattle.sl_trace.specs.declared.effects.Mode.TheVariants.{Exclusive, Shared}
use Rattle.sl_trace.specs.declared.effects.Op.TheVariants.{ReadSectors, WriteRecord}
use Rattle.sl_trace.specs.declared.effects.Op.{Op}
use Rattle.sl_trace.specs.declared.effects.Purpose.TheVariants.{Lease}
use Rattle.sl_trace.specs.declared.effects.Purpose.{Purpose}
use Rattle.sl_trace.specs.declared.effects.Spot.{Spot}
use Rattle.sl_trace.specs.declared.effects.Work.TheVariants.{Settling}
use Rattle.sl_trace.specs.declared.effects.Work.{Work}
use Rattle.sl_trace.specs.declared.reply.Reply.{Reply}
use Rattle.sl_due_facts.proofs.Acts.LoopsKeep.{with_some_keeps}
use Rattle.sl_words.proofs.CaseLaws.{some_value}
use Rattle.std.proofs.Common.{ap, inl, refl, subst, sym, ◌∙◌}
use Rattle.std.specs.Prelude.{Contains, List, None, false, is_some, length, option_and_then, true, ℕ, ◌+◌, ◌<◌, ◌≡◌, ◌≤◌}

-- A reply that comes after an input.
abbrev pub IsLate : Reply → Type 0
IsLate r = is_before_input r ≡ false

pub by_late : ByPlain IsLate LeasesStand
by_late =
    record {
      ends = ends_leave;
      signals = signals_leave;
      moves = moves_leave;
      grants = grants_leave;
      starts = starts_leave;
      replies = λ x j r late h. replies_leave x j r (inl late) h;
      late = λ r late. late;
    }

-- ---- what a call must have stays

reply_next : (x : Step) (j : ℕ) (r : Reply) → IsLate r → next_call x.setting (seen (add_reply j r x)) ≡ next_call x.setting (seen x)
reply_next x j r late = ap (λ ms. x.setting.first.call + length ms) (reply_leaves x j r (inl late))

work_replies : (x : Step) (s : Session) (at : Spot) (p : Purpose) (o : ℕ) (op : Op) (j : ℕ) (r : Reply) → IsLate r → MayWork x s at p o op → MayWork (add_reply j r x) s at p o op
work_replies x s at p o op j r late h =
    let same : submitted (seen (add_reply j r x)) ≡ submitted (seen x) = reply_leaves x j r (inl late) in
    let c : Carries x.setting (seen x) (seen (add_reply j r x)) = reply_carries x j r (inl late) in
    record {
      has = h.has;
      works = h.works;
      aligned = h.aligned;
      on = h.on;
      clear = λ m there none work spot. h.clear m (subst (λ ms. Contains ms m) same there) none work spot;
      below = λ m there. subst (λ n. m.call.number < n) (sym (reply_next x j r late)) (h.below m (subst (λ ms. Contains ms m) same there));
      no_delta = h.no_delta;
      way = λ lease call is.
          subst (λ ms. PurposeWay (way_context x.setting (seen (add_reply j r x)) s) (length x.past) call ms p) (sym (c.calls s at))
          (way_grows (way_context x.setting (seen x) s) (way_context x.setting (seen (add_reply j r x)) s) (reply_grows x j r (inl late) s) (length x.past) call (lease_calls x.setting (seen x) s at) p
          (h.way lease call is));
    }

-- A place and what is done there, by the sizes of areas and the lease's calls.
abbrev PlaceBy : Type 0
PlaceBy = Layout → List Submitted → ℕ

abbrev OpBy : Type 0
OpBy = Layout → List Submitted → Op

abbrev MayWorkBy : Step → Session → Spot → Purpose → PlaceBy → OpBy → Type 0
MayWorkBy x s at p place op = MayWork x s at p (place x.setting.layout (lease_calls x.setting (seen x) s at)) (op x.setting.layout (lease_calls x.setting (seen x) s at))

replies_by : (x : Step) (s : Session) (at : Spot) (p : Purpose) (place : PlaceBy) (op : OpBy) (j : ℕ) (r : Reply) → IsLate r → MayWorkBy x s at p place op → MayWorkBy (add_reply j r x) s at p place op
replies_by x s at p place op j r late h =
    let c : Carries x.setting (seen x) (seen (add_reply j r x)) = reply_carries x j r (inl late) in
    subst (λ ms. MayWork (add_reply j r x) s at p (place x.setting.layout ms) (op x.setting.layout ms)) (sym (c.calls s at))
    (work_replies x s at p (place x.setting.layout (lease_calls x.setting (seen x) s at)) (op x.setting.layout (lease_calls x.setting (seen x) s at)) j r late h)

-- Ends, grants and replies leave it.
pub work_by_late : (s : Session) (at : Spot) (p : Purpose) (place : PlaceBy) (op : OpBy) → ByPlain IsLate (λ x. LeasesStand x × MayWorkBy x s at p place op)
work_by_late s at p place op =
    record {
      ends = λ x e h. (ends_leave x e h.0, record { has = h.1.has; works = h.1.works; aligned = h.1.aligned; on = h.1.on; clear = h.1.clear; below = h.1.below; no_delta = h.1.no_delta; way = h.1.way });
      signals = λ x q signal h. (signals_leave x q signal h.0, record { has = h.1.has; works = h.1.works; aligned = h.1.aligned; on = h.1.on; clear = h.1.clear; below = h.1.below; no_delta = h.1.no_delta; way = h.1.way });
      moves = λ x m h. (moves_leave x m h.0, record { has = h.1.has; works = h.1.works; aligned = h.1.aligned; on = h.1.on; clear = h.1.clear; below = h.1.below; no_delta = h.1.no_delta; way = h.1.way });
      grants = λ x g h. (grants_leave x g h.0, record { has = h.1.has; works = h.1.works; aligned = h.1.aligned; on = h.1.on; clear = h.1.clear; below = h.1.below; no_delta = h.1.no_delta; way = h.1.way });
      starts = λ x t h. (starts_leave x t h.0, record { has = h.1.has; works = h.1.works; aligned = h.1.aligned; on = h.1.on; clear = h.1.clear; below = h.1.below; no_delta = h.1.no_delta; way = h.1.way });
      replies = λ x j r late h. (replies_leave x j r (inl late) h.0, replies_by x s at p place op j r late h.1);
      late = λ r late. late;
    }

-- ---- the calls of a lease

-- What a lease must have to make its next call.
pub record LeaseReady (x : Step) (s : Session) (at : Spot) : Type 0 where
  pub has : Has x s
  pub setting : IsSetting x.setting
  pub aligned : IsAligned x.setting at
  pub clear : (m : Submitted) → Contains (submitted (seen x)) m → m.answer ≡ None → is_area_work m.call.purpose ≡ true → spot_of_call x.setting.layout m ≡ at → ⊥
  pub below : (m : Submitted) → Contains (submitted (seen x)) m → m.call.number < next_call x.setting (seen x)

lease_works : (x : Step) (s : Session) (at : Spot) → LeaseReady x s at → (work : Work) (step : LeaseStep) (o : ℕ) (op : Op) → in_area x.setting.layout at.base o ≡ true
    → option_and_then delta_of_record (record_of op) ≡ None
    → ((c : Call) → c.op ≡ op → StepWay (way_context x.setting (seen x) s) work (length x.past) c (lease_calls x.setting (seen x) s at) step) → MayWork x s at (Lease work step) o op
lease_works x s at h work step o op inside plain way =
    record {
      has = h.has;
      works = refl;
      aligned = h.aligned;
      on = placed_on x.setting at (made_call x s.number at.path (Lease work step) o op) refl inside;
      clear = h.clear;
      below = h.below;
      no_delta = plain;
      way = λ lease c is. way c is;
    }

pub leader_inside : (x : Step) (s : Session) (at : Spot) → LeaseReady x s at → in_area x.setting.layout at.base at.base ≡ true
leader_inside x s at h = place_is_on x.setting h.setting at.base leader tt

-- The own block, of any turn.
pub own_inside : (x : Step) (s : Session) (at : Spot) → LeaseReady x s at → (turn : ℕ) → in_area x.setting.layout at.base (block_place x.setting.layout at.base s.id turn) ≡ true
own_inside x s at h turn = block_is_on x.setting h.setting at.base s.id turn (id_in_range x.setting h.setting (seen x) s (there_has x.setting (seen x) s.number s h.has))

-- The first host's block, or the first sector of its pair.
pub first_inside : (x : Step) (s : Session) (at : Spot) → LeaseReady x s at → in_area x.setting.layout at.base (block_offset x.setting.layout at.base 1) ≡ true
first_inside x s at h = first_is_on x.setting h.setting at.base s.id (id_in_range x.setting h.setting (seen x) s (there_has x.setting (seen x) s.number s h.has))

abbrev pub moment_of : Step → Session → Spot → Work → Moment
moment_of x s at work = record { setting = x.setting; trace = seen x; session = s; at = at; work = work; now = length x.past }

-- A read of the whole area, and one of all blocks.
area_leaves : (x : Step) (s : Session) (at : Spot) → LeaseReady x s at → (work : Work) (step : LeaseStep)
    → ((c : Call) → c.op ≡ ReadSectors (area_sectors x.setting.layout) → StepWay (way_context x.setting (seen x) s) work (length x.past) c (lease_calls x.setting (seen x) s at) step)
    → LeasesStand x → LeasesStand (read_area s at work step x)
area_leaves x s at h work step way k =
    let op : Op = ReadSectors (area_sectors x.setting.layout) in
    area_calls_leave x s at (Lease work step) at.base op (lease_works x s at h work step at.base op (leader_inside x s at h) refl way) k

blocks_leave : (x : Step) (s : Session) (at : Spot) → LeaseReady x s at → (work : Work) (step : LeaseStep)
    → ((c : Call) → c.op ≡ ReadSectors (block_sectors x.setting.layout) → StepWay (way_context x.setting (seen x) s) work (length x.past) c (lease_calls x.setting (seen x) s at) step)
    → LeasesStand x → LeasesStand (read_blocks s at work step x)
blocks_leave x s at h work step way k =
    let o : ℕ = block_offset x.setting.layout at.base 1 in
    let op : Op = ReadSectors (block_sectors x.setting.layout) in
    area_calls_leave x s at (Lease work step) o op (lease_works x s at h work step o op (first_inside x s at h) refl way) k

read_leaves : (x : Step) (s : Session) (at : Spot) → LeaseReady x s at → (work : Work) (step : LeaseStep) → NextIs (moment_of x s at work) (ReadFor step) → LeasesStand x → LeasesStand (read_for s at work step x)
read_leaves x s at h work (ReadArea name) n k = area_leaves x s at h work (ReadArea name) n k
read_leaves x s at h work ReadBeforeFree n k = area_leaves x s at h work ReadBeforeFree n k
read_leaves x s at h work ReadBeforeBlock n k = blocks_leave x s at h work ReadBeforeBlock n k
read_leaves x s at h work (ReadAgain (OfArea name)) n k = area_leaves x s at h work (ReadAgain (OfArea name)) n k
read_leaves x s at h work (ReadAgain OfFree) n k = area_leaves x s at h work (ReadAgain OfFree) n k
read_leaves x s at h work (ReadAgain OfBlock) n k = blocks_leave x s at h work (ReadAgain OfBlock) n k
read_leaves x s at h work (ReadAgain OfPhase1) n k = blocks_leave x s at h work (ReadAgain OfPhase1) n k
read_leaves x s at h work (ReadAgain OfPhase2) n k = blocks_leave x s at h work (ReadAgain OfPhase2) n k
read_leaves x s at h work Phase1Write n k = blocks_leave x s at h work Phase1Write n k
read_leaves x s at h work Phase1Read n k = blocks_leave x s at h work Phase1Read n k
read_leaves x s at h work Phase2Write n k = blocks_leave x s at h work Phase2Write n k
read_leaves x s at h work Phase2Read n k = blocks_leave x s at h work Phase2Read n k
read_leaves x s at h work TakeLeader n k = blocks_leave x s at h work TakeLeader n k
read_leaves x s at h work SetMode n k = blocks_leave x s at h work SetMode n k
read_leaves x s at h work FreeLeader n k = blocks_leave x s at h work FreeLeader n k
read_leaves x s at h work ClearMode n k = blocks_leave x s at h work ClearMode n k

-- Phase 1's write, by its law.
phase1_way : (x : Moment) (b : Block) → ((c : Submitted) → LawfulPhase1 x.setting x.trace x.session x.at c b) → IsVerified (context_at x) (calls_at x) → (c : Call) → c.op ≡ WriteRecord (record_at x b)
    → Phase1Way (context_at x) c (calls_at x)
unfolding phase1_block
phase1_way x b lawful named c op =
    let l : LawfulPhase1 x.setting x.trace x.session x.at (record { at = 0; reading = 0; call = c; answer = None }) b = lawful (record { at = 0; reading = 0; call = c; answer = None }) in
    record {
      own = b;
      wrote = op;
      host = ap (λ (k : Block). k.host) l.written;
      known = ap (λ o. is_some o) l.known;
      fresh = l.not_freed;
      rises = λ k is. subst (λ (z : Block). z.lver ≤ b.lver) (some_value l.own k (sym l.known ∙ own_is x.setting x.trace x.session x.at k is)) l.not_below;
      named = named;
    }

-- What a block's call writes is no delta record, nor is what a leader's does.
no_delta_block : (x : Step) (s : Session) (at : Spot) (b : Block) → option_and_then delta_of_record (record_of (WriteRecord (next_record x.setting (seen x) s at b))) ≡ None
no_delta_block x s at b = block_no_delta x.setting.layout (next_turn x.setting (seen x) s at) s.lockspace (name_on x.setting (seen x) s at) b

no_delta_leader : (x : Step) (l : Leader) → option_and_then delta_of_record (record_of (WriteRecord (leader_record x.setting.layout l))) ≡ None
no_delta_leader x l = leader_no_delta x.setting.layout l

block_leaves : (x : Step) (s : Session) (at : Spot) → LeaseReady x s at → (work : Work) (step : LeaseStep) (b : Block) → NextIs (moment_of x s at work) (WriteBlock step b) → LeasesStand x
    → LeasesStand (write_block s at work step b x)
block_leaves x s at h work step b n k =
    let o : ℕ = next_place x.setting (seen x) s at in
    let op : Op = WriteRecord (next_record x.setting (seen x) s at b) in
    area_calls_leave x s at (Lease work step) o op
    (lease_works x s at h work step o op (own_inside x s at h (next_turn x.setting (seen x) s at)) (no_delta_block x s at b) (by step n)) k
  where
    by : (step : LeaseStep) → NextIs (moment_of x s at work) (WriteBlock step b) → (c : Call) → c.op ≡ WriteRecord (next_record x.setting (seen x) s at b)
        → StepWay (way_context x.setting (seen x) s) work (length x.past) c (lease_calls x.setting (seen x) s at) step
    by Phase1Write n c op = phase1_way (moment_of x s at work) b n.0.0 n.0.1 c op
    by (ReadArea name) n c op = n.0 c op
    by ReadBeforeFree n c op = n.0 c op
    by ReadBeforeBlock n c op = n.0 c op
    by (ReadAgain read) n c op = n.0 c op
    by Phase1Read n c op = n.0 c op
    by Phase2Write n c op = n.0 c op
    by Phase2Read n c op = n.0 c op
    by TakeLeader n c op = n.0 c op
    by SetMode n c op = n.0 c op
    by FreeLeader n c op = n.0 c op
    by ClearMode n c op = n.0 c op

-- What stands behind an instance of the session, as far as a free asks it.
abbrev pub HasEnded : Step → Session → Spot → ℕ → Type 0
HasEnded x s at n =
    Contains (ended_ballots x.setting.layout (lease_calls x.setting (seen x) s at)) (n, me (seen x) s) × (open_ballot x.setting.layout (lease_calls x.setting (seen x) s at) ≡ None)

pub next_leaves : (x : Step) (s : Session) (at : Spot) → LeaseReady x s at → (work : Work) (n : LeaseNext) → ((lver : ℕ) (l : Leader) → n ≡ BecomeShared lver l → HasEnded x s at lver) → NextIs (moment_of x s at work) n → LeasesStand x → LeasesStand (carry_lease s at work n x)
unfolding carry_lease
next_leaves x s at h work Nothing e n k = k
next_leaves x s at h work (ReadFor step) e n k = read_leaves x s at h work step n k
next_leaves x s at h work (WriteBlock step b) e n k = block_leaves x s at h work step b n k
next_leaves x s at h work (WriteLeader step l) e n k =
    let op : Op = WriteRecord (leader_record x.setting.layout l) in
    area_calls_leave x s at (Lease work step) (leader_offset at.base) op (lease_works x s at h work step (leader_offset at.base) op (leader_inside x s at h) (no_delta_leader x l) n.0) k
next_leaves x s at h work (AnswerJob r) e n k = with_some_keeps LeasesStand (work_job work) (λ j. add_reply j r) x (λ j is f. replies_leave x j r (inl n) f) k
next_leaves x s at h work (GrantJob mode lver) e n k = granted IsLate LeasesStand by_late x s work mode lver k
next_leaves x s at h work (BecomeShared lver l) e n k =
    let place : PlaceBy = λ g ms. leader_offset at.base in
    let op : OpBy = λ g ms. WriteRecord (leader_record g l) in
    let may : MayWorkBy x s at (Lease Settling FreeLeader) place op =
    lease_works x s at h Settling FreeLeader (leader_offset at.base) (WriteRecord (leader_record x.setting.layout l)) (leader_inside x s at h) (no_delta_leader x l)
    (λ c op. record {
      leader = l;
      wrote = op;
      free = n.2;
      won = subst (λ m. Contains (ended_ballots x.setting.layout (lease_calls x.setting (seen x) s at)) (m, me (seen x) s)) (sym n.3) (e lver l refl).0;
      concluded = (e lver l refl).1;
      why = In_settling refl;
    })
    in
    let z = converted IsLate (λ y. LeasesStand y × MayWorkBy y s at (Lease Settling FreeLeader) place op) (work_by_late s at (Lease Settling FreeLeader) place op) x s at work Shared lver (k, may) in
    let w : Step = for_work work (λ j. with_command j (λ c. convert_for s at j c Shared lver)) x in
    area_calls_leave w s at (Lease Settling FreeLeader) (leader_offset at.base) (WriteRecord (leader_record w.setting.layout l)) z.1 z.0
next_leaves x s at h work (BecomeExclusive lver b) e n k =
    let place : PlaceBy = λ g ms. block_place g at.base s.id (base_turn g s.id ms + 1) in
    let op : OpBy = λ g ms. WriteRecord (block_record g (base_turn g s.id ms + 1) s.lockspace (verified_name g s.lockspace ms) b) in
    let may : MayWorkBy x s at (Lease Settling ClearMode) place op =
    lease_works x s at h Settling ClearMode (next_place x.setting (seen x) s at) (WriteRecord (next_record x.setting (seen x) s at b)) (own_inside x s at h (next_turn x.setting (seen x) s at)) (no_delta_block x s at b)
    (λ c op. record { own = n.0; known = n.1; wrote = op ∙ ap (λ z. WriteRecord (next_record x.setting (seen x) s at z)) n.2 })
    in
    let z = converted IsLate (λ y. LeasesStand y × MayWorkBy y s at (Lease Settling ClearMode) place op) (work_by_late s at (Lease Settling ClearMode) place op) x s at work Exclusive lver (k, may) in
    let w : Step = for_work work (λ j. with_command j (λ c. convert_for s at j c Exclusive lver)) x in
    area_calls_leave w s at (Lease Settling ClearMode) (next_place w.setting (seen w) s at) (WriteRecord (next_record w.setting (seen w) s at b)) z.1 z.0
