-- What a lease decides keeps the laws of areas, blocks and leaders, where its session is active and its area clear.
use Rattle.sl_area.specs.AreaLayout.{block_offset, in_area, leader_offset}
use Rattle.sl_area.specs.AreaRecords.{leader_record}
use Rattle.sl_due.specs.CarriedLease.{next_turn, read_for, write_block, write_leader}
use Rattle.sl_due.specs.Steps.{Step, add_call_of, seen}
use Rattle.sl_run.specs.LawfulArea.{is_area_work, is_block_work, open_block_work}
use Rattle.sl_run.specs.LawfulLeader.{holds_under, open_writes_on}
use Rattle.sl_due_leases.proofs.Leases.CallsMade.{blocks_are_lawful, leaders_are_lawful, reads_are_lawful}
use Rattle.sl_due_leases.proofs.Leases.LawsStay.{calls_stay}
use Rattle.sl_due_leases.proofs.Leases.OthersKeep.{LawfulSoFar}
use Rattle.sl_due_leases.specs.Leases.LeaseCalls.{IsCallAt, MayCall, read_place}
use Rattle.sl_due_leases.proofs.Ways.WayFactsHeld.EffectsLeave.{made_call, there_has}
use Rattle.sl_due_leases.proofs.Ways.WayFactsHeld.LeaseNextsLeave.{LeaseReady, first_inside, leader_inside, moment_of, own_inside}
use Rattle.sl_due_leases.proofs.Ways.WayFactsHeld.PlacesStand.{id_in_range, placed_on, spot_is}
use Rattle.sl_due_leases.specs.Ways.Nexts.{NextIs, next_place, next_record, read_op}
use Rattle.sl_trace.specs.Leases.{is_on, lease_calls}
use Rattle.sl_trace.specs.declared.lease.LeaseNext.TheVariants.{ReadFor, WriteBlock, WriteLeader}
use Rattle.sl_sector.specs.declared.sector.Block.{Block}
use Rattle.sl_sector.specs.declared.sector.Leader.{Leader}
use Rattle.sl_trace.specs.Sessions.{calls_of, is_active, is_call_of, open_calls_of}
use Rattle.sl_trace.specs.declared.session.Session.{Session}
use Rattle.sl_due_facts.specs.Facts.WayFacts.{Ways, way_context}
use Rattle.sl_trace.specs.Traces.{Submitted, is_write, new_call, submitted}
use Rattle.sl_trace.specs.declared.effects.LeaseRead.TheVariants.{OfArea, OfBlock, OfFree, OfPhase1, OfPhase2}
use Rattle.sl_trace.specs.declared.effects.LeaseStep.TheVariants.{ClearMode, FreeLeader, Phase1Read, Phase1Write, Phase2Read, Phase2Write, ReadAgain, ReadArea, ReadBeforeBlock, ReadBeforeFree, SetMode, TakeLeader}
use Rattle.sl_trace.specs.declared.effects.LeaseStep.{LeaseStep}
use Rattle.sl_trace.specs.declared.effects.Op.TheVariants.{WriteRecord}
use Rattle.sl_trace.specs.declared.effects.Op.{Op}
use Rattle.sl_trace.specs.declared.effects.Purpose.TheVariants.{Lease}
use Rattle.sl_trace.specs.declared.effects.Spot.{Spot}
use Rattle.sl_trace.specs.declared.effects.Work.{Work}
use Rattle.sl_words.proofs.Lists.{contains_first, contains_more, kept_inside}
use Rattle.sl_words.proofs.Options.{none_is}
use Rattle.sl_words.proofs.WordLaws.{and_true}
use Rattle.std.proofs.Common.{refl}
use Rattle.std.specs.Prelude.{Bool, Contains, List, [], cond, false, filter, is_none, length, true, ℕ, ◌&&◌, ◌∷◌, ◌≡◌}

-- What holds nothing that passes.
none_pass : {A : Type 0} (p : A → Bool) (xs : List A) → ((x : A) → Contains xs x → p x ≡ true → ⊥) → filter p xs ≡ []
none_pass p [] h = refl
none_pass {A} p (x ∷ xs) h = by (p x) refl (none_pass p xs (λ y there is. h y (contains_more x xs y there) is)) where
  by : (b : Bool) → p x ≡ b → filter p xs ≡ [] → cond b (x ∷ filter p xs) (filter p xs) ≡ []
  by false is rest = rest
  by true is rest = absurd (h x (contains_first x xs) is)

-- An open call of the session on the area.
open_there : (x : Step) (s : Session) (at : Spot) → LeaseReady x s at → (c : Submitted) → Contains (open_calls_of (seen x) s) c → is_area_work c.call.purpose ≡ true → is_on x.setting.layout at c.call ≡ true → ⊥
open_there x s at ready c there work on =
    let un = kept_inside (λ (m : Submitted). is_none m.answer) (calls_of (seen x) s) c there in
    let own = kept_inside (is_call_of s) (submitted (seen x)) c un.0 in
    ready.clear c own.0 (none_is c.answer un.1) work (spot_is x.setting.layout at c ready.aligned on)

pub works_clear : (x : Step) (s : Session) (at : Spot) → LeaseReady x s at → open_block_work x.setting (seen x) s at ≡ []
works_clear x s at ready =
    none_pass (λ (c : Submitted). is_area_work c.call.purpose && (is_block_work c && is_on x.setting.layout at c.call)) (open_calls_of (seen x) s)
    (λ c there is.
    let a = and_true (is_area_work c.call.purpose) (is_block_work c && is_on x.setting.layout at c.call) is in
    open_there x s at ready c there a.0 (and_true (is_block_work c) (is_on x.setting.layout at c.call) a.1).1)

pub writes_clear : (x : Step) (s : Session) (at : Spot) → LeaseReady x s at → open_writes_on x.setting (seen x) s at ≡ []
writes_clear x s at ready =
    none_pass (λ (c : Submitted). is_area_work c.call.purpose && (is_write c.call.op && is_on x.setting.layout at c.call)) (open_calls_of (seen x) s)
    (λ c there is.
    let a = and_true (is_area_work c.call.purpose) (is_write c.call.op && is_on x.setting.layout at c.call) is in
    open_there x s at ready c there a.0 (and_true (is_write c.call.op) (is_on x.setting.layout at c.call) a.1).1)

-- What a lease must have to make a lawful call.
pub record LeaseMay (x : Step) (s : Session) (at : Spot) : Type 0 where
  pub ready : LeaseReady x s at
  pub active : is_active x.setting (seen x) s ≡ true
  pub ways : Ways (way_context x.setting (seen x) s) (lease_calls x.setting (seen x) s at)

may_call : (x : Step) (s : Session) (at : Spot) (work : Work) → LeaseMay x s at → MayCall (moment_of x s at work)
may_call x s at work h =
    record {
      host = id_in_range x.setting h.ready.setting (seen x) s (there_has x.setting (seen x) s.number s h.ready.has);
      active = h.active;
      ways = h.ways;
      alone = works_clear x s at h.ready;
      unwritten = writes_clear x s at h.ready;
    }

new_at : (x : Step) (s : Session) (at : Spot) → LeaseMay x s at → (work : Work) (step : LeaseStep) (o : ℕ) (op : Op) → in_area x.setting.layout at.base o ≡ true
    → IsCallAt (moment_of x s at work) step o op (new_call (length x.past) x.reading (made_call x s.number at.path (Lease work step) o op))
new_at x s at h work step o op inside =
    record {
      for = refl;
      place = refl;
      does = refl;
      spot = spot_is x.setting.layout at (new_call (length x.past) x.reading (made_call x s.number at.path (Lease work step) o op)) h.ready.aligned
          (placed_on x.setting at (made_call x s.number at.path (Lease work step) o op) refl inside);
      now = refl;
    }

read_stays : (x : Step) (s : Session) (at : Spot) → LeaseMay x s at → (work : Work) (step : LeaseStep) → NextIs (moment_of x s at work) (ReadFor step)
    → in_area x.setting.layout at.base (read_place (moment_of x s at work) step) ≡ true
    → LawfulSoFar x → LawfulSoFar (add_call_of s.number at.path (Lease work step) (read_place (moment_of x s at work) step) (read_op x.setting step) x)
read_stays x s at h work step n inside k =
    calls_stay x s at.path (Lease work step) _ _ h.ready.has refl
    (reads_are_lawful (moment_of x s at work) step _ (may_call x s at work h) (new_at x s at h work step _ _ inside) n) k

pub reads_stay : (x : Step) (s : Session) (at : Spot) → LeaseMay x s at → (work : Work) (step : LeaseStep) → NextIs (moment_of x s at work) (ReadFor step) → LawfulSoFar x → LawfulSoFar (read_for s at work step x)
reads_stay x s at h work step n k = by step n where
  area : in_area x.setting.layout at.base at.base ≡ true
  area = leader_inside x s at h.ready

  blocks : in_area x.setting.layout at.base (block_offset x.setting.layout at.base 1) ≡ true
  blocks = first_inside x s at h.ready

  by : (step : LeaseStep) → NextIs (moment_of x s at work) (ReadFor step) → LawfulSoFar (read_for s at work step x)
  by (ReadArea name) n = read_stays x s at h work (ReadArea name) n area k
  by ReadBeforeFree n = read_stays x s at h work ReadBeforeFree n area k
  by ReadBeforeBlock n = read_stays x s at h work ReadBeforeBlock n blocks k
  by (ReadAgain (OfArea name)) n = read_stays x s at h work (ReadAgain (OfArea name)) n area k
  by (ReadAgain OfFree) n = read_stays x s at h work (ReadAgain OfFree) n area k
  by (ReadAgain OfBlock) n = read_stays x s at h work (ReadAgain OfBlock) n blocks k
  by (ReadAgain OfPhase1) n = read_stays x s at h work (ReadAgain OfPhase1) n blocks k
  by (ReadAgain OfPhase2) n = read_stays x s at h work (ReadAgain OfPhase2) n blocks k
  by Phase1Write n = read_stays x s at h work Phase1Write n blocks k
  by Phase1Read n = read_stays x s at h work Phase1Read n blocks k
  by Phase2Write n = read_stays x s at h work Phase2Write n blocks k
  by Phase2Read n = read_stays x s at h work Phase2Read n blocks k
  by TakeLeader n = read_stays x s at h work TakeLeader n blocks k
  by SetMode n = read_stays x s at h work SetMode n blocks k
  by FreeLeader n = read_stays x s at h work FreeLeader n blocks k
  by ClearMode n = read_stays x s at h work ClearMode n blocks k

pub blocks_stay : (x : Step) (s : Session) (at : Spot) → LeaseMay x s at → (work : Work) (step : LeaseStep) (b : Block) → NextIs (moment_of x s at work) (WriteBlock step b) → LawfulSoFar x
    → LawfulSoFar (write_block s at work step b x)
blocks_stay x s at h work step b n k =
    let o : ℕ = next_place x.setting (seen x) s at in
    let op : Op = WriteRecord (next_record x.setting (seen x) s at b) in
    calls_stay x s at.path (Lease work step) o op h.ready.has refl
    (blocks_are_lawful (moment_of x s at work) step b _ (may_call x s at work h) (new_at x s at h work step o op (own_inside x s at h.ready (next_turn x.setting (seen x) s at))) n) k

pub leaders_stay : (x : Step) (s : Session) (at : Spot) → LeaseMay x s at → (work : Work) (step : LeaseStep) (l : Leader) → NextIs (moment_of x s at work) (WriteLeader step l)
    → (l.held ≡ false → holds_under (seen x) s at l.lver ≡ false) → LawfulSoFar x → LawfulSoFar (write_leader s at work step l x)
leaders_stay x s at h work step l n unheld k =
    let op : Op = WriteRecord (leader_record x.setting.layout l) in
    calls_stay x s at.path (Lease work step) (leader_offset at.base) op h.ready.has refl
    (leaders_are_lawful (moment_of x s at work) step l _ (may_call x s at work h) (new_at x s at h work step (leader_offset at.base) op (leader_inside x s at h.ready)) n unheld) k
