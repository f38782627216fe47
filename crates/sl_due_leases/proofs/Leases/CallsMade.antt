-- Each call that a lease makes keeps the laws of areas, blocks and leaders where it is made.
use Rattle.sl_due_facts.proofs.Acts.Pairs.Records.{IsPairOf, leader_no_turn, pair_recorded, written_no_turn}
use Rattle.sl_area.specs.AreaLayout.{area_sectors, block_offset, block_sectors, leader_offset, pair_offset}
use Rattle.sl_area.specs.AreaRecords.{leader_record}
use Rattle.sl_due.specs.CarriedLease.{name_on, next_turn}
use Rattle.sl_run.specs.LawfulArea.{HasVerified, IsAreaRead, IsBlockRead, IsRightRead, LawfulAgain, LawfulAreaWrite, is_area_work, is_same_read, open_block_work, record_offset}
use Rattle.sl_run.specs.LawfulBlock.{LawfulBlockStep, LawfulBlockWrite, LawfulPhase1, LawfulPhase2Read, LawfulTurn}
use Rattle.sl_run.specs.LawfulLeader.{LawfulFreeLeader, LawfulLeaderWrite, LawfulTake, holds_under}
use Rattle.sl_due_leases.proofs.Leases.NamesVerified.{ended_wrote, has_verified}
use Rattle.sl_due_leases.specs.Leases.LeaseLawful.{LeaseLawful}
use Rattle.sl_due_leases.specs.Leases.LeaseCalls.{IsCallAt, MayCall, read_place}
use Rattle.sl_due_leases.proofs.Ways.WaysAreLawful.BallotLaws.{clear_mode_is_lawful, own_is, phase2_is_lawful, phase2_read_is_lawful, read_after, set_mode_is_lawful, take_freed, take_won}
use Rattle.sl_due_leases.proofs.Ways.NewestCall.{block_is, block_is_no_leader, leader_is, leader_is_no_block, read_writes_no_block, read_writes_no_leader}
use Rattle.sl_due_leases.proofs.Ways.WayNumbers.{is_verified}
use Rattle.sl_due_leases.proofs.Ways.TurnsShown.{turn_is_lawful}
use Rattle.sl_due_leases.proofs.Ways.WayStages.{ReadBehind, again_behind, asked2_last, clear_own, first_is_first, is_at_in, is_first, prior_at, rest_last, written_before}
use Rattle.sl_due_leases.proofs.Ways.WrittenRecords.{block_format, leader_format}
use Rattle.sl_due_leases.specs.Ways.Nexts.{BlockIsNext, LeaderIsOwn, Moment, NextIs, StepIs, calls_at, context_at, next_place, read_op, record_at}
use Rattle.sl_trace.specs.Ballots.{owner_of, same_owner}
use Rattle.sl_trace.specs.LeaseDecisions.{step_of_read}
use Rattle.sl_trace.specs.Leases.{Leader_freed, Leader_taken, Phase2_read, Phase2_write, base_turn, block_submitted, block_written, ended_ballots, freed, is_again, is_at, kind_of_read, kind_of_step, known, leader_written, lease_calls, lease_step, own_block, same_kind, spot_of_call, turn_of_record, verified_name}
use Rattle.sl_trace.specs.declared.lease.LeaseNext.TheVariants.{ReadFor, WriteBlock, WriteLeader}
use Rattle.sl_sector.specs.declared.sector.Block.{Block}
use Rattle.sl_sector.specs.declared.sector.Leader.{Leader}
use Rattle.sl_sector.specs.SectorLayouts.{is_first_turn}
use Rattle.sl_sector.specs.declared.sector.PairBlock.{PairBlock}
use Rattle.sl_sector.specs.declared.sector.Rec.TheVariants.{BlockIs, LeaderIs, PairIs, PairLeaderIs}
use Rattle.sl_sector.specs.declared.sector.Rec.{Rec}
use Rattle.sl_trace.specs.Sessions.{me}
use Rattle.sl_due_facts.specs.Facts.WayFacts.{AgainWay, ClearWay, FreeWay, IsVerified, ModeWay, Phase2ReadWay, Phase2Way, StepWay, TakeWay, WayContext, sectors_of_read}
use Rattle.sl_trace.specs.Traces.{Setting, Submitted, is_write, record_of}
use Rattle.sl_trace.specs.declared.effects.LeaseRead.TheVariants.{OfArea, OfBlock, OfFree, OfPhase1, OfPhase2}
use Rattle.sl_trace.specs.declared.effects.LeaseRead.{LeaseRead}
use Rattle.sl_trace.specs.declared.effects.LeaseStep.TheVariants.{ClearMode, FreeLeader, Phase1Read, Phase1Write, Phase2Read, Phase2Write, ReadAgain, ReadArea, ReadBeforeBlock, ReadBeforeFree, SetMode, TakeLeader}
use Rattle.sl_trace.specs.declared.effects.LeaseStep.{LeaseStep}
use Rattle.sl_trace.specs.declared.effects.Op.TheVariants.{ReadSectors, WriteRecord}
use Rattle.sl_trace.specs.declared.effects.Op.{Op}
use Rattle.sl_trace.specs.declared.effects.Purpose.TheVariants.{Lease, SeeRequest}
use Rattle.sl_trace.specs.declared.effects.Work.{Work}
use Rattle.sl_words.proofs.Numbers.{number_itself}
use Rattle.sl_words.proofs.CaseLaws.{false_is_true, no_value, none_some, some_value, true_is_false}
use Rattle.std.proofs.lemmas.Bool.{and_from}
use Rattle.sl_sector.specs.declared.sector.Owner.{Owner}
use Rattle.std.proofs.Common.{ap, refl, subst, sym, ◌∙◌}
use Rattle.sl_words.specs.Words.{first_of_list}
use Rattle.std.specs.Prelude.{Bool, Contains, IsSome, IsTrue, List, MatchBool, None, Some, [], false, is_some, option_and_then, true, ℕ, ◌<◌, ◌==◌, ◌≡◌}

-- ---- what all calls of a lease have

abbrev writes_of : Op → Bool
writes_of (ReadSectors n) = false
writes_of (WriteRecord r) = true

no_write : (op : Op) (n : ℕ) (r : Rec) → op ≡ ReadSectors n → op ≡ WriteRecord r → ⊥
no_write op n r reads writes = true_is_false (ap (λ o. writes_of o) (sym writes ∙ reads))

lease_sees : (c : Submitted) (work : Work) (step : LeaseStep) → c.call.purpose ≡ Lease work step → c.call.purpose ≡ SeeRequest → ⊥
lease_sees c work step is other = true_is_false (ap (λ p. is_some (lease_step p)) (sym is ∙ other))

-- By its step a call of the lease is at that kind alone.
other_step : (c : Submitted) (work : Work) (step : LeaseStep) → c.call.purpose ≡ Lease work step → is_at_in Phase2_read (Lease work step) ≡ false → is_at Phase2_read c ≡ true → ⊥
other_step c work step is none at = true_is_false (sym at ∙ (ap (λ p. is_at_in Phase2_read p) is ∙ none))

alone_there : (x : Moment) (c : Submitted) → MayCall x → spot_of_call x.setting.layout c ≡ x.at → open_block_work x.setting x.trace x.session (spot_of_call x.setting.layout c) ≡ []
alone_there x c h spot = ap (λ at. open_block_work x.setting x.trace x.session at) spot ∙ h.alone

-- Whether a step writes.
abbrev is_write_step : LeaseStep → Bool
is_write_step (ReadArea name) = false
is_write_step ReadBeforeFree = false
is_write_step ReadBeforeBlock = false
is_write_step (ReadAgain read) = false
is_write_step Phase1Read = false
is_write_step Phase2Read = false
is_write_step Phase1Write = true
is_write_step Phase2Write = true
is_write_step TakeLeader = true
is_write_step SetMode = true
is_write_step FreeLeader = true
is_write_step ClearMode = true

two_records : (x : Moment) (c : Submitted) (b : Block) (l : Leader) → c.call.op ≡ WriteRecord (record_at x b) → c.call.op ≡ WriteRecord (leader_record x.setting.layout l) → ⊥
two_records x c b l block leader = none_some b (sym (leader_is_no_block (context_at x) c l leader) ∙ block_is (context_at x) (calls_at x) c b block)

-- ---- reads

-- A read by its way is at its place.
read_right : (x : Moment) (step : LeaseStep) (c : Submitted) (o : ℕ) → IsCallAt x step o (read_op x.setting step) c
    → StepWay (context_at x) x.work c.at c.call (calls_at x) step → o ≡ read_place x step → IsRightRead x.setting (spot_of_call x.setting.layout c) c (Lease x.work step)
read_right x step c o k way at = by step k way at where
  area : (to : LeaseStep) → IsCallAt x to o (ReadSectors (area_sectors x.setting.layout)) c → o ≡ x.at.base → IsAreaRead x.setting (spot_of_call x.setting.layout c) c
  area to j place = (j.place ∙ (place ∙ ap (λ z. z.base) (sym j.spot)), j.does)

  blocks : (to : LeaseStep) → IsCallAt x to o (ReadSectors (block_sectors x.setting.layout)) c → o ≡ block_offset x.setting.layout x.at.base 1 → IsBlockRead x.setting (spot_of_call x.setting.layout c) c
  blocks to j place = (j.place ∙ (place ∙ ap (λ z. block_offset x.setting.layout z.base 1) (sym j.spot)), j.does)

  by : (to : LeaseStep) → IsCallAt x to o (read_op x.setting to) c → StepWay (context_at x) x.work c.at c.call (calls_at x) to → o ≡ read_place x to
      → IsRightRead x.setting (spot_of_call x.setting.layout c) c (Lease x.work to)
  by (ReadArea name) j its place = area (ReadArea name) j place
  by ReadBeforeFree j its place = area ReadBeforeFree j place
  by ReadBeforeBlock j its place = (its.paired, blocks ReadBeforeBlock j place)
  by (ReadAgain (OfArea name)) j its place = (its.paired, area (ReadAgain (OfArea name)) j place)
  by (ReadAgain OfFree) j its place = (its.paired, area (ReadAgain OfFree) j place)
  by (ReadAgain OfBlock) j its place = (its.paired, blocks (ReadAgain OfBlock) j place)
  by (ReadAgain OfPhase1) j its place = (its.paired, blocks (ReadAgain OfPhase1) j place)
  by (ReadAgain OfPhase2) j its place = (its.paired, blocks (ReadAgain OfPhase2) j place)
  by Phase1Read j its place = blocks Phase1Read j place
  by Phase2Read j its place = blocks Phase2Read j place
  by Phase1Write j its place = absurd (no_write c.call.op (block_sectors x.setting.layout) _ j.does its.wrote)
  by Phase2Write j its place = absurd (no_write c.call.op (block_sectors x.setting.layout) _ j.does its.wrote)
  by TakeLeader j its place = absurd (no_write c.call.op (block_sectors x.setting.layout) _ j.does its.wrote)
  by SetMode j its place = absurd (no_write c.call.op (block_sectors x.setting.layout) _ j.does its.wrote)
  by FreeLeader j its place = absurd (no_write c.call.op (block_sectors x.setting.layout) _ j.does its.wrote)
  by ClearMode j its place = absurd (no_write c.call.op (block_sectors x.setting.layout) _ j.does its.wrote)

-- A second read of phase 2 comes after the write as the first one did.
phase2_again : (x : Moment) (c : Submitted) → MayCall x → AgainWay (context_at x) x.work c.at c.call (calls_at x) OfPhase2 → LawfulPhase2Read x.setting x.trace x.session x.at c
phase2_again x c h way =
    let w : WayContext = context_at x in
    let ms : List Submitted = calls_at x in
    let b : ReadBehind w x.work Phase2Read c ms = again_behind w x.work OfPhase2 c ms way h.ways in
    let r : Phase2ReadWay w x.work b.first.at b.first.call b.older = b.way in
    record {
      write = r.after.prior;
      last = rest_last w x.work Phase2Read c ms b ∙ asked2_last w x.work b.first.at b.first.call b.older b.ways r;
      is_phase2 = prior_at Phase2_write b.older x.work Phase2Write r.after refl;
      ordered = read_after r.after.prior c (written_before w x.work Phase2Read c ms b r.after.prior r.done);
    }

read_phase2 : (x : Moment) (step : LeaseStep) (c : Submitted) → MayCall x → c.call.purpose ≡ Lease x.work step → StepWay (context_at x) x.work c.at c.call (calls_at x) step → IsTrue (is_at Phase2_read c)
    → LawfulPhase2Read x.setting x.trace x.session x.at c
read_phase2 x Phase2Read c h is way at = phase2_read_is_lawful x.setting x.trace x.session x.at h.ways x.work c way
read_phase2 x (ReadAgain OfPhase2) c h is way at = phase2_again x c h way
read_phase2 x (ReadAgain (OfArea name)) c h is way at = absurd (other_step c x.work (ReadAgain (OfArea name)) is refl at)
read_phase2 x (ReadAgain OfFree) c h is way at = absurd (other_step c x.work (ReadAgain OfFree) is refl at)
read_phase2 x (ReadAgain OfBlock) c h is way at = absurd (other_step c x.work (ReadAgain OfBlock) is refl at)
read_phase2 x (ReadAgain OfPhase1) c h is way at = absurd (other_step c x.work (ReadAgain OfPhase1) is refl at)
read_phase2 x (ReadArea name) c h is way at = absurd (other_step c x.work (ReadArea name) is refl at)
read_phase2 x ReadBeforeFree c h is way at = absurd (other_step c x.work ReadBeforeFree is refl at)
read_phase2 x ReadBeforeBlock c h is way at = absurd (other_step c x.work ReadBeforeBlock is refl at)
read_phase2 x Phase1Read c h is way at = absurd (other_step c x.work Phase1Read is refl at)
read_phase2 x Phase1Write c h is way at = absurd (other_step c x.work Phase1Write is refl at)
read_phase2 x Phase2Write c h is way at = absurd (other_step c x.work Phase2Write is refl at)
read_phase2 x TakeLeader c h is way at = absurd (other_step c x.work TakeLeader is refl at)
read_phase2 x SetMode c h is way at = absurd (other_step c x.work SetMode is refl at)
read_phase2 x FreeLeader c h is way at = absurd (other_step c x.work FreeLeader is refl at)
read_phase2 x ClearMode c h is way at = absurd (other_step c x.work ClearMode is refl at)

-- ---- reads that are made once more

kind_itself : (read : LeaseRead) → same_kind (kind_of_step (step_of_read read)) (kind_of_read read) ≡ true
kind_itself (OfArea name) = refl
kind_itself OfFree = refl
kind_itself OfBlock = refl
kind_itself OfPhase1 = refl
kind_itself OfPhase2 = refl

same_read : (first c : Submitted) (work : Work) (read : LeaseRead) → first.call.purpose ≡ Lease work (step_of_read read) → c.call.purpose ≡ Lease work (ReadAgain read) → is_same_read first c ≡ true
same_read first c work read its again =
    ap (λ p. elim (lease_step p) as (λ z. Bool) [
      | None ↦ false
      | Some a ↦ elim (lease_step c.call.purpose) as (λ z. Bool) [ None ↦ false | Some b ↦ same_kind (kind_of_step a.1) (kind_of_step b.1) ]
    ]) its
    ∙ (ap (λ p. elim (lease_step p) as (λ z. Bool) [ None ↦ false | Some b ↦ same_kind (kind_of_step (step_of_read read)) (kind_of_step b.1) ]) again ∙ kind_itself read)

-- Such a read is lawful by its way.
again_is_lawful : (x : Moment) (step : LeaseStep) (c : Submitted) → c.call.purpose ≡ Lease x.work step → StepWay (context_at x) x.work c.at c.call (calls_at x) step → is_again c ≡ true
    → LawfulAgain x.setting x.trace x.session x.at c
again_is_lawful x (ReadAgain read) c for way is =
    record {
      first = way.after.prior;
      bytes = way.bytes;
      newest = (ap (λ ms. first_of_list ms) way.after.before, is_first way.after.prior x.work (step_of_read read) way.after.its (first_is_first read));
      same = same_read way.after.prior c x.work read way.after.its for;
      torn = way.torn;
    }
again_is_lawful x step c for way is = absurd (true_is_false (sym is ∙ is_first c x.work step for refl))

reads_op : (st : Setting) (step : LeaseStep) → (n : ℕ) × (read_op st step ≡ ReadSectors n)
reads_op st (ReadArea name) = (area_sectors st.layout, refl)
reads_op st ReadBeforeFree = (area_sectors st.layout, refl)
reads_op st ReadBeforeBlock = (block_sectors st.layout, refl)
reads_op st (ReadAgain (OfArea name)) = (area_sectors st.layout, refl)
reads_op st (ReadAgain OfFree) = (area_sectors st.layout, refl)
reads_op st (ReadAgain OfBlock) = (block_sectors st.layout, refl)
reads_op st (ReadAgain OfPhase1) = (block_sectors st.layout, refl)
reads_op st (ReadAgain OfPhase2) = (block_sectors st.layout, refl)
reads_op st Phase1Write = (block_sectors st.layout, refl)
reads_op st Phase1Read = (block_sectors st.layout, refl)
reads_op st Phase2Write = (block_sectors st.layout, refl)
reads_op st Phase2Read = (block_sectors st.layout, refl)
reads_op st TakeLeader = (block_sectors st.layout, refl)
reads_op st SetMode = (block_sectors st.layout, refl)
reads_op st FreeLeader = (block_sectors st.layout, refl)
reads_op st ClearMode = (block_sectors st.layout, refl)

-- The way of the call itself.
way_of : (x : Moment) (step : LeaseStep) (o : ℕ) (op : Op) (c : Submitted) → IsCallAt x step o op c → StepIs x step op → StepWay (context_at x) x.work c.at c.call (calls_at x) step
way_of x step o op c k next = subst (λ n. StepWay (context_at x) x.work n c.call (calls_at x) step) (sym k.now) (next c.call k.does)

pub reads_are_lawful : (x : Moment) (step : LeaseStep) (c : Submitted) → MayCall x → IsCallAt x step (read_place x step) (read_op x.setting step) c → NextIs x (ReadFor step) → LeaseLawful x.setting x.trace x.session c
reads_are_lawful x step c h k next =
    let way : StepWay (context_at x) x.work c.at c.call (calls_at x) step = way_of x step (read_place x step) (read_op x.setting step) c k next in
    let n = reads_op x.setting step in
    let reads : c.call.op ≡ ReadSectors n.0 = k.does ∙ n.1 in
    record {
      active = λ area. h.active;
      writes = λ r is plain. absurd (none_some r (sym (ap (λ o. record_of o) reads) ∙ is));
      alone = λ works. alone_there x c h k.spot;
      reads = subst (λ p. IsRightRead x.setting (spot_of_call x.setting.layout c) c p) (sym k.for) (read_right x step c (read_place x step) k way refl);
      sees = λ is. absurd (lease_sees c x.work step k.for is);
      again = λ is. subst (λ z. LawfulAgain x.setting x.trace x.session z c) (sym k.spot) (again_is_lawful x step c k.for way is);
      turn = λ turn is. absurd (none_some turn (sym (ap (λ o. option_and_then turn_of_record (record_of o)) reads) ∙ is));
      block = λ b is. absurd (no_value b (block_written c) is (read_writes_no_block c n.0 reads));
      phase2 = λ at. subst (λ z. LawfulPhase2Read x.setting x.trace x.session z c) (sym k.spot) (read_phase2 x step c h k.for way at);
      leader = λ l is. absurd (no_value l (leader_written c) is (read_writes_no_leader c n.0 reads));
    }

-- ---- blocks

write_step : (x : Moment) (step : LeaseStep) (c : Submitted) (r : Rec) → c.call.op ≡ WriteRecord r → (is_write_step step ≡ true) → IsRightRead x.setting (spot_of_call x.setting.layout c) c (Lease x.work step)
write_step x (ReadArea name) c r writes is = absurd (false_is_true is)
write_step x ReadBeforeFree c r writes is = absurd (false_is_true is)
write_step x ReadBeforeBlock c r writes is = absurd (false_is_true is)
write_step x (ReadAgain read) c r writes is = absurd (false_is_true is)
write_step x Phase1Read c r writes is = absurd (false_is_true is)
write_step x Phase2Read c r writes is = absurd (false_is_true is)
write_step x Phase1Write c r writes is = ap (λ o. is_write o) writes
write_step x Phase2Write c r writes is = ap (λ o. is_write o) writes
write_step x TakeLeader c r writes is = ap (λ o. is_write o) writes
write_step x SetMode c r writes is = ap (λ o. is_write o) writes
write_step x FreeLeader c r writes is = ap (λ o. is_write o) writes
write_step x ClearMode c r writes is = ap (λ o. is_write o) writes

-- A write is no read of phase 2.
no_phase2_read : (x : Moment) (c : Submitted) (step : LeaseStep) → is_write_step step ≡ true → is_at Phase2_read c ≡ true → c.call.purpose ≡ Lease x.work step → ⊥
no_phase2_read x c Phase2Read writing at is = false_is_true writing
no_phase2_read x c (ReadArea name) writing at is = false_is_true writing
no_phase2_read x c ReadBeforeFree writing at is = false_is_true writing
no_phase2_read x c ReadBeforeBlock writing at is = false_is_true writing
no_phase2_read x c (ReadAgain read) writing at is = false_is_true writing
no_phase2_read x c Phase1Read writing at is = false_is_true writing
no_phase2_read x c Phase1Write writing at is = other_step c x.work Phase1Write is refl at
no_phase2_read x c Phase2Write writing at is = other_step c x.work Phase2Write is refl at
no_phase2_read x c TakeLeader writing at is = other_step c x.work TakeLeader is refl at
no_phase2_read x c SetMode writing at is = other_step c x.work SetMode is refl at
no_phase2_read x c FreeLeader writing at is = other_step c x.work FreeLeader is refl at
no_phase2_read x c ClearMode writing at is = other_step c x.work ClearMode is refl at

-- Nor is it a read that is made once more.
write_first : (c : Submitted) (work : Work) (step : LeaseStep) → is_write_step step ≡ true → c.call.purpose ≡ Lease work step → is_again c ≡ false
write_first c work (ReadAgain read) writing is = absurd (false_is_true writing)
write_first c work step writing is = is_first c work step is refl

-- What a block that is written next is.
record BlockMade (x : Moment) (step : LeaseStep) (b : Block) (c : Submitted) : Type 0 where
  writing : is_write_step step ≡ true
  lawful : LawfulBlockStep x.setting x.trace x.session x.at c b step
  named : IsVerified (context_at x) (calls_at x)
  known : IsSome (own_block x.setting.layout x.session.id (calls_at x))

verified_by_own : (x : Moment) → MayCall x → (own : Block) → block_submitted (calls_at x) ≡ Some own → IsVerified (context_at x) (calls_at x)
verified_by_own x h own is = is_verified (context_at x) (calls_at x) h.ways own is

known_by_own : (x : Moment) (own : Block) → block_submitted (calls_at x) ≡ Some own → IsSome (own_block x.setting.layout x.session.id (calls_at x))
known_by_own x own is = ap (λ o. is_some o) (own_is x.setting x.trace x.session x.at own is)

block_made : (x : Moment) (step : LeaseStep) (b : Block) (c : Submitted) (o : ℕ) → MayCall x → IsCallAt x step o (WriteRecord (record_at x b)) c → BlockIsNext x b step → BlockMade x step b c
block_made x Phase1Write b c o h k next = let l : LawfulPhase1 x.setting x.trace x.session x.at c b = next.0 c in record { writing = refl; lawful = l; named = next.1; known = ap (λ o. is_some o) l.known }
block_made x Phase2Write b c o h k next =
    let way : Phase2Way (context_at x) x.work c.call (calls_at x) = way_of x Phase2Write o (WriteRecord (record_at x b)) c k next in
    record {
      writing = refl;
      lawful = phase2_is_lawful x.setting x.trace x.session x.at h.ways x.work c b way (block_is (context_at x) (calls_at x) c b k.does);
      named = verified_by_own x h way.own (clear_own (context_at x) x.work c.call (calls_at x) h.ways way);
      known = known_by_own x way.own (clear_own (context_at x) x.work c.call (calls_at x) h.ways way);
    }
block_made x SetMode b c o h k next =
    let way : ModeWay (context_at x) x.work c.at c.call (calls_at x) = way_of x SetMode o (WriteRecord (record_at x b)) c k next in
    record { writing = refl; lawful = set_mode_is_lawful x.setting x.trace x.session x.at h.ways x.work c b way (block_is (context_at x) (calls_at x) c b k.does); named = verified_by_own x h way.own way.known; known = known_by_own x way.own way.known }
block_made x ClearMode b c o h k next =
    let way : ClearWay (context_at x) c.call (calls_at x) = way_of x ClearMode o (WriteRecord (record_at x b)) c k next in
    record { writing = refl; lawful = clear_mode_is_lawful x.setting x.trace x.session x.at h.ways c b way (block_is (context_at x) (calls_at x) c b k.does); named = verified_by_own x h way.own way.known; known = known_by_own x way.own way.known }
block_made x (ReadArea name) b c o h k next = absurd (no_write c.call.op (area_sectors x.setting.layout) (record_at x b) (way_of x (ReadArea name) o (WriteRecord (record_at x b)) c k next) k.does)
block_made x ReadBeforeFree b c o h k next = absurd (no_write c.call.op (area_sectors x.setting.layout) (record_at x b) (way_of x ReadBeforeFree o (WriteRecord (record_at x b)) c k next).reads k.does)
block_made x ReadBeforeBlock b c o h k next = absurd (no_write c.call.op (block_sectors x.setting.layout) (record_at x b) (way_of x ReadBeforeBlock o (WriteRecord (record_at x b)) c k next).reads k.does)
block_made x (ReadAgain read) b c o h k next = absurd (no_write c.call.op (sectors_of_read x.setting.layout read) (record_at x b) (way_of x (ReadAgain read) o (WriteRecord (record_at x b)) c k next).reads k.does)
block_made x Phase1Read b c o h k next = absurd (no_write c.call.op (block_sectors x.setting.layout) (record_at x b) (way_of x Phase1Read o (WriteRecord (record_at x b)) c k next).reads k.does)
block_made x Phase2Read b c o h k next = absurd (no_write c.call.op (block_sectors x.setting.layout) (record_at x b) (way_of x Phase2Read o (WriteRecord (record_at x b)) c k next).reads k.does)
block_made x TakeLeader b c o h k next = absurd (two_records x c b (way_of x TakeLeader o (WriteRecord (record_at x b)) c k next).leader k.does (way_of x TakeLeader o (WriteRecord (record_at x b)) c k next).wrote)
block_made x FreeLeader b c o h k next = absurd (two_records x c b (way_of x FreeLeader o (WriteRecord (record_at x b)) c k next).leader k.does (way_of x FreeLeader o (WriteRecord (record_at x b)) c k next).wrote)

-- The next block is at the place of its record, which names what was verified.
block_placed : (x : Moment) (b : Block) → record_offset x.setting x.session x.at (record_at x b) ≡ Some (next_place x.setting x.trace x.session x.at)
block_placed x b = by x.setting.layout.paired where
  turn : ℕ
  turn = next_turn x.setting x.trace x.session x.at

  by : (q : Bool) → record_offset x.setting x.session x.at (elim q as (λ z. Rec) [
    | false ↦ BlockIs b
    | true ↦ PairIs (record { block = b; turn = turn; lockspace = x.session.lockspace; resource = name_on x.setting x.trace x.session x.at })
  ]) ≡ Some (elim q as (λ z. ℕ) [ false ↦ block_offset x.setting.layout x.at.base x.session.id | true ↦ pair_offset x.setting.layout x.at.base x.session.id (is_first_turn turn) ])
  by false = refl
  by true = refl

leader_placed : (x : Moment) (l : Leader) → record_offset x.setting x.session x.at (leader_record x.setting.layout l) ≡ Some (leader_offset x.at.base)
leader_placed x l = by x.setting.layout.paired where
  by : (q : Bool) → record_offset x.setting x.session x.at (elim q as (λ z. Rec) [ false ↦ LeaderIs l | true ↦ PairLeaderIs l ]) ≡ Some (leader_offset x.at.base)
  by false = refl
  by true = refl

-- A leader is no block of a pair.
no_pair : (x : Moment) (l : Leader) (p : PairBlock) → leader_record x.setting.layout l ≡ PairIs p → ⊥
no_pair x l p is = none_some p.turn (sym (leader_no_turn x.setting.layout l) ∙ ap (λ r. turn_of_record r) is)

pub blocks_are_lawful : (x : Moment) (step : LeaseStep) (b : Block) (c : Submitted) → MayCall x → IsCallAt x step (next_place x.setting x.trace x.session x.at) (WriteRecord (record_at x b)) c
    → NextIs x (WriteBlock step b) → LeaseLawful x.setting x.trace x.session c
blocks_are_lawful x step b c h k next =
    let m : BlockMade x step b c = block_made x step b c (next_place x.setting x.trace x.session x.at) h k next.0 in
    let name : List ℕ = name_on x.setting x.trace x.session x.at in
    let turn : ℕ = next_turn x.setting x.trace x.session x.at in
    record {
      active = λ area. h.active;
      writes = λ r is delta. (
        ap (λ p. is_area_work p) k.for,
        subst (λ (z : Rec). LawfulAreaWrite x.setting x.trace x.session c z) (some_value (record_at x b) r (sym (ap (λ o. record_of o) k.does) ∙ is))
            (record {
              resource = name;
              verified = subst (λ z. HasVerified x.setting x.trace x.session z name) (sym k.spot) (has_verified x.setting x.trace x.session x.at h.ways m.named);
              placed = ap (λ z. record_offset x.setting x.session z (record_at x b)) k.spot ∙ (block_placed x b ∙ ap (λ n. Some n) (sym k.place));
              format = block_format x.setting.layout turn x.session.lockspace name b;
              named = λ p pair. let q : IsPairOf turn x.session.lockspace name b p = pair_recorded x.setting.layout turn x.session.lockspace name b p pair in (q.lockspaces, q.names);
            }),
      );
      alone = λ works. alone_there x c h k.spot;
      reads = subst (λ p. IsRightRead x.setting (spot_of_call x.setting.layout c) c p) (sym k.for) (write_step x step c (record_at x b) k.does m.writing);
      sees = λ is. absurd (lease_sees c x.work step k.for is);
      again = λ is. absurd (true_is_false (sym is ∙ write_first c x.work step m.writing k.for));
      turn = λ n is.
          subst (λ at. LawfulTurn n (base_turn x.setting.layout x.session.id (lease_calls x.setting x.trace x.session at))) (sym k.spot)
          (turn_is_lawful (context_at x) h.host (calls_at x) h.ways m.known c b k.does n is);
      block = λ z is.
          subst (λ (y : Block). LawfulBlockWrite x.setting x.trace x.session c y) (some_value b z (sym (block_is (context_at x) (calls_at x) c b k.does) ∙ is))
          (by_step k.for (subst (λ at. LawfulBlockStep x.setting x.trace x.session at c b step) (sym k.spot) m.lawful));
      phase2 = λ at. absurd (no_phase2_read x c step m.writing at k.for);
      leader = λ l is. absurd (no_value l (leader_written c) is (block_is_no_leader (context_at x) (calls_at x) c b k.does));
    }
  where
    by_step : c.call.purpose ≡ Lease x.work step → LawfulBlockStep x.setting x.trace x.session (spot_of_call x.setting.layout c) c b step → LawfulBlockWrite x.setting x.trace x.session c b
    by_step is lawful = subst (λ p. elim (lease_step p) as (λ z. Type 0) [ None ↦ ⊥ | Some q ↦ LawfulBlockStep x.setting x.trace x.session (spot_of_call x.setting.layout c) c b q.1 ]) (sym is) lawful

-- ---- leaders

-- What a leader that is written next is.
record LeaderMade (x : Moment) (step : LeaseStep) (l : Leader) (c : Submitted) : Type 0 where
  writing : is_write_step step ≡ true
  ballot : MatchBool l.held (LawfulTake x.setting x.trace x.session x.at c l) (LawfulFreeLeader x.setting x.trace x.session x.at c l)
  named : IsVerified (context_at x) (calls_at x)

-- Whose instance was won, the name was verified.
verified_by_won : (x : Moment) → MayCall x → (n : ℕ) → Contains (ended_ballots x.setting.layout (calls_at x)) (n, me x.trace x.session) → IsVerified (context_at x) (calls_at x)
verified_by_won x h n won = let b = ended_wrote x.setting.layout (calls_at x) n (me x.trace x.session) won in verified_by_own x h b.0 b.1

same_leader : (x : Moment) (c : Submitted) (k l : Leader) → c.call.op ≡ WriteRecord (leader_record x.setting.layout k) → c.call.op ≡ WriteRecord (leader_record x.setting.layout l) → k ≡ l
same_leader x c k l one other = some_value k l (sym (leader_is (context_at x) c k one) ∙ leader_is (context_at x) c l other)

leader_made : (x : Moment) (step : LeaseStep) (l : Leader) (c : Submitted) (o : ℕ) → MayCall x → IsCallAt x step o (WriteRecord (leader_record x.setting.layout l)) c → StepIs x step (WriteRecord (leader_record x.setting.layout l))
    → (l.held ≡ false → holds_under x.trace x.session x.at l.lver ≡ false) → LeaderMade x step l c
leader_made x TakeLeader l c o h k next unheld =
    let way : TakeWay (context_at x) x.work c.at c.call (calls_at x) = way_of x TakeLeader o (WriteRecord (leader_record x.setting.layout l)) c k next in
    let same : way.leader ≡ l = same_leader x c way.leader l way.wrote k.does in
    let held : l.held ≡ true = subst (λ (z : Leader). z.held ≡ true) same way.held in
    let won : Contains (ended_ballots x.setting.layout (calls_at x)) (l.lver, me x.trace x.session) =
    subst (λ (z : Leader). Contains (ended_ballots x.setting.layout (calls_at x)) (z.lver, me x.trace x.session)) same (take_won (context_at x) x.work c.at c.call (calls_at x) way)
    in
    record {
      writing = refl;
      ballot = subst (λ b. MatchBool b (LawfulTake x.setting x.trace x.session x.at c l) (LawfulFreeLeader x.setting x.trace x.session x.at c l)) (sym held)
          (record {
            step = ap (λ p. is_at_in Leader_taken p) k.for;
            won = won;
            not_freed = subst (λ (z : Leader). freed (calls_at x) < z.lver) same (take_freed (context_at x) x.work c.at c.call (calls_at x) h.ways way);
          });
      named = verified_by_won x h l.lver won;
    }
leader_made x FreeLeader l c o h k next unheld =
    let way : FreeWay (context_at x) x.work c.at c.call (calls_at x) = way_of x FreeLeader o (WriteRecord (leader_record x.setting.layout l)) c k next in
    let same : way.leader ≡ l = same_leader x c way.leader l way.wrote k.does in
    let free : l.held ≡ false = subst (λ (z : Leader). z.held ≡ false) same way.free in
    let won : Contains (ended_ballots x.setting.layout (calls_at x)) (l.lver, me x.trace x.session) =
    subst (λ (z : Leader). Contains (ended_ballots x.setting.layout (calls_at x)) (z.lver, me x.trace x.session)) same way.won
    in
    record {
      writing = refl;
      ballot = subst (λ b. MatchBool b (LawfulTake x.setting x.trace x.session x.at c l) (LawfulFreeLeader x.setting x.trace x.session x.at c l)) (sym free)
          (record { step = ap (λ p. is_at_in Leader_freed p) k.for; won = won; not_held = unheld free; alone = h.unwritten });
      named = verified_by_won x h l.lver won;
    }
leader_made x (ReadArea name) l c o h k next unheld = absurd (no_write c.call.op (area_sectors x.setting.layout) (leader_record x.setting.layout l) (way_of x (ReadArea name) o (WriteRecord (leader_record x.setting.layout l)) c k next) k.does)
leader_made x ReadBeforeFree l c o h k next unheld = absurd (no_write c.call.op (area_sectors x.setting.layout) (leader_record x.setting.layout l) (way_of x ReadBeforeFree o (WriteRecord (leader_record x.setting.layout l)) c k next).reads k.does)
leader_made x ReadBeforeBlock l c o h k next unheld = absurd (no_write c.call.op (block_sectors x.setting.layout) (leader_record x.setting.layout l) (way_of x ReadBeforeBlock o (WriteRecord (leader_record x.setting.layout l)) c k next).reads k.does)
leader_made x (ReadAgain read) l c o h k next unheld = absurd (no_write c.call.op (sectors_of_read x.setting.layout read) (leader_record x.setting.layout l) (way_of x (ReadAgain read) o (WriteRecord (leader_record x.setting.layout l)) c k next).reads k.does)
leader_made x Phase1Read l c o h k next unheld = absurd (no_write c.call.op (block_sectors x.setting.layout) (leader_record x.setting.layout l) (way_of x Phase1Read o (WriteRecord (leader_record x.setting.layout l)) c k next).reads k.does)
leader_made x Phase2Read l c o h k next unheld = absurd (no_write c.call.op (block_sectors x.setting.layout) (leader_record x.setting.layout l) (way_of x Phase2Read o (WriteRecord (leader_record x.setting.layout l)) c k next).reads k.does)
leader_made x Phase1Write l c o h k next unheld = absurd (two_records x c (way_of x Phase1Write o (WriteRecord (leader_record x.setting.layout l)) c k next).own l (way_of x Phase1Write o (WriteRecord (leader_record x.setting.layout l)) c k next).wrote k.does)
leader_made x Phase2Write l c o h k next unheld = absurd (two_records x c _ l (way_of x Phase2Write o (WriteRecord (leader_record x.setting.layout l)) c k next).wrote k.does)
leader_made x SetMode l c o h k next unheld = absurd (two_records x c _ l (way_of x SetMode o (WriteRecord (leader_record x.setting.layout l)) c k next).wrote k.does)
leader_made x ClearMode l c o h k next unheld = absurd (two_records x c _ l (way_of x ClearMode o (WriteRecord (leader_record x.setting.layout l)) c k next).wrote k.does)

-- What a leader is that the lease writes.
record OwnLeader (x : Moment) (l : Leader) : Type 0 where
  own : owner_of l ≡ me x.trace x.session
  lockspace : l.lockspace ≡ x.session.lockspace
  hosts : l.num_hosts ≡ x.setting.layout.hosts
  resource : l.resource ≡ verified_name x.setting.layout x.session.lockspace (calls_at x)

own_leader : (x : Moment) (l : Leader) → LeaderIsOwn x l → OwnLeader x l
unfolding known
own_leader x l is = record { own = ap (λ (z : Leader). owner_of z) is; lockspace = ap (λ (z : Leader). z.lockspace) is; hosts = ap (λ (z : Leader). z.num_hosts) is; resource = ap (λ (z : Leader). z.resource) is }

itself_same : (a : Owner) → same_owner a a ≡ true
itself_same a = and_from (a.id == a.id) (a.generation == a.generation) (number_itself a.id) (number_itself a.generation)

pub leaders_are_lawful : (x : Moment) (step : LeaseStep) (l : Leader) (c : Submitted) → MayCall x → IsCallAt x step (leader_offset x.at.base) (WriteRecord (leader_record x.setting.layout l)) c
    → NextIs x (WriteLeader step l) → (l.held ≡ false → holds_under x.trace x.session x.at l.lver ≡ false) → LeaseLawful x.setting x.trace x.session c
leaders_are_lawful x step l c h k next unheld =
    let m : LeaderMade x step l c = leader_made x step l c (leader_offset x.at.base) h k next.0 unheld in
    let own : OwnLeader x l = own_leader x l next.1 in
    let verified : HasVerified x.setting x.trace x.session x.at l.resource =
    subst (λ n. HasVerified x.setting x.trace x.session x.at n) (sym own.resource) (has_verified x.setting x.trace x.session x.at h.ways m.named)
    in
    record {
      active = λ area. h.active;
      writes = λ r is plain. (
        ap (λ p. is_area_work p) k.for,
        subst (λ (z : Rec). LawfulAreaWrite x.setting x.trace x.session c z) (some_value (leader_record x.setting.layout l) r (sym (ap (λ o. record_of o) k.does) ∙ is))
            (record {
              resource = l.resource;
              verified = subst (λ z. HasVerified x.setting x.trace x.session z l.resource) (sym k.spot) verified;
              placed = ap (λ z. record_offset x.setting x.session z (leader_record x.setting.layout l)) k.spot ∙ (leader_placed x l ∙ ap (λ n. Some n) (sym k.place));
              format = leader_format x.setting.layout l;
              named = λ p pair. absurd (no_pair x l p pair);
            }),
      );
      alone = λ works. alone_there x c h k.spot;
      reads = subst (λ p. IsRightRead x.setting (spot_of_call x.setting.layout c) c p) (sym k.for) (write_step x step c (leader_record x.setting.layout l) k.does m.writing);
      sees = λ is. absurd (lease_sees c x.work step k.for is);
      again = λ is. absurd (true_is_false (sym is ∙ write_first c x.work step m.writing k.for));
      turn = λ turn is. absurd (none_some turn (sym (written_no_turn x.setting.layout c l k.does) ∙ is));
      block = λ b is. absurd (no_value b (block_written c) is (leader_is_no_block (context_at x) c l k.does));
      phase2 = λ at. absurd (no_phase2_read x c step m.writing at k.for);
      leader = λ z is.
          subst (λ (y : Leader). LawfulLeaderWrite x.setting x.trace x.session (spot_of_call x.setting.layout c) c y) (some_value l z (sym (leader_is (context_at x) c l k.does) ∙ is))
          (subst (λ at. LawfulLeaderWrite x.setting x.trace x.session at c l) (sym k.spot)
          (record { own = subst (λ o. same_owner o (me x.trace x.session) ≡ true) (sym own.own) (itself_same (me x.trace x.session)); names = (own.lockspace, own.hosts, verified); ballot = m.ballot }));
    }
