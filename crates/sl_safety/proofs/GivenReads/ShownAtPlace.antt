-- What stands at a host's place of a resource's area, and what a read shows of it, where each host's block has one sector.
use Rattle.sl_area.specs.AreaSizes.{Layout, Sizes}
use Rattle.sl_area.specs.AreaLayout.{block_offset, block_place, in_area, leader_offset, pair_offset, request_offset, value_offset}
use Rattle.sl_run_law.proofs.Course.CallsAreDistinct.{each_distinct}
use Rattle.sl_run_law.proofs.Front.JoinedLists.{contains_append}
use Rattle.sl_run_law.proofs.Landing.CallLists.{one_call}
use Rattle.sl_run_law.specs.Landing.Landings.{LeftBy}
use Rattle.sl_run.specs.LawfulArea.{IsAreaRead, IsBlockRead, IsRightRead, is_of_format, record_offset}
use Rattle.sl_trace.specs.Leases.{is_area_read, is_block_read, is_on, spot_of_call}
use Rattle.sl_run_law.proofs.Place.Areas.{is_within}
use Rattle.sl_run_law.proofs.Place.Checks.{behind, placed_in_world, same_block}
use Rattle.sl_run_law.proofs.Place.FoundInLists.{numbered_inside, place_is, same_text}
use Rattle.sl_run_law.proofs.Place.PlaceLaws.{resources_hold_leases}
use Rattle.sl_run_law.proofs.Place.TracesOnMachines.{call_law}
use Rattle.sl_run_law.proofs.Place.Seats.{sized_in}
use Rattle.sl_run_law.proofs.Place.Sizes.{IsSized, sector_has_bytes, slot_below}
use Rattle.sl_run_law.specs.Place.Homes.{IsLeaseLanding}
use Rattle.sl_words.proofs.Lists.{contains_cases, contains_none, kept_inside}
use Rattle.sl_words.proofs.Numbers.{at_least_first, back_again}
use Rattle.sl_safety.proofs.Resources.Calls.{IsOwned, Name, holder_is, host_range, made_of, name_of, one_sent, owner_layout, spot_is, there_sent}
use Rattle.sl_safety.proofs.Resources.StepsNameCalls.{finds_it, name_is, named, sent_format, text_same}
use Rattle.sl_safety.specs.Resources.Histories.{is_host}
use Rattle.sl_safety.specs.Resources.SampledReads.{landing_shown, sector_number, step_of_landing}
use Rattle.sl_safety.specs.Resources.HistoryLaws.{spot_of_line}
use Rattle.sl_safety.specs.Resources.SentCalls.{Sent, all_sent, holder_of, reads_blocks, sender_of, step_of}
use Rattle.sl_run.specs.Runs.{Happening}
use Rattle.sl_run.specs.Safety.{LawfulRun, SessionId, session_of_world, setting_in, world_at}
use Rattle.sl_run.specs.Worlds.{Course, Landing, Machine, Program, Sampling, Stamp, World, first_landing, history_of, landed_at, machine_at}
use Rattle.sl_run.specs.declared.header.Header.{Header}
use Rattle.sl_run.specs.declared.header.ResourceLine.{ResourceLine}
use Rattle.sl_run_law.proofs.Sample.SampleLaws.{samples_are_landings}
use Rattle.sl_run_law.specs.Sample.Samples.{IsSampleOf, numbered_landing, sector_place}
use Rattle.sl_sector.specs.declared.sector.Block.{Block}
use Rattle.sl_sector.specs.declared.sector.Rec.TheVariants.{BlockIs, DeltaIs, LeaderIs, PairIs, PairLeaderIs, RequestIs, ValueIs}
use Rattle.sl_sector.specs.declared.sector.Rec.{Rec}
use Rattle.sl_run_law.specs.Sessions.SessionLaws.{made_as}
use Rattle.sl_trace.specs.declared.session.Session.{Session}
use Rattle.sl_trace.specs.Traces.{Setting, Submitted, new_call, record_of, same_place}
use Rattle.sl_trace.specs.declared.effects.Call.{Call}
use Rattle.sl_trace.specs.declared.effects.LeaseStep.TheVariants.{ClearMode, FreeLeader, Phase1Read, Phase1Write, Phase2Read, Phase2Write, ReadAgain, ReadArea, ReadBeforeBlock, ReadBeforeFree, SetMode, TakeLeader}
use Rattle.sl_trace.specs.declared.effects.LeaseStep.{LeaseStep}
use Rattle.sl_trace.specs.declared.effects.LeaseRead.TheVariants.{OfArea, OfBlock, OfFree, OfPhase1, OfPhase2}
use Rattle.sl_trace.specs.declared.effects.Op.TheVariants.{ReadSectors}
use Rattle.sl_trace.specs.declared.effects.Purpose.TheVariants.{Joining, Lease, Leaving, Renewal, RequestRead, RequestWrite, SeeRequest, Survey, ValueRead, ValueWrite}
use Rattle.sl_trace.specs.declared.effects.Purpose.{Purpose}
use Rattle.sl_trace.specs.declared.effects.Spot.{Spot}
use Rattle.sl_trace.specs.declared.effects.Work.{Work}
use Rattle.sl_words.proofs.CaseLaws.{false_is_true, none_some, one_value, some_value, true_is_false}
use Rattle.sl_words.proofs.WordLaws.{and_true}
use Rattle.std.proofs.Common.{ap, arith, inl, inr, refl, subst, sym, ◌∙◌}
use Rattle.std.proofs.Math.Nat.{mul-le-mul_left}
use Rattle.std.proofs.lemmas.Bool.{and_from, eq-eqb, eqb-true}
use Rattle.std.specs.Option.{option_map_or}
use Rattle.std.specs.Prelude.{Bool, Contains, IsTrue, List, None, Option, Some, [], bytes_eq, false, find, if◌then◌else◌, option_and_then, slice_get, true, ℕ, ◌*◌, ◌+◌, ◌-◌, ◌<◌, ◌==◌, ◌∷◌, ◌≡◌, ◌≤◌, ◌⊎◌}
use Rattle.sl_sector.specs.SectorLayouts.{is_first_turn}
use Rattle.sl_safety.specs.Resources.Orders.{LandedAt}

-- ---- a host's place

one_above : (k hosts : ℕ) → k ≤ hosts → k + 1 ≤ hosts + 2
one_above k hosts high = omega (arith, high)

-- The place is in the area.
pub place_within : {s : Sizes} (w : World) (base k : ℕ) → IsSized s w.layout → is_host w k ≡ true → IsTrue (in_area w.layout base (block_offset w.layout base k))
place_within w base k z host =
    is_within w.layout base (block_offset w.layout base k) (at_least_first base (w.layout.sector * (k + 1)))
    (slot_below w.layout.sector base (k + 1) w.layout.hosts w.layout.area (sector_has_bytes w.layout z) (one_above k w.layout.hosts (host_range w k host).1) z.room)

no_request : (base s k : ℕ) → 0 < s → 1 ≤ k → base + s ≡ base + s * (k + 1) → ⊥
no_request base s k some low h =
    let more : s * (k + 1) ≡ s * k + s = grind arith in
    let most : s * 1 ≤ s * k = mul-le-mul_left s low in
    let one : s * 1 ≡ s = grind arith in
    omega (arith, some, h, more, most, one)

one_more : (k hosts : ℕ) → k ≤ hosts → k + 1 ≤ hosts + 1
one_more k hosts high = omega (arith, high)

no_value : (base s area k hosts : ℕ) → 0 < s → k ≤ hosts → s * (hosts + 3) ≤ area → base + area - s ≡ base + s * (k + 1) → ⊥
no_value base s area k hosts some high room h =
    let most : s * (k + 1) ≤ s * (hosts + 1) = mul-le-mul_left s (one_more k hosts high) in
    let more : s * (hosts + 3) ≡ s * (hosts + 1) + s * 2 = grind arith in
    let two : s * 2 ≡ s + s = grind arith in
    omega (arith, some, most, more, two, room, h)

-- What is written there is a block of that host.
record IsBlockOf (s : Session) (k : ℕ) (r : Rec) : Type 0 where
  block : Block
  is : r ≡ BlockIs block
  host : s.id ≡ k

only_blocks : {sizes : Sizes} (st : Setting) (w : World) (s : Session) (at : Spot) (k : ℕ) (r : Rec) (o : ℕ) → w.layout.paired ≡ false → is_of_format w.layout r ≡ true → st.layout ≡ w.layout → IsSized sizes w.layout → is_host w k ≡ true
    → record_offset st s at r ≡ Some o → o ≡ block_offset w.layout at.base k → IsBlockOf s k r
only_blocks st w s at k (DeltaIs d) o plain format layout z host placed here = absurd (none_some o placed)
only_blocks st w s at k (LeaderIs d) o plain format layout z host placed here =
    absurd (behind w.layout at.base k z (some_value (leader_offset at.base) o placed ∙ here))
only_blocks st w s at k (BlockIs b) o plain format layout z host placed here =
    record {
      block = b;
      is = refl;
      host = same_block w.layout at.base s.id k z
          (ap (λ (g : Layout). block_offset g at.base s.id) (sym layout) ∙ some_value (block_offset st.layout at.base s.id) o placed ∙ here);
    }
only_blocks st w s at k (PairIs d) o plain format layout z host placed here = absurd (true_is_false (sym format ∙ plain))
only_blocks st w s at k (PairLeaderIs d) o plain format layout z host placed here = absurd (true_is_false (sym format ∙ plain))
only_blocks st w s at k (RequestIs d) o plain format layout z host placed here =
    absurd (no_request at.base w.layout.sector k (sector_has_bytes w.layout z) (host_range w k host).0
    (ap (λ (g : Layout). request_offset g at.base) (sym layout) ∙ some_value (request_offset st.layout at.base) o placed ∙ here))
only_blocks st w s at k (ValueIs d) o plain format layout z host placed here =
    absurd (no_value at.base w.layout.sector w.layout.area k w.layout.hosts (sector_has_bytes w.layout z) (host_range w k host).1 z.room
    (ap (λ (g : Layout). value_offset g at.base) (sym layout) ∙ some_value (value_offset st.layout at.base) o placed ∙ here))

-- ---- what landed there

-- A landing at a host's place, with the block that a session of the host sent.
pub record IsBlockLanding (w : World) (r : ResourceLine) (k : ℕ) (l : Landing) : Type 0 where
  pub sent : Sent
  pub there : Contains (all_sent w) sent
  pub on : is_on w.layout (spot_of_line r) sent.course.call ≡ true
  pub block : Block
  pub writes : record_of sent.course.call.op ≡ Some (BlockIs block)
  pub named : l.writer ≡ Some (sent.machine, sent.course.call.number)
  pub left : LeftBy w l sent.course (BlockIs block)
  pub step : step_of_landing w l ≡ step_of sent
  pub host : (holder_of w (sender_of sent)).id ≡ k
  pub after : step_of sent < l.step
  pub before : (s : Stamp) → sent.course.answered ≡ Some s → l.step < s.step

abbrev found_step : Option Course → ℕ
found_step o = option_map_or (λ c. c.made.step) o 0

pub step_is : (w : World) (l : Landing) (m n : ℕ) (a : Machine) (c : Course) → l.writer ≡ Some (m, n) → machine_at w m ≡ Some a
    → find (λ (d : Course). d.call.number == n) a.calls ≡ Some c → step_of_landing w l ≡ c.made.step
step_is w l m n a c named at found =
    ap (λ (o : Option (ℕ × ℕ)). elim o as (λ z. ℕ) [
      | None ↦ 0
      | Some p ↦ found_step (option_and_then (λ (b : Machine). find (λ (d : Course). d.call.number == p.1) b.calls) (machine_at w p.0))
    ]) named
    ∙ ap (λ (o : Option Machine). found_step (option_and_then (λ (b : Machine). find (λ (d : Course). d.call.number == n) b.calls) o)) at ∙ ap found_step found

pub sender_is : (w : World) (r : ResourceLine) (l : Landing) (d : IsLeaseLanding w r l)
    → session_of_world w (named d.written.machine d.written.wrote.course.daemon d.written.wrote.course.call.session) ≡ Some d.written.found
sender_is w r l d =
    let i : SessionId = d.written.session in
    let c : Course = d.written.wrote.course in
    let its = d.written.is in
    let both = and_true (c.daemon == i.daemon) (c.call.session == i.number) its.2 in
    ap (session_of_world w)
    (name_is d.written.machine c.daemon c.call.session i.machine i.daemon i.number (sym its.1) (eqb-true c.daemon i.daemon both.0) (eqb-true c.call.session i.number both.1))
    ∙ its.0

pub block_landing : (p : Program) (h : Header) (xs : List Happening) → LawfulRun p h xs → (world_at p h xs).layout.paired ≡ false → (r : ResourceLine) → Contains h.resources r → (k : ℕ) → is_host (world_at p h xs) k ≡ true
    → (l : Landing) → Contains (world_at p h xs).landings l → l.path ≡ r.path → l.offset ≡ block_offset (world_at p h xs).layout r.offset k → IsBlockLanding (world_at p h xs) r k l
block_landing p h xs run plain r there k host l landed path offset =
    let w : World = world_at p h xs in
    let z = sized_in p h xs run in
    let d : IsLeaseLanding w r l =
    resources_hold_leases p h xs run r there l landed path (subst (λ o. IsTrue (in_area w.layout r.offset o)) (sym offset) (place_within w r.offset k z host)) in
    let b : IsBlockOf d.written.found.session k d.written.wrote.record_written =
    only_blocks (setting_in d.written.found) w d.written.found.session (spot_of_line r) k d.written.wrote.record_written l.offset plain
    (sent_format p h xs run (record { machine = d.written.machine; course = d.written.wrote.course })
    (there_sent w d.written.machine d.written.wrote.machine d.written.wrote.course d.written.wrote.at d.written.wrote.has) d.written.wrote.record_written d.written.wrote.writes d.other)
    (placed_in_world p h xs run r l d) z host d.placed offset in
    let wrote = d.written.wrote in
    let c : Course = wrote.course in
    let m : ℕ = d.written.machine in
    let number : l.writer ≡ Some (m, c.call.number) = d.written.named ∙ ap (λ n. Some (m, n)) (sym wrote.number) in
    record {
      sent = record { machine = m; course = c };
      there = there_sent w m wrote.machine c wrote.at wrote.has;
      on = and_from _ _ (text_same c.call.path r.path (wrote.place.0 ∙ path))
          (subst (λ o. in_area w.layout r.offset o ≡ true) (sym offset ∙ sym wrote.place.1) (place_within w r.offset k z host));
      block = b.block;
      writes = wrote.writes ∙ ap (λ x. Some x) b.is;
      named = number;
      left = subst (λ x. LeftBy w l c x) b.is wrote.left;
      step = step_is w l m c.call.number wrote.machine c number wrote.at
          (finds_it (λ (x : Course). x.call.number == c.call.number) wrote.machine.calls c wrote.has (eq-eqb c.call.number c.call.number refl)
          (λ y inside same. one_call wrote.machine.calls y c (each_distinct p h xs run m wrote.machine wrote.at) inside wrote.has same));
      host = ap (λ o. o.id) (holder_is w (named m c.daemon c.call.session) d.written.found (sender_is w r l d)) ∙ b.host;
      after = wrote.after.0;
      before = λ s answered. (wrote.before s answered).0;
    }

-- Where each host's block has one sector, that is the host's place.
pub plain_place : (g : Layout) → g.paired ≡ false → (base k turn : ℕ) → block_place g base k turn ≡ block_offset g base k
plain_place g plain base k turn = ap (λ b. elim b as (λ x. ℕ) [ false ↦ block_offset g base k | true ↦ pair_offset g base k (is_first_turn turn) ]) plain

-- A call that landed there sent a block.
pub landed_block : (p : Program) (h : Header) (xs : List Happening) → LawfulRun p h xs → (world_at p h xs).layout.paired ≡ false → (r : ResourceLine) → Contains h.resources r → (k : ℕ)
    → is_host (world_at p h xs) k ≡ true → (x : Sent) (l : Landing) → LandedAt (world_at p h xs) r k x l → (b : IsBlockLanding (world_at p h xs) r k l) × (b.sent ≡ x)
landed_block p h xs run plain r there k host x l at =
    let w : World = world_at p h xs in
    let b = block_landing p h xs run plain r there k host l at.landed at.place.0 (at.place.1.1 ∙ plain_place w.layout plain r.offset k at.place.1.0) in
    let same : name_of b.sent ≡ name_of x = some_value (name_of b.sent) (name_of x) (sym b.named ∙ at.writer) in
    (b, one_sent p h xs run b.sent x b.there at.sent (ap (λ (n : Name). n.0) same) (ap (λ (n : Name). n.1) same))

-- ---- what a place has held

-- What ever stood at a place landed there, or stood there at first.
pub in_history : (w : World) (path : List ℕ) (offset : ℕ) (x : Landing) → Contains (history_of w path offset) x
    → (x.path ≡ path) × (x.offset ≡ offset) × (Contains w.landings x ⊎ (x ≡ first_landing w path offset))
in_history w path offset x there = by (contains_append (landed_at w path offset) (first_landing w path offset ∷ []) x there) where
  by : Contains (landed_at w path offset) x ⊎ Contains (first_landing w path offset ∷ []) x
      → (x.path ≡ path) × (x.offset ≡ offset) × (Contains w.landings x ⊎ (x ≡ first_landing w path offset))
  by (inl landed) =
      let its = kept_inside (λ (l : Landing). same_place l.path l.offset path offset) w.landings x landed in
      let place = place_is x.path x.offset path offset its.1 in
      (place.0, place.1, inl its.0)
  by (inr at_first) =
      elim (contains_cases (first_landing w path offset) [] x at_first) as (λ z. (x.path ≡ path) × (x.offset ≡ offset) × (Contains w.landings x ⊎ (x ≡ first_landing w path offset))) [
        | inl here ↦ (ap (λ l. l.path) (sym here), ap (λ l. l.offset) (sym here), inr (sym here))
        | inr none ↦ absurd (contains_none x none)
      ]

-- What stands at a host's place was there at first, or is a block that landed.
pub stands_there : (p : Program) (h : Header) (xs : List Happening) → LawfulRun p h xs → (world_at p h xs).layout.paired ≡ false → (r : ResourceLine) → Contains h.resources r → (k : ℕ) → is_host (world_at p h xs) k ≡ true
    → (i : ℕ) (l : Landing) → numbered_landing (history_of (world_at p h xs) r.path (block_offset (world_at p h xs).layout r.offset k)) i ≡ Some l
    → (l ≡ first_landing (world_at p h xs) r.path (block_offset (world_at p h xs).layout r.offset k)) ⊎ IsBlockLanding (world_at p h xs) r k l
stands_there p h xs run plain r there k host i l at =
    let w : World = world_at p h xs in
    let place : ℕ = block_offset w.layout r.offset k in
    let its = in_history w r.path place l (numbered_inside (history_of w r.path place) i l at) in
    elim its.2 as (λ z. (l ≡ first_landing w r.path place) ⊎ IsBlockLanding w r k l) [
      | inl landed ↦ inr (block_landing p h xs run plain r there k host l landed its.0 its.1)
      | inr first ↦ inl first
    ]

-- ---- what a read shows

abbrev call_for : Purpose → Submitted
call_for p = new_call 0 0 (record { number = 0; session = 0; purpose = p; path = []; offset = 0; op = ReadSectors 0 })

abbrev looks_for : Purpose → Bool
looks_for p = is_block_read (call_for p)

abbrev area_for : Purpose → Bool
area_for p = is_area_read (call_for p)

-- A read of all blocks is a read of the area, or of the blocks alone, from its first sector.
abbrev pub IsPlaced : Setting → Spot → Submitted → Type 0
IsPlaced st at m = ((is_area_read m ≡ true) × IsAreaRead st at m) ⊎ ((is_area_read m ≡ false) × IsBlockRead st at m)

placed_step : (st : Setting) (at : Spot) (m : Submitted) (work : Work) (step : LeaseStep) → m.call.purpose ≡ Lease work step → is_block_read m ≡ true
    → IsRightRead st at m (Lease work step) → IsPlaced st at m
placed_step st at m work (ReadArea name) is h right = inl (ap area_for is, right)
placed_step st at m work ReadBeforeFree is h right = inl (ap area_for is, right)
placed_step st at m work ReadBeforeBlock is h right = inr (ap area_for is, right.1)
placed_step st at m work (ReadAgain (OfArea name)) is h right = inl (ap area_for is, right.1)
placed_step st at m work (ReadAgain OfFree) is h right = inl (ap area_for is, right.1)
placed_step st at m work (ReadAgain OfBlock) is h right = inr (ap area_for is, right.1)
placed_step st at m work (ReadAgain OfPhase1) is h right = inr (ap area_for is, right.1)
placed_step st at m work (ReadAgain OfPhase2) is h right = inr (ap area_for is, right.1)
placed_step st at m work Phase1Read is h right = inr (ap area_for is, right)
placed_step st at m work Phase2Read is h right = inr (ap area_for is, right)
placed_step st at m work Phase1Write is h right = absurd (false_is_true (sym (ap looks_for is) ∙ h))
placed_step st at m work Phase2Write is h right = absurd (false_is_true (sym (ap looks_for is) ∙ h))
placed_step st at m work TakeLeader is h right = absurd (false_is_true (sym (ap looks_for is) ∙ h))
placed_step st at m work SetMode is h right = absurd (false_is_true (sym (ap looks_for is) ∙ h))
placed_step st at m work FreeLeader is h right = absurd (false_is_true (sym (ap looks_for is) ∙ h))
placed_step st at m work ClearMode is h right = absurd (false_is_true (sym (ap looks_for is) ∙ h))

placed_for : (st : Setting) (at : Spot) (m : Submitted) (p : Purpose) → m.call.purpose ≡ p → is_block_read m ≡ true → IsRightRead st at m p → IsPlaced st at m
placed_for st at m (Lease work step) is h right = placed_step st at m work step is h right
placed_for st at m (RequestRead j) is h right = absurd (false_is_true (sym (ap looks_for is) ∙ h))
placed_for st at m (RequestWrite j o) is h right = absurd (false_is_true (sym (ap looks_for is) ∙ h))
placed_for st at m (ValueWrite j) is h right = absurd (false_is_true (sym (ap looks_for is) ∙ h))
placed_for st at m (ValueRead j) is h right = absurd (false_is_true (sym (ap looks_for is) ∙ h))
placed_for st at m (Joining j step) is h right = absurd (false_is_true (sym (ap looks_for is) ∙ h))
placed_for st at m Renewal is h right = absurd (false_is_true (sym (ap looks_for is) ∙ h))
placed_for st at m Survey is h right = absurd (false_is_true (sym (ap looks_for is) ∙ h))
placed_for st at m (Leaving j) is h right = absurd (false_is_true (sym (ap looks_for is) ∙ h))
placed_for st at m SeeRequest is h right = absurd (false_is_true (sym (ap looks_for is) ∙ h))

-- A read of all blocks of a resource, as its trace has it.
pub read_placed : (p : Program) (h : Header) (xs : List Happening) → LawfulRun p h xs → (r : ResourceLine) → Contains h.resources r → (x : Sent) (o : IsOwned (world_at p h xs) x)
    → is_on (world_at p h xs).layout (spot_of_line r) x.course.call ≡ true → reads_blocks x.course ≡ true
    → IsPlaced o.trace.daemon.setting (spot_of_line r) (made_as (made_of o))
read_placed p h xs run r there x o on reads =
    let w : World = world_at p h xs in
    let st : Setting = o.trace.daemon.setting in
    let q : Submitted = o.trace.submitted_as in
    let d = made_of o in
    let law = call_law st o.trace.daemon.trace o.session q d o.trace.lawful o.its o.mine in
    let spot : spot_of_call st.layout (made_as d) ≡ spot_of_line r =
    ap (λ (g : Layout). spot_of_call g (made_as d)) (owner_layout p h xs run x o)
    ∙ spot_is p h xs run r there (made_as d) (ap (is_on w.layout (spot_of_line r)) o.trace.is.call ∙ on) in
    placed_for st (spot_of_line r) (made_as d) q.call.purpose refl (ap (λ (c : Call). is_block_read (new_call 0 0 c)) o.trace.is.call ∙ reads)
    (subst (λ at. IsRightRead st at (made_as d) q.call.purpose) spot (law.0.area.0.reads d.index q.call o.session d.call law.1))

place_of_area : (base n k : ℕ) → base + (k + 1) * n ≡ base + n * (k + 1)
place_of_area base n k = grind arith

behind_first : (base n j : ℕ) → base + n * (1 + 1) + j * n ≡ base + n * (j + 1 + 1)
behind_first base n j = grind arith

place_of_block : (base n k : ℕ) → 1 ≤ k → base + n * (1 + 1) + (k - 1) * n ≡ base + n * (k + 1)
place_of_block base n k low = behind_first base n (k - 1) ∙ ap (λ j. base + n * (j + 1)) (back_again k low)

sector_if : (b : Bool) (is : Bool) (k : ℕ) → is ≡ b → (if is then k + 1 else k - 1) ≡ (if b then k + 1 else k - 1)
sector_if b is k h = ap (λ (x : Bool). if x then k + 1 else k - 1) h

place_by : {sizes : Sizes} (st : Setting) (w : World) (r : ResourceLine) (c : Course) (q : Submitted) (k : ℕ) → st.layout ≡ w.layout → IsSized sizes w.layout → is_host w k ≡ true → q.call ≡ c.call
    → IsPlaced st (spot_of_line r) q → sector_place w c (sector_number c k) ≡ block_offset w.layout r.offset k
place_by st w r c q k layout z host call (inl area) =
    let kind : is_area_read (new_call 0 0 c.call) ≡ true = ap (λ (y : Call). is_area_read (new_call 0 0 y)) (sym call) ∙ area.0 in
    ap (λ n. c.call.offset + n * w.layout.sector) (sector_if true (is_area_read (new_call 0 0 c.call)) k kind)
    ∙ ap (λ n. n + (k + 1) * w.layout.sector) (ap (λ (y : Call). y.offset) (sym call) ∙ area.1.0) ∙ place_of_area r.offset w.layout.sector k
place_by st w r c q k layout z host call (inr alone) =
    let kind : is_area_read (new_call 0 0 c.call) ≡ false = ap (λ (y : Call). is_area_read (new_call 0 0 y)) (sym call) ∙ alone.0 in
    ap (λ n. c.call.offset + n * w.layout.sector) (sector_if false (is_area_read (new_call 0 0 c.call)) k kind)
    ∙ ap (λ n. n + (k - 1) * w.layout.sector) (ap (λ (y : Call). y.offset) (sym call) ∙ alone.1.0 ∙ ap (λ (g : Layout). block_offset g r.offset 1) layout)
    ∙ place_of_block r.offset w.layout.sector k (host_range w k host).0

-- The sector of a host's block in a read is the host's place.
pub sector_is : (p : Program) (h : Header) (xs : List Happening) → LawfulRun p h xs → (r : ResourceLine) → Contains h.resources r → (x : Sent) (o : IsOwned (world_at p h xs) x)
    → is_on (world_at p h xs).layout (spot_of_line r) x.course.call ≡ true → reads_blocks x.course ≡ true → (k : ℕ) → is_host (world_at p h xs) k ≡ true
    → sector_place (world_at p h xs) x.course (sector_number x.course k) ≡ block_offset (world_at p h xs).layout r.offset k
sector_is p h xs run r there x o on reads k host =
    place_by o.trace.daemon.setting (world_at p h xs) r x.course (made_as (made_of o)) k (owner_layout p h xs run x o) (sized_in p h xs run) host o.trace.is.call
    (read_placed p h xs run r there x o on reads)

-- What a read shows of a host: the landing and the sample of it.
pub record IsShownOf (w : World) (r : ResourceLine) (x : Sent) (k : ℕ) (l : Landing) : Type 0 where
  pub sampling : Sampling
  pub taken : slice_get x.course.samples (sector_number x.course k) ≡ Some sampling
  pub sample : IsSampleOf w x.course (sector_number x.course k) sampling
  pub place : numbered_landing (history_of w r.path (block_offset w.layout r.offset k)) sampling.index ≡ Some l
  pub is : sample.landing ≡ l

sample_by : (w : World) (at : Spot) (k : ℕ) (l : Landing) (o : Option Sampling)
    → option_and_then (λ (s : Sampling). numbered_landing (history_of w at.path (block_offset w.layout at.base k)) s.index) o ≡ Some l
    → (s : Sampling) × (o ≡ Some s) × (numbered_landing (history_of w at.path (block_offset w.layout at.base k)) s.index ≡ Some l)
sample_by w at k l None is = absurd (none_some l is)
sample_by w at k l (Some s) is = (s, refl, is)

pub shown_of : (p : Program) (h : Header) (xs : List Happening) → LawfulRun p h xs → (r : ResourceLine) → Contains h.resources r → (x : Sent) (o : IsOwned (world_at p h xs) x)
    → is_on (world_at p h xs).layout (spot_of_line r) x.course.call ≡ true → reads_blocks x.course ≡ true → (k : ℕ) → is_host (world_at p h xs) k ≡ true
    → (l : Landing) → landing_shown (world_at p h xs) (spot_of_line r) x.course k ≡ Some l → IsShownOf (world_at p h xs) r x k l
shown_of p h xs run r there x o on reads k host l shows =
    let w : World = world_at p h xs in
    let c : Course = x.course in
    let s = sample_by w (spot_of_line r) k l (slice_get c.samples (sector_number c k)) shows in
    let sample = samples_are_landings p h xs run x.machine o.there.machine c (sector_number c k) s.0 o.there.at o.there.has s.1 in
    let path : c.call.path ≡ r.path = same_text c.call.path r.path (and_true (bytes_eq c.call.path r.path) (in_area w.layout r.offset c.call.offset) on).0 in
    let here : numbered_landing (history_of w c.call.path (sector_place w c (sector_number c k))) s.0.index ≡ Some l =
    ap (λ n. numbered_landing (history_of w c.call.path n) s.0.index) (sector_is p h xs run r there x o on reads k host)
    ∙ ap (λ y. numbered_landing (history_of w y (block_offset w.layout r.offset k)) s.0.index) path ∙ s.2 in
    record {
      sampling = s.0;
      taken = s.1;
      sample = sample;
      place = s.2;
      is = one_value sample.landing l (numbered_landing (history_of w c.call.path (sector_place w c (sector_number c k))) s.0.index) sample.seen here;
    }
