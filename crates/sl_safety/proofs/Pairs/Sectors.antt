-- What a sector of a host's pair holds after a step is what its newest landing spells.
use Rattle.sl_area.specs.AreaSizes.{Layout, record_in}
use Rattle.sl_area.specs.AreaLayout.{area_sectors, block_sectors, pair_offset}
use Rattle.sl_area.specs.AreaRecords.{fresh_block_at, fresh_leader, fresh_pair, leader_record, no_request, no_value}
use Rattle.sl_area.proofs.FreshRecords.{block_with_pairs}
use Rattle.sl_safety.proofs.GivenReads.FreshAtFirst.{sector_record, spelled_at_first}
use Rattle.sl_safety.proofs.GivenReads.BlocksNameHosts.{block_host, own_host}
use Rattle.sl_safety.proofs.GivenReads.NewestShown.{has_number, history_descends, numbers_order}
use Rattle.sl_safety.proofs.GivenReads.ShownAtPlace.{in_history}
use Rattle.sl_safety.proofs.Resources.Calls.{host_range, owned}
use Rattle.sl_safety.proofs.Resources.StepsNameCalls.{text_same}
use Rattle.sl_safety.proofs.Resources.CallParts.{Standing, standing}
use Rattle.sl_safety.specs.Resources.Histories.{is_host}
use Rattle.sl_safety.specs.Resources.SampledReads.{step_of_landing, stored_in}
use Rattle.sl_safety.specs.Resources.Orders.{BlockSent}
use Rattle.sl_safety.specs.Resources.SentCalls.{Sent, step_of}
use Rattle.sl_safety.proofs.Pairs.PairLandings.{IsPairLanding, SentTo, pair_landing, pair_written, sent_to, turn_sent}
use Rattle.sl_safety.proofs.Pairs.OwnLandings.{landing_found}
use Rattle.sl_safety.proofs.Pairs.Places.{area_number, pair_within}
use Rattle.sl_safety.proofs.Pairs.SentBlocks.{as_block, pair_found, told_of}
use Rattle.sl_safety.proofs.Pairs.LogEvents.{landed_is, lands_at, turn_is, whole_is}
use Rattle.sl_safety.specs.Pairs.PairLogs.{pair_log}
use Rattle.sl_ballot_law.specs.PairLogs.Logs.{At_first, Left, NoLanding, SectorAt, stored_at_first}
use Rattle.sl_ballot_law.specs.Pairs.State.{Stored, is_first}
use Rattle.sl_words.proofs.Lists.{kept}
use Rattle.sl_run.specs.Runs.{Happening}
use Rattle.sl_run.specs.Safety.{LawfulRun, world_at}
use Rattle.sl_run.specs.Worlds.{Landing, Program, World, first_landing, history_of, initial_of_resource, initial_record, landed_at}
use Rattle.sl_run.specs.declared.header.Header.{Header}
use Rattle.sl_run.specs.declared.header.ResourceLine.{ResourceLine}
use Rattle.sl_run_law.proofs.Front.JoinedLists.{contains_left}
use Rattle.sl_run_law.proofs.Place.FoundInLists.{numbered_inside}
use Rattle.sl_run_law.proofs.Place.MadeLeaders.{sectors_of_pairs}
use Rattle.sl_run_law.proofs.Place.TracesOnMachines.{digest_is, writes_record}
use Rattle.sl_run_law.proofs.Place.Seats.{sized_in}
use Rattle.sl_run_law.proofs.Place.Sizes.{sector_fits}
use Rattle.sl_run_law.specs.Landing.Landings.{LeftBy}
use Rattle.sl_run_law.specs.Sample.Samples.{numbered_landing}
use Rattle.sl_sector.proofs.PublicLaws.{spelled_is_read}
use Rattle.sl_sector.specs.Records.{IsRecord}
use Rattle.sl_sector.specs.SectorLayouts.{is_first_turn, pair_in}
use Rattle.sl_sector.specs.declared.sector.Bad.{Bad}
use Rattle.sl_sector.specs.declared.sector.PairBlock.{PairBlock}
use Rattle.sl_sector.specs.declared.sector.Rec.TheVariants.{PairIs, RequestIs, ValueIs}
use Rattle.sl_sector.specs.declared.sector.Rec.{Rec}
use Rattle.sl_trace.specs.Leases.{block_of_record}
use Rattle.sl_trace.specs.Traces.{record_of, same_place}
use Rattle.sl_trace.specs.declared.effects.Call.{Call}
use Rattle.sl_words.proofs.CaseLaws.{one_value, true_is_false}
use Rattle.sl_words.proofs.OrderLaws.{less_or_same}
use Rattle.sl_words.specs.Words.{choose, same_truth}
use Rattle.std.proofs.Common.{ap, arith, inl, inr, refl, subst, sym, ◌∙◌}
use Rattle.std.proofs.lemmas.Bool.{and_from, cases_lt, eq-eqb}
use Rattle.std.proofs.lemmas.Bool.Decides.{nat_tests}
use Rattle.std.specs.Prelude.{Bool, Contains, Err, List, None, Ok, Option, Result, Some, [], false, if◌then◌else◌, is_ok, is_some, nat_lt, option_and_then, option_map, true, ℕ, ◌%◌, ◌&&◌, ◌*◌, ◌+◌, ◌/◌, ◌<◌, ◌==◌, ◌∷◌, ◌≡◌, ◌≤◌, ◌⊎◌}

-- ---- the newest landing of a place by a step

pub record NewestAt (w : World) (path : List ℕ) (place a : ℕ) (l : Landing) : Type 0 where
  pub number : ℕ
  pub at : numbered_landing (history_of w path place) number ≡ Some l
  pub low : l.step ≤ a
  pub since : (j : ℕ) (m : Landing) → numbered_landing (history_of w path place) j ≡ Some m → number < j → a < m.step

-- So no other at this place came later, by the step.
pub newest_by : (p : Program) (h : Header) (xs : List Happening) → LawfulRun p h xs → (path : List ℕ) (place a : ℕ) (l : Landing) → NewestAt (world_at p h xs) path place a l
    → (m : Landing) → Contains (world_at p h xs).landings m → m.path ≡ path → m.offset ≡ place → m.step ≤ a → m.step ≤ l.step
newest_by p h xs run path place a l n m inside paths places early =
    let w : World = world_at p h xs in
    let ls : List Landing = history_of w path place in
    let there : Contains (landed_at w path place) m = kept (λ (y : Landing). same_place y.path y.offset path place) w.landings m (and_from _ _ (eq-eqb m.offset place places) (text_same m.path path paths)) inside in
    let k = has_number ls m (contains_left (landed_at w path place) (first_landing w path place ∷ []) m there) in
    by k.0 k.1 (cases_lt n.number k.0)
  where
    by : (j : ℕ) → numbered_landing (history_of (world_at p h xs) path place) j ≡ Some m → (n.number < j) ⊎ (j ≤ n.number) → m.step ≤ l.step
    by j at (inl above) = absurd (let late : a < m.step = n.since j m at above in omega (arith, late, early))
    by j at (inr low) = elim (less_or_same j n.number low) [
      | inl less ↦
          let before : m.step < l.step =
          numbers_order (history_of (world_at p h xs) path place) j n.number m l (history_descends p h xs run path place) at n.at less in
          omega (arith, before)
      | inr same ↦
          let one : m ≡ l = one_value m l (numbered_landing (history_of (world_at p h xs) path place) n.number) (subst (λ i. numbered_landing (history_of (world_at p h xs) path place) i ≡ Some m) same at) n.at in
          subst (λ (y : Landing). m.step ≤ y.step) one (omega arith)
    ]

-- ---- what stood at first

past_request : (n : ℕ) → 2 ≤ n → ((n == 0) ≡ false) × ((n == 1) ≡ false)
past_request n low = (grind (arith, nat_tests), grind (arith, nat_tests))

among_blocks : (n sectors : ℕ) → n < sectors + 2 → nat_lt n (sectors + 2) ≡ true
among_blocks n sectors h = grind (arith, nat_tests)

abbrev record_by : Layout → ResourceLine → ℕ → Bool → Bool → Bool → Option Rec
record_by g r n leader request block =
    if leader then Some (leader_record g (fresh_leader g r.lockspace r.name))
    else (if request then Some (RequestIs no_request)
    else (if block then Some (fresh_block_at g r.lockspace r.name n) else choose ((n + 1) * g.sector == g.area) (ValueIs no_value)))

sector_at_first : (g : Layout) → g.paired ≡ true → (r : ResourceLine) (n : ℕ) → 2 ≤ n → n < block_sectors g + 2
    → initial_of_resource g r n ≡ Some (PairIs (fresh_pair (n / 2) (1 + n % 2) r.lockspace r.name))
sector_at_first g paired r n low high =
    let past = past_request n low in
    ap (λ b. record_by g r n b (n == 1) (nat_lt n (area_sectors g))) past.0 ∙ ap (λ b. record_by g r n false b (nat_lt n (area_sectors g))) past.1
    ∙ ap (λ b. record_by g r n false false b) (among_blocks n (block_sectors g) high) ∙ ap (λ y. Some y) (sym (block_with_pairs g r.lockspace r.name n paired))

in_range : (k hosts sectors : ℕ) (first : Bool) → 1 ≤ k → k ≤ hosts → sectors ≡ 2 * hosts → (2 ≤ area_number k first) × (area_number k first < sectors + 2)
in_range k hosts sectors true low high is = (omega (arith, low), omega (arith, low, high, is))
in_range k hosts sectors false low high is = (omega (arith, low), omega (arith, low, high, is))

half : (k : ℕ) (first : Bool) → area_number k first / 2 ≡ k
half k true = omega arith
half k false = omega arith

odd : (k : ℕ) (first : Bool) → 1 + area_number k first % 2 ≡ (if first then 1 else 2)
odd k true = omega arith
odd k false = omega arith

fresh_in : (w : World) (k : ℕ) (first : Bool) (space name : List ℕ) → pair_in k first (Ok (PairIs (fresh_pair k (if first then 1 else 2) space name))) ≡ Some (fresh_pair k (if first then 1 else 2) space name)
fresh_in w k true space name = ap (λ b. choose (b && true) (fresh_pair k 1 space name)) (eq-eqb k k refl)
fresh_in w k false space name = ap (λ b. choose (b && true) (fresh_pair k 2 space name)) (eq-eqb k k refl)

fresh_stored : (k : ℕ) (first : Bool) (space name : List ℕ) → option_map (λ (q : PairBlock). let x : Stored = record { turn = q.turn; write = 0 } in x)
    (Some (fresh_pair k (if first then 1 else 2) space name)) ≡ Some (stored_at_first first)
fresh_stored k true space name = refl
fresh_stored k false space name = refl

-- What the first landing of a sector spells.
pub first_spelled : (p : Program) (h : Header) (xs : List Happening) → LawfulRun p h xs → (r : ResourceLine) → Contains h.resources r → (world_at p h xs).layout.paired ≡ true → (k : ℕ)
    → is_host (world_at p h xs) k ≡ true → (first : Bool)
    → pair_in k first (record_in (world_at p h xs).layout (first_landing (world_at p h xs) r.path (pair_offset (world_at p h xs).layout r.offset k first)).bytes)
    ≡ Some (fresh_pair k (if first then 1 else 2) r.lockspace r.name)
first_spelled p h xs run r there paired k host first =
    let w : World = world_at p h xs in
    let n : ℕ = area_number k first in
    let range = host_range w k host in
    let bounds = in_range k w.layout.hosts (block_sectors w.layout) first range.0 range.1 (sectors_of_pairs w.layout paired) in
    let z = sized_in p h xs run in
    let is : initial_record w.layout h r.path (pair_offset w.layout r.offset k first) ≡ Some (PairIs (fresh_pair (n / 2) (1 + n % 2) r.lockspace r.name)) =
    sector_record w.layout h r n (Some (PairIs (fresh_pair (n / 2) (1 + n % 2) r.lockspace r.name))) run.header z there (pair_within w r.offset k first z paired host)
    (sector_at_first w.layout paired r n bounds.0 bounds.1) in
    let read = spelled_at_first p h xs run r.path (pair_offset w.layout r.offset k first) (PairIs (fresh_pair (n / 2) (1 + n % 2) r.lockspace r.name)) is in
    ap (λ o. pair_in k first o) read ∙ ap (λ i. pair_in k first (Ok (PairIs (fresh_pair i (1 + n % 2) r.lockspace r.name)))) (half k first)
    ∙ ap (λ i. pair_in k first (Ok (PairIs (fresh_pair k i r.lockspace r.name)))) (odd k first) ∙ fresh_in w k first r.lockspace r.name

-- ---- what a write left

pair_spelled : (k : ℕ) (first : Bool) (q : PairBlock) → q.block.host ≡ k → is_first_turn q.turn ≡ first → pair_in k first (Ok (PairIs q)) ≡ Some q
pair_spelled k first q host side =
    ap (λ b. choose (b && same_truth (is_first_turn q.turn) first) q) (eq-eqb q.block.host k host) ∙ ap (λ b. choose (true && same_truth b first) q) side ∙ by first
  where
    by : (b : Bool) → choose (true && same_truth b b) q ≡ Some q
    by true = refl
    by false = refl

torn_in : (k : ℕ) (first : Bool) (o : Result Rec Bad) → is_ok o ≡ false → pair_in k first o ≡ None
torn_in k first (Err bad) h = refl
torn_in k first (Ok rec) h = absurd (true_is_false h)

-- The host that a pair's block names.
pair_host : (p : Program) (h : Header) (xs : List Happening) → LawfulRun p h xs → (r : ResourceLine) (k : ℕ) → is_host (world_at p h xs) k ≡ true → (x : Sent)
    → BlockSent (world_at p h xs) r k x → (q : PairBlock) → record_of x.course.call.op ≡ Some (PairIs q) → q.block.host ≡ k
pair_host p h xs run r k host x b q is =
    let w : World = world_at p h xs in
    let s : Standing w x = standing p h xs run x b.sent in
    let id : s.session.id ≡ k = sym (own_host w x s) ∙ b.host in
    block_host p h xs run x s (ap (λ n. is_host w n) id ∙ host) q.block (ap (λ o. option_and_then block_of_record o) is) ∙ id

pub left_spelled : (p : Program) (h : Header) (xs : List Happening) → LawfulRun p h xs → (r : ResourceLine) → Contains h.resources r → (k : ℕ) → is_host (world_at p h xs) k ≡ true
    → (first : Bool) → (l : Landing) (d : IsPairLanding p h xs r k first l) → pair_in k first (record_in (world_at p h xs).layout l.bytes) ≡ (if l.whole then Some d.pair else None)
left_spelled p h xs run r there k host first l d = by d.left
  where
    w : World
    w = world_at p h xs

    goal : Bool → Option PairBlock
    goal b = if b then Some d.pair else None

    by : LeftBy (world_at p h xs) l d.sent.course (PairIs d.pair) → pair_in k first (record_in (world_at p h xs).layout l.bytes) ≡ (if l.whole then Some d.pair else None)
    by (inl whole) =
        let o = owned p h xs run d.sent d.block.sent in
        let is : IsRecord (PairIs d.pair) =
        writes_record o.trace.daemon.setting o.trace.daemon.trace o.trace.submitted_as (PairIs d.pair) o.trace.lawful o.trace.inside (ap (λ (c : Call). record_of c.op) o.trace.is.call ∙ d.writes) in
        let read : record_in w.layout l.bytes ≡ Ok (PairIs d.pair) =
        ap (λ bs. record_in w.layout bs) whole.2 ∙ spelled_is_read w.layout.digest (digest_is p h xs run) w.layout.sector (sector_fits w.layout (sized_in p h xs run)) (PairIs d.pair) is in
        ap (λ z. pair_in k first z) read ∙ pair_spelled k first d.pair (pair_host p h xs run r k host d.sent d.block d.pair d.writes) d.side ∙ ap goal (sym whole.0)
    by (inr torn) = torn_in k first (record_in w.layout l.bytes) torn.2 ∙ ap goal (sym torn.0)

left_stored : (p : Program) (h : Header) (xs : List Happening) → LawfulRun p h xs → (r : ResourceLine) → Contains h.resources r → (k : ℕ) → is_host (world_at p h xs) k ≡ true → (first : Bool)
    → (l : Landing) (d : IsPairLanding p h xs r k first l) → stored_in (world_at p h xs) k first l ≡ (if l.whole then Some (record { turn = d.pair.turn; write = step_of d.sent }) else None)
left_stored p h xs run r there k host first l d =
    ap (λ n. option_map (λ (q : PairBlock). let x : Stored = record { turn = q.turn; write = n } in x) (pair_in k first (record_in (world_at p h xs).layout l.bytes))) d.step
    ∙ ap (option_map (λ (q : PairBlock). let x : Stored = record { turn = q.turn; write = step_of d.sent } in x)) (left_spelled p h xs run r there k host first l d) ∙ by l.whole
  where
    by : (b : Bool) → option_map (λ (q : PairBlock). let x : Stored = record { turn = q.turn; write = step_of d.sent } in x) (if b then Some d.pair else None)
        ≡ (if b then Some (let x : Stored = record { turn = d.pair.turn; write = step_of d.sent } in x) else None)
    by true = refl
    by false = refl

-- ---- what the log says of the sector

-- What was left there last by a step, or stood there at first.
pub data IsFrom (w : World) (r : ResourceLine) (k : ℕ) (first : Bool) (l : Landing) : Type 0 where
  Landed : Contains w.landings l → l.path ≡ r.path → l.offset ≡ pair_offset w.layout r.offset k first → IsFrom w r k first l
  Stood : l.step ≡ 0 → step_of_landing w l ≡ 0 → pair_in k first (record_in w.layout l.bytes) ≡ Some (fresh_pair k (if first then 1 else 2) r.lockspace r.name) → IsFrom w r k first l

pub record NewestIn (w : World) (r : ResourceLine) (k : ℕ) (first : Bool) (a : ℕ) (l : Landing) : Type 0 where
  pub low : l.step ≤ a
  pub newest : (m : Landing) → Contains w.landings m → m.path ≡ r.path → m.offset ≡ pair_offset w.layout r.offset k first → m.step ≤ a → m.step ≤ l.step
  pub from : IsFrom w r k first l

pub from_first : (w : World) (r : ResourceLine) (k : ℕ) (first : Bool) (l z : Landing) → l ≡ z → z.step ≡ 0 → step_of_landing w z ≡ 0
    → pair_in k first (record_in w.layout z.bytes) ≡ Some (fresh_pair k (if first then 1 else 2) r.lockspace r.name) → IsFrom w r k first l
from_first w r k first l z is step write fresh =
    Stood (ap (λ (y : Landing). y.step) is ∙ step) (ap (step_of_landing w) is ∙ write) (ap (λ (y : Landing). pair_in k first (record_in w.layout y.bytes)) is ∙ fresh)

-- So is the newest by its number.
pub newest_in : (p : Program) (h : Header) (xs : List Happening) → LawfulRun p h xs → (r : ResourceLine) → Contains h.resources r → (world_at p h xs).layout.paired ≡ true → (k : ℕ)
    → is_host (world_at p h xs) k ≡ true → (first : Bool) (a : ℕ) (l : Landing) → NewestAt (world_at p h xs) r.path (pair_offset (world_at p h xs).layout r.offset k first) a l
    → NewestIn (world_at p h xs) r k first a l
newest_in p h xs run r there paired k host first a l n =
    let w : World = world_at p h xs in
    let place : ℕ = pair_offset w.layout r.offset k first in
    record {
      low = n.low;
      newest = newest_by p h xs run r.path place a l n;
      from = by (in_history w r.path place l (numbered_inside (history_of w r.path place) n.number l n.at));
    }
  where
    by : (l.path ≡ r.path) × (l.offset ≡ pair_offset (world_at p h xs).layout r.offset k first)
        × (Contains (world_at p h xs).landings l ⊎ (l ≡ first_landing (world_at p h xs) r.path (pair_offset (world_at p h xs).layout r.offset k first)))
        → IsFrom (world_at p h xs) r k first l
    by its = elim its.2 as (λ z. IsFrom (world_at p h xs) r k first l) [
      | inl landed ↦ Landed landed its.0 its.1
      | inr at_first ↦
          from_first (world_at p h xs) r k first l (first_landing (world_at p h xs) r.path (pair_offset (world_at p h xs).layout r.offset k first)) at_first refl refl
          (first_spelled p h xs run r there paired k host first)
    ]

-- A write of this side landed at its place, no later than the newest.
none_later : (p : Program) (h : Header) (xs : List Happening) → LawfulRun p h xs → (r : ResourceLine) → Contains h.resources r → (world_at p h xs).layout.paired ≡ true → (k : ℕ) (first : Bool)
    → (a : ℕ) (l : Landing) → NewestIn (world_at p h xs) r k first a l → (s : ℕ) → s ≡ l.step → NoLanding (pair_log (world_at p h xs) r k) first s a
none_later p h xs run r there paired k first a l n s is e u write landed late low =
    let w : World = world_at p h xs in
    let x = pair_found p h xs run r there k e write.is in
    let m = lands_at p h xs run r k e x u landed in
    let q = pair_written p h xs run paired x.sent x.is.sent x.block in
    let to : SentTo w r k x.sent q.0 = sent_to p h xs run r there k x.sent (as_block p h xs r k e x) q.0 q.1 in
    let turn : (pair_log w r k).turn e ≡ q.0.turn = turn_is p h xs r k e x.sent x.found ∙ turn_sent x.sent q.0 q.1 in
    let side : is_first_turn q.0.turn ≡ first = ap is_first (sym turn) ∙ write.side in
    let top : m.landing.step ≤ l.step =
    n.newest m.landing m.is.inside (sym m.is.place.0 ∙ to.path) (sym m.is.place.1 ∙ to.offset ∙ ap (λ b. pair_offset w.layout r.offset k b) side) (subst (λ i. i ≤ a) (sym m.at) low) in
    let at = m.at in
    omega (arith, top, at, is, late)

fresh_left : (w : World) (r : ResourceLine) (k : ℕ) (first : Bool) (l : Landing) → step_of_landing w l ≡ 0
    → pair_in k first (record_in w.layout l.bytes) ≡ Some (fresh_pair k (if first then 1 else 2) r.lockspace r.name) → stored_in w k first l ≡ Some (stored_at_first first)
fresh_left w r k first l write fresh =
    ap (λ n. option_map (λ (q : PairBlock). let x : Stored = record { turn = q.turn; write = n } in x) (pair_in k first (record_in w.layout l.bytes))) write
    ∙ ap (option_map (λ (q : PairBlock). let x : Stored = record { turn = q.turn; write = 0 } in x)) fresh ∙ fresh_stored k first r.lockspace r.name

pub sector_at : (p : Program) (h : Header) (xs : List Happening) → LawfulRun p h xs → (r : ResourceLine) → Contains h.resources r → (world_at p h xs).layout.paired ≡ true → (k : ℕ)
    → is_host (world_at p h xs) k ≡ true → (first : Bool) (a : ℕ) (l : Landing) → NewestIn (world_at p h xs) r k first a l
    → SectorAt (pair_log (world_at p h xs) r k) first a (stored_in (world_at p h xs) k first l)
sector_at p h xs run r there paired k host first a l n = by n.from
  where
    by : IsFrom (world_at p h xs) r k first l → SectorAt (pair_log (world_at p h xs) r k) first a (stored_in (world_at p h xs) k first l)
    by (Stood zero write fresh) =
        At_first (none_later p h xs run r there paired k first a l n 0 (sym zero)) (fresh_left (world_at p h xs) r k first l write fresh)
    by (Landed landed path offset) =
        let d : IsPairLanding p h xs r k first l = pair_landing p h xs run r there paired k host first l landed path offset in
        let e : ℕ = step_of d.sent in
        let told = told_of p h xs run r there k d.sent d.block in
        let found = landing_found p h xs run d.sent l landed d.writer in
        let turn : (pair_log (world_at p h xs) r k).turn e ≡ d.pair.turn = turn_is p h xs r k e d.sent told ∙ turn_sent d.sent d.pair d.writes in
        Left e l.step (record { is = ap (λ o. is_some o) told; side = ap is_first turn ∙ d.side }) (landed_is p h xs r k e d.sent told l found) n.low
        (none_later p h xs run r there paired k first a l n l.step refl)
        (left_stored p h xs run r there k host first l d
        ∙ ap (λ b. if b then Some (let x : Stored = record { turn = d.pair.turn; write = e } in x) else None) (sym (whole_is p h xs r k e d.sent told l found))
        ∙ ap (λ t. if (pair_log (world_at p h xs) r k).whole e then Some (let x : Stored = record { turn = t; write = e } in x) else None) (sym turn))
