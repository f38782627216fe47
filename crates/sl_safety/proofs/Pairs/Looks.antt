-- What is asked of a log's looks: a read of a session of the host, between whose submission and answer the session writes nothing, shows the
-- pair as its two sectors stood when they were sampled.
use Rattle.sl_area.specs.AreaSizes.{Layout, record_in}
use Rattle.sl_area.specs.AreaLayout.{area_sectors, block_offset, block_sectors, blocks_part, pair_offset, sector_of}
use Rattle.sl_area.specs.Pairs.{later_pair, pair_back, pair_front, pair_read}
use Rattle.sl_safety.proofs.Resources.CallsTakeTurns.{First, One, Second, Turns, turns_of}
use Rattle.sl_safety.proofs.GivenReads.ShownAtPlace.{IsPlaced, read_placed}
use Rattle.sl_safety.proofs.Resources.Calls.{IsOwned, IsWork, host_range, made_of, owned, owner_layout}
use Rattle.sl_safety.proofs.Resources.StepsNameCalls.{read_works, record_sent}
use Rattle.sl_safety.specs.Resources.Histories.{is_host}
use Rattle.sl_safety.specs.Resources.SampledReads.{blocks_sampled, pair_number, sector_sampled, step_of_landing, stored_in}
use Rattle.sl_safety.specs.Resources.HistoryLaws.{spot_of_line}
use Rattle.sl_safety.specs.Resources.SentCalls.{Sent, all_sent, holder_of, is_joined_there, reads_blocks, sender_of, step_of, writes_block}
use Rattle.sl_safety.proofs.Pairs.Orders.{one_join}
use Rattle.sl_safety.proofs.Pairs.Places.{below_number, blocks_number, pair_place}
use Rattle.sl_safety.proofs.Pairs.Sectors.{NewestIn, newest_in, sector_at}
use Rattle.sl_safety.proofs.Pairs.SentBlocks.{JoinedFor, PairSent, joined_for, pair_found, session_is}
use Rattle.sl_safety.proofs.Pairs.LogEvents.{answered_is}
use Rattle.sl_safety.proofs.Pairs.Writes.{IsPair}
use Rattle.sl_safety.specs.Pairs.PairLogs.{is_look_at, is_of_host, join_of, look_at, look_of, pair_log, sample_step}
use Rattle.sl_ballot_law.specs.PairLogs.Logs.{Log, Look, LookShows, SectorAt}
use Rattle.sl_ballot_law.specs.Pairs.State.{Stored, later}
use Rattle.sl_words.proofs.Lists.{contains_first, there_is}
use Rattle.sl_words.proofs.Options.{mapped_value}
use Rattle.sl_run.specs.Refusals.{is_read_course, sectors_of}
use Rattle.sl_run.specs.Runs.{Happening}
use Rattle.sl_run.specs.Safety.{LawfulRun, world_at}
use Rattle.sl_run.specs.Worlds.{Course, Landing, Program, Sampling, Stamp, World, history_of}
use Rattle.sl_run.specs.declared.header.Header.{Header}
use Rattle.sl_run.specs.declared.header.ResourceLine.{ResourceLine}
use Rattle.sl_run_law.proofs.Place.Blocks.{behind_two}
use Rattle.sl_run_law.proofs.Place.FoundInLists.{given_by, same_text}
use Rattle.sl_run_law.proofs.Place.MadeLeaders.{sectors_of_pairs}
use Rattle.sl_run_law.proofs.Sample.SampleLaws.{done_reads_are_whole, samples_are_landings}
use Rattle.sl_run_law.specs.Sample.Samples.{IsSampleOf, numbered_landing, sector_place}
use Rattle.sl_sector.specs.SectorLayouts.{pair_in}
use Rattle.sl_sector.specs.declared.sector.PairBlock.{PairBlock}
use Rattle.sl_trace.specs.Leases.{is_area_read, is_on}
use Rattle.sl_trace.specs.Traces.{Setting, Submitted, is_write, new_call, record_of}
use Rattle.sl_trace.specs.declared.effects.Call.{Call}
use Rattle.sl_trace.specs.declared.effects.Op.TheVariants.{ReadSectors, WriteRecord}
use Rattle.sl_trace.specs.declared.effects.Op.{Op}
use Rattle.sl_run_law.specs.Sessions.SessionLaws.{made_as}
use Rattle.sl_words.proofs.CaseLaws.{false_is_true, none_some, one_value, some_value}
use Rattle.sl_words.proofs.ListLaws.{first_and_others}
use Rattle.sl_words.proofs.WordLaws.{and_true, some_is_true}
use Rattle.sl_words.specs.Words.{first_of_list, some_is}
use Rattle.std.proofs.Common.{ap, arith, inl, inr, refl, subst, sym, ◌∙◌}
use Rattle.std.proofs.lemmas.Bool.{and_from, eqb-true}
use Rattle.std.specs.Option.{option_map_or}
use Rattle.std.specs.Prelude.{Bool, Contains, List, None, Option, Some, bytes_eq, drop, false, filter_map, if◌then◌else◌, length, nat_lt, not, option_and_then, option_map, slice_get, true, ℕ, ◌&&◌, ◌*◌, ◌+◌, ◌-◌, ◌<◌, ◌==◌, ◌≡◌, ◌≤◌, ◌⊎◌}

-- ---- a read that the log has

pub record LookFound (p : Program) (h : Header) (xs : List Happening) (r : ResourceLine) (k j t : ℕ) (look : Look) : Type 0 where
  pub sent : Sent
  pub has : Contains (all_sent (world_at p h xs)) sent
  pub reads : reads_blocks sent.course ≡ true
  pub done : sent.course.done ≡ true
  pub on : is_on (world_at p h xs).layout (spot_of_line r) sent.course.call ≡ true
  pub stamp : Stamp
  pub answered : sent.course.answered ≡ Some stamp
  pub at : stamp.step ≡ t
  pub host : (holder_of (world_at p h xs) (sender_of sent)).id ≡ k
  pub work : IsWork (world_at p h xs) r sent
  pub pair : PairBlock
  pub gives : pair_read (world_at p h xs).layout (blocks_sampled (world_at p h xs).layout sent.course) k ≡ Some pair
  pub join : join_of (world_at p h xs) r (sender_of sent) ≡ j
  pub same : look ≡ look_of k sent pair

first_inside : {A : Type 0} (xs : List A) (x : A) → first_of_list xs ≡ Some x → Contains xs x
first_inside xs x h = subst (λ ys. Contains ys x) (sym (first_and_others xs x h)) (contains_first x (drop 1 xs))

look_by : (w : World) (r : ResourceLine) (k j t : ℕ) (z : Sent) (look : Look) (b : Bool) → is_look_at w r k j t z ≡ b
    → elim b as (λ y. Option Look) [ false ↦ None | true ↦ option_map (look_of k z) (pair_read w.layout (blocks_sampled w.layout z.course) k) ] ≡ Some look
    → (is_look_at w r k j t z ≡ true) × (q : PairBlock) × (pair_read w.layout (blocks_sampled w.layout z.course) k ≡ Some q) × (look_of k z q ≡ look)
look_by w r k j t z look false is h = absurd (none_some look h)
look_by w r k j t z look true is h =
    let f = mapped_value (look_of k z) (pair_read w.layout (blocks_sampled w.layout z.course) k) look h in
    (is, f.0, f.1, f.2)

pub look_found : (p : Program) (h : Header) (xs : List Happening) → LawfulRun p h xs → (r : ResourceLine) (k j t : ℕ) (look : Look)
    → (pair_log (world_at p h xs) r k).looks j t ≡ Some look → LookFound p h xs r k j t look
look_found p h xs run r k j t look told =
    let w : World = world_at p h xs in
    let z = given_by (look_at w r k j t) (all_sent w) look (first_inside (filter_map (look_at w r k j t) (all_sent w)) look told) in
    let its = look_by w r k j t z.0 look (is_look_at w r k j t z.0) refl z.2 in
    let x : Sent = z.0 in
    let five = and_true
    (reads_blocks x.course && x.course.done && is_on w.layout (spot_of_line r) x.course.call && some_is (λ (s : Stamp). s.step == t) x.course.answered && is_of_host w r k (sender_of x))
    (join_of w r (sender_of x) == j) its.0 in
    let four = and_true (reads_blocks x.course && x.course.done && is_on w.layout (spot_of_line r) x.course.call && some_is (λ (s : Stamp). s.step == t) x.course.answered)
    (is_of_host w r k (sender_of x)) five.0 in
    let three = and_true (reads_blocks x.course && x.course.done && is_on w.layout (spot_of_line r) x.course.call) (some_is (λ (s : Stamp). s.step == t) x.course.answered) four.0 in
    let two = and_true (reads_blocks x.course && x.course.done) (is_on w.layout (spot_of_line r) x.course.call) three.0 in
    let one = and_true (reads_blocks x.course) x.course.done two.0 in
    let stamp = some_is_true (λ (s : Stamp). s.step == t) x.course.answered three.1 in
    let member = and_true (is_joined_there w r.lockspace (sender_of x)) ((holder_of w (sender_of x)).id == k) four.1 in
    record {
      sent = x;
      has = z.1;
      reads = one.0;
      done = one.1;
      on = two.1;
      stamp = stamp.0;
      answered = stamp.1;
      at = eqb-true stamp.0.step t stamp.2;
      host = eqb-true (holder_of w (sender_of x)).id k member.1;
      work = read_works p h xs run r x z.1 two.1 (and_from (reads_blocks x.course && x.course.done) (is_joined_there w r.lockspace (sender_of x)) two.0 member.0);
      pair = its.1;
      gives = its.2;
      join = eqb-true (join_of w r (sender_of x)) j five.1;
      same = sym its.3;
    }

-- ---- its samples

-- The sector of a pair in a read, where it stands, and the sample of it.
pub record PairSample (p : Program) (h : Header) (xs : List Happening) (r : ResourceLine) (k : ℕ) (first : Bool) (z : Sent) : Type 0 where
  pub sampling : Sampling
  pub there : slice_get z.course.samples (pair_number z.course k first) ≡ Some sampling
  pub step : sample_step z.course (pair_number z.course k first) ≡ sampling.step
  pub landing : Landing
  pub shown : sector_sampled (world_at p h xs) (spot_of_line r) k first z.course ≡ Some landing
  pub newest : NewestIn (world_at p h xs) r k first sampling.step landing
  pub after : step_of z < sampling.step
  pub before : (s : Stamp) → z.course.answered ≡ Some s → sampling.step < s.step
  pub shows : sector_of (world_at p h xs).layout (blocks_sampled (world_at p h xs).layout z.course) (blocks_number k first) ≡ landing.bytes

area_place_of : (o base s j : ℕ) → o ≡ base → o + (j + 2) * s ≡ base + s * (j + 2)
area_place_of o base s j e = let same : base + (j + 2) * s ≡ base + s * (j + 2) = grind arith in ap (λ n. n + (j + 2) * s) e ∙ same

phase_place_of : (o base s j : ℕ) → o ≡ base + s * (1 + 1) → o + j * s ≡ base + s * (j + 2)
phase_place_of o base s j e = let same : base + s * (1 + 1) + j * s ≡ base + s * (j + 2) = grind arith in ap (λ n. n + j * s) e ∙ same

-- How a read is placed, by its kind.
record Placing (w : World) (r : ResourceLine) (k : ℕ) (first : Bool) (c : Course) : Type 0 where
  place : sector_place w c (pair_number c k first) ≡ pair_offset w.layout r.offset k first
  within : pair_number c k first < sectors_of c.call.op
  reads : is_read_course c ≡ true
  part : sector_of w.layout (blocks_sampled w.layout c) (blocks_number k first) ≡ sector_of w.layout c.sampled (pair_number c k first)

read_op : (o : Op) (n : ℕ) → o ≡ ReadSectors n → not (is_write o) ≡ true
read_op o n is = ap (λ x. not (is_write x)) is

two_more : (j n : ℕ) → j < n → j + 2 < n + 2
two_more j n h = omega (arith, h)

placing : (st : Setting) (w : World) (r : ResourceLine) (k : ℕ) (first : Bool) (c : Course) (q : Submitted) → st.layout ≡ w.layout → q.call ≡ c.call → w.layout.paired ≡ true
    → is_host w k ≡ true → IsPlaced st (spot_of_line r) q → Placing w r k first c
placing st w r k first c q layout call paired host (inl area) =
    let j : ℕ = blocks_number k first in
    let range = host_range w k host in
    let kind : is_area_read (new_call 0 0 c.call) ≡ true = ap (λ (y : Call). is_area_read (new_call 0 0 y)) (sym call) ∙ area.0 in
    let number : pair_number c k first ≡ j + 2 = ap (λ (b : Bool). if b then j + 2 else j) kind in
    let op : c.call.op ≡ ReadSectors (area_sectors w.layout) = ap (λ (y : Call). y.op) (sym call) ∙ area.1.1 ∙ ap (λ (g : Layout). ReadSectors (area_sectors g)) layout in
    record {
      place = ap (λ n. c.call.offset + n * w.layout.sector) number ∙ area_place_of c.call.offset r.offset w.layout.sector j (ap (λ (y : Call). y.offset) (sym call) ∙ area.1.0)
          ∙ sym (pair_place w.layout r.offset k first range.0);
      within = subst (λ n. n < sectors_of c.call.op) (sym number)
          (subst (λ o. j + 2 < sectors_of o) (sym op)
          (two_more j (block_sectors w.layout) (below_number k w.layout.hosts (block_sectors w.layout) first range.0 range.1 (sectors_of_pairs w.layout paired))));
      reads = read_op c.call.op (area_sectors w.layout) op;
      part = ap (λ (b : Bool). sector_of w.layout (if b then blocks_part w.layout c.sampled else c.sampled) j) kind ∙ behind_two w.layout c.sampled j
          ∙ ap (λ n. sector_of w.layout c.sampled n) (sym number);
    }
placing st w r k first c q layout call paired host (inr alone) =
    let j : ℕ = blocks_number k first in
    let range = host_range w k host in
    let kind : is_area_read (new_call 0 0 c.call) ≡ false = ap (λ (y : Call). is_area_read (new_call 0 0 y)) (sym call) ∙ alone.0 in
    let number : pair_number c k first ≡ j = ap (λ (b : Bool). if b then j + 2 else j) kind in
    let op : c.call.op ≡ ReadSectors (block_sectors w.layout) = ap (λ (y : Call). y.op) (sym call) ∙ alone.1.1 ∙ ap (λ (g : Layout). ReadSectors (block_sectors g)) layout in
    record {
      place = ap (λ n. c.call.offset + n * w.layout.sector) number
          ∙ phase_place_of c.call.offset r.offset w.layout.sector j (ap (λ (y : Call). y.offset) (sym call) ∙ alone.1.0 ∙ ap (λ (g : Layout). block_offset g r.offset 1) layout)
          ∙ sym (pair_place w.layout r.offset k first range.0);
      within = subst (λ n. n < sectors_of c.call.op) (sym number)
          (subst (λ o. j < sectors_of o) (sym op) (below_number k w.layout.hosts (block_sectors w.layout) first range.0 range.1 (sectors_of_pairs w.layout paired)));
      reads = read_op c.call.op (block_sectors w.layout) op;
      part = ap (λ (b : Bool). sector_of w.layout (if b then blocks_part w.layout c.sampled else c.sampled) j) kind ∙ ap (λ n. sector_of w.layout c.sampled n) (sym number);
    }

pub pair_sample : (p : Program) (h : Header) (xs : List Happening) → LawfulRun p h xs → (r : ResourceLine) → Contains h.resources r → (world_at p h xs).layout.paired ≡ true → (k : ℕ)
    → is_host (world_at p h xs) k ≡ true → (first : Bool) (z : Sent) → Contains (all_sent (world_at p h xs)) z → reads_blocks z.course ≡ true → z.course.done ≡ true
    → is_on (world_at p h xs).layout (spot_of_line r) z.course.call ≡ true → PairSample p h xs r k first z
pair_sample p h xs run r there paired k host first z has reads done on =
    let w : World = world_at p h xs in
    let c : Course = z.course in
    let o : IsOwned w z = owned p h xs run z has in
    let pl : Placing w r k first c =
    placing o.trace.daemon.setting w r k first c (made_as (made_of o)) (owner_layout p h xs run z o) o.trace.is.call paired host (read_placed p h xs run r there z o on reads) in
    let i : ℕ = pair_number c k first in
    let whole : length c.samples ≡ sectors_of c.call.op = done_reads_are_whole p h xs run z.machine o.there.machine c o.there.at o.there.has done pl.reads in
    let s = there_is c.samples i (subst (λ n. i < n) (sym whole) pl.within) in
    let sample : IsSampleOf w c i s.0 = samples_are_landings p h xs run z.machine o.there.machine c i s.0 o.there.at o.there.has s.1 in
    let path : c.call.path ≡ r.path = same_text c.call.path r.path (and_true (bytes_eq c.call.path r.path) _ on).0 in
    let same : history_of w c.call.path (sector_place w c i) ≡ history_of w r.path (pair_offset w.layout r.offset k first) =
    ap (λ n. history_of w c.call.path n) pl.place ∙ ap (λ y. history_of w y (pair_offset w.layout r.offset k first)) path in
    record {
      sampling = s.0;
      there = s.1;
      step = ap (λ q. option_map_or (λ (y : Sampling). y.step) q 0) s.1;
      landing = sample.landing;
      shown = ap (option_and_then (λ (q : Sampling). numbered_landing (history_of w r.path (pair_offset w.layout r.offset k first)) q.index)) s.1
          ∙ ap (λ ls. numbered_landing ls s.0.index) (sym same) ∙ sample.seen;
      newest = newest_in p h xs run r there paired k host first s.0.step sample.landing (record {
        number = s.0.index;
        at = ap (λ ls. numbered_landing ls s.0.index) (sym same) ∙ sample.seen;
        low = let n = sample.newest.0 in omega (arith, n);
        since = λ j m at above. (sample.before_next j m (ap (λ ls. numbered_landing ls j) same ∙ at) above).0;
      });
      after = sample.after.0;
      before = λ t told. (sample.before t told).0;
      shows = pl.part ∙ sample.bytes;
    }

-- ---- what a look shows

abbrev stored_of : ℕ → Option PairBlock → Option Stored
stored_of n o = option_map (λ (y : PairBlock). record { turn = y.turn; write = n }) o

pub front_number : (k : ℕ) → 2 * (k - 1) + 0 ≡ 2 * (k - 1)
front_number k = omega arith

later_stored : (a b : Option PairBlock) (n m : ℕ) (q : PairBlock) → later_pair a b ≡ Some q
    → (x : Stored) × (later (option_map (λ (y : PairBlock). let s : Stored = record { turn = y.turn; write = n } in s) a)
    (option_map (λ (y : PairBlock). let s : Stored = record { turn = y.turn; write = m } in s) b) ≡ Some x) × (x.turn ≡ q.turn)
later_stored None None n m q h = absurd (none_some q h)
later_stored None (Some b) n m q h = (record { turn = b.turn; write = m }, refl, ap (λ (y : PairBlock). y.turn) (some_value b q h))
later_stored (Some a) None n m q h = (record { turn = a.turn; write = n }, refl, ap (λ (y : PairBlock). y.turn) (some_value a q h))
later_stored (Some a) (Some b) n m q h = by (nat_lt b.turn a.turn) h
  where
    by : (c : Bool) → (if c then Some a else Some b) ≡ Some q
        → (x : Stored) × ((if c then Some (let s : Stored = record { turn = a.turn; write = n } in s) else Some (let s : Stored = record { turn = b.turn; write = m } in s)) ≡ Some x) × (x.turn ≡ q.turn)
    by true e = (record { turn = a.turn; write = n }, refl, ap (λ (y : PairBlock). y.turn) (some_value a q e))
    by false e = (record { turn = b.turn; write = m }, refl, ap (λ (y : PairBlock). y.turn) (some_value b q e))

-- A sector that was read is what the landing spells.
read_stored : (w : World) (k : ℕ) (first : Bool) (bytes : List ℕ) (l : Landing) → bytes ≡ l.bytes
    → stored_in w k first l ≡ option_map (λ (y : PairBlock). let s : Stored = record { turn = y.turn; write = step_of_landing w l } in s) (pair_in k first (record_in w.layout bytes))
read_stored w k first bytes l same =
    ap (λ bs. option_map (λ (y : PairBlock). let s : Stored = record { turn = y.turn; write = step_of_landing w l } in s) (pair_in k first (record_in w.layout bs))) (sym same)

sampled_at : (g : Log) (first : Bool) (a b : ℕ) (o : Option Stored) → a ≡ b → SectorAt g first b o → SectorAt g first a o
sampled_at g first a b o same s = subst (λ n. SectorAt g first n o) (sym same) s

pub shows : (p : Program) (h : Header) (xs : List Happening) (r : ResourceLine) → IsPair p h xs r → (world_at p h xs).layout.paired ≡ true → (k : ℕ) → is_host (world_at p h xs) k ≡ true
    → (j t : ℕ) (look : Look) → (pair_log (world_at p h xs) r k).looks j t ≡ Some look → LookShows (pair_log (world_at p h xs) r k) look
shows p h xs r i paired k host j t look told =
    let w : World = world_at p h xs in
    let f : LookFound p h xs r k j t look = look_found p h xs i.run r k j t look told in
    let z : Sent = f.sent in
    let one = pair_sample p h xs i.run r i.there paired k host true z f.has f.reads f.done f.on in
    let two = pair_sample p h xs i.run r i.there paired k host false z f.has f.reads f.done f.on in
    let bs : List ℕ = blocks_sampled w.layout z.course in
    let front_is : stored_in w k true one.landing ≡ stored_of (step_of_landing w one.landing) (pair_front w.layout bs k) =
    read_stored w k true (sector_of w.layout bs (blocks_number k true)) one.landing one.shows
    ∙ ap (λ n. stored_of (step_of_landing w one.landing) (pair_in k true (record_in w.layout (sector_of w.layout bs n)))) (front_number k) in
    let back_is : stored_in w k false two.landing ≡ stored_of (step_of_landing w two.landing) (pair_back w.layout bs k) =
    read_stored w k false (sector_of w.layout bs (blocks_number k false)) two.landing two.shows in
    let block = later_stored (pair_front w.layout bs k) (pair_back w.layout bs k) (step_of_landing w one.landing) (step_of_landing w two.landing) f.pair f.gives in
    record {
      front = stored_in w k true one.landing;
      back = stored_in w k false two.landing;
      first = sampled_at (pair_log w r k) true look.first one.sampling.step (stored_in w k true one.landing) (ap (λ (y : Look). y.first) f.same ∙ one.step)
          (sector_at p h xs i.run r i.there paired k host true one.sampling.step one.landing one.newest);
      second = sampled_at (pair_log w r k) false look.second two.sampling.step (stored_in w k false two.landing) (ap (λ (y : Look). y.second) f.same ∙ two.step)
          (sector_at p h xs i.run r i.there paired k host false two.sampling.step two.landing two.newest);
      block = block.0;
      is = ap (λ x. later x (stored_in w k false two.landing)) front_is ∙ ap (λ x. later (stored_of (step_of_landing w one.landing) (pair_front w.layout bs k)) x) back_is ∙ block.1;
      turn = block.2 ∙ ap (λ (y : Look). y.turn) (sym f.same);
    }

-- ---- when it reads

pub looks_after : (p : Program) (h : Header) (xs : List Happening) (r : ResourceLine) → IsPair p h xs r → (k j t : ℕ) (look : Look) → (pair_log (world_at p h xs) r k).looks j t ≡ Some look
    → j ≤ look.begun
looks_after p h xs r i k j t look told =
    let w : World = world_at p h xs in
    let f : LookFound p h xs r k j t look = look_found p h xs i.run r k j t look told in
    let joined : JoinedFor w r f.sent = joined_for p h xs i.run r i.there f.sent f.work in
    let session : j ≡ joined.step = sym f.join ∙ joined.join in
    let begun : look.begun ≡ step_of f.sent = ap (λ (y : Look). y.begun) f.same in
    let low = joined.low in
    omega (arith, session, begun, low)

pub sampled : (p : Program) (h : Header) (xs : List Happening) (r : ResourceLine) → IsPair p h xs r → (world_at p h xs).layout.paired ≡ true → (k : ℕ) → is_host (world_at p h xs) k ≡ true
    → (j t : ℕ) (look : Look) → (pair_log (world_at p h xs) r k).looks j t ≡ Some look
    → (look.begun < look.first) × (look.first < t) × (look.begun < look.second) × (look.second < t)
sampled p h xs r i paired k host j t look told =
    let f : LookFound p h xs r k j t look = look_found p h xs i.run r k j t look told in
    let one = pair_sample p h xs i.run r i.there paired k host true f.sent f.has f.reads f.done f.on in
    let two = pair_sample p h xs i.run r i.there paired k host false f.sent f.has f.reads f.done f.on in
    let begun : look.begun ≡ step_of f.sent = ap (λ (y : Look). y.begun) f.same in
    let first : look.first ≡ one.sampling.step = ap (λ (y : Look). y.first) f.same ∙ one.step in
    let second : look.second ≡ two.sampling.step = ap (λ (y : Look). y.second) f.same ∙ two.step in
    let a = one.after in
    let b : one.sampling.step < f.stamp.step = one.before f.stamp f.answered in
    let c = two.after in
    let d : two.sampling.step < f.stamp.step = two.before f.stamp f.answered in
    let e = f.at in
    (omega (arith, begun, first, a), omega (arith, first, b, e), omega (arith, begun, second, c), omega (arith, second, d, e))

-- A read writes nothing.
no_write : (c : Course) → writes_block c ≡ true → not (is_write c.call.op) ≡ true → ⊥
no_write c writes reads = let b = record_sent c writes in by c.call.op b.0 b.1 reads
  where
    by : (o : Op) (rec : _) → record_of o ≡ Some rec → not (is_write o) ≡ true → ⊥
    by (ReadSectors n) rec is h = none_some rec is
    by (WriteRecord s) rec is h = false_is_true h

pub reads_only : (p : Program) (h : Header) (xs : List Happening) → LawfulRun p h xs → (r : ResourceLine) → Contains h.resources r → (z : Sent) → Contains (all_sent (world_at p h xs)) z
    → reads_blocks z.course ≡ true → is_on (world_at p h xs).layout (spot_of_line r) z.course.call ≡ true → not (is_write z.course.call.op) ≡ true
reads_only p h xs run r there z has reads on =
    let o = owned p h xs run z has in
    by o.trace.daemon.setting (made_as (made_of o)) (ap (λ (y : Call). y.op) o.trace.is.call) (read_placed p h xs run r there z o on reads)
  where
    by : (st : Setting) (q : Submitted) → q.call.op ≡ z.course.call.op → IsPlaced st (spot_of_line r) q → not (is_write z.course.call.op) ≡ true
    by st q same (inl area) = read_op z.course.call.op _ (sym same ∙ area.1.1)
    by st q same (inr alone) = read_op z.course.call.op _ (sym same ∙ alone.1.1)

pub quiet : (p : Program) (h : Header) (xs : List Happening) (r : ResourceLine) → IsPair p h xs r → (k j t : ℕ) (look : Look) → (pair_log (world_at p h xs) r k).looks j t ≡ Some look → (e : ℕ)
    → (pair_log (world_at p h xs) r k).writes e ≡ true → (pair_log (world_at p h xs) r k).session e ≡ j
    → ((a : ℕ) × ((pair_log (world_at p h xs) r k).answered e ≡ Some a) × (a ≤ look.begun)) ⊎ (t ≤ e)
quiet p h xs r i k j t look told e is mine =
    let w : World = world_at p h xs in
    let f : LookFound p h xs r k j t look = look_found p h xs i.run r k j t look told in
    let x = pair_found p h xs i.run r i.there k e is in
    let same = one_join p h xs i.run r i.there x.sent f.sent x.work f.work (x.host ∙ sym f.host) (sym (session_is p h xs r k e x) ∙ mine ∙ sym f.join) in
    by f x (turns_of p h xs i.run r i.there x.sent f.sent x.is.sent f.has x.work f.work same)
  where
    by : (f : LookFound p h xs r k j t look) (x : PairSent p h xs r k e) → Turns x.sent f.sent
        → ((a : ℕ) × ((pair_log (world_at p h xs) r k).answered e ≡ Some a) × (a ≤ look.begun)) ⊎ (t ≤ e)
    by f x (One one) =
        absurd (no_write x.sent.course x.block
        (subst (λ (y : Sent). not (is_write y.course.call.op) ≡ true) (sym one) (reads_only p h xs i.run r i.there f.sent f.has f.reads f.on)))
    by f x (First s answered early) =
        inl (s.step, answered_is p h xs r k e x s answered, subst (λ n. s.step ≤ n) (sym (ap (λ (y : Look). y.begun) f.same)) early)
    by f x (Second s answered early) =
        let one : s ≡ f.stamp = one_value s f.stamp f.sent.course.answered answered f.answered in
        let at = f.at in
        let step = x.is.step_is in
        let same : s.step ≡ f.stamp.step = ap (λ (y : Stamp). y.step) one in
        inr (omega (arith, early, same, at, step))
