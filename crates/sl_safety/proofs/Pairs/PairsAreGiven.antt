-- What reads give of a host's pair is a register's content.
use Rattle.sl_area.specs.AreaSizes.{Layout, record_in}
use Rattle.sl_area.specs.Pairs.{BlocksRead, later_pair, needs_again, pair_back, pair_front, pair_kept, pair_merged, pair_read, pairs_kept}
use Rattle.sl_area.specs.AreaLayout.{sector_of}
use Rattle.sl_safety.proofs.Resources.Calls.{host_range, sent_there}
use Rattle.sl_safety.specs.Resources.Histories.{is_host}
use Rattle.sl_safety.specs.Resources.HistoryLaws.{spot_of_line}
use Rattle.sl_safety.specs.Resources.Reads.{step_given}
use Rattle.sl_safety.specs.Resources.SentCalls.{Sent, step_of}
use Rattle.sl_safety.proofs.Pairs.Looks.{PairSample, front_number, pair_sample}
use Rattle.sl_safety.proofs.Pairs.Places.{blocks_number}
use Rattle.sl_safety.proofs.Pairs.PairsAreLogs.{pairs_are_logs}
use Rattle.sl_safety.proofs.Pairs.Sectors.{sector_at}
use Rattle.sl_safety.proofs.Pairs.SentBlocks.{told_of}
use Rattle.sl_safety.proofs.Pairs.SpelledBlocks.{both_some, later_stands, merged_stands, spelled_stands}
use Rattle.sl_safety.specs.Pairs.Reads.{GivesBlocks, IsReadOf, Once, PairsAreGiven, SentOf, Twice}
use Rattle.sl_safety.specs.Pairs.PairsAreShown.{Both, PairsAreShown, StandsFor}
use Rattle.sl_safety.specs.Pairs.PairLogs.{pair_log, pair_sent}
use Rattle.sl_safety.specs.Resources.SampledReads.{blocks_sampled, pair_number, shown_of, shown_once, shown_twice, stored_in, stored_sampled}
use Rattle.sl_ballot_law.proofs.PairLogs.RegistersAreRead.{reads_are_registers}
use Rattle.sl_ballot_law.specs.PairLogs.Logs.{SectorAt}
use Rattle.sl_ballot_law.specs.PairLogs.Theorems.{IsRegisterOf, Read_once, Read_twice, ReadsPair}
use Rattle.sl_ballot_law.specs.Pairs.Reads.{merged}
use Rattle.sl_ballot_law.specs.Pairs.State.{Stored, later}
use Rattle.sl_words.proofs.Lists.{any_of, contains_first, contains_more}
use Rattle.sl_run.specs.Runs.{Happening}
use Rattle.sl_run.specs.Safety.{LawfulRun, world_at}
use Rattle.sl_run.specs.Worlds.{Course, Program, Stamp, World}
use Rattle.sl_run.specs.declared.header.Header.{Header}
use Rattle.sl_run.specs.declared.header.ResourceLine.{ResourceLine}
use Rattle.sl_run_law.proofs.Sample.SampleLaws.{samples_come_in_order}
use Rattle.sl_sector.specs.SectorLayouts.{pair_in}
use Rattle.sl_sector.specs.declared.sector.PairBlock.{PairBlock}
use Rattle.sl_trace.specs.Leases.{is_again, is_area_read}
use Rattle.sl_trace.specs.Traces.{new_call}
use Rattle.sl_trace.specs.declared.effects.Spot.{Spot}
use Rattle.sl_words.proofs.CaseLaws.{some_value, true_is_false}
use Rattle.sl_words.specs.Words.{some_is}
use Rattle.std.proofs.Common.{ap, arith, refl, subst, sym, ◌∙◌}
use Rattle.std.specs.List.{list_any, range_with_len}
use Rattle.std.specs.Prelude.{Bool, Contains, List, None, Option, Some, false, if◌then◌else◌, is_none, is_some, map, option_and_then, option_map, slice_get, suc, true, unwrap_or, zero, ℕ, ◌&&◌, ◌*◌, ◌+◌, ◌-◌, ◌<◌, ◌∷◌, ◌≡◌, ◌≤◌}
use Rattle.sl_safety.specs.Resources.Orders.{BlockSent}

-- ---- the two sectors in one answer

pub record SectorsRead (p : Program) (h : Header) (xs : List Happening) (r : ResourceLine) (k : ℕ) (z : Sent) : Type 0 where
  pub one : ℕ
  pub two : ℕ
  pub after : step_of z < one
  pub order : one ≤ two
  pub before : (s : Stamp) → z.course.answered ≡ Some s → two < s.step
  pub front : Option Stored
  pub back : Option Stored
  pub front_is : stored_sampled (world_at p h xs) (spot_of_line r) k true z.course ≡ front
  pub back_is : stored_sampled (world_at p h xs) (spot_of_line r) k false z.course ≡ back
  pub first : SectorAt (pair_log (world_at p h xs) r k) true one front
  pub second : SectorAt (pair_log (world_at p h xs) r k) false two back
  pub fronts : Both (world_at p h xs) r k (pair_front (world_at p h xs).layout (blocks_sampled (world_at p h xs).layout z.course) k) front
  pub backs : Both (world_at p h xs) r k (pair_back (world_at p h xs).layout (blocks_sampled (world_at p h xs).layout z.course) k) back

in_order_by : (k : ℕ) (area : Bool)
    → (if area then 2 * (k - 1) + 0 + 2 else 2 * (k - 1) + 0) ≤ (if area then 2 * (k - 1) + 1 + 2 else 2 * (k - 1) + 1)
in_order_by k true = omega arith
in_order_by k false = omega arith

numbers_in_order : (c : Course) (k : ℕ) → pair_number c k true ≤ pair_number c k false
numbers_in_order c k = in_order_by k (is_area_read (new_call 0 0 c.call))

sampled_stands : (p : Program) (h : Header) (xs : List Happening) → LawfulRun p h xs → (r : ResourceLine) → Contains h.resources r → (world_at p h xs).layout.paired ≡ true → (k : ℕ)
    → is_host (world_at p h xs) k ≡ true → (first : Bool) (z : Sent) (s : PairSample p h xs r k first z)
    → Both (world_at p h xs) r k
    (pair_in k first (record_in (world_at p h xs).layout (sector_of (world_at p h xs).layout (blocks_sampled (world_at p h xs).layout z.course) (blocks_number k first))))
    (stored_in (world_at p h xs) k first s.landing)
sampled_stands p h xs run r there paired k host first z s =
    let w : World = world_at p h xs in
    subst (λ bs. Both w r k (pair_in k first (record_in w.layout bs)) (stored_in w k first s.landing)) (sym s.shows)
    (spelled_stands p h xs run r there paired k host first s.sampling.step s.landing s.newest)

sectors_read : (p : Program) (h : Header) (xs : List Happening) → LawfulRun p h xs → (r : ResourceLine) → Contains h.resources r → (world_at p h xs).layout.paired ≡ true → (k : ℕ)
    → is_host (world_at p h xs) k ≡ true → (z : Sent) → IsReadOf (world_at p h xs) r z → SectorsRead p h xs r k z
sectors_read p h xs run r there paired k host z i =
    let w : World = world_at p h xs in
    let a = pair_sample p h xs run r there paired k host true z i.has i.reads i.done i.on in
    let b = pair_sample p h xs run r there paired k host false z i.has i.reads i.done i.on in
    let m = sent_there w z i.has in
    record {
      one = a.sampling.step;
      two = b.sampling.step;
      after = a.after;
      order = samples_come_in_order p h xs run z.machine m.machine z.course m.at m.has (pair_number z.course k true) (pair_number z.course k false) a.sampling b.sampling a.there b.there
          (numbers_in_order z.course k);
      before = b.before;
      front = stored_in w k true a.landing;
      back = stored_in w k false b.landing;
      front_is = ap (option_and_then (stored_in w k true)) a.shown;
      back_is = ap (option_and_then (stored_in w k false)) b.shown;
      first = sector_at p h xs run r there paired k host true a.sampling.step a.landing a.newest;
      second = sector_at p h xs run r there paired k host false b.sampling.step b.landing b.newest;
      fronts = subst (λ n. Both w r k (pair_in k true (record_in w.layout (sector_of w.layout (blocks_sampled w.layout z.course) n))) (stored_in w k true a.landing)) (front_number k)
          (sampled_stands p h xs run r there paired k host true z a);
      backs = sampled_stands p h xs run r there paired k host false z b;
    }

-- ---- what is shown, by the two sectors

shown_by_one : (p : Program) (h : Header) (xs : List Happening) (r : ResourceLine) (k : ℕ) (first last : Sent) → is_again (new_call 0 0 last.course.call) ≡ false
    → (s : SectorsRead p h xs r k last) → later s.front s.back ≡ shown_of (world_at p h xs) (spot_of_line r) k first.course last.course
shown_by_one p h xs r k first last again s =
    let w : World = world_at p h xs in
    let at : Spot = spot_of_line r in
    ap (λ o. later o s.back) (sym s.front_is) ∙ ap (later (stored_sampled w at k true last.course)) (sym s.back_is)
    ∙ ap (λ b. elim b as (λ c. Option Stored) [ false ↦ shown_once w at k last.course | true ↦ shown_twice w at k first.course last.course ]) (sym again)

shown_by_two : (p : Program) (h : Header) (xs : List Happening) (r : ResourceLine) (k : ℕ) (first last : Sent) → is_again (new_call 0 0 last.course.call) ≡ true
    → (s : SectorsRead p h xs r k first) (u : SectorsRead p h xs r k last)
    → merged s.front s.back u.front u.back ≡ shown_of (world_at p h xs) (spot_of_line r) k first.course last.course
shown_by_two p h xs r k first last again s u =
    let w : World = world_at p h xs in
    let at : Spot = spot_of_line r in
    let a : Option Stored = stored_sampled w at k true first.course in
    let b : Option Stored = stored_sampled w at k false first.course in
    let c : Option Stored = stored_sampled w at k true last.course in
    ap (λ o. merged o s.back u.front u.back) (sym s.front_is) ∙ ap (λ o. merged a o u.front u.back) (sym s.back_is) ∙ ap (λ o. merged a b o u.back) (sym u.front_is)
    ∙ ap (λ o. merged a b c o) (sym u.back_is)
    ∙ ap (λ v. elim v as (λ z. Option Stored) [ false ↦ shown_once w at k last.course | true ↦ shown_twice w at k first.course last.course ]) (sym again)

-- ---- what is given, as the pair's states know it

pub record ReadAs (p : Program) (h : Header) (xs : List Happening) (r : ResourceLine) (k : ℕ) (first last : Sent) (q : PairBlock) : Type 0 where
  pub ended : ℕ
  pub before : (s : Stamp) → last.course.answered ≡ Some s → ended < s.step
  pub block : Stored
  pub shown : shown_of (world_at p h xs) (spot_of_line r) k first.course last.course ≡ Some block
  pub reads : ReadsPair (pair_log (world_at p h xs) r k) (step_of first) ended block
  pub stands : StandsFor (world_at p h xs) r k q block

not_none : {A : Type 0} (o : Option A) → is_none o ≡ false → (a : A) × (o ≡ Some a)
not_none None h = absurd (true_is_false h)
not_none (Some a) h = (a, refl)

in_range_by : (a n i : ℕ) → i < n → Contains (range_with_len a n) (a + i)
in_range_by a zero i h = absurd (omega (arith, h))
in_range_by a (suc n) zero h = let same : a ≡ a + 0 = omega arith in subst (λ k. Contains (a ∷ range_with_len (a + 1) n) k) same (contains_first a (range_with_len (a + 1) n))
in_range_by a (suc n) (suc i) h =
    let same : a + 1 + i ≡ a + suc i = omega arith in
    subst (λ k. Contains (a ∷ range_with_len (a + 1) n) k) same (contains_more a (range_with_len (a + 1) n) (a + 1 + i) (in_range_by (a + 1) n i (omega (arith, h))))

host_inside : (k hosts : ℕ) → 1 ≤ k → k ≤ hosts → Contains (range_with_len 1 hosts) k
host_inside k hosts low high =
    let same : 1 + (k - 1) ≡ k = omega (arith, low) in subst (λ n. Contains (range_with_len 1 hosts) n) same (in_range_by 1 hosts (k - 1) (omega (arith, low, high)))

any_false : (p : ℕ → Bool) (xs : List ℕ) (x : ℕ) → Contains xs x → list_any p xs ≡ false → (b : Bool) → p x ≡ b → p x ≡ false
any_false p xs x there none true is = absurd (true_is_false (sym (any_of p xs x is there) ∙ none))
any_false p xs x there none false is = is

-- Where the read isn't made once more, the host's second sector is whole.
back_whole : (g : Layout) (bs : List ℕ) (k : ℕ) → g.paired ≡ true → needs_again g bs ≡ false → 1 ≤ k → k ≤ g.hosts → (q : PairBlock) × (pair_back g bs k ≡ Some q)
back_whole g bs k paired once low high =
    let any : list_any (λ id. is_none (pair_back g bs id)) (range_with_len 1 g.hosts) ≡ false =
    ap (λ b. b && list_any (λ id. is_none (pair_back g bs id)) (range_with_len 1 g.hosts)) (sym paired) ∙ once in
    not_none (pair_back g bs k) (any_false (λ id. is_none (pair_back g bs id)) (range_with_len 1 g.hosts) k (host_inside k g.hosts low high) any (is_none (pair_back g bs k)) refl)

-- An element of a list that a function gives of numbers in a row.
pub mapped_there : {A : Type 0} (f : ℕ → A) (a n i : ℕ) → i < n → slice_get (map f (range_with_len a n)) i ≡ Some (f (a + i))
mapped_there f a zero i h = absurd (omega (arith, h))
mapped_there f a (suc n) zero h = let same : a ≡ a + 0 = omega arith in ap (λ k. Some (f k)) same
mapped_there f a (suc n) (suc i) h =
    let same : a + 1 + i ≡ a + suc i = omega arith in mapped_there f (a + 1) n i (omega (arith, h)) ∙ ap (λ k. Some (f k)) same

kept_at : (g : Layout) (bs : List ℕ) (k : ℕ) → 1 ≤ k → k ≤ g.hosts → unwrap_or (slice_get (pairs_kept g bs) (k - 1)) None ≡ pair_kept g bs k
kept_at g bs k low high =
    let same : 1 + (k - 1) ≡ k = omega (arith, low) in
    ap (λ o. unwrap_or o None) (mapped_there (pair_kept g bs) 1 g.hosts (k - 1) (omega (arith, low, high))) ∙ ap (pair_kept g bs) same

-- ---- by one answer, or by two

next_up : (a b : ℕ) → a < b → a ≤ b
next_up a b h = omega (arith, h)

up_to : (b s n c : ℕ) → b < s → s ≤ n → n < c → b ≤ c
up_to b s n c h i j = omega (arith, h, i, j)

once_both : (p : Program) (h : Header) (xs : List Happening) (r : ResourceLine) (k : ℕ) (z : Sent) (s : SectorsRead p h xs r k z)
    → Both (world_at p h xs) r k (pair_read (world_at p h xs).layout (blocks_sampled (world_at p h xs).layout z.course) k) (later s.front s.back)
once_both p h xs r k z s =
    let w : World = world_at p h xs in
    let bs : List ℕ = blocks_sampled w.layout z.course in
    later_stands w r k (pair_front w.layout bs k) (pair_back w.layout bs k) s.front s.back s.fronts s.backs

twice_both : (p : Program) (h : Header) (xs : List Happening) (r : ResourceLine) (k : ℕ) (y z : Sent) (s : SectorsRead p h xs r k y) (u : SectorsRead p h xs r k z)
    → Both (world_at p h xs) r k
    (later_pair (pair_kept (world_at p h xs).layout (blocks_sampled (world_at p h xs).layout y.course) k)
    (pair_read (world_at p h xs).layout (blocks_sampled (world_at p h xs).layout z.course) k)) (merged s.front s.back u.front u.back)
twice_both p h xs r k y z s u =
    let w : World = world_at p h xs in
    let bs : List ℕ = blocks_sampled w.layout y.course in
    let cs : List ℕ = blocks_sampled w.layout z.course in
    merged_stands w r k (pair_front w.layout bs k) (pair_back w.layout bs k) (pair_front w.layout cs k) (pair_back w.layout cs k) s.front s.back u.front u.back s.fronts s.backs u.fronts u.backs

read_as_once : (p : Program) (h : Header) (xs : List Happening) → LawfulRun p h xs → (r : ResourceLine) → Contains h.resources r → (world_at p h xs).layout.paired ≡ true → (k : ℕ)
    → is_host (world_at p h xs) k ≡ true → (z : Sent) → IsReadOf (world_at p h xs) r z → is_again (new_call 0 0 z.course.call) ≡ false
    → needs_again (world_at p h xs).layout (blocks_sampled (world_at p h xs).layout z.course) ≡ false → (q : PairBlock) → pair_read (world_at p h xs).layout (blocks_sampled (world_at p h xs).layout z.course) k ≡ Some q → ReadAs p h xs r k z z q
read_as_once p h xs run r there paired k host z i again once q given =
    let w : World = world_at p h xs in
    let bs : List ℕ = blocks_sampled w.layout z.course in
    let s : SectorsRead p h xs r k z = sectors_read p h xs run r there paired k host z i in
    let range = host_range w k host in
    let whole = back_whole w.layout bs k paired once range.0 range.1 in
    let back = both_some w r k (pair_back w.layout bs k) whole.0 s.back whole.1 s.backs in
    let x = both_some w r k (pair_read w.layout bs k) q (later s.front s.back) given (once_both p h xs r k z s) in
    record {
      ended = s.two;
      before = s.before;
      block = x.0;
      shown = sym (shown_by_one p h xs r k z z again s) ∙ x.1;
      reads = Read_once s.one s.two (next_up (step_of z) s.one s.after) s.order (omega arith) s.front back.0 s.first
          (subst (λ o. SectorAt (pair_log w r k) false s.two o) back.1 s.second) (ap (λ o. later s.front o) (sym back.1) ∙ x.1);
      stands = x.2;
    }

read_as_twice : (p : Program) (h : Header) (xs : List Happening) → LawfulRun p h xs → (r : ResourceLine) → Contains h.resources r → (world_at p h xs).layout.paired ≡ true → (k : ℕ)
    → is_host (world_at p h xs) k ≡ true → (y z : Sent) → IsReadOf (world_at p h xs) r y → IsReadOf (world_at p h xs) r z → is_again (new_call 0 0 z.course.call) ≡ true
    → (t : Stamp) → y.course.answered ≡ Some t → t.step ≤ step_of z
    → (q : PairBlock)
    → later_pair (pair_kept (world_at p h xs).layout (blocks_sampled (world_at p h xs).layout y.course) k)
    (pair_read (world_at p h xs).layout (blocks_sampled (world_at p h xs).layout z.course) k) ≡ Some q → ReadAs p h xs r k y z q
read_as_twice p h xs run r there paired k host y z i j again t told after q given =
    let w : World = world_at p h xs in
    let s : SectorsRead p h xs r k y = sectors_read p h xs run r there paired k host y i in
    let u : SectorsRead p h xs r k z = sectors_read p h xs run r there paired k host z j in
    let x = both_some w r k (later_pair (pair_kept w.layout (blocks_sampled w.layout y.course) k) (pair_read w.layout (blocks_sampled w.layout z.course) k)) q
    (merged s.front s.back u.front u.back) given (twice_both p h xs r k y z s u) in
    record {
      ended = u.two;
      before = u.before;
      block = x.0;
      shown = sym (shown_by_two p h xs r k y z again s u) ∙ x.1;
      reads = Read_twice s.one s.two u.one u.two (next_up (step_of y) s.one s.after) s.order (up_to s.two t.step (step_of z) u.one (s.before t told) after u.after) u.order (omega arith)
          s.front s.back u.front u.back s.first s.second u.first u.second x.1;
      stands = x.2;
    }

-- ---- so it is a register's

-- A block that was read, by its sender: it was submitted by a session of the host, before the read was answered, and it is no older than any
-- block of the host that was answered ok when the read began.
pub record GivenShown (w : World) (r : ResourceLine) (k begun ended : ℕ) (pair : PairBlock) (block : Stored) : Type 0 where
  pub from : Option Sent
  pub sent : SentOf w r k pair from
  pub write : block.write ≡ step_given from
  pub earlier : step_given from < ended
  pub newest : (x : Sent) → BlockSent w r k x → x.course.done ≡ true → (s : Stamp) → x.course.answered ≡ Some s → s.step ≤ begun → step_of x ≤ step_given from

given_as : (p : Program) (h : Header) (xs : List Happening) → LawfulRun p h xs → (r : ResourceLine) → Contains h.resources r → (world_at p h xs).layout.paired ≡ true → (k : ℕ)
    → is_host (world_at p h xs) k ≡ true → (first last : Sent) (q : PairBlock) → (a : ReadAs p h xs r k first last q) → (s : Stamp) → last.course.answered ≡ Some s
    → GivenShown (world_at p h xs) r k (step_of first) s.step q a.block
given_as p h xs run r there paired k host first last q a s told =
    let w : World = world_at p h xs in
    let begun : ℕ = step_of first in
    let g : IsRegisterOf (pair_log w r k) begun a.ended a.block =
    reads_are_registers (pair_log w r k) (pairs_are_logs p h xs r run paired there k host) begun a.ended a.block a.reads in
    record {
      from = a.stands.from;
      sent = a.stands.sent;
      write = a.stands.write;
      earlier = below (step_given a.stands.from) a.block.write a.ended s.step a.stands.write g.earlier (a.before s told);
      newest = λ x b done t answered early.
          let at : pair_sent w r k (step_of x) ≡ Some x = told_of p h xs run r there k x b in
          let low : step_of x ≤ a.block.write =
          g.newest (step_of x) t.step (ap (λ o. is_some o) at) (ap (λ o. some_is (λ (v : Sent). v.course.done) o) at ∙ done)
          (ap (option_and_then (λ (v : Sent). option_map (λ (u : Stamp). u.step) v.course.answered)) at ∙ ap (option_map (λ (u : Stamp). u.step)) answered) early in
          subst (λ n. step_of x ≤ n) a.stands.write low;
    }
  where
    below : (a b c d : ℕ) → b ≡ a → b ≤ c → c < d → a < d
    below a b c d e h i = omega (arith, e, h, i)

-- What a read gives of a host's pair, as it was read.
pub read_as : (p : Program) (h : Header) (xs : List Happening) → LawfulRun p h xs → (r : ResourceLine) → Contains h.resources r → (world_at p h xs).layout.paired ≡ true → (k : ℕ)
    → is_host (world_at p h xs) k ≡ true → (first last : Sent) (g : BlocksRead) → GivesBlocks (world_at p h xs) r first last g
    → (q : PairBlock) → pair_merged (world_at p h xs).layout g k ≡ Some q → ReadAs p h xs r k first last q
read_as p h xs run r there paired k host first last g (Once i same again once is) q given =
    let w : World = world_at p h xs in
    subst (λ (y : Sent). ReadAs p h xs r k y last q) (sym same)
    (read_as_once p h xs run r there paired k host last i again once q (ap (λ (v : BlocksRead). pair_merged w.layout v k) (sym is) ∙ given))
read_as p h xs run r there paired k host first last g (Twice i j again t answered after is) q given =
    let w : World = world_at p h xs in
    let range = host_range w k host in
    read_as_twice p h xs run r there paired k host first last i j again t answered after q
    (ap (λ o. later_pair o (pair_read w.layout (blocks_sampled w.layout last.course) k)) (sym (kept_at w.layout (blocks_sampled w.layout first.course) k range.0 range.1))
    ∙ ap (λ (v : BlocksRead). pair_merged w.layout v k) (sym is) ∙ given)

pub pairs_are_given : PairsAreGiven
pairs_are_given p h xs r run paired there k host first last g gives s told q given =
    let a = read_as p h xs run r there paired k host first last g gives q given in
    let b = given_as p h xs run r there paired k host first last q a s told in
    record { from = b.from; sent = b.sent; earlier = b.earlier; newest = b.newest }

-- ---- and it is what is shown

pub pairs_are_shown : PairsAreShown
pairs_are_shown p h xs r run paired there k host first last g (Once i same again once is) =
    let w : World = world_at p h xs in
    let s : SectorsRead p h xs r k last = sectors_read p h xs run r there paired k host last i in
    subst (λ (v : BlocksRead). Both w r k (pair_merged w.layout v k) (shown_of w (spot_of_line r) k first.course last.course)) (sym is)
    (subst (λ o. Both w r k (pair_read w.layout (blocks_sampled w.layout last.course) k) o) (shown_by_one p h xs r k first last again s) (once_both p h xs r k last s))
pairs_are_shown p h xs r run paired there k host first last g (Twice i j again t answered after is) =
    let w : World = world_at p h xs in
    let range = host_range w k host in
    let s : SectorsRead p h xs r k first = sectors_read p h xs run r there paired k host first i in
    let u : SectorsRead p h xs r k last = sectors_read p h xs run r there paired k host last j in
    let cs : List ℕ = blocks_sampled w.layout last.course in
    subst (λ (v : BlocksRead). Both w r k (pair_merged w.layout v k) (shown_of w (spot_of_line r) k first.course last.course)) (sym is)
    (subst (λ o. Both w r k (later_pair o (pair_read w.layout cs k)) (shown_of w (spot_of_line r) k first.course last.course))
    (sym (kept_at w.layout (blocks_sampled w.layout first.course) k range.0 range.1))
    (subst (λ o. Both w r k (later_pair (pair_kept w.layout (blocks_sampled w.layout first.course) k) (pair_read w.layout cs k)) o) (shown_by_two p h xs r k first last again s u)
    (twice_both p h xs r k first last s u)))

-- ---- so is what is shown

gives_pair : (w : World) (r : ResourceLine) (k : ℕ) (o : Option PairBlock) (x : Stored) → Both w r k o (Some x) → (q : PairBlock) × (o ≡ Some q)
gives_pair w r k None x both = absurd both
gives_pair w r k (Some q) x both = (q, refl)

-- What a read shows of a host's pair is such a block.
pub shown_as : (p : Program) (h : Header) (xs : List Happening) → LawfulRun p h xs → (r : ResourceLine) → Contains h.resources r → (world_at p h xs).layout.paired ≡ true → (k : ℕ)
    → is_host (world_at p h xs) k ≡ true → (first last : Sent) (g : BlocksRead) → GivesBlocks (world_at p h xs) r first last g → (s : Stamp) → last.course.answered ≡ Some s
    → (x : Stored) → shown_of (world_at p h xs) (spot_of_line r) k first.course last.course ≡ Some x
    → (q : PairBlock) × GivenShown (world_at p h xs) r k (step_of first) s.step q x
shown_as p h xs run r there paired k host first last g gives s told x shown =
    let w : World = world_at p h xs in
    let q = gives_pair w r k (pair_merged w.layout g k) x
    (subst (λ o. Both w r k (pair_merged w.layout g k) o) shown (pairs_are_shown p h xs r run paired there k host first last g gives)) in
    let a = read_as p h xs run r there paired k host first last g gives q.0 q.1 in (
      q.0,
      subst (λ (y : Stored). GivenShown w r k (step_of first) s.step q.0 y) (some_value a.block x (sym a.shown ∙ shown))
          (given_as p h xs run r there paired k host first last q.0 a s told),
    )
