-- What a trace was given of each host is what the landings show that the read has sampled, by its sender.
use Rattle.sl_area.specs.AreaSizes.{Layout}
use Rattle.sl_area.specs.Pairs.{BlocksRead, blocks_of, pair_merged, pairs_of}
use Rattle.sl_safety.proofs.GivenReads.GivenNames.{blocks_paired, given_names}
use Rattle.sl_safety.proofs.Resources.Calls.{IsWork, host_range}
use Rattle.sl_safety.proofs.Resources.OwnBlocks.{layout_at}
use Rattle.sl_safety.proofs.Resources.CallParts.{Standing}
use Rattle.sl_safety.specs.Resources.Histories.{history_block, is_host}
use Rattle.sl_safety.specs.Resources.HistoryLaws.{spot_of_line}
use Rattle.sl_safety.specs.Resources.Reads.{AgreesOn, Block_of, Nothing, Says, step_given}
use Rattle.sl_safety.specs.Resources.SentCalls.{Sent, all_sent, begun_by}
use Rattle.sl_safety.proofs.Pairs.GivenByAnswers.{GivenThere, given_there}
use Rattle.sl_safety.proofs.Pairs.PairsAreGiven.{mapped_there, pairs_are_shown}
use Rattle.sl_safety.proofs.Pairs.SentBlocks.{told_of}
use Rattle.sl_safety.proofs.Pairs.Writes.{IsPair, positive}
use Rattle.sl_safety.specs.Pairs.Reads.{SentOf}
use Rattle.sl_safety.specs.Pairs.PairsAreShown.{Both, given_shown}
use Rattle.sl_safety.specs.Resources.SampledReads.{shown_of}
use Rattle.sl_safety.specs.Pairs.PairLogs.{pair_sent}
use Rattle.sl_ballot_law.specs.Pairs.State.{Stored}
use Rattle.sl_words.proofs.Options.{mapped_value}
use Rattle.sl_run.specs.Runs.{Happening}
use Rattle.sl_run.specs.Safety.{LawfulRun, world_at}
use Rattle.sl_run.specs.Worlds.{Program, World}
use Rattle.sl_run.specs.declared.header.Header.{Header}
use Rattle.sl_run.specs.declared.header.ResourceLine.{ResourceLine}
use Rattle.sl_sector.specs.declared.sector.Block.{Block}
use Rattle.sl_sector.specs.declared.sector.PairBlock.{PairBlock}
use Rattle.sl_trace.specs.Leases.{block_of_host, block_of_record, blocks_given, read_given}
use Rattle.sl_run_law.specs.Leases.Ways.{lease_among}
use Rattle.sl_words.proofs.CaseLaws.{none_some, some_value}
use Rattle.std.proofs.Common.{ap, arith, inl, inr, refl, sym, ◌∙◌}
use Rattle.std.specs.Prelude.{Contains, List, None, Option, Some, [], is_some, map, option_and_then, option_map, slice_get, suc, true, unwrap_or, zero, ℕ, ◌+◌, ◌-◌, ◌<◌, ◌∷◌, ◌≡◌, ◌≤◌}

-- ---- by its step

-- Nobody sent at step 0.
none_at_first : (p : Program) (h : Header) (xs : List Happening) (r : ResourceLine) → IsPair p h xs r → (k : ℕ) → pair_sent (world_at p h xs) r k 0 ≡ None
none_at_first p h xs r i k = by (pair_sent (world_at p h xs) r k 0) refl
  where
    by : (o : Option Sent) → pair_sent (world_at p h xs) r k 0 ≡ o → o ≡ None
    by None is = refl
    by (Some x) is = absurd (let some : 0 < 0 = positive p h xs r i k 0 (ap (λ z. is_some z) is) in omega (arith, some))

pub sent_again : (p : Program) (h : Header) (xs : List Happening) (r : ResourceLine) → IsPair p h xs r → (k : ℕ) (q : PairBlock) (from : Option Sent) → SentOf (world_at p h xs) r k q from
    → pair_sent (world_at p h xs) r k (step_given from) ≡ from
sent_again p h xs r i k q None sent = none_at_first p h xs r i k
sent_again p h xs r i k q (Some x) sent = told_of p h xs i.run r i.there k x sent.0

-- What it says.
says_by : (w : World) (r : ResourceLine) (k : ℕ) (q : PairBlock) (from : Option Sent) → SentOf w r k q from → Says from q.block
says_by w r k q None (inl is) = ap (λ (y : PairBlock). history_block y.block) is
says_by w r k q None (inr is) = ap (λ (y : PairBlock). history_block y.block) is
says_by w r k q (Some x) sent = ap (λ o. option_and_then block_of_record o) sent.1

-- ---- of each host

map_at : {A B : Type 0} (f : A → B) (xs : List A) (i : ℕ) (a : A) → slice_get xs i ≡ Some a → slice_get (map f xs) i ≡ Some (f a)
map_at f [] i a h = absurd (none_some a h)
map_at f (x ∷ xs) zero a h = ap (λ y. Some (f y)) (some_value x a h)
map_at f (x ∷ xs) (suc i) a h = map_at f xs i a h

number_back : (k : ℕ) → 1 ≤ k → 1 + (k - 1) ≡ k
number_back k low = omega (arith, low)

within_hosts : (k n : ℕ) → 1 ≤ k → k ≤ n → k - 1 < n
within_hosts k n low high = omega (arith, low, high)

-- The block of a host among all that were given.
block_at : (g : Layout) → g.paired ≡ true → (v : BlocksRead) (k : ℕ) → 1 ≤ k → k ≤ g.hosts
    → slice_get (blocks_of g v) (k - 1) ≡ Some (option_map (λ (q : PairBlock). q.block) (pair_merged g v k))
block_at g paired v k low high =
    ap (λ l. slice_get l (k - 1)) (blocks_paired g paired v)
    ∙ map_at (λ (o : Option PairBlock). option_map (λ (q : PairBlock). q.block) o) (pairs_of g v) (k - 1) (pair_merged g v (1 + (k - 1)))
    (mapped_there (pair_merged g v) 1 g.hosts (k - 1) (within_hosts k g.hosts low high))
    ∙ ap (λ n. Some (option_map (λ (q : PairBlock). q.block) (pair_merged g v n))) (number_back k low)

host_there : (bs : List (Option Block)) (k : ℕ) (b : Block) → slice_get bs (k - 1) ≡ Some (Some b) → block_of_host bs k ≡ Some b
host_there bs k b at = ap (λ o. unwrap_or o None) at

agrees_by : (p : Program) (h : Header) (xs : List Happening) (r : ResourceLine) → IsPair p h xs r → (k : ℕ) (bs : List (Option Block)) (o : Option PairBlock) (y : Option Stored)
    → slice_get bs (k - 1) ≡ Some (option_map (λ (q : PairBlock). q.block) o) → Both (world_at p h xs) r k o y
    → ((b : Block) → slice_get bs (k - 1) ≡ Some (Some b) → b.host ≡ k) → AgreesOn k bs (option_map (λ (x : Stored). pair_sent (world_at p h xs) r k x.write) y)
agrees_by p h xs r i k bs None None at both names = Nothing at refl
agrees_by p h xs r i k bs None (Some x) at both names = absurd both
agrees_by p h xs r i k bs (Some q) None at both names = absurd both
agrees_by p h xs r i k bs (Some q) (Some x) at both names =
    Block_of q.block both.from at
    (ap (λ n. Some (pair_sent (world_at p h xs) r k n)) both.write ∙ ap (λ z. Some z) (sent_again p h xs r i k q both.from both.sent))
    (says_by (world_at p h xs) r k q both.from both.sent) (names q.block at)

-- ---- of a read in its trace

-- The read that ended with a call, and what the trace has of each host.
pub record AgreesThere (w : World) (r : ResourceLine) (x : Sent) (bs : List (Option Block)) : Type 0 where
  pub first : Sent
  pub begun : begun_by w (spot_of_line r) x ≡ Some first
  pub agrees : (k : ℕ) → is_host w k ≡ true → AgreesOn k bs (given_shown w r k first.course x.course)

pub agrees_there : (p : Program) (h : Header) (xs : List Happening) → LawfulRun p h xs → (r : ResourceLine) → Contains h.resources r → (world_at p h xs).layout.paired ≡ true → (x : Sent)
    → Contains (all_sent (world_at p h xs)) x → IsWork (world_at p h xs) r x → (s : Standing (world_at p h xs) x) → (bs : List (Option Block))
    → blocks_given s.daemon.setting.layout s.told.one (lease_among s.daemon.setting s.session (spot_of_line r) s.told.older) ≡ Some bs → AgreesThere (world_at p h xs) r x bs
agrees_there p h xs run r there paired x has work s bs given =
    let w : World = world_at p h xs in
    let g : Layout = s.daemon.setting.layout in
    let layout : g ≡ w.layout = layout_at p h xs run x s in
    let v = mapped_value (blocks_of g) (read_given g s.told.one (lease_among s.daemon.setting s.session (spot_of_line r) s.told.older)) bs given in
    let t : GivenThere w r x v.0 = given_there p h xs run r there x has work s v.0 v.1 in
    record {
      first = t.first;
      begun = t.begun;
      agrees = λ k host.
          let range = host_range w k host in
          agrees_by p h xs r (record { run = run; there = there }) k bs (pair_merged w.layout v.0 k) (shown_of w (spot_of_line r) k t.first.course x.course)
          (ap (λ l. slice_get l (k - 1)) (sym v.2) ∙ ap (λ (z : Layout). slice_get (blocks_of z v.0) (k - 1)) layout ∙ block_at w.layout paired v.0 k range.0 range.1)
          (pairs_are_shown p h xs r run paired there k host t.first x v.0 t.gives)
          (λ b at. given_names g s.told.one (lease_among s.daemon.setting s.session (spot_of_line r) s.told.older) bs given k range.0 b (host_there bs k b at));
    }
