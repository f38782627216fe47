-- A read of blocks in its trace: its bytes are what it sampled; where each host's block has one sector it gave of each host what that spells.
use Rattle.sl_area.specs.AreaSizes.{Layout, record_in}
use Rattle.sl_area.specs.Pairs.{BlocksRead, blocks_of, pair_merged, pairs_of}
use Rattle.sl_area.specs.AreaLayout.{blocks_in, read_at as sector_read, sector_of}
use Rattle.sl_run_law.proofs.Course.CallsAreDistinct.{nothing_more}
use Rattle.sl_run_law.specs.Course.CallStamps.{AnswersAgree, IsAnsweredAs, IsCourseOf}
use Rattle.sl_words.proofs.Numbers.{both_next, one_again, one_further, zero_less}
use Rattle.sl_safety.proofs.Resources.AnsweredReads.{By_area, By_phase, Gave, given_blocks, given_told}
use Rattle.sl_safety.specs.Resources.SampledReads.{sector_number}
use Rattle.sl_safety.specs.Resources.SentCalls.{reads_blocks}
use Rattle.sl_run.specs.Worlds.{Course, Daemon}
use Rattle.sl_sector.specs.SectorLayouts.{block_in}
use Rattle.sl_sector.specs.declared.sector.Block.{Block}
use Rattle.sl_trace.specs.Leases.{blocks_given, is_area_read, is_block_read, read_given}
use Rattle.sl_trace.specs.Traces.{Answered, Submitted, gave, is_ok_answer, new_call}
use Rattle.sl_trace.specs.declared.effects.Call.{Call}
use Rattle.sl_words.proofs.CaseLaws.{none_some, some_value}
use Rattle.std.proofs.Common.{ap, arith, refl, subst, sym, ◌∙◌}
use Rattle.std.proofs.lemmas.List.{drop-drop}
use Rattle.std.specs.List.{range_with_len}
use Rattle.std.specs.Prelude.{Bool, List, Option, Some, drop, false, if◌then◌else◌, map, option_map, slice_get, suc, take, true, zero, ℕ, ◌*◌, ◌+◌, ◌-◌, ◌<◌, ◌≡◌, ◌≤◌}
use Rattle.sl_sector.specs.declared.sector.PairBlock.{PairBlock}
use Rattle.sl_safety.proofs.GivenReads.GivenNames.{blocks_paired, mapped_at}
use Rattle.sl_words.proofs.Options.{mapped_value}
use Rattle.sl_trace.proofs.PlainReads.{blocks_plain}

-- ---- its answer

-- A read that gave blocks, with its answer.
pub record ReadTold (d : Daemon) (c : Course) (q : Submitted) : Type 0 where
  pub bytes : List ℕ
  pub gave_is : gave q ≡ Some bytes
  pub answer : Answered
  pub its : q.answer ≡ Some answer
  pub answered : IsAnsweredAs d c answer
  pub done : c.done ≡ true
  pub sampled : bytes ≡ c.sampled
  pub reads : reads_blocks c ≡ true

pub read_told : (d : Daemon) (c : Course) (q : Submitted) (before : List Submitted) (bs : List (Option Block)) → IsCourseOf d c q
    → blocks_given d.setting.layout q before ≡ Some bs → ReadTold d c q
read_told d c q before bs pair given =
    let a = given_told d.setting.layout q before bs given in
    let heard : IsAnsweredAs d c a.answered = subst (λ o. AnswersAgree d c o) a.is pair.answers in
    record {
      bytes = a.bytes;
      gave_is = a.gave_is;
      answer = a.answered;
      its = a.is;
      answered = heard;
      done = heard.done ∙ ap (λ x. is_ok_answer x) a.read;
      sampled = heard.gives a.bytes a.read;
      reads = ap (λ (y : Call). is_block_read (new_call 0 0 y)) (sym pair.call) ∙ a.reads;
    }

-- ---- what was given of a host

less_one : (j n : ℕ) → suc j < suc n → j < n
less_one j n h = omega (arith, h)

nothing_below : (j : ℕ) → j < 0 → ⊥
nothing_below j h = omega (arith, h)

ranged_at : {A : Type 0} (f : ℕ → A) (a n j : ℕ) → j < n → slice_get (map f (range_with_len a n)) j ≡ Some (f (a + j))
ranged_at f a zero j lt = absurd (nothing_below j lt)
ranged_at f a (suc n) zero lt = ap (λ i. Some (f i)) (sym (nothing_more a))
ranged_at f a (suc n) (suc j) lt = ranged_at f (a + 1) n j (less_one j n lt) ∙ ap (λ i. Some (f i)) (one_further a j)

below_hosts : (k n : ℕ) → 1 ≤ k → k ≤ n → k - 1 < n
below_hosts k n low high = omega (arith, low, high)

two_before : (k : ℕ) → 1 ≤ k → 2 + (k - 1) ≡ k + 1
two_before k low = omega (arith, low)

two_and : (s j : ℕ) → 2 * s + j * s ≡ (2 + j) * s
two_and s j = grind arith

two_on : (s k : ℕ) → 1 ≤ k → 2 * s + (k - 1) * s ≡ (k + 1) * s
two_on s k low = two_and s (k - 1) ∙ ap (λ n. n * s) (two_before k low)

behind_two : (g : Layout) (bytes : List ℕ) (k : ℕ) → 1 ≤ k → sector_of g (drop (2 * g.sector) bytes) (k - 1) ≡ sector_of g bytes (k + 1)
behind_two g bytes k low = ap (λ l. take g.sector l) (drop-drop ((k - 1) * g.sector) (2 * g.sector) bytes ∙ ap (λ n. drop n bytes) (two_on g.sector k low))

block_there : (g : Layout) (bytes : List ℕ) (k : ℕ) → 1 ≤ k → k ≤ g.hosts
    → slice_get (blocks_in g bytes) (k - 1) ≡ Some (block_in k (record_in g (sector_of g bytes (k - 1))))
block_there g bytes k low high =
    ranged_at (λ i. block_in i (sector_read g bytes (i - 1))) 1 g.hosts (k - 1) (below_hosts k g.hosts low high)
    ∙ ap (λ i. Some (block_in i (sector_read g bytes (i - 1)))) (one_again k low)

abbrev number_if : Bool → ℕ → ℕ
number_if area k = if area then k + 1 else k - 1

-- What was given of a host is what its sector spells.
given_of : (g : Layout) (q : Submitted) (bs : List (Option Block)) (k : ℕ) → 1 ≤ k → k ≤ g.hosts → Gave g q bs → (bytes : List ℕ) → gave q ≡ Some bytes
    → slice_get bs (k - 1) ≡ Some (block_in k (record_in g (sector_of g bytes (number_if (is_area_read q) k))))
given_of g q bs k low high (By_area some told is same) bytes gives =
    let one : some ≡ bytes = some_value some bytes (sym told ∙ gives) in
    ap (λ l. slice_get l (k - 1)) same ∙ block_there g (drop (2 * g.sector) some) k low high ∙ ap (λ l. Some (block_in k (record_in g l))) (behind_two g some k low)
    ∙ ap (λ l. Some (block_in k (record_in g (sector_of g l (k + 1))))) one ∙ ap (λ b. Some (block_in k (record_in g (sector_of g bytes (number_if b k))))) (sym is)
given_of g q bs k low high (By_phase some told alone is same) bytes gives =
    let one : some ≡ bytes = some_value some bytes (sym told ∙ gives) in
    ap (λ l. slice_get l (k - 1)) same ∙ block_there g some k low high
    ∙ ap (λ l. Some (block_in k (record_in g (sector_of g l (k - 1))))) one ∙ ap (λ b. Some (block_in k (record_in g (sector_of g bytes (number_if b k))))) (sym alone)

pub given_at : (g : Layout) → g.paired ≡ false → (d : Daemon) (c : Course) (q : Submitted) (before : List Submitted) (bs : List (Option Block)) → d.setting.layout ≡ g → IsCourseOf d c q
    → ReadTold d c q → blocks_given d.setting.layout q before ≡ Some bs → (k : ℕ) → 1 ≤ k → k ≤ g.hosts
    → slice_get bs (k - 1) ≡ Some (block_in k (record_in g (sector_of g c.sampled (sector_number c k))))
given_at g plain d c q before bs layout pair t given k low high =
    given_of g q bs k low high (given_blocks g plain q before bs (ap (λ (y : Layout). blocks_given y q before) (sym layout) ∙ given)) t.bytes t.gave_is
    ∙ ap (λ (y : Call). Some (block_in k (record_in g (sector_of g t.bytes (number_if (is_area_read (new_call 0 0 y)) k))))) pair.call
    ∙ ap (λ l. Some (block_in k (record_in g (sector_of g l (sector_number c k))))) t.sampled

-- ---- of hosts alone

ranged_below : {A : Type 0} (f : ℕ → A) (a n j : ℕ) (y : A) → slice_get (map f (range_with_len a n)) j ≡ Some y → j < n
ranged_below f a zero j y h = absurd (none_some y h)
ranged_below f a (suc n) zero y h = zero_less n
ranged_below f a (suc n) (suc j) y h = both_next j n (ranged_below f (a + 1) n j y h)

below_by : (g : Layout) (v : BlocksRead) (b : Bool) → g.paired ≡ b → (j : ℕ) (o : Option Block) → slice_get (blocks_of g v) j ≡ Some o → j < g.hosts
below_by g v false plain j o at = ranged_below (λ k. block_in k (sector_read g v.last (k - 1))) 1 g.hosts j o (ap (λ l. slice_get l j) (sym (blocks_plain g plain v)) ∙ at)
below_by g v true paired j o at =
    let x = mapped_at (λ (p : Option PairBlock). option_map (λ (q : PairBlock). q.block) p) (pairs_of g v) j o (ap (λ l. slice_get l j) (sym (blocks_paired g paired v)) ∙ at) in
    ranged_below (pair_merged g v) 1 g.hosts j x.0 x.1

-- Each place among the blocks is a host's.
pub given_below : (g : Layout) (q : Submitted) (before : List Submitted) (bs : List (Option Block)) (j : ℕ) (o : Option Block) → blocks_given g q before ≡ Some bs
    → slice_get bs j ≡ Some o → j < g.hosts
given_below g q before bs j o given at =
    let v = mapped_value (blocks_of g) (read_given g q before) bs given in below_by g v.0 g.paired refl j o (ap (λ l. slice_get l j) v.2 ∙ at)
