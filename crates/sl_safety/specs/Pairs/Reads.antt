-- What reads give of a host's pair: a read of all blocks gives it by one answer, or, where some host's second sector is torn in that, by two.
--
-- Nothing is asked of the reader: it is any call that reads the blocks of the resource's area and was answered ok.
use Rattle.sl_area.specs.Pairs.{BlocksRead, needs_again, pair_merged, pairs_kept, read_once}
use Rattle.sl_area.specs.AreaRecords.{fresh_pair}
use Rattle.sl_safety.specs.Resources.Histories.{is_host}
use Rattle.sl_safety.specs.Resources.Orders.{BlockSent}
use Rattle.sl_safety.specs.Resources.HistoryLaws.{spot_of_line}
use Rattle.sl_safety.specs.Resources.Reads.{StandsSince, step_given}
use Rattle.sl_safety.specs.Resources.SentCalls.{Sent, all_sent, reads_blocks, step_of}
use Rattle.sl_safety.specs.Resources.SampledReads.{blocks_sampled}
use Rattle.sl_run.specs.Runs.{Happening}
use Rattle.sl_run.specs.Safety.{LawfulRun, world_at}
use Rattle.sl_run.specs.Worlds.{Program, Stamp, World}
use Rattle.sl_run.specs.declared.header.Header.{Header}
use Rattle.sl_run.specs.declared.header.ResourceLine.{ResourceLine}
use Rattle.sl_sector.specs.declared.sector.PairBlock.{PairBlock}
use Rattle.sl_sector.specs.declared.sector.Rec.TheVariants.{PairIs}
use Rattle.sl_trace.specs.Leases.{is_again, is_on}
use Rattle.sl_trace.specs.Traces.{new_call, record_of}
use Rattle.std.specs.Prelude.{Contains, List, None, Option, Some, false, true, ℕ, ◌++◌, ◌<◌, ◌≡◌, ◌≤◌, ◌⊎◌}

-- ---- reads

-- A read of all blocks of the resource that was answered ok.
pub record IsReadOf (w : World) (r : ResourceLine) (z : Sent) : Type 0 where
  pub has : Contains (all_sent w) z
  pub reads : reads_blocks z.course ≡ true
  pub done : z.course.done ≡ true
  pub on : is_on w.layout (spot_of_line r) z.course.call ≡ true

-- What it gives of all blocks: by its own answer, or by that and the answer of a second read, which was submitted after it.
pub data GivesBlocks (w : World) (r : ResourceLine) (first last : Sent) (g : BlocksRead) : Type 0 where
  Once : IsReadOf w r last → first ≡ last → is_again (new_call 0 0 last.course.call) ≡ false → needs_again w.layout (blocks_sampled w.layout last.course) ≡ false → g ≡ read_once (blocks_sampled w.layout last.course)
      → GivesBlocks w r first last g
  Twice : IsReadOf w r first → IsReadOf w r last → is_again (new_call 0 0 last.course.call) ≡ true → (s : Stamp) → first.course.answered ≡ Some s → s.step ≤ step_of last
      → g ≡ record { kept = pairs_kept w.layout (blocks_sampled w.layout first.course); last = blocks_sampled w.layout last.course } → GivesBlocks w r first last g

-- ---- what they give of a host

-- Who sent a block of the host's pair; with none, it stood there at first.
abbrev pub SentOf : World → ResourceLine → ℕ → PairBlock → Option Sent → Type 0
SentOf w r k q None = (q ≡ fresh_pair k 1 r.lockspace r.name) ⊎ (q ≡ fresh_pair k 2 r.lockspace r.name)
SentOf w r k q (Some x) = BlockSent w r k x × (record_of x.course.call.op ≡ Some (PairIs q))

-- A block as a register gives it: it was submitted by a session of the host, before the read was answered, and it is no older than any
-- block of the host that was answered ok when the read began.
pub record PairGiven (w : World) (r : ResourceLine) (k begun ended : ℕ) (q : PairBlock) : Type 0 where
  pub from : Option Sent
  pub sent : SentOf w r k q from
  pub earlier : step_given from < ended
  pub newest : (x : Sent) → BlockSent w r k x → x.course.done ≡ true → (s : Stamp) → x.course.answered ≡ Some s → s.step ≤ begun → step_of x ≤ step_given from

-- A host's pair in what a read gives of all blocks is such a block.
abbrev pub PairsAreGiven : Type 0
PairsAreGiven = (p : Program) (h : Header) (xs : List Happening) (r : ResourceLine) → LawfulRun p h xs → (world_at p h xs).layout.paired ≡ true → Contains h.resources r
    → (k : ℕ) → is_host (world_at p h xs) k ≡ true → (first last : Sent) (g : BlocksRead) → GivesBlocks (world_at p h xs) r first last g
    → (s : Stamp) → last.course.answered ≡ Some s → (q : PairBlock) → pair_merged (world_at p h xs).layout g k ≡ Some q
    → PairGiven (world_at p h xs) r k (step_of first) s.step q

-- ---- what stands

-- Once a block of a host was answered ok, what stands in its pair is that block, or one that was submitted later.
abbrev pub PairsStand : Type 0
PairsStand = (p : Program) (h : Header) (xs : List Happening) (r : ResourceLine) → LawfulRun p h xs → (world_at p h xs).layout.paired ≡ true → Contains h.resources r
    → (now rest : List Happening) → xs ≡ now ++ rest → StandsSince p h xs r now
