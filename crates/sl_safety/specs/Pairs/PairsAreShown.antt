-- What reads show of a host's pair by the landings that they have sampled: it is computed from the world, as the history of a resource is.
use Rattle.sl_area.specs.Pairs.{BlocksRead, pair_merged}
use Rattle.sl_safety.specs.Resources.Histories.{is_host}
use Rattle.sl_safety.specs.Resources.HistoryLaws.{spot_of_line}
use Rattle.sl_safety.specs.Resources.Reads.{step_given}
use Rattle.sl_safety.specs.Resources.SentCalls.{Sent}
use Rattle.sl_safety.specs.Pairs.Reads.{GivesBlocks, SentOf}
use Rattle.sl_safety.specs.Pairs.PairLogs.{pair_sent}
use Rattle.sl_safety.specs.Resources.SampledReads.{shown_of}
use Rattle.sl_ballot_law.specs.Pairs.State.{Stored}
use Rattle.sl_run.specs.Runs.{Happening}
use Rattle.sl_run.specs.Safety.{LawfulRun, world_at}
use Rattle.sl_run.specs.Worlds.{Course, Program, World}
use Rattle.sl_run.specs.declared.header.Header.{Header}
use Rattle.sl_run.specs.declared.header.ResourceLine.{ResourceLine}
use Rattle.sl_sector.specs.declared.sector.PairBlock.{PairBlock}
use Rattle.std.specs.Prelude.{Contains, List, None, Option, Some, option_map, true, ℕ, ◌≡◌}

-- ---- by landings

-- What is shown by a read that began with the first of these calls and ended with the last: the block's sender, or none, where it stood
-- there at first.
abbrev pub given_shown : World → ResourceLine → ℕ → Course → Course → Option (Option Sent)
given_shown w r k first last = option_map (λ x. pair_sent w r k x.write) (shown_of w (spot_of_line r) k first last)

-- ---- it is what is given

-- A block that was read, as the pair's states know it: by its turn and the step of its sender.
pub record StandsFor (w : World) (r : ResourceLine) (k : ℕ) (q : PairBlock) (x : Stored) : Type 0 where
  pub turn : x.turn ≡ q.turn
  pub from : Option Sent
  pub sent : SentOf w r k q from
  pub write : x.write ≡ step_given from

-- Neither, or both.
abbrev pub Both : World → ResourceLine → ℕ → Option PairBlock → Option Stored → Type 0
Both w r k None None = Unit {0}
Both w r k None (Some x) = ⊥
Both w r k (Some q) None = ⊥
Both w r k (Some q) (Some x) = StandsFor w r k q x

-- What a read gives of a host's pair is what is shown of it.
abbrev pub PairsAreShown : Type 0
PairsAreShown = (p : Program) (h : Header) (xs : List Happening) (r : ResourceLine) → LawfulRun p h xs → (world_at p h xs).layout.paired ≡ true → Contains h.resources r
    → (k : ℕ) → is_host (world_at p h xs) k ≡ true → (first last : Sent) (g : BlocksRead) → GivesBlocks (world_at p h xs) r first last g
    → Both (world_at p h xs) r k (pair_merged (world_at p h xs).layout g k) (shown_of (world_at p h xs) (spot_of_line r) k first.course last.course)
