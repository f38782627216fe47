-- The record of a block, or of a leader, is one of two kinds, by whether each host's block has a pair of sectors.
use Rattle.sl_area.specs.AreaSizes.{Layout}
use Rattle.sl_area.specs.AreaRecords.{block_record, leader_record}
use Rattle.sl_sector.specs.declared.sector.Block.{Block}
use Rattle.sl_sector.specs.declared.sector.Leader.{Leader}
use Rattle.sl_sector.specs.declared.sector.Rec.TheVariants.{BlockIs, LeaderIs, PairIs, PairLeaderIs}
use Rattle.sl_sector.specs.declared.sector.Rec.{Rec}
use Rattle.std.specs.Prelude.{Bool, List, false, true, ℕ}

pub block_cases : (P : Rec → Type 0) (g : Layout) (turn : ℕ) (lockspace name : List ℕ) (b : Block) → P (BlockIs b)
    → P (PairIs (record { block = b; turn = turn; lockspace = lockspace; resource = name })) → P (block_record g turn lockspace name b)
block_cases P g turn lockspace name b one two = by g.paired where
  by : (q : Bool) → P (elim q as (λ z. Rec) [ false ↦ BlockIs b | true ↦ PairIs (record { block = b; turn = turn; lockspace = lockspace; resource = name }) ])
  by false = one
  by true = two

pub leader_cases : (P : Rec → Type 0) (g : Layout) (l : Leader) → P (LeaderIs l) → P (PairLeaderIs l) → P (leader_record g l)
leader_cases P g l one two = by g.paired where
  by : (q : Bool) → P (elim q as (λ z. Rec) [ false ↦ LeaderIs l | true ↦ PairLeaderIs l ])
  by false = one
  by true = two
