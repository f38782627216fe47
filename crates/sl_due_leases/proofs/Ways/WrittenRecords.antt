-- The records of blocks and leaders are no delta records, and they are of the kind of their areas.
use Rattle.sl_area.specs.AreaSizes.{Layout}
use Rattle.sl_area.specs.AreaRecords.{block_record, leader_record}
use Rattle.sl_run.specs.LawfulArea.{is_of_format}
use Rattle.sl_sector.specs.declared.sector.Block.{Block}
use Rattle.sl_sector.specs.declared.sector.Leader.{Leader}
use Rattle.sl_sector.specs.declared.sector.Rec.TheVariants.{BlockIs, LeaderIs, PairIs, PairLeaderIs}
use Rattle.sl_sector.specs.declared.sector.Rec.{Rec}
use Rattle.sl_trace.specs.Sessions.{delta_of_record}
use Rattle.std.proofs.Common.{ap, refl}
use Rattle.std.specs.Prelude.{Bool, List, None, false, not, true, ℕ, ◌≡◌}

abbrev block_by : Bool → ℕ → List ℕ → List ℕ → Block → Rec
block_by paired turn lockspace resource b =
    elim paired as (λ x. Rec) [ false ↦ BlockIs b | true ↦ PairIs (record { block = b; turn = turn; lockspace = lockspace; resource = resource }) ]

abbrev leader_by : Bool → Leader → Rec
leader_by paired l = elim paired as (λ x. Rec) [ false ↦ LeaderIs l | true ↦ PairLeaderIs l ]

pub block_no_delta : (g : Layout) (turn : ℕ) (lockspace resource : List ℕ) (b : Block) → delta_of_record (block_record g turn lockspace resource b) ≡ None
block_no_delta g turn lockspace resource b = by g.paired where
  by : (q : Bool) → delta_of_record (block_by q turn lockspace resource b) ≡ None
  by false = refl
  by true = refl

pub leader_no_delta : (g : Layout) (l : Leader) → delta_of_record (leader_record g l) ≡ None
leader_no_delta g l = by g.paired where
  by : (q : Bool) → delta_of_record (leader_by q l) ≡ None
  by false = refl
  by true = refl

pub block_format : (g : Layout) (turn : ℕ) (lockspace resource : List ℕ) (b : Block) → is_of_format g (block_record g turn lockspace resource b) ≡ true
block_format g turn lockspace resource b = by g.paired refl where
  by : (q : Bool) → g.paired ≡ q → is_of_format g (block_by q turn lockspace resource b) ≡ true
  by false is = ap (λ z. not z) is
  by true is = is

pub leader_format : (g : Layout) (l : Leader) → is_of_format g (leader_record g l) ≡ true
leader_format g l = by g.paired refl where
  by : (q : Bool) → g.paired ≡ q → is_of_format g (leader_by q l) ≡ true
  by false is = ap (λ z. not z) is
  by true is = is
