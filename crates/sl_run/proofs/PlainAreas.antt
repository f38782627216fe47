-- Areas where each host's block has one sector.
use Rattle.sl_area.specs.AreaSizes.{Layout}
use Rattle.sl_area.specs.AreaRecords.{fresh_block, fresh_leader, fresh_pair, no_request, no_value}
use Rattle.sl_area.specs.AreaLayout.{leader_spelled}
use Rattle.sl_run.specs.Worlds.{initial_of_resource}
use Rattle.sl_run.specs.declared.header.ResourceLine.{ResourceLine}
use Rattle.sl_sector.specs.SectorLayouts.{leader_in, pair_leader_in}
use Rattle.sl_sector.specs.declared.sector.Bad.{Bad}
use Rattle.sl_sector.specs.declared.sector.Leader.{Leader}
use Rattle.sl_sector.specs.declared.sector.Rec.TheVariants.{BlockIs, LeaderIs, PairIs, PairLeaderIs, RequestIs, ValueIs}
use Rattle.sl_sector.specs.declared.sector.Rec.{Rec}
use Rattle.sl_words.specs.Words.{choose}
use Rattle.std.proofs.Common.{ap}
use Rattle.std.specs.Prelude.{Bool, Option, Result, Some, false, if◌then◌else◌, nat_lt, true, ℕ, ◌%◌, ◌*◌, ◌+◌, ◌-◌, ◌/◌, ◌==◌, ◌≡◌}

-- Sector k of a resource's area at moment 0, with pairs or without.
abbrev initial_with : Bool → Layout → ResourceLine → ℕ → Option Rec
initial_with b g r k =
    if k == 0 then Some (elim b as (λ x. Rec) [ false ↦ LeaderIs (fresh_leader g r.lockspace r.name) | true ↦ PairLeaderIs (fresh_leader g r.lockspace r.name) ])
    else (if k == 1 then Some (RequestIs no_request)
    else (if nat_lt k (elim b as (λ x. ℕ) [ false ↦ g.hosts | true ↦ 2 * g.hosts ] + 2) then
    Some (elim b as (λ x. Rec) [ false ↦ BlockIs (fresh_block (k - 1)) | true ↦ PairIs (fresh_pair (k / 2) (1 + k % 2) r.lockspace r.name) ])
    else choose ((k + 1) * g.sector == g.area) (ValueIs no_value)))

-- Without: leader, request, a block for each host, value.
abbrev pub initial_once : Layout → ResourceLine → ℕ → Option Rec
initial_once g r k =
    if k == 0 then Some (LeaderIs (fresh_leader g r.lockspace r.name))
    else (if k == 1 then Some (RequestIs no_request)
    else (if nat_lt k (g.hosts + 2) then Some (BlockIs (fresh_block (k - 1)))
    else choose ((k + 1) * g.sector == g.area) (ValueIs no_value)))

pub initial_plain : (g : Layout) → g.paired ≡ false → (r : ResourceLine) (k : ℕ) → initial_of_resource g r k ≡ initial_once g r k
initial_plain g plain r k = ap (λ b. initial_with b g r k) plain

-- The leader's own record.
pub spelled_plain : (g : Layout) → g.paired ≡ false → (r : Result Rec Bad) → leader_spelled g r ≡ leader_in r
spelled_plain g plain r = ap (λ b. elim b as (λ x. Option Leader) [ false ↦ leader_in r | true ↦ pair_leader_in r ]) plain
