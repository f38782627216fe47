-- The records of an area that nobody has used keep their rules.
use Rattle.sl_area.proofs.SizeLaws.{has_room}
use Rattle.sl_area.specs.AreaSizes.{IsGeometry, Layout, Sizes, layout_of}
use Rattle.sl_area.specs.AreaLayout.{area_sectors}
use Rattle.sl_area.specs.AreaRecords.{fresh_block, fresh_block_at, fresh_delta, fresh_leader, fresh_pair, leader_record, no_request, no_value}
use Rattle.sl_sector.specs.Records.{IsRecord}
use Rattle.sl_sector.specs.declared.sector.Leader.{Leader}
use Rattle.sl_sector.specs.declared.sector.Rec.TheVariants.{BlockIs, DeltaIs, LeaderIs, PairIs, PairLeaderIs, RequestIs, ValueIs}
use Rattle.sl_sector.specs.declared.sector.Rec.{Rec}
use Rattle.sl_text.specs.Names.{is_name}
use Rattle.std.proofs.Common.{Bool, IsTrue, List, ap, arith, false, refl, sym, true, ℕ, ◌%◌, ◌*◌, ◌+◌, ◌-◌, ◌/◌, ◌<◌, ◌^◌, ◌≡◌, ◌≤◌}

nothing_less : 0 < 0 → ⊥
nothing_less h = omega (arith, h)

no_number : 0 < 2 ^ 63
no_number = omega arith

a_moment : 0 < 10 ^ 15
a_moment = omega arith

at_least_none : (n : ℕ) → 0 ≤ n
at_least_none n = omega arith

pub fresh_delta_is : (name : List ℕ) (id : ℕ) → IsTrue (is_name name) → 1 ≤ id → id ≤ 2000 → IsRecord (DeltaIs (fresh_delta name id))
fresh_delta_is name id named low high =
    record {
      id = (low, high);
      generation = no_number;
      seq = no_number;
      stamp = a_moment;
      lockspace = named;
      bitmap = (refl, refl);
      unused = λ h. (refl, refl, refl, refl, refl);
      used = λ h. absurd (nothing_less h);
    }

pub fresh_leader_is : (g : Sizes) (space name : List ℕ) → IsGeometry g → IsTrue (is_name space) → IsTrue (is_name name)
    → IsRecord (LeaderIs (fresh_leader (layout_of g) space name))
fresh_leader_is g space name is a b =
    record {
      hosts = (has_room g is).hosts;
      lver = no_number;
      generation = no_number;
      owner = at_least_none g.hosts;
      lockspace = a;
      resource = b;
      same = ((λ h. refl, λ h. refl), (λ h. refl, λ h. refl));
      unused = λ h. refl;
    }

-- ---- of an area with pairs, and of one without

pub leader_with_pairs : (g : Layout) (l : Leader) → g.paired ≡ true → PairLeaderIs l ≡ leader_record g l
leader_with_pairs g l e = sym (ap (λ (p : Bool). elim p as (λ _. Rec) [ false ↦ LeaderIs l | true ↦ PairLeaderIs l ]) e)

pub leader_without : (g : Layout) (l : Leader) → g.paired ≡ false → LeaderIs l ≡ leader_record g l
leader_without g l e = sym (ap (λ (p : Bool). elim p as (λ _. Rec) [ false ↦ LeaderIs l | true ↦ PairLeaderIs l ]) e)

pub block_with_pairs : (g : Layout) (space name : List ℕ) (k : ℕ) → g.paired ≡ true → PairIs (fresh_pair (k / 2) (1 + k % 2) space name) ≡ fresh_block_at g space name k
block_with_pairs g space name k e =
    sym (ap (λ (p : Bool). elim p as (λ _. Rec) [ false ↦ BlockIs (fresh_block (k - 1)) | true ↦ PairIs (fresh_pair (k / 2) (1 + k % 2) space name) ]) e)

pub block_without : (g : Layout) (space name : List ℕ) (k : ℕ) → g.paired ≡ false → BlockIs (fresh_block (k - 1)) ≡ fresh_block_at g space name k
block_without g space name k e =
    sym (ap (λ (p : Bool). elim p as (λ _. Rec) [ false ↦ BlockIs (fresh_block (k - 1)) | true ↦ PairIs (fresh_pair (k / 2) (1 + k % 2) space name) ]) e)

-- The leader of an area of either kind.
pub leader_record_is : (g : Sizes) (space name : List ℕ) → IsGeometry g → IsTrue (is_name space) → IsTrue (is_name name)
    → IsRecord (leader_record (layout_of g) (fresh_leader (layout_of g) space name))
leader_record_is g space name is a b = by g.paired
  where
    l : Leader
    l = fresh_leader (layout_of g) space name

    by : (paired : Bool) → IsRecord (elim paired as (λ _. Rec) [ false ↦ LeaderIs l | true ↦ PairLeaderIs l ])
    by false = fresh_leader_is g space name is a b
    by true = fresh_leader_is g space name is a b

pub fresh_block_is : (host : ℕ) → 1 ≤ host → host ≤ 2000 → IsRecord (BlockIs (fresh_block host))
fresh_block_is host low high =
    record {
      host = (low, high);
      lver = no_number;
      mbal = no_number;
      bal = at_least_none 0;
      generations = (no_number, no_number);
      inp = at_least_none 2000;
      value = ((λ h. refl, λ h. refl), (λ h. refl, λ h. refl));
      mode = (λ h. refl, λ h. refl);
      unused = λ h. (refl, refl);
    }

pub fresh_pair_is : (host turn : ℕ) (space name : List ℕ) → 1 ≤ host → host ≤ 2000 → 1 ≤ turn → turn ≤ 2 → IsTrue (is_name space) → IsTrue (is_name name)
    → IsRecord (PairIs (fresh_pair host turn space name))
fresh_pair_is host turn space name low high some few a b =
    record { block = fresh_block_is host low high; turn = (some, omega (arith, few)); lockspace = a; resource = b }

-- What stands in a sector of the blocks.
pub fresh_block_at_is : (g : Sizes) (space name : List ℕ) (k : ℕ) → IsGeometry g → IsTrue (is_name space) → IsTrue (is_name name) → 2 ≤ k → k < area_sectors (layout_of g)
    → IsRecord (fresh_block_at (layout_of g) space name k)
fresh_block_at_is g space name k is a b low high = by g.paired high
  where
    few : g.hosts ≤ 2000
    few = (has_room g is).hosts.1

    by : (paired : Bool) → k < elim paired as (λ _. ℕ) [ false ↦ g.hosts | true ↦ 2 * g.hosts ] + 2
        → IsRecord (elim paired as (λ _. Rec) [ false ↦ BlockIs (fresh_block (k - 1)) | true ↦ PairIs (fresh_pair (k / 2) (1 + k % 2) space name) ])
    by false within = fresh_block_is (k - 1) (omega (arith, low)) (omega (arith, within, few))
    by true within =
        fresh_pair_is (k / 2) (1 + k % 2) space name (omega (arith, low)) (omega (arith, within, few)) (omega arith) (omega arith) a b

pub no_request_is : IsRecord (RequestIs no_request)
no_request_is = record { force = at_least_none 2; host = at_least_none 2000; lver = no_number; same = (λ h. refl, λ h. refl) }

pub no_value_is : IsRecord (ValueIs no_value)
no_value_is = record { host = at_least_none 2000; lver = no_number; seq = no_number; bytes = (at_least_none 256, refl) }
