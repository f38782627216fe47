-- What stands at a value's place at first has no seq.
use Rattle.sl_area.specs.AreaSizes.{Layout, layout_with, record_in}
use Rattle.sl_area.specs.AreaLayout.{area_sectors, in_area}
use Rattle.sl_area.specs.AreaRecords.{fresh_block, fresh_block_at, fresh_leader, fresh_pair, leader_record, no_request, no_value}
use Rattle.sl_run.specs.Runs.{Happening}
use Rattle.sl_run.specs.Safety.{LawfulRun, world_at}
use Rattle.sl_run.specs.Worlds.{Program, World, first_landing, initial_of_lockspace, initial_of_resource, initial_record}
use Rattle.sl_run.specs.declared.header.Header.{Header}
use Rattle.sl_run.specs.declared.header.LockspaceLine.{LockspaceLine}
use Rattle.sl_run.specs.declared.header.ResourceLine.{ResourceLine}
use Rattle.sl_safety.proofs.Ballot.ReasonLeaders.{first_spells}
use Rattle.sl_sector.specs.SectorLayouts.{value_in}
use Rattle.sl_sector.specs.declared.sector.Bad.{Bad}
use Rattle.sl_sector.specs.declared.sector.Block.{Block}
use Rattle.sl_sector.specs.declared.sector.Leader.{Leader}
use Rattle.sl_sector.specs.declared.sector.PairBlock.{PairBlock}
use Rattle.sl_sector.specs.declared.sector.Rec.TheVariants.{BlockIs, DeltaIs, LeaderIs, PairIs, PairLeaderIs, RequestIs, ValueIs}
use Rattle.sl_sector.specs.declared.sector.Rec.{Rec}
use Rattle.sl_sector.specs.declared.sector.ValueRec.{ValueRec}
use Rattle.sl_words.proofs.CaseLaws.{none_some, some_value}
use Rattle.sl_words.proofs.WordLaws.{choose_some}
use Rattle.sl_words.specs.Words.{choose}
use Rattle.std.proofs.Common.{ap, sym}
use Rattle.std.specs.Prelude.{Bool, Err, List, None, Ok, Option, Result, Some, bytes_eq, false, find, if◌then◌else◌, nat_lt, true, ℕ, ◌&&◌, ◌%◌, ◌*◌, ◌+◌, ◌-◌, ◌/◌, ◌==◌, ◌≡◌}

value_or : (a b : ValueRec) → ValueIs a ≡ ValueIs b → a ≡ b
value_or a b h = cc

of_lockspace : (h : Header) (k : LockspaceLine) (n : ℕ) (v : ValueRec) → initial_of_lockspace h k n ≡ Some (ValueIs v) → ⊥
of_lockspace h k n v eq = let c = (choose_some _ _ _ eq).1 in absurd cc

-- A leader's record and a block's are no values, of either kind.
no_leader : (b : Bool) (l : Leader) (v : ValueRec) → elim b as (λ z. Rec) [ false ↦ LeaderIs l | true ↦ PairLeaderIs l ] ≡ ValueIs v → ⊥
no_leader false l v eq = absurd cc
no_leader true l v eq = absurd cc

no_block : (b : Bool) (x : Block) (y : PairBlock) (v : ValueRec) → elim b as (λ z. Rec) [ false ↦ BlockIs x | true ↦ PairIs y ] ≡ ValueIs v → ⊥
no_block false x y v eq = absurd cc
no_block true x y v eq = absurd cc

of_resource : (g : Layout) (x : ResourceLine) (k : ℕ) (v : ValueRec) (leader request block last : Bool)
    → (if leader then Some (leader_record g (fresh_leader g x.lockspace x.name))
    else (if request then Some (RequestIs no_request)
    else (if block then Some (fresh_block_at g x.lockspace x.name k)
    else choose last (ValueIs no_value)))) ≡ Some (ValueIs v) → v.seq ≡ 0
of_resource g x k v true request block last eq =
    let fresh : Leader = fresh_leader g x.lockspace x.name in
    absurd (no_leader g.paired fresh v (some_value (leader_record g fresh) (ValueIs v) eq))
of_resource g x k v false true block last eq = absurd cc
of_resource g x k v false false true last eq =
    absurd
    (no_block g.paired (fresh_block (k - 1)) (fresh_pair (k / 2) (1 + k % 2) x.lockspace x.name) v
    (some_value (fresh_block_at g x.lockspace x.name k) (ValueIs v) eq))
of_resource g x k v false false false true eq = ap (λ (y : ValueRec). y.seq) (sym (value_or no_value v (some_value (ValueIs no_value) (ValueIs v) eq)))
of_resource g x k v false false false false eq = absurd (none_some (ValueIs v) eq)

initial_by : (g : Layout) (h : Header) (offset : ℕ) (v : ValueRec) (o : Option LockspaceLine) (q : Option ResourceLine)
    → elim o as (λ x. Option Rec) [
      | Some k ↦ initial_of_lockspace h k ((offset - k.offset) / g.sector)
      | None ↦ elim q as (λ x. Option Rec) [ Some x ↦ initial_of_resource g x ((offset - x.offset) / g.sector) | None ↦ None ]
    ] ≡ Some (ValueIs v) → v.seq ≡ 0
initial_by g h offset v None None eq = absurd (none_some (ValueIs v) eq)
initial_by g h offset v None (Some x) eq =
    let k : ℕ = (offset - x.offset) / g.sector in
    of_resource g x k v (k == 0) (k == 1) (nat_lt k (area_sectors g)) ((k + 1) * g.sector == g.area) eq
initial_by g h offset v (Some k) q eq = absurd (of_lockspace h k ((offset - k.offset) / g.sector) v eq)

unset : (g : Layout) (h : Header) (path : List ℕ) (offset : ℕ) (v : ValueRec) → initial_record g h path offset ≡ Some (ValueIs v) → v.seq ≡ 0
unfolding initial_record
unset g h path offset v eq =
    initial_by g h offset v (find (λ k. bytes_eq k.path path && in_area g k.offset offset) h.lockspaces)
    (find (λ r. bytes_eq r.path path && in_area g r.offset offset) h.resources) eq

value_is : (r : Result Rec Bad) (v : ValueRec) → value_in r ≡ Some v → r ≡ Ok (ValueIs v)
value_is (Ok (ValueIs u)) v h = ap (λ z. let y : Result Rec Bad = Ok (ValueIs z) in y) (some_value u v h)
value_is (Ok (DeltaIs d)) v h = absurd (none_some v h)
value_is (Ok (LeaderIs d)) v h = absurd (none_some v h)
value_is (Ok (BlockIs d)) v h = absurd (none_some v h)
value_is (Ok (PairIs d)) v h = absurd (none_some v h)
value_is (Ok (PairLeaderIs d)) v h = absurd (none_some v h)
value_is (Ok (RequestIs d)) v h = absurd (none_some v h)
value_is (Err e) v h = absurd (none_some v h)

pub first_is_unset : (p : Program) (h : Header) (xs : List Happening) → LawfulRun p h xs → (path : List ℕ) (offset : ℕ) (v : ValueRec)
    → value_in (record_in (world_at p h xs).layout (first_landing (world_at p h xs) path offset).bytes) ≡ Some v → v.seq ≡ 0
first_is_unset p h xs run path offset v spells =
    let w : World = world_at p h xs in
    unset (layout_with p.digest h.geometry) h path offset v
    (first_spells p h xs run path offset (ValueIs v) (value_is (record_in w.layout (first_landing w path offset).bytes) v spells))
