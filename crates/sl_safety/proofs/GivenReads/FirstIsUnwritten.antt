-- Where each host's block has one sector, what stood at first at a place spells no block that a ballot has written; and what it is that
-- spells a host's block.
use Rattle.sl_run.proofs.PlainAreas.{initial_plain}
use Rattle.sl_area.specs.AreaSizes.{Layout, layout_with, record_in, sector_with}
use Rattle.sl_area.specs.AreaRecords.{fresh_block, fresh_leader, no_request, no_value}
use Rattle.sl_area.specs.AreaLayout.{in_area}
use Rattle.sl_run_law.proofs.Landing.InitialRecords.{initial_is_record}
use Rattle.sl_run_law.proofs.Place.Beginnings.{zeros_at}
use Rattle.sl_run_law.proofs.Place.FoundInLists.{same_read}
use Rattle.sl_run_law.proofs.Place.TracesOnMachines.{header_is, layout_is}
use Rattle.sl_run_law.proofs.Place.Sizes.{sector_fits, sized}
use Rattle.sl_safety.specs.Resources.Histories.{history_block, no_block}
use Rattle.sl_run.specs.Headers.{IsHeader}
use Rattle.sl_run.specs.Runs.{Happening}
use Rattle.sl_run.specs.Safety.{LawfulRun, world_at}
use Rattle.sl_run.specs.Worlds.{Program, World, first_landing, initial_bytes, initial_of_lockspace, initial_of_resource, initial_record}
use Rattle.sl_run.specs.declared.header.Header.{Header}
use Rattle.sl_run.specs.declared.header.LockspaceLine.{LockspaceLine}
use Rattle.sl_run.specs.declared.header.ResourceLine.{ResourceLine}
use Rattle.sl_sector.proofs.PublicLaws.{spelled_is_read}
use Rattle.sl_sector.specs.SectorLayouts.{IsDigest, block_in}
use Rattle.sl_sector.specs.declared.sector.Block.{Block}
use Rattle.sl_sector.specs.declared.sector.Rec.TheVariants.{BlockIs, DeltaIs, LeaderIs, PairIs, PairLeaderIs, RequestIs, ValueIs}
use Rattle.sl_sector.specs.declared.sector.Rec.{Rec}
use Rattle.sl_sector.specs.declared.sector.Bad.{Bad}
use Rattle.sl_words.proofs.CaseLaws.{none_some, some_value}
use Rattle.sl_words.proofs.WordLaws.{choose_some}
use Rattle.sl_words.specs.Words.{choose}
use Rattle.std.proofs.Common.{ap, refl, subst, sym, ◌∙◌}
use Rattle.std.proofs.lemmas.Bool.{eqb-true}
use Rattle.std.specs.Prelude.{Bool, Err, List, None, Ok, Option, Result, Some, bytes_eq, false, find, if◌then◌else◌, nat_lt, replicate, true, ℕ, ◌&&◌, ◌*◌, ◌+◌, ◌-◌, ◌/◌, ◌==◌, ◌≡◌}

-- ---- what stood there at first

pub block_or : (a b : Block) → BlockIs a ≡ BlockIs b → a ≡ b
block_or a b h = cc

of_lockspace : (h : Header) (l : LockspaceLine) (k : ℕ) (b : Block) → initial_of_lockspace h l k ≡ Some (BlockIs b) → ⊥
of_lockspace h l k b eq = let c = (choose_some _ _ _ eq).1 in absurd cc

of_resource : (g : Layout) (x : ResourceLine) (k : ℕ) (b : Block) (leader request block last : Bool)
    → (if leader then Some (LeaderIs (fresh_leader g x.lockspace x.name))
    else (if request then Some (RequestIs no_request)
    else (if block then Some (BlockIs (fresh_block (k - 1)))
    else choose last (ValueIs no_value)))) ≡ Some (BlockIs b) → history_block b ≡ no_block
of_resource g x k b true request block last eq = absurd cc
of_resource g x k b false true block last eq = absurd cc
of_resource g x k b false false true last eq = ap history_block (sym (block_or (fresh_block (k - 1)) b (some_value (BlockIs (fresh_block (k - 1))) (BlockIs b) eq)))
of_resource g x k b false false false true eq = absurd cc
of_resource g x k b false false false false eq = absurd (none_some (BlockIs b) eq)

initial_by : (g : Layout) → g.paired ≡ false → (h : Header) (offset : ℕ) (b : Block) (o : Option LockspaceLine) (q : Option ResourceLine)
    → elim o as (λ x. Option Rec) [
      | Some l ↦ initial_of_lockspace h l ((offset - l.offset) / g.sector)
      | None ↦ elim q as (λ x. Option Rec) [ Some x ↦ initial_of_resource g x ((offset - x.offset) / g.sector) | None ↦ None ]
    ] ≡ Some (BlockIs b) → history_block b ≡ no_block
initial_by g plain h offset b None None eq = absurd (none_some (BlockIs b) eq)
initial_by g plain h offset b None (Some x) eq =
    let k : ℕ = (offset - x.offset) / g.sector in
    of_resource g x k b (k == 0) (k == 1) (nat_lt k (g.hosts + 2)) ((k + 1) * g.sector == g.area) (sym (initial_plain g plain x k) ∙ eq)
initial_by g plain h offset b (Some l) q eq = absurd (of_lockspace h l ((offset - l.offset) / g.sector) b eq)

initial_fresh : (g : Layout) → g.paired ≡ false → (h : Header) (path : List ℕ) (offset : ℕ) (b : Block) → initial_record g h path offset ≡ Some (BlockIs b) → history_block b ≡ no_block
unfolding initial_record
initial_fresh g plain h path offset b eq =
    initial_by g plain h offset b (find (λ l. bytes_eq l.path path && in_area g l.offset offset) h.lockspaces)
    (find (λ r. bytes_eq r.path path && in_area g r.offset offset) h.resources) eq

first_by : (digest : List ℕ → List ℕ) (h : Header) (path : List ℕ) (offset : ℕ) (o : Option Rec) (b : Block) → IsDigest digest → IsHeader h
    → (layout_with digest h.geometry).paired ≡ false
    → initial_record (layout_with digest h.geometry) h path offset ≡ o
    → record_in (layout_with digest h.geometry)
    (elim o as (λ x. List ℕ) [ None ↦ replicate h.geometry.sector 0 | Some x ↦ sector_with (layout_with digest h.geometry) x ]) ≡ Ok (BlockIs b)
    → history_block b ≡ no_block
first_by digest h path offset None b d ok plain is read =
    absurd (zeros_at digest h.geometry.sector (BlockIs b) (sector_fits (layout_with digest h.geometry) (sized digest h.geometry ok.geometry)).0 read)
first_by digest h path offset (Some x) b d ok plain is read =
    let g : Layout = layout_with digest h.geometry in
    let again = spelled_is_read digest d h.geometry.sector (sector_fits g (sized digest h.geometry ok.geometry)) x (initial_is_record digest h path offset x ok is) in
    let same : x ≡ BlockIs b = same_read (record_in g (sector_with g x)) x (BlockIs b) again read in
    initial_fresh g plain h path offset b (is ∙ ap (λ y. Some y) same)

pub first_fresh : (p : Program) (h : Header) (xs : List Happening) → LawfulRun p h xs → (world_at p h xs).layout.paired ≡ false → (path : List ℕ) (offset : ℕ) (b : Block)
    → record_in (world_at p h xs).layout (first_landing (world_at p h xs) path offset).bytes ≡ Ok (BlockIs b) → history_block b ≡ no_block
first_fresh p h xs run plain path offset b read =
    let w : World = world_at p h xs in
    first_by p.digest h path offset (initial_record (layout_with p.digest h.geometry) h path offset) b run.digest run.header
    (ap (λ (g : Layout). g.paired) (sym (layout_is p h xs)) ∙ plain) refl
    (subst (λ g. record_in g (initial_bytes g h path offset) ≡ Ok (BlockIs b)) (layout_is p h xs)
    (subst (λ k. record_in w.layout (initial_bytes w.layout k path offset) ≡ Ok (BlockIs b)) (header_is p h xs) read))

-- ---- what a landing spells

pub block_in_is : (host : ℕ) (r : Result Rec Bad) (b : Block) → block_in host r ≡ Some b → (r ≡ Ok (BlockIs b)) × (b.host ≡ host)
block_in_is host (Ok (DeltaIs e)) b h = absurd (none_some b h)
block_in_is host (Ok (LeaderIs e)) b h = absurd (none_some b h)
block_in_is host (Ok (BlockIs e)) b h =
    let c = choose_some (e.host == host) e b h in
    (ap (λ x. Ok (BlockIs x)) c.1, ap (λ x. x.host) (sym c.1) ∙ eqb-true e.host host c.0)
block_in_is host (Ok (PairIs e)) b h = absurd (none_some b h)
block_in_is host (Ok (PairLeaderIs e)) b h = absurd (none_some b h)
block_in_is host (Ok (RequestIs e)) b h = absurd (none_some b h)
block_in_is host (Ok (ValueIs e)) b h = absurd (none_some b h)
block_in_is host (Err bad) b h = absurd (none_some b h)
