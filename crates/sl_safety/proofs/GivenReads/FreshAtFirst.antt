-- What stood at first at a sector of a resource; where each host's block has one, at a host's place the host's block of zeros.
use Rattle.sl_run.proofs.PlainAreas.{initial_plain}
use Rattle.sl_area.specs.AreaSizes.{Layout, record_in, sector_with}
use Rattle.sl_area.specs.AreaLayout.{block_offset, in_area}
use Rattle.sl_area.specs.AreaRecords.{fresh_block, fresh_leader, no_request, no_value}
use Rattle.sl_run_law.proofs.Landing.InitialRecords.{initial_is_record}
use Rattle.sl_run_law.proofs.Place.Areas.{lockspace_aligned, never_both, one_resource, resource_aligned, same_base}
use Rattle.sl_run_law.proofs.Place.FoundInLists.{finds, same_text}
use Rattle.sl_run_law.proofs.Place.TracesOnMachines.{digest_is, header_is, layout_is}
use Rattle.sl_run_law.proofs.Place.Seats.{sized_in}
use Rattle.sl_run_law.proofs.Place.Sizes.{IsSized, number_of_slot, sector_fits, sector_has_bytes}
use Rattle.sl_words.proofs.Lists.{find_inside}
use Rattle.sl_safety.proofs.Resources.StepsNameCalls.{text_same}
use Rattle.sl_safety.proofs.GivenReads.ShownAtPlace.{place_within}
use Rattle.sl_safety.specs.Resources.Histories.{is_host}
use Rattle.sl_run.specs.Headers.{IsHeader}
use Rattle.sl_run.specs.Runs.{Happening}
use Rattle.sl_run.specs.Safety.{LawfulRun, world_at}
use Rattle.sl_run.specs.Worlds.{Program, World, first_landing, initial_bytes, initial_of_lockspace, initial_of_resource, initial_record}
use Rattle.sl_run.specs.declared.header.Header.{Header}
use Rattle.sl_run.specs.declared.header.LockspaceLine.{LockspaceLine}
use Rattle.sl_run.specs.declared.header.ResourceLine.{ResourceLine}
use Rattle.sl_sector.proofs.PublicLaws.{spelled_is_read}
use Rattle.sl_sector.specs.Records.{IsRecord}
use Rattle.sl_sector.specs.declared.sector.Rec.TheVariants.{BlockIs, LeaderIs, RequestIs, ValueIs}
use Rattle.sl_sector.specs.declared.sector.Rec.{Rec}
use Rattle.sl_words.proofs.CaseLaws.{none_some}
use Rattle.sl_words.proofs.WordLaws.{and_true}
use Rattle.sl_words.specs.Words.{choose}
use Rattle.std.proofs.Common.{ap, arith, refl, subst, sym, tests, ◌∙◌}
use Rattle.std.proofs.lemmas.Bool.Decides.{nat_tests}
use Rattle.std.proofs.lemmas.Bool.{and_from, leb-true}
use Rattle.std.specs.Prelude.{Bool, Contains, List, None, Ok, Option, Some, bytes_eq, false, find, if◌then◌else◌, nat_le, nat_lt, replicate, true, ℕ, ◌&&◌, ◌*◌, ◌+◌, ◌-◌, ◌/◌, ◌==◌, ◌≡◌, ◌≤◌}

-- ---- the record of the place

some_place : (n k : ℕ) → n ≡ k + 1 → (n == 0) ≡ false
some_place n k h = grind (arith, tests)

no_request_there : (n k : ℕ) → n ≡ k + 1 → 1 ≤ k → (n == 1) ≡ false
no_request_there n k h low = grind (arith, tests)

among_hosts : (n k hosts : ℕ) → n ≡ k + 1 → k ≤ hosts → nat_lt n (hosts + 2) ≡ true
among_hosts n k hosts h high = grind (arith, nat_tests)

one_back : (n k : ℕ) → n ≡ k + 1 → n - 1 ≡ k
one_back n k h = omega (arith, h)

abbrev record_by : Layout → ResourceLine → ℕ → Bool → Bool → Bool → Option Rec
record_by g r n leader request block =
    if leader then Some (LeaderIs (fresh_leader g r.lockspace r.name))
    else (if request then Some (RequestIs no_request)
    else (if block then Some (BlockIs (fresh_block (n - 1))) else choose ((n + 1) * g.sector == g.area) (ValueIs no_value)))

at_place : (g : Layout) → g.paired ≡ false → (r : ResourceLine) (n k : ℕ) → n ≡ k + 1 → 1 ≤ k → k ≤ g.hosts → initial_of_resource g r n ≡ Some (BlockIs (fresh_block k))
at_place g plain r n k is low high =
    initial_plain g plain r n ∙ ap (λ b. record_by g r n b (n == 1) (nat_lt n (g.hosts + 2))) (some_place n k is) ∙ ap (λ b. record_by g r n false b (nat_lt n (g.hosts + 2))) (no_request_there n k is low)
    ∙ ap (λ b. record_by g r n false false b) (among_hosts n k g.hosts is high) ∙ ap (λ i. Some (BlockIs (fresh_block i))) (one_back n k is)

-- ---- the record of any sector of a resource's area

sector_there : (g : Layout) (h : Header) (r : ResourceLine) (n : ℕ) (rec : Option Rec) → IsHeader h → IsSized h.geometry g → Contains h.resources r
    → in_area g r.offset (r.offset + g.sector * n) ≡ true → initial_of_resource g r n ≡ rec → (o : Option LockspaceLine) (q : Option ResourceLine)
    → find (λ (l : LockspaceLine). bytes_eq l.path r.path && in_area g l.offset (r.offset + g.sector * n)) h.lockspaces ≡ o
    → find (λ (x : ResourceLine). bytes_eq x.path r.path && in_area g x.offset (r.offset + g.sector * n)) h.resources ≡ q
    → elim o as (λ z. Option Rec) [
      | Some l ↦ initial_of_lockspace h l ((r.offset + g.sector * n - l.offset) / g.sector)
      | None ↦ elim q as (λ z. Option Rec) [ Some x ↦ initial_of_resource g x ((r.offset + g.sector * n - x.offset) / g.sector) | None ↦ None ]
    ] ≡ rec
sector_there g h r n rec ok z there inside is (Some l) q at at_too =
    let f = find_inside (λ (x : LockspaceLine). bytes_eq x.path r.path && in_area g x.offset (r.offset + g.sector * n)) h.lockspaces l at in
    let both = and_true (bytes_eq l.path r.path) (in_area g l.offset (r.offset + g.sector * n)) f.1 in
    absurd (never_both h l r ok f.0 there (same_text l.path r.path both.0)
    (same_base g l.offset r.offset (r.offset + g.sector * n) z (lockspace_aligned h l ok f.0) (resource_aligned h r ok there) both.1 inside))
sector_there g h r n rec ok z there inside is None None at at_too =
    let f = finds (λ (x : ResourceLine). bytes_eq x.path r.path && in_area g x.offset (r.offset + g.sector * n)) h.resources r (and_from _ _ (text_same r.path r.path refl) inside) there in
    absurd (none_some f.0 (sym at_too ∙ f.1))
sector_there g h r n rec ok z there inside is None (Some x) at at_too =
    let f = find_inside (λ (x : ResourceLine). bytes_eq x.path r.path && in_area g x.offset (r.offset + g.sector * n)) h.resources x at_too in
    let both = and_true (bytes_eq x.path r.path) (in_area g x.offset (r.offset + g.sector * n)) f.1 in
    let same : x ≡ r =
    one_resource h x r ok f.0 there (same_text x.path r.path both.0)
    (same_base g x.offset r.offset (r.offset + g.sector * n) z (resource_aligned h x ok f.0) (resource_aligned h r ok there) both.1 inside) in
    ap (λ (y : ResourceLine). initial_of_resource g y ((r.offset + g.sector * n - y.offset) / g.sector)) same
    ∙ ap (initial_of_resource g r) (number_of_slot g.sector r.offset n (sector_has_bytes g z)) ∙ is

pub sector_record : (g : Layout) (h : Header) (r : ResourceLine) (n : ℕ) (rec : Option Rec) → IsHeader h → IsSized h.geometry g → Contains h.resources r
    → in_area g r.offset (r.offset + g.sector * n) ≡ true → initial_of_resource g r n ≡ rec → initial_record g h r.path (r.offset + g.sector * n) ≡ rec
unfolding initial_record
sector_record g h r n rec ok z there inside is =
    sector_there g h r n rec ok z there inside is (find (λ (l : LockspaceLine). bytes_eq l.path r.path && in_area g l.offset (r.offset + g.sector * n)) h.lockspaces)
    (find (λ (x : ResourceLine). bytes_eq x.path r.path && in_area g x.offset (r.offset + g.sector * n)) h.resources) refl refl

-- ---- what it spells

abbrev bytes_of : Layout → Option Rec → List ℕ
bytes_of g o = elim o [ None ↦ replicate g.sector 0 | Some x ↦ sector_with g x ]

-- What stands at a place at first is spelled there.
pub spelled_at_first : (p : Program) (h : Header) (xs : List Happening) → LawfulRun p h xs → (path : List ℕ) (place : ℕ) (rec : Rec)
    → initial_record (world_at p h xs).layout h path place ≡ Some rec
    → record_in (world_at p h xs).layout (first_landing (world_at p h xs) path place).bytes ≡ Ok rec
spelled_at_first p h xs run path place rec is =
    let w : World = world_at p h xs in
    let g : Layout = w.layout in
    let z = sized_in p h xs run in
    let its : IsRecord rec = initial_is_record p.digest h path place rec run.header (subst (λ y. initial_record y h path place ≡ Some rec) (layout_is p h xs) is) in
    ap (λ y. record_in g (initial_bytes g y path place)) (header_is p h xs) ∙ ap (λ o. record_in g (bytes_of g o)) is
    ∙ spelled_is_read g.digest (digest_is p h xs run) g.sector (sector_fits g z) rec its

-- The first landing at a host's place spells the host's fresh block.
pub fresh_at_first : (p : Program) (h : Header) (xs : List Happening) → LawfulRun p h xs → (world_at p h xs).layout.paired ≡ false → (r : ResourceLine) → Contains h.resources r → (k : ℕ) → is_host (world_at p h xs) k ≡ true
    → record_in (world_at p h xs).layout (first_landing (world_at p h xs) r.path (block_offset (world_at p h xs).layout r.offset k)).bytes ≡ Ok (BlockIs (fresh_block k))
fresh_at_first p h xs run plain r there k host =
    let w : World = world_at p h xs in
    let g : Layout = w.layout in
    let z = sized_in p h xs run in
    let range = and_true (nat_le 1 k) (nat_le k g.hosts) host in
    spelled_at_first p h xs run r.path (block_offset g r.offset k) (BlockIs (fresh_block k))
    (sector_record g h r (k + 1) (Some (BlockIs (fresh_block k))) run.header z there (place_within w r.offset k z host)
    (at_place g plain r (k + 1) k refl (leb-true 1 k range.0) (leb-true k g.hosts range.1)))
