-- The records of moment 0, sector by sector of a resource's area.
use Rattle.sl_area.specs.AreaSizes.{Layout, layout_of}
use Rattle.sl_area.specs.AreaLayout.{area_sectors, block_sectors}
use Rattle.sl_area.specs.AreaRecords.{fresh_block_at, fresh_leader, leader_record, no_request, no_value}
use Rattle.sl_disks.specs.Initial.{line_at, resource_at}
use Rattle.sl_run.specs.Worlds.{initial_of_resource, initial_record}
use Rattle.sl_run.specs.declared.header.Header.{Header}
use Rattle.sl_run.specs.declared.header.ResourceLine.{ResourceLine}
use Rattle.sl_sector.specs.declared.sector.Rec.TheVariants.{RequestIs, ValueIs}
use Rattle.sl_sector.specs.declared.sector.Rec.{Rec}
use Rattle.std.proofs.Common.{List, None, Option, Some, ap, false, le-ltb, lt-ltb, refl, subst, true, ℕ, ◌*◌, ◌+◌, ◌-◌, ◌/◌, ◌<◌, ◌==◌, ◌≡◌, ◌≤◌}
use Rattle.std.specs.Prelude.{nat_lt}

pub leader_first : (g : Layout) (r : ResourceLine) (k : ℕ) (x : Rec) → (k == 0) ≡ true → x ≡ leader_record g (fresh_leader g r.lockspace r.name) → Some x ≡ initial_of_resource g r k
leader_first g r k x first is = rw first (ap (λ (y : Rec). Some y) is)

pub request_first : (g : Layout) (r : ResourceLine) (k : ℕ) (x : Rec) → (k == 0) ≡ false → (k == 1) ≡ true → x ≡ RequestIs no_request → Some x ≡ initial_of_resource g r k
request_first g r k x first second is = rw (first, second) (ap (λ (y : Rec). Some y) is)

among : (g : Layout) (k n : ℕ) → n ≡ block_sectors g → k < n + 2 → nat_lt k (area_sectors g) ≡ true
among g k n is within = lt-ltb k (area_sectors g) (subst (λ (m : ℕ). k < m + 2) is within)

behind : (g : Layout) (k n : ℕ) → n ≡ block_sectors g → n + 2 ≤ k → nat_lt k (area_sectors g) ≡ false
behind g k n is past = le-ltb k (area_sectors g) (subst (λ (m : ℕ). m + 2 ≤ k) is past)

pub block_first : (g : Layout) (r : ResourceLine) (k n : ℕ) (x : Rec) → (k == 0) ≡ false → (k == 1) ≡ false → n ≡ block_sectors g → k < n + 2
    → x ≡ fresh_block_at g r.lockspace r.name k → Some x ≡ initial_of_resource g r k
block_first g r k n x first second count within is = rw (first, second, among g k n count within) (ap (λ (y : Rec). Some y) is)

pub value_first : (g : Layout) (r : ResourceLine) (k n : ℕ) (x : Rec) → (k == 0) ≡ false → (k == 1) ≡ false → n ≡ block_sectors g → n + 2 ≤ k
    → ((k + 1) * g.sector == g.area) ≡ true → x ≡ ValueIs no_value → Some x ≡ initial_of_resource g r k
value_first g r k n x first second count past last is = rw (first, second, behind g k n count past, last) (ap (λ (y : Rec). Some y) is)

pub nothing_first : (g : Layout) (r : ResourceLine) (k n : ℕ) → (k == 0) ≡ false → (k == 1) ≡ false → n ≡ block_sectors g → n + 2 ≤ k
    → ((k + 1) * g.sector == g.area) ≡ false → None ≡ initial_of_resource g r k
nothing_first g r k n first second count past last = rw (first, second, behind g k n count past, last) refl

-- The place is in this resource's area.
pub in_resource_first : (h : Header) (path : List ℕ) (offset : ℕ) (r : ResourceLine) (x : Option Rec) → line_at h path offset ≡ None → resource_at h path offset ≡ Some r
    → x ≡ initial_of_resource (layout_of h.geometry) r ((offset - r.offset) / h.geometry.sector) → x ≡ initial_record (layout_of h.geometry) h path offset
unfolding initial_record
in_resource_first h path offset r x none some is = rw (none, some, initial_record) is
