-- Each record of moment 0 has a spelling, whatever the digest, and so each place a sector's bytes.
use Rattle.sl_area.proofs.FreshRecords.{fresh_block_at_is, leader_record_is, no_request_is, no_value_is}
use Rattle.sl_area.proofs.SizeLaws.{has_room}
use Rattle.sl_area.specs.AreaSizes.{IsGeometry, Layout, Sizes, layout_with, sector_with}
use Rattle.sl_area.specs.AreaLayout.{area_sectors, in_area}
use Rattle.sl_area.specs.AreaRecords.{fresh_block_at, fresh_delta, fresh_leader, leader_record, no_request, no_value}
use Rattle.sl_words.proofs.Lists.{find_inside}
use Rattle.sl_words.proofs.Numbers.{one_least}
use Rattle.sl_run.specs.Headers.{IsHeader}
use Rattle.sl_run.specs.Worlds.{clock_reading, initial_bytes, initial_delta, initial_of_lockspace, initial_of_resource, initial_record, member_delta}
use Rattle.sl_run.specs.declared.header.FirstReading.{FirstReading}
use Rattle.sl_run.specs.declared.header.Header.{Header}
use Rattle.sl_run.specs.declared.header.LockspaceLine.{LockspaceLine}
use Rattle.sl_run.specs.declared.header.ResourceLine.{ResourceLine}
use Rattle.sl_run.specs.declared.header.SessionLine.{SessionLine}
use Rattle.sl_sector.proofs.SpellingLaws.{length-spelling}
use Rattle.sl_sector.specs.Records.{IsDelta, IsRecord}
use Rattle.sl_sector.specs.SectorLayouts.{IsDigest, IsSectorSize}
use Rattle.sl_sector.specs.declared.sector.DeltaRec.{DeltaRec}
use Rattle.sl_sector.specs.declared.sector.Rec.TheVariants.{DeltaIs, RequestIs, ValueIs}
use Rattle.sl_sector.specs.declared.sector.Rec.{Rec}
use Rattle.sl_text.specs.Names.{is_name}
use Rattle.sl_words.proofs.CaseLaws.{none_some, some_value}
use Rattle.sl_words.specs.Words.{choose}
use Rattle.std.proofs.Common.{arith, refl, subst}
use Rattle.std.proofs.lemmas.Bool.{ltb-true}
use Rattle.std.proofs.lemmas.Bool.Decides.{nat_tests}
use Rattle.std.proofs.lemmas.List.{length-replicate}
use Rattle.std.specs.Option.{option_map_or}
use Rattle.std.specs.Prelude.{Bool, IsTrue, List, None, Option, Some, bytes_eq, false, find, if◌then◌else◌, length, nat_lt, replicate, true, ℕ, ◌&&◌, ◌*◌, ◌+◌, ◌-◌, ◌/◌, ◌<◌, ◌==◌, ◌^◌, ◌≡◌, ◌≤◌}

-- The layout of a header with this digest.
abbrev lay : (List ℕ → List ℕ) → Header → Layout
lay digest h = layout_with digest h.geometry

-- The lockspace whose area has the place.
abbrev line_at : (List ℕ → List ℕ) → Header → List ℕ → ℕ → Option LockspaceLine
line_at digest h path offset = find (λ l. bytes_eq l.path path && in_area (lay digest h) l.offset offset) h.lockspaces

-- The resource whose area has the place.
abbrev resource_at : (List ℕ → List ℕ) → Header → List ℕ → ℕ → Option ResourceLine
resource_at digest h path offset = find (λ r. bytes_eq r.path path && in_area (lay digest h) r.offset offset) h.resources

-- The session that has this id of the lockspace.
abbrev session_of : Header → List ℕ → ℕ → Option SessionLine
session_of h lockspace id = find (λ s. bytes_eq s.lockspace lockspace && s.id == id) h.sessions

-- The line of a machine's clock.
abbrev clock_of : Header → ℕ → Option FirstReading
clock_of h m = find (λ c. c.machine == m) h.clocks

-- ---- the records

pub nothing_less : 0 < 0 → ⊥
nothing_less h = omega (arith, h)

pub one_is_none : (n : ℕ) → n ≡ 1 → n ≡ 0 → ⊥
one_is_none n h k = omega (arith, h, k)

pub small_number : 1 < 2 ^ 63
small_number = omega arith

pub no_number : 0 < 2 ^ 63
no_number = omega arith

pub a_moment : 0 < 10 ^ 15
a_moment = omega arith

pub fresh_delta_is : (name : List ℕ) (id : ℕ) → IsTrue (is_name name) → 1 ≤ id → id ≤ 2000 → IsDelta (fresh_delta name id)
fresh_delta_is name id named low high =
    record {
      id = (low, high);
      generation = no_number;
      seq = no_number;
      stamp = a_moment;
      lockspace = named;
      bitmap = (refl, refl);
      unused = λ h. (refl, refl, refl, refl, refl);
      used = λ h. absurd (nothing_less h);
    }

pub member_delta_is : (h : Header) (s : SessionLine) → IsTrue (is_name s.lockspace) → IsTrue (is_name s.name) → 1 ≤ s.id → s.id ≤ 2000
    → clock_reading h s.machine < 10 ^ 15 → IsDelta (member_delta h s)
member_delta_is h s space name low high now =
    record {
      id = (low, high);
      generation = small_number;
      seq = small_number;
      stamp = now;
      lockspace = space;
      bitmap = (refl, refl);
      unused = λ h. absurd (one_is_none 1 refl h);
      used = λ h. name;
    }

pub below : (n : ℕ) → n < 10 ^ 12 → n < 10 ^ 15
below n h = omega (arith, h)

clock_by : (h : Header) (m : ℕ) (o : Option FirstReading) → clock_of h m ≡ o → IsHeader h → option_map_or (λ (c : FirstReading). c.reading) o 0 < 10 ^ 15
clock_by h m None is ok = a_moment
clock_by h m (Some c) is ok = below c.reading (ok.clocks c (find_inside (λ c. c.machine == m) h.clocks c is).0).2

pub up_to : (a b : ℕ) → a ≤ b → b ≤ 2000 → a ≤ 2000
up_to a b h k = omega (arith, h, k)

pub within : (k n : ℕ) → nat_lt k n ≡ true → n ≤ 2000 → k + 1 ≤ 2000
within k n h most = grind (arith, nat_tests)

initial_delta_by : (h : Header) (l : LockspaceLine) (id : ℕ) (o : Option SessionLine) → session_of h l.name id ≡ o → IsHeader h → IsTrue (is_name l.name) → 1 ≤ id → id ≤ 2000
    → IsDelta (elim o as (λ x. DeltaRec) [ None ↦ fresh_delta l.name id | Some s ↦ member_delta h s ])
initial_delta_by h l id None is ok named low high = fresh_delta_is l.name id named low high
initial_delta_by h l id (Some s) is ok named low high =
    let at = find_inside (λ s. bytes_eq s.lockspace l.name && s.id == id) h.sessions s is in
    let member = ok.members s at.0 in
    let space = member.lockspace in
    let space_named : IsTrue (is_name s.lockspace) = subst (λ n. IsTrue (is_name n)) space.2 (ok.lockspaces space.0 space.1).0 in
    (member_delta_is h s space_named member.name member.id.0 (up_to s.id h.geometry.hosts member.id.1 (has_room h.geometry ok.geometry).hosts.1)
    (clock_by h s.machine (clock_of h s.machine) refl ok))

pub lockspace_by : (h : Header) (l : LockspaceLine) (k : ℕ) (b : Bool) (r : Rec) → nat_lt k h.geometry.hosts ≡ b → IsHeader h → IsTrue (is_name l.name)
    → choose b (DeltaIs (initial_delta h l (k + 1))) ≡ Some r → IsRecord r
lockspace_by h l k false r is ok named eq = absurd (none_some r eq)
lockspace_by h l k true r is ok named eq =
    subst IsRecord (some_value (DeltaIs (initial_delta h l (k + 1))) r eq)
    (initial_delta_by h l (k + 1) (session_of h l.name (k + 1)) refl ok named (one_least k) (within k h.geometry.hosts is (has_room h.geometry ok.geometry).hosts.1))

pub from_two : (k : ℕ) → (k == 0) ≡ false → (k == 1) ≡ false → 2 ≤ k
from_two k h i = grind (arith, nat_tests)

resource_by : (digest : List ℕ → List ℕ) (h : Header) (l : ResourceLine) (k : ℕ) (leader request block last : Bool) (r : Rec) → (k == 0) ≡ leader → (k == 1) ≡ request
    → nat_lt k (area_sectors (lay digest h)) ≡ block → IsHeader h → IsTrue (is_name l.lockspace) → IsTrue (is_name l.name)
    → (if leader then Some (leader_record (lay digest h) (fresh_leader (lay digest h) l.lockspace l.name))
    else (if request then Some (RequestIs no_request)
    else (if block then Some (fresh_block_at (lay digest h) l.lockspace l.name k)
    else choose last (ValueIs no_value)))) ≡ Some r → IsRecord r
resource_by digest h l k true request block last r a b c ok space name eq =
    subst IsRecord (some_value _ r eq) (leader_record_is h.geometry l.lockspace l.name ok.geometry space name)
resource_by digest h l k false true block last r a b c ok space name eq = subst IsRecord (some_value (RequestIs no_request) r eq) no_request_is
resource_by digest h l k false false true last r a b c ok space name eq =
    subst IsRecord (some_value (fresh_block_at (lay digest h) l.lockspace l.name k) r eq)
    (fresh_block_at_is h.geometry l.lockspace l.name k ok.geometry space name (from_two k a b) (ltb-true k (area_sectors (lay digest h)) c))
resource_by digest h l k false false false true r a b c ok space name eq = subst IsRecord (some_value (ValueIs no_value) r eq) no_value_is
resource_by digest h l k false false false false r a b c ok space name eq = absurd (none_some r eq)

initial_in_resource : (digest : List ℕ → List ℕ) (h : Header) (path : List ℕ) (offset : ℕ) (o : Option ResourceLine) (r : Rec) → resource_at digest h path offset ≡ o → IsHeader h
    → elim o as (λ x. Option Rec) [ Some l ↦ initial_of_resource (lay digest h) l ((offset - l.offset) / h.geometry.sector) | None ↦ None ] ≡ Some r → IsRecord r
initial_in_resource digest h path offset None r is ok eq = absurd (none_some r eq)
initial_in_resource digest h path offset (Some l) r is ok eq =
    let at = find_inside (λ l. bytes_eq l.path path && in_area (lay digest h) l.offset offset) h.resources l is in
    let line = ok.resources l at.0 in
    let space = line.2 in
    let k : ℕ = (offset - l.offset) / h.geometry.sector in
    resource_by digest h l k (k == 0) (k == 1) (nat_lt k (area_sectors (lay digest h))) ((k + 1) * h.geometry.sector == h.geometry.area) r refl refl refl ok
    (subst (λ n. IsTrue (is_name n)) space.2 (ok.lockspaces space.0 space.1).0) line.0 eq

initial_by : (digest : List ℕ → List ℕ) (h : Header) (path : List ℕ) (offset : ℕ) (o : Option LockspaceLine) (r : Rec) → line_at digest h path offset ≡ o → IsHeader h
    → elim o as (λ x. Option Rec) [
      | Some l ↦ initial_of_lockspace h l ((offset - l.offset) / h.geometry.sector)
      | None ↦ elim (resource_at digest h path offset) as (λ x. Option Rec) [
        | Some l ↦ initial_of_resource (lay digest h) l ((offset - l.offset) / h.geometry.sector)
        | None ↦ None
      ]
    ] ≡ Some r → IsRecord r
initial_by digest h path offset None r is ok eq = initial_in_resource digest h path offset (resource_at digest h path offset) r refl ok eq
initial_by digest h path offset (Some l) r is ok eq =
    let at = find_inside (λ l. bytes_eq l.path path && in_area (lay digest h) l.offset offset) h.lockspaces l is in
    let k : ℕ = (offset - l.offset) / h.geometry.sector in
    lockspace_by h l k (nat_lt k h.geometry.hosts) r refl ok (ok.lockspaces l at.0).0 eq

-- Each record of moment 0 has a spelling.
pub initial_is_record : (digest : List ℕ → List ℕ) (h : Header) (path : List ℕ) (offset : ℕ) (r : Rec) → IsHeader h → initial_record (lay digest h) h path offset ≡ Some r → IsRecord r
unfolding initial_record
initial_is_record digest h path offset r ok eq = initial_by digest h path offset (line_at digest h path offset) r refl ok eq

-- ---- lengths

pub is_size : (s : Sizes) → IsGeometry s → IsSectorSize s.sector
is_size s h = (has_room s h).sector

initial_sized_by : (digest : List ℕ → List ℕ) (h : Header) (path : List ℕ) (offset : ℕ) (o : Option Rec) → IsDigest digest → initial_record (lay digest h) h path offset ≡ o → IsHeader h
    → length (elim o as (λ x. List ℕ) [ None ↦ replicate h.geometry.sector 0 | Some r ↦ sector_with (lay digest h) r ]) ≡ h.geometry.sector
initial_sized_by digest h path offset None d is ok = length-replicate h.geometry.sector 0
initial_sized_by digest h path offset (Some r) d is ok =
    length-spelling digest d h.geometry.sector r (is_size h.geometry ok.geometry) (initial_is_record digest h path offset r ok is)

-- Each place has a sector's bytes at moment 0.
pub initial_sized : (digest : List ℕ → List ℕ) (h : Header) (path : List ℕ) (offset : ℕ) → IsDigest digest → IsHeader h → length (initial_bytes (lay digest h) h path offset) ≡ h.geometry.sector
initial_sized digest h path offset d ok = initial_sized_by digest h path offset (initial_record (lay digest h) h path offset) d refl ok
