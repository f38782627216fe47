-- What stands at a place at first: a record of a lockspace's area, or of a resource's, or zeros, which spell nothing.
use Rattle.sl_area.specs.AreaSizes.{Layout, layout_with, record_in, sector_with}
use Rattle.sl_area.specs.AreaLayout.{area_sectors, in_area}
use Rattle.sl_area.specs.AreaRecords.{fresh_block, fresh_block_at, fresh_delta, fresh_leader, fresh_pair, leader_record, no_request, no_value}
use Rattle.sl_run_law.proofs.Landing.InitialRecords.{a_moment, below, fresh_delta_is, initial_is_record, member_delta_is, up_to, within}
use Rattle.sl_run_law.proofs.Place.FoundInLists.{same_read, same_text}
use Rattle.sl_run_law.proofs.Place.Sizes.{sector_fits, sized}
use Rattle.sl_words.proofs.Lists.{find_inside}
use Rattle.sl_words.proofs.Numbers.{one_least}
use Rattle.sl_run.specs.Headers.{IsHeader}
use Rattle.sl_run.specs.Worlds.{initial_bytes, initial_delta, initial_of_lockspace, initial_of_resource, initial_record, member_delta}
use Rattle.sl_run.specs.declared.header.FirstReading.{FirstReading}
use Rattle.sl_run.specs.declared.header.Header.{Header}
use Rattle.sl_run.specs.declared.header.LockspaceLine.{LockspaceLine}
use Rattle.sl_run.specs.declared.header.ResourceLine.{ResourceLine}
use Rattle.sl_run.specs.declared.header.SessionLine.{SessionLine}
use Rattle.sl_sector.proofs.PublicLaws.{spelled_is_read}
use Rattle.sl_sector.specs.Records.{IsDelta, IsRecord}
use Rattle.sl_sector.specs.SectorLayouts.{IsDigest, decoded, magic}
use Rattle.sl_sector.specs.declared.sector.Block.{Block}
use Rattle.sl_sector.specs.declared.sector.DeltaRec.{DeltaRec}
use Rattle.sl_sector.specs.declared.sector.Leader.{Leader}
use Rattle.sl_sector.specs.declared.sector.PairBlock.{PairBlock}
use Rattle.sl_sector.specs.declared.sector.Rec.TheVariants.{BlockIs, DeltaIs, LeaderIs, PairIs, PairLeaderIs, RequestIs, ValueIs}
use Rattle.sl_sector.specs.declared.sector.Rec.{Rec}
use Rattle.sl_text.specs.Names.{is_name}
use Rattle.sl_trace.specs.Leases.{leader_of_record}
use Rattle.sl_words.proofs.CaseLaws.{none_some, some_value}
use Rattle.sl_words.proofs.WordLaws.{and_true, choose_some}
use Rattle.sl_words.specs.Words.{choose}
use Rattle.std.proofs.Common.{refl, subst, sym, ◌∙◌, arith}
use Rattle.std.proofs.lemmas.Bool.{eqb-true, ltb-true}
use Rattle.std.specs.Option.{option_map_or}
use Rattle.std.specs.Prelude.{Bool, Contains, IsTrue, List, None, Ok, Option, Some, bytes_eq, false, find, if◌then◌else◌, nat_lt, replicate, suc, true, zero, ℕ, ◌&&◌, ◌%◌, ◌*◌, ◌+◌, ◌-◌, ◌/◌, ◌<◌, ◌==◌, ◌^◌, ◌≡◌, ◌≤◌}

-- ---- the records are records

clock_by : (h : Header) (m : ℕ) (o : Option FirstReading) → find (λ (c : FirstReading). c.machine == m) h.clocks ≡ o → IsHeader h
    → option_map_or (λ (c : FirstReading). c.reading) o 0 < 10 ^ 15
clock_by h m None is ok = a_moment
clock_by h m (Some c) is ok = below c.reading (ok.clocks c (find_inside (λ (c : FirstReading). c.machine == m) h.clocks c is).0).2

most : (h : Header) → IsHeader h → h.geometry.hosts ≤ 2000
most h ok = (sized (λ bs. bs) h.geometry ok.geometry).hosts.1

-- The delta record of an id at first: of that lockspace and that id.
pub record IsDeltaOf (d : DeltaRec) (name : List ℕ) (id : ℕ) : Type 0 where
  pub is : IsDelta d
  pub lockspace : d.lockspace ≡ name
  pub same_id : d.id ≡ id

abbrev session_of : Header → List ℕ → ℕ → Option SessionLine
session_of h name id = find (λ s. bytes_eq s.lockspace name && s.id == id) h.sessions

initial_delta_by : (h : Header) (l : LockspaceLine) (id : ℕ) (o : Option SessionLine) → session_of h l.name id ≡ o → IsHeader h → IsTrue (is_name l.name) → 1 ≤ id → id ≤ 2000
    → IsDeltaOf (elim o as (λ x. DeltaRec) [ None ↦ fresh_delta l.name id | Some s ↦ member_delta h s ]) l.name id
initial_delta_by h l id None is ok named low high = record { is = fresh_delta_is l.name id named low high; lockspace = refl; same_id = refl }
initial_delta_by h l id (Some s) is ok named low high =
    let at = find_inside (λ (s : SessionLine). bytes_eq s.lockspace l.name && s.id == id) h.sessions s is in
    let both = and_true (bytes_eq s.lockspace l.name) (s.id == id) at.1 in
    let member = ok.members s at.0 in
    let space = member.lockspace in
    let space_named : IsTrue (is_name s.lockspace) = subst (λ n. IsTrue (is_name n)) space.2 (ok.lockspaces space.0 space.1).0 in
    record {
      is = member_delta_is h s space_named member.name member.id.0 (up_to s.id h.geometry.hosts member.id.1 (most h ok))
          (clock_by h s.machine (find (λ (c : FirstReading). c.machine == s.machine) h.clocks) refl ok);
      lockspace = same_text s.lockspace l.name both.0;
      same_id = eqb-true s.id id both.1;
    }

-- ---- where a record is from

-- A resource's record: no delta record; a leader was never held, and names it, as a pair's block does.
pub record IsOfResource (g : Layout) (x : ResourceLine) (r : Rec) : Type 0 where
  pub is : IsRecord r
  pub no_delta : (d : DeltaRec) → r ≡ DeltaIs d → ⊥
  pub leader : (l : Leader) → leader_of_record r ≡ Some l → l ≡ fresh_leader g x.lockspace x.name
  pub pair : (p : PairBlock) → r ≡ PairIs p → (p.lockspace ≡ x.lockspace) × (p.resource ≡ x.name)

-- The record that stands at a place at first.
pub data IsInitial (g : Layout) (h : Header) (path : List ℕ) (offset : ℕ) (r : Rec) : Type 0 where
  In_lockspace : (l : LockspaceLine) (d : DeltaRec) → Contains h.lockspaces l → l.path ≡ path → IsTrue (in_area g l.offset offset)
      → (offset - l.offset) / g.sector < g.hosts → r ≡ DeltaIs d → IsDeltaOf d l.name ((offset - l.offset) / g.sector + 1) → IsInitial g h path offset r
  In_resource : (x : ResourceLine) → Contains h.resources x → x.path ≡ path → IsTrue (in_area g x.offset offset) → IsOfResource g x r
      → IsInitial g h path offset r

abbrev line_at : Layout → Header → List ℕ → ℕ → Option LockspaceLine
line_at g h path offset = find (λ l. bytes_eq l.path path && in_area g l.offset offset) h.lockspaces

abbrev resource_at : Layout → Header → List ℕ → ℕ → Option ResourceLine
resource_at g h path offset = find (λ r. bytes_eq r.path path && in_area g r.offset offset) h.resources

-- What its kind says.
record IsOfKind (g : Layout) (x : ResourceLine) (r : Rec) : Type 0 where
  no_delta : (d : DeltaRec) → r ≡ DeltaIs d → ⊥
  leader : (l : Leader) → leader_of_record r ≡ Some l → l ≡ fresh_leader g x.lockspace x.name
  pair : (p : PairBlock) → r ≡ PairIs p → (p.lockspace ≡ x.lockspace) × (p.resource ≡ x.name)

leader_of_resource : (g : Layout) (x : ResourceLine) (l : Leader) → l ≡ fresh_leader g x.lockspace x.name → (b : Bool)
    → IsOfKind g x (elim b as (λ _. Rec) [ false ↦ LeaderIs l | true ↦ PairLeaderIs l ])
leader_of_resource g x l fresh false =
    record { no_delta = λ d e. absurd cc; leader = λ k e. sym (some_value l k e) ∙ fresh; pair = λ p e. absurd cc }
leader_of_resource g x l fresh true =
    record { no_delta = λ d e. absurd cc; leader = λ k e. sym (some_value l k e) ∙ fresh; pair = λ p e. absurd cc }

request_of_resource : (g : Layout) (x : ResourceLine) → IsOfKind g x (RequestIs no_request)
request_of_resource g x = record { no_delta = λ d e. absurd cc; leader = λ l e. absurd (none_some l e); pair = λ p e. absurd cc }

same_pair : (p q : PairBlock) → PairIs p ≡ PairIs q → p ≡ q
same_pair p q e = cc

block_of_resource : (g : Layout) (x : ResourceLine) (one : Block) (q : PairBlock) → (q.lockspace ≡ x.lockspace) × (q.resource ≡ x.name) → (b : Bool)
    → IsOfKind g x (elim b as (λ _. Rec) [ false ↦ BlockIs one | true ↦ PairIs q ])
block_of_resource g x one q names false = record { no_delta = λ d e. absurd cc; leader = λ l e. absurd (none_some l e); pair = λ p e. absurd cc }
block_of_resource g x one q names true =
    record {
      no_delta = λ d e. absurd cc;
      leader = λ l e. absurd (none_some l e);
      pair = λ p e. subst (λ (z : PairBlock). (z.lockspace ≡ x.lockspace) × (z.resource ≡ x.name)) (same_pair q p e) names;
    }

value_of_resource : (g : Layout) (x : ResourceLine) → IsOfKind g x (ValueIs no_value)
value_of_resource g x = record { no_delta = λ d e. absurd cc; leader = λ l e. absurd (none_some l e); pair = λ p e. absurd cc }

resource_by : (g : Layout) (x : ResourceLine) (k : ℕ) (leader request block last : Bool) (r : Rec)
    → (if leader then Some (leader_record g (fresh_leader g x.lockspace x.name))
    else (if request then Some (RequestIs no_request)
    else (if block then Some (fresh_block_at g x.lockspace x.name k)
    else choose last (ValueIs no_value)))) ≡ Some r → IsOfKind g x r
resource_by g x k true request block last r eq =
    subst (IsOfKind g x) (some_value _ r eq) (leader_of_resource g x (fresh_leader g x.lockspace x.name) refl g.paired)
resource_by g x k false true block last r eq = subst (IsOfKind g x) (some_value (RequestIs no_request) r eq) (request_of_resource g x)
resource_by g x k false false true last r eq =
    subst (IsOfKind g x) (some_value (fresh_block_at g x.lockspace x.name k) r eq)
    (block_of_resource g x (fresh_block (k - 1)) (fresh_pair (k / 2) (1 + k % 2) x.lockspace x.name) (refl, refl) g.paired)
resource_by g x k false false false true r eq = subst (IsOfKind g x) (some_value (ValueIs no_value) r eq) (value_of_resource g x)
resource_by g x k false false false false r eq = absurd (none_some r eq)

resource_from : (g : Layout) (h : Header) (path : List ℕ) (offset : ℕ) (o : Option ResourceLine) (r : Rec) → IsRecord r → resource_at g h path offset ≡ o
    → elim o as (λ x. Option Rec) [ Some x ↦ initial_of_resource g x ((offset - x.offset) / g.sector) | None ↦ None ] ≡ Some r → IsInitial g h path offset r
resource_from g h path offset None r its_record is eq = absurd (none_some r eq)
resource_from g h path offset (Some x) r its_record is eq =
    let at = find_inside (λ (x : ResourceLine). bytes_eq x.path path && in_area g x.offset offset) h.resources x is in
    let both = and_true (bytes_eq x.path path) (in_area g x.offset offset) at.1 in
    let k : ℕ = (offset - x.offset) / g.sector in
    let its = resource_by g x k (k == 0) (k == 1) (nat_lt k (area_sectors g)) ((k + 1) * g.sector == g.area) r eq in
    In_resource x at.0 (same_text x.path path both.0) both.1 (record { is = its_record; no_delta = its.no_delta; leader = its.leader; pair = its.pair })

lockspace_from : (digest : List ℕ → List ℕ) (h : Header) (path : List ℕ) (offset : ℕ) (l : LockspaceLine) (r : Rec) → IsHeader h
    → line_at (layout_with digest h.geometry) h path offset ≡ Some l → initial_of_lockspace h l ((offset - l.offset) / h.geometry.sector) ≡ Some r
    → IsInitial (layout_with digest h.geometry) h path offset r
lockspace_from digest h path offset l r ok is eq =
    let g : Layout = layout_with digest h.geometry in
    let at = find_inside (λ (l : LockspaceLine). bytes_eq l.path path && in_area g l.offset offset) h.lockspaces l is in
    let both = and_true (bytes_eq l.path path) (in_area g l.offset offset) at.1 in
    let k : ℕ = (offset - l.offset) / h.geometry.sector in
    let chosen = choose_some (nat_lt k h.geometry.hosts) (DeltaIs (initial_delta h l (k + 1))) r eq in
    In_lockspace l (initial_delta h l (k + 1)) at.0 (same_text l.path path both.0) both.1 (ltb-true k h.geometry.hosts chosen.0) (sym chosen.1)
    (initial_delta_by h l (k + 1) (session_of h l.name (k + 1)) refl ok (ok.lockspaces l at.0).0 (one_least k) (within k h.geometry.hosts chosen.0 (most h ok)))

initial_by : (digest : List ℕ → List ℕ) (h : Header) (path : List ℕ) (offset : ℕ) (o : Option LockspaceLine) (r : Rec)
    → line_at (layout_with digest h.geometry) h path offset ≡ o → IsHeader h → IsRecord r
    → elim o as (λ x. Option Rec) [
      | Some l ↦ initial_of_lockspace h l ((offset - l.offset) / h.geometry.sector)
      | None ↦ elim (resource_at (layout_with digest h.geometry) h path offset) as (λ x. Option Rec) [
        | Some x ↦ initial_of_resource (layout_with digest h.geometry) x ((offset - x.offset) / h.geometry.sector)
        | None ↦ None
      ]
    ] ≡ Some r → IsInitial (layout_with digest h.geometry) h path offset r
initial_by digest h path offset None r is ok its_record eq =
    let g : Layout = layout_with digest h.geometry in
    resource_from g h path offset (resource_at g h path offset) r its_record refl eq
initial_by digest h path offset (Some l) r is ok its_record eq = lockspace_from digest h path offset l r ok is eq

initial_from : (digest : List ℕ → List ℕ) (h : Header) (path : List ℕ) (offset : ℕ) (r : Rec) → IsHeader h
    → initial_record (layout_with digest h.geometry) h path offset ≡ Some r → IsInitial (layout_with digest h.geometry) h path offset r
unfolding initial_record
initial_from digest h path offset r ok eq =
    initial_by digest h path offset (line_at (layout_with digest h.geometry) h path offset) r refl ok (initial_is_record digest h path offset r ok eq) eq

-- ---- what its bytes spell

delta_is_record : (r : Rec) (d : DeltaRec) → r ≡ DeltaIs d → IsDelta d → IsRecord r
delta_is_record r d is h = subst IsRecord (sym is) h

is_a_record : (g : Layout) (h : Header) (path : List ℕ) (offset : ℕ) (r : Rec) → IsInitial g h path offset r → IsRecord r
is_a_record g h path offset r (In_lockspace l d there path_is inside few is its) = delta_is_record r d is its.is
is_a_record g h path offset r (In_resource x there path_is inside its) = its.is

-- Zeros spell nothing.
pub no_zeros : (digest : List ℕ → List ℕ) (n : ℕ) (r : Rec) → decoded digest (replicate (suc n) 0) ≡ Ok r → ⊥
unfolding decoded magic
no_zeros digest n r h = absurd cc

pub zeros_at : (digest : List ℕ → List ℕ) (n : ℕ) (r : Rec) → 512 ≤ n → decoded digest (replicate n 0) ≡ Ok r → ⊥
zeros_at digest zero r h e = absurd (omega (arith, h))
zeros_at digest (suc n) r h e = no_zeros digest n r e

read_by : (digest : List ℕ → List ℕ) (h : Header) (path : List ℕ) (offset : ℕ) (o : Option Rec) (r : Rec) → IsDigest digest → IsHeader h
    → initial_record (layout_with digest h.geometry) h path offset ≡ o
    → record_in (layout_with digest h.geometry)
    (elim o as (λ x. List ℕ) [ None ↦ replicate h.geometry.sector 0 | Some x ↦ sector_with (layout_with digest h.geometry) x ]) ≡ Ok r
    → IsInitial (layout_with digest h.geometry) h path offset r
read_by digest h path offset None r d ok is read =
    absurd (zeros_at digest h.geometry.sector r (sector_fits (layout_with digest h.geometry) (sized digest h.geometry ok.geometry)).0 read)
read_by digest h path offset (Some x) r d ok is read =
    let g : Layout = layout_with digest h.geometry in
    let its = initial_from digest h path offset x ok is in
    let again = spelled_is_read digest d h.geometry.sector (sector_fits g (sized digest h.geometry ok.geometry)) x (is_a_record g h path offset x its) in
    let same : x ≡ r = same_read (record_in g (sector_with g x)) x r again read in
    subst (IsInitial g h path offset) same its

-- What the bytes of a place spell at first stands there at first.
pub read_first : (digest : List ℕ → List ℕ) (h : Header) (path : List ℕ) (offset : ℕ) (r : Rec) → IsDigest digest → IsHeader h
    → record_in (layout_with digest h.geometry) (initial_bytes (layout_with digest h.geometry) h path offset) ≡ Ok r
    → IsInitial (layout_with digest h.geometry) h path offset r
read_first digest h path offset r d ok read = read_by digest h path offset (initial_record (layout_with digest h.geometry) h path offset) r d ok refl read
