-- What a read gave of a host, where each host's block has one sector: that sector, and where it stands.
use Rattle.sl_area.specs.AreaSizes.{Layout, record_in}
use Rattle.sl_area.specs.AreaLayout.{area_sectors, block_offset, block_sectors, blocks_in, read_at, sector_of}
use Rattle.sl_run.specs.LawfulArea.{IsAreaRead, IsBlockRead}
use Rattle.sl_trace.specs.Leases.{blocks_given, is_area_read, spot_of_call}
use Rattle.sl_run_law.proofs.Place.Blocks.{behind_two}
use Rattle.sl_run_law.proofs.Place.MadeLeaders.{ranged}
use Rattle.sl_run_law.proofs.Place.PlaceLaws.{promised}
use Rattle.sl_run_law.proofs.Place.TracesOnMachines.{IsRead, read_of}
use Rattle.sl_run.specs.Refusals.{sectors_of}
use Rattle.sl_run.specs.Runs.{Happening}
use Rattle.sl_run.specs.Safety.{world_at}
use Rattle.sl_run.specs.Worlds.{Daemon, Machine, Program, World}
use Rattle.sl_run.specs.declared.header.Header.{Header}
use Rattle.sl_sector.specs.SectorLayouts.{block_in}
use Rattle.sl_sector.specs.declared.sector.Block.{Block}
use Rattle.sl_trace.specs.Traces.{Submitted}
use Rattle.sl_trace.specs.declared.effects.Op.TheVariants.{ReadSectors}
use Rattle.std.proofs.Common.{ap, arith, subst, sym, ◌∙◌}
use Rattle.std.specs.Prelude.{Bool, List, Option, Some, drop, false, if◌then◌else◌, slice_get, true, ℕ, ◌*◌, ◌+◌, ◌-◌, ◌<◌, ◌≡◌}
use Rattle.sl_safety.proofs.Resources.AnsweredReads.{By_area, By_phase, Gave, IsLook, area_place, given_blocks, look_layout, phase_place}

-- ---- the blocks of a list of bytes

one_on : (j : ℕ) → 1 + j ≡ j + 1
one_on j = omega arith

one_back : (j : ℕ) → j + 1 - 1 ≡ j
one_back j = omega arith

block_there : (g : Layout) (bytes : List ℕ) (j : ℕ) (b : Block) → slice_get (blocks_in g bytes) j ≡ Some (Some b)
    → (j < g.hosts) × (block_in (j + 1) (record_in g (sector_of g bytes j)) ≡ Some b)
block_there g bytes j b h =
    let r = ranged (λ k. block_in k (read_at g bytes (k - 1))) 1 g.hosts j (Some b) h in (
      r.0,
      ap (λ k. block_in (j + 1) (record_in g (sector_of g bytes k))) (sym (one_back j)) ∙ ap (λ k. block_in k (read_at g bytes (k - 1))) (sym (one_on j)) ∙ r.1,
    )

-- The blocks of all hosts have a sector each.
sectors_plain : (g : Layout) → g.paired ≡ false → block_sectors g ≡ g.hosts
sectors_plain g plain = ap (λ b. elim b as (λ z. ℕ) [ false ↦ g.hosts | true ↦ 2 * g.hosts ]) plain

-- ---- at its place

-- What was read of a host: its sector, and the landing that it shows.
pub record Looked (p : Program) (h : Header) (xs : List Happening) (m : ℕ) (a : Machine) (d : Daemon) (q : Submitted) (j : ℕ) (b : Block) : Type 0 where
  pub bytes : List ℕ
  pub read : IsRead a d q bytes
  pub sector : ℕ
  pub below : j < (world_at p h xs).layout.hosts
  pub spells : block_in (j + 1) (record_in (world_at p h xs).layout (sector_of (world_at p h xs).layout bytes sector)) ≡ Some b
  pub number : sector ≡ (if is_area_read q then j + 1 + 1 else j + 1 - 1)
  pub within : sector < sectors_of q.call.op
  pub place : q.call.offset + sector * (world_at p h xs).layout.sector
      ≡ block_offset (world_at p h xs).layout (spot_of_call (world_at p h xs).layout q).base (j + 1)

two_further : (base s j : ℕ) → base + (j + 2) * s ≡ base + s * (j + 1 + 1)
two_further base s j = grind arith

area_offset : (o base s j : ℕ) → o ≡ base → o + (j + 2) * s ≡ base + s * (j + 1 + 1)
area_offset o base s j e = ap (λ n. n + (j + 2) * s) e ∙ two_further base s j

behind_first : (base s j : ℕ) → base + s * (1 + 1) + j * s ≡ base + s * (j + 1 + 1)
behind_first base s j = grind arith

phase_offset : (o base s j : ℕ) → o ≡ base + s * (1 + 1) → o + j * s ≡ base + s * (j + 1 + 1)
phase_offset o base s j e = ap (λ n. n + j * s) e ∙ behind_first base s j

two_of : (j : ℕ) → j + 2 ≡ j + 1 + 1
two_of j = omega arith

two_more : (j n : ℕ) → j < n → j + 2 < n + 2
two_more j n h = omega (arith, h)

looked_by : (p : Program) (h : Header) (xs : List Happening) → (world_at p h xs).layout.paired ≡ false → (m : ℕ) (a : Machine) (d : Daemon) (q : Submitted) (k : IsLook p h xs m a d q) (bs : List (Option Block))
    → Gave (world_at p h xs).layout q bs → (j : ℕ) (b : Block) → slice_get bs j ≡ Some (Some b) → Looked p h xs m a d q j b
looked_by p h xs plain m a d q k bs (By_area bytes told is same) j b there =
    let w : World = world_at p h xs in
    let layout = look_layout p h xs m a d q k in
    let right : IsAreaRead d.setting (spot_of_call d.setting.layout q) q = area_place p h xs m a d q k is in
    let op : q.call.op ≡ ReadSectors (w.layout.hosts + 2) =
    right.1 ∙ ap (λ g. ReadSectors (area_sectors g)) layout ∙ ap (λ n. ReadSectors (n + 2)) (sectors_plain w.layout plain) in
    let offset : q.call.offset ≡ (spot_of_call w.layout q).base = right.0 ∙ ap (λ g. (spot_of_call g q).base) layout in
    let t = block_there w.layout (drop (2 * w.layout.sector) bytes) j b (subst (λ l. slice_get l j ≡ Some (Some b)) same there) in
    record {
      bytes = bytes;
      read = read_of promised p h xs k.run m a d k.at k.has q k.there (w.layout.hosts + 2) op bytes told;
      sector = j + 2;
      number = two_of j ∙ ap (λ (b : Bool). if b then j + 1 + 1 else j + 1 - 1) (sym is);
      below = t.0;
      spells = ap (λ l. block_in (j + 1) (record_in w.layout l)) (sym (behind_two w.layout bytes j)) ∙ t.1;
      within = subst (λ o. j + 2 < sectors_of o) (sym op) (two_more j w.layout.hosts t.0);
      place = area_offset q.call.offset (spot_of_call w.layout q).base w.layout.sector j offset;
    }
looked_by p h xs plain m a d q k bs (By_phase bytes told alone is same) j b there =
    let w : World = world_at p h xs in
    let layout = look_layout p h xs m a d q k in
    let right : IsBlockRead d.setting (spot_of_call d.setting.layout q) q = phase_place p h xs m a d q k alone is in
    let op : q.call.op ≡ ReadSectors w.layout.hosts =
    right.1 ∙ ap (λ g. ReadSectors (block_sectors g)) layout ∙ ap (λ n. ReadSectors n) (sectors_plain w.layout plain) in
    let offset : q.call.offset ≡ block_offset w.layout (spot_of_call w.layout q).base 1 = right.0 ∙ ap (λ g. block_offset g (spot_of_call g q).base 1) layout in
    let t = block_there w.layout bytes j b (subst (λ l. slice_get l j ≡ Some (Some b)) same there) in
    record {
      bytes = bytes;
      read = read_of promised p h xs k.run m a d k.at k.has q k.there w.layout.hosts op bytes told;
      sector = j;
      number = sym (one_back j) ∙ ap (λ (b : Bool). if b then j + 1 + 1 else j + 1 - 1) (sym alone);
      below = t.0;
      spells = t.1;
      within = subst (λ o. j < sectors_of o) (sym op) t.0;
      place = phase_offset q.call.offset (spot_of_call w.layout q).base w.layout.sector j offset;
    }

pub looked : (p : Program) (h : Header) (xs : List Happening) → (world_at p h xs).layout.paired ≡ false → (m : ℕ) (a : Machine) (d : Daemon) (q : Submitted) (k : IsLook p h xs m a d q) (bs : List (Option Block))
    → (before : List Submitted) → blocks_given d.setting.layout q before ≡ Some bs → (j : ℕ) (b : Block) → slice_get bs j ≡ Some (Some b) → Looked p h xs m a d q j b
looked p h xs plain m a d q k bs before given j b there =
    looked_by p h xs plain m a d q k bs
    (given_blocks (world_at p h xs).layout plain q before bs (ap (λ g. blocks_given g q before) (sym (look_layout p h xs m a d q k)) ∙ given)) j b there
