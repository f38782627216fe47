-- What a read of blocks shows: each of their sectors, at its place, whether leader and request are read with them or not.
use Rattle.sl_area.specs.AreaSizes.{Layout}
use Rattle.sl_area.specs.AreaLayout.{area_sectors, block_offset, block_sectors, blocks_part, in_area, sector_of}
use Rattle.sl_run.specs.Refusals.{sectors_of}
use Rattle.sl_run.specs.Lawful.{Orderly}
use Rattle.sl_run.specs.LawfulArea.{IsAreaRead, IsBlockRead}
use Rattle.sl_run.specs.Runs.{Happening}
use Rattle.sl_run.specs.Safety.{LawfulRun, world_at}
use Rattle.sl_run.specs.Worlds.{Daemon, Machine, Program, World, daemons_on, machine_at}
use Rattle.sl_run.specs.declared.header.Header.{Header}
use Rattle.sl_run_law.proofs.Place.Areas.{is_within}
use Rattle.sl_run_law.proofs.Place.TracesOnMachines.{IsPromised, IsRead, IsShown, read_of, sector_shown}
use Rattle.sl_run_law.proofs.Place.ReadsInPlace.{area_place, phase_place}
use Rattle.sl_run_law.proofs.Place.Sizes.{IsSized, sector_has_bytes, slot_below}
use Rattle.sl_trace.specs.Leases.{blocks_bytes, is_area_read, is_block_read, spot_of_call}
use Rattle.sl_trace.specs.Traces.{Submitted, gave, submitted}
use Rattle.sl_trace.specs.declared.effects.Op.TheVariants.{ReadSectors}
use Rattle.sl_trace.specs.declared.session.Session.{Session}
use Rattle.sl_run_law.specs.Sessions.SessionLaws.{IsSession}
use Rattle.sl_words.proofs.CaseLaws.{none_some, some_value}
use Rattle.sl_words.specs.Words.{choose}
use Rattle.std.proofs.Common.{ap, arith, refl, subst, sym, ◌∙◌}
use Rattle.std.proofs.lemmas.List.{drop-drop}
use Rattle.std.specs.Prelude.{Bool, Contains, IsTrue, List, None, Option, Some, drop, false, if◌then◌else◌, take, true, ℕ, ◌*◌, ◌+◌, ◌<◌, ◌≡◌, ◌≤◌}

-- ---- the bytes of all blocks

-- Where they are in an answer.
pub data Told (g : Layout) (q : Submitted) (bs : List ℕ) : Type 0 where
  By_area : (bytes : List ℕ) → gave q ≡ Some bytes → is_area_read q ≡ true → bs ≡ blocks_part g bytes → Told g q bs
  By_phase : gave q ≡ Some bs → is_area_read q ≡ false → is_block_read q ≡ true → Told g q bs

told_by : (g : Layout) (q : Submitted) (bs : List ℕ) (o : Option (List ℕ)) (a b : Bool) → gave q ≡ o → is_area_read q ≡ a → is_block_read q ≡ b
    → elim o as (λ z. Option (List ℕ)) [
      | None ↦ None
      | Some bytes ↦ elim a as (λ z. Option (List ℕ)) [ true ↦ Some (blocks_part g bytes) | false ↦ choose b bytes ]
    ] ≡ Some bs → Told g q bs
told_by g q bs None a b told one two h = absurd (none_some bs h)
told_by g q bs (Some bytes) true b told one two h = By_area bytes told one (sym (some_value (blocks_part g bytes) bs h))
told_by g q bs (Some bytes) false true told one two h = By_phase (told ∙ h) one two
told_by g q bs (Some bytes) false false told one two h = absurd (none_some bs h)

pub bytes_told : (g : Layout) (q : Submitted) (bs : List ℕ) → blocks_bytes g q ≡ Some bs → Told g q bs
bytes_told g q bs h = told_by g q bs (gave q) (is_area_read q) (is_block_read q) refl refl refl h

two_on : (s j : ℕ) → 2 * s + j * s ≡ (j + 2) * s
two_on s j = grind arith

-- Sector j of the blocks is sector j + 2 of the area.
pub behind_two : (g : Layout) (bytes : List ℕ) (j : ℕ) → sector_of g (blocks_part g bytes) j ≡ sector_of g bytes (j + 2)
behind_two g bytes j = ap (λ l. take g.sector l) (drop-drop (j * g.sector) (2 * g.sector) bytes ∙ ap (λ n. drop n bytes) (two_on g.sector j))

-- ---- their places

-- Where sector j of the blocks stands.
abbrev pub blocks_place : Layout → ℕ → ℕ → ℕ
blocks_place g base j = base + g.sector * (j + 2)

two_more : (j n : ℕ) → j < n → j + 2 < n + 2
two_more j n h = omega (arith, h)

area_place_of : (o base s j : ℕ) → o ≡ base → o + (j + 2) * s ≡ base + s * (j + 2)
area_place_of o base s j e = let same : base + (j + 2) * s ≡ base + s * (j + 2) = grind arith in ap (λ n. n + (j + 2) * s) e ∙ same

phase_place_of : (o base s j : ℕ) → o ≡ base + s * (1 + 1) → o + j * s ≡ base + s * (j + 2)
phase_place_of o base s j e = let same : base + s * (1 + 1) + j * s ≡ base + s * (j + 2) = grind arith in ap (λ n. n + j * s) e ∙ same

up_to_room : (j n : ℕ) → j < n → j + 2 ≤ n + 2
up_to_room j n h = omega (arith, h)

low_end : (base n : ℕ) → base ≤ base + n
low_end base n = omega arith

-- It lies in its area.
pub blocks_within : {s : _} (g : Layout) (base j : ℕ) → IsSized s g → j < block_sectors g → IsTrue (in_area g base (blocks_place g base j))
blocks_within g base j z below =
    is_within g base (blocks_place g base j) (low_end base (g.sector * (j + 2)))
    (slot_below g.sector base (j + 2) (block_sectors g) g.area (sector_has_bytes g z) (up_to_room j (block_sectors g) below) z.blocks)

-- ---- what is shown

-- Of a read of blocks that was answered sector j of the blocks shows a landing at its place.
pub record BlockShown (w : World) (a : Machine) (d : Daemon) (q : Submitted) (bs : List ℕ) (j : ℕ) : Type 0 where
  pub bytes : List ℕ
  pub given : gave q ≡ Some bytes
  pub read : IsRead a d q bytes
  -- its number among the sectors of the call
  pub sector : ℕ
  pub number : sector ≡ (if is_area_read q then j + 2 else j)
  pub within : sector < sectors_of q.call.op
  pub same : sector_of w.layout bs j ≡ sector_of w.layout bytes sector
  pub place : q.call.offset + sector * w.layout.sector ≡ blocks_place w.layout (spot_of_call w.layout q).base j
  pub shown : IsShown w q.call.path (blocks_place w.layout (spot_of_call w.layout q).base j) (sector_of w.layout bs j) read.stamp.step

shown_at : (w : World) (path : List ℕ) (o place : ℕ) (bytes bs : List ℕ) (n : ℕ) → o ≡ place → bs ≡ bytes → IsShown w path o bytes n → IsShown w path place bs n
shown_at w path o place bytes bs n places same s =
    subst (λ b. IsShown w path place b n) (sym same) (subst (λ z. IsShown w path z bytes n) places s)

shown_by : (p : Program) (h : Header) (xs : List Happening) → IsPromised → LawfulRun p h xs → (m : ℕ) (a : Machine) (d : Daemon) → machine_at (world_at p h xs) m ≡ Some a
    → Contains (daemons_on a) d → Orderly d.setting d.trace → (s : Session) → IsSession d.setting d.trace s → (q : Submitted) → Contains (submitted d.trace) q
    → q.call.session ≡ s.number → (bs : List ℕ) → Told (world_at p h xs).layout q bs → (j : ℕ) → j < block_sectors (world_at p h xs).layout
    → BlockShown (world_at p h xs) a d q bs j
shown_by p h xs b run m a d at has law s its q there mine bs (By_area bytes told is part) j below =
    let w : World = world_at p h xs in
    let layout : d.setting.layout ≡ w.layout = (b.of_world p h xs run m a d at has).layout in
    let right : IsAreaRead d.setting (spot_of_call d.setting.layout q) q = area_place d.setting d.trace s q law its there mine is in
    let op : q.call.op ≡ ReadSectors (area_sectors w.layout) = right.1 ∙ ap (λ g. ReadSectors (area_sectors g)) layout in
    let offset : q.call.offset ≡ (spot_of_call w.layout q).base = right.0 ∙ ap (λ g. (spot_of_call g q).base) layout in
    let r = read_of b p h xs run m a d at has q there (area_sectors w.layout) op bytes told in
    let within : j + 2 < sectors_of q.call.op = subst (λ o. j + 2 < sectors_of o) (sym op) (two_more j (block_sectors w.layout) below) in
    let same : sector_of w.layout bs j ≡ sector_of w.layout bytes (j + 2) = ap (λ l. sector_of w.layout l j) part ∙ behind_two w.layout bytes j in
    let place = area_place_of q.call.offset (spot_of_call w.layout q).base w.layout.sector j offset in
    record {
      bytes = bytes;
      given = told;
      read = r;
      sector = j + 2;
      number = ap (λ (c : Bool). if c then j + 2 else j) (sym is);
      within = within;
      same = same;
      place = place;
      shown = shown_at w q.call.path (q.call.offset + (j + 2) * w.layout.sector) (blocks_place w.layout (spot_of_call w.layout q).base j) (sector_of w.layout bytes (j + 2))
          (sector_of w.layout bs j) r.stamp.step place same (sector_shown b p h xs run m a d at q bytes r (j + 2) within);
    }
shown_by p h xs b run m a d at has law s its q there mine bs (By_phase told alone is) j below =
    let w : World = world_at p h xs in
    let layout : d.setting.layout ≡ w.layout = (b.of_world p h xs run m a d at has).layout in
    let right : IsBlockRead d.setting (spot_of_call d.setting.layout q) q = phase_place d.setting d.trace s q law its there mine alone is in
    let op : q.call.op ≡ ReadSectors (block_sectors w.layout) = right.1 ∙ ap (λ g. ReadSectors (block_sectors g)) layout in
    let offset : q.call.offset ≡ block_offset w.layout (spot_of_call w.layout q).base 1 = right.0 ∙ ap (λ g. block_offset g (spot_of_call g q).base 1) layout in
    let r = read_of b p h xs run m a d at has q there (block_sectors w.layout) op bs told in
    let within : j < sectors_of q.call.op = subst (λ o. j < sectors_of o) (sym op) below in
    let place = phase_place_of q.call.offset (spot_of_call w.layout q).base w.layout.sector j offset in
    record {
      bytes = bs;
      given = told;
      read = r;
      sector = j;
      number = ap (λ (c : Bool). if c then j + 2 else j) (sym alone);
      within = within;
      same = refl;
      place = place;
      shown = shown_at w q.call.path (q.call.offset + j * w.layout.sector) (blocks_place w.layout (spot_of_call w.layout q).base j) (sector_of w.layout bs j)
          (sector_of w.layout bs j) r.stamp.step place refl (sector_shown b p h xs run m a d at q bs r j within);
    }

pub block_shown : (p : Program) (h : Header) (xs : List Happening) → IsPromised → LawfulRun p h xs → (m : ℕ) (a : Machine) (d : Daemon) → machine_at (world_at p h xs) m ≡ Some a
    → Contains (daemons_on a) d → Orderly d.setting d.trace → (s : Session) → IsSession d.setting d.trace s → (q : Submitted) → Contains (submitted d.trace) q
    → q.call.session ≡ s.number → (bs : List ℕ) → blocks_bytes (world_at p h xs).layout q ≡ Some bs → (j : ℕ) → j < block_sectors (world_at p h xs).layout
    → BlockShown (world_at p h xs) a d q bs j
block_shown p h xs b run m a d at has law s its q there mine bs told j below =
    shown_by p h xs b run m a d at has law s its q there mine bs (bytes_told (world_at p h xs).layout q bs told) j below
