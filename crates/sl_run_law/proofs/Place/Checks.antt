-- Checks of what the laws of areas say: what follows from them, and would not if a definition said less.
use Rattle.sl_area.specs.AreaSizes.{Layout, Sizes, record_in}
use Rattle.sl_area.specs.AreaLayout.{block_offset, delta_offset, in_area}
use Rattle.sl_run.specs.LawfulArea.{record_offset}
use Rattle.sl_run_law.proofs.Place.Areas.{lockspace_aligned}
use Rattle.sl_run_law.proofs.Place.PlaceLaws.{lockspaces_hold_deltas, promised}
use Rattle.sl_run_law.proofs.Place.TracesOnMachines.{reads_back, session_inside}
use Rattle.sl_run_law.proofs.Place.Seats.{sized_in}
use Rattle.sl_run_law.proofs.Place.Sizes.{IsSized, begins_at_sector, one_slot, sector_fits, sector_has_bytes}
use Rattle.sl_run_law.specs.Place.Homes.{IsDeltaLanding, IsLeaseLanding}
use Rattle.sl_run.specs.Headers.{IsHeader}
use Rattle.sl_run.specs.Runs.{Happening}
use Rattle.sl_run.specs.Safety.{LawfulRun, SameId, setting_in, world_at}
use Rattle.sl_run.specs.Worlds.{Landing, Program, World}
use Rattle.sl_run.specs.declared.header.Header.{Header}
use Rattle.sl_run.specs.declared.header.LockspaceLine.{LockspaceLine}
use Rattle.sl_run.specs.declared.header.ResourceLine.{ResourceLine}
use Rattle.sl_sector.specs.declared.sector.Block.{Block}
use Rattle.sl_sector.specs.declared.sector.DeltaRec.{DeltaRec}
use Rattle.sl_sector.specs.declared.sector.Leader.{Leader}
use Rattle.sl_sector.specs.declared.sector.Rec.TheVariants.{BlockIs, DeltaIs, LeaderIs}
use Rattle.sl_sector.specs.declared.sector.Rec.{Rec}
use Rattle.sl_trace.specs.Traces.{same_place}
use Rattle.sl_trace.specs.declared.effects.Spot.{Spot}
use Rattle.sl_words.proofs.CaseLaws.{some_value}
use Rattle.std.proofs.Common.{ap, arith, subst, sym, ◌∙◌}
use Rattle.std.proofs.lemmas.Bool.{and_from, eq-eqb}
use Rattle.std.proofs.lemmas.Slice.Eq.{bytes_eq-Decides}
use Rattle.std.specs.Prelude.{Contains, IsTrue, List, Ok, ℕ, ◌%◌, ◌*◌, ◌+◌, ◌-◌, ◌<◌, ◌≡◌, ◌≤◌}

-- ---- of a lockspace's area

-- What lands begins a sector: nothing lands three bytes behind one.
pub begins_a_sector : (h : Header) (w : World) (l : LockspaceLine) (x : Landing) → IsHeader h → IsSized h.geometry w.layout → Contains h.lockspaces l → IsDeltaLanding w l x
    → x.offset % w.layout.sector ≡ 0
begins_a_sector h w l x ok z there d =
    subst (λ o. o % w.layout.sector ≡ 0) (sym d.names.1)
    (begins_at_sector w.layout.sector w.layout.area l.offset (d.delta.id - 1) z.whole (subst (λ n. l.offset % n ≡ 0) (sym z.area) (lockspace_aligned h l ok there)))

same_before : (i j : ℕ) → 1 ≤ i → 1 ≤ j → i - 1 ≡ j - 1 → i ≡ j
same_before i j p q h = omega (arith, p, q, h)

pub same_slot : {s : Sizes} (g : Layout) (base i j : ℕ) → IsSized s g → 1 ≤ i → 1 ≤ j → base + g.sector * (i - 1) ≡ base + g.sector * (j - 1) → i ≡ j
same_slot g base i j z p q h = same_before i j p q (one_slot g.sector base (i - 1) (j - 1) (sector_has_bytes g z) h)

one_place : (path path' : List ℕ) (offset offset' : ℕ) → path ≡ path' → offset ≡ offset' → IsTrue (same_place path offset path' offset')
one_place path path' offset offset' paths offsets = and_from _ _ (eq-eqb offset offset' offsets) ((bytes_eq-Decides path path').1 paths)

-- Whatever lands at one place is of sessions of one id of one lockspace.
pub one_id_a_place : {s : Sizes} (w : World) (l : LockspaceLine) (x y : Landing) → IsSized s w.layout → (d : IsDeltaLanding w l x) → (e : IsDeltaLanding w l y) → x.offset ≡ y.offset
    → SameId d.written.found e.written.found
one_id_a_place w l x y z d e same =
    let slots : delta_offset w.layout l.offset d.delta.id ≡ delta_offset w.layout l.offset e.delta.id = sym d.names.1 ∙ same ∙ e.names.1 in
    let ids : d.delta.id ≡ e.delta.id =
    same_slot w.layout l.offset d.delta.id e.delta.id z d.names.2 e.names.2 slots in (
      one_place d.written.found.session.path e.written.found.session.path d.written.found.session.offset e.written.found.session.offset
          (d.of_session.2 ∙ sym e.of_session.2) (d.of_session.3 ∙ sym e.of_session.3),
      d.of_session.1 ∙ ids ∙ sym e.of_session.1,
    )

-- What the bytes of a landing spell is a delta record of the lockspace, of the id that the place is for.
pub shows_its_id : (p : Program) (h : Header) (xs : List Happening) → LawfulRun p h xs → (l : LockspaceLine) → Contains h.lockspaces l → (x : Landing)
    → Contains (world_at p h xs).landings x → x.path ≡ l.path → IsTrue (in_area (world_at p h xs).layout l.offset x.offset) → (r : Rec)
    → record_in (world_at p h xs).layout x.bytes ≡ Ok r
    → (d : DeltaRec) × (r ≡ DeltaIs d) × (d.lockspace ≡ l.name) × (x.offset ≡ delta_offset (world_at p h xs).layout l.offset d.id)
shows_its_id p h xs run l there x landed path inside r read =
    let d = lockspaces_hold_deltas p h xs run l there x landed path inside in
    let k = d.written in
    let back = reads_back promised p h xs run (sector_fits (world_at p h xs).layout (sized_in p h xs run)) x k.machine k.call k.wrote r read in
    (d.delta, sym back ∙ d.spells, d.names.0, d.names.1)

-- ---- of a resource's area

-- Where its record stands, in the layout of the world.
pub placed_in_world : (p : Program) (h : Header) (xs : List Happening) → LawfulRun p h xs → (r : ResourceLine) (x : Landing) → (d : IsLeaseLanding (world_at p h xs) r x)
    → (setting_in d.written.found).layout ≡ (world_at p h xs).layout
placed_in_world p h xs run r x d =
    let k = session_inside (world_at p h xs) d.written.session d.written.found d.written.is.0 in
    (promised.of_world p h xs run d.written.session.machine d.written.found.machine d.written.found.daemon k.at k.has).layout

-- A block lands where the blocks of its session's id stand.
pub block_is_at_its_id : (p : Program) (h : Header) (xs : List Happening) → LawfulRun p h xs → (r : ResourceLine) (x : Landing) → (d : IsLeaseLanding (world_at p h xs) r x)
    → (b : Block) → d.written.wrote.record_written ≡ BlockIs b → x.offset ≡ block_offset (world_at p h xs).layout r.offset d.written.found.session.id
block_is_at_its_id p h xs run r x d b spells =
    let at : Spot = record { path = r.path; base = r.offset } in
    sym (some_value _ x.offset (sym (ap (record_offset (setting_in d.written.found) d.written.found.session at) spells) ∙ d.placed))
    ∙ ap (λ (g : Layout). block_offset g r.offset d.written.found.session.id) (placed_in_world p h xs run r x d)

one_less_each : (i j : ℕ) → i + 1 ≡ j + 1 → i ≡ j
one_less_each i j h = omega (arith, h)

pub same_block : {s : Sizes} (g : Layout) (base i j : ℕ) → IsSized s g → base + g.sector * (i + 1) ≡ base + g.sector * (j + 1) → i ≡ j
same_block g base i j z h = one_less_each i j (one_slot g.sector base (i + 1) (j + 1) (sector_has_bytes g z) h)

-- So two blocks at one place are of sessions of one id.
pub one_id_a_block : (p : Program) (h : Header) (xs : List Happening) → LawfulRun p h xs → (r : ResourceLine) (x y : Landing) → (d : IsLeaseLanding (world_at p h xs) r x)
    → (e : IsLeaseLanding (world_at p h xs) r y) → (b c : Block) → d.written.wrote.record_written ≡ BlockIs b → e.written.wrote.record_written ≡ BlockIs c
    → x.offset ≡ y.offset → d.written.found.session.id ≡ e.written.found.session.id
one_id_a_block p h xs run r x y d e b c one two same =
    let w : World = world_at p h xs in
    let i : ℕ = d.written.found.session.id in
    let j : ℕ = e.written.found.session.id in
    let blocks : block_offset w.layout r.offset i ≡ block_offset w.layout r.offset j =
    sym (block_is_at_its_id p h xs run r x d b one) ∙ same ∙ block_is_at_its_id p h xs run r y e c two in
    same_block w.layout r.offset i j (sized_in p h xs run) blocks

is_behind : (base s k : ℕ) → 0 < s → base ≡ base + s * (k + 1) → ⊥
is_behind base s k some h = let more : s * (k + 1) ≡ s * k + s = grind arith in omega (arith, some, h, more)

pub behind : {s : Sizes} (g : Layout) (base k : ℕ) → IsSized s g → base ≡ base + g.sector * (k + 1) → ⊥
behind g base k z h = is_behind base g.sector k (sector_has_bytes g z) h

-- .. and none is where the leader stands.
pub no_block_on_the_leader : (p : Program) (h : Header) (xs : List Happening) → LawfulRun p h xs → (r : ResourceLine) (x y : Landing)
    → (d : IsLeaseLanding (world_at p h xs) r x) → (e : IsLeaseLanding (world_at p h xs) r y) → (b : Block) (l : Leader) → d.written.wrote.record_written ≡ BlockIs b
    → e.written.wrote.record_written ≡ LeaderIs l → x.offset ≡ y.offset → ⊥
no_block_on_the_leader p h xs run r x y d e b l one two same =
    let w : World = world_at p h xs in
    let at : Spot = record { path = r.path; base = r.offset } in
    let leader : r.offset ≡ y.offset = some_value r.offset y.offset (sym (ap (record_offset (setting_in e.written.found) e.written.found.session at) two) ∙ e.placed) in
    let k : ℕ = d.written.found.session.id in
    let block : r.offset ≡ block_offset w.layout r.offset k = leader ∙ sym same ∙ block_is_at_its_id p h xs run r x d b one in
    behind w.layout r.offset k (sized_in p h xs run) block
