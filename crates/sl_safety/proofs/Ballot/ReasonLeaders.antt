-- What a read of an area gives as the leader: the one that stood there at first, or one that was submitted before the answer.
use Rattle.sl_area.specs.AreaSizes.{Layout, layout_with, record_in, sector_with}
use Rattle.sl_area.specs.AreaLayout.{area_sectors, block_sectors, in_area, leader_of, leader_spelled, sector_of}
use Rattle.sl_area.specs.AreaRecords.{fresh_block, fresh_block_at, fresh_leader, fresh_pair, leader_record, no_request, no_value}
use Rattle.sl_run_law.proofs.Landing.InitialRecords.{initial_is_record}
use Rattle.sl_run.specs.LawfulArea.{IsAreaRead}
use Rattle.sl_trace.specs.Leases.{is_area_read, is_on, leader_of_record, spot_of_call}
use Rattle.sl_run_law.proofs.Place.Areas.{is_within}
use Rattle.sl_run_law.proofs.Place.Beginnings.{zeros_at}
use Rattle.sl_run_law.proofs.Place.FoundInLists.{same_read}
use Rattle.sl_run_law.proofs.Place.VerifiedAreas.{and_two, leader_in_is, pair_leader_in_is}
use Rattle.sl_run_law.proofs.Place.PlaceLaws.{promised}
use Rattle.sl_run_law.proofs.Place.TracesOnMachines.{IsRead, IsShown, header_is, layout_is, read_of, reads_back, sector_shown}
use Rattle.sl_run_law.proofs.Place.Seats.{sized_in}
use Rattle.sl_run_law.proofs.Place.Sizes.{area_has_bytes, sector_fits, sized}
use Rattle.sl_words.proofs.Numbers.{no_times_more, refl_le, trans_lt}
use Rattle.sl_safety.proofs.Resources.NewestCalls.{sent_as}
use Rattle.sl_safety.proofs.Resources.AnsweredReads.{IsLook, area_place, look_layout}
use Rattle.sl_safety.proofs.Resources.CallParts.{sent_there}
use Rattle.sl_safety.specs.Resources.SentCalls.{Sent, all_sent, leader_of_course, step_of}
use Rattle.sl_run.specs.Refusals.{sectors_of}
use Rattle.sl_run.specs.Headers.{IsHeader}
use Rattle.sl_run.specs.Runs.{Happening}
use Rattle.sl_run.specs.Safety.{LawfulRun, world_at}
use Rattle.sl_run.specs.Worlds.{Daemon, Landing, Machine, Program, World, first_landing, initial_bytes, initial_of_lockspace, initial_of_resource, initial_record}
use Rattle.sl_run.specs.declared.header.Header.{Header}
use Rattle.sl_run.specs.declared.header.LockspaceLine.{LockspaceLine}
use Rattle.sl_run.specs.declared.header.ResourceLine.{ResourceLine}
use Rattle.sl_sector.proofs.PublicLaws.{spelled_is_read}
use Rattle.sl_sector.specs.SectorLayouts.{IsDigest, leader_in, pair_leader_in}
use Rattle.sl_sector.specs.declared.sector.Leader.{Leader}
use Rattle.sl_sector.specs.declared.sector.Rec.TheVariants.{BlockIs, LeaderIs, PairIs, PairLeaderIs, RequestIs, ValueIs}
use Rattle.sl_sector.specs.declared.sector.Rec.{Rec}
use Rattle.sl_trace.specs.Traces.{Submitted, gave}
use Rattle.sl_trace.specs.declared.effects.Op.TheVariants.{ReadSectors}
use Rattle.sl_trace.specs.declared.effects.Spot.{Spot}
use Rattle.sl_words.proofs.CaseLaws.{none_some, some_value}
use Rattle.sl_words.proofs.WordLaws.{choose_some}
use Rattle.sl_words.specs.Words.{choose}
use Rattle.std.proofs.Common.{ap, arith, inl, inr, refl, subst, sym, ◌∙◌}
use Rattle.std.proofs.lemmas.Bool.{and_from}
use Rattle.std.proofs.lemmas.Slice.Eq.{bytes_eq-Decides}
use Rattle.std.specs.Prelude.{Bool, Contains, List, None, Ok, Option, Result, Some, bytes_eq, false, find, nat_lt, option_and_then, replicate, true, ℕ, if◌then◌else◌, ◌%◌, ◌&&◌, ◌*◌, ◌+◌, ◌-◌, ◌/◌, ◌<◌, ◌==◌, ◌≡◌}
use Rattle.sl_sector.specs.declared.sector.PairBlock.{PairBlock}
use Rattle.sl_sector.specs.declared.sector.Block.{Block}
use Rattle.sl_sector.specs.declared.sector.Bad.{Bad}

-- ---- what stood there at first

first_by : (digest : List ℕ → List ℕ) (h : Header) (path : List ℕ) (offset : ℕ) (o : Option Rec) (r : Rec) → IsDigest digest → IsHeader h
    → initial_record (layout_with digest h.geometry) h path offset ≡ o
    → record_in (layout_with digest h.geometry)
    (elim o as (λ x. List ℕ) [ None ↦ replicate h.geometry.sector 0 | Some x ↦ sector_with (layout_with digest h.geometry) x ]) ≡ Ok r
    → initial_record (layout_with digest h.geometry) h path offset ≡ Some r
first_by digest h path offset None r d ok is read =
    absurd (zeros_at digest h.geometry.sector r (sector_fits (layout_with digest h.geometry) (sized digest h.geometry ok.geometry)).0 read)
first_by digest h path offset (Some x) r d ok is read =
    let g : Layout = layout_with digest h.geometry in
    let again = spelled_is_read digest d h.geometry.sector (sector_fits g (sized digest h.geometry ok.geometry)) x (initial_is_record digest h path offset x ok is) in
    is ∙ ap (λ y. Some y) (same_read (record_in g (sector_with g x)) x r again read)

-- What the first landing at a place spells is the record that stands there at first.
pub first_spells : (p : Program) (h : Header) (xs : List Happening) → LawfulRun p h xs → (path : List ℕ) (offset : ℕ) (r : Rec)
    → record_in (world_at p h xs).layout (first_landing (world_at p h xs) path offset).bytes ≡ Ok r → initial_record (layout_with p.digest h.geometry) h path offset ≡ Some r
first_spells p h xs run path offset r read =
    let w : World = world_at p h xs in
    first_by p.digest h path offset (initial_record (layout_with p.digest h.geometry) h path offset) r run.digest run.header refl
    (subst (λ g. record_in g (initial_bytes g h path offset) ≡ Ok r) (layout_is p h xs)
    (subst (λ k. record_in w.layout (initial_bytes w.layout k path offset) ≡ Ok r) (header_is p h xs) read))

-- A leader of no instance, that nobody holds.
abbrev pub IsUnled : Leader → Type 0
IsUnled l = (l.lver ≡ 0) × (l.held ≡ false)

of_lockspace : (h : Header) (k : LockspaceLine) (n : ℕ) (r : Rec) (l : Leader) → initial_of_lockspace h k n ≡ Some r → leader_of_record r ≡ Some l → IsUnled l
of_lockspace h k n r l eq leads = absurd (none_some l (ap (λ x. leader_of_record x) (choose_some _ _ _ eq).1 ∙ leads))

-- A leader's record, with pairs or without, has the leader; a block's has none.
leads_by : (b : Bool) (l : Leader) → leader_of_record (elim b as (λ z. Rec) [ false ↦ LeaderIs l | true ↦ PairLeaderIs l ]) ≡ Some l
leads_by false l = refl
leads_by true l = refl

no_leader_by : (b : Bool) (x : Block) (y : PairBlock) → leader_of_record (elim b as (λ z. Rec) [ false ↦ BlockIs x | true ↦ PairIs y ]) ≡ None
no_leader_by false x y = refl
no_leader_by true x y = refl

of_resource : (g : Layout) (x : ResourceLine) (k : ℕ) (r : Rec) (l : Leader) (leader request block last : Bool)
    → (if leader then Some (leader_record g (fresh_leader g x.lockspace x.name))
    else (if request then Some (RequestIs no_request)
    else (if block then Some (fresh_block_at g x.lockspace x.name k)
    else choose last (ValueIs no_value)))) ≡ Some r → leader_of_record r ≡ Some l → IsUnled l
of_resource g x k r l true request block last eq leads =
    let fresh : Leader = fresh_leader g x.lockspace x.name in
    let same : fresh ≡ l =
    some_value fresh l (sym (leads_by g.paired fresh) ∙ ap (λ y. leader_of_record y) (some_value (leader_record g fresh) r eq) ∙ leads) in
    (ap (λ y. y.lver) (sym same), ap (λ y. y.held) (sym same))
of_resource g x k r l false true block last eq leads = absurd (none_some l (ap (λ y. leader_of_record y) (some_value (RequestIs no_request) r eq) ∙ leads))
of_resource g x k r l false false true last eq leads =
    absurd (none_some l
    (sym (no_leader_by g.paired (fresh_block (k - 1)) (fresh_pair (k / 2) (1 + k % 2) x.lockspace x.name))
    ∙ ap (λ y. leader_of_record y) (some_value (fresh_block_at g x.lockspace x.name k) r eq) ∙ leads))
of_resource g x k r l false false false true eq leads = absurd (none_some l (ap (λ y. leader_of_record y) (some_value (ValueIs no_value) r eq) ∙ leads))
of_resource g x k r l false false false false eq leads = absurd (none_some r eq)

initial_by : (g : Layout) (h : Header) (offset : ℕ) (r : Rec) (l : Leader) (o : Option LockspaceLine) (q : Option ResourceLine)
    → elim o as (λ x. Option Rec) [
      | Some k ↦ initial_of_lockspace h k ((offset - k.offset) / g.sector)
      | None ↦ elim q as (λ x. Option Rec) [ Some x ↦ initial_of_resource g x ((offset - x.offset) / g.sector) | None ↦ None ]
    ] ≡ Some r → leader_of_record r ≡ Some l → IsUnled l
initial_by g h offset r l None None eq leads = absurd (none_some r eq)
initial_by g h offset r l None (Some x) eq leads =
    let k : ℕ = (offset - x.offset) / g.sector in
    of_resource g x k r l (k == 0) (k == 1) (nat_lt k (area_sectors g)) ((k + 1) * g.sector == g.area) eq leads
initial_by g h offset r l (Some k) q eq leads = of_lockspace h k ((offset - k.offset) / g.sector) r l eq leads

initial_unled : (g : Layout) (h : Header) (path : List ℕ) (offset : ℕ) (r : Rec) (l : Leader) → initial_record g h path offset ≡ Some r → leader_of_record r ≡ Some l → IsUnled l
unfolding initial_record
initial_unled g h path offset r l eq leads =
    initial_by g h offset r l (find (λ k. bytes_eq k.path path && in_area g k.offset offset) h.lockspaces)
    (find (λ x. bytes_eq x.path path && in_area g x.offset offset) h.resources) eq leads

-- ---- what a landing spells

-- A leader that was submitted on the area before a step, or that stood there at first.
pub data LeaderSeen (w : World) (at : Spot) (l : Leader) (n : ℕ) : Type 0 where
  Unled : IsUnled l → LeaderSeen w at l n
  Led : (z : Sent) → Contains (all_sent w) z → is_on w.layout at z.course.call ≡ true → leader_of_course z.course ≡ Some l → step_of z < n → LeaderSeen w at l n

within_here : (n area : ℕ) → 0 < area → n < n + area
within_here n area some = omega (arith, some)

-- What was read as a leader is a leader's record.
record LeaderRead (r : Result Rec Bad) (l : Leader) : Type 0 where
  found : Rec
  is : r ≡ Ok found
  leads : leader_of_record found ≡ Some l

read_by : (b : Bool) (r : Result Rec Bad) (l : Leader) → elim b as (λ z. Option Leader) [ false ↦ leader_in r | true ↦ pair_leader_in r ] ≡ Some l → LeaderRead r l
read_by false r l h = record { found = LeaderIs l; is = leader_in_is r l h; leads = refl }
read_by true r l h = record { found = PairLeaderIs l; is = pair_leader_in_is r l h; leads = refl }

leader_shown : (p : Program) (h : Header) (xs : List Happening) → LawfulRun p h xs → (at : Spot) (bytes : List ℕ) (n : ℕ) (l : Leader)
    → leader_spelled (world_at p h xs).layout (record_in (world_at p h xs).layout bytes) ≡ Some l → IsShown (world_at p h xs) at.path at.base bytes n
    → LeaderSeen (world_at p h xs) at l n
leader_shown p h xs run at bytes n l spells s =
    let w : World = world_at p h xs in
    let z = sized_in p h xs run in
    let k : LeaderRead (record_in w.layout bytes) l = read_by w.layout.paired (record_in w.layout bytes) l spells in
    let read : record_in w.layout s.landing.bytes ≡ Ok k.found = subst (λ bs. record_in w.layout bs ≡ Ok k.found) s.shows k.is in
    elim s.from as (λ y. LeaderSeen w at l n) [
      | inl landed ↦
          let c = promised.written p h xs run s.landing landed in
          let back : c.wrote.record_written ≡ k.found = reads_back promised p h xs run (sector_fits w.layout z) s.landing c.machine c.call c.wrote k.found read in
          let path : c.wrote.course.call.path ≡ at.path = c.wrote.place.0 ∙ s.place.0 in
          let offset : at.base ≡ c.wrote.course.call.offset = sym s.place.1 ∙ sym c.wrote.place.1 in
          Led (sent_as c.machine c.wrote.course) (sent_there w c.machine c.wrote.machine c.wrote.course c.wrote.at c.wrote.has)
          (and_from _ _ ((bytes_eq-Decides c.wrote.course.call.path at.path).1 path)
          (subst (λ o. in_area w.layout at.base o ≡ true) offset (is_within w.layout at.base at.base (refl_le at.base) (within_here at.base w.layout.area (area_has_bytes w.layout z)))))
          (ap (λ o. option_and_then leader_of_record o) c.wrote.writes ∙ ap (λ x. leader_of_record x) back ∙ k.leads)
          (trans_lt c.wrote.course.made.step s.landing.step n c.wrote.after.0 s.early)
      | inr first ↦
          Unled (initial_unled (layout_with p.digest h.geometry) h at.path at.base k.found l
          (first_spells p h xs run at.path at.base k.found (subst (λ (y : Landing). record_in w.layout y.bytes ≡ Ok k.found) first read)) k.leads)
    ]

-- ---- what a read gave

-- The leader that a read of an area gave, by its answer.
pub record LeaderLooked (p : Program) (h : Header) (xs : List Happening) (a : Machine) (d : Daemon) (q : Submitted) (l : Leader) : Type 0 where
  pub bytes : List ℕ
  pub read : IsRead a d q bytes
  pub seen : LeaderSeen (world_at p h xs) (spot_of_call (world_at p h xs).layout q) l read.stamp.step

pub leader_looked : (p : Program) (h : Header) (xs : List Happening) (m : ℕ) (a : Machine) (d : Daemon) (q : Submitted) → IsLook p h xs m a d q → is_area_read q ≡ true
    → (bytes : List ℕ) → gave q ≡ Some bytes → (l : Leader) → leader_of d.setting.layout bytes ≡ Some l → LeaderLooked p h xs a d q l
leader_looked p h xs m a d q k is bytes told l spells =
    let w : World = world_at p h xs in
    let layout = look_layout p h xs m a d q k in
    let right : IsAreaRead d.setting (spot_of_call d.setting.layout q) q = area_place p h xs m a d q k is in
    let n : ℕ = area_sectors d.setting.layout in
    let op : q.call.op ≡ ReadSectors n = right.1 in
    let offset : q.call.offset ≡ (spot_of_call w.layout q).base = right.0 ∙ ap (λ g. (spot_of_call g q).base) layout in
    let r = read_of promised p h xs k.run m a d k.at k.has q k.there n op bytes told in
    let shown = sector_shown promised p h xs k.run m a d k.at q bytes r 0 (subst (λ o. 0 < sectors_of o) (sym op) (and_two (block_sectors d.setting.layout))) in
    record {
      bytes = bytes;
      read = r;
      seen = leader_shown p h xs k.run (spot_of_call w.layout q) (sector_of w.layout bytes 0) r.stamp.step l
          (ap (λ g. leader_of g bytes) (sym layout) ∙ spells)
          (subst (λ o. IsShown w q.call.path o (sector_of w.layout bytes 0) r.stamp.step) (no_times_more q.call.offset w.layout.sector ∙ offset) shown);
    }
