-- Where a landing is at home, and where a session is: one that writes its sector has the area of its lockspace.
use Rattle.sl_area.specs.AreaSizes.{Layout, Sizes, record_in}
use Rattle.sl_area.specs.AreaLayout.{delta_offset, in_area, is_base, sector_of}
use Rattle.sl_run_law.specs.Course.CallStamps.{stamp_in}
use Rattle.sl_run.specs.LawfulArea.{is_delta_record}
use Rattle.sl_run_law.proofs.Place.Areas.{is_base_aligned, is_within, lockspace_aligned, same_base}
use Rattle.sl_run_law.proofs.Place.Beginnings.{In_lockspace, In_resource, IsInitial, read_first}
use Rattle.sl_run_law.proofs.Place.Daemons.{daemons_are_fine, stamp_order}
use Rattle.sl_run_law.proofs.Place.FoundInLists.{given_by, same_text}
use Rattle.sl_run_law.proofs.Place.Looks.{Look}
use Rattle.sl_run_law.proofs.Place.SessionNumbers.{Of_command, Of_setting, Origin, origin_of}
use Rattle.sl_run_law.proofs.Place.TracesOnMachines.{IsPromised, IsShown, header_is, layout_is, one_sector, read_of, reads_back, sector_shown}
use Rattle.sl_run_law.proofs.Place.Sizes.{IsSized, sector_fits, sector_has_bytes, sized, slot_below}
use Rattle.sl_run_law.specs.Place.Homes.{IsDeltaLanding, IsLeaseLanding}
use Rattle.sl_words.proofs.Lists.{contains_none, find_inside}
use Rattle.sl_words.proofs.Numbers.{at_least_first, next_is_most, no_times_more, one_least}
use Rattle.sl_run.specs.Refusals.{sectors_of}
use Rattle.sl_run.specs.Headers.{IsHeader}
use Rattle.sl_run.specs.Runs.{Happening}
use Rattle.sl_run.specs.Safety.{LawfulRun, world_at}
use Rattle.sl_run.specs.Worlds.{Daemon, Landing, Machine, Program, Stamp, World, clock_reading, daemons_on, first_landing, given_of, initial_bytes, machine_at}
use Rattle.sl_run.specs.declared.header.Header.{Header}
use Rattle.sl_run.specs.declared.header.LockspaceLine.{LockspaceLine}
use Rattle.sl_run.specs.declared.header.ResourceLine.{ResourceLine}
use Rattle.sl_run.specs.declared.header.SessionLine.{SessionLine}
use Rattle.sl_sector.specs.SectorLayouts.{delta_in}
use Rattle.sl_sector.specs.declared.sector.Bad.{Bad}
use Rattle.sl_sector.specs.declared.sector.DeltaRec.{DeltaRec}
use Rattle.sl_sector.specs.declared.sector.Rec.TheVariants.{BlockIs, DeltaIs, LeaderIs, PairIs, PairLeaderIs, RequestIs, ValueIs}
use Rattle.sl_sector.specs.declared.sector.Rec.{Rec}
use Rattle.sl_trace.specs.Sessions.{sessions}
use Rattle.sl_trace.specs.declared.session.Session.{Session}
use Rattle.sl_trace.specs.Traces.{Setting}
use Rattle.sl_trace.specs.declared.input.Given.{Given}
use Rattle.sl_words.proofs.CaseLaws.{none_some, some_value}
use Rattle.std.proofs.Common.{ap, arith, inl, inr, refl, subst, sym, ◌∙◌}
use Rattle.std.specs.Prelude.{Bool, Contains, Err, IsTrue, List, None, Ok, Option, Result, Some, [], bytes_eq, false, filter_map, find, option_map, true, ℕ, ◌*◌, ◌+◌, ◌-◌, ◌/◌, ◌<◌, ◌==◌, ◌≡◌, ◌≤◌, ◌⊎◌, ◌%◌}

-- ---- homes

-- Where a landing is at home, and what it is there.
pub data IsHome (h : Header) (w : World) (x : Landing) : Type 0 where
  Delta_home : (l : LockspaceLine) → Contains h.lockspaces l → x.path ≡ l.path → IsTrue (in_area w.layout l.offset x.offset) → IsDeltaLanding w l x
      → IsHome h w x
  Lease_home : (r : ResourceLine) → Contains h.resources r → x.path ≡ r.path → IsTrue (in_area w.layout r.offset x.offset) → IsLeaseLanding w r x
      → IsHome h w x

-- All landings before this step are at home.
abbrev pub HomeBefore : Header → World → ℕ → Type 0
HomeBefore h w n = (x : Landing) → Contains w.landings x → x.step < n → IsHome h w x

-- The session's area is that of its lockspace.
pub record IsSeated (h : Header) (w : World) (s : Session) : Type 0 where
  pub line : LockspaceLine
  pub there : Contains h.lockspaces line
  pub path : s.path ≡ line.path
  pub offset : s.offset ≡ line.offset
  pub name : s.lockspace ≡ line.name
  pub id : (1 ≤ s.id) × (s.id ≤ w.layout.hosts)

-- ---- the layout of a run

pub sized_in : (p : Program) (h : Header) (xs : List Happening) → LawfulRun p h xs → IsSized h.geometry (world_at p h xs).layout
sized_in p h xs run = subst (IsSized h.geometry) (sym (layout_is p h xs)) (sized p.digest h.geometry run.header.geometry)

-- .. where each host's block has one sector, if it has so in the header.
pub plain_in : (p : Program) (h : Header) (xs : List Happening) → LawfulRun p h xs → h.geometry.paired ≡ false → (world_at p h xs).layout.paired ≡ false
plain_in p h xs run plain = (sized_in p h xs run).paired ∙ plain

-- ---- a session that is given

-- What a daemon is given of a line of the header.
record IsGivenOf (h : Header) (s : SessionLine) (g : Given) : Type 0 where
  line : LockspaceLine
  there : Contains h.lockspaces line
  name : line.name ≡ s.lockspace
  names : (g.lockspace ≡ s.lockspace) × (g.id ≡ s.id)
  place : (g.path ≡ line.path) × (g.offset ≡ line.offset)

given_line : (h : Header) (m : ℕ) (s : SessionLine) (g : Given) (o : Option LockspaceLine) → find (λ (l : LockspaceLine). bytes_eq l.name s.lockspace) h.lockspaces ≡ o
    → option_map (λ (l : LockspaceLine). record { lockspace = s.lockspace; id = s.id; path = l.path; offset = l.offset; renewed = clock_reading h m }) o ≡ Some g → IsGivenOf h s g
given_line h m s g None is given = absurd (none_some g given)
given_line h m s g (Some l) is given =
    let f = find_inside (λ (l : LockspaceLine). bytes_eq l.name s.lockspace) h.lockspaces l is in
    let same : (let x : Given = record { lockspace = s.lockspace; id = s.id; path = l.path; offset = l.offset; renewed = clock_reading h m } in x) ≡ g = some_value _ g given in
    record {
      line = l;
      there = f.0;
      name = same_text l.name s.lockspace f.1;
      names = (ap (λ x. x.lockspace) (sym same), ap (λ x. x.id) (sym same));
      place = (ap (λ x. x.path) (sym same), ap (λ x. x.offset) (sym same));
    }

given_where : (h : Header) (m : ℕ) (s : SessionLine) (g : Given) (b : Bool)
    → elim b as (λ z. Option Given) [
      | false ↦ None
      | true ↦ option_map (λ (l : LockspaceLine). record { lockspace = s.lockspace; id = s.id; path = l.path; offset = l.offset; renewed = clock_reading h m })
          (find (λ (l : LockspaceLine). bytes_eq l.name s.lockspace) h.lockspaces)
    ] ≡ Some g → IsGivenOf h s g
given_where h m s g false given = absurd (none_some g given)
given_where h m s g true given = given_line h m s g (find (λ (l : LockspaceLine). bytes_eq l.name s.lockspace) h.lockspaces) refl given

among : (h : Header) (m : ℕ) (gs : List Given) (g : Given) → (gs ≡ []) ⊎ (gs ≡ filter_map (given_of h m) h.sessions) → Contains gs g
    → (s : SessionLine) × Contains h.sessions s × IsGivenOf h s g
among h m gs g (inl none) there = absurd (contains_none g (subst (λ xs. Contains xs g) none there))
among h m gs g (inr some) there =
    let line = given_by (given_of h m) h.sessions g (subst (λ xs. Contains xs g) some there) in
    (line.0, line.1, given_where h m line.0 g (line.0.machine == m) line.2)

seated_by : (p : Program) (h : Header) (xs : List Happening) → LawfulRun p h xs → (m : ℕ) (st : Setting) (s : Session)
    → (st.given ≡ []) ⊎ (st.given ≡ filter_map (given_of h m) h.sessions) → s.job ≡ None → Origin st s → IsSeated h (world_at p h xs) s
seated_by p h xs run m st s given none (Of_command j job) = absurd (none_some j (sym none ∙ job))
seated_by p h xs run m st s given none (Of_setting i g there is) =
    let line = among h m st.given g given there in
    let member = run.header.members line.0 line.1 in
    let id : s.id ≡ line.0.id = ap (λ x. x.id) is ∙ line.2.names.1 in
    record {
      line = line.2.line;
      there = line.2.there;
      path = ap (λ x. x.path) is ∙ line.2.place.0;
      offset = ap (λ x. x.offset) is ∙ line.2.place.1;
      name = ap (λ x. x.lockspace) is ∙ line.2.names.0 ∙ sym line.2.name;
      id = (
        subst (λ n. 1 ≤ n) (sym id) member.id.0,
        subst (λ (g : Layout). s.id ≤ g.hosts) (sym (layout_is p h xs)) (subst (λ n. n ≤ h.geometry.hosts) (sym id) member.id.1),
      );
    }

-- A session that a daemon is given is seated.
pub given_seated : (p : Program) (h : Header) (xs : List Happening) → LawfulRun p h xs → (m : ℕ) (a : Machine) (d : Daemon) → machine_at (world_at p h xs) m ≡ Some a
    → Contains (daemons_on a) d → (s : Session) → Contains (sessions d.setting d.trace) s → s.job ≡ None → IsSeated h (world_at p h xs) s
given_seated p h xs run m a d at has s there none =
    seated_by p h xs run m d.setting s (daemons_are_fine p h xs run m a d at has).given none (origin_of d.setting d.trace s there)

-- ---- a session that had looked

one_off : (id hosts : ℕ) → id ≤ hosts → id - 1 ≤ hosts + 2
one_off id hosts high = omega (arith, high)

-- A delta sector is in its area.
pub delta_within : {s : Sizes} (g : Layout) (base id : ℕ) → IsSized s g → 1 ≤ id → id ≤ g.hosts → IsTrue (in_area g base (delta_offset g base id))
delta_within g base id z low high =
    is_within g base (delta_offset g base id) (at_least_first base (g.sector * (id - 1)))
    (slot_below g.sector base (id - 1) g.hosts g.area (sector_has_bytes g z) (one_off id g.hosts high) z.room)

-- What a place that shows a delta record is.
record IsDeltaPlace (h : Header) (w : World) (path : List ℕ) (offset : ℕ) (d : DeltaRec) : Type 0 where
  line : LockspaceLine
  there : Contains h.lockspaces line
  path_is : line.path ≡ path
  name : d.lockspace ≡ line.name
  id : (1 ≤ d.id) × (d.id ≤ w.layout.hosts)
  inside : IsTrue (in_area w.layout line.offset offset)

pub delta_in_is : (r : Result Rec Bad) (d : DeltaRec) → delta_in r ≡ Some d → r ≡ Ok (DeltaIs d)
delta_in_is (Ok (DeltaIs e)) d h = ap (λ x. Ok (DeltaIs x)) (some_value e d h)
delta_in_is (Ok (LeaderIs e)) d h = absurd (none_some d h)
delta_in_is (Ok (BlockIs e)) d h = absurd (none_some d h)
delta_in_is (Ok (RequestIs e)) d h = absurd (none_some d h)
delta_in_is (Ok (ValueIs e)) d h = absurd (none_some d h)
delta_in_is (Ok (PairIs e)) d h = absurd (none_some d h)
delta_in_is (Ok (PairLeaderIs e)) d h = absurd (none_some d h)
delta_in_is (Err bad) d h = absurd (none_some d h)

pub same_delta : (d e : DeltaRec) → DeltaIs d ≡ DeltaIs e → d ≡ e
same_delta d e h = cc

not_other : (b : Bool) → b ≡ true → b ≡ false → ⊥
not_other b p q = absurd cc

at_home : (p : Program) (h : Header) (xs : List Happening) → IsPromised → LawfulRun p h xs → (x : Landing) (d : DeltaRec) → record_in (world_at p h xs).layout x.bytes ≡ Ok (DeltaIs d)
    → IsHome h (world_at p h xs) x → IsDeltaPlace h (world_at p h xs) x.path x.offset d
at_home p h xs b run x d read (Delta_home l there path inside landing) =
    let w : World = world_at p h xs in
    let k = landing.written in
    let back = reads_back b p h xs run (sector_fits w.layout (sized_in p h xs run)) x k.machine k.call k.wrote (DeltaIs d) read in
    let same : landing.delta ≡ d = same_delta landing.delta d (sym landing.spells ∙ back) in
    subst (λ e. IsDeltaPlace h w x.path x.offset e) same
    (record {
      line = l;
      there = there;
      path_is = sym path;
      name = landing.names.0;
      id = (landing.names.2, landing.names.3);
      inside = inside;
    })
at_home p h xs b run x d read (Lease_home r there path inside landing) =
    let w : World = world_at p h xs in
    let k = landing.written in
    let back = reads_back b p h xs run (sector_fits w.layout (sized_in p h xs run)) x k.machine k.call k.wrote (DeltaIs d) read in
    absurd (not_other (is_delta_record k.wrote.record_written) (ap is_delta_record back) landing.other)

at_first_by : (h : Header) (w : World) (path : List ℕ) (offset : ℕ) (d : DeltaRec) → IsInitial w.layout h path offset (DeltaIs d) → IsDeltaPlace h w path offset d
at_first_by h w path offset d (In_resource x there path_is inside its) = absurd (its.no_delta d refl)
at_first_by h w path offset d (In_lockspace l e there path_is inside few is its) =
    let same : d ≡ e = same_delta d e is in
    let k : ℕ = (offset - l.offset) / w.layout.sector in
    let id : d.id ≡ k + 1 = ap (λ x. x.id) same ∙ its.same_id in
    record {
      line = l;
      there = there;
      path_is = path_is;
      name = ap (λ x. x.lockspace) same ∙ its.lockspace;
      id = (subst (λ n. 1 ≤ n) (sym id) (one_least k), subst (λ n. n ≤ w.layout.hosts) (sym id) (next_is_most k w.layout.hosts few));
      inside = inside;
    }

-- What stood at a place at first, in the layout of the world.
pub initial_in : (p : Program) (h : Header) (xs : List Happening) → LawfulRun p h xs → (path : List ℕ) (offset : ℕ) (r : Rec)
    → record_in (world_at p h xs).layout (first_landing (world_at p h xs) path offset).bytes ≡ Ok r
    → IsInitial (world_at p h xs).layout h path offset r
initial_in p h xs run path offset r read =
    let w : World = world_at p h xs in
    subst (λ g. IsInitial g h path offset r) (sym (layout_is p h xs))
    (read_first p.digest h path offset r run.digest run.header
    (subst (λ g. record_in g (initial_bytes g h path offset) ≡ Ok r) (layout_is p h xs)
    (subst (λ k. record_in w.layout (initial_bytes w.layout k path offset) ≡ Ok r) (header_is p h xs) read)))

shown_place : (p : Program) (h : Header) (xs : List Happening) → IsPromised → LawfulRun p h xs → (path : List ℕ) (offset : ℕ) (bytes : List ℕ) (n : ℕ) (d : DeltaRec)
    → HomeBefore h (world_at p h xs) n → record_in (world_at p h xs).layout bytes ≡ Ok (DeltaIs d) → IsShown (world_at p h xs) path offset bytes n
    → IsDeltaPlace h (world_at p h xs) path offset d
shown_place p h xs b run path offset bytes n d home read s =
    let w : World = world_at p h xs in
    let its : record_in w.layout s.landing.bytes ≡ Ok (DeltaIs d) = subst (λ bs. record_in w.layout bs ≡ Ok (DeltaIs d)) s.shows read in
    elim s.from as (λ z. IsDeltaPlace h w path offset d) [
      | inl landed ↦
          subst (λ y. IsDeltaPlace h w y offset d) s.place.0
          (subst (λ o. IsDeltaPlace h w s.landing.path o d) s.place.1 (at_home p h xs b run s.landing d its (home s.landing landed s.early)))
      | inr at_first ↦
          at_first_by h w path offset d
          (initial_in p h xs run path offset (DeltaIs d) (subst (λ (y : Landing). record_in w.layout y.bytes ≡ Ok (DeltaIs d)) at_first its))
    ]

-- Areas begin at bases, so a session whose sector is in the area of a line has its own area there.
place_seats : (h : Header) (w : World) (s : Session) (path : List ℕ) (offset : ℕ) (d : DeltaRec) → IsHeader h → IsSized h.geometry w.layout → s.offset % h.geometry.area ≡ 0 → path ≡ s.path
    → offset ≡ delta_offset w.layout s.offset s.id → (d.lockspace ≡ s.lockspace) × (d.id ≡ s.id) → IsDeltaPlace h w path offset d → IsSeated h w s
place_seats h w s path offset d ok z base path_is place names k =
    let id : (1 ≤ s.id) × (s.id ≤ w.layout.hosts) = subst (λ n. (1 ≤ n) × (n ≤ w.layout.hosts)) names.1 k.id in
    record {
      line = k.line;
      there = k.there;
      path = sym path_is ∙ sym k.path_is;
      offset = same_base w.layout s.offset k.line.offset (delta_offset w.layout s.offset s.id) z base (lockspace_aligned h k.line ok k.there)
          (delta_within w.layout s.offset s.id z id.0 id.1) (subst (λ o. IsTrue (in_area w.layout k.line.offset o)) place k.inside);
      name = sym names.0 ∙ k.name;
      id = id;
    }

one_there : (k : ℕ) → k ≡ 1 → 0 < k
one_there k h = omega (arith, h)

pub home_early : (h : Header) (w : World) (n k : ℕ) → k ≤ n → HomeBefore h w n → HomeBefore h w k
home_early h w n k le home x there early = home x there (omega (arith, early, le))

-- A session that had looked by the entry of this stamp is seated, where the landings before it are at home.
pub look_seated : (p : Program) (h : Header) (xs : List Happening) → IsPromised → LawfulRun p h xs → (m : ℕ) (a : Machine) (d : Daemon) → machine_at (world_at p h xs) m ≡ Some a
    → Contains (daemons_on a) d → (s : Session) (at : ℕ) (made : Stamp) → stamp_in d.stamps at ≡ Some made
    → HomeBefore h (world_at p h xs) made.step → Look d.setting d.trace s at → IsSeated h (world_at p h xs) s
look_seated p h xs b run m a d is has s at made stamped home l =
    let w : World = world_at p h xs in
    let layout : d.setting.layout ≡ w.layout = (b.of_world p h xs run m a d is has).layout in
    let r = read_of b p h xs run m a d is has l.first l.read.inside 1 l.op l.bytes l.read.given in
    let one : sectors_of l.first.call.op ≡ 1 = ap sectors_of l.op in
    let shown = sector_shown b p h xs run m a d is l.first l.bytes r 0 (one_there (sectors_of l.first.call.op) one) in
    let early : r.stamp.step ≤ made.step =
    stamp_order w.step d.stamps r.answered.at at r.stamp made (daemons_are_fine p h xs run m a d is has).stamps r.entry stamped (l.read.answered r.answered r.its) in
    let spelled : delta_in (record_in w.layout l.bytes) ≡ Some l.found = subst (λ g. delta_in (record_in g l.bytes) ≡ Some l.found) layout l.spelled in
    let read : record_in w.layout (sector_of w.layout l.bytes 0) ≡ Ok (DeltaIs l.found) =
    ap (record_in w.layout) (one_sector b p h xs run m a d is l.first l.bytes r one) ∙ delta_in_is (record_in w.layout l.bytes) l.found spelled in
    let k = shown_place p h xs b run l.first.call.path (l.first.call.offset + 0 * w.layout.sector) (sector_of w.layout l.bytes 0) r.stamp.step l.found
    (home_early h w made.step r.stamp.step early home) read shown in
    let z = sized_in p h xs run in
    let base = is_base_aligned w.layout s.offset z (subst (λ (g : Layout). IsTrue (is_base g s.offset)) layout l.base) in
    place_seats h w s l.first.call.path (l.first.call.offset + 0 * w.layout.sector) l.found run.header z base l.own.0
    (no_times_more l.first.call.offset w.layout.sector ∙ l.own.1 ∙ ap (λ (g : Layout). delta_offset g s.offset s.id) layout) l.names k
