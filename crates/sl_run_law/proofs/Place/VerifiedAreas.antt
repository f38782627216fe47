-- A session that has verified an area is on a resource's: what it read there is that resource's leader.
use Rattle.sl_area.specs.AreaSizes.{Layout, record_in}
use Rattle.sl_area.specs.AreaLayout.{area_sectors, block_sectors, in_area, leader_of, sector_of}
use Rattle.sl_run_law.specs.Course.CallStamps.{stamp_in}
use Rattle.sl_run.specs.Lawful.{Orderly}
use Rattle.sl_run.specs.LawfulArea.{HasVerified, IsLeaderGiven, IsRightRead, is_delta_record, is_leader_read, leaders_read}
use Rattle.sl_run_law.proofs.Place.Areas.{base_aligned, base_around, resource_aligned, same_base}
use Rattle.sl_run_law.proofs.Place.Beginnings.{In_lockspace, In_resource, IsInitial}
use Rattle.sl_run_law.proofs.Place.Blocks.{BlockShown, By_area, By_phase, Told, block_shown, blocks_place, blocks_within, bytes_told}
use Rattle.sl_run_law.proofs.Place.Daemons.{daemons_are_fine, stamp_order}
use Rattle.sl_run_law.proofs.Place.FoundInLists.{given_by, same_text}
use Rattle.sl_run_law.proofs.Place.Looks.{Heard, heard}
use Rattle.sl_run_law.proofs.Place.MadeLeaders.{LeaderFrom, Made_of, Read_there, SpelledIn, leader_from}
use Rattle.sl_run_law.proofs.Place.TracesOnMachines.{IsPromised, IsShown, call_law, read_of, reads_back, sector_shown}
use Rattle.sl_run_law.proofs.Place.ReadsInPlace.{area_place}
use Rattle.sl_run_law.proofs.Place.Seats.{Delta_home, HomeBefore, IsHome, Lease_home, home_early, initial_in, sized_in}
use Rattle.sl_trace.specs.Leases.{blocks_bytes, is_leader_of, is_lease_call, is_on, leader_of_record, lease_calls, spot_of_call}
use Rattle.sl_run_law.proofs.Place.Sizes.{IsSized, sector_fits}
use Rattle.sl_words.proofs.Lists.{kept_inside}
use Rattle.sl_words.proofs.Numbers.{no_times_more}
use Rattle.sl_run.specs.Refusals.{sectors_of}
use Rattle.sl_run.specs.Headers.{IsHeader}
use Rattle.sl_run.specs.Runs.{Happening}
use Rattle.sl_run.specs.Safety.{LawfulRun, world_at}
use Rattle.sl_run.specs.Worlds.{Daemon, Landing, Machine, Program, Stamp, World, daemons_on, machine_at}
use Rattle.sl_run.specs.declared.header.Header.{Header}
use Rattle.sl_run.specs.declared.header.ResourceLine.{ResourceLine}
use Rattle.sl_sector.specs.SectorLayouts.{leader_in, pair_leader_in}
use Rattle.sl_sector.specs.declared.sector.Bad.{Bad}
use Rattle.sl_sector.specs.declared.sector.DeltaRec.{DeltaRec}
use Rattle.sl_sector.specs.declared.sector.Leader.{Leader}
use Rattle.sl_sector.specs.declared.sector.PairBlock.{PairBlock}
use Rattle.sl_sector.specs.declared.sector.Rec.TheVariants.{BlockIs, DeltaIs, LeaderIs, PairIs, PairLeaderIs, RequestIs, ValueIs}
use Rattle.sl_sector.specs.declared.sector.Rec.{Rec}
use Rattle.sl_run_law.proofs.Sessions.CallsAreMade.{calls_are_made}
use Rattle.sl_run_law.specs.Sessions.SessionLaws.{IsMade, IsSession, front_of, made_as}
use Rattle.sl_trace.specs.Sessions.{calls_of}
use Rattle.sl_trace.specs.declared.session.Session.{Session}
use Rattle.sl_trace.specs.Traces.{Setting, Submitted, Trace, gave, submitted}
use Rattle.sl_trace.specs.declared.effects.LeaseStep.TheVariants.{ClearMode, FreeLeader, Phase1Read, Phase1Write, Phase2Read, Phase2Write, ReadAgain, ReadArea, ReadBeforeBlock, ReadBeforeFree, SetMode, TakeLeader}
use Rattle.sl_trace.specs.declared.effects.LeaseStep.{LeaseStep}
use Rattle.sl_trace.specs.declared.effects.Op.TheVariants.{ReadSectors}
use Rattle.sl_trace.specs.declared.effects.Purpose.TheVariants.{Joining, Lease, Leaving, Renewal, RequestRead, RequestWrite, SeeRequest, Survey, ValueRead, ValueWrite}
use Rattle.sl_trace.specs.declared.effects.Purpose.{Purpose}
use Rattle.sl_trace.specs.declared.effects.Spot.{Spot}
use Rattle.sl_trace.specs.declared.effects.Work.{Work}
use Rattle.sl_words.proofs.CaseLaws.{false_is_true, none_some, some_value, true_is_false}
use Rattle.sl_words.proofs.WordLaws.{and_true}
use Rattle.std.proofs.Common.{ap, arith, inl, inr, refl, subst, sym, ◌∙◌}
use Rattle.std.specs.Prelude.{Bool, Contains, Err, IsTrue, List, None, Ok, Option, Result, Some, bytes_eq, false, filter, option_and_then, true, ℕ, ◌%◌, ◌&&◌, ◌*◌, ◌+◌, ◌-◌, ◌<◌, ◌==◌, ◌≡◌, ◌≤◌, ◌⊎◌}

-- ---- a read of a leader

-- A read that begins at the base of its area.
record IsBaseRead (at : Spot) (c : Submitted) : Type 0 where
  offset : c.call.offset ≡ at.base
  count : ℕ
  op : c.call.op ≡ ReadSectors count
  some : 0 < count

two : 0 < 2
two = omega arith

pub and_two : (n : ℕ) → 0 < n + 2
and_two n = omega arith

lease_read : (st : Setting) (at : Spot) (c : Submitted) (work : Work) (step : LeaseStep) → is_leader_read (Lease work step) ≡ true → IsRightRead st at c (Lease work step)
    → IsBaseRead at c
lease_read st at c work (ReadArea name) h law = record { offset = law.0; count = area_sectors st.layout; op = law.1; some = and_two (block_sectors st.layout) }
lease_read st at c work ReadBeforeFree h law = record { offset = law.0; count = area_sectors st.layout; op = law.1; some = and_two (block_sectors st.layout) }
lease_read st at c work ReadBeforeBlock h law = absurd (false_is_true h)
lease_read st at c work (ReadAgain read) h law = absurd (false_is_true h)
lease_read st at c work Phase1Write h law = absurd (false_is_true h)
lease_read st at c work Phase1Read h law = absurd (false_is_true h)
lease_read st at c work Phase2Write h law = absurd (false_is_true h)
lease_read st at c work Phase2Read h law = absurd (false_is_true h)
lease_read st at c work TakeLeader h law = absurd (false_is_true h)
lease_read st at c work SetMode h law = absurd (false_is_true h)
lease_read st at c work FreeLeader h law = absurd (false_is_true h)
lease_read st at c work ClearMode h law = absurd (false_is_true h)

base_read : (st : Setting) (at : Spot) (c : Submitted) (p : Purpose) → is_leader_read p ≡ true → IsRightRead st at c p → IsBaseRead at c
base_read st at c (Joining j step) h law = absurd (false_is_true h)
base_read st at c Renewal h law = absurd (false_is_true h)
base_read st at c Survey h law = absurd (false_is_true h)
base_read st at c (Leaving j) h law = absurd (false_is_true h)
base_read st at c (Lease work step) h law = lease_read st at c work step h law
base_read st at c (RequestRead j) h law = record { offset = law.0; count = 2; op = law.1; some = two }
base_read st at c (RequestWrite j o) h law = absurd (false_is_true h)
base_read st at c SeeRequest h law = absurd (false_is_true h)
base_read st at c (ValueWrite j) h law = absurd (false_is_true h)
base_read st at c (ValueRead j) h law = absurd (false_is_true h)

right_read : (st : Setting) (es : Trace) (s : Session) (q : Submitted) → Orderly st es → IsSession st es s → Contains (submitted es) q → q.call.session ≡ s.number
    → is_leader_read q.call.purpose ≡ true → IsBaseRead (spot_of_call st.layout q) q
right_read st es s q h its there mine reads =
    let d = calls_are_made es q there in
    let law = call_law st es s q d h its mine in
    let right = base_read st (spot_of_call st.layout (made_as d)) (made_as d) q.call.purpose reads (law.0.area.0.reads d.index q.call s d.call law.1) in
    record { offset = right.offset; count = right.count; op = right.op; some = right.some }

-- ---- what it shows

-- What a record names: a lockspace and a resource, as leaders do and blocks of pairs.
record Names : Type 0 where
  lockspace : List ℕ
  resource : List ℕ

abbrev names_of : Rec → Option Names
names_of (LeaderIs l) = Some (record { lockspace = l.lockspace; resource = l.resource })
names_of (PairLeaderIs l) = Some (record { lockspace = l.lockspace; resource = l.resource })
names_of (PairIs p) = Some (record { lockspace = p.lockspace; resource = p.resource })
names_of r = None

abbrev Named : Names → ResourceLine → Type 0
Named n line = (n.lockspace ≡ line.lockspace) × (n.resource ≡ line.name)

-- The resource of a place that shows such a record.
record IsNamedPlace (h : Header) (w : World) (path : List ℕ) (offset : ℕ) (n : Names) : Type 0 where
  line : ResourceLine
  there : Contains h.resources line
  path_is : line.path ≡ path
  inside : IsTrue (in_area w.layout line.offset offset)
  names : Named n line

pub leader_in_is : (r : Result Rec Bad) (l : Leader) → leader_in r ≡ Some l → r ≡ Ok (LeaderIs l)
leader_in_is (Ok (DeltaIs e)) l h = absurd (none_some l h)
leader_in_is (Ok (LeaderIs e)) l h = ap (λ x. Ok (LeaderIs x)) (some_value e l h)
leader_in_is (Ok (BlockIs e)) l h = absurd (none_some l h)
leader_in_is (Ok (RequestIs e)) l h = absurd (none_some l h)
leader_in_is (Ok (ValueIs e)) l h = absurd (none_some l h)
leader_in_is (Ok (PairIs e)) l h = absurd (none_some l h)
leader_in_is (Ok (PairLeaderIs e)) l h = absurd (none_some l h)
leader_in_is (Err bad) l h = absurd (none_some l h)

pub pair_leader_in_is : (r : Result Rec Bad) (l : Leader) → pair_leader_in r ≡ Some l → r ≡ Ok (PairLeaderIs l)
pair_leader_in_is (Ok (DeltaIs e)) l h = absurd (none_some l h)
pair_leader_in_is (Ok (LeaderIs e)) l h = absurd (none_some l h)
pair_leader_in_is (Ok (BlockIs e)) l h = absurd (none_some l h)
pair_leader_in_is (Ok (RequestIs e)) l h = absurd (none_some l h)
pair_leader_in_is (Ok (ValueIs e)) l h = absurd (none_some l h)
pair_leader_in_is (Ok (PairIs e)) l h = absurd (none_some l h)
pair_leader_in_is (Ok (PairLeaderIs e)) l h = ap (λ x. Ok (PairLeaderIs x)) (some_value e l h)
pair_leader_in_is (Err bad) l h = absurd (none_some l h)

abbrev leader_names : Leader → Names
leader_names l = record { lockspace = l.lockspace; resource = l.resource }

-- A record with these names, that was read.
record Spelled (r : Result Rec Bad) (n : Names) : Type 0 where
  found : Rec
  is : r ≡ Ok found
  names : names_of found ≡ Some n

spelled_by : (b : Bool) (r : Result Rec Bad) (l : Leader) → elim b as (λ z. Option Leader) [ false ↦ leader_in r | true ↦ pair_leader_in r ] ≡ Some l → Spelled r (leader_names l)
spelled_by false r l h = record { found = LeaderIs l; is = leader_in_is r l h; names = refl }
spelled_by true r l h = record { found = PairLeaderIs l; is = pair_leader_in_is r l h; names = refl }

leader_spells : (g : Layout) (bytes : List ℕ) (l : Leader) → leader_of g bytes ≡ Some l → Spelled (record_in g (sector_of g bytes 0)) (leader_names l)
leader_spells g bytes l h = spelled_by g.paired (record_in g (sector_of g bytes 0)) l h

no_delta_names : (r : Rec) (n : Names) → names_of r ≡ Some n → is_delta_record r ≡ false
no_delta_names (DeltaIs d) n h = absurd (none_some n h)
no_delta_names (LeaderIs l) n h = refl
no_delta_names (BlockIs b) n h = refl
no_delta_names (RequestIs b) n h = refl
no_delta_names (ValueIs b) n h = refl
no_delta_names (PairIs p) n h = refl
no_delta_names (PairLeaderIs l) n h = refl

-- A record whose leader, or pair, names a resource, has these names.
by_leader : (line : ResourceLine) (l : Leader) (n : Names) → Some (leader_names l) ≡ Some n → (l.lockspace ≡ line.lockspace) × (l.resource ≡ line.name) → Named n line
by_leader line l n h names = subst (λ (z : Names). Named z line) (some_value (leader_names l) n h) names

named_by : (r : Rec) (line : ResourceLine) (n : Names) → names_of r ≡ Some n
    → ((l : Leader) → leader_of_record r ≡ Some l → (l.lockspace ≡ line.lockspace) × (l.resource ≡ line.name))
    → ((p : PairBlock) → r ≡ PairIs p → (p.lockspace ≡ line.lockspace) × (p.resource ≡ line.name)) → Named n line
named_by (DeltaIs d) line n h leader pair = absurd (none_some n h)
named_by (LeaderIs l) line n h leader pair = by_leader line l n h (leader l refl)
named_by (BlockIs b) line n h leader pair = absurd (none_some n h)
named_by (RequestIs b) line n h leader pair = absurd (none_some n h)
named_by (ValueIs b) line n h leader pair = absurd (none_some n h)
named_by (PairLeaderIs l) line n h leader pair = by_leader line l n h (leader l refl)
named_by (PairIs p) line n h leader pair =
    subst (λ (z : Names). Named z line) (some_value (let x : Names = record { lockspace = p.lockspace; resource = p.resource } in x) n h) (pair p refl)

not_delta : (r : Rec) (d : DeltaRec) (n : Names) → r ≡ DeltaIs d → names_of r ≡ Some n → ⊥
not_delta r d n is h = true_is_false (sym (ap is_delta_record is) ∙ no_delta_names r n h)

at_home : (p : Program) (h : Header) (xs : List Happening) → IsPromised → LawfulRun p h xs → (x : Landing) (n : Names) → Spelled (record_in (world_at p h xs).layout x.bytes) n
    → IsHome h (world_at p h xs) x → IsNamedPlace h (world_at p h xs) x.path x.offset n
at_home p h xs b run x n read (Delta_home line there path inside landing) =
    let w : World = world_at p h xs in
    let k = landing.written in
    absurd (not_delta read.found landing.delta n
    (sym (reads_back b p h xs run (sector_fits w.layout (sized_in p h xs run)) x k.machine k.call k.wrote read.found read.is) ∙ landing.spells) read.names)
at_home p h xs b run x n read (Lease_home r there path inside landing) =
    let w : World = world_at p h xs in
    let k = landing.written in
    let same : k.wrote.record_written ≡ read.found =
    reads_back b p h xs run (sector_fits w.layout (sized_in p h xs run)) x k.machine k.call k.wrote read.found read.is in
    record {
      line = r;
      there = there;
      path_is = sym path;
      inside = inside;
      names = named_by k.wrote.record_written r n (ap names_of same ∙ read.names) (λ l is. let its = landing.names l is in (its.0, its.1)) landing.pairs;
    }

at_first : (h : Header) (w : World) (path : List ℕ) (offset : ℕ) (r : Rec) (n : Names) → names_of r ≡ Some n → IsInitial w.layout h path offset r → IsNamedPlace h w path offset n
at_first h w path offset r n names (In_lockspace line d there path_is inside few is its) = absurd (not_delta r d n is names)
at_first h w path offset r n names (In_resource line there path_is inside its) =
    record {
      line = line;
      there = there;
      path_is = path_is;
      inside = inside;
      names = named_by r line n names (λ l is. let fresh = its.leader l is in (ap (λ x. x.lockspace) fresh, ap (λ x. x.resource) fresh)) its.pair;
    }

shown_names : (p : Program) (h : Header) (xs : List Happening) → IsPromised → LawfulRun p h xs → (path : List ℕ) (offset : ℕ) (bytes : List ℕ) (n : ℕ) (names : Names)
    → HomeBefore h (world_at p h xs) n → Spelled (record_in (world_at p h xs).layout bytes) names → IsShown (world_at p h xs) path offset bytes n
    → IsNamedPlace h (world_at p h xs) path offset names
shown_names p h xs b run path offset bytes n names home read s =
    let w : World = world_at p h xs in
    let its : Spelled (record_in w.layout s.landing.bytes) names = subst (λ bs. Spelled (record_in w.layout bs) names) s.shows read in
    elim s.from as (λ z. IsNamedPlace h w path offset names) [
      | inl landed ↦
          subst (λ y. IsNamedPlace h w y offset names) s.place.0
          (subst (λ o. IsNamedPlace h w s.landing.path o names) s.place.1 (at_home p h xs b run s.landing names its (home s.landing landed s.early)))
      | inr first ↦
          at_first h w path offset its.found names its.names
          (initial_in p h xs run path offset its.found (subst (λ (y : Landing). record_in w.layout y.bytes ≡ Ok its.found) first its.is))
    ]

-- ---- a session that has verified

-- The area of a call is a resource's, of the session's lockspace and of this name.
pub record IsLeased (h : Header) (w : World) (s : Session) (call : Submitted) (resource : List ℕ) : Type 0 where
  pub line : ResourceLine
  pub there : Contains h.resources line
  pub path : call.call.path ≡ line.path
  pub base : call.call.offset - call.call.offset % w.layout.area ≡ line.offset
  pub lockspace : s.lockspace ≡ line.lockspace
  pub name : resource ≡ line.name

-- The leader that was read.
record IsLeaderRead (st : Setting) (es : Trace) (s : Session) (at : Spot) (l : Leader) : Type 0 where
  call : Submitted
  there : Contains (calls_of es s) call
  reads : is_leader_read call.call.purpose ≡ true
  on : IsTrue (is_on st.layout at call.call)
  bytes : List ℕ
  given : gave call ≡ Some bytes
  spelled : leader_of st.layout bytes ≡ Some l

bytes_of : (g : Layout) (o : Option (List ℕ)) (l : Leader) → option_and_then (leader_of g) o ≡ Some l → (bytes : List ℕ) × (o ≡ Some bytes) × (leader_of g bytes ≡ Some l)
bytes_of g None l h = absurd (none_some l h)
bytes_of g (Some bytes) l h = (bytes, refl, h)

leader_read : (st : Setting) (es : Trace) (s : Session) (at : Spot) (l : Leader)
    → Contains (leaders_read st es s at) l → IsLeaderRead st es s at l
leader_read st es s at l there =
    let f = given_by (λ (c : Submitted). option_and_then (leader_of st.layout) (gave c))
    (filter (λ (c : Submitted). is_leader_read c.call.purpose && is_on st.layout at c.call) (calls_of es s)) l there in
    let inside = kept_inside (λ (c : Submitted). is_leader_read c.call.purpose && is_on st.layout at c.call) (calls_of es s) f.0 f.1 in
    let both = and_true (is_leader_read f.0.call.purpose) (is_on st.layout at f.0.call) inside.1 in
    let bytes = bytes_of st.layout (gave f.0) l f.2 in
    record { call = f.0; there = inside.0; reads = both.0; on = both.1; bytes = bytes.0; given = bytes.1; spelled = bytes.2 }

-- The bytes of an answer that gave blocks.
bytes_given : (g : Layout) (m : Submitted) (bs : List ℕ) → Told g m bs → (bytes : List ℕ) × (gave m ≡ Some bytes)
bytes_given g m bs (By_area bytes told is part) = (bytes, told)
bytes_given g m bs (By_phase told alone is) = (bs, told)

reads_some : (n k : ℕ) → k ≡ n → 0 < n → 0 < k
reads_some n k e h = omega (arith, e, h)

record AreNamed (s : Session) (resource : List ℕ) (n : Names) : Type 0 where
  lockspace : n.lockspace ≡ s.lockspace
  resource_is : n.resource ≡ resource

named : (g : Layout) (s : Session) (resource : List ℕ) (l : Leader) → is_leader_of g s.lockspace resource l ≡ true → AreNamed s resource (leader_names l)
named g s resource l h =
    let first = and_true (bytes_eq l.lockspace s.lockspace && bytes_eq l.resource resource) (l.num_hosts == g.hosts) h in
    let one = and_true (bytes_eq l.lockspace s.lockspace) (bytes_eq l.resource resource) first.0 in
    record { lockspace = same_text l.lockspace s.lockspace one.0; resource_is = same_text l.resource resource one.1 }

-- The area of a call is that of a place that shows these names.
leased_by : (h : Header) (w : World) (s : Session) (q rd : Submitted) (resource : List ℕ) (offset : ℕ) (n : Names) → IsHeader h → IsSized h.geometry w.layout
    → IsNamedPlace h w rd.call.path offset n → rd.call.path ≡ q.call.path → IsTrue (in_area w.layout (q.call.offset - q.call.offset % w.layout.area) offset)
    → AreNamed s resource n → IsLeased h w s q resource
leased_by h w s q rd resource offset n ok z place path on names =
    record {
      line = place.line;
      there = place.there;
      path = sym path ∙ sym place.path_is;
      base = same_base w.layout (q.call.offset - q.call.offset % w.layout.area) place.line.offset offset z (base_aligned w.layout q.call.offset z)
          (resource_aligned h place.line ok place.there) on place.inside;
      lockspace = sym names.lockspace ∙ place.names.0;
      name = sym names.resource_is ∙ place.names.1;
    }

-- A daemon's session with a call, before whose making the landings are at home.
record IsVerifier (p : Program) (h : Header) (xs : List Happening) (m : ℕ) (a : Machine) (d : Daemon) (s : Session) (q : Submitted) : Type 0 where
  promised : IsPromised
  run : LawfulRun p h xs
  at : machine_at (world_at p h xs) m ≡ Some a
  has : Contains (daemons_on a) d
  law : Orderly d.setting d.trace
  its : IsSession d.setting d.trace s
  made : IsMade d.trace q
  stamp : Stamp
  stamped : stamp_in d.stamps q.at ≡ Some stamp
  home : HomeBefore h (world_at p h xs) stamp.step

-- Where a call of the session was on its area, by the test of the daemon.
on_area : (g w : Layout) (rd q : Submitted) → g ≡ w → IsTrue (is_on g (spot_of_call g q) rd.call)
    → (rd.call.path ≡ q.call.path) × IsTrue (in_area w (q.call.offset - q.call.offset % w.area) rd.call.offset)
on_area g w rd q layout h =
    let on = and_true (bytes_eq rd.call.path q.call.path) (in_area g (q.call.offset - q.call.offset % g.area) rd.call.offset) h in (
      same_text rd.call.path q.call.path on.0,
      subst (λ (x : Layout). IsTrue (in_area x (q.call.offset - q.call.offset % x.area) rd.call.offset)) layout on.1,
    )

-- A leader's sector that was read, in a read that begins there.
by_read : (p : Program) (h : Header) (xs : List Happening) (m : ℕ) (a : Machine) (d : Daemon) (s : Session) (q : Submitted) (v : IsVerifier p h xs m a d s q) (resource : List ℕ) (l : Leader)
    → (rd : Submitted) (bytes : List ℕ) → Heard d.trace s q.at bytes rd → IsBaseRead (spot_of_call d.setting.layout rd) rd → gave rd ≡ Some bytes
    → IsTrue (is_on d.setting.layout (spot_of_call d.setting.layout q) rd.call) → leader_of d.setting.layout bytes ≡ Some l
    → AreNamed s resource (leader_names l) → IsLeased h (world_at p h xs) s q resource
by_read p h xs m a d s q v resource l rd bytes told right given is_there spelled names =
    let w : World = world_at p h xs in
    let b = v.promised in
    let layout : d.setting.layout ≡ w.layout = (b.of_world p h xs v.run m a d v.at v.has).layout in
    let z : IsSized h.geometry w.layout = sized_in p h xs v.run in
    let r = read_of b p h xs v.run m a d v.at v.has rd told.inside right.count right.op bytes given in
    let count : 0 < sectors_of rd.call.op = reads_some right.count (sectors_of rd.call.op) (ap sectors_of right.op) right.some in
    let shown = sector_shown b p h xs v.run m a d v.at rd bytes r 0 count in
    let early : r.stamp.step ≤ v.stamp.step =
    stamp_order w.step d.stamps r.answered.at q.at r.stamp v.stamp (daemons_are_fine p h xs v.run m a d v.at v.has).stamps r.entry v.stamped (told.answered r.answered r.its) in
    let its : Spelled (record_in w.layout (sector_of w.layout bytes 0)) (leader_names l) =
    leader_spells w.layout bytes l (subst (λ g. leader_of g bytes ≡ Some l) layout spelled) in
    let place = shown_names p h xs b v.run rd.call.path (rd.call.offset + 0 * w.layout.sector) (sector_of w.layout bytes 0) r.stamp.step (leader_names l)
    (home_early h w v.stamp.step r.stamp.step early v.home) its shown in
    let on = on_area d.setting.layout w.layout rd q layout is_there in
    leased_by h w s q rd resource (rd.call.offset + 0 * w.layout.sector) (leader_names l) v.run.header z place on.0
    (subst (λ o. IsTrue (in_area w.layout (q.call.offset - q.call.offset % w.layout.area) o)) (sym (no_times_more rd.call.offset w.layout.sector)) on.1) names

-- A sector of the blocks that was read, in an area whose base is that of the call.
by_block : (p : Program) (h : Header) (xs : List Happening) (m : ℕ) (a : Machine) (d : Daemon) (s : Session) (q : Submitted) (v : IsVerifier p h xs m a d s q) (resource : List ℕ)
    (rd : Submitted) (bytes bs : List ℕ) → Heard d.trace s q.at bytes rd → gave rd ≡ Some bytes → IsTrue (is_on d.setting.layout (spot_of_call d.setting.layout q) rd.call)
    → blocks_bytes (world_at p h xs).layout rd ≡ Some bs → (pair : PairBlock) → SpelledIn (world_at p h xs).layout bs pair
    → AreNamed s resource (record { lockspace = pair.lockspace; resource = pair.resource }) → IsLeased h (world_at p h xs) s q resource
by_block p h xs m a d s q v resource rd bytes bs told given is_there blocks pair its names =
    let w : World = world_at p h xs in
    let b = v.promised in
    let n : Names = record { lockspace = pair.lockspace; resource = pair.resource } in
    let layout : d.setting.layout ≡ w.layout = (b.of_world p h xs v.run m a d v.at v.has).layout in
    let z : IsSized h.geometry w.layout = sized_in p h xs v.run in
    let base : ℕ = (spot_of_call w.layout rd).base in
    let k : BlockShown w a d rd bs its.sector =
    block_shown p h xs b v.run m a d v.at v.has v.law s v.its rd told.inside told.mine bs blocks its.sector its.below in
    let early : k.read.stamp.step ≤ v.stamp.step =
    stamp_order w.step d.stamps k.read.answered.at q.at k.read.stamp v.stamp (daemons_are_fine p h xs v.run m a d v.at v.has).stamps k.read.entry v.stamped
    (told.answered k.read.answered k.read.its) in
    let spelled : Spelled (record_in w.layout (sector_of w.layout bs its.sector)) n = record { found = PairIs pair; is = its.spells; names = refl } in
    let place = shown_names p h xs b v.run rd.call.path (blocks_place w.layout base its.sector) (sector_of w.layout bs its.sector) k.read.stamp.step n
    (home_early h w v.stamp.step k.read.stamp.step early v.home) spelled k.shown in
    let on = on_area d.setting.layout w.layout rd q layout is_there in
    let same : base ≡ q.call.offset - q.call.offset % w.layout.area =
    same_base w.layout base (q.call.offset - q.call.offset % w.layout.area) rd.call.offset z (base_aligned w.layout rd.call.offset z) (base_aligned w.layout q.call.offset z)
    (base_around w.layout rd.call.offset z) on.1 in
    leased_by h w s q rd resource (blocks_place w.layout base its.sector) n v.run.header z place on.0
    (subst (λ o. IsTrue (in_area w.layout o (blocks_place w.layout base its.sector))) same (blocks_within w.layout base its.sector z its.below)) names

-- A call of the lease, before the call was made.
record IsLeaseCall (st : Setting) (es : Trace) (s : Session) (at : Spot) (m : Submitted) : Type 0 where
  there : Contains (calls_of es s) m
  on : IsTrue (is_on st.layout at m.call)

lease_call : (st : Setting) (es : Trace) (s : Session) (at : Spot) (m : Submitted) → Contains (lease_calls st es s at) m → IsLeaseCall st es s at m
lease_call st es s at m there =
    let inside = kept_inside (λ (c : Submitted). is_lease_call c && is_on st.layout at c.call) (calls_of es s) m there in
    record { there = inside.0; on = (and_true (is_lease_call m) (is_on st.layout at m.call) inside.1).1 }

by_given : (p : Program) (h : Header) (xs : List Happening) (m : ℕ) (a : Machine) (d : Daemon) (s : Session) (q : Submitted) (v : IsVerifier p h xs m a d s q) (resource : List ℕ) (l : Leader)
    → LeaderFrom d.setting.layout (lease_calls d.setting (front_of v.made) s (spot_of_call d.setting.layout q)) l
    → AreNamed s resource (leader_names l) → IsLeased h (world_at p h xs) s q resource
by_given p h xs m a d s q v resource l (Read_there rd there area bytes given spelled) names =
    let c = lease_call d.setting (front_of v.made) s (spot_of_call d.setting.layout q) rd there in
    let told : Heard d.trace s q.at bytes rd = heard d.trace s q v.made bytes rd c.there given in
    let right = area_place d.setting d.trace s rd v.law v.its told.inside told.mine area in
    by_read p h xs m a d s q v resource l rd bytes told
    (record { offset = right.0; count = area_sectors d.setting.layout; op = right.1; some = and_two (block_sectors d.setting.layout) }) given c.on spelled names
by_given p h xs m a d s q v resource l (Made_of rd there bs blocks pair spelled same) names =
    let w : World = world_at p h xs in
    let layout : d.setting.layout ≡ w.layout = (v.promised.of_world p h xs v.run m a d v.at v.has).layout in
    let c = lease_call d.setting (front_of v.made) s (spot_of_call d.setting.layout q) rd there in
    let bytes = bytes_given d.setting.layout rd bs (bytes_told d.setting.layout rd bs blocks) in
    let told : Heard d.trace s q.at bytes.0 rd = heard d.trace s q v.made bytes.0 rd c.there bytes.1 in
    by_block p h xs m a d s q v resource rd bytes.0 bs told bytes.1 c.on (ap (λ g. blocks_bytes g rd) (sym layout) ∙ blocks) pair
    (subst (λ g. SpelledIn g bs pair) layout spelled)
    (record { lockspace = sym same.0 ∙ names.lockspace; resource_is = sym same.1 ∙ names.resource_is })

verified_by : (p : Program) (h : Header) (xs : List Happening) (m : ℕ) (a : Machine) (d : Daemon) (s : Session) (q : Submitted) (v : IsVerifier p h xs m a d s q) (resource : List ℕ) (l : Leader)
    → Contains (leaders_read d.setting (front_of v.made) s (spot_of_call d.setting.layout q)) l ⊎ IsLeaderGiven d.setting (front_of v.made) s (spot_of_call d.setting.layout q) l
    → AreNamed s resource (leader_names l) → IsLeased h (world_at p h xs) s q resource
verified_by p h xs m a d s q v resource l (inl there) names =
    let rd = leader_read d.setting (front_of v.made) s (spot_of_call d.setting.layout q) l there in
    let told : Heard d.trace s q.at rd.bytes rd.call = heard d.trace s q v.made rd.bytes rd.call rd.there rd.given in
    by_read p h xs m a d s q v resource l rd.call rd.bytes told (right_read d.setting d.trace s rd.call v.law v.its told.inside told.mine rd.reads) rd.given rd.on rd.spelled names
verified_by p h xs m a d s q v resource l (inr given) names =
    by_given p h xs m a d s q v resource l
    (leader_from d.setting.layout given.0 (lease_calls d.setting (front_of v.made) s (spot_of_call d.setting.layout q)) l given.1) names

-- A session that had verified the area of its call, where the landings before the call are at home.
pub verified_leased : (p : Program) (h : Header) (xs : List Happening) → IsPromised → LawfulRun p h xs → (m : ℕ) (a : Machine) (d : Daemon) → machine_at (world_at p h xs) m ≡ Some a
    → Contains (daemons_on a) d → Orderly d.setting d.trace → (s : Session) → IsSession d.setting d.trace s → (q : Submitted) (k : IsMade d.trace q) (made : Stamp)
    → stamp_in d.stamps q.at ≡ Some made → HomeBefore h (world_at p h xs) made.step → (resource : List ℕ)
    → HasVerified d.setting (front_of k) s (spot_of_call d.setting.layout (made_as k)) resource → IsLeased h (world_at p h xs) s q resource
verified_leased p h xs b run m a d is has law s its q k made stamped home resource verified =
    let v : IsVerifier p h xs m a d s q =
    record { promised = b; run = run; at = is; has = has; law = law; its = its; made = k; stamp = made; stamped = stamped; home = home } in
    verified_by p h xs m a d s q v resource verified.0 verified.1 (named d.setting.layout s resource verified.0 verified.2)
