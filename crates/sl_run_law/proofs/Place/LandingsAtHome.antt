-- Each landing is at home: by induction on its step, since what its writer had read stood there at first or landed before.
use Rattle.sl_area.specs.AreaSizes.{Layout}
use Rattle.sl_area.specs.AreaLayout.{delta_offset, in_area}
use Rattle.sl_run_law.specs.Landing.Landings.{HasWriter, IsWrittenBy}
use Rattle.sl_run.specs.LawfulArea.{HasVerified, LawfulAreaWrite, is_delta_record, record_offset}
use Rattle.sl_run.specs.LawfulLeader.{LawfulLeaderWrite}
use Rattle.sl_trace.specs.Leases.{leader_of_record, leader_written, spot_of_call}
use Rattle.sl_run_law.proofs.Place.Areas.{base_around, lockspace_aligned, never_both, one_lockspace, one_resource, resource_aligned, same_base}
use Rattle.sl_run_law.proofs.Place.VerifiedAreas.{IsLeased, verified_leased}
use Rattle.sl_run_law.proofs.Place.Looks.{IsOwnDelta, delta_is_own}
use Rattle.sl_run_law.proofs.Place.TracesOnMachines.{IsPromised, IsTraced, call_law, owner_of, traced}
use Rattle.sl_run_law.proofs.Place.Seats.{Delta_home, HomeBefore, IsHome, IsSeated, Lease_home, delta_within, given_seated, home_early, look_seated, sized_in}
use Rattle.sl_run_law.proofs.Place.Sizes.{IsSized}
use Rattle.sl_run_law.specs.Place.Homes.{In_lockspace, In_resource, IsAtHome, IsDeltaLanding, IsLeaseLanding, LockspacesHoldDeltas, NothingLandsElsewhere, ResourcesHoldLeases, WrittenBySession}
use Rattle.sl_words.proofs.Lists.{got_inside}
use Rattle.sl_run.specs.Headers.{IsHeader}
use Rattle.sl_run.specs.Runs.{Happening}
use Rattle.sl_run.specs.Safety.{Found, LawfulRun, SessionId, is_course_of, session_of_world, world_at}
use Rattle.sl_run.specs.Worlds.{Daemon, Landing, Machine, Program, World, daemon_numbered, machine_at}
use Rattle.sl_run.specs.declared.header.Header.{Header}
use Rattle.sl_run.specs.declared.header.LockspaceLine.{LockspaceLine}
use Rattle.sl_run.specs.declared.header.ResourceLine.{ResourceLine}
use Rattle.sl_sector.specs.declared.sector.DeltaRec.{DeltaRec}
use Rattle.sl_sector.specs.declared.sector.Leader.{Leader}
use Rattle.sl_sector.specs.declared.sector.Rec.TheVariants.{BlockIs, DeltaIs, LeaderIs, PairIs, PairLeaderIs, RequestIs, ValueIs}
use Rattle.sl_sector.specs.declared.sector.Rec.{Rec}
use Rattle.sl_run_law.proofs.Sessions.CallsAreMade.{calls_are_made}
use Rattle.sl_run_law.specs.Sessions.SessionLaws.{IsMade, IsSession, front_of, made_as}
use Rattle.sl_trace.specs.Sessions.{delta_of_record, delta_written, session_numbered, sessions}
use Rattle.sl_trace.specs.declared.session.Session.{Session}
use Rattle.sl_trace.specs.Traces.{Setting, Submitted, record_of}
use Rattle.sl_trace.specs.declared.effects.Spot.{Spot}
use Rattle.sl_words.proofs.CaseLaws.{none_some}
use Rattle.sl_words.proofs.OrderLaws.{by_smaller}
use Rattle.std.proofs.Common.{ap, arith, inl, inr, refl, subst, sym, ◌∙◌}
use Rattle.std.proofs.lemmas.Bool.{and_from, eq-eqb}
use Rattle.std.specs.Prelude.{Contains, IsTrue, List, None, Option, Some, false, option_and_then, option_map, ℕ, ◌%◌, ◌-◌, ◌<◌, ◌≡◌, ◌≤◌}

-- ---- the writer of a landing

-- A landing's write, in its trace, with its session.
record IsTold (w : World) (x : Landing) : Type 0 where
  machine : ℕ
  call : ℕ
  named : x.writer ≡ Some (machine, call)
  wrote : IsWrittenBy w x machine call
  trace : IsTraced wrote.machine wrote.course
  session : Session
  its : IsSession trace.daemon.setting trace.daemon.trace session
  mine : trace.submitted_as.call.session ≡ session.number

told : (p : Program) (h : Header) (xs : List Happening) → IsPromised → LawfulRun p h xs → (x : Landing) → Contains (world_at p h xs).landings x → IsTold (world_at p h xs) x
told p h xs b run x there =
    let k : HasWriter (world_at p h xs) x = b.written p h xs run x there in
    let t = traced b p h xs run k.machine k.wrote.machine k.wrote.course k.wrote.at k.wrote.has in
    let s = owner_of t.daemon.setting t.daemon.trace t.submitted_as t.lawful t.inside in
    record { machine = k.machine; call = k.call; named = k.named; wrote = k.wrote; trace = t; session = s.0; its = s.1; mine = s.2 }

abbrev found_of : {w : World} {x : Landing} → IsTold w x → Found
found_of {w} {x} t = record { machine = t.wrote.machine; daemon = t.trace.daemon; session = t.session; now = w.moment }

abbrev id_of : {w : World} {x : Landing} → IsTold w x → SessionId
id_of {w} {x} t = record { machine = t.machine; daemon = t.wrote.course.daemon; number = t.session.number }

in_daemon : (w : World) (d : Daemon) (a : Machine) (n : ℕ) (s : Session) → session_numbered d.setting d.trace n ≡ Some s
    → option_map (λ (x : Session). let f : Found = record { machine = a; daemon = d; session = x; now = w.moment } in f) (session_numbered d.setting d.trace n)
    ≡ Some (record { machine = a; daemon = d; session = s; now = w.moment })
in_daemon w d a n s is = ap (option_map (λ (x : Session). let f : Found = record { machine = a; daemon = d; session = x; now = w.moment } in f)) is

in_machine : (w : World) (a : Machine) (number n : ℕ) (d : Daemon) (s : Session) → daemon_numbered a number ≡ Some d → session_numbered d.setting d.trace n ≡ Some s
    → option_and_then (λ (e : Daemon). option_map (λ (x : Session). let f : Found = record { machine = a; daemon = e; session = x; now = w.moment } in f) (session_numbered e.setting e.trace n))
    (daemon_numbered a number) ≡ Some (record { machine = a; daemon = d; session = s; now = w.moment })
in_machine w a number n d s at is =
    ap (option_and_then (λ (e : Daemon). option_map (λ (x : Session). let f : Found = record { machine = a; daemon = e; session = x; now = w.moment } in f) (session_numbered e.setting e.trace n))) at
    ∙ in_daemon w d a n s is

in_world : (w : World) (i : SessionId) (a : Machine) (d : Daemon) (s : Session) → machine_at w i.machine ≡ Some a → daemon_numbered a i.daemon ≡ Some d
    → session_numbered d.setting d.trace i.number ≡ Some s → session_of_world w i ≡ Some (record { machine = a; daemon = d; session = s; now = w.moment })
in_world w i a d s here at is =
    ap (option_and_then (λ (b : Machine). option_and_then (λ (e : Daemon). option_map (λ (x : Session). let f : Found = record { machine = b; daemon = e; session = x; now = w.moment } in f)
    (session_numbered e.setting e.trace i.number)) (daemon_numbered b i.daemon))) here ∙ in_machine w a i.daemon i.number d s at is

course_of : {w : World} {x : Landing} (t : IsTold w x) → IsTrue (is_course_of (id_of t) t.wrote.course)
course_of {w} {x} t =
    and_from _ _ (eq-eqb t.wrote.course.daemon t.wrote.course.daemon refl)
    (eq-eqb t.wrote.course.call.session t.session.number (ap (λ c. c.session) (sym t.trace.is.call) ∙ t.mine))

abbrev written_by : (w : World) (x : Landing) → IsTold w x → WrittenBySession w x
written_by w x t =
    record {
      machine = t.machine;
      call = t.call;
      named = t.named;
      wrote = t.wrote;
      session = id_of t;
      found = found_of t;
      is = (in_world w (id_of t) t.wrote.machine t.trace.daemon t.session t.wrote.at t.trace.numbered t.its, refl, course_of t);
    }

-- The call writes what landed.
writes : (w : World) (x : Landing) (t : IsTold w x) → record_of t.trace.submitted_as.call.op ≡ Some t.wrote.record_written
writes w x t = ap (λ c. record_of c.op) t.trace.is.call ∙ t.wrote.writes

-- .. where it landed.
path_of : (w : World) (x : Landing) (t : IsTold w x) → x.path ≡ t.trace.submitted_as.call.path
path_of w x t = sym t.wrote.place.0 ∙ ap (λ c. c.path) (sym t.trace.is.call)

offset_of : (w : World) (x : Landing) (t : IsTold w x) → x.offset ≡ t.trace.submitted_as.call.offset
offset_of w x t = sym t.wrote.place.1 ∙ ap (λ c. c.offset) (sym t.trace.is.call)

-- The landings before the write was made are at home.
made_home : (h : Header) (w : World) (x : Landing) (t : IsTold w x) → HomeBefore h w x.step → HomeBefore h w t.wrote.course.made.step
made_home h w x t home = let le : t.wrote.course.made.step ≤ x.step = omega (arith, t.wrote.after.0) in home_early h w x.step t.wrote.course.made.step le home

-- ---- a delta record

seated_from : (p : Program) (h : Header) (xs : List Happening) → IsPromised → LawfulRun p h xs → (x : Landing) (t : IsTold (world_at p h xs) x)
    → HomeBefore h (world_at p h xs) x.step → (d : DeltaRec) → IsOwnDelta t.trace.daemon.setting t.trace.daemon.trace t.session t.trace.submitted_as d
    → (o : Option ℕ) → t.session.job ≡ o → IsSeated h (world_at p h xs) t.session
seated_from p h xs b run x t home d own None job =
    given_seated p h xs run t.machine t.wrote.machine t.trace.daemon t.wrote.at t.trace.has t.session
    (got_inside (sessions t.trace.daemon.setting t.trace.daemon.trace) t.session.number t.session t.its) job
seated_from p h xs b run x t home d own (Some j) job =
    let w : World = world_at p h xs in
    let inside = got_inside (sessions t.trace.daemon.setting t.trace.daemon.trace) t.session.number t.session t.its in
    elim own.from as (λ z. IsSeated h w t.session) [
      | inl none ↦ absurd (none_some j (sym none ∙ job))
      | inr look ↦
          look_seated p h xs b run t.machine t.wrote.machine t.trace.daemon t.wrote.at t.trace.has t.session
          t.trace.submitted_as.at t.wrote.course.made t.trace.is.made
          (made_home h w x t home) look
    ]

delta_home : (p : Program) (h : Header) (xs : List Happening) → IsPromised → LawfulRun p h xs → (x : Landing) (t : IsTold (world_at p h xs) x)
    → HomeBefore h (world_at p h xs) x.step → (d : DeltaRec) → t.wrote.record_written ≡ DeltaIs d → IsHome h (world_at p h xs) x
delta_home p h xs b run x t home d is =
    let w : World = world_at p h xs in
    let st : Setting = t.trace.daemon.setting in
    let q : Submitted = t.trace.submitted_as in
    let s : Session = t.session in
    let delta : delta_written q ≡ Some d = ap (option_and_then delta_of_record) (writes w x t) ∙ ap delta_of_record is in
    let own = delta_is_own st t.trace.daemon.trace s q d t.trace.lawful t.its t.trace.inside t.mine delta in
    let seat = seated_from p h xs b run x t home d own s.job refl in
    let layout : st.layout ≡ w.layout = (b.of_world p h xs run t.machine t.wrote.machine t.trace.daemon t.wrote.at t.trace.has).layout in
    let path : x.path ≡ seat.line.path = path_of w x t ∙ own.own.0 ∙ seat.path in
    let id : (1 ≤ d.id) × (d.id ≤ w.layout.hosts) = subst (λ n. (1 ≤ n) × (n ≤ w.layout.hosts)) (sym own.names.1) seat.id in
    let offset : x.offset ≡ delta_offset w.layout seat.line.offset d.id =
    offset_of w x t ∙ own.own.1 ∙ ap (λ (g : Layout). delta_offset g s.offset s.id) layout ∙ ap (λ o. delta_offset w.layout o s.id) seat.offset
    ∙ ap (λ n. delta_offset w.layout seat.line.offset n) (sym own.names.1) in
    Delta_home seat.line seat.there path
    (subst (λ o. IsTrue (in_area w.layout seat.line.offset o)) (sym offset) (delta_within w.layout seat.line.offset d.id (sized_in p h xs run) id.0 id.1))
    (record {
      written = written_by w x t;
      delta = d;
      spells = is;
      names = (own.names.0 ∙ seat.name, offset, id.0, id.1);
      of_session = (seat.name, sym own.names.1, seat.path, seat.offset);
    })

-- ---- another record

abbrev spot_at : List ℕ → ℕ → Spot
spot_at path base = record { path = path; base = base }

placed_by : (st : Setting) (s : Session) (r : Rec) (path path' : List ℕ) (base base' offset offset' : ℕ) → path ≡ path' → base ≡ base' → offset ≡ offset'
    → record_offset st s (spot_at path base) r ≡ Some offset → record_offset st s (spot_at path' base') r ≡ Some offset'
placed_by st s r path path' base base' offset offset' paths bases offsets h =
    subst (λ n. record_offset st s (spot_at path' base') r ≡ Some n) offsets
    (subst (λ n. record_offset st s (spot_at path' n) r ≡ Some offset) bases (subst (λ y. record_offset st s (spot_at y base) r ≡ Some offset) paths h))

-- What was verified for the call.
leased : (p : Program) (h : Header) (xs : List Happening) → IsPromised → LawfulRun p h xs → (x : Landing) (t : IsTold (world_at p h xs) x) (k : IsMade t.trace.daemon.trace t.trace.submitted_as)
    → HomeBefore h (world_at p h xs) x.step → (resource : List ℕ)
    → HasVerified t.trace.daemon.setting (front_of k) t.session (spot_of_call t.trace.daemon.setting.layout (made_as k)) resource
    → IsLeased h (world_at p h xs) t.session t.trace.submitted_as resource
leased p h xs b run x t k home resource verified =
    verified_leased p h xs b run t.machine t.wrote.machine t.trace.daemon t.wrote.at t.trace.has t.trace.lawful t.session t.its t.trace.submitted_as k t.wrote.course.made t.trace.is.made
    (made_home h (world_at p h xs) x t home) resource verified

-- The leader that is written names the resource.
leader_names : (p : Program) (h : Header) (xs : List Happening) → IsPromised → LawfulRun p h xs → (x : Landing) (t : IsTold (world_at p h xs) x) (k : IsMade t.trace.daemon.trace t.trace.submitted_as)
    → HomeBefore h (world_at p h xs) x.step → (resource : List ℕ) → (on : IsLeased h (world_at p h xs) t.session t.trace.submitted_as resource)
    → (l : Leader) → leader_of_record t.wrote.record_written ≡ Some l → (l.lockspace ≡ on.line.lockspace) × (l.resource ≡ on.line.name) × (l.num_hosts ≡ (world_at p h xs).layout.hosts)
leader_names p h xs b run x t k home resource on l is =
    let w : World = world_at p h xs in
    let st : Setting = t.trace.daemon.setting in
    let q : Submitted = t.trace.submitted_as in
    let law = call_law st t.trace.daemon.trace t.session q k t.trace.lawful t.its t.mine in
    let leader : leader_written q ≡ Some l = ap (option_and_then leader_of_record) (writes w x t) ∙ is in
    let write : LawfulLeaderWrite st (front_of k) t.session (spot_of_call st.layout (made_as k)) (made_as k) l = law.0.leader.0.writes k.index q.call t.session k.call law.1 l leader in
    let layout : st.layout ≡ w.layout = (b.of_world p h xs run t.machine t.wrote.machine t.trace.daemon t.wrote.at t.trace.has).layout in
    let also = leased p h xs b run x t k home l.resource write.names.2 in
    let one : also.line ≡ on.line = one_resource h also.line on.line run.header also.there on.there (sym also.path ∙ on.path) (sym also.base ∙ on.base) in
    (write.names.0 ∙ on.lockspace, also.name ∙ ap (λ r. r.name) one, write.names.1 ∙ ap (λ (g : Layout). g.hosts) layout)

lease_home : (p : Program) (h : Header) (xs : List Happening) → IsPromised → LawfulRun p h xs → (x : Landing) (t : IsTold (world_at p h xs) x) → HomeBefore h (world_at p h xs) x.step
    → is_delta_record t.wrote.record_written ≡ false → IsHome h (world_at p h xs) x
lease_home p h xs b run x t home other =
    let w : World = world_at p h xs in
    let st : Setting = t.trace.daemon.setting in
    let q : Submitted = t.trace.submitted_as in
    let s : Session = t.session in
    let k : IsMade t.trace.daemon.trace q = calls_are_made t.trace.daemon.trace q t.trace.inside in
    let law = call_law st t.trace.daemon.trace s q k t.trace.lawful t.its t.mine in
    let write : LawfulAreaWrite st (front_of k) s (made_as k) t.wrote.record_written =
    (law.0.area.0.writes k.index q.call s k.call law.1 t.wrote.record_written (writes w x t) other).1 in
    let on = leased p h xs b run x t k home write.resource write.verified in
    let layout : st.layout ≡ w.layout = (b.of_world p h xs run t.machine t.wrote.machine t.trace.daemon t.wrote.at t.trace.has).layout in
    let path : x.path ≡ on.line.path = path_of w x t ∙ on.path in
    let base : q.call.offset - q.call.offset % st.layout.area ≡ on.line.offset = ap (λ (g : Layout). q.call.offset - q.call.offset % g.area) layout ∙ on.base in
    let inside : IsTrue (in_area w.layout on.line.offset x.offset) =
    subst (λ n. IsTrue (in_area w.layout n x.offset)) on.base
    (subst (λ n. IsTrue (in_area w.layout (q.call.offset - q.call.offset % w.layout.area) n)) (sym (offset_of w x t)) (base_around w.layout q.call.offset (sized_in p h xs run))) in
    Lease_home on.line on.there path inside
    (record {
      written = written_by w x t;
      other = other;
      lockspace = on.lockspace;
      placed = placed_by st s t.wrote.record_written q.call.path on.line.path (q.call.offset - q.call.offset % st.layout.area) on.line.offset q.call.offset x.offset on.path base
          (sym (offset_of w x t)) write.placed;
      names = leader_names p h xs b run x t k home write.resource on;
      pairs = λ pair is. let its = write.named pair is in (its.0 ∙ on.lockspace, its.1 ∙ on.name);
    })

-- ---- each landing

home_by : (p : Program) (h : Header) (xs : List Happening) → IsPromised → LawfulRun p h xs → (x : Landing) (t : IsTold (world_at p h xs) x)
    → HomeBefore h (world_at p h xs) x.step → (r : Rec) → t.wrote.record_written ≡ r → IsHome h (world_at p h xs) x
home_by p h xs b run x t home (DeltaIs d) is = delta_home p h xs b run x t home d is
home_by p h xs b run x t home (LeaderIs l) is = lease_home p h xs b run x t home (ap is_delta_record is)
home_by p h xs b run x t home (BlockIs l) is = lease_home p h xs b run x t home (ap is_delta_record is)
home_by p h xs b run x t home (RequestIs l) is = lease_home p h xs b run x t home (ap is_delta_record is)
home_by p h xs b run x t home (ValueIs l) is = lease_home p h xs b run x t home (ap is_delta_record is)
home_by p h xs b run x t home (PairIs l) is = lease_home p h xs b run x t home (ap is_delta_record is)
home_by p h xs b run x t home (PairLeaderIs l) is = lease_home p h xs b run x t home (ap is_delta_record is)

abbrev HomeAt : Header → World → ℕ → Type 0
HomeAt h w n = (x : Landing) → Contains w.landings x → x.step ≡ n → IsHome h w x

home_step : (p : Program) (h : Header) (xs : List Happening) → IsPromised → LawfulRun p h xs → (n : ℕ)
    → ((k : ℕ) → k < n → HomeAt h (world_at p h xs) k) → HomeAt h (world_at p h xs) n
home_step p h xs b run n before x there is =
    let t = told p h xs b run x there in
    home_by p h xs b run x t (λ y inside early. before y.step (subst (λ k. y.step < k) is early) y inside refl) t.wrote.record_written refl

-- Each landing of a lawful run is at home.
pub at_home : (p : Program) (h : Header) (xs : List Happening) → IsPromised → LawfulRun p h xs → (x : Landing)
    → Contains (world_at p h xs).landings x → IsHome h (world_at p h xs) x
at_home p h xs b run x there = by_smaller (HomeAt h (world_at p h xs)) (home_step p h xs b run) x.step x there refl

-- ---- what it says of areas

of_lockspace : (h : Header) (w : World) → IsHeader h → IsSized h.geometry w.layout → (l : LockspaceLine) → Contains h.lockspaces l → (x : Landing) → x.path ≡ l.path
    → IsTrue (in_area w.layout l.offset x.offset) → IsHome h w x → IsDeltaLanding w l x
of_lockspace h w ok z l there x path inside (Delta_home k here way within landing) =
    let base = same_base w.layout k.offset l.offset x.offset z (lockspace_aligned h k ok here) (lockspace_aligned h l ok there) within inside in
    subst (λ y. IsDeltaLanding w y x) (one_lockspace h k l ok here there (sym way ∙ path) base) landing
of_lockspace h w ok z l there x path inside (Lease_home r here way within landing) =
    let base = same_base w.layout l.offset r.offset x.offset z (lockspace_aligned h l ok there) (resource_aligned h r ok here) inside within in
    absurd (never_both h l r ok there here (sym path ∙ way) base)

-- In a lockspace's area only delta records of its ids land.
pub lockspaces_hold_deltas_given : IsPromised → LockspacesHoldDeltas
lockspaces_hold_deltas_given b p h xs run l there x landed path inside =
    of_lockspace h (world_at p h xs) run.header (sized_in p h xs run) l there x path inside (at_home p h xs b run x landed)

of_resource : (h : Header) (w : World) → IsHeader h → IsSized h.geometry w.layout → (r : ResourceLine) → Contains h.resources r → (x : Landing) → x.path ≡ r.path
    → IsTrue (in_area w.layout r.offset x.offset) → IsHome h w x → IsLeaseLanding w r x
of_resource h w ok z r there x path inside (Delta_home l here way within landing) =
    let base = same_base w.layout l.offset r.offset x.offset z (lockspace_aligned h l ok here) (resource_aligned h r ok there) within inside in
    absurd (never_both h l r ok here there (sym way ∙ path) base)
of_resource h w ok z r there x path inside (Lease_home k here way within landing) =
    let base = same_base w.layout k.offset r.offset x.offset z (resource_aligned h k ok here) (resource_aligned h r ok there) within inside in
    subst (λ y. IsLeaseLanding w y x) (one_resource h k r ok here there (sym way ∙ path) base) landing

-- In a resource's area only its own records land.
pub resources_hold_leases_given : IsPromised → ResourcesHoldLeases
resources_hold_leases_given b p h xs run r there x landed path inside =
    of_resource h (world_at p h xs) run.header (sized_in p h xs run) r there x path inside (at_home p h xs b run x landed)

somewhere : (h : Header) (w : World) (x : Landing) → IsHome h w x → IsAtHome h w x
somewhere h w x (Delta_home l there path inside landing) = In_lockspace l there path inside
somewhere h w x (Lease_home r there path inside landing) = In_resource r there path inside

-- Outside the header's areas nothing lands.
pub nothing_lands_elsewhere_given : IsPromised → NothingLandsElsewhere
nothing_lands_elsewhere_given b p h xs run x landed = somewhere h (world_at p h xs) x (at_home p h xs b run x landed)
