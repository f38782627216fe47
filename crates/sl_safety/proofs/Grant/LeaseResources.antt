-- The resource of a session's lease. Who writes a block on an area has verified a leader of its lockspace there: so the area is that of a
-- resource of the header, of the session's lockspace.
use Rattle.sl_area.specs.AreaSizes.{Layout}
use Rattle.sl_area.specs.AreaLayout.{in_area, is_base}
use Rattle.sl_safety.proofs.Grant.CallsOfWorlds.{IsFront, of_lease, told, told_block, told_on, whole_of}
use Rattle.sl_safety.specs.Grant.HistoryGrants.{ResourceAt}
use Rattle.sl_id_safety.proofs.State.TraceBridge.{placed}
use Rattle.sl_trace.specs.Leases.{block_written, is_on, lease_calls}
use Rattle.sl_run_law.proofs.Place.Areas.{base_aligned, base_around, is_base_aligned, same_base}
use Rattle.sl_run_law.proofs.Place.FoundInLists.{same_text}
use Rattle.sl_run_law.proofs.Place.LandingsAtHome.{at_home}
use Rattle.sl_run_law.proofs.Place.VerifiedAreas.{IsLeased, verified_leased}
use Rattle.sl_run_law.proofs.Place.PlaceLaws.{promised}
use Rattle.sl_run_law.proofs.Place.TracesOnMachines.{call_law}
use Rattle.sl_run_law.proofs.Place.Seats.{sized_in}
use Rattle.sl_safety.proofs.Resources.Calls.{made_of, owned}
use Rattle.sl_safety.proofs.Resources.StepsNameCalls.{block_works, record_sent, worker_joined}
use Rattle.sl_safety.specs.Resources.HistoryLaws.{spot_of_line}
use Rattle.sl_safety.specs.Resources.SentCalls.{Sent, all_sent, is_joined_there, writes_block}
use Rattle.sl_run.specs.Runs.{Happening}
use Rattle.sl_run.specs.Safety.{Found, LawfulRun, SessionId, setting_in, world_at}
use Rattle.sl_run.specs.Worlds.{Program, World}
use Rattle.sl_run.specs.declared.header.Header.{Header}
use Rattle.sl_run.specs.declared.header.ResourceLine.{ResourceLine}
use Rattle.sl_sector.specs.declared.sector.Block.{Block}
use Rattle.sl_trace.specs.Traces.{Submitted, Trace, record_of}
use Rattle.sl_trace.specs.declared.effects.Call.{Call}
use Rattle.sl_trace.specs.declared.effects.Spot.{Spot}
use Rattle.sl_words.proofs.WordLaws.{and_true}
use Rattle.std.proofs.Common.{ap, subst, sym, ◌∙◌}
use Rattle.std.specs.Prelude.{Contains, List, Some, bytes_eq, true, ◌%◌, ◌-◌, ◌≡◌}

-- ---- the area of a block

-- A resource whose area has this call.
pub record LeasedTo (p : Program) (h : Header) (xs : List Happening) (x : Sent) : Type 0 where
  pub line : ResourceLine
  pub there : Contains h.resources line
  pub path : x.course.call.path ≡ line.path
  pub base : x.course.call.offset - x.course.call.offset % (world_at p h xs).layout.area ≡ line.offset

pub block_leased : (p : Program) (h : Header) (xs : List Happening) → LawfulRun p h xs → (x : Sent) → Contains (all_sent (world_at p h xs)) x → writes_block x.course ≡ true
    → LeasedTo p h xs x
block_leased p h xs run x sent is =
    let w : World = world_at p h xs in
    let b = record_sent x.course is in
    let o = owned p h xs run x sent in
    let d = made_of o in
    let q : Submitted = o.trace.submitted_as in
    let law = call_law o.trace.daemon.setting o.trace.daemon.trace o.session q d o.trace.lawful o.its o.mine in
    let write = law.0.area.0.writes d.index q.call o.session d.call law.1 b.0 (ap (λ (c : Call). record_of c.op) o.trace.is.call ∙ b.1) b.2 in
    let k : IsLeased h w o.session q write.1.resource =
    verified_leased p h xs promised run x.machine o.there.machine o.trace.daemon o.there.at o.trace.has o.trace.lawful o.session o.its q d x.course.made o.trace.is.made
    (λ l inside early. at_home p h xs promised run l inside) write.1.resource write.1.verified in
    record {
      line = k.line;
      there = k.there;
      path = ap (λ (c : Call). c.path) (sym o.trace.is.call) ∙ k.path;
      base = ap (λ (c : Call). c.offset - c.offset % w.layout.area) (sym o.trace.is.call) ∙ k.base;
    }

-- ---- the area of a lease

-- It is the resource's.
pub area_is : (p : Program) (h : Header) (xs : List Happening) → LawfulRun p h xs → (x : Sent) → (l : LeasedTo p h xs x) → (at : Spot)
    → is_base (world_at p h xs).layout at.base ≡ true → is_on (world_at p h xs).layout at x.course.call ≡ true → at ≡ spot_of_line l.line
area_is p h xs run x l at placed on =
    let w : World = world_at p h xs in
    let z = sized_in p h xs run in
    let both = and_true (bytes_eq x.course.call.path at.path) (in_area w.layout at.base x.course.call.offset) on in
    let path : at.path ≡ l.line.path = sym (same_text x.course.call.path at.path both.0) ∙ l.path in
    let base : at.base ≡ l.line.offset =
    same_base w.layout at.base (x.course.call.offset - x.course.call.offset % w.layout.area) x.course.call.offset z (is_base_aligned w.layout at.base z placed)
    (base_aligned w.layout x.course.call.offset z) both.1 (base_around w.layout x.course.call.offset z)
    ∙ l.base in
    ap (λ q. let s : Spot = record { path = q; base = at.base } in s) path ∙ ap (λ n. let s : Spot = record { path = l.line.path; base = n } in s) base

-- A session that wrote a block on an area, by a call of its lease, has joined for the lockspace of the resource there.
pub resource_at : (p : Program) (h : Header) (xs : List Happening) (i : SessionId) (f : Found) (front : Trace) → IsFront p h xs i f front → (at : Spot)
    → is_base (setting_in f).layout at.base ≡ true → (c : Submitted) → Contains (lease_calls (setting_in f) front f.session at) c → (b : Block) → block_written c ≡ Some b
    → ResourceAt p h xs i at
resource_at p h xs i f front k at placed c has b wrote =
    let w : World = world_at p h xs in
    let all = whole_of p h xs k.run i f k.its in
    let o = of_lease (setting_in f) front f.session at c has in
    let t = told p h xs i f front k c o.inside o.mine in
    let on : is_on w.layout at t.sent.course.call ≡ true = told_on p h xs i f front k c t at o.on in
    let writes : writes_block t.sent.course ≡ true = told_block p h xs i f c t b wrote in
    let l = block_leased p h xs k.run t.sent t.has writes in
    let spot : at ≡ spot_of_line l.line = area_is p h xs k.run t.sent l at (ap (λ (g : Layout). is_base g at.base) (sym all.layout) ∙ placed) on in
    record {
      resource = l.line;
      there = l.there;
      spot = spot;
      joined = subst (λ z. is_joined_there w l.line.lockspace z ≡ true) t.sender
          (worker_joined p h xs l.line t.sent
          (block_works p h xs k.run l.line l.there t.sent t.has (subst (λ z. is_on w.layout z t.sent.course.call ≡ true) spot on) writes));
    }

-- What is said of the area is said of the resource's.
pub at_resource : (p : Program) (h : Header) (xs : List Happening) (i : SessionId) (at : Spot) → (a : ResourceAt p h xs i at) → (P : Spot → Type 0) → P at
    → P (spot_of_line a.resource)
at_resource p h xs i at a P it = subst P a.spot it
