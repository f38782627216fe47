-- Who ends a ballot has written its block, and so has verified the leader of a resource there: the area is a resource's, and the session
-- has joined its lockspace.
use Rattle.sl_area.specs.AreaSizes.{Layout}
use Rattle.sl_safety.proofs.Ballot.BallotsEnd.{EndingRead}
use Rattle.sl_safety.proofs.Ballot.EndedAll.{ends_in}
use Rattle.sl_safety.proofs.GivenReads.BlocksNameHosts.{written_in}
use Rattle.sl_safety.proofs.Resources.TraceCalls.{stands_at}
use Rattle.sl_safety.specs.Ballot.Enders.{EndersAreJoined}
use Rattle.sl_run.specs.LawfulArea.{LawfulAreaWrite}
use Rattle.sl_run_law.proofs.Leases.EndLaws.{ended}
use Rattle.sl_run_law.specs.Leases.Ways.{lease_among}
use Rattle.sl_trace.specs.Leases.{block_of_record, is_on, lease_calls, spot_of_call}
use Rattle.sl_run_law.proofs.Place.LandingsAtHome.{at_home}
use Rattle.sl_run_law.proofs.Place.VerifiedAreas.{IsLeased, verified_leased}
use Rattle.sl_run_law.proofs.Place.PlaceLaws.{promised}
use Rattle.sl_run_law.proofs.Place.TracesOnMachines.{call_law, lawful_daemon, session_inside}
use Rattle.sl_safety.proofs.Resources.BlockOrigins.{is_among}
use Rattle.sl_safety.proofs.Resources.Calls.{IsOwned, made_of, owned}
use Rattle.sl_safety.proofs.Resources.StepsNameCalls.{block_works, numbers_meant, record_sent, worker_joined}
use Rattle.sl_safety.proofs.Resources.OwnBlocks.{session_as, spot_is}
use Rattle.sl_safety.proofs.Resources.CallParts.{parts}
use Rattle.sl_safety.specs.Resources.HistoryLaws.{spot_of_line}
use Rattle.sl_safety.specs.Resources.SentCalls.{Sent, all_sent, is_joined_there, sender_of, writes_block}
use Rattle.sl_run.specs.Runs.{Happening}
use Rattle.sl_run.specs.Safety.{Found, IsSession, LawfulRun, SessionId, setting_in, trace_of, world_at}
use Rattle.sl_run.specs.Worlds.{Program, World}
use Rattle.sl_run.specs.declared.header.Header.{Header}
use Rattle.sl_run.specs.declared.header.ResourceLine.{ResourceLine}
use Rattle.sl_sector.specs.declared.sector.Block.{Block}
use Rattle.sl_run_law.specs.Sessions.SessionLaws.{front_of, made_as}
use Rattle.sl_trace.specs.Sessions.{session_numbered}
use Rattle.sl_trace.specs.declared.session.Session.{Session}
use Rattle.sl_trace.specs.Traces.{Setting, Submitted, Trace, record_of, submitted}
use Rattle.sl_trace.specs.declared.effects.Call.{Call}
use Rattle.sl_trace.specs.declared.effects.Spot.{Spot}
use Rattle.sl_words.proofs.WordLaws.{and_true}
use Rattle.std.proofs.Common.{ap, append_assoc, sym, ◌∙◌}
use Rattle.std.proofs.lemmas.Bool.{eqb-true}
use Rattle.std.specs.Prelude.{Contains, List, Option, Some, is_some, nat_lt, option_and_then, true, ℕ, ◌%◌, ◌++◌, ◌-◌, ◌==◌, ◌^◌, ◌∷◌, ◌≡◌}

-- ---- who writes a block

abbrev spot_with : List ℕ → ℕ → Spot
spot_with path base = record { path = path; base = base }

-- Where a session writes a block a resource is, and it has joined its lockspace.
pub record WritesThere (p : Program) (h : Header) (xs : List Happening) (x : Sent) (at : Spot) : Type 0 where
  pub line : ResourceLine
  pub there : Contains h.resources line
  pub spot : at ≡ spot_of_line line
  pub joined : is_joined_there (world_at p h xs) line.lockspace (sender_of x) ≡ true

pub writes_there : (p : Program) (h : Header) (xs : List Happening) → LawfulRun p h xs → (x : Sent) → Contains (all_sent (world_at p h xs)) x → writes_block x.course ≡ true
    → (at : Spot) → at.base % (world_at p h xs).layout.area ≡ 0 → is_on (world_at p h xs).layout at x.course.call ≡ true → WritesThere p h xs x at
writes_there p h xs run x sent writes at zero on =
    let w : World = world_at p h xs in
    let o : IsOwned w x = owned p h xs run x sent in
    let d = made_of o in
    let q : Submitted = o.trace.submitted_as in
    let st : Setting = o.trace.daemon.setting in
    let b = record_sent x.course writes in
    let law = call_law st o.trace.daemon.trace o.session q d o.trace.lawful o.its o.mine in
    let write : LawfulAreaWrite st (front_of d) o.session (made_as d) b.0 =
    (law.0.area.0.writes d.index q.call o.session d.call law.1 b.0 (ap (λ (c : Call). record_of c.op) o.trace.is.call ∙ b.1) b.2).1 in
    let k : IsLeased h w o.session q write.resource =
    verified_leased p h xs promised run x.machine o.there.machine o.trace.daemon o.there.at o.trace.has o.trace.lawful o.session o.its q d x.course.made o.trace.is.made
    (λ l inside early. at_home p h xs promised run l inside) write.resource write.verified in
    let same : spot_of_call w.layout q ≡ at = spot_is w.layout at q zero (ap (λ (c : Call). is_on w.layout at c) o.trace.is.call ∙ on) in
    let spot : at ≡ spot_of_line k.line = sym same ∙ ap (λ n. spot_with n (q.call.offset - q.call.offset % w.layout.area)) k.path ∙ ap (λ n. spot_with k.line.path n) k.base in
    record {
      line = k.line;
      there = k.there;
      spot = spot;
      joined = worker_joined p h xs k.line x (block_works p h xs run k.line k.there x sent (ap (λ a. is_on w.layout a x.course.call) (sym spot) ∙ on) writes);
    }

-- ---- who ends a ballot

enders : (p : Program) (h : Header) (xs : List Happening) → LawfulRun p h xs → (i : SessionId) (f : Found) → IsSession (world_at p h xs) i f → (at : Spot)
    → at.base % (world_at p h xs).layout.area ≡ 0 → (own : Block) (bs : List (Option Block)) → EndingRead f at own bs
    → (r : ResourceLine) × Contains h.resources r × (at ≡ spot_of_line r) × (is_joined_there (world_at p h xs) r.lockspace i ≡ true)
enders p h xs run i f its at zero own bs k =
    let w : World = world_at p h xs in
    let st : Setting = setting_in f in
    let es : Trace = trace_of f in
    let ses : Session = f.session in
    let inside = session_inside w i f its in
    let meant = numbers_meant w i f its in
    let law = lawful_daemon p h xs run i.machine f.machine f.daemon inside.at inside.has in
    let layout = (promised.of_world p h xs run i.machine f.machine f.daemon inside.at inside.has).layout in
    let m = written_in (lease_among st ses at k.older) own k.block in
    let q : Submitted = m.0 in
    let among = is_among st ses at k.older q m.1 in
    let cut = parts k.older q among.has in
    let whole : submitted es ≡ (k.newer ++ k.read ∷ cut.newer) ++ q ∷ cut.older =
    k.is ∙ ap (λ ms. k.newer ++ k.read ∷ ms) cut.is ∙ sym (append_assoc k.newer (k.read ∷ cut.newer) (q ∷ cut.older)) in
    let known : session_numbered st es q.call.session ≡ Some ses = ap (λ n. session_numbered st es n) (among.session ∙ meant.1) ∙ inside.its in
    let z = stands_at p h xs run i.machine f.machine f.daemon inside.at inside.has law (k.newer ++ k.read ∷ cut.newer) cut.older q whole ses known in
    let sender : sender_of z.sent ≡ i =
    session_as z.sent.machine z.sent.course.daemon z.sent.course.call.session i.machine i.daemon i.number z.machine_is (z.daemon_is ∙ meant.0)
    (ap (λ (c : Call). c.session) (sym z.pair.call) ∙ among.session ∙ meant.1) in
    let on : is_on w.layout at z.sent.course.call ≡ true = ap (λ (c : Call). is_on w.layout at c) (sym z.pair.call) ∙ ap (λ g. is_on g at q.call) (sym layout) ∙ among.on in
    let writes : writes_block z.sent.course ≡ true =
    ap (λ (c : Call). is_some (option_and_then block_of_record (record_of c.op))) (sym z.pair.call) ∙ ap (λ o. is_some o) m.2 in
    let t = writes_there p h xs run z.sent z.has writes at zero on in
    (t.line, t.there, t.spot, ap (λ j. is_joined_there w t.line.lockspace j) (sym sender) ∙ t.joined)

pub enders_are_joined : EndersAreJoined
enders_are_joined p h xs run i f its later front whole at base q has =
    let w : World = world_at p h xs in
    let g : Layout = w.layout in
    let zero : at.base % g.area ≡ 0 = eqb-true (at.base % g.area) 0 (and_true (at.base % g.area == 0) (nat_lt at.base (10 ^ 12)) base).0 in
    let k = ends_in f later front whole at q (ended (setting_in f).layout (lease_calls (setting_in f) front f.session at) q has) in
    enders p h xs run i f its at zero k.own k.blocks k.ending
