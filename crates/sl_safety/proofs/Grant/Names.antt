-- A session's name in ballots, at a front of its trace where it has called for a lease: it has joined by then, and keeps its generation.
use Rattle.sl_safety.proofs.Ballot.ReasonNames.{cut_keeps, generation_stays}
use Rattle.sl_safety.specs.Ballot.Endings.{holder_as}
use Rattle.sl_ballot_law.specs.History.{Owner as Holder}
use Rattle.sl_safety.proofs.Grant.CallsOfWorlds.{IsFront, OfLease, whole_of}
use Rattle.sl_run.proofs.LawFacts.{orderly-front}
use Rattle.sl_run.specs.Lawful.{Orderly}
use Rattle.sl_run.specs.LawfulArea.{is_area_work}
use Rattle.sl_run_law.proofs.Place.TracesOnMachines.{call_law, owner_of}
use Rattle.sl_safety.proofs.Resources.Calls.{IsOwned, found_of, made_of, owner_found, stood, holder_is}
use Rattle.sl_safety.proofs.Resources.OwnBlocks.{lease_is_work}
use Rattle.sl_safety.specs.Resources.SentCalls.{Sent, holder_of, sender_of}
use Rattle.sl_run.specs.Runs.{Happening}
use Rattle.sl_run.specs.Safety.{Found, IsSession, LawfulRun, SessionId, found_generation, setting_in, trace_of, world_at}
use Rattle.sl_run.specs.Worlds.{Program}
use Rattle.sl_run.specs.declared.header.Header.{Header}
use Rattle.sl_run_law.proofs.Sessions.CallsAreMade.{calls_are_made}
use Rattle.sl_run_law.proofs.Sessions.CallOwners.{sessions_stay}
use Rattle.sl_run_law.proofs.Sessions.MarksStay.{joined_more, stays}
use Rattle.sl_run_law.specs.Sessions.SessionLaws.{front_of}
use Rattle.sl_trace.specs.Sessions.{generation_of, joined_after, me, session_numbered}
use Rattle.sl_trace.specs.Traces.{Setting, Submitted, Trace}
use Rattle.sl_trace.specs.declared.effects.Spot.{Spot}
use Rattle.sl_words.proofs.CaseLaws.{one_value}
use Rattle.std.proofs.Common.{ap, subst, sym, ◌∙◌}
use Rattle.std.specs.Prelude.{List, Some, true, ℕ, ◌++◌, ◌∷◌, ◌≡◌}

-- What it is at the front.
pub record StoodAt (p : Program) (h : Header) (xs : List Happening) (i : SessionId) (f : Found) (front : Trace) : Type 0 where
  pub lawful : Orderly (setting_in f) front
  pub known : session_numbered (setting_in f) front f.session.number ≡ Some f.session
  pub entries : ℕ
  pub joined : joined_after front f.session ≡ Some entries
  pub generation : generation_of front f.session ≡ found_generation f
  pub name : holder_as (me front f.session) ≡ holder_of (world_at p h xs) i

-- Its name is that of its id and generation.
pub name_by : (p : Program) (h : Header) (xs : List Happening) (i : SessionId) (f : Found) → IsSession (world_at p h xs) i f → (front : Trace)
    → generation_of front f.session ≡ found_generation f → holder_as (me front f.session) ≡ holder_of (world_at p h xs) i
name_by p h xs i f its front same =
    ap (λ n. let o : Holder = record { id = f.session.id; generation = n } in o) same ∙ sym (holder_is (world_at p h xs) i f its)

pub stood_at : (p : Program) (h : Header) (xs : List Happening) (i : SessionId) (f : Found) (front : Trace) → (k : IsFront p h xs i f front) → (at : Spot) (c : Submitted)
    → OfLease (setting_in f) front f.session at c → StoodAt p h xs i f front
stood_at p h xs i f front k at c o =
    let st : Setting = setting_in f in
    let all = whole_of p h xs k.run i f k.its in
    let whole : Orderly st (k.later ++ front) = subst (λ t. Orderly st t) k.whole all.lawful in
    let lawful : Orderly st front = orderly-front st k.later front whole in
    let its = owner_of st front c lawful o.inside in
    let number : its.0.number ≡ f.session.number = sym its.2 ∙ o.mine in
    let there : session_numbered st front f.session.number ≡ Some its.0 = ap (λ n. session_numbered st front n) (sym number) ∙ its.1 in
    let later : session_numbered st (trace_of f) f.session.number ≡ Some its.0 =
    subst (λ t. session_numbered st t f.session.number ≡ Some its.0) (sym k.whole) (sessions_stay st k.later front f.session.number its.0 there) in
    let same : its.0 ≡ f.session = one_value its.0 f.session (session_numbered st (trace_of f) f.session.number) later all.known in
    let known : session_numbered st front f.session.number ≡ Some f.session = there ∙ ap (λ s. Some s) same in
    let d = calls_are_made front c o.inside in
    let stands = stood st front f.session c d lawful known o.mine (lease_is_work c.call.purpose o.lease) in
    let joined : joined_after front f.session ≡ Some stands.entries =
    subst (λ t. joined_after t f.session ≡ Some stands.entries) (sym d.whole)
    (stays joined_after joined_more d.later (d.entry ∷ d.past) f.session stands.entries stands.joined) in
    let generation : generation_of front f.session ≡ found_generation f =
    sym (generation_stays st k.later front f.session stands.entries whole known joined) ∙ ap (λ t. generation_of t f.session) (sym k.whole) in
    record {
      lawful = lawful;
      known = known;
      entries = stands.entries;
      joined = joined;
      generation = generation;
      name = name_by p h xs i f k.its front generation;
    }

-- ---- at the front of a call that was sent

pub name_of_sent : (p : Program) (h : Header) (xs : List Happening) → LawfulRun p h xs → (x : Sent) → (o : IsOwned (world_at p h xs) x)
    → is_area_work o.trace.submitted_as.call.purpose ≡ true
    → holder_as (me (front_of (made_of o)) o.session) ≡ holder_of (world_at p h xs) (sender_of x)
name_of_sent p h xs run x o area =
    let st : Setting = o.trace.daemon.setting in
    let es : Trace = o.trace.daemon.trace in
    let q : Submitted = o.trace.submitted_as in
    let d = made_of o in
    let law = call_law st es o.session q d o.trace.lawful o.its o.mine in
    let known : session_numbered st (d.entry ∷ d.past) o.session.number ≡ Some o.session =
    ap (λ n. session_numbered st (d.entry ∷ d.past) n) (sym o.mine) ∙ law.1 in
    let stands = stood st es o.session q d o.trace.lawful o.its o.mine area in
    let whole : Orderly st (d.later ++ d.entry ∷ d.past) = subst (λ t. Orderly st t) d.whole o.trace.lawful in
    name_by p h xs (sender_of x) (found_of o) (owner_found (world_at p h xs) x o) (front_of d)
    (sym (cut_keeps st d.entry d.past o.session stands.entries law.0 known stands.joined d.index)
    ∙ sym (generation_stays st d.later (d.entry ∷ d.past) o.session stands.entries whole known stands.joined)
    ∙ ap (λ t. generation_of t o.session) (sym d.whole))
