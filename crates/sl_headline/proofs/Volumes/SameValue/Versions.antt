-- The version of a value tells its write: an instance has one exclusive holder, and of a session's writes under it each has a greater seq.
use Rattle.sl_ballot_law.proofs.AgreementLaws.{one_winner}
use Rattle.sl_ballot_law.specs.Ballots.{BallotEnded}
use Rattle.sl_safety.proofs.Resources.Calls.{Newer, Older, Order, Same, found_of, order, owned, owner_found, there_sent}
use Rattle.sl_safety.proofs.Sessions.NamesAreApart.{names_are_apart}
use Rattle.sl_safety.specs.Resources.HistoryLaws.{history_of_line, spot_of_line}
use Rattle.sl_safety.specs.Resources.SentCalls.{Sent, holder_of, is_joined_there, sender_of}
use Rattle.sl_trace.specs.Leases.{holdings_on, is_on, value_of_record}
use Rattle.sl_words.proofs.Lists.{find_inside}
use Rattle.sl_run.specs.Runs.{Happening}
use Rattle.sl_run.specs.Safety.{Found, IsSession, LawfulRun, SessionId, session_of_world, setting_in, trace_of, world_at}
use Rattle.sl_run.specs.Values.{IsSet}
use Rattle.sl_run.specs.Worlds.{Course, Program, World}
use Rattle.sl_run.specs.declared.header.Header.{Header}
use Rattle.sl_run.specs.declared.header.ResourceLine.{ResourceLine}
use Rattle.sl_run_law.proofs.Course.CallsAreDistinct.{each_distinct}
use Rattle.sl_run_law.proofs.Course.EntriesAreStamped.{entries_are_stamped}
use Rattle.sl_run_law.proofs.Landing.CallLists.{one_call}
use Rattle.sl_run_law.proofs.Place.Areas.{one_resource}
use Rattle.sl_run_law.proofs.Place.FoundInLists.{place_is}
use Rattle.sl_run_law.specs.Course.CallStamps.{IsStampOf, Pairwise}
use Rattle.sl_safety.proofs.Grant.GrantLaws.{exclusive_grants_are}
use Rattle.sl_safety.proofs.HistoriesAreLawful.{are_lawful}
use Rattle.sl_safety.proofs.Value.EntryStamps.{stamp_at}
use Rattle.sl_safety.proofs.Value.WritersHold.{ValueHeld, area_of, holding_of, value_held, was_granted}
use Rattle.sl_safety.proofs.Value.OneValueWrite.{meant_by, one_area}
use Rattle.sl_safety.proofs.Value.OwnCalls.{OwnCall, own_call}
use Rattle.sl_safety.proofs.Value.ReaderCalls.{is_own}
use Rattle.sl_safety.proofs.Value.CallsTakeTurns.{on_own}
use Rattle.sl_sector.specs.declared.sector.Rec.TheVariants.{ValueIs}
use Rattle.sl_sector.specs.declared.sector.ValueRec.{ValueRec}
use Rattle.sl_trace.specs.Traces.{Submitted, is_shared, record_of, submitted}
use Rattle.sl_trace.specs.declared.effects.Call.{Call}
use Rattle.sl_trace.specs.declared.effects.Grant.{Grant}
use Rattle.sl_trace.specs.declared.effects.Spot.{Spot}
use Rattle.sl_run_law.specs.Sessions.SessionLaws.{front_of}
use Rattle.sl_headline.proofs.Volumes.SameValue.Seqs.{WritesHere, newer_is_greater}
use Rattle.sl_words.proofs.CaseLaws.{false_is_true, one_value}
use Rattle.std.proofs.Common.{ap, arith, refl, subst, sym, ◌∙◌}
use Rattle.std.proofs.lemmas.Bool.{eq-eqb}
use Rattle.std.specs.Prelude.{Bool, Contains, IsTrue, Some, List, false, not, option_and_then, true, ℕ, ◌+◌, ◌<◌, ◌≡◌}

-- ---- a write and what it was made under

not_true : (b : Bool) → not b ≡ true → b ≡ false
not_true true h = absurd (false_is_true h)
not_true false h = refl

-- The session of a write won the instance that the version tells.
record Under (p : Program) (h : Header) (xs : List Happening) (i : SessionId) (at : Spot) (v : ValueRec) : Type 0 where
  resource : ResourceLine
  there : Contains h.resources resource
  spot : at ≡ spot_of_line resource
  joined : IsTrue (is_joined_there (world_at p h xs) resource.lockspace i)
  step : ℕ
  won : BallotEnded (history_of_line p h xs resource) (holder_of (world_at p h xs) i) v.lver (holder_of (world_at p h xs) i) step

under : (p : Program) (h : Header) (xs : List Happening) (i : SessionId) (f : Found) (c : Course) (o : OwnCall p h xs i f c) (v : ValueRec) → record_of c.call.op ≡ Some (ValueIs v)
    → Under p h xs i (area_of o) v
under p h xs i f c o v writes =
    let w : World = world_at p h xs in
    let d = o.made in
    let says : record_of o.call.call.op ≡ Some (ValueIs v) = ap (λ (x : Call). record_of x.op) o.is.call ∙ writes in
    let law = o.lawful.values.0.writes d.index o.call.call f.session d.call o.its v (ap (λ r. option_and_then value_of_record r) says) in
    let found = find_inside (λ (g : Grant). not (is_shared g.mode)) (holdings_on (front_of d) f.session (area_of o)) law.holding law.held in
    let known = value_held p h xs i f c o v writes in
    let held : ValueHeld p h xs i f c o =
    record { grant = law.holding; held = found.0; exclusive = not_true (is_shared law.holding.mode) found.1; alone = known.alone; work = known.work; place = known.place } in
    let on = holding_of p h xs i f c o held in
    let g = was_granted p h xs i f c o held in
    let s = stamp_at g.later g.entry g.older f.daemon.stamps
    (subst (λ t. Pairwise IsStampOf f.daemon.stamps t) g.whole (entries_are_stamped p h xs o.run i.machine f.machine f.daemon o.known.there.at o.known.there.has)) in
    let t = exclusive_grants_are p h xs o.run i f o.is_session g.entry g.older s.0.step
    (record { later = g.later; whole = g.whole; stamp = s.0; stamped = s.1; step_is = refl }) held.grant g.given on.mine held.exclusive in
    record {
      resource = t.place.resource;
      there = t.place.there;
      spot = sym on.spot ∙ t.place.spot;
      joined = t.place.joined;
      step = t.grant.step;
      won = subst (λ y. BallotEnded (history_of_line p h xs t.place.resource) y v.lver y t.grant.step) t.holder
          (subst (λ n. BallotEnded (history_of_line p h xs t.place.resource) t.grant.holder n t.grant.holder t.grant.step) (t.instance ∙ sym law.version.1) t.granted.ballot);
    }

-- ---- two writes of one version

-- A write with its session.
record Mine (p : Program) (h : Header) (xs : List Happening) (at : Spot) (c : Course) (v : ValueRec) (m : ℕ) : Type 0 where
  session : SessionId
  machine : session.machine ≡ m
  found : Found
  its : IsSession (world_at p h xs) session found
  own : OwnCall p h xs session found c
  area : area_of own ≡ at

mine_of : (p : Program) (h : Header) (xs : List Happening) → LawfulRun p h xs → (at : Spot) (c : Course) (v : ValueRec) → (x : IsSet (world_at p h xs) at c v) → Mine p h xs at c v x.machine.0
mine_of p h xs run at c v x =
    let w : World = world_at p h xs in
    let q = x.machine in
    let y : Sent = record { machine = q.0; course = c } in
    let k = owned p h xs run y (there_sent w q.0 q.1 c q.2 q.3) in
    let o = own_call p h xs run (sender_of y) (found_of k) (owner_found w y k) c k.there.has (is_own c q.0) in
    let place = place_is c.call.path c.call.offset at.path _ x.place in
    record {
      session = sender_of y;
      machine = refl;
      found = found_of k;
      its = owner_found w y k;
      own = o;
      area = meant_by p h xs (sender_of y) (found_of k) at c o (value_held p h xs (sender_of y) (found_of k) c o v x.value).place place.0 place.1;
    }

same_under : (p : Program) (h : Header) (xs : List Happening) → LawfulRun p h xs → (i k : SessionId) (at : Spot) (u v : ValueRec) → Under p h xs i at u → Under p h xs k at v → u.lver ≡ v.lver → i ≡ k
same_under p h xs run i k at u v x y same =
    let spots = sym x.spot ∙ y.spot in
    let line : y.resource ≡ x.resource =
    one_resource h y.resource x.resource run.header y.there x.there (ap (λ (s : Spot). s.path) (sym spots)) (ap (λ (s : Spot). s.base) (sym spots)) in
    let second : BallotEnded (history_of_line p h xs x.resource) (holder_of (world_at p h xs) k) u.lver (holder_of (world_at p h xs) k) y.step =
    subst (λ n. BallotEnded (history_of_line p h xs x.resource) (holder_of (world_at p h xs) k) n (holder_of (world_at p h xs) k) y.step) (sym same)
    (subst (λ r. BallotEnded (history_of_line p h xs r) (holder_of (world_at p h xs) k) v.lver (holder_of (world_at p h xs) k) y.step) line y.won) in
    let one = one_winner (history_of_line p h xs x.resource) (are_lawful p h xs x.resource run x.there) u.lver (holder_of (world_at p h xs) i) (holder_of (world_at p h xs) k)
    x.step y.step x.won second in
    names_are_apart p h xs x.resource run x.there i k x.joined (subst (λ r. IsTrue (is_joined_there (world_at p h xs) r.lockspace k)) line y.joined) one

not_less : (a b : ℕ) → a < b → a ≡ b → ⊥
not_less a b h e = omega (arith, h, e)

here : (p : Program) (h : Header) (xs : List Happening) (i : SessionId) (f : Found) (c : Course) (o : OwnCall p h xs i f c) (v : ValueRec) → record_of c.call.op ≡ Some (ValueIs v) → (at : Spot)
    → area_of o ≡ at → WritesHere (setting_in f).layout at f.session o.call v
here p h xs i f c o v writes at area =
    record {
      mine = eq-eqb o.call.call.session f.session.number o.mine;
      on = subst (λ z. IsTrue (is_on (setting_in f).layout z o.call.call)) area (on_own p h xs i f c o);
      value = ap (λ (x : Call). option_and_then value_of_record (record_of x.op)) o.is.call ∙ ap (λ r. option_and_then value_of_record r) writes;
    }

by_order : (p : Program) (h : Header) (xs : List Happening) (i : SessionId) (f : Found) (c d : Course) (o : OwnCall p h xs i f c) (q : OwnCall p h xs i f d) (u v : ValueRec)
    → record_of c.call.op ≡ Some (ValueIs u) → record_of d.call.op ≡ Some (ValueIs v) → area_of q ≡ area_of o → u.lver ≡ v.lver → u.seq ≡ v.seq
    → Order (submitted (trace_of f)) o.call q.call → c ≡ d
by_order p h xs i f c d o q u v first second area lver seq (Same is) =
    one_call f.machine.calls c d (each_distinct p h xs o.run i.machine f.machine o.known.there.at) o.there q.there
    (eq-eqb c.call.number d.call.number (ap (λ (y : Call). y.number) (sym o.is.call) ∙ ap (λ (y : Submitted). y.call.number) is ∙ ap (λ (y : Call). y.number) q.is.call))
by_order p h xs i f c d o q u v first second area lver seq (Newer newer between older is) =
    absurd
    (not_less v.seq u.seq
    (newer_is_greater (setting_in f) (trace_of f) f.session o.call o.known.lawful o.known.its newer between older o.call q.call is u v (here p h xs i f c o u first (area_of o) refl)
    (here p h xs i f d q v second (area_of o) area) (sym lver)) (sym seq))
by_order p h xs i f c d o q u v first second area lver seq (Older newer between older is) =
    absurd
    (not_less u.seq v.seq
    (newer_is_greater (setting_in f) (trace_of f) f.session o.call o.known.lawful o.known.its newer between older q.call o.call is v u (here p h xs i f d q v second (area_of o) area)
    (here p h xs i f c o u first (area_of o) refl) lver) seq)

-- Writes of one version are one.
pub one_version : (p : Program) (h : Header) (xs : List Happening) → LawfulRun p h xs → (at : Spot) (c d : Course) (u v : ValueRec) → (x : IsSet (world_at p h xs) at c u)
    → (y : IsSet (world_at p h xs) at d v) → u.lver ≡ v.lver → u.seq ≡ v.seq → (x.machine.0 ≡ y.machine.0) × (c ≡ d)
one_version p h xs run at c d u v x y lver seq =
    let w : World = world_at p h xs in
    let a = mine_of p h xs run at c u x in
    let b = mine_of p h xs run at d v y in
    let one = subst (λ z. Under p h xs a.session z u) a.area (under p h xs a.session a.found c a.own u x.value) in
    let two = subst (λ z. Under p h xs b.session z v) b.area (under p h xs b.session b.found d b.own v y.value) in
    let same : a.session ≡ b.session = same_under p h xs run a.session b.session at u v one two lver in
    let found : b.found ≡ a.found = one_value b.found a.found (session_of_world w a.session) (ap (session_of_world w) same ∙ b.its) a.its in
    let too : OwnCall p h xs a.session a.found d = subst (λ z. OwnCall p h xs a.session z d) found (subst (λ j. OwnCall p h xs j b.found d) (sym same) b.own) in
    let paths = place_is c.call.path c.call.offset at.path _ x.place in
    let more = place_is d.call.path d.call.offset at.path _ y.place in
    let area : area_of too ≡ area_of a.own = one_area p h xs a.session a.session a.found a.found d c too a.own (more.0 ∙ sym paths.0) (more.1 ∙ sym paths.1) in (
      sym a.machine ∙ ap (λ (z : SessionId). z.machine) same ∙ b.machine,
      by_order p h xs a.session a.found c d a.own too u v x.value y.value area lver seq (order (submitted (trace_of a.found)) a.own.call too.call a.own.inside too.inside),
    )

-- Each has a seq.
pub has_seq : (p : Program) (h : Header) (xs : List Happening) → LawfulRun p h xs → (at : Spot) (c : Course) (v : ValueRec) → IsSet (world_at p h xs) at c v → v.seq ≡ 0 → ⊥
has_seq p h xs run at c v x none =
    let a = mine_of p h xs run at c v x in
    let o = a.own in
    let says : record_of o.call.call.op ≡ Some (ValueIs v) = ap (λ (y : Call). record_of y.op) o.is.call ∙ x.value in
    let law = o.lawful.values.0.writes o.made.index o.call.call a.found.session o.made.call o.its v (ap (λ r. option_and_then value_of_record r) says) in
    some_more v.seq _ law.version.2 none
  where
    some_more : (n k : ℕ) → n ≡ k + 1 → n ≡ 0 → ⊥
    some_more n k e f = omega (arith, e, f)
