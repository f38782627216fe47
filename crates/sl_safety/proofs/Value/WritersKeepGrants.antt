-- A write of a value in flight keeps the exclusive grant under which it was made: its session is not over, and has not freed the instance.
-- A free of before the grant would bar the grant, one of before the write would bar the holding, and one that came after waits for it.
use Rattle.sl_ballot_law.specs.Ballots.{LeaderSubmitted}
use Rattle.sl_ballot_law.specs.History.{Owner as Holder}
use Rattle.sl_run_law.proofs.Course.EntriesAreStamped.{entries_are_stamped}
use Rattle.sl_run_law.specs.Course.CallStamps.{IsStampOf, Pairwise, stamp_in}
use Rattle.sl_safety.proofs.Grant.AliveInHistory.{whole_by}
use Rattle.sl_safety.proofs.Grant.LeadersAndFrees.{FreeTold, free_told}
use Rattle.sl_safety.proofs.Grant.CallsOfWorlds.{OfLease, before_in, entry_past, in_lease, in_order, lease_was, told, told_answer, told_made}
use Rattle.sl_safety.specs.Grant.HistoryGrants.{ExclusiveGrantsAre, GrantedThere, history_there}
use Rattle.sl_safety.proofs.Holding.Places.{on_held}
use Rattle.sl_safety.proofs.Holding.HoldersStand.{holders_stand}
use Rattle.sl_safety.proofs.Holding.ExclusivesUnfreed.{exclusives_are_unfreed}
use Rattle.sl_ballot_law.specs.Grantings.Holdings.{IsKept}
use Rattle.sl_run.proofs.LawFacts.{orderly-front}
use Rattle.sl_run.specs.LawfulArea.{is_area_work}
use Rattle.sl_run_law.specs.Leases.LeaseLaws.{WasAnsweredBy}
use Rattle.sl_trace.specs.Leases.{is_block_read, is_free_write, is_on, leader_of_record}
use Rattle.sl_safety.proofs.Resources.Calls.{order}
use Rattle.sl_safety.proofs.Resources.StepsNameCalls.{holder_named, write_is}
use Rattle.sl_safety.proofs.Resources.OwnBlocks.{lease_is_work}
use Rattle.sl_safety.proofs.Resources.StepsNameEntries.{call_timed}
use Rattle.sl_safety.specs.Resources.Histories.{is_over_in, world_by}
use Rattle.sl_safety.specs.Resources.HistoryLaws.{NamesDiffer, history_of_line, spot_of_line}
use Rattle.sl_safety.specs.Resources.SentCalls.{holder_of, is_joined_there, session_of_holder}
use Rattle.sl_run.specs.Runs.{Happening}
use Rattle.sl_run.specs.Safety.{Found, IsSession, SessionId, is_over, setting_in, trace_of, world_at}
use Rattle.sl_run.specs.Worlds.{Course, Program, Stamp, World, is_open, world_with}
use Rattle.sl_run.specs.declared.header.Header.{Header}
use Rattle.sl_run.specs.declared.header.ResourceLine.{ResourceLine}
use Rattle.sl_sector.specs.declared.sector.Leader.{Leader}
use Rattle.sl_sector.specs.declared.sector.Rec.TheVariants.{ValueIs}
use Rattle.sl_sector.specs.declared.sector.Rec.{Rec}
use Rattle.sl_sector.specs.declared.sector.ValueRec.{ValueRec}
use Rattle.sl_safety.proofs.Sessions.SessionsFollow.{append_apart}
use Rattle.sl_safety.proofs.Sessions.NamesAreApart.{names_are_apart}
use Rattle.sl_run_law.proofs.Sessions.CallOwners.{sessions_stay}
use Rattle.sl_trace.specs.Sessions.{is_free_purpose, session_numbered}
use Rattle.sl_trace.specs.Traces.{Setting, Submitted, holdings, is_write, record_of, submitted}
use Rattle.sl_trace.specs.declared.effects.Call.{Call}
use Rattle.sl_trace.specs.declared.effects.Grant.{Grant}
use Rattle.sl_trace.specs.declared.effects.Op.TheVariants.{ReadSectors, WriteRecord}
use Rattle.sl_trace.specs.declared.effects.Op.{Op}
use Rattle.sl_trace.specs.declared.effects.Purpose.TheVariants.{Joining, Lease, Leaving, Renewal, RequestRead, RequestWrite, SeeRequest, Survey, ValueRead, ValueWrite}
use Rattle.sl_trace.specs.declared.effects.Purpose.{Purpose}
use Rattle.sl_safety.proofs.Value.EntryStamps.{stamp_at}
use Rattle.sl_safety.proofs.Value.WritersHold.{ValueHeld, WasGranted, area_of, holding_of, value_held, was_granted}
use Rattle.sl_safety.proofs.Value.OwnCalls.{OwnCall, unanswered}
use Rattle.sl_safety.proofs.Value.WritersNotOver.{not_over, open_waits}
use Rattle.sl_safety.proofs.Value.CallsTakeTurns.{After, Before, OnArea, One, Turn, turns}
use Rattle.sl_words.proofs.CaseLaws.{false_is_true, one_value, true_is_false}
use Rattle.sl_words.specs.Words.{some_is}
use Rattle.std.proofs.Common.{ap, arith, inl, inr, refl, subst, sym, ◌∙◌}
use Rattle.std.specs.Prelude.{Bool, Contains, List, None, Option, Some, [], false, length, not, option_and_then, true, ℕ, ◌&&◌, ◌++◌, ◌<◌, ◌==◌, ◌||◌, ◌∷◌, ◌≡◌, ◌≤◌, ◌⊎◌}

-- ---- work by what it writes

pub or_left : (a b : Bool) → a ≡ true → (a || b) ≡ true
or_left true b h = refl
or_left false b h = absurd (false_is_true h)

some_read : (n k : ℕ) → some_is (λ (l : Leader). l.lver == n && not l.held) (option_and_then leader_of_record (record_of (ReadSectors k))) ≡ true → ⊥
some_read n k h = false_is_true h

free_writes : (n : ℕ) (o : Op) → some_is (λ (l : Leader). l.lver == n && not l.held) (option_and_then leader_of_record (record_of o)) ≡ true → is_write o ≡ true
free_writes n (ReadSectors k) h = absurd (some_read n k h)
free_writes n (WriteRecord r) h = refl

-- What writes a value writes no leader.
no_free : (n : ℕ) (q : Submitted) (v : ValueRec) → record_of q.call.op ≡ Some (ValueIs v) → is_free_write n q ≡ true → ⊥
no_free n q v says free =
    true_is_false (sym free ∙ ap (λ (r : Option Rec). some_is (λ (l : Leader). l.lver == n && not l.held) (option_and_then leader_of_record r)) says)

-- ---- a free of before

-- A free of the session on the area that came before a write there.
pub record FreedBefore (p : Program) (h : Header) (xs : List Happening) (i : SessionId) (f : Found) (c : Course) (o : OwnCall p h xs i f c) (e : ℕ) (k : Submitted) : Type 0 where
  pub place : k.at < length o.made.past
  pub step : e < c.made.step

between : (a b c : ℕ) → a < b → b ≤ c → a < c
between a b c h k = omega (arith, h, k)

freed_before : (p : Program) (h : Header) (xs : List Happening) (i : SessionId) (f : Found) (c : Course) (o : OwnCall p h xs i f c) (r : ResourceLine) (n e : ℕ)
    → (x : FreeTold p h xs r f n e) → WasAnsweredBy x.call o.call → FreedBefore p h xs i f c o e x.call
freed_before p h xs i f c o r n e x by =
    let t = told p h xs i f (trace_of f) (record { run = o.run; its = o.is_session; later = []; whole = refl }) x.call x.lease.inside x.lease.mine in
    let heard = told_answer p h xs i f x.call t by.answer by.answered in
    let timed = call_timed p h xs o.run i.machine f.machine t.sent.course o.known.there.at t.there in
    let same : x.stamp ≡ t.sent.course.made = one_value x.stamp t.sent.course.made (stamp_in f.daemon.stamps x.call.at) x.made (told_made p h xs i f x.call t) in
    let less : x.stamp.step < heard.stamp.step = subst (λ (s : Stamp). s.step < heard.stamp.step) (sym same) (timed.answered heard.stamp heard.answered) in
    let early : x.call.at < by.answer.at = before_in p h xs o.run i f o.is_session x.call.at by.answer.at x.stamp heard.stamp x.made heard.entry less in
    let late = in_order p h xs o.run i f o.is_session by.answer.at o.call.at heard.stamp c.made heard.entry o.is.made by.by in
    record {
      place = subst (λ k. x.call.at < k) o.made.place (between x.call.at by.answer.at o.call.at early by.by);
      step = subst (λ k. k < c.made.step) x.step (between x.stamp.step heard.stamp.step c.made.step less late);
    }

-- It was no free of the instance: while the holding stood none was submitted.
not_freed : (p : Program) (h : Header) (xs : List Happening) (i : SessionId) (f : Found) (c : Course) (o : OwnCall p h xs i f c) (v : ValueHeld p h xs i f c o) (r : ResourceLine) (e : ℕ)
    → area_of o ≡ spot_of_line r → (x : FreeTold p h xs r f v.grant.lver e) → FreedBefore p h xs i f c o e x.call → Contains (holdings o.made.past) v.grant → ⊥
not_freed p h xs i f c o v r e area x b held =
    let st : Setting = setting_in f in
    let d = o.made in
    let law = orderly-front st (d.entry ∷ []) d.past o.lawful in
    let on = holding_of p h xs i f c o v in
    let mine = on.mine in
    let spot = on.spot in
    let behind = holders_stand st d.past law v.grant held in
    let known : session_numbered st d.past f.session.number ≡ Some behind.session = ap (λ n. session_numbered st d.past n) (sym mine) ∙ behind.known in
    let all : trace_of f ≡ (d.later ++ d.entry ∷ []) ++ d.past = d.whole ∙ sym (append_apart d.later (d.entry ∷ []) d.past) in
    let later : session_numbered st (trace_of f) f.session.number ≡ Some behind.session =
    subst (λ t. session_numbered st t f.session.number ≡ Some behind.session) (sym all) (sessions_stay st (d.later ++ d.entry ∷ []) d.past f.session.number behind.session known) in
    let same = one_value behind.session f.session (session_numbered st (trace_of f) f.session.number) later o.known.its in
    let was = lease_was st (d.later ++ d.entry ∷ []) d.past f.session (spot_of_line r) x.call
    (subst (λ t. OfLease st t f.session (spot_of_line r) x.call) all x.lease) b.place in
    let none = exclusives_are_unfreed st d.past law f.session (known ∙ ap (λ s. Some s) same) (spot_of_line r) v.grant
    (on_held d.past f.session (spot_of_line r) v.grant (record { there = held; mine = mine; spot = spot ∙ area })) v.exclusive was.was
    (in_lease st d.past f.session (spot_of_line r) was.was was.lease) in
    true_is_false (sym x.free ∙ ap (λ (y : Call). some_is (λ (l : Leader). l.lver == v.grant.lver && not l.held) (option_and_then leader_of_record (record_of y.op))) (sym was.call) ∙ none)

-- ---- what stands behind the write

pub record StandsBehind (p : Program) (h : Header) (xs : List Happening) (i : SessionId) (f : Found) (c : Course) (o : OwnCall p h xs i f c) : Type 0 where
  pub grant : Grant
  pub step : ℕ
  pub there : GrantedThere p h xs i step grant
  pub spot : area_of o ≡ spot_of_line there.place.resource
  pub kept : IsKept (history_there there.place) there.grant (world_at p h xs).step

abbrev place_of : {p : Program} {h : Header} {xs : List Happening} {i : SessionId} {step : ℕ} {g : Grant} → GrantedThere p h xs i step g → ResourceLine
place_of t = t.place.resource

same_step : (a b : ℕ) → a ≡ b → (c : ℕ) → c < b → c < a
same_step a b e c h = omega (arith, e, h)

-- A free that came before the write was made.
never_before : (p : Program) (h : Header) (xs : List Happening) (i : SessionId) (f : Found) (c : Course) (o : OwnCall p h xs i f c) (v : ValueHeld p h xs i f c o)
    → (g : WasGranted (trace_of f) o.made.past v.grant) (s : Stamp) → stamp_in f.daemon.stamps (length g.older) ≡ Some s → (t : GrantedThere p h xs i s.step v.grant)
    → area_of o ≡ spot_of_line (place_of t) → (l : LeaderSubmitted (history_there t.place) t.grant.instance t.grant.holder false (world_at p h xs).step)
    → (x : FreeTold p h xs (place_of t) f v.grant.lver l.step) → FreedBefore p h xs i f c o l.step x.call → (length g.older ≡ length o.made.past) ⊎ Contains (holdings o.made.past) v.grant → ⊥
never_before p h xs i f c o v g s stamped t area l x b (inr held) = not_freed p h xs i f c o v (place_of t) l.step area x b held
never_before p h xs i f c o v g s stamped t area l x b (inl same) =
    let one : s ≡ c.made = one_value s c.made (stamp_in f.daemon.stamps o.call.at) (ap (λ n. stamp_in f.daemon.stamps n) (o.made.place ∙ sym same) ∙ stamped) o.is.made in
    t.granted.unfreed
    (record {
      step = l.step;
      leads = l.leads;
      before = same_step t.grant.step c.made.step (t.at ∙ ap (λ (y : Stamp). y.step) one) l.step b.step;
      lver = l.lver;
      owner = l.owner;
      held = l.held;
    })

by_turn : (p : Program) (h : Header) (xs : List Happening) (i : SessionId) (f : Found) (c : Course) (o : OwnCall p h xs i f c) (w : ValueRec) → record_of o.call.call.op ≡ Some (ValueIs w)
    → c.answered ≡ None → (r : ResourceLine) (n e : ℕ) (x : FreeTold p h xs r f n e) → (FreedBefore p h xs i f c o e x.call → ⊥) → Turn o.call x.call → ⊥
by_turn p h xs i f c o w says waits r n e x never (One same) = no_free n o.call w says (ap (λ m. is_free_write n m) same ∙ x.free)
by_turn p h xs i f c o w says waits r n e x never (Before told) = unanswered p h xs i f c o waits told.answer told.answered
by_turn p h xs i f c o w says waits r n e x never (After told) = never (freed_before p h xs i f c o r n e x told)

free_not : (p : Program) (h : Header) (xs : List Happening) (i : SessionId) (f : Found) (c : Course) (o : OwnCall p h xs i f c) (w : ValueRec) → record_of c.call.op ≡ Some (ValueIs w)
    → c.answered ≡ None → (v : ValueHeld p h xs i f c o) (g : WasGranted (trace_of f) o.made.past v.grant) (s : Stamp) → stamp_in f.daemon.stamps (length g.older) ≡ Some s
    → (t : GrantedThere p h xs i s.step v.grant) → area_of o ≡ spot_of_line (place_of t)
    → LeaderSubmitted (history_there t.place) t.grant.instance t.grant.holder false (world_at p h xs).step → ⊥
free_not p h xs i f c o w writes waits v g s stamped t area l =
    let r : ResourceLine = place_of t in
    let differ : NamesDiffer (world_at p h xs) r.lockspace = names_are_apart p h xs r o.run t.place.there in
    let x = free_told p h xs o.run r t.place.there differ i f o.is_session t.place.joined v.grant.lver l.step l.leads (l.lver ∙ t.instance) (l.owner ∙ t.holder) l.held in
    let says : record_of o.call.call.op ≡ Some (ValueIs w) = ap (λ (y : Call). record_of y.op) o.is.call ∙ writes in
    let k : OnArea p h xs i f c o x.call =
    record {
      mine = x.lease.mine ∙ sym o.mine;
      works = or_left (is_write x.call.call.op) (is_block_read x.call) (free_writes v.grant.lver x.call.call.op x.free);
      work = lease_is_work x.call.call.purpose x.lease.lease;
      on = subst (λ z. is_on (setting_in f).layout z x.call.call ≡ true) (sym area) x.lease.on;
    } in
    by_turn p h xs i f c o w says waits r v.grant.lver l.step x
    (λ b. never_before p h xs i f c o v g s stamped t area l x b g.early)
    (turns p h xs i f c o (or_left (is_write o.call.call.op) (is_block_read o.call) (write_is o.call.call.op (ValueIs w) says))
    (ap (λ (y : Call). is_area_work y.purpose) o.is.call ∙ v.work) x.call k (order (submitted (trace_of f)) o.call x.call o.inside x.lease.inside))

-- ---- who is over

over_is : (p : Program) (h : Header) (xs : List Happening) (i : SessionId) (f : Found) → IsSession (world_at p h xs) i f → is_over_in (world_at p h xs) i ≡ is_over i f
over_is p h xs i f its = ap (λ (q : Option Found). some_is (is_over i) q) its

alive : (p : Program) (h : Header) (xs : List Happening) (i : SessionId) (f : Found) (c : Course) (o : OwnCall p h xs i f c) (r : ResourceLine) → NamesDiffer (world_at p h xs) r.lockspace
    → is_joined_there (world_at p h xs) r.lockspace i ≡ true → (is_over i f ≡ true → ⊥) → (y : Holder) → y ≡ holder_of (world_at p h xs) i
    → (history_of_line p h xs r).over y (world_at p h xs).step ≡ true → ⊥
alive p h xs i f c o r differ joined stands y is over =
    let w : World = world_at p h xs in
    stands
    (sym (over_is p h xs i f o.is_session)
    ∙ ap (λ (u : World). is_over_in u i) (sym (whole_by p h xs o.run))
    ∙ ap (λ (q : Option SessionId). some_is (is_over_in (world_by (world_with p h) xs w.step)) q) (sym (ap (session_of_holder w r.lockspace) is ∙ holder_named w r.lockspace differ i joined))
    ∙ over)

-- ---- all of it

free_purpose_not : (q : Purpose) → is_area_work q ≡ true → is_free_purpose q ≡ false
free_purpose_not (Joining j step) h = absurd (false_is_true h)
free_purpose_not Renewal h = absurd (false_is_true h)
free_purpose_not Survey h = absurd (false_is_true h)
free_purpose_not (Leaving j) h = absurd (false_is_true h)
free_purpose_not (Lease work step) h = refl
free_purpose_not (RequestRead j) h = refl
free_purpose_not (RequestWrite j w) h = refl
free_purpose_not SeeRequest h = refl
free_purpose_not (ValueWrite j) h = refl
free_purpose_not (ValueRead j) h = refl

same_most : (a b n : ℕ) → a ≡ b → b < n → a ≤ n
same_most a b n e h = omega (arith, e, h)

pub stands_behind : ExclusiveGrantsAre → (p : Program) (h : Header) (xs : List Happening) (i : SessionId) (f : Found) (c : Course) (o : OwnCall p h xs i f c) (w : ValueRec)
    → record_of c.call.op ≡ Some (ValueIs w) → is_open f.machine c ≡ true → StandsBehind p h xs i f c o
stands_behind granted_given p h xs i f c o w writes opens =
    let v = value_held p h xs i f c o w writes in
    let on = holding_of p h xs i f c o v in
    let g = was_granted p h xs i f c o v in
    let s = stamp_at g.later g.entry g.older f.daemon.stamps
    (subst (λ t. Pairwise IsStampOf f.daemon.stamps t) g.whole (entries_are_stamped p h xs o.run i.machine f.machine f.daemon o.known.there.at o.known.there.has)) in
    let t = granted_given p h xs o.run i f o.is_session g.entry g.older s.0.step
    (record { later = g.later; whole = g.whole; stamp = s.0; stamped = s.1; step_is = refl }) v.grant g.given on.mine v.exclusive in
    let area : area_of o ≡ spot_of_line (place_of t) = sym on.spot ∙ t.place.spot in
    let waits = open_waits f c opens in
    record {
      grant = v.grant;
      step = s.0.step;
      there = t;
      spot = area;
      kept = record {
        since = same_most t.grant.step s.0.step (world_at p h xs).step t.at (entry_past p h xs o.run i f o.is_session (length g.older) s.0 s.1);
        alive = alive p h xs i f c o (place_of t) (names_are_apart p h xs (place_of t) o.run t.place.there) t.place.joined
            (not_over p h xs i f c o opens (write_is c.call.op (ValueIs w) writes) (free_purpose_not c.call.purpose v.work)) t.grant.holder t.holder;
        unfreed = free_not p h xs i f c o w writes waits v g s.0 s.1 t area;
      };
    }
