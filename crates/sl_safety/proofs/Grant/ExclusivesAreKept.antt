-- An exclusive holding of a session that is not over stands: it goes back to a grant of the history, and nothing of its instance was
-- freed.
use Rattle.sl_safety.specs.Ballot.Endings.{IsEntryAt}
use Rattle.sl_ballot_law.specs.History.{History}
use Rattle.sl_run_law.proofs.Course.PairwiseLists.{pairs_length}
use Rattle.sl_run_law.proofs.Course.EntriesAreStamped.{entries_are_stamped}
use Rattle.sl_run_law.specs.Course.CallStamps.{IsStampOf}
use Rattle.sl_safety.proofs.Grant.AliveInHistory.{alive_by}
use Rattle.sl_safety.proofs.Grant.ExclusiveGrants.{IsToldOf, exclusive_grants_are_given}
use Rattle.sl_safety.proofs.Grant.LeadersAndFrees.{free_told}
use Rattle.sl_safety.proofs.Grant.LeaseResources.{at_resource}
use Rattle.sl_safety.proofs.Grant.CallsOfWorlds.{entry_past, in_lease, whole_of}
use Rattle.sl_safety.specs.Grant.HistoryGrants.{ExclusivesAreKept, GrantedThere, history_there}
use Rattle.sl_safety.proofs.Holding.HoldingsAreGranted.{holdings_are_granted}
use Rattle.sl_safety.proofs.Holding.Places.{HeldOn, held_on, on_held}
use Rattle.sl_safety.proofs.Holding.ExclusivesUnfreed.{exclusives_are_unfreed}
use Rattle.sl_ballot_law.specs.Grantings.Holdings.{IsKept}
use Rattle.sl_id_safety.proofs.Steps.JoiningIsAlive.{stamp_there}
use Rattle.sl_trace.specs.Leases.{holdings_on}
use Rattle.sl_safety.specs.Resources.HistoryLaws.{history_of_line, spot_of_line}
use Rattle.sl_run.specs.Runs.{Happening}
use Rattle.sl_run.specs.Safety.{Found, IsSession, LawfulRun, SessionId, is_over, setting_in, trace_of, world_at}
use Rattle.sl_run.specs.Worlds.{Program, World}
use Rattle.sl_run.specs.declared.header.Header.{Header}
use Rattle.sl_run.specs.declared.header.ResourceLine.{ResourceLine}
use Rattle.sl_trace.specs.Traces.{Setting, Trace, is_shared, spot_of_grant}
use Rattle.sl_trace.specs.declared.effects.Entry.{Entry}
use Rattle.sl_trace.specs.declared.effects.Grant.{Grant}
use Rattle.sl_words.proofs.CaseLaws.{true_is_false}
use Rattle.std.proofs.Common.{ap, arith, refl, subst, sym, ◌∙◌}
use Rattle.std.specs.Prelude.{Contains, List, false, length, [], ℕ, ◌++◌, ◌<◌, ◌∷◌, ◌≡◌, ◌≤◌}

-- ---- an entry has its stamp

pub past_within : (later past : Trace) (e : Entry) → length past < length (later ++ e ∷ past)
past_within [] past e = omega arith
past_within (x ∷ later) past e = let rest = past_within later past e in omega (arith, rest)

-- Each entry of a session's trace came at a step.
pub record CameAt (f : Found) (entry : Entry) (past : Trace) : Type 0 where
  pub step : ℕ
  pub there : IsEntryAt f entry past step

pub came_at : (p : Program) (h : Header) (xs : List Happening) → LawfulRun p h xs → (i : SessionId) (f : Found) → IsSession (world_at p h xs) i f → (later : Trace) (entry : Entry)
    (past : Trace) → trace_of f ≡ later ++ entry ∷ past → CameAt f entry past
came_at p h xs run i f its later entry past whole =
    let all = whole_of p h xs run i f its in
    let even : length f.daemon.stamps ≡ length (later ++ entry ∷ past) =
    pairs_length IsStampOf f.daemon.stamps (trace_of f) (entries_are_stamped p h xs run i.machine f.machine f.daemon all.at all.has) ∙ ap (λ (t : Trace). length t) whole in
    let s = stamp_there f.daemon.stamps (length past) (subst (λ n. length past < n) (sym even) (past_within later past entry)) in
    record { step = s.0.step; there = record { later = later; whole = whole; stamp = s.0; stamped = s.1; step_is = refl } }

-- ---- it stands

before_it : (a b c d : ℕ) → a ≡ b → c ≡ b → c < d → a ≤ d
before_it a b c d is also less = omega (arith, is, also, less)

kept_at : (p : Program) (h : Header) (xs : List Happening) → IsToldOf → LawfulRun p h xs → (i : SessionId) (f : Found) → IsSession (world_at p h xs) i f → is_over i f ≡ false
    → (entry : Entry) (past : Trace) (step : ℕ) → IsEntryAt f entry past step → (g : Grant) → HeldOn (trace_of f) f.session (spot_of_grant g) g → is_shared g.mode ≡ false
    → (t : GrantedThere p h xs i step g) → IsKept (history_there t.place) t.grant (world_at p h xs).step
kept_at p h xs given run i f its alive entry past step e g held exclusive t =
    let w : World = world_at p h xs in
    let r : ResourceLine = t.place.resource in
    let H : History = history_of_line p h xs r in
    let st : Setting = setting_in f in
    let all = whole_of p h xs run i f its in
    let differ = given.names p h xs r run t.place.there in
    record {
      since = before_it t.grant.step step e.stamp.step w.step t.at e.step_is (entry_past p h xs run i f its (length past) e.stamp e.stamped);
      alive = λ over. alive_by p h xs run r differ i f its t.place.joined alive (ap (λ o. H.over o w.step) (sym t.holder) ∙ over);
      unfreed = λ l.
          let freed = free_told p h xs run r t.place.there differ i f its t.place.joined g.lver l.step l.leads (l.lver ∙ t.instance) (l.owner ∙ t.holder) l.held in
          let there : Contains (holdings_on (trace_of f) f.session (spot_of_line r)) g =
          at_resource p h xs i (spot_of_grant g) t.place (λ z. Contains (holdings_on (trace_of f) f.session z) g) (on_held (trace_of f) f.session (spot_of_grant g) g held) in
          true_is_false
          (sym freed.free
          ∙ exclusives_are_unfreed st (trace_of f) all.lawful f.session all.known (spot_of_line r) g there exclusive freed.call
          (in_lease st (trace_of f) f.session (spot_of_line r) freed.call freed.lease));
    }

pub exclusives_are_kept_given : IsToldOf → ExclusivesAreKept
exclusives_are_kept_given given p h xs run i f its alive at g has exclusive =
    let held = held_on (trace_of f) f.session at g has in
    let from = holdings_are_granted (trace_of f) g held.there in
    let c = came_at p h xs run i f its from.later from.entry from.past from.whole in
    let t = exclusive_grants_are_given given p h xs run i f its from.entry from.past c.step c.there g from.given held.mine exclusive in
    record {
      step = c.step;
      there = t;
      kept = kept_at p h xs given run i f its alive from.entry from.past c.step c.there g (record { there = held.there; mine = held.mine; spot = refl }) exclusive t;
    }
