-- An exclusive grant of a trace is one of the history: the ballot that was won, the look at all blocks after the instance had begun, and
-- that no free of it was submitted.
use Rattle.sl_area.specs.AreaSizes.{Layout}
use Rattle.sl_safety.specs.Ballot.Endings.{EndedBallotsEnd, IsEntryAt}
use Rattle.sl_ballot_law.specs.Ballots.{BallotEnded}
use Rattle.sl_ballot_law.specs.History.{Block as HistoryBlock, History, Owner as Holder}
use Rattle.sl_safety.proofs.Grant.EvidenceInHistory.{evidence_by}
use Rattle.sl_safety.proofs.Grant.LeadersAndFrees.{FreeTold, free_told, freed_most}
use Rattle.sl_safety.proofs.Grant.Looks.{is_present, look_shows_host, look_shows_nothing}
use Rattle.sl_safety.proofs.Grant.Names.{stood_at}
use Rattle.sl_safety.proofs.Grant.LeaseResources.{at_resource, resource_at}
use Rattle.sl_safety.proofs.Grant.HistorySteps.{IsAt, LookThere, block_there, look_there}
use Rattle.sl_safety.proofs.Grant.CallsOfWorlds.{IsFront, LeaseWas, OfLease, before_in, in_lease, in_order, lease_was, of_lease, whole_of}
use Rattle.sl_safety.specs.Grant.HistoryGrants.{ExclusiveGrantsAre, GrantedThere, ResourceAt}
use Rattle.sl_safety.proofs.Holding.ExclusivesUnfreed.{exclusive_is}
use Rattle.sl_run.specs.LawfulModes.{LawfulExclusiveGrant, NoneShared}
use Rattle.sl_run_law.proofs.Leases.GrantLaws.{exclusive_follows}
use Rattle.sl_trace.specs.Leases.{block_of_host, freed, is_free_write, lease_calls}
use Rattle.sl_run_law.proofs.Place.Looks.{answered_below}
use Rattle.sl_words.proofs.Numbers.{below_suc, less_than_suc, never_below, refl_le}
use Rattle.sl_words.proofs.Options.{some_of}
use Rattle.sl_safety.proofs.Resources.BlockOrigins.{own_there}
use Rattle.sl_safety.proofs.Resources.Calls.{holder_is}
use Rattle.sl_safety.specs.Resources.Histories.{is_host, no_block}
use Rattle.sl_safety.specs.Resources.HistoryLaws.{NamesDiffer, history_of_line, spot_of_line}
use Rattle.sl_safety.specs.Resources.SentCalls.{holder_of, holder_of_found, step_of}
use Rattle.sl_run.specs.Runs.{Happening}
use Rattle.sl_run.specs.Safety.{Found, IsSession, LawfulRun, SessionId, setting_in, trace_of, world_at}
use Rattle.sl_run.specs.Worlds.{Program, World}
use Rattle.sl_run.specs.declared.header.Header.{Header}
use Rattle.sl_run.specs.declared.header.ResourceLine.{ResourceLine}
use Rattle.sl_sector.specs.declared.sector.Block.{Block}
use Rattle.sl_safety.specs.Sessions.SessionLaws.{JoinedAreHosts, NamesAreApart}
use Rattle.sl_trace.specs.Sessions.{me, session_numbered}
use Rattle.sl_trace.specs.Traces.{Setting, Submitted, Trace, new_call, spot_of_grant}
use Rattle.sl_trace.specs.declared.effects.Call.{Call}
use Rattle.sl_trace.specs.declared.effects.Entry.{Entry}
use Rattle.sl_trace.specs.declared.effects.Grant.{Grant}
use Rattle.sl_trace.specs.declared.effects.Mode.TheVariants.{Exclusive}
use Rattle.sl_trace.specs.declared.effects.Spot.{Spot}
use Rattle.sl_words.proofs.CaseLaws.{true_is_false}
use Rattle.std.proofs.Common.{ap, arith, refl, subst, sym, ◌∙◌}
use Rattle.std.proofs.lemmas.Bool.Decides.{nat_tests}
use Rattle.std.specs.Prelude.{Bool, List, Option, false, length, nat_le, true, ℕ, ◌&&◌, ◌-◌, ◌<◌, ◌∷◌, ◌≡◌, ◌≤◌}

-- What is told of ids and ballots.
pub record IsToldOf : Type 0 where
  pub names : NamesAreApart
  pub hosts : JoinedAreHosts
  pub ended : EndedBallotsEnd

-- ---- the front of an entry

pub entry_front : (p : Program) (h : Header) (xs : List Happening) → LawfulRun p h xs → (i : SessionId) (f : Found) → IsSession (world_at p h xs) i f
    → (entry : Entry) (past : Trace) (step : ℕ) → IsEntryAt f entry past step → IsFront p h xs i f (entry ∷ past)
entry_front p h xs run i f its entry past step e = record { run = run; its = its; later = e.later; whole = e.whole }

below_step : (a b c d : ℕ) → a ≡ b → b < c → d ≡ c → a < d
below_step a b c d e less f = omega (arith, e, less, f)

up_to : (a b c d : ℕ) → a ≡ b → b ≤ c → c ≡ d → a ≤ d
up_to a b c d e le f = omega (arith, e, le, f)

-- A free of the history from before the entry is one of the lease there.
pub free_before : (p : Program) (h : Header) (xs : List Happening) (r : ResourceLine) → LawfulRun p h xs → (i : SessionId) (f : Found) → IsSession (world_at p h xs) i f
    → (entry : Entry) (past : Trace) (step : ℕ) → IsEntryAt f entry past step → (n e : ℕ) → (t : FreeTold p h xs r f n e) → e < step
    → LeaseWas (setting_in f) (entry ∷ past) f.session (spot_of_line r) t.call
free_before p h xs r run i f its entry past step k n e t less =
    let early : t.stamp.step < k.stamp.step = below_step t.stamp.step e step k.stamp.step t.step less k.step_is in
    let place : t.call.at < length past = before_in p h xs run i f its t.call.at (length past) t.stamp k.stamp t.made k.stamped early in
    lease_was (setting_in f) k.later (entry ∷ past) f.session (spot_of_line r) t.call
    (subst (λ es. OfLease (setting_in f) es f.session (spot_of_line r) t.call) k.whole t.lease) (less_than_suc t.call.at (length past) place)

-- ---- the look

no_mark : (H : History) (e : ℕ) → H.block e ≡ no_block → (H.block e).shared ≡ true → ⊥
no_mark H e is shared = true_is_false (sym shared ∙ ap (λ (b : HistoryBlock). b.shared) is)

is_within : (k n : ℕ) → (nat_le 1 k && nat_le k n) ≡ true → (1 ≤ k) × (k ≤ n)
is_within k n h = (grind (arith, nat_tests), grind (arith, nat_tests))

-- What it has of the blocks.
record SawAll (p : Program) (h : Header) (xs : List Happening) (r : ResourceLine) (i : SessionId) (look step k : ℕ) : Type 0 where
  whole : (history_of_line p h xs r).shows look k ≡ true
  alone : ((history_of_line p h xs r).block ((history_of_line p h xs r).shown look k)).shared ≡ true
      → (t : ℕ) × (t ≤ step) × ((history_of_line p h xs r).evidence (holder_of (world_at p h xs) i)
      (record { id = k; generation = ((history_of_line p h xs r).block ((history_of_line p h xs r).shown look k)).mode_gen }) t ≡ true)

abbrev named_as : ℕ → ℕ → Holder
named_as k n = record { id = k; generation = n }

saw_host : (p : Program) (h : Header) (xs : List Happening) (r : ResourceLine) → NamesDiffer (world_at p h xs) r.lockspace → (i : SessionId) (f : Found)
    → (entry : Entry) (past : Trace) (step : ℕ) → IsEntryAt f entry past step → IsAt p h xs r i f (entry ∷ past) → (c : Submitted) (before : List Submitted) (bs : List (Option Block))
    → (l : LookThere p h xs r i f c before bs) → NoneShared (setting_in f) (entry ∷ past) f.session bs
    → (k : ℕ) → (k ≡ f.session.id → ⊥) → (b : Bool) → is_host (world_at p h xs) k ≡ b → SawAll p h xs r i l.look step k
saw_host p h xs r differ i f entry past step e at c before bs l none k other false host =
    let n = look_shows_nothing p h xs r i f (entry ∷ past) at c before bs l k host in
    record { whole = n.0; alone = λ shared. absurd (no_mark (history_of_line p h xs r) ((history_of_line p h xs r).shown l.look k) n.1 shared) }
saw_host p h xs r differ i f entry past step e at c before bs l none k other true host =
    let w : World = world_at p h xs in
    let H : History = history_of_line p h xs r in
    let st : Setting = setting_in f in
    let all = whole_of p h xs at.front_is.run i f at.front_is.its in
    let range = is_within k w.layout.hosts host in
    let b = some_of (block_of_host bs k) (none.whole k range.0 (subst (λ (g : Layout). k ≤ g.hosts) (sym all.layout) range.1) other) in
    let s = look_shows_host p h xs r i f (entry ∷ past) at c before bs l k host b.0 b.1 in
    record {
      whole = s.shows;
      alone = λ shared.
          let marked : b.0.shared ≡ true = ap (λ (y : HistoryBlock). y.shared) (sym s.block) ∙ shared in
          let counted = none.over b.0 (is_present bs (k - 1) b.0 (own_there bs k b.0 b.1)) (λ same. other (sym s.host ∙ same)) marked in
          let evident : H.evidence (holder_of w i) (named_as b.0.host b.0.mode_gen) step ≡ true =
          evidence_by p h xs at.front_is.run r differ i f at.front_is.its at.joined entry past step e (named_as b.0.host b.0.mode_gen) counted in (
            step,
            refl_le step,
            ap (λ n. H.evidence (holder_of w i) (named_as k n) step) (ap (λ (y : HistoryBlock). y.mode_gen) s.block)
                ∙ ap (λ n. H.evidence (holder_of w i) (named_as n b.0.mode_gen) step) (sym s.host) ∙ evident,
          );
    }

-- ---- all of it

abbrev here : (r : ResourceLine) → Spot
here r = spot_of_line r

granted_at : (p : Program) (h : Header) (xs : List Happening) → IsToldOf → LawfulRun p h xs → (i : SessionId) (f : Found) → IsSession (world_at p h xs) i f
    → (entry : Entry) (past : Trace) (step : ℕ) → IsEntryAt f entry past step → (g : Grant) → (a : ResourceAt p h xs i (spot_of_grant g))
    → freed (lease_calls (setting_in f) (entry ∷ past) f.session (spot_of_line a.resource)) < g.lver
    → LawfulExclusiveGrant (setting_in f) (entry ∷ past) f.session (spot_of_line a.resource) g.lver → GrantedThere p h xs i step g
granted_at p h xs given run i f its entry past step e g a unfreed law =
    let w : World = world_at p h xs in
    let r : ResourceLine = a.resource in
    let H : History = history_of_line p h xs r in
    let st : Setting = setting_in f in
    let front : Trace = entry ∷ past in
    let differ = given.names p h xs r run a.there in
    let hosts = given.hosts p h xs r run a.there in
    let k : IsAt p h xs r i f front = record { front_is = entry_front p h xs run i f its entry past step e; there = a.there; joined = a.joined } in
    let wrote = of_lease st front f.session (spot_of_line r) law.write law.wrote.0 in
    let read = of_lease st front f.session (spot_of_line r) law.read law.of_lease.0 in
    let named = stood_at p h xs i f front k.front_is (spot_of_line r) law.write wrote in
    let block = block_there p h xs r i f front k law.write wrote law.own law.wrote.2 in
    let look = look_there p h xs r i f front k law.read law.after law.before law.split law.blocks law.given in
    let last : look.answered.at ≤ length past = below_suc look.answered.at (length past) (answered_below front law.read read.inside look.answered look.told_as) in
    let holder : holder_of w i ≡ holder_of_found f = holder_is w i f its in
    let own : (n : ℕ) → (n ≡ (holder_of w i).id → ⊥) → n ≡ f.session.id → ⊥ = λ n other same. other (same ∙ sym (ap (λ (o : Holder). o.id) holder)) in
    let saw : (n : ℕ) → (n ≡ (holder_of w i).id → ⊥) → SawAll p h xs r i look.look step n =
    λ n other. saw_host p h xs r differ i f entry past step e k law.read law.before law.blocks look law.none_shared n (own n other) (is_host w n) refl in
    record {
      place = a;
      grant = record { step = step; holder = holder_of w i; instance = g.lver; look = look.look };
      at = refl;
      holder = refl;
      instance = refl;
      granted = record {
        ballot = subst (λ o. BallotEnded H (holder_of w i) g.lver o step) named.name
            (given.ended p h xs r run a.there differ hosts i f its a.joined entry past step e g.lver (me front f.session) law.won);
        reads = look.reads;
        answer = up_to (H.answer look.look) look.stamp.step e.stamp.step step look.answer
            (in_order p h xs run i f its look.answered.at (length past) look.stamp e.stamp look.entry e.stamped last) e.step_is;
        whole = λ n other. (saw n other).whole;
        alone = λ n other. (saw n other).alone;
        unfreed = λ l.
            let t = free_told p h xs run r a.there differ i f its a.joined g.lver l.step l.leads l.lver l.owner l.held in
            let was = free_before p h xs r run i f its entry past step e g.lver l.step t l.before in
            never_below g.lver (freed (lease_calls st front f.session (spot_of_line r)))
            (freed_most g.lver (lease_calls st front f.session (spot_of_line r)) was.was (in_lease st front f.session (spot_of_line r) was.was was.lease)
            (ap (λ (c : Call). is_free_write g.lver (new_call 0 0 c)) was.call ∙ t.free))
            unfreed;
        begun = (
          step_of block.sent.sent,
          block.writes,
          ap (λ (b : HistoryBlock). b.lver) block.block ∙ law.wrote.3,
          look.after law.write law.own block law.ordered law.first_ordered,
        );
      };
    }

pub exclusive_grants_are_given : IsToldOf → ExclusiveGrantsAre
exclusive_grants_are_given given p h xs run i f its entry past step e g has mine exclusive =
    let st : Setting = setting_in f in
    let front : Trace = entry ∷ past in
    let all = whole_of p h xs run i f its in
    let mode : g.mode ≡ Exclusive = exclusive_is g.mode exclusive in
    let rests = exclusive_follows st (trace_of f) all.lawful e.later past entry e.whole g has mode f.session
    (ap (λ n. session_numbered st (trace_of f) n) mine ∙ all.known) in
    let law = rests.looked in
    let k = entry_front p h xs run i f its entry past step e in
    let wrote = of_lease st front f.session (spot_of_grant g) law.write law.wrote.0 in
    let named = stood_at p h xs i f front k (spot_of_grant g) law.write wrote in
    let placed = (named.lawful.granting.0.each g f.session has (ap (λ n. session_numbered st front n) mine ∙ named.known)).placed in
    let a = resource_at p h xs i f front k (spot_of_grant g) placed law.write law.wrote.0 law.own law.wrote.2 in
    granted_at p h xs given run i f its entry past step e g a
    (at_resource p h xs i (spot_of_grant g) a (λ z. freed (lease_calls st front f.session z) < g.lver) rests.not_freed)
    (at_resource p h xs i (spot_of_grant g) a (λ z. LawfulExclusiveGrant st front f.session z g.lver) law)
