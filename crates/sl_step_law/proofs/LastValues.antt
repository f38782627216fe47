-- Of the values that a holder set before, the last one is enough: it alone can be of the version that is held.
use Rattle.sl_due.specs.Due.{before_input}
use Rattle.sl_due.specs.Steps.{Step, begin_step, seen}
use Rattle.sl_due_leases.proofs.Holdings.LeaseConversions.{spot_is}
use Rattle.sl_due_leases.proofs.Ways.WayFactsHeld.LinesReady.{base_aligned}
use Rattle.sl_due_facts.specs.Facts.WayFacts.{IsAligned}
use Rattle.sl_host_law.proofs.Decisions.FallingIsEnough.{falling_is_enough}
use Rattle.sl_host_law.proofs.SharedFacts.MembersAreSessions.{members_are_sessions}
use Rattle.sl_host_law.proofs.SharedFacts.PlainLists.{at_some}
use Rattle.sl_host_law.proofs.Questions.MembersAnswer.{members_answer}
use Rattle.sl_host_law.specs.Decisions.CommandDecisions.{held_of, held_on, member_named}
use Rattle.sl_host_law.specs.Decisions.DecisionLaws.{AreFalling, ValuesFall}
use Rattle.sl_host_law.specs.Steps.StepFunction.{before_taking}
use Rattle.sl_host_state.specs.HeardInputs.{begun}
use Rattle.sl_host_state.specs.KeptState.{HostState, MemberState}
use Rattle.sl_host_state.specs.MadeEffects.{is_lease_on}
use Rattle.sl_trace.specs.Counts.{values_on}
use Rattle.sl_trace.specs.Leases.{spot_of}
use Rattle.sl_words.proofs.Lists.{find_inside, kept_inside}
use Rattle.sl_trace.specs.Sessions.{calls_of}
use Rattle.sl_step_law.proofs.HoldersLeased.{holdings_are_known}
use Rattle.sl_step_law.proofs.HostsAreReady.{hosts_are_ready}
use Rattle.sl_step_law.proofs.LinesMay.{lines_may}
use Rattle.sl_step_law.proofs.StepsAreTaken.{steps_are_taken}
use Rattle.sl_step_law.proofs.ValuesFall.{falls_at}
use Rattle.sl_step_law.specs.LastValues.{ComesPlainly, IsByteInput, LastValuesAreEnough, LinesMayPlainly, StepsAreTakenPlainly}
use Rattle.sl_step_law.specs.ReadyHosts.{IsReady}
use Rattle.sl_step_law.specs.StepsAreTaken.{IsPlainInput, MayCome}
use Rattle.sl_trace.specs.Traces.{Setting, Trace, is_shared, same_place, spot_of_grant}
use Rattle.sl_trace.specs.declared.command.Command.TheVariants.{Acquire, AddLockspace, Convert, GetLvb, HostStatus, InqLockspace, Release, ReleaseOrphan, RemLockspace, Request, RunProgram, SetKillpath, SetLvb, Status, TakeOver}
use Rattle.sl_trace.specs.declared.command.ResourceArg.{ResourceArg}
use Rattle.sl_trace.specs.declared.effects.Grant.{Grant}
use Rattle.sl_trace.specs.declared.input.Input.TheVariants.{Answer as Told, Exit, Line, Number, Spawned, Wake}
use Rattle.sl_trace.specs.declared.input.Input.{Input}
use Rattle.sl_words.proofs.CaseLaws.{one_value}
use Rattle.std.proofs.Common.{ap, subst, sym}
use Rattle.std.specs.Prelude.{Contains, IsSome, Some, bytes_eq, false, find, is_some, slice_get, true, ℕ, ◌==◌, ◌≡◌}

module _ (h : HostState) (x : Step) (r : IsReady h x) (q : ResourceArg) where
  -- ---- of a member that holds there

  module _ (m : MemberState) (g : Grant) (named : member_named h q.lockspace ≡ Some m) (held : Contains (held_on h m (spot_of q)) g) where
    there : Contains h.members m
    there = (find_inside (λ (z : MemberState). bytes_eq z.who.lockspace q.lockspace) h.members m named).0

    place : (k : ℕ) × (slice_get h.members k ≡ Some m)
    place = at_some h.members m there

    on : Contains (held_of h m) g × (same_place g.path g.offset (spot_of q).path (spot_of q).base ≡ true)
    on = kept_inside (λ (z : Grant). same_place z.path z.offset (spot_of q).path (spot_of q).base) (held_of h m) g held

    spot : spot_of_grant g ≡ spot_of q
    spot = spot_is g (spot_of q) on.1

    has_lease : IsSome (find (is_lease_on (spot_of q)) m.leases)
    has_lease =
        let l = holdings_are_known.leased h x m g r there on.0 in
        ap is_some (subst (λ p. find (is_lease_on p) m.leases ≡ Some l.0) spot l.1)

    aligned : IsAligned x.setting (spot_of q)
    aligned =
        let of_host = kept_inside (λ (z : Grant). z.session == m.who.number) h.holdings g on.0 in
        let owned = r.kept.known.0.facts.holdings.owned g (subst (λ gs. Contains gs g) (sym r.stands.keeps.holdings) of_host.0) in
        subst (IsAligned x.setting) spot (base_aligned x.setting g.offset owned.4)

    fall : is_shared g.mode ≡ false → AreFalling g.lver (values_on x.setting.layout (spot_of q) (calls_of (seen x) m.who))
    fall exclusive =
        falls_at x m.who (spot_of q) g r.kept r.stands.past aligned (members_are_sessions h x.setting (seen x) place.0 m r.stands.keeps place.1).0
        (subst (λ gs. Contains gs g) (sym ((members_answer Wake h x place.0 m (record { stands = r.stands; there = place.1 })).held (spot_of q))) held) exclusive

  values_fall : (m : MemberState) (g : Grant) → member_named h q.lockspace ≡ Some m → Contains (held_on h m (spot_of q)) g → ValuesFall h x q
  values_fall m g named held =
      record {
        leased = λ z is. subst (λ (y : MemberState). IsSome (find (is_lease_on (spot_of q)) y.leases)) (one_value m z (member_named h q.lockspace) named is) (has_lease m g named held);
        falling = λ z k is holds exclusive. fall z k is holds exclusive;
      }

-- ---- each command

pub last_values_are_enough : LastValuesAreEnough
last_values_are_enough h x (SetLvb q p bytes) r = λ m g named held exclusive. falling_is_enough Wake h x q p bytes r.stands (values_fall h x r q m g named held) m g named held exclusive
last_values_are_enough h x (AddLockspace a) r = tt
last_values_are_enough h x (RemLockspace a) r = tt
last_values_are_enough h x (InqLockspace a) r = tt
last_values_are_enough h x (HostStatus a) r = tt
last_values_are_enough h x (Acquire q shared p persistent) r = tt
last_values_are_enough h x (TakeOver q shared p persistent) r = tt
last_values_are_enough h x (RunProgram q shared path) r = tt
last_values_are_enough h x (Release q p) r = tt
last_values_are_enough h x (ReleaseOrphan q) r = tt
last_values_are_enough h x (Convert q shared p) r = tt
last_values_are_enough h x (Request q lver force) r = tt
last_values_are_enough h x (GetLvb q p) r = tt
last_values_are_enough h x (SetKillpath p path) r = tt
last_values_are_enough h x Status r = tt

pub lines_may_plainly : LinesMayPlainly
lines_may_plainly h x text c r says = lines_may h x text c r says (last_values_are_enough h x c r)

-- ---- each input

plain : (i : Input) (h : HostState) (x : Step) → IsReady h x → IsByteInput i → IsPlainInput i h x
plain (Line text) h x r bytes = λ c says. last_values_are_enough h x c r
plain (Told n a) h x r bytes = bytes
plain (Number text) h x r bytes = tt
plain (Exit p) h x r bytes = tt
plain (Spawned p ok) h x r bytes = tt
plain Wake h x r bytes = tt

may : (now : ℕ) (i : Input) (h : HostState) (st : Setting) (es : Trace) → ComesPlainly now i h st es → MayCome now i h st es
may now i h st es c = (c.comes, plain i (before_taking (begun now h)) (before_input (begin_step st es now)) (hosts_are_ready now i h st es c.comes) c.bytes)

pub steps_are_taken_plainly : StepsAreTakenPlainly
steps_are_taken_plainly =
    record {
      may = may;
      comes = λ now i h st es c. steps_are_taken.comes now i h st es (may now i h st es c);
      effects = λ now i h st es c. steps_are_taken.effects now i h st es (may now i h st es c);
      stands = λ now i h st es c. steps_are_taken.stands now i h st es (may now i h st es c);
      sound = λ now i h st es c. steps_are_taken.sound now i h st es (may now i h st es c);
    }
