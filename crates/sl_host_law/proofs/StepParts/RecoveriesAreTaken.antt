-- Recoveries and kills before the input are taken.
use Rattle.sl_due.specs.DueRecovery.{begin_recovery, kill_holders, kills, signal_and_refuse, signal_holders}
use Rattle.sl_due.specs.Steps.{Step, for_each, when}
use Rattle.sl_host_law.proofs.SharedFacts.PlainLists.{at_some}
use Rattle.sl_host_state.specs.StepQuestions.{begins_in, is_kill_due_in}
use Rattle.sl_host_state.specs.KeptState.{HostState, MemberState}
use Rattle.sl_host_state.specs.HostStands.{Stands, Takes}
use Rattle.sl_host_law.proofs.StepParts.RefusalsAreTaken.{refusals_are_taken}
use Rattle.sl_host_law.proofs.StepParts.SignalsAreTaken.{holders, signalling_same}
use Rattle.sl_host_law.specs.StepParts.Recoveries.{RecoveriesAreTaken, killing, recovering_in}
use Rattle.sl_host_law.specs.StepParts.Refusals.{signalling_and_refusing}
use Rattle.sl_host_law.specs.StepParts.Signals.{over, signalling}
use Rattle.sl_words.proofs.Lists.{contains_first, contains_more}
use Rattle.sl_host_law.proofs.Questions.PartsAreTold.{members_part}
use Rattle.sl_host_law.specs.Questions.Members.{IsMemberAt}
use Rattle.sl_trace.specs.declared.effects.Signal.TheVariants.{Kill}
use Rattle.sl_trace.specs.declared.input.Input.TheVariants.{Wake}
use Rattle.sl_trace.specs.declared.input.Input.{Input}
use Rattle.std.proofs.Common.{refl, subst, sym}
use Rattle.std.specs.Prelude.{Bool, Contains, List, None, cond, false, map, true, [], ℕ, ◌&&◌, ◌∷◌, ◌≡◌, ◌||◌}

begins : (h : HostState) (x : Step) (k : ℕ) (m : MemberState) → IsMemberAt Wake h x k m → Stands Wake (recovering_in m h) (begin_recovery m.who x)
begins h x k m at = subst (λ y. Stands Wake (recovering_in m h) y) (sym (members_part Wake h x k m at).recovery) (by (begins_in h m.renewing.recovery)) where
  by : (b : Bool) → Stands Wake (cond b (signalling_and_refusing m None h) h) (when b (signal_and_refuse m.who None) x)
  by true = refusals_are_taken.whole Wake h x k m None at (λ n there. (tt, tt))
  by false = at.stands

killed : (i : Input) (h : HostState) (x : Step) (k : ℕ) (m : MemberState) → IsMemberAt i h x k m → Stands i (killing m h) (kill_holders m.who x)
killed i h x k m at =
    subst (λ y. Stands i (killing m h) y) (sym (members_part i h x k m at).kills) (by (m.joined && (is_kill_due_in h m.renewing.recovery || is_kill_due_in h m.leaving))) where
      by : (b : Bool) → Stands i (cond b (signalling Kill m h) h) (when b (signal_holders Kill m.who) x)
      by true = holders i h x k m Kill at
      by false = at.stands

-- Kills change no member.
killing_same : (m : MemberState) (h : HostState) → (killing m h).members ≡ h.members
killing_same m h = by (m.joined && (is_kill_due_in h m.renewing.recovery || is_kill_due_in h m.leaving)) where
  by : (b : Bool) → (cond b (signalling Kill m h) h).members ≡ h.members
  by true = (signalling_same m Kill h).members
  by false = refl

kill_each : (ms : List MemberState) (i : Input) (h : HostState) (x : Step) → ((m : MemberState) → Contains ms m → Contains h.members m) → Stands i h x
    → Stands i (over ms killing h) (for_each (map (λ m. m.who) ms) kill_holders x)
kill_each [] i h x inside s = s
kill_each (m ∷ ms) i h x inside s =
    let at = at_some h.members m (inside m (contains_first m ms)) in
    kill_each ms i (killing m h) (kill_holders m.who x)
    (λ z there. subst (λ zs. Contains zs z) (sym (killing_same m h)) (inside z (contains_more m ms z there)))
    (killed i h x at.0 m (record { stands = s; there = at.1 }))

all_killed : (h : HostState) → Takes h (over h.members killing h) kills
unfolding kills
all_killed h i x s =
    subst (λ ss. Stands i (over h.members killing h) (for_each ss kill_holders x)) (sym s.keeps.present) (kill_each h.members i h x (λ m there. there) s)

pub recoveries_are_taken : RecoveriesAreTaken
recoveries_are_taken = record { begins = begins; killed = killed; all_killed = all_killed }
