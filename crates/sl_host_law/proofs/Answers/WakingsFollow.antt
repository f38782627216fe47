-- What a wake makes due by time is followed by the state that it makes.
use Rattle.sl_host_law.proofs.Answers.DecisionsAreCarried.{decisions_are_carried}
use Rattle.sl_host_law.proofs.Answers.LeasesAreCarried.{leases_are_carried}
use Rattle.sl_host_law.specs.Answers.CarriedDecisions.{MayCarry, MayRead, carrying, registering}
use Rattle.sl_host_law.specs.Answers.LeaseDecisions.{MayCarryLease, carrying_lease}
use Rattle.sl_host_law.specs.Answers.RefusalsFollow.{IsAlone}
use Rattle.sl_host_law.specs.Answers.WakingsFollow.{IsIdle, MayGoOn, WakingsFollow, joining_by_time, settling_at}
use Rattle.sl_host_law.specs.Calls.MemberCalls.{is_leaving_alone}
use Rattle.sl_due.specs.CarriedDelta.{carry_delta}
use Rattle.sl_due.specs.CarriedLease.{carry_lease}
use Rattle.sl_due.specs.DueWake.{join_on_wake, settle_on_wake}
use Rattle.sl_due.specs.Steps.{Step, when, with_some}
use Rattle.sl_host_law.proofs.SharedFacts.PlainLists.{at_some}
use Rattle.sl_host_state.specs.KeptState.{HostState, MemberState}
use Rattle.sl_host_state.specs.MadeEffects.{is_ended_by_move}
use Rattle.sl_host_state.specs.HostStands.{Stands}
use Rattle.sl_host_state.specs.declared.kept_parts.JoinCall.{JoinCall}
use Rattle.sl_trace.specs.declared.lease.LeaseNext.{LeaseNext}
use Rattle.sl_host_law.proofs.StepParts.MembersWake.{members_wake}
use Rattle.sl_host_law.specs.StepParts.Wakes.{delta_in, is_free_at, next_by_newest}
use Rattle.sl_words.proofs.Lists.{got_inside, kept}
use Rattle.sl_host_law.specs.Questions.Answers.{settling_in}
use Rattle.sl_host_law.specs.Questions.Jobs.{running_in}
use Rattle.sl_host_law.specs.Questions.Members.{IsMemberAt}
use Rattle.sl_host_law.specs.Replies.RepliesAreTaken.{MayReply}
use Rattle.sl_trace.specs.DeltaDecisions.{DeltaLease, next_by_time}
use Rattle.sl_trace.specs.Sessions.{is_join_done, same_join_step}
use Rattle.sl_trace.specs.declared.delta.DeltaNext.TheVariants.{Disconnect, Join, EndLeaving, MoveConnection, ReadOwn, RegisterAndRead, RefuseJoin, Nothing, WriteClaim, WriteFirst, WriteFree, WriteRenewal}
use Rattle.sl_trace.specs.declared.delta.DeltaNext.{DeltaNext}
use Rattle.sl_time.specs.Times.{dead, fail, join_max, renew}
use Rattle.sl_trace.specs.declared.effects.JoinStep.TheVariants.{ClaimWrite, DecidingRead, FirstRead, FirstRenewal, VerifyRead, WatchRead}
use Rattle.sl_trace.specs.declared.effects.JoinStep.{JoinStep}
use Rattle.sl_trace.specs.declared.effects.Move.TheVariants.{Register}
use Rattle.sl_trace.specs.declared.effects.Purpose.TheVariants.{Joining}
use Rattle.sl_trace.specs.declared.effects.Spot.{Spot}
use Rattle.sl_trace.specs.declared.effects.Work.TheVariants.{Settling}
use Rattle.sl_trace.specs.declared.input.Input.TheVariants.{Wake}
use Rattle.sl_trace.specs.declared.input.Input.{Input}
use Rattle.sl_trace.specs.declared.reply.Reply.TheVariants.{IdLate}
use Rattle.sl_words.proofs.CaseLaws.{some_value}
use Rattle.std.proofs.Common.{ap, refl, subst, sym, ◌∙◌}
use Rattle.std.specs.Prelude.{Bool, None, Option, Some, cond, false, is_some, nat_le, nat_lt, not, true, ℕ, ◌&&◌, ◌+◌, ◌||◌, ◌≡◌}

-- ---- what a joining decides by time

-- It refuses, or reads another time than at first.
abbrev pub IsTimeDecision : DeltaNext → Type 0
IsTimeDecision Nothing = Unit {0}
IsTimeDecision (RefuseJoin r) = is_join_done r ≡ false
IsTimeDecision (ReadOwn step) = same_join_step FirstRead step ≡ false
IsTimeDecision (RegisterAndRead step) = same_join_step FirstRead step ≡ false
IsTimeDecision (WriteClaim d) = ⊥
IsTimeDecision Disconnect = ⊥
IsTimeDecision (WriteFirst d) = ⊥
IsTimeDecision (Join generation renewed) = ⊥
IsTimeDecision (MoveConnection renewed) = ⊥
IsTimeDecision (WriteRenewal d) = ⊥
IsTimeDecision (WriteFree j d) = ⊥
IsTimeDecision (EndLeaving j r) = ⊥

in_watch : (b : Bool) → IsTimeDecision (elim b as (λ z. DeltaNext) [ true ↦ ReadOwn WatchRead | false ↦ Nothing ])
in_watch true = refl
in_watch false = tt

after_claim : (claimed now : ℕ) (a b : Bool)
    → IsTimeDecision (elim a as (λ z. DeltaNext) [ false ↦ Nothing | true ↦ elim b as (λ z. DeltaNext) [ true ↦ RefuseJoin (IdLate claimed now) | false ↦ RegisterAndRead VerifyRead ] ])
after_claim claimed now false b = tt
after_claim claimed now true true = refl
after_claim claimed now true false = refl

pub time_decides : (l : DeltaLease) (now made answered : ℕ) (step : JoinStep) → IsTimeDecision (next_by_time l now made answered step)
time_decides l now made answered FirstRead = in_watch (nat_le (answered + renew l.timing) now)
time_decides l now made answered WatchRead = in_watch (nat_le (answered + renew l.timing) now)
time_decides l now made answered ClaimWrite = after_claim made now (nat_le (answered + dead l.timing) now) (nat_lt (made + join_max l.timing) now)
time_decides l now made answered DecidingRead = tt
time_decides l now made answered VerifyRead = tt
time_decides l now made answered FirstRenewal = tt

-- ---- it may be done

module _ (h : HostState) (x : Step) (k : ℕ) (m : MemberState) (at : IsMemberAt Wake h x k m) (j : ℕ) (its : m.who.job ≡ Some j) (runs : running_in h j ≡ true) where
  may_read : (step : JoinStep) → same_join_step FirstRead step ≡ false → IsIdle h m j → MayRead h m.who (Joining j step)
  may_read step later idle =
      record {
        place = k;
        member = m;
        there = at.there;
        its = refl;
        fits = record {
          later = later;
          job = ap (λ b. b || is_leaving_alone h m j) idle.job;
          turn = ap (λ b. not (true && b)) idle.sector;
          generation = refl;
          value = refl;
          again = refl;
          lease = refl;
        };
      }

  may_read_registered : (step : JoinStep) → same_join_step FirstRead step ≡ false → IsIdle h m j → MayRead (registering m.who h) m.who (Joining j step)
  may_read_registered step later idle =
      let place = at_some (registering m.who h).members m
      (kept (λ (z : MemberState). not (is_ended_by_move (Register m.who.lockspace (h.reading + fail h.config.timing)) z)) h.members m refl (got_inside h.members k m at.there)) in
      record {
        place = place.0;
        member = m;
        there = place.1;
        its = refl;
        fits = record {
          later = later;
          job = ap (λ b. b || is_leaving_alone (registering m.who h) m j) idle.job;
          turn = ap (λ b. not (true && b)) idle.sector;
          generation = refl;
          value = refl;
          again = refl;
          lease = refl;
        };
      }

  same_job : (i : ℕ) → m.who.job ≡ Some i → j ≡ i
  same_job i other = some_value j i (sym its ∙ other)

  may_carry : (next : DeltaNext) → IsTimeDecision next → IsIdle h m j → IsAlone j h → MayCarry Wake h x m.who next
  may_carry Nothing one idle alone = tt
  may_carry (RefuseJoin r) one idle alone =
      λ i other. subst (λ n. MayReply Wake h x n r × (is_join_done r ≡ false) × IsAlone n h) (same_job i other) (record { runs = runs; heed = tt; line = tt }, one, alone)
  may_carry (ReadOwn step) one idle alone = λ i other. subst (λ n. MayRead h m.who (Joining n step)) (same_job i other) (may_read step one idle)
  may_carry (RegisterAndRead step) one idle alone = λ i other. subst (λ n. MayRead (registering m.who h) m.who (Joining n step)) (same_job i other) (may_read_registered step one idle)
  may_carry (WriteClaim d) one idle alone = absurd one
  may_carry Disconnect one idle alone = absurd one
  may_carry (WriteFirst d) one idle alone = absurd one
  may_carry (Join generation renewed) one idle alone = absurd one
  may_carry (MoveConnection renewed) one idle alone = absurd one
  may_carry (WriteRenewal d) one idle alone = absurd one
  may_carry (WriteFree n d) one idle alone = absurd one
  may_carry (EndLeaving n r) one idle alone = absurd one

  by_newest : (l : DeltaLease) (now : ℕ) → MayGoOn h m j → MayCarry Wake h x m.who (next_by_newest l now m.joining.newest)
  by_newest l now may = by m.joining.newest refl where
    answered : (n : JoinCall) → m.joining.newest ≡ Some n → (o : Option ℕ) → n.answered ≡ o
        → MayCarry Wake h x m.who (elim o as (λ z. DeltaNext) [ None ↦ Nothing | Some a ↦ next_by_time l now n.made a n.step ])
    answered n is None was = tt
    answered n is (Some a) was = may_carry (next_by_time l now n.made a n.step) (time_decides l now n.made a n.step) (may.idle n is (ap is_some was)) may.alone

    by : (o : Option JoinCall) → m.joining.newest ≡ o → MayCarry Wake h x m.who (next_by_newest l now o)
    by None is = tt
    by (Some n) is = answered n is n.answered refl

-- ---- the whole

joins : (h : HostState) (x : Step) (k : ℕ) (m : MemberState) → IsMemberAt Wake h x k m → ((j : ℕ) → m.who.job ≡ Some j → running_in h j ≡ true → MayGoOn h m j)
    → Stands Wake (joining_by_time m h) (join_on_wake m.who x)
joins h x k m at may = subst (λ (y : Step). Stands Wake (joining_by_time m h) y) (sym (members_wake Wake h x k m at).joining) (by m.who.job refl) where
  next : DeltaNext
  next = next_by_newest (delta_in h m) h.reading m.joining.newest

  runs : (j : ℕ) → m.who.job ≡ Some j → (b : Bool) → running_in h j ≡ b → Stands Wake (cond b (carrying m.who next h) h) (when b (carry_delta m.who next) x)
  runs j its true going = decisions_are_carried Wake h x m.who next at.stands (by_newest h x k m at j its going (delta_in h m) h.reading (may j its going))
  runs j its false stopped = at.stands

  by : (o : Option ℕ) → m.who.job ≡ o
      → Stands Wake (elim o as (λ z. HostState) [ None ↦ h | Some j ↦ cond (running_in h j) (carrying m.who next h) h ]) (with_some o (λ j. when (running_in h j) (carry_delta m.who next)) x)
  by None its = at.stands
  by (Some j) its = runs j its (running_in h j) refl

settles : (i : Input) (h : HostState) (x : Step) (k : ℕ) (m : MemberState) (at : Spot) (next : LeaseNext) → IsMemberAt i h x k m → next ≡ settling_in h m x at
    → (is_free_at h at ≡ true → MayCarryLease i h x m at Settling next) → Stands i (settling_at m at next h) (settle_on_wake m.who at x)
settles i h x k m at next there rule may =
    subst (λ (y : Step). Stands i (settling_at m at next h) y) (sym ((members_wake i h x k m there).settling at ∙ ap (λ z. when (is_free_at h at) (carry_lease m.who at Settling z) x) (sym rule)))
    (by (is_free_at h at) refl) where
      by : (b : Bool) → is_free_at h at ≡ b → Stands i (cond b (carrying_lease m at Settling next h) h) (when b (carry_lease m.who at Settling next) x)
      by true free = leases_are_carried i h x k m at Settling next there (may free)
      by false free = there.stands

pub wakings_follow : WakingsFollow
wakings_follow = record { joins = joins; settles = settles }
