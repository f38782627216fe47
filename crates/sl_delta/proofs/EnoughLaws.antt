-- What is kept decides as the calls do.
use Rattle.sl_delta.specs.DeltaDecisions.{after_deciding, after_join, after_join_read, after_join_write, after_verify, after_watch, on_wake, time_next, verified}
use Rattle.sl_delta.specs.Laws.{HostsKeepTheSame, KeptIsEnough}
use Rattle.sl_delta.specs.OwnSector.{OwnState, OwnStands, after_answer, after_call, call_made, lease_of}
use Rattle.sl_host_state.specs.declared.kept_parts.JoinCall.{JoinCall}
use Rattle.sl_host_state.specs.MadeEffects.{joining_calling}
use Rattle.sl_host_state.specs.HostStands.{JoinStands}
use Rattle.sl_trace.specs.DeltaDecisions.{DeltaLease, join_step_of, next_after_deciding, next_after_join_read, next_after_join_write, next_after_verify, next_after_watch, next_by_time, next_in_joining, next_on_wake}
use Rattle.sl_trace.specs.Sessions.{delta_written, generation_in, is_join_call}
use Rattle.sl_trace.specs.declared.delta.DeltaNext.TheVariants.{Nothing}
use Rattle.sl_trace.specs.declared.delta.DeltaNext.{DeltaNext}
use Rattle.sl_trace.specs.declared.session.Session.{Session}
use Rattle.sl_trace.specs.Traces.{Answered, Submitted}
use Rattle.sl_trace.specs.declared.effects.JoinStep.TheVariants.{ClaimWrite, DecidingRead, FirstRead, FirstRenewal, VerifyRead, WatchRead}
use Rattle.sl_trace.specs.declared.effects.JoinStep.{JoinStep}
use Rattle.sl_trace.specs.declared.effects.Purpose.TheVariants.{Joining}
use Rattle.sl_trace.specs.declared.input.Answer.TheVariants.{Failed, Read, Written}
use Rattle.sl_trace.specs.declared.input.Answer.{Answer}
use Rattle.std.proofs.Common.{Bool, List, None, Option, Some, [], ap, cond, option_map, refl, sym, ℕ, ◌∙◌, ◌∷◌, ◌≡◌}

-- ---- after an answer of a joining

after_watch_is : (o : OwnState) (ms : List Submitted) (read_at : ℕ) (bytes : List ℕ) → JoinStands o.joining ms → after_watch o read_at bytes ≡ next_after_watch (lease_of o) ms read_at bytes
unfolding next_after_watch
after_watch_is o ms read_at bytes k = rw (k.watched, k.since) refl

after_deciding_is : (o : OwnState) (ms : List Submitted) (now : ℕ) (bytes : List ℕ) → JoinStands o.joining ms → after_deciding o now bytes ≡ next_after_deciding (lease_of o) ms now bytes
unfolding next_after_deciding
after_deciding_is o ms now bytes k = rw k.watched refl

after_verify_is : (o : OwnState) (ms : List Submitted) (now : ℕ) (bytes : List ℕ) → JoinStands o.joining ms → after_verify o now bytes ≡ next_after_verify (lease_of o) ms now bytes
unfolding next_after_verify
after_verify_is o ms now bytes k = ap (λ claim. elim claim as (λ _. DeltaNext) [ None ↦ Nothing | Some claim ↦ verified o now bytes claim ]) (sym k.claim)

read_is : (o : OwnState) (now : ℕ) (m : Submitted) (ms : List Submitted) (bytes : List ℕ) (step : JoinStep) → JoinStands o.joining ms
    → after_join_read o now m.reading bytes step ≡ next_after_join_read (lease_of o) ms now m bytes step
read_is o now m ms bytes FirstRead k = refl
read_is o now m ms bytes WatchRead k = after_watch_is o ms m.reading bytes k
read_is o now m ms bytes DecidingRead k = after_deciding_is o ms now bytes k
read_is o now m ms bytes ClaimWrite k = refl
read_is o now m ms bytes VerifyRead k = after_verify_is o ms now bytes k
read_is o now m ms bytes FirstRenewal k = refl

write_is : (o : OwnState) (g : ℕ) (m : Submitted) (step : JoinStep) → g ≡ o.generation → after_join_write o m.reading step ≡ next_after_join_write g m step
write_is o g m FirstRead e = refl
write_is o g m WatchRead e = refl
write_is o g m DecidingRead e = refl
write_is o g m ClaimWrite e = refl
write_is o g m VerifyRead e = refl
write_is o g m FirstRenewal e = rw e refl

-- Of a list of calls for which the joining alone stands, too.
pub joining_by : (o : OwnState) (g now : ℕ) (m : Submitted) (ms : List Submitted) (step : JoinStep) (answer : Answer) → JoinStands o.joining ms → g ≡ o.generation
    → after_join o now m.call.number m.reading step answer ≡ next_in_joining (lease_of o) g ms now m step answer
unfolding next_in_joining
joining_by o g now m ms step (Read bytes) k e = read_is o now m ms bytes step k
joining_by o g now m ms step Written k e = write_is o g m step e
joining_by o g now m ms step Failed k e = refl

joining_is : (s : Session) (o : OwnState) (now : ℕ) (m : Submitted) (ms : List Submitted) (step : JoinStep) (answer : Answer) → OwnStands s o ms
    → after_join o now m.call.number m.reading step answer ≡ next_in_joining (lease_of o) (generation_in s ms) ms now m step answer
joining_is s o now m ms step answer k = joining_by o (generation_in s ms) now m ms step answer k.joining k.generation

pub told_is : (o : OwnState) (now call made : ℕ) (j : ℕ) (step : JoinStep) (answer : Answer)
    → after_join (after_answer (Joining j step) answer now o) now call made step answer ≡ after_join o now call made step answer
told_is o now call made j FirstRead (Read bytes) = refl
told_is o now call made j WatchRead (Read bytes) = refl
told_is o now call made j DecidingRead (Read bytes) = refl
told_is o now call made j ClaimWrite (Read bytes) = refl
told_is o now call made j VerifyRead (Read bytes) = refl
told_is o now call made j FirstRenewal (Read bytes) = refl
told_is o now call made j FirstRead Written = refl
told_is o now call made j WatchRead Written = refl
told_is o now call made j DecidingRead Written = refl
told_is o now call made j ClaimWrite Written = refl
told_is o now call made j VerifyRead Written = refl
told_is o now call made j FirstRenewal Written = refl
told_is o now call made j step Failed = refl

-- ---- by time

time_is : (l : DeltaLease) (now made answered : ℕ) (step : JoinStep) → time_next l.timing now made answered step ≡ next_by_time l now made answered step
time_is l now made answered FirstRead = refl
time_is l now made answered WatchRead = refl
time_is l now made answered DecidingRead = refl
time_is l now made answered ClaimWrite = refl
time_is l now made answered VerifyRead = refl
time_is l now made answered FirstRenewal = refl

-- What a newest call makes due.
due_by : OwnState → ℕ → Option JoinCall → DeltaNext
due_by o now newest = elim newest [ None ↦ Nothing | Some n ↦ elim n.answered [ None ↦ Nothing | Some at ↦ time_next o.timing now n.made at n.step ] ]

wake_by : (o : OwnState) (now made : ℕ) (step : Option JoinStep) (answer : Option Answered)
    → due_by o now (option_map (λ step. record { step = step; made = made; answered = option_map (λ a. a.reading) answer }) step)
    ≡ elim answer as (λ _. DeltaNext) [ None ↦ Nothing | Some a ↦ elim step [ None ↦ Nothing | Some at ↦ next_by_time (lease_of o) now made a.reading at ] ]
unfolding due_by
wake_by o now made None None = refl
wake_by o now made None (Some a) = refl
wake_by o now made (Some step) None = refl
wake_by o now made (Some step) (Some a) = time_is (lease_of o) now made a.reading step

wake_is : (s : Session) (o : OwnState) (now : ℕ) (ms : List Submitted) → OwnStands s o ms → on_wake o now ≡ next_on_wake (lease_of o) now ms
unfolding next_on_wake due_by
wake_is s o now [] k = ap (due_by o now) (sym k.joining.newest)
wake_is s o now (m ∷ ms) k = ap (due_by o now) (sym k.joining.newest) ∙ wake_by o now m.reading (join_step_of m.call.purpose) m.answer

pub kept_is_enough : KeptIsEnough
kept_is_enough = record {
  begins = λ s tm z host. record {
    joining = record { watched = refl; since = refl; claim = refl; newest = refl };
    generation = refl;
    seq = refl;
    renewed = refl;
    busy = tt;
    freed = refl;
  };
  joining = joining_is;
  told = told_is;
  wake = wake_is;
}

-- ---- a host's state

newest_is : (step : Option JoinStep) (made : ℕ) (answer : Option Answered) → answer ≡ None
    → option_map (λ step. record { step = step; made = made; answered = option_map (λ a. a.reading) answer }) step ≡ option_map (call_made made) step
newest_is None made answer none = refl
newest_is (Some step) made answer none = ap (λ a. Some (record { step = step; made = made; answered = option_map (λ a. a.reading) a })) none

called_is : (o : OwnState) (m : Submitted) → m.answer ≡ None → joining_calling m o.joining ≡ (after_call m.call.purpose (delta_written m) m.reading o).joining
called_is o m none =
    let first : Bool = is_join_call FirstRead m.call.purpose in
    ap (λ n. record {
      watched = cond first None o.joining.watched;
      since = cond first None o.joining.since;
      claim = cond (is_join_call ClaimWrite m.call.purpose) (delta_written m) o.joining.claim;
      newest = n;
    }) (newest_is (join_step_of m.call.purpose) m.reading m.answer none)

pub hosts_keep_the_same : HostsKeepTheSame
hosts_keep_the_same = record {
  joining_called = called_is;
  known_called = λ o m recovering leaving. refl;
  joining_answered = λ h c a j. refl;
}
