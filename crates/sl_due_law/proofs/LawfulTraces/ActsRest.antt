-- Where nothing is left of what an answer makes due: what is so then is brought about by each act of an answer, and stays.
use Rattle.sl_due_facts.proofs.Acts.LoopsKeep.{for_each_keeps}
use Rattle.sl_due_facts.specs.Acts.Acts.{Acts, AnswerActs, OtherActs, next_of_settling}
use Rattle.sl_due.specs.DueCommands.{answer_line, carry_decision}
use Rattle.sl_due.specs.CarriedDelta.{carry_delta}
use Rattle.sl_due.specs.DueTimeOuts.{refuse}
use Rattle.sl_due.specs.DueRecovery.{send, signal_holders}
use Rattle.sl_due.specs.DueInputs.{end_holdings, leave_holdings, refuse_jobs_of, started_reply, when_running}
use Rattle.sl_due.specs.CarriedLease.{carry_lease}
use Rattle.sl_due.specs.DueRequests.{bits_due}
use Rattle.sl_due.specs.Steps.{Step, add_reply, add_signal, seen, with_input}
use Rattle.sl_due.specs.declared.decision.Decision.{Decision}
use Rattle.sl_due.specs.declared.decision.Decision.TheVariants.{ConvertsTo, GetsValue, GivesUp, Joins, Leaves, ReadsArea, Replies, Requests, SetsValue, Shares, TakesOver}
use Rattle.sl_due_law.proofs.LawfulTraces.AllIsKept.{all_is_kept}
use Rattle.sl_due_law.specs.LawfulTraces.CarriedFacts.{Kept, Rests}
use Rattle.sl_due_leases.specs.Holdings.Moments.{Known}
use Rattle.sl_due_facts.proofs.Jobs.EffectsAreAllowed.{DecisionAllowed, decision, delta, ended, exited, lease, left, refusal, said}
use Rattle.sl_due_facts.proofs.Jobs.JobLaws.{quiet_facts_conclude}
use Rattle.sl_due_facts.proofs.Jobs.LinesAreAllowed.{IsBegun}
use Rattle.sl_due_facts.proofs.Jobs.NearlyPlainActs.{AnyMove, AnyStart, Anything, Nearly, NoLook, decision_plain, joining_plain, lease_plain, renewal_plain}
use Rattle.sl_due_facts.proofs.Jobs.RepliesComeAfter.{wake_late}
use Rattle.sl_due_facts.specs.Jobs.JobLaws.{IsQuiet}
use Rattle.sl_trace.specs.Jobs.{job_of_start}
use Rattle.sl_trace.specs.declared.lease.LeaseNext.{LeaseNext}
use Rattle.sl_due_law.proofs.Recovery.FreesConclude.{frees_conclude, none_ends, signals_leave_ended, untold}
use Rattle.sl_due_law.proofs.Recovery.StopsConclude.{just_heard, stops_conclude}
use Rattle.sl_due_law.proofs.Recovery.StopsGrow.{stops_effects}
use Rattle.sl_due_law.specs.Recovery.RecoveryLaws.{StopsSoFar}
use Rattle.sl_due_law.specs.Recovery.Stops.{Denies, FreesEnd, JustHeard, Stops}
use Rattle.sl_due_facts.proofs.Connections.ConnectionFactsConclude.{connection_facts_conclude, signal_plainly}
use Rattle.sl_due_facts.proofs.Connections.WatchFactsConclude.{watch_facts_conclude}
use Rattle.sl_due_facts.specs.Connections.ConnectionLaws.{HasConnectionsPlainly}
use Rattle.sl_due_facts.specs.Connections.WatchFacts.{HasRead, HasWatchFacts, HasWatchesPlainly, WatchFacts}
use Rattle.sl_due_facts.proofs.Sessions.NameFactsConclude.{name_facts_conclude}
use Rattle.sl_due_facts.specs.Sessions.SessionLaws.{HasNamesPlainly}
use Rattle.sl_trace.specs.DeltaDecisions.{delta_known, delta_of_session, next_on_wake, next_renewal}
use Rattle.sl_trace.specs.Sessions.{calls_of, holders_of}
use Rattle.sl_trace.specs.declared.delta.DeltaNext.{DeltaNext}
use Rattle.sl_trace.specs.declared.session.Session.{Session}
use Rattle.sl_due_facts.specs.Facts.ConcludingActs.{Concludes}
use Rattle.sl_due_facts.specs.Facts.HeardCall.{heard_by}
use Rattle.sl_due_facts.specs.Facts.SessionFacts.{ConnectionFacts, NameFacts, QuietFacts}
use Rattle.sl_due_facts.specs.Facts.AllFacts.{Whole}
use Rattle.sl_trace.specs.Traces.{Submitted, next_job}
use Rattle.sl_trace.specs.declared.command.Command.{Command}
use Rattle.sl_trace.specs.declared.effects.JoinStep.{JoinStep}
use Rattle.sl_trace.specs.declared.effects.JoinStep.TheVariants.{FirstRead, WatchRead}
use Rattle.sl_trace.specs.declared.effects.Signal.{Signal}
use Rattle.sl_trace.specs.declared.effects.Signal.TheVariants.{Kill, Term}
use Rattle.sl_trace.specs.declared.effects.Work.TheVariants.{Settling}
use Rattle.sl_trace.specs.declared.input.Input.TheVariants.{Exit, Line, Number, Spawned, Wake}
use Rattle.sl_trace.specs.declared.reply.Reply.TheVariants.{BadCommand as Misread, IoTimeout, SpawnFault}
use Rattle.std.proofs.Common.{ap, inl, inr, refl, subst}
use Rattle.std.specs.Prelude.{List, None, ℕ, ◌≡◌, ◌⊎◌}

-- ---- what is concluded part by part is put together

both_conclude : (H I J K : Step → Type 0) → Concludes H I J → Concludes H I K → Concludes H I (λ x. J x × K x)
both_conclude H I J K a b =
    record {
      finds_none = λ x number answer p1 p2 h. (a.finds_none x number answer p1 p2 h, b.finds_none x number answer p1 p2 h);
      finds_nobody = λ x number answer m p1 p2 p3 h. (a.finds_nobody x number answer m p1 p2 p3 h, b.finds_nobody x number answer m p1 p2 p3 h);
      comes_late = λ x number answer m s p1 p2 p3 p4 h. (a.comes_late x number answer m s p1 p2 p3 p4 h, b.comes_late x number answer m s p1 p2 p3 p4 h);
      idles = λ x s m answer p1 p2 h. (a.idles x s m answer p1 p2 h, b.idles x s m answer p1 p2 h);
      joins_on = λ x s j step m answer p1 p2 p3 h. (a.joins_on x s j step m answer p1 p2 p3 h, b.joins_on x s j step m answer p1 p2 p3 h);
      ends_joining = λ x s j step m answer p1 p2 p3 h. (a.ends_joining x s j step m answer p1 p2 p3 h, b.ends_joining x s j step m answer p1 p2 p3 h);
      renewed = λ x s m answer p1 p2 h. (a.renewed x s m answer p1 p2 h, b.renewed x s m answer p1 p2 h);
      freed = λ x s j m answer p1 p2 h. (a.freed x s j m answer p1 p2 h, b.freed x s j m answer p1 p2 h);
      shown = λ x s m bytes p1 p2 p3 p4 h. (a.shown x s m bytes p1 p2 p3 p4 h, b.shown x s m bytes p1 p2 p3 p4 h);
      sees = λ x s number bytes at g p1 p2 p3 h. (a.sees x s number bytes at g p1 p2 p3 h, b.sees x s number bytes at g p1 p2 p3 h);
      leads_on = λ x s work step m answer aim p1 p2 p3 p4 h. (a.leads_on x s work step m answer aim p1 p2 p3 p4 h, b.leads_on x s work step m answer aim p1 p2 p3 p4 h);
      fails = λ x s m j p1 p2 p3 h. (a.fails x s m j p1 p2 p3 h, b.fails x s m j p1 p2 p3 h);
      has_asked = λ x s m j owner p1 p2 p3 h. (a.has_asked x s m j owner p1 p2 p3 h, b.has_asked x s m j owner p1 p2 p3 h);
      has_set = λ x s m j p1 p2 p3 h. (a.has_set x s m j p1 p2 p3 h, b.has_set x s m j p1 p2 p3 h);
      asks = λ x s m j bytes c p1 p2 p3 p4 h. (a.asks x s m j bytes c p1 p2 p3 p4 h, b.asks x s m j bytes c p1 p2 p3 p4 h);
      tells = λ x s m j bytes p1 p2 p3 h. (a.tells x s m j bytes p1 p2 p3 h, b.tells x s m j bytes p1 p2 p3 h);
      warns = λ x s m bytes g signal p1 p2 p3 p4 p5 h. (a.warns x s m bytes g signal p1 p2 p3 p4 p5 h, b.warns x s m bytes g signal p1 p2 p3 p4 p5 h);
      parts = λ x s p1 p2 p3 p4 p5 h. (a.parts x s p1 p2 p3 p4 p5 h, b.parts x s p1 p2 p3 p4 p5 h);
      frees = λ x s p1 p2 p3 p4 p5 h. (a.frees x s p1 p2 p3 p4 p5 h, b.frees x s p1 p2 p3 p4 p5 h);
    }

-- Where less is asked than is known.
conclude_from : (G H I L J : Step → Type 0) → ((x : Step) → G x → H x) → ((x : Step) → L x → I x) → Concludes H I J → Concludes G L J
conclude_from G H I L J first later a =
    record {
      finds_none = λ x number answer p1 p2 h. a.finds_none x number answer p1 p2 (first x h);
      finds_nobody = λ x number answer m p1 p2 p3 h. a.finds_nobody x number answer m p1 p2 p3 (first x h);
      comes_late = λ x number answer m s p1 p2 p3 p4 h. a.comes_late x number answer m s p1 p2 p3 p4 (first x h);
      idles = λ x s m answer p1 p2 h. a.idles x s m answer p1 p2 (first x h);
      joins_on = λ x s j step m answer p1 p2 p3 h. a.joins_on x s j step m answer p1 p2 p3 (first x h);
      ends_joining = λ x s j step m answer p1 p2 p3 h. a.ends_joining x s j step m answer p1 p2 p3 (first x h);
      renewed = λ x s m answer p1 p2 h. a.renewed x s m answer p1 p2 (first x h);
      freed = λ x s j m answer p1 p2 h. a.freed x s j m answer p1 p2 (first x h);
      shown = λ x s m bytes p1 p2 p3 p4 h. a.shown x s m bytes p1 p2 p3 p4 (first x h);
      sees = λ x s number bytes at g p1 p2 p3 h. a.sees x s number bytes at g p1 p2 p3 (later x h);
      leads_on = λ x s work step m answer aim p1 p2 p3 p4 h. a.leads_on x s work step m answer aim p1 p2 p3 p4 (first x h);
      fails = λ x s m j p1 p2 p3 h. a.fails x s m j p1 p2 p3 (first x h);
      has_asked = λ x s m j owner p1 p2 p3 h. a.has_asked x s m j owner p1 p2 p3 (first x h);
      has_set = λ x s m j p1 p2 p3 h. a.has_set x s m j p1 p2 p3 (first x h);
      asks = λ x s m j bytes c p1 p2 p3 p4 h. a.asks x s m j bytes c p1 p2 p3 p4 (first x h);
      tells = λ x s m j bytes p1 p2 p3 h. a.tells x s m j bytes p1 p2 p3 (first x h);
      warns = λ x s m bytes g signal p1 p2 p3 p4 p5 h. a.warns x s m bytes g signal p1 p2 p3 p4 p5 (first x h);
      parts = λ x s p1 p2 p3 p4 p5 h. a.parts x s p1 p2 p3 p4 p5 (later x h);
      frees = λ x s p1 p2 p3 p4 p5 h. a.frees x s p1 p2 p3 p4 p5 (later x h);
    }

-- ---- what rests

abbrev pub Heard : Step → Type 0
Heard x = Kept x × JustHeard x

abbrev pub Rested : Step → Type 0
Rested x = Kept x × Rests x

abbrev RestsAsPairs : Step → Type 0
RestsAsPairs x = IsQuiet x × (HasNamesPlainly x × (HasConnectionsPlainly x × (HasWatchesPlainly x × (Stops x None × FreesEnd x))))

rest_of : (x : Step) → RestsAsPairs x → Rests x
rest_of x h = record { quiet = h.0; names = h.1.0; connections = h.1.1.0; watches = h.1.1.1.0; stops = h.1.1.1.1.0; ends = h.1.1.1.1.1 }

with_stops : (x : Step) → Kept x → Known x × StopsSoFar x × Denies x
with_stops x k = (k.known, k.stops, k.denies)

all_conclude : Concludes Heard Rested RestsAsPairs
all_conclude =
    both_conclude Heard Rested IsQuiet (λ x. HasNamesPlainly x × (HasConnectionsPlainly x × (HasWatchesPlainly x × (Stops x None × FreesEnd x))))
    (conclude_from Heard Whole (λ x. Whole x × IsQuiet x) Rested IsQuiet (λ x h. h.0.known.0) (λ x h. (h.0.known.0, h.1.quiet)) quiet_facts_conclude)
    (both_conclude Heard Rested HasNamesPlainly (λ x. HasConnectionsPlainly x × (HasWatchesPlainly x × (Stops x None × FreesEnd x)))
    (conclude_from Heard Whole (λ x. Whole x × HasNamesPlainly x) Rested HasNamesPlainly (λ x h. h.0.known.0) (λ x h. (h.0.known.0, h.1.names)) name_facts_conclude)
    (both_conclude Heard Rested HasConnectionsPlainly (λ x. HasWatchesPlainly x × (Stops x None × FreesEnd x))
    (conclude_from Heard Whole (λ x. Whole x × HasConnectionsPlainly x) Rested HasConnectionsPlainly (λ x h. h.0.known.0) (λ x h. (h.0.known.0, h.1.connections)) connection_facts_conclude)
    (both_conclude Heard Rested HasWatchesPlainly (λ x. Stops x None × FreesEnd x)
    (conclude_from Heard (λ x. Whole x × HasWatchFacts x) (λ x. Whole x × HasWatchesPlainly x) Rested HasWatchesPlainly (λ x h. (h.0.known.0, h.0.watches)) (λ x h. (h.0.known.0, h.1.watches)) watch_facts_conclude)
    (both_conclude Heard Rested (λ x. Stops x None) FreesEnd
    (conclude_from Heard (λ x. (Known x × StopsSoFar x × Denies x) × JustHeard x) (λ x. (Known x × StopsSoFar x × Denies x) × Stops x None) Rested (λ x. Stops x None) (λ x h. (with_stops x h.0, h.1))
    (λ x h. (with_stops x h.0, h.1.stops)) stops_conclude)
    (conclude_from Heard Whole (λ x. Whole x × FreesEnd x) Rested FreesEnd (λ x h. h.0.known.0) (λ x h. (h.0.known.0, h.1.ends)) frees_conclude)))))

-- ---- where no answer was heard

rests_unheard : (x : Step) → heard_by x.input ≡ None → Kept x → Rests x
rests_unheard x none k =
    record {
      quiet = subst (λ o. QuietFacts x.setting (seen x) o) none k.known.0.facts.quiet;
      names = subst (λ o. NameFacts x.setting (seen x) o) none k.known.0.facts.names;
      connections = subst (λ o. ConnectionFacts x.setting (seen x) o) none k.known.0.facts.connections;
      watches = subst (λ o. WatchFacts x.setting (seen x) o) none k.watches;
      stops = subst (λ o. Stops x o) none k.stops;
      ends = none_ends x (untold x none);
    }

read_signalled : (x : Step) (p : ℕ) (g : Signal) (s : Session) (step : JoinStep) (m : Submitted) (bytes : List ℕ)
    → HasRead x.setting (seen (add_signal p g x)) None s step m bytes → HasRead x.setting (seen x) None s step m bytes
read_signalled x p g s step m bytes r = record { job = r.job; session = r.session; its = r.its; runs = r.runs; inside = r.inside; for = r.for; given = r.given; done = r.done }

-- Signals leave all of it.
rests_signalled : (x : Step) (p : ℕ) (g : Signal) → Rests x → Rests (add_signal p g x)
rests_signalled x p g h =
    record {
      quiet = record { recovering = h.quiet.recovering; leaving = h.quiet.leaving };
      names = record { apart = h.names.apart; begun = h.names.begun; done = h.names.done; waits = h.names.waits };
      connections = signal_plainly x p g h.connections;
      watches = record {
        first = λ s m bytes r. h.watches.first s m bytes (read_signalled x p g s FirstRead m bytes r);
        same = λ s f m first bytes r q. h.watches.same s f m first bytes (read_signalled x p g s FirstRead f first r) (read_signalled x p g s WatchRead m bytes q);
      };
      stops = (stops_effects (λ i. None)).signals x p g h.stops;
      ends = signals_leave_ended x p g h.ends;
    }

rests_killed : (x : Step) (s : Session) → Rests x → Rests (signal_holders Kill s x)
rests_killed x s h = for_each_keeps Rests (holders_of (seen x) s) (λ p. send p Kill) x (λ p there y k. rests_signalled y p Kill k) h

-- ---- the input stays through an act

abbrev Unheard : Step → Type 0
Unheard z = heard_by z.input ≡ None

unheard : Nearly Unheard
unheard =
    record {
      ends = λ y e h. h;
      signals = λ y q signal h. h;
      moves = λ y m may h. h;
      grants = λ y g h. h;
      starts = λ y k may h. h;
      replies = λ y j r may h. h;
      calls = λ y s path p o op no_look h. h;
      rest = λ y h. h;
    }

woken : (x : Step) → x.input ≡ Wake → Unheard x
woken x wake = ap (λ i. heard_by i) wake

carried_unheard : (x : Step) (text : List ℕ) (j : ℕ) (c : Command) (d : Decision) → Unheard (carry_decision j c d (with_input (Line text) x))
unfolding carry_decision
carried_unheard x text j c d = by (decision_plain Unheard (with_input (Line text) x) j c d) where
  begun : (z : Decision) → IsBegun z → Unheard (carry_decision j c z (with_input (Line text) x))
  begun (Joins n a) k = refl
  begun (Leaves s) k = absurd k
  begun (Replies r) k = absurd k
  begun (ReadsArea s r) k = absurd k
  begun (Shares s lver) k = absurd k
  begun (GivesUp s g) k = absurd k
  begun (TakesOver s g) k = absurd k
  begun (ConvertsTo s r mode) k = absurd k
  begun (Requests s r) k = absurd k
  begun (SetsValue s spot v) k = absurd k
  begun (GetsValue s spot) k = absurd k

  by : IsBegun d ⊎ DecisionAllowed Unheard Anything NoLook AnyStart (with_input (Line text) x) j c d → Unheard (carry_decision j c d (with_input (Line text) x))
  by (inr may) = decision Unheard Unheard Anything NoLook AnyStart AnyMove unheard (with_input (Line text) x) j c d may (λ n a joins. refl) refl
  by (inl k) = begun d k

-- ---- all acts

-- With what it makes of a step, where no answer is heard in it.
pub rested : (y : Step) → Unheard y → Kept y → Rested y
rested y none k = (k, rests_unheard y none k)

pub other_acts_rest : OtherActs Rested
other_acts_rest =
    let a : Acts Kept Kept = all_is_kept in
    let p : Nearly Unheard = unheard in
    record {
      kills = λ x s has due h. (a.kills x s has due h.0, rests_killed x s h.1);
      times_out = λ x j m wake bare runs waits late_one h.
          rested (refuse j (IoTimeout m.call.number m.reading x.reading) x) (refusal Unheard Unheard Anything NoLook AnyStart AnyMove p x j (IoTimeout m.call.number m.reading x.reading) tt (λ z is. tt) (woken x wake))
          (a.times_out x j m wake bare runs waits late_one h.0);
      counts = λ x text wake bare h. rested (with_input (Number text) x) refl (a.counts x text wake bare h.0);
      exits = λ x n wake bare one h.
          let w : Step = with_input (Exit n) x in
          rested (refuse_jobs_of n (leave_holdings n w)) (exited Unheard Unheard Anything NoLook AnyStart AnyMove p (leave_holdings n w) n (λ j there. tt) (left Unheard Unheard Anything NoLook AnyStart AnyMove p w n refl))
          (a.exits x n wake bare one h.0);
      exits_as_none = λ x n wake bare none h. rested (with_input (Exit n) x) refl (a.exits_as_none x n wake bare none h.0);
      starts = λ x n ok wake bare expected h. rested (with_input (Spawned n ok) x) refl (a.starts x n ok wake bare expected h.0);
      fails_to_start = λ x n input h.
          rested (when_running (job_of_start (seen x) n) SpawnFault (end_holdings n x)) (said Unheard Unheard Anything NoLook AnyStart AnyMove p (end_holdings n x) (job_of_start (seen x) n) SpawnFault (λ j is. tt)
          (ended Unheard Unheard Anything NoLook AnyStart AnyMove p x n (ap (λ i. heard_by i) input))) (a.fails_to_start x n input h.0);
      signals_instead = λ x n o input stood h. rested (add_signal o Term x) (ap (λ i. heard_by i) input) (a.signals_instead x n o input stood h.0);
      says_started = λ x n j input is runs h. rested (add_reply j (started_reply (seen x) n) x) (ap (λ i. heard_by i) input) (a.says_started x n j input is runs h.0);
      misreads = λ x text column wake bare says h. rested (answer_line text (next_job x.setting (seen x)) (Misread column) x) refl (a.misreads x text column wake bare says h.0);
      answers = λ x text c r wake bare says is h. rested (answer_line text (next_job x.setting (seen x)) r x) refl (a.answers x text c r wake bare says is h.0);
      carries = λ x text c d wake bare says is more h.
          rested (carry_decision (next_job x.setting (seen x)) c d (with_input (Line text) x)) (carried_unheard x text (next_job x.setting (seen x)) c d) (a.carries x text c d wake bare says is more h.0);
      joins_in_time = λ x s j has wake is runs h.
          let n : DeltaNext = next_on_wake (delta_of_session x.setting s) x.reading (calls_of (seen x) s) in
          rested (carry_delta s n x) (delta Unheard Unheard Anything NoLook AnyStart AnyMove p x s n (joining_plain x s n (wake_late (delta_of_session x.setting s) x.reading (calls_of (seen x) s))) (woken x wake))
          (a.joins_in_time x s j has wake is runs h.0);
      renews = λ x s has wake joined h.
          let bits : List ℕ = bits_due x.setting (calls_of (seen x) s) x.reading in
          let n : DeltaNext = next_renewal (delta_of_session x.setting s) x.reading (delta_known x.setting (seen x) s) bits in
          rested (carry_delta s n x) (delta Unheard Unheard Anything NoLook AnyStart AnyMove p x s n (renewal_plain x s (delta_of_session x.setting s) x.reading (delta_known x.setting (seen x) s) bits) (woken x wake))
          (a.renews x s has wake joined h.0);
      settles = λ x s spot has wake active whole none h.
          let n : LeaseNext = next_of_settling x.setting (seen x) s spot in
          rested (carry_lease s spot Settling n x) (lease Unheard Unheard Anything NoLook AnyStart AnyMove p x s spot Settling n (lease_plain x s spot Settling n) (woken x wake))
          (a.settles x s spot has wake active whole none h.0);
      parts = λ x s p1 p2 p3 p4 p5 h. (a.parts x s p1 p2 p3 p4 p5 h.0, rest_of _ (all_conclude.parts x s p1 p2 p3 p4 p5 h));
      frees = λ x s p1 p2 p3 p4 p5 h. (a.frees x s p1 p2 p3 p4 p5 h.0, rest_of _ (all_conclude.frees x s p1 p2 p3 p4 p5 h));
    }

pub answer_acts_rest : AnswerActs Heard Rested
answer_acts_rest =
    let a : Acts Kept Kept = all_is_kept in
    record {
      hears = λ x number answer wake bare expected h. (a.hears x number answer wake bare expected h.0, just_heard x number answer wake h.0.denies h.0.partings);
      finds_none = λ x number answer p1 p2 h. (h.0, rest_of x (all_conclude.finds_none x number answer p1 p2 h));
      finds_nobody = λ x number answer m p1 p2 p3 h. (h.0, rest_of x (all_conclude.finds_nobody x number answer m p1 p2 p3 h));
      comes_late = λ x number answer m s p1 p2 p3 p4 h. (h.0, rest_of x (all_conclude.comes_late x number answer m s p1 p2 p3 p4 h));
      idles = λ x s m answer p1 p2 h. (h.0, rest_of x (all_conclude.idles x s m answer p1 p2 h));
      joins_on = λ x s j step m answer p1 p2 p3 h. (a.joins_on x s j step m answer p1 p2 p3 h.0, rest_of _ (all_conclude.joins_on x s j step m answer p1 p2 p3 h));
      ends_joining = λ x s j step m answer p1 p2 p3 h. (a.ends_joining x s j step m answer p1 p2 p3 h.0, rest_of _ (all_conclude.ends_joining x s j step m answer p1 p2 p3 h));
      renewed = λ x s m answer p1 p2 h. (a.renewed x s m answer p1 p2 h.0, rest_of _ (all_conclude.renewed x s m answer p1 p2 h));
      freed = λ x s j m answer p1 p2 h. (a.freed x s j m answer p1 p2 h.0, rest_of _ (all_conclude.freed x s j m answer p1 p2 h));
      shown = λ x s m bytes p1 p2 p3 p4 h. (a.shown x s m bytes p1 p2 p3 p4 h.0, rest_of _ (all_conclude.shown x s m bytes p1 p2 p3 p4 h));
      sees = λ x s number bytes at g p1 p2 p3 h. (a.sees x s number bytes at g p1 p2 p3 h.0, rest_of _ (all_conclude.sees x s number bytes at g p1 p2 p3 h));
      leads_on = λ x s work step m answer aim p1 p2 p3 p4 h. (a.leads_on x s work step m answer aim p1 p2 p3 p4 h.0, rest_of _ (all_conclude.leads_on x s work step m answer aim p1 p2 p3 p4 h));
      fails = λ x s m j p1 p2 p3 h. (a.fails x s m j p1 p2 p3 h.0, rest_of _ (all_conclude.fails x s m j p1 p2 p3 h));
      has_asked = λ x s m j owner p1 p2 p3 h. (a.has_asked x s m j owner p1 p2 p3 h.0, rest_of _ (all_conclude.has_asked x s m j owner p1 p2 p3 h));
      has_set = λ x s m j p1 p2 p3 h. (a.has_set x s m j p1 p2 p3 h.0, rest_of _ (all_conclude.has_set x s m j p1 p2 p3 h));
      asks = λ x s m j bytes c p1 p2 p3 p4 h. (a.asks x s m j bytes c p1 p2 p3 p4 h.0, rest_of _ (all_conclude.asks x s m j bytes c p1 p2 p3 p4 h));
      tells = λ x s m j bytes p1 p2 p3 h. (a.tells x s m j bytes p1 p2 p3 h.0, rest_of _ (all_conclude.tells x s m j bytes p1 p2 p3 h));
      warns = λ x s m bytes g signal p1 p2 p3 p4 p5 h. (a.warns x s m bytes g signal p1 p2 p3 p4 p5 h.0, rest_of _ (all_conclude.warns x s m bytes g signal p1 p2 p3 p4 p5 h));
    }
