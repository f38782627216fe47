-- The session of a first read, or of a look at a request, may call.
use Rattle.sl_due_facts.specs.Acts.TraceSoFar.{entry_of}
use Rattle.sl_due.specs.Steps.{Step, seen}
use Rattle.sl_due_law.proofs.LawfulTraces.CallsAreLawful.{front_unfreed, joined_may, new_inside}
use Rattle.sl_due_law.specs.LawfulTraces.LoneCalls.{LoneCall, Lones, Looks_first, Plain_call, Sees_request, sees_request}
use Rattle.sl_due_law.specs.LawfulTraces.TraceLaws.{LonesSoFar, is_lone_read}
use Rattle.sl_run.specs.LawfulCalls.{may_submit}
use Rattle.sl_run.specs.LawForms.{cut_at}
use Rattle.sl_trace.specs.Jobs.{command_numbered}
use Rattle.sl_words.proofs.Lists.{contains_none, got_inside, kept}
use Rattle.sl_words.proofs.Numbers.{number_itself}
use Rattle.sl_words.proofs.Options.{some_of}
use Rattle.sl_due_facts.proofs.Sessions.NameActs.{running_unrefused}
use Rattle.sl_due_facts.proofs.Sessions.NamesAtEnd.{running_unjoined}
use Rattle.sl_trace.specs.Sessions.{calls_of, free_write, is_join_call, is_joined, joined_after, refused_after, removed_after, session_numbered, sessions, stage_after, stage_in, stage_of}
use Rattle.sl_trace.specs.declared.session.Session.{Session}
use Rattle.sl_trace.specs.declared.stage.Stage.{Stage}
use Rattle.sl_trace.specs.declared.stage.Stage.TheVariants.{Ended, Freeing, Looking, Refused, Standing}
use Rattle.sl_due_facts.specs.Facts.HeardCall.{heard_by}
use Rattle.sl_due_facts.specs.Facts.HoldingFacts.{HoldingFacts}
use Rattle.sl_due_facts.specs.Facts.JobFacts.{FitsCommand, JobFacts}
use Rattle.sl_due_facts.specs.Facts.SessionFacts.{DeltaFacts}
use Rattle.sl_trace.specs.Traces.{Submitted, Trace, holdings, is_answered_ok, job_of, mark, new_call, submitted}
use Rattle.sl_trace.specs.declared.effects.Grant.{Grant}
use Rattle.sl_trace.specs.declared.effects.JoinStep.{JoinStep}
use Rattle.sl_trace.specs.declared.effects.JoinStep.TheVariants.{ClaimWrite, DecidingRead, FirstRead, FirstRenewal, VerifyRead, WatchRead}
use Rattle.sl_trace.specs.declared.effects.Purpose.{Purpose}
use Rattle.sl_trace.specs.declared.effects.Purpose.TheVariants.{Joining, Lease, Leaving, Renewal, RequestRead, RequestWrite, SeeRequest, Survey, ValueRead, ValueWrite}
use Rattle.sl_run_law.proofs.Leases.NumberLaws.{number_is_place}
use Rattle.sl_words.proofs.CaseLaws.{none_some, not_both, one_value}
use Rattle.std.proofs.Common.{ap, refl, subst, sym, ◌∙◌}
use Rattle.std.specs.Prelude.{Bool, Contains, List, None, Option, Some, [], false, length, true, ℕ, ◌==◌, ◌∷◌, ◌≡◌}

neither : (p : Purpose) → is_join_call FirstRead p ≡ false → sees_request p ≡ false → is_lone_read p ≡ false
neither (Joining j FirstRead) look sees = look
neither (Joining j WatchRead) look sees = refl
neither (Joining j DecidingRead) look sees = refl
neither (Joining j ClaimWrite) look sees = refl
neither (Joining j VerifyRead) look sees = refl
neither (Joining j FirstRenewal) look sees = refl
neither SeeRequest look sees = sees
neither Renewal look sees = refl
neither Survey look sees = refl
neither (Leaving j) look sees = refl
neither (Lease work step) look sees = refl
neither (RequestRead j) look sees = refl
neither (RequestWrite j owner) look sees = refl
neither (ValueWrite j) look sees = refl
neither (ValueRead j) look sees = refl

step_may : (step : JoinStep) (b : Bool) → may_submit (stage_after step b) ≡ true
step_may FirstRead b = refl
step_may WatchRead b = refl
step_may DecidingRead b = refl
step_may ClaimWrite true = refl
step_may ClaimWrite false = refl
step_may VerifyRead b = refl
step_may FirstRenewal b = refl

purpose_may : (p : Purpose) (b : Bool) → may_submit (elim p as (λ z. Stage) [ Joining j step ↦ stage_after step b | _ ↦ Looking ]) ≡ true
purpose_may (Joining j step) b = step_may step b
purpose_may SeeRequest b = refl
purpose_may Renewal b = refl
purpose_may Survey b = refl
purpose_may (Leaving j) b = refl
purpose_may (Lease work step) b = refl
purpose_may (RequestRead j) b = refl
purpose_may (RequestWrite j owner) b = refl
purpose_may (ValueWrite j) b = refl
purpose_may (ValueRead j) b = refl

newest_may : (ms : List Submitted) → may_submit (stage_in ms) ≡ true
newest_may [] = refl
newest_may (m ∷ ms) = purpose_may m.call.purpose (is_answered_ok m)

unjoined_may : (t : Trace) (s : Session) → joined_after t s ≡ None → refused_after t s ≡ None → may_submit (stage_of t s) ≡ true
unjoined_may t s unjoined unrefused = by (joined_after t s) (refused_after t s) unjoined unrefused where
  by : (o r : Option ℕ) → o ≡ None → r ≡ None
      → may_submit (elim o as (λ z. Stage) [
        | Some k ↦ elim (removed_after t s) as (λ z. Stage) [ Some i ↦ Ended | None ↦ elim (free_write (calls_of t s)) as (λ z. Stage) [ Some m ↦ Freeing | None ↦ Standing ] ]
        | None ↦ elim r as (λ z. Stage) [ Some k ↦ Refused | None ↦ stage_in (calls_of t s) ]
      ]) ≡ true
  by None None h k = newest_may (calls_of t s)
  by None (Some i) h k = absurd (none_some i (sym k))
  by (Some i) r h k = absurd (none_some i (sym h))

pub lones_may : (x : Step) → JobFacts x.setting (seen x) (heard_by x.input) → HoldingFacts x.setting (seen x) (heard_by x.input) → DeltaFacts x.setting (seen x) → Lones x → LonesSoFar x
lones_may x jobs held_facts frees h k c s at its lone = by (h c inside) where
  inside : Contains x.effects.calls c
  inside = got_inside x.effects.calls k c at

  m : Submitted
  m = new_call (length x.past) x.reading c

  made : Contains (submitted (seen x)) (new_call (length x.past) x.reading c)
  made = new_inside (length x.past) x.reading x.effects.calls (mark x.past (entry_of x) x.input (submitted x.past)) c inside

  free : (g : Grant) → Contains (holdings (seen x)) g → (g.session == s.number) ≡ true → (o : Option Submitted) → free_write (calls_of (seen x) s) ≡ o → free_write (calls_of (seen x) s) ≡ None
  free g held mine None is = is
  free g held mine (Some f) is =
      absurd (contains_none g (subst (λ gs. Contains gs g) (frees.frees s f (got_inside (sessions x.setting (seen x)) c.session s its) is).1 (kept (λ (z : Grant). z.session == s.number) (holdings (seen x)) g mine held)))

  by : LoneCall x c → may_submit (stage_of (cut_at k (entry_of x) ∷ x.past) s) ≡ true
  by (Plain_call a b) = absurd (not_both (is_lone_read c.purpose) lone (neither c.purpose a b))
  by (Looks_first j is typed runs) =
      let for : job_of c.purpose ≡ Some j = ap (λ p. job_of p) is in
      let command = some_of (command_numbered x.setting (seen x) j) (jobs.called (new_call (length x.past) x.reading c) j made for) in
      let job : s.job ≡ Some j =
      subst (λ p. FitsCommand x.setting s (new_call (length x.past) x.reading c) command.0 p) is (jobs.fits (new_call (length x.past) x.reading c) j s command.0 made for its command.1)
      in
      unjoined_may (cut_at k (entry_of x) ∷ x.past) s (running_unjoined (seen x) s j job runs) (running_unrefused (seen x) s j job runs)
  by (Sees_request g is told held same) =
      let owner = held_facts.owned g held in
      let one : owner.0 ≡ s = one_value owner.0 s (session_numbered x.setting (seen x) c.session) (subst (λ n. session_numbered x.setting (seen x) n ≡ Some owner.0) same owner.1) its in
      let number : s.number ≡ c.session = number_is_place x.setting (seen x) c.session s its in
      joined_may (cut_at k (entry_of x) ∷ x.past) s (subst (λ z. is_joined (seen x) z ≡ true) one owner.2)
      (front_unfreed x k s (free g held (ap (λ n. n == s.number) (same ∙ sym number) ∙ number_itself s.number) (free_write (calls_of (seen x) s)) refl))
