-- Whose calls are, and that their sessions may call: this follows from the laws of areas and of delta sectors, but for a first read and a
-- look at a request.
use Rattle.sl_due_facts.specs.Acts.TraceSoFar.{entry_of}
use Rattle.sl_due.specs.Steps.{Step, seen}
use Rattle.sl_due_law.specs.LawfulTraces.TraceLaws.{LonesSoFar, SpelledSoFar, is_lone_read}
use Rattle.sl_due_facts.proofs.Jobs.QuietLines.{active_parts}
use Rattle.sl_run.specs.LawfulArea.{LawfulArea, is_area_work}
use Rattle.sl_run.specs.LawfulCalls.{LawfulCalls, may_submit}
use Rattle.sl_run.specs.LawfulDelta.{LawfulDelta, LawfulDeltaCall, LawfulJoinStep}
use Rattle.sl_run.specs.LawForms.{cut_at}
use Rattle.sl_words.proofs.Lists.{contains_cases, contains_first, contains_none, find_fails, find_inside, got_inside, kept, kept_inside}
use Rattle.sl_trace.specs.Sessions.{calls_of, free_write, is_active, is_call_of, is_free_purpose, is_joined, joined_after, leaving_job, recovery_of, refused_after, removed_after, sessions, stage_in, stage_of}
use Rattle.sl_trace.specs.declared.session.Session.{Session}
use Rattle.sl_trace.specs.declared.stage.Stage.{Stage}
use Rattle.sl_trace.specs.declared.stage.Stage.TheVariants.{Deciding, Ended, Freeing, Looking, Refused, Standing, Verifying, Waiting}
use Rattle.sl_due_facts.specs.Facts.CallFacts.{CallFacts}
use Rattle.sl_due_facts.specs.Facts.SessionFacts.{DeltaFacts}
use Rattle.sl_trace.specs.Traces.{Setting, Submitted, Trace, mark, new_call, submitted}
use Rattle.sl_trace.specs.declared.effects.Call.{Call}
use Rattle.sl_trace.specs.declared.effects.Entry.{Entry}
use Rattle.sl_trace.specs.declared.effects.JoinStep.{JoinStep}
use Rattle.sl_trace.specs.declared.effects.JoinStep.TheVariants.{ClaimWrite, DecidingRead, FirstRead, FirstRenewal, VerifyRead, WatchRead}
use Rattle.sl_trace.specs.declared.effects.Purpose.{Purpose}
use Rattle.sl_trace.specs.declared.effects.Purpose.TheVariants.{Joining, Lease, Leaving, Renewal, RequestRead, RequestWrite, SeeRequest, Survey, ValueRead, ValueWrite}
use Rattle.sl_trace.specs.declared.input.Input.{Input}
use Rattle.sl_trace.specs.declared.input.Input.TheVariants.{Answer as Told, Exit, Line, Number, Spawned, Wake}
use Rattle.sl_run_law.proofs.Sessions.CallsAreMade.{old_stays}
use Rattle.sl_words.proofs.CaseLaws.{false_is_true, not_both}
use Rattle.sl_words.proofs.WordLaws.{and_true}
use Rattle.std.proofs.Common.{ap, inl, inr, refl, subst, sym, ◌∙◌}
use Rattle.std.specs.Prelude.{Contains, List, None, Option, Some, [], fold, is_none, is_some, length, suc, take, true, zero, ℕ, ◌&&◌, ◌∷◌, ◌≡◌, ◌⊎◌}

-- ---- the calls of an entry's front

front_inside : (at reading : ℕ) (k : ℕ) (cs : List Call) (ms : List Submitted) (m : Submitted)
    → Contains (fold (λ ds c. new_call at reading c ∷ ds) ms (take k cs)) m → Contains (fold (λ ds c. new_call at reading c ∷ ds) ms cs) m
front_inside at reading zero cs ms m there = old_stays at reading cs ms m there
front_inside at reading (suc k) [] ms m there = there
front_inside at reading (suc k) (c ∷ cs) ms m there = front_inside at reading k cs (new_call at reading c ∷ ms) m there

pub new_inside : (at reading : ℕ) (cs : List Call) (ms : List Submitted) (c : Call) → Contains cs c → Contains (fold (λ ds d. new_call at reading d ∷ ds) ms cs) (new_call at reading c)
new_inside at reading [] ms c there = absurd (contains_none c there)
new_inside at reading (d ∷ cs) ms c there = by (contains_cases d cs c there) (λ old. new_inside at reading cs (new_call at reading d ∷ ms) c old) where
  by : (d ≡ c) ⊎ Contains cs c → (Contains cs c → Contains (fold (λ ds b. new_call at reading b ∷ ds) (new_call at reading d ∷ ms) cs) (new_call at reading c))
      → Contains (fold (λ ds b. new_call at reading b ∷ ds) (new_call at reading d ∷ ms) cs) (new_call at reading c)
  by (inl is) next = subst (λ b. Contains (fold (λ ds z. new_call at reading z ∷ ds) (new_call at reading d ∷ ms) cs) (new_call at reading b)) is (old_stays at reading cs (new_call at reading d ∷ ms) (new_call at reading d) (contains_first (new_call at reading d) ms))
  by (inr old) next = next old

front_calls : (e : Entry) (past : Trace) (k : ℕ) (m : Submitted) → Contains (submitted (cut_at k e ∷ past)) m → Contains (submitted (e ∷ past)) m
front_calls e past k m there = front_inside (length past) e.reading k e.effects.calls (mark past e e.input (submitted past)) m (subst (λ ms. Contains (fold (λ ds c. new_call (length past) e.reading c ∷ ds) ms (take k e.effects.calls)) m) (same e.input) there) where
  same : (i : Input) → mark past (cut_at k e) i (submitted past) ≡ mark past e i (submitted past)
  same (Told n a) = refl
  same (Line text) = refl
  same (Number text) = refl
  same Wake = refl
  same (Exit p) = refl
  same (Spawned p ok) = refl

-- ---- a session that hasn't left

pub front_unfreed : (x : Step) (k : ℕ) (s : Session) → free_write (calls_of (seen x) s) ≡ None → free_write (calls_of (cut_at k (entry_of x) ∷ x.past) s) ≡ None
front_unfreed x k s none = by (free_write (calls_of (cut_at k (entry_of x) ∷ x.past) s)) refl where
  by : (o : Option Submitted) → free_write (calls_of (cut_at k (entry_of x) ∷ x.past) s) ≡ o → free_write (calls_of (cut_at k (entry_of x) ∷ x.past) s) ≡ None
  by None is = is
  by (Some m) is =
      let found = find_inside (λ (d : Submitted). is_free_purpose d.call.purpose) (calls_of (cut_at k (entry_of x) ∷ x.past) s) m is in
      let mine = kept_inside (is_call_of s) (submitted (cut_at k (entry_of x) ∷ x.past)) m found.0 in
      absurd (not_both (is_free_purpose m.call.purpose) found.1
      (find_fails (λ (d : Submitted). is_free_purpose d.call.purpose) (calls_of (seen x) s) m none (kept (is_call_of s) (submitted (seen x)) m mine.1 (front_calls (entry_of x) x.past k m mine.0))))

unfreed : (x : Step) (k : ℕ) (s : Session) → DeltaFacts x.setting (seen x) → Contains (sessions x.setting (seen x)) s → leaving_job x.setting (cut_at k (entry_of x) ∷ x.past) s ≡ None
    → free_write (calls_of (cut_at k (entry_of x) ∷ x.past) s) ≡ None
unfreed x k s facts there stays = by (free_write (calls_of (seen x) s)) refl where
  by : (w : Option Submitted) → free_write (calls_of (seen x) s) ≡ w → free_write (calls_of (cut_at k (entry_of x) ∷ x.past) s) ≡ None
  by None was = front_unfreed x k s was
  by (Some f) was = absurd (false_is_true (sym (ap (λ o. is_some o) stays) ∙ (facts.frees s f there was).0))

pub joined_may : (t : Trace) (s : Session) → is_joined t s ≡ true → free_write (calls_of t s) ≡ None → may_submit (stage_of t s) ≡ true
joined_may t s joined none = by (joined_after t s) (removed_after t s) joined (free_write (calls_of t s)) none where
  by : (o r : Option ℕ) → (is_some o && is_none r) ≡ true → (f : Option Submitted) → f ≡ None
      → may_submit (elim o as (λ z. Stage) [
        | Some k ↦ elim r as (λ z. Stage) [ Some i ↦ Ended | None ↦ elim f as (λ z. Stage) [ Some m ↦ Freeing | None ↦ Standing ] ]
        | None ↦ elim (refused_after t s) as (λ z. Stage) [ Some k ↦ Refused | None ↦ stage_in (calls_of t s) ]
      ]) ≡ true
  by (Some k) None h None free = refl
  by (Some k) None h (Some m) free = absurd (false_is_true (ap (λ o. is_none o) free))
  by (Some k) (Some i) h f free = absurd (false_is_true h)
  by None r h f free = absurd (false_is_true h)

active_may : (st : Setting) (t : Trace) (s : Session) → is_active st t s ≡ true → free_write (calls_of t s) ≡ None → may_submit (stage_of t s) ≡ true
active_may st t s active none =
    joined_may t s (and_true (is_joined t s) (is_none (recovery_of st t s)) (and_true (is_joined t s && is_none (recovery_of st t s)) (is_none (leaving_job st t s)) active).0).0 none

-- ---- by what a call is for

abbrev MayCall : Trace → Session → Type 0
MayCall t s = may_submit (stage_of t s) ≡ true

at_stage : (t : Trace) (s : Session) (g : Stage) → stage_of t s ≡ g → may_submit g ≡ true → MayCall t s
at_stage t s g is may = ap (λ q. may_submit q) is ∙ may

joining_may : (st : Setting) (t : Trace) (s : Session) (c : Submitted) (j : ℕ) (step : JoinStep) → LawfulJoinStep st t s c step → (is_lone_read (Joining j step) ≡ true → MayCall t s) → MayCall t s
joining_may st t s c j FirstRead h lone = lone refl
joining_may st t s c j WatchRead h lone = at_stage t s Looking h.looking refl
joining_may st t s c j DecidingRead h lone = at_stage t s Looking h.looking refl
joining_may st t s c j ClaimWrite h lone = at_stage t s Deciding h.deciding refl
joining_may st t s c j VerifyRead h lone = at_stage t s Waiting h.waiting refl
joining_may st t s c j FirstRenewal h lone = at_stage t s Verifying h.verifying refl

call_may : (st : Setting) (t : Trace) (s : Session) (c : Submitted) (p : Purpose) → LawfulDeltaCall st t s c p → (is_area_work p ≡ true → MayCall t s) → (is_lone_read p ≡ true → MayCall t s) → MayCall t s
call_may st t s c (Joining j step) h active lone = joining_may st t s c j step h lone
call_may st t s c Renewal h active lone = at_stage t s Standing h.standing refl
call_may st t s c (Leaving j) h active lone = at_stage t s Standing h.standing refl
call_may st t s c Survey h active lone = at_stage t s Standing h.standing refl
call_may st t s c SeeRequest h active lone = lone refl
call_may st t s c (Lease work step) h active lone = active refl
call_may st t s c (RequestRead j) h active lone = active refl
call_may st t s c (RequestWrite j owner) h active lone = active refl
call_may st t s c (ValueWrite j) h active lone = active refl
call_may st t s c (ValueRead j) h active lone = active refl

-- ---- the law

pub calls_are_lawful : (x : Step) → CallFacts x.setting (seen x) → DeltaFacts x.setting (seen x) → LawfulArea x.setting x.past (entry_of x) → LawfulDelta x.setting x.past (entry_of x) → SpelledSoFar x → LonesSoFar x
    → LawfulCalls x.setting x.past (entry_of x)
calls_are_lawful x calls frees area deltas spelled lones =
    record {
      owned = λ c there. calls.owned (new_call (length x.past) x.reading c) (new_inside (length x.past) x.reading x.effects.calls (mark x.past (entry_of x) x.input (submitted x.past)) c there);
      alive = λ k c s at its.
          let t : Trace = cut_at k (entry_of x) ∷ x.past in
          call_may x.setting t s (new_call (length x.past) x.reading c) c.purpose (deltas.calls k c s at its)
          (λ area_one.
          let active : is_active x.setting t s ≡ true = area.active k c s at its area_one in
          active_may x.setting t s active (unfreed x k s frees (got_inside (sessions x.setting (seen x)) c.session s its) (active_parts x.setting t s active).1))
          (λ lone. lones k c s at its lone);
      spelled = spelled;
    }
