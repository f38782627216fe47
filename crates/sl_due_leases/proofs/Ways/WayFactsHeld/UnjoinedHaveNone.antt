-- A session whose joining runs has no leases: its calls are those of a joining.
use Rattle.sl_due_facts.specs.Acts.Acts.{Has, Hears}
use Rattle.sl_due.specs.Steps.{Step, seen}
use Rattle.sl_due_leases.proofs.Ways.WayFactsHeld.DeltasFit.{IsJoining}
use Rattle.sl_due_leases.proofs.Ways.WayFactsHeld.HeardStands.{HeardCall, heard_call}
use Rattle.sl_due_leases.proofs.Ways.WayFactsHeld.LeaseNextsLeave.{IsLate}
use Rattle.sl_trace.specs.Jobs.{command_numbered}
use Rattle.sl_run.specs.LawfulArea.{is_area_work}
use Rattle.sl_trace.specs.Leases.{is_lease_call, is_on, lease_calls, lease_step}
use Rattle.sl_trace.specs.Sessions.{calls_of, is_join_done, joined_after}
use Rattle.sl_trace.specs.declared.session.Session.{Session}
use Rattle.sl_due_facts.specs.Facts.JobFacts.{FitsCommand}
use Rattle.sl_due_facts.specs.Facts.AllFacts.{Whole}
use Rattle.sl_trace.specs.Traces.{Replied, Submitted, is_running, is_write, job_of, reply_to}
use Rattle.sl_trace.specs.declared.effects.JoinStep.{JoinStep}
use Rattle.sl_trace.specs.declared.effects.Purpose.TheVariants.{Joining, Lease, Leaving, Renewal, RequestRead, RequestWrite, SeeRequest, Survey, ValueRead, ValueWrite}
use Rattle.sl_trace.specs.declared.effects.Purpose.{Purpose}
use Rattle.sl_trace.specs.declared.effects.Spot.{Spot}
use Rattle.sl_trace.specs.declared.input.Answer.{Answer}
use Rattle.sl_run_law.proofs.Sessions.WritesAreCovered.{joinings_are_in_turn}
use Rattle.sl_run_law.specs.Sessions.SessionLaws.{all_done, fits, fits_as, has_reply, is_in_turn}
use Rattle.sl_words.proofs.Lists.{contains_cases, contains_first, contains_more, contains_none}
use Rattle.sl_words.proofs.Options.{none_is, some_of}
use Rattle.sl_words.proofs.CaseLaws.{false_is_true}
use Rattle.sl_words.proofs.WordLaws.{and_true}
use Rattle.sl_words.specs.Words.{choose}
use Rattle.std.proofs.Common.{ap, inl, inr, refl, subst, ◌∙◌}
use Rattle.std.specs.List.{list_all}
use Rattle.std.specs.Prelude.{Bool, Contains, List, None, Option, Some, [], cond, false, filter, is_some, option_and_then, true, ℕ, ◌&&◌, ◌+◌, ◌∷◌, ◌≡◌, ◌⊎◌}

-- ---- a session that isn't joined has no leases

all_of : (p : Submitted → Bool) (ms : List Submitted) (m : Submitted) → list_all p ms ≡ true → Contains ms m → p m ≡ true
all_of p [] m h there = absurd (contains_none m there)
all_of p (n ∷ ms) m h there = by (and_true (p n) (list_all p ms) h) (contains_cases n ms m there) (λ rest inside. all_of p ms m rest inside) where
  by : (p n ≡ true) × (list_all p ms ≡ true) → (n ≡ m) ⊎ Contains ms m → (list_all p ms ≡ true → Contains ms m → p m ≡ true) → p m ≡ true
  by both (inl is) rest = subst (λ (z : Submitted). p z ≡ true) is both.0
  by both (inr inside) rest = rest both.1 inside

in_turn_none : (ms : List Submitted) → is_in_turn ms ≡ true → (m : Submitted) → Contains ms m → is_lease_call m ≡ false
in_turn_none [] h m there = absurd (contains_none m there)
in_turn_none (n ∷ ms) h m there = by (and_true (fits n) (all_done ms) h) (contains_cases n ms m there) where
  joins : (p : Purpose) (w : Bool) → fits_as p w ≡ true → is_some (lease_step p) ≡ false
  joins (Joining j step) w is = refl
  joins Renewal w is = absurd (false_is_true is)
  joins Survey w is = absurd (false_is_true is)
  joins (Leaving j) w is = absurd (false_is_true is)
  joins (Lease work step) w is = absurd (false_is_true is)
  joins (RequestRead j) w is = absurd (false_is_true is)
  joins (RequestWrite j owner) w is = absurd (false_is_true is)
  joins SeeRequest w is = absurd (false_is_true is)
  joins (ValueWrite j) w is = absurd (false_is_true is)
  joins (ValueRead j) w is = absurd (false_is_true is)

  by : (fits n ≡ true) × (all_done ms ≡ true) → (n ≡ m) ⊎ Contains ms m → is_lease_call m ≡ false
  by both (inl is) = subst (λ (z : Submitted). is_lease_call z ≡ false) is (joins n.call.purpose (is_write n.call.op) both.0)
  by both (inr inside) =
      let done = and_true (fits m) (has_reply m) (all_of (λ d. fits d && has_reply d) ms m both.1 inside) in
      joins m.call.purpose (is_write m.call.op) done.0

-- Nor any work on an area.
pub in_turn_area : (ms : List Submitted) → is_in_turn ms ≡ true → (m : Submitted) → Contains ms m → is_area_work m.call.purpose ≡ false
in_turn_area [] h m there = absurd (contains_none m there)
in_turn_area (n ∷ ms) h m there = by (and_true (fits n) (all_done ms) h) (contains_cases n ms m there) where
  joins : (p : Purpose) (w : Bool) → fits_as p w ≡ true → is_area_work p ≡ false
  joins (Joining j step) w is = refl
  joins Renewal w is = absurd (false_is_true is)
  joins Survey w is = absurd (false_is_true is)
  joins (Leaving j) w is = absurd (false_is_true is)
  joins (Lease work step) w is = absurd (false_is_true is)
  joins (RequestRead j) w is = absurd (false_is_true is)
  joins (RequestWrite j owner) w is = absurd (false_is_true is)
  joins SeeRequest w is = absurd (false_is_true is)
  joins (ValueWrite j) w is = absurd (false_is_true is)
  joins (ValueRead j) w is = absurd (false_is_true is)

  by : (fits n ≡ true) × (all_done ms ≡ true) → (n ≡ m) ⊎ Contains ms m → is_area_work m.call.purpose ≡ false
  by both (inl is) = subst (λ (z : Submitted). is_area_work z.call.purpose ≡ false) is (joins n.call.purpose (is_write n.call.op) both.0)
  by both (inr inside) =
      let done = and_true (fits m) (has_reply m) (all_of (λ d. fits d && has_reply d) ms m both.1 inside) in
      joins m.call.purpose (is_write m.call.op) done.0

pub no_area_work : (x : Step) (s : Session) → Whole x → Has x s → joined_after (seen x) s ≡ None → (m : Submitted) → Contains (calls_of (seen x) s) m → is_area_work m.call.purpose ≡ false
no_area_work x s w has none m there = in_turn_area (calls_of (seen x) s) (joinings_are_in_turn x.setting (seen x) s w.orderly has none) m there

filter_none : (p : Submitted → Bool) (ms : List Submitted) → ((m : Submitted) → Contains ms m → p m ≡ false) → filter p ms ≡ []
filter_none p [] none = refl
filter_none p (m ∷ ms) none = ap (λ b. cond b (m ∷ filter p ms) (filter p ms)) (none m (contains_first m ms)) ∙ filter_none p ms (λ d there. none d (contains_more m ms d there))

pub no_leases : (x : Step) (s : Session) → Whole x → Has x s → joined_after (seen x) s ≡ None → (at : Spot) → lease_calls x.setting (seen x) s at ≡ []
no_leases x s w has none at =
    filter_none (λ (m : Submitted). is_lease_call m && is_on x.setting.layout at m.call) (calls_of (seen x) s)
    (λ m there. ap (λ b. b && is_on x.setting.layout at m.call) (in_turn_none (calls_of (seen x) s) (joinings_are_in_turn x.setting (seen x) s w.orderly has none) m there))

-- A session whose joining runs.
pub joins_still : (x : Step) (s : Session) (j : ℕ) → Whole x → Has x s → s.job ≡ Some j → is_running (seen x) j ≡ true → IsJoining IsLate x s
joins_still x s j w has job runs =
    record {
      late = λ r late. late;
      free = λ d k is. inr (no_leases x s w has (unjoined x s j job runs));
    }
  where
    unjoined : (x : Step) (s : Session) (j : ℕ) → s.job ≡ Some j → is_running (seen x) j ≡ true → joined_after (seen x) s ≡ None
    unjoined x s j job runs =
        ap (λ o. elim o as (λ z. Option ℕ) [ None ↦ Some 0 | Some i ↦ option_and_then (λ (r : Replied). choose (is_join_done r.reply) (r.at + 1)) (reply_to (seen x) i) ]) job
        ∙ ap (λ o. option_and_then (λ (r : Replied). choose (is_join_done r.reply) (r.at + 1)) o) (none_is (reply_to (seen x) j) runs)

-- The session of a joining's call is that of its job.
pub its_joining : (x : Step) (s : Session) (j : ℕ) (step : JoinStep) (m : Submitted) (a : Answer) → Whole x → Hears x s m a → m.call.purpose ≡ Joining j step → s.job ≡ Some j
its_joining x s j step m a w h is =
    let c : HeardCall x a m = heard_call x s m a h w in
    let known = some_of (command_numbered x.setting (seen x) j) (w.facts.jobs.called m j c.there (ap (λ p. job_of p) is)) in
    subst (λ p. FitsCommand x.setting s m known.0 p) is (w.facts.jobs.fits m j s known.0 c.there (ap (λ p. job_of p) is) h.session known.1)
