-- The ways of a lease's calls where an answer to the newest of them was heard, and what that gave.
use Rattle.sl_due_facts.specs.Acts.Acts.{Hears}
use Rattle.sl_due.specs.Steps.{Step, seen}
use Rattle.sl_due_facts.specs.Facts.WayFacts.{Ways, way_context}
use Rattle.sl_due_facts.specs.Facts.AllFacts.{Whole}
use Rattle.sl_due_leases.proofs.Ways.GivenReads.{given_heard, heard_by_lease}
use Rattle.sl_due_leases.proofs.Ways.WayFactsHeld.EffectsLeave.{there_has}
use Rattle.sl_due_leases.proofs.Ways.WayFactsHeld.HeardStands.{heard_call, heard_has, heard_open}
use Rattle.sl_due_leases.proofs.Ways.AreasAligned.{spot_aligned}
use Rattle.sl_trace.specs.LeaseDecisions.{asked_again, first_step, read_of_step}
use Rattle.sl_trace.specs.Leases.{lease_calls, lease_step, read_given, spot_of_call}
use Rattle.sl_trace.specs.Traces.{Submitted, gave}
use Rattle.sl_trace.specs.declared.effects.LeaseStep.{LeaseStep}
use Rattle.sl_trace.specs.declared.effects.Purpose.TheVariants.{Lease}
use Rattle.sl_trace.specs.declared.effects.Work.{Work}
use Rattle.sl_trace.specs.declared.input.Answer.{Answer}
use Rattle.sl_trace.specs.declared.session.Session.{Session}
use Rattle.std.proofs.Common.{ap, subst}
use Rattle.std.specs.Prelude.{List, None, Some, is_some, true, ℕ, ◌∷◌, ◌≡◌}

-- The heard call is the lease's newest, and each has its way.
pub record NewestWays (x : Step) (s : Session) (m : Submitted) : Type 0 where
  pub rest : List Submitted
  pub newest : lease_calls x.setting (seen x) s (spot_of_call x.setting.layout m) ≡ m ∷ rest
  pub ways : Ways (way_context x.setting (seen x) s) (m ∷ rest)

pub newest_ways : (x : Step) (s : Session) (work : Work) (step : LeaseStep) (m : Submitted) (answer : Answer) → Whole x → Hears x s m answer → m.call.purpose ≡ Lease work step → NewestWays x s m
newest_ways x s work step m answer w h is =
    let first = w.facts.turns.newest s m h.session (heard_call x s m answer h w).there (heard_open x s m answer h) (ap (λ p. is_some (lease_step p)) is) in
    let inside = there_has x.setting (seen x) s.number s (heard_has x s m answer h) in
    record {
      rest = first.0;
      newest = first.1;
      ways = subst (λ ms. Ways (way_context x.setting (seen x) s) ms) first.1 (w.facts.ways.each s (spot_of_call x.setting.layout m) inside (spot_aligned x.setting.layout.area m.call.offset));
    }

-- What its read gave, where it isn't made once more, is what the lease decides by.
pub newest_told : (x : Step) (s : Session) (work : Work) (step : LeaseStep) (m : Submitted) (n : NewestWays x s m) → m.call.purpose ≡ Lease work step → (bytes : List ℕ) → gave m ≡ Some bytes
    → is_some (read_of_step (first_step step)) ≡ true → asked_again x.setting.layout bytes step ≡ None
    → read_given x.setting.layout m n.rest ≡ Some (heard_by_lease x.setting.layout m n.rest bytes step)
newest_told x s work step m n is bytes gives reads once = given_heard (way_context x.setting (seen x) s) m n.rest work step bytes n.ways.0 is gives reads once
