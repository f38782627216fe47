-- What a lease decides at a moment of a step fits: after an answer, in a settling, in a release and in a conversion.
use Rattle.sl_due_facts.specs.Acts.Acts.{Hears, next_of_conversion, next_of_release, next_of_settling}
use Rattle.sl_due.specs.CarriedLease.{goes_on, next_of_lease}
use Rattle.sl_due.specs.Steps.{Step, seen}
use Rattle.sl_due_facts.specs.Facts.WayFacts.{Ways, way_context}
use Rattle.sl_due_facts.specs.Facts.AllFacts.{Whole}
use Rattle.sl_due_leases.proofs.Ways.WayFactsHeld.HeardStands.{lease_heard}
use Rattle.sl_due_leases.proofs.Ways.WayFactsHeld.LeaseNextsLeave.{HasEnded, moment_of}
use Rattle.sl_due_leases.proofs.Ways.NextsFit.AnswersFit.{answers_fit, conversions_fit, releases_fit}
use Rattle.sl_due_leases.proofs.Ways.NextsFit.SettlingsFit.{beginning_is, within_is}
use Rattle.sl_due_leases.specs.Ways.Nexts.{NextIs}
use Rattle.sl_trace.specs.Jobs.{aim_of}
use Rattle.sl_trace.specs.Conversions.{convert_next}
use Rattle.sl_trace.specs.LeaseDecisions.{lease_next, lease_place, settle_begin}
use Rattle.sl_trace.specs.Releases.{release_next}
use Rattle.sl_trace.specs.Leases.{known, lease_calls, lver_written, spot_of_call}
use Rattle.sl_trace.specs.Traces.{Submitted}
use Rattle.sl_trace.specs.declared.effects.Grant.{Grant}
use Rattle.sl_trace.specs.declared.effects.LeaseStep.{LeaseStep}
use Rattle.sl_trace.specs.declared.effects.Mode.TheVariants.{Exclusive}
use Rattle.sl_trace.specs.declared.effects.Mode.{Mode}
use Rattle.sl_trace.specs.declared.effects.Purpose.TheVariants.{Lease}
use Rattle.sl_trace.specs.declared.effects.Spot.{Spot}
use Rattle.sl_trace.specs.declared.effects.Work.TheVariants.{Settling}
use Rattle.sl_trace.specs.declared.effects.Work.{Work}
use Rattle.sl_trace.specs.declared.input.Answer.{Answer}
use Rattle.sl_trace.specs.declared.lease.Aim.TheVariants.{Converts, Releases, Settles}
use Rattle.sl_trace.specs.declared.lease.Aim.{Aim}
use Rattle.sl_trace.specs.declared.session.Session.{Session}
use Rattle.std.proofs.Common.{refl, subst}
use Rattle.std.specs.Prelude.{List, Some, true, ℕ, ◌≡◌}

pub heard_fits : (x : Step) (s : Session) (work : Work) (step : LeaseStep) (m : Submitted) (a : Answer) (aim : Aim) → (h : Hears x s m a) → m.call.purpose ≡ Lease work step → goes_on x.setting (seen x) s work ≡ true
    → aim_of x.setting (seen x) work ≡ Some aim → Whole x
    → NextIs (moment_of x s (spot_of_call x.setting.layout m) work) (next_of_lease x.setting (seen x) s (spot_of_call x.setting.layout m) aim m step a)
heard_fits x s work step m a aim h is on aimed w =
    let at : Spot = spot_of_call x.setting.layout m in
    let k = lease_heard x s work step m a aim h is on aimed w in
    subst (λ (z : Submitted). NextIs (moment_of x s at work) (next_of_lease x.setting (seen x) s at aim z step a)) k.1
    (within_is (moment_of x s at work) aim (lease_next (lease_place x.setting s) (known x.setting (seen x) s at) aim k.0.call.call.number (lver_written k.0.call) step a)
    (answers_fit (moment_of x s at work) step aim a k.0))

pub settling_fits : (x : Step) (s : Session) (at : Spot) → Ways (way_context x.setting (seen x) s) (lease_calls x.setting (seen x) s at)
    → NextIs (moment_of x s at Settling) (next_of_settling x.setting (seen x) s at)
settling_fits x s at ways =
    within_is (moment_of x s at Settling) Settles (settle_begin (lease_place x.setting s) (known x.setting (seen x) s at)) (beginning_is (moment_of x s at Settling) ways refl)

pub release_fits : (x : Step) (s : Session) (at : Spot) (work : Work) (g : Grant) → aim_of x.setting (seen x) work ≡ Some Releases → (g.mode ≡ Exclusive → HasEnded x s at g.lver)
    → NextIs (moment_of x s at work) (next_of_release x.setting (seen x) s at g)
release_fits x s at work g aimed ended =
    within_is (moment_of x s at work) Releases (release_next (lease_place x.setting s) (known x.setting (seen x) s at) g.mode g.lver)
    (releases_fit (moment_of x s at work) g.mode g.lver aimed (λ exclusive. (ended exclusive).0) (λ exclusive. (ended exclusive).1))

pub conversion_fits : (x : Step) (s : Session) (at : Spot) (work : Work) (mode : Mode) (name : List ℕ) → aim_of x.setting (seen x) work ≡ Some (Converts mode)
    → NextIs (moment_of x s at work) (next_of_conversion x.setting (seen x) s at mode name)
conversion_fits x s at work mode name aimed =
    within_is (moment_of x s at work) (Converts mode) (convert_next (known x.setting (seen x) s at) mode name) (conversions_fit (moment_of x s at work) mode name aimed)
