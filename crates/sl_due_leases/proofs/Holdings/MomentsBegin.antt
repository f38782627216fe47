-- A step has granted and ended nothing when it has begun.
use Rattle.sl_due_facts.proofs.Acts.LoopsKeep.{for_each_keeps, when_keeps}
use Rattle.sl_due.specs.DueRecovery.{begin_recoveries, begin_recovery, begins_now, signal_and_refuse, signal_holders}
use Rattle.sl_due.specs.Steps.{Step, add_reply, begin_step, seen}
use Rattle.sl_due_leases.proofs.Holdings.MomentsAreKept.{alike, signalled_alike}
use Rattle.sl_due_leases.specs.Holdings.Moments.{Moment}
use Rattle.sl_due_leases.specs.Holdings.HoldingLaws.{MomentsBegin}
use Rattle.sl_trace.specs.Jobs.{jobs_of_session}
use Rattle.sl_trace.specs.Sessions.{last_renewal, present_sessions, recovery_of}
use Rattle.sl_trace.specs.declared.session.Session.{Session}
use Rattle.sl_words.proofs.Lists.{contains_none}
use Rattle.sl_trace.specs.Traces.{Job}
use Rattle.sl_trace.specs.declared.effects.Signal.TheVariants.{Term}
use Rattle.sl_trace.specs.declared.reply.Reply.TheVariants.{Recovering}
use Rattle.sl_words.specs.Words.{some_is}
use Rattle.std.proofs.Common.{refl}
use Rattle.std.specs.Prelude.{None, Option, filter, not, ℕ, ◌==◌}

pub stopped_moment : (y : Step) (s : Session) (kept : Option ℕ) → Moment y → Moment (signal_and_refuse s kept y)
unfolding signal_and_refuse
stopped_moment y s kept m =
    let z : Step = signal_holders Term s y in
    for_each_keeps Moment (filter (λ (j : Job). not (some_is (λ n. n == j.number) kept)) (jobs_of_session z.setting (seen z) s)) (λ j. add_reply j.number (Recovering (last_renewal z.setting (seen z) s))) z
    (λ j there w k. alike w (add_reply j.number (Recovering (last_renewal z.setting (seen z) s)) w) (record { input = refl; ends = refl; grants = refl; calls = refl }) k) (alike y z (signalled_alike y Term s) m)

pub moments_begin : MomentsBegin
unfolding begin_recoveries begin_recovery
moments_begin st past e follows whole =
    for_each_keeps Moment (present_sessions st (seen (begin_step st past e.reading))) begin_recovery (begin_step st past e.reading)
    (λ s there y h. when_keeps Moment (begins_now (seen y) (recovery_of y.setting (seen y) s)) (signal_and_refuse s None) y (λ begins k. stopped_moment y s None k) h)
    (record { waking = λ wake. (refl, refl); starting = λ p ok c start there. absurd (contains_none c there); ungranted = λ p ok start. refl })
