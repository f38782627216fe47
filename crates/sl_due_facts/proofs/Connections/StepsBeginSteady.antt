-- A step begins with recoveries: these move no connection, reply to no joining and call for nothing.
use Rattle.sl_due_facts.proofs.Acts.LoopsKeep.{for_each_keeps, when_keeps}
use Rattle.sl_due_facts.specs.Acts.Acts.{Has}
use Rattle.sl_due_facts.specs.Acts.TraceSoFar.{entry_of}
use Rattle.sl_due.specs.DueRecovery.{begin_recoveries, begin_recovery, begins_now, signal_and_refuse}
use Rattle.sl_due.specs.Steps.{Step, begin_step, seen}
use Rattle.sl_due_facts.proofs.Jobs.EffectsAreAllowed.{stopped}
use Rattle.sl_due_facts.proofs.Jobs.JobFactsBegin.{both_wake}
use Rattle.sl_due_facts.proofs.Jobs.JobFactsGrow.{Both}
use Rattle.sl_due_facts.proofs.Jobs.JobsAreAllowed.{late_on_wake}
use Rattle.sl_due_facts.proofs.Jobs.NearlyPlainActs.{AnyStart}
use Rattle.sl_due_facts.proofs.Jobs.SessionsArePresent.{present_is, session_has}
use Rattle.sl_due_facts.proofs.Jobs.SessionsStand.{recovery_joined}
use Rattle.sl_due_facts.proofs.Connections.ConnectionFactsAreKept.{alone_joined}
use Rattle.sl_due_facts.proofs.Connections.ConnectionWalk.{NoMove, PlainCall, PlainReply}
use Rattle.sl_due_facts.proofs.Connections.OtherJobs.{other_of_session}
use Rattle.sl_due_facts.proofs.Connections.SessionParts.{present_joined}
use Rattle.sl_due_facts.proofs.Connections.SteadyActs.{Steady, job_steady, steady_allow, steady_itself}
use Rattle.sl_due_facts.proofs.Sessions.NameFactsAreKept.{joined_on_wake, names_wake}
use Rattle.sl_due_facts.specs.Sessions.SessionLaws.{HasNameFacts}
use Rattle.sl_trace.specs.Sessions.{is_joined, joined_after, last_renewal, present_sessions, recovery_of}
use Rattle.sl_trace.specs.declared.session.Begun.{Begun}
use Rattle.sl_trace.specs.declared.session.Session.{Session}
use Rattle.sl_due_facts.specs.Facts.AllFacts.{WholeTrace}
use Rattle.sl_trace.specs.Traces.{Setting, Trace}
use Rattle.sl_trace.specs.declared.reply.Reply.TheVariants.{Recovering}
use Rattle.sl_words.proofs.CaseLaws.{false_is_true}
use Rattle.std.proofs.Common.{ap, refl, subst, ◌∙◌}
use Rattle.std.specs.Prelude.{Contains, None, Option, Some, is_some, true, ℕ, ◌≡◌}

pub begins_steady : (st : Setting) (past : Trace) (now : ℕ) → WholeTrace st past → Steady (begin_step st past now) (begin_recoveries (begin_step st past now))
unfolding begin_recoveries begin_recovery
begins_steady st past now w =
    for_each_keeps (Steady x) (present_sessions st (seen x)) begin_recovery x
    (λ s there y k. when_keeps (Steady x) (begins_now (seen y) (recovery_of y.setting (seen y) s)) (signal_and_refuse s None) y
    (λ begins f.
    stopped (Steady x) (Steady x) (PlainReply x) (PlainCall x) AnyStart NoMove (steady_allow x) tt y s None
    (λ z g j inside. (late_on_wake x (Recovering (last_renewal z.setting (seen z) s)) refl, other_of_session x s j facts.1 (alone_joined x s names (has s there) (joined s there y f begins)) (joined s there y f begins) (job_steady x z s j g inside))) f) k)
    (steady_itself x)
  where
    x : Step
    x = begin_step st past now

    names : HasNameFacts (begin_step st past now)
    names = names_wake st past now w.facts.names

    facts : Both (begin_step st past now)
    facts = both_wake st past now w.facts.calls w.facts.jobs

    has : (s : Session) → Contains (present_sessions st (seen (begin_step st past now))) s → Has (begin_step st past now) s
    has s there = session_has st (seen (begin_step st past now)) s (present_is st (seen (begin_step st past now)) s there).0

    joined : (s : Session) → Contains (present_sessions st (seen (begin_step st past now))) s → (y : Step) → Steady (begin_step st past now) y → begins_now (seen y) (recovery_of y.setting (seen y) s) ≡ true
        → is_joined (seen (begin_step st past now)) s ≡ true
    joined s there y k begins = by (recovery_of y.setting (seen y) s) refl begins where
      by : (o : Option Begun) → recovery_of y.setting (seen y) s ≡ o → begins_now (seen y) o ≡ true → is_joined (seen (begin_step st past now)) s ≡ true
      by None none is_now = absurd (false_is_true is_now)
      by (Some b) is is_now =
          let was : is_some (joined_after past s) ≡ true = subst (λ es. is_some (joined_after es s) ≡ true) k.before (recovery_joined y.setting (entry_of y) y.past s b is) in
          present_joined (seen x) s (ap (λ o. is_some o) (joined_on_wake past now s) ∙ was) (present_is st (seen x) s there).1
