-- Ways and turns stand once a step has begun: time has passed, and the recoveries that this makes due have begun.
use Rattle.sl_due_facts.proofs.Acts.LoopsKeep.{for_each_keeps, when_keeps}
use Rattle.sl_due.specs.DueRecovery.{begin_recoveries, begin_recovery, begins_now, signal_and_refuse}
use Rattle.sl_due_facts.specs.Acts.TraceSoFar.{entry_of}
use Rattle.sl_due.specs.Steps.{Step, begin_step, seen}
use Rattle.sl_due_leases.proofs.Ways.WayFactsHeld.CallsSame.{HeardNoJob}
use Rattle.sl_due_leases.proofs.Ways.WayFactsHeld.EffectsLeave.{Carries, ways_carried}
use Rattle.sl_due_leases.proofs.Ways.WayFactsHeld.InputsLeave.{answers, counted_then}
use Rattle.sl_due_leases.proofs.Ways.WayFactsHeld.LinesKeep.{Anything, by_any}
use Rattle.sl_due_leases.proofs.Ways.WayFactsHeld.PlainWalks.{stopped}
use Rattle.sl_due_leases.specs.Ways.WayFactsHeld.{LeasesStand}
use Rattle.sl_trace.specs.Jobs.{aim_of, aim_of_command, command_of}
use Rattle.sl_trace.specs.declared.lease.Aim.{Aim}
use Rattle.sl_trace.specs.Sessions.{present_sessions, recovery_of, sessions}
use Rattle.sl_due_facts.specs.Facts.HeardCall.{IsOpen}
use Rattle.sl_due_facts.specs.Facts.LeaseFacts.{TurnFacts}
use Rattle.sl_due_facts.specs.Facts.WayFacts.{WayFacts}
use Rattle.sl_trace.specs.Traces.{Job, Setting, Submitted, Trace, jobs}
use Rattle.sl_trace.specs.declared.effects.Work.TheVariants.{ForJob, Settling}
use Rattle.sl_trace.specs.declared.effects.Work.{Work}
use Rattle.sl_words.proofs.CaseLaws.{none_some, true_is_false}
use Rattle.std.proofs.Common.{ap, append-nil, inl, inr, refl, sym, ◌∙◌}
use Rattle.std.specs.Prelude.{None, Option, Some, find, option_and_then, slice_get, ℕ, ◌==◌, ◌≡◌}

begun_aims : (st : Setting) (past : Trace) (now : ℕ) (work : Work) (aim : Aim) → aim_of st past work ≡ Some aim → aim_of st (seen (begin_step st past now)) work ≡ Some aim
begun_aims st past now Settling aim is = is
begun_aims st past now (ForJob j) aim is =
    ap (λ js. option_and_then aim_of_command (option_and_then command_of (find (λ (k : Job). k.number == j) js))) (append-nil (jobs st past)) ∙ is

begun_carries : (st : Setting) (past : Trace) (now : ℕ) → Carries st past (seen (begin_step st past now))
begun_carries st past now =
    record {
      sessions = append-nil (sessions st past);
      calls = λ s at. refl;
      grows = λ s at there. inl
          (record {
            layout = refl;
            lockspace = refl;
            self = refl;
            aims = begun_aims st past now;
            over = λ a b is. counted_then st (entry_of (begin_step st past now)) past s a b is;
          });
    }

still_waits : (t u : Trace) (m : Submitted) → IsOpen u None m → IsOpen t None m
still_waits t u m (inl none) = inl none
still_waits t u m (inr heard) = absurd (none_some m.call.number heard.0)

begun : (st : Setting) (past : Trace) (now : ℕ) → WayFacts st past → TurnFacts st past None → LeasesStand (begin_step st past now)
begun st past now ways turns =
    record {
      ways = ways_carried st past (seen (begin_step st past now)) (begun_carries st past now) ways;
      turns = record {
        one = λ m n m_there n_there m_open n_open m_work n_work spots.
            turns.one m n m_there n_there (still_waits past (seen (begin_step st past now)) m m_open) (still_waits past (seen (begin_step st past now)) n n_open) m_work n_work spots;
        newest = λ s m its there opens lease.
            turns.newest s m (sym (ap (λ ss. slice_get ss m.call.session) (append-nil (sessions st past))) ∙ its) there (still_waits past (seen (begin_step st past now)) m opens) lease;
      };
    }

begun_none : (st : Setting) (past : Trace) (now : ℕ) → HeardNoJob (begin_step st past now)
begun_none st past now n a m told there number = absurd (true_is_false (sym (ap (λ i. answers i) told)))

pub leases_begin : (st : Setting) (past : Trace) (now : ℕ) → WayFacts st past → TurnFacts st past None → LeasesStand (begin_recoveries (begin_step st past now))
unfolding begin_recoveries begin_recovery
leases_begin st past now ways turns =
    let x : Step = begin_step st past now in
    (for_each_keeps (λ z. LeasesStand z × HeardNoJob z) (present_sessions x.setting (seen x)) begin_recovery x
    (λ s there y k. when_keeps (λ z. LeasesStand z × HeardNoJob z) (begins_now (seen y) (recovery_of y.setting (seen y) s)) (signal_and_refuse s None) y
    (λ due f. stopped Anything (λ z. LeasesStand z × HeardNoJob z) by_any (λ t. tt) y s None f) k) (begun st past now ways turns, begun_none st past now)).0

-- Once an answer's acts are done, only what has no answer is open.
pub turns_rest : (st : Setting) (t : Trace) (heard : Option ℕ) → TurnFacts st t heard → TurnFacts st t None
turns_rest st t heard h =
    record {
      one = λ m n m_there n_there m_open n_open m_work n_work spots. h.one m n m_there n_there (waits m m_open) (waits n n_open) m_work n_work spots;
      newest = λ s m its there opens lease. h.newest s m its there (waits m opens) lease;
    }
  where
    waits : (m : Submitted) → IsOpen t None m → IsOpen t heard m
    waits m (inl none) = inl none
    waits m (inr is) = absurd (none_some m.call.number is.0)
