-- The facts of a job's work hold once a step has begun: where one works its session has held nothing shared up to the step.
use Rattle.sl_due_facts.proofs.Acts.EffectsKeep.{stopped}
use Rattle.sl_due_facts.proofs.Acts.LoopsKeep.{for_each_keeps, when_keeps}
use Rattle.sl_due.specs.DueRecovery.{begin_recoveries, begin_recovery, begins_now, signal_and_refuse}
use Rattle.sl_due.specs.Steps.{begin_step, seen}
use Rattle.sl_due_leases.proofs.Grants.OthersGoOn.{stopped_on}
use Rattle.sl_due_leases.proofs.Grants.WorksByDeltas.{works_go_on}
use Rattle.sl_due_leases.proofs.Grants.WorksByEffects.{WorksAt}
use Rattle.sl_due_leases.proofs.Grants.WorksByLines.{none_shared_on}
use Rattle.sl_due_leases.specs.Grants.GrantLaws.{WorkFactsBegin}
use Rattle.sl_due_leases.proofs.Holdings.HoldingFactsBegin.{children_fresh, fresh, held_fresh, wake_effects, waking_answers_none}
use Rattle.sl_due_facts.proofs.Jobs.JobFactsBegin.{running_then}
use Rattle.sl_due_facts.proofs.Jobs.JobsAreNumbered.{numbered_before}
use Rattle.sl_run.specs.LawfulModes.{shared_since}
use Rattle.sl_trace.specs.Jobs.{command_of}
use Rattle.sl_trace.specs.Leases.{has_shared_on, spot_of_call}
use Rattle.sl_trace.specs.declared.lease.Aim.TheVariants.{Acquires}
use Rattle.sl_words.proofs.Options.{some_of}
use Rattle.sl_trace.specs.Sessions.{present_sessions, recovery_of, session_numbered}
use Rattle.sl_trace.specs.declared.session.Session.{Session}
use Rattle.sl_due_facts.specs.Facts.CallFacts.{CallFacts}
use Rattle.sl_due_facts.specs.Facts.WorkFacts.{IsAtWork, IsWaiting, WorkFacts}
use Rattle.sl_trace.specs.Traces.{Setting, Submitted, Trace, first_child, no_effects}
use Rattle.sl_trace.specs.declared.command.Command.{Command}
use Rattle.sl_trace.specs.declared.effects.LeaseStep.{LeaseStep}
use Rattle.sl_trace.specs.declared.effects.Spot.{Spot}
use Rattle.sl_trace.specs.declared.input.Input.TheVariants.{Wake}
use Rattle.sl_run_law.proofs.Leases.NumberLaws.{number_is_place}
use Rattle.sl_run_law.proofs.Sessions.CallOwners.{session_more}
use Rattle.sl_words.proofs.CaseLaws.{none_some, one_value}
use Rattle.std.proofs.Common.{ap, inl, inr, refl, subst, sym, ◌∙◌}
use Rattle.std.specs.Prelude.{Bool, Contains, IsSome, None, Some, false, length, nat_le, option_and_then, true, ℕ, ◌&&◌, ◌+◌, ◌<◌, ◌||◌, ◌≡◌}

fresh_works : (st : Setting) (now : ℕ) (past : Trace) → CallFacts st past → WorkFacts st past None → WorkFacts st (fresh now past) None
fresh_works st now past calls h =
    record {
      beside = λ m j step c aim g k aimed there same. h.beside m j step c aim g (old m j step c k) aimed (subst (λ gs. Contains gs g) (held_fresh now past) there) same;
      modes = λ m j step c k aimed. h.modes m j step c (old m j step c k) aimed;
      acts = λ m j step c p k named. subst (λ ks. p < first_child + length ks) (sym (children_fresh now past)) (h.acts m j step c p (old m j step c k) named);
      unshared = λ m d j step earlier c mode s k aimed its there purpose.
          let w = old m j step c k in
          let session : session_numbered st past m.call.session ≡ Some s = its_session m s (calls.owned m w.there) its in
          none_since d.at s (spot_of_call st.layout m)
          (none_shared_on past s (spot_of_call st.layout m) (λ g held mine same shared. (h.beside m j step c (Acquires mode) g w aimed held same).2 (mine ∙ number_is_place st past m.call.session s session)))
          (h.unshared m d j step earlier c mode s w aimed session there purpose);
    } where
      waits : (m : Submitted) → IsWaiting (fresh now past) None m → m.answer ≡ None
      waits m (inl none) = none
      waits m (inr k) = absurd (none_some m.call.number k.0)

      old : (m : Submitted) (j : ℕ) (step : LeaseStep) (c : Command) → IsAtWork st (fresh now past) None m j step c → IsAtWork st past None m j step c
      old m j step c k = record { there = k.there; opens = inl (waits m k.opens); purpose = k.purpose; runs = sym (running_then past now j) ∙ k.runs; command = sym (ap (λ o. option_and_then command_of o) (numbered_before (begin_step st past now) refl j)) ∙ k.command }

      its_session : (m : Submitted) (s : Session) → IsSome (session_numbered st past m.call.session) → session_numbered st (fresh now past) m.call.session ≡ Some s → session_numbered st past m.call.session ≡ Some s
      its_session m s known its =
          let v = some_of (session_numbered st past m.call.session) known in
          v.1
          ∙ ap (λ z. Some z) (one_value v.0 s (session_numbered st (fresh now past) m.call.session) (session_more st (record { reading = now; input = Wake; effects = no_effects }) past m.call.session v.0 v.1) its)

      none_since : (since : ℕ) (s : Session) (at : Spot) → has_shared_on past s at ≡ false → shared_since since past s at ≡ false → ((nat_le since (length past) && has_shared_on past s at) || shared_since since past s at) ≡ false
      none_since since s at none rest = ap (λ b. (nat_le since (length past) && b) || shared_since since past s at) none ∙ (off (nat_le since (length past)) (shared_since since past s at) ∙ rest) where
        off : (a b : Bool) → ((a && false) || b) ≡ b
        off true b = refl
        off false b = refl

pub work_facts_begin : WorkFactsBegin
unfolding begin_recoveries begin_recovery
work_facts_begin st past e follows whole =
    (for_each_keeps (λ z. WorksAt z × (z.input ≡ Wake)) (present_sessions st (seen (begin_step st past e.reading))) begin_recovery (begin_step st past e.reading)
    (λ s there y h. when_keeps (λ z. WorksAt z × (z.input ≡ Wake)) (begins_now (seen y) (recovery_of y.setting (seen y) s)) (signal_and_refuse s None) y
    (λ begins k. (stopped_on WorksAt works_go_on y s None (waking_answers_none y.past y.input k.1) k.0, stopped (λ z. z.input ≡ Wake) wake_effects y s None k.1)) h)
    (fresh_works st e.reading past whole.facts.calls whole.facts.works, refl)).0
