-- What is known of calls and of jobs holds once a step has begun.
use Rattle.sl_due_facts.proofs.Acts.LoopsKeep.{for_each_keeps, when_keeps}
use Rattle.sl_due.specs.DueRecovery.{begin_recoveries, begin_recovery, begins_now, signal_and_refuse}
use Rattle.sl_due.specs.Steps.{Step, begin_step, seen}
use Rattle.sl_due_facts.proofs.Jobs.AnsweredCallsFit.{at}
use Rattle.sl_due_facts.proofs.Jobs.CallsHaveFacts.{sessions_bare, timely}
use Rattle.sl_due_facts.proofs.Jobs.EffectsAreAllowed.{stopped}
use Rattle.sl_due_facts.proofs.Jobs.JobFactsGrow.{Both}
use Rattle.sl_due_facts.proofs.Jobs.JobsAreAllowed.{MayCall, MayMove, MayReply, MayStart, Meanwhile, allows, late_on_wake, starts_nothing, stops_allowed}
use Rattle.sl_due_facts.proofs.Jobs.JobsAreNumbered.{numbered_before}
use Rattle.sl_due_facts.proofs.Jobs.SessionsHaveJobs.{joined_by}
use Rattle.sl_due_facts.specs.Jobs.JobLaws.{BeginsWith}
use Rattle.sl_trace.specs.Jobs.{command_numbered, command_of}
use Rattle.sl_trace.specs.Sessions.{present_sessions, recovery_of, sessions}
use Rattle.sl_due_facts.specs.Facts.CallFacts.{CallFacts}
use Rattle.sl_due_facts.specs.Facts.HeardCall.{IsOpen}
use Rattle.sl_due_facts.specs.Facts.JobFacts.{JobFacts}
use Rattle.sl_trace.specs.Traces.{Child, Replied, Setting, Submitted, Trace, child_after, children, is_running, job_numbered, no_effects, reply_to}
use Rattle.sl_trace.specs.declared.input.Input.TheVariants.{Wake}
use Rattle.sl_words.proofs.CaseLaws.{none_some}
use Rattle.std.proofs.Common.{ap, inl, inr, refl, subst, sym, ◌∙◌}
use Rattle.std.proofs.lemmas.List.{append-nil}
use Rattle.std.specs.Prelude.{Contains, IsSome, List, None, Option, Some, [], is_none, map, option_and_then, slice_get, ℕ, ◌∷◌, ◌≡◌}

-- Time has passed, and nothing else.
abbrev waking : Setting → Trace → ℕ → Step
waking st past now = begin_step st past now

pub running_then : (past : Trace) (now j : ℕ) → is_running (record { reading = now; input = Wake; effects = no_effects } ∷ past) j ≡ is_running past j
running_then past now j = by (reply_to past j) where
  by : (o : Option Replied) → is_none (elim o as (λ z. Option Replied) [ Some r ↦ Some r | None ↦ None ]) ≡ is_none o
  by (Some r) = refl
  by None = refl

pub job_then : (st : Setting) (past : Trace) (now : ℕ) (n : ℕ) → job_numbered st (seen (begin_step st past now)) n ≡ job_numbered st past n
job_then st past now n = numbered_before (begin_step st past now) refl n

command_then : (st : Setting) (past : Trace) (now : ℕ) (n : ℕ) → command_numbered st (seen (begin_step st past now)) n ≡ command_numbered st past n
command_then st past now n = ap (λ o. option_and_then command_of o) (job_then st past now n)

pub sessions_then : (st : Setting) (past : Trace) (now : ℕ) → sessions st (seen (begin_step st past now)) ≡ sessions st past
sessions_then st past now = sessions_bare (begin_step st past now) refl

-- No child changes.
child_then : (ks : List Child) → map (child_after Wake) ks ≡ ks
child_then [] = refl
child_then (k ∷ ks) = ap (λ zs. k ∷ zs) (child_then ks)

open_then : (t : Trace) (m : Submitted) → IsOpen t None m → m.answer ≡ None
open_then t m (inl none) = none
open_then t m (inr heard) = absurd (none_some m.call.number heard.0)

pub both_wake : (st : Setting) (past : Trace) (now : ℕ) → CallFacts st past → JobFacts st past None → Both (begin_step st past now)
both_wake st past now c h = (
  record {
    owned = λ m there. subst (λ ss. IsSome (slice_get ss m.call.session)) (sym (sessions_then st past now)) (c.owned m there);
    found = c.found;
    below = c.below;
    made = λ m there. (timely (seen (begin_step st past now)) m there).0;
    later = λ m a there is. (timely (seen (begin_step st past now)) m there).1 a is;
    fits = c.fits;
  },
  record {
    replied = λ j stops. subst (λ o. IsSome o) (sym (job_then st past now j)) (h.replied j (sym (running_then past now j) ∙ stops));
    called = λ m j there of. subst (λ o. IsSome o) (sym (command_then st past now j)) (h.called m j there of);
    joins = λ s j there of. let by = joined_by st (seen (begin_step st past now)) s j there of in (by.arg, by.command, by.session);
    starts = λ k j there of.
        let its = h.starts k j (subst (λ ks. Contains ks k) (append-nil (map (child_after Wake) (children past)) ∙ child_then (children past)) there) of in
        (its.0, its.1, its.2, command_then st past now j ∙ its.3);
    fits = λ m j s d there of session command.
        h.fits m j s d there of (ap (λ ss. slice_get ss m.call.session) (sym (sessions_then st past now)) ∙ session) (sym (command_then st past now j) ∙ command);
    one = λ m n j a b first second of also. h.one m n j a b (inl (open_then (seen (begin_step st past now)) m first)) (inl (open_then (seen (begin_step st past now)) n second)) of also;
  },
)

-- So do the recoveries that begin by it.
pub both_begin : BeginsWith Both
unfolding begin_recoveries begin_recovery
both_begin st past e follows w =
    let x : Step = begin_step st past e.reading in
    let b : Both x = both_wake st past e.reading w.facts.calls w.facts.jobs in
    (for_each_keeps (Meanwhile x) (present_sessions st (seen x)) begin_recovery x
    (λ s there y k. when_keeps (Meanwhile x) (begins_now (seen y) (recovery_of y.setting (seen y) s)) (signal_and_refuse s None) y
    (λ begins f. stopped (Meanwhile x) Both (MayReply x) (MayCall x) (MayStart x) MayMove (allows x) (starts_nothing x) y s None
    (λ z g j inside. stops_allowed x s (λ r. late_on_wake x r refl) z g j inside) f) k)
    (at x b)).0
