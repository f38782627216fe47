-- The call whose answer was heard, as it stood before its entry.
use Rattle.sl_due_facts.specs.Acts.Acts.{Hears}
use Rattle.sl_due_facts.specs.Acts.TraceSoFar.{entry_of}
use Rattle.sl_due.specs.Steps.{Step, seen}
use Rattle.sl_due_facts.proofs.Jobs.JobFactsGrow.{was_unanswered}
use Rattle.sl_due_facts.proofs.Jobs.JobsAreAllowed.{calls_heard}
use Rattle.sl_due_facts.proofs.Jobs.JobsAreNumbered.{command_stays}
use Rattle.sl_due_facts.specs.Facts.JobFacts.{JobFacts}
use Rattle.sl_due_law.specs.LawfulTraces.CarriedFacts.{Kept}
use Rattle.sl_trace.specs.Jobs.{command_numbered}
use Rattle.sl_words.proofs.Lists.{find_inside, in_map}
use Rattle.sl_words.proofs.Options.{some_of}
use Rattle.sl_trace.specs.Traces.{Replied, Setting, Submitted, Trace, answered_in, is_expected, is_running, job_of, reply_in, reply_to, submitted}
use Rattle.sl_trace.specs.declared.command.Command.{Command}
use Rattle.sl_trace.specs.declared.effects.Call.{Call}
use Rattle.sl_trace.specs.declared.effects.Entry.{Entry}
use Rattle.sl_trace.specs.declared.input.Answer.{Answer}
use Rattle.sl_trace.specs.declared.input.Input.{Input}
use Rattle.sl_run_law.proofs.Sessions.CallsAreMade.{same_answered}
use Rattle.sl_words.proofs.CaseLaws.{false_is_true, one_value}
use Rattle.sl_trace.specs.declared.session.Session.{Session}
use Rattle.std.proofs.Common.{ap, refl, subst, sym, ◌∙◌}
use Rattle.std.proofs.lemmas.Bool.{eqb-true}
use Rattle.std.specs.Prelude.{Contains, IsTrue, None, Option, Some, is_none, true, ℕ, ◌==◌, ◌∷◌, ◌≡◌}

-- What runs after an entry ran before it.
pub ran_past : (past : Trace) (e : Entry) (j : ℕ) → is_running (e ∷ past) j ≡ true → is_running past j ≡ true
ran_past past e j runs = by (reply_to past j) runs where
  by : (o : Option Replied) → is_none (elim o as (λ z. Option Replied) [ Some r ↦ Some r | None ↦ reply_in j past e ]) ≡ true → is_none o ≡ true
  by None is = refl
  by (Some r) is = absurd (false_is_true is)

-- The command of a call's job is what it was.
pub command_past : (st : Setting) (past : Trace) (e : Entry) (m : Submitted) (j : ℕ) (c : Command) → JobFacts st past None → Contains (submitted past) m → job_of m.call.purpose ≡ Some j → command_numbered st (e ∷ past) j ≡ Some c
    → command_numbered st past j ≡ Some c
command_past st past e m j c jobs there of named =
    let v = some_of (command_numbered st past j) (jobs.called m j there of) in v.1 ∙ ap (λ z. Some z) (one_value v.0 c (command_numbered st (e ∷ past) j) (command_stays st e past j v.0 v.1) named)

pub record HeardBefore (x : Step) (m : Submitted) : Type 0 where
  pub before : Submitted
  pub there : Contains (submitted x.past) before
  pub same : before.call ≡ m.call
  pub unmet : before.answer ≡ None
  pub command : (j : ℕ) (c : Command) → job_of m.call.purpose ≡ Some j → command_numbered x.setting (seen x) j ≡ Some c → command_numbered x.setting x.past j ≡ Some c

pub heard_before : (x : Step) (s : Session) (m : Submitted) (answer : Answer) → Kept x → Hears x s m answer → HeardBefore x m
heard_before x s m answer k hears =
    record {
      before = told.0;
      there = told.1;
      same = same;
      unmet = was_unanswered x.setting x.past hears.number answer told.0 (subst (λ (i : Input). IsTrue (is_expected x.setting x.past i)) hears.heard k.known.0.orderly.is_trace.0.expected) k.before.whole.facts.calls.found told.1
          (ap (λ (c : Call). c.number) same ∙ eqb-true m.call.number hears.number (find_inside (λ (z : Submitted). z.call.number == hears.number) (submitted (seen x)) m hears.call).1);
      command = λ j c of named. command_past x.setting x.past (entry_of x) told.0 j c k.before.whole.facts.jobs told.1 (ap (λ (d : Call). job_of d.purpose) same ∙ of) named;
    } where
      told : (b : Submitted) × Contains (submitted x.past) b × (answered_in x.past (entry_of x) hears.number answer b ≡ m)
      told =
          in_map (answered_in x.past (entry_of x) hears.number answer) (submitted x.past) m
          (subst (λ ms. Contains ms m) (calls_heard x hears.number answer hears.heard hears.bare) (find_inside (λ (z : Submitted). z.call.number == hears.number) (submitted (seen x)) m hears.call).0)

      same : told.0.call ≡ m.call
      same = sym (same_answered x.past (entry_of x) hears.number answer told.0).call ∙ ap (λ (z : Submitted). z.call) told.2
