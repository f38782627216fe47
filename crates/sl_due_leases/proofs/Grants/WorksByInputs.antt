-- The facts of a job's work go on when the input is seen, and once a step has begun.
use Rattle.sl_due_facts.specs.Acts.Acts.{Expects}
use Rattle.sl_due_facts.specs.Acts.TraceSoFar.{entry_of}
use Rattle.sl_due.specs.Steps.{Step, seen, with_input}
use Rattle.sl_due_leases.proofs.Grants.WorksByEffects.{WorksAt, works_on}
use Rattle.sl_due_leases.proofs.Holdings.HoldingsByInputs.{answers_open, calls_stay, calls_told, children_seen, is_no_answer, sessions_seen_still}
use Rattle.sl_due_facts.proofs.Jobs.JobsAreNumbered.{numbered_seen}
use Rattle.sl_trace.specs.Jobs.{command_numbered, command_of}
use Rattle.sl_words.proofs.Lists.{in_map}
use Rattle.sl_words.proofs.Options.{some_of, then_value}
use Rattle.sl_due_facts.specs.Facts.CallFacts.{CallFacts}
use Rattle.sl_due_facts.specs.Facts.HeardCall.{heard_by}
use Rattle.sl_due_facts.specs.Facts.JobFacts.{JobFacts}
use Rattle.sl_due_facts.specs.Facts.WorkFacts.{IsWaiting}
use Rattle.sl_trace.specs.Traces.{Answered, Submitted, Trace, answer_of, answered_in, job_numbered, job_of, submitted}
use Rattle.sl_trace.specs.declared.command.Command.{Command}
use Rattle.sl_trace.specs.declared.effects.Call.{Call}
use Rattle.sl_trace.specs.declared.effects.Entry.{Entry}
use Rattle.sl_trace.specs.declared.effects.Purpose.TheVariants.{Lease}
use Rattle.sl_trace.specs.declared.effects.Work.TheVariants.{ForJob}
use Rattle.sl_trace.specs.declared.input.Answer.{Answer}
use Rattle.sl_trace.specs.declared.input.Input.TheVariants.{Answer as Told, Exit, Line, Number, Spawned, Wake}
use Rattle.sl_trace.specs.declared.input.Input.{Input}
use Rattle.sl_run_law.proofs.Sessions.CallsAreMade.{same_answered}
use Rattle.sl_words.proofs.CaseLaws.{no_value, one_value, some_value, true_is_false}
use Rattle.std.proofs.Common.{ap, inl, inr, refl, subst, sym, ◌∙◌}
use Rattle.std.specs.Option.{option_or}
use Rattle.std.specs.Prelude.{Bool, Contains, IsSome, None, Option, Some, [], false, map, option_and_then, true, ℕ, ◌==◌, ◌≡◌}

-- ---- the command of a job whose call was made

-- It is what it was.
pub command_was : (x : Step) (i : Input) (j : ℕ) (c : Command) → x.input ≡ Wake → IsSome (command_numbered x.setting (seen x) j) → command_numbered x.setting (seen (with_input i x)) j ≡ Some c
    → command_numbered x.setting (seen x) j ≡ Some c
command_was x i j c wake known is =
    let k = some_of (command_numbered x.setting (seen x) j) known in
    let v = then_value command_of (job_numbered x.setting (seen x) j) k.0 k.1 in
    let later : command_numbered x.setting (seen (with_input i x)) j ≡ Some k.0 = ap (λ o. option_and_then command_of o) (numbered_seen x i wake j v.0 v.1) ∙ v.2 in
    k.1 ∙ ap (λ z. Some z) (one_value k.0 c (command_numbered x.setting (seen (with_input i x)) j) later is)

pub none_heard : (i : Input) → is_no_answer i ≡ true → heard_by i ≡ None
none_heard (Told n w) other = absurd (true_is_false (sym other))
none_heard (Line text) other = refl
none_heard (Number text) other = refl
none_heard (Exit p) other = refl
none_heard (Spawned p ok) other = refl
none_heard Wake other = refl

unmet : (t : Trace) (heard : Option ℕ) (m : Submitted) → heard ≡ None → IsWaiting t heard m → m.answer ≡ None
unmet t heard m none (inl is) = is
unmet t heard m none (inr h) = absurd (no_value m.call.number heard h.0 none)

-- ---- inputs

pub input_works : (x : Step) (i : Input) → x.input ≡ Wake → x.effects.calls ≡ [] → is_no_answer i ≡ true → JobFacts x.setting (seen x) (heard_by x.input) → WorksAt x → WorksAt (with_input i x)
input_works x i wake bare other jobs h =
    let same : submitted (seen (with_input i x)) ≡ submitted (seen x) = calls_stay x i wake bare other in
    works_on x.setting (seen x) (seen (with_input i x)) (heard_by x.input) (heard_by i) (record {
      back = λ m j step c k.
          let there : Contains (submitted (seen x)) m = subst (λ ms. Contains ms m) same k.there in
          record {
            before = m;
            same = refl;
            work = record {
              there = there;
              opens = inl (unmet (seen (with_input i x)) (heard_by i) m (none_heard i other) k.opens);
              purpose = k.purpose;
              runs = k.runs;
              command = command_was x i j c wake (jobs.called m j there (ap (λ p. job_of p) k.purpose)) k.command;
            };
          };
      held = λ g there. there;
      further = children_seen x i;
      sessions = λ n s m there is its. sym (sessions_seen_still x i n bare) ∙ its;
      made = λ d there. (d, subst (λ ms. Contains ms d) same there, refl, refl);
      unshared = λ since s at none. none;
    }) h

pub unanswered : (past : Trace) (e : Entry) (n : ℕ) (w : Answer) (m : Submitted) → (answered_in past e n w m).answer ≡ None → m.answer ≡ None
unanswered past e n w m none = by (m.call.number == n) m.answer refl none where
  by : (b : Bool) (o : Option Answered) → m.answer ≡ o
      → (elim b as (λ z. Submitted) [ false ↦ m | true ↦ record m { answer = option_or m.answer (Some (answer_of past e w m.call)) } ]).answer ≡ None → m.answer ≡ None
  by false o is h = h
  by true None is h = is
  by true (Some a) is h = absurd (no_value a (option_or (Some a) (Some (answer_of past e w m.call))) refl (ap (λ q. option_or q (Some (answer_of past e w m.call))) (sym is) ∙ h))

pub answer_works : (x : Step) (n : ℕ) (w : Answer) → x.input ≡ Wake → x.effects.calls ≡ [] → CallFacts x.setting (seen x) → JobFacts x.setting (seen x) (heard_by x.input) → Expects x (Told n w) → WorksAt x → WorksAt (with_input (Told n w) x)
answer_works x n w wake bare facts jobs expected h =
    works_on x.setting (seen x) (seen (with_input (Told n w) x)) (heard_by x.input) (Some n) (record {
      back = λ m j step c k.
          let v = in_map f (submitted (seen x)) m (subst (λ ms. Contains ms m) told k.there) in
          let same : v.0.call ≡ m.call = sym (same_answered x.past e n w v.0).call ∙ ap (λ (z : Submitted). z.call) v.2 in
          let purpose : v.0.call.purpose ≡ Lease (ForJob j) step = ap (λ (z : Call). z.purpose) same ∙ k.purpose in
          record {
            before = v.0;
            same = same;
            work = record {
              there = v.1;
              opens = inl (waited v.0 v.1 (subst (λ z. IsWaiting (seen (with_input (Told n w) x)) (Some n) z) (sym v.2) k.opens));
              purpose = purpose;
              runs = k.runs;
              command = command_was x (Told n w) j c wake (jobs.called v.0 j v.1 (ap (λ p. job_of p) purpose)) k.command;
            };
          };
      held = λ g there. there;
      further = children_seen x (Told n w);
      sessions = λ k s m there is its. sym (sessions_seen_still x (Told n w) k bare) ∙ its;
      made = λ d there. (
          let v = in_map f (submitted (seen x)) d (subst (λ ms. Contains ms d) told there) in
          (v.0, v.1, sym (same_answered x.past e n w v.0).call ∙ ap (λ (z : Submitted). z.call) v.2, sym (same_answered x.past e n w v.0).at ∙ ap (λ (z : Submitted). z.at) v.2)
          );
      unshared = λ since s at none. none;
    }) h where
      e : Entry
      e = entry_of (with_input (Told n w) x)

      f : Submitted → Submitted
      f = answered_in x.past e n w

      told : submitted (seen (with_input (Told n w) x)) ≡ map f (submitted (seen x))
      told = calls_told x n w wake bare

      waited : (m : Submitted) → Contains (submitted (seen x)) m → IsWaiting (seen (with_input (Told n w) x)) (Some n) (f m) → m.answer ≡ None
      waited m there (inl none) = unanswered x.past e n w m none
      waited m there (inr k) =
          answers_open x n w wake bare facts expected m there (ap (λ (z : Call). z.number) (sym (same_answered x.past e n w m).call) ∙ sym (some_value n (f m).call.number k.0))
