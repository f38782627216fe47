-- No job is left whose call was answered otherwise than it asks, or is of a session that is gone; and a child's job is answered when its start is.
use Rattle.sl_due_facts.specs.Acts.Acts.{Hears, IsIdle}
use Rattle.sl_due.specs.Steps.{Step, seen}
use Rattle.sl_due_leases.proofs.Ways.WayFactsHeld.HeardStands.{HeardCall, heard_call}
use Rattle.sl_due_law.proofs.LawfulTraces.CallsSuit.{heard_suits}
use Rattle.sl_due_law.proofs.LawfulTraces.LeasesRest.{read_fits, written_fits}
use Rattle.sl_due_facts.specs.Facts.JobFacts.{FitsCommand}
use Rattle.sl_due_facts.specs.Facts.AllFacts.{Whole}
use Rattle.sl_due_law.specs.LawfulTraces.JobLore.{AllSuit, OpFits}
use Rattle.sl_due_law.specs.LawfulTraces.CarriedFacts.{Kept}
use Rattle.sl_due_law.specs.LawfulTraces.TraceLaws.{MayRest}
use Rattle.sl_trace.specs.Jobs.{aim_of_command, command_numbered}
use Rattle.sl_words.proofs.Options.{some_of}
use Rattle.sl_trace.specs.declared.session.Session.{Session}
use Rattle.sl_trace.specs.Traces.{Submitted, bytes_given, is_answer_for, is_running, is_write, job_of}
use Rattle.sl_trace.specs.declared.command.Command.{Command}
use Rattle.sl_trace.specs.declared.effects.Purpose.TheVariants.{Joining, Lease, Leaving, Renewal, RequestRead, RequestWrite, SeeRequest, Survey, ValueRead, ValueWrite}
use Rattle.sl_trace.specs.declared.effects.Purpose.{Purpose}
use Rattle.sl_trace.specs.declared.effects.Work.TheVariants.{ForJob, Settling}
use Rattle.sl_trace.specs.declared.input.Answer.TheVariants.{Failed, Read, Written}
use Rattle.sl_trace.specs.declared.input.Answer.{Answer}
use Rattle.sl_words.proofs.CaseLaws.{false_is_true, none_some, not_both, some_value}
use Rattle.std.proofs.Common.{ap, inl, inr, refl, subst, sym, ◌∙◌}
use Rattle.std.specs.Prelude.{IsSome, IsTrue, Some, false, option_and_then, true, ℕ, ◌≡◌}

-- ---- an answer after which nothing is due

pub idles_rest : (x : Step) (s : Session) (m : Submitted) (answer : Answer) (j : ℕ) → Kept x → AllSuit x.setting x.past → Hears x s m answer → IsIdle x s m answer m.call.purpose → job_of m.call.purpose ≡ Some j → MayRest x j
idles_rest x s m answer j k suit hears idle its = λ runs. absurd (by m.call.purpose refl idle its runs) where
  w : Whole x
  w = k.known.0

  heard : HeardCall x answer m
  heard = heard_call x s m answer hears w

  fits : IsTrue (is_answer_for x.setting answer m.call.op)
  fits = w.facts.calls.fits m _ heard.there heard.told

  op : (p : Purpose) → m.call.purpose ≡ p → OpFits p m.call.op
  op p is = subst (λ q. OpFits q m.call.op) is (heard_suits x s m answer k suit hears).op_fits

  command : (c : Command) × (command_numbered x.setting (seen x) j ≡ Some c)
  command = some_of (command_numbered x.setting (seen x) j) (w.facts.jobs.called m j heard.there its)

  stopped : (i : ℕ) → i ≡ j → is_running (seen x) i ≡ false → is_running (seen x) j ≡ true → ⊥
  stopped i same none runs = not_both (is_running (seen x) j) runs (subst (λ n. is_running (seen x) n ≡ false) same none)

  wrote : is_write m.call.op ≡ false → answer ≡ Written → ⊥
  wrote reads is = not_both (is_write m.call.op) (written_fits x.setting m.call.op (subst (λ a. IsTrue (is_answer_for x.setting a m.call.op)) is fits)) reads

  gave : is_write m.call.op ≡ true → IsSome (bytes_given answer) → ⊥
  gave writes some = by_answer answer refl some where
    by_answer : (a : Answer) → answer ≡ a → IsSome (bytes_given a) → ⊥
    by_answer (Read bytes) is there = not_both (is_write m.call.op) writes (read_fits x.setting bytes m.call.op (subst (λ a. IsTrue (is_answer_for x.setting a m.call.op)) is fits))
    by_answer Written is there = false_is_true there
    by_answer Failed is there = false_is_true there

  by : (p : Purpose) → m.call.purpose ≡ p → IsIdle x s m answer p → job_of p ≡ Some j → is_running (seen x) j ≡ true → ⊥
  by (Lease (ForJob i) step) is (inl off) its runs = stopped i (some_value i j its) off runs
  by (Lease (ForJob i) step) is (inr none) of runs =
      let f : FitsCommand x.setting s m command.0 (Lease (ForJob i) step) = subst (λ p. FitsCommand x.setting s m command.0 p) is (w.facts.jobs.fits m j s command.0 heard.there its hears.session command.1) in
      let aim = some_of (aim_of_command command.0) f.2 in
      none_some aim.0 (sym none ∙ (ap (λ o. option_and_then aim_of_command o) (ap (λ n. command_numbered x.setting (seen x) n) (some_value i j of) ∙ command.1) ∙ aim.1))
  by (Lease Settling step) is off of runs = none_some j of
  by Survey is off of runs = none_some j of
  by SeeRequest is off of runs = none_some j of
  by (RequestRead i) is (inl off) of runs = stopped i (some_value i j of) off runs
  by (RequestRead i) is (inr (inl done)) of runs = wrote (op (RequestRead i) is) done
  by (RequestRead i) is (inr (inr none)) of runs = none_some command.0 (sym none ∙ (ap (λ n. command_numbered x.setting (seen x) n) (some_value i j of) ∙ command.1))
  by (RequestWrite i owner) is (inl off) of runs = stopped i (some_value i j of) off runs
  by (RequestWrite i owner) is (inr some) of runs = gave (op (RequestWrite i owner) is) some
  by (ValueWrite i) is (inl off) of runs = stopped i (some_value i j of) off runs
  by (ValueWrite i) is (inr some) of runs = gave (op (ValueWrite i) is) some
  by (ValueRead i) is (inl off) of runs = stopped i (some_value i j of) off runs
  by (ValueRead i) is (inr done) of runs = wrote (op (ValueRead i) is) done
  by (Joining i step) is off of runs = off
  by Renewal is off of runs = off
  by (Leaving i) is off of runs = off
