-- What is known of jobs before a step and so far in it is kept by each act.
use Rattle.sl_due_facts.proofs.Acts.ActsTogether.{both, from_more}
use Rattle.sl_due_facts.proofs.Jobs.LessIsKept.{to_less}
use Rattle.sl_due_facts.proofs.Acts.PlainActs.{plain_acts}
use Rattle.sl_due_facts.specs.Acts.Acts.{Acts, Expects}
use Rattle.sl_due_facts.specs.Acts.KeptByEffects.{ByEffects, Plainly}
use Rattle.sl_due_facts.specs.Acts.TraceSoFar.{entry_of}
use Rattle.sl_due.specs.DueCommands.{carry_decision}
use Rattle.sl_due.specs.Steps.{Step, seen, with_input}
use Rattle.sl_due_law.proofs.LawfulTraces.CallersStay.{callers_seen}
use Rattle.sl_due_law.proofs.LawfulTraces.CallsSuit.{KnowsSuits, calls_suit}
use Rattle.sl_due_law.proofs.LawfulTraces.ConvertsHold.{ConvertsNow}
use Rattle.sl_due_law.proofs.LawfulTraces.SessionsOfJobs.{KnowsSessions, sessions_stay_one}
use Rattle.sl_due_law.proofs.LawfulTraces.ConvertsKept.{KnowsConverting, conversions_hold}
use Rattle.sl_due_law.specs.LawfulTraces.JobLore.{Converting, JobLore, NewSessions, NewSuit}
use Rattle.sl_due_facts.proofs.Jobs.JobFactsGrow.{was_unanswered}
use Rattle.sl_due_facts.proofs.Jobs.JobsAreAllowed.{calls_heard}
use Rattle.sl_due_leases.proofs.Holdings.HoldingsByInputs.{sessions_seen_still}
use Rattle.sl_run_law.proofs.Sessions.CallsAreMade.{same_answered}
use Rattle.sl_trace.specs.declared.effects.Call.{Call}
use Rattle.sl_due_law.specs.LawfulTraces.CarriedFacts.{Kept}
use Rattle.sl_due_facts.proofs.Jobs.CallsHaveFacts.{calls_before}
use Rattle.sl_words.proofs.Lists.{find_inside, in_map}
use Rattle.sl_trace.specs.Sessions.{is_present, session_numbered}
use Rattle.sl_trace.specs.declared.session.Session.{Session}
use Rattle.sl_due_facts.specs.Facts.HeardCall.{heard_by}
use Rattle.sl_trace.specs.Traces.{Submitted, answered_in, call_numbered, is_running, job_of, submitted}
use Rattle.sl_trace.specs.declared.input.Answer.{Answer}
use Rattle.sl_trace.specs.declared.input.Input.TheVariants.{Answer as Told, Wake}
use Rattle.sl_words.proofs.CaseLaws.{some_value}
use Rattle.std.proofs.Common.{ap, refl, subst, sym, ◌∙◌}
use Rattle.std.proofs.lemmas.Bool.{eqb-true}
use Rattle.std.specs.Prelude.{Contains, None, Some, [], true, ℕ, ◌==◌, ◌≡◌}

-- What is known of jobs besides: before the step and so far in it.
pub record JobsKnown (x : Step) : Type 0 where
  pub lore : JobLore x.setting x.past
  pub suit : NewSuit x
  pub sessions : NewSessions x
  pub converting : Converting x.setting (seen x)

-- The session of the heard call is present, if its job runs.
abbrev pub HeardCallers : Step → Type 0
HeardCallers x =
    (n : ℕ) (answer : Answer) (m : Submitted) (j : ℕ) (s : Session) → x.input ≡ Told n answer → call_numbered (seen x) n ≡ Some m → job_of m.call.purpose ≡ Some j → is_running (seen x) j ≡ true → session_numbered x.setting (seen x) m.call.session ≡ Some s →
    is_present (seen (with_input Wake x)) s ≡ true

-- ---- what is known of jobs besides

abbrev pub IsLore : Step → Type 0
IsLore x = JobLore x.setting x.past

lore_effects : ByEffects IsLore
lore_effects =
    record {
      ends = λ x e h. h;
      signals = λ x p s h. h;
      moves = λ x m h. h;
      grants = λ x g h. h;
      starts = λ x s h. h;
      replies = λ x j r h. h;
      calls = λ x s path p o op has h. h;
    }

lore_plainly : Plainly IsLore
unfolding carry_decision
lore_plainly = record { effects = lore_effects; inputs = λ x i wake bare h. h; begins = λ x text c n a wake bare says is h. h }

abbrev pub KnowsJobs : Step → Type 0
KnowsJobs x = Kept x × JobsKnown x

abbrev PartsKnown : Step → Type 0
PartsKnown x = IsLore x × (NewSuit x × (NewSessions x × ConvertsNow x))

pub jobs_known : Acts KnowsJobs JobsKnown
jobs_known =
    to_less KnowsJobs PartsKnown JobsKnown (λ x h. record { lore = h.0; suit = h.1.0; sessions = h.1.1.0; converting = h.1.1.1 })
    (both KnowsJobs IsLore (λ x. NewSuit x × (NewSessions x × ConvertsNow x)) (from_more IsLore KnowsJobs IsLore (λ x k. k.1.lore) (plain_acts IsLore lore_plainly))
    (both KnowsJobs NewSuit (λ x. NewSessions x × ConvertsNow x) (from_more KnowsSuits KnowsJobs NewSuit (λ x k. record { known = k.0; past = k.1.lore.suit; so_far = k.1.suit }) calls_suit)
    (both KnowsJobs NewSessions ConvertsNow (from_more KnowsSessions KnowsJobs NewSessions (λ x k. record { known = k.0; past = k.1.lore.one; so_far = k.1.sessions }) sessions_stay_one)
    (from_more KnowsConverting KnowsJobs ConvertsNow (λ x k. record { known = k.0; past = k.1.lore; so_far = k.1.converting }) conversions_hold))))

-- ---- when an answer is heard

-- The session of the call that is answered is present, where its job runs.
pub heard_callers : (x : Step) (n : ℕ) (answer : Answer) → x.input ≡ Wake → x.effects.calls ≡ [] → Expects x (Told n answer) → Kept x → JobLore x.setting x.past → HeardCallers (with_input (Told n answer) x)
heard_callers x n answer wake bare expected k lore i a m j s told found its runs has =
    callers_seen x wake bare k lore.callers b.0 j s before unmet (ap (λ (c : Call). job_of c.purpose) same ∙ its) runs
    (ap (λ (c : Call). session_numbered x.setting (seen (with_input Wake x)) c.session) same ∙ (sessions_both ∙ has))
  where
    z : Step
    z = with_input (Told n answer) x

    number : n ≡ i
    number = some_value n i (ap (λ q. heard_by q) told)

    b : (d : Submitted) × Contains (submitted x.past) d × (answered_in x.past (entry_of (with_input (Told n answer) x)) n answer d ≡ m)
    b =
        in_map (answered_in x.past (entry_of z) n answer) (submitted x.past) m
        (subst (λ ms. Contains ms m) (calls_heard z n answer refl bare) (find_inside (λ (d : Submitted). d.call.number == i) (submitted (seen z)) m found).0)

    same : b.0.call ≡ m.call
    same = sym (same_answered x.past (entry_of z) n answer b.0).call ∙ ap (λ (d : Submitted). d.call) b.2

    unmet : b.0.answer ≡ None
    unmet =
        was_unanswered x.setting x.past n answer b.0 expected k.before.whole.facts.calls.found b.1
        (ap (λ (c : Call). c.number) same ∙ (eqb-true m.call.number i (find_inside (λ (d : Submitted). d.call.number == i) (submitted (seen z)) m found).1 ∙ sym number))

    before : Contains (submitted (seen (with_input Wake x))) b.0
    before = subst (λ ms. Contains ms b.0) (sym (calls_before (with_input Wake x) refl bare)) b.1

    sessions_both : session_numbered x.setting (seen (with_input Wake x)) m.call.session ≡ session_numbered x.setting (seen (with_input (Told n answer) x)) m.call.session
    sessions_both = sym (sessions_seen_still (with_input Wake x) (Told n answer) m.call.session bare)
