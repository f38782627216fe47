-- Where a call is made for a job it fits the job's command, and the job has no other call unanswered.
use Rattle.sl_due_facts.proofs.Acts.InputsKeep.{has_heard}
use Rattle.sl_due_facts.specs.Acts.Acts.{Has, Hears}
use Rattle.sl_due_facts.specs.Acts.TraceSoFar.{SoFar}
use Rattle.sl_due.specs.Steps.{Step, seen}
use Rattle.sl_due_facts.proofs.Jobs.CallsStay.{IsLate, is_special, late_join}
use Rattle.sl_due_facts.proofs.Jobs.EffectsAreAllowed.{DeltaAllowed}
use Rattle.sl_due_facts.proofs.Jobs.JobFactsGrow.{Both, CallFits, IsFree, IsNumbered}
use Rattle.sl_due_facts.proofs.Jobs.JobsAreAllowed.{MayCall, MayMove, MayReply, free_when_heard, numbered_of}
use Rattle.sl_due_facts.proofs.Jobs.RepliesComeAfter.{IsLateDelta}
use Rattle.sl_due_facts.proofs.Jobs.SessionsHaveJobs.{joined_by, one_session}
use Rattle.sl_trace.specs.Jobs.{command_numbered}
use Rattle.sl_words.proofs.Lists.{contains_cases, contains_none, find_inside, got_inside, kept}
use Rattle.sl_words.proofs.Numbers.{number_itself}
use Rattle.sl_words.proofs.Options.{none_is, some_of}
use Rattle.sl_trace.specs.DeltaDecisions.{own_offset}
use Rattle.sl_trace.specs.Sessions.{calls_of, is_call_of, is_join_done, joined_after, session_numbered, sessions}
use Rattle.sl_trace.specs.declared.delta.DeltaNext.{DeltaNext}
use Rattle.sl_trace.specs.declared.delta.DeltaNext.TheVariants.{Disconnect, EndLeaving, Join, MoveConnection, Nothing, ReadOwn, RefuseJoin, RegisterAndRead, WriteClaim, WriteFirst, WriteFree, WriteRenewal}
use Rattle.sl_trace.specs.declared.session.Session.{Session}
use Rattle.sl_due_facts.specs.Facts.JobFacts.{FitsCommand}
use Rattle.sl_trace.specs.Traces.{Replied, Submitted, is_running, job_of, reply_to, submitted}
use Rattle.sl_trace.specs.declared.command.Command.{Command}
use Rattle.sl_trace.specs.declared.command.Command.TheVariants.{AddLockspace, GetLvb, RemLockspace, Request, SetLvb}
use Rattle.sl_trace.specs.declared.command.LockspaceArg.{LockspaceArg}
use Rattle.sl_trace.specs.declared.command.ResourceArg.{ResourceArg}
use Rattle.sl_trace.specs.declared.effects.JoinStep.{JoinStep}
use Rattle.sl_trace.specs.declared.effects.JoinStep.TheVariants.{ClaimWrite, FirstRenewal}
use Rattle.sl_trace.specs.declared.effects.Purpose.{Purpose}
use Rattle.sl_trace.specs.declared.effects.Purpose.TheVariants.{Joining, Lease, Leaving, Renewal, RequestRead, RequestWrite, SeeRequest, Survey, ValueRead, ValueWrite}
use Rattle.sl_trace.specs.declared.input.Answer.{Answer}
use Rattle.sl_trace.specs.declared.reply.Reply.{Reply}
use Rattle.sl_run_law.proofs.Leases.NumberLaws.{number_is_place}
use Rattle.sl_run_law.proofs.Sessions.WritesAreCovered.{joinings_are_in_turn}
use Rattle.sl_run_law.specs.Sessions.SessionLaws.{all_done, fits, has_reply, is_in_turn}
use Rattle.sl_words.proofs.CaseLaws.{false_is_true, none_some, some_value, true_is_false}
use Rattle.sl_words.proofs.WordLaws.{and_true}
use Rattle.sl_words.specs.Words.{choose}
use Rattle.std.proofs.Common.{ap, inl, inr, refl, subst, sym, ◌∙◌}
use Rattle.std.specs.List.{list_all}
use Rattle.std.specs.Prelude.{Bool, Contains, IsSome, List, None, Option, Some, [], false, is_some, option_and_then, true, ℕ, ◌&&◌, ◌+◌, ◌==◌, ◌∷◌, ◌≡◌, ◌⊎◌}

-- ---- joinings

-- A session whose joining is at work.
pub record JoinsOn (x : Step) (s : Session) (j : ℕ) : Type 0 where
  pub has : Has x s
  pub its : s.job ≡ Some j
  pub free : IsFree x j

session_inside : (x : Step) (s : Session) → Has x s → Contains (sessions x.setting (seen x)) s
session_inside x s has = got_inside (sessions x.setting (seen x)) s.number s has

join_fits : (x : Step) (s : Session) (j : ℕ) (step : JoinStep) (o i : ℕ) → JoinsOn x s j → job_of (Joining j step) ≡ Some i → CallFits x s s.path (Joining j step) o i
join_fits x s j step o i h of =
    let by = joined_by x.setting (seen x) s j (session_inside x s h.has) h.its in
    subst (λ n. CallFits x s s.path (Joining j step) o n) (some_value j i of) (record { command = AddLockspace by.arg; reads = by.command; free = h.free; fits = λ m path at. h.its })

join_numbered : (x : Step) (s : Session) (j : ℕ) → JoinsOn x s j → IsNumbered x j
join_numbered x s j h =
    let by = joined_by x.setting (seen x) s j (session_inside x s h.has) h.its in numbered_of x j (subst (λ o. IsSome o) (sym by.command) refl)

pub no_job : {x : Step} {s : Session} {path : List ℕ} {p : Purpose} {o : ℕ} → job_of p ≡ None → (j : ℕ) → job_of p ≡ Some j → CallFits x s path p o j
no_job none j of = absurd (none_some j (sym none ∙ of))

-- What a joining decides is allowed.
pub joining_allowed : (x : Step) (s : Session) → Has x s → ((j : ℕ) → s.job ≡ Some j → JoinsOn x s j) → ((r : Reply) → is_special r ≡ false → IsLate x r) → (n : DeltaNext) → IsLateDelta n
    → DeltaAllowed (MayReply x) (MayCall x) MayMove x s n
joining_allowed x s has joins after Nothing k = tt
joining_allowed x s has joins after (RefuseJoin r) k = λ j its. ((join_numbered x s j (joins j its), after r k), λ z is. tt)
joining_allowed x s has joins after (ReadOwn step) k = λ j its. (has, λ i of. join_fits x s j step (own_offset x.setting s) i (joins j its) of)
joining_allowed x s has joins after (RegisterAndRead step) k = λ j its. (tt, (has, λ i of. join_fits x s j step (own_offset x.setting s) i (joins j its) of))
joining_allowed x s has joins after (WriteClaim d) k = λ j its. (has, λ i of. join_fits x s j ClaimWrite (own_offset x.setting s) i (joins j its) of)
joining_allowed x s has joins after Disconnect k = tt
joining_allowed x s has joins after (WriteFirst d) k = λ j its. (has, λ i of. join_fits x s j FirstRenewal (own_offset x.setting s) i (joins j its) of)
joining_allowed x s has joins after (Join generation renewed) k = λ j its. (tt, (join_numbered x s j (joins j its), late_join x generation), (has, λ i of. no_job refl i of))
joining_allowed x s has joins after (MoveConnection renewed) k = (tt, (has, λ i of. no_job refl i of))
joining_allowed x s has joins after (WriteRenewal d) k = (has, λ i of. no_job refl i of)
joining_allowed x s has joins after (WriteFree j d) k = absurd k
joining_allowed x s has joins after (EndLeaving j r) k = absurd k

-- A joining's call tells its session's job.
pub joining_of : (x : Step) (s : Session) (m : Submitted) (j : ℕ) (step : JoinStep) → Both x → Contains (submitted (seen x)) m → session_numbered x.setting (seen x) m.call.session ≡ Some s → m.call.purpose ≡ Joining j step → s.job ≡ Some j
joining_of x s m j step h there its is =
    let of : job_of m.call.purpose ≡ Some j = ap (λ p. job_of p) is in
    let command = some_of (command_numbered x.setting (seen x) j) (h.1.called m j there of) in
    subst (λ (p : Purpose). FitsCommand x.setting s m command.0 p) is (h.1.fits m j s command.0 there of its command.1)

pub joins_when_heard : (x : Step) (s : Session) (m : Submitted) (answer : Answer) (j : ℕ) (step : JoinStep) → Both x → Hears x s m answer → m.call.purpose ≡ Joining j step → (i : ℕ) → s.job ≡ Some i → JoinsOn x s i
joins_when_heard x s m answer j step h hears is i its =
    let found = find_inside (λ (z : Submitted). z.call.number == hears.number) (submitted (seen x)) m hears.call in
    let same : j ≡ i = some_value j i (sym (joining_of x s m j step h found.0 hears.session is) ∙ its) in
    record { has = has_heard x s m answer hears; its = its; free = subst (λ n. IsFree x n) same (free_when_heard x s m answer j h hears (ap (λ p. job_of p) is)) }

-- Commands are told apart by what they add.
abbrev adds_lockspace : Command → Bool
adds_lockspace (AddLockspace a) = true
adds_lockspace c = false

no_removal : {a b : LockspaceArg} → AddLockspace a ≡ RemLockspace b → ⊥
no_removal is = true_is_false (ap (λ c. adds_lockspace c) is)

no_request : {a : LockspaceArg} {r : ResourceArg} {n k : ℕ} → AddLockspace a ≡ Request r n k → ⊥
no_request is = true_is_false (ap (λ c. adds_lockspace c) is)

no_get : {a : LockspaceArg} {r : ResourceArg} {p : ℕ} → AddLockspace a ≡ GetLvb r p → ⊥
no_get is = true_is_false (ap (λ c. adds_lockspace c) is)

no_set : {a : LockspaceArg} {r : ResourceArg} {p : ℕ} {bytes : List ℕ} → AddLockspace a ≡ SetLvb r p bytes → ⊥
no_set is = true_is_false (ap (λ c. adds_lockspace c) is)

-- A call of a joining's job is of its session.
pub calls_of_joining : (x : Step) (s : Session) (j : ℕ) (m : Submitted) → Both x → Has x s → s.job ≡ Some j → Contains (submitted (seen x)) m → job_of m.call.purpose ≡ Some j → m.call.session ≡ s.number
calls_of_joining x s j m h has its there of =
    let by = joined_by x.setting (seen x) s j (session_inside x s has) its in
    let z = some_of (session_numbered x.setting (seen x) m.call.session) (h.0.owned m there) in
    let fits : FitsCommand x.setting z.0 m (AddLockspace by.arg) m.call.purpose = h.1.fits m j z.0 (AddLockspace by.arg) there of z.1 by.command in
    let also : z.0.job ≡ Some j = adds m.call.purpose z.0 m by.arg j of fits in
    let one : z.0 ≡ s = one_session x.setting (seen x) z.0 s j (got_inside (sessions x.setting (seen x)) m.call.session z.0 z.1) (session_inside x s has) also its in
    sym (number_is_place x.setting (seen x) m.call.session z.0 z.1) ∙ ap (λ (y : Session). y.number) one
  where
    adds : (p : Purpose) (z : Session) (m : Submitted) (a : LockspaceArg) (i : ℕ) → job_of p ≡ Some i → FitsCommand x.setting z m (AddLockspace a) p → z.job ≡ Some i
    adds (Joining k step) z m a i of fits = fits ∙ of
    adds (Leaving k) z m a i of fits = absurd (no_removal fits.1)
    adds (Lease work step) z m a i of fits = absurd (none_some fits.0 fits.1)
    adds (RequestRead k) z m a i of fits = absurd (no_request fits.3)
    adds (RequestWrite k owner) z m a i of fits = absurd (no_request fits.3)
    adds (ValueRead k) z m a i of fits = absurd (no_get fits.2)
    adds (ValueWrite k) z m a i of fits = absurd (no_set fits.3)
    adds Renewal z m a i of fits = absurd (none_some i of)
    adds Survey z m a i of fits = absurd (none_some i of)
    adds SeeRequest z m a i of fits = absurd (none_some i of)

pub list_all_inside : {A : Type 0} (p : A → Bool) (xs : List A) (d : A) → list_all p xs ≡ true → Contains xs d → p d ≡ true
list_all_inside p [] d all there = absurd (contains_none d there)
list_all_inside p (x ∷ xs) d all there =
    let both = and_true (p x) (list_all p xs) all in
    elim (contains_cases x xs d there) [ inl is ↦ ap p (sym is) ∙ both.0 | inr old ↦ list_all_inside p xs d both.1 old ]

-- On a wake a joining goes on where its newest call is answered.
pub joins_on_wake : (x : Step) (s : Session) (j : ℕ) (m : Submitted) (ms : List Submitted) → Both x → SoFar x → Has x s → s.job ≡ Some j → is_running (seen x) j ≡ true
    → calls_of (seen x) s ≡ m ∷ ms → (m.answer ≡ None → ⊥) → JoinsOn x s j
joins_on_wake x s j m ms h orderly has its runs are answered =
    record { has = has; its = its; free = λ n there none of. by n (contains_cases m ms n (subst (λ ks. Contains ks n) are (mine n there of))) none } where
      mine : (n : Submitted) → Contains (submitted (seen x)) n → job_of n.call.purpose ≡ Some j → Contains (calls_of (seen x) s) n
      mine n there of =
          let session = calls_of_joining x s j n h has its there of in
          kept (is_call_of s) (submitted (seen x)) n (ap (λ k. k == s.number) session ∙ number_itself s.number) there

      unjoined : joined_after (seen x) s ≡ None
      unjoined =
          ap (λ (o : Option ℕ). elim o as (λ z. Option ℕ) [ None ↦ Some 0 | Some k ↦ option_and_then (λ r. choose (is_join_done r.reply) (r.at + 1)) (reply_to (seen x) k) ]) its
          ∙ ap (λ (o : Option Replied). option_and_then (λ (r : Replied). choose (is_join_done r.reply) (r.at + 1)) o) (none_is (reply_to (seen x) j) runs)

      turn : is_in_turn (m ∷ ms) ≡ true
      turn = subst (λ ks. is_in_turn ks ≡ true) are (joinings_are_in_turn x.setting (seen x) s orderly has unjoined)

      by : (n : Submitted) → (m ≡ n) ⊎ Contains ms n → n.answer ≡ None → ⊥
      by n (inl is) none = answered (ap (λ (z : Submitted). z.answer) is ∙ none)
      by n (inr old) none =
          let done = and_true (fits n) (has_reply n) (list_all_inside (λ (z : Submitted). fits z && has_reply z) ms n (and_true (fits m) (all_done ms) turn).1 old) in
          false_is_true (ap (λ o. is_some o) (sym none) ∙ done.1)
