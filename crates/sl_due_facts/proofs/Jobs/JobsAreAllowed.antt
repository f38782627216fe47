-- Each effect of each act is allowed: it is of a job that a line has brought, and a call fits its job's command and is the job's only one.
use Rattle.sl_due_facts.proofs.Acts.SessionsStay.{numbered_more}
use Rattle.sl_due_facts.specs.Acts.Acts.{Has, Hears}
use Rattle.sl_due_facts.specs.Acts.TraceSoFar.{entry_of}
use Rattle.sl_due.specs.DueWake.{is_wake}
use Rattle.sl_due.specs.Steps.{Step, add_call_of, seen}
use Rattle.sl_due_facts.proofs.Jobs.CallsStay.{IsLate, calls_stay}
use Rattle.sl_due_facts.proofs.Jobs.EffectsAreAllowed.{Allows}
use Rattle.sl_due_facts.proofs.Jobs.JobFactsGrow.{Both, CallFits, IsFree, IsNumbered, Since, call_kept, late_since, numbered_since, reply_kept, start_kept}
use Rattle.sl_due_facts.specs.Jobs.JobLaws.{HasCallFacts}
use Rattle.sl_trace.specs.Jobs.{command_numbered, command_of, is_command_that, job_of_start, jobs_of_session, lockspace_named}
use Rattle.sl_words.proofs.Lists.{contains_map, find_fails, find_inside, in_map, kept_inside}
use Rattle.sl_words.proofs.Numbers.{number_itself}
use Rattle.sl_words.proofs.Options.{some_of, then_value}
use Rattle.sl_trace.specs.Sessions.{last_renewal, session_numbered}
use Rattle.sl_trace.specs.declared.session.Session.{Session}
use Rattle.sl_due_facts.specs.Facts.HeardCall.{heard_by}
use Rattle.sl_due_facts.specs.Facts.JobFacts.{FitsCommand}
use Rattle.sl_trace.specs.Traces.{Answered, Child, Job, Submitted, answer_of, answered_in, call_numbered, child_numbered, children, is_running, job_numbered, job_of, jobs, mark, new_call, next_call, running_jobs, submitted}
use Rattle.sl_trace.specs.declared.command.Command.TheVariants.{RunProgram}
use Rattle.sl_trace.specs.declared.command.ResourceArg.{ResourceArg}
use Rattle.sl_trace.specs.declared.effects.Call.{Call}
use Rattle.sl_trace.specs.declared.effects.Move.{Move}
use Rattle.sl_trace.specs.declared.effects.Op.{Op}
use Rattle.sl_trace.specs.declared.effects.Purpose.{Purpose}
use Rattle.sl_trace.specs.declared.input.Answer.{Answer}
use Rattle.sl_trace.specs.declared.input.Input.{Input}
use Rattle.sl_trace.specs.declared.input.Input.TheVariants.{Answer as Told, Wake}
use Rattle.sl_trace.specs.declared.reply.Reply.{Reply}
use Rattle.sl_trace.specs.declared.reply.Reply.TheVariants.{Recovering}
use Rattle.sl_run_law.proofs.Sessions.CallsAreMade.{same_answered}
use Rattle.sl_words.proofs.CaseLaws.{false_is_true, none_some, not_both, one_value, some_value, true_is_false}
use Rattle.sl_words.specs.Words.{some_is}
use Rattle.std.proofs.Common.{ap, inl, inr, refl, subst, sym, ◌∙◌}
use Rattle.std.proofs.lemmas.Bool.{eqb-true}
use Rattle.std.specs.Option.{option_or}
use Rattle.std.specs.Prelude.{Bool, Contains, IsSome, List, None, Option, Some, [], bytes_eq, false, find, fold, length, map, option_and_then, slice_get, true, ℕ, ◌==◌, ◌∷◌, ◌≡◌}

-- ---- what an act allows, from where it began

abbrev pub Meanwhile : Step → Step → Type 0
Meanwhile x y = Both y × Since x y

abbrev pub MayReply : Step → ℕ → Reply → Type 0
MayReply x j r = IsNumbered x j × IsLate x r

abbrev pub MayCall : Step → Session → List ℕ → Purpose → ℕ → Op → Type 0
MayCall x s path p o op = Has x s × ((j : ℕ) → job_of p ≡ Some j → CallFits x s path p o j)

-- The job runs a program.
abbrev pub IsProgram : Step → ℕ → Type 0
IsProgram x j = (r : ResourceArg) × (shared : Bool) × (path : List ℕ) × (command_numbered x.setting (seen x) j ≡ Some (RunProgram r shared path))

abbrev pub MayStart : Step → Option ℕ → Type 0
MayStart x o = (j : ℕ) → o ≡ Some j → IsProgram x j

abbrev pub MayMove : Move → Type 0
MayMove m = Unit {0}

pub fits_since : (x y : Step) (s : Session) (path : List ℕ) (p : Purpose) (o j : ℕ) → Since x y → CallFits x s path p o j → CallFits y s path p o j
fits_since x y s path p o j h f =
    record {
      command = f.command;
      reads = subst (λ js. option_and_then command_of (find (λ (k : Job). k.number == j) js) ≡ Some f.command) (sym h.jobs) f.reads;
      free = λ m there none of. f.free m (subst (λ ms. Contains ms m) h.calls there) none of;
      fits = λ m at by. subst (λ st. FitsCommand st s m f.command p) (sym h.setting) (f.fits m at by);
    }

program_since : (x y : Step) (j : ℕ) → Since x y → IsProgram x j → IsProgram y j
program_since x y j h f = (f.0, f.1, f.2, subst (λ js. option_and_then command_of (find (λ (k : Job). k.number == j) js) ≡ Some (RunProgram f.0 f.1 f.2)) (sym h.jobs) f.3)

has_since : (x y : Step) (s : Session) → Since x y → Has x s → Has y s
has_since x y s h has = subst (λ ss. slice_get ss s.number ≡ Some s) (sym h.sessions) has

pub allows : (x : Step) → Allows (Meanwhile x) Both (MayReply x) (MayCall x) (MayStart x) MayMove
allows x =
    record {
      ends = λ y e k. ((record { owned = k.0.0.owned; found = k.0.0.found; below = k.0.0.below; made = k.0.0.made; later = k.0.0.later; fits = k.0.0.fits }, record { replied = k.0.1.replied; called = k.0.1.called; joins = k.0.1.joins; starts = k.0.1.starts; fits = k.0.1.fits; one = k.0.1.one }), record { setting = k.1.setting; before = k.1.before; input = k.1.input; calls = k.1.calls; jobs = k.1.jobs; sessions = k.1.sessions });
      signals = λ y q signal k. ((record { owned = k.0.0.owned; found = k.0.0.found; below = k.0.0.below; made = k.0.0.made; later = k.0.0.later; fits = k.0.0.fits }, record { replied = k.0.1.replied; called = k.0.1.called; joins = k.0.1.joins; starts = k.0.1.starts; fits = k.0.1.fits; one = k.0.1.one }), record { setting = k.1.setting; before = k.1.before; input = k.1.input; calls = k.1.calls; jobs = k.1.jobs; sessions = k.1.sessions });
      moves = λ y m may k. ((record { owned = k.0.0.owned; found = k.0.0.found; below = k.0.0.below; made = k.0.0.made; later = k.0.0.later; fits = k.0.0.fits }, record { replied = k.0.1.replied; called = k.0.1.called; joins = k.0.1.joins; starts = k.0.1.starts; fits = k.0.1.fits; one = k.0.1.one }), record { setting = k.1.setting; before = k.1.before; input = k.1.input; calls = k.1.calls; jobs = k.1.jobs; sessions = k.1.sessions });
      grants = λ y g k. ((record { owned = k.0.0.owned; found = k.0.0.found; below = k.0.0.below; made = k.0.0.made; later = k.0.0.later; fits = k.0.0.fits }, record { replied = k.0.1.replied; called = k.0.1.called; joins = k.0.1.joins; starts = k.0.1.starts; fits = k.0.1.fits; one = k.0.1.one }), record { setting = k.1.setting; before = k.1.before; input = k.1.input; calls = k.1.calls; jobs = k.1.jobs; sessions = k.1.sessions });
      starts = λ y s may k. (start_kept y s (λ j of. program_since x y j k.1 (may j of)) k.0, record { setting = k.1.setting; before = k.1.before; input = k.1.input; calls = k.1.calls; jobs = k.1.jobs; sessions = k.1.sessions });
      replies = λ y j r may k. (
        reply_kept y j r (numbered_since x y j k.1 may.0) (late_since x y r k.1 may.1) k.0,
        record { setting = k.1.setting; before = k.1.before; input = k.1.input; calls = calls_stay y j r (late_since x y r k.1 may.1) ∙ k.1.calls; jobs = k.1.jobs; sessions = k.1.sessions },
      );
      calls = λ y s path p o op may k.
          let has : Has y s = has_since x y s k.1 may.0 in
          call_kept y s path p o op (more y s path p o op s.number s has) (λ n z is. more y s path p o op n z is) (λ j of. fits_since x y s path p o j k.1 (may.1 j of)) k.0;
      rest = λ y k. k.0;
    } where
      more : (y : Step) (s : Session) (path : List ℕ) (p : Purpose) (o : ℕ) (op : Op) (n : ℕ) (z : Session) → session_numbered y.setting (seen y) n ≡ Some z
          → session_numbered y.setting (seen (add_call_of s.number path p o op y)) n ≡ Some z
      more y s path p o op n z is =
          numbered_more y.setting y.past (entry_of y) (record { number = next_call y.setting (seen y); session = s.number; purpose = p; path = path; offset = o; op = op }) n z is

-- ---- jobs that a line has brought

pub numbered_of : (x : Step) (j : ℕ) → IsSome (command_numbered x.setting (seen x) j) → IsNumbered x j
numbered_of x j is =
    let command = some_of (command_numbered x.setting (seen x) j) is in
    let job = then_value command_of (job_numbered x.setting (seen x) j) command.0 command.1 in subst (λ o. IsSome o) (sym job.1) refl

pub caller_numbered : (x : Step) (m : Submitted) (j : ℕ) → Both x → Contains (submitted (seen x)) m → job_of m.call.purpose ≡ Some j → IsNumbered x j
caller_numbered x m j h there of = numbered_of x j (h.1.called m j there of)

pub runner_numbered : (x : Step) (j : Job) → Contains (running_jobs x.setting (seen x)) j → IsNumbered x j.number
runner_numbered x j there =
    let inside = (kept_inside (λ (k : Job). is_running (seen x) k.number) (jobs x.setting (seen x)) j there).0 in
    by (job_numbered x.setting (seen x) j.number) refl inside where
      by : (o : Option Job) → job_numbered x.setting (seen x) j.number ≡ o → Contains (jobs x.setting (seen x)) j → IsSome (job_numbered x.setting (seen x) j.number)
      by (Some k) is inside = subst (λ o. IsSome o) (sym is) refl
      by None is inside = absurd (not_both (j.number == j.number) (number_itself j.number) (find_fails (λ (k : Job). k.number == j.number) (jobs x.setting (seen x)) j is inside))

pub of_session_numbered : (x : Step) (s : Session) (j : Job) → Contains (jobs_of_session x.setting (seen x) s) j → IsNumbered x j.number
of_session_numbered x s j there =
    runner_numbered x j (kept_inside (is_command_that (λ c. some_is (λ n. bytes_eq n s.lockspace) (lockspace_named c))) (running_jobs x.setting (seen x)) j there).0

pub starter_numbered : (x : Step) (p j : ℕ) → Both x → job_of_start (seen x) p ≡ Some j → IsNumbered x j
starter_numbered x p j h is =
    let child = then_value (λ (k : Child). k.job) (child_numbered (seen x) p) j is in
    let there = find_inside (λ (k : Child). k.process == p) (children (seen x)) child.0 child.1 in
    let runs = h.1.starts child.0 j there.0 child.2 in numbered_of x j (subst (λ o. IsSome o) (sym runs.3) refl)

-- Back from a later moment of the act.
pub numbered_back : (x y : Step) (j : ℕ) → Since x y → IsNumbered y j → IsNumbered x j
numbered_back x y j h is = subst (λ js. IsSome (find (λ (k : Job). k.number == j) js)) h.jobs is

pub stops_allowed : (x : Step) (s : Session) → ((r : Reply) → IsLate x r) → (z : Step) → Meanwhile x z → (j : Job) → Contains (jobs_of_session z.setting (seen z) s) j
    → MayReply x j.number (Recovering (last_renewal z.setting (seen z) s))
stops_allowed x s after z k j there = (numbered_back x z j.number k.1 (of_session_numbered z s j there), after (Recovering (last_renewal z.setting (seen z) s)))

pub starts_nothing : (x : Step) → MayStart x None
starts_nothing x j is = absurd (none_some j is)

-- ---- replies before an answer

no_answer_told : {n : ℕ} {a : Answer} {i : Input} → i ≡ Wake → i ≡ Told n a → ⊥
no_answer_told {n} {a} wake told = true_is_false (ap (λ i. is_wake i) (sym wake ∙ told))

pub late_on_wake : (x : Step) (r : Reply) → x.input ≡ Wake → IsLate x r
late_on_wake x r wake n a told = absurd (no_answer_told wake told)

abbrev pub is_told : Input → Bool
is_told (Told n a) = true
is_told i = false

pub late_unless_told : (x : Step) (r : Reply) → is_told x.input ≡ false → IsLate x r
late_unless_told x r other n a told = absurd (true_is_false (ap (λ i. is_told i) (sym told) ∙ other))

pub calls_heard : (x : Step) (n : ℕ) (a : Answer) → x.input ≡ Told n a → x.effects.calls ≡ [] → submitted (seen x) ≡ map (answered_in x.past (entry_of x) n a) (submitted x.past)
calls_heard x n a told bare =
    ap (λ cs. fold (λ ms c. new_call (length x.past) x.reading c ∷ ms) (mark x.past (entry_of x) x.input (submitted x.past)) cs) bare ∙ ap (λ i. mark x.past (entry_of x) i (submitted x.past)) told

told_number : (n k : ℕ) {a b : Answer} → Told n a ≡ Told k b → n ≡ k
told_number n k is = some_value n k (ap (λ i. heard_by i) is)

-- The answer of a survey is of no job's call.
pub late_on_survey : (x : Step) (s : Session) (m : Submitted) (answer : Answer) (r : Reply) → HasCallFacts x → Hears x s m answer → job_of m.call.purpose ≡ None → IsLate x r
late_on_survey x s m answer r h hears none n a told = inr (λ b there its. by b there its) where
  there_now : (b : Submitted) → Contains (submitted x.past) b → Contains (submitted (seen x)) (answered_in x.past (entry_of x) n a b)
  there_now b there =
      subst (λ ms. Contains ms (answered_in x.past (entry_of x) n a b)) (sym (calls_heard x n a told hears.bare)) (contains_map (answered_in x.past (entry_of x) n a) (submitted x.past) b there)

  by : (b : Submitted) → Contains (submitted x.past) b → (b.call.number == n) ≡ true → job_of b.call.purpose ≡ None
  by b there its =
      let k : Submitted = answered_in x.past (entry_of x) n a b in
      let same : k.call ≡ b.call = (same_answered x.past (entry_of x) n a b).call in
      let number : k.call.number ≡ hears.number = ap (λ (c : Call). c.number) same ∙ (eqb-true b.call.number n its ∙ told_number n hears.number (sym told ∙ hears.heard)) in
      let one : k ≡ m = one_value k m (call_numbered (seen x) hears.number) (subst (λ q. call_numbered (seen x) q ≡ Some k) number (h.found k (there_now b there))) hears.call in
      ap (λ (c : Call). job_of c.purpose) (sym same) ∙ (ap (λ (z : Submitted). job_of z.call.purpose) one ∙ none)

-- ---- a call that was heard is answered, so no other of its job is open

answered_now : (x : Step) (n : ℕ) (a : Answer) (b : Submitted) → (t : Bool) → (b.call.number == n) ≡ t → t ≡ true
    → (elim t as (λ z. Submitted) [ false ↦ b | true ↦ record b { answer = option_or b.answer (Some (answer_of x.past (entry_of x) a b.call)) } ]).answer ≡ None → ⊥
answered_now x n a b true is itself none = by b.answer none where
  by : (o : Option Answered) → option_or o (Some (answer_of x.past (entry_of x) a b.call)) ≡ None → ⊥
  by None h = none_some (answer_of x.past (entry_of x) a b.call) (sym h)
  by (Some c) h = none_some c (sym h)
answered_now x n a b false is itself none = false_is_true itself

pub heard_answered : (x : Step) (s : Session) (m : Submitted) (answer : Answer) → Hears x s m answer → m.answer ≡ None → ⊥
heard_answered x s m answer hears none =
    let found = find_inside (λ (z : Submitted). z.call.number == hears.number) (submitted (seen x)) m hears.call in
    let was = in_map (answered_in x.past (entry_of x) hears.number answer) (submitted x.past) m (subst (λ ms. Contains ms m) (calls_heard x hears.number answer hears.heard hears.bare) found.0) in
    let same : m.call ≡ was.0.call = ap (λ (z : Submitted). z.call) (sym was.2) ∙ (same_answered x.past (entry_of x) hears.number answer was.0).call in
    answered_now x hears.number answer was.0 (was.0.call.number == hears.number) refl (ap (λ (c : Call). c.number == hears.number) (sym same) ∙ found.1) (ap (λ (z : Submitted). z.answer) was.2 ∙ none)

pub free_when_heard : (x : Step) (s : Session) (m : Submitted) (answer : Answer) (j : ℕ) → Both x → Hears x s m answer → job_of m.call.purpose ≡ Some j → IsFree x j
free_when_heard x s m answer j h hears of n there none also =
    let found = find_inside (λ (z : Submitted). z.call.number == hears.number) (submitted (seen x)) m hears.call in
    let heard : heard_by x.input ≡ Some m.call.number = ap (λ i. heard_by i) hears.heard ∙ ap (λ k. Some k) (sym (eqb-true m.call.number hears.number found.1)) in
    let one : m ≡ n = h.1.one m n j found.0 there (inr (heard, hears.bare)) (inl none) of also in
    heard_answered x s m answer hears (ap (λ (z : Submitted). z.answer) one ∙ none)
