-- Signals and refusals of many keep the facts of holdings, and so does the exit of a process.
use Rattle.sl_due_facts.proofs.Acts.LoopsKeep.{for_each_keeps, when_keeps}
use Rattle.sl_due_facts.specs.Acts.TraceSoFar.{entry_of}
use Rattle.sl_due.specs.DueRecovery.{send, signal_and_refuse, signal_holders}
use Rattle.sl_due.specs.DueInputs.{end_holdings, refuse_jobs_of, when_running}
use Rattle.sl_due.specs.Steps.{Step, add_end, add_reply, add_signal, add_start, seen}
use Rattle.sl_due_leases.proofs.Holdings.HoldingsByEffects.{HoldsAt, SameCalls, end_held, later_same, reply_held, signal_held, start_held}
use Rattle.sl_trace.specs.KillPrograms.{stopper_of}
use Rattle.sl_trace.specs.Jobs.{is_job_of_process, jobs_of_session}
use Rattle.sl_due_facts.specs.AddedEffects.OneMoreEffect.{with_reply}
use Rattle.sl_words.proofs.Lists.{contains_first, contains_more}
use Rattle.sl_trace.specs.Sessions.{holders_of, last_renewal}
use Rattle.sl_trace.specs.declared.session.Session.{Session}
use Rattle.sl_trace.specs.Traces.{Submitted, Trace, answered_in, end_of, holdings, is_before_input, is_going_on, is_running, job_of, mark, new_call, next_child, running_jobs, submitted}
use Rattle.sl_trace.specs.declared.effects.Entry.{Entry}
use Rattle.sl_trace.specs.declared.effects.JobReply.{JobReply}
use Rattle.sl_trace.specs.declared.effects.Signal.TheVariants.{Kill, Term}
use Rattle.sl_trace.specs.declared.effects.Signal.{Signal}
use Rattle.sl_trace.specs.declared.input.Answer.{Answer}
use Rattle.sl_trace.specs.declared.input.Input.TheVariants.{Answer as Told, Exit, Line, Number, Spawned, Wake}
use Rattle.sl_trace.specs.declared.input.Input.{Input}
use Rattle.sl_trace.specs.declared.reply.Reply.TheVariants.{NoProcess, Recovering}
use Rattle.sl_trace.specs.declared.reply.Reply.{Reply}
use Rattle.sl_words.proofs.CaseLaws.{true_or_false}
use Rattle.sl_words.specs.Words.{some_is}
use Rattle.std.proofs.Common.{ap, inl, inr, refl, sym, ◌∙◌}
use Rattle.std.proofs.lemmas.Bool.{eqb-true}
use Rattle.std.specs.Option.{option_or}
use Rattle.std.specs.Prelude.{Bool, Contains, List, None, Option, Some, [], false, filter, fold, length, map, not, true, ℕ, ◌==◌, ◌∷◌, ◌≡◌, ◌⊎◌}

-- ---- signals

told_held : (y : Step) (p : ℕ) (o : Option (List ℕ)) → HoldsAt y
    → HoldsAt (elim o as (λ z. Step) [ None ↦ add_signal p Term y | Some program ↦ add_start (record { process = next_child (seen y); program = program; job = None; stands_for = Some p }) y ])
told_held y p None h = signal_held y p Term h
told_held y p (Some program) h = start_held y (record { process = next_child (seen y); program = program; job = None; stands_for = Some p }) refl h

pub sent_held : (y : Step) (p : ℕ) (signal : Signal) → HoldsAt y → HoldsAt (send p signal y)
sent_held y p Term h = told_held y p (stopper_of y.setting (seen y) p) h
sent_held y p Kill h = signal_held y p Kill h

pub signalled_held : (y : Step) (signal : Signal) (s : Session) → HoldsAt y → HoldsAt (signal_holders signal s y)
signalled_held y signal s h = for_each_keeps HoldsAt (holders_of (seen y) s) (λ p. send p signal) y (λ p there z k. sent_held z p signal k) h

-- ---- refusals of many jobs

-- The input answers no call of a job.
abbrev pub AnswersNoJob : Trace → Input → Type 0
AnswersNoJob past i = (n : ℕ) (w : Answer) (m : Submitted) → i ≡ Told n w → Contains (submitted past) m → m.call.number ≡ n → job_of m.call.purpose ≡ None

map_inside : (f g : Submitted → Submitted) (ms : List Submitted) → ((m : Submitted) → Contains ms m → f m ≡ g m) → map f ms ≡ map g ms
map_inside f g [] same = refl
map_inside f g (m ∷ ms) same = ap (λ x. x ∷ map f ms) (same m (contains_first m ms)) ∙ ap (λ xs. g m ∷ xs) (map_inside f g ms (λ d there. same d (contains_more m ms d there)))

marks_same : (past : Trace) (e d : Entry) (i : Input) → e.reading ≡ d.reading → AnswersNoJob past i → mark past d i (submitted past) ≡ mark past e i (submitted past)
marks_same past e d (Told n w) reading none = map_inside (answered_in past d n w) (answered_in past e n w) (submitted past) (λ m there. by m there (true_or_false (m.call.number == n))) where
  answer : ℕ → Option ℕ → Entry → Submitted → Bool → Submitted
  answer r o x m b = elim b as (λ z. Submitted) [
    | false ↦ m
    | true ↦ record m { answer = option_or m.answer (Some (record { at = length past; reading = r; answer = w; heeded = is_going_on past x o })) }
  ]

  by : (m : Submitted) → Contains (submitted past) m → ((m.call.number == n) ≡ true) ⊎ ((m.call.number == n) ≡ false) → answered_in past d n w m ≡ answered_in past e n w m
  by m there (inl is) =
      let free : job_of m.call.purpose ≡ None = none n w m refl there (eqb-true m.call.number n is) in
      ap (λ o. answer d.reading o d m (m.call.number == n)) free
      ∙ (ap (λ r. answer r None d m (m.call.number == n)) (sym reading) ∙ sym (ap (λ o. answer e.reading o e m (m.call.number == n)) free))
  by m there (inr other) = ap (λ b. answer d.reading (job_of m.call.purpose) d m b) other ∙ sym (ap (λ b. answer e.reading (job_of m.call.purpose) e m b) other)
marks_same past e d (Line text) reading none = refl
marks_same past e d (Number text) reading none = refl
marks_same past e d (Exit p) reading none = refl
marks_same past e d (Spawned p ok) reading none = refl
marks_same past e d Wake reading none = refl

pub jobless_same : (past : Trace) (e : Entry) (a : JobReply) → AnswersNoJob past e.input → SameCalls past e a
jobless_same past e a none =
    ap (λ ms. fold (λ ns c. new_call (length past) e.reading c ∷ ns) ms e.effects.calls)
    (marks_same past e (with_reply a e) e.input refl none)

abbrev Calm : Step → Type 0
Calm z = HoldsAt z × AnswersNoJob z.past z.input

pub stopped_held : (y : Step) (s : Session) (kept : Option ℕ) → AnswersNoJob y.past y.input → HoldsAt y → HoldsAt (signal_and_refuse s kept y)
unfolding signal_and_refuse
stopped_held y s kept none h =
    let z : Step = signal_holders Term s y in
    let there : Calm z = for_each_keeps Calm (holders_of (seen y) s) (λ p. send p Term) y (λ p inside w k. (sent_held w p Term k.0, sent_same w p k.1)) (h, none) in
    (for_each_keeps Calm (filter (λ j. not (some_is (λ n. n == j.number) kept)) (jobs_of_session z.setting (seen z) s)) (λ j. add_reply j.number (Recovering (last_renewal z.setting (seen z) s))) z
    (λ j inside w k. (
      reply_held w j.number (Recovering (last_renewal z.setting (seen z) s)) (jobless_same w.past (entry_of w) (record { job = j.number; reply = Recovering (last_renewal z.setting (seen z) s) }) k.1) k.0,
      k.1,
    )) there).0 where
      told_same : (w : Step) (p : ℕ) (o : Option (List ℕ)) → AnswersNoJob w.past w.input
          → (let v : Step = elim o as (λ z. Step) [ None ↦ add_signal p Term w | Some program ↦ add_start (record { process = next_child (seen w); program = program; job = None; stands_for = Some p }) w ] in AnswersNoJob v.past v.input)
      told_same w p None k = k
      told_same w p (Some program) k = k

      sent_same : (w : Step) (p : ℕ) → AnswersNoJob w.past w.input → AnswersNoJob (send p Term w).past (send p Term w).input
      sent_same w p k = told_same w p (stopper_of w.setting (seen w) p) k

-- ---- ends of a process's holdings

pub ended_held : (x : Step) (p : ℕ) → HoldsAt x → HoldsAt (end_holdings p x)
ended_held x p h = for_each_keeps HoldsAt (filter (λ g. g.process == p) (holdings (seen x))) (λ g. add_end (end_of g)) x (λ g there y k. end_held y (end_of g) k) h

pub refused_jobs_held : (x : Step) (p : ℕ) → HoldsAt x → HoldsAt (refuse_jobs_of p x)
refused_jobs_held x p h =
    for_each_keeps HoldsAt (filter (is_job_of_process (seen x) p) (running_jobs x.setting (seen x))) (λ j. add_reply j.number (NoProcess p)) x
    (λ j there y k. reply_held y j.number (NoProcess p) (later_same y.past (entry_of y) (record { job = j.number; reply = NoProcess p }) refl) k) h

pub said_held : (x : Step) (o : Option ℕ) (r : Reply) → is_before_input r ≡ false → HoldsAt x → HoldsAt (when_running o r x)
said_held x None r later h = h
said_held x (Some j) r later h =
    when_keeps HoldsAt (is_running (seen x) j) (add_reply j r) x (λ runs k. reply_held x j r (later_same x.past (entry_of x) (record { job = j; reply = r }) later) k) h
