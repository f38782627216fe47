-- A step has its input at its end, so it is then the trace with the entry that is due; and what steps keep is true of each trace of them.
use Rattle.sl_due_facts.proofs.Acts.HeadsKeep.{IsUnused}
use Rattle.sl_due_facts.proofs.Acts.AnswersAreHeeded.{step_heeds}
use Rattle.sl_due_facts.proofs.Acts.DecisionsAreTheirs.{Of}
use Rattle.sl_due_facts.proofs.Acts.InputsKeep.{other_acts, started_keeps, told_keeps, was_there}
use Rattle.sl_due_facts.proofs.Acts.LoopsKeep.{when_keeps}
use Rattle.sl_due_facts.proofs.Acts.PlainActs.{anything_is_kept, decision_kept, exited, left, line_has, plain_acts}
use Rattle.sl_due_facts.proofs.Acts.StepsKeep.{Fixed, at_input, bare_at_input, due_is_of, step_keeps}
use Rattle.sl_due_facts.proofs.Acts.WakesKeep.{last_input, wake_input}
use Rattle.sl_due_facts.specs.Acts.Acts.{Acts, AnswerActs, Has, OtherActs}
use Rattle.sl_due_facts.specs.Acts.KeptByEffects.{ByEffects, Plainly}
use Rattle.sl_due.specs.Due.{IsDue, IsHostTrace, after_input, before_input, due, due_step}
use Rattle.sl_due.specs.DueCommands.{answer_line, carry_decision, carry_line, decided, on_line, reply_at_once}
use Rattle.sl_due.specs.DueRecovery.{begin_recoveries}
use Rattle.sl_due.specs.DueInputs.{leave_holdings, on_exit, refuse_jobs_of, take_input}
use Rattle.sl_due.specs.DueWake.{on_wake}
use Rattle.sl_due.specs.Steps.{Step, begin_step, seen, with_input}
use Rattle.sl_due.specs.declared.decision.Decision.{Decision}
use Rattle.sl_trace.specs.Sessions.{is_present}
use Rattle.sl_trace.specs.Traces.{FollowsTrace, Setting, Trace, is_expected, next_job, no_process}
use Rattle.sl_trace.specs.declared.command.Command.{Command}
use Rattle.sl_trace.specs.declared.effects.Effects.{Effects}
use Rattle.sl_trace.specs.declared.effects.Entry.{Entry}
use Rattle.sl_trace.specs.declared.input.Answer.{Answer}
use Rattle.sl_trace.specs.declared.input.Input.TheVariants.{Answer as Told, Exit, Line, Number, Spawned, Wake}
use Rattle.sl_trace.specs.declared.input.Input.{Input}
use Rattle.sl_trace.specs.declared.reply.Reply.{Reply}
use Rattle.sl_words.proofs.CaseLaws.{true_is_false}
use Rattle.sl_words.specs.Results.{◌>>=◌}
use Rattle.std.proofs.Common.{ap, refl, subst, sym, ◌∙◌}
use Rattle.std.specs.Prelude.{Bool, Err, IsTrue, List, None, Ok, Option, Result, Some, false, not, true, [], ℕ, ◌==◌, ◌∷◌, ◌≡◌}

-- ---- its input

input_effects : (i : Input) → ByEffects (λ x. x.input ≡ i)
input_effects i =
    record {
      ends = λ x e h. h;
      signals = λ x p s h. h;
      moves = λ x m h. h;
      grants = λ x g h. h;
      starts = λ x s h. h;
      replies = λ x j r h. h;
      calls = λ x s path p o op has h. h;
    }

-- Once another input than a wake is seen, none is seen any more.
abbrev wakes : Input → Bool
wakes Wake = true
wakes i = false

told_no_wake : {n : ℕ} {a : Answer} → Told n a ≡ Wake → ⊥
told_no_wake is = true_is_false (sym (ap (λ i. wakes i) is))

started_no_wake : {p : ℕ} {ok : Bool} → Spawned p ok ≡ Wake → ⊥
started_no_wake is = true_is_false (sym (ap (λ i. wakes i) is))

input_plainly : (i : Input) → (i ≡ Wake → ⊥) → Plainly (λ x. x.input ≡ i)
input_plainly i other =
    record {
      effects = input_effects i;
      inputs = λ x k wake bare h. absurd (other (sym h ∙ wake));
      begins = λ x text c n a wake bare says is h. absurd (other (sym h ∙ wake));
    }

decision_input : (x : Step) (text : List ℕ) (j : ℕ) (c : Command) (d : Decision) → Of (Has (with_input (Line text) x)) d → (carry_decision j c d (with_input (Line text) x)).input ≡ Line text
unfolding carry_decision
decision_input x text j c d has = decision_kept (λ z. z.input ≡ Line text) (input_effects (Line text)) (with_input (Line text) x) j c d has (λ n a is. refl) refl

line_by : (x : Step) (text : List ℕ) (c : Command) (d : Decision) (o : Option Reply) → Of (Has (with_input (Line text) x)) d
    → (elim o as (λ z. Step) [ Some r ↦ answer_line text (next_job x.setting (seen x)) r x | None ↦ carry_decision (next_job x.setting (seen x)) c d (with_input (Line text) x) ]).input ≡ Line text
line_by x text c d (Some r) has = refl
line_by x text c d None has = decision_input x text (next_job x.setting (seen x)) c d has

read_by : (x : Step) (text : List ℕ) → x.effects.calls ≡ [] → (o : Result Command ℕ) → (carry_line text (next_job x.setting (seen x)) (o >>= (λ c. Ok (c, decided x.setting (seen x) x.reading c))) x).input ≡ Line text
read_by x text bare (Err column) = refl
read_by x text bare (Ok c) =
    let d : Decision = decided x.setting (seen x) x.reading c in
    line_by x text c d (reply_at_once d) (line_has x text c bare)

exit_by : (x : Step) (p : ℕ) → (on_exit p (with_input (Exit p) x)).input ≡ Exit p
unfolding on_exit
exit_by x p =
    when_keeps (λ z. z.input ≡ Exit p) (not (p == no_process)) (λ y. refuse_jobs_of p (leave_holdings p y)) (with_input (Exit p) x)
    (λ one h. exited (λ z. z.input ≡ Exit p) (input_effects (Exit p)) (leave_holdings p (with_input (Exit p) x)) p (left (λ z. z.input ≡ Exit p) (input_effects (Exit p)) (with_input (Exit p) x) p h)) refl

taken : (x : Step) (i : Input) → x.input ≡ Wake → IsUnused x → (take_input i x).input ≡ i
unfolding take_input on_line
taken x (Line text) wake bare = read_by x text bare.0 (x.setting.read text)
taken x (Number text) wake bare = refl
taken x (Told n a) wake bare =
    told_keeps (λ z. z.input ≡ Told n a) (plain_acts (λ z. z.input ≡ Told n a) (input_plainly (Told n a) told_no_wake)) (with_input (Told n a) x) (is_present (seen x)) n a refl bare
    (was_there x (Told n a) wake) refl
taken x (Exit p) wake bare = exit_by x p
taken x (Spawned p ok) wake bare =
    started_keeps (λ z. z.input ≡ Spawned p ok) (other_acts (λ z. z.input ≡ Spawned p ok) (plain_acts (λ z. z.input ≡ Spawned p ok) (input_plainly (Spawned p ok) started_no_wake))) (with_input (Spawned p ok) x) p ok refl refl
taken x Wake wake bare = wake

after : (x : Step) (i : Input) → x.input ≡ Wake → IsUnused x → (after_input i (take_input i x)).input ≡ i
unfolding after_input take_input
after x Wake wake bare = last_input (λ z. Unit {0}) (other_acts (λ z. Unit {0}) anything_is_kept) (on_wake x) tt ∙ wake_input (λ z. Unit {0}) (other_acts (λ z. Unit {0}) anything_is_kept) x wake tt
after x (Line text) wake bare = last_input (λ z. Unit {0}) (other_acts (λ z. Unit {0}) anything_is_kept) (take_input (Line text) x) tt ∙ taken x (Line text) wake bare
after x (Number text) wake bare = last_input (λ z. Unit {0}) (other_acts (λ z. Unit {0}) anything_is_kept) (take_input (Number text) x) tt ∙ taken x (Number text) wake bare
after x (Told n a) wake bare = last_input (λ z. Unit {0}) (other_acts (λ z. Unit {0}) anything_is_kept) (take_input (Told n a) x) tt ∙ taken x (Told n a) wake bare
after x (Exit p) wake bare = last_input (λ z. Unit {0}) (other_acts (λ z. Unit {0}) anything_is_kept) (take_input (Exit p) x) tt ∙ taken x (Exit p) wake bare
after x (Spawned p ok) wake bare = last_input (λ z. Unit {0}) (other_acts (λ z. Unit {0}) anything_is_kept) (take_input (Spawned p ok) x) tt ∙ taken x (Spawned p ok) wake bare

due_input_is : (st : Setting) (past : Trace) (now : ℕ) (i : Input) → (due_step st past now i).input ≡ i
unfolding due_step before_input
due_input_is st past now i = let bare = bare_at_input st past now in after (at_input st past now) i bare.0 bare.1

-- ---- the trace at its end

abbrev as_trace : ℕ → Input → Effects → Trace → Trace
as_trace now i fx past = record { reading = now; input = i; effects = fx } ∷ past

-- So where an entry has the effects that are due, the step at its end is the trace with the entry.
pub due_is_seen : (st : Setting) (past : Trace) (e : Entry) → IsDue st past e → seen (due_step st past e.reading e.input) ≡ e ∷ past
unfolding due
due_is_seen st past e is =
    let d : Step = due_step st past e.reading e.input in
    let f : Fixed st past e.reading d = due_is_of st past e.reading e.input in
    ap (λ n. as_trace n d.input d.effects d.past) f.reading
    ∙ (ap (λ i. as_trace e.reading i d.effects d.past) (due_input_is st past e.reading e.input)
    ∙ (ap (λ fx. as_trace e.reading e.input fx d.past) (sym is) ∙ ap (λ p. e ∷ p) f.before))

by_steps : (W : Setting → Trace → Type 0) (J : Step → Type 0)
    → ((st : Setting) (past : Trace) (now : ℕ) (i : Input) → IsTrue (is_expected st past i) → J (begin_recoveries (begin_step st past now)) → J (due_step st past now i))
    → ((st : Setting) (past : Trace) (e : Entry) → FollowsTrace st past e → W st past → J (begin_recoveries (begin_step st past e.reading)))
    → ((x : Step) → J x → W x.setting (seen x)) → (st : Setting) → W st [] → (es : Trace) → IsHostTrace st es → W st es
by_steps W J keeps begins ends st first [] h = first
by_steps W J keeps begins ends st first (e ∷ past) h =
    let before : W st past = by_steps W J keeps begins ends st first past (h.0.1, h.1.1) in
    let d : Step = due_step st past e.reading e.input in
    let kept : J d = keeps st past e.reading e.input h.0.0.expected (begins st past e h.0.0 before) in
    subst (λ t. W st t) (due_is_seen st past e h.1.0) (subst (λ z. W z (seen d)) (due_is_of st past e.reading e.input).setting (ends d kept))

-- What is true before the first entry, once a step has begun, kept by each act, and so at each step's end, is true of each trace that does
-- what is due.
pub traces_keep : (W : Setting → Trace → Type 0) (J : Step → Type 0) → Acts J J
    → ((st : Setting) (past : Trace) (e : Entry) → FollowsTrace st past e → W st past → J (begin_recoveries (begin_step st past e.reading)))
    → ((x : Step) → J x → W x.setting (seen x)) → (st : Setting) → W st [] → (es : Trace) → IsHostTrace st es → W st es
traces_keep W J k = by_steps W J (λ st past now i expected h. step_keeps J k st past now i expected h)

-- So is what an answer's being heard may break, where its acts bring it back.
pub traces_heed : (W : Setting → Trace → Type 0) (H J : Step → Type 0) → OtherActs J → AnswerActs H J
    → ((st : Setting) (past : Trace) (e : Entry) → FollowsTrace st past e → W st past → J (begin_recoveries (begin_step st past e.reading)))
    → ((x : Step) → J x → W x.setting (seen x)) → (st : Setting) → W st [] → (es : Trace) → IsHostTrace st es → W st es
traces_heed W H J others answers = by_steps W J (λ st past now i expected h. step_heeds H J others answers st past now i expected h)
