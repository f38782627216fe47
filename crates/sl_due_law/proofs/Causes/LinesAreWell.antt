-- What a line is answered at once has its cause in the entry that is due: it was decided on what stood before the line, and that entry has of
-- before its input just what the step had.
use Rattle.sl_due_law.proofs.Causes.HeadsAreEarly.{heads_are_early, last_is_silent}
use Rattle.sl_due_law.proofs.Causes.LineAnswers.{answers_are_caused, stopped_are_caused}
use Rattle.sl_due_law.proofs.Causes.NamesBefore.{early_entry}
use Rattle.sl_due_law.specs.Causes.LineCauses.{AnswersAfter, AtLine, IsBeforeInput, LinesAreWell, at_its_line}
use Rattle.sl_due.specs.Due.{IsDue, after_input, before_input, due, due_step}
use Rattle.sl_due.specs.DueCommands.{answer_line, carry_command, carry_line, decided, on_line}
use Rattle.sl_due.specs.DueInputs.{take_input}
use Rattle.sl_due.specs.DueWake.{finish}
use Rattle.sl_due.specs.Steps.{Step, begin_step, seen}
use Rattle.sl_due.specs.declared.decision.Decision.TheVariants.{Replies}
use Rattle.sl_due_facts.proofs.Jobs.JobsAreNumbered.{line_is}
use Rattle.sl_run.specs.Caused.{Answering, CausedBy}
use Rattle.sl_words.proofs.Lists.{contains_first, contains_more}
use Rattle.sl_words.proofs.CaseLaws.{one_value}
use Rattle.sl_trace.specs.Traces.{Job, Setting, Trace, is_before_input, job_numbered, next_job}
use Rattle.sl_trace.specs.declared.command.Command.{Command}
use Rattle.sl_trace.specs.declared.effects.Effects.{Effects}
use Rattle.sl_trace.specs.declared.effects.Entry.{Entry}
use Rattle.sl_trace.specs.declared.effects.JobReply.{JobReply}
use Rattle.sl_trace.specs.declared.effects.Start.{Start}
use Rattle.sl_trace.specs.declared.input.Input.TheVariants.{Line}
use Rattle.sl_trace.specs.declared.reply.Reply.TheVariants.{IoTimeout, Recovering}
use Rattle.sl_trace.specs.declared.reply.Reply.{Reply}
use Rattle.sl_words.specs.Results.{◌>>=◌}
use Rattle.std.proofs.Common.{ap, refl, sym, ◌∙◌}
use Rattle.std.proofs.lemmas.List.{append-nil}
use Rattle.std.proofs.lemmas.List.Elements.{filter-append}
use Rattle.std.specs.Prelude.{Bool, Contains, List, Ok, Result, [], cond, false, filter, is_some, length, true, ℕ, ◌++◌, ◌∷◌, ◌≡◌}

-- What is kept of a list whose members all pass, and of one whose last fails.
pub all_pass : {A : Type 0} (p : A → Bool) (xs : List A) → ((a : A) → Contains xs a → p a ≡ true) → filter p xs ≡ xs
all_pass p [] h = refl
all_pass p (x ∷ xs) h = ap (λ b. cond b (x ∷ filter p xs) (filter p xs)) (h x (contains_first x xs)) ∙ ap (λ ys. x ∷ ys) (all_pass p xs (λ a there. h a (contains_more x xs a there)))

last_fails : {A : Type 0} (p : A → Bool) (xs : List A) (y : A) → p y ≡ false → filter p (xs ++ y ∷ []) ≡ filter p xs
last_fails p xs y fails = filter-append p xs (y ∷ []) ∙ (ap (λ b. filter p xs ++ cond b (y ∷ []) []) fails ∙ append-nil (filter p xs))

-- A line whose command is answered at once.
line_at : (x : Step) (text : List ℕ) (c : Command) (r : Reply) → x.setting.read text ≡ Ok c → decided x.setting (seen x) x.reading c ≡ Replies r → on_line text x ≡ answer_line text (next_job x.setting (seen x)) r x
unfolding on_line
line_at x text c r says is =
    ap (λ (o : Result Command ℕ). carry_line text (next_job x.setting (seen x)) (o >>= (λ c. Ok (c, decided x.setting (seen x) x.reading c))) x) says
    ∙ ap (λ d. carry_command text (next_job x.setting (seen x)) c d x) is

-- What a line does in a step.
step_at : (st : Setting) (past : Trace) (now : ℕ) (text : List ℕ) → due_step st past now (Line text) ≡ finish (on_line text (before_input (begin_step st past now)))
unfolding due_step after_input take_input
step_at st past now text = refl

-- So of an entry that is due.
pub line_done : (st : Setting) (past : Trace) (e : Entry) (text : List ℕ) → IsDue st past e → e.input ≡ Line text → e.effects ≡ (finish (on_line text (before_input (begin_step st past e.reading)))).effects
unfolding due
line_done st past e text due_so line = due_so ∙ (ap (λ i. (due_step st past e.reading i).effects) line ∙ ap (λ (s : Step). s.effects) (step_at st past e.reading text))

pub lines_are_well : LinesAreWell
lines_are_well st past e text c r j w due_so line says is found = by r refl where
  x : Step
  x = before_input (begin_step st past e.reading)

  h : IsBeforeInput st past e.reading x
  h = heads_are_early st past e.reading w

  n : ℕ
  n = next_job x.setting (seen x)

  z : Step
  z = answer_line text n r x

  decision : decided x.setting (seen x) x.reading c ≡ Replies r
  decision = ap (λ g. decided g (seen x) x.reading c) h.setting ∙ (ap (λ m. decided st (seen x) m c) h.reading ∙ is)

  ended : e.effects ≡ (finish z).effects
  ended = line_done st past e text due_so line ∙ ap (λ s. (finish s).effects) (line_at x text c r (ap (λ (g : Setting). g.read text) h.setting ∙ says) decision)

  replies_are : e.effects.replies ≡ x.effects.replies ++ record { job = n; reply = r } ∷ []
  replies_are = ap (λ (f : Effects). f.replies) ended ∙ (last_is_silent z).replies

  starts_are : e.effects.starts ≡ x.effects.starts
  starts_are = ap (λ (f : Effects). f.starts) ended ∙ (last_is_silent z).starts

  stands : filter (λ (k : Start). is_some k.stands_for) x.effects.starts ≡ x.effects.starts
  stands = all_pass (λ (k : Start). is_some k.stands_for) x.effects.starts h.starts

  early : filter (λ (a : JobReply). is_before_input a.reply) x.effects.replies ≡ x.effects.replies
  early = all_pass (λ (a : JobReply). is_before_input a.reply) x.effects.replies h.replies

  y : Answering
  y = at_its_line st past e j

  after : is_before_input r ≡ false → AnswersAfter x y
  after late =
      record {
        setting = sym h.setting;
        past = sym h.before;
        reading = sym h.reading;
        starts = ap (λ ks. filter (λ (k : Start). is_some k.stands_for) ks) starts_are ∙ stands;
        replies = ap (λ rs. filter (λ (a : JobReply). is_before_input a.reply) rs) replies_are
            ∙ (last_fails (λ (a : JobReply). is_before_input a.reply) x.effects.replies (record { job = n; reply = r }) late ∙ early);
      }

  made : Job
  made = record { number = next_job st past; at = length past; reading = e.reading; command = st.read text }

  same : made ≡ j
  same =
      one_value made j (job_numbered st (e ∷ past) (next_job st past))
      (ap (λ i. job_numbered st (record { reading = e.reading; input = i; effects = e.effects } ∷ past) (next_job st past)) line ∙ line_is st past e.reading text e.effects) found

  at : AtLine y c
  at = record { whole = w; command = ap (λ (k : Job). k.command) (sym same) ∙ says; at = ap (λ (k : Job). k.at) (sym same) }

  -- the entry with only what came before its input
  only : Answering
  only = at_its_line st past (early_entry e.reading x.effects.starts x.effects.replies) j

  by : (q : Reply) → r ≡ q → CausedBy y q
  by (Recovering t) its = stopped_are_caused x y c t h.early (sym h.setting) (sym h.before) (sym h.reading) stands early at (decision ∙ ap (λ q. Replies q) its)
  by (IoTimeout call from to) its =
      answers_are_caused x only c (IoTimeout call from to) h.early
      (record { setting = sym h.setting; past = sym h.before; reading = sym h.reading; starts = stands; replies = early }) (record { whole = w; command = at.command; at = at.at })
      (decision ∙ ap (λ q. Replies q) its)
  by q its = answers_are_caused x y c q h.early (after (ap (λ a. is_before_input a) its)) at (decision ∙ ap (λ a. Replies a) its)
