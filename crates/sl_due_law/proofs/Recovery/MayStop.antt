-- What a step must be for a stop to do all that is asked: nothing has ended, no job was answered ok, no kill program was set.
use Rattle.sl_due_facts.specs.Acts.TraceSoFar.{entry_of}
use Rattle.sl_due.specs.DueRecovery.{signal_and_refuse}
use Rattle.sl_due.specs.Steps.{Step, seen}
use Rattle.sl_due_facts.proofs.Jobs.JobFactsGrow.{contains_left}
use Rattle.sl_due_facts.proofs.Jobs.QuietEffects.{names_it}
use Rattle.sl_run.specs.LawfulRecovery.{StopsSession}
use Rattle.sl_trace.specs.Jobs.{is_command_that, jobs_of_session}
use Rattle.sl_words.proofs.Lists.{find_inside, kept, kept_inside}
use Rattle.sl_words.proofs.Options.{none_is}
use Rattle.sl_due_law.proofs.Recovery.HoldersAre.{holders_stay}
use Rattle.sl_due_law.proofs.Recovery.StopsDone.{IsRefusedIn, KeepsPrograms, stopped_session}
use Rattle.sl_trace.specs.declared.session.Session.{Session}
use Rattle.sl_trace.specs.EffectTexts.{is_ok_reply}
use Rattle.sl_trace.specs.Traces.{Job, Replied, exited_by, holdings, is_ended_by, is_running, job_in, jobs, next_job, reply_in, reply_to, running_jobs}
use Rattle.sl_trace.specs.KillPrograms.{KillProgram, is_done, kill_program_in, kill_programs, program_set_in, with_program, without_program}
use Rattle.sl_trace.specs.declared.command.Command.TheVariants.{RemLockspace}
use Rattle.sl_trace.specs.declared.command.LockspaceArg.{LockspaceArg}
use Rattle.sl_trace.specs.declared.effects.End.{End}
use Rattle.sl_trace.specs.declared.effects.Grant.{Grant}
use Rattle.sl_trace.specs.declared.effects.JobReply.{JobReply}
use Rattle.sl_trace.specs.declared.input.Answer.{Answer}
use Rattle.sl_trace.specs.declared.input.Input.TheVariants.{Answer as Told, Line, Wake}
use Rattle.sl_trace.specs.declared.reply.Reply.{Reply}
use Rattle.sl_words.proofs.CaseLaws.{true_is_false}
use Rattle.sl_words.specs.Words.{choose, some_is}
use Rattle.std.proofs.Common.{ap, ap₂, inl, inr, refl, subst, sym, ◌∙◌}
use Rattle.std.proofs.lemmas.Bool.{eqb-true}
use Rattle.std.specs.Prelude.{Bool, Contains, IsFalse, List, None, Ok, Option, Some, [], cond, false, filter, find, is_none, length, not, option_and_then, option_map, true, ℕ, ◌==◌, ◌∷◌, ◌≡◌, ◌⊎◌}

pub record MayStop (z : Step) : Type 0 where
  pub programs : KeepsPrograms z
  pub ends : z.effects.ends ≡ []
  pub denied : (a : JobReply) → Contains z.effects.replies a → IsFalse (is_ok_reply a.reply)

-- ---- holdings

pub held_then : (z : Step) → z.effects.ends ≡ [] → (g : Grant) → Contains (holdings z.past) g → Contains (holdings (seen z)) g
held_then z none g there =
    contains_left (filter (λ (h : Grant). not (is_ended_by z.effects.ends h)) (holdings z.past)) z.effects.grants g
    (kept (λ (h : Grant). not (is_ended_by z.effects.ends h)) (holdings z.past) g (ap (λ (es : List End). not (is_ended_by es g)) none) there)

-- ---- jobs

-- A job that ran before the step and doesn't any more was answered in it.
pub answered_in_step : (z : Step) (j : ℕ) → is_running z.past j ≡ true → is_running (seen z) j ≡ false → (r : Reply) × Contains z.effects.replies (record { job = j; reply = r })
answered_in_step z j ran stops = by (find (λ (a : JobReply). a.job == j) z.effects.replies) refl where
  none : reply_to z.past j ≡ None
  none = none_is (reply_to z.past j) ran

  over : is_none (reply_in j z.past (entry_of z)) ≡ false
  over = sym (ap (λ o. is_none (elim o as (λ w. Option Replied) [ Some r ↦ Some r | None ↦ reply_in j z.past (entry_of z) ])) none) ∙ stops

  told : JobReply → Replied
  told a = record { at = length z.past; reply = a.reply }

  by : (o : Option JobReply) → find (λ (a : JobReply). a.job == j) z.effects.replies ≡ o → (r : Reply) × Contains z.effects.replies (record { job = j; reply = r })
  by None found = absurd (true_is_false (ap (λ o. is_none (option_map told o)) (sym found) ∙ over))
  by (Some a) found =
      let inside = find_inside (λ (b : JobReply). b.job == j) z.effects.replies a found in
      (a.reply, subst (λ n. Contains z.effects.replies (record { job = n; reply = a.reply })) (eqb-true a.job j inside.1) inside.0)

pub runs_or_refused : (z : Step) (s : Session) → ((a : JobReply) → Contains z.effects.replies a → IsFalse (is_ok_reply a.reply)) → (j : Job) → Contains (jobs_of_session z.setting z.past s) j
    → Contains (jobs_of_session z.setting (seen z) s) j ⊎ IsRefusedIn z j
runs_or_refused z s denied j there = by (is_running (seen z) j.number) refl where
  named : Contains (running_jobs z.setting z.past) j × (is_command_that (names_it s) j ≡ true)
  named = kept_inside (is_command_that (names_it s)) (running_jobs z.setting z.past) j there

  ran : Contains (jobs z.setting z.past) j × (is_running z.past j.number ≡ true)
  ran = kept_inside (λ (i : Job). is_running z.past i.number) (jobs z.setting z.past) j (kept_inside (is_command_that (names_it s)) (running_jobs z.setting z.past) j there).0

  by : (b : Bool) → is_running (seen z) j.number ≡ b → Contains (jobs_of_session z.setting (seen z) s) j ⊎ IsRefusedIn z j
  by true runs =
      inl (kept (is_command_that (names_it s)) (running_jobs z.setting (seen z)) j named.1
      (kept (λ (i : Job). is_running (seen z) i.number) (jobs z.setting (seen z)) j runs (contains_left (jobs z.setting z.past) (job_in z.setting z.past (next_job z.setting z.past) (entry_of z)) j ran.0)))
  by false stops = let told = answered_in_step z j.number ran.1 stops in inr (told.0, told.1, denied (record { job = j.number; reply = told.0 }) told.1)

-- ---- kill programs

all_stay : {A : Type 0} (p : A → Bool) (xs : List A) → ((d : A) → p d ≡ true) → filter p xs ≡ xs
all_stay p [] h = refl
all_stay p (x ∷ xs) h = ap₂ (λ b ys. cond b (x ∷ ys) ys) (h x) (all_stay p xs h)

pub programs_stay : (z : Step) → exited_by z.input ≡ None → program_set_in z.setting z.past (entry_of z) ≡ None → KeepsPrograms z
programs_stay z nobody unset p = ap (λ ks. option_map (λ (k : KillProgram). k.program) (find (λ (k : KillProgram). k.process == p) ks)) same where
  same : kill_programs z.setting (seen z) ≡ kill_programs z.setting z.past
  same =
      ap₂ (λ o q. with_program o (without_program q (kill_programs z.setting z.past))) unset nobody
      ∙ all_stay (λ (k : KillProgram). not (some_is (λ q. q == k.process) None)) (kill_programs z.setting z.past) (λ k. refl)

pub programs_on_wake : (z : Step) → z.input ≡ Wake → KeepsPrograms z
programs_on_wake z wake = programs_stay z (ap (λ i. exited_by i) wake) (ap (λ i. program_set_in z.setting z.past (record { reading = z.reading; input = i; effects = z.effects })) wake)

pub programs_when_told : (z : Step) (n : ℕ) (a : Answer) → z.input ≡ Told n a → KeepsPrograms z
programs_when_told z n a told = programs_stay z (ap (λ i. exited_by i) told) (ap (λ i. program_set_in z.setting z.past (record { reading = z.reading; input = i; effects = z.effects })) told)

-- A line that leaves a lockspace sets none.
pub programs_when_left : (z : Step) (text : List ℕ) (a : LockspaceArg) → z.input ≡ Line text → z.setting.read text ≡ Ok (RemLockspace a) → KeepsPrograms z
programs_when_left z text a line says =
    programs_stay z (ap (λ i. exited_by i) line)
    (ap (λ i. program_set_in z.setting z.past (record { reading = z.reading; input = i; effects = z.effects })) line
    ∙ ap (λ o. option_and_then (λ (k : KillProgram). choose (some_is (λ (r : Replied). is_done r.reply) (reply_in (next_job z.setting z.past) z.past (record { reading = z.reading; input = Line text; effects = z.effects }))) k) (kill_program_in o)) says)

-- ---- the stop

pub stop_done : (z : Step) (s : Session) (kept_one : Option ℕ) → MayStop z → StopsSession z.setting z.past (entry_of (signal_and_refuse s kept_one z)) s kept_one
stop_done z s kept_one h = stopped_session z s kept_one h.programs (λ p there. holders_stay z.past (seen z) s (held_then z h.ends) p there) (λ j there. runs_or_refused z s h.denied j there)
