-- The inputs that answer no call are heard.
use Rattle.sl_host_law.proofs.Calls.Inputs.ChildrenHear.{ActsOn, child_stays, children_kept, exit_acts, jobs_stay, processes_stay, start_acts}
use Rattle.sl_host_law.proofs.Calls.Inputs.InputHeard.{Changes, heard, keeps_heard, member_heard}
use Rattle.sl_host_law.proofs.Calls.Inputs.LineAnswered.{answered_keeps}
use Rattle.sl_host_law.proofs.Calls.Inputs.LineHeard.{line_keeps, quiet_line}
use Rattle.sl_host_law.specs.Calls.Inputs.{InputsAreHeard}
use Rattle.sl_due.specs.DueCommands.{answer_line}
use Rattle.sl_due.specs.Steps.{Step, seen, with_input}
use Rattle.sl_host_law.proofs.SharedFacts.PlainLists.{filter_whole}
use Rattle.sl_host_law.specs.SharedFacts.AtInput.{IsAtInput}
use Rattle.sl_host_state.specs.HeardInputs.{answered_line, children_after, heard_exit, heard_line, heard_number, heard_start, is_started_now}
use Rattle.sl_host_state.specs.KeptState.{HostState}
use Rattle.sl_host_state.specs.HostStands.{Keeps, Stands, is_there, kept_waiting}
use Rattle.sl_host_state.specs.declared.kept_parts.JobState.{JobState}
use Rattle.sl_trace.specs.Jobs.{command_of}
use Rattle.sl_words.proofs.Numbers.{refl_le}
use Rattle.sl_trace.specs.Traces.{Child, Job, Setting, Trace, child_after, children, first_child, is_before_input, new_child, next_job, numbers_taken, running_jobs, waiting_call}
use Rattle.sl_trace.specs.KillPrograms.{KillProgram, kill_programs, without_program}
use Rattle.sl_trace.specs.declared.command.Command.{Command}
use Rattle.sl_trace.specs.declared.effects.Effects.{Effects}
use Rattle.sl_trace.specs.declared.effects.Start.{Start}
use Rattle.sl_trace.specs.declared.input.Input.TheVariants.{Exit, Line, Number, Spawned, Wake}
use Rattle.sl_trace.specs.declared.reply.Reply.{Reply}
use Rattle.std.proofs.Common.{ap, arith, refl, subst, sym, ◌∙◌}
use Rattle.std.specs.List.{AllByRecursion, list_any}
use Rattle.std.specs.Prelude.{Bool, IsTrue, List, Ok, Option, Some, cond, filter, find, length, map, option_map, true, [], ℕ, ◌++◌, ◌+◌, ◌==◌, ◌∷◌, ◌≡◌}
use Rattle.sl_words.specs.Words.{some_is}

-- What the host keeps stands for the step as a wake.
woken : (h : HostState) (x : Step) → Stands Wake h x → Keeps h x.setting (heard x.setting x.past x.reading x.effects Wake)
woken h x s = subst (λ i. Keeps h x.setting (heard x.setting x.past x.reading x.effects i)) s.input s.keeps

-- ---- lines

line : (h : HostState) (x : Step) (text : List ℕ) (c : Command) → h.config.read text ≡ Ok c → IsAtInput h → Stands Wake h x → Stands (Line text) (heard_line c h) (with_input (Line text) x)
line h x text c says at s =
    record {
      input = refl;
      past = s.past;
      reading = s.reading;
      before = s.before;
      made = s.made;
      keeps = line_keeps h x.setting x.past x.reading x.effects text c says (ap (λ (f : Effects). f.calls) s.made ∙ at.calls)
          (subst (λ (f : Effects). AllByRecursion (λ r. IsTrue (is_before_input r.reply)) f.replies) (sym s.made) at.replies) s.reading (woken h x s);
      quiet = quiet_line h c s.quiet;
    }

answered_woken : (h : HostState) (x : Step) (text : List ℕ) (r : Reply) → h.made.calls ≡ [] → Stands Wake h (with_input Wake x)
    → Stands (Line text) (answered_line (h.config.read text) r h) (answer_line text (next_job x.setting (seen (with_input Wake x))) r (with_input Wake x))
answered_woken h x text r bare s =
    record {
      input = refl;
      past = s.past;
      reading = s.reading;
      before = s.before;
      made = ap (λ (n : ℕ). let f : Effects = x.effects in record f { replies = f.replies ++ record { job = n; reply = r } ∷ [] }) s.keeps.lines
          ∙ ap (λ (f : Effects). record f { replies = f.replies ++ record { job = h.next_job; reply = r } ∷ [] }) s.made;
      keeps = answered_keeps x.setting x.past x.reading x.effects text r h s.made (ap (λ (f : Effects). f.calls) s.made ∙ bare) s.keeps;
      quiet = s.quiet;
    }

as_woken : (h : HostState) (x : Step) → Stands Wake h x → x ≡ with_input Wake x
as_woken h x s = ap (λ i. with_input i x) s.input

answered : (h : HostState) (x : Step) (text : List ℕ) (r : Reply) → h.made.calls ≡ [] → Stands Wake h x
    → Stands (Line text) (answered_line (h.config.read text) r h) (answer_line text (next_job x.setting (seen x)) r x)
answered h x text r bare s =
    subst (λ y. Stands (Line text) (answered_line (h.config.read text) r h) (answer_line text (next_job y.setting (seen y)) r y)) (sym (as_woken h x s))
    (answered_woken h x text r bare (subst (λ y. Stands Wake h y) (as_woken h x s) s))

-- ---- a line that is no command

number_changes : (h : HostState) (st : Setting) (past : Trace) (reading : ℕ) (fx : Effects) (text : List ℕ) → Keeps h st (heard st past reading fx Wake)
    → Changes st past reading fx h (Number text) (h.next_job + 1) h.jobs h.members h.children h.programs
number_changes h st past reading fx text k =
    record {
      plain = tt;
      begun = refl;
      lines = (let was : st.first.job + numbers_taken past ≡ h.next_job = k.lines in let is : st.first.job + (numbers_taken past + 1) ≡ h.next_job + 1 = omega (arith, was) in is);
      risen = omega arith;
      processes = refl;
      told = refl;
      known = λ n is. is;
      whos = refl;
      members = λ i m there. member_heard st past reading fx (Number text) m tt refl (k.members i m there);
      jobs = k.jobs;
      children = k.children;
      programs = k.programs;
    }

number : (h : HostState) (x : Step) (text : List ℕ) → Stands Wake h x → Stands (Number text) (heard_number h) (with_input (Number text) x)
number h x text s =
    record {
      input = refl;
      past = s.past;
      reading = s.reading;
      before = s.before;
      made = s.made;
      keeps = keeps_heard x.setting x.past x.reading x.effects h (Number text) (h.next_job + 1) h.quiet_until h.jobs h.members h.children h.programs
          (number_changes h x.setting x.past x.reading x.effects text (woken h x s)) (woken h x s);
      quiet = s.quiet;
    }

-- ---- children

module _ (st : Setting) (past : Trace) (reading : ℕ) (fx : Effects) (p : ℕ) (a : Child → Child) (acts : ActsOn p a) where
  -- The children that there are after it.
  abbrev after : List Child
  after = map a (children past) ++ map new_child fx.starts

  -- A job as it is kept, with these children.
  abbrev job_with : List Child → Job → JobState
  job_with ks j =
      record {
        number = j.number;
        command = command_of j;
        child = option_map (λ k. k.process) (find (λ k. some_is (λ n. n == j.number) k.job) ks);
        waits = option_map kept_waiting (waiting_call (heard st past reading fx Wake) j.number);
      }

  jobs_with : (js : List Job) → map (job_with after) js ≡ map (job_with (map (λ k. k) (children past) ++ map new_child fx.starts)) js
  jobs_with [] = refl
  jobs_with (j ∷ js) =
      ap (λ (o : Option ℕ). (let k : JobState = job_with after j in record k { child = o }) ∷ map (job_with after) js) (child_stays p a acts j.number (children past) (map new_child fx.starts))
      ∙ ap (λ zs. job_with (map (λ k. k) (children past) ++ map new_child fx.starts) j ∷ zs) (jobs_with js)

  kept_children : (h : HostState) → fx ≡ h.made → Keeps h st (heard st past reading fx Wake) → filter is_there after ≡ cond (is_started_now h p) h.children (filter is_there (map a h.children))
  kept_children h made k =
      children_kept p a acts (children past) fx.starts h.children first_child (length (children (heard st past reading fx Wake))) k.counted k.children
      ∙ ap (λ (f : Effects). cond (list_any (λ (s : Start). s.process == p) f.starts) h.children (filter is_there (map a h.children))) made

exit_changes : (h : HostState) (st : Setting) (past : Trace) (reading : ℕ) (fx : Effects) (p : ℕ) → fx ≡ h.made → Keeps h st (heard st past reading fx Wake)
    → Changes st past reading fx h (Exit p) h.next_job h.jobs h.members (cond (is_started_now h p) h.children (children_after (Exit p) h.children)) (without_program (Some p) h.programs)
exit_changes h st past reading fx p made k =
    record {
      plain = tt;
      begun = refl;
      lines = k.lines;
      risen = refl_le h.next_job;
      processes = processes_stay p (child_after (Exit p)) (exit_acts p) (children past) (map new_child fx.starts);
      told = jobs_stay p (child_after (Exit p)) (exit_acts p) (children past) (map new_child fx.starts);
      known = λ n is. is;
      whos = refl;
      members = λ i m there. member_heard st past reading fx (Exit p) m tt refl (k.members i m there);
      jobs = jobs_with st past reading fx p (child_after (Exit p)) (exit_acts p) (running_jobs st (heard st past reading fx Wake)) ∙ k.jobs;
      children = kept_children st past reading fx p (child_after (Exit p)) (exit_acts p) h made k;
      programs = ap (without_program (Some p)) (sym (filter_whole (λ (z : KillProgram). true) (kill_programs st past) (λ z there. refl)) ∙ k.programs);
    }

exit : (h : HostState) (x : Step) (p : ℕ) → Stands Wake h x → Stands (Exit p) (heard_exit p h) (with_input (Exit p) x)
exit h x p s =
    record {
      input = refl;
      past = s.past;
      reading = s.reading;
      before = s.before;
      made = s.made;
      keeps = keeps_heard x.setting x.past x.reading x.effects h (Exit p) h.next_job h.quiet_until h.jobs h.members (cond (is_started_now h p) h.children (children_after (Exit p) h.children))
          (without_program (Some p) h.programs) (exit_changes h x.setting x.past x.reading x.effects p s.made (woken h x s)) (woken h x s);
      quiet = s.quiet;
    }

start_changes : (h : HostState) (st : Setting) (past : Trace) (reading : ℕ) (fx : Effects) (p : ℕ) (ok : Bool) → fx ≡ h.made → Keeps h st (heard st past reading fx Wake)
    → Changes st past reading fx h (Spawned p ok) h.next_job h.jobs h.members (cond (is_started_now h p) h.children (children_after (Spawned p ok) h.children)) h.programs
start_changes h st past reading fx p ok made k =
    record {
      plain = tt;
      begun = refl;
      lines = k.lines;
      risen = refl_le h.next_job;
      processes = processes_stay p (child_after (Spawned p ok)) (start_acts p ok) (children past) (map new_child fx.starts);
      told = jobs_stay p (child_after (Spawned p ok)) (start_acts p ok) (children past) (map new_child fx.starts);
      known = λ n is. is;
      whos = refl;
      members = λ i m there. member_heard st past reading fx (Spawned p ok) m tt refl (k.members i m there);
      jobs = jobs_with st past reading fx p (child_after (Spawned p ok)) (start_acts p ok) (running_jobs st (heard st past reading fx Wake)) ∙ k.jobs;
      children = kept_children st past reading fx p (child_after (Spawned p ok)) (start_acts p ok) h made k;
      programs = k.programs;
    }

start : (h : HostState) (x : Step) (p : ℕ) (ok : Bool) → Stands Wake h x → Stands (Spawned p ok) (heard_start p ok h) (with_input (Spawned p ok) x)
start h x p ok s =
    record {
      input = refl;
      past = s.past;
      reading = s.reading;
      before = s.before;
      made = s.made;
      keeps = keeps_heard x.setting x.past x.reading x.effects h (Spawned p ok) h.next_job h.quiet_until h.jobs h.members (cond (is_started_now h p) h.children (children_after (Spawned p ok) h.children)) h.programs
          (start_changes h x.setting x.past x.reading x.effects p ok s.made (woken h x s)) (woken h x s);
      quiet = s.quiet;
    }

pub inputs_are_heard : InputsAreHeard
inputs_are_heard = record { line = line; answered = answered; number = number; exit = exit; start = start }
