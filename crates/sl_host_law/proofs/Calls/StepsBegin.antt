-- A step begins.
use Rattle.sl_host_law.proofs.Calls.Beginnings.IdleEntry.{idle, same_children, same_holdings, same_jobs, same_presents, same_programs, same_reply, same_running, same_sessions}
use Rattle.sl_host_law.proofs.Calls.Beginnings.MemberBegun.{member_stands}
use Rattle.sl_host_law.proofs.Calls.Beginnings.NothingIsDue.{nothing_is_due}
use Rattle.sl_host_law.proofs.Calls.Beginnings.QuietBegun.{quiet_begun, quietly}
use Rattle.sl_host_law.specs.Calls.Beginnings.{StepsBegin}
use Rattle.sl_due.specs.Steps.{begin_step}
use Rattle.sl_host_law.proofs.SharedFacts.PlainLists.{at_mapped}
use Rattle.sl_host_state.specs.HeardInputs.{beginning, begun, counted, is_late, member_begun, quiet_to, with_renewing}
use Rattle.sl_host_state.specs.KeptState.{HostState, MemberState}
use Rattle.sl_host_state.specs.HostStands.{HostStands, IsQuiet, Keeps, MemberStands, Stands, Takes, is_there, kept_waiting}
use Rattle.sl_host_state.specs.declared.kept_parts.JobState.{JobState}
use Rattle.sl_trace.specs.Jobs.{command_of}
use Rattle.sl_trace.specs.Traces.{Child, Job, Setting, Trace, children, first_child, job_of, jobs, running_jobs, submitted, waiting_call}
use Rattle.sl_trace.specs.declared.input.Input.TheVariants.{Wake}
use Rattle.std.proofs.Common.{ap, arith, refl, subst, suc, sym, ◌∙◌}
use Rattle.std.specs.List.{AllByRecursion, range_with_len}
use Rattle.std.specs.Prelude.{Bool, IsTrue, List, Some, cond, false, filter, filter_map, find, is_some, length, map, option_map, slice_get, true, [], ℕ, ◌++◌, ◌+◌, ◌-◌, ◌==◌, ◌∷◌, ◌≡◌, ◌≤◌}
use Rattle.sl_words.specs.Words.{some_is}

whos_begun : (g : HostState) (ms : List MemberState) → map (λ m. m.who) ms ≡ map (λ m. m.who) (map (member_begun g) ms)
whos_begun g [] = refl
whos_begun g (m ∷ ms) = ap (λ s. s ∷ map (λ (n : MemberState). n.who) ms) (by (is_late g m)) ∙ ap (λ ss. (member_begun g m).who ∷ ss) (whos_begun g ms) where
  by : (b : Bool) → m.who ≡ (cond b (with_renewing (beginning g (g.entries - 1) m.renewing) m) m).who
  by true = refl
  by false = refl

-- The jobs kept, by the children and the running jobs.
abbrev jobs_by : Trace → List Child → List Job → List JobState
jobs_by es ks js =
    map
    (λ j. record {
      number = j.number;
      command = command_of j;
      child = option_map (λ k. k.process) (find (λ k. some_is (λ n. n == j.number) k.job) ks);
      waits = option_map kept_waiting (waiting_call es j.number);
    }) js

abbrev told_by : Trace → List Job → List Child → Type 0
told_by es js ks =
    AllByRecursion (λ j. IsTrue (is_some (find (λ (k : Job). k.number == j) js))) (filter_map (λ m. job_of m.call.purpose) (submitted es) ++ filter_map (λ k. k.job) ks)

members_begun : (h : HostState) (st : Setting) (es : Trace) (now : ℕ) → Keeps h st es → (k : ℕ) (m : MemberState) → slice_get (map (member_begun (counted now h)) h.members) k ≡ Some m
    → MemberStands st (idle now ∷ es) m
members_begun h st es now keeps k m there =
    let z = at_mapped (member_begun (counted now h)) h.members k m there in
    subst (λ y. MemberStands st (idle now ∷ es) y) z.2 (member_stands h st es now z.0 keeps (keeps.members k z.0 z.1))

keeps_begun : (h : HostState) (st : Setting) (es : Trace) (now : ℕ) → Keeps h st es → Keeps (begun now h) st (idle now ∷ es)
keeps_begun h st es now k =
    record {
      config = k.config;
      entries = (let e : length es ≡ h.entries = k.entries in let n : suc (length es) ≡ h.entries + 1 = omega (arith, e) in n);
      calls = k.calls;
      lines = k.lines;
      replied = λ n above. same_reply st es now n ∙ k.replied n above;
      started = ap (λ ks. length ks) (same_children st es now) ∙ k.started;
      born = ap (λ ss. length ss) (same_sessions st es now) ∙ k.born;
      numbered = k.numbered;
      counted = ap (λ (ks : List Child). map (λ c. c.process) ks) (same_children st es now) ∙ k.counted
          ∙ ap (λ ks. range_with_len first_child (length ks)) (sym (same_children st es now));
      present = same_presents st es now ∙ (k.present ∙ whos_begun (Rattle.sl_host_state.specs.HeardInputs.counted now h) h.members);
      members = members_begun h st es now k;
      connected = k.connected;
      unanswered = k.unanswered;
      single = k.single;
      owned = subst (λ js. told_by es js (children (idle now ∷ es))) (sym (same_jobs st es now)) (subst (told_by es (jobs st es)) (sym (same_children st es now)) k.owned);
      jobs = ap (jobs_by es (children (idle now ∷ es))) (same_running st es now) ∙ (ap (λ ks. jobs_by es ks (running_jobs st es)) (same_children st es now) ∙ k.jobs);
      holdings = same_holdings st es now ∙ k.holdings;
      children = ap (filter is_there) (same_children st es now) ∙ k.children;
      programs = same_programs st es now ∙ k.programs;
    }

begins : (h : HostState) (st : Setting) (es : Trace) (now : ℕ) → h.reading ≤ now → HostStands h st es → Stands Wake (begun now h) (begin_step st es now)
begins h st es now later s =
    record {
      input = refl;
      past = s.past;
      reading = refl;
      before = s.reading;
      made = s.made;
      keeps = keeps_begun h st es now s.keeps;
      quiet = quiet_begun h now later s.quiet;
    }

worked_out : (h : HostState) (now : ℕ) → IsQuiet (quiet_to now h) → Takes h (quiet_to now h) (λ x. x)
worked_out h now quiet i x s =
    record {
      input = s.input;
      past = s.past;
      reading = s.reading;
      before = s.before;
      made = s.made;
      keeps =
          (let k = s.keeps in
          record {
            config = k.config;
            entries = k.entries;
            calls = k.calls;
            lines = k.lines;
            replied = k.replied;
            started = k.started;
            born = k.born;
            numbered = k.numbered;
            counted = k.counted;
            present = k.present;
            members = k.members;
            connected = k.connected;
            unanswered = k.unanswered;
            single = k.single;
            owned = k.owned;
            jobs = k.jobs;
            holdings = k.holdings;
            children = k.children;
            programs = k.programs;
          });
      quiet = quiet;
    }

pub steps_begin : StepsBegin
steps_begin = record { begins = begins; quietly = quietly; nothing = λ h st es now later below s. nothing_is_due h st es now later below s; worked_out = worked_out }
