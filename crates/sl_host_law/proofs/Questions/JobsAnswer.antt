-- What a step asks of jobs is answered by those that are kept.
use Rattle.sl_due.specs.DueTimeOuts.{refuse, time_out}
use Rattle.sl_due.specs.Steps.{Step, seen, when, with_some}
use Rattle.sl_host_law.proofs.SharedFacts.KeptJobs.{kept_is_running, running_there}
use Rattle.sl_host_law.proofs.SharedFacts.MembersAreSessions.{member_inside}
use Rattle.sl_host_law.proofs.SharedFacts.NewNumbers.{mapped_inside}
use Rattle.sl_host_law.proofs.SharedFacts.PlainLists.{all_front, at_some, each_of, found_mapped}
use Rattle.sl_host_law.proofs.SharedFacts.PlainOrders.{inside_ordered}
use Rattle.sl_host_state.specs.KeptState.{Config, HostState, MemberState}
use Rattle.sl_host_state.specs.HostStands.{Keeps, Stands, kept_job, kept_waiting}
use Rattle.sl_host_state.specs.declared.kept_parts.JobState.{JobState}
use Rattle.sl_trace.specs.Jobs.{aim_of, aim_of_command, child_of_job, command_numbered, command_of}
use Rattle.sl_trace.specs.Leases.{lease_step}
use Rattle.sl_words.proofs.Lists.{find_fails, find_inside, in_map, kept}
use Rattle.sl_host_law.proofs.Questions.MembersAnswer.{members_answer}
use Rattle.sl_host_law.proofs.Questions.OneJoining.{joining_present, one_joining}
use Rattle.sl_host_law.specs.Questions.Jobs.{JobAnswers, JobsAnswer, WorkGoesOn, aim_in, command_in, goes_on_in, is_of_process_in, joining_in, running_in, time_out_in}
use Rattle.sl_host_law.proofs.Replies.JobsRun.{runs_among}
use Rattle.sl_host_law.proofs.Replies.PlainFilters.{filter_mapped, found_kept}
use Rattle.sl_host_law.proofs.Replies.PlainNumbers.{same_number}
use Rattle.sl_trace.specs.Sessions.{is_present, session_of_job, sessions}
use Rattle.sl_trace.specs.declared.session.Session.{Session}
use Rattle.sl_trace.specs.Traces.{Child, Job, Setting, Submitted, children, is_running, job_numbered, job_of, jobs, running_jobs, submitted, waiting_call, work_job}
use Rattle.sl_trace.specs.declared.effects.LeaseStep.{LeaseStep}
use Rattle.sl_trace.specs.declared.effects.Purpose.TheVariants.{Joining, Lease, Leaving, Renewal, RequestRead, RequestWrite, SeeRequest, Survey, ValueRead, ValueWrite}
use Rattle.sl_trace.specs.declared.effects.Purpose.{Purpose}
use Rattle.sl_trace.specs.declared.effects.Work.TheVariants.{ForJob, Settling}
use Rattle.sl_trace.specs.declared.effects.Work.{Work}
use Rattle.sl_trace.specs.declared.input.Input.{Input}
use Rattle.sl_trace.specs.declared.reply.Reply.TheVariants.{IoTimeout}
use Rattle.sl_words.proofs.CaseLaws.{is_false, none_some, not_both, some_value}
use Rattle.sl_words.proofs.WordLaws.{some_is_true}
use Rattle.sl_words.specs.Orders.{is_text_before}
use Rattle.sl_words.specs.Words.{some_is}
use Rattle.std.proofs.Common.{ap, refl, subst, sym, ◌∙◌}
use Rattle.std.specs.Prelude.{Contains, IsTrue, None, Option, Some, false, filter, filter_map, find, is_some, nat_le, option_and_then, option_map, true, ℕ, ◌+◌, ◌==◌, ◌≡◌}

module _ (h : HostState) (x : Step) (i : Input) (s : Stands i h x) where
  st : Setting
  st = x.setting

  keeps : Keeps h x.setting (seen x)
  keeps = s.keeps

  -- ---- which run, and what they say

  called : (d : Submitted) (n : ℕ) → Contains (submitted (seen x)) d → job_of d.call.purpose ≡ Some n → is_running (seen x) n ≡ running_in h n
  called d n there is =
      let owned = each_of (λ z. IsTrue (is_some (job_numbered x.setting (seen x) z))) (filter_map (λ (m : Submitted). job_of m.call.purpose) (submitted (seen x))) n
      (all_front (λ z. IsTrue (is_some (job_numbered x.setting (seen x) z))) (filter_map (λ (m : Submitted). job_of m.call.purpose) (submitted (seen x))) (filter_map (λ (c : Child). c.job) (children (seen x))) keeps.owned)
      (mapped_inside (λ (m : Submitted). job_of m.call.purpose) (submitted (seen x)) d n there is) in
      sym (kept_is_running h x.setting (seen x) n keeps ∙ runs_among x.setting (seen x) n owned)

  command : (n : ℕ) → running_in h n ≡ true → command_numbered x.setting (seen x) n ≡ command_in h n
  command n runs =
      let going = (running_there h x.setting (seen x) n keeps runs).3 in
      ap (option_and_then command_of) (found_kept (λ (j : Job). j.number == n) (λ j. is_running (seen x) j.number) (jobs x.setting (seen x)) (only going))
      ∙ same (find (λ (j : Job). j.number == n) (running_jobs x.setting (seen x)))
      ∙ ap (option_and_then (λ (j : JobState). j.command)) (sym (found_mapped (λ (j : JobState). j.number == n) (kept_job (seen x)) (running_jobs x.setting (seen x))) ∙ ap (find (λ (j : JobState). j.number == n)) keeps.jobs) where
        only : is_running (seen x) n ≡ true → (j : Job) → is_running (seen x) j.number ≡ false → (j.number == n) ≡ false
        only going j ends = is_false (j.number == n) (λ its. not_both (is_running (seen x) n) going (ap (is_running (seen x)) (sym (same_number j.number n its)) ∙ ends))

        same : (o : Option Job) → option_and_then command_of o ≡ option_and_then (λ (j : JobState). j.command) (option_map (kept_job (seen x)) o)
        same None = refl
        same (Some j) = refl

  aim : (m : MemberState) (work : Work) → goes_on_in h m work ≡ true → aim_of x.setting (seen x) work ≡ aim_in h work
  aim m (ForJob j) goes = ap (option_and_then aim_of_command) (command j goes)
  aim m Settling goes = refl

  -- ---- the session that a job joins

  member_of : (z : Session) (n : ℕ) → Contains (sessions x.setting (seen x)) z → z.job ≡ Some n → is_running (seen x) n ≡ true → (m : MemberState) × Contains h.members m × (m.who ≡ z)
  member_of z n inside is runs =
      in_map (λ (m : MemberState). m.who) h.members z
      (subst (λ ss. Contains ss z) keeps.present
      (inside_ordered (λ (a b : Session). is_text_before a.lockspace b.lockspace) (filter (is_present (seen x)) (sessions x.setting (seen x))) z
      (kept (is_present (seen x)) (sessions x.setting (seen x)) z (joining_present (seen x) z n is runs) inside)))

  has_job : (z : Session) (n : ℕ) → some_is (λ j. j == n) z.job ≡ true → z.job ≡ Some n
  has_job z n is = let j = some_is_true (λ (k : ℕ). k == n) z.job is in j.1 ∙ ap (λ k. Some k) (same_number j.0 n j.2)

  inside_of : (m : MemberState) → Contains h.members m → Contains (sessions x.setting (seen x)) m.who
  inside_of m there = let at = at_some h.members m there in (member_inside h x.setting (seen x) at.0 m keeps at.1).0

  joining : (n : ℕ) → running_in h n ≡ true → session_of_job x.setting (seen x) n ≡ option_map (λ m. m.who) (joining_in h n)
  joining n runs = by (running_there h x.setting (seen x) n keeps runs).3 (session_of_job x.setting (seen x) n) refl (joining_in h n) refl where
    by : is_running (seen x) n ≡ true → (o : Option Session) → session_of_job x.setting (seen x) n ≡ o → (p : Option MemberState) → joining_in h n ≡ p → o ≡ option_map (λ (m : MemberState). m.who) p
    by going None none None other = refl
    by going None none (Some m) found =
        let at = find_inside (λ (m : MemberState). some_is (λ j. j == n) m.who.job) h.members m found in
        absurd (not_both (some_is (λ j. j == n) m.who.job) at.1 (find_fails (λ (z : Session). some_is (λ j. j == n) z.job) (sessions x.setting (seen x)) m.who none (inside_of m at.0)))
    by going (Some z) is None none =
        let at = find_inside (λ (z : Session). some_is (λ j. j == n) z.job) (sessions x.setting (seen x)) z is in
        let m = member_of z n at.0 (has_job z n at.1) going in
        absurd (not_both (some_is (λ j. j == n) m.0.who.job) (ap (λ (w : Session). some_is (λ j. j == n) w.job) m.2 ∙ at.1)
        (find_fails (λ (m : MemberState). some_is (λ j. j == n) m.who.job) h.members m.0 none m.1))
    by going (Some z) is (Some m) found =
        let at = find_inside (λ (z : Session). some_is (λ j. j == n) z.job) (sessions x.setting (seen x)) z is in
        let of_member = find_inside (λ (m : MemberState). some_is (λ j. j == n) m.who.job) h.members m found in
        ap (λ w. Some w) (one_joining x.setting (seen x) z m.who n at.0 (inside_of m of_member.0) (has_job z n at.1) (has_job m.who n of_member.1))

  -- ---- what a job waits for

  overdue : (j : Job) → time_out j x ≡ time_out_in h (kept_job (seen x) j) x
  unfolding time_out
  overdue j = by (waiting_call (seen x) j.number) where
    late : (from : ℕ) → nat_le (from + x.setting.timing.io) x.reading ≡ nat_le (from + h.config.timing.io) h.reading
    late from = ap (λ (c : Config). nat_le (from + c.timing.io) x.reading) keeps.config ∙ ap (λ r. nat_le (from + h.config.timing.io) r) s.reading

    by : (o : Option Submitted)
        → with_some o (λ m. when (nat_le (m.reading + x.setting.timing.io) x.reading) (refuse j.number (IoTimeout m.call.number m.reading x.reading))) x
        ≡ with_some (option_map kept_waiting o) (λ c. when (nat_le (c.reading + h.config.timing.io) h.reading) (refuse j.number (IoTimeout c.number c.reading h.reading))) x
    by None = refl
    by (Some m) =
        ap (λ b. when b (refuse j.number (IoTimeout m.call.number m.reading x.reading)) x) (late m.reading)
        ∙ ap (λ r. when (nat_le (m.reading + h.config.timing.io) h.reading) (refuse j.number (IoTimeout m.call.number m.reading r)) x) s.reading

  answers : JobAnswers h x
  answers =
      record {
        called = called;
        command = command;
        aim = aim;
        joining = joining;
        process = λ p. sym (filter_mapped (is_of_process_in p) (kept_job (seen x)) (running_jobs x.setting (seen x))) ∙ ap (filter (is_of_process_in p)) keeps.jobs;
        child = λ j z is. subst (λ (w : JobState). child_of_job (seen x) w.number ≡ w.child) is refl;
        waits = λ j z is. subst (λ (w : JobState). option_map kept_waiting (waiting_call (seen x) w.number) ≡ w.waits) is refl;
        overdue = λ j z is. subst (λ (w : JobState). time_out j x ≡ time_out_in h w x) is (overdue j);
      }

pub jobs_answer : JobsAnswer
jobs_answer i h x s = answers h x i s

-- A call on a lease is of its work's job.
of_work : (p : Purpose) (j : ℕ) (step : LeaseStep) → lease_step p ≡ Some (ForJob j, step) → job_of p ≡ Some j
of_work (Lease work at) j step is = ap (λ (q : Work × LeaseStep). work_job q.0) (some_value (work, at) (ForJob j, step) is)
of_work (Joining k at) j step is = absurd (none_some (ForJob j, step) is)
of_work Renewal j step is = absurd (none_some (ForJob j, step) is)
of_work Survey j step is = absurd (none_some (ForJob j, step) is)
of_work (Leaving k) j step is = absurd (none_some (ForJob j, step) is)
of_work (RequestRead k) j step is = absurd (none_some (ForJob j, step) is)
of_work (RequestWrite k owner) j step is = absurd (none_some (ForJob j, step) is)
of_work SeeRequest j step is = absurd (none_some (ForJob j, step) is)
of_work (ValueWrite k) j step is = absurd (none_some (ForJob j, step) is)
of_work (ValueRead k) j step is = absurd (none_some (ForJob j, step) is)

pub work_goes_on : WorkGoesOn
work_goes_on i h x k m d (ForJob j) step at there is = called h x i at.stands d j there (of_work d.call.purpose j step is)
work_goes_on i h x k m d Settling step at there is = (members_answer i h x k m at).active
