-- Parts of a step that go over holders, holdings and jobs are told by what is kept.
use Rattle.sl_due.specs.DueRecovery.{begin_recovery, begins_now, is_kill_due, kill_holders, refuse_jobs, send, signal_and_refuse, signal_holders, tell_to_stop}
use Rattle.sl_due.specs.DueTimeOuts.{time_out, time_outs}
use Rattle.sl_due.specs.DueInputs.{end_holdings, leave_holdings, refuse_jobs_of}
use Rattle.sl_due.specs.Steps.{Step, add_end, add_grant, add_move, add_reply, add_signal, add_start, for_each, seen, when}
use Rattle.sl_host_law.proofs.SharedFacts.PlainLists.{at_mapped}
use Rattle.sl_host_state.proofs.StepQuestions.{questions_are_answered}
use Rattle.sl_host_state.specs.StepQuestions.{begins_in, is_kill_due_in, stopper_in}
use Rattle.sl_host_state.specs.KeptState.{HostState, MemberState}
use Rattle.sl_host_state.specs.HostStands.{Stands, kept_job}
use Rattle.sl_host_state.specs.declared.kept_parts.JobState.{JobState}
use Rattle.sl_trace.specs.Jobs.{is_job_of_process, jobs_of_session}
use Rattle.sl_host_law.proofs.Questions.JobsAnswer.{jobs_answer}
use Rattle.sl_host_law.proofs.Questions.MembersAnswer.{members_answer}
use Rattle.sl_host_law.specs.Questions.Jobs.{JobAnswers, is_of_process_in, time_out_in}
use Rattle.sl_host_law.specs.Questions.Members.{IsMemberAt, MemberAnswers, jobs_in}
use Rattle.sl_host_law.specs.Questions.PartQuestions.{HostParts, HostsPart, MemberParts, MembersPart, time_out_of}
use Rattle.sl_host_law.proofs.Replies.PlainFilters.{filter_mapped}
use Rattle.sl_trace.specs.Sessions.{leaving_of, recovery_of}
use Rattle.sl_trace.specs.declared.session.Begun.{Begun}
use Rattle.sl_trace.specs.Traces.{Job, Trace, end_of, first_child, next_child, orphans_left, running_jobs}
use Rattle.sl_trace.specs.declared.effects.Grant.{Grant}
use Rattle.sl_trace.specs.declared.effects.Move.TheVariants.{Unregister}
use Rattle.sl_trace.specs.declared.effects.Signal.TheVariants.{Kill, Term}
use Rattle.sl_trace.specs.declared.input.Input.{Input}
use Rattle.sl_trace.specs.declared.reply.Reply.TheVariants.{NoProcess, Recovering, Started}
use Rattle.sl_words.specs.Words.{some_is}
use Rattle.std.proofs.Common.{ap, refl, sym, ◌∙◌}
use Rattle.std.specs.Option.{option_map_or}
use Rattle.std.specs.Prelude.{List, None, Option, Some, filter, find, map, not, slice_get, ℕ, ◌&&◌, ◌+◌, ◌==◌, ◌||◌, ◌∷◌, ◌≡◌, []}

-- A pass that looks at a job's number alone is one over the numbers.
by_numbers : (f : ℕ → Step → Step) (es : Trace) (js : List Job) (x : Step) → for_each js (λ j. f j.number) x ≡ for_each (map (λ (s : JobState). s.number) (map (kept_job es) js)) f x
by_numbers f es [] x = refl
by_numbers f es (j ∷ js) x = by_numbers f es js (f j.number x)

module _ (i : Input) (h : HostState) (x : Step) (k : ℕ) (m : MemberState) (at : IsMemberAt i h x k m) where
  its : MemberAnswers h x m
  its = members_answer i h x k m at

  recovery : begin_recovery m.who x ≡ when (begins_in h m.renewing.recovery) (signal_and_refuse m.who None) x
  unfolding begin_recovery
  recovery =
      ap (λ (o : Option Begun). when (begins_now (seen x) o) (signal_and_refuse m.who None) x) its.recovery
      ∙ ap (λ b. when b (signal_and_refuse m.who None) x) (questions_are_answered.begins i h x m.renewing.recovery at.stands)

  kills : kill_holders m.who x ≡ when (m.joined && (is_kill_due_in h m.renewing.recovery || is_kill_due_in h m.leaving)) (signal_holders Kill m.who) x
  unfolding kill_holders
  kills =
      let member = at.stands.keeps.members k m at.there in
      ap (λ b. when (b && (is_kill_due x.setting (seen x) (recovery_of x.setting (seen x) m.who) || is_kill_due x.setting (seen x) (leaving_of x.setting (seen x) m.who))) (signal_holders Kill m.who) x) its.joined
      ∙ ap (λ (o : Option Begun). when (m.joined && (is_kill_due x.setting (seen x) o || is_kill_due x.setting (seen x) (leaving_of x.setting (seen x) m.who))) (signal_holders Kill m.who) x) its.recovery
      ∙ ap (λ (o : Option Begun). when (m.joined && (is_kill_due x.setting (seen x) m.renewing.recovery || is_kill_due x.setting (seen x) o)) (signal_holders Kill m.who) x) member.leaving
      ∙ ap (λ b. when (m.joined && (b || is_kill_due x.setting (seen x) m.leaving)) (signal_holders Kill m.who) x) (questions_are_answered.kills i h x m.renewing.recovery at.stands)
      ∙ ap (λ b. when (m.joined && (is_kill_due_in h m.renewing.recovery || b)) (signal_holders Kill m.who) x) (questions_are_answered.kills i h x m.leaving at.stands)

  refusals : (kept : Option ℕ) → refuse_jobs m.who kept x
      ≡ for_each (map (λ j. j.number) (filter (λ j. not (some_is (λ k. k == j.number) kept)) (jobs_in h m))) (λ n. add_reply n (Recovering m.renewing.last)) x
  refusals kept =
      ap (λ t. for_each (filter (λ (j : Job). not (some_is (λ k. k == j.number) kept)) (jobs_of_session x.setting (seen x) m.who)) (λ j. add_reply j.number (Recovering t)) x) its.renewal
      ∙ by_numbers (λ n. add_reply n (Recovering m.renewing.last)) (seen x) (filter (λ (j : Job). not (some_is (λ k. k == j.number) kept)) (jobs_of_session x.setting (seen x) m.who)) x
      ∙ ap (λ js. for_each (map (λ (s : JobState). s.number) js) (λ n. add_reply n (Recovering m.renewing.last)) x)
      (sym (filter_mapped (λ (s : JobState). not (some_is (λ k. k == s.number) kept)) (kept_job (seen x)) (jobs_of_session x.setting (seen x) m.who))
      ∙ ap (filter (λ (s : JobState). not (some_is (λ k. k == s.number) kept))) its.jobs)

  parts : MemberParts h x m
  parts = record { recovery = recovery; kills = kills; signals = λ signal. ap (λ ps. for_each ps (λ p. send p signal) x) its.holders; refusals = refusals }

pub members_part : MembersPart
members_part i h x k m at = parts i h x k m at

module _ (i : Input) (h : HostState) (x : Step) (s : Stands i h x) where
  of_jobs : JobAnswers h x
  of_jobs = jobs_answer i h x s

  stops : (p : ℕ) → tell_to_stop p x
      ≡ elim (stopper_in h p) as (λ z. Step) [
        | None ↦ add_signal p Term x
        | Some program ↦ add_start (record { process = first_child + h.started; program = program; job = None; stands_for = Some p }) x
      ]
  stops p =
      ap (λ o. elim o as (λ z. Step) [
        | None ↦ add_signal p Term x
        | Some program ↦ add_start (record { process = next_child (seen x); program = program; job = None; stands_for = Some p }) x
      ]) (questions_are_answered.stopper i h x p s)
      ∙ ap (λ n. elim (stopper_in h p) as (λ z. Step) [
        | None ↦ add_signal p Term x
        | Some program ↦ add_start (record { process = first_child + n; program = program; job = None; stands_for = Some p }) x
      ]) s.keeps.started

  orphans : (p : ℕ) → leave_holdings p x ≡ for_each (orphans_left p h.holdings) add_grant (end_holdings p x)
  unfolding leave_holdings
  orphans p = ap (λ gs. for_each (orphans_left p gs) add_grant (end_holdings p x)) s.keeps.holdings

  processes : (p : ℕ) → refuse_jobs_of p x ≡ for_each (map (λ j. j.number) (filter (is_of_process_in p) h.jobs)) (λ n. add_reply n (NoProcess p)) x
  processes p =
      by_numbers (λ n. add_reply n (NoProcess p)) (seen x) (filter (is_job_of_process (seen x) p) (running_jobs x.setting (seen x))) x
      ∙ ap (λ js. for_each (map (λ (s : JobState). s.number) js) (λ n. add_reply n (NoProcess p)) x) (of_jobs.process p)

  all_time_outs : time_outs x ≡ for_each (map (λ j. j.number) h.jobs) time_out_of x
  unfolding time_outs time_out
  all_time_outs = by_numbers time_out_of (seen x) (running_jobs x.setting (seen x)) x ∙ ap (λ js. for_each (map (λ (s : JobState). s.number) js) time_out_of x) s.keeps.jobs

  out_of : (j : Job) → time_out j x ≡ time_out_of j.number x
  unfolding time_out
  out_of j = refl

  one_time_out : (k : ℕ) (j : JobState) → slice_get h.jobs k ≡ Some j → time_out_of j.number x ≡ time_out_in h j x
  one_time_out k j there =
      let old = at_mapped (kept_job (seen x)) (running_jobs x.setting (seen x)) k j (ap (λ js. slice_get js k) s.keeps.jobs ∙ there) in
      ap (λ (z : JobState). time_out_of z.number x) (sym old.2) ∙ sym (out_of old.0) ∙ of_jobs.overdue old.0 j old.2

  whole : HostParts h x
  whole =
      record {
        stops = stops;
        connection = λ name. ap (λ b. when b (add_move (Unregister name)) x) (questions_are_answered.registered i h x name s);
        holdings = λ p. ap (λ (gs : List Grant). for_each (filter (λ g. g.process == p) gs) (λ g. add_end (end_of g)) x) s.keeps.holdings;
        orphans = orphans;
        processes = processes;
        started = λ p. ap (λ (gs : List Grant). Started (option_map_or (λ g. g.lver) (find (λ g. g.process == p) gs) 0) p) s.keeps.holdings;
        time_outs = all_time_outs;
        time_out = one_time_out;
      }

pub hosts_part : HostsPart
hosts_part i h x s = whole i h x s
