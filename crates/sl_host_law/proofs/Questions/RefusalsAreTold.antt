-- The connection of a refused joining goes with it, or with the answer to its last write, as what is kept tells.
use Rattle.sl_due.specs.DueTimeOuts.{refuse, remove_connection, remove_of_refused}
use Rattle.sl_due.specs.Steps.{Step, add_reply, seen, when, with_input, with_some}
use Rattle.sl_host_law.proofs.SharedFacts.KeptJobs.{running_there}
use Rattle.sl_host_law.specs.SharedFacts.AtInput.{IsAtInput}
use Rattle.sl_host_state.specs.HeardInputs.{heard_answer}
use Rattle.sl_host_state.specs.KeptState.{HostState, MemberState}
use Rattle.sl_host_state.specs.MadeEffects.{has_write_open}
use Rattle.sl_host_state.specs.HostStands.{Stands}
use Rattle.sl_host_state.specs.declared.kept_parts.OpenCall.{OpenCall}
use Rattle.sl_words.proofs.Lists.{find_inside}
use Rattle.sl_host_law.proofs.Questions.JobsAnswer.{jobs_answer}
use Rattle.sl_host_law.specs.Questions.Jobs.{joining_in}
use Rattle.sl_host_law.specs.Questions.PartQuestions.{RefusalsAreTold}
use Rattle.sl_host_law.proofs.Replies.Answers.AnswersAreHeard.{answers_are_heard}
use Rattle.sl_host_law.proofs.Replies.OpenCallsAreKept.{open_write_is}
use Rattle.sl_host_law.proofs.Replies.RepliesAreTaken.ReplyEndsJob.{calls_stay, own_joining}
use Rattle.sl_host_law.specs.Replies.Answers.{FitsCall, IsOpen}
use Rattle.sl_host_law.specs.Replies.RepliesAreTaken.{LeavesHeed, MayReply}
use Rattle.sl_trace.specs.Sessions.{has_open_write, is_call_of, is_join_done}
use Rattle.sl_trace.specs.declared.session.Session.{Session}
use Rattle.sl_trace.specs.Traces.{is_running, is_write, unanswered}
use Rattle.sl_trace.specs.declared.input.Answer.{Answer}
use Rattle.sl_trace.specs.declared.input.Input.TheVariants.{Answer as Told, Wake}
use Rattle.sl_trace.specs.declared.input.Input.{Input}
use Rattle.sl_trace.specs.declared.reply.Reply.{Reply}
use Rattle.sl_words.specs.Words.{choose, some_is}
use Rattle.std.proofs.Common.{ap, refl, subst, sym, ◌∙◌}
use Rattle.std.specs.List.{list_any}
use Rattle.std.specs.Prelude.{None, Option, Some, false, filter, is_some, length, not, option_map, slice_get, true, ℕ, ◌&&◌, ◌+◌, ◌==◌, ◌≡◌}

module _ (i : Input) (h : HostState) (x : Step) (job : ℕ) (r : Reply) (s : Stands i h x) (may : MayReply i h x job r) (not_done : is_join_done r ≡ false) where
  runs : is_running (seen x) job ≡ true
  runs = (running_there h x.setting (seen x) job s.keeps may.runs).3

  removes : (m : MemberState) → joining_in h job ≡ Some m
      → remove_of_refused m.who (add_reply job r x) ≡ when (not (has_write_open h m.who.number)) (remove_connection m.who.lockspace) (add_reply job r x)
  removes m is =
      let its = (find_inside (λ (m : MemberState). some_is (λ j. j == job) m.who.job) h.members m is).1 in
      let ends = own_joining x.past x.reading x.input x.effects job r m.who its runs in
      let heed = subst (λ j. LeavesHeed j job r x.past) (sym s.input) may.heed in
      ap (λ o. when (is_some o && not (has_open_write (seen (add_reply job r x)) m.who)) (remove_connection m.who.lockspace) (add_reply job r x)) ends.refuses
      ∙ ap (λ b. when (is_some (choose (not b) (length x.past + 1)) && not (has_open_write (seen (add_reply job r x)) m.who)) (remove_connection m.who.lockspace) (add_reply job r x)) not_done
      ∙ ap (λ ms. when (not (list_any (λ d. is_write d.call.op) (unanswered (filter (is_call_of m.who) ms)))) (remove_connection m.who.lockspace) (add_reply job r x)) (calls_stay x.past x.reading x.input x.effects job r heed)
      ∙ ap (λ b. when (not b) (remove_connection m.who.lockspace) (add_reply job r x)) (open_write_is (seen x) m.who h.unanswered s.keeps.unanswered)

  refused : refuse job r x
      ≡ elim (joining_in h job) as (λ z. Step) [
        | None ↦ add_reply job r x
        | Some m ↦ when (not (has_write_open h m.who.number)) (remove_connection m.who.lockspace) (add_reply job r x)
      ]
  unfolding refuse
  refused = ap (λ (o : Option Session). with_some o remove_of_refused (add_reply job r x)) ((jobs_answer i h x s).joining job may.runs) ∙ by (joining_in h job) refl where
    by : (o : Option MemberState) → joining_in h job ≡ o
        → with_some (option_map (λ m. m.who) o) remove_of_refused (add_reply job r x)
        ≡ elim o as (λ z. Step) [
          | None ↦ add_reply job r x
          | Some m ↦ when (not (has_write_open h m.who.number)) (remove_connection m.who.lockspace) (add_reply job r x)
        ]
    by None is = refl
    by (Some m) is = removes m is

removed : (number : ℕ) (c : OpenCall) (a : Answer) (h : HostState) (x : Step) (k : ℕ) (m : MemberState) → Stands Wake h x → IsOpen h number c → FitsCall h.config.layout a c → IsAtInput h
    → slice_get h.members k ≡ Some m
    → remove_of_refused m.who (with_input (Told number a) x)
    ≡ when (m.refused && not (has_write_open (heard_answer number a h) m.who.number)) (remove_connection m.who.lockspace) (with_input (Told number a) x)
removed number c a h x k m s is_open fits at there =
    let after = answers_are_heard.heard number c a h x s is_open fits at in
    ap (λ b. when (b && not (has_open_write (seen (with_input (Told number a) x)) m.who)) (remove_connection m.who.lockspace) (with_input (Told number a) x)) (s.keeps.members k m there).refused
    ∙ ap (λ b. when (m.refused && not b) (remove_connection m.who.lockspace) (with_input (Told number a) x))
    (open_write_is (seen (with_input (Told number a) x)) m.who (heard_answer number a h).unanswered after.keeps.unanswered)

pub refusals_are_told : RefusalsAreTold
refusals_are_told = record { refused = λ i h x job r s may not_done. refused i h x job r s may not_done; removed = removed }
