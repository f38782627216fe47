-- The last answer of a quiet acquire grants it.
use Rattle.sl_run.specs.Safety.{world_at}
use Rattle.sl_run.specs.EventChanges.{with_entry}
use Rattle.sl_headline.specs.Quiet.Events.CourseLeads.{mode_of, GrantsNow, Hears, ShowsAt, decided_then}
use Rattle.sl_words.specs.Words.{first_of_list}
use Rattle.sl_words.proofs.Lists.{find_fails, kept}
use Rattle.sl_words.proofs.CaseLaws.{false_is_true, none_some, some_value, true_is_false}
use Rattle.sl_run.specs.Quiet.{calls_needed, job_calls, GrantsQuietly}
use Rattle.std.proofs.Common.{ap, arith, refl, subst, sym, ◌∙◌}
use Rattle.sl_run.specs.Worlds.{World, reading_now}
use Rattle.sl_trace.specs.declared.reply.Reply.{Reply}
use Rattle.sl_run.specs.Lawful.{IsSetting}
use Rattle.sl_due.specs.Due.{IsHostTrace}
use Rattle.sl_trace.specs.declared.reply.Reply.TheVariants.{Granted}
use Rattle.sl_trace.specs.declared.lease.LeaseNext.TheVariants.{GrantJob}
use Rattle.sl_trace.specs.declared.effects.Entry.{Entry}
use Rattle.std.specs.Prelude.{Bool, Contains, IsSome, IsSomeAnd, List, None, Option, Some, false, find, is_none, length, true, ◌+◌, ◌∷◌, ◌≤◌, ◌++◌, ◌≡◌, suc, ℕ, []}
use Rattle.sl_trace.specs.Traces.{Answered, Replied, Setting, Submitted, Trace, answer_of, answered_in, is_of_job, reply_in, reply_to, waiting_call, outstanding, submitted}
use Rattle.sl_headline.specs.Quiet.Events.CarriedStages.{AllDone, Asked, DaemonOnCourse, Frees_leader, IsOfMode, Reads_area, Reads_first, Reads_second, Sets_mode, Stage, Takes_leader, Writes_first, Writes_second, stage_next, stages_before}
use Rattle.sl_headline.proofs.Quiet.Events.AnswersShow.{answers_show, heard_so, told_answer}
use Rattle.sl_headline.proofs.Quiet.Events.CourseDecides.{course_decides}
use Rattle.sl_headline.proofs.Quiet.Events.CourseLeads.{course_ends}
use Rattle.sl_headline.proofs.Quiet.Events.Calls.{call_there, of_the_job, CallThere}
use Rattle.sl_due_law.proofs.Causes.CauseFactsHold.{entry_new}
use Rattle.sl_due_facts.proofs.Jobs.JobsAreNumbered.{command_stays}
use Rattle.sl_trace.specs.declared.command.Command.TheVariants.{Acquire}
use Rattle.sl_headline.specs.Quiet.Events.AnswersShow.{CourseIsGranted, CourseIsQuiet, IsGrantedThere, heard_entry}

-- ---- how many calls

done_count : (q : Asked) (stages : List Stage) (ms : List Submitted) → AllDone q stages ms → length ms ≡ length stages
done_count q [] [] done = refl
done_count q [] (m ∷ ms) done = absurd done
done_count q (s ∷ stages) [] done = absurd done
done_count q (s ∷ stages) (m ∷ ms) done = ap (λ n. suc n) (done_count q stages ms done.2)

needed_last : (shared : Bool) (stage : Stage) → IsOfMode shared stage → stage_next shared stage ≡ None → suc (length (stages_before stage)) ≡ calls_needed shared
needed_last true Reads_area mode last = absurd (none_some Writes_first (sym last))
needed_last true Writes_first mode last = absurd (none_some Reads_first (sym last))
needed_last true Reads_first mode last = absurd (none_some Writes_second (sym last))
needed_last true Writes_second mode last = absurd (none_some Reads_second (sym last))
needed_last true Reads_second mode last = absurd (none_some Takes_leader (sym last))
needed_last true Takes_leader mode last = absurd (none_some Sets_mode (sym last))
needed_last true Sets_mode mode last = absurd (none_some Frees_leader (sym last))
needed_last true Frees_leader mode last = refl
needed_last false Reads_area mode last = absurd (none_some Writes_first (sym last))
needed_last false Writes_first mode last = absurd (none_some Reads_first (sym last))
needed_last false Reads_first mode last = absurd (none_some Writes_second (sym last))
needed_last false Writes_second mode last = absurd (none_some Reads_second (sym last))
needed_last false Reads_second mode last = absurd (none_some Takes_leader (sym last))
needed_last false Takes_leader mode last = refl
needed_last false Sets_mode mode last = absurd (false_is_true mode)
needed_last false Frees_leader mode last = absurd (false_is_true mode)

needed_at : (shared : Bool) (stage : Stage) → IsOfMode shared stage → suc (length (stages_before stage)) ≤ calls_needed shared
needed_at true Reads_area mode = omega arith
needed_at true Writes_first mode = omega arith
needed_at true Reads_first mode = omega arith
needed_at true Writes_second mode = omega arith
needed_at true Reads_second mode = omega arith
needed_at true Takes_leader mode = omega arith
needed_at true Sets_mode mode = omega arith
needed_at true Frees_leader mode = omega arith
needed_at false Reads_area mode = omega arith
needed_at false Writes_first mode = omega arith
needed_at false Reads_first mode = omega arith
needed_at false Writes_second mode = omega arith
needed_at false Reads_second mode = omega arith
needed_at false Takes_leader mode = omega arith
needed_at false Sets_mode mode = absurd (false_is_true mode)
needed_at false Frees_leader mode = absurd (false_is_true mode)

-- ---- the grant

reply_now : (past : Trace) (e : Entry) (job : ℕ) (r : Replied) → reply_to past job ≡ None → reply_in job past e ≡ Some r → reply_to (e ∷ past) job ≡ Some r
reply_now past e job r none is = ap (λ o. elim o as (λ z. Option Replied) [ Some k ↦ Some k | None ↦ reply_in job past e ]) none ∙ is

answered_at : (o : Option Answered) (a : Answered) (i : ℕ) → o ≡ Some a → a.at ≡ i → IsSomeAnd o (λ (b : Answered). b.at ≡ i)
answered_at o a i is at = subst (λ z. IsSomeAnd z (λ (b : Answered). b.at ≡ i)) (sym is) at

pub course_is_granted : CourseIsGranted
course_is_granted p h now x run well q stage line resource c quiet k to =
    record {
      machine = k.machine;
      daemon = with_entry e k.now c.daemon;
      at = (k.at, k.runs);
      place = length past;
      command = command_stays st e past q.job (Acquire q.resource q.shared q.process q.persistent) (c.host).command;
      reply = reply_now past e q.job (record { at = length past; reply = Granted (q.leader.lver + 1) }) (c.host).runs grants.reply;
      grants = record {
        last = told;
        calls = (
          ap (λ ms. length ms) ends.1 ∙ (ap (λ n. suc n) (done_count q (stages_before stage) (c.host).older (c.host).done) ∙ needed_last q.shared stage (c.host).mode to),
          ap (λ ms. first_of_list ms) ends.1,
        );
        answered = answered_at told.answer (answer_of past e k.answer call.call) (length past) (told_answer past e call k.answer (c.host).waits) refl;
        entry = e;
        grant = grants.grant;
        granted = (entry_new past e, grants.granted);
        right = grants.right;
      };
    } where
      v : World
      v = world_at p h (now ++ x ∷ [])

      st : Setting
      st = (c.daemon).setting

      past : Trace
      past = (c.daemon).trace

      call : Submitted
      call = (c.host).call

      e : Entry
      e = heard_entry v q c.daemon call.call.number k

      told : Submitted
      told = answered_in past e call.call.number k.answer call

      made : IsSetting st × IsHostTrace st (e ∷ past)
      made = (heard_so p h now x run well q stage line resource c quiet k).well

      shows : Hears st past e q call k.answer × ShowsAt st past (reading_now k.machine) q call k.answer stage
      shows = answers_show p h now x run well q stage line resource c quiet k

      decided : decided_then st past (reading_now k.machine) q stage call k.answer ≡ GrantJob (mode_of q.shared) (q.leader.lver + 1)
      decided = course_decides.last st past (reading_now k.machine) q stage made.0 (made.1.0.1, made.1.1.1) c.asked c.host k.answer shows.1 to

      ends : GrantsNow past e q (q.leader.lver + 1) × (job_calls (e ∷ past) q.job ≡ told ∷ (c.host).older)
      ends = course_ends st past e q stage made.0 made.1 c.asked c.host k.answer shows.0 to (q.leader.lver + 1) decided

      grants : GrantsNow past e q (q.leader.lver + 1)
      grants = ends.0

-- ---- what is promised

one_reply : (o : Option Replied) (a b : Replied) → o ≡ Some a → o ≡ Some b → a ≡ b
one_reply o a b first second = some_value a b (sym first ∙ second)

found_there : (p : Submitted → Bool) (ms : List Submitted) (m : Submitted) → Contains ms m → p m ≡ true → IsSome (find p ms)
found_there p ms m there is = by (find p ms) refl where
  by : (o : Option Submitted) → find p ms ≡ o → IsSome o
  by None none = absurd (true_is_false (sym is ∙ find_fails p ms m none there))
  by (Some y) found = refl

waits_there : (st : Setting) (es : Trace) (q : Asked) (stage : Stage) → (c : DaemonOnCourse st es q stage) → IsSome (waiting_call es q.job)
waits_there st es q stage c =
    let there : CallThere st es q c.call = call_there st es q stage c in
    found_there (is_of_job q.job) (outstanding es) c.call (kept (λ (m : Submitted). is_none m.answer) (submitted es) c.call (ap (λ o. is_none o) c.waits) there.there) (of_the_job q stage c.call c.is)

granted_right : (v : World) (q : Asked) → (g : IsGrantedThere v q) → (i : ℕ) (answer : Reply) → reply_to (g.daemon).trace q.job ≡ Some (record { at = i; reply = answer })
    → (answer ≡ Granted (q.leader.lver + 1)) × GrantsQuietly g.daemon q.job i (q.leader.lver + 1) q.resource q.shared q.persistent q.process
granted_right v q g i answer is =
    let mine : Replied = record { at = g.place; reply = Granted (q.leader.lver + 1) } in
    let its : Replied = record { at = i; reply = answer } in
    let one : mine ≡ its = one_reply (reply_to (g.daemon).trace q.job) mine its g.reply is in (
      sym (ap (λ (r : Replied). r.reply) one),
      subst (λ n. GrantsQuietly g.daemon q.job n (q.leader.lver + 1) q.resource q.shared q.persistent q.process) (ap (λ (r : Replied). r.at) one) g.grants,
    )

at_most : (a b c : ℕ) → a ≡ b → b ≤ c → a ≤ c
at_most a b c is low = subst (λ n. n ≤ c) (sym is) low

itself : (n : ℕ) → n ≤ n
itself n = omega arith

pub course_is_quiet : CourseIsQuiet
course_is_quiet =
    record {
      waits = λ w q stage c. record {
        calls = at_most (length (job_calls (c.daemon).trace q.job)) (suc (length (stages_before stage))) (calls_needed q.shared)
            (ap (λ ms. length ms) (c.host).calls ∙ ap (λ n. suc n) (done_count q (stages_before stage) (c.host).older (c.host).done)) (needed_at q.shared stage (c.host).mode);
        reply = λ i answer is. absurd (none_some (record { at = i; reply = answer }) (sym (c.host).runs ∙ is));
        unless_waiting = λ none. waits_there (c.daemon).setting (c.daemon).trace q stage c.host;
      };
      granted = λ v q g. record {
        calls = at_most (length (job_calls (g.daemon).trace q.job)) (calls_needed q.shared) (calls_needed q.shared) (g.grants).calls.0 (itself (calls_needed q.shared));
        reply = granted_right v q g;
        unless_waiting = λ none. absurd (none_some (record { at = g.place; reply = Granted (q.leader.lver + 1) }) (sym none ∙ g.reply));
      };
    }
