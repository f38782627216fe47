-- Whether an answer is heeded is told by the jobs that a host keeps, as long as the step's replies are those of before its input.
use Rattle.sl_host_law.proofs.SharedFacts.NewNumbers.{mapped_inside}
use Rattle.sl_host_law.proofs.SharedFacts.KeptJobs.{kept_is_running}
use Rattle.sl_host_law.proofs.SharedFacts.PlainLists.{each_of}
use Rattle.sl_host_state.specs.HeardInputs.{is_heeded_by}
use Rattle.sl_host_state.specs.KeptState.{HostState}
use Rattle.sl_host_state.specs.HostStands.{Keeps}
use Rattle.sl_host_state.specs.declared.kept_parts.JobState.{JobState}
use Rattle.sl_host_state.specs.declared.kept_parts.OpenCall.{OpenCall}
use Rattle.sl_words.proofs.Lists.{find_inside}
use Rattle.sl_host_law.proofs.Replies.Answers.AnswerFindsItsCall.{IsTheCall}
use Rattle.sl_host_law.proofs.Replies.Answers.AnswerMarksOneCall.{told}
use Rattle.sl_host_law.proofs.Replies.JobsRun.{runs_among}
use Rattle.sl_host_law.proofs.Replies.PlainFilters.{none_mapped}
use Rattle.sl_trace.specs.Traces.{Child, Replied, Setting, Submitted, Trace, children, is_before_input, is_going_on, is_refused_before_input, is_running, job_numbered, job_of, reply_in, reply_to, submitted}
use Rattle.sl_trace.specs.declared.effects.Effects.{Effects}
use Rattle.sl_trace.specs.declared.effects.Entry.{Entry}
use Rattle.sl_trace.specs.declared.effects.JobReply.{JobReply}
use Rattle.sl_trace.specs.declared.input.Answer.{Answer}
use Rattle.sl_trace.specs.declared.input.Input.TheVariants.{Wake}
use Rattle.std.proofs.Common.{ap, refl, sym, ◌∙◌}
use Rattle.std.proofs.lemmas.List.Elements.{Contains-append_left}
use Rattle.std.specs.List.{AllByRecursion, list_any}
use Rattle.std.specs.Option.{option_map_or}
use Rattle.std.specs.Prelude.{Bool, IsTrue, List, None, Option, Some, cond, false, filter_map, find, is_none, is_some, length, not, true, [], ℕ, ◌&&◌, ◌==◌, ◌∷◌, ◌≡◌, ◌||◌}

-- The step before its input, that has made no call.
abbrev pub waking : ℕ → Effects → Entry
waking now fx = record { reading = now; input = Wake; effects = record fx { calls = [] } }

-- A job is refused in the entry where it has a reply, since all are those of before the input.
refused_is : (n : ℕ) (rs : List JobReply) → AllByRecursion (λ r. IsTrue (is_before_input r.reply)) rs
    → is_none (find (λ a. a.job == n) rs) ≡ not (list_any (λ a. a.job == n && is_before_input a.reply) rs)
refused_is n [] all = refl
refused_is n (r ∷ rs) all = by (r.job == n) (refused_is n rs all.1) where
  by : (b : Bool) → is_none (find (λ a. a.job == n) rs) ≡ not (list_any (λ a. a.job == n && is_before_input a.reply) rs)
      → is_none (cond b (Some r) (find (λ a. a.job == n) rs)) ≡ not ((b && is_before_input r.reply) || list_any (λ a. a.job == n && is_before_input a.reply) rs)
  by true rest = ap (λ c. not (c || list_any (λ a. a.job == n && is_before_input a.reply) rs)) (sym all.0)
  by false rest = rest

module _ (past : Trace) (now : ℕ) (fx : Effects) where
  -- A job that runs before the input goes on at it.
  pub running_is : (number n : ℕ) (a : Answer) → AllByRecursion (λ r. IsTrue (is_before_input r.reply)) fx.replies
      → is_running (waking now fx ∷ past) n ≡ is_going_on past (told now fx number a) (Some n)
  running_is number n a all = by (reply_to past n) where
    by : (o : Option Replied) → is_none (elim o as (λ z. Option Replied) [ Some r ↦ Some r | None ↦ reply_in n past (waking now fx) ]) ≡ (is_none o && not (is_refused_before_input (told now fx number a) n))
    by (Some r) = refl
    by None = none_mapped (λ (r : JobReply). record { at = length past; reply = r.reply }) (find (λ a. a.job == n) fx.replies) ∙ refused_is n fx.replies all

  -- The host tells whether the answer is heeded.
  pub heeded_is : (st : Setting) (h : HostState) (c : OpenCall) (m : Submitted) (a : Answer) → Keeps h st (waking now fx ∷ past) → IsTheCall (submitted past) c m
      → AllByRecursion (λ r. IsTrue (is_before_input r.reply)) fx.replies → is_heeded_by h c ≡ is_going_on past (told now fx c.number a) (job_of m.call.purpose)
  heeded_is st h c m a k the all =
      ap (λ (z : OpenCall). option_map_or (λ n. list_any (λ j. j.number == n) h.jobs) (job_of z.purpose) true) (sym the.kept) ∙ by (job_of m.call.purpose) refl where
        es : Trace
        es = waking now fx ∷ past

        by : (o : Option ℕ) → job_of m.call.purpose ≡ o → option_map_or (λ n. list_any (λ (j : JobState). j.number == n) h.jobs) o true ≡ is_going_on past (told now fx c.number a) o
        by None is = refl
        by (Some n) is =
            let inside = (find_inside (λ (d : Submitted). d.call.number == c.number) (submitted past) m the.found).0 in
            let owned = each_of (λ j. IsTrue (is_some (job_numbered st (waking now fx ∷ past) j))) _ n k.owned
            (Contains-append_left (filter_map (λ (m : Submitted). job_of m.call.purpose) (submitted past)) (filter_map (λ (c : Child). c.job) (children (waking now fx ∷ past))) n
            (mapped_inside (λ (m : Submitted). job_of m.call.purpose) (submitted past) m n inside is)) in
            kept_is_running h st (waking now fx ∷ past) n k
            ∙ runs_among st (waking now fx ∷ past) n owned
            ∙ running_is c.number n a all
