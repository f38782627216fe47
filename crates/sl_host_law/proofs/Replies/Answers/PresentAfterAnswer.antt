-- Who is present after an answer: all but a refused joining whose last open write it answers.
use Rattle.sl_host_law.proofs.SharedFacts.PlainLists.{at_some, filter_where}
use Rattle.sl_host_state.specs.HeardInputs.{is_over_with, others}
use Rattle.sl_host_state.specs.KeptState.{HostState, MemberState}
use Rattle.sl_host_state.specs.HostStands.{Keeps, kept_call}
use Rattle.sl_host_state.specs.declared.kept_parts.OpenCall.{OpenCall}
use Rattle.sl_host_law.proofs.Replies.Answers.AnswerIsHeeded.{waking}
use Rattle.sl_host_law.proofs.Replies.Answers.AnswerMarksOneCall.{told}
use Rattle.sl_host_law.proofs.Replies.OpenCallsAreKept.{open_write_is}
use Rattle.sl_host_law.proofs.Replies.PlainFilters.{any_kept, filter_mapped}
use Rattle.sl_host_law.proofs.Replies.PresentInOrder.{present_kept}
use Rattle.sl_trace.specs.Sessions.{has_open_write, is_join_done, is_present, joined_after, present_sessions, refused_after, removed_after}
use Rattle.sl_trace.specs.declared.session.Session.{Session}
use Rattle.sl_trace.specs.Traces.{Replied, Setting, Trace, outstanding, reply_to}
use Rattle.sl_trace.specs.declared.effects.Effects.{Effects}
use Rattle.sl_trace.specs.declared.input.Answer.{Answer}
use Rattle.sl_words.specs.Words.{choose}
use Rattle.std.proofs.Common.{ap, refl, sym, ◌∙◌}
use Rattle.std.specs.List.{list_any}
use Rattle.std.specs.Prelude.{Bool, List, None, Option, Some, false, filter, is_none, is_some, map, not, option_and_then, reverse, slice_get, true, [], ℕ, ◌&&◌, ◌+◌, ◌==◌, ◌∷◌, ◌≡◌, ◌||◌}

-- Who is joined was not refused.
pub joined_not_refused : (es : Trace) (s : Session) (k : ℕ) → joined_after es s ≡ Some k → refused_after es s ≡ None
joined_not_refused es s k = by s.job where
  by_reply : (r : Replied) (done : Bool) → choose done (r.at + 1) ≡ Some k → choose (not done) (r.at + 1) ≡ None
  by_reply r true is = refl
  by_reply r false is = absurd cc

  by_job : (o : Option Replied) → option_and_then (λ r. choose (is_join_done r.reply) (r.at + 1)) o ≡ Some k → option_and_then (λ r. choose (not (is_join_done r.reply)) (r.at + 1)) o ≡ None
  by_job None is = refl
  by_job (Some r) is = by_reply r (is_join_done r.reply) is

  by : (o : Option ℕ) → elim o as (λ z. Option ℕ) [ None ↦ Some 0 | Some j ↦ option_and_then (λ r. choose (is_join_done r.reply) (r.at + 1)) (reply_to es j) ] ≡ Some k
      → elim o as (λ z. Option ℕ) [ None ↦ None | Some j ↦ option_and_then (λ r. choose (not (is_join_done r.reply)) (r.at + 1)) (reply_to es j) ] ≡ None
  by None is = refl
  by (Some j) is = by_job (reply_to es j) is

module _ (past : Trace) (now : ℕ) (fx : Effects) (n : ℕ) (a : Answer) where
  abbrev before : Trace
  before = waking now fx ∷ past

  abbrev after : Trace
  after = told now fx n a ∷ past

  -- It stays unless it was refused and has no open write.
  abbrev stays : Session → Bool
  stays s = not (is_some (refused_after before s) && not (has_open_write after s))

  present_as : (s : Session) → (has_open_write after s ≡ true → has_open_write before s ≡ true) → is_present after s ≡ (is_present before s && stays s)
  present_as s fewer = by (joined_after before s) refl where
    -- By how the joining ended, and whether a write was, and is, open.
    by_refused : (o : Option ℕ) (was is : Bool) → (is ≡ true → was ≡ true) → (is_none o || is) ≡ ((is_none o || was) && not (is_some o && not is))
    by_refused None was is fewer = refl
    by_refused (Some k) was true fewer = sym (ap (λ b. b && true) (fewer refl))
    by_refused (Some k) was false fewer = sym (and_false was) where
      and_false : (b : Bool) → (b && false) ≡ false
      and_false true = refl
      and_false false = refl

    one : (b : Bool) → b ≡ (b && true)
    one true = refl
    one false = refl

    by : (o : Option ℕ) → joined_after before s ≡ o
        → (is_none (elim o as (λ z. Option ℕ) [ Some k ↦ removed_after before s | None ↦ refused_after before s ]) || is_none o && has_open_write after s)
        ≡ ((is_none (elim o as (λ z. Option ℕ) [ Some k ↦ removed_after before s | None ↦ refused_after before s ]) || is_none o && has_open_write before s) && stays s)
    by None is = by_refused (refused_after before s) (has_open_write before s) (has_open_write after s) fewer
    by (Some k) is =
        one (is_none (removed_after before s) || false)
        ∙ ap (λ o. (is_none (removed_after before s) || false) && not (is_some o && not (has_open_write after s))) (sym (joined_not_refused before s k is))

  any_weaker : (p q : OpenCall → Bool) (cs : List OpenCall) → list_any p (filter q cs) ≡ true → list_any p cs ≡ true
  any_weaker p q cs is = by cs (sym (any_kept p q cs) ∙ is) where
    step : (x y : Bool) (rest more : Bool) → (rest ≡ true → more ≡ true) → ((x && y) || rest) ≡ true → (y || more) ≡ true
    step true true rest more h is = refl
    step true false rest more h is = h is
    step false true rest more h is = refl
    step false false rest more h is = h is

    by : (ds : List OpenCall) → list_any (λ c. q c && p c) ds ≡ true → list_any p ds ≡ true
    by [] h = h
    by (c ∷ ds) h = step (q c) (p c) (list_any (λ c. q c && p c) ds) (list_any p ds) (λ k. by ds k) h

  -- Those that are present after it are the members then.
  pub present_heard : (st : Setting) (h : HostState) (c : OpenCall) → c.number ≡ n → Keeps h st before → map kept_call (outstanding after) ≡ reverse (others n h)
      → present_sessions st after ≡ map (λ m. m.who) (filter (λ m. not (is_over_with c.number h m)) h.members)
  present_heard st h c number k still_open =
      present_kept st before after stays refl (λ s there. present_as s (λ is.
      open_write_is before s h.unanswered k.unanswered
      ∙ any_weaker (λ c. c.session == s.number && is_none c.sectors) (λ c. not (c.number == n)) h.unanswered (sym (open_write_is after s (others n h) still_open) ∙ is)))
      ∙ ap (filter stays) k.present ∙ filter_mapped stays (λ (m : MemberState). m.who) h.members
      ∙ ap (map (λ (m : MemberState). m.who)) (filter_where (λ m. stays m.who) (λ m. not (is_over_with c.number h m)) h.members (λ m there. kept m (at_some h.members m there))) where
        kept : (m : MemberState) → (i : ℕ) × (slice_get h.members i ≡ Some m) → stays m.who ≡ not (is_over_with c.number h m)
        kept m at =
            ap (λ b. not (b && not (has_open_write after m.who))) (k.members at.0 m at.1).refused
            ∙ ap (λ b. not (m.refused && not b)) (open_write_is after m.who (others n h) still_open)
            ∙ ap (λ z. not (is_over_with z h m)) (sym number)
