-- What each question to a trace becomes by one more effect of its newest entry.
use Rattle.sl_due_facts.proofs.Acts.AddedAtEnd.{found_more}
use Rattle.sl_due_facts.proofs.AddedEffects.CallsGrow.{mine_more, next_more, others_stay, same_sessions}
use Rattle.sl_due_facts.specs.AddedEffects.OneMoreEffect.{with_reply}
use Rattle.sl_due_facts.specs.AddedEffects.EffectLaws.{EffectsAreTold}
use Rattle.sl_words.proofs.Lists.{filter_both}
use Rattle.sl_words.proofs.Numbers.{number_itself}
use Rattle.sl_trace.proofs.TraceFacts.{fold-push}
use Rattle.sl_trace.specs.WatchdogConnections.{after_move, connections}
use Rattle.sl_trace.specs.Traces.{Replied, Trace, child_after, children, holdings, is_ended_by, is_running, new_child, reply_in, reply_to, same_place}
use Rattle.sl_trace.specs.declared.effects.End.{End}
use Rattle.sl_trace.specs.declared.effects.Entry.{Entry}
use Rattle.sl_trace.specs.declared.effects.Grant.{Grant}
use Rattle.sl_trace.specs.declared.effects.JobReply.{JobReply}
use Rattle.sl_words.proofs.CaseLaws.{false_is_true, none_some}
use Rattle.std.proofs.Common.{ap, append_assoc, refl, sym, ◌∙◌}
use Rattle.std.proofs.lemmas.List.{map-append}
use Rattle.std.specs.Prelude.{Bool, List, None, Option, Some, cond, false, filter, find, is_none, length, map, not, option_map, true, [], ℕ, ◌&&◌, ◌++◌, ◌==◌, ◌||◌, ◌∷◌, ◌≡◌}

-- ---- ends and grants

or_together : (a b c : Bool) → (a || (b || c)) ≡ ((a || b) || c)
or_together true b c = refl
or_together false b c = refl

not_either : (a b : Bool) → not (a || b) ≡ (not a && not b)
not_either true b = refl
not_either false b = refl

ended_more : (xs : List End) (x : End) (g : Grant) → is_ended_by (xs ++ x ∷ []) g ≡ (is_ended_by xs g || is_ended_by (x ∷ []) g)
ended_more [] x g = refl
ended_more (y ∷ xs) x g =
    let here : Bool = y.process == g.process && same_place y.path y.offset g.path g.offset in
    ap (λ b. here || b) (ended_more xs x g) ∙ or_together here (is_ended_by xs g) (is_ended_by (x ∷ []) g)

filter_as : {A : Type 0} (p q : A → Bool) → ((a : A) → p a ≡ q a) → (xs : List A) → filter p xs ≡ filter q xs
filter_as p q same [] = refl
filter_as p q same (a ∷ xs) = ap (λ b. cond b (a ∷ filter p xs) (filter p xs)) (same a) ∙ ap (λ ys. cond (q a) (a ∷ ys) ys) (filter_as p q same xs)

left_over : (xs : List End) (x : End) (gs : List Grant)
    → filter (λ g. not (is_ended_by (xs ++ x ∷ []) g)) gs ≡ filter (λ g. not (is_ended_by (x ∷ []) g)) (filter (λ g. not (is_ended_by xs g)) gs)
left_over xs x gs =
    filter_as (λ g. not (is_ended_by (xs ++ x ∷ []) g)) (λ g. not (is_ended_by xs g) && not (is_ended_by (x ∷ []) g))
    (λ g. ap (λ b. not b) (ended_more xs x g) ∙ not_either (is_ended_by xs g) (is_ended_by (x ∷ []) g)) gs
    ∙ filter_both (λ g. not (is_ended_by xs g)) (λ g. not (is_ended_by (x ∷ []) g)) gs

-- ---- replies

found_new : (rs : List JobReply) (a : JobReply) → find (λ b. b.job == a.job) rs ≡ None → find (λ b. b.job == a.job) (rs ++ a ∷ []) ≡ Some a
found_new [] a none = ap (λ b. cond b (Some a) None) (number_itself a.job)
found_new (r ∷ rs) a none = by (r.job == a.job) none (λ rest. found_new rs a rest) where
  by : (b : Bool) → cond b (Some r) (find (λ c. c.job == a.job) rs) ≡ None → (find (λ c. c.job == a.job) rs ≡ None → find (λ c. c.job == a.job) (rs ++ a ∷ []) ≡ Some a)
      → cond b (Some r) (find (λ c. c.job == a.job) (rs ++ a ∷ [])) ≡ Some a
  by true none rest = absurd (none_some r (sym none))
  by false none rest = rest none

none_before : (past : Option Replied) (now : Option Replied) → is_none (elim past as (λ z. Option Replied) [ Some r ↦ Some r | None ↦ now ]) ≡ true → (past ≡ None) × (is_none now ≡ true)
none_before None now is = (refl, is)
none_before (Some r) now is = absurd (false_is_true is)

unmapped : {A B : Type 0} (f : A → B) (o : Option A) → is_none (option_map f o) ≡ true → o ≡ None
unmapped f None is = refl
unmapped f (Some a) is = absurd (false_is_true is)

answered : (a : JobReply) (e : Entry) (past : Trace) → is_running (e ∷ past) a.job ≡ true → reply_to (with_reply a e ∷ past) a.job ≡ Some (record { at = length past; reply = a.reply })
answered a e past runs =
    let before = none_before (reply_to past a.job) (reply_in a.job past e) runs in
    ap (λ o. elim o as (λ z. Option Replied) [ Some r ↦ Some r | None ↦ reply_in a.job past (with_reply a e) ]) before.0
    ∙ ap (λ o. option_map (λ (b : JobReply). record { at = length past; reply = b.reply }) o)
    (found_new e.effects.replies a (unmapped (λ (b : JobReply). record { at = length past; reply = b.reply }) (find (λ (b : JobReply). b.job == a.job) e.effects.replies) before.1))

others_wait : (a : JobReply) (e : Entry) (past : Trace) (job : ℕ) → (a.job == job) ≡ false → reply_to (with_reply a e ∷ past) job ≡ reply_to (e ∷ past) job
others_wait a e past job other =
    ap (λ o. elim (reply_to past job) as (λ z. Option Replied) [ Some r ↦ Some r | None ↦ option_map (λ (b : JobReply). record { at = length past; reply = b.reply }) o ])
    (found_more e.effects.replies a job other)

-- ---- the whole

pub effects_are_told : EffectsAreTold
effects_are_told =
    record {
      ends = λ x e past. ap (λ gs. gs ++ e.effects.grants) (left_over e.effects.ends x (holdings past));
      grants = λ g e past. sym (append_assoc (filter (λ h. not (is_ended_by e.effects.ends h)) (holdings past)) e.effects.grants (g ∷ []));
      starts = λ x e past.
          ap (λ ks. map (child_after e.input) (children past) ++ ks) (map-append new_child e.effects.starts (x ∷ []))
          ∙ sym (append_assoc (map (child_after e.input) (children past)) (map new_child e.effects.starts) (new_child x ∷ []));
      moves = λ st m e past. fold-push after_move (connections st past) e.effects.moves m;
      replies = answered;
      other_replies = others_wait;
      calls = λ c e past s mine. mine_more e past c s mine;
      other_calls = λ c e past s other. others_stay e past c s other;
      next_call = λ st e past. next_more st e past;
      sessions = λ st c e past other. same_sessions st e past c other;
    }
