-- What is known of names and joinings is kept by each effect, but by a call of a session that was refused.
use Rattle.sl_due_facts.specs.Acts.TraceSoFar.{entry_of}
use Rattle.sl_due.specs.Steps.{Step, add_call_of, add_move, add_reply, seen}
use Rattle.sl_due_facts.proofs.Jobs.SessionsStand.{move_joined}
use Rattle.sl_due_facts.proofs.AddedEffects.CallsGrow.{others_stay}
use Rattle.sl_words.proofs.Options.{then_value}
use Rattle.sl_words.proofs.Truth.{or_false}
use Rattle.sl_trace.specs.Sessions.{calls_of, has_open_write, is_call_of, is_join_done, is_joined, is_present, joined_after, refused_after, removed_after}
use Rattle.sl_trace.specs.declared.session.Session.{Session}
use Rattle.sl_trace.specs.Traces.{Replied, Submitted, Trace, is_write, next_call, reply_in, reply_to, submitted, unanswered}
use Rattle.sl_trace.specs.declared.effects.Call.{Call}
use Rattle.sl_trace.specs.declared.effects.JobReply.{JobReply}
use Rattle.sl_trace.specs.declared.effects.Move.{Move}
use Rattle.sl_trace.specs.declared.effects.Op.{Op}
use Rattle.sl_trace.specs.declared.effects.Purpose.{Purpose}
use Rattle.sl_trace.specs.declared.reply.Reply.{Reply}
use Rattle.sl_run_law.proofs.Sessions.MarksStay.{refused_apart}
use Rattle.sl_words.proofs.CaseLaws.{none_some}
use Rattle.sl_words.proofs.WordLaws.{and_true}
use Rattle.sl_words.specs.Words.{choose}
use Rattle.std.proofs.Common.{ap, ap₂, refl, sym, ◌∙◌}
use Rattle.std.proofs.lemmas.Bool.{eqb-true}
use Rattle.std.proofs.lemmas.List.Folds.{find-append}
use Rattle.std.specs.List.{list_any}
use Rattle.std.specs.Option.{option_or}
use Rattle.std.specs.Prelude.{Bool, List, None, Option, Some, [], false, filter, find, is_none, is_some, length, not, option_and_then, option_map, true, ℕ, ◌&&◌, ◌+◌, ◌==◌, ◌||◌, ◌∷◌, ◌≡◌}

-- ---- whether a session is present

abbrev pub present_by : Option ℕ → Option ℕ → Option ℕ → Bool → Bool
present_by joined removed refused writes = is_none (elim joined as (λ z. Option ℕ) [ Some k ↦ removed | None ↦ refused ]) || is_none joined && writes

-- A move makes no session present.
pub move_present : (y : Step) (m : Move) (s : Session) → is_present (seen (add_move m y)) s ≡ true → is_present (seen y) s ≡ true
move_present y m s is = by (joined_after (seen y) s) refl is where
  by : (o : Option ℕ) → joined_after (seen y) s ≡ o → present_by o (removed_after (seen (add_move m y)) s) (refused_after (seen y) s) (has_open_write (seen y) s) ≡ true
      → present_by o (removed_after (seen y) s) (refused_after (seen y) s) (has_open_write (seen y) s) ≡ true
  by None joined h = h
  by (Some k) joined h =
      let there : is_joined (seen (add_move m y)) s ≡ true = ap₂ (λ o b. is_some o && b) joined (or_false (is_none (removed_after (seen (add_move m y)) s)) h) in
      let before : is_none (removed_after (seen y) s) ≡ true = (and_true (is_some (joined_after (seen y) s)) (is_none (removed_after (seen y) s)) (move_joined y m s there)).1 in
      ap (λ b. b || false) before

-- Nor does a reply.
pub joined_of : (t : Trace) (s : Session) (j : ℕ) → s.job ≡ Some j → joined_after t s ≡ option_and_then (λ (r : Replied). choose (is_join_done r.reply) (r.at + 1)) (reply_to t j)
joined_of t s j its = ap (λ (o : Option ℕ). elim o as (λ z. Option ℕ) [ None ↦ Some 0 | Some k ↦ option_and_then (λ (r : Replied). choose (is_join_done r.reply) (r.at + 1)) (reply_to t k) ]) its

pub refused_of : (t : Trace) (s : Session) (j : ℕ) → s.job ≡ Some j → refused_after t s ≡ option_and_then (λ (r : Replied). choose (not (is_join_done r.reply)) (r.at + 1)) (reply_to t j)
refused_of t s j its = ap (λ (o : Option ℕ). elim o as (λ z. Option ℕ) [ None ↦ None | Some k ↦ option_and_then (λ (r : Replied). choose (not (is_join_done r.reply)) (r.at + 1)) (reply_to t k) ]) its

-- A reply that was given stays.
pub reply_kept_to : (y : Step) (j : ℕ) (r : Reply) (n : ℕ) (a : Replied) → reply_to (seen y) n ≡ Some a → reply_to (seen (add_reply j r y)) n ≡ Some a
reply_kept_to y j r n a is = by (reply_to y.past n) is where
  told : JobReply → Replied
  told b = record { at = length y.past; reply = b.reply }

  more : (o : Option JobReply) → option_map (λ (b : JobReply). told b) o ≡ Some a → option_map (λ (b : JobReply). told b) (option_or o (find (λ (b : JobReply). b.job == n) (record { job = j; reply = r } ∷ []))) ≡ Some a
  more (Some b) h = h
  more None h = absurd (none_some a h)

  by : (o : Option Replied) → (elim o as (λ z. Option Replied) [ Some b ↦ Some b | None ↦ reply_in n y.past (entry_of y) ]) ≡ Some a → (elim o as (λ z. Option Replied) [ Some b ↦ Some b | None ↦ reply_in n y.past (entry_of (add_reply j r y)) ]) ≡ Some a
  by (Some b) h = h
  by None h =
      ap (λ o. option_map told o) (find-append (λ (b : JobReply). b.job == n) y.effects.replies (record { job = j; reply = r } ∷ []))
      ∙ more (find (λ (b : JobReply). b.job == n) y.effects.replies) h

pub reply_joins_more : (y : Step) (j : ℕ) (r : Reply) (s : Session) (k : ℕ) → joined_after (seen y) s ≡ Some k → joined_after (seen (add_reply j r y)) s ≡ Some k
reply_joins_more y j r s k is = by s.job refl where
  by : (o : Option ℕ) → s.job ≡ o → joined_after (seen (add_reply j r y)) s ≡ Some k
  by None its = given its is where
    given : s.job ≡ None → joined_after (seen y) s ≡ Some k → joined_after (seen (add_reply j r y)) s ≡ Some k
    given none h =
        let is_zero : joined_after (seen y) s ≡ Some 0 = ap (λ (o : Option ℕ). elim o as (λ z. Option ℕ) [ None ↦ Some 0 | Some i ↦ option_and_then (λ (q : Replied). choose (is_join_done q.reply) (q.at + 1)) (reply_to (seen y) i) ]) none in
        ap (λ (o : Option ℕ). elim o as (λ z. Option ℕ) [ None ↦ Some 0 | Some i ↦ option_and_then (λ (q : Replied). choose (is_join_done q.reply) (q.at + 1)) (reply_to (seen (add_reply j r y)) i) ]) none ∙ (sym is_zero ∙ h)
  by (Some i) its =
      let was = then_value (λ (q : Replied). choose (is_join_done q.reply) (q.at + 1)) (reply_to (seen y) i) k (sym (joined_of (seen y) s i its) ∙ is) in
      joined_of (seen (add_reply j r y)) s i its ∙ (ap (λ o. option_and_then (λ (q : Replied). choose (is_join_done q.reply) (q.at + 1)) o) (reply_kept_to y j r i was.0 was.1) ∙ was.2)

reply_refuses_more : (y : Step) (j : ℕ) (r : Reply) (s : Session) (k : ℕ) → refused_after (seen y) s ≡ Some k → refused_after (seen (add_reply j r y)) s ≡ Some k
reply_refuses_more y j r s k is = by s.job refl where
  by : (o : Option ℕ) → s.job ≡ o → refused_after (seen (add_reply j r y)) s ≡ Some k
  by None its =
      absurd (none_some k (sym (ap (λ (o : Option ℕ). elim o as (λ z. Option ℕ) [ None ↦ None | Some i ↦ option_and_then (λ (q : Replied). choose (not (is_join_done q.reply)) (q.at + 1)) (reply_to (seen y) i) ]) its) ∙ is))
  by (Some i) its =
      let was = then_value (λ (q : Replied). choose (not (is_join_done q.reply)) (q.at + 1)) (reply_to (seen y) i) k (sym (refused_of (seen y) s i its) ∙ is) in
      refused_of (seen (add_reply j r y)) s i its ∙ (ap (λ o. option_and_then (λ (q : Replied). choose (not (is_join_done q.reply)) (q.at + 1)) o) (reply_kept_to y j r i was.0 was.1) ∙ was.2)

-- A session that is neither joined nor refused is present.
pub at_work_present : (joined removed refused : Option ℕ) (writes : Bool) → joined ≡ None → refused ≡ None → present_by joined removed refused writes ≡ true
at_work_present None removed None writes a b = refl
at_work_present (Some k) removed refused writes a b = absurd (none_some k (sym a))
at_work_present None removed (Some k) writes a b = absurd (none_some k (sym b))

pub reply_present : (y : Step) (j : ℕ) (r : Reply) (s : Session) → submitted (seen (add_reply j r y)) ≡ submitted (seen y) → is_present (seen (add_reply j r y)) s ≡ true → is_present (seen y) s ≡ true
reply_present y j r s same is = by (joined_after (seen y) s) refl (refused_after (seen y) s) refl where
  writes : has_open_write (seen (add_reply j r y)) s ≡ has_open_write (seen y) s
  writes = ap (λ ms. list_any (λ (m : Submitted). is_write m.call.op) (unanswered (filter (is_call_of s) ms))) same

  by : (o : Option ℕ) → joined_after (seen y) s ≡ o → (q : Option ℕ) → refused_after (seen y) s ≡ q → is_present (seen y) s ≡ true
  by None joined None refused = at_work_present (joined_after (seen y) s) (removed_after (seen y) s) (refused_after (seen y) s) (has_open_write (seen y) s) joined refused
  by (Some k) joined q refused =
      let after : joined_after (seen (add_reply j r y)) s ≡ Some k = reply_joins_more y j r s k joined in
      ap (λ o. present_by o (removed_after (seen y) s) (refused_after (seen y) s) (has_open_write (seen y) s)) joined
      ∙ (sym (ap (λ o. present_by o (removed_after (seen y) s) (refused_after (seen (add_reply j r y)) s) (has_open_write (seen (add_reply j r y)) s)) after) ∙ is)
  by None joined (Some k) refused =
      let after : refused_after (seen (add_reply j r y)) s ≡ Some k = reply_refuses_more y j r s k refused in
      let none : joined_after (seen (add_reply j r y)) s ≡ None = refused_apart (seen (add_reply j r y)) s k after in
      ap₂ (λ o q. present_by o (removed_after (seen y) s) q (has_open_write (seen y) s)) joined refused
      ∙ (sym (ap₂ (λ o q. present_by o (removed_after (seen y) s) q (has_open_write (seen y) s)) none after)
      ∙ (ap (λ b. present_by (joined_after (seen (add_reply j r y)) s) (removed_after (seen y) s) (refused_after (seen (add_reply j r y)) s) b) (sym writes) ∙ is))

-- Nor does a call of another session, or of one that was not refused.
pub call_present : (y : Step) (s : Session) (path : List ℕ) (p : Purpose) (o : ℕ) (op : Op) (z : Session) → ((z.number ≡ s.number) → refused_after (seen y) z ≡ None) → is_present (seen (add_call_of s.number path p o op y)) z ≡ true → is_present (seen y) z ≡ true
call_present y s path p o op z unrefused is = by (s.number == z.number) refl where
  made : Call
  made = record { number = next_call y.setting (seen y); session = s.number; purpose = p; path = path; offset = o; op = op }

  by : (b : Bool) → (s.number == z.number) ≡ b → is_present (seen y) z ≡ true
  by false other =
      let same : calls_of (seen (add_call_of s.number path p o op y)) z ≡ calls_of (seen y) z = others_stay (entry_of y) y.past made z other in
      sym (ap (λ ms. present_by (joined_after (seen y) z) (removed_after (seen y) z) (refused_after (seen y) z) (list_any (λ (m : Submitted). is_write m.call.op) (unanswered ms))) same) ∙ is
  by true mine =
      let none : refused_after (seen y) z ≡ None = unrefused (sym (eqb-true s.number z.number mine)) in
      either (joined_after (seen y) z) refl none where
        either : (q : Option ℕ) → joined_after (seen y) z ≡ q → refused_after (seen y) z ≡ None → is_present (seen y) z ≡ true
        either None joined none = at_work_present (joined_after (seen y) z) (removed_after (seen y) z) (refused_after (seen y) z) (has_open_write (seen y) z) joined none
        either (Some k) joined none =
            ap (λ q. present_by q (removed_after (seen y) z) (refused_after (seen y) z) (has_open_write (seen y) z)) joined
            ∙ (sym (ap (λ q. present_by q (removed_after (seen y) z) (refused_after (seen y) z) (has_open_write (seen (add_call_of s.number path p o op y)) z)) joined) ∙ is)
