-- What goes along a history, by one entry more, and what it finds left.
use Rattle.sl_live_lines.proofs.AnswerLaws.{all_answered, calls_more, is_left_open, starts_more}
use Rattle.sl_live_lines.proofs.LineLaws.{asks_push}
use Rattle.sl_live_lines.proofs.LiveLaws.{along_push, count_push, telling_push}
use Rattle.sl_live_lines.specs.AuditedHistory.{IsAnswered, IsAudit, IsLeft, IsOpenIn, KeepsAsk, NothingOpenIn, after_entry, answered_by, calls_made, open_calls, open_starts, opened_at, starts_made, told_by}
use Rattle.sl_live_lines.specs.EventTexts.{Telling, telling_after}
use Rattle.sl_live_lines.specs.LiveTexts.{count_step}
use Rattle.sl_live_lines.specs.LocksAlong.{AlongState, along, runs_line, step_along}
use Rattle.sl_live_lines.specs.declared.audit.Audit.{Audit}
use Rattle.sl_live_lines.specs.declared.audit.Left.TheVariants.{Call as CallLeft, Line as LineLeft, Start as StartLeft}
use Rattle.sl_live_lines.specs.declared.audit.Left.{Left}
use Rattle.sl_trace.specs.declared.effects.Entry.{Entry}
use Rattle.std.proofs.Common.{List, None, Option, Some, [], ap, ap₂, length, reverse, subst, sym, ℕ, ◌++◌, ◌+◌, ◌∙◌, ◌∷◌, ◌≡◌}
use Rattle.std.proofs.lemmas.List.{length-append}
use Rattle.std.specs.Prelude.{IfNone, IfSome, false}

-- It has gone on by an entry.
pub record HasGoneOn (x : Audit) (e : Entry) (y : Audit) : Type 0 where
  pub telling : y.telling ≡ telling_after x.telling e
  pub locks : y.locks ≡ step_along x.locks e
  pub number : y.number ≡ x.number + 1
  pub calls : (n : ℕ) → opened_at y.calls n ≡ after_entry (calls_made e) (answered_by e.input) (x.number + 1) n (opened_at x.calls n)
  pub starts : (n : ℕ) → opened_at y.starts n ≡ after_entry (starts_made e) (told_by e.input) (x.number + 1) n (opened_at x.starts n)
  pub replies : y.replies ≡ x.replies + count_step x.locks e

pub audit_more : (t : Telling) (a : AlongState) (h : List Entry) (e : Entry) (x y : Audit) → HasGoneOn x e y → IsAudit t a h x → KeepsAsk x.locks e → IsAudit t a (h ++ e ∷ []) y
audit_more t a h e x y on so asks =
    let behind : x.number + 1 ≡ length h + 1 = ap (λ n. n + 1) so.number in
    record {
      telling = on.telling ∙ ap (λ k. telling_after k e) so.telling ∙ sym (telling_push t h e);
      locks = on.locks ∙ ap (λ k. step_along k e) so.locks ∙ sym (along_push a h e);
      number = on.number ∙ behind ∙ sym (length-append h (e ∷ []));
      asks = asks_push a h e so.asks (subst (λ k. KeepsAsk k e) so.locks asks);
      calls = calls_more h e (x.number + 1) x.calls y.calls behind on.calls so.calls;
      starts = starts_more h e (x.number + 1) x.starts y.starts behind on.starts so.starts;
      replies = on.replies ∙ ap₂ (λ n k. n + count_step k e) so.replies so.locks ∙ sym (count_push a h e);
    }

-- ---- what is left

pub open_is_left : (t : Telling) (a : AlongState) (h : List Entry) (x : Audit) (l : Left) → IsAudit t a h x → IsOpenIn x l → IsLeft a h l
open_is_left t a h x LineLeft so is = sym (ap runs_line so.locks) ∙ is
open_is_left t a h x (CallLeft number call) so is = is_left_open calls_made h (open_calls (reverse h)) x.calls number call so.calls is
open_is_left t a h x (StartLeft number process) so is = is_left_open starts_made h (open_starts (reverse h)) x.starts number process so.starts is

pub some_left : (t : Telling) (a : AlongState) (h : List Entry) (x : Audit) (r : Option Left) → IsAudit t a h x → IfSome r (IsOpenIn x) → IfSome r (IsLeft a h)
some_left t a h x None so is = tt
some_left t a h x (Some l) so is = open_is_left t a h x l so is

pub none_left : (t : Telling) (a : AlongState) (h : List Entry) (x : Audit) (r : Option Left) → IsAudit t a h x → IfNone r (NothingOpenIn x)
    → IfNone r ((runs_line (along a h) ≡ false) × IsAnswered h)
none_left t a h x None so none = (sym (ap runs_line so.locks) ∙ none.line, all_answered h x.calls x.starts so.calls so.starts none.calls none.starts)
none_left t a h x (Some l) so none = tt
