-- A session that has not joined is not removed, in recovery or leaving: each of these begins of one that was joined before.
use Rattle.sl_trace.specs.Sessions.{is_join_done, is_joined, joined_after, leaves, leaving_job, leaving_in, recovers, removed_after, removed_in, renewed_by, renewing, shows_other}
use Rattle.sl_trace.specs.declared.session.Begun.{Begun}
use Rattle.sl_trace.specs.declared.session.Renewing.{Renewing}
use Rattle.sl_trace.specs.declared.session.Session.{Session}
use Rattle.sl_time.specs.Times.{fail}
use Rattle.sl_trace.specs.WatchdogConnections.{unregisters}
use Rattle.sl_trace.specs.Traces.{Job, Replied, Setting, Trace, line_in, next_job, reply_in, reply_to}
use Rattle.sl_trace.specs.declared.effects.Entry.{Entry}
use Rattle.sl_words.proofs.CaseLaws.{false_is_true}
use Rattle.sl_words.specs.Words.{choose}
use Rattle.std.proofs.Common.{ap, refl, sym, ◌∙◌}
use Rattle.std.specs.List.{list_any}
use Rattle.std.specs.Prelude.{Bool, List, None, Option, Some, false, is_none, is_some, length, nat_le, not, option_and_then, true, unwrap_or, [], ℕ, ◌&&◌, ◌+◌, ◌==◌, ◌∷◌, ◌≡◌, ◌||◌}

-- Who has not joined had not before.
pub not_before : (e : Entry) (es : Trace) (s : Session) → joined_after (e ∷ es) s ≡ None → joined_after es s ≡ None
not_before e es s = by s.job where
  by_reply : (j : ℕ) (o : Option Replied) → option_and_then (λ r. choose (is_join_done r.reply) (r.at + 1)) (elim o as (λ z. Option Replied) [ Some r ↦ Some r | None ↦ reply_in j es e ]) ≡ None
      → option_and_then (λ r. choose (is_join_done r.reply) (r.at + 1)) o ≡ None
  by_reply j None is = refl
  by_reply j (Some r) is = is

  by : (o : Option ℕ) → elim o as (λ z. Option ℕ) [ None ↦ Some 0 | Some j ↦ option_and_then (λ r. choose (is_join_done r.reply) (r.at + 1)) (reply_to (e ∷ es) j) ] ≡ None
      → elim o as (λ z. Option ℕ) [ None ↦ Some 0 | Some j ↦ option_and_then (λ r. choose (is_join_done r.reply) (r.at + 1)) (reply_to es j) ] ≡ None
  by None is = is
  by (Some j) is = by_reply j (reply_to es j) is

not_joined : (es : Trace) (s : Session) → joined_after es s ≡ None → is_joined es s ≡ false
not_joined es s is = ap (λ o. is_some o && is_none (removed_after es s)) is

pub not_removed : (es : Trace) (s : Session) → joined_after es s ≡ None → removed_after es s ≡ None
not_removed [] s is = refl
not_removed (e ∷ es) s is =
    ap (λ o. elim o as (λ z. Option ℕ) [ Some k ↦ Some k | None ↦ removed_in es s e ]) (not_removed es s (not_before e es s is))
    ∙ ap (λ o. choose (is_some o && list_any (unregisters s.lockspace) e.effects.moves) (length es + 1)) (not_before e es s is)

-- How it stands with its renewals after one more entry, by how it stood and whether it was joined.
abbrev next_renewing : Setting → Trace → Session → Entry → ℕ → Option Begun → Bool → Renewing
next_renewing st es s e last begun joined =
    elim begun as (λ z. Renewing) [
      | Some b ↦ record { last = last; recovery = begun }
      | None ↦ elim (joined && nat_le (last + fail st.timing) e.reading) as (λ z. Renewing) [
        | true ↦ recovers es e (length es) (record { last = last; recovery = begun })
        | false ↦ elim (joined && shows_other st es s e.input) as (λ z. Renewing) [
          | true ↦ recovers es e (length es + 1) (record { last = last; recovery = begun })
          | false ↦ record { last = unwrap_or (renewed_by es s e.input) last; recovery = begun }
        ]
      ]
    ]

none_begins : (st : Setting) (es : Trace) (s : Session) (e : Entry) (last : ℕ) (begun : Option Begun) (joined : Bool) → begun ≡ None → joined ≡ false → (next_renewing st es s e last begun joined).recovery ≡ None
none_begins st es s e last None false none is = refl
none_begins st es s e last None true none is = absurd (false_is_true (sym is))
none_begins st es s e last (Some b) joined none is = absurd cc

not_recovering_yet : (st : Setting) (es : Trace) (s : Session) (e : Entry) → joined_after es s ≡ None → (renewing st es s).recovery ≡ None → (renewing st (e ∷ es) s).recovery ≡ None
not_recovering_yet st es s e is none = none_begins st es s e (renewing st es s).last (renewing st es s).recovery (is_joined es s) none (not_joined es s is)

pub not_recovering : (st : Setting) (es : Trace) (s : Session) → joined_after es s ≡ None → (renewing st es s).recovery ≡ None
not_recovering st [] s is = refl
not_recovering st (e ∷ es) s is = not_recovering_yet st es s e (not_before e es s is) (not_recovering st es s (not_before e es s is))

not_leaving_yet : (st : Setting) (es : Trace) (s : Session) (e : Entry) → joined_after es s ≡ None → leaving_job st es s ≡ None → leaving_job st (e ∷ es) s ≡ None
not_leaving_yet st es s e is none =
    ap (λ o. elim o as (λ z. Option Job) [ Some j ↦ Some j | None ↦ leaving_in st es s e ]) none ∙ by (line_in e.input) (is_joined es s) (not_joined es s is) where
      chosen : (t joined more : Bool) (j : Job) → joined ≡ false → elim t as (λ z. Option Job) [ false ↦ None | true ↦ choose (joined && more) j ] ≡ None
      chosen false joined more j not_it = refl
      chosen true false more j not_it = refl
      chosen true true more j not_it = absurd (false_is_true (sym not_it))

      by : (o : Option (List ℕ)) (joined : Bool) → joined ≡ false
          → elim o as (λ z. Option Job) [
            | None ↦ None
            | Some text ↦ elim (leaves s (st.read text)) as (λ z. Option Job) [
              | false ↦ None
              | true ↦ choose (joined && not (list_any (λ a. a.job == next_job st es) e.effects.replies)) (record { number = next_job st es; at = length es; reading = e.reading; command = st.read text })
            ]
          ] ≡ None
      by None joined not_it = refl
      by (Some text) joined not_it =
          chosen (leaves s (st.read text)) joined (not (list_any (λ a. a.job == next_job st es) e.effects.replies)) (record { number = next_job st es; at = length es; reading = e.reading; command = st.read text }) not_it

pub not_leaving : (st : Setting) (es : Trace) (s : Session) → joined_after es s ≡ None → leaving_job st es s ≡ None
not_leaving st [] s is = refl
not_leaving st (e ∷ es) s is = not_leaving_yet st es s e (not_before e es s is) (not_leaving st es s (not_before e es s is))

-- So who is in recovery or leaving was joined before this step.
pub begun_joined : (st : Setting) (e : Entry) (es : Trace) (s : Session) → (is_some (renewing st (e ∷ es) s).recovery || is_some (leaving_job st (e ∷ es) s)) ≡ true → is_some (joined_after es s) ≡ true
begun_joined st e es s is = by (joined_after es s) refl where
  by : (o : Option ℕ) → joined_after es s ≡ o → is_some o ≡ true
  by (Some k) joined = refl
  by None joined =
      absurd (false_is_true (sym (ap (λ o. is_some o || is_some (leaving_job st (e ∷ es) s)) (not_recovering_yet st es s e joined (not_recovering st es s joined))
      ∙ ap is_some (not_leaving_yet st es s e joined (not_leaving st es s joined))) ∙ is))
