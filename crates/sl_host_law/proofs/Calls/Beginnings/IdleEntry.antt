-- An entry that is a wake and does nothing: what is asked of a trace has the answer that it had.
use Rattle.sl_host_law.proofs.SharedFacts.PlainLists.{filter_as, filter_whole}
use Rattle.sl_trace.specs.Sessions.{has_open_write, is_join_done, is_joined, is_present, joined_after, leaving_job, present_sessions, refused_after, removed_after, sessions}
use Rattle.sl_trace.specs.declared.session.Session.{Session}
use Rattle.sl_trace.specs.Traces.{Child, Job, Replied, Setting, Trace, children, holdings, is_running, jobs, no_effects, reply_to, running_jobs}
use Rattle.sl_trace.specs.KillPrograms.{KillProgram, kill_programs}
use Rattle.sl_trace.specs.declared.effects.Entry.{Entry}
use Rattle.sl_trace.specs.declared.effects.Grant.{Grant}
use Rattle.sl_trace.specs.declared.input.Input.TheVariants.{Wake}
use Rattle.sl_words.specs.Orders.{in_order, is_text_before}
use Rattle.sl_words.specs.Words.{choose}
use Rattle.std.proofs.Common.{ap, refl, ◌∙◌}
use Rattle.std.proofs.lemmas.List.{append-nil, map-id}
use Rattle.std.specs.Prelude.{Bool, None, Option, Some, false, filter, is_none, is_some, length, map, not, option_and_then, true, ℕ, ◌&&◌, ◌+◌, ◌||◌, ◌∷◌, ◌≡◌}

-- The entry.
abbrev pub idle : ℕ → Entry
idle now = record { reading = now; input = Wake; effects = no_effects }

module _ (st : Setting) (es : Trace) (now : ℕ) where
  -- ---- replies

  pub same_reply : (job : ℕ) → reply_to (idle now ∷ es) job ≡ reply_to es job
  same_reply job = by (reply_to es job) where
    by : (o : Option Replied) → elim o as (λ z. Option Replied) [ Some r ↦ Some r | None ↦ None ] ≡ o
    by None = refl
    by (Some r) = refl

  pub same_joined_after : (s : Session) → joined_after (idle now ∷ es) s ≡ joined_after es s
  same_joined_after s = by s.job where
    by : (o : Option ℕ) → elim o as (λ z. Option ℕ) [ None ↦ Some 0 | Some j ↦ option_and_then (λ r. choose (is_join_done r.reply) (r.at + 1)) (reply_to (idle now ∷ es) j) ]
        ≡ elim o as (λ z. Option ℕ) [ None ↦ Some 0 | Some j ↦ option_and_then (λ r. choose (is_join_done r.reply) (r.at + 1)) (reply_to es j) ]
    by None = refl
    by (Some j) = ap (option_and_then (λ (r : Replied). choose (is_join_done r.reply) (r.at + 1))) (same_reply j)

  pub same_refused_after : (s : Session) → refused_after (idle now ∷ es) s ≡ refused_after es s
  same_refused_after s = by s.job where
    by : (o : Option ℕ) → elim o as (λ z. Option ℕ) [ None ↦ None | Some j ↦ option_and_then (λ r. choose (not (is_join_done r.reply)) (r.at + 1)) (reply_to (idle now ∷ es) j) ]
        ≡ elim o as (λ z. Option ℕ) [ None ↦ None | Some j ↦ option_and_then (λ r. choose (not (is_join_done r.reply)) (r.at + 1)) (reply_to es j) ]
    by None = refl
    by (Some j) = ap (option_and_then (λ (r : Replied). choose (not (is_join_done r.reply)) (r.at + 1))) (same_reply j)

  pub same_removed_after : (s : Session) → removed_after (idle now ∷ es) s ≡ removed_after es s
  same_removed_after s = by (removed_after es s) (is_some (joined_after es s)) where
    by : (o : Option ℕ) (b : Bool) → elim o as (λ z. Option ℕ) [ Some k ↦ Some k | None ↦ choose (b && false) (length es + 1) ] ≡ o
    by None true = refl
    by None false = refl
    by (Some k) b = refl

  -- ---- sessions

  pub same_joined : (s : Session) → is_joined (idle now ∷ es) s ≡ is_joined es s
  same_joined s = ap (λ o. is_some o && is_none (removed_after (idle now ∷ es) s)) (same_joined_after s) ∙ ap (λ o. is_some (joined_after es s) && is_none o) (same_removed_after s)

  abbrev ended_by : Option ℕ → Option ℕ → Option ℕ → Option ℕ
  ended_by joined removed refused = elim joined as (λ z. Option ℕ) [ Some k ↦ removed | None ↦ refused ]

  pub same_present : (s : Session) → is_present (idle now ∷ es) s ≡ is_present es s
  same_present s =
      ap (λ o. is_none (ended_by o (removed_after (idle now ∷ es) s) (refused_after (idle now ∷ es) s)) || is_none o && has_open_write es s) (same_joined_after s)
      ∙ ap (λ o. is_none (ended_by (joined_after es s) o (refused_after (idle now ∷ es) s)) || is_none (joined_after es s) && has_open_write es s) (same_removed_after s)
      ∙ ap (λ o. is_none (ended_by (joined_after es s) (removed_after es s) o) || is_none (joined_after es s) && has_open_write es s) (same_refused_after s)

  pub same_sessions : sessions st (idle now ∷ es) ≡ sessions st es
  same_sessions = append-nil (sessions st es)

  pub same_presents : present_sessions st (idle now ∷ es) ≡ present_sessions st es
  same_presents =
      ap (λ ss. in_order (λ a b. is_text_before a.lockspace b.lockspace) (filter (is_present (idle now ∷ es)) ss)) same_sessions
      ∙ ap (in_order (λ a b. is_text_before a.lockspace b.lockspace)) (filter_as (is_present (idle now ∷ es)) (is_present es) (sessions st es) same_present)

  pub same_leaving : (s : Session) → leaving_job st (idle now ∷ es) s ≡ leaving_job st es s
  same_leaving s = by (leaving_job st es s) where
    by : (o : Option Job) → elim o as (λ z. Option Job) [ Some j ↦ Some j | None ↦ None ] ≡ o
    by None = refl
    by (Some j) = refl

  -- ---- jobs, children, holdings, kill programs

  pub same_jobs : jobs st (idle now ∷ es) ≡ jobs st es
  same_jobs = append-nil (jobs st es)

  pub same_running : running_jobs st (idle now ∷ es) ≡ running_jobs st es
  same_running =
      ap (filter (λ j. is_running (idle now ∷ es) j.number)) same_jobs
      ∙ filter_as (λ (j : Job). is_running (idle now ∷ es) j.number) (λ (j : Job). is_running es j.number) (jobs st es) (λ j. ap (λ o. is_none o) (same_reply j.number))

  pub same_children : children (idle now ∷ es) ≡ children es
  same_children = append-nil (map (λ (k : Child). k) (children es)) ∙ map-id (children es)

  pub same_holdings : holdings (idle now ∷ es) ≡ holdings es
  same_holdings = append-nil (filter (λ (g : Grant). true) (holdings es)) ∙ filter_whole (λ (g : Grant). true) (holdings es) (λ g there. refl)

  pub same_programs : kill_programs st (idle now ∷ es) ≡ kill_programs st es
  same_programs = filter_whole (λ (k : KillProgram). true) (kill_programs st es) (λ k there. refl)
