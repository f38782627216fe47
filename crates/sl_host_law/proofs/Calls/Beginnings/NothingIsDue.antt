-- Below the reading kept a step does nothing before its input.
use Rattle.sl_host_law.proofs.Calls.Beginnings.IdleEntry.{idle, same_presents, same_running}
use Rattle.sl_host_law.proofs.Calls.Beginnings.MemberBegun.{member_stands}
use Rattle.sl_host_law.proofs.Calls.Beginnings.QuietBegun.{moments_have, not_late}
use Rattle.sl_due.specs.Due.{before_input}
use Rattle.sl_due.specs.DueRecovery.{begin_recoveries, begin_recovery, begins_now, is_first_at, is_kill_due, kill_holders, kills, kills_holders, signal_and_refuse, signal_holders}
use Rattle.sl_due.specs.DueTimeOuts.{is_overdue, refuse, time_out, time_outs}
use Rattle.sl_due.specs.Steps.{Step, begin_step, for_each, seen, when, with_some}
use Rattle.sl_host_law.proofs.SharedFacts.PlainLists.{at_some}
use Rattle.sl_host_law.proofs.SharedFacts.QuietMoments.{job_quiet, member_quiet}
use Rattle.sl_host_state.specs.HeardInputs.{beginning, counted, with_renewing}
use Rattle.sl_host_state.specs.KeptState.{Config, HostState, MemberState}
use Rattle.sl_host_state.specs.HostStands.{HostStands, MemberStands, job_moments, kept_job, kept_waiting, kill_moment, recovery_moment}
use Rattle.sl_words.proofs.Lists.{contains_first, contains_map, contains_more, in_map}
use Rattle.sl_trace.specs.Sessions.{is_joined, leaving_of, present_sessions, recovers, recovery_of, renewed_by, renewing, shows_other}
use Rattle.sl_trace.specs.declared.session.Begun.{Begun}
use Rattle.sl_trace.specs.declared.session.Renewing.{Renewing}
use Rattle.sl_trace.specs.declared.session.Session.{Session}
use Rattle.sl_time.specs.Times.{fail}
use Rattle.sl_trace.specs.Traces.{Job, Setting, Submitted, Trace, last_reading, running_jobs, waiting_call}
use Rattle.sl_trace.specs.declared.effects.Signal.TheVariants.{Kill}
use Rattle.sl_trace.specs.declared.reply.Reply.TheVariants.{IoTimeout}
use Rattle.sl_words.proofs.CaseLaws.{none_some, some_value}
use Rattle.std.proofs.Common.{ap, arith, inl, inr, refl, subst, suc, sym, ◌∙◌}
use Rattle.std.specs.Prelude.{Bool, Contains, List, None, Option, Some, cond, false, length, nat_le, nat_lt, not, option_map, true, unwrap_or, [], ℕ, ◌&&◌, ◌+◌, ◌-◌, ◌<◌, ◌==◌, ◌||◌, ◌∷◌, ◌≡◌, ◌≤◌}

-- A loop that does nothing at each.
for_none : {A : Type 0} (xs : List A) (f : A → Step → Step) (x : Step) → ((a : A) → Contains xs a → f a x ≡ x) → for_each xs f x ≡ x
for_none [] f x none = refl
for_none (a ∷ xs) f x none =
    ap (λ y. for_each xs f y) (none a (contains_first a xs)) ∙ for_none xs f x (λ b there. none b (contains_more a xs b there))

unless : (b : Bool) (f : Step → Step) (x : Step) → b ≡ false → when b f x ≡ x
unless b f x is = ap (λ c. when c f x) is

-- ---- no recovery begins now

-- A recovery began in an entry that the trace has.
pub began_before : (st : Setting) (es : Trace) (s : Session) (b : Begun) → (renewing st es s).recovery ≡ Some b → b.at < length es
began_before st [] s b is = absurd (none_some b is)
began_before st (e ∷ es) s b is = by (λ old. began_before st es s b old) (renewing st es s).recovery refl is where
  less : b.at < length es → b.at < suc (length es)
  less old = omega (arith, old)

  new : (from : ℕ) → Some (record { at = length es; reading = e.reading; kills_from = from }) ≡ Some b → b.at < suc (length es)
  new from at = let place : length es ≡ b.at = ap (λ (z : Begun). z.at) (some_value (record { at = length es; reading = e.reading; kills_from = from }) b at) in omega (arith, place)

  by : ((renewing st es s).recovery ≡ Some b → b.at < length es) → (o : Option Begun) → (renewing st es s).recovery ≡ o
      → (elim o as (λ z. Renewing) [
        | Some z ↦ renewing st es s
        | None ↦ elim (is_joined es s && nat_le ((renewing st es s).last + fail st.timing) e.reading) as (λ z. Renewing) [
          | true ↦ recovers es e (length es) (renewing st es s)
          | false ↦ elim (is_joined es s && shows_other st es s e.input) as (λ z. Renewing) [
            | true ↦ recovers es e (length es + 1) (renewing st es s)
            | false ↦ (let r : Renewing = renewing st es s in record r { last = unwrap_or (renewed_by es s e.input) r.last })
          ]
        ]
      ]).recovery ≡ Some b → b.at < suc (length es)
  by old (Some z) was at = less (old at)
  by old None was at = first (is_joined es s && nat_le ((renewing st es s).last + fail st.timing) e.reading) (is_joined es s && shows_other st es s e.input) at where
    first : (p q : Bool)
        → (elim p as (λ z. Renewing) [
          | true ↦ recovers es e (length es) (renewing st es s)
          | false ↦ elim q as (λ z. Renewing) [
            | true ↦ recovers es e (length es + 1) (renewing st es s)
            | false ↦ (let r : Renewing = renewing st es s in record r { last = unwrap_or (renewed_by es s e.input) r.last })
          ]
        ]).recovery ≡ Some b → b.at < suc (length es)
    first true q it = new (length es) it
    first false true it = new (length es + 1) it
    first false false it = absurd (none_some b (sym was ∙ it))

pub not_now : (n at : ℕ) → at < n → (at + 1 == suc n) ≡ false
not_now n at less = grind (arith, less)

module _ (h : HostState) (st : Setting) (es : Trace) (now : ℕ) (later : h.reading ≤ now) (below : now < h.quiet_until) (stands : HostStands h st es) where
  abbrev x0 : Step
  x0 = begin_step st es now

  -- Each session that is present is a member whose recovery doesn't begin.
  member_of : (s : Session) → Contains (present_sessions st (seen x0)) s → (m : MemberState) × Contains h.members m × (m.who ≡ s)
  member_of s there =
      in_map (λ (m : MemberState). m.who) h.members s (subst (λ ss. Contains ss s) (same_presents st es now ∙ stands.keeps.present) there)

  stays : (m : MemberState) → Contains h.members m → MemberStands st (idle now ∷ es) m
  stays m there =
      let at = at_some h.members m there in
      subst (λ b. MemberStands st (idle now ∷ es) (cond b (with_renewing (beginning (counted now h) (h.entries + 1 - 1) m.renewing) m) m)) (not_late h now m below stands.quiet there)
      (member_stands h st es now m stands.keeps (stands.keeps.members at.0 m at.1))

  old_recovery : (m : MemberState) → Contains h.members m → begins_now (seen x0) (recovery_of st (seen x0) m.who) ≡ false
  old_recovery m there =
      ap (λ (r : Renewing). begins_now (seen x0) r.recovery) ((stays m there).renewing) ∙ by m.renewing.recovery refl where
        by : (o : Option Begun) → m.renewing.recovery ≡ o → begins_now (seen x0) o ≡ false
        by None is = refl
        by (Some b) is =
            let at = at_some h.members m there in
            not_now (length es) b.at (began_before st es m.who b (ap (λ (r : Renewing). r.recovery) (stands.keeps.members at.0 m at.1).renewing ∙ is))

  none_begins : begin_recoveries x0 ≡ x0
  unfolding begin_recoveries begin_recovery
  none_begins =
      for_none (present_sessions st (seen x0)) begin_recovery x0 (λ s there.
      (let m = member_of s there in
      unless (begins_now (seen x0) (recovery_of st (seen x0) s)) (signal_and_refuse s None) x0
      (subst (λ z. begins_now (seen x0) (recovery_of st (seen x0) z) ≡ false) m.2 (old_recovery m.0 m.1))))

  -- ---- no kills come now

  not_due : (o : Option Begun) → ((t : ℕ) → Contains (kill_moment h o) t → h.quiet_until ≤ t) → is_kill_due st (seen x0) o ≡ false
  not_due None quiet = refl
  not_due (Some b) quiet =
      ap (λ (c : Config). is_first_at st b.kills_from (b.reading + c.grace) (idle now ∷ es)) stands.keeps.config
      ∙ ap (λ n. nat_le b.kills_from n && nat_le (b.reading + h.config.grace) now && not (nat_lt b.kills_from n && nat_le (b.reading + h.config.grace) (last_reading st es))) stands.keeps.entries
      ∙ ap (λ n. nat_le b.kills_from h.entries && nat_le (b.reading + h.config.grace) now && not (nat_lt b.kills_from h.entries && nat_le (b.reading + h.config.grace) n)) stands.reading
      ∙ by (nat_lt b.kills_from h.entries && nat_le (b.reading + h.config.grace) h.reading) quiet where
        never : (p q : Bool) → (p && q && false) ≡ false
        never true true = refl
        never true false = refl
        never false q = refl

        sooner : (p : Bool) (t q : ℕ) → now < q → q ≤ t → (p && nat_le t now && true) ≡ false
        sooner p t q less least = grind (arith, less, least)

        by : (p : Bool) → ((t : ℕ) → Contains (cond p [] ((b.reading + h.config.grace) ∷ [])) t → h.quiet_until ≤ t)
            → (nat_le b.kills_from h.entries && nat_le (b.reading + h.config.grace) now && not p) ≡ false
        by true at = never (nat_le b.kills_from h.entries) (nat_le (b.reading + h.config.grace) now)
        by false at =
            sooner (nat_le b.kills_from h.entries) (b.reading + h.config.grace) h.quiet_until below (at (b.reading + h.config.grace) (contains_first (b.reading + h.config.grace) []))

  no_kill : (m : MemberState) → Contains h.members m → kills_holders st (seen x0) m.who ≡ false
  no_kill m there =
      let k = stays m there in
      ap (λ b. b && (is_kill_due st (seen x0) (recovery_of st (seen x0) m.who) || is_kill_due st (seen x0) (leaving_of st (seen x0) m.who))) k.joined
      ∙ ap (λ (r : Renewing). m.joined && (is_kill_due st (seen x0) r.recovery || is_kill_due st (seen x0) (leaving_of st (seen x0) m.who))) k.renewing
      ∙ ap (λ o. m.joined && (is_kill_due st (seen x0) m.renewing.recovery || is_kill_due st (seen x0) o)) k.leaving
      ∙ by m.joined refl where
        moment : m.joined ≡ true → (t : ℕ) → Contains (kill_moment h m.renewing.recovery) t → h.quiet_until ≤ t
        moment is t at =
            member_quiet h m t stands.quiet there
            (moments_have m.joined (recovery_moment h m) (kill_moment h m.renewing.recovery) (kill_moment h m.leaving) t is (inr (inl at)))

        leaving : m.joined ≡ true → (t : ℕ) → Contains (kill_moment h m.leaving) t → h.quiet_until ≤ t
        leaving is t at =
            member_quiet h m t stands.quiet there
            (moments_have m.joined (recovery_moment h m) (kill_moment h m.renewing.recovery) (kill_moment h m.leaving) t is (inr (inr at)))

        by : (b : Bool) → m.joined ≡ b → (b && (is_kill_due st (seen x0) m.renewing.recovery || is_kill_due st (seen x0) m.leaving)) ≡ false
        by false is = refl
        by true is =
            ap (λ c. c || is_kill_due st (seen x0) m.leaving) (not_due m.renewing.recovery (moment is)) ∙ not_due m.leaving (leaving is)

  no_kills : kills x0 ≡ x0
  unfolding kills kill_holders
  no_kills =
      for_none (present_sessions st (seen x0)) kill_holders x0 (λ s there.
      (let m = member_of s there in
      unless (kills_holders st (seen x0) s) (signal_holders Kill s) x0 (subst (λ z. kills_holders st (seen x0) z ≡ false) m.2 (no_kill m.0 m.1))))

  -- ---- no call is overdue

  not_overdue : (j : Job) → Contains (running_jobs st es) j → (m : Submitted) → waiting_call es j.number ≡ Some m → is_overdue st now m ≡ false
  not_overdue j there m waits =
      ap (λ (c : Config). nat_le (m.reading + c.timing.io) now) stands.keeps.config
      ∙ sooner (m.reading + h.config.timing.io) h.quiet_until below (job_quiet h (kept_job es j) (m.reading + h.config.timing.io) stands.quiet kept at) where
        sooner : (t q : ℕ) → now < q → q ≤ t → nat_le t now ≡ false
        sooner t q less least = grind (arith, less, least)

        kept : Contains h.jobs (kept_job es j)
        kept = subst (λ js. Contains js (kept_job es j)) stands.keeps.jobs (contains_map (kept_job es) (running_jobs st es) j there)

        at : Contains (job_moments h (kept_job es j)) (m.reading + h.config.timing.io)
        at =
            subst
            (λ o. Contains (elim (option_map kept_waiting o) as (λ z. List ℕ) [ None ↦ [] | Some c ↦ (c.reading + h.config.timing.io) ∷ [] ]) (m.reading + h.config.timing.io)) (sym waits)
            (contains_first (m.reading + h.config.timing.io) [])

  in_time : (j : Job) → Contains (running_jobs st es) j → time_out j x0 ≡ x0
  unfolding time_out
  in_time j there = by (waiting_call es j.number) refl where
    by : (o : Option Submitted) → waiting_call es j.number ≡ o
        → with_some o (λ m. when (is_overdue st now m) (refuse j.number (IoTimeout m.call.number m.reading now))) (begin_step st es now) ≡ begin_step st es now
    by None is = refl
    by (Some m) is = unless (is_overdue st now m) (refuse j.number (IoTimeout m.call.number m.reading now)) (begin_step st es now) (not_overdue j there m is)

  none_times_out : time_outs x0 ≡ x0
  unfolding time_outs
  none_times_out = for_none (running_jobs st (seen x0)) time_out x0 (λ j there. in_time j (subst (λ js. Contains js j) (same_running st es now) there))

  pub nothing_is_due : before_input x0 ≡ x0
  unfolding before_input
  nothing_is_due = ap (λ y. time_outs (kills y)) none_begins ∙ (ap time_outs no_kills ∙ none_times_out)
