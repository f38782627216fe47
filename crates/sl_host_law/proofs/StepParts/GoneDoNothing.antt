-- A session that is gone does nothing: it is not present, so it is not joined, and no job of its joining runs.
use Rattle.sl_host_law.proofs.Calls.Beginnings.NothingIsDue.{began_before, not_now}
use Rattle.sl_host_law.proofs.Decisions.QuestionsByKept.{joined_present}
use Rattle.sl_due.specs.CarriedDelta.{carry_delta}
use Rattle.sl_due.specs.DueRecovery.{begin_recovery, begins_now, is_kill_due, kill_holders, signal_and_refuse, signal_holders}
use Rattle.sl_due.specs.DueRequests.{bits_due}
use Rattle.sl_due.specs.DueWake.{end_if_done, finish_session, free_if_done, join_on_wake, renew_on_wake, settle_on_wake, settlings}
use Rattle.sl_due.specs.Steps.{Step, for_each, seen, when, with_some}
use Rattle.sl_host_law.proofs.SharedFacts.PlainOrders.{inside_ordered}
use Rattle.sl_host_state.specs.KeptState.{HostState, MemberState}
use Rattle.sl_trace.specs.Leases.{lease_spots}
use Rattle.sl_host_law.specs.StepParts.Recoveries.{GoneDoNothing, IsGone}
use Rattle.sl_words.proofs.Lists.{any_of, got_inside, in_map, kept}
use Rattle.sl_host_law.proofs.Questions.OneJoining.{joining_present}
use Rattle.sl_host_law.proofs.Replies.NotJoinedNotBegun.{not_before}
use Rattle.sl_trace.specs.DeltaDecisions.{delta_known, delta_of_session, next_on_wake, next_renewal}
use Rattle.sl_trace.specs.Sessions.{calls_of, is_joined, is_present, joined_after, leaving_job, leaving_of, present_sessions, recovers, recovery_of, removed_after, renewed_by, renewing, sessions, shows_other}
use Rattle.sl_trace.specs.declared.session.Begun.{Begun}
use Rattle.sl_trace.specs.declared.session.Renewing.{Renewing}
use Rattle.sl_trace.specs.declared.session.Session.{Session}
use Rattle.sl_time.specs.Times.{fail}
use Rattle.sl_trace.specs.WatchdogConnections.{unregisters}
use Rattle.sl_trace.specs.Traces.{Setting, Trace, is_running}
use Rattle.sl_trace.specs.declared.effects.Effects.{Effects}
use Rattle.sl_trace.specs.declared.effects.Entry.{Entry}
use Rattle.sl_trace.specs.declared.effects.Signal.TheVariants.{Kill}
use Rattle.sl_trace.specs.declared.input.Input.{Input}
use Rattle.sl_words.proofs.CaseLaws.{false_is_true, is_false, true_is_false}
use Rattle.sl_words.proofs.WordLaws.{and_true}
use Rattle.sl_words.specs.Orders.{is_text_before}
use Rattle.sl_words.specs.Words.{choose}
use Rattle.std.proofs.Common.{ap, refl, subst, sym, ◌∙◌}
use Rattle.std.proofs.lemmas.Bool.Decides.{Decides-eqb}
use Rattle.std.specs.List.{list_any}
use Rattle.std.specs.Prelude.{Bool, Contains, None, Option, Some, false, filter, is_none, is_some, length, nat_le, true, unwrap_or, [], ℕ, ◌&&◌, ◌+◌, ◌==◌, ◌∷◌, ◌≡◌, ◌||◌}

-- ---- not present, not joined

not_present : (i : Input) (h : HostState) (x : Step) (s : Session) → IsGone i h x s → is_present (seen x) s ≡ false
not_present i h x s gone =
    is_false (is_present (seen x) s) (λ present.
    (let inside : Contains (present_sessions x.setting (seen x)) s =
    inside_ordered (λ (a b : Session). is_text_before a.lockspace b.lockspace) (filter (is_present (seen x)) (sessions x.setting (seen x))) s
    (kept (is_present (seen x)) (sessions x.setting (seen x)) s present (got_inside (sessions x.setting (seen x)) s.number s gone.its))
    in
    let m = in_map (λ (z : MemberState). z.who) h.members s (subst (λ ss. Contains ss s) gone.stands.keeps.present inside) in
    true_is_false (sym (any_of (λ (z : MemberState). z.who.number == s.number) h.members m.0 ((Decides-eqb m.0.who.number s.number).1 (ap (λ (t : Session). t.number) m.2)) m.1) ∙ gone.absent)))

not_joined : (i : Input) (h : HostState) (x : Step) (s : Session) → IsGone i h x s → is_joined (seen x) s ≡ false
not_joined i h x s gone = joined_present (seen x) s ∙ ap (λ b. b && is_joined (seen x) s) (not_present i h x s gone)

unless : (b : Bool) (f : Step → Step) (x : Step) → b ≡ false → when b f x ≡ x
unless b f x is = ap (λ c. when c f x) is

-- ---- each part

kills : (i : Input) (h : HostState) (x : Step) (s : Session) → IsGone i h x s → kill_holders s x ≡ x
unfolding kill_holders
kills i h x s gone =
    ap (λ b. when (b && (is_kill_due x.setting (seen x) (recovery_of x.setting (seen x) s) || is_kill_due x.setting (seen x) (leaving_of x.setting (seen x) s))) (signal_holders Kill s) x) (not_joined i h x s gone)

joins : (i : Input) (h : HostState) (x : Step) (s : Session) → IsGone i h x s → join_on_wake s x ≡ x
unfolding join_on_wake
joins i h x s gone = by s.job refl where
  by : (o : Option ℕ) → s.job ≡ o
      → with_some o (λ j y. when (is_running (seen y) j) (carry_delta s (next_on_wake (delta_of_session y.setting s) y.reading (calls_of (seen y) s))) y) x ≡ x
  by None is = refl
  by (Some j) is =
      unless (is_running (seen x) j) (carry_delta s (next_on_wake (delta_of_session x.setting s) x.reading (calls_of (seen x) s))) x
      (is_false (is_running (seen x) j) (λ runs. true_is_false (sym (joining_present (seen x) s j is runs) ∙ not_present i h x s gone)))

renews : (i : Input) (h : HostState) (x : Step) (s : Session) → IsGone i h x s → renew_on_wake s x ≡ x
unfolding renew_on_wake
renews i h x s gone =
    ap (λ b. when b (λ y. carry_delta s (next_renewal (delta_of_session y.setting s) y.reading (delta_known y.setting (seen y) s) (bits_due y.setting (calls_of (seen y) s) y.reading)) y) x) (not_joined i h x s gone)

settles : (i : Input) (h : HostState) (x : Step) (s : Session) → IsGone i h x s → settlings s x ≡ x
unfolding settlings
settles i h x s gone =
    ap (λ b. when (b && is_none (recovery_of x.setting (seen x) s) && is_none (leaving_job x.setting (seen x) s)) (for_each (lease_spots x.setting (seen x) s) (settle_on_wake s)) x) (not_joined i h x s gone)

ends : (i : Input) (h : HostState) (x : Step) (s : Session) → IsGone i h x s → finish_session s x ≡ x
unfolding finish_session
ends i h x s gone =
    ap (λ b. when b (λ y. elim (is_some (recovery_of y.setting (seen y) s)) as (λ z. Step) [ true ↦ end_if_done s y | false ↦ free_if_done s y ]) x) (not_joined i h x s gone)

-- ---- recovery

-- Who was joined before a step that removes no connection is so in it.
joined_still : (e : Entry) (past : Trace) (s : Session) → e.effects.moves ≡ [] → is_joined past s ≡ true → is_joined (e ∷ past) s ≡ true
joined_still e past s none is =
    let both = and_true (is_some (joined_after past s)) (is_none (removed_after past s)) is in
    ap (λ b. b && is_none (removed_after (e ∷ past) s)) (joined (joined_after (e ∷ past) s) refl both.0) ∙ ap (λ o. is_none o) (removed (removed_after past s) both.1) where
      joined : (o : Option ℕ) → joined_after (e ∷ past) s ≡ o → is_some (joined_after past s) ≡ true → is_some (joined_after (e ∷ past) s) ≡ true
      joined None at was = absurd (true_is_false (sym was ∙ ap (λ o. is_some o) (not_before e past s at)))
      joined (Some k) at was = ap (λ o. is_some o) at

      removed : (o : Option ℕ) → is_none o ≡ true
          → elim o as (λ z. Option ℕ) [ Some k ↦ Some k | None ↦ choose (is_some (joined_after past s) && list_any (unregisters s.lockspace) e.effects.moves) (length past + 1) ] ≡ None
      removed (Some k) no_it = absurd (false_is_true no_it)
      removed None no_it =
          ap (λ ms. choose (is_some (joined_after past s) && list_any (unregisters s.lockspace) ms) (length past + 1)) none ∙ never (is_some (joined_after past s)) where
            never : (b : Bool) → choose (b && false) (length past + 1) ≡ None
            never true = refl
            never false = refl

not_begun : (st : Setting) (e : Entry) (past : Trace) (s : Session) → is_joined past s ≡ false → begins_now (e ∷ past) (recovery_of st (e ∷ past) s) ≡ false
not_begun st e past s is =
    ap (λ b. begins_now (e ∷ past) (elim (renewing st past s).recovery as (λ z. Renewing) [
      | Some z ↦ renewing st past s
      | None ↦ elim (b && nat_le ((renewing st past s).last + fail st.timing) e.reading) as (λ z. Renewing) [
        | true ↦ recovers past e (length past) (renewing st past s)
        | false ↦ elim (b && shows_other st past s e.input) as (λ z. Renewing) [
          | true ↦ recovers past e (length past + 1) (renewing st past s)
          | false ↦ (let r : Renewing = renewing st past s in record r { last = unwrap_or (renewed_by past s e.input) r.last })
        ]
      ]
    ]).recovery) is
    ∙ by (renewing st past s).recovery refl where
      by : (o : Option Begun) → (renewing st past s).recovery ≡ o
          → begins_now (e ∷ past) (elim o as (λ z. Renewing) [
            | Some z ↦ renewing st past s
            | None ↦ (let r : Renewing = renewing st past s in record r { last = unwrap_or (renewed_by past s e.input) r.last })
          ]).recovery ≡ false
      by None was = ap (begins_now (e ∷ past)) was
      by (Some b) was = ap (begins_now (e ∷ past)) was ∙ not_now (length past) b.at (began_before st past s b was)

begins : (i : Input) (h : HostState) (x : Step) (s : Session) → IsGone i h x s → h.made.moves ≡ [] → begin_recovery s x ≡ x
unfolding begin_recovery
begins i h x s gone none =
    unless (begins_now (seen x) (recovery_of x.setting (seen x) s)) (signal_and_refuse s None) x
    (not_begun x.setting (record { reading = x.reading; input = x.input; effects = x.effects }) x.past s
    (is_false (is_joined x.past s) (λ was.
    true_is_false (sym (joined_still (record { reading = x.reading; input = x.input; effects = x.effects }) x.past s (ap (λ (f : Effects). f.moves) gone.stands.made ∙ none) was) ∙ not_joined i h x s gone))))

pub gone_do_nothing : GoneDoNothing
gone_do_nothing = record { kills = kills; joins = joins; renews = renews; settles = settles; ends = ends; begins = begins }
