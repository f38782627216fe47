-- Once a step has begun no job goes on under a session in recovery or leaving.
use Rattle.sl_due_facts.proofs.Acts.LoopsKeep.{for_each_keeps, when_keeps}
use Rattle.sl_due_facts.specs.Acts.TraceSoFar.{entry_of}
use Rattle.sl_due.specs.DueRecovery.{begin_recoveries, begin_recovery, begins_now, signal_and_refuse}
use Rattle.sl_due.specs.Steps.{Step, begin_step, for_each, seen, when}
use Rattle.sl_due_facts.proofs.Jobs.EffectsAreAllowed.{stopped}
use Rattle.sl_due_facts.proofs.Jobs.JobFactsBegin.{running_then, sessions_then}
use Rattle.sl_due_facts.proofs.Jobs.NearlyPlainActs.{AnyMove, AnyStart, Anything, NoLook}
use Rattle.sl_due_facts.proofs.Jobs.QuietEffects.{is_recovering_parts, names_it}
use Rattle.sl_due_facts.proofs.Jobs.QuietFactsAreKept.{Stopping, job_at_stop, stop_leaves, stopping, stopping_itself}
use Rattle.sl_due_facts.proofs.Jobs.SessionsArePresent.{joined_present, present_inside}
use Rattle.sl_due_facts.proofs.Jobs.SessionsStand.{leaving_joined, no_members, recovery_joined}
use Rattle.sl_due_facts.specs.Jobs.JobLaws.{BeginsWith, HasQuietFacts}
use Rattle.sl_trace.specs.Jobs.{is_command_that, jobs_of_session}
use Rattle.sl_words.proofs.Lists.{contains_cases, contains_none, kept, kept_inside}
use Rattle.sl_words.proofs.Numbers.{number_itself}
use Rattle.sl_words.proofs.Options.{some_there}
use Rattle.sl_trace.specs.Sessions.{is_joined, is_recovering, joined_after, leaving_job, present_sessions, recovers, recovery_of, removed_after, removed_in, renewed_by, renewing, renewing_after, sessions, shows_other}
use Rattle.sl_trace.specs.declared.session.Begun.{Begun}
use Rattle.sl_trace.specs.declared.session.Renewing.{Renewing}
use Rattle.sl_trace.specs.declared.session.Session.{Session}
use Rattle.sl_time.specs.Times.{fail}
use Rattle.sl_trace.specs.Traces.{Job, Setting, Trace, is_running, jobs, no_effects, running_jobs}
use Rattle.sl_trace.specs.declared.input.Input.TheVariants.{Wake}
use Rattle.sl_words.proofs.CaseLaws.{false_is_true, none_some, some_value, true_is_false}
use Rattle.sl_words.proofs.WordLaws.{and_true}
use Rattle.std.proofs.Common.{ap, ap₂, arith, inl, inr, refl, subst, sym, ◌∙◌}
use Rattle.std.proofs.lemmas.List.{append-nil}
use Rattle.std.specs.Prelude.{Bool, Contains, List, None, Option, Some, [], false, is_none, is_some, length, nat_le, suc, true, unwrap_or, ℕ, ◌&&◌, ◌+◌, ◌==◌, ◌∷◌, ◌≡◌, ◌⊎◌}

plus_one : (n : ℕ) → n + 1 ≡ suc n
plus_one n = omega arith

recovery_started : (st : Setting) (past : Trace) (now : ℕ) (s : Session) (b : Begun) → recovery_of st past s ≡ None → recovery_of st (seen (begin_step st past now)) s ≡ Some b → b.at ≡ length past
recovery_started st past now s b none is = by (renewing st past s) none is where
  by_read : (r : Renewing) (o : Bool) → o ≡ false → r.recovery ≡ None
      → (elim o as (λ z. Renewing) [ true ↦ recovers past (record { reading = now; input = Wake; effects = no_effects }) (length past + 1) r | false ↦ record { last = unwrap_or (renewed_by past s Wake) r.last; recovery = r.recovery } ]).recovery ≡ Some b → b.at ≡ length past
  by_read r true no_one q h = absurd (true_is_false no_one)
  by_read r false no_one q h = absurd (none_some b (sym q ∙ h))

  by_time : (r : Renewing) (o : Bool) → r.recovery ≡ None
      → (elim o as (λ z. Renewing) [
        | true ↦ recovers past (record { reading = now; input = Wake; effects = no_effects }) (length past) r
        | false ↦ elim (is_joined past s && shows_other st past s Wake) as (λ z. Renewing) [ true ↦ recovers past (record { reading = now; input = Wake; effects = no_effects }) (length past + 1) r | false ↦ record { last = unwrap_or (renewed_by past s Wake) r.last; recovery = r.recovery } ]
      ]).recovery ≡ Some b → b.at ≡ length past
  by_time r true q h = ap (λ (z : Begun). z.at) (sym (some_value (record { at = length past; reading = now; kills_from = length past }) b h))
  by_time r false q h = by_read r (is_joined past s && shows_other st past s Wake) (never (is_joined past s)) q h where
    never : (c : Bool) → (c && false) ≡ false
    never true = refl
    never false = refl

  by : (r : Renewing) → r.recovery ≡ None → (renewing_after st past s r (record { reading = now; input = Wake; effects = no_effects })).recovery ≡ Some b → b.at ≡ length past
  by r q h = by_begun r.recovery q h where
    by_begun : (o : Option Begun) → o ≡ None
        → (elim o as (λ z. Renewing) [
          | Some c ↦ r
          | None ↦ elim (is_joined past s && nat_le (r.last + fail st.timing) now) as (λ z. Renewing) [
            | true ↦ recovers past (record { reading = now; input = Wake; effects = no_effects }) (length past) r
            | false ↦ elim (is_joined past s && shows_other st past s Wake) as (λ z. Renewing) [ true ↦ recovers past (record { reading = now; input = Wake; effects = no_effects }) (length past + 1) r | false ↦ record { last = unwrap_or (renewed_by past s Wake) r.last; recovery = r.recovery } ]
          ]
        ]).recovery ≡ Some b → b.at ≡ length past
    by_begun (Some c) none_at g = absurd (none_some c (sym none_at))
    by_begun None none_at g = by_time r (is_joined past s && nat_le (r.last + fail st.timing) now) q g

-- On the wake that begins a step a session is joined where it was.
pub joined_wake : (st : Setting) (past : Trace) (now : ℕ) (s : Session) → is_some (joined_after past s) ≡ true → is_joined (seen (begin_step st past now)) s ≡ true → is_joined past s ≡ true
joined_wake st past now s was is = by (removed_after past s) (and_true (is_some (joined_after (seen (begin_step st past now)) s)) (is_none (removed_after (seen (begin_step st past now)) s)) is).1 where
  by : (o : Option ℕ) → is_none (elim o as (λ z. Option ℕ) [ Some k ↦ Some k | None ↦ removed_in past s (record { reading = now; input = Wake; effects = no_effects }) ]) ≡ true → (is_some (joined_after past s) && is_none o) ≡ true
  by (Some k) h = absurd (false_is_true h)
  by None h = ap (λ b. b && true) was

job_wake : (st : Setting) (past : Trace) (now : ℕ) (s : Session) (i : Job) → Contains (jobs_of_session st (seen (begin_step st past now)) s) i → Contains (jobs_of_session st past s) i
job_wake st past now s i there =
    let named = kept_inside (is_command_that (names_it s)) (running_jobs st (seen (begin_step st past now))) i there in
    let runs = kept_inside (λ (j : Job). is_running (seen (begin_step st past now)) j.number) (jobs st (seen (begin_step st past now))) i named.0 in
    kept (is_command_that (names_it s)) (running_jobs st past) i named.1
    (kept (λ (j : Job). is_running past j.number) (jobs st past) i (sym (running_then past now i.number) ∙ runs.1) (subst (λ js. Contains js i) (append-nil (jobs st past)) runs.0))

pub leaving_wake : (st : Setting) (past : Trace) (now : ℕ) (s : Session) (k : Job) → leaving_job st (seen (begin_step st past now)) s ≡ Some k → leaving_job st past s ≡ Some k
leaving_wake st past now s k is = by (leaving_job st past s) is where
  by : (o : Option Job) → (elim o as (λ z. Option Job) [ Some a ↦ Some a | None ↦ None ]) ≡ Some k → o ≡ Some k
  by (Some a) h = h
  by None h = h

-- What the beginnings of recoveries leave of what stood.
begins_stopping : (x z : Step) (s : Session) → Stopping x z → Stopping x (begin_recovery s z)
unfolding begin_recovery
begins_stopping x z s k =
    when_keeps (Stopping x) (begins_now (seen z) (recovery_of z.setting (seen z) s)) (signal_and_refuse s None) z
    (λ begins f. stopped (Stopping x) (Stopping x) Anything NoLook AnyStart AnyMove (stopping x) tt z s None (λ y g j there. tt) f) k

all_stopping : (x z : Step) (ss : List Session) → Stopping x z → Stopping x (for_each ss begin_recovery z)
all_stopping x z ss k = for_each_keeps (Stopping x) ss begin_recovery z (λ s there y h. begins_stopping x y s h) k

-- Each session of the loop whose recovery begins has no running job at its end.
each_stopped : (x : Step) (ss : List Session) (z : Step) (s : Session) (i : Job) → Stopping x z → Contains ss s → begins_now (seen x) (recovery_of x.setting (seen x) s) ≡ true
    → Contains (jobs_of_session (for_each ss begin_recovery z).setting (seen (for_each ss begin_recovery z)) s) i → ⊥
unfolding begin_recovery
each_stopped x [] z s i k there begins inside = contains_none s there
each_stopped x (t ∷ ss) z s i k there begins inside = by (contains_cases t ss s there) (λ old. each_stopped x ss (begin_recovery t z) s i (begins_stopping x z t k) old begins inside) where
  now_here : begins_now (seen z) (recovery_of z.setting (seen z) s) ≡ true
  now_here = ap₂ (λ es o. begins_now (record { reading = z.reading; input = z.input; effects = z.effects } ∷ es) o) k.before (k.recovery s) ∙ begins

  stopped_here : begin_recovery s z ≡ signal_and_refuse s None z
  stopped_here = ap (λ b. when b (signal_and_refuse s None) z) now_here

  by : (t ≡ s) ⊎ Contains ss s → (Contains ss s → ⊥) → ⊥
  by (inr old) more = more old
  by (inl is) more =
      let y : Step = for_each ss begin_recovery (begin_recovery t z) in
      let later : Stopping (begin_recovery t z) y = all_stopping (begin_recovery t z) (begin_recovery t z) ss (stopping_itself (begin_recovery t z)) in
      let before : Contains (jobs_of_session (begin_recovery t z).setting (seen (begin_recovery t z)) s) i = job_at_stop (begin_recovery t z) y s i later inside in
      let same : begin_recovery t z ≡ signal_and_refuse s None z = ap (λ q. begin_recovery q z) is ∙ stopped_here in
      none_some i.number (stop_leaves z s None i (subst (λ (q : Step). Contains (jobs_of_session q.setting (seen q) s) i) same before))

pub quiet_facts_begin : BeginsWith HasQuietFacts
unfolding begin_recoveries
quiet_facts_begin st past e follows w =
    quiet_at (for_each (present_sessions st (seen x)) begin_recovery x) (all_stopping x x (present_sessions st (seen x)) (stopping_itself x))
    (λ s i there begins inside. each_stopped x (present_sessions st (seen x)) x s i (stopping_itself x) there begins inside)
  where
    x : Step
    x = begin_step st past e.reading

    quiet_at : (y : Step) → Stopping (begin_step st past e.reading) y
        → ((s : Session) (i : Job) → Contains (present_sessions st (seen (begin_step st past e.reading))) s → begins_now (seen (begin_step st past e.reading)) (recovery_of st (seen (begin_step st past e.reading)) s) ≡ true → Contains (jobs_of_session y.setting (seen y) s) i → ⊥)
        → HasQuietFacts y
    quiet_at y k stops =
        record {
          recovering = λ s there is other. no_members (jobs_of_session y.setting (seen y) s) (λ i inside. recovering s i (subst (λ ss. Contains ss s) k.sessions there) is inside);
          leaving = λ s j i there joined leaves_s inside.
              let before : leaving_job st (seen x) s ≡ Some j = k.leaving s j leaves_s in
              let was : is_some (joined_after past s) ≡ true = leaving_joined st (entry_of x) past s j before in
              w.facts.quiet.leaving s j i (subst (λ ss. Contains ss s) (sessions_then st past e.reading) (subst (λ ss. Contains ss s) k.sessions there)) (joined_wake st past e.reading s was (k.joined s was joined)) (leaving_wake st past e.reading s j before) (job_wake st past e.reading s i (job_at_stop x y s i k inside));
        } where
          recovering : (s : Session) (i : Job) → Contains (sessions st (seen x)) s → is_recovering y.setting (seen y) s ≡ true → Contains (jobs_of_session y.setting (seen y) s) i → ⊥
          recovering s i there is inside = by (recovery_of st past s) refl where
            both : (is_joined (seen y) s ≡ true) × (is_some (recovery_of y.setting (seen y) s) ≡ true)
            both = is_recovering_parts y.setting (seen y) s is

            begun : (b : Begun) × (recovery_of st (seen x) s ≡ Some b)
            begun = some_there (recovery_of st (seen x) s) (ap (λ o. is_some o) (sym (k.recovery s)) ∙ (is_recovering_parts y.setting (seen y) s is).1)

            was : is_some (joined_after past s) ≡ true
            was = recovery_joined st (entry_of x) past s begun.0 begun.1

            joined : is_joined (seen x) s ≡ true
            joined = k.joined s was both.0

            by : (o : Option Begun) → recovery_of st past s ≡ o → ⊥
            by (Some b) before =
                let recovers_before : is_recovering st past s ≡ true = ap₂ (λ p q. p && is_some q) (joined_wake st past e.reading s was joined) before in
                let none : jobs_of_session st past s ≡ [] = w.facts.quiet.recovering s (subst (λ ss. Contains ss s) (sessions_then st past e.reading) there) recovers_before refl in
                contains_none i (subst (λ ks. Contains ks i) none (job_wake st past e.reading s i (job_at_stop x y s i k inside)))
            by None before =
                let at : begun.0.at ≡ length past = recovery_started st past e.reading s begun.0 before begun.1 in
                let begins : begins_now (seen x) (recovery_of st (seen x) s) ≡ true =
                ap (λ o. begins_now (seen x) o) begun.1 ∙ (ap (λ n. n + 1 == suc (length past)) at ∙ ap (λ n. n == suc (length past)) (plus_one (length past)) ∙ number_itself (suc (length past)))
                in
                stops s i (present_inside st (seen x) s there (joined_present (seen x) s joined)) begins inside
