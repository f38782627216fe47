-- Below the reading kept a host does nothing before its input.
use Rattle.sl_host_law.proofs.Calls.Beginnings.QuietBegun.{moments_have, quietly}
use Rattle.sl_host_law.proofs.SharedFacts.QuietMoments.{job_quiet, member_quiet}
use Rattle.sl_host_law.specs.Answers.RefusalsFollow.{refusing, timing_out}
use Rattle.sl_host_law.specs.StepParts.Recoveries.{killing, recovering_in}
use Rattle.sl_host_law.specs.StepParts.Refusals.{signalling_and_refusing}
use Rattle.sl_host_law.specs.StepParts.Signals.{over, signalling}
use Rattle.sl_host_law.specs.Questions.Jobs.{is_overdue_in}
use Rattle.sl_host_law.specs.Steps.Passes.{at_job, at_member, for_jobs, for_members, job_with, member_numbered}
use Rattle.sl_host_law.specs.Steps.StepFunction.{before_taking}
use Rattle.sl_host_passes.specs.PassPremises.{BegunBefore}
use Rattle.sl_host_state.specs.StepQuestions.{begins_in, is_kill_due_in}
use Rattle.sl_host_state.specs.HeardInputs.{begun, counted}
use Rattle.sl_host_state.specs.KeptState.{HostState, MemberState}
use Rattle.sl_host_state.specs.HostStands.{IsQuiet, kill_moment, recovery_moment}
use Rattle.sl_host_state.specs.declared.kept_parts.JobState.{JobState}
use Rattle.sl_host_state.specs.declared.kept_parts.WaitingCall.{WaitingCall}
use Rattle.sl_words.proofs.Lists.{contains_first, contains_more, find_inside}
use Rattle.sl_trace.specs.declared.session.Begun.{Begun}
use Rattle.sl_trace.specs.declared.effects.Signal.TheVariants.{Kill}
use Rattle.sl_trace.specs.declared.reply.Reply.TheVariants.{IoTimeout}
use Rattle.std.proofs.Common.{ap, arith, inl, inr, refl, sym, ◌∙◌}
use Rattle.std.specs.Prelude.{Bool, Contains, List, None, Option, Some, cond, false, map, nat_le, nat_lt, not, true, [], ℕ, ◌&&◌, ◌+◌, ◌-◌, ◌<◌, ◌==◌, ◌||◌, ◌∷◌, ◌≡◌, ◌≤◌}

-- A pass that does nothing at each.
over_none : {A : Type 0} (f : A → HostState → HostState) (xs : List A) (h : HostState) → ((x : A) → Contains xs x → f x h ≡ h) → over xs f h ≡ h
over_none f [] h none = refl
over_none f (x ∷ xs) h none = ap (λ g. over xs f g) (none x (contains_first x xs)) ∙ over_none f xs h (λ y there. none y (contains_more x xs y there))

at_none : (f : MemberState → HostState → HostState) (n : ℕ) (h : HostState) → ((m : MemberState) → Contains h.members m → f m h ≡ h) → at_member n f h ≡ h
at_none f n h none = by (member_numbered h n) refl where
  by : (o : Option MemberState) → member_numbered h n ≡ o → elim o as (λ z. HostState) [ None ↦ h | Some m ↦ f m h ] ≡ h
  by None is = refl
  by (Some m) is = none m (find_inside (λ (z : MemberState). z.who.number == n) h.members m is).0

at_no_job : (f : JobState → HostState → HostState) (n : ℕ) (h : HostState) → ((j : JobState) → Contains h.jobs j → f j h ≡ h) → at_job n f h ≡ h
at_no_job f n h none = by (job_with h n) refl where
  by : (o : Option JobState) → job_with h n ≡ o → elim o as (λ z. HostState) [ None ↦ h | Some j ↦ f j h ] ≡ h
  by None is = refl
  by (Some j) is = none j (find_inside (λ (z : JobState). z.number == n) h.jobs j is).0

module _ (now : ℕ) (h : HostState) (below : now < h.quiet_until) (quiet : IsQuiet h) (before : BegunBefore h.members h.entries) where
  abbrev g : HostState
  g = counted now h

  not_now : (n at : ℕ) → at < n → (at + 1 == n + 1) ≡ false
  not_now n at less = grind (arith, less)

  -- ---- recoveries

  began : (m : MemberState) → Contains h.members m → begins_in g m.renewing.recovery ≡ false
  began m there = by m.renewing.recovery refl where
    by : (o : Option Begun) → m.renewing.recovery ≡ o → begins_in g o ≡ false
    by None is = refl
    by (Some b) is = not_now h.entries b.at (before m b there is)

  none_recovers : for_members recovering_in g ≡ g
  none_recovers =
      over_none (λ n. at_member n recovering_in) (map (λ (m : MemberState). m.who.number) h.members) g (λ n there.
      at_none recovering_in n g (λ m its. ap (λ b. cond b (signalling_and_refusing m None g) g) (began m its)))

  -- ---- kills

  not_due : (o : Option Begun) → ((t : ℕ) → Contains (kill_moment h o) t → h.quiet_until ≤ t) → is_kill_due_in g o ≡ false
  not_due None at = refl
  not_due (Some b) at =
      ap (λ n. nat_le b.kills_from n && nat_le (b.reading + h.config.grace) now && not (nat_lt b.kills_from n && nat_le (b.reading + h.config.grace) h.reading)) steps
      ∙ by (nat_lt b.kills_from h.entries && nat_le (b.reading + h.config.grace) h.reading) at where
        steps : h.entries + 1 - 1 ≡ h.entries
        steps = omega arith

        never : (p q : Bool) → (p && q && false) ≡ false
        never true true = refl
        never true false = refl
        never false q = refl

        sooner : (p : Bool) (t q : ℕ) → now < q → q ≤ t → (p && nat_le t now && true) ≡ false
        sooner p t q less least = grind (arith, less, least)

        by : (p : Bool) → ((t : ℕ) → Contains (cond p [] ((b.reading + h.config.grace) ∷ [])) t → h.quiet_until ≤ t)
            → (nat_le b.kills_from h.entries && nat_le (b.reading + h.config.grace) now && not p) ≡ false
        by true at = never (nat_le b.kills_from h.entries) (nat_le (b.reading + h.config.grace) now)
        by false at =
            sooner (nat_le b.kills_from h.entries) (b.reading + h.config.grace) h.quiet_until below (at (b.reading + h.config.grace) (contains_first (b.reading + h.config.grace) []))

  not_killed : (m : MemberState) → Contains h.members m → (m.joined && (is_kill_due_in g m.renewing.recovery || is_kill_due_in g m.leaving)) ≡ false
  not_killed m there = by m.joined refl where
    moment : m.joined ≡ true → (t : ℕ) → Contains (kill_moment h m.renewing.recovery) t → h.quiet_until ≤ t
    moment is t at =
        member_quiet h m t quiet there (moments_have m.joined (recovery_moment h m) (kill_moment h m.renewing.recovery) (kill_moment h m.leaving) t is (inr (inl at)))

    leaving : m.joined ≡ true → (t : ℕ) → Contains (kill_moment h m.leaving) t → h.quiet_until ≤ t
    leaving is t at =
        member_quiet h m t quiet there (moments_have m.joined (recovery_moment h m) (kill_moment h m.renewing.recovery) (kill_moment h m.leaving) t is (inr (inr at)))

    by : (b : Bool) → m.joined ≡ b → (b && (is_kill_due_in g m.renewing.recovery || is_kill_due_in g m.leaving)) ≡ false
    by false is = refl
    by true is = ap (λ c. c || is_kill_due_in g m.leaving) (not_due m.renewing.recovery (moment is)) ∙ not_due m.leaving (leaving is)

  none_killed : over g.members killing g ≡ g
  none_killed = over_none killing h.members g (λ m there. ap (λ b. cond b (signalling Kill m g) g) (not_killed m there))

  -- ---- calls

  in_time : (j : JobState) → Contains h.jobs j → timing_out j g ≡ g
  in_time j there = by j.waits (λ t at. job_quiet h j t quiet there at) where
    sooner : (t q : ℕ) → now < q → q ≤ t → nat_le t now ≡ false
    sooner t q less least = grind (arith, less, least)

    by : (o : Option WaitingCall) → ((t : ℕ) → Contains (elim o as (λ z. List ℕ) [ None ↦ [] | Some c ↦ (c.reading + h.config.timing.io) ∷ [] ]) t → h.quiet_until ≤ t)
        → elim o as (λ z. HostState) [ None ↦ g | Some c ↦ cond (is_overdue_in g c) (refusing j.number (IoTimeout c.number c.reading g.reading) g) g ] ≡ g
    by None at = refl
    by (Some c) at =
        ap (λ b. cond b (refusing j.number (IoTimeout c.number c.reading g.reading) g) g)
        (sooner (c.reading + h.config.timing.io) h.quiet_until below (at (c.reading + h.config.timing.io) (contains_first (c.reading + h.config.timing.io) [])))

  none_times_out : for_jobs timing_out g ≡ g
  none_times_out =
      over_none (λ n. at_job n timing_out) (map (λ (j : JobState). j.number) h.jobs) g (λ n there. at_no_job timing_out n g (λ j its. in_time j its))

  -- ---- all of them

  nothing_before : before_taking g ≡ g
  nothing_before =
      ap (λ (a : HostState). for_jobs timing_out (over a.members killing a)) none_recovers ∙ (ap (for_jobs timing_out) none_killed ∙ none_times_out)

  pub quiet_before : before_taking (begun now h) ≡ begun now h
  quiet_before =
      let is : begun now h ≡ g = quietly h now below quiet in
      ap before_taking is ∙ (nothing_before ∙ sym is)
