-- Nothing that is due by time is due below the moment that a host keeps, after a reply: a joining that is done brings the moment of its
-- recovery, and lowers it to that.
use Rattle.sl_host_state.specs.KeptState.{HostState, MemberState}
use Rattle.sl_host_state.specs.MadeEffects.{has_write_open, joined_moments, member_answered, member_replying, with_reply}
use Rattle.sl_host_state.specs.HostStands.{IsQuiet, is_joining, job_moments, kill_moment, member_moments, recovery_moment}
use Rattle.sl_host_state.specs.declared.kept_parts.JobState.{JobState}
use Rattle.sl_host_law.proofs.SharedFacts.PlainLists.{in_flat}
use Rattle.sl_words.proofs.Lists.{contains_cases, contains_map, contains_none, kept, kept_inside}
use Rattle.sl_host_law.proofs.Replies.MomentsAreLater.{AllFrom, job_from, member_from, one_moment, quiet_where}
use Rattle.sl_trace.specs.Sessions.{is_join_done}
use Rattle.sl_trace.specs.declared.session.Begun.{Begun}
use Rattle.sl_time.specs.Times.{fail}
use Rattle.sl_trace.specs.declared.reply.Reply.{Reply}
use Rattle.sl_words.specs.Words.{some_is}
use Rattle.std.proofs.Common.{arith, inl, inr, refl, subst, sym}
use Rattle.std.specs.Prelude.{Bool, Contains, List, None, Option, cond, false, filter, flat_map, fold, map, min, not, true, [], ℕ, ◌&&◌, ◌++◌, ◌+◌, ◌==◌, ◌∷◌, ◌≡◌, ◌≤◌, ◌⊎◌}

-- The least of a number and of these.
abbrev lowest : ℕ → List ℕ → ℕ
lowest q ts = fold (λ p t. min p t) q ts

lowest_first : (q : ℕ) (ts : List ℕ) → lowest q ts ≤ q
lowest_first q [] = omega arith
lowest_first q (t ∷ ts) = let le = lowest_first (min q t) ts in omega (arith, le)

lowest_each : (q : ℕ) (ts : List ℕ) → AllFrom (lowest q ts) ts
lowest_each q [] t there = absurd (contains_none t there)
lowest_each q (s ∷ ts) t there = by (contains_cases s ts t there) (λ at. lowest_each (min q s) ts t at) where
  by : (s ≡ t) ⊎ Contains ts t → (Contains ts t → lowest (min q s) ts ≤ t) → lowest (min q s) ts ≤ t
  by (inl is) deeper = let le = lowest_first (min q s) ts in omega (arith, le, is)
  by (inr at) deeper = deeper at

-- A member that is joined now has one moment, that of its recovery.
module _ (h : HostState) (job : ℕ) (r : Reply) where
  abbrev low : ℕ
  low = lowest h.quiet_until (joined_moments h job r)

  is_lowest : low ≤ h.quiet_until
  is_lowest = lowest_first h.quiet_until (joined_moments h job r)

  joins : (m : MemberState) → Contains h.members m → some_is (λ j. j == job) m.who.job ≡ true → is_join_done r ≡ true → low ≤ m.renewing.last + fail h.config.timing
  joins m there its done =
      lowest_each h.quiet_until (joined_moments h job r) (m.renewing.last + fail h.config.timing)
      (subst (λ b. Contains (cond b (map (λ m. m.renewing.last + fail h.config.timing) (filter (λ m. some_is (λ j. j == job) m.who.job) h.members)) []) (m.renewing.last + fail h.config.timing)) (sym done)
      (contains_map (λ (m : MemberState). m.renewing.last + fail h.config.timing) (filter (λ m. some_is (λ j. j == job) m.who.job) h.members) m (kept (λ (m : MemberState). some_is (λ j. j == job) m.who.job) h.members m its there)))

  -- What is asked of a member that the reply joins.
  abbrev NotBegun : MemberState → Type 0
  NotBegun m = some_is (λ j. j == job) m.who.job ≡ true → (m.renewing.recovery ≡ None) × (m.leaving ≡ None)

  joined_from : (m : MemberState) → Contains h.members m → some_is (λ j. j == job) m.who.job ≡ true → is_join_done r ≡ true → NotBegun m → AllFrom low (member_moments h (record m { joined = true }))
  joined_from m there its done not_begun t at =
      let none = not_begun its in
      one_moment low (m.renewing.last + fail h.config.timing) t (joins m there its done)
      (subst (λ (o : Option Begun). Contains (recovery_moment h (record m { renewing = record { last = m.renewing.last; recovery = None } }) ++ kill_moment h None ++ kill_moment h o) t) none.1
      (subst (λ (o : Option Begun). Contains (recovery_moment h (record m { renewing = record { last = m.renewing.last; recovery = o } }) ++ kill_moment h o ++ kill_moment h m.leaving) t) none.0 at))

  answered_from : (m : MemberState) → Contains h.members m → some_is (λ j. j == job) m.who.job ≡ true → NotBegun m → AllFrom low (member_moments h m) → (x : MemberState)
      → Contains (member_answered h r m) x → AllFrom low (member_moments h x)
  answered_from m there its not_begun old x at = by (is_join_done r) refl (has_write_open h m.who.number) at where
    by : (done : Bool) → is_join_done r ≡ done → (writes : Bool) → Contains (cond done (record m { joined = true } ∷ []) (cond writes (record m { refused = true } ∷ []) [])) x → AllFrom low (member_moments h x)
    by true is writes at = one (contains_cases (record m { joined = true }) [] x at) where
      one : (record m { joined = true } ≡ x) ⊎ Contains [] x → AllFrom low (member_moments h x)
      one (inl same) = subst (λ (z : MemberState). AllFrom low (member_moments h z)) same (joined_from m there its is not_begun)
      one (inr none) = absurd (contains_none x none)
    by false is true at = one (contains_cases (record m { refused = true }) [] x at) where
      one : (record m { refused = true } ≡ x) ⊎ Contains [] x → AllFrom low (member_moments h x)
      one (inl same) = subst (λ (z : MemberState). AllFrom low (member_moments h z)) same old
      one (inr none) = absurd (contains_none x none)
    by false is false at = absurd (contains_none x at)

  member_replied_quiet : (m : MemberState) → Contains h.members m → NotBegun m → AllFrom low (member_moments h m) → (x : MemberState) → Contains (member_replying h job r m) x → AllFrom low (member_moments h x)
  member_replied_quiet m there not_begun old x at = by (is_joining m) (some_is (λ j. j == job) m.who.job) refl at where
    one : (m ≡ x) ⊎ Contains [] x → AllFrom low (member_moments h x)
    one (inl same) = subst (λ (z : MemberState). AllFrom low (member_moments h z)) same old
    one (inr none) = absurd (contains_none x none)

    by : (joining its : Bool) → some_is (λ j. j == job) m.who.job ≡ its → Contains (cond (joining && its) (member_answered h r m) (m ∷ [])) x → AllFrom low (member_moments h x)
    by true true is at = answered_from m there is not_begun old x at
    by true false is at = one (contains_cases m [] x at)
    by false its is at = one (contains_cases m [] x at)

  pub quiet_replied : IsQuiet h → ((m : MemberState) → Contains h.members m → NotBegun m) → IsQuiet (with_reply job r h)
  quiet_replied quiet not_begun = quiet_where (with_reply job r h) of_member of_job where
    of_member : (x : MemberState) → Contains (flat_map (member_replying h job r) h.members) x → AllFrom low (member_moments h x)
    of_member x at =
        let old = in_flat (member_replying h job r) h.members x at in
        member_replied_quiet old.0 old.1 (not_begun old.0 old.1) (member_from low h is_lowest quiet old.0 old.1) x old.2

    of_job : (j : JobState) → Contains (filter (λ j. not (j.number == job)) h.jobs) j → AllFrom low (job_moments h j)
    of_job j at = job_from low h is_lowest quiet j (kept_inside (λ (j : JobState). not (j.number == job)) h.jobs j at).0
