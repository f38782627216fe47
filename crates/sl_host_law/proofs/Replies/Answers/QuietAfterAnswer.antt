-- Nothing that is due by time is due below the moment that a host keeps, after an answer: what begins by it lowers that moment.
use Rattle.sl_host_law.proofs.SharedFacts.PlainLists.{in_back, in_front}
use Rattle.sl_host_state.specs.HeardInputs.{beginning, hearing, is_over_with, job_hearing, member_hearing, members_hearing, quiet_hearing, renewed_of, shows_other_by}
use Rattle.sl_host_state.specs.KeptState.{HostState, MemberState}
use Rattle.sl_host_state.specs.MadeEffects.{lowered}
use Rattle.sl_host_state.specs.HostStands.{IsQuiet, job_moments, kill_moment, member_moments, recovery_moment}
use Rattle.sl_host_state.specs.declared.kept_parts.JobState.{JobState}
use Rattle.sl_host_state.specs.declared.kept_parts.OpenCall.{OpenCall}
use Rattle.sl_host_state.specs.declared.kept_parts.WaitingCall.{WaitingCall}
use Rattle.sl_host_law.proofs.Replies.MomentsAreLater.{AllFrom, from_both, from_none, job_from, member_from, one_moment, quiet_where}
use Rattle.sl_words.proofs.Lists.{any_of, contains_first, contains_none, in_map, kept_inside}
use Rattle.sl_trace.specs.Sessions.{is_renewal}
use Rattle.sl_trace.specs.declared.session.Begun.{Begun}
use Rattle.sl_trace.specs.declared.session.Renewing.{Renewing}
use Rattle.sl_time.specs.Times.{fail}
use Rattle.sl_trace.specs.declared.input.Answer.TheVariants.{Failed, Read, Written}
use Rattle.sl_trace.specs.declared.input.Answer.{Answer}
use Rattle.sl_words.proofs.CaseLaws.{none_some, some_value}
use Rattle.sl_words.specs.Words.{choose}
use Rattle.std.proofs.Common.{arith, refl, subst, sym}
use Rattle.std.specs.List.{list_any}
use Rattle.std.specs.Prelude.{Bool, Contains, List, None, Option, Some, cond, false, map, min, nat_le, nat_lt, not, true, unwrap_or, [], ℕ, ◌&&◌, ◌++◌, ◌+◌, ◌-◌, ◌==◌, ◌∷◌, ◌≡◌, ◌≤◌}

-- ---- what the answer lowers

lowers_kills : (c : OpenCall) (a : Answer) (h : HostState) → list_any (shows_other_by h c a) h.members ≡ true → quiet_hearing c a h ≤ h.reading + h.config.grace
lowers_kills c a h is = by (list_any (shows_other_by h c a) h.members) is where
  by : (b : Bool) → b ≡ true → min (lowered b (h.reading + h.config.grace) h) (lowered (is_renewal c.purpose) (c.reading + fail h.config.timing) h) ≤ h.reading + h.config.grace
  by true is = least h.quiet_until (h.reading + h.config.grace) (lowered (is_renewal c.purpose) (c.reading + fail h.config.timing) h) where
    least : (q k x : ℕ) → min (min q k) x ≤ k
    least q k x = omega arith
  by false is = absurd cc

lowers_renewal : (c : OpenCall) (a : Answer) (h : HostState) → is_renewal c.purpose ≡ true → quiet_hearing c a h ≤ c.reading + fail h.config.timing
lowers_renewal c a h is = by (is_renewal c.purpose) is where
  by : (b : Bool) → b ≡ true → min (lowered (list_any (shows_other_by h c a) h.members) (h.reading + h.config.grace) h) (lowered b (c.reading + fail h.config.timing) h) ≤ c.reading + fail h.config.timing
  by true is = least h.quiet_until (c.reading + fail h.config.timing) (lowered (list_any (shows_other_by h c a) h.members) (h.reading + h.config.grace) h) where
    least : (q k x : ℕ) → min x (min q k) ≤ k
    least q k x = omega arith
  by false is = absurd cc

never_raised : (c : OpenCall) (a : Answer) (h : HostState) → quiet_hearing c a h ≤ h.quiet_until
never_raised c a h = by (list_any (shows_other_by h c a) h.members) where
  by : (b : Bool) → min (lowered b (h.reading + h.config.grace) h) (lowered (is_renewal c.purpose) (c.reading + fail h.config.timing) h) ≤ h.quiet_until
  by true = least h.quiet_until (h.reading + h.config.grace) (lowered (is_renewal c.purpose) (c.reading + fail h.config.timing) h) where
    least : (q k x : ℕ) → min (min q k) x ≤ q
    least q k x = omega arith
  by false = least h.quiet_until (lowered (is_renewal c.purpose) (c.reading + fail h.config.timing) h) where
    least : (q x : ℕ) → min q x ≤ q
    least q x = omega arith

-- ---- of a member and of a job

renewed_at : (c : OpenCall) (a : Answer) (t : ℕ) → renewed_of c a ≡ Some t → (is_renewal c.purpose ≡ true) × (c.reading ≡ t)
renewed_at c Written t is = by (is_renewal c.purpose) is where
  by : (b : Bool) → choose b c.reading ≡ Some t → (b ≡ true) × (c.reading ≡ t)
  by true is = (refl, some_value c.reading t is)
  by false is = absurd (none_some t is)
renewed_at c (Read bytes) t is = absurd (none_some t is)
renewed_at c Failed t is = absurd (none_some t is)

-- Those of a member that is joined, with these renewals.
abbrev joined_moments : HostState → MemberState → Renewing → List ℕ
joined_moments h m r = recovery_moment h (record m { renewing = r }) ++ kill_moment h r.recovery ++ kill_moment h m.leaving

member_heard : (c : OpenCall) (a : Answer) (h : HostState) (m : MemberState) → Contains h.members m → AllFrom (quiet_hearing c a h) (member_moments h m)
    → AllFrom (quiet_hearing c a h) (member_moments h (member_hearing h c a m))
member_heard c a h m there was = by m.joined refl was where
  q : ℕ
  q = quiet_hearing c a h

  -- Of the parts of a member's.
  front : (xs ys zs : List ℕ) → AllFrom (quiet_hearing c a h) (xs ++ ys ++ zs) → AllFrom (quiet_hearing c a h) xs
  front xs ys zs all t at = all t (in_front (xs ++ ys) zs t (in_front xs ys t at))

  back : (xs ys zs : List ℕ) → AllFrom (quiet_hearing c a h) (xs ++ ys ++ zs) → AllFrom (quiet_hearing c a h) zs
  back xs ys zs all t at = all t (in_back (xs ++ ys) zs t at)

  renewed : (o : Option ℕ) (last : ℕ) → renewed_of c a ≡ o → quiet_hearing c a h ≤ last + fail h.config.timing → quiet_hearing c a h ≤ unwrap_or o last + fail h.config.timing
  renewed None last is le = le
  renewed (Some t) last is le =
      let its = renewed_at c a t is in
      let low : quiet_hearing c a h ≤ c.reading + fail h.config.timing = lowers_renewal c a h its.0 in
      let same : c.reading ≡ t = its.1 in
      omega (arith, low, same)

  by_shows : (shows : Bool) (last : ℕ) → shows_other_by h c a m ≡ shows → AllFrom (quiet_hearing c a h) (((last + fail h.config.timing) ∷ []) ++ [] ++ kill_moment h m.leaving)
      → AllFrom (quiet_hearing c a h) (joined_moments h m (cond shows (beginning h h.entries (record { last = last; recovery = None })) (record { last = unwrap_or (renewed_of c a) last; recovery = None })))
  by_shows true last shows all =
      from_both (quiet_hearing c a h) (kill_moment h (Some (record { at = h.entries - 1; reading = h.reading; kills_from = h.entries }))) (kill_moment h m.leaving)
      (kills (nat_lt h.entries h.entries && nat_le (h.reading + h.config.grace) h.reading)) (back ((last + fail h.config.timing) ∷ []) [] (kill_moment h m.leaving) all) where
        kills : (over : Bool) → AllFrom (quiet_hearing c a h) (cond over [] ((h.reading + h.config.grace) ∷ []))
        kills true t at = absurd (contains_none t at)
        kills false t at = one_moment (quiet_hearing c a h) (h.reading + h.config.grace) t (lowers_kills c a h (any_of (shows_other_by h c a) h.members m shows there)) at
  by_shows false last shows all =
      from_both (quiet_hearing c a h) (((unwrap_or (renewed_of c a) last + fail h.config.timing) ∷ []) ++ []) (kill_moment h m.leaving)
      (λ t at. one_moment (quiet_hearing c a h) (unwrap_or (renewed_of c a) last + fail h.config.timing) t
      (renewed (renewed_of c a) last refl (all (last + fail h.config.timing) (contains_first (last + fail h.config.timing) ([] ++ kill_moment h m.leaving)))) at)
      (back ((last + fail h.config.timing) ∷ []) [] (kill_moment h m.leaving) all)

  -- By how recovery began.
  by_recovery : (last : ℕ) (o : Option Begun) → AllFrom (quiet_hearing c a h) (joined_moments h m (record { last = last; recovery = o }))
      → AllFrom (quiet_hearing c a h) (joined_moments h m (elim o as (λ z. Renewing) [
        | Some b ↦ record { last = last; recovery = o }
        | None ↦ cond (shows_other_by h c a m) (beginning h h.entries (record { last = last; recovery = o })) (record { last = unwrap_or (renewed_of c a) last; recovery = o })
      ]))
  by_recovery last (Some b) all = all
  by_recovery last None all = by_shows (shows_other_by h c a m) last refl all

  by : (joined : Bool) → m.joined ≡ joined → AllFrom (quiet_hearing c a h) (cond joined (joined_moments h m m.renewing) [])
      → AllFrom (quiet_hearing c a h) (cond joined (joined_moments h m (elim m.renewing.recovery as (λ z. Renewing) [
        | Some b ↦ m.renewing
        | None ↦ cond (m.joined && shows_other_by h c a m) (beginning h h.entries m.renewing) (record { last = unwrap_or (renewed_of c a) m.renewing.last; recovery = m.renewing.recovery })
      ])) [])
  by false is all = all
  by true is all =
      subst (λ j. AllFrom (quiet_hearing c a h) (joined_moments h m (elim m.renewing.recovery as (λ z. Renewing) [
        | Some b ↦ m.renewing
        | None ↦ cond (j && shows_other_by h c a m) (beginning h h.entries m.renewing) (record { last = unwrap_or (renewed_of c a) m.renewing.last; recovery = m.renewing.recovery })
      ]))) (sym is) (by_recovery m.renewing.last m.renewing.recovery all)

job_heard : (q n : ℕ) (h : HostState) (j : JobState) → AllFrom q (job_moments h j) → AllFrom q (job_moments h (job_hearing n j))
job_heard q n h j was = by j.waits refl was where
  by_number : (w : WaitingCall) (b : Bool) → AllFrom q (job_moments h j) → AllFrom q (job_moments h (cond b (record j { waits = None }) j))
  by_number w true all = from_none q
  by_number w false all = all

  by : (o : Option WaitingCall) → j.waits ≡ o → AllFrom q (job_moments h j) → AllFrom q (job_moments h (elim o as (λ z. JobState) [ None ↦ j | Some w ↦ cond (w.number == n) (record j { waits = None }) j ]))
  by None is all = all
  by (Some w) is all = by_number w (w.number == n) all

pub quiet_heard : (c : OpenCall) (a : Answer) (h : HostState) → IsQuiet h → IsQuiet (hearing c a h)
quiet_heard c a h quiet = quiet_where (hearing c a h) of_member of_job where
  old_member : (m : MemberState) → Contains h.members m → AllFrom (quiet_hearing c a h) (member_moments h m)
  old_member = member_from (quiet_hearing c a h) h (never_raised c a h) quiet

  by_session : (x : MemberState) (b : Bool) → Contains h.members x → AllFrom (quiet_hearing c a h) (member_moments h (cond b (member_hearing h c a x) x))
  by_session x true there = member_heard c a h x there (old_member x there)
  by_session x false there = old_member x there

  of_member : (m : MemberState) → Contains (members_hearing c a h) m → AllFrom (quiet_hearing c a h) (member_moments h m)
  of_member m there =
      let mapped = kept_inside (λ m. not (is_over_with c.number h m)) (map (λ m. cond (c.session == m.who.number) (member_hearing h c a m) m) h.members) m there in
      let old = in_map (λ (m : MemberState). cond (c.session == m.who.number) (member_hearing h c a m) m) h.members m mapped.0 in
      subst (λ z. AllFrom (quiet_hearing c a h) (member_moments h z)) old.2 (by_session old.0 (c.session == old.0.who.number) old.1)

  of_job : (j : JobState) → Contains (map (job_hearing c.number) h.jobs) j → AllFrom (quiet_hearing c a h) (job_moments h j)
  of_job j there =
      let old = in_map (job_hearing c.number) h.jobs j there in
      subst (λ z. AllFrom (quiet_hearing c a h) (job_moments h z)) old.2
      (job_heard (quiet_hearing c a h) c.number h old.0 (job_from (quiet_hearing c a h) h (never_raised c a h) quiet old.0 old.1))
