-- An answer that is told part by part is heard as the state functions say.
use Rattle.sl_area.specs.AreaSizes.{Layout, layout_of}
use Rattle.sl_area.specs.AreaLayout.{blocks_part}
use Rattle.sl_area.specs.Pairs.{needs_again, pairs_kept}
use Rattle.sl_host_state.specs.HeardInputs.{hearing, heard_answer, is_heeded_by, job_hearing, kept_heard, lease_told, member_hearing, members_hearing, quiet_hearing, setting_of, shows_other_by, turn_heard}
use Rattle.sl_host_state.specs.KeptState.{HostState, LeaseState, MemberState}
use Rattle.sl_host_state.specs.MadeEffects.{is_lease_on, lowered}
use Rattle.sl_host_state.specs.declared.kept_parts.JobState.{JobState}
use Rattle.sl_host_state.specs.declared.kept_parts.OpenCall.{OpenCall}
use Rattle.sl_host_state.specs.declared.kept_parts.WaitingCall.{WaitingCall}
use Rattle.sl_lease.specs.LeaseQuestions.{leader_given, read_given}
use Rattle.sl_lease.specs.Changes.{after_failure, after_write}
use Rattle.sl_lease.specs.Laws.{IsGiven, first_by}
use Rattle.sl_member.proofs.HostsHear.{hosts_keep_the_same}
use Rattle.sl_member.proofs.PartsHear.{parts_hear}
use Rattle.sl_member.proofs.LeasesByPlace.{none_changed}
use Rattle.sl_member.proofs.SpotOrder.{spot_is, spot_past}
use Rattle.sl_member.specs.Laws.{IsAwaited, area_of_call, heard_by_parts, open_for}
use Rattle.sl_member.specs.Leases.{AreByPlace, changed_at, first_among, first_if_second, kept_shown, read_shown}
use Rattle.sl_member.specs.Members.{IsKnown, RunOf, lease_changed, own_told}
use Rattle.sl_member.specs.HostMembers.{AreApart, changed_member, member_with, side_with}
use Rattle.sl_sector.specs.declared.sector.Block.{Block}
use Rattle.sl_sector.specs.declared.sector.Leader.{Leader}
use Rattle.sl_sector.specs.declared.sector.PairBlock.{PairBlock}
use Rattle.sl_trace.specs.LeaseDecisions.{asked_again, first_step, part_read}
use Rattle.sl_trace.specs.declared.effects.LeaseRead.TheVariants.{OfArea, OfBlock, OfFree, OfPhase1, OfPhase2}
use Rattle.sl_trace.specs.declared.effects.LeaseRead.{LeaseRead}
use Rattle.sl_trace.specs.declared.effects.LeaseStep.TheVariants.{Phase1Read, Phase2Read, ReadArea, ReadBeforeBlock, ReadBeforeFree}
use Rattle.sl_trace.specs.Sessions.{is_renewal, is_survey_purpose, shows_other_in}
use Rattle.sl_tables.specs.Jobs.{changed}
use Rattle.sl_time.specs.Times.{fail}
use Rattle.sl_trace.specs.Leases.{is_second, is_spot_before, lease_step}
use Rattle.sl_trace.specs.Traces.{bytes_given, job_of, same_spot}
use Rattle.sl_trace.specs.declared.command.Command.{Command}
use Rattle.sl_trace.specs.declared.effects.LeaseStep.{LeaseStep}
use Rattle.sl_trace.specs.declared.effects.Purpose.TheVariants.{Joining, Lease, Leaving, Renewal, RequestRead, RequestWrite, SeeRequest, Survey, ValueRead, ValueWrite}
use Rattle.sl_trace.specs.declared.effects.Purpose.{Purpose}
use Rattle.sl_trace.specs.declared.effects.Spot.{Spot}
use Rattle.sl_trace.specs.declared.effects.Work.{Work}
use Rattle.sl_trace.specs.declared.input.Answer.TheVariants.{Failed, Read, Written}
use Rattle.sl_trace.specs.declared.input.Answer.{Answer}
use Rattle.sl_host.proofs.AnswersTold.{changed_as, none_changed as all_same, the_member}
use Rattle.sl_host.proofs.HostStands.{same_run}
use Rattle.sl_host.specs.BookQuestions.{state_in}
use Rattle.sl_host.specs.Books.{BooksState, books_hearing, host_of, kept_of}
use Rattle.sl_host.specs.HeardAnswers.{AreWaiting, IsTold, LeaseAwaits, MayHear, MemberAwaits, begun_at, first_to, is_over_in, is_own_purpose, is_untold, lease_heard, others_in, own_heard, request_heard, shows_at, survey_heard, turn_to}
use Rattle.sl_host.specs.declared.told_answers.Told.TheVariants.{Again, Gave}
use Rattle.sl_host.specs.declared.told_answers.Told.{Told}
use Rattle.sl_words.proofs.CaseLaws.{some_value}
use Rattle.sl_words.specs.Words.{choose, some_is}
use Rattle.std.proofs.Common.{ap, arith, refl, subst, sym, true≢false, ◌∙◌}
use Rattle.std.proofs.Math.Nat.{min-eq_left, min-eq_right, min-le_left}
use Rattle.std.specs.Cmp.{nat_eq_equiv}
use Rattle.std.specs.List.{AllByRecursion, list_any}
use Rattle.std.specs.Prelude.{Bool, Contains, List, None, Option, Result, Some, [], cond, false, filter, find, is_some, map, min, not, option_and_then, true, unwrap_or, ℕ, ◌&&◌, ◌+◌, ◌==◌, ◌∷◌, ◌||◌, ◌≡◌}

none_true : {A : Type 0} → false ≡ true → A
none_true h = absurd (true≢false (sym h))

-- ---- jobs

heard_job : (number : ℕ) (j : JobState) → job_hearing number j ≡ cond (some_is (λ w. w.number == number) j.waits) (record j { waits = None }) j
heard_job number j = by j.waits
  where
    by : (o : Option WaitingCall) → (let r : JobState = elim o [ None ↦ j | Some w ↦ cond (w.number == number) (record j { waits = None }) j ] in r) ≡ cond (some_is (λ w. w.number == number) o) (record j { waits = None }) j
    by None = refl
    by (Some w) = refl

pub jobs_heard : (c : OpenCall) (n : ℕ) (js : List JobState) → job_of c.purpose ≡ Some n → AreWaiting c js → changed n (λ j. record j { waits = None }) js ≡ map (job_hearing c.number) js
jobs_heard c n [] is waits = refl
jobs_heard c n (j ∷ js) is waits =
    ap (λ b. cond b (record j { waits = None }) j ∷ changed n (λ j. record j { waits = None }) js) (nat_eq_equiv.symm j.number n ∙ (sym (ap (λ o. some_is (λ k. k == j.number) o) is) ∙ sym waits.0))
    ∙ (ap (λ k. k ∷ changed n (λ j. record j { waits = None }) js) (sym (heard_job c.number j)) ∙ ap (λ ks. job_hearing c.number j ∷ ks) (jobs_heard c n js is waits.1))

pub no_job_heard : (c : OpenCall) (js : List JobState) → job_of c.purpose ≡ None → AreWaiting c js → js ≡ map (job_hearing c.number) js
no_job_heard c [] is waits = refl
no_job_heard c (j ∷ js) is waits =
    sym (ap (λ b. cond b (record j { waits = None }) j ∷ js) (waits.0 ∙ ap (λ o. some_is (λ k. k == j.number) o) is))
    ∙ (ap (λ k. k ∷ js) (sym (heard_job c.number j)) ∙ ap (λ ks. job_hearing c.number j ∷ ks) (no_job_heard c js is waits.1))

-- ---- what a member hears, by purpose

-- Of a host that reads lines so.
awaited_in : (h : HostState) (c : OpenCall) (a : Answer) (m : MemberState) → IsAwaited h c m → member_hearing h c a m ≡ heard_by_parts h c a m
awaited_in h c a m w = hosts_keep_the_same.hearing h c a m w

own_parts : (h : HostState) (c : OpenCall) (a : Answer) (m : MemberState) (p : Purpose) → IsKnown m → is_own_purpose p ≡ true
    → heard_by_parts h (open_for c p) a m ≡ own_heard (open_for c p) a (begun_at h.reading h.entries) h.reading m
own_parts h c a m (Joining j step) known own = parts_hear.joining h c a m j step
own_parts h c a m Renewal known own = parts_hear.renewal h c a m
own_parts h c a m (Leaving j) known own = parts_hear.leaving h c a m j known
own_parts h c a m Survey known own = none_true own
own_parts h c a m (Lease work step) known own = none_true own
own_parts h c a m (RequestRead j) known own = none_true own
own_parts h c a m (RequestWrite j owner) known own = none_true own
own_parts h c a m SeeRequest known own = none_true own
own_parts h c a m (ValueWrite j) known own = none_true own
own_parts h c a m (ValueRead j) known own = none_true own

own_member : (h : HostState) (c : OpenCall) (a : Answer) (m : MemberState) → IsAwaited h c m → IsKnown m → is_own_purpose c.purpose ≡ true
    → own_heard c a (begun_at h.reading h.entries) h.reading m ≡ member_hearing h c a m
own_member h c a m w known own = sym (awaited_in h c a m w ∙ own_parts h c a m c.purpose known own)

untold_parts : (h : HostState) (c : OpenCall) (a : Answer) (m : MemberState) (p : Purpose) → IsKnown m → is_untold p a ≡ true → heard_by_parts h (open_for c p) a m ≡ m
untold_parts h c a m (Joining j step) known none = none_true none
untold_parts h c a m Renewal known none = none_true none
untold_parts h c a m (Leaving j) known none = none_true none
untold_parts h c a m Survey known none = none_true none
untold_parts h c a m (Lease work step) known none = none_true none
untold_parts h c a m (RequestRead j) known none = parts_hear.request_read h c a m j known
untold_parts h c (Read bytes) m (RequestWrite j owner) known none = none_true none
untold_parts h c Written m (RequestWrite j owner) known none = none_true none
untold_parts h c Failed m (RequestWrite j owner) known none = parts_hear.request_write h c Failed m j owner known ∙ by owner
  where
    by : (o : Option ℕ) → record m { asked = elim o [ None ↦ m.asked | Some k ↦ m.asked ] } ≡ m
    by None = refl
    by (Some k) = refl
untold_parts h c a m SeeRequest known none = parts_hear.see_request h c a m known
untold_parts h c a m (ValueWrite j) known none = parts_hear.value_write h c a m j known
untold_parts h c a m (ValueRead j) known none = parts_hear.value_read h c a m j known

-- ---- a lease's call

none_after : (at : Spot) (l : LeaseState) (ls : List LeaseState) → is_lease_on at l ≡ true → AllByRecursion (λ k. is_spot_before l.spot k.spot ≡ true) ls
    → AllByRecursion (λ k. is_lease_on at k ≡ false) ls
none_after at l [] on rising = tt
none_after at l (k ∷ ks) on rising =
    (subst (λ s. same_spot s k.spot ≡ false) (sym (spot_is at l.spot on)) (spot_past l.spot k.spot rising.0), none_after at l ks on rising.1)

-- Of leases by place one alone is on an area: what changes it so changes all so.
changed_so : (at : Spot) (f g : LeaseState → LeaseState) (ls : List LeaseState) (l : LeaseState) → AreByPlace ls → find (is_lease_on at) ls ≡ Some l → f l ≡ g l → changed_at at f ls ≡ changed_at at g ls
changed_so at f g [] l rising found same = refl
changed_so at f g (k ∷ ks) l rising found same = by (is_lease_on at k) refl found (λ later. changed_so at f g ks l rising.1 later same)
  where
    by : (b : Bool) → is_lease_on at k ≡ b → cond b (Some k) (find (is_lease_on at) ks) ≡ Some l → (find (is_lease_on at) ks ≡ Some l → changed_at at f ks ≡ changed_at at g ks)
        → cond b (f k) k ∷ changed_at at f ks ≡ cond b (g k) k ∷ changed_at at g ks
    by true on here rest =
        let none = none_after at k ks on rising.0 in
        ap (λ zs. f k ∷ zs) (none_changed at f ks none ∙ sym (none_changed at g ks none)) ∙ ap (λ x. x ∷ changed_at at g ks) (ap f (some_value k l here) ∙ (same ∙ sym (ap g (some_value k l here))))
    by false on later rest = ap (λ zs. k ∷ zs) (rest later)

-- A member whose lease on the call's area makes this of its answer.
lease_member : (h : HostState) (c : OpenCall) (a : Answer) (m : MemberState) (work : Work) (step : LeaseStep) (f : LeaseState → LeaseState) (l : LeaseState) → IsAwaited h c m → IsKnown m → c.purpose ≡ Lease work step
    → AreByPlace m.leases → find (is_lease_on (area_of_call h.config.layout c)) m.leases ≡ Some l → lease_told h m (is_heeded_by h c) c a l ≡ f l
    → lease_changed (area_of_call h.config.layout c) f m ≡ member_hearing h c a m
lease_member h c a m work step f l w known is rising found told =
    let at : Spot = area_of_call h.config.layout c in
    let so : c ≡ open_for c (Lease work step) = ap (open_for c) is in
    ap (λ zs. record m { leases = zs }) (sym (changed_so at (lease_told h m (is_heeded_by h c) c a) f m.leases l rising found told))
    ∙ (sym (ap (λ d. heard_by_parts h d a m) so ∙ (parts_hear.lease h c a m work step known ∙ sym (ap (λ d. lease_changed at (lease_told h m (is_heeded_by h d) d a) m) so)))
    ∙ sym (awaited_in h c a m w))

-- ---- below which reading nothing is due

none_shows : (h : HostState) (c : OpenCall) (a : Answer) (ms : List MemberState) → is_survey_purpose c.purpose ≡ false → list_any (shows_other_by h c a) ms ≡ false
none_shows h c a [] off = refl
none_shows h c a (m ∷ ms) off = ap (λ b. (b && some_is (shows_other_in (setting_of h) m.who.id m.known.generation) (bytes_given a)) || list_any (shows_other_by h c a) ms) off ∙ none_shows h c a ms off

min_same : (q : ℕ) → q ≡ min q q
min_same q = sym (min-eq_left {n = q} {m = q} (omega arith))

-- After an answer by which no recovery begins.
quiet_plain : (c : OpenCall) (a : Answer) (h : HostState) → is_survey_purpose c.purpose ≡ false
    → cond (is_renewal c.purpose) (min h.quiet_until (c.reading + fail h.config.timing)) h.quiet_until ≡ quiet_hearing c a h
quiet_plain c a h off =
    by (is_renewal c.purpose) ∙ sym (ap (λ b. min (lowered b (h.reading + h.config.grace) h) (lowered (is_renewal c.purpose) (c.reading + fail h.config.timing) h)) (none_shows h c a h.members off))
  where
    q : ℕ
    q = h.quiet_until

    by : (b : Bool) → cond b (min q (c.reading + fail h.config.timing)) q ≡ min q (cond b (min q (c.reading + fail h.config.timing)) q)
    by true = sym (min-eq_right {n = min q (c.reading + fail h.config.timing)} {m = q} (min-le_left q (c.reading + fail h.config.timing)))
    by false = min_same q

-- After one that tells of no renewal either.
quiet_stays : (c : OpenCall) (a : Answer) (h : HostState) → is_survey_purpose c.purpose ≡ false → is_renewal c.purpose ≡ false → h.quiet_until ≡ quiet_hearing c a h
quiet_stays c a h off none = sym (ap (λ b. cond b (min h.quiet_until (c.reading + fail h.config.timing)) h.quiet_until) none) ∙ quiet_plain c a h off

-- ---- purposes

own_plain : (p : Purpose) → is_own_purpose p ≡ true → is_survey_purpose p ≡ false
own_plain (Joining j step) own = refl
own_plain Renewal own = refl
own_plain (Leaving j) own = refl
own_plain Survey own = none_true own
own_plain (Lease work step) own = none_true own
own_plain (RequestRead j) own = none_true own
own_plain (RequestWrite j owner) own = none_true own
own_plain SeeRequest own = none_true own
own_plain (ValueWrite j) own = none_true own
own_plain (ValueRead j) own = none_true own

untold_plain : (p : Purpose) (a : Answer) → is_untold p a ≡ true → is_survey_purpose p ≡ false
untold_plain (Joining j step) a none = none_true none
untold_plain Renewal a none = none_true none
untold_plain (Leaving j) a none = none_true none
untold_plain Survey a none = none_true none
untold_plain (Lease work step) a none = none_true none
untold_plain (RequestRead j) a none = refl
untold_plain (RequestWrite j owner) a none = refl
untold_plain SeeRequest a none = refl
untold_plain (ValueWrite j) a none = refl
untold_plain (ValueRead j) a none = refl

untold_counts : (p : Purpose) (a : Answer) → is_untold p a ≡ true → is_renewal p ≡ false
untold_counts (Joining j step) a none = none_true none
untold_counts Renewal a none = none_true none
untold_counts (Leaving j) a none = none_true none
untold_counts Survey a none = none_true none
untold_counts (Lease work step) a none = none_true none
untold_counts (RequestRead j) a none = refl
untold_counts (RequestWrite j owner) a none = refl
untold_counts SeeRequest a none = refl
untold_counts (ValueWrite j) a none = refl
untold_counts (ValueRead j) a none = refl

abbrev step_in : LeaseStep → Purpose → LeaseStep
step_in s (Lease work step) = step
step_in s p = s

lease_step_is : (w v : Work) (s t : LeaseStep) → Lease w s ≡ Lease v t → s ≡ t
lease_step_is w v s t is = ap (step_in s) is

-- ---- a lease's read

-- A read that is to be made once more gives something to keep.
none_again : (b : Bool) → is_some (elim b as (λ v. Option LeaseRead) [ false ↦ None | true ↦ None ]) ≡ true → ⊥
none_again true h = true≢false (sym h)
none_again false h = true≢false (sym h)

kept_again : (b : Bool) (read : LeaseRead) (pairs : List (Option PairBlock)) → is_some (elim b as (λ v. Option LeaseRead) [ false ↦ None | true ↦ Some read ]) ≡ true
    → choose b pairs ≡ Some pairs
kept_again true read pairs h = refl
kept_again false read pairs h = none_true h

asked_keeps : (g : Layout) (step : LeaseStep) (bytes : List ℕ) → is_some (asked_again g bytes step) ≡ true
    → kept_heard g step (Read bytes) ≡ Some (pairs_kept g (part_read g bytes (first_step step)))
asked_keeps g (ReadArea name) bytes h = kept_again (needs_again g (blocks_part g bytes)) (OfArea name) (pairs_kept g (blocks_part g bytes)) h
asked_keeps g ReadBeforeFree bytes h = kept_again (needs_again g (blocks_part g bytes)) OfFree (pairs_kept g (blocks_part g bytes)) h
asked_keeps g ReadBeforeBlock bytes h = kept_again (needs_again g bytes) OfBlock (pairs_kept g bytes) h
asked_keeps g Phase1Read bytes h = kept_again (needs_again g bytes) OfPhase1 (pairs_kept g bytes) h
asked_keeps g Phase2Read bytes h = kept_again (needs_again g bytes) OfPhase2 (pairs_kept g bytes) h
asked_keeps g step bytes h = absurd (none_again (needs_again g bytes) h)

none_asked : (o : Option LeaseRead) → is_some o ≡ false → o ≡ None
none_asked None h = refl
none_asked (Some read) h = absurd (true≢false h)

-- What is kept for a second read, by the one and the other way to ask for it.
first_is_by : (b : Bool) (first : Option (List (Option PairBlock))) → cond b (unwrap_or first []) [] ≡ unwrap_or (cond b first None) []
first_is_by true first = refl
first_is_by false first = refl

-- ---- the whole

-- Members of whom each that made the call has heard its answer, the tables without it, and this moment: the host that hears it.
whole : (read : List ℕ → Result Command ℕ) (ms ns : List MemberState) (b : BooksState) (c : OpenCall) (a : Answer) (f : MemberState → MemberState) (q : ℕ) → MayHear (kept_of ms b) c
    → ((m : MemberState) → Contains ms m → (c.session == m.who.number) ≡ true → f m ≡ member_hearing (host_of read ms b) c a m)
    → ns ≡ filter (λ m. not (is_over_in (others_in c.number b.unanswered) m)) (changed_member c.session f ms) → q ≡ quiet_hearing c a (host_of read ms b)
    → host_of read ns (record (books_hearing c.number b) { quiet_until = q }) ≡ heard_answer c.number a (host_of read ms b)
whole read ms ns b c a f q may told made quiet =
    let h : HostState = host_of read ms b in
    let so : ns ≡ members_hearing c a h =
    made ∙ ap (λ zs. filter (λ m. not (is_over_in (others_in c.number b.unanswered) m)) zs) (changed_as c.session f (member_hearing h c a) ms told) in
    (λ i. host_of read (so i) (record (books_hearing c.number b) { quiet_until = quiet i }))
    ∙ sym (ap (λ o. elim o [ None ↦ h | Some d ↦ hearing d a h ]) may.is_open)

module _ (read : List ℕ → Result Command ℕ) (ms : List MemberState) (b : BooksState) (c : OpenCall) (may : MayHear (kept_of ms b) c) where
  abbrev the_host : HostState
  the_host = host_of read ms b

  awaits : (m : MemberState) → Contains ms m → (c.session == m.who.number) ≡ true → MemberAwaits (state_in (kept_of ms b)) c m
  awaits m there its = may.members m there its

  awaited_here : (m : MemberState) → MemberAwaits (state_in (kept_of ms b)) c m → IsAwaited the_host c m
  awaited_here m w = record { busy = w.awaited.busy; leases = w.awaited.leases }

  pub own_whole : (ns : List MemberState) (a : Answer) (q : ℕ) → is_own_purpose c.purpose ≡ true
      → ns ≡ filter (λ m. not (is_over_in (others_in c.number b.unanswered) m)) (changed_member c.session (own_heard c a (begun_at b.reading b.entries) b.reading) ms)
      → q ≡ cond (is_renewal c.purpose) (min b.quiet_until (c.reading + fail b.config.timing)) b.quiet_until
      → host_of read ns (record (books_hearing c.number b) { quiet_until = q }) ≡ heard_answer c.number a the_host
  own_whole ns a q own made quiet =
      whole read ms ns b c a (own_heard c a (begun_at b.reading b.entries) b.reading) q may
      (λ m there its. let w = awaits m there its in own_member the_host c a m (awaited_here m w) w.known own) made (quiet ∙ quiet_plain c a the_host (own_plain c.purpose own))

  pub untold_whole : (ns : List MemberState) (a : Answer) → is_untold c.purpose a ≡ true → ns ≡ filter (λ m. not (is_over_in (others_in c.number b.unanswered) m)) ms
      → host_of read ns (books_hearing c.number b) ≡ heard_answer c.number a the_host
  untold_whole ns a none made =
      whole read ms ns b c a (λ m. m) b.quiet_until may
      (λ m there its. let w = awaits m there its in sym (awaited_in the_host c a m (awaited_here m w) ∙ untold_parts the_host c a m c.purpose w.known none))
      (made ∙ ap (λ zs. filter (λ m. not (is_over_in (others_in c.number b.unanswered) m)) zs) (all_same c.session ms)) (quiet_stays c a the_host (untold_plain c.purpose a none) (untold_counts c.purpose a none))

  pub request_whole : (ns : List MemberState) (j : ℕ) (owner : Option ℕ) → c.purpose ≡ RequestWrite j owner
      → ns ≡ filter (λ m. not (is_over_in (others_in c.number b.unanswered) m)) (changed_member c.session (request_heard owner b.reading) ms)
      → host_of read ns (books_hearing c.number b) ≡ heard_answer c.number Written the_host
  request_whole ns j owner is made =
      whole read ms ns b c Written (request_heard owner b.reading) b.quiet_until may
      (λ m there its.
      let w = awaits m there its in
      sym (awaited_in the_host c Written m (awaited_here m w) ∙ (ap (λ d. heard_by_parts the_host d Written m) (ap (open_for c) is) ∙ parts_hear.request_write the_host c Written m j owner w.known)))
      made (quiet_stays c Written the_host (ap is_survey_purpose is) (ap is_renewal is))

  pub no_survey_whole : (ns : List MemberState) → c.purpose ≡ Survey
      → ns ≡ filter (λ m. not (is_over_in (others_in c.number b.unanswered) m)) (changed_member c.session (own_told Survey Failed b.reading) ms)
      → host_of read ns (books_hearing c.number b) ≡ heard_answer c.number Failed the_host
  no_survey_whole ns is made =
      whole read ms ns b c Failed (own_told Survey Failed b.reading) b.quiet_until may
      (λ m there its.
      let w = awaits m there its in
      sym (awaited_in the_host c Failed m (awaited_here m w) ∙ (ap (λ d. heard_by_parts the_host d Failed m) (ap (open_for c) is) ∙ parts_hear.no_survey the_host c m w.known)))
      made (failed_quiet ∙ sym (ap (λ d. quiet_hearing d Failed the_host) (ap (open_for c) is)))
    where
      nobody : (zs : List MemberState) → list_any (shows_other_by the_host (open_for c Survey) Failed) zs ≡ false
      nobody [] = refl
      nobody (z ∷ zs) = nobody zs

      failed_quiet : b.quiet_until ≡ quiet_hearing (open_for c Survey) Failed the_host
      failed_quiet = min_same b.quiet_until ∙ sym (ap (λ t. min (lowered t (b.reading + b.config.grace) the_host) b.quiet_until) (nobody ms))

  pub survey_whole : (run : RunOf) (ns : List MemberState) (bytes : List ℕ) (shows : Bool) (q : ℕ) → c.purpose ≡ Survey → run ≡ same_run b
      → ns ≡ filter (λ m. not (is_over_in (others_in c.number b.unanswered) m)) (changed_member c.session (survey_heard run c.reading b.reading bytes (begun_at b.reading b.entries)) ms)
      → shows ≡ list_any (shows_at run bytes) ms → q ≡ cond shows (min b.quiet_until (b.reading + b.config.grace)) b.quiet_until
      → host_of read ns (record (books_hearing c.number b) { quiet_until = q }) ≡ heard_answer c.number (Read bytes) the_host
  survey_whole run ns bytes shows q is same made any quiet =
      whole read ms ns b c (Read bytes) (survey_heard (same_run b) c.reading b.reading bytes (begun_at b.reading b.entries)) q may
      (λ m there its.
      let w = awaits m there its in
      sym (awaited_in the_host c (Read bytes) m (awaited_here m w) ∙ (ap (λ d. heard_by_parts the_host d (Read bytes) m) (ap (open_for c) is) ∙ parts_hear.survey the_host c bytes m)))
      (made ∙ ap (λ r. filter (λ m. not (is_over_in (others_in c.number b.unanswered) m)) (changed_member c.session (survey_heard r c.reading b.reading bytes (begun_at b.reading b.entries)) ms)) same)
      (quiet ∙ (ap (λ t. cond t (min b.quiet_until (b.reading + b.config.grace)) b.quiet_until) (any ∙ ap (λ r. list_any (shows_at r bytes) ms) same)
      ∙ (by (list_any (shows_at (same_run b) bytes) ms) ∙ sym (ap (λ d. quiet_hearing d (Read bytes) the_host) (ap (open_for c) is)))))
    where
      q0 : ℕ
      q0 = b.quiet_until

      by : (t : Bool) → cond t (min q0 (b.reading + b.config.grace)) q0 ≡ min (cond t (min q0 (b.reading + b.config.grace)) q0) q0
      by true = sym (min-eq_left {n = min q0 (b.reading + b.config.grace)} {m = q0} (min-le_left q0 (b.reading + b.config.grace)))
      by false = min_same q0

  -- Where the lease on the call's area makes this of its answer.
  lease_whole : (ns : List MemberState) (a : Answer) (work : Work) (step : LeaseStep) (f : MemberState → LeaseState → LeaseState) → c.purpose ≡ Lease work step → AreApart (map (λ (s : MemberState). s.who.number) ms)
      → ((m : MemberState) → member_with c.session ms ≡ Some m → AreByPlace m.leases)
      → ((m : MemberState) → member_with c.session ms ≡ Some m → (w : LeaseAwaits (state_in (kept_of ms b)) c m)
      → lease_told the_host m (is_heeded_by the_host c) c a w.lease ≡ f m w.lease)
      → ns ≡ filter (λ m. not (is_over_in (others_in c.number b.unanswered) m)) (changed_member c.session (λ m. lease_changed (area_of_call (layout_of b.config.sizes) c) (f m) m) ms)
      → host_of read ns (books_hearing c.number b) ≡ heard_answer c.number a the_host
  lease_whole ns a work step f is apart placed told made =
      whole read ms ns b c a (λ m. lease_changed (area_of_call (layout_of b.config.sizes) c) (f m) m) b.quiet_until may
      (λ m there its.
      let w = awaits m there its in
      let l = w.leased (ap (λ p. is_some (lease_step p)) is) in
      let here = the_member c.session ms m apart there its in
      lease_member the_host c a m work step (f m) l.lease (awaited_here m w) w.known is (placed m here) l.found (told m here l))
      made (quiet_stays c a the_host (ap is_survey_purpose is) (ap is_renewal is))

  -- The read of a lease's work that is told so, with the turn that it shows.
  pub lease_read_whole : (run : RunOf) (ns : List MemberState) (bytes : List ℕ) (work : Work) (step : LeaseStep) (told : Told) (blocks : List (Option Block)) (heeded : Bool) → run ≡ same_run b
      → c.purpose ≡ Lease work step → is_some c.sectors ≡ true → AreApart (map (λ (s : MemberState). s.who.number) ms) → ((m : MemberState) → member_with c.session ms ≡ Some m → AreByPlace m.leases)
      → IsTold b.config.sizes (first_to c.session (area_of_call (layout_of b.config.sizes) c) step ms) step bytes told blocks → heeded ≡ is_heeded_by the_host c
      → ns ≡ filter (λ m. not (is_over_in (others_in c.number b.unanswered) m))
      (changed_member c.session
      (λ m. lease_changed (area_of_call (layout_of b.config.sizes) c) (lease_heard run (turn_to (layout_of run.sizes) c.session step bytes ms) heeded step bytes told blocks m) m) ms)
      → host_of read ns (books_hearing c.number b) ≡ heard_answer c.number (Read bytes) the_host
  lease_read_whole run ns bytes work step told blocks heeded same is reads apart placed is_told heeds made =
      lease_whole ns (Read bytes) work step (λ m. lease_heard (same_run b) turn (is_heeded_by the_host c) step bytes told blocks m) is apart placed (λ m here w. by told refl m here w)
      (made ∙ (λ i. filter (λ m. not (is_over_in (others_in c.number b.unanswered) m))
      (changed_member c.session (λ m. lease_changed at (lease_heard (same i) (turn_to (layout_of (same i).sizes) c.session step bytes ms) (heeds i) step bytes told blocks m) m) ms)))
    where
      g : Layout
      g = layout_of b.config.sizes

      at : Spot
      at = area_of_call (layout_of b.config.sizes) c

      turn : Option ℕ
      turn = turn_to (layout_of b.config.sizes) c.session step bytes ms

      -- What is kept of the first read of this member's lease, and the turn that the read shows it.
      first_is : (m : MemberState) → member_with c.session ms ≡ Some m → (w : LeaseAwaits (state_in (kept_of ms b)) c m) → first_by w.lease.pair step ≡ first_to c.session at step ms
      first_is m here w =
          first_is_by (is_second step) w.lease.pair.first
          ∙ sym (ap (λ o. unwrap_or (option_and_then (λ (s : MemberState). first_among at step s.leases) o) []) here ∙ ap (λ o. unwrap_or (option_and_then (first_if_second step) o) []) w.found)

      turn_is : (m : MemberState) → member_with c.session ms ≡ Some m → turn_heard g m.who.id step None (Read bytes) ≡ turn
      turn_is m here = sym (ap (λ o. option_and_then (λ (s : MemberState). turn_heard g s.who.id step None (Read bytes)) o) here)

      by : (t : Told) → told ≡ t → (m : MemberState) → member_with c.session ms ≡ Some m → (w : LeaseAwaits (state_in (kept_of ms b)) c m)
          → lease_told the_host m (is_heeded_by the_host c) c (Read bytes) w.lease ≡ lease_heard (same_run b) turn (is_heeded_by the_host c) step bytes t blocks m w.lease
      by Again so m here w =
          let at_step : w.call.step ≡ step = lease_step_is w.call.work work w.call.step step (sym w.waits.purpose ∙ is) in
          let pairs : List (Option PairBlock) = pairs_kept g (part_read g bytes (first_step step)) in
          hosts_keep_the_same.lease_kept (same_run b) the_host m (is_heeded_by the_host c) c w.call bytes pairs w.lease refl w.waits (w.reads reads)
          (ap (λ s. kept_heard g s (Read bytes)) at_step ∙ asked_keeps g step bytes (is_told.again so))
          ∙ (ap (λ s. kept_shown (turn_heard g m.who.id s None (Read bytes)) pairs w.lease) at_step ∙ ap (λ t. kept_shown t pairs w.lease) (turn_is m here))
      by (Gave leader) so m here w =
          let at_step : w.call.step ≡ step = lease_step_is w.call.work work w.call.step step (sym w.waits.purpose ∙ is) in
          let gave = is_told.gave leader so in
          let given : IsGiven g w.lease.pair w.call.step bytes = (ap (λ s. asked_again g bytes s) at_step ∙ none_asked (asked_again g bytes step) gave.0, λ second. w.second (sym w.again ∙ second)) in
          hosts_keep_the_same.lease_read (same_run b) the_host m (is_heeded_by the_host c) c w.call bytes w.lease refl w.waits (w.reads reads) given
          ∙ (ap (λ s. told_by m w s (turn_heard g m.who.id s None (Read bytes)) (leader_given g (first_by w.lease.pair s) s bytes) (read_given g (first_by w.lease.pair s) s bytes)) at_step
          ∙ (ap (λ first. told_by m w step (turn_heard g m.who.id step None (Read bytes)) (leader_given g first step bytes) (read_given g first step bytes)) (first_is m here w)
          ∙ (λ i. told_by m w step (turn_is m here i) (sym gave.1 i) (sym gave.2 i))))
        where
          told_by : (m : MemberState) → LeaseAwaits (state_in (kept_of ms b)) c m → LeaseStep → Option ℕ → Option Leader → List (Option Block) → LeaseState
          told_by m w s t d rs = read_shown (side_with (same_run b) m) t (is_heeded_by the_host c) d rs w.lease

  pub lease_written_whole : (ns : List MemberState) (work : Work) (step : LeaseStep) → c.purpose ≡ Lease work step → AreApart (map (λ (s : MemberState). s.who.number) ms)
      → ((m : MemberState) → member_with c.session ms ≡ Some m → AreByPlace m.leases)
      → ns ≡ filter (λ m. not (is_over_in (others_in c.number b.unanswered) m)) (changed_member c.session (lease_changed (area_of_call (layout_of b.config.sizes) c) after_write) ms)
      → host_of read ns (books_hearing c.number b) ≡ heard_answer c.number Written the_host
  lease_written_whole ns work step is apart placed made =
      lease_whole ns Written work step (λ m. after_write) is apart placed (λ m here w. hosts_keep_the_same.lease_written (same_run b) the_host m (is_heeded_by the_host c) c w.call w.lease refl w.waits) made

  pub lease_failed_whole : (ns : List MemberState) (work : Work) (step : LeaseStep) → c.purpose ≡ Lease work step → AreApart (map (λ (s : MemberState). s.who.number) ms)
      → ((m : MemberState) → member_with c.session ms ≡ Some m → AreByPlace m.leases)
      → ns ≡ filter (λ m. not (is_over_in (others_in c.number b.unanswered) m)) (changed_member c.session (lease_changed (area_of_call (layout_of b.config.sizes) c) after_failure) ms)
      → host_of read ns (books_hearing c.number b) ≡ heard_answer c.number Failed the_host
  lease_failed_whole ns work step is apart placed made =
      lease_whole ns Failed work step (λ m. after_failure) is apart placed (λ m here w. hosts_keep_the_same.lease_failed (same_run b) the_host m (is_heeded_by the_host c) c w.call w.lease refl w.waits) made
