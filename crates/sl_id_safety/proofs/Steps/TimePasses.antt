-- Time that passes, as steps of an id: first those sessions end whose machine will have been reset more than `land` ago, and then it passes.
use Rattle.sl_run_law.proofs.Front.JoinedLists.{in_flat}
use Rattle.sl_run_law.proofs.MachineWalk.{index}
use Rattle.sl_run_law.proofs.Watchdog.TraceNumbers.{number_is}
use Rattle.sl_id_safety.proofs.State.ConnectionCounts.{running_since}
use Rattle.sl_id_safety.proofs.State.FindingFrames.{never_reset, on_machine, session_on, session_with}
use Rattle.sl_id_safety.proofs.State.Holders.{has_number}
use Rattle.sl_id_safety.proofs.State.IdsAreBounded.{claim_flies}
use Rattle.sl_id_safety.proofs.State.SessionBesideTrace.{IsBeside, beside}
use Rattle.sl_id_safety.proofs.State.StateFrames.{changed_session, changes_one, name_cases, no_lands, one_step, other_session, same_from, same_with, with_session}
use Rattle.sl_id_safety.specs.State.IdStates.{blank, claim_may_land, deciding_sample, has_begun, is_sector_of, join_course, name_of, own_courses, runs_still, session_at, session_named_so, standing_by, standing_of}
use Rattle.sl_ids.proofs.DerivedLaws.{go_on}
use Rattle.sl_ids.specs.Runs.{IsBounded, Later, OnlyEnds}
use Rattle.sl_ids.specs.State.{Session as IdSession, SessionId as IdName, State}
use Rattle.sl_ids.specs.Steps.{End, Ends, Passes, SameLandings, after_end}
use Rattle.sl_ids.specs.Terms.{Terms}
use Rattle.sl_run.specs.Runs.{Happening}
use Rattle.sl_run.specs.Safety.{Found, LawfulRun, SessionId, free_landed, has_write_in_flight, is_over, session_of_world, trace_of, was_reset, world_at}
use Rattle.sl_run.specs.Worlds.{Course, Daemon, Machine, Program, Stamp, World, daemon_numbered, daemons_on, machine_at, may_land, resets_after}
use Rattle.sl_run.specs.declared.header.Header.{Header}
use Rattle.sl_trace.specs.Sessions.{ended_after, is_join_call, refused_after, session_numbered, sessions}
use Rattle.sl_trace.specs.declared.effects.JoinStep.TheVariants.{ClaimWrite}
use Rattle.sl_trace.specs.declared.session.Session.{Session}
use Rattle.sl_words.proofs.CaseLaws.{false_is_true, is_false, not_both, true_is_false}
use Rattle.sl_words.proofs.Lists.{any_found, any_of, contains_cases, contains_map, contains_none, find_inside, got_inside}
use Rattle.sl_words.proofs.WordLaws.{and_true}
use Rattle.std.proofs.Common.{ap, arith, inl, inr, refl, subst, sym, tests, ◌∙◌}
use Rattle.std.specs.List.{enumerate_from}
use Rattle.std.specs.Prelude.{Bool, Contains, List, None, Option, Some, [], false, flat_map, is_none, is_some, map, nat_lt, not, option_and_then, option_map, true, ℕ, ◌&&◌, ◌+◌, ◌-◌, ◌==◌, ◌||◌, ◌∷◌, ◌≡◌, ◌≤◌, ◌⊎◌}

-- ---- states in which some sessions have ended

-- Each session is as before, or has ended; those that have are among these.
pub record SomeEnd (w v : State) (names : List IdName) : Type 0 where
  pub later : w.now ≤ v.now
  pub same : SameLandings w v
  pub each : (j : IdName) → (v.session j ≡ w.session j) ⊎ (v.session j ≡ after_end (w.session j))
  pub named : (j : IdName) → (v.session j ≡ w.session j) ⊎ Contains names j

abbrev ended : State → IdName → State
ended w n = with_session w n (after_end (w.session n))

ended_by : (w : State) (n s : IdName) → (s ≡ n) ⊎ (s ≡ n → ⊥)
    → ((ended w n).session s ≡ after_end (w.session n)) ⊎ ((ended w n).session s ≡ w.session s)
ended_by w n s (inl e) = inl (ap (ended w n).session e ∙ changed_session w n (after_end (w.session n)))
ended_by w n s (inr ne) = inr (other_session w n s (after_end (w.session n)) ne)

pending_by : (w : State) (n s : IdName) → ((ended w n).session s ≡ after_end (w.session n)) ⊎ ((ended w n).session s ≡ w.session s)
    → ((ended w n).session s).pending ≡ true → ((w.session s).pending ≡ true) × (((ended w n).session s).registered ≡ (w.session s).registered)
pending_by w n s (inl e) h = absurd (not_both ((ended w n).session s).pending h (ap (λ x. x.pending) e))
pending_by w n s (inr e) h = (sym (ap (λ x. x.pending) e) ∙ h, ap (λ x. x.registered) e)

acting_by : (w : State) (n s : IdName) → ((ended w n).session s ≡ after_end (w.session n)) ⊎ ((ended w n).session s ≡ w.session s)
    → ((ended w n).session s).verified ≡ true → ((ended w n).session s).over ≡ false
    → ((w.session s).verified ≡ true) × ((w.session s).over ≡ false) × (((ended w n).session s).renewed ≡ (w.session s).renewed)
acting_by w n s (inl e) h k = absurd (not_both ((ended w n).session s).over (ap (λ x. x.over) e) k)
acting_by w n s (inr e) h k = (sym (ap (λ x. x.verified) e) ∙ h, sym (ap (λ x. x.over) e) ∙ k, ap (λ x. x.renewed) e)

only_ends : (w : State) (n : IdName) → OnlyEnds w (ended w n)
only_ends w n =
    record {
      now = refl;
      pending = λ s. pending_by w n s (ended_by w n s (name_cases s n));
      acting = λ s. acting_by w n s (ended_by w n s (name_cases s n));
    }

ends_one : (w : State) (n : IdName) → End w (ended w n) n
ends_one w n = record { same = same_with w w n (after_end (w.session n)) (no_lands w); changes = changes_one w n (after_end (w.session n)) }

-- One that has ended in between is as it is later.
now_same : (w v : State) (n j : IdName) → v.session n ≡ after_end (w.session n) → j ≡ n → v.session j ≡ (ended w n).session j
now_same w v n j is e = ap v.session e ∙ is ∙ sym (changed_session w n (after_end (w.session n))) ∙ ap (ended w n).session (sym e)

abbrev Ended : State → State → IdName → Type 0
Ended w v j = (v.session j ≡ w.session j) ⊎ (v.session j ≡ after_end (w.session j))

each_after : (w v : State) (n j : IdName) → v.session n ≡ after_end (w.session n) → (j ≡ n) ⊎ (j ≡ n → ⊥) → Ended w v j → Ended (ended w n) v j
each_after w v n j is (inl e) h = inl (now_same w v n j is e)
each_after w v n j is (inr ne) (inl h) = inl (h ∙ sym (other_session w n j (after_end (w.session n)) ne))
each_after w v n j is (inr ne) (inr h) = inr (h ∙ ap after_end (sym (other_session w n j (after_end (w.session n)) ne)))

named_after : (w v : State) (n : IdName) (names : List IdName) (j : IdName) → v.session n ≡ after_end (w.session n) → (j ≡ n) ⊎ (j ≡ n → ⊥)
    → (v.session j ≡ w.session j) ⊎ Contains (n ∷ names) j → (v.session j ≡ (ended w n).session j) ⊎ Contains names j
named_after w v n names j is (inl e) h = inl (now_same w v n j is e)
named_after w v n names j is (inr ne) (inl h) = inl (h ∙ sym (other_session w n j (after_end (w.session n)) ne))
named_after w v n names j is (inr ne) (inr there) =
    elim (contains_cases n names j there) as (λ z. (v.session j ≡ (ended w n).session j) ⊎ Contains names j) [
      | inl same ↦ absurd (ne (sym same))
      | inr more ↦ inr more
    ]

named_still : (w v : State) (n : IdName) (names : List IdName) (j : IdName) → v.session n ≡ w.session n → (v.session j ≡ w.session j) ⊎ Contains (n ∷ names) j
    → (v.session j ≡ w.session j) ⊎ Contains names j
named_still w v n names j is (inl h) = inl h
named_still w v n names j is (inr there) =
    elim (contains_cases n names j there) as (λ z. (v.session j ≡ w.session j) ⊎ Contains names j) [
      | inl same ↦ inl (subst (λ x. v.session x ≡ w.session x) same is)
      | inr more ↦ inr more
    ]

end_next : (r : Terms) (n : IdName) (names : List IdName) (w v : State) → SomeEnd w v (n ∷ names) → IsBounded r w
    → ((u : State) → SomeEnd u v names → IsBounded r u → Later r u v) → Ended w v n → Later r w v
end_next r n names w v s low rest (inl is) =
    rest w (record { later = s.later; same = s.same; each = s.each; named = λ j. named_still w v n names j is (s.named j) }) low
end_next r n names w v s low rest (inr is) =
    let u : State = ended w n in
    let bounded : IsBounded r u = go_on.between r w u (only_ends w n) low in
    go_on.both r w u v (one_step r w u (Ends n (ends_one w n)) bounded)
    (rest u (record {
      later = s.later;
      same = same_from w v n (after_end (w.session n)) s.same;
      each = λ j. each_after w v n j is (name_cases j n) (s.each j);
      named = λ j. named_after w v n names j is (name_cases j n) (s.named j);
    }) bounded)

all_same : (w v : State) (j : IdName) → (v.session j ≡ w.session j) ⊎ Contains [] j → v.session j ≡ w.session j
all_same w v j (inl h) = h
all_same w v j (inr there) = absurd (contains_none j there)

-- They end, one after another, and then time passes.
pub some_end : (r : Terms) (names : List IdName) (w v : State) → SomeEnd w v names → IsBounded r w → IsBounded r v → Later r w v
some_end r [] w v s low high = one_step r w v (Passes (record { later = s.later; same = s.same; sessions = λ j. all_same w v j (s.named j) })) high
some_end r (n ∷ names) w v s low high = end_next r n names w v s low (λ u t bounded. some_end r names u v t bounded high) (s.each n)

-- ---- a world at a later moment

abbrev pub at_moment : ℕ → World → World
at_moment n w = record w { moment = n }

abbrev found_at : ℕ → Found → Found
found_at n f = record f { now = n }

later_in : (n k : ℕ) (a : Machine) (d : Daemon) (o : Option Session)
    → option_map (λ s. let y : Found = record { machine = a; daemon = d; session = s; now = n } in y) o
    ≡ option_map (found_at n) (option_map (λ s. let y : Found = record { machine = a; daemon = d; session = s; now = k } in y) o)
later_in n k a d None = refl
later_in n k a d (Some s) = refl

later_with : (n k : ℕ) (i : SessionId) (a : Machine) (o : Option Daemon) → session_with n i a o ≡ option_map (found_at n) (session_with k i a o)
later_with n k i a None = refl
later_with n k i a (Some d) = later_in n k a d (session_numbered d.setting d.trace i.number)

later_on : (n k : ℕ) (i : SessionId) (o : Option Machine)
    → option_and_then (session_on n i) o ≡ option_map (found_at n) (option_and_then (session_on k i) o)
later_on n k i None = refl
later_on n k i (Some a) = later_with n k i a (daemon_numbered a i.daemon)

-- Sessions are found there as before.
found_later : (n : ℕ) (w : World) (i : SessionId) → session_of_world (at_moment n w) i ≡ option_map (found_at n) (session_of_world w i)
found_later n w i = later_on n w.moment i (machine_at w i.machine)

-- ---- one session

over_more : (free ends was is flies : Bool) → (was ≡ true → is ≡ true) → (free || (ends || was) && not flies) ≡ true → (free || (ends || is) && not flies) ≡ true
over_more true ends was is flies more h = refl
over_more false true was is flies more h = h
over_more false false true is flies more h = ap (λ b. b && not flies) (more refl) ∙ h
over_more false false false is flies more h = absurd (false_is_true h)

-- What becomes over does so by a reset, with no write in flight.
over_now : (free ends was is flies : Bool) → (free || (ends || was) && not flies) ≡ false → (free || (ends || is) && not flies) ≡ true
    → (flies ≡ false) × (is ≡ true)
over_now true ends was is flies h k = absurd (true_is_false h)
over_now false true was is true h k = absurd (false_is_true k)
over_now false true was is false h k = absurd (true_is_false h)
over_now false false was false flies h k = absurd (false_is_true k)
over_now false false was true true h k = absurd (false_is_true k)
over_now false false was true false h k = (refl, refl)

less_later : (a land k n : ℕ) → k ≤ n → nat_lt (a + land) k ≡ true → nat_lt (a + land) n ≡ true
less_later a land k n le h = grind (arith, tests)

-- A reset that was long ago is so later.
reset_later : (n : ℕ) (f : Found) → f.now ≤ n → was_reset f ≡ true → was_reset (found_at n f) ≡ true
reset_later n f le h =
    let land : ℕ = f.daemon.setting.timing.land in
    let rs : List Stamp = resets_after f.machine f.daemon.begun.step in
    let r = any_found (λ (x : Stamp). nat_lt (x.moment + land) f.now) rs h in
    any_of (λ (x : Stamp). nat_lt (x.moment + land) n) rs r.0 (less_later r.0.moment land f.now n le r.2) r.1

-- Whose daemon runs, its machine was not reset.
runs_unreset : (w : World) (i : SessionId) (f : Found) (n : ℕ) → IsBeside w i f → runs_still f ≡ true → was_reset (found_at n f) ≡ false
runs_unreset w i f n b runs =
    never_reset (found_at n f) (b.mirrors.kept f.daemon (running_since w i f b runs))

claim_by : (w : World) (i : SessionId) (f : Found) (n : ℕ) → IsBeside w i f → (o : Option Course) → join_course i ClaimWrite f.machine ≡ o
    → elim o as (λ z. Bool) [ None ↦ runs_still f && is_none (refused_after (trace_of f) f.session) | Some c ↦ may_land c ] ≡ true
    → (has_write_in_flight i f.machine ≡ true) ⊎ (was_reset (found_at n f) ≡ false)
claim_by w i f n b None at h = inr (runs_unreset w i f n b (and_true (runs_still f) (is_none (refused_after (trace_of f) f.session)) h).0)
claim_by w i f n b (Some c) at h =
    inl (claim_flies i f c (find_inside (λ (x : Course). is_join_call ClaimWrite x.call.purpose) (own_courses i f.machine) c at).0 h)

neither : (flies is : Bool) → flies ≡ false → is ≡ true → (flies ≡ true) ⊎ (is ≡ false) → ⊥
neither flies is a b (inl h) = not_both flies h a
neither flies is a b (inr h) = not_both is b h

-- One that becomes over has no claim that may land.
over_idle : (w : World) (i : SessionId) (f : Found) (n : ℕ) → IsBeside w i f → is_over i f ≡ false → is_over i (found_at n f) ≡ true
    → (is_some (deciding_sample i f) && claim_may_land i f) ≡ false
over_idle w i f n b alive closed =
    let o = over_now (free_landed i f) (is_some (ended_after (trace_of f) f.session)) (was_reset f) (was_reset (found_at n f)) (has_write_in_flight i f.machine) alive closed in
    is_false (is_some (deciding_sample i f) && claim_may_land i f) (λ h.
    neither (has_write_in_flight i f.machine) (was_reset (found_at n f)) o.0 o.1
    (claim_by w i f n b (join_course i ClaimWrite f.machine) refl (and_true (is_some (deciding_sample i f)) (claim_may_land i f) h).1))

-- It stands as before, but that it may be over.
stands_later : (n : ℕ) (w : World) (path : List ℕ) (offset : ℕ) (i : SessionId) (f : Found)
    → standing_of (at_moment n w) path offset i (found_at n f) ≡ record (standing_of w path offset i f) { over = is_over i (found_at n f) }
stands_later n w path offset i f = refl

-- What time does to a session.
abbrev TimeDoes : IdSession → IdSession → Type 0
TimeDoes s t = (t ≡ s) ⊎ (t ≡ after_end s)

does_by : (s t : IdSession) (was is : Bool) → s.over ≡ was → t ≡ record s { over = is } → (was ≡ true → is ≡ true) → (was ≡ false → is ≡ true → s.pending ≡ false) → TimeDoes s t
does_by s t true true over same more idle = inl (same ∙ ap (λ b. let x : IdSession = record s { over = b } in x) (sym over))
does_by s t true false over same more idle = absurd (false_is_true (more refl))
does_by s t false false over same more idle = inl (same ∙ ap (λ b. let x : IdSession = record s { over = b } in x) (sym over))
does_by s t false true over same more idle = inr (same ∙ ap (λ b. let x : IdSession = record s { over = true; pending = b } in x) (idle refl refl))

abbrev stood : World → List ℕ → ℕ → SessionId → Found → Bool → IdSession
stood w path offset i f b = elim b [ false ↦ blank | true ↦ standing_of w path offset i f ]

does_if : (n : ℕ) (w : World) (path : List ℕ) (offset : ℕ) (i : SessionId) (f : Found) (b : Bool) → IsBeside w i f → f.now ≤ n
    → TimeDoes (stood w path offset i f b) (stood (at_moment n w) path offset i (found_at n f) b)
does_if n w path offset i f false beside le = inl refl
does_if n w path offset i f true beside le =
    does_by (standing_of w path offset i f) (standing_of (at_moment n w) path offset i (found_at n f)) (is_over i f) (is_over i (found_at n f)) refl
    (stands_later n w path offset i f)
    (over_more (free_landed i f) (is_some (ended_after (trace_of f) f.session)) (was_reset f) (was_reset (found_at n f)) (has_write_in_flight i f.machine) (reset_later n f le))
    (over_idle w i f n beside)

does_in : (n : ℕ) (w : World) (path : List ℕ) (offset : ℕ) (i : SessionId) (o : Option Found) → ((f : Found) → o ≡ Some f → IsBeside w i f × (f.now ≤ n))
    → TimeDoes (standing_by w path offset i o) (standing_by (at_moment n w) path offset i (option_map (found_at n) o))
does_in n w path offset i None known = inl refl
does_in n w path offset i (Some f) known =
    let k = known f refl in
    does_if n w path offset i f (is_sector_of w.layout path offset f.session && has_begun i f) k.0 k.1

-- To each session of a lawful run.
pub time_does : (p : Program) (h : Header) (now : List Happening) → LawfulRun p h now → (n : ℕ) → (world_at p h now).moment ≤ n → (path : List ℕ) (offset : ℕ) (j : IdName)
    → TimeDoes (session_at (world_at p h now) path offset j) (session_at (at_moment n (world_at p h now)) path offset j)
time_does p h now run n le path offset j =
    let w : World = world_at p h now in
    let i : SessionId = session_named_so j in
    subst (λ o. TimeDoes (session_at w path offset j) (standing_by (at_moment n w) path offset i o)) (sym (found_later n w i))
    (does_in n w path offset i (session_of_world w i)
    (λ f at. (beside p h now run i f at, subst (λ k. k ≤ n) (sym (on_machine w i f at).2.now) le)))

-- ---- their names

abbrev names_of : ℕ → Daemon → List IdName
names_of m d = map (λ (s : Session). let n : IdName = record { machine = m; daemon = d.number; number = s.number } in n) (sessions d.setting d.trace)

abbrev names_on : ℕ × Machine → List IdName
names_on q = flat_map (names_of q.0) (daemons_on q.1)

-- The names of all sessions of a world.
abbrev pub names_in : World → List IdName
names_in w = flat_map names_on (enumerate_from 1 w.machines)

one_more : (m : ℕ) → (m == 0) ≡ false → 1 + (m - 1) ≡ m
one_more m h = grind (arith, tests)

-- A session of the world is among them.
name_there : (w : World) (i : SessionId) (f : Found) → session_of_world w i ≡ Some f → Contains (names_in w) (name_of i)
name_there w i f at =
    let on = on_machine w i f at in
    let d : Daemon = f.daemon in
    let place = index w i.machine on.0 on.1 in
    let machine : Contains (enumerate_from 1 w.machines) (i.machine, on.0) =
    subst (λ m. Contains (enumerate_from 1 w.machines) (m, on.0)) (one_more i.machine place.0) (has_number 1 w.machines (i.machine - 1) on.0 place.1) in
    let session : Contains (names_of i.machine d) (record { machine = i.machine; daemon = d.number; number = f.session.number }) =
    contains_map (λ (s : Session). let n : IdName = record { machine = i.machine; daemon = d.number; number = s.number } in n) (sessions d.setting d.trace) f.session
    (got_inside (sessions d.setting d.trace) i.number f.session on.2.session) in
    let number : f.session.number ≡ i.number = number_is d.setting d.trace i.number f.session on.2.session in
    in_flat names_on (enumerate_from 1 w.machines) (i.machine, on.0) (name_of i) machine
    (in_flat (names_of i.machine) (daemons_on on.0) d (name_of i) on.2.has
    (subst (λ k. Contains (names_of i.machine d) (record { machine = i.machine; daemon = k; number = i.number })) on.2.number
    (subst (λ k. Contains (names_of i.machine d) (record { machine = i.machine; daemon = d.number; number = k })) number session)))

none_there : (n : ℕ) (w : World) (path : List ℕ) (offset : ℕ) (i : SessionId) (o : Option Found) → session_of_world w i ≡ o
    → (standing_by (at_moment n w) path offset i (option_map (found_at n) o) ≡ standing_by w path offset i o) ⊎ Contains (names_in w) (name_of i)
none_there n w path offset i None at = inl refl
none_there n w path offset i (Some f) at = inr (name_there w i f at)

-- Each session whose standing time changes has a name of the world.
pub time_names : (n : ℕ) (w : World) (path : List ℕ) (offset : ℕ) (j : IdName)
    → (session_at (at_moment n w) path offset j ≡ session_at w path offset j) ⊎ Contains (names_in w) j
time_names n w path offset j =
    let i : SessionId = session_named_so j in
    subst (λ o. (standing_by (at_moment n w) path offset i o ≡ session_at w path offset j) ⊎ Contains (names_in w) j) (sym (found_later n w i))
    (none_there n w path offset i (session_of_world w i) refl)
