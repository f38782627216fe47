-- What comes before the input follows what is due before it.
use Rattle.sl_due_facts.proofs.Acts.InputsKeep.{stop_stays}
use Rattle.sl_due_facts.proofs.Acts.LoopsKeep.{when_keeps}
use Rattle.sl_due_facts.proofs.Acts.SessionsStay.{Stays}
use Rattle.sl_due_facts.specs.Acts.Acts.{Has}
use Rattle.sl_host_law.proofs.Answers.RefusalsFollow.{refusals_follow}
use Rattle.sl_host_law.specs.Answers.RefusalsFollow.{refusing, timing_out}
use Rattle.sl_host_law.proofs.Calls.StepsBegin.{steps_begin}
use Rattle.sl_due.specs.Due.{before_input}
use Rattle.sl_due.specs.DueRecovery.{begin_recoveries, begin_recovery, begins_now, kills, signal_and_refuse}
use Rattle.sl_due.specs.DueTimeOuts.{time_outs}
use Rattle.sl_due.specs.Steps.{Step, begin_step, for_each, seen}
use Rattle.sl_host_law.proofs.SharedFacts.PlainLists.{at_some, each_of}
use Rattle.sl_host_law.proofs.SharedFacts.PlainOrders.{AreApart}
use Rattle.sl_host_state.specs.HeardInputs.{beginning, begun, counted, is_late, member_begun, with_renewing}
use Rattle.sl_host_state.specs.KeptState.{HostState, MemberState}
use Rattle.sl_host_state.specs.MadeEffects.{has_write_open, with_move, with_reply}
use Rattle.sl_host_state.specs.HostStands.{HostStands, Stands}
use Rattle.sl_host_state.specs.declared.kept_parts.JobState.{JobState}
use Rattle.sl_host_state.specs.declared.kept_parts.WaitingCall.{WaitingCall}
use Rattle.sl_host_law.proofs.Steps.JoiningNamesApart.{alone}
use Rattle.sl_host_law.proofs.Steps.EarlyParts.{Unmoved, killing_early, over_keeps, recovering_early, recovering_unmoved, timing_early}
use Rattle.sl_host_law.proofs.Steps.PassesFollow.{IsPass, Passed, all}
use Rattle.sl_host_law.specs.Steps.Beginnings.{BeginningsFollow}
use Rattle.sl_host_law.specs.Steps.Passes.{at_job, for_members, job_with}
use Rattle.sl_host_law.specs.Steps.SoundHosts.{IsEarly, NamesApart}
use Rattle.sl_host_law.specs.Steps.StepFunction.{before_taking}
use Rattle.sl_host_law.proofs.StepParts.GoneDoNothing.{gone_do_nothing}
use Rattle.sl_host_law.proofs.StepParts.RecoveriesAreTaken.{recoveries_are_taken}
use Rattle.sl_host_law.proofs.StepParts.RefusalsAreTaken.{kept_apart}
use Rattle.sl_host_law.specs.StepParts.Ends.{removing}
use Rattle.sl_host_law.specs.StepParts.Recoveries.{killing, recovering_in}
use Rattle.sl_host_law.specs.StepParts.Signals.{over}
use Rattle.sl_words.proofs.Lists.{any_found, any_of, contains_first, contains_map, contains_more, find_fails, find_inside, in_map, kept}
use Rattle.sl_host_law.proofs.Questions.PartsAreTold.{hosts_part}
use Rattle.sl_host_law.specs.Questions.Jobs.{is_overdue_in, joining_in, running_in}
use Rattle.sl_host_law.specs.Questions.PartQuestions.{time_out_of}
use Rattle.sl_trace.specs.Sessions.{recovery_of}
use Rattle.sl_trace.specs.declared.session.Session.{Session}
use Rattle.sl_trace.specs.Traces.{Setting, Trace, is_before_input}
use Rattle.sl_trace.specs.declared.effects.Effects.{Effects}
use Rattle.sl_trace.specs.declared.effects.Move.TheVariants.{Unregister}
use Rattle.sl_trace.specs.declared.input.Input.TheVariants.{Wake}
use Rattle.sl_trace.specs.declared.reply.Reply.TheVariants.{IoTimeout}
use Rattle.sl_trace.specs.declared.reply.Reply.{Reply}
use Rattle.sl_words.proofs.CaseLaws.{is_false, true_is_false}
use Rattle.std.proofs.Common.{ap, refl, subst, sym, ◌∙◌}
use Rattle.std.proofs.lemmas.Bool.Decides.{Decides-eqb}
use Rattle.std.specs.List.{AllByRecursion, list_any}
use Rattle.std.specs.Prelude.{Bool, Contains, IsTrue, List, None, Option, Some, bytes_eq, cond, filter, false, map, not, true, [], ℕ, ◌-◌, ◌==◌, ◌∷◌, ◌≡◌, ◌≤◌}

-- ---- recoveries

-- Early, and no connection has moved.
abbrev IsFirst : HostState → Type 0
IsFirst h = IsEarly h × Unmoved h

recovery_stays : (x y : Step) (s : Session) → Has x s → Stays x y → Stays x (begin_recovery s y)
unfolding begin_recovery
recovery_stays x y s has is = when_keeps (Stays x) (begins_now (seen y) (recovery_of y.setting (seen y) s)) (signal_and_refuse s None) y (λ b k. stop_stays x y s None k) is

recovers : IsPass Wake IsFirst recovering_in begin_recovery
recovers =
    record {
      takes = λ h x k m p at. recoveries_are_taken.begins h x k m at;
      keeps = λ h x k m p at. (recovering_early m h p.0, recovering_unmoved m h p.1);
      gone = λ h x s p gone. gone_do_nothing.begins Wake h x s gone p.1;
      stays = recovery_stays;
    }

-- ---- jobs whose calls are overdue

apart_numbers : (js : List JobState) → AreApart (λ (j : JobState). j.number) js → AreApart (λ (n : ℕ). n) (map (λ j. j.number) js)
apart_numbers [] apart = tt
apart_numbers (j ∷ js) apart = (by js apart.0, apart_numbers js apart.1) where
  by : (ks : List JobState) → AllByRecursion (λ k. j.number ≡ k.number → ⊥) ks → AllByRecursion (λ n. j.number ≡ n → ⊥) (map (λ (k : JobState). k.number) ks)
  by [] all = tt
  by (k ∷ ks) all = (all.0, by ks all.1)

-- A job runs while another is refused.
replied_still : (h : HostState) (n : ℕ) (r : Reply) (m : ℕ) → (n ≡ m → ⊥) → running_in h m ≡ true → running_in (with_reply n r h) m ≡ true
replied_still h n r m other runs =
    let f = any_found (λ (j : JobState). j.number == m) h.jobs runs in
    let number : f.0.number ≡ m = (Decides-eqb f.0.number m).0 f.2 in
    let left : (f.0.number == n) ≡ false = is_false (f.0.number == n) (λ same. other (sym ((Decides-eqb f.0.number n).0 same) ∙ number)) in
    any_of (λ (j : JobState). j.number == m) (filter (λ (j : JobState). not (j.number == n)) h.jobs) f.0 f.2 (kept (λ (j : JobState). not (j.number == n)) h.jobs f.0 (ap not left) f.1)

removed_still : (h : HostState) (name : List ℕ) (m : ℕ) → running_in h m ≡ true → running_in (removing name h) m ≡ true
removed_still h name m runs = by (list_any (λ n. bytes_eq n name) h.connected) where
  by : (b : Bool) → running_in (cond b (with_move (Unregister name) h) h) m ≡ true
  by true = runs
  by false = runs

refused_still : (h : HostState) (n : ℕ) (r : Reply) (m : ℕ) → (n ≡ m → ⊥) → running_in h m ≡ true → running_in (refusing n r h) m ≡ true
refused_still h n r m other runs = by (joining_in h n) where
  one : (z : MemberState) (b : Bool) → running_in (cond b (removing z.who.lockspace (with_reply n r h)) (with_reply n r h)) m ≡ true
  one z true = removed_still (with_reply n r h) z.who.lockspace m (replied_still h n r m other runs)
  one z false = replied_still h n r m other runs

  by : (o : Option MemberState) → running_in (elim o as (λ z. HostState) [
    | None ↦ with_reply n r h
    | Some z ↦ cond (not (has_write_open h z.who.number)) (removing z.who.lockspace (with_reply n r h)) (with_reply n r h)
  ]) m ≡ true
  by None = replied_still h n r m other runs
  by (Some z) = one z (not (has_write_open h z.who.number))

timed_still : (h : HostState) (j : JobState) (m : ℕ) → (j.number ≡ m → ⊥) → running_in h m ≡ true → running_in (timing_out j h) m ≡ true
timed_still h j m other runs = by j.waits where
  one : (c : WaitingCall) (b : Bool) → running_in (cond b (refusing j.number (IoTimeout c.number c.reading h.reading) h) h) m ≡ true
  one c true = refused_still h j.number (IoTimeout c.number c.reading h.reading) m other runs
  one c false = runs

  by : (o : Option WaitingCall) → running_in (elim o as (λ z. HostState) [ None ↦ h | Some c ↦ cond (is_overdue_in h c) (refusing j.number (IoTimeout c.number c.reading h.reading) h) h ]) m ≡ true
  by None = runs
  by (Some c) = one c (is_overdue_in h c)

-- One job, which runs.
one_timed : (n : ℕ) (h : HostState) (x : Step) → running_in h n ≡ true → Passed Wake IsEarly h x
    → Passed Wake IsEarly (at_job n timing_out h) (time_out_of n x) × ((m : ℕ) → (n ≡ m → ⊥) → running_in h m ≡ true → running_in (at_job n timing_out h) m ≡ true)
one_timed n h x runs p = by (job_with h n) refl where
  by : (o : Option JobState) → job_with h n ≡ o
      → Passed Wake IsEarly (elim o as (λ z. HostState) [ None ↦ h | Some j ↦ timing_out j h ]) (time_out_of n x)
      × ((m : ℕ) → (n ≡ m → ⊥) → running_in h m ≡ true → running_in (elim o as (λ z. HostState) [ None ↦ h | Some j ↦ timing_out j h ]) m ≡ true)
  by None none =
      let f = any_found (λ (j : JobState). j.number == n) h.jobs runs in absurd (true_is_false (sym f.2 ∙ find_fails (λ (j : JobState). j.number == n) h.jobs f.0 none f.1))
  by (Some j) some =
      let found = find_inside (λ (z : JobState). z.number == n) h.jobs j some in
      let at = at_some h.jobs j found.0 in
      let number : j.number ≡ n = (Decides-eqb j.number n).0 found.1 in
      let own : running_in h j.number ≡ true = subst (λ k. running_in h k ≡ true) (sym number) runs in
      let done : Stands Wake (timing_out j h) (time_out_of n x) =
      subst (λ k. Stands Wake (timing_out j h) (time_out_of k x)) number (refusals_follow.timed_out at.0 j h x p.stands at.1 (alone Wake h x j.number p.stands p.kept.names own))
      in
      (record { stands = done; kept = timing_early j h p.kept }, λ m other is. timed_still h j m (λ same. other (sym number ∙ same)) is)

timed : (ns : List ℕ) (h : HostState) (x : Step) → AreApart (λ (n : ℕ). n) ns → ((n : ℕ) → Contains ns n → running_in h n ≡ true) → Passed Wake IsEarly h x
    → Passed Wake IsEarly (over ns (λ n. at_job n timing_out) h) (for_each ns time_out_of x)
timed [] h x apart runs p = p
timed (n ∷ ns) h x apart runs p =
    let first = one_timed n h x (runs n (contains_first n ns)) p in
    timed ns (at_job n timing_out h) (time_out_of n x) apart.1
    (λ m there. first.1 m (λ same. each_of (λ k. n ≡ k → ⊥) ns m apart.0 there same) (runs m (contains_more n ns m there))) first.0

times_out : (h : HostState) (x : Step) → Passed Wake IsEarly h x → Passed Wake IsEarly (over (map (λ j. j.number) h.jobs) (λ n. at_job n timing_out) h) (time_outs x)
times_out h x p =
    subst (λ y. Passed Wake IsEarly (over (map (λ j. j.number) h.jobs) (λ n. at_job n timing_out) h) y) (sym (hosts_part Wake h x p.stands).time_outs)
    (timed (map (λ j. j.number) h.jobs) h x (apart_numbers h.jobs (kept_apart h x.setting (seen x) p.stands.keeps))
    (λ n there. (let j = in_map (λ (j : JobState). j.number) h.jobs n there in any_of (λ (z : JobState). z.number == n) h.jobs j.0 ((Decides-eqb j.0.number n).1 j.2) j.1)) p)

-- ---- the whole

begun_whos : (g : HostState) (ms : List MemberState) (s : Session) → Contains (map (λ (m : MemberState). m.who) (map (member_begun g) ms)) s → Contains (map (λ (m : MemberState). m.who) ms) s
begun_whos g ms s there =
    let z = in_map (λ (m : MemberState). m.who) (map (member_begun g) ms) s there in
    let y = in_map (member_begun g) ms z.0 z.1 in
    subst (Contains (map (λ (m : MemberState). m.who) ms)) (same y.0 ∙ ap (λ (m : MemberState). m.who) y.2 ∙ z.2) (contains_map (λ (m : MemberState). m.who) ms y.0 y.1) where
      same : (m : MemberState) → m.who ≡ (member_begun g m).who
      same m = by (is_late g m) where
        by : (b : Bool) → m.who ≡ (cond b (with_renewing (beginning g (g.entries - 1) m.renewing) m) m).who
        by true = refl
        by false = refl

first_early : (h : HostState) (st : Setting) (es : Trace) (now : ℕ) → NamesApart h → HostStands h st es → IsFirst (begun now h)
first_early h st es now names s = (
  record {
    at = record { calls = sym (ap (λ (fx : Effects). fx.calls) s.made); replies = subst (λ rs. AllByRecursion (λ r. IsTrue (is_before_input r.reply)) rs) (ap (λ (fx : Effects). fx.replies) s.made) tt };
    grants = sym (ap (λ (fx : Effects). fx.grants) s.made);
    names = λ a b at_a at_b. names a b (begun_whos (counted now h) h.members a at_a) (begun_whos (counted now h) h.members b at_b);
  },
  sym (ap (λ (fx : Effects). fx.moves) s.made),
)

passed : (h : HostState) (st : Setting) (es : Trace) (now : ℕ) → h.reading ≤ now → NamesApart h → HostStands h st es
    → Passed Wake IsEarly (before_taking (begun now h)) (before_input (begin_step st es now))
unfolding before_input begin_recoveries
passed h st es now later names s =
    let first : Passed Wake IsFirst (begun now h) (begin_step st es now) = record { stands = steps_begin.begins h st es now later s; kept = first_early h st es now names s } in
    let one : Passed Wake IsFirst (for_members recovering_in (begun now h)) (begin_recoveries (begin_step st es now)) =
    all Wake IsFirst recovering_in begin_recovery recovers (begun now h) (begin_step st es now) first
    in
    let g : HostState = for_members recovering_in (begun now h) in
    times_out (over g.members killing g) (kills (begin_recoveries (begin_step st es now)))
    (record {
      stands = recoveries_are_taken.all_killed g Wake (begin_recoveries (begin_step st es now)) one.stands;
      kept = over_keeps IsEarly g.members killing g (λ m f k. killing_early m f k) one.kept.0;
    })

pub beginnings_follow : BeginningsFollow
beginnings_follow =
    record {
      stands = λ h st es now later names s. (passed h st es now later names s).stands;
      early = λ h st es now later names s. (passed h st es now later names s).kept;
    }
