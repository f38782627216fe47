-- What an exit leaves is lawful: all holdings of the process have ended, and where a persistent one had no orphan yet it has one.
use Rattle.sl_due_facts.proofs.Acts.EffectsKeep.{delta, lease, removal, signalled, stopped}
use Rattle.sl_due_facts.proofs.Acts.LoopsKeep.{for_each_keeps, when_keeps}
use Rattle.sl_due_facts.proofs.Acts.PlainActs.{ended, line_has}
use Rattle.sl_due_facts.proofs.Acts.DecisionsAreTheirs.{Of}
use Rattle.sl_due_facts.specs.Acts.Acts.{Has, next_of_settling}
use Rattle.sl_due.specs.DueAnswers.{set_reply}
use Rattle.sl_due.specs.DueCommands.{answer_line, carry_decision}
use Rattle.sl_due.specs.CarriedDelta.{carry_delta, see_request}
use Rattle.sl_due.specs.DueRecovery.{begin_recoveries, begin_recovery, begins_now, send, signal_and_refuse, signal_holders}
use Rattle.sl_due.specs.DueTimeOuts.{refuse, remove_connection, remove_of_refused}
use Rattle.sl_due.specs.DueInputs.{end_holdings, leave_holdings, refuse_jobs_of, started_reply, when_running}
use Rattle.sl_due.specs.DueRequests.{after_request_read, after_value_read, bits_due}
use Rattle.sl_due.specs.Steps.{Step, add_end, add_grant, add_reply, add_signal, begin_step, for_each, seen, with_input}
use Rattle.sl_due.specs.CarriedLease.{carry_lease, next_of_lease}
use Rattle.sl_due_leases.proofs.Grants.EndsAreLawful.{Ending, Going, StandsAt, last_there, left_ending, more_granted, stand_effects, stands}
use Rattle.sl_due_leases.proofs.Grants.WorksByLines.{held_before}
use Rattle.sl_due_leases.specs.Grants.GrantLaws.{ExitsAreLawful, ExitsBegin, ExitsSoFar}
use Rattle.sl_due_leases.proofs.Holdings.MomentsAreKept.{carried, delta_ungranting, input_effects, refused_alike, removal_alike, said_input, same, signalled_alike, told_acts}
use Rattle.sl_due_leases.proofs.Holdings.PlainPlaces.{one_place}
use Rattle.sl_trace.specs.Jobs.{is_job_of_process, job_of_start}
use Rattle.sl_trace.specs.Leases.{spot_of_call}
use Rattle.sl_words.proofs.Lists.{any_found, any_of, contains_cases, contains_map, contains_none, kept}
use Rattle.sl_words.proofs.Numbers.{number_itself}
use Rattle.sl_trace.specs.DeltaDecisions.{delta_known, delta_of_session, next_after_free, next_after_renewal, next_free, next_in_joining, next_on_wake, next_renewal}
use Rattle.sl_trace.specs.Sessions.{calls_of, generation_of, present_sessions, recovery_of}
use Rattle.sl_trace.specs.declared.delta.DeltaNext.{DeltaNext}
use Rattle.sl_trace.specs.Traces.{end_of, has_orphan_of, holdings, is_ended_by, is_orphan, leaves_orphan, next_job, no_process, orphan_of, orphans_left, running_jobs, same_place}
use Rattle.sl_trace.specs.declared.effects.End.{End}
use Rattle.sl_trace.specs.declared.effects.Grant.{Grant}
use Rattle.sl_trace.specs.declared.effects.Signal.TheVariants.{Kill, Term}
use Rattle.sl_trace.specs.declared.effects.Work.TheVariants.{Settling}
use Rattle.sl_trace.specs.declared.input.Answer.TheVariants.{Failed, Read, Written}
use Rattle.sl_trace.specs.declared.input.Answer.{Answer}
use Rattle.sl_trace.specs.declared.input.Input.TheVariants.{Answer as Told, Exit, Line, Number, Spawned, Wake}
use Rattle.sl_trace.specs.declared.input.Input.{Input}
use Rattle.sl_trace.specs.declared.reply.Reply.TheVariants.{BadCommand as Misread, Done, IoFault, IoTimeout, NoProcess, SpawnFault}
use Rattle.sl_words.proofs.CaseLaws.{is_false, not_both, some_value, true_is_false}
use Rattle.sl_words.proofs.WordLaws.{and_true}
use Rattle.std.proofs.Common.{ap, inl, inr, refl, subst, sym, ◌∙◌}
use Rattle.std.proofs.lemmas.Bool.{eqb-true}
use Rattle.std.proofs.lemmas.List.Elements.{Contains-append_left, Contains-append_right}
use Rattle.std.specs.Prelude.{Bool, Contains, List, None, Option, Some, [], false, filter, is_some, not, true, ℕ, ◌&&◌, ◌++◌, ◌==◌, ◌∷◌, ◌≡◌, ◌⊎◌}

-- ---- where no process exits, and where nothing more ends

abbrev is_exit : Input → Bool
is_exit (Exit p) = true
is_exit i = false

abbrev exit_of : Input → Option ℕ
exit_of (Exit p) = Some p
exit_of i = None

no_exit : (z : Step) (i : Input) → z.input ≡ i → is_exit i ≡ false → ExitsSoFar z
no_exit z i is other =
    record {
      ends = λ g held own exits. absurd (true_is_false (ap (λ k. is_exit k) (sym exits ∙ is) ∙ other));
      kept = λ g held own exits persistent. absurd (true_is_false (ap (λ k. is_exit k) (sym exits ∙ is) ∙ other));
    }

going : (x z : Step) → Going x z → ExitsSoFar x → ExitsSoFar z
going x z k h =
    record {
      ends = λ g held own exits. subst (λ es. is_ended_by es g ≡ true) (sym k.ends) (h.ends g (subst (λ t. Contains (holdings t) g) k.past held) own (sym k.input ∙ exits));
      kept = λ g held own exits persistent. subst (λ hs. has_orphan_of hs g ≡ true) (sym now) (h.kept g (subst (λ t. Contains (holdings t) g) k.past held) own (sym k.input ∙ exits) persistent);
    } where
      now : holdings (seen z) ≡ holdings (seen x)
      now =
          ap (λ t. filter (λ g. not (is_ended_by z.effects.ends g)) (holdings t) ++ z.effects.grants) k.past
          ∙ (ap (λ es. filter (λ g. not (is_ended_by es g)) (holdings x.past) ++ z.effects.grants) k.ends
          ∙ ap (λ gs. filter (λ g. not (is_ended_by x.effects.ends g)) (holdings x.past) ++ gs) k.grants)

-- ---- the exit

still_ended : (gs : List Grant) (x : Step) (e : End) → Contains x.effects.ends e → Contains (for_each gs (λ g. add_end (end_of g)) x).effects.ends e
still_ended gs x e there = for_each_keeps (λ z. Contains z.effects.ends e) gs (λ g. add_end (end_of g)) x (λ g inside z k. more_granted z.effects.ends (end_of g) e k) there

all_ended : (gs : List Grant) (x : Step) (g : Grant) → Contains gs g → Contains (for_each gs (λ k. add_end (end_of k)) x).effects.ends (end_of g)
all_ended [] x g there = absurd (contains_none g there)
all_ended (k ∷ gs) x g there = by (contains_cases k gs g there) (λ rest. all_ended gs (add_end (end_of k) x) g rest) where
  by : (k ≡ g) ⊎ Contains gs g → (Contains gs g → Contains (for_each (k ∷ gs) (λ h. add_end (end_of h)) x).effects.ends (end_of g)) → Contains (for_each (k ∷ gs) (λ h. add_end (end_of h)) x).effects.ends (end_of g)
  by (inl is) rest = still_ended gs (add_end (end_of k) x) (end_of g) (subst (λ h. Contains (x.effects.ends ++ end_of k ∷ []) (end_of h)) is (last_there x.effects.ends (end_of k)))
  by (inr later) rest = rest later

all_granted : (gs : List Grant) (x : Step) (g : Grant) → Contains gs g → Contains (for_each gs add_grant x).effects.grants g
all_granted [] x g there = absurd (contains_none g there)
all_granted (k ∷ gs) x g there = by (contains_cases k gs g there) (λ rest. all_granted gs (add_grant k x) g rest) where
  by : (k ≡ g) ⊎ Contains gs g → (Contains gs g → Contains (for_each (k ∷ gs) add_grant x).effects.grants g) → Contains (for_each (k ∷ gs) add_grant x).effects.grants g
  by (inl is) rest =
      for_each_keeps (λ z. Contains z.effects.grants g) gs add_grant (add_grant k x) (λ h inside z w. more_granted z.effects.grants h g w)
      (subst (λ h. Contains (x.effects.grants ++ k ∷ []) h) is (last_there x.effects.grants k))
  by (inr later) rest = rest later

ended_there : (y : Step) (p : ℕ) (g : Grant) → Contains (holdings (seen y)) g → (g.process == p) ≡ true → Contains (refuse_jobs_of p (leave_holdings p y)).effects.ends (end_of g)
unfolding leave_holdings
ended_there y p g there its = refused (leave_holdings p y) left where
  left : Contains (leave_holdings p y).effects.ends (end_of g)
  left =
      for_each_keeps (λ z. Contains z.effects.ends (end_of g)) (orphans_left p (holdings (seen y))) add_grant (end_holdings p y) (λ h inside z k. k)
      (all_ended (filter (λ (h : Grant). h.process == p) (holdings (seen y))) y g (kept (λ (h : Grant). h.process == p) (holdings (seen y)) g its there))

  refused : (z : Step) → Contains z.effects.ends (end_of g) → Contains (refuse_jobs_of p z).effects.ends (end_of g)
  refused z h = for_each_keeps (λ w. Contains w.effects.ends (end_of g)) (filter (is_job_of_process (seen z) p) (running_jobs z.setting (seen z))) (λ j. add_reply j.number (NoProcess p)) z (λ j inside w k. k) h

left_there : (y : Step) (p : ℕ) (g : Grant) → Contains (holdings (seen y)) g → leaves_orphan (holdings (seen y)) p g ≡ true → Contains (refuse_jobs_of p (leave_holdings p y)).effects.grants (orphan_of g)
unfolding leave_holdings
left_there y p g there leaves = refused (leave_holdings p y) left where
  left : Contains (leave_holdings p y).effects.grants (orphan_of g)
  left =
      all_granted (orphans_left p (holdings (seen y))) (end_holdings p y) (orphan_of g)
      (contains_map orphan_of (filter (leaves_orphan (holdings (seen y)) p) (holdings (seen y))) g (kept (leaves_orphan (holdings (seen y)) p) (holdings (seen y)) g leaves there))

  refused : (z : Step) → Contains z.effects.grants (orphan_of g) → Contains (refuse_jobs_of p z).effects.grants (orphan_of g)
  refused z h = for_each_keeps (λ w. Contains w.effects.grants (orphan_of g)) (filter (is_job_of_process (seen z) p) (running_jobs z.setting (seen z))) (λ j. add_reply j.number (NoProcess p)) z (λ j inside w k. k) h

exit_leaves : (y : Step) (p : ℕ) → (p == no_process) ≡ false → y.input ≡ Exit p → y.effects.ends ≡ [] → y.effects.grants ≡ [] → ExitsSoFar (refuse_jobs_of p (leave_holdings p y))
exit_leaves y p one input unended ungranted =
    record {
      ends = λ g held own exits.
          any_of (λ (e : End). e.process == g.process && same_place e.path e.offset g.path g.offset) u.effects.ends (end_of g)
          (ap (λ b. b && same_place g.path g.offset g.path g.offset) (number_itself g.process) ∙ one_place g.path g.offset) (ended_there y p g (now g held) (its g exits));
      kept = λ g held own exits persistent. by g (now g held) (its g exits) persistent (has_orphan_of (holdings (seen y)) g) refl;
    } where
      u : Step
      u = refuse_jobs_of p (leave_holdings p y)

      all : Ending y p u
      all = left_ending y p

      now : (g : Grant) → Contains (holdings u.past) g → Contains (holdings (seen y)) g
      now g held = subst (λ hs. Contains hs g) (sym (held_before y unended ungranted)) (subst (λ t. Contains (holdings t) g) all.stand.1 held)

      its : (g : Grant) → u.input ≡ Exit g.process → (g.process == p) ≡ true
      its g exits = subst (λ n. (g.process == n) ≡ true) (some_value g.process p (ap (λ i. exit_of i) (sym exits ∙ (all.stand.2 ∙ input)))) (number_itself g.process)

      -- an orphan has not ended
      stays : (k : Grant) → is_orphan k ≡ true → is_ended_by u.effects.ends k ≡ false
      stays k orphan = is_false (is_ended_by u.effects.ends k) (λ is. gone (any_found (λ (e : End). e.process == k.process && same_place e.path e.offset k.path k.offset) u.effects.ends is)) where
        gone : (e : End) × Contains u.effects.ends e × ((e.process == k.process && same_place e.path e.offset k.path k.offset) ≡ true) → ⊥
        gone f = of (all.ends f.0 f.1) where
          of : Contains y.effects.ends f.0 ⊎ ((l : Grant) × Contains (holdings (seen y)) l × (l.process ≡ p) × (end_of l ≡ f.0)) → ⊥
          of (inl was) = contains_none f.0 (subst (λ es. Contains es f.0) unended was)
          of (inr l) =
              let process : f.0.process ≡ k.process = eqb-true f.0.process k.process (and_true (f.0.process == k.process) (same_place f.0.path f.0.offset k.path k.offset) f.2).0 in
              not_both (p == no_process) (subst (λ n. (n == no_process) ≡ true) (sym process ∙ (ap (λ (e : End). e.process) (sym l.3) ∙ l.2)) orphan) one

      by : (g : Grant) → Contains (holdings (seen y)) g → (g.process == p) ≡ true → g.persistent ≡ true → (b : Bool) → has_orphan_of (holdings (seen y)) g ≡ b → has_orphan_of (holdings (seen u)) g ≡ true
      by g there of persistent true is =
          let f = any_found (λ (h : Grant). is_orphan h && same_place h.path h.offset g.path g.offset) (holdings (seen y)) is in
          let a = and_true (is_orphan f.0) (same_place f.0.path f.0.offset g.path g.offset) f.2 in
          let past : Contains (holdings u.past) f.0 = subst (λ t. Contains (holdings t) f.0) (sym all.stand.1) (subst (λ hs. Contains hs f.0) (held_before y unended ungranted) f.1) in
          any_of (λ (h : Grant). is_orphan h && same_place h.path h.offset g.path g.offset) (holdings (seen u)) f.0 f.2
          (Contains-append_left (filter (λ h. not (is_ended_by u.effects.ends h)) (holdings u.past)) u.effects.grants f.0
          (kept (λ h. not (is_ended_by u.effects.ends h)) (holdings u.past) f.0 (ap (λ b. not b) (stays f.0 a.0)) past))
      by g there of persistent false is =
          let leaves : leaves_orphan (holdings (seen y)) p g ≡ true =
          ap (λ b. (b && g.persistent) && not (has_orphan_of (holdings (seen y)) g)) of ∙ (ap (λ b. b && not (has_orphan_of (holdings (seen y)) g)) persistent ∙ ap (λ b. not b) is) in
          any_of (λ (h : Grant). is_orphan h && same_place h.path h.offset g.path g.offset) (holdings (seen u)) (orphan_of g)
          (ap (λ b. b && same_place g.path g.offset g.path g.offset) (number_itself no_process) ∙ one_place g.path g.offset)
          (Contains-append_right (filter (λ h. not (is_ended_by u.effects.ends h)) (holdings u.past)) u.effects.grants (orphan_of g) (left_there y p g there leaves))

-- ---- the whole

told_exit : (z : Step) (n : ℕ) (w : Answer) → z.input ≡ Told n w → ExitsSoFar z
told_exit z n w is = no_exit z (Told n w) is refl

pub exits_are_lawful : ExitsAreLawful
unfolding after_value_read
exits_are_lawful =
    record {
      kills = λ x s has due k.
          let a = signalled_alike x Kill s in
          going x (signal_holders Kill s x) (stands x (signal_holders Kill s x) (signalled (λ z. StandsAt x z) (stand_effects x) x Kill s (refl, refl, refl)) a.ends a.grants) k.1;
      times_out = λ x j m wake bare runs waits late k. no_exit (refuse j (IoTimeout m.call.number m.reading x.reading) x) Wake ((refused_alike x x j (IoTimeout m.call.number m.reading x.reading) (same x)).input ∙ wake) refl;
      hears = λ x number answer wake bare expected k. told_exit (with_input (Told number answer) x) number answer refl;
      counts = λ x text wake bare k. no_exit (with_input (Number text) x) (Number text) refl refl;
      exits = λ x p wake bare one k. exit_leaves (with_input (Exit p) x) p one refl (k.0.1.waking wake).0 (k.0.1.waking wake).1;
      exits_as_none = λ x p wake bare none k.
          let never : (g : Grant) → is_orphan g ≡ false → Exit p ≡ Exit g.process → ⊥ = λ g own exits. not_both (g.process == no_process) (subst (λ n. (n == no_process) ≡ true) (some_value p g.process (ap (λ i. exit_of i) exits)) none) own in
          record { ends = λ g held own exits. absurd (never g own exits); kept = λ g held own exits persistent. absurd (never g own exits) };
      starts = λ x p ok wake bare expected k. no_exit (with_input (Spawned p ok) x) (Spawned p ok) refl refl;
      fails_to_start = λ x p input k.
          no_exit (when_running (job_of_start (seen x) p) SpawnFault (end_holdings p x)) (Spawned p false)
          (said_input (Spawned p false) (end_holdings p x) (job_of_start (seen x) p) SpawnFault (ended (λ z. z.input ≡ Spawned p false) (input_effects (Spawned p false)) x p input)) refl;
      signals_instead = λ x p q input stood k. no_exit (add_signal q Term x) (Spawned p false) input refl;
      says_started = λ x p j input is runs k. no_exit (add_reply j (started_reply (seen x) p) x) (Spawned p true) input refl;
      misreads = λ x text column wake bare says k. no_exit (answer_line text (next_job x.setting (seen x)) (Misread column) x) (Line text) refl refl;
      answers = λ x text c r wake bare says is k. no_exit (answer_line text (next_job x.setting (seen x)) r x) (Line text) refl refl;
      carries = λ x text c d wake bare says is more k.
          no_exit (carry_decision (next_job x.setting (seen x)) c d (with_input (Line text) x)) (Line text)
          (carried x text (next_job x.setting (seen x)) c d (subst (λ z. Of (Has (with_input (Line text) x)) z) is (line_has x text c bare))) refl;
      joins_on = λ x s j step m answer hears is runs k. told_exit (carry_delta s (next_in_joining (delta_of_session x.setting s) (generation_of (seen x) s) (calls_of (seen x) s) x.reading m step answer) x) hears.number answer ((told_acts hears.number answer).joins_on x s j step m answer hears is runs hears.heard);
      ends_joining = λ x s j step m answer hears is stops k. told_exit (remove_of_refused s x) hears.number answer ((told_acts hears.number answer).ends_joining x s j step m answer hears is stops hears.heard);
      renewed = λ x s m answer hears is k. told_exit (carry_delta s (next_after_renewal (is_some (recovery_of x.setting (seen x) s)) m.reading answer) x) hears.number answer ((told_acts hears.number answer).renewed x s m answer hears is hears.heard);
      freed = λ x s j m answer hears is k. told_exit (carry_delta s (next_after_free j m.call.number answer) x) hears.number answer ((told_acts hears.number answer).freed x s j m answer hears is hears.heard);
      shown = λ x s m bytes hears is joined begins k. told_exit (signal_and_refuse s None x) hears.number (Read bytes) ((told_acts hears.number (Read bytes)).shown x s m bytes hears is joined begins hears.heard);
      sees = λ x s number bytes at g has input held k. told_exit (see_request s g x) number (Read bytes) ((told_acts number (Read bytes)).sees x s number bytes at g has input held input);
      leads_on = λ x s work step m answer aim hears is on at k. told_exit (carry_lease s (spot_of_call x.setting.layout m) work (next_of_lease x.setting (seen x) s (spot_of_call x.setting.layout m) aim m step answer) x) hears.number answer ((told_acts hears.number answer).leads_on x s work step m answer aim hears is on at hears.heard);
      fails = λ x s m j hears lone runs k. told_exit (add_reply j (IoFault m.call.number) x) hears.number Failed ((told_acts hears.number Failed).fails x s m j hears lone runs hears.heard);
      has_asked = λ x s m j owner hears is runs k. told_exit (add_reply j Done x) hears.number Written ((told_acts hears.number Written).has_asked x s m j owner hears is runs hears.heard);
      has_set = λ x s m j hears is runs k. told_exit (add_reply j (set_reply m) x) hears.number Written ((told_acts hears.number Written).has_set x s m j hears is runs hears.heard);
      asks = λ x s m j bytes c hears is runs at k. told_exit (after_request_read s j bytes c x) hears.number (Read bytes) ((told_acts hears.number (Read bytes)).asks x s m j bytes c hears is runs at hears.heard);
      tells = λ x s m j bytes hears is runs k. told_exit (after_value_read j bytes x) hears.number (Read bytes) ((told_acts hears.number (Read bytes)).tells x s m j bytes hears is runs hears.heard);
      warns = λ x s m bytes g signal hears is held own says k. told_exit (send g.process signal x) hears.number (Read bytes) ((told_acts hears.number (Read bytes)).warns x s m bytes g signal hears is held own says hears.heard);
      joins_in_time = λ x s j has wake is runs k.
          let n : DeltaNext = next_on_wake (delta_of_session x.setting s) x.reading (calls_of (seen x) s) in
          no_exit (carry_delta s n x) Wake (delta (λ z. z.input ≡ Wake) (input_effects Wake) x s has n wake) refl;
      renews = λ x s has wake joined k.
          let n : DeltaNext = next_renewal (delta_of_session x.setting s) x.reading (delta_known x.setting (seen x) s) (bits_due x.setting (calls_of (seen x) s) x.reading) in
          no_exit (carry_delta s n x) Wake (delta (λ z. z.input ≡ Wake) (input_effects Wake) x s has n wake) refl;
      settles = λ x s at has wake active aligned none k.
          no_exit (carry_lease s at Settling (next_of_settling x.setting (seen x) s at) x) Wake
          (lease (λ z. z.input ≡ Wake) (input_effects Wake) x s has at Settling (next_of_settling x.setting (seen x) s at) wake) refl;
      parts = λ x s has joined recovers free quiet k.
          let a = removal_alike x x s.lockspace (same x) in
          going x (remove_connection s.lockspace x) (stands x (remove_connection s.lockspace x) (removal (λ z. StandsAt x z) (stand_effects x) x s.lockspace (refl, refl, refl)) a.ends a.grants) k.1;
      frees = λ x s has joined well free quiet k.
          let n : DeltaNext = next_free (delta_of_session x.setting s) x.reading (delta_known x.setting (seen x) s) in
          let a = delta_ungranting x s n in
          going x (carry_delta s n x) (stands x (carry_delta s n x) (delta (λ z. StandsAt x z) (stand_effects x) x s has n (refl, refl, refl)) a.ends a.grants) k.1;
    }

pub exits_begin : ExitsBegin
unfolding begin_recoveries begin_recovery
exits_begin st past e follows whole =
    no_exit (begin_recoveries (begin_step st past e.reading)) Wake
    (for_each_keeps (λ z. z.input ≡ Wake) (present_sessions st (seen (begin_step st past e.reading))) begin_recovery (begin_step st past e.reading)
    (λ s there y h. when_keeps (λ z. z.input ≡ Wake) (begins_now (seen y) (recovery_of y.setting (seen y) s)) (signal_and_refuse s None) y (λ begins k. stopped (λ z. z.input ≡ Wake) (input_effects Wake) y s None k) h) refl) refl
