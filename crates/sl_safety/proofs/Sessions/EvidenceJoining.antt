-- A session isn't over where it joins: the entry by which it joins doesn't remove it, its daemon runs, and a free that it may have written
-- in the entry is in flight.
use Rattle.sl_run_law.proofs.Course.Daemons.{all_ended, daemons_are, entry_of, step_daemon, step_ended}
use Rattle.sl_run_law.proofs.Course.CallsAreDistinct.{each_distinct}
use Rattle.sl_run_law.proofs.Course.MachinesKeep.{Goes_on, was_before}
use Rattle.sl_run_law.proofs.Course.MachinesMirror.{machines_mirror}
use Rattle.sl_run_law.proofs.Course.MachineTurns.{Alone, Elsewhere, Stepped, Took}
use Rattle.sl_run_law.specs.Course.CallStamps.{IsCourseOf, stamp_in}
use Rattle.sl_run_law.proofs.Front.JoinedLists.{contains_append}
use Rattle.sl_id_safety.proofs.OverIsQuiet.{not_reset, over_cases}
use Rattle.sl_id_safety.proofs.State.TraceBridge.{IsKnown, known}
use Rattle.sl_id_safety.proofs.State.CallLaws.{lawful_call}
use Rattle.sl_id_safety.proofs.State.PairedLists.{stands, tail_at}
use Rattle.sl_id_safety.proofs.State.SessionFacts.{grounds}
use Rattle.sl_id_safety.proofs.State.Tails.{AreMade, IsMadeAfter, all_made, front_at}
use Rattle.sl_id_safety.specs.State.IdStates.{own_courses}
use Rattle.sl_run_law.proofs.Landing.CallLists.{one_call}
use Rattle.sl_run.specs.Lawful.{Orderly}
use Rattle.sl_run_law.proofs.Place.Daemons.{daemons_are_fine, stamp_order}
use Rattle.sl_run_law.proofs.Place.FoundInLists.{partner_of}
use Rattle.sl_run_law.proofs.Place.Looks.{stands as standing_joined}
use Rattle.sl_words.proofs.Lists.{any_found, contains_cases, contains_more, find_inside, kept_inside}
use Rattle.sl_run.specs.EventChanges.{first_change, next_step, with_entry}
use Rattle.sl_run.specs.Runs.{Happening}
use Rattle.sl_run.specs.Safety.{Found, IsSession, LawfulRun, SessionId, free_landed, has_write_in_flight, is_course_of, is_over, setting_in, trace_of, was_reset, world_at}
use Rattle.sl_run.specs.Worlds.{Course, Daemon, Machine, Program, Stamp, daemons_on, is_landed, stamp_now}
use Rattle.sl_run.specs.declared.header.Header.{Header}
use Rattle.sl_safety.proofs.Sessions.OrderedDaemons.{Came, turned_come}
use Rattle.sl_safety.proofs.Sessions.OrderedOnce.{stamp_past}
use Rattle.sl_safety.proofs.Sessions.OrderedOver.{IsNew, free_stands, new_flies}
use Rattle.sl_safety.proofs.Sessions.OrderedTraces.{joined_within, joins_kept}
use Rattle.sl_run_law.proofs.Sessions.MarksStay.{marks_stay}
use Rattle.sl_run_law.specs.Sessions.SessionLaws.{IsSession as IsSessionOf}
use Rattle.sl_trace.specs.Sessions.{calls_of, ended_after, free_write, is_free_purpose, joined_after, refused_after, removed_after}
use Rattle.sl_trace.specs.declared.session.Session.{Session}
use Rattle.sl_trace.specs.Traces.{Setting, Submitted, Trace}
use Rattle.sl_trace.specs.declared.effects.Call.{Call}
use Rattle.sl_trace.specs.declared.effects.Entry.{Entry}
use Rattle.sl_run_law.proofs.Watchdog.Stamps.{stamp_there}
use Rattle.sl_words.proofs.CaseLaws.{one_value, true_is_false}
use Rattle.sl_words.proofs.WordLaws.{and_true, some_is_true}
use Rattle.std.proofs.Common.{ap, arith, inl, inr, refl, subst, sym, ◌∙◌}
use Rattle.std.proofs.lemmas.Bool.{eq-eqb, eqb-true}
use Rattle.std.specs.List.{list_any}
use Rattle.std.specs.Prelude.{Contains, List, None, Option, Some, [], false, is_some, length, option_map, suc, true, ℕ, ◌&&◌, ◌++◌, ◌<◌, ◌==◌, ◌∷◌, ◌≡◌, ◌≤◌, ◌⊎◌}

-- ---- a daemon that took an entry in the last event runs

not_new : (s w : ℕ) → s < w → w ≤ s → ⊥
not_new s w p q = omega (arith, p, q)

old_middle : (p : Program) (h : Header) (now : List Happening) (x : Happening) (m : ℕ) (a c : Machine) (g : Goes_on p h now x m a c) (d : Daemon) → Contains (daemons_on g.becomes.middle) d
    → (s : Stamp) → Contains d.stamps s → (world_at p h now).step ≤ s.step → ⊥
old_middle p h now x m a c g d has s there le =
    by (turned_come (λ z. ⊥) (world_at p h now) x.0 m a g.becomes.middle g.settled g.becomes.turned d has)
  where
    by : Came (λ z. ⊥) (daemons_on a) d → ⊥
    by (inr b) = b.later s there
    by (inl f) =
        elim (contains_append f.stamps f.daemon.stamps s (subst (λ ss. Contains ss s) f.stamped there)) as (λ z. ⊥) [
          | inl new ↦ f.later s new
          | inr old ↦ not_new s.step (world_at p h now).step
              (stamp_past p h now g.before m s (record { machine = a; at = g.at; daemon = f.daemon; has = f.has; stamp = old })) le
        ]

entered_runs : (b c : Machine) (e : Entry) (t : Stamp) (o : Option Daemon) → b.daemon ≡ o → c.daemon ≡ option_map (with_entry e t) o → c.ended ≡ b.ended → (d : Daemon)
    → Contains (daemons_on c) d → (Contains (daemons_on b) d → ⊥) → c.daemon ≡ Some d
entered_runs b c e t None was is ended d has never =
    absurd (never (subst (λ ds. Contains ds d) (sym (all_ended c is) ∙ ended ∙ all_ended b was) has))
entered_runs b c e t (Some y) was is ended d has never =
    elim (contains_cases (with_entry e t y) b.ended d (subst (λ ds. Contains ds d) (daemons_are c (with_entry e t y) is ∙ ap (λ ds. with_entry e t y ∷ ds) ended) has)) as (λ z. c.daemon ≡ Some d) [
      | inl here ↦ is ∙ ap (λ z. Some z) here
      | inr old ↦ absurd (never (subst (λ ds. Contains ds d) (sym (daemons_are b y was)) (contains_more y b.ended d old)))
    ]

runs_if_new : (p : Program) (h : Header) (now : List Happening) (x : Happening) (m : ℕ) (a c : Machine) (g : Goes_on p h now x m a c) (d : Daemon) → Contains (daemons_on c) d
    → (s : Stamp) → Contains d.stamps s → (world_at p h now).step ≤ s.step → c.daemon ≡ Some d
runs_if_new p h now x m a c g d has s there le = by (λ old. old_middle p h now x m a c g d old s there le) g.becomes.stepped where
  by : (Contains (daemons_on g.becomes.middle) d → ⊥) → Stepped (world_at p h now) x.0 g.effects m g.becomes.middle c → c.daemon ≡ Some d
  by never (Elsewhere is) = absurd (never (subst (λ ds. Contains ds d) (ap daemons_on is) has))
  by never (Alone none same is) = absurd (never (subst (λ ds. Contains ds d) (ap daemons_on is) has))
  by never (Took i input same is) =
      let b : Machine = g.becomes.middle in
      let t : Stamp = stamp_now (next_step (first_change x.0 (world_at p h now))) b in
      entered_runs b c (entry_of i g.effects b) t b.daemon refl (ap (λ (y : Machine). y.daemon) is ∙ step_daemon t i g.effects b)
      (ap (λ (y : Machine). y.ended) is ∙ step_ended t i g.effects b) d has never

-- ---- a free is written where the session has joined

freed_where : (st : Setting) (es : Trace) (s : Session) → Orderly st es → IsSessionOf st es s → (m : Submitted) → free_write (calls_of es s) ≡ Some m
    → Contains (calls_of es s) m × ((k : ℕ) × (joined_after es s ≡ Some k) × (k ≤ suc m.at))
freed_where st es s h its m is =
    let found = find_inside (λ (y : Submitted). is_free_purpose y.call.purpose) (calls_of es s) m is in
    let at = stands (calls_of es s) m found.0 in
    let d : IsMadeAfter es s m at.older = tail_at (IsMadeAfter es s) at.newer m at.older (subst (λ ms. AreMade es s ms) at.whole (all_made es s)) in
    let k = standing_joined (front_at d) s (free_stands st (front_at d) s _ m.call.purpose (lawful_call st es s m at.older d h its).law found.1) in
    let le : k.0 ≤ suc (length d.past) = joined_within (d.entry ∷ d.past) s k.0 k.1 in
    let place = d.place in
    (found.0, (k.0, ap (λ us. joined_after us s) d.whole ∙ marks_stay.joined d.later (d.entry ∷ d.past) s k.0 k.1, omega (arith, le, place)))

-- ---- not over where it joins

newest_kept : (es : Trace) (s : Session) (q : ℕ) → length es ≡ suc q → joined_after es s ≡ Some (suc q) → removed_after es s ≡ None
newest_kept [] s q long joined = absurd (omega (arith, long))
newest_kept (e ∷ past) s q long joined = joins_kept e past s (joined ∙ ap (λ n. Some n) (sym long))

abbrev ended_by : Option ℕ → Option ℕ → Option ℕ → Option ℕ
ended_by joined removed refused = elim joined [ Some k ↦ removed | None ↦ refused ]

flying_lands : (c : Course) → IsNew c → is_landed c.fate ≡ true → ⊥
flying_lands c new landed = true_is_false (sym landed ∙ ap is_landed new.fate)

pub not_over_joining : (p : Program) (h : Header) (now : List Happening) (x : Happening) → LawfulRun p h (now ++ x ∷ []) → (i : SessionId) (f : Found)
    → IsSession (world_at p h (now ++ x ∷ [])) i f → (q : ℕ) (s : Stamp) → joined_after (trace_of f) f.session ≡ Some (suc q) → length (trace_of f) ≡ suc q
    → stamp_in f.daemon.stamps q ≡ Some s → (world_at p h now).step ≤ s.step → is_over i f ≡ true → ⊥
not_over_joining p h now x run i f its q s joined long stamp le over =
    by (known grounds p h (now ++ x ∷ []) run i f its)
    (over_cases (free_landed i f) (is_some (ended_after (trace_of f) f.session)) (was_reset f) (has_write_in_flight i f.machine) over)
  where
    freed : IsKnown (world_at p h (now ++ x ∷ [])) i f → free_landed i f ≡ true → ⊥
    freed kn free =
        let m = some_is_true (λ (c : Submitted). list_any (λ (d : Course). is_course_of i d && d.call.number == c.call.number && is_landed d.fate) f.machine.calls)
        (free_write (calls_of (trace_of f) f.session)) free in
        let k = freed_where (setting_in f) (trace_of f) f.session kn.lawful kn.its m.0 m.1 in
        let d = any_found (λ (d : Course). is_course_of i d && d.call.number == m.0.call.number && is_landed d.fate) f.machine.calls m.2 in
        let both = and_true (is_course_of i d.0 && d.0.call.number == m.0.call.number) (is_landed d.0.fate) d.2 in
        let number = eqb-true d.0.call.number m.0.call.number (and_true (is_course_of i d.0) (d.0.call.number == m.0.call.number) both.0).1 in
        let c = partner_of (IsCourseOf f.daemon) (own_courses i f.machine) (calls_of (trace_of f) f.session) m.0 kn.pairs k.0 in
        let there = (kept_inside (is_course_of i) f.machine.calls c.0 c.1).0 in
        let same : d.0 ≡ c.0 =
        one_call f.machine.calls d.0 c.0 (each_distinct p h (now ++ x ∷ []) run i.machine f.machine kn.there.at) d.1 there
        (eq-eqb d.0.call.number c.0.call.number (number ∙ ap (λ (y : Call). y.number) c.2.call)) in
        let entries : k.1.0 ≡ suc q = one_value k.1.0 (suc q) (joined_after (trace_of f) f.session) k.1.1 joined in
        let bound = k.1.2 in
        let before : q ≤ m.0.at = omega (arith, entries, bound) in
        let ordered = stamp_order (world_at p h (now ++ x ∷ [])).step f.daemon.stamps q m.0.at s c.0.made
        (daemons_are_fine p h (now ++ x ∷ []) run i.machine f.machine f.daemon kn.there.at kn.there.has).stamps stamp c.2.made before in
        let new = new_flies p h now x run i.machine f.machine c.0 kn.there.at there (omega (arith, le, ordered)) in
        flying_lands c.0 new (ap (λ (y : Course). is_landed y.fate) (sym same) ∙ both.1)

    by : IsKnown (world_at p h (now ++ x ∷ [])) i f
        → (free_landed i f ≡ true) ⊎ ((is_some (ended_after (trace_of f) f.session) ≡ true) × (has_write_in_flight i f.machine ≡ false)) ⊎ (was_reset f ≡ true) → ⊥
    by kn (inl free) = freed kn free
    by kn (inr (inl ended)) =
        let none : ended_after (trace_of f) f.session ≡ None =
        ap (λ o. ended_by o (removed_after (trace_of f) f.session) (refused_after (trace_of f) f.session)) joined ∙ newest_kept (trace_of f) f.session q long joined in
        true_is_false (sym ended.0 ∙ ap (λ o. is_some o) none)
    by kn (inr (inr reset)) =
        let g = was_before p h now x run i.machine f.machine kn.there.at in
        let runs = runs_if_new p h now x i.machine g.0 f.machine g.1 f.daemon kn.there.has s (stamp_there f.daemon.stamps q s stamp) le in
        not_reset f (machines_mirror p h (now ++ x ∷ []) run i.machine f.machine kn.there.at) runs reset
