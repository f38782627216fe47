-- A session that is over at the front of a step submitted its writes before the step.
use Rattle.sl_run_law.specs.Course.CallStamps.{IsCourseOf, IsStamped, stamp_in}
use Rattle.sl_run_law.proofs.Course.EntriesAreStamped.{entries_are_stamped}
use Rattle.sl_run_law.proofs.Front.RunsFromFronts.{fronts_are_lawful, run_after}
use Rattle.sl_id_safety.proofs.OverIsQuiet.{GoesOn, calls_stay, goes_on, over_are_silent, stamp_before}
use Rattle.sl_id_safety.proofs.State.Tails.{IsLater}
use Rattle.sl_id_safety.specs.State.IdStates.{own_courses}
use Rattle.sl_run_law.proofs.Moment.MachinesInOrder.{entries_ordered}
use Rattle.sl_run_law.proofs.Place.FoundInLists.{partner, partner_of}
use Rattle.sl_run_law.proofs.Place.Looks.{made_below}
use Rattle.sl_words.proofs.Lists.{contains_first, kept_inside}
use Rattle.sl_safety.proofs.Resources.StepsNameEntries.{fall_apart}
use Rattle.sl_run.specs.Runs.{Happening}
use Rattle.sl_run.specs.Safety.{Found, HasJoined, IsSession, LawfulRun, SessionId, is_over, trace_of, world_at}
use Rattle.sl_run.specs.Worlds.{Course, Program, Stamp, World, is_write_course, world_with}
use Rattle.sl_run.specs.declared.header.Header.{Header}
use Rattle.sl_safety.proofs.Sessions.OrderedFronts.{Ended, Ends, Nothing, ended, some_steps}
use Rattle.sl_safety.proofs.Sessions.OrderedOver.{over_none_new}
use Rattle.sl_safety.proofs.Sessions.OrderedTraces.{same_length}
use Rattle.sl_trace.specs.Sessions.{calls_of, is_call_of, is_free_purpose}
use Rattle.sl_trace.specs.Traces.{is_write, submitted}
use Rattle.sl_trace.specs.declared.effects.Call.{Call}
use Rattle.sl_run_law.proofs.Watchdog.Stamps.{stamp_there}
use Rattle.sl_words.proofs.CaseLaws.{one_value}
use Rattle.std.proofs.Common.{ap, arith, refl, subst, sym, ◌∙◌}
use Rattle.std.specs.Prelude.{Contains, List, [], false, length, true, ℕ, ◌++◌, ◌+◌, ◌<◌, ◌∷◌, ◌≡◌, ◌≤◌}

-- No call is of step 0.
made_above : (p : Program) (h : Header) (xs : List Happening) → LawfulRun p h xs → (i : SessionId) (f g : Found) (now rest : List Happening) (on : GoesOn p h now rest i f g)
    → xs ≡ now ++ rest → (c : Course) → Contains (own_courses i g.machine) c → 0 < c.made.step
made_above p h xs run i f g now rest on whole c has =
    let m = partner (IsCourseOf g.daemon) (own_courses i g.machine) (calls_of (trace_of g) g.session) c on.after.pairs has in
    let there = stamp_there g.daemon.stamps m.0.at c.made m.2.made in
    let ordered = entries_ordered p h (now ++ rest) (subst (λ ys. LawfulRun p h ys) whole run) i.machine g.machine g.daemon on.after.there.at on.after.there.has in
    let later = fall_apart (world_at p h (now ++ rest)).step g.daemon.stamps (g.daemon.begun ∷ []) c.made g.daemon.begun ordered there (contains_first g.daemon.begun []) in
    omega (arith, later)

first_none : (s : ℕ) → s < 1 → 0 < s → ⊥
first_none s p q = omega (arith, p, q)

before_step : (c f w t : ℕ) → c < f → f < w → w ≤ t + 1 → c < t
before_step c f w t p q r = omega (arith, p, q, r)

pub over_wrote_before : (p : Program) (h : Header) (now rest : List Happening) → LawfulRun p h (now ++ rest) → (i : SessionId) (f g : Found) → IsSession (world_at p h now) i f
    → IsSession (world_at p h (now ++ rest)) i g → HasJoined f → is_over i f ≡ true → (c : Course) → Contains (own_courses i g.machine) c → is_write_course c ≡ true
    → is_free_purpose c.call.purpose ≡ false → (t : ℕ) → (world_at p h now).step ≤ t + 1 → c.made.step < t
over_wrote_before p h now rest run i f g its also joined over c has writes other t le = by (goes_on p h now rest run i f g its also) (ended now) where
  by : GoesOn p h now rest i f g → Ended now → c.made.step < t
  by on (Nothing none) =
      let lt = over_are_silent p h now rest run i f g its also joined over c has in
      let first : (world_at p h now).step ≡ 1 = ap (λ ys. (world_at p h ys).step) none in
      absurd (first_none c.made.step (subst (λ n. c.made.step < n) first lt) (made_above p h (now ++ rest) run i f g now rest on refl c has))
  by on (Ends front x is) =
      let m = partner (IsCourseOf g.daemon) (own_courses i g.machine) (calls_of (trace_of g) g.session) c on.after.pairs has in
      let n = partner IsLater (calls_of (trace_of g) g.session) (calls_of (trace_of f) f.session) m.0 (calls_stay p h now rest run i f g on joined over) m.1 in
      let d = partner_of (IsCourseOf f.daemon) (own_courses i f.machine) (calls_of (trace_of f) f.session) n.0 on.before.pairs n.1 in
      let call : d.0.call ≡ c.call = sym d.2.call ∙ sym n.2.same.call ∙ m.2.call in
      let here : LawfulRun p h now = fronts_are_lawful p h now rest run in
      let stamped : IsStamped f.daemon = entries_are_stamped p h now here i.machine f.machine f.daemon on.before.there.at on.before.there.has in
      let below = made_below (trace_of f) n.0 (kept_inside (is_call_of f.session) (submitted (trace_of f)) n.0 n.1).0 in
      let long : n.0.at < length f.daemon.stamps = subst (λ k. n.0.at < k) (sym (same_length f.daemon.stamps (trace_of f) stamped)) below in
      let made : d.0.made ≡ c.made =
      one_value d.0.made c.made (stamp_in f.daemon.stamps n.0.at) d.2.made
      (sym (stamp_before on.stamps f.daemon.stamps n.0.at long) ∙ ap (λ ss. stamp_in ss n.0.at) (sym on.stamped) ∙ ap (stamp_in g.daemon.stamps) (sym n.2.same.at) ∙ m.2.made) in
      let lt = over_none_new p h front x (subst (λ ys. LawfulRun p h ys) is here) i f (subst (λ ys. IsSession (world_at p h ys) i f) is its) over d.0 d.1
      (ap (λ (y : Call). is_write y.op) call ∙ writes) (ap (λ (y : Call). is_free_purpose y.purpose) call ∙ other) in
      let more : (world_at p h front).step < (world_at p h now).step =
      subst (λ (v : World). (world_at p h front).step < v.step) (sym (ap (world_at p h) is ∙ run_after (world_with p h) front (x ∷ []))) (some_steps (world_at p h front) x []) in
      before_step c.made.step (world_at p h front).step (world_at p h now).step t (subst (λ (s : Stamp). s.step < (world_at p h front).step) made lt) more le
