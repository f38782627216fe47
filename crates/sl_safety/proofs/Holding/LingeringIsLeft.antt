-- What lingers on a machine was held at a reset, by the daemon that the machine had then: it has ended, so its trace is as it was, and each
-- reset since it began came with that one or after it.
use Rattle.sl_area.specs.AreaSizes.{layout_with}
use Rattle.sl_run_law.proofs.Course.Daemons.{every_has, step_ended}
use Rattle.sl_run_law.proofs.Course.DaemonsOfWorld.{begun_before, last_goes}
use Rattle.sl_run_law.proofs.Course.MachinesKeep.{Goes_on, machines_keep}
use Rattle.sl_run_law.proofs.Course.MachinesMirror.{machines_mirror}
use Rattle.sl_run_law.proofs.Course.MachineTurns.{Alone, Began, Called, Came_up, Clocked, Crashed, Elsewhere, Stays, Stepped, Tested, Took, Turned, Went_down}
use Rattle.sl_run_law.proofs.Course.MirrorsTurn.{none_if}
use Rattle.sl_run_law.proofs.Course.ResetsBeforeNow.{step_resets}
use Rattle.sl_run_law.proofs.Front.JoinedLists.{contains_append}
use Rattle.sl_run_law.specs.Course.Mirrors.{Held_on, IsLeft, Mirrors, Orphaned, since_restart}
use Rattle.sl_run_law.specs.FatesStay.{Every}
use Rattle.sl_run.specs.EventChanges.{after_reset, after_step, first_change, next_step}
use Rattle.sl_run.specs.Runs.{Happening}
use Rattle.sl_run.specs.Safety.{world_at}
use Rattle.sl_run.specs.Worlds.{Daemon, Lingering, Machine, Program, Stamp, World, daemons_on, lingering_now, lingers, machine_of_header, resets_after, stamp_now, world_with}
use Rattle.sl_run.specs.declared.event.Event.{Event}
use Rattle.sl_run.specs.declared.header.Header.{Header}
use Rattle.sl_safety.specs.Holding.Holders.{LeftBy, LingeringIsLeft}
use Rattle.sl_trace.specs.Traces.{holdings, orphan_of}
use Rattle.sl_trace.specs.declared.effects.Effects.{Effects}
use Rattle.sl_trace.specs.declared.effects.Grant.{Grant}
use Rattle.sl_trace.specs.declared.input.Input.TheVariants.{Answer as Told, Exit, Line, Number, Spawned, Wake}
use Rattle.sl_trace.specs.declared.input.Input.{Input}
use Rattle.sl_words.proofs.Lists.{contains_cases, contains_first, contains_more, contains_none, got_inside, in_map, kept, kept_inside}
use Rattle.sl_words.proofs.Numbers.{equal_is_most, refl_le, trans_le}
use Rattle.sl_words.specs.Words.{first_of_list}
use Rattle.std.proofs.Common.{ap, arith, inl, inr, refl, subst, sym}
use Rattle.std.proofs.lemmas.Bool.{lt-ltb}
use Rattle.std.specs.Prelude.{Contains, List, None, Option, Some, filter, map, nat_lt, [], ℕ, ◌&&◌, ◌++◌, ◌+◌, ◌<◌, ◌∷◌, ◌≡◌, ◌≤◌, ◌⊎◌}

-- All that lingers on a machine is so.
abbrev AllLeft : World → Machine → Type 0
AllLeft w a = (l : Lingering) → Contains a.lingering l → LeftBy w a l

-- ---- the machine goes on

-- A machine with the same resets, whose ended daemons are still there.
record GoesOn (a b : Machine) : Type 0 where
  ended : (d : Daemon) → Contains a.ended d → Contains b.ended d
  resets : b.resets ≡ a.resets

left_later : (w : World) (a b : Machine) (l : Lingering) → GoesOn a b → LeftBy w a l → LeftBy w b l
left_later w a b l g r =
    let same : resets_after a r.daemon.begun.step ≡ resets_after b r.daemon.begun.step =
    sym (ap (λ (rs : List Stamp). resets_after (record a { resets = rs }) r.daemon.begun.step) g.resets) in
    record {
      daemon = r.daemon;
      ended = g.ended r.daemon r.ended;
      before = r.before;
      held = r.held;
      follows = r.follows;
      reset = r.reset;
      since = subst (λ (rs : List Stamp). Contains rs r.reset) same r.since;
      kept = r.kept;
      first = λ s there. r.first s (subst (λ (rs : List Stamp). Contains rs s) (sym same) there);
      past = r.past;
    }

all_later : (w : World) (a b : Machine) → GoesOn a b → b.lingering ≡ a.lingering → AllLeft w a → AllLeft w b
all_later w a b g same each l there = left_later w a b l g (each l (subst (λ (ls : List Lingering). Contains ls l) same there))

alike : (a b : Machine) → b.ended ≡ a.ended → b.resets ≡ a.resets → GoesOn a b
alike a b ended resets = record { ended = λ d there. subst (λ (ds : List Daemon). Contains ds d) (sym ended) there; resets = resets }

among_all : (a : Machine) (d : Daemon) → Contains a.ended d → Contains (daemons_on a) d
among_all a d there = by a.daemon where
  by : (o : Option Daemon) → Contains (daemons_on (record a { daemon = o })) d
  by None = there
  by (Some x) = contains_more x a.ended d there

-- ---- it goes down

-- What it holds, as it lingers from now on.
abbrev lingering_of : World → Grant → Lingering
lingering_of w g = record { held = g; reset = w.moment }

abbrev Since : ℕ → List Stamp → List Stamp
Since step rs = filter (λ (r : Stamp). nat_lt step r.step) rs

-- A reset since then, with one more: it is that, or was there.
new_or_old : (step : ℕ) (s : Stamp) (rs : List Stamp) (r : Stamp) → Contains (Since step (s ∷ rs)) r → (s ≡ r) ⊎ Contains (Since step rs) r
new_or_old step s rs r there =
    let q = kept_inside (λ (x : Stamp). nat_lt step x.step) (s ∷ rs) r there in
    elim (contains_cases s rs r q.0) as (λ z. (s ≡ r) ⊎ Contains (Since step rs) r) [
      | inl same ↦ inl same
      | inr old ↦ inr (kept (λ (x : Stamp). nat_lt step x.step) rs r q.1 old)
    ]

still_since : (step : ℕ) (s : Stamp) (rs : List Stamp) (r : Stamp) → Contains (Since step rs) r → Contains (Since step (s ∷ rs)) r
still_since step s rs r there =
    let q = kept_inside (λ (x : Stamp). nat_lt step x.step) rs r there in
    kept (λ (x : Stamp). nat_lt step x.step) (s ∷ rs) r q.1 (contains_more s rs r q.0)

-- What lingered of earlier resets.
old_left : (w : World) (a : Machine) (l : Lingering) → LeftBy w a l → LeftBy w (after_reset w a) l
old_left w a l r =
    record {
      daemon = r.daemon;
      ended = among_all a r.daemon r.ended;
      before = r.before;
      held = r.held;
      follows = r.follows;
      reset = r.reset;
      since = still_since r.daemon.begun.step (stamp_now w a) a.resets r.reset r.since;
      kept = r.kept;
      first = λ s there.
          elim (new_or_old r.daemon.begun.step (stamp_now w a) a.resets s there) as (λ z. l.reset ≤ s.moment) [
            | inl now ↦ subst (λ (x : Stamp). l.reset ≤ x.moment) now r.past
            | inr old ↦ r.first s old
          ];
      past = r.past;
    }

-- What it held now.
now_left : (w : World) (a : Machine) → Mirrors a → (d : Daemon) → since_restart a ≡ Some d → d.begun.step < w.step → (g before : Grant)
    → Contains (holdings d.trace) before → (g ≡ before) ⊎ (g ≡ orphan_of before) → LeftBy w (after_reset w a) (record { held = g; reset = w.moment })
now_left w a m d is begun g before held follows =
    let now : Stamp = stamp_now w a in
    record {
      daemon = d;
      ended = got_inside (daemons_on a) 0 d (none_if (a.up && a.used) (first_of_list (daemons_on a)) d is).1;
      before = before;
      held = held;
      follows = follows;
      reset = now;
      since = kept (λ (x : Stamp). nat_lt d.begun.step x.step) (now ∷ a.resets) now (lt-ltb d.begun.step w.step begun) (contains_first now a.resets);
      kept = refl;
      first = λ s there.
          elim (new_or_old d.begun.step now a.resets s there) as (λ z. w.moment ≤ s.moment) [
            | inl same ↦ equal_is_most w.moment s.moment (ap (λ (x : Stamp). x.moment) same)
            | inr old ↦ absurd (contains_none s (subst (λ (rs : List Stamp). Contains rs s) (m.kept d is) old))
          ];
      past = refl_le w.moment;
    }

held_left : (w : World) (a : Machine) → Mirrors a → Every (λ (d : Daemon). d.begun.step < w.step) (daemons_on a) → (g : Grant) → Contains a.holdings g
    → LeftBy w (after_reset w a) (record { held = g; reset = w.moment })
held_left w a m begun g has = by (since_restart a) refl where
  of_daemon : (d : Daemon) → since_restart a ≡ Some d → d.begun.step < w.step → IsLeft (holdings d.trace) a.holdings g
      → LeftBy w (after_reset w a) (record { held = g; reset = w.moment })
  of_daemon d is less (Held_on there) = now_left w a m d is less g g there (inl refl)
  of_daemon d is less (Orphaned x there persistent same gone) = now_left w a m d is less g x there (inr same)

  by : (o : Option Daemon) → since_restart a ≡ o → LeftBy w (after_reset w a) (record { held = g; reset = w.moment })
  by None is = absurd (contains_none g (subst (λ (gs : List Grant). Contains gs g) (m.none is).1 has))
  by (Some d) is =
      let there = got_inside (daemons_on a) 0 d (none_if (a.up && a.used) (first_of_list (daemons_on a)) d is).1 in
      of_daemon d is (every_has (λ (x : Daemon). x.begun.step < w.step) (daemons_on a) d begun there) (m.left d g is has)

down_left : (w : World) (a : Machine) → Mirrors a → Every (λ (d : Daemon). d.begun.step < w.step) (daemons_on a) → AllLeft w a → AllLeft w (after_reset w a)
down_left w a m begun each l there =
    elim (contains_append (map (lingering_of w) a.holdings) (lingering_now w a) l there) as (λ z. LeftBy w (after_reset w a) l) [
      | inl new ↦ let x = in_map (lingering_of w) a.holdings l new in subst (LeftBy w (after_reset w a)) x.2 (held_left w a m begun x.0 x.1)
      | inr old ↦ old_left w a l (each l (kept_inside (lingers w.header.timing.land w.moment) a.lingering l old).0)
    ]

-- ---- an event

turned_left : (w : World) (e : Event) (m : ℕ) (a b : Machine) → Mirrors a → Every (λ (d : Daemon). d.begun.step < w.step) (daemons_on a) → Turned w e m a b
    → AllLeft w a → AllLeft w b
turned_left w e m a b k begun (Stays is) h = subst (AllLeft w) (sym is) h
turned_left w e m a b k begun (Clocked n is) h = subst (AllLeft w) (sym is) (all_later w a _ (alike a _ refl refl) refl h)
turned_left w e m a b k begun (Called n f g flight keeps is) h = subst (AllLeft w) (sym is) (all_later w a _ (alike a _ refl refl) refl h)
turned_left w e m a b k begun (Tested t is) h = subst (AllLeft w) (sym is) (all_later w a _ (alike a _ refl refl) refl h)
turned_left w e m a b k begun (Began name event up used fresh is) h = subst (AllLeft w) (sym is) (all_later w a _ (alike a _ refl refl) refl h)
turned_left w e m a b k begun (Crashed event is) h = subst (AllLeft w) (sym is) (all_later w a _ (record { ended = among_all a; resets = refl }) refl h)
turned_left w e m a b k begun (Went_down event up is) h = subst (AllLeft w) (sym is) (down_left w a k begun h)
turned_left w e m a b k begun (Came_up event down is) h = subst (AllLeft w) (sym is) (all_later w a _ (alike a _ refl refl) refl h)

step_lingering : (now : Stamp) (i : Input) (fx : Effects) (a : Machine) → (after_step now i fx a).lingering ≡ a.lingering
step_lingering now (Line text) fx a = refl
step_lingering now (Number text) fx a = refl
step_lingering now (Told n answer) fx a = refl
step_lingering now Wake fx a = refl
step_lingering now (Exit p) fx a = refl
step_lingering now (Spawned p ok) fx a = refl

stepped_left : (w : World) (e : Event) (fx : Effects) (m : ℕ) (b c : Machine) → Stepped w e fx m b c → AllLeft w b → AllLeft w c
stepped_left w e fx m b c (Elsewhere is) h = subst (AllLeft w) (sym is) h
stepped_left w e fx m b c (Alone none same is) h = subst (AllLeft w) (sym is) (all_later w b _ (alike b _ refl refl) refl h)
stepped_left w e fx m b c (Took i has same is) h =
    let now : Stamp = stamp_now (next_step (first_change e w)) b in
    let d : Machine = after_step now i fx b in
    subst (AllLeft w) (sym is) (all_later w b d (alike b d (step_ended now i fx b) (step_resets now i fx b)) (step_lingering now i fx b) h)

-- ---- time

left_still : (w v : World) (a : Machine) (l : Lingering) → w.moment ≤ v.moment → LeftBy w a l → LeftBy v a l
left_still w v a l later r =
    record {
      daemon = r.daemon;
      ended = r.ended;
      before = r.before;
      held = r.held;
      follows = r.follows;
      reset = r.reset;
      since = r.since;
      kept = r.kept;
      first = r.first;
      past = trans_le l.reset w.moment v.moment r.past later;
    }

later_by : (m n k : ℕ) → n ≡ m + k → m ≤ n
later_by m n k is = omega (arith, is)

keeps : (p : Program) (h : Header) (now : List Happening) (x : Happening) (m : ℕ) (a c : Machine) → Goes_on p h now x m a c → AllLeft (world_at p h now) a
    → AllLeft (world_at p h (now ++ x ∷ [])) c
keeps p h now x m a c g was l there =
    let w : World = world_at p h now in
    let v : World = world_at p h (now ++ x ∷ []) in
    let b : Machine = g.becomes.middle in
    let turned : AllLeft w b = turned_left w x.0 m a b (machines_mirror p h now g.before m a g.at) (begun_before p h now g.before m a g.at) g.becomes.turned was in
    left_still w v c l (later_by w.moment v.moment _ (last_goes p h now x).moment) (stepped_left w x.0 g.effects m b c g.becomes.stepped turned l there)

first : (p : Program) (h : Header) (m : ℕ) → AllLeft (world_with p h) (machine_of_header p (layout_with p.digest h.geometry) h m)
unfolding machine_of_header
first p h m l there = absurd (contains_none l there)

pub lingering_is_left : LingeringIsLeft
lingering_is_left p h xs run m a at = machines_keep p h (λ w n. AllLeft w) (first p h) (keeps p h) xs run m a at
