-- What an event does to the daemons of a machine: each was there, or has an entry of the event's second step, or has just begun.
use Rattle.sl_run_law.proofs.Course.Daemons.{all_ended, daemons_are, entry_of, step_daemon, step_ended}
use Rattle.sl_run_law.proofs.Course.MachinesKeep.{Goes_on}
use Rattle.sl_run_law.proofs.Course.MachineTurns.{Alone, Began, Called, Came_up, Clocked, Crashed, Elsewhere, Stays, Stepped, Tested, Took, Turned, Went_down}
use Rattle.sl_words.proofs.Lists.{contains_cases, contains_more}
use Rattle.sl_run.specs.EventChanges.{first_change, next_step}
use Rattle.sl_run.specs.Runs.{Happening}
use Rattle.sl_run.specs.Safety.{world_at}
use Rattle.sl_run.specs.Worlds.{Daemon, Machine, Program, Stamp, World, daemons_on, new_daemon, next_numbers, setting_of, stamp_now}
use Rattle.sl_run.specs.declared.event.Event.{Event}
use Rattle.sl_run.specs.declared.header.Header.{Header}
use Rattle.sl_run_law.proofs.WorldsGoOn.{first_goes}
use Rattle.sl_run_law.specs.DaemonsGoOn.{IsSettled}
use Rattle.sl_trace.specs.Traces.{Trace}
use Rattle.sl_trace.specs.declared.effects.Effects.{Effects}
use Rattle.sl_trace.specs.declared.effects.Entry.{Entry}
use Rattle.std.proofs.Common.{ap, arith, inl, inr, refl, subst, sym, ◌∙◌}
use Rattle.std.specs.Prelude.{Contains, List, None, Option, Some, [], length, option_map, ℕ, ◌+◌, ◌∷◌, ◌≡◌, ◌⊎◌}

-- A daemon after an event: it was there, has an entry more, stamped at the event's second step, or is without entries and sessions.
pub data Came (w : World) (ds : List Daemon) (d : Daemon) : Type 0 where
  Unchanged : Contains ds d → Came w ds d
  Entered : (e : Entry) (past : Trace) (s : Stamp) (ss : List Stamp) → d.trace ≡ e ∷ past → d.stamps ≡ s ∷ ss → s.step ≡ w.step + 1 → Came w ds d
  Blank : d.trace ≡ [] → d.setting.given ≡ [] → Came w ds d

abbrev IsBlank : Daemon → Type 0
IsBlank d = (d.trace ≡ []) × (d.setting.given ≡ [])

as_before : (ds bs : List Daemon) (d : Daemon) → bs ≡ ds → Contains bs d → Contains ds d ⊎ IsBlank d
as_before ds bs d same has = inl (subst (λ ys. Contains ys d) same has)

turned_back : (w : World) (e : Event) (m : ℕ) (a b : Machine) (d : Daemon) → IsSettled a → Turned w e m a b → Contains (daemons_on b) d → Contains (daemons_on a) d ⊎ IsBlank d
turned_back w e m a b d s (Stays is) has = as_before (daemons_on a) (daemons_on b) d (ap daemons_on is) has
turned_back w e m a b d s (Clocked n is) has = as_before (daemons_on a) (daemons_on b) d (ap daemons_on is) has
turned_back w e m a b d s (Called n f g h k is) has = as_before (daemons_on a) (daemons_on b) d (ap daemons_on is) has
turned_back w e m a b d s (Tested t is) has = as_before (daemons_on a) (daemons_on b) d (ap daemons_on is) has
turned_back w e m a b d s (Crashed event is) has = as_before (daemons_on a) (daemons_on b) d (ap daemons_on is) has
turned_back w e m a b d s (Went_down event up is) has = as_before (daemons_on a) (daemons_on b) d (ap daemons_on is) has
turned_back w e m a b d s (Came_up event down is) has = as_before (daemons_on a) (daemons_on b) d (ap daemons_on is) has
turned_back w e m a b d s (Began name event up used fresh is) has =
    let new : Daemon = new_daemon (length (daemons_on a)) (setting_of w.program w.layout w.header m name (next_numbers a) []) (stamp_now w a) in
    elim (contains_cases new (daemons_on a) d (subst (λ ds. Contains ds d) (ap daemons_on is ∙ ap (λ ds. new ∷ ds) (all_ended a (s.unused used))) has)) as (λ z. Contains (daemons_on a) d ⊎ IsBlank d) [
      | inl here ↦ inr (ap (λ (y : Daemon). y.trace) (sym here), ap (λ (y : Daemon). y.setting.given) (sym here))
      | inr old ↦ inl old
    ]

-- The step of the event: an entry of the daemon that runs, or nothing.
record NewEntry (now : Stamp) (d : Daemon) : Type 0 where
  entry : Entry
  past : Trace
  older : List Stamp
  trace : d.trace ≡ entry ∷ past
  stamps : d.stamps ≡ now ∷ older

entered_by : (b c : Machine) (e : Entry) (now : Stamp) (d : Daemon) (o : Option Daemon) → b.daemon ≡ o → c.daemon ≡ option_map (λ (y : Daemon). record y { trace = e ∷ y.trace; stamps = now ∷ y.stamps }) o
    → c.ended ≡ b.ended → Contains (daemons_on c) d → Contains (daemons_on b) d ⊎ NewEntry now d
entered_by b c e now d None was is ended has = inl (subst (λ ds. Contains ds d) (sym (all_ended c is) ∙ ended ∙ all_ended b was) has)
entered_by b c e now d (Some y) was is ended has =
    let more : Daemon = record y { trace = e ∷ y.trace; stamps = now ∷ y.stamps } in
    elim (contains_cases more b.ended d (subst (λ ds. Contains ds d) (daemons_are c more is ∙ ap (λ ds. more ∷ ds) ended) has)) as (λ z. Contains (daemons_on b) d ⊎ NewEntry now d) [
      | inl here ↦ inr (record { entry = e; past = y.trace; older = y.stamps; trace = ap (λ (x : Daemon). x.trace) (sym here); stamps = ap (λ (x : Daemon). x.stamps) (sym here) })
      | inr old ↦ inl (subst (λ ds. Contains ds d) (sym (daemons_are b y was)) (contains_more y b.ended d old))
    ]

stepped_back : (w : World) (e : Event) (fx : Effects) (m : ℕ) (b c : Machine) (d : Daemon) → Stepped w e fx m b c → Contains (daemons_on c) d
    → Contains (daemons_on b) d ⊎ NewEntry (stamp_now (next_step (first_change e w)) b) d
stepped_back w e fx m b c d (Elsewhere is) has = inl (subst (λ ds. Contains ds d) (ap daemons_on is) has)
stepped_back w e fx m b c d (Alone none same is) has = inl (subst (λ ds. Contains ds d) (ap daemons_on is) has)
stepped_back w e fx m b c d (Took i given same is) has =
    let now : Stamp = stamp_now (next_step (first_change e w)) b in
    entered_by b c (entry_of i fx b) now d b.daemon refl (ap (λ (x : Machine). x.daemon) is ∙ step_daemon now i fx b) (ap (λ (x : Machine). x.ended) is ∙ step_ended now i fx b) has

none_more : (n : ℕ) → n + 0 ≡ n
none_more n = omega arith

pub came : (p : Program) (h : Header) (now : List Happening) (x : Happening) (m : ℕ) (a c : Machine) (d : Daemon) → Goes_on p h now x m a c → Contains (daemons_on c) d
    → Came (world_at p h now) (daemons_on a) d
came p h now x m a c d g has = by (stepped_back (world_at p h now) x.0 g.effects m g.becomes.middle c d g.becomes.stepped has) where
  before : Contains (daemons_on a) d ⊎ IsBlank d → Came (world_at p h now) (daemons_on a) d
  before (inl old) = Unchanged old
  before (inr blank) = Blank blank.0 blank.1

  by : Contains (daemons_on g.becomes.middle) d ⊎ NewEntry (stamp_now (next_step (first_change x.0 (world_at p h now))) g.becomes.middle) d → Came (world_at p h now) (daemons_on a) d
  by (inl old) = before (turned_back (world_at p h now) x.0 m a g.becomes.middle d g.settled g.becomes.turned old)
  by (inr new) =
      let w : World = world_at p h now in
      Entered new.entry new.past (stamp_now (next_step (first_change x.0 w)) g.becomes.middle) new.older new.trace new.stamps
      (ap (λ n. n + 1) ((first_goes x.0 w).step ∙ none_more w.step))
